-- A definition is found exactly where its tokens stand.
use Rattle.std.proofs.Common.{◌≡◌, ℕ, suc, ◌+◌, ◌*◌, ◌<◌, ◌≤◌, Bool, true, false, List, [], ◌∷◌, length, take, drop, nat_eq, Option, Some, None, refl, sym, ap, subst, ◌∙◌, arith, if◌then◌else◌, rules}
use Rattle.std.specs.Prelude.{not, ◌&&◌, option_and_then, option_map}
use Rattle.std.proofs.lemmas.Bool.{false≢true}
use Rattle.std.proofs.lemmas.Bool.Decides.{nat_tests}
use Rattle.std.proofs.lemmas.List.{length-drop}
use denote.Enum.Bare.{same_true}
use Rattle.pml_token.specs.contracts.token.Kind.{the_type}
use Rattle.pml_token.specs.declared.token.Kind.{Kind}
use Rattle.pml_token.specs.declared.token.Kind.TheVariants.{Name, OpenParen, CloseParen, OpenBrace, CloseBrace, Comma}
use Rattle.pml_token.specs.Word.{same_kind, Word}
use Rattle.promela_text.specs.Inlines.{is_name, has_inline, begins_as, closing, Inline, all_differ, names, parameter_names, listed, with_end, with_body, definition}
use Rattle.pml_inline.proofs.Words.{with_parameters}
use Rattle.pml_inline.proofs.Lists.{closing_within}
use Rattle.inline_laws.specs.Defined.{Names, last_name, one_name, Parameters, no_parameter, some_parameters, IsDefinition, DefinitionsAreAsWritten}

taken : {A : Type 0} (b : Bool) (o : Option A) (x : A) → (if b then o else None) ≡ Some x → (b ≡ true) × (o ≡ Some x)
taken true o x h = (refl, h)
taken false o x h = cc

same_some : {A : Type 0} (x y : A) → Some x ≡ Some y → x ≡ y
same_some x y h = cc

both : (a b : Bool) → (a && b) ≡ true → (a ≡ true) × (b ≡ true)
both true b h = (refl, h)
both false b h = absurd (false≢true h)

no_not : (b : Bool) → not b ≡ true → b ≡ false
no_not true h = absurd (false≢true h)
no_not false h = refl

-- ---- names

-- how many tokens names, the commas between them and the `)` are
names_long : {ws rest : List Word} {ns : List (List ℕ)} → Names ws ns rest → length ws ≡ 2 * length ns + length rest
names_long (last_name named close) = omega arith
names_long (one_name named comma more) = let l = names_long more in omega (arith, l)

names_some : {ws rest : List Word} {ns : List (List ℕ)} → Names ws ns rest → 0 < length ns
names_some (last_name named close) = omega arith
names_some (one_name named comma more) = omega arith

twice_more : (n : ℕ) → 2 * suc n ≡ suc (suc (2 * n))
twice_more n = omega arith

names_behind : {ws rest : List Word} {ns : List (List ℕ)} → Names ws ns rest → drop (2 * length ns) ws ≡ rest
names_behind (last_name named close) = refl
names_behind (one_name {w = w} {v = v} {ws = ws} {ns = ns} named comma more) = ap (λ (k : ℕ). drop k (w ∷ v ∷ ws)) (twice_more (length ns)) ∙ names_behind more

comma_is_no_close : (v : Word) → same_kind v.kind Comma ≡ true → same_kind v.kind CloseParen ≡ false
comma_is_no_close v h = ap (λ (k : Kind). same_kind k CloseParen) (same_true the_type (search rules) v.kind Comma h)

name_is_no_close : (v : Word) → is_name v ≡ true → same_kind v.kind CloseParen ≡ false
name_is_no_close v h = ap (λ (k : Kind). same_kind k CloseParen) (same_true the_type (search rules) v.kind Name h)

-- the names that are found are those that stand there
names_are : {ws rest : List Word} {ns : List (List ℕ)} → Names ws ns rest → names ws ≡ Some ns
names_are (last_name named close) = rw (named, close) refl
names_are (one_name {w = w} {v = v} {ws = ws} named comma more) = rw (named, comma_is_no_close v comma, comma) (ap (option_map (λ ns. w.text ∷ ns)) (names_are more))

abbrev NamesThere : List Word → List (List ℕ) → Type 0
NamesThere ws ns = (rest : List Word) × Names ws ns rest

more_there : (w v : Word) (ws : List Word) (ns : List (List ℕ)) → ((ms : List (List ℕ)) → names ws ≡ Some ms → NamesThere ws ms) → (o : Option (List (List ℕ))) → names ws ≡ o
    → is_name w ≡ true → same_kind v.kind Comma ≡ true → option_map (λ ns. w.text ∷ ns) o ≡ Some ns → NamesThere (w ∷ v ∷ ws) ns
more_there w v ws ns there None is named comma e = cc
more_there w v ws ns there (Some ms) is named comma e =
    let rest = there ms is in
    (rest.0, subst (λ (l : List (List ℕ)). Names (w ∷ v ∷ ws) l rest.0) (same_some (w.text ∷ ms) ns e) (one_name named comma rest.1))

by_close : (w v : Word) (ws : List Word) (ns : List (List ℕ)) → ((ms : List (List ℕ)) → names ws ≡ Some ms → NamesThere ws ms) → (b : Bool) → same_kind v.kind CloseParen ≡ b → is_name w ≡ true
    → (if b then Some (w.text ∷ []) else (if same_kind v.kind Comma then option_map (λ ns. w.text ∷ ns) (names ws) else None)) ≡ Some ns → NamesThere (w ∷ v ∷ ws) ns
by_close w v ws ns there true close named e = (ws, subst (λ (l : List (List ℕ)). Names (w ∷ v ∷ ws) l ws) (same_some (w.text ∷ []) ns e) (last_name named close))
by_close w v ws ns there false close named e =
    let second = taken (same_kind v.kind Comma) (option_map (λ ns. w.text ∷ ns) (names ws)) ns e in
    more_there w v ws ns there (names ws) refl named second.0 second.1

names_there : (ws : List Word) (ns : List (List ℕ)) → names ws ≡ Some ns → NamesThere ws ns
names_there [] ns h = cc
names_there (w ∷ []) ns h = cc
names_there (w ∷ v ∷ ws) ns h =
    let first = taken (is_name w) _ ns h in
    by_close w v ws ns (λ ms is. names_there ws ms is) (same_kind v.kind CloseParen) refl first.0 first.1

-- ---- parameters

listed_some : (ns : List (List ℕ)) → 0 < length ns → listed ns ≡ 2 * length ns
listed_some [] some = absurd (omega (arith, some))
listed_some (n ∷ ns) some = ap (λ (b : Bool). if b then 1 else 2 * length (n ∷ ns)) (not_none (length ns))
  where
    not_none : (k : ℕ) → nat_eq (suc k) 0 ≡ false
    not_none k = grind (arith, nat_tests)

parameters_behind : {ws rest : List Word} {ns : List (List ℕ)} → Parameters ws ns rest → drop (listed ns) ws ≡ rest
parameters_behind (no_parameter close) = refl
parameters_behind {ws = ws} {ns = ns} (some_parameters more) = ap (λ (k : ℕ). drop k ws) (listed_some ns (names_some more)) ∙ names_behind more

parameters_long : {ws rest : List Word} {ns : List (List ℕ)} → Parameters ws ns rest → length ws ≡ listed ns + length rest
parameters_long (no_parameter close) = omega arith
parameters_long {ns = ns} (some_parameters more) = let l = listed_some ns (names_some more) in let m = names_long more in omega (arith, l, m)

begins_name : {ws rest : List Word} {ns : List (List ℕ)} → Names ws ns rest → begins_as CloseParen ws ≡ false
begins_name (last_name {w = w} named close) = name_is_no_close w named
begins_name (one_name {w = w} named comma more) = name_is_no_close w named

parameters_are : {ws rest : List Word} {ns : List (List ℕ)} → Parameters ws ns rest → parameter_names ws ≡ Some ns
parameters_are (no_parameter close) = rw close refl
parameters_are (some_parameters more) = rw (begins_name more) (names_are more)

parameters_there : (ws : List Word) (ns : List (List ℕ)) → parameter_names ws ≡ Some ns → (rest : List Word) × Parameters ws ns rest
parameters_there ws ns h = by (begins_as CloseParen ws) refl h
  where
    none : (ts : List Word) → begins_as CloseParen ts ≡ true → [] ≡ ns → (rest : List Word) × Parameters ts ns rest
    none [] close e = absurd (false≢true close)
    none (v ∷ ts) close e = (ts, subst (λ (l : List (List ℕ)). Parameters (v ∷ ts) l ts) e (no_parameter close))

    by : (b : Bool) → begins_as CloseParen ws ≡ b → (if b then Some [] else names ws) ≡ Some ns → (rest : List Word) × Parameters ws ns rest
    by true close e = none ws close (same_some [] ns e)
    by false close e = let there = names_there ws ns e in (there.0, some_parameters there.1)

-- ---- a definition

size_is : (inner body_on : List Word) (k n : ℕ) → length inner ≡ k + length body_on → n + 2 ≤ length body_on → (2 + k + (n + 2)) + length (drop (n + 2) body_on) ≡ suc (suc (length inner))
size_is inner body_on k n long within = let l = length-drop (n + 2) body_on in omega (arith, long, within, l)

brace_within : (body_on : List Word) (n : ℕ) → begins_as OpenBrace body_on ≡ true → closing OpenBrace CloseBrace (drop 1 body_on) 0 ≡ Some n → n + 2 ≤ length body_on
brace_within [] n braced closed = absurd (false≢true braced)
brace_within (w ∷ ws) n braced closed = let l = closing_within OpenBrace CloseBrace ws 0 n closed in omega (arith, l)

module _ (w v : Word) (inner : List Word) (d : Inline) (named : is_name w ≡ true) (opened : same_kind v.kind OpenParen ≡ true) where
  from_end : (ps : List (List ℕ)) (body_on : List Word) → Parameters inner ps body_on → begins_as OpenBrace body_on ≡ true
      → (o : Option ℕ) → closing OpenBrace CloseBrace (drop 1 body_on) 0 ≡ o → option_and_then (with_end w.text ps body_on) o ≡ Some d → IsDefinition (w ∷ v ∷ inner) d
  from_end ps body_on there braced None closed h = cc
  from_end ps body_on there braced (Some n) closed h =
      let right = taken (all_differ ps && not (has_inline (take (n + 2) body_on))) _ d h in
      let parts = both (all_differ ps) (not (has_inline (take (n + 2) body_on))) right.0 in
      let long : length inner ≡ listed ps + length body_on = parameters_long there in
      subst (IsDefinition (w ∷ v ∷ inner)) (same_some (record { name = w.text; parameters = ps; body = take (n + 2) body_on; size = 2 + listed ps + (n + 2) }) d right.1)
      (record {
        name = w;
        open_paren = v;
        inner = inner;
        body_on = body_on;
        is = refl;
        named = named;
        name_is = refl;
        opened = opened;
        parameters = there;
        braced = braced;
        within = n;
        closed = closed;
        body = refl;
        differ = parts.0;
        plain = no_not (has_inline (take (n + 2) body_on)) parts.1;
        size = size_is inner body_on (listed ps) n long (brace_within body_on n braced closed);
      })

  from_parameters : (o : Option (List (List ℕ))) → parameter_names inner ≡ o → with_parameters w.text inner o ≡ Some d → IsDefinition (w ∷ v ∷ inner) d
  from_parameters None is h = cc
  from_parameters (Some ps) is h =
      let there = parameters_there inner ps is in
      let body : with_body w.text ps there.0 ≡ Some d = subst (λ (ts : List Word). with_body w.text ps ts ≡ Some d) (parameters_behind there.1) h in
      let brace = taken (begins_as OpenBrace there.0) (option_and_then (with_end w.text ps there.0) (closing OpenBrace CloseBrace (drop 1 there.0) 0)) d body in
      from_end ps there.0 there.1 brace.0 (closing OpenBrace CloseBrace (drop 1 there.0) 0) refl brace.1

written : (ws : List Word) (d : Inline) → definition ws ≡ Some d → IsDefinition ws d
unfolding definition
written [] d h = cc
written (w ∷ []) d h = let first = taken (is_name w && false) _ d h in absurd (false≢true (both (is_name w) false first.0).1)
written (w ∷ v ∷ inner) d h =
    let first = taken (is_name w && same_kind v.kind OpenParen) (with_parameters w.text inner (parameter_names inner)) d h in
    let parts = both (is_name w) (same_kind v.kind OpenParen) first.0 in
    from_parameters w v inner d parts.0 parts.1 (parameter_names inner) refl first.1

abbrev inline : List ℕ → List (List ℕ) → List Word → ℕ → Inline
inline name ps body size = record { name = name; parameters = ps; body = body; size = size }

-- the same the other way round
inline_is : (d : Inline) (name : List ℕ) (ps : List (List ℕ)) (body : List Word) (size : ℕ) → d.name ≡ name → d.parameters ≡ ps → d.body ≡ body → d.size ≡ size
    → inline name ps body size ≡ d
inline_is d name ps body size a b c e =
    ap (λ (x : List ℕ). inline x ps body size) (sym a) ∙ ap (λ (x : List (List ℕ)). inline d.name x body size) (sym b)
    ∙ ap (λ (x : List Word). inline d.name d.parameters x size) (sym c) ∙ ap (inline d.name d.parameters d.body) (sym e)

found : (w v : Word) (inner : List Word) (ps : List (List ℕ)) (body_on : List Word) (n : ℕ) → is_name w ≡ true → same_kind v.kind OpenParen ≡ true → Parameters inner ps body_on
    → begins_as OpenBrace body_on ≡ true → closing OpenBrace CloseBrace (drop 1 body_on) 0 ≡ Some n → all_differ ps ≡ true → has_inline (take (n + 2) body_on) ≡ false
    → definition (w ∷ v ∷ inner) ≡ Some (record { name = w.text; parameters = ps; body = take (n + 2) body_on; size = 2 + listed ps + (n + 2) })
unfolding definition
found w v inner ps body_on n named opened there braced closed differ plain =
    rw (named, opened, parameters_are there, parameters_behind there, braced, closed, differ, plain) refl

as_written : (ws : List Word) (d : Inline) → IsDefinition ws d → definition ws ≡ Some d
as_written ws d h =
    let plain : has_inline (take (h.within + 2) h.body_on) ≡ false = ap has_inline (sym h.body) ∙ h.plain in
    let long = parameters_long h.parameters in
    let all = size_is h.inner h.body_on (listed d.parameters) h.within long (brace_within h.body_on h.within h.braced h.closed) in
    let total : length ws ≡ suc (suc (length h.inner)) = ap length h.is in
    let size = h.size in
    let size_is_so : d.size ≡ 2 + listed d.parameters + (h.within + 2) = omega (arith, all, total, size) in
    ap definition h.is
    ∙ found h.name h.open_paren h.inner d.parameters h.body_on h.within h.named h.opened h.parameters h.braced h.closed h.differ plain
    ∙ ap Some (inline_is d h.name.text d.parameters (take (h.within + 2) h.body_on) (2 + listed d.parameters + (h.within + 2)) h.name_is refl h.body size_is_so)

pub are_as_written : DefinitionsAreAsWritten
are_as_written ws d = (written ws d, as_written ws d)
