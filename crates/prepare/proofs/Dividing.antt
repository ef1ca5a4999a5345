-- What is written between the tokens of a text divides statements.
use Rattle.std.proofs.Common.{◌≡◌, ℕ, ◌-◌, ◌<◌, Bool, true, false, not, cond, ◌&&◌, List, [], ◌∷◌, ◌++◌, Option, None, Some, sym, refl, ap, ◌∙◌, subst, fold, arith}
use Rattle.std.specs.Prelude.{nat_lt, ◌==◌}
use Rattle.std.specs.List.{list_any}
use Rattle.std.proofs.lemmas.Bool.{false≢true}
use Rattle.std.proofs.lemmas.Bool.Decides.{nat_tests}
use Rattle.pml_token.specs.declared.token.Kind.{Kind}
use Rattle.pml_token.specs.declared.token.Kind.TheVariants as kind
use Rattle.pml_token.specs.Word.{same_kind}
use Rattle.prepare.specs.declared.roles.TokenRole.{TokenRole}
use Rattle.prepare.specs.declared.roles.TokenRole.TheVariants as as_role
use Rattle.prepare.specs.declared.context.LastToken.{LastToken}
use Rattle.prepare.specs.declared.context.LastToken.TheVariants as state
use Rattle.prepare.specs.declared.context.Code.{Code}
use Rattle.prepare.specs.declared.context.Context.{Context}
use Rattle.prepare.specs.declared.context.Supply.{Supply}
use Rattle.prepare.specs.declared.context.Supply.TheVariants.{Nothing, Separator, Skip}
use Rattle.prepare.specs.Roles.{role, begins}
use Rattle.prepare.specs.Contexts as contexts
use Rattle.prepare.specs.Contexts.{deeper, code_behind, behind, start, is_typed, is_subtyped, has_statements, skip_before, supply_behind, supply}
use Rattle.prepare.specs.Written.{Written}
use Rattle.prepare.specs.Stretches.{ends_line, stretch, stretches}
use Rattle.prepare.specs.Blocks.{is_blanked, open_behind}
use Rattle.prepare.specs.Separators.{may_end, may_begin, ends_sequence, is_colon, enters, leaves, braces_behind, brackets_behind, last_behind, is, SeparatorsEndStatements, SkipsAreLabelled}
use Rattle.prepare.proofs.Blocks.{blank_is}
use Rattle.prepare.proofs.Chain.{IsWord, IsStretch, Chain, chained, by_kind, plain, opens_role, closes_role, enters_role, leaves_role, labels_role, ends_role, closing_role, opens_is, closes_is, enters_is, leaves_is, labels_is, closing_is, begins_is}

ends_plain : (k : Kind) → ends_role (plain k) ≡ may_end k
ends_plain kind.Name = refl
ends_plain _ = refl

ends_is : (k : Kind) (t : List ℕ) → IsWord k t → ends_role (role k t) ≡ may_end k
ends_is k t w = by_kind ends_role may_end k t w refl (ends_plain k)

-- what is known of the code before a token, by the tokens before it
record Knows (c : Code) (n m : ℕ) (o : Option Kind) : Type 0 where
  braces : c.braces ≡ n
  brackets : c.brackets ≡ m
  ended : c.last ≡ state.Ended → is may_end o ≡ true
  labelled : c.last ≡ state.Labelled → is is_colon o ≡ true

braces_role : (c : Code) (r : TokenRole) → (code_behind c r).braces ≡ cond (opens_role r) (deeper c.braces) (cond (closes_role r) (c.braces - 1) c.braces)
braces_role c as_role.Opens = refl
braces_role c _ = refl

brackets_role : (c : Code) (r : TokenRole) → (code_behind c r).brackets ≡ cond (enters_role r) (deeper c.brackets) (cond (leaves_role r) (c.brackets - 1) c.brackets)
brackets_role c as_role.Enters = refl
brackets_role c _ = refl

ended_if : (b : Bool) (x y : LastToken) → cond b x y ≡ state.Ended → (x ≡ state.Ended → ⊥) → (y ≡ state.Ended → ⊥) → ⊥
ended_if true x y e f g = f e
ended_if false x y e f g = g e

ended_role : (c : Code) (r : TokenRole) → (code_behind c r).last ≡ state.Ended → ends_role r ≡ true
ended_role c as_role.Closes e = refl
ended_role c as_role.Leaves e = refl
ended_role c as_role.Names e = refl
ended_role c as_role.Both e = refl
ended_role c as_role.Ends e = refl
ended_role c as_role.Labels e = absurd (ended_if (is_typed c.last) state.Subtyped state.Labelled e (λ x. cc) (λ x. cc))
ended_role c as_role.Assigns e = absurd (ended_if (is_typed c.last) state.Open state.Assigned e (λ x. cc) (λ x. cc))
ended_role c _ e = cc

labelled_if : (b : Bool) (x y : LastToken) → cond b x y ≡ state.Labelled → (x ≡ state.Labelled → ⊥) → (y ≡ state.Labelled → ⊥) → ⊥
labelled_if true x y e f g = f e
labelled_if false x y e f g = g e

labelled_role : (c : Code) (r : TokenRole) → (code_behind c r).last ≡ state.Labelled → labels_role r ≡ true
labelled_role c as_role.Labels e = refl
labelled_role c as_role.Closes e = absurd (labelled_if (c.is_fields && nat_lt 1 c.braces) state.Ended state.Open e (λ x. cc) (λ x. cc))
labelled_role c as_role.Leaves e = absurd (labelled_if (c.is_head && nat_lt c.brackets 2) state.Open state.Ended e (λ x. cc) (λ x. cc))
labelled_role c as_role.Names e = absurd (labelled_if (is_subtyped c.last) state.Typed state.Ended e (λ x. cc) (λ x. cc))
labelled_role c as_role.Assigns e = absurd (labelled_if (is_typed c.last) state.Open state.Assigned e (λ x. cc) (λ x. cc))
labelled_role c _ e = cc

-- behind a token that is not blanked
knows_code : (c : Code) (n m : ℕ) (o : Option Kind) (k : Kind) (t : List ℕ) → IsWord k t → Knows c n m o
    → Knows (code_behind c (role k t)) (cond (same_kind k kind.OpenBrace) (deeper n) (cond (same_kind k kind.CloseBrace) (n - 1) n)) (cond (enters k) (deeper m) (cond (leaves k) (m - 1) m)) (Some k)
knows_code c n m o k t w h =
    let r = role k t in
    record {
      braces = braces_role c r ∙ ap (λ (x : Bool). cond x (deeper c.braces) (cond (closes_role r) (c.braces - 1) c.braces)) (opens_is k t w)
          ∙ ap (λ (x : Bool). cond (same_kind k kind.OpenBrace) (deeper c.braces) (cond x (c.braces - 1) c.braces)) (closes_is k t w)
          ∙ ap (λ (x : ℕ). cond (same_kind k kind.OpenBrace) (deeper x) (cond (same_kind k kind.CloseBrace) (x - 1) x)) h.braces;
      brackets = brackets_role c r ∙ ap (λ (x : Bool). cond x (deeper c.brackets) (cond (leaves_role r) (c.brackets - 1) c.brackets)) (enters_is k t w)
          ∙ ap (λ (x : Bool). cond (enters k) (deeper c.brackets) (cond x (c.brackets - 1) c.brackets)) (leaves_is k t w)
          ∙ ap (λ (x : ℕ). cond (enters k) (deeper x) (cond (leaves k) (x - 1) x)) h.brackets;
      ended = λ e. sym (ends_is k t w) ∙ ended_role c r e;
      labelled = λ e. sym (labels_is k t w) ∙ labelled_role c r e;
    }

stretch_blanked : (p : Context) (k : Kind) (gap t : List ℕ) → is_blanked (stretch p k gap t) ≡ contexts.is_blanked p.block (role k t)
unfolding stretch
stretch_blanked p k gap t = blank_is p.block (role k t)

knows_by : (b : Bool) (p : Context) (u : Written) (n m : ℕ) (o : Option Kind) → IsWord u.kind u.token → contexts.is_blanked p.block (role u.kind u.token) ≡ b → is_blanked u ≡ b → Knows p.code n m o
    → Knows (behind p (role u.kind u.token)).code (braces_behind n u) (brackets_behind m u) (last_behind o u)
knows_by true p u n m o w e f h =
    subst (λ (c : Code). Knows c (braces_behind n u) (brackets_behind m u) (last_behind o u)) (sym (ap (λ (x : Bool). cond x p.code (code_behind p.code (role u.kind u.token))) e))
    (subst (λ (x : Bool). Knows p.code (cond x n (open_behind n u)) (cond x m (cond (enters u.kind) (deeper m) (cond (leaves u.kind) (m - 1) m))) (cond x o (Some u.kind))) (sym f) h)
knows_by false p u n m o w e f h =
    subst (λ (c : Code). Knows c (braces_behind n u) (brackets_behind m u) (last_behind o u)) (sym (ap (λ (x : Bool). cond x p.code (code_behind p.code (role u.kind u.token))) e))
    (subst (λ (x : Bool). Knows (code_behind p.code (role u.kind u.token)) (cond x n (open_behind n u)) (cond x m (cond (enters u.kind) (deeper m) (cond (leaves u.kind) (m - 1) m))) (cond x o (Some u.kind))) (sym f) (knows_code p.code n m o u.kind u.token w h))

knows : (p : Context) (u : Written) (n m : ℕ) (o : Option Kind) → IsStretch p u → Knows p.code n m o → Knows (behind p (role u.kind u.token)).code (braces_behind n u) (brackets_behind m u) (last_behind o u)
knows p u n m o t h = knows_by (contexts.is_blanked p.block (role u.kind u.token)) p u n m o t.word refl (ap is_blanked t.is ∙ stretch_blanked p u.kind u.gap u.token) h

-- what is supplied at a stretch
supply_is : (p : Context) (k : Kind) (gap t : List ℕ) → (stretch p k gap t).supply ≡ cond (contexts.is_blanked p.block (role k t)) Nothing (supply p.code (list_any ends_line gap) (role k t))
unfolding stretch
supply_is p k gap t = refl

record Gives (p : Context) (u : Written) (s : Supply) : Type 0 where
  stays : is_blanked u ≡ false
  is : supply p.code (list_any ends_line u.gap) (role u.kind u.token) ≡ s

gives_by : (b : Bool) (p : Context) (u : Written) (s x : Supply) → is_blanked u ≡ b → cond b Nothing x ≡ s → (Nothing ≡ s → ⊥) → (is_blanked u ≡ false) × (x ≡ s)
gives_by true p u s x e h none = absurd (none h)
gives_by false p u s x e h none = (e, h)

gives : (p : Context) (u : Written) (s : Supply) → IsStretch p u → u.supply ≡ s → (Nothing ≡ s → ⊥) → Gives p u s
gives p u s t e none =
    let given : cond (contexts.is_blanked p.block (role u.kind u.token)) Nothing (supply p.code (list_any ends_line u.gap) (role u.kind u.token)) ≡ s = sym (supply_is p u.kind u.gap u.token) ∙ ap (λ (x : Written). x.supply) (sym t.is) ∙ e in
    let both = gives_by (contexts.is_blanked p.block (role u.kind u.token)) p u s (supply p.code (list_any ends_line u.gap) (role u.kind u.token)) (ap is_blanked t.is ∙ stretch_blanked p u.kind u.gap u.token) given none in
    record { stays = both.0; is = both.1 }

and_left : (a b : Bool) → (a && b) ≡ true → a ≡ true
and_left true b h = refl
and_left false b h = h

and_right : (a b : Bool) → (a && b) ≡ true → b ≡ true
and_right true b h = h
and_right false b h = absurd (false≢true h)

separates : (b : Bool) → cond b Separator Nothing ≡ Separator → b ≡ true
separates true e = refl
separates false e = cc

skip_by : (r : TokenRole) → skip_before r ≡ Skip → closing_role r ≡ true
skip_by as_role.Closes e = refl
skip_by as_role.Parts e = refl
skip_by _ e = cc

no_separator : (r : TokenRole) → skip_before r ≡ Separator → ⊥
no_separator as_role.Closes e = cc
no_separator as_role.Parts e = cc
no_separator _ e = cc

separator_by : (l : LastToken) (b : Bool) (r : TokenRole) → supply_behind l b r ≡ Separator → (l ≡ state.Ended) × (b ≡ true)
separator_by state.Labelled b r e = absurd (no_separator r e)
separator_by state.Ended b r e = (refl, separates b e)
separator_by _ b r e = cc

no_skip : (b : Bool) → cond b Separator Nothing ≡ Skip → ⊥
no_skip true e = cc
no_skip false e = cc

skipped_by : (l : LastToken) (b : Bool) (r : TokenRole) → supply_behind l b r ≡ Skip → (l ≡ state.Labelled) × (closing_role r ≡ true)
skipped_by state.Labelled b r e = (refl, skip_by r e)
skipped_by state.Ended b r e = absurd (no_skip b e)
skipped_by _ b r e = cc

some_braces : (n : ℕ) → nat_lt 0 n ≡ true → 0 < n
some_braces n h = grind (arith, nat_tests)

no_brackets : (n : ℕ) → (n == 0) ≡ true → n ≡ 0
no_brackets n h = grind (arith, nat_tests)

-- what holds where something is written at a stretch
record Ends (n m : ℕ) (o : Option Kind) (t : Written) : Type 0 where
  line : list_any ends_line t.gap ≡ true
  ends : is may_end o ≡ true
  begins : may_begin t.kind ≡ true
  stays : is_blanked t ≡ false
  within : 0 < n
  outside : m ≡ 0

record Lacks (o : Option Kind) (t : Written) : Type 0 where
  label : is is_colon o ≡ true
  ends : ends_sequence t.kind ≡ true
  stays : is_blanked t ≡ false

ends_at : (p : Context) (u : Written) (n m : ℕ) (o : Option Kind) → IsStretch p u → Knows p.code n m o → u.supply ≡ Separator → Ends n m o u
ends_at p u n m o t h e =
    let line = list_any ends_line u.gap in
    let r = role u.kind u.token in
    let g = gives p u Separator t e (λ x. cc) in
    let s : (p.code.last ≡ state.Ended) × ((line && (begins r && has_statements p.code)) ≡ true) = separator_by p.code.last (line && (begins r && has_statements p.code)) r g.is in
    let rest : (begins r && has_statements p.code) ≡ true = and_right line (begins r && has_statements p.code) s.1 in
    let has : has_statements p.code ≡ true = and_right (begins r) (has_statements p.code) rest in
    let inner = and_right (nat_lt 0 p.code.braces) (p.code.brackets == 0 && not p.code.is_list) has in
    record {
      line = and_left line (begins r && has_statements p.code) s.1;
      ends = h.ended s.0;
      begins = sym (begins_is u.kind u.token t.word) ∙ and_left (begins r) (has_statements p.code) rest;
      stays = g.stays;
      within = subst (λ (x : ℕ). 0 < x) h.braces (some_braces p.code.braces (and_left (nat_lt 0 p.code.braces) (p.code.brackets == 0 && not p.code.is_list) has));
      outside = sym h.brackets ∙ no_brackets p.code.brackets (and_left (p.code.brackets == 0) (not p.code.is_list) inner);
    }

lacks_at : (p : Context) (u : Written) (n m : ℕ) (o : Option Kind) → IsStretch p u → Knows p.code n m o → u.supply ≡ Skip → Lacks o u
lacks_at p u n m o t h e =
    let line = list_any ends_line u.gap in
    let r = role u.kind u.token in
    let g = gives p u Skip t e (λ x. cc) in
    let s = skipped_by p.code.last (line && (begins r && has_statements p.code)) r g.is in
    record { label = h.labelled s.0; ends = sym (closing_is u.kind u.token t.word) ∙ s.1; stays = g.stays }

separators : (us : List Written) (p : Context) (n m : ℕ) (o : Option Kind) → Chain p us → Knows p.code n m o → (front back : List Written) (t : Written) → us ≡ front ++ t ∷ back → t.supply ≡ Separator
    → Ends (fold braces_behind n front) (fold brackets_behind m front) (fold last_behind o front) t
separators [] p n m o h k front back t e s = absurd h
separators (u ∷ []) p n m o h k [] back t e s = let same : u ≡ t = cc in let none : Nothing ≡ Separator = sym h.nothing ∙ ap (λ (x : Written). x.supply) same ∙ s in cc
separators (u ∷ []) p n m o h k (x ∷ []) back t e s = cc
separators (u ∷ []) p n m o h k (x ∷ y ∷ front) back t e s = cc
separators (u ∷ v ∷ us) p n m o h k [] back t e s = let same : u ≡ t = cc in subst (Ends n m o) same (ends_at p u n m o h.0 k (ap (λ (x : Written). x.supply) same ∙ s))
separators (u ∷ v ∷ us) p n m o h k (x ∷ front) back t e s =
    let same : u ≡ x = cc in
    let rest : v ∷ us ≡ front ++ t ∷ back = cc in
    subst (λ (y : Written). Ends (fold braces_behind (braces_behind n y) front) (fold brackets_behind (brackets_behind m y) front) (fold last_behind (last_behind o y) front) t) same
    (separators (v ∷ us) (behind p (role u.kind u.token)) (braces_behind n u) (brackets_behind m u) (last_behind o u) h.1 (knows p u n m o h.0 k) front back t rest s)

skips : (us : List Written) (p : Context) (n m : ℕ) (o : Option Kind) → Chain p us → Knows p.code n m o → (front back : List Written) (t : Written) → us ≡ front ++ t ∷ back → t.supply ≡ Skip → Lacks (fold last_behind o front) t
skips [] p n m o h k front back t e s = absurd h
skips (u ∷ []) p n m o h k [] back t e s = let same : u ≡ t = cc in let none : Nothing ≡ Skip = sym h.nothing ∙ ap (λ (x : Written). x.supply) same ∙ s in cc
skips (u ∷ []) p n m o h k (x ∷ []) back t e s = cc
skips (u ∷ []) p n m o h k (x ∷ y ∷ front) back t e s = cc
skips (u ∷ v ∷ us) p n m o h k [] back t e s = let same : u ≡ t = cc in subst (Lacks o) same (lacks_at p u n m o h.0 k (ap (λ (x : Written). x.supply) same ∙ s))
skips (u ∷ v ∷ us) p n m o h k (x ∷ front) back t e s =
    let same : u ≡ x = cc in
    let rest : v ∷ us ≡ front ++ t ∷ back = cc in
    subst (λ (y : Written). Lacks (fold last_behind (last_behind o y) front) t) same
    (skips (v ∷ us) (behind p (role u.kind u.token)) (braces_behind n u) (brackets_behind m u) (last_behind o u) h.1 (knows p u n m o h.0 k) front back t rest s)

knows_start : Knows start.code 0 0 None
knows_start = record { braces = refl; brackets = refl; ended = λ e. cc; labelled = λ e. cc }

pub separators_end : (text : List ℕ) → SeparatorsEndStatements (stretches text)
separators_end text front back t e s =
    let h = separators (stretches text) start 0 0 None (chained text) knows_start front back t e s in
    record { line = h.line; ends = h.ends; begins = h.begins; stays = h.stays; within = h.within; outside = h.outside }

pub skips_are_labelled : (text : List ℕ) → SkipsAreLabelled (stretches text)
skips_are_labelled text front back t e s =
    let h = skips (stretches text) start 0 0 None (chained text) knows_start front back t e s in
    record { label = h.label; ends = h.ends; stays = h.stays }
