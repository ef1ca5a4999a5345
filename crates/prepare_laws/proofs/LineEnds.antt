-- A `;` is written exactly where a line ends between statements.
use Rattle.std.proofs.Common.{◌≡◌, ℕ, ◌-◌, ◌<◌, Bool, true, false, not, cond, ◌&&◌, List, [], ◌∷◌, ◌++◌, sym, refl, ap, ◌∙◌, subst, fold, arith}
use Rattle.std.specs.Prelude.{nat_lt, ◌==◌}
use Rattle.std.specs.List.{list_any}
use Rattle.std.proofs.lemmas.Bool.{false≢true}
use Rattle.std.proofs.lemmas.Bool.Decides.{nat_tests}
use Rattle.pml_token.specs.declared.token.Kind.{Kind}
use Rattle.pml_token.specs.declared.token.Kind.TheVariants as kind
use Rattle.prepare.specs.declared.roles.TokenRole.{TokenRole}
use Rattle.prepare.specs.declared.roles.TokenRole.TheVariants as as_role
use Rattle.prepare.specs.declared.context.LastToken.{LastToken}
use Rattle.prepare.specs.declared.context.LastToken.TheVariants as state
use Rattle.prepare.specs.declared.context.Code.{Code}
use Rattle.prepare.specs.declared.context.Context.{Context}
use Rattle.prepare.specs.declared.context.Supply.{Supply}
use Rattle.prepare.specs.declared.context.Supply.TheVariants.{Nothing, Separator}
use Rattle.prepare.specs.Roles.{is_block_word, role, begins}
use Rattle.prepare.specs.Contexts as contexts
use Rattle.prepare.specs.Contexts.{deeper, code_behind, behind, start, is_typed, is_subtyped, has_statements, skip_before, supply_behind, supply}
use Rattle.prepare.specs.Written.{Written}
use Rattle.prepare.specs.Stretches.{ends_line, stretch, stretches}
use Rattle.prepare.specs.Blocks.{is_blanked}
use Rattle.prepare.specs.Separators.{may_begin}
use Rattle.prepare.proofs.Blocks.{blank_is}
use Rattle.prepare.proofs.Chain.{IsWord, IsStretch, Chain, chained, plain, begins_is}
use Rattle.prepare_laws.specs.LineEnds.{kinds_behind, braces_with, opened, brackets_with, entered, is_type, is_assigned, BeginsList, BeginsTypedef, OpenSince, waits, ClosesHead, ClosesPart, MayEnd, EndsLine, SeparatorsAreExact}
use Rattle.prepare_laws.proofs.OpenSince.{Tells, keeps, here, opens, closes, lt_true, true_lt, and_left, and_right, both}

-- whether the last token is the colon of a subtype
abbrev is_subtype : List Kind → Bool
is_subtype (kind.Colon ∷ ks) = is_type ks
is_subtype _ = false

record LastIs (l : LastToken) (ks : List Kind) : Type 0 where
  ended : l ≡ state.Ended → MayEnd ks
  if_ended : MayEnd ks → l ≡ state.Ended
  typed : is_typed l ≡ is_type ks
  subtyped : is_subtyped l ≡ is_subtype ks
  assigned : contexts.is_assigned l ≡ is_assigned ks

record Knows (c : Code) (ks : List Kind) : Type 0 where
  braces : c.braces ≡ opened ks
  brackets : c.brackets ≡ entered ks
  list : Tells c.is_list (OpenSince BeginsList ks)
  fields : Tells c.is_fields (OpenSince BeginsTypedef ks)
  head : c.is_head ≡ waits ks
  last : LastIs c.last ks

-- behind a token that is no brace and no `typedef`
plain_behind : (c : Code) (k : Kind) (ks : List Kind) (m : ℕ) (h : Bool) (l : LastToken) → Knows c ks
    → braces_with k (opened ks) ≡ opened ks → m ≡ brackets_with k (entered ks) → h ≡ waits (k ∷ ks) → (k ≡ kind.CloseBrace → ⊥) → (BeginsList (k ∷ ks) → ⊥) → (BeginsTypedef (k ∷ ks) → ⊥) → LastIs l (k ∷ ks)
    → Knows (record { braces = c.braces; brackets = m; is_list = c.is_list; is_fields = c.is_fields; is_head = h; last = l }) (k ∷ ks)
plain_behind c k ks m h l w braces brackets head no_close no_list no_typedef last =
    record {
      braces = w.braces ∙ sym braces;
      brackets = brackets;
      list = keeps c.is_list k ks no_close no_list w.list;
      fields = keeps c.is_fields k ks no_close no_typedef w.fields;
      head = head;
      last = last;
    }

-- a token behind which nothing ends
open_last : (k : Kind) (ks : List Kind) → (MayEnd (k ∷ ks) → ⊥) → is_type (k ∷ ks) ≡ false → is_subtype (k ∷ ks) ≡ false → is_assigned (k ∷ ks) ≡ false → LastIs state.Open (k ∷ ks)
open_last k ks none typed subtyped assigned =
    record { ended = λ e. cc; if_ended = λ m. absurd (none m); typed = sym typed; subtyped = sym subtyped; assigned = sym assigned }

-- a token behind which a statement may end
ended_last : (k : Kind) (ks : List Kind) → MayEnd (k ∷ ks) → is_type (k ∷ ks) ≡ false → is_subtype (k ∷ ks) ≡ false → is_assigned (k ∷ ks) ≡ false → LastIs state.Ended (k ∷ ks)
ended_last k ks ends typed subtyped assigned =
    record { ended = λ e. ends; if_ended = λ m. refl; typed = sym typed; subtyped = sym subtyped; assigned = sym assigned }

-- a name is a type behind the colon of one, and ends a statement elsewhere
name_is : (ks : List Kind) → is_type (kind.Name ∷ ks) ≡ is_subtype ks
name_is [] = refl
name_is (kind.Colon ∷ ks) = refl
name_is (_ ∷ ks) = refl

named_by : (l : LastToken) (b : Bool) (ks : List Kind) → is_subtyped l ≡ b → is_type (kind.Name ∷ ks) ≡ b → LastIs (cond (is_subtyped l) state.Typed state.Ended) (kind.Name ∷ ks)
named_by l true ks e f =
    subst (λ (x : Bool). LastIs (cond x state.Typed state.Ended) (kind.Name ∷ ks)) (sym e)
    (record { ended = λ x. cc; if_ended = λ m. absurd (false≢true (sym m ∙ f)); typed = sym f; subtyped = refl; assigned = refl })
named_by l false ks e f =
    subst (λ (x : Bool). LastIs (cond x state.Typed state.Ended) (kind.Name ∷ ks)) (sym e)
    (record { ended = λ x. f; if_ended = λ m. refl; typed = sym f; subtyped = refl; assigned = refl })

labelled_by : (l : LastToken) (b : Bool) (ks : List Kind) → is_typed l ≡ b → is_type ks ≡ b → LastIs (cond (is_typed l) state.Subtyped state.Labelled) (kind.Colon ∷ ks)
labelled_by l true ks e f =
    subst (λ (x : Bool). LastIs (cond x state.Subtyped state.Labelled) (kind.Colon ∷ ks)) (sym e)
    (record { ended = λ x. cc; if_ended = λ m. absurd (false≢true m); typed = refl; subtyped = sym f; assigned = refl })
labelled_by l false ks e f =
    subst (λ (x : Bool). LastIs (cond x state.Subtyped state.Labelled) (kind.Colon ∷ ks)) (sym e)
    (record { ended = λ x. cc; if_ended = λ m. absurd (false≢true m); typed = refl; subtyped = sym f; assigned = refl })

assigned_by : (l : LastToken) (b : Bool) (ks : List Kind) → is_typed l ≡ b → is_type ks ≡ b → LastIs (cond (is_typed l) state.Open state.Assigned) (kind.Assign ∷ ks)
assigned_by l true ks e f =
    subst (λ (x : Bool). LastIs (cond x state.Open state.Assigned) (kind.Assign ∷ ks)) (sym e)
    (record { ended = λ x. cc; if_ended = λ m. absurd (false≢true m); typed = refl; subtyped = refl; assigned = ap not (sym f) })
assigned_by l false ks e f =
    subst (λ (x : Bool). LastIs (cond x state.Open state.Assigned) (kind.Assign ∷ ks)) (sym e)
    (record { ended = λ x. cc; if_ended = λ m. absurd (false≢true m); typed = refl; subtyped = refl; assigned = ap not (sym f) })

-- a bracket that closes, by whether it is that of the range of a `for`
left_by : (b : Bool) (k : Kind) (ks : List Kind) → (MayEnd (k ∷ ks) → ClosesHead ks → ⊥) → ((ClosesHead ks → ⊥) → MayEnd (k ∷ ks)) → Tells b (ClosesHead ks)
    → is_type (k ∷ ks) ≡ false → is_subtype (k ∷ ks) ≡ false → is_assigned (k ∷ ks) ≡ false → LastIs (cond b state.Open state.Ended) (k ∷ ks)
left_by true k ks out into t typed subtyped assigned = open_last k ks (λ m. out m (t.so refl)) typed subtyped assigned
left_by false k ks out into t typed subtyped assigned = ended_last k ks (into (λ h. false≢true (t.if_so h))) typed subtyped assigned

heads : (c : Code) (ks : List Kind) → Knows c ks → Tells (c.is_head && nat_lt c.brackets 2) (ClosesHead ks)
heads c ks w =
    record {
      so = λ e. record {
        waiting = sym w.head ∙ and_left c.is_head (nat_lt c.brackets 2) e;
        outer = subst (λ (n : ℕ). n < 2) w.brackets (lt_true c.brackets 2 (and_right c.is_head (nat_lt c.brackets 2) e));
      };
      if_so = λ h. both c.is_head (nat_lt c.brackets 2) (w.head ∙ h.waiting) (true_lt c.brackets 2 (subst (λ (n : ℕ). n < 2) (sym w.brackets) h.outer));
    }

parts : (c : Code) (ks : List Kind) → Knows c ks → Tells (c.is_fields && nat_lt 1 c.braces) (ClosesPart ks)
parts c ks w =
    record {
      so = λ e. record {
        typedef = w.fields.so (and_left c.is_fields (nat_lt 1 c.braces) e);
        within = subst (λ (n : ℕ). 1 < n) w.braces (lt_true 1 c.braces (and_right c.is_fields (nat_lt 1 c.braces) e));
      };
      if_so = λ h. both c.is_fields (nat_lt 1 c.braces) (w.fields.if_so h.typedef) (true_lt 1 c.braces (subst (λ (n : ℕ). 1 < n) (sym w.braces) h.within));
    }

closed_by : (b : Bool) (ks : List Kind) → Tells b (ClosesPart ks) → LastIs (cond b state.Ended state.Open) (kind.CloseBrace ∷ ks)
closed_by true ks t = ended_last kind.CloseBrace ks (t.so refl) refl refl refl
closed_by false ks t = open_last kind.CloseBrace ks (λ m. false≢true (t.if_so m)) refl refl refl

knows_open : (c : Code) (ks : List Kind) → Knows c ks → Knows (contexts.opened c) (kind.OpenBrace ∷ ks)
knows_open c ks w =
    record {
      braces = ap deeper w.braces;
      brackets = w.brackets;
      list = opens c.is_list (contexts.is_assigned c.last) ks w.last.assigned w.list;
      fields = keeps c.is_fields kind.OpenBrace ks (λ e. cc) (λ e. e) w.fields;
      head = refl;
      last = open_last kind.OpenBrace ks (λ m. false≢true m) refl refl refl;
    }

knows_close : (c : Code) (ks : List Kind) → Knows c ks → Knows (contexts.closed c) (kind.CloseBrace ∷ ks)
knows_close c ks w =
    record {
      braces = ap (λ (n : ℕ). n - 1) w.braces;
      brackets = w.brackets;
      list = closes c.is_list c.braces ks w.braces (λ e. e) w.list;
      fields = closes c.is_fields c.braces ks w.braces (λ e. e) w.fields;
      head = w.head;
      last = closed_by (c.is_fields && nat_lt 1 c.braces) ks (parts c ks w);
    }

knows_typedef : (c : Code) (ks : List Kind) → Knows c ks → Knows (code_behind c as_role.Typedef) (kind.Typedef ∷ ks)
knows_typedef c ks w =
    record {
      braces = w.braces;
      brackets = w.brackets;
      list = keeps c.is_list kind.Typedef ks (λ e. cc) (λ e. e) w.list;
      fields = record { so = λ e. here {begins = BeginsTypedef} (kind.Typedef ∷ ks) _; if_so = λ s. refl };
      head = w.head;
      last = open_last kind.Typedef ks (λ m. false≢true m) refl refl refl;
    }

-- behind a token that is no word of a block
knows_kind : (c : Code) (k : Kind) (ks : List Kind) → Knows c ks → Knows (code_behind c (plain k)) (k ∷ ks)
knows_kind c kind.OpenBrace ks w = knows_open c ks w
knows_kind c kind.CloseBrace ks w = knows_close c ks w
knows_kind c kind.Typedef ks w = knows_typedef c ks w
knows_kind c kind.OpenParen ks w =
    plain_behind c kind.OpenParen ks (deeper c.brackets) c.is_head state.Open w refl (ap deeper w.brackets) w.head (λ e. cc) (λ e. e) (λ e. e) (open_last kind.OpenParen ks (λ m. false≢true m) refl refl refl)
knows_kind c kind.OpenBracket ks w =
    plain_behind c kind.OpenBracket ks (deeper c.brackets) c.is_head state.Open w refl (ap deeper w.brackets) w.head (λ e. cc) (λ e. e) (λ e. e) (open_last kind.OpenBracket ks (λ m. false≢true m) refl refl refl)
knows_kind c kind.CloseParen ks w =
    plain_behind c kind.CloseParen ks (c.brackets - 1) c.is_head (cond (c.is_head && nat_lt c.brackets 2) state.Open state.Ended) w refl (ap (λ (n : ℕ). n - 1) w.brackets) w.head (λ e. cc) (λ e. e) (λ e. e)
    (left_by (c.is_head && nat_lt c.brackets 2) kind.CloseParen ks (λ m. m) (λ m. m) (heads c ks w) refl refl refl)
knows_kind c kind.CloseBracket ks w =
    plain_behind c kind.CloseBracket ks (c.brackets - 1) c.is_head (cond (c.is_head && nat_lt c.brackets 2) state.Open state.Ended) w refl (ap (λ (n : ℕ). n - 1) w.brackets) w.head (λ e. cc) (λ e. e) (λ e. e)
    (left_by (c.is_head && nat_lt c.brackets 2) kind.CloseBracket ks (λ m. m) (λ m. m) (heads c ks w) refl refl refl)
knows_kind c kind.Colon ks w =
    plain_behind c kind.Colon ks c.brackets c.is_head (cond (is_typed c.last) state.Subtyped state.Labelled) w refl w.brackets w.head (λ e. cc) (λ e. e) (λ e. e) (labelled_by c.last (is_type ks) ks w.last.typed refl)
knows_kind c kind.Assign ks w =
    plain_behind c kind.Assign ks c.brackets c.is_head (cond (is_typed c.last) state.Open state.Assigned) w refl w.brackets w.head (λ e. cc) (λ e. e) (λ e. e) (assigned_by c.last (is_type ks) ks w.last.typed refl)
knows_kind c kind.For ks w =
    plain_behind c kind.For ks c.brackets true state.Open w refl w.brackets refl (λ e. cc) (λ e. e) (λ e. e) (open_last kind.For ks (λ m. false≢true m) refl refl refl)
knows_kind c kind.Mtype ks w =
    plain_behind c kind.Mtype ks c.brackets c.is_head state.Typed w refl w.brackets w.head (λ e. cc) (λ e. e) (λ e. e) (record { ended = λ e. cc; if_ended = λ m. absurd (false≢true m); typed = refl; subtyped = refl; assigned = refl })
knows_kind c kind.Name ks w =
    plain_behind c kind.Name ks c.brackets c.is_head (cond (is_subtyped c.last) state.Typed state.Ended) w refl w.brackets w.head (λ e. cc) (λ e. e) (λ e. e) (named_by c.last (is_type (kind.Name ∷ ks)) ks (w.last.subtyped ∙ sym (name_is ks)) refl)
knows_kind c kind.Number ks w =
    plain_behind c kind.Number ks c.brackets c.is_head state.Ended w refl w.brackets w.head (λ e. cc) (λ e. e) (λ e. e) (ended_last kind.Number ks refl refl refl refl)
knows_kind c kind.Skip ks w =
    plain_behind c kind.Skip ks c.brackets c.is_head state.Ended w refl w.brackets w.head (λ e. cc) (λ e. e) (λ e. e) (ended_last kind.Skip ks refl refl refl refl)
knows_kind c kind.True ks w =
    plain_behind c kind.True ks c.brackets c.is_head state.Ended w refl w.brackets w.head (λ e. cc) (λ e. e) (λ e. e) (ended_last kind.True ks refl refl refl refl)
knows_kind c kind.False ks w =
    plain_behind c kind.False ks c.brackets c.is_head state.Ended w refl w.brackets w.head (λ e. cc) (λ e. e) (λ e. e) (ended_last kind.False ks refl refl refl refl)
knows_kind c kind.Timeout ks w =
    plain_behind c kind.Timeout ks c.brackets c.is_head state.Ended w refl w.brackets w.head (λ e. cc) (λ e. e) (λ e. e) (ended_last kind.Timeout ks refl refl refl refl)
knows_kind c kind.Break ks w =
    plain_behind c kind.Break ks c.brackets c.is_head state.Ended w refl w.brackets w.head (λ e. cc) (λ e. e) (λ e. e) (ended_last kind.Break ks refl refl refl refl)
knows_kind c kind.Increment ks w =
    plain_behind c kind.Increment ks c.brackets c.is_head state.Ended w refl w.brackets w.head (λ e. cc) (λ e. e) (λ e. e) (ended_last kind.Increment ks refl refl refl refl)
knows_kind c kind.Decrement ks w =
    plain_behind c kind.Decrement ks c.brackets c.is_head state.Ended w refl w.brackets w.head (λ e. cc) (λ e. e) (λ e. e) (ended_last kind.Decrement ks refl refl refl refl)
knows_kind c k ks w =
    plain_behind c k ks c.brackets c.is_head state.Open w refl w.brackets w.head (λ e. cc) (λ e. e) (λ e. e) (open_last k ks (λ m. false≢true m) refl refl refl)

pub code_by : (b : Bool) (c : Code) (k : Kind) (t : List ℕ) → is_block_word t ≡ b → IsWord k t → code_behind c (role k t) ≡ code_behind c (plain k)
code_by true c k t e w = ap (λ (x : Bool). code_behind c (cond x as_role.Heads (plain k))) e ∙ ap (λ (x : Kind). code_behind c (plain x)) (sym (w e))
code_by false c k t e w = ap (λ (x : Bool). code_behind c (cond x as_role.Heads (plain k))) e

knows_code : (c : Code) (k : Kind) (t : List ℕ) (ks : List Kind) → IsWord k t → Knows c ks → Knows (code_behind c (role k t)) (k ∷ ks)
knows_code c k t ks w h = subst (λ (d : Code). Knows d (k ∷ ks)) (sym (code_by (is_block_word t) c k t refl w)) (knows_kind c k ks h)

stretch_blanked : (p : Context) (k : Kind) (gap t : List ℕ) → is_blanked (stretch p k gap t) ≡ contexts.is_blanked p.block (role k t)
unfolding stretch
stretch_blanked p k gap t = blank_is p.block (role k t)

pub blanked_is : (p : Context) (u : Written) → IsStretch p u → is_blanked u ≡ contexts.is_blanked p.block (role u.kind u.token)
blanked_is p u t = ap is_blanked t.is ∙ stretch_blanked p u.kind u.gap u.token

knows_by : (b : Bool) (p : Context) (u : Written) (ks : List Kind) → IsWord u.kind u.token → contexts.is_blanked p.block (role u.kind u.token) ≡ b → is_blanked u ≡ b → Knows p.code ks → Knows (behind p (role u.kind u.token)).code (kinds_behind ks u)
knows_by true p u ks w e f h =
    subst (λ (c : Code). Knows c (kinds_behind ks u)) (sym (ap (λ (x : Bool). cond x p.code (code_behind p.code (role u.kind u.token))) e))
    (subst (λ (x : Bool). Knows p.code (cond x ks (u.kind ∷ ks))) (sym f) h)
knows_by false p u ks w e f h =
    subst (λ (c : Code). Knows c (kinds_behind ks u)) (sym (ap (λ (x : Bool). cond x p.code (code_behind p.code (role u.kind u.token))) e))
    (subst (λ (x : Bool). Knows (code_behind p.code (role u.kind u.token)) (cond x ks (u.kind ∷ ks))) (sym f) (knows_code p.code u.kind u.token ks w h))

knows : (p : Context) (u : Written) (ks : List Kind) → IsStretch p u → Knows p.code ks → Knows (behind p (role u.kind u.token)).code (kinds_behind ks u)
knows p u ks t h = knows_by (contexts.is_blanked p.block (role u.kind u.token)) p u ks t.word refl (blanked_is p u t) h

-- ---- what is written before a token

supply_is : (p : Context) (k : Kind) (gap t : List ℕ) → (stretch p k gap t).supply ≡ cond (contexts.is_blanked p.block (role k t)) Nothing (supply p.code (list_any ends_line gap) (role k t))
unfolding stretch
supply_is p k gap t = refl

pub given : (p : Context) (u : Written) → IsStretch p u → u.supply ≡ cond (is_blanked u) Nothing (supply p.code (list_any ends_line u.gap) (role u.kind u.token))
given p u t =
    ap (λ (x : Written). x.supply) t.is ∙ supply_is p u.kind u.gap u.token
    ∙ ap (λ (x : Bool). cond x Nothing (supply p.code (list_any ends_line u.gap) (role u.kind u.token))) (sym (blanked_is p u t))

unblanked : (b : Bool) (x : Supply) → cond b Nothing x ≡ Separator → (b ≡ false) × (x ≡ Separator)
unblanked true x e = cc
unblanked false x e = (refl, e)

separates : (b : Bool) → cond b Separator Nothing ≡ Separator → b ≡ true
separates true e = refl
separates false e = cc

no_separator : (r : TokenRole) → skip_before r ≡ Separator → ⊥
no_separator as_role.Closes e = cc
no_separator as_role.Parts e = cc
no_separator _ e = cc

separator_by : (l : LastToken) (b : Bool) (r : TokenRole) → supply_behind l b r ≡ Separator → (l ≡ state.Ended) × (b ≡ true)
separator_by state.Labelled b r e = absurd (no_separator r e)
separator_by state.Ended b r e = (refl, separates b e)
separator_by _ b r e = cc

some_open : (n : ℕ) → nat_lt 0 n ≡ true → 0 < n
some_open n h = grind (arith, nat_tests)

open_some : (n : ℕ) → 0 < n → nat_lt 0 n ≡ true
open_some n h = grind (arith, nat_tests)

no_bracket : (n : ℕ) → (n == 0) ≡ true → n ≡ 0
no_bracket n h = grind (arith, nat_tests)

bracket_none : (n : ℕ) → n ≡ 0 → (n == 0) ≡ true
bracket_none n h = grind (arith, nat_tests)

not_so : (b : Bool) → (b ≡ true → ⊥) → not b ≡ true
not_so true h = absurd (h refl)
not_so false h = refl

so_not : (b : Bool) → not b ≡ true → b ≡ true → ⊥
so_not true h e = false≢true h
so_not false h e = false≢true e

only_at : (p : Context) (u : Written) (ks : List Kind) → IsStretch p u → Knows p.code ks → u.supply ≡ Separator → EndsLine ks u
only_at p u ks t h e =
    let line = list_any ends_line u.gap in
    let r = role u.kind u.token in
    let c = p.code in
    let g = unblanked (is_blanked u) (supply c line r) (sym (given p u t) ∙ e) in
    let s : (c.last ≡ state.Ended) × ((line && (begins r && has_statements c)) ≡ true) = separator_by c.last (line && (begins r && has_statements c)) r g.1 in
    let rest : (begins r && has_statements c) ≡ true = and_right line (begins r && has_statements c) s.1 in
    let has : has_statements c ≡ true = and_right (begins r) (has_statements c) rest in
    let inner = and_right (nat_lt 0 c.braces) (c.brackets == 0 && not c.is_list) has in
    record {
      line = and_left line (begins r && has_statements c) s.1;
      stays = g.0;
      ends = h.last.ended s.0;
      begins = sym (begins_is u.kind u.token t.word) ∙ and_left (begins r) (has_statements c) rest;
      within = subst (λ (n : ℕ). 0 < n) h.braces (some_open c.braces (and_left (nat_lt 0 c.braces) (c.brackets == 0 && not c.is_list) has));
      outside = sym h.brackets ∙ no_bracket c.brackets (and_left (c.brackets == 0) (not c.is_list) inner);
      no_list = λ s. so_not c.is_list (and_right (c.brackets == 0) (not c.is_list) inner) (h.list.if_so s);
    }

each_at : (p : Context) (u : Written) (ks : List Kind) → IsStretch p u → Knows p.code ks → EndsLine ks u → u.supply ≡ Separator
each_at p u ks t h e =
    let line = list_any ends_line u.gap in
    let r = role u.kind u.token in
    let c = p.code in
    let has : has_statements c ≡ true =
    both (nat_lt 0 c.braces) (c.brackets == 0 && not c.is_list) (open_some c.braces (subst (λ (n : ℕ). 0 < n) (sym h.braces) e.within))
    (both (c.brackets == 0) (not c.is_list) (bracket_none c.brackets (h.brackets ∙ e.outside)) (not_so c.is_list (λ b. e.no_list (h.list.so b)))) in
    let all : (line && (begins r && has_statements c)) ≡ true = both line (begins r && has_statements c) e.line (both (begins r) (has_statements c) (begins_is u.kind u.token t.word ∙ e.begins) has) in
    given p u t ∙ ap (λ (x : Bool). cond x Nothing (supply c line r)) e.stays
    ∙ ap (λ (l : LastToken). supply_behind l (line && (begins r && has_statements c)) r) (h.last.if_ended e.ends)
    ∙ ap (λ (x : Bool). supply_behind state.Ended x r) all

record At (ks : List Kind) (t : Written) : Type 0 where
  only : t.supply ≡ Separator → EndsLine ks t
  each : EndsLine ks t → t.supply ≡ Separator

at_stretch : (p : Context) (u : Written) (ks : List Kind) → IsStretch p u → Knows p.code ks → At ks u
at_stretch p u ks t h = record { only = only_at p u ks t h; each = each_at p u ks t h }

at_last : (u : Written) (ks : List Kind) → u.supply ≡ Nothing → u.kind ≡ kind.End → At ks u
at_last u ks nothing sort =
    record {
      only = λ e. let odd : Nothing ≡ Separator = sym nothing ∙ e in cc;
      each = λ e. let odd : may_begin kind.End ≡ true = ap may_begin (sym sort) ∙ e.begins in absurd (false≢true odd);
    }

follow : (us : List Written) (p : Context) (ks : List Kind) → Chain p us → Knows p.code ks → (front back : List Written) (t : Written) → us ≡ front ++ t ∷ back → At (fold kinds_behind ks front) t
follow [] p ks h k front back t e = absurd h
follow (u ∷ []) p ks h k [] back t e = let same : u ≡ t = cc in subst (At ks) same (at_last u ks h.nothing h.sort)
follow (u ∷ []) p ks h k (x ∷ []) back t e = cc
follow (u ∷ []) p ks h k (x ∷ y ∷ front) back t e = cc
follow (u ∷ v ∷ us) p ks h k [] back t e = let same : u ≡ t = cc in subst (At ks) same (at_stretch p u ks h.0 k)
follow (u ∷ v ∷ us) p ks h k (x ∷ front) back t e =
    let same : u ≡ x = cc in
    let rest : v ∷ us ≡ front ++ t ∷ back = cc in
    subst (λ (y : Written). At (fold kinds_behind (kinds_behind ks y) front) t) same
    (follow (v ∷ us) (behind p (role u.kind u.token)) (kinds_behind ks u) h.1 (knows p u ks h.0 k) front back t rest)

never : (begins : List Kind → Type 0) → (begins [] → ⊥) → (inside before : List Kind) → [] ≡ inside ++ before → begins before → ⊥
never begins none [] before e b = none (subst begins (sym e) b)
never begins none (x ∷ inside) before e b = cc

knows_start : Knows start.code []
knows_start =
    record {
      braces = refl;
      brackets = refl;
      list = record { so = λ e. absurd (false≢true e); if_so = λ s. absurd (never BeginsList (λ b. b) s.inside s.before s.splits s.begun) };
      fields = record { so = λ e. absurd (false≢true e); if_so = λ s. absurd (never BeginsTypedef (λ b. b) s.inside s.before s.splits s.begun) };
      head = refl;
      last = record { ended = λ e. cc; if_ended = λ m. absurd m; typed = refl; subtyped = refl; assigned = refl };
    }

pub exact : (text : List ℕ) → SeparatorsAreExact (stretches text)
exact text front back t e =
    let h = follow (stretches text) start [] (chained text) knows_start front back t e in
    record { only = h.only; each = h.each }
