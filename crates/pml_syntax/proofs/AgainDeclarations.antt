-- What is spelled as a declaration is read, as that very tree.
use Rattle.std.proofs.Common.{◌≡◌, ℕ, zero, suc, ◌<◌, ◌≤◌, Bool, true, false, List, [], ◌∷◌, ◌++◌, length, Option, Some, None, Ok, refl, ap, append_assoc, arith}
use Rattle.pml_token.specs.Word.{Word, same_kind}
use Rattle.pml_token.specs.declared.token.Kind.{Kind}
use Rattle.pml_token.specs.declared.token.Kind.TheVariants as k
use Rattle.pml_tree.specs.declared.tree.Scalar.{Scalar}
use Rattle.pml_tree.specs.declared.tree.Initial.{Initial}
use Rattle.pml_tree.specs.declared.tree.Reference.{Reference}
use Rattle.pml_tree.specs.declared.tree.Variable.{Variable}
use Rattle.promela_grammar.specs.declared.opener.Opener.{Opener}
use Rattle.promela_grammar.specs.Actions as grammar
use Rattle.promela_grammar.specs.Expressions.{SpellsReference, SpellsList}
use Rattle.promela_grammar.specs.Actions.{scalar, is_visibility, SpellsScalar, SpellsVisibility, SpellsOpener, SpellsInitial, SpellsVariable, SpellsVariables, SpellsDeclaration}
use Rattle.pml_syntax.specs.Starts.{declares}
use Rattle.pml_expression.specs.Reading as expressions
use Rattle.pml_expression.specs.Reading.{Read, and_then, pick, next, sees, expect, expect_all, expr}
use Rattle.pml_syntax.specs.ReadingStatements as reading
use Rattle.pml_syntax.specs.ReadingStatements.{skip_visibility, is_declaration}
use Rattle.pml_expression.proofs.Steps.{expect_again, is_kind, not_kind, at, index_moves, expr_moves, reference_moves}
use Rattle.pml_expression.proofs.Lists.{list_again, list_moves}
use Rattle.pml_expression.proofs.Again.{IsFree, IsQuiet, quiet_bracket, quiet_comma, index_again, reference_again}
use Rattle.pml_syntax.proofs.Begins.{follows, Stops, begins_expr, expr_begins}
use Rattle.pml_syntax.proofs.AgainActions.{expr_whole}

-- what comes behind a variable goes on with it not
pub record Settles (kind : Kind) : Type 0 where
  pub quiet : IsQuiet kind
  pub no_assign : same_kind kind k.Assign ≡ false

pub stops_settles : {kind : Kind} → Stops kind → Settles kind
stops_settles s = record { quiet = s.quiet; no_assign = s.no_assign }

settles_comma : Settles k.Comma
settles_comma = record { quiet = quiet_comma; no_assign = refl }

-- ---- types

scalar_no_visibility : (kind : Kind) (s : Scalar) → scalar kind ≡ Some s → is_visibility kind ≡ false
scalar_no_visibility k.Hidden s h = absurd cc
scalar_no_visibility k.Show s h = absurd cc
scalar_no_visibility k.Local s h = absurd cc
scalar_no_visibility _ s h = refl

pub opener_begins : {f : Opener} {from to : List Word} → SpellsOpener f from to → is_visibility (next from) ≡ false
opener_begins (grammar.of_scalar {w} {s} is) = scalar_no_visibility w.kind s is
opener_begins (grammar.of_unsigned is) = at (λ x. is_visibility x ≡ false) is refl
opener_begins (grammar.of_typedef is) = at (λ x. is_visibility x ≡ false) is refl

pub visibility_again : {from to : List Word} → SpellsVisibility from to → is_visibility (next to) ≡ false → skip_visibility from ≡ to
unfolding skip_visibility pick
visibility_again grammar.no_visibility h = rw h refl
visibility_again (grammar.visibility is) h = rw is refl

opener_again : {f : Opener} {from to : List Word} → SpellsOpener f from to → reading.opener_of from ≡ Ok (f, to)
unfolding reading.opener_of and_then pick sees
opener_again (grammar.of_scalar is) = rw is refl
opener_again (grammar.of_unsigned {w} {to} is) = let none : scalar w.kind ≡ None = at (λ x. scalar x ≡ None) is refl in rw (none, is_kind w.kind k.Unsigned is, expect_again k.Unsigned w to is) refl
opener_again (grammar.of_typedef {w} {to} is) = let none : scalar w.kind ≡ None = at (λ x. scalar x ≡ None) is refl in rw (none, not_kind w.kind k.Name k.Unsigned is refl, expect_again k.Name w to is) refl

-- behind what may say who sees it
pub typed_again : {f : Opener} {from middle to : List Word} → SpellsVisibility from middle → SpellsOpener f middle to → reading.opener_of (skip_visibility from) ≡ Ok (f, to)
typed_again v f = rw (visibility_again v (opener_begins f)) (opener_again f)

scalar_again : (s : Scalar) (from to : List Word) → SpellsScalar s from to → reading.scalar_of from ≡ Ok (s, to)
unfolding reading.scalar_of
scalar_again s from to (grammar.scalar_type is) = rw is refl

scalar_moves : (s : Scalar) (from to : List Word) → SpellsScalar s from to → length to < length from
scalar_moves s from to (grammar.scalar_type is) = omega arith

scalars_again : {ss : List Scalar} {from to : List Word} → SpellsList SpellsScalar ss from to → same_kind (next to) k.Comma ≡ false → expressions.list_from reading.scalar_of (length from) [] from ≡ Ok (ss, to)
scalars_again {from} h ends = list_again reading.scalar_of SpellsScalar (length from) (λ to. Unit {0}) scalar_moves (λ c ws is. tt) (λ s from to h low good. scalar_again s from to h) h (length from) (omega arith) (omega arith) tt ends []

pub visibility_moves : {from to : List Word} → SpellsVisibility from to → length to ≤ length from
visibility_moves grammar.no_visibility = omega arith
visibility_moves (grammar.visibility _) = omega arith

pub opener_moves : {f : Opener} {from to : List Word} → SpellsOpener f from to → length to < length from
opener_moves (grammar.of_scalar _) = omega arith
opener_moves (grammar.of_unsigned _) = omega arith
opener_moves (grammar.of_typedef _) = omega arith

-- ---- initial values

begins_no_bracket : (kind : Kind) → begins_expr kind ≡ true → same_kind kind k.OpenBracket ≡ false
begins_no_bracket k.OpenBracket h = absurd cc
begins_no_bracket _ h = refl

initial_begins : {closed : Bool} {i : Option Initial} {from to : List Word} → SpellsInitial closed i from to → (closed ≡ false → Settles (next to)) → same_kind (next from) k.OpenBracket ≡ false
initial_begins grammar.no_initial settle = (settle refl).quiet.free.no_index
initial_begins (grammar.value is _) settle = not_kind _ k.Assign k.OpenBracket is refl
initial_begins (grammar.channel is _ _ _ _ _ _ _) settle = not_kind _ k.Assign k.OpenBracket is refl

initial_again : {closed : Bool} {i : Option Initial} {from to : List Word} → SpellsInitial closed i from to → (depth : ℕ) → length from ≤ depth → (closed ≡ false → Settles (next to)) → reading.initial depth from ≡ Ok ((i, closed), to)
unfolding reading.initial reading.channel reading.capacity expressions.expr_behind expect_all and_then pick sees
initial_again grammar.no_initial depth room settle = rw (settle refl).no_assign refl
initial_again (grammar.value {o} {x} {from} {to} is h) depth room settle =
    rw (is_kind o.kind k.Assign is, expect_again k.Assign o from is, begins_no_bracket (next from) (expr_begins h), expr_whole h depth (omega arith) (settle refl).quiet) refl
initial_again (grammar.channel {w} {o} {c} {f} {d} {z} {x} {ss} {from} {types} {to} is opened h closed of brace ts last) depth room settle =
    rw (
      is_kind w.kind k.Assign is,
      expect_again k.Assign w (o ∷ from) is,
      is_kind o.kind k.OpenBracket opened,
      expect_again k.OpenBracket o from opened,
      expr_whole h depth (omega arith) (at IsQuiet closed quiet_bracket),
      expect_again k.CloseBracket c (f ∷ d ∷ types) closed,
      expect_again k.Of f (d ∷ types) of,
      expect_again k.OpenBrace d types brace,
      scalars_again ts (not_kind z.kind k.CloseBrace k.Comma last refl),
      expect_again k.CloseBrace z to last,
    ) refl

-- ---- variables

variable_again : {closed : Bool} {f : Opener} {v : Variable} {from to : List Word} → SpellsVariable closed f v from to → (depth : ℕ) → length from ≤ depth → (closed ≡ false → Settles (next to)) → reading.variable_by depth f from ≡ Ok ((v, closed), to)
unfolding reading.plain reading.structured reading.packed reading.packed_value expressions.expr_behind and_then pick sees
variable_again (grammar.plain {n} {from} is size i) depth room settle =
    rw (expect_again k.Name n from is, index_again size depth (omega arith) (initial_begins i settle), initial_again i depth (omega (arith, index_moves size)) settle) refl
variable_again (grammar.structured {n} {from} is size) depth room settle = rw (expect_again k.Name n from is, index_again size depth (omega arith) (settle refl).quiet.free.no_index) refl
variable_again (grammar.packed {n} {c} {w} {to} is colon wide) depth room settle =
    rw (expect_again k.Name n (c ∷ w ∷ to) is, expect_again k.Colon c (w ∷ to) colon, expect_again k.Number w to wide, (settle refl).no_assign) refl
variable_again (grammar.packed_value {n} {c} {w} {o} {x} {from} {to} is colon wide given h) depth room settle =
    rw (expect_again k.Name n (c ∷ w ∷ o ∷ from) is, expect_again k.Colon c (w ∷ o ∷ from) colon, expect_again k.Number w (o ∷ from) wide, is_kind o.kind k.Assign given, expect_again k.Assign o from given, expr_whole h depth (omega arith) (settle refl).quiet) refl

list_of_scalars_moves : {ss : List Scalar} {from to : List Word} → SpellsList SpellsScalar ss from to → length to < length from
list_of_scalars_moves h = list_moves scalar_moves h

initial_moves : {closed : Bool} {i : Option Initial} {from to : List Word} → SpellsInitial closed i from to → length to ≤ length from
initial_moves grammar.no_initial = omega arith
initial_moves (grammar.value _ x) = omega (arith, expr_moves x)
initial_moves (grammar.channel _ _ x _ _ _ ts _) = omega (arith, expr_moves x, list_of_scalars_moves ts)

variable_moves : {closed : Bool} {f : Opener} {v : Variable} {from to : List Word} → SpellsVariable closed f v from to → length to < length from
variable_moves (grammar.plain _ size i) = omega (arith, index_moves size, initial_moves i)
variable_moves (grammar.structured _ size) = omega (arith, index_moves size)
variable_moves (grammar.packed _ _ _) = omega arith
variable_moves (grammar.packed_value _ _ _ _ x) = omega (arith, expr_moves x)

variables_move : {closed : Bool} {f : Opener} {vs : List Variable} {from to : List Word} → SpellsVariables closed f vs from to → length to < length from
variables_move (grammar.last_variable v) = variable_moves v
variables_move (grammar.more_variables v _ vs) = omega (arith, variable_moves v, variables_move vs)

variables_again : {closed : Bool} {f : Opener} {vs : List Variable} {from to : List Word} → SpellsVariables closed f vs from to → (depth turns : ℕ) → length from ≤ depth → length from ≤ turns → (closed ≡ false → Settles (next to)) → same_kind (next to) k.Comma ≡ false → (found : List Variable)
    → reading.variables_from depth turns f found from ≡ Ok ((found ++ vs, closed), to)
unfolding reading.variables_from and_then pick sees
variables_again (grammar.last_variable v) depth zero room enough settle ends found = absurd (omega (arith, variable_moves v))
variables_again (grammar.last_variable v) depth (suc n) room enough settle ends found = rw (variable_again v depth room settle, ends) refl
variables_again (grammar.more_variables v is vs) depth zero room enough settle ends found = absurd (omega (arith, variable_moves v))
variables_again (grammar.more_variables {closed} {later} {f} {v = x} {vs = xs} {c} {from} {middle} {to} v is vs) depth (suc n) room enough settle ends found =
    rw (variable_again v depth room (λ _. at Settles is settles_comma), is_kind c.kind k.Comma is, expect_again k.Comma c middle is, variables_again vs depth n (omega (arith, variable_moves v)) (omega (arith, variable_moves v)) settle ends (found ++ x ∷ []))
    (ap (λ (r : List Variable). Ok ((r, later), to)) (append_assoc found (x ∷ []) xs))

pub declaration_moves : {closed : Bool} {vs : List Variable} {from to : List Word} → SpellsDeclaration closed vs from to → length to < length from
declaration_moves (grammar.declaration v f vs) = omega (arith, visibility_moves v, opener_moves f, variables_move vs)

pub declaration_again : {closed : Bool} {vs : List Variable} {from to : List Word} → SpellsDeclaration closed vs from to → (depth : ℕ) → length from ≤ depth → (closed ≡ false → Settles (next to)) → same_kind (next to) k.Comma ≡ false → (found : List Variable)
    → reading.declaration_from depth found from ≡ Ok ((found ++ vs, closed), to)
unfolding reading.declaration_from and_then
declaration_again (grammar.declaration {named} v f vs) depth room settle ends found =
    rw (typed_again v f, variables_again vs depth (length named) (omega (arith, visibility_moves v, opener_moves f)) (omega arith) settle ends found) refl

-- ---- what begins a declaration

pub visible_declares : (kind : Kind) → is_visibility kind ≡ true → declares kind ≡ true
visible_declares k.Hidden h = refl
visible_declares k.Show h = refl
visible_declares k.Local h = refl
visible_declares _ h = absurd cc

pub scalar_declares : (kind : Kind) (s : Scalar) → scalar kind ≡ Some s → declares kind ≡ true
scalar_declares k.Bit s h = refl
scalar_declares k.Bool s h = refl
scalar_declares k.Byte s h = refl
scalar_declares k.Chan s h = refl
scalar_declares k.Mtype s h = refl
scalar_declares k.Pid s h = refl
scalar_declares k.Short s h = refl
scalar_declares k.Int s h = refl
scalar_declares _ s h = absurd cc

variable_begins : {closed : Bool} {f : Opener} {v : Variable} {from to : List Word} → SpellsVariable closed f v from to → next from ≡ k.Name
variable_begins (grammar.plain is _ _) = is
variable_begins (grammar.structured is _) = is
variable_begins (grammar.packed is _ _) = is
variable_begins (grammar.packed_value is _ _ _ _) = is

pub variables_begin : {closed : Bool} {f : Opener} {vs : List Variable} {from to : List Word} → SpellsVariables closed f vs from to → next from ≡ k.Name
variables_begin (grammar.last_variable v) = variable_begins v
variables_begin (grammar.more_variables v _ _) = variable_begins v

declares_at : (ts : List Word) → declares (next ts) ≡ true → is_declaration ts ≡ true
unfolding is_declaration
declares_at ts h = rw h refl

pub declaration_is : {closed : Bool} {vs : List Variable} {from to : List Word} → SpellsDeclaration closed vs from to → is_declaration from ≡ true
unfolding is_declaration sees
declaration_is (grammar.declaration {from} (grammar.visibility {w} is) f vs) = declares_at from (visible_declares w.kind is)
declaration_is (grammar.declaration {from} grammar.no_visibility (grammar.of_scalar {w} {s} is) vs) = declares_at from (scalar_declares w.kind s is)
declaration_is (grammar.declaration {from} grammar.no_visibility (grammar.of_unsigned is) vs) = declares_at from (at (λ x. declares x ≡ true) is refl)
declaration_is (grammar.declaration {named} grammar.no_visibility (grammar.of_typedef {w} is) vs) =
    let none : declares w.kind ≡ false = at (λ x. declares x ≡ false) is refl in
    rw (none, is_kind w.kind k.Name is, is_kind (next named) k.Name (variables_begin vs)) refl

-- what a token that begins a declaration is not
pub record BeginsDeclaration (kind : Kind) : Type 0 where
  pub no_follow : follows kind ≡ false
  pub no_comma : same_kind kind k.Comma ≡ false

declares_begins : (kind : Kind) → declares kind ≡ true → BeginsDeclaration kind
declares_begins k.Comma h = absurd cc
declares_begins k.Semicolon h = absurd cc
declares_begins k.Arrow h = absurd cc
declares_begins k.CloseBrace h = absurd cc
declares_begins k.Fi h = absurd cc
declares_begins k.Od h = absurd cc
declares_begins k.DoubleColon h = absurd cc
declares_begins k.End h = absurd cc
declares_begins k.Unless h = absurd cc
declares_begins _ h = record { no_follow = refl; no_comma = refl }

pub declaration_begins : {closed : Bool} {vs : List Variable} {from to : List Word} → SpellsDeclaration closed vs from to → BeginsDeclaration (next from)
declaration_begins (grammar.declaration (grammar.visibility {w} is) f vs) = declares_begins w.kind (visible_declares w.kind is)
declaration_begins (grammar.declaration grammar.no_visibility (grammar.of_scalar {w} {s} is) vs) = declares_begins w.kind (scalar_declares w.kind s is)
declaration_begins (grammar.declaration grammar.no_visibility (grammar.of_unsigned is) vs) = at BeginsDeclaration is (record { no_follow = refl; no_comma = refl })
declaration_begins (grammar.declaration grammar.no_visibility (grammar.of_typedef is) vs) = at BeginsDeclaration is (record { no_follow = refl; no_comma = refl })

-- ---- references

pub references_again : {rs : List Reference} {from to : List Word} → SpellsList SpellsReference rs from to → (depth : ℕ) → length from ≤ depth → IsFree (next to) → same_kind (next to) k.Comma ≡ false → reading.references depth from ≡ Ok (rs, to)
unfolding reading.references
references_again {from} h depth room free ends =
    list_again (expressions.reference (expr depth)) SpellsReference depth (λ to. IsFree (next to)) (λ r from to s. reference_moves s) (λ c ws is. at IsFree is quiet_comma.free) (λ r from to s low good. reference_again s depth (omega arith) good) h (length from) room (omega arith) free ends []

pub references_move : {rs : List Reference} {from to : List Word} → SpellsList SpellsReference rs from to → length to < length from
references_move h = list_moves (λ r from to s. reference_moves s) h
