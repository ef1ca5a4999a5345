-- What is spelled as a model is read, as that very tree.
use Rattle.std.proofs.Common.{◌≡◌, ℕ, zero, suc, ◌<◌, ◌≤◌, Bool, true, false, List, [], ◌∷◌, ◌++◌, length, Some, None, Ok, ◌⊎◌, inl, inr, refl, sym, ap, subst, ◌∙◌, append_assoc, arith}
use Rattle.std.proofs.lemmas.List.{append-nil}
use Rattle.pml_token.specs.Word.{Word, same_kind}
use Rattle.pml_token.specs.declared.token.Kind.{Kind}
use Rattle.pml_token.specs.declared.token.Kind.TheVariants as k
use Rattle.pml_tree.specs.declared.tree.Scalar.{Scalar}
use Rattle.pml_tree.specs.declared.tree.Variable.{Variable}
use Rattle.pml_tree.specs.declared.tree.Item.{Item}
use Rattle.pml_tree.specs.declared.tree.Starts.{Starts}
use Rattle.pml_tree.specs.declared.tree.Unit.{Unit as ModelUnit}
use Rattle.pml_tree.specs.declared.tree.Tree.{Tree}
use Rattle.promela_grammar.specs.declared.opener.Opener.{Opener}
use Rattle.pml_syntax.specs.declared.starts.Head.TheVariants as h
use Rattle.promela_grammar.specs.Actions as grammar
use Rattle.promela_grammar.specs.Models as bodies
use Rattle.promela_grammar.specs.Expressions.{operator, query, SpellsList}
use Rattle.promela_grammar.specs.Actions.{scalar, is_visibility, SpellsName, SpellsVisibility, SpellsOpener, SpellsVariables, SpellsDeclaration}
use Rattle.promela_grammar.specs.Models.{SpellsBody, SpellsSemicolons, SpellsMembers, SpellsParameter, SpellsMoreParameters, SpellsParameters, SpellsStarts, SpellsUnit, SpellsUnits, Spells}
use Rattle.pml_syntax.specs.Starts.{declares, head, is_end}
use Rattle.pml_expression.specs.Reading as expressions
use Rattle.pml_expression.specs.Reading.{Read, and_then, pick, next, sees, expect, expect_name, expr, is_empty}
use Rattle.pml_syntax.specs.ReadingStatements as statements
use Rattle.pml_syntax.specs.ReadingUnits as reading
use Rattle.pml_syntax.specs.ReadingUnits.{skip_semicolons, parts_parameters}
use Rattle.pml_expression.proofs.Steps.{expect_again, is_kind, not_kind, at, expr_moves}
use Rattle.pml_expression.proofs.Lists.{list_again, list_moves}
use Rattle.pml_expression.proofs.Again.{IsFree, IsQuiet, quiet_bracket}
use Rattle.pml_syntax.proofs.Begins.{follows, Stops}
use Rattle.pml_syntax.proofs.AgainActions.{expr_whole}
use Rattle.pml_syntax.proofs.AgainDeclarations.{Settles, stops_settles, typed_again, visibility_moves, opener_moves, declaration_moves, declaration_again, declaration_begins, visible_declares, scalar_declares, variables_begin}
use Rattle.pml_syntax.proofs.AgainBodies.{items_begin, items_again, items_move}

-- ---- what comes behind a unit

stop_none : (kind : Kind) → operator kind ≡ None → query kind ≡ None → same_kind kind k.OpenBracket ≡ false → same_kind kind k.Dot ≡ false → same_kind kind k.Comma ≡ false → same_kind kind k.OpenParen ≡ false → same_kind kind k.Assign ≡ false → Stops kind
stop_none kind h1 h2 h3 h4 h5 h6 h7 =
    let free : IsFree kind = record { no_index = h3; no_dot = h4 } in
    record { quiet = record { no_operator = h1; no_query = h2; free = free }; last = record { no_comma = h5; no_paren = h6; free = free }; no_assign = h7 }

abbrev begins_unit : Kind → Bool
begins_unit k.Name = true
begins_unit k.Typedef = true
begins_unit k.Active = true
begins_unit k.Proctype = true
begins_unit k.Init = true
begins_unit kind = declares kind

record BeginsUnit (kind : Kind) : Type 0 where
  stops : Stops kind
  no_semicolon : same_kind kind k.Semicolon ≡ false

unit_kind : (kind : Kind) → begins_unit kind ≡ true → BeginsUnit kind
unit_kind k.Name is = record { stops = stop_none k.Name refl refl refl refl refl refl refl; no_semicolon = refl }
unit_kind k.Typedef is = record { stops = stop_none k.Typedef refl refl refl refl refl refl refl; no_semicolon = refl }
unit_kind k.Active is = record { stops = stop_none k.Active refl refl refl refl refl refl refl; no_semicolon = refl }
unit_kind k.Proctype is = record { stops = stop_none k.Proctype refl refl refl refl refl refl refl; no_semicolon = refl }
unit_kind k.Init is = record { stops = stop_none k.Init refl refl refl refl refl refl refl; no_semicolon = refl }
unit_kind k.Hidden is = record { stops = stop_none k.Hidden refl refl refl refl refl refl refl; no_semicolon = refl }
unit_kind k.Show is = record { stops = stop_none k.Show refl refl refl refl refl refl refl; no_semicolon = refl }
unit_kind k.Local is = record { stops = stop_none k.Local refl refl refl refl refl refl refl; no_semicolon = refl }
unit_kind k.Bit is = record { stops = stop_none k.Bit refl refl refl refl refl refl refl; no_semicolon = refl }
unit_kind k.Bool is = record { stops = stop_none k.Bool refl refl refl refl refl refl refl; no_semicolon = refl }
unit_kind k.Byte is = record { stops = stop_none k.Byte refl refl refl refl refl refl refl; no_semicolon = refl }
unit_kind k.Chan is = record { stops = stop_none k.Chan refl refl refl refl refl refl refl; no_semicolon = refl }
unit_kind k.Mtype is = record { stops = stop_none k.Mtype refl refl refl refl refl refl refl; no_semicolon = refl }
unit_kind k.Pid is = record { stops = stop_none k.Pid refl refl refl refl refl refl refl; no_semicolon = refl }
unit_kind k.Short is = record { stops = stop_none k.Short refl refl refl refl refl refl refl; no_semicolon = refl }
unit_kind k.Int is = record { stops = stop_none k.Int refl refl refl refl refl refl refl; no_semicolon = refl }
unit_kind k.Unsigned is = record { stops = stop_none k.Unsigned refl refl refl refl refl refl refl; no_semicolon = refl }
unit_kind _ is = absurd cc

declares_unit : (kind : Kind) → declares kind ≡ true → begins_unit kind ≡ true
declares_unit k.Name is = refl
declares_unit k.Typedef is = refl
declares_unit k.Active is = refl
declares_unit k.Proctype is = refl
declares_unit k.Init is = refl
declares_unit _ is = is

declaration_unit : {closed : Bool} {vs : List Variable} {from to : List Word} → SpellsDeclaration closed vs from to → begins_unit (next from) ≡ true
declaration_unit (grammar.declaration (grammar.visibility {w} is) f vs) = declares_unit w.kind (visible_declares w.kind is)
declaration_unit (grammar.declaration grammar.no_visibility (grammar.of_scalar {w} {s} is) vs) = declares_unit w.kind (scalar_declares w.kind s is)
declaration_unit (grammar.declaration grammar.no_visibility (grammar.of_unsigned is) vs) = at (λ x. begins_unit x ≡ true) is refl
declaration_unit (grammar.declaration grammar.no_visibility (grammar.of_typedef is) vs) = at (λ x. begins_unit x ≡ true) is refl

unit_begins : {x : ModelUnit} {from to : List Word} → SpellsUnit x from to → begins_unit (next from) ≡ true
unit_begins (bodies.variables d) = declaration_unit d
unit_begins (bodies.constants is _ _ _) = at (λ x. begins_unit x ≡ true) is refl
unit_begins (bodies.equal_constants is _ _ _ _) = at (λ x. begins_unit x ≡ true) is refl
unit_begins (bodies.typedef is _ _ _ _) = at (λ x. begins_unit x ≡ true) is refl
unit_begins (bodies.proctype bodies.never is _ _ _ _ _ _ _) = at (λ x. begins_unit x ≡ true) is refl
unit_begins (bodies.proctype (bodies.once is) _ _ _ _ _ _ _ _) = at (λ x. begins_unit x ≡ true) is refl
unit_begins (bodies.proctype (bodies.times is _ _ _) _ _ _ _ _ _ _ _) = at (λ x. begins_unit x ≡ true) is refl
unit_begins (bodies.init is _ _ _) = at (λ x. begins_unit x ≡ true) is refl

units_stop : {us : List ModelUnit} {from : List Word} → SpellsUnits us from → Stops (next from)
units_stop bodies.no_unit = stop_none k.End refl refl refl refl refl refl refl
units_stop (bodies.semicolon is _) = at Stops is (stop_none k.Semicolon refl refl refl refl refl refl refl)
units_stop (bodies.unit {from} x _) = (unit_kind (next from) (unit_begins x)).stops

-- ---- semicolons

semicolons_again : {from to : List Word} → SpellsSemicolons from to → same_kind (next to) k.Semicolon ≡ false → skip_semicolons from ≡ to
unfolding skip_semicolons sees pick
semicolons_again (bodies.no_semicolon {to = []}) none = refl
semicolons_again (bodies.no_semicolon {to = w ∷ ws}) none = rw none refl
semicolons_again (bodies.one_semicolon {s} is rest) none = rw (is_kind s.kind k.Semicolon is) (semicolons_again rest none)

skip_one : (s : Word) (ts : List Word) → s.kind ≡ k.Semicolon → skip_semicolons (s ∷ ts) ≡ skip_semicolons ts
unfolding skip_semicolons sees pick
skip_one s ts is = rw (is_kind s.kind k.Semicolon is) refl

semicolons_move : {from to : List Word} → SpellsSemicolons from to → length to ≤ length from
semicolons_move bodies.no_semicolon = omega arith
semicolons_move (bodies.one_semicolon _ rest) = omega (arith, semicolons_move rest)

-- ---- parameters

parameter_again : {f : Opener} {v : Variable} {from to : List Word} → SpellsParameter f v from to → reading.parameter_by f from ≡ Ok (v, to)
unfolding reading.plain_parameter reading.packed_parameter and_then
parameter_again (bodies.plain_parameter {n} {to} is) = rw (expect_again k.Name n to is) refl
parameter_again (bodies.packed_parameter {n} {c} {w} {to} is colon wide) = rw (expect_again k.Name n (c ∷ w ∷ to) is, expect_again k.Colon c (w ∷ to) colon, expect_again k.Number w to wide) refl

parameter_moves : {f : Opener} {v : Variable} {from to : List Word} → SpellsParameter f v from to → length to < length from
parameter_moves (bodies.plain_parameter _) = omega arith
parameter_moves (bodies.packed_parameter _ _ _) = omega arith

parameter_begins : {f : Opener} {v : Variable} {from to : List Word} → SpellsParameter f v from to → next from ≡ k.Name
parameter_begins (bodies.plain_parameter is) = is
parameter_begins (bodies.packed_parameter is _ _) = is

typed_parameter_again : {f : Opener} {v : Variable} {from typed named to : List Word} → SpellsVisibility from typed → SpellsOpener f typed named → SpellsParameter f v named to → reading.typed_parameter from ≡ Ok ((v, f), to)
unfolding reading.typed_parameter and_then
typed_parameter_again vis f v = rw (typed_again vis f, parameter_again v) refl

typed_declares : {f : Opener} {v : Variable} {from typed named to : List Word} → SpellsVisibility from typed → SpellsOpener f typed named → SpellsParameter f v named to → declares (next from) ≡ true
typed_declares (grammar.visibility {w} is) f v = visible_declares w.kind is
typed_declares grammar.no_visibility (grammar.of_scalar {w} {s} is) v = scalar_declares w.kind s is
typed_declares grammar.no_visibility (grammar.of_unsigned is) v = at (λ x. declares x ≡ true) is refl
typed_declares grammar.no_visibility (grammar.of_typedef is) v = absurd (named_none v)
  where
    named_none : {w : Word} {v : Variable} {from to : List Word} → SpellsParameter (Rattle.promela_grammar.specs.declared.opener.Opener.TheVariants.Named w) v from to → ⊥
    named_none v = elim v [ ]

more_parameters_again : {f : Opener} {vs : List Variable} {from to : List Word} → SpellsMoreParameters f vs from to → (turns : ℕ) → length from ≤ turns → parts_parameters (next to) ≡ false → (found : List Variable) → reading.parameters_from turns f found from ≡ Ok (found ++ vs, to)
unfolding reading.parameters_from reading.more_parameter reading.next_parameter sees and_then pick
more_parameters_again (bodies.no_more_parameters {to}) zero room ends found = ap (λ (r : List Variable). Ok (r, to)) (sym (append-nil found))
more_parameters_again (bodies.no_more_parameters {to}) (suc n) room ends found = rw ends (ap (λ (r : List Variable). Ok (r, to)) (sym (append-nil found)))
more_parameters_again (bodies.same_type is v vs) zero room ends found = absurd (omega arith)
more_parameters_again (bodies.same_type {c} {v = x} {vs = xs} {from} {to} is v vs) (suc n) room ends found =
    let parts : parts_parameters c.kind ≡ true = at (λ z. parts_parameters z ≡ true) is refl in
    let bare : declares (next from) ≡ false = at (λ z. declares z ≡ false) (parameter_begins v) refl in
    rw (parts, not_kind c.kind k.Comma k.Semicolon is refl, bare, parameter_again v, more_parameters_again vs n (omega (arith, parameter_moves v)) ends (found ++ x ∷ []))
    (ap (λ (r : List Variable). Ok (r, to)) (append_assoc found (x ∷ []) xs))
more_parameters_again (bodies.comma_parameter is vis t v vs) zero room ends found = absurd (omega arith)
more_parameters_again (bodies.comma_parameter {c} {v = x} {vs = xs} {to} is vis t v vs) (suc n) room ends found =
    let parts : parts_parameters c.kind ≡ true = at (λ z. parts_parameters z ≡ true) is refl in
    rw (parts, not_kind c.kind k.Comma k.Semicolon is refl, typed_declares vis t v, typed_parameter_again vis t v, more_parameters_again vs n (omega (arith, visibility_moves vis, opener_moves t, parameter_moves v)) ends (found ++ x ∷ []))
    (ap (λ (r : List Variable). Ok (r, to)) (append_assoc found (x ∷ []) xs))
more_parameters_again (bodies.semicolon_parameter is vis t v vs) zero room ends found = absurd (omega arith)
more_parameters_again (bodies.semicolon_parameter {c} {v = x} {vs = xs} {to} is vis t v vs) (suc n) room ends found =
    let parts : parts_parameters c.kind ≡ true = at (λ z. parts_parameters z ≡ true) is refl in
    rw (parts, is_kind c.kind k.Semicolon is, typed_parameter_again vis t v, more_parameters_again vs n (omega (arith, visibility_moves vis, opener_moves t, parameter_moves v)) ends (found ++ x ∷ []))
    (ap (λ (r : List Variable). Ok (r, to)) (append_assoc found (x ∷ []) xs))

declares_no_close : (kind : Kind) → declares kind ≡ true → same_kind kind k.CloseParen ≡ false
declares_no_close k.CloseParen is = absurd cc
declares_no_close _ is = refl

parameters_again : {vs : List Variable} {from to : List Word} → SpellsParameters vs from to → next to ≡ k.CloseParen → reading.parameters from ≡ Ok (vs, to)
unfolding reading.parameters sees and_then pick
parameters_again (bodies.no_parameters {to}) close = rw (is_kind (next to) k.CloseParen close) refl
parameters_again (bodies.parameters {v = x} {from} {middle} {to} vis t v vs) close =
    rw (declares_no_close (next from) (typed_declares vis t v), typed_parameter_again vis t v, more_parameters_again vs (length middle) (omega arith) (at (λ z. parts_parameters z ≡ false) close refl) (x ∷ [])) refl

more_parameters_move : {f : Opener} {vs : List Variable} {from to : List Word} → SpellsMoreParameters f vs from to → length to ≤ length from
more_parameters_move bodies.no_more_parameters = omega arith
more_parameters_move (bodies.same_type _ v vs) = omega (arith, parameter_moves v, more_parameters_move vs)
more_parameters_move (bodies.comma_parameter _ vis t v vs) = omega (arith, visibility_moves vis, opener_moves t, parameter_moves v, more_parameters_move vs)
more_parameters_move (bodies.semicolon_parameter _ vis t v vs) = omega (arith, visibility_moves vis, opener_moves t, parameter_moves v, more_parameters_move vs)

parameters_move : {vs : List Variable} {from to : List Word} → SpellsParameters vs from to → length to ≤ length from
parameters_move bodies.no_parameters = omega arith
parameters_move (bodies.parameters vis t v vs) = omega (arith, visibility_moves vis, opener_moves t, parameter_moves v, more_parameters_move vs)

-- ---- parts of units

name_again : (n : Word) (from to : List Word) → SpellsName n from to → expect k.Name from ≡ Ok (n, to)
name_again n from to (grammar.name is) = expect_again k.Name n to is

name_moves : (n : Word) (from to : List Word) → SpellsName n from to → length to < length from
name_moves n from to (grammar.name _) = omega arith

names_again : {ns : List Word} (o c : Word) {from to : List Word} → o.kind ≡ k.OpenBrace → SpellsList SpellsName ns from (c ∷ to) → c.kind ≡ k.CloseBrace → reading.names (o ∷ from) ≡ Ok (ns, to)
unfolding reading.names and_then
names_again o c {from} {to} opened ns closed =
    let inside = list_again (expect k.Name) SpellsName (length from) (λ to. Unit {0}) name_moves (λ c ws is. tt) (λ n from to s low good. name_again n from to s) ns (length from) (omega arith) (omega arith) tt (not_kind c.kind k.CloseBrace k.Comma closed refl) [] in
    rw (expect_again k.OpenBrace o from opened, inside, expect_again k.CloseBrace c to closed) refl

starts_again : {s : Starts} {from to : List Word} → SpellsStarts s from to → (depth : ℕ) → length from ≤ depth → next to ≡ k.Proctype → reading.starts depth from ≡ Ok (s, to)
unfolding reading.starts expressions.index expressions.expr_between expressions.expr_behind expressions.closing sees and_then pick
starts_again (bodies.never {to}) depth room word = rw (not_kind (next to) k.Proctype k.Active word refl) refl
starts_again (bodies.once {w} {to} is) depth room word = rw (is_kind w.kind k.Active is, expect_again k.Active w to is, not_kind (next to) k.Proctype k.OpenBracket word refl) refl
starts_again (bodies.times {w} {o} {c} {x} {from} {to} is opened h closed) depth room word =
    rw (is_kind w.kind k.Active is, expect_again k.Active w (o ∷ from) is, is_kind o.kind k.OpenBracket opened, expect_again k.OpenBracket o from opened, expr_whole h depth (omega arith) (at IsQuiet closed quiet_bracket), expect_again k.CloseBracket c to closed) refl

starts_move : {s : Starts} {from to : List Word} → SpellsStarts s from to → length to ≤ length from
starts_move bodies.never = omega arith
starts_move (bodies.once _) = omega arith
starts_move (bodies.times _ _ x _) = omega (arith, expr_moves x)

-- what comes behind the declarations of a typedef
record EndsMember (kind : Kind) : Type 0 where
  settles : Settles kind
  no_comma : same_kind kind k.Comma ≡ false

ends_semicolon : EndsMember k.Semicolon
ends_semicolon = let s = stop_none k.Semicolon refl refl refl refl refl refl refl in record { settles = stops_settles s; no_comma = s.last.no_comma }

ends_brace : EndsMember k.CloseBrace
ends_brace = let s = stop_none k.CloseBrace refl refl refl refl refl refl refl in record { settles = stops_settles s; no_comma = s.last.no_comma }

semicolons_end : {from to : List Word} → SpellsSemicolons from to → next to ≡ k.CloseBrace → EndsMember (next from)
semicolons_end bodies.no_semicolon close = at EndsMember close ends_brace
semicolons_end (bodies.one_semicolon is _) close = at EndsMember is ends_semicolon

record BeginsMember (kind : Kind) : Type 0 where
  no_close : same_kind kind k.CloseBrace ≡ false
  no_semicolon : same_kind kind k.Semicolon ≡ false

begins_member : (kind : Kind) → follows kind ≡ false → BeginsMember kind
begins_member k.CloseBrace none = absurd cc
begins_member k.Semicolon none = absurd cc
begins_member _ none = record { no_close = refl; no_semicolon = refl }

members_begin : {vs : List Variable} {from to : List Word} → SpellsMembers vs from to → BeginsMember (next from)
members_begin (bodies.last_members d _) = begins_member _ (declaration_begins d).no_follow
members_begin (bodies.more_members d _ _ _) = begins_member _ (declaration_begins d).no_follow

members_move : {vs : List Variable} {from to : List Word} → SpellsMembers vs from to → length to < length from
members_move (bodies.last_members d s) = omega (arith, declaration_moves d, semicolons_move s)
members_move (bodies.more_members d _ s vs) = omega (arith, declaration_moves d, semicolons_move s, members_move vs)

members_again : {vs : List Variable} {from to : List Word} → SpellsMembers vs from to → (depth turns : ℕ) → length from ≤ depth → length from ≤ turns → next to ≡ k.CloseBrace → (found : List Variable) → reading.members_from depth turns found from ≡ Ok (found ++ vs, to)
unfolding reading.members_from sees and_then pick
members_again (bodies.last_members d s) depth zero room enough close found = absurd (omega (arith, declaration_moves d))
members_again (bodies.last_members {to} d s) depth (suc n) room enough close found =
    let ends = semicolons_end s close in
    rw (declaration_again d depth room (λ _. ends.settles) ends.no_comma found, semicolons_again s (not_kind (next to) k.CloseBrace k.Semicolon close refl), is_kind (next to) k.CloseBrace close) refl
members_again (bodies.more_members d is s rest) depth zero room enough close found = absurd (omega (arith, declaration_moves d))
members_again (bodies.more_members {s = w} {vs} {ws} {middle} {later} {to} d is s rest) depth (suc n) room enough close found =
    let begins = members_begin rest in
    let ends = at EndsMember is ends_semicolon in
    let skipped : skip_semicolons (w ∷ middle) ≡ later = skip_one w middle is ∙ semicolons_again s begins.no_semicolon in
    rw (declaration_again d depth room (λ _. ends.settles) ends.no_comma found, skipped, begins.no_close, is_kind w.kind k.Semicolon is, members_again rest depth n (omega (arith, declaration_moves d, semicolons_move s)) (omega (arith, declaration_moves d, semicolons_move s)) close (found ++ vs))
    (ap (λ (r : List Variable). Ok (r, to)) (append_assoc found vs ws))

items_deep : (depth : ℕ) (x : List Item × Bool) (from to : List Word) → length from < depth → ((d : ℕ) → length from ≤ d → statements.items_from d (statements.items d) (length from) false [] from ≡ Ok (x, to)) → statements.items depth from ≡ Ok (x, to)
unfolding statements.items
items_deep zero x from to room g = absurd (omega arith)
items_deep (suc d) x from to room g = g d (omega arith)

begins_no_close : (kind : Kind) → follows kind ≡ false → same_kind kind k.CloseBrace ≡ false
begins_no_close k.CloseBrace none = absurd cc
begins_no_close _ none = refl

body_again : {xs : List Item} (o c : Word) {from to : List Word} → o.kind ≡ k.OpenBrace → SpellsBody xs from (c ∷ to) → c.kind ≡ k.CloseBrace → (depth : ℕ) → length from < depth → reading.body depth (o ∷ from) ≡ Ok ((xs, c), to)
unfolding reading.body reading.items_or_none sees and_then pick
body_again o c {to} opened bodies.no_item closed depth room = rw (expect_again k.OpenBrace o (c ∷ to) opened, is_kind c.kind k.CloseBrace closed, expect_again k.CloseBrace c to closed) refl
body_again o c {from} {to} opened (bodies.some_items {steps} {xs} h) closed depth room =
    let inside = items_deep depth (xs, steps) from (c ∷ to) room (λ d deep. items_again h d (length from) deep (omega arith) (at (λ x. is_end x ≡ true) closed refl) false []) in
    rw (expect_again k.OpenBrace o from opened, begins_no_close (next from) (items_begin h).no_follow, inside, expect_again k.CloseBrace c to closed) refl

body_moves : {xs : List Item} {from to : List Word} → SpellsBody xs from to → length to ≤ length from
body_moves bodies.no_item = omega arith
body_moves (bodies.some_items xs) = omega (arith, items_move xs)

-- ---- units

unit_at : {kind : Kind} (depth : ℕ) (ts : List Word) (r : Read ModelUnit) → next ts ≡ kind → reading.unit_by depth (head kind) ts ≡ r → reading.unit depth ts ≡ r
unfolding reading.unit
unit_at depth ts r is g = subst (λ (x : Kind). reading.unit_by depth (head x) ts ≡ r) (sym is) g

visible_head : (kind : Kind) → is_visibility kind ≡ true → head kind ≡ h.Other
visible_head k.Hidden is = refl
visible_head k.Show is = refl
visible_head k.Local is = refl
visible_head _ is = absurd cc

scalar_head : (kind : Kind) (s : Scalar) → scalar kind ≡ Some s → (head kind ≡ h.Other) ⊎ (head kind ≡ h.Mtype)
scalar_head k.Bit s is = inl refl
scalar_head k.Bool s is = inl refl
scalar_head k.Byte s is = inl refl
scalar_head k.Chan s is = inl refl
scalar_head k.Mtype s is = inr refl
scalar_head k.Pid s is = inl refl
scalar_head k.Short s is = inl refl
scalar_head k.Int s is = inl refl
scalar_head _ s is = absurd cc

-- a declaration is not taken for another unit
declared_unit : {closed : Bool} {vs : List Variable} {from to : List Word} → SpellsDeclaration closed vs from to → (depth : ℕ) (r : Read ModelUnit) → reading.variables depth from ≡ r → reading.unit depth from ≡ r
unfolding reading.unit sees pick
declared_unit (grammar.declaration (grammar.visibility {w} is) f vs) depth r g = rw (visible_head w.kind is) g
declared_unit (grammar.declaration {named} grammar.no_visibility (grammar.of_scalar {w} {s} is) vs) depth r g = elim (scalar_head w.kind s is) [
  | inl other ↦ rw other g
  | inr mtype ↦ rw (mtype, is_kind (next named) k.Name (variables_begin vs)) g
]
declared_unit (grammar.declaration grammar.no_visibility (grammar.of_unsigned {w} is) vs) depth r g = let other : head w.kind ≡ h.Other = at (λ x. head x ≡ h.Other) is refl in rw other g
declared_unit (grammar.declaration grammar.no_visibility (grammar.of_typedef {w} is) vs) depth r g = let other : head w.kind ≡ h.Other = at (λ x. head x ≡ h.Other) is refl in rw other g

unit_again : {x : ModelUnit} {from to : List Word} → SpellsUnit x from to → (depth : ℕ) → length from ≤ depth → Stops (next to) → reading.unit depth from ≡ Ok (x, to)
unfolding reading.variables reading.constants reading.typedef reading.proctype reading.process reading.signature reading.init expect_name sees and_then pick
unit_again (bodies.variables d) depth room s = declared_unit d depth _ (rw (declaration_again d depth room (λ _. stops_settles s) s.last.no_comma []) refl)
unit_again (bodies.constants {w} {o} {c} {from} is opened ns closed) depth room s =
    unit_at depth (w ∷ o ∷ from) _ is (rw (not_kind o.kind k.OpenBrace k.Name opened refl, not_kind o.kind k.OpenBrace k.Assign opened refl, names_again o c opened ns closed) refl)
unit_again (bodies.equal_constants {w} {q} {o} {c} {from} is sign opened ns closed) depth room s =
    unit_at depth (w ∷ q ∷ o ∷ from) _ is (rw (not_kind q.kind k.Assign k.Name sign refl, is_kind q.kind k.Assign sign, expect_again k.Assign q (o ∷ from) sign, names_again o c opened ns closed) refl)
unit_again (bodies.typedef {w} {n} {o} {c} {from} {to} is named opened vs closed) depth room s =
    unit_at depth (w ∷ n ∷ o ∷ from) _ is
    (rw (expect_again k.Typedef w (n ∷ o ∷ from) is, expect_again k.Name n (o ∷ from) named, expect_again k.OpenBrace o from opened, members_again vs depth (length from) (omega arith) (omega arith) closed [], expect_again k.CloseBrace c to closed) refl)
unit_again (bodies.proctype {s = st} {p} {n} {o} {c} {d} {z} {from} {inner} {body} first is named opened ps closed brace xs last) depth room s =
    let whole : reading.proctype depth from ≡ Ok (_, _) = rw (
      starts_again first depth room is,
      expect_again k.Proctype p (n ∷ o ∷ inner) is,
      expect_again k.Name n (o ∷ inner) named,
      expect_again k.OpenParen o inner opened,
      parameters_again ps closed,
      expect_again k.CloseParen c (d ∷ body) closed,
      body_again d z brace xs last depth (omega (arith, starts_move first, parameters_move ps)),
    ) refl in
    proctype_unit first is depth _ whole
  where
    proctype_unit : {st : Starts} {from to : List Word} → SpellsStarts st from to → next to ≡ k.Proctype → (depth : ℕ) (r : Read ModelUnit) → reading.proctype depth from ≡ r → reading.unit depth from ≡ r
    proctype_unit bodies.never is depth r g = unit_at depth _ r is g
    proctype_unit (bodies.once is) word depth r g = unit_at depth _ r is g
    proctype_unit (bodies.times is _ _ _) word depth r g = unit_at depth _ r is g
unit_again (bodies.init {w} {o} {c} {from} is opened xs closed) depth room s =
    unit_at depth (w ∷ o ∷ from) _ is (rw (expect_again k.Init w (o ∷ from) is, body_again o c opened xs closed depth (omega arith)) refl)

list_of_names_moves : {ns from to : List Word} → SpellsList SpellsName ns from to → length to < length from
list_of_names_moves ns = list_moves name_moves ns

unit_moves : {x : ModelUnit} {from to : List Word} → SpellsUnit x from to → length to < length from
unit_moves (bodies.variables d) = declaration_moves d
unit_moves (bodies.constants _ _ ns _) = omega (arith, list_of_names_moves ns)
unit_moves (bodies.equal_constants _ _ _ ns _) = omega (arith, list_of_names_moves ns)
unit_moves (bodies.typedef _ _ _ vs _) = omega (arith, members_move vs)
unit_moves (bodies.proctype first _ _ _ ps _ _ xs _) = omega (arith, starts_move first, parameters_move ps, body_moves xs)
unit_moves (bodies.init _ _ xs _) = omega (arith, body_moves xs)

not_empty : (ts : List Word) → 1 ≤ length ts → is_empty ts ≡ false
not_empty [] some = absurd (omega arith)
not_empty (w ∷ ws) some = refl

skip_none : (ts : List Word) → same_kind (next ts) k.Semicolon ≡ false → skip_semicolons ts ≡ ts
skip_none ts none = semicolons_again bodies.no_semicolon none

units_again : {us : List ModelUnit} {from : List Word} → SpellsUnits us from → (depth turns : ℕ) → length from ≤ depth → length from ≤ turns → (found : List ModelUnit) → reading.units_from depth turns found from ≡ Ok (found ++ us, [])
unfolding reading.units_from and_then pick
units_again bodies.no_unit depth zero room enough found = rw (skip_none [] refl) (ap (λ (r : List ModelUnit). Ok (r, [])) (sym (append-nil found)))
units_again bodies.no_unit depth (suc n) room enough found = rw (skip_none [] refl) (ap (λ (r : List ModelUnit). Ok (r, [])) (sym (append-nil found)))
units_again (bodies.semicolon is us) depth zero room enough found = absurd (omega arith)
units_again (bodies.semicolon {s} {from} is us) depth (suc n) room enough found = rw (skip_one s from is) (units_again us depth (suc n) (omega arith) (omega arith) found)
units_again (bodies.unit x us) depth zero room enough found = absurd (omega (arith, unit_moves x))
units_again (bodies.unit {x = y} {us = ys} {from} {to} x us) depth (suc n) room enough found =
    rw (skip_none from (unit_kind (next from) (unit_begins x)).no_semicolon, not_empty from (omega (arith, unit_moves x)), unit_again x depth room (units_stop us), units_again us depth n (omega (arith, unit_moves x)) (omega (arith, unit_moves x)) (found ++ y ∷ []))
    (ap (λ (r : List ModelUnit). Ok (r, [])) (append_assoc found (y ∷ []) ys))

pub model_again : {t : Tree} {ts : List Word} → Spells t ts → (depth : ℕ) → length ts ≤ depth → reading.model depth ts ≡ Ok (t, [])
unfolding reading.model and_then
model_again (bodies.model {from} us) depth room = rw (units_again us depth (length from) room (omega arith) []) refl
