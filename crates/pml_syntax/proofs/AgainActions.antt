-- What is spelled as a statement without structure is read, as that very tree.
use Rattle.std.proofs.Common.{◌≡◌, ℕ, zero, suc, ◌≤◌, Bool, true, false, List, [], ◌∷◌, ◌++◌, length, drop, Option, Some, None, Ok, ◌⊎◌, inl, inr, refl, sym, ap, subst, ◌∙◌, arith}
use Rattle.std.proofs.lemmas.Bool.{false≢true}
use Rattle.pml_token.specs.Word.{Word, same_kind}
use Rattle.pml_token.specs.declared.token.Kind.{Kind}
use Rattle.pml_token.specs.declared.token.Kind.TheVariants as k
use Rattle.pml_tree.specs.declared.tree.Search.{Search}
use Rattle.pml_tree.specs.declared.tree.SendOrder.{SendOrder}
use Rattle.pml_tree.specs.declared.tree.Expr.{Expr}
use Rattle.pml_tree.specs.declared.tree.Expr.TheVariants as e
use Rattle.pml_tree.specs.declared.tree.Argument.{Argument}
use Rattle.pml_tree.specs.declared.tree.Reference.{Reference}
use Rattle.pml_tree.specs.declared.tree.Run.{Run}
use Rattle.pml_tree.specs.declared.tree.Action.{Action}
use Rattle.pml_tree.specs.declared.tree.Action.TheVariants as a
use Rattle.pml_syntax.specs.declared.starts.Deed.{Deed}
use Rattle.pml_syntax.specs.declared.starts.Deed.TheVariants as d
use Rattle.pml_syntax.specs.declared.starts.Change.{Change}
use Rattle.pml_syntax.specs.declared.starts.Change.TheVariants as c
use Rattle.promela_grammar.specs.Expressions as terms
use Rattle.promela_grammar.specs.Actions as grammar
use Rattle.promela_grammar.specs.Expressions.{operator, truth_of_word, query, SpellsReference, SpellsExpr, SpellsArgument, SpellsArgumentList, SpellsArguments, SpellsList}
use Rattle.promela_grammar.specs.Actions.{bang, SpellsRun, SpellsValues, SpellsAction}
use Rattle.pml_expression.specs.Starts.{start}
use Rattle.pml_syntax.specs.Starts.{deed, change}
use Rattle.pml_expression.specs.Reading as expressions
use Rattle.pml_expression.specs.Reading.{Read, and_then, pick, next, sees, expect, expect_all, expect_name, expr, climb, behind}
use Rattle.pml_syntax.specs.ReadingStatements as reading
use Rattle.pml_syntax.specs.ReadingStatements.{leads_to_run}
use Rattle.pml_expression.proofs.Steps.{bind_ok, ok_is, expect_again, is_kind, not_kind, at, reference_moves, expr_moves}
use Rattle.pml_expression.proofs.Lists.{list_again}
use Rattle.pml_expression.proofs.Again.{IsFree, IsQuiet, IsLast, polls, polls_by, no_query_no_poll, quiet_paren, quiet_comma, quiet_open, last_greater, query_free, stop, whole, before, behind_stops, reference_begins, reference_again, arguments_again, expr_again}
use Rattle.pml_syntax.proofs.Begins.{follows, Stops, stops, apart, bang_free, begins_expr, expr_begins, expr_plain, run_leads}

-- ---- expressions and their lists

pub expr_whole : {x : Expr} {from to : List Word} → SpellsExpr 1 x from to → (depth : ℕ) → length from ≤ depth → IsQuiet (next to) → expr depth 1 from ≡ Ok (x, to)
expr_whole {to} h depth room q = whole to q (expr_again h depth 1 room (omega arith))

pub exprs_again : {xs : List Expr} {from to : List Word} → SpellsList (SpellsExpr 1) xs from to → (depth turns : ℕ) → length from ≤ depth → length from ≤ turns → IsQuiet (next to) → same_kind (next to) k.Comma ≡ false → (found : List Expr)
    → expressions.list_from (expr depth 1) turns found from ≡ Ok (found ++ xs, to)
exprs_again h depth turns room enough q ends found =
    list_again (expr depth 1) (SpellsExpr 1) depth (λ to. IsQuiet (next to)) (λ x from to s. expr_moves s) (λ c ws is. at IsQuiet is quiet_comma) (λ x from to s low good. expr_whole s depth low good) h turns room enough q ends found

values_again : {xs : List Expr} {from to : List Word} → SpellsValues xs from to → (depth : ℕ) → length from ≤ depth → Stops (next to) → expressions.values depth from ≡ Ok (xs, to)
unfolding expressions.values expressions.behind_first expressions.enclosed expressions.closing and_then pick sees
values_again (grammar.value_list (terms.last_listed h)) depth room s = rw (expr_whole h depth room s.quiet, s.last.no_paren, s.last.no_comma) refl
values_again (grammar.value_list (terms.more_listed {x} {c} {middle} h is more)) depth room s =
    rw (
      expr_whole h depth room (at IsQuiet is quiet_comma),
      not_kind c.kind k.Comma k.OpenParen is refl,
      is_kind c.kind k.Comma is,
      expect_again k.Comma c middle is,
      exprs_again more depth (length middle) (omega (arith, expr_moves h)) (omega arith) s.quiet s.last.no_comma (x ∷ []),
    ) refl
values_again (grammar.value_call {x} {o} {c} {middle} {to} h is more closed) depth room s =
    rw (
      expr_whole h depth room (at IsQuiet is quiet_open),
      is_kind o.kind k.OpenParen is,
      expect_again k.OpenParen o middle is,
      exprs_again more depth (length middle) (omega (arith, expr_moves h)) (omega arith) (at IsQuiet closed quiet_paren) (not_kind c.kind k.CloseParen k.Comma closed refl) (x ∷ []),
      expect_again k.CloseParen c to closed,
    ) refl

-- ---- runs

begins_no_close : (kind : Kind) → begins_expr kind ≡ true → same_kind kind k.CloseParen ≡ false
begins_no_close k.CloseParen h = absurd cc
begins_no_close _ h = refl

exprs_begin : {xs : List Expr} {from to : List Word} → SpellsList (SpellsExpr 1) xs from to → begins_expr (next from) ≡ true
exprs_begin (terms.last_listed h) = expr_begins h
exprs_begin (terms.more_listed h _ _) = expr_begins h

run_again : {x : Run} {from to : List Word} → SpellsRun x from to → (depth nested : ℕ) → length from ≤ depth → length from ≤ nested → reading.run_within depth nested from ≡ Ok (x, to)
unfolding reading.run_within reading.run_call reading.run_values expect_name and_then pick sees
run_again (grammar.run_nothing is named opened closed) depth zero room enough = absurd (omega arith)
run_again (grammar.run_nothing {r} {n} {o} {c} {to} is named opened closed) depth (suc m) room enough =
    rw (not_kind r.kind k.Run k.OpenParen is refl, expect_again k.Run r (n ∷ o ∷ c ∷ to) is, expect_again k.Name n (o ∷ c ∷ to) named, expect_again k.OpenParen o (c ∷ to) opened, is_kind c.kind k.CloseParen closed, expect_again k.CloseParen c to closed) refl
run_again (grammar.run_with is named opened xs closed) depth zero room enough = absurd (omega arith)
run_again (grammar.run_with {r} {n} {o} {c} {from} {to} is named opened xs closed) depth (suc m) room enough =
    rw (
      not_kind r.kind k.Run k.OpenParen is refl,
      expect_again k.Run r (n ∷ o ∷ from) is,
      expect_again k.Name n (o ∷ from) named,
      expect_again k.OpenParen o from opened,
      begins_no_close (next from) (exprs_begin xs),
      exprs_again xs depth (length from) (omega arith) (omega arith) (at IsQuiet closed quiet_paren) (not_kind c.kind k.CloseParen k.Comma closed refl) [],
      expect_again k.CloseParen c to closed,
    ) refl
run_again (grammar.run_group is x closed) depth zero room enough = absurd (omega arith)
run_again (grammar.run_group {o} {c} {from} {to} is x closed) depth (suc m) room enough =
    rw (is_kind o.kind k.OpenParen is, expect_again k.OpenParen o from is, run_again x depth m (omega arith) (omega arith), expect_again k.CloseParen c to closed) refl

-- ---- an expression that begins with a name

-- as a reference and what comes behind it
record Continues (depth : ℕ) (from : List Word) (x : Expr) (to : List Word) : Type 0 where
  reference : Reference
  middle : List Word
  operand : Expr
  later : List Word
  first : expressions.reference (expr depth) from ≡ Ok (reference, middle)
  second : behind (expr depth) reference middle ≡ Ok (operand, later)
  further : climb (expr depth) (length later) 1 operand later ≡ Ok (x, to)

expr_continues : (depth : ℕ) (from : List Word) (x : Expr) (to : List Word) → next from ≡ k.Name → expr (suc depth) 1 from ≡ Ok (x, to) → Continues depth from x to
unfolding expr expressions.level_of expressions.prefix expressions.variable
expr_continues depth from x to is h =
    let named : and_then (expressions.prefix_by (expr depth) (start k.Name) from) (λ (first : Expr × List Word). climb (expr depth) (length first.1) 1 first.0 first.1) ≡ Ok (x, to)
    = subst (λ (kind : Kind). and_then (expressions.prefix_by (expr depth) (start kind) from) (λ (first : Expr × List Word). climb (expr depth) (length first.1) 1 first.0 first.1) ≡ Ok (x, to)) is h in
    let v = bind_ok named in
    let r = bind_ok v.1 in
    record { reference = r.0.0; middle = r.0.1; operand = v.0.0; later = v.0.1; first = r.1; second = r.2; further = v.2 }

-- behind the reference comes no sign of another statement
no_bracket_no_poll : (o : Option Search) (ts : List Word) → sees k.OpenBracket (drop 1 ts) ≡ false → polls_by o ts ≡ false
no_bracket_no_poll None ts h = refl
no_bracket_no_poll (Some look) ts h = h

abbrev changes : Change → Bool
changes c.Other = false
changes _ = true

record Signs (kind : Kind) : Type 0 where
  no_follow : follows kind ≡ false
  no_operator : operator kind ≡ None

signs : (kind : Kind) → changes (change kind) ≡ true → Signs kind
signs k.Assign h = record { no_follow = refl; no_operator = refl }
signs k.Increment h = record { no_follow = refl; no_operator = refl }
signs k.Decrement h = record { no_follow = refl; no_operator = refl }
signs k.Bang h = record { no_follow = refl; no_operator = refl }
signs k.BangBang h = record { no_follow = refl; no_operator = refl }
signs k.Query h = record { no_follow = refl; no_operator = refl }
signs k.QueryQuery h = record { no_follow = refl; no_operator = refl }
signs _ h = absurd cc

abbrev writes : Change → Bool
writes (c.Receive look) = false
writes c.Other = false
writes _ = true

writes_no_query : (kind : Kind) → writes (change kind) ≡ true → query kind ≡ None
writes_no_query k.Query h = absurd cc
writes_no_query k.QueryQuery h = absurd cc
writes_no_query _ h = refl

-- so the expression would end there, and something else would have to follow
stuck : {depth : ℕ} {from : List Word} {x : Expr} {to : List Word} (s : Continues depth from x to) → polls s.middle ≡ false → changes (change (next s.middle)) ≡ true → follows (next to) ≡ true → ⊥
stuck {depth} {x} {to} s unpolled changed follow =
    let sign = signs (next s.middle) changed in
    let here : (e.Read s.reference, s.middle) ≡ (s.operand, s.later) = ok_is (sym (behind_stops (expr depth) s.reference s.middle unpolled) ∙ s.second) in
    let further : climb (expr depth) (length s.middle) 1 (e.Read s.reference) s.middle ≡ Ok (x, to) = subst (λ (r : Expr × List Word). climb (expr depth) (length r.1) 1 r.0 r.1 ≡ Ok (x, to)) (sym here) s.further in
    let stopped : climb (expr depth) (length s.middle) 1 (e.Read s.reference) s.middle ≡ Ok (e.Read s.reference, s.middle) = stop (expr depth) (length s.middle) 1 (e.Read s.reference) s.middle (rw sign.no_operator (omega arith)) in
    let same : (e.Read s.reference, s.middle) ≡ (x, to) = ok_is (sym stopped ∙ further) in
    let there : follows (next s.middle) ≡ true = subst (λ (r : List Word). follows (next r) ≡ true) (sym (ap (λ (r : Expr × List Word). r.1) same)) follow in
    absurd (false≢true (sym sign.no_follow ∙ there))

continued_again : {depth : ℕ} {from : List Word} {x : Expr} {to : List Word} (s : Continues depth from x to) → reading.continued depth s.reference s.middle ≡ Ok ((a.Holds x, false), to)
unfolding reading.continued and_then
continued_again s = rw (s.second, s.further) refl

unpolled_by : {depth : ℕ} {from : List Word} {x : Expr} {to : List Word} (s : Continues depth from x to) → writes (change (next s.middle)) ≡ true → polls s.middle ≡ false
unfolding polls
unpolled_by s h = no_query_no_poll (query (next s.middle)) s.middle (writes_no_query (next s.middle) h)

changed_continues : {depth : ℕ} {from : List Word} {x : Expr} {to : List Word} (s : Continues depth from x to) (ch : Change) → change (next s.middle) ≡ ch → follows (next to) ≡ true → reading.changed_by depth ch s.reference s.middle ≡ Ok ((a.Holds x, false), to)
unfolding pick polls
changed_continues s c.Assign is follow = absurd (stuck s (unpolled_by s (rw is refl)) (rw is refl) follow)
changed_continues s c.Increment is follow = absurd (stuck s (unpolled_by s (rw is refl)) (rw is refl) follow)
changed_continues s c.Decrement is follow = absurd (stuck s (unpolled_by s (rw is refl)) (rw is refl) follow)
changed_continues s (c.Send order) is follow = absurd (stuck s (unpolled_by s (rw is refl)) (rw is refl) follow)
changed_continues {depth} {x} {to} s (c.Receive look) is follow = go (sees k.OpenBracket (drop 1 s.middle)) refl
  where
    go : (b : Bool) → sees k.OpenBracket (drop 1 s.middle) ≡ b → pick b (reading.continued depth s.reference s.middle) (reading.received depth look s.reference (drop 1 s.middle)) ≡ Ok ((a.Holds x, false), to)
    go true h = continued_again s
    go false h = absurd (stuck s (no_bracket_no_poll (query (next s.middle)) s.middle h) (rw is refl) follow)
changed_continues s c.Other is follow = continued_again s

-- ---- actions

action_at : {kind : Kind} (depth : ℕ) (ts : List Word) (r : Read (Action × Bool)) → next ts ≡ kind → reading.action_by depth (deed kind) ts ≡ r → reading.action depth ts ≡ r
unfolding reading.action
action_at depth ts r is h = subst (λ (x : Kind). reading.action_by depth (deed x) ts ≡ r) (sym is) h

changed_at : {kind : Kind} (depth : ℕ) (r : Reference) (ts : List Word) (x : Read (Action × Bool)) → next ts ≡ kind → reading.changed_by depth (change kind) r ts ≡ x → reading.changed depth r ts ≡ x
unfolding reading.changed
changed_at depth r ts x is h = subst (λ (y : Kind). reading.changed_by depth (change y) r ts ≡ x) (sym is) h

-- a statement that begins with a reference
named_again : {r : Reference} {from : List Word} (middle : List Word) {x : Action × Bool} {to : List Word} (depth : ℕ) → SpellsReference r from middle → length from ≤ depth → IsFree (next middle) → reading.changed depth r middle ≡ Ok (x, to) → reading.action depth from ≡ Ok (x, to)
unfolding reading.reference_first and_then
named_again {from} middle depth h room free g = action_at depth from _ (reference_begins h) (rw (reference_again h depth (omega arith) free) g)

abbrev leads_expr : Deed → Bool
leads_expr d.Name = true
leads_expr d.Group = true
leads_expr d.Other = true
leads_expr _ = false

begins_deed : (kind : Kind) → begins_expr kind ≡ true → leads_expr (deed kind) ≡ true
begins_deed k.Else h = absurd cc
begins_deed k.Run h = absurd cc
begins_deed k.Printf h = absurd cc
begins_deed k.Printm h = absurd cc
begins_deed k.Assert h = absurd cc
begins_deed _ h = refl

deed_name : (kind : Kind) → deed kind ≡ d.Name → kind ≡ k.Name
deed_name k.Name h = refl
deed_name _ h = absurd cc

holds_by : (de : Deed) (depth : ℕ) (x : Expr) (from to : List Word) → deed (next from) ≡ de → leads_expr de ≡ true → SpellsExpr 1 x from to → length from ≤ depth → follows (next to) ≡ true → reading.action_by depth de from ≡ Ok ((a.Holds x, false), to)
unfolding reading.holds reading.reference_first reading.changed and_then pick
holds_by d.Name depth x from to is leads h room follow =
    let s = expr_continues depth from x to (deed_name (next from) is) (expr_whole h (suc depth) (omega arith) (stops _ follow).quiet) in
    rw s.first (changed_continues s (change (next s.middle)) refl follow)
holds_by d.Group depth x from to is leads h room follow = rw ((expr_plain h (apart _ follow)).no_run, expr_whole h depth room (stops _ follow).quiet) refl
holds_by d.Other depth x from to is leads h room follow = rw (expr_whole h depth room (stops _ follow).quiet) refl
holds_by _ depth x from to is leads h room follow = absurd cc

-- what begins the arguments of a receive
record BeginsArguments (kind : Kind) : Type 0 where
  no_bracket : same_kind kind k.OpenBracket ≡ false
  no_less : same_kind kind k.Less ≡ false

truth_arguments : (kind : Kind) (v : Bool) → truth_of_word kind ≡ Some v → BeginsArguments kind
truth_arguments k.OpenBracket v h = absurd cc
truth_arguments k.Less v h = absurd cc
truth_arguments _ v h = record { no_bracket = refl; no_less = refl }

argument_begins : {x : Argument} {from to : List Word} → SpellsArgument x from to → BeginsArguments (next from)
argument_begins (terms.into r) = at BeginsArguments (reference_begins r) (record { no_bracket = refl; no_less = refl })
argument_begins (terms.exactly is) = at BeginsArguments is (record { no_bracket = refl; no_less = refl })
argument_begins (terms.exactly_minus is _) = at BeginsArguments is (record { no_bracket = refl; no_less = refl })
argument_begins (terms.fixed {w} {v} is) = truth_arguments w.kind v is
argument_begins (terms.eval is _ _ _) = at BeginsArguments is (record { no_bracket = refl; no_less = refl })

arguments_begin : {xs : List Argument} {from to : List Word} → SpellsArguments xs from to → BeginsArguments (next from)
arguments_begin (terms.argument_list (terms.last_argument h)) = argument_begins h
arguments_begin (terms.argument_list (terms.more_arguments h _ _)) = argument_begins h
arguments_begin (terms.argument_call h _ _ _) = argument_begins h
arguments_begin (terms.argument_group is _ _) = at BeginsArguments is (record { no_bracket = refl; no_less = refl })

bang_change : (kind : Kind) (order : SendOrder) → bang kind ≡ Some order → change kind ≡ c.Send order
bang_change k.Bang order h = cc
bang_change k.BangBang order h = cc
bang_change _ order h = absurd cc

query_change : (kind : Kind) (look : Search) → query kind ≡ Some look → change kind ≡ c.Receive look
query_change k.Query look h = cc
query_change k.QueryQuery look h = cc
query_change _ look h = absurd cc

run_kind : {x : Run} {from to : List Word} → SpellsRun x from to → (next from ≡ k.Run) ⊎ (next from ≡ k.OpenParen)
run_kind (grammar.run_nothing is _ _ _) = inl is
run_kind (grammar.run_with is _ _ _ _) = inl is
run_kind (grammar.run_group is _ _) = inr is

run_first_again : {x : Run} {from to : List Word} → SpellsRun x from to → (depth : ℕ) → length from ≤ depth → reading.run_first depth from ≡ Ok ((a.Run x, false), to)
unfolding reading.run_first and_then
run_first_again {from} h depth room = rw (run_again h depth (length from) room (omega arith)) refl

run_deed : {x : Run} {from to : List Word} → SpellsRun x from to → (depth : ℕ) → length from ≤ depth → reading.action depth from ≡ Ok ((a.Run x, false), to)
unfolding pick
run_deed {from} h depth room = elim (run_kind h) [
  | inl is ↦ action_at depth from _ is (run_first_again h depth room)
  | inr is ↦ action_at depth from _ is (rw (run_leads h) (run_first_again h depth room))
]

pub action_again : {closed : Bool} {x : Action} {from to : List Word} → SpellsAction closed x from to → (depth : ℕ) → length from ≤ depth → (closed ≡ false → follows (next to) ≡ true) → reading.action depth from ≡ Ok ((x, closed), to)
unfolding reading.assigned reading.sent reading.received reading.copied reading.changed reading.printed reading.format reading.printf reading.printm reading.assert expressions.expr_between expressions.expr_behind expressions.closing expect_all sees and_then pick
action_again (grammar.otherwise {w} {to} is) depth room follow = action_at depth (w ∷ to) _ is refl
action_again (grammar.assign {r} {x} {o} {from} {middle} {to} h is g) depth room follow =
    let s = stops (next to) (follow refl) in
    named_again (o ∷ middle) depth h room (at IsFree is (record { no_index = refl; no_dot = refl }))
    (changed_at depth r (o ∷ middle) _ is (rw ((expr_plain g (apart (next to) (follow refl))).no_run, expr_whole g depth (omega (arith, reference_moves h)) s.quiet) refl))
action_again (grammar.assign_run {r} {x} {o} {from} {middle} {to} h is g) depth room follow =
    named_again (o ∷ middle) depth h room (at IsFree is (record { no_index = refl; no_dot = refl }))
    (changed_at depth r (o ∷ middle) _ is (rw (run_leads g, run_again g depth (length middle) (omega (arith, reference_moves h)) (omega arith)) refl))
action_again (grammar.increment {r} {o} {from} {to} h is) depth room follow = named_again (o ∷ to) depth h room (at IsFree is (record { no_index = refl; no_dot = refl })) (changed_at depth r (o ∷ to) _ is refl)
action_again (grammar.decrement {r} {o} {from} {to} h is) depth room follow = named_again (o ∷ to) depth h room (at IsFree is (record { no_index = refl; no_dot = refl })) (changed_at depth r (o ∷ to) _ is refl)
action_again (grammar.run x) depth room follow = run_deed x depth room
action_again (grammar.send {r} {o} {order} {xs} {from} {middle} {to} h is g) depth room follow =
    named_again (o ∷ middle) depth h room (bang_free o.kind order is) (rw (bang_change o.kind order is, values_again g depth (omega (arith, reference_moves h)) (stops (next to) (follow refl))) refl)
action_again (grammar.receive {r} {q} {look} {xs} {from} {middle} {to} h is g) depth room follow =
    named_again (q ∷ middle) depth h room (query_free q.kind look is)
    (rw (query_change q.kind look is, (arguments_begin g).no_bracket, (arguments_begin g).no_less, arguments_again g depth (omega (arith, reference_moves h)) (stops (next to) (follow refl)).last) refl)
action_again (grammar.copy {r} {q} {o} {c} {look} {xs} {from} {middle} {to} h is opened g closed) depth room follow =
    named_again (q ∷ o ∷ middle) depth h room (query_free q.kind look is)
    (rw (query_change q.kind look is, not_kind o.kind k.Less k.OpenBracket opened refl, is_kind o.kind k.Less opened, expect_again k.Less o middle opened, arguments_again g depth (omega (arith, reference_moves h)) (at IsLast closed last_greater), expect_again k.Greater c to closed) refl)
action_again (grammar.printf {w} {o} {s} {c} {to} is opened quoted closed) depth room follow =
    action_at depth (w ∷ o ∷ s ∷ c ∷ to) _ is
    (rw (expect_again k.Printf w (o ∷ s ∷ c ∷ to) is, expect_again k.OpenParen o (s ∷ c ∷ to) opened, expect_again k.Quoted s (c ∷ to) quoted, not_kind c.kind k.CloseParen k.Comma closed refl, expect_again k.CloseParen c to closed) refl)
action_again (grammar.printf_with {w} {o} {s} {m} {c} {xs} {from} {to} is opened quoted parted g closed) depth room follow =
    action_at depth (w ∷ o ∷ s ∷ m ∷ from) _ is
    (rw (
      expect_again k.Printf w (o ∷ s ∷ m ∷ from) is,
      expect_again k.OpenParen o (s ∷ m ∷ from) opened,
      expect_again k.Quoted s (m ∷ from) quoted,
      is_kind m.kind k.Comma parted,
      expect_again k.Comma m from parted,
      exprs_again g depth (length from) (omega arith) (omega arith) (at IsQuiet closed quiet_paren) (not_kind c.kind k.CloseParen k.Comma closed refl) [],
      expect_again k.CloseParen c to closed,
    ) refl)
action_again (grammar.printm {w} {o} {c} {x} {from} {to} is opened h closed) depth room follow =
    let inner = before k.CloseParen closed quiet_paren (expr_again h depth 1 (omega arith) (omega arith)) in
    action_at depth (w ∷ o ∷ from) _ is (rw (expect_again k.Printm w (o ∷ from) is, expect_again k.OpenParen o from opened, inner, expect_again k.CloseParen c to closed) refl)
action_again (grammar.assert {w} {x} {from} {to} is h) depth room follow =
    action_at depth (w ∷ from) _ is (rw (expect_again k.Assert w from is, expr_whole h depth (omega arith) (stops (next to) (follow refl)).quiet) refl)
action_again (grammar.holds {x} {from} {to} h) depth room follow =
    action_at depth from _ refl (holds_by (deed (next from)) depth x from to refl (begins_deed (next from) (expr_begins h)) h room (follow refl))
