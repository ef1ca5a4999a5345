-- What statements begin with, and what may come behind one.
use Rattle.std.proofs.Common.{◌≡◌, ℕ, ◌<◌, Bool, true, false, ◌&&◌, List, ◌∷◌, length, drop, Option, Some, refl, arith}
use Rattle.pml_token.specs.Word.{Word, same_kind}
use Rattle.pml_token.specs.declared.token.Kind.{Kind}
use Rattle.pml_token.specs.declared.token.Kind.TheVariants as k
use Rattle.pml_tree.specs.declared.tree.Search.{Search}
use Rattle.pml_tree.specs.declared.tree.SendOrder.{SendOrder}
use Rattle.pml_tree.specs.declared.tree.Infix.{Infix}
use Rattle.pml_tree.specs.declared.tree.Prefix.{Prefix}
use Rattle.pml_tree.specs.declared.tree.Fill.{Fill}
use Rattle.pml_tree.specs.declared.tree.Expr.{Expr}
use Rattle.pml_tree.specs.declared.tree.Action.{Action}
use Rattle.pml_tree.specs.declared.tree.Reference.{Reference}
use Rattle.pml_tree.specs.declared.tree.Run.{Run}
use Rattle.pml_tree.specs.declared.tree.Step.{Step}
use Rattle.promela_grammar.specs.Expressions as terms
use Rattle.promela_grammar.specs.Actions as grammar
use Rattle.promela_grammar.specs.Expressions.{operator, truth_of_word, fill, query, prefix_operator, SpellsIndex, SpellsFields, SpellsReference, SpellsExpr, SpellsArgument, SpellsArgumentList, SpellsArguments, SpellsList}
use Rattle.promela_grammar.specs.Actions.{bang, is_separator, is_exclusive, SpellsRun, SpellsValues, SpellsAction}
use Rattle.pml_syntax.specs.Starts.{opening, declares}
use Rattle.pml_syntax.specs.declared.starts.Opening.TheVariants as o
use Rattle.pml_expression.specs.Reading.{pick, next, sees}
use Rattle.pml_syntax.specs.ReadingStatements.{leads_to_run, is_label}
use Rattle.pml_expression.proofs.Steps.{is_kind, not_kind, at, reference_moves, expr_moves, arguments_move}
use Rattle.pml_expression.proofs.Lists.{list_moves}
use Rattle.pml_expression.proofs.Again.{IsFree, IsQuiet, IsLast, reference_begins}

-- ---- what may come behind a statement

abbrev pub follows : Kind → Bool
follows k.Semicolon = true
follows k.Arrow = true
follows k.CloseBrace = true
follows k.Fi = true
follows k.Od = true
follows k.DoubleColon = true
follows k.End = true
follows k.Unless = true
follows _ = false

-- it makes no label and no declaration of a name before it
pub record Apart (kind : Kind) : Type 0 where
  pub no_colon : same_kind kind k.Colon ≡ false
  pub no_name : same_kind kind k.Name ≡ false

-- it goes on with no statement and no declaration
pub record Stops (kind : Kind) : Type 0 where
  pub quiet : IsQuiet kind
  pub last : IsLast kind
  pub no_assign : same_kind kind k.Assign ≡ false

pub stops : (kind : Kind) → follows kind ≡ true → Stops kind
stops k.Semicolon h = record { quiet = record { no_operator = refl; no_query = refl; free = record { no_index = refl; no_dot = refl } }; last = record { no_comma = refl; no_paren = refl; free = record { no_index = refl; no_dot = refl } }; no_assign = refl }
stops k.Arrow h = record { quiet = record { no_operator = refl; no_query = refl; free = record { no_index = refl; no_dot = refl } }; last = record { no_comma = refl; no_paren = refl; free = record { no_index = refl; no_dot = refl } }; no_assign = refl }
stops k.CloseBrace h = record { quiet = record { no_operator = refl; no_query = refl; free = record { no_index = refl; no_dot = refl } }; last = record { no_comma = refl; no_paren = refl; free = record { no_index = refl; no_dot = refl } }; no_assign = refl }
stops k.Fi h = record { quiet = record { no_operator = refl; no_query = refl; free = record { no_index = refl; no_dot = refl } }; last = record { no_comma = refl; no_paren = refl; free = record { no_index = refl; no_dot = refl } }; no_assign = refl }
stops k.Od h = record { quiet = record { no_operator = refl; no_query = refl; free = record { no_index = refl; no_dot = refl } }; last = record { no_comma = refl; no_paren = refl; free = record { no_index = refl; no_dot = refl } }; no_assign = refl }
stops k.DoubleColon h = record { quiet = record { no_operator = refl; no_query = refl; free = record { no_index = refl; no_dot = refl } }; last = record { no_comma = refl; no_paren = refl; free = record { no_index = refl; no_dot = refl } }; no_assign = refl }
stops k.End h = record { quiet = record { no_operator = refl; no_query = refl; free = record { no_index = refl; no_dot = refl } }; last = record { no_comma = refl; no_paren = refl; free = record { no_index = refl; no_dot = refl } }; no_assign = refl }
stops k.Unless h = record { quiet = record { no_operator = refl; no_query = refl; free = record { no_index = refl; no_dot = refl } }; last = record { no_comma = refl; no_paren = refl; free = record { no_index = refl; no_dot = refl } }; no_assign = refl }
stops _ h = absurd cc

pub apart : (kind : Kind) → follows kind ≡ true → Apart kind
apart k.Colon h = absurd cc
apart k.Name h = absurd cc
apart _ h = record { no_colon = refl; no_name = refl }

operator_apart : (kind : Kind) (i : Infix) → operator kind ≡ Some i → Apart kind
operator_apart k.Colon i h = absurd cc
operator_apart k.Name i h = absurd cc
operator_apart _ i h = record { no_colon = refl; no_name = refl }

query_apart : (kind : Kind) (look : Search) → query kind ≡ Some look → Apart kind
query_apart k.Colon look h = absurd cc
query_apart k.Name look h = absurd cc
query_apart _ look h = record { no_colon = refl; no_name = refl }

bang_apart : (kind : Kind) (order : SendOrder) → bang kind ≡ Some order → Apart kind
bang_apart k.Colon order h = absurd cc
bang_apart k.Name order h = absurd cc
bang_apart _ order h = record { no_colon = refl; no_name = refl }

pub bang_free : (kind : Kind) (order : SendOrder) → bang kind ≡ Some order → IsFree kind
bang_free k.OpenBracket order h = absurd cc
bang_free k.Dot order h = absurd cc
bang_free _ order h = record { no_index = refl; no_dot = refl }

-- ---- what begins an expression or a statement without structure

abbrev pub begins_expr : Kind → Bool
begins_expr k.Number = true
begins_expr k.True = true
begins_expr k.Skip = true
begins_expr k.False = true
begins_expr k.Timeout = true
begins_expr k.Name = true
begins_expr k.Len = true
begins_expr k.Empty = true
begins_expr k.Full = true
begins_expr k.Nempty = true
begins_expr k.Nfull = true
begins_expr k.Bang = true
begins_expr k.Tilde = true
begins_expr k.Minus = true
begins_expr k.OpenParen = true
begins_expr _ = false

truth_begins : (kind : Kind) (v : Bool) → truth_of_word kind ≡ Some v → begins_expr kind ≡ true
truth_begins k.True v h = refl
truth_begins k.Skip v h = refl
truth_begins k.False v h = refl
truth_begins _ v h = absurd cc

fill_begins : (kind : Kind) (f : Fill) → fill kind ≡ Some f → begins_expr kind ≡ true
fill_begins k.Len f h = refl
fill_begins k.Empty f h = refl
fill_begins k.Full f h = refl
fill_begins k.Nempty f h = refl
fill_begins k.Nfull f h = refl
fill_begins _ f h = absurd cc

prefix_begins : (kind : Kind) (p : Prefix) → prefix_operator kind ≡ Some p → begins_expr kind ≡ true
prefix_begins k.Bang p h = refl
prefix_begins k.Tilde p h = refl
prefix_begins k.Minus p h = refl
prefix_begins _ p h = absurd cc

pub expr_begins : {m : ℕ} {x : Expr} {from to : List Word} → SpellsExpr m x from to → begins_expr (next from) ≡ true
expr_begins (terms.number is) = at (λ x. begins_expr x ≡ true) is refl
expr_begins (terms.truth_value {w} {v} is) = truth_begins w.kind v is
expr_begins (terms.timeout is) = at (λ x. begins_expr x ≡ true) is refl
expr_begins (terms.read r) = at (λ x. begins_expr x ≡ true) (reference_begins r) refl
expr_begins (terms.poll r _ _ _ _) = at (λ x. begins_expr x ≡ true) (reference_begins r) refl
expr_begins (terms.ask {w} {f} is _ _ _) = fill_begins w.kind f is
expr_begins (terms.unary {o} {p} is _ _) = prefix_begins o.kind p is
expr_begins (terms.binary _ _ x _) = expr_begins x
expr_begins (terms.parentheses is _ _) = at (λ x. begins_expr x ≡ true) is refl
expr_begins (terms.choice is _ _ _ _ _ _) = at (λ x. begins_expr x ≡ true) is refl

-- what a token that begins a statement without structure is not
pub record BeginsAction (kind : Kind) : Type 0 where
  pub no_structure : opening kind ≡ o.Other
  pub no_follow : follows kind ≡ false
  pub no_declare : declares kind ≡ false
  pub no_exclusive : is_exclusive kind ≡ false
  pub no_comma : same_kind kind k.Comma ≡ false

abbrev begins_action : Kind → Bool
begins_action k.Else = true
begins_action k.Run = true
begins_action k.Printf = true
begins_action k.Printm = true
begins_action k.Assert = true
begins_action kind = begins_expr kind

expr_action : (kind : Kind) → begins_expr kind ≡ true → begins_action kind ≡ true
expr_action k.Else h = refl
expr_action k.Run h = refl
expr_action k.Printf h = refl
expr_action k.Printm h = refl
expr_action k.Assert h = refl
expr_action _ h = h

begins : (kind : Kind) → begins_action kind ≡ true → BeginsAction kind
begins k.Else h = record { no_structure = refl; no_follow = refl; no_declare = refl; no_exclusive = refl; no_comma = refl }
begins k.Run h = record { no_structure = refl; no_follow = refl; no_declare = refl; no_exclusive = refl; no_comma = refl }
begins k.Printf h = record { no_structure = refl; no_follow = refl; no_declare = refl; no_exclusive = refl; no_comma = refl }
begins k.Printm h = record { no_structure = refl; no_follow = refl; no_declare = refl; no_exclusive = refl; no_comma = refl }
begins k.Assert h = record { no_structure = refl; no_follow = refl; no_declare = refl; no_exclusive = refl; no_comma = refl }
begins k.Number h = record { no_structure = refl; no_follow = refl; no_declare = refl; no_exclusive = refl; no_comma = refl }
begins k.True h = record { no_structure = refl; no_follow = refl; no_declare = refl; no_exclusive = refl; no_comma = refl }
begins k.Skip h = record { no_structure = refl; no_follow = refl; no_declare = refl; no_exclusive = refl; no_comma = refl }
begins k.False h = record { no_structure = refl; no_follow = refl; no_declare = refl; no_exclusive = refl; no_comma = refl }
begins k.Timeout h = record { no_structure = refl; no_follow = refl; no_declare = refl; no_exclusive = refl; no_comma = refl }
begins k.Name h = record { no_structure = refl; no_follow = refl; no_declare = refl; no_exclusive = refl; no_comma = refl }
begins k.Len h = record { no_structure = refl; no_follow = refl; no_declare = refl; no_exclusive = refl; no_comma = refl }
begins k.Empty h = record { no_structure = refl; no_follow = refl; no_declare = refl; no_exclusive = refl; no_comma = refl }
begins k.Full h = record { no_structure = refl; no_follow = refl; no_declare = refl; no_exclusive = refl; no_comma = refl }
begins k.Nempty h = record { no_structure = refl; no_follow = refl; no_declare = refl; no_exclusive = refl; no_comma = refl }
begins k.Nfull h = record { no_structure = refl; no_follow = refl; no_declare = refl; no_exclusive = refl; no_comma = refl }
begins k.Bang h = record { no_structure = refl; no_follow = refl; no_declare = refl; no_exclusive = refl; no_comma = refl }
begins k.Tilde h = record { no_structure = refl; no_follow = refl; no_declare = refl; no_exclusive = refl; no_comma = refl }
begins k.Minus h = record { no_structure = refl; no_follow = refl; no_declare = refl; no_exclusive = refl; no_comma = refl }
begins k.OpenParen h = record { no_structure = refl; no_follow = refl; no_declare = refl; no_exclusive = refl; no_comma = refl }
begins _ h = absurd cc

run_begins : {x : Run} {from to : List Word} → SpellsRun x from to → begins_action (next from) ≡ true
run_begins (grammar.run_nothing is _ _ _) = at (λ x. begins_action x ≡ true) is refl
run_begins (grammar.run_with is _ _ _ _) = at (λ x. begins_action x ≡ true) is refl
run_begins (grammar.run_group is _ _) = at (λ x. begins_action x ≡ true) is refl

action_starts : {closed : Bool} {x : Action} {from to : List Word} → SpellsAction closed x from to → begins_action (next from) ≡ true
action_starts (grammar.otherwise is) = at (λ x. begins_action x ≡ true) is refl
action_starts (grammar.assign r _ _) = at (λ x. begins_action x ≡ true) (reference_begins r) refl
action_starts (grammar.assign_run r _ _) = at (λ x. begins_action x ≡ true) (reference_begins r) refl
action_starts (grammar.increment r _) = at (λ x. begins_action x ≡ true) (reference_begins r) refl
action_starts (grammar.decrement r _) = at (λ x. begins_action x ≡ true) (reference_begins r) refl
action_starts (grammar.run x) = run_begins x
action_starts (grammar.send r _ _) = at (λ x. begins_action x ≡ true) (reference_begins r) refl
action_starts (grammar.receive r _ _) = at (λ x. begins_action x ≡ true) (reference_begins r) refl
action_starts (grammar.copy r _ _ _ _) = at (λ x. begins_action x ≡ true) (reference_begins r) refl
action_starts (grammar.printf is _ _ _) = at (λ x. begins_action x ≡ true) is refl
action_starts (grammar.printf_with is _ _ _ _ _) = at (λ x. begins_action x ≡ true) is refl
action_starts (grammar.printm is _ _ _) = at (λ x. begins_action x ≡ true) is refl
action_starts (grammar.assert is _) = at (λ x. begins_action x ≡ true) is refl
action_starts (grammar.holds x) = expr_action _ (expr_begins x)

pub action_begins : {closed : Bool} {x : Action} {from to : List Word} → SpellsAction closed x from to → BeginsAction (next from)
action_begins h = begins _ (action_starts h)

-- ---- no statement begins as a label or a declaration does, and no expression leads to a run

pub record Plain (ts : List Word) : Type 0 where
  pub no_label : is_label ts ≡ false
  pub no_names : (sees k.Name ts && sees k.Name (drop 1 ts)) ≡ false

pub record PlainExpr (ts : List Word) : Type 0 where
  pub plain : Plain ts
  pub no_run : leads_to_run ts ≡ false

pub other_plain : (kind : Kind) (w : Word) (ts : List Word) → w.kind ≡ kind → same_kind kind k.Name ≡ false → Plain (w ∷ ts)
unfolding is_label sees
other_plain kind w ts is h = record { no_label = rw (not_kind w.kind kind k.Name is h) refl; no_names = rw (not_kind w.kind kind k.Name is h) refl }

name_plain : (n : Word) (ts : List Word) → n.kind ≡ k.Name → Apart (next ts) → Plain (n ∷ ts)
unfolding is_label sees
name_plain n ts is h = record { no_label = rw (is_kind n.kind k.Name is, h.no_colon) refl; no_names = rw (is_kind n.kind k.Name is, h.no_name) refl }

no_run_at : (kind : Kind) (w : Word) (ts : List Word) → w.kind ≡ kind → same_kind kind k.OpenParen ≡ false → same_kind kind k.Run ≡ false → leads_to_run (w ∷ ts) ≡ false
unfolding leads_to_run pick
no_run_at kind w ts is h1 h2 = rw (not_kind w.kind kind k.OpenParen is h1, not_kind w.kind kind k.Run is h2) refl

no_run_behind : (w : Word) (ts : List Word) → w.kind ≡ k.OpenParen → leads_to_run ts ≡ false → leads_to_run (w ∷ ts) ≡ false
unfolding leads_to_run pick
no_run_behind w ts is h = rw (is_kind w.kind k.OpenParen is) h

other_expr : (kind : Kind) (w : Word) (ts : List Word) → w.kind ≡ kind → same_kind kind k.Name ≡ false → same_kind kind k.OpenParen ≡ false → same_kind kind k.Run ≡ false → PlainExpr (w ∷ ts)
other_expr kind w ts is h1 h2 h3 = record { plain = other_plain kind w ts is h1; no_run = no_run_at kind w ts is h2 h3 }

pub record Other (kind : Kind) : Type 0 where
  pub no_name : same_kind kind k.Name ≡ false
  pub no_paren : same_kind kind k.OpenParen ≡ false
  pub no_run : same_kind kind k.Run ≡ false

truth_other : (kind : Kind) (v : Bool) → truth_of_word kind ≡ Some v → Other kind
truth_other k.Name v h = absurd cc
truth_other k.OpenParen v h = absurd cc
truth_other k.Run v h = absurd cc
truth_other _ v h = record { no_name = refl; no_paren = refl; no_run = refl }

fill_other : (kind : Kind) (f : Fill) → fill kind ≡ Some f → Other kind
fill_other k.Name f h = absurd cc
fill_other k.OpenParen f h = absurd cc
fill_other k.Run f h = absurd cc
fill_other _ f h = record { no_name = refl; no_paren = refl; no_run = refl }

prefix_other : (kind : Kind) (p : Prefix) → prefix_operator kind ≡ Some p → Other kind
prefix_other k.Name p h = absurd cc
prefix_other k.OpenParen p h = absurd cc
prefix_other k.Run p h = absurd cc
prefix_other _ p h = record { no_name = refl; no_paren = refl; no_run = refl }

by_other : (w : Word) (ts : List Word) → Other w.kind → PlainExpr (w ∷ ts)
by_other w ts h = other_expr w.kind w ts refl h.no_name h.no_paren h.no_run

index_apart : {i : Option Expr} {from to : List Word} → SpellsIndex i from to → Apart (next to) → Apart (next from)
index_apart terms.no_index h = h
index_apart (terms.index is _ _) h = at Apart is (record { no_colon = refl; no_name = refl })

fields_apart : {ss : List Step} {from to : List Word} → SpellsFields ss from to → Apart (next to) → Apart (next from)
fields_apart terms.no_field h = h
fields_apart (terms.one_field is _ _) h = at Apart is (record { no_colon = refl; no_name = refl })

reference_plain : {r : Reference} {from to : List Word} → SpellsReference r from to → Apart (next to) → PlainExpr from
reference_plain (terms.reference (terms.step {n} {from} is i) ss) h = record { plain = name_plain n from is (index_apart i (fields_apart ss h)); no_run = no_run_at k.Name n from is refl refl }

pub apart_at : {x : Kind} (kind : Kind) → x ≡ kind → same_kind kind k.Colon ≡ false → same_kind kind k.Name ≡ false → Apart x
apart_at kind is h1 h2 = at Apart is (record { no_colon = h1; no_name = h2 })

pub expr_plain : {m : ℕ} {x : Expr} {from to : List Word} → SpellsExpr m x from to → Apart (next to) → PlainExpr from
expr_plain (terms.number {n = w} {to} is) h = other_expr k.Number w to is refl refl refl
expr_plain (terms.truth_value {w} {v} {to} is) h = by_other w to (truth_other w.kind v is)
expr_plain (terms.timeout {w} {to} is) h = other_expr k.Timeout w to is refl refl refl
expr_plain (terms.read r) h = reference_plain r h
expr_plain (terms.poll {q} {look} r is _ _ _) h = reference_plain r (query_apart q.kind look is)
expr_plain (terms.ask {w} {o} {f} {from} is _ _ _) h = by_other w (o ∷ from) (fill_other w.kind f is)
expr_plain (terms.unary {o} {p} {from} is _ _) h = by_other o from (prefix_other o.kind p is)
expr_plain (terms.binary {o} {i} is _ x _) h = expr_plain x (operator_apart o.kind i is)
expr_plain (terms.parentheses {o} {from} is x closed) h = record { plain = other_plain k.OpenParen o from is refl; no_run = no_run_behind o from is (expr_plain x (apart_at k.CloseParen closed refl refl)).no_run }
expr_plain (terms.choice {o} {from} is x asked _ _ _ _) h = record { plain = other_plain k.OpenParen o from is refl; no_run = no_run_behind o from is (expr_plain x (apart_at k.Arrow asked refl refl)).no_run }

pub run_leads : {x : Run} {from to : List Word} → SpellsRun x from to → leads_to_run from ≡ true
unfolding leads_to_run pick
run_leads (grammar.run_nothing {r} is _ _ _) = rw (not_kind r.kind k.Run k.OpenParen is refl, is_kind r.kind k.Run is) refl
run_leads (grammar.run_with {r} is _ _ _ _) = rw (not_kind r.kind k.Run k.OpenParen is refl, is_kind r.kind k.Run is) refl
run_leads (grammar.run_group {o} is x _) = rw (is_kind o.kind k.OpenParen is) (run_leads x)

run_plain : {x : Run} {from to : List Word} → SpellsRun x from to → Plain from
run_plain (grammar.run_nothing is _ _ _) = other_plain k.Run _ _ is refl
run_plain (grammar.run_with is _ _ _ _) = other_plain k.Run _ _ is refl
run_plain (grammar.run_group is _ _) = other_plain k.OpenParen _ _ is refl

pub action_plain : {closed : Bool} {x : Action} {from to : List Word} → SpellsAction closed x from to → (closed ≡ false → follows (next to) ≡ true) → Plain from
action_plain (grammar.otherwise is) follow = other_plain k.Else _ _ is refl
action_plain (grammar.assign r is _) follow = (reference_plain r (apart_at k.Assign is refl refl)).plain
action_plain (grammar.assign_run r is _) follow = (reference_plain r (apart_at k.Assign is refl refl)).plain
action_plain (grammar.increment r is) follow = (reference_plain r (apart_at k.Increment is refl refl)).plain
action_plain (grammar.decrement r is) follow = (reference_plain r (apart_at k.Decrement is refl refl)).plain
action_plain (grammar.run x) follow = run_plain x
action_plain (grammar.send {o} {order} r is _) follow = (reference_plain r (bang_apart o.kind order is)).plain
action_plain (grammar.receive {q} {look} r is _) follow = (reference_plain r (query_apart q.kind look is)).plain
action_plain (grammar.copy {q} {look} r is _ _ _) follow = (reference_plain r (query_apart q.kind look is)).plain
action_plain (grammar.printf is _ _ _) follow = other_plain k.Printf _ _ is refl
action_plain (grammar.printf_with is _ _ _ _ _) follow = other_plain k.Printf _ _ is refl
action_plain (grammar.printm is _ _ _) follow = other_plain k.Printm _ _ is refl
action_plain (grammar.assert is _) follow = other_plain k.Assert _ _ is refl
action_plain (grammar.holds x) follow = (expr_plain x (apart _ (follow refl))).plain

-- ---- what takes at least one token

pub exprs_move : {xs : List Expr} {from to : List Word} → SpellsList (SpellsExpr 1) xs from to → length to < length from
exprs_move h = list_moves (λ x from to s. expr_moves s) h

pub run_moves : {x : Run} {from to : List Word} → SpellsRun x from to → length to < length from
run_moves (grammar.run_nothing _ _ _ _) = omega arith
run_moves (grammar.run_with _ _ _ xs _) = omega (arith, exprs_move xs)
run_moves (grammar.run_group _ x _) = omega (arith, run_moves x)

values_move : {xs : List Expr} {from to : List Word} → SpellsValues xs from to → length to < length from
values_move (grammar.value_list xs) = exprs_move xs
values_move (grammar.value_call x _ xs _) = omega (arith, expr_moves x, exprs_move xs)

pub action_moves : {closed : Bool} {x : Action} {from to : List Word} → SpellsAction closed x from to → length to < length from
action_moves (grammar.otherwise _) = omega arith
action_moves (grammar.assign r _ x) = omega (arith, reference_moves r, expr_moves x)
action_moves (grammar.assign_run r _ x) = omega (arith, reference_moves r, run_moves x)
action_moves (grammar.increment r _) = omega (arith, reference_moves r)
action_moves (grammar.decrement r _) = omega (arith, reference_moves r)
action_moves (grammar.run x) = run_moves x
action_moves (grammar.send r _ xs) = omega (arith, reference_moves r, values_move xs)
action_moves (grammar.receive r _ xs) = omega (arith, reference_moves r, arguments_move xs)
action_moves (grammar.copy r _ _ xs _) = omega (arith, reference_moves r, arguments_move xs)
action_moves (grammar.printf _ _ _ _) = omega arith
action_moves (grammar.printf_with _ _ _ _ xs _) = omega (arith, exprs_move xs)
action_moves (grammar.printm _ _ x _) = omega (arith, expr_moves x)
action_moves (grammar.assert _ x) = omega (arith, expr_moves x)
action_moves (grammar.holds x) = expr_moves x
