-- What a statement keeps as its tokens is what stands there.
use Rattle.std.proofs.Common.{◌≡◌, Bool, List, ◌++◌}
use Rattle.pml_token.specs.Word.{Word}
use Rattle.pml_tree.specs.declared.tree.Basic.{Basic}
use Rattle.pml_tree.specs.declared.tree.Item.{Item}
use Rattle.promela_grammar.specs.Expressions.{between, SpellsExpr, SpellsList}
use Rattle.promela_grammar.specs.Actions as grammar
use Rattle.promela_grammar.specs.Models as bodies
use Rattle.promela_grammar.specs.Actions.{SpellsScalar, SpellsRun, SpellsValues, SpellsAction, SpellsVisibility, SpellsOpener, SpellsInitial, SpellsVariable, SpellsVariables, SpellsDeclaration}
use Rattle.promela_grammar.specs.Models.{SpellsBasic, SpellsStatement, SpellsItem, SpellsItems, SpellsOptions, SpellsSeparators, SpellsGap, SpellsLabels}
use Rattle.pml_expression.proofs.Kept.{Leads, here, past, ◌then◌, step, index_leads, reference_leads, expr_leads, arguments_lead, list_leads, cut}
use Rattle.pml_syntax.proofs.Ranges.{range_leads}

exprs_lead : {xs : _} {from to : List Word} → SpellsList (SpellsExpr 1) xs from to → Leads from to
exprs_lead xs = list_leads (λ x from to s. expr_leads s) xs

run_leads : {x : _} {from to : List Word} → SpellsRun x from to → Leads from to
run_leads (grammar.run_nothing _ _ _ _) = past (past (past (past here)))
run_leads (grammar.run_with _ _ _ xs _) = past (past (past (step (exprs_lead xs))))
run_leads (grammar.run_group _ x _) = past (step (run_leads x))

values_lead : {xs : _} {from to : List Word} → SpellsValues xs from to → Leads from to
values_lead (grammar.value_list xs) = exprs_lead xs
values_lead (grammar.value_call x _ xs _) = step (expr_leads x) then step (exprs_lead xs)

action_leads : {closed : Bool} {x : _} {from to : List Word} → SpellsAction closed x from to → Leads from to
action_leads (grammar.otherwise _) = past here
action_leads (grammar.assign r _ x) = step (reference_leads r) then expr_leads x
action_leads (grammar.assign_run r _ x) = step (reference_leads r) then run_leads x
action_leads (grammar.increment r _) = step (reference_leads r)
action_leads (grammar.decrement r _) = step (reference_leads r)
action_leads (grammar.run x) = run_leads x
action_leads (grammar.send r _ xs) = step (reference_leads r) then values_lead xs
action_leads (grammar.receive r _ xs) = step (reference_leads r) then arguments_lead xs
action_leads (grammar.copy r _ _ xs _) = step (step (reference_leads r)) then step (arguments_lead xs)
action_leads (grammar.printf _ _ _ _) = past (past (past (past here)))
action_leads (grammar.printf_with _ _ _ _ xs _) = past (past (past (past (step (exprs_lead xs)))))
action_leads (grammar.printm _ _ x _) = past (past (step (expr_leads x)))
action_leads (grammar.assert _ x) = past (expr_leads x)
action_leads (grammar.holds x) = expr_leads x

scalar_leads : (s : _) (from to : List Word) → SpellsScalar s from to → Leads from to
scalar_leads s from to (grammar.scalar_type _) = past here

pub visibility_leads : {from to : List Word} → SpellsVisibility from to → Leads from to
visibility_leads grammar.no_visibility = here
visibility_leads (grammar.visibility _) = past here

pub opener_leads : {f : _} {from to : List Word} → SpellsOpener f from to → Leads from to
opener_leads (grammar.of_scalar _) = past here
opener_leads (grammar.of_unsigned _) = past here
opener_leads (grammar.of_typedef _) = past here

initial_leads : {closed : Bool} {i : _} {from to : List Word} → SpellsInitial closed i from to → Leads from to
initial_leads grammar.no_initial = here
initial_leads (grammar.value _ x) = past (expr_leads x)
initial_leads (grammar.channel _ _ x _ _ _ ts _) = past (past (step (step (step (expr_leads x))) then step (list_leads scalar_leads ts)))

variable_leads : {closed : Bool} {f : _} {v : _} {from to : List Word} → SpellsVariable closed f v from to → Leads from to
variable_leads (grammar.plain _ size i) = past (index_leads size then initial_leads i)
variable_leads (grammar.structured _ size) = past (index_leads size)
variable_leads (grammar.packed _ _ _) = past (past (past here))
variable_leads (grammar.packed_value _ _ _ _ x) = past (past (past (past (expr_leads x))))

pub variables_lead : {closed : Bool} {f : _} {vs : _} {from to : List Word} → SpellsVariables closed f vs from to → Leads from to
variables_lead (grammar.last_variable v) = variable_leads v
variables_lead (grammar.more_variables v _ vs) = step (variable_leads v) then variables_lead vs

pub declaration_leads : {closed : Bool} {vs : _} {from to : List Word} → SpellsDeclaration closed vs from to → Leads from to
declaration_leads (grammar.declaration v f vs) = visibility_leads v then opener_leads f then variables_lead vs

pub separators_lead : {from to : List Word} → SpellsSeparators from to → Leads from to
separators_lead bodies.no_separator = here
separators_lead (bodies.one_separator _ s) = past (separators_lead s)

pub gap_leads : {closed : Bool} {from to : List Word} → SpellsGap closed from to → Leads from to
gap_leads (bodies.separated _ s) = past (separators_lead s)
gap_leads bodies.joined = here

pub labels_lead : {ls from to : List Word} → SpellsLabels ls from to → Leads from to
labels_lead bodies.no_label = here
labels_lead (bodies.one_label _ _ ls) = past (past (labels_lead ls))

mutual
  basic_leads : {closed : Bool} {x : Basic} {from to : List Word} → SpellsBasic closed x from to → Leads from to
  basic_leads (bodies.if_fi _ os _) = past (step (options_lead os))
  basic_leads (bodies.do_od _ os _) = past (step (options_lead os))
  basic_leads (bodies.block _ xs _) = past (step (items_lead xs))
  basic_leads (bodies.atomic _ _ xs _) = past (past (step (items_lead xs)))
  basic_leads (bodies.d_step _ _ xs _) = past (past (step (items_lead xs)))
  basic_leads (bodies.for_loop r _ xs _) = step (range_leads r) then step (items_lead xs)
  basic_leads (bodies.select r) = range_leads r
  basic_leads (bodies.goto _ _) = past (past here)
  basic_leads (bodies.break _) = past here
  basic_leads (bodies.action x) = action_leads x

  pub statement_leads : {closed : Bool} {x : Item} {from to : List Word} → SpellsStatement closed x from to → Leads from to
  statement_leads (bodies.statement ls x) = labels_lead ls then basic_leads x

  pub item_leads : {s closed : Bool} {x : Item} {from to : List Word} → SpellsItem s closed x from to → Leads from to
  item_leads (bodies.declared d) = declaration_leads d
  item_leads (bodies.exclusive _ rs) = past (list_leads (λ r from to s. reference_leads s) rs)
  item_leads (bodies.only x) = statement_leads x
  item_leads (bodies.unless x _ y) = step (statement_leads x) then statement_leads y

  pub items_lead : {s : Bool} {xs : List Item} {from to : List Word} → SpellsItems s xs from to → Leads from to
  items_lead (bodies.last_item x s) = item_leads x then separators_lead s
  items_lead (bodies.more_items x g xs) = item_leads x then gap_leads g then items_lead xs

  pub options_lead : {os : _} {from to : List Word} → SpellsOptions os from to → Leads from to
  options_lead (bodies.last_option _ xs) = past (items_lead xs)
  options_lead (bodies.more_options _ xs os) = past (items_lead xs then options_lead os)

-- what a statement keeps as its tokens is what it took from the front
pub tokens_kept : {closed : Bool} {x : Basic} {from to : List Word} → SpellsBasic closed x from to → from ≡ between from to ++ to
tokens_kept {from} {to} h = let l = basic_leads h in cut from l.words to l.parts
