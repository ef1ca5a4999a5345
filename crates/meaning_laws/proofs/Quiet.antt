-- Marks that declare nothing: those of all but declarations.
use Rattle.std.proofs.Common.{◌≡◌, ℕ, List, [], ◌∷◌, ◌++◌, map, Option, Some, None, refl, ap, sym, subst, ◌∙◌}
use Rattle.pml_token.specs.Word.{Word}
use Rattle.pml_tree.specs.declared.tree.Argument.{Argument, Argument-F, map-Argument, roll-Argument, fold-roll-Argument, ind-Argument}
use Rattle.pml_tree.specs.declared.tree.Expr.{Expr, Expr-F, out-Expr, map-Expr, roll-Expr, fold-roll-Expr, ind-Expr}
use Rattle.pml_tree.specs.declared.tree.Reference.{Reference, Reference-F, map-Reference, roll-Reference, fold-roll-Reference, ind-Reference}
use Rattle.pml_tree.specs.declared.tree.Step.{Step, Step-F, map-Step, roll-Step, fold-roll-Step}
use Rattle.pml_tree.specs.declared.tree.Sort.{Sort}
use Rattle.pml_tree.specs.declared.tree.Sort.TheVariants as sort
use Rattle.pml_tree.specs.declared.tree.Initial.{Initial}
use Rattle.pml_tree.specs.declared.tree.Initial.TheVariants as initial
use Rattle.pml_tree.specs.declared.tree.Variable.{Variable}
use Rattle.pml_tree.specs.declared.tree.Run.{Run}
use Rattle.pml_tree.specs.declared.tree.Action.{Action}
use Rattle.pml_tree.specs.declared.tree.Action.TheVariants as action
use Rattle.pml_tree.specs.declared.tree.Starts.{Starts}
use Rattle.pml_tree.specs.declared.tree.Starts.TheVariants as starts
use Rattle.promela_model.specs.Marks.{Marked, Referred, MarkedStep, one_mark, all_marks, expr_layer, argument_layer, reference_layer, step_layer, of_expr, of_argument, of_reference, of_sort, of_size, preset_layer, of_initial, of_variable, of_run, of_action, of_starts}
use Rattle.check_uses.specs.Parts.{of_step, steps_marks, of_arguments, of_references, of_labels, of_exprs}
use Rattle.promela_model.specs.declared.mark.Mark.{Mark}
use Rattle.promela_model.specs.declared.mark.Use.{Use}
use Rattle.promela_model.specs.declared.mark.Use.TheVariants as use_of
use Rattle.promela_model.specs.declared.mark.Shape.{Shape}
use Rattle.promela_model.specs.declared.mark.Constant.{Constant}
use Rattle.promela_model.specs.declared.mark.Holder.{Holder}
use Rattle.promela_model.specs.declared.mark.Structure.{Structure}
use Rattle.promela_model.specs.declared.mark.Role.{Role}
use Rattle.promela_model.specs.declared.mark.Role.TheVariants as role
use Rattle.promela_model.specs.declared.mark.What.TheVariants as what
use Rattle.check_names.specs.Entry.{Entry}
use Rattle.check_names.specs.Env.{after, env_from}
use Rattle.check_resolve.specs.Declarations.{declares}

pub env-append : (es : List Entry) (xs ys : List Mark) → env_from es (xs ++ ys) ≡ env_from (env_from es xs) ys
env-append es [] ys = refl
env-append es (x ∷ xs) ys = env-append (after es x.owner x.what) xs ys

-- nothing is declared by these marks
pub record IsQuiet (ms : List Mark) : Type 0 where
  pub still : (es : List Entry) → env_from es ms ≡ es

pub both : {xs ys : List Mark} → IsQuiet xs → IsQuiet ys → IsQuiet (xs ++ ys)
both {xs} {ys} h g = record { still = λ es. env-append es xs ys ∙ g.still (env_from es xs) ∙ h.still es }

pub nothing : IsQuiet []
nothing = record { still = λ es. refl }

-- a mark that declares nothing
module _ (o : ℕ) where
  quiet-uses : (u : Use) (ss : List Shape) → IsQuiet (one_mark (what.Uses u ss) o)
  unfolding after
  quiet-uses u ss = record { still = λ es. refl }

  quiet-typedef : (t : Word) → IsQuiet (one_mark (what.Typedef t) o)
  unfolding after
  quiet-typedef t = record { still = λ es. refl }

  quiet-runs : (t : Word) (k : ℕ) → IsQuiet (one_mark (what.Runs t k) o)
  unfolding after
  quiet-runs t k = record { still = λ es. refl }

  quiet-prints : (t : Word) (k : ℕ) → IsQuiet (one_mark (what.Prints t k) o)
  unfolding after
  quiet-prints t k = record { still = λ es. refl }

  quiet-number : (t : Word) → IsQuiet (one_mark (what.Number t) o)
  unfolding after
  quiet-number t = record { still = λ es. refl }

  quiet-width : (t : Word) → IsQuiet (one_mark (what.Width t) o)
  unfolding after
  quiet-width t = record { still = λ es. refl }

  quiet-size : (c : Constant) → IsQuiet (one_mark (what.Size c) o)
  unfolding after
  quiet-size c = record { still = λ es. refl }

  quiet-starts : (c : Constant) → IsQuiet (one_mark (what.Starts c) o)
  unfolding after
  quiet-starts c = record { still = λ es. refl }

  quiet-preset : (c : Constant) → IsQuiet (one_mark (what.Preset c) o)
  unfolding after
  quiet-preset c = record { still = λ es. refl }

  quiet-channel : (h : Holder) (c : Constant) (k : ℕ) → IsQuiet (one_mark (what.Channel h c k) o)
  unfolding after
  quiet-channel h c k = record { still = λ es. refl }

  pub quiet-goto : (l : Word) → IsQuiet (one_mark (what.Goto l) o)
  unfolding after
  quiet-goto l = record { still = λ es. refl }

  pub quiet-break : IsQuiet (one_mark what.Break o)
  unfolding after
  quiet-break = record { still = λ es. refl }

  pub quiet-unless : IsQuiet (one_mark what.Unless o)
  unfolding after
  quiet-unless = record { still = λ es. refl }

  pub quiet-enter : (s : Structure) → IsQuiet (one_mark (what.Enter s) o)
  unfolding after
  quiet-enter s = record { still = λ es. refl }

  pub quiet-leave : IsQuiet (one_mark what.Leave o)
  unfolding after
  quiet-leave = record { still = λ es. refl }

  quiet-label : (l : Word) → IsQuiet (one_mark (what.Label l) o)
  unfolding after
  quiet-label l = record { still = λ es. refl }

-- ---- expressions

abbrev QE : Expr → Type 0
QE e = (o : ℕ) → IsQuiet (of_expr e o)

abbrev QA : Argument → Type 0
QA a = (o : ℕ) → IsQuiet (of_argument a o)

abbrev QR : Reference → Type 0
QR r = (u : Use) (o : ℕ) → IsQuiet (of_reference r u o)

abbrev QS : Step → Type 0
QS s = (o : ℕ) → IsQuiet ((of_step s).marks o)

abbrev A : Type 0
A = (a : Argument) × QA a

abbrev E : Type 0
E = (e : Expr) × QE e

abbrev R : Type 0
R = (r : Reference) × QR r

abbrev S : Type 0
S = (s : Step) × QS s

quiet-wants : (xs : List A) (o : ℕ) → IsQuiet (all_marks (map of_argument (map (λ (a : A). a.0) xs)) o)
quiet-wants [] o = nothing
quiet-wants (x ∷ xs) o = both (x.1 o) (quiet-wants xs o)

quiet-steps : (xs : List S) (o : ℕ) → IsQuiet (steps_marks (map of_step (map (λ (s : S). s.0) xs)) o)
quiet-steps [] o = nothing
quiet-steps (x ∷ xs) o = both (x.1 o) (quiet-steps xs o)

expr-step : (y : Expr-F A E R S) (o : ℕ) → IsQuiet (expr_layer (map-Expr Argument Expr Reference Step Marked Marked Referred MarkedStep of_argument of_expr of_reference of_step (map-Expr A E R S Argument Expr Reference Step (λ e. e.0) (λ e. e.0) (λ e. e.0) (λ e. e.0) y)) o)
expr-step (Expr-F.Number n) o = quiet-number o n
expr-step (Expr-F.Truth b) o = nothing
expr-step Expr-F.Timeout o = nothing
expr-step (Expr-F.Read r) o = r.1 use_of.Read o
expr-step (Expr-F.Ask f r) o = r.1 use_of.Channel o
expr-step (Expr-F.Poll r look xs) o = both (r.1 use_of.Channel o) (quiet-wants xs o)
expr-step (Expr-F.Unary op a) o = a.1 o
expr-step (Expr-F.Binary op a b) o = both (a.1 o) (b.1 o)
expr-step (Expr-F.Choice a b c) o = both (a.1 o) (both (b.1 o) (c.1 o))

argument-step : (y : Argument-F A E R S) (o : ℕ) → IsQuiet (argument_layer (map-Argument Argument Expr Reference Step Marked Marked Referred MarkedStep of_argument of_expr of_reference of_step (map-Argument A E R S Argument Expr Reference Step (λ e. e.0) (λ e. e.0) (λ e. e.0) (λ e. e.0) y)) o)
argument-step (Argument-F.Exactly s n) o = quiet-number o n
argument-step (Argument-F.Fixed b) o = nothing
argument-step (Argument-F.Eval a) o = a.1 o
argument-step (Argument-F.Into r) o = r.1 use_of.Receive o

index-step : (i : Option E) → (n : Word) (o : ℕ) → IsQuiet ((step_layer (map-Step Argument Expr Reference Step Marked Marked Referred MarkedStep of_argument of_expr of_reference of_step (map-Step A E R S Argument Expr Reference Step (λ e. e.0) (λ e. e.0) (λ e. e.0) (λ e. e.0) (record { name = n; index = i })))).marks o)
index-step None n o = nothing
index-step (Some e) n o = e.1 o

expr-proof : (x : Expr-F Argument Expr Reference Step) (y : Expr-F A E R S) → map-Expr A E R S Argument Expr Reference Step (λ e. e.0) (λ e. e.0) (λ e. e.0) (λ e. e.0) y ≡ x → QE (roll-Expr x)
expr-proof x y is = subst (λ z. QE (roll-Expr z)) is (subst (λ (f : Marked). (o : ℕ) → IsQuiet (f o)) (sym (fold-roll-Expr Marked Marked Referred MarkedStep argument_layer expr_layer reference_layer step_layer _)) (expr-step y))

argument-proof : (x : Argument-F Argument Expr Reference Step) (y : Argument-F A E R S) → map-Argument A E R S Argument Expr Reference Step (λ e. e.0) (λ e. e.0) (λ e. e.0) (λ e. e.0) y ≡ x → QA (roll-Argument x)
argument-proof x y is = subst (λ z. QA (roll-Argument z)) is (subst (λ (f : Marked). (o : ℕ) → IsQuiet (f o)) (sym (fold-roll-Argument Marked Marked Referred MarkedStep argument_layer expr_layer reference_layer step_layer _)) (argument-step y))

reference-proof : (x : Reference-F Argument Expr Reference Step) (y : Reference-F A E R S) → map-Reference A E R S Argument Expr Reference Step (λ e. e.0) (λ e. e.0) (λ e. e.0) (λ e. e.0) y ≡ x → QR (roll-Reference x)
reference-proof x y is =
    subst (λ z. QR (roll-Reference z)) is
    (subst (λ (f : Referred). (u : Use) (o : ℕ) → IsQuiet (f u o)) (sym (fold-roll-Reference Marked Marked Referred MarkedStep argument_layer expr_layer reference_layer step_layer _))
    (λ u o. both (y.first.1 o) (both (quiet-steps y.fields o) (quiet-uses o u _))))

step-proof : (x : Step-F Argument Expr Reference Step) (y : Step-F A E R S) → map-Step A E R S Argument Expr Reference Step (λ e. e.0) (λ e. e.0) (λ e. e.0) (λ e. e.0) y ≡ x → QS (roll-Step x)
step-proof x y is = subst (λ z. QS (roll-Step z)) is (subst (λ (s : MarkedStep). (o : ℕ) → IsQuiet (s.marks o)) (sym (fold-roll-Step Marked Marked Referred MarkedStep argument_layer expr_layer reference_layer step_layer _)) (index-step y.index y.name))

pub quiet-expr : (e : Expr) → QE e
quiet-expr = ind-Expr QA QE QR QS argument-proof expr-proof reference-proof step-proof

quiet-argument : (a : Argument) → QA a
quiet-argument = ind-Argument QA QE QR QS argument-proof expr-proof reference-proof step-proof

quiet-reference : (r : Reference) → QR r
quiet-reference = ind-Reference QA QE QR QS argument-proof expr-proof reference-proof step-proof

pub quiet-exprs : (es : List Expr) (o : ℕ) → IsQuiet (of_exprs es o)
quiet-exprs [] o = nothing
quiet-exprs (e ∷ es) o = both (quiet-expr e o) (quiet-exprs es o)

quiet-arguments : (xs : List Argument) (o : ℕ) → IsQuiet (of_arguments xs o)
quiet-arguments [] o = nothing
quiet-arguments (a ∷ xs) o = both (quiet-argument a o) (quiet-arguments xs o)

-- ---- declarations

pub quiet-sort : (s : Sort) (o : ℕ) → IsQuiet (of_sort s o)
quiet-sort (sort.Plain t) o = nothing
quiet-sort (sort.Unsigned n) o = both (quiet-number o n) (quiet-width o n)
quiet-sort (sort.Named t) o = quiet-typedef o t

pub quiet-sized : (x : Option Expr) (o : ℕ) → IsQuiet (of_size x o)
quiet-sized None o = nothing
quiet-sized (Some e) o = both (quiet-expr e o) (quiet-size o _)

quiet-preset-layer : (e : Expr) (y : Expr-F Argument Expr Reference Step) (o : ℕ) → IsQuiet (preset_layer e y o)
quiet-preset-layer e (Expr-F.Read r) o = quiet-reference r use_of.Preset o
quiet-preset-layer e (Expr-F.Number n) o = both (quiet-expr e o) (quiet-preset o _)
quiet-preset-layer e (Expr-F.Truth b) o = both (quiet-expr e o) (quiet-preset o _)
quiet-preset-layer e Expr-F.Timeout o = both (quiet-expr e o) (quiet-preset o _)
quiet-preset-layer e (Expr-F.Ask f r) o = both (quiet-expr e o) (quiet-preset o _)
quiet-preset-layer e (Expr-F.Poll r look xs) o = both (quiet-expr e o) (quiet-preset o _)
quiet-preset-layer e (Expr-F.Unary op a) o = both (quiet-expr e o) (quiet-preset o _)
quiet-preset-layer e (Expr-F.Binary op a b) o = both (quiet-expr e o) (quiet-preset o _)
quiet-preset-layer e (Expr-F.Choice a b c) o = both (quiet-expr e o) (quiet-preset o _)

pub quiet-initial : (x : Role) (s : Sort) (i : Option Initial) (o : ℕ) → IsQuiet (of_initial x s i o)
quiet-initial role.Field s None o = nothing
quiet-initial role.Variable s None o = nothing
quiet-initial role.Field s (Some (initial.Value e)) o = quiet-preset-layer e (out-Expr e) o
quiet-initial role.Variable s (Some (initial.Value e)) o = quiet-expr e o
quiet-initial role.Field s (Some (initial.Channel e ts)) o = both (quiet-expr e o) (quiet-channel o _ _ _)
quiet-initial role.Variable s (Some (initial.Channel e ts)) o = both (quiet-expr e o) (quiet-channel o _ _ _)

-- what a variable's marks declare is the variable
pub variable-declares : (x : Role) (p : ℕ) (v : Variable) (o : ℕ) (es : List Entry) → env_from es (of_variable x p v o) ≡ after es p (declares x v)
variable-declares x p v o es =
    let s : List Mark = of_sort v.sort o in
    let z : List Mark = of_size v.size o in
    let i : List Mark = of_initial x v.sort v.initial o in
    let e : List Mark = one_mark (declares x v) p in
    let same : env_from (env_from (env_from es s) z) i ≡ es =
    (quiet-initial x v.sort v.initial o).still (env_from (env_from es s) z) ∙ (quiet-sized v.size o).still (env_from es s) ∙ (quiet-sort v.sort o).still es in
    env-append es s (z ++ (i ++ e)) ∙ env-append (env_from es s) z (i ++ e) ∙ env-append (env_from (env_from es s) z) i e
    ∙ ap (λ (fs : List Entry). after fs p (declares x v)) same

-- ---- statements

quiet-run : (q : Run) (o : ℕ) → IsQuiet (of_run q o)
quiet-run q o = both (quiet-exprs q.arguments o) (quiet-runs o q.name _)

pub quiet-action : (a : Action) (o : ℕ) → IsQuiet (of_action a o)
quiet-action action.Else o = nothing
quiet-action (action.Assign r e) o = both (quiet-reference r use_of.Store o) (quiet-expr e o)
quiet-action (action.AssignRun r q) o = both (quiet-reference r use_of.Store o) (quiet-run q o)
quiet-action (action.Increment r) o = quiet-reference r use_of.Update o
quiet-action (action.Decrement r) o = quiet-reference r use_of.Update o
quiet-action (action.Run q) o = quiet-run q o
quiet-action (action.Send r order es) o = both (quiet-reference r use_of.Channel o) (quiet-exprs es o)
quiet-action (action.Receive r look how xs) o = both (quiet-reference r use_of.Channel o) (quiet-arguments xs o)
quiet-action (action.Printf t es) o = both (quiet-exprs es o) (quiet-prints o t _)
quiet-action (action.Printm e) o = quiet-expr e o
quiet-action (action.Assert e) o = quiet-expr e o
quiet-action (action.Holds e) o = quiet-expr e o

pub quiet-references : (rs : List Reference) (o : ℕ) → IsQuiet (of_references rs o)
quiet-references [] o = nothing
quiet-references (r ∷ rs) o = both (quiet-reference r use_of.Channel o) (quiet-references rs o)

pub quiet-labels : (ls : List Word) (o : ℕ) → IsQuiet (of_labels ls o)
quiet-labels [] o = nothing
quiet-labels (l ∷ ls) o = both (quiet-label o l) (quiet-labels ls o)

-- ---- units

pub quiet-begins : (s : Starts) (o : ℕ) → IsQuiet (of_starts s o)
quiet-begins starts.Never o = nothing
quiet-begins starts.Once o = quiet-starts o _
quiet-begins (starts.Times e) o = both (quiet-expr e 0) (quiet-starts o _)
