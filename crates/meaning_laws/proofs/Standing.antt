-- Each expression stands for what it is numbered as.
use Rattle.std.proofs.Common.{◌≡◌, ℕ, List, [], ◌∷◌, map, Option, Some, None, refl, ap, sym, subst, ◌∙◌}
use Rattle.pml_token.specs.Word.{Word}
use Rattle.pml_tree.specs.declared.tree.Argument.{Argument, Argument-F, map-Argument, roll-Argument, ind-Argument}
use Rattle.pml_tree.specs.declared.tree.Argument.TheVariants as g
use Rattle.pml_tree.specs.declared.tree.Expr.{Expr as TreeExpr, Expr-F, map-Expr, roll-Expr, ind-Expr}
use Rattle.pml_tree.specs.declared.tree.Expr.TheVariants as e
use Rattle.pml_tree.specs.declared.tree.Reference.{Reference, Reference-F, map-Reference, roll-Reference, ind-Reference}
use Rattle.pml_tree.specs.declared.tree.Step.{Step, Step-F, map-Step, roll-Step}
use Rattle.pml_program.specs.declared.form.Form.{Form}
use Rattle.pml_program.specs.declared.program.Slot.{Slot}
use Rattle.pml_program.specs.declared.expr.Expr.{Expr}
use Rattle.pml_program.specs.declared.expr.Want.{Want}
use Rattle.check_resolve.specs.Numbered.{Scope, Path, through, at_scope, numbered, numbered_argument, numbered_reference, numbered_step}
use Rattle.promela_model.specs.Stands as stands
use Rattle.promela_model.specs.Stands.{Meaning, special, turn_to, StandsIndex, StandsStep, StandsFields, StandsReference, StandsExpr, StandsArgument, StandsArguments, Globals, variable_named, constant_named, fields_in}
use Rattle.promela_grammar.specs.Expressions.{named_step, reference_of}
use Rattle.meaning_laws.proofs.Things.{IsKnown}
use Rattle.meaning_laws.proofs.Agreeing.{Sees, meaning_of, known-at, field-known, through-field, through-lost, reached-special, reached-local, reached-global, reached-mtype, reached-nothing}
use Rattle.meaning_laws.proofs.Layers.{indexed, number-is, truth-value-is, timeout-is, reading-is, ask-is, poll-is, unary-is, binary-is, choice-is, exactly-is, fixed-is, equal-is, into-is, reference-is, step-is}

module _ (gs : Globals) (ls : List Slot) (sc : Scope) (sees : Sees gs ls sc) where
  abbrev PA : Argument → Type 0
  PA q = StandsArgument gs ls q (numbered_argument q sc)

  abbrev PE : TreeExpr → Type 0
  PE a = StandsExpr gs ls a (numbered a sc)

  abbrev PR : Reference → Type 0
  PR p = StandsReference gs ls p (meaning_of (numbered_reference p sc))

  abbrev PS : Step → Type 0
  PS s = StandsStep gs ls s (numbered_step s).name ((numbered_step s).index sc)

  abbrev A : Type 0
  A = (q : Argument) × PA q

  abbrev E : Type 0
  E = (a : TreeExpr) × PE a

  abbrev R : Type 0
  R = (p : Reference) × PR p

  abbrev S : Type 0
  S = (s : Step) × PS s

  abbrev steps : List S → List Step
  steps = map (λ (s : S). s.0)

  abbrev Path_stands : Form → List Step → Path → Type 0
  Path_stands f ss p = StandsFields gs ls f ss p.0 p.1

  fields-one : (f : Form) → IsKnown gs.typedefs f → (s : S) (ss : List S) → ((g : Form) → IsKnown gs.typedefs g → Path_stands g (steps ss) (through g (map numbered_step (steps ss)) sc))
      → (x : Option (ℕ × Slot)) → variable_named (fields_in gs f) (numbered_step s.0).name ≡ x
      → Path_stands f (steps (s ∷ ss)) (through f (map numbered_step (steps (s ∷ ss))) sc)
  fields-one f k s ss rest (Some p) is =
      subst (Path_stands f (steps (s ∷ ss))) (sym (through-field gs ls sc sees f k (numbered_step s.0) (map numbered_step (steps ss)) p is))
      (stands.field s.1 is (rest p.1.form (field-known gs sc.names sees.global f (numbered_step s.0).name p is)))
  fields-one f k s ss rest None is =
      subst (Path_stands f (steps (s ∷ ss))) (sym (through-lost gs ls sc sees f k (numbered_step s.0) (map numbered_step (steps ss)) is)) (stands.lost_field s.1 is)

  fields-stand : (ss : List S) (f : Form) → IsKnown gs.typedefs f → Path_stands f (steps ss) (through f (map numbered_step (steps ss)) sc)
  fields-stand [] f k = stands.no_field
  fields-stand (s ∷ ss) f k = fields-one f k s ss (fields-stand ss) (variable_named (fields_in gs f) (numbered_step s.0).name) refl

  module _ (s : S) (ss : List S) where
    abbrev name : List ℕ
    name = (numbered_step s.0).name

    abbrev Stood : Meaning → Type 0
    Stood m = StandsReference gs ls (reference_of s.0 (steps ss)) m

    abbrev whole : Meaning
    whole = meaning_of (numbered_reference (reference_of s.0 (steps ss)) sc)

    -- by what the name is among what is declared
    named : (m : Option Meaning) (own all : Option (ℕ × Slot)) (c : Option ℕ) → special name ≡ m → variable_named ls name ≡ own → variable_named gs.variables name ≡ all → constant_named gs.constants name ≡ c → Stood whole
    named (Some m) own all c is h g f =
        subst Stood (sym (ap meaning_of (reference-is sc s.0 (steps ss)) ∙ reached-special gs ls sc sees (numbered_step s.0) (map numbered_step (steps ss)) m is))
        (stands.special_name (steps ss) s.1 is)
    named None (Some p) all c is h g f =
        subst Stood (sym (ap meaning_of (reference-is sc s.0 (steps ss)) ∙ reached-local gs ls sc sees (numbered_step s.0) (map numbered_step (steps ss)) p is h))
        (stands.local_variable s.1 is h (fields-stand ss p.1.form (known-at gs.typedefs ls name p sees.known h)))
    named None None (Some p) c is h g f =
        subst Stood (sym (ap meaning_of (reference-is sc s.0 (steps ss)) ∙ reached-global gs ls sc sees (numbered_step s.0) (map numbered_step (steps ss)) p is h g))
        (stands.global_variable s.1 is h g (fields-stand ss p.1.form (known-at gs.typedefs gs.variables name p sees.global.known g)))
    named None None None (Some k) is h g f =
        subst Stood (sym (ap meaning_of (reference-is sc s.0 (steps ss)) ∙ reached-mtype gs ls sc sees (numbered_step s.0) (map numbered_step (steps ss)) k is h f))
        (stands.mtype_name (steps ss) s.1 is h f)
    named None None None None is h g f =
        subst Stood (sym (ap meaning_of (reference-is sc s.0 (steps ss)) ∙ reached-nothing gs ls sc sees (numbered_step s.0) (map numbered_step (steps ss)) is h g f))
        (stands.no_name (steps ss) s.1 is h g f)

    reference-step : Stood whole
    reference-step = named (special name) (variable_named ls name) (variable_named gs.variables name) (constant_named gs.constants name) refl refl refl refl

  arguments-of : (xs : List A) → StandsArguments gs ls (map (λ (q : A). q.0) xs) (at_scope (map numbered_argument (map (λ (q : A). q.0) xs)) sc)
  arguments-of [] = stands.no_argument
  arguments-of (x ∷ xs) = stands.argument x.1 (arguments-of xs)

  -- an expression that is made so stands for what it is numbered as
  put : (x : TreeExpr) (y : Expr-F Argument TreeExpr Reference Step) (z : Expr) → roll-Expr y ≡ x → numbered x sc ≡ z → StandsExpr gs ls x z → PE (roll-Expr y)
  put x y z is same h = subst PE (sym is) (subst (StandsExpr gs ls x) (sym same) h)

  put-argument : (x : Argument) (y : Argument-F Argument TreeExpr Reference Step) (z : Want) → roll-Argument y ≡ x → numbered_argument x sc ≡ z → StandsArgument gs ls x z → PA (roll-Argument y)
  put-argument x y z is same h = subst PA (sym is) (subst (StandsArgument gs ls x) (sym same) h)

  abbrev bare : Expr-F A E R S → Expr-F Argument TreeExpr Reference Step
  bare = map-Expr A E R S Argument TreeExpr Reference Step (λ q. q.0) (λ q. q.0) (λ q. q.0) (λ q. q.0)

  abbrev bare-argument : Argument-F A E R S → Argument-F Argument TreeExpr Reference Step
  bare-argument = map-Argument A E R S Argument TreeExpr Reference Step (λ q. q.0) (λ q. q.0) (λ q. q.0) (λ q. q.0)

  expr-step : (y : Expr-F A E R S) → PE (roll-Expr (bare y))
  expr-step (Expr-F.Number n) = put (e.Number n) (Expr-F.Number n) _ (e.rolls-Number n) (number-is sc n) (stands.number n)
  expr-step (Expr-F.Truth b) = put (e.Truth b) (Expr-F.Truth b) _ (e.rolls-Truth b) (truth-value-is sc b) (stands.truth b)
  expr-step Expr-F.Timeout = put e.Timeout Expr-F.Timeout _ e.rolls-Timeout (timeout-is sc) stands.timeout
  expr-step (Expr-F.Read p) = put (e.Read p.0) (Expr-F.Read p.0) _ (e.rolls-Read p.0) (reading-is sc p.0) (stands.read p.1)
  expr-step (Expr-F.Ask f p) = put (e.Ask f p.0) (Expr-F.Ask f p.0) _ (e.rolls-Ask f p.0) (ask-is sc f p.0) (stands.ask f p.1)
  expr-step (Expr-F.Poll p look xs) =
      let qs = map (λ (q : A). q.0) xs in
      put (e.Poll p.0 look qs) (Expr-F.Poll p.0 look qs) _ (e.rolls-Poll p.0 look qs) (poll-is sc p.0 look qs) (stands.poll look p.1 (arguments-of xs))
  expr-step (Expr-F.Unary o a) = put (e.Unary o a.0) (Expr-F.Unary o a.0) _ (e.rolls-Unary o a.0) (unary-is sc o a.0) (stands.unary o a.1)
  expr-step (Expr-F.Binary o a b) = put (e.Binary o a.0 b.0) (Expr-F.Binary o a.0 b.0) _ (e.rolls-Binary o a.0 b.0) (binary-is sc o a.0 b.0) (stands.binary o a.1 b.1)
  expr-step (Expr-F.Choice a b c) = put (e.Choice a.0 b.0 c.0) (Expr-F.Choice a.0 b.0 c.0) _ (e.rolls-Choice a.0 b.0 c.0) (choice-is sc a.0 b.0 c.0) (stands.choice a.1 b.1 c.1)

  argument-step : (y : Argument-F A E R S) → PA (roll-Argument (bare-argument y))
  argument-step (Argument-F.Exactly i n) = put-argument (g.Exactly i n) (Argument-F.Exactly i n) _ (g.rolls-Exactly i n) (exactly-is sc i n) (stands.exactly i n)
  argument-step (Argument-F.Fixed b) = put-argument (g.Fixed b) (Argument-F.Fixed b) _ (g.rolls-Fixed b) (fixed-is sc b) (stands.fixed b)
  argument-step (Argument-F.Eval a) = put-argument (g.Eval a.0) (Argument-F.Eval a.0) _ (g.rolls-Eval a.0) (equal-is sc a.0) (stands.equal a.1)
  argument-step (Argument-F.Into p) = put-argument (g.Into p.0) (Argument-F.Into p.0) _ (g.rolls-Into p.0) (into-is sc p.0) (stands.into p.1)

  bare_index : Option E → Option TreeExpr
  bare_index None = None
  bare_index (Some a) = Some a.0

  index-stands : (n : Word) (i : Option TreeExpr) → StandsIndex gs ls i (indexed sc i) → PS (named_step n i)
  index-stands n i h =
      subst (λ (m : List ℕ). StandsStep gs ls (named_step n i) m ((numbered_step (named_step n i)).index sc)) (sym (step-is sc n i).0)
      (subst (λ (x : Option Expr). StandsStep gs ls (named_step n i) n.text x) (sym (step-is sc n i).1) (stands.step h))

  step-step : (n : Word) (i : Option E) → PS (roll-Step (map-Step A E R S Argument TreeExpr Reference Step (λ q. q.0) (λ q. q.0) (λ q. q.0) (λ q. q.0) (record { name = n; index = i })))
  step-step n None = index-stands n None stands.no_index
  step-step n (Some a) = index-stands n (Some a.0) (stands.index a.1)

  argument-proof : (x : Argument-F Argument TreeExpr Reference Step) (y : Argument-F A E R S) → bare-argument y ≡ x → PA (roll-Argument x)
  argument-proof x y is = subst (λ z. PA (roll-Argument z)) is (argument-step y)

  expr-proof : (x : Expr-F Argument TreeExpr Reference Step) (y : Expr-F A E R S) → bare y ≡ x → PE (roll-Expr x)
  expr-proof x y is = subst (λ z. PE (roll-Expr z)) is (expr-step y)

  reference-proof : (x : Reference-F Argument TreeExpr Reference Step) (y : Reference-F A E R S) → map-Reference A E R S Argument TreeExpr Reference Step (λ q. q.0) (λ q. q.0) (λ q. q.0) (λ q. q.0) y ≡ x → PR (roll-Reference x)
  reference-proof x y is = subst (λ z. PR (roll-Reference z)) is (reference-step y.first y.fields)

  step-proof : (x : Step-F Argument TreeExpr Reference Step) (y : Step-F A E R S) → map-Step A E R S Argument TreeExpr Reference Step (λ q. q.0) (λ q. q.0) (λ q. q.0) (λ q. q.0) y ≡ x → PS (roll-Step x)
  step-proof x y is = subst (λ z. PS (roll-Step z)) is (step-step y.name y.index)

  pub expr-stands : (a : TreeExpr) → StandsExpr gs ls a (numbered a sc)
  expr-stands = ind-Expr PA PE PR PS argument-proof expr-proof reference-proof step-proof

  pub argument-stands : (q : Argument) → StandsArgument gs ls q (numbered_argument q sc)
  argument-stands = ind-Argument PA PE PR PS argument-proof expr-proof reference-proof step-proof

  pub reference-stands : (p : Reference) → StandsReference gs ls p (meaning_of (numbered_reference p sc))
  reference-stands = ind-Reference PA PE PR PS argument-proof expr-proof reference-proof step-proof
