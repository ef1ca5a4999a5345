-- What each production of an expression is numbered as.
use Rattle.std.proofs.Common.{◌≡◌, Bool, true, false, List, map, Option, Some, None, ℤ, pos, if◌then◌else◌, refl, ap, sym, ◌∙◌}
use Rattle.pml_token.specs.Word.{Word}
use Rattle.pml_tree.specs.declared.tree.Sign.{Sign}
use Rattle.pml_tree.specs.declared.tree.Sign.TheVariants.{Plus, Minus}
use Rattle.pml_tree.specs.declared.tree.Fill.{Fill}
use Rattle.pml_tree.specs.declared.tree.Prefix.{Prefix}
use Rattle.pml_tree.specs.declared.tree.Infix.{Infix}
use Rattle.pml_tree.specs.declared.tree.Search.{Search}
use Rattle.pml_tree.specs.declared.tree.Argument.{Argument, Argument-F, map-Argument, roll-Argument, fold-roll-Argument}
use Rattle.pml_tree.specs.declared.tree.Argument.TheVariants as g
use Rattle.pml_tree.specs.declared.tree.Expr.{Expr as TreeExpr, Expr-F, map-Expr, roll-Expr, fold-roll-Expr}
use Rattle.pml_tree.specs.declared.tree.Expr.TheVariants as e
use Rattle.pml_tree.specs.declared.tree.Reference.{Reference, fold-roll-Reference}
use Rattle.pml_tree.specs.declared.tree.Step.{Step, fold-roll-Step}
use Rattle.promela_model.specs.Names.{number_from_digits as number_of}
use Rattle.promela_model.specs.declared.mark.Constant.{Constant}
use Rattle.promela_model.specs.declared.mark.Constant.TheVariants as constant
use Rattle.pml_program.specs.declared.expr.Expr.{Expr}
use Rattle.pml_program.specs.declared.expr.Expr.TheVariants as v
use Rattle.pml_program.specs.declared.expr.Want.TheVariants as w
use Rattle.check_resolve.specs.declared.reached.Reached.{Reached}
use Rattle.check_resolve.specs.declared.reached.Reached.TheVariants as r
use Rattle.check_resolve.specs.Numbered.{Scope, Stepped, Valued, Wanted, Reaching, reached, literal, truth, signed, read, target, received, at_scope, argument_layer, expr_layer, reference_layer, step_layer, numbered, numbered_argument, numbered_reference, numbered_step}
use Rattle.promela_model.specs.Stands.{value_of, with_sign, as_value, as_place, as_wanted}
use Rattle.promela_grammar.specs.Expressions.{named_step, reference_of}
use Rattle.meaning_laws.proofs.Agreeing.{meaning_of}

-- ---- the words of the numbering are those of the relation

pub literal-is : (c : Constant) → literal c ≡ value_of c
literal-is (constant.Is x) = refl
literal-is constant.Faulty = refl
literal-is constant.Open = refl

-- `true` and `skip` are 1, and `false` is 0
abbrev truth_of : Bool → ℤ
truth_of b = pos (if b then 1 else 0)

pub truth-is : (b : Bool) → truth b ≡ truth_of b
truth-is true = refl
truth-is false = refl

pub signed-is : (s : Sign) (c : Constant) → signed s c ≡ with_sign s c
signed-is Plus c = refl
signed-is Minus c = refl

pub read-is : (x : Reached) → read x ≡ as_value (meaning_of x)
read-is (r.Place t) = refl
read-is (r.Constant n) = refl
read-is r.Pid = refl
read-is r.ProcessCount = refl
read-is r.Anything = refl
read-is r.Nothing = refl

pub target-is : (x : Reached) → target x ≡ as_place (meaning_of x)
target-is (r.Place t) = refl
target-is (r.Constant n) = refl
target-is r.Pid = refl
target-is r.ProcessCount = refl
target-is r.Anything = refl
target-is r.Nothing = refl

pub received-is : (x : Reached) → received x ≡ as_wanted (meaning_of x)
received-is (r.Place t) = refl
received-is (r.Constant n) = refl
received-is r.Pid = refl
received-is r.ProcessCount = refl
received-is r.Anything = refl
received-is r.Nothing = refl

-- ---- by the production

module _ (sc : Scope) where
  made : (x : TreeExpr) (y : Expr-F Argument TreeExpr Reference Step) → roll-Expr y ≡ x
      → numbered x sc ≡ expr_layer (map-Expr Argument TreeExpr Reference Step Wanted Valued Reaching Stepped numbered_argument numbered numbered_reference numbered_step y) sc
  made x y is = ap (λ (a : TreeExpr). numbered a sc) (sym is) ∙ ap (λ (f : Valued). f sc) (fold-roll-Expr Wanted Valued Reaching Stepped argument_layer expr_layer reference_layer step_layer y)

  wanted : (x : Argument) (y : Argument-F Argument TreeExpr Reference Step) → roll-Argument y ≡ x
      → numbered_argument x sc ≡ argument_layer (map-Argument Argument TreeExpr Reference Step Wanted Valued Reaching Stepped numbered_argument numbered numbered_reference numbered_step y) sc
  wanted x y is = ap (λ (a : Argument). numbered_argument a sc) (sym is) ∙ ap (λ (f : Wanted). f sc) (fold-roll-Argument Wanted Valued Reaching Stepped argument_layer expr_layer reference_layer step_layer y)

  pub number-is : (n : Word) → numbered (e.Number n) sc ≡ v.Number (value_of (number_of n.text))
  number-is n = made (e.Number n) (Expr-F.Number n) (e.rolls-Number n) ∙ ap v.Number (literal-is (number_of n.text))

  pub truth-value-is : (b : Bool) → numbered (e.Truth b) sc ≡ v.Number (truth_of b)
  truth-value-is b = made (e.Truth b) (Expr-F.Truth b) (e.rolls-Truth b) ∙ ap v.Number (truth-is b)

  pub timeout-is : numbered e.Timeout sc ≡ v.Timeout
  timeout-is = made e.Timeout Expr-F.Timeout e.rolls-Timeout

  pub reading-is : (p : Reference) → numbered (e.Read p) sc ≡ as_value (meaning_of (numbered_reference p sc))
  reading-is p = made (e.Read p) (Expr-F.Read p) (e.rolls-Read p) ∙ read-is (numbered_reference p sc)

  pub ask-is : (f : Fill) (p : Reference) → numbered (e.Ask f p) sc ≡ v.Ask f (as_place (meaning_of (numbered_reference p sc)))
  ask-is f p = made (e.Ask f p) (Expr-F.Ask f p) (e.rolls-Ask f p) ∙ ap (v.Ask f) (target-is (numbered_reference p sc))

  pub poll-is : (p : Reference) (look : Search) (qs : List Argument) → numbered (e.Poll p look qs) sc ≡ v.Poll (as_place (meaning_of (numbered_reference p sc))) look (at_scope (map numbered_argument qs) sc)
  poll-is p look qs =
      made (e.Poll p look qs) (Expr-F.Poll p look qs) (e.rolls-Poll p look qs)
      ∙ ap (λ t. v.Poll t look (at_scope (map numbered_argument qs) sc)) (target-is (numbered_reference p sc))

  pub unary-is : (o : Prefix) (a : TreeExpr) → numbered (e.Unary o a) sc ≡ v.Unary o (numbered a sc)
  unary-is o a = made (e.Unary o a) (Expr-F.Unary o a) (e.rolls-Unary o a)

  pub binary-is : (o : Infix) (a b : TreeExpr) → numbered (e.Binary o a b) sc ≡ v.Binary o (numbered a sc) (numbered b sc)
  binary-is o a b = made (e.Binary o a b) (Expr-F.Binary o a b) (e.rolls-Binary o a b)

  pub choice-is : (a b c : TreeExpr) → numbered (e.Choice a b c) sc ≡ v.Choice (numbered a sc) (numbered b sc) (numbered c sc)
  choice-is a b c = made (e.Choice a b c) (Expr-F.Choice a b c) (e.rolls-Choice a b c)

  pub exactly-is : (s : Sign) (n : Word) → numbered_argument (g.Exactly s n) sc ≡ w.Exactly (value_of (with_sign s (number_of n.text)))
  exactly-is s n =
      wanted (g.Exactly s n) (Argument-F.Exactly s n) (g.rolls-Exactly s n)
      ∙ ap w.Exactly (ap literal (signed-is s (number_of n.text)) ∙ literal-is (with_sign s (number_of n.text)))

  pub fixed-is : (b : Bool) → numbered_argument (g.Fixed b) sc ≡ w.Exactly (truth_of b)
  fixed-is b = wanted (g.Fixed b) (Argument-F.Fixed b) (g.rolls-Fixed b) ∙ ap w.Exactly (truth-is b)

  pub equal-is : (a : TreeExpr) → numbered_argument (g.Eval a) sc ≡ w.Equal (numbered a sc)
  equal-is a = wanted (g.Eval a) (Argument-F.Eval a) (g.rolls-Eval a)

  pub into-is : (p : Reference) → numbered_argument (g.Into p) sc ≡ as_wanted (meaning_of (numbered_reference p sc))
  into-is p = wanted (g.Into p) (Argument-F.Into p) (g.rolls-Into p) ∙ received-is (numbered_reference p sc)

  pub reference-is : (s : Step) (ss : List Step) → numbered_reference (reference_of s ss) sc ≡ reached (numbered_step s) (map numbered_step ss) sc
  reference-is s ss = ap (λ (f : Reaching). f sc) (fold-roll-Reference Wanted Valued Reaching Stepped argument_layer expr_layer reference_layer step_layer (record { first = s; fields = ss }))

  -- an index, as a step of a reference has it
  abbrev pub indexed : Option TreeExpr → Option Expr
  indexed None = None
  indexed (Some a) = Some (numbered a sc)

  index-is : (n : Word) (i : Option TreeExpr) → (numbered_step (named_step n i)).index sc ≡ indexed i
  index-is n None = ap (λ (s : Stepped). s.index sc) (fold-roll-Step Wanted Valued Reaching Stepped argument_layer expr_layer reference_layer step_layer (record { name = n; index = None }))
  index-is n (Some a) = ap (λ (s : Stepped). s.index sc) (fold-roll-Step Wanted Valued Reaching Stepped argument_layer expr_layer reference_layer step_layer (record { name = n; index = Some a }))

  pub step-is : (n : Word) (i : Option TreeExpr) → ((numbered_step (named_step n i)).name ≡ n.text) × ((numbered_step (named_step n i)).index sc ≡ indexed i)
  step-is n i = (ap (λ (s : Stepped). s.name) (fold-roll-Step Wanted Valued Reaching Stepped argument_layer expr_layer reference_layer step_layer (record { name = n; index = i })), index-is n i)
