-- What an expression stands for is what it is numbered as.
use Rattle.std.proofs.Common.{◌≡◌, ℕ, List, ◌∷◌, map, Option, Some, refl, ap, sym, ◌∙◌}
use Rattle.pml_tree.specs.declared.tree.Expr.{Expr as TreeExpr}
use Rattle.pml_tree.specs.declared.tree.Argument.{Argument}
use Rattle.pml_tree.specs.declared.tree.Reference.{Reference}
use Rattle.pml_tree.specs.declared.tree.Step.{Step}
use Rattle.pml_program.specs.declared.form.Form.{Form}
use Rattle.pml_program.specs.declared.program.Slot.{Slot}
use Rattle.pml_program.specs.declared.expr.Expr.{Expr}
use Rattle.pml_program.specs.declared.expr.Expr.TheVariants as v
use Rattle.pml_program.specs.declared.expr.Want.{Want}
use Rattle.pml_program.specs.declared.expr.Want.TheVariants as w
use Rattle.pml_program.specs.declared.expr.Turn.{Turn}
use Rattle.check_resolve.specs.Numbered.{Scope, Path, through, at_scope, numbered, numbered_argument, numbered_reference, numbered_step}
use Rattle.promela_model.specs.Stands as stands
use Rattle.promela_model.specs.Stands.{Meaning, Place, as_value, as_place, as_wanted, target_at, turn_to, StandsIndex, StandsStep, StandsFields, StandsReference, StandsExpr, StandsArgument, StandsArguments, Globals}
use Rattle.meaning_laws.proofs.Things.{IsKnown}
use Rattle.meaning_laws.proofs.Agreeing.{Sees, meaning_of, known-at, field-known, through-field, through-lost, reached-special, reached-local, reached-global, reached-mtype, reached-nothing}
use Rattle.meaning_laws.proofs.Layers.{indexed, number-is, truth-value-is, timeout-is, reading-is, ask-is, poll-is, unary-is, binary-is, choice-is, exactly-is, fixed-is, equal-is, into-is, reference-is, step-is}

-- a name and an index are a step's
record IsStep (sc : Scope) (s : Step) (n : List ℕ) (x : Option Expr) : Type 0 where
  name : n ≡ (numbered_step s).name
  index : x ≡ (numbered_step s).index sc

record IsPath (f : Form) (ts : List Turn) (p : Path) : Type 0 where
  form : f ≡ p.0
  turns : ts ≡ p.1

module _ (gs : Globals) (ls : List Slot) (sc : Scope) (sees : Sees gs ls sc) where
  mutual
    only_index : {i : Option TreeExpr} {x : Option Expr} → StandsIndex gs ls i x → x ≡ indexed sc i
    only_index stands.no_index = refl
    only_index (stands.index h) = ap (λ (a : Expr). Some a) (only_expr h)

    only_step : {s : Step} {n : List ℕ} {x : Option Expr} → StandsStep gs ls s n x → IsStep sc s n x
    only_step (stands.step {n} {i} h) = record { name = sym (step-is sc n i).0; index = only_index h ∙ sym (step-is sc n i).1 }

    only_fields : {f h : Form} {ss : List Step} {ts : List Turn} → StandsFields gs ls f ss h ts → IsKnown gs.typedefs f → IsPath h ts (through f (map numbered_step ss) sc)
    only_fields stands.no_field k = record { form = refl; turns = refl }
    only_fields (stands.field {f} {s} {ss} {n} {x} {k = number} {t} a is rest) k =
        let one = only_step a in
        let more = only_fields rest (field-known gs sc.names sees.global f n (number, t) is) in
        let same = through-field gs ls sc sees f k (numbered_step s) (map numbered_step ss) (number, t) (rw one.name at is) in
        record { form = more.form ∙ sym (ap (λ (p : Path). p.0) same); turns = rw (more.turns, one.index) (sym (ap (λ (p : Path). p.1) same)) }
    only_fields (stands.lost_field {f} {s} {ss} a is) k =
        let same = through-lost gs ls sc sees f k (numbered_step s) (map numbered_step ss) (rw (only_step a).name at is) in
        record { form = sym (ap (λ (p : Path). p.0) same); turns = sym (ap (λ (p : Path). p.1) same) }

    pub only_reference : {p : Reference} {m : Meaning} → StandsReference gs ls p m → m ≡ meaning_of (numbered_reference p sc)
    only_reference (stands.special_name ss {s} {m} a is) =
        sym (ap meaning_of (reference-is sc s ss) ∙ reached-special gs ls sc sees (numbered_step s) (map numbered_step ss) m (rw (only_step a).name at is))
    only_reference (stands.local_variable {s} {ss} {k} {t} a is own h) =
        let one = only_step a in
        let path = only_fields h (known-at gs.typedefs ls _ (k, t) sees.known own) in
        rw (path.form, path.turns, one.index) (sym (ap meaning_of (reference-is sc s ss) ∙ reached-local gs ls sc sees (numbered_step s) (map numbered_step ss) (k, t) (rw one.name at is) (rw one.name at own)))
    only_reference (stands.global_variable {s} {ss} {k} {t} a is none own h) =
        let one = only_step a in
        let path = only_fields h (known-at gs.typedefs gs.variables _ (k, t) sees.global.known own) in
        rw (path.form, path.turns, one.index) (sym (ap meaning_of (reference-is sc s ss) ∙ reached-global gs ls sc sees (numbered_step s) (map numbered_step ss) (k, t) (rw one.name at is) (rw one.name at none) (rw one.name at own)))
    only_reference (stands.mtype_name ss {s} {k} a is none own) =
        let one = only_step a in
        sym (ap meaning_of (reference-is sc s ss) ∙ reached-mtype gs ls sc sees (numbered_step s) (map numbered_step ss) k (rw one.name at is) (rw one.name at none) (rw one.name at own))
    only_reference (stands.no_name ss {s} a is none no_global no_constant) =
        let one = only_step a in
        sym (ap meaning_of (reference-is sc s ss) ∙ reached-nothing gs ls sc sees (numbered_step s) (map numbered_step ss) (rw one.name at is) (rw one.name at none) (rw one.name at no_global) (rw one.name at no_constant))

    pub only_expr : {a : TreeExpr} {x : Expr} → StandsExpr gs ls a x → x ≡ numbered a sc
    only_expr (stands.number n) = sym (number-is sc n)
    only_expr (stands.truth c) = sym (truth-value-is sc c)
    only_expr stands.timeout = sym (timeout-is sc)
    only_expr (stands.read {r = p} h) = ap as_value (only_reference h) ∙ sym (reading-is sc p)
    only_expr (stands.ask f {r = p} h) = ap (λ (m : Meaning). v.Ask f (as_place m)) (only_reference h) ∙ sym (ask-is sc f p)
    only_expr (stands.poll look {r = p} {qs} {ws} h i) =
        ap (λ (m : Meaning). v.Poll (as_place m) look ws) (only_reference h) ∙ ap (v.Poll (as_place (meaning_of (numbered_reference p sc))) look) (only_arguments i) ∙ sym (poll-is sc p look qs)
    only_expr (stands.unary o {a} h) = ap (v.Unary o) (only_expr h) ∙ sym (unary-is sc o a)
    only_expr (stands.binary o {a} {b} {y} h i) = ap (λ (z : Expr). v.Binary o z y) (only_expr h) ∙ ap (v.Binary o (numbered a sc)) (only_expr i) ∙ sym (binary-is sc o a b)
    only_expr (stands.choice {a} {b} {c} {y} {z} h i j) =
        ap (λ (u : Expr). v.Choice u y z) (only_expr h) ∙ ap (λ (u : Expr). v.Choice (numbered a sc) u z) (only_expr i) ∙ ap (v.Choice (numbered a sc) (numbered b sc)) (only_expr j)
        ∙ sym (choice-is sc a b c)

    only_argument : {q : Argument} {x : Want} → StandsArgument gs ls q x → x ≡ numbered_argument q sc
    only_argument (stands.exactly i n) = sym (exactly-is sc i n)
    only_argument (stands.fixed c) = sym (fixed-is sc c)
    only_argument (stands.equal {a} h) = ap w.Equal (only_expr h) ∙ sym (equal-is sc a)
    only_argument (stands.into {r = p} h) = ap as_wanted (only_reference h) ∙ sym (into-is sc p)

    pub only_arguments : {qs : List Argument} {xs : List Want} → StandsArguments gs ls qs xs → xs ≡ at_scope (map numbered_argument qs) sc
    only_arguments stands.no_argument = refl
    only_arguments (stands.argument {q} {xs} h i) = ap (λ (x : Want). x ∷ xs) (only_argument h) ∙ ap (λ (ys : List Want). numbered_argument q sc ∷ ys) (only_arguments i)
