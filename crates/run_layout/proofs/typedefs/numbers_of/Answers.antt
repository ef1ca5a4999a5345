use Rattle.std.proofs.Common.{◌≡◌, ◌-◌, ◌+◌, ◌<◌, ◌∷◌, ◌∙◌, ap, sym, subst, length, drop, List, ℕ, Some, arith}
use Rattle.std.specs.Ordering.{nat_cmp}
use Rattle.std.specs.BTreeMap.{Updates}
use Rattle.std.proofs.lemmas.List.{drop_more}
use Rattle.pml_program.specs.declared.program.Fields.{Fields}
use Rattle.run_layout.specs.Tables.{AreNumbers}
use Rattle.run_layout.proofs.Numbering.{numbered}
use Rattle.run_layout.proofs.typedefs.numbers_of.Goals as goal

pub loop-left-preserved : goal.loop-left-preserved
loop-left-preserved c =
    let ts = c.args.typedefs.now in
    let i = c.loop-left.left - 1 in
    let t = c.index-typedefs-left.result in
    let l : i < length ts = omega arith in
    let z : i + 1 ≡ c.loop-left.left = omega arith in
    let d : drop i ts ≡ t ∷ drop c.loop-left.left ts = drop_more ts i t l ∙ ap (λ (x : Fields). x ∷ drop (i + 1) ts) (sym c.index-typedefs-left.is) ∙ ap (λ (n : ℕ). t ∷ drop n ts) z in
    record {
      within = omega arith;
      numbered = subst (λ (us : List Fields). AreNumbers ts us c.insert.new.self) (sym d)
          (numbered ts (drop c.loop-left.left ts) i t c.loop-left.numbers c.insert.new.self c.loop-left.invariant.numbered l c.index-typedefs-left.is
          (subst (λ (x : Fields). Updates nat_cmp c.loop-left.numbers c.insert.new.self x.owner (Some i)) (sym c.index-typedefs-left.is) c.in_ok-insert.ensures.updates));
    }
