use Rattle.std.proofs.Common.{◌≡◌, ◌∙◌, ap, refl, min, inl, arith}
use Rattle.std.specs.Prelude.{slice_index_or}
use Rattle.check_conditions.specs.Step.{by_processes}
use Rattle.check_conditions.proofs.Counting.{begun-is, decided}
use Rattle.check_conditions.proofs.start.starts_too_many.Goals as goal

pub returns : goal.returns
returns c =
    let ms = c.args.marks.now in
    let cs = c.in_ok-counts.counts in
    let first : c.from.result ≡ slice_index_or cs 0 0 = c.from.ensures ∙ c.at.ensures ∙ ap (λ xs. slice_index_or xs 0 0) c.as_slice.ensures in
    let others = c.by_processes.ensures ∙ ap (λ xs. min (by_processes (λ o. slice_index_or xs o 0) ms) 256) c.as_slice-2.ensures in
    decided ms (λ o. slice_index_or cs o 0) _ c.from.result c.by_processes.result (omega (arith, c.processes.ensures)) c.in_ok-counts.ensures refl first others

pub returns-then-processes : goal.returns-then-processes
returns-then-processes c = inl (let all = begun-is c.args.marks.now in omega (arith, all, c.processes.ensures))
