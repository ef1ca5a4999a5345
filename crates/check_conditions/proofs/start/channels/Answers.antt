use Rattle.std.proofs.Common.{◌≡◌, ◌∙◌, List, sym, ap, min, take, reverse}
use Rattle.std.proofs.lemmas.List.{take_all}
use Rattle.promela_model.specs.declared.mark.Mark.{Mark}
use Rattle.std.specs.Prelude.{slice_index_or}
use Rattle.check_names.specs.Entry.{found}
use Rattle.promela_model.specs.Names.{Naming, Before, before}
use Rattle.check_names.proofs.Firsts.{told-before}
use Rattle.promela_model.specs.Decided.{made, channels}
use Rattle.check_conditions.proofs.Looking.{back_more}
use Rattle.check_conditions.proofs.Counting.{channels_more}
use Rattle.check_conditions.proofs.start.channels.Goals as goal

pub loop-mark-preserved : goal.loop-mark-preserved
loop-mark-preserved c =
    let m = c.mark-item.result in
    let i = c.loop-mark.mark-index in
    let ms = c.args.marks.now in
    let all = found c.args.all.now in
    let old = c.loop-mark.counts in
    let more = c.made-more.ensures ∙ ap (λ cs. min (made all (λ o. slice_index_or cs o 0) m.what) 256) c.as_slice.ensures in
    λ o. c.in_ok-add.ensures o
    ∙ channels_more all (reverse (take i ms)) m (λ k. slice_index_or old k 0) c.made-more.result c.loop-mark.invariant more o
    ∙ ap (λ xs. min (channels all xs o) 256) (sym (back_more ms i m c.loop-mark-test.true c.mark-item.is))

pub returns : goal.returns
returns c =
    let ms = c.args.marks.now in
    let names : found c.args.all.now ≡ (before ms).names = ap found c.requires ∙ ap (λ (b : Before). b.names) (told-before ms) in
    let whole : take c.loop-mark.mark-index ms ≡ ms = take_all c.loop-mark.mark-index ms c.loop-mark-test.false in
    λ o. c.loop-mark.invariant o
    ∙ ap (λ (f : Naming). min (channels f (reverse (take c.loop-mark.mark-index ms)) o) 256) names
    ∙ ap (λ (xs : List Mark). min (channels (before ms).names (reverse xs) o) 256) whole
