use Rattle.std.proofs.Common.{◌≡◌, ◌+◌, ◌∙◌, ap, subst, Bool, if◌then◌else◌, [], List, ℕ, slice_get}
use Rattle.std.specs.Prelude.{◌&&◌, not, ltb}
use Rattle.json.specs.Print.{print, ArePrintable}
use Rattle.promela_run.specs.declared.moves.Move.{Move}
use Rattle.view_json.specs.Objects.{standing}
use Rattle.view_json.specs.Shown.{is_text, has_changes, with_locals, ListsMore}
use Rattle.view_json.proofs.Differing.{standing_ends}
use Rattle.view_json.proofs.changed.process_object.Goals as goal

pub returns : goal.returns
returns c counted all =
    let words = c.in_ok-object.ensures (counted ∙ all) in
    let s = c.args.live.now.state in
    let p = c.args.process in
    let older = c.args.behind.older in
    let cs = c.args.behind.changes.now in
    let ts = standing s c.args.behind.moves.now p words.0 in
    let these : standing s c.args.all.now p words.0 ≡ ts = ap (λ (ms : List Move). standing s ms p words.0) counted in
    let printed = words.2 ∙ ap print these in
    let one : c.as_slice.result.now ≡ print ts = c.as_slice.ensures.value ∙ printed in
    let other : c.as_slice-2.result.now ≡ print ts = c.as_slice-2.ensures.value ∙ printed in
    let same = c.is_as_shown-is_same.ensures
    ∙ ap (λ (bs : List ℕ). ltb p older && not (has_changes (p + 1) cs) && is_text bs (slice_get c.args.shown.now.processes p)) one in (
      words.0,
      words.1,
      printed,
      subst (λ (b : Bool). ListsMore (if b then [] else with_locals s older cs p ts) c.args.list.now c.list_process.new.list) same
          (c.list_process.ensures _ other (standing_ends s c.args.behind.moves.now p words.0) (subst ArePrintable these words.3)),
    )
