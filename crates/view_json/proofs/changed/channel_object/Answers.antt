use Rattle.std.proofs.Common.{◌≡◌, ◌∙◌, ap, subst, Bool, if◌then◌else◌, [], List, ℕ, slice_get}
use Rattle.json.specs.Print.{print}
use Rattle.view_json.specs.Objects.{channel}
use Rattle.view_json.specs.Shown.{is_text, ListsMore}
use Rattle.view_json.proofs.Differing.{channel_ends}
use Rattle.view_json.proofs.changed.channel_object.Goals as goal

pub returns : goal.returns
returns c =
    let name = c.in_ok-object.ensures.0 in
    let ts = channel c.args.live.now.state c.args.n name in
    let one : c.as_slice.result.now ≡ print ts = c.as_slice.ensures.value ∙ c.in_ok-object.ensures.1 in
    let other : c.as_slice-2.result.now ≡ print ts = c.as_slice-2.ensures.value ∙ c.in_ok-object.ensures.1 in
    let same = c.is_shown-is_same.ensures ∙ ap (λ (bs : List ℕ). is_text bs (slice_get c.args.shown.now.channels c.args.at)) one in (
      name,
      c.in_ok-object.ensures.1,
      subst (λ (b : Bool). ListsMore (if b then [] else ts) c.args.list.now c.add_unless.new.self) same
          (c.add_unless.ensures _ other (channel_ends c.args.live.now.state c.args.n name) c.in_ok-object.ensures.2),
    )
