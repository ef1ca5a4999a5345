use Rattle.std.proofs.Common.{◌∙◌, ◌+◌, ◌∷◌, [], ap, sym, subst, map, List, ℕ, Vec, Global}
use Rattle.std.proofs.lemmas.List.{map-append}
use Rattle.view_json.specs.Shown.{ListsFirst}
use Rattle.view_json.proofs.Differing.{first_more}
use Rattle.view_json.proofs.changed.all_channels.Goals as goal

pub loop-at-preserved : goal.loop-at-preserved
loop-at-preserved c =
    let here = c.in_ok-object.ensures in
    let f = λ (v : Vec ℕ Global). v.items in
    subst (λ (os : List (List ℕ)). ListsFirst c.args.shown.now.channels c.args.live.now.state (c.loop-at.at + 1) os c.args.list.now c.channel_object.new.list)
    (sym (ap (map f) c.in_ok-push.ensures.items ∙ map-append f c.loop-at.objects.items (c.in_ok-object.object ∷ [])))
    (first_more c.args.shown.now.channels c.args.live.now.state c.loop-at.at _ _ here.0 _ _ _ c.loop-at.invariant here.1 here.2)
