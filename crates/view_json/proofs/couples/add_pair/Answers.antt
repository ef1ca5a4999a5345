use Rattle.std.proofs.lemmas.List.Elements.{All-set}
use Rattle.view_json.specs.Before.{Meets}
use Rattle.view_json.proofs.couples.add_pair.Goals as goal

pub returns-then-are_alike-clause-meet : goal.returns-then-are_alike-clause-meet
returns-then-are_alike-clause-meet c =
    All-set (Meets c.args.live.now.state) c.args.last.now.all.items c.args.last.now.at c.add_again.new.last c.add_again.ensures.meets c.requires

pub add_at-requires-clause-meet : goal.add_at-requires-clause-meet
add_at-requires-clause-meet c = c.place_for-at.ensures c.args.live.now.state c.requires
