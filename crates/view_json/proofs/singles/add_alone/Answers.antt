use Rattle.std.proofs.lemmas.List.Elements.{All-set}
use Rattle.view_json.specs.Before.{Tells}
use Rattle.view_json.proofs.singles.add_alone.Goals as goal

pub returns-then-is_alike-clause-tell : goal.returns-then-is_alike-clause-tell
returns-then-is_alike-clause-tell c =
    All-set (Tells c.args.live.now.state) c.args.last.now.all.items c.args.last.now.at c.add_again.new.last c.add_again.ensures.tells c.requires

pub add_at-requires-clause-tell : goal.add_at-requires-clause-tell
add_at-requires-clause-tell c = c.place_for-at.ensures c.args.live.now.state c.requires
