use Rattle.view_json.specs.Before.{Meets}
use Rattle.view_json.proofs.Kept.{pushed}
use Rattle.view_json.proofs.couples.make_place.Goals as goal

pub returns-then-len-last : goal.returns-then-len-last
returns-then-len-last c = λ s all. pushed (Meets s) c.args.last.now.all.items c.push.new.self.items _ _ c.push.ensures.items all (c.new-one.ensures s)
