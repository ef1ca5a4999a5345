-- the texts of the moves before the loop's are written
use Rattle.std.proofs.Common.{take}
use Rattle.std.specs.Prelude.{All}
use Rattle.std.specs.List.{flat_map}
use Rattle.promela_run.specs.World.{move_text}
use Rattle.view_tokens.specs.Printed.{Writes}
use Rattle.view_json.specs.Objects.{text}
use Rattle.view_json.specs.Texts.{Reads}
use Rattle.view_json.proofs.texts.move_texts.Given as goal

abbrev pub invariant-loop-m : goal.invariant-loop-m
invariant-loop-m l = Writes l.initial.json l.json (flat_map (λ m. text (move_text l.live.state m)) (take l.m-index l.moves)) × All (Reads l.live.state) l.last.all.items
