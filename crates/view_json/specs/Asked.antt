-- The moves of a line, and those of a question.
use Rattle.std.specs.Prelude.{◌≡◌, ℕ, List, length, map, codes}
use Rattle.std.specs.List.{flat_map, zip}
use Rattle.json.specs.Token.{Token}
use Rattle.promela_session.specs.Events.{list_from, prompt}
use Rattle.promela_run.specs.declared.moves.Move.{Move}
use Rattle.promela_run.specs.State.{State}
use Rattle.promela_run.specs.World.{move_text}
use Rattle.view_json.specs.Objects.{text, member, array}
use Rattle.view_json.specs.Lines.{texts}
use Rattle.view_json.specs.Choices.{Effect, choice, choices}

-- The texts of a line are those of a question's list; there are as many as its prompt says, and as many objects, each of the move at its place.
pub record HasTheChoices (s : State) (ms : List Move) (xs : List Effect) : Type 0 where
  pub list : list_from (move_text s) 1 ms ≡ list_from (λ t. t) 1 (map (move_text s) ms)
  pub texts : texts s ms ≡ member (codes "moves") (array (flat_map text (map (move_text s) ms)))
  pub prompt : prompt (length ms) ≡ prompt (length (map (move_text s) ms))
  pub objects : choices s ms xs ≡ flat_map (λ (t : Move × Effect). choice s t.0 t.1) (zip ms xs)
  pub each : map (λ (t : Move × Effect). t.0) (zip ms xs) ≡ ms

-- So it is of each line.
abbrev pub LinesHaveTheChoices : Type 0
LinesHaveTheChoices = (s : State) (ms : List Move) (xs : List Effect) → length xs ≡ length ms → HasTheChoices s ms xs
