-- The moves of a line are those of a question.
use Rattle.std.proofs.Common.{◌≡◌, ◌∙◌, ap, sym, refl, ℕ, ◌+◌, List, [], ◌∷◌, ◌++◌, length, map, arith, codes}
use Rattle.std.specs.List.{flat_map, zip}
use Rattle.std.proofs.lemmas.Slice.Zip.{firsts-zip}
use Rattle.std.specs.Fmt.{decimal}
use Rattle.std.proofs.lemmas.List.{length-map}
use Rattle.json.specs.Token.{Token}
use Rattle.promela_session.specs.Events.{list_from, prompt}
use Rattle.promela_run.specs.declared.moves.Move.{Move}
use Rattle.promela_run.specs.State.{State}
use Rattle.promela_run.specs.World.{move_text}
use Rattle.view_json.specs.Objects.{text, member, array}
use Rattle.view_json.specs.Choices.{Effect, choice, choices}
use Rattle.view_json.specs.Asked.{LinesHaveTheChoices}

listed : (s : State) (k : ℕ) (ms : List Move) → list_from (move_text s) k ms ≡ list_from (λ (t : List ℕ). t) k (map (move_text s) ms)
listed s k [] = refl
listed s k (m ∷ ms) = ap (λ (l : List ℕ). (codes "choice " ++ (decimal k ++ (codes ": " ++ (move_text s m ++ codes "\n")))) ++ l) (listed s (k + 1) ms)

written : (s : State) (ms : List Move) → flat_map (λ m. text (move_text s m)) ms ≡ flat_map text (map (move_text s) ms)
written s [] = refl
written s (m ∷ ms) = ap (λ (l : List Token). text (move_text s m) ++ l) (written s ms)

objects : (s : State) (ms : List Move) (xs : List Effect) → choices s ms xs ≡ flat_map (λ (t : Move × Effect). choice s t.0 t.1) (zip ms xs)
objects s [] xs = refl
objects s (m ∷ ms) [] = refl
objects s (m ∷ ms) (x ∷ xs) = ap (λ (l : List Token). choice s m x ++ l) (objects s ms xs)

pub lines_have_the_choices : LinesHaveTheChoices
lines_have_the_choices s ms xs same = record {
  list = listed s 1 ms;
  texts = ap (λ (l : List Token). member (codes "moves") (array l)) (written s ms);
  prompt = ap prompt (sym (length-map ms (move_text s)));
  objects = objects s ms xs;
  each = firsts-zip ms xs same;
}
