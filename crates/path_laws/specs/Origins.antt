-- Where the moves of a run come from, by their texts.
use Rattle.std.specs.Prelude.{◌≡◌, ℕ, Bool, List, ◌++◌, codes}
use Rattle.std.specs.Fmt.{decimal}
use Rattle.std.specs.List.{Contains}
use Rattle.promela_run.specs.declared.moves.Move.{Move}
use Rattle.promela_run.specs.declared.moves.Move.TheVariants.{Death, Alone, Pair}
use Rattle.promela_run.specs.State.{State}
use Rattle.promela_run.specs.World.{line_of, origin_of, move_text, pick_text, Running, rules}
use Rattle.pml_sim.specs.Origins.{IsThere}
use Rattle.pml_play.specs.Shown.{PathLeads}
use Rattle.pml_play.specs.Transcript.{IsModel}

-- `proc P (NAME) line L [`, and more: behind the digits of the line stands ` [`
pub record NamesPlace (place : ℕ × ℕ) (text : List ℕ) : Type 0 where
  pub name : List ℕ
  pub more : List ℕ
  pub is : text ≡ codes "proc " ++ (decimal place.0 ++ (codes " (" ++ (name ++ (codes ") line " ++ (decimal place.1 ++ (codes " [" ++ more))))))

-- the text of a move of a statement that is there names its process and its line
abbrev pub TextsNamePlaces : Type 0
TextsNamePlaces = (s : State) (m : Move) → IsThere s m → NamesPlace (origin_of s m) (move_text s m)

-- of a pair, whose text is the sender's, ` -> ` and the receiver's, the latter too names its process and its line
abbrev pub NamesReceiver : State → Move → Type 0
NamesReceiver s (Death p) = Unit {0}
NamesReceiver s (Alone k t) = Unit {0}
NamesReceiver s (Pair k j t) = NamesPlace (j.process, line_of s j) (pick_text s j)

-- the move's statement is there, and its text names its process and its line, of a pair both
pub record HasOrigin (w : Running) (m : Move) : Type 0 where
  pub there : IsThere w.state m
  pub names : NamesPlace (rules.origin w m) (rules.text w m)
  pub receiver : NamesReceiver w.state m

-- in each state that a path of a text's model leads to each move that is listed has its origin
abbrev pub ListedMovesHaveOrigins : Type 0
ListedMovesHaveOrigins = (text : List ℕ) (lossy : Bool) (model state : Running) → IsModel text lossy model → PathLeads rules model state
    → (m : Move) → Contains (rules.moves state) m → HasOrigin state m
