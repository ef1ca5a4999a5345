-- The texts of moves, by those of their offers.
use Rattle.std.specs.Prelude.{◌≡◌, ◌<◌, ℕ, Bool, false, ◌&&◌, not, nat_eq, List, [], ◌∷◌, ◌++◌, length, Option, Some, None, codes}
use Rattle.std.specs.Str.{bytes_eq}
use Rattle.pml_program.specs.declared.program.Proctype.{Proctype}
use Rattle.promela_run.specs.declared.moves.Move.{Move}
use Rattle.promela_run.specs.State.{State}
use Rattle.promela_run.specs.World.{sort_of_process, heading, move_text}
use Rattle.view_json.specs.declared.texts.Parts.{Parts}
use Rattle.view_json.specs.declared.texts.Line.{Line}
use Rattle.view_json.specs.Objects.{text}

abbrev pub behind_heading : ℕ → Option Proctype → List ℕ → List ℕ
behind_heading p None bs = []
behind_heading p (Some q) bs = heading p q ++ bs

-- the text of a process with an offer that has this text
abbrev pub offer_by : State → ℕ → List ℕ → List ℕ
offer_by s p bs = behind_heading p (sort_of_process s p) bs

-- the text of a move: of a process, or of a sender and a receiver
abbrev pub text_by : State → ℕ → List ℕ → ℕ → List ℕ → List ℕ
text_by s p bs q [] = offer_by s p bs
text_by s p bs q (c ∷ cs) = offer_by s p bs ++ (codes " -> " ++ offer_by s q (c ∷ cs))

-- a move has the text of these parts, if the first has one
abbrev pub TellsMove : State → Move → Parts → Type 0
TellsMove s m x = 0 < length x.text.now → move_text s m ≡ text_by s x.first x.text.now x.second x.reply.now

-- that is written, unless memory is refused
abbrev pub Reads : State → Line → Type 0
Reads s l = l.written.refused ≡ false → 0 < length l.text.items → l.written.tokens ≡ text (text_by s l.first l.text.items l.second l.reply.items)

-- a line is of these parts
pub record IsLine (l : Line) (x : Parts) : Type 0 where
  pub first : l.first ≡ x.first
  pub text : l.text.items ≡ x.text.now
  pub second : l.second ≡ x.second
  pub reply : l.reply.items ≡ x.reply.now

-- whether a line has these parts, and the first has a text
abbrev pub same_parts : Line → Parts → Bool
same_parts l x =
    not (nat_eq (length l.text.items) 0) && (nat_eq l.first x.first && (nat_eq l.second x.second && (bytes_eq l.text.items x.text.now && bytes_eq l.reply.items x.reply.now)))
