-- The tokens of lines: what is told of a step before it is taken, of a fault, and of the end of a run.
use Rattle.std.specs.Prelude.{false, ◌≡◌, ℕ, Bool, ◌||◌, ltb, if◌then◌else◌, List, [], ◌∷◌, ◌++◌, length, Option, Some, None, ℤ, pos, codes}
use Rattle.std.specs.List.{flat_map, range_with_len}
use Rattle.std.specs.Str.{bytes_eq}
use Rattle.json.specs.Token.{Token, begin_object, end_object, string}
use Rattle.json.specs.Print.{print}
use Rattle.json.specs.Lex.{tokens}
use Rattle.diagnostics.specs.declared.fault.Fault.{Fault}
use Rattle.diagnostics.specs.Numbers.{fault_number}
use Rattle.diagnostic_words.specs.Words.{fault_words}
use Rattle.pml_program.specs.declared.program.Program.{Program}
use Rattle.promela_process.specs.Store.{ChannelState}
use Rattle.promela_run.specs.State.{channel_at, State}
use Rattle.promela_run.specs.declared.moves.Pick.{Pick}
use Rattle.promela_run.specs.declared.moves.Move.{Move}
use Rattle.promela_run.specs.declared.moves.Move.TheVariants.{Death, Alone, Pair}
use Rattle.promela_run.specs.World.{move_text}
use Rattle.run_texts.specs.Staying.{stuck_of}
use Rattle.view_cells.specs.Processes.{line_of}
use Rattle.view_waits.specs.declared.transfer.Does.{Does}
use Rattle.view_waits.specs.declared.transfer.Does.TheVariants as does
use Rattle.view_waits.specs.declared.transfer.Transfer.{Transfer}
use Rattle.view_json.specs.declared.lines.Ahead.{Ahead}
use Rattle.view_json.specs.Objects.{count, text, member, detail, object, array, message, named, offer}
use Rattle.view_text.specs.Written.{Written, Adds}

-- how a line begins that tells of this event
abbrev pub begun : List ℕ → List Token
begun event = begin_object ∷ member (codes "event") (string event ∷ [])

-- the texts of moves
abbrev pub texts : State → List Move → List Token
texts s ms = member (codes "moves") (array (flat_map (λ m. text (move_text s m)) ms))

abbrev pub does_word : Does → List ℕ
does_word does.Statement = codes "statement"
does_word does.Send = codes "send"
does_word does.Receive = codes "receive"
does_word does.Read = codes "read"
does_word does.Pass = codes "pass"
does_word does.Lose = codes "lose"
does_word does.End = codes "end"

abbrev pub picked : State → Pick → List Token
picked s k = named s k.process ++ offer s k

-- whose move it is, and its text: of a rendezvous the sender's
abbrev pub mover : State → Move → List Token
mover s (Death p) = named s p ++ (member (codes "line") (count (line_of s p)) ++ member (codes "text") (text (codes "-end-")))
mover s (Alone k t) = picked s k
mover s (Pair k j t) = picked s k

abbrev pub addressee : State → Pick → List Token
addressee s k = member (codes "to") (object (picked s k))

-- the receiver of a rendezvous
abbrev pub receiver : State → Move → List Token
receiver s (Pair k j t) = addressee s j
receiver s m = []

-- What a move does, with which channel, and with which message.
pub record Dealing : Type 0 where
  pub does : Does
  pub channel : ℕ
  pub message : List ℤ

abbrev pub passed_by : Program → Dealing → Option ChannelState → List Token
passed_by pr d None = []
passed_by pr d (Some c) = member (codes "chan") (count d.channel) ++ member (codes "message") (message pr c.types d.message)

-- the same in tokens
abbrev pub dealing : State → Dealing → List Token
dealing s d = member (codes "does") (string (does_word d.does) ∷ []) ++ passed_by s.program d (channel_at s.channels (pos d.channel))

abbrev pub dealt : Transfer → Dealing
dealt e = record { does = e.does; channel = e.channel; message = e.message.items }

abbrev pub passed : Program → Transfer → Option ChannelState → List Token
passed pr e c = passed_by pr (dealt e) c

-- what it does, with which channel, and with which message
abbrev pub transfer : State → Transfer → List Token
transfer s e = dealing s (dealt e)

-- ---- the end

abbrev pub stuck_by : ℕ → Option (List ℕ × ℕ) → List Token
stuck_by p None = []
stuck_by p (Some x) = object (member (codes "proc") (count p) ++ (member (codes "name") (text x.0) ++ member (codes "line") (count x.1)))

-- where a process may not end
abbrev pub stuck : State → ℕ → List Token
stuck s p = stuck_by p (stuck_of s p)

-- each of them
abbrev pub all_stuck : State → List Token
all_stuck s = member (codes "at") (array (flat_map (stuck s) (range_with_len 0 (length s.stands))))

-- the moves that there are, if any
abbrev pub open_moves : State → List Move → List Token
open_moves s [] = []
open_moves s (m ∷ ms) = texts s (m ∷ ms)

-- where processes may not end, if this is an end of the run's own
abbrev pub stuck_where : State → Bool → List Token
stuck_where s own = if own then all_stuck s else []

-- whether a run ends so by itself
abbrev pub is_own : List ℕ → Bool
is_own end = bytes_eq end (codes "invalid") || bytes_eq end (codes "valid")

-- how the last line begins
abbrev pub ended : ℕ → List ℕ → List Token
ended steps end = begun (codes "end") ++ (member (codes "steps") (count steps) ++ member (codes "end") (string end ∷ []))

-- The line of the end: how many steps, how it ends, where processes may not end, which moves there are, and more of these and of what led there.
abbrev pub end_tokens : State → ℕ → List ℕ → List Move → List Token → List Token
end_tokens s steps end ms more = ended steps end ++ (stuck_where s (is_own end) ++ (open_moves s ms ++ (more ++ end_object ∷ [])))

-- ---- a step that is about to be taken

-- the texts of the moves, where there are several
abbrev pub choices : State → List Move → List Token
choices s ms = if ltb 1 (length ms) then texts s ms else []

-- its number, and which of how many moves it is
abbrev pub numbered : ℕ → ℕ → ℕ → List Token
numbered step choice of = member (codes "step") (count step) ++ (member (codes "choice") (count choice) ++ member (codes "of") (count of))

-- that, and what the moves are
abbrev pub chosen : State → ℕ → ℕ → List Move → List Token
chosen s step choice ms = numbered step choice (length ms) ++ choices s ms

-- What is told of a step before it is taken.
abbrev pub front : State → List ℕ → Ahead → Move → List Token
front s event a m = begun event ++ (chosen s a.step a.choice a.moves.now ++ (mover s m ++ (transfer s a.transfer.now ++ receiver s m)))

-- A step that comes to a fault: which, words for what it read, words for what it was about, and more.
abbrev pub faulted : Fault → List ℕ → List ℕ → List Token → List Token
faulted f reads about more =
    member (codes "fault") (count (fault_number f))
    ++ (member (codes "words") (text (fault_words f)) ++ ((detail (codes "reads") reads ++ detail (codes "about") about) ++ (more ++ end_object ∷ [])))

-- a line
abbrev pub line : List Token → List ℕ
line ts = print ts ++ codes "\n"

-- what is printed of these tokens is read back as them
abbrev pub ReadsBack : List Token → Type 0
ReadsBack ts = tokens (print ts) ≡ ts

-- what was written with these tokens reads back as them, unless memory was refused
abbrev pub CanBeRead : Written → List Token → Type 0
CanBeRead new ts = new.refused ≡ false → ReadsBack ts

-- this line is written, and can be read back
abbrev pub AddsLine : List Token → Written → Written → Type 0
AddsLine ts old new = Adds old new (line ts) × CanBeRead new ts
