-- That a text has one outcome, in the words of its laws.
use Rattle.std.specs.Prelude.{◌≡◌, ℕ, Bool, List}
use Rattle.diagnostics.specs.declared.refusal.Refusal.{Refusal}
use Rattle.diagnostics.specs.declared.refusal.Refusal.TheVariants as r
use Rattle.promela_session.specs.declared.ends.Options.{Options}
use Rattle.promela_session.specs.declared.ends.End.{End}
use Rattle.promela_session.specs.Events.{Part}
use Rattle.promela_text.specs.Tokens.{IsLine}
use Rattle.promela_run.specs.World.{Running}
use Rattle.pml_play.specs.Transcript.{IsModel, IsRefused, IsTranscript}

-- a line of the text, or 0 where the refusal has none
abbrev pub HasLine : List ℕ → Refusal → ℕ → Type 0
HasLine text r.Lexical line = IsLine text line
HasLine text r.LeftOut line = IsLine text line
HasLine text r.TooDeep line = IsLine text line
HasLine text r.Syntax line = IsLine text line
HasLine text r.TextTooLong line = line ≡ 0
HasLine text r.NameTwice line = line ≡ 0
HasLine text r.UnknownName line = line ≡ 0
HasLine text r.WrongKind line = line ≡ 0
HasLine text r.ArgumentCount line = line ≡ 0
HasLine text r.Label line = line ≡ 0
HasLine text r.BreakOutsideDo line = line ≡ 0
HasLine text r.DStep line = line ≡ 0
HasLine text r.CircleOfGotos line = line ≡ 0
HasLine text r.NumberOutOfRange line = line ≡ 0
HasLine text r.TooManyCells line = line ≡ 0
HasLine text r.NoProcess line = line ≡ 0
HasLine text r.TooManyAtStart line = line ≡ 0
HasLine text r.Initialiser line = line ≡ 0
HasLine text r.Inline line = line ≡ 0

-- two sessions do the same on all choices
abbrev pub DoTheSame : (a b : List ℕ → Part End) → Type 0
DoTheSame a b = (choices : List ℕ) → (a choices).events ≡ (b choices).events

-- the text is refused in one way at most
abbrev pub HasOneRefusal : List ℕ → Type 0
HasOneRefusal text = (a b : Refusal) (m n : ℕ) → IsRefused text a m → IsRefused text b n → a ≡ b

-- it stands for one model at most
abbrev pub HasOneModel : List ℕ → Type 0
HasOneModel text = (lossy : Bool) (a b : Running) → IsModel text lossy a → IsModel text lossy b → a ≡ b

-- it is not refused where it stands for a model
abbrev pub IsRefusedOrStands : List ℕ → Type 0
IsRefusedOrStands text = (a : Refusal) (m : ℕ) (lossy : Bool) (model : Running) → IsRefused text a m → IsModel text lossy model → ⊥

-- it has a transcript
abbrev pub HasTranscript : List ℕ → Options → Type 0
HasTranscript text options = (part : List ℕ → Part End) × IsTranscript text options part

-- all its transcripts do the same
abbrev pub HasOneTranscript : List ℕ → Options → Type 0
HasOneTranscript text options = (a b : List ℕ → Part End) → IsTranscript text options a → IsTranscript text options b → DoTheSame a b

-- the line that it is refused at is that of the refusal
abbrev pub HasLines : List ℕ → Type 0
HasLines text = (refusal : Refusal) (line : ℕ) → IsRefused text refusal line → HasLine text refusal line
