-- What comes of the words of a command line, and the status that the program ends with.
use Rattle.std.specs.Prelude.{◌≡◌, ◌⊎◌, is_some, not, ◌&&◌, ◌==◌, if◌then◌else◌, length, Bool, ℕ, List, Option, Some, None, Result, Ok, Err, ⊤, true, false}
use Rattle.clap.specs.Kinds.{HasKind}
use Rattle.clap.specs.Words.{Text, fault_of, matches_of}
use Rattle.command_line.specs.Matched.{IsReadFrom}
use Rattle.command_line.specs.CommandLine.{command_line}
use Rattle.command_line.specs.declared.options.Arguments.{Arguments}
use Rattle.pml_play.specs.Parts.{IsReady, IsRejected}
use Rattle.pml_play.specs.declared.whole.Rejection.{Rejection}
use Rattle.pml_play.specs.declared.whole.Rejection.TheVariants as rejection
use Rattle.pml_program.specs.declared.program.Program.{Program}
use Rattle.program_files.specs.Held.{IsStatusOfFile}
use Rattle.program_files.specs.Words.{IsStatusOfWords}
use Rattle.promela_session.specs.declared.ends.End.{End}
use Rattle.streams.specs.Streams.{EndsOver, Known}
use Rattle.spinplay_program.specs.declared.checked.ModelOutcome.{ModelOutcome}
use Rattle.spinplay_program.specs.declared.checked.ModelOutcome.TheVariants as ran
use Rattle.spinplay_program.specs.declared.stop.NoRun.{NoRun}
use Rattle.spinplay_program.specs.declared.stop.NoRun.TheVariants as no
use Rattle.spinplay_program.specs.declared.stop.Unplayed.{Unplayed}

-- they are what the matches of these words hold
abbrev pub IsAskedFor : List Text → Arguments → Type 0
IsAskedFor words asked = IsReadFrom (matches_of command_line words) asked

-- A session over the text, by the options that were read, came to this end over streams of which this was known before and after: played or, where that
-- is asked for, converted, whole or broken off.
pub record HasPlayed (asked : Arguments) (text : List ℕ) (end : End) : Type 0 where
  pub before : Known
  pub after : Known
  pub ends : EndsOver asked.convert text asked.options before after end

-- the text stands for a model, or is rejected so
abbrev pub IsChecked : List ℕ → Option Rejection → Type 0
IsChecked text None = (p : Program) × IsReady text p
IsChecked text (Some why) = IsRejected text why

-- a text was checked where that is asked for, and else a session over it ended
abbrev pub HasRun : Arguments → List ℕ → ModelOutcome → Type 0
HasRun asked text (ran.Ended end) = (asked.check ≡ false) × HasPlayed asked text end
HasRun asked text (ran.Checked why) = (asked.check ≡ true) × IsChecked text why

-- so it is of some text
pub record HasRunSome (asked : Arguments) (r : ModelOutcome) : Type 0 where
  pub text : List ℕ
  pub has : HasRun asked text r

-- this came of a model as these words ask for it
pub record IsRun (words : List Text) (r : ModelOutcome) : Type 0 where
  pub asked : Arguments
  pub read : IsAskedFor words asked
  pub has : HasRunSome asked r

-- whether the options of preparing fit together: those that say how a model is prepared stand where it is, and no file of another preparation beside them
abbrev pub fit : Arguments → Bool
fit asked = if asked.prepare then not (is_some asked.source) && not (is_some asked.lines)
    else not asked.no_cpp && (length asked.defines.items == 0 && length asked.folders.items == 0)

-- Why nothing is asked for: the words are no command line, by one of the faults that they have; or they ask to convert and to record, or for what does not fit
-- together; or memory was refused.
abbrev pub IsNoCommand : List Text → NoRun → Type 0
IsNoCommand words (no.Words error) = HasKind (fault_of command_line words) error
IsNoCommand words no.NotText = ⊥
IsNoCommand words no.ConvertWithRecord = (asked : Arguments) × IsAskedFor words asked × (asked.convert ≡ true) × (is_some asked.rec ≡ true)
IsNoCommand words no.NotTogether = (asked : Arguments) × IsAskedFor words asked × (fit asked ≡ false)
IsNoCommand words (no.File fault) = ⊥
IsNoCommand words no.Memory = ⊤

-- a file cannot be used
abbrev pub IsOfFiles : NoRun → Type 0
IsOfFiles (no.Words error) = ⊥
IsOfFiles no.NotText = ⊥
IsOfFiles no.ConvertWithRecord = ⊥
IsOfFiles no.NotTogether = ⊥
IsOfFiles (no.File fault) = ⊤
IsOfFiles no.Memory = ⊥

-- the words ask for something, and a file of it cannot be used
pub record FailsByFile (words : List Text) (stop : NoRun) : Type 0 where
  pub asked : Arguments
  pub read : IsAskedFor words asked
  pub of_file : IsOfFiles stop

-- why nothing came of these words
abbrev pub IsCause : List Text → NoRun → Type 0
IsCause words stop = IsNoCommand words stop ⊎ FailsByFile words stop

-- what came of these words, or why nothing did
abbrev pub IsOutcome : List Text → Result ModelOutcome Unplayed → Type 0
IsOutcome words (Ok r) = IsRun words r
IsOutcome words (Err unplayed) = IsCause words unplayed.stop

-- ---- the status

-- the status where nothing came of the words
abbrev pub IsStatusOfStop : NoRun → ℕ → Type 0
IsStatusOfStop (no.Words error) status = IsStatusOfWords error status
IsStatusOfStop no.NotText status = status ≡ 4
IsStatusOfStop no.ConvertWithRecord status = status ≡ 4
IsStatusOfStop no.NotTogether status = status ≡ 4
IsStatusOfStop (no.File fault) status = IsStatusOfFile fault status
IsStatusOfStop no.Memory status = status ≡ 6

-- that of a session is its end's; of a text that was checked 0 where it stands for a model, 3 where it is refused, and 6 where memory was
abbrev pub IsStatusOfRun : ModelOutcome → ℕ → Type 0
IsStatusOfRun (ran.Ended end) status = status ≡ end.status
IsStatusOfRun (ran.Checked None) status = status ≡ 0
IsStatusOfRun (ran.Checked (Some rejection.Memory)) status = status ≡ 6
IsStatusOfRun (ran.Checked (Some (rejection.Refused refusal line))) status = status ≡ 3

-- the status is that of what came of the words, or of why nothing did
abbrev pub IsStatusOf : Result ModelOutcome Unplayed → ℕ → Type 0
IsStatusOf (Ok r) status = IsStatusOfRun r status
IsStatusOf (Err unplayed) status = IsStatusOfStop unplayed.stop status

-- The status of the program, on these words: that of what came of them, or of why nothing did.
pub record IsStatus (words : List Text) (status : ℕ) : Type 0 where
  pub outcome : Result ModelOutcome Unplayed
  pub is_outcome : IsOutcome words outcome
  pub is_status : IsStatusOf outcome status
