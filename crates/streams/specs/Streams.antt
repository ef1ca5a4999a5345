-- What a session over a reader and two writers leaves behind.
use Rattle.std.specs.Prelude.{◌≡◌, ◌≢◌, ℕ, Bool, false, List, Option, None, Some, MatchBool}
use Rattle.devices.specs.Holdings.{FailureCounts, Holdings}
use Rattle.devices.specs.Left.{MayBeLeft}
use Rattle.promela_session.specs.declared.ends.Options.{Options}
use Rattle.promela_session.specs.declared.ends.End.{End}
use Rattle.pml_play.specs.Transcript.{PlaysWhole, PlaysBroken}
use Rattle.pml_play.specs.Transcript.{Converts}
use Rattle.streams.specs.declared.over.Streams.{Streams}

-- What is known of a reader and of two writers: the bytes that the reader still gives, and those that each writer has been given.
pub record Known : Type 0 where
  pub source : Option (List ℕ)
  pub out : Option (List ℕ)
  pub rec : Option (List ℕ)

-- what is known of a writer that is there or not
abbrev pub known_if_any : {W : Type 0} → (W → Option (List ℕ)) → Option W → Option (List ℕ)
known_if_any contents None = None
known_if_any contents (Some w) = contents w

-- what is known of streams, by what is known of each
abbrev pub known : {R O K : Type 0} → (R → Option (List ℕ)) → (O → Option (List ℕ)) → (K → Option (List ℕ)) → Streams R O K → Known
known remaining out rec s = record { source = remaining s.source; out = out s.out; rec = known_if_any rec s.rec }

-- the writer of the record aside, which takes nothing where choices are converted
abbrev pub alone : Known → Known
alone k = record k { rec = None }

-- the devices over them hold this, where the reader's end was seen or not, and they have failed so often
abbrev pub held_over : Known → Bool → FailureCounts → Holdings
held_over k ended counts = record { source = MayBeLeft ended k.source; out = k.out; rec = k.rec; failures = counts }

abbrev pub no_failures : FailureCounts
no_failures = record { source = 0; out = 0; rec = 0 }

-- the devices over them before the first call
abbrev pub fresh_over : Known → Holdings
fresh_over k = held_over k false no_failures

-- A session over the text came to this end: whole, and no device had failed; or a device or memory broke it off.
pub record PlaysOver (text : List ℕ) (options : Options) (before after : Known) (end : End) : Type 0 where
  pub ended : Bool
  pub counts : FailureCounts
  pub whole : end.status ≢ 6 → PlaysWhole text options (fresh_over before) (held_over after ended counts) end.steps end
  pub quiet : end.status ≢ 6 → counts ≡ no_failures
  pub broken : end.status ≡ 6 → PlaysBroken text options (fresh_over before) (held_over after ended counts) end

-- The choices of a session over the text were converted, or the conversion was broken off.
pub record ConvertsOver (text : List ℕ) (options : Options) (before after : Known) (end : End) : Type 0 where
  pub ended : Bool
  pub counts : FailureCounts
  pub converts : Converts text options (fresh_over (alone before)) (held_over (alone after) ended counts) end

-- the choices are converted where that is asked for, and else the text is played
abbrev pub EndsOver : Bool → List ℕ → Options → Known → Known → End → Type 0
EndsOver converts text options before after end = MatchBool converts (ConvertsOver text options before after end) (PlaysOver text options before after end)

-- a book that no device has written in, of a ledger with this name and so many parts
abbrev pub IsBlank : ℕ → ℕ → ℕ → ℕ → Type 0
IsBlank name parts its_name its_parts = (its_name ≡ name) × (its_parts ≡ parts) × (its_parts ≡ 1)
