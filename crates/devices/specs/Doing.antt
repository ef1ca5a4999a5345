-- What a call of a device does to what the three hold.
use Rattle.std.specs.Prelude.{◌≡◌, ℕ, ◌<◌, List, [], ◌∷◌, length, take, Option, Result, MatchResult}
use Rattle.devices.specs.declared.Next.{Next}
use Rattle.devices.specs.declared.Next.TheVariants.{Byte, End, Failed}
use Rattle.devices.specs.Holdings.{FailureCounts, Holdings, Moved, SourceFails, OutFails, RecordFails}

-- three devices hold this: one after another the source, the output and the record, and how often each has failed
abbrev pub holding : (List ℕ → Type 0) → Option (List ℕ) → Option (List ℕ) → ℕ → ℕ → ℕ → Holdings
holding source out rec s o r = record { source = source; out = out; rec = rec; failures = record { source = s; out = o; rec = r } }

-- a byte of the choices was asked for: it came, or the end, behind which nothing is left, or the source failed
abbrev pub Asks : Holdings → Holdings → Next → Type 0
Asks before after (Byte b) = Moved before after (b ∷ []) [] []
Asks before after End = Moved before after [] [] [] × ((left : List ℕ) → after.source left → left ≡ [])
Asks before after Failed = Moved before after [] [] []

-- these first bytes of the piece were written, and not all
abbrev pub WritesFirst : Holdings → Holdings → List ℕ → ℕ → Type 0
WritesFirst before after piece n = (n < length piece) × Moved before after [] (take n piece) []

-- less than the whole piece was written
abbrev pub WritesPart : Holdings → Holdings → List ℕ → Type 0
WritesPart before after piece = (n : ℕ) × (n < length piece) × Moved before after [] (take n piece) []

-- less than the whole line was recorded
abbrev pub RecordsPart : Holdings → Holdings → List ℕ → Type 0
RecordsPart before after line = (n : ℕ) × (n < length line) × Moved before after [] [] (take n line)

-- the count rises where the call fails, and else all counts are the same
abbrev pub CountsAsk : FailureCounts → FailureCounts → Next → Type 0
CountsAsk before after (Byte b) = after ≡ before
CountsAsk before after End = after ≡ before
CountsAsk before after Failed = SourceFails before after

abbrev pub CountsOut : {T E : Type 0} → FailureCounts → FailureCounts → Result T E → Type 0
CountsOut before after r = MatchResult r (λ _. after ≡ before) (λ _. OutFails before after)

abbrev pub CountsRecord : {T E : Type 0} → FailureCounts → FailureCounts → Result T E → Type 0
CountsRecord before after r = MatchResult r (λ _. after ≡ before) (λ _. RecordFails before after)
