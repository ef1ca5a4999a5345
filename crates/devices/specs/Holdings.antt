-- What the three devices of a session hold at a moment, and what is read and written from one moment to another.
-- Hold it against docs/FORMATS.md, 'To drive it'.
use Rattle.std.specs.Prelude.{◌≡◌, ℕ, ◌<◌, List, ◌++◌, Option}
use Rattle.std.specs.Io.KnownBytes.{Appends}

-- how often each of three devices has failed
pub record FailureCounts : Type 0 where
  pub source : ℕ
  pub out : ℕ
  pub rec : ℕ

-- What three devices hold at a moment.
pub record Holdings : Type 1 where
  -- these may be the bytes that the source still gives, or the first of them
  pub source : List ℕ → Type 0
  -- the bytes that the sink of the output has taken, where they are known
  pub out : Option (List ℕ)
  -- and those that the sink of the record has taken
  pub rec : Option (List ℕ)
  pub failures : FailureCounts

-- These bytes were read: what the source may give now, it may have given behind them.
pub record Gave (old new : List ℕ → Type 0) (bytes : List ℕ) : Type 0 where
  pub gave : (left : List ℕ) → new left → old (bytes ++ left)

-- from one moment to another the first bytes were read, the second written to the output, and the third recorded
pub record Moved (before after : Holdings) (asked told kept : List ℕ) : Type 0 where
  pub read : Gave before.source after.source asked
  pub written : Appends before.out after.out told
  pub recorded : Appends before.rec after.rec kept

-- the count of the source has risen, and no other; so for each device
abbrev pub SourceFails : FailureCounts → FailureCounts → Type 0
SourceFails before after = (before.source < after.source) × (after.out ≡ before.out) × (after.rec ≡ before.rec)

-- the count of the output has risen, and no other
abbrev pub OutFails : FailureCounts → FailureCounts → Type 0
OutFails before after = (after.source ≡ before.source) × (before.out < after.out) × (after.rec ≡ before.rec)

-- the count of the record has risen, and no other
abbrev pub RecordFails : FailureCounts → FailureCounts → Type 0
RecordFails before after = (after.source ≡ before.source) × (after.out ≡ before.out) × (before.rec < after.rec)
