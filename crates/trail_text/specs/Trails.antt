-- A trail, as far as it was followed.
use Rattle.std.specs.Prelude.{◌≡◌, ◌&&◌, ℕ, nat_eq, Bool, false, Option, Some, None, if◌then◌else◌}
use Rattle.trail_text.specs.declared.entry.Entry.{Entry}
use Rattle.trail_text.specs.declared.entry.Event.{Event}
use Rattle.trail_text.specs.declared.entry.Event.TheVariants.{Statement, Death}
use Rattle.trail_text.specs.declared.trail.Trail.{Trail}
use Rattle.trail_text.specs.Shown.{is_of_spin}

-- no line of it was followed, and no step is to be taken
abbrev pub IsFresh : Trail → Type 0
IsFresh t = (t.quiet ≡ 0) × (t.last ≡ None) × (t.held ≡ None) × (t.counts ≡ 0) × (t.skipped ≡ None) × (t.valued ≡ None)

-- a line is one more of the step that was taken last
abbrev pub is_held : Option (ℕ × ℕ) → Entry → Bool
is_held None entry = false
is_held (Some p) entry = nat_eq p.0 entry.process && nat_eq p.1 entry.step

-- the line of an `else` of this process that was passed over
abbrev pub skipped_of : Option (ℕ × ℕ) → ℕ → Option ℕ
skipped_of None process = None
skipped_of (Some p) process = if nat_eq p.0 process then Some p.1 else None

-- how often it is to count up stays, and so does the declaration that was passed over
abbrev pub IsKept : Trail → Trail → Type 0
IsKept old new = (new.counts ≡ old.counts) × (new.valued ≡ old.valued)

-- the trail stands right behind a line
abbrev pub IsBehind : Trail → Entry → Type 0
IsBehind t entry =
    (t.last ≡ Some (entry.process, entry.step)) × (t.held ≡ None) × (t.quiet ≡ 0) × (skipped_of t.skipped entry.process ≡ None)

-- what Spin shows of a statement that is no step of the machine
abbrev pub is_unseen : Event → Bool
is_unseen (Statement line text) = is_of_spin text.now
is_unseen Death = false
