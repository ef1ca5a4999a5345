-- What is said of a word, by kinds.
use Rattle.std.specs.Prelude.{ℕ, ◌==◌, Bool, true, false, ◌&&◌, ◌||◌, nat_le, if◌then◌else◌, List, [], ◌∷◌}
use Rattle.prepared.specs.declared.report.PreparingReport.{PreparingReport}
use Rattle.prepared.specs.declared.kinds.Topic.{Topic}
use Rattle.prepared.specs.declared.kinds.Topic.TheVariants as topic

-- a byte of `#` and the word behind it
abbrev pub is_of_directive : ℕ → Bool
is_of_directive b = b == 35 || ((nat_le 65 b && nat_le b 90) || (nat_le 97 b && nat_le b 122))

-- a kind that is known by no word
abbrev pub is_wordless : Topic → Bool
is_wordless topic.Apostrophe = true
is_wordless topic.Bytes = true
is_wordless topic.Subtypes = true
is_wordless topic.Stepped = true
is_wordless topic.Valued = true
is_wordless t = false

-- what kind of thing a token is that is left out
abbrev pub left_out : List ℕ → Topic
left_out [] = topic.LeftOut
left_out (b ∷ t) = if b == 39 then topic.Apostrophe else (if nat_le 32 b && nat_le b 126 then topic.LeftOut else topic.Bytes)

-- loops are left by what was read
abbrev pub has_loops : PreparingReport → Bool
has_loops r = r.has_loops
