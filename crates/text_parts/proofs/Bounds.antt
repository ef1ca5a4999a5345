-- How long a line is, and how far into it a column reaches.
use Rattle.std.proofs.Common.{◌≡◌, ◌≤◌, ℕ, zero, suc, ◌+◌, ◌-◌, Bool, true, false, cond, nat_eq, ◌&&◌, List, [], ◌∷◌, length, drop, refl, arith}
use Rattle.source_lines.specs.Places.{is_return, is_line_feed, trimmed, kept_before, up_to_feed}
use Rattle.text_parts.specs.declared.places.ColumnUnit.{ColumnUnit}
use Rattle.text_parts.specs.Columns.{begins_character}
use Rattle.text_parts.specs.Offsets.{units_in, start_of, reach}

pub start_none : (bs : List ℕ) → start_of 0 bs ≡ 0
start_none [] = refl
start_none (b ∷ bs) = refl

kept_length : (p : Bool) (b : ℕ) (cs bs : List ℕ) → length cs ≤ length bs → length (cond p [] (b ∷ [])) ≤ length (b ∷ bs)
kept_length true b cs bs h = omega arith
kept_length false b cs bs h = omega arith

before_length : (b : ℕ) (cs bs : List ℕ) → length cs ≤ length bs → length (kept_before is_return b cs) ≤ length (b ∷ bs)
before_length b [] bs h = kept_length (is_return b) b [] bs h
before_length b (c ∷ cs) bs h = omega arith

trimmed_length : (bs : List ℕ) → length (trimmed is_return bs) ≤ length bs
trimmed_length [] = omega arith
trimmed_length (b ∷ bs) = before_length b (trimmed is_return bs) bs (trimmed_length bs)

feed_length : (p : Bool) (b : ℕ) (cs bs : List ℕ) → length cs ≤ length bs → length (cond p [] (b ∷ cs)) ≤ length (b ∷ bs)
feed_length true b cs bs h = omega arith
feed_length false b cs bs h = omega arith

up_length : (bs : List ℕ) → length (up_to_feed bs) ≤ length bs
up_length [] = omega arith
up_length (b ∷ bs) = feed_length (is_line_feed b) b (up_to_feed bs) bs (up_length bs)

-- a line is no longer than what it is the front of
pub line_length : (bs : List ℕ) → length (trimmed is_return (up_to_feed bs)) ≤ length bs
line_length bs = let a = trimmed_length (up_to_feed bs) in let b = up_length bs in omega arith

step_bound : (p : Bool) (n k : ℕ) → n ≤ k → cond p 0 (1 + n) ≤ 1 + k
step_bound true n k h = omega arith
step_bound false n k h = omega arith

pub start_bound : (n : ℕ) (bs : List ℕ) → start_of n bs ≤ length bs
start_bound n [] = omega arith
start_bound n (b ∷ bs) =
    let h = step_bound (nat_eq n 0) (start_of (cond (is_line_feed b) (n - 1) n) bs) (length bs) (start_bound (cond (is_line_feed b) (n - 1) n) bs) in omega (arith, h)

pub reach_bound : (u : ColumnUnit) (n : ℕ) (bs : List ℕ) → reach u n bs ≤ length bs
reach_bound u n [] = omega arith
reach_bound u n (b ∷ bs) =
    let h = step_bound (nat_eq n 0 && begins_character b) (reach u (n - units_in u b) bs) (length bs) (reach_bound u (n - units_in u b) bs) in omega (arith, h)
