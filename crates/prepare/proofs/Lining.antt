-- The loop over the lines of a text: what holds at each of its stretches, and what one line does to it.
use Rattle.std.proofs.Common.{◌≡◌, ℕ, zero, suc, ◌+◌, ◌-◌, ◌<◌, ◌≤◌, List, [], ◌∷◌, ◌++◌, length, drop, sym, refl, ap, ◌∙◌, append_assoc, append-nil, length-drop, arith}
use Rattle.prepare.specs.Standing.{Standing}
use Rattle.prepare.specs.Markers.{marker}
use Rattle.prepare.specs.Numbering.{placed, standing_behind, line_length, first_line, first_standing, bare, numbered, numbered_by}

-- out: what the lines before `rest` gave
pub record Reached (text out : List ℕ) (s : Standing) (rest : List ℕ) : Type 0 where
  pub left : ℕ
  pub enough : length rest ≤ left
  pub short : length rest ≤ 8388608
  -- no line's number is past the largest of a marker by more bytes than were read
  pub low : s.line + length rest ≤ 9437185
  pub so_far : out ++ numbered_by left s rest ≡ numbered (bare text)

one_line : (fuel : ℕ) (s : Standing) (rest : List ℕ) → 0 < length rest → numbered_by (suc fuel) s rest ≡ placed s (marker (first_line rest)) (first_line rest) ++ numbered_by fuel (standing_behind s (marker (first_line rest)) (first_line rest)) (drop (line_length rest) rest)
unfolding numbered_by
one_line fuel s [] h = absurd (omega arith)
one_line fuel s (b ∷ q) h = refl

pub some_line : (rest : List ℕ) → 0 < length rest → 0 < line_length rest
some_line rest h = omega arith

step_by : (left : ℕ) (text out : List ℕ) (s : Standing) (rest : List ℕ) → length rest ≤ left → length rest ≤ 8388608 → out ++ numbered_by left s rest ≡ numbered (bare text) → 0 < length rest
    → (standing_behind s (marker (first_line rest)) (first_line rest)).line + length (drop (line_length rest) rest) ≤ 9437185
    → Reached text (out ++ placed s (marker (first_line rest)) (first_line rest)) (standing_behind s (marker (first_line rest)) (first_line rest)) (drop (line_length rest) rest)
step_by zero text out s rest enough short so_far some low = absurd (omega arith)
step_by (suc left) text out s rest enough short so_far some low =
    let len : length (drop (line_length rest) rest) ≡ length rest - line_length rest = length-drop (line_length rest) rest in
    let more : 0 < line_length rest = some_line rest some in
    record {
      left = left;
      enough = omega arith;
      short = omega arith;
      low = low;
      so_far = append_assoc out (placed s (marker (first_line rest)) (first_line rest)) (numbered_by left (standing_behind s (marker (first_line rest)) (first_line rest)) (drop (line_length rest) rest)) ∙ ap (λ (xs : List ℕ). out ++ xs) (sym (one_line left s rest some)) ∙ so_far;
    }

-- one more line
pub reached_line : {text out : List ℕ} {s : Standing} {rest : List ℕ} → Reached text out s rest → 0 < length rest → (standing_behind s (marker (first_line rest)) (first_line rest)).line + length (drop (line_length rest) rest) ≤ 9437185
    → Reached text (out ++ placed s (marker (first_line rest)) (first_line rest)) (standing_behind s (marker (first_line rest)) (first_line rest)) (drop (line_length rest) rest)
reached_line {text} {out} {s} {rest} r some low = step_by r.left text out s rest r.enough r.short r.so_far some low

pub reached_start : (text : List ℕ) → length (bare text) ≤ 8388608 → Reached text [] first_standing (bare text)
reached_start text h = record { left = length (bare text); enough = omega arith; short = h; low = omega arith; so_far = refl }

no_line : (left : ℕ) (s : Standing) (rest : List ℕ) → length rest ≤ 0 → numbered_by left s rest ≡ []
unfolding numbered_by
no_line zero s rest h = refl
no_line (suc left) s [] h = refl
no_line (suc left) s (b ∷ q) h = absurd (omega arith)

pub reached_end : {text out : List ℕ} {s : Standing} {rest : List ℕ} → Reached text out s rest → length rest ≤ 0 → out ≡ numbered (bare text)
reached_end {text} {out} {s} {rest} r h = sym (append-nil out) ∙ ap (λ (xs : List ℕ). out ++ xs) (sym (no_line r.left s rest h)) ∙ r.so_far
