-- A text with numbers in place of its character constants is the text but for these.
use Rattle.std.proofs.Common.{◌≡◌, ℕ, zero, suc, ◌+◌, ◌<◌, ◌≤◌, Bool, true, false, cond, List, [], ◌∷◌, ◌++◌, length, take, drop, sym, refl, ap, ◌∙◌, inl, inr, append-nil, take-append-drop, length-take-le, arith}
use Rattle.std.specs.Prelude.{nat_lt, ◌⊎◌, ◌==◌}
use Rattle.std.specs.List.{filter}
use Rattle.std.proofs.lemmas.Bool.{false≢true}
use Rattle.std.proofs.lemmas.Bool.Decides.{nat_tests}
use Rattle.promela_text.specs.Tokens.{fresh_from, is_line_feed}
use Rattle.prepare.specs.Character.{is_seen, ended, seen_and_ended, length_behind, character_length, number}
use Rattle.prepare.specs.Coding.{is_coded, front_length, written, coded_by, coded}
use Rattle.prepare.specs.OwnLines.{Part, olds, news, IsConstant, IsNumbered, AreNumbered, HasNumbers}
use Rattle.prepare.proofs.Lines.{character_feeds}

if_within : (t : Bool) (n k : ℕ) → n ≤ k → cond t n 0 ≤ k
if_within true n k h = h
if_within false n k h = omega arith

ended_in : (n : ℕ) (q : List ℕ) (k : ℕ) → ((0 < length q) → n ≤ k) → ended n q ≤ k
ended_in n [] k h = omega arith
ended_in n (b ∷ q) k h = if_within (b == 39) n k (h (omega arith))

seen_in : (n : ℕ) (q : List ℕ) (k : ℕ) → ((1 < length q) → n ≤ k) → seen_and_ended n q ≤ k
seen_in n [] k h = omega arith
seen_in n (b ∷ q) k h = if_within (is_seen b) (ended n q) k (ended_in n q k (λ s. h (omega arith)))

both_in : (t : Bool) (n m k : ℕ) → n ≤ k → m ≤ k → cond t n m ≤ k
both_in true n m k a b = a
both_in false n m k a b = b

behind_in : (q : List ℕ) → length_behind q ≤ 1 + length q
behind_in [] = omega arith
behind_in (b ∷ []) = omega arith
behind_in (b ∷ c ∷ q) =
    both_in (b == 92) (seen_and_ended 4 (c ∷ q)) (seen_and_ended 3 (b ∷ c ∷ q)) (1 + length (b ∷ c ∷ q))
    (seen_in 4 (c ∷ q) (1 + length (b ∷ c ∷ q)) (λ s. omega arith)) (seen_in 3 (b ∷ c ∷ q) (1 + length (b ∷ c ∷ q)) (λ s. omega arith))

-- a character constant is within its text
within : (text : List ℕ) → character_length text ≤ length text
within [] = omega arith
within (b ∷ q) = if_within (b == 39) (length_behind q) (length (b ∷ q)) (let h = behind_in q in omega arith)

record Parts (text out : List ℕ) : Type 0 where
  parts : List Part
  old : olds parts ≡ text
  new : news parts ≡ out
  each : AreNumbered parts

is_some : (n : ℕ) → nat_lt 0 n ≡ true → 0 < n
is_some n h = grind (arith, nat_tests)

part_by : (t : Bool) (n : ℕ) (text rest : List ℕ) → is_coded text ≡ t → (t ≡ true → n ≡ character_length text) → take n text ++ rest ≡ text
    → ((written t (take n text) ≡ take n text) ⊎ (IsConstant (take n text) rest × (written t (take n text) ≡ number (take n text) ++ filter is_line_feed (take n text))))
part_by false n text rest e len whole = inl refl
part_by true n text rest e len whole =
    let size : n ≡ character_length text = len refl in
    let fits : character_length text ≤ length text = within text in
    let long : length (take n text) ≡ n = length-take-le n text (omega arith) in
    inr ((ap character_length whole ∙ sym size ∙ sym long, (let some : 0 < character_length text = is_some (character_length text) e in omega arith)), refl)

size_by : (t : Bool) (n m : ℕ) → t ≡ true → cond t n m ≡ n
size_by true n m e = refl
size_by false n m e = absurd (false≢true e)

one : (fresh : Bool) (text : List ℕ) (ps : List Part) → olds ps ≡ drop (front_length fresh text) text → IsNumbered (record { old = take (front_length fresh text) text; new = written (is_coded text) (take (front_length fresh text) text) }) (olds ps)
one fresh text ps e =
    let n = front_length fresh text in
    record {
      is = part_by (is_coded text) n text (olds ps) refl (λ t. size_by (is_coded text) (character_length text) _ t) (ap (λ (x : List ℕ). take n text ++ x) e ∙ take-append-drop n text);
      lines = character_feeds (is_coded text) (take n text);
    }

divided : (fuel : ℕ) (fresh : Bool) (text : List ℕ) → Parts text (coded_by fuel fresh text)
unfolding coded_by
divided zero fresh text = record { parts = record { old = text; new = text } ∷ []; old = append-nil text; new = append-nil text; each = (record { is = inl refl; lines = refl }, tt) }
divided (suc fuel) fresh [] = record { parts = []; old = refl; new = refl; each = tt }
divided (suc fuel) fresh (b ∷ q) =
    let text = b ∷ q in
    let n = front_length fresh text in
    let front = take n text in
    let back = drop n text in
    let h : Parts back (coded_by fuel (fresh_from fresh front) back) = divided fuel (fresh_from fresh front) back in
    record {
      parts = record { old = front; new = written (is_coded text) front } ∷ h.parts;
      old = ap (λ (x : List ℕ). front ++ x) h.old ∙ take-append-drop n text;
      new = ap (λ (x : List ℕ). written (is_coded text) front ++ x) h.new;
      each = (one fresh text h.parts h.old, h.each);
    }

pub has_numbers : (text : List ℕ) → HasNumbers text (coded text)
has_numbers text = let h = divided (length text) true text in record { parts = h.parts; old = h.old; new = h.new; each = h.each }
