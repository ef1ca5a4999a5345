-- One more move counts for those who take part in it.
use Rattle.std.proofs.Common.{◌≡◌, ◌<◌, ◌≤◌, ◌+◌, ◌^◌, ◌⊎◌, inl, inr, ℕ, zero, suc, List, [], ◌∷◌, length, take, slice_index_or, nat_eq, ◌||◌, Bool, true, false, if◌then◌else◌, count_by, cond, refl, sym, ap, ◌∙◌, subst, arith}
use Rattle.std.proofs.lemmas.Bool.{cases_lt}
use Rattle.std.proofs.lemmas.Bool.Decides.{nat_tests}
use Rattle.std.proofs.lemmas.List.Sums.{count_by_more_yes, count_by_more_no, count_by-le-length, sum_by-cons}
use Rattle.promela_run.specs.declared.moves.Move.{Move}
use Rattle.promela_run.specs.declared.moves.Move.TheVariants.{Death, Alone, Pair}
use Rattle.run_search.specs.Laws.{taker}
use Rattle.view_waits.specs.Waits.{takes_part, is_in}
use Rattle.view_json.specs.Counts.{other_taker, AreCounts}

-- ---- a move

twice : (b : Bool) → b ≡ (b || b)
twice true = refl
twice false = refl

-- who takes part in it is who begins it, or the other
parts : (p : ℕ) (m : Move) → takes_part p m ≡ (nat_eq (taker m) p || nat_eq (other_taker m) p)
parts p (Death q) = twice (nat_eq q p)
parts p (Alone k t) = twice (nat_eq k.process p)
parts p (Pair k j t) = refl

-- one more move, for a process
next : (p : ℕ) (ms : List Move) (i : ℕ) (d : Move) → i < length ms → count_by (takes_part p) (take (i + 1) ms) ≡ count_by (takes_part p) (take i ms) + (if takes_part p (slice_index_or ms i d) then 1 else 0)
next p ms i d l = by (takes_part p (slice_index_or ms i d)) refl
  where
    by : (b : Bool) → takes_part p (slice_index_or ms i d) ≡ b → count_by (takes_part p) (take (i + 1) ms) ≡ count_by (takes_part p) (take i ms) + (if b then 1 else 0)
    by true e = count_by_more_yes (takes_part p) ms i d l e
    by false e = let same = count_by_more_no (takes_part p) ms i d l e in omega (arith, same)

-- it counts once where one process begins it and takes part
abbrev one_if : Bool → ℕ
one_if b = if b then 1 else 0

once : (a b : Bool) → a ≡ b → one_if (a || b) ≡ one_if a
once true b h = refl
once false true h = cc
once false false h = refl

-- and once for each of two
both : (a b : Bool) (f s p : ℕ) → (f ≡ s → ⊥) → nat_eq f p ≡ a → nat_eq s p ≡ b → one_if (a || b) ≡ one_if a + one_if b
both true true f s p n e h = let one : f ≡ p = grind (arith, nat_tests) in let two : s ≡ p = grind (arith, nat_tests) in absurd (n (one ∙ sym two))
both true false f s p n e h = refl
both false true f s p n e h = refl
both false false f s p n e h = refl

-- ---- the numbers

past : (ns : List ℕ) (p : ℕ) → length ns ≤ p → slice_index_or ns p 0 ≡ 0
past [] p l = refl
past (n ∷ ns) zero l = absurd (omega (arith, l))
past (n ∷ ns) (suc p) l = let k : length ns ≤ p = omega (arith, l) in past ns p k

taken : (ms : List Move) (i : ℕ) → length (take i ms) ≤ i
taken ms zero = omega arith
taken [] (suc i) = omega arith
taken (m ∷ ms) (suc i) = let h = taken ms i in omega (arith, h)

-- there is room for one more
pub room : (n : ℕ) (ns : List ℕ) (ms : List Move) (i p : ℕ) → AreCounts n ns (take i ms) → i < length ms → length ms < 2 ^ 64 → slice_index_or ns p 0 + 1 < 2 ^ 64
room n ns ms i p h l f = by (cases_lt p n)
  where
    by : (p < n) ⊎ (n ≤ p) → slice_index_or ns p 0 + 1 < 2 ^ 64
    by (inl k) = let e = h.1 p k in let c = count_by-le-length (takes_part p) (take i ms) in let t = taken ms i in omega (arith, e, c, t, l, f)
    by (inr k) = let q : length ns ≤ p = omega (arith, k, h.0) in let e = past ns p q in omega (arith, e)

-- both who take part in the next move count one more
pub counted : (n : ℕ) (ns new : List ℕ) (ms : List Move) (i : ℕ) (d : Move) → AreCounts n ns (take i ms) → i < length ms → length new ≡ length ns →
    ((p : ℕ) → p < n → slice_index_or new p 0 ≡ slice_index_or ns p 0 + (if nat_eq (taker (slice_index_or ms i d)) p || nat_eq (other_taker (slice_index_or ms i d)) p then 1 else 0)) →
    AreCounts n new (take (i + 1) ms)
counted n ns new ms i d h l e g = (
  e ∙ h.0,
  λ p k.
      let m : Move = slice_index_or ms i d in
      let one = g p k in
      let was = h.1 p k in
      let more = next p ms i d l in
      let who = ap {B = ℕ} (λ (b : Bool). if b then 1 else 0) (parts p m) in
      omega (arith, one, was, more, who),
)

-- ---- a loop

-- before the first move
pub begun : (n : ℕ) (ns : List ℕ) → length ns ≡ n → ((p : ℕ) → p < n → slice_index_or ns p 0 ≡ 0) → AreCounts n ns []
begun n ns e h = (e, h)

-- the next move is begun by one process alone
pub counted_one : (n : ℕ) (ns new : List ℕ) (ms : List Move) (i f s : ℕ) (d : Move) → AreCounts n ns (take i ms) → i < length ms → f ≡ taker (slice_index_or ms i d) → s ≡ other_taker (slice_index_or ms i d) → f ≡ s →
    length new ≡ length ns → ((p : ℕ) → p < length ns → slice_index_or new p 0 ≡ slice_index_or ns p 0 + (if nat_eq f p then 1 else 0)) → AreCounts n new (take (i + 1) ms)
counted_one n ns new ms i f s d h l ef es same e g = counted n ns new ms i d h l e (λ p k.
    let m : Move = slice_index_or ms i d in
    let q : p < length ns = omega (arith, k, h.0) in
    let one = g p q in
    let first = ap {B = ℕ} (λ (x : ℕ). if nat_eq x p then 1 else 0) ef in
    let fs : taker m ≡ other_taker m = sym ef ∙ same ∙ es in
    let ab = ap (λ (x : ℕ). nat_eq x p) fs in
    let all = once (nat_eq (taker m) p) (nat_eq (other_taker m) p) ab in
    omega (arith, one, first, all))

-- or by one, and another takes part in it
pub counted_two : (n : ℕ) (ns mid new : List ℕ) (ms : List Move) (i f s : ℕ) (d : Move) → AreCounts n ns (take i ms) → i < length ms → f ≡ taker (slice_index_or ms i d) → s ≡ other_taker (slice_index_or ms i d) → (f ≡ s → ⊥) →
    length mid ≡ length ns → ((p : ℕ) → p < length ns → slice_index_or mid p 0 ≡ slice_index_or ns p 0 + (if nat_eq f p then 1 else 0)) →
    length new ≡ length mid → ((p : ℕ) → p < length mid → slice_index_or new p 0 ≡ slice_index_or mid p 0 + (if nat_eq s p then 1 else 0)) → AreCounts n new (take (i + 1) ms)
counted_two n ns mid new ms i f s d h l ef es other e g e2 g2 = counted n ns new ms i d h l (e2 ∙ e) (λ p k.
    let m : Move = slice_index_or ms i d in
    let q : p < length ns = omega (arith, k, h.0) in
    let q2 : p < length mid = omega (arith, q, e) in
    let one = g p q in
    let two = g2 p q2 in
    let first = ap {B = ℕ} (λ (x : ℕ). if nat_eq x p then 1 else 0) ef in
    let second = ap {B = ℕ} (λ (x : ℕ). if nat_eq x p then 1 else 0) es in
    let all = both (nat_eq (taker m) p) (nat_eq (other_taker m) p) (taker m) (other_taker m) p (λ fs. other (ef ∙ fs ∙ sym es)) refl refl in
    omega (arith, one, two, first, second, all))

-- there is room for the other, too
pub room_two : (n : ℕ) (ns mid : List ℕ) (ms : List Move) (i f s : ℕ) → AreCounts n ns (take i ms) → i < length ms → length ms < 2 ^ 64 → (f ≡ s → ⊥) →
    length mid ≡ length ns → ((p : ℕ) → p < length ns → slice_index_or mid p 0 ≡ slice_index_or ns p 0 + (if nat_eq f p then 1 else 0)) → slice_index_or mid s 0 + 1 < 2 ^ 64
room_two n ns mid ms i f s h l z other e g = by (cases_lt s (length ns)) (nat_eq f s) refl
  where
    by : (s < length ns) ⊎ (length ns ≤ s) → (b : Bool) → nat_eq f s ≡ b → slice_index_or mid s 0 + 1 < 2 ^ 64
    by (inl k) true w = let one : f ≡ s = grind (arith, nat_tests) in absurd (other one)
    by (inl k) false w = let one = g s k in let none = ap {B = ℕ} (λ (b : Bool). if b then 1 else 0) w in let r = room n ns ms i s h l z in omega (arith, one, none, r)
    by (inr k) b w = let q : length mid ≤ s = omega (arith, k, e) in let p = past mid s q in omega (arith, p)

-- who takes part in more than no move takes part in one
pub counted_in : (p : ℕ) (ms : List Move) → 0 < count_by (takes_part p) ms → is_in p ms ≡ true
counted_in p [] h = absurd (omega (arith, h))
counted_in p (m ∷ ms) h = by (takes_part p m) refl (counted_in p ms)
  where
    by : (b : Bool) → takes_part p m ≡ b → (0 < count_by (takes_part p) ms → is_in p ms ≡ true) → is_in p (m ∷ ms) ≡ true
    by true e more = ap (λ (a : Bool). a || is_in p ms) e
    by false e more =
        let both = sum_by-cons (λ (y : Move). cond (takes_part p y) 1 0) m ms in
        let none = ap {B = ℕ} (λ (a : Bool). cond a 1 0) e in
        let rest : 0 < count_by (takes_part p) ms = omega (arith, h, both, none) in
        ap (λ (a : Bool). a || is_in p ms) e ∙ more rest
