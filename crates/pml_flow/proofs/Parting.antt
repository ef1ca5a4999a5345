-- Each of some lists is an arm of all of them.
use Rattle.std.proofs.Common.{◌≡◌, ℕ, zero, suc, ◌+◌, ◌-◌, ◌<◌, List, [], ◌∷◌, ◌++◌, length, map, take, drop, refl, sym, ap, ◌∙◌, arith, append_assoc, length-append}
use Rattle.std.specs.Prelude.{slice_index_or, slice_range}
use Rattle.pml_flow.specs.Arms.{all_of, bounds_from, begin_of, arm}
use Rattle.pml_flow.specs.Graph.{span, levels_by}

pub bounds-length : {X : Type 0} (k : ℕ) (xss : List (List X)) → length (bounds_from k xss) ≡ length xss
bounds-length k [] = refl
bounds-length k (xs ∷ rest) = ap suc (bounds-length (k + length xs) rest)

take_front : {X : Type 0} (xs ys : List X) → take (length xs) (xs ++ ys) ≡ xs
take_front [] ys = refl
take_front (x ∷ xs) ys = ap (λ r. x ∷ r) (take_front xs ys)

drop_front : {X : Type 0} (xs ys : List X) → drop (length xs) (xs ++ ys) ≡ ys
drop_front [] ys = refl
drop_front (x ∷ xs) ys = drop_front xs ys

-- an arm in the middle
middle : {X : Type 0} (xs ys zs : List X) → slice_range (xs ++ (ys ++ zs)) (length xs) (length xs + length ys) ≡ ys
middle xs ys zs =
    let n : (length xs + length ys) - length xs ≡ length ys = omega arith in
    ap (λ k. take k (drop (length xs) (xs ++ (ys ++ zs)))) n
    ∙ ap (take (length ys)) (drop_front xs (ys ++ zs))
    ∙ take_front ys zs

-- nothing from here to the beginning
none : {X : Type 0} (xs : List X) (i : ℕ) → slice_range xs i 0 ≡ []
none xs i = let n : 0 - i ≡ 0 = omega arith in ap (λ k. take k (drop i xs)) n ∙ refl

-- where number n begins, behind k
abbrev from_bound : ℕ → List ℕ → ℕ → ℕ
from_bound k bs zero = k
from_bound k bs (suc n) = slice_index_or bs n 0

from_next : (m : ℕ) (bs : List ℕ) (n : ℕ) → slice_index_or (m ∷ bs) n 0 ≡ from_bound m bs n
from_next m bs zero = refl
from_next m bs (suc n) = refl

arm_by : {X : Type 0} (pre : List X) (xss : List (List X)) (n : ℕ) → slice_range (pre ++ all_of xss) (from_bound (length pre) (bounds_from (length pre) xss) n) (slice_index_or (bounds_from (length pre) xss) n 0) ≡ slice_index_or xss n []
arm_by pre [] n = none (pre ++ []) (from_bound (length pre) [] n)
arm_by pre (xs ∷ rest) zero = middle pre xs (all_of rest)
arm_by {X} pre (xs ∷ rest) (suc n) =
    let all : List X = pre ++ xs in
    let k : length all ≡ length pre + length xs = length-append pre xs in
    ap (λ es. slice_range es (slice_index_or ((length pre + length xs) ∷ bounds_from (length pre + length xs) rest) n 0) (slice_index_or (bounds_from (length pre + length xs) rest) n 0)) (sym (append_assoc pre xs (all_of rest)))
    ∙ ap (λ j. slice_range (all ++ all_of rest) j (slice_index_or (bounds_from (length pre + length xs) rest) n 0)) (from_next (length pre + length xs) (bounds_from (length pre + length xs) rest) n)
    ∙ ap (λ j. slice_range (all ++ all_of rest) (from_bound j (bounds_from j rest) n) (slice_index_or (bounds_from j rest) n 0)) (sym k)
    ∙ arm_by all rest n

pub begin_is : (bs : List ℕ) (n : ℕ) → begin_of bs n ≡ from_bound 0 bs n
begin_is bs zero = refl
begin_is bs (suc n) = refl

-- an arm of all
pub arm_is : {X : Type 0} (xss : List (List X)) (n : ℕ) → arm (all_of xss) (bounds_from 0 xss) n ≡ slice_index_or xss n []
arm_is xss n =
    ap (λ j. slice_range (all_of xss) j (slice_index_or (bounds_from 0 xss) n 0)) (begin_is (bounds_from 0 xss) n)
    ∙ arm_by [] xss n

pub all_append : {X : Type 0} (xs ys : List (List X)) → all_of (xs ++ ys) ≡ all_of xs ++ all_of ys
all_append [] ys = refl
all_append (x ∷ xs) ys = ap (λ r. x ++ r) (all_append xs ys) ∙ sym (append_assoc x (all_of xs) (all_of ys))

bounds_append : {X : Type 0} (k : ℕ) (xs ys : List (List X)) → bounds_from k (xs ++ ys) ≡ bounds_from k xs ++ bounds_from (k + length (all_of xs)) ys
bounds_append k [] ys = let n : k ≡ k + 0 = omega arith in ap (λ m. bounds_from m ys) n
bounds_append k (x ∷ xs) ys =
    let e = length-append x (all_of xs) in
    let n : (k + length x) + length (all_of xs) ≡ k + length (x ++ all_of xs) = omega (arith, e) in
    ap (λ r. (k + length x) ∷ r) (bounds_append (k + length x) xs ys ∙ ap (λ m. bounds_from (k + length x) xs ++ bounds_from m ys) n)

-- ---- the numbers of the arms of an arm

read_seam : {X : Type 0} (pre : List X) (x : X) (xs : List X) (d : X) → slice_index_or (pre ++ (x ∷ xs)) (length pre) d ≡ x
read_seam [] x xs d = refl
read_seam (y ∷ pre) x xs d = read_seam pre x xs d

span_seam : {X : Type 0} (pre xs rest : List X) (d : X) → map (λ i. slice_index_or (pre ++ (xs ++ rest)) i d) (span (length pre) (length xs)) ≡ xs
span_seam pre [] rest d = refl
span_seam {X} pre (x ∷ xs) rest d =
    let more : List X = pre ++ x ∷ [] in
    let k : length more ≡ length pre + 1 = length-append pre (x ∷ []) in
    ap (λ y. y ∷ map (λ i. slice_index_or (pre ++ (x ∷ (xs ++ rest))) i d) (span (length pre + 1) (length xs))) (read_seam pre x (xs ++ rest) d)
    ∙ ap (λ zs. x ∷ map (λ i. slice_index_or zs i d) (span (length pre + 1) (length xs))) (sym (append_assoc pre (x ∷ []) (xs ++ rest)))
    ∙ ap (λ n. x ∷ map (λ i. slice_index_or (more ++ (xs ++ rest)) i d) (span n (length xs))) (sym k)
    ∙ ap (λ r. x ∷ r) (span_seam more xs rest d)

span_by : {X : Type 0} (pre : List X) (xss : List (List X)) (n : ℕ) (d : X) → map (λ i. slice_index_or (pre ++ all_of xss) i d) (span (from_bound (length pre) (bounds_from (length pre) xss) n) (slice_index_or (bounds_from (length pre) xss) n 0 - from_bound (length pre) (bounds_from (length pre) xss) n)) ≡ slice_index_or xss n []
span_by {X} pre [] n d =
    let f : ℕ → X = λ i. slice_index_or (pre ++ []) i d in
    let m : 0 - from_bound (length pre) [] n ≡ 0 = omega arith in
    ap (λ c. map f (span (from_bound (length pre) [] n) c)) m
span_by {X} pre (xs ∷ rest) zero d =
    let f : ℕ → X = λ i. slice_index_or (pre ++ (xs ++ all_of rest)) i d in
    let m : (length pre + length xs) - length pre ≡ length xs = omega arith in
    ap (λ c. map f (span (length pre) c)) m ∙ span_seam pre xs (all_of rest) d
span_by {X} pre (xs ∷ rest) (suc n) d =
    let all : List X = pre ++ xs in
    let k : length all ≡ length pre + length xs = length-append pre xs in
    let e : ℕ → ℕ → List X → List X = λ a z ys. map (λ i. slice_index_or ys i d) (span a (z - a)) in
    ap (λ ys. e (slice_index_or ((length pre + length xs) ∷ bounds_from (length pre + length xs) rest) n 0) (slice_index_or (bounds_from (length pre + length xs) rest) n 0) ys) (sym (append_assoc pre xs (all_of rest)))
    ∙ ap (λ a. e a (slice_index_or (bounds_from (length pre + length xs) rest) n 0) (all ++ all_of rest)) (from_next (length pre + length xs) (bounds_from (length pre + length xs) rest) n)
    ∙ ap (λ j. e (from_bound j (bounds_from j rest) n) (slice_index_or (bounds_from j rest) n 0) (all ++ all_of rest)) (sym k)
    ∙ span_by all rest n d

-- what stands at the numbers of an arm is the arm
pub levels_are : {X : Type 0} (xss : List (List X)) (n : ℕ) (d : X) → map (λ i. slice_index_or (all_of xss) i d) (levels_by (bounds_from 0 xss) n) ≡ slice_index_or xss n []
levels_are xss n d =
    let bs : List ℕ = bounds_from 0 xss in
    ap (λ a. map (λ i. slice_index_or (all_of xss) i d) (span a (slice_index_or bs n 0 - a))) (begin_is bs n)
    ∙ span_by [] xss n d

-- ---- of the code

-- the lists of one more
pub lists_more : {X : Type 0} (ys : List (List X)) (rest : List (List (List X))) (xs new all : List X) → new ≡ xs ++ all_of ys → xs ++ all_of (all_of (ys ∷ rest)) ≡ all → new ++ all_of (all_of rest) ≡ all
lists_more ys rest xs new all f h =
    ap (λ r. r ++ all_of (all_of rest)) f ∙ append_assoc xs (all_of ys) (all_of (all_of rest))
    ∙ ap (λ r. xs ++ r) (sym (all_append ys (all_of rest))) ∙ h

pub ends_more : {X : Type 0} (ys : List (List X)) (rest : List (List (List X))) (xs new : List X) (bs cs all : List ℕ) → new ≡ xs ++ all_of ys → cs ≡ bs ++ bounds_from (length xs) ys → bs ++ bounds_from (length xs) (all_of (ys ∷ rest)) ≡ all → cs ++ bounds_from (length new) (all_of rest) ≡ all
ends_more ys rest xs new bs cs all f c h =
    let n : length new ≡ length xs + length (all_of ys) = ap length f ∙ length-append xs (all_of ys) in
    ap (λ r. r ++ bounds_from (length new) (all_of rest)) c
    ∙ append_assoc bs (bounds_from (length xs) ys) (bounds_from (length new) (all_of rest))
    ∙ ap (λ m. bs ++ (bounds_from (length xs) ys ++ bounds_from m (all_of rest))) n
    ∙ ap (λ r. bs ++ r) (sym (bounds_append (length xs) ys (all_of rest)))
    ∙ h

-- and their number
pub numbers_more : {X : Type 0} (ys : List (List X)) (rest : List (List (List X))) (n : ℕ) (bs cs ms ks all : List ℕ) → cs ≡ bs ++ bounds_from n ys → ks ≡ ms ++ length cs ∷ [] → ms ++ bounds_from (length bs) (ys ∷ rest) ≡ all → ks ++ bounds_from (length cs) rest ≡ all
numbers_more ys rest n bs cs ms ks all c k h =
    let e : length cs ≡ length bs + length ys = ap length c ∙ length-append bs (bounds_from n ys) ∙ ap (λ m. length bs + m) (bounds-length n ys) in
    ap (λ r. r ++ bounds_from (length cs) rest) k
    ∙ append_assoc ms (length cs ∷ []) (bounds_from (length cs) rest)
    ∙ ap (λ m. ms ++ (m ∷ bounds_from m rest)) e
    ∙ h

-- one list more
pub all_more : {X : Type 0} (ys : List X) (rest : List (List X)) (xs new all : List X) → new ≡ xs ++ ys → xs ++ all_of (ys ∷ rest) ≡ all → new ++ all_of rest ≡ all
all_more ys rest xs new all f h = ap (λ r. r ++ all_of rest) f ∙ append_assoc xs ys (all_of rest) ∙ h

-- and where it ends
pub bounds_more : {X : Type 0} (ys : List X) (rest : List (List X)) (xs new : List X) (bs cs all : List ℕ) → new ≡ xs ++ ys → cs ≡ bs ++ length new ∷ [] → bs ++ bounds_from (length xs) (ys ∷ rest) ≡ all → cs ++ bounds_from (length new) rest ≡ all
bounds_more ys rest xs new bs cs all f c h =
    let n : length new ≡ length xs + length ys = ap length f ∙ length-append xs ys in
    ap (λ r. r ++ bounds_from (length new) rest) c
    ∙ append_assoc bs (length new ∷ []) (bounds_from (length new) rest)
    ∙ ap (λ k. bs ++ (k ∷ bounds_from k rest)) n
    ∙ h

past_end : (bs : List ℕ) → slice_index_or bs (length bs) 0 ≡ 0
past_end [] = refl
past_end (b ∷ bs) = past_end bs

-- one of some arms, none where there is none
pub arm_read : {X : Type 0} (xs : List X) (bs ks : List ℕ) (n : ℕ) → arm xs bs (slice_index_or ks n (length bs)) ≡ slice_index_or (map (arm xs bs) ks) n []
arm_read xs bs [] n = ap (slice_range xs (begin_of bs (length bs))) (past_end bs) ∙ none xs (begin_of bs (length bs))
arm_read xs bs (k ∷ ks) zero = refl
arm_read xs bs (k ∷ ks) (suc n) = arm_read xs bs ks n

-- one number more
pub span_more : (l b : ℕ) → l < b → span l (b - l) ≡ l ∷ span (l + 1) (b - (l + 1))
span_more l b h = let n : b - l ≡ suc (b - (l + 1)) = omega (arith, h) in ap (span l) n
