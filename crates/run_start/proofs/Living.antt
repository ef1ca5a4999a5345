-- Which processes live.
use Rattle.std.proofs.Common.{◌≡◌, ℕ, zero, suc, ◌+◌, ◌<◌, ◌≤◌, Bool, true, false, nat_lt, if◌then◌else◌, List, [], ◌∷◌, ◌++◌, length, map, take, replicate, None, Ok, IfOk, refl, sym, ap, ◌∙◌, subst, arith, append_assoc}
use Rattle.std.proofs.lemmas.Bool.{ltb-true, ltb-false}
use Rattle.std.proofs.lemmas.List.{length_push, length-take, length-map, map-append, take_all, take-append-le, append-nil}
use Rattle.pml_program.specs.declared.program.Proctype.{Proctype}
use Rattle.pml_program.specs.declared.program.Program.{Program}
use Rattle.promela_run.specs.State.{Stand, State, begins_at, nothing, youngest_joined, frame_begun, process_begun, sort_begun, sorts_begun, first_state, variables_at}
use Rattle.run_start.specs.Starting.{starting}
use Rattle.run_start.specs.Laws.{IsFirst}
use Rattle.run_start.proofs.Chaining.{chain, weaker}
use Rattle.run_start.proofs.Touching.{Touched, frame_touches}

-- ---- no more than 255 of a list

full : (xs ys : List ℕ) (k : ℕ) → ys ≡ take 255 xs → 255 ≤ length ys → ys ≡ take 255 (xs ++ k ∷ [])
full xs ys k e h =
    let l = ap length e ∙ length-take 255 xs in
    e ∙ sym (take-append-le 255 xs (k ∷ []) (omega (arith, l, h)))

short : (xs ys : List ℕ) (k : ℕ) → ys ≡ take 255 xs → length ys < 255 → ys ++ k ∷ [] ≡ take 255 (xs ++ k ∷ [])
short xs ys k e h =
    let l = ap length e ∙ length-take 255 xs in
    let few : length xs ≤ 255 = omega (arith, l, h) in
    let more : length (xs ++ k ∷ []) ≤ 255 = omega (arith, l, h, length_push xs k) in
    ap (λ (zs : List ℕ). zs ++ k ∷ []) (e ∙ take_all 255 xs few) ∙ sym (take_all 255 (xs ++ k ∷ []) more)

-- ---- the processes so far

-- of this model, the processes are these, as far as 255 go, before their first statements, and nobody holds exclusive control
record Are (p : Program) (xs : List ℕ) (n : State) : Type 0 where
  program : n.program ≡ p
  stands : n.stands ≡ map (begins_at p) (take 255 xs)
  holder : n.holder ≡ None

-- what touches frames and channels alone leaves them
still : (p : Program) (xs : List ℕ) (b n : State) → Are p xs b → Touched b n → Are p xs n
still p xs b n a e = record {
  program = ap (λ (x : State). x.program) e ∙ a.program;
  stands = ap (λ (x : State). x.stands) e ∙ a.stands;
  holder = ap (λ (x : State). x.holder) e ∙ a.holder;
}

-- the same, by an equal list
these : (p : Program) (xs ys : List ℕ) (n : State) → xs ≡ ys → Are p xs n → Are p ys n
these p xs ys n e a = subst (λ (zs : List ℕ). Are p zs n) e a

process_are : (p : Program) (k : ℕ) (xs : List ℕ) (b : State) → Are p xs b → IfOk (process_begun p k b) (Are p (xs ++ k ∷ []))
process_are p k xs b e = cases (nat_lt (length b.stands) 255) refl
  where
    count : length b.stands ≡ length (take 255 xs)
    count = ap length e.stands ∙ length-map (take 255 xs) (begins_at p)

    one : State
    one = youngest_joined (begins_at p k) b

    more : length b.stands < 255 → Are p (xs ++ k ∷ []) one
    more h = record {
      program = e.program;
      stands =
          ap (λ (ys : List Stand). ys ++ begins_at p k ∷ []) e.stands ∙ sym (map-append (begins_at p) (take 255 xs) (k ∷ []))
          ∙ ap (map (begins_at p)) (short xs (take 255 xs) k refl (omega (arith, count, h)));
      holder = e.holder;
    }

    cases : (t : Bool) → nat_lt (length b.stands) 255 ≡ t → IfOk (if t then frame_begun p.typedefs (variables_at p k) one else Ok b) (Are p (xs ++ k ∷ []))
    cases true h =
        weaker (Touched one) (Are p (xs ++ k ∷ [])) (frame_begun p.typedefs (variables_at p k) one) (λ n g. still p (xs ++ k ∷ []) one n (more (ltb-true (length b.stands) 255 h)) g)
        (frame_touches p.typedefs (variables_at p k) one)
    cases false h = record {
      program = e.program;
      stands = let l = ltb-false (length b.stands) 255 h in e.stands ∙ ap (map (begins_at p)) (full xs (take 255 xs) k refl (omega (arith, count, l)));
      holder = e.holder;
    }

sort_are : (p : Program) (k n : ℕ) (xs : List ℕ) (b : State) → Are p xs b → IfOk (sort_begun p k n b) (Are p (xs ++ replicate n k))
sort_are p k zero xs b e = these p xs (xs ++ []) b (sym (append-nil xs)) e
sort_are p k (suc n) xs b e =
    chain (Are p (xs ++ k ∷ [])) (Are p (xs ++ (k ∷ replicate n k))) (process_begun p k b) (sort_begun p k n) (process_are p k xs b e)
    (λ m h. weaker (Are p ((xs ++ k ∷ []) ++ replicate n k)) (Are p (xs ++ (k ∷ replicate n k))) (sort_begun p k n m)
    (λ a g. these p ((xs ++ k ∷ []) ++ replicate n k) (xs ++ (k ∷ replicate n k)) a (append_assoc xs (k ∷ []) (replicate n k)) g) (sort_are p k n (xs ++ k ∷ []) m h))

sorts_are : (p : Program) (k : ℕ) (qs : List Proctype) (xs : List ℕ) (b : State) → Are p xs b → IfOk (sorts_begun p k qs b) (Are p (xs ++ starting k qs))
sorts_are p k [] xs b e = these p xs (xs ++ []) b (sym (append-nil xs)) e
sorts_are p k (q ∷ qs) xs b e =
    chain (Are p (xs ++ replicate q.starts k)) (Are p (xs ++ (replicate q.starts k ++ starting (k + 1) qs))) (sort_begun p k q.starts b) (sorts_begun p (k + 1) qs) (sort_are p k q.starts xs b e)
    (λ m h. weaker (Are p ((xs ++ replicate q.starts k) ++ starting (k + 1) qs)) (Are p (xs ++ (replicate q.starts k ++ starting (k + 1) qs))) (sorts_begun p (k + 1) qs m)
    (λ a g. these p ((xs ++ replicate q.starts k) ++ starting (k + 1) qs) (xs ++ (replicate q.starts k ++ starting (k + 1) qs)) a (append_assoc xs (replicate q.starts k) (starting (k + 1) qs)) g) (sorts_are p (k + 1) qs (xs ++ replicate q.starts k) m h))

pub living_are : (p : Program) → IfOk (first_state p) (IsFirst p)
living_are p =
    chain (Are p []) (IsFirst p) (frame_begun p.typedefs p.globals (nothing p)) (sorts_begun p 0 p.proctypes)
    (weaker (Touched (nothing p)) (Are p []) (frame_begun p.typedefs p.globals (nothing p)) (λ n g. still p [] (nothing p) n (record { program = refl; stands = refl; holder = refl }) g) (frame_touches p.typedefs p.globals (nothing p)))
    (λ m h. weaker (Are p (starting 0 p.proctypes)) (IsFirst p) (sorts_begun p 0 p.proctypes m) (λ n g. record { program = g.program; stands = g.stands; holder = g.holder }) (sorts_are p 0 p.proctypes [] m h))
