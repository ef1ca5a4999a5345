-- Each chain of numbers ends, or circles.
use Rattle.std.proofs.Common.{◌⊎◌, inl, inr, ◌≡◌, ◌≢◌, ℕ, zero, suc, ◌+◌, ◌<◌, ◌≤◌, List, [], ◌∷◌, ◌++◌, length, get_or, Option, Some, None, refl, sym, subst, arith, sum_by, length-append}
use Rattle.std.specs.Prelude.{slice_set, replicate}
use Rattle.std.proofs.lemmas.Bool.{cases_eq, cases_lt}
use Rattle.std.proofs.lemmas.Grind.{get_or-set_at}
use Rattle.std.proofs.lemmas.List.Folds.{sum_by-replicate}
use Rattle.pml_control.specs.declared.ends.Ending.{Ending}
use Rattle.pml_control.specs.declared.ends.Ending.TheVariants as ending
use Rattle.pml_control.specs.Ends.{next_of, Is, ending_of, IsSeen, unseen, StaysWithin, Known, AreEnds}
use Rattle.pml_control.proofs.Chains.{Says, Walk, Marking, walk_on, walk_stays, start_seen, marking, circles, marking_on, marked_all}

same_default : {X : Type 0} (xs : List X) (i : ℕ) (d e : X) → i < length xs → get_or xs i d ≡ get_or xs i e
same_default [] i d e h = absurd (omega arith)
same_default (x ∷ xs) zero d e h = refl
same_default (x ∷ xs) (suc i) d e h = same_default xs i d e (omega arith)

circles_seen : ending.Circles ≢ ending.Unseen
circles_seen e = cc

-- nothing is known at first
all_unseen : (n i : ℕ) → ending_of (replicate n ending.Unseen) i ≡ ending.Unseen
all_unseen zero i = refl
all_unseen (suc n) zero = refl
all_unseen (suc n) (suc i) = all_unseen n i

count_unseen : (n : ℕ) → sum_by unseen (replicate n ending.Unseen) ≡ n
count_unseen n = let h = sum_by-replicate unseen n ending.Unseen in omega (arith, h)

long_unseen : (n : ℕ) → length (replicate n ending.Unseen) ≡ n
long_unseen zero = refl
long_unseen (suc n) = let h = long_unseen n in omega (arith, h)

module _ (ns : List (Option ℕ)) where
  -- more is known than before, and of this chain too
  record Followed (old : List Ending) (start : ℕ) : Type 0 where
    es : List Ending
    known : Known ns es
    seen : IsSeen es start
    more : (i : ℕ) → IsSeen old i → IsSeen es i

  -- the rest of a path is marked
  mark : (fuel : ℕ) (old es : List Ending) (path : List ℕ) (k start end : ℕ) → length path ≤ k + fuel → Marking ns old es path k start end → Followed old start
  mark zero old es path k start end l m = record { es = es; known = marked_all ns old es path k start end m (omega arith); seen = m.begun; more = m.more }
  mark (suc fuel) old es path k start end l m =
      by_place (cases_lt k (length path)) (λ lt. mark fuel old (slice_set es (get_or path k 0) (ending.Stays end)) path (k + 1) start end (omega arith) (marking_on ns old es path k start end m lt))
    where
      by_place : (k < length path) ⊎ (length path ≤ k) → (k < length path → Followed old start) → Followed old start
      by_place (inl lt) again = again lt
      by_place (inr ge) again = record { es = es; known = marked_all ns old es path k start end m ge; seen = m.begun; more = m.more }

  -- a walk goes to a number of which more is known
  walk : (fuel : ℕ) (old es : List Ending) (path : List ℕ) (start here : ℕ) → StaysWithin ns → length ns < length path + fuel → Walk ns old es path start here → Followed old start
  walk zero old es path start here s l w = let r = w.room in absurd (omega arith)
  walk (suc fuel) old es path start here s l w =
      by_ending (ending_of es here) (same_default es here ending.Unseen (ending_of es here) inside)
      (λ there h e.
      walk fuel old (slice_set es here ending.Circles) (path ++ here ∷ []) start there s (omega (arith, l, length-append path (here ∷ [])))
      (walk_on ns old es path start here w ending.Unseen there (path ++ here ∷ []) e refl h s refl))
    where
      inside : here < length es
      inside = omega (arith, w.within, w.long)

      Onward : Type 0
      Onward = (there : ℕ) → next_of ns here ≡ Some there → ending.Unseen ≡ get_or es here ending.Unseen → Followed old start

      by_next : (o : Option ℕ) → next_of ns here ≡ o → ending.Unseen ≡ get_or es here ending.Unseen → Onward → Followed old start
      by_next None h e again =
          let es' = slice_set es here (ending.Stays here) in
          let stays = walk_stays ns old es path start here w ending.Unseen e refl h in
          mark (length path) old es' path 0 start here (omega arith) (marking ns old es' path start here stays (ending.Stays here) here (sym (get_or-set_at es here here (ending.Stays here) (ending.Stays here) refl inside)) refl)
      by_next (Some there) h e again = again there h e

      by_ending : (x : Ending) → x ≡ get_or es here x → Onward → Followed old start
      by_ending ending.Unseen e again = by_next (next_of ns here) refl e again
      by_ending (ending.Stays end) e again = mark (length path) old es path 0 start end (omega arith) (marking ns old es path start here w (ending.Stays end) end e refl)
      by_ending ending.Circles e again = record {
        es = es;
        known = circles ns old es path start here w ending.Circles e refl;
        seen = start_seen ns old es path start here w ending.Circles e circles_seen;
        more = w.more;
      }

  says_of : (n i : ℕ) (e : Ending) → Is ns n i e → Says ns n [] 0 i e
  says_of n i (ending.Stays t) h = h
  says_of n i ending.Circles h = inl h
  says_of n i ending.Unseen h = tt

  begin : (es : List Ending) (start : ℕ) → Known ns es → start < length ns → Walk ns es es [] start start
  begin es start k l = record {
    long = k.long;
    within = l;
    most = k.most;
    room = let h = k.room in omega arith;
    right = λ i. says_of k.most i (ending_of es i) (k.right i);
    comes = λ j h. absurd (omega arith);
    inside = λ j h. absurd (omega arith);
    more = λ i h. h;
    begun = inl refl;
  }

  record KnownTo (k : ℕ) : Type 0 where
    es : List Ending
    known : Known ns es
    seen : (i : ℕ) → i < k → IsSeen es i

  known_to : StaysWithin ns → (k : ℕ) → k ≤ length ns → KnownTo k
  known_to s zero l = record {
    es = replicate (length ns) ending.Unseen;
    known = record {
      most = 0;
      room = let h = count_unseen (length ns) in omega (arith, h);
      long = long_unseen (length ns);
      right = λ i. subst (λ (e : Ending). Is ns 0 i e) (sym (all_unseen (length ns) i)) tt;
    };
    seen = λ i h. absurd (omega arith);
  }
  known_to s (suc k) l =
      let p = known_to s k (omega arith) in
      let f = walk (length ns + 1) p.es p.es [] k k s (omega arith) (begin p.es k p.known (omega arith)) in
      record { es = f.es; known = f.known; seen = λ i h. by_place p f i h (cases_eq i k) }
    where
      by_place : (p : KnownTo k) (f : Followed p.es k) (i : ℕ) → i < suc k → (i ≡ k) ⊎ ((i ≡ k) → ⊥) → IsSeen f.es i
      by_place p f i h (inl same) = subst (λ (j : ℕ). IsSeen f.es j) (sym same) f.seen
      by_place p f i h (inr other) = f.more i (p.seen i (omega arith))

  more_steps : (n m i : ℕ) (e : Ending) → n ≤ m → Is ns n i e → Is ns m i e
  more_steps n m i (ending.Stays t) l h = record { count = h.count; within = let w = h.within in omega arith; leads = h.leads; ends = h.ends }
  more_steps n m i ending.Circles l h = h
  more_steps n m i ending.Unseen l h = h

  -- the end of each
  pub are_ends : StaysWithin ns → (es : List Ending) × AreEnds ns es
  are_ends s =
      let p = known_to s (length ns) (omega arith) in
      let k = p.known in (
        p.es,
        record {
          long = k.long;
          seen = p.seen;
          right = λ i. more_steps k.most (length ns) i (ending_of p.es i) (let h = k.room in omega arith) (k.right i);
        },
      )
