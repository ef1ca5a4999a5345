-- Two pieces that one call writes.
use Rattle.std.proofs.Common.{◌≡◌, ℕ, ◌+◌, ◌-◌, ◌<◌, List, [], ◌∷◌, ◌++◌, length, take, Bool, true, false, refl, sym, subst, add-zero, append-nil, arith, nat_lt}
use Rattle.std.proofs.lemmas.Bool.{ltb-true, ltb-false}
use Rattle.std.proofs.lemmas.List.{length-append, take-append-le}
use Rattle.std.proofs.Math.Seq.{take-append-add}
use Rattle.devices.specs.Holdings.{Holdings, Moved}
use Rattle.devices.specs.Doing.{WritesPart}
use Rattle.promela_session.specs.declared.ends.Broken.{Broken}
use Rattle.promela_session.specs.declared.ends.Broken.TheVariants as broken
use Rattle.promela_session.specs.Events.{Purpose, Put, Part, preceded}
use Rattle.promela_session.specs.Devices.{Breaks}
use Rattle.session.specs.Writes.{Leads, WriteBreaks}
use Rattle.session.proofs.Parts.{MovedBy-put, memory_breaks}

-- one piece, another, and what follows
abbrev pub both : {T : Type 0} → Purpose → Purpose → List ℕ → List ℕ → (List ℕ → Part T) → List ℕ → Part T
both first second x y rest left = preceded (Put first x ∷ []) (preceded (Put second y ∷ []) (rest left))

module _ {T : Type 0} {a b : Holdings} {n : ℕ} {first second : Purpose} (x y : List ℕ) (rest : List ℕ → Part T) where
  pub both_written : Moved a b [] (x ++ y) [] → Leads a b n n (both first second x y rest) rest
  both_written took = record {
    done = Put first x ∷ Put second y ∷ [];
    moved = record { moved = rw (append-nil y) took; count = sym (add-zero n); readable = refl };
    is = λ left now. refl;
  }

  cut_in_first : (k : ℕ) → k < length x → Moved a b [] (take k (x ++ y)) [] → Breaks a b n n broken.Out (both first second x y rest)
  cut_in_first k lt took = record {
    done = Put first (take k x) ∷ [];
    moved = MovedBy-put first (take k x) (subst (λ (bs : List ℕ). Moved a b [] bs []) (take-append-le k x y (omega arith)) took);
    begins = λ left now. ([], first, x, k, Put second y ∷ (rest left).events, lt, refl, refl);
  }

  cut_in_second : (k : ℕ) → k < length y → Moved a b [] (take (length x + k) (x ++ y)) [] → Breaks a b n n broken.Out (both first second x y rest)
  cut_in_second k lt took = record {
    done = Put first x ∷ Put second (take k y) ∷ [];
    moved = record {
      moved = rw (append-nil (take k y)) (subst (λ (bs : List ℕ). Moved a b [] bs []) (take-append-add x y k) took);
      count = sym (add-zero n);
      readable = refl;
    };
    begins = λ left now. (Put first x ∷ [], second, y, k, (rest left).events, lt, refl, refl);
  }

  both_cut : WritesPart a b (x ++ y) → Breaks a b n n broken.Out (both first second x y rest)
  both_cut w = by_case (nat_lt w.0 (length x)) refl
    where
      by_case : (is : Bool) → nat_lt w.0 (length x) ≡ is → Breaks a b n n broken.Out (both first second x y rest)
      by_case true e = cut_in_first w.0 (ltb-true w.0 (length x) e) w.2
      by_case false e =
          let ge = ltb-false w.0 (length x) e in
          let all = length-append x y in
          let lt = w.1 in
          let is : w.0 ≡ length x + (w.0 - length x) = omega arith in
          cut_in_second (w.0 - length x) (omega arith) (subst (λ (k : ℕ). Moved a b [] (take k (x ++ y)) []) is w.2)

  pub both_broken : (e : Broken) → WriteBreaks e a b (x ++ y) → Breaks a b n n e (both first second x y rest)
  both_broken broken.Memory w = memory_breaks _ w
  both_broken broken.Out w = both_cut w
  both_broken broken.Source w = absurd w
  both_broken broken.Record w = absurd w
