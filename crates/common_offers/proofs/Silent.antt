-- Where one process has no moves on a level of offers that are the same for every process, no process has.
use Rattle.std.proofs.Common.{◌≡◌, ℕ, ◌+◌, Bool, true, false, if◌then◌else◌, List, [], ◌∷◌, ◌++◌, refl, sym, ap, ◌∙◌}
use Rattle.pml_program.specs.declared.program.Seq.{Seq}
use Rattle.promela_process.specs.Offers.{Offer}
use Rattle.promela_run.specs.declared.moves.Move.{Move}
use Rattle.promela_run.specs.declared.moves.Move.TheVariants.{Alone, Pair}
use Rattle.promela_run.specs.State.{State, reads}
use Rattle.promela_run.specs.Moves.{or_else, each, only_if, is_else, can_alone, message, accepts, pick, pairs, moves_by, plain_moves, else_moves}
use Rattle.common_offers.specs.Alike.{AreAlike}
use Rattle.common_offers.specs.Offers.{IsCommonOffer, AreCommonOffers, AllAreSilent, AllAreDeaf}

-- ---- lists that are empty

left_nil : (xs ys : List Move) → xs ++ ys ≡ [] → xs ≡ []
left_nil [] ys e = refl
left_nil (x ∷ xs) ys e = cc

right_nil : (xs ys : List Move) → xs ++ ys ≡ [] → ys ≡ []
right_nil [] ys e = e
right_nil (x ∷ xs) ys e = cc

first_nil : (xs ys : List Move) → or_else xs ys ≡ [] → xs ≡ []
first_nil [] ys e = refl
first_nil (x ∷ xs) ys e = e

second_nil : (xs ys : List Move) → or_else xs ys ≡ [] → ys ≡ []
second_nil [] ys e = e
second_nil (x ∷ xs) ys e = cc

each_nil : (f g : ℕ → Offer → List Move) → ((i : ℕ) (o : Offer) → IsCommonOffer o.basic → f i o ≡ [] → g i o ≡ []) → (i : ℕ) (os : List Offer) → AreCommonOffers os → each f i os ≡ [] → each g i os ≡ []
each_nil f g so i [] h e = refl
each_nil f g so i (o ∷ os) h e =
    ap (λ xs. xs ++ each g (i + 1) os) (so i o h.0 (left_nil (f i o) (each f (i + 1) os) e))
    ∙ each_nil f g so (i + 1) os h.1 (right_nil (f i o) (each f (i + 1) os) e)

only_nil : (b c : Bool) (x y : Move) → b ≡ c → only_if b x ≡ [] → only_if c y ≡ []
only_nil true c x y k e = cc
only_nil false c x y k e = ap (λ d. only_if d y) (sym k)

-- ---- what two processes read in one state

pub alike : (s : State) (p m : ℕ) (t : Bool) → AreAlike (reads s p t) (reads s m t)
alike s p m t = record { frame = refl; cells = λ f v. refl; holds = λ at. refl; process_count = refl; timeout = refl; channel = λ n. refl }

-- ---- a level

module _ (s : State) (p m : ℕ) (t : Bool) (b : Seq) (l : ℕ) where
  offer_nil : (i : ℕ) (o : Offer) → IsCommonOffer o.basic → moves_by s p t b l i o ≡ [] → moves_by s m t b l i o ≡ []
  offer_nil i o h e = by (can_alone s.lossy s.channels (reads s p t) b o o.basic) refl e
    where
      by : (c : Bool) → can_alone s.lossy s.channels (reads s p t) b o o.basic ≡ c → (if c then Alone (pick p l i) t ∷ [] else pairs s t (pick p l i) (message s.channels (reads s p t) o.basic)) ≡ []
          → moves_by s m t b l i o ≡ []
      by true k e = cc
      by false k e =
          ap (λ (c : Bool). if c then Alone (pick m l i) t ∷ [] else pairs s t (pick m l i) (message s.channels (reads s m t) o.basic))
          (sym (h.alone s.lossy s.channels (reads s p t) (reads s m t) b o (alike s p m t)) ∙ k)
          ∙ ap (pairs s t (pick m l i)) (h.silent s.channels (reads s m t))

  plain_nil : (i : ℕ) (o : Offer) → IsCommonOffer o.basic → (if is_else o.basic then [] else moves_by s p t b l i o) ≡ [] → (if is_else o.basic then [] else moves_by s m t b l i o) ≡ []
  plain_nil i o h e = by (is_else o.basic) e
    where
      by : (c : Bool) → (if c then [] else moves_by s p t b l i o) ≡ [] → (if c then [] else moves_by s m t b l i o) ≡ []
      by true e = refl
      by false e = offer_nil i o h e

  else_nil : (i : ℕ) (o : Offer) → IsCommonOffer o.basic → only_if (is_else o.basic) (Alone (pick p l i) t) ≡ [] → only_if (is_else o.basic) (Alone (pick m l i) t) ≡ []
  else_nil i o h e = only_nil (is_else o.basic) (is_else o.basic) (Alone (pick p l i) t) (Alone (pick m l i) t) refl e

pub all_are_silent : AllAreSilent
all_are_silent s p m t b l os h e =
    ap (λ xs. or_else xs (else_moves m t l os))
    (each_nil (λ i o. if is_else o.basic then [] else moves_by s p t b l i o) (λ i o. if is_else o.basic then [] else moves_by s m t b l i o)
    (plain_nil s p m t b l) 0 os h (first_nil (plain_moves s p t b l os) (else_moves p t l os) e))
    ∙ each_nil (λ i o. only_if (is_else o.basic) (Alone (pick p l i) t)) (λ i o. only_if (is_else o.basic) (Alone (pick m l i) t))
    (else_nil s p m t b l) 0 os h (second_nil (plain_moves s p t b l os) (else_moves p t l os) e)

pub all_are_deaf : AllAreDeaf
all_are_deaf s t k i m p j l n os h e =
    each_nil (λ a o. only_if (accepts s.channels (reads s p t) m o.basic) (Pair k (pick p l a) t)) (λ a o. only_if (accepts s.channels (reads s j t) m o.basic) (Pair i (pick j n a) t))
    (λ a o c. only_nil (accepts s.channels (reads s p t) m o.basic) (accepts s.channels (reads s j t) m o.basic) (Pair k (pick p l a) t) (Pair i (pick j n a) t)
    (c.accepts s.channels (reads s p t) (reads s j t) m (alike s p j t))) 0 os h e
