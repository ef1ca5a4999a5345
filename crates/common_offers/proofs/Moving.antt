-- On a level of offers that are the same for every process each has the moves of another, by its own.
use Rattle.std.proofs.Common.{◌≡◌, ℕ, ◌+◌, Bool, true, false, if◌then◌else◌, List, [], ◌∷◌, ◌++◌, map, refl, sym, ap, ◌∙◌}
use Rattle.pml_program.specs.declared.program.Seq.{Seq}
use Rattle.promela_process.specs.Offers.{Offer}
use Rattle.promela_run.specs.declared.moves.Move.{Move}
use Rattle.promela_run.specs.declared.moves.Move.TheVariants.{Alone}
use Rattle.promela_run.specs.State.{State, reads}
use Rattle.promela_run.specs.Moves.{or_else, each, only_if, is_else, can_alone, message, pick, pairs, moves_by, plain_moves, else_moves}
use Rattle.common_offers.specs.Offers.{IsCommonOffer, AreCommonOffers, by_process, AllMoveAlike}
use Rattle.common_offers.proofs.Silent.{alike}

-- ---- lists

map_joined : (h : Move → Move) (xs ys : List Move) → map h (xs ++ ys) ≡ map h xs ++ map h ys
map_joined h [] ys = refl
map_joined h (x ∷ xs) ys = ap (λ zs. h x ∷ zs) (map_joined h xs ys)

map_or_else : (h : Move → Move) (xs ys : List Move) → map h (or_else xs ys) ≡ or_else (map h xs) (map h ys)
map_or_else h [] ys = refl
map_or_else h (x ∷ xs) ys = refl

each_alike : (h : Move → Move) (f g : ℕ → Offer → List Move) → ((i : ℕ) (o : Offer) → IsCommonOffer o.basic → g i o ≡ map h (f i o)) → (i : ℕ) (os : List Offer) → AreCommonOffers os → each g i os ≡ map h (each f i os)
each_alike h f g so i [] c = refl
each_alike h f g so i (o ∷ os) c =
    ap (λ xs. xs ++ each g (i + 1) os) (so i o c.0)
    ∙ (ap (λ xs. map h (f i o) ++ xs) (each_alike h f g so (i + 1) os c.1) ∙ sym (map_joined h (f i o) (each f (i + 1) os)))

-- ---- a level

module _ (s : State) (p m : ℕ) (t : Bool) (b : Seq) (l : ℕ) where
  offer_alike : (i : ℕ) (o : Offer) → IsCommonOffer o.basic → moves_by s m t b l i o ≡ map (by_process m) (moves_by s p t b l i o)
  offer_alike i o h =
      ap (λ (c : Bool). if c then Alone (pick m l i) t ∷ [] else pairs s t (pick m l i) (message s.channels (reads s m t) o.basic))
      (h.alone s.lossy s.channels (reads s m t) (reads s p t) b o (alike s m p t))
      ∙ by (can_alone s.lossy s.channels (reads s p t) b o o.basic)
    where
      by : (c : Bool) → (if c then Alone (pick m l i) t ∷ [] else pairs s t (pick m l i) (message s.channels (reads s m t) o.basic))
          ≡ map (by_process m) (if c then Alone (pick p l i) t ∷ [] else pairs s t (pick p l i) (message s.channels (reads s p t) o.basic))
      by true = refl
      by false =
          ap (pairs s t (pick m l i)) (h.silent s.channels (reads s m t))
          ∙ sym (ap (λ x. map (by_process m) (pairs s t (pick p l i) x)) (h.silent s.channels (reads s p t)))

  plain_alike : (i : ℕ) (o : Offer) → IsCommonOffer o.basic → (if is_else o.basic then [] else moves_by s m t b l i o) ≡ map (by_process m) (if is_else o.basic then [] else moves_by s p t b l i o)
  plain_alike i o h = by (is_else o.basic)
    where
      by : (c : Bool) → (if c then [] else moves_by s m t b l i o) ≡ map (by_process m) (if c then [] else moves_by s p t b l i o)
      by true = refl
      by false = offer_alike i o h

  else_alike : (i : ℕ) (o : Offer) → IsCommonOffer o.basic → only_if (is_else o.basic) (Alone (pick m l i) t) ≡ map (by_process m) (only_if (is_else o.basic) (Alone (pick p l i) t))
  else_alike i o h = by (is_else o.basic)
    where
      by : (c : Bool) → only_if c (Alone (pick m l i) t) ≡ map (by_process m) (only_if c (Alone (pick p l i) t))
      by true = refl
      by false = refl

pub all_move_alike : AllMoveAlike
all_move_alike s p m t b l os h =
    ap (λ xs. or_else xs (else_moves m t l os))
    (each_alike (by_process m) (λ i o. if is_else o.basic then [] else moves_by s p t b l i o) (λ i o. if is_else o.basic then [] else moves_by s m t b l i o) (plain_alike s p m t b l) 0 os h)
    ∙ (ap (λ xs. or_else (map (by_process m) (plain_moves s p t b l os)) xs)
    (each_alike (by_process m) (λ i o. only_if (is_else o.basic) (Alone (pick p l i) t)) (λ i o. only_if (is_else o.basic) (Alone (pick m l i) t)) (else_alike s p m t b l) 0 os h)
    ∙ sym (map_or_else (by_process m) (plain_moves s p t b l os) (else_moves p t l os)))
