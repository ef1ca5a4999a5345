-- The text of a move stays while no process but younger ones come.
use Rattle.std.proofs.Common.{◌≡◌, ℕ, zero, suc, ◌<◌, List, [], ◌∷◌, ◌++◌, length, Option, Some, None, refl, sym, ap, ◌∙◌, arith, codes}
use Rattle.std.specs.Prelude.{slice_get}
use Rattle.pml_program.specs.declared.program.Program.{Program}
use Rattle.promela_process.specs.Offers.{Offer}
use Rattle.promela_run.specs.declared.moves.Pick.{Pick}
use Rattle.promela_run.specs.declared.moves.Move.{Move}
use Rattle.promela_run.specs.declared.moves.Move.TheVariants.{Death, Alone, Pair}
use Rattle.promela_run.specs.State.{Stand, State, body_of, levels_in}
use Rattle.promela_run.specs.World.{offer_with_heading, death_text, pick_text, move_text}
use Rattle.run_search.specs.Lifted.{offer_on, offer_at, sort_of}
use Rattle.run_texts.specs.Staying.{IsWithin}

get_left : {X : Type 0} (xs ys : List X) (k : ℕ) → k < length xs → slice_get (xs ++ ys) k ≡ slice_get xs k
get_left [] ys k h = absurd (omega (arith, h))
get_left (x ∷ xs) ys zero h = refl
get_left (x ∷ xs) ys (suc k) h = get_left xs ys k (omega (arith, h))

-- by the program alone, and where the process stands
abbrev offer_by : Program → Pick → Option Stand → Option Offer
offer_by pr k None = None
offer_by pr k (Some y) = offer_on (slice_get (levels_in (body_of pr y.sort) y.control) k.level) k.place

offer_is : (s : State) (k : Pick) (o : Option Stand) → offer_at s k o ≡ offer_by s.program k o
offer_is s k None = refl
offer_is s k (Some y) = refl

abbrev pick_by : Program → Pick → Option Stand → List ℕ
pick_by pr k o = offer_with_heading k.process (sort_of pr o) (offer_by pr k o)

abbrev death_by : Program → ℕ → Option Stand → List ℕ
death_by pr p o = death_text p (sort_of pr o)

pick_is : (s : State) (k : Pick) → pick_text s k ≡ pick_by s.program k (slice_get s.stands k.process)
pick_is s k =
    let o : Option Stand = slice_get s.stands k.process in
    ap (offer_with_heading k.process (sort_of s.program o)) (offer_is s k o)

-- an offer has its text wherever its process stands as it does
pub same_text : (s t : State) (k : Pick) → t.program ≡ s.program → slice_get t.stands k.process ≡ slice_get s.stands k.process → pick_text t k ≡ pick_text s k
same_text s t k same stand =
    pick_is t k ∙ ap (λ (pr : Program). pick_by pr k (slice_get t.stands k.process)) same
    ∙ ap (pick_by s.program k) stand ∙ sym (pick_is s k)

module _ (s t : State) (more : List Stand) (same : t.program ≡ s.program) (more_is : t.stands ≡ s.stands ++ more) where
  stand_stays : (p : ℕ) → p < length s.stands → slice_get t.stands p ≡ slice_get s.stands p
  stand_stays p h = ap (λ (ys : List Stand). slice_get ys p) more_is ∙ get_left s.stands more p h

  pick_stays : (k : Pick) → k.process < length s.stands → pick_text t k ≡ pick_text s k
  pick_stays k h = same_text s t k same (stand_stays k.process h)

  pub text_stays : (m : Move) → IsWithin (length s.stands) m → move_text t m ≡ move_text s m
  text_stays (Death p) h =
      ap (λ (pr : Program). death_by pr p (slice_get t.stands p)) same ∙ ap (death_by s.program p) (stand_stays p h)
  text_stays (Alone k u) h = pick_stays k h
  text_stays (Pair k j u) h =
      ap (λ xs. xs ++ (codes " -> " ++ pick_text t j)) (pick_stays k h.0)
      ∙ ap (λ xs. pick_text s k ++ (codes " -> " ++ xs)) (pick_stays j h.1)
