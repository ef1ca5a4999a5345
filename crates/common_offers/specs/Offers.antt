-- Offers that every process can take or none.
use Rattle.std.specs.Prelude.{◌≡◌, ℕ, Bool, List, [], ◌∷◌, map, Option, None}
use Rattle.pml_program.specs.declared.program.Basic.{Basic}
use Rattle.pml_program.specs.declared.program.Seq.{Seq}
use Rattle.promela_process.specs.Expressions.{Reading}
use Rattle.promela_process.specs.Offers.{Offer}
use Rattle.promela_run.specs.declared.live_channel.LiveChannel.{LiveChannel}
use Rattle.promela_run.specs.declared.moves.Pick.{Pick}
use Rattle.promela_run.specs.declared.moves.Move.{Move}
use Rattle.promela_run.specs.declared.moves.Move.TheVariants.{Death, Alone, Pair}
use Rattle.promela_run.specs.State.{State}
use Rattle.promela_run.specs.Moves.{Message, can_alone, message, accepts, moves_on, pairs_on}
use Rattle.common_offers.specs.Alike.{AreAlike}

-- Every process can take a statement by itself, or none can; each receives the same messages by it, and hands none over.
pub record IsCommonOffer (x : Option Basic) : Type 0 where
  pub alone : (lossy : Bool) (cs : List LiveChannel) (r q : Reading) (b : Seq) (o : Offer) → AreAlike r q → can_alone lossy cs r b o x ≡ can_alone lossy cs q b o x
  pub accepts : (cs : List LiveChannel) (r q : Reading) (m : Message) → AreAlike r q → accepts cs r m x ≡ accepts cs q m x
  pub silent : (cs : List LiveChannel) (r : Reading) → message cs r x ≡ None

-- each of these is such an offer
abbrev pub AreCommonOffers : List Offer → Type 0
AreCommonOffers [] = Unit {0}
AreCommonOffers (o ∷ os) = IsCommonOffer o.basic × AreCommonOffers os

-- where one process has no moves on a level of such offers, no process has
abbrev pub AllAreSilent : Type 0
AllAreSilent =
    (s : State) (p m : ℕ) (t : Bool) (b : Seq) (l : ℕ) (os : List Offer) → AreCommonOffers os → moves_on s p t b l os ≡ [] → moves_on s m t b l os ≡ []

-- a move that an offer gives by itself, by the same offer of process m
abbrev pub by_process : ℕ → Move → Move
by_process m (Death p) = Death p
by_process m (Alone k t) = Alone (record { process = m; level = k.level; place = k.place }) t
by_process m (Pair k j t) = Pair k j t

-- each process has the moves of another on a level of such offers, by its own
abbrev pub AllMoveAlike : Type 0
AllMoveAlike =
    (s : State) (p m : ℕ) (t : Bool) (b : Seq) (l : ℕ) (os : List Offer) → AreCommonOffers os → moves_on s m t b l os ≡ map (by_process m) (moves_on s p t b l os)

-- where one process does not receive a message on a level of such offers, no process does
abbrev pub AllAreDeaf : Type 0
AllAreDeaf =
    (s : State) (t : Bool) (k i : Pick) (m : Message) (p j l n : ℕ) (os : List Offer) → AreCommonOffers os → pairs_on s t k m p l os ≡ [] → pairs_on s t i m j n os ≡ []
