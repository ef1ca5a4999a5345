-- What a move is taken by.
use Rattle.std.specs.Prelude.{◌≡◌, ℕ, ◌<◌, Bool, List, length, take, Option, Some, Result, slice_get}
use Rattle.std.specs.Option.{option_copied}
use Rattle.diagnostics.specs.declared.stop.Stop.{Stop}
use Rattle.pml_program.specs.declared.program.Seq.{Seq}
use Rattle.promela_process.specs.Offers.{Offer as Offered}
use Rattle.pml_flow.specs.Graph.{maybe}
use Rattle.pml_flow.specs.Points.{point_at}
use Rattle.promela_run.specs.declared.moves.Pick.{Pick}
use Rattle.promela_run.specs.declared.moves.Move.{Move}
use Rattle.promela_run.specs.declared.moves.Move.TheVariants.{Death, Alone, Pair}
use Rattle.promela_run.specs.State.{State, picked}
use Rattle.run_step.specs.declared.take.Offer.{Offer}
use Rattle.promela_run.specs.Steps.{body_by, within_from, taken}
use Rattle.run_step.specs.Done.{Does}
use Rattle.run_state.specs.Live.{PastGrows}
use Rattle.promela_run.specs.World.{Running}

-- It is what a pick names, in the body in which its process stands.
pub record IsOffer (s : State) (k : Pick) (x : Offer) : Type 0 where
  pub offer : Offered
  pub is : picked s k ≡ Some offer
  pub there : k.process < length s.stands
  pub body : Seq
  pub stands : body_by s (slice_get s.stands k.process) ≡ Some body
  pub basic : option_copied x.basic ≡ offer.basic
  pub next : point_at body x.edge.now.target ≡ offer.next
  pub keeps : x.edge.now.keeps ≡ offer.keeps
  pub entry : maybe (point_at body) x.edge.now.entry ≡ offer.entry

-- Inside the body in which a process stands, the statements of a d_step from this node on are done, at most so many of them.
abbrev pub DoesWithin : ℕ → State → ℕ → Bool → Option ℕ → Result (Unit {0}) Stop → State → List ℕ → List ℕ → Type 0
DoesWithin most s p t entry result new before after = (b : Seq) → body_by s (slice_get s.stands p) ≡ Some b →
    Does (within_from most s p t (Some b) (maybe (point_at b) entry)) result new before after

-- the statement of the offer that is picked is done
abbrev pub DoesOffer : ℕ → State → Pick → Bool → Result (Unit {0}) Stop → State → List ℕ → List ℕ → Type 0
DoesOffer most s k t result new before after = (o : Offered) → picked s k ≡ Some o → Does (taken most s k t o o.basic) result new before after

-- where a process dies, there is one
abbrev pub CanDie : State → Move → Type 0
CanDie s (Death p) = 0 < length s.stands
CanDie s (Alone k t) = Unit {0}
CanDie s (Pair k j t) = Unit {0}

-- of the past a death takes what the youngest held; at any other move it grows at most
abbrev pub PastBy : Move → Running → Running → Type 0
PastBy (Death p) old new = new.past ≡ take (length old.state.stands) old.past
PastBy (Alone k t) old new = PastGrows old new
PastBy (Pair k j t) old new = PastGrows old new
