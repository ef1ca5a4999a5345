-- What a search asks of what it is lent.
use Rattle.std.specs.Prelude.{Bool, true, List, [], ◌∷◌, Option, Some, None, ◌≡◌}
use Rattle.pml_program.specs.declared.program.Action.{Action}
use Rattle.promela_process.specs.Expressions.{Reading}
use Rattle.promela_run.specs.declared.live_channel.LiveChannel.{LiveChannel}
use Rattle.pml_value.specs.declared.view.View.{View}
use Rattle.pml_value.specs.Seen.{seen}
use Rattle.promela_run.specs.Moves.{can, can_alone, Message, message, moves_by}
use Rattle.pml_program.specs.declared.program.Basic.{Basic}
use Rattle.pml_program.specs.declared.program.Seq.{Seq}
use Rattle.promela_process.specs.Offers.{Offer}
use Rattle.promela_run.specs.declared.moves.Pick.{Pick}
use Rattle.promela_run.specs.declared.moves.Move.{Move}
use Rattle.promela_run.specs.State.{State}

-- by what a view has
abbrev pub can_by : Bool → Bool → View → Action → Bool
can_by lossy in_d_step v x = can lossy v.channels.now (seen v) in_d_step x

-- the first, if there is one
abbrev pub first : {A : Type 0} → List A → Option A
first [] = None
first (x ∷ xs) = Some x

-- a statement that can be taken whatever the state is
abbrev pub NeedsNothing : Option Basic → Type 0
NeedsNothing x = (lossy : Bool) (cs : List LiveChannel) (r : Reading) (b : Seq) (o : Offer) → can_alone lossy cs r b o x ≡ true

-- by what a view has
abbrev pub message_in : View → Option Basic → Option Message
message_in v x = message v.channels.now (seen v) x

-- a statement that sends nothing over a rendezvous, whatever the state is
abbrev pub IsSilent : Option Basic → Type 0
IsSilent x = (cs : List LiveChannel) (r : Reading) → message cs r x ≡ None

-- of the offer that is picked
abbrev pub moves_for : State → Bool → Seq → Pick → Offer → List Move
moves_for s t b k o = moves_by s k.process t b k.level k.place o
