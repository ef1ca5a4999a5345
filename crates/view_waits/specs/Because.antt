-- Which reason is given for an offer that is no move.
use Rattle.std.specs.Prelude.{ℕ, codes, nat_eq, if◌then◌else◌, length, List, Option, Some, None, Result, Ok, Err}
use Rattle.diagnostics.specs.declared.fault.Fault.{Fault}
use Rattle.pml_program.specs.declared.program.Action.{Action}
use Rattle.pml_program.specs.declared.program.Action.TheVariants as a
use Rattle.pml_program.specs.declared.program.Basic.{Basic, Plain, Goto, Break, If', Do', Block, Atomic, DStep, Unless}
use Rattle.promela_process.specs.Expressions.{Reading}
use Rattle.promela_process.specs.Store.{ChannelState}
use Rattle.promela_run.specs.declared.live_channel.LiveChannel.{LiveChannel}
use Rattle.promela_run.specs.Moves.{Named, named, is_rendezvous}
use Rattle.view_waits.specs.declared.because.Because.{Because}
use Rattle.view_waits.specs.declared.because.Because.TheVariants as why

-- of a send: nobody receives at a rendezvous, and any other channel is full
abbrev pub at_send : ChannelState → Because
at_send c = if is_rendezvous c then why.NoReceiver else why.Full

abbrev pub of_send : Result Named Fault → Because
of_send (Ok n) = at_send n.contents
of_send (Err f) = why.Escape

-- of a receive: nobody sends at a rendezvous, and any other channel is empty, or no message matches
abbrev pub at_receive : ChannelState → Because
at_receive c = if is_rendezvous c then why.NoSender else (if nat_eq (length c.messages) 0 then why.Empty else why.NoMatch)

abbrev pub of_receive : Result Named Fault → Because
of_receive (Ok n) = at_receive n.contents
of_receive (Err f) = why.Escape

-- of a statement that gives no structure
abbrev pub of_action : List LiveChannel → Reading → Action → Because
of_action cs r (a.Holds e) = why.False
of_action cs r (a.Run q) = why.Processes
of_action cs r (a.Send x order es) = of_send (named cs r x (length es))
of_action cs r (a.Receive x search how ws) = of_receive (named cs r x (length ws))
of_action cs r a.Else = why.Else
of_action cs r (a.Assign x e) = why.Escape
of_action cs r (a.AssignRun x q) = why.Escape
of_action cs r (a.Increment x) = why.Escape
of_action cs r (a.Decrement x) = why.Escape
of_action cs r (a.Printf text es) = why.Escape
of_action cs r (a.Printm e) = why.Escape
of_action cs r (a.Assert e) = why.Escape

-- of a statement
abbrev pub because : List LiveChannel → Reading → Option Basic → Because
because cs r (Some (Plain x)) = of_action cs r x
because cs r (Some (DStep d)) = why.DStep
because cs r (Some (Goto l)) = why.Escape
because cs r (Some Break) = why.Escape
because cs r (Some (If' m row)) = why.Escape
because cs r (Some (Do' m row)) = why.Escape
because cs r (Some (Block s)) = why.Escape
because cs r (Some (Atomic s)) = why.Escape
because cs r (Some (Unless s e)) = why.Escape
because cs r None = why.Escape

-- the name of a reason
abbrev pub code : Because → List ℕ
code (why.Held p) = codes "held"
code (why.Younger p) = codes "younger"
code why.False = codes "false"
code why.Full = codes "full"
code why.Empty = codes "empty"
code why.NoMatch = codes "no match"
code why.NoReceiver = codes "no receiver"
code why.NoSender = codes "no sender"
code why.Processes = codes "processes"
code why.DStep = codes "d_step"
code why.Else = codes "else"
code why.Escape = codes "escape"
