-- What is so where a reason is given.
use Rattle.std.specs.Prelude.{◌≡◌, ◌≢◌, ◌<◌, ◌≤◌, ◌+◌, ℕ, Bool, true, false, length, List, [], pos, Option, Some, None, Ok, slice_get}
use Rattle.std.specs.List.{Contains}
use Rattle.profile.specs.declared.TheConstants.{MOST_PROCESSES}
use Rattle.pml_tree.specs.declared.tree.Search.{Search}
use Rattle.pml_tree.specs.declared.tree.Removal.{Removal}
use Rattle.pml_tree.specs.declared.tree.SendOrder.{SendOrder}
use Rattle.pml_program.specs.declared.expr.Expr.{Expr}
use Rattle.pml_program.specs.declared.expr.Target.{Target}
use Rattle.pml_program.specs.declared.expr.Want.{Want}
use Rattle.pml_program.specs.declared.program.Action.TheVariants as a
use Rattle.pml_program.specs.declared.program.Run.{Run}
use Rattle.pml_program.specs.declared.program.Seq.{Seq}
use Rattle.pml_program.specs.declared.program.Basic.{Plain, DStep}
use Rattle.promela_process.specs.Offers.{Offer}
use Rattle.promela_process.specs.declared.sought.Sought.{Sought}
use Rattle.promela_process.specs.Expressions.{val, asked_by, is_match}
use Rattle.promela_run.specs.declared.moves.Pick.{Pick}
use Rattle.promela_run.specs.declared.moves.Move.{Move}
use Rattle.promela_run.specs.declared.moves.Move.TheVariants.{Death, Alone, Pair}
use Rattle.run_search.specs.Laws.{taker}
use Rattle.promela_run.specs.Moves.{Named, named, is_rendezvous, Message, message, accepts, choices, is_some, moves_held, moves}
use Rattle.promela_run.specs.State.{picked, Stand, State, reads, body_of}
use Rattle.run_search.specs.Lifted.{levels_from}
use Rattle.view_waits.specs.declared.because.Because.{Because}
use Rattle.view_waits.specs.declared.because.Because.TheVariants as why
use Rattle.view_waits.specs.declared.waits.Wait.{Wait}
use Rattle.view_waits.specs.Waits.{last_timeout}

-- no other process offers a receive that takes this message, whatever its level
abbrev pub NobodyReceives : State → Bool → ℕ → Message → Type 0
NobodyReceives s t p m =
    (j : Pick) (o : Offer) → picked s j ≡ Some o → j.process ≢ p → accepts s.channels (reads s j.process t) m o.basic ≡ false

-- the level of the offer with which a move begins
abbrev pub level_of : Move → ℕ
level_of (Death p) = 0
level_of (Alone k t) = k.level
level_of (Pair k j t) = k.level

-- the process of a pick has a move of a higher level, that of an escape
abbrev pub EscapesFrom : State → Pick → Type 0
EscapesFrom s k = (m : Move) × Contains (moves s) m × (taker m ≡ k.process) × (k.level < level_of m)

-- no other process offers a message that this offer takes, unless it can escape from where it does
abbrev pub NobodySends : State → Bool → Pick → Offer → Type 0
NobodySends s t j o = (k : Pick) (q : Offer) (m : Message) → picked s k ≡ Some q → k.process ≢ j.process
    → message s.channels (reads s k.process t) q.basic ≡ Some m → accepts s.channels (reads s j.process t) m o.basic ≡ true → EscapesFrom s k

-- the channel that a statement of process p names
abbrev pub Names : State → Bool → ℕ → Target → ℕ → Named → Type 0
Names s t p x count c = named s.channels (reads s p t) x count ≡ Ok c

-- Why an offer, picked so, is no move under this `timeout`.
pub data IsWhy (s : State) (t : Bool) (k : Pick) (o : Offer) : Because → Type 0 where
  -- its condition is worth 0
  is_false : {e : Expr} → o.basic ≡ Some (Plain (a.Holds e)) → val e (reads s k.process t) ≡ Ok (pos 0) → IsWhy s t k o why.False
  -- it sends to a channel that keeps messages, has as many as it can, and none is lost
  is_full : {x : Target} {order : SendOrder} {es : List Expr} {c : Named} → o.basic ≡ Some (Plain (a.Send x order es))
      → Names s t k.process x (length es) c → is_rendezvous c.contents ≡ false → c.contents.capacity ≤ length c.contents.messages
      → s.lossy ≡ false → IsWhy s t k o why.Full
  -- it receives from a channel that keeps messages and has none
  is_empty : {x : Target} {search : Search} {how : Removal} {ws : List Want} {c : Named} → o.basic ≡ Some (Plain (a.Receive x search how ws))
      → Names s t k.process x (length ws) c → is_rendezvous c.contents ≡ false → c.contents.messages ≡ [] → IsWhy s t k o why.Empty
  -- it receives from a channel that has messages, and none that may be taken is what it asks for
  no_match : {x : Target} {search : Search} {how : Removal} {ws : List Want} {c : Named} {asked : List Sought}
      → o.basic ≡ Some (Plain (a.Receive x search how ws)) → Names s t k.process x (length ws) c → is_rendezvous c.contents ≡ false
      → c.contents.messages ≢ [] → asked_by ws (reads s k.process t) ≡ Ok asked → is_match search asked c.contents.messages ≡ false
      → IsWhy s t k o why.NoMatch
  -- it offers a message at a rendezvous, and nobody receives it
  no_receiver : {m : Message} → message s.channels (reads s k.process t) o.basic ≡ Some m → NobodyReceives s t k.process m
      → IsWhy s t k o why.NoReceiver
  -- it receives at a rendezvous, and nobody sends to it
  no_sender : {x : Target} {search : Search} {how : Removal} {ws : List Want} {c : Named} → o.basic ≡ Some (Plain (a.Receive x search how ws))
      → Names s t k.process x (length ws) c → is_rendezvous c.contents ≡ true → NobodySends s t k o → IsWhy s t k o why.NoSender
  -- it runs a process, and as many live as may
  too_many : {q : Run} → o.basic ≡ Some (Plain (a.Run q)) → MOST_PROCESSES ≤ length s.stands → IsWhy s t k o why.Processes
  -- it is a d_step, and nothing can be taken first in it
  no_first : {d : Seq} {y : Stand} {b : Seq} → o.basic ≡ Some (DStep d) → slice_get s.stands k.process ≡ Some y → body_of s.program y.sort ≡ Some b
      → choices s.lossy s.channels (reads s k.process t) (levels_from b o.entry) ≡ [] → IsWhy s t k o why.DStep

-- Why a process has no move, whatever it offers: another has exclusive control and a move, or it is at its closing brace and a younger lives.
pub data IsWhyAll (s : State) (p : ℕ) : Because → Type 0 where
  held : {h : ℕ} → s.holder ≡ Some h → h ≢ p → is_some (moves_held s (Some h)) ≡ true → IsWhyAll s p (why.Held h)
  younger : {q : ℕ} {y : Stand} → slice_get s.stands p ≡ Some y → y.control ≡ [] → q + 1 ≡ length s.stands → p < q → IsWhyAll s p (why.Younger q)

-- A reason of a process: of one of its offers, under the `timeout` of the last search; or of all.
abbrev pub IsReason : State → ℕ → Option Pick → Because → Bool → Type 0
IsReason s p None b t = IsWhyAll s p b
IsReason s p (Some k) b t = (k.process ≡ p) × (t ≡ last_timeout s) × (o : Offer) × (picked s k ≡ Some o) × IsWhy s t k o b

abbrev pub IsTrueOf : State → ℕ → Wait → Type 0
IsTrueOf s p w = IsReason s p w.pick w.because w.timeout
