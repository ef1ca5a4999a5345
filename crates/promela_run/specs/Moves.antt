-- When a statement that gives no structure can be taken by itself, and the search for moves.
-- Hold it against chapter 7 of the book; the pages `condition`, `send`, `receive`, `run`, `timeout`, `else`, `atomic` and `chan`.
use Rattle.std.specs.Prelude.{ℕ, Bool, true, false, not, ◌||◌, if◌then◌else◌, nat_eq, nat_lt, length, List, [], ◌∷◌, ℤ, pos, int_lt, Option, Some, None, Result, Ok, Err, ◌+◌, ◌&&◌, ◌++◌, slice_get}
use Rattle.profile.specs.declared.TheConstants.{MOST_PROCESSES}
use Rattle.diagnostics.specs.declared.fault.Fault.{Fault}
use Rattle.diagnostics.specs.declared.fault.Fault.TheVariants.{NoSuchChannel, WrongNumberOfFields}
use Rattle.pml_tree.specs.declared.tree.Search.{Search}
use Rattle.pml_program.specs.declared.expr.Target.{Target}
use Rattle.pml_program.specs.declared.program.Action.{Action}
use Rattle.pml_program.specs.declared.program.Action.TheVariants as a
use Rattle.promela_process.specs.declared.sought.Sought.{Sought}
use Rattle.promela_process.specs.Numbers.{is_zero}
use Rattle.promela_process.specs.Expressions.{Reading, val, place, asked_by, is_match, ◌>>=◌, matched}
use Rattle.promela_process.specs.Store.{ChannelState, cut}
use Rattle.promela_run.specs.declared.live_channel.LiveChannel.{LiveChannel}
use Rattle.promela_run.specs.State.{channel_at, Stand, State, reads, body_of, levels, levels_in}
use Rattle.promela_run.specs.Statements.{values}
use Rattle.std.specs.Option.{option_map_or}
use Rattle.std.specs.List.{filter}
use Rattle.std.specs.Ordering.{int_eq}
use Rattle.pml_program.specs.declared.program.Basic.{Basic, Plain, DStep}
use Rattle.pml_program.specs.declared.program.Seq.{Seq}
use Rattle.promela_process.specs.Control.{Control}
use Rattle.promela_process.specs.Offers.{Offer}
use Rattle.promela_run.specs.declared.moves.Pick.{Pick}
use Rattle.promela_run.specs.declared.moves.Move.{Move}
use Rattle.promela_run.specs.declared.moves.Move.TheVariants.{Death, Alone, Pair}

-- ---- channels

-- a channel, by its number
pub record Named : Type 0 where
  pub number : ℤ
  pub contents : ChannelState

-- a channel, where it is there and its messages have so many fields
abbrev pub with_fields : ℕ → ℤ → Option ChannelState → Result Named Fault
with_fields count n None = Err NoSuchChannel
with_fields count n (Some c) =
    if nat_eq count (length c.types) then Ok (record { number = n; contents = c }) else Err WrongNumberOfFields

-- the channel that a variable names, then the number of fields
abbrev pub named : List LiveChannel → Reading → Target → ℕ → Result Named Fault
named cs r t count = place t r >>= λ at. with_fields count (r.holds at) (channel_at cs (r.holds at))

-- a channel without a capacity
abbrev pub is_rendezvous : ChannelState → Bool
is_rendezvous c = nat_eq c.capacity 0

-- ---- whether a statement can be taken by itself; a fault says that its condition has no value

-- A rendezvous is no move by itself, unless its fields have no value; in a d_step they are not asked. Any other send: the channel
-- is not full, or the first argument says that the message is lost there.
abbrev pub can_send : Bool → Bool → ChannelState → Result (List ℤ) Fault → Result Bool Fault
can_send lossy in_d_step c fields =
    if is_rendezvous c then (if in_d_step then Ok false else (fields >>= λ vs. Ok false)) else Ok (lossy || nat_lt (length c.messages) c.capacity)

-- a receive: the channel is not empty, then the pattern, then a message that matches
abbrev pub can_receive : Search → ChannelState → Result (List Sought) Fault → Result Bool Fault
can_receive search c wants =
    if is_rendezvous c || nat_eq (length c.messages) 0 then Ok false else (wants >>= λ ws. Ok (is_match search ws c.messages))

-- a statement without a structure can be taken by itself, or has a fault
abbrev pub ready : Bool → List LiveChannel → Reading → Bool → Action → Result Bool Fault
ready lossy cs r in_d_step (a.Holds e) = val e r >>= λ n. Ok (not (is_zero n))
ready lossy cs r in_d_step (a.Run q) = Ok (int_lt r.process_count (pos MOST_PROCESSES))
ready lossy cs r in_d_step (a.Send t order es) = named cs r t (length es) >>= λ c. can_send lossy in_d_step c.contents (values es r)
ready lossy cs r in_d_step (a.Receive t search _ ws) =
    named cs r t (length ws) >>= λ c. can_receive search c.contents (asked_by ws r)
ready lossy cs r in_d_step _ = Ok true

-- to take what has no value is the fault
abbrev pub or_fault : Result Bool Fault → Bool
or_fault (Ok b) = b
or_fault (Err f) = true

-- a statement can be taken; one with a fault can, since taking it tells the fault
abbrev pub can : Bool → List LiveChannel → Reading → Bool → Action → Bool
can lossy cs r in_d_step x = or_fault (ready lossy cs r in_d_step x)

-- ---- the search for moves

-- ---- lists

-- the second, where the first is empty
abbrev pub or_else : {A : Type 0} → List A → List A → List A
or_else [] ys = ys
or_else (x ∷ xs) ys = x ∷ xs

-- what each gives, in order, where they are numbered from i on
abbrev pub each : {A B : Type 0} → (ℕ → A → List B) → ℕ → List A → List B
each f i [] = []
each f i (x ∷ xs) = f i x ++ each f (i + 1) xs

-- what the last of them gives that gives any
abbrev pub last : {A B : Type 0} → (ℕ → A → List B) → ℕ → List A → List B
last f i [] = []
last f i (x ∷ xs) = or_else (last f (i + 1) xs) (f i x)

-- one thing, where this holds
abbrev pub only_if : {A : Type 0} → Bool → A → List A
only_if b x = if b then x ∷ [] else []

-- something is there
abbrev pub is_some : {A : Type 0} → List A → Bool
is_some [] = false
is_some (x ∷ xs) = true

-- ---- inside a d_step

-- the statement is `else`
abbrev pub is_else : Option Basic → Bool
is_else (Some (Plain a.Else)) = true
is_else x = false

-- whether a statement can be taken inside a d_step
abbrev pub can_inside : Bool → List LiveChannel → Reading → Option Basic → Bool
can_inside lossy cs r (Some (Plain x)) = can lossy cs r true x
can_inside lossy cs r _ = true

-- an offer that is no `else`, and that can be taken
abbrev pub is_choice : Bool → List LiveChannel → Reading → Offer → Bool
is_choice lossy cs r o = not (is_else o.basic) && can_inside lossy cs r o.basic

-- What can be taken at a point inside a d_step, where there is one level: an `else` only where nothing else can. The first is taken.
abbrev pub choices : Bool → List LiveChannel → Reading → List (List Offer) → List Offer
choices lossy cs r [] = []
choices lossy cs r (os ∷ ls) = or_else (filter (is_choice lossy cs r) os) (filter (λ o. is_else o.basic) os)

-- ---- an offer by itself

-- a d_step can be taken where its first point has a move; a goto and a break can
abbrev pub can_alone : Bool → List LiveChannel → Reading → Seq → Offer → Option Basic → Bool
can_alone lossy cs r b o (Some (Plain x)) = can lossy cs r false x
can_alone lossy cs r b o (Some (DStep d)) = is_some (choices lossy cs r (option_map_or (levels b) o.entry []))
can_alone lossy cs r b o _ = true

-- ---- the rendezvous

-- a message that is offered to receivers: the number of its channel, and its fields cut to their types
pub record Message : Type 0 where
  pub number : ℤ
  pub fields : List ℤ

-- the message that is sent over a rendezvous channel, its fields cut to their types; none, where either has a fault
abbrev pub message_on : Result Named Fault → Result (List ℤ) Fault → Option Message
message_on (Ok c) (Ok vs) =
    if is_rendezvous c.contents then Some (record { number = c.number; fields = cut c.contents.types vs }) else None
message_on _ _ = None

-- the message that a statement hands over, if it sends over a rendezvous channel
abbrev pub message : List LiveChannel → Reading → Option Basic → Option Message
message cs r (Some (Plain (a.Send t order es))) = message_on (named cs r t (length es)) (values es r)
message cs r _ = None

-- a pattern without value matches
abbrev pub does_match : Result (List Sought) Fault → List ℤ → Bool
does_match (Ok ws) xs = matched ws xs
does_match (Err f) xs = true

-- a receive from this channel asks for this message; it does not, where the channel has a fault
abbrev pub accepts_on : Result Named Fault → Result (List Sought) Fault → Message → Bool
accepts_on (Ok c) ws m = int_eq c.number m.number && does_match ws m.fields
accepts_on (Err f) ws m = false

-- a statement receives this message
abbrev pub accepts : List LiveChannel → Reading → Message → Option Basic → Bool
accepts cs r m (Some (Plain (a.Receive t search how ws))) = accepts_on (named cs r t (length ws)) (asked_by ws r) m
accepts cs r m _ = false

-- an offer by its process, its level and its place there
abbrev pub pick : ℕ → ℕ → ℕ → Pick
pick p l i = record { process = p; level = l; place = i }

-- the pairs of a send, under a value of `timeout`
module _ (s : State) (t : Bool) where
  -- the pairs of a message with the receives of a level of process j
  abbrev pub pairs_on : Pick → Message → ℕ → ℕ → List Offer → List Move
  pairs_on k m j l os = each (λ i o. only_if (accepts s.channels (reads s j t) m o.basic) (Pair k (pick j l i) t)) 0 os

  -- with those of its highest level that has a receive of it; not with the sender's own
  abbrev pub pairs_with : Pick → Message → ℕ → Stand → List Move
  pairs_with k m j y =
      if nat_eq j k.process then [] else last (pairs_on k m j) 0 (levels_in (body_of s.program y.sort) y.control)

  -- where it hands a message over: with each process in order
  abbrev pub pairs : Pick → Option Message → List Move
  pairs k None = []
  pairs k (Some m) = each (pairs_with k m) 0 s.stands

-- ---- the moves of a process

-- those of the offers of a level that are `else`
abbrev pub else_moves : ℕ → Bool → ℕ → List Offer → List Move
else_moves p t l os = each (λ i o. only_if (is_else o.basic) (Alone (pick p l i) t)) 0 os

-- those of process p, under a value of `timeout`
module _ (s : State) (p : ℕ) (t : Bool) where
  -- those of an offer that is no `else`
  abbrev pub moves_by : Seq → ℕ → ℕ → Offer → List Move
  moves_by b l i o =
      if can_alone s.lossy s.channels (reads s p t) b o o.basic then Alone (pick p l i) t ∷ []
      else pairs s t (pick p l i) (message s.channels (reads s p t) o.basic)

  -- the moves of the offers of a level that are no `else`
  abbrev pub plain_moves : Seq → ℕ → List Offer → List Move
  plain_moves b l os = each (λ i o. if is_else o.basic then [] else moves_by b l i o) 0 os

  -- those of a level: its `else` offers where no other offer gives any
  abbrev pub moves_on : Seq → ℕ → List Offer → List Move
  moves_on b l os = or_else (plain_moves b l os) (else_moves p t l os)

  -- At the closing brace the death, where no younger process is alive; else those of the highest level that has any.
  abbrev pub moves_of : Option Seq → Control → List Move
  moves_of b [] = only_if (nat_eq (p + 1) (length s.stands)) (Death p)
  moves_of None (f ∷ c) = []
  moves_of (Some b) (f ∷ c) = last (moves_on b) 0 (levels b (f ∷ c))

  -- where it stands so
  abbrev pub moves_at : Stand → List Move
  moves_at y = moves_of (body_of s.program y.sort) y.control

-- ---- the moves of a state

-- the moves of all processes in order, under this value of `timeout`
abbrev pub moves_under : State → Bool → List Move
moves_under s t = each (λ p y. moves_at s p t y) 0 s.stands

-- the moves of the process that has exclusive control, if one has it and is there, while `timeout` is false
abbrev pub moves_held : State → Option ℕ → List Move
moves_held s None = []
moves_held s (Some p) = option_map_or (moves_at s p false) (slice_get s.stands p) []

-- those of the holder of exclusive control, else those of all, else those under `timeout`
abbrev pub moves : State → List Move
moves s = or_else (moves_held s s.holder) (or_else (moves_under s false) (moves_under s true))
