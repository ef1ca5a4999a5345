-- The reason that is given for an offer that is no move is so.
use Rattle.std.proofs.Common.{◌≡◌, ◌∙◌, ap, sym, refl, ℕ, ◌≤◌, Bool, true, false, not, ◌||◌, nat_eq, nat_lt, if◌then◌else◌, List, [], ◌∷◌, length, Option, Some, None, Result, Ok, Err, arith}
use Rattle.std.specs.Prelude.{slice_get, ℤ, pos, int_lt}
use Rattle.std.specs.Ordering.{int_eq}
use Rattle.std.proofs.lemmas.Bool.{true≢false, eqb-true, ltb-false}
use Rattle.std.proofs.lemmas.Bool.Decides.{Decides-int_eq}
use Rattle.std.proofs.lemmas.Option.{none-some}
use Rattle.profile.specs.declared.TheConstants.{MOST_PROCESSES}
use Rattle.diagnostics.specs.declared.fault.Fault.{Fault}
use Rattle.pml_tree.specs.declared.tree.Search.{Search}
use Rattle.pml_tree.specs.declared.tree.Removal.{Removal}
use Rattle.pml_tree.specs.declared.tree.SendOrder.{SendOrder}
use Rattle.pml_program.specs.declared.expr.Expr.{Expr}
use Rattle.pml_program.specs.declared.expr.Target.{Target}
use Rattle.pml_program.specs.declared.expr.Want.{Want}
use Rattle.pml_program.specs.declared.program.Action.{Action}
use Rattle.pml_program.specs.declared.program.Action.TheVariants as a
use Rattle.pml_program.specs.declared.program.Seq.{Seq}
use Rattle.pml_program.specs.declared.program.Basic.{Basic, Plain, Goto, Break, If', Do', Block, Atomic, DStep, Unless}
use Rattle.promela_process.specs.Offers.{Offer}
use Rattle.promela_process.specs.declared.sought.Sought.{Sought}
use Rattle.promela_process.specs.Numbers.{is_zero}
use Rattle.promela_process.specs.Expressions.{◌>>=◌, val, asked_by, is_match}
use Rattle.promela_process.specs.Store.{cut}
use Rattle.promela_run.specs.declared.moves.Pick.{Pick}
use Rattle.promela_run.specs.declared.moves.Move.{Move}
use Rattle.promela_run.specs.declared.moves.Move.TheVariants.{Alone, Pair}
use Rattle.promela_run.specs.State.{Stand, State, reads, body_of, levels_in, picked}
use Rattle.promela_run.specs.Moves.{Named, named, is_rendezvous, or_fault, can_send, can_receive, Message, message, message_on, accepts, choices, is_else, can_alone, last, only_if, pick, pairs, pairs_on, pairs_with, moves_by}
use Rattle.promela_run.specs.Statements.{values}
use Rattle.run_search.specs.Lifted.{levels_from, offer_at, offer_on, nonzero}
use Rattle.view_waits.specs.declared.because.Because.TheVariants as why
use Rattle.view_waits.specs.Because.{because, of_send, of_receive}
use Rattle.view_waits.specs.Why.{NobodyReceives, NobodySends, IsWhy, is_false, is_full, is_empty, no_match, no_receiver, no_sender, too_many, no_first}
use Rattle.view_waits.proofs.Nothing.{each_none, last_none, only_if_none, some_none, either_none}

-- ---- nobody receives what has no pair

pub other_number : (x y : ℕ) → (x ≡ y → ⊥) → nat_eq x y ≡ false
other_number x y differ = by (nat_eq x y) refl
  where
    by : (b : Bool) → nat_eq x y ≡ b → nat_eq x y ≡ false
    by true is = absurd (differ (eqb-true x y is))
    by false is = is

-- where the offer of a pick is found
pub record Lies (s : State) (j : Pick) (o : Offer) : Type 0 where
  pub stand : Stand
  pub stands : slice_get s.stands j.process ≡ Some stand
  pub level : List Offer
  pub on : slice_get (levels_in (body_of s.program stand.sort) stand.control) j.level ≡ Some level
  pub at : slice_get level j.place ≡ Some o

pub lies : (s : State) (j : Pick) (o : Offer) → picked s j ≡ Some o → Lies s j o
lies s j o h = by_stand (slice_get s.stands j.process) refl h
  where
    by_level : (y : Stand) → slice_get s.stands j.process ≡ Some y → (os : Option (List Offer)) → slice_get (levels_in (body_of s.program y.sort) y.control) j.level ≡ os
        → offer_on os j.place ≡ Some o → Lies s j o
    by_level y stands None on at = absurd (none-some o at)
    by_level y stands (Some os) on at = record { stand = y; stands = stands; level = os; on = on; at = at }

    by_stand : (y : Option Stand) → slice_get s.stands j.process ≡ y → offer_at s j y ≡ Some o → Lies s j o
    by_stand None stands at = absurd (none-some o at)
    by_stand (Some y) stands at = by_level y stands (slice_get (levels_in (body_of s.program y.sort) y.control) j.level) refl at

pub nobody_receives : (s : State) (t : Bool) (k : Pick) (m : Message) → pairs s t k (Some m) ≡ [] → NobodyReceives s t k.process m
nobody_receives s t k m none j o is other =
    let l = lies s j o is in
    let y : Stand = l.stand in
    let with_y = each_none (pairs_with s t k m) s.stands none j.process y l.stands in
    let not_own : nat_eq j.process k.process ≡ false = other_number j.process k.process other in
    let down : last (pairs_on s t k m j.process) 0 (levels_in (body_of s.program y.sort) y.control) ≡ [] =
    ap (λ (same : Bool). if same then [] else last (pairs_on s t k m j.process) 0 (levels_in (body_of s.program y.sort) y.control)) (sym not_own) ∙ with_y in
    let level = last_none (pairs_on s t k m j.process) (levels_in (body_of s.program y.sort) y.control) down j.level l.level l.on in
    let place = each_none (λ i (q : Offer). only_if (accepts s.channels (reads s j.process t) m q.basic) (Pair k (pick j.process j.level i) t)) l.level level j.place o l.at in
    only_if_none (accepts s.channels (reads s j.process t) m o.basic) (Pair k (pick j.process j.level j.place) t) place

-- ---- by the statement

equal : (x y : ℤ) → int_eq x y ≡ true → x ≡ y
equal x y same = (Decides-int_eq x y).0 same

not_none : (n : ℤ) (b : Bool) → is_zero n ≡ b → not b ≡ false → n ≡ pos 0
not_none n true worth holds = equal n (pos 0) worth
not_none n false worth holds = absurd (true≢false holds)

-- a condition that does not hold is worth 0
worth_none : (v : Result ℤ Fault) → or_fault (nonzero v) ≡ false → v ≡ Ok (pos 0)
worth_none (Err f) h = absurd (true≢false h)
worth_none (Ok n) h = ap (λ (z : ℤ). Ok z) (not_none n (is_zero n) refl h)

as_many : (m n : ℕ) → int_lt (pos n) (pos m) ≡ false → m ≤ n
as_many m n h = ltb-false n m h

-- what none of two conditions holds of
split : (can : Bool) (m : Move) (ms : List Move) → (if can then m ∷ [] else ms) ≡ [] → (can ≡ false) × (ms ≡ [])
split true m ms h = cc
split false m ms h = (refl, h)

no_message : {A : Type 0} (xs : List A) → nat_eq (length xs) 0 ≡ true → xs ≡ []
no_message [] h = refl
no_message (x ∷ xs) h = absurd (let e = eqb-true (length (x ∷ xs)) 0 h in omega (arith, e))

some_message : {A : Type 0} (xs : List A) → nat_eq (length xs) 0 ≡ false → xs ≡ [] → ⊥
some_message [] h none = true≢false h
some_message (x ∷ xs) h none = cc

module _ (s : State) (t : Bool) (k : Pick) (o : Offer) (y : Stand) (b : Seq) (stands : slice_get s.stands k.process ≡ Some y) (body : body_of s.program y.sort ≡ Some b)
    (alone : NobodySends s t k o) where
  abbrev Given : Option Basic → Type 0
  Given x = IsWhy s t k o (because s.channels (reads s k.process t) x)

  send_why : (x : Target) (order : SendOrder) (es : List Expr) → o.basic ≡ Some (Plain (a.Send x order es)) → (c : Result Named Fault) → named s.channels (reads s k.process t) x (length es) ≡ c
      → or_fault (c >>= λ n. can_send s.lossy false n.contents (values es (reads s k.process t))) ≡ false → pairs s t k (message_on c (values es (reads s k.process t))) ≡ [] → IsWhy s t k o (of_send c)
  send_why x order es is (Err f) names can none = absurd (true≢false can)
  send_why x order es is (Ok c) names can none = by (is_rendezvous c.contents) refl (values es (reads s k.process t)) refl can none
    where
      by : (r : Bool) → is_rendezvous c.contents ≡ r → (vs : Result (List ℤ) Fault) → values es (reads s k.process t) ≡ vs
          → or_fault (if r then (vs >>= λ _. Ok false) else Ok (s.lossy || nat_lt (length c.contents.messages) c.contents.capacity)) ≡ false
          → pairs s t k (message_on (Ok c) vs) ≡ [] → IsWhy s t k o (if r then why.NoReceiver else why.Full)
      by true meets (Err f) worth cannot nobody = absurd (true≢false cannot)
      by true meets (Ok vs) worth cannot nobody =
          let m : Message = record { number = c.number; fields = cut c.contents.types vs } in
          let offers : message_on (Ok c) (Ok vs) ≡ Some m = ap (λ (z : Bool). if z then Some m else None) meets in
          let sent : message s.channels (reads s k.process t) o.basic ≡ Some m =
          ap (message s.channels (reads s k.process t)) is ∙ ap (λ (n : Result Named Fault). message_on n (values es (reads s k.process t))) names ∙ ap (message_on (Ok c)) worth ∙ offers in
          no_receiver sent (nobody_receives s t k m (ap (pairs s t k) (sym offers) ∙ nobody))
      by false meets vs worth cannot nobody =
          let both = either_none s.lossy (nat_lt (length c.contents.messages) c.contents.capacity) cannot in
          is_full is names meets (ltb-false (length c.contents.messages) c.contents.capacity both.1) both.0

  receive_why : (x : Target) (search : Search) (how : Removal) (ws : List Want) → o.basic ≡ Some (Plain (a.Receive x search how ws)) → (c : Result Named Fault) → named s.channels (reads s k.process t) x (length ws) ≡ c
      → or_fault (c >>= λ n. can_receive search n.contents (asked_by ws (reads s k.process t))) ≡ false → IsWhy s t k o (of_receive c)
  receive_why x search how ws is (Err f) names can = absurd (true≢false can)
  receive_why x search how ws is (Ok c) names can = by (is_rendezvous c.contents) refl (nat_eq (length c.contents.messages) 0) refl (asked_by ws (reads s k.process t)) refl can
    where
      by : (r : Bool) → is_rendezvous c.contents ≡ r → (e : Bool) → nat_eq (length c.contents.messages) 0 ≡ e → (sought : Result (List Sought) Fault) → asked_by ws (reads s k.process t) ≡ sought
          → or_fault (if r || e then Ok false else (sought >>= λ asked. Ok (is_match search asked c.contents.messages))) ≡ false
          → IsWhy s t k o (if r then why.NoSender else (if e then why.Empty else why.NoMatch))
      by true meets e has sought worth cannot = no_sender is names meets alone
      by false meets true has sought worth cannot = is_empty is names meets (no_message c.contents.messages has)
      by false meets false has (Err f) worth cannot = absurd (true≢false cannot)
      by false meets false has (Ok asked) worth cannot = no_match is names meets (some_message c.contents.messages has) worth cannot

  action_why : (x : Action) → o.basic ≡ Some (Plain x) → is_else (Some (Plain x)) ≡ false → can_alone s.lossy s.channels (reads s k.process t) b o (Some (Plain x)) ≡ false
      → pairs s t k (message s.channels (reads s k.process t) (Some (Plain x))) ≡ [] → Given (Some (Plain x))
  action_why a.Else is other can none = absurd (true≢false other)
  action_why (a.Holds e) is other can none = is_false is (worth_none (val e (reads s k.process t)) can)
  action_why (a.Run q) is other can none = too_many is (as_many MOST_PROCESSES (length s.stands) can)
  action_why (a.Send x order es) is other can none = send_why x order es is (named s.channels (reads s k.process t) x (length es)) refl can none
  action_why (a.Receive x search how ws) is other can none = receive_why x search how ws is (named s.channels (reads s k.process t) x (length ws)) refl can
  action_why (a.Assign x e) is other can none = absurd (true≢false can)
  action_why (a.AssignRun x q) is other can none = absurd (true≢false can)
  action_why (a.Increment x) is other can none = absurd (true≢false can)
  action_why (a.Decrement x) is other can none = absurd (true≢false can)
  action_why (a.Printf text es) is other can none = absurd (true≢false can)
  action_why (a.Printm e) is other can none = absurd (true≢false can)
  action_why (a.Assert e) is other can none = absurd (true≢false can)

  basic_why : (x : Option Basic) → o.basic ≡ x → is_else x ≡ false → can_alone s.lossy s.channels (reads s k.process t) b o x ≡ false → pairs s t k (message s.channels (reads s k.process t) x) ≡ [] → Given x
  basic_why None is other can none = absurd (true≢false can)
  basic_why (Some (Plain x)) is other can none = action_why x is other can none
  basic_why (Some (DStep d)) is other can none = no_first is stands body (some_none (choices s.lossy s.channels (reads s k.process t) (levels_from b o.entry)) can)
  basic_why (Some (Goto l)) is other can none = absurd (true≢false can)
  basic_why (Some Break) is other can none = absurd (true≢false can)
  basic_why (Some (If' m row)) is other can none = absurd (true≢false can)
  basic_why (Some (Do' m row)) is other can none = absurd (true≢false can)
  basic_why (Some (Block d)) is other can none = absurd (true≢false can)
  basic_why (Some (Atomic d)) is other can none = absurd (true≢false can)
  basic_why (Some (Unless d e)) is other can none = absurd (true≢false can)

  -- of an offer that gives no move
  pub offer_why : is_else o.basic ≡ false → moves_by s k.process t b k.level k.place o ≡ [] → IsWhy s t k o (because s.channels (reads s k.process t) o.basic)
  offer_why other none =
      let both = split (can_alone s.lossy s.channels (reads s k.process t) b o o.basic) (Alone k t) (pairs s t k (message s.channels (reads s k.process t) o.basic)) none in
      basic_why o.basic refl other both.0 both.1
