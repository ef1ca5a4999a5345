-- Nobody sends to a process that takes part in no move, unless an escape comes first.
use Rattle.std.proofs.Common.{◌≡◌, ◌∙◌, ap, sym, subst, refl, ℕ, ◌+◌, ◌<◌, Bool, true, false, ◌||◌, nat_eq, nat_lt, if◌then◌else◌, List, [], ◌∷◌, length, Option, Some, None, Result, Ok, Err, arith, eq-eqb}
use Rattle.std.specs.Prelude.{slice_get, ℤ}
use Rattle.std.specs.List.{AllByRecursion, Contains}
use Rattle.std.proofs.lemmas.Bool.{true≢false}
use Rattle.std.proofs.lemmas.Option.{none-some}
use Rattle.diagnostics.specs.declared.fault.Fault.{Fault}
use Rattle.pml_program.specs.declared.program.Action.TheVariants as a
use Rattle.pml_program.specs.declared.program.Seq.{Seq}
use Rattle.pml_program.specs.declared.program.Basic.{Basic, Plain, Goto, Break, If', Do', Block, Atomic, DStep, Unless}
use Rattle.promela_process.specs.Control.{Control, Pending}
use Rattle.promela_process.specs.Offers.{Offer}
use Rattle.promela_process.specs.Expressions.{◌>>=◌, Reading}
use Rattle.promela_process.specs.Store.{cut}
use Rattle.promela_run.specs.declared.live_channel.LiveChannel.{LiveChannel}
use Rattle.promela_run.specs.declared.moves.Pick.{Pick}
use Rattle.promela_run.specs.declared.moves.Move.{Move}
use Rattle.promela_run.specs.declared.moves.Move.TheVariants.{Alone, Pair}
use Rattle.promela_run.specs.Moves.{Named, named, is_rendezvous, or_fault, can_send, last, only_if, is_else, can_alone, Message, message, message_on, accepts, pick, pairs_on, pairs_with, pairs, moves_by, plain_moves, else_moves, moves_on, moves_of, moves_at, moves}
use Rattle.promela_run.specs.Statements.{values}
use Rattle.run_search.specs.Laws.{taker}
use Rattle.promela_run.specs.State.{picked, Stand, State, reads, body_of, levels, levels_in}
use Rattle.view_waits.specs.Waits.{takes_part, is_in, in_control, last_timeout}
use Rattle.view_waits.specs.Why.{level_of, EscapesFrom, NobodySends}
use Rattle.view_waits.proofs.Blocked.{none_at, none_held, searched}
use Rattle.view_waits.proofs.Nothing.{all_each, each_contains, either_none, LastGives, here, later, last_gives, no_element, or_else_some}
use Rattle.view_waits.proofs.Reasons.{Lies, lies, other_number}
use Rattle.view_waits.proofs.Searched.{if_all, level_all}

-- ---- what offers a message

send_blocks : (lossy : Bool) (m : Message) (c : Result Named Fault) (vs : Result (List ℤ) Fault) → message_on c vs ≡ Some m → or_fault (c >>= λ n. can_send lossy false n.contents vs) ≡ false
send_blocks lossy m (Err f) vs h = absurd (none-some m h)
send_blocks lossy m (Ok c) (Err f) h = absurd (none-some m h)
send_blocks lossy m (Ok c) (Ok vs) h = by (is_rendezvous c.contents) (record { number = c.number; fields = cut c.contents.types vs }) (Ok (lossy || nat_lt (length c.contents.messages) c.contents.capacity)) h
  where
    by : (r : Bool) (n : Message) (otherwise : Result Bool Fault) → (if r then Some n else None) ≡ Some m → or_fault (if r then Ok false else otherwise) ≡ false
    by true n otherwise e = refl
    by false n otherwise e = absurd (none-some m e)

-- it is no `else`, and is not taken by itself
module _ (cs : List LiveChannel) (r : Reading) (m : Message) where
  no_else : (x : Option Basic) → message cs r x ≡ Some m → is_else x ≡ false
  no_else None h = refl
  no_else (Some (Plain a.Else)) h = absurd (none-some m h)
  no_else (Some (Plain (a.Assign x e))) h = refl
  no_else (Some (Plain (a.AssignRun x q))) h = refl
  no_else (Some (Plain (a.Increment x))) h = refl
  no_else (Some (Plain (a.Decrement x))) h = refl
  no_else (Some (Plain (a.Run q))) h = refl
  no_else (Some (Plain (a.Send x order es))) h = refl
  no_else (Some (Plain (a.Receive x search how ws))) h = refl
  no_else (Some (Plain (a.Printf text es))) h = refl
  no_else (Some (Plain (a.Printm e))) h = refl
  no_else (Some (Plain (a.Assert e))) h = refl
  no_else (Some (Plain (a.Holds e))) h = refl
  no_else (Some (Goto l)) h = refl
  no_else (Some Break) h = refl
  no_else (Some (If' n row)) h = refl
  no_else (Some (Do' n row)) h = refl
  no_else (Some (Block d)) h = refl
  no_else (Some (Atomic d)) h = refl
  no_else (Some (DStep d)) h = refl
  no_else (Some (Unless d e)) h = refl

  not_alone : (lossy : Bool) (b : Seq) (o : Offer) (x : Option Basic) → message cs r x ≡ Some m → can_alone lossy cs r b o x ≡ false
  not_alone lossy b o None h = absurd (none-some m h)
  not_alone lossy b o (Some (Plain a.Else)) h = absurd (none-some m h)
  not_alone lossy b o (Some (Plain (a.Assign x e))) h = absurd (none-some m h)
  not_alone lossy b o (Some (Plain (a.AssignRun x q))) h = absurd (none-some m h)
  not_alone lossy b o (Some (Plain (a.Increment x))) h = absurd (none-some m h)
  not_alone lossy b o (Some (Plain (a.Decrement x))) h = absurd (none-some m h)
  not_alone lossy b o (Some (Plain (a.Run q))) h = absurd (none-some m h)
  not_alone lossy b o (Some (Plain (a.Send x order es))) h = send_blocks lossy m (named cs r x (length es)) (values es r) h
  not_alone lossy b o (Some (Plain (a.Receive x search how ws))) h = absurd (none-some m h)
  not_alone lossy b o (Some (Plain (a.Printf text es))) h = absurd (none-some m h)
  not_alone lossy b o (Some (Plain (a.Printm e))) h = absurd (none-some m h)
  not_alone lossy b o (Some (Plain (a.Assert e))) h = absurd (none-some m h)
  not_alone lossy b o (Some (Plain (a.Holds e))) h = absurd (none-some m h)
  not_alone lossy b o (Some (Goto l)) h = absurd (none-some m h)
  not_alone lossy b o (Some Break) h = absurd (none-some m h)
  not_alone lossy b o (Some (If' n row)) h = absurd (none-some m h)
  not_alone lossy b o (Some (Do' n row)) h = absurd (none-some m h)
  not_alone lossy b o (Some (Block d)) h = absurd (none-some m h)
  not_alone lossy b o (Some (Atomic d)) h = absurd (none-some m h)
  not_alone lossy b o (Some (DStep d)) h = absurd (none-some m h)
  not_alone lossy b o (Some (Unless d e)) h = absurd (none-some m h)

-- ---- its pairs

only_contains : (b : Bool) (x : Move) → b ≡ true → Contains (only_if b x) x
only_contains b x is = subst (λ (c : Bool). Contains (only_if c x) x) (sym is) (0, omega arith, refl)

-- one of some moves, of all of which something holds
some_of : (P : Move → Type 0) (ms : List Move) → (ms ≡ [] → ⊥) → AllByRecursion P ms → (m : Move) × Contains ms m × P m
some_of P [] some all = absurd (some refl)
some_of P (m ∷ ms) some all = (m, (0, omega arith, refl), all.0)

module _ (s : State) (t : Bool) (j : Pick) (o : Offer) (there : picked s j ≡ Some o) where
  -- a pair with the process of this pick
  abbrev IsPair : Pick → Move → Type 0
  IsPair k m = (i : Pick) × (i.process ≡ j.process) × (m ≡ Pair k i t)

  has_pair : (k : Pick) (m : Message) → (k.process ≡ j.process → ⊥) → accepts s.channels (reads s j.process t) m o.basic ≡ true
      → (w : Move) × Contains (pairs s t k (Some m)) w × IsPair k w
  has_pair k m other takes =
      let l = lies s j o there in
      let p : ℕ = j.process in
      let ls : List (List Offer) = levels_in (body_of s.program l.stand.sort) l.stand.control in
      let w : Move = Pair k (pick p j.level j.place) t in
      let on_level : Contains (pairs_on s t k m p j.level l.level) w =
      each_contains (λ i (q : Offer). only_if (accepts s.channels (reads s p t) m q.basic) (Pair k (pick p j.level i) t)) l.level j.place o l.at w
      (only_contains (accepts s.channels (reads s p t) m o.basic) w takes) in
      let down = by_last l ls w (refl) (last_gives (pairs_on s t k m p) ls j.level l.level l.on w on_level) in
      let not_own : nat_eq p k.process ≡ false = other_number p k.process (λ e. other (sym e)) in
      let with_y : Contains (pairs_with s t k m p l.stand) down.0 =
      subst (λ (same : Bool). Contains (if same then [] else last (pairs_on s t k m p) 0 ls) down.0) (sym not_own) down.1 in
      (down.0, each_contains (pairs_with s t k m) s.stands p l.stand l.stands down.0 with_y, down.2)
    where
      all_pairs : (n : ℕ) (os : List Offer) → AllByRecursion (IsPair k) (pairs_on s t k m j.process n os)
      all_pairs n os = all_each (IsPair k) (λ i (q : Offer). only_if (accepts s.channels (reads s j.process t) m q.basic) (Pair k (pick j.process n i) t)) os
          (λ i q at. if_all (IsPair k) (accepts s.channels (reads s j.process t) m q.basic) (Pair k (pick j.process n i) t) (λ e. (pick j.process n i, refl, refl)))

      by_last : (l : Lies s j o) (ls : List (List Offer)) (w : Move) → w ≡ Pair k (pick j.process j.level j.place) t → LastGives (pairs_on s t k m j.process) 0 ls j.level w
          → (z : Move) × Contains (last (pairs_on s t k m j.process) 0 ls) z × IsPair k z
      by_last l ls w is (here has) = (w, has, (pick j.process j.level j.place, refl, is))
      by_last l ls w is (later n os above at same some) =
          some_of (IsPair k) (last (pairs_on s t k m j.process) 0 ls) some (subst (λ (ms : List Move). AllByRecursion (IsPair k) ms) (sym same) (all_pairs (0 + n) os))

-- ---- who could send

module _ (s : State) (p : ℕ) (out : is_in p (moves s) ≡ false) (nobody : in_control s ≡ None) where
  abbrev t : Bool
  t = last_timeout s

  is_move : (k : Pick) (y : Stand) → slice_get s.stands k.process ≡ Some y → (m : Move) → Contains (moves_at s k.process t y) m → Contains (moves s) m
  is_move k y at m has =
      subst (λ (ms : List Move). Contains ms m) (sym (searched s p (none_held s p nobody))) (each_contains (λ q x. moves_at s q t x) s.stands k.process y at m has)

  -- a pair with this process is no move
  no_pair : (w : Move) (k i : Pick) → i.process ≡ p → w ≡ Pair k i t → Contains (moves s) w → ⊥
  no_pair w k i mine is (n, below, at) =
      let none : takes_part p w ≡ false = none_at (takes_part p) w (moves s) out n below at in
      let parts = either_none (nat_eq k.process p) (nat_eq i.process p) (sym (ap (takes_part p) is) ∙ none) in
      true≢false (sym (eq-eqb i.process p mine) ∙ parts.1)

  pub who_sends : (j : Pick) (o : Offer) → j.process ≡ p → picked s j ≡ Some o → NobodySends s t j o
  who_sends j o own there k q m at other offers takes = by (body_of s.program l.stand.sort) refl l.stand.control refl l.on
    where
      l : Lies s k q
      l = lies s k q at

      pair : (w : Move) × Contains (pairs s t k (Some m)) w × IsPair s t j o there k w
      pair = has_pair s t j o there k m other takes

      -- the moves of its sender, where that stands in this body
      stood : (b : Seq) (f : Pending) (c : Control) → body_of s.program l.stand.sort ≡ Some b → l.stand.control ≡ f ∷ c → moves_of s k.process t (Some b) (f ∷ c) ≡ moves_at s k.process t l.stand
      stood b f c body control =
          ap (moves_of s k.process t (Some b)) (sym control) ∙ ap (λ (x : Option Seq). moves_of s k.process t x l.stand.control) (sym body)

      by_last : (b : Seq) (f : Pending) (c : Control) → body_of s.program l.stand.sort ≡ Some b → l.stand.control ≡ f ∷ c
          → LastGives (moves_on s k.process t b) 0 (levels b (f ∷ c)) k.level pair.0 → EscapesFrom s k
      by_last b f c body control (here has) =
          let among : Contains (moves_at s k.process t l.stand) pair.0 = subst (λ (ms : List Move). Contains ms pair.0) (stood b f c body control) has in
          let i = pair.2 in
          absurd (no_pair pair.0 k i.0 (i.1 ∙ own) i.2 (is_move k l.stand l.stands pair.0 among))
      by_last b f c body control (later n os above on same some) =
          let from : 0 + n ≡ n = omega arith in
          let is : moves_of s k.process t (Some b) (f ∷ c) ≡ moves_on s k.process t b n os = same ∙ ap (λ (h : ℕ). moves_on s k.process t b h os) from in
          let all = level_all IsHere s k.process t n (λ i. (refl, refl)) (λ i g. (refl, refl)) b os in
          let one = some_of IsHere (moves_of s k.process t (Some b) (f ∷ c)) some (subst (λ (ms : List Move). AllByRecursion IsHere ms) (sym is) all) in
          let among : Contains (moves_at s k.process t l.stand) one.0 = subst (λ (ms : List Move). Contains ms one.0) (stood b f c body control) one.1 in
          (one.0, is_move k l.stand l.stands one.0 among, one.2.0, subst (λ (h : ℕ). k.level < h) (sym one.2.1) above)
        where
          IsHere : Move → Type 0
          IsHere z = (taker z ≡ k.process) × (level_of z ≡ n)

      by : (x : Option Seq) → body_of s.program l.stand.sort ≡ x → (c : Control) → l.stand.control ≡ c → slice_get (levels_in x c) k.level ≡ Some l.level → EscapesFrom s k
      by None body c control on = absurd (none-some l.level on)
      by (Some b) body [] control on = absurd (none-some l.level on)
      by (Some b) body (f ∷ c) control on =
          let r : Reading = reads s k.process t in
          let w : Move = pair.0 in
          let mine : Contains (if is_else q.basic then [] else moves_by s k.process t b k.level k.place q) w =
          subst (λ (e : Bool). Contains (if e then [] else moves_by s k.process t b k.level k.place q) w) (sym (no_else s.channels r m q.basic offers))
          (subst (λ (e : Bool). Contains (if e then Alone k t ∷ [] else pairs s t k (message s.channels r q.basic)) w) (sym (not_alone s.channels r m s.lossy b q q.basic offers))
          (subst (λ (x : Option Message). Contains (pairs s t k x) w) (sym offers) pair.1)) in
          let plain : Contains (plain_moves s k.process t b k.level l.level) w =
          each_contains (λ i (z : Offer). if is_else z.basic then [] else moves_by s k.process t b k.level i z) l.level k.place q l.at w mine in
          let level : Contains (moves_on s k.process t b k.level l.level) w =
          subst (λ (ms : List Move). Contains ms w) (sym (or_else_some (plain_moves s k.process t b k.level l.level) (else_moves k.process t k.level l.level) (no_element (plain_moves s k.process t b k.level l.level) w plain))) plain in
          by_last b f c body control (last_gives (moves_on s k.process t b) (levels b (f ∷ c)) k.level l.level on w level)
