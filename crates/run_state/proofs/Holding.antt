-- What is always so stays so, and what a call does to the parts it does to the state.
use Rattle.std.proofs.Common.{◌≡◌, ℕ, zero, suc, ◌*◌, ◌<◌, ◌≤◌, nat_lt, if◌then◌else◌, true, false, OnOk, OnErr, arith, Bool, ℤ, take, drop, List, [], ◌∷◌, ◌++◌, map, length, refl, sym, ap, ◌∙◌, subst, Option, Some, None, IfSome, Result, Ok, Err}
use Rattle.std.specs.List.{AllByRecursion}
use Rattle.std.proofs.lemmas.List.{length-map}
use Rattle.std.proofs.Math.Seq.{take-append_seam}
use Rattle.pml_program.specs.declared.program.Program.{Program}
use Rattle.promela_process.specs.declared.sought.Sought.{Sought}
use Rattle.promela_process.specs.Store.{ChannelState, cut, Frame, size_at}
use Rattle.pml_tree.specs.declared.tree.SendOrder.{SendOrder}
use Rattle.pml_tree.specs.declared.tree.Search.{Search}
use Rattle.pml_tree.specs.declared.tree.Removal.{Removal}
use Rattle.pml_tree.specs.declared.tree.Removal.TheVariants as removal
use Rattle.promela_process.specs.declared.place.Place.{Place}
use Rattle.pml_store.specs.Writing.{Contents, stored}
use Rattle.promela_run.specs.declared.goes.Goes.{Goes}
use Rattle.promela_run.specs.declared.live_channel.LiveChannel.{LiveChannel}
use Rattle.pml_value.specs.Takes.{IsIn}
use Rattle.promela_run.specs.Statements.{changed, contents_at, ordered, with_message, found, without, taken_from, taken_at, Received}
use Rattle.pml_value.specs.Storing.{stored_all, StoresSome, AllReceived, PartReceived}
use Rattle.run_start.specs.Shown.{shape}
use Rattle.run_start.specs.Bound.{room, most_room, AreBounded}
use Rattle.run_start.proofs.Shapes.{shape-with_number}
use Rattle.run_state.specs.declared.seat.Seat.{Seat}
use Rattle.promela_run.specs.State.{State}
use Rattle.promela_run.specs.Steps.{put, put_all}
use Rattle.run_state.specs.Held.{IsHeld, live_of}

-- the variables have as many cells, and there may be as many
pub record Stays (old new : Contents) : Type 0 where
  pub shape : shape new.frames ≡ shape old.frames
  pub most : new.most ≡ old.most

-- other numbers in the same variables
pub held_still : (p : Program) (old new : Contents) (cs ds : List LiveChannel) (ks : List ℕ) (xs : List Seat) →
    IsHeld p old cs ks xs → Stays old new → AreBounded p ds → IsHeld p new ds ks xs
held_still p old new cs ds ks xs h e b = record {
  declared = record { few = h.declared.few; sorts = h.declared.sorts; sizes = e.shape ∙ h.declared.sizes };
  seated = h.seated;
  bounded = record { counted = h.bounded.counted; most = e.most ∙ h.bounded.most; live = b };
}

-- ---- the shape

all_stay : (s : Contents) (gs : List Goes) → Stays s (stored_all s gs)
all_stay s [] = record { shape = refl; most = refl }
all_stay s (g ∷ gs) =
    let r = all_stay (stored s g.place g.number) gs in
    record { shape = r.shape ∙ shape-with_number s.frames g.place g.number; most = r.most }

pub same_stays : (old new : Contents) → new ≡ old → Stays old new
same_stays old new e = record { shape = ap (λ (c : Contents). shape c.frames) e; most = ap (λ (c : Contents). c.most) e }

all_are : (old new : Contents) (gs : List Goes) → new ≡ stored_all old gs → Stays old new
all_are old new gs e =
    let r = all_stay old gs in
    record { shape = ap (λ (c : Contents). shape c.frames) e ∙ r.shape; most = ap (λ (c : Contents). c.most) e ∙ r.most }

-- to store a number, or not
pub set_stays : {E : Type 0} (r : Result (Unit {0}) E) (old new : Contents) (p : Place) (v : ℤ) → OnOk r (new ≡ stored old p v) → OnErr r (new ≡ old) → Stays old new
set_stays (Ok u) old new p v h k = record { shape = ap (λ (c : Contents). shape c.frames) h ∙ shape-with_number old.frames p v; most = ap (λ (c : Contents). c.most) h }
set_stays (Err e) old new p v h k = same_stays old new k

pub received_stays : {E : Type 0} (r : Result (Unit {0}) E) (x : Received) (old new : Contents) (cs ds : List LiveChannel) → OnOk r (AllReceived x old new ds) → OnErr r (PartReceived x old new cs ds) → Stays old new
received_stays (Ok u) x old new cs ds h k = all_are old new x.numbers h.0
received_stays (Err e) x old new cs ds h k = all_are old new k.0.before k.0.stands

-- to store numbers, all or some
pub all_stay_or_some : {E : Type 0} (r : Result (Unit {0}) E) (old new : Contents) (gs : List Goes) → OnOk r (new ≡ stored_all old gs) → OnErr r (StoresSome old new gs) → Stays old new
all_stay_or_some (Ok u) old new gs h k = all_are old new gs h
all_stay_or_some (Err e) old new gs h k = all_are old new k.before k.stands

pub one_in_same : (fs hs : List Frame) (o : Option Goes) → size_at fs ≡ size_at hs → IfSome o (IsIn fs) → IfSome o (IsIn hs)
one_in_same fs hs o e h = subst (λ (f : ℕ → ℕ → ℕ). IfSome o (λ (g : Goes). g.place.cell < f g.place.frame g.place.variable)) e h

-- ---- the state

all_put : (p : Program) (c : Contents) (cs ds : List LiveChannel) (xs : List Seat) (holder : Option ℕ) (lossy : Bool) (gs : List Goes) →
    (live_of p (stored_all c gs) ds xs holder lossy).state ≡ record (put_all (live_of p c cs xs holder lossy).state gs) { channels = ds }
all_put p c cs ds xs holder lossy [] = refl
all_put p c cs ds xs holder lossy (g ∷ gs) = all_put p (stored c g.place g.number) cs ds xs holder lossy gs

put_keeps : (s : State) (gs : List Goes) → record (put_all s gs) { channels = s.channels } ≡ put_all s gs
put_keeps s [] = refl
put_keeps s (g ∷ gs) = put_keeps (put s g) gs

module _ (p : Program) (cs ds : List LiveChannel) (xs : List Seat) (holder : Option ℕ) (lossy : Bool) (old new : Contents) where
  abbrev was : State
  was = (live_of p old cs xs holder lossy).state

  abbrev now_is : State
  now_is = (live_of p new ds xs holder lossy).state

  abbrev with_store : Contents → State
  with_store c = (live_of p c cs xs holder lossy).state

  pub received_leads : (x : Received) → AllReceived x old new ds → now_is ≡ record (put_all was x.numbers) { channels = x.live }
  received_leads x h =
      ap (λ (c : Contents). (live_of p c ds xs holder lossy).state) h.0 ∙ all_put p old cs ds xs holder lossy x.numbers ∙ ap (λ (es : List LiveChannel). record (put_all was x.numbers) { channels = es }) h.1

  pub all_lead : (gs : List Goes) → new ≡ stored_all old gs → with_store new ≡ put_all was gs
  all_lead gs h = ap with_store h ∙ all_put p old cs cs xs holder lossy gs ∙ put_keeps was gs

-- ---- as many channels as before, with as much room

abbrev KeepsRoom : (ChannelState → ChannelState) → Type 0
KeepsRoom f = (c : ChannelState) → (f c).capacity * length (f c).types ≡ c.capacity * length c.types

changed_rooms : (n : ℕ) (f : ChannelState → ChannelState) (cs : List LiveChannel) → KeepsRoom f → map room (changed n f cs) ≡ map room cs
changed_rooms n f [] k = refl
changed_rooms zero f (o ∷ os) k = ap (λ (m : ℕ). m ∷ map room os) (k o.channel)
changed_rooms (suc n) f (o ∷ os) k = ap (λ (ms : List ℕ). room o ∷ ms) (changed_rooms n f os k)

message_keeps_room : (order : SendOrder) (fields : List ℤ) → KeepsRoom (with_message order fields)
message_keeps_room order fields c = by (nat_lt (length c.messages) c.capacity)
  where
    more : ChannelState
    more = record c { messages = ordered order (cut c.types fields) c.messages }

    by : (t : Bool) → (let x : ChannelState = if t then more else c in x.capacity * length x.types) ≡ c.capacity * length c.types
    by true = refl
    by false = refl

without_keeps_room : (how : Removal) (n : ℕ) → KeepsRoom (without how n)
without_keeps_room removal.Remove n c = refl
without_keeps_room removal.Keep n c = refl

as_many : (cs ds : List LiveChannel) → map room ds ≡ map room cs → length ds ≡ length cs
as_many cs ds e = sym (length-map ds room) ∙ ap length e ∙ length-map cs room

put_rooms : {E : Type 0} (r : Result (Unit {0}) E) (n : ℕ) (order : SendOrder) (vs : List ℤ) (cs ds : List LiveChannel) → OnOk r (ds ≡ changed n (with_message order vs) cs) → OnErr r (ds ≡ cs) → map room ds ≡ map room cs
put_rooms (Ok u) n order vs cs ds h k = ap (map room) h ∙ changed_rooms n (with_message order vs) cs (message_keeps_room order vs)
put_rooms (Err e) n order vs cs ds h k = ap (map room) k

taken_rooms : (cs : List LiveChannel) (n : ℕ) (how : Removal) (ws : List Sought) (m : Option ℕ) → map room (taken_from cs n how ws m).live ≡ map room cs
taken_rooms cs n how ws None = refl
taken_rooms cs n how ws (Some m) = changed_rooms n (without how m) cs (without_keeps_room how m)

received_rooms : {E : Type 0} (r : Result (Unit {0}) E) (n : ℕ) (search : Search) (how : Removal) (ws : List Sought) (old new : Contents) (cs ds : List LiveChannel) →
    OnOk r (AllReceived (taken_at cs n search how ws) old new ds) → OnErr r (PartReceived (taken_at cs n search how ws) old new cs ds) → map room ds ≡ map room cs
received_rooms (Ok u) n search how ws old new cs ds h k = ap (map room) h.1 ∙ taken_rooms cs n how ws (found search ws (contents_at cs n).messages)
received_rooms (Err e) n search how ws old new cs ds h k = ap (map room) k.1

-- with as much room, no more than the model says
same_bounded : (p : Program) (cs ds : List LiveChannel) → AreBounded p cs → map room ds ≡ map room cs → AreBounded p ds
same_bounded p cs ds b e = record {
  few = omega (arith, b.few, as_many cs ds e);
  small = subst (AllByRecursion (λ n. n ≤ most_room p)) (sym e) b.small;
}

-- a slice that was lent and has as many is the whole
kept_whole : {A : Type 0} (n : ℕ) (xs ys : List A) → n ≡ length ys → length xs ≡ length ys → take n (xs ++ drop (length xs) ys) ≡ xs
kept_whole n xs ys e l =
    ap (λ (i : ℕ). take i (xs ++ drop (length xs) ys)) (e ∙ sym l) ∙ take-append_seam xs (drop (length xs) ys)

-- ---- a message is put in or taken out

module _ (p : Program) (store : Contents) (cs : List LiveChannel) (xs : List Seat) (holder : Option ℕ) (lossy : Bool) where
  abbrev before : State
  before = (live_of p store cs xs holder lossy).state

  pub sent_lives : (count n : ℕ) (order : SendOrder) (vs : List ℤ) (ds es : List LiveChannel) → count ≡ length cs → ds ≡ cs → es ≡ changed n (with_message order vs) ds
      → record before { channels = take count (es ++ drop (length es) cs) } ≡ record before { channels = changed n (with_message order vs) cs }
  sent_lives count n order vs ds es count_is same h =
      let now : es ≡ changed n (with_message order vs) cs = h ∙ ap (changed n (with_message order vs)) same in
      let rooms : map room es ≡ map room cs = ap (map room) now ∙ changed_rooms n (with_message order vs) cs (message_keeps_room order vs) in
      ap (λ (l : List LiveChannel). record before { channels = l }) (kept_whole count es cs count_is (as_many cs es rooms) ∙ now)

  pub received_lives : (count n : ℕ) (search : Search) (how : Removal) (ws : List Sought) (ds es : List LiveChannel) (new : Contents) → count ≡ length cs → ds ≡ cs
      → AllReceived (taken_at ds n search how ws) store new es
      → (live_of p new (take count (es ++ drop (length es) cs)) xs holder lossy).state
      ≡ record (put_all before (taken_at cs n search how ws).numbers) { channels = (taken_at cs n search how ws).live }
  received_lives count n search how ws ds es new count_is same h =
      let now : AllReceived (taken_at cs n search how ws) store new es = subst (λ (l : List LiveChannel). AllReceived (taken_at l n search how ws) store new es) same h in
      let rooms : map room es ≡ map room cs = ap (map room) now.1 ∙ taken_rooms cs n how ws (found search ws (contents_at cs n).messages) in
      let whole = kept_whole count es cs count_is (as_many cs es rooms) in
      received_leads p cs (take count (es ++ drop (length es) cs)) xs holder lossy store new (taken_at cs n search how ws) (now.0, whole ∙ now.1)

-- no channel has more room after a send or a receive
module _ (p : Program) (cs ds es : List LiveChannel) (n : ℕ) (count_is : n ≡ length cs) (same : ds ≡ cs) (b : AreBounded p cs) where
  abbrev back : List LiveChannel
  back = take n (es ++ drop (length es) cs)

  whole_bounded : map room es ≡ map room cs → AreBounded p back
  whole_bounded e = subst (AreBounded p) (sym (kept_whole n es cs count_is (as_many cs es e))) (same_bounded p cs es b e)

  pub sent_bounded : {E : Type 0} (r : Result (Unit {0}) E) (at : ℕ) (order : SendOrder) (vs : List ℤ) → OnOk r (es ≡ changed at (with_message order vs) ds) → OnErr r (es ≡ ds) → AreBounded p back
  sent_bounded r at order vs h k = whole_bounded (put_rooms r at order vs ds es h k ∙ ap (map room) same)

  pub received_bounded : {E : Type 0} (r : Result (Unit {0}) E) (at : ℕ) (search : Search) (how : Removal) (ws : List Sought) (old new : Contents) →
      OnOk r (AllReceived (taken_at ds at search how ws) old new es) → OnErr r (PartReceived (taken_at ds at search how ws) old new ds es) → AreBounded p back
  received_bounded r at search how ws old new h k = whole_bounded (received_rooms r at search how ws old new ds es h k ∙ ap (map room) same)
