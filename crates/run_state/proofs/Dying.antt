-- The youngest process dies.
use Rattle.std.proofs.Common.{◌≡◌, ℕ, zero, suc, ◌+◌, ◌-◌, ◌≤◌, ℤ, ltb, Bool, true, false, if◌then◌else◌, subst, not, nat_eq, List, [], ◌∷◌, length, map, take, refl, sym, ap, ◌∙◌, arith, Option, None}
use Rattle.std.specs.List.{filter, AllByRecursion}
use Rattle.std.proofs.lemmas.List.{length-map}
use Rattle.pml_program.specs.declared.program.Program.{Program}
use Rattle.promela_process.specs.Store.{Frame}
use Rattle.pml_store.specs.Writing.{Contents, but_last, flat, frame_with, index_with, undone, before}
use Rattle.promela_run.specs.declared.live_channel.LiveChannel.{LiveChannel}
use Rattle.promela_run.specs.State.{size, variables_at, Stand, State}
use Rattle.run_start.specs.Shown.{shape}
use Rattle.run_start.specs.Bound.{room, most_room, AreBounded}
use Rattle.run_start.specs.Starting.{IsDeclared}
use Rattle.run_start.proofs.Declaring.{frames_of_sorts}
use Rattle.run_state.specs.declared.seat.Seat.{Seat}
use Rattle.run_state.specs.Standing.{stand_of}
use Rattle.promela_run.specs.Steps.{without_youngest}
use Rattle.run_state.specs.Live.{died}
use Rattle.promela_run.specs.World.{Running}
use Rattle.run_state.specs.Held.{live_of}

pub map-take : {A B : Type 0} (f : A → B) (n : ℕ) (xs : List A) → map f (take n xs) ≡ take n (map f xs)
map-take f zero xs = refl
map-take f (suc n) [] = refl
map-take f (suc n) (x ∷ xs) = ap (λ (l : List _). f x ∷ l) (map-take f n xs)

pub all-take : {A : Type 0} (P : A → Type 0) (n : ℕ) (xs : List A) → AllByRecursion P xs → AllByRecursion P (take n xs)
all-take P zero xs h = tt
all-take P (suc n) [] h = tt
all-take P (suc n) (x ∷ xs) h = (h.0, all-take P n xs h.1)

few-taken : {A : Type 0} (n m : ℕ) (xs : List A) → length xs ≤ m → length (take n xs) ≤ m
few-taken zero m xs h = omega arith
few-taken (suc n) m [] h = h
few-taken (suc n) zero (x ∷ xs) h = absurd (omega (arith, h))
few-taken (suc n) (suc m) (x ∷ xs) h = let l = few-taken n m xs (omega (arith, h)) in omega (arith, l)

-- the variables of the others are declared
pub declared_less : (p : Program) (fs : List Frame) (ks : List ℕ) (n : ℕ) → IsDeclared p fs ks → length ks ≡ n + 1 →
    IsDeclared p (but_last fs) (take n ks)
declared_less p fs ks n h e =
    let k : ℕ → List ℕ = λ k. map size (variables_at p k) in
    let m = frames_of_sorts p fs ks h in
    let count : length fs - 1 ≡ suc n = omega (arith, m, e) in
    record {
      few = few-taken n 255 ks h.few;
      sorts = all-take _ n ks h.sorts;
      sizes =
          ap (λ (i : ℕ). shape (take i fs)) count ∙ map-take (map length) (suc n) fs ∙ ap (take (suc n)) h.sizes
          ∙ ap (λ (l : List (List ℕ)). map size p.globals ∷ l) (sym (map-take k n ks));
    }

-- of the other channels there are no more, and none has more room
room_left : (n : ℕ) (f : LiveChannel → Bool) (cs : List LiveChannel) → AllByRecursion (λ m. m ≤ n) (map room cs) → AllByRecursion (λ m. m ≤ n) (map room (filter f cs))
room_left n f [] h = tt
room_left n f (c ∷ cs) h = by (f c) (room_left n f cs h.1)
  where
    by : (t : Bool) → AllByRecursion (λ m. m ≤ n) (map room (filter f cs)) → AllByRecursion (λ m. m ≤ n) (map room (if t then c ∷ filter f cs else filter f cs))
    by true k = (h.0, k)
    by false k = k

count_left : (f : LiveChannel → Bool) (cs : List LiveChannel) → length (filter f cs) ≤ length cs
count_left f [] = omega arith
count_left f (c ∷ cs) = by (f c) (count_left f cs)
  where
    by : (t : Bool) → length (filter f cs) ≤ length cs → length (if t then c ∷ filter f cs else filter f cs) ≤ length (c ∷ cs)
    by true k = omega (arith, k)
    by false k = omega (arith, k)

pub bounded_left : (p : Program) (f : LiveChannel → Bool) (cs ds : List LiveChannel) → AreBounded p cs → ds ≡ filter f cs → AreBounded p ds
bounded_left p f cs ds b e = subst (AreBounded p) (sym e) (record { few = omega (arith, b.few, count_left f cs); small = room_left (most_room p) f cs b.small })

-- a state by its parts
pub died_state : (s : State) (xs : List Seat) (fs : List Frame) (cs : List LiveChannel) (n : ℕ) → s.stands ≡ map (stand_of s.program) xs → length xs ≡ n + 1 → length s.frames ≡ length xs + 1 →
    fs ≡ but_last s.frames → cs ≡ filter (λ (o : LiveChannel). not (nat_eq o.frame (n + 1))) s.channels →
    ◌≡◌ {A = State} (record { program = s.program; frames = fs; stands = map (stand_of s.program) (take n xs); channels = cs; holder = None; lossy = s.lossy }) (without_youngest s)
died_state s xs fs cs n e l m f c =
    let count : length s.stands ≡ n + 1 = ap length e ∙ length-map xs (stand_of s.program) ∙ l in
    let less : length s.frames - 1 ≡ length s.stands = omega (arith, m, l, count) in
    let one : n ≡ length s.stands - 1 = omega (arith, count) in
    ap (λ (z : List Frame). record { program = s.program; frames = z; stands = map (stand_of s.program) (take n xs); channels = cs; holder = None; lossy = s.lossy }) (f ∙ ap (λ (i : ℕ). take i s.frames) less)
    ∙ ap (λ (z : List Stand). record { program = s.program; frames = take (length s.stands) s.frames; stands = z; channels = cs; holder = None; lossy = s.lossy })
    (map-take (stand_of s.program) n xs ∙ ap (take n) (sym e) ∙ ap (λ (i : ℕ). take i s.stands) one)
    ∙ ap (λ (z : List LiveChannel). record { program = s.program; frames = take (length s.stands) s.frames; stands = take (length s.stands - 1) s.stands; channels = z; holder = None; lossy = s.lossy })
    (c ∙ ap (λ (i : ℕ). filter (λ (o : LiveChannel). not (nat_eq o.frame i)) s.channels) (sym count))

-- ---- the log behind a death leads back to what it led back to, without the youngest

index_taken : (n : ℕ) (fs : List Frame) (i : ℕ) (v : ℤ) → index_with (take n fs) i v ≡ take n (index_with fs i v)
index_taken zero fs i v = refl
index_taken (suc n) [] i v = refl
index_taken (suc n) (f ∷ fs) i v = tested (ltb i (length (flat f))) (index_taken n fs (i - length (flat f)) v)
  where
    tested : (b : Bool) → index_with (take n fs) (i - length (flat f)) v ≡ take n (index_with fs (i - length (flat f)) v) →
        (if b then frame_with f i v ∷ take n fs else f ∷ index_with (take n fs) (i - length (flat f)) v)
        ≡ take (suc n) (if b then frame_with f i v ∷ fs else f ∷ index_with fs (i - length (flat f)) v)
    tested true h = refl
    tested false h = ap (λ (l : List Frame). f ∷ l) h

undone_taken : (n : ℕ) (fs : List Frame) (ws : List (ℕ × ℤ)) → undone (take n fs) ws ≡ take n (undone fs ws)
undone_taken n fs [] = refl
undone_taken n fs (w ∷ ws) = ap (λ (l : List Frame). index_with l w.0 w.1) (undone_taken n fs ws) ∙ index_taken n (undone fs ws) w.0 w.1

-- what lives, by its parts
pub live_died : (p : Program) (store new : Contents) (cs ds : List LiveChannel) (xs ys : List Seat) (holder : Option ℕ) (lossy : Bool) (n : ℕ) → length xs ≡ n + 1 → length store.frames ≡ length xs + 1 →
    new ≡ record store { frames = but_last store.frames } → ds ≡ filter (λ (o : LiveChannel). not (nat_eq o.frame (n + 1))) cs → ys ≡ take n xs →
    live_of p new ds ys None lossy ≡ died (live_of p store cs xs holder lossy)
live_died p store new cs ds xs ys holder lossy n l m e c y =
    let live : Running = live_of p store cs xs holder lossy in
    let left : List Frame = undone (but_last store.frames) store.written in
    let less : length store.frames - 1 ≡ length live.state.stands = omega (arith, m, length-map xs (stand_of p)) in
    ap (λ (z : List Seat). live_of p new ds z None lossy) y ∙ ap (λ (z : Contents). live_of p z ds (take n xs) None lossy) e
    ∙ ap (λ (s : State). record live { state = s; past = left }) (died_state live.state xs (but_last store.frames) ds n refl l m refl c)
    ∙ ap (λ (fs : List Frame). record live { state = without_youngest live.state; past = fs })
    (undone_taken (length store.frames - 1) store.frames store.written ∙ ap (λ (i : ℕ). take i (before store)) less)
