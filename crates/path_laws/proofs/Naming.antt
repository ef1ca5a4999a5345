-- Each listed move is of a statement that is there, and its text names its process and its line.
use Rattle.std.proofs.Common.{◌≡◌, ◌⊎◌, inl, inr, ℕ, zero, suc, ◌+◌, ◌<◌, Bool, true, false, if◌then◌else◌, List, [], ◌∷◌, ◌++◌, length, map, nat_eq, Option, Some, None, refl, sym, ap, subst, ◌∙◌, arith, codes, append_assoc}
use Rattle.std.specs.Prelude.{slice_get, slice_index_or, unwrap_or, option_map, IfSome, IsSome}
use Rattle.std.specs.Fmt.{decimal}
use Rattle.std.specs.List.{AllByRecursion, Contains}
use Rattle.pml_program.specs.declared.program.Stmt.{Stmt}
use Rattle.pml_program.specs.declared.program.Seq.{Seq}
use Rattle.pml_program.specs.declared.program.Proctype.{Proctype}
use Rattle.promela_process.specs.Control.{Control}
use Rattle.promela_process.specs.Offers.{Edge, Levels, offers, Offer, offer_of, statement_at, statement_text}
use Rattle.promela_process.specs.Offers as off
use Rattle.pml_control.proofs.Reaching.{zero_plus, plus_zero, plus_one}
use Rattle.promela_run.specs.Lines.{proctype_name}
use Rattle.promela_run.specs.declared.moves.Pick.{Pick}
use Rattle.promela_run.specs.declared.moves.Move.{Move}
use Rattle.promela_run.specs.declared.moves.Move.TheVariants.{Death, Alone, Pair}
use Rattle.promela_run.specs.State.{Stand, State, reads, body_of, levels, levels_in, picked}
use Rattle.promela_run.specs.Moves.{or_else, each, last, only_if, is_else, can_alone, Message, message, accepts, pick, pairs_on, pairs_with, pairs, moves_by, plain_moves, else_moves, moves_on, moves_of, moves_at, moves_under, moves_held, moves}
use Rattle.run_search.specs.Laws.{Each}
use Rattle.promela_run.specs.World.{sort_of_process, heading, offer_with_heading, pick_text, death_text}
use Rattle.promela_run.specs.declared.halt.Halt.{Halt}
use Rattle.run_search.specs.Lifted.{offer_on, offer_at, moves_if, sort_of, line_in, brace_of, unless_stopped}
use Rattle.pml_sim.specs.Origins.{IsOffered, IsThere}
use Rattle.path_laws.specs.Origins.{NamesPlace, NamesReceiver, TextsNamePlaces, ListedMovesHaveOrigins}
use Rattle.path_laws.proofs.Apart.{or_holds, only_holds}
use Rattle.path_laws.proofs.Growing.{IsFitStand, IsFitState, all_got}
use Rattle.path_laws.proofs.Standing.{IsFitOffer, inside_fits, reached_fits}

-- ---- what an offer says

-- its text begins with its line, behind which stands ` [`, or there is none
abbrev Says : Offer → Type 0
Says o = (o.text ≡ []) ⊎ ((more : List ℕ) × (o.text ≡ codes "line " ++ (decimal o.line ++ (codes " [" ++ more))))

offer_says : (b : Seq) (e : Edge) → Says (offer_of b e)
offer_says b e = by (statement_at b e.0)
  where
    by : (x : Option Stmt) → (unwrap_or (option_map off.offer_text x) [] ≡ []) ⊎ ((more : List ℕ) × (unwrap_or (option_map off.offer_text x) [] ≡ codes "line " ++ (decimal (unwrap_or (option_map off.offer_line x) 0) ++ (codes " [" ++ more))))
    by None = inl refl
    by (Some s) = inr (statement_text s.basic s.tokens ++ codes "]", refl)

level_says : (b : Seq) (es : List Edge) → AllByRecursion Says (map (offer_of b) es)
level_says b [] = tt
level_says b (e ∷ es) = (offer_says b e, level_says b es)

levels_say : (b : Seq) (ls : Levels) → AllByRecursion (AllByRecursion Says) (map (map (offer_of b)) ls)
levels_say b [] = tt
levels_say b (l ∷ ls) = (level_says b l, levels_say b ls)

inside_says : (o : Option Seq) (c : Control) → AllByRecursion (AllByRecursion Says) (levels_in o c)
inside_says None c = tt
inside_says (Some b) c = levels_say b (offers b c)

if_got : {A : Type 0} (P : A → Type 0) (xs : List A) (i : ℕ) → AllByRecursion P xs → IfSome (slice_get xs i) P
if_got P [] i h = tt
if_got P (x ∷ xs) zero h = h.0
if_got P (x ∷ xs) (suc i) h = if_got P xs i h.1

on_says : (o : Option (List Offer)) (i : ℕ) → IfSome o (AllByRecursion Says) → IfSome (offer_on o i) Says
on_says None i h = tt
on_says (Some os) i h = if_got Says os i h

picked_says : (s : State) (k : Pick) (y : Option Stand) → IfSome (offer_at s k y) Says
picked_says s k None = tt
picked_says s k (Some y) =
    let ls = levels_in (body_of s.program y.sort) y.control in
    on_says (slice_get ls k.level) k.place (if_got (AllByRecursion Says) ls k.level (inside_says (body_of s.program y.sort) y.control))

-- ---- names

-- `proc P (NAME) line L [`, in pieces
abbrev named : ℕ × ℕ → List ℕ → List ℕ → List ℕ
named place name more = codes "proc " ++ (decimal place.0 ++ (codes " (" ++ (name ++ (codes ") line " ++ (decimal place.1 ++ (codes " [" ++ more))))))

heading_names : (p n : ℕ) (q : Proctype) (text more : List ℕ) → text ≡ codes "line " ++ (decimal n ++ (codes " [" ++ more)) → NamesPlace (p, n) (heading p q ++ text)
heading_names p n q text more is = record {
  name = proctype_name q.name;
  more = more;
  is = append_assoc (codes "proc ") _ text
      ∙ ap (λ l. codes "proc " ++ l) (append_assoc (decimal p) _ text
      ∙ ap (λ l. decimal p ++ l) (append_assoc (codes " (") _ text
      ∙ ap (λ l. codes " (" ++ l) (append_assoc (proctype_name q.name) (codes ") ") text
      ∙ ap (λ l. proctype_name q.name ++ (codes ") " ++ l)) is)));
}

names_more : (place : ℕ × ℕ) (text rest : List ℕ) → NamesPlace place text → NamesPlace place (text ++ rest)
names_more place text rest h = record {
  name = h.name;
  more = h.more ++ rest;
  is = ap (λ l. l ++ rest) h.is ∙ append_assoc (codes "proc ") _ rest
      ∙ ap (λ l. codes "proc " ++ l) (append_assoc (decimal place.0) _ rest
      ∙ ap (λ l. decimal place.0 ++ l) (append_assoc (codes " (") _ rest
      ∙ ap (λ l. codes " (" ++ l) (append_assoc h.name _ rest
      ∙ ap (λ l. h.name ++ l) (append_assoc (codes ") line ") _ rest
      ∙ ap (λ l. codes ") line " ++ l) (append_assoc (decimal place.1) _ rest
      ∙ ap (λ l. decimal place.1 ++ l) (append_assoc (codes " [") h.more rest))))));
}

offer_names : (p : ℕ) (q : Option Proctype) (o : Option Offer) → IfSome o Says → IsOffered o → (q ≡ None → o ≡ None) → NamesPlace (p, line_in o) (offer_with_heading p q o)
offer_names p q None says there lost = absurd there
offer_names p None (Some o) says there lost = let e = lost refl in cc
offer_names p (Some q) (Some o) (inl none) there lost = absurd (there none)
offer_names p (Some q) (Some o) (inr h) there lost = heading_names p o.line q o.text h.0 h.1

-- where there is no proctype, there is no offer
no_offer : (s : State) (k : Pick) (y : Option Stand) → sort_of s.program y ≡ None → offer_at s k y ≡ None
no_offer s k None e = refl
no_offer s k (Some y) e = rw e refl

pick_names : (s : State) (k : Pick) → IsOffered (picked s k) → NamesPlace (k.process, line_in (picked s k)) (pick_text s k)
pick_names s k there =
    offer_names k.process (sort_of_process s k.process) (picked s k) (picked_says s k (slice_get s.stands k.process)) there (no_offer s k (slice_get s.stands k.process))

death_names : (p : ℕ) (q : Option Proctype) → IsSome q → NamesPlace (p, brace_of q) (death_text p q)
death_names p None some = cc
death_names p (Some q) some = heading_names p q.end.line q _ (codes "-end-]") (append_assoc (codes "line ") (decimal q.end.line) (codes " [-end-]"))

pub texts_name_places : TextsNamePlaces
texts_name_places s (Death p) there = death_names p (sort_of_process s p) there
texts_name_places s (Alone k t) there = pick_names s k there
texts_name_places s (Pair k j t) there = names_more (k.process, line_in (picked s k)) (pick_text s k) _ (pick_names s k there)

-- ---- lists, by their places

each_there : {A : Type 0} (P : Move → Type 0) (f : ℕ → A → List Move) (i : ℕ) (xs : List A) → ((j : ℕ) (x : A) → slice_get xs j ≡ Some x → Each P (f (i + j) x)) → Each P (each f i xs)
each_there P f i [] h = tt
each_there P f i (x ∷ xs) h =
    both (f i x) (each f (i + 1) xs) (subst (λ (n : ℕ). Each P (f n x)) (plus_zero i) (h zero x refl))
    (each_there P f (i + 1) xs (λ j y e. subst (λ (n : ℕ). Each P (f n y)) (sym (plus_one i j)) (h (suc j) y e)))
  where
    both : (ms ns : List Move) → Each P ms → Each P ns → Each P (ms ++ ns)
    both [] ns here there = there
    both (m ∷ ms) ns here there = (here.0, both ms ns here.1 there)

each_at : {A : Type 0} (P : Move → Type 0) (f : ℕ → A → List Move) (xs : List A) → ((j : ℕ) (x : A) → slice_get xs j ≡ Some x → Each P (f j x)) → Each P (each f 0 xs)
each_at P f xs h = each_there P f 0 xs (λ j x e. subst (λ (n : ℕ). Each P (f n x)) (sym (zero_plus j)) (h j x e))

last_there : {A : Type 0} (P : Move → Type 0) (f : ℕ → A → List Move) (i : ℕ) (xs : List A) → ((j : ℕ) (x : A) → slice_get xs j ≡ Some x → Each P (f (i + j) x)) → Each P (last f i xs)
last_there P f i [] h = tt
last_there P f i (x ∷ xs) h =
    or_holds (Each P) (last f (i + 1) xs) (f i x) (last_there P f (i + 1) xs (λ j y e. subst (λ (n : ℕ). Each P (f n y)) (sym (plus_one i j)) (h (suc j) y e)))
    (subst (λ (n : ℕ). Each P (f n x)) (plus_zero i) (h zero x refl))

last_at : {A : Type 0} (P : Move → Type 0) (f : ℕ → A → List Move) (xs : List A) → ((j : ℕ) (x : A) → slice_get xs j ≡ Some x → Each P (f j x)) → Each P (last f 0 xs)
last_at P f xs h = last_there P f 0 xs (λ j x e. subst (λ (n : ℕ). Each P (f n x)) (sym (zero_plus j)) (h j x e))

element : (P : Move → Type 0) (ms : List Move) (k : ℕ) (m : Move) → Each P ms → k < length ms → slice_index_or ms k m ≡ m → P m
element P [] k m h l e = absurd (omega (arith, l))
element P (n ∷ ns) zero m h l e = subst P e h.0
element P (n ∷ ns) (suc k) m h l e = element P ns k m h.1 (omega (arith, l)) e

-- ---- listed moves are there

-- the statement of the receiver of a pair is there
abbrev ReceiverIsThere : State → Move → Type 0
ReceiverIsThere s (Death p) = Unit {0}
ReceiverIsThere s (Alone k t) = Unit {0}
ReceiverIsThere s (Pair k j t) = IsOffered (picked s j)

abbrev AreThere : State → Move → Type 0
AreThere s m = IsThere s m × ReceiverIsThere s m

receiver_names : (s : State) (m : Move) → ReceiverIsThere s m → NamesReceiver s m
receiver_names s (Death p) there = tt
receiver_names s (Alone k t) there = tt
receiver_names s (Pair k j t) there = pick_names s j there

module _ (s : State) (fit : IsFitState s) where
  abbrev AllThere : List Move → Type 0
  AllThere = Each (AreThere s)

  module _ (p : ℕ) (y : Stand) (stands : slice_get s.stands p ≡ Some y) where
    f : IsFitStand s.program y
    f = all_got (IsFitStand s.program) s.stands p y fit stands

    offered : (l : ℕ) (os : List Offer) → slice_get (levels_in (body_of s.program y.sort) y.control) l ≡ Some os → (i : ℕ) (o : Offer) → slice_get os i ≡ Some o → IsOffered (picked s (pick p l i))
    offered l os level i o place =
        let is : picked s (pick p l i) ≡ Some o = ap (offer_at s (pick p l i)) stands ∙ ap (λ (x : Option (List Offer)). offer_on x i) level ∙ place in
        let fits : IsFitOffer f.body o =
        all_got (IsFitOffer f.body) os i o (all_got (AllByRecursion (IsFitOffer f.body)) (levels_in (body_of s.program y.sort) y.control) l os (inside_fits s.program y f) level) place in
        subst IsOffered (sym is) fits.1

    dies : AreThere s (Death p)
    dies = (subst (λ (o : Option Stand). IsSome (sort_of s.program o)) (sym stands) (by (slice_get s.program.proctypes y.sort) f.is), tt)
      where
        by : (q : Option Proctype) → option_map (λ (r : Proctype). r.body) q ≡ Some f.body → IsSome q
        by None e = cc
        by (Some q) e = refl

  -- both statements of each pair are there, where the sender's is
  pairs_there : (t : Bool) (k : Pick) → IsOffered (picked s k) → (m : Option Message) → AllThere (pairs s t k m)
  pairs_there t k sends None = tt
  pairs_there t k sends (Some m) = each_at (AreThere s) (pairs_with s t k m) s.stands (λ j y e. with_process j y e (nat_eq j k.process))
    where
      with_process : (j : ℕ) (y : Stand) → slice_get s.stands j ≡ Some y → (same : Bool) → AllThere (if same then [] else last (pairs_on s t k m j) 0 (levels_in (body_of s.program y.sort) y.control))
      with_process j y e true = tt
      with_process j y e false = last_at (AreThere s) (pairs_on s t k m j) (levels_in (body_of s.program y.sort) y.control) (λ l os level.
          each_at (AreThere s) (λ i o. only_if (accepts s.channels (reads s j t) m o.basic) (Pair k (pick j l i) t)) os (λ i o place.
          only_holds (AreThere s) (accepts s.channels (reads s j t) m o.basic) (Pair k (pick j l i) t) (sends, offered j y e l os level i o place)))

  module _ (p : ℕ) (y : Stand) (stands : slice_get s.stands p ≡ Some y) where
    on_level : (t : Bool) (b : Seq) (l : ℕ) (os : List Offer) → slice_get (levels_in (body_of s.program y.sort) y.control) l ≡ Some os → AllThere (moves_on s p t b l os)
    on_level t b l os level =
        or_holds AllThere (plain_moves s p t b l os) (else_moves p t l os)
        (each_at (AreThere s) (λ i o. if is_else o.basic then [] else moves_by s p t b l i o) os (λ i o e. plain i o (offered p y stands l os level i o e)))
        (each_at (AreThere s) (λ i o. only_if (is_else o.basic) (Alone (pick p l i) t)) os
        (λ i o e. only_holds (AreThere s) (is_else o.basic) (Alone (pick p l i) t) (offered p y stands l os level i o e, tt)))
      where
        plain : (i : ℕ) (o : Offer) → IsOffered (picked s (pick p l i)) → AllThere (if is_else o.basic then [] else moves_by s p t b l i o)
        plain i o there = by (is_else o.basic) (can_alone s.lossy s.channels (reads s p t) b o o.basic)
          where
            by : (other can : Bool) → AllThere (if other then [] else (if can then Alone (pick p l i) t ∷ [] else pairs s t (pick p l i) (message s.channels (reads s p t) o.basic)))
            by true can = tt
            by false true = ((there, tt), tt)
            by false false = pairs_there t (pick p l i) there (message s.channels (reads s p t) o.basic)

    at_process : (t : Bool) → AllThere (moves_at s p t y)
    at_process t = by (body_of s.program y.sort) refl y.control refl
      where
        by : (b : Option Seq) → body_of s.program y.sort ≡ b → (c : Control) → y.control ≡ c → AllThere (moves_of s p t b c)
        by b e [] k = only_holds (AreThere s) (nat_eq (p + 1) (length s.stands)) (Death p) (dies p y stands)
        by None e (x ∷ c) k = tt
        by (Some b) e (x ∷ c) k = last_at (AreThere s) (moves_on s p t b) (levels b (x ∷ c)) (λ l os at.
            on_level t b l os (ap (λ (o : Option Seq). slice_get (levels_in o y.control) l) e ∙ ap (λ (d : Control). slice_get (levels b d) l) k ∙ at))

  under_there : (t : Bool) → AllThere (moves_under s t)
  under_there t = each_at (AreThere s) (λ p y. moves_at s p t y) s.stands (λ p y e. at_process p y e t)

  held_there : (h : Option ℕ) → AllThere (moves_held s h)
  held_there None = tt
  held_there (Some p) = by (slice_get s.stands p) refl
    where
      by : (y : Option Stand) → slice_get s.stands p ≡ y → AllThere (moves_if s p y)
      by None e = tt
      by (Some y) e = at_process p y e false

  all_there : AllThere (moves s)
  all_there = or_holds AllThere (moves_held s s.holder) (or_else (moves_under s false) (moves_under s true)) (held_there s.holder)
      (or_holds AllThere (moves_under s false) (moves_under s true) (under_there false) (under_there true))

pub listed_moves_have_origins : ListedMovesHaveOrigins
listed_moves_have_origins text lossy model state is leads m listed =
    let there : AreThere state.state m = by state.halt listed in
    record { there = there.0; names = texts_name_places state.state m there.0; receiver = receiver_names state.state m there.1 }
  where
    by : (h : Option Halt) → Contains (unless_stopped h (moves state.state)) m → AreThere state.state m
    by None c = element (AreThere state.state) (moves state.state) c.0 m (all_there state.state (reached_fits text lossy model state is leads)) c.1 c.2
    by (Some h) c = absurd (omega (arith, c.1))
