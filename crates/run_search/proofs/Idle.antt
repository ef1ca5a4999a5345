-- Statements that give a process no move.
use Rattle.std.proofs.Common.{◌≡◌, ℕ, ◌+◌, ◌<◌, ◌≤◌, Bool, true, false, ◌||◌, ◌&&◌, not, arith, nat_eq, nat_lt, if◌then◌else◌, List, [], ◌∷◌, get_or, length, map, drop, ℤ, refl, sym, ap, ◌∙◌, Option, Some, None, Result, Ok, Err}
use Rattle.diagnostics.specs.declared.fault.Fault.{Fault}
use Rattle.pml_tree.specs.declared.tree.Search.{Search}
use Rattle.pml_tree.specs.declared.tree.Removal.{Removal}
use Rattle.pml_tree.specs.declared.tree.SendOrder.{SendOrder}
use Rattle.pml_flow.specs.declared.edge.Edge.{Edge}
use Rattle.pml_program.specs.declared.expr.Expr.{Expr}
use Rattle.pml_program.specs.declared.expr.Target.{Target}
use Rattle.pml_program.specs.declared.expr.Want.{Want}
use Rattle.pml_program.specs.declared.program.Action.TheVariants.{Send, Receive}
use Rattle.pml_program.specs.declared.program.Basic.{Basic, Plain}
use Rattle.pml_program.specs.declared.program.Seq.{Seq}
use Rattle.promela_process.specs.Expressions.{Reading, asked_by, is_match, ◌>>=◌}
use Rattle.std.specs.Ordering.{int_eq}
use Rattle.std.proofs.lemmas.Int.{ints}
use Rattle.promela_process.specs.Offers.{Offer}
use Rattle.promela_process.specs.Store.{cut}
use Rattle.promela_run.specs.declared.live_channel.LiveChannel.{LiveChannel}
use Rattle.promela_run.specs.declared.moves.Pick.{Pick}
use Rattle.promela_run.specs.declared.moves.Move.{Move}
use Rattle.promela_run.specs.declared.moves.Move.TheVariants.{Alone}
use Rattle.promela_run.specs.State.{State, reads}
use Rattle.promela_run.specs.Statements.{values}
use Rattle.promela_run.specs.Moves.{Named, Message, named, is_rendezvous, or_fault, can_send, can_receive, can_alone, message, message_on, is_else, only_if, or_else, each, pick, pairs, plain_moves, else_moves, moves_on}
use Rattle.run_search.specs.declared.demand.OwnMoves.{OwnMoves}
use Rattle.run_search.specs.declared.demand.OwnMoves.TheVariants.{Unknown, Nothing, Over}
use Rattle.run_search.specs.Fields.{evaluated}
use Rattle.run_search.specs.Demands.{HasNone, IsOver, goes_over, gives_none, gives_none_to}
use Rattle.run_search.proofs.Waiting.{skip_at, over}

-- a receive from a channel without messages
pub idle_receive : (own : OwnMoves) (lossy : Bool) (cs : List LiveChannel) (r : Reading) (b : Seq) (x : Offer) (t : Target) (search : Search) (how : Removal) (ws : List Want) (n : Named) → named cs r t (length ws) ≡ Ok n
    → (is_rendezvous n.contents || nat_eq (length n.contents.messages) 0) ≡ true → gives_none own lossy cs r b x (Some (Plain (Receive t search how ws))) ≡ true
idle_receive own lossy cs r b x t search how ws n e bare = by own
  where
    waits : can_alone lossy cs r b x (Some (Plain (Receive t search how ws))) ≡ false
    waits =
        ap (λ (c : Result Named Fault). or_fault (c >>= λ c. can_receive search c.contents (asked_by ws r))) e
        ∙ ap (λ (o : Bool). or_fault (if o then Ok false else (asked_by ws r >>= λ ws. Ok (is_match search ws n.contents.messages)))) bare

    by : (own : OwnMoves) → gives_none own lossy cs r b x (Some (Plain (Receive t search how ws))) ≡ true
    by Unknown = refl
    by Nothing = ap (λ (o : Bool). not o && true) waits
    by (Over k) = ap (λ (o : Bool). not o && true) waits

-- a send at a rendezvous whose fields have values
pub idle_send : (own : OwnMoves) (lossy : Bool) (cs : List LiveChannel) (r : Reading) (b : Seq) (x : Offer) (t : Target) (order : SendOrder) (es : List Expr) (n : Named) → named cs r t (length es) ≡ Ok n
    → is_rendezvous n.contents ≡ true → evaluated (values es r) ≡ Ok tt → IsOver own n.number → gives_none own lossy cs r b x (Some (Plain (Send t order es))) ≡ true
idle_send own lossy cs r b x t order es n e meets fine over = by (values es r) refl own over
  where
    waits : (vs : List ℤ) → values es r ≡ Ok vs → can_alone lossy cs r b x (Some (Plain (Send t order es))) ≡ false
    waits vs q =
        ap (λ (c : Result Named Fault). or_fault (c >>= λ c. can_send lossy false c.contents (values es r))) e
        ∙ (ap (λ (o : Bool). or_fault (if o then (values es r >>= λ (vs : List ℤ). Ok false) else Ok (lossy || nat_lt (length n.contents.messages) n.contents.capacity))) meets
        ∙ ap (λ (vs : Result (List ℤ) Fault). or_fault (vs >>= λ (vs : List ℤ). Ok false)) q)

    sends : (vs : List ℤ) → values es r ≡ Ok vs → message cs r (Some (Plain (Send t order es))) ≡ Some (record { number = n.number; fields = cut n.contents.types vs })
    sends vs q =
        ap (λ (c : Result Named Fault). message_on c (values es r)) e
        ∙ (ap (λ (ws : Result (List ℤ) Fault). message_on (Ok n) ws) q
        ∙ ap (λ (o : Bool). if o then Some (record { number = n.number; fields = cut n.contents.types vs }) else None) meets)

    same : (a c : ℤ) → a ≡ c → int_eq a c ≡ true
    same a c q = grind (arith, ints)

    by : (vs : Result (List ℤ) Fault) → values es r ≡ vs → (own : OwnMoves) → IsOver own n.number → gives_none own lossy cs r b x (Some (Plain (Send t order es))) ≡ true
    by (Err f) q own o = let no : Err f ≡ Ok tt = sym (ap evaluated q) ∙ fine in cc
    by (Ok vs) q Unknown o = refl
    by (Ok vs) q Nothing o = absurd o
    by (Ok vs) q (Over k) o =
        ap (λ (a : Bool). not a && goes_over (Over k) (message cs r (Some (Plain (Send t order es))))) (waits vs q)
        ∙ (ap (λ (m : Option Message). goes_over (Over k) m) (sends vs q) ∙ same k n.number o)

-- ---- a level

-- what an offer gives that is no `else`
abbrev pub plain_of : State → Bool → ℕ → Seq → ℕ → ℕ → Offer → List Move
plain_of s t j b v i o =
    if is_else o.basic then []
    else (if can_alone s.lossy s.channels (reads s j t) b o o.basic then Alone (pick j v i) t ∷ [] else pairs s t (pick j v i) (message s.channels (reads s j t) o.basic))

-- the offers of a level before this one give no move
pub record AreIdleTo (s : State) (t : Bool) (j : ℕ) (g : Edge → Offer) (es : List Edge) (i : ℕ) : Type 0 where
  pub plain : (b : Seq) (v : ℕ) → each (plain_of s t j b v) i (map g (drop i es)) ≡ plain_moves s j t b v (map g es)
  pub other : (b : Seq) (v : ℕ) → each (λ n (o : Offer). only_if (is_else o.basic) (Alone (pick j v n) t)) i (map g (drop i es)) ≡ else_moves j t v (map g es)

pub none_yet : (s : State) (t : Bool) (j : ℕ) (g : Edge → Offer) (es : List Edge) → AreIdleTo s t j g es 0
none_yet s t j g es = record { plain = λ b v. refl; other = λ b v. refl }

first_of : (a c : Bool) → (a && c) ≡ true → a ≡ true
first_of true c e = refl
first_of false c e = cc

second_of : (a c : Bool) → (a && c) ≡ true → c ≡ true
second_of true c e = e
second_of false c e = cc

no : (a : Bool) → not a ≡ true → a ≡ false
no true e = cc
no false e = refl

equal : (a c : ℤ) → int_eq a c ≡ true → a ≡ c
equal a c e = grind (arith, ints)

-- over a channel where nobody hears nothing is handed over
no_pairs : (s : State) (t : Bool) (k : Pick) (own : OwnMoves) (m : Option Message) → HasNone s t own → goes_over own m ≡ true → pairs s t k m ≡ []
no_pairs s t k own None none e = refl
no_pairs s t k Unknown (Some m) none e = absurd none
no_pairs s t k Nothing (Some m) none e = cc
no_pairs s t k (Over n) (Some m) none e = none k m (equal n m.number e)

three : (a c d : Bool) → (not a && (not c && d)) ≡ true → (a ≡ false) × ((c ≡ false) × (d ≡ true))
three a c d e =
    let rest = second_of (not a) (not c && d) e in
    (no a (first_of (not a) (not c && d) e), (no c (first_of (not c) d rest), second_of (not c) d rest))

-- of what gives none where something is known
parts : (own : OwnMoves) (s : State) (t : Bool) (j : ℕ) (b : Seq) (x : Offer) (o : Option Basic) → HasNone s t own → gives_none_to own s j t b x o ≡ true
    → (is_else o ≡ false) × ((can_alone s.lossy s.channels (reads s j t) b x o ≡ false) × (goes_over own (message s.channels (reads s j t) o) ≡ true))
parts Unknown s t j b x o none e = absurd none
parts Nothing s t j b x o none e = three (is_else o) (can_alone s.lossy s.channels (reads s j t) b x o) (goes_over Nothing (message s.channels (reads s j t) o)) e
parts (Over n) s t j b x o none e = three (is_else o) (can_alone s.lossy s.channels (reads s j t) b x o) (goes_over (Over n) (message s.channels (reads s j t) o)) e

-- one more gives none
pub one_idle : (s : State) (t : Bool) (j : ℕ) (own : OwnMoves) (g : Edge → Offer) (es : List Edge) (i : ℕ) (d : Edge) → i < length es → HasNone s t own
    → ((b : Seq) (x : Offer) → gives_none_to own s j t b x (g (get_or es i d)).basic ≡ true) → AreIdleTo s t j g es i → AreIdleTo s t j g es (i + 1)
one_idle s t j own g es i d l nobody idle so_far = record {
  plain = λ b v. skip_at (plain_of s t j b v) g es i d (plain_moves s j t b v (map g es)) l (none b v) (so_far.plain b v);
  other = λ b v. skip_at (λ n (o : Offer). only_if (is_else o.basic) (Alone (pick j v n) t)) g es i d (else_moves j t v (map g es)) l
      (ap (λ (e : Bool). only_if e (Alone (pick j v i) t)) (parts own s t j b o o.basic nobody (idle b o)).0) (so_far.other b v);
}
  where
    o : Offer
    o = g (get_or es i d)

    none : (b : Seq) (v : ℕ) → plain_of s t j b v i o ≡ []
    none b v =
        let three = parts own s t j b o o.basic nobody (idle b o) in
        ap (λ (e : Bool). if e then [] else (if can_alone s.lossy s.channels (reads s j t) b o o.basic then Alone (pick j v i) t ∷ [] else pairs s t (pick j v i) (message s.channels (reads s j t) o.basic))) three.0
        ∙ (ap (λ (e : Bool). if e then Alone (pick j v i) t ∷ [] else pairs s t (pick j v i) (message s.channels (reads s j t) o.basic)) three.1.0
        ∙ no_pairs s t (pick j v i) own (message s.channels (reads s j t) o.basic) nobody three.1.1)

-- where none gives any the level has none
pub all_idle : (s : State) (t : Bool) (j : ℕ) (g : Edge → Offer) (es : List Edge) (i : ℕ) → length es ≤ i → AreIdleTo s t j g es i → (b : Seq) (v : ℕ) → moves_on s j t b v (map g es) ≡ []
all_idle s t j g es i l idle b v =
    ap (λ (xs : List Move). or_else xs (else_moves j t v (map g es))) (over (plain_of s t j b v) g es i (plain_moves s j t b v (map g es)) l (idle.plain b v))
    ∙ over (λ n (o : Offer). only_if (is_else o.basic) (Alone (pick j v n) t)) g es i (else_moves j t v (map g es)) l (idle.other b v)
