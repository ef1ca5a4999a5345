-- What begins with a statement is what is to do at its position.
use Rattle.std.proofs.Common.{◌≡◌, ℕ, zero, suc, ◌+◌, List, [], ◌∷◌, drop, Option, Some, None, refl, sym, ap, ◌∙◌}
use Rattle.std.specs.Prelude.{slice_get}
use Rattle.pml_program.specs.declared.program.Stmt.{Stmt}
use Rattle.pml_program.specs.declared.program.Seq.{Seq}
use Rattle.pml_program.specs.declared.program.Basic.{Basic, Plain, Goto, Break, If', Do', Block, Atomic, DStep, Unless}
use Rattle.promela_process.specs.Control.{Descent, Position, Todo, Control, steps, basic_at, sequence_at, beyond, behind, at, into_arm, todos, settle}
use Rattle.pml_control.proofs.Words.{basic_of, behind_of}
use Rattle.pml_control.proofs.Positions.{stands, entered}
use Rattle.pml_control.proofs.Reaching.{IsAt, first_of}
use Rattle.promela_process.specs.Offers.{entry_of}
use Rattle.pml_flow.specs.Graph.{first_position, maybe}
use Rattle.pml_flow.proofs.Beginning.{enters}

-- the statement x stands at p, before c
pub record StandsAt (bs : List Stmt) (p : Position) (x : Basic) (c : Control) : Type 0 where
  pub there : basic_at (sequence_at bs p.0) p.1 ≡ Some x
  pub next : at bs (p.0, p.1 + 1) ≡ c

tail_same : (p q : Position) (x y : Basic) (c d : Control) → Todo p x ∷ c ≡ Todo q y ∷ d → (p ≡ q) × (x ≡ y) × (c ≡ d)
tail_same p q x y c d h = (cc, cc, cc)

module _ (bs : List Stmt) where
  -- what stands first among the rest of a sequence, or behind it
  begun_by : (q : List Descent) (i : ℕ) (ss : List Stmt) (p : Position) (x : Basic) (c : Control) → drop i (sequence_at bs q) ≡ ss → ((p : Position) (x : Basic) (c : Control) → beyond bs q ≡ Todo p x ∷ c → StandsAt bs p x c) → todos q i ss (beyond bs q) ≡ Todo p x ∷ c → StandsAt bs p x c
  begun_by q i [] p x c e rest h = rest p x c h
  begun_by q i (s ∷ ss) p x c e rest h =
      let k = tail_same (q, i) p s.basic x (todos q (i + 1) ss (beyond bs q)) c h in
      let f : basic_at (sequence_at bs q) i ≡ Some s.basic = ap basic_of (first_of (sequence_at bs q) i s ss e) in
      let g = stands bs q i s.basic f in
      let z = tail_same (q, i) p s.basic x (at bs (q, i + 1)) c (sym g ∙ ap (λ xs. todos q i xs (beyond bs q)) e ∙ h) in
      record {
        there = ap (λ (r : Position). basic_at (sequence_at bs r.0) r.1) (sym k.0) ∙ f ∙ ap Some k.1;
        next = ap (λ (r : Position). at bs (r.0, r.1 + 1)) (sym k.0) ∙ z.2;
      }

  begun_behind : (p : Position) (o : Option Stmt) (k : ℕ) (d : Control) (r : Position) (x : Basic) (c : Control) → ((r : Position) (x : Basic) (c : Control) → d ≡ Todo r x ∷ c → StandsAt bs r x c) → behind_of p o k d ≡ Todo r x ∷ c → StandsAt bs r x c
  begun_behind p None k d r x c rest h = cc
  begun_behind p (Some s) k d r x c rest h = by_case s.basic k h
    where
      by_case : (y : Basic) (k : ℕ) → behind p y k d ≡ Todo r x ∷ c → StandsAt bs r x c
      by_case (Plain a) k h = rest r x c h
      by_case (Goto l) k h = rest r x c h
      by_case Break k h = rest r x c h
      by_case (If' m row) k h = rest r x c h
      by_case (Do' m row) k h = cc
      by_case (Block s) k h = rest r x c h
      by_case (Atomic s) k h = cc
      by_case (DStep s) k h = cc
      by_case (Unless s e) zero h = cc
      by_case (Unless s e) (suc k) h = rest r x c h

  begun_beyond : (q : List Descent) (p : Position) (x : Basic) (c : Control) → beyond bs q ≡ Todo p x ∷ c → StandsAt bs p x c
  begun_beyond [] p x c h = cc
  begun_beyond (t ∷ q) p x c h =
      begun_behind (q, t.0) (slice_get (sequence_at bs q) t.0) t.1 (todos q (t.0 + 1) (drop (t.0 + 1) (sequence_at bs q)) (beyond bs q)) p x c
      (λ r y d e. begun_by q (t.0 + 1) (drop (t.0 + 1) (sequence_at bs q)) r y d refl (begun_beyond q) e) h

  pub begun_there : (p : Position) (x : Basic) (c : Control) → IsAt bs (Todo p x ∷ c) → StandsAt bs p x c
  begun_there p x c i = begun_by i.position.0 i.position.1 (drop i.position.1 (sequence_at bs i.position.0)) p x c refl (begun_beyond i.position.0) i.is

  abbrev pub Placed_at : Control → Type 0
  Placed_at c = at bs (first_position c) ≡ c

  pub begun : (p : Position) (x : Basic) (c : Control) → IsAt bs (Todo p x ∷ c) → Placed_at (Todo p x ∷ c)
  begun p x c i =
      let s = begun_there p x c i in stands bs p.0 p.1 x s.there ∙ ap (λ d. Todo p x ∷ d) s.next

-- the first point inside
pub entered_is : (b : Seq) (p : Position) (x : Basic) (c : Control) → StandsAt (steps b) p x c → maybe (settle b) (enters p x c) ≡ entry_of b p (Some x)
entered_is b p (DStep s) c h =
    ap (λ d. Some (settle b (into_arm p (DStep s) 0 d))) (sym h.next)
    ∙ ap (λ d. Some (settle b d)) (sym (entered (steps b) p.0 p.1 0 (DStep s) h.there))
entered_is b p (Plain a) c h = refl
entered_is b p (Goto l) c h = refl
entered_is b p Break c h = refl
entered_is b p (If' m row) c h = refl
entered_is b p (Do' m row) c h = refl
entered_is b p (Block s) c h = refl
entered_is b p (Atomic s) c h = refl
entered_is b p (Unless s e) c h = refl
