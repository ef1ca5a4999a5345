-- A process may end exactly at a valid end point.
use Rattle.std.proofs.Common.{◌≡◌, ◌≢◌, ◌⊎◌, inl, inr, MatchBool, ℕ, suc, ◌<◌, Bool, true, false, ◌&&◌, ◌||◌, List, [], ◌∷◌, length, Option, Some, None, refl, sym, ap, ◌∙◌, arith, eqb}
use Rattle.std.specs.Prelude.{slice_get}
use Rattle.std.specs.List.{list_any}
use Rattle.std.proofs.lemmas.Bool.Decides.{eqb_tells}
use Rattle.pml_program.specs.declared.program.Stmt.{Stmt}
use Rattle.pml_program.specs.declared.program.Seq.{Seq}
use Rattle.pml_program.specs.declared.program.Basic.{Basic}
use Rattle.promela_process.specs.Control.{Descent, Position, Todo, Back, Under, InAtomic, InDStep, Control, steps, basic_at, sequence_at, at, all_of, settle}
use Rattle.pml_control.proofs.Positions as positions
use Rattle.pml_control.proofs.Reaching.{IsAt}
use Rattle.pml_control.proofs.Circling.{got}
use Rattle.pml_flow.specs.Points.{points_of, point_at}
use Rattle.promela_process.specs.Offers.{statement_at, any_end, same_descents, same_position}
use Rattle.pml_flow.specs.Marked.{has_end, IsValidEnd, at_end, by_label}
use Rattle.pml_flow.specs.Graph.{Placed, IsGraph, Graph, is_end_at}
use Rattle.pml_flow.proofs.Begun.{begun}
use Rattle.pml_flow.proofs.Beginning.{read}
use Rattle.pml_flow.proofs.Differing.{placed}
use Rattle.promela_run.specs.World.{standing, is_end_place, may_end}
use Rattle.run_texts.proofs.Settled.{settled_at}
use Rattle.run_texts.proofs.Stated.{stated_at, is_among_all}

-- ---- positions that are equal

both : (s t : Bool) → (s && t) ≡ true → (s ≡ true) × (t ≡ true)
both true t h = (refl, h)
both false t h = cc

number_is : (m n : ℕ) → eqb m n ≡ true → m ≡ n
number_is m n h = by_case (eqb_tells m n)
  where
    by_case : ((eqb m n ≡ true) × (m ≡ n)) ⊎ ((eqb m n ≡ false) × (m ≢ n)) → m ≡ n
    by_case (inl e) = e.1
    by_case (inr e) = let z : true ≡ false = sym h ∙ e.0 in cc

number_same : (n : ℕ) → eqb n n ≡ true
number_same n = by_case (eqb_tells n n)
  where
    by_case : ((eqb n n ≡ true) × (n ≡ n)) ⊎ ((eqb n n ≡ false) × (n ≢ n)) → eqb n n ≡ true
    by_case (inl e) = e.0
    by_case (inr e) = absurd (e.1 refl)

turns_are : (q r : List Descent) → same_descents q r ≡ true → q ≡ r
turns_are [] [] h = refl
turns_are (t ∷ q) (u ∷ r) h =
    let a = both (eqb t.0 u.0) (eqb t.1 u.1 && same_descents q r) h in
    let c = both (eqb t.1 u.1) (same_descents q r) a.1 in
    ap (λ (n : ℕ). (n, t.1) ∷ q) (number_is t.0 u.0 a.0) ∙ ap (λ (n : ℕ). (u.0, n) ∷ q) (number_is t.1 u.1 c.0)
    ∙ ap (λ (s : List Descent). u ∷ s) (turns_are q r c.1)
turns_are [] (u ∷ r) h = cc
turns_are (t ∷ q) [] h = cc

turns_same : (q : List Descent) → same_descents q q ≡ true
turns_same [] = refl
turns_same (t ∷ q) =
    ap (λ x. x && (eqb t.1 t.1 && same_descents q q)) (number_same t.0) ∙ ap (λ x. x && same_descents q q) (number_same t.1) ∙ turns_same q

place_is : (p r : Position) → same_position (Some p) (Some r) ≡ true → p ≡ r
place_is p r h =
    let a = both (eqb p.1 r.1) (same_descents p.0 r.0) h in
    ap (λ (n : ℕ). (p.0, n)) (number_is p.1 r.1 a.0) ∙ ap (λ (q : List Descent). (q, r.1)) (turns_are p.0 r.0 a.1)

place_same : (p : Position) → same_position (Some p) (Some p) ≡ true
place_same p = ap (λ x. x && same_descents p.0 p.0) (number_same p.1) ∙ turns_same p.0

-- ---- one of a list

record Passes (f : Position × Stmt → Bool) (xs : List (Position × Stmt)) : Type 0 where
  index : ℕ
  item : Position × Stmt
  there : slice_get xs index ≡ Some item
  does : f item ≡ true

passes : (f : Position × Stmt → Bool) (xs : List (Position × Stmt)) → list_any f xs ≡ true → Passes f xs
passes f [] h = cc
passes f (x ∷ xs) h = by_case (f x) refl (passes f xs) h
  where
    by_case : (t : Bool) → f x ≡ t → (list_any f xs ≡ true → Passes f xs) → (t || list_any f xs) ≡ true → Passes f (x ∷ xs)
    by_case true e rest h = record { index = 0; item = x; there = refl; does = e }
    by_case false e rest h = let r = rest h in record { index = suc r.index; item = r.item; there = r.there; does = r.does }

-- ---- the points of a body

module _ (b : Seq) where
  -- c is what is to do at the place of what stands first
  record Stands (c : Control) : Type 0 where
    place : Position
    first : standing c ≡ Some place
    is : at (steps b) place ≡ c

  stands_by : (c : Control) (h : Placed b c) → (c ≡ [] → ⊥) → (o : Option Basic) → basic_at (sequence_at (steps b) h.position.0) h.position.1 ≡ o → Stands c
  stands_by c h l None e = absurd (l (sym h.is ∙ h.point.stands e))
  stands_by c h l (Some x) e = record {
    place = h.position;
    first = ap standing (sym h.is ∙ positions.stands (steps b) h.position.0 h.position.1 x e);
    is = h.is;
  }

  stands : (c : Control) → Placed b c → (c ≡ [] → ⊥) → Stands c
  stands c h l = stands_by c h l (basic_at (sequence_at (steps b) h.position.0) h.position.1) refl

  -- where the same stands first, the same is to do
  same : (c d : Control) (p : Position) → at (steps b) p ≡ c → IsAt (steps b) d → same_position (standing d) (Some p) ≡ true → d ≡ c
  same c [] p e i h = cc
  same c (Todo q x ∷ d) p e i h = sym (begun (steps b) q x d i) ∙ ap (at (steps b)) (place_is q p h) ∙ e
  same c (Back q x ∷ d) p e i h = cc
  same c (Under q x ∷ d) p e i h = cc
  same c (InAtomic q ∷ d) p e i h = cc
  same c (InDStep q ∷ d) p e i h = cc

  sound : (c : Control) → Stands c → list_any (is_end_place b c) (all_of b) ≡ true → IsValidEnd b c
  sound c s h =
      let r = passes (is_end_place b c) (all_of b) h in
      let p : Position = r.item.0 in
      let d : Control = at (steps b) p in
      let a = both (any_end r.item.1.labels) (same_position (standing (settle b d)) (standing c)) r.does in
      let e : same_position (standing (settle b d)) (Some s.place) ≡ true = ap (same_position (standing (settle b d))) (sym s.first) ∙ a.1 in
      by_label p (ap has_end (stated_at b r.index r.item r.there) ∙ a.0) (same c (settle b d) s.place s.is (settled_at b d (record { position = p; is = refl })) e)

  complete : (c : Control) → Stands c → (c ≡ [] → ⊥) → IsValidEnd b c → list_any (is_end_place b c) (all_of b) ≡ true
  complete c s l (at_end e) = absurd (l e)
  complete c s l (by_label p f e) = by_statement (statement_at b p) refl f
    where
      by_statement : (o : Option Stmt) → statement_at b p ≡ o → has_end o ≡ true → list_any (is_end_place b c) (all_of b) ≡ true
      by_statement None g f = cc
      by_statement (Some x) g f =
          let m : same_position (standing (settle b (at (steps b) p))) (standing c) ≡ true =
          ap (λ z. same_position (standing z) (standing c)) e ∙ ap (λ z. same_position z z) s.first ∙ place_same s.place in
          is_among_all b (is_end_place b c) p x g (ap (λ t. t && same_position (standing (settle b (at (steps b) p))) (standing c)) f ∙ m)

  pub decides : (c : Control) → Placed b c → MatchBool (may_end b c) (IsValidEnd b c) (IsValidEnd b c → ⊥)
  decides [] h = at_end refl
  decides (f ∷ c) h = by_case (list_any (is_end_place b (f ∷ c)) (all_of b)) refl
    where
      left : f ∷ c ≡ [] → ⊥
      left e = cc

      by_case : (t : Bool) → list_any (is_end_place b (f ∷ c)) (all_of b) ≡ t → MatchBool t (IsValidEnd b (f ∷ c)) (IsValidEnd b (f ∷ c) → ⊥)
      by_case true e = sound (f ∷ c) (stands (f ∷ c) h left) e
      by_case false e = λ v. let z : true ≡ false = sym (complete (f ∷ c) (stands (f ∷ c) h left) left v) ∙ e in cc

-- two answers to one question
agree : (P : Type 0) (s t : Bool) → MatchBool s P (P → ⊥) → MatchBool t P (P → ⊥) → s ≡ t
agree P true true h k = refl
agree P true false h k = absurd (k h)
agree P false true h k = absurd (h k)
agree P false false h k = refl

-- what a graph says of its nodes
pub end_is : (b : Seq) (brace : ℕ) (g : Graph) (n : ℕ) (says : Bool) → IsGraph b brace g → n < length g.nodes → says ≡ is_end_at g.ends n → says ≡ may_end b (point_at b n)
end_is b brace g n says h l k =
    let x = got (points_of b) n (omega (arith, l, h.nodes)) in
    let e : point_at b n ≡ x.0 = read (points_of b) n x.0 [] x.1 in
    k ∙ agree (IsValidEnd b x.0) (is_end_at g.ends n) (may_end b x.0) (h.ends n x.0 x.1) (decides b x.0 (placed b n x.0 x.1))
    ∙ ap (may_end b) (sym e)
