-- Two nodes of a body are one where the same statement stands first.
use Rattle.std.proofs.Common.{◌≡◌, ℕ, zero, suc, ◌<◌, Bool, true, false, eqb, List, [], ◌∷◌, length, Option, Some, refl, sym, ap, subst, ◌∙◌, eqb-true, eq-eqb, ne_eqb, arith}
use Rattle.std.proofs.lemmas.Bool.{and_from, and_parts, false≢true, true≢false}
use Rattle.promela_process.specs.Control.{Descent, Position, Control, at, steps}
use Rattle.pml_program.specs.declared.program.Seq.{Seq}
use Rattle.pml_flow.specs.Graph.{first_position}
use Rattle.pml_flow.specs.Points.{points_of, points_arm, point_at}
use Rattle.pml_flow.proofs.Lawful.{each-get, Stands, all_stand}
use Rattle.pml_flow.proofs.Differing.{one_node}
use Rattle.promela_run.specs.State.{State, body_of}
use Rattle.run_state.specs.declared.body.Body.{Body}
use Rattle.run_state.specs.declared.seat.Seat.{Seat}
use Rattle.run_state.specs.Standing.{StandsIn, control_at, stand_of}
use Rattle.run_state.proofs.Finding.{got, there}
use Rattle.view_condition.specs.Standing.{same_descents, same_position, same_first}

descents_itself : (q : List Descent) → same_descents q q ≡ true
descents_itself [] = refl
descents_itself (t ∷ q) = and_from _ _ (eq-eqb t.0 t.0 refl) (and_from _ _ (eq-eqb t.1 t.1 refl) (descents_itself q))

descents_same : (q r : List Descent) → same_descents q r ≡ true → q ≡ r
descents_same [] [] e = refl
descents_same [] (u ∷ r) e = absurd (false≢true e)
descents_same (t ∷ q) [] e = absurd (false≢true e)
descents_same (t ∷ q) (u ∷ r) e =
    let one = and_parts (eqb t.0 u.0) _ e in
    let two = and_parts (eqb t.1 u.1) _ one.1 in
    let head : t ≡ u = ap (λ (k : ℕ). (k, t.1)) (eqb-true t.0 u.0 one.0) ∙ ap (λ (k : ℕ). (u.0, k)) (eqb-true t.1 u.1 two.0) in
    ap (λ (d : Descent). d ∷ q) head ∙ ap (λ (l : List Descent). u ∷ l) (descents_same q r two.1)

position_itself : (p : Position) → same_position p p ≡ true
position_itself p = and_from _ _ (eq-eqb p.1 p.1 refl) (descents_itself p.0)

position_same : (p r : Position) → same_position p r ≡ true → p ≡ r
position_same p r e =
    let one = and_parts (eqb p.1 r.1) _ e in
    ap (λ (k : ℕ). (p.0, k)) (eqb-true p.1 r.1 one.0) ∙ ap (λ (q : List Descent). (q, r.1)) (descents_same p.0 r.0 one.1)

first_same : (c d : Control) → same_first c d ≡ true → first_position c ≡ first_position d
first_same [] [] e = refl
first_same [] (g ∷ d) e = absurd (false≢true e)
first_same (f ∷ c) [] e = absurd (false≢true e)
first_same (f ∷ c) (g ∷ d) e = position_same (first_position (f ∷ c)) (first_position (g ∷ d)) e

pub same_itself : (c : Control) → same_first c c ≡ true
same_itself [] = refl
same_itself (f ∷ c) = position_itself (first_position (f ∷ c))

-- nothing is left in one of two alone
pub differ_left : (c d : Control) → c ≡ [] → (d ≡ [] → ⊥) → same_first c d ≡ false
differ_left [] [] e h = absurd (h refl)
differ_left [] (g ∷ d) e h = refl
differ_left (f ∷ c) d e h = cc

pub differ_right : (c d : Control) → (c ≡ [] → ⊥) → d ≡ [] → same_first c d ≡ false
differ_right [] d h e = absurd (h refl)
differ_right (f ∷ c) [] h e = refl
differ_right (f ∷ c) (g ∷ d) h e = cc

pub both_nothing : (c d : Control) → c ≡ [] → d ≡ [] → same_first c d ≡ true
both_nothing [] [] e h = refl
both_nothing [] (g ∷ d) e h = cc
both_nothing (f ∷ c) d e h = cc

-- two nodes where something is left are one if the same statement stands first
pub same_node : (b : Seq) (m n : ℕ) → m < length (points_of b) → n < length (points_of b) → (point_at b m ≡ [] → ⊥) → (point_at b n ≡ [] → ⊥) → same_first (point_at b m) (point_at b n) ≡ true → m ≡ n
same_node b zero n l k x y e = absurd (x refl)
same_node b (suc m) zero l k x y e = absurd (y refl)
same_node b (suc m) (suc n) l k x y e =
    let c = there (points_of b) (suc m) l in
    let d = there (points_of b) (suc n) k in
    let f : point_at b (suc m) ≡ c.0 = got (points_of b) (suc m) c.0 [] c.1 in
    let g : point_at b (suc n) ≡ d.0 = got (points_of b) (suc n) d.0 [] d.1 in
    let s : Stands b c.0 = each-get (Stands b) (points_arm false [] [] b) m c.0 (all_stand b) c.1 in
    let t : Stands b d.0 = each-get (Stands b) (points_arm false [] [] b) n d.0 (all_stand b) d.1 in
    let p : first_position c.0 ≡ first_position d.0 = ap first_position (sym f) ∙ first_same (point_at b (suc m)) (point_at b (suc n)) e ∙ ap first_position g in
    let z : c.0 ≡ d.0 = sym s.is ∙ ap (at (steps b)) p ∙ t.is in
    one_node b (suc m) (suc n) d.0 (c.1 ∙ ap Some z) d.1

point_by : (b : Seq) (s : State) (x : Seat) → body_of s.program x.sort ≡ Some b → (stand_of s.program x).control ≡ point_at b x.node
point_by b s x e = ap (λ (o : Option Seq). control_at o x.node) e

one_body : (b d : Seq) → Some b ≡ Some d → b ≡ d
one_body b d e = cc

-- the seats of two processes of one proctype, where something is left to do in both
pub seats_same : (s : State) (x y : Seat) (k l : Body) → x.sort ≡ y.sort → StandsIn s x k → StandsIn s y l → eqb x.node y.node ≡ same_first (stand_of s.program y).control (stand_of s.program x).control
seats_same s x y k l same one other = by (same_first (stand_of s.program y).control (stand_of s.program x).control) refl
  where
    b : Seq
    b = k.proctype.now.body

    bodies : l.proctype.now.body ≡ b
    bodies = one_body l.proctype.now.body b (sym other.body ∙ ap (body_of s.program) (sym same) ∙ one.body)

    other_body : body_of s.program y.sort ≡ Some b
    other_body = ap (body_of s.program) (sym same) ∙ one.body

    within : y.node < length (points_of b)
    within = let m : y.node < length (points_of l.proctype.now.body) = omega (arith, other.node, other.is.graph.nodes) in subst (λ (d : Seq). y.node < length (points_of d)) bodies m

    left : point_at b y.node ≡ [] → ⊥
    left e = other.left (subst (λ (d : Seq). point_at d y.node ≡ []) (sym bodies) e)

    by : (t : Bool) → same_first (stand_of s.program y).control (stand_of s.program x).control ≡ t → eqb x.node y.node ≡ t
    by true e =
        let m : x.node < length (points_of b) = omega (arith, one.node, one.is.graph.nodes) in
        let f : same_first (point_at b y.node) (point_at b x.node) ≡ true =
        sym (ap (λ (c : Control). same_first c (stand_of s.program x).control) (point_by b s y other_body) ∙ ap (same_first (point_at b y.node)) (point_by b s x one.body)) ∙ e in
        eq-eqb x.node y.node (sym (same_node b y.node x.node within m left one.left f))
    by false e = ne_eqb x.node y.node (λ z.
        let f : (stand_of s.program y).control ≡ (stand_of s.program x).control =
        point_by b s y other_body ∙ ap (point_at b) (sym z) ∙ sym (point_by b s x one.body) in
        true≢false (sym (same_itself (stand_of s.program x).control) ∙ ap (λ (c : Control). same_first c (stand_of s.program x).control) (sym f) ∙ e))
