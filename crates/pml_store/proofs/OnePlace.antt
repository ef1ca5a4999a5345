-- A store is a map from places to numbers.
use Rattle.std.proofs.Common.{◌≡◌, ℕ, ◌<◌, Bool, true, false, ◌&&◌, cond, nat_eq, List, [], length, get_or, set, ℤ, pos, refl, sym, ap, ◌∙◌, arith}
use Rattle.std.proofs.lemmas.Grind.{common_steps}
use Rattle.std.proofs.lemmas.Bool.Decides.{nat_tests}
use Rattle.promela_process.specs.declared.place.Place.{Place}
use Rattle.promela_process.specs.Store.{Frame, Cells, frame_at, cells_at, number_at, with_number}
use Rattle.pml_store.specs.Writing.{HasPlace, is_same}

at_set : {X : Type 0} (xs : List X) (i j : ℕ) (v d : X) → i < length xs → get_or (set xs i v) j d ≡ cond (nat_eq i j) v (get_or xs j d)
at_set xs i j v d h = grind (arith, common_steps, nat_tests)

at_cells : (b : Bool) (cs ds : Cells) (i j : ℕ) (v : ℤ) → i < length cs → (b ≡ true → ds ≡ cs) → get_or (cond b (set cs i v) ds) j (pos 0) ≡ cond (b && nat_eq i j) v (get_or ds j (pos 0))
at_cells true cs ds i j v h e = at_set cs i j v (pos 0) h ∙ ap (λ (x : Cells). cond (nat_eq i j) v (get_or x j (pos 0))) (sym (e refl))
at_cells false cs ds i j v h e = refl

at_frame : (b : Bool) (f g : Frame) (i j k l : ℕ) (v : ℤ) → i < length f → k < length (get_or f i []) → (b ≡ true → g ≡ f) → get_or (get_or (cond b (set f i (set (get_or f i []) k v)) g) j []) l (pos 0) ≡ cond (b && (nat_eq i j && nat_eq k l)) v (get_or (get_or g j []) l (pos 0))
at_frame true f g i j k l v h m e =
    ap (λ (x : Cells). get_or x l (pos 0)) (at_set f i j (set (get_or f i []) k v) [] h)
    ∙ at_cells (nat_eq i j) (get_or f i []) (get_or f j []) k l v m (λ t. let s : j ≡ i = grind (arith, nat_tests) in ap (λ (n : ℕ). get_or f n []) s)
    ∙ ap (λ (x : Frame). cond (nat_eq i j && nat_eq k l) v (get_or (get_or x j []) l (pos 0))) (sym (e refl))
at_frame false f g i j k l v h m e = refl

pub number_at-with_number : (frames : List Frame) (p q : Place) (v : ℤ) → HasPlace frames p → number_at (with_number frames p v) q ≡ cond (is_same p q) v (number_at frames q)
number_at-with_number frames p q v h =
    ap (λ (x : Frame). get_or (get_or x q.variable []) q.cell (pos 0)) (at_set frames p.frame q.frame (set (frame_at frames p.frame) p.variable (set (cells_at frames p) p.cell v)) [] h.frame)
    ∙ at_frame (nat_eq p.frame q.frame) (frame_at frames p.frame) (frame_at frames q.frame) p.variable q.variable p.cell q.cell v h.variable h.cell (λ t. let s : q.frame ≡ p.frame = grind (arith, nat_tests) in ap (frame_at frames) s)
