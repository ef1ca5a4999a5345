-- What settling comes to from a position is what is to do at a position.
use Rattle.std.proofs.Common.{◌≡◌, ℕ, zero, suc, ◌+◌, Bool, true, false, List, [], ◌∷◌, length, drop, Option, Some, None, refl, sym, ap, subst, ◌∙◌, if◌then◌else◌}
use Rattle.std.specs.Prelude.{slice_get}
use Rattle.pml_program.specs.declared.program.Stmt.{Stmt}
use Rattle.pml_program.specs.declared.program.Seq.{Seq}
use Rattle.pml_program.specs.declared.program.Basic.{Basic, Plain, Goto, Break, If', Do', Block, Atomic, DStep, Unless}
use Rattle.promela_process.specs.Control.{Descent, Position, Todo, Control, steps, basic_at, sequence_at, beyond, behind, at, position_of, all_of, into_arm, behind_break, in_d_step, move_on, settle, settle_within, most_moves}
use Rattle.pml_control.proofs.Words.{basic_of, behind_of, at_position, go_on}
use Rattle.pml_control.proofs.Positions.{stands, past, entered}
use Rattle.pml_control.proofs.Reaching.{IsAt}
use Rattle.pml_control.proofs.Settling.{broken_todos}

past_end : {X : Type 0} (xs : List X) → slice_get xs (length xs) ≡ None
past_end [] = refl
past_end (x ∷ xs) = past_end xs

some_is : {X : Type 0} (x y : X) → Some x ≡ Some y → x ≡ y
some_is x y h = cc

module _ (b : Seq) where
  abbrev bs : List Stmt
  bs = steps b

  nothing : IsAt bs []
  nothing = record { position = ([], length bs); is = past bs [] (length bs) (ap basic_of (past_end bs)) }

  here : (p : Position) → IsAt bs (at bs p)
  here p = record { position = p; is = refl }

  -- a control that a move goes to
  came : (p : Position) (d : Control) → Some (at bs p) ≡ Some d → IsAt bs d
  came p d m = record { position = p; is = some_is (at bs p) d m }

  -- ---- a break

  broken_behind : (p : Position) (o : Option Stmt) (k : ℕ) (c : Control) → IsAt bs c → IsAt bs (behind_break c) → IsAt bs (behind_break (behind_of p o k c))
  broken_behind p None k c i h = nothing
  broken_behind p (Some s) k c i h = by_case s.basic k
    where
      by_case : (x : Basic) (k : ℕ) → IsAt bs (behind_break (behind p x k c))
      by_case (Plain a) k = h
      by_case (Goto l) k = h
      by_case Break k = h
      by_case (If' m row) k = h
      by_case (Do' m row) k = i
      by_case (Block s) k = h
      by_case (Atomic s) k = h
      by_case (DStep s) k = h
      by_case (Unless s e) zero = h
      by_case (Unless s e) (suc k) = h

  broken_at : (q : List Descent) (i : ℕ) → IsAt bs (behind_break (beyond bs q)) → IsAt bs (behind_break (at bs (q, i)))
  broken_at q i h = subst (λ (c : Control). IsAt bs c) (sym (broken_todos q i (drop i (sequence_at bs q)) (beyond bs q))) h

  broken_beyond : (q : List Descent) → IsAt bs (behind_break (beyond bs q))
  broken_beyond [] = nothing
  broken_beyond (t ∷ q) =
      broken_behind (q, t.0) (slice_get (sequence_at bs q) t.0) t.1 (at bs (q, t.0 + 1)) (here (q, t.0 + 1)) (broken_at q (t.0 + 1) (broken_beyond q))

  -- ---- one move

  abbrev Moves : Control → Type 0
  Moves c = (d : Control) → move_on b c ≡ Some d → IsAt bs d

  moves_behind : (q : List Descent) (j : ℕ) (o : Option Stmt) (k : ℕ) → slice_get (sequence_at bs q) j ≡ o → Moves (at bs (q, j + 1)) → Moves (behind_of (q, j) o k (at bs (q, j + 1)))
  moves_behind q j None k e h d m = cc
  moves_behind q j (Some s) k e h d m = by_case s.basic k (ap basic_of e) m
    where
      by_case : (x : Basic) (k : ℕ) → basic_at (sequence_at bs q) j ≡ Some x → move_on b (behind (q, j) x k (at bs (q, j + 1))) ≡ Some d → IsAt bs d
      by_case (Plain a) k f m = h d m
      by_case (Goto l) k f m = h d m
      by_case Break k f m = h d m
      by_case (If' n row) k f m = h d m
      by_case (Do' n row) k f m =
          record { position = (q, j); is = stands bs q j (Do' n row) f ∙ some_is (Todo (q, j) (Do' n row) ∷ at bs (q, j + 1)) d m }
      by_case (Block s) k f m = h d m
      by_case (Atomic s) k f m = came (q, j + 1) d m
      by_case (DStep s) k f m = came (q, j + 1) d m
      by_case (Unless s e) zero f m = came (q, j + 1) d m
      by_case (Unless s e) (suc k) f m = h d m

  labelled : (o : Option Position) (d : Control) → Some (at_position bs o) ≡ Some d → IsAt bs d
  labelled None d m = subst (λ (c : Control). IsAt bs c) (some_is [] d m) nothing
  labelled (Some p) d m = came p d m

  -- into the first part of a statement
  enters : (q : List Descent) (i : ℕ) (x : Basic) (d : Control) → basic_at (sequence_at bs q) i ≡ Some x → Some (into_arm (q, i) x 0 (at bs (q, i + 1))) ≡ Some d → IsAt bs d
  enters q i x d h m =
      record { position = ((i, 0) ∷ q, 0); is = entered bs q i 0 x h ∙ some_is (into_arm (q, i) x 0 (at bs (q, i + 1))) d m }

  moves_step : (q : List Descent) (i : ℕ) (s : Seq) (d : Control) (t : Bool) → basic_at (sequence_at bs q) i ≡ Some (DStep s) → (if t then Some (into_arm (q, i) (DStep s) 0 (at bs (q, i + 1))) else None) ≡ Some d → IsAt bs d
  moves_step q i s d true h m = enters q i (DStep s) d h m
  moves_step q i s d false h m = cc

  moves_todo : (q : List Descent) (i : ℕ) (x : Basic) → basic_at (sequence_at bs q) i ≡ Some x → Moves (Todo (q, i) x ∷ at bs (q, i + 1))
  moves_todo q i (Plain a) h d m = cc
  moves_todo q i (Goto l) h d m = labelled (position_of l.text (all_of b)) d m
  moves_todo q i Break h d m =
      subst (λ (c : Control). IsAt bs c) (some_is (behind_break (at bs (q, i + 1))) d m) (broken_at q (i + 1) (broken_beyond q))
  moves_todo q i (If' n row) h d m = cc
  moves_todo q i (Do' n row) h d m = cc
  moves_todo q i (Block s) h d m = enters q i (Block s) d h m
  moves_todo q i (Atomic s) h d m = enters q i (Atomic s) d h m
  moves_todo q i (DStep s) h d m = moves_step q i s d (in_d_step (at bs (q, i + 1))) h m
  moves_todo q i (Unless s e) h d m = enters q i (Unless s e) d h m

  moves_at : (q : List Descent) (i : ℕ) → Moves (beyond bs q) → Moves (at bs (q, i))
  moves_at q i h d m = by_case (basic_at (sequence_at bs q) i) refl
    where
      by_case : (o : Option Basic) → basic_at (sequence_at bs q) i ≡ o → IsAt bs d
      by_case None e = h d (ap (move_on b) (sym (past bs q i e)) ∙ m)
      by_case (Some x) e = moves_todo q i x e d (ap (move_on b) (sym (stands bs q i x e)) ∙ m)

  moves_beyond : (q : List Descent) → Moves (beyond bs q)
  moves_beyond [] d m = cc
  moves_beyond (t ∷ q) d m =
      moves_behind q t.0 (slice_get (sequence_at bs q) t.0) t.1 refl (moves_at q (t.0 + 1) (moves_beyond q)) d m

  moves_from : (c : Control) → IsAt bs c → Moves c
  moves_from c i d m = moves_at i.position.0 i.position.1 (moves_beyond i.position.0) d (ap (move_on b) i.is ∙ m)

  -- ---- settling

  goes_on : (c : Control) (o : Option Control) (rest : Control → Control) → move_on b c ≡ o → IsAt bs c → ((d : Control) → IsAt bs d → IsAt bs (rest d)) → IsAt bs (go_on c o rest)
  goes_on c None rest e i h = i
  goes_on c (Some d) rest e i h = h d (moves_from c i d e)

  within_at : (n : ℕ) (c : Control) → IsAt bs c → IsAt bs (settle_within n b c)
  within_at zero c i = i
  within_at (suc n) c i = goes_on c (move_on b c) (settle_within n b) refl i (within_at n)

  pub settled_at : (c : Control) → IsAt bs c → IsAt bs (settle b c)
  unfolding settle
  settled_at c i = within_at (most_moves b) c i
