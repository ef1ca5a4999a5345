-- Texts of offers that are kept, wherever processes stand as they did.
use Rattle.std.proofs.Common.{◌≡◌, ℕ, zero, suc, List, [], ◌∷◌, ◌++◌, map, Option, Some, None, IfSome, refl, sym, ap, subst, ◌∙◌}
use Rattle.std.specs.Prelude.{slice_get, option_map}
use Rattle.pml_program.specs.declared.program.Program.{Program}
use Rattle.promela_run.specs.declared.moves.Pick.{Pick}
use Rattle.promela_run.specs.State.{Stand, State}
use Rattle.promela_run.specs.World.{pick_text}
use Rattle.run_state.specs.declared.seat.Seat.{Seat}
use Rattle.run_state.specs.Standing.{stand_of}
use Rattle.run_texts.specs.declared.kept.KeptText.{KeptText}
use Rattle.run_texts.specs.Kept.{IsTextThere, AreTexts}
use Rattle.run_texts.proofs.Staying.{same_text}

stand_at : (p : Program) (xs : List Seat) (n : ℕ) (x : Seat) → slice_get xs n ≡ Some x → slice_get (map (stand_of p) xs) n ≡ Some (stand_of p x)
stand_at p [] n x is = cc
stand_at p (y ∷ xs) zero x is = ap (option_map (stand_of p)) is
stand_at p (y ∷ xs) (suc n) x is = stand_at p xs n x is

pub stands_by : (s : State) (seats : List Seat) (n : ℕ) (x : Seat) → map (stand_of s.program) seats ≡ s.stands → slice_get seats n ≡ Some x → slice_get s.stands n ≡ Some (stand_of s.program x)
stands_by s seats n x seated there = ap (λ (ys : List Stand). slice_get ys n) (sym seated) ∙ stand_at s.program seats n x there

module _ (p : Program) (s : State) (same : p ≡ s.program) (k : Pick) (x : Seat) (there : slice_get s.stands k.process ≡ Some (stand_of s.program x)) where
  stands : slice_get s.stands k.process ≡ Some (stand_of p x)
  stands = there ∙ ap (λ (pr : Program). Some (stand_of pr x)) (sym same)

  -- a text that is kept is that of the offer
  pub kept_text : (kept : List KeptText) → AreTexts p kept → (n : ℕ) (t : KeptText) → slice_get kept n ≡ Some t → t.pick ≡ k → t.seat ≡ x → t.text.items ≡ pick_text s k
  kept_text kept are n t is pick seat =
      let all : IfSome (slice_get kept n) (λ t. IsTextThere p t.seat t.pick t.text.items) = are n in
      let own : IsTextThere p t.seat t.pick t.text.items = subst (λ (o : Option KeptText). IfSome o (λ t. IsTextThere p t.seat t.pick t.text.items)) is all in
      let stand : slice_get s.stands t.pick.process ≡ Some (stand_of p t.seat) = ap (λ (j : Pick). slice_get s.stands j.process) pick ∙ (stands ∙ ap (λ (y : Seat). Some (stand_of p y)) (sym seat)) in
      own s (sym same) stand ∙ ap (pick_text s) pick

  -- what was composed is the text there
  pub is_there : (text : List ℕ) → text ≡ pick_text s k → IsTextThere p x k text
  is_there text is = λ t program stand. is ∙ sym (same_text s t k (program ∙ same) (stand ∙ sym stands))

pub texts_more : (p : Program) (kept : List KeptText) (t : KeptText) → AreTexts p kept → IsTextThere p t.seat t.pick t.text.items → AreTexts p (kept ++ t ∷ [])
texts_more p [] t are is zero = is
texts_more p [] t are is (suc n) = tt
texts_more p (y ∷ kept) t are is zero = are zero
texts_more p (y ∷ kept) t are is (suc n) = texts_more p kept t (λ m. are (suc m)) is n
