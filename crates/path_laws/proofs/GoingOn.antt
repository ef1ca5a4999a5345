-- Paths go on by the moves that are listed.
use Rattle.std.proofs.Common.{◌≡◌, ℕ, ◌+◌, ◌<◌, List, [], ◌∷◌, ◌++◌, length, Some, refl, sym, ap, ◌∙◌, arith, append-nil, append_assoc}
use Rattle.std.specs.Prelude.{slice_index_or}
use Rattle.std.specs.List.{Contains}
use Rattle.std.proofs.lemmas.Option.{slice_get-get_or}
use Rattle.promela_machine.specs.Machine.{Rules, Goes}
use Rattle.pml_play.specs.Run.{Leg, IsChosen, IsPath, last_state}
use Rattle.path_laws.specs.GoesOn.{path_and, PathsGoOnByMoves}

-- a move that is listed is chosen by some numbers
chosen : {M : Type 0} (ms : List M) (m : M) → Contains ms m → (ns : List ℕ) × IsChosen ms ns m
chosen [] m (k, within, is) = absurd (omega (arith, within))
chosen (a ∷ []) m (k, within, is) = ([], (refl, only k within is))
  where
    only : (j : ℕ) → j < length (a ∷ []) → slice_index_or (a ∷ []) j m ≡ m → m ≡ a
    only j lt e = let first : j ≡ 0 = omega (arith, lt) in sym e ∙ ap (λ (i : ℕ). slice_index_or (a ∷ []) i m) first
chosen (a ∷ b ∷ more) m (k, within, is) = ((k + 1) ∷ [], (k, refl, slice_get-get_or (a ∷ b ∷ more) k m within ∙ ap Some is))

module _ {S M : Type 0} (rules : Rules S M) where
  on_by : (s t : S) (path : List (Leg S M)) (numbers printed : List ℕ) (m : M) → IsPath rules s path numbers → rules.step (last_state s path) m ≡ Goes t printed
      → (there : Contains (rules.moves (last_state s path)) m) → IsPath rules s (path_and path m t) (numbers ++ (chosen (rules.moves (last_state s path)) m there).0)
  on_by s t [] numbers printed m is goes there =
      let c = chosen (rules.moves s) m there in
      (c.0, [], ap (λ (l : List ℕ). l ++ c.0) is ∙ sym (append-nil c.0), record { there = there; chosen = c.1; printed = printed; goes = goes }, refl)
  on_by s t (x ∷ xs) numbers printed m (first, rest, is, step, on) goes there =
      let more = (chosen (rules.moves (last_state x.next xs)) m there).0 in
      (first, rest ++ more, ap (λ (l : List ℕ). l ++ more) is ∙ append_assoc first rest more, step, on_by x.next t xs rest printed m on goes there)

  listed : (s t : S) (path : List (Leg S M)) (all : List ℕ) (m : M) → IsPath rules s (path_and path m t) all → Contains (rules.moves (last_state s path)) m
  listed s t [] all m (first, rest, is, step, on) = step.there
  listed s t (x ∷ xs) all m (first, rest, is, step, on) = listed x.next t xs rest m on

  pub go_on_by_moves : PathsGoOnByMoves rules
  go_on_by_moves s t path numbers printed m is goes = (
    λ there. ((chosen (rules.moves (last_state s path)) m there).0, on_by s t path numbers printed m is goes there),
    λ on. listed s t path (numbers ++ on.0) m on.1,
  )
