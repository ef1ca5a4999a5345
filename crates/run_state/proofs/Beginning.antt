-- Processes before their first statements.
use Rattle.std.proofs.Common.{◌≡◌, ℕ, ◌+◌, ◌<◌, List, [], ◌∷◌, ◌++◌, map, drop, length, sym, ap, ◌∙◌, append_assoc}
use Rattle.std.proofs.lemmas.List.{map_push}
use Rattle.std.specs.Prelude.{slice_index_or}
use Rattle.pml_program.specs.declared.program.Program.{Program}
use Rattle.run_state.specs.declared.seat.Seat.{Seat}
use Rattle.promela_run.specs.State.{Stand, begins_at}
use Rattle.run_state.specs.Standing.{stand_of}
use Rattle.run_state.proofs.Finding.{opens}
use Rattle.run_state.specs.Held.{sorts_of}

-- one more stands before its first statement
pub next_stand : (p : Program) (xs : List Seat) (ks : List ℕ) (i k : ℕ) (x : Seat) → i < length ks → k ≡ slice_index_or ks i k → stand_of p x ≡ begins_at p k →
    map (stand_of p) xs ++ map (begins_at p) (drop i ks) ≡ map (begins_at p) ks → map (stand_of p) (xs ++ x ∷ []) ++ map (begins_at p) (drop (i + 1) ks) ≡ map (begins_at p) ks
next_stand p xs ks i k x l e start before =
    let rest : List Stand = map (begins_at p) (drop (i + 1) ks) in
    ap (λ (ys : List Stand). ys ++ rest) (map_push (stand_of p) xs x)
    ∙ append_assoc (map (stand_of p) xs) (stand_of p x ∷ []) rest
    ∙ ap (λ (y : Stand). map (stand_of p) xs ++ y ∷ rest) (start ∙ ap (begins_at p) e)
    ∙ ap (λ (js : List ℕ). map (stand_of p) xs ++ map (begins_at p) js) (sym (opens ks i k l))
    ∙ before

pub next_sort : (xs : List Seat) (ks : List ℕ) (i k : ℕ) (x : Seat) → i < length ks → k ≡ slice_index_or ks i k → x.sort ≡ k → sorts_of xs ++ drop i ks ≡ ks → sorts_of (xs ++ x ∷ []) ++ drop (i + 1) ks ≡ ks
next_sort xs ks i k x l e same before =
    ap (λ (js : List ℕ). js ++ drop (i + 1) ks) (map_push (λ (x : Seat). x.sort) xs x)
    ∙ append_assoc (sorts_of xs) (x.sort ∷ []) (drop (i + 1) ks)
    ∙ ap (λ (j : ℕ). sorts_of xs ++ j ∷ drop (i + 1) ks) (same ∙ e) ∙ ap (λ (js : List ℕ). sorts_of xs ++ js) (sym (opens ks i k l)) ∙ before
