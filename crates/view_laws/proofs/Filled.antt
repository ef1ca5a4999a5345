-- The bodies of a text's model are filled.
use Rattle.std.proofs.Common.{ℕ, zero, suc, List, [], ◌∷◌}
use Rattle.std.specs.Prelude.{slice_get, option_map, IfSome}
use Rattle.std.specs.List.{AllByRecursion}
use Rattle.pml_program.specs.declared.program.Proctype.{Proctype}
use Rattle.view_waits.specs.Filled.{IsFilledBody}
use Rattle.view_waits.proofs.Filled.{waits_exactly}
use Rattle.view_laws.specs.Waiting.{TextsHaveFilledBodies, WaitsForNothingWhereItMoves}
use Rattle.view_laws.proofs.Spelt.{model_filled}

each_body : (qs : List Proctype) → AllByRecursion (λ (q : Proctype). IsFilledBody q.body) qs → (k : ℕ) → IfSome (option_map (λ (q : Proctype). q.body) (slice_get qs k)) IsFilledBody
each_body [] all k = tt
each_body (q ∷ qs) all zero = all.0
each_body (q ∷ qs) all (suc k) = each_body qs all.1 k

pub texts_have_filled_bodies : TextsHaveFilledBodies
texts_have_filled_bodies text p ready k = each_body p.proctypes (model_filled ready.is_spelled.spells ready.stands) k

pub nothing_where_it_moves : WaitsForNothingWhereItMoves
nothing_where_it_moves text s p is lives = waits_exactly s (texts_have_filled_bodies text s.program is.ready) is.at_nodes p lives
