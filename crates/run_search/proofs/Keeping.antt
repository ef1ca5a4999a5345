-- What was there stays at the front.
use Rattle.std.proofs.Common.{◌≡◌, List, [], ◌∷◌, ◌++◌, append-nil, append_assoc, sym, ap, ◌∙◌}
use Rattle.promela_run.specs.declared.moves.Move.{Move}
use Rattle.run_search.specs.Kept.{Extends}

pub kept_same : (new old : List Move) → new ≡ old → Extends new old
kept_same new old h = record { more = []; is = h ∙ sym (append-nil old) }

pub kept_on : (new mid old : List Move) → Extends new mid → Extends mid old → Extends new old
kept_on new mid old h k = record {
  more = k.more ++ h.more;
  is = h.is ∙ (ap (λ (xs : List Move). xs ++ h.more) k.is ∙ append_assoc old k.more h.more);
}

pub kept_push : (new old : List Move) (x : Move) → new ≡ old ++ x ∷ [] → Extends new old
kept_push new old x h = record { more = x ∷ []; is = h }
