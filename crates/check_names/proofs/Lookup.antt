-- A name is found by the place of its first declaration.
use Rattle.std.proofs.Common.{◌≡◌, ℕ, Bool, true, false, cond, List, [], ◌∷◌, Option, Some, None, refl, ap, ◌∙◌}
use Rattle.std.specs.Prelude.{slice_get}
use Rattle.promela_model.specs.declared.thing.Thing.{Thing}
use Rattle.check_names.specs.Entry.{Entry, is_named, found}
use Rattle.check_names.specs.Places.{one_behind, place_of, thing_in}

-- ---- what is found

abbrev pub thing_at : List Entry → Option ℕ → Option Thing
thing_at es None = None
thing_at es (Some k) = thing_in (slice_get es k)

behind : (e : Entry) (es : List Entry) (k : Option ℕ) → thing_at (e ∷ es) (one_behind k) ≡ thing_at es k
behind e es None = refl
behind e es (Some k) = refl

first : (b : Bool) (e : Entry) (es : List Entry) (k : Option ℕ) → thing_at (e ∷ es) (cond b (Some 0) (one_behind k)) ≡ cond b (Some e.thing) (thing_at es k)
first true e es k = refl
first false e es k = behind e es k

pub found_at : (o : ℕ) (n : List ℕ) (es : List Entry) → thing_at es (place_of es o n) ≡ found es o n
found_at o n [] = refl
found_at o n (e ∷ es) =
    let b = is_named o n e in
    first b e es (place_of es o n) ∙ ap (cond b (Some e.thing)) (found_at o n es)
