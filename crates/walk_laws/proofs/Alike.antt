-- Walks on which the same choices stand.
use Rattle.std.proofs.Common.{◌≡◌, ◌∙◌, ap, sym, refl, ℕ, ◌≤◌, Bool, true, false, if◌then◌else◌, List, ◌∷◌, [], ◌++◌, length, take, Option, Some, None}
use Rattle.std.specs.Prelude.{slice_get}
use Rattle.std.proofs.lemmas.List.{length-take-le}
use Rattle.std.proofs.lemmas.Option.{same_Some}
use Rattle.std.proofs.Math.Seq.{take-append_seam}
use Rattle.pml_program.specs.declared.program.Program.{Program}
use Rattle.promela_run.specs.State.{first_state}
use Rattle.promela_run.specs.World.{Running, world_moves, rules}
use Rattle.view_walk.specs.declared.leg.Leg.{Leg}
use Rattle.view_walk.specs.Choices.{with_leg, is_leg, led_from}
use Rattle.view_walk.specs.Walks.{Walked, IsWalk, walked, started, legs_behind}
use Rattle.walk_laws.specs.Shown.{AreAlike, IsBack, IsAtFirst, ShowTheSame}

-- the same choices lead to the same state
module _ (v w : Walked) (hv : IsWalk v) (hw : IsWalk w) (a : AreAlike v w) where
  same_state : w.state ≡ v.state
  same_state =
      same_Some w.state v.state
      (sym (hw.here a.other_found)
      ∙ ap (λ (p : Program). walked p w.lossy (take w.at w.legs)) a.model.program
      ∙ ap (λ (l : Bool). walked v.program l (take w.at w.legs)) a.model.lossy
      ∙ ap (walked v.program v.lossy) a.choices
      ∙ hv.here a.found)

  pub alike : ShowTheSame v w
  alike = same_state

-- the choices up to a place are the same behind one that is made there
cut_again : (n : ℕ) (ts : List Leg) (t : Leg) → n ≤ length ts → take n (take n ts ++ t ∷ []) ≡ take n ts
cut_again n ts t h = ap (λ (k : ℕ). take k (take n ts ++ t ∷ [])) (sym (length-take-le n ts h)) ∙ take-append_seam (take n ts) (t ∷ [])

cut_either : (b : Bool) (n : ℕ) (ts : List Leg) (t : Leg) → n ≤ length ts → take n (if b then ts else take n ts ++ t ∷ []) ≡ take n ts
cut_either true n ts t h = refl
cut_either false n ts t h = cut_again n ts t h

-- the choice with this number, where a walk stands
abbrev chosen_at : Walked → ℕ → Leg
chosen_at v k = record { choice = k; of = length (world_moves v.state) }

module _ (v w : Walked) (k : ℕ) (hv : IsWalk v) (hw : IsWalk w) (b : IsBack v k w) where
  choices_stand : take w.at w.legs ≡ take v.at v.legs
  choices_stand =
      ap (λ (n : ℕ). take n w.legs) b.at
      ∙ ap (take v.at) b.legs
      ∙ cut_either (is_leg (chosen_at v k) (slice_get v.legs v.at)) v.at v.legs (chosen_at v k) hv.within

  pub back_alike : ShowTheSame v w
  back_alike = alike v w hv hw (record { model = b.model; choices = choices_stand; found = b.found; other_found = b.other_found })

-- no choice leads where one is
none_led : (o : Option Running) → led_from rules o [] ≡ o
none_led None = refl
none_led (Some s) = refl

pub at_first : (w : Walked) → IsWalk w → IsAtFirst w → started w.lossy (first_state w.program) ≡ Some w.state
at_first w h f =
    sym (none_led (started w.lossy (first_state w.program)))
    ∙ ap (λ (n : ℕ). walked w.program w.lossy (take n w.legs)) (sym f.at)
    ∙ h.here f.found
