-- Worked examples of breaks, gotos and unlesses beside dos and d_steps, computed.
use Rattle.std.proofs.Common.{◌≡◌, ℕ, Bool, true, false, List, [], ◌∷◌, take, get_or, refl}
use Rattle.pml_token.specs.Word.{Word}
use Rattle.pml_token.specs.declared.token.Kind.TheVariants as kind
use Rattle.promela_model.specs.Marks.{mark}
use Rattle.promela_model.specs.declared.mark.Structure.TheVariants.{Do, DStep}
use Rattle.promela_model.specs.declared.mark.What.{What}
use Rattle.promela_model.specs.declared.mark.What.TheVariants as what
use Rattle.promela_model.specs.declared.mark.Mark.{Mark}
use Rattle.promela_model.specs.Decided.{crosses_step}
use Rattle.check_conditions.specs.Step.{breaks_loose}

-- marks of the first unit
abbrev body : List What → List Mark
body [] = []
body (w ∷ ws) = mark 1 w ∷ body ws

-- whether the mark behind k others is a break that no do is round, and whether it enters or leaves a d_step
abbrev loose_at : ℕ → List What → Bool
loose_at k ws = breaks_loose (take k (body ws)) (get_or (body ws) k (mark 1 what.Leave))

abbrev crosses_at : ℕ → List What → Bool
crosses_at k ws = crosses_step (body ws) (take k (body ws)) (get_or (body ws) k (mark 1 what.Leave))

abbrev name : ℕ → Word
name letter = record { kind = kind.Name; text = letter ∷ []; line = 1 }

abbrev loop : What
loop = what.Enter Do

abbrev d_step : What
d_step = what.Enter DStep

abbrev a : What
a = what.Label (name 97)

abbrev goto_a : What
goto_a = what.Goto (name 97)

-- ---- breaks

-- break
alone : loose_at 0 (what.Break ∷ []) ≡ true
alone = refl

-- do { break }
in_do : loose_at 1 (loop ∷ what.Break ∷ what.Leave ∷ []) ≡ false
in_do = refl

-- do { } break
behind_do : loose_at 2 (loop ∷ what.Leave ∷ what.Break ∷ []) ≡ true
behind_do = refl

-- do { do { } break }
behind_inner_do : loose_at 3 (loop ∷ loop ∷ what.Leave ∷ what.Break ∷ what.Leave ∷ []) ≡ false
behind_inner_do = refl

-- d_step { break }
in_step_alone : loose_at 1 (d_step ∷ what.Break ∷ what.Leave ∷ []) ≡ true
in_step_alone = refl

-- do { d_step { break } } leaves the d_step, and no do is lacking
out_of_step : crosses_at 2 (loop ∷ d_step ∷ what.Break ∷ what.Leave ∷ what.Leave ∷ []) ≡ true
out_of_step = refl

do_outside : loose_at 2 (loop ∷ d_step ∷ what.Break ∷ what.Leave ∷ what.Leave ∷ []) ≡ false
do_outside = refl

-- d_step { do { break } }
do_in_step : crosses_at 2 (d_step ∷ loop ∷ what.Break ∷ what.Leave ∷ what.Leave ∷ []) ≡ false
do_in_step = refl

-- do { d_step { do { } break } }
behind_do_in_step : crosses_at 4 (loop ∷ d_step ∷ loop ∷ what.Leave ∷ what.Break ∷ what.Leave ∷ what.Leave ∷ []) ≡ true
behind_do_in_step = refl

-- do { d_step { } break }
behind_step : crosses_at 3 (loop ∷ d_step ∷ what.Leave ∷ what.Break ∷ what.Leave ∷ []) ≡ false
behind_step = refl

-- ---- unlesses

-- d_step { do { unless } }
unless_in_step : crosses_at 2 (d_step ∷ loop ∷ what.Unless ∷ what.Leave ∷ what.Leave ∷ []) ≡ true
unless_in_step = refl

-- d_step { } unless
unless_behind_step : crosses_at 2 (d_step ∷ what.Leave ∷ what.Unless ∷ []) ≡ false
unless_behind_step = refl

-- ---- gotos

-- a: d_step { goto a }
out : crosses_at 2 (a ∷ d_step ∷ goto_a ∷ what.Leave ∷ []) ≡ true
out = refl

-- goto a; d_step { a: }
into : crosses_at 0 (goto_a ∷ d_step ∷ a ∷ what.Leave ∷ []) ≡ true
into = refl

-- d_step { do { goto a } a: }
within : crosses_at 2 (d_step ∷ loop ∷ goto_a ∷ what.Leave ∷ a ∷ what.Leave ∷ []) ≡ false
within = refl

-- d_step { goto a } d_step { a: }
to_another : crosses_at 1 (d_step ∷ goto_a ∷ what.Leave ∷ d_step ∷ a ∷ what.Leave ∷ []) ≡ true
to_another = refl

-- goto a; d_step { } a:
past : crosses_at 0 (goto_a ∷ d_step ∷ what.Leave ∷ a ∷ []) ≡ false
past = refl

-- goto a; a: d_step { a: } goes to the first
to_the_first : crosses_at 0 (goto_a ∷ a ∷ d_step ∷ a ∷ what.Leave ∷ []) ≡ false
to_the_first = refl

-- goto a, which no label is, is refused by another condition
missing : crosses_at 1 (d_step ∷ goto_a ∷ what.Leave ∷ []) ≡ false
missing = refl
