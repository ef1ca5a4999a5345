-- Words of the laws, of lists and texts that are known.
use Rattle.std.proofs.Common.{◌≡◌, ℕ, [], ◌∷◌, refl, arith, codes}
use Rattle.std.specs.Fmt.{digits}
use Rattle.path_laws.specs.OneRecord.{StandOnce}
use Rattle.path_laws.specs.Origins.{NamesPlace}

-- what stands at two places does not stand once
twice : StandOnce {X = ℕ} (5 ∷ 7 ∷ 5 ∷ []) → ⊥
twice once = let same : 0 ≡ 2 = once 0 2 5 refl refl in absurd (omega (arith, same))

-- the text of a move of process 1 in line 27
text_of_a_move : NamesPlace (1, 27) (codes "proc 1 (Ping) line 27 [x = x + 1]")
unfolding digits
text_of_a_move = record { name = codes "Ping"; more = codes "x = x + 1]"; is = refl }

-- that of a pair names the sender
text_of_a_pair : NamesPlace (0, 4) (codes "proc 0 (A) line 4 [c!1] -> proc 1 (B) line 9 [c?x]")
unfolding digits
text_of_a_pair = record { name = codes "A"; more = codes "c!1] -> proc 1 (B) line 9 [c?x]"; is = refl }
