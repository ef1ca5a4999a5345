use Rattle.std.proofs.Common.{◌≡◌, ◌++◌, ◌∷◌, [], List, ℤ, take, drop}
use Rattle.promela_process.specs.Store.{sorted_in}
use Rattle.pml_channel.proofs.channel.Channel.place_of_last.Given as goal

-- those before this place are not greater
abbrev pub invariant-loop-place : goal.invariant-loop-place
invariant-loop-place l = (others : List (List ℤ)) (last : List ℤ) → l.self.messages ≡ others ++ last ∷ []
    → take l.place others ++ sorted_in last (drop l.place others) ≡ sorted_in last others
