-- How the numbers of messages lie one behind another, and where a message belongs.
use Rattle.std.specs.Prelude.{◌≡◌, ℕ, zero, suc, ◌+◌, ◌-◌, ◌*◌, ◌≤◌, List, [], ◌∷◌, ◌++◌, take, drop, length, insert, ℤ}
use Rattle.promela_process.specs.Store.{ChannelState, sorted_in}

-- so many messages of so many fields each, one behind another
abbrev pub messages_in : ℕ → ℕ → List ℤ → List (List ℤ)
messages_in zero fields xs = []
messages_in (suc n) fields xs = take fields xs ∷ messages_in n fields (drop fields xs)

-- never more messages than the capacity, and from the start of the oldest on there are their numbers and no others
pub record IsLaid (capacity fields count start : ℕ) (numbers : List ℤ) : Type 0 where
  pub few : count ≤ capacity
  pub cover : length numbers ≡ start + count * fields

-- the last numbers of a part before the others of it
abbrev pub rotated : ℕ → ℕ → ℕ → List ℤ → List ℤ
rotated from end by xs =
    take from xs ++ (take by (drop (end - by) xs) ++ (take (end - by - from) (drop from xs) ++ drop end xs))

-- a message belongs at a place among others: right before the first that is greater, or last
abbrev pub Belongs : ℕ → List ℤ → List (List ℤ) → Type 0
Belongs n new ms = (n ≤ length ms) × (insert ms n new ≡ sorted_in new ms)

-- the last message comes to a place among the others
abbrev pub MovesLast : ℕ → ChannelState → ChannelState → Type 0
MovesLast n old new = (others : List (List ℤ)) (last : List ℤ) → old.messages ≡ others ++ last ∷ []
    → new ≡ record old { messages = insert others n last }

-- how many numbers messages have
abbrev pub numbers_in : List (List ℤ) → ℕ
numbers_in [] = 0
numbers_in (m ∷ ms) = length m + numbers_in ms
