-- What a call that stores or receives leaves.
use Rattle.std.specs.Prelude.{◌≡◌, ℕ, List, [], ◌∷◌, ◌++◌}
use Rattle.promela_process.specs.Store.{size_at}
use Rattle.pml_store.specs.Writing.{Contents, stored}
use Rattle.promela_run.specs.declared.live_channel.LiveChannel.{LiveChannel}
use Rattle.promela_run.specs.declared.goes.Goes.{Goes}
use Rattle.promela_run.specs.Statements.{Received}

-- one number after the other is stored
abbrev pub stored_all : Contents → List Goes → Contents
stored_all s [] = s
stored_all s (g ∷ gs) = stored_all (stored s g.place g.number) gs

-- each variable has as many cells as before
abbrev pub AreAsLarge : Contents → Contents → Type 0
AreAsLarge old new = (frame variable : ℕ) → size_at new.frames frame variable ≡ size_at old.frames frame variable

-- a beginning of what is to be stored is stored
pub record StoresSome (old new : Contents) (all : List Goes) : Type 0 where
  pub before : List Goes
  pub after : List Goes
  pub parts : all ≡ before ++ after
  pub stands : new ≡ stored_all old before

-- all numbers are stored, and the channels are as it leaves them
abbrev pub AllReceived : Received → Contents → Contents → List LiveChannel → Type 0
AllReceived x old new ds = (new ≡ stored_all old x.numbers) × (ds ≡ x.live)

-- a part of the numbers is stored, and the channels stay
abbrev pub PartReceived : Received → Contents → Contents → List LiveChannel → List LiveChannel → Type 0
PartReceived x old new cs ds = StoresSome old new x.numbers × (ds ≡ cs)
