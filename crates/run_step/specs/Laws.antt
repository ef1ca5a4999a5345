-- What is said of every step.
use Rattle.std.specs.Prelude.{◌≡◌, ℕ, Bool, true, Some, Ok}
use Rattle.promela_process.specs.Offers.{Offer}
use Rattle.promela_run.specs.declared.moves.Pick.{Pick}
use Rattle.promela_run.specs.declared.moves.Move.TheVariants.{Alone, Pair}
use Rattle.promela_run.specs.State.{State, picked}
use Rattle.promela_run.specs.Steps.{Done, after_move}

-- Who takes a statement that lies in the same atomic sequence as what follows it holds exclusive control then; of a pair the receiver.
abbrev pub AtomicKeepsControl : Type 0
AtomicKeepsControl = (most : ℕ) (s : State) (k : Pick) (t : Bool) (o : Offer) (d : Done) → picked s k ≡ Some o → o.keeps ≡ true
    → after_move most s (Alone k t) ≡ Ok d → d.state.holder ≡ Some k.process

abbrev pub ReceiversKeepControl : Type 0
ReceiversKeepControl = (most : ℕ) (s : State) (k j : Pick) (t : Bool) (w : Offer) (o : Offer) (d : Done) → picked s k ≡ Some o → picked s j ≡ Some w → w.keeps ≡ true
    → after_move most s (Pair k j t) ≡ Ok d → d.state.holder ≡ Some j.process
