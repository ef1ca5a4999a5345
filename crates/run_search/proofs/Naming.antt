-- The channel that a variable names is the one with its number.
use Rattle.std.proofs.Common.{◌≡◌, ℕ, Bool, true, false, List, ℤ, Option, Some, None, Result, Ok, Err, refl, subst}
use Rattle.std.specs.Prelude.{if◌then◌else◌, nat_eq, length}
use Rattle.diagnostics.specs.declared.fault.Fault.{Fault}
use Rattle.diagnostics.specs.declared.fault.Fault.TheVariants.{WrongNumberOfFields}
use Rattle.pml_program.specs.declared.expr.Target.{Target}
use Rattle.promela_process.specs.declared.place.Place.{Place}
use Rattle.promela_process.specs.Expressions.{Reading, place, ◌>>=◌}
use Rattle.promela_process.specs.Store.{ChannelState}
use Rattle.promela_run.specs.declared.live_channel.LiveChannel.{LiveChannel}
use Rattle.promela_run.specs.State.{channel_at}
use Rattle.promela_run.specs.Moves.{Named, named, with_fields}

-- a channel that is named stands at its number
abbrev IsAt : List LiveChannel → Result Named Fault → Type 0
IsAt cs (Ok x) = channel_at cs x.number ≡ Some x.contents
IsAt cs (Err f) = Unit {0}

-- whether it has as many fields as are asked
counted : (cs : List LiveChannel) (n : ℤ) (c : ChannelState) (b : Bool) → channel_at cs n ≡ Some c → IsAt cs (if b then Ok (record { number = n; contents = c }) else Err WrongNumberOfFields)
counted cs n c true e = e
counted cs n c false e = tt

there : (cs : List LiveChannel) (count : ℕ) (n : ℤ) (o : Option ChannelState) → channel_at cs n ≡ o → IsAt cs (with_fields count n o)
there cs count n None e = tt
there cs count n (Some c) e = counted cs n c (nat_eq count (length c.types)) e

placed : (cs : List LiveChannel) (r : Reading) (count : ℕ) (p : Result Place Fault) → IsAt cs (p >>= λ at. with_fields count (r.holds at) (channel_at cs (r.holds at)))
placed cs r count (Ok at) = there cs count (r.holds at) (channel_at cs (r.holds at)) refl
placed cs r count (Err f) = tt

pub named_at : (cs : List LiveChannel) (r : Reading) (t : Target) (count : ℕ) (m : ℤ) (d : ChannelState)
    → named cs r t count ≡ Ok (record { number = m; contents = d }) → channel_at cs m ≡ Some d
named_at cs r t count m d h = subst (IsAt cs) h (placed cs r count (place t r))
