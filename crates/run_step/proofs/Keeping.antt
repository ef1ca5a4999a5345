-- Who holds exclusive control behind a step.
use Rattle.std.proofs.Common.{◌≡◌, ℕ, true, List, Some, Result, Ok, Err, refl, sym}
use Rattle.diagnostics.specs.declared.fault.Fault.{Fault}
use Rattle.promela_process.specs.Offers.{Offer}
use Rattle.promela_run.specs.declared.goes.Goes.{Goes}
use Rattle.promela_run.specs.State.{State, reads}
use Rattle.promela_run.specs.Moves.{message}
use Rattle.promela_process.specs.Expressions.{◌>>=◌}
use Rattle.promela_run.specs.Steps.{went, Done, taken, passed, both_on}
use Rattle.run_step.specs.Laws.{AtomicKeepsControl, ReceiversKeepControl}
use Rattle.run_search.specs.Lifted.{moved}

abbrev done : Done → Result Done Fault
done d = Ok d

ok_is : (x y : Done) → done x ≡ done y → x ≡ y
ok_is x y e = cc

gone : (p : ℕ) (o : Offer) (d e : Done) → o.keeps ≡ true → moved p o e ≡ Ok d → d.state.holder ≡ Some p
gone p o d e keeps is =
    let same : record e { state = went e.state p o } ≡ d = ok_is _ _ is in
    rw (sym same) (rw keeps refl)

behind_taken : (p : ℕ) (o : Offer) (d : Done) (x : Result Done Fault) → o.keeps ≡ true → (x >>= moved p o) ≡ Ok d → d.state.holder ≡ Some p
behind_taken p o d (Ok e) keeps is = gone p o d e keeps is
behind_taken p o d (Err f) keeps is = cc

pub atomic_keeps_control : AtomicKeepsControl
atomic_keeps_control most s k t o d there keeps is =
    behind_taken k.process o d (taken most s k t o o.basic) keeps (rw there at is)

behind_passed : (s : State) (p q : ℕ) (o w : Offer) (d : Done) (x : Result (List Goes) Fault) → w.keeps ≡ true → (x >>= both_on s p q o w) ≡ Ok d → d.state.holder ≡ Some q
behind_passed s p q o w d (Ok gs) keeps is = rw (sym (ok_is _ _ is)) (rw keeps refl)
behind_passed s p q o w d (Err f) keeps is = cc

pub receivers_keep_control : ReceiversKeepControl
receivers_keep_control most s k j t w o d sends receives keeps is =
    behind_passed s k.process j.process o w d (passed (reads s j.process t) (message s.channels (reads s k.process t) o.basic) w.basic) keeps (rw (sends, receives) at is)
