-- What leads to a state.
use Rattle.std.proofs.Common.{◌≡◌, ℕ, ◌<◌, List, Result, Ok, Err, sym, subst}
use Rattle.std.specs.List.{AllByRecursion}
use Rattle.std.proofs.lemmas.List.{append-nil}
use Rattle.diagnostics.specs.declared.fault.Fault.{Fault}
use Rattle.diagnostics.specs.declared.stop.Stop.{Stop}
use Rattle.diagnostics.specs.declared.stop.Stop.TheVariants as stop
use Rattle.promela_process.specs.Expressions.{◌>>=◌}
use Rattle.promela_process.specs.Store.{Frame, size_at}
use Rattle.promela_run.specs.declared.goes.Goes.{Goes}
use Rattle.promela_run.specs.State.{State}
use Rattle.promela_run.specs.Steps.{quiet}
use Rattle.run_state.specs.Live.{Leads}
use Rattle.run_state.specs.Storing.{AreIn}
use Rattle.run_step.specs.Done.{Does}
use Rattle.run_step.specs.Passing.{Refuses, put_any}

-- what lies in variables lies in those that are as large
pub in_same : (fs hs : List Frame) (gs : List Goes) → size_at fs ≡ size_at hs → AreIn fs gs → AreIn hs gs
in_same fs hs gs e h = subst (λ (f : ℕ → ℕ → ℕ). AllByRecursion (λ (g : Goes). g.place.cell < f g.place.frame g.place.variable) gs) e h

pub refused_leads : (s : State) (d : Result (List Goes) Fault) (x : Stop) (new : State) → Refuses d x → Leads (put_any s d) (Err x) new
refused_leads s (Ok gs) (stop.Fault f) new h = absurd cc
refused_leads s (Ok gs) stop.Memory new h = tt
refused_leads s (Err f) (stop.Fault g) new h = cc
refused_leads s (Err f) stop.Memory new h = tt

-- what leads to a state prints nothing
pub leads_quiet : (x : Result State Fault) (r : Result (Unit {0}) Stop) (new : State) (text : List ℕ) → Leads x r new → Does (x >>= quiet) r new text text
leads_quiet (Ok s) (Ok u) new text h = (h, sym (append-nil text))
leads_quiet (Ok s) (Err stop.Memory) new text h = tt
leads_quiet (Ok s) (Err (stop.Fault f)) new text h = absurd h
leads_quiet (Err f) (Err (stop.Fault g)) new text h = h
leads_quiet (Err f) (Err stop.Memory) new text h = tt
leads_quiet (Err f) (Ok u) new text h = absurd h
