use Rattle.std.proofs.Common.{rules, ◌≡◌, subst, sym, ap, Result, List}
use Rattle.diagnostics.specs.declared.fault.Fault.{Fault}
use Rattle.promela_process.specs.Expressions.{Reading}
use Rattle.promela_run.specs.declared.goes.Goes.{Goes}
use Rattle.run_state.specs.Live.{Leads}
use Rattle.run_step.specs.Passing.{put_any}
use Rattle.run_step.proofs.Leading.{refused_leads, in_same}
use Rattle.run_step.proofs.pair.pass.Goals as goal

pub put_all-requires : goal.put_all-requires
put_all-requires c =
    let same : c.as_slice.result.now ≡ c.in-Ok.numbers.items = search rules in
    rw same
    (in_same c.view-receives.result.store.now.frames c.args.live.now.state.frames c.in-Ok.numbers.items (ap (λ (r : Reading). r.cells) c.view-receives.ensures.reads) c.in-Ok.ensures.there)

pub returns-in-Err-clause-value : goal.returns-in-Err-clause-value
returns-in-Err-clause-value c =
    refused_leads c.args.live.now.state _ c.in-Err.stop _ (rw (c.view-sends.ensures.reads, c.view-sends.ensures.channels, c.view-receives.ensures.reads) at c.in-Err.ensures.err)

pub returns-in-Ok-clause-value : goal.returns-in-Ok-clause-value
returns-in-Ok-clause-value c =
    let s = c.args.live.now.state in
    let same : c.as_slice.result.now ≡ c.in-Ok.numbers.items = search rules in
    let does = rw same at c.put_all.ensures.value in
    let is = rw (c.view-sends.ensures.reads, c.view-sends.ensures.channels, c.view-receives.ensures.reads) at c.in-Ok.ensures.ok in
    subst (λ (d : Result (List Goes) Fault). Leads (put_any s d) c.put_all.result c.put_all.new.self.state) (sym is) does
