use Rattle.std.proofs.Common.{◌++◌, ◌∙◌, ap, sym, append-nil, List, ℕ, Bool}
use Rattle.promela_run.specs.State.{cell_of}
use Rattle.promela_run.specs.Lines.{process_owners}
use Rattle.run_values.specs.Written.{line_at, global_owner}
use Rattle.run_values.proofs.Seeking.{line-after, line-unwanted}
use Rattle.run_values.proofs.change.line_at.Goals as goal

pub returns-else-wanted-2-clause-added : goal.returns-else-wanted-2-clause-added
returns-else-wanted-2-clause-added c =
    let found = rw c.in-None.is at c.find_global-rest.ensures.slot in
    let p = c.args.tables.now in
    let ks = c.args.sorts.now in
    let old = c.args.text.now.items in
    let after = line-after p (global_owner p c.args.wanted.globals) (process_owners p c.args.wanted.locals 0 ks) c.args.at c.args.number found in
    let none = ap (λ (w : Bool). line_at p (process_owners p w 0 ks) (cell_of p.globals c.args.at) c.args.number) c.if-wanted-2.false ∙ line-unwanted p ks 0 (cell_of p.globals c.args.at) c.args.number in
    sym (append-nil old) ∙ ap (λ (x : List ℕ). old ++ x) (sym (after ∙ none))
