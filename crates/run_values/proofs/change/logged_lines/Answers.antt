use Rattle.std.proofs.Common.{◌≡◌, ◌++◌, ◌∙◌, ap, sym, append-nil, List, ℕ, Bool, false}
use Rattle.std.proofs.lemmas.Bool.{not-true}
use Rattle.pml_store.specs.Writing.{before}
use Rattle.promela_run.specs.Lines.{value_lines}
use Rattle.run_values.proofs.Flat.{lines-none}
use Rattle.run_values.proofs.change.logged_lines.Goals as goal

pub returns-then-not-wanted-2-clause-added : goal.returns-then-not-wanted-2-clause-added
returns-then-not-wanted-2-clause-added c = λ a.
    let p = c.args.tables.now in
    let ks = c.args.sorts.now in
    let now = c.args.store.now in
    let old = c.args.text.now.items in
    let globals : c.args.wanted.globals ≡ false = not-true c.args.wanted.globals c.if-not-wanted.true in
    let locals : c.args.wanted.locals ≡ false = not-true c.args.wanted.locals c.if-not-wanted-2.true in
    let none =
    ap (λ (w : Bool). value_lines p ks (before now) now.frames w c.args.wanted.locals) globals
    ∙ ap (λ (w : Bool). value_lines p ks (before now) now.frames false w) locals
    ∙ lines-none p ks (before now) now.frames in
    sym (append-nil old) ∙ ap (λ (x : List ℕ). old ++ x) (sym none)
