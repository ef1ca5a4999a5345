use Rattle.std.proofs.Common.{rules, ◌≡◌, ◌+◌, ◌++◌, ◌∙◌, ap, sym, subst, append-nil, slice_get, get_or, List, [], ℕ, ℤ, OnOk, true, drop, arith, FitsSigned, w32}
use Rattle.std.proofs.lemmas.List.{drop_all}
use Rattle.std.proofs.lemmas.Int.{to_z-of_z}
use Rattle.promela_run.specs.Lines.{place_line, heading_of, process_owners}
use Rattle.run_values.specs.Written.{line_at}
use Rattle.run_values.proofs.Seeking.{process-here, process-after}
use Rattle.run_values.proofs.change.process_line_at.Goals as goal

pub loop-i-preserved : goal.loop-i-preserved
loop-i-preserved c =
    let found = rw c.in-None.is at c.find_local-rest.ensures.slot in
    record {
      text = c.loop-i.invariant.text;
      left = λ v.
          ap (λ (n : ℕ). line_at c.args.tables.now (process_owners c.args.tables.now true (c.loop-i.i + 1) (drop (c.loop-i.i + 1) c.args.sorts.now)) n v) c.find_local-rest.ensures.cell
          ∙ sym (process-after c.args.tables.now c.args.sorts.now c.loop-i.i c.loop-i.at v c.loop-i-test.true found)
          ∙ c.loop-i.invariant.left v;
    }

pub returns-in-Some-clause-added : goal.returns-in-Some-clause-added
returns-in-Some-clause-added c =
    let found = rw c.in-Some.is at c.find_local-rest.ensures.slot in
    let p = c.args.tables.now in
    let old = c.args.text.now.items in
    let heading = heading_of c.loop-i.i (slice_get p.proctypes (get_or c.args.sorts.now c.loop-i.i 0)) in
    let fits : FitsSigned w32 c.args.number = search rules in
    let same = to_z-of_z w32 c.args.number fits in
    subst (λ (l : List ℕ). OnOk c.local_line.result (c.local_line.new.text.items ≡ l))
    (ap (λ (v : ℤ). c.loop-i.text.items ++ (heading ++ place_line p c.in-Some.slot.now c.find_local-rest.result.1 v)) same
    ∙ ap (λ (x : List ℕ). x ++ (heading ++ place_line p c.in-Some.slot.now c.find_local-rest.result.1 c.args.number)) c.loop-i.invariant.text
    ∙ ap (λ (n : ℕ). old ++ (heading ++ place_line p c.in-Some.slot.now n c.args.number)) c.find_local-rest.ensures.cell
    ∙ ap (λ (x : List ℕ). old ++ x) (sym (process-here p c.args.sorts.now c.loop-i.i c.loop-i.at c.args.number c.in-Some.slot.now c.loop-i-test.true found) ∙ c.loop-i.invariant.left c.args.number))
    c.local_line.ensures.added

pub returns-clause-added : goal.returns-clause-added
returns-clause-added c =
    let z : drop c.loop-i.i c.args.sorts.now ≡ [] = drop_all c.loop-i.i c.args.sorts.now (omega arith) in
    let none = ap (λ (ks : List ℕ). line_at c.args.tables.now (process_owners c.args.tables.now true c.loop-i.i ks) c.loop-i.at c.args.number) (sym z) ∙ c.loop-i.invariant.left c.args.number in
    c.loop-i.invariant.text ∙ sym (append-nil c.args.text.now.items) ∙ ap (λ (x : List ℕ). c.args.text.now.items ++ x) none
