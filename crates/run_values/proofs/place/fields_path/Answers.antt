use Rattle.std.proofs.Common.{arith, ◌≡◌, ◌+◌, ◌-◌, ◌%◌, ◌++◌, suc, ◌∙◌, sym, ap, List, ℕ, append_assoc, append-nil, [], ◌∷◌, length}
use Rattle.std.specs.Io.{StartsWith}
use Rattle.promela_run.specs.Lines.{element, fields_path}
use Rattle.run_values.proofs.Keeping.{front, behind, refused}
use Rattle.run_values.proofs.Leading.{path-none, path-some}
use Rattle.run_values.proofs.place.fields_path.Goals as goal

dotted : (a b d : List ℕ) → ((a ++ 46 ∷ []) ++ b) ++ d ≡ a ++ (46 ∷ (b ++ d))
dotted a b d = simp append_assoc

pub returns-in-None-clause-added : goal.returns-in-None-clause-added
returns-in-None-clause-added c =
    let none = path-none c.args.typedefs.now (length c.args.typedefs.now - c.loop-step._step) c.loop-step.form c.loop-step.cell _ c.in-None.ensures c.place-typedef.ensures.field in
    sym (append-nil c.loop-step.text.items) ∙ ap (λ (x : List ℕ). c.loop-step.text.items ++ x) (sym none) ∙ c.loop-step.invariant.same

pub loop-step-preserved : goal.loop-step-preserved
loop-step-preserved c =
    let ts = c.args.typedefs.now in
    let f = c.in-Some.field.now in
    let w = c.place-typedef.result.2 in
    let e : length ts - c.loop-step._step ≡ suc (length ts - (c.loop-step._step + 1)) = omega arith in
    let p = path-some ts (length ts - c.loop-step._step) (length ts - (c.loop-step._step + 1)) c.loop-step.form c.loop-step.cell w f _ e c.in-Some.ensures c.place-typedef.ensures.field c.place-typedef.ensures.cell in
    record {
      same = rw (c.in_ok-element-in-Some.ensures.added, c.in_ok-push-in-Some.ensures.items, c.remainder-cell.ensures)
          (dotted c.loop-step.text.items (element f w) (fields_path ts (length ts - (c.loop-step._step + 1)) f.form (w % f.stride))
          ∙ ap (λ (x : List ℕ). c.loop-step.text.items ++ x) (sym p) ∙ c.loop-step.invariant.same);
      kept = behind c.element.new.text.items c.loop-step.text.items c.args.text.now.items (simp (c.in_ok-element-in-Some.ensures.added, c.in_ok-push-in-Some.ensures.items, append_assoc, front)) c.loop-step.invariant.kept;
    }

pub returns-in_err-element-in-Some-clause-kept : goal.returns-in_err-element-in-Some-clause-kept
returns-in_err-element-in-Some-clause-kept c =
    let before : StartsWith c.push.new.self.items c.args.text.now.items = behind c.push.new.self.items c.loop-step.text.items c.args.text.now.items (simp (c.in_ok-push-in-Some.ensures.items, front)) c.loop-step.invariant.kept in
    refused c.from_residual-in_err-element-in-Some.result c.element.new.text.items c.args.text.now.items
    (behind c.element.new.text.items c.push.new.self.items c.args.text.now.items c.in_err-element-in-Some.ensures.kept before)
