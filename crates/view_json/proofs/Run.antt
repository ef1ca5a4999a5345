-- The lines of a run.
use Rattle.std.proofs.Common.{◌≡◌, ◌∙◌, ap, sym, refl, subst, ℕ, List, [], ◌∷◌, ◌++◌, append_assoc}
use Rattle.view_text.specs.Written.{Adds}
use Rattle.view_text.proofs.Writing.{chained, none}
use Rattle.view_json.specs.Lines.{line}
use Rattle.view_json.specs.Shown.{Shown}
use Rattle.view_json.specs.Steps.{Telling, shown_of, start_tokens}
use Rattle.view_json.specs.Run.{Stage, step_line, step_lines, shown_behind, TellsAll, LinesAreTheRun, lines_to, LongerWalksBeginSo, LinesBehindAStep}

-- what is shown behind steps
abbrev shown_last : Shown → List Stage → Shown
shown_last before [] = before
shown_last before (x ∷ xs) = shown_last (shown_behind x) xs

all_told : (a c : Telling) (xs : List Stage) → TellsAll a xs c → Adds a.text c.text (step_lines a.shown xs)
all_told a c [] same = subst (λ (b : Telling). Adds a.text b.text []) same (none a.text)
all_told a c (x ∷ xs) told =
    let rest = subst (λ (before : Shown). Adds told.0.text c.text (step_lines before xs)) told.1.shows (all_told told.0 c xs told.2) in
    chained a.text told.0.text c.text (step_line a.shown x) (step_lines (shown_behind x) xs) told.1.line rest

-- lines of steps, one behind another
steps_both : (before : Shown) (xs ys : List Stage) → step_lines before (xs ++ ys) ≡ step_lines before xs ++ step_lines (shown_last before xs) ys
steps_both before [] ys = refl
steps_both before (x ∷ xs) ys =
    ap (λ (l : List ℕ). step_line before x ++ l) (steps_both (shown_behind x) xs ys)
    ∙ sym (append_assoc (step_line before x) (step_lines (shown_behind x) xs) (step_lines (shown_last (shown_behind x) xs) ys))

pub longer_walks_begin_so : LongerWalksBeginSo
longer_walks_begin_so a b c d e f s ms model lossy t xs ys last later first steps end more_steps more_end =
    let start = subst (λ (before : Shown). Adds b.text c.text (step_lines before xs)) first.shows (all_told b c xs steps) in
    let whole = chained a.text b.text c.text (line (start_tokens s ms model lossy a.shown t)) (step_lines (shown_of s ms t) xs) first.line start in (
      chained a.text c.text d.text (lines_to s ms model lossy a.shown t xs) last whole end,
      (
        step_lines c.shown ys,
        chained a.text c.text f.text (lines_to s ms model lossy a.shown t xs) (step_lines c.shown ys ++ later) whole
            (chained c.text e.text f.text (step_lines c.shown ys) later (all_told c e ys more_steps) more_end),
      ),
    )

pub lines_behind_a_step : LinesBehindAStep
lines_behind_a_step a b c d x model lossy ys last first steps end =
    let later = step_lines (shown_of x.state x.moves x.told) ys in
    let rest = subst (λ (before : Shown). Adds b.text c.text (step_lines before ys)) first.shows (all_told b c ys steps) in (
      later,
      chained a.text b.text d.text (line (start_tokens x.state x.moves model lossy a.shown x.told)) (later ++ last) first.line (chained b.text c.text d.text later last rest end),
      λ before xs. (
        step_lines before xs ++ step_line (shown_last before xs) x,
        steps_both before xs (x ∷ ys) ∙ sym (append_assoc (step_lines before xs) (step_line (shown_last before xs) x) later),
      ),
    )

pub lines_are_the_run : LinesAreTheRun
lines_are_the_run a b c d s ms model lossy t xs last first steps end =
    let rest = subst (λ (before : Shown). Adds b.text c.text (step_lines before xs)) first.shows (all_told b c xs steps) in
    chained a.text b.text d.text (line (start_tokens s ms model lossy a.shown t)) (step_lines (shown_of s ms t) xs ++ last) first.line
    (chained b.text c.text d.text (step_lines (shown_of s ms t) xs) last rest end)
