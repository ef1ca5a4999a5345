use Rattle.std.proofs.Common.{[], ◌≡◌, ◌≤◌, ◌∙◌, true, List, Some, ap, sym, subst, length, map}
use Rattle.std.proofs.lemmas.Result.{err_from_is_err_and}
use Rattle.std.proofs.lemmas.List.Elements.{All-same}
use Rattle.promela_text.specs.Tokens.{IsTooDeep, IsOnLine}
use Rattle.pml_lex.specs.Rows.{AreOnLines}
use Rattle.pml_token.specs.Word.{Word}
use Rattle.promela_text.specs.Inlines.{all_differ}
use Rattle.pml_inline.specs.Expansion.{definitions, texts}
use Rattle.pml_inline.specs.Least.{IsLeast, IsFaultOnLine}
use Rattle.pml_inline.specs.Places.{words_of}
use Rattle.pml_inline.specs.Parts.{inlines_of, IsMarked, number_of}
use Rattle.pml_inline.proofs.Lists.{words-whole, length-places}
use Rattle.pml_inline.proofs.Whole.{expansion_is, one_result, least_undefined, least_repeated, least_misread, only_memory, line_undefined, line_repeated, line_misread}
use Rattle.pml_inline.proofs.Keeping.{kept}
use Rattle.pml_inline.proofs.Expanding.{are_left}
use Rattle.pml_inline.proofs.expand.Goals as goal

pub definitions-requires-clause-whole : goal.definitions-requires-clause-whole
definitions-requires-clause-whole c = ap (words_of c.args.tokens.now) (c.deref.ensures.value ∙ c.in_ok-places.ensures) ∙ words-whole c.args.tokens.now

pub definitions-requires-clause-same : goal.definitions-requires-clause-same
definitions-requires-clause-same c = ap length (c.deref.ensures.value ∙ c.in_ok-places.ensures) ∙ length-places 0 (length c.args.tokens.now)

pub returns-in_err-definitions-clause-err : goal.returns-in_err-definitions-clause-err
returns-in_err-definitions-clause-err c =
    let p = err_from_is_err_and c.from_residual-in_err-definitions.result c.from_residual-in_err-definitions.ensures.1 in
    rw p.1 (subst (λ f. IsLeast c.args.tokens.now f) (sym p.2) (least_undefined c.args.tokens.now c.in_err-definitions.field-0.0 c.in_err-definitions.ensures.err))

pub returns-in_err-definitions-clause-only : goal.returns-in_err-definitions-clause-only
returns-in_err-definitions-clause-only c = λ us x.
    let p = err_from_is_err_and c.from_residual-in_err-definitions.result c.from_residual-in_err-definitions.ensures.1 in
    rw p.1 (p.2 ∙ only_memory c.args.tokens.now us c.in_err-definitions.field-0.0 x (least_undefined c.args.tokens.now c.in_err-definitions.field-0.0 c.in_err-definitions.ensures.err))

pub returns-in_err-callees-clause-err : goal.returns-in_err-callees-clause-err
returns-in_err-callees-clause-err c =
    let ts = c.args.tokens.now in
    let defined : definitions ts 0 ≡ Some (inlines_of ts c.deref-2.result.now) = c.in_ok-definitions.ensures.ok ∙ ap (λ ds. Some (inlines_of ts ds)) (sym c.deref-2.ensures.value) in
    let p = err_from_is_err_and c.from_residual-in_err-callees.result c.from_residual-in_err-callees.ensures.1 in
    rw p.1 (subst (λ f. IsLeast ts f) (sym p.2) (least_repeated ts (inlines_of ts c.deref-2.result.now) c.in_err-callees.field-0.0 defined c.in_err-callees.ensures.err))

pub returns-in_err-callees-clause-only : goal.returns-in_err-callees-clause-only
returns-in_err-callees-clause-only c = λ us x.
    let ts = c.args.tokens.now in
    let defined : definitions ts 0 ≡ Some (inlines_of ts c.deref-2.result.now) = c.in_ok-definitions.ensures.ok ∙ ap (λ ds. Some (inlines_of ts ds)) (sym c.deref-2.ensures.value) in
    let p = err_from_is_err_and c.from_residual-in_err-callees.result c.from_residual-in_err-callees.ensures.1 in
    rw p.1 (p.2 ∙ only_memory ts us c.in_err-callees.field-0.0 x (least_repeated ts (inlines_of ts c.deref-2.result.now) c.in_err-callees.field-0.0 defined c.in_err-callees.ensures.err))

pub expanded-requires-clause-text : goal.expanded-requires-clause-text
expanded-requires-clause-text c =
    let ts = c.args.tokens.now in
    let ds = c.deref-4.result.now in
    let defined : definitions ts 0 ≡ Some (inlines_of ts ds) = c.in_ok-definitions.ensures.ok ∙ ap (λ ds. Some (inlines_of ts ds)) (sym c.deref-4.ensures.value) in
    let apart : all_differ (map (λ d. d.name) (inlines_of ts ds)) ≡ true = ap (λ ds. all_differ (map (λ d. d.name) (inlines_of ts ds))) (c.deref-4.ensures.value ∙ sym c.deref-2.ensures.value) ∙ c.in_ok-callees.ensures.apart in
    record {
      whole = ap (words_of ts) (c.deref-3.ensures.value ∙ c.in_ok-places.ensures) ∙ words-whole ts;
      marked = All-same (λ d. IsMarked ts d) ds c.in_ok-definitions.definitions.items c.deref-4.ensures.value c.in_ok-definitions.ensures.marked;
      short = All-same (λ d. d.size ≤ length ts) ds c.in_ok-definitions.definitions.items c.deref-4.ensures.value c.in_ok-definitions.ensures.short;
      apart = apart;
      called = c.deref-5.ensures.value ∙ c.in_ok-callees.ensures.ok ∙ ap (λ ds. map (number_of (inlines_of ts ds)) ts) (c.deref-2.ensures.value ∙ sym c.deref-4.ensures.value);
    }

pub expanded-requires-clause-defined : goal.expanded-requires-clause-defined
expanded-requires-clause-defined c = c.in_ok-definitions.ensures.ok ∙ ap (λ ds. Some (inlines_of c.args.tokens.now ds)) (sym c.deref-4.ensures.value)

pub returns-in_err-expanded-clause-err : goal.returns-in_err-expanded-clause-err
returns-in_err-expanded-clause-err c =
    let ts = c.args.tokens.now in
    let ds = c.deref-4.result.now in
    let defined : definitions ts 0 ≡ Some (inlines_of ts ds) = c.in_ok-definitions.ensures.ok ∙ ap (λ ds. Some (inlines_of ts ds)) (sym c.deref-4.ensures.value) in
    let apart : all_differ (map (λ d. d.name) (inlines_of ts ds)) ≡ true = ap (λ ds. all_differ (map (λ d. d.name) (inlines_of ts ds))) (c.deref-4.ensures.value ∙ sym c.deref-2.ensures.value) ∙ c.in_ok-callees.ensures.apart in
    let p = err_from_is_err_and c.from_residual-in_err-expanded.result c.from_residual-in_err-expanded.ensures.1 in
    rw p.1 (subst (λ f. IsLeast ts f) (sym p.2) (least_misread ts (inlines_of ts ds) c.in_err-expanded.field-0.0 defined apart c.in_err-expanded.ensures.err))

pub returns-in_err-expanded-clause-only : goal.returns-in_err-expanded-clause-only
returns-in_err-expanded-clause-only c = λ us x.
    let ts = c.args.tokens.now in
    let ds = c.deref-4.result.now in
    let defined : definitions ts 0 ≡ Some (inlines_of ts ds) = c.in_ok-definitions.ensures.ok ∙ ap (λ ds. Some (inlines_of ts ds)) (sym c.deref-4.ensures.value) in
    let apart : all_differ (map (λ d. d.name) (inlines_of ts ds)) ≡ true = ap (λ ds. all_differ (map (λ d. d.name) (inlines_of ts ds))) (c.deref-4.ensures.value ∙ sym c.deref-2.ensures.value) ∙ c.in_ok-callees.ensures.apart in
    let p = err_from_is_err_and c.from_residual-in_err-expanded.result c.from_residual-in_err-expanded.ensures.1 in
    rw p.1 (p.2 ∙ only_memory ts us c.in_err-expanded.field-0.0 x (least_misread ts (inlines_of ts ds) c.in_err-expanded.field-0.0 defined apart c.in_err-expanded.ensures.err))

pub returns-in-Some-clause-err : goal.returns-in-Some-clause-err
returns-in-Some-clause-err c =
    let ts = c.args.tokens.now in
    let ds = c.deref-4.result.now in
    let defined : definitions ts 0 ≡ Some (inlines_of ts ds) = c.in_ok-definitions.ensures.ok ∙ ap (λ ds. Some (inlines_of ts ds)) (sym c.deref-4.ensures.value) in
    let apart : all_differ (map (λ d. d.name) (inlines_of ts ds)) ≡ true = ap (λ ds. all_differ (map (λ d. d.name) (inlines_of ts ds))) (c.deref-4.ensures.value ∙ sym c.deref-2.ensures.value) ∙ c.in_ok-callees.ensures.apart in
    record {
      given = c.in_ok-expanded.expanded.items;
      expands = are_left ts c.in_ok-expanded.expanded.items (expansion_is ts (inlines_of ts ds) defined apart ∙ c.in_ok-expanded.ensures.ok);
      deep = subst (λ (us : List Word). IsTooDeep us) c.deref-6.ensures.value c.in-Some.ensures.found;
    }

pub returns-in-Some-clause-only : goal.returns-in-Some-clause-only
returns-in-Some-clause-only c = λ us x.
    let ts = c.args.tokens.now in
    let ds = c.deref-4.result.now in
    let defined : definitions ts 0 ≡ Some (inlines_of ts ds) = c.in_ok-definitions.ensures.ok ∙ ap (λ ds. Some (inlines_of ts ds)) (sym c.deref-4.ensures.value) in
    let apart : all_differ (map (λ d. d.name) (inlines_of ts ds)) ≡ true = ap (λ ds. all_differ (map (λ d. d.name) (inlines_of ts ds))) (c.deref-4.ensures.value ∙ sym c.deref-2.ensures.value) ∙ c.in_ok-callees.ensures.apart in
    only_memory ts us _ x (record {
      given = c.in_ok-expanded.expanded.items;
      expands = are_left ts c.in_ok-expanded.expanded.items (expansion_is ts (inlines_of ts ds) defined apart ∙ c.in_ok-expanded.ensures.ok);
      deep = subst (λ (us : List Word). IsTooDeep us) c.deref-6.ensures.value c.in-Some.ensures.found;
    })

pub returns-clause-ok : goal.returns-clause-ok
returns-clause-ok c =
    let ts = c.args.tokens.now in
    let ds = c.deref-4.result.now in
    let defined : definitions ts 0 ≡ Some (inlines_of ts ds) = c.in_ok-definitions.ensures.ok ∙ ap (λ ds. Some (inlines_of ts ds)) (sym c.deref-4.ensures.value) in
    let apart : all_differ (map (λ d. d.name) (inlines_of ts ds)) ≡ true = ap (λ ds. all_differ (map (λ d. d.name) (inlines_of ts ds))) (c.deref-4.ensures.value ∙ sym c.deref-2.ensures.value) ∙ c.in_ok-callees.ensures.apart in
    record {
      expands = are_left ts c.in_ok-expanded.expanded.items (expansion_is ts (inlines_of ts ds) defined apart ∙ c.in_ok-expanded.ensures.ok);
      shallow = λ deep. c.in_default.ensures.found (subst (λ (us : List Word). IsTooDeep us) (sym c.deref-6.ensures.value) deep);
    }

pub returns-clause-only : goal.returns-clause-only
returns-clause-only c = λ us x.
    let ts = c.args.tokens.now in
    let ds = c.deref-4.result.now in
    let defined : definitions ts 0 ≡ Some (inlines_of ts ds) = c.in_ok-definitions.ensures.ok ∙ ap (λ ds. Some (inlines_of ts ds)) (sym c.deref-4.ensures.value) in
    let apart : all_differ (map (λ d. d.name) (inlines_of ts ds)) ≡ true = ap (λ ds. all_differ (map (λ d. d.name) (inlines_of ts ds))) (c.deref-4.ensures.value ∙ sym c.deref-2.ensures.value) ∙ c.in_ok-callees.ensures.apart in
    one_result ts c.in_ok-expanded.expanded.items us (are_left ts c.in_ok-expanded.expanded.items (expansion_is ts (inlines_of ts ds) defined apart ∙ c.in_ok-expanded.ensures.ok)) x.expands

pub returns-in_err-definitions-clause-line : goal.returns-in_err-definitions-clause-line
returns-in_err-definitions-clause-line c = λ most h.
    let p = err_from_is_err_and c.from_residual-in_err-definitions.result c.from_residual-in_err-definitions.ensures.1 in
    rw p.1 (subst (λ f. IsFaultOnLine most f) (sym p.2) (line_undefined most c.args.tokens.now c.in_err-definitions.field-0.0 c.in_err-definitions.ensures.err))

pub returns-in_err-callees-clause-line : goal.returns-in_err-callees-clause-line
returns-in_err-callees-clause-line c = λ most h.
    let p = err_from_is_err_and c.from_residual-in_err-callees.result c.from_residual-in_err-callees.ensures.1 in
    rw p.1 (subst (λ f. IsFaultOnLine most f) (sym p.2) (line_repeated most (inlines_of c.args.tokens.now c.deref-2.result.now) c.in_err-callees.field-0.0 c.in_err-callees.ensures.err))

pub returns-in_err-expanded-clause-line : goal.returns-in_err-expanded-clause-line
returns-in_err-expanded-clause-line c = λ most h.
    let p = err_from_is_err_and c.from_residual-in_err-expanded.result c.from_residual-in_err-expanded.ensures.1 in
    rw p.1 (subst (λ f. IsFaultOnLine most f) (sym p.2) (line_misread most (texts c.args.tokens.now [] (inlines_of c.args.tokens.now c.deref-4.result.now) 0 0) c.in_err-expanded.field-0.0 c.in_err-expanded.ensures.err))

pub returns-in-Some-clause-line : goal.returns-in-Some-clause-line
returns-in-Some-clause-line c = λ most h.
    let ts = c.args.tokens.now in
    let ds = c.deref-4.result.now in
    let defined : definitions ts 0 ≡ Some (inlines_of ts ds) = c.in_ok-definitions.ensures.ok ∙ ap (λ ds. Some (inlines_of ts ds)) (sym c.deref-4.ensures.value) in
    let apart : all_differ (map (λ d. d.name) (inlines_of ts ds)) ≡ true = ap (λ ds. all_differ (map (λ d. d.name) (inlines_of ts ds))) (c.deref-4.ensures.value ∙ sym c.deref-2.ensures.value) ∙ c.in_ok-callees.ensures.apart in
    c.in-Some.ensures.line most (subst (λ (us : List Word). AreOnLines most us) (sym c.deref-6.ensures.value) (kept (λ w. IsOnLine most w.line) ts c.in_ok-expanded.expanded.items h (are_left ts c.in_ok-expanded.expanded.items (expansion_is ts (inlines_of ts ds) defined apart ∙ c.in_ok-expanded.ensures.ok))))
