use Rattle.std.proofs.Common.{arith, subst, [], ap, refl, sym, true, ℕ, ◌≡◌, ◌∙◌, ◌<◌, ◌↔◌, map, codes, IsTrue, nat_lt, unwrap_or, inl, inr, ◌^◌}
use Rattle.std.specs.Prelude.{Option, Some, None, Ok, Err, Result, option_map}
use Rattle.std.specs.Str.Parse.{ParsesUnsigned, ExplainsUnsignedError, HasUnsignedDigitsIfOk}
use Rattle.std.proofs.lemmas.Result.{err_from_is_err_and}
use Rattle.clap.specs.Faults.{is_simple_and_free}
use Rattle.clap.specs.Kinds.{HasKind}
use Rattle.clap.proofs.CallerLemmas.{some_of_text}
use Rattle.command_line.proofs.ChainLemmas.{model_given}
use Rattle.clap.specs.Words.{fault_of, App, ReadsOne, Text, all_of, count_of, first_of, found_of, is_simple, matches_of, one_of, rows_of}
use Rattle.clap.proofs.WalkLemmas.{first_value-rows, one_text-rows, raw_values-rows}
use Rattle.command_line.specs.CommandLine.{command_line}
use Rattle.command_line.specs.Matched.{Spells, IsLimit}
use Rattle.command_line.proofs.words.arguments.Goals as goal

simple : is_simple command_line ≡ true
unfolding command_line
simple = refl

free : is_simple_and_free command_line ≡ true
unfolding command_line
free = refl

-- a number that was read is what the first text spells, and where none was read, none is spelled
limit_read : {E : Type 0} (G : Text → Result ℕ E → Type 0) (text : Option Text) (read : Option ℕ) → ((u : Text) (x : Result ℕ E) → G u x → ParsesUnsigned 32 10 u x)
    → (text ≡ None → read ≡ None) → ((t : Text) → text ≡ Some t → ReadsOne G t read) → IsLimit text (unwrap_or read 1000000)
limit_read G None None only none value = inr (λ t m is small spells. cc, refl)
limit_read G None (Some n) only none value = let bad = none refl in cc
limit_read G (Some t) (Some n) only none value =
    let got = only t (Ok n) (value t refl) in
    inl (t, refl, (got.0.0, got.1))
limit_read G (Some t) None only none value = inr (λ u m is small spells. unread t u m (value t refl) is small spells, refl)
  where
    unread : (t u : Text) (m : ℕ) → ReadsOne G t None → Some t ≡ Some u → m < 2 ^ 32 → Spells u m → ⊥
    unread t u m reads is small spells =
        let same : u ≡ t = cc in
        let here : Spells t m = subst (λ (w : Text). Spells w m) same spells in
        only t (Err reads.0) reads.1 (here.0, omega (arith, here.1))

set_where : (n m : ℕ) → n ≡ m → IsTrue (nat_lt 0 n) ↔ (0 < m)
set_where n m e = rw e (grind arith)

pub unwrap-requires : goal.unwrap-requires
unwrap-requires c = some_of_text _ c.get_str.result _ c.get_str.ensures (model_given _ _ c.in_ok-command.ensures c.in_ok-matches.ensures.parsed)

pub returns-in_err-matches-clause-kinds : goal.returns-in_err-matches-clause-kinds
returns-in_err-matches-clause-kinds c =
    let command_is = c.in_ok-command.ensures.app in
    let p = err_from_is_err_and c.from_residual-in_err-matches.result c.from_residual-in_err-matches.ensures.1 in
    let failed = c.in_err-matches.ensures.kinds (ap is_simple_and_free command_is ∙ free) in
    rw (p.1, p.2) (subst (λ (a : App). HasKind (fault_of a (map (λ w. w.now) c.args.words.now)) c.in_err-matches.field-0.0) command_is failed)

pub returns-clause-kinds : goal.returns-clause-kinds
returns-clause-kinds c =
    let command_is = c.in_ok-command.ensures.app in
    subst (λ (a : App). fault_of a (map (λ w. w.now) c.args.words.now) ≡ []) command_is (c.in_ok-matches.ensures.kinds (ap is_simple_and_free command_is ∙ free))

pub returns-clause-ok : goal.returns-clause-ok
returns-clause-ok c =
    let command_is = c.in_ok-command.ensures.app in
    let f = found_of c.in_ok-matches.matches in
    let words = map (λ w. w.now) c.args.words.now in
    let rows_are : rows_of f ≡ matches_of command_line words = (c.in_ok-matches.ensures.matches (ap is_simple command_is ∙ simple)).0 ∙ ap (λ (a : App). matches_of a words) command_is in
    let counted = λ (id : Text). ap (count_of id) rows_are in
    let first = λ (id : Text). first_value-rows f id ∙ ap (first_of id) rows_are in
    let every = λ (id : Text). ap (λ o. unwrap_or o []) (raw_values-rows f id ∙ ap (all_of id) rows_are) in
    let limit = limit_read (λ bs r. ParsesUnsigned 32 10 bs r × ExplainsUnsignedError 10 bs r × HasUnsignedDigitsIfOk bs r) _ c.get_one.result (λ u x g. g.0) c.get_one.ensures.none c.get_one.ensures.value in
    record {
      steps = set_where _ _ (c.get_count.ensures.value ∙ counted (codes "p"));
      globals = set_where _ _ (c.get_count-2.ensures.value ∙ counted (codes "g"));
      locals = set_where _ _ (c.get_count-3.ensures.value ∙ counted (codes "l"));
      lossy = set_where _ _ (c.get_count-4.ensures.value ∙ counted (codes "m"));
      limit = subst (λ (o : Option Text). IsLimit o c.unwrap_or.result) (one_text-rows f (codes "u") ∙ ap (one_of (codes "u")) rows_are) (rw c.unwrap_or.ensures limit);
      model = sym (first (codes "MODEL")) ∙ (sym c.get_str.ensures ∙ (ap (option_map (λ s. s.now)) c.unwrap.ensures ∙ ap Some (sym c.in_ok-model.ensures.ok)));
      choices = sym (first (codes "choices")) ∙ sym c.in_ok-choices.ensures;
      rec = sym (first (codes "record")) ∙ sym c.in_ok-rec.ensures;
      convert = set_where _ _ (c.get_count-5.ensures.value ∙ counted (codes "convert"));
      check = set_where _ _ (c.get_count-6.ensures.value ∙ counted (codes "check"));
      explain = set_where _ _ (c.get_count-7.ensures.value ∙ counted (codes "explain"));
      name = sym (first (codes "name")) ∙ sym c.in_ok-name.ensures;
      source = sym (first (codes "source")) ∙ sym c.in_ok-source.ensures;
      lines = sym (first (codes "lines")) ∙ sym c.in_ok-lines.ensures;
      prepare = set_where _ _ (c.get_count-8.ensures.value ∙ counted (codes "prepare"));
      no_cpp = set_where _ _ (c.get_count-9.ensures.value ∙ counted (codes "no-cpp"));
      defines = c.in_ok-defines.ensures ∙ every (codes "D");
      folders = c.in_ok-folders.ensures ∙ every (codes "I");
    }
