use Rattle.std.proofs.Common.{List, reverse, ◌≡◌, ◌≤◌, length, ◌++◌, ◌∷◌, [], ◌-◌, drop, ap, sym, ◌∙◌, append_assoc, arith}
use Rattle.pml_token.specs.Word.{Word}
use Rattle.check_uses.specs.Parts.{of_constants}
use Rattle.promela_model.specs.declared.mark.Declared.TheVariants as declared_as
use Rattle.promela_model.specs.declared.mark.What.TheVariants as what
use Rattle.check_names.specs.Entry.{Entry}
use Rattle.check_names.specs.Env.{after, env_from}
use Rattle.check_resolve.proofs.Declared.{constants-from_before, tokens-from_before}
use Rattle.check_resolve.proofs.model.constants.Goals as goal

pub loop-i-preserved : goal.loop-i-preserved
loop-i-preserved c =
    let xs = c.args.list.now in
    let n = c.index-list-i.result in
    let es = c.args.names.now.table in
    let ts = c.args.tokens.now in
    let within : c.loop-i.i ≤ length xs = omega (arith, c.loop-i.auto.i) in
    let tokens : c.loop-i.tokens ++ n ∷ [] ≡ ts ++ reverse (drop (c.loop-i.i - 1) xs) =
    ap (λ (us : List Word). us ++ n ∷ []) c.loop-i.invariant.tokens
    ∙ append_assoc ts (reverse (drop c.loop-i.i xs)) (n ∷ [])
    ∙ ap (λ (us : List Word). ts ++ us) (sym (tokens-from_before xs c.loop-i.i n c.loop-i-test.true within c.index-list-i.is)) in
    record {
      tokens = c.in_ok-push.ensures.ok ∙ ap (λ (w : Word). c.loop-i.tokens ++ w ∷ []) c.copied-name.ensures ∙ tokens;
      names =
          c.in_ok-declare.ensures.table
          ∙ ap (λ (fs : List Entry). after fs 0 (what.Declares c.copied.result declared_as.Constant)) c.loop-i.invariant.names
          ∙ ap (λ (w : Word). after (env_from es (of_constants (drop c.loop-i.i xs))) 0 (what.Declares w declared_as.Constant)) (c.copied.ensures ∙ c.copied-name.ensures)
          ∙ sym (constants-from_before es xs c.loop-i.i n c.loop-i-test.true within c.index-list-i.is);
      totalled = c.in_ok-declare.ensures.totalled;
    }
