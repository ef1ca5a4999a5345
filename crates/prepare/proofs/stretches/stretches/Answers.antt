use Rattle.std.proofs.Common.{◌≡◌, ℕ, ◌∷◌, ◌++◌, [], List, take, drop, arith, sym, ap, ◌∙◌}
use Rattle.promela_text.specs.declared.lexeme.Lexeme.{Lexeme}
use Rattle.promela_text.specs.declared.lexeme.Lexeme.TheVariants.{Skipped, Token}
use Rattle.promela_text.specs.Tokens.{fresh_from}
use Rattle.prepare.specs.Written.{Written}
use Rattle.prepare.specs.Stretches.{lexeme_at, stretch}
use Rattle.prepare.specs.Contexts.{behind}
use Rattle.prepare.specs.Roles.{role}
use Rattle.prepare.proofs.Turning.{reached_start, reached_skipped, reached_token, reached_end}
use Rattle.prepare.proofs.stretches.stretches.Goals as goal

pub loop-gap-init : goal.loop-gap-init
loop-gap-init c = rw (c.new-stretches.ensures.items, c.start-context.ensures) (reached_start c.args.text.now)

pub loop-gap-preserved-in-Skipped : goal.loop-gap-preserved-in-Skipped
loop-gap-preserved-in-Skipped c =
    let from = c.loop-gap.from.now in
    let gap = c.loop-gap.gap in
    let n = c.lexeme_at-length.result.0 in
    let is : lexeme_at c.loop-gap.fresh (drop gap from) ≡ (n, Skipped) = ap (lexeme_at c.loop-gap.fresh) (sym c.split_at.ensures.back) ∙ sym c.lexeme_at-length.ensures.value ∙ ap (λ (x : Lexeme). let y : ℕ × Lexeme = (n, x) in y) c.in-Skipped.is in
    let fresh : c.fresh_behind-fresh.result ≡ fresh_from c.loop-gap.fresh (take n (drop gap from)) = c.fresh_behind-fresh.ensures ∙ ap (fresh_from c.loop-gap.fresh) (c.split_at-in-loop-gap.ensures.front ∙ ap (take n) c.split_at.ensures.back) in
    rw fresh (reached_skipped n c.loop-gap.invariant is c.lexeme_at-length.ensures.some (omega (arith, c.lexeme_at-length.ensures.within, c.split_at.ensures.back_len)))

pub loop-gap-preserved : goal.loop-gap-preserved
loop-gap-preserved c =
    let from = c.loop-gap.from.now in
    let gap = c.loop-gap.gap in
    let p = c.loop-gap.context in
    let k = c.in-Token.kind in
    let n = c.lexeme_at-length.result.0 in
    let is : lexeme_at c.loop-gap.fresh (drop gap from) ≡ (n, Token k) = ap (lexeme_at c.loop-gap.fresh) (sym c.split_at.ensures.back) ∙ sym c.lexeme_at-length.ensures.value ∙ ap (λ (x : Lexeme). let y : ℕ × Lexeme = (n, x) in y) c.in-Token.is in
    let front : c.split_at-in-loop-gap.result.0.now ≡ take n (drop gap from) = c.split_at-in-loop-gap.ensures.front ∙ ap (take n) c.split_at.ensures.back in
    let back : c.split_at-in-loop-gap.result.1.now ≡ drop n (drop gap from) = c.split_at-in-loop-gap.ensures.back ∙ ap (drop n) c.split_at.ensures.back in
    let token : c.new.result ≡ stretch p k (take gap from) (take n (drop gap from)) = c.new.ensures ∙ ap (λ (g : List ℕ). stretch p k g c.split_at-in-loop-gap.result.0.now) c.split_at.ensures.front ∙ ap (stretch p k (take gap from)) front in
    let items : c.push.new.self.items ≡ c.loop-gap.stretches.items ++ stretch p k (take gap from) (take n (drop gap from)) ∷ [] = c.in_ok-push-in-Token.ensures.items ∙ ap (λ (t : Written). c.loop-gap.stretches.items ++ t ∷ []) token in
    let context : c.behind-context.result ≡ behind p (role k (take n (drop gap from))) = c.behind-context.ensures ∙ ap (behind p) (c.role_of.ensures ∙ ap (role k) front) in
    rw (items, context, back) (reached_token n k c.loop-gap.invariant is c.lexeme_at-length.ensures.some (omega (arith, c.lexeme_at-length.ensures.within, c.split_at.ensures.back_len)))

pub returns : goal.returns
returns c = c.in_ok-push.ensures.items ∙ ap (λ (t : Written). c.loop-gap.stretches.items ++ t ∷ []) c.last.ensures ∙ reached_end c.loop-gap.invariant (omega arith)
