use Rattle.std.proofs.Common.{◌≡◌, ◌-◌, subst, take, List, ℕ, arith}
use Rattle.explain_tokens.specs.Placed.{IsUnplaced}
use Rattle.lsp_completions.specs.Wishes.{nothing}
use Rattle.lsp_completions.proofs.Offering.{null_view, offered_by}
use Rattle.lsp_completions.proofs.wishes.completion.Goals as goal

-- the bytes from the first to a place
before_place : (n : ℕ) (text part : List ℕ) → part ≡ take (n - 0) text → part ≡ take n text
before_place n text part h = subst (λ (m : ℕ). part ≡ take m text) (omega (arith)) h

pub returns-in-Err : goal.returns-in-Err
returns-in-Err c = nothing c.in-Err.field-0 (subst (λ (t : List ℕ). IsUnplaced t c.in-Err.field-0) (before_place c.args.offset c.args.page.text.now c.between.result.now c.between.ensures) c.in-Err.ensures.err) null_view

pub returns : goal.returns
returns c =
    offered_by c.args.page c.args.offset c.between.result.now c.in-Ok.tokens.items c.deref.result.now c.deref-2.result.now c.before_typed-before.result.now
    c.in_ok-found.found
    (record { typed = c.typed_in.result; asked = c.asked_behind.result; standing = c.stands.result })
    c.told.result (before_place c.args.offset c.args.page.text.now c.between.result.now c.between.ensures) c.in-Ok.ensures.ok c.deref.ensures.value c.deref-2.ensures.value c.before_typed-before.ensures c.in_ok-found.ensures
    c.typed_in.ensures c.asked_behind.ensures c.stands.ensures c.told.ensures
