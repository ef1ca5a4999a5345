use Rattle.std.proofs.Common.{◌∙◌, ap, sym, subst, ℕ, List, [], ◌++◌}
use Rattle.view_page.specs.Pieces.{Moves, left}
use Rattle.view_page.specs.declared.parts.TheConstants.{TO_STEPS}
use Rattle.view_page.specs.declared.pieces.PagePart.TheVariants.{Steps}
use Rattle.view_page.proofs.Moving.{added_moves, moves_chain, last_moves, nothing_held}
use Rattle.view_page.proofs.pieces.Pieces.add_next.Goals as goal

pub returns-in-Source-clause-piece : goal.returns-in-Source-clause-piece
returns-in-Source-clause-piece c =
    let all = c.self.inside.contents in
    let rest = left Steps all in
    subst (λ (bs : List ℕ). Moves c.args.out.now c.add_part.new.out bs rest)
    (sym (ap (λ p. left p all) c.in-Source.is) ∙ c.self.view_is)
    (moves_chain _ _ _ _ (TO_STEPS.now ++ rest) _ (added_moves _ _ _ _ c.add_source.ensures) (added_moves _ _ _ _ c.add_part.ensures))

pub returns-then-is_empty-2-clause-piece : goal.returns-then-is_empty-2-clause-piece
returns-then-is_empty-2-clause-piece c =
    let all = c.self.inside.contents in
    subst (λ (bs : List ℕ). Moves c.args.out.now c.add_part-then-is_empty-2.new.out bs [])
    (sym (ap (λ p. left p all) c.in-Lines.is) ∙ c.self.view_is)
    (last_moves _ _ _ _ _ _ c.add_held_front-self-inside.ensures (nothing_held _ _ c.is_empty-in-Lines.ensures c.if-is_empty-2.true) c.add_part-then-is_empty-2.ensures)
