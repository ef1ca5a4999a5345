-- A page that is written piece by piece.
use Rattle.std.specs.Prelude.{◌≡◌, ℕ, false, List, [], ◌++◌}
use Rattle.view_text.specs.Written.{Written, Stays, Adds}
use Rattle.view_page.specs.declared.parts.TheConstants.{TO_LINES}
use Rattle.view_page.specs.declared.script.TheConstants.{TO_END}
use Rattle.view_page.specs.declared.page.Contents.{Contents}
use Rattle.view_page.specs.declared.pieces.PagePart.{PagePart}
use Rattle.view_page.specs.declared.pieces.PagePart.TheVariants.{Source, Steps, Lines, Nothing}
use Rattle.view_page.specs.Page.{held, page}

-- what is left of a page, where this comes next, and so much is left of the steps and the lines
abbrev pub left : PagePart → Contents → List ℕ
left Source c = page c
left Steps c = c.steps.now ++ (TO_LINES.now ++ (held c.lines.now ++ TO_END.now))
left Lines c = held c.lines.now ++ TO_END.now
left Nothing c = []

-- what is taken off is written: what is written, and behind it what is left, stay as they are, unless memory is refused
pub record Moves (old new : Written) (before after : List ℕ) : Type 0 where
  pub stays : Stays old new
  pub moved : new.refused ≡ false → new.text ++ after ≡ old.text ++ before

-- where all of a page is taken off, piece after piece, it is written as it is
abbrev pub PiecesAreThePage : Type 0
PiecesAreThePage = (before after : Written) (c : Contents) (some : List ℕ) (between : Written)
    → Moves before between (page c) some → Moves between after some [] → Adds before after (page c)
