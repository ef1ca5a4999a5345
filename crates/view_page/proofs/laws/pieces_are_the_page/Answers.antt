use Rattle.view_page.proofs.Moving as moving
use Rattle.view_page.proofs.laws.pieces_are_the_page.Goals as goal

pub returns : goal.returns
returns c = moving.pieces_are_the_page
