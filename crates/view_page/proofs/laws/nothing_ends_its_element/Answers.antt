use Rattle.view_page.proofs.Shown.{nothing_held_ends, nothing_shown_is_an_element}
use Rattle.view_page.proofs.laws.nothing_ends_its_element.Goals as goal

pub returns : goal.returns
returns c = record { held = nothing_held_ends; shown = nothing_shown_is_an_element }
