use Rattle.std.proofs.Common.{◌≡◌, ◌<◌, ◌+◌, ◌*◌, ◌-◌, ◌∙◌, length, get_or, sym, true, rules}
use Rattle.std.specs.Char.{is_ascii_digit}
use Rattle.message_frames.specs.declared.front.TheConstants.{MOST_BYTES}
use Rattle.message_frames.proofs.Own.{large_here}
use Rattle.message_frames.proofs.front.number_behind.Goals as goal

pub returns-then-number-gt-MOST_BYTES : goal.returns-then-number-gt-MOST_BYTES
returns-then-number-gt-MOST_BYTES c =
    let first = get_or c.loop-rest.rest.now 0 0 in
    let some : 0 < length c.loop-rest.rest.now = search rules in
    let digit : is_ascii_digit first ≡ true = search rules in
    let large : MOST_BYTES < c.loop-rest.number * 10 + (first - 48) = search rules in
    sym (large_here c.loop-rest.number c.loop-rest.rest.now some digit large) ∙ c.loop-rest.invariant.0
