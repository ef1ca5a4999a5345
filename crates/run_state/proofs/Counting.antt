-- What is kept is no more than the model says.
use Rattle.std.proofs.Common.{◌≡◌, ℕ, ◌+◌, ◌*◌, ◌≤◌, List, [], ◌∷◌, map, length, arith}
use Rattle.std.specs.List.{AllByRecursion}
use Rattle.std.proofs.Math.Nat.{mul-le-mul_right}
use Rattle.pml_program.specs.declared.program.Program.{Program}
use Rattle.promela_run.specs.declared.live_channel.LiveChannel.{LiveChannel}
use Rattle.run_start.specs.Bound.{room, most_room, most_cells, bound, AreBounded}
use Rattle.run_state.specs.Footprint.{all_room}

each_within : (n : ℕ) (cs : List LiveChannel) → AllByRecursion (λ m. m ≤ n) (map room cs) → all_room cs ≤ length cs * n
each_within n [] h = omega arith
each_within n (c ∷ cs) h = omega (arith, h.0, each_within n cs h.1)

pub room_within : (p : Program) (cs : List LiveChannel) → AreBounded p cs → all_room cs ≤ 255 * most_room p
room_within p cs b =
    let m : length cs * most_room p ≤ 255 * most_room p = mul-le-mul_right (most_room p) b.few in
    omega (arith, each_within (most_room p) cs b.small, m)

pub room_counted : (p : Program) (cs : List LiveChannel) → bound p ≤ 4294967295 → AreBounded p cs → all_room cs ≤ 4294967295
room_counted p cs h b = omega (arith, h, room_within p cs b)

pub all_within : (p : Program) (cells most numbers room processes channels : ℕ) → cells ≤ most → most ≡ most_cells p → numbers ≤ room → room ≤ 255 * most_room p → processes ≤ 255 → channels ≤ 255 →
    cells + numbers + 2 * processes + 2 * channels ≤ bound p
all_within p cells most numbers room processes channels a e b c d f = omega (arith, a, e, b, c, d, f)
