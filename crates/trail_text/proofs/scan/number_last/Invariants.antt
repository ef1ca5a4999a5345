use Rattle.std.proofs.Common.{◌≡◌, ◌-◌, true, length, drop}
use Rattle.std.specs.List.{list_all}
use Rattle.trail_text.specs.Numbers.{is_digit}
use Rattle.trail_text.proofs.scan.number_last.Given as goal

abbrev pub invariant-loop-behind : goal.invariant-loop-behind
invariant-loop-behind l = record {
  digits : list_all is_digit (drop l.start l.text) ≡ true;
  here : l.start ≡ length l.text - l.behind;
}
