use Rattle.std.proofs.Common.{◌≡◌, ◌+◌, min, take, true}
use Rattle.std.specs.List.{list_all}
use Rattle.profile.specs.Characters.{is_digit}
use Rattle.promela_session.specs.Lines.{number_of}
use Rattle.session.proofs.choice.writes_digits.Given as goal

abbrev pub invariant-loop-b : goal.invariant-loop-b
invariant-loop-b l = record {
  sum : l.n ≡ min (number_of (take l.b-index l.word)) (l.number + 1);
  digits : list_all is_digit (take l.b-index l.word) ≡ true;
}
