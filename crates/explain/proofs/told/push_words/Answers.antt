use Rattle.std.proofs.Common.{subst, sym}
use Rattle.std.specs.Str.{IsUtf8}
use Rattle.explain.proofs.Telling.{words_are_text}
use Rattle.explain.proofs.told.push_words.Goals as goal

pub returns-in-Err : goal.returns-in-Err
returns-in-Err c = absurd (c.in-Err.ensures.cases.0 (subst IsUtf8 (sym c.of_refusal.ensures) (words_are_text c.args.refusal)))
