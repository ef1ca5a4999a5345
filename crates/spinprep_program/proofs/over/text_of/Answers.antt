use Rattle.std.proofs.Common.{◌≡◌, ℕ, List, ◌++◌, Option, take, ap, subst}
use Rattle.std.specs.Prelude.{IfSome}
use Rattle.std.specs.Option.{option_map}
use Rattle.spinprep_program.proofs.Given.{taken}
use Rattle.spinprep_program.proofs.over.text_of.Goals as goal

pub returns : goal.returns
returns g c =
    let old = c.new-text.result.items in
    let new = c.read_to_end.new.buf.items in
    let given : IfSome (option_map (take c.take.result.limit) (g.R.Read.remaining c.take.result.inner)) (λ xs. new ≡ old ++ xs) = c.in_ok-read_to_end.ensures.bytes in
    let limited : IfSome (option_map (take 8388609) (g.R.Read.remaining c.take.result.inner)) (λ xs. new ≡ old ++ xs) =
    subst (λ (n : ℕ). IfSome (option_map (take n) (g.R.Read.remaining c.take.result.inner)) (λ xs. new ≡ old ++ xs)) c.take.ensures.limit given in
    taken (g.R.Read.remaining c.args.reader) 8388609 old new c.new-text.ensures.items
    (subst (λ (o : Option (List ℕ)). IfSome (option_map (take 8388609) o) (λ xs. new ≡ old ++ xs)) (ap g.R.Read.remaining c.take.ensures.inner) limited)
