-- A run of kinds that are expected, one after another.
use Rattle.std.proofs.Common.{◌≡◌, ℕ, ◌+◌, ◌<◌, ◌≤◌, List, ◌∷◌, length, drop, Ok, slice_index_or, refl, ◌∙◌}
use Rattle.std.proofs.lemmas.List.{at_drop_more, drop_all}
use Rattle.pml_token.specs.Word.{Word}
use Rattle.pml_token.specs.declared.token.Kind.{Kind}
use Rattle.pml_token.specs.declared.token.Kind.TheVariants as k
use Rattle.pml_expression.specs.Reading.{Read, and_then, expect, expect_all}

pub one_taken : (kinds : List Kind) (i : ℕ) (ts : List Word) (x : Word × List Word) (r : Read (Unit {0})) → i < length kinds → r ≡ expect_all (drop i kinds) ts → expect (slice_index_or kinds i k.Name) ts ≡ Ok x → r ≡ expect_all (drop (i + 1) kinds) x.1
unfolding expect_all and_then
one_taken kinds i ts x r below h e = h ∙ at_drop_more (λ ks. expect_all ks ts) kinds i k.Name below ∙ rw e refl

pub at_turn : (kinds : List Kind) (i : ℕ) (ts : List Word) (r : Read (Unit {0})) → i < length kinds → r ≡ expect_all (drop i kinds) ts → r ≡ expect_all (slice_index_or kinds i k.Name ∷ drop (i + 1) kinds) ts
at_turn kinds i ts r below h = h ∙ at_drop_more (λ ks. expect_all ks ts) kinds i k.Name below

pub all_taken : (kinds : List Kind) (i : ℕ) (ts : List Word) (r : Read (Unit {0})) → length kinds ≤ i → r ≡ expect_all (drop i kinds) ts → r ≡ Ok (tt, ts)
unfolding expect_all
all_taken kinds i ts r over h = h ∙ rw (drop_all i kinds over) refl
