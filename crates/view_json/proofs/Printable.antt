-- What is written can be read back.
use Rattle.std.proofs.Common.{ℕ, List, [], ◌∷◌, ◌++◌}
use Rattle.json.specs.Token.{Token, begin_array, end_array, key}
use Rattle.json.specs.Print.{IsPrintable, ArePrintable}

pub none_printable : ArePrintable []
unfolding ArePrintable
none_printable = tt

pub one_printable : (t : Token) (ts : List Token) → IsPrintable t → ArePrintable ts → ArePrintable (t ∷ ts)
unfolding ArePrintable
one_printable t ts one rest = (one, rest)

pub both_printable : (xs ys : List Token) → ArePrintable xs → ArePrintable ys → ArePrintable (xs ++ ys)
unfolding ArePrintable
both_printable [] ys none all = all
both_printable (x ∷ xs) ys all more = (all.0, both_printable xs ys all.1 more)

-- an array as a member
pub array_printable : (name : List ℕ) (ts : List Token) → ArePrintable ts → ArePrintable (key name ∷ begin_array ∷ (ts ++ end_array ∷ []))
array_printable name ts all =
    one_printable (key name) _ tt (one_printable begin_array _ tt (both_printable ts (end_array ∷ []) all (one_printable end_array [] tt none_printable)))
