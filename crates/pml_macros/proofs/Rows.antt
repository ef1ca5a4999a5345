-- What comes of texts, computed: the examples of C11 6.10.3.5 and of 6.10.3.4.
use Rattle.std.proofs.Common.{◌≡◌, ℕ, zero, suc, false, List, [], ◌∷◌, map, Option, None, Some, refl, option_map}
use Rattle.pml_macros.specs.declared.atom.AtomSort.{AtomSort}
use Rattle.pml_macros.specs.declared.atom.AtomSort.TheVariants as sort
use Rattle.pml_macros.specs.declared.atom.FilePlace.{FilePlace}
use Rattle.pml_macros.specs.declared.atom.Atom.{Atom}
use Rattle.pml_macros.specs.declared.table.BodyToken.{BodyToken}
use Rattle.pml_macros.specs.declared.table.Substitution.TheVariants.{Itself, Expanded}
use Rattle.pml_macros.specs.Calls.{Known, standing, tokens}
use Rattle.pml_macros.specs.Run.{run}

abbrev here : FilePlace
here = record { file = 0; offset = 0; line = 1; column = 1 }

abbrev token : AtomSort → ℕ → Atom
token s n = record { sort = s; text = n; is_spaced = false; is_painted = false; place = here; call = here }

-- a token of a body
abbrev keeps : Atom → BodyToken
keeps a = record { atom = a; role = Itself; is_joined = false }

-- a parameter in a body
abbrev gives : ℕ → BodyToken
gives k = record { atom = token sort.Name 0; role = Expanded k; is_joined = false }

abbrev texts : Option (List Atom) → Option (List ℕ)
texts o = option_map (λ xs. map (λ a. a.text) xs) o

-- goes_on:
--   #define f(a) a*g
--   #define g(a) f(a)
-- of `f(2)(9)` comes `2*9*g`
goes_on_known : Known
goes_on_known zero = Some (record { name = 0; parameters = Some 1; body = gives 0 ∷ keeps (token sort.Sign 2) ∷ keeps (token sort.Name 1) ∷ [] })
goes_on_known (suc zero) = Some (record { name = 1; parameters = Some 1; body = keeps (token sort.Name 0) ∷ keeps (token sort.OpenParen 3) ∷ gives 0 ∷ keeps (token sort.CloseParen 4) ∷ [] })
goes_on_known _ = None

goes_on : texts (run 120 goes_on_known [] (tokens (token sort.Name 0 ∷ token sort.OpenParen 3 ∷ token sort.Number 5 ∷ token sort.CloseParen 4 ∷ token sort.OpenParen 3 ∷ token sort.Number 6 ∷ token sort.CloseParen 4 ∷ []))) ≡ Some (5 ∷ 2 ∷ 6 ∷ 2 ∷ 1 ∷ [])
unfolding standing goes_on_known
goes_on = refl

-- itself:
--   #define A A + 1
-- of `A` comes `A + 1`
itself_known : Known
itself_known zero = Some (record { name = 0; parameters = None; body = keeps (token sort.Name 0) ∷ keeps (token sort.Sign 1) ∷ keeps (token sort.Number 2) ∷ [] })
itself_known _ = None

itself : texts (run 120 itself_known [] (tokens (token sort.Name 0 ∷ []))) ≡ Some (0 ∷ 1 ∷ 2 ∷ [])
unfolding standing itself_known
itself = refl

-- each_other:
--   #define A B
--   #define B A
-- of `A B` comes `A B`
each_other_known : Known
each_other_known zero = Some (record { name = 0; parameters = None; body = keeps (token sort.Name 1) ∷ [] })
each_other_known (suc zero) = Some (record { name = 1; parameters = None; body = keeps (token sort.Name 0) ∷ [] })
each_other_known _ = None

each_other : texts (run 120 each_other_known [] (tokens (token sort.Name 0 ∷ token sort.Name 1 ∷ []))) ≡ Some (0 ∷ 1 ∷ [])
unfolding standing each_other_known
each_other = refl

-- example_three:
--   #define x 2
--   #define f(a) f(x * (a))
--   #define g f
--   #define z z[0]
--   #define h g(~
--   #define m(a) a(w)
--   #define w 0,1
--   #define t(a) a
-- of `f(y+1) + f(f(z)) % t(t(g)(0) + t)(1);` comes `f(2 * (y+1)) + f(2 * (f(2 * (z[0])))) % f(2 * (0)) + t(1);`
example_three_known : Known
example_three_known zero = Some (record { name = 0; parameters = None; body = keeps (token sort.Number 8) ∷ [] })
example_three_known (suc zero) = Some (record { name = 1; parameters = Some 1; body = keeps (token sort.Name 1) ∷ keeps (token sort.OpenParen 9) ∷ keeps (token sort.Name 0) ∷ keeps (token sort.Sign 10) ∷ keeps (token sort.OpenParen 9) ∷ gives 0 ∷ keeps (token sort.CloseParen 11) ∷ keeps (token sort.CloseParen 11) ∷ [] })
example_three_known (suc (suc zero)) = Some (record { name = 2; parameters = None; body = keeps (token sort.Name 1) ∷ [] })
example_three_known (suc (suc (suc zero))) = Some (record { name = 3; parameters = None; body = keeps (token sort.Name 3) ∷ keeps (token sort.Sign 12) ∷ keeps (token sort.Number 13) ∷ keeps (token sort.Sign 14) ∷ [] })
example_three_known (suc (suc (suc (suc zero)))) = Some (record { name = 4; parameters = None; body = keeps (token sort.Name 2) ∷ keeps (token sort.OpenParen 9) ∷ keeps (token sort.Sign 15) ∷ [] })
example_three_known (suc (suc (suc (suc (suc zero))))) = Some (record { name = 5; parameters = Some 1; body = gives 0 ∷ keeps (token sort.OpenParen 9) ∷ keeps (token sort.Name 6) ∷ keeps (token sort.CloseParen 11) ∷ [] })
example_three_known (suc (suc (suc (suc (suc (suc zero)))))) = Some (record { name = 6; parameters = None; body = keeps (token sort.Number 13) ∷ keeps (token sort.Comma 16) ∷ keeps (token sort.Number 17) ∷ [] })
example_three_known (suc (suc (suc (suc (suc (suc (suc zero))))))) = Some (record { name = 7; parameters = Some 1; body = gives 0 ∷ [] })
example_three_known _ = None

example_three : texts (run 300 example_three_known [] (tokens (token sort.Name 1 ∷ token sort.OpenParen 9 ∷ token sort.Name 18 ∷ token sort.Sign 19 ∷ token sort.Number 17 ∷ token sort.CloseParen 11 ∷ token sort.Sign 19 ∷ token sort.Name 1 ∷ token sort.OpenParen 9 ∷ token sort.Name 1 ∷ token sort.OpenParen 9 ∷ token sort.Name 3 ∷ token sort.CloseParen 11 ∷ token sort.CloseParen 11 ∷ token sort.Sign 20 ∷ token sort.Name 7 ∷ token sort.OpenParen 9 ∷ token sort.Name 7 ∷ token sort.OpenParen 9 ∷ token sort.Name 2 ∷ token sort.CloseParen 11 ∷ token sort.OpenParen 9 ∷ token sort.Number 13 ∷ token sort.CloseParen 11 ∷ token sort.Sign 19 ∷ token sort.Name 7 ∷ token sort.CloseParen 11 ∷ token sort.OpenParen 9 ∷ token sort.Number 17 ∷ token sort.CloseParen 11 ∷ token sort.Sign 21 ∷ []))) ≡ Some (1 ∷ 9 ∷ 8 ∷ 10 ∷ 9 ∷ 18 ∷ 19 ∷ 17 ∷ 11 ∷ 11 ∷ 19 ∷ 1 ∷ 9 ∷ 8 ∷ 10 ∷ 9 ∷ 1 ∷ 9 ∷ 8 ∷ 10 ∷ 9 ∷ 3 ∷ 12 ∷ 13 ∷ 14 ∷ 11 ∷ 11 ∷ 11 ∷ 11 ∷ 20 ∷ 1 ∷ 9 ∷ 8 ∷ 10 ∷ 9 ∷ 13 ∷ 11 ∷ 11 ∷ 19 ∷ 7 ∷ 9 ∷ 17 ∷ 11 ∷ 21 ∷ [])
unfolding standing example_three_known
example_three = refl

-- example_three_more:
--   #define x 2
--   #define f(a) f(x * (a))
--   #define g f
--   #define z z[0]
--   #define h g(~
--   #define m(a) a(w)
--   #define w 0,1
--   #define t(a) a
-- of `g(x+(3,4)-w) | h 5) & m(f)^m(m);` comes `f(2 * (2+(3,4)-0,1)) | f(2 * (~ 5)) & f(2 * (0,1))^m(0,1);`
example_three_more_known : Known
example_three_more_known zero = Some (record { name = 0; parameters = None; body = keeps (token sort.Number 8) ∷ [] })
example_three_more_known (suc zero) = Some (record { name = 1; parameters = Some 1; body = keeps (token sort.Name 1) ∷ keeps (token sort.OpenParen 9) ∷ keeps (token sort.Name 0) ∷ keeps (token sort.Sign 10) ∷ keeps (token sort.OpenParen 9) ∷ gives 0 ∷ keeps (token sort.CloseParen 11) ∷ keeps (token sort.CloseParen 11) ∷ [] })
example_three_more_known (suc (suc zero)) = Some (record { name = 2; parameters = None; body = keeps (token sort.Name 1) ∷ [] })
example_three_more_known (suc (suc (suc zero))) = Some (record { name = 3; parameters = None; body = keeps (token sort.Name 3) ∷ keeps (token sort.Sign 12) ∷ keeps (token sort.Number 13) ∷ keeps (token sort.Sign 14) ∷ [] })
example_three_more_known (suc (suc (suc (suc zero)))) = Some (record { name = 4; parameters = None; body = keeps (token sort.Name 2) ∷ keeps (token sort.OpenParen 9) ∷ keeps (token sort.Sign 15) ∷ [] })
example_three_more_known (suc (suc (suc (suc (suc zero))))) = Some (record { name = 5; parameters = Some 1; body = gives 0 ∷ keeps (token sort.OpenParen 9) ∷ keeps (token sort.Name 6) ∷ keeps (token sort.CloseParen 11) ∷ [] })
example_three_more_known (suc (suc (suc (suc (suc (suc zero)))))) = Some (record { name = 6; parameters = None; body = keeps (token sort.Number 13) ∷ keeps (token sort.Comma 16) ∷ keeps (token sort.Number 17) ∷ [] })
example_three_more_known (suc (suc (suc (suc (suc (suc (suc zero))))))) = Some (record { name = 7; parameters = Some 1; body = gives 0 ∷ [] })
example_three_more_known _ = None

example_three_more : texts (run 300 example_three_more_known [] (tokens (token sort.Name 2 ∷ token sort.OpenParen 9 ∷ token sort.Name 0 ∷ token sort.Sign 18 ∷ token sort.OpenParen 9 ∷ token sort.Number 19 ∷ token sort.Comma 16 ∷ token sort.Number 20 ∷ token sort.CloseParen 11 ∷ token sort.Sign 21 ∷ token sort.Name 6 ∷ token sort.CloseParen 11 ∷ token sort.Sign 22 ∷ token sort.Name 4 ∷ token sort.Number 23 ∷ token sort.CloseParen 11 ∷ token sort.Sign 24 ∷ token sort.Name 5 ∷ token sort.OpenParen 9 ∷ token sort.Name 1 ∷ token sort.CloseParen 11 ∷ token sort.Sign 25 ∷ token sort.Name 5 ∷ token sort.OpenParen 9 ∷ token sort.Name 5 ∷ token sort.CloseParen 11 ∷ token sort.Sign 26 ∷ []))) ≡ Some (1 ∷ 9 ∷ 8 ∷ 10 ∷ 9 ∷ 8 ∷ 18 ∷ 9 ∷ 19 ∷ 16 ∷ 20 ∷ 11 ∷ 21 ∷ 13 ∷ 16 ∷ 17 ∷ 11 ∷ 11 ∷ 22 ∷ 1 ∷ 9 ∷ 8 ∷ 10 ∷ 9 ∷ 15 ∷ 23 ∷ 11 ∷ 11 ∷ 24 ∷ 1 ∷ 9 ∷ 8 ∷ 10 ∷ 9 ∷ 13 ∷ 16 ∷ 17 ∷ 11 ∷ 11 ∷ 25 ∷ 5 ∷ 9 ∷ 13 ∷ 16 ∷ 17 ∷ 11 ∷ 26 ∷ [])
unfolding standing example_three_more_known
example_three_more = refl

-- no_arguments:
--   #define p() int
--   #define q(x) x
-- of `p() i[q()] = { q(1) }` comes `int i[] = { 1 }`
no_arguments_known : Known
no_arguments_known zero = Some (record { name = 0; parameters = Some 0; body = keeps (token sort.Name 2) ∷ [] })
no_arguments_known (suc zero) = Some (record { name = 1; parameters = Some 1; body = gives 0 ∷ [] })
no_arguments_known _ = None

no_arguments : texts (run 120 no_arguments_known [] (tokens (token sort.Name 0 ∷ token sort.OpenParen 3 ∷ token sort.CloseParen 4 ∷ token sort.Name 5 ∷ token sort.Sign 6 ∷ token sort.Name 1 ∷ token sort.OpenParen 3 ∷ token sort.CloseParen 4 ∷ token sort.Sign 7 ∷ token sort.Sign 8 ∷ token sort.Sign 9 ∷ token sort.Name 1 ∷ token sort.OpenParen 3 ∷ token sort.Number 10 ∷ token sort.CloseParen 4 ∷ token sort.Sign 11 ∷ []))) ≡ Some (2 ∷ 5 ∷ 6 ∷ 7 ∷ 8 ∷ 9 ∷ 10 ∷ 11 ∷ [])
unfolding standing no_arguments_known
no_arguments = refl
