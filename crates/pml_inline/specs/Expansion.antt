-- What comes of the tokens of a text, as a function: Inlines.antt says it by rules.
use Rattle.std.specs.Prelude.{◌≡◌, ℕ, zero, suc, ◌+◌, Bool, true, false, not, ◌&&◌, nat_le, if◌then◌else◌, List, [], ◌∷◌, ◌++◌, length, map, take, drop, Option, Some, None, option_map, option_and_then}
use Rattle.profile.specs.declared.TheConstants.{MOST_CALLS, MOST_REPLACED}
use Rattle.pml_token.specs.declared.token.Kind.TheVariants.{OpenParen, CloseParen}
use Rattle.pml_token.specs.Word.{Word}
use Rattle.promela_text.specs.Inlines.{is_inline, has_inline, closing, arguments, Inline, is_among, all_differ, definition, replaced, fits, callee, braces_behind}

-- ---- definitions

-- the definitions from a token on: it is passed over, or begins one, or is another token
abbrev pub definition_turn : ℕ → Bool → Option Inline → (ℕ → Option (List Inline)) → Option (List Inline)
definition_turn (suc n) here d rest = rest n
definition_turn zero true d rest = option_and_then (λ e. option_map (λ ds. e ∷ ds) (rest e.size)) d
definition_turn zero false d rest = rest 0

-- the definitions, in order, where each word `inline` begins one; the first `n` tokens are passed over
abbrev pub definitions : List Word → ℕ → Option (List Inline)
definitions [] n = Some []
definitions (w ∷ ws) n = definition_turn n (is_inline w) (definition ws) (definitions ws)

-- ---- calls

-- What comes out, and how many tokens all the replacements on the way have.
pub record Given : Type 0 where
  pub tokens : List Word
  pub count : ℕ

-- one after the other
abbrev pub join_given : Option Given → Option Given → Option Given
join_given (Some a) (Some b) = Some (record { tokens = a.tokens ++ b.tokens; count = a.count + b.count })
join_given _ _ = None

-- a token comes out as it is
abbrev pub itself : Word → Option Given
itself w = Some (record { tokens = w ∷ []; count = 0 })

-- what comes of a token and of what is behind it: it is passed over, or stays, or is a call, whose `)` stands behind `k` tokens
abbrev pub turn : (Inline → List Word → Option Given) → ℕ → Option Inline → Word → List Word → (ℕ → Option Given) → Option Given
turn call (suc n) d w ws rest = rest n
turn call zero None w ws rest = join_given (itself w) (rest 0)
turn call zero (Some d) w ws rest =
    option_and_then (λ k. join_given (call d (take k (drop 1 ws))) (rest (k + 2))) (closing OpenParen CloseParen (drop 1 ws) 0)

-- what comes out of tokens by `call`, which says what comes out of a call; the first `n` tokens are passed over
abbrev pub reading : List Inline → (Inline → List Word → Option Given) → List Word → ℕ → Option Given
reading known call [] n = Some (record { tokens = []; count = 0 })
reading known call (w ∷ ws) n = turn call n (callee known w ws) w ws (reading known call ws)

-- what is read counts by its tokens, where the call has as many arguments as there are parameters
abbrev pub where_right : Bool → (List Word → Option Given) → List Word → Option Given
where_right true read ts = join_given (Some (record { tokens = []; count = length ts })) (read ts)
where_right false read ts = None

-- What comes out of a call, where `room` calls more may be within one another, and the calls of `active` are around it.
unfoldable pub calling : List Inline → ℕ → List (List ℕ) → Inline → List Word → Option Given
calling known zero active d inside = None
calling known (suc room) active d inside =
    where_right (not (is_among d.name active) && fits d (arguments inside))
    (λ ts. reading known (calling known room (active ++ d.name ∷ [])) ts 0) (replaced d (arguments inside))

-- what is answered of tokens
abbrev pub answered : List Inline → ℕ → List (List ℕ) → List Word → Option Given
answered known room active ts = reading known (calling known room active) ts 0

-- ---- a text

-- a call outside all others, whose parentheses have no word `inline` between them
abbrev pub outermost_call : (List Word → Option Given) → List Word → (ℕ → Option Given) → Option ℕ → Option Given
outermost_call call ws rest None = None
outermost_call call ws rest (Some n) =
    if has_inline (take n (drop 1 ws)) then None else join_given (call (take n (drop 1 ws))) (rest (n + 2))

-- What comes out of the rest, where these inlines stand before it and behind its front, so many braces are open, and
-- so many of its tokens are passed over.
abbrev pub Rest : Type 0
Rest = List Inline → List Inline → ℕ → ℕ → Option Given

-- a definition, outside all braces
abbrev pub defined : Rest → List Inline → List Inline → ℕ → Option Given
defined rest known (d ∷ ds) zero = rest (known ++ d ∷ []) ds 0 d.size
defined rest known (d ∷ ds) (suc n) = None
defined rest known [] n = None

-- what comes of a token of a text and of what is behind it: it is passed over, or begins a definition, or stays, or is a call
abbrev pub text_turn : ℕ → Bool → Option Inline → Word → List Word → Rest → Rest
text_turn (suc m) here d w ws rest known ds n m' = rest known ds n m
text_turn zero true d w ws rest known ds n m' = defined rest known ds n
text_turn zero false None w ws rest known ds n m' = join_given (itself w) (rest known ds (braces_behind n w) 0)
text_turn zero false (Some d) w ws rest known ds n m' = outermost_call (calling known MOST_CALLS [] d) ws (rest known ds n) (closing OpenParen CloseParen (drop 1 ws) 0)

-- What comes out of a text. `known` are the definitions before it, `ds` those in it, `n` braces are open before it, and the
-- first `m` tokens are passed over.
abbrev pub texts : List Word → Rest
texts [] known ds n m = Some (record { tokens = []; count = 0 })
texts (w ∷ ws) known ds n m = text_turn m (is_inline w) (callee known w ws) w ws (texts ws) known ds n m

-- all replacements together are not too many tokens
abbrev pub limited : Option Given → Option (List Word)
limited o = option_and_then (λ g. if nat_le g.count MOST_REPLACED then Some g.tokens else None) o

-- the tokens with their definitions taken out and their calls replaced, if the definitions and the calls are right, and no two
-- definitions have one name
unfoldable pub expansion : List Word → Option (List Word)
expansion ts =
    option_and_then (λ ds. if all_differ (map (λ d. d.name) ds) then limited (texts ts [] ds 0 0) else None) (definitions ts 0)

-- `us` is what is given of the tokens
abbrev pub Gives : List Word → List Word → Type 0
Gives ts us = expansion ts ≡ Some us
