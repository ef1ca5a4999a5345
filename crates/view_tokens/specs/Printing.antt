-- Bytes that are tokens.
use Rattle.std.specs.Prelude.{◌≡◌, ℕ, Bool, false, ◌&&◌, not, leb, nat_eq, List, [], ◌∷◌, Option, Some, None}
use Rattle.std.specs.Str.{IsUtf8}
use Rattle.json.specs.Token.{Token}
use Rattle.json.specs.Print.{begins, ends, token_text, print, ends_value, IsPrintable, ArePrintable}

-- a byte that stands in a string as it is, and is a character
abbrev pub is_bare : ℕ → Bool
is_bare b = leb 32 b && (leb b 126 && (not (nat_eq b 34) && not (nat_eq b 92)))

-- these bytes are some tokens, and a value has just ended there, or not
pub record IsPrint (text : List ℕ) (is_behind : Bool) : Type 0 where
  pub printed : List Token
  pub printable : ArePrintable printed
  pub is : text ≡ print printed
  pub place : is_behind ≡ ends_value printed
  pub utf8 : IsUtf8 text

-- these are the bytes of a token; before it a comma stands behind a value, or not; behind it a value has ended, or not
pub record IsToken (t : Token) (text : List ℕ) (first last : Bool) : Type 0 where
  pub is : text ≡ token_text t
  pub begins : first ≡ begins t
  pub ends : last ≡ ends t
  pub printable : IsPrintable t
  pub utf8 : IsUtf8 text

-- whether a comma stands before tokens behind a value
abbrev pub begins_first : List Token → Bool
begins_first [] = false
begins_first (t ∷ ts) = begins t

-- whether one stands before tokens that begin with this byte
abbrev pub may_begin : Option ℕ → Bool
may_begin None = false
may_begin (Some b) = not (nat_eq b 125) && not (nat_eq b 93)
