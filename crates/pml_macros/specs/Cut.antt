-- How a preprocessor cuts a text into tokens.
use Rattle.std.specs.Prelude.{ℕ, nat_eq, leb, ◌&&◌, ◌||◌, Bool, codes, if◌then◌else◌}
use Rattle.std.specs.List.{list_any}
use Rattle.pml_macros.specs.declared.atom.AtomSort.{AtomSort}
use Rattle.pml_macros.specs.declared.atom.AtomSort.TheVariants as sort

-- a digit
abbrev pub is_digit : ℕ → Bool
is_digit b = leb 48 b && leb b 57

-- what a name may begin with
abbrev pub is_letter : ℕ → Bool
is_letter b = (leb 97 b && leb b 122) || ((leb 65 b && leb b 90) || nat_eq b 95)

-- a blank that ends no line, or ends one beside a line feed
abbrev pub is_blank : ℕ → Bool
is_blank b = nat_eq b 32 || (leb 9 b && leb b 13)

abbrev pub is_name_byte : ℕ → Bool
is_name_byte b = is_letter b || is_digit b

-- twice this sign is one
abbrev pub is_doubled : ℕ → Bool
is_doubled a = list_any (nat_eq a) (codes ":.+<>&|!?")

-- two bytes are one sign: `==`, `!=`, `<=`, `>=`, `->`, `--`, or one twice
abbrev pub is_sign_of_two : ℕ → ℕ → Bool
is_sign_of_two a b =
    if nat_eq b 61 then list_any (nat_eq a) (codes "=!<>")
    else if nat_eq a 45 then list_any (nat_eq b) (codes ">-")
    else nat_eq a b && is_doubled a

-- what a sign of one byte is
abbrev pub sort_of_one : ℕ → AtomSort
sort_of_one b =
    if nat_eq b 40 then sort.OpenParen
    else if nat_eq b 41 then sort.CloseParen
    else if nat_eq b 44 then sort.Comma
    else if nat_eq b 35 then sort.Hash
    else sort.Sign
