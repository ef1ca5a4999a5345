-- Worked rows, computed: what a string prints, without its quotes here.
use Rattle.std.proofs.Common.{◌≡◌, ℕ, List, [], ◌∷◌, ◌++◌, ℤ, pos, negsuc, refl}
use Rattle.std.specs.Prelude.{codes}
use Rattle.std.specs.Fmt.{digits}
use Rattle.profile.specs.Characters.{quote, tab, line_feed, backslash}
use Rattle.pml_token.specs.Word.{Word}
use Rattle.pml_token.specs.declared.token.Kind.TheVariants.{Name}
use Rattle.promela_run.specs.Lines.{printed, name_of_number}

abbrev name : List ℕ → Word
name text = record { kind = Name; text = text; line = 1 }

-- `mtype = { ack, nak }`: the last name has the number 1
abbrev constants : List Word
constants = name (codes "nak") ∷ name (codes "ack") ∷ []

abbrev prints : List ℕ → List ℤ → List ℕ
prints text values = printed constants (quote ∷ (text ++ quote ∷ [])) values

-- ---- conversions

-- `%d` has a sign
signed : prints (codes "%d %d %d") (pos 5 ∷ negsuc 4 ∷ negsuc 2147483647 ∷ []) ≡ codes "5 -5 -2147483648"
unfolding digits
signed = refl

-- the others have the same 32 bits without one
unsigned : prints (codes "%u %u") (negsuc 0 ∷ negsuc 2147483647 ∷ []) ≡ codes "4294967295 2147483648"
unfolding digits
unsigned = refl

octal : prints (codes "%o %o") (pos 8 ∷ negsuc 0 ∷ []) ≡ codes "10 37777777777"
unfolding digits
octal = refl

-- in lower-case letters
hexadecimal : prints (codes "%x %x") (pos 2748 ∷ negsuc 1 ∷ []) ≡ codes "abc fffffffe"
unfolding digits
hexadecimal = refl

nought : prints (codes "%d%u%o%x") (pos 0 ∷ pos 0 ∷ pos 0 ∷ pos 0 ∷ []) ≡ codes "0000"
unfolding digits
nought = refl

-- the byte of the lowest 8 bits
bytes : prints (codes "%c%c%c") (pos 65 ∷ pos 321 ∷ negsuc 0 ∷ []) ≡ 65 ∷ 65 ∷ 255 ∷ []
bytes = refl

-- a name, or the number where there is none
names : prints (codes "%e %e %e %e %e") (pos 1 ∷ pos 2 ∷ pos 3 ∷ pos 0 ∷ negsuc 0 ∷ []) ≡ codes "nak ack 3 0 -1"
unfolding digits
names = refl

-- `%%` takes no value
percent_sign : prints (codes "%d%%%d%%d") (pos 1 ∷ pos 2 ∷ []) ≡ codes "1%2%d"
unfolding digits
percent_sign = refl

-- ---- escapes

line_feeds : prints (codes "\\n\\n") [] ≡ line_feed ∷ line_feed ∷ []
line_feeds = refl

tabs : prints (codes "n\\tt") [] ≡ 110 ∷ tab ∷ 116 ∷ []
tabs = refl

-- a backslash behind a backslash begins nothing
backslashes : prints (codes "\\\\n") [] ≡ backslash ∷ 110 ∷ []
backslashes = refl

quotes : prints (codes "\\\"") [] ≡ quote ∷ []
quotes = refl

others : prints (codes "\\q\\0") [] ≡ codes "q0"
others = refl

-- a percent sign behind a backslash begins no conversion, and one behind a percent sign takes no backslash
no_conversion : prints (codes "\\%d\\%") [] ≡ codes "%d%"
no_conversion = refl

sign_and_line_feed : prints (codes "%%\\n") [] ≡ 37 ∷ line_feed ∷ []
sign_and_line_feed = refl

-- ---- ends

percent_at_the_end : prints (codes "a%") (pos 1 ∷ []) ≡ codes "a"
percent_at_the_end = refl

backslash_at_the_end : prints (codes "a\\") [] ≡ codes "a"
backslash_at_the_end = refl

empty : printed constants (quote ∷ quote ∷ []) [] ≡ []
empty = refl

-- bytes over 127 stand for themselves
bytes_over_127 : prints (195 ∷ 164 ∷ 0 ∷ []) [] ≡ 195 ∷ 164 ∷ 0 ∷ []
bytes_over_127 = refl

-- ---- whole strings

letter_octal_unsigned : prints (codes "%c%o %u\\n") (pos 65 ∷ pos 8 ∷ negsuc 0 ∷ []) ≡ codes "A10 4294967295\n"
unfolding digits
letter_octal_unsigned = refl

name_sign_hexadecimal : prints (codes "%e %d%% %x\\n") (pos 1 ∷ pos 2 ∷ negsuc 0 ∷ []) ≡ codes "nak 2% ffffffff\n"
unfolding digits
name_sign_hexadecimal = refl

-- `printm (7)`
no_name : name_of_number constants (pos 7) ≡ codes "7"
unfolding digits
no_name = refl
