-- Characters that definitions speak of, by their codes.
-- Hold it against the codes of ASCII.
use Rattle.std.specs.Prelude.{ℕ, Bool, nat_le, ◌&&◌}

-- b'\t'
abbrev pub tab : ℕ
tab = 9

-- b'\n'
abbrev pub line_feed : ℕ
line_feed = 10

-- b'\r'
abbrev pub carriage_return : ℕ
carriage_return = 13

-- b' '
abbrev pub space : ℕ
space = 32

-- b'"'
abbrev pub quote : ℕ
quote = 34

-- b'#'
abbrev pub hash : ℕ
hash = 35

-- b'%'
abbrev pub percent : ℕ
percent = 37

-- b'*'
abbrev pub star : ℕ
star = 42

-- b'/'
abbrev pub slash : ℕ
slash = 47

-- b'0'
abbrev pub zero_digit : ℕ
zero_digit = 48

-- b'9'
abbrev pub nine_digit : ℕ
nine_digit = 57

-- from `0` to `9`
abbrev pub is_digit : ℕ → Bool
is_digit b = nat_le zero_digit b && nat_le b nine_digit

-- b'A'
abbrev pub upper_a : ℕ
upper_a = 65

-- b'Z'
abbrev pub upper_z : ℕ
upper_z = 90

-- b'\\'
abbrev pub backslash : ℕ
backslash = 92

-- b'_'
abbrev pub underscore : ℕ
underscore = 95

-- b'a'
abbrev pub lower_a : ℕ
lower_a = 97

-- b'z'
abbrev pub lower_z : ℕ
lower_z = 122

-- b'c'
abbrev pub letter_c : ℕ
letter_c = 99

-- b'd'
abbrev pub letter_d : ℕ
letter_d = 100

-- b'e'
abbrev pub letter_e : ℕ
letter_e = 101

-- b'o'
abbrev pub letter_o : ℕ
letter_o = 111

-- b'q'
abbrev pub letter_q : ℕ
letter_q = 113

-- b'u'
abbrev pub letter_u : ℕ
letter_u = 117

-- b'x'
abbrev pub letter_x : ℕ
letter_x = 120
