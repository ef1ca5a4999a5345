-- What stands at the front of bytes: a message is a head, which says how many bytes the body has, an empty line, and the body.
use Rattle.std.specs.Prelude.{◌+◌, ◌-◌, ◌*◌, ◌==◌, ◌||◌, ◌&&◌, leb, ltb, ℕ, Bool, true, List, [], ◌∷◌, take, drop, length, Option, Some, None, option_map, if◌then◌else◌, codes}
use Prim.Native.Nat.{suc}
use Rattle.std.specs.Char.{is_ascii_digit}
use Rattle.std.specs.Str.{str_eq_ignore_ascii_case, bytes_eq}
use Rattle.message_frames.specs.declared.front.TheConstants.{MOST_BYTES, MOST_HEAD}
use Rattle.message_frames.specs.declared.front.Front.{Front}
use Rattle.message_frames.specs.declared.front.Front.TheVariants.{Message, Part, Bad}

-- whether an empty line is next, with the end of the line before it
abbrev pub ends_head : List ℕ → Bool
ends_head bytes = bytes_eq (take 4 bytes) (codes "\r\n\r\n")

-- how many bytes a head has, with its empty line
abbrev pub head_length : List ℕ → Option ℕ
head_length [] = None
head_length (b ∷ bs) = if ends_head (b ∷ bs) then Some 4 else option_map suc (head_length bs)

-- a blank of a line: a space, a tab, or the carriage return at its end
abbrev pub is_blank : ℕ → Bool
is_blank b = b == 32 || b == 9 || b == 13

abbrev pub are_blank : List ℕ → Bool
are_blank [] = true
are_blank (b ∷ bs) = is_blank b && are_blank bs

-- the number that goes on with the digits of a line, if only blanks are behind them
abbrev pub number_behind : ℕ → List ℕ → Option ℕ
number_behind n [] = Some n
number_behind n (b ∷ bs) = if is_ascii_digit b then number_behind (n * 10 + (b - 48)) bs else if are_blank (b ∷ bs) then Some n else None

-- the number of a line: blanks, digits, blanks
abbrev pub number_of : List ℕ → Option ℕ
number_of [] = None
number_of (b ∷ bs) = if is_blank b then number_of bs else if is_ascii_digit b then number_behind 0 (b ∷ bs) else None

-- a line, up to its line feed
abbrev pub line : List ℕ → List ℕ
line [] = []
line (b ∷ bs) = if b == 10 then [] else b ∷ line bs

-- whether the field that tells the length of the body is next, in any case
abbrev pub begins_length : List ℕ → Bool
begins_length bytes = str_eq_ignore_ascii_case (take 15 bytes) (codes "content-length:")

-- the length that a head gives in the first line that tells it; `begins`: whether a line begins there
abbrev pub length_from : Bool → List ℕ → Option ℕ
length_from begins [] = None
length_from begins (b ∷ bs) =
    if begins && begins_length (b ∷ bs) then number_of (line (drop 15 (b ∷ bs))) else length_from (b == 10) bs

-- a length that a message may have
abbrev pub allowed : ℕ → Option ℕ
allowed n = if leb n MOST_BYTES then Some n else None

abbrev pub within : Option ℕ → Option ℕ
within None = None
within (Some n) = allowed n

-- a body of so many bytes behind a head of so many
abbrev pub behind : List ℕ → ℕ → ℕ → Front
behind bytes head n = if leb (head + n) (length bytes) then Message head (head + n) else Part

-- the same where the head gives such a length
abbrev pub behind_head : List ℕ → ℕ → Option ℕ → Front
behind_head bytes head None = Bad
behind_head bytes head (Some n) = behind bytes head n

-- a message whose head has so many bytes
abbrev pub front_by : List ℕ → Option ℕ → Front
front_by bytes (Some head) = if ltb MOST_HEAD head then Bad else behind_head bytes head (within (length_from true (take head bytes)))
front_by bytes None = if ltb MOST_HEAD (length bytes) then Bad else Part

-- what stands at the front of bytes: a whole message, whose body lies between two places; a part of one; or no head of a message
abbrev pub front_of : List ℕ → Front
front_of bytes = front_by bytes (head_length bytes)
