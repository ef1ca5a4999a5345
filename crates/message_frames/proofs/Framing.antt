-- A framed message is read as it was.
use Rattle.std.proofs.Common.{◌≡◌, ◌<◌, ◌≤◌, ◌+◌, ◌*◌, ◌-◌, ◌^◌, ◌==◌, ◌&&◌, not, ℕ, zero, suc, length, List, [], ◌∷◌, ◌++◌, take, drop, Bool, true, false, Option, Some, None, leb, ltb, ap, refl, sym, arith, le-leb, ◌∙◌, codes, append_assoc, rules}
use Rattle.std.specs.Prelude.{if◌then◌else◌, option_map}
use Rattle.std.specs.Char.{is_ascii_digit}
use Rattle.std.specs.Str.{all_ascii_digits}
use Rattle.std.specs.Fmt.{decimal}
use Rattle.std.proofs.Math.Seq.{take-append_seam, take-append-add, drop-append-add, drop-append_seam}
use Rattle.std.proofs.lemmas.List.{length-append}
use Rattle.std.proofs.lemmas.Fmt.{digits_decimal, digits_value-decimal, length-decimal-le, decimal_nonempty}
use Rattle.std.proofs.lemmas.Str.Parse.{IsNumeralModel, FoldsDigits, numerals_by_fold, tells_all_ascii_digits}
use Rattle.message_frames.specs.declared.front.TheConstants.{MOST_BYTES, MOST_HEAD}
use Rattle.message_frames.specs.declared.front.Front.TheVariants.{Message, Part, Bad}
use Rattle.message_frames.specs.Front.{ends_head, head_length, is_blank, are_blank, number_behind, number_of, line, length_from, within, behind_head, front_by, front_of}
use Rattle.message_frames.specs.Framed.{framed, IsFirst}

-- the number that digits are, behind one that was read
value_from : ℕ → List ℕ → ℕ
value_from n [] = n
value_from n (c ∷ cs) = value_from (n * 10 + (c - 48)) cs

folds : FoldsDigits value_from
unfolding value_from
folds = record { empty = λ n. refl; more = λ n c cs d. refl }

numerals : IsNumeralModel (λ ds. all_ascii_digits ds ≡ true) (λ ds. value_from 0 ds)
numerals = numerals_by_fold (λ ds. all_ascii_digits ds ≡ true) tells_all_ascii_digits value_from folds

-- no byte ends a line
abbrev plain : List ℕ → Bool
plain [] = true
plain (b ∷ bs) = not (b == 13) && plain bs

first_digit : (c : ℕ) (cs : List ℕ) → all_ascii_digits (c ∷ cs) ≡ true → (is_ascii_digit c ≡ true) × (all_ascii_digits cs ≡ true)
first_digit c cs is = search (rules, is)

digit_is : (c : ℕ) → is_ascii_digit c ≡ true → (48 ≤ c) × (c ≤ 57)
digit_is c is = search (rules, is)

not_return : (c : ℕ) → 48 ≤ c → (c == 13) ≡ false
not_return c low = search (rules, low)

plain_digits : (ds : List ℕ) → all_ascii_digits ds ≡ true → plain ds ≡ true
plain_digits [] is = refl
plain_digits (c ∷ cs) is =
    let f = first_digit c cs is in
    ap (λ (t : Bool). not t && plain cs) (not_return c (digit_is c f.0).0) ∙ plain_digits cs f.1

-- the two ends of lines behind a head
abbrev end : List ℕ
end = codes "\r\n\r\n"

plain_parts : (b : ℕ) (bs : List ℕ) → plain (b ∷ bs) ≡ true → ((b == 13) ≡ false) × (plain bs ≡ true)
plain_parts b bs is = by (b == 13) refl is
  where
    by : (t : Bool) → (b == 13) ≡ t → (not (b == 13) && plain bs) ≡ true → ((b == 13) ≡ false) × (plain bs ≡ true)
    by true e is = absurd (false_true (sym (ap (λ (t : Bool). not t && plain bs) e) ∙ is))
      where
        false_true : false ≡ true → ⊥
        false_true e = cc
    by false e is = (e, sym (ap (λ (t : Bool). not t && plain bs) e) ∙ is)

-- a head of lines without further ends has four bytes more
heads : (xs ys : List ℕ) → plain xs ≡ true → head_length (xs ++ (end ++ ys)) ≡ Some (length xs + 4)
heads [] ys is = refl
heads (b ∷ bs) ys is =
    let f = plain_parts b bs is in
    let no : ends_head (b ∷ (bs ++ (end ++ ys))) ≡ false = search (rules, f.0) in
    ap (λ (t : Bool). if t then Some 4 else option_map suc (head_length (bs ++ (end ++ ys)))) no
    ∙ ap (λ (o : Option ℕ). option_map suc o) (heads bs ys f.1) ∙ ap Some (next (length bs))
  where
    next : (k : ℕ) → suc (k + 4) ≡ suc k + 4
    next k = omega arith

-- digits stay on their line
line_of_digits : (ds : List ℕ) → all_ascii_digits ds ≡ true → line (ds ++ end) ≡ ds ++ 13 ∷ []
line_of_digits [] is = refl
line_of_digits (c ∷ cs) is =
    let f = first_digit c cs is in
    let no : (c == 10) ≡ false = search (rules, (digit_is c f.0).0) in
    ap (λ (t : Bool). if t then [] else c ∷ line (cs ++ end)) no ∙ ap (λ (l : List ℕ). c ∷ l) (line_of_digits cs f.1)

-- digits are their number
number_of_digits : (n : ℕ) (ds : List ℕ) → all_ascii_digits ds ≡ true → number_behind n (ds ++ 13 ∷ []) ≡ Some (value_from n ds)
unfolding value_from
number_of_digits n [] is = refl
number_of_digits n (c ∷ cs) is =
    let f = first_digit c cs is in
    ap (λ (t : Bool). if t then number_behind (n * 10 + (c - 48)) (cs ++ 13 ∷ []) else if are_blank (c ∷ (cs ++ 13 ∷ [])) then Some n else None) f.0
    ∙ number_of_digits (n * 10 + (c - 48)) cs f.1

number_first : (ds : List ℕ) → all_ascii_digits ds ≡ true → 0 < length ds → number_of (ds ++ 13 ∷ []) ≡ Some (value_from 0 ds)
number_first [] is some = absurd (omega (arith, some))
number_first (c ∷ cs) is some =
    let f = first_digit c cs is in
    let no : is_blank c ≡ false = search (rules, (digit_is c f.0).0) in
    ap (λ (t : Bool). if t then number_of (cs ++ 13 ∷ []) else if is_ascii_digit c then number_behind 0 (c ∷ (cs ++ 13 ∷ [])) else None) no
    ∙ ap (λ (t : Bool). if t then number_behind 0 (c ∷ (cs ++ 13 ∷ [])) else None) f.0
    ∙ number_of_digits 0 (c ∷ cs) is

-- the name of the field
abbrev field : List ℕ
field = codes "Content-Length: "

length_told : (ds : List ℕ) → all_ascii_digits ds ≡ true → 0 < length ds → length_from true (field ++ (ds ++ end)) ≡ Some (value_from 0 ds)
length_told ds is some = ap (λ (l : List ℕ). number_of (32 ∷ l)) (line_of_digits ds is) ∙ number_first ds is some

-- what stands at the front of a framed message
framed_front : (ds body more : List ℕ) (n : ℕ) → all_ascii_digits ds ≡ true → 0 < length ds → length ds ≤ 8 → value_from 0 ds ≡ n → n ≡ length body → n ≤ MOST_BYTES
    → front_of (field ++ (ds ++ (end ++ (body ++ more)))) ≡ Message (16 + length ds + 4) (16 + length ds + 4 + n)
framed_front ds body more n is some short value size most =
    let xs : List ℕ = field ++ ds in
    let rest : List ℕ = body ++ more in
    let bytes : List ℕ = field ++ (ds ++ (end ++ rest)) in
    let head : ℕ = 16 + length ds + 4 in
    let long : length xs ≡ 16 + length ds = length-append field ds in
    let found : head_length bytes ≡ Some head = heads xs rest (plain_digits ds is) ∙ ap (λ (k : ℕ). Some (k + 4)) long in
    let cut : take head bytes ≡ field ++ (ds ++ end) = ap (λ (k : ℕ). take (k + 4) bytes) (sym long) ∙ take-append-add xs (end ++ rest) 4 in
    let told : within (length_from true (take head bytes)) ≡ Some n =
    ap (λ (l : List ℕ). within (length_from true l)) cut ∙ ap within (length_told ds is some ∙ ap Some value)
    ∙ ap (λ (t : Bool). if t then Some n else None) (le-leb n MOST_BYTES most) in
    let one : length bytes ≡ 16 + length (ds ++ (end ++ rest)) = length-append field (ds ++ (end ++ rest)) in
    let two : length (ds ++ (end ++ rest)) ≡ length ds + length (end ++ rest) = length-append ds (end ++ rest) in
    let three : length (end ++ rest) ≡ 4 + length rest = length-append end rest in
    let four : length rest ≡ length body + length more = length-append body more in
    let fits : leb (head + n) (length bytes) ≡ true = le-leb (head + n) (length bytes) (omega (arith, one, two, three, four, size)) in
    let low : ltb MOST_HEAD head ≡ false = search (rules, short) in
    ap (λ (o : Option ℕ). front_by bytes o) found
    ∙ ap (λ (t : Bool). if t then Bad else behind_head bytes head (within (length_from true (take head bytes)))) low
    ∙ ap (λ (o : Option ℕ). behind_head bytes head o) told
    ∙ ap (λ (t : Bool). if t then Message head (head + n) else Part) fits

-- what is behind its head
behind_front : (ds ys : List ℕ) → drop (16 + length ds + 4) (field ++ (ds ++ (end ++ ys))) ≡ ys
behind_front ds ys =
    ap (λ (k : ℕ). drop (k + 4) (field ++ (ds ++ (end ++ ys)))) (sym (length-append field ds)) ∙ drop-append-add (field ++ ds) (end ++ ys) 4

abbrev nothing : List ℕ
nothing = []

drop_none : (m : ℕ) → drop m nothing ≡ nothing
drop_none zero = refl
drop_none (suc m) = refl

drop_more : (k n : ℕ) (l : List ℕ) → drop (k + n) l ≡ drop n (drop k l)
drop_more zero n l = ap (λ (m : ℕ). drop m l) (omega arith)
drop_more (suc k) n [] = drop_none (suc k + n) ∙ sym (drop_none n)
drop_more (suc k) n (b ∷ bs) = ap (λ (m : ℕ). drop m (b ∷ bs)) (next k n) ∙ drop_more k n bs
  where
    next : (k n : ℕ) → suc k + n ≡ suc (k + n)
    next k n = omega arith

pub framed_first : (body more : List ℕ) → length body ≤ MOST_BYTES → IsFirst (framed body ++ more) body more
framed_first body more most =
    let n : ℕ = length body in
    let ds : List ℕ = decimal n in
    let small : n < 2 ^ 64 = omega (arith, most) in
    let is : all_ascii_digits ds ≡ true = digits_decimal numerals n small in
    let value : value_from 0 ds ≡ n = digits_value-decimal numerals n small in
    let short : length ds ≤ 8 = length-decimal-le 8 n (omega arith) (omega (arith, most)) small in
    let head : ℕ = 16 + length ds + 4 in
    let same : framed body ++ more ≡ field ++ (ds ++ (end ++ (body ++ more))) =
    append_assoc ((field ++ ds) ++ end) body more ∙ append_assoc (field ++ ds) end (body ++ more) in
    let front = framed_front ds body more n is (decimal_nonempty n small) short value refl most in
    let dropped : drop head (framed body ++ more) ≡ body ++ more = ap (λ (l : List ℕ). drop head l) same ∙ behind_front ds (body ++ more) in
    let body_is : body ≡ take (head + n - head) (drop head (framed body ++ more)) =
    sym (ap (λ (l : List ℕ). take (head + n - head) l) dropped ∙ ap (λ (k : ℕ). take k (body ++ more)) (omega arith) ∙ take-append_seam body more) in
    let rest_is : more ≡ drop (head + n) (framed body ++ more) =
    sym (drop_more head n (framed body ++ more) ∙ ap (λ (l : List ℕ). drop n l) dropped ∙ drop-append_seam body more) in
    record { from = head; to = head + n; front = ap (λ (l : List ℕ). front_of l) same ∙ front; body_is = body_is; rest_is = rest_is }
