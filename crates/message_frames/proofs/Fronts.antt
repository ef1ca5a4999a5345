-- What stands at the front of bytes stays as more come.
use Rattle.std.proofs.Common.{◌≡◌, ◌<◌, ◌≤◌, ◌+◌, ◌-◌, ℕ, suc, length, List, [], ◌∷◌, ◌++◌, take, drop, Bool, true, false, Option, Some, None, leb, ltb, ap, refl, sym, arith, leb-true, leb-false, ltb-true, le-leb, lt-ltb, ◌≢◌, Result, Ok, Err, ◌∙◌, codes, rules}
use Rattle.std.specs.Prelude.{if◌then◌else◌, option_map, IfOk, OnOk}
use Rattle.std.specs.Str.{bytes_eq}
use Rattle.std.specs.Io.KnownBytes.{prepend_known, Keeps, Consumes, IsAtEnd}
use Rattle.std.proofs.lemmas.List.{take-append-le, length-append, append-nil, take_all, drop-append-le, length-drop}
use Rattle.message_frames.specs.declared.front.TheConstants.{MOST_HEAD}
use Rattle.message_frames.specs.declared.front.Front.{Front}
use Rattle.message_frames.specs.declared.front.Front.TheVariants.{Message, Part, Bad}
use Rattle.message_frames.specs.declared.frames.NoMessage.TheVariants as why
use Rattle.message_frames.specs.Framed.{TakesFirst, HasNone}
use Rattle.message_frames.specs.Front.{ends_head, head_length, length_from, within, behind, behind_head, front_by, front_of}

none_some : (n : ℕ) → None ≡ Some n → ⊥
none_some n e = cc

same_number : (m n : ℕ) → Some m ≡ Some n → m ≡ n
same_number m n e = cc

true_false : true ≡ false → ⊥
true_false e = cc

-- what a head's length is, by whether it ends here
ended : (b : ℕ) (bs : List ℕ) (t : Bool) → ends_head (b ∷ bs) ≡ t → head_length (b ∷ bs) ≡ (if t then Some 4 else option_map suc (head_length bs))
ended b bs t is = ap (λ (t' : Bool). if t' then Some 4 else option_map suc (head_length bs)) is

-- the end of a head has four bytes
four : (bs : List ℕ) → ends_head bs ≡ true → 4 ≤ length bs
four [] is = absurd (true_false (sym is))
four (a ∷ []) is = search (rules, is)
four (a ∷ b ∷ []) is = search (rules, is)
four (a ∷ b ∷ c ∷ []) is = search (rules, is)
four (a ∷ b ∷ c ∷ d ∷ bs) is = omega arith

-- more bytes change nothing behind four
same_end : (bs ys : List ℕ) → 4 ≤ length bs → ends_head (bs ++ ys) ≡ ends_head bs
same_end bs ys long = ap (λ (l : List ℕ). bytes_eq l (codes "\r\n\r\n")) (take-append-le 4 bs ys long)

-- the length of a head, by where it ends
by_rest : (o : Option ℕ) (n : ℕ) → option_map suc o ≡ Some n → (k : ℕ) × (o ≡ Some k) × (n ≡ suc k)
by_rest None n e = absurd (none_some n e)
by_rest (Some k) n e = (k, refl, sym (same_number (suc k) n e))

-- a head lies within the bytes
found_within : (xs : List ℕ) (n : ℕ) → head_length xs ≡ Some n → (4 ≤ n) × (n ≤ length xs)
found_within [] n is = absurd (none_some n is)
found_within (b ∷ bs) n is = by (ends_head (b ∷ bs)) refl (found_within bs)
  where
    by : (t : Bool) → ends_head (b ∷ bs) ≡ t → ((m : ℕ) → head_length bs ≡ Some m → (4 ≤ m) × (m ≤ length bs)) → (4 ≤ n) × (n ≤ length (b ∷ bs))
    by true e more = let k : 4 ≡ n = same_number 4 n (sym (ended b bs true e) ∙ is) in let f = four (b ∷ bs) e in (omega (arith, k), omega (arith, k, f))
    by false e more =
        let r = by_rest (head_length bs) n (sym (ended b bs false e) ∙ is) in
        let m = more r.0 r.1 in
        (omega (arith, m.0, r.2), omega (arith, m.1, r.2))

-- a head that is found is found where more bytes come
found_stays : (xs ys : List ℕ) (n : ℕ) → head_length xs ≡ Some n → head_length (xs ++ ys) ≡ Some n
found_stays [] ys n is = absurd (none_some n is)
found_stays (b ∷ bs) ys n is = by (ends_head (b ∷ bs)) refl (found_stays bs ys) (found_within bs)
  where
    by : (t : Bool) → ends_head (b ∷ bs) ≡ t → ((m : ℕ) → head_length bs ≡ Some m → head_length (bs ++ ys) ≡ Some m)
        → ((m : ℕ) → head_length bs ≡ Some m → (4 ≤ m) × (m ≤ length bs)) → head_length (b ∷ (bs ++ ys)) ≡ Some n
    by true e more low =
        ended b (bs ++ ys) true (same_end (b ∷ bs) ys (four (b ∷ bs) e) ∙ e) ∙ sym (ended b bs true e) ∙ is
    by false e more low =
        let r = by_rest (head_length bs) n (sym (ended b bs false e) ∙ is) in
        let m = low r.0 r.1 in
        let same : ends_head (b ∷ (bs ++ ys)) ≡ false = same_end (b ∷ bs) ys (omega (arith, m)) ∙ e in
        ended b (bs ++ ys) false same ∙ ap (λ (o : Option ℕ). option_map suc o) (more r.0 r.1) ∙ ap Some (sym r.2)

-- a head that was not found ends behind the bytes
found_later : (xs ys : List ℕ) (n : ℕ) → head_length xs ≡ None → head_length (xs ++ ys) ≡ Some n → length xs < n
found_later [] ys n none is = omega (arith, (found_within ys n is).0)
found_later (b ∷ bs) ys n none is = by (ends_head (b ∷ bs)) refl (ends_head (b ∷ (bs ++ ys))) refl (leb 4 (length (b ∷ bs))) refl (found_later bs ys)
  where
    unfound : (o : Option ℕ) → option_map suc o ≡ None → o ≡ None
    unfound None e = refl
    unfound (Some k) e = absurd (none_some (suc k) (sym e))

    by : (t : Bool) → ends_head (b ∷ bs) ≡ t → (u : Bool) → ends_head (b ∷ (bs ++ ys)) ≡ u → (v : Bool) → leb 4 (length (b ∷ bs)) ≡ v
        → ((m : ℕ) → head_length bs ≡ None → head_length (bs ++ ys) ≡ Some m → length bs < m) → length (b ∷ bs) < n
    by true e u f v g more = absurd (none_some 4 (sym none ∙ ended b bs true e))
    by false e true f true g more = absurd (true_false (sym f ∙ same_end (b ∷ bs) ys (leb-true 4 (length (b ∷ bs)) g) ∙ e))
    by false e true f false g more =
        let k : 4 ≡ n = same_number 4 n (sym (ended b (bs ++ ys) true f) ∙ is) in
        let short : length (b ∷ bs) < 4 = leb-false 4 (length (b ∷ bs)) g in
        omega (arith, k, short)
    by false e false f v g more =
        let r = by_rest (head_length (bs ++ ys)) n (sym (ended b (bs ++ ys) false f) ∙ is) in
        let m = more r.0 (unfound (head_length bs) (sym (ended b bs false e) ∙ none)) r.1 in
        omega (arith, m, r.2)

-- what is not a part stays what it is as more bytes come
abbrev IsStill : Front → Front → Type 0
IsStill f g = f ≢ Part → g ≡ f

behind_stays : (xs ys : List ℕ) (head n : ℕ) → IsStill (behind xs head n) (behind (xs ++ ys) head n)
behind_stays xs ys head n = by (leb (head + n) (length xs)) refl
  where
    shape : (bs : List ℕ) (t : Bool) → leb (head + n) (length bs) ≡ t → behind bs head n ≡ (if t then Message head (head + n) else Part)
    shape bs t is = ap (λ (t' : Bool). if t' then Message head (head + n) else Part) is

    by : (t : Bool) → leb (head + n) (length xs) ≡ t → IsStill (behind xs head n) (behind (xs ++ ys) head n)
    by true is = λ no. shape (xs ++ ys) true (le-leb (head + n) (length (xs ++ ys)) (omega (arith, leb-true (head + n) (length xs) is, length-append xs ys)))
        ∙ sym (shape xs true is)
    by false is = λ no. absurd (no (shape xs false is))

head_stays : (xs ys : List ℕ) (head : ℕ) (o : Option ℕ) → IsStill (behind_head xs head o) (behind_head (xs ++ ys) head o)
head_stays xs ys head None = λ no. refl
head_stays xs ys head (Some n) = behind_stays xs ys head n

-- a head of so many bytes within the bytes
known_stays : (xs ys : List ℕ) (head : ℕ) → head ≤ length xs → IsStill (front_by xs (Some head)) (front_by (xs ++ ys) (Some head))
known_stays xs ys head low = by (ltb MOST_HEAD head) refl
  where
    told : List ℕ → Front
    told bs = behind_head bs head (within (length_from true (take head bs)))

    shape : (bs : List ℕ) (t : Bool) → ltb MOST_HEAD head ≡ t → front_by bs (Some head) ≡ (if t then Bad else told bs)
    shape bs t is = ap (λ (t' : Bool). if t' then Bad else told bs) is

    same : told (xs ++ ys) ≡ behind_head (xs ++ ys) head (within (length_from true (take head xs)))
    same = ap (λ (l : List ℕ). behind_head (xs ++ ys) head (within (length_from true l))) (take-append-le head xs ys low)

    by : (t : Bool) → ltb MOST_HEAD head ≡ t → IsStill (front_by xs (Some head)) (front_by (xs ++ ys) (Some head))
    by true is = λ no. shape (xs ++ ys) true is ∙ sym (shape xs true is)
    by false is = λ no. shape (xs ++ ys) false is ∙ same
        ∙ head_stays xs ys head (within (length_from true (take head xs))) (λ part. no (shape xs false is ∙ part)) ∙ sym (shape xs false is)

-- no head, and more bytes than it may have
unknown_stays : (xs ys : List ℕ) → head_length xs ≡ None → (o : Option ℕ) → head_length (xs ++ ys) ≡ o → IsStill (front_by xs None) (front_by (xs ++ ys) o)
unknown_stays xs ys none o is = by (ltb MOST_HEAD (length xs)) refl
  where
    bad : (o : Option ℕ) → head_length (xs ++ ys) ≡ o → MOST_HEAD < length xs → front_by (xs ++ ys) o ≡ Bad
    bad (Some n) is many =
        ap (λ (t : Bool). if t then Bad else behind_head (xs ++ ys) n (within (length_from true (take n (xs ++ ys)))))
        (lt-ltb MOST_HEAD n (omega (arith, many, found_later xs ys n none is)))
    bad None is many =
        ap (λ (t : Bool). if t then Bad else Part) (lt-ltb MOST_HEAD (length (xs ++ ys)) (omega (arith, many, length-append xs ys)))

    by : (t : Bool) → ltb MOST_HEAD (length xs) ≡ t → IsStill (front_by xs None) (front_by (xs ++ ys) o)
    by true e = λ no. bad o is (ltb-true MOST_HEAD (length xs) e) ∙ sym (ap (λ (t : Bool). if t then Bad else Part) e)
    by false e = λ no. absurd (no (ap (λ (t : Bool). if t then Bad else Part) e))

front_stays : (xs ys : List ℕ) → IsStill (front_of xs) (front_of (xs ++ ys))
front_stays xs ys = by (head_length xs) refl
  where
    by : (o : Option ℕ) → head_length xs ≡ o → IsStill (front_of xs) (front_of (xs ++ ys))
    by (Some n) is =
        let here : front_of xs ≡ front_by xs (Some n) = ap (λ (o : Option ℕ). front_by xs o) is in
        let there : front_of (xs ++ ys) ≡ front_by (xs ++ ys) (Some n) = ap (λ (o : Option ℕ). front_by (xs ++ ys) o) (found_stays xs ys n is) in
        λ no. there ∙ known_stays xs ys n (found_within xs n is).1 (λ part. no (here ∙ part)) ∙ sym here
    by None is =
        let here : front_of xs ≡ front_by xs None = ap (λ (o : Option ℕ). front_by xs o) is in
        λ no. unknown_stays xs ys is (head_length (xs ++ ys)) refl (λ part. no (here ∙ part)) ∙ sym here

message_part : (f t : ℕ) → Message f t ≡ Part → ⊥
message_part f t e = cc

message_bad : (f t : ℕ) → Message f t ≡ Bad → ⊥
message_bad f t e = cc

bad_part : Bad ≡ Part → ⊥
bad_part e = cc

-- a message lies within the bytes
message_within : (xs : List ℕ) (f t : ℕ) → front_of xs ≡ Message f t → (f ≤ t) × (t ≤ length xs)
message_within xs f t is = by (head_length xs) is
  where
    by_length : (head n : ℕ) (v : Bool) → leb (head + n) (length xs) ≡ v → (if v then Message head (head + n) else Part) ≡ Message f t → (f ≤ t) × (t ≤ length xs)
    by_length head n true low e =
        let first : head ≡ f = cc in
        let last : head + n ≡ t = cc in
        (omega (arith, first, last), omega (arith, last, leb-true (head + n) (length xs) low))
    by_length head n false low e = absurd (message_part f t (sym e))

    by_head : (head : ℕ) (o : Option ℕ) → behind_head xs head o ≡ Message f t → (f ≤ t) × (t ≤ length xs)
    by_head head None e = absurd (message_bad f t (sym e))
    by_head head (Some n) e = by_length head n (leb (head + n) (length xs)) refl e

    by_most : (head : ℕ) (v : Bool) → (if v then Bad else behind_head xs head (within (length_from true (take head xs)))) ≡ Message f t → (f ≤ t) × (t ≤ length xs)
    by_most head true e = absurd (message_bad f t (sym e))
    by_most head false e = by_head head (within (length_from true (take head xs))) e

    by_none : (v : Bool) → (if v then Bad else Part) ≡ Message f t → (f ≤ t) × (t ≤ length xs)
    by_none true e = absurd (message_bad f t (sym e))
    by_none false e = absurd (message_part f t (sym e))

    by : (o : Option ℕ) → front_by xs o ≡ Message f t → (f ≤ t) × (t ≤ length xs)
    by (Some head) e = by_most head (ltb MOST_HEAD head) e
    by None e = by_none (ltb MOST_HEAD (length xs)) e

-- the first message is taken of what is held, and so of all that is known
pub message_taken : (w : Option (List ℕ)) (held : List ℕ) (r : Option (List ℕ)) (f t : ℕ) (m rest : List ℕ) → Keeps w (prepend_known held r)
    → front_of held ≡ Message f t → m ≡ take (t - f) (drop f held) → rest ≡ take (length held - t) (drop t held) → TakesFirst w (prepend_known rest r) m
message_taken None held r f t m rest kept is body left = tt
message_taken (Some b) held None f t m rest kept is body left = absurd kept
message_taken (Some b) held (Some xs) f t m rest kept is body left =
    let low = message_within held f t is in
    let still : front_of (held ++ xs) ≡ Message f t = front_stays held xs (λ part. message_part f t (sym is ∙ part)) ∙ is in
    let long : length (drop f held) ≡ length held - f = length-drop f held in
    let here : take (t - f) (drop f (held ++ xs)) ≡ take (t - f) (drop f held) =
    ap (λ (l : List ℕ). take (t - f) l) (drop-append-le f held xs (omega (arith, low)))
    ∙ take-append-le (t - f) (drop f held) xs (omega (arith, low, long)) in
    let all : take (length held - t) (drop t held) ≡ drop t held = take_all (length held - t) (drop t held) (omega (arith, length-drop t held)) in
    let front_is : front_of b ≡ Message f t = ap (λ (l : List ℕ). front_of l) (sym kept) ∙ still in
    let body_is : m ≡ take (t - f) (drop f b) = body ∙ sym here ∙ ap (λ (l : List ℕ). take (t - f) (drop f l)) kept in
    let rest_is : rest ++ xs ≡ drop t b =
    ap (λ (l : List ℕ). l ++ xs) (left ∙ all) ∙ sym (drop-append-le t held xs low.1) ∙ ap (λ (l : List ℕ). drop t l) kept in
    record { from = f; to = t; front = front_is; body_is = body_is; rest_is = rest_is }

-- so it is whatever holds the message, if there is one
pub message_answer : {T E : Type 0} (items : T → List ℕ) (answer : Result T E) (w : Option (List ℕ)) (held : List ℕ) (r : Option (List ℕ)) (f t : ℕ) (rest : List ℕ)
    → Keeps w (prepend_known held r) → front_of held ≡ Message f t → IfOk answer (λ m. items m ≡ take (t - f) (drop f held))
    → OnOk answer (rest ≡ take (length held - t) (drop t held)) → IfOk answer (λ m. TakesFirst w (prepend_known rest r) (items m))
message_answer items (Ok m) w held r f t rest kept is body left = message_taken w held r f t (items m) rest kept is body left
message_answer items (Err e) w held r f t rest kept is body left = tt

-- a head that is none is told
pub bad_is_why : (w : Option (List ℕ)) (held : List ℕ) (r : Option (List ℕ)) → Keeps w (prepend_known held r) → front_of held ≡ Bad → HasNone w why.Head
bad_is_why None held r kept is = tt
bad_is_why (Some b) held None kept is = absurd kept
bad_is_why (Some b) held (Some xs) kept is =
    ap (λ (l : List ℕ). front_of l) (sym kept) ∙ front_stays held xs (λ part. bad_part (sym is ∙ part)) ∙ is

-- a reader that gives no more leaves a part
pub end_is_why : (w : Option (List ℕ)) (held : List ℕ) (r : Option (List ℕ)) → Keeps w (prepend_known held r) → front_of held ≡ Part → IsAtEnd r
    → HasNone w why.Ended
end_is_why None held r kept is end = tt
end_is_why (Some b) held None kept is end = absurd kept
end_is_why (Some b) held (Some xs) kept is end =
    ap (λ (l : List ℕ). front_of l) (sym kept ∙ ap (λ (l : List ℕ). held ++ l) end ∙ append-nil held) ∙ is

-- keeping twice is keeping
pub kept_on : (w u v : Option (List ℕ)) → Keeps w u → Keeps u v → Keeps w v
kept_on None u v one two = tt
kept_on (Some b) None v one two = absurd one
kept_on (Some b) (Some c) None one two = absurd two
kept_on (Some b) (Some c) (Some d) one two = two ∙ one

-- a reader that gave nothing at its end had nothing left
pub at_end : (r s : Option (List ℕ)) (bs : List ℕ) → Consumes r s (take 0 bs) → IsAtEnd s → IsAtEnd r
at_end None s bs gone end = tt
at_end (Some xs) None bs gone end = absurd gone
at_end (Some xs) (Some ys) bs gone end = gone ∙ end
