-- What keeps the form of a channel.
use Rattle.std.proofs.Common.{◌≡◌, ℕ, zero, suc, ◌+◌, ◌-◌, ◌*◌, ◌<◌, ◌≤◌, Bool, true, false, List, [], ◌∷◌, ◌++◌, length, ℤ, pos, get_or, take, drop, refl, sym, ap, ◌∙◌, arith, cond, Some, append_assoc}
use Rattle.std.specs.Prelude.{slice_get, remove, insert}
use Rattle.pml_program.specs.declared.form.Form.{Form}
use Rattle.pml_program.specs.declared.form.Form.TheVariants.{Plain}
use Rattle.pml_tree.specs.declared.tree.Scalar.TheVariants.{Bit}
use Rattle.promela_process.specs.Numbers.{clipped}
use Rattle.promela_process.specs.Store.{cut, is_greater, sorted_in}
use Rattle.pml_channel.specs.Laid.{messages_in, rotated, numbers_in}
use Rattle.std.proofs.lemmas.List.{length_push, at_drop_more, take-append-le, drop-append-le, length-append, length-drop, length-take-le, drop-drop, nil_from_length, take_at, drop_at, take-append-drop, append-nil, same_from_push, take-take, drop-take, take_all, take_more, drop_more, get_or_push, get_or_append_left}
use Rattle.std.proofs.lemmas.Option.{get_or_from_slice_get}
use Rattle.std.specs.List.{position_from}
use borrow.Rule.Slice.PartMut.{put_mid}
use Rattle.std.proofs.Math.Nat.{mul-le-mul_right}

pub length-cut : (ks : List Form) (xs : List ℤ) → length xs ≡ length ks → length (cut ks xs) ≡ length ks
length-cut [] xs h = refl
length-cut (k ∷ ks) [] h = h
length-cut (k ∷ ks) (x ∷ xs) h = let r = length-cut ks xs (omega arith) in omega arith

-- one field more
pub cut-drop : (ks : List Form) (xs : List ℤ) (i : ℕ) → i < length ks → length xs ≡ length ks → cut (drop i ks) (drop i xs) ≡ clipped (get_or ks i (Plain Bit)) (get_or xs i (pos 0)) ∷ cut (drop (i + 1) ks) (drop (i + 1) xs)
cut-drop ks xs i h e =
    at_drop_more (λ k. cut k (drop i xs)) ks i (Plain Bit) h
    ∙ at_drop_more (λ x. cut (get_or ks i (Plain Bit) ∷ drop (i + 1) ks) x) xs i (pos 0) (omega arith)

-- ---- messages one behind another

pub length-messages : (n k : ℕ) (xs : List ℤ) → length (messages_in n k xs) ≡ n
length-messages zero k xs = refl
length-messages (suc n) k xs = ap suc (length-messages n k (drop k xs))

pub message-get : (i n k : ℕ) (xs : List ℤ) → i < n → slice_get (messages_in n k xs) i ≡ Some (take k (drop (i * k) xs))
message-get i zero k xs h = absurd (omega arith)
message-get zero (suc n) k xs h = let e : 0 * k ≡ 0 = omega arith in rw e refl
message-get (suc i) (suc n) k xs h =
    let e : suc i * k ≡ k + i * k = omega arith in
    rw e (message-get i n k (drop k xs) (omega arith) ∙ ap (λ (l : List ℤ). Some (take k l)) (drop-drop (i * k) k xs))

-- of numbers that begin with i messages, these are the first
pub messages-append : (i n k : ℕ) (a b : List ℤ) → length a ≡ i * k → messages_in (i + n) k (a ++ b) ≡ messages_in i k a ++ messages_in n k b
messages-append zero n k a b h =
    let e : a ≡ [] = nil_from_length a (omega (arith, h)) in
    let s : zero + n ≡ n = omega arith in
    rw (s, e) refl
messages-append (suc i) n k a b h =
    let s : suc i + n ≡ suc (i + n) = omega arith in
    let le : k ≤ length a = omega (arith, h) in
    let rest = messages-append i n k (drop k a) b (omega (arith, h, length-drop k a)) in
    rw (s, take-append-le k a b le, drop-append-le k a b le, rest) refl

-- a message of them, from where the first begins
pub message-at : (start place n k : ℕ) (xs : List ℤ) → place < n → slice_get (messages_in n k (drop start xs)) place ≡ Some (take k (drop (start + place * k) xs))
message-at start place n k xs h = message-get place n k (drop start xs) h ∙ ap (λ (l : List ℤ). Some (take k l)) (drop-drop (place * k) start xs)

pub ends-within : (start place n k : ℕ) → place < n → start + place * k + k ≤ start + n * k
ends-within start place n k h =
    let e : (place + 1) * k ≤ n * k = mul-le-mul_right k (omega arith) in
    omega (arith, e)

pub length-message : (from k : ℕ) (xs : List ℤ) → from + k ≤ length xs → length (take k (drop from xs)) ≡ k
length-message from k xs h = let l = length-drop from xs in length-take-le k (drop from xs) (omega (arith, l))

pub message-length : (start place n k : ℕ) (xs : List ℤ) → place < n → length xs ≡ start + n * k → length (take k (drop (start + place * k) xs)) ≡ k
message-length start place n k xs h e =
    let w = ends-within start place n k h in length-message (start + place * k) k xs (omega (arith, w, e))

-- so many messages have so many numbers
pub numbers-are : (n k : ℕ) (xs : List ℤ) → n * k ≤ length xs → numbers_in (messages_in n k xs) ≡ n * k
numbers-are zero k xs h = omega arith
numbers-are (suc n) k xs h =
    let l = length-take-le k xs (omega (arith, h)) in
    let r = numbers-are n k (drop k xs) (omega (arith, h, length-drop k xs)) in
    omega (arith, l, r)

-- ---- parts

-- after `s[from..end].rotate_right(by)`
pub rotated-is : (from end by : ℕ) (xs ys : List ℤ) → from + by ≤ end → end ≤ length xs
    → ys ≡ drop (length (take (end - from) (drop from xs)) - by) (take (end - from) (drop from xs)) ++ take (length (take (end - from) (drop from xs)) - by) (take (end - from) (drop from xs))
    → put_mid from (end - from) xs ys ≡ rotated from end by xs
rotated-is from end by xs ys h l e =
    let w = end - from in
    let long : length (take w (drop from xs)) ≡ w = let d = length-drop from xs in length-take-le w (drop from xs) (omega (arith, d, h, l)) in
    let sum : w ≡ (w - by) + by = omega (arith, h) in
    let le : w - by ≤ w = omega arith in
    let back : from + (w - by) ≡ end - by = omega (arith, h) in
    let rest : w - by ≡ end - by - from = omega (arith, h) in
    let last : from + w ≡ end = omega (arith, h) in
    let one : drop (w - by) (take w (drop from xs)) ≡ take by (drop (end - by) xs) =
    ap (λ (n : ℕ). drop (w - by) (take n (drop from xs))) sum
    ∙ drop-take (w - by) by (drop from xs)
    ∙ ap (take by) (drop-drop (w - by) from xs)
    ∙ ap (λ (n : ℕ). take by (drop n xs)) back in
    let two : take (w - by) (take w (drop from xs)) ≡ take (end - by - from) (drop from xs) =
    take-take (w - by) w (drop from xs) le ∙ ap (λ (n : ℕ). take n (drop from xs)) rest in
    let three : drop w (drop from xs) ≡ drop end xs = drop-drop w from xs ∙ ap (λ (n : ℕ). drop n xs) last in
    let part : ys ≡ take by (drop (end - by) xs) ++ take (end - by - from) (drop from xs) =
    e
    ∙ ap (λ (n : ℕ). drop (n - by) (take w (drop from xs)) ++ take (n - by) (take w (drop from xs))) long
    ∙ ap (λ (l : List ℤ). l ++ take (w - by) (take w (drop from xs))) one
    ∙ ap (λ (l : List ℤ). take by (drop (end - by) xs) ++ l) two in
    ap (λ (l : List ℤ). take from xs ++ (l ++ drop w (drop from xs))) part
    ∙ ap (λ (l : List ℤ). take from xs ++ ((take by (drop (end - by) xs) ++ take (end - by - from) (drop from xs)) ++ l)) three
    ∙ ap (λ (l : List ℤ). take from xs ++ l) (append_assoc (take by (drop (end - by) xs)) (take (end - by - from) (drop from xs)) (drop end xs))

pub parts : (p q k : ℕ) (xs : List ℤ) → xs ≡ take p xs ++ (take q (drop p xs) ++ (take k (drop q (drop p xs)) ++ drop k (drop q (drop p xs))))
parts p q k xs = rw (take-append-drop k (drop q (drop p xs)), take-append-drop q (drop p xs), take-append-drop p xs) refl

pub rotated-parts : (a b m d : List ℤ) (from end by : ℕ) → length a ≡ from → length m ≡ by → end ≡ from + length b + by → rotated from end by (a ++ (b ++ (m ++ d))) ≡ a ++ (m ++ (b ++ d))
rotated-parts a b m d from end by h l e =
    let n : end - by - from ≡ length b = omega (arith, e) in
    let ab : length (a ++ b) ≡ end - by = omega (arith, e, h, length-append a b) in
    let abm : length ((a ++ b) ++ m) ≡ end = omega (arith, e, h, l, length-append a b, length-append (a ++ b) m) in
    let one : take from (a ++ (b ++ (m ++ d))) ≡ a = take_at a (b ++ (m ++ d)) from h in
    let two : take by (drop (end - by) (a ++ (b ++ (m ++ d)))) ≡ m =
    ap (λ (l : List ℤ). take by (drop (end - by) l)) (sym (append_assoc a b (m ++ d)))
    ∙ ap (take by) (drop_at (a ++ b) (m ++ d) (end - by) ab)
    ∙ take_at m d by l in
    let three : take (end - by - from) (drop from (a ++ (b ++ (m ++ d)))) ≡ b =
    ap (take (end - by - from)) (drop_at a (b ++ (m ++ d)) from h) ∙ take_at b (m ++ d) (end - by - from) (sym n) in
    let four : drop end (a ++ (b ++ (m ++ d))) ≡ d =
    ap (drop end) (sym (append_assoc a b (m ++ d)) ∙ sym (append_assoc (a ++ b) m d)) ∙ drop_at ((a ++ b) ++ m) d end abm in
    rw (one, two, three, four) refl

pub remove_at : (xs ys : List (List ℤ)) (x : List ℤ) (i : ℕ) → length xs ≡ i → remove (xs ++ x ∷ ys) i ≡ xs ++ ys
remove_at xs ys x i h =
    let e : length (xs ++ x ∷ []) ≡ suc i = omega (arith, h, length_push xs x) in
    let t = take_at xs (x ∷ ys) i h in
    let d : drop (suc i) (xs ++ x ∷ ys) ≡ ys = ap (drop (suc i)) (sym (append_assoc xs (x ∷ []) ys)) ∙ drop_at (xs ++ x ∷ []) ys (suc i) e in
    rw (t, d) refl

pub insert_at : (xs ys : List (List ℤ)) (x : List ℤ) (i : ℕ) → length xs ≡ i → insert (xs ++ ys) i x ≡ xs ++ x ∷ ys
insert_at xs ys x i h = rw (take_at xs ys i h, drop_at xs ys i h) refl

-- of messages, one among others
messages-parts : (i r k : ℕ) (b m d : List ℤ) → length b ≡ i * k → length m ≡ k → messages_in (i + suc r) k (b ++ (m ++ d)) ≡ messages_in i k b ++ m ∷ messages_in r k d
messages-parts i r k b m d h l =
    messages-append i (suc r) k b (m ++ d) h
    ∙ ap (λ (x : List ℤ). messages_in i k b ++ x ∷ messages_in r k (drop k (m ++ d))) (take_at m d k l)
    ∙ ap (λ (x : List ℤ). messages_in i k b ++ m ∷ messages_in r k x) (drop_at m d k l)

one-gone : (i r k start : ℕ) (a b m d : List ℤ) → length a ≡ start → length b ≡ i * k → length m ≡ k
    → messages_in (i + r) k (drop (start + k) (a ++ (m ++ (b ++ d)))) ≡ remove (messages_in (i + suc r) k (drop start (a ++ (b ++ (m ++ d))))) i
one-gone i r k start a b m d ha hb hm =
    let am : length (a ++ m) ≡ start + k = omega (arith, ha, hm, length-append a m) in
    ap (messages_in (i + r) k) (ap (drop (start + k)) (sym (append_assoc a m (b ++ d))) ∙ drop_at (a ++ m) (b ++ d) (start + k) am)
    ∙ messages-append i r k b d hb
    ∙ sym (remove_at (messages_in i k b) (messages_in r k d) m i (length-messages i k b))
    ∙ ap (λ (l : List (List ℤ)). remove l i) (sym (messages-parts i r k b m d hb hm))
    ∙ ap (λ (l : List ℤ). remove (messages_in (i + suc r) k l) i) (sym (drop_at a (b ++ (m ++ d)) start ha))

last-moved : (at r k start : ℕ) (a b m : List ℤ) (others : List (List ℤ)) (last : List ℤ) → start ≤ length a → length (drop start a) ≡ at * k → length b ≡ r * k → length m ≡ k
    → messages_in (at + suc r) k (drop start (a ++ (b ++ (m ++ [])))) ≡ others ++ last ∷ []
    → messages_in (at + suc r) k (drop start (a ++ (m ++ (b ++ [])))) ≡ insert others at last
last-moved at r k start a b m others last s ha hb hm h =
    let f = drop start a in
    let one : suc r ≡ r + suc 0 = omega arith in
    let before : messages_in (at + suc r) k (drop start (a ++ (b ++ (m ++ [])))) ≡ (messages_in at k f ++ messages_in r k b) ++ m ∷ [] =
    ap (messages_in (at + suc r) k) (drop-append-le start a (b ++ (m ++ [])) s)
    ∙ messages-append at (suc r) k f (b ++ (m ++ [])) ha
    ∙ ap (λ (n : ℕ). messages_in at k f ++ messages_in n k (b ++ (m ++ []))) one
    ∙ ap (λ (l : List (List ℤ)). messages_in at k f ++ l) (messages-parts r 0 k b m [] hb hm)
    ∙ sym (append_assoc (messages_in at k f) (messages_in r k b) (m ∷ [])) in
    let same = same_from_push (messages_in at k f ++ messages_in r k b) others m last (sym before ∙ h) in
    ap (messages_in (at + suc r) k) (drop-append-le start a (m ++ (b ++ [])) s)
    ∙ messages-parts at r k f m (b ++ []) ha hm
    ∙ ap (λ (l : List ℤ). messages_in at k f ++ m ∷ messages_in r k l) (append-nil b)
    ∙ sym (insert_at (messages_in at k f) (messages_in r k b) m at (length-messages at k f))
    ∙ ap (λ (l : List (List ℤ)). insert l at m) same.0
    ∙ ap (insert others at) same.1

-- ---- the whole vector

-- the oldest messages are moved behind the one that goes
pub gone : (start place n k : ℕ) (xs : List ℤ) → place < n → length xs ≡ start + n * k
    → messages_in (n - 1) k (drop (start + k) (rotated start (start + place * k + k) k xs)) ≡ remove (messages_in n k (drop start xs)) place
gone start place n k xs h e =
    let r = n - 1 - place in
    let w = ends-within start place n k h in
    let a = take start xs in
    let b = take (place * k) (drop start xs) in
    let m = take k (drop (place * k) (drop start xs)) in
    let d = drop k (drop (place * k) (drop start xs)) in
    let split = parts start (place * k) k xs in
    let d1 = length-drop start xs in
    let d2 = length-drop (place * k) (drop start xs) in
    let ha : length a ≡ start = length-take-le start xs (omega (arith, w, e)) in
    let hb : length b ≡ place * k = length-take-le (place * k) (drop start xs) (omega (arith, w, e, d1)) in
    let hm : length m ≡ k = length-take-le k (drop (place * k) (drop start xs)) (omega (arith, w, e, d1, d2)) in
    let less : n - 1 ≡ place + r = omega (arith, h) in
    let more : place + suc r ≡ n = omega (arith, h) in
    let end : start + place * k + k ≡ start + length b + k = omega (arith, hb) in
    ap (λ (i : ℕ). messages_in i k (drop (start + k) (rotated start (start + place * k + k) k xs))) less
    ∙ ap (λ (l : List ℤ). messages_in (place + r) k (drop (start + k) (rotated start (start + place * k + k) k l))) split
    ∙ ap (λ (l : List ℤ). messages_in (place + r) k (drop (start + k) l)) (rotated-parts a b m d start (start + place * k + k) k ha hm end)
    ∙ one-gone place r k start a b m d ha hb hm
    ∙ ap (λ (l : List ℤ). remove (messages_in (place + suc r) k (drop start l)) place) (sym split)
    ∙ ap (λ (i : ℕ). remove (messages_in i k (drop start xs)) place) more

pub length-rotated : (from end by : ℕ) (xs : List ℤ) → from + by ≤ end → end ≤ length xs → length (rotated from end by xs) ≡ length xs
length-rotated from end by xs h l =
    let one : length (take from xs) ≡ from = length-take-le from xs (omega (arith, h, l)) in
    let da = length-drop (end - by) xs in
    let two : length (take by (drop (end - by) xs)) ≡ by = length-take-le by (drop (end - by) xs) (omega (arith, h, l, da)) in
    let db = length-drop from xs in
    let three : length (take (end - by - from) (drop from xs)) ≡ end - by - from = length-take-le (end - by - from) (drop from xs) (omega (arith, h, l, db)) in
    let four = length-drop end xs in
    let s = length-append (take (end - by - from) (drop from xs)) (drop end xs) in
    let t = length-append (take by (drop (end - by) xs)) (take (end - by - from) (drop from xs) ++ drop end xs) in
    let u = length-append (take from xs) (take by (drop (end - by) xs) ++ (take (end - by - from) (drop from xs) ++ drop end xs)) in
    omega (arith, one, two, three, four, s, t, u, h, l)

-- the last message is moved before those from a place on
pub moved : (start place n k : ℕ) (xs : List ℤ) (others : List (List ℤ)) (last : List ℤ) → place < n → length xs ≡ start + n * k
    → messages_in n k (drop start xs) ≡ others ++ last ∷ []
    → messages_in n k (drop start (rotated (start + place * k) (length xs) k xs)) ≡ insert others place last
moved start place n k xs others last h e same =
    let r = n - 1 - place in
    let from = start + place * k in
    let n-is : n ≡ place + suc r = omega (arith, h) in
    let long : length xs ≡ from + (r * k + k) = let z : n * k ≡ (place + suc r) * k = ap (λ (i : ℕ). i * k) n-is in omega (arith, e, z) in
    let a = take from xs in
    let b = take (r * k) (drop from xs) in
    let m = take k (drop (r * k) (drop from xs)) in
    let d1 = length-drop from xs in
    let d2 = length-drop (r * k) (drop from xs) in
    let d3 = length-drop k (drop (r * k) (drop from xs)) in
    let none : drop k (drop (r * k) (drop from xs)) ≡ [] = nil_from_length (drop k (drop (r * k) (drop from xs))) (omega (arith, long, d1, d2, d3)) in
    let split : xs ≡ a ++ (b ++ (m ++ [])) = parts from (r * k) k xs ∙ ap (λ (l : List ℤ). a ++ (b ++ (m ++ l))) none in
    let ha : length a ≡ from = length-take-le from xs (omega (arith, long)) in
    let hb : length b ≡ r * k = length-take-le (r * k) (drop from xs) (omega (arith, long, d1)) in
    let hm : length m ≡ k = length-take-le k (drop (r * k) (drop from xs)) (omega (arith, long, d1, d2)) in
    let hs : start ≤ length a = omega (arith, ha) in
    let hf : length (drop start a) ≡ place * k = let d4 = length-drop start a in omega (arith, ha, d4) in
    let end : length xs ≡ from + length b + k = omega (arith, long, hb) in
    let was : messages_in (place + suc r) k (drop start (a ++ (b ++ (m ++ [])))) ≡ others ++ last ∷ [] =
    ap (λ (l : List ℤ). messages_in (place + suc r) k (drop start l)) (sym split) ∙ ap (λ (i : ℕ). messages_in i k (drop start xs)) (sym n-is) ∙ same in
    ap (λ (i : ℕ). messages_in i k (drop start (rotated from (length xs) k xs))) n-is
    ∙ ap (λ (l : List ℤ). messages_in (place + suc r) k (drop start (rotated from (length xs) k l))) split
    ∙ ap (λ (l : List ℤ). messages_in (place + suc r) k (drop start l)) (rotated-parts a b m [] from (length xs) k ha hm end)
    ∙ last-moved place r k start a b m others last hs hf hb hm was

-- one message more behind the others
pub sent : (start n k : ℕ) (xs m : List ℤ) → length xs ≡ start + n * k → length m ≡ k → messages_in (n + 1) k (drop start (xs ++ m)) ≡ messages_in n k (drop start xs) ++ m ∷ []
sent start n k xs m e hm =
    let d = length-drop start xs in
    let hl : length (drop start xs) ≡ n * k = omega (arith, d, e) in
    let le : start ≤ length xs = omega (arith, e) in
    let nil : drop start (xs ++ m) ≡ drop start xs ++ (m ++ []) = drop-append-le start xs m le ∙ ap (λ (l : List ℤ). drop start xs ++ l) (sym (append-nil m)) in
    ap (messages_in (n + 1) k) nil ∙ messages-parts n 0 k (drop start xs) m [] hl hm

-- what is gone is taken back: the others stand at the front
pub reclaimed : (start n k : ℕ) (xs : List ℤ) → length xs ≡ start + n * k → take (length xs - start) (rotated 0 (length xs) (length xs - start) xs) ≡ drop start xs
reclaimed start n k xs e =
    let held = length xs - start in
    let back : length xs - held ≡ start = omega (arith, e) in
    let d = length-drop start xs in
    let hl : length (drop start xs) ≡ held = omega (arith, d) in
    let first : take held (drop (length xs - held) xs) ≡ drop start xs = ap (λ (i : ℕ). take held (drop i xs)) back ∙ take_all held (drop start xs) (omega (arith, hl)) in
    ap (λ (l : List ℤ). take held (l ++ (take (length xs - held - 0) xs ++ drop (length xs) xs))) first
    ∙ take_at (drop start xs) (take (length xs - held - 0) xs ++ drop (length xs) xs) held hl

-- ---- in order

-- a message that is not greater is passed over
pub sorted-next : (others : List (List ℤ)) (last : List ℤ) (i : ℕ) → i < length others → is_greater (get_or others i []) last ≡ false
    → take (i + 1) others ++ sorted_in last (drop (i + 1) others) ≡ take i others ++ sorted_in last (drop i others)
sorted-next others last i h e =
    let x = get_or others i [] in
    let next : sorted_in last (drop i others) ≡ x ∷ sorted_in last (drop (i + 1) others) =
    at_drop_more (sorted_in last) others i [] h ∙ ap (λ (b : Bool). cond b (last ∷ x ∷ drop (i + 1) others) (x ∷ sorted_in last (drop (i + 1) others))) e in
    ap (λ (l : List (List ℤ)). l ++ sorted_in last (drop (i + 1) others)) (take_more others i [] h)
    ∙ append_assoc (take i others) (x ∷ []) (sorted_in last (drop (i + 1) others))
    ∙ ap (λ (l : List (List ℤ)). take i others ++ l) (sym next)

-- one that is greater comes right behind
pub sorted-here : (others : List (List ℤ)) (last : List ℤ) (i : ℕ) → i < length others → is_greater (get_or others i []) last ≡ true
    → insert others i last ≡ take i others ++ sorted_in last (drop i others)
sorted-here others last i h e =
    let x = get_or others i [] in
    let next : sorted_in last (drop i others) ≡ last ∷ x ∷ drop (i + 1) others =
    at_drop_more (sorted_in last) others i [] h ∙ ap (λ (b : Bool). cond b (last ∷ x ∷ drop (i + 1) others) (x ∷ sorted_in last (drop (i + 1) others))) e in
    ap (λ (l : List (List ℤ)). take i others ++ last ∷ l) (drop_more others i [] h) ∙ ap (λ (l : List (List ℤ)). take i others ++ l) (sym next)

-- ---- the first that matches

pub found-here : (test : List ℤ → Bool) (ms : List (List ℤ)) (i : ℕ) (m : List ℤ) → i < length ms → slice_get ms i ≡ Some m → test m ≡ true → position_from test i (drop i ms) ≡ Some i
found-here test ms i m h e t =
    at_drop_more (position_from test i) ms i [] h
    ∙ ap (λ (x : List ℤ). position_from test i (x ∷ drop (i + 1) ms)) (get_or_from_slice_get ms i m [] e)
    ∙ ap (λ (b : Bool). cond b (Some i) (position_from test (i + 1) (drop (i + 1) ms))) t

pub not-here : (test : List ℤ → Bool) (ms : List (List ℤ)) (i : ℕ) (m : List ℤ) → i < length ms → slice_get ms i ≡ Some m → test m ≡ false → position_from test (i + 1) (drop (i + 1) ms) ≡ position_from test i (drop i ms)
not-here test ms i m h e t =
    sym (
    at_drop_more (position_from test i) ms i [] h
    ∙ ap (λ (x : List ℤ). position_from test i (x ∷ drop (i + 1) ms)) (get_or_from_slice_get ms i m [] e)
    ∙ ap (λ (b : Bool). cond b (Some i) (position_from test (i + 1) (drop (i + 1) ms))) t
    )

-- ---- the last among the others

length-others : (ms others : List (List ℤ)) (last : List ℤ) → ms ≡ others ++ last ∷ [] → length ms ≡ length others + 1
length-others ms others last h = ap length h ∙ length_push others last

last-is : (ms others : List (List ℤ)) (last m : List ℤ) (i : ℕ) → ms ≡ others ++ last ∷ [] → i ≡ length ms - 1 → slice_get ms i ≡ Some m → m ≡ last
last-is ms others last m i h n e =
    let l = length-others ms others last h in
    let at : length others ≡ i = omega (arith, l, n) in
    sym (get_or_from_slice_get ms i m [] e) ∙ ap (λ (xs : List (List ℤ)). get_or xs i []) h ∙ get_or_push others last [] i at

other-is : (ms others : List (List ℤ)) (last m : List ℤ) (i : ℕ) → ms ≡ others ++ last ∷ [] → i < length others → slice_get ms i ≡ Some m → m ≡ get_or others i []
other-is ms others last m i h l e =
    sym (get_or_from_slice_get ms i m [] e) ∙ ap (λ (xs : List (List ℤ)). get_or xs i []) h ∙ get_or_append_left others (last ∷ []) [] i l

pub placed-here : (ms others : List (List ℤ)) (last m l : List ℤ) (i n : ℕ) → ms ≡ others ++ last ∷ [] → n ≡ length ms - 1 → i < n → slice_get ms i ≡ Some m → slice_get ms n ≡ Some l → is_greater m l ≡ true
    → take i others ++ sorted_in last (drop i others) ≡ sorted_in last others → (i ≤ length others) × (insert others i last ≡ sorted_in last others)
placed-here ms others last m l i n h e b s t g before =
    let long = length-others ms others last h in
    let lt : i < length others = omega (arith, long, e, b) in
    let greater : is_greater (get_or others i []) last ≡ true =
    ap (λ (x : List ℤ). is_greater x last) (sym (other-is ms others last m i h lt s)) ∙ ap (is_greater m) (sym (last-is ms others last l n h e t)) ∙ g in
    (omega (arith, lt), sorted-here others last i lt greater ∙ before)

pub not-placed-here : (ms others : List (List ℤ)) (last m l : List ℤ) (i n : ℕ) → ms ≡ others ++ last ∷ [] → n ≡ length ms - 1 → i < n → slice_get ms i ≡ Some m → slice_get ms n ≡ Some l → is_greater m l ≡ false
    → take i others ++ sorted_in last (drop i others) ≡ sorted_in last others → take (i + 1) others ++ sorted_in last (drop (i + 1) others) ≡ sorted_in last others
not-placed-here ms others last m l i n h e b s t g before =
    let long = length-others ms others last h in
    let lt : i < length others = omega (arith, long, e, b) in
    let greater : is_greater (get_or others i []) last ≡ false =
    ap (λ (x : List ℤ). is_greater x last) (sym (other-is ms others last m i h lt s)) ∙ ap (is_greater m) (sym (last-is ms others last l n h e t)) ∙ g in
    sorted-next others last i lt greater ∙ before

-- ---- as the code has it: k fields for t types

pub ends-in : (start place n k t len : ℕ) → k ≡ t → len ≡ start + n * t → place < n → start + place * k + k ≤ len
ends-in start place n k t len kt cover lt = rw (kt, cover) (ends-within start place n t lt)

begins-at : (start place k t ends : ℕ) → k ≡ t → ends ≡ start + place * k + k → ends - k ≡ start + place * t
begins-at start place k t ends kt e = let b : ends - k ≡ start + place * k = omega (arith, e) in b ∙ ap (λ (i : ℕ). start + place * i) kt

pub moved-in : (start place n k t ends len : ℕ) (xs ys : List ℤ) (others : List (List ℤ)) (last : List ℤ) → k ≡ t → length xs ≡ start + n * t → place < n → ends ≡ start + place * k + k → len ≡ length xs
    → ys ≡ rotated (ends - k) len k xs → messages_in n t (drop start xs) ≡ others ++ last ∷ [] → messages_in n t (drop start ys) ≡ insert others place last
moved-in start place n k t ends len xs ys others last kt cover lt e l made same =
    ap (λ (zs : List ℤ). messages_in n t (drop start zs)) (
    made
    ∙ ap (λ (i : ℕ). rotated i len k xs) (begins-at start place k t ends kt e)
    ∙ ap (λ (i : ℕ). rotated (start + place * t) i k xs) l
    ∙ ap (λ (i : ℕ). rotated (start + place * t) (length xs) i xs) kt
    )
    ∙ moved start place n t xs others last lt cover same

pub gone-in : (start place n k t ends : ℕ) (xs ys : List ℤ) → k ≡ t → length xs ≡ start + n * t → place < n → ends ≡ start + place * k + k
    → ys ≡ rotated start ends k xs → messages_in (n - 1) t (drop (start + k) ys) ≡ remove (messages_in n t (drop start xs)) place
gone-in start place n k t ends xs ys kt cover lt e made =
    let at : ends ≡ start + place * t + t = e ∙ ap (λ (i : ℕ). start + place * i + i) kt in
    ap (λ (zs : List ℤ). messages_in (n - 1) t (drop (start + k) zs)) (made ∙ ap (λ (i : ℕ). rotated start i k xs) at ∙ ap (λ (i : ℕ). rotated start (start + place * t + t) i xs) kt)
    ∙ ap (λ (i : ℕ). messages_in (n - 1) t (drop (start + i) (rotated start (start + place * t + t) t xs))) kt
    ∙ gone start place n t xs lt cover

pub less-laid : (start place n k t : ℕ) (xs ys : List ℤ) → k ≡ t → length xs ≡ start + n * t → place < n → length ys ≡ length xs → length ys ≡ (start + k) + (n - 1) * t
less-laid start place n k t xs ys kt cover lt same =
    let some : n ≡ (n - 1) + 1 = omega (arith, lt) in
    let e : n * t ≡ ((n - 1) + 1) * t = ap (λ (i : ℕ). i * t) some in
    omega (arith, same, cover, e, kt)

pub sent-laid : (start n : ℕ) (ts : List Form) (xs fs : List ℤ) → length xs ≡ start + n * length ts → length fs ≡ length ts → length (xs ++ cut ts fs) ≡ start + (n + 1) * length ts
sent-laid start n ts xs fs cover e =
    let a = length-append xs (cut ts fs) in
    let l = length-cut ts fs e in
    omega (arith, a, l, cover)
