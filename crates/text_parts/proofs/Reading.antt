-- What is read of calls as they are written.
use Rattle.std.proofs.Common.{◌≡◌, ℕ, suc, ◌+◌, ◌-◌, Bool, true, false, nat_eq, ◌||◌, List, [], ◌∷◌, ◌++◌, length, refl, ap, ◌∙◌, arith, append_assoc}
use Rattle.std.specs.Prelude.{if◌then◌else◌}
use Rattle.std.proofs.lemmas.Bool.Decides.{nat_tests}
use Rattle.pml_token.specs.declared.token.Kind.{Kind}
use Rattle.pml_token.specs.declared.token.Kind.TheVariants as kind
use Rattle.pml_token.specs.Word.{same_kind, Word}
use Rattle.text_parts.specs.declared.calls.PartialCall.{PartialCall}
use Rattle.text_parts.specs.declared.calls.Back.{Back}
use Rattle.text_parts.specs.declared.calls.Back.TheVariants.{Within, Opened, Named, Called, Outside}
use Rattle.text_parts.specs.Calls.{opens, closes, ends, outside, within, run_of, next, read, called}
use Rattle.text_parts.specs.Arguments.{AreClosed, no_token, token, bracket, AreArguments, no_argument, comma, plain, closed, call_of, CallsAreFound}

-- ---- one token

not_zero : (c : ℕ) → nat_eq (suc c) 0 ≡ false
not_zero c = grind (arith, nat_tests)

-- what is read among arguments, by what the token is
within_by : (c n : ℕ) (k : Kind) (x y z : Bool) → closes k ≡ x → nat_eq c 0 ≡ y → opens k ≡ z
    → within c n k ≡ (if x then Within (c + 1) n else if y then outside n k else if z then Within (c - 1) n else Within c n)
within_by c n k x y z p q r =
    ap (λ (b : Bool). if b then Within (c + 1) n else if nat_eq c 0 then outside n k else if opens k then Within (c - 1) n else Within c n) p
    ∙ ap (λ (b : Bool). if x then Within (c + 1) n else if b then outside n k else if opens k then Within (c - 1) n else Within c n) q
    ∙ ap (λ (b : Bool). if x then Within (c + 1) n else if y then outside n k else if b then Within (c - 1) n else Within c n) r

closes_one : (c n : ℕ) (k : Kind) → closes k ≡ true → within c n k ≡ Within (suc c) n
closes_one c n k h =
    let e : c + 1 ≡ suc c = omega arith in
    within_by c n k true (nat_eq c 0) (opens k) h refl refl ∙ ap (λ (m : ℕ). Within m n) e

opens_one : (c n : ℕ) (k : Kind) → closes k ≡ false → opens k ≡ true → within (suc c) n k ≡ Within c n
opens_one c n k h o =
    let e : suc c - 1 ≡ c = omega arith in
    within_by (suc c) n k false false true h (not_zero c) o ∙ ap (λ (m : ℕ). Within m n) e

stays : (c n : ℕ) (k : Kind) → closes k ≡ false → opens k ≡ false → within (suc c) n k ≡ Within (suc c) n
stays c n k h o = within_by (suc c) n k false false false h (not_zero c) o

plain_by : (n : ℕ) (a b d c e : Bool) → (a || b) || d ≡ false → c ≡ false → e ≡ false
    → (if a then Opened n else if b then Within 0 0 else if c then Within 0 (n + 1) else if e then Outside else Within 0 n) ≡ Within 0 n
plain_by n true b d c e h i j = cc
plain_by n false true d c e h i j = cc
plain_by n false false d true e h i j = cc
plain_by n false false d false true h i j = cc
plain_by n false false d false false h i j = refl

plain_one : (n : ℕ) (k : Kind) → closes k ≡ false → opens k ≡ false → same_kind k kind.Comma ≡ false → ends k ≡ false → within 0 n k ≡ Within 0 n
plain_one n k h o c e =
    within_by 0 n k false true false h refl o
    ∙ plain_by n (same_kind k kind.OpenParen) (same_kind k kind.OpenBracket) (same_kind k kind.OpenBrace) (same_kind k kind.Comma) (ends k) o c e

head_by : (at size n : ℕ) (r p i : Bool) → p ≡ false → i ≡ false
    → (if r then Called (run_of (record { at = at; length = size; is_run = false; commas = n }))
    else if p || i then Outside
    else Called (record { at = at; length = size; is_run = false; commas = n })) ≡ Called (record { at = at; length = size; is_run = r; commas = n })
head_by at size n true p i h j = refl
head_by at size n false true i h j = cc
head_by at size n false false true h j = cc
head_by at size n false false false h j = refl

-- ---- tokens

-- closed brackets leave what is read as it is
closed_read : (c n : ℕ) (xs ws : List Word) → AreClosed xs → read ws ≡ Within (suc c) n → read (xs ++ ws) ≡ Within (suc c) n
closed_read c n xs ws no_token h = h
closed_read c n xs ws (token {w = w} {ws = ys} no_closer no_opener rest) h =
    ap (λ (b : Back). next b w) (closed_read c n ys ws rest h) ∙ stays c n w.kind no_closer no_opener
closed_read c n xs ws (bracket {w = w} {xs = ys} {ws = zs} v no_closer opener inner closer rest) h =
    ap (λ (l : List Word). next (read l) w) (append_assoc ys (v ∷ zs) ws)
    ∙ ap (λ (b : Back). next b w)
    (closed_read (suc c) n ys (v ∷ (zs ++ ws)) inner (ap (λ (b : Back). next b v) (closed_read c n zs ws rest h) ∙ closes_one (suc c) n v.kind closer))
    ∙ opens_one (suc c) n w.kind no_closer opener

arguments_read : (n : ℕ) (ws : List Word) → AreArguments n ws → read ws ≡ Within 0 n
arguments_read n ws no_argument = refl
arguments_read n ws (comma {n = m} {w = w} {ws = ys} is rest) = ap (λ (b : Back). next b w) (arguments_read m ys rest) ∙ ap (within 0 m) is
arguments_read n ws (plain {w = w} {ws = ys} no_closer no_opener no_comma no_end rest) =
    ap (λ (b : Back). next b w) (arguments_read n ys rest) ∙ plain_one n w.kind no_closer no_opener no_comma no_end
arguments_read n ws (closed {w = w} {xs = ys} {ws = zs} v no_closer opener inner closer rest) =
    ap (λ (b : Back). next b w)
    (closed_read 0 n ys (v ∷ zs) inner (ap (λ (b : Back). next b v) (arguments_read n zs rest) ∙ closes_one 0 n v.kind closer))
    ∙ opens_one 0 n w.kind no_closer opener

-- a call that is read stays, whatever stands before it
stands : (front ws : List Word) (c : PartialCall) → read ws ≡ Called c → read (front ++ ws) ≡ Called c
stands [] ws c h = h
stands (w ∷ front) ws c h = ap (λ (b : Back). next b w) (stands front ws c h)

name_read : (n : ℕ) (w : Word) → w.kind ≡ kind.Name → next (Opened n) w ≡ Named (record { at = w.line; length = length w.text; is_run = false; commas = n })
name_read n w is =
    ap (λ (k : Kind). if same_kind k kind.Name then Named (record { at = w.line; length = length w.text; is_run = false; commas = n }) else within 0 0 k) is

pub calls_are_found : CallsAreFound
calls_are_found front head name paren args n no_proctype no_inline is_name is_paren those =
    let opened : read (paren ∷ args) ≡ Opened n = ap (λ (b : Back). next b paren) (arguments_read n args those) ∙ ap (within 0 n) is_paren in
    let named : read (name ∷ paren ∷ args) ≡ Named (record { at = name.line; length = length name.text; is_run = false; commas = n }) =
    ap (λ (b : Back). next b name) opened ∙ name_read n name is_name in
    let whole : read (head ∷ name ∷ paren ∷ args) ≡ Called (call_of head name n) =
    ap (λ (b : Back). next b head) named
    ∙ head_by name.line (length name.text) n (same_kind head.kind kind.Run) (same_kind head.kind kind.Proctype) (same_kind head.kind kind.Inline) no_proctype no_inline in
    ap called (stands front (head ∷ name ∷ paren ∷ args) (call_of head name n) whole)
