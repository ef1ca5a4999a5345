-- Lists of objects, and what is printed behind a value.
use Rattle.std.proofs.Common.{◌≡◌, ◌∙◌, ap, sym, refl, subst, ℕ, Bool, true, false, if◌then◌else◌, List, [], ◌∷◌, ◌++◌, append-nil, codes}
use Rattle.std.proofs.lemmas.Bool.{true≢false}
use Rattle.std.specs.Prelude.{not, fold}
use Rattle.json.specs.Token.{Token, begin_object, end_object, begin_array, end_array, key}
use Rattle.json.specs.Print.{print, print_from, ends, ends_value, ArePrintable}
use Rattle.json.proofs.Printed.Tokens.{print_from-append, ends_push}
use Rattle.view_text.specs.Written.{Written, Adds}
use Rattle.view_text.proofs.Writing.{chained, none}
use Rattle.view_json.proofs.Printable.{none_printable, both_printable, array_printable}
use Rattle.view_json.specs.Objects.{member, object, array}
use Rattle.view_json.specs.declared.list.Listing.{Listing}
use Rattle.view_json.specs.Shown.{Lists, listed, ListsMore}

-- ---- the print of tokens

-- whether the last of these tokens, or what stands before them, ends a value
abbrev pub ends_from : Bool → List Token → Bool
ends_from c ts = fold (λ _ u. ends u) c ts

pub nothing : (c : Bool) → print_from c [] ≡ []
unfolding print_from
nothing c = refl

pub ends_behind : (c : Bool) (ts : List Token) (t : Token) (us : List Token) → ends_from c (ts ++ t ∷ us) ≡ ends_from (ends t) us
ends_behind c [] t us = refl
ends_behind c (x ∷ xs) t us = ends_behind (ends x) xs t us

pub object_ends : (c : Bool) (ts : List Token) → ends_from c (object ts) ≡ true
object_ends c ts = ends_push false ts end_object

pub array_ends : (c : Bool) (name : List ℕ) (ts : List Token) → ends_from c (member name (array ts)) ≡ true
array_ends c name ts = ends_push false ts end_array

-- what stands behind a value
pub on_value : (c : Bool) (ts us : List Token) → ends_from c ts ≡ true → print_from c (ts ++ us) ≡ print_from c ts ++ print_from true us
on_value c ts us is = print_from-append c ts us ∙ ap (λ (b : Bool). print_from c ts ++ print_from b us) is

-- an object behind a value has a comma before it
pub comma : (ts : List Token) → print_from true (begin_object ∷ ts) ≡ codes "," ++ print (begin_object ∷ ts)
unfolding print_from
comma ts = refl

closed : (c : Bool) → print_from c (end_array ∷ []) ≡ codes "]"
unfolding print_from
closed true = refl
closed false = refl

-- an array as a member
pub array_text : (name : List ℕ) (ts : List Token) → print_from true (member name (array ts)) ≡ print_from true (key name ∷ begin_array ∷ []) ++ (print ts ++ codes "]")
array_text name ts =
    print_from-append true (key name ∷ begin_array ∷ []) (ts ++ end_array ∷ [])
    ∙ ap (λ (l : List ℕ). print_from true (key name ∷ begin_array ∷ []) ++ l)
    (print_from-append false ts (end_array ∷ []) ∙ ap (λ (l : List ℕ). print ts ++ l) (closed (ends_value ts)))

-- ---- lists

pub lists_none : (l : Listing) → l.text ≡ record { text = []; refused = false } → l.is_empty ≡ true → Lists l []
lists_none l is none_yet = record {
  text = λ calm. ap (λ (w : Written). w.text) is ∙ sym (nothing false);
  some = sym (ap not none_yet);
  none = λ so. refl;
  printable = λ calm. none_printable;
}

-- one object more
pub lists_more : (l m n : Listing) (ts xs : List Token) → Lists l ts → Adds l.text m.text (if l.is_empty then [] else codes ",")
    → Adds m.text n.text (print (begin_object ∷ xs)) → n.is_empty ≡ false → ends_value (begin_object ∷ xs) ≡ true
    → (n.text.refused ≡ false → ArePrintable (begin_object ∷ xs)) → Lists n (ts ++ begin_object ∷ xs)
lists_more l m n ts xs so_far between object is_some is_ended can_read = record {
  text = λ calm. both.added calm ∙ by l.is_empty refl (calm_before calm);
  some = ends_behind false ts begin_object xs ∙ is_ended ∙ sym (ap not is_some);
  none = λ so. absurd (true≢false (sym so ∙ is_some));
  printable = λ calm. both_printable ts (begin_object ∷ xs) (so_far.printable (calm_before calm)) (can_read calm);
}
  where
    both : Adds l.text n.text ((if l.is_empty then [] else codes ",") ++ print (begin_object ∷ xs))
    both = chained _ _ _ _ _ between object

    calm_before : n.text.refused ≡ false → l.text.refused ≡ false
    calm_before calm = at l.text.refused refl
      where
        at : (r : Bool) → l.text.refused ≡ r → l.text.refused ≡ false
        at true so = absurd (true≢false (sym (both.stays so) ∙ calm))
        at false so = so

    by : (b : Bool) → l.is_empty ≡ b → l.text.refused ≡ false
        → l.text.text ++ ((if l.is_empty then [] else codes ",") ++ print (begin_object ∷ xs)) ≡ print (ts ++ begin_object ∷ xs)
    by true so calm =
        ap (λ (b : Bool). l.text.text ++ ((if b then [] else codes ",") ++ print (begin_object ∷ xs))) so
        ∙ ap (λ (t : List ℕ). t ++ print (begin_object ∷ xs)) (so_far.text calm ∙ ap print (so_far.none so) ∙ nothing false)
        ∙ ap (λ (u : List Token). print (u ++ begin_object ∷ xs)) (sym (so_far.none so))
    by false so calm =
        ap (λ (b : Bool). l.text.text ++ ((if b then [] else codes ",") ++ print (begin_object ∷ xs))) so
        ∙ ap (λ (t : List ℕ). t ++ (codes "," ++ print (begin_object ∷ xs))) (so_far.text calm)
        ∙ ap (λ (t : List ℕ). print ts ++ t) (sym (comma xs))
        ∙ sym (on_value false ts (begin_object ∷ xs) (so_far.some ∙ ap not so))

-- the same object is nothing more
pub lists_same : (l : Listing) (ts : List Token) → Lists l ts → Lists l (ts ++ [])
lists_same l ts so_far = subst (λ (u : List Token). Lists l u) (sym (append-nil ts)) so_far

-- the member where there is an object
pub listed_some : (l : Listing) (name : List ℕ) (ts : List Token) (always : Bool) → Lists l ts → l.is_empty ≡ false → listed always name ts ≡ member name (array ts)
listed_some l name [] always so_far some = absurd (true≢false (sym (ap not some) ∙ sym so_far.some))
listed_some l name (t ∷ ts) always so_far some = refl

-- where it always stands
pub listed_always : (name : List ℕ) (ts : List Token) (always : Bool) → always ≡ true → listed always name ts ≡ member name (array ts)
listed_always name [] always is = ap (λ (b : Bool). if b then member name (array []) else []) is
listed_always name (t ∷ ts) always is = refl

-- where it is left out
pub listed_nowhere : (l : Listing) (name : List ℕ) (ts : List Token) (always : Bool) → Lists l ts → l.is_empty ≡ true → always ≡ false
    → print_from true (listed always name ts) ≡ []
listed_nowhere l name ts always so_far empty never =
    ap (λ (u : List Token). print_from true (listed always name u)) (so_far.none empty)
    ∙ ap (λ (b : Bool). print_from true (if b then member name (array []) else [])) never
    ∙ nothing true

-- the member is written
pub array_added : (l : Listing) (name : List ℕ) (ts : List Token) (heading : List ℕ) (a b c d : Written) (always : Bool)
    → heading ≡ print_from true (key name ∷ begin_array ∷ []) → Lists l ts
    → Adds a b heading → Adds b c l.text.text → (l.text.refused ≡ true → c.refused ≡ true) → Adds c d (codes "]")
    → listed always name ts ≡ member name (array ts) → Adds a d (print_from true (listed always name ts))
array_added l name ts heading a b c d always is so_far one two refused three there = record {
  stays = λ r. three.stays (two.stays (one.stays r));
  added = λ calm.
      let before : c.refused ≡ false = at c.refused refl calm in
      (chained _ _ _ _ _ one (chained _ _ _ _ _ two three)).added calm
      ∙ ap (λ (h : List ℕ). a.text ++ (h ++ (l.text.text ++ codes "]"))) is
      ∙ ap (λ (t : List ℕ). a.text ++ (print_from true (key name ∷ begin_array ∷ []) ++ (t ++ codes "]"))) (so_far.text (calm_list before))
      ∙ ap (λ (t : List ℕ). a.text ++ t) (sym (array_text name ts) ∙ ap (print_from true) (sym there));
}
  where
    at : (r : Bool) → c.refused ≡ r → d.refused ≡ false → c.refused ≡ false
    at true so calm = absurd (true≢false (sym (three.stays so) ∙ calm))
    at false so calm = so

    calm_list : c.refused ≡ false → l.text.refused ≡ false
    calm_list calm = by l.text.refused refl
      where
        by : (r : Bool) → l.text.refused ≡ r → l.text.refused ≡ false
        by true so = absurd (true≢false (sym (refused so) ∙ calm))
        by false so = so

-- one object more, unless it is the same
pub more_unless : (l n : Listing) (same : Bool) (ts : List Token) → same ≡ true → n ≡ l → ListsMore (if same then [] else ts) l n
more_unless l n same ts is unchanged us so_far =
    subst (λ (b : Bool). Lists n (us ++ (if b then [] else ts))) (sym is) (lists_same n us (subst (λ (m : Listing). Lists m us) (sym unchanged) so_far))

pub more_if : (l m n : Listing) (same : Bool) (ts : List Token) → same ≡ false → Adds l.text m.text (if l.is_empty then [] else codes ",")
    → Adds m.text n.text (print (begin_object ∷ ts)) → n.is_empty ≡ false → ends_value (begin_object ∷ ts) ≡ true
    → (n.text.refused ≡ false → ArePrintable (begin_object ∷ ts)) → ListsMore (if same then [] else (begin_object ∷ ts)) l n
more_if l m n same ts is between object some ends can_read us so_far =
    subst (λ (b : Bool). Lists n (us ++ (if b then [] else (begin_object ∷ ts)))) (sym is) (lists_more l m n us ts so_far between object some ends can_read)

-- a list that is written can be read back
pub listed_printable : (always : Bool) (name : List ℕ) (ts : List Token) → ArePrintable ts → ArePrintable (listed always name ts)
listed_printable true name [] all = array_printable name [] all
listed_printable false name [] all = none_printable
listed_printable always name (t ∷ ts) all = array_printable name (t ∷ ts) all

-- where it is written whole
pub end_printable : (l : Listing) (always : Bool) (name : List ℕ) (ts : List Token) (out : Written) → Lists l ts
    → (l.text.refused ≡ true → out.refused ≡ true) → out.refused ≡ false → ArePrintable (listed always name ts)
end_printable l always name ts out so_far refused calm = listed_printable always name ts (so_far.printable (at l.text.refused refl))
  where
    at : (r : Bool) → l.text.refused ≡ r → l.text.refused ≡ false
    at true so = absurd (true≢false (sym (refused so) ∙ calm))
    at false so = so

pub nowhere_printable : (l : Listing) (always : Bool) (name : List ℕ) (ts : List Token) → Lists l ts → l.is_empty ≡ true
    → ArePrintable (listed always name ts)
nowhere_printable l always name ts so_far empty =
    listed_printable always name ts (subst ArePrintable (sym (so_far.none empty)) none_printable)
