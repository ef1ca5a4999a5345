-- The tables of the code say what stands round a mark.
use Rattle.std.proofs.Common.{◌≡◌, ℕ, ◌+◌, ◌<◌, Bool, true, false, ◌||◌, List, [], ◌∷◌, ◌++◌, length, take, get_or, refl, ap, sym, ◌∙◌}
use Rattle.std.proofs.lemmas.List.{take_more}
use Rattle.promela_model.specs.declared.mark.Mark.{Mark}
use Rattle.check_names.specs.declared.places.Places.{Places}
use Rattle.check_names.specs.Entry.{Entry, found}
use Rattle.check_names.specs.Env.{env, told}
use Rattle.promela_model.specs.Names.{Naming, Before, before}
use Rattle.check_names.proofs.Firsts.{told-before}
use Rattle.promela_model.specs.Conditions.{Around, Labels}
use Rattle.promela_model.specs.Decided.{has_label, is_label}
use Rattle.check_conditions.specs.Labels.{labels_of, told_around, around}

-- ---- labels

or-swap : (a b c : Bool) → (a || (b || c)) ≡ (b || (a || c))
or-swap true true c = refl
or-swap true false c = refl
or-swap false b c = refl

label-last : (ms : List Mark) (m : Mark) (o : ℕ) (n : List ℕ) → has_label (ms ++ m ∷ []) o n ≡ (is_label o n m.owner m.what || has_label ms o n)
label-last [] m o n = refl
label-last (x ∷ ms) m o n = ap (λ (b : Bool). is_label o n x.owner x.what || b) (label-last ms m o n) ∙ or-swap (is_label o n x.owner x.what) (is_label o n m.owner m.what) (has_label ms o n)

-- one mark more
pub label-more : (ms : List Mark) (i : ℕ) (m : Mark) → i < length ms → m ≡ get_or ms i m → (o : ℕ) (n : List ℕ) → has_label (take (i + 1) ms) o n ≡ (is_label o n m.owner m.what || has_label (take i ms) o n)
label-more ms i m h e o n =
    ap (λ (xs : List Mark). has_label xs o n) (take_more ms i m h ∙ ap (λ (x : Mark). take i ms ++ x ∷ []) (sym e)) ∙ label-last (take i ms) m o n

-- ---- all of it

abbrev with_parts : Naming → Labels → Before → Labels → Around
with_parts all every b labels = record { all = all; every_label = every; before = b; labels = labels }

pointwise : {A B : Type 0} (f g : A → B) → ((x : A) → f x ≡ g x) → f ≡ g
pointwise f g h = λ i x. h x i

same_labels : (f g : Labels) → ((o : ℕ) (n : List ℕ) → f o n ≡ g o n) → f ≡ g
same_labels f g h = pointwise f g (λ o. pointwise (f o) (g o) (h o))

pub around-is : (ms first : List Mark) (all names : List Entry) (every labels : Places ℕ) → all ≡ env ms → names ≡ env first
    → ((o : ℕ) (n : List ℕ) → labels_of every o n ≡ has_label ms o n) → ((o : ℕ) (n : List ℕ) → labels_of labels o n ≡ has_label first o n)
    → told_around all every names labels ≡ around ms first
around-is ms first all names every labels a b e l =
    ap (λ x. with_parts x (labels_of every) (told names) (labels_of labels)) (ap found a ∙ ap (λ (k : Before). k.names) (told-before ms))
    ∙ ap (λ x. with_parts (before ms).names x (told names) (labels_of labels)) (same_labels (labels_of every) (has_label ms) e)
    ∙ ap (λ x. with_parts (before ms).names (has_label ms) x (labels_of labels)) (ap told b ∙ told-before first)
    ∙ ap (λ x. with_parts (before ms).names (has_label ms) (before first) x) (same_labels (labels_of labels) (has_label first) l)
