-- What a list of marks declares, one mark more.
use Rattle.std.proofs.Common.{◌≡◌, ℕ, ◌+◌, ◌<◌, List, [], ◌∷◌, ◌++◌, Option, Some, None, length, take, get_or, refl, ap, sym, ◌∙◌}
use Rattle.std.proofs.lemmas.List.{take_more}
use Rattle.std.specs.Option.{option_or}
use Rattle.promela_model.specs.declared.mark.Mark.{Mark}
use Rattle.declared_names.specs.Sites.{sites, labels, owned, declared_by, labelled_by}

or_assoc : (a b c : Option ℕ) → option_or a (option_or b c) ≡ option_or (option_or a b) c
or_assoc None b c = refl
or_assoc (Some x) b c = refl

or_none : (a : Option ℕ) → option_or a None ≡ option_or None a
or_none None = refl
or_none (Some x) = refl

sites_last : (ms : List Mark) (m : Mark) (o : ℕ) (n : List ℕ) → sites (ms ++ m ∷ []) o n ≡ option_or (sites ms o n) (owned m.owner o (declared_by m.what n))
sites_last [] m o n = or_none (owned m.owner o (declared_by m.what n))
sites_last (x ∷ ms) m o n =
    ap (option_or (owned x.owner o (declared_by x.what n))) (sites_last ms m o n)
    ∙ or_assoc (owned x.owner o (declared_by x.what n)) (sites ms o n) (owned m.owner o (declared_by m.what n))

labels_last : (ms : List Mark) (m : Mark) (o : ℕ) (n : List ℕ) → labels (ms ++ m ∷ []) o n ≡ option_or (labels ms o n) (owned m.owner o (labelled_by m.what n))
labels_last [] m o n = or_none (owned m.owner o (labelled_by m.what n))
labels_last (x ∷ ms) m o n =
    ap (option_or (owned x.owner o (labelled_by x.what n))) (labels_last ms m o n)
    ∙ or_assoc (owned x.owner o (labelled_by x.what n)) (labels ms o n) (owned m.owner o (labelled_by m.what n))

-- one mark more
pub sites_more : (ms : List Mark) (i : ℕ) (m : Mark) → i < length ms → m ≡ get_or ms i m → (o : ℕ) (n : List ℕ)
    → sites (take (i + 1) ms) o n ≡ option_or (sites (take i ms) o n) (owned m.owner o (declared_by m.what n))
sites_more ms i m h e o n =
    ap (λ (xs : List Mark). sites xs o n) (take_more ms i m h ∙ ap (λ (x : Mark). take i ms ++ x ∷ []) (sym e)) ∙ sites_last (take i ms) m o n

pub labels_more : (ms : List Mark) (i : ℕ) (m : Mark) → i < length ms → m ≡ get_or ms i m → (o : ℕ) (n : List ℕ)
    → labels (take (i + 1) ms) o n ≡ option_or (labels (take i ms) o n) (owned m.owner o (labelled_by m.what n))
labels_more ms i m h e o n =
    ap (λ (xs : List Mark). labels xs o n) (take_more ms i m h ∙ ap (λ (x : Mark). take i ms ++ x ∷ []) (sym e)) ∙ labels_last (take i ms) m o n
