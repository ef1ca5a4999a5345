-- What a list of marks declares.
use Rattle.std.proofs.Common.{◌≡◌, ℕ, suc, ◌-◌, ◌<◌, ◌≤◌, List, [], ◌∷◌, ◌++◌, length, map, reverse, drop, get_or, refl, ap, sym, ◌∙◌, drop-cons, arith}
use Rattle.std.proofs.lemmas.List.{reverse-append, map-append}
use Rattle.pml_token.specs.Word.{Word}
use Rattle.check_uses.specs.Parts.{constant_mark, of_constants}
use Rattle.promela_model.specs.declared.mark.Mark.{Mark}
use Rattle.promela_model.specs.declared.mark.Declared.TheVariants as declared_as
use Rattle.promela_model.specs.declared.mark.What.TheVariants as what
use Rattle.check_names.specs.Entry.{Entry}
use Rattle.check_names.specs.Env.{env_from, after}

-- one mark more
pub env_from-more : (es : List Entry) (ms : List Mark) (m : Mark) → env_from es (ms ++ m ∷ []) ≡ after (env_from es ms) m.owner m.what
env_from-more es [] m = refl
env_from-more es (n ∷ ms) m = env_from-more (after es n.owner n.what) ms m

-- one name more in front, which is numbered last
constants-more : (es : List Entry) (n : Word) (ns : List Word) → env_from es (of_constants (n ∷ ns)) ≡ after (env_from es (of_constants ns)) 0 (what.Declares n declared_as.Constant)
constants-more es n ns =
    ap (λ (xs : List Word). env_from es (map constant_mark xs)) (reverse-append (n ∷ []) ns)
    ∙ ap (env_from es) (map-append constant_mark (reverse ns) (n ∷ []))
    ∙ env_from-more es (of_constants ns) (constant_mark n)

from_before : (ns : List Word) (i : ℕ) (n : Word) → 0 < i → i ≤ length ns → n ≡ get_or ns (i - 1) n → drop (i - 1) ns ≡ n ∷ drop i ns
from_before ns i n p h e =
    let j : suc (i - 1) ≡ i = omega arith in
    drop-cons ns (i - 1) n (omega arith) ∙ ap (λ (m : Word). m ∷ drop (suc (i - 1)) ns) (sym e) ∙ ap (λ (k : ℕ). n ∷ drop k ns) j

pub constants-from_before : (es : List Entry) (ns : List Word) (i : ℕ) (n : Word) → 0 < i → i ≤ length ns → n ≡ get_or ns (i - 1) n → env_from es (of_constants (drop (i - 1) ns)) ≡ after (env_from es (of_constants (drop i ns))) 0 (what.Declares n declared_as.Constant)
constants-from_before es ns i n p h e =
    ap (λ (xs : List Word). env_from es (of_constants xs)) (from_before ns i n p h e) ∙ constants-more es n (drop i ns)

pub tokens-from_before : (ns : List Word) (i : ℕ) (n : Word) → 0 < i → i ≤ length ns → n ≡ get_or ns (i - 1) n → reverse (drop (i - 1) ns) ≡ reverse (drop i ns) ++ n ∷ []
tokens-from_before ns i n p h e = ap (λ (xs : List Word). reverse xs) (from_before ns i n p h e) ∙ reverse-append (n ∷ []) (drop i ns)
