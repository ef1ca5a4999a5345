-- What stands in place of the tokens of a body is what is derived.
use Rattle.std.proofs.Common.{◌≡◌, ℕ, suc, Bool, true, false, List, [], ◌∷◌, ◌++◌, Option, Some, None, refl, sym, ap, ◌∙◌, subst}
use Rattle.std.specs.Prelude.{if◌then◌else◌, slice_get, option_map, unwrap_or}
use Rattle.std.specs.List.{flat_map}
use Rattle.std.specs.Str.{bytes_eq}
use Rattle.std.proofs.lemmas.Slice.Eq.{bytes_eq-Decides}
use Rattle.pml_token.specs.Word.{Word}
use Rattle.promela_text.specs.Inlines.{is_name, Inline, place_of, parameter, instead, replaced}
use Rattle.inline_laws.specs.Given.{StandsBehind, at_once, behind_one, NamesNone, Left, no_more, kept, given, missing}
use Rattle.inline_laws.proofs.Calling.{some_is, none_is_not, not_both, other_name}

less : (o : Option ℕ) (k : ℕ) → option_map suc o ≡ Some k → (j : ℕ) × (o ≡ Some j) × (suc j ≡ k)
less None k h = absurd (none_is_not k h)
less (Some j) k h = (j, refl, some_is (suc j) k h)

place_is : (n : List ℕ) (ms : List (List ℕ)) (k : ℕ) → place_of n ms ≡ Some k → StandsBehind n ms k
place_is n [] k h = absurd (none_is_not k h)
place_is n (m ∷ ms) k h = by (bytes_eq n m) refl (λ j e. place_is n ms j e)
  where
    by : (t : Bool) → bytes_eq n m ≡ t → ((j : ℕ) → place_of n ms ≡ Some j → StandsBehind n ms j) → StandsBehind n (m ∷ ms) k
    by true is rest =
        let found : Some 0 ≡ Some k = sym (ap (λ (t : Bool). if t then Some 0 else option_map suc (place_of n ms)) is) ∙ h in
        subst (StandsBehind n (m ∷ ms)) (some_is 0 k found) (at_once ((bytes_eq-Decides n m).0 is))
    by false is rest =
        let on : option_map suc (place_of n ms) ≡ Some k = sym (ap (λ (t : Bool). if t then Some 0 else option_map suc (place_of n ms)) is) ∙ h in
        let j = less (place_of n ms) k on in
        subst (StandsBehind n (m ∷ ms)) j.2 (behind_one (λ same. not_both (bytes_eq n m) ((bytes_eq-Decides n m).1 same) is) (rest j.0 j.1))

is_place : (n : List ℕ) (ms : List (List ℕ)) (k : ℕ) → StandsBehind n ms k → place_of n ms ≡ Some k
is_place n ms k (at_once {m = m} {ms = ns} same) = ap (λ (t : Bool). if t then Some 0 else option_map suc (place_of n ns)) ((bytes_eq-Decides n m).1 same)
is_place n ms k (behind_one {m = m} {ms = ns} {k = j} apart rest) =
    ap (λ (t : Bool). if t then Some 0 else option_map suc (place_of n ns)) (other_name n m apart) ∙ ap (option_map suc) (is_place n ns j rest)

-- a token that names a parameter, and one that names none
named : (ps : List (List ℕ)) (w : Word) (k : ℕ) → parameter ps w ≡ Some k → (is_name w ≡ true) × StandsBehind w.text ps k
named ps w k h = by (is_name w) refl
  where
    by : (t : Bool) → is_name w ≡ t → (is_name w ≡ true) × StandsBehind w.text ps k
    by true is = (is, place_is w.text ps k (sym (ap (λ (t : Bool). if t then place_of w.text ps else None) is) ∙ h))
    by false is = absurd (none_is_not k (sym (ap (λ (t : Bool). if t then place_of w.text ps else None) is) ∙ h))

is_named : (ps : List (List ℕ)) (w : Word) (k : ℕ) → is_name w ≡ true → StandsBehind w.text ps k → parameter ps w ≡ Some k
is_named ps w k is there = ap (λ (t : Bool). if t then place_of w.text ps else None) is ∙ is_place w.text ps k there

names_none : (ps : List (List ℕ)) (w : Word) → parameter ps w ≡ None → NamesNone ps w
names_none ps w none is k there = none_is_not k (sym none ∙ is_named ps w k is there)

is_none : (ps : List (List ℕ)) (w : Word) → NamesNone ps w → parameter ps w ≡ None
is_none ps w apart = by (parameter ps w) refl
  where
    by : (o : Option ℕ) → parameter ps w ≡ o → parameter ps w ≡ None
    by None is = is
    by (Some k) is = let both = named ps w k is in absurd (apart both.0 k both.1)

-- what is made of tokens
abbrev made : List (List ℕ) → List (List Word) → List Word → List Word
made ps args ws = flat_map (λ w. instead args w (parameter ps w)) ws

made_is : (ps : List (List ℕ)) (args : List (List Word)) (ws : List Word) → Left ps args ws (made ps args ws)
made_is ps args [] = no_more
made_is ps args (w ∷ ws) = by (parameter ps w) refl (made_is ps args ws)
  where
    with : (k : ℕ) → parameter ps w ≡ Some k → (o : Option (List Word)) → slice_get args k ≡ o → Left ps args ws (made ps args ws)
        → Left ps args (w ∷ ws) (unwrap_or o [] ++ made ps args ws)
    with k is None at rest = let both = named ps w k is in missing both.0 both.1 at rest
    with k is (Some ts) at rest = let both = named ps w k is in given both.0 both.1 at rest

    by : (o : Option ℕ) → parameter ps w ≡ o → Left ps args ws (made ps args ws) → Left ps args (w ∷ ws) (instead args w o ++ made ps args ws)
    by None is rest = kept (names_none ps w is) rest
    by (Some k) is rest = with k is (slice_get args k) refl rest

is_made : (ps : List (List ℕ)) (args : List (List Word)) (ws us : List Word) → Left ps args ws us → made ps args ws ≡ us
is_made ps args ws us no_more = refl
is_made ps args ws us (kept {w = w} {ws = vs} {us = xs} apart rest) =
    ap (λ (o : Option ℕ). instead args w o ++ made ps args vs) (is_none ps w apart) ∙ ap (λ (l : List Word). w ∷ l) (is_made ps args vs xs rest)
is_made ps args ws us (given {w = w} {ws = vs} {us = xs} {ts = ts} {k = k} is there at rest) =
    ap (λ (o : Option ℕ). instead args w o ++ made ps args vs) (is_named ps w k is there)
    ∙ ap (λ (o : Option (List Word)). unwrap_or o [] ++ made ps args vs) at ∙ ap (λ (l : List Word). ts ++ l) (is_made ps args vs xs rest)
is_made ps args ws us (missing {w = w} {ws = vs} {us = xs} {k = k} is there at rest) =
    ap (λ (o : Option ℕ). instead args w o ++ made ps args vs) (is_named ps w k is there)
    ∙ ap (λ (o : Option (List Word)). unwrap_or o [] ++ made ps args vs) at ∙ is_made ps args vs xs rest

pub bodies_are : (d : Inline) (args : List (List Word)) → Left d.parameters args d.body (replaced d args)
bodies_are d args = made_is d.parameters args d.body

pub are_bodies : (d : Inline) (args : List (List Word)) (us : List Word) → Left d.parameters args d.body us → replaced d args ≡ us
are_bodies d args us h = is_made d.parameters args d.body us h
