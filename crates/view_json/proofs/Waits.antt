-- What processes wait for, each with words.
use Rattle.std.proofs.Common.{◌≡◌, ◌∙◌, ap, sym, refl, subst, ℕ, suc, ◌+◌, ◌<◌, true, List, [], ◌∷◌, ◌++◌, take, length, map, get_or, arith, append_assoc, append-nil, length-append}
use Rattle.std.proofs.lemmas.Bool.{true≢false}
use Rattle.std.proofs.lemmas.List.{length-map}
use Rattle.std.proofs.Math.Seq.{take-suc}
use Rattle.json.specs.Token.{Token}
use Rattle.promela_run.specs.State.{State}
use Rattle.view_waits.specs.declared.waits.Wait.{Wait}
use Rattle.view_tokens.specs.Printed.{Printed, Writes}
use Rattle.view_json.specs.Objects.{wait, waits_with, AddsWaits}
use Rattle.view_json.proofs.Writing.{chain, none}

-- one more, with words for it
with_more : (s : State) (p : ℕ) (ws : List Wait) (words : List (List ℕ)) (x : Wait) (t : List ℕ) → length words ≡ length ws
    → waits_with s p ws words ++ wait s p x t ≡ waits_with s p (ws ++ x ∷ []) (words ++ t ∷ [])
with_more s p [] [] x t same = sym (append-nil (wait s p x t))
with_more s p [] (u ∷ us) x t same = absurd (omega (arith, same))
with_more s p (w ∷ ws) [] x t same = absurd (omega (arith, same))
with_more s p (w ∷ ws) (u ∷ us) x t same =
    append_assoc (wait s p w u) (waits_with s p ws us) (wait s p x t)
    ∙ ap (λ (l : List Token). wait s p w u ++ l) (with_more s p ws us x t (omega (arith, same)))

pub waits_none : (s : State) (p : ℕ) (a : Printed) → AddsWaits s p [] a a
waits_none s p a = ([], refl, none a)

pub waits_more : (s : State) (p i : ℕ) (ws : List Wait) (x : Wait) (a b c : Printed) → i < length ws → AddsWaits s p (take i ws) a b
    → (t : List ℕ) → Writes b c (wait s p (get_or ws i x) t) → AddsWaits s p (take (i + 1) ws) a c
waits_more s p i ws x a b c below so_far t here =
    let more : i + 1 ≡ suc i = omega arith in
    let y : Wait = get_or ws i x in
    let is : take (i + 1) ws ≡ take i ws ++ y ∷ [] = ap (λ (k : ℕ). take k ws) more ∙ take-suc ws i x below in
    let one : length (so_far.0 ++ t ∷ []) ≡ length (take i ws ++ y ∷ []) =
    length-append so_far.0 (t ∷ []) ∙ ap (λ (n : ℕ). n + 1) so_far.1 ∙ sym (length-append (take i ws) (y ∷ [])) in
    subst (λ (l : List Wait). AddsWaits s p l a c) (sym is)
    (so_far.0 ++ t ∷ [], one, chain a b c _ _ _ so_far.2 here (with_more s p (take i ws) so_far.0 y t so_far.1))

-- where memory was refused nothing is said
pub waits_refused : (s : State) (p : ℕ) (ws : List Wait) (a c : Printed) → c.refused ≡ true → AddsWaits s p ws a c
waits_refused s p ws a c refused =
    (map (λ (w : Wait). []) ws, length-map ws (λ (w : Wait). []), record { stays = λ r. refused; added = λ calm. absurd (true≢false (sym refused ∙ calm)) })
