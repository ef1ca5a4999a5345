-- What mends a text, or what is left of it.
use Rattle.std.proofs.Common.{◌≡◌, ◌∙◌, sym, ap, subst, Bool, true, List, length, ℕ, Option, Some, None, option_map, IfOk, IfSome, Ok, Err, Vec, Global}
use Rattle.std.specs.Prelude.{Result}
use Rattle.std.specs.Bool.{OnTrue}
use Rattle.std.proofs.lemmas.Bool.{OnTrue_from}
use Rattle.model_verdicts.specs.declared.verdict.Verdict.{Verdict}
use Rattle.model_verdicts.specs.Verdicts.{IsRefusedSo, IsVerdict}
use Rattle.text_parts.specs.Rest.{IsRest}
use Rattle.model_verdicts.specs.declared.exchange.ExchangedPart.{ExchangedPart}
use Rattle.model_verdicts.specs.declared.better.RankedRefusal.{RankedRefusal}
use Rattle.model_verdicts.specs.Exchanged.{words_of, exchanged}
use Rattle.model_verdicts.specs.Better.{seen_by, is_further, IsMended, further, IsOffered, here, behind}

pub refused_by : (text : List ℕ) (o : Option Verdict) (v : Verdict) → o ≡ Some v → IsVerdict text o → IsRefusedSo text v
refused_by text o v is h = subst (IsVerdict text) is h

goes_by : (s s' t t' : RankedRefusal) (at n n' : ℕ) (b : Bool) → s ≡ s' → t ≡ t' → n ≡ n' → b ≡ is_further s t at n → b ≡ true → is_further s' t' at n' ≡ true
goes_by s s' t t' at n n' b p q r is holds =
    sym (ap (λ (x : RankedRefusal). is_further x t at n) p ∙ ap (λ (x : RankedRefusal). is_further s' x at n) q ∙ ap (λ (x : ℕ). is_further s' t' at x) r) ∙ sym is ∙ holds

-- a text that is refused further on
pub further_by : (text us vs : List ℕ) (v w : Verdict) (e : ExchangedPart) (o : Option Verdict) (s t : RankedRefusal) (n : ℕ) (b : Bool) → us ≡ exchanged text e → vs ≡ us
    → o ≡ Some w → IsVerdict vs o → s ≡ seen_by v (length text) → t ≡ seen_by w (length us) → n ≡ length (words_of text e.words) → b ≡ is_further s t e.at n
    → OnTrue b (IsMended text v e)
further_by text us vs v w e o s t n b written same is h before then size decides =
    OnTrue_from b (IsMended text v e)
    (λ (holds : b ≡ true).
    further w (subst (λ (x : List ℕ). IsRefusedSo x w) (same ∙ written) (refused_by vs o w is h))
    (goes_by s (seen_by v (length text)) t (seen_by w (length (exchanged text e))) e.at n (length (words_of text e.words)) b before
    (then ∙ ap (λ (x : List ℕ). seen_by w (length x)) written) size decides holds))

-- the text itself
pub here_by : {E : Type 0} (text : List ℕ) (v : Verdict) (r : Result (Option ExchangedPart) E) → IsRefusedSo text v → IfOk r (λ o. IfSome o (IsMended text v))
    → IfOk r (λ o. IfSome o (λ e. IsOffered e text))
here_by text v (Err e) q h = tt
here_by text v (Ok None) q h = tt
here_by text v (Ok (Some e)) q h = here q h

-- the rest of it
pub behind_by : {E : Type 0} (text us : List ℕ) (at : ℕ) (o : Option (Vec ℕ Global)) (rest : Vec ℕ Global) (r : Result (Option ExchangedPart) E) → o ≡ Some rest
    → us ≡ rest.items → IsRest text at (option_map (λ t. t.items) o) → IfOk r (λ x. IfSome x (λ e. IsOffered e us))
    → IfOk r (λ x. IfSome x (λ e. IsOffered e text))
behind_by text us at o rest (Err e) is s q h = tt
behind_by text us at o rest (Ok None) is s q h = tt
behind_by text us at o rest (Ok (Some e)) is s q h =
    behind (subst (λ (x : Option (Vec ℕ Global)). IsRest text at (option_map (λ t. t.items) x)) is q) (subst (IsOffered e) s h)
