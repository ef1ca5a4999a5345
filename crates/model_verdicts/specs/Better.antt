-- When a refused text is better with a part of it exchanged.
use Rattle.std.specs.Prelude.{◌≡◌, ℕ, ◌+◌, ◌-◌, min, nat_eq, nat_le, nat_lt, Bool, true, not, ◌&&◌, ◌||◌, List, length, Some}
use Rattle.std.specs.Option.{option_map_or}
use Rattle.diagnostics.specs.declared.refusal.Refusal.{Refusal}
use Rattle.diagnostics.specs.declared.refusal.Refusal.TheVariants as r
use Rattle.explain_cause.specs.declared.cause.Segment.{Segment}
use Rattle.model_verdicts.specs.declared.verdict.Verdict.{Verdict}
use Rattle.model_verdicts.specs.Verdicts.{IsPlayed, IsRefusedSo}
use Rattle.text_parts.specs.Rest.{IsRest}
use Rattle.model_verdicts.specs.declared.better.RankedRefusal.{RankedRefusal}
use Rattle.model_verdicts.specs.declared.offered.SelectedPart.{SelectedPart}
use Rattle.model_verdicts.specs.declared.exchange.ExchangedPart.{ExchangedPart}
use Rattle.model_verdicts.specs.Exchanged.{words_of, exchanged}

-- the order in which refusals go before one another: that of their numbers, but for those of inlines, which go before brackets that are too deep
abbrev pub rank_of : Refusal → ℕ
rank_of r.TextTooLong = 0
rank_of r.Lexical = 1
rank_of r.LeftOut = 2
rank_of r.Inline = 3
rank_of r.TooDeep = 4
rank_of r.Syntax = 5
rank_of r.NameTwice = 6
rank_of r.UnknownName = 7
rank_of r.WrongKind = 8
rank_of r.ArgumentCount = 9
rank_of r.Label = 10
rank_of r.BreakOutsideDo = 11
rank_of r.DStep = 12
rank_of r.CircleOfGotos = 13
rank_of r.NumberOutOfRange = 14
rank_of r.TooManyCells = 15
rank_of r.NoProcess = 16
rank_of r.TooManyAtStart = 17
rank_of r.Initialiser = 18

abbrev pub offset_in : Verdict → ℕ
offset_in v = option_map_or (λ p. p.offset) v.place 0

-- how a text of so many bytes is refused
abbrev pub seen_by : Verdict → ℕ → RankedRefusal
seen_by v n = record { rank = rank_of v.refusal; at = offset_in v; left = n - offset_in v }

-- the refusal lies where so many bytes were written
abbrev pub is_touched : RankedRefusal → ℕ → ℕ → Bool
is_touched s at n = nat_le at s.at && nat_le (s.at - at) n

-- in the order of refusals or, for the same one, in that of the text, and not where so many bytes were written
abbrev pub is_further : RankedRefusal → RankedRefusal → ℕ → ℕ → Bool
is_further s t at n = not (is_touched t at n) && (nat_lt s.rank t.rank || (nat_eq s.rank t.rank && nat_lt t.left s.left))

-- of a text that is refused so, that with a part exchanged is refused otherwise, further on
abbrev pub goes_further : List ℕ → Verdict → ExchangedPart → Verdict → Bool
goes_further text v e w =
    is_further (seen_by v (length text)) (seen_by w (length (exchanged text e))) e.at (length (words_of text e.words))

-- a place touches a part of a text; a place beyond 2^64 - 1 is none
abbrev pub touches : Segment → SelectedPart → Bool
touches p part = nat_le p.offset part.to && nat_le part.from (min (p.offset + p.length) 18446744073709551615)

-- it is played then, or refused further on
pub data IsMended (text : List ℕ) (v : Verdict) (e : ExchangedPart) : Type 0 where
  played : IsPlayed (exchanged text e) → IsMended text v e
  further : (w : Verdict) → IsRefusedSo (exchanged text e) w → goes_further text v e w ≡ true → IsMended text v e

-- What mends a text, or the text without a body in which a refusal lies.
pub data IsOffered (e : ExchangedPart) : List ℕ → Type 0 where
  here : {text : List ℕ} {v : Verdict} → IsRefusedSo text v → IsMended text v e → IsOffered e text
  behind : {text rest : List ℕ} {at : ℕ} → IsRest text at (Some rest) → IsOffered e rest → IsOffered e text
