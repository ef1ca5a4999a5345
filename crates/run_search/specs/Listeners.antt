-- Between which processes those lie that may receive on a channel.
use Rattle.std.specs.Prelude.{◌≡◌, ℕ, zero, suc, ◌<◌, ◌≤◌, ◌⊎◌, Bool, true, if◌then◌else◌, nat_lt, List, [], length, ℤ, pos, negsuc, Option, Some, None, slice_get, slice_set, slice_index_or}
use Rattle.promela_run.specs.declared.moves.Pick.{Pick}
use Rattle.run_search.specs.declared.demand.Demand.{Demand}
use Rattle.run_search.specs.declared.demand.Interests.{Interests}
use Rattle.run_search.specs.declared.demand.Interests.TheVariants.{Nothing, One, Two, Anything}
use Rattle.run_search.specs.declared.listeners.Span.{Span}
use Rattle.run_search.specs.declared.listeners.Known.{Known}
use Rattle.promela_run.specs.State.{Stand, State}
use Rattle.promela_run.specs.Moves.{Message, pairs_with}
use Rattle.run_search.specs.Demands.{may_take, AreDemands}

-- where the span of a channel stands
abbrev pub place_of : ℤ → ℕ
place_of (pos zero) = 0
place_of (pos (suc n)) = n
place_of (negsuc n) = 0

abbrev pub with_one : Span → ℕ → Span
with_one x j = record { first = if nat_lt j x.first then j else x.first; last = if nat_lt x.last j then j else x.last }

abbrev pub joined : Span → Span → Span
joined x y = record { first = if nat_lt y.first x.first then y.first else x.first; last = if nat_lt x.last y.last then y.last else x.last }

abbrev pub widened : List Span → ℕ → ℕ → List Span
widened xs k j = if nat_lt k (length xs) then slice_set xs k (with_one (slice_index_or xs k (record { first = 0; last = 0 })) j) else xs

-- one that waits so is among those of its channels, or among those that may receive anything
abbrev pub spans_with : List Span → Interests → ℕ → List Span
spans_with xs Nothing j = xs
spans_with xs (One x) j = widened xs (place_of x.number) j
spans_with xs (Two x y) j = widened (widened xs (place_of x.number) j) (place_of y.number) j
spans_with xs Anything j = xs

abbrev pub any_with : Span → Interests → ℕ → Span
any_with x Nothing j = x
any_with x (One y) j = x
any_with x (Two y z) j = x
any_with x Anything j = with_one x j

abbrev pub LiesIn : Span → ℕ → Type 0
LiesIn x i = (x.first ≤ i) × (i ≤ x.last)

-- where no span is known, each is among them
abbrev pub Hears : Option Span → Span → ℕ → Type 0
Hears None any i = Unit {0}
Hears (Some x) any i = LiesIn x i ⊎ LiesIn any i

-- by what is known, of the channel with a number
abbrev pub HearsOn : Known → ℤ → ℕ → Type 0
HearsOn k n i = Hears (slice_get k.spans.now (place_of n)) k.any i

-- of so many processes each lies where its channel is heard
abbrev pub AreHeard : List Demand → List Span → Span → ℕ → Type 0
AreHeard ws xs any n = (i : ℕ) (w : Demand) (m : Message) → i < n → slice_get ws i ≡ Some w → may_take w.interests m ≡ true → Hears (slice_get xs (place_of m.number)) any i

-- What is known is so of a state: who lies elsewhere, or waits for another message, receives none.
pub record AreKnown (s : State) (t : Bool) (k : Known) : Type 0 where
  pub demands : AreDemands s t k.demands.now
  pub heard : (i : ℕ) (y : Stand) (q : Pick) (m : Message) → slice_get s.stands i ≡ Some y → (HearsOn k m.number i → ⊥) → pairs_with s t q m i y ≡ []
