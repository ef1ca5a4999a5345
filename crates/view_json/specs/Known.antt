-- What was written of a process at an offer, and is written again for the next that does the same.
use Rattle.std.specs.Prelude.{◌≡◌, ℕ, Bool, true, false, ◌&&◌, not, nat_eq, List, [], ◌++◌, Option, Some, codes}
use Rattle.std.specs.Str.{bytes_eq}
use Rattle.std.specs.Option.{option_map_or}
use Rattle.json.specs.Token.{Token}
use Rattle.pml_program.specs.declared.program.Action.{Action}
use Rattle.pml_program.specs.declared.program.Action.TheVariants.{Send, Receive}
use Rattle.pml_program.specs.declared.program.Basic.{Basic, Plain}
use Rattle.promela_run.specs.State.{picked, State}
use Rattle.promela_run.specs.declared.moves.Pick.{Pick}
use Rattle.view_waits.specs.Offers.{offered_line, offered_text}
use Rattle.view_json.specs.declared.known.Known.{Known}
use Rattle.view_json.specs.declared.known.Seen.{Seen}
use Rattle.view_json.specs.Objects.{count, text, member, named}
use Rattle.view_json.specs.Choices.{actor, next_line}

-- the text of the offer that a pick names, with its line
abbrev pub whole_text : State → Pick → List ℕ
whole_text s k = option_map_or (λ o. o.text) (picked s k) []

-- whether an action sends or receives
abbrev pub is_deal : Action → Bool
is_deal (Send x order es) = true
is_deal (Receive x search how ws) = true
is_deal other = false

-- whether a statement does
abbrev pub has_deal : Option Basic → Bool
has_deal (Some (Plain x)) = is_deal x
has_deal other = false

-- whether the offer that a pick names does
abbrev pub deals_at : State → Pick → Bool
deals_at s k = option_map_or (λ o. has_deal o.basic) (picked s k) false

-- a process, an offer with this line and text, and where it stands behind it
abbrev pub acted : State → ℕ → ℕ → List ℕ → ℕ → List Token
acted s p line bare next =
    (named s p ++ (member (codes "line") (count line) ++ member (codes "text") (text bare))) ++ member (codes "next") (count next)

-- what was written is of this offer
pub record IsOf (s : State) (k : Known) : Type 0 where
  pub line : k.line ≡ offered_line s k.pick
  pub text : k.text.items ≡ whole_text s k.pick
  pub next : k.next ≡ next_line s k.pick
  pub written : k.written.tokens ≡ actor s k.pick

-- so it is, unless nothing was written
abbrev pub Knows : State → Known → Type 0
Knows s k = k.written.refused ≡ false → IsOf s k

-- an offer is seen as it is
pub record IsSeen (s : State) (k : Pick) (x : Seen) : Type 0 where
  pub line : x.line ≡ offered_line s k
  pub text : x.text.now ≡ whole_text s k
  pub next : x.next ≡ next_line s k

-- the same of another pick
abbrev pub of_pick : Pick → Known → Known
of_pick pick k = record k { pick = pick }

-- whether something was written, of an offer of this process that is seen so
abbrev pub alike : Known → ℕ → Seen → Bool
alike k p x =
    not k.written.refused && (nat_eq k.pick.process p && (nat_eq k.line x.line && (nat_eq k.next x.next && bytes_eq k.text.items x.text.now)))
