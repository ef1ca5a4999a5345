-- What was written of moves, and is written again of the next that does the same.
use Rattle.std.specs.Prelude.{◌≡◌, ℕ, Bool, false, ◌&&◌, All, List, codes}
use Rattle.promela_run.specs.declared.moves.Move.TheVariants.{Alone, Pair}
use Rattle.promela_run.specs.State.{State}
use Rattle.view_json.specs.declared.deal.Deal.{Deal}
use Rattle.view_json.specs.declared.single.Single.{Single}
use Rattle.view_json.specs.declared.couple.Couple.{Couple}
use Rattle.view_json.specs.declared.couple.Meeting.{Meeting}
use Rattle.view_json.specs.declared.choice.Before.{Before}
use Rattle.view_json.specs.Objects.{detail}
use Rattle.view_json.specs.Lines.{Dealing, dealing}
use Rattle.view_json.specs.Choices.{Effect, choice}
use Rattle.view_json.specs.declared.known.Seen.{Seen}
use Rattle.view_json.specs.Known.{Knows, IsSeen, alike}

-- what some move does with a message is written, and words for that, unless memory is refused
pub record Deals (s : State) (d : Deal) : Type 0 where
  pub deals : Dealing
  pub words : List ℕ
  pub done : d.done.refused ≡ false → d.done.tokens ≡ dealing s deals
  pub effect : d.effect.refused ≡ false → d.effect.tokens ≡ detail (codes "effect") words

-- both of it are there
pub record IsWritten (d : Deal) : Type 0 where
  pub done : d.done.refused ≡ false
  pub effect : d.effect.refused ≡ false

-- a move of one process is written, whether `timeout` was true or not
pub record Tells (s : State) (l : Single) : Type 0 where
  pub first : Knows s l.first
  pub effect : Effect
  pub whole : l.whole.refused ≡ false → l.whole.tokens ≡ choice s (Alone l.first.pick false) effect

-- so is a rendezvous
pub record Meets (s : State) (l : Couple) : Type 0 where
  pub first : Knows s l.first
  pub partner : Knows s l.partner
  pub deal : Deals s l.deal
  pub effect : Effect
  pub whole : l.whole.refused ≡ false → l.whole.tokens ≡ choice s (Pair l.first.pick l.partner.pick false) effect

-- the offers of a rendezvous are seen as they are
pub record AreSeen (s : State) (of : Meeting) : Type 0 where
  pub first : IsSeen s of.sender of.first
  pub partner : IsSeen s of.receiver of.partner

-- whether a move was written, of this process at an offer that is seen so
abbrev pub single_alike : ℕ → Seen → Single → Bool
single_alike p x l = alike l.first p x

-- whether a rendezvous was written, of the processes of this one at offers that are seen so
abbrev pub couple_alike : Meeting → Couple → Bool
couple_alike of l = alike l.partner of.receiver.process of.partner && alike l.first of.sender.process of.first

-- what was written of the last moves is of this state
pub record Goes (s : State) (b : Before) : Type 0 where
  pub alone : All (Tells s) b.alone.all.items
  pub pair : All (Meets s) b.pair.all.items
