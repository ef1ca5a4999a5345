-- The path of a walk.
use Rattle.std.specs.Prelude.{◌≡◌, ℕ, false, List, length, take, Some}
use Rattle.promela_machine.specs.Machine.{Rules}
use Rattle.promela_run.specs.declared.moves.Move.{Move}
use Rattle.promela_run.specs.World.{Running, rules as rules_of_models}
use Rattle.pml_sim.specs.Lent.{IsFirst}
use Rattle.pml_play.specs.Run.{Leg, IsPath, last_state}
use Rattle.view_walk.specs.declared.leg.Leg as choice
use Rattle.view_walk.specs.Choices.{led_from}
use Rattle.view_walk.specs.Records.{numbers_of}
use Rattle.view_walk.specs.Walks.{Walked}

-- A path along choices: its numbers are theirs, it has as many steps, and behind so many of its steps it is in the state that as many of them lead to.
pub record IsAlong {S M : Type 0} (rules : Rules S M) (s : S) (path : List (Leg S M)) (choices : List choice.Leg) : Type 0 where
  pub is_path : IsPath rules s path (numbers_of choices)
  pub counted : length path ≡ length choices
  pub leads : (k : ℕ) → led_from rules (Some s) (take k choices) ≡ Some (last_state s (take k path))

-- A walk has a path from the first state of its model along its choices, and the machine is in the state behind those of its steps that stand.
pub record HasPath (w : Walked) : Type 0 where
  pub start : Running
  pub is_first : IsFirst w.program w.lossy start
  pub path : List (Leg Running Move)
  pub along : IsAlong rules_of_models start path w.legs
  pub here : w.is_lost ≡ false → last_state start (take w.at path) ≡ w.state
