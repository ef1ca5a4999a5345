-- The sessions that go along a walk.
use Rattle.std.specs.Prelude.{◌≡◌, ◌≤◌, ℕ, false, List, ◌++◌, length, take}
use Rattle.promela_session.specs.Events.{Part}
use Rattle.promela_session.specs.declared.ends.End.{End}
use Rattle.promela_session.specs.declared.ends.Options.{Options}
use Rattle.promela_run.specs.declared.moves.Move.{Move}
use Rattle.promela_run.specs.World.{Running, rules}
use Rattle.pml_play.specs.Parts.{IsReady}
use Rattle.pml_play.specs.Run.{Leg, IsRun, last_state}
use Rattle.pml_play.specs.Transcript.{IsModel, IsTranscript}
use Rattle.view_walk.specs.Records.{record_of}
use Rattle.view_walk.specs.Walks.{Walked, IsWalk}
use Rattle.view_laws.specs.Along.{HasPath}

-- A walk through the model of a text, and a session over the text by options that lose messages as the walk does.
pub record IsSessionOn (text : List ℕ) (w : Walked) (options : Options) (session : List ℕ → Part End) : Type 0 where
  pub ready : IsReady text w.program
  pub is_walk : IsWalk w
  pub loses : options.lossy ≡ w.lossy
  pub is_transcript : IsTranscript text options session

-- On the walk's record, with whatever behind it, the session runs through the walk's path first, or through as many of its steps as the limit lets it.
pub record GoesAlong (w : Walked) (options : Options) (session : List ℕ → Part End) (text : List ℕ) : Type 0 where
  pub walk : HasPath w
  pub is_model : IsModel text options.lossy walk.start
  pub first : length w.legs ≤ options.limit → (more : List ℕ)
      → (later : List (Leg Running Move)) × IsRun rules options.limit walk.start (walk.path ++ later) (session (record_of w.legs ++ more))
  pub just : options.limit ≤ length w.legs → (more : List ℕ)
      → IsRun rules options.limit walk.start (take options.limit walk.path) (session (record_of w.legs ++ more))
  -- so where its limit is as many steps as choices stand, it ends in the state where the walk stands
  pub there : w.is_lost ≡ false → options.limit ≡ w.at → last_state walk.start (take options.limit walk.path) ≡ w.state
