-- What a request leaves of a session.
use Rattle.std.specs.Prelude.{◌≡◌, ◌≤◌}
use Rattle.dap_answers.specs.declared.debugging.ClientSession.{ClientSession}

-- What is to be sent is only added to, and a walk may have as many steps as before.
pub record GoesOn (old new : ClientSession) : Type 0 where
  pub limit : new.limit ≡ old.limit
  pub sent : old.out ≤ new.out
