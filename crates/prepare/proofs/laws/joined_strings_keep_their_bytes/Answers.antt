use Rattle.prepare.proofs.Lined.{is_joined}
use Rattle.prepare.proofs.laws.joined_strings_keep_their_bytes.Goals as goal

pub returns : goal.returns
returns c = is_joined
