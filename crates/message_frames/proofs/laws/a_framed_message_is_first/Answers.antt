use Rattle.message_frames.proofs.Framing.{framed_first}
use Rattle.message_frames.proofs.laws.a_framed_message_is_first.Goals as goal

pub returns : goal.returns
returns c = framed_first
