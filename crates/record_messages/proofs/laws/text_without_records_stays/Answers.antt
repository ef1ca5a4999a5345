use Rattle.record_messages.proofs.Recording.{same_text}
use Rattle.record_messages.proofs.laws.text_without_records_stays.Goals as goal

pub returns : goal.returns
returns c = same_text
