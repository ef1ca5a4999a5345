use Rattle.meaning_laws.proofs.Going.{reference-leads}
use Rattle.meaning_laws.proofs.laws.references_lead.Goals as goal

pub returns : goal.returns
returns c = λ gs ls ts among r m h. reference-leads gs ts among h
