use Rattle.run_texts.proofs.Staying as lemmas
use Rattle.run_texts.proofs.laws.texts_stay.Goals as goal

pub returns : goal.returns
returns _ s t more m same is h = lemmas.text_stays s t more same is m h
