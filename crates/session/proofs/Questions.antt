-- The turns of a question.
use Rattle.std.proofs.Common.{◌≡◌, ℕ, zero, suc, ◌-◌, List, [], ◌∷◌, Some, None, refl, sub-one}
use Rattle.promela_session.specs.declared.ends.Broken.TheVariants as broken
use Rattle.promela_session.specs.declared.choice.Answer.{Answer}
use Rattle.promela_session.specs.declared.choice.Answer.TheVariants as answer
use Rattle.promela_session.specs.Events.{Put, Corrected, Part, preceded, followed, prompt, bad_line}
use Rattle.promela_session.specs.Session.{one_reply, ask_for_move, after_line, only_this}
use Rattle.devices.specs.Holdings.{Holdings}
use Rattle.promela_session.specs.Devices.{Does, Breaks}
use Rattle.session.specs.Writes.{Leads}
use Rattle.session.specs.Reads.{AsksPart, AsksBroken}
use Rattle.session.proofs.Parts.{Leads-trans, Leads-does, Leads-breaks, Does-then, Breaks-then, asks_does, ask_breaks, only_does}
use Rattle.promela_session.specs.declared.form.Stream.{Stream}

-- what follows the answer to a bad line
pub after_bad : ℕ → (ℕ → ℕ × ℕ) → ℕ → Stream → List ℕ → Part Answer
after_bad most place zero stream left = only_this answer.Hundred stream left
after_bad most place (suc tries) stream left = preceded (Put Corrected (prompt most) ∷ []) (ask_for_move most place tries stream left)

abbrev by_line : ℕ → (ℕ → ℕ × ℕ) → ℕ → Stream → List ℕ → Part Answer
by_line most place tries stream rest = followed (one_reply most place stream rest) (after_line (after_bad most place tries))

module _ {a b : Holdings} {n n' : ℕ} {whole : List ℕ → Part Answer} where
  to_line : (most : ℕ) (place : ℕ → ℕ × ℕ) (tries : ℕ) (stream : Stream) → Leads a b n n' whole (ask_for_move most place tries stream) → Leads a b n n' whole (by_line most place tries stream)
  unfolding ask_for_move after_bad
  to_line most place zero stream l = l
  to_line most place (suc tries) stream l = l

  pub to_prompt : (most : ℕ) (place : ℕ → ℕ × ℕ) (tries : ℕ) (stream : Stream) → (tries ≡ 0 → ⊥) → Leads a b n n' whole (after_bad most place tries stream)
      → Leads a b n n' whole (λ left. preceded (Put Corrected (prompt most) ∷ []) (ask_for_move most place (tries - 1) stream left))
  unfolding after_bad
  to_prompt most place zero stream some l = absurd (some refl)
  to_prompt most place (suc tries) stream some l = rw sub-one l

  pub hundredth : (most : ℕ) (place : ℕ → ℕ × ℕ) (tries : ℕ) (stream : Stream) → tries ≡ 0 → Leads a b n n' whole (after_bad most place tries stream) → Does a b n n' whole answer.Hundred stream
  unfolding after_bad
  hundredth most place zero stream none l = Leads-does l (only_does answer.Hundred stream)
  hundredth most place (suc tries) stream none l = cc

module _ {a b c : Holdings} {n n' : ℕ} {whole : List ℕ → Part Answer} where
  pub line_said : (most : ℕ) (place : ℕ → ℕ × ℕ) (tries : ℕ) (stream stream' : Stream) (said : Answer) → Leads a b n n' whole (ask_for_move most place tries stream) → AsksPart b c (one_reply most place stream) (Some said) stream'
      → Does a c n n' whole said stream'
  line_said most place tries stream stream' said l asked = Leads-does (Leads-trans (to_line most place tries stream l) (Does-then (after_line (after_bad most place tries)) (asks_does asked))) (only_does said stream')

  pub line_bad : (most : ℕ) (place : ℕ → ℕ × ℕ) (tries : ℕ) (stream stream' : Stream) → Leads a b n n' whole (ask_for_move most place tries stream) → AsksPart b c (one_reply most place stream) None stream'
      → Leads a c n n' whole (λ left. preceded (Put Corrected bad_line ∷ []) (after_bad most place tries stream' left))
  line_bad most place tries stream stream' l asked = Leads-trans (to_line most place tries stream l) (Does-then (after_line (after_bad most place tries)) (asks_does asked))

  pub line_breaks : (most : ℕ) (place : ℕ → ℕ × ℕ) (tries : ℕ) (stream : Stream) → Leads a b n n' whole (ask_for_move most place tries stream) → AsksBroken b c (one_reply most place stream)
      → Breaks a c n n' broken.Source whole
  line_breaks most place tries stream l asked = Leads-breaks (to_line most place tries stream l) (Breaks-then (after_line (after_bad most place tries)) (ask_breaks asked))
