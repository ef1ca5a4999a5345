-- From what the parts of converting answer to what the whole does.
use Rattle.std.proofs.Common.{◌≡◌, ◌≢◌, ℕ, List, [], Option, None, refl}
use Rattle.devices.specs.Holdings.{Holdings}
use Rattle.devices.specs.Doing.{holding}
use Rattle.promela_session.specs.declared.ends.Options.{Options}
use Rattle.promela_session.specs.declared.ends.End.{End}
use Rattle.promela_session.specs.declared.ends.Cause.TheVariants as cause
use Rattle.promela_session.specs.declared.ends.Broken.TheVariants as broken
use Rattle.promela_session.specs.declared.form.Stream.TheVariants.{Unread}
use Rattle.promela_session.specs.Events.{Part}
use Rattle.promela_session.specs.Session.{only_this, end_of, refused, transcript}
use Rattle.promela_session.specs.Devices.{Ends, IsBrokenOff, converted, IsConvertedBy}
use Rattle.session.proofs.Moving.{Moved-nil}
use Rattle.session.proofs.Parts.{memory_breaks, only_does}
use Rattle.session.proofs.Placing.{refused_can_be_converted}
use Rattle.promela_run.specs.World.{Running, rules}
use Rattle.pml_play.specs.declared.whole.Rejection.{Rejection}
use Rattle.pml_play.specs.declared.whole.Rejection.TheVariants.{Memory, Refused}
use Rattle.pml_play.specs.Transcript.{IsModel, IsTranscript, of_refusal, of_model}
use Rattle.pml_play.specs.Parts.{IsRejected}
use Rattle.pml_sim.proofs.Short.{light_stands}
use Rattle.pml_play.specs.Transcript.{IsConversion, no_model, of_its_model, Converts, IsAlwaysConverted}
use Rattle.pml_play.specs.Converting.{cause_rejected}
use Rattle.pml_play.proofs.Light.{text_light}
use Rattle.pml_play.proofs.Each.{has_transcript}

-- each text has a conversion
conversion_of : (text : List ℕ) (options : Options) (run : List ℕ → Part End) → IsTranscript text options run → (part : List ℕ → Part End) × IsConversion text options part
conversion_of text options run (of_refusal {refusal} {line} h) = (only_this (end_of (cause.Refused refusal line) 0) Unread, no_model h)
conversion_of text options run (of_model {state} h) = (converted (transcript rules options state), of_its_model h)

has_conversion : (text : List ℕ) (options : Options) → (part : List ℕ → Part End) × IsConversion text options part
has_conversion text options = let t = has_transcript text options in conversion_of text options t.0 t.1

pub law : (text : List ℕ) (options : Options) (run : List ℕ → Part End) → IsTranscript text options run → IsAlwaysConverted run
law text options run (of_refusal {refusal} {line} h) choices = refused_can_be_converted refusal line choices
law text options run (of_model {state} h) choices = light_stands state options (text_light text options.lossy state h) choices

-- nothing is done over a rejected text
pub rejected_converts : (text : List ℕ) (options : Options) (rejection : Rejection) (a : Holdings) → IsRejected text rejection → Converts text options a a (end_of (cause_rejected rejection) 0)
rejected_converts text options Memory a is = record {
  whole = λ own. absurd (own refl);
  quiet = λ own. refl;
  broken = λ six. let c = has_conversion text options in (c.0, c.1, (broken.Memory, refl, memory_breaks c.0 Moved-nil, refl));
  is_end = refl;
}
rejected_converts text options (Refused refusal line) a is = record {
  whole = λ own. record {
    part = only_this (end_of (cause.Refused refusal line) 0) Unread;
    is_conversion = no_model is;
    ends = (Unread, only_does (end_of (cause.Refused refusal line) 0) Unread);
    run = refused refusal line Unread;
    is_transcript = of_refusal is;
    stands = ([], record { gave = λ left now. now }, λ left now. refused_can_be_converted refusal line left);
  };
  quiet = λ own. refl;
  broken = λ six. cc;
  is_end = refl;
}

-- the session of the model was converted
pub model_converts : (text : List ℕ) (options : Options) (state : Running) → IsModel text options.lossy state → (end : End) (source source' : List ℕ → Type 0) (out out' : Option (List ℕ)) (s s' o o' : ℕ)
    → (end.status ≢ 6 → Ends (holding source out None s o 0) (holding source' out' None s' o' 0) end.steps (converted (transcript rules options state)) end)
    → (end.status ≢ 6 → s' ≡ s) → (end.status ≢ 6 → o' ≡ o)
    → (end.status ≡ 6 → IsBrokenOff (holding source out None s o 0) (holding source' out' None s' o' 0) (converted (transcript rules options state)) end)
    → end ≡ end_of end.cause end.steps → (end.status ≢ 6 → IsConvertedBy source source' (transcript rules options state))
    → Converts text options (holding source out None s o 0) (holding source' out' None s' o' 0) end
model_converts text options state is end source source' out out' s s' o o' whole still_source still_out broken told stands = record {
  whole = λ own. record {
    part = converted (transcript rules options state);
    is_conversion = of_its_model is;
    ends = whole own;
    run = transcript rules options state;
    is_transcript = of_model is;
    stands = stands own;
  };
  quiet = λ own. rw (still_source own, still_out own) refl;
  broken = λ six. (converted (transcript rules options state), of_its_model is, broken six);
  is_end = told;
}
