-- A text is refused in one way, or stands for one model.
use Rattle.std.proofs.Common.{◌≡◌, ℕ, ◌<◌, Bool, true, false, List, length, refl, sym, ap, ◌∙◌, subst, arith, inl, inr, Result, Ok}
use Rattle.diagnostics.specs.declared.refusal.Refusal.{Refusal}
use Rattle.diagnostics.specs.declared.refusal.Refusal.TheVariants as r
use Rattle.promela_session.specs.declared.ends.Options.{Options}
use Rattle.promela_session.specs.declared.ends.End.{End}
use Rattle.promela_session.specs.Events.{Part}
use Rattle.promela_session.specs.Session.{refused, transcript}
use Rattle.pml_token.specs.Word.{Word}
use Rattle.promela_text.specs.Tokens.{has_left_out, IsTooDeep, AreTokens}
use Rattle.pml_lex.specs.Divided.{CannotBeCut, HoldsLeftOut}
use Rattle.profile.specs.declared.TheConstants.{MOST_TEXT_BYTES}
use Rattle.pml_lex.proofs.Steps.{one_list}
use Rattle.promela_text.specs.Inlines.{Expands}
use Rattle.pml_inline.proofs.Whole.{one_result}
use Rattle.pml_tree.specs.declared.tree.Tree.{Tree}
use Rattle.promela_grammar.specs.Models.{Spells}
use Rattle.pml_syntax.proofs.Whole as trees
use Rattle.pml_program.specs.declared.program.Program.{Program}
use Rattle.promela_model.specs.StandsModel.{StandsModel}
use Rattle.meaning_laws.proofs.Model.{one-model}
use Rattle.promela_model.specs.declared.mark.Mark.{Mark}
use Rattle.promela_refusals.specs.Judged.{AppliesTo, IsFit, IsLeast}
use Rattle.pml_check.proofs.Least.{one_least, fit_has_none}
use Rattle.diagnostics.specs.declared.fault.Fault.{Fault}
use Rattle.promela_run.specs.State.{State, first_state}
use Rattle.promela_run.specs.World.{Running, first, rules}
use Rattle.promela_session.specs.Devices.{CanBeReplayed}
use Rattle.session.proofs.CutShort.{can_be_replayed, refused_can_be_replayed}
use Rattle.pml_play.specs.Transcript.{AreExpanded, IsSpelled, IsModel, IsRefused, IsTranscript, of_refusal, of_model}
use Rattle.pml_play.proofs.Refusing.{HasNoExpansion, ExpandsTooDeep, IsUnspelled, Refuses, too_long, lexical, left_out, inline, too_deep, unspelled, unfit, reason}
use Rattle.pml_play.specs.Outcomes.{HasLine}
use Rattle.promela_session.specs.declared.form.Stream.TheVariants.{Unread}

ok_is : {x y : State} → ◌≡◌ {A = Result State Fault} (Ok x) (Ok y) → x ≡ y
ok_is h = cc

-- a condition on the tree has no line
condition_line : (text : List ℕ) (x : Refusal) (ms : List Mark) (p : Program) → AppliesTo x ms p → HasLine text x 0
unfolding AppliesTo
condition_line text r.TextTooLong ms p a = refl
condition_line text r.Lexical ms p (inl a) = absurd a
condition_line text r.Lexical ms p (inr a) = absurd a
condition_line text r.LeftOut ms p (inl a) = absurd a
condition_line text r.LeftOut ms p (inr a) = absurd a
condition_line text r.TooDeep ms p (inl a) = absurd a
condition_line text r.TooDeep ms p (inr a) = absurd a
condition_line text r.Syntax ms p (inl a) = absurd a
condition_line text r.Syntax ms p (inr a) = absurd a
condition_line text r.NameTwice ms p a = refl
condition_line text r.UnknownName ms p a = refl
condition_line text r.WrongKind ms p a = refl
condition_line text r.ArgumentCount ms p a = refl
condition_line text r.Label ms p a = refl
condition_line text r.BreakOutsideDo ms p a = refl
condition_line text r.DStep ms p a = refl
condition_line text r.CircleOfGotos ms p a = refl
condition_line text r.NumberOutOfRange ms p a = refl
condition_line text r.TooManyCells ms p a = refl
condition_line text r.NoProcess ms p a = refl
condition_line text r.TooManyAtStart ms p a = refl
condition_line text r.Initialiser ms p a = refl
condition_line text r.Inline ms p a = refl

module _ {text : List ℕ} where
  same_tokens : {ts us : List Word} → AreTokens text ts → AreTokens text us → ts ≡ us
  same_tokens {ts} {us} a b = one_list text ts us a.are_cut b.are_cut

  no_expansion : {ts us : List Word} → AreTokens text ts → Expands ts us → HasNoExpansion text → ⊥
  no_expansion {ts} {us} a e h = h.none us (subst (λ (l : List Word). Expands l us) (same_tokens a h.are_tokens) e)

  same_expansion : {us vs : List Word} → AreExpanded text us → AreExpanded text vs → us ≡ vs
  same_expansion {us} {vs} a b =
      one_result a.tokens us vs a.is_expanded.expands (subst (λ (l : List Word). Expands l vs) (same_tokens b.are_tokens a.are_tokens) b.is_expanded.expands)

  same_tree : {t u : Tree} → IsSpelled text t → IsSpelled text u → t ≡ u
  same_tree {t} {u} a b = trees.one_tree t u b.expanded (subst (λ (l : List Word). Spells t l) (same_expansion a.are_expanded b.are_expanded) a.spells) b.spells

  -- a text with tokens is refused for none of the reasons before them
  not_long : {ts : List Word} → AreTokens text ts → MOST_TEXT_BYTES < length text → ⊥
  not_long a long = let short = a.short in omega arith

  not_uncut : {ts : List Word} {line : ℕ} → AreTokens text ts → CannotBeCut text line → ⊥
  not_uncut {ts} a c = c.never ts a.are_cut

  not_left_out : {ts : List Word} {line : ℕ} → AreTokens text ts → HoldsLeftOut text line → ⊥
  not_left_out {ts} a h =
      let e = ap has_left_out (one_list text ts h.tokens a.are_cut h.are_cut) in
      let c : true ≡ false = sym h.left_out ∙ sym e ∙ a.all_served in absurd cc

  -- the reasons before the tokens exclude one another
  long_uncut : {line : ℕ} → MOST_TEXT_BYTES < length text → CannotBeCut text line → ⊥
  long_uncut long c = let short = c.short in omega arith

  long_left_out : {line : ℕ} → MOST_TEXT_BYTES < length text → HoldsLeftOut text line → ⊥
  long_left_out long h = let short = h.short in omega arith

  -- and so do those of what comes of them
  not_expanded : {us : List Word} → AreExpanded text us → HasNoExpansion text → ⊥
  not_expanded a h = no_expansion a.are_tokens a.is_expanded.expands h

  not_both : {line : ℕ} → ExpandsTooDeep text line → HasNoExpansion text → ⊥
  not_both d h = no_expansion d.are_tokens d.deep.expands h

  not_deep : {us : List Word} {line : ℕ} → AreExpanded text us → ExpandsTooDeep text line → ⊥
  not_deep {us} a d =
      let expands : Expands a.tokens d.deep.given = subst (λ (l : List Word). Expands l d.deep.given) (same_tokens d.are_tokens a.are_tokens) d.deep.expands in
      a.is_expanded.shallow (subst (λ (l : List Word). IsTooDeep l) (one_result a.tokens d.deep.given us expands a.is_expanded.expands) d.deep.deep)

  not_unspelled : {t : Tree} {line : ℕ} → IsSpelled text t → IsUnspelled text line → ⊥
  not_unspelled {t} a u = u.none t (subst (λ (l : List Word). Spells t l) (same_expansion a.are_expanded u.are_expanded) a.spells)

  one_reason : {a b : Refusal} {m n : ℕ} → Refuses text a m → Refuses text b n → a ≡ b
  one_reason (too_long h) (too_long g) = refl
  one_reason (too_long h) (lexical g) = absurd (long_uncut h g)
  one_reason (too_long h) (left_out g) = absurd (long_left_out h g)
  one_reason (too_long h) (inline g) = absurd (not_long g.are_tokens h)
  one_reason (too_long h) (too_deep g) = absurd (not_long g.are_tokens h)
  one_reason (too_long h) (unspelled g) = absurd (not_long g.are_expanded.are_tokens h)
  one_reason (too_long h) (unfit g) = absurd (not_long g.is_spelled.are_expanded.are_tokens h)
  one_reason (lexical h) (too_long g) = absurd (long_uncut g h)
  one_reason (lexical h) (lexical g) = refl
  one_reason (lexical h) (left_out g) = absurd (h.never g.tokens g.are_cut)
  one_reason (lexical h) (inline g) = absurd (not_uncut g.are_tokens h)
  one_reason (lexical h) (too_deep g) = absurd (not_uncut g.are_tokens h)
  one_reason (lexical h) (unspelled g) = absurd (not_uncut g.are_expanded.are_tokens h)
  one_reason (lexical h) (unfit g) = absurd (not_uncut g.is_spelled.are_expanded.are_tokens h)
  one_reason (left_out h) (too_long g) = absurd (long_left_out g h)
  one_reason (left_out h) (lexical g) = absurd (g.never h.tokens h.are_cut)
  one_reason (left_out h) (left_out g) = refl
  one_reason (left_out h) (inline g) = absurd (not_left_out g.are_tokens h)
  one_reason (left_out h) (too_deep g) = absurd (not_left_out g.are_tokens h)
  one_reason (left_out h) (unspelled g) = absurd (not_left_out g.are_expanded.are_tokens h)
  one_reason (left_out h) (unfit g) = absurd (not_left_out g.is_spelled.are_expanded.are_tokens h)
  one_reason (inline h) (too_long g) = absurd (not_long h.are_tokens g)
  one_reason (inline h) (lexical g) = absurd (not_uncut h.are_tokens g)
  one_reason (inline h) (left_out g) = absurd (not_left_out h.are_tokens g)
  one_reason (inline h) (inline g) = refl
  one_reason (inline h) (too_deep g) = absurd (not_both g h)
  one_reason (inline h) (unspelled g) = absurd (not_expanded g.are_expanded h)
  one_reason (inline h) (unfit g) = absurd (not_expanded g.is_spelled.are_expanded h)
  one_reason (too_deep h) (too_long g) = absurd (not_long h.are_tokens g)
  one_reason (too_deep h) (lexical g) = absurd (not_uncut h.are_tokens g)
  one_reason (too_deep h) (left_out g) = absurd (not_left_out h.are_tokens g)
  one_reason (too_deep h) (inline g) = absurd (not_both h g)
  one_reason (too_deep h) (too_deep g) = refl
  one_reason (too_deep h) (unspelled g) = absurd (not_deep g.are_expanded h)
  one_reason (too_deep h) (unfit g) = absurd (not_deep g.is_spelled.are_expanded h)
  one_reason (unspelled h) (too_long g) = absurd (not_long h.are_expanded.are_tokens g)
  one_reason (unspelled h) (lexical g) = absurd (not_uncut h.are_expanded.are_tokens g)
  one_reason (unspelled h) (left_out g) = absurd (not_left_out h.are_expanded.are_tokens g)
  one_reason (unspelled h) (inline g) = absurd (not_expanded h.are_expanded g)
  one_reason (unspelled h) (too_deep g) = absurd (not_deep h.are_expanded g)
  one_reason (unspelled h) (unspelled g) = refl
  one_reason (unspelled h) (unfit g) = absurd (not_unspelled g.is_spelled h)
  one_reason (unfit h) (too_long g) = absurd (not_long h.is_spelled.are_expanded.are_tokens g)
  one_reason (unfit h) (lexical g) = absurd (not_uncut h.is_spelled.are_expanded.are_tokens g)
  one_reason (unfit h) (left_out g) = absurd (not_left_out h.is_spelled.are_expanded.are_tokens g)
  one_reason (unfit h) (inline g) = absurd (not_expanded h.is_spelled.are_expanded g)
  one_reason (unfit h) (too_deep g) = absurd (not_deep h.is_spelled.are_expanded g)
  one_reason (unfit h) (unspelled g) = absurd (not_unspelled h.is_spelled g)
  one_reason {a} {b} (unfit h) (unfit g) = one_least g.tree a b (subst (λ (t : Tree). IsLeast t a) (same_tree h.is_spelled g.is_spelled) h.least) g.least

  pub one_refusal : {a b : Refusal} {m n : ℕ} → IsRefused text a m → IsRefused text b n → a ≡ b
  one_refusal h g = one_reason (reason h) (reason g)

  -- a refused text has no tree that fits
  no_fit : {a : Refusal} {m : ℕ} {t : Tree} → Refuses text a m → IsSpelled text t → IsFit t → ⊥
  no_fit (too_long h) is fits = not_long is.are_expanded.are_tokens h
  no_fit (lexical h) is fits = not_uncut is.are_expanded.are_tokens h
  no_fit (left_out h) is fits = not_left_out is.are_expanded.are_tokens h
  no_fit (inline h) is fits = not_expanded is.are_expanded h
  no_fit (too_deep h) is fits = not_deep is.are_expanded h
  no_fit (unspelled h) is fits = not_unspelled is h
  no_fit {a} {t = t} (unfit h) is fits = fit_has_none t a fits (subst (λ (t : Tree). IsLeast t a) (same_tree h.is_spelled is) h.least)

  pub no_model : {a : Refusal} {m : ℕ} {lossy : Bool} {model : Running} → IsRefused text a m → IsModel text lossy model → ⊥
  no_model h m = no_fit (reason h) m.is_spelled m.fits

  -- equal models begin alike
  same_begun : {t u : Tree} {p q : Program} {b c : State} → IsSpelled text t → IsSpelled text u → StandsModel t p → StandsModel u q → first_state p ≡ Ok b → first_state q ≡ Ok c → b ≡ c
  same_begun {t} {u} {p} {q} is other stands too sb sc =
      let same : p ≡ q = one-model t p q stands (subst (λ (x : Tree). StandsModel x q) (same_tree other is) too) in
      ok_is (sym sb ∙ ap first_state same ∙ sc)

  pub one_model : {lossy : Bool} {a b : Running} → IsModel text lossy a → IsModel text lossy b → a ≡ b
  one_model {lossy} {a} {b} m n = m.is ∙ ap (λ (s : State). first s lossy) (same_begun m.is_spelled n.is_spelled m.stands n.stands m.starts n.starts) ∙ sym n.is

  line_by : {a : Refusal} {line : ℕ} → Refuses text a line → HasLine text a line
  line_by (too_long h) = refl
  line_by (lexical h) = h.on_line
  line_by (left_out h) = h.on_line
  line_by (inline h) = refl
  line_by (too_deep h) = h.on_line
  line_by (unspelled h) = h.on_line
  line_by {a} (unfit h) = condition_line text a _ _ h.least.applies.applies

  pub line_of : {a : Refusal} {line : ℕ} → IsRefused text a line → HasLine text a line
  line_of h = line_by (reason h)

  pub when_refused : {options : Options} {part : List ℕ → Part End} {a : Refusal} {m : ℕ} → IsRefused text a m → IsTranscript text options part → (line : ℕ) × (part ≡ refused a line Unread)
  when_refused h (of_refusal {line} g) = (line, ap (λ (x : Refusal). refused x line Unread) (one_refusal g h))
  when_refused h (of_model g) = absurd (no_model h g)

  pub when_modelled : {options : Options} {part : List ℕ → Part End} {model : Running} → IsModel text options.lossy model → IsTranscript text options part → part ≡ transcript rules options model
  when_modelled h (of_refusal g) = absurd (no_model g h)
  when_modelled {options} h (of_model g) = ap (λ (x : Running). transcript rules options x) (one_model g h)

events_of : (a b : List ℕ → Part End) → a ≡ b → (choices : List ℕ) → (a choices).events ≡ (b choices).events
events_of a b same choices = ap (λ (x : List ℕ → Part End). (x choices).events) same

-- the transcripts of a text have the same events
pub same_events : {text : List ℕ} {options : Options} {a b : List ℕ → Part End} → IsTranscript text options a → IsTranscript text options b → (choices : List ℕ) → (a choices).events ≡ (b choices).events
same_events {b = b} (of_refusal {refusal} {line} h) given = let p = when_refused h given in events_of (refused refusal p.0 Unread) b (sym p.1)
same_events {options = options} {b = b} (of_model {state} h) given = events_of (transcript rules options state) b (sym (when_modelled h given))

-- a session over a text can be played again on its record
pub replays : {text : List ℕ} {options : Options} {part : List ℕ → Part End} → IsTranscript text options part → CanBeReplayed part
replays (of_refusal {refusal} {line} h) = refused_can_be_replayed refusal line
replays {options} (of_model {state} h) = can_be_replayed rules options state
