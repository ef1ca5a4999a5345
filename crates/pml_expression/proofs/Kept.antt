-- What is between two places is what stands there: the relations take tokens from the front alone.
use Rattle.std.proofs.Common.{◌≡◌, ℕ, ◌-◌, List, [], ◌∷◌, ◌++◌, length, refl, sym, ap, ◌∙◌, append_assoc, arith, length-append}
use Rattle.std.proofs.lemmas.List.{take_at}
use Rattle.pml_token.specs.Word.{Word}
use Rattle.promela_grammar.specs.Expressions as grammar
use Rattle.promela_grammar.specs.Expressions.{between, SpellsIndex, SpellsStep, SpellsFields, SpellsReference, SpellsExpr, SpellsArgument, SpellsArgumentList, SpellsArguments, SpellsList}

-- to is what is left of from behind some tokens
pub record Leads (from to : List Word) : Type 0 where
  pub words : List Word
  pub parts : from ≡ words ++ to

pub here : {ts : List Word} → Leads ts ts
here = record { words = []; parts = refl }

pub past : {w : Word} {from to : List Word} → Leads from to → Leads (w ∷ from) to
past {w} l = record { words = w ∷ l.words; parts = ap (λ (ts : List Word). w ∷ ts) l.parts }

infixr 5 ◌then◌
pub ◌then◌ : {a b c : List Word} → Leads a b → Leads b c → Leads a c
◌then◌ {c} l m = record { words = l.words ++ m.words; parts = l.parts ∙ ap (λ (ts : List Word). l.words ++ ts) m.parts ∙ sym (append_assoc l.words m.words c) }

-- over one token more
pub step : {a b : List Word} {w : Word} → Leads a (w ∷ b) → Leads a b
step l = l then past here

mutual
  pub index_leads : {i : _} {from to : List Word} → SpellsIndex i from to → Leads from to
  index_leads grammar.no_index = here
  index_leads (grammar.index _ x _) = past (step (expr_leads x))

  step_leads : {s : _} {from to : List Word} → SpellsStep s from to → Leads from to
  step_leads (grammar.step _ i) = past (index_leads i)

  fields_lead : {ss : _} {from to : List Word} → SpellsFields ss from to → Leads from to
  fields_lead grammar.no_field = here
  fields_lead (grammar.one_field _ s ss) = past (step_leads s then fields_lead ss)

  pub reference_leads : {r : _} {from to : List Word} → SpellsReference r from to → Leads from to
  reference_leads (grammar.reference s ss) = step_leads s then fields_lead ss

  pub expr_leads : {least : ℕ} {x : _} {from to : List Word} → SpellsExpr least x from to → Leads from to
  expr_leads (grammar.number _) = past here
  expr_leads (grammar.truth_value _) = past here
  expr_leads (grammar.timeout _) = past here
  expr_leads (grammar.read r) = reference_leads r
  expr_leads (grammar.poll r _ _ xs _) = step (step (reference_leads r)) then step (arguments_lead xs)
  expr_leads (grammar.ask _ _ r _) = past (past (step (reference_leads r)))
  expr_leads (grammar.unary _ _ x) = past (expr_leads x)
  expr_leads (grammar.binary _ _ x y) = step (expr_leads x) then expr_leads y
  expr_leads (grammar.parentheses _ x _) = past (step (expr_leads x))
  expr_leads (grammar.choice _ x _ y _ z _) = past (step (expr_leads x) then step (expr_leads y) then step (expr_leads z))

  argument_leads : {x : _} {from to : List Word} → SpellsArgument x from to → Leads from to
  argument_leads (grammar.into r) = reference_leads r
  argument_leads (grammar.exactly _) = past here
  argument_leads (grammar.exactly_minus _ _) = past (past here)
  argument_leads (grammar.fixed _) = past here
  argument_leads (grammar.eval _ _ x _) = past (past (step (expr_leads x)))

  argument_list_leads : {xs : _} {from to : List Word} → SpellsArgumentList xs from to → Leads from to
  argument_list_leads (grammar.last_argument x) = argument_leads x
  argument_list_leads (grammar.more_arguments x _ xs) = step (argument_leads x) then argument_list_leads xs

  pub arguments_lead : {xs : _} {from to : List Word} → SpellsArguments xs from to → Leads from to
  arguments_lead (grammar.argument_list xs) = argument_list_leads xs
  arguments_lead (grammar.argument_call x _ xs _) = step (argument_leads x) then step (argument_list_leads xs)
  arguments_lead (grammar.argument_group _ xs _) = past (step (argument_list_leads xs))

pub list_leads : {A : Type 0} {Spell : A → List Word → List Word → Type 0} {xs : List A} {from to : List Word} → ((x : A) (from to : List Word) → Spell x from to → Leads from to) → SpellsList Spell xs from to → Leads from to
list_leads leads (grammar.last_listed x) = leads _ _ _ x
list_leads leads (grammar.more_listed x _ xs) = step (leads _ _ _ x) then list_leads leads xs

pub cut : (from words to : List Word) → from ≡ words ++ to → from ≡ between from to ++ to
cut from words to parts =
    let n : length from - length to ≡ length words = omega (arith, ap length parts, length-append words to) in
    let front : between from to ≡ words = rw (n, parts) (take_at words to (length words) refl) in
    parts ∙ ap (λ (ts : List Word). ts ++ to) (sym front)
