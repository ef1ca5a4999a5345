-- What is answered to questions.
use Rattle.std.proofs.Common.{◌≡◌, refl, subst, List, ℕ, codes, string_bytes, Option, Some, IfOk, IfSome, Ok, Err}
use Rattle.std.specs.Prelude.{Result}
use Rattle.serde_json.specs.Find.{get}
use Rattle.serde_json.specs.View.{view}
use Rattle.serde_json.specs.declared.value.Value.{Value}
use Rattle.model_names.specs.Told.{AreMeant}
use Rattle.serde_json.specs.Data.{Data, null}
use Rattle.text_parts.specs.declared.places.ColumnUnit as counting
use Rattle.model_names.specs.declared.names.TextNames.{TextNames}
use Rattle.lsp_results.specs.declared.page.Page.{Page}
use Rattle.lsp_answers.specs.declared.documents.Document.{Document}
use Rattle.lsp_answers.specs.declared.questions.Question.{Question}
use Rattle.lsp_answers.specs.declared.questions.Question.TheVariants.{Definition, References, Highlights, Hover, Symbols, Target, Rename}
use Rattle.lsp_answers.specs.Questions.{IsToldThere, IsToldAt, IsToldOf, IsAnswer, nothing, by_names, IsAnswerOn}

-- a question that is no rename
pub told_there : (q : Question) (page : Page) (names : TextNames) (ps d : Data) → (q ≡ Rename → ⊥) → IsToldThere q page names ps d → IsToldAt q page names ps d
told_there Definition page names ps d other h = h
told_there References page names ps d other h = h
told_there Highlights page names ps d other h = h
told_there Hover page names ps d other h = h
told_there Symbols page names ps d other h = h
told_there Target page names ps d other h = h
told_there Rename page names ps d other h = absurd (other refl)

-- a question that does not ask for all symbols
pub told_at : (q : Question) (page : Page) (names : TextNames) (ps d : Data) → (q ≡ Symbols → ⊥) → IsToldAt q page names ps d → IsToldOf q page names ps d
told_at Definition page names ps d other h = h
told_at References page names ps d other h = h
told_at Highlights page names ps d other h = h
told_at Hover page names ps d other h = h
told_at Symbols page names ps d other h = absurd (other refl)
told_at Target page names ps d other h = h
told_at Rename page names ps d other h = h

-- what holds of what is there
pub held : {A : Type 0} (P : A → Type 0) (o : Option A) (a : A) → o ≡ Some a → IfSome o P → P a
held {A} P o a is h = subst (λ (x : Option A). IfSome x P) is h

-- what is told of the names of a text is an answer
pub answered_by : {E F : Type 0} (q : Question) (page : Page) (m ps : Data) (names : TextNames) → get (codes "params") m ≡ Some ps
    → AreMeant page.text.now names.meant.items → (r : Result (Result Value F) E)
    → IfOk r (λ a. IfOk a (λ v. IsToldOf q page names ps (view v))) → IfOk r (λ a. IfOk a (λ v. IsAnswer q page m (view v)))
answered_by q page m ps names asked meant (Err e) h = tt
answered_by q page m ps names asked meant (Ok (Err f)) h = tt
answered_by q page m ps names asked meant (Ok (Ok v)) h = by_names ps names asked meant h

-- where a text has no names
pub nothing_by : {F : Type 0} (q : Question) (page : Page) (m : Data) (r : Result Value F) → IfOk r (λ v. view v ≡ null) → IfOk r (λ v. IsAnswer q page m (view v))
nothing_by q page m (Err f) h = tt
nothing_by q page m (Ok v) h = nothing h

-- the page of a document is answered of
pub answered_on : {F : Type 0} (q : Question) (d : Document) (u : counting.ColumnUnit) (m : Data) (page : Page) → page.text.now ≡ d.known
    → page.uri.now ≡ string_bytes d.uri → page.unit ≡ u → (r : Result Value F) → IfOk r (λ v. IsAnswer q page m (view v))
    → IfOk r (λ v. IsAnswerOn q d u m (view v))
answered_on q d u m page t n c (Err f) h = tt
answered_on q d u m page t n c (Ok v) h = record { page = page; text_is = t; uri_is = n; unit_is = c; is_answer = h }

pub all_answered_on : {E F : Type 0} (q : Question) (d : Document) (u : counting.ColumnUnit) (m : Data) (page : Page) → page.text.now ≡ d.known
    → page.uri.now ≡ string_bytes d.uri → page.unit ≡ u → (r : Result (Result Value F) E) → IfOk r (λ a. IfOk a (λ v. IsAnswer q page m (view v)))
    → IfOk r (λ a. IfOk a (λ v. IsAnswerOn q d u m (view v)))
all_answered_on q d u m page t n c (Err e) h = tt
all_answered_on q d u m page t n c (Ok a) h = answered_on q d u m page t n c a h
