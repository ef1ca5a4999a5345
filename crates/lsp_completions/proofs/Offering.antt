-- Texts whose names are known, and what is offered in them.
use Rattle.std.proofs.Common.{rules, ◌≡◌, ◌∙◌, ap, subst, ℕ, List, length, take, Option, Some, None, IfOk, IfSome, Ok, Err}
use Rattle.std.specs.Prelude.{Result, map, filter}
use Rattle.serde_json.specs.Data.{Data, null}
use Rattle.serde_json.specs.View.{view}
use Rattle.serde_json.specs.declared.value.Value.{Value, Null, the_lemmas}
use Rattle.pml_token.specs.Word.{Word}
use Rattle.explain_tokens.specs.Placed.{ArePlaced}
use Rattle.lsp_results.specs.declared.page.Page.{Page}
use Rattle.offered_names.specs.Asked.{asked_behind}
use Rattle.offered_names.specs.Standing.{stands, nowhere}
use Rattle.offered_names.specs.Gaps.{gap_start, gap_end, mended}
use Rattle.lsp_completions.specs.declared.readable.Readable.{Readable}
use Rattle.lsp_completions.specs.declared.wishes.TypedPlace.{TypedPlace}
use Rattle.lsp_completions.specs.Items.{AreWords, word_of, begins_so}
use Rattle.lsp_completions.specs.Fronts.{typed_in, before_typed}
use Rattle.lsp_completions.specs.Readables.{IsLengthBehind, IsOf, IsReadable, cut, without}
use Rattle.lsp_completions.specs.Wishes.{IsList, IsCompletion, offered_there}

pub null_view : view Null ≡ null
null_view = search (rules, the_lemmas)

-- words of the language that begin as typed
pub words_by : {L E : Type 0} (typed : List ℕ) (ws : List (List ℕ)) (told : L → List Data) (r : Result L E)
    → IfOk r (λ l. told l ≡ map word_of (filter (begins_so typed) ws)) → IfOk r (λ l. AreWords typed (told l))
words_by typed ws told (Err e) h = tt
words_by typed ws told (Ok l) h = record { words = ws; are = h }

-- a rest that can be cut into tokens
pub cut_by : (rest : List ℕ) (n : ℕ) (ts us : List Word) → ArePlaced rest ts → us ≡ ts → n ≡ gap_end (length rest) us → IsLengthBehind rest n
cut_by rest n ts us p s is = cut ts p (is ∙ ap (gap_end (length rest)) s)

-- a text without a statement
pub without_by : {E : Type 0} (text us : List ℕ) (ws : List Word) (at from to : ℕ) (r : Result (Option Readable) E) → from ≡ gap_start 0 ws
    → us ≡ mended text from to → IfOk r (λ o. IfSome o (IsOf us from)) → IfOk r (λ o. IfSome o (IsReadable text ws at))
without_by text us ws at from to (Err e) f m h = tt
without_by text us ws at from to (Ok None) f m h = tt
without_by text us ws at from to (Ok (Some r)) f m h =
    without to (subst (λ (n : ℕ). IsOf (mended text n to) n r) f (subst (λ (t : List ℕ). IsOf t from r) m h))

-- what is offered behind tokens
pub offered_by : {E : Type 0} (page : Page) (at : ℕ) (front : List ℕ) (ts us vs ws : List Word) (found : Option Readable) (place : TypedPlace) (r : Result Value E)
    → front ≡ take at page.text.now → ArePlaced front ts → us ≡ ts → vs ≡ ts → ws ≡ before_typed at us → IfSome found (IsReadable page.text.now ws at)
    → place.typed.now ≡ typed_in at vs → place.asked ≡ asked_behind ws → place.standing ≡ stands nowhere ws
    → IfOk r (λ v. IsList found place ws (view v)) → IfOk r (λ v. IsCompletion page at (view v))
offered_by page at front ts us vs ws found place (Err e) f p s t b q n a d h = tt
offered_by page at front ts us vs ws found place (Ok v) f p s t b q n a d h =
    let e : ws ≡ before_typed at ts = b ∙ ap (before_typed at) s in
    offered_there ts
    record {
      placed = subst (λ (x : List ℕ). ArePlaced x ts) f p;
      place = place;
      is_place = record { typed = n ∙ ap (typed_in at) t; asked = a ∙ ap asked_behind e; standing = d ∙ ap (stands nowhere) e };
      readable = found;
      is_readable = subst (λ (x : List Word). IfSome found (IsReadable page.text.now x at)) e q;
      list = subst (λ (x : List Word). IsList found place x (view v)) e h;
    }
