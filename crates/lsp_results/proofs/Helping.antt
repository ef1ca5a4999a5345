-- What is told of calls.
use Rattle.std.proofs.Common.{rules, ◌≡◌, ◌∙◌, ◌-◌, sym, ap, subst, arith, ℕ, List, take, Some, None, IfOk, Ok, Err}
use Rattle.std.specs.Prelude.{Result}
use Rattle.serde_json.specs.Data.{Data, null}
use Rattle.serde_json.specs.View.{view}
use Rattle.serde_json.specs.declared.value.Value.{Value, Null, the_lemmas}
use Rattle.pml_token.specs.Word.{Word}
use Rattle.pml_lex.specs.declared.fault.LexError.{LexError}
use Rattle.explain_tokens.specs.Placed.{ArePlaced, IsUnplaced}
use Rattle.lsp_results.specs.declared.page.Page.{Page}
use Rattle.text_parts.specs.declared.calls.PartialCall.{PartialCall}
use Rattle.text_parts.specs.Calls.{call_around}
use Rattle.text_parts.specs.Definitions.{word_of, definition}
use Rattle.lsp_results.specs.Help.{name_in, help_by, IsOfCall, defined, IsHelp, unknown, nowhere, of_call}

pub null_view : view Null ≡ null
null_view = search (rules, the_lemmas)

-- the bytes from the first to a place
pub before_place : (n : ℕ) (text part : List ℕ) → part ≡ take (n - 0) text → part ≡ take n text
before_place n text part h = let e : n - 0 ≡ n = omega arith in subst (λ (m : ℕ). part ≡ take m text) e h

pub defined_by : {E : Type 0} (page : Page) (c : PartialCall) (n : List ℕ) (ts us ds : List Word) (r : Result Value E) → ArePlaced page.text.now ts → us ≡ ts
    → n ≡ name_in page c → ds ≡ definition (word_of c) n us → IfOk r (λ v. view v ≡ help_by page c.commas ds) → IfOk r (λ v. IsOfCall page c (view v))
defined_by page c n ts us ds (Err e) placed same is_name is h = tt
defined_by page c n ts us ds (Ok v) placed same is_name is h =
    let e : ds ≡ definition (word_of c) (name_in page c) ts =
    is ∙ ap (definition (word_of c) n) same ∙ ap (λ (x : List ℕ). definition (word_of c) x ts) is_name in
    defined ts placed (h ∙ ap (help_by page c.commas) e)

pub unknown_by : (page : Page) (at : ℕ) (front : List ℕ) (why : LexError) (d : Data) → front ≡ take (at - 0) page.text.now → IsUnplaced front why → d ≡ null
    → IsHelp page at d
unknown_by page at front why d is h nothing =
    unknown why (subst (λ (x : List ℕ). IsUnplaced x why) (before_place at page.text.now front is) h) nothing

pub nowhere_by : (page : Page) (at : ℕ) (front : List ℕ) (ts us : List Word) (d : Data) → front ≡ take (at - 0) page.text.now → ArePlaced front ts → us ≡ ts
    → None ≡ call_around us → d ≡ null → IsHelp page at d
nowhere_by page at front ts us d is placed same none nothing =
    nowhere ts (subst (λ (x : List ℕ). ArePlaced x ts) (before_place at page.text.now front is) placed) (sym (none ∙ ap call_around same)) nothing

pub called_by : {E : Type 0} (page : Page) (at : ℕ) (front : List ℕ) (ts us : List Word) (c : PartialCall) (r : Result Value E) → front ≡ take (at - 0) page.text.now
    → ArePlaced front ts → us ≡ ts → Some c ≡ call_around us → IfOk r (λ v. IsOfCall page c (view v)) → IfOk r (λ v. IsHelp page at (view v))
called_by page at front ts us c (Err e) is placed same found h = tt
called_by page at front ts us c (Ok v) is placed same found h =
    of_call ts c (subst (λ (x : List ℕ). ArePlaced x ts) (before_place at page.text.now front is) placed) (sym (found ∙ ap call_around same)) h
