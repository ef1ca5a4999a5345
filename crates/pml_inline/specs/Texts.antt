-- What the code does to a text, step by step. No clause of a public function cites this.
use Rattle.std.specs.Prelude.{◌≡◌, ◌<◌, ◌≤◌, ◌+◌, ◌-◌, ℕ, Bool, true, false, nat_lt, if◌then◌else◌, List, [], ◌∷◌, ◌++◌, length, take, drop, map, All, Option, Some, None, MatchOption, slice_index_or, Result, IfOk}
use Rattle.std.specs.List.{slice_get}
use Rattle.pml_token.specs.Word.{Word}
use Rattle.profile.specs.declared.TheConstants.{MOST_CALLS, MOST_REPLACED}
use Rattle.pml_inline.specs.declared.calls.Text.{Text}
use Rattle.pml_inline.specs.declared.calls.Given as code
use Rattle.promela_text.specs.declared.inline_fault.InlineError.{InlineError}
use Rattle.promela_text.specs.declared.inline_fault.InlineError.TheVariants.{Memory, Inline as Misused, TooDeep}
use Rattle.promela_text.specs.Inlines.{is_inline, Inline, all_differ, callee}
use Rattle.pml_inline.specs.Expansion.{definitions, Given, join_given, calling, reading, texts, limited}
use Rattle.pml_inline.specs.Places.{word_at, words_of}
use Rattle.pml_inline.specs.Parts.{inlines_of, AreAllMarked, AreShort, number_of}

abbrev pub inlines : Text → List Inline
inlines t = inlines_of t.tokens.now t.definitions.now

-- what is kept of a text is right
pub record IsText (t : Text) : Type 0 where
  pub whole : words_of t.tokens.now t.places.now ≡ t.tokens.now
  pub marked : AreAllMarked t.tokens.now t.definitions.now
  pub short : AreShort t.tokens.now t.definitions.now
  pub apart : all_differ (map (λ d. d.name) (inlines t)) ≡ true
  pub called : t.callees.now ≡ map (number_of (inlines t)) t.tokens.now

abbrev pub option_inline : List Inline → Option ℕ → Option Inline
option_inline ds None = None
option_inline ds (Some n) = slice_get ds n

-- the number, if it is one of the first `known`
abbrev pub below : ℕ → Option ℕ → Option ℕ
below known None = None
below known (Some n) = if nat_lt n known then Some n else None

abbrev pub name_of : Option Inline → List ℕ
name_of None = []
name_of (Some d) = d.name

-- the names of the calls around
abbrev pub around : List Inline → List ℕ → List (List ℕ)
around ds active = map (λ n. name_of (slice_get ds n)) active

abbrev pub AreNumbers : Text → List ℕ → Type 0
AreNumbers t active = All (λ n. n < length t.definitions.now) active

-- a call of a definition within these calls
abbrev pub call_within : Text → ℕ → List ℕ → Inline → List Word → Option Given
call_within t known active d inside = calling (take known (inlines t)) (MOST_CALLS - length active) (around (inlines t) active) d inside

abbrev pub read_within : Text → ℕ → List ℕ → List ℕ → Option Given
read_within t known active places = reading (take known (inlines t)) (call_within t known active) (words_of t.tokens.now places) 0

-- more tokens than all replacements may have
abbrev pub IsPast : Option Given → Type 0
IsPast r = (g : Given) → r ≡ Some g → MOST_REPLACED < g.count

-- from `before` to `after`, by what comes out
abbrev pub IsRead : Bool → Given → Option Given → Given → Type 0
IsRead true before r after = (join_given (Some before) r ≡ Some after) × (after.count ≤ MOST_REPLACED)
IsRead false before r after = IsPast (join_given (Some before) r)

abbrev pub given_of : code.Given → Given
given_of g = record { tokens = g.tokens.items; count = g.count }

-- a replacement of a call
pub record IsReplaced (t : Text) (known : ℕ) (active : List ℕ) (number : ℕ) (inside : List Word) (most : ℕ) (places : List ℕ) (d : Inline) : Type 0 where
  pub room : length active < MOST_CALLS
  pub few : length places ≤ most
  pub is : call_within t known active d inside ≡ join_given (Some (record { tokens = []; count = length places })) (read_within t known (active ++ number ∷ []) places)

-- there is none
abbrev pub IsNotReplaced : Text → ℕ → List ℕ → List Word → ℕ → Inline → Type 0
IsNotReplaced t known active inside most d = (g : Given) → call_within t known active d inside ≡ Some g → most < g.count

-- what comes out of a text from a place on, behind what came out before
abbrev pub text_from : Text → ℕ → ℕ → Given → ℕ → Option Given
text_from t known at before braces = join_given (Some before) (texts (drop at t.tokens.now) (take known (inlines t)) (drop known (inlines t)) braces 0)

-- a call of one of the first `known` stands there
pub record IsCall (t : Text) (known at : ℕ) : Type 0 where
  pub plain : is_inline (word_at t.tokens.now at) ≡ false
  pub called : Inline
  pub is : callee (take known (inlines t)) (word_at t.tokens.now at) (drop (at + 1) t.tokens.now) ≡ Some called
  pub within : at + 1 < length t.tokens.now

-- it is not right
abbrev pub IsWrongCall : Text → ℕ → ℕ → Given → Type 0
IsWrongCall t known at before = (braces : ℕ) → limited (text_from t known at before braces) ≡ None

-- it ends before this place, and this came out by it
pub record IsReadCall (t : Text) (known at : ℕ) (before after : Given) (end : ℕ) : Type 0 where
  pub here : (braces : ℕ) → text_from t known end after braces ≡ text_from t known at before braces
  pub defined : definitions (drop end t.tokens.now) 0 ≡ definitions (drop at t.tokens.now) 0
  pub few : after.count ≤ MOST_REPLACED
  pub on : at < end

abbrev pub IsMisread : Option Given → InlineError → Type 0
IsMisread r Memory = Unit {0}
IsMisread r (Misused misuse) = limited r ≡ None
IsMisread r (TooDeep line limit) = ⊥

-- the name at a place calls this definition, one of the first `known`, or none
abbrev pub IsCalled : Text → ℕ → List ℕ → ℕ → Option ℕ → Type 0
IsCalled t known places at found =
    callee (take known (inlines t)) (word_at t.tokens.now (slice_index_or places at 0)) (words_of t.tokens.now (drop (at + 1) places)) ≡ option_inline (inlines t) found

-- the definition of this number
abbrev pub IsDefined : Text → ℕ → Inline → Type 0
IsDefined t number d = slice_get (inlines t) number ≡ Some d

-- a call is replaced by these places, or by none
abbrev pub Replaces : {V : Type 0} → (V → List ℕ) → Text → ℕ → List ℕ → ℕ → List Word → ℕ → Inline → Option V → Type 0
Replaces places t known active number inside most d found =
    MatchOption found (IsNotReplaced t known active inside most d) (λ v. IsReplaced t known active number inside most (places v) d)

-- whatever definition it is, and whichever are known, the call of it is replaced so, where memory is not refused
abbrev pub AnswersCall : {V E : Type 0} → (V → List ℕ) → Text → List ℕ → ℕ → List ℕ → ℕ → Result (Option V) E → Type 0
AnswersCall places t active number inside most r = (known : ℕ) (d : Inline) → IsDefined t number d → IfOk r (Replaces places t known active number (words_of t.tokens.now inside) most d)

-- a call outside all others is read up to this place, or is wrong
abbrev pub ReadsCall : Text → ℕ → ℕ → Given → Given → Option ℕ → Type 0
ReadsCall t known at before after found = MatchOption found (IsWrongCall t known at before) (IsReadCall t known at before after)
