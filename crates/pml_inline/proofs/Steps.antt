-- What one turn of the loops over calls does to what has come out.
use Rattle.std.proofs.Common.{◌≡◌, ℕ, ◌+◌, ◌-◌, ◌<◌, ◌≤◌, Bool, true, false, List, [], ◌∷◌, ◌++◌, length, get_or, take, drop, Option, Some, None, ap, sym, subst, ◌∙◌, arith}
use Rattle.std.specs.Prelude.{MatchOption}
use Rattle.std.specs.Bool.{OnTrue}
use Rattle.std.specs.List.{slice_get}
use Rattle.std.proofs.lemmas.Option.{slice_get-get_or}
use Rattle.std.proofs.lemmas.List.{drop-map, drop-drop, drop_more, take_more, take-map, take_rest, length-map, get_or-map, length_push, take_at}
use Rattle.pml_token.specs.declared.token.Kind.TheVariants.{OpenParen, CloseParen}
use Rattle.pml_token.specs.Word.{Word}
use Rattle.profile.specs.declared.TheConstants.{MOST_CALLS, MOST_REPLACED}
use Rattle.promela_text.specs.Inlines.{is_inline, has_inline, closing, Inline, callee, braces_behind}
use Rattle.pml_inline.specs.Expansion.{definitions, Given, join_given, reading, calling, texts, limited}
use Rattle.pml_inline.specs.Places.{no_word, word_at, words_of}
use Rattle.pml_inline.specs.declared.calls.Text.{Text}
use Rattle.pml_inline.specs.Texts.{IsPast, IsRead, inlines, option_inline, read_within, IsReplaced}
use Rattle.pml_inline.specs.Parts.{inline_of}
use Rattle.pml_inline.proofs.Joins.{join-assoc, join-nothing, join-none, join-itself, join-counted, past-more, past-of, past-none, limited-past, limited-within}
use Rattle.pml_inline.proofs.Lists.{word_rest, front_of}
use Rattle.pml_inline.proofs.Reading.{read_token, read_open, read_call, read_end, one_call, text_defined, text_token, text_call, text_end}

-- ---- what the code's values say

pub no_inline : Inline
no_inline = record { name = []; parameters = []; body = []; size = 0 }

-- the inline of a number
pub inline_number : Text → ℕ → Inline
inline_number t n = get_or (inlines t) n no_inline

pub number_is : (t : Text) (n : ℕ) → n < length t.definitions.now → slice_get (inlines t) n ≡ Some (inline_number t n)
unfolding inline_number
number_is t n h = slice_get-get_or (inlines t) n no_inline (let e = length-map t.definitions.now (inline_of t.tokens.now) in omega arith)

pub callee_some : (t : Text) (n : ℕ) (o : Option ℕ) (x : Option Inline) → x ≡ option_inline (inlines t) o → o ≡ Some n → n < length t.definitions.now → x ≡ Some (inline_number t n)
callee_some t n o x e f h = e ∙ ap (option_inline (inlines t)) f ∙ number_is t n h

pub none_of : {X : Type 0} (o : Option X) (P : Type 0) (Q : X → Type 0) → o ≡ None → MatchOption o P Q → P
none_of None P Q e h = h
none_of (Some x) P Q e h = absurd cc

pub some_of : {X : Type 0} (o : Option X) (P : Type 0) (Q : X → Type 0) (x : X) → o ≡ Some x → MatchOption o P Q → Q x
some_of {X} o P Q x e h = subst (λ (p : Option X). MatchOption p P Q) e h

pub at_rest : (ts : List Word) (ps : List ℕ) (k : ℕ) (r : Option ℕ) → r ≡ closing OpenParen CloseParen (words_of ts (take (length ps - k) (drop k ps))) 0 → closing OpenParen CloseParen (words_of ts (drop k ps)) 0 ≡ r
at_rest ts ps k r e = ap (λ (qs : List ℕ). closing OpenParen CloseParen (words_of ts qs) 0) (sym (take_rest ps k)) ∙ sym e

pub at_range : {X : Type 0} (ps : List X) (k m : ℕ) → take (k + m - k) (drop k ps) ≡ take m (drop k ps)
at_range ps k m = let e : k + m - k ≡ m = omega arith in ap (λ (j : ℕ). take j (drop k ps)) e

pub read_done : (b : Bool) (x : Given) (r : Option Given) (y : Given) → b ≡ true → IsRead b x r y → (join_given (Some x) r ≡ Some y) × (y.count ≤ MOST_REPLACED)
read_done true x r y e h = h
read_done false x r y e h = absurd cc

pub read_past : (b : Bool) (x : Given) (r : Option Given) (y : Given) → b ≡ false → IsRead b x r y → IsPast (join_given (Some x) r)
read_past true x r y e h = absurd cc
read_past false x r y e h = h

pub on_true : (b : Bool) (P : Type 0) → b ≡ true → OnTrue b P → P
on_true true P e h = h
on_true false P e h = absurd cc

pub inner : (t : Text) (known : ℕ) (outer active pushed : List ℕ) (number : ℕ) (ps qs : List ℕ) → active ≡ outer → pushed ≡ active ++ number ∷ [] → qs ≡ ps → read_within t known pushed qs ≡ read_within t known (outer ++ number ∷ []) ps
inner t known outer active pushed number ps qs e f g =
    ap (λ (a : List ℕ). read_within t known a qs) (f ∙ ap (λ (a : List ℕ). a ++ number ∷ []) e) ∙ ap (λ (q : List ℕ). read_within t known (outer ++ number ∷ []) q) g

pub replaced_here : (t : Text) (known : ℕ) (outer active : List ℕ) (number k m most : ℕ) (ps places : List ℕ) (d : Inline) → active ≡ outer
    → IsReplaced t known active number (words_of t.tokens.now (take (k + m - k) (drop k ps))) most places d → IsReplaced t known outer number (words_of t.tokens.now (take m (drop k ps))) most places d
replaced_here t known outer active number k m most ps places d e h =
    subst (λ (qs : List ℕ). IsReplaced t known outer number (words_of t.tokens.now qs) most places d) (at_range ps k m)
    (subst (λ (a : List ℕ). IsReplaced t known a number (words_of t.tokens.now (take (k + m - k) (drop k ps))) most places d) e h)

pub popped : (outer active pushed read after : List ℕ) (number n : ℕ) → active ≡ outer → pushed ≡ active ++ number ∷ [] → read ≡ pushed → n ≡ length read → after ≡ take (n - 1) read → after ≡ outer
popped outer active pushed read after number n e f g l h =
    let is : read ≡ outer ++ number ∷ [] = g ∙ f ∙ ap (λ (a : List ℕ). a ++ number ∷ []) e in
    let len : length outer ≡ n - 1 = let k : n ≡ length (outer ++ number ∷ []) = l ∙ ap length is in omega (arith, length_push outer number) in
    h ∙ ap (take (n - 1)) is ∙ take_at outer (number ∷ []) (n - 1) len

pub past-along : (r s : Option Given) → r ≡ s → IsPast r → IsPast s
past-along r s e p g f = p g (e ∙ f)

-- a call in front of the rest, whose replacement counts k and leads to `inner`
call_then : (ts : List Word) (n k : ℕ) (c inner rest : Option Given) → c ≡ join_given (Some (record { tokens = []; count = k })) inner
    → join_given (Some (record { tokens = ts; count = n })) (join_given c rest) ≡ join_given (join_given (Some (record { tokens = ts; count = n + k })) inner) rest
call_then ts n k c inner rest e =
    ap (λ (x : Option Given). join_given (Some (record { tokens = ts; count = n })) (join_given x rest)) e
    ∙ sym (join-assoc (Some (record { tokens = ts; count = n })) (join_given (Some (record { tokens = []; count = k })) inner) rest)
    ∙ ap (λ (x : Option Given). join_given x rest) (join-counted ts n k inner)

module _ (known : List Inline) (call : Inline → List Word → Option Given) (ts : List Word) (ps : List ℕ) (at : ℕ) (h : at < length ps) (gs : List Word) (n : ℕ) where
  abbrev now : Option Given
  now = Some (record { tokens = gs; count = n })

  abbrev left : ℕ → Option Given
  left i = reading known call (words_of ts (drop i ps)) 0

  abbrev here : Word
  here = word_at ts (get_or ps at 0)

  abbrev behind : List Word
  behind = words_of ts (drop (at + 1) ps)

  abbrev inside : List Word
  inside = words_of ts (drop (at + 2) ps)

  pub after_token : (us : List Word) → callee known here behind ≡ None → us ≡ gs ++ here ∷ [] → join_given (Some (record { tokens = us; count = n })) (left (at + 1)) ≡ join_given now (left at)
  after_token us e f = join-itself gs us n here (left (at + 1)) f ∙ ap (join_given now) (sym (read_token known call ts ps at h e))

  pub past_open : (d : Inline) → callee known here behind ≡ Some d → closing OpenParen CloseParen inside 0 ≡ None → IsPast (join_given now (left at))
  past_open d e f = past-none (join_given now (left at)) (ap (join_given now) (read_open known call ts ps at h d e f))

  pub past_replacement : (d : Inline) (m most : ℕ) → callee known here behind ≡ Some d → closing OpenParen CloseParen inside 0 ≡ Some m → n + most ≡ MOST_REPLACED
      → ((g : Given) → call d (words_of ts (take m (drop (at + 2) ps))) ≡ Some g → most < g.count) → IsPast (join_given now (left at))
  past_replacement d m most e f room p =
      past-along (join_given now (join_given (call d (words_of ts (take m (drop (at + 2) ps)))) (left (at + (m + 3))))) (join_given now (left at)) (ap (join_given now) (sym (read_call known call ts ps at h d m e f)))
      (past-of (record { tokens = gs; count = n }) (call d (words_of ts (take m (drop (at + 2) ps)))) (left (at + (m + 3))) most room p)

  call_is : (d : Inline) (m k : ℕ) (inner : Option Given) → callee known here behind ≡ Some d → closing OpenParen CloseParen inside 0 ≡ Some m
      → call d (words_of ts (take m (drop (at + 2) ps))) ≡ join_given (Some (record { tokens = []; count = k })) inner
      → join_given now (left at) ≡ join_given (join_given (Some (record { tokens = gs; count = n + k })) inner) (left (at + (m + 3)))
  call_is d m k inner e f c = ap (join_given now) (read_call known call ts ps at h d m e f) ∙ call_then gs n k (call d (words_of ts (take m (drop (at + 2) ps)))) inner (left (at + (m + 3))) c

  pub past_inside : (d : Inline) (m k : ℕ) (inner : Option Given) → callee known here behind ≡ Some d → closing OpenParen CloseParen inside 0 ≡ Some m
      → call d (words_of ts (take m (drop (at + 2) ps))) ≡ join_given (Some (record { tokens = []; count = k })) inner
      → IsPast (join_given (Some (record { tokens = gs; count = n + k })) inner) → IsPast (join_given now (left at))
  past_inside d m k inner e f c p =
      past-along (join_given (join_given (Some (record { tokens = gs; count = n + k })) inner) (left (at + (m + 3)))) (join_given now (left at)) (sym (call_is d m k inner e f c))
      (past-more (join_given (Some (record { tokens = gs; count = n + k })) inner) (left (at + (m + 3))) p)

  pub after_call : (d : Inline) (m k : ℕ) (inner : Option Given) (new : Given) → callee known here behind ≡ Some d → closing OpenParen CloseParen inside 0 ≡ Some m
      → call d (words_of ts (take m (drop (at + 2) ps))) ≡ join_given (Some (record { tokens = []; count = k })) inner
      → join_given (Some (record { tokens = gs; count = n + k })) inner ≡ Some new → join_given (Some new) (left (at + (m + 3))) ≡ join_given now (left at)
  after_call d m k inner new e f c g = ap (λ (x : Option Given). join_given x (left (at + (m + 3)))) (sym g) ∙ sym (call_is d m k inner e f c)

pub read_all : (known : List Inline) (call : Inline → List Word → Option Given) (ts : List Word) (ps : List ℕ) (at : ℕ) (now : Given) (r : Option Given) → length ps ≤ at
    → join_given (Some now) (reading known call (words_of ts (drop at ps)) 0) ≡ r → r ≡ Some now
read_all known call ts ps at now r h e = sym e ∙ ap (join_given (Some now)) (read_end known call ts ps at h) ∙ join-nothing (Some now)

-- ---- a text

pub misread_none : (now : Option Given) (left r : Option Given) → join_given now left ≡ r → left ≡ None → limited r ≡ None
misread_none now left r e f = ap limited (sym e ∙ ap (join_given now) f ∙ join-none now)

pub misread_past : (r : Option Given) (s : Option Given) → s ≡ r → IsPast s → limited r ≡ None
misread_past r s e p = limited-past r (past-along s r e p)

pub text_all : (ts : List Word) (known ds : List Inline) (b at : ℕ) (now : Given) (r : Option Given) → length ts ≤ at → join_given (Some now) (texts (drop at ts) known ds b 0) ≡ r → now.count ≤ MOST_REPLACED → limited r ≡ Some now.tokens
text_all ts known ds b at now r h e le = limited-within r now (sym e ∙ ap (join_given (Some now)) (text_end ts known ds b at h) ∙ join-nothing (Some now)) le

module _ (ts : List Word) (known ds : List Inline) (b at : ℕ) (h : at < length ts) (gs : List Word) (n : ℕ) where
  abbrev text_now : Option Given
  text_now = Some (record { tokens = gs; count = n })

  abbrev text_left : Option Given
  text_left = texts (drop at ts) known ds b 0

  abbrev word : Word
  word = word_at ts at

  abbrev rest : List Word
  rest = drop (at + 1) ts

  pub text_after_token : (us : List Word) → is_inline word ≡ false → callee known word rest ≡ None → us ≡ gs ++ word ∷ [] → join_given (Some (record { tokens = us; count = n })) (texts rest known ds (braces_behind b word) 0) ≡ join_given text_now text_left
  text_after_token us i e f = join-itself gs us n word (texts rest known ds (braces_behind b word) 0) f ∙ ap (join_given text_now) (sym (text_token ts known ds b at h i e))

  -- the call alone, as it is read
  alone : (d : Inline) (m : ℕ) → callee known word rest ≡ Some d → closing OpenParen CloseParen (drop (at + 2) ts) 0 ≡ Some m
      → reading known (calling known MOST_CALLS []) (take (m + 3) (drop at ts)) 0 ≡ calling known MOST_CALLS [] d (take m (drop (at + 2) ts))
  alone d m e f =
      let k : at + 1 + 1 ≡ at + 2 = omega arith in
      let two : drop 1 rest ≡ drop (at + 2) ts = drop-drop 1 (at + 1) ts ∙ ap (λ (j : ℕ). drop j ts) k in
      ap (λ (ws : List Word). reading known (calling known MOST_CALLS []) (take (m + 3) ws) 0) (word_rest ts at h)
      ∙ one_call known (calling known MOST_CALLS []) word rest d m e (ap (λ (ws : List Word). closing OpenParen CloseParen ws 0) two ∙ f)
      ∙ ap (λ (ws : List Word). calling known MOST_CALLS [] d (take m ws)) two

  text_call_is : (d : Inline) (m : ℕ) → is_inline word ≡ false → callee known word rest ≡ Some d → closing OpenParen CloseParen (drop (at + 2) ts) 0 ≡ Some m → has_inline (take m (drop (at + 2) ts)) ≡ false
      → join_given text_now text_left ≡ join_given (join_given text_now (reading known (calling known MOST_CALLS []) (take (m + 3) (drop at ts)) 0)) (texts (drop (at + 3 + m) ts) known ds b 0)
  text_call_is d m i e f g =
      ap (join_given text_now) (text_call ts known ds b at h d m i e f g)
      ∙ ap (λ (x : Option Given). join_given text_now (join_given x (texts (drop (at + 3 + m) ts) known ds b 0))) (sym (alone d m e f))
      ∙ sym (join-assoc text_now (reading known (calling known MOST_CALLS []) (take (m + 3) (drop at ts)) 0) (texts (drop (at + 3 + m) ts) known ds b 0))

  pub text_past_call : (d : Inline) (m : ℕ) → is_inline word ≡ false → callee known word rest ≡ Some d → closing OpenParen CloseParen (drop (at + 2) ts) 0 ≡ Some m → has_inline (take m (drop (at + 2) ts)) ≡ false
      → IsPast (join_given text_now (reading known (calling known MOST_CALLS []) (take (m + 3) (drop at ts)) 0)) → IsPast (join_given text_now text_left)
  text_past_call d m i e f g p =
      past-along (join_given (join_given text_now (reading known (calling known MOST_CALLS []) (take (m + 3) (drop at ts)) 0)) (texts (drop (at + 3 + m) ts) known ds b 0)) (join_given text_now text_left) (sym (text_call_is d m i e f g))
      (past-more (join_given text_now (reading known (calling known MOST_CALLS []) (take (m + 3) (drop at ts)) 0)) (texts (drop (at + 3 + m) ts) known ds b 0) p)

  pub text_after_call : (d : Inline) (m : ℕ) (new : Given) → is_inline word ≡ false → callee known word rest ≡ Some d → closing OpenParen CloseParen (drop (at + 2) ts) 0 ≡ Some m → has_inline (take m (drop (at + 2) ts)) ≡ false
      → join_given text_now (reading known (calling known MOST_CALLS []) (take (m + 3) (drop at ts)) 0) ≡ Some new → join_given (Some new) (texts (drop (at + 3 + m) ts) known ds b 0) ≡ join_given text_now text_left
  text_after_call d m new i e f g r = ap (λ (x : Option Given). join_given x (texts (drop (at + 3 + m) ts) known ds b 0)) (sym r) ∙ sym (text_call_is d m i e f g)

-- ---- a text by its places

whole_here : (ts : List Word) (ps : List ℕ) (at : ℕ) → words_of ts ps ≡ ts → at < length ps → word_at ts (get_or ps at 0) ≡ word_at ts at
whole_here ts ps at e h = sym (get_or-map (word_at ts) ps at 0 no_word h) ∙ ap (λ (ws : List Word). get_or ws at no_word) e

whole_rest : (ts : List Word) (ps : List ℕ) (k : ℕ) → words_of ts ps ≡ ts → words_of ts (drop k ps) ≡ drop k ts
whole_rest ts ps k e = sym (drop-map (word_at ts) k ps) ∙ ap (drop k) e

pub whole_length : (ts : List Word) (ps : List ℕ) → words_of ts ps ≡ ts → length ps ≡ length ts
whole_length ts ps e = sym (length-map ps (word_at ts)) ∙ ap length e

pub whole_callee : (known : List Inline) (ts : List Word) (ps : List ℕ) (at : ℕ) (o : Option Inline) → words_of ts ps ≡ ts → at < length ts → callee known (word_at ts (get_or ps at 0)) (words_of ts (drop (at + 1) ps)) ≡ o → callee known (word_at ts at) (drop (at + 1) ts) ≡ o
whole_callee known ts ps at o e h f =
    let len = whole_length ts ps e in
    ap (λ (w : Word). callee known w (drop (at + 1) ts)) (sym (whole_here ts ps at e (omega arith))) ∙ ap (callee known (word_at ts (get_or ps at 0))) (sym (whole_rest ts ps (at + 1) e)) ∙ f

pub whole_closing : (ts : List Word) (ps : List ℕ) (k : ℕ) (r : Option ℕ) → words_of ts ps ≡ ts → r ≡ closing OpenParen CloseParen (words_of ts (take (length ps - k) (drop k ps))) 0 → closing OpenParen CloseParen (drop k ts) 0 ≡ r
whole_closing ts ps k r e f = ap (λ (ws : List Word). closing OpenParen CloseParen ws 0) (sym (whole_rest ts ps k e)) ∙ at_rest ts ps k r f

whole_call : (ts : List Word) (ps : List ℕ) (at m : ℕ) → words_of ts ps ≡ ts → words_of ts (take (at + 3 + m - at) (drop at ps)) ≡ take (m + 3) (drop at ts)
whole_call ts ps at m e =
    let k : at + 3 + m - at ≡ m + 3 = omega arith in
    ap (λ (j : ℕ). words_of ts (take j (drop at ps))) k ∙ sym (take-map (word_at ts) (m + 3) (drop at ps)) ∙ ap (take (m + 3)) (whole_rest ts ps at e)

pub read_alone : (t : Text) (known : ℕ) (active : List ℕ) (at m : ℕ) → active ≡ [] → words_of t.tokens.now t.places.now ≡ t.tokens.now
    → read_within t known active (take (at + 3 + m - at) (drop at t.places.now)) ≡ reading (take known (inlines t)) (calling (take known (inlines t)) MOST_CALLS []) (take (m + 3) (drop at t.tokens.now)) 0
read_alone t known active at m e f =
    ap (λ (a : List ℕ). read_within t known a (take (at + 3 + m - at) (drop at t.places.now))) e
    ∙ ap (λ (ws : List Word). reading (take known (inlines t)) (calling (take known (inlines t)) MOST_CALLS []) ws 0) (whole_call t.tokens.now t.places.now at m f)

-- a definition is passed over
pub definition_step : (ts : List Word) (ds : List Inline) (known b at size : ℕ) (e : Inline) → at < length ts → is_inline (word_at ts at) ≡ true → b ≤ 0 → known < length ds → (get_or ds known e).size ≡ size → definitions (drop at ts) 0 ≡ Some (drop known ds)
    → (texts (drop (at + (1 + size)) ts) (take (known + 1) ds) (drop (known + 1) ds) b 0 ≡ texts (drop at ts) (take known ds) (drop known ds) b 0) × (definitions (drop (at + (1 + size)) ts) 0 ≡ Some (drop (known + 1) ds))
definition_step ts ds known b at size e h i none lt is def =
    let d : Inline = get_or ds known e in
    let z : b ≡ 0 = omega arith in
    let front : drop known ds ≡ d ∷ drop (known + 1) ds = drop_more ds known e lt in
    let one = text_defined ts (take known ds) (drop known ds) b at h d (drop (known + 1) ds) i z front in (
      ap (λ (n : ℕ). texts (drop (at + (1 + n)) ts) (take (known + 1) ds) (drop (known + 1) ds) b 0) (sym is)
          ∙ ap (λ (xs : List Inline). texts (drop (at + (1 + d.size)) ts) xs (drop (known + 1) ds) b 0) (take_more ds known e lt)
          ∙ ap (λ (n : ℕ). texts (drop (at + (1 + d.size)) ts) (take known ds ++ d ∷ []) (drop (known + 1) ds) n 0) z ∙ sym one,
      ap (λ (n : ℕ). definitions (drop (at + (1 + n)) ts) 0) (sym is) ∙ front_of ts at d (drop (known + 1) ds) h i (def ∙ ap Some front),
    )
