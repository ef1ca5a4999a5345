-- The line of an end, and what led there.
use Rattle.std.proofs.Common.{◌≡◌, ◌∙◌, ap, sym, refl, ℕ, Bool, true, false, if◌then◌else◌, List, [], ◌∷◌, ◌++◌, length, append_assoc, codes, Option, Some, None}
use Rattle.std.specs.List.{flat_map, range_with_len}
use Rattle.json.specs.Token.{Token, end_object, key, string}
use Rattle.json.specs.Print.{print, print_from, escape_byte, ends, ends_value, ArePrintable}
use Rattle.json.proofs.Printed.Tokens.{tokens-print, print_from-append}
use Rattle.promela_run.specs.World.{move_text}
use Rattle.promela_run.specs.State.{State}
use Rattle.promela_run.specs.declared.moves.Move.{Move}
use Rattle.view_text.specs.Written.{Written, Adds}
use Rattle.view_text.proofs.Writing.{none}
use Rattle.view_json.specs.Objects.{member, count, text, array}
use Rattle.view_json.specs.Lines.{line, ReadsBack, begun, ended, stuck_where, stuck, open_moves, texts}
use Rattle.view_json.specs.Choices.{Effect, choices, told_choices}
use Rattle.view_json.specs.Added.{told_past, AddsPast}
use Rattle.view_json.proofs.Listed.{ends_from, array_ends, nothing}
use Rattle.view_json.proofs.Stepped.{ends_append, brace_printable}
use Rattle.view_json.proofs.Printable.{none_printable, one_printable, both_printable}

-- ---- what led there

pub past_text : (ts : List Token) → codes ",\"past\":" ++ print ts ≡ print_from true (told_past (Some ts))
unfolding print_from escape_byte
past_text ts = refl

pub past_printable : (ts : List Token) → ArePrintable ts → ArePrintable (told_past (Some ts))
past_printable ts all = one_printable (key (codes "past")) ts tt all

pub no_past : (a : Written) → AddsPast a a
no_past a = (None, record { stays = λ r. r; added = λ calm. nothing_more calm }, λ calm. none_printable)
  where
    nothing_more : a.refused ≡ false → a.text ≡ a.text ++ print_from true []
    nothing_more calm = (none a).added calm ∙ ap (λ (l : List ℕ). a.text ++ l) (sym (nothing true))

-- ---- the line

brace : (c : Bool) → codes "}\n" ≡ print_from c (end_object ∷ []) ++ codes "\n"
unfolding print_from
brace true = refl
brace false = refl

-- a line of what ends a value, more behind it, and its end
pub ended_line : (first more : List Token) → ends_value first ≡ true
    → print first ++ (print_from true more ++ codes "}\n") ≡ line (first ++ (more ++ end_object ∷ []))
ended_line first more is =
    ap (λ (l : List ℕ). print first ++ (print_from true more ++ l)) (brace (ends_from true more))
    ∙ ap (λ (l : List ℕ). print first ++ l)
    (sym (append_assoc (print_from true more) (print_from (ends_from true more) (end_object ∷ [])) (codes "\n"))
    ∙ ap (λ (l : List ℕ). l ++ codes "\n") (sym (print_from-append true more (end_object ∷ []))))
    ∙ sym (append_assoc (print first) (print_from true (more ++ end_object ∷ [])) (codes "\n"))
    ∙ ap (λ (l : List ℕ). l ++ codes "\n")
    (ap (λ (b : Bool). print first ++ print_from b (more ++ end_object ∷ [])) (sym is) ∙ sym (print_from-append false first (more ++ end_object ∷ [])))

stuck_ends : (s : State) (own : Bool) → ends_from true (stuck_where s own) ≡ true
stuck_ends s true = array_ends true (codes "at") (flat_map (stuck s) (range_with_len 0 (length s.stands)))
stuck_ends s false = refl

moves_end : (s : State) (ms : List Move) → ends_from true (open_moves s ms) ≡ true
moves_end s [] = refl
moves_end s (m ∷ ms) = array_ends true (codes "moves") (flat_map (λ n. text (move_text s n)) (m ∷ ms))

told_end : (is : Bool) (s : State) (ms : List Move) (xs : List Effect) → ends_from true (told_choices is s ms xs) ≡ true
told_end true s ms xs = array_ends true (codes "choices") (choices s ms xs)
told_end false s ms xs = refl

-- what stands before what led there ends a value
pub before_past : (s : State) (steps : ℕ) (end : List ℕ) (own is : Bool) (ms : List Move) (xs : List Effect)
    → ends_value (ended steps end ++ (stuck_where s own ++ (open_moves s ms ++ told_choices is s ms xs))) ≡ true
before_past s steps end own is ms xs =
    ends_append true (stuck_where s own) (open_moves s ms ++ told_choices is s ms xs)
    ∙ ap (λ (c : Bool). ends_from c (open_moves s ms ++ told_choices is s ms xs)) (stuck_ends s own)
    ∙ ends_append true (open_moves s ms) (told_choices is s ms xs) ∙ ap (λ (c : Bool). ends_from c (told_choices is s ms xs)) (moves_end s ms)
    ∙ told_end is s ms xs

-- its parts one behind another
pub regrouped : (a b c d e f : List Token) → (a ++ (b ++ (c ++ d))) ++ (e ++ f) ≡ a ++ (b ++ (c ++ ((d ++ e) ++ f)))
regrouped a b c d e f =
    append_assoc a (b ++ (c ++ d)) (e ++ f)
    ∙ ap (λ (l : List Token). a ++ l)
    (append_assoc b (c ++ d) (e ++ f) ∙ ap (λ (l : List Token). b ++ l) (append_assoc c d (e ++ f) ∙ ap (λ (l : List Token). c ++ l) (sym (append_assoc d e f))))

pub ended_back : (first more : List Token) → ArePrintable first → ArePrintable more → ReadsBack (first ++ (more ++ end_object ∷ []))
ended_back first more one two =
    tokens-print (first ++ (more ++ end_object ∷ [])) (both_printable first (more ++ end_object ∷ []) one (both_printable more (end_object ∷ []) two brace_printable))
