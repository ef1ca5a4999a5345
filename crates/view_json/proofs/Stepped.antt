-- Lines of steps.
use Rattle.std.proofs.Common.{◌≡◌, ◌∙◌, ap, sym, refl, subst, ℕ, Bool, true, false, if◌then◌else◌, List, [], ◌∷◌, ◌++◌, append_assoc, codes, Option, Some, None}
use Rattle.std.specs.List.{flat_map}
use Rattle.std.proofs.lemmas.Bool.{true≢false}
use Rattle.json.specs.Token.{Token, end_object, begin_array, key}
use Rattle.json.specs.Print.{print, print_from, escape_byte, ends, ends_value, ArePrintable}
use Rattle.json.proofs.Printed.Tokens.{tokens-print}
use Rattle.view_json.proofs.Printable.{none_printable, one_printable, both_printable}
use Rattle.run_values.specs.declared.changed.Change.{Change}
use Rattle.promela_run.specs.declared.moves.Move.{Move}
use Rattle.promela_run.specs.State.{State}
use Rattle.view_text.specs.Written.{Written, Adds}
use Rattle.view_tokens.specs.Printed.{Printed, Writes}
use Rattle.view_json.specs.Objects.{member, cells, frame_cells}
use Rattle.view_json.specs.Lines.{line, ReadsBack}
use Rattle.view_json.specs.Shown.{Shown, Told, channels_from, processes_from, new_ones, changed_ones, has_changes, changed_cell, changed_cells, listed}
use Rattle.view_json.specs.declared.steps.Note.{Note}
use Rattle.view_json.specs.Steps.{printed, globals, changed, claim, cycle, counts, rest, told, proctypes, start}
use Rattle.view_json.proofs.Listed.{ends_from, on_value, object_ends, array_ends}

pub ends_append : (c : Bool) (xs ys : List Token) → ends_from c (xs ++ ys) ≡ ends_from (ends_from c xs) ys
ends_append c [] ys = refl
ends_append c (x ∷ xs) ys = ends_append (ends x) xs ys

-- a value ends behind a list, if it stands there or not
pub listed_ends : (always : Bool) (name : List ℕ) (ts : List Token) → ends_from true (listed always name ts) ≡ true
listed_ends true name [] = refl
listed_ends false name [] = refl
listed_ends always name (t ∷ ts) = array_ends true name (t ∷ ts)

printed_ends : (bytes : List ℕ) → ends_from true (printed bytes) ≡ true
printed_ends [] = refl
printed_ends (b ∷ bs) = refl

globals_end : (s : State) (cs : List Change) → ends_from true (globals s cs) ≡ true
globals_end s cs = by (has_changes 0 cs) refl
  where
    either : Bool → List Token
    either b = if b then member (codes "globals") (changed_cells s 0 cs) else []

    by : (b : Bool) → has_changes 0 cs ≡ b → ends_from true (globals s cs) ≡ true
    by true is = ap (λ (b : Bool). ends_from true (either b)) is ∙ changed_end
      where
        changed_end : ends_from true (member (codes "globals") (changed_cells s 0 cs)) ≡ true
        changed_end = object_ends false (flat_map (changed_cell s 0) cs)
    by false is = ap (λ (b : Bool). ends_from true (either b)) is

changed_ends : (s : State) (bytes : List ℕ) (cs : List Change) → ends_from true (changed s bytes cs) ≡ true
changed_ends s bytes cs =
    ends_append true (printed bytes) (globals s cs) ∙ ap (λ (c : Bool). ends_from c (globals s cs)) (printed_ends bytes) ∙ globals_end s cs

-- two members behind a value, if they stand there or not
pub both_listed : (always : Bool) (one two : List ℕ) (ts us : List Token)
    → print_from true (listed always one ts) ++ print_from true (listed always two us) ≡ print_from true (listed always one ts ++ listed always two us)
both_listed always one two ts us = sym (on_value true (listed always one ts) (listed always two us) (listed_ends always one ts))

pub told_ends : (always : Bool) (s : State) (ms : List Move) (older : ℕ) (cs : List Change) (before : Shown) (t : Told)
    → ends_from true (told always s ms older cs before t) ≡ true
told_ends always s ms older cs before t =
    ends_append true channels processes ∙ ap (λ (c : Bool). ends_from c processes) (listed_ends always (codes "channels") (new_ones before.channels 0 (channels_from s 1 t.names)))
    ∙ listed_ends always (codes "processes") (changed_ones s before.processes older cs 0 (processes_from s ms 0 t.words))
  where
    channels : List Token
    channels = listed always (codes "channels") (new_ones before.channels 0 (channels_from s 1 t.names))

    processes : List Token
    processes = listed always (codes "processes") (changed_ones s before.processes older cs 0 (processes_from s ms 0 t.words))

-- the numbers of processes and channels
pub counts_text : (s : State) (k : Option ℕ) (n : Note) → codes "," ++ print (counts s k n) ≡ print_from true (counts s k n)
unfolding print_from escape_byte
counts_text s k n = refl

noted_end : (line : Option ℕ) (begins : Bool) → ends_from true (claim line ++ cycle begins) ≡ true
noted_end None true = refl
noted_end None false = refl
noted_end (Some l) true = refl
noted_end (Some l) false = refl

counts_end : (s : State) (k : Option ℕ) (n : Note) → ends_from true (counts s k n) ≡ true
counts_end s None n = noted_end n.claim n.begins_cycle
counts_end s (Some k) n = noted_end n.claim n.begins_cycle

pub choices_heading : codes ",\"choices\":[" ≡ print_from true (key (codes "choices") ∷ begin_array ∷ [])
unfolding print_from escape_byte
choices_heading = refl

-- a line of what stands before the objects, the objects, and what stands behind them
pub closed_line : (first objects last : List Token) → ends_value first ≡ true → ends_from true objects ≡ true
    → print first ++ (print_from true objects ++ (print_from true last ++ codes "\n")) ≡ line (first ++ (objects ++ last))
closed_line first objects last is ends =
    ap (λ (l : List ℕ). print first ++ l)
    (sym (append_assoc (print_from true objects) (print_from true last) (codes "\n"))
    ∙ ap (λ (l : List ℕ). l ++ codes "\n") (sym (on_value true objects last ends)))
    ∙ sym (append_assoc (print first) (print_from true (objects ++ last)) (codes "\n"))
    ∙ ap (λ (l : List ℕ). l ++ codes "\n") (sym (on_value false first (objects ++ last) is))

pub brace_line : codes "}\n" ≡ print_from true (end_object ∷ []) ++ codes "\n"
unfolding print_from
brace_line = refl

-- what stands behind the objects of a step
pub rest_text : (s : State) (k : Option ℕ) (n : Note) (choices : List Token)
    → print_from true (counts s k n) ++ (print_from true (listed false (codes "choices") choices) ++ codes "}\n") ≡ print_from true (rest s k n choices) ++ codes "\n"
rest_text s k n choices =
    ap (λ (l : List ℕ). print_from true (counts s k n) ++ (print_from true (listed false (codes "choices") choices) ++ l)) brace_line
    ∙ ap (λ (l : List ℕ). print_from true (counts s k n) ++ l)
    (sym (append_assoc (print_from true (listed false (codes "choices") choices)) (print_from true (end_object ∷ [])) (codes "\n"))
    ∙ ap (λ (l : List ℕ). l ++ codes "\n") (sym (on_value true (listed false (codes "choices") choices) (end_object ∷ []) (listed_ends false (codes "choices") choices))))
    ∙ sym (append_assoc (print_from true (counts s k n)) (print_from true (listed false (codes "choices") choices ++ end_object ∷ [])) (codes "\n"))
    ∙ ap (λ (l : List ℕ). l ++ codes "\n") (sym (on_value true (counts s k n) (listed false (codes "choices") choices ++ end_object ∷ []) (counts_end s k n)))

pub rest_printable : (s : State) (k : Option ℕ) (n : Note) (choices : List Token) → ArePrintable (counts s k n) → ArePrintable (listed false (codes "choices") choices)
    → ArePrintable (rest s k n choices)
rest_printable s k n choices one two =
    both_printable (counts s k n) (listed false (codes "choices") choices ++ end_object ∷ []) one
    (both_printable (listed false (codes "choices") choices) (end_object ∷ []) two (one_printable end_object [] tt none_printable))

-- a value ends behind what stands before the objects of a step
pub front_ends : (s : State) (bytes : List ℕ) (cs : List Change) (front : List Token) → ends_value front ≡ true → ends_value (front ++ changed s bytes cs) ≡ true
front_ends s bytes cs front is =
    ends_append false front (changed s bytes cs) ∙ ap (λ (c : Bool). ends_from c (changed s bytes cs)) is ∙ changed_ends s bytes cs

-- what is written behind a beginning
pub printed_on : (o n : Written) (j k : Printed) (ts : List Token) → Writes j k ts → Adds o n (print k.tokens) → (k.refused ≡ true → n.refused ≡ true)
    → Adds o n (print (j.tokens ++ ts))
printed_on o n j k ts more added refused = record {
  stays = added.stays;
  added = λ calm. added.added calm ∙ ap (λ (l : List Token). o.text ++ print l) (more.added (before k.refused refl calm));
}
  where
    before : (r : Bool) → k.refused ≡ r → n.refused ≡ false → k.refused ≡ false
    before true so calm = absurd (true≢false (sym (refused so) ∙ calm))
    before false so calm = so

-- what is written, where it is known
pub printed_as : (o n : Written) (k : Printed) (ts : List Token) → (k.refused ≡ false → k.tokens ≡ ts) → Adds o n (print k.tokens)
    → (k.refused ≡ true → n.refused ≡ true) → Adds o n (print ts)
printed_as o n k ts is added refused = record {
  stays = added.stays;
  added = λ calm. added.added calm ∙ ap (λ (l : List Token). o.text ++ print l) (is (before k.refused refl calm));
}
  where
    before : (r : Bool) → k.refused ≡ r → n.refused ≡ false → k.refused ≡ false
    before true so calm = absurd (true≢false (sym (refused so) ∙ calm))
    before false so calm = so

-- a value ends behind the globals
pub start_ends : (s : State) (model : List ℕ) (lossy : Bool) → ends_value (start s model lossy) ≡ true
start_ends s model lossy =
    ends_append true (proctypes s.program) (member (codes "globals") (cells s 0)) ∙ object_ends false (frame_cells s 0)

-- ---- what can be read back

-- where nothing is refused behind it, nothing was
pub not_refused : (b c : Written) → (b.refused ≡ true → c.refused ≡ true) → c.refused ≡ false → b.refused ≡ false
not_refused b c stays calm = by b.refused refl
  where
    by : (r : Bool) → b.refused ≡ r → b.refused ≡ false
    by true is = absurd (true≢false (sym (stays is) ∙ calm))
    by false is = is

-- what is written behind a beginning can be read back with it
pub on_printable : (n : Written) (j k : Printed) (ts : List Token) → Writes j k ts → ArePrintable k.tokens → (k.refused ≡ true → n.refused ≡ true)
    → n.refused ≡ false → ArePrintable (j.tokens ++ ts)
on_printable n j k ts more all refused calm = subst ArePrintable (more.added (before k.refused refl)) all
  where
    before : (r : Bool) → k.refused ≡ r → k.refused ≡ false
    before true so = absurd (true≢false (sym (refused so) ∙ calm))
    before false so = so

pub as_printable : (n : Written) (k : Printed) (ts : List Token) → (k.refused ≡ false → k.tokens ≡ ts) → ArePrintable k.tokens
    → (k.refused ≡ true → n.refused ≡ true) → n.refused ≡ false → ArePrintable ts
as_printable n k ts is all refused calm = subst ArePrintable (is (before k.refused refl)) all
  where
    before : (r : Bool) → k.refused ≡ r → k.refused ≡ false
    before true so = absurd (true≢false (sym (refused so) ∙ calm))
    before false so = so

pub line_back : (first objects last : List Token) → ArePrintable first → ArePrintable objects → ArePrintable last
    → ReadsBack (first ++ (objects ++ last))
line_back first objects last one two three =
    tokens-print (first ++ (objects ++ last)) (both_printable first (objects ++ last) one (both_printable objects last two three))

pub brace_printable : ArePrintable (end_object ∷ [])
brace_printable = one_printable end_object [] tt none_printable

-- what is read back, where it is known
pub as_back : (n : Written) (k : Printed) (ts : List Token) → (k.refused ≡ false → k.tokens ≡ ts) → ReadsBack k.tokens
    → (k.refused ≡ true → n.refused ≡ true) → n.refused ≡ false → ReadsBack ts
as_back n k ts is back refused calm = subst ReadsBack (is (before k.refused refl)) back
  where
    before : (r : Bool) → k.refused ≡ r → k.refused ≡ false
    before true so = absurd (true≢false (sym (refused so) ∙ calm))
    before false so = so
