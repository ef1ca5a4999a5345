-- Moves as objects.
use Rattle.std.proofs.Common.{◌≡◌, ◌∙◌, ap, sym, refl, subst, ℕ, suc, ◌+◌, ◌<◌, ◌≤◌, Bool, true, false, if◌then◌else◌, List, [], ◌∷◌, ◌++◌, take, length, map, get_or, arith, append_assoc, append-nil, length-append, Option, Some, None, codes}
use Rattle.std.specs.Prelude.{ltb, slice_get, option_and_then}
use Rattle.std.proofs.lemmas.Bool.{true≢false}
use Rattle.std.proofs.lemmas.List.{length-map}
use Rattle.std.proofs.lemmas.Option.{same_Some}
use Rattle.std.proofs.Math.Seq.{take-suc}
use Rattle.json.specs.Token.{Token, begin_object, end_object}
use Rattle.json.specs.Print.{ends_value}
use Rattle.pml_program.specs.declared.program.Seq.{Seq}
use Rattle.pml_flow.specs.declared.edge.Edge.{Edge}
use Rattle.promela_process.specs.Offers.{Offer}
use Rattle.promela_run.specs.State.{Stand, State, body_of, picked as offer_of}
use Rattle.promela_run.specs.declared.moves.Pick.{Pick}
use Rattle.promela_run.specs.declared.moves.Move.{Move}
use Rattle.run_state.specs.declared.seat.Seat.{Seat}
use Rattle.run_state.specs.declared.body.Body.{Body}
use Rattle.run_state.specs.Standing.{control_at, shows, stand_of}
use Rattle.run_search.specs.Picked.{IsPicked}
use Rattle.pml_flow.specs.Points.{point_at}
use Rattle.view_cells.specs.Processes.{line_in, line_by}
use Rattle.view_waits.specs.declared.transfer.Does.TheVariants as does
use Rattle.view_tokens.specs.Printed.{Printed, Writes}
use Rattle.view_json.specs.Objects.{detail}
use Rattle.view_json.specs.Lines.{dealing}
use Rattle.view_json.specs.declared.list.Listing.{Listing}
use Rattle.view_json.specs.Shown.{Lists}
use Rattle.view_json.specs.Choices.{Effect, choice, choices, first_actor, partner, several, line_behind, next_line, AddsChoice, AddsChoices, TellsChoices, ListsChoices, told_choices}
use Rattle.view_json.proofs.Listed.{ends_from, object_ends}
use Rattle.view_json.proofs.Stepped.{ends_append}
use Rattle.view_json.proofs.Writing.{chain, none}

-- ---- where a process stands behind an offer

pub next_is : (s : State) (k : Pick) (x : Seat) (b : Body) (e : Edge) → slice_get s.stands k.process ≡ Some (stand_of s.program x)
    → Some (shows b e) ≡ offer_of s k → IsPicked s k b → line_by s.program (Some (stand_of s.program (record { sort = x.sort; node = e.target }))) ≡ next_line s k
next_is s k x b e there offer is =
    let same : is.seat.sort ≡ x.sort = ap (λ (y : Stand). y.sort) (same_Some (stand_of s.program is.seat) (stand_of s.program x) (sym is.at ∙ there)) in
    let body : body_of s.program x.sort ≡ Some b.proctype.now.body = ap (body_of s.program) (sym same) ∙ is.stands.body in
    ap (λ (o : Option Seq). line_in (slice_get s.program.proctypes x.sort) (control_at o e.target)) body
    ∙ ap (λ (o : Option Stand). line_in (option_and_then (λ y. slice_get s.program.proctypes y.sort) o) (point_at b.proctype.now.body e.target)) (sym there)
    ∙ ap (line_behind s k.process) offer

-- ---- where memory is refused

pub no_effect : Effect
no_effect = record { deals = record { does = does.Statement; channel = 0; message = [] }; words = [] }

refused_so : (ts : List Token) (a c : Printed) → c.refused ≡ true → Writes a c ts
refused_so ts a c refused = record { stays = λ r. refused; added = λ calm. absurd (true≢false (sym refused ∙ calm)) }

pub choice_refused : (s : State) (m : Move) (a c : Printed) → c.refused ≡ true → AddsChoice s m a c
choice_refused s m a c refused = (no_effect, refused_so (choice s m no_effect) a c refused)

-- ---- one move more

with_more : (s : State) (ms : List Move) (xs : List Effect) (m : Move) (x : Effect) → length xs ≡ length ms
    → choices s ms xs ++ choice s m x ≡ choices s (ms ++ m ∷ []) (xs ++ x ∷ [])
with_more s [] [] m x same = sym (append-nil (choice s m x))
with_more s [] (u ∷ us) m x same = absurd (omega (arith, same))
with_more s (w ∷ ws) [] m x same = absurd (omega (arith, same))
with_more s (w ∷ ws) (u ∷ us) m x same =
    append_assoc (choice s w u) (choices s ws us) (choice s m x)
    ∙ ap (λ (l : List Token). choice s w u ++ l) (with_more s ws us m x (omega (arith, same)))

pub choices_none : (s : State) (a : Printed) → AddsChoices s [] a a
choices_none s a = ([], refl, none a)

pub choices_more : (s : State) (i : ℕ) (ms : List Move) (m : Move) (a b c : Printed) → i < length ms → AddsChoices s (take i ms) a b
    → (x : Effect) → Writes b c (choice s (get_or ms i m) x) → AddsChoices s (take (i + 1) ms) a c
choices_more s i ms m a b c below so_far x here =
    let more : i + 1 ≡ suc i = omega arith in
    let y : Move = get_or ms i m in
    let is : take (i + 1) ms ≡ take i ms ++ y ∷ [] = ap (λ (k : ℕ). take k ms) more ∙ take-suc ms i m below in
    let one : length (so_far.0 ++ x ∷ []) ≡ length (take i ms ++ y ∷ []) =
    length-append so_far.0 (x ∷ []) ∙ ap (λ (n : ℕ). n + 1) so_far.1 ∙ sym (length-append (take i ms) (y ∷ [])) in
    subst (λ (l : List Move). AddsChoices s l a c) (sym is)
    (so_far.0 ++ x ∷ [], one, chain a b c _ _ _ so_far.2 here (with_more s (take i ms) so_far.0 y x so_far.1))

-- ---- as a list

pub choice_ends : (c : Bool) (s : State) (m : Move) (x : Effect) → ends_from c (choice s m x) ≡ true
choice_ends c s m x = object_ends c (first_actor s m ++ (dealing s x.deals ++ (partner s m ++ detail (codes "effect") x.words)))

pub choices_end : (s : State) (ms : List Move) (xs : List Effect) → ends_from true (choices s ms xs) ≡ true
choices_end s [] xs = refl
choices_end s (m ∷ ms) [] = refl
choices_end s (m ∷ ms) (x ∷ xs) =
    ends_append true (choice s m x) (choices s ms xs) ∙ ap (λ (c : Bool). ends_from c (choices s ms xs)) (choice_ends true s m x) ∙ choices_end s ms xs

-- the tokens of several moves begin with an object, and end a value
pub record AreObjects (ts : List Token) : Type 0 where
  pub rest : List Token
  pub begins : ts ≡ begin_object ∷ rest
  pub ends : ends_value (begin_object ∷ rest) ≡ true

pub are_objects : (s : State) (ms : List Move) (xs : List Effect) → 1 < length ms → length xs ≡ length ms → AreObjects (choices s ms xs)
are_objects s [] xs some same = absurd (omega (arith, some))
are_objects s (m ∷ ms) [] some same = absurd (omega (arith, same))
are_objects s (m ∷ ms) (x ∷ xs) some same = record {
  rest = (first_actor s m ++ (dealing s x.deals ++ (partner s m ++ detail (codes "effect") x.words))) ++ end_object ∷ [] ++ choices s ms xs;
  begins = refl;
  ends = ends_append false (choice s m x) (choices s ms xs) ∙ ap (λ (c : Bool). ends_from c (choices s ms xs)) (choice_ends false s m x) ∙ choices_end s ms xs;
}

pub several_are : (s : State) (ms : List Move) (xs : List Effect) → 1 < length ms → several s ms xs ≡ choices s ms xs
several_are s ms xs some = by (ltb 1 (length ms)) refl
  where
    by : (b : Bool) → ltb 1 (length ms) ≡ b → several s ms xs ≡ choices s ms xs
    by true is = ap (λ (b : Bool). if b then choices s ms xs else []) is
    by false is = absurd (true≢false (sym (grind (arith, some)) ∙ is))

pub none_listed : (s : State) (ms : List Move) (l : Listing) → (length ms ≤ 1) → Lists l [] → ListsChoices s ms l
none_listed s ms l few lists = (
  map (λ (m : Move). no_effect) ms,
  length-map ms (λ (m : Move). no_effect),
  subst (Lists l) (sym (by (ltb 1 (length ms)) refl)) lists,
)
  where
    by : (b : Bool) → ltb 1 (length ms) ≡ b → several s ms (map (λ (m : Move). no_effect) ms) ≡ []
    by true is = absurd (true≢false (sym is ∙ grind (arith, few)))
    by false is = ap (λ (b : Bool). if b then choices s ms (map (λ (m : Move). no_effect) ms) else []) is

-- ---- as a member

is_below : (a b : ℕ) → a < b → ltb a b ≡ true
is_below a b h = grind (arith, h)

not_below : (a b : ℕ) → b ≤ a → ltb a b ≡ false
not_below a b h = grind (arith, h)

pub choices_told : (s : State) (ms : List Move) (most : ℕ) (a c : Printed) → most < length ms → TellsChoices true s ms a c → TellsChoices (ltb most (length ms)) s ms a c
choices_told s ms most a c more told = subst (λ (b : Bool). TellsChoices b s ms a c) (sym (is_below most (length ms) more)) told

pub choices_untold : (s : State) (ms : List Move) (most : ℕ) (a : Printed) → length ms ≤ most → TellsChoices (ltb most (length ms)) s ms a a
choices_untold s ms most a few = (
  map (λ (m : Move). no_effect) ms,
  length-map ms (λ (m : Move). no_effect),
  subst (λ (b : Bool). Writes a a (told_choices b s ms (map (λ (m : Move). no_effect) ms))) (sym (not_below most (length ms) few)) (none a),
)
