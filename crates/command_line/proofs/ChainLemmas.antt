-- The required argument of `command_line` has a value after a parse.
use Rattle.std.proofs.Common.{ℕ, Bool, true, false, not, ◌≡◌, ◌∙◌, ◌<◌, ◌&&◌, List, [], ◌∷◌, map, length, zero, suc, refl, ap, ap₂, ◌++◌, sym, subst, arith, is_some, codes, inl, inr}
use Rattle.std.specs.List.{All, list_any, slice_index_or}
use Rattle.std.specs.Str.{bytes_eq}
use Rattle.std.proofs.lemmas.List.{get_or-map, length-map, map-append}
use Rattle.std.proofs.lemmas.List.Folds.{list_any_at}
use Rattle.std.proofs.lemmas.Slice.Eq.{bytes_eq-Decides}
use Rattle.clap.specs.Built.{FitsChain, HasDistinctIds, TakesValue}
use Rattle.std.proofs.lemmas.List.Elements.{All-nil, All-push}
use Rattle.clap.specs.Words.{AddsArg, AddsInTurn, App, IsParsedFrom, IsPlainArg, Rule, Text, app_of, args_of, groups_of, rule_of, with_rule, first_value, found_of}
use Rattle.clap.specs.declared.builder.arg.Arg.{Arg}
use Rattle.clap.specs.declared.builder.command.Command.{Command}
use Rattle.clap.specs.declared.builder.command.Command.TheViews.{out-Command as fields_of}
use Rattle.clap.specs.declared.parser.matches.ArgMatches.{ArgMatches}
use Rattle.clap.proofs.CallerLemmas.{required_in_chain}
use Rattle.command_line.specs.CommandLine.{command_line, ids, IsArgument, IsCommandLine}

-- no text stands twice
abbrev distinct : List Text → Bool
distinct [] = true
distinct (x ∷ xs) = not (list_any (bytes_eq x) xs) && distinct xs

-- no text is empty or the name of a flag that is made for every command
abbrev own : List Text → Bool
own [] = true
own (x ∷ xs) = not (bytes_eq x []) && (not (bytes_eq x (codes "help")) && (not (bytes_eq x (codes "version")) && own xs))

both : (a b : Bool) → (a && b) ≡ true → (a ≡ true) × (b ≡ true)
both true b h = (refl, h)
both false b h = cc

no_more : (x : Text) (xs : List Text) (k : ℕ) (d : Text) → not (list_any (bytes_eq x) xs) ≡ true → k < length xs → bytes_eq x (slice_index_or xs k d) ≡ true → ⊥
no_more x xs k d none lt same =
    let any = list_any_at (bytes_eq x) xs k d lt same in
    let bad : false ≡ true = rw any at none in
    cc

same_place : (xs : List Text) → distinct xs ≡ true → (j k : ℕ) (d e : Text) → j < length xs → k < length xs
    → bytes_eq (slice_index_or xs j e) (slice_index_or xs k d) ≡ true → j ≡ k
same_place [] h j k d e lt under same = absurd (omega arith)
same_place (x ∷ xs) h zero zero d e lt under same = refl
same_place (x ∷ xs) h zero (suc k) d e lt under same =
    absurd (no_more x xs k d (both _ _ h).0 (omega arith) same)
same_place (x ∷ xs) h (suc j) zero d e lt under same =
    let turned : slice_index_or xs j e ≡ x = (bytes_eq-Decides _ _).0 same in
    absurd (no_more x xs j e (both _ _ h).0 (omega arith) ((bytes_eq-Decides x (slice_index_or xs j e)).1 (sym turned)))
same_place (x ∷ xs) h (suc j) (suc k) d e lt under same =
    ap suc (same_place xs (both _ _ h).1 j k d e (omega arith) (omega arith) same)

other : (x y : Text) → not (bytes_eq x y) ≡ true → x ≡ y → ⊥
other x y h e =
    let same : bytes_eq x y ≡ true = (bytes_eq-Decides x y).1 e in
    let bad : false ≡ true = rw same at h in
    cc

rest_own : (x : Text) (xs : List Text) → own (x ∷ xs) ≡ true → own xs ≡ true
rest_own x xs h =
    let one : (not (bytes_eq x []) ≡ true) × ((not (bytes_eq x (codes "help")) && (not (bytes_eq x (codes "version")) && own xs)) ≡ true) = both _ _ h in
    let two : (not (bytes_eq x (codes "help")) ≡ true) × ((not (bytes_eq x (codes "version")) && own xs) ≡ true) = both _ _ one.1 in
    (both _ _ two.1).1

own_at : (xs : List Text) → own xs ≡ true → (k : ℕ) (d : Text) → k < length xs
    → (slice_index_or xs k d ≡ [] → ⊥) × (slice_index_or xs k d ≡ codes "help" → ⊥) × (slice_index_or xs k d ≡ codes "version" → ⊥)
own_at [] h k d lt = absurd (omega arith)
own_at (x ∷ xs) h zero d lt =
    let one : (not (bytes_eq x []) ≡ true) × ((not (bytes_eq x (codes "help")) && (not (bytes_eq x (codes "version")) && own xs)) ≡ true) = both _ _ h in
    let two : (not (bytes_eq x (codes "help")) ≡ true) × ((not (bytes_eq x (codes "version")) && own xs) ≡ true) = both _ _ one.1 in
    let three : (not (bytes_eq x (codes "version")) ≡ true) × (own xs ≡ true) = both _ _ two.1 in
    (other x [] one.0, other x (codes "help") two.0, other x (codes "version") three.0)
own_at (x ∷ xs) h (suc k) d lt = own_at xs (rest_own x xs h) k d (omega arith)

id_at : (xs : List Arg) (k : ℕ) (d : Arg) → map (λ (a : Arg). a.id.now) xs ≡ ids → k < length xs
    → slice_index_or ids k d.id.now ≡ (slice_index_or xs k d).id.now
id_at xs k d e lt = ap (λ l. slice_index_or l k d.id.now) (sym e) ∙ get_or-map (λ (a : Arg). a.id.now) xs k d d.id.now lt

count_of_arguments : (xs : List Arg) → map (λ (a : Arg). a.id.now) xs ≡ ids → length xs ≡ 20
count_of_arguments xs e = sym (length-map xs (λ (a : Arg). a.id.now)) ∙ ap length e

distinct_ids : (xs : List Arg) → map (λ (a : Arg). a.id.now) xs ≡ ids → HasDistinctIds xs
distinct_ids xs e = λ j k d f lt under same.
    let n = count_of_arguments xs e in
    same_place ids refl j k d.id.now f.id.now (omega arith) (omega arith) (rw (id_at xs j f e lt, id_at xs k d e under) same)

each_fits : (xs : List Arg) → map (λ (a : Arg). a.id.now) xs ≡ ids → All (λ a. IsPlainArg a × (a.global ≡ false)) xs → All FitsChain xs
each_fits xs e plain = λ k d lt.
    let n = count_of_arguments xs e in
    let mine = own_at ids refl k d.id.now (omega arith) in
    let at = id_at xs k d e lt in
    let p = plain k d lt in (
      p.0,
      p.1,
      (λ h. mine.0 (at ∙ h)),
      (λ auto. elim auto [ inl h ↦ mine.1 (at ∙ h) | inr h ↦ mine.2 (at ∙ h) ]),
    )

-- a command that was made from `start` by adding xs in turn, with the ids of xs
pub record IsMade (start c : Command) (x : App) (xs : List Arg) (names : List Text) : Type 0 where
  pub app : app_of c ≡ x
  pub in_turn : AddsInTurn AddsArg start xs c
  pub plain : All (λ a. IsPlainArg a × (a.global ≡ false)) xs
  pub ids : map (λ (a : Arg). a.id.now) xs ≡ names

then_adds : (start c d : Command) (xs : List Arg) (a : Arg) → AddsInTurn AddsArg start xs c → AddsArg c a d → AddsInTurn AddsArg start (xs ++ a ∷ []) d
then_adds start c d [] a turn added = (d, subst (λ w. AddsArg w a d) (sym turn) added, refl)
then_adds start c d (x ∷ xs) a turn added = (turn.0, turn.1, then_adds turn.0 c d xs a turn.2 added)

-- nothing is added yet
pub starts : (c : Command) (x : App) → app_of c ≡ x → IsMade c c x [] []
starts c x e = record { app = e; in_turn = refl; plain = All-nil (λ (a : Arg). IsPlainArg a × (a.global ≡ false)); ids = refl }

-- one more argument
pub more : (id : Text) (start c d : Command) (x : App) (xs : List Arg) (names : List Text) (a : Arg) (r : Rule) → IsMade start c x xs names
    → AddsArg c a d → IsArgument id a → rule_of a ≡ r → IsMade start d (with_rule x r) (xs ++ a ∷ []) (names ++ id ∷ [])
more id start c d x xs names a r made added is rule = record {
  app = added.shape is.1 ∙ ap₂ with_rule made.app rule;
  in_turn = then_adds start c d xs a made.in_turn added;
  plain = All-push (λ (b : Arg). IsPlainArg b × (b.global ≡ false)) xs a made.plain (is.0, is.1);
  ids = map-append (λ (b : Arg). b.id.now) xs (a ∷ []) ∙ ap₂ (λ l m. l ++ m) made.ids (ap (λ t. t ∷ []) is.2);
}

-- all arguments are added
pub finished : (start c : Command) (xs : List Arg) → IsMade start c command_line xs ids → (args_of start ≡ []) × (groups_of start ≡ [])
    → (fields_of start).has_globals ≡ false → (fields_of start).subcommand_negates_reqs ≡ false
    → ((d : Arg) → TakesValue (slice_index_or xs 19 d)) → IsCommandLine c
finished start c xs made empty local negates model = record {
  app = made.app;
  start = start;
  empty = empty;
  local = local;
  negates = negates;
  added = xs;
  in_turn = made.in_turn;
  plain = made.plain;
  ids = made.ids;
  model = model;
}

-- a parse that succeeds gives MODEL its value
pub model_given : (c : Command) (m : ArgMatches) → IsCommandLine c → IsParsedFrom c m → is_some (first_value (found_of m) (codes "MODEL")) ≡ true
model_given c m is p = go is.added is.in_turn is.ids is.plain is.model
  where
    go : (xs : List Arg) → AddsInTurn AddsArg is.start xs c → map (λ (a : Arg). a.id.now) xs ≡ ids → All (λ a. IsPlainArg a × (a.global ≡ false)) xs
        → ((d : Arg) → TakesValue (slice_index_or xs 19 d)) → is_some (first_value (found_of m) (codes "MODEL")) ≡ true
    go [] turn e plain value = let none : 0 ≡ 20 = count_of_arguments [] e in cc
    go (a ∷ rest) turn e plain value =
        let n = count_of_arguments (a ∷ rest) e in
        let lt : 19 < length (a ∷ rest) = omega arith in
        let given = required_in_chain is.start c (a ∷ rest) 19 a m turn is.empty.0 is.empty.1 is.local is.negates
        (each_fits (a ∷ rest) e plain) (distinct_ids (a ∷ rest) e) lt (value a) p in
        subst (λ id. is_some (first_value (found_of m) id) ≡ true) (sym (id_at (a ∷ rest) 19 a e lt)) given
