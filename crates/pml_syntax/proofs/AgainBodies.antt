-- What is spelled as items is read, as those very trees.
use Rattle.std.proofs.Common.{◌≡◌, ℕ, zero, suc, ◌<◌, ◌≤◌, Bool, true, false, ◌&&◌, ◌||◌, List, [], ◌∷◌, ◌++◌, length, Ok, refl, sym, ap, subst, append_assoc, arith}
use Rattle.std.proofs.lemmas.List.{append-nil}
use Rattle.pml_token.specs.Word.{Word, same_kind}
use Rattle.pml_token.specs.declared.token.Kind.{Kind}
use Rattle.pml_token.specs.declared.token.Kind.TheVariants as k
use Rattle.pml_tree.specs.declared.tree.Basic.{Basic}
use Rattle.pml_tree.specs.declared.tree.Item.{Item}
use Rattle.pml_tree.specs.declared.tree.Seq.{Seq}
use Rattle.promela_grammar.specs.declared.range.Range.{Range}
use Rattle.promela_grammar.specs.Models as bodies
use Rattle.promela_grammar.specs.Actions.{is_separator, is_exclusive, seq_of}
use Rattle.promela_grammar.specs.Models.{SpellsBasic, SpellsStatement, SpellsItem, SpellsItems, SpellsOptions, SpellsSeparators, SpellsGap, SpellsLabels, SpellsRange}
use Rattle.pml_syntax.specs.Starts.{opening, declares, is_end}
use Rattle.pml_expression.specs.Reading.{Read, and_then, pick, next, sees}
use Rattle.pml_syntax.specs.ReadingStatements as reading
use Rattle.pml_syntax.specs.ReadingStatements.{skip_separators, is_label, is_declaration}
use Rattle.pml_expression.proofs.Steps.{expect_again, is_kind, not_kind, at}
use Rattle.pml_syntax.proofs.Begins.{follows, stops, Plain, other_plain, action_begins, action_plain, action_moves}
use Rattle.pml_syntax.proofs.AgainActions.{action_again}
use Rattle.pml_syntax.proofs.AgainDeclarations.{stops_settles, declaration_begins, declaration_is, declaration_again, declaration_moves, references_again, references_move}
use Rattle.pml_syntax.proofs.FoundBodies.{or_assoc}
use Rattle.pml_syntax.proofs.Ranges.{range_begins, range_moves, range_again}

-- ---- separators

or_false : (x y : Bool) → (x || y) ≡ false → (x ≡ false) × (y ≡ false)
or_false true y h = absurd cc
or_false false y h = (refl, h)

or_none : (x : Bool) → (x || false) ≡ x
or_none true = refl
or_none false = refl

-- what may come behind an item
pub record Calm (kind : Kind) : Type 0 where
  pub no_unless : same_kind kind k.Unless ≡ false
  pub no_comma : same_kind kind k.Comma ≡ false

record EndsBody (kind : Kind) : Type 0 where
  follows_item : follows kind ≡ true
  no_separator : is_separator kind ≡ false
  calm : Calm kind

end_body : (kind : Kind) → is_end kind ≡ true → EndsBody kind
end_body k.CloseBrace h = record { follows_item = refl; no_separator = refl; calm = record { no_unless = refl; no_comma = refl } }
end_body k.Fi h = record { follows_item = refl; no_separator = refl; calm = record { no_unless = refl; no_comma = refl } }
end_body k.Od h = record { follows_item = refl; no_separator = refl; calm = record { no_unless = refl; no_comma = refl } }
end_body k.DoubleColon h = record { follows_item = refl; no_separator = refl; calm = record { no_unless = refl; no_comma = refl } }
end_body k.End h = record { follows_item = refl; no_separator = refl; calm = record { no_unless = refl; no_comma = refl } }
end_body _ h = absurd cc

separator_calm : (kind : Kind) → is_separator kind ≡ true → Calm kind
separator_calm k.Semicolon h = record { no_unless = refl; no_comma = refl }
separator_calm k.Arrow h = record { no_unless = refl; no_comma = refl }
separator_calm _ h = absurd cc

separator_follows : (kind : Kind) → is_separator kind ≡ true → follows kind ≡ true
separator_follows k.Semicolon h = refl
separator_follows k.Arrow h = refl
separator_follows _ h = absurd cc

separators_again : {from to : List Word} → SpellsSeparators from to → is_separator (next to) ≡ false → skip_separators from ≡ to
unfolding skip_separators pick
separators_again (bodies.no_separator {to = []}) h = refl
separators_again (bodies.no_separator {to = w ∷ ws}) h = rw h refl
separators_again (bodies.one_separator is s) h = rw is (separators_again s h)

separators_follow : {from to : List Word} → SpellsSeparators from to → is_end (next to) ≡ true → follows (next from) ≡ true
separators_follow (bodies.no_separator {to}) h = (end_body (next to) h).follows_item
separators_follow (bodies.one_separator {s} is _) h = separator_follows s.kind is

separators_calm : {from to : List Word} → SpellsSeparators from to → is_end (next to) ≡ true → Calm (next from)
separators_calm (bodies.no_separator {to}) h = (end_body (next to) h).calm
separators_calm (bodies.one_separator {s} is _) h = separator_calm s.kind is

gap_again : {closed : Bool} {from to : List Word} → SpellsGap closed from to → is_separator (next to) ≡ false → (skip_separators from ≡ to) × ((closed || is_separator (next from)) ≡ true)
unfolding skip_separators pick
gap_again {closed} (bodies.separated is s) h = (rw is (separators_again s h), rw is (or_true closed))
  where
    or_true : (x : Bool) → (x || true) ≡ true
    or_true true = refl
    or_true false = refl
gap_again (bodies.joined {to}) h = (separators_again bodies.no_separator h, refl)

gap_follows : {closed : Bool} {from to : List Word} → SpellsGap closed from to → closed ≡ false → follows (next from) ≡ true
gap_follows (bodies.separated {s} is _) h = separator_follows s.kind is
gap_follows bodies.joined h = absurd cc

gap_calm : {closed : Bool} {from to : List Word} → SpellsGap closed from to → Calm (next to) → Calm (next from)
gap_calm (bodies.separated {s} is _) h = separator_calm s.kind is
gap_calm bodies.joined h = h

-- ---- labels

label_is : (n c : Word) (ts : List Word) → n.kind ≡ k.Name → c.kind ≡ k.Colon → is_label (n ∷ c ∷ ts) ≡ true
unfolding is_label sees
label_is n c ts name colon = rw (is_kind n.kind k.Name name, is_kind c.kind k.Colon colon) refl

labels_again : {ls from to : List Word} → SpellsLabels ls from to → is_label to ≡ false → (turns : ℕ) → length from ≤ turns → (found : List Word) → reading.labels_from turns found from ≡ Ok (found ++ ls, to)
unfolding reading.labels_from and_then pick
labels_again (bodies.no_label {to}) unlabelled zero room found = ap (λ (f : List Word). Ok (f, to)) (sym (append-nil found))
labels_again (bodies.no_label {to}) unlabelled (suc n) room found = rw unlabelled (ap (λ (f : List Word). Ok (f, to)) (sym (append-nil found)))
labels_again (bodies.one_label is colon rest) unlabelled zero room found = absurd (omega arith)
labels_again (bodies.one_label {n = w} {c} {labels} {from} {to} is colon rest) unlabelled (suc n) room found =
    rw (label_is w c from is colon, expect_again k.Name w (c ∷ from) is, expect_again k.Colon c from colon, labels_again rest unlabelled n (omega arith) (found ++ w ∷ [])) (ap (λ (f : List Word). Ok (f, to)) (append_assoc found (w ∷ []) labels))

-- ---- what begins an item

-- what a token that begins a statement is not
record BeginsStatement (kind : Kind) : Type 0 where
  no_follow : follows kind ≡ false
  no_declare : declares kind ≡ false
  no_exclusive : is_exclusive kind ≡ false
  no_comma : same_kind kind k.Comma ≡ false

begins_none : (kind : Kind) → follows kind ≡ false → declares kind ≡ false → is_exclusive kind ≡ false → same_kind kind k.Comma ≡ false → BeginsStatement kind
begins_none kind h1 h2 h3 h4 = record { no_follow = h1; no_declare = h2; no_exclusive = h3; no_comma = h4 }

basic_begins : {closed : Bool} {x : Basic} {from to : List Word} → SpellsBasic closed x from to → BeginsStatement (next from)
basic_begins (bodies.if_fi is _ _) = at BeginsStatement is (begins_none k.If refl refl refl refl)
basic_begins (bodies.do_od is _ _) = at BeginsStatement is (begins_none k.Do refl refl refl refl)
basic_begins (bodies.block is _ _) = at BeginsStatement is (begins_none k.OpenBrace refl refl refl refl)
basic_begins (bodies.atomic is _ _ _) = at BeginsStatement is (begins_none k.Atomic refl refl refl refl)
basic_begins (bodies.d_step is _ _ _) = at BeginsStatement is (begins_none k.DStep refl refl refl refl)
basic_begins (bodies.for_loop r _ _ _) = at BeginsStatement (range_begins r) (begins_none k.For refl refl refl refl)
basic_begins (bodies.select r) = at BeginsStatement (range_begins r) (begins_none k.Select refl refl refl refl)
basic_begins (bodies.goto is _) = at BeginsStatement is (begins_none k.Goto refl refl refl refl)
basic_begins (bodies.break is) = at BeginsStatement is (begins_none k.Break refl refl refl refl)
basic_begins (bodies.action x) = let h = action_begins x in begins_none _ h.no_follow h.no_declare h.no_exclusive h.no_comma

range_plain : {kind : Kind} {r : Range} {from to : List Word} → SpellsRange kind r from to → same_kind kind k.Name ≡ false → Plain from
range_plain {kind} (bodies.range {w} {o} {from} is _ _ _ _ _ _ _) h = other_plain kind w (o ∷ from) is h

basic_plain : {closed : Bool} {x : Basic} {from to : List Word} → SpellsBasic closed x from to → (closed ≡ false → follows (next to) ≡ true) → Plain from
basic_plain (bodies.if_fi is _ _) follow = other_plain k.If _ _ is refl
basic_plain (bodies.do_od is _ _) follow = other_plain k.Do _ _ is refl
basic_plain (bodies.block is _ _) follow = other_plain k.OpenBrace _ _ is refl
basic_plain (bodies.atomic is _ _ _) follow = other_plain k.Atomic _ _ is refl
basic_plain (bodies.d_step is _ _ _) follow = other_plain k.DStep _ _ is refl
basic_plain (bodies.for_loop r _ _ _) follow = range_plain r refl
basic_plain (bodies.select r) follow = range_plain r refl
basic_plain (bodies.goto is _) follow = other_plain k.Goto _ _ is refl
basic_plain (bodies.break is) follow = other_plain k.Break _ _ is refl
basic_plain (bodies.action x) follow = action_plain x follow

statement_begins : {closed : Bool} {x : Item} {from to : List Word} → SpellsStatement closed x from to → BeginsStatement (next from)
statement_begins (bodies.statement bodies.no_label x) = basic_begins x
statement_begins (bodies.statement (bodies.one_label is _ _) x) = at BeginsStatement is (begins_none k.Name refl refl refl refl)

undeclared : (ts : List Word) → BeginsStatement (next ts) → Plain ts → is_declaration ts ≡ false
unfolding is_declaration
undeclared ts h p = rw (h.no_declare, p.no_names) refl

label_undeclared : (n c : Word) (ts : List Word) → n.kind ≡ k.Name → c.kind ≡ k.Colon → is_declaration (n ∷ c ∷ ts) ≡ false
unfolding is_declaration sees
label_undeclared n c ts is colon =
    let none : declares n.kind ≡ false = at (λ x. declares x ≡ false) is refl in
    rw (none, is_kind n.kind k.Name is, not_kind c.kind k.Colon k.Name colon refl) refl

statement_undeclared : {closed : Bool} {x : Item} {from to : List Word} → SpellsStatement closed x from to → (closed ≡ false → follows (next to) ≡ true) → is_declaration from ≡ false
statement_undeclared (bodies.statement {from} bodies.no_label x) follow = undeclared from (basic_begins x) (basic_plain x follow)
statement_undeclared (bodies.statement (bodies.one_label {n} {c} {from} is colon _) x) follow = label_undeclared n c from is colon

-- what a token that begins an item is not
pub record BeginsItem (kind : Kind) : Type 0 where
  pub no_follow : follows kind ≡ false
  pub no_comma : same_kind kind k.Comma ≡ false

exclusive_begins : (kind : Kind) → is_exclusive kind ≡ true → BeginsItem kind
exclusive_begins k.Xr h = record { no_follow = refl; no_comma = refl }
exclusive_begins k.Xs h = record { no_follow = refl; no_comma = refl }
exclusive_begins _ h = absurd cc

item_begins : {step closed : Bool} {x : Item} {from to : List Word} → SpellsItem step closed x from to → BeginsItem (next from)
item_begins (bodies.declared d) = let h = declaration_begins d in record { no_follow = h.no_follow; no_comma = h.no_comma }
item_begins (bodies.exclusive {w} is _) = exclusive_begins w.kind is
item_begins (bodies.only x) = let h = statement_begins x in record { no_follow = h.no_follow; no_comma = h.no_comma }
item_begins (bodies.unless x _ _) = let h = statement_begins x in record { no_follow = h.no_follow; no_comma = h.no_comma }

pub items_begin : {steps : Bool} {xs : List Item} {from to : List Word} → SpellsItems steps xs from to → BeginsItem (next from)
items_begin (bodies.last_item x _) = item_begins x
items_begin (bodies.more_items x _ _) = item_begins x

pub record BeginsNone (kind : Kind) : Type 0 where
  pub no_separator : is_separator kind ≡ false
  pub no_end : is_end kind ≡ false
  pub calm : Calm kind

begins_calm : (kind : Kind) → follows kind ≡ false → same_kind kind k.Comma ≡ false → BeginsNone kind
begins_calm k.Semicolon h g = absurd cc
begins_calm k.Arrow h g = absurd cc
begins_calm k.CloseBrace h g = absurd cc
begins_calm k.Fi h g = absurd cc
begins_calm k.Od h g = absurd cc
begins_calm k.DoubleColon h g = absurd cc
begins_calm k.End h g = absurd cc
begins_calm k.Unless h g = absurd cc
begins_calm _ h g = record { no_separator = refl; no_end = refl; calm = record { no_unless = refl; no_comma = g } }

pub items_none : {steps : Bool} {xs : List Item} {from to : List Word} → SpellsItems steps xs from to → BeginsNone (next from)
items_none {from} h = let b = items_begin h in begins_calm (next from) b.no_follow b.no_comma

exclusive_undeclared : (w : Word) (ts : List Word) → is_exclusive w.kind ≡ true → is_declaration (w ∷ ts) ≡ false
unfolding is_declaration sees
exclusive_undeclared w ts is = go w.kind is
  where
    go : (kind : Kind) → is_exclusive kind ≡ true → (declares kind || (same_kind kind k.Name && same_kind (next ts) k.Name)) ≡ false
    go k.Xr is = refl
    go k.Xs is = refl
    go _ is = absurd cc

-- ---- what takes at least one token

labels_move : {ls from to : List Word} → SpellsLabels ls from to → length to ≤ length from
labels_move bodies.no_label = omega arith
labels_move (bodies.one_label _ _ ls) = omega (arith, labels_move ls)

separators_move : {from to : List Word} → SpellsSeparators from to → length to ≤ length from
separators_move bodies.no_separator = omega arith
separators_move (bodies.one_separator _ s) = omega (arith, separators_move s)

gap_moves : {closed : Bool} {from to : List Word} → SpellsGap closed from to → length to ≤ length from
gap_moves (bodies.separated _ s) = omega (arith, separators_move s)
gap_moves bodies.joined = omega arith

mutual
  basic_moves : {closed : Bool} {x : Basic} {from to : List Word} → SpellsBasic closed x from to → length to < length from
  basic_moves (bodies.if_fi _ os _) = omega (arith, options_move os)
  basic_moves (bodies.do_od _ os _) = omega (arith, options_move os)
  basic_moves (bodies.block _ xs _) = omega (arith, items_move xs)
  basic_moves (bodies.atomic _ _ xs _) = omega (arith, items_move xs)
  basic_moves (bodies.d_step _ _ xs _) = omega (arith, items_move xs)
  basic_moves (bodies.for_loop r _ xs _) = omega (arith, range_moves r, items_move xs)
  basic_moves (bodies.select r) = range_moves r
  basic_moves (bodies.goto _ _) = omega arith
  basic_moves (bodies.break _) = omega arith
  basic_moves (bodies.action x) = action_moves x

  statement_moves : {closed : Bool} {x : Item} {from to : List Word} → SpellsStatement closed x from to → length to < length from
  statement_moves (bodies.statement ls x) = omega (arith, labels_move ls, basic_moves x)

  item_moves : {step closed : Bool} {x : Item} {from to : List Word} → SpellsItem step closed x from to → length to < length from
  item_moves (bodies.declared d) = declaration_moves d
  item_moves (bodies.exclusive _ rs) = omega (arith, references_move rs)
  item_moves (bodies.only x) = statement_moves x
  item_moves (bodies.unless x _ y) = omega (arith, statement_moves x, statement_moves y)

  pub items_move : {steps : Bool} {xs : List Item} {from to : List Word} → SpellsItems steps xs from to → length to < length from
  items_move (bodies.last_item x s) = omega (arith, item_moves x, separators_move s)
  items_move (bodies.more_items x g xs) = omega (arith, item_moves x, gap_moves g, items_move xs)

  options_move : {os : List Seq} {from to : List Word} → SpellsOptions os from to → length to < length from
  options_move (bodies.last_option _ xs) = omega (arith, items_move xs)
  options_move (bodies.more_options _ xs os) = omega (arith, items_move xs, options_move os)

-- ---- bodies

basic_at : {kind : Kind} (depth : ℕ) (body : List Word → Read (List Item × Bool)) (ts : List Word) (r : Read (Basic × Bool)) → next ts ≡ kind → reading.basic_by depth body (opening kind) ts ≡ r → reading.basic depth body ts ≡ r
unfolding reading.basic
basic_at depth body ts r is h = subst (λ (x : Kind). reading.basic_by depth body (opening x) ts ≡ r) (sym is) h

options_begin : {os : List Seq} {from to : List Word} → SpellsOptions os from to → next from ≡ k.DoubleColon
options_begin (bodies.last_option is _) = is
options_begin (bodies.more_options is _ _) = is

-- the body that a reader of bodies of this depth reads
seq_deep : (depth : ℕ) (xs : List Item) (from to : List Word) → length from < depth → ((d : ℕ) → length from ≤ d → reading.items_from d (reading.items d) (length from) false [] from ≡ Ok ((xs, true), to)) → reading.seq depth (reading.items depth) from ≡ Ok (xs, to)
unfolding reading.seq reading.items and_then pick
seq_deep zero xs from to room h = absurd (omega arith)
seq_deep (suc d) xs from to room h = rw (h d (omega arith)) refl

mutual
  unfolding reading.if_fi reading.do_od reading.block reading.atomic reading.d_step reading.for_loop reading.select reading.goto reading.plainly reading.options reading.options_from reading.braces reading.statement reading.declared reading.exclusive reading.escape reading.stepped reading.item reading.items_from reading.basic sees and_then pick

  basic_again : {closed : Bool} {x : Basic} {from to : List Word} → SpellsBasic closed x from to → (depth : ℕ) → length from ≤ depth → (closed ≡ false → follows (next to) ≡ true) → reading.basic depth (reading.items depth) from ≡ Ok ((x, closed), to)
  basic_again (bodies.if_fi {o} {c} {from} {to} is os closed) depth room follow =
      basic_at depth _ (o ∷ from) _ is (rw (options_again os depth (length from) (omega arith) (omega arith) (at (λ x. is_end x ≡ true) closed refl) (not_kind c.kind k.Fi k.DoubleColon closed refl) [], expect_again k.Fi c to closed) refl)
  basic_again (bodies.do_od {o} {c} {from} {to} is os closed) depth room follow =
      basic_at depth _ (o ∷ from) _ is (rw (options_again os depth (length from) (omega arith) (omega arith) (at (λ x. is_end x ≡ true) closed refl) (not_kind c.kind k.Od k.DoubleColon closed refl) [], expect_again k.Od c to closed) refl)
  basic_again (bodies.block {o} {c} {xs} {from} {to} is h closed) depth room follow =
      let inside = seq_deep depth xs from (c ∷ to) (omega arith) (λ d deep. items_again h d (length from) deep (omega arith) (at (λ x. is_end x ≡ true) closed refl) false []) in
      basic_at depth _ (o ∷ from) _ is (rw (expect_again k.OpenBrace o from is, inside, expect_again k.CloseBrace c to closed) refl)
  basic_again (bodies.atomic {w} {o} {c} {xs} {from} {to} is opened h closed) depth room follow =
      let inside = seq_deep depth xs from (c ∷ to) (omega arith) (λ d deep. items_again h d (length from) deep (omega arith) (at (λ x. is_end x ≡ true) closed refl) false []) in
      basic_at depth _ (w ∷ o ∷ from) _ is (rw (expect_again k.OpenBrace o from opened, inside, expect_again k.CloseBrace c to closed) refl)
  basic_again (bodies.d_step {w} {o} {c} {xs} {from} {to} is opened h closed) depth room follow =
      let inside = seq_deep depth xs from (c ∷ to) (omega arith) (λ d deep. items_again h d (length from) deep (omega arith) (at (λ x. is_end x ≡ true) closed refl) false []) in
      basic_at depth _ (w ∷ o ∷ from) _ is (rw (expect_again k.OpenBrace o from opened, inside, expect_again k.CloseBrace c to closed) refl)
  basic_again (bodies.for_loop {o} {c} {xs} {from} {middle} {to} r opened h closed) depth room follow =
      let inside = seq_deep depth xs middle (c ∷ to) (omega (arith, range_moves r)) (λ d deep. items_again h d (length middle) deep (omega arith) (at (λ x. is_end x ≡ true) closed refl) false []) in
      basic_at depth _ from _ (range_begins r) (rw (range_again r depth room, expect_again k.OpenBrace o middle opened, inside, expect_again k.CloseBrace c to closed) refl)
  basic_again (bodies.select {from} r) depth room follow = basic_at depth _ from _ (range_begins r) (rw (range_again r depth room) refl)
  basic_again (bodies.goto {w} {n} {to} is named) depth room follow = basic_at depth _ (w ∷ n ∷ to) _ is (rw (expect_again k.Name n to named) refl)
  basic_again (bodies.break {w} {to} is) depth room follow = basic_at depth _ (w ∷ to) _ is refl
  basic_again (bodies.action x) depth room follow = rw ((action_begins x).no_structure, action_again x depth room follow) refl

  statement_again : {closed : Bool} {x : Item} {from to : List Word} → SpellsStatement closed x from to → (depth : ℕ) → length from ≤ depth → (closed ≡ false → follows (next to) ≡ true) → reading.statement depth (reading.items depth) from ≡ Ok ((x, closed), to)
  statement_again (bodies.statement {from} ls x) depth room follow =
      rw (labels_again ls (basic_plain x follow).no_label (length from) (omega arith) [], basic_again x depth (omega (arith, labels_move ls)) follow) refl

  item_again : {step closed : Bool} {x : Item} {from to : List Word} → SpellsItem step closed x from to → (depth : ℕ) → length from ≤ depth → (closed ≡ false → follows (next to) ≡ true) → Calm (next to) → reading.item depth (reading.items depth) from ≡ Ok ((x, step, closed), to)
  item_again (bodies.declared {from} {to} d) depth room follow calm = rw (declaration_is d, declaration_again d depth room (λ h. stops_settles (stops (next to) (follow h))) calm.no_comma []) refl
  item_again (bodies.exclusive {w} {from} {to} is rs) depth room follow calm =
      rw (exclusive_undeclared w from is, is, references_again rs depth (omega arith) (stops (next to) (follow refl)).quiet.free calm.no_comma) refl
  item_again (bodies.only x) depth room follow calm =
      rw (statement_undeclared x follow, (statement_begins x).no_exclusive, statement_again x depth room follow, calm.no_unless) refl
  item_again (bodies.unless {w} {middle} x is y) depth room follow calm =
      let inner : follows w.kind ≡ true = at (λ z. follows z ≡ true) is refl in
      rw (statement_undeclared x (λ _. inner), (statement_begins x).no_exclusive, statement_again x depth room (λ _. inner), is_kind w.kind k.Unless is, expect_again k.Unless w middle is, statement_again y depth (omega (arith, statement_moves x)) follow) refl

  pub items_again : {steps : Bool} {xs : List Item} {from to : List Word} → SpellsItems steps xs from to → (depth turns : ℕ) → length from ≤ depth → length from ≤ turns → is_end (next to) ≡ true → (before : Bool) (found : List Item)
      → reading.items_from depth (reading.items depth) turns before found from ≡ Ok ((found ++ xs, before || steps), to)
  items_again (bodies.last_item i s) depth zero room enough end before found = absurd (omega (arith, item_moves i))
  items_again (bodies.last_item {to} i s) depth (suc n) room enough end before found =
      rw (item_again i depth room (λ _. separators_follow s end) (separators_calm s end), separators_again s (end_body (next to) end).no_separator, end) refl
  items_again (bodies.more_items i g rest) depth zero room enough end before found = absurd (omega (arith, item_moves i))
  items_again (bodies.more_items {step} {steps} {x} {xs} {to} i g rest) depth (suc n) room enough end before found =
      let begins = items_none rest in
      let gap = gap_again g begins.no_separator in
      rw (item_again i depth room (gap_follows g) (gap_calm g begins.calm), gap.0, begins.no_end, gap.1, items_again rest depth n (omega (arith, item_moves i, gap_moves g)) (omega (arith, item_moves i, gap_moves g)) end (before || step) (found ++ x ∷ []))
      (ap (λ (r : List Item × Bool). Ok (r, to)) (both (append_assoc found (x ∷ []) xs) (or_assoc before step steps)))
    where
      both : {A B : Type 0} {a a' : A} {b b' : B} → a ≡ a' → b ≡ b' → ◌≡◌ {A = A × B} (a, b) (a', b')
      both p q = cc

  options_again : {os : List Seq} {from to : List Word} → SpellsOptions os from to → (depth turns : ℕ) → length from ≤ depth → length from ≤ turns → is_end (next to) ≡ true → same_kind (next to) k.DoubleColon ≡ false → (found : List Seq)
      → reading.options_from depth (reading.items depth) turns found from ≡ Ok (found ++ os, to)
  options_again (bodies.last_option is h) depth zero room enough end done found = absurd (omega arith)
  options_again (bodies.last_option {o} {xs} {from} {to} is h) depth (suc n) room enough end done found =
      let inside = seq_deep depth xs from to (omega arith) (λ d deep. items_again h d (length from) deep (omega arith) end false []) in
      rw (expect_again k.DoubleColon o from is, inside, done) refl
  options_again (bodies.more_options is h os) depth zero room enough end done found = absurd (omega arith)
  options_again (bodies.more_options {o} {xs} {options} {from} {middle} {to} is h os) depth (suc n) room enough end done found =
      let inside = seq_deep depth xs from middle (omega arith) (λ d deep. items_again h d (length from) deep (omega arith) (at (λ x. is_end x ≡ true) (options_begin os) refl) false []) in
      rw (expect_again k.DoubleColon o from is, inside, is_kind (next middle) k.DoubleColon (options_begin os), options_again os depth n (omega (arith, items_move h)) (omega (arith, items_move h)) end done (found ++ seq_of xs ∷ []))
      (ap (λ (f : List Seq). Ok (f, to)) (append_assoc found (seq_of xs ∷ []) options))
