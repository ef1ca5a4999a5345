-- What is spelled as an expression is read, as that very tree.
use Rattle.std.proofs.Common.{◌≡◌, ℕ, zero, suc, ◌+◌, ◌<◌, ◌≤◌, Bool, false, List, [], ◌∷◌, ◌++◌, length, drop, Option, Some, None, Ok, refl, sym, ap, subst, ◌∙◌, append_assoc, arith}
use Rattle.std.proofs.lemmas.Bool.{lt-ltb, le-ltb}
use Rattle.std.proofs.lemmas.List.{append-nil}
use Rattle.pml_token.specs.Word.{Word, same_kind}
use Rattle.pml_token.specs.declared.token.Kind.{Kind}
use Rattle.pml_token.specs.declared.token.Kind.TheVariants as k
use Rattle.pml_tree.specs.declared.tree.Infix.{Infix}
use Rattle.pml_tree.specs.declared.tree.Prefix.{Prefix}
use Rattle.pml_tree.specs.declared.tree.Fill.{Fill}
use Rattle.pml_tree.specs.declared.tree.Search.{Search}
use Rattle.pml_tree.specs.declared.tree.Expr.{Expr}
use Rattle.pml_tree.specs.declared.tree.Expr.TheVariants as e
use Rattle.pml_tree.specs.declared.tree.Argument.{Argument}
use Rattle.pml_tree.specs.declared.tree.Reference.{Reference}
use Rattle.pml_tree.specs.declared.tree.Step.{Step}
use Rattle.promela_grammar.specs.Expressions as grammar
use Rattle.promela_grammar.specs.Expressions.{operator, level, prefix_level, truth_of_word, fill, query, prefix_operator, SpellsIndex, SpellsStep, SpellsFields, SpellsReference, SpellsExpr, SpellsArgument, SpellsArgumentList, SpellsArguments}
use Rattle.pml_expression.specs.declared.operators.Start.TheVariants as s
use Rattle.pml_expression.specs.Starts.{start as start_of}
use Rattle.pml_expression.specs.Reading as reading
use Rattle.pml_expression.specs.Reading.{Read, and_then, pick, next, sees, expect, expr, climb}
use Rattle.pml_expression.proofs.Steps.{expect_again, is_kind, not_kind, at, strength, level_low, step_moves, reference_moves, expr_moves, argument_moves, arguments_move}

-- ---- what comes behind an expression

-- it does not go on with a reference
pub record IsFree (kind : Kind) : Type 0 where
  pub no_index : same_kind kind k.OpenBracket ≡ false
  pub no_dot : same_kind kind k.Dot ≡ false

-- nor with an expression
pub record IsQuiet (kind : Kind) : Type 0 where
  pub no_operator : operator kind ≡ None
  pub no_query : query kind ≡ None
  pub free : IsFree kind

-- nor with a list of arguments or values
pub record IsLast (kind : Kind) : Type 0 where
  pub no_comma : same_kind kind k.Comma ≡ false
  pub no_paren : same_kind kind k.OpenParen ≡ false
  pub free : IsFree kind

-- a poll goes on with a reference
abbrev pub polls_by : Option Search → List Word → Bool
polls_by None ts = false
polls_by (Some look) ts = sees k.OpenBracket (drop 1 ts)

unfoldable pub polls : List Word → Bool
polls ts = polls_by (query (next ts)) ts

pub no_query_no_poll : (o : Option Search) (ts : List Word) → o ≡ None → polls_by o ts ≡ false
no_query_no_poll None ts h = refl
no_query_no_poll (Some look) ts h = absurd cc

-- what comes behind an expression of a level does not belong to it
pub record Ends (least : ℕ) (to : List Word) : Type 0 where
  pub binds : strength (operator (next to)) ≤ least
  pub no_poll : polls to ≡ false
  pub free : IsFree (next to)

pub quiet_ends : {least : ℕ} (to : List Word) → IsQuiet (next to) → Ends least to
unfolding polls
quiet_ends to q = record { binds = rw q.no_operator (omega arith); no_poll = no_query_no_poll (query (next to)) to q.no_query; free = q.free }

quiet_none : (kind : Kind) → operator kind ≡ None → query kind ≡ None → same_kind kind k.OpenBracket ≡ false → same_kind kind k.Dot ≡ false → IsQuiet kind
quiet_none kind h1 h2 h3 h4 = record { no_operator = h1; no_query = h2; free = record { no_index = h3; no_dot = h4 } }

pub quiet_paren : IsQuiet k.CloseParen
quiet_paren = quiet_none k.CloseParen refl refl refl refl

pub quiet_bracket : IsQuiet k.CloseBracket
quiet_bracket = quiet_none k.CloseBracket refl refl refl refl

pub quiet_comma : IsQuiet k.Comma
quiet_comma = quiet_none k.Comma refl refl refl refl

pub quiet_open : IsQuiet k.OpenParen
quiet_open = quiet_none k.OpenParen refl refl refl refl

quiet_arrow : IsQuiet k.Arrow
quiet_arrow = quiet_none k.Arrow refl refl refl refl

quiet_colon : IsQuiet k.Colon
quiet_colon = quiet_none k.Colon refl refl refl refl

pub last_paren : IsLast k.CloseParen
last_paren = record { no_comma = refl; no_paren = refl; free = quiet_paren.free }

last_bracket : IsLast k.CloseBracket
last_bracket = record { no_comma = refl; no_paren = refl; free = quiet_bracket.free }

pub last_greater : IsLast k.Greater
last_greater = record { no_comma = refl; no_paren = refl; free = record { no_index = refl; no_dot = refl } }

pub operator_free : (kind : Kind) (b : Infix) → operator kind ≡ Some b → IsFree kind
operator_free k.OpenBracket b h = absurd cc
operator_free k.Dot b h = absurd cc
operator_free _ b h = record { no_index = refl; no_dot = refl }

operator_no_query : (kind : Kind) (b : Infix) → operator kind ≡ Some b → query kind ≡ None
operator_no_query k.Query b h = absurd cc
operator_no_query k.QueryQuery b h = absurd cc
operator_no_query _ b h = refl

pub query_free : (kind : Kind) (look : Search) → query kind ≡ Some look → IsFree kind
query_free k.OpenBracket look h = absurd cc
query_free k.Dot look h = absurd cc
query_free _ look h = record { no_index = refl; no_dot = refl }

operator_ends : {b : Infix} (o : Word) (ws : List Word) → operator o.kind ≡ Some b → Ends (level b) (o ∷ ws)
unfolding polls
operator_ends {b} o ws is = record { binds = rw is (omega arith); no_poll = no_query_no_poll (query o.kind) (o ∷ ws) (operator_no_query o.kind b is); free = operator_free o.kind b is }

-- ---- climbing

-- Reading has come to `to`, with the expression on its left.
pub record Climbs (n least : ℕ) (x : Expr) (from to : List Word) : Type 0 where
  pub depth : ℕ
  pub turns : ℕ
  pub deep : length from ≤ depth + 1
  pub enough : length to ≤ turns
  pub reads : expr n least from ≡ climb (expr depth) turns least x to

-- where no operator of the level comes, climbing stops
pub stop : (reader : ℕ → List Word → Read Expr) (turns least : ℕ) (x : Expr) (to : List Word) → strength (operator (next to)) < least → climb reader turns least x to ≡ Ok (x, to)
unfolding climb pick
stop reader zero least x to h = refl
stop reader (suc n) least x to h = go (operator (next to)) h
  where
    go : (o : Option Infix) → strength o < least → reading.climb_by reader (climb reader n least) least x to o ≡ Ok (x, to)
    go None h = refl
    go (Some b) h = rw (lt-ltb (level b) least h) refl

pub climbed : {n least : ℕ} {x : Expr} {from to : List Word} → Climbs n least x from to → strength (operator (next to)) < least → expr n least from ≡ Ok (x, to)
climbed {least} {x} {to} c h = c.reads ∙ stop (expr c.depth) c.turns least x to h

-- an expression before what does not go on with it
pub whole : {depth : ℕ} {x : Expr} {from : List Word} (to : List Word) → IsQuiet (next to) → (Ends 1 to → Climbs depth 1 x from to) → expr depth 1 from ≡ Ok (x, to)
whole to q again = climbed (again (quiet_ends to q)) (rw q.no_operator (omega arith))

-- an expression before a token
pub before : {depth : ℕ} {x : Expr} {from to : List Word} {c : Word} (kind : Kind) → c.kind ≡ kind → IsQuiet kind → (Ends 1 (c ∷ to) → Climbs depth 1 x from (c ∷ to)) → expr depth 1 from ≡ Ok (x, c ∷ to)
before {to} {c} kind is q again = whole (c ∷ to) (at IsQuiet is q) again

-- an expression that its first token decides
prefixed : (n least : ℕ) (x : Expr) (from to : List Word) → length from ≤ n → length to < length from → ((depth : ℕ) → length from ≤ depth + 1 → reading.prefix (expr depth) from ≡ Ok (x, to)) → Climbs n least x from to
unfolding expr reading.level_of and_then
prefixed zero least x from to room moves h = absurd (omega arith)
prefixed (suc depth) least x from to room moves h = record { depth = depth; turns = length to; deep = omega arith; enough = omega arith; reads = rw (h depth (omega arith)) refl }

-- one operator further
further : (n least : ℕ) (b : Infix) (x y : Expr) (o : Word) (from middle to : List Word) → operator o.kind ≡ Some b → least ≤ level b → length to < length middle → length (o ∷ middle) < length from → (c : Climbs n least x from (o ∷ middle))
    → ((depth : ℕ) → length middle ≤ depth → expr depth (level b + 1) middle ≡ Ok (y, to)) → Climbs n least (e.Binary b x y) from to
unfolding climb reading.infix_with and_then pick
further n least b x y o from middle to is low moves longer c right = go c.turns c.enough c.reads
  where
    go : (turns : ℕ) → length (o ∷ middle) ≤ turns → expr n least from ≡ climb (expr c.depth) turns least x (o ∷ middle) → Climbs n least (e.Binary b x y) from to
    go zero enough reads = absurd (omega arith)
    go (suc turns) enough reads = record { depth = c.depth; turns = turns; deep = c.deep; enough = omega arith; reads = reads ∙ rw (is, le-ltb (level b) least low, right c.depth (omega (arith, c.deep))) refl }

strength_low : (o : Option Infix) → strength o < prefix_level
strength_low None = omega arith
strength_low (Some b) = level_low b

-- ---- reading by the kind of the first token

pub prefix_at : {kind : Kind} (reader : ℕ → List Word → Read Expr) (ts : List Word) (r : Read Expr) → next ts ≡ kind → reading.prefix_by reader (start_of kind) ts ≡ r → reading.prefix reader ts ≡ r
unfolding reading.prefix
prefix_at reader ts r is h = subst (λ (x : Kind). reading.prefix_by reader (start_of x) ts ≡ r) (sym is) h

argument_at : {kind : Kind} (reader : ℕ → List Word → Read Expr) (ts : List Word) (r : Read Argument) → next ts ≡ kind → reading.argument_by reader (start_of kind) ts ≡ r → reading.argument reader ts ≡ r
unfolding reading.argument
argument_at reader ts r is h = subst (λ (x : Kind). reading.argument_by reader (start_of x) ts ≡ r) (sym is) h

truth_start : (kind : Kind) (v : Bool) → truth_of_word kind ≡ Some v → start_of kind ≡ s.Truth v
truth_start k.True v h = cc
truth_start k.Skip v h = cc
truth_start k.False v h = cc
truth_start _ v h = absurd cc

fill_start : (kind : Kind) (f : Fill) → fill kind ≡ Some f → start_of kind ≡ s.Ask f
fill_start k.Len f h = cc
fill_start k.Empty f h = cc
fill_start k.Full f h = cc
fill_start k.Nempty f h = cc
fill_start k.Nfull f h = cc
fill_start _ f h = absurd cc

prefix_start : (kind : Kind) (p : Prefix) → prefix_operator kind ≡ Some p → start_of kind ≡ s.Prefix p
prefix_start k.Bang p h = cc
prefix_start k.Tilde p h = cc
prefix_start k.Minus p h = cc
prefix_start _ p h = absurd cc

no_poll_by : (o : Option Search) (reader : ℕ → List Word → Read Expr) (r : Reference) (ts : List Word) → polls_by o ts ≡ false → reading.behind_by reader o r ts ≡ Ok (e.Read r, ts)
unfolding pick
no_poll_by None reader r ts h = refl
no_poll_by (Some look) reader r ts h = rw h refl

pub behind_stops : (reader : ℕ → List Word → Read Expr) (r : Reference) (ts : List Word) → polls ts ≡ false → reading.behind reader r ts ≡ Ok (e.Read r, ts)
unfolding reading.behind polls
behind_stops reader r ts h = no_poll_by (query (next ts)) reader r ts h

-- ---- what begins a part

pub reference_begins : {r : Reference} {from to : List Word} → SpellsReference r from to → next from ≡ k.Name
reference_begins (grammar.reference (grammar.step is _) _) = is

fields_begin : {ss : List Step} {from to : List Word} → SpellsFields ss from to → same_kind (next to) k.OpenBracket ≡ false → same_kind (next from) k.OpenBracket ≡ false
fields_begin grammar.no_field h = h
fields_begin (grammar.one_field is _ _) h = not_kind _ k.Dot k.OpenBracket is refl

truth_no_paren : (kind : Kind) (v : Bool) → truth_of_word kind ≡ Some v → same_kind kind k.OpenParen ≡ false
truth_no_paren k.OpenParen v h = absurd cc
truth_no_paren _ v h = refl

argument_no_paren : {x : Argument} {from to : List Word} → SpellsArgument x from to → same_kind (next from) k.OpenParen ≡ false
argument_no_paren (grammar.into r) = not_kind _ k.Name k.OpenParen (reference_begins r) refl
argument_no_paren (grammar.exactly is) = not_kind _ k.Number k.OpenParen is refl
argument_no_paren (grammar.exactly_minus is _) = not_kind _ k.Minus k.OpenParen is refl
argument_no_paren (grammar.fixed {w} {v} is) = truth_no_paren w.kind v is
argument_no_paren (grammar.eval is _ _ _) = not_kind _ k.Eval k.OpenParen is refl

-- ---- expressions

mutual
  unfolding reading.closing reading.expr_behind reading.expr_between reading.index reading.step reading.fields_from reading.reference reading.into reading.exactly reading.exactly_minus reading.eval reading.argument reading.arguments reading.list_from reading.enclosed reading.behind_first reading.polled reading.poll reading.behind reading.variable reading.number reading.ask reading.operand reading.group reading.chosen reading.alternatives reading.prefix sees and_then pick

  pub index_again : {i : Option Expr} {from to : List Word} → SpellsIndex i from to → (depth : ℕ) → length from ≤ depth → same_kind (next to) k.OpenBracket ≡ false → reading.index (expr depth) from ≡ Ok (i, to)
  index_again grammar.no_index depth room free = rw free refl
  index_again (grammar.index {o} {c} {x} {from} {to} opened h closed) depth room free =
      let inner = before k.CloseBracket closed quiet_bracket (expr_again h depth 1 (omega arith) (omega arith)) in
      rw (is_kind o.kind k.OpenBracket opened, expect_again k.OpenBracket o from opened, inner, expect_again k.CloseBracket c to closed) refl

  step_again : {s : Step} {from to : List Word} → SpellsStep s from to → (depth : ℕ) → length from ≤ depth + 1 → same_kind (next to) k.OpenBracket ≡ false → reading.step (expr depth) from ≡ Ok (s, to)
  step_again (grammar.step {n} {from} is i) depth room free = rw (expect_again k.Name n from is, index_again i depth (omega arith) free) refl

  fields_again : {ss : List Step} {from to : List Word} → SpellsFields ss from to → (depth turns : ℕ) → length from ≤ depth + 1 → length from ≤ turns → IsFree (next to) → (found : List Step) → reading.fields_from (expr depth) turns found from ≡ Ok (found ++ ss, to)
  fields_again (grammar.no_field {to}) depth zero room enough free found = ap (λ (f : List Step). Ok (f, to)) (sym (append-nil found))
  fields_again (grammar.no_field {to}) depth (suc n) room enough free found = rw free.no_dot (ap (λ (f : List Step). Ok (f, to)) (sym (append-nil found)))
  fields_again (grammar.one_field is first rest) depth zero room enough free found = absurd (omega arith)
  fields_again (grammar.one_field {d} {s = x} {ss = xs} {from} {to} is first rest) depth (suc n) room enough free found =
      rw (is_kind d.kind k.Dot is, expect_again k.Dot d from is, step_again first depth (omega arith) (fields_begin rest free.no_index), fields_again rest depth n (omega (arith, step_moves first)) (omega (arith, step_moves first)) free (found ++ x ∷ []))
      (ap (λ (f : List Step). Ok (f, to)) (append_assoc found (x ∷ []) xs))

  pub reference_again : {r : Reference} {from to : List Word} → SpellsReference r from to → (depth : ℕ) → length from ≤ depth + 1 → IsFree (next to) → reading.reference (expr depth) from ≡ Ok (r, to)
  reference_again (grammar.reference {middle} first rest) depth room free =
      rw (step_again first depth room (fields_begin rest free.no_index), fields_again rest depth (length middle) (omega (arith, step_moves first)) (omega arith) free []) refl

  argument_again : {x : Argument} {from to : List Word} → SpellsArgument x from to → (depth : ℕ) → length from ≤ depth + 1 → IsFree (next to) → reading.argument (expr depth) from ≡ Ok (x, to)
  argument_again (grammar.into {from} r) depth room free = argument_at (expr depth) from _ (reference_begins r) (rw (reference_again r depth room free) refl)
  argument_again (grammar.exactly {n} {to} is) depth room free = argument_at (expr depth) (n ∷ to) _ is (rw (expect_again k.Number n to is) refl)
  argument_again (grammar.exactly_minus {m} {n} {to} is named) depth room free = argument_at (expr depth) (m ∷ n ∷ to) _ is (rw (expect_again k.Minus m (n ∷ to) is, expect_again k.Number n to named) refl)
  argument_again (grammar.fixed {w} {v} {to} is) depth room free = rw (truth_start w.kind v is) refl
  argument_again (grammar.eval {v} {o} {c} {from} {to} is opened h closed) depth room free =
      let inner = before k.CloseParen closed quiet_paren (expr_again h depth 1 (omega arith) (omega arith)) in
      argument_at (expr depth) (v ∷ o ∷ from) _ is (rw (expect_again k.Eval v (o ∷ from) is, expect_again k.OpenParen o from opened, inner, expect_again k.CloseParen c to closed) refl)

  argument_list_again : {xs : List Argument} {from to : List Word} → SpellsArgumentList xs from to → (depth turns : ℕ) → length from ≤ depth + 1 → length from ≤ turns → IsLast (next to) → (found : List Argument)
      → reading.list_from (reading.argument (expr depth)) turns found from ≡ Ok (found ++ xs, to)
  argument_list_again (grammar.last_argument h) depth zero room enough ends found = absurd (omega (arith, argument_moves h))
  argument_list_again (grammar.last_argument h) depth (suc n) room enough ends found = rw (argument_again h depth room ends.free, ends.no_comma) refl
  argument_list_again (grammar.more_arguments h is more) depth zero room enough ends found = absurd (omega (arith, argument_moves h))
  argument_list_again (grammar.more_arguments {x} {xs} {c} {middle} {to} h is more) depth (suc n) room enough ends found =
      rw (argument_again h depth room (at IsFree is quiet_comma.free), is_kind c.kind k.Comma is, expect_again k.Comma c middle is, argument_list_again more depth n (omega (arith, argument_moves h)) (omega (arith, argument_moves h)) ends (found ++ x ∷ []))
      (ap (λ (f : List Argument). Ok (f, to)) (append_assoc found (x ∷ []) xs))

  pub arguments_again : {xs : List Argument} {from to : List Word} → SpellsArguments xs from to → (depth : ℕ) → length from ≤ depth + 1 → IsLast (next to) → reading.arguments (expr depth) from ≡ Ok (xs, to)
  arguments_again (grammar.argument_list (grammar.last_argument h)) depth room ends = rw (argument_no_paren h, argument_again h depth room ends.free, ends.no_paren, ends.no_comma) refl
  arguments_again (grammar.argument_list (grammar.more_arguments {x} {c} {middle} h is more)) depth room ends =
      rw (
        argument_no_paren h,
        argument_again h depth room (at IsFree is quiet_comma.free),
        not_kind c.kind k.Comma k.OpenParen is refl,
        is_kind c.kind k.Comma is,
        expect_again k.Comma c middle is,
        argument_list_again more depth (length middle) (omega (arith, argument_moves h)) (omega arith) ends (x ∷ []),
      ) refl
  arguments_again (grammar.argument_call {x} {o} {c} {middle} {to} h is more closed) depth room ends =
      rw (
        argument_no_paren h,
        argument_again h depth room (at IsFree is quiet_open.free),
        is_kind o.kind k.OpenParen is,
        expect_again k.OpenParen o middle is,
        argument_list_again more depth (length middle) (omega (arith, argument_moves h)) (omega arith) (at IsLast closed last_paren) (x ∷ []),
        expect_again k.CloseParen c to closed,
      ) refl
  arguments_again (grammar.argument_group {o} {c} {from} {to} is more closed) depth room ends =
      rw (is_kind o.kind k.OpenParen is, expect_again k.OpenParen o from is, argument_list_again more depth (length from) (omega arith) (omega arith) (at IsLast closed last_paren) [], expect_again k.CloseParen c to closed) refl

  pub expr_again : {m : ℕ} {x : Expr} {from to : List Word} → SpellsExpr m x from to → (n least : ℕ) → length from ≤ n → least ≤ m → Ends m to → Climbs n least x from to
  expr_again (grammar.number {n = w} {to} is) n least room low ends = prefixed n least (e.Number w) (w ∷ to) to room (omega arith) (λ depth deep. prefix_at (expr depth) (w ∷ to) _ is (rw (expect_again k.Number w to is) refl))
  expr_again (grammar.truth_value {w} {v} {to} is) n least room low ends =
      prefixed n least (e.Truth v) (w ∷ to) to room (omega arith) (λ depth deep. rw (truth_start w.kind v is) refl)
  expr_again (grammar.timeout {w} {to} is) n least room low ends = prefixed n least e.Timeout (w ∷ to) to room (omega arith) (λ depth deep. prefix_at (expr depth) (w ∷ to) _ is refl)
  expr_again (grammar.read {r} {from} {to} h) n least room low ends =
      prefixed n least (e.Read r) from to room (reference_moves h) (λ depth deep. prefix_at (expr depth) from _ (reference_begins h) (rw (reference_again h depth deep ends.free) (behind_stops (expr depth) r to ends.no_poll)))
  expr_again (grammar.poll {r} {q} {o} {c} {look} {xs} {from} {middle} {to} h is opened more closed) n least room low ends =
      prefixed n least (e.Poll r look xs) from to room (omega (arith, reference_moves h, arguments_move more)) (λ depth deep.
      let inner = arguments_again more depth (omega (arith, reference_moves h)) (at IsLast closed last_bracket) in
      prefix_at (expr depth) from _ (reference_begins h) (rw (reference_again h depth deep (query_free q.kind look is), is, is_kind o.kind k.OpenBracket opened, expect_again k.OpenBracket o middle opened, inner, expect_again k.CloseBracket c to closed) refl))
  expr_again (grammar.ask {w} {o} {c} {f} {r} {from} {to} is opened h closed) n least room low ends =
      prefixed n least (e.Ask f r) (w ∷ o ∷ from) to room (omega (arith, reference_moves h)) (λ depth deep.
      let inner = reference_again h depth (omega arith) (at IsFree closed quiet_paren.free) in
      rw (fill_start w.kind f is, expect_again k.OpenParen o from opened, inner, expect_again k.CloseParen c to closed) refl)
  expr_again (grammar.unary {o} {p} {x} {from} {to} is below h) n least room low ends =
      prefixed n least (e.Unary p x) (o ∷ from) to room (omega (arith, expr_moves h)) (λ depth deep.
      let inner = climbed (expr_again h depth prefix_level (omega arith) (omega arith) (record { binds = omega (arith, strength_low (operator (next to))); no_poll = ends.no_poll; free = ends.free })) (strength_low (operator (next to))) in
      rw (prefix_start o.kind p is, inner) refl)
  expr_again (grammar.binary {o} {i} {x} {y} {from} {middle} {to} is below h g) n least room low ends =
      further n least i x y o from middle to is (omega arith) (expr_moves g) (expr_moves h) (expr_again h n least room (omega arith) (operator_ends o middle is))
      (λ depth deep. climbed (expr_again g depth (level i + 1) deep (omega arith) (record { binds = omega (arith, ends.binds); no_poll = ends.no_poll; free = ends.free })) (omega (arith, ends.binds)))
  expr_again (grammar.parentheses {o} {c} {x} {from} {to} opened h closed) n least room low ends =
      prefixed n least x (o ∷ from) to room (omega (arith, expr_moves h)) (λ depth deep.
      let inner = before k.CloseParen closed quiet_paren (expr_again h depth 1 (omega arith) (omega arith)) in
      prefix_at (expr depth) (o ∷ from) _ opened (rw (expect_again k.OpenParen o from opened, inner, not_kind c.kind k.CloseParen k.Arrow closed refl, expect_again k.CloseParen c to closed) refl))
  expr_again (grammar.choice {o} {q} {d} {c} {x} {y} {z} {from} {chosen} {other} {to} opened h asked g parted f closed) n least room low ends =
      prefixed n least (e.Choice x y z) (o ∷ from) to room (omega (arith, expr_moves h, expr_moves g, expr_moves f)) (λ depth deep.
      let inner_x = before k.Arrow asked quiet_arrow (expr_again h depth 1 (omega arith) (omega arith)) in
      let inner_y = before k.Colon parted quiet_colon (expr_again g depth 1 (omega (arith, expr_moves h)) (omega arith)) in
      let inner_z = before k.CloseParen closed quiet_paren (expr_again f depth 1 (omega (arith, expr_moves h, expr_moves g)) (omega arith)) in
      prefix_at (expr depth) (o ∷ from) _ opened (rw (expect_again k.OpenParen o from opened, inner_x, is_kind q.kind k.Arrow asked, expect_again k.Arrow q chosen asked, inner_y, expect_again k.Colon d other parted, inner_z, expect_again k.CloseParen c to closed) refl))
