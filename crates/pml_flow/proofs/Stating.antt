-- The table of statements has the statement that stands first at each number.
use Rattle.std.proofs.Common.{◌≡◌, ℕ, zero, suc, ◌+◌, ◌<◌, List, [], ◌∷◌, ◌++◌, length, map, drop, get_or, Option, Some, None, refl, sym, ap, ◌∙◌, append_assoc}
use Rattle.std.specs.Prelude.{slice_get}
use Rattle.std.proofs.lemmas.List.{drop_more}
use Rattle.pml_program.specs.declared.program.Stmt.{Stmt}
use Rattle.pml_program.specs.declared.program.Seq.{Seq, Seq', out-Seq, Row_of-Stmt, end_of-Stmt, more_of-Stmt, items-the_row-Stmt}
use Rattle.pml_program.specs.declared.program.Basic.{Basic, Plain, Goto, Break, If, If', Do, Do', Block, Atomic, DStep, Unless, Row_of-Seq, end_of-Seq, more_of-Seq, items-the_row-Seq, items_hidden-the_row-Seq-0}
use Rattle.promela_process.specs.Control.{Descent, Position, Todo, Back, Under, InAtomic, InDStep, Control, steps, basic_at, sequence_at, descent, todos}
use Rattle.pml_control.proofs.Words.{steps_of, basic_of}
use Rattle.pml_control.specs.Told.{told_in, told_arm, told_row, told_options, told_of}
use Rattle.pml_control.proofs.Positions.{arm_there}
use Rattle.pml_control.proofs.Reaching.{first_of, rest_of, zero_plus, plus_zero, plus_one}
use Rattle.pml_control.proofs.Rows.{steps_out}
use Rattle.promela_process.specs.Offers.{statement_at, stated}
use Rattle.pml_flow.specs.Inside.{either, first_or, inner_in, inner_arm, inner_row, inner_options, inner_list, inner_arms}

map_append : {X Y : Type 0} (f : X → Y) (xs ys : List X) → map f (xs ++ ys) ≡ map f xs ++ map f ys
map_append f [] ys = refl
map_append f (x ∷ xs) ys = ap (λ r. f x ∷ r) (map_append f xs ys)

module _ (b : Seq) where
  abbrev bs : List Stmt
  bs = steps b

  abbrev st : Control → Option Stmt
  st c = stated b c

  both : (xs ys : List Control) (os ps : List (Option Stmt)) → os ≡ map st xs → ps ≡ map st ys → os ++ ps ≡ map st (xs ++ ys)
  both xs ys os ps h k = ap (λ r. r ++ ps) h ∙ ap (λ r. map st xs ++ r) k ∙ sym (map_append st xs ys)

  -- a run and the statement's own number
  closed : (xs : List Control) (os : List (Option Stmt)) (p : Position) (x : Basic) (c : Control) (own : Stmt) → statement_at b p ≡ Some own → os ≡ map st xs → os ++ Some own ∷ [] ≡ map st (xs ++ (Todo p x ∷ c) ∷ [])
  closed xs os p x c own h k = both xs ((Todo p x ∷ c) ∷ []) os (Some own ∷ []) k (ap (λ o. o ∷ []) (sym h))

  -- what stands first among the rest of a sequence
  next_of : (q : List Descent) (i : ℕ) (ss : List Stmt) (c : Control) (next : Option Stmt) → drop i (sequence_at bs q) ≡ ss → next ≡ st c → first_or next ss ≡ st (todos q i ss c)
  next_of q i [] c next h e = e
  next_of q i (s ∷ ss) c next h e = sym (first_of (sequence_at bs q) i s ss h)

  there : (p : Position) (own : Stmt) → statement_at b p ≡ Some own → basic_at (sequence_at bs p.0) p.1 ≡ Some own.basic
  there p own h = ap basic_of h

  mutual
    stated_in : (p : Position) (c : Control) (x : Basic) (own : Stmt) (next : Option Stmt) → statement_at b p ≡ Some own → own.basic ≡ x → next ≡ st c → inner_in next own x ++ Some own ∷ [] ≡ map st (told_in p c x)
    stated_in p c (Plain a) own next h k e = closed [] [] p (Plain a) c own h refl
    stated_in p c (Goto l) own next h k e = closed [] [] p (Goto l) c own h refl
    stated_in p c Break own next h k e = closed [] [] p Break c own h refl
    stated_in p c (If' m row) own next h k e =
        closed (told_options p 0 c row) (inner_options next row) p (If' m row) c own h
        (stated_options p 0 c row next (λ j n f. ap (λ k. sequence_at bs (descent p k)) (f ∙ zero_plus j) ∙ arm_there bs p.0 p.1 j (If' m row) (there p own h ∙ ap Some k)) e)
    stated_in p c (Do' m row) own next h k e =
        let xs : List Control = told_options p 0 (Back p (Do' m row) ∷ c) row in
        ap (λ o. o ∷ (inner_options None row ++ Some own ∷ [])) (sym h)
        ∙ ap (λ r. statement_at b p ∷ r) (closed xs (inner_options None row) p (Do' m row) c own h (stated_options p 0 (Back p (Do' m row) ∷ c) row None (λ j n f. ap (λ k. sequence_at bs (descent p k)) (f ∙ zero_plus j) ∙ arm_there bs p.0 p.1 j (Do' m row) (there p own h ∙ ap Some k)) refl))
    stated_in p c (Block s) own next h k e =
        closed (told_arm (descent p 0) c s) (inner_arm next s) p (Block s) c own h (stated_arm (descent p 0) c s next (arm_there bs p.0 p.1 0 (Block s) (there p own h ∙ ap Some k)) e)
    stated_in p c (Atomic s) own next h k e =
        closed (told_arm (descent p 0) (InAtomic p ∷ c) s) (inner_arm None s) p (Atomic s) c own h (stated_arm (descent p 0) (InAtomic p ∷ c) s None (arm_there bs p.0 p.1 0 (Atomic s) (there p own h ∙ ap Some k)) refl)
    stated_in p c (DStep s) own next h k e =
        closed (told_arm (descent p 0) (InDStep p ∷ c) s) (inner_arm None s) p (DStep s) c own h (stated_arm (descent p 0) (InDStep p ∷ c) s None (arm_there bs p.0 p.1 0 (DStep s) (there p own h ∙ ap Some k)) refl)
    stated_in p c (Unless s u) own next h k e =
        let xs : List Control = told_arm (descent p 1) c u in
        let ys : List Control = told_arm (descent p 0) (Under p u ∷ c) s in
        append_assoc (inner_arm next u) (inner_arm None s) (Some own ∷ [])
        ∙ both xs (ys ++ (Todo p (Unless s u) ∷ c) ∷ []) (inner_arm next u) (inner_arm None s ++ Some own ∷ [])
        (stated_arm (descent p 1) c u next (arm_there bs p.0 p.1 1 (Unless s u) (there p own h ∙ ap Some k)) e)
        (closed ys (inner_arm None s) p (Unless s u) c own h (stated_arm (descent p 0) (Under p u ∷ c) s None (arm_there bs p.0 p.1 0 (Unless s u) (there p own h ∙ ap Some k)) refl))

    stated_arm : (q : List Descent) (c : Control) (s : Seq) (next : Option Stmt) → sequence_at bs q ≡ steps s → next ≡ st c → inner_arm next s ≡ map st (told_arm q c s)
    stated_arm q c (Seq' m row) next h e =
        ap (λ o. o ∷ inner_row next row) e ∙ ap (λ r. st c ∷ r) (stated_row q 0 c row next h e)

    stated_row : {n : _} (q : List Descent) (i : ℕ) (c : Control) (row : Row_of-Stmt n) (next : Option Stmt) → drop i (sequence_at bs q) ≡ items-the_row-Stmt _ row → next ≡ st c → inner_row next row ≡ map st (told_row q i c row)
    stated_row q i c end_of-Stmt next h e = refl
    stated_row q i c (more_of-Stmt ls s ts rest) next h e =
        let own : Stmt = record { labels = ls; basic = s; tokens = ts } in
        let k : Control = todos q (i + 1) (items-the_row-Stmt _ rest) c in
        let r = rest_of (sequence_at bs q) i own (items-the_row-Stmt _ rest) h in
        both (told_row q (i + 1) c rest) (told_in (q, i) k s) (inner_row next rest) (inner_in (first_or next (items-the_row-Stmt _ rest)) own s ++ Some own ∷ [])
        (stated_row q (i + 1) c rest next r e)
        (stated_in (q, i) k s own (first_or next (items-the_row-Stmt _ rest)) (first_of (sequence_at bs q) i own (items-the_row-Stmt _ rest) h) refl (next_of q (i + 1) (items-the_row-Stmt _ rest) c next r e))

    stated_options : {n : _} (p : Position) (k : ℕ) (c : Control) (row : Row_of-Seq n) (next : Option Stmt) → ((j n : ℕ) → n ≡ k + j → sequence_at bs (descent p n) ≡ steps_of (slice_get (items-the_row-Seq _ row) j)) → next ≡ st c → inner_options next row ≡ map st (told_options p k c row)
    stated_options p k c end_of-Seq next h e = refl
    stated_options p k c (more_of-Seq s rest) next h e =
        both (told_options p (k + 1) c rest) (told_arm (descent p k) c s) (inner_options next rest) (inner_arm next s)
        (stated_options p (k + 1) c rest next (λ j n f. h (suc j) n (f ∙ plus_one k j)) e)
        (stated_arm (descent p k) c s next (h 0 k (sym (plus_zero k))) e)

  pub all_stated : inner_arm None b ≡ map st (told_of b)
  all_stated = stated_arm [] [] b None refl refl

-- ---- the definitions go over rows, and the code over lists

row_list : {n : _} (next : Option Stmt) (row : Row_of-Stmt n) → inner_row next row ≡ inner_list next (items-the_row-Stmt _ row)
row_list next end_of-Stmt = refl
row_list next (more_of-Stmt ls s ts rest) =
    let own : Stmt = record { labels = ls; basic = s; tokens = ts } in
    ap (λ r. r ++ (inner_in (first_or next (items-the_row-Stmt _ rest)) own s ++ Some own ∷ [])) (row_list next rest)

arm_list : (next : Option Stmt) (s : Seq) → inner_arm next s ≡ next ∷ inner_list next (steps s)
arm_list next (Seq' m row) = ap (λ r. next ∷ r) (row_list next row)

options_list : {n : _} (next : Option Stmt) (row : Row_of-Seq n) → inner_options next row ≡ inner_arms next (items-the_row-Seq _ row)
options_list next end_of-Seq = refl
options_list next (more_of-Seq s rest) = ap (λ r. r ++ inner_arm next s) (options_list next rest)

abbrev row_of : Basic → (n : _) × Row_of-Seq n
row_of (If' m row) = (_, row)
row_of (Do' m row) = (_, row)
row_of s = (_, end_of-Seq)

in_if : (next : Option Stmt) (own : Stmt) (ss : List Seq) → inner_in next own (If ss) ≡ inner_arms next ss
in_if next own ss = options_list next (row_of (If ss)).1 ∙ ap (inner_arms next) (items_hidden-the_row-Seq-0 ss)

in_do : (next : Option Stmt) (own : Stmt) (ss : List Seq) → inner_in next own (Do ss) ≡ Some own ∷ inner_arms None ss
in_do next own ss = ap (λ r. Some own ∷ r) (options_list None (row_of (Do ss)).1 ∙ ap (inner_arms None) (items_hidden-the_row-Seq-0 ss))

pub done_if : (next : Option Stmt) (own : Stmt) (basic : Basic) (ss xs : List Seq) (old new : List (Option Stmt)) → xs ≡ ss → basic ≡ If ss → new ≡ old ++ inner_arms next xs → new ≡ old ++ inner_in next own basic
done_if next own basic ss xs old new e f h =
    h ∙ ap (λ y. old ++ inner_arms next y) e ∙ ap (λ r. old ++ r) (sym (in_if next own ss)) ∙ ap (λ b. old ++ inner_in next own b) (sym f)

pub done_do : (next : Option Stmt) (own : Stmt) (basic : Basic) (ss xs : List Seq) (old first new : List (Option Stmt)) → xs ≡ ss → basic ≡ Do ss → first ≡ old ++ Some own ∷ [] → new ≡ first ++ inner_arms None xs → new ≡ old ++ inner_in next own basic
done_do next own basic ss xs old first new e f g h =
    h ∙ ap (λ r. r ++ inner_arms None xs) g ∙ append_assoc old (Some own ∷ []) (inner_arms None xs)
    ∙ ap (λ y. old ++ (Some own ∷ inner_arms None y)) e ∙ ap (λ r. old ++ r) (sym (in_do next own ss)) ∙ ap (λ b. old ++ inner_in next own b) (sym f)

pub done_arm : (next : Option Stmt) (s : Seq) (stmts : List Stmt) (old first new : List (Option Stmt)) → stmts ≡ (out-Seq s).steps → first ≡ old ++ next ∷ [] → new ≡ first ++ inner_list next stmts → new ≡ old ++ inner_arm next s
done_arm next s stmts old first new e g h =
    h ∙ ap (λ r. r ++ inner_list next stmts) g ∙ append_assoc old (next ∷ []) (inner_list next stmts)
    ∙ ap (λ y. old ++ (next ∷ inner_list next y)) (e ∙ steps_out s) ∙ ap (λ r. old ++ r) (sym (arm_list next s))

either_first : (next : Option Stmt) (ss : List Stmt) (i : ℕ) → either (slice_get ss i) next ≡ first_or next (drop i ss)
either_first next [] zero = refl
either_first next [] (suc i) = refl
either_first next (s ∷ ss) zero = refl
either_first next (s ∷ ss) (suc i) = either_first next ss i

-- one more statement, from the last to the first
pub one_more : (next f : Option Stmt) (stmts : List Stmt) (i : ℕ) (s d : Stmt) (old mid low new : List (Option Stmt)) → i < length stmts → s ≡ get_or stmts i d → f ≡ either (slice_get stmts (i + 1)) next → mid ≡ old ++ inner_list next (drop (i + 1) stmts) → low ≡ mid ++ inner_in f s s.basic → new ≡ low ++ Some s ∷ [] → new ≡ old ++ inner_list next (drop i stmts)
one_more next f stmts i s d old mid low new l is fs m k n =
    let rest : List Stmt = drop (i + 1) stmts in
    let xs : List (Option Stmt) = inner_list next rest in
    let g : f ≡ first_or next rest = fs ∙ either_first next stmts (i + 1) in
    let e : s ∷ rest ≡ drop i stmts = ap (λ x. x ∷ rest) is ∙ sym (drop_more stmts i d l) in
    n ∙ ap (λ r. r ++ Some s ∷ []) (k ∙ ap (λ r. r ++ inner_in f s s.basic) m)
    ∙ ap (λ o. ((old ++ xs) ++ inner_in o s s.basic) ++ Some s ∷ []) g
    ∙ append_assoc (old ++ xs) (inner_in (first_or next rest) s s.basic) (Some s ∷ [])
    ∙ append_assoc old xs (inner_in (first_or next rest) s s.basic ++ Some s ∷ [])
    ∙ ap (λ ss. old ++ inner_list next ss) e
