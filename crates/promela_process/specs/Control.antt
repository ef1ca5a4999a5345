-- What a process still has to do, by the syntax alone; where control goes round without an end, and where a d_step begins.
-- Hold it against chapter 7 of the book; the pages `sequence`, `goto`, `break`, `atomic`, `d_step` and `unless`; docs/REFUSALS.md, M12 and M13.
use Rattle.std.specs.Prelude.{◌≡◌, ℕ, zero, suc, ◌+◌, List, [], ◌∷◌, ◌++◌, length, drop, Bool, true, false, Option, Some, None, if◌then◌else◌, slice_get, sum_by, unwrap_or, option_map, ◌⊎◌}
use Rattle.std.specs.List.{list_any}
use Rattle.std.specs.Str.{bytes_eq}
use Rattle.pml_token.specs.Word.{Word}
use Rattle.pml_program.specs.declared.program.Action.TheVariants as action
use Rattle.pml_program.specs.declared.program.Stmt.{Stmt}
use Rattle.pml_program.specs.declared.program.Seq.{Seq, Seq', Row_of-Stmt, end_of-Stmt, more_of-Stmt, items-the_row-Stmt}
use Rattle.pml_program.specs.declared.program.Basic.{Basic, Plain, Goto, Break, If', Do', Block, Atomic, DStep, Unless, Row_of-Seq, end_of-Seq, more_of-Seq, items-the_row-Seq}

-- A descent into a statement: its position in its sequence, and which arm of it.
abbrev pub Descent : Type 0
Descent = ℕ × ℕ

-- The position of a statement: the descents that lead to its sequence, the innermost first, and its position there.
abbrev pub Position : Type 0
Position = List Descent × ℕ

-- What is pending: a statement still to do, the way back to this do, what is under this escape, in this atomic, in this d_step.
pub data Pending : Type 0 where
  Todo : Position → Basic → Pending
  Back : Position → Basic → Pending
  Under : Position → Seq → Pending
  InAtomic : Position → Pending
  InDStep : Position → Pending

-- What a process still has to do: what is pending, the innermost first.
abbrev pub Control : Type 0
Control = List Pending

-- the statements of a sequence
abbrev pub steps : Seq → List Stmt
steps (Seq' m row) = items-the_row-Stmt _ row

-- the sequences inside a statement: the options, the body, or the main arm and the escape
abbrev pub arms : Basic → List Seq
arms (If' m row) = items-the_row-Seq _ row
arms (Do' m row) = items-the_row-Seq _ row
arms (Block s) = s ∷ []
arms (Atomic s) = s ∷ []
arms (DStep s) = s ∷ []
arms (Unless s e) = s ∷ e ∷ []
arms s = []

-- the statements of one arm, none where there is no such arm
abbrev pub arm : Basic → ℕ → List Stmt
arm s k = unwrap_or (option_map steps (slice_get (arms s) k)) []

-- where the statements of an arm are
abbrev pub descent : Position → ℕ → List Descent
descent p k = (p.1, k) ∷ p.0

-- these statements, from this position on, before c
abbrev pub todos : List Descent → ℕ → List Stmt → Control → Control
todos q i [] c = c
todos q i (s ∷ ss) c = Todo (q, i) s.basic ∷ todos q (i + 1) ss c

-- c behind an arm of a statement: a do is come back to, an escape stays above the main arm
abbrev pub behind : Position → Basic → ℕ → Control → Control
behind p (Do' m row) k c = Back p (Do' m row) ∷ c
behind p (Atomic s) k c = InAtomic p ∷ c
behind p (DStep s) k c = InDStep p ∷ c
behind p (Unless s e) zero c = Under p e ∷ c
behind p s k c = c

-- an arm of a statement, before c
abbrev pub into_arm : Position → Basic → ℕ → Control → Control
into_arm p s k c = todos (descent p k) 0 (arm s k) (behind p s k c)

-- the statement at a position of a sequence without its labels, if there is one
abbrev pub basic_at : List Stmt → ℕ → Option Basic
basic_at ss i = option_map (λ (s : Stmt). s.basic) (slice_get ss i)

-- the sequence that these descents lead to
abbrev pub sequence_at : List Stmt → List Descent → List Stmt
sequence_at b [] = b
sequence_at b (t ∷ q) = unwrap_or (option_map (λ (s : Stmt). arm s.basic t.1) (slice_get (sequence_at b q) t.0)) []

-- what is to do after it
abbrev pub beyond : List Stmt → List Descent → Control
beyond b [] = []
beyond b (t ∷ q) =
    let rest = todos q (t.0 + 1) (drop (t.0 + 1) (sequence_at b q)) (beyond b q) in
    unwrap_or (option_map (λ (s : Stmt). behind (q, t.0) s.basic t.1 rest) (slice_get (sequence_at b q) t.0)) []

-- what is to do from a position on
abbrev pub at : List Stmt → Position → Control
at b p = todos p.0 p.1 (drop p.1 (sequence_at b p.0)) (beyond b p.0)

-- all statements with their positions, in text order
abbrev mutual
  pub all_in : Position → Basic → List (Position × Stmt)
  all_in p (If' m row) = all_arms p 0 row
  all_in p (Do' m row) = all_arms p 0 row
  all_in p (Block s) = all_seq (descent p 0) s
  all_in p (Atomic s) = all_seq (descent p 0) s
  all_in p (DStep s) = all_seq (descent p 0) s
  all_in p (Unless s e) = all_seq (descent p 0) s ++ all_seq (descent p 1) e
  all_in p s = []

  pub all_seq : List Descent → Seq → List (Position × Stmt)
  all_seq q (Seq' m row) = all_row q 0 row

  pub all_row : {n : _} → List Descent → ℕ → Row_of-Stmt n → List (Position × Stmt)
  all_row q i end_of-Stmt = []
  all_row q i (more_of-Stmt ls s ts rest) =
      ((q, i), record { labels = ls; basic = s; tokens = ts }) ∷ (all_in (q, i) s ++ all_row q (i + 1) rest)

  pub all_arms : {n : _} → Position → ℕ → Row_of-Seq n → List (Position × Stmt)
  all_arms p k end_of-Seq = []
  all_arms p k (more_of-Seq s rest) = all_seq (descent p k) s ++ all_arms p (k + 1) rest

-- all statements of a body
abbrev pub all_of : Seq → List (Position × Stmt)
all_of b = all_seq [] b

-- whether a label is one of these
abbrev pub is_label_among : List ℕ → List Word → Bool
is_label_among l ls = list_any (λ (w : Word). bytes_eq l w.text) ls

-- the position of the first statement that has the label
abbrev pub position_of : List ℕ → List (Position × Stmt) → Option Position
position_of l [] = None
position_of l (e ∷ es) = if is_label_among l e.1.labels then Some e.0 else position_of l es

-- what is to do from a label on, if there is one
abbrev pub at_label : Seq → List ℕ → Control
at_label b l = unwrap_or (option_map (at (steps b)) (position_of l (all_of b))) []

-- what follows the innermost do
abbrev pub behind_break : Control → Control
behind_break [] = []
behind_break (Back p s ∷ c) = c
behind_break (f ∷ c) = behind_break c

-- whether control is in a d_step
abbrev pub in_d_step : Control → Bool
in_d_step [] = false
in_d_step (InDStep p ∷ c) = true
in_d_step (f ∷ c) = in_d_step c

-- One move of settling, or none where c is settled.
abbrev pub move_on : Seq → Control → Option Control
move_on b [] = None
move_on b (Todo p (Goto l) ∷ c) = Some (at_label b l.text)
move_on b (Todo p Break ∷ c) = Some (behind_break c)
move_on b (Todo p (Block s) ∷ c) = Some (into_arm p (Block s) 0 c)
move_on b (Todo p (Atomic s) ∷ c) = Some (into_arm p (Atomic s) 0 c)
move_on b (Todo p (Unless s e) ∷ c) = Some (into_arm p (Unless s e) 0 c)
move_on b (Todo p (DStep s) ∷ c) = if in_d_step c then Some (into_arm p (DStep s) 0 c) else None
move_on b (Todo p s ∷ c) = None
move_on b (Back p s ∷ c) = Some (Todo p s ∷ c)
move_on b (f ∷ c) = Some c

-- what c comes to by at most n moves
abbrev pub settle_within : ℕ → Seq → Control → Control
settle_within zero b c = c
settle_within (suc n) b c = unwrap_or (option_map (settle_within n b) (move_on b c)) c

-- c comes to d by moves of settling
pub data Comes (b : Seq) : Control → Control → Type 0 where
  here : {c : Control} → Comes b c c
  after : {c d e : Control} → move_on b c ≡ Some d → Comes b d e → Comes b c e

-- nothing is left to settle
abbrev pub IsSettled : Seq → Control → Type 0
IsSettled b c = move_on b c ≡ None

-- Two for each statement and one for each of its arms, and two: more moves than this come to one control twice, and so never end.
abbrev pub most_moves : Seq → ℕ
most_moves b = sum_by (λ (e : Position × Stmt). 2 + length (arms e.1.basic)) (all_of b) + 2

-- the control that c comes to without a step
unfoldable pub settle : Seq → Control → Control
settle b c = settle_within (most_moves b) b c

-- ---- circles of gotos, and where d_steps begin

-- settling ends at each position
abbrev pub SettlesEverywhere : Seq → Type 0
SettlesEverywhere b = (p : Position) → IsSettled b (settle b (at (steps b) p))

-- c comes to d by one move or more
pub record ComesBack (b : Seq) (c d : Control) : Type 0 where
  pub next : Control
  pub moves : move_on b c ≡ Some next
  pub comes : Comes b next d

-- A circle of gotos: what is to do from a position on comes to itself without a step.
pub record Circle (b : Seq) : Type 0 where
  pub position : Position
  pub round : ComesBack b (at (steps b) position) (at (steps b) position)

-- an else stands first
abbrev pub begins_else : Control → Bool
begins_else (Todo p (Plain action.Else) ∷ c) = true
begins_else c = false

-- control is in the d_step at this position
abbrev pub LiesIn : Position → Control → Type 0
LiesIn p [] = ⊥
LiesIn p (InDStep q ∷ c) = (q ≡ p) ⊎ LiesIn p c
LiesIn p (f ∷ c) = LiesIn p c

-- A d_step whose first point begins with an else or lies outside it.
pub record BadFirstPoint (b : Seq) : Type 0 where
  pub position : Position
  pub body : Seq
  pub stands : basic_at (sequence_at (steps b) position.0) position.1 ≡ Some (DStep body)
  pub point : Control
  pub comes : Comes b (at (steps b) (descent position 0, 0)) point
  pub settled : IsSettled b point
  pub bad : (begins_else point ≡ true) ⊎ (LiesIn position point → ⊥)

-- each d_step's first point, where there is one, begins with no else and lies in it
abbrev pub FirstPointsFit : Seq → Type 0
FirstPointsFit b =
    (p : Position) (s : Seq) → basic_at (sequence_at (steps b) p.0) p.1 ≡ Some (DStep s) → (c : Control) → Comes b (at (steps b) (descent p 0, 0)) c
    → IsSettled b c → (begins_else c ≡ false) × LiesIn p c
