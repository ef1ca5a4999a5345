-- What may be done next, level by level, and the offers of a point of a body: statement, line, text, and whether a process may end there.
-- Hold it against chapter 7 of the book; the pages `if`, `do`, `unless` and `end`; docs/FORMATS.md, 'Lines on standard output'.
use Rattle.std.specs.Prelude.{◌≡◌, ℕ, ◌+◌, List, [], ◌∷◌, ◌++◌, Option, Some, None, if◌then◌else◌, slice_get, Bool, false, ◌||◌, nat_eq, codes, true, ◌&&◌, unwrap_or, option_map}
use Rattle.pml_program.specs.declared.program.Seq.{Seq, Seq', Row_of-Stmt, end_of-Stmt, more_of-Stmt, items-the_row-Stmt}
use Rattle.pml_program.specs.declared.program.Basic.{Basic, Plain, Goto, Break, If', Do', Block, Atomic, DStep, Unless, Row_of-Seq, end_of-Seq, more_of-Seq}
use Rattle.promela_process.specs.Control.{Descent, Position, Control, Todo, Back, Under, InAtomic, InDStep, steps, descent, todos, into_arm, in_d_step, at, basic_at, sequence_at, settle, IsSettled}
use Rattle.pml_program.specs.declared.program.Stmt.{Stmt}
use Rattle.std.specs.List.{starts_with, flat_map}
use Rattle.pml_token.specs.Word.{Word}
use Rattle.std.specs.Fmt.{decimal}

-- A point: settled, and the position of what stands first, if anything is left.
pub record IsPoint (b : Seq) (p : Position) : Type 0 where
  pub settled : IsSettled b (at (steps b) p)
  pub stands : basic_at (sequence_at (steps b) p.0) p.1 ≡ None → at (steps b) p ≡ []

-- the position of the outermost atomic
abbrev pub outermost : Control → Option Position
outermost [] = None
outermost (InAtomic p ∷ c) = Some (unwrap_or (outermost c) p)
outermost (f ∷ c) = outermost c

-- An offer: its statement, and what is to do after it.
abbrev pub Edge : Type 0
Edge = Position × Control

-- levels from 0 upwards, each with its offers in text order
abbrev pub Levels : Type 0
Levels = List (List Edge)

-- a level of one offer
abbrev pub one : Position → Control → Levels
one p c = ((p, c) ∷ []) ∷ []

-- level by level, the first's offers and then the second's
abbrev pub join : Levels → Levels → Levels
join [] ys = ys
join (x ∷ xs) [] = x ∷ xs
join (x ∷ xs) (y ∷ ys) = (x ++ y) ∷ join xs ys

-- b is the body of the proctype
module _ (b : Seq) where
  abbrev mutual
    -- the offers of a statement that stands first, before c, with the escapes inside it alone
    pub begins : Position → Basic → Control → Levels
    begins p (Plain x) c = one p (settle b c)
    begins p (Goto l) c = one p (settle b (Todo p (Goto l) ∷ c))
    begins p Break c = one p (settle b (Todo p Break ∷ c))
    begins p (If' m row) c = begins_any p 0 row c
    begins p (Do' m row) c = begins_any p 0 row (Back p (Do' m row) ∷ c)
    begins p (Block s) c = begins_seq (descent p 0) s c
    begins p (Atomic s) c = begins_seq (descent p 0) s (InAtomic p ∷ c)
    begins p (DStep s) c =
        if in_d_step c then begins_seq (descent p 0) s (InDStep p ∷ c) else one p (settle b c)
    begins p (Unless s e) c = begins_seq (descent p 0) s (Under p e ∷ c) ++ begins_seq (descent p 1) e c

    -- those of a sequence: of its first statement
    pub begins_seq : List Descent → Seq → Control → Levels
    begins_seq q (Seq' m row) c = begins_row q row c

    pub begins_row : {n : _} → List Descent → Row_of-Stmt n → Control → Levels
    begins_row q end_of-Stmt c = []
    begins_row q (more_of-Stmt ls s ts rest) c =
        begins (q, 0) s (todos q 1 (items-the_row-Stmt _ rest) c)

    -- those of options, in text order
    pub begins_any : {n : _} → Position → ℕ → Row_of-Seq n → Control → Levels
    begins_any p k end_of-Seq c = []
    begins_any p k (more_of-Seq s rest) c =
        join (begins_seq (descent p k) s c) (begins_any p (k + 1) rest c)

  -- the levels of the escapes that stand over c, from the innermost to the outermost, none over a d_step
  abbrev pub escapes : Control → Levels
  escapes [] = []
  escapes (InDStep p ∷ c) = []
  escapes (Under p e ∷ c) = begins_seq (descent p 1) e c ++ escapes c
  escapes (f ∷ c) = escapes c

  -- the offers of a settled control
  abbrev pub offers : Control → Levels
  offers [] = []
  offers (Todo p s ∷ c) = begins p s c ++ escapes c
  offers (f ∷ c) = []

  -- the first point inside a d_step
  abbrev pub inside : Position → Seq → Control → Control
  inside p s c = settle b (into_arm p (DStep s) 0 c)

-- ---- the offers of a point of a body

-- the statement at a position, if there is one
abbrev pub statement_at : Seq → Position → Option Stmt
statement_at b p = slice_get (sequence_at (steps b) p.0) p.1

-- the statement that stands first
abbrev pub stated : Seq → Control → Option Stmt
stated b [] = None
stated b (Todo p s ∷ c) = statement_at b p
stated b (f ∷ c) = None

-- the line of the first token, or of the closing brace
abbrev pub first_line : List Word → ℕ → ℕ
first_line [] brace = brace
first_line (w ∷ ws) brace = w.line

-- the line of what stands first, or of the closing brace where nothing does
abbrev pub line_at : Seq → ℕ → Control → ℕ
line_at b brace c = unwrap_or (option_map (λ (s : Stmt). first_line s.tokens brace) (stated b c)) brace

-- a label that begins with `end`
abbrev pub is_end : List ℕ → Bool
is_end l = starts_with nat_eq l (codes "end")

-- one of these labels begins with `end`
abbrev pub any_end : List Word → Bool
any_end [] = false
any_end (w ∷ ws) = is_end w.text || any_end ws

-- tokens, joined by one space
abbrev pub joined_by_spaces : List Word → List ℕ
joined_by_spaces [] = []
joined_by_spaces (w ∷ ws) = w.text ++ flat_map (λ (v : Word). codes " " ++ v.text) ws

-- a statement's tokens, or `d_step`
abbrev pub statement_text : Basic → List Word → List ℕ
statement_text (DStep s) ts = codes "d_step"
statement_text _ ts = joined_by_spaces ts

-- the line of an offered statement, in its text and by itself
abbrev pub offer_line : Stmt → ℕ
offer_line s = first_line s.tokens 0

-- `line L [TEXT]`
abbrev pub offer_text : Stmt → List ℕ
offer_text s = codes "line " ++ (decimal (offer_line s) ++ (codes " [" ++ (statement_text s.basic s.tokens ++ codes "]")))

-- ---- what an offer says

-- two lists of descents are the same
abbrev pub same_descents : List Descent → List Descent → Bool
same_descents [] [] = true
same_descents (t ∷ ts) (u ∷ us) = nat_eq t.0 u.0 && (nat_eq t.1 u.1 && same_descents ts us)
same_descents ts us = false

-- two positions that are there, and equal
abbrev pub same_position : Option Position → Option Position → Bool
same_position (Some p) (Some q) = nat_eq p.1 q.1 && same_descents p.0 q.0
same_position p q = false

-- An offer: its statement's position, that statement without its labels, what is to do after it, whether both lie in one outermost
-- atomic, whether the latter lies in a d_step, the first point inside the statement where it is a d_step, its text, and its line.
pub record Offer : Type 0 where
  pub statement : Position
  pub basic : Option Basic
  pub next : Control
  pub keeps : Bool
  pub stays : Bool
  pub entry : Option Control
  pub text : List ℕ
  pub line : ℕ

-- the first point inside the d_step at a position
abbrev pub entry_of : Seq → Position → Option Basic → Option Control
entry_of b p (Some (DStep s)) = Some (settle b (at (steps b) (descent p 0, 0)))
entry_of b p x = None

-- the offer that an edge of control stands for
abbrev pub offer_of : Seq → Edge → Offer
offer_of b e = record {
  statement = e.0;
  basic = basic_at (sequence_at (steps b) e.0.0) e.0.1;
  next = e.1;
  keeps = same_position (outermost (at (steps b) e.0)) (outermost e.1);
  stays = in_d_step e.1;
  entry = entry_of b e.0 (basic_at (sequence_at (steps b) e.0.0) e.0.1);
  text = unwrap_or (option_map offer_text (statement_at b e.0)) [];
  line = unwrap_or (option_map offer_line (statement_at b e.0)) 0;
}
