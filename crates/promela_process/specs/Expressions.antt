-- The value of an expression, and when a message matches what a receive asks.
-- Hold it against chapter 3 of the book; the pages `cond_expr`, `len`, `poll`, `timeout`, `_pid` and `_nr_pr`.
use Rattle.std.specs.Prelude.{Bool, true, false, ◌&&◌, List, [], ◌∷◌, ℤ, map, ℕ, ◌+◌, ◌*◌, not, ◌||◌, if◌then◌else◌, ◌==◌, nat_lt, length, pos, negsuc, Option, Some, None, Result, Ok, Err, ok_or, option_map, unwrap_or}
use Rattle.std.specs.Ordering.{int_eq}
use Rattle.promela_process.specs.declared.sought.Sought.{Sought}
use Rattle.promela_process.specs.declared.sought.Sought.TheVariants.{Exactly, Into, Anything}
use Rattle.pml_tree.specs.declared.tree.Search.{Search}
use Rattle.pml_tree.specs.declared.tree.Search.TheVariants.{First, Matching}
use Rattle.pml_tree.specs.declared.tree.Fill.{Fill}
use Rattle.pml_tree.specs.declared.tree.Fill.TheVariants.{Length, IsEmpty, IsFull, IsNotEmpty, IsNotFull}
use Rattle.diagnostics.specs.declared.fault.Fault.{Fault}
use Rattle.diagnostics.specs.declared.fault.Fault.TheVariants.{IndexOutOfRange, NoSuchChannel, WrongNumberOfFields}
use Rattle.pml_program.specs.declared.expr.Expr.{Expr, Expr-F, fold-Expr}
use Rattle.pml_program.specs.declared.expr.Want.{Want, Want-F, fold-Want}
use Rattle.pml_program.specs.declared.form.Form.{Form}
use Rattle.pml_program.specs.declared.expr.Target.{Target, Target-F, fold-Target}
use Rattle.pml_program.specs.declared.expr.Turn.{Turn, Turn-F, fold-Turn}
use Rattle.promela_process.specs.declared.place.Place.{Place}
use Rattle.promela_process.specs.Numbers.{truth_number, is_zero, prefixed, infixed, decided}

-- a number matches an equal field, a place and `_` match every field
abbrev pub matches_field : Sought → ℤ → Bool
matches_field (Exactly n) x = int_eq n x
matches_field (Into p form) x = true
matches_field Anything x = true

-- each field is what is asked for it, and there are as many
abbrev pub matched : List Sought → List ℤ → Bool
matched [] [] = true
matched [] (x ∷ xs) = false
matched (w ∷ ws) [] = false
matched (w ∷ ws) (x ∷ xs) = matches_field w x && matched ws xs

-- a channel as an expression sees it: how many messages and fields it may have, and its messages
pub record Filling : Type 0 where
  pub capacity : ℕ
  pub fields : ℕ
  pub messages : List (List ℤ)

-- what an expression may read: the frame of local variables and that of global ones; how many cells a variable of a frame has;
-- what a place holds; the number of the process, and how many live; `timeout`; and what a channel's number names
pub record Reading : Type 0 where
  pub frame : Bool → ℕ
  pub cells : ℕ → ℕ → ℕ
  pub holds : Place → ℤ
  pub pid : ℤ
  pub process_count : ℤ
  pub timeout : Bool
  pub channel : ℤ → Option Filling

-- the second goes on with what the first gives, or the first's fault stands
infixl 10 ◌>>=◌
abbrev pub ◌>>=◌ : {A B : Type 0} → Result A Fault → (A → Result B Fault) → Result B Fault
(Ok x) >>= f = f x
(Err e) >>= f = Err e

-- what is asked of how full a channel is
abbrev pub filled : Fill → Filling → ℤ
filled Length c = pos (length c.messages)
filled IsEmpty c = truth_number (length c.messages == 0)
filled IsFull c = truth_number (not (nat_lt (length c.messages) c.capacity))
filled IsNotEmpty c = truth_number (not (length c.messages == 0))
filled IsNotFull c = truth_number (nat_lt (length c.messages) c.capacity)

-- whether the oldest message matches, or any
abbrev pub is_match : Search → List Sought → List (List ℤ) → Bool
is_match search ws [] = false
is_match First ws (m ∷ ms) = matched ws m
is_match Matching ws (m ∷ ms) = matched ws m || is_match Matching ws ms

-- a poll of a channel that is there: the number of fields, then the fill, then the pattern
abbrev pub polled : Search → ℕ → Result (List Sought) Fault → Option Filling → Result ℤ Fault
polled search count wants None = Err NoSuchChannel
polled search count wants (Some c) =
    if not (count == c.fields) then Err WrongNumberOfFields
    else (if length c.messages == 0 || c.capacity == 0 then Ok (pos 0) else (wants >>= λ ws. Ok (truth_number (is_match search ws c.messages))))

-- an index within its array
abbrev pub index_inside : ℕ → ℤ → Result ℕ Fault
index_inside size (pos i) = if nat_lt i size then Ok i else Err IndexOutOfRange
index_inside size (negsuc i) = Err IndexOutOfRange

-- a cell of a variable that has so many; in a checked model only an index leads out of its variable
abbrev pub cell_inside : ℕ → ℕ → Result ℕ Fault
cell_inside whole cell = if nat_lt cell whole then Ok cell else Err IndexOutOfRange

-- ---- one level of the tree, each part replaced by what it gives

-- an expression gives a value, and a turn the cells that it goes on by
abbrev pub Valued : Type 0
Valued = Reading → Result ℤ Fault

-- a reference gives a place, and its type is known before
pub record Placed : Type 0 where
  pub form : Form
  pub lies : Reading → Result Place Fault

-- how far a turn leads into a variable, or its fault
abbrev pub Turned : Type 0
Turned = Reading → Result ℕ Fault

-- what a receive asks for one field, or a fault
abbrev pub Wanted : Type 0
Wanted = Reading → Result Sought Fault

-- what a receive asks, field by field, or the first fault
abbrev pub wants_of : List Wanted → Reading → Result (List Sought) Fault
wants_of [] r = Ok []
wants_of (a ∷ more) r = a r >>= λ w. wants_of more r >>= λ ws. Ok (w ∷ ws)

-- the value of an expression by those of its parts; what is not evaluated has no fault
abbrev pub value_step : Expr-F Valued Wanted Placed Turned → Valued
value_step (Expr-F.Number n) r = Ok n
value_step Expr-F.Pid r = Ok r.pid
value_step Expr-F.ProcessCount r = Ok r.process_count
value_step Expr-F.Timeout r = Ok (truth_number r.timeout)
value_step (Expr-F.Read p) r = p.lies r >>= λ at. Ok (r.holds at)
value_step (Expr-F.Ask fill p) r = p.lies r >>= λ at. ok_or (option_map (filled fill) (r.channel (r.holds at))) NoSuchChannel
value_step (Expr-F.Poll p search args) r = p.lies r >>= λ at. polled search (length args) (wants_of args r) (r.channel (r.holds at))
value_step (Expr-F.Unary op a) r = a r >>= λ x. Ok (prefixed op x)
value_step (Expr-F.Binary op a b) r = a r >>= λ x. unwrap_or (option_map Ok (decided op x)) (b r >>= λ y. infixed op x y)
value_step (Expr-F.Choice a b c) r = a r >>= λ x. if is_zero x then c r else b r

-- what is asked for a field by the values of its parts
abbrev pub want_step : Want-F Valued Wanted Placed Turned → Wanted
want_step (Want-F.Exactly n) r = Ok (Exactly n)
want_step (Want-F.Equal a) r = a r >>= λ n. Ok (Exactly n)
want_step (Want-F.Into p) r = p.lies r >>= λ at. Ok (Into at p.form)
want_step Want-F.Anything r = Ok Anything

-- from a cell on by each turn, never out of the whole
abbrev pub cells_of : List Turned → ℕ → ℕ → Reading → Result ℕ Fault
cells_of [] whole cell r = Ok cell
cells_of (s ∷ ss) whole cell r = s r >>= λ n. cell_inside whole (cell + n) >>= λ c. cells_of ss whole c r

-- the cell of a variable of a frame that turns lead to
abbrev pub cell_in : ℕ → ℕ → List Turned → Reading → Result Place Fault
cell_in frame variable turns r =
    let whole = r.cells frame variable in
    cell_inside whole 0 >>= λ c. cells_of turns whole c r >>= λ cell. Ok (record { frame = frame; variable = variable; cell = cell })

-- where a target lies by its turns
abbrev pub target_step : Target-F Valued Wanted Placed Turned → Placed
target_step p = record { form = p.form; lies = λ r. cell_in (r.frame p.local) p.variable p.turns r }

-- the value of an index, which is within its array, or a fault
abbrev pub index_of : Option Valued → ℕ → Reading → Result ℕ Fault
index_of None length r = Ok 0
index_of (Some a) length r = a r >>= index_inside length

-- how far a turn leads: its offset, and its stride for each place before the index
abbrev pub turn_step : Turn-F Valued Wanted Placed Turned → Turned
turn_step s r = index_of s.index s.length r >>= λ i. Ok (s.offset + i * s.stride)

-- ---- the whole tree

-- the value of an expression in what it reads, or its fault
abbrev pub val : Expr → Valued
val = fold-Expr Valued Wanted Placed Turned value_step want_step target_step turn_step

-- a target, with its type and where it lies
abbrev pub placed_target : Target → Placed
placed_target = fold-Target Valued Wanted Placed Turned value_step want_step target_step turn_step

-- the cell of a target, or its fault
abbrev pub place : Target → Reading → Result Place Fault
place t = (placed_target t).lies

-- how far a turn leads into a variable
abbrev pub turned_by : Turn → Turned
turned_by = fold-Turn Valued Wanted Placed Turned value_step want_step target_step turn_step

-- what a receive asks for one field
abbrev pub want : Want → Wanted
want = fold-Want Valued Wanted Placed Turned value_step want_step target_step turn_step

-- what arguments ask, or the first fault from the left
abbrev pub asked_by : List Want → Reading → Result (List Sought) Fault
asked_by ws = wants_of (map want ws)
