-- Small models and states, and what expressions in them are worth.
use Rattle.std.proofs.Common.{◌≡◌, ℕ, ◌+◌, List, [], ◌∷◌, map, ap, false, Some, None, ℤ, pos, Ok}
use denote.Hole.Carrier.{roll}
use Rattle.pml_token.specs.Word.{Word}
use Rattle.pml_token.specs.declared.token.Kind.TheVariants as kind
use Rattle.pml_tree.specs.declared.tree.Scalar.TheVariants as scalar
use Rattle.pml_tree.specs.declared.tree.Search.{Search}
use Rattle.pml_tree.specs.declared.tree.SendOrder.TheVariants as order
use Rattle.pml_tree.specs.declared.tree.Removal.TheVariants as removal
use Rattle.pml_program.specs.declared.form.Form.TheVariants as form
use Rattle.pml_program.specs.declared.expr.Expr.{Expr-F, roll-Expr, fold-roll-Expr}
use Rattle.pml_program.specs.declared.expr.Expr.TheVariants as expr
use Rattle.pml_program.specs.declared.expr.Want.{Want-F, roll-Want, fold-roll-Want}
use Rattle.pml_program.specs.declared.expr.Want.TheVariants as want
use Rattle.pml_program.specs.declared.expr.Target.{Target, roll-Target, fold-roll-Target}
use Rattle.pml_program.specs.declared.program.Action.TheVariants as action
use Rattle.pml_program.specs.declared.program.Stmt.{Stmt}
use Rattle.pml_program.specs.declared.program.Seq.{Seq, roll-Seq}
use Rattle.pml_program.specs.declared.program.Basic.{Basic, Plain}
use Rattle.pml_program.specs.declared.program.Proctype.{Proctype}
use Rattle.promela_process.specs.Control.{Control, settle, at, steps}
use Rattle.promela_process.specs.Numbers.{truth_number}
use Rattle.promela_process.specs.declared.sought.Sought.TheVariants as sought
use Rattle.promela_process.specs.Expressions.{Reading, Valued, Wanted, Placed, Turned, val, want as asks, place, polled, cell_inside, value_step, want_step, target_step, turn_step, ◌>>=◌}
use Rattle.promela_run.specs.declared.live_channel.LiveChannel.{LiveChannel}
use Rattle.promela_run.specs.State.{Stand, State}

-- ---- bodies

abbrev word : Word
word = record { kind = kind.Name; text = []; line = 1 }

abbrev pub bare : Basic → Stmt
bare s = record { labels = []; basic = s; tokens = [] }

abbrev pub body : List Basic → Seq
body ss = roll-Seq record { steps = map bare ss }

abbrev pub only : Basic → Seq
only s = body (s ∷ [])

-- a condition that holds, one that does not, and `timeout`
abbrev pub yes : Basic
yes = Plain (action.Holds (expr.Number (pos 1)))

abbrev pub no : Basic
no = Plain (action.Holds (expr.Number (pos 0)))

abbrev pub timeout : Basic
timeout = Plain (action.Holds expr.Timeout)

abbrev pub otherwise : Basic
otherwise = Plain action.Else

-- a global variable, by its number
abbrev pub global : ℕ → Target
global x = roll-Target record { local = false; variable = x; form = form.Plain scalar.Byte; turns = [] }

-- to the channel that it holds, or from it
abbrev pub sends : ℕ → ℤ → Basic
sends x n = Plain (action.Send (global x) order.Fifo (expr.Number n ∷ []))

abbrev pub receives : ℕ → Search → ℤ → Basic
receives x s n = Plain (action.Receive (global x) s removal.Remove (want.Exactly n ∷ []))

-- a poll of the channel as a condition
abbrev pub polls : ℕ → Search → ℤ → Basic
polls x s n = Plain (action.Holds (expr.Poll (global x) s (want.Exactly n ∷ [])))

-- ---- states

abbrev proctype : Seq → Proctype
proctype b = record { name = word; owner = 1; starts = 1; parameters = 0; variables = []; body = b; end = word }

abbrev start : Seq → Control
start b = settle b (at (steps b) ([], 0))

abbrev standing : ℕ → List Seq → List Stand
standing k [] = []
standing k (b ∷ bs) = record { sort = k; control = start b } ∷ standing (k + 1) bs

-- a channel with this capacity and these messages
abbrev pub channel : ℕ → List (List ℤ) → LiveChannel
channel n ms = record { frame = 0; channel = record { capacity = n; types = form.Plain scalar.Byte ∷ []; messages = ms } }

-- One process in each of these bodies, where it begins. The first global variable holds 1, the second 2.
abbrev pub state : List Seq → List LiveChannel → State
state bs cs = record {
  program = record { globals = []; constants = []; typedefs = []; proctypes = map proctype bs };
  frames = ((pos 1 ∷ []) ∷ (pos 2 ∷ []) ∷ []) ∷ [];
  stands = standing 0 bs;
  channels = cs;
  holder = None;
  lossy = false;
}

abbrev pub held_by : ℕ → State → State
held_by p s = record s { holder = Some p }

-- all processes at their closing braces
abbrev closed : List Stand → List Stand
closed [] = []
closed (y ∷ ys) = record { sort = y.sort; control = [] } ∷ closed ys

abbrev pub at_braces : State → State
at_braces s = record s { stands = closed s.stands }

-- ---- what expressions are worth

pub number_is : (n : ℤ) (r : Reading) → val (expr.Number n) r ≡ Ok n
unfolding roll-Expr roll
number_is n r = ap (λ (f : Valued). f r) (fold-roll-Expr Valued Wanted Placed Turned value_step want_step target_step turn_step (Expr-F.Number n))

pub timeout_is : (r : Reading) → val expr.Timeout r ≡ Ok (truth_number r.timeout)
unfolding roll-Expr roll
timeout_is r = ap (λ (f : Valued). f r) (fold-roll-Expr Valued Wanted Placed Turned value_step want_step target_step turn_step Expr-F.Timeout)

pub exactly_is : (n : ℤ) (r : Reading) → asks (want.Exactly n) r ≡ Ok (sought.Exactly n)
unfolding roll-Want roll
exactly_is n r = ap (λ (f : Wanted). f r) (fold-roll-Want Valued Wanted Placed Turned value_step want_step target_step turn_step (Want-F.Exactly n))

pub global_is : (x : ℕ) (r : Reading) → place (global x) r ≡ (cell_inside (r.cells (r.frame false) x) 0 >>= λ c. Ok (record { frame = r.frame false; variable = x; cell = c }))
global_is x r = ap (λ (f : Placed). f.lies r) (fold-roll-Target Valued Wanted Placed Turned value_step want_step target_step turn_step record { local = false; variable = x; form = form.Plain scalar.Byte; turns = [] })

pub poll_is : (x : ℕ) (s : Search) (n : ℤ) (r : Reading) → val (expr.Poll (global x) s (want.Exactly n ∷ [])) r
    ≡ (place (global x) r >>= λ at. polled s 1 (asks (want.Exactly n) r >>= λ w. Ok (w ∷ [])) (r.channel (r.holds at)))
unfolding roll-Expr roll
poll_is x s n r = ap (λ (f : Valued). f r) (fold-roll-Expr Valued Wanted Placed Turned value_step want_step target_step turn_step (Expr-F.Poll (global x) s (want.Exactly n ∷ [])))
