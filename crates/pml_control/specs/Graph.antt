-- The positions of a body, numbered from its end, and where settling goes on from each.
use Rattle.std.specs.Prelude.{◌≡◌, ◌<◌, MatchBool, ℕ, ◌+◌, ◌-◌, List, [], ◌∷◌, ◌++◌, length, map, Bool, true, false, Option, Some, None, if◌then◌else◌, ◌||◌, nat_lt, slice_index_or}
use Rattle.pml_token.specs.Word.{Word}
use Rattle.pml_program.specs.declared.program.Action.{Action}
use Rattle.pml_program.specs.declared.program.Action.TheVariants as action
use Rattle.pml_program.specs.declared.program.Stmt.{Stmt}
use Rattle.pml_program.specs.declared.program.Seq.{Seq, Seq', Row_of-Stmt, end_of-Stmt, more_of-Stmt}
use Rattle.pml_program.specs.declared.program.Basic.{Basic, Plain, Goto, Break, If', Do', Block, Atomic, DStep, Unless, Row_of-Seq, end_of-Seq, more_of-Seq}
use Rattle.pml_control.specs.declared.ends.Ending.{Ending}
use Rattle.pml_control.specs.declared.ends.Ending.TheVariants as ending
use Rattle.pml_control.specs.Ends.{ending_of}
use Rattle.promela_process.specs.Control.{is_label_among, steps}

-- A post: a statement with its labels, or the end of a sequence. It goes on to a label, to another post, or stays.
-- Of a d_step it has the least number inside, and that of its first statement, which is the greatest.
pub record Spot : Type 0 where
  pub labels : List Word
  pub goto : Option (List ℕ)
  pub next : Option ℕ
  pub is_else : Bool
  pub d_step : Option (ℕ × ℕ)

-- where settling ends
abbrev pub stay : List Word → Bool → Spot
stay ls e = record { labels = ls; goto = None; next = None; is_else = e; d_step = None }

-- a goto
abbrev pub leap : List Word → List ℕ → Spot
leap ls l = record { labels = ls; goto = Some l; next = None; is_else = false; d_step = None }

-- what goes on to post n
abbrev pub pass : List Word → ℕ → Spot
pass ls n = record { labels = ls; goto = None; next = Some n; is_else = false; d_step = None }

-- a d_step whose first statement is post n, and that is entered only where control is in one
abbrev pub gate : List Word → Bool → ℕ → ℕ → Spot
gate ls inside least n = record {
  labels = ls;
  goto = None;
  next = if inside then Some n else None;
  is_else = false;
  d_step = Some (least, n);
}

-- whether a statement is an else
abbrev pub else_of : Action → Bool
else_of action.Else = true
else_of a = false

-- a statement that is entered at the last of the posts of its arm, behind post `last`
abbrev pub close : ℕ → List Word → List Spot → List Spot
close last ls ns = ns ++ pass ls (last + length ns) ∷ []

-- the same of a d_step
abbrev pub close_gate : ℕ → List Word → Bool → List Spot → List Spot
close_gate last ls inside ns = ns ++ gate ls inside (last + 1) (last + length ns) ∷ []

-- The posts of a statement where `last` is the post of what follows it, and a break goes on to `out`.
abbrev mutual
  pub posts_in : List Word → ℕ → ℕ → Bool → Basic → List Spot
  posts_in ls last out inside (Plain a) = stay ls (else_of a) ∷ []
  posts_in ls last out inside (Goto l) = leap ls l.text ∷ []
  posts_in ls last out inside Break = pass ls out ∷ []
  posts_in ls last out inside (If' m row) = posts_options last last out inside row ++ stay ls false ∷ []
  posts_in ls last out inside (Do' m row) =
      stay [] false ∷ (posts_options (last + 1) (last + 1) last inside row ++ pass ls (last + 1) ∷ [])
  posts_in ls last out inside (Block s) = close last ls (posts_arm last last out inside s)
  posts_in ls last out inside (Atomic s) = close last ls (posts_arm last last out inside s)
  posts_in ls last out inside (DStep s) = close_gate last ls inside (posts_arm last last out true s)
  posts_in ls last out inside (Unless s e) =
      let es : List Spot = posts_arm last last out inside e in
      es ++ close (last + length es) ls (posts_arm (last + length es) last out inside s)

  -- of an arm: its end goes on to the post `after`
  pub posts_arm : ℕ → ℕ → ℕ → Bool → Seq → List Spot
  posts_arm last after out inside (Seq' m row) = pass [] after ∷ posts_row (last + 1) out inside row

  pub posts_row : {n : _} → ℕ → ℕ → Bool → Row_of-Stmt n → List Spot
  posts_row last out inside end_of-Stmt = []
  posts_row last out inside (more_of-Stmt ls s ts rest) =
      posts_row last out inside rest ++ posts_in ls (last + length (posts_row last out inside rest)) out inside s

  pub posts_options : {n : _} → ℕ → ℕ → ℕ → Bool → Row_of-Seq n → List Spot
  posts_options last after out inside end_of-Seq = []
  posts_options last after out inside (more_of-Seq s rest) =
      posts_options last after out inside rest
      ++ posts_arm (last + length (posts_options last after out inside rest)) after out inside s

-- the same of statements and options in a list
abbrev pub posts_list : ℕ → ℕ → Bool → List Stmt → List Spot
posts_list last out inside [] = []
posts_list last out inside (s ∷ ss) =
    posts_list last out inside ss ++ posts_in s.labels (last + length (posts_list last out inside ss)) out inside s.basic

-- the posts of a statement that is entered at the last of the posts of its arm, behind post `last`
abbrev pub posts_closed : ℕ → List Word → ℕ → ℕ → Bool → Seq → List Spot
posts_closed last ls after out inside s = close last ls (posts_arm last after out inside s)

-- the posts of options in a list
abbrev pub posts_arms : ℕ → ℕ → ℕ → Bool → List Seq → List Spot
posts_arms last after out inside [] = []
posts_arms last after out inside (s ∷ ss) =
    posts_arms last after out inside ss
    ++ posts_arm (last + length (posts_arms last after out inside ss)) after out inside s

-- post 0 is the end of the body
abbrev pub posts_of : Seq → List Spot
posts_of b = stay [] false ∷ posts_list 0 0 false (steps b)

-- the number of the last
abbrev pub last_of : List Spot → ℕ
last_of ns = length ns - 1

-- the first that is there
abbrev pub or_else : Option ℕ → Option ℕ → Option ℕ
or_else None o = o
or_else (Some n) o = Some n

-- the last post with a label, counted from k
abbrev pub numbered : List ℕ → ℕ → List Spot → Option ℕ
numbered l k [] = None
numbered l k (n ∷ ns) = or_else (numbered l (k + 1) ns) (if is_label_among l n.labels then Some k else None)

-- post 0 where there is none
abbrev pub or_end : Option ℕ → ℕ
or_end None = 0
or_end (Some n) = n

-- the number of a label's post, post 0 where there is none
abbrev pub label_post : List Spot → List ℕ → ℕ
label_post ns l = or_end (numbered l 0 ns)

-- the post that a post goes on to
abbrev pub onward : List Spot → Option (List ℕ) → Option ℕ → Option ℕ
onward ns None next = next
onward ns (Some l) next = Some (label_post ns l)

-- the posts that all go on to
abbrev pub nexts : List Spot → List (Option ℕ)
nexts ns = map (λ (n : Spot). onward ns n.goto n.next) ns

-- post i
abbrev pub spot_of : List Spot → ℕ → Spot
spot_of ns i = slice_index_or ns i (stay [] false)

-- a d_step with the posts from least to first, by where settling ends from its first
abbrev pub bad_end : List Spot → ℕ → ℕ → Ending → Bool
bad_end ns least first (ending.Stays end) = nat_lt end least || (nat_lt first end || (spot_of ns end).is_else)
bad_end ns least first e = false

-- a post that is a d_step with a bad first point
abbrev pub bad_step : List Spot → List Ending → Option (ℕ × ℕ) → Bool
bad_step ns es None = false
bad_step ns es (Some g) = bad_end ns g.0 g.1 (ending_of es g.1)

-- some post is a d_step with a bad first point, or none is
abbrev pub DecidesBadStep : List Spot → List Ending → Bool → Type 0
DecidesBadStep ns es b = MatchBool b
    ((i : ℕ) × (i < length ns) × (bad_step ns es (spot_of ns i).d_step ≡ true))
    ((i : ℕ) → i < length ns → bad_step ns es (spot_of ns i).d_step ≡ false)
