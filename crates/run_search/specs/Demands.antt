-- What a process waits for, and which messages it may receive so.
use Rattle.std.specs.Prelude.{◌≡◌, ℕ, Bool, true, false, not, ◌&&◌, ◌||◌, List, [], ◌∷◌, ℤ, Option, Some, None, slice_get}
use Rattle.std.specs.Ordering.{int_eq}
use Rattle.pml_tree.specs.declared.tree.Search.{Search}
use Rattle.pml_tree.specs.declared.tree.Removal.{Removal}
use Rattle.pml_tree.specs.declared.tree.SendOrder.{SendOrder}
use Rattle.pml_program.specs.declared.expr.Expr.{Expr}
use Rattle.pml_program.specs.declared.expr.Target.{Target}
use Rattle.pml_program.specs.declared.expr.Want.{Want}
use Rattle.pml_program.specs.declared.program.Action.TheVariants.{Send, Receive}
use Rattle.pml_program.specs.declared.program.Basic.{Basic, Plain}
use Rattle.pml_program.specs.declared.program.Seq.{Seq}
use Rattle.promela_process.specs.Expressions.{Reading}
use Rattle.promela_run.specs.declared.live_channel.LiveChannel.{LiveChannel}
use Rattle.promela_process.specs.Offers.{Offer}
use Rattle.promela_run.specs.declared.moves.Pick.{Pick}
use Rattle.run_search.specs.declared.demand.Demand.{Demand}
use Rattle.run_search.specs.declared.demand.Interests.{Interests}
use Rattle.run_search.specs.declared.demand.Interests.TheVariants as i
use Rattle.run_search.specs.declared.demand.OwnMoves.{OwnMoves}
use Rattle.run_search.specs.declared.demand.OwnMoves.TheVariants.{Unknown, Nothing, Over}
use Rattle.run_search.specs.declared.interest.Interest.{Interest}
use Rattle.promela_run.specs.State.{Stand, State, reads}
use Rattle.promela_run.specs.Moves.{Message, accepts, last, pairs_on, pairs_with, pairs, is_else, can_alone, message, moves_on, moves_at}

abbrev pub begins_with : ℤ → List ℤ → Bool
begins_with n [] = false
begins_with n (x ∷ xs) = int_eq n x

-- whatever it begins with, where no number is asked for
abbrev pub begins_so : Option ℤ → List ℤ → Bool
begins_so None xs = true
begins_so (Some n) xs = begins_with n xs

-- whether a receive that asks so may take a message
abbrev pub asks : Interest → Message → Bool
asks x m = int_eq x.number m.number && begins_so x.first m.fields

-- whether what waits so may take a message
abbrev pub may_take : Interests → Message → Bool
may_take i.Nothing m = false
may_take (i.One x) m = asks x m
may_take (i.Two x y) m = asks x m || asks y m
may_take i.Anything m = true

-- what is not asked for by the one is not asked for by the other
abbrev pub AsksMore : Interests → Interests → Type 0
AsksMore more less = (m : Message) → may_take more m ≡ false → may_take less m ≡ false

-- a statement receives no other message
abbrev pub ReceivesNoOther : Interests → List LiveChannel → Reading → Option Basic → Type 0
ReceivesNoOther w cs r o = (m : Message) → may_take w m ≡ false → accepts cs r m o ≡ false

-- where nothing is known it may
abbrev pub may_at : Option Demand → Message → Bool
may_at None m = true
may_at (Some w) m = may_take w.interests m

-- where nothing is known of a process nothing is known of its moves
abbrev pub own_at : Option Demand → OwnMoves
own_at None = Unknown
own_at (Some w) = w.own

-- a receive, and a send
abbrev pub received : Target → Search → Removal → List Want → Option Basic
received t search how ws = Some (Plain (Receive t search how ws))

abbrev pub sent : Target → SendOrder → List Expr → Option Basic
sent t order es = Some (Plain (Send t order es))

-- whether process j receives a message by a statement
abbrev pub does_accept : State → ℕ → Bool → Message → Option Basic → Bool
does_accept s j t m o = accepts s.channels (reads s j t) m o

-- nor does any receive with these arguments
abbrev pub WantsNoOther : Interests → List LiveChannel → Reading → Target → List Want → Type 0
WantsNoOther w cs r t ws = (search : Search) (how : Removal) → ReceivesNoOther w cs r (received t search how ws)

-- by a statement process j receives no other message
abbrev pub ReceivesNoOtherBy : Interests → State → ℕ → Bool → Option Basic → Type 0
ReceivesNoOtherBy w s j t o = (m : Message) → may_take w m ≡ false → does_accept s j t m o ≡ false

-- by the offers of a level process j receives no other message
abbrev pub DemandsOn : State → Bool → ℕ → List Offer → Interests → Type 0
DemandsOn s t j os w = (k : Pick) (m : Message) (l : ℕ) → may_take w m ≡ false → pairs_on s t k m j l os ≡ []

-- nor by those of the highest level that has a receive of it
abbrev pub DemandsDown : State → Bool → ℕ → List (List Offer) → Interests → Type 0
DemandsDown s t j ls w = (k : Pick) (m : Message) → may_take w m ≡ false → last (pairs_on s t k m j) 0 ls ≡ []

-- ---- what is known of a process's own moves

-- a message over the channel with this number has no pairs, whoever sends it
abbrev pub IsUnheard : State → Bool → ℤ → Type 0
IsUnheard s t n = (k : Pick) (m : Message) → n ≡ m.number → pairs s t k (Some m) ≡ []

-- a process of which this is known has no move
abbrev pub HasNone : State → Bool → OwnMoves → Type 0
HasNone s t Unknown = ⊥
HasNone s t Nothing = Unit {0}
HasNone s t (Over n) = IsUnheard s t n

-- where the one says that there is none, the other does
abbrev pub SaysLess : OwnMoves → OwnMoves → Type 0
SaysLess less more = (s : State) (t : Bool) → HasNone s t less → HasNone s t more

-- it is known of no more than a send over this channel
abbrev pub IsOver : OwnMoves → ℤ → Type 0
IsOver Unknown n = Unit {0}
IsOver Nothing n = ⊥
IsOver (Over k) n = k ≡ n

-- what is handed over goes over this channel
abbrev pub goes_over : OwnMoves → Option Message → Bool
goes_over own None = true
goes_over (Over n) (Some m) = int_eq n m.number
goes_over own (Some m) = false

-- Where something is known, a statement gives no move: it is no `else`, it cannot be taken by itself, and what it hands over goes over this channel.
abbrev pub gives_none : OwnMoves → Bool → List LiveChannel → Reading → Seq → Offer → Option Basic → Bool
gives_none Unknown lossy cs r b x o = true
gives_none own lossy cs r b x o = not (is_else o) && (not (can_alone lossy cs r b x o) && goes_over own (message cs r o))

-- whatever it stands in
abbrev pub GivesNone : OwnMoves → List LiveChannel → Reading → Option Basic → Type 0
GivesNone own cs r o = (lossy : Bool) (b : Seq) (x : Offer) → gives_none own lossy cs r b x o ≡ true

-- nor does any receive with these arguments
abbrev pub GivesNoneSo : OwnMoves → List LiveChannel → Reading → Target → List Want → Type 0
GivesNoneSo own cs r t ws = (search : Search) (how : Removal) → GivesNone own cs r (received t search how ws)

-- a statement of process j
abbrev pub gives_none_to : OwnMoves → State → ℕ → Bool → Seq → Offer → Option Basic → Bool
gives_none_to own s j t b x o = gives_none own s.lossy s.channels (reads s j t) b x o

abbrev pub GivesNoneTo : OwnMoves → State → ℕ → Bool → Option Basic → Type 0
GivesNoneTo own s j t o = (b : Seq) (x : Offer) → gives_none_to own s j t b x o ≡ true

-- the offers of a level give process j no move
abbrev pub AreIdleOn : OwnMoves → State → Bool → ℕ → List Offer → Type 0
AreIdleOn own s t j os = HasNone s t own → (b : Seq) (l : ℕ) → moves_on s j t b l os ≡ []

-- Process j receives no other message, and has no move, where that is known.
pub record DemandsFor (s : State) (t : Bool) (j : ℕ) (y : Stand) (w : Demand) : Type 0 where
  pub receives : (k : Pick) (m : Message) → may_take w.interests m ≡ false → pairs_with s t k m j y ≡ []
  pub moves : HasNone s t w.own → moves_at s j t y ≡ []

-- so it is with each process of which a wait is known
abbrev pub AreDemands : State → Bool → List Demand → Type 0
AreDemands s t ws = (j : ℕ) (w : Demand) (y : Stand) → slice_get ws j ≡ Some w → slice_get s.stands j ≡ Some y → DemandsFor s t j y w
