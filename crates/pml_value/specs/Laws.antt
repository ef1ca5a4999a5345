-- What is said of a channel that keeps messages, while it lives.
use Rattle.std.specs.Prelude.{◌≡◌, if◌then◌else◌, nat_lt, List, [], ◌∷◌, ◌++◌, length, take, ℤ}
use Rattle.pml_tree.specs.declared.tree.SendOrder.TheVariants.{Fifo}
use Rattle.pml_tree.specs.declared.tree.Removal.TheVariants.{Remove}
use Rattle.promela_process.specs.Store.{ChannelState, cut}
use Rattle.promela_run.specs.Statements.{with_message, without}

-- a message of these fields is sent with `!`, or the oldest is received
pub data Use : Type 0 where
  Sends : List ℤ → Use
  Receives : Use

-- what it leaves of the channel
abbrev pub used : ChannelState → Use → ChannelState
used c (Sends fields) = with_message Fifo fields c
used c Receives = without Remove 0 c

-- the message that it puts in, where there is room
abbrev pub put : ChannelState → Use → List (List ℤ)
put c (Sends fields) = if nat_lt (length c.messages) c.capacity then cut c.types fields ∷ [] else []
put c Receives = []

-- the message that it takes out, where there is one
abbrev pub got : ChannelState → Use → List (List ℤ)
got c (Sends fields) = []
got c Receives = take 1 c.messages

-- one use after another: what they leave, what they put in, what they take out
abbrev pub left_by : ChannelState → List Use → ChannelState
left_by c [] = c
left_by c (u ∷ us) = left_by (used c u) us

abbrev pub all_put : ChannelState → List Use → List (List ℤ)
all_put c [] = []
all_put c (u ∷ us) = put c u ++ all_put (used c u) us

abbrev pub all_got : ChannelState → List Use → List (List ℤ)
all_got c [] = []
all_got c (u ∷ us) = got c u ++ all_got (used c u) us

-- What was received and what is left are what was there and what was sent, in that order: none is lost, made up or doubled.
abbrev pub MessagesComeInOrder : Type 0
MessagesComeInOrder = (c : ChannelState) (us : List Use) → all_got c us ++ (left_by c us).messages ≡ c.messages ++ all_put c us
