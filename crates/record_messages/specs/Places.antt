-- Whether a token stands in a message, in a list of types, or in the head of a loop over messages.
use Rattle.std.specs.Prelude.{ℕ, ◌-◌, Bool, ◌==◌, if◌then◌else◌}
use Rattle.pml_token.specs.declared.token.Kind.{Kind}
use Rattle.pml_token.specs.declared.token.Kind.TheVariants as kind
use Rattle.pml_token.specs.Word.{same_kind}
use Rattle.prepare.specs.Contexts.{deeper}
use Rattle.record_messages.specs.declared.place.MessagePlace.{MessagePlace}
use Rattle.record_messages.specs.declared.place.MessagePlace.TheVariants as place

-- a message goes on behind `!`, `!!`, `?` or `??`
abbrev pub begun : Kind → MessagePlace
begun kind.Of = place.Listed
begun kind.Bang = place.Sent 0
begun kind.BangBang = place.Sent 0
begun kind.Query = place.Sent 0
begun kind.QueryQuery = place.Sent 0
begun _ = place.Outside

abbrev pub left : ℕ → MessagePlace
left n = if n == 0 then place.Outside else place.Sent (n - 1)

-- behind a token of a message, which the end of its statement ends
abbrev pub sent_behind : ℕ → Kind → MessagePlace
sent_behind n kind.OpenParen = place.Sent (deeper n)
sent_behind n kind.OpenBracket = place.Sent (deeper n)
sent_behind n kind.CloseParen = left n
sent_behind n kind.CloseBracket = left n
sent_behind n kind.Arrow = if n == 0 then place.Outside else place.Sent n
sent_behind n kind.Semicolon = place.Outside
sent_behind n kind.DoubleColon = place.Outside
sent_behind n kind.OpenBrace = place.Outside
sent_behind n kind.CloseBrace = place.Outside
sent_behind n kind.Fi = place.Outside
sent_behind n kind.Od = place.Outside
sent_behind n _ = place.Sent n

-- behind a token that begins no loop over messages
abbrev pub behind_other : MessagePlace → Kind → MessagePlace
behind_other place.Outside k = begun k
behind_other place.Entered k = begun k
behind_other (place.Sent n) k = sent_behind n k
behind_other place.Listed k = if same_kind k kind.OpenBrace then place.Types else begun k
behind_other place.Types k = if same_kind k kind.CloseBrace then place.Outside else place.Types
behind_other place.Headed k = place.Counted
behind_other place.Counted k = place.Ranged
behind_other place.Ranged k = place.Over
behind_other place.Over k = if same_kind k kind.CloseParen then place.Entered else place.Over

-- behind a token, which may begin a loop over messages
abbrev pub behind : MessagePlace → Bool → Kind → MessagePlace
behind p is_loop k = if is_loop then place.Headed else behind_other p k
