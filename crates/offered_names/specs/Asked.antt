-- What may stand behind tokens: the last one says it.
use Rattle.std.specs.Prelude.{◌-◌, List, length, slice_get}
use Rattle.std.specs.Option.{option_map_or}
use Rattle.pml_token.specs.declared.token.Kind.{Kind}
use Rattle.pml_token.specs.declared.token.Kind.TheVariants as kind
use Rattle.pml_token.specs.Word.{Word}
use Rattle.offered_names.specs.declared.asked.Fitting.{Fitting}
use Rattle.offered_names.specs.declared.asked.Fitting.TheVariants.{Any, Proctype, Label, Field, Message}

abbrev pub asked_after : Kind → Fitting
asked_after kind.Run = Proctype
asked_after kind.Goto = Label
asked_after kind.Dot = Field
asked_after kind.Bang = Message
asked_after kind.BangBang = Message
asked_after kind.Query = Message
asked_after kind.QueryQuery = Message
asked_after k = Any

abbrev pub asked_behind : List Word → Fitting
asked_behind ws = option_map_or (λ w. asked_after w.kind) (slice_get ws (length ws - 1)) Any
