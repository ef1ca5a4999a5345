-- Messages of a debug adapter as values of JSON.
use Rattle.std.specs.Prelude.{◌≡◌, Option, Some, None, codes}
use Rattle.serde_json.specs.Data.{Data}
use Rattle.serde_json.specs.Find.{get}
use Rattle.serde_json.specs.View.{view}
use Rattle.serde_json.specs.declared.value.Value.{Value}

-- a response has the number of its request, if that has one
abbrev pub HasNumber : Option Data → Data → Type 0
HasNumber None reply = Unit {0}
HasNumber (Some given) reply = get (codes "request_seq") reply ≡ Some given

abbrev pub IsReplyTo : Data → Value → Type 0
IsReplyTo request reply = HasNumber (get (codes "seq") request) (view reply)
