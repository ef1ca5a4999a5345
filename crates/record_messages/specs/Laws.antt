-- Words for laws over the definitions.
use Rattle.std.specs.Prelude.{◌≡◌, ℕ, true, false, List, ◌++◌}
use Rattle.std.specs.List.{flat_map}
use Rattle.pml_token.specs.declared.token.Kind.TheVariants as kind
use Rattle.record_messages.specs.declared.changes.MessageChange.TheVariants as change
use Rattle.record_messages.specs.Member.{Member}
use Rattle.record_messages.specs.Members.{is_empty, is_record}
use Rattle.record_messages.specs.DeclaredName.{DeclaredName}
use Rattle.record_messages.specs.Variables.{record_of}
use Rattle.record_messages.specs.MessageToken.{MessageToken}

-- what a token with what becomes of it has of the text
abbrev pub own : MessageToken → List ℕ
own c = c.gap ++ c.token

abbrev pub owns : List MessageToken → List ℕ
owns cs = flat_map own cs

-- types stand for the name of a typedef that has plain fields alone, fields for the name of a record, and a counter is declared before a `for`
pub record IsOwn (ms : List Member) (vs : List DeclaredName) (c : MessageToken) : Type 0 where
  pub typedef : c.change ≡ change.Types → is_record ms c.token ≡ true
  pub variable : c.change ≡ change.Fields → is_empty (record_of vs c.token) ≡ false
  pub loop : c.change ≡ change.Declared → c.kind ≡ kind.For
