-- A token with what becomes of it.
use Rattle.std.specs.Prelude.{ℕ, List}
use Rattle.pml_token.specs.declared.token.Kind.{Kind}
use Rattle.record_messages.specs.declared.changes.MessageChange.{MessageChange}

-- a loop over messages: its number, its variable, and its channel with the index of that, if it has one
pub record Loop : Type 0 where
  pub number : ℕ
  pub name : List ℕ
  pub channel : List ℕ
  pub index : List ℕ

pub record MessageToken : Type 0 where
  -- the blanks and comments before it
  pub gap : List ℕ
  pub token : List ℕ
  pub kind : Kind
  pub change : MessageChange
  -- the last loop over messages
  pub loop : Loop
