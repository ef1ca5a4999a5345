-- A token as contracts see it: without where its bytes lie in memory. Two kinds of tokens, compared.
-- Hold it against the page `grammar`.
use Rattle.std.specs.Prelude.{Bool, ℕ, List}
use denote.Enum.Bare.{sameb}
use Rattle.pml_token.specs.contracts.token.Kind.{the_type}
use Rattle.pml_token.specs.declared.token.Kind.{Kind}

-- what a token is to definitions: its kind, its bytes, and the line on which it begins
pub record Word : Type 0 where
  pub kind : Kind
  pub text : List ℕ
  pub line : ℕ

-- two kinds are the same
abbrev pub same_kind : Kind → Kind → Bool
same_kind = sameb the_type
