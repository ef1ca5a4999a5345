-- A token with what becomes of it, as contracts see it: without where its bytes lie in memory.
use Rattle.std.specs.Prelude.{ℕ, List, ◌++◌}
use Rattle.std.specs.List.{flat_map}
use Rattle.pml_token.specs.declared.token.Kind.{Kind}
use Rattle.prepare.specs.Written.{Written}

pub record Changed (C : Type 0) : Type 0 where
  -- the blanks, comments and markers before it
  pub gap : List ℕ
  pub token : List ℕ
  pub kind : Kind
  pub change : C

-- the token of a stretch, of which this becomes
abbrev pub changed : {C : Type 0} → Written → C → Changed C
changed t c = record { gap = t.gap; token = t.token; kind = t.kind; change = c }

-- what it has of the text
abbrev pub own : {C : Type 0} → Changed C → List ℕ
own c = c.gap ++ c.token

abbrev pub owns : {C : Type 0} → List (Changed C) → List ℕ
owns cs = flat_map own cs
