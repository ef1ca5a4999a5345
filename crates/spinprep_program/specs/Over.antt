-- What is prepared of a text, over a writer.
use Rattle.std.specs.Prelude.{◌≡◌, ℕ, List, ◌++◌, Option, None, Some, ◌⊎◌}
use Rattle.std.specs.Io.KnownBytes.{Appends}
use Rattle.prepared.specs.declared.given.How.{How}
use Rattle.prepared.specs.declared.made.Prepared.{Prepared}
use Rattle.prepared.specs.Made.{IsPreparedOf}

-- It is prepared of the author's text, and what is known of the writer has grown by just that.
pub record PreparesOver (how : How) (own : List ℕ) (before after : Option (List ℕ)) (p : Prepared) : Type 0 where
  pub prepared : IsPreparedOf how own p
  pub written : Appends before after p.text.items

-- how many bytes are told to be taken
abbrev pub count : Option ℕ → ℕ
count None = 0
count (Some n) = n

-- known bytes have grown by a beginning of these
pub record IsBegun (before after : Option (List ℕ)) (bytes : List ℕ) : Type 0 where
  pub front : List ℕ
  pub back : List ℕ
  pub joins : bytes ≡ front ++ back
  pub taken : Appends before after front

-- what is known of a writer has grown by these bytes
abbrev pub Takes : {W : Type 0} → (W → Option (List ℕ)) → W → W → List ℕ → Type 0
Takes contents before after bytes = Appends (contents before) (contents after) bytes

-- it has grown by a beginning of these bytes
abbrev pub TakesFront : {W : Type 0} → (W → Option (List ℕ)) → W → W → List ℕ → Type 0
TakesFront contents before after bytes = IsBegun (contents before) (contents after) bytes

-- what is prepared of the author's text, of which a beginning was written
pub record BreaksWithin (how : How) (own : List ℕ) (before after : Option (List ℕ)) : Type 0 where
  pub p : Prepared
  pub prepared : IsPreparedOf how own p
  pub begun : IsBegun before after p.text.items

-- What is known of the writer is as it was, or has grown by a beginning of what is prepared of the author's text.
abbrev pub BreaksOver : How → List ℕ → Option (List ℕ) → Option (List ℕ) → Type 0
BreaksOver how own before after = (after ≡ before) ⊎ BreaksWithin how own before after
