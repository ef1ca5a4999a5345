-- What stands in place of the tokens of a body, by rules.
use Rattle.std.specs.Prelude.{◌≡◌, ◌≢◌, ℕ, suc, true, List, [], ◌∷◌, ◌++◌, slice_get, Some, None}
use Rattle.pml_token.specs.Word.{Word}
use Rattle.promela_text.specs.Inlines.{is_name, Inline, replaced}

-- so many of these names stand before the first that is this one
pub data StandsBehind (name : List ℕ) : List (List ℕ) → ℕ → Type 0 where
  at_once : {m : List ℕ} {ms : List (List ℕ)} → name ≡ m → StandsBehind name (m ∷ ms) 0
  behind_one : {m : List ℕ} {ms : List (List ℕ)} {k : ℕ} → name ≢ m → StandsBehind name ms k → StandsBehind name (m ∷ ms) (suc k)

-- a token is no parameter's name
abbrev pub NamesNone : List (List ℕ) → Word → Type 0
NamesNone ps w = is_name w ≡ true → (k : ℕ) → StandsBehind w.text ps k → ⊥

-- Of the first tokens the second are left: a token that names no parameter stays, and one that does gives way to the argument which has as many before it as the
-- parameter; where there is none, to nothing.
pub data Left (ps : List (List ℕ)) (args : List (List Word)) : List Word → List Word → Type 0 where
  no_more : Left ps args [] []
  kept : {w : Word} {ws us : List Word} → NamesNone ps w → Left ps args ws us → Left ps args (w ∷ ws) (w ∷ us)
  given : {w : Word} {ws us ts : List Word} {k : ℕ} → is_name w ≡ true → StandsBehind w.text ps k → slice_get args k ≡ Some ts → Left ps args ws us
      → Left ps args (w ∷ ws) (ts ++ us)
  missing : {w : Word} {ws us : List Word} {k : ℕ} → is_name w ≡ true → StandsBehind w.text ps k → slice_get args k ≡ None → Left ps args ws us
      → Left ps args (w ∷ ws) us

abbrev pub BodiesAreDerived : Type 0
BodiesAreDerived = (d : Inline) (args : List (List Word)) → Left d.parameters args d.body (replaced d args)

abbrev pub DerivedAreBodies : Type 0
DerivedAreBodies = (d : Inline) (args : List (List Word)) (us : List Word) → Left d.parameters args d.body us → replaced d args ≡ us
