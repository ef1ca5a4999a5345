-- Calls as they are written, up to a place among their arguments, and that they are found.
use Rattle.std.specs.Prelude.{◌≡◌, ℕ, ◌+◌, true, false, List, [], ◌∷◌, ◌++◌, length, Some}
use Rattle.pml_token.specs.declared.token.Kind.TheVariants as kind
use Rattle.pml_token.specs.Word.{same_kind, Word}
use Rattle.text_parts.specs.declared.calls.PartialCall.{PartialCall}
use Rattle.text_parts.specs.Calls.{opens, closes, ends, call_around}

-- Each of the tokens that opens a bracket is closed by one behind it, and each that closes one closes such a one.
pub data AreClosed : List Word → Type 0 where
  no_token : AreClosed []
  token : {w : Word} {ws : List Word} → closes w.kind ≡ false → opens w.kind ≡ false → AreClosed ws → AreClosed (w ∷ ws)
  bracket : {w : Word} {xs ws : List Word} (v : Word) → closes w.kind ≡ false → opens w.kind ≡ true → AreClosed xs → closes v.kind ≡ true → AreClosed ws
      → AreClosed (w ∷ (xs ++ v ∷ ws))

-- Arguments as far as they are written, with so many commas outside of brackets: each bracket is closed, and outside of them no statement begins.
pub data AreArguments : ℕ → List Word → Type 0 where
  no_argument : AreArguments 0 []
  comma : {n : ℕ} {w : Word} {ws : List Word} → w.kind ≡ kind.Comma → AreArguments n ws → AreArguments (n + 1) (w ∷ ws)
  plain : {n : ℕ} {w : Word} {ws : List Word} → closes w.kind ≡ false → opens w.kind ≡ false → same_kind w.kind kind.Comma ≡ false → ends w.kind ≡ false
      → AreArguments n ws → AreArguments n (w ∷ ws)
  closed : {n : ℕ} {w : Word} {xs ws : List Word} (v : Word) → closes w.kind ≡ false → opens w.kind ≡ true → AreClosed xs → closes v.kind ≡ true
      → AreArguments n ws → AreArguments n (w ∷ (xs ++ v ∷ ws))

-- the call of a name: by `run`, if that stands before it
abbrev pub call_of : Word → Word → ℕ → PartialCall
call_of head name n = record { at = name.line; length = length name.text; is_run = same_kind head.kind kind.Run; commas = n }

-- A name, a `(` and arguments are found as the call of that name, behind any token but the word of a definition.
abbrev pub CallsAreFound : Type 0
CallsAreFound =
    (front : List Word) (head name paren : Word) (args : List Word) (n : ℕ) → same_kind head.kind kind.Proctype ≡ false → same_kind head.kind kind.Inline ≡ false
    → name.kind ≡ kind.Name → paren.kind ≡ kind.OpenParen → AreArguments n args → call_around (front ++ head ∷ name ∷ paren ∷ args) ≡ Some (call_of head name n)
