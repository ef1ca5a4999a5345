-- Which inline a name calls, which token closes its parentheses, and what its arguments are, by rules.
use Rattle.std.specs.Prelude.{◌≡◌, ◌≢◌, ℕ, nat_eq, true, false, ◌&&◌, List, [], ◌∷◌, ◌++◌, length, Some}
use Rattle.pml_token.specs.declared.token.Kind.{Kind}
use Rattle.pml_token.specs.declared.token.Kind.TheVariants.{OpenParen, Comma}
use Rattle.pml_token.specs.Word.{same_kind, Word}
use Rattle.promela_text.specs.Inlines.{is_name, begins_as, closing, level_behind, arguments, Inline, callee}

-- ---- what closes a bracket

-- Each of the tokens that opens is closed by one behind it, and each that closes is closed by none other: they are nothing, begin with a token that does
-- neither, or begin with a bracket round such tokens.
pub data Balanced (opener closer : Kind) : List Word → Type 0 where
  nothing : Balanced opener closer []
  other : {w : Word} {ws : List Word} → same_kind w.kind closer ≡ false → same_kind w.kind opener ≡ false → Balanced opener closer ws → Balanced opener closer (w ∷ ws)
  bracket : {w : Word} {xs ws : List Word} (v : Word) → same_kind w.kind closer ≡ false → same_kind w.kind opener ≡ true → Balanced opener closer xs
      → same_kind v.kind closer ≡ true → Balanced opener closer ws → Balanced opener closer (w ∷ (xs ++ v ∷ ws))

-- Behind k tokens, which are balanced, stands one that closes: it closes what was opened before them.
pub record ClosesBehind (opener closer : Kind) (ws : List Word) (k : ℕ) : Type 0 where
  pub inner : List Word
  pub closes : Word
  pub behind : List Word
  pub is : ws ≡ inner ++ closes ∷ behind
  pub balanced : Balanced opener closer inner
  pub closing_kind : same_kind closes.kind closer ≡ true
  pub before : k ≡ length inner

abbrev pub ClosersAreDerived : Type 0
ClosersAreDerived = (opener closer : Kind) (ws : List Word) (k : ℕ) → closing opener closer ws 0 ≡ Some k → ClosesBehind opener closer ws k

abbrev pub DerivedAreClosers : Type 0
DerivedAreClosers = (opener closer : Kind) (ws : List Word) (k : ℕ) → ClosesBehind opener closer ws k → closing opener closer ws 0 ≡ Some k

-- ---- arguments

-- how many brackets are open behind tokens, where so many are open before them
abbrev pub open_behind : ℕ → List Word → ℕ
open_behind n [] = n
open_behind n (w ∷ ws) = open_behind (level_behind n w.kind) ws

-- no comma among the tokens stands where no bracket is open, where so many are open before them
pub data IsPart : ℕ → List Word → Type 0 where
  no_token : {n : ℕ} → IsPart n []
  one_token : {n : ℕ} {w : Word} {ws : List Word} → (same_kind w.kind Comma && nat_eq n 0) ≡ false → IsPart (level_behind n w.kind) ws → IsPart n (w ∷ ws)

-- The tokens are these parts with a comma between each two, which stands where no bracket is open.
pub data Split : ℕ → List Word → List (List Word) → Type 0 where
  last_part : {n : ℕ} {xs : List Word} → IsPart n xs → Split n xs (xs ∷ [])
  one_part : {n : ℕ} {xs ws : List Word} {ps : List (List Word)} (v : Word) → IsPart n xs → open_behind n xs ≡ 0 → same_kind v.kind Comma ≡ true → Split 0 ws ps
      → Split n (xs ++ v ∷ ws) (xs ∷ ps)

-- the arguments between the parentheses of a call: none where there is no token
pub data AreArguments : List Word → List (List Word) → Type 0 where
  no_argument : AreArguments [] []
  some_arguments : {w : Word} {ws : List Word} {ps : List (List Word)} → Split 0 (w ∷ ws) ps → AreArguments (w ∷ ws) ps

abbrev pub ArgumentsAreDerived : Type 0
ArgumentsAreDerived = (ws : List Word) → AreArguments ws (arguments ws)

abbrev pub DerivedAreArguments : Type 0
DerivedAreArguments = (ws : List Word) (ps : List (List Word)) → AreArguments ws ps → arguments ws ≡ ps

-- ---- what a name calls

-- the first of these inlines that has the name
pub data IsFirstOf (name : List ℕ) : List Inline → Inline → Type 0 where
  at_first : {d : Inline} {ds : List Inline} → name ≡ d.name → IsFirstOf name (d ∷ ds) d
  behind_other : {d e : Inline} {ds : List Inline} → name ≢ e.name → IsFirstOf name ds d → IsFirstOf name (e ∷ ds) d

-- a name with a `(` behind it calls the first inline of its name that is known
pub record IsCalled (known : List Inline) (w : Word) (ws : List Word) (d : Inline) : Type 0 where
  pub named : is_name w ≡ true
  pub opened : begins_as OpenParen ws ≡ true
  pub first : IsFirstOf w.text known d

abbrev pub CallsAreDerived : Type 0
CallsAreDerived = (known : List Inline) (w : Word) (ws : List Word) (d : Inline) → callee known w ws ≡ Some d → IsCalled known w ws d

abbrev pub DerivedAreCalls : Type 0
DerivedAreCalls = (known : List Inline) (w : Word) (ws : List Word) (d : Inline) → IsCalled known w ws d → callee known w ws ≡ Some d
