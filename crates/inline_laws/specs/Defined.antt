-- What the tokens of a definition are.
use Rattle.std.specs.Prelude.{◌≡◌, ℕ, ◌+◌, true, false, List, [], ◌∷◌, length, take, drop, Some}
use Rattle.pml_token.specs.declared.token.Kind.TheVariants.{OpenParen, CloseParen, OpenBrace, CloseBrace, Comma}
use Rattle.pml_token.specs.Word.{same_kind, Word}
use Rattle.promela_text.specs.Inlines.{is_name, has_inline, begins_as, closing, Inline, all_differ, definition}

-- the tokens are names with commas between them and a `)` behind them, and more
pub data Names : List Word → List (List ℕ) → List Word → Type 0 where
  last_name : {w v : Word} {rest : List Word} → is_name w ≡ true → same_kind v.kind CloseParen ≡ true → Names (w ∷ v ∷ rest) (w.text ∷ []) rest
  one_name : {w v : Word} {ws rest : List Word} {ns : List (List ℕ)} → is_name w ≡ true → same_kind v.kind Comma ≡ true → Names ws ns rest
      → Names (w ∷ v ∷ ws) (w.text ∷ ns) rest

-- a `)` alone, or names and a `)`, and more
pub data Parameters : List Word → List (List ℕ) → List Word → Type 0 where
  no_parameter : {v : Word} {rest : List Word} → same_kind v.kind CloseParen ≡ true → Parameters (v ∷ rest) [] rest
  some_parameters : {ws rest : List Word} {ns : List (List ℕ)} → Names ws ns rest → Parameters ws ns rest

-- The tokens behind the word `inline` begin with `NAME ( PARAMETERS ) { .. }`: the parameters differ, and no word `inline` stands from the `{` to the `}`
-- that closes it, which is the body. It has all the tokens that stand before what is behind it.
pub record IsDefinition (ws : List Word) (d : Inline) : Type 0 where
  pub name : Word
  pub open_paren : Word
  pub inner : List Word
  pub body_on : List Word
  pub is : ws ≡ name ∷ open_paren ∷ inner
  pub named : is_name name ≡ true
  pub name_is : d.name ≡ name.text
  pub opened : same_kind open_paren.kind OpenParen ≡ true
  pub parameters : Parameters inner d.parameters body_on
  pub braced : begins_as OpenBrace body_on ≡ true
  pub within : ℕ
  pub closed : closing OpenBrace CloseBrace (drop 1 body_on) 0 ≡ Some within
  pub body : d.body ≡ take (within + 2) body_on
  pub differ : all_differ d.parameters ≡ true
  pub plain : has_inline d.body ≡ false
  pub size : d.size + length (drop (within + 2) body_on) ≡ length ws

abbrev pub DefinitionsAreAsWritten : Type 0
DefinitionsAreAsWritten = (ws : List Word) (d : Inline) → (definition ws ≡ Some d → IsDefinition ws d) × (IsDefinition ws d → definition ws ≡ Some d)
