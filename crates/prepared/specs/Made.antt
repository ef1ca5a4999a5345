-- What is prepared of an author's text.
use Rattle.std.specs.Prelude.{◌≡◌, ◌≤◌, ℕ, Bool, true, false, List, [], length}
use Rattle.pml_directives.specs.Plain.{is_plain}
use Rattle.prepare.specs.declared.TheConstants.{MOST_BYTES}
use Rattle.prepare.specs.Laws.{lined, separated, exchanged, has_tokens_alone}
use Rattle.mtype_commas.specs.Writing.{punctuated}
use Rattle.computed_sizes.specs.Resizing.{resized}
use Rattle.declared_steps.specs.Writing.{stepped}
use Rattle.listed_values.specs.Writing.{valued}
use Rattle.record_messages.specs.Writing.{recorded}
use Rattle.names_apart.specs.Writing.{joint}
use Rattle.names_apart.specs.Apart.{IsApart}
use Rattle.prepared.specs.declared.given.How.{How}
use Rattle.prepared.specs.declared.made.Prepared.{Prepared}

-- where it is told that nothing is left, the tokens of the text outside blocks are such as the language has
abbrev pub TellsTokens : Bool → List ℕ → Type 0
TellsTokens is_left text = is_left ≡ false → has_tokens_alone (lined text) ≡ true

-- it is a text in which names that bodies declare several times are divided, with underscores that are free in it
abbrev pub IsDivided : List ℕ → List ℕ → Type 0
IsDivided text made = IsApart (joint text) text made

-- what is made of a text by its ends of lines, its blocks, its sizes, its subtypes and its loops over arrays
abbrev pub rewritten : List ℕ → List ℕ
rewritten text = exchanged (resized (separated text))

-- it is made of a text that is without `#` lines and macros, and has no more bytes than it may
pub record IsMadeOf (text : List ℕ) (p : Prepared) : Type 0 where
  pub short : length text ≤ MOST_BYTES
  pub made : IsDivided (recorded (stepped (valued (rewritten (punctuated text))))) p.text.items
  pub told : TellsTokens p.is_left (punctuated text)

-- what a preprocessor may leave of an author's text: the text itself, where it is to be read as it is, and where no macro is given and nothing in it is for one
pub record IsLeftOf (how : How) (own text : List ℕ) : Type 0 where
  pub asked : how.is_plain ≡ true → text ≡ own
  pub plain : how.given.items ≡ [] → is_plain own ≡ true → text ≡ own

-- it is made of what the preprocessor leaves of the author's text
pub record IsPreparedOf (how : How) (own : List ℕ) (p : Prepared) : Type 0 where
  pub text : List ℕ
  pub left : IsLeftOf how own text
  pub made : IsMadeOf text p
