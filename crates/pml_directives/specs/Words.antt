-- The words that a `#` line begins with.
use Rattle.std.specs.Prelude.{ℕ, Bool, true, false, if◌then◌else◌, List, [], ◌∷◌, Option, None, Some, codes}
use Rattle.std.specs.Option.{option_map_or}
use Rattle.std.specs.Str.{bytes_eq}
use Rattle.pml_macros.specs.declared.atom.Atom.{Atom}
use Rattle.pml_macros.specs.declared.atom.AtomSort.{AtomSort}
use Rattle.pml_macros.specs.declared.atom.AtomSort.TheVariants as sort
use Rattle.pml_macros.specs.declared.book.Book.{Book}
use Rattle.pml_macros.specs.Texts.{text_in}
use Rattle.pml_directives.specs.declared.words.Word.{Word}
use Rattle.pml_directives.specs.declared.words.Word.TheVariants as word

-- those of conditions
abbrev pub condition_word : List ℕ → Option Word
condition_word t =
    if bytes_eq t (codes "if") then Some word.If else (
    if bytes_eq t (codes "ifdef") then Some word.Ifdef else (
    if bytes_eq t (codes "ifndef") then Some word.Ifndef else (
    if bytes_eq t (codes "elif") then Some word.Elif else (
    if bytes_eq t (codes "else") then Some word.Else else (
    if bytes_eq t (codes "endif") then Some word.Endif else None)))))

-- the other ones
abbrev pub plain_word : List ℕ → Word
plain_word t =
    if bytes_eq t (codes "define") then word.Define else (
    if bytes_eq t (codes "undef") then word.Undef else (
    if bytes_eq t (codes "include") then word.Include else (
    if bytes_eq t (codes "error") then word.Error else (
    if bytes_eq t (codes "warning") then word.Warning else (
    if bytes_eq t (codes "pragma") then word.Pragma else (
    if bytes_eq t (codes "line") then word.Line else (
    if bytes_eq t (codes "ident") then word.Passed else word.Unknown)))))))

abbrev pub word_named : List ℕ → Word
word_named t = option_map_or (λ w. w) (condition_word t) (plain_word t)

-- the word of a token of this sort
abbrev pub word_sorted : AtomSort → List ℕ → Word
word_sorted sort.Name t = word_named t
word_sorted sort.Number t = word.Mark
word_sorted _ t = word.Unknown

-- the word of a line of which these tokens stand behind the `#`
abbrev pub word_of : Book → List Atom → Word
word_of b [] = word.Passed
word_of b (a ∷ as') = word_sorted a.sort (text_in b a.text)

-- a word that has to do with conditions
abbrev pub is_conditional : Word → Bool
is_conditional word.If = true
is_conditional word.Ifdef = true
is_conditional word.Ifndef = true
is_conditional word.Elif = true
is_conditional word.Else = true
is_conditional word.Endif = true
is_conditional _ = false

-- a word with which no text goes on
abbrev pub is_refused : Word → Bool
is_refused word.Error = true
is_refused word.Unknown = true
is_refused _ = false
