-- What stands behind the name of a command of a session.
use Rattle.std.specs.Prelude.{◌≡◌, ◌⊎◌, ◌++◌, ◌^◌, ℕ, List, [], ◌∷◌, codes, Bool, true, false, Option, Some, None, if◌then◌else◌, IfSome, length, ◌<◌, map, drop}
use Rattle.std.specs.Borrow.{Bor}
use Rattle.std.specs.Option.{SomeIff, option_zip}
use Rattle.std.specs.Str.{bytes_eq, trim, trim_start}
use Rattle.std.specs.Str.Parse.{IsNumeral, digits_value, without_leading_plus}
use Rattle.view_commands.specs.declared.names.Name.{Name}
use Rattle.view_commands.specs.declared.names.Name.TheVariants as n
use Rattle.view_commands.specs.declared.forms.Form.{Form}
use Rattle.view_commands.specs.declared.forms.Form.TheVariants as form
use Rattle.view_commands.specs.declared.command.Command.{Command}
use Rattle.view_commands.specs.declared.command.Command.TheVariants as command
use Rattle.view_commands.specs.declared.command.RunMode.TheVariants.{Forced, Chance}

-- a word is this number in digits, behind a plus or not, or no number of 64 bits
abbrev pub IsNumber : List ℕ → Option ℕ → Type 0
IsNumber word r =
    let digits = without_leading_plus word in
    SomeIff r (IsNumeral 10 digits × (digits_value 10 digits < 2 ^ 64)) (digits_value 10 digits)

-- one word is there, and it is this number
abbrev pub IsOneNumber : List (List ℕ) → Option ℕ → Type 0
IsOneNumber (word ∷ []) r = IsNumber word r
IsOneNumber _ r = r ≡ None

-- the number that is meant where none is there
abbrev pub usual : Name → Option ℕ
usual n.Back = Some 1
usual n.Forward = Some 1
usual n.Run = Some 1000
usual _ = None

-- the command of this name with a number
abbrev pub numbered : Name → ℕ → Command
numbered n.Back k = command.Back k
numbered n.Forward k = command.Forward k
numbered n.Goto k = command.Goto k
numbered n.Run k = command.Run k
numbered n.Process k = command.Process k
numbered n.Delete k = command.Delete k
numbered n.Undisplay k = command.Undisplay k
numbered n.Steps k = command.Steps (Some k)
numbered n.Branch k = command.Branch k
numbered n.Moves k = command.MovesOf k
numbered _ k = command.Unknown

-- how a number that stands there is meant: none stands there, or this one alone
abbrev pub IsWanted : Name → List (List ℕ) → Option ℕ → Type 0
IsWanted x [] r = r ≡ usual x
IsWanted x words r = IsOneNumber words r

-- a condition stands there
abbrev pub is_until : List (List ℕ) → Bool
is_until (word ∷ _ ∷ _) = bytes_eq word (codes "until")
is_until _ = false

-- `all` stands there first
abbrev pub is_all : List (List ℕ) → Bool
is_all (word ∷ _) = bytes_eq word (codes "all")
is_all [] = false

-- the words behind `all`, or all of them where it does not stand first
abbrev pub behind_all : List (List ℕ) → List (List ℕ)
behind_all [] = []
behind_all (word ∷ words) = if bytes_eq word (codes "all") then words else word ∷ words

-- a command without words behind its name
abbrev pub alone : Command → List (List ℕ) → Command
alone c [] = c
alone c _ = command.Unknown

-- the command of this name with a text
abbrev pub with_text : Name → Bor (List ℕ) → Command
with_text n.Until text = command.Until Forced text
with_text n.Break text = command.Break text
with_text n.Print text = command.Print text
with_text n.Display text = command.Display text
with_text n.Save text = command.Save text
with_text n.Last text = command.Last text
with_text _ text = command.HelpOf text

-- a command is not written so
abbrev pub IsWrong : Command → Type 0
IsWrong c = (words : Bor (List ℕ)) × (c ≡ command.Wrong words)

-- a command by a number, or how it is written
abbrev pub IsByNumber : Name → List (List ℕ) → Command → Type 0
IsByNumber x words c = (r : Option ℕ) × IsWanted x words r × IfSome r (λ k. c ≡ numbered x k) × (r ≡ None → IsWrong c)

-- a command by a text, or how it is written
abbrev pub IsByText : Name → Bor (List ℕ) → Command → Type 0
IsByText x text c = (length text.now ≡ 0 → IsWrong c) × (0 < length text.now → c ≡ with_text x text)

-- a command by one word, or how it is written
abbrev pub IsByWord : Name → List (Bor (List ℕ)) → Command → Type 0
IsByWord x (word ∷ []) c = c ≡ with_text x word
IsByWord x _ c = IsWrong c

-- `on`, `off`, or how it is written
abbrev pub shows : List (List ℕ) → Option Bool
shows (word ∷ []) = if bytes_eq word (codes "on") then Some true else (if bytes_eq word (codes "off") then Some false else None)
shows _ = None

-- what `help` is asked for
abbrev pub helps : List (Bor (List ℕ)) → Command
helps [] = command.Help
helps (word ∷ _) = command.HelpOf word

-- the moves of one process, or all of them, the first or all
abbrev pub IsMoves : List (List ℕ) → Command → Type 0
IsMoves words c =
    (r : Option ℕ) × IsOneNumber words r × IfSome r (λ k. c ≡ command.MovesOf k)
    × (r ≡ None → c ≡ alone (command.Moves (is_all words)) (behind_all words))

-- a count, and a seed behind it or 1
abbrev pub IsCountAndSeed : List (List ℕ) → Option (ℕ × ℕ) → Type 0
IsCountAndSeed (count ∷ []) r = (k : Option ℕ) × IsNumber count k × (r ≡ option_zip k (Some 1))
IsCountAndSeed (count ∷ seed ∷ []) r =
    (k : Option ℕ) × IsNumber count k × (s : Option ℕ) × IsNumber seed s × (r ≡ option_zip k s)
IsCountAndSeed _ r = r ≡ None

-- so many steps by chance, or how it is written
abbrev pub IsByChance : List (List ℕ) → Command → Type 0
IsByChance words c =
    (r : Option (ℕ × ℕ)) × IsCountAndSeed words r × IfSome r (λ p. c ≡ command.Random p.0 p.1) × (r ≡ None → IsWrong c)

-- what stands behind a word with which a text begins, without blanks round it, or nothing
abbrev pub IsBehind : List ℕ → List ℕ → List ℕ → Type 0
IsBehind text word x =
    ((rest : List ℕ) × (trim_start text ≡ word ++ rest) × (x ≡ trim rest))
    ⊎ (((rest : List ℕ) → trim_start text ≡ word ++ rest → ⊥) × (x ≡ []))

-- the texts of words
abbrev pub texts : List (Bor (List ℕ)) → List (List ℕ)
texts words = map (λ w. w.now) words

-- what may stand behind the name of a command
abbrev pub form_of : Name → Form
form_of n.Source = form.Nothing
form_of n.Restart = form.Nothing
form_of n.Breaks = form.Nothing
form_of n.Branches = form.Nothing
form_of n.Chart = form.Nothing
form_of n.Record = form.Nothing
form_of n.Quit = form.Nothing
form_of n.State = form.All
form_of n.Why = form.All
form_of n.Back = form.Back
form_of n.Steps = form.Steps
form_of n.Moves = form.Moves
form_of n.Process = form.Process
form_of n.Random = form.Random
form_of n.Until = form.Text
form_of n.Break = form.Text
form_of n.Print = form.Text
form_of n.Display = form.Text
form_of n.Last = form.Word
form_of n.Save = form.Word
form_of n.Show = form.Switch
form_of n.Help = form.Help
form_of _ = form.Number

-- the command of this name with nothing behind it
abbrev pub bare : Name → Command
bare n.Source = command.Source
bare n.Restart = command.Restart
bare n.Breaks = command.Breaks
bare n.Branches = command.Branches
bare n.Chart = command.Chart
bare n.Record = command.Record
bare n.Quit = command.Quit
bare _ = command.Unknown

-- the command of this name that tells all, or what is first
abbrev pub telling : Name → Bool → Command
telling n.State all = command.State all
telling _ all = command.Why all

-- what is meant by the command of this form and name, with these words behind it, which this text has
abbrev pub IsMeant : Form → Name → List (Bor (List ℕ)) → Bor (List ℕ) → Command → Type 0
IsMeant form.Nothing x words text c = c ≡ alone (bare x) (texts words)
IsMeant form.All x words text c = c ≡ alone (telling x (is_all (texts words))) (behind_all (texts words))
IsMeant form.Number x words text c = IsByNumber x (texts words) c
IsMeant form.Back x words text c = is_until (texts words) ≡ false → IsByNumber x (texts words) c
IsMeant form.Steps x words text c = 0 < length words → IsByNumber x (texts words) c
IsMeant form.Moves x words text c = IsMoves (texts words) c
IsMeant form.Process x words text c = is_until (drop 1 (texts words)) ≡ false → IsByNumber n.Process (texts words) c
IsMeant form.Random x words text c = is_until (texts words) ≡ false → IsByChance (texts words) c
IsMeant form.Text x words text c = IsByText x text c
IsMeant form.Word x words text c = IsByWord x words c
IsMeant form.Switch x words text c = IfSome (shows (texts words)) (λ on. c ≡ command.Show on)
IsMeant form.Help x words text c = c ≡ helps words

-- steps by chance until a condition holds, or how that is written
abbrev pub IsUntilByChance : Command → Type 0
IsUntilByChance c = IsWrong c ⊎ ((seed : ℕ) × (text : Bor (List ℕ)) × (c ≡ command.Until (Chance seed) text))
