-- The texts of places and of their numbers, the lines of the places that a step changed, and what `printf` prints.
-- Hold it against docs/FORMATS.md, 'Lines on standard output'; the page `printf`.
use Rattle.std.specs.Prelude.{ℕ, zero, suc, length, ◌/◌, ◌%◌, Bool, true, false, List, [], ◌++◌, slice_get, Option, Some, None, ℤ, pos, negsuc, codes, ◌+◌, if◌then◌else◌, ◌∷◌, ◌-◌, ◌||◌, nat_eq, take, drop, slice_index_or}
use Rattle.std.specs.Option.{option_map_or}
use Rattle.std.specs.Fmt.{decimal, signed_decimal, radix_digits}
use Rattle.pml_token.specs.Word.{Word, same_kind}
use Rattle.pml_tree.specs.declared.tree.Scalar.TheVariants as scalar
use Rattle.pml_program.specs.declared.form.Form.{Form}
use Rattle.pml_program.specs.declared.form.Form.TheVariants as kind
use Rattle.pml_program.specs.declared.program.Slot.{Slot}
use Rattle.pml_program.specs.declared.program.Fields.{Fields}
use Rattle.pml_program.specs.declared.program.Program.{Program}
use Rattle.promela_run.specs.State.{slot_of, cell_of, fields_of, leaf}
use Rattle.std.specs.Ordering.{int_eq}
use Rattle.pml_token.specs.declared.token.Kind.TheVariants.{Init}
use Rattle.pml_program.specs.declared.program.Proctype.{Proctype}
use Rattle.promela_process.specs.Store.{Cells, Frame}
use Rattle.profile.specs.Characters.{tab, line_feed, percent, backslash, letter_c, letter_d, letter_e, letter_o, letter_u, letter_x}
use Rattle.promela_process.specs.Numbers.{residue}
use Rattle.promela_run.specs.declared.before.Before.{Before}
use Rattle.promela_run.specs.declared.before.Before.TheVariants.{Nothing, Percent, Backslash}

-- the mtype name with a number, from 1
abbrev pub mtype_numbered : List Word → ℤ → Option Word
mtype_numbered names (pos zero) = None
mtype_numbered names (pos (suc n)) = slice_get names n
mtype_numbered names (negsuc n) = None

-- the mtype name with a number, or the number where there is none
abbrev pub name_of_number : List Word → ℤ → List ℕ
name_of_number names number = option_map_or (λ w. w.text) (mtype_numbered names number) (signed_decimal number)

-- a number as its type has it written
abbrev pub worth : List Word → Form → ℤ → List ℕ
worth names (kind.Plain scalar.Mtype) number = name_of_number names number
worth names _ number = signed_decimal number

-- the index of an element, in an array
abbrev pub index_text : Bool → ℕ → List ℕ
index_text false n = []
index_text true n = codes "[" ++ (decimal n ++ codes "]")

-- a variable or a field, at one of its cells
abbrev pub element : Slot → ℕ → List ℕ
element s cell = s.name.text ++ index_text s.array (cell / s.stride)

-- the fields that lead to a cell within an element of a type, n of them at most
abbrev pub fields_path : List Fields → ℕ → Form → ℕ → List ℕ
fields_path ts zero form cell = []
fields_path ts (suc n) form cell = elim (slot_of (fields_of ts form) cell) as (λ _. List ℕ) [
  | None ↦ []
  | Some f ↦ codes "." ++ (element f (cell_of (fields_of ts form) cell) ++ fields_path ts n f.form (cell_of (fields_of ts form) cell % f.stride))
]

-- a cell of a variable: `a[2]`, `r.f[1].g`
abbrev pub path : Program → Slot → ℕ → List ℕ
path p s cell = element s cell ++ fields_path p.typedefs (length p.typedefs) s.form (cell % s.stride)

-- `PATH = VALUE`, and a line feed
abbrev pub place_line : Program → Slot → ℕ → ℤ → List ℕ
place_line p s cell number = path p s cell ++ (codes " = " ++ (worth p.constants (leaf p.typedefs s cell).form number ++ codes "\n"))

-- ---- the places that a step changed

-- the name of a proctype, or of init
abbrev pub proctype_name : Word → List ℕ
proctype_name w = if same_kind w.kind Init then codes ":init:" else w.text

-- whose variables these are: whether their lines are wanted, how they begin, and the variables
pub record Owner : Type 0 where
  pub wanted : Bool
  pub heading : List ℕ
  pub slots : List Slot

-- how the lines of the process i begin, by its proctype: `local I (NAME) `
abbrev pub heading_of : ℕ → Option Proctype → List ℕ
heading_of i None = []
heading_of i (Some p) = codes "local " ++ (decimal i ++ (codes " (" ++ (proctype_name p.name ++ codes ") ")))

-- the process i as an owner of variables
abbrev pub process_owner : Bool → ℕ → Option Proctype → Owner
process_owner wanted i p =
    record { wanted = wanted; heading = heading_of i p; slots = option_map_or (λ q. q.variables) p [] }

-- processes, numbered from i on, each by the number of its proctype in the model
abbrev pub process_owners : Program → Bool → ℕ → List ℕ → List Owner
process_owners p wanted i [] = []
process_owners p wanted i (k ∷ ks) = process_owner wanted i (slice_get p.proctypes k) ∷ process_owners p wanted (i + 1) ks

-- the globals, and then the processes
abbrev pub owners : Program → Bool → Bool → List ℕ → List Owner
owners p globals locals sorts =
    record { wanted = globals; heading = codes "global "; slots = p.globals } ∷ process_owners p locals 0 sorts

-- the line of a cell and its number
abbrev pub cell_line : Program → Owner → Slot → ℕ → ℤ → List ℕ
cell_line p o s cell number = if o.wanted then o.heading ++ place_line p s cell number else []

-- ---- two states compared

-- what is made of each cell that differs and of its number after, where the first cell has the number k
abbrev pub each_change : {A : Type 0} → (ℕ → ℤ → List A) → ℕ → Cells → Cells → List A
each_change f k (x ∷ xs) (y ∷ ys) = (if int_eq x y then [] else f k y) ++ each_change f (k + 1) xs ys
each_change f k _ _ = []

-- the lines of the variables of an owner
abbrev pub variable_lines : (Slot → ℕ → ℤ → List ℕ) → List Slot → Frame → Frame → List ℕ
variable_lines f (s ∷ ss) (x ∷ xs) (y ∷ ys) = each_change (f s) 0 x y ++ variable_lines f ss xs ys
variable_lines f _ _ _ = []

-- those of all owners
abbrev pub owner_lines : Program → List Owner → List Frame → List Frame → List ℕ
owner_lines p (o ∷ os) (x ∷ xs) (y ∷ ys) = variable_lines (cell_line p o) o.slots x y ++ owner_lines p os xs ys
owner_lines p _ _ _ = []

-- The lines of the places that are there before and after and whose numbers differ: globals, and then the variables of each
-- process, whose proctypes are known by their numbers in the model.
abbrev pub value_lines : Program → List ℕ → List Frame → List Frame → Bool → Bool → List ℕ
value_lines p sorts before after globals locals = owner_lines p (owners p globals locals sorts) before after

-- ---- what `printf` prints

-- the letters of a line feed and a tab
abbrev pub letter_n : ℕ
letter_n = 110

-- the letter t
abbrev pub letter_t : ℕ
letter_t = 116

-- what a conversion prints of its value, by its letter; a second `%` prints a percent sign
abbrev pub conversion_text : List Word → ℕ → ℤ → List ℕ
conversion_text names letter value =
    if nat_eq letter letter_d then signed_decimal value
    else (if nat_eq letter letter_u then decimal (residue 32 value)
    else (if nat_eq letter letter_o then radix_digits 8 false (residue 32 value)
    else (if nat_eq letter letter_x then radix_digits 16 false (residue 32 value)
    else (if nat_eq letter letter_c then residue 8 value ∷ []
    else (if nat_eq letter letter_e then name_of_number names value
    else percent ∷ [])))))

-- the byte that a byte behind a backslash stands for: `\n` is a line feed, `\t` a tab, any other stands for itself
abbrev pub escaped : ℕ → ℕ
escaped byte = if nat_eq byte letter_n then line_feed else (if nat_eq byte letter_t then tab else byte)

-- what a byte prints, by what stands before it: a percent sign and a backslash print nothing by themselves
abbrev pub printed_byte : List Word → Before → ℕ → ℤ → List ℕ
printed_byte names Nothing byte value = if nat_eq byte percent || nat_eq byte backslash then [] else byte ∷ []
printed_byte names Percent byte value = conversion_text names byte value
printed_byte names Backslash byte value = escaped byte ∷ []

-- what stands before the byte behind this one: a byte that belongs to the one before it begins nothing
abbrev pub before_next : Before → ℕ → Before
before_next Nothing byte = if nat_eq byte percent then Percent else (if nat_eq byte backslash then Backslash else Nothing)
before_next _ byte = Nothing

-- a conversion takes a value, a second `%` none
abbrev pub takes_value : Before → ℕ → Bool
takes_value Percent byte = if nat_eq byte percent then false else true
takes_value _ byte = false

-- the values that are left behind this byte of a string
abbrev pub values_left : Before → ℕ → List ℤ → List ℤ
values_left before byte values = if takes_value before byte then drop 1 values else values

-- bytes of a string, by what stands before them, and the values that are left for them; where none is left it is 0
abbrev pub printed_from : List Word → Before → List ℕ → List ℤ → List ℕ
printed_from names before [] values = []
printed_from names before (byte ∷ bytes) values =
    printed_byte names before byte (slice_index_or values 0 (pos 0))
    ++ printed_from names (before_next before byte) bytes (values_left before byte values)

-- a string without its quotes
abbrev pub unquoted : List ℕ → List ℕ
unquoted string = take (length string - 2) (drop 1 string)

-- a string with its quotes, and a value for each conversion
abbrev pub printed : List Word → List ℕ → List ℤ → List ℕ
printed names string values = printed_from names Nothing (unquoted string) values
