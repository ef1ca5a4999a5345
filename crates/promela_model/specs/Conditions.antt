-- The conditions on labels, numbers and cells, on names, kinds and counts, and all that are asked of one mark and of what is
-- declared before it.
-- Hold it against docs/REFUSALS.md, M6 to M10, M14 and M15.
use Rattle.std.specs.Prelude.{ℕ, Bool, ◌||◌, List, Option, Some, None, ◌+◌, ◌*◌, nat_eq, nat_lt, ◌&&◌, if◌then◌else◌, is_some, pos, true, false, not, is_none, negsuc, ◌-◌, [], ◌∷◌, length, take, drop, option_map}
use Rattle.std.specs.Option.{option_map_or, option_eq}
use Rattle.pml_program.specs.declared.form.Form.{Form}
use Rattle.pml_program.specs.declared.form.Form.TheVariants as kind
use Rattle.promela_model.specs.declared.thing.Thing.{Thing}
use Rattle.promela_model.specs.declared.thing.Thing.TheVariants as thing
use Rattle.profile.specs.declared.TheConstants.{MOST_CELLS, MOST_BITS, MOST_CONSTANTS, MOST_FIELDS, MOST_MESSAGES, MOST_PROCESSES}
use Rattle.promela_model.specs.declared.mark.Constant.{Constant}
use Rattle.promela_model.specs.declared.mark.Constant.TheVariants.{Is, Faulty, Open}
use Rattle.promela_model.specs.declared.mark.Role.TheVariants.{Variable}
use Rattle.promela_model.specs.declared.mark.Declared.TheVariants as declared_as
use Rattle.promela_model.specs.declared.mark.What.{What}
use Rattle.promela_model.specs.declared.mark.What.TheVariants as what
use Rattle.promela_model.specs.declared.mark.Role.TheVariants as role
use mathlib.Core.Bool.{beq}
use Rattle.profile.specs.Characters.{percent, backslash, letter_c, letter_d, letter_e, letter_o, letter_u, letter_x}
use Rattle.pml_tree.specs.declared.tree.Scalar.TheVariants.{Chan}
use denote.Enum.Bare.{sameb}
use Rattle.promela_model.specs.contracts.mark.Use.{the_type}
use Rattle.promela_model.specs.declared.mark.Use.{Use}
use Rattle.promela_model.specs.declared.mark.Use.TheVariants.{Read, Store, Receive, Channel, Preset}
use Rattle.promela_model.specs.declared.mark.Shape.{Shape}
use Rattle.promela_model.specs.declared.mark.Holder.TheVariants.{Chan, Other}
use Rattle.promela_model.specs.declared.condition.Condition.{Condition}
use Rattle.promela_model.specs.declared.condition.Condition.TheVariants as condition
use Rattle.promela_model.specs.Names.{Naming, is_any, is_pid, is_special, only_process, meaning, field_of_type, form_of, Before, stride, numeral, count_of, length_of}

-- ---- a label stands twice, or is missing

-- the labels of each owner
abbrev pub Labels : Type 0
Labels = ℕ → List ℕ → Bool

-- a label stands twice in its proctype, or a goto leads to one that the proctype does not have
abbrev pub mislabelled : Labels → Labels → ℕ → What → Bool
mislabelled every labels o (what.Label l) = labels o l.text
mislabelled every labels o (what.Goto l) = not (every o l.text)
mislabelled every labels o _ = false

-- ---- a number out of range

-- a constant is not within these bounds
abbrev pub is_outside : ℕ → ℕ → Constant → Bool
is_outside least most Open = false
is_outside least most Faulty = true
is_outside least most (Is (negsuc n)) = true
is_outside least most (Is (pos n)) = nat_lt n least || nat_lt most n

-- where so many mtype names stand before; a preset is refused whose value is a fault, as one that divides by zero
abbrev pub out_of_range : ℕ → What → Bool
out_of_range constants (what.Number n) = is_none (numeral n.text)
out_of_range constants (what.Width n) = option_map_or (λ b. nat_lt b 1 || nat_lt MOST_BITS b) (numeral n.text) true
out_of_range constants (what.Size c) = is_outside 1 MOST_CELLS c
out_of_range constants (what.Starts c) = is_outside 1 MOST_PROCESSES c
out_of_range constants (what.Preset Faulty) = true
out_of_range constants (what.Channel h c n) = is_outside 0 MOST_MESSAGES c || nat_lt MOST_FIELDS n
out_of_range constants (what.Declares n declared_as.Constant) = not (nat_lt constants MOST_CONSTANTS)
out_of_range constants _ = false

-- ---- too many cells

-- of the globals, of a proctype's parameters and locals, of one channel; a typedef's own are not asked
abbrev pub too_many : Before → ℕ → What → Bool
too_many b o (what.Declares n (declared_as.Variable role.Variable s size makes)) =
    nat_lt MOST_CELLS (b.cells o + length_of size * stride b.names o s)
too_many b o (what.Channel h c n) = nat_lt MOST_CELLS (count_of c * n)
too_many b o _ = false

-- ---- a name is declared twice, or one that none declares
abbrev pub twice : Naming → ℕ → What → Bool
twice names o (what.Declares n d) = is_special n.text || is_some (names o n.text)
twice names o _ = false

-- ---- a name that is not declared, or a field that its typedef lacks

-- a field that its typedef has not is missing; of what has no fields none is missing, which is refused by itself
abbrev pub lacks_in : Option (Option Thing) → (Form → Bool) → Bool
lacks_in (Some None) rest = true
lacks_in (Some (Some (thing.Variable v))) rest = rest v.form
lacks_in _ rest = false

-- one of these fields is missing, of what has this type
abbrev pub lacks : Naming → Form → List Shape → Bool
lacks names f [] = false
lacks names f (s ∷ ss) = lacks_in (field_of_type names f s.name.text) (λ g. lacks names g ss)

-- where a variable or an mtype name is wanted
abbrev pub lost : Naming → Option Thing → List Shape → Bool
lost names (Some (thing.Variable v)) ss = lacks names v.form ss
lost names (Some (thing.Constant n)) ss = false
lost names _ ss = true

-- a reference begins with a name that is not declared, or one of its fields is missing
abbrev pub unknown_in : Naming → Naming → ℕ → List Shape → Bool
unknown_in all names o [] = false
unknown_in all names o (s ∷ ss) = if is_special s.name.text then false else lost names (meaning all names o s.name.text) ss

-- a name is not declared
abbrev pub unknown_name : Naming → Naming → ℕ → List ℕ → Bool
unknown_name all names o n = if is_special n then false else is_none (meaning all names o n)

-- a use, a typedef's name or a proctype's name is not declared
abbrev pub unknown : Naming → Naming → ℕ → What → Bool
unknown all names o (what.Uses u ss) = unknown_in all names o ss
unknown all names o (what.Typedef t) = unknown_name all names o t.text
unknown all names o (what.Runs n k) = unknown_name all names o n.text
unknown all names o _ = false

-- ---- a name or a value of the wrong kind

-- a name alone: it has no index, and no field is behind it
abbrev pub is_plain : Shape → List Shape → Bool
is_plain s ss = not s.indexed && nat_eq (length ss) 0

-- two uses are the same
abbrev pub same_use : Use → Use → Bool
same_use = sameb the_type

-- a value of this type: no typedef's, and `chan` where it is used as a channel
abbrev pub misused : Use → Form → Bool
misused u (kind.Struct t) = true
misused u kind.Unknown = false
misused u (kind.Plain Chan) = false
misused Channel _ = true
misused _ _ = false

-- a field of what has none is wrong, and one that is missing is refused by itself; an array has an index, and nothing else has
abbrev pub misfits_in : Bool → Option (Option Thing) → (Form → Bool) → Bool
misfits_in indexed None rest = true
misfits_in indexed (Some (Some (thing.Variable v))) rest = not (beq indexed v.array) || rest v.form
misfits_in indexed _ rest = false

-- a name that is no typedef's is refused by itself
abbrev pub is_unknown : Form → Bool
is_unknown kind.Unknown = true
is_unknown _ = false

-- the steps behind a variable of this type
abbrev pub misfits : Naming → Use → Form → List Shape → Bool
misfits names u f [] = misused u f
misfits names u f (s ∷ ss) =
    if is_unknown f then false else misfits_in s.indexed (field_of_type names f s.name.text) (λ g. misfits names u g ss)

-- what is declared by this name is used as something else: the initialiser of a typedef's field wants an mtype name, which is only read or compared
abbrev pub wrong_thing : Naming → Use → Option Thing → Shape → List Shape → Bool
wrong_thing names u (Some (thing.Variable v)) s ss = same_use u Preset || (not (beq s.indexed v.array) || misfits names u v.form ss)
wrong_thing names u (Some (thing.Constant n)) s ss = not (is_plain s ss && (same_use u Read || (same_use u Receive || same_use u Preset)))
wrong_thing names u _ s ss = false

-- `_` is only stored, and `_pid`, in a proctype, and `_nr_pr` are only read
abbrev pub wrong_special : ℕ → Use → Shape → List Shape → Bool
wrong_special o u s ss =
    if is_any s.name.text then not (is_plain s ss && (same_use u Store || same_use u Receive))
    else (if is_pid s.name.text then not (is_plain s ss && (same_use u Read && nat_lt 0 o)) else not (is_plain s ss && same_use u Read))

-- a reference is used as something else than what it is declared as
abbrev pub wrong_in : Naming → Naming → ℕ → Use → List Shape → Bool
wrong_in all names o u [] = false
wrong_in all names o u (s ∷ ss) =
    if is_special s.name.text then wrong_special o u s ss else wrong_thing names u (meaning all names o s.name.text) s ss

-- a name is used as something else than what it is declared as, or a value is not known that is wanted before the run
abbrev pub wrong : Naming → Naming → ℕ → What → Bool
wrong all names o (what.Uses u ss) = wrong_in all names o u ss
wrong all names o (what.Typedef t) = is_special t.text || (let x = meaning all names o t.text in is_some x && is_unknown (form_of x))
wrong all names o (what.Runs n k) = is_special n.text || (let x = meaning all names o n.text in is_some x && is_none (only_process x))
wrong all names o (what.Size Open) = true
wrong all names o (what.Starts Open) = true
wrong all names o (what.Preset Open) = true
wrong all names o (what.Channel Other c n) = true
wrong all names o (what.Channel Chan Open n) = true
wrong all names o _ = false

-- ---- run against its parameters, printf against its conversions

-- the letter of a conversion: d, u, o, x, c or e
abbrev pub is_conversion : ℕ → Bool
is_conversion c = nat_eq c letter_d || (nat_eq c letter_u || (nat_eq c letter_o || (nat_eq c letter_x || (nat_eq c letter_c || nat_eq c letter_e))))

-- a percent sign and this letter before the rest of a text: `%%` counts as none, and another letter is no conversion
abbrev pub conversion : ℕ → Option ℕ → Option ℕ
conversion c rest = if nat_eq c percent then rest else (if is_conversion c then option_map (λ n. n + 1) rest else None)

-- how many values the text of a printf takes, or none where it has a conversion that is lacking; `\%` begins none
abbrev pub conversions : List ℕ → Option ℕ
conversions [] = Some 0
conversions (c ∷ []) = if nat_eq c percent then None else Some 0
conversions (c ∷ d ∷ cs) =
    if nat_eq c percent then conversion d (conversions cs)
    else (if nat_eq c backslash then conversions cs else conversions (d ∷ cs))

-- a proctype takes another number of arguments
abbrev pub takes_other : Option Thing → ℕ → Bool
takes_other (Some (thing.Proctype o n)) k = not (nat_eq n k)
takes_other _ k = false

-- another number of arguments or of values is given than is wanted, or it is not known how many are wanted; the text of a
-- printf is asked without the quotes round it
abbrev pub other_count : Naming → Naming → ℕ → What → Bool
other_count all names o (what.Runs n k) = takes_other (meaning all names o n.text) k
other_count all names o (what.Prints t k) =
    not (option_eq nat_eq (conversions (take (length t.text - 2) (drop 1 t.text))) (Some k))
other_count all names o _ = false

-- ---- all of these

-- what is asked of a mark stands among this: the names and labels of the whole text, and what is declared and labelled before the mark
pub record Around : Type 0 where
  pub all : Naming
  pub every_label : Labels
  pub before : Before
  pub labels : Labels

-- whether a mark breaks one of these conditions
unfoldable pub judged : Condition → Around → ℕ → What → Bool
judged condition.Twice a o w = twice a.before.names o w
judged condition.Unknown a o w = unknown a.all a.before.names o w
judged condition.Wrong a o w = wrong a.all a.before.names o w
judged condition.Arguments a o w = other_count a.all a.before.names o w
judged condition.Label a o w = mislabelled a.every_label a.labels o w
judged condition.Range a o w = out_of_range a.before.constants w
judged condition.Cells a o w = too_many a.before o w
judged _ a o w = false
