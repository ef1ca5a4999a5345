-- Where names and labels are declared, among marks.
use Rattle.std.specs.Prelude.{ℕ, nat_eq, if◌then◌else◌, List, [], ◌∷◌, Option, Some, None}
use Rattle.std.specs.Option.{option_or}
use Rattle.std.specs.Str.{bytes_eq}
use Rattle.promela_model.specs.declared.mark.What.{What}
use Rattle.promela_model.specs.declared.mark.What.TheVariants as what
use Rattle.promela_model.specs.declared.mark.Mark.{Mark}

-- places by owner and name
abbrev pub Sites : Type 0
Sites = ℕ → List ℕ → Option ℕ

-- the place of the token, where it has this name
abbrev pub placed_as : List ℕ → List ℕ → ℕ → Option ℕ
placed_as n text place = if bytes_eq text n then Some place else None

-- where a mark declares this name
abbrev pub declared_by : What → List ℕ → Option ℕ
declared_by (what.Declares w d) n = placed_as n w.text w.line
declared_by x n = None

-- where a mark is the label of this name
abbrev pub labelled_by : What → List ℕ → Option ℕ
labelled_by (what.Label w) n = placed_as n w.text w.line
labelled_by x n = None

-- of a mark of o, where p is asked for
abbrev pub owned : ℕ → ℕ → Option ℕ → Option ℕ
owned o p x = if nat_eq o p then x else None

-- where the first of these marks declares a name of an owner
abbrev pub sites : List Mark → Sites
sites [] o n = None
sites (m ∷ ms) o n = option_or (owned m.owner o (declared_by m.what n)) (sites ms o n)

-- where the first of these marks is a label of an owner
abbrev pub labels : List Mark → Sites
labels [] o n = None
labels (m ∷ ms) o n = option_or (owned m.owner o (labelled_by m.what n)) (labels ms o n)
