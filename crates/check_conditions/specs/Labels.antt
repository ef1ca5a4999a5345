-- What the tables of the code say of a mark; Decided.antt says it by the marks alone.
use Rattle.std.specs.Prelude.{◌≡◌, ℕ, is_some, List}
use Rattle.promela_model.specs.declared.mark.Mark.{Mark}
use Rattle.check_names.specs.declared.places.Places.{Places}
use Rattle.check_names.specs.Places.{IsKept, stands}
use Rattle.check_names.specs.Entry.{Entry, found}
use Rattle.check_names.specs.Env.{told}
use Rattle.promela_model.specs.Conditions.{Around, Labels}
use Rattle.promela_model.specs.Names.{before}
use Rattle.promela_model.specs.Decided.{has_label}

abbrev pub labels_of : Places ℕ → Labels
labels_of ps o n = is_some (stands ps.numbers ps.places o n)

-- the labels of these marks
pub record AreLabels (ms : List Mark) (ps : Places ℕ) : Type 0 where
  pub kept : IsKept ps.numbers ps.places
  pub same : (o : ℕ) (n : List ℕ) → labels_of ps o n ≡ has_label ms o n

abbrev pub told_around : List Entry → Places ℕ → List Entry → Places ℕ → Around
told_around all every names labels = record { all = found all; every_label = labels_of every; before = told names; labels = labels_of labels }

-- what stands before a mark and in the whole text, by which its condition is asked
abbrev pub around : List Mark → List Mark → Around
around ms first = record { all = (before ms).names; every_label = has_label ms; before = before first; labels = has_label first }
