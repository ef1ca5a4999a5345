-- Which declaration each name of a text means: what a mark's names stand for is what the checks find, `meaning` and `field`.
use Rattle.std.specs.Prelude.{ℕ, if◌then◌else◌, List, [], ◌∷◌, ◌++◌, length, Option, Some, None, option_and_then}
use Rattle.std.specs.Option.{option_or}
use Rattle.pml_token.specs.Word.{Word}
use Rattle.pml_program.specs.declared.form.Form.{Form}
use Rattle.pml_program.specs.declared.form.Form.TheVariants as kind
use Rattle.promela_model.specs.declared.thing.Thing.{Thing}
use Rattle.promela_model.specs.declared.thing.Thing.TheVariants as thing
use Rattle.promela_model.specs.declared.mark.Shape.{Shape}
use Rattle.promela_model.specs.declared.mark.What.{What}
use Rattle.promela_model.specs.declared.mark.What.TheVariants as what
use Rattle.promela_model.specs.declared.mark.Mark.{Mark}
use Rattle.promela_model.specs.Names.{Naming, before, is_special, meaning, only_process}
use Rattle.declared_names.specs.Sites.{Sites, sites, labels}
use Rattle.declared_names.specs.declared.occurrence.Occurrence.{Occurrence}

-- what names stand for, and where they are declared
pub record Known : Type 0 where
  pub names : Naming
  pub sites : Sites

-- what these marks declare
abbrev pub known : List Mark → Known
known ms = record { names = (before ms).names; sites = sites ms }

-- a name that is declared there
abbrev pub at_place : Word → Option ℕ → List Occurrence
at_place w None = []
at_place w (Some p) = record { at = w.line; length = length w.text; declared = p } ∷ []

-- Where the name is declared that o means by n: by `meaning`, a name of its own, a global one, or a proctype of the whole text.
abbrev pub meant_site : Known → Known → ℕ → List ℕ → Option ℕ
meant_site all here o n =
    if is_special n then None
    else option_or (here.sites o n) (option_or (here.sites 0 n) (option_and_then (λ t. all.sites 0 n) (only_process (all.names 0 n))))

-- the type of what a name stands for
abbrev pub form_of : Option Thing → Form
form_of (Some (thing.Variable v)) = v.form
form_of t = kind.Unknown

-- the fields of what has this type
abbrev pub fields : Known → Form → List Shape → List Occurrence
fields here f [] = []
fields here (kind.Struct t) (s ∷ ss) = at_place s.name (here.sites t s.name.text) ++ fields here (form_of (here.names t s.name.text)) ss
fields here f (s ∷ ss) = []

-- a reference: its first name, and then fields
abbrev pub reference : Known → Known → ℕ → List Shape → List Occurrence
reference all here o [] = []
reference all here o (s ∷ ss) =
    at_place s.name (meant_site all here o s.name.text) ++ fields here (form_of (meaning all.names here.names o s.name.text)) ss

-- the names of a mark, among all that is declared, what is declared up to it, and the labels of the text
abbrev pub by_mark : Known → Known → Sites → ℕ → What → List Occurrence
by_mark all here ls o (what.Declares w d) = at_place w (here.sites o w.text)
by_mark all here ls o (what.Uses u ss) = reference all here o ss
by_mark all here ls o (what.Typedef w) = at_place w (meant_site all here o w.text)
by_mark all here ls o (what.Runs w n) = at_place w (meant_site all here o w.text)
by_mark all here ls o (what.Label w) = at_place w (ls o w.text)
by_mark all here ls o (what.Goto w) = at_place w (ls o w.text)
by_mark all here ls o x = []

abbrev pub mark_in : Known → Known → Sites → Mark → List Occurrence
mark_in all here ls m = by_mark all here ls m.owner m.what

-- the names of marks behind others, among all of a text
abbrev pub by_marks : List Mark → List Mark → List Mark → List Occurrence
by_marks all front [] = []
by_marks all front (m ∷ ms) =
    by_mark (known all) (known (front ++ m ∷ [])) (labels all) m.owner m.what ++ by_marks all (front ++ m ∷ []) ms

-- the names of all marks of a text, each with its declaration
abbrev pub meant : List Mark → List Occurrence
meant ms = by_marks ms [] ms
