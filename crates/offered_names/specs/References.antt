-- The reference that stands before a dot, read from its end on, and of which type it is.
use Rattle.std.specs.Prelude.{ℕ, ◌+◌, ◌-◌, nat_eq, nat_lt, Bool, true, false, ◌&&◌, if◌then◌else◌, List, [], ◌∷◌, ◌++◌, Option, Some, None, find}
use Rattle.std.specs.Option.{option_map_or, option_or}
use Rattle.std.specs.Str.{bytes_eq}
use Rattle.pml_token.specs.declared.token.Kind.{Kind}
use Rattle.pml_token.specs.declared.token.Kind.TheVariants as kind
use Rattle.pml_token.specs.Word.{same_kind, Word}
use Rattle.pml_program.specs.declared.form.Form.{Form}
use Rattle.pml_program.specs.declared.form.Form.TheVariants as form
use Rattle.promela_model.specs.declared.thing.Thing.TheVariants as thing
use Rattle.declared_names.specs.declared.declared.Declaration.{Declaration}
use Rattle.declared_names.specs.declared.declared.Stands.{Stands}
use Rattle.declared_names.specs.declared.declared.Stands.TheVariants as stands
use Rattle.offered_names.specs.declared.references.Link.{Link}
use Rattle.offered_names.specs.declared.references.Link.TheVariants.{Name, Index, Dot, Begun}
use Rattle.offered_names.specs.Offers.{name_of}

-- how many brackets are open
abbrev pub opened : Link → ℕ
opened (Index n) = n
opened k = 0

abbrev pub after_name : Kind → Link
after_name k = if same_kind k kind.Name then Dot else if same_kind k kind.CloseBracket then Index 1 else Begun

abbrev pub within_index : ℕ → Kind → Link
within_index n k =
    if same_kind k kind.CloseBracket then Index (n + 1)
    else if same_kind k kind.OpenBracket then (if nat_lt n 2 then Name else Index (n - 1))
    else Index n

abbrev pub after_dot : Kind → Link
after_dot k = if same_kind k kind.Dot then Name else Begun

-- what is read before one more token
abbrev pub next : Link → Kind → Link
next Name k = after_name k
next (Index n) k = within_index n k
next Dot k = after_dot k
next Begun k = Begun

-- the token is a name of the reference
abbrev pub is_read : Link → Kind → Bool
is_read Name k = same_kind k kind.Name
is_read l k = false

-- what is read, and the names so far, the last one first
pub record Reading : Type 0 where
  pub link : Link
  pub names : List Word

abbrev pub read_more : Word → Reading → Reading
read_more w r = record { link = next r.link w.kind; names = if is_read r.link w.kind then r.names ++ w ∷ [] else r.names }

abbrev pub read : List Word → Reading
read [] = record { link = Name; names = [] }
read (w ∷ ws) = read_more w (read ws)

-- an owner's, of this name
abbrev pub is_called : List ℕ → ℕ → List ℕ → Declaration → Bool
is_called text o n d = nat_eq d.owner o && bytes_eq (name_of text d) n

-- the type of what is declared
abbrev pub form_by : Stands → Form
form_by (stands.Thing (thing.Variable v)) = v.form
form_by s = form.Unknown

abbrev pub form_of : Declaration → Form
form_of d = form_by d.stands

-- the type of the first of these that is declared
abbrev pub form_found : Option Declaration → Option Declaration → Form
form_found own global = option_map_or form_of (option_or own global) form.Unknown

-- the type of a name that stands where an owner's names do: its own first, and then the global one
abbrev pub form_named : List ℕ → List Declaration → ℕ → List ℕ → Form
form_named text ds o n = form_found (find (is_called text o n) ds) (find (is_called text 0 n) ds)

-- the type of a field
abbrev pub form_within : List ℕ → List Declaration → Form → List ℕ → Form
form_within text ds (form.Struct t) n = form_found (find (is_called text t n) ds) None
form_within text ds f n = form.Unknown

abbrev pub stepped : List ℕ → List Declaration → ℕ → Option Form → List ℕ → Form
stepped text ds o None n = form_named text ds o n
stepped text ds o (Some f) n = form_within text ds f n

-- the type of a reference with these names, the last one first
abbrev pub form_read : List ℕ → List Declaration → ℕ → List Word → Option Form
form_read text ds o [] = None
form_read text ds o (w ∷ ws) = Some (stepped text ds o (form_read text ds o ws) w.text)
