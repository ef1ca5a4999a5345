-- Rows: `typedef R { byte e; byte f[2] }; R r; R a[2]; byte x`, whose cells are r.e, r.f[0], r.f[1], a[0].e, .., a[1].f[1], x.
use Rattle.std.proofs.Common.{◌≡◌, ℕ, Bool, true, false, List, [], ◌∷◌, ◌++◌, refl}
use Rattle.std.specs.Prelude.{codes}
use Rattle.std.specs.Fmt.{decimal}
use Rattle.pml_token.specs.declared.token.Kind.TheVariants as word
use Rattle.pml_tree.specs.declared.tree.Scalar.TheVariants as scalar
use Rattle.pml_program.specs.declared.form.Form.{Form}
use Rattle.pml_program.specs.declared.form.Form.TheVariants as kind
use Rattle.pml_program.specs.declared.program.Initial.TheVariants as i
use Rattle.pml_program.specs.declared.program.Slot.{Slot}
use Rattle.pml_program.specs.declared.program.Program.{Program}
use Rattle.promela_run.specs.Lines.{path}
use Rattle.meaning_laws.specs.Tiled.{names_along, indices_along}
use Rattle.cell_laws.specs.Paths.{spelled}

abbrev slot : List ℕ → Form → Bool → ℕ → ℕ → ℕ → Slot
slot n f array offset length stride = record {
  name = record { kind = word.Name; text = n; line = 1 };
  form = f;
  array = array;
  offset = offset;
  length = length;
  stride = stride;
  initial = i.Zero;
}

abbrev byte : Form
byte = kind.Plain scalar.Byte

abbrev r : Slot
r = slot (codes "r") (kind.Struct 1) false 0 1 3

abbrev a : Slot
a = slot (codes "a") (kind.Struct 1) true 3 2 3

abbrev x : Slot
x = slot (codes "x") byte false 9 1 1

abbrev model : Program
model = record {
  globals = r ∷ a ∷ x ∷ [];
  constants = [];
  typedefs = record { owner = 1; fields = slot (codes "e") byte false 0 1 1 ∷ slot (codes "f") byte true 1 2 1 ∷ [] } ∷ [];
  proctypes = [];
}

abbrev words : List (ℕ × ℕ) → List ℕ
words = spelled model.typedefs model.globals

row_variable : words ((2, 0) ∷ []) ≡ codes "x"
row_variable = refl

row_field : words ((0, 0) ∷ (0, 0) ∷ []) ≡ codes "r.e"
row_field = refl

row_elements : words ((1, 1) ∷ (1, 1) ∷ []) ≡ (codes "a[" ++ (decimal 1 ++ codes "]")) ++ (codes ".f[" ++ ((decimal 1 ++ codes "]") ++ []))
row_elements = refl

row_names : names_along model.typedefs model.globals ((1, 1) ∷ (1, 0) ∷ []) ≡ codes "a" ∷ codes "f" ∷ []
row_names = refl

row_indices : indices_along ((1, 1) ∷ (1, 0) ∷ []) ≡ 1 ∷ 0 ∷ []
row_indices = refl

-- what value lines print
row_path_of_r : path model r 0 ≡ words ((0, 0) ∷ (0, 0) ∷ [])
row_path_of_r = refl

row_path_in_r : path model r 2 ≡ words ((0, 0) ∷ (1, 1) ∷ [])
row_path_in_r = refl

row_path_of_a : path model a 3 ≡ words ((1, 1) ∷ (0, 0) ∷ [])
row_path_of_a = refl

row_path_in_a : path model a 5 ≡ words ((1, 1) ∷ (1, 1) ∷ [])
row_path_in_a = refl

row_path_of_x : path model x 0 ≡ words ((2, 0) ∷ [])
row_path_of_x = refl
