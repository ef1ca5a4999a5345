-- Words by which parts of what a tree stands for are said.
use Rattle.std.specs.Prelude.{◌≡◌, ℕ, suc, nat_eq, Bool, true, false, cond, List, [], ◌∷◌, length, map, fold, find, Option, Some, option_map, refl}
use Rattle.std.specs.Option.{option_map_or}
use Rattle.pml_token.specs.Word.{Word}
use Rattle.pml_tree.specs.declared.tree.Variable.{Variable}
use Rattle.pml_tree.specs.declared.tree.Proctype.{Proctype as TreeProctype}
use Rattle.pml_tree.specs.declared.tree.Unit.{Unit as Part}
use Rattle.pml_program.specs.declared.program.Slot.{Slot}
use Rattle.pml_program.specs.declared.program.Basic.{Basic}
use Rattle.pml_program.specs.declared.program.Stmt.{Stmt, roll-Stmt}
use Rattle.pml_program.specs.declared.program.Seq.{Seq, roll-Seq}
use Rattle.pml_program.specs.declared.program.Fields.{Fields}
use Rattle.pml_program.specs.declared.program.Proctype.{Proctype}
use Rattle.pml_program.specs.declared.program.Program.{Program}
use Rattle.promela_model.specs.Stands.{Globals, Structure, with_constant}
use Rattle.promela_model.specs.StandsModel.{beginning}

-- a statement of the model, with its labels and its tokens
abbrev pub stmt_of : List Word → Basic → List Word → Stmt
stmt_of labels x tokens = roll-Stmt (record { labels = labels; basic = x; tokens = tokens })

-- statements of the model, one behind another
abbrev pub steps_of : List Stmt → Seq
steps_of xs = roll-Seq (record { steps = xs })

-- nothing is declared yet
abbrev pub nothing_of : List Part → Globals
nothing_of us = record { text = us; variables = []; constants = []; typedefs = []; proctypes = [] }

-- the same, with a number one higher
abbrev pub one_behind : Option (ℕ × Slot) → Option (ℕ × Slot)
one_behind x = option_map (λ p. (suc p.0, p.1)) x

-- a number one higher
abbrev pub one_more : Option ℕ → Option ℕ
one_more x = option_map suc x

-- the fields of the typedef with this number
abbrev pub fields_of : List Structure → ℕ → List Slot
fields_of xs t = option_map_or (λ x. x.fields) (find (λ x. nat_eq t x.number) xs) []

pub fields-cons : (x : Structure) (xs : List Structure) (t : ℕ) → fields_of (x ∷ xs) t ≡ cond (nat_eq t x.number) x.fields (fields_of xs t)
fields-cons x xs t = by (nat_eq t x.number)
  where
    by : (b : Bool) → option_map_or (λ (y : Structure). y.fields) (cond b (Some x) (find (λ (y : Structure). nat_eq t y.number) xs)) [] ≡ cond b x.fields (fields_of xs t)
    by true = refl
    by false = refl

-- the names of variables
abbrev pub names_of : List Variable → List Word
names_of vs = map (λ v. v.name) vs

-- more names of an `mtype`, from the first on
abbrev pub with_constants : Globals → List Word → Globals
with_constants gs ws = fold with_constant gs ws

-- the same, with these variables
abbrev pub with_variables : Globals → List Slot → Globals
with_variables gs ss = record gs { variables = ss }

-- the fields of a typedef
abbrev pub fields_with : ℕ → List Slot → Fields
fields_with o fs = record { owner = o; fields = fs }

-- a typedef with its number and its fields
abbrev pub structure : Word → ℕ → List Slot → Structure
structure t o fs = record { name = t; number = o; fields = fs }

-- the proctype with this number, its variables and its body
abbrev pub proctype_with : ℕ → TreeProctype → List Slot → Seq → Proctype
proctype_with o p ls x = record {
  name = p.name;
  owner = o;
  starts = beginning p.starts;
  parameters = length p.parameters;
  variables = ls;
  body = x;
  end = p.end;
}

-- a model by its parts
abbrev pub program_of : List Slot → List Word → List Fields → List Proctype → Program
program_of gs cs ts ps = record { globals = gs; constants = cs; typedefs = ts; proctypes = ps }
