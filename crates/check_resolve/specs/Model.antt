-- A whole model, with its names replaced.
use Rattle.std.specs.Prelude.{ℕ, ◌+◌, List, [], ◌∷◌, ◌++◌, length, reverse}
use Rattle.pml_tree.specs.declared.tree.Starts.{Starts}
use Rattle.pml_tree.specs.declared.tree.Starts.TheVariants as starts
use Rattle.pml_tree.specs.declared.tree.Proctype.{Proctype as TreeProctype}
use Rattle.pml_tree.specs.declared.tree.Unit.{Unit as Part}
use Rattle.pml_tree.specs.declared.tree.Unit.TheVariants as part
use Rattle.pml_tree.specs.declared.tree.Tree.{Tree}
use Rattle.promela_model.specs.Names.{constant}
use Rattle.promela_model.specs.Marks.{of_tree}
use Rattle.check_uses.specs.Parts.{of_constants}
use Rattle.promela_model.specs.declared.mark.Declared.TheVariants as declared_as
use Rattle.promela_model.specs.declared.mark.What.TheVariants as what
use Rattle.promela_model.specs.declared.mark.Role.TheVariants as role
use Rattle.check_names.specs.Entry.{Entry}
use Rattle.check_names.specs.Env.{after, env, env_from}
use Rattle.pml_program.specs.declared.program.Proctype.{Proctype}
use Rattle.pml_program.specs.declared.program.Program.{Program}
use Rattle.check_resolve.specs.Declarations.{known, natural, with_variables}
use Rattle.check_resolve.specs.Statements.{numbered_seq}

-- a part of a model, and the names behind it
pub record Made : Type 0 where
  pub program : Program
  pub names : List Entry

abbrev pub made : Program → List Entry → Made
made p es = record { program = p; names = es }

-- how many processes begin
abbrev pub count : Starts → ℕ
count starts.Never = 0
count starts.Once = 1
count (starts.Times e) = natural (constant e)

-- The proctype whose names have the owner o, behind those of m. It is declared before its parameters and its body.
abbrev pub with_process : List Entry → ℕ → TreeProctype → Made → Made
with_process all o p m =
    let es = after m.names 0 (what.Declares p.name (declared_as.Proctype (length m.program.proctypes) (length p.parameters))) in
    let x = numbered_seq p.body all o (with_variables all role.Variable o p.parameters (known es [])) in
    let process : Proctype = record {
      name = p.name;
      owner = o;
      starts = count p.starts;
      parameters = length p.parameters;
      variables = x.1.slots;
      body = x.0;
      end = p.end;
    } in
    made (record m.program { proctypes = m.program.proctypes ++ process ∷ [] }) x.1.names

-- One unit more, the one with the number o. mtype names are numbered from the last of a list to its first.
abbrev pub with_unit : List Entry → ℕ → Part → Made → Made
with_unit all o (part.Variables vs) m =
    let k = with_variables all role.Variable 0 vs (known m.names m.program.globals) in
    made (record m.program { globals = k.slots }) k.names
with_unit all o (part.Constants ns) m =
    made (record m.program { constants = m.program.constants ++ reverse ns }) (env_from m.names (of_constants ns))
with_unit all o (part.Typedef t vs) m =
    let k = with_variables all role.Field o vs (known m.names []) in
    made (record m.program { typedefs = m.program.typedefs ++ record { owner = o; fields = k.slots } ∷ [] })
    (after k.names 0 (what.Declares t (declared_as.Typedef o)))
with_unit all o (part.Proctype p) m = with_process all o p m

abbrev pub with_units : List Entry → ℕ → List Part → Made → Made
with_units all o [] m = m
with_units all o (u ∷ us) m = with_units all (o + 1) us (with_unit all o u m)

abbrev pub no_program : Program
no_program = record { globals = []; constants = []; typedefs = []; proctypes = [] }

-- the model that a tree stands for
abbrev pub numbered_model : Tree → Program
numbered_model t = (with_units (env (of_tree t)) 1 t.units (made no_program [])).program
