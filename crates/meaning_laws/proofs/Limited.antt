-- A whole model is within the limits, where the marks of its tree are.
use Rattle.std.proofs.Common.{◌≡◌, ℕ, ◌+◌, ◌<◌, ◌≤◌, List, [], ◌∷◌, ◌++◌, length, refl, ap, sym, subst, ◌∙◌, arith}
use Rattle.std.specs.List.{AllByRecursion}
use Rattle.profile.specs.declared.TheConstants.{MOST_CELLS}
use Rattle.pml_tree.specs.declared.tree.Unit.{Unit as Part}
use Rattle.pml_tree.specs.declared.tree.Unit.TheVariants as part
use Rattle.pml_tree.specs.declared.tree.Tree.{Tree}
use Rattle.promela_model.specs.Marks.{one_mark, of_variables, of_unit, of_units, of_tree}
use Rattle.check_uses.specs.Parts.{proctypes_past}
use Rattle.promela_model.specs.declared.mark.Mark.{Mark}
use Rattle.promela_model.specs.declared.mark.Declared.TheVariants as declared_as
use Rattle.promela_model.specs.declared.mark.Role.{Role}
use Rattle.promela_model.specs.declared.mark.Role.TheVariants as role
use Rattle.promela_model.specs.declared.mark.What.{What}
use Rattle.promela_model.specs.declared.mark.What.TheVariants as what
use Rattle.check_names.specs.Entry.{Entry}
use Rattle.check_names.specs.Env.{after, env, env_from}
use Rattle.pml_program.specs.declared.program.Fields.{Fields}
use Rattle.pml_program.specs.declared.program.Proctype.{Proctype}
use Rattle.pml_program.specs.declared.program.Program.{Program}
use Rattle.check_resolve.specs.Declarations.{Known, known, with_variables}
use Rattle.check_resolve.specs.Model.{Made, made, no_program, with_unit, with_units, numbered_model}
use Rattle.promela_model.specs.Stands.{Globals, cells_in_all}
use Rattle.meaning_laws.proofs.Words.{nothing_of}
use Rattle.meaning_laws.proofs.Growing.{Below, variables-below, held-below}
use Rattle.meaning_laws.proofs.Reading.{ReadsAll}
use Rattle.meaning_laws.proofs.Quiet.{env-append, quiet-begins}
use Rattle.meaning_laws.proofs.Limits.{AllFew, few-first, few-rest, Rooms, Kept, quiet-leads, both-lead, variables-lead, seq-leads}
use Rattle.meaning_laws.proofs.Marking.{tree-marked}
use Rattle.meaning_laws.proofs.Units.{Whole, made_so_far, one-longer, opened, unit-whole}
use Rattle.meaning_laws.proofs.Model.{start-whole}

-- the globals and each proctype have few cells, and no channel of the model has room for more numbers than it may hold
pub record IsLimited (p : Program) : Type 0 where
  pub globals : cells_in_all p.globals ≤ MOST_CELLS
  pub rooms : Rooms p.globals
  pub fields : AllByRecursion (λ (f : Fields). Rooms f.fields) p.typedefs
  pub processes : AllByRecursion (λ (q : Proctype). (cells_in_all q.variables ≤ MOST_CELLS) × Rooms q.variables) p.proctypes

all-more : {A : Type 0} (P : A → Type 0) (xs : List A) (x : A) → AllByRecursion P xs → P x → AllByRecursion P (xs ++ x ∷ [])
all-more P [] x h g = (g, tt)
all-more P (y ∷ xs) x h g = (h.0, all-more P xs x h.1 g)

-- an owner that has declared nothing
nothing-kept : (x : Role) (o : ℕ) (es : List Entry) → Below o es → Kept x o (known es [])
nothing-kept role.Variable o es h = record { count = variables-below o es h; held = held-below o es h; cells = omega arith; rooms = tt }
nothing-kept role.Field o es h = record { count = variables-below o es h; held = held-below o es h; cells = tt; rooms = tt }

module _ (text : List Part) (all : List Entry) (whole : ReadsAll text all) where
  abbrev Before : Globals → ℕ → List Part → Made → Type 0
  Before = Whole text all whole

  -- behind a unit
  record Behind (o : ℕ) (u : Part) (m : Made) : Type 0 where
    names : (with_unit all o u m).names ≡ env_from m.names (of_unit o (made_so_far m) u)
    count : made_so_far (with_unit all o u m) ≡ proctypes_past (made_so_far m) u
    limited : IsLimited (with_unit all o u m).program

  unit-limited : (u : Part) (us : List Part) (o : ℕ) (gs : Globals) (m : Made) → 0 < o → Before gs o (u ∷ us) m → IsLimited m.program → AllFew m.names (of_unit o (made_so_far m) u) → Behind o u m
  unit-limited (part.Variables vs) us o gs m p h l f =
      let old : Kept role.Variable 0 (known m.names m.program.globals) = record {
        count = h.base.count ∙ ap length (sym h.globals);
        held = h.base.held ∙ ap cells_in_all (sym h.globals);
        cells = l.globals;
        rooms = l.rooms;
      } in
      let g = variables-lead all role.Variable 0 vs (known m.names m.program.globals) old f in
      record { names = g.names; count = refl; limited = record { globals = g.kept.cells; rooms = g.kept.rooms; fields = l.fields; processes = l.processes } }
  unit-limited (part.Constants ns) us o gs m p h l f =
      record { names = refl; count = refl; limited = record { globals = l.globals; rooms = l.rooms; fields = l.fields; processes = l.processes } }
  unit-limited (part.Typedef t vs) us o gs m p h l f =
      let w : What = what.Declares t (declared_as.Typedef o) in
      let xs : List Mark = of_variables role.Field o vs 0 in
      let g = variables-lead all role.Field o vs (known m.names []) (nothing-kept role.Field o m.names h.below) (few-first m.names xs (one_mark w 0) f) in
      record {
        names = ap (λ (es : List Entry). after es 0 w) g.names ∙ sym (env-append m.names xs (one_mark w 0));
        count = refl;
        limited = record { globals = l.globals; rooms = l.rooms; fields = all-more (λ (f : Fields). Rooms f.fields) m.program.typedefs _ l.fields g.kept.rooms; processes = l.processes };
      }
  unit-limited (part.Proctype q) us o gs m p h l f =
      let es : List Entry = after m.names 0 (what.Declares q.name (declared_as.Proctype (made_so_far m) (length q.parameters))) in
      let parameters : Known = with_variables all role.Variable o q.parameters (known es []) in
      let g = both-lead (quiet-leads (quiet-begins q.starts o) (known es [])) (both-lead (variables-lead all role.Variable o q.parameters (known es [])) (seq-leads all o q.body parameters))
      (nothing-kept role.Variable o es (opened text all whole o q us gs m p h).below) f.1 in
      record {
        names = g.names;
        count = sym (one-longer m.program.proctypes _);
        limited = record {
          globals = l.globals;
          rooms = l.rooms;
          fields = l.fields;
          processes = all-more (λ (q : Proctype). (cells_in_all q.variables ≤ MOST_CELLS) × Rooms q.variables) m.program.proctypes _ l.processes (g.kept.cells, g.kept.rooms);
        };
      }

  units-limited : (us : List Part) (o : ℕ) (gs : Globals) (m : Made) → 0 < o → Before gs o us m → IsLimited m.program → AllFew m.names (of_units o (made_so_far m) us) → IsLimited (with_units all o us m).program
  units-limited [] o gs m p h l f = l
  units-limited (u ∷ us) o gs m p h l f =
      let k : ℕ = made_so_far m in
      let xs : List Mark = of_unit o k u in
      let ys : List Mark = of_units (o + 1) (proctypes_past k u) us in
      let r = unit-limited u us o gs m p h l (few-first m.names xs ys f) in
      let n = unit-whole text all whole u us o gs m p h in
      let rest : AllFew (with_unit all o u m).names ys = subst (λ (es : List Entry). AllFew es ys) (sym r.names) (few-rest m.names xs ys f) in
      units-limited us (o + 1) n.0 (with_unit all o u m) (omega (arith, p)) n.1 r.limited (subst (λ (j : ℕ). AllFew (with_unit all o u m).names (of_units (o + 1) j us)) (sym r.count) rest)

-- the model that a tree with such marks stands for
pub model-limited : (t : Tree) → AllFew [] (of_tree t) → IsLimited (numbered_model t)
model-limited t f =
    units-limited t.units (env (of_tree t)) (tree-marked t) t.units 1 (nothing_of t.units) (made no_program []) (omega arith) (start-whole t)
    (record { globals = omega arith; rooms = tt; fields = tt; processes = tt }) f
