-- A model whose tree fits what is asked of cells is within its limits.
use Rattle.std.proofs.Common.{◌≡◌, ℕ, ◌+◌, ◌*◌, ◌≤◌, max, nat_lt, false, List, [], ◌∷◌, take, refl, ap, sym, subst, ◌∙◌, pos, negsuc, arith, rules}
use Rattle.std.specs.List.{AllByRecursion}
use Rattle.profile.specs.declared.TheConstants.{MOST_CELLS}
use Rattle.diagnostics.specs.declared.refusal.Refusal.TheVariants as r
use Rattle.pml_tree.specs.declared.tree.Tree.{Tree}
use Rattle.promela_model.specs.Marks.{of_tree}
use Rattle.promela_model.specs.declared.mark.Constant.{Constant}
use Rattle.promela_model.specs.declared.mark.Constant.TheVariants as number
use Rattle.promela_model.specs.declared.mark.Role.TheVariants as role
use Rattle.promela_model.specs.declared.mark.Declared.TheVariants as declared_as
use Rattle.promela_model.specs.declared.mark.Mark.{Mark}
use Rattle.promela_model.specs.declared.mark.What.{What}
use Rattle.promela_model.specs.declared.mark.What.TheVariants as what
use Rattle.check_names.specs.Entry.{Entry}
use Rattle.check_names.specs.Env.{told, env, env_from}
use Rattle.promela_model.specs.Names.{Before, count_of}
use Rattle.check_names.proofs.Firsts.{told-before}
use Rattle.promela_model.specs.declared.condition.Condition.TheVariants as condition
use Rattle.promela_model.specs.Conditions.{judged, too_many}
use Rattle.promela_model.specs.Decided as marks
use Rattle.check_conditions.specs.Fitted.{FitsMarks}
use Rattle.pml_program.specs.declared.program.Initial.{Initial}
use Rattle.pml_program.specs.declared.program.Initial.TheVariants as i
use Rattle.pml_program.specs.declared.program.Slot.{Slot}
use Rattle.pml_program.specs.declared.program.Fields.{Fields}
use Rattle.pml_program.specs.declared.program.Proctype.{Proctype}
use Rattle.pml_program.specs.declared.program.Program.{Program}
use Rattle.check_resolve.specs.Declarations.{natural}
use Rattle.check_resolve.specs.Model.{numbered_model}
use Rattle.promela_model.specs.Stands.{cells_in_all}
use Rattle.meaning_laws.proofs.Limits.{Few, AllFew, all-few, room, Rooms}
use Rattle.meaning_laws.proofs.Limited.{IsLimited, model-limited}
use Rattle.run_start.specs.Bound.{cells_of, largest, room_by, room_of, room_of_fields, room_of_processes, IsWithin}
use Rattle.pml_check.specs.Fitted.{FitsTo}
use Rattle.pml_check.specs.Decided.{all_judged, FitsAll}

-- ---- the marks

at_most : (n most : ℕ) → nat_lt most n ≡ false → n ≤ most
at_most n most h = search (rules, h)

same_count : (c : Constant) → count_of c ≡ natural c
same_count (number.Is (pos n)) = refl
same_count (number.Is (negsuc n)) = refl
same_count number.Faulty = refl
same_count number.Open = refl

few_by : (es : List Entry) (o : ℕ) (w : What) → too_many (told es) o w ≡ false → Few es o w
few_by es o (what.Declares n (declared_as.Variable role.Variable s size makes)) h = at_most _ MOST_CELLS h
few_by es o (what.Channel h c n) e = subst (λ (k : ℕ). k * n ≤ MOST_CELLS) (same_count c) (at_most (count_of c * n) MOST_CELLS e)
few_by es o _ h = tt

few_here : (ms : List Mark) (k : ℕ) (m : Mark) → marks.broken condition.Cells ms (take k ms) m ≡ false → Few (env_from [] (take k ms)) m.owner m.what
unfolding judged env
few_here ms k m h = few_by (env (take k ms)) m.owner m.what (ap (λ (b : Before). too_many b m.owner m.what) (told-before (take k ms)) ∙ h)

all_few : (ms : List Mark) → FitsMarks condition.Cells ms → AllFew [] ms
all_few ms h = all-few [] ms (λ k m e. few_here ms k m (h k m e))

-- ---- the model

same_cells : (ss : List Slot) → cells_of ss ≡ cells_in_all ss
same_cells [] = refl
same_cells (s ∷ ss) = ap (λ (n : ℕ). s.length * s.stride + n) (same_cells ss)

at_most-both : (a b n : ℕ) → a ≤ n → b ≤ n → max a b ≤ n
at_most-both a b n h g = omega (arith, h, g)

same_room : (x : Initial) → room_by x ≡ room x
same_room i.Zero = refl
same_room (i.Value e) = refl
same_room (i.Channel capacity types) = refl

slots_room : (ss : List Slot) → Rooms ss → room_of ss ≤ MOST_CELLS
slots_room [] h = omega arith
slots_room (s ∷ ss) h = at_most-both (room_by s.initial) (room_of ss) MOST_CELLS (subst (λ (n : ℕ). n ≤ MOST_CELLS) (sym (same_room s.initial)) h.0) (slots_room ss h.1)

fields_room : (ts : List Fields) → AllByRecursion (λ (f : Fields). Rooms f.fields) ts → room_of_fields ts ≤ MOST_CELLS
fields_room [] h = omega arith
fields_room (t ∷ ts) h = at_most-both (room_of t.fields) (room_of_fields ts) MOST_CELLS (slots_room t.fields h.0) (fields_room ts h.1)

abbrev Processes : List Proctype → Type 0
Processes = AllByRecursion (λ (q : Proctype). (cells_in_all q.variables ≤ MOST_CELLS) × Rooms q.variables)

processes_room : (qs : List Proctype) → Processes qs → room_of_processes qs ≤ MOST_CELLS
processes_room [] h = omega arith
processes_room (q ∷ qs) h = at_most-both (room_of q.variables) (room_of_processes qs) MOST_CELLS (slots_room q.variables h.0.1) (processes_room qs h.1)

few_cells : (ss : List Slot) → cells_in_all ss ≤ MOST_CELLS → cells_of ss ≤ MOST_CELLS
few_cells ss h = subst (λ (n : ℕ). n ≤ MOST_CELLS) (sym (same_cells ss)) h

processes_cells : (qs : List Proctype) → Processes qs → largest qs ≤ MOST_CELLS
processes_cells [] h = omega arith
processes_cells (q ∷ qs) h = at_most-both (cells_of q.variables) (largest qs) MOST_CELLS (few_cells q.variables h.0.0) (processes_cells qs h.1)

within_limits : (p : Program) → IsLimited p → IsWithin p
within_limits p h = record {
  globals = few_cells p.globals h.globals;
  processes = processes_cells p.proctypes h.processes;
  channels = at_most-both (room_of p.globals) _ MOST_CELLS (slots_room p.globals h.rooms)
      (at_most-both (room_of_fields p.typedefs) (room_of_processes p.proctypes) MOST_CELLS (fields_room p.typedefs h.fields) (processes_room p.proctypes h.processes));
}

pub is_within : (t : Tree) (p : Program) → FitsTo r.TooManyCells (of_tree t) p → IsWithin (numbered_model t)
unfolding FitsTo
is_within t p h = within_limits (numbered_model t) (model-limited t (all_few (of_tree t) h.0))

-- of a tree that fits all
pub fit_within : (t : Tree) → FitsAll all_judged (of_tree t) (numbered_model t) → IsWithin (numbered_model t)
fit_within t f = is_within t (numbered_model t) f.1.1.1.1.1.1.1.1.1.0
