-- How many channels variables make.
use Rattle.std.proofs.Common.{◌≡◌, ℕ, zero, suc, ◌+◌, ◌-◌, ◌<◌, ◌≤◌, min, true, if◌then◌else◌, nat_lt, List, ◌∷◌, length, get_or, drop, drop_of_length-le, ℤ, Result, Ok, Err, refl, sym, ap, ◌∙◌, arith}
use Rattle.std.proofs.lemmas.List.{drop_more}
use Rattle.std.proofs.lemmas.Bool.{cases_lt, lt-ltb, le-ltb}
use Rattle.std.proofs.Math.Logic.{⊎_elim}
use Rattle.diagnostics.specs.declared.fault.Fault.{Fault}
use Rattle.pml_program.specs.declared.form.Form.{Form}
use Rattle.pml_program.specs.declared.program.Initial.{Initial}
use Rattle.pml_program.specs.declared.program.Initial.TheVariants as i
use Rattle.pml_program.specs.declared.program.Slot.{Slot}
use Rattle.pml_program.specs.declared.program.Fields.{Fields}
use Rattle.promela_run.specs.State.{leaf, unread, initial_value}
use Rattle.promela_run.specs.declared.beginning.Beginning.{Beginning}
use Rattle.run_start.specs.Known.{is_zero, have_no_initials, known, known_of, value_known}
use Rattle.promela_run.specs.Statements.{is_channel, channels_among, channels_by, channels_made}
use Rattle.run_start.specs.Channels.{channels_at}
use Rattle.run_start.proofs.Zeroed.{leaf_none}

-- where nothing has an initialiser, no channel is made
pub none_made : (ts : List Fields) (s : Slot) (cell n : ℕ) → have_no_initials ts ≡ true → is_zero s.initial ≡ true → channels_among ts s cell n ≡ 0
none_made ts s cell zero h e = refl
none_made ts s cell (suc n) h e = rw (leaf_none ts s cell h e) (let r = none_made ts s (cell + 1) n h e in omega (arith, r))

no_channel : (r : Result ℤ Fault) → channels_at (value_known r) ≡ 0
no_channel (Ok n) = refl
no_channel (Err f) = refl

known_by : (x : Initial) (f : Form) → channels_at (known_of x f) ≡ (if is_channel x then 1 else 0)
known_by i.Zero f = refl
known_by (i.Value v) f = no_channel (initial_value v f unread)
known_by (i.Channel capacity types) f = refl

-- a cell more, by what is known of it
pub cell_counted : (ts : List Fields) (s : Slot) (cell n count next total : ℕ) (b : Beginning) → cell < n → b ≡ known (leaf ts s cell) → next ≡ min 256 (count + channels_at b) →
    min 256 (count + channels_among ts s cell (n - cell)) ≡ total → min 256 (next + channels_among ts s (cell + 1) (n - (cell + 1))) ≡ total
cell_counted ts s cell n count next total b h e f g =
    let m : n - cell ≡ suc (n - (cell + 1)) = omega (arith, h) in
    let k = ap channels_at e ∙ known_by (leaf ts s cell).initial (leaf ts s cell).form in
    let a : channels_among ts s cell (n - cell) ≡ (if is_channel (leaf ts s cell).initial then 1 else 0) + channels_among ts s (cell + 1) (n - (cell + 1)) = ap (channels_among ts s cell) m in
    omega (arith, f, g, k, a)

-- a variable more
pub variable_counted : (ts : List Fields) (ss : List Slot) (v count next total : ℕ) (s : Slot) → v < length ss → s ≡ get_or ss v s → next ≡ min 256 (count + channels_by ts s.initial s) →
    min 256 (count + channels_made ts (drop v ss)) ≡ total → min 256 (next + channels_made ts (drop (v + 1) ss)) ≡ total
variable_counted ts ss v count next total s h e f g =
    let d : drop v ss ≡ s ∷ drop (v + 1) ss = drop_more ss v s h ∙ ap (λ (x : Slot). x ∷ drop (v + 1) ss) (sym e) in
    let a : channels_made ts (drop v ss) ≡ channels_by ts s.initial s + channels_made ts (drop (v + 1) ss) = ap (channels_made ts) d in
    omega (arith, f, g, a)

-- one too many of those that are counted is one too many of all
pub too_many : (count total : ℕ) → min 256 count ≡ min 256 total → nat_lt 255 count ≡ nat_lt 255 total
too_many count total e = ⊎_elim
    (λ (h : 255 < count). lt-ltb 255 count h ∙ sym (lt-ltb 255 total (omega (arith, e, h))))
    (λ (h : count ≤ 255). le-ltb 255 count h ∙ sym (le-ltb 255 total (omega (arith, e, h))))
    (cases_lt 255 count)

pub none_left : (ts : List Fields) (ss : List Slot) (v : ℕ) → length ss ≤ v → channels_made ts (drop v ss) ≡ 0
none_left ts ss v h = ap (channels_made ts) (drop_of_length-le ss h)
