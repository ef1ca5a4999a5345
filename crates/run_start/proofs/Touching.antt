-- What begins touches frames and channels alone, and asks of the processes only how many there are.
use Rattle.std.proofs.Common.{◌≡◌, ℕ, zero, suc, ◌+◌, ◌-◌, Bool, true, false, nat_lt, if◌then◌else◌, List, [], ◌∷◌, ◌++◌, length, map, ℤ, pos, Result, Ok, Err, IfOk, refl, sym, ap, ◌∙◌, subst}
use Rattle.std.proofs.lemmas.List.{length_push}
use Rattle.diagnostics.specs.declared.fault.Fault.{Fault}
use Rattle.diagnostics.specs.declared.fault.Fault.TheVariants.{TooManyChannels}
use Rattle.diagnostics.specs.declared.stop.Stop.{Stop}
use Rattle.diagnostics.specs.declared.stop.Stop.TheVariants as stop
use Rattle.pml_program.specs.declared.form.Form.{Form}
use Rattle.pml_program.specs.declared.program.Initial.{Initial}
use Rattle.pml_program.specs.declared.program.Initial.TheVariants as i
use Rattle.pml_program.specs.declared.program.Slot.{Slot}
use Rattle.pml_program.specs.declared.program.Fields.{Fields}
use Rattle.promela_process.specs.Expressions.{◌>>=◌}
use Rattle.promela_process.specs.Numbers.{clipped}
use Rattle.promela_process.specs.Store.{Frame, with_number, zeros, ChannelState}
use Rattle.promela_run.specs.declared.live_channel.LiveChannel.{LiveChannel}
use Rattle.promela_run.specs.State.{size, leaf, Stand, State, reading_of, unread, read_in, initial_value, with_value, with_values, with_channel, empty_channel, cell_begun, fields_begun, variable_begun, variables_begun, with_frame, frame_begun, youngest_joined}
use Rattle.promela_run.specs.Statements.{channels_made, with_arguments, created}
use Rattle.run_start.specs.Shown.{Begins}

-- a state with other frames and channels
abbrev pub over : State → List Frame → List LiveChannel → State
over s fs cs = record s { frames = fs; channels = cs }

-- nothing of a state but these is another
abbrev pub Touched : State → State → Type 0
Touched s n = n ≡ over s n.frames n.channels

-- the one comes to the same over s as the other over t
abbrev pub Alike : State → State → Result State Fault → Result State Fault → Type 0
Alike s t (Ok m) (Ok n) = (m ≡ over s n.frames n.channels) × Touched t n
Alike s t (Ok m) (Err g) = ⊥
Alike s t (Err f) (Ok n) = ⊥
Alike s t (Err f) (Err g) = f ≡ g

-- what comes to the same leaves the same behind it
pub carried : (s t : State) (r q : Result State Fault) (answer : Result (Unit {0}) Stop) (new : State) → Alike s t r q → Begins q answer new → Begins r answer (over s new.frames new.channels)
carried s t (Ok m) (Ok n) (Ok u) new a b = ap (λ (x : State). over s x.frames x.channels) b ∙ sym a.0
carried s t (Ok m) (Ok n) (Err stop.Memory) new a b = tt
carried s t (Ok m) (Ok n) (Err (stop.Fault f)) new a b = b
carried s t (Ok m) (Err g) answer new a b = absurd a
carried s t (Err f) (Ok n) answer new a b = absurd a
carried s t (Err f) (Err g) (Ok u) new a b = b
carried s t (Err f) (Err g) (Err stop.Memory) new a b = tt
carried s t (Err f) (Err g) (Err (stop.Fault h)) new a b = b ∙ sym a

touched_of : (s : State) (r : Result State Fault) → Alike s s r r → IfOk r (Touched s)
touched_of s (Ok n) h = h.1
touched_of s (Err f) h = tt

module _ (s t : State) where
  -- a step and another
  chained : (r q : Result State Fault) (h : State → Result State Fault) → Alike s t r q → ((fs : List Frame) (cs : List LiveChannel) → Alike s t (h (over s fs cs)) (h (over t fs cs))) → Alike s t (r >>= h) (q >>= h)
  chained (Ok m) (Ok n) h e f =
      subst (λ (x : State). Alike s t (h x) (h n)) (sym e.0) (subst (λ (y : State). Alike s t (h (over s n.frames n.channels)) (h y)) (sym e.1) (f n.frames n.channels))
  chained (Ok m) (Err g) h e f = absurd e
  chained (Err g) (Ok n) h e f = absurd e
  chained (Err f) (Err g) h e k = e

  -- a number, and what is done with it
  numbered : (r : Result ℤ Fault) (h k : ℤ → Result State Fault) → ((n : ℤ) → Alike s t (h n) (k n)) → Alike s t (r >>= h) (r >>= k)
  numbered (Ok n) h k f = f n
  numbered (Err g) h k f = refl

  module _ (many : length s.stands ≡ length t.stands) where
    value_is : (v c : ℕ) (x : ℤ) (fs : List Frame) (cs : List LiveChannel) → with_value v c x (over s fs cs) ≡ over s (with_value v c x (over t fs cs)).frames cs
    value_is v c x fs cs = ap (λ (n : ℕ). over s (with_number fs (record { frame = n; variable = v; cell = c }) x) cs) many

    channel_alike : (v c : ℕ) (m : ChannelState) (fs : List Frame) (cs : List LiveChannel) → Alike s t (with_channel v c m (over s fs cs)) (with_channel v c m (over t fs cs))
    channel_alike v c m fs cs = by (nat_lt (length cs) 255)
      where
        with : State → ℕ → State
        with u n = over u (with_number fs (record { frame = n; variable = v; cell = c }) (pos (length cs + 1))) (cs ++ record { frame = n; channel = m } ∷ [])

        by : (b : Bool) → Alike s t (if b then Ok (with s (length s.stands)) else Err TooManyChannels) (if b then Ok (with t (length t.stands)) else Err TooManyChannels)
        by true = (ap (with s) many, refl)
        by false = refl

    cell_alike : (x : Initial) (f : Form) (v c : ℕ) (fs : List Frame) (cs : List LiveChannel) → Alike s t (cell_begun x f v c (over s fs cs)) (cell_begun x f v c (over t fs cs))
    cell_alike i.Zero f v c fs cs = (refl, refl)
    cell_alike (i.Value w) f v c fs cs =
        numbered (initial_value w f unread) (λ n. Ok (with_value v c n (over s fs cs))) (λ n. Ok (with_value v c n (over t fs cs))) (λ n. (value_is v c n fs cs, refl))
    cell_alike (i.Channel capacity types) f v c fs cs = channel_alike v c (empty_channel capacity types) fs cs

    fields_alike : (ts : List Fields) (y : Slot) (v c n : ℕ) (fs : List Frame) (cs : List LiveChannel) → Alike s t (fields_begun ts y v c n (over s fs cs)) (fields_begun ts y v c n (over t fs cs))
    fields_alike ts y v c zero fs cs = (refl, refl)
    fields_alike ts y v c (suc n) fs cs =
        chained (cell_begun (leaf ts y c).initial (leaf ts y c).form v c (over s fs cs)) (cell_begun (leaf ts y c).initial (leaf ts y c).form v c (over t fs cs)) (fields_begun ts y v (c + 1) n)
        (cell_alike (leaf ts y c).initial (leaf ts y c).form v c fs cs) (fields_alike ts y v (c + 1) n)

    values_alike : (v : ℕ) (x : ℤ) (c n : ℕ) (fs : List Frame) (cs : List LiveChannel) → Alike s t (Ok (with_values v x c n (over s fs cs))) (Ok (with_values v x c n (over t fs cs)))
    values_alike v x c zero fs cs = (refl, refl)
    values_alike v x c (suc n) fs cs =
        subst (λ (m : State). Alike s t (Ok (with_values v x (c + 1) n m)) (Ok (with_values v x (c + 1) n (with_value v c x (over t fs cs))))) (sym (value_is v c x fs cs))
        (values_alike v x (c + 1) n (with_value v c x (over t fs cs)).frames cs)

    variable_alike : (ts : List Fields) (x : Initial) (y : Slot) (v : ℕ) (fs : List Frame) (cs : List LiveChannel) → Alike s t (variable_begun ts x y v (over s fs cs)) (variable_begun ts x y v (over t fs cs))
    variable_alike ts i.Zero y v fs cs = fields_alike ts y v 0 (size y) fs cs
    variable_alike ts (i.Value w) y v fs cs =
        let same : initial_value w y.form (read_in (over s fs cs)) ≡ initial_value w y.form (read_in (over t fs cs)) = ap (λ (n : ℕ). initial_value w y.form (reading_of fs cs (n - 1) n false)) many in
        subst (λ (r : Result ℤ Fault). Alike s t (r >>= λ n. Ok (with_values v n 0 (size y) (over s fs cs))) (variable_begun ts (i.Value w) y v (over t fs cs))) (sym same)
        (numbered (initial_value w y.form (read_in (over t fs cs))) (λ n. Ok (with_values v n 0 (size y) (over s fs cs))) (λ n. Ok (with_values v n 0 (size y) (over t fs cs))) (λ n. values_alike v n 0 (size y) fs cs))
    variable_alike ts (i.Channel capacity types) y v fs cs = fields_alike ts y v 0 (size y) fs cs

    variables_alike : (ts : List Fields) (ss : List Slot) (v : ℕ) (fs : List Frame) (cs : List LiveChannel) → Alike s t (variables_begun ts ss v (over s fs cs)) (variables_begun ts ss v (over t fs cs))
    variables_alike ts [] v fs cs = (refl, refl)
    variables_alike ts (y ∷ ss) v fs cs =
        chained (variable_begun ts y.initial y v (over s fs cs)) (variable_begun ts y.initial y v (over t fs cs)) (variables_begun ts ss (v + 1)) (variable_alike ts y.initial y v fs cs) (variables_alike ts ss (v + 1))

    pub frame_alike : (ts : List Fields) (ss : List Slot) (fs : List Frame) (cs : List LiveChannel) → Alike s t (frame_begun ts ss (over s fs cs)) (frame_begun ts ss (over t fs cs))
    frame_alike ts ss fs cs = variables_alike ts ss 0 (fs ++ zeros (map size ss) ∷ []) cs

    arguments_alike : (v : ℕ) (ss : List Slot) (vs : List ℤ) (fs : List Frame) (cs : List LiveChannel) → Alike s t (Ok (with_arguments v ss vs (over s fs cs))) (Ok (with_arguments v ss vs (over t fs cs)))
    arguments_alike v ss [] fs cs = (refl, refl)
    arguments_alike v [] (x ∷ vs) fs cs = (refl, refl)
    arguments_alike v (y ∷ ss) (x ∷ vs) fs cs =
        subst (λ (m : State). Alike s t (Ok (with_arguments (v + 1) ss vs m)) (Ok (with_arguments (v + 1) ss vs (with_value v 0 (clipped y.form x) (over t fs cs))))) (sym (value_is v 0 (clipped y.form x) fs cs))
        (arguments_alike (v + 1) ss vs (with_value v 0 (clipped y.form x) (over t fs cs)).frames cs)

    process_alike : (ts : List Fields) (ss : List Slot) (vs : List ℤ) (fs : List Frame) (cs : List LiveChannel) →
        Alike s t (variables_begun ts ss 0 (with_arguments 0 ss vs (with_frame ss (over s fs cs)))) (variables_begun ts ss 0 (with_arguments 0 ss vs (with_frame ss (over t fs cs))))
    process_alike ts ss vs fs cs =
        chained (Ok (with_arguments 0 ss vs (with_frame ss (over s fs cs)))) (Ok (with_arguments 0 ss vs (with_frame ss (over t fs cs)))) (variables_begun ts ss 0)
        (arguments_alike 0 ss vs (fs ++ zeros (map size ss) ∷ []) cs) (variables_alike ts ss 0)

-- a process comes to the same in two states with as many processes, and with the same frames and channels
pub created_alike : (ts : List Fields) (y z : Stand) (ss : List Slot) (vs : List ℤ) (s t : State) (fs : List Frame) (cs : List LiveChannel) → length s.stands ≡ length t.stands →
    Alike (youngest_joined y s) (youngest_joined z t) (created ts y ss vs (over s fs cs)) (created ts z ss vs (over t fs cs))
created_alike ts y z ss vs s t fs cs e = by (nat_lt 255 (length cs + channels_made ts ss))
  where
    many : length (youngest_joined y s).stands ≡ length (youngest_joined z t).stands
    many = length_push s.stands y ∙ ap (λ (n : ℕ). n + 1) e ∙ sym (length_push t.stands z)

    made : Stand → State → Result State Fault
    made x u = variables_begun ts ss 0 (with_arguments 0 ss vs (with_frame ss (over (youngest_joined x u) fs cs)))

    by : (b : Bool) → Alike (youngest_joined y s) (youngest_joined z t) (if b then Err TooManyChannels else made y s) (if b then Err TooManyChannels else made z t)
    by true = refl
    by false = process_alike (youngest_joined y s) (youngest_joined z t) many ts ss vs fs cs

-- ---- nothing else is touched

pub frame_touches : (ts : List Fields) (ss : List Slot) (s : State) → IfOk (frame_begun ts ss s) (Touched s)
frame_touches ts ss s = touched_of s (frame_begun ts ss s) (frame_alike s s refl ts ss s.frames s.channels)

pub created_touches : (ts : List Fields) (y : Stand) (ss : List Slot) (vs : List ℤ) (s : State) → IfOk (created ts y ss vs s) (Touched (youngest_joined y s))
created_touches ts y ss vs s = touched_of (youngest_joined y s) (created ts y ss vs s) (created_alike ts y y ss vs s s s.frames s.channels refl)
