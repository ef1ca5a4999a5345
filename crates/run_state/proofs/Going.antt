-- A process goes on.
use Rattle.std.proofs.Common.{Bool, ◌≡◌, ℕ, ◌<◌, List, length, refl, sym, ap, ◌∙◌, Option, Some}
use Rattle.std.specs.Prelude.{slice_get, slice_set, slice_index_or, option_map, map}
use Rattle.std.proofs.lemmas.Option.{slice_get-map}
use Rattle.std.proofs.lemmas.List.{map-set}
use Rattle.std.proofs.Math.Seq.{map-set_same}
use Rattle.pml_program.specs.declared.program.Program.{Program}
use Rattle.pml_store.specs.Writing.{Contents}
use Rattle.promela_run.specs.declared.live_channel.LiveChannel.{LiveChannel}
use Rattle.run_state.specs.declared.seat.Seat.{Seat}
use Rattle.promela_run.specs.State.{Stand, State, body_of}
use Rattle.run_state.specs.Standing.{control_at, stand_of}
use Rattle.run_state.proofs.Finding.{there, got}
use Rattle.promela_run.specs.Steps.{go_to, body_by, moved_to}
use Rattle.run_state.specs.Held.{sorts_of, live_of}
use Rattle.promela_run.specs.World.{Running}

-- its proctype is the same
pub same_sorts : (xs : List Seat) (i n : ℕ) (x d : Seat) → x ≡ slice_index_or xs i d → sorts_of (slice_set xs i (record { sort = x.sort; node = n })) ≡ sorts_of xs
same_sorts xs i n x d e = map-set_same (λ (x : Seat). x.sort) xs i (record { sort = x.sort; node = n }) d (ap (λ (x : Seat). x.sort) e)

-- it has to do what the node stands for
pub gone_to : (s : State) (xs : List Seat) (i n : ℕ) (x d : Seat) → s.stands ≡ map (stand_of s.program) xs → i < length xs → x ≡ slice_index_or xs i d →
    map (stand_of s.program) (slice_set xs i (record { sort = x.sort; node = n })) ≡ (go_to s i (control_at (body_by s (slice_get s.stands i)) n)).stands
gone_to s xs i n x d e l h =
    let p : Program = s.program in
    let z = there xs i l in
    let same : x ≡ z.0 = h ∙ got xs i z.0 d z.1 in
    let y : slice_get s.stands i ≡ Some (stand_of p x) =
    ap (λ (ys : List Stand). slice_get ys i) e ∙ slice_get-map (stand_of p) xs i ∙ ap (option_map (stand_of p)) z.1 ∙ ap (λ (x : Seat). Some (stand_of p x)) (sym same) in
    map-set (stand_of p) xs i (record { sort = x.sort; node = n })
    ∙ ap (λ (ys : List Stand). slice_set ys i (record { sort = x.sort; control = control_at (body_of p x.sort) n })) (sym e)
    ∙ ap (λ (o : Option Stand). moved_to (control_at (body_by s o) n) o i s.stands) (sym y)

-- so has the process of a seat
pub seat_gone : (p : Program) (store : Contents) (cs : List LiveChannel) (xs : List Seat) (holder : Option ℕ) (lossy : Bool) (i n : ℕ) (x d : Seat) → i < length xs → x ≡ slice_index_or xs i d →
    live_of p store cs (slice_set xs i (record { sort = x.sort; node = n })) holder lossy
    ≡ (let l : Running = live_of p store cs xs holder lossy in record l { state = go_to l.state i (control_at (body_by l.state (slice_get l.state.stands i)) n) })
seat_gone p store cs xs holder lossy i n x d l h =
    let live : Running = live_of p store cs xs holder lossy in
    ap (λ (ys : List Stand). record live { state = record live.state { stands = ys } }) (gone_to live.state xs i n x d refl l h)
