-- The moves of a send, by what is found of its channel.
use Rattle.std.proofs.Common.{◌≡◌, ◌||◌, Bool, true, false, if◌then◌else◌, nat_lt, List, [], ◌∷◌, ℤ, length, Some, Result, Ok, Err, refl, sym, ap, ◌∙◌}
use Rattle.diagnostics.specs.declared.fault.Fault.{Fault}
use Rattle.pml_program.specs.declared.expr.Expr.{Expr}
use Rattle.pml_program.specs.declared.expr.Target.{Target}
use Rattle.promela_process.specs.Expressions.{Reading, ◌>>=◌}
use Rattle.promela_process.specs.Store.{ChannelState, cut}
use Rattle.promela_run.specs.declared.live_channel.LiveChannel.{LiveChannel}
use Rattle.promela_run.specs.declared.moves.Move.TheVariants.{Alone}
use Rattle.promela_run.specs.declared.moves.Pick.{Pick}
use Rattle.promela_run.specs.State.{State}
use Rattle.promela_run.specs.Statements.{values}
use Rattle.promela_run.specs.Moves.{Named, named, or_fault, can_send, is_rendezvous, message_on, pairs}
use Rattle.run_search.specs.Fields.{worths, evaluated}
use Rattle.run_search.specs.Round.{sent_moves}
use Rattle.run_search.proofs.Offering.{message_some}

module _ (s : State) (t : Bool) (p : Pick) where
  -- by whether it can be taken by itself
  by_channel : (c : Result Named Fault) (n : Named) (vs : Result (List ℤ) Fault) (b : Bool) → c ≡ Ok n → or_fault (can_send s.lossy false n.contents vs) ≡ b → sent_moves s t p c vs ≡ (if b then Alone p t ∷ [] else pairs s t p (message_on (Ok n) vs))
  by_channel c n vs b h k =
      ap (λ (x : Result Named Fault). sent_moves s t p x vs) h
      ∙ ap (λ (b : Bool). if b then Alone p t ∷ [] else pairs s t p (message_on (Ok n) vs)) k

  -- a rendezvous that is no move by itself has a value in each field
  valued : (c : ChannelState) (vs : Result (List ℤ) Fault) → or_fault (can_send s.lossy false c vs) ≡ false → is_rendezvous c ≡ true → evaluated vs ≡ Ok tt
  valued c (Ok vs) k i = refl
  valued c (Err f) k i =
      let b : true ≡ false = sym (ap (λ (b : Bool). or_fault (if b then (Err f >>= λ (vs : List ℤ). Ok false) else Ok (s.lossy || nat_lt (length c.messages) c.capacity))) i) ∙ k in
      cc

  -- it has the pairs of its message
  pub sent_message : (cs : List LiveChannel) (r : Reading) (x : Target) (es : List Expr) (n : Named) → named cs r x (length es) ≡ Ok n → or_fault (can_send s.lossy false n.contents (values es r)) ≡ false → is_rendezvous n.contents ≡ true
      → sent_moves s t p (named cs r x (length es)) (values es r) ≡ pairs s t p (Some (record { number = n.number; fields = cut n.contents.types (worths es r) }))
  sent_message cs r x es n h k i =
      by_channel (named cs r x (length es)) n (values es r) false h k
      ∙ ap (pairs s t p) (sym (ap (λ (c : Result Named Fault). message_on c (values es r)) h) ∙ message_some cs r x es n h i (valued n.contents (values es r) k i))
