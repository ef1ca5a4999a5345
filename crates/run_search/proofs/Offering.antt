-- What a send offers, its fields evaluated one by one.
use Rattle.std.proofs.Common.{◌≡◌, ℕ, zero, suc, ◌<◌, Bool, true, false, nat_eq, if◌then◌else◌, List, [], ◌∷◌, get_or, ℤ, pos, length, Option, Some, None, Result, Ok, Err, refl, ap, sym, ◌∙◌, arith}
use Rattle.std.proofs.lemmas.Bool.{eqb-true}
use Rattle.diagnostics.specs.declared.fault.Fault.{Fault}
use Rattle.diagnostics.specs.declared.fault.Fault.TheVariants.{WrongNumberOfFields}
use Rattle.pml_program.specs.declared.form.Form.{Form}
use Rattle.pml_program.specs.declared.expr.Expr.{Expr}
use Rattle.pml_program.specs.declared.expr.Target.{Target}
use Rattle.promela_process.specs.declared.place.Place.{Place}
use Rattle.promela_process.specs.Numbers.{clipped}
use Rattle.promela_process.specs.Expressions.{Reading, val, place, ◌>>=◌}
use Rattle.promela_process.specs.Store.{ChannelState, cut}
use Rattle.pml_channel.proofs.Keeping.{length-cut}
use Rattle.promela_run.specs.declared.live_channel.LiveChannel.{LiveChannel}
use Rattle.promela_run.specs.State.{channel_at}
use Rattle.promela_run.specs.Moves.{Named, named, with_fields, is_rendezvous, message_on}
use Rattle.promela_run.specs.Statements.{values}
use Rattle.run_search.specs.Fields.{worth, worths, evaluated}

-- where all have a value, they are worth it
pub values_are : (es : List Expr) (r : Reading) → evaluated (values es r) ≡ Ok tt → values es r ≡ Ok (worths es r)
values_are [] r h = refl
values_are (e ∷ es) r h = go (val e r) refl (values es r) refl (values_are es r)
  where
    go : (x : Result ℤ Fault) → val e r ≡ x → (y : Result (List ℤ) Fault) → values es r ≡ y → (evaluated (values es r) ≡ Ok tt → values es r ≡ Ok (worths es r)) → values (e ∷ es) r ≡ Ok (worths (e ∷ es) r)
    go (Err f) k y n rest =
        let b : Err f ≡ Ok tt = ap (λ (x : Result ℤ Fault). evaluated (x >>= λ v. values es r >>= λ vs. Ok (v ∷ vs))) (sym k) ∙ h in cc
    go (Ok v) k (Err f) n rest =
        let b : Err f ≡ Ok tt = ap (λ (y : Result (List ℤ) Fault). evaluated (y >>= λ vs. Ok (v ∷ vs))) (sym n) ∙ (ap (λ (x : Result ℤ Fault). evaluated (x >>= λ v. values es r >>= λ vs. Ok (v ∷ vs))) (sym k) ∙ h) in cc
    go (Ok v) k (Ok vs) n rest =
        ap (λ (x : Result ℤ Fault). x >>= λ v. values es r >>= λ vs. Ok (v ∷ vs)) k
        ∙ (ap (λ (y : Result (List ℤ) Fault). y >>= λ vs. Ok (v ∷ vs)) (rest (ap evaluated n)) ∙ ap (λ (x : Result ℤ Fault). Ok (worth x ∷ worths es r)) (sym k))

-- a channel that was named has as many fields as were asked for
with_fields-length : (count : ℕ) (n : ℤ) (o : Option ChannelState) (c : Named) → with_fields count n o ≡ Ok c → count ≡ length c.contents.types
with_fields-length count n None c h = cc
with_fields-length count n (Some x) c h = tested (nat_eq count (length x.types)) (eqb-true count (length x.types)) h
  where
    tested : (b : Bool) → (b ≡ true → count ≡ length x.types) → (if b then Ok (record { number = n; contents = x }) else Err WrongNumberOfFields) ≡ Ok c → count ≡ length c.contents.types
    tested true e k = let s : record { number = n; contents = x } ≡ c = cc in e refl ∙ ap (λ (m : Named). length m.contents.types) s
    tested false e k = cc

pub named-length : (cs : List LiveChannel) (r : Reading) (t : Target) (count : ℕ) (c : Named) → named cs r t count ≡ Ok c → count ≡ length c.contents.types
named-length cs r t count c h = go (place t r) h
  where
    go : (x : Result Place Fault) → (x >>= λ at. with_fields count (r.holds at) (channel_at cs (r.holds at))) ≡ Ok c → count ≡ length c.contents.types
    go (Ok at) k = with_fields-length count (r.holds at) (channel_at cs (r.holds at)) c k
    go (Err f) k = cc

-- the message of a rendezvous, all of whose fields have a value
pub message_some : (cs : List LiveChannel) (r : Reading) (t : Target) (es : List Expr) (c : Named) → named cs r t (length es) ≡ Ok c → is_rendezvous c.contents ≡ true → evaluated (values es r) ≡ Ok tt → message_on (named cs r t (length es)) (values es r) ≡ Some (record { number = c.number; fields = cut c.contents.types (worths es r) })
message_some cs r t es c h k n =
    ap (λ (x : Result Named Fault). message_on x (values es r)) h
    ∙ (ap (message_on (Ok c)) (values_are es r n) ∙ ap (λ (b : Bool). if b then Some (record { number = c.number; fields = cut c.contents.types (worths es r) }) else None) k)

-- a field by itself
pub field_is : (ts : List Form) (es : List Expr) (r : Reading) (i : ℕ) (d : Form) (e : Expr) → i < length ts → length es ≡ length ts → get_or (cut ts (worths es r)) i (pos 0) ≡ clipped (get_or ts i d) (worth (val (get_or es i e) r))
field_is [] es r i d e l h = absurd (omega (arith, l))
field_is (t ∷ ts) [] r i d e l h = absurd (omega (arith, h))
field_is (t ∷ ts) (x ∷ es) r zero d e l h = refl
field_is (t ∷ ts) (x ∷ es) r (suc i) d e l h =
    let k : i < length ts = omega (arith, l) in
    let n : length es ≡ length ts = omega (arith, h) in field_is ts es r i d e k n

pub worths-length : (es : List Expr) (r : Reading) → length (worths es r) ≡ length es
worths-length [] r = refl
worths-length (e ∷ es) r = ap suc (worths-length es r)

pub fields-length : (ts : List Form) (es : List Expr) (r : Reading) → length es ≡ length ts → length (cut ts (worths es r)) ≡ length ts
fields-length ts es r h = length-cut ts (worths es r) (worths-length es r ∙ h)
