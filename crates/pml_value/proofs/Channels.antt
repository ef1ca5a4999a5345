-- The channel at a place.
use Rattle.std.proofs.Common.{◌≡◌, ℕ, zero, suc, ◌-◌, ◌<◌, List, [], ◌∷◌, length, get_or, set, ℤ, pos, negsuc, Option, Some, Result, Ok, Err, OnOk, refl, ap, arith}
use Rattle.std.specs.Prelude.{option_map, slice_get}
use lib.IntN.{nat_abs}
use Rattle.pml_tree.specs.declared.tree.Removal.TheVariants.{Keep}
use Rattle.promela_process.specs.Store.{ChannelState}
use Rattle.promela_run.specs.declared.live_channel.LiveChannel.{LiveChannel}
use Rattle.promela_run.specs.State.{channel_at}
use Rattle.promela_run.specs.Statements.{contents_at, changed, without}

some-is : {A : Type 0} {x y : A} → ◌≡◌ {A = Option A} (Some x) (Some y) → x ≡ y
some-is h = cc

contents-get : (cs : List LiveChannel) (n : ℕ) (c : ChannelState) → option_map (λ (o : LiveChannel). o.channel) (slice_get cs n) ≡ Some c → contents_at cs n ≡ c
contents-get [] n c h = cc
contents-get (o ∷ os) zero c h = some-is h
contents-get (o ∷ os) (suc n) c h = contents-get os n c h

-- by its number
pub contents-of : (cs : List LiveChannel) (z : ℤ) (c : ChannelState) → channel_at cs z ≡ Some c → contents_at cs (nat_abs z - 1) ≡ c
contents-of cs (pos zero) c h = cc
contents-of cs (pos (suc n)) c h = let e : suc n - 1 ≡ n = omega arith in rw e (contents-get cs n c h)
contents-of cs (negsuc n) c h = cc

pub changed-set : (cs : List LiveChannel) (n : ℕ) (o : LiveChannel) (c : ChannelState) (f : ChannelState → ChannelState) → n < length cs → c ≡ f (get_or cs n o).channel
    → set cs n (record { frame = (get_or cs n o).frame; channel = c }) ≡ changed n f cs
changed-set [] n o c f h e = absurd (omega arith)
changed-set (x ∷ cs) zero o c f h e = ap (λ (d : ChannelState). record { frame = x.frame; channel = d } ∷ cs) e
changed-set (x ∷ cs) (suc n) o c f h e = ap (λ (l : List LiveChannel). x ∷ l) (changed-set cs n o c f (omega (arith, h)) e)

pub changed-ok : {E : Type 0} (r : Result (Unit {0}) E) (cs : List LiveChannel) (n : ℕ) (o : LiveChannel) (c : ChannelState) (f : ChannelState → ChannelState) → n < length cs → OnOk r (c ≡ f (get_or cs n o).channel)
    → OnOk r (set cs n (record { frame = (get_or cs n o).frame; channel = c }) ≡ changed n f cs)
changed-ok (Ok u) cs n o c f h e = changed-set cs n o c f h e
changed-ok (Err x) cs n o c f h e = tt

-- a channel that a message stays in is the same
pub kept : (cs : List LiveChannel) (n m : ℕ) → cs ≡ changed n (without Keep m) cs
kept [] n m = refl
kept (o ∷ os) zero m = refl
kept (o ∷ os) (suc n) m = ap (λ (l : List LiveChannel). o ∷ l) (kept os n m)
