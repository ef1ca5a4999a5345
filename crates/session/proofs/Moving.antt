-- How moments of the devices follow one another.
use Rattle.std.proofs.Common.{List, [], ◌++◌, ℕ, append_assoc, append-nil, subst, sym}
use Rattle.std.specs.Io.KnownBytes.{Appends}
use Rattle.std.proofs.KnownBytes.{Appends-nil, Appends-trans}
use Rattle.devices.specs.Holdings.{Holdings, Moved}

-- nothing was done
pub Moved-nil : {a : Holdings} → Moved a a [] [] []
Moved-nil {a} = record { read = record { gave = λ left now. now }; written = Appends-nil a.out; recorded = Appends-nil a.rec }

pub Moved-trans : {a b c : Holdings} {xs ys zs xs' ys' zs' : List ℕ} → Moved a b xs ys zs → Moved b c xs' ys' zs' → Moved a c (xs ++ xs') (ys ++ ys') (zs ++ zs')
Moved-trans {a} {b} {c} {xs} {ys} {zs} {xs'} {ys'} {zs'} first second = record {
  read = record { gave = λ left now. rw append_assoc (first.read.gave (xs' ++ left) (second.read.gave left now)) };
  written = Appends-trans a.out b.out c.out ys ys' first.written second.written;
  recorded = Appends-trans a.rec b.rec c.rec zs zs' first.recorded second.recorded;
}

-- and nothing more
pub Moved-still : {a b c : Holdings} {xs ys zs : List ℕ} → Moved a b xs ys zs → Moved b c [] [] [] → Moved a c xs ys zs
Moved-still {a} {b} {c} {xs} {ys} {zs} first second = record {
  read = record { gave = λ left now. first.read.gave left (second.read.gave left now) };
  written = subst (Appends a.out c.out) (append-nil ys) (Appends-trans a.out b.out c.out ys [] first.written second.written);
  recorded = subst (Appends a.rec c.rec) (append-nil zs) (Appends-trans a.rec b.rec c.rec zs [] first.recorded second.recorded);
}

-- one piece is the list of the pieces
pub Moved-piece : {a b : Holdings} (piece : List ℕ) → Moved a b [] piece [] → Moved a b [] (piece ++ []) []
Moved-piece {a} {b} piece m = record { read = m.read; written = subst (Appends a.out b.out) (sym (append-nil piece)) m.written; recorded = m.recorded }

pub Moved-line : {a b : Holdings} (line : List ℕ) → Moved a b [] [] line → Moved a b [] [] (line ++ [])
Moved-line {a} {b} line m = record { read = m.read; written = m.written; recorded = subst (Appends a.rec b.rec) (sym (append-nil line)) m.recorded }
