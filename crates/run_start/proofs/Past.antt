-- The log of a store leads back also where owners came after its writes.
use Rattle.std.proofs.Common.{◌≡◌, ℕ, ◌-◌, ltb, length, Bool, true, false, if◌then◌else◌, List, [], ◌∷◌, ◌++◌, ℤ, refl, ap, ◌∙◌}
use Rattle.promela_process.specs.Store.{Frame}
use Rattle.pml_store.specs.Writing.{Contents, flat, frame_with, index_with, undone, before}

-- a cell of the first owners, or of those behind them
pub index_append : (fs zs : List Frame) (i : ℕ) (v : ℤ) → (rest : List Frame) × (index_with (fs ++ zs) i v ≡ index_with fs i v ++ rest)
index_append [] zs i v = (index_with zs i v, refl)
index_append (f ∷ fs) zs i v = tested (ltb i (length (flat f))) (index_append fs zs (i - length (flat f)) v)
  where
    tested : (b : Bool) → ((rest : List Frame) × (index_with (fs ++ zs) (i - length (flat f)) v ≡ index_with fs (i - length (flat f)) v ++ rest)) →
        (rest : List Frame) × ((if b then frame_with f i v ∷ (fs ++ zs) else f ∷ index_with (fs ++ zs) (i - length (flat f)) v)
        ≡ (if b then frame_with f i v ∷ fs else f ∷ index_with fs (i - length (flat f)) v) ++ rest)
    tested true more = (zs, refl)
    tested false more = (more.0, ap (λ (l : List Frame). f ∷ l) more.1)

pub undone_append : (fs zs : List Frame) (ws : List (ℕ × ℤ)) → (rest : List Frame) × (undone (fs ++ zs) ws ≡ undone fs ws ++ rest)
undone_append fs zs [] = (zs, refl)
undone_append fs zs (w ∷ ws) =
    let more = undone_append fs zs ws in
    let one = index_append (undone fs ws) more.0 w.0 w.1 in
    (one.0, ap (λ (l : List Frame). index_with l w.0 w.1) more.1 ∙ one.1)

-- what was there before the writes is still what they lead back to, with something behind it for the new owners
pub keeps_past : (now : Contents) (zs : List Frame) → (rest : List Frame) × (before (record now { frames = now.frames ++ zs }) ≡ before now ++ rest)
keeps_past now zs = undone_append now.frames zs now.written
