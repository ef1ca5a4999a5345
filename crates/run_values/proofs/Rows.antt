-- The changes of small states.
use Rattle.std.proofs.Common.{◌≡◌, List, [], ◌∷◌, pos, negsuc, refl}
use Rattle.promela_process.specs.Store.{Frame}
use Rattle.run_values.specs.Changed.{change, changes, wanted_changes}
use Rattle.std.specs.Prelude.{true, false}

-- a global x, a global array of two, and a process with one variable
abbrev before : List Frame
before = ((pos 1 ∷ []) ∷ (pos 0 ∷ pos 7 ∷ []) ∷ []) ∷ ((pos 5 ∷ []) ∷ []) ∷ []

pub nothing : changes before before ≡ []
nothing = refl

pub one_global : changes before (((pos 2 ∷ []) ∷ (pos 0 ∷ pos 7 ∷ []) ∷ []) ∷ ((pos 5 ∷ []) ∷ []) ∷ []) ≡ change 0 0 0 (pos 2) ∷ []
one_global = refl

pub an_element : changes before (((pos 1 ∷ []) ∷ (pos 0 ∷ negsuc 0 ∷ []) ∷ []) ∷ ((pos 5 ∷ []) ∷ []) ∷ []) ≡ change 0 1 1 (negsuc 0) ∷ []
an_element = refl

-- globals by their declarations, arrays by index, and then processes
pub in_order : changes before (((pos 2 ∷ []) ∷ (pos 3 ∷ pos 4 ∷ []) ∷ []) ∷ ((pos 6 ∷ []) ∷ []) ∷ [])
    ≡ change 0 0 0 (pos 2) ∷ change 0 1 0 (pos 3) ∷ change 0 1 1 (pos 4) ∷ change 1 0 0 (pos 6) ∷ []
in_order = refl

-- a new process's first values are not shown
pub a_new_process : changes before (((pos 1 ∷ []) ∷ (pos 0 ∷ pos 7 ∷ []) ∷ []) ∷ ((pos 5 ∷ []) ∷ []) ∷ ((pos 9 ∷ []) ∷ []) ∷ []) ≡ []
a_new_process = refl

-- nor is what is gone
pub a_dead_process : changes before (((pos 1 ∷ []) ∷ (pos 0 ∷ pos 8 ∷ []) ∷ []) ∷ []) ≡ change 0 1 1 (pos 8) ∷ []
a_dead_process = refl

pub globals_alone : wanted_changes true false (change 0 0 0 (pos 2) ∷ change 1 0 0 (pos 6) ∷ []) ≡ change 0 0 0 (pos 2) ∷ []
globals_alone = refl

pub locals_alone : wanted_changes false true (change 0 0 0 (pos 2) ∷ change 1 0 0 (pos 6) ∷ []) ≡ change 1 0 0 (pos 6) ∷ []
locals_alone = refl
