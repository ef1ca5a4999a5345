-- What was shown last, and what of a state differs from it.
use Rattle.std.specs.Prelude.{◌≡◌, ⊤, ℕ, ◌+◌, Bool, true, false, ◌&&◌, ◌||◌, not, ltb, nat_eq, if◌then◌else◌, List, [], ◌∷◌, ◌++◌, length, map, Option, Some, None, slice_get, codes}
use Rattle.std.specs.List.{flat_map}
use Rattle.std.specs.Str.{bytes_eq}
use Rattle.json.specs.Token.{Token, end_object}
use Rattle.json.specs.Print.{print, ends_value, ArePrintable}
use Rattle.run_values.specs.declared.changed.Change.{Change}
use Rattle.promela_run.specs.declared.moves.Move.{Move}
use Rattle.promela_run.specs.State.{State}
use Rattle.view_waits.specs.Waits.{waits}
use Rattle.view_json.specs.declared.list.Listing.{Listing}
use Rattle.view_json.specs.Objects.{member, object, array, cell, cells, channel, standing}

-- The objects of the processes, without their variables, and of the channels, as they were shown last.
pub record Shown : Type 0 where
  pub processes : List (List ℕ)
  pub channels : List (List ℕ)

-- What else is told of a state: a name or none for each channel, and for each process a text for each thing that it waits for.
pub record Told : Type 0 where
  pub names : List (Option (List ℕ))
  pub words : List (List (List ℕ))

abbrev pub is_text : List ℕ → Option (List ℕ) → Bool
is_text bs None = false
is_text bs (Some known) = bytes_eq known bs

-- whether an object was shown at this place
abbrev pub was_shown : List (List ℕ) → ℕ → List Token → Bool
was_shown before at ts = is_text (print ts) (slice_get before at)

-- ---- channels

-- the channels from this number on, by their names
abbrev pub channels_from : State → ℕ → List (Option (List ℕ)) → List (List Token)
channels_from s n [] = []
channels_from s n (x ∷ xs) = channel s n x ∷ channels_from s (n + 1) xs

-- an object that was not shown at this place
abbrev pub if_new : List (List ℕ) → ℕ → List Token → List Token
if_new before at ts = if was_shown before at ts then [] else ts

-- The objects that were not shown, each at its place.
abbrev pub new_ones : List (List ℕ) → ℕ → List (List Token) → List Token
new_ones before at [] = []
new_ones before at (x ∷ xs) = if_new before at x ++ new_ones before (at + 1) xs

-- ---- processes

-- the processes from this number on, by the texts for what they wait for
abbrev pub processes_from : State → List Move → ℕ → List (List (List ℕ)) → List (List Token)
processes_from s ms p [] = []
processes_from s ms p (x ∷ xs) = standing s ms p x ∷ processes_from s ms (p + 1) xs

-- whether a step changed variables of a frame
abbrev pub has_changes : ℕ → List Change → Bool
has_changes frame [] = false
has_changes frame (c ∷ cs) = nat_eq c.place.frame frame || has_changes frame cs

abbrev pub changed_cell : State → ℕ → Change → List Token
changed_cell s frame c = if nat_eq c.place.frame frame then cell s c.place else []

-- the variables of a frame that a step changed
abbrev pub changed_cells : State → ℕ → List Change → List Token
changed_cells s frame cs = object (flat_map (changed_cell s frame) cs)

-- the variables that are told of a process: all of one that is new, else those that the step changed
abbrev pub locals : State → ℕ → List Change → ℕ → List Token
locals s older cs p = if ltb p older then changed_cells s (p + 1) cs else cells s (p + 1)

-- a process with variables
abbrev pub with_locals : State → ℕ → List Change → ℕ → List Token → List Token
with_locals s older cs p ts = ts ++ (member (codes "locals") (locals s older cs p) ++ end_object ∷ [])

-- whether a process was there, none of its variables changed, and it was shown so
abbrev pub is_as_shown : List (List ℕ) → ℕ → List Change → ℕ → List Token → Bool
is_as_shown before older cs p ts = ltb p older && not (has_changes (p + 1) cs) && was_shown before p ts

abbrev pub if_changed : State → List (List ℕ) → ℕ → List Change → ℕ → List Token → List Token
if_changed s before older cs p ts = if is_as_shown before older cs p ts then [] else with_locals s older cs p ts

-- The processes that are not as they were shown.
abbrev pub changed_ones : State → List (List ℕ) → ℕ → List Change → ℕ → List (List Token) → List Token
changed_ones s before older cs p [] = []
changed_ones s before older cs p (x ∷ xs) = if_changed s before older cs p x ++ changed_ones s before older cs (p + 1) xs

-- ---- both

-- there are so many texts for what each process from this one on waits for
abbrev pub AreTold : State → ℕ → List (List (List ℕ)) → Type 0
AreTold s p [] = ⊤
AreTold s p (x ∷ xs) = (length x ≡ length (waits s p)) × AreTold s (p + 1) xs

-- a list of objects as a member, where it has one or always stands there
abbrev pub listed : Bool → List ℕ → List Token → List Token
listed always name [] = if always then member name (array []) else []
listed always name (t ∷ ts) = member name (array (t ∷ ts))

-- these tokens are listed, unless memory is refused
pub record Lists (l : Listing) (ts : List Token) : Type 0 where
  pub text : l.text.refused ≡ false → l.text.text ≡ print ts
  pub some : ends_value ts ≡ not l.is_empty
  pub none : l.is_empty ≡ true → ts ≡ []
  pub printable : l.text.refused ≡ false → ArePrintable ts

-- so many tokens more are listed
abbrev pub ListsMore : List Token → Listing → Listing → Type 0
ListsMore more old new = (ts : List Token) → Lists old ts → Lists new (ts ++ more)

-- these are the objects of the first channels, and those of them that were not shown are listed
abbrev pub ListsFirst : List (List ℕ) → State → ℕ → List (List ℕ) → Listing → Listing → Type 0
ListsFirst before s n objects old new =
    (names : List (Option (List ℕ))) × (length names ≡ n) × (objects ≡ map print (channels_from s 1 names))
    × ListsMore (new_ones before 0 (channels_from s 1 names)) old new

-- of all channels
abbrev pub ListsChannels : List (List ℕ) → State → List (List ℕ) → Listing → Listing → Type 0
ListsChannels before s objects old new = ListsFirst before s (length s.channels) objects old new

-- these are the objects of the first processes, and those of them that are not as they were shown are listed
abbrev pub ListsOldest : List (List ℕ) → State → List Move → ℕ → List Change → ℕ → List (List ℕ) → Listing → Listing → Type 0
ListsOldest before s ms older cs n objects old new =
    (words : List (List (List ℕ))) × (length words ≡ n) × AreTold s 0 words × (objects ≡ map print (processes_from s ms 0 words))
    × ListsMore (changed_ones s before older cs 0 (processes_from s ms 0 words)) old new

-- of all processes
abbrev pub ListsProcesses : List (List ℕ) → State → List Move → ℕ → List Change → List (List ℕ) → Listing → Listing → Type 0
ListsProcesses before s ms older cs objects old new = ListsOldest before s ms older cs (length s.stands) objects old new
