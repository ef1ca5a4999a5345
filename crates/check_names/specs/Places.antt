-- How a name is found: it has a number, and an owner and a number lead to what is kept for the owner's name.
use Rattle.std.specs.Prelude.{◌≡◌, ℕ, suc, ◌<◌, ◌&&◌, nat_eq, List, [], ◌∷◌, if◌then◌else◌, Option, Some, None}
use Rattle.std.specs.Str.{bytes_eq}
use Rattle.std.specs.Ordering.{nat_cmp, ordering_then}
use Rattle.std.specs.Cmp.Lexicographic.{slice_cmp}
use Rattle.std.specs.Borrow.{Bor}
use Rattle.std.specs.BTreeMap.{BTreeMap, btree_map_len, get, get_by}
use Rattle.promela_model.specs.declared.thing.Thing.{Thing}
use Rattle.check_names.specs.Entry.{Entry, is_named, entries_of}

abbrev pub Numbers : Type 0
Numbers = BTreeMap (Bor (List ℕ)) ℕ

abbrev pub Places : Type 0 → Type 0
Places X = BTreeMap (ℕ × ℕ) X

abbrev pub number_in : Numbers → List ℕ → Option ℕ
number_in ns n = get_by (λ k. slice_cmp nat_cmp n k.now) ns

abbrev pub place_in : {X : Type 0} → Places X → ℕ → ℕ → Option X
place_in ps o k = get (λ x y. ordering_then (nat_cmp x.0 y.0) (nat_cmp x.1 y.1)) ps (o, k)

abbrev pub place_by : {X : Type 0} → Places X → ℕ → Option ℕ → Option X
place_by ps o None = None
place_by ps o (Some k) = place_in ps o k

-- what is kept for a name of an owner
abbrev pub stands : {X : Type 0} → Numbers → Places X → ℕ → List ℕ → Option X
stands ns ps o n = place_by ps o (number_in ns n)

-- this stands for a name of an owner now, and for each other what stood before
abbrev pub Puts : {X : Type 0} → (old new : ℕ → List ℕ → Option X) → ℕ → List ℕ → X → Type 0
Puts old new owner name x = (o : ℕ) (n : List ℕ) → new o n ≡ (if nat_eq owner o && bytes_eq name n then Some x else old o n)

-- no two names have one number
pub record AreNumbered (ns : Numbers) : Type 0 where
  pub below : (n : List ℕ) (k : ℕ) → number_in ns n ≡ Some k → k < btree_map_len ns
  pub apart : (n m : List ℕ) (k : ℕ) → number_in ns n ≡ Some k → number_in ns m ≡ Some k → n ≡ m

-- and only for a name's number is something kept
pub record IsKept {X : Type 0} (ns : Numbers) (ps : Places X) : Type 0 where
  pub numbered : AreNumbered ns
  pub below : (o k : ℕ) (x : X) → place_in ps o k ≡ Some x → k < btree_map_len ns

abbrev pub one_behind : Option ℕ → Option ℕ
one_behind None = None
one_behind (Some k) = Some (suc k)

-- how many names stand before the first one that is called so
abbrev pub place_of : List Entry → ℕ → List ℕ → Option ℕ
place_of [] o n = None
place_of (e ∷ es) o n = if is_named o n e then Some 0 else one_behind (place_of es o n)

abbrev pub thing_in : Option Entry → Option Thing
thing_in None = None
thing_in (Some e) = Some e.thing

-- what is declared has its place as its key, from k on
abbrev pub AreCounted : ℕ → List (ℕ × ((ℕ × Bor (List ℕ)) × Thing)) → Type 0
AreCounted k [] = Unit {0}
AreCounted k (e ∷ es) = (e.0 ≡ k) × AreCounted (suc k) es

-- each name is found by its place
pub record IsPlaced (ns : Numbers) (ps : Places ℕ) (things : List (ℕ × ((ℕ × Bor (List ℕ)) × Thing))) : Type 0 where
  pub kept : IsKept ns ps
  pub counted : AreCounted 0 things
  pub found : (o : ℕ) (n : List ℕ) → stands ns ps o n ≡ place_of (entries_of things) o n
