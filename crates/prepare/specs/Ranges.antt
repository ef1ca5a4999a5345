-- Words for the law of ranges.
use Rattle.std.specs.Prelude.{◌≡◌, ℕ, suc, Bool, true, List, All}
use Rattle.std.specs.List.{list_any}
use Rattle.std.specs.Str.{bytes_eq}
use Rattle.prepare.specs.declared.changes.Respelling.{Respelling}
use Rattle.prepare.specs.declared.changes.Respelling.TheVariants as change
use Rattle.prepare.specs.Changed.{Changed}
use Rattle.prepare.specs.Sizes.{Declared}

-- whether a name is declared
abbrev pub is_declared : List ℕ → List Declared → Bool
is_declared name ds = list_any (λ d. bytes_eq d.name name) ds

-- a name is declared, each time with this size
pub record HasSize (name : List ℕ) (size : ℕ) (ds : List Declared) : Type 0 where
  pub some : is_declared name ds ≡ true
  pub all : All (λ d. bytes_eq d.name name ≡ true → d.size ≡ size) ds

-- where a range is written in place of a name, that name has the size of the range
abbrev pub IsOfSize : List Declared → Changed Respelling → Type 0
IsOfSize ds c = (last : ℕ) → c.change ≡ change.Range last → HasSize c.token (suc last) ds
