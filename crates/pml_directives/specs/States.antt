-- What is known while a text is preprocessed.
use Rattle.std.specs.Prelude.{◌≡◌, ℕ, ◌+◌, ◌-◌, ◌^◌, Bool, true, ◌&&◌, nat_lt, min, if◌then◌else◌, List, [], ◌∷◌, length, map, Option, None, Some, slice_get, slice_index_or}
use Rattle.std.specs.Option.{option_map_or}
use Rattle.std.specs.Global.{Vec}
use Rattle.std.specs.Str.{bytes_eq}
use Rattle.pml_macros.specs.declared.atom.Atom.{Atom}
use Rattle.pml_macros.specs.declared.atom.FilePlace.{FilePlace}
use Rattle.pml_directives.specs.declared.state.TheConstants.{MOST_BYTES}
use Rattle.pml_directives.specs.declared.state.Open.{Open}
use Rattle.pml_directives.specs.declared.state.Shift.{Shift}
use Rattle.pml_directives.specs.declared.state.State.{State}

-- what the innermost condition says of what stands in it
abbrev pub is_live : List Open → Bool
is_live os = option_map_or (λ o. o.is_live) (slice_get os (length os - 1)) true

-- what a file is called
abbrev pub name_of : List (Vec ℕ) → ℕ → List ℕ
name_of ns file = slice_index_or (map (λ v. v.items) ns) file []

-- the file of this number is called so
abbrev pub called_so : List (Vec ℕ) → List ℕ → ℕ → Bool
called_so ns name n = nat_lt n (length ns) && bytes_eq (name_of ns n) name

-- on which line of the model's own file a place is, or its file is included
abbrev pub home_of : List ℕ → FilePlace → ℕ
home_of homes p = if nat_lt 0 p.file then slice_index_or homes p.file p.line else p.line

-- the number of a line behind a `#line`
abbrev pub line_behind : Shift → ℕ → ℕ
line_behind s n = min (s.to + (n - s.from)) (2 ^ 32 - 1)

abbrev pub place_behind : Shift → FilePlace → FilePlace
place_behind s p = record p { line = line_behind s p.line }

-- a token that stands for itself, on that line
abbrev pub shifted : Shift → Atom → Atom
shifted s a = let p = place_behind s a.place in record a { place = p; call = p }

-- the tokens of a line
abbrev pub shifted_all : Option Shift → List Atom → List Atom
shifted_all None xs = xs
shifted_all (Some s) xs = map (shifted s) xs

-- nothing is read yet
pub record IsNew (own given : List ℕ) (s : State) : Type 0 where
  pub names : map (λ v. v.items) s.names.items ≡ own ∷ given ∷ []
  pub homes : s.homes.items ≡ 1 ∷ 1 ∷ []
  pub bytes : s.bytes_left ≡ MOST_BYTES
  pub out : s.out.items ≡ []
  pub run : s.run.items ≡ []
  pub notes : s.notes.items ≡ []
  pub conditions : s.open.items ≡ []
  pub once : s.once.items ≡ []
  pub floor : s.floor ≡ 0
  pub shift : s.shift ≡ None
