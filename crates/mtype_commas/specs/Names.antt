-- Where commas change, by the kinds of the tokens alone: of those before a place, the last one first.
use Rattle.std.specs.Prelude.{◌≡◌, Bool, true, false, ◌||◌, List, [], ◌∷◌, ◌++◌, fold}
use Rattle.std.specs.List.{list_any}
use Rattle.pml_token.specs.declared.token.Kind.{Kind}
use Rattle.pml_token.specs.declared.token.Kind.TheVariants as kind
use Rattle.pml_token.specs.Word.{same_kind}
use Rattle.mtype_commas.specs.declared.changes.CommaChange.TheVariants.{Blanked, Parted}
use Rattle.prepare.specs.Changed.{Changed}
use Rattle.mtype_commas.specs.declared.changes.CommaChange.{CommaChange}

abbrev pub kinds_behind : List Kind → Changed CommaChange → List Kind
kinds_behind ks c = c.kind ∷ ks

-- the kinds of these tokens
abbrev pub kinds : List (Changed CommaChange) → List Kind
kinds cs = fold kinds_behind [] cs

-- whether the last tokens are a type that is written by `mtype`: the word, or a subtype of it
abbrev pub is_type : List Kind → Bool
is_type (kind.Mtype ∷ ks) = true
is_type (kind.Name ∷ kind.Colon ∷ ks) = is_type ks
is_type _ = false

-- whether the last token is the `=` behind such a type
abbrev pub is_assigned : List Kind → Bool
is_assigned (kind.Assign ∷ ks) = is_type ks
is_assigned _ = false

abbrev pub is_name : List Kind → Bool
is_name (kind.Name ∷ ks) = true
is_name _ = false

abbrev pub ends : Kind → Bool
ends kind.CloseBrace = true
ends _ = false

-- the names of an `mtype` begin: `{` behind its `=`, or behind the type itself
abbrev pub BeginsNames : List Kind → Type 0
BeginsNames (kind.OpenBrace ∷ ks) = (is_assigned ks || is_type ks) ≡ true
BeginsNames _ = ⊥

-- since they began no `}` stands
pub record AmongNames (ks : List Kind) : Type 0 where
  pub inside : List Kind
  pub before : List Kind
  pub splits : ks ≡ inside ++ before
  pub begun : BeginsNames before
  pub goes_on : list_any ends inside ≡ false

-- whether a `}` or a comma stands here
abbrev pub is_spare : List (Changed CommaChange) → Bool
is_spare [] = false
is_spare (c ∷ cs) = same_kind c.kind kind.CloseBrace || same_kind c.kind kind.Comma

-- a comma among the names of an `mtype`, before their `}` or another one
pub record IsSpare (ks : List Kind) (c : Changed CommaChange) (back : List (Changed CommaChange)) : Type 0 where
  pub comma : c.kind ≡ kind.Comma
  pub last : is_spare back ≡ true
  pub among : AmongNames ks

-- a name among them, directly behind a name
pub record WantsComma (ks : List Kind) (c : Changed CommaChange) : Type 0 where
  pub name : c.kind ≡ kind.Name
  pub next : is_name ks ≡ true
  pub among : AmongNames ks

-- a blank stands for such commas, a comma before such names, and nothing else changes
pub record Exact (ks : List Kind) (c : Changed CommaChange) (back : List (Changed CommaChange)) : Type 0 where
  pub blanked : c.change ≡ Blanked → IsSpare ks c back
  pub spare : IsSpare ks c back → c.change ≡ Blanked
  pub parted : c.change ≡ Parted → WantsComma ks c
  pub wanted : WantsComma ks c → c.change ≡ Parted

abbrev pub CommasAreExact : List (Changed CommaChange) → Type 0
CommasAreExact cs = (front back : List (Changed CommaChange)) (c : Changed CommaChange) → cs ≡ front ++ c ∷ back → Exact (kinds front) c back
