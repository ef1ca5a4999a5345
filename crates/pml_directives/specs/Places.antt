-- Where the tokens of a file stand in it.
use Rattle.std.specs.Prelude.{◌≡◌, ◌<◌, ◌+◌, ◌==◌, ℕ, Bool, true, false, if◌then◌else◌, List, [], ◌∷◌, length, count_by, take, drop, All, slice_index_or}
use Rattle.pml_macros.specs.declared.book.Book.{Book}
use Rattle.pml_macros.specs.declared.atom.Atom.{Atom}
use Rattle.pml_macros.specs.declared.atom.FilePlace.{FilePlace}
use Rattle.pml_macros.specs.Texts.{IsText}
use Rattle.pml_directives.specs.declared.lines.AtomLine.{AtomLine}

-- the place behind some bytes of a file, and the one behind a byte more
abbrev pub column_from : ℕ → List ℕ → ℕ
column_from n [] = n
column_from n (b ∷ t) = column_from (if b == 10 then 1 else n + 1) t

abbrev pub is_feed : ℕ → Bool
is_feed b = b == 10

abbrev pub place_behind : ℕ → List ℕ → FilePlace
place_behind file t = record { file = file; offset = length t; line = count_by is_feed t + 1; column = column_from 1 t }

abbrev pub past : FilePlace → Bool → FilePlace
past p true = record { file = p.file; offset = p.offset + 1; line = p.line + 1; column = 1 }
past p false = record { file = p.file; offset = p.offset + 1; line = p.line; column = p.column + 1 }

abbrev pub after : FilePlace → ℕ → FilePlace
after p b = past p (b == 10)

-- The token's text stands in these bytes behind so many of them, its place is that of its first byte among these places, and it stands for
-- itself: no call is round it.
pub record StandsThere (b : Book) (bytes : List ℕ) (places : List FilePlace) (end : FilePlace) (a : Atom) : Type 0 where
  pub text : List ℕ
  pub is : IsText b a.text text
  pub behind : ℕ
  pub there : take (length text) (drop behind bytes) ≡ text
  pub place : a.place ≡ slice_index_or places behind end
  pub own : a.call ≡ a.place

-- so do all of a line
abbrev pub Stand : Book → List ℕ → List FilePlace → FilePlace → List Atom → Type 0
Stand b bytes places end xs = All (StandsThere b bytes places end) xs

-- so do all tokens of the lines
abbrev pub AllStand : Book → List ℕ → List FilePlace → FilePlace → List AtomLine → Type 0
AllStand b bytes places end ls = All (λ l. Stand b bytes places end l.atoms.items) ls

-- how many bytes stand before the place of this number
abbrev pub offset_in : List FilePlace → ℕ → ℕ
offset_in places k =
    let p = slice_index_or places k (place_behind 0 []) in
    p.offset

-- these bytes are those of the text of this file at these places, which have the lines and columns of the text
pub record AreOf (file : ℕ) (text bytes : List ℕ) (places : List FilePlace) : Type 0 where
  pub same : length places ≡ length bytes
  pub each : (k : ℕ) → k < length bytes → slice_index_or text (offset_in places k) 0 ≡ slice_index_or bytes k 0
  pub there : All (λ p. p ≡ place_behind file (take p.offset text)) places

-- all tokens of the lines stand in the text, but for its joints
pub record StandIn (b : Book) (file : ℕ) (text : List ℕ) (ls : List AtomLine) : Type 0 where
  pub bytes : List ℕ
  pub places : List FilePlace
  pub end : FilePlace
  pub of : AreOf file text bytes places
  pub stand : AllStand b bytes places end ls
