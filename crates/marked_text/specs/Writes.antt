-- What a text with marks says: which tokens stand on which line of which file.
use Rattle.std.specs.Prelude.{◌≡◌, ◌≤◌, ◌+◌, ◌∷◌, ◌++◌, ℕ, Bool, true, false, List, [], codes, max, slice_index_or, if◌then◌else◌, ◌==◌, map}
use Rattle.std.specs.Fmt.{decimal}
use Rattle.std.specs.Global.{Vec}
use Rattle.pml_macros.specs.declared.book.Book.{Book}
use Rattle.pml_macros.specs.declared.atom.Atom.{Atom}
use Rattle.pml_macros.specs.Texts.{text_in}
use Rattle.marked_text.specs.declared.pen.Pen.{Pen}

-- where a text is: in this file, on this line of it, and whether nothing stands on the line yet
pub record Spot : Type 0 where
  pub file : ℕ
  pub line : ℕ
  pub is_fresh : Bool

abbrev pub spot : Pen → Spot
spot p = record { file = p.file; line = p.line; is_fresh = p.is_fresh }

-- the first line of the model's own file
abbrev pub start : Spot
start = record { file = 0; line = 1; is_fresh = true }

abbrev pub stale : Spot → Spot
stale p = record p { is_fresh = false }

abbrev pub fed : Spot → Spot
fed p = record { file = p.file; line = p.line + 1; is_fresh = true }

abbrev pub at : ℕ → ℕ → Spot
at file n = record { file = file; line = n; is_fresh = true }

-- what the files are called in marks: the model's own, which is the first, by nothing
abbrev pub names : List (Vec ℕ) → List (List ℕ)
names vs = map (λ v. v.items) vs

abbrev pub name_in : List (List ℕ) → ℕ → List ℕ
name_in ns file = if file == 0 then [] else slice_index_or ns file []

-- the mark of a line of a file
abbrev pub mark_of : ℕ → List ℕ → List ℕ
mark_of n name = codes "# " ++ (decimal n ++ (codes " \"" ++ (name ++ (codes "\"" ++ 10 ∷ []))))

-- What stands between tokens leads from one place to another: blanks, line feeds, and marks, each of which has a line of its own.
pub data Leads (ns : List (List ℕ)) : Spot → List ℕ → Spot → Type 0 where
  stays : {p : Spot} → Leads ns p [] p
  blank : {p q : Spot} {t : List ℕ} → Leads ns (stale p) t q → Leads ns p (32 ∷ t) q
  feed : {p q : Spot} {t : List ℕ} → Leads ns (fed p) t q → Leads ns p (10 ∷ t) q
  mark : {p q : Spot} {t : List ℕ} (file n : ℕ) → p.is_fresh ≡ true → Leads ns (at file n) t q → Leads ns p (mark_of n (name_in ns file) ++ t) q

-- a token stands in its file, on the line of its place, or where an earlier one stands further on, on that one's
pub record StandsAt (p q : Spot) (a : Atom) : Type 0 where
  pub file : q.file ≡ a.call.file
  pub low : a.call.line ≤ q.line
  pub same : p.file ≡ a.call.file → q.line ≡ max p.line a.call.line

-- From a place on a text has these tokens, one behind the other, each where it belongs.
pub data Writes (b : Book) (ns : List (List ℕ)) : Spot → List Atom → List ℕ → Type 0 where
  nothing : {p q : Spot} {t : List ℕ} → Leads ns p t q → Writes b ns p [] t
  token : {p q : Spot} {a : Atom} {as' : List Atom} {gap rest : List ℕ} → Leads ns p gap q → StandsAt p q a → Writes b ns (stale q) as' rest
      → Writes b ns p (a ∷ as') (gap ++ (text_in b a.text ++ rest))

-- a text begins with the mark of its first line
pub record WritesAll (b : Book) (ns : List (List ℕ)) (as' : List Atom) (text : List ℕ) : Type 0 where
  pub rest : List ℕ
  pub begins : text ≡ mark_of 1 [] ++ rest
  pub writes : Writes b ns start as' rest

-- ---- what the code does, step by step. No clause of a public function of another crate cites this.

-- what is added leads from one place to another
pub record Goes (ns : List (List ℕ)) (old new : List ℕ) (p q : Spot) : Type 0 where
  pub gap : List ℕ
  pub joins : new ≡ old ++ gap
  pub leads : Leads ns p gap q

-- what a pen goes on by, over what is written
abbrev pub Went : List (List ℕ) → List ℕ → Pen → List ℕ → Pen → Type 0
Went ns old p new q = Goes ns old new (spot p) (spot q)

-- what is added leads to the beginning of a line
pub record Ends (ns : List (List ℕ)) (old new : List ℕ) (p : Spot) : Type 0 where
  pub next : Spot
  pub fresh : next.is_fresh ≡ true
  pub goes : Goes ns old new p next
