-- What is written of a refused model that was prepared: what is told of its place, and, where that lies in a macro, where its token stands in the `#define`.
use Rattle.std.specs.Prelude.{◌≡◌, ℕ, List, ◌++◌, Option, Some}
use Rattle.diagnostics.specs.declared.refusal.Refusal.{Refusal}
use Rattle.explain_cause.specs.declared.cause.Segment.{Segment}
use Rattle.explain_find.specs.Told.{IsTold}
use Rattle.explain.specs.Explained.{ExplainsBeside}
use Rattle.pml_macros.specs.declared.atom.Atom.{Atom}
use Rattle.called_macros.specs.declared.origin.Origin.{Origin}
use Rattle.called_macros.specs.Origins.{called_at}
use Rattle.called_macros.specs.Told.{called_told, line_told}
use Rattle.program_files.specs.declared.models.Own.{Own}

-- the place that is told of a refusal is that of a token of a macro
pub record IsCalledIn (o : Origin) (text : List ℕ) (x : Refusal) (a : Atom) : Type 0 where
  pub place : Segment
  pub told : IsTold text x place
  pub called : called_at o text place.offset ≡ Some a

-- its line is added, by the text of its file, if that is at hand
pub data AddsLine (o : Origin) (a : Atom) (old new : List ℕ) : Type 0 where
  no_line : new ≡ old → AddsLine o a old new
  line : (file : List ℕ) → new ≡ old ++ line_told o file a → AddsLine o a old new

-- where that token stands is added, with the call that it came of; or nothing
pub data AddsCalled (origin : Option Origin) (text : List ℕ) (x : Refusal) (old new : List ℕ) : Type 0 where
  nothing : new ≡ old → AddsCalled origin text x old new
  called : (o : Origin) (a : Atom) → origin ≡ Some o → IsCalledIn o text x a → AddsLine o a (old ++ called_told o a) new
      → AddsCalled origin text x old new

-- What is written of a model that was prepared of an author's text.
pub record ExplainsOwn (name text : List ℕ) (own : Own) (x : Refusal) (out : List ℕ) : Type 0 where
  pub included : List ℕ
  pub told : List ℕ
  pub explains : ExplainsBeside (record { name = name; text = text; own = own.text.items; lines = own.lines.items; included = included }) x told
  pub adds : AddsCalled own.origin text x told out
