-- What becomes of the tokens is the text.
use Rattle.std.proofs.Common.{◌≡◌, ℕ, Bool, true, List, [], ◌∷◌, ◌++◌, refl, ap, ◌∙◌}
use Rattle.prepare.specs.Contexts.{start as begun}
use Rattle.prepare.specs.Written.{Written}
use Rattle.prepare.specs.Stretches.{stretches}
use Rattle.prepare.specs.Laws.{source, sources}
use Rattle.prepare.proofs.Plain.{sources_are}
use Rattle.listed_values.specs.declared.course.ListCourse.{ListCourse}
use Rattle.listed_values.specs.Courses.{start, behind}
use Rattle.listed_values.specs.Changes.{changes_by, changes}
use Rattle.prepare.specs.Changed.{owns}

owns_are : (c : ListCourse) (b : Bool) (ts : List Written) → owns (changes_by c b ts) ≡ sources ts
owns_are c b [] = refl
owns_are c b (t ∷ ts) = ap (λ (xs : List ℕ). source t ++ xs) (owns_are (behind c b t.kind t.token ts) b ts)

pub owns_text : (b : Bool) (text : List ℕ) → owns (changes b (stretches text)) ≡ text
owns_text b text = owns_are start b (stretches text) ∙ sources_are _ true begun [] text
