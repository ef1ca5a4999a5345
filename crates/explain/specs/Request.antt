-- What is asked, as a value.
use Rattle.std.specs.Prelude.{ℕ, List}
use Rattle.explain.specs.declared.AuthorSource.{AuthorSource}
use Rattle.explain.specs.declared.told.RefusedText.{RefusedText}
use Rattle.explain.specs.Explained.{Request}

abbrev pub request_of : RefusedText → Request
request_of a = record { name = a.name.now; text = a.text.now; own = a.own.now; lines = a.lines.now; included = a.included.now }

abbrev pub asked_for : List ℕ → List ℕ → AuthorSource → Request
asked_for name text s = record { name = name; text = text; own = s.text.now; lines = s.lines.now; included = s.included.now }
