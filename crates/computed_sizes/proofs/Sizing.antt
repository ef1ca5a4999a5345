-- What becomes of the tokens is the text; and rows, by computing.
use Rattle.std.proofs.Common.{◌≡◌, ℕ, true, List, [], ◌∷◌, ◌++◌, refl, ap, ◌∙◌}
use Rattle.std.specs.Fmt.{digits}
use lib.Chars.{codes}
use Rattle.promela_text.specs.Tables.{reserved, word_kind}
use Rattle.pml_lex.specs.Scanning.{next, comment_end, quote_end}
use Rattle.prepare.specs.declared.sizes.DeclarationReading.{DeclarationReading}
use Rattle.prepare.specs.Contexts.{start}
use Rattle.prepare.specs.Sizes as sizes
use Rattle.prepare.specs.Written.{Written}
use Rattle.prepare.specs.Stretches.{lexeme_at, string_end, stretch, stretches_by, stretches}
use Rattle.prepare.specs.Laws.{source, sources}
use Rattle.prepare.proofs.Plain.{sources_are}
use Rattle.computed_sizes.specs.declared.changes.SizePlace.{SizePlace}
use Rattle.computed_sizes.specs.declared.changes.SizePlace.TheVariants as place
use Rattle.computed_sizes.specs.Sized.{behind, changes_by, changes}
use Rattle.computed_sizes.specs.Resizing.{resized}
use Rattle.prepare.specs.Changed.{owns}

owns_are : (p : SizePlace) (r : DeclarationReading) (ts : List Written) → owns (changes_by p r ts) ≡ sources ts
owns_are p r [] = refl
owns_are p r (t ∷ ts) = ap (λ (xs : List ℕ). source t ++ xs) (owns_are (behind p r t.kind ts) (sizes.behind r t.kind t.token) ts)

pub owns_text : (text : List ℕ) → owns (changes (stretches text)) ≡ text
owns_text text = owns_are place.Outside sizes.start (stretches text) ∙ sources_are _ true start [] text

-- products before sums, and from the left on
row_1 : resized (codes "byte a[3+1], b[2*3-1]; int d[ 7 / 2 % 2 + 1 ]") ≡ codes "byte a[4  ], b[5    ]; int d[ 2             ]"
unfolding digits reserved word_kind next comment_end quote_end lexeme_at string_end stretch stretches_by
row_1 = refl

-- parentheses, two deep
row_2 : resized (codes "byte a[((3)+1)*2]; byte b[(((1)))]; byte d[(2)]") ≡ codes "byte a[8        ]; byte b[(((1)))]; byte d[2  ]"
unfolding digits reserved word_kind next comment_end quote_end lexeme_at string_end stretch stretches_by
row_2 = refl

-- what comes to no size stays: 0, less than nothing, too much, a division by 0, and a name
row_3 : resized (codes "byte a[1-1], b[1-2+3], c[65535+1], d[1/0], e[n+1], f[7], g[1+]") ≡ codes "byte a[1-1], b[1-2+3], c[65535+1], d[1/0], e[n+1], f[7], g[1+]"
unfolding digits reserved word_kind next comment_end quote_end lexeme_at string_end stretch stretches_by
row_3 = refl

-- an index is no size
row_4 : resized (codes "byte a[7]; init { a[1+2] = 1; x = a[1+2] }") ≡ codes "byte a[7]; init { a[1+2] = 1; x = a[1+2] }"
unfolding digits reserved word_kind next comment_end quote_end lexeme_at string_end stretch stretches_by
row_4 = refl
