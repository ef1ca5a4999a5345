-- Worked rows: what is made of some texts, by computing.
use Rattle.std.proofs.Common.{◌≡◌, ℕ, true, false, List, [], ◌∷◌, ◌++◌, refl}
use Rattle.std.specs.Fmt.{digits}
use Rattle.std.specs.List.{flat_map}
use lib.Chars.{codes}
use Rattle.promela_text.specs.Tables.{reserved, word_kind}
use Rattle.pml_lex.specs.Scanning.{next, comment_end, quote_end}
use Rattle.prepare.specs.Stretches.{lexeme_at, string_end, stretch, stretches_by}
use Rattle.prepare.specs.Spelling.{unbroken}
use Rattle.prepare.specs.Numbering.{numbered_by, asked_by, has_marker_by, numbered, lines_asked, has_marker}
use Rattle.prepare.specs.Coding.{coded_by, has_character_by, has_character}
use Rattle.prepare.specs.Laws.{prepared, is_mended}

-- lines, each with its line feed
abbrev lines : List (List ℕ) → List ℕ
lines ls = flat_map (λ l. l ++ 10 ∷ []) ls

-- a statement ends a line, and another begins
row_1 : prepared (lines (codes "init {" ∷ codes "x = 1 // one" ∷ codes "y++" ∷ codes "}" ∷ [])) ≡ lines (codes "init {" ∷ codes "x = 1; // one" ∷ codes "y++" ∷ codes "}" ∷ [])
unfolding reserved word_kind next comment_end quote_end lexeme_at string_end stretch stretches_by unbroken numbered_by coded_by
row_1 = refl

-- a name at the end of a line, and `!` on the next
row_2 : prepared (lines (codes "init {" ∷ codes "c" ∷ codes "!x }" ∷ [])) ≡ lines (codes "init {" ∷ codes "c;" ∷ codes "!x }" ∷ [])
unfolding reserved word_kind next comment_end quote_end lexeme_at string_end stretch stretches_by unbroken numbered_by coded_by
row_2 = refl

-- not before an operator, and not within brackets
row_3 : prepared (lines (codes "init { x = a" ∷ codes "+ f(b" ∷ codes ", c" ∷ codes ") }" ∷ [])) ≡ lines (codes "init { x = a" ∷ codes "+ f(b" ∷ codes ", c" ∷ codes ") }" ∷ [])
unfolding reserved word_kind next comment_end quote_end lexeme_at string_end stretch stretches_by unbroken numbered_by coded_by
row_3 = refl

-- not between units, and not behind the range of a `for`
row_4 : prepared (lines (codes "byte i" ∷ codes "init {" ∷ codes "for (i : 1 .. 2)" ∷ codes "{ skip }" ∷ codes "}" ∷ [])) ≡ lines (codes "byte i" ∷ codes "init {" ∷ codes "for (i : 1 .. 2)" ∷ codes "{ skip }" ∷ codes "}" ∷ [])
unfolding reserved word_kind next comment_end quote_end lexeme_at string_end stretch stretches_by unbroken numbered_by coded_by
row_4 = refl

-- a label directly before `}`
row_5 : prepared (codes "init { skip; end: }") ≡ codes "init { skip; end: skip }"
unfolding reserved word_kind next comment_end quote_end lexeme_at string_end stretch stretches_by unbroken numbered_by coded_by
row_5 = refl

-- a block is blanked, to the brace that closes it, and its comment stays
row_6 : prepared (lines (codes "ltl p { {a} /* b */" ∷ codes "} byte x;" ∷ [])) ≡ lines (codes "            /* b */" ∷ codes "  byte x;" ∷ [])
unfolding reserved word_kind next comment_end quote_end lexeme_at string_end stretch stretches_by unbroken numbered_by coded_by
row_6 = refl

-- a string over two lines
row_7 : prepared (lines (codes "printf(\"a\\" ∷ codes "b\") x" ∷ [])) ≡ lines (codes "printf(\"ab\"" ∷ codes ") x" ∷ [])
unfolding reserved word_kind next comment_end quote_end lexeme_at string_end stretch stretches_by unbroken numbered_by coded_by
row_7 = refl

-- markers: lines 1 and 4 of the model, and a file that is included on line 2
row_8 : numbered (lines (codes "# 1 \"m\"" ∷ codes "a" ∷ codes "# 1 \"h\" 1" ∷ codes "b" ∷ codes "c" ∷ codes "# 4 \"m\" 2" ∷ codes "d" ∷ [])) ≡ codes "a" ++ 10 ∷ codes "b" ++ 12 ∷ codes "c" ++ 12 ∷ 10 ∷ 10 ∷ codes "d" ++ 10 ∷ []
unfolding numbered_by
row_8 = refl

row_9 : lines_asked (lines (codes "# 1 \"m\"" ∷ codes "a" ∷ codes "# 1 \"h\" 1" ∷ codes "b" ∷ codes "# 4 \"m\" 2" ∷ codes "d" ∷ [])) ≡ 5
unfolding asked_by
row_9 = refl

-- a number that is too large for a line, and a line that names no file, are no markers
row_10 : has_marker (lines (codes "# 4000000000 \"x\"" ∷ codes "# 7" ∷ codes "#define N 3" ∷ [])) ≡ false
unfolding has_marker_by
row_10 = refl

-- a byte order mark goes
row_11 : prepared (239 ∷ 187 ∷ 191 ∷ codes "byte x") ≡ codes "byte x"
unfolding reserved word_kind next comment_end quote_end lexeme_at string_end stretch stretches_by unbroken numbered_by coded_by
row_11 = refl

-- nothing is to be mended
row_12 : is_mended (lines (codes "byte x" ∷ codes "init { x = 1;" ∷ codes "x++ }" ∷ [])) ≡ true
unfolding reserved word_kind next comment_end quote_end lexeme_at string_end stretch stretches_by
row_12 = refl

-- a comment without end is left, and all behind it
row_13 : prepared (lines (codes "init { x" ∷ codes "/* y" ∷ codes "z }" ∷ [])) ≡ lines (codes "init { x" ∷ codes "/* y" ∷ codes "z }" ∷ [])
unfolding reserved word_kind next comment_end quote_end lexeme_at string_end stretch stretches_by unbroken numbered_by coded_by
row_13 = refl

-- bytes that begin no token are left
row_14 : prepared (lines ((0 ∷ 200 ∷ codes "$ init { x") ∷ codes "y }" ∷ [])) ≡ lines ((0 ∷ 200 ∷ codes "$ init { x;") ∷ codes "y }" ∷ [])
unfolding reserved word_kind next comment_end quote_end lexeme_at string_end stretch stretches_by unbroken numbered_by coded_by
row_14 = refl

-- fields of a typedef at the ends of lines
row_15 : prepared (lines (codes "typedef R {" ∷ codes "byte p" ∷ codes "chan c = [1] of { byte }" ∷ codes "byte q" ∷ codes "}" ∷ [])) ≡ lines (codes "typedef R {" ∷ codes "byte p;" ∷ codes "chan c = [1] of { byte };" ∷ codes "byte q" ∷ codes "}" ∷ [])
unfolding reserved word_kind next comment_end quote_end lexeme_at string_end stretch stretches_by unbroken numbered_by coded_by
row_15 = refl

-- a label directly before `::`, `fi` and `od`
row_16 : prepared (codes "init { if :: a: :: b: fi; do :: c: od }") ≡ codes "init { if :: a: skip :: b: skip fi; do :: c: skip od }"
unfolding reserved word_kind next comment_end quote_end lexeme_at string_end stretch stretches_by unbroken numbered_by coded_by
row_16 = refl

-- the values of a subtype are no list, so a separator is written behind it; what makes it one is blanked
row_17 : prepared (lines (codes "mtype:s = { a }" ∷ codes "init { x" ∷ codes "y }" ∷ [])) ≡ lines (codes "mtype   = { a }" ∷ codes "init { x;" ∷ codes "y }" ∷ [])
unfolding reserved word_kind next comment_end quote_end lexeme_at string_end stretch stretches_by unbroken numbered_by coded_by
row_17 = refl

-- character constants, of which `\n` is one; what is none is left, and so is what stands in a string or a comment
row_18 : prepared (codes "init { x = 'a' + 'z' * '\\n' - '\\'' + '~ \"'b'\" /* 'c' */ }") ≡ codes "init { x =  97  +  122  *  10  -  39  + '~ \"'b'\" /* 'c' */ }"
unfolding reserved word_kind next comment_end quote_end lexeme_at string_end stretch stretches_by unbroken numbered_by coded_by
row_18 = refl

row_19 : has_character (lines (codes "x = 'a // 'b'" ∷ codes "\"'c'\"" ∷ [])) ≡ false
unfolding reserved word_kind next comment_end quote_end lexeme_at string_end has_character_by
row_19 = refl

-- subtypes of `mtype`; a colon without a name stays
row_20 : prepared (codes "mtype:s x; mtype /*c*/ : /*d*/ s y; chan c = [1] of { mtype:s }; mtype: 1") ≡ codes "mtype   x; mtype /*c*/   /*d*/   y; chan c = [1] of { mtype   }; mtype: 1"
unfolding reserved word_kind next comment_end quote_end lexeme_at string_end stretch stretches_by unbroken numbered_by coded_by
row_20 = refl

-- a `for` over an array
row_21 : prepared (codes "int a[5]; init { int i; for (i in a) { skip } }") ≡ codes "int a[5]; init { int i; for (i : 0 .. 4) { skip } }"
unfolding digits reserved word_kind next comment_end quote_end lexeme_at string_end stretch stretches_by unbroken numbered_by coded_by
row_21 = refl

-- arrays declared in a row, by a type of its own, and twice with the same size
row_22 : prepared (codes "chan c = [1] of { byte, R }, d[12] = [2] of { R }, e; R r[1]; init { R i, j[12]; for(i in d) { for (i in r) { for(i in/**/j ) { skip } } } } proctype P() { int j[12] }") ≡ codes "chan c = [1] of { byte, R }, d[12] = [2] of { R }, e; R r[1]; init { R i, j[12]; for(i : 0 .. 11) { for (i : 0 .. 0) { for(i :/**/0 .. 11 ) { skip } } } } proctype P() { int j[12] }"
unfolding digits reserved word_kind next comment_end quote_end lexeme_at string_end stretch stretches_by unbroken numbered_by coded_by
row_22 = refl

-- sizes that do not agree; a channel; a size that is none; no size that is a number
row_23 : prepared (codes "int a[5]; chan c; int n[0]; int s[N]; init { int a[4]; for (i in a) { for (i in c) { for (i in n) { for (i in s) { for (i in u) { skip } } } } } }") ≡ codes "int a[5]; chan c; int n[0]; int s[N]; init { int a[4]; for (i in a) { for (i in c) { for (i in n) { for (i in s) { for (i in u) { skip } } } } } }"
unfolding reserved word_kind next comment_end quote_end lexeme_at string_end stretch stretches_by unbroken numbered_by coded_by
row_23 = refl

-- fields, a parameter of an inline, a parameter that is a channel elsewhere, and a part of an array
row_24 : prepared (codes "typedef R { int f[5]; chan g = [1] of { byte }; int h[5] } int a[5]; int b[5]; inline p(a) { for (i in a) { skip } } proctype P(chan b) { for (i in b) { for (i in f) { for (i in h) { for (i in r.f) { for (i in b[1]) { skip } } } } } }") ≡ codes "typedef R { int f[5]; chan g = [1] of { byte }; int h[5] } int a[5]; int b[5]; inline p(a) { for (i in a) { skip } } proctype P(chan b) { for (i in b) { for (i in f) { for (i in h) { for (i in r.f) { for (i in b[1]) { skip } } } } } }"
unfolding reserved word_kind next comment_end quote_end lexeme_at string_end stretch stretches_by unbroken numbered_by coded_by
row_24 = refl

-- what stands behind a comma in a statement is not declared
row_25 : prepared (codes "int a[5]; init { int x = f(y, a), z; c!x, a; printf(1, a); for (i in a) { c?x, a } }") ≡ codes "int a[5]; init { int x = f(y, a), z; c!x, a; printf(1, a); for (i : 0 .. 4) { c?x, a } }"
unfolding digits reserved word_kind next comment_end quote_end lexeme_at string_end stretch stretches_by unbroken numbered_by coded_by
row_25 = refl

-- a field of the same name is no declaration of the array, nor is what stands behind the typedef one of a field
row_26 : prepared (codes "typedef R { bit a; chan c = [1] of { byte }; byte b[3] }; byte b[2]; init { int a[5]; for (i in a) { for (i in b) { skip } } }") ≡ codes "typedef R { bit a; chan c = [1] of { byte }; byte b[3] }; byte b[2]; init { int a[5]; for (i : 0 .. 4) { for (i : 0 .. 1) { skip } } }"
unfolding digits reserved word_kind next comment_end quote_end lexeme_at string_end stretch stretches_by unbroken numbered_by coded_by
row_26 = refl

-- a block of an included file keeps what ends its lines
row_27 : prepared (lines (codes "# 1 \"m\"" ∷ codes "# 1 \"h\" 1" ∷ codes "ltl p {" ∷ codes "} byte x" ∷ codes "# 2 \"m\" 2" ∷ codes "byte y" ∷ [])) ≡ codes "       " ++ 12 ∷ codes "  byte x" ++ 12 ∷ 10 ∷ codes "byte y" ++ 10 ∷ []
unfolding reserved word_kind next comment_end quote_end lexeme_at string_end stretch stretches_by unbroken numbered_by coded_by
row_27 = refl

-- a declaration goes on behind its brackets, whatever stands within them
row_28 : prepared (codes "int a[5]; init { int b = (c -> 1 : 2), a[4]; for (i in a) { skip } }") ≡ codes "int a[5]; init { int b = (c -> 1 : 2), a[4]; for (i in a) { skip } }"
unfolding reserved word_kind next comment_end quote_end lexeme_at string_end stretch stretches_by unbroken numbered_by coded_by
row_28 = refl

-- a label with nothing between it and the token behind it
row_29 : prepared (codes "init { if :: a:fi; do :: b:od; c:}") ≡ codes "init { if :: a: skip fi; do :: b: skip od; c: skip }"
unfolding reserved word_kind next comment_end quote_end lexeme_at string_end stretch stretches_by unbroken numbered_by coded_by
row_29 = refl

-- a backslash that belongs to another one stays where a line feed is behind it, and a line feed that belongs to a backslash goes with it
row_30 : prepared (lines (codes "printf(\"a\\\\" ∷ codes "\\n\\" ∷ codes "\") x" ∷ [])) ≡ lines (codes "printf(\"a\\\\\\n\"" ∷ codes "" ∷ codes ") x" ∷ [])
unfolding reserved word_kind next comment_end quote_end lexeme_at string_end stretch stretches_by unbroken numbered_by coded_by
row_30 = refl
