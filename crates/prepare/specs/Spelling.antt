-- What is written of stretches.
use Rattle.std.specs.Prelude.{ℕ, Bool, true, false, not, ◌&&◌, ◌||◌, ◌==◌, if◌then◌else◌, List, [], ◌∷◌, ◌++◌, map}
use Rattle.std.specs.List.{filter, flat_map}
use lib.Chars.{codes}
use Rattle.profile.specs.Characters.{line_feed, space, backslash}
use Rattle.prepare.specs.declared.TheConstants.{FORM_FEED}
use Rattle.promela_text.specs.Tokens.{is_line_feed}
use Rattle.prepare.specs.declared.context.Supply.{Supply}
use Rattle.prepare.specs.declared.context.Supply.TheVariants as as_supply
use Rattle.prepare.specs.declared.stretch.StretchForm.{StretchForm}
use Rattle.prepare.specs.declared.stretch.StretchForm.TheVariants as form
use Rattle.prepare.specs.Contexts.{written}
use Rattle.prepare.specs.Written.{Written}

-- a blank in place of a byte that ends no line, of the model's own file or of an included one
abbrev pub blank : ℕ → ℕ
blank b = if b == line_feed || b == FORM_FEED then b else space

abbrev pub begins_feed : List ℕ → Bool
begins_feed [] = false
begins_feed (b ∷ q) = b == line_feed

-- a line feed, or the backslash that stands before one, and behind no backslash of its own
abbrev pub is_break : Bool → ℕ → List ℕ → Bool
is_break escaped b q = b == line_feed || (not escaped && (b == backslash && begins_feed q))

abbrev pub unless_break : Bool → ℕ → List ℕ → List ℕ
unless_break true b rest = rest
unless_break false b rest = b ∷ rest

-- whether the byte behind this one belongs to it
abbrev pub escapes : Bool → ℕ → Bool
escapes escaped b = not escaped && b == backslash

-- the rest of a string on one line: `escaped` says whether its first byte belongs to a backslash before it
unfoldable pub unbroken : Bool → List ℕ → List ℕ
unbroken escaped [] = []
unbroken escaped (b ∷ q) = unless_break (is_break escaped b q) b (unbroken (escapes escaped b) q)

-- a string on one line, its line feeds behind it
abbrev pub joined : List ℕ → List ℕ
joined t = unbroken false t ++ filter is_line_feed t

-- what is written of a token
abbrev pub shown : StretchForm → List ℕ → List ℕ
shown form.Kept t = t
shown form.Joined t = joined t
shown form.Blanked t = map blank t

-- a blank behind `skip` where the text has nothing between the label and the token
abbrev pub divider : Supply → List ℕ → List ℕ
divider as_supply.Skip [] = codes " "
divider _ _ = []

-- what is written before the gap of a stretch
abbrev pub supplied : Written → List ℕ
supplied t = written t.supply ++ divider t.supply t.gap

-- what is written of a stretch
abbrev pub spelled_stretch : Written → List ℕ
spelled_stretch t = supplied t ++ (t.gap ++ shown t.form t.token)

abbrev pub spelled : List Written → List ℕ
spelled ts = flat_map spelled_stretch ts
