-- Blanks are blocks: each begins with one of the four words.
use Rattle.std.proofs.Common.{◌≡◌, ℕ, Bool, true, false, cond, ◌||◌, List, sym, refl, ◌∙◌}
use Rattle.pml_token.specs.declared.token.Kind.{Kind}
use Rattle.pml_token.specs.declared.token.Kind.TheVariants as kind
use Rattle.prepare.specs.declared.roles.TokenRole.{TokenRole}
use Rattle.prepare.specs.declared.roles.TokenRole.TheVariants as as_role
use Rattle.prepare.specs.declared.context.BlankedBlock.{BlankedBlock}
use Rattle.prepare.specs.declared.stretch.StretchForm.TheVariants as form
use Rattle.prepare.specs.Roles.{is_block_word, is_both, is_ending, declares, acts, asks, bracket, role}
use Rattle.prepare.specs.Contexts.{is_head_word, is_blanked}
use Rattle.prepare.specs.Stretches.{form_of, form_outside}
use Rattle.prepare.specs.Blocks.{is_blank_form}

no_head : (x : Kind) → is_head_word (bracket x) ≡ false
no_head kind.OpenBrace = refl
no_head kind.CloseBrace = refl
no_head kind.OpenParen = refl
no_head kind.OpenBracket = refl
no_head kind.CloseParen = refl
no_head kind.CloseBracket = refl
no_head kind.Colon = refl
no_head kind.Assign = refl
no_head kind.DoubleColon = refl
no_head kind.Fi = refl
no_head kind.Od = refl
no_head kind.Typedef = refl
no_head kind.For = refl
no_head kind.Mtype = refl
no_head kind.Quoted = refl
no_head kind.Name = refl
no_head kind.LeftOut = refl
no_head _ = refl

word_by : (t a b d : Bool) (x : Kind) → is_head_word (cond t as_role.Heads (cond a as_role.Both (cond b as_role.Ends (cond d as_role.Begins (bracket x))))) ≡ true → t ≡ true
word_by true a b d x h = refl
word_by false true b d x h = h
word_by false false true d x h = h
word_by false false false true x h = h
word_by false false false false x h = sym (no_head x) ∙ h

-- a token that heads a block is one of the four words
pub head_is_word : (x : Kind) (t : List ℕ) → is_head_word (role x t) ≡ true → is_block_word t ≡ true
head_is_word x t h = word_by (is_block_word t) (is_both x) (is_ending x) (declares x || (acts x || asks x)) x h

pub outside_kept : (r : TokenRole) → is_blank_form (form_outside r) ≡ false
outside_kept as_role.Quotes = refl
outside_kept _ = refl

blank_by : (t : Bool) (r : TokenRole) → is_blank_form (cond t form.Blanked (form_outside r)) ≡ t
blank_by true r = refl
blank_by false r = outside_kept r

pub blank_is : (b : BlankedBlock) (r : TokenRole) → is_blank_form (form_of b r) ≡ is_blanked b r
blank_is b r = blank_by (is_blanked b r) r
