-- The stretches of a text: its tokens, each with the gap before it and what is written before that.
use Rattle.std.specs.Prelude.{ℕ, zero, suc, ◌+◌, Bool, true, false, ◌||◌, ◌==◌, nat_lt, if◌then◌else◌, List, [], ◌∷◌, ◌++◌, length, take, drop, Option, Some, None}
use Rattle.std.specs.List.{list_any}
use Rattle.profile.specs.Characters.{line_feed, quote, slash, backslash}
use Rattle.prepare.specs.declared.TheConstants.{FORM_FEED}
use Rattle.promela_text.specs.declared.lexeme.Lexeme.{Lexeme}
use Rattle.promela_text.specs.declared.lexeme.Lexeme.TheVariants.{Skipped, Token}
use Rattle.pml_token.specs.declared.token.Kind.{Kind}
use Rattle.pml_token.specs.declared.token.Kind.TheVariants as kind
use Rattle.pml_lex.specs.Scanning.{Found, next}
use Rattle.promela_text.specs.Tokens.{fresh_from}
use Rattle.prepare.specs.declared.roles.TokenRole.{TokenRole}
use Rattle.prepare.specs.declared.roles.TokenRole.TheVariants as as_role
use Rattle.prepare.specs.declared.context.LastToken.{LastToken}
use Rattle.prepare.specs.declared.context.BlankedBlock.{BlankedBlock}
use Rattle.prepare.specs.declared.context.BlankedBlock.TheVariants as block
use Rattle.prepare.specs.declared.context.Context.{Context}
use Rattle.prepare.specs.declared.context.Supply.TheVariants as as_supply
use Rattle.prepare.specs.declared.stretch.StretchForm.{StretchForm}
use Rattle.prepare.specs.declared.stretch.StretchForm.TheVariants as form
use Rattle.prepare.specs.declared.stretch.StretchRemark.{StretchRemark}
use Rattle.prepare.specs.declared.stretch.StretchRemark.TheVariants as remark
use Rattle.prepare.specs.Roles.{role}
use Rattle.prepare.specs.Contexts.{is_assigned, is_blanked, behind, supply, start}
use Rattle.prepare.specs.Written.{Written}

-- a line ends at a line feed, and that of an included file at a form feed
abbrev pub ends_line : ℕ → Bool
ends_line b = b == line_feed || b == FORM_FEED

-- the context behind the closing `"` of a string, which may stand on a later line, where the list begins at context n
unfoldable pub string_end : ℕ → Bool → List ℕ → Option ℕ
string_end n escaped [] = None
string_end n escaped (b ∷ q) =
    if escaped then string_end (n + 1) false q
    else (if b == quote then Some (n + 1)
    else string_end (n + 1) (b == backslash) q)

-- a string over several lines, or all that is left
abbrev pub string_or_rest : ℕ → Option ℕ → ℕ × Lexeme
string_or_rest all None = (all, Token kind.LeftOut)
string_or_rest all (Some n) = (n, Token kind.Quoted)

-- what stands where no lexeme does: a string over several lines, a comment or a string without end, which is all the rest, or a byte
abbrev pub broken : List ℕ → ℕ × Lexeme
broken [] = (0, Skipped)
broken (b ∷ q) =
    if b == quote then string_or_rest (length (b ∷ q)) (string_end 1 false q)
    else (if b == slash then (length (b ∷ q), Token kind.LeftOut)
    else (1, Token kind.LeftOut))

abbrev pub found_or : ℕ × Lexeme → Found → ℕ × Lexeme
found_or other None = other
found_or other (Some x) = x

-- how long the lexeme at the front of a text is, and what it is
unfoldable pub lexeme_at : Bool → List ℕ → ℕ × Lexeme
lexeme_at fresh text = found_or (broken text) (next fresh text)

abbrev pub form_outside : TokenRole → StretchForm
form_outside as_role.Quotes = form.Joined
form_outside _ = form.Kept

-- how a token is written
abbrev pub form_of : BlankedBlock → TokenRole → StretchForm
form_of b r = if is_blanked b r then form.Blanked else form_outside r

abbrev pub head_remark : TokenRole → StretchRemark
head_remark as_role.Heads = remark.BlockBegins
head_remark _ = remark.Nothing

abbrev pub inner_remark : ℕ → TokenRole → StretchRemark
inner_remark n as_role.Closes = if nat_lt 1 n then remark.Nothing else remark.BlockEnds
inner_remark n _ = remark.Nothing

abbrev pub block_remark : BlankedBlock → TokenRole → StretchRemark
block_remark (block.Within n) r = inner_remark n r
block_remark _ r = head_remark r

abbrev pub code_remark : LastToken → TokenRole → StretchRemark
code_remark l as_role.LeftOut = remark.LeftOut
code_remark l as_role.Opens = if is_assigned l then remark.List else remark.Nothing
code_remark l _ = remark.Nothing

-- what is to be said of a token
abbrev pub remark_of : Context → TokenRole → StretchRemark
remark_of p r = if is_blanked p.block r then block_remark p.block r else code_remark p.code.last r

-- a token of this kind behind a gap
unfoldable pub stretch : Context → Kind → List ℕ → List ℕ → Written
stretch p k gap token =
    let r = role k token in
    record {
      supply = if is_blanked p.block r then as_supply.Nothing else supply p.code (list_any ends_line gap) r;
      gap = gap;
      token = token;
      kind = k;
      form = form_of p.block r;
      remark = remark_of p r;
    }

-- what is left behind the last token
abbrev pub last_stretch : List ℕ → Written
last_stretch gap = record { supply = as_supply.Nothing; gap = gap; token = []; kind = kind.End; form = form.Kept; remark = remark.Nothing }

abbrev pub Rest : Type 0
Rest = Bool → Context → List ℕ → List ℕ → List Written

-- what a lexeme of n bytes at the front of a text leads to, where `go` is what the rest does
abbrev pub on_lexeme : ℕ → Lexeme → Bool → Context → List ℕ → List ℕ → Rest → List Written
on_lexeme n Skipped fresh p gap text go = go (fresh_from fresh (take n text)) p (gap ++ take n text) (drop n text)
on_lexeme n (Token k) fresh p gap text go = stretch p k gap (take n text) ∷ go false (behind p (role k (take n text))) [] (drop n text)

-- the stretches of the rest of a text, at most so many lexemes and all that is left: `fresh` says whether its line has only blanks before it,
-- and `gap` is what stands behind the last token
unfoldable pub stretches_by : ℕ → Rest
stretches_by zero fresh p gap text = last_stretch (gap ++ text) ∷ []
stretches_by (suc n) fresh p gap [] = last_stretch gap ∷ []
stretches_by (suc n) fresh p gap (b ∷ q) = let x = lexeme_at fresh (b ∷ q) in on_lexeme x.0 x.1 fresh p gap (b ∷ q) (stretches_by n)

-- the stretches of a text, which has no more lexemes than bytes
abbrev pub stretches : List ℕ → List Written
stretches text = stretches_by (length text) true start [] text
