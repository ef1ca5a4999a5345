-- What is written between tokens is written again to itself.
use Rattle.std.proofs.Common.{◌≡◌, ℕ, Bool, true, false, cond, ◌&&◌, List, [], ◌∷◌, ◌++◌, sym, refl, ap, ◌∙◌}
use Rattle.std.specs.List.{list_any}
use Rattle.pml_token.specs.declared.token.Kind.{Kind}
use Rattle.pml_token.specs.declared.token.Kind.TheVariants as kind
use Rattle.prepare.specs.declared.roles.TokenRole.{TokenRole}
use Rattle.prepare.specs.declared.roles.TokenRole.TheVariants as as_role
use Rattle.prepare.specs.declared.context.LastToken.{LastToken}
use Rattle.prepare.specs.declared.context.LastToken.TheVariants as state
use Rattle.prepare.specs.declared.context.Code.{Code}
use Rattle.prepare.specs.declared.context.Context.{Context}
use Rattle.prepare.specs.declared.context.Supply.{Supply}
use Rattle.prepare.specs.declared.context.Supply.TheVariants.{Nothing, Separator, Skip}
use Rattle.prepare.specs.Roles.{is_block_word, role, begins}
use Rattle.prepare.specs.Contexts.{code_behind, behind, start, has_statements, skip_before, supply_behind, supply}
use Rattle.prepare.specs.Written.{Written}
use Rattle.prepare.specs.Stretches.{ends_line, stretches}
use Rattle.prepare.specs.Blocks.{is_blanked}
use Rattle.prepare.proofs.Chain.{IsWord, IsStretch, IsLast, Chain, chained}
use Rattle.prepare_laws.specs.Twice.{Piece, role_of, inserted, separated_from, separated, piece, pieces, written, OnceIsTwice, IsWrittenOnce}
use Rattle.prepare_laws.proofs.LineEnds.{blanked_is, given, code_by}

and_none : (b : Bool) → (b && false) ≡ false
and_none true = refl
and_none false = refl

-- the code behind a token behind which a statement may end, or behind which nothing may
abbrev ended : Code → Code
ended c = record c { last = state.Ended }

abbrev halted : Code → Code
halted c = record c { last = state.Open }

-- before `;` and before `skip` nothing is written where no line ends
none_before_semicolon : (l : LastToken) → supply_behind l false as_role.Other ≡ Nothing
none_before_semicolon state.Labelled = refl
none_before_semicolon state.Ended = refl
none_before_semicolon _ = refl

none_before_skip : (l : LastToken) → supply_behind l false as_role.Both ≡ Nothing
none_before_skip state.Labelled = refl
none_before_skip state.Ended = refl
none_before_skip _ = refl

no_separator : (r : TokenRole) → skip_before r ≡ Separator → ⊥
no_separator as_role.Closes e = cc
no_separator as_role.Parts e = cc
no_separator _ e = cc

-- `;` is written behind a token behind which a statement may end
separated_last : (l : LastToken) (b : Bool) (r : TokenRole) → supply_behind l b r ≡ Separator → l ≡ state.Ended
separated_last state.Labelled b r e = absurd (no_separator r e)
separated_last state.Ended b r e = refl
separated_last _ b r e = cc

no_skip : (b : Bool) → cond b Separator Nothing ≡ Skip → ⊥
no_skip true e = cc
no_skip false e = cc

-- `skip` is written before what ends a sequence
skipped_before : (l : LastToken) (b : Bool) (r : TokenRole) → supply_behind l b r ≡ Skip → skip_before r ≡ Skip
skipped_before state.Labelled b r e = e
skipped_before state.Ended b r e = absurd (no_skip b e)
skipped_before _ b r e = cc

-- `;` leads to where the statement before it led
behind_ended : (c : Code) (r : TokenRole) → code_behind (halted c) r ≡ code_behind (ended c) r
behind_ended c as_role.Opens = refl
behind_ended c as_role.Closes = refl
behind_ended c as_role.Enters = refl
behind_ended c as_role.Indexes = refl
behind_ended c as_role.Leaves = refl
behind_ended c as_role.Assigns = refl
behind_ended c as_role.Labels = refl
behind_ended c as_role.Typedef = refl
behind_ended c as_role.For = refl
behind_ended c as_role.Mtype = refl
behind_ended c as_role.Names = refl
behind_ended c as_role.Both = refl
behind_ended c as_role.Ends = refl
behind_ended c _ = refl

is_ended : (c : Code) → c.last ≡ state.Ended → ended c ≡ c
is_ended c e = ap (λ (l : LastToken). record c { last = l }) (sym e)

behind_semicolon : (c : Code) (r : TokenRole) → c.last ≡ state.Ended → code_behind (halted c) r ≡ code_behind c r
behind_semicolon c r e = behind_ended c r ∙ ap (λ (d : Code). code_behind d r) (is_ended c e)

-- behind `skip` nothing is written before what ends a sequence, and that leads to where it led
none_behind_skip : (c : Code) (b : Bool) (r : TokenRole) → skip_before r ≡ Skip → supply (ended c) b r ≡ Nothing
none_behind_skip c b as_role.Closes e = ap (λ (x : Bool). cond x Separator Nothing) (and_none b)
none_behind_skip c b as_role.Parts e = ap (λ (x : Bool). cond x Separator Nothing) (and_none b)
none_behind_skip c b _ e = cc

behind_skip : (c : Code) (r : TokenRole) → skip_before r ≡ Skip → code_behind (ended c) r ≡ code_behind c r
behind_skip c as_role.Closes e = refl
behind_skip c as_role.Parts e = refl
behind_skip c _ e = cc

-- a token before which nothing is written
plainly : (c : Code) (t : Piece) (ts : List Piece) → supply c t.is_over (role_of t.kind) ≡ Nothing
    → separated_from c (t ∷ ts) ≡ t ∷ separated_from (code_behind c (role_of t.kind)) ts
plainly c t ts e = ap (λ (x : Supply). inserted x ++ t ∷ separated_from (code_behind c (role_of t.kind)) ts) e

abbrev Stays : List Piece → Type 0
Stays ts = (c : Code) → separated_from c (separated_from c ts) ≡ separated_from c ts

-- a token with what is written before it stays
stays_by : (x : Supply) (c : Code) (t : Piece) (ts : List Piece) → Stays ts → supply c t.is_over (role_of t.kind) ≡ x
    → separated_from c (inserted x ++ t ∷ separated_from (code_behind c (role_of t.kind)) ts) ≡ inserted x ++ t ∷ separated_from (code_behind c (role_of t.kind)) ts
stays_by Nothing c t ts h e =
    let d = code_behind c (role_of t.kind) in
    plainly c t (separated_from d ts) e ∙ ap (λ (us : List Piece). t ∷ us) (h d)
stays_by Separator c t ts h e =
    let r = role_of t.kind in
    let d = code_behind c r in
    let last : c.last ≡ state.Ended = separated_last c.last (t.is_over && (begins r && has_statements c)) r e in
    plainly c (record { kind = kind.Semicolon; is_over = false }) (t ∷ separated_from d ts) (none_before_semicolon c.last)
    ∙ ap (λ (us : List Piece). record { kind = kind.Semicolon; is_over = false } ∷ us)
    (plainly (halted c) t (separated_from d ts) refl
    ∙ ap (λ (b : Code). t ∷ separated_from b (separated_from d ts)) (behind_semicolon c r last)
    ∙ ap (λ (us : List Piece). t ∷ us) (h d))
stays_by Skip c t ts h e =
    let r = role_of t.kind in
    let d = code_behind c r in
    let skips : skip_before r ≡ Skip = skipped_before c.last (t.is_over && (begins r && has_statements c)) r e in
    plainly c (record { kind = kind.Skip; is_over = false }) (t ∷ separated_from d ts) (none_before_skip c.last)
    ∙ ap (λ (us : List Piece). record { kind = kind.Skip; is_over = false } ∷ us)
    (plainly (ended c) t (separated_from d ts) (none_behind_skip c t.is_over r skips)
    ∙ ap (λ (b : Code). t ∷ separated_from b (separated_from d ts)) (behind_skip c r skips)
    ∙ ap (λ (us : List Piece). t ∷ us) (h d))

stays : (ts : List Piece) → Stays ts
stays [] c = refl
stays (t ∷ ts) c = stays_by (supply c t.is_over (role_of t.kind)) c t ts (stays ts) refl

pub twice : (ts : List Piece) → OnceIsTwice ts
twice ts = stays ts start.code

-- ---- the tokens of a text

-- before a word that is left out nothing is written, whether it is that of a block or another
none_before_word : (l : LastToken) (b : Bool) → supply_behind l (b && false) as_role.Heads ≡ supply_behind l (b && false) as_role.LeftOut
none_before_word state.Labelled b = refl
none_before_word state.Ended b = refl
none_before_word _ b = refl

supply_by : (w : Bool) (c : Code) (b : Bool) (k : Kind) (t : List ℕ) → is_block_word t ≡ w → IsWord k t → supply c b (role k t) ≡ supply c b (role_of k)
supply_by true c b k t e word =
    ap (λ (x : Bool). supply c b (cond x as_role.Heads (role_of k))) e ∙ none_before_word c.last b ∙ ap (λ (x : Kind). supply c b (role_of x)) (sym (word e))
supply_by false c b k t e word = ap (λ (x : Bool). supply c b (cond x as_role.Heads (role_of k))) e

none_at_end : (l : LastToken) (b : Bool) → supply_behind l (b && false) as_role.Other ≡ Nothing
none_at_end state.Labelled b = refl
none_at_end state.Ended b = ap (λ (x : Bool). cond x Separator Nothing) (and_none b)
none_at_end _ b = refl

at_last : (u : Written) (c : Code) → IsLast u → written (u ∷ []) ≡ separated_from c (pieces (u ∷ []))
at_last u c h =
    let none : supply c (list_any ends_line u.gap) (role_of u.kind) ≡ Nothing =
    ap (λ (k : Kind). supply c (list_any ends_line u.gap) (role_of k)) h.sort ∙ none_at_end c.last (list_any ends_line u.gap) in
    ap (λ (b : Bool). cond b [] (inserted u.supply ++ piece u ∷ []) ++ []) h.stays
    ∙ ap (λ (x : Supply). (inserted x ++ piece u ∷ []) ++ []) h.nothing
    ∙ sym (ap (λ (x : Supply). inserted x ++ piece u ∷ []) none)
    ∙ sym (ap (λ (b : Bool). separated_from c (cond b [] (piece u ∷ []) ++ [])) h.stays)

append_more : (xs : List Piece) (x : Piece) (ys : List Piece) → (xs ++ x ∷ []) ++ ys ≡ xs ++ x ∷ ys
append_more [] x ys = refl
append_more (y ∷ xs) x ys = ap (λ (zs : List Piece). y ∷ zs) (append_more xs x ys)

-- a token, with what is known of those behind it
at_token : (b : Bool) (p : Context) (u : Written) (us : List Written) → IsStretch p u → is_blanked u ≡ b
    → written us ≡ separated_from (behind p (role u.kind u.token)).code (pieces us)
    → written (u ∷ us) ≡ separated_from p.code (pieces (u ∷ us))
at_token true p u us h e rest =
    let code : (behind p (role u.kind u.token)).code ≡ p.code =
    ap (λ (x : Bool). cond x p.code (code_behind p.code (role u.kind u.token))) (sym (blanked_is p u h) ∙ e) in
    ap (λ (x : Bool). cond x [] (inserted u.supply ++ piece u ∷ []) ++ written us) e
    ∙ rest
    ∙ ap (λ (c : Code). separated_from c (pieces us)) code
    ∙ sym (ap (λ (x : Bool). separated_from p.code (cond x [] (piece u ∷ []) ++ pieces us)) e)
at_token false p u us h e rest =
    let code : (behind p (role u.kind u.token)).code ≡ code_behind p.code (role_of u.kind) =
    ap (λ (x : Bool). cond x p.code (code_behind p.code (role u.kind u.token))) (sym (blanked_is p u h) ∙ e)
    ∙ code_by (is_block_word u.token) p.code u.kind u.token refl h.word in
    let supplied : u.supply ≡ supply p.code (list_any ends_line u.gap) (role_of u.kind) =
    given p u h ∙ ap (λ (x : Bool). cond x Nothing (supply p.code (list_any ends_line u.gap) (role u.kind u.token))) e
    ∙ supply_by (is_block_word u.token) p.code (list_any ends_line u.gap) u.kind u.token refl h.word in
    ap (λ (x : Bool). cond x [] (inserted u.supply ++ piece u ∷ []) ++ written us) e
    ∙ append_more (inserted u.supply) (piece u) (written us)
    ∙ ap (λ (x : Supply). inserted x ++ piece u ∷ written us) supplied
    ∙ ap (λ (xs : List Piece). inserted (supply p.code (list_any ends_line u.gap) (role_of u.kind)) ++ piece u ∷ xs) (rest ∙ ap (λ (c : Code). separated_from c (pieces us)) code)
    ∙ sym (ap (λ (x : Bool). separated_from p.code (cond x [] (piece u ∷ []) ++ pieces us)) e)

follow : (us : List Written) (p : Context) → Chain p us → written us ≡ separated_from p.code (pieces us)
follow [] p h = absurd h
follow (u ∷ []) p h = at_last u p.code h
follow (u ∷ v ∷ us) p h = at_token (is_blanked u) p u (v ∷ us) h.0 refl (follow (v ∷ us) (behind p (role u.kind u.token)) h.1)

pub written_once : (text : List ℕ) → IsWrittenOnce (stretches text)
written_once text =
    let told = follow (stretches text) start (chained text) in
    record { by_kinds = told; again = ap separated told ∙ twice (pieces (stretches text)) ∙ sym told }
