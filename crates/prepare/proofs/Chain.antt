-- The stretches of a text, each made at the context that the one before leads to; and what a token is to a context, by its kind.
use Rattle.std.proofs.Common.{◌≡◌, ℕ, zero, suc, ◌-◌, ◌<◌, ◌≤◌, Bool, true, false, cond, ◌||◌, List, [], ◌∷◌, ◌++◌, Some, length, take, drop, sym, refl, ap, ◌∙◌, subst, ⊎_elim, length-drop, arith}
use Rattle.std.specs.Prelude.{◌⊎◌}
use Rattle.std.proofs.lemmas.Bool.{false≢true}
use Rattle.promela_text.specs.declared.lexeme.Lexeme.{Lexeme}
use Rattle.promela_text.specs.declared.lexeme.Lexeme.TheVariants.{Skipped, Token}
use Rattle.pml_token.specs.declared.token.Kind.{Kind}
use Rattle.pml_token.specs.declared.token.Kind.TheVariants as kind
use Rattle.pml_token.specs.Word.{same_kind}
use Rattle.promela_text.specs.Tokens.{lexeme, fresh_from}
use Rattle.pml_lex.specs.Scanning.{next}
use Rattle.pml_lex.proofs.Longest.{IsNext}
use Rattle.pml_lex.proofs.Scan.{next_is}
use Rattle.prepare.specs.declared.roles.TokenRole.{TokenRole}
use Rattle.prepare.specs.declared.roles.TokenRole.TheVariants as as_role
use Rattle.prepare.specs.declared.context.Context.{Context}
use Rattle.prepare.specs.declared.context.Supply.TheVariants as supply
use Rattle.prepare.specs.Roles.{is_block_word, is_both, is_ending, declares, acts, asks, bracket, role, begins}
use Rattle.prepare.specs.Contexts.{is_head_word, behind, start}
use Rattle.prepare.specs.Written.{Written}
use Rattle.prepare.specs.Stretches.{stretch, last_stretch, stretches_by, stretches}
use Rattle.prepare.specs.Blocks.{is_blanked}
use Rattle.prepare.specs.Separators.{may_begin, ends_sequence, is_colon, enters, leaves}
use Rattle.prepare.proofs.Turning.{at_lexeme}
use Rattle.prepare.proofs.Needs.{no_word}
use Rattle.prepare.proofs.Again.{AtFront, IsString, IsOdd, front, quote_no_word, lexeme_stretches, lexeme_is}

-- a word of a block is left out of the language
abbrev pub IsWord : Kind → List ℕ → Type 0
IsWord k t = is_block_word t ≡ true → k ≡ kind.LeftOut

-- the stretch of a token at a context
pub record IsStretch (p : Context) (u : Written) : Type 0 where
  pub is : u ≡ stretch p u.kind u.gap u.token
  pub word : IsWord u.kind u.token

pub record IsLast (u : Written) : Type 0 where
  pub nothing : u.supply ≡ supply.Nothing
  pub none : u.token ≡ []
  pub stays : is_blanked u ≡ false
  pub no_word : is_block_word u.token ≡ false
  pub sort : u.kind ≡ kind.End

abbrev pub Chain : Context → List Written → Type 0
Chain p [] = ⊥
Chain p (u ∷ []) = IsLast u
Chain p (u ∷ v ∷ us) = IsStretch p u × Chain (behind p (role u.kind u.token)) (v ∷ us)

left_by : (k : Kind) → same_kind k kind.LeftOut ≡ true → k ≡ kind.LeftOut
left_by kind.LeftOut h = refl
left_by _ h = absurd (false≢true h)

left_or : (k : Kind) (b : Bool) → same_kind k kind.LeftOut ≡ b → (b ≡ false → ⊥) → k ≡ kind.LeftOut
left_or k true e h = left_by k e
left_or k false e h = absurd (h refl)

scanned_word : (f : Bool) (t : List ℕ) (k : Kind) → lexeme f t ≡ Some (Token k) → IsWord k t
scanned_word f t k is h = left_or k (same_kind k kind.LeftOut) refl (λ e. no_word f t k is e h)

link : (p : Context) (k : Kind) (gap t : List ℕ) (us : List Written) → IsWord k t → Chain (behind p (role k t)) us → Chain p (stretch p k gap t ∷ us)
unfolding stretch
link p k gap t [] w h = absurd h
link p k gap t (v ∷ us) w h = (record { is = refl; word = w }, h)

the_last : (p : Context) (gap : List ℕ) → Chain p (last_stretch gap ∷ [])
the_last p gap = record { nothing = refl; none = refl; stays = refl; no_word = refl; sort = refl }

at_end : (fuel : ℕ) (fresh : Bool) (p : Context) (gap : List ℕ) → Chain p (stretches_by fuel fresh p gap [])
unfolding stretches_by
at_end zero fresh p gap = the_last p (gap ++ [])
at_end (suc fuel) fresh p gap = the_last p gap

abbrev Reads : ℕ → Type 0
Reads fuel = (fresh : Bool) (p : Context) (gap rest : List ℕ) → length rest ≤ fuel → Chain p (stretches_by fuel fresh p gap rest)

on_sort : (fuel : ℕ) (x : Lexeme) (fresh : Bool) (p : Context) (gap t back : List ℕ) → Reads fuel → length back ≤ fuel → ((k : Kind) → x ≡ Token k → IsWord k t) → Chain p (lexeme_stretches fuel x fresh p gap t back)
on_sort fuel Skipped fresh p gap t back reads short word = reads (fresh_from fresh t) p (gap ++ t) back short
on_sort fuel (Token k) fresh p gap t back reads short word = link p k gap t (stretches_by fuel false (behind p (role k t)) [] back) (word k refl) (reads false (behind p (role k t)) [] back short)

quoted_word : (n b : ℕ) (r : List ℕ) → b ≡ 34 → 0 < n → (k : Kind) → IsWord k (take n (b ∷ r))
quoted_word zero b r e some k h = absurd (omega arith)
quoted_word (suc n) b r e some k h = absurd (false≢true (sym (quote_no_word (take n r)) ∙ ap (λ (c : ℕ). is_block_word (c ∷ take n r)) (sym e) ∙ h))

kind_is : (x y : Kind) (t : List ℕ) → Token x ≡ Token y → IsWord x t → IsWord y t
kind_is x y t e h = let same : x ≡ y = cc in subst (λ (z : Kind). IsWord z t) same h

front_word : (fresh : Bool) (b : ℕ) (r : List ℕ) (a : AtFront fresh b r) (k : Kind) → a.sort ≡ Token k → IsWord k (take a.size (b ∷ r))
front_word fresh b r a k e =
    ⊎_elim (λ (s : (next fresh (b ∷ r) ≡ Some (a.size, a.sort)) ⊎ IsString b r a.size a.sort).
    ⊎_elim (λ (h : next fresh (b ∷ r) ≡ Some (a.size, a.sort)).
    let n = subst (IsNext fresh (b ∷ r)) h (next_is fresh (b ∷ r) (omega arith)) in
    scanned_word fresh (take a.size (b ∷ r)) k (n.spells ∙ ap Some e))
    (λ (h : IsString b r a.size a.sort). quoted_word a.size b r h.1 a.begins.some k) s)
    (λ (h : IsOdd b a.sort). kind_is kind.LeftOut k (take a.size (b ∷ r)) (sym h.0 ∙ e) (λ w. refl)) a.is

read : (fuel : ℕ) → Reads fuel
read fuel fresh p gap [] short = at_end fuel fresh p gap
read zero fresh p gap (b ∷ r) short = absurd (omega arith)
read (suc fuel) fresh p gap (b ∷ r) short =
    let a = front fresh b r in
    let some : 0 < a.size = a.begins.some in
    let within : a.size ≤ length (b ∷ r) = a.begins.within in
    let gone : length (drop a.size (b ∷ r)) ≡ length (b ∷ r) - a.size = length-drop a.size (b ∷ r) in
    let same : stretches_by (suc fuel) fresh p gap (b ∷ r) ≡ lexeme_stretches fuel a.sort fresh p gap (take a.size (b ∷ r)) (drop a.size (b ∷ r)) =
    at_lexeme fuel fresh p gap (b ∷ r) a.size a.sort some within a.begins.found ∙ lexeme_is fuel a.size a.sort fresh p gap (b ∷ r) in
    subst (Chain p) (sym same) (on_sort fuel a.sort fresh p gap (take a.size (b ∷ r)) (drop a.size (b ∷ r)) (read fuel) (omega arith) (front_word fresh b r a))

-- the stretches of a text follow one another
pub chained : (text : List ℕ) → Chain start (stretches text)
chained text = read (length text) true start [] text (omega arith)

-- the role of a token that is no word of a block
abbrev pub plain : Kind → TokenRole
plain x = cond (is_both x) as_role.Both (cond (is_ending x) as_role.Ends (cond (declares x || (acts x || asks x)) as_role.Begins (bracket x)))

role_by : (b : Bool) (f : TokenRole → Bool) (g : Kind → Bool) (k : Kind) (t : List ℕ) → is_block_word t ≡ b → IsWord k t → f as_role.Heads ≡ g kind.LeftOut → f (plain k) ≡ g k → f (role k t) ≡ g k
role_by true f g k t e word heads plains = ap (λ (x : Bool). f (cond x as_role.Heads (plain k))) e ∙ heads ∙ ap g (sym (word e))
role_by false f g k t e word heads plains = ap (λ (x : Bool). f (cond x as_role.Heads (plain k))) e ∙ plains

-- what a role is, by the kind of its token
pub by_kind : (f : TokenRole → Bool) (g : Kind → Bool) (k : Kind) (t : List ℕ) → IsWord k t → f as_role.Heads ≡ g kind.LeftOut → f (plain k) ≡ g k → f (role k t) ≡ g k
by_kind f g k t word heads plains = role_by (is_block_word t) f g k t refl word heads plains

abbrev pub opens_role : TokenRole → Bool
opens_role as_role.Opens = true
opens_role _ = false

abbrev pub closes_role : TokenRole → Bool
closes_role as_role.Closes = true
closes_role _ = false

abbrev pub names_role : TokenRole → Bool
names_role as_role.Names = true
names_role _ = false

abbrev pub enters_role : TokenRole → Bool
enters_role as_role.Enters = true
enters_role as_role.Indexes = true
enters_role _ = false

abbrev pub leaves_role : TokenRole → Bool
leaves_role as_role.Leaves = true
leaves_role _ = false

abbrev pub labels_role : TokenRole → Bool
labels_role as_role.Labels = true
labels_role _ = false

abbrev pub ends_role : TokenRole → Bool
ends_role as_role.Closes = true
ends_role as_role.Leaves = true
ends_role as_role.Names = true
ends_role as_role.Both = true
ends_role as_role.Ends = true
ends_role _ = false

abbrev pub closing_role : TokenRole → Bool
closing_role as_role.Closes = true
closing_role as_role.Parts = true
closing_role _ = false

opens_plain : (k : Kind) → opens_role (plain k) ≡ same_kind k kind.OpenBrace
opens_plain kind.Name = refl
opens_plain _ = refl

closes_plain : (k : Kind) → closes_role (plain k) ≡ same_kind k kind.CloseBrace
closes_plain kind.Name = refl
closes_plain _ = refl

names_plain : (k : Kind) → names_role (plain k) ≡ same_kind k kind.Name
names_plain kind.Name = refl
names_plain _ = refl

enters_plain : (k : Kind) → enters_role (plain k) ≡ enters k
enters_plain kind.Name = refl
enters_plain _ = refl

leaves_plain : (k : Kind) → leaves_role (plain k) ≡ leaves k
leaves_plain kind.Name = refl
leaves_plain _ = refl

labels_plain : (k : Kind) → labels_role (plain k) ≡ is_colon k
labels_plain kind.Name = refl
labels_plain _ = refl

closing_plain : (k : Kind) → closing_role (plain k) ≡ ends_sequence k
closing_plain kind.Name = refl
closing_plain _ = refl

begins_plain : (k : Kind) → begins (plain k) ≡ may_begin k
begins_plain kind.Name = refl
begins_plain _ = refl

heads_plain : (k : Kind) → is_head_word (plain k) ≡ false
heads_plain kind.Name = refl
heads_plain _ = refl

heads_by : (b : Bool) (k : Kind) → is_head_word (cond b as_role.Heads (plain k)) ≡ b
heads_by true k = refl
heads_by false k = heads_plain k

pub heads_is : (k : Kind) (t : List ℕ) → is_head_word (role k t) ≡ is_block_word t
heads_is k t = heads_by (is_block_word t) k

pub opens_is : (k : Kind) (t : List ℕ) → IsWord k t → opens_role (role k t) ≡ same_kind k kind.OpenBrace
opens_is k t w = by_kind opens_role (λ x. same_kind x kind.OpenBrace) k t w refl (opens_plain k)

pub closes_is : (k : Kind) (t : List ℕ) → IsWord k t → closes_role (role k t) ≡ same_kind k kind.CloseBrace
closes_is k t w = by_kind closes_role (λ x. same_kind x kind.CloseBrace) k t w refl (closes_plain k)

pub names_is : (k : Kind) (t : List ℕ) → IsWord k t → names_role (role k t) ≡ same_kind k kind.Name
names_is k t w = by_kind names_role (λ x. same_kind x kind.Name) k t w refl (names_plain k)

pub enters_is : (k : Kind) (t : List ℕ) → IsWord k t → enters_role (role k t) ≡ enters k
enters_is k t w = by_kind enters_role enters k t w refl (enters_plain k)

pub leaves_is : (k : Kind) (t : List ℕ) → IsWord k t → leaves_role (role k t) ≡ leaves k
leaves_is k t w = by_kind leaves_role leaves k t w refl (leaves_plain k)

pub labels_is : (k : Kind) (t : List ℕ) → IsWord k t → labels_role (role k t) ≡ is_colon k
labels_is k t w = by_kind labels_role is_colon k t w refl (labels_plain k)

pub closing_is : (k : Kind) (t : List ℕ) → IsWord k t → closing_role (role k t) ≡ ends_sequence k
closing_is k t w = by_kind closing_role ends_sequence k t w refl (closing_plain k)

pub begins_is : (k : Kind) (t : List ℕ) → IsWord k t → begins (role k t) ≡ may_begin k
begins_is k t w = by_kind begins may_begin k t w refl (begins_plain k)
