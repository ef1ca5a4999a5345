-- What becomes of the tokens is the text, records alone change, and a text without records stays.
use Rattle.std.specs.Prelude.{nat_lt, ◌-◌, ◌==◌, ⊤}
use Rattle.std.proofs.Common.{◌≡◌, ℕ, Bool, true, false, not, cond, ◌&&◌, List, [], ◌∷◌, ◌++◌, refl, ap, ◌∙◌, All, arith}
use Rattle.std.proofs.lemmas.Bool.{false≢true}
use Rattle.std.proofs.lemmas.List.Elements.{All-cons}
use Rattle.pml_token.specs.declared.token.Kind.{Kind}
use Rattle.pml_token.specs.declared.token.Kind.TheVariants as kind
use Rattle.pml_token.specs.Word.{same_kind}
use Rattle.prepare.specs.Contexts.{start}
use Rattle.prepare.specs.Written.{Written}
use Rattle.prepare.specs.Stretches.{stretches}
use Rattle.prepare.specs.Laws.{source, sources}
use Rattle.prepare.proofs.Plain.{sources_are}
use Rattle.record_messages.specs.declared.place.MessagePlace.{MessagePlace}
use Rattle.record_messages.specs.declared.place.MessagePlace.TheVariants as place
use Rattle.record_messages.specs.declared.changes.TheConstants.{MOST_LOOPS}
use Rattle.record_messages.specs.declared.changes.MessageChange.{MessageChange}
use Rattle.record_messages.specs.declared.changes.MessageChange.TheVariants as change
use Rattle.record_messages.specs.Member.{Member}
use Rattle.record_messages.specs.Members.{is_empty, is_record}
use Rattle.record_messages.specs.DeclaredName.{DeclaredName}
use Rattle.record_messages.specs.Variables.{record_of}
use Rattle.record_messages.specs.Places as places
use Rattle.record_messages.specs.Places.{behind}
use Rattle.record_messages.specs.MessageToken.{Loop}
use Rattle.record_messages.specs.Changes.{goes_over, ends_head, opens_loop, is_loop, is_alone, change_at, change_or_loop, loop_behind, changes_by, changes}
use Rattle.record_messages.specs.Writing.{shown_by, written}
use Rattle.record_messages.specs.Laws.{owns, IsOwn}

abbrev first_loop : ℕ → Loop
first_loop n = record { number = n; name = []; channel = []; index = [] }

-- ---- nothing is left out

owns_are : (ms : List Member) (vs : List DeclaredName) (p : MessagePlace) (last : Kind) (l : Loop) (ts : List Written) → owns (changes_by ms vs p last l ts) ≡ sources ts
owns_are ms vs p last l [] = refl
owns_are ms vs p last l (t ∷ ts) =
    let b = is_loop vs l.number last t.kind ts in
    ap (λ (xs : List ℕ). source t ++ xs) (owns_are ms vs (behind p b t.kind) t.kind (loop_behind b l ts) ts)

pub owns_text : (ms : List Member) (vs : List DeclaredName) (n : ℕ) (text : List ℕ) → owns (changes ms vs n (stretches text)) ≡ text
owns_text ms vs n text = owns_are ms vs place.Outside kind.End (first_loop n) (stretches text) ∙ sources_are _ true start [] text

-- ---- what changes

not_true : (b : Bool) → not b ≡ true → b ≡ false
not_true true h = absurd (false≢true h)
not_true false h = refl

and_left : (a b : Bool) → (a && b) ≡ true → a ≡ true
and_left true b h = refl
and_left false b h = h

and_right : (a b : Bool) → (a && b) ≡ true → b ≡ true
and_right true b h = h
and_right false b h = absurd (false≢true h)

by_types : (b : Bool) → cond b change.Types change.Kept ≡ change.Types → b ≡ true
by_types true e = refl
by_types false e = cc

no_fields : (b : Bool) → cond b change.Types change.Kept ≡ change.Fields → ⊥
no_fields true e = cc
no_fields false e = cc

by_fields : (b : Bool) → cond b change.Fields change.Kept ≡ change.Fields → b ≡ true
by_fields true e = refl
by_fields false e = cc

no_types : (b : Bool) → cond b change.Fields change.Kept ≡ change.Types → ⊥
no_types true e = cc
no_types false e = cc

no_end : (x : MessageChange) (b : Bool) → (change.Ended ≡ x → ⊥) → (change.Kept ≡ x → ⊥) → cond b change.Ended change.Kept ≡ x → ⊥
no_end x true f g e = f e
no_end x false f g e = g e

no_either : (one : MessageChange) (b : Bool) → (one ≡ change.Declared → ⊥) → (change.Kept ≡ change.Declared → ⊥) → cond b one change.Kept ≡ change.Declared → ⊥
no_either one true f g e = f e
no_either one false f g e = g e

typedef_is : (ms : List Member) (vs : List DeclaredName) (p : MessagePlace) (last : Kind) (t : Written) (ts : List Written) → change_at ms vs p last t ts ≡ change.Types → is_record ms t.token ≡ true
typedef_is ms vs (place.Sent n) last t ts e = absurd (no_types _ e)
typedef_is ms vs place.Types last t ts e = and_right (same_kind t.kind kind.Name) (is_record ms t.token) (by_types _ e)
typedef_is ms vs place.Over last t ts e = absurd (no_end change.Types (same_kind t.kind kind.CloseParen) (λ f. cc) (λ f. cc) e)
typedef_is ms vs _ last t ts e = cc

variable_is : (ms : List Member) (vs : List DeclaredName) (p : MessagePlace) (last : Kind) (t : Written) (ts : List Written) → change_at ms vs p last t ts ≡ change.Fields → is_empty (record_of vs t.token) ≡ false
variable_is ms vs (place.Sent n) last t ts e =
    not_true (is_empty (record_of vs t.token))
    (and_right (is_alone last ts) (not (is_empty (record_of vs t.token))) (and_right (same_kind t.kind kind.Name) (is_alone last ts && not (is_empty (record_of vs t.token))) (by_fields _ e)))
variable_is ms vs place.Types last t ts e = absurd (no_fields _ e)
variable_is ms vs place.Over last t ts e = absurd (no_end change.Fields (same_kind t.kind kind.CloseParen) (λ f. cc) (λ f. cc) e)
variable_is ms vs _ last t ts e = cc

none_declared : (ms : List Member) (vs : List DeclaredName) (p : MessagePlace) (last : Kind) (t : Written) (ts : List Written) → change_at ms vs p last t ts ≡ change.Declared → ⊥
none_declared ms vs (place.Sent n) last t ts e = no_either change.Fields _ (λ f. cc) (λ f. cc) e
none_declared ms vs place.Types last t ts e = no_either change.Types _ (λ f. cc) (λ f. cc) e
none_declared ms vs place.Over last t ts e = no_end change.Declared (same_kind t.kind kind.CloseParen) (λ f. cc) (λ f. cc) e
none_declared ms vs _ last t ts e = cc

is_for : (k : Kind) → same_kind k kind.For ≡ true → k ≡ kind.For
is_for kind.For h = refl
is_for _ h = absurd (false≢true h)

typedef_by : (b : Bool) (x : MessageChange) (r : Bool) → (x ≡ change.Types → r ≡ true) → change_or_loop b x ≡ change.Types → r ≡ true
typedef_by true x r h e = cc
typedef_by false x r h e = h e

variable_by : (b : Bool) (x : MessageChange) (r : Bool) → (x ≡ change.Fields → r ≡ false) → change_or_loop b x ≡ change.Fields → r ≡ false
variable_by true x r h e = cc
variable_by false x r h e = h e

loop_by : (b : Bool) (x : MessageChange) → (x ≡ change.Declared → ⊥) → change_or_loop b x ≡ change.Declared → b ≡ true
loop_by true x h e = refl
loop_by false x h e = absurd (h e)

all_own : (ms : List Member) (vs : List DeclaredName) (p : MessagePlace) (last : Kind) (l : Loop) (ts : List Written) → All (IsOwn ms vs) (changes_by ms vs p last l ts)
all_own ms vs p last l [] = λ k d lt. absurd (omega arith)
all_own ms vs p last l (t ∷ ts) =
    let b = is_loop vs l.number last t.kind ts in
    let x = change_at ms vs p last t ts in
    All-cons (IsOwn ms vs) _ (changes_by ms vs (behind p b t.kind) t.kind (loop_behind b l ts) ts)
    (record {
      typedef = typedef_by b x (is_record ms t.token) (typedef_is ms vs p last t ts);
      variable = variable_by b x (is_empty (record_of vs t.token)) (variable_is ms vs p last t ts);
      loop = λ e. is_for t.kind (and_left (same_kind t.kind kind.For) (not (same_kind last kind.Colon)) (and_left (same_kind t.kind kind.For && not (same_kind last kind.Colon)) _ (loop_by b x (none_declared ms vs p last t ts) e)));
    })
    (all_own ms vs (behind p b t.kind) t.kind (loop_behind b l ts) ts)

pub records_alone : (ms : List Member) (vs : List DeclaredName) (n : ℕ) (ts : List Written) → All (IsOwn ms vs) (changes ms vs n ts)
records_alone ms vs n ts = all_own ms vs place.Outside kind.End (first_loop n) ts

-- ---- a text without records

-- places at which no loop over messages stands
abbrev IsQuiet : MessagePlace → Type 0
IsQuiet place.Outside = ⊤
IsQuiet (place.Sent n) = ⊤
IsQuiet place.Listed = ⊤
IsQuiet place.Types = ⊤
IsQuiet _ = ⊥

and_none : (b : Bool) → (b && false) ≡ false
and_none true = refl
and_none false = refl

none_opens : (a b c : Bool) → ((a && (b && false)) && c) ≡ false
none_opens true true c = refl
none_opens true false c = refl
none_opens false b c = refl

no_loop_opens : (ts : List Written) → opens_loop [] ts ≡ false
no_loop_opens [] = refl
no_loop_opens (o ∷ []) = refl
no_loop_opens (o ∷ v ∷ []) = refl
no_loop_opens (o ∷ v ∷ i ∷ []) = refl
no_loop_opens (o ∷ v ∷ i ∷ c ∷ ts) =
    none_opens (same_kind o.kind kind.OpenParen) (same_kind v.kind kind.Name) (goes_over i c && ends_head ts)

begun_quiet : (k : Kind) → IsQuiet (places.begun k)
begun_quiet kind.Of = _
begun_quiet kind.Bang = _
begun_quiet kind.BangBang = _
begun_quiet kind.Query = _
begun_quiet kind.QueryQuery = _
begun_quiet _ = _

no_loop : (n : ℕ) (last k : Kind) (ts : List Written) → is_loop [] n last k ts ≡ false
no_loop n last k ts =
    let a = same_kind k kind.For && not (same_kind last kind.Colon) in
    ap (λ (b : Bool). a && (nat_lt n MOST_LOOPS && b)) (no_loop_opens ts) ∙ ap (λ (b : Bool). a && b) (and_none (nat_lt n MOST_LOOPS)) ∙ and_none a

either_quiet : (b : Bool) (p q : MessagePlace) → IsQuiet p → IsQuiet q → IsQuiet (cond b p q)
either_quiet true p q h g = h
either_quiet false p q h g = g

sent_quiet : (n : ℕ) (k : Kind) → IsQuiet (places.sent_behind n k)
sent_quiet n kind.OpenParen = _
sent_quiet n kind.OpenBracket = _
sent_quiet n kind.CloseParen = either_quiet (n == 0) place.Outside (place.Sent (n - 1)) _ _
sent_quiet n kind.CloseBracket = either_quiet (n == 0) place.Outside (place.Sent (n - 1)) _ _
sent_quiet n kind.Arrow = either_quiet (n == 0) place.Outside (place.Sent n) _ _
sent_quiet n kind.Semicolon = _
sent_quiet n kind.DoubleColon = _
sent_quiet n kind.OpenBrace = _
sent_quiet n kind.CloseBrace = _
sent_quiet n kind.Fi = _
sent_quiet n kind.Od = _
sent_quiet n _ = _

quiet_behind : (p : MessagePlace) (k : Kind) → IsQuiet p → IsQuiet (places.behind_other p k)
quiet_behind place.Outside k h = begun_quiet k
quiet_behind (place.Sent n) k h = sent_quiet n k
quiet_behind place.Listed k h = either_quiet (same_kind k kind.OpenBrace) place.Types (places.begun k) _ (begun_quiet k)
quiet_behind place.Types k h = either_quiet (same_kind k kind.CloseBrace) place.Outside place.Types _ _
quiet_behind _ k h = absurd h

kept_at : (p : MessagePlace) (last : Kind) (t : Written) (ts : List Written) → IsQuiet p → change_at [] [] p last t ts ≡ change.Kept
kept_at place.Outside last t ts h = refl
kept_at (place.Sent n) last t ts h =
    ap (λ (b : Bool). cond (same_kind t.kind kind.Name && b) change.Fields change.Kept) (and_none (is_alone last ts))
    ∙ ap (λ (b : Bool). cond b change.Fields change.Kept) (and_none (same_kind t.kind kind.Name))
kept_at place.Listed last t ts h = refl
kept_at place.Types last t ts h = ap (λ (b : Bool). cond b change.Types change.Kept) (and_none (same_kind t.kind kind.Name))
kept_at _ last t ts h = absurd h

-- what is written from a token on, by whether a loop begins there and what becomes of it
abbrev next : List ℕ → MessagePlace → Loop → Written → List Written → Bool → MessageChange → List ℕ
next joint p l t ts b x =
    (t.gap ++ shown_by [] [] joint (loop_behind b l ts) (change_or_loop b x) t.token)
    ++ written [] [] joint (changes_by [] [] (behind p b t.kind) t.kind (loop_behind b l ts) ts)

same : (joint : List ℕ) (p : MessagePlace) (last : Kind) (l : Loop) (ts : List Written) → IsQuiet p → written [] [] joint (changes_by [] [] p last l ts) ≡ sources ts
same joint p last l [] h = refl
same joint p last l (t ∷ ts) h =
    ap (λ (b : Bool). next joint p l t ts b (change_at [] [] p last t ts)) (no_loop l.number last t.kind ts)
    ∙ ap (λ (x : MessageChange). next joint p l t ts false x) (kept_at p last t ts h)
    ∙ ap (λ (xs : List ℕ). source t ++ xs) (same joint (places.behind_other p t.kind) t.kind l ts (quiet_behind p t.kind h))

pub same_text : (joint : List ℕ) (n : ℕ) (text : List ℕ) → written [] [] joint (changes [] [] n (stretches text)) ≡ text
same_text joint n text = same joint place.Outside kind.End (first_loop n) (stretches text) _ ∙ sources_are _ true start [] text
