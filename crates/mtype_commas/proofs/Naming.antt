-- Commas change exactly among the names of an `mtype`.
use Rattle.std.proofs.Common.{◌≡◌, Bool, true, false, cond, ◌&&◌, ◌||◌, List, [], ◌∷◌, ◌++◌, sym, refl, ap, ◌∙◌, subst, fold, inl, inr, ⊎_elim}
use Rattle.std.specs.Prelude.{◌⊎◌}
use Rattle.std.specs.List.{list_any}
use Rattle.std.proofs.lemmas.Bool.{false≢true}
use Rattle.pml_token.specs.declared.token.Kind.{Kind}
use Rattle.pml_token.specs.declared.token.Kind.TheVariants as kind
use Rattle.pml_token.specs.Word.{same_kind}
use Rattle.prepare.specs.Written.{Written}
use Rattle.mtype_commas.specs.declared.place.MtypePlace.{MtypePlace}
use Rattle.mtype_commas.specs.declared.place.MtypePlace.TheVariants as place
use Rattle.mtype_commas.specs.declared.changes.CommaChange.TheVariants as change
use Rattle.prepare.specs.Changed.{Changed, changed}
use Rattle.mtype_commas.specs.declared.changes.CommaChange.{CommaChange}
use Rattle.mtype_commas.specs.Places.{behind}
use Rattle.mtype_commas.specs.Changes as changes
use Rattle.mtype_commas.specs.Changes.{change_at, changes_by}
use Rattle.mtype_commas.specs.Names.{kinds_behind, is_type, is_assigned, is_name, ends, BeginsNames, AmongNames, is_spare, Exact, CommasAreExact}
use Rattle.mtype_commas.proofs.Punctuating.{is_comma, is_name as name_is, blanked_by, parted_by}

cons_head : (k x : Kind) (ks xs : List Kind) → k ∷ ks ≡ x ∷ xs → k ≡ x
cons_head k x ks xs e = cc

cons_tail : (k x : Kind) (ks xs : List Kind) → k ∷ ks ≡ x ∷ xs → ks ≡ xs
cons_tail k x ks xs e = cc

or_none : (a b : Bool) → a ≡ false → b ≡ false → (a || b) ≡ false
or_none true b h g = h
or_none false b h g = g

or_left : (a b : Bool) → (a || b) ≡ false → a ≡ false
or_left true b h = h
or_left false b h = refl

or_right : (a b : Bool) → (a || b) ≡ false → b ≡ false
or_right true b h = absurd (false≢true (sym h))
or_right false b h = h

more : (k : Kind) (ks : List Kind) → ends k ≡ false → AmongNames ks → AmongNames (k ∷ ks)
more k ks e s =
    record {
      inside = k ∷ s.inside;
      before = s.before;
      splits = ap (λ (xs : List Kind). k ∷ xs) s.splits;
      begun = s.begun;
      goes_on = or_none (ends k) (list_any ends s.inside) e s.goes_on;
    }

-- behind a token: they began there, or before and no `}` ends them
less_by : (k : Kind) (ks inside before : List Kind) → k ∷ ks ≡ inside ++ before → BeginsNames before → list_any ends inside ≡ false → BeginsNames (k ∷ ks) ⊎ (AmongNames ks × (ends k ≡ false))
less_by k ks [] before e b g = inl (subst BeginsNames (sym e) b)
less_by k ks (x ∷ inside) before e b g =
    let same : k ≡ x = cons_head k x ks (inside ++ before) e in
    inr (
      record { inside = inside; before = before; splits = cons_tail k x ks (inside ++ before) e; begun = b; goes_on = or_right (ends x) (list_any ends inside) g },
      ap ends same ∙ or_left (ends x) (list_any ends inside) g,
    )

less : (k : Kind) (ks : List Kind) → AmongNames (k ∷ ks) → BeginsNames (k ∷ ks) ⊎ (AmongNames ks × (ends k ≡ false))
less k ks s = less_by k ks s.inside s.before s.splits s.begun s.goes_on

none_among_by : (inside before : List Kind) → [] ≡ inside ++ before → BeginsNames before → ⊥
none_among_by [] before e b = subst BeginsNames (sym e) b
none_among_by (x ∷ inside) before e b = cc

-- whether the last token is the colon of a subtype
abbrev is_subtype : List Kind → Bool
is_subtype (kind.Colon ∷ ks) = is_type ks
is_subtype _ = false

-- what is known outside of names
record Known (t s a : Bool) (ks : List Kind) : Type 0 where
  outside : AmongNames ks → ⊥
  typed : is_type ks ≡ t
  subtyped : is_subtype ks ≡ s
  assigned : is_assigned ks ≡ a

record Inside (b : Bool) (ks : List Kind) : Type 0 where
  among : AmongNames ks
  named : b ≡ is_name ks

abbrev Knows : MtypePlace → List Kind → Type 0
Knows place.Outside ks = Known false false false ks
Knows place.Typed ks = Known true false false ks
Knows place.Subtyped ks = Known false true false ks
Knows place.Assigned ks = Known false false true ks
Knows (place.Within b) ks = Inside b ks

name_type : (ks : List Kind) → is_type (kind.Name ∷ ks) ≡ is_subtype ks
name_type [] = refl
name_type (kind.Colon ∷ ks) = refl
name_type (_ ∷ ks) = refl

still_outside : {t s a : Bool} (k : Kind) (ks : List Kind) → Known t s a ks → (BeginsNames (k ∷ ks) → ⊥) → AmongNames (k ∷ ks) → ⊥
still_outside {t} {s} {a} k ks w none m = ⊎_elim (λ (b : BeginsNames (k ∷ ks)). none b) (λ (r : AmongNames ks × (ends k ≡ false)). w.outside r.0) (less k ks m)

-- behind a token that is no part of a type
other : {t s a : Bool} (k : Kind) (ks : List Kind) → Known t s a ks → (BeginsNames (k ∷ ks) → ⊥) → is_type (k ∷ ks) ≡ false → is_subtype (k ∷ ks) ≡ false → is_assigned (k ∷ ks) ≡ false → Known false false false (k ∷ ks)
other {t} {s} {a} k ks w none e f g = record { outside = still_outside k ks w none; typed = e; subtyped = f; assigned = g }

no_list : (s : Bool) (ks : List Kind) → Known false s false ks → BeginsNames (kind.OpenBrace ∷ ks) → ⊥
no_list s ks w b = false≢true (sym (or_none (is_assigned ks) (is_type ks) w.assigned w.typed) ∙ b)

behind_mtype : {t s a : Bool} (ks : List Kind) → Known t s a ks → Known true false false (kind.Mtype ∷ ks)
behind_mtype {t} {s} {a} ks w = record { outside = still_outside kind.Mtype ks w (λ b. b); typed = refl; subtyped = refl; assigned = refl }

behind_outside : (k : Kind) (ks : List Kind) → Known false false false ks → Knows (behind place.Outside k) (k ∷ ks)
behind_outside kind.Mtype ks w = behind_mtype ks w
behind_outside kind.Name ks w = other kind.Name ks w (λ b. b) (name_type ks ∙ w.subtyped) refl refl
behind_outside kind.Colon ks w = other kind.Colon ks w (λ b. b) refl w.typed refl
behind_outside kind.Assign ks w = other kind.Assign ks w (λ b. b) refl refl w.typed
behind_outside kind.OpenBrace ks w = other kind.OpenBrace ks w (no_list false ks w) refl refl refl
behind_outside k ks w = other k ks w (λ b. b) refl refl refl

or_first : (a b : Bool) → a ≡ true → (a || b) ≡ true
or_first true b h = refl
or_first false b h = absurd (false≢true h)

or_second : (a b : Bool) → b ≡ true → (a || b) ≡ true
or_second true b h = refl
or_second false b h = h

begin : (ks : List Kind) → (is_assigned ks || is_type ks) ≡ true → AmongNames (kind.OpenBrace ∷ ks)
begin ks e = record { inside = []; before = kind.OpenBrace ∷ ks; splits = refl; begun = e; goes_on = refl }

behind_typed : (k : Kind) (ks : List Kind) → Known true false false ks → Knows (behind place.Typed k) (k ∷ ks)
behind_typed kind.Mtype ks w = behind_mtype ks w
behind_typed kind.Name ks w = other kind.Name ks w (λ b. b) (name_type ks ∙ w.subtyped) refl refl
behind_typed kind.Colon ks w = record { outside = still_outside kind.Colon ks w (λ b. b); typed = refl; subtyped = w.typed; assigned = refl }
behind_typed kind.Assign ks w = record { outside = still_outside kind.Assign ks w (λ b. b); typed = refl; subtyped = refl; assigned = w.typed }
behind_typed kind.OpenBrace ks w = record { among = begin ks (or_second (is_assigned ks) (is_type ks) w.typed); named = refl }
behind_typed k ks w = other k ks w (λ b. b) refl refl refl

behind_subtyped : (k : Kind) (ks : List Kind) → Known false true false ks → Knows (behind place.Subtyped k) (k ∷ ks)
behind_subtyped kind.Mtype ks w = behind_mtype ks w
behind_subtyped kind.Name ks w = record { outside = still_outside kind.Name ks w (λ b. b); typed = name_type ks ∙ w.subtyped; subtyped = refl; assigned = refl }
behind_subtyped kind.Colon ks w = other kind.Colon ks w (λ b. b) refl w.typed refl
behind_subtyped kind.Assign ks w = other kind.Assign ks w (λ b. b) refl refl w.typed
behind_subtyped kind.OpenBrace ks w = other kind.OpenBrace ks w (no_list true ks w) refl refl refl
behind_subtyped k ks w = other k ks w (λ b. b) refl refl refl

behind_assigned : (k : Kind) (ks : List Kind) → Known false false true ks → Knows (behind place.Assigned k) (k ∷ ks)
behind_assigned kind.Mtype ks w = behind_mtype ks w
behind_assigned kind.Name ks w = other kind.Name ks w (λ b. b) (name_type ks ∙ w.subtyped) refl refl
behind_assigned kind.Colon ks w = other kind.Colon ks w (λ b. b) refl w.typed refl
behind_assigned kind.Assign ks w = other kind.Assign ks w (λ b. b) refl refl w.typed
behind_assigned kind.OpenBrace ks w = record { among = begin ks (or_first (is_assigned ks) (is_type ks) w.assigned); named = refl }
behind_assigned k ks w = other k ks w (λ b. b) refl refl refl

ended : (ks : List Kind) → AmongNames (kind.CloseBrace ∷ ks) → ⊥
ended ks m = ⊎_elim (λ (b : BeginsNames (kind.CloseBrace ∷ ks)). b) (λ (r : AmongNames ks × (true ≡ false)). false≢true (sym r.1)) (less kind.CloseBrace ks m)

behind_within : (b : Bool) (k : Kind) (ks : List Kind) → Inside b ks → Knows (behind (place.Within b) k) (k ∷ ks)
behind_within b kind.CloseBrace ks w = record { outside = ended ks; typed = refl; subtyped = refl; assigned = refl }
behind_within b k ks w = record { among = more k ks refl w.among; named = refl }

knows : (p : MtypePlace) (k : Kind) (ks : List Kind) → Knows p ks → Knows (behind p k) (k ∷ ks)
knows place.Outside k ks w = behind_outside k ks w
knows place.Typed k ks w = behind_typed k ks w
knows place.Subtyped k ks w = behind_subtyped k ks w
knows place.Assigned k ks w = behind_assigned k ks w
knows (place.Within b) k ks w = behind_within b k ks w

-- ---- what becomes of a token

abbrev the : MtypePlace → Written → List Written → Changed CommaChange
the p t ts = changed t (change_at p t.kind ts)

spare_is : (p : MtypePlace) (ts : List Written) → is_spare (changes_by p ts) ≡ changes.is_spare ts
spare_is p [] = refl
spare_is p (t ∷ ts) = refl

both_true : (a b : Bool) → a ≡ true → b ≡ true → (a && b) ≡ true
both_true true b h g = g
both_true false b h g = h

second_true : (a s b n : Bool) → cond (a && s) change.Blanked (cond (b && n) change.Parted change.Kept) ≡ change.Blanked → s ≡ true
second_true true true b n e = refl
second_true true false true true e = cc
second_true true false true false e = cc
second_true true false false n e = cc
second_true false s true true e = cc
second_true false s true false e = cc
second_true false s false n e = cc

named_true : (a s b n : Bool) → cond (a && s) change.Blanked (cond (b && n) change.Parted change.Kept) ≡ change.Parted → n ≡ true
named_true a s b true e = refl
named_true true true b false e = cc
named_true true false true false e = cc
named_true true false false false e = cc
named_true false s true false e = cc
named_true false s false false e = cc

-- outside of names nothing changes
none_at : (ks : List Kind) (c : Changed CommaChange) (back : List (Changed CommaChange)) → (AmongNames ks → ⊥) → c.change ≡ change.Kept → Exact ks c back
none_at ks c back none e =
    record {
      blanked = λ f. let odd : change.Kept ≡ change.Blanked = sym e ∙ f in cc;
      spare = λ s. absurd (none s.among);
      parted = λ f. let odd : change.Kept ≡ change.Parted = sym e ∙ f in cc;
      wanted = λ s. absurd (none s.among);
    }

-- among names
among_at : (b : Bool) (t : Written) (ts : List Written) (q : MtypePlace) (ks : List Kind) → Inside b ks → Exact ks (the (place.Within b) t ts) (changes_by q ts)
among_at b t ts q ks w =
    let a = same_kind t.kind kind.Comma in
    let s = changes.is_spare ts in
    let n = same_kind t.kind kind.Name in
    record {
      blanked = λ e. record { comma = is_comma t.kind (blanked_by a s n b e); last = spare_is q ts ∙ second_true a s n b e; among = w.among };
      spare = λ h. ap (λ (x : Bool). cond x change.Blanked (cond (n && b) change.Parted change.Kept))
          (both_true a s (ap (λ (k : Kind). same_kind k kind.Comma) h.comma) (sym (spare_is q ts) ∙ h.last));
      parted = λ e. record { name = name_is t.kind (parted_by a s n b e); next = sym w.named ∙ named_true a s n b e; among = w.among };
      wanted = λ h. ap (λ (k : Kind). cond (same_kind k kind.Comma && s) change.Blanked (cond (same_kind k kind.Name && b) change.Parted change.Kept)) h.name
          ∙ ap (λ (x : Bool). cond x change.Parted change.Kept) (w.named ∙ h.next);
    }

at_token : (p : MtypePlace) (t : Written) (ts : List Written) (q : MtypePlace) (ks : List Kind) → Knows p ks → Exact ks (the p t ts) (changes_by q ts)
at_token place.Outside t ts q ks w = none_at ks (the place.Outside t ts) (changes_by q ts) w.outside refl
at_token place.Typed t ts q ks w = none_at ks (the place.Typed t ts) (changes_by q ts) w.outside refl
at_token place.Subtyped t ts q ks w = none_at ks (the place.Subtyped t ts) (changes_by q ts) w.outside refl
at_token place.Assigned t ts q ks w = none_at ks (the place.Assigned t ts) (changes_by q ts) w.outside refl
at_token (place.Within b) t ts q ks w = among_at b t ts q ks w

follow : (ts : List Written) (p : MtypePlace) (ks : List Kind) → Knows p ks → (front back : List (Changed CommaChange)) (c : Changed CommaChange) → changes_by p ts ≡ front ++ c ∷ back → Exact (fold kinds_behind ks front) c back
follow [] p ks w [] back c e = cc
follow [] p ks w (x ∷ front) back c e = cc
follow (t ∷ ts) p ks w [] back c e =
    let same : the p t ts ≡ c = cc in
    let rest : changes_by (behind p t.kind) ts ≡ back = cc in
    subst (λ (d : Changed CommaChange). Exact ks d back) same (subst (λ (b : List (Changed CommaChange)). Exact ks (the p t ts) b) rest (at_token p t ts (behind p t.kind) ks w))
follow (t ∷ ts) p ks w (x ∷ front) back c e =
    let same : the p t ts ≡ x = cc in
    let rest : changes_by (behind p t.kind) ts ≡ front ++ c ∷ back = cc in
    subst (λ (d : Changed CommaChange). Exact (fold kinds_behind (kinds_behind ks d) front) c back) same (follow ts (behind p t.kind) (t.kind ∷ ks) (knows p t.kind ks w) front back c rest)

begun : Known false false false []
begun = record { outside = λ m. none_among_by m.inside m.before m.splits m.begun; typed = refl; subtyped = refl; assigned = refl }

pub exact : (ts : List Written) → CommasAreExact (changes.changes ts)
exact ts front back c e = follow ts place.Outside [] begun front back c e
