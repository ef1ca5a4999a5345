-- What becomes of the tokens is the text, and commas alone change.
use Rattle.std.proofs.Common.{◌≡◌, ℕ, Bool, true, false, cond, ◌&&◌, List, [], ◌∷◌, ◌++◌, refl, ap, ◌∙◌, All, arith}
use Rattle.std.proofs.lemmas.Bool.{false≢true}
use Rattle.std.proofs.lemmas.List.Elements.{All-cons}
use Rattle.pml_token.specs.declared.token.Kind.{Kind}
use Rattle.pml_token.specs.declared.token.Kind.TheVariants as kind
use Rattle.pml_token.specs.Word.{same_kind}
use Rattle.prepare.specs.Contexts.{start}
use Rattle.prepare.specs.Written.{Written}
use Rattle.prepare.specs.Stretches.{stretches}
use Rattle.prepare.specs.Laws.{source, sources}
use Rattle.prepare.proofs.Plain.{sources_are}
use Rattle.mtype_commas.specs.declared.place.MtypePlace.{MtypePlace}
use Rattle.mtype_commas.specs.declared.place.MtypePlace.TheVariants as place
use Rattle.mtype_commas.specs.declared.changes.CommaChange.TheVariants as change
use Rattle.mtype_commas.specs.Places.{behind}
use Rattle.mtype_commas.specs.Changes.{is_spare, change_at, changes_by, changes}
use Rattle.prepare.specs.Changed.{owns}
use Rattle.mtype_commas.specs.Laws.{IsOwn}

owns_are : (p : MtypePlace) (ts : List Written) → owns (changes_by p ts) ≡ sources ts
owns_are p [] = refl
owns_are p (t ∷ ts) = ap (λ (xs : List ℕ). source t ++ xs) (owns_are (behind p t.kind) ts)

pub owns_text : (text : List ℕ) → owns (changes (stretches text)) ≡ text
owns_text text = owns_are place.Outside (stretches text) ∙ sources_are _ true start [] text

pub is_comma : (k : Kind) → same_kind k kind.Comma ≡ true → k ≡ kind.Comma
is_comma kind.Comma h = refl
is_comma _ h = absurd (false≢true h)

pub is_name : (k : Kind) → same_kind k kind.Name ≡ true → k ≡ kind.Name
is_name kind.Name h = refl
is_name _ h = absurd (false≢true h)

pub blanked_by : (a s b n : Bool) → cond (a && s) change.Blanked (cond (b && n) change.Parted change.Kept) ≡ change.Blanked → a ≡ true
blanked_by true s b n e = refl
blanked_by false s true true e = cc
blanked_by false s true false e = cc
blanked_by false s false n e = cc

pub parted_by : (a s b n : Bool) → cond (a && s) change.Blanked (cond (b && n) change.Parted change.Kept) ≡ change.Parted → b ≡ true
parted_by a s true n e = refl
parted_by true true false n e = cc
parted_by true false false n e = cc
parted_by false s false n e = cc

blanked_is : (p : MtypePlace) (k : Kind) (ts : List Written) → change_at p k ts ≡ change.Blanked → k ≡ kind.Comma
blanked_is (place.Within n) k ts e = is_comma k (blanked_by (same_kind k kind.Comma) (is_spare ts) (same_kind k kind.Name) n e)
blanked_is _ k ts e = cc

parted_is : (p : MtypePlace) (k : Kind) (ts : List Written) → change_at p k ts ≡ change.Parted → k ≡ kind.Name
parted_is (place.Within n) k ts e = is_name k (parted_by (same_kind k kind.Comma) (is_spare ts) (same_kind k kind.Name) n e)
parted_is _ k ts e = cc

all_own : (p : MtypePlace) (ts : List Written) → All IsOwn (changes_by p ts)
all_own p [] = λ k d lt. absurd (omega arith)
all_own p (t ∷ ts) = All-cons IsOwn _ (changes_by (behind p t.kind) ts) (record { comma = blanked_is p t.kind ts; name = parted_is p t.kind ts }) (all_own (behind p t.kind) ts)

pub commas_alone : (ts : List Written) → All IsOwn (changes ts)
commas_alone ts = all_own place.Outside ts
