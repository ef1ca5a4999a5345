-- What is added where a refusal lies in a macro.
use Rattle.std.proofs.Common.{◌≡◌, ◌++◌, ℕ, List, Option, Some, None, Ok, Err, IfSome, IfOk, OnOk, sym, subst}
use Rattle.std.specs.Prelude.{Result}
use Rattle.diagnostics.specs.declared.refusal.Refusal.{Refusal}
use Rattle.explain_cause.specs.declared.cause.Segment.{Segment}
use Rattle.explain_find.specs.Told.{IsTold}
use Rattle.explain.specs.Explained.{ExplainsBeside}
use Rattle.pml_macros.specs.declared.atom.Atom.{Atom}
use Rattle.called_macros.specs.declared.origin.Origin.{Origin}
use Rattle.called_macros.specs.Origins.{called_at}
use Rattle.called_macros.specs.Told.{called_told}
use Rattle.program_files.specs.Explained.{IsCalledIn, AddsLine, AddsCalled, called}

pub some_called : (o : Origin) (text : List ℕ) (x : Refusal) (p : Segment) (a : Option Atom) → IsTold text x p → a ≡ called_at o text p.offset → IfSome a (IsCalledIn o text x)
some_called o text x p None told h = tt
some_called o text x p (Some a) told h = record { place = p; told = told; called = sym h }

pub ok_called : {E : Type 0} → (o : Origin) (text : List ℕ) (x : Refusal) (p : Segment) (r : Result (Option Atom) E) → IsTold text x p → IfOk r (λ a. a ≡ called_at o text p.offset) → IfOk r (λ a. IfSome a (IsCalledIn o text x))
ok_called o text x p (Ok a) told h = some_called o text x p a told h
ok_called o text x p (Err e) told h = tt

-- where the line of its token was added, or could not be
pub ok_adds : {E : Type 0} → (origin : Option Origin) (text : List ℕ) (x : Refusal) (o : Origin) (a : Atom) (old mid new : List ℕ) (r : Result (Unit {0}) E) → origin ≡ Some o → IsCalledIn o text x a
    → mid ≡ old ++ called_told o a → OnOk r (AddsLine o a mid new) → OnOk r (AddsCalled origin text x old new)
ok_adds origin text x o a old mid new (Ok u) is told e h = called o a is told (subst (λ (ms : List ℕ). AddsLine o a ms new) e h)
ok_adds origin text x o a old mid new (Err w) is told e h = tt

-- what is told over the bytes that slices lend
pub told_of_lent : (name text own lines included here lent shown : List ℕ) (x : Refusal) (out : List ℕ) → here ≡ own → lent ≡ lines → shown ≡ included
    → ExplainsBeside (record { name = name; text = text; own = here; lines = lent; included = shown }) x out → ExplainsBeside (record { name = name; text = text; own = own; lines = lines; included = included }) x out
told_of_lent name text own lines included here lent shown x out e f g h =
    subst (λ (i : List ℕ). ExplainsBeside (record { name = name; text = text; own = own; lines = lines; included = i }) x out) g
    (subst (λ (l : List ℕ). ExplainsBeside (record { name = name; text = text; own = own; lines = l; included = shown }) x out) f
    (subst (λ (o : List ℕ). ExplainsBeside (record { name = name; text = text; own = o; lines = lent; included = shown }) x out) e h))
