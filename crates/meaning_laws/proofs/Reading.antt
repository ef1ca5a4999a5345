-- The proctype of a name in the whole text.
use Rattle.std.proofs.Common.{◌≡◌, ℕ, Bool, true, false, ◌||◌, cond, List, [], ◌∷◌, map, reverse, Option, Some, None, refl, ap, sym, ◌∙◌}
use Rattle.std.specs.Option.{is_some, option_or, unwrap_or}
use Rattle.std.specs.Str.{bytes_eq}
use Rattle.std.proofs.lemmas.List.{reverse-append}
use Rattle.pml_token.specs.Word.{Word}
use Rattle.pml_tree.specs.declared.tree.Variable.{Variable as TreeVariable}
use Rattle.pml_tree.specs.declared.tree.Unit.{Unit as Part}
use Rattle.check_uses.specs.Parts.{constant_mark}
use Rattle.promela_model.specs.declared.mark.Declared.{Declared}
use Rattle.promela_model.specs.declared.mark.Declared.TheVariants as declared_as
use Rattle.promela_model.specs.declared.mark.What.TheVariants as what
use Rattle.promela_model.specs.declared.mark.Role.{Role}
use Rattle.promela_model.specs.declared.mark.Role.TheVariants as role
use Rattle.promela_model.specs.declared.thing.Thing.{Thing}
use Rattle.promela_model.specs.declared.thing.Thing.TheVariants as thing
use Rattle.check_names.specs.Entry.{Entry, found}
use Rattle.check_names.specs.Env.{after, env_from, thing_of}
use Rattle.promela_model.specs.Names.{only_process}
use Rattle.check_resolve.specs.Declarations.{Known, declares as variable_declares, added_variable, with_variable, with_variables}
use Rattle.check_resolve.specs.Statements.{proctype_of}
use Rattle.promela_model.specs.Stands.{Globals, has_name, proctype_named}
use Rattle.meaning_laws.proofs.Words.{names_of}
use Rattle.meaning_laws.proofs.Growing.{if_so, found-own, after-new, after-old, same-name, name-more}
use Rattle.meaning_laws.proofs.Declaring.{Runs}

abbrev pub in_process : Thing → Option ℕ
in_process (thing.Proctype k n) = Some k
in_process _ = None

-- the proctype that is found, or else this one
abbrev pub or_process : Option Thing → Option ℕ → Option ℕ
or_process None r = r
or_process (Some x) r = in_process x

-- what is found before the units, whose proctypes are numbered from k, and what these declare, is what the text has
abbrev pub Reads : List Part → ℕ → List Part → List Entry → Type 0
Reads text k us es = (n : List ℕ) → or_process (found es 0 n) (proctype_named k us n) ≡ proctype_named 0 text n

abbrev pub ReadsAll : List Part → List Entry → Type 0
ReadsAll text all = (n : List ℕ) → or_process (found all 0 n) None ≡ proctype_named 0 text n

process-is : (x : Thing) → proctype_of (Some x) ≡ unwrap_or (in_process x) 0
process-is (thing.Variable v) = refl
process-is (thing.Constant n) = refl
process-is (thing.Typedef t n) = refl
process-is (thing.Proctype o n) = refl

only-is : (x : Option Thing) → proctype_of (only_process x) ≡ unwrap_or (or_process x None) 0
only-is (Some (thing.Variable v)) = refl
only-is (Some (thing.Constant n)) = refl
only-is (Some (thing.Typedef t n)) = refl
only-is (Some (thing.Proctype o n)) = refl
only-is None = refl

pub runs-of : (gs : Globals) (all es : List Entry) (k : ℕ) (us : List Part) → Reads gs.text k us es → ReadsAll gs.text all → Runs gs all es
runs-of gs all es k us h whole n = go (found es 0 n) refl
  where
    go : (x : Option Thing) → found es 0 n ≡ x → proctype_of (option_or (found es 0 n) (only_process (found all 0 n))) ≡ unwrap_or (proctype_named 0 gs.text n) 0
    go (Some x) e =
        ap (λ (y : Option Thing). proctype_of (option_or y (only_process (found all 0 n)))) e ∙ process-is x
        ∙ ap (λ (o : Option ℕ). unwrap_or o 0) (sym (ap (λ (y : Option Thing). or_process y (proctype_named k us n)) e) ∙ h n)
    go None e =
        ap (λ (y : Option Thing). proctype_of (option_or y (only_process (found all 0 n)))) e ∙ only-is (found all 0 n) ∙ ap (λ (o : Option ℕ). unwrap_or o 0) (whole n)

-- ---- one declaration

or-so : (x : Option Thing) (b : Bool) (t : Thing) (r : Option ℕ) → or_process (option_or x (if_so b t)) r ≡ or_process x (cond b (in_process t) r)
or-so (Some y) b t r = refl
or-so None true t r = refl
or-so None false t r = refl

pub after-read : (es : List Entry) (w : Word) (d : Declared) (n : List ℕ) (r : Option ℕ)
    → or_process (found (after es 0 (what.Declares w d)) 0 n) r ≡ or_process (found es 0 n) (cond (bytes_eq n w.text) (in_process (thing_of es 0 d)) r)
after-read es w d n r = go (found es 0 w.text) refl
  where
    t : Thing
    t = thing_of es 0 d

    old : (x : Thing) → found es 0 w.text ≡ Some x → (b : Bool) → bytes_eq n w.text ≡ b → or_process (found es 0 n) r ≡ or_process (found es 0 n) (cond b (in_process (thing_of es 0 d)) r)
    old x e true same =
        let f : found es 0 n ≡ Some x = ap (λ (m : List ℕ). found es 0 m) (same-name n w.text same) ∙ e in
        ap (λ (y : Option Thing). or_process y r) f ∙ sym (ap (λ (y : Option Thing). or_process y (in_process (thing_of es 0 d))) f)
    old x e false same = refl

    go : (x : Option Thing) → found es 0 w.text ≡ x
        → or_process (found (after es 0 (what.Declares w d)) 0 n) r ≡ or_process (found es 0 n) (cond (bytes_eq n w.text) (in_process (thing_of es 0 d)) r)
    go None e =
        ap (λ (fs : List Entry). or_process (found fs 0 n) r) (after-new es 0 w d e) ∙ ap (λ (y : Option Thing). or_process y r) (found-own es 0 w.text (thing_of es 0 d) n)
        ∙ or-so (found es 0 n) (bytes_eq n w.text) (thing_of es 0 d) r
    go (Some x) e = ap (λ (fs : List Entry). or_process (found fs 0 n) r) (after-old es 0 w d x e) ∙ old x e (bytes_eq n w.text) refl

-- ---- variables and mtype names

pub cond-or : (b c : Bool) (r : Option ℕ) → cond b None (cond c None r) ≡ cond (b || c) None r
cond-or true c r = refl
cond-or false c r = refl

pub with-names : (all : List Entry) (use_as : Role) (o : ℕ) (v : TreeVariable) (x : Known) → (with_variable all use_as o v x).names ≡ after x.names o (variable_declares use_as v)
with-names all use_as o v x = go (found x.names o v.name.text) refl
  where
    go : (f : Option Thing) → found x.names o v.name.text ≡ f → (with_variable all use_as o v x).names ≡ after x.names o (variable_declares use_as v)
    go None e = ap (λ (f : Option Thing). (cond (is_some f) x (added_variable all use_as o v x)).names) e
    go (Some t) e = ap (λ (f : Option Thing). (cond (is_some f) x (added_variable all use_as o v x)).names) e ∙ sym (after-old x.names o v.name _ t e)

pub variables-read : (all : List Entry) (vs : List TreeVariable) (x : Known) (n : List ℕ) (r : Option ℕ)
    → or_process (found (with_variables all role.Variable 0 vs x).names 0 n) r ≡ or_process (found x.names 0 n) (cond (has_name (names_of vs) n) None r)
variables-read all [] x n r = refl
variables-read all (v ∷ vs) x n r =
    variables-read all vs (with_variable all role.Variable 0 v x) n r
    ∙ ap (λ (es : List Entry). or_process (found es 0 n) (cond (has_name (names_of vs) n) None r)) (with-names all role.Variable 0 v x)
    ∙ after-read x.names v.name _ n (cond (has_name (names_of vs) n) None r)
    ∙ ap (or_process (found x.names 0 n)) (cond-or (bytes_eq n v.name.text) (has_name (names_of vs) n) r)

pub constants-read : (ws : List Word) (es : List Entry) (n : List ℕ) (r : Option ℕ)
    → or_process (found (env_from es (map constant_mark ws)) 0 n) r ≡ or_process (found es 0 n) (cond (has_name ws n) None r)
constants-read [] es n r = refl
constants-read (w ∷ ws) es n r =
    constants-read ws (after es 0 (what.Declares w declared_as.Constant)) n r
    ∙ after-read es w declared_as.Constant n (cond (has_name ws n) None r)
    ∙ ap (or_process (found es 0 n)) (cond-or (bytes_eq n w.text) (has_name ws n) r)

or-swap : (a b : Bool) → (a || b) ≡ (b || a)
or-swap true true = refl
or-swap true false = refl
or-swap false true = refl
or-swap false false = refl

pub name-reversed : (ws : List Word) (n : List ℕ) → has_name (reverse ws) n ≡ has_name ws n
name-reversed [] n = refl
name-reversed (w ∷ ws) n =
    ap (λ (xs : List Word). has_name xs n) (reverse-append (w ∷ []) ws) ∙ name-more (reverse ws) w n
    ∙ ap (λ (b : Bool). b || bytes_eq n w.text) (name-reversed ws n) ∙ or-swap (has_name ws n) (bytes_eq n w.text)
