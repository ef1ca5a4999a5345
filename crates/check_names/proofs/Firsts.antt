-- The table that is filled mark by mark says what is declared by the marks.
use Rattle.std.proofs.Common.{◌≡◌, ℕ, Bool, true, false, ◌&&◌, nat_eq, cond, List, [], ◌∷◌, ◌++◌, Option, Some, None, refl, ap, sym, ◌∙◌}
use Rattle.std.specs.Option.{is_some, option_or}
use Rattle.std.specs.List.{fold}
use Rattle.std.specs.Str.{bytes_eq}
use Rattle.std.proofs.lemmas.Bool.{eqb-true}
use Rattle.std.proofs.lemmas.Slice.Eq.{bytes_eq-Decides}
use Rattle.promela_model.specs.declared.mark.What.{What}
use Rattle.promela_model.specs.declared.mark.What.TheVariants as what
use Rattle.promela_model.specs.declared.mark.Mark.{Mark}
use Rattle.promela_model.specs.declared.thing.Thing.{Thing}
use Rattle.check_names.specs.Entry.{Entry, entry, is_named, found}
use Rattle.check_names.specs.Env as table
use Rattle.check_names.specs.Env.{told, add, after, env, env_from}
use Rattle.promela_model.specs.Names.{Before, with_thing, with_mark, before}
use Rattle.check_names.proofs.Totalling.{held-more, variables-more, constants-more}

-- ---- one mark more

or-none : (x : Option Thing) → option_or x None ≡ x
or-none None = refl
or-none (Some t) = refl

behind : (b c : Bool) (t x : Thing) (f g : Option Thing) → option_or f (cond c (Some x) None) ≡ g → option_or (cond b (Some t) f) (cond c (Some x) None) ≡ cond b (Some t) g
behind true c t x f g h = refl
behind false c t x f g h = h

last : (b : Bool) (t : Thing) → option_or None (cond b (Some t) None) ≡ cond b (Some t) None
last true t = refl
last false t = refl

found-last : (es : List Entry) (e : Entry) (o : ℕ) (n : List ℕ) → option_or (found es o n) (cond (is_named o n e) (Some e.thing) None) ≡ found (es ++ e ∷ []) o n
found-last [] e o n = last (is_named o n e) e.thing
found-last (f ∷ es) e o n = behind (is_named o n f) (is_named o n e) f.thing e.thing (found es o n) (found (es ++ e ∷ []) o n) (found-last es e o n)

-- a name that was not declared before stands for what it is declared as
first : (b : Bool) (x : Option Thing) (t : Thing) → (b ≡ true → x ≡ None) → cond b (Some t) x ≡ option_or x (cond b (Some t) None)
first true x t h = ap (λ (y : Option Thing). option_or y (Some t)) (sym (h refl))
first false x t h = sym (or-none x)

both : (b c : Bool) → (b && c) ≡ true → (b ≡ true) × (c ≡ true)
both true c h = (refl, h)
both false c h = absurd cc

module _ (es : List Entry) (k : ℕ) (w : List ℕ) (t : Thing) where
  names-new : found es k w ≡ None → (o : ℕ) (n : List ℕ) → found (es ++ entry k w t ∷ []) o n ≡ cond (nat_eq o k && bytes_eq n w) (Some t) (found es o n)
  names-new e o n = sym (found-last es (entry k w t) o n) ∙ sym (first (nat_eq o k && bytes_eq n w) (found es o n) t (λ b.
      let two = both (nat_eq o k) (bytes_eq n w) b in
      ap (λ (p : ℕ). found es p n) (eqb-true o k two.0) ∙ ap (found es k) ((bytes_eq-Decides n w).0 two.1) ∙ e))

  more : found es k w ≡ None → told (es ++ entry k w t ∷ []) ≡ with_thing (told es) k w t
  more e = λ i. record {
    names = λ o n. names-new e o n i;
    cells = λ o. held-more es (entry k w t) o i;
    variables = λ o. variables-more es (entry k w t) o i;
    constants = constants-more es (entry k w t) i;
  }

  told-by : (x : Option Thing) → found es k w ≡ x → told (cond (is_some x) es (es ++ entry k w t ∷ [])) ≡ cond (is_some x) (told es) (with_thing (told es) k w t)
  told-by (Some s) e = refl
  told-by None e = more e

told-after : (es : List Entry) (k : ℕ) (w : What) → told (after es k w) ≡ with_mark (told es) k w
unfolding after add
told-after es k (what.Declares w d) = told-by es k w.text (table.thing_of es k d) (found es k w.text) refl
told-after es k _ = refl

-- ---- all marks

told-from : (ms : List Mark) (es : List Entry) → told (env_from es ms) ≡ fold (λ b m. with_mark b m.owner m.what) (told es) ms
told-from [] es = refl
told-from (m ∷ ms) es =
    told-from ms (after es m.owner m.what)
    ∙ ap (λ (b : Before). fold (λ b m. with_mark b m.owner m.what) b ms) (told-after es m.owner m.what)

pub told-before : (ms : List Mark) → told (env ms) ≡ before ms
unfolding env
told-before ms = told-from ms []
