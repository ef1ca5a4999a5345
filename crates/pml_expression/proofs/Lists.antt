-- Lists that go on from what was found before, and those with commas, above what is known of their elements.
use Rattle.std.proofs.Common.{◌≡◌, ℕ, zero, suc, ◌<◌, ◌≤◌, false, List, [], ◌∷◌, ◌++◌, length, Ok, inl, inr, refl, sym, ap, subst, ◌∙◌, append_assoc, arith}
use Rattle.std.proofs.lemmas.List.{append-nil}
use Rattle.pml_token.specs.Word.{Word, same_kind}
use Rattle.pml_token.specs.declared.token.Kind.TheVariants as k
use Rattle.promela_grammar.specs.Expressions as grammar
use Rattle.promela_grammar.specs.Expressions.{SpellsList}
use Rattle.pml_expression.specs.Reading as reading
use Rattle.pml_expression.specs.Reading.{Read, and_then, pick, next, sees, expect}
use Rattle.pml_expression.proofs.Steps.{bind_ok, chosen, ok_is, expect_ok, expect_again, is_kind, done, closed_by}

pub record GoesOn {A : Type 0} (Spell : List A → Type 0) (found whole : List A) : Type 0 where
  pub more : List A
  pub whole_is : whole ≡ found ++ more
  pub spells : Spell more

-- one more at the end of what was found, and what comes then
pub one_more : {A : Type 0} {Spell Spell' : List A → Type 0} (found whole : List A) (x : A) → ((xs : List A) → Spell xs → Spell' (x ∷ xs)) → GoesOn Spell (found ++ x ∷ []) whole → GoesOn Spell' found whole
one_more found whole x step g = record { more = x ∷ g.more; whole_is = g.whole_is ∙ append_assoc found (x ∷ []) g.more; spells = step g.more g.spells }

pub just_one : {A : Type 0} {Spell : List A → Type 0} (found : List A) (x : A) → Spell (x ∷ []) → GoesOn Spell found (found ++ x ∷ [])
just_one found x h = record { more = x ∷ []; whole_is = refl; spells = h }

pub none_more : {A : Type 0} {Spell : List A → Type 0} (found : List A) → Spell [] → GoesOn Spell found found
none_more found h = record { more = []; whole_is = simp append-nil; spells = h }

-- all of it, where nothing was found before
pub all_found : {A : Type 0} {Spell : List A → Type 0} {whole : List A} → GoesOn Spell [] whole → Spell whole
all_found {Spell} g = subst Spell (sym g.whole_is) g.spells

module _ {A : Type 0} (element : List Word → Read A) (Spell : A → List Word → List Word → Type 0) (All : List A → List Word → List Word → Type 0)
    (sound : (ts : List Word) (x : A × List Word) → element ts ≡ Ok x → Spell x.0 ts x.1)
    (last : (x : A) (from to : List Word) → Spell x from to → All (x ∷ []) from to)
    (more : (x : A) (xs : List A) (c : Word) (from middle to : List Word) → Spell x from (c ∷ middle) → c.kind ≡ k.Comma → All xs middle to → All (x ∷ xs) from to) where
  pub list_found : (turns : ℕ) (found : List A) (ts : List Word) (x : List A × List Word) → reading.list_from element turns found ts ≡ Ok x → GoesOn (λ xs. All xs ts x.1) found x.0
  unfolding reading.list_from
  list_found zero found ts x h = absurd cc
  list_found (suc n) found ts x h =
      let y = bind_ok h in
      let inside = sound ts y.0 y.1 in
      elim (chosen y.2) [
        | inl p ↦
            let c = bind_ok p.1 in
            let t = expect_ok c.1 in
            one_more {Spell = λ xs. All xs c.0.1 x.1} found x.0 y.0.0 (λ xs s. more _ _ _ _ _ _ (closed_by Spell t inside) t.is s) (list_found n (found ++ y.0.0 ∷ []) c.0.1 x c.2)
        | inr p ↦ subst (λ (r : List A × List Word). GoesOn (λ xs. All xs ts r.1) found r.0) (ok_is p.1) (just_one found y.0.0 (last _ _ _ inside))
      ]

  pub whole_list_found : (turns : ℕ) (ts : List Word) (x : List A × List Word) → reading.list_from element turns [] ts ≡ Ok x → All x.0 ts x.1
  whole_list_found turns ts x h = all_found {Spell = λ xs. All xs ts x.1} (list_found turns [] ts x h)

  module _ (Whole : List A → List Word → List Word → Type 0) (listed : (xs : List A) (from to : List Word) → All xs from to → Whole xs from to)
      (called : (x : A) (xs : List A) (o c : Word) (from middle to : List Word) → Spell x from (o ∷ middle) → o.kind ≡ k.OpenParen → All xs middle (c ∷ to) → c.kind ≡ k.CloseParen → Whole (x ∷ xs) from to) where
    pub first_found : (first : A) (from ts : List Word) (x : List A × List Word) → Spell first from ts → reading.behind_first element (first ∷ []) ts ≡ Ok x → Whole x.0 from x.1
    unfolding reading.behind_first reading.enclosed reading.closing
    first_found first from ts x here h = elim (chosen h) [
      | inl p ↦
          let o = bind_ok p.1 in
          let t = expect_ok o.1 in
          let xs = bind_ok o.2 in
          let c = bind_ok xs.2 in
          let u = expect_ok c.1 in
          let g = list_found (length o.0.1) (first ∷ []) o.0.1 xs.0 xs.1 in
          done Whole c.2 (subst (λ (all : List A). Whole all from c.0.1) (sym g.whole_is) (called _ _ _ _ _ _ _ (closed_by Spell t here) t.is (closed_by All u g.spells) u.is))
      | inr p ↦ elim (chosen p.1) [
        | inl q ↦
            let c = bind_ok q.1 in
            let t = expect_ok c.1 in
            let g = list_found (length c.0.1) (first ∷ []) c.0.1 x c.2 in
            subst (λ (all : List A). Whole all from x.1) (sym g.whole_is) (listed _ _ _ (more _ _ _ _ _ _ (closed_by Spell t here) t.is g.spells))
        | inr q ↦ done Whole q.1 (listed _ _ _ (last _ _ _ here))
      ]
    ]

-- ---- what is spelled as a list with commas is read. `Good` says what may come behind an element, and `most` bounds its length.

module _ {A : Type 0} (element : List Word → Read A) (Spell : A → List Word → List Word → Type 0) (most : ℕ) (Good : List Word → Type 0)
    (moves : (x : A) (from to : List Word) → Spell x from to → length to < length from)
    (comma_good : (c : Word) (ws : List Word) → c.kind ≡ k.Comma → Good (c ∷ ws))
    (again : (x : A) (from to : List Word) → Spell x from to → length from ≤ most → Good to → element from ≡ Ok (x, to)) where
  pub list_again : {xs : List A} {from to : List Word} → SpellsList Spell xs from to → (turns : ℕ) → length from ≤ most → length from ≤ turns → Good to → same_kind (next to) k.Comma ≡ false → (found : List A)
      → reading.list_from element turns found from ≡ Ok (found ++ xs, to)
  unfolding reading.list_from and_then pick sees
  list_again (grammar.last_listed h) zero room enough good ends found = absurd (omega (arith, moves _ _ _ h))
  list_again (grammar.last_listed h) (suc n) room enough good ends found = rw (again _ _ _ h room good, ends) refl
  list_again (grammar.more_listed h is more) zero room enough good ends found = absurd (omega (arith, moves _ _ _ h))
  list_again (grammar.more_listed {x} {xs} {c} {middle} {to} h is more) (suc n) room enough good ends found =
      rw (again _ _ _ h room (comma_good c middle is), is_kind c.kind k.Comma is, expect_again k.Comma c middle is, list_again more n (omega (arith, moves _ _ _ h)) (omega (arith, moves _ _ _ h)) good ends (found ++ x ∷ []))
      (ap (λ (f : List A). Ok (f, to)) (append_assoc found (x ∷ []) xs))

pub list_moves : {A : Type 0} {Spell : A → List Word → List Word → Type 0} {xs : List A} {from to : List Word} → ((x : A) (from to : List Word) → Spell x from to → length to < length from) → SpellsList Spell xs from to → length to < length from
list_moves moves (grammar.last_listed h) = moves _ _ _ h
list_moves moves (grammar.more_listed h is more) = omega (arith, moves _ _ _ h, list_moves moves more)
