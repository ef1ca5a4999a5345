-- What is found when one name more is declared.
use Rattle.std.proofs.Common.{◌≡◌, ◌≢◌, ℕ, suc, ◌+◌, ◌*◌, ◌<◌, Bool, true, false, ◌&&◌, ◌||◌, cond, nat_eq, List, [], ◌∷◌, ◌++◌, length, Option, Some, None, refl, ap, sym, ◌∙◌, inl, inr, arith}
use Rattle.std.specs.List.{AllByRecursion}
use Rattle.std.specs.Option.{is_some, option_or}
use Rattle.std.specs.Str.{bytes_eq}
use Rattle.std.proofs.lemmas.Bool.Decides.{eqb_tells}
use Rattle.std.proofs.lemmas.Slice.Eq.{bytes_eq-Decides}
use Rattle.pml_token.specs.Word.{Word}
use Rattle.promela_model.specs.declared.mark.Declared.{Declared}
use Rattle.promela_model.specs.declared.mark.What.TheVariants as what
use Rattle.promela_model.specs.declared.thing.Thing.{Thing}
use Rattle.check_names.specs.Entry.{Entry, entry, found, is_named}
use Rattle.promela_model.specs.Names.{variables_in, cells_in, constants_in}
use Rattle.check_names.specs.Env.{variables, held, constants, after, add, thing_of}
use Rattle.pml_program.specs.declared.program.Slot.{Slot}
use Rattle.promela_model.specs.Stands.{Structure, variable_named, constant_named, typedef_named, has_name, cells_in_all}
use Rattle.meaning_laws.proofs.Words.{one_behind, one_more}
use Rattle.meaning_laws.proofs.Things.{as_thing, IsKnown, AreKnown}

-- the first of two that is one
abbrev pub or : {A : Type 0} → Option A → Option A → Option A
or (Some x) y = Some x
or None y = y

abbrev pub if_so : {A : Type 0} → Bool → A → Option A
if_so true x = Some x
if_so false x = None

-- ---- among the names

pub owner-same : (o : ℕ) → nat_eq o o ≡ true
owner-same o = elim (eqb_tells o o) [
  | inl e ↦ e.0
  | inr e ↦ absurd (e.1 refl)
]

owner-other : (o p : ℕ) → o ≢ p → nat_eq o p ≡ false
owner-other o p h = elim (eqb_tells o p) [
  | inl e ↦ absurd (h e.1)
  | inr e ↦ e.0
]

behind : (b c : Bool) (x t : Thing) (f g : Option Thing) → g ≡ option_or f (if_so c t) → cond b (Some x) g ≡ option_or (cond b (Some x) f) (if_so c t)
behind true c x t f g h = refl
behind false c x t f g h = h

last : (b : Bool) (t : Thing) → cond b (Some t) None ≡ option_or None (if_so b t)
last true t = refl
last false t = refl

pub found-more : (es : List Entry) (e : Entry) (o : ℕ) (n : List ℕ) → found (es ++ e ∷ []) o n ≡ option_or (found es o n) (if_so (is_named o n e) e.thing)
found-more [] e o n = last (is_named o n e) e.thing
found-more (f ∷ es) e o n = behind (is_named o n f) (is_named o n e) f.thing e.thing (found es o n) (found (es ++ e ∷ []) o n) (found-more es e o n)

pub found-own : (es : List Entry) (o : ℕ) (w : List ℕ) (t : Thing) (n : List ℕ) → found (es ++ entry o w t ∷ []) o n ≡ option_or (found es o n) (if_so (bytes_eq n w) t)
found-own es o w t n = found-more es (entry o w t) o n ∙ ap (λ (b : Bool). option_or (found es o n) (if_so (b && bytes_eq n w) t)) (owner-same o)

or-none : (x : Option Thing) → option_or x None ≡ x
or-none None = refl
or-none (Some x) = refl

pub found-other : (es : List Entry) (o p : ℕ) (w : List ℕ) (t : Thing) (n : List ℕ) → o ≢ p → found (es ++ entry p w t ∷ []) o n ≡ found es o n
found-other es o p w t n h =
    found-more es (entry p w t) o n
    ∙ ap (λ (b : Bool). option_or (found es o n) (if_so (b && bytes_eq n w) t)) (owner-other o p h) ∙ or-none (found es o n)

pub after-new : (es : List Entry) (o : ℕ) (n : Word) (d : Declared) → found es o n.text ≡ None → after es o (what.Declares n d) ≡ es ++ entry o n.text (thing_of es o d) ∷ []
unfolding after add
after-new es o n d h = ap (λ (r : Option Thing). cond (is_some r) es (es ++ entry o n.text (thing_of es o d) ∷ [])) h

pub after-old : (es : List Entry) (o : ℕ) (n : Word) (d : Declared) (t : Thing) → found es o n.text ≡ Some t → after es o (what.Declares n d) ≡ es
unfolding after add
after-old es o n d t h = ap (λ (r : Option Thing). cond (is_some r) es (es ++ entry o n.text (thing_of es o d) ∷ [])) h

pub same-name : (n w : List ℕ) → bytes_eq n w ≡ true → n ≡ w
same-name n w h = (bytes_eq-Decides n w).0 h

pub name-same : (n : List ℕ) → bytes_eq n n ≡ true
name-same n = (bytes_eq-Decides n n).1 refl

-- ---- how many

here : (o n : ℕ) → cond (nat_eq o o) n 0 ≡ n
here o n = ap (λ (b : Bool). cond b n 0) (owner-same o)

elsewhere : (a o n : ℕ) → a ≢ o → cond (nat_eq a o) n 0 ≡ 0
elsewhere a o n h = ap (λ (b : Bool). cond b n 0) (owner-other a o h)

variables-more : (es : List Entry) (e : Entry) (o : ℕ) → variables (es ++ e ∷ []) o ≡ variables es o + cond (nat_eq e.owner o) (variables_in e.thing) 0
variables-more [] e o = omega arith
variables-more (f ∷ es) e o = omega (arith, variables-more es e o)

held-more : (es : List Entry) (e : Entry) (o : ℕ) → held (es ++ e ∷ []) o ≡ held es o + cond (nat_eq e.owner o) (cells_in e.thing) 0
held-more [] e o = omega arith
held-more (f ∷ es) e o = omega (arith, held-more es e o)

pub constants-more : (es : List Entry) (e : Entry) → constants (es ++ e ∷ []) ≡ constants es + constants_in e.thing
constants-more [] e = omega arith
constants-more (f ∷ es) e = omega (arith, constants-more es e)

pub variables-own : (es : List Entry) (e : Entry) → variables (es ++ e ∷ []) e.owner ≡ variables es e.owner + variables_in e.thing
variables-own es e = omega (arith, variables-more es e e.owner, here e.owner (variables_in e.thing))

pub held-own : (es : List Entry) (e : Entry) → held (es ++ e ∷ []) e.owner ≡ held es e.owner + cells_in e.thing
held-own es e = omega (arith, held-more es e e.owner, here e.owner (cells_in e.thing))

pub variables-other : (es : List Entry) (e : Entry) (o : ℕ) → e.owner ≢ o → variables (es ++ e ∷ []) o ≡ variables es o
variables-other es e o h = omega (arith, variables-more es e o, elsewhere e.owner o (variables_in e.thing) h)

pub held-other : (es : List Entry) (e : Entry) (o : ℕ) → e.owner ≢ o → held (es ++ e ∷ []) o ≡ held es o
held-other es e o h = omega (arith, held-more es e o, elsewhere e.owner o (cells_in e.thing) h)

-- ---- nothing is declared yet by an owner that is still to come

abbrev pub Below : ℕ → List Entry → Type 0
Below k = AllByRecursion (λ (e : Entry). e.owner < k)

pub below-more : (k : ℕ) (es : List Entry) (e : Entry) → Below k es → e.owner < k → Below k (es ++ e ∷ [])
below-more k [] e h g = (g, tt)
below-more k (f ∷ es) e h g = (h.0, below-more k es e h.1 g)

pub below-later : (k : ℕ) (es : List Entry) → Below k es → Below (k + 1) es
below-later k [] h = tt
below-later k (e ∷ es) h = (omega (arith, h.0), below-later k es h.1)

pub found-below : (k : ℕ) (es : List Entry) (n : List ℕ) → Below k es → found es k n ≡ None
found-below k [] n h = refl
found-below k (e ∷ es) n h = ap (λ (b : Bool). cond (b && bytes_eq n e.name) (Some e.thing) (found es k n)) (owner-other k e.owner (omega (arith, h.0))) ∙ found-below k es n h.1

pub variables-below : (k : ℕ) (es : List Entry) → Below k es → variables es k ≡ 0
variables-below k [] h = refl
variables-below k (e ∷ es) h = omega (arith, variables-below k es h.1, elsewhere e.owner k (variables_in e.thing) (omega (arith, h.0)))

pub held-below : (k : ℕ) (es : List Entry) → Below k es → held es k ≡ 0
held-below k [] h = refl
held-below k (e ∷ es) h = omega (arith, held-below k es h.1, elsewhere e.owner k (cells_in e.thing) (omega (arith, h.0)))

-- ---- among the lists

variable-behind : (b c : Bool) (s t : Slot) (k : ℕ) (f g : Option (ℕ × Slot)) → g ≡ or f (if_so c (k, t)) → cond b (Some (0, s)) (one_behind g) ≡ or (cond b (Some (0, s)) (one_behind f)) (if_so c (suc k, t))
variable-behind true c s t k f g h = refl
variable-behind false c s t k f g h = ap one_behind h ∙ pushed f c
  where
    pushed : (f : Option (ℕ × Slot)) (c : Bool) → one_behind (or f (if_so c (k, t))) ≡ or (one_behind f) (if_so c (suc k, t))
    pushed (Some p) c = refl
    pushed None true = refl
    pushed None false = refl

variable-last : (b : Bool) (s : Slot) → cond {A = Option (ℕ × Slot)} b (Some (0, s)) None ≡ or None (if_so b (0, s))
variable-last true s = refl
variable-last false s = refl

pub variable-more : (ss : List Slot) (s : Slot) (n : List ℕ) → variable_named (ss ++ s ∷ []) n ≡ or (variable_named ss n) (if_so (bytes_eq n s.name.text) (length ss, s))
variable-more [] s n = variable-last (bytes_eq n s.name.text) s
variable-more (x ∷ ss) s n = variable-behind (bytes_eq n x.name.text) (bytes_eq n s.name.text) x s (length ss) (variable_named ss n) (variable_named (ss ++ s ∷ []) n) (variable-more ss s n)

pub thing-or : (f : Option (ℕ × Slot)) (b : Bool) (p : ℕ × Slot) (t : Thing) → as_thing (Some p) ≡ Some t → as_thing (or f (if_so b p)) ≡ option_or (as_thing f) (if_so b t)
thing-or (Some q) b p t h = refl
thing-or None true p t h = h
thing-or None false p t h = refl

constant-behind : (b c : Bool) (k : ℕ) (f g : Option ℕ) → g ≡ or f (if_so c k) → cond b (Some 1) (one_more g) ≡ or (cond b (Some 1) (one_more f)) (if_so c (suc k))
constant-behind true c k f g h = refl
constant-behind false c k f g h = ap one_more h ∙ pushed f c
  where
    pushed : (f : Option ℕ) (c : Bool) → one_more (or f (if_so c k)) ≡ or (one_more f) (if_so c (suc k))
    pushed (Some p) c = refl
    pushed None true = refl
    pushed None false = refl

constant-last : (b : Bool) → cond {A = Option ℕ} b (Some 1) None ≡ or None (if_so b 1)
constant-last true = refl
constant-last false = refl

pub constant-more : (ws : List Word) (w : Word) (n : List ℕ) → constant_named (ws ++ w ∷ []) n ≡ or (constant_named ws n) (if_so (bytes_eq n w.text) (suc (length ws)))
constant-more [] w n = constant-last (bytes_eq n w.text)
constant-more (x ∷ ws) w n = constant-behind (bytes_eq n x.text) (bytes_eq n w.text) (suc (length ws)) (constant_named ws n) (constant_named (ws ++ w ∷ []) n) (constant-more ws w n)

typedef-behind : (b c : Bool) (x y : Structure) (f g : Option Structure) → g ≡ or f (if_so c y) → cond b (Some x) g ≡ or (cond b (Some x) f) (if_so c y)
typedef-behind true c x y f g h = refl
typedef-behind false c x y f g h = h

typedef-last : (b : Bool) (x : Structure) → cond b (Some x) None ≡ or None (if_so b x)
typedef-last true x = refl
typedef-last false x = refl

pub typedef-more : (xs : List Structure) (x : Structure) (n : List ℕ) → typedef_named (xs ++ x ∷ []) n ≡ or (typedef_named xs n) (if_so (bytes_eq n x.name.text) x)
typedef-more [] x n = typedef-last (bytes_eq n x.name.text) x
typedef-more (y ∷ xs) x n = typedef-behind (bytes_eq n y.name.text) (bytes_eq n x.name.text) y x (typedef_named xs n) (typedef_named (xs ++ x ∷ []) n) (typedef-more xs x n)

or-assoc : (a b c : Bool) → ((a || b) || c) ≡ (a || (b || c))
or-assoc true b c = refl
or-assoc false b c = refl

or-false : (a : Bool) → (a || false) ≡ a
or-false true = refl
or-false false = refl

pub name-more : (ws : List Word) (w : Word) (n : List ℕ) → has_name (ws ++ w ∷ []) n ≡ (has_name ws n || bytes_eq n w.text)
name-more [] w n = or-false (bytes_eq n w.text)
name-more (x ∷ ws) w n = ap (λ (b : Bool). bytes_eq n x.text || b) (name-more ws w n) ∙ sym (or-assoc (bytes_eq n x.text) (has_name ws n) (bytes_eq n w.text))

pub cells-more : (ss : List Slot) (s : Slot) → cells_in_all (ss ++ s ∷ []) ≡ cells_in_all ss + s.length * s.stride
cells-more [] s = omega arith
cells-more (x ∷ ss) s = omega (arith, cells-more ss s)

pub known-more : (ts : List Structure) (ss : List Slot) (s : Slot) → AreKnown ts ss → IsKnown ts s.form → AreKnown ts (ss ++ s ∷ [])
known-more ts [] s h g = (g, tt)
known-more ts (x ∷ ss) s h g = (h.0, known-more ts ss s h.1 g)

-- ---- one kind of things among the names

-- a name that was not declared before is now a thing t
pub kind-more : {A : Type 0} (kind : Option Thing → Option A) → kind None ≡ None → (look : Option A) (x : Option Thing) (b : Bool) (t : Thing) (a : Option A) → kind (Some t) ≡ a → look ≡ kind x → (b ≡ true → x ≡ None) → or look (cond b a None) ≡ kind (option_or x (if_so b t))
kind-more kind none look None true t a is h new = ap (λ y. or y a) (h ∙ none) ∙ sym is
kind-more kind none look None false t a is h new = ap (λ y. or y None) (h ∙ none) ∙ sym none
kind-more kind none look (Some y) true t a is h new = let f : Some y ≡ None = new refl in cc
kind-more kind none None (Some y) false t a is h new = h
kind-more kind none (Some z) (Some y) false t a is h new = h
