-- Counts up to 256.
use Rattle.std.proofs.Common.{◌≡◌, ℕ, ◌+◌, ◌*◌, ◌≤◌, ◌<◌, min, cond, nat_eq, zero, suc, Bool, true, false, List, [], ◌∷◌, refl, ap, sym, subst, ◌∙◌, inl, inr, arith}
use Rattle.std.proofs.lemmas.Nat.{mul-le}
use Rattle.std.proofs.lemmas.Bool.{cases_lt, cases_Bool, ltb-true, ltb-false}
use Rattle.std.specs.Prelude.{nat_lt, sum_by}
use Rattle.std.proofs.lemmas.List.Sums.{sum_by-cons}
use Rattle.pml_program.specs.declared.form.Form.{Form}
use Rattle.pml_program.specs.declared.form.Form.TheVariants as kind
use Rattle.promela_model.specs.declared.mark.Makes.TheVariants.{Numbers, Channels}
use Rattle.promela_model.specs.declared.mark.Declared.TheVariants as declared_as
use Rattle.promela_model.specs.declared.mark.What.{What}
use Rattle.promela_model.specs.declared.mark.What.TheVariants as what
use Rattle.promela_model.specs.declared.mark.Mark.{Mark}
use Rattle.promela_model.specs.Names.{Naming, form, length_of}
use Rattle.promela_model.specs.declared.condition.Condition.TheVariants as condition
use Rattle.promela_model.specs.Decided.{channels_of, made, channels, channels_in, started, processes}
use Rattle.check_conditions.specs.Step.{begun, by_processes}
use Rattle.check_conditions.specs.Finds.{Decides}

large : (n c : ℕ) → 256 < c → min (n * 256) 256 ≡ min (n * c) 256
large zero c h = omega arith
large (suc n) c h = omega (arith, mul-le 1 256 (suc n) 256 (omega arith) (omega arith), mul-le 1 c (suc n) c (omega arith) (omega arith))

-- a factor that is capped changes no capped product
pub capped : (n c : ℕ) → min (n * min c 256) 256 ≡ min (n * c) 256
capped n c = elim (cases_lt 256 c) [
  | inl h ↦ let e : min c 256 ≡ 256 = omega arith in ap (λ x. min (n * x) 256) e ∙ large n c h
  | inr h ↦ let e : min c 256 ≡ c = omega arith in ap (λ x. min (n * x) 256) e
]

-- f and g are the channels of each owner, and those counted up to 256
module _ (f g : ℕ → ℕ) (h : (o : ℕ) → g o ≡ min (f o) 256) where
  product : (n : ℕ) (x : Form) → min (n * channels_of x g) 256 ≡ min (n * channels_of x f) 256
  product n (kind.Struct t) = ap (λ c. min (n * c) 256) (h t) ∙ capped n (f t)
  product n _ = refl

  pub made_capped : (all : Naming) (w : What) → min (made all g w) 256 ≡ min (made all f w) 256
  made_capped all (what.Declares n (declared_as.Variable x s size Channels)) = refl
  made_capped all (what.Declares n (declared_as.Variable x s size Numbers)) = product (length_of size) (form all 0 s)
  made_capped all _ = refl

  pub by_processes_capped : (ms : List Mark) → min (by_processes g ms) 256 ≡ min (by_processes f ms) 256
  by_processes_capped [] = refl
  by_processes_capped (m ∷ ms) =
      let n = started m.what in
      let a : min (n * g m.owner) 256 ≡ min (n * f m.owner) 256 = ap (λ c. min (n * c) 256) (h m.owner) ∙ capped n (f m.owner) in
      omega (arith, a, by_processes_capped ms)

  module _ (all : Naming) (m : Mark) (more : ℕ) (e : more ≡ min (made all g m.what) 256) where
    by_case : (b : Bool) (o : ℕ) → cond b (min (g o + more) 256) (g o) ≡ min (cond b (made all f m.what) 0 + f o) 256
    by_case true o = omega (arith, e, made_capped all m.what, h o)
    by_case false o = omega (arith, h o)

-- one mark more
pub channels_more : (all : Naming) (ms : List Mark) (m : Mark) (g : ℕ → ℕ) (more : ℕ) → ((o : ℕ) → g o ≡ min (channels all ms o) 256) → more ≡ min (made all g m.what) 256 → (o : ℕ) → cond (nat_eq m.owner o) (min (g o + more) 256) (g o) ≡ min (channels all (m ∷ ms) o) 256
channels_more all ms m g more h e o = by_case (channels all ms) g h all m more e (nat_eq m.owner o) o

-- what is counted mark by mark is a sum over the marks
pub begun-is : (ms : List Mark) → begun ms ≡ processes ms
begun-is [] = refl
begun-is (m ∷ ms) = ap (λ n. started m.what + n) (begun-is ms) ∙ sym (sum_by-cons (λ (m : Mark). started m.what) m ms)

by_processes-is : (f : ℕ → ℕ) (ms : List Mark) → by_processes f ms ≡ sum_by (λ m. started m.what * f m.owner) ms
by_processes-is f [] = refl
by_processes-is f (m ∷ ms) = ap (λ n. started m.what * f m.owner + n) (by_processes-is f ms) ∙ sym (sum_by-cons (λ (m : Mark). started m.what * f m.owner) m ms)

-- whether there are too many, by counts up to 256
pub decided : (ms : List Mark) (g : ℕ → ℕ) (t a b : ℕ) → min (begun ms) 256 ≤ 255 → ((o : ℕ) → g o ≡ min (channels_in ms o) 256) → t ≡ a + b → a ≡ g 0 → b ≡ min (by_processes g ms) 256 → Decides (nat_lt 255 t) condition.Start ms
decided ms g t a b few h e ea eb =
    let f = by_processes_capped (channels_in ms) g h ms in
    let z = h 0 in
    let all = begun-is ms in
    let each = by_processes-is (channels_in ms) ms in
    elim (cases_Bool (nat_lt 255 t)) [
      | inl y ↦ let k = ltb-true 255 t y in subst (λ (d : Bool). Decides d condition.Start ms) (sym y) (inr (omega (arith, all, each)))
      | inr n ↦ let k = ltb-false 255 t n in subst (λ (d : Bool). Decides d condition.Start ms) (sym n) (omega (arith, all, each), omega (arith, all, each))
    ]
