-- What is declared stays so.
use Rattle.std.proofs.Common.{◌≡◌, ℕ, ◌<◌, ◌+◌, refl, List, [], ◌∷◌, ◌++◌, length, get_or, map, sym, ap, ◌∙◌, arith, subst}
use Rattle.std.specs.List.{AllByRecursion}
use Rattle.std.proofs.lemmas.List.{length_push, length-map, map-append}
use Rattle.std.proofs.lemmas.Option.{slice_get_read}
use Rattle.pml_program.specs.declared.program.Proctype.{Proctype}
use Rattle.pml_program.specs.declared.program.Program.{Program}
use Rattle.promela_process.specs.Store.{Frame}
use Rattle.promela_run.specs.State.{size, variables_at}
use Rattle.run_start.specs.Shown.{shape}
use Rattle.run_start.specs.Starting.{IsDeclared}
use Rattle.run_layout.specs.Tables.{slots_of}

All-push : {X : Type 0} (P : X → Type 0) (xs : List X) (x : X) → AllByRecursion P xs → P x → AllByRecursion P (xs ++ x ∷ [])
All-push P [] x h p = (p, tt)
All-push P (y ∷ ys) x h p = (h.0, All-push P ys x h.1 p)

pub variables_at_is : (p : Program) (k : ℕ) (q : Proctype) → k < length p.proctypes → q ≡ get_or p.proctypes k q → variables_at p k ≡ q.variables
variables_at_is p k q h e = ap slots_of (slice_get_read p.proctypes (length p.proctypes) k q refl h e)

-- one process more
pub declared_next : (p : Program) (old new : List Frame) (ks ls : List ℕ) (k : ℕ) → IsDeclared p old ks → length ks < 255 → k < length p.proctypes → shape new ≡ shape old ++ map size (variables_at p k) ∷ [] → ls ≡ ks ++ k ∷ [] → IsDeclared p new ls
declared_next p old new ks ls k d few h e g =
    let l : length ls ≡ length ks + 1 = ap length g ∙ length_push ks k in
    record {
      few = omega (arith, l, few);
      sorts = subst (AllByRecursion (λ x. x < length p.proctypes)) (sym g) (All-push (λ x. x < length p.proctypes) ks k d.sorts h);
      sizes =
          e ∙ ap (λ (x : List (List ℕ)). x ++ map size (variables_at p k) ∷ []) d.sizes
          ∙ ap (λ (x : List (List ℕ)). map size p.globals ∷ x) (sym (map-append (λ (x : ℕ). map size (variables_at p x)) ks (k ∷ [])))
          ∙ ap (λ (x : List ℕ). map size p.globals ∷ map (λ (y : ℕ). map size (variables_at p y)) x) (sym g);
    }

-- one frame more than processes
pub frames_of_sorts : (p : Program) (fs : List Frame) (ks : List ℕ) → IsDeclared p fs ks → length fs ≡ length ks + 1
frames_of_sorts p fs ks d =
    let l : length (shape fs) ≡ length fs = length-map fs (map length) in
    let r : length (map (λ (k : ℕ). map size (variables_at p k)) ks) ≡ length ks = length-map ks (λ (k : ℕ). map size (variables_at p k)) in
    sym l ∙ ap length d.sizes ∙ omega (arith, r)
