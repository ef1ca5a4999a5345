-- What is asked of the fields from one on.
use Rattle.std.proofs.Common.{◌≡◌, ℕ, ◌+◌, ◌<◌, Bool, true, false, ◌||◌, ◌&&◌, List, [], ◌∷◌, length, get_or, Result, Ok, Err, ℤ, pos, map, drop, refl, sym, ap, subst, ◌∙◌, arith}
use Rattle.std.proofs.lemmas.List.{at_drop_more}
use Rattle.diagnostics.specs.declared.fault.Fault.{Fault}
use Rattle.pml_tree.specs.declared.tree.Search.{Search}
use Rattle.pml_tree.specs.declared.tree.Search.TheVariants.{Matching}
use Rattle.pml_program.specs.declared.expr.Want.{Want}
use Rattle.promela_process.specs.declared.sought.Sought.{Sought}
use Rattle.promela_process.specs.Expressions.{matched, matches_field, Reading, Wanted, want, wants_of, is_match, ◌>>=◌}

-- where all ask ws, the rest asks something that the rest of the fields is where all fields are ws
abbrev pub Rest : ℕ → List Want → List ℤ → Reading → List Sought → Type 0
Rest i wants xs r ws = wants_of (map want wants) r ≡ Ok ws
    → (more : List Sought) × (wants_of (map want (drop i wants)) r ≡ Ok more) × (matched more (drop i xs) ≡ matched ws xs)

-- what is asked has a part for each argument
with-one : (x : Result (List Sought) Fault) (w : Sought) (ws : List Sought) → (x >>= λ more. Ok (w ∷ more)) ≡ Ok ws → (more : List Sought) × (x ≡ Ok more) × (w ∷ more ≡ ws)
with-one (Ok more) w ws h = (more, refl, cc)
with-one (Err f) w ws h = cc

wants-cons : (a : Wanted) (others : List Wanted) (r : Reading) (w : Sought) (ws : List Sought) → wants_of (a ∷ others) r ≡ Ok ws → a r ≡ Ok w → (more : List Sought) × (wants_of others r ≡ Ok more) × (w ∷ more ≡ ws)
wants-cons a others r w ws h e =
    with-one (wants_of others r) w ws (ap (λ (x : Result Sought Fault). x >>= λ one. wants_of others r >>= λ more. Ok (one ∷ more)) (sym e) ∙ h)

pub wants-length : (wants : List Want) (r : Reading) (ws : List Sought) → wants_of (map want wants) r ≡ Ok ws → length ws ≡ length wants
wants-length [] r ws h = cc
wants-length (a ∷ more) r ws h = found (want a r) refl (wants-length more r)
  where
    found : (x : Result Sought Fault) → want a r ≡ x → ((rest : List Sought) → wants_of (map want more) r ≡ Ok rest → length rest ≡ length more) → length ws ≡ length (a ∷ more)
    found (Ok w) e rest =
        let s = wants-cons (want a) (map want more) r w ws h e in
        let n : length s.0 ≡ length more = rest s.0 s.1 in
        let m : length (w ∷ s.0) ≡ length ws = ap length s.2 in
        omega (arith, n, m)
    found (Err f) e rest =
        let b : Err f ≡ Ok ws = ap (λ (x : Result Sought Fault). x >>= λ one. wants_of (map want more) r >>= λ others. Ok (one ∷ others)) (sym e) ∙ h in
        cc

-- one field more
pub Rest-next : (i : ℕ) (wants : List Want) (xs : List ℤ) (r : Reading) (ws : List Sought) (d : Want) (w : Sought) → i < length wants → i < length xs → want (get_or wants i d) r ≡ Ok w → matches_field w (get_or xs i (pos 0)) ≡ true → Rest i wants xs r ws → Rest (i + 1) wants xs r ws
Rest-next i wants xs r ws d w l k e t h all =
    let p = h all in
    let s = wants-cons (want (get_or wants i d)) (map want (drop (i + 1) wants)) r w p.0 (sym (at_drop_more (λ (l : List Want). wants_of (map want l) r) wants i d l) ∙ p.1) e in (
      s.0,
      s.1,
      ap (λ (b : Bool). b && matched s.0 (drop (i + 1) xs)) (sym t)
          ∙ ap (λ (m : List Sought). matched m (get_or xs i (pos 0) ∷ drop (i + 1) xs)) s.2
          ∙ sym (at_drop_more (matched p.0) xs i (pos 0) k)
          ∙ p.2,
    )

-- a message that does not match is passed over
pub match-next : (search : Search) (ws : List Sought) (ms : List (List ℤ)) (i : ℕ) → i < length ms → search ≡ Matching → matched ws (get_or ms i []) ≡ false → is_match search ws (drop (i + 1) ms) ≡ is_match search ws (drop i ms)
match-next search ws ms i l a e =
    subst (λ (b : Search). is_match b ws (drop (i + 1) ms) ≡ is_match b ws (drop i ms)) (sym a)
    (sym (at_drop_more (is_match Matching ws) ms i [] l ∙ ap (λ (b : Bool). b || is_match Matching ws (drop (i + 1) ms)) e))
