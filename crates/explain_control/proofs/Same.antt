-- Each site says of its post what the post itself says.
use Rattle.std.proofs.Common.{◌≡◌, ℕ, zero, suc, ◌+◌, MatchOption, List, [], ◌∷◌, ◌++◌, Bool, true, false, ◌||◌, nat_lt, Option, Some, None, length, map, get_or, refl, sym, ap, subst, ◌∙◌, arith}
use Rattle.std.proofs.lemmas.List.{map-append, length-map}
use Rattle.pml_token.specs.Word.{Word}
use Rattle.pml_program.specs.declared.program.Action.{Action}
use Rattle.pml_program.specs.declared.program.Action.TheVariants as action
use Rattle.pml_program.specs.declared.program.Stmt.{Stmt}
use Rattle.pml_program.specs.declared.program.Seq.{Seq, Seq', Row_of-Stmt, end_of-Stmt, more_of-Stmt}
use Rattle.pml_program.specs.declared.program.Basic.{Basic, Plain, Goto, Break, If', Do', Block, Atomic, DStep, Unless, Row_of-Seq, end_of-Seq, more_of-Seq}
use Rattle.promela_process.specs.Control.{steps}
use Rattle.pml_control.specs.declared.ends.Ending.{Ending}
use Rattle.pml_control.specs.declared.ends.Ending.TheVariants as ending
use Rattle.pml_control.specs.Ends.{ending_of, AreEnds}
use Rattle.pml_control.specs.Graph.{Spot, nexts, stay, pass, else_of, posts_in, posts_arm, posts_row, posts_options, posts_list, posts_of, spot_of, bad_step, bad_end as post_end}
use Rattle.explain_control.specs.declared.site.PostMatter.{PostMatter}
use Rattle.explain_control.specs.declared.site.PostMatter.TheVariants as matter
use Rattle.explain_control.specs.declared.site.PostSite.{PostSite}
use Rattle.explain_control.specs.declared.body.BadFirstPoint.{BadFirstPoint}
use Rattle.explain_control.specs.declared.body.Circle.{Circle}
use Rattle.explain_control.specs.Sites.{site, bare, first_line, matter_of, sites_in, sites_arm, sites_row, sites_options, sites_list, sites_of}
use Rattle.explain_control.specs.Blamed.{is_else, site_at, bad_point, bad_matter, is_bad, is_bad_step, stays_at, NoneIsBad, IsFirstBad, IsStep, NoStepIsBad, IsBlamedStep, IsRound, IsBlamedCircle}

abbrev step_of : PostMatter → Option (ℕ × ℕ)
step_of (matter.DStep least first) = Some (least, first)
step_of m = None

-- what is asked of a first point
abbrev Asked : Type 0
Asked = Bool × Option (ℕ × ℕ)

abbrev of_post : Spot → Asked
of_post n = (n.is_else, n.d_step)

abbrev of_site : PostSite → Asked
of_site s = (is_else s.matter, step_of s.matter)

plain : (a : Action) (o : Option ℕ) (ls : List Word) → of_post (stay ls (else_of a)) ≡ of_site (site o (matter_of a))
plain action.Else o ls = refl
plain (action.Assign t e) o ls = refl
plain (action.AssignRun t r) o ls = refl
plain (action.Increment t) o ls = refl
plain (action.Decrement t) o ls = refl
plain (action.Run r) o ls = refl
plain (action.Send t s es) o ls = refl
plain (action.Receive t s r ws) o ls = refl
plain (action.Printf t es) o ls = refl
plain (action.Printm e) o ls = refl
plain (action.Assert e) o ls = refl
plain (action.Holds e) o ls = refl

abbrev Agree : List Spot → List PostSite → Type 0
Agree ns ss = map of_post ns ≡ map of_site ss

long : (ns : List Spot) (ss : List PostSite) → Agree ns ss → length ns ≡ length ss
long ns ss e = sym (length-map ns of_post) ∙ ap length e ∙ length-map ss of_site

join : (ns ms : List Spot) (ss ts : List PostSite) → Agree ns ss → Agree ms ts → Agree (ns ++ ms) (ss ++ ts)
join ns ms ss ts e f =
    map-append of_post ns ms ∙ ap (λ xs. xs ++ map of_post ms) e ∙ ap (λ xs. map of_site ss ++ xs) f ∙ sym (map-append of_site ss ts)

-- a list and one behind it, both by how long the first is
join_by : (last : ℕ) (ns : List Spot) (ss : List PostSite) (f : ℕ → List Spot) (g : ℕ → List PostSite) → Agree ns ss → ((k : ℕ) → Agree (f k) (g k)) → Agree (ns ++ f (last + length ns)) (ss ++ g (last + length ss))
join_by last ns ss f g e h = join ns (f (last + length ns)) ss (g (last + length ss)) e (h (last + length ns) ∙ ap (λ k. map of_site (g (last + k))) (long ns ss e))

closed : (ns : List Spot) (ss : List PostSite) (n : Spot) (s : PostSite) → Agree ns ss → of_post n ≡ of_site s → Agree (ns ++ n ∷ []) (ss ++ s ∷ [])
closed ns ss n s e h = join ns (n ∷ []) ss (s ∷ []) e (ap (λ x. x ∷ []) h)

mutual
  in_same : (ls : List Word) (o : Option ℕ) (last out : ℕ) (inside : Bool) (s : Basic) → Agree (posts_in ls last out inside s) (sites_in o last s)
  in_same ls o last out inside (Plain a) = ap (λ x. x ∷ []) (plain a o ls)
  in_same ls o last out inside (Goto l) = refl
  in_same ls o last out inside Break = refl
  in_same ls o last out inside (If' m row) = closed (posts_options last last out inside row) (sites_options last row) (stay ls false) (site o matter.Other) (options_same last last out inside row) refl
  in_same ls o last out inside (Do' m row) =
      ap (λ xs. of_site bare ∷ xs) (closed (posts_options (last + 1) (last + 1) last inside row) (sites_options (last + 1) row) (pass ls (last + 1)) (site o matter.Other) (options_same (last + 1) (last + 1) last inside row) refl)
  in_same ls o last out inside (Block s) = closed (posts_arm last last out inside s) (sites_arm last s) _ (site o matter.Other) (arm_same last last out inside s) refl
  in_same ls o last out inside (Atomic s) = closed (posts_arm last last out inside s) (sites_arm last s) _ (site o matter.Other) (arm_same last last out inside s) refl
  in_same ls o last out inside (DStep s) =
      let e : Agree (posts_arm last last out true s) (sites_arm last s) = arm_same last last out true s in
      closed (posts_arm last last out true s) (sites_arm last s) _ (site o (matter.DStep (last + 1) (last + length (sites_arm last s)))) e
      (ap (λ n. (false, Some (last + 1, last + n))) (long (posts_arm last last out true s) (sites_arm last s) e))
  in_same ls o last out inside (Unless s e) =
      join_by last (posts_arm last last out inside e) (sites_arm last e)
      (λ k. posts_arm k last out inside s ++ pass ls (k + length (posts_arm k last out inside s)) ∷ []) (λ k. sites_arm k s ++ site o matter.Other ∷ [])
      (arm_same last last out inside e)
      (λ k. closed (posts_arm k last out inside s) (sites_arm k s) _ (site o matter.Other) (arm_same k last out inside s) refl)

  arm_same : (last after out : ℕ) (inside : Bool) (s : Seq) → Agree (posts_arm last after out inside s) (sites_arm last s)
  arm_same last after out inside (Seq' m row) = ap (λ xs. of_site bare ∷ xs) (row_same (last + 1) out inside row)

  row_same : {n : _} (last out : ℕ) (inside : Bool) (row : Row_of-Stmt n) → Agree (posts_row last out inside row) (sites_row last row)
  row_same last out inside end_of-Stmt = refl
  row_same last out inside (more_of-Stmt ls s ts rest) =
      join_by last (posts_row last out inside rest) (sites_row last rest) (λ k. posts_in ls k out inside s) (λ k. sites_in (first_line ts) k s)
      (row_same last out inside rest) (λ k. in_same ls (first_line ts) k out inside s)

  options_same : {n : _} (last after out : ℕ) (inside : Bool) (row : Row_of-Seq n) → Agree (posts_options last after out inside row) (sites_options last row)
  options_same last after out inside end_of-Seq = refl
  options_same last after out inside (more_of-Seq s rest) =
      join_by last (posts_options last after out inside rest) (sites_options last rest) (λ k. posts_arm k after out inside s) (λ k. sites_arm k s)
      (options_same last after out inside rest) (λ k. arm_same k after out inside s)

list_same : (last out : ℕ) (inside : Bool) (ss : List Stmt) → Agree (posts_list last out inside ss) (sites_list last ss)
list_same last out inside [] = refl
list_same last out inside (s ∷ ss) =
    join_by last (posts_list last out inside ss) (sites_list last ss) (λ k. posts_in s.labels k out inside s.basic) (λ k. sites_in (first_line s.tokens) k s.basic)
    (list_same last out inside ss) (λ k. in_same s.labels (first_line s.tokens) k out inside s.basic)

of_body : (b : Seq) → Agree (posts_of b) (sites_of b)
of_body b = ap (λ xs. of_site bare ∷ xs) (list_same 0 0 false (steps b))

pub as_long : (b : Seq) → length (posts_of b) ≡ length (sites_of b)
as_long b = long (posts_of b) (sites_of b) (of_body b)

get_map : {X Y : Type 0} (f : X → Y) (xs : List X) (k : ℕ) (d : X) → get_or (map f xs) k (f d) ≡ f (get_or xs k d)
get_map f [] zero d = refl
get_map f [] (suc k) d = refl
get_map f (x ∷ xs) zero d = refl
get_map f (x ∷ xs) (suc k) d = get_map f xs k d

at_post : (b : Seq) (k : ℕ) → of_post (spot_of (posts_of b) k) ≡ of_site (site_at (sites_of b) k)
at_post b k = sym (get_map of_post (posts_of b) k (stay [] false)) ∙ ap (λ xs. get_or xs k (of_site bare)) (of_body b) ∙ get_map of_site (sites_of b) k bare

end_same : (b : Seq) (least first : ℕ) (e : Ending) → post_end (posts_of b) least first e ≡ bad_point (sites_of b) least first (stays_at e)
end_same b least first (ending.Stays end) = ap (λ x. nat_lt end least || (nat_lt first end || x)) (ap (λ (p : Asked). p.0) (at_post b end))
end_same b least first ending.Circles = refl
end_same b least first ending.Unseen = refl

matter_same : (b : Seq) (es : List Ending) (m : PostMatter) → bad_step (posts_of b) es (step_of m) ≡ bad_matter (sites_of b) es m
matter_same b es matter.Bare = refl
matter_same b es matter.Other = refl
matter_same b es matter.Else = refl
matter_same b es matter.Break = refl
matter_same b es (matter.Goto l) = refl
matter_same b es (matter.DStep least first) = end_same b least first (ending_of es first)

pub bad_same : (b : Seq) (es : List Ending) (k : ℕ) → is_bad_step b es k ≡ is_bad (sites_of b) es k
bad_same b es k = ap (λ (p : Asked). bad_step (posts_of b) es p.1) (at_post b k) ∙ matter_same b es (site_at (sites_of b) k).matter

stays_is : (e : Ending) (k : ℕ) → stays_at e ≡ Some k → e ≡ ending.Stays k
stays_is (ending.Stays end) k h = ap ending.Stays cc
stays_is ending.Circles k h = absurd cc
stays_is ending.Unseen k h = absurd cc

-- ---- what the code finds on sites, of posts
module _ (b : Seq) (ss : List PostSite) (es : List Ending) (is : ss ≡ sites_of b) (are : AreEnds (nexts (posts_of b)) es) where
  pub none_bad : NoneIsBad ss es → NoStepIsBad b
  none_bad h = record {
    ends = es;
    are = are;
    none = λ j l. bad_same b es j ∙ ap (λ xs. is_bad xs es j) (sym is) ∙ h j (omega (arith, l, as_long b, ap length is));
  }

  pub blamed : (k : ℕ) (x : BadFirstPoint) → IsFirstBad ss es k → x.step ≡ (site_at ss k).offset → (start point : ℕ) → IsStep ss es k start point → x.is_else ≡ is_else (site_at ss point).matter → (is_else (site_at ss point).matter ≡ true → x.point ≡ (site_at ss point).offset) → IsBlamedStep b x
  blamed k x h e start point s says marked = record {
    ends = es;
    are = are;
    post = k;
    within = omega (arith, h.within, as_long b, ap length is);
    bad = bad_same b es k ∙ ap (λ xs. is_bad xs es k) (sym is) ∙ h.bad;
    first = λ j m l. bad_same b es j ∙ ap (λ xs. is_bad xs es j) (sym is) ∙ h.first j m (omega (arith, l, as_long b, ap length is));
    step = e ∙ ap (λ xs. (site_at xs k).offset) is;
    least = s.least;
    start = start;
    point = point;
    is_step = ap (λ (p : Asked). p.1) (at_post b k) ∙ ap (λ xs. step_of (site_at xs k).matter) (sym is) ∙ ap step_of s.is;
    stays = stays_is (ending_of es start) point s.stays;
    says = says ∙ ap (λ xs. is_else (site_at xs point).matter) is ∙ sym (ap (λ (p : Asked). p.0) (at_post b point));
    marked = λ t. marked (sym says ∙ t) ∙ ap (λ xs. (site_at xs point).offset) is;
  }

pub circled : (b : Seq) (ss : List PostSite) (ns : List (Option ℕ)) (k : ℕ) (x : Circle) → ss ≡ sites_of b → ns ≡ nexts (posts_of b) → IsRound ss ns k x.labels.items → x.goto ≡ (site_at ss k).offset → IsBlamedCircle b x
circled b ss ns k x is same h e = record {
  post = k;
  round = subst (λ (ns : List (Option ℕ)). IsRound (sites_of b) ns k x.labels.items) same (subst (λ (xs : List PostSite). IsRound xs ns k x.labels.items) is h);
  goto = e ∙ ap (λ xs. (site_at xs k).offset) is;
}

pub none_of : {X : Type 0} (o : Option X) (P : Type 0) (Q : X → Type 0) → o ≡ None → MatchOption o P Q → P
none_of o P Q e h = subst (λ o. MatchOption o P Q) e h

pub some_of : {X : Type 0} (o : Option X) (x : X) (P : Type 0) (Q : X → Type 0) → o ≡ Some x → MatchOption o P Q → Q x
some_of o x P Q e h = subst (λ o. MatchOption o P Q) e h
