-- The definitions go over rows, and the code over lists.
use Rattle.std.proofs.Common.{◌≡◌, ℕ, ◌+◌, ◌<◌, List, [], ◌∷◌, ◌++◌, Option, length, refl, sym, ap, ◌∙◌, arith, append_assoc, length-append}
use mathlib.Core.Former.{Count}
use Rattle.pml_program.specs.declared.program.Stmt.{Stmt}
use Rattle.pml_program.specs.declared.program.Seq.{Seq, Seq', out-Seq, Row_of-Stmt, end_of-Stmt, more_of-Stmt, items-the_row-Stmt}
use Rattle.pml_program.specs.declared.program.Basic.{Basic, If, If', Do, Do', Row_of-Seq, end_of-Seq, more_of-Seq, items-the_row-Seq, items_hidden-the_row-Seq-0}
use Rattle.promela_process.specs.Control.{steps}
use Rattle.pml_control.proofs.Rows.{steps_out}
use Rattle.explain_control.specs.declared.site.PostMatter.TheVariants as matter
use Rattle.explain_control.specs.declared.site.PostSite.{PostSite}
use Rattle.explain_control.specs.Sites.{site, bare, first_line, sites_in, sites_arm, sites_row, sites_options, sites_list, sites_arms, last_of}

pub row_list : {n : _} (last : ℕ) (row : Row_of-Stmt n) → sites_row last row ≡ sites_list last (items-the_row-Stmt _ row)
row_list last end_of-Stmt = refl
row_list last (more_of-Stmt ls s ts rest) =
    ap (λ ns. ns ++ sites_in (first_line ts) (last + length ns) s) (row_list last rest)

pub arm_list : (last : ℕ) (s : Seq) → sites_arm last s ≡ bare ∷ sites_list (last + 1) (steps s)
arm_list last (Seq' m row) = ap (λ ns. bare ∷ ns) (row_list (last + 1) row)

options_list : {n : _} (last : ℕ) (row : Row_of-Seq n) → sites_options last row ≡ sites_arms last (items-the_row-Seq _ row)
options_list last end_of-Seq = refl
options_list last (more_of-Seq s rest) =
    ap (λ ns. ns ++ sites_arm (last + length ns) s) (options_list last rest)

-- the options of a choice, as a row
abbrev row_of : Basic → (n : Count) × Row_of-Seq n
row_of (If' m row) = (_, row)
row_of (Do' m row) = (_, row)
row_of s = (_, end_of-Seq)

in_if : (o : Option ℕ) (last : ℕ) (ss : List Seq) → sites_in o last (If ss) ≡ sites_arms last ss ++ site o matter.Other ∷ []
in_if o last ss =
    ap (λ ns. ns ++ site o matter.Other ∷ []) (options_list last (row_of (If ss)).1 ∙ ap (sites_arms last) (items_hidden-the_row-Seq-0 ss))

in_do : (o : Option ℕ) (last : ℕ) (ss : List Seq) → sites_in o last (Do ss) ≡ bare ∷ (sites_arms (last + 1) ss ++ site o matter.Other ∷ [])
in_do o last ss =
    ap (λ ns. bare ∷ (ns ++ site o matter.Other ∷ [])) (options_list (last + 1) (row_of (Do ss)).1 ∙ ap (sites_arms (last + 1)) (items_hidden-the_row-Seq-0 ss))

last_more : (old : List PostSite) (x : PostSite) → 0 < length old → last_of (old ++ x ∷ []) ≡ last_of old + 1
last_more old x h = omega (arith, h, length-append old (x ∷ []))

module _ (o : Option ℕ) (basic : Basic) (ss xs : List Seq) (old mid new : List PostSite) (all : xs ≡ ss) (end : new ≡ mid ++ site o matter.Other ∷ []) where
  pub if_done : basic ≡ If ss → mid ≡ old ++ sites_arms (last_of old) xs → new ≡ old ++ sites_in o (last_of old) basic
  if_done e h =
      end ∙ ap (λ ns. ns ++ site o matter.Other ∷ []) h
      ∙ append_assoc old (sites_arms (last_of old) xs) (site o matter.Other ∷ [])
      ∙ ap (λ ys. old ++ (sites_arms (last_of old) ys ++ site o matter.Other ∷ [])) all
      ∙ ap (λ ns. old ++ ns) (sym (in_if o (last_of old) ss))
      ∙ ap (λ b. old ++ sites_in o (last_of old) b) (sym e)

  pub do_done : (first : List PostSite) → 0 < length old → first ≡ old ++ bare ∷ [] → basic ≡ Do ss → mid ≡ first ++ sites_arms (last_of first) xs → new ≡ old ++ sites_in o (last_of old) basic
  do_done first some f e h =
      let n : last_of first ≡ last_of old + 1 = ap last_of f ∙ last_more old bare some in
      end ∙ ap (λ ns. ns ++ site o matter.Other ∷ []) h
      ∙ ap (λ k. (first ++ sites_arms k xs) ++ site o matter.Other ∷ []) n
      ∙ ap (λ ns. (ns ++ sites_arms (last_of old + 1) xs) ++ site o matter.Other ∷ []) f
      ∙ append_assoc (old ++ bare ∷ []) (sites_arms (last_of old + 1) xs) (site o matter.Other ∷ [])
      ∙ append_assoc old (bare ∷ []) (sites_arms (last_of old + 1) xs ++ site o matter.Other ∷ [])
      ∙ ap (λ ys. old ++ (bare ∷ (sites_arms (last_of old + 1) ys ++ site o matter.Other ∷ []))) all
      ∙ ap (λ ns. old ++ ns) (sym (in_do o (last_of old) ss))
      ∙ ap (λ b. old ++ sites_in o (last_of old) b) (sym e)

pub arm_done : (s : Seq) (old mid new : List PostSite) (x : PostSite) (stmts : List Stmt) → 0 < length old → x ≡ bare → mid ≡ old ++ x ∷ [] → stmts ≡ (out-Seq s).steps → new ≡ mid ++ sites_list (last_of mid) stmts → new ≡ old ++ sites_arm (last_of old) s
arm_done s old mid new x stmts some is f all h =
    let n : last_of mid ≡ last_of old + 1 = ap last_of f ∙ last_more old x some in
    h ∙ ap (λ k. mid ++ sites_list k stmts) n
    ∙ ap (λ ns. ns ++ sites_list (last_of old + 1) stmts) f
    ∙ append_assoc old (x ∷ []) (sites_list (last_of old + 1) stmts)
    ∙ ap (λ y. old ++ (y ∷ sites_list (last_of old + 1) stmts)) is
    ∙ ap (λ ss. old ++ (bare ∷ sites_list (last_of old + 1) ss)) (all ∙ steps_out s)
    ∙ ap (λ ns. old ++ ns) (sym (arm_list (last_of old) s))
