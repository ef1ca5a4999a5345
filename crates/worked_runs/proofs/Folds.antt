-- A fold over expressions is a recursion on their data, which computes.
use Rattle.std.proofs.Common.{◌≡◌, ℕ, List, [], ◌∷◌, map, Option, Some, None, refl, ap, sym, subst, ◌∙◌}
use denote.Hole.Carrier.{out}
use Rattle.pml_program.specs.declared.expr.Expr.{Expr, Expr-F, map-Expr, out-Expr, roll-Expr, out-roll-Expr, fold-Expr, fold-roll-Expr, ind-Expr}
use Rattle.pml_program.specs.declared.expr.Want.{Want, Want-F, map-Want, out-Want, roll-Want, out-roll-Want, fold-Want, fold-roll-Want, ind-Want}
use Rattle.pml_program.specs.declared.expr.Target.{Target, Target-F, map-Target, out-Target, roll-Target, out-roll-Target}
use Rattle.pml_program.specs.declared.expr.Target.{fold-Target, fold-roll-Target, ind-Target}
use Rattle.pml_program.specs.declared.expr.Turn.{Turn, Turn-F, map-Turn, roll-Turn, out-roll-Turn, fold-Turn, fold-roll-Turn}
use Rattle.pml_program.specs.declared.expr.Expr.TheBlock.{the_bodies, the_family, the_fold, the_fold_is, member-Expr, member-Want, member-Target, member-Turn}
use Rattle.pml_program.specs.declared.expr.Expr.TheBlock.{laid-Expr, laid-Want, laid-Target, laid-Turn}
use Rattle.pml_program.specs.declared.expr.Expr.TheFolds.{family, steps, map_is-Expr, map_is-Want, map_is-Target, map_is-Turn}

-- any results, and a step for each type of the cycle
module _ (A B C D : Type 0)
    (value : Expr-F A B C D → A) (want : Want-F A B C D → B) (target : Target-F A B C D → C) (turn : Turn-F A B C D → D) where
  -- ---- the folds

  abbrev value_folded : Expr → A
  value_folded = fold-Expr A B C D value want target turn

  abbrev want_folded : Want → B
  want_folded = fold-Want A B C D value want target turn

  abbrev target_folded : Target → C
  target_folded = fold-Target A B C D value want target turn

  abbrev turn_folded : Turn → D
  turn_folded = fold-Turn A B C D value want target turn

  -- ---- the recursions

  abbrev pub value_of : Expr → A
  value_of = laid-Expr (family A B C D) (steps A B C D value want target turn)

  abbrev pub want_of : Want → B
  want_of = laid-Want (family A B C D) (steps A B C D value want target turn)

  abbrev pub target_of : Target → C
  target_of = laid-Target (family A B C D) (steps A B C D value want target turn)

  abbrev pub turn_of : Turn → D
  turn_of = laid-Turn (family A B C D) (steps A B C D value want target turn)

  -- ---- one level of the data, each part replaced by what it gives

  abbrev value_level : Expr-F Expr Want Target Turn → Expr-F A B C D
  value_level = map-Expr Expr Want Target Turn A B C D value_of want_of target_of turn_of

  abbrev want_level : Want-F Expr Want Target Turn → Want-F A B C D
  want_level = map-Want Expr Want Target Turn A B C D value_of want_of target_of turn_of

  abbrev target_level : Target-F Expr Want Target Turn → Target-F A B C D
  target_level = map-Target Expr Want Target Turn A B C D value_of want_of target_of turn_of

  abbrev turn_level : Turn-F Expr Want Target Turn → Turn-F A B C D
  turn_level = map-Turn Expr Want Target Turn A B C D value_of want_of target_of turn_of

  -- ---- a recursion is a step after those of the parts

  value_rolled : (x : Expr-F Expr Want Target Turn) → value_of (roll-Expr x) ≡ value (value_level x)
  unfolding out-Expr out
  value_rolled x =
      the_fold_is (family A B C D) (steps A B C D value want target turn) member-Expr (roll-Expr x)
      ∙ ap
      (λ y. value ((the_bodies member-Expr).map the_family (family A B C D) (the_fold (family A B C D) (steps A B C D value want target turn)) y))
      (out-roll-Expr x)
      ∙ ap value (map_is-Expr the_family (family A B C D) (the_fold (family A B C D) (steps A B C D value want target turn)) x)

  want_rolled : (x : Want-F Expr Want Target Turn) → want_of (roll-Want x) ≡ want (want_level x)
  unfolding out-Want out
  want_rolled x =
      the_fold_is (family A B C D) (steps A B C D value want target turn) member-Want (roll-Want x)
      ∙ ap
      (λ y. want ((the_bodies member-Want).map the_family (family A B C D) (the_fold (family A B C D) (steps A B C D value want target turn)) y))
      (out-roll-Want x)
      ∙ ap want (map_is-Want the_family (family A B C D) (the_fold (family A B C D) (steps A B C D value want target turn)) x)

  target_rolled : (x : Target-F Expr Want Target Turn) → target_of (roll-Target x) ≡ target (target_level x)
  unfolding out-Target out
  target_rolled x =
      the_fold_is (family A B C D) (steps A B C D value want target turn) member-Target (roll-Target x)
      ∙ ap
      (λ y. target ((the_bodies member-Target).map the_family (family A B C D) (the_fold (family A B C D) (steps A B C D value want target turn)) y))
      (out-roll-Target x)
      ∙ ap target (map_is-Target the_family (family A B C D) (the_fold (family A B C D) (steps A B C D value want target turn)) x)

  turn_rolled : (x : Turn-F Expr Want Target Turn) → turn_of (roll-Turn x) ≡ turn (turn_level x)
  unfolding out
  turn_rolled x =
      the_fold_is (family A B C D) (steps A B C D value want target turn) member-Turn (roll-Turn x)
      ∙ ap
      (λ y. turn ((the_bodies member-Turn).map the_family (family A B C D) (the_fold (family A B C D) (steps A B C D value want target turn)) y))
      (out-roll-Turn x)
      ∙ ap turn (map_is-Turn the_family (family A B C D) (the_fold (family A B C D) (steps A B C D value want target turn)) x)

  -- ---- so the fold of each is its recursion, by induction

  abbrev E : Expr → Type 0
  E e = value_folded e ≡ value_of e

  abbrev W : Want → Type 0
  W w = want_folded w ≡ want_of w

  abbrev P : Target → Type 0
  P t = target_folded t ≡ target_of t

  abbrev S : Turn → Type 0
  S s = turn_folded s ≡ turn_of s

  abbrev Es : Type 0
  Es = (e : Expr) × E e

  abbrev Ws : Type 0
  Ws = (w : Want) × W w

  abbrev Ps : Type 0
  Ps = (t : Target) × P t

  abbrev Ss : Type 0
  Ss = (s : Turn) × S s

  -- an expression
  abbrev bare : Expr-F Es Ws Ps Ss → Expr-F Expr Want Target Turn
  bare = map-Expr Es Ws Ps Ss Expr Want Target Turn (λ q. q.0) (λ q. q.0) (λ q. q.0) (λ q. q.0)

  abbrev level_folded : Expr-F Expr Want Target Turn → Expr-F A B C D
  level_folded = map-Expr Expr Want Target Turn A B C D value_folded want_folded target_folded turn_folded

  wants-are : (ws : List Ws) → map want_folded (map (λ (w : Ws). w.0) ws) ≡ map want_of (map (λ (w : Ws). w.0) ws)
  wants-are [] = refl
  wants-are (w ∷ ws) = λ i. w.1 i ∷ wants-are ws i

  level-is : (y : Expr-F Es Ws Ps Ss) → level_folded (bare y) ≡ value_level (bare y)
  level-is (Expr-F.Number n) = refl
  level-is Expr-F.Pid = refl
  level-is Expr-F.ProcessCount = refl
  level-is Expr-F.Timeout = refl
  level-is (Expr-F.Read p) = λ i. Expr-F.Read (p.1 i)
  level-is (Expr-F.Ask f p) = λ i. Expr-F.Ask f (p.1 i)
  level-is (Expr-F.Poll p look ws) = λ i. Expr-F.Poll (p.1 i) look (wants-are ws i)
  level-is (Expr-F.Unary o a) = λ i. Expr-F.Unary o (a.1 i)
  level-is (Expr-F.Binary o a b) = λ i. Expr-F.Binary o (a.1 i) (b.1 i)
  level-is (Expr-F.Choice a b c) = λ i. Expr-F.Choice (a.1 i) (b.1 i) (c.1 i)

  expr-step : (x : Expr-F Expr Want Target Turn) (y : Expr-F Es Ws Ps Ss) → bare y ≡ x → E (roll-Expr x)
  expr-step x y is =
      subst (λ z. E (roll-Expr z)) is
      (fold-roll-Expr A B C D value want target turn (bare y) ∙ ap value (level-is y) ∙ sym (value_rolled (bare y)))

  -- what is wanted
  abbrev bare-want : Want-F Es Ws Ps Ss → Want-F Expr Want Target Turn
  bare-want = map-Want Es Ws Ps Ss Expr Want Target Turn (λ q. q.0) (λ q. q.0) (λ q. q.0) (λ q. q.0)

  abbrev want-level_folded : Want-F Expr Want Target Turn → Want-F A B C D
  want-level_folded = map-Want Expr Want Target Turn A B C D value_folded want_folded target_folded turn_folded

  want-level-is : (y : Want-F Es Ws Ps Ss) → want-level_folded (bare-want y) ≡ want_level (bare-want y)
  want-level-is (Want-F.Exactly n) = refl
  want-level-is (Want-F.Equal a) = λ i. Want-F.Equal (a.1 i)
  want-level-is (Want-F.Into p) = λ i. Want-F.Into (p.1 i)
  want-level-is Want-F.Anything = refl

  want-step : (x : Want-F Expr Want Target Turn) (y : Want-F Es Ws Ps Ss) → bare-want y ≡ x → W (roll-Want x)
  want-step x y is =
      subst (λ z. W (roll-Want z)) is
      (fold-roll-Want A B C D value want target turn (bare-want y) ∙ ap want (want-level-is y) ∙ sym (want_rolled (bare-want y)))

  -- a reference
  abbrev bare-target : Target-F Es Ws Ps Ss → Target-F Expr Want Target Turn
  bare-target = map-Target Es Ws Ps Ss Expr Want Target Turn (λ q. q.0) (λ q. q.0) (λ q. q.0) (λ q. q.0)

  turns-are : (ss : List Ss) → map turn_folded (map (λ (s : Ss). s.0) ss) ≡ map turn_of (map (λ (s : Ss). s.0) ss)
  turns-are [] = refl
  turns-are (s ∷ ss) = λ i. s.1 i ∷ turns-are ss i

  target-step : (x : Target-F Expr Want Target Turn) (y : Target-F Es Ws Ps Ss) → bare-target y ≡ x → P (roll-Target x)
  target-step x y is =
      subst (λ z. P (roll-Target z)) is
      (fold-roll-Target A B C D value want target turn (bare-target y)
      ∙ (λ i. target (record { local = y.local; variable = y.variable; form = y.form; turns = turns-are y.turns i }))
      ∙ sym (target_rolled (bare-target y)))

  -- a turn
  abbrev bare-turn : Turn-F Es Ws Ps Ss → Turn-F Expr Want Target Turn
  bare-turn = map-Turn Es Ws Ps Ss Expr Want Target Turn (λ q. q.0) (λ q. q.0) (λ q. q.0) (λ q. q.0)

  abbrev turn-level_folded : Turn-F Expr Want Target Turn → Turn-F A B C D
  turn-level_folded = map-Turn Expr Want Target Turn A B C D value_folded want_folded target_folded turn_folded

  abbrev made : ℕ → ℕ → ℕ → Option Es → Turn-F Es Ws Ps Ss
  made offset length stride index = record { offset = offset; length = length; stride = stride; index = index }

  turn-level-is :
      (offset length stride : ℕ) (index : Option Es)
      → turn-level_folded (bare-turn (made offset length stride index)) ≡ turn_level (bare-turn (made offset length stride index))
  turn-level-is offset length stride None = refl
  turn-level-is offset length stride (Some e) = λ i. record { offset = offset; length = length; stride = stride; index = Some (e.1 i) }

  turn-step : (x : Turn-F Expr Want Target Turn) (y : Turn-F Es Ws Ps Ss) → bare-turn y ≡ x → S (roll-Turn x)
  turn-step x y is =
      subst (λ z. S (roll-Turn z)) is
      (fold-roll-Turn A B C D value want target turn (bare-turn y)
      ∙ ap turn (turn-level-is y.offset y.length y.stride y.index)
      ∙ sym (turn_rolled (bare-turn y)))

  pub value-is : value_folded ≡ value_of
  value-is = λ i e. ind-Expr E W P S expr-step want-step target-step turn-step e i

  pub want-is : want_folded ≡ want_of
  want-is = λ i w. ind-Want E W P S expr-step want-step target-step turn-step w i

  pub target-is : target_folded ≡ target_of
  target-is = λ i t. ind-Target E W P S expr-step want-step target-step turn-step t i
