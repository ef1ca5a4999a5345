-- Closers, arguments and calls are those that are derived.
use Rattle.std.proofs.Common.{◌≡◌, ℕ, zero, suc, ◌+◌, Bool, true, false, List, [], ◌∷◌, ◌++◌, length, Option, Some, None, refl, sym, ap, ◌∙◌, subst, arith, append_assoc, length-append}
use Rattle.std.specs.List.{onto_first}
use Rattle.std.specs.Prelude.{◌≢◌, nat_eq, ◌&&◌, if◌then◌else◌, find, option_map}
use Rattle.std.specs.Str.{bytes_eq}
use Rattle.std.proofs.lemmas.Bool.{eqb-true}
use Rattle.std.proofs.lemmas.Slice.Eq.{bytes_eq-Decides}
use Rattle.pml_token.specs.declared.token.Kind.{Kind}
use Rattle.pml_token.specs.declared.token.Kind.TheVariants.{OpenParen, Comma}
use Rattle.pml_token.specs.Word.{same_kind, Word}
use Rattle.promela_text.specs.Inlines.{is_name, begins_as, to_closing, closing, level_behind, part_turn, parts, arguments, Inline, callee}
use Rattle.inline_laws.specs.Called.{Balanced, nothing, other, bracket, ClosesBehind, open_behind, IsPart, no_token, one_token, Split, last_part, one_part, AreArguments, no_argument, some_arguments, IsFirstOf, at_first, behind_other, IsCalled}

pub some_is : {A : Type 0} (x y : A) → Some x ≡ Some y → x ≡ y
some_is {A} x y h = cc

pub none_is_not : {A : Type 0} (x : A) → None ≡ Some x → ⊥
none_is_not {A} x h = cc

pub not_both : (b : Bool) → b ≡ true → b ≡ false → ⊥
not_both b h k = cc

-- ---- what closes a bracket

more_by : ℕ → Option ℕ → Option ℕ
more_by zero o = o
more_by (suc k) o = option_map suc (more_by k o)

more_some : (k : ℕ) → more_by k (Some 0) ≡ Some k
unfolding more_by
more_some zero = refl
more_some (suc k) = ap (option_map suc) (more_some k)

more_add : (k m : ℕ) (o : Option ℕ) → more_by k (more_by m o) ≡ more_by (k + m) o
unfolding more_by
more_add zero m o = let e : m ≡ 0 + m = omega arith in ap (λ (n : ℕ). more_by n o) e
more_add (suc k) m o = let e : suc (k + m) ≡ suc k + m = omega arith in ap (option_map suc) (more_add k m o) ∙ ap (λ (n : ℕ). more_by n o) e

module _ (opener closer : Kind) where
  abbrev close : List Word → ℕ → Option ℕ
  close = closing opener closer

  turn_is : (w : Word) (ws : List Word) (n : ℕ) (a b : Bool) → same_kind w.kind closer ≡ a → same_kind w.kind opener ≡ b → close (w ∷ ws) n ≡ to_closing a b (close ws) n
  turn_is w ws n a b closes opens =
      ap (λ (x : Bool). to_closing x (same_kind w.kind opener) (close ws) n) closes ∙ ap (λ (x : Bool). to_closing a x (close ws) n) opens

  -- a token that closes, whatever else it does
  closes_now : (w : Word) (ws : List Word) → same_kind w.kind closer ≡ true → close (w ∷ ws) 0 ≡ Some 0
  closes_now w ws closes = turn_is w ws 0 true (same_kind w.kind opener) closes refl

  closes_inner : (w : Word) (ws : List Word) (n : ℕ) → same_kind w.kind closer ≡ true → close (w ∷ ws) (suc n) ≡ option_map suc (close ws n)
  closes_inner w ws n closes = turn_is w ws (suc n) true (same_kind w.kind opener) closes refl

  -- balanced tokens are passed over
  passed : (xs ws : List Word) (n : ℕ) → Balanced opener closer xs → close (xs ++ ws) n ≡ more_by (length xs) (close ws n)
  unfolding more_by
  passed xs ws n nothing = refl
  passed xs ws n (other {w = w} {ws = ys} not_closes not_opens rest) =
      turn_is w (ys ++ ws) n false false not_closes not_opens ∙ ap (option_map suc) (passed ys ws n rest)
  passed xs ws n (bracket {w = w} {xs = ys} {ws = zs} v not_closes opens inner closes rest) =
      let size : suc (length ys + suc (length zs)) ≡ length (w ∷ (ys ++ v ∷ zs)) = grind (arith, length-append ys (v ∷ zs)) in
      turn_is w ((ys ++ v ∷ zs) ++ ws) n false true not_closes opens
      ∙ ap (λ (l : List Word). option_map suc (close l (suc n))) (append_assoc ys (v ∷ zs) ws)
      ∙ ap (option_map suc) (passed ys (v ∷ zs ++ ws) (suc n) inner
      ∙ ap (more_by (length ys)) (closes_inner v (zs ++ ws) n closes ∙ ap (option_map suc) (passed zs ws n rest))
      ∙ more_add (length ys) (suc (length zs)) (close ws n))
      ∙ ap (λ (k : ℕ). more_by k (close ws n)) size

  pub are_closers : (ws : List Word) (k : ℕ) → ClosesBehind opener closer ws k → close ws 0 ≡ Some k
  are_closers ws k c =
      ap (λ (l : List Word). close l 0) c.is ∙ passed c.inner (c.closes ∷ c.behind) 0 c.balanced ∙ ap (more_by (length c.inner)) (closes_now c.closes c.behind c.closing_kind)
      ∙ more_some (length c.inner) ∙ ap (λ (n : ℕ). Some n) (sym c.before)

  -- n brackets more are closed before: balanced tokens and one that closes, n times, and then once more
  data Pieces : ℕ → List Word → ℕ → Type 0 where
    last : {ws : List Word} {k : ℕ} → ClosesBehind opener closer ws k → Pieces 0 ws k
    more : {n k m : ℕ} {ws : List Word} → (c : ClosesBehind opener closer ws k) → Pieces n c.behind m → Pieces (suc n) ws (k + 1 + m)

  -- a token before them that does neither
  widen : (w : Word) (ws : List Word) (k : ℕ) → same_kind w.kind closer ≡ false → same_kind w.kind opener ≡ false → ClosesBehind opener closer ws k
      → ClosesBehind opener closer (w ∷ ws) (suc k)
  widen w ws k not_closes not_opens c = record {
    inner = w ∷ c.inner;
    closes = c.closes;
    behind = c.behind;
    is = ap (λ (l : List Word). w ∷ l) c.is;
    balanced = other not_closes not_opens c.balanced;
    closing_kind = c.closing_kind;
    before = let b = c.before in grind (arith, b);
  }

  -- a bracket round the first of them
  around : (w : Word) (ws : List Word) (k m : ℕ) → same_kind w.kind closer ≡ false → same_kind w.kind opener ≡ true → (c : ClosesBehind opener closer ws k)
      → ClosesBehind opener closer c.behind m → ClosesBehind opener closer (w ∷ ws) (suc (k + 1 + m))
  around w ws k m not_closes opens c d = record {
    inner = w ∷ (c.inner ++ c.closes ∷ d.inner);
    closes = d.closes;
    behind = d.behind;
    is = ap (λ (l : List Word). w ∷ l) (c.is ∙ ap (λ (l : List Word). c.inner ++ c.closes ∷ l) d.is ∙ sym (append_assoc c.inner (c.closes ∷ d.inner) (d.closes ∷ d.behind)));
    balanced = bracket c.closes not_closes opens c.balanced c.closing_kind d.balanced;
    closing_kind = d.closing_kind;
    before = let a = c.before in let b = d.before in grind (arith, a, b, length-append c.inner (c.closes ∷ d.inner));
  }

  here : (w : Word) (ws : List Word) → same_kind w.kind closer ≡ true → ClosesBehind opener closer (w ∷ ws) 0
  here w ws closes = record { inner = []; closes = w; behind = ws; is = refl; balanced = nothing; closing_kind = closes; before = refl }

  as_many : (n : ℕ) (ws : List Word) (k m : ℕ) → k ≡ m → Pieces n ws k → Pieces n ws m
  as_many n ws k m same p = subst (Pieces n ws) same p

  widen_all : (w : Word) (ws : List Word) (n k : ℕ) → same_kind w.kind closer ≡ false → same_kind w.kind opener ≡ false → Pieces n ws k → Pieces n (w ∷ ws) (suc k)
  unfolding widen
  widen_all w ws n k not_closes not_opens (last c) = last (widen w ws k not_closes not_opens c)
  widen_all w ws n k not_closes not_opens (more {n = n'} {k = j} {m = m} c rest) =
      let same : suc j + 1 + m ≡ suc (j + 1 + m) = omega arith in
      as_many (suc n') (w ∷ ws) (suc j + 1 + m) (suc (j + 1 + m)) same (more (widen w ws j not_closes not_opens c) rest)

  enclose : (w : Word) (ws : List Word) (n k : ℕ) → same_kind w.kind closer ≡ false → same_kind w.kind opener ≡ true → Pieces (suc n) ws k → Pieces n (w ∷ ws) (suc k)
  unfolding around
  enclose w ws n k not_closes opens (more {k = j} {m = m} c (last d)) = last (around w ws j m not_closes opens c d)
  enclose w ws n k not_closes opens (more {k = j} c (more {n = n'} {k = i} {m = m} d rest)) =
      let same : suc (j + 1 + i) + 1 + m ≡ suc (j + 1 + (i + 1 + m)) = omega arith in
      as_many (suc n') (w ∷ ws) (suc (j + 1 + i) + 1 + m) (suc (j + 1 + (i + 1 + m))) same (more (around w ws j i not_closes opens c d) rest)

  one_less : (o : Option ℕ) (k : ℕ) → option_map suc o ≡ Some k → (j : ℕ) × (o ≡ Some j) × (suc j ≡ k)
  one_less None k h = absurd (none_is_not k h)
  one_less (Some j) k h = (j, refl, some_is (suc j) k h)

  pieces : (ws : List Word) (n k : ℕ) → close ws n ≡ Some k → Pieces n ws k
  unfolding here one_less
  pieces [] n k h = absurd (none_is_not k h)
  pieces (w ∷ ws) n k h = by (same_kind w.kind closer) (same_kind w.kind opener) refl refl n h (λ m j. pieces ws m j)
    where
      by : (a b : Bool) → same_kind w.kind closer ≡ a → same_kind w.kind opener ≡ b → (m : ℕ) → close (w ∷ ws) m ≡ Some k
          → ((i j : ℕ) → close ws i ≡ Some j → Pieces i ws j) → Pieces m (w ∷ ws) k
      by true b closes opens zero is rest = subst (Pieces 0 (w ∷ ws)) (some_is 0 k (sym (closes_now w ws closes) ∙ is)) (last (here w ws closes))
      by true b closes opens (suc m) is rest =
          let less = one_less (close ws m) k (sym (closes_inner w ws m closes) ∙ is) in
          let same : 0 + 1 + less.0 ≡ k = omega (arith, less.2) in
          as_many (suc m) (w ∷ ws) (0 + 1 + less.0) k same (more (here w ws closes) (rest m less.0 less.1))
      by false true closes opens m is rest =
          let less = one_less (close ws (suc m)) k (sym (turn_is w ws m false true closes opens) ∙ is) in
          as_many m (w ∷ ws) (suc less.0) k less.2 (enclose w ws m less.0 closes opens (rest (suc m) less.0 less.1))
      by false false closes opens m is rest =
          let less = one_less (close ws m) k (sym (turn_is w ws m false false closes opens) ∙ is) in
          as_many m (w ∷ ws) (suc less.0) k less.2 (widen_all w ws m less.0 closes opens (rest m less.0 less.1))

  first_piece : (ws : List Word) (k : ℕ) → Pieces 0 ws k → ClosesBehind opener closer ws k
  first_piece ws k (last c) = c

  pub closers_are : (ws : List Word) (k : ℕ) → close ws 0 ≡ Some k → ClosesBehind opener closer ws k
  closers_are ws k h = first_piece ws k (pieces ws 0 k h)

-- ---- arguments

and_true : (a b : Bool) → (a && b) ≡ true → (a ≡ true) × (b ≡ true)
and_true true b h = (refl, h)
and_true false b h = absurd (not_both false h refl)

is_zero : (n : ℕ) → nat_eq n 0 ≡ true → n ≡ 0
is_zero n h = eqb-true n 0 h

put_in : (w : Word) (ws : List Word) (ps : List (List Word)) (n : ℕ) → (same_kind w.kind Comma && nat_eq n 0) ≡ false → Split (level_behind n w.kind) ws ps → Split n (w ∷ ws) (onto_first w ps)
put_in w ws ps n stays (last_part part) = last_part (one_token stays part)
put_in w ws ps n stays (one_part v part none comma rest) = one_part v (one_token stays part) none comma rest

pub parts_are : (ws : List Word) (n : ℕ) → Split n ws (parts ws n)
parts_are [] n = last_part no_token
parts_are (w ∷ ws) n = by (same_kind w.kind Comma && nat_eq n 0) refl (parts_are ws 0) (parts_are ws (level_behind n w.kind))
  where
    by : (t : Bool) → (same_kind w.kind Comma && nat_eq n 0) ≡ t → Split 0 ws (parts ws 0) → Split (level_behind n w.kind) ws (parts ws (level_behind n w.kind))
        → Split n (w ∷ ws) (part_turn t w (parts ws) n)
    by true is new old = let both = and_true (same_kind w.kind Comma) (nat_eq n 0) is in one_part w no_token (is_zero n both.1) both.0 new
    by false is new old = put_in w ws (parts ws (level_behind n w.kind)) n is old

one_whole : (xs : List Word) (n : ℕ) → IsPart n xs → parts xs n ≡ xs ∷ []
one_whole xs n no_token = refl
one_whole xs n (one_token {w = w} {ws = ws} stays part) =
    ap (λ (t : Bool). part_turn t w (parts ws) n) stays ∙ ap (onto_first w) (one_whole ws (level_behind n w.kind) part)

up_to_comma : (xs ws : List Word) (v : Word) (n : ℕ) → IsPart n xs → open_behind n xs ≡ 0 → same_kind v.kind Comma ≡ true → parts (xs ++ v ∷ ws) n ≡ xs ∷ parts ws 0
up_to_comma xs ws v n no_token none comma =
    ap (parts (v ∷ ws)) none ∙ ap (λ (t : Bool). part_turn (t && nat_eq 0 0) v (parts ws) 0) comma
up_to_comma xs ws v n (one_token {w = w} {ws = ys} stays part) none comma =
    ap (λ (t : Bool). part_turn t w (parts (ys ++ v ∷ ws)) n) stays ∙ ap (onto_first w) (up_to_comma ys ws v (level_behind n w.kind) part none comma)

pub are_parts : (ws : List Word) (n : ℕ) (ps : List (List Word)) → Split n ws ps → parts ws n ≡ ps
are_parts ws n ps (last_part part) = one_whole ws n part
are_parts ws n ps (one_part {xs = xs} {ws = ys} {ps = qs} v part none comma rest) =
    up_to_comma xs ys v n part none comma ∙ ap (λ (l : List (List Word)). xs ∷ l) (are_parts ys 0 qs rest)

pub arguments_are : (ws : List Word) → AreArguments ws (arguments ws)
arguments_are [] = no_argument
arguments_are (w ∷ ws) = some_arguments (parts_are (w ∷ ws) 0)

pub are_arguments : (ws : List Word) (ps : List (List Word)) → AreArguments ws ps → arguments ws ≡ ps
are_arguments ws ps no_argument = refl
are_arguments ws ps (some_arguments {w = w} {ws = vs} split) = are_parts (w ∷ vs) 0 ps split

-- ---- what a name calls

pub other_name : (n m : List ℕ) → n ≢ m → bytes_eq n m ≡ false
other_name n m apart = by (bytes_eq n m) refl
  where
    by : (t : Bool) → bytes_eq n m ≡ t → bytes_eq n m ≡ false
    by true is = absurd (apart ((bytes_eq-Decides n m).0 is))
    by false is = is

by_name : List ℕ → List Inline → Option Inline
by_name n known = find (λ d. bytes_eq n d.name) known

first_is : (n : List ℕ) (known : List Inline) (d : Inline) → by_name n known ≡ Some d → IsFirstOf n known d
unfolding by_name
first_is n [] d h = absurd (none_is_not d h)
first_is n (e ∷ es) d h = by (bytes_eq n e.name) refl (λ k. first_is n es d k)
  where
    by : (t : Bool) → bytes_eq n e.name ≡ t → (by_name n es ≡ Some d → IsFirstOf n es d) → IsFirstOf n (e ∷ es) d
    by true is rest =
        let found : Some e ≡ Some d = sym (ap (λ (t : Bool). if t then Some e else by_name n es) is) ∙ h in
        subst (λ (x : Inline). IsFirstOf n (e ∷ es) x) (some_is e d found) (at_first ((bytes_eq-Decides n e.name).0 is))
    by false is rest =
        let on : by_name n es ≡ Some d = sym (ap (λ (t : Bool). if t then Some e else by_name n es) is) ∙ h in
        behind_other (λ same. not_both (bytes_eq n e.name) ((bytes_eq-Decides n e.name).1 same) is) (rest on)

is_first : (n : List ℕ) (known : List Inline) (d : Inline) → IsFirstOf n known d → by_name n known ≡ Some d
unfolding by_name
is_first n known d (at_first {ds = ds} same) = ap (λ (t : Bool). if t then Some d else by_name n ds) ((bytes_eq-Decides n d.name).1 same)
is_first n known d (behind_other {e = e} {ds = ds} apart first) =
    ap (λ (t : Bool). if t then Some e else by_name n ds) (other_name n e.name apart) ∙ is_first n ds d first

pub calls_are : (known : List Inline) (w : Word) (ws : List Word) (d : Inline) → callee known w ws ≡ Some d → IsCalled known w ws d
unfolding callee by_name
calls_are known w ws d h = by (is_name w && begins_as OpenParen ws) refl
  where
    by : (t : Bool) → (is_name w && begins_as OpenParen ws) ≡ t → IsCalled known w ws d
    by true is =
        let both = and_true (is_name w) (begins_as OpenParen ws) is in
        let found : by_name w.text known ≡ Some d = sym (ap (λ (t : Bool). if t then by_name w.text known else None) is) ∙ h in
        record { named = both.0; opened = both.1; first = first_is w.text known d found }
    by false is =
        let found : None ≡ Some d = sym (ap (λ (t : Bool). if t then by_name w.text known else None) is) ∙ h in
        absurd (none_is_not d found)

pub are_calls : (known : List Inline) (w : Word) (ws : List Word) (d : Inline) → IsCalled known w ws d → callee known w ws ≡ Some d
unfolding callee by_name
are_calls known w ws d c =
    ap (λ (t : Bool). if t && begins_as OpenParen ws then by_name w.text known else None) c.named
    ∙ ap (λ (t : Bool). if t then by_name w.text known else None) c.opened ∙ is_first w.text known d c.first
