-- What is taken off a page and written, piece by piece.
use Rattle.std.proofs.Common.{◌≡◌, ◌∙◌, ap, sym, subst, refl, ℕ, suc, Bool, true, false, List, [], ◌∷◌, ◌++◌, length, ◌==◌, arith, append-nil, append_assoc}
use Rattle.std.proofs.lemmas.Bool.{true≢false, eqb-true}
use Rattle.std.proofs.lemmas.Grind.{flat_map-append}
use Rattle.view_text.specs.Written.{Written, Stays, Adds}
use Rattle.view_page.specs.Page.{held_byte, held, page}
use Rattle.view_page.specs.Pieces.{Moves, PiecesAreThePage}

not_before : (b c : Written) → Stays b c → c.refused ≡ false → b.refused ≡ false
not_before b c stays calm = by b.refused refl
  where
    by : (r : Bool) → b.refused ≡ r → b.refused ≡ false
    by true is = absurd (true≢false (sym (stays is) ∙ calm))
    by false is = is

-- what is written is taken off
pub added_moves : (o n : Written) (xs zs : List ℕ) → Adds o n xs → Moves o n (xs ++ zs) zs
added_moves o n xs zs added = record {
  stays = added.stays;
  moved = λ calm. ap (λ (l : List ℕ). l ++ zs) (added.added calm) ∙ append_assoc o.text xs zs;
}

pub front_moves : (o n : Written) (all xs zs : List ℕ) → all ≡ xs ++ zs → Adds o n xs → Moves o n all zs
front_moves o n all xs zs parts added = record {
  stays = added.stays;
  moved = λ calm. (added_moves o n xs zs added).moved calm ∙ ap (λ (l : List ℕ). o.text ++ l) (sym parts);
}

pub held_front_moves : (o n : Written) (all xs zs : List ℕ) → all ≡ xs ++ zs → Adds o n (held xs) → Moves o n (held all) (held zs)
held_front_moves o n all xs zs parts added =
    front_moves o n (held all) (held xs) (held zs) (ap held parts ∙ flat_map-append held_byte xs zs) added

-- more stands behind all that
pub moves_before : (o n : Written) (before after more : List ℕ) → Moves o n before after → Moves o n (before ++ more) (after ++ more)
moves_before o n before after more one = record {
  stays = one.stays;
  moved = λ calm. sym (append_assoc n.text after more) ∙ ap (λ (l : List ℕ). l ++ more) (one.moved calm) ∙ append_assoc o.text before more;
}

-- one after another
pub moves_chain : (o m n : Written) (xs ys zs : List ℕ) → Moves o m xs ys → Moves m n ys zs → Moves o n xs zs
moves_chain o m n xs ys zs one two = record {
  stays = λ r. two.stays (one.stays r);
  moved = λ calm. two.moved calm ∙ one.moved (not_before m n two.stays calm);
}

-- the last of the lines, and what stands behind them
pub last_moves : (o m n : Written) (before after end : List ℕ) → Moves o m before after → after ≡ [] → Adds m n end → Moves o n (before ++ end) []
last_moves o m n before after end one none added =
    moves_chain o m n (before ++ end) (after ++ end) [] (moves_before o m before after end one)
    (subst (λ (bs : List ℕ). Moves m n (bs ++ end) []) (sym none) (subst (λ (bs : List ℕ). Moves m n bs []) (append-nil end) (added_moves m n end [] added)))

-- where no line is left, nothing is held
pub nothing_held : (ls : List ℕ) (none : Bool) → none ≡ (length ls == 0) → none ≡ true → held ls ≡ []
nothing_held [] none is so = refl
nothing_held (l ∷ ls) none is so = let e : suc (length ls) ≡ 0 = eqb-true (suc (length ls)) 0 (sym is ∙ so) in absurd (omega (arith, e))

-- all of it is written
pub pieces_are_the_page : PiecesAreThePage
pieces_are_the_page o n c some m one two =
    let all = moves_chain o m n (page c) some [] one two in
    record { stays = all.stays; added = λ calm. sym (append-nil n.text) ∙ all.moved calm }
