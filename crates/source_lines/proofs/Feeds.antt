-- Lines of another text.
use Rattle.std.proofs.Common.{◌≡◌, ◌∙◌, ap, sym, ℕ, suc, ◌+◌, ◌<◌, Bool, true, false, List, drop, get_or, arith, length}
use Rattle.std.specs.Prelude.{if◌then◌else◌}
use Rattle.std.proofs.lemmas.List.{at_drop_more}
use Rattle.source_lines.specs.Places.{is_line_feed}
use Rattle.source_lines.specs.Beside.{behind_feeds}

pub at_feed : (xs : List ℕ) (i n m : ℕ) → i < length xs → n ≡ m + 1 → is_line_feed (get_or xs i 0) ≡ true → behind_feeds (drop i xs) n ≡ behind_feeds (drop (i + 1) xs) m
at_feed xs i n m below one is =
    let s : n ≡ suc m = omega (arith, one) in
    ap (behind_feeds (drop i xs)) s ∙ at_drop_more (λ (l : List ℕ). behind_feeds l (suc m)) xs i 0 below
    ∙ ap (λ (t : Bool). behind_feeds (drop (i + 1) xs) (if t then m else suc m)) is

pub at_other : (xs : List ℕ) (i n m : ℕ) → i < length xs → n ≡ m + 1 → is_line_feed (get_or xs i 0) ≡ false → behind_feeds (drop i xs) n ≡ behind_feeds (drop (i + 1) xs) n
at_other xs i n m below one is =
    let s : n ≡ suc m = omega (arith, one) in
    ap (behind_feeds (drop i xs)) s ∙ at_drop_more (λ (l : List ℕ). behind_feeds l (suc m)) xs i 0 below
    ∙ ap (λ (t : Bool). behind_feeds (drop (i + 1) xs) (if t then m else suc m)) is ∙ ap (behind_feeds (drop (i + 1) xs)) (sym s)
