use Rattle.std.proofs.lemmas.Grind.{common_steps}
use Rattle.std.proofs.Common.{◌≡◌, ◌∙◌, ◌<◌, ℕ, zero, suc, true, false, List, [], ◌∷◌, length, drop, refl, sym, arith, rules, add-one}
use Rattle.trail_text.specs.Parts.{leads, has}
use Rattle.trail_text.proofs.scan.parted.Goals as goal

-- a word that stands first is there
has_here : (xs word : List ℕ) (n : ℕ) → n < length xs → leads (drop n xs) word ≡ true → has (drop n xs) word ≡ true
has_here [] word n lt h = absurd (omega arith)
has_here (x ∷ xs) word zero lt h = rw h refl
has_here (x ∷ xs) word (suc n) lt h = has_here xs word n (omega arith) h

-- where it does not stand first, it is there if it is behind the first byte
has_behind : (xs word : List ℕ) (n : ℕ) → n < length xs → leads (drop n xs) word ≡ false → has (drop (suc n) xs) word ≡ has (drop n xs) word
has_behind [] word n lt h = absurd (omega arith)
has_behind (x ∷ xs) word zero lt h = rw h refl
has_behind (x ∷ xs) word (suc n) lt h = has_behind xs word n (omega arith) h

pub returns-in-Some-clause-has : goal.returns-in-Some-clause-has
returns-in-Some-clause-has c =
    let found : leads (drop c.loop-at.at c.args.text.now) c.args.word.now ≡ true = first_of (search rules, grind (arith, common_steps, c.in-Some.ensures.cases)) in
    let here = has_here c.args.text.now c.args.word.now c.loop-at.at (search rules) found in
    sym (sym c.loop-at.invariant ∙ here)

pub loop-at-preserved : goal.loop-at-preserved
loop-at-preserved c =
    let missing : leads (drop c.loop-at.at c.args.text.now) c.args.word.now ≡ false = first_of (search rules, grind (arith, common_steps, c.in-None.ensures.cases)) in
    let behind = has_behind c.args.text.now c.args.word.now c.loop-at.at (search rules) missing in
    rw (add-one c.loop-at.at) (behind ∙ c.loop-at.invariant)
