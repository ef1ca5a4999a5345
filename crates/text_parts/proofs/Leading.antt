-- Numbers of parts lead to their places.
use Rattle.std.proofs.Common.{◌≡◌, ◌∙◌, ap, sym, refl, ℕ, zero, suc, ◌+◌, ◌-◌, ◌≤◌, Bool, true, false, List, [], ◌∷◌, ◌++◌, length, take, drop, map, arith}
use Rattle.std.specs.Prelude.{if◌then◌else◌}
use Rattle.source_lines.specs.Places.{is_line_feed}
use Rattle.text_parts.specs.declared.places.ColumnUnit as counting
use Rattle.text_parts.specs.declared.places.EditorPlace.{EditorPlace}
use Rattle.text_parts.specs.Offsets.{units_in}
use Rattle.text_parts.specs.declared.parts.Coloured.{Coloured}
use Rattle.text_parts.specs.Going.{at_place, start, stepped, gone, moved}
use Rattle.text_parts.specs.Coded.{between, five, coded, decoded, place_of, Rises}

gone_append : (u : counting.ColumnUnit) (p : EditorPlace) (xs ys : List ℕ) → gone u p (xs ++ ys) ≡ gone u (gone u p xs) ys
gone_append u p [] ys = refl
gone_append u p (x ∷ xs) ys = gone_append u (stepped u p x) xs ys

-- a step behind a place that lies so far behind another
one_more : (t : Bool) (p : EditorPlace) (l c w : ℕ)
    → moved p (if t then at_place (l + 1) 0 else at_place l (c + w)).line (if t then at_place (l + 1) 0 else at_place l (c + w)).column
    ≡ (if t then at_place ((moved p l c).line + 1) 0 else at_place (moved p l c).line ((moved p l c).column + w))
one_more true p zero c w =
    let e : 0 + 1 ≡ suc 0 = omega arith in
    let f : p.line + suc 0 ≡ p.line + 1 = omega arith in
    ap (λ (k : ℕ). moved p k 0) e ∙ ap (λ (k : ℕ). at_place k 0) f
one_more true p (suc l) c w =
    let e : suc l + 1 ≡ suc (suc l) = omega arith in
    let f : p.line + suc (suc l) ≡ p.line + suc l + 1 = omega arith in
    ap (λ (k : ℕ). moved p k 0) e ∙ ap (λ (k : ℕ). at_place k 0) f
one_more false p zero c w = let e : p.column + (c + w) ≡ p.column + c + w = omega arith in ap (at_place p.line) e
one_more false p (suc l) c w = refl

stepped_behind : (u : counting.ColumnUnit) (p q : EditorPlace) (b : ℕ) → moved p (stepped u q b).line (stepped u q b).column ≡ stepped u (moved p q.line q.column) b
stepped_behind u p q b = one_more (is_line_feed b) p q.line q.column (units_in u b)

gone_behind : (u : counting.ColumnUnit) (p q : EditorPlace) (bs : List ℕ) → moved p (gone u q bs).line (gone u q bs).column ≡ gone u (moved p q.line q.column) bs
gone_behind u p q [] = refl
gone_behind u p q (b ∷ bs) = gone_behind u p (stepped u q b) bs ∙ ap (λ (x : EditorPlace). gone u x bs) (stepped_behind u p q b)

not_moved : (p : EditorPlace) → moved p 0 0 ≡ p
not_moved p = let e : p.column + 0 ≡ p.column = omega arith in ap (at_place p.line) e

none_taken : (k : ℕ) → take {A = ℕ} k [] ≡ []
none_taken zero = refl
none_taken (suc k) = refl

take_behind : (n m : ℕ) (xs : List ℕ) → take n xs ++ take m (drop n xs) ≡ take (n + m) xs
take_behind zero m xs = let e : m ≡ 0 + m = omega arith in ap (λ (k : ℕ). take k xs) e
take_behind (suc n) m [] = none_taken m ∙ sym (none_taken (suc n + m))
take_behind (suc n) m (x ∷ xs) =
    let e : suc (n + m) ≡ suc n + m = omega arith in
    ap (λ (l : List ℕ). x ∷ l) (take_behind n m xs) ∙ ap (λ (k : ℕ). take k (x ∷ xs)) e

up_to : (text : List ℕ) (from to : ℕ) → from ≤ to → take from text ++ between text from to ≡ take to text
up_to text from to h =
    let e : from + (to - from) ≡ to = omega (arith, h) in
    take_behind from (to - from) text ∙ ap (λ (k : ℕ). take k text) e

-- from the place behind some bytes the numbers of a part lead to its place
leads : (u : counting.ColumnUnit) (text : List ℕ) (from to : ℕ) → from ≤ to
    → moved (gone u start (take from text)) (gone u start (between text from to)).line (gone u start (between text from to)).column ≡ gone u start (take to text)
leads u text from to h =
    gone_behind u (gone u start (take from text)) start (between text from to)
    ∙ ap (λ (x : EditorPlace). gone u x (between text from to)) (not_moved (gone u start (take from text)))
    ∙ sym (gone_append u start (take from text) (between text from to))
    ∙ ap (gone u start) (up_to text from to h)

pub all_lead : (u : counting.ColumnUnit) (text : List ℕ) (behind : ℕ) (parts : List Coloured) → Rises text behind parts
    → decoded (gone u start (take behind text)) (coded u text behind parts) ≡ map (place_of u text) parts
all_lead u text behind [] r = refl
all_lead u text behind (m ∷ ms) r =
    let here = leads u text behind m.at r.0 in
    ap (λ (x : EditorPlace). x ∷ decoded x (coded u text m.at ms)) here
    ∙ ap (λ (l : List EditorPlace). place_of u text m ∷ l) (all_lead u text m.at ms r.1.1)

pub all_lead_there : (u : counting.ColumnUnit) (text : List ℕ) (parts : List Coloured) → Rises text 0 parts
    → decoded start (coded u text 0 parts) ≡ map (place_of u text) parts
all_lead_there u text parts r = all_lead u text 0 parts r
