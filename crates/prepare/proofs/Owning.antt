-- Lines of the model's own file stand where their marker says.
use Rattle.std.proofs.Common.{◌≡◌, ℕ, zero, suc, ◌+◌, ◌-◌, ◌<◌, ◌≤◌, max, Bool, true, false, not, cond, ◌||◌, List, [], ◌∷◌, ◌++◌, Option, None, Some, length, take, drop, replicate, sym, refl, ap, ◌∙◌, subst, inl, inr, ⊎_elim, append_assoc, append-nil, length-append, length-drop, arith}
use Rattle.std.specs.Prelude.{◌⊎◌}
use Rattle.std.specs.List.{prefix_len, list_any}
use Rattle.std.specs.Str.{bytes_eq}
use Rattle.std.proofs.lemmas.Bool.{false≢true}
use Rattle.std.proofs.lemmas.Slice.Eq.{bytes_eq-Decides}
use Rattle.std.proofs.Math.Seq.{take-append_seam, drop-append_seam}
use Rattle.profile.specs.Characters.{line_feed}
use Rattle.promela_text.specs.Tokens.{is_in_line, is_line_feed, line_behind}
use Rattle.prepare.specs.Standing.{Standing}
use Rattle.prepare.specs.Marker.{Marker}
use Rattle.prepare.specs.Markers.{marker}
use Rattle.prepare.specs.Numbering.{own_file, is_own_file, placed, stand_after, standing_behind, first_line, line_length, numbered_by, asked_by, first_standing, numbered, has_marker}
use Rattle.prepare.specs.OwnLines.{IsWhole, IsLine, file_or, first_file_by, first_file, AreOwn, AreFirst, StandFrom}
use Rattle.prepare.proofs.Lines.{feeds, feeds-append, feeds-replicate, asked_is}
use Rattle.prepare.proofs.Plain.{unmarked}

-- where the next line goes behind a text
unfoldable stand_by : ℕ → Standing → List ℕ → Standing
stand_by zero s text = s
stand_by (suc n) s [] = s
stand_by (suc n) s (b ∷ q) = let line = first_line (b ∷ q) in stand_by n (standing_behind s (marker line) line) (drop (line_length (b ∷ q)) (b ∷ q))

stand_line : (n : ℕ) (s : Standing) (text : List ℕ) → (stand_by n s text).line ≡ asked_by n s text
unfolding stand_by asked_by
stand_line zero s text = refl
stand_line (suc n) s [] = refl
stand_line (suc n) s (b ∷ q) = stand_line n _ (drop (line_length (b ∷ q)) (b ∷ q))

same : (n m : ℕ) (s : Standing) (text : List ℕ) → length text ≤ n → length text ≤ m → numbered_by n s text ≡ numbered_by m s text
unfolding numbered_by
same zero zero s text a b = refl
same zero (suc m) s [] a b = refl
same zero (suc m) s (c ∷ q) a b = absurd (omega arith)
same (suc n) zero s [] a b = refl
same (suc n) zero s (c ∷ q) a b = absurd (omega arith)
same (suc n) (suc m) s [] a b = refl
same (suc n) (suc m) s (c ∷ q) a b =
    let text = c ∷ q in
    let line = first_line text in
    let len : length (drop (line_length text) text) ≡ length text - line_length text = length-drop (line_length text) text in
    ap (λ (x : List ℕ). placed s (marker line) line ++ x) (same n m (standing_behind s (marker line) line) (drop (line_length text) text) (omega arith) (omega arith))

-- a run that ends within a text does so whatever stands behind it
run_by : (t : Bool) (n m k : ℕ) → cond t (1 + n) 0 < suc k → (n < k → m ≡ n) → cond t (1 + m) 0 ≡ cond t (1 + n) 0
run_by true n m k h g = let e : m ≡ n = g (omega arith) in ap (λ (x : ℕ). 1 + x) e
run_by false n m k h g = refl

runs : (p : ℕ → Bool) (xs ys : List ℕ) → prefix_len p xs < length xs → prefix_len p (xs ++ ys) ≡ prefix_len p xs
runs p [] ys h = absurd (omega arith)
runs p (b ∷ q) ys h = run_by (p b) (prefix_len p q) (prefix_len p (q ++ ys)) (length q) h (runs p q ys)

ends_by : (t : Bool) (n k : ℕ) → n ≤ k → cond t (1 + n) 0 ≤ suc k
ends_by true n k h = omega arith
ends_by false n k h = omega arith

-- a line ends at its line feed at the latest
feed_ends : (t : List ℕ) → prefix_len is_in_line (t ++ line_feed ∷ []) ≤ length t
feed_ends [] = omega arith
feed_ends (b ∷ q) = ends_by (is_in_line b) (prefix_len is_in_line (q ++ line_feed ∷ [])) (length q) (feed_ends q)

drop_none : (k : ℕ) → drop {A = ℕ} k [] ≡ []
drop_none zero = refl
drop_none (suc k) = refl

drop_whole : (k : ℕ) (t : List ℕ) → IsWhole (drop k (t ++ line_feed ∷ []))
drop_whole zero t = inr (t, refl)
drop_whole (suc k) [] = inl (drop_none k)
drop_whole (suc k) (b ∷ q) = drop_whole k q

take_front : (k : ℕ) (xs ys : List ℕ) → k ≤ length xs → take k (xs ++ ys) ≡ take k xs
take_front zero xs ys h = refl
take_front (suc k) [] ys h = absurd (omega arith)
take_front (suc k) (b ∷ q) ys h = ap (λ (x : List ℕ). b ∷ x) (take_front k q ys (omega arith))

drop_front : (k : ℕ) (xs ys : List ℕ) → k ≤ length xs → drop k (xs ++ ys) ≡ drop k xs ++ ys
drop_front zero xs ys h = refl
drop_front (suc k) [] ys h = absurd (omega arith)
drop_front (suc k) (b ∷ q) ys h = drop_front k q ys (omega arith)

-- the first line of whole lines, whatever stands behind them
record First (front back : List ℕ) : Type 0 where
  size : line_length (front ++ back) ≡ line_length front
  line : first_line (front ++ back) ≡ first_line front
  rest : drop (line_length (front ++ back)) (front ++ back) ≡ drop (line_length front) front ++ back
  whole : IsWhole (drop (line_length front) front)

first_of : (t back : List ℕ) → First (t ++ line_feed ∷ []) back
first_of t back =
    let front = t ++ line_feed ∷ [] in
    let n = prefix_len is_in_line front in
    let len : length front ≡ length t + 1 = length-append t (line_feed ∷ []) in
    let most : n ≤ length t = feed_ends t in
    let run : prefix_len is_in_line (front ++ back) ≡ n = runs is_in_line front back (omega arith) in
    let all : length (front ++ back) ≡ length front + length back = length-append front back in
    let size : line_length (front ++ back) ≡ line_length front = omega arith in
    let within : line_length front ≤ length front = omega arith in
    record {
      size = size;
      line = ap (λ (k : ℕ). take k (front ++ back)) size ∙ take_front (line_length front) front back within;
      rest = ap (λ (k : ℕ). drop k (front ++ back)) size ∙ drop_front (line_length front) front back within;
      whole = drop_whole (line_length front) t;
    }

first : (b : ℕ) (q back : List ℕ) → IsWhole (b ∷ q) → First (b ∷ q) back
first b q back whole = ⊎_elim (λ (e : b ∷ q ≡ []). cc) (λ (e : (front : List ℕ) × (b ∷ q ≡ front ++ line_feed ∷ [])). subst (λ (x : List ℕ). First x back) (sym e.1) (first_of e.0 back)) whole

-- a text that goes on behind whole lines
split : (n k m : ℕ) (s : Standing) (front back : List ℕ) → length front + length back ≤ n → length front ≤ k → length back ≤ m → IsWhole front → numbered_by n s (front ++ back) ≡ numbered_by k s front ++ numbered_by m (stand_by k s front) back
unfolding numbered_by stand_by
split n zero m s [] back a b c whole = same n m s back (omega arith) c
split n (suc k) m s [] back a b c whole = same n m s back (omega arith) c
split zero k m s (x ∷ q) back a b c whole = absurd (omega arith)
split (suc n) zero m s (x ∷ q) back a b c whole = absurd (omega arith)
split (suc n) (suc k) m s (x ∷ q) back a b c whole =
    let front = x ∷ q in
    let f = first x q back whole in
    let line = first_line front in
    let rest = drop (line_length front) front in
    let next = standing_behind s (marker line) line in
    let len : length rest ≡ length front - line_length front = length-drop (line_length front) front in
    ap (λ (l : List ℕ). placed s (marker l) l ++ numbered_by n (standing_behind s (marker l) l) (drop (line_length (front ++ back)) (front ++ back))) f.line
    ∙ ap (λ (r : List ℕ). placed s (marker line) line ++ numbered_by n next r) f.rest
    ∙ ap (λ (r : List ℕ). placed s (marker line) line ++ r) (split n k m next rest back (omega arith) (omega arith) c f.whole)
    ∙ sym (append_assoc (placed s (marker line) line) (numbered_by k next rest) (numbered_by m (stand_by k next rest) back))

-- which file the standing takes for the model's own
abbrev Names : Standing → Option (List ℕ) → Type 0
Names s None = s.is_named ≡ false
Names s (Some f) = (s.is_named ≡ true) × (s.own ≡ f)

abbrev or_else : Option (List ℕ) → Option (List ℕ) → Option (List ℕ)
or_else None o = o
or_else (Some f) o = Some f

names_line : (s : Standing) (m : Option Marker) (n : ℕ) (o : Option (List ℕ)) → Names s o → Names (stand_after s m n) (or_else o (file_or m None))
names_line s None n None h = h
names_line s None n (Some f) h = h
names_line s (Some m) n None h = (refl, ap (λ (t : Bool). cond t s.own m.file) h)
names_line s (Some m) n (Some f) h = (refl, ap (λ (t : Bool). cond t s.own m.file) h.0 ∙ h.1)

or_more : (o : Option (List ℕ)) (m : Option Marker) (r : Option (List ℕ)) → or_else (or_else o (file_or m None)) r ≡ or_else o (file_or m r)
or_more None None r = refl
or_more None (Some m) r = refl
or_more (Some f) m r = refl

or_none : (o : Option (List ℕ)) → or_else o None ≡ o
or_none None = refl
or_none (Some f) = refl

names : (n : ℕ) (s : Standing) (text : List ℕ) (o : Option (List ℕ)) → Names s o → Names (stand_by n s text) (or_else o (first_file_by n text))
unfolding stand_by first_file_by
names zero s text o h = subst (Names s) (sym (or_none o)) h
names (suc n) s [] o h = subst (Names s) (sym (or_none o)) h
names (suc n) s (b ∷ q) o h =
    let text = b ∷ q in
    let line = first_line text in
    let next = standing_behind s (marker line) line in
    subst (Names (stand_by n next (drop (line_length text) text))) (or_more o (marker line) (first_file_by n (drop (line_length text) text)))
    (names n next (drop (line_length text) text) (or_else o (file_or (marker line) None)) (names_line s (marker line) _ o h))

own_by : (s : Standing) (file : List ℕ) (o : Option (List ℕ)) → Names s o → ((o ≡ None) ⊎ (o ≡ Some file)) → own_file s file ≡ file
own_by s file None h is = ap (λ (t : Bool). cond t s.own file) h
own_by s file (Some f) h is = ⊎_elim (λ (e : Some f ≡ None). cc) (λ (e : Some f ≡ Some file). let e2 : f ≡ file = cc in ap (λ (t : Bool). cond t s.own file) h.0 ∙ h.1 ∙ e2) is

owns : (s : Standing) (file : List ℕ) → own_file s file ≡ file → is_own_file s file ≡ true
owns s file e = ap (λ (f : List ℕ). bytes_eq f file) e ∙ (bytes_eq-Decides file file).1 refl

-- the line of a marker
none_by : (t : Bool) (b n : ℕ) (q : List ℕ) → is_line_feed b ≡ t → (t || list_any is_line_feed q) ≡ false → (list_any is_line_feed q ≡ false → n ≡ length q) → cond (not (is_line_feed b)) (1 + n) 0 ≡ suc (length q)
none_by true b n q e h g = absurd (false≢true (sym h))
none_by false b n q e h g = let rest : n ≡ length q = g h in ap (λ (x : Bool). cond (not x) (1 + n) 0) e ∙ omega arith

none_in_line : (t : List ℕ) → list_any is_line_feed t ≡ false → prefix_len is_in_line (t ++ line_feed ∷ []) ≡ length t
none_in_line [] h = refl
none_in_line (b ∷ q) h = none_by (is_line_feed b) b (prefix_len is_in_line (q ++ line_feed ∷ [])) q refl h (none_in_line q)

record Alone (line rest : List ℕ) : Type 0 where
  size : line_length (line ++ rest) ≡ length line
  some : 0 < length line

alone : (t rest : List ℕ) → list_any is_line_feed t ≡ false → Alone (t ++ line_feed ∷ []) rest
alone t rest none =
    let front = t ++ line_feed ∷ [] in
    let len : length front ≡ length t + 1 = length-append t (line_feed ∷ []) in
    let n : prefix_len is_in_line front ≡ length t = none_in_line t none in
    let run : prefix_len is_in_line (front ++ rest) ≡ prefix_len is_in_line front = runs is_in_line front rest (omega arith) in
    let all : length (front ++ rest) ≡ length front + length rest = length-append front rest in
    record { size = omega arith; some = omega arith }

line_alone : (line rest : List ℕ) → IsLine line → Alone line rest
line_alone line rest is = subst (λ (x : List ℕ). Alone x rest) (sym is.1) (alone is.0 rest is.2)

one_line : (n : ℕ) (s : Standing) (b : ℕ) (q rest : List ℕ) → Alone (b ∷ q) rest → numbered_by (suc n) s ((b ∷ q) ++ rest) ≡ placed s (marker (b ∷ q)) (b ∷ q) ++ numbered_by n (standing_behind s (marker (b ∷ q)) (b ∷ q)) rest
unfolding numbered_by
one_line n s b q rest a =
    let text = (b ∷ q) ++ rest in
    let line : first_line text ≡ b ∷ q = ap (λ (k : ℕ). take k text) a.size ∙ take-append_seam (b ∷ q) rest in
    let back : drop (line_length text) text ≡ rest = ap (λ (k : ℕ). drop k text) a.size ∙ drop-append_seam (b ∷ q) rest in
    ap (λ (l : List ℕ). placed s (marker l) l ++ numbered_by n (standing_behind s (marker l) l) (drop (line_length text) text)) line
    ∙ ap (λ (r : List ℕ). placed s (marker (b ∷ q)) (b ∷ q) ++ numbered_by n (standing_behind s (marker (b ∷ q)) (b ∷ q)) r) back

marker_line : (n : ℕ) (s : Standing) (line rest : List ℕ) → Alone line rest → numbered_by (suc n) s (line ++ rest) ≡ placed s (marker line) line ++ numbered_by n (standing_behind s (marker line) line) rest
marker_line n s [] rest a = let none : 0 < 0 = a.some in absurd (omega arith)
marker_line n s (b ∷ q) rest a = one_line n s b q rest a

-- lines of the own file
record Rests (n : ℕ) (s : Standing) (own behind : List ℕ) : Type 0 where
  rest : List ℕ
  is : numbered_by n s (own ++ behind) ≡ own ++ rest

own_lines : (n : ℕ) (s : Standing) (own behind : List ℕ) → length own + length behind ≤ n → s.is_own ≡ true → has_marker own ≡ false → (IsWhole own ⊎ (behind ≡ [])) → Rests n s own behind
own_lines n s own behind short is_own none ends =
    let stays : numbered_by (length own) s own ≡ own = unmarked (length own) s own (omega arith) is_own none in
    ⊎_elim (λ (w : IsWhole own).
    let back = numbered_by (length behind) (stand_by (length own) s own) behind in
    let r : Rests n s own behind = record { rest = back; is = split n (length own) (length behind) s own behind short (omega arith) (omega arith) w ∙ ap (λ (x : List ℕ). x ++ back) stays } in r)
    (λ (e : behind ≡ []).
    let r : Rests n s own behind = record { rest = []; is = ap (λ (x : List ℕ). numbered_by n s (own ++ x)) e ∙ ap (numbered_by n s) (append-nil own) ∙ same n (length own) s own (omega arith) (omega arith) ∙ stays ∙ sym (append-nil own) } in r) ends

marked : (s : Standing) (m : Marker) (line : List ℕ) → is_own_file s m.file ≡ true → placed s (Some m) line ≡ replicate (m.line - s.line) line_feed
marked s m line h = ap (λ (t : Bool). cond t (replicate (m.line - s.line) line_feed) []) h

-- behind a marker of the own file
marker_own : (n : ℕ) (s : Standing) (m : Marker) (line own behind : List ℕ) → marker line ≡ Some m → Alone line (own ++ behind) → length line + (length own + length behind) ≤ suc n → is_own_file s m.file ≡ true → has_marker own ≡ false → (IsWhole own ⊎ (behind ≡ []))
    → (rest : List ℕ) × (numbered_by (suc n) s (line ++ (own ++ behind)) ≡ replicate (m.line - s.line) line_feed ++ (own ++ rest))
marker_own n s m line own behind is a short owned none ends =
    let next = standing_behind s (Some m) line in
    let some : 0 < length line = a.some in
    let r : Rests n next own behind = own_lines n next own behind (omega arith) owned none ends in (
      r.rest,
      marker_line n s line (own ++ behind) a ∙ ap (λ (o : Option Marker). placed s o line ++ numbered_by n (standing_behind s o line) (own ++ behind)) is
          ∙ ap (λ (x : List ℕ). x ++ numbered_by n next (own ++ behind)) (marked s m line owned) ∙ ap (λ (x : List ℕ). replicate (m.line - s.line) line_feed ++ x) r.is,
    )

sized : (text before own : List ℕ) (m : Marker) (h : AreOwn text before own m) (n : ℕ) → length (h.line ++ (own ++ h.behind)) ≡ n → StandFrom (max (line_behind (numbered before)) m.line) own (numbered text)
sized text before own m h zero e =
    let a : Alone h.line (own ++ h.behind) = line_alone h.line (own ++ h.behind) h.one in
    let some : 0 < length h.line = a.some in
    let len : length (h.line ++ (own ++ h.behind)) ≡ length h.line + length (own ++ h.behind) = length-append h.line (own ++ h.behind) in
    absurd (omega arith)
sized text before own m h (suc n) e =
    let s = stand_by (length before) first_standing before in
    let rest = h.line ++ (own ++ h.behind) in
    let all : length (before ++ rest) ≡ length before + length rest = length-append before rest in
    let len : length rest ≡ length h.line + length (own ++ h.behind) = length-append h.line (own ++ h.behind) in
    let len' : length (own ++ h.behind) ≡ length own + length h.behind = length-append own h.behind in
    let named : Names s (first_file before) = names (length before) first_standing before None refl in
    let owned : is_own_file s m.file ≡ true = owns s m.file (own_by s m.file (first_file before) named h.is_own) in
    let behind_marker = marker_own n s m h.line own h.behind h.is_marker (line_alone h.line (own ++ h.behind) h.one) (omega arith) owned h.unmarked h.ends in
    let at : s.line ≡ line_behind (numbered before) = stand_line (length before) first_standing before ∙ sym (asked_is (length before) first_standing before) in
    let feed : feeds (replicate (m.line - s.line) line_feed) ≡ m.line - s.line = feeds-replicate (m.line - s.line) in
    let both : feeds (numbered before ++ replicate (m.line - s.line) line_feed) ≡ feeds (numbered before) + feeds (replicate (m.line - s.line) line_feed) = feeds-append (numbered before) (replicate (m.line - s.line) line_feed) in
    record {
      before = numbered before ++ replicate (m.line - s.line) line_feed;
      behind = behind_marker.0;
      divides = ap numbered h.divides ∙ split (length (before ++ rest)) (length before) (suc n) first_standing before rest (omega arith) (omega arith) (omega arith) h.whole
          ∙ ap (λ (x : List ℕ). numbered before ++ x) behind_marker.1 ∙ sym (append_assoc (numbered before) (replicate (m.line - s.line) line_feed) (own ++ behind_marker.0));
      line = omega arith;
    }

pub own_stand : (text before own : List ℕ) (m : Marker) → AreOwn text before own m → StandFrom (max (line_behind (numbered before)) m.line) own (numbered text)
own_stand text before own m h = sized text before own m h (length (h.line ++ (own ++ h.behind))) refl

pub first_stand : (text own : List ℕ) → AreFirst text own → StandFrom 1 own (numbered text)
first_stand text own h =
    let all : length (own ++ h.behind) ≡ length own + length h.behind = length-append own h.behind in
    let r : Rests (length (own ++ h.behind)) first_standing own h.behind = own_lines (length (own ++ h.behind)) first_standing own h.behind (omega arith) refl h.unmarked h.ends in
    record { before = []; behind = r.rest; divides = ap numbered h.divides ∙ r.is; line = refl }
