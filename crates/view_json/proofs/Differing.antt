-- What of a state differs from what was shown.
use Rattle.std.proofs.Common.{◌≡◌, ◌∙◌, ap, sym, refl, subst, ℕ, suc, ◌+◌, Bool, true, false, if◌then◌else◌, List, [], ◌∷◌, ◌++◌, map, length, append-nil, append_assoc, length-append, arith, pos, codes, Option}
use Rattle.std.specs.Prelude.{ltb}
use Rattle.std.specs.List.{flat_map}
use Rattle.std.proofs.lemmas.Bool.{true≢false}
use Rattle.std.proofs.lemmas.List.{map-append}
use Rattle.json.specs.Token.{Token, begin_object, end_object, begin_array, key}
use Rattle.json.specs.Print.{print, print_from, escape_byte, ends_value, ArePrintable}
use Rattle.run_values.specs.declared.changed.Change.{Change}
use Rattle.promela_run.specs.State.{channel_at, State}
use Rattle.promela_run.specs.declared.moves.Move.{Move}
use Rattle.view_waits.specs.Waits.{waits as all_waits}
use Rattle.view_text.specs.Written.{Written, Adds}
use Rattle.view_text.proofs.Writing.{chained}
use Rattle.view_tokens.specs.Printed.{Printed, Writes}
use Rattle.view_json.specs.Objects.{member, array, cells, frame_cells, channel_heading, contents, channel, heading, waits_with, standing}
use Rattle.view_json.proofs.Printable.{none_printable, one_printable, both_printable}
use Rattle.view_json.specs.declared.list.Listing.{Listing}
use Rattle.view_json.specs.Shown.{Lists, ListsMore, ListsFirst, ListsOldest, AreTold, channels_from, processes_from, if_new, new_ones, if_changed, changed_ones, with_locals, locals, changed_cells, changed_cell}
use Rattle.view_json.proofs.Listed.{on_value, ends_behind, object_ends, array_ends, lists_same}

-- ---- texts

-- what is written from nothing on
pub finished : (o n : Written) (j k : Printed) (ts : List Token) → j ≡ record { tokens = []; refused = false } → Writes j k ts
    → Adds o n (print k.tokens) → (k.refused ≡ true → n.refused ≡ true) → Adds o n (print ts)
finished o n j k ts is more added refused = record {
  stays = added.stays;
  added = λ calm. added.added calm ∙ ap (λ (l : List Token). o.text ++ print l)
      (more.added (before k.refused refl calm) ∙ ap (λ (p : Printed). p.tokens ++ ts) is);
}
  where
    before : (r : Bool) → k.refused ≡ r → n.refused ≡ false → k.refused ≡ false
    before true so calm = absurd (true≢false (sym (refused so) ∙ calm))
    before false so calm = so

pub channels_heading : codes ",\"channels\":[" ≡ print_from true (key (codes "channels") ∷ begin_array ∷ [])
unfolding print_from escape_byte
channels_heading = refl

pub processes_heading : codes ",\"processes\":[" ≡ print_from true (key (codes "processes") ∷ begin_array ∷ [])
unfolding print_from escape_byte
processes_heading = refl

locals_text : (ts : List Token) → print_from true (key (codes "locals") ∷ ts) ≡ codes ",\"locals\":" ++ print ts
unfolding print_from escape_byte
locals_text ts = refl

closed : print_from true (end_object ∷ []) ≡ codes "}"
unfolding print_from
closed = refl

-- an object, its variables, and its end
pub with_locals_text : (ts ls : List Token) → ends_value ts ≡ true → ends_value ls ≡ true
    → print ts ++ (codes ",\"locals\":" ++ (print ls ++ codes "}")) ≡ print (ts ++ (member (codes "locals") ls ++ end_object ∷ []))
with_locals_text ts ls is ends =
    ap (λ (t : List ℕ). print ts ++ (codes ",\"locals\":" ++ t)) (ap (λ (t : List ℕ). print ls ++ t) (sym closed) ∙ sym (on_value false ls (end_object ∷ []) ends))
    ∙ ap (λ (t : List ℕ). print ts ++ t) (sym (locals_text (ls ++ end_object ∷ [])))
    ∙ sym (on_value false ts (member (codes "locals") ls ++ end_object ∷ []) is)

cells_end : (s : State) (frame : ℕ) → ends_value (cells s frame) ≡ true
cells_end s frame = object_ends false (frame_cells s frame)

-- the variables of a process are an object
pub locals_end : (s : State) (older : ℕ) (cs : List Change) (p : ℕ) → ends_value (locals s older cs p) ≡ true
locals_end s older cs p = by (ltb p older) refl
  where
    either : Bool → List Token
    either b = if b then changed_cells s (p + 1) cs else cells s (p + 1)

    by : (b : Bool) → ltb p older ≡ b → ends_value (locals s older cs p) ≡ true
    by true is = ap (λ (b : Bool). ends_value (either b)) is ∙ object_ends false (flat_map (changed_cell s (p + 1)) cs)
    by false is = ap (λ (b : Bool). ends_value (either b)) is ∙ cells_end s (p + 1)

-- an object with its variables is written
pub process_added : (s : State) (older : ℕ) (cs : List Change) (p : ℕ) (ts : List Token) (object : List ℕ) (o a b d e : Written) (j k : Printed)
    → object ≡ print ts → ends_value ts ≡ true → Adds o a object → Adds a b (codes ",\"locals\":")
    → j ≡ record { tokens = []; refused = false } → Writes j k (locals s older cs p) → Adds b d (print k.tokens) → (k.refused ≡ true → d.refused ≡ true)
    → Adds d e (codes "}") → Adds o e (print (with_locals s older cs p ts))
process_added s older cs p ts object o a b d e j k is ends first heading nothing written last refused brace =
    let ls = locals s older cs p in
    subst (Adds o e) (with_locals_text ts ls ends (locals_end s older cs p))
    (chained _ _ _ _ _ (subst (Adds o a) is first) (chained _ _ _ _ _ heading (chained _ _ _ _ _ (finished b d j k ls nothing written last refused) brace)))

-- what is written from nothing on can be read back
pub written_printable : (n : Written) (j k : Printed) (ts : List Token) → j ≡ record { tokens = []; refused = false } → Writes j k ts
    → ArePrintable k.tokens → (k.refused ≡ true → n.refused ≡ true) → n.refused ≡ false → ArePrintable ts
written_printable n j k ts is more all refused calm =
    subst ArePrintable (more.added (before k.refused refl) ∙ ap (λ (p : Printed). p.tokens ++ ts) is) all
  where
    before : (r : Bool) → k.refused ≡ r → k.refused ≡ false
    before true so = absurd (true≢false (sym (refused so) ∙ calm))
    before false so = so

pub process_printable : (s : State) (older : ℕ) (cs : List Change) (p : ℕ) (ts : List Token) (n : Written) (j k : Printed) → ArePrintable ts
    → j ≡ record { tokens = []; refused = false } → Writes j k (locals s older cs p) → ArePrintable k.tokens
    → (k.refused ≡ true → n.refused ≡ true) → n.refused ≡ false → ArePrintable (with_locals s older cs p ts)
process_printable s older cs p ts n j k all nothing written can_read refused calm =
    let ls = locals s older cs p in
    let one = written_printable n j k ls nothing written can_read refused calm in
    both_printable ts (key (codes "locals") ∷ (ls ++ end_object ∷ [])) all
    (one_printable (key (codes "locals")) (ls ++ end_object ∷ []) tt (both_printable ls (end_object ∷ []) one (one_printable end_object [] tt none_printable)))

pub with_locals_end : (s : State) (older : ℕ) (cs : List Change) (p : ℕ) (ts : List Token) → ends_value (with_locals s older cs p ts) ≡ true
with_locals_end s older cs p ts =
    ends_behind false ts (key (codes "locals")) (locals s older cs p ++ end_object ∷ []) ∙ ends_behind false (locals s older cs p) end_object []

pub standing_ends : (s : State) (ms : List Move) (p : ℕ) (words : List (List ℕ)) → ends_value (standing s ms p words) ≡ true
standing_ends s ms p words =
    ends_behind false (begin_object ∷ heading s ms p) (key (codes "waits")) (array (waits_with s p (all_waits s p) words))
    ∙ array_ends true (codes "waits") (waits_with s p (all_waits s p) words)

pub channel_ends : (s : State) (n : ℕ) (name : Option (List ℕ)) → ends_value (channel s n name) ≡ true
channel_ends s n name = object_ends false (channel_heading n name ++ contents s.program (channel_at s.channels (pos n)))

-- ---- one more

channels_last : (s : State) (n : ℕ) (xs : List (Option (List ℕ))) (x : Option (List ℕ))
    → channels_from s n (xs ++ x ∷ []) ≡ channels_from s n xs ++ channel s (n + length xs) x ∷ []
channels_last s n [] x = ap (λ (m : ℕ). channel s m x ∷ []) (omega arith)
channels_last s n (y ∷ ys) x =
    ap (λ (l : List (List Token)). channel s n y ∷ l)
    (channels_last s (n + 1) ys x ∙ ap (λ (m : ℕ). channels_from s (n + 1) ys ++ channel s m x ∷ []) (omega arith))

channels_many : (s : State) (n : ℕ) (xs : List (Option (List ℕ))) → length (channels_from s n xs) ≡ length xs
channels_many s n [] = refl
channels_many s n (x ∷ xs) = ap suc (channels_many s (n + 1) xs)

new_last : (before : List (List ℕ)) (at : ℕ) (xs : List (List Token)) (x : List Token)
    → new_ones before at (xs ++ x ∷ []) ≡ new_ones before at xs ++ if_new before (at + length xs) x
new_last before at [] x = append-nil (if_new before at x) ∙ ap (λ (m : ℕ). if_new before m x) (omega arith)
new_last before at (y ∷ ys) x =
    ap (λ (l : List Token). if_new before at y ++ l)
    (new_last before (at + 1) ys x ∙ ap (λ (m : ℕ). new_ones before (at + 1) ys ++ if_new before m x) (omega arith))
    ∙ sym (append_assoc (if_new before at y) (new_ones before (at + 1) ys) (if_new before (at + length (y ∷ ys)) x))

-- ever more are listed
lists_both : (a b c : Listing) (xs ys zs : List Token) → ListsMore xs a b → ListsMore ys b c → xs ++ ys ≡ zs → ListsMore zs a c
lists_both a b c xs ys zs one two is ts so_far =
    subst (Lists c) (append_assoc ts xs ys ∙ ap (λ (l : List Token). ts ++ l) is) (two (ts ++ xs) (one ts so_far))

pub first_none : (before : List (List ℕ)) (s : State) (a : Listing) → ListsFirst before s 0 [] a a
first_none before s a = ([], refl, refl, λ ts so_far. lists_same a ts so_far)

pub first_more : (before : List (List ℕ)) (s : State) (at : ℕ) (objects : List (List ℕ)) (object : List ℕ) (x : Option (List ℕ)) (a b c : Listing)
    → ListsFirst before s at objects a b → object ≡ print (channel s (at + 1) x) → ListsMore (if_new before at (channel s (at + 1) x)) b c
    → ListsFirst before s (at + 1) (objects ++ object ∷ []) a c
first_more before s at objects object x a b c so_far is here =
    let names = so_far.0 in
    let at_is : 1 + length names ≡ at + 1 = omega (arith, so_far.1) in
    let last : channels_from s 1 (names ++ x ∷ []) ≡ channels_from s 1 names ++ channel s (at + 1) x ∷ [] =
    channels_last s 1 names x ∙ ap (λ (m : ℕ). channels_from s 1 names ++ channel s m x ∷ []) at_is in
    let many : 0 + length (channels_from s 1 names) ≡ at = omega (arith, channels_many s 1 names, so_far.1) in (
      names ++ x ∷ [],
      length-append names (x ∷ []) ∙ ap (λ (m : ℕ). m + 1) so_far.1,
      (λ i. so_far.2 i ++ is i ∷ []) ∙ sym (map-append print (channels_from s 1 names) (channel s (at + 1) x ∷ [])) ∙ ap (map print) (sym last),
      lists_both a b c _ _ _ so_far.3 here
          (sym (ap (new_ones before 0) last ∙ new_last before 0 (channels_from s 1 names) (channel s (at + 1) x)
          ∙ ap (λ (m : ℕ). new_ones before 0 (channels_from s 1 names) ++ if_new before m (channel s (at + 1) x)) many)),
    )

processes_last : (s : State) (ms : List Move) (p : ℕ) (xs : List (List (List ℕ))) (x : List (List ℕ))
    → processes_from s ms p (xs ++ x ∷ []) ≡ processes_from s ms p xs ++ standing s ms (p + length xs) x ∷ []
processes_last s ms p [] x = ap (λ (m : ℕ). standing s ms m x ∷ []) (omega arith)
processes_last s ms p (y ∷ ys) x =
    ap (λ (l : List (List Token)). standing s ms p y ∷ l)
    (processes_last s ms (p + 1) ys x ∙ ap (λ (m : ℕ). processes_from s ms (p + 1) ys ++ standing s ms m x ∷ []) (omega arith))

processes_many : (s : State) (ms : List Move) (p : ℕ) (xs : List (List (List ℕ))) → length (processes_from s ms p xs) ≡ length xs
processes_many s ms p [] = refl
processes_many s ms p (x ∷ xs) = ap suc (processes_many s ms (p + 1) xs)

told_last : (s : State) (p : ℕ) (xs : List (List (List ℕ))) (x : List (List ℕ)) → AreTold s p xs → length x ≡ length (all_waits s (p + length xs)) → AreTold s p (xs ++ x ∷ [])
told_last s p [] x all is =
    let here : p + 0 ≡ p = omega arith in
    (is ∙ ap (λ (m : ℕ). length (all_waits s m)) here, tt)
told_last s p (y ∷ ys) x all is =
    let here : p + length (y ∷ ys) ≡ p + 1 + length ys = omega arith in
    (all.0, told_last s (p + 1) ys x all.1 (is ∙ ap (λ (m : ℕ). length (all_waits s m)) here))

changed_last : (s : State) (before : List (List ℕ)) (older : ℕ) (cs : List Change) (p : ℕ) (xs : List (List Token)) (x : List Token)
    → changed_ones s before older cs p (xs ++ x ∷ []) ≡ changed_ones s before older cs p xs ++ if_changed s before older cs (p + length xs) x
changed_last s before older cs p [] x = append-nil (if_changed s before older cs p x) ∙ ap (λ (m : ℕ). if_changed s before older cs m x) (omega arith)
changed_last s before older cs p (y ∷ ys) x =
    ap (λ (l : List Token). if_changed s before older cs p y ++ l)
    (changed_last s before older cs (p + 1) ys x
    ∙ ap (λ (m : ℕ). changed_ones s before older cs (p + 1) ys ++ if_changed s before older cs m x) (omega arith))
    ∙ sym (append_assoc (if_changed s before older cs p y) (changed_ones s before older cs (p + 1) ys) (if_changed s before older cs (p + length (y ∷ ys)) x))

pub oldest_none : (before : List (List ℕ)) (s : State) (ms : List Move) (older : ℕ) (cs : List Change) (a : Listing) → ListsOldest before s ms older cs 0 [] a a
oldest_none before s ms older cs a = ([], refl, tt, refl, λ ts so_far. lists_same a ts so_far)

pub oldest_more : (before : List (List ℕ)) (s : State) (ms : List Move) (older : ℕ) (cs : List Change) (p : ℕ) (objects : List (List ℕ)) (object : List ℕ)
    (x : List (List ℕ)) (a b c : Listing) → ListsOldest before s ms older cs p objects a b → length x ≡ length (all_waits s p)
    → object ≡ print (standing s ms p x) → ListsMore (if_changed s before older cs p (standing s ms p x)) b c
    → ListsOldest before s ms older cs (p + 1) (objects ++ object ∷ []) a c
oldest_more before s ms older cs p objects object x a b c so_far told is here =
    let words = so_far.0 in
    let here_is : 0 + length words ≡ p = omega (arith, so_far.1) in
    let last : processes_from s ms 0 (words ++ x ∷ []) ≡ processes_from s ms 0 words ++ standing s ms p x ∷ [] =
    processes_last s ms 0 words x ∙ ap (λ (m : ℕ). processes_from s ms 0 words ++ standing s ms m x ∷ []) here_is in
    let many : 0 + length (processes_from s ms 0 words) ≡ p = omega (arith, processes_many s ms 0 words, so_far.1) in (
      words ++ x ∷ [],
      length-append words (x ∷ []) ∙ ap (λ (m : ℕ). m + 1) so_far.1,
      told_last s 0 words x so_far.2 (told ∙ ap (λ (m : ℕ). length (all_waits s m)) (sym here_is)),
      (λ i. so_far.3 i ++ is i ∷ []) ∙ sym (map-append print (processes_from s ms 0 words) (standing s ms p x ∷ [])) ∙ ap (map print) (sym last),
      lists_both a b c _ _ _ so_far.4 here
          (sym (ap (changed_ones s before older cs 0) last ∙ changed_last s before older cs 0 (processes_from s ms 0 words) (standing s ms p x)
          ∙ ap (λ (m : ℕ). changed_ones s before older cs 0 (processes_from s ms 0 words) ++ if_changed s before older cs m (standing s ms p x)) many)),
    )
