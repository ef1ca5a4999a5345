-- The texts of steps that are gathered, and where the first of their bytes end.
use Rattle.std.proofs.Common.{◌≡◌, ℕ, suc, ◌+◌, ◌-◌, ◌<◌, List, [], ◌∷◌, ◌++◌, length, get_or, take, drop, Bool, true, false, cond, Option, Some, None, Result, Ok, Err, IfOk, IfNone, refl, sym, ap, subst, ◌∙◌, inl, inr, add-zero, append_assoc, append-nil, arith, nat_lt}
use Rattle.std.proofs.lemmas.Bool.{ltb-true, ltb-false, lt-ltb}
use Rattle.std.proofs.lemmas.List.{length-append, take-append-le}
use Rattle.std.proofs.lemmas.List.Sums.{sum_by-cons}
use Rattle.std.proofs.Math.Seq.{take-append-add, drop-append_seam}
use Rattle.devices.specs.Holdings.{Holdings, FailureCounts, Moved, OutFails}
use Rattle.promela_session.specs.declared.ends.End.{End}
use Rattle.promela_session.specs.declared.ends.Broken.{Broken}
use Rattle.promela_session.specs.declared.ends.Broken.TheVariants as broken
use Rattle.promela_session.specs.Events.{Event, Put, Told, Stepped, output, front, recorded, steps_in, step_of, Part, preceded}
use Rattle.promela_session.specs.Devices.{MovedBy, Breaks, CountsBroken}
use Rattle.session.specs.Ending.{AreReadable}
use Rattle.session.specs.Writes.{Leads, Continues, story_after}
use Rattle.session.specs.declared.course.Course.{Course}
use Rattle.session.specs.Gathered.{told_steps, begins_from, later, AddsText, CutsTexts, AreGathered, behind, Waits, BreaksBare, Halts, GoesFurther, Advances, TurnsOn}
use Rattle.promela_session.specs.declared.ends.Options.{Options}
use Rattle.promela_machine.specs.Machine.{Rules, Goes}
use Rattle.promela_session.specs.Session.{stepped, step_text, story, select_move, answered}
use Rattle.session.proofs.Turns.{step_part, step_leads}
use Rattle.session.proofs.Moving.{Moved-nil, Moved-still}
use Rattle.session.proofs.Parts.{Leads-nil, preceded-preceded, Leads-same, Leads-trans, Leads-does, Leads-breaks, output-append}
use Rattle.promela_session.specs.declared.form.Stream.{Stream}
use Rattle.promela_session.specs.declared.form.Version.{Version}

-- ---- what is gathered, as events

told-append : (xs ys : List (List ℕ)) → told_steps (xs ++ ys) ≡ told_steps xs ++ told_steps ys
told-append [] ys = refl
told-append (x ∷ xs) ys = ap (λ es. Stepped ∷ Put Told x ∷ es) (told-append xs ys)

front-told : (xs : List (List ℕ)) → front (told_steps xs) ≡ []
front-told [] = refl
front-told (x ∷ xs) = front-told xs

recorded-told : (xs : List (List ℕ)) → recorded (told_steps xs) ≡ []
recorded-told [] = refl
recorded-told (x ∷ xs) = recorded-told xs

readable-told : (xs : List (List ℕ)) → AreReadable (told_steps xs)
readable-told [] = refl
readable-told (x ∷ xs) = readable-told xs

steps-told : (xs : List (List ℕ)) → steps_in (told_steps xs) ≡ length xs
steps-told [] = refl
steps-told (x ∷ xs) =
    let one : steps_in (told_steps (x ∷ xs)) ≡ 1 + steps_in (Put Told x ∷ told_steps xs) = sum_by-cons step_of Stepped (Put Told x ∷ told_steps xs) in
    let none : steps_in (Put Told x ∷ told_steps xs) ≡ 0 + steps_in (told_steps xs) = sum_by-cons step_of (Put Told x) (told_steps xs) in
    let rest = steps-told xs in
    omega arith

begins-append : (at : ℕ) (xs : List (List ℕ)) (y : List ℕ) → begins_from at (xs ++ y ∷ []) ≡ begins_from at xs ++ (at + length (output (told_steps xs))) ∷ []
begins-append at [] y = ap (λ n. n ∷ []) (sym (add-zero at))
begins-append at (x ∷ xs) y =
    let e : (at + length x) + length (output (told_steps xs)) ≡ at + length (x ++ output (told_steps xs)) = rw (length-append x (output (told_steps xs))) (omega arith) in
    ap (λ ns. at ∷ ns) (begins-append (at + length x) xs y ∙ ap (λ n. begins_from (at + length x) xs ++ n ∷ []) e)

begins-last : (xs : List (List ℕ)) (y : List ℕ) → begins_from 0 (xs ++ y ∷ []) ≡ begins_from 0 xs ++ length (output (told_steps xs)) ∷ []
begins-last xs y =
    let all = length (output (told_steps xs)) in
    let same : 0 + all ≡ all = omega arith in
    begins-append 0 xs y ∙ ap (λ n. begins_from 0 xs ++ n ∷ []) same

-- ---- where the first bytes end

-- the text in which the first k bytes of all end
pub record Cut (at k : ℕ) (texts : List (List ℕ)) : Type 0 where
  pub before : List (List ℕ)
  pub text : List ℕ
  pub n : ℕ
  pub more : List (List ℕ)
  pub within : n < length text
  pub parts : texts ≡ before ++ text ∷ more
  pub taken : take k (output (told_steps texts)) ≡ output (told_steps before) ++ take n text
  pub count : later (at + k) (begins_from at texts) + suc (length before) ≡ length texts

later_cons : (n b : ℕ) (bs : List ℕ) (is : Bool) → nat_lt n b ≡ is → later n (b ∷ bs) ≡ cond is 1 0 + later n bs
later_cons n b bs is e = sum_by-cons (λ x. cond (nat_lt n x) 1 0) b bs ∙ ap (λ c. cond c 1 0 + later n bs) e

all_later : (at n : ℕ) (xs : List (List ℕ)) → n < at → later n (begins_from at xs) ≡ length xs
all_later at n [] lt = refl
all_later at n (x ∷ xs) lt =
    let one = later_cons n at (begins_from (at + length x) xs) true (lt-ltb n at lt) in
    let rest = all_later (at + length x) n xs (omega arith) in
    omega arith

not_later : (at k : ℕ) → nat_lt (at + k) at ≡ false
not_later at k = by_case (nat_lt (at + k) at) refl
  where
    by_case : (b : Bool) → nat_lt (at + k) at ≡ b → nat_lt (at + k) at ≡ false
    by_case true e = let lt = ltb-true (at + k) at e in absurd (omega arith)
    by_case false e = e

cut_here : (at k : ℕ) (x : List ℕ) (xs : List (List ℕ)) → k < length x → Cut at k (x ∷ xs)
cut_here at k x xs lt = record {
  before = [];
  text = x;
  n = k;
  more = xs;
  within = lt;
  parts = refl;
  taken = take-append-le k x (output (told_steps xs)) (omega arith);
  count = let none = later_cons (at + k) at (begins_from (at + length x) xs) false (not_later at k) in let all = all_later (at + length x) (at + k) xs (omega arith) in omega arith;
}

cut_behind : (at k : ℕ) (x : List ℕ) (xs : List (List ℕ)) → Cut (at + length x) k xs → Cut at (length x + k) (x ∷ xs)
cut_behind at k x xs c =
    let e : at + (length x + k) ≡ (at + length x) + k = omega arith in
    record {
      before = x ∷ c.before;
      text = c.text;
      n = c.n;
      more = c.more;
      within = c.within;
      parts = ap (λ ts. x ∷ ts) c.parts;
      taken = take-append-add x (output (told_steps xs)) k ∙ ap (λ bs. x ++ bs) c.taken ∙ sym (append_assoc x (output (told_steps c.before)) (take c.n c.text));
      count =
          let count = c.count in
          let none = later_cons (at + (length x + k)) at (begins_from (at + length x) xs) false (not_later at (length x + k)) in
          let same = ap (λ (j : ℕ). later j (begins_from (at + length x) xs)) e in
          omega arith;
    }

pub cut : (at k : ℕ) (texts : List (List ℕ)) → k < length (output (told_steps texts)) → Cut at k texts
cut at k [] lt = absurd (omega arith)
cut at k (x ∷ xs) lt = by_case (nat_lt k (length x)) refl (λ lt'. cut (at + length x) (k - length x) xs lt')
  where
    by_case : (b : Bool) → nat_lt k (length x) ≡ b → (k - length x < length (output (told_steps xs)) → Cut (at + length x) (k - length x) xs) → Cut at k (x ∷ xs)
    by_case true e next = cut_here at k x xs (ltb-true k (length x) e)
    by_case false e next =
        let ge = ltb-false k (length x) e in
        let is : length x + (k - length x) ≡ k = omega arith in
        let all = length-append x (output (told_steps xs)) in
        subst (λ j. Cut at j (x ∷ xs)) is (cut_behind at (k - length x) x xs (next (omega arith)))

-- ---- what is gathered is written

told_last : (xs : List (List ℕ)) (x : List ℕ) → output (told_steps (xs ++ x ∷ [])) ≡ output (told_steps xs) ++ x
told_last xs x = ap output (told-append xs (x ∷ [])) ∙ (output-append (told_steps xs) (told_steps (x ∷ [])) ∙ ap (λ bs. output (told_steps xs) ++ bs) (append-nil x))

last_told : (xs : List (List ℕ)) (x : List ℕ) → told_steps (xs ++ x ∷ []) ≡ (told_steps xs ++ Stepped ∷ []) ++ Put Told x ∷ []
last_told xs x = told-append xs (x ∷ []) ∙ sym (append_assoc (told_steps xs) (Stepped ∷ []) (Put Told x ∷ []))

parted : (xs : List (List ℕ)) (x : List ℕ) (ys all : List (List ℕ)) → all ≡ xs ++ x ∷ ys → (es : List Event)
    → told_steps all ++ es ≡ (told_steps xs ++ Stepped ∷ []) ++ Put Told x ∷ (told_steps ys ++ es)
parted xs x ys all is es =
    ap (λ ts. told_steps ts ++ es) is
    ∙ (ap (λ ts. ts ++ es) (told-append xs (x ∷ ys))
    ∙ (append_assoc (told_steps xs) (told_steps (x ∷ ys)) es ∙ sym (append_assoc (told_steps xs) (Stepped ∷ []) (Put Told x ∷ (told_steps ys ++ es)))))

module _ {a b : Holdings} {n : ℕ} where
  moved_told : (xs : List (List ℕ)) → Moved a b [] (output (told_steps xs)) [] → MovedBy a b n (n + length xs) (told_steps xs)
  moved_told xs m = record {
    moved = rw (front-told xs, recorded-told xs) m;
    count = ap (λ k. n + k) (sym (steps-told xs));
    readable = readable-told xs;
  }

  behind_leads : (rest : List ℕ → Part End) (xs : List (List ℕ)) → Moved a b [] (output (told_steps xs)) [] → Leads a b n (n + length xs) (behind xs rest) rest
  behind_leads rest xs m = record {
    done = told_steps xs;
    moved = moved_told xs m;
    is = λ left now. rw (front-told xs) refl;
  }

  -- all is written
  pub texts_written : (rest : List ℕ → Part End) (xs : List (List ℕ)) (bytes begins : List ℕ) (steps : ℕ) → AreGathered xs bytes begins → steps ≡ n + length xs
      → Moved a b [] bytes [] → Leads a b n steps (behind xs rest) rest
  texts_written rest xs bytes begins steps are is m = rw is (behind_leads rest xs (subst (λ (bs : List ℕ). Moved a b [] bs []) are.bytes_are m))

  -- the output fails in one of the texts
  cut_breaks : (rest : List ℕ → Part End) (xs : List (List ℕ)) (k : ℕ) (c : Cut 0 k xs) (steps' : ℕ) → steps' ≡ (n + length xs) - later k (begins_from 0 xs)
      → Moved a b [] (take k (output (told_steps xs))) [] → Breaks a b n steps' broken.Out (behind xs rest)
  cut_breaks rest xs k c steps' is m =
      let part = take c.n c.text in
      let few : later k (begins_from 0 xs) + suc (length c.before) ≡ length xs = subst (λ (j : ℕ). later j (begins_from 0 xs) + suc (length c.before) ≡ length xs) (let zero : 0 + k ≡ k = omega arith in zero) c.count in
      let many = length-append c.before (part ∷ []) in
      let counted : steps' ≡ n + length (c.before ++ part ∷ []) = omega arith in
      record {
        done = told_steps (c.before ++ part ∷ []);
        moved = rw counted (moved_told (c.before ++ part ∷ []) (subst (λ (bs : List ℕ). Moved a b [] bs []) (c.taken ∙ sym (told_last c.before part)) m));
        begins = λ left now. (told_steps c.before ++ Stepped ∷ [], Told, c.text, c.n, told_steps c.more ++ (rest (front (told_steps (c.before ++ part ∷ [])) ++ left)).events, c.within, last_told c.before part, parted c.before c.text c.more xs c.parts _);
      }

  pub texts_cut : (rest : List ℕ → Part End) (xs : List (List ℕ)) (bytes begins : List ℕ) (steps steps' : ℕ) → AreGathered xs bytes begins → steps ≡ n + length xs
      → CutsTexts a b bytes begins steps steps' → Breaks a b n steps' broken.Out (behind xs rest)
  texts_cut rest xs bytes begins steps steps' are is c =
      let within = subst (λ (bs : List ℕ). c.0 < length bs) are.bytes_are c.1 in
      cut_breaks rest xs c.0 (cut 0 c.0 xs within) steps'
      (c.3 ∙ (ap (λ k. k - later c.0 begins) is ∙ ap (λ bs. (n + length xs) - later c.0 bs) are.begins_are))
      (subst (λ (bs : List ℕ). Moved a b [] (take c.0 bs) []) are.bytes_are c.2)

pub told_same : {a b : Holdings} (text piece : List ℕ) → text ≡ piece → Moved a b [] text [] → Moved a b [] piece []
told_same {a} {b} text piece is m = subst (λ (bs : List ℕ). Moved a b [] bs []) is m

pub gathered_same : (xs : List (List ℕ)) (bytes begins bytes' begins' : List ℕ) → bytes' ≡ bytes → begins' ≡ begins → AreGathered xs bytes begins → AreGathered xs bytes' begins'
gathered_same xs bytes begins bytes' begins' same_bytes same_begins are = record { bytes_are = same_bytes ∙ are.bytes_are; begins_are = same_begins ∙ are.begins_are }

-- ---- what waits

module _ {a : Holdings} {n : ℕ} where
  pub waits_same : (rest : List ℕ → Part End) (xs : List (List ℕ)) (bytes begins : List ℕ) (steps : ℕ) → AreGathered xs bytes begins → steps ≡ n + length xs
      → Waits a a n steps (behind xs rest) rest bytes begins
  waits_same rest xs bytes begins steps are is = record { texts = xs; written = n; leads = Leads-nil (behind xs rest); count = is; are = are }

module _ {a b : Holdings} {n n' : ℕ} {whole : List ℕ → Part End} where
  -- nothing is gathered
  pub waits_nil : (rest : List ℕ → Part End) → Leads a b n n' whole rest → Waits a b n n' whole rest [] []
  waits_nil rest leads = record {
    texts = [];
    written = n';
    leads = Leads-same (λ left. refl) leads;
    count = sym (add-zero n');
    are = record { bytes_are = refl; begins_are = refl };
  }

  pub waits_written : {c : Holdings} (rest : List ℕ → Part End) (bytes begins : List ℕ) → Waits a b n n' whole rest bytes begins → Moved b c [] bytes [] → Leads a c n n' whole rest
  waits_written rest bytes begins w m = Leads-trans w.leads (texts_written rest w.texts bytes begins n' w.are w.count m)

  pub waits_cut : {c : Holdings} {n'' : ℕ} (rest : List ℕ → Part End) (bytes begins : List ℕ) → Waits a b n n' whole rest bytes begins → CutsTexts b c bytes begins n' n''
      → Breaks a c n n'' broken.Out whole
  waits_cut {n'' = n''} rest bytes begins w cuts = Leads-breaks w.leads (texts_cut rest w.texts bytes begins n' n'' w.are w.count cuts)

  -- memory was refused, and nothing is gathered
  pub memory_halts : Breaks a b n n' broken.Memory whole → Halts broken.Memory a b n n' whole [] []
  memory_halts broken =
      let rest : List ℕ → Part End = λ left. let part = whole (front broken.done ++ left) in record { events = drop (length broken.done) part.events; value = part.value; stream = part.stream; left = part.left } in (
        rest,
        waits_nil rest record {
          done = broken.done;
          moved = broken.moved;
          is = λ left now.
              let part = whole (front broken.done ++ left) in
              let all = broken.begins left now in
              ap (λ (es : List Event). record { events = es; value = part.value; stream = part.stream; left = part.left })
              (all.1 ∙ ap (λ es. broken.done ++ es) (sym (ap (drop (length broken.done)) all.1 ∙ drop-append_seam broken.done all.0)));
        },
      )

  pub halts_nil : (e : Broken) → Breaks a b n n' e whole → Halts e a b n n' whole [] []
  halts_nil broken.Memory broken = memory_halts broken
  halts_nil broken.Source broken = (broken, refl)
  halts_nil broken.Out broken = (broken, refl)
  halts_nil broken.Record broken = (broken, refl)

-- what was broken off, and then no more
breaks_still : {a b c : Holdings} {n n' : ℕ} {whole : List ℕ → Part End} (e : Broken) → Breaks a b n n' e whole → Moved b c [] [] [] → Breaks a c n n' e whole
breaks_still e broken m = record {
  done = broken.done;
  moved = record { moved = Moved-still broken.moved.moved m; count = broken.moved.count; readable = broken.moved.readable };
  begins = λ left now. broken.begins left (m.read.gave left now);
}

module _ (a b c : Holdings) (n n' : ℕ) (whole : List ℕ → Part End) (bytes begins : List ℕ) where
  bare_written : (e : Broken) → BreaksBare e a b n n' whole bytes → Moved b c [] bytes [] → Breaks a c n n' e whole
  bare_written e bare m = breaks_still e bare.0 (subst (λ (bs : List ℕ). Moved b c [] bs []) bare.1 m)

  -- what was gathered is written
  pub halts_written : (e : Broken) → Halts e a b n n' whole bytes begins → Moved b c [] bytes [] → Breaks a c n n' e whole
  halts_written broken.Memory h m =
      let leads = waits_written h.0 bytes begins h.1 m in
      record { done = leads.done; moved = leads.moved; begins = λ left now. ((h.0 left).events, ap (λ (p : Part End). p.events) (leads.is left now)) }
  halts_written broken.Source h m = bare_written broken.Source h m
  halts_written broken.Out h m = bare_written broken.Out h m
  halts_written broken.Record h m = bare_written broken.Record h m

  bare_cut : {n'' : ℕ} {e : Broken} → BreaksBare e a b n n' whole bytes → CutsTexts b c bytes begins n' n'' → ⊥
  bare_cut bare cuts =
      let within = subst (λ (bs : List ℕ). cuts.0 < length bs) bare.1 cuts.1 in omega arith

  -- or the output fails
  pub halts_cut : (n'' : ℕ) (e : Broken) → Halts e a b n n' whole bytes begins → CutsTexts b c bytes begins n' n'' → Breaks a c n n'' broken.Out whole
  halts_cut n'' broken.Memory h cuts = waits_cut h.0 bytes begins h.1 cuts
  halts_cut n'' broken.Source h cuts = absurd (bare_cut h cuts)
  halts_cut n'' broken.Out h cuts = absurd (bare_cut h cuts)
  halts_cut n'' broken.Record h cuts = absurd (bare_cut h cuts)

  pub halts_count : (n'' : ℕ) (e : Broken) (x y z : FailureCounts) → Halts e a b n n' whole bytes begins → CutsTexts b c bytes begins n' n'' → CountsBroken e x y → OutFails y z → OutFails x z
  halts_count n'' broken.Memory x y z h cuts same fails = rw (← same) fails
  halts_count n'' broken.Source x y z h cuts counts fails = absurd (bare_cut h cuts)
  halts_count n'' broken.Out x y z h cuts counts fails = absurd (bare_cut h cuts)
  halts_count n'' broken.Record x y z h cuts counts fails = absurd (bare_cut h cuts)

module _ {a b : Holdings} {n n' : ℕ} {whole : List ℕ → Part End} (c : Holdings) (n'' : ℕ) where
  -- what goes further from the rest goes further from the whole
  pub goes_on : (rest later : List ℕ → Part End) (stream : Stream) (bytes begins : List ℕ) (r : Result (Option End) Broken) → Leads a b n n' whole rest
      → GoesFurther r b c n' n'' rest later stream bytes begins → GoesFurther r a c n n'' whole later stream bytes begins
  goes_on rest later stream bytes begins (Ok None) leads w = record { texts = w.texts; written = w.written; leads = Leads-trans leads w.leads; count = w.count; are = w.are }
  goes_on rest later stream bytes begins (Ok (Some end)) leads does = Leads-does leads does
  goes_on rest later stream bytes begins (Err broken.Memory) leads h =
      let w = h.1 in (h.0, record { texts = w.texts; written = w.written; leads = Leads-trans leads w.leads; count = w.count; are = w.are })
  goes_on rest later stream bytes begins (Err broken.Source) leads bare = (Leads-breaks leads bare.0, bare.1)
  goes_on rest later stream bytes begins (Err broken.Out) leads bare = (Leads-breaks leads bare.0, bare.1)
  goes_on rest later stream bytes begins (Err broken.Record) leads bare = (Leads-breaks leads bare.0, bare.1)

  -- and so does what continues where nothing is gathered
  pub continues : (rest later : List ℕ → Part End) (stream : Stream) (r : Result (Option End) Broken) → Leads a b n n' whole rest
      → Continues r b c n' n'' rest later stream → GoesFurther r a c n n'' whole later stream [] []
  continues rest later stream (Ok None) leads more = waits_nil later (Leads-trans leads more)
  continues rest later stream (Ok (Some end)) leads does = Leads-does leads does
  continues rest later stream (Err e) leads broken = halts_nil e (Leads-breaks leads broken)

-- ---- a step whose text is gathered

none_begin : (xs : List (List ℕ)) → begins_from 0 xs ≡ [] → xs ≡ []
none_begin [] is = refl
none_begin (x ∷ xs) is = cc

module _ {S M : Type 0} (rules : Rules S M) (options : Options) (at : S) (m : M) (steps : ℕ) where
  step_added : (follows : S → Stream → List ℕ → Part End) (stream : Stream) (t : S) (printed text : List ℕ) → rules.step at m ≡ Goes t printed → text ≡ step_text rules options at m (steps + 1) t printed
      → (xs : List (List ℕ)) (left : List ℕ) → behind xs (step_part rules options at m steps follows stream) left ≡ behind (xs ++ text ∷ []) (follows t stream) left
  unfolding stepped
  step_added follows stream t printed text goes is xs left =
      rw (goes, ← is, told-append xs (text ∷ [])) (preceded-preceded (told_steps xs) (Stepped ∷ Put Told text ∷ []) (follows t stream left))

  pub waits_more : {a : Holdings} {n : ℕ} (follows : S → Stream → List ℕ → Part End) (stream : Stream) (t : S) (printed text : List ℕ) → rules.step at m ≡ Goes t printed → text ≡ step_text rules options at m (steps + 1) t printed
      → (xs : List (List ℕ)) (bytes begins bytes' begins' : List ℕ) → AreGathered xs bytes begins → steps ≡ n + length xs → AddsText bytes begins text bytes' begins'
      → Waits a a n (steps + 1) (behind xs (step_part rules options at m steps follows stream)) (follows t stream) bytes' begins'
  waits_more {n = n} follows stream t printed text goes is xs bytes begins bytes' begins' are count (inl added) =
      let more = length-append xs (text ∷ []) in
      record {
        texts = xs ++ text ∷ [];
        written = n;
        leads = Leads-same (step_added follows stream t printed text goes is xs) (Leads-nil (behind xs (step_part rules options at m steps follows stream)));
        count = omega arith;
        are = record {
          bytes_are = added.0 ∙ (ap (λ bs. bs ++ text) are.bytes_are ∙ sym (told_last xs text));
          begins_are = added.1 ∙ (ap (λ bs. bs ++ length bytes ∷ []) are.begins_are ∙ (ap (λ bs. begins_from 0 xs ++ length bs ∷ []) are.bytes_are ∙ sym (begins-last xs text)));
        };
      }
  waits_more {n = n} follows stream t printed text goes is xs bytes begins bytes' begins' are count (inr empty) =
      let none : xs ≡ [] = none_begin xs (sym are.begins_are ∙ empty.1) in
      let few : length xs ≡ 0 = ap (λ (ts : List (List ℕ)). length ts) none in
      let now : steps ≡ n = omega arith in
      record {
        texts = [];
        written = steps + 1;
        leads = rw (none, ← now) (Leads-same (λ left. refl) (step_leads rules options at m steps follows stream t printed (steps + 1) goes (rw (← is, empty.0) Moved-nil) refl));
        count = sym (add-zero (steps + 1));
        are = record { bytes_are = empty.2 ∙ (are.bytes_are ∙ ap (λ ts. output (told_steps ts)) none); begins_are = empty.3 };
      }

-- ---- a turn with one move

-- what follows a step
abbrev pub after_step : {S M : Type 0} → Version → Rules S M → Options → ℕ → S → Stream → List ℕ → Part End
after_step notes rules options steps t stream left = story notes rules options (options.limit - (steps + 1)) t (steps + 1) stream left

module _ {S M : Type 0} (notes : Version) (rules : Rules S M) (options : Options) (at : S) (steps : ℕ) (stream : Stream) where
  one_of : (m : M) (moves : List M) → length moves ≡ 1 → get_or moves 0 m ≡ m → moves ≡ m ∷ []
  one_of m [] one is = cc
  one_of m (x ∷ []) one is = ap (λ y. y ∷ []) is
  one_of m (x ∷ y ∷ ms) one is = cc

  one_story : (m : M) (fuel : ℕ) → rules.moves at ≡ m ∷ [] → (left : List ℕ)
      → story notes rules options (suc fuel) at steps stream left ≡ stepped rules options at m steps (λ t. story notes rules options fuel t (steps + 1) stream left) stream left (rules.step at m)
  unfolding story select_move answered
  one_story m fuel is left = rw is refl

  pub one_move : (m : M) (moves : List M) → moves ≡ rules.moves at → length moves ≡ 1 → m ≡ get_or moves 0 m → steps < options.limit
      → (left : List ℕ) → story_after notes rules options at steps stream left ≡ step_part rules options at m steps (after_step notes rules options steps) stream left
  one_move m moves is one first lt left =
      let more : options.limit - steps ≡ suc (options.limit - (steps + 1)) = omega arith in
      rw more (one_story m (options.limit - (steps + 1)) (sym is ∙ one_of m moves one (sym first)) left)

-- a turn in which the one move was taken
module _ {S M : Type 0} (notes : Version) (rules : Rules S M) (options : Options) (at t : S) (m : M) (steps steps' : ℕ) (course course' : Course) (a b : Holdings) (moves : List M) where
  -- what follows the step is what follows after so many steps
  next_story : (n : ℕ) (whole : List ℕ → Part End) (r : Result (Option End) Broken) → IfOk r (λ end. IfNone end (steps' ≡ steps + 1))
      → GoesFurther r a b n steps' whole (after_step notes rules options steps t course.stream) course.stream course'.gathered.bytes.items course'.gathered.begins.items → GoesFurther r a b n steps' whole (story_after notes rules options t steps' course.stream) course.stream course'.gathered.bytes.items course'.gathered.begins.items
  next_story n whole (Ok None) next w = rw next (rw next at w)
  next_story n whole (Ok (Some end)) next does = does
  next_story n whole (Err e) next halts = halts

  pub one_turn : course'.stream ≡ course.stream → moves ≡ rules.moves at → length moves ≡ 1 → m ≡ get_or moves 0 m → steps < options.limit → (r : Result (Option End) Broken) → IfOk r (λ end. IfNone end (steps' ≡ steps + 1))
      → Advances r (record { notes = notes; options = options }) rules at m t a b steps steps' course course' → TurnsOn r (record { notes = notes; options = options }) rules at t a b steps steps' course course'
  one_turn still is one first lt r next advances xs n are count =
      let rest = step_part rules options at m steps (after_step notes rules options steps) course.stream in
      let same : (left : List ℕ) → behind xs (story_after notes rules options at steps course.stream) left ≡ behind xs rest left = λ left. ap (preceded (told_steps xs)) (one_move notes rules options at steps course.stream m moves is one first lt left) in
      rw still (next_story n (behind xs (story_after notes rules options at steps course.stream)) r next
      (goes_on b steps' (behind xs rest) (after_step notes rules options steps t course.stream) course.stream course'.gathered.bytes.items course'.gathered.begins.items r (Leads-same same (Leads-nil (behind xs (story_after notes rules options at steps course.stream))))
      (advances xs n (after_step notes rules options steps) course.stream are count)))
