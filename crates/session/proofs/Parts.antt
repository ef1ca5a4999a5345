-- How parts of a session are done one after another.
use Rattle.std.proofs.Common.{◌≡◌, ℕ, List, [], ◌∷◌, ◌++◌, length, take, nat_le, ◌≤◌, arith, Bool, true, false, refl, sym, ap, ◌∙◌, append_assoc, add_assoc, add-zero, ◌+◌}
use Rattle.std.proofs.lemmas.Grind.{flat_map-append}
use Rattle.std.proofs.lemmas.List.Sums.{sum_by-append}
use Rattle.std.proofs.lemmas.List.Folds.{list_all-append}
use Rattle.std.proofs.lemmas.List.{length-take}
use Rattle.std.proofs.lemmas.Bool.{le-leb}
use Rattle.devices.specs.Holdings.{Holdings, Moved}
use Rattle.devices.specs.Doing.{WritesPart, RecordsPart}
use Rattle.promela_session.specs.declared.ends.Broken.{Broken}
use Rattle.promela_session.specs.declared.ends.Broken.TheVariants as broken
use Rattle.promela_session.specs.Events.{Event, Purpose, Put, Recorded, asks, output, front, recorded, steps_in, output_of, bytes_of, record_of, step_of, Part, preceded, followed}
use Rattle.profile.specs.declared.TheConstants.{LINE_BYTES}
use Rattle.promela_session.specs.Devices.{is_readable, MovedBy, Begins, Does, Breaks}
use Rattle.session.specs.Ending.{AreReadable}
use Rattle.session.specs.Writes.{Leads}
use Rattle.promela_session.specs.Session.{only_this}
use Rattle.session.specs.Reads.{AsksPart, AsksBroken}
use Rattle.session.proofs.Moving.{Moved-nil, Moved-trans, Moved-piece, Moved-line}
use Rattle.promela_session.specs.declared.form.Stream.{Stream}

-- ---- what the devices see

pub front-append : (xs ys : List Event) → front (xs ++ ys) ≡ front xs ++ front ys
front-append xs ys = flat_map-append bytes_of xs ys

pub output-append : (xs ys : List Event) → output (xs ++ ys) ≡ output xs ++ output ys
output-append xs ys = flat_map-append output_of xs ys

pub recorded-append : (xs ys : List Event) → recorded (xs ++ ys) ≡ recorded xs ++ recorded ys
recorded-append xs ys = flat_map-append record_of xs ys

pub front-asks : (bytes : List ℕ) (ended : Bool) → front (asks bytes ended) ≡ bytes
front-asks [] true = refl
front-asks [] false = refl
front-asks (b ∷ bs) ended = ap (λ l. b ∷ l) (front-asks bs ended)

pub output-asks : (bytes : List ℕ) (ended : Bool) → output (asks bytes ended) ≡ []
output-asks [] true = refl
output-asks [] false = refl
output-asks (b ∷ bs) ended = output-asks bs ended

pub recorded-asks : (bytes : List ℕ) (ended : Bool) → recorded (asks bytes ended) ≡ []
recorded-asks [] true = refl
recorded-asks [] false = refl
recorded-asks (b ∷ bs) ended = recorded-asks bs ended

steps-asks : (bytes : List ℕ) (ended : Bool) → steps_in (asks bytes ended) ≡ 0
steps-asks [] true = refl
steps-asks [] false = refl
steps-asks (b ∷ bs) ended = rw (steps-asks bs ended) refl

readable-asks : (bytes : List ℕ) (ended : Bool) → AreReadable (asks bytes ended)
readable-asks [] true = refl
readable-asks [] false = refl
readable-asks (b ∷ bs) ended = readable-asks bs ended

pub MovedBy-nil : {a b : Holdings} {n : ℕ} → Moved a b [] [] [] → MovedBy a b n n []
MovedBy-nil {n = n} none = record { moved = none; count = sym (add-zero n); readable = refl }

pub MovedBy-trans : {a b c : Holdings} {n n' n'' : ℕ} {xs ys : List Event} → MovedBy a b n n' xs → MovedBy b c n' n'' ys → MovedBy a c n n'' (xs ++ ys)
MovedBy-trans {n = n} {n' = n'} {xs = xs} {ys = ys} first second = record {
  moved = rw (front-append xs ys, output-append xs ys, recorded-append xs ys) (Moved-trans first.moved second.moved);
  count = rw (sum_by-append step_of xs ys) (second.count ∙ (ap (λ k. k + steps_in ys) first.count ∙ add_assoc n (steps_in xs) (steps_in ys)));
  readable = rw (list_all-append is_readable xs ys, first.readable, second.readable) refl;
}

pub MovedBy-asks : {a b : Holdings} {n : ℕ} (bytes : List ℕ) (ended : Bool) → Moved a b bytes [] [] → MovedBy a b n n (asks bytes ended)
MovedBy-asks {n = n} bytes ended moved = record {
  moved = rw (front-asks bytes ended, output-asks bytes ended, recorded-asks bytes ended) moved;
  count = rw (steps-asks bytes ended) (sym (add-zero n));
  readable = readable-asks bytes ended;
}

pub MovedBy-put : {a b : Holdings} {n : ℕ} (purpose : Purpose) (piece : List ℕ) → Moved a b [] piece [] → MovedBy a b n n (Put purpose piece ∷ [])
MovedBy-put {n = n} purpose piece took = record { moved = Moved-piece piece took; count = sym (add-zero n); readable = refl }

abbrev pub IsReadable : List ℕ → Type 0
IsReadable line = length line ≤ LINE_BYTES + 1

is_line : (line : List ℕ) → IsReadable line → nat_le (length line) (LINE_BYTES + 1) ≡ true
is_line line short = le-leb (length line) (LINE_BYTES + 1) short

pub MovedBy-recorded : {a b : Holdings} {n : ℕ} (line placed : List ℕ) → IsReadable line → Moved a b [] [] line → MovedBy a b n n (Recorded line placed ∷ [])
MovedBy-recorded {n = n} line placed short took = record { moved = Moved-line line took; count = sym (add-zero n); readable = rw (is_line line short) refl }

part_readable : (line : List ℕ) (n : ℕ) → IsReadable line → IsReadable (take n line)
part_readable line n short = let few = length-take n line in omega (arith, few)

-- ---- beginnings

pub Begins-after : (e : Broken) (xs done all : List Event) → Begins e done all → Begins e (xs ++ done) (xs ++ all)
Begins-after broken.Memory xs done all b = (b.0, ap (λ l. xs ++ l) b.1 ∙ sym (append_assoc xs done b.0))
Begins-after broken.Source xs done all b = (b.0, b.1, b.2, ap (λ l. xs ++ l) b.3 ∙ sym (append_assoc xs done (b.0 ∷ b.1)))
Begins-after broken.Out xs done all b = (xs ++ b.0, b.1, b.2, b.3, b.4, b.5, ap (λ l. xs ++ l) b.6 ∙ sym (append_assoc xs b.0 _), ap (λ l. xs ++ l) b.7 ∙ sym (append_assoc xs b.0 _))
Begins-after broken.Record xs done all b = (xs ++ b.0, b.1, b.2, b.3, b.4, b.5, ap (λ l. xs ++ l) b.6 ∙ sym (append_assoc xs b.0 _), ap (λ l. xs ++ l) b.7 ∙ sym (append_assoc xs b.0 _))

pub Begins-more : (e : Broken) (done all ys : List Event) → Begins e done all → Begins e done (all ++ ys)
Begins-more broken.Memory done all ys b = (b.0 ++ ys, ap (λ l. l ++ ys) b.1 ∙ append_assoc done b.0 ys)
Begins-more broken.Source done all ys b = (b.0, b.1 ++ ys, b.2, ap (λ l. l ++ ys) b.3 ∙ append_assoc done (b.0 ∷ b.1) ys)
Begins-more broken.Out done all ys b = (b.0, b.1, b.2, b.3, b.4 ++ ys, b.5, b.6, ap (λ l. l ++ ys) b.7 ∙ append_assoc b.0 (Put b.1 b.2 ∷ b.4) ys)
Begins-more broken.Record done all ys b = (b.0, b.1, b.2, b.3, b.4 ++ ys, b.5, b.6, ap (λ l. l ++ ys) b.7 ∙ append_assoc b.0 (Recorded b.1 b.2 ∷ b.4) ys)

-- ---- one part after another

module _ {T : Type 0} where
  pub preceded-preceded : (xs ys : List Event) (p : Part T) → preceded xs (preceded ys p) ≡ preceded (xs ++ ys) p
  preceded-preceded xs ys p = ap (λ l. record { events = l; value = p.value; stream = p.stream; left = p.left }) (sym (append_assoc xs ys p.events))

  pub Leads-nil : {a : Holdings} {n : ℕ} (part : List ℕ → Part T) → Leads a a n n part part
  Leads-nil part = record { done = []; moved = MovedBy-nil Moved-nil; is = λ left now. refl }

  pub Leads-same : {a b : Holdings} {n n' : ℕ} {whole mid rest : List ℕ → Part T} → ((left : List ℕ) → mid left ≡ rest left)
      → Leads a b n n' whole mid → Leads a b n n' whole rest
  Leads-same same l = record { done = l.done; moved = l.moved; is = λ left now. l.is left now ∙ ap (preceded l.done) (same left) }

  module _ {a b c : Holdings} {n n' n'' : ℕ} {whole rest : List ℕ → Part T} where
    pub Leads-trans : {mid : List ℕ → Part T} → Leads a b n n' whole mid → Leads b c n' n'' mid rest → Leads a c n n'' whole rest
    Leads-trans first second = record {
      done = first.done ++ second.done;
      moved = MovedBy-trans first.moved second.moved;
      is = λ left now.
          rw (front-append first.done second.done) (rw append_assoc (rw (first.is (front second.done ++ left) (second.moved.moved.read.gave left now))
          (rw (second.is left now) (preceded-preceded first.done second.done _))));
    }

    pub Leads-does : {v : T} {stream : Stream} → Leads a b n n' whole rest → Does b c n' n'' rest v stream → Does a c n n'' whole v stream
    Leads-does first second = record {
      done = first.done ++ second.done;
      moved = MovedBy-trans first.moved second.moved;
      is = λ left now.
          rw (front-append first.done second.done) (rw append_assoc (rw (first.is (front second.done ++ left) (second.moved.moved.read.gave left now))
          (rw (second.is left now) refl)));
    }

    pub Leads-breaks : {e : Broken} → Leads a b n n' whole rest → Breaks b c n' n'' e rest → Breaks a c n n'' e whole
    Leads-breaks {e = e} first second = record {
      done = first.done ++ second.done;
      moved = MovedBy-trans first.moved second.moved;
      begins = λ left now.
          rw (front-append first.done second.done) (rw append_assoc (rw (first.is (front second.done ++ left) (second.moved.moved.read.gave left now))
          (Begins-after e first.done second.done _ (second.begins left now))));
    }

  -- ---- the parts of which the others are made

  module _ {a b : Holdings} {n : ℕ} where
    pub puts : {purpose : Purpose} (piece : List ℕ) (rest : List ℕ → Part T) → Moved a b [] piece [] → Leads a b n n (λ left. preceded (Put purpose piece ∷ []) (rest left)) rest
    puts {purpose = purpose} piece rest took = record { done = Put purpose piece ∷ []; moved = MovedBy-put purpose piece took; is = λ left now. refl }

    pub put_breaks : {purpose : Purpose} (piece : List ℕ) (rest : List ℕ → Part T) → WritesPart a b piece → Breaks a b n n broken.Out (λ left. preceded (Put purpose piece ∷ []) (rest left))
    put_breaks {purpose = purpose} piece rest took = record {
      done = Put purpose (take took.0 piece) ∷ [];
      moved = MovedBy-put purpose (take took.0 piece) took.2;
      begins = λ left now. ([], purpose, piece, took.0, (rest left).events, took.1, refl, refl);
    }

    pub records : (line placed : List ℕ) (rest : List ℕ → Part T) → IsReadable line → Moved a b [] [] line → Leads a b n n (λ left. preceded (Recorded line placed ∷ []) (rest left)) rest
    records line placed rest short took = record { done = Recorded line placed ∷ []; moved = MovedBy-recorded line placed short took; is = λ left now. refl }

    pub record_breaks : (line placed : List ℕ) (rest : List ℕ → Part T) → IsReadable line → RecordsPart a b line → Breaks a b n n broken.Record (λ left. preceded (Recorded line placed ∷ []) (rest left))
    record_breaks line placed rest short took = record {
      done = Recorded (take took.0 line) placed ∷ [];
      moved = MovedBy-recorded (take took.0 line) placed (part_readable line took.0 short) took.2;
      begins = λ left now. ([], line, placed, took.0, (rest left).events, took.1, refl, refl);
    }

    -- memory was refused, and nothing was done
    pub memory_breaks : (part : List ℕ → Part T) → Moved a b [] [] [] → Breaks a b n n broken.Memory part
    memory_breaks part none = record { done = []; moved = MovedBy-nil none; begins = λ left now. ((part left).events, refl) }

    pub asks_does : {part : List ℕ → Part T} {v : T} {stream : Stream} → AsksPart a b part v stream → Does a b n n part v stream
    asks_does asked = record {
      done = asks asked.bytes asked.ended;
      moved = MovedBy-asks asked.bytes asked.ended asked.moved;
      is = λ left now. rw (front-asks asked.bytes asked.ended) (asked.is left now);
    }

    pub ask_breaks : {part : List ℕ → Part T} → AsksBroken a b part → Breaks a b n n broken.Source part
    ask_breaks asked = record {
      done = asks asked.bytes false;
      moved = MovedBy-asks asked.bytes false asked.moved;
      begins = λ left now. rw (front-asks asked.bytes false) (asked.more left now);
    }

    -- nothing is done, and only this comes of it
    pub only_moves : (value : T) (stream : Stream) → Moved a b [] [] [] → Does a b n n (only_this value stream) value stream
    only_moves value stream none = record { done = []; moved = MovedBy-nil none; is = λ left now. refl }

module _ {T U : Type 0} {a b : Holdings} {n n' : ℕ} {part : List ℕ → Part T} where
  pub Does-then : {v : T} {stream : Stream} (next : T → Stream → List ℕ → Part U) → Does a b n n' part v stream → Leads a b n n' (λ rest. followed (part rest) next) (next v stream)
  Does-then next d = record { done = d.done; moved = d.moved; is = λ left now. rw (d.is left now) refl }

  pub Breaks-then : {e : Broken} (next : T → Stream → List ℕ → Part U) → Breaks a b n n' e part → Breaks a b n n' e (λ rest. followed (part rest) next)
  Breaks-then {e = e} next broken = record { done = broken.done; moved = broken.moved; begins = λ left now. Begins-more e broken.done _ _ (broken.begins left now) }

pub only_does : {T : Type 0} {a : Holdings} {n : ℕ} (value : T) (stream : Stream) → Does a a n n (only_this value stream) value stream
only_does value stream = only_moves value stream Moved-nil
