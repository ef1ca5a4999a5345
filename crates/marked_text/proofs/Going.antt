-- What is added, step by step.
use Rattle.std.proofs.Common.{◌≡◌, ◌≤◌, ◌∙◌, ◌+◌, ◌<◌, ◌++◌, ℕ, zero, suc, true, List, [], ◌∷◌, refl, sym, ap, subst, append_assoc, append-nil, Result, Ok, Err, OnOk, length, take, slice_index_or, arith}
use Rattle.pml_macros.specs.declared.book.Book.{Book}
use Rattle.pml_macros.specs.declared.atom.Atom.{Atom}
use Rattle.pml_macros.specs.Texts.{text_in}
use Rattle.marked_text.specs.Writes.{Spot, stale, fed, at, mark_of, name_in, Leads, stays, blank, feed, mark, StandsAt, Writes, token, nothing, Goes, Ends, WritesAll, start}

leads_on : {ns : List (List ℕ)} {p q r : Spot} {s t : List ℕ} → Leads ns p s q → Leads ns q t r → Leads ns p (s ++ t) r
leads_on stays k = k
leads_on (blank h) k = blank (leads_on h k)
leads_on (feed h) k = feed (leads_on h k)
leads_on {ns} {p} {q} {r} {s} {t} (mark {t = u} file n fresh h) k =
    subst (λ (xs : List ℕ). Leads ns p xs r) (sym (append_assoc (mark_of n (name_in ns file)) u t)) (mark file n fresh (leads_on h k))

pub goes_none : (ns : List (List ℕ)) (old : List ℕ) (p : Spot) → Goes ns old old p p
goes_none ns old p = record { gap = []; joins = sym (append-nil old); leads = stays }

pub goes_on : {ns : List (List ℕ)} {old mid new : List ℕ} {p q r : Spot} → Goes ns old mid p q → Goes ns mid new q r → Goes ns old new p r
goes_on {ns} {old} {mid} {new} {p} {q} {r} g h = record {
  gap = g.gap ++ h.gap;
  joins = h.joins ∙ ap (λ (xs : List ℕ). xs ++ h.gap) g.joins ∙ append_assoc old g.gap h.gap;
  leads = leads_on g.leads h.leads;
}

pub goes_feed : (ns : List (List ℕ)) (old new : List ℕ) (p : Spot) → new ≡ old ++ 10 ∷ [] → Goes ns old new p (fed p)
goes_feed ns old new p e = record { gap = 10 ∷ []; joins = e; leads = feed stays }

pub goes_blank : (ns : List (List ℕ)) (old new : List ℕ) (p : Spot) → new ≡ old ++ 32 ∷ [] → Goes ns old new p (stale p)
goes_blank ns old new p e = record { gap = 32 ∷ []; joins = e; leads = blank stays }

pub goes_mark : (ns : List (List ℕ)) (old new : List ℕ) (p : Spot) (file n : ℕ) → p.is_fresh ≡ true → new ≡ old ++ mark_of n (name_in ns file) → Goes ns old new p (at file n)
goes_mark ns old new p file n fresh e = record {
  gap = mark_of n (name_in ns file) ++ [];
  joins = e ∙ ap (λ (xs : List ℕ). old ++ xs) (sym (append-nil (mark_of n (name_in ns file))));
  leads = mark file n fresh stays;
}

pub ends_none : (ns : List (List ℕ)) (old : List ℕ) (p : Spot) → p.is_fresh ≡ true → Ends ns old old p
ends_none ns old p e = record { next = p; fresh = e; goes = goes_none ns old p }

pub ends_feed : (ns : List (List ℕ)) (old new : List ℕ) (p : Spot) → new ≡ old ++ 10 ∷ [] → Ends ns old new p
ends_feed ns old new p e = record { next = fed p; fresh = refl; goes = goes_feed ns old new p e }

pub marks : {ns : List (List ℕ)} {old mid new name : List ℕ} {p : Spot} (file n : ℕ) → Ends ns old mid p → name ≡ name_in ns file → new ≡ mid ++ mark_of n name → Goes ns old new p (at file n)
marks {ns} {old} {mid} {new} {name} {p} file n ends is e =
    goes_on ends.goes (goes_mark ns mid new ends.next file n ends.fresh (subst (λ (xs : List ℕ). new ≡ mid ++ mark_of n xs) is e))

pub goes_ok : {A E : Type 0} {ns : List (List ℕ)} {old mid : List ℕ} {p q : Spot} (new : List ℕ) (r : Spot) (x : Result A E) → Goes ns old mid p q → OnOk x (Goes ns mid new q r) → OnOk x (Goes ns old new p r)
goes_ok new r (Ok v) g h = goes_on g h
goes_ok new r (Err v) g h = tt

pub goes_by : {A E : Type 0} {ns : List (List ℕ)} {old mid : List ℕ} {p q : Spot} (new : List ℕ) (r : Spot) (x : Result A E) → Goes ns old mid p q → OnOk x ((ms : List (List ℕ)) → Goes ms mid new q r) → OnOk x (Goes ns old new p r)
goes_by {A} {E} {ns} new r (Ok v) g h = goes_on g (h ns)
goes_by new r (Err v) g h = tt

pub stands_on : {A E : Type 0} {p q : Spot} {a : Atom} (r : Spot) (x : Result A E) → StandsAt p q a → r.file ≡ q.file → r.line ≡ q.line → OnOk x (StandsAt p r a)
stands_on {A} {E} {p} {q} {a} r (Ok v) h e f = record { file = e ∙ h.file; low = subst (λ (n : ℕ). a.call.line ≤ n) (sym f) h.low; same = λ g. f ∙ h.same g }
stands_on r (Err v) h e f = tt

-- a token more
abbrev pub Gives : Book → List (List ℕ) → List Atom → List ℕ → Spot → Type 0
Gives b ns done front p = (us : List Atom) (t : List ℕ) → Writes b ns p us t → Writes b ns start (done ++ us) (front ++ t)

pub gives_none : (b : Book) (ns : List (List ℕ)) → Gives b ns [] [] start
gives_none b ns us t h = h

pub gives_more : {b : Book} {ns : List (List ℕ)} {p q : Spot} {gap : List ℕ} (done : List Atom) (front : List ℕ) (a : Atom) → Gives b ns done front p → Leads ns p gap q → StandsAt p q a
    → Gives b ns (done ++ a ∷ []) (front ++ (gap ++ text_in b a.text)) (stale q)
gives_more {b} {ns} {p} {q} {gap} done front a g leads stands us t h =
    subst (λ (xs : List Atom). Writes b ns start xs ((front ++ (gap ++ text_in b a.text)) ++ t)) (sym (append_assoc done (a ∷ []) us))
    (subst (λ (xs : List ℕ). Writes b ns start (done ++ a ∷ us) xs) (sym (append_assoc front (gap ++ text_in b a.text) t ∙ ap (λ (xs : List ℕ). front ++ xs) (append_assoc gap (text_in b a.text) t)))
    (g (a ∷ us) (gap ++ (text_in b a.text ++ t)) (token leads stands h)))

-- what is written so far
pub record Written (b : Book) (ns : List (List ℕ)) (done : List Atom) (out : List ℕ) (p : Spot) : Type 0 where
  pub front : List ℕ
  pub begins : out ≡ mark_of 1 [] ++ front
  pub gives : Gives b ns done front p

pub written_more : {b : Book} {ns : List (List ℕ)} {done : List Atom} {old mid new text : List ℕ} {p q r : Spot} (a : Atom) → Written b ns done old p → Goes ns old mid p q → StandsAt p q a
    → text ≡ text_in b a.text → new ≡ mid ++ text → r ≡ stale q → Written b ns (done ++ a ∷ []) new r
written_more {b} {ns} {done} {old} {mid} {new} {text} {p} {q} {r} a w g stands is e f = record {
  front = w.front ++ (g.gap ++ text_in b a.text);
  begins = e ∙ ap (λ (xs : List ℕ). xs ++ text) g.joins ∙ ap (λ (xs : List ℕ). (old ++ g.gap) ++ xs) is ∙ append_assoc old g.gap (text_in b a.text)
      ∙ ap (λ (xs : List ℕ). xs ++ (g.gap ++ text_in b a.text)) w.begins ∙ append_assoc (mark_of 1 []) w.front (g.gap ++ text_in b a.text);
  gives = subst (λ (s : Spot). Gives b ns (done ++ a ∷ []) (w.front ++ (g.gap ++ text_in b a.text)) s) (sym f) (gives_more done w.front a w.gives g.leads stands);
}

pub written_first : (b : Book) (ns : List (List ℕ)) (out : List ℕ) (p : Spot) → out ≡ mark_of 1 [] → p ≡ start → Written b ns [] out p
written_first b ns out p e f = record {
  front = [];
  begins = e ∙ sym (append-nil (mark_of 1 []));
  gives = subst (λ (s : Spot). Gives b ns [] [] s) (sym f) (gives_none b ns);
}

-- nothing more, or a line feed
pub all_written : {b : Book} {ns : List (List ℕ)} {done : List Atom} {out new : List ℕ} {p q : Spot} → Written b ns done out p → Goes ns out new p q → WritesAll b ns done new
all_written {b} {ns} {done} {out} {new} {p} {q} w g = record {
  rest = w.front ++ g.gap;
  begins = g.joins ∙ ap (λ (xs : List ℕ). xs ++ g.gap) w.begins ∙ append_assoc (mark_of 1 []) w.front g.gap;
  writes = subst (λ (xs : List Atom). Writes b ns start xs (w.front ++ g.gap)) (append-nil done) (w.gives [] g.gap (nothing g.leads));
}

-- a token more of a list
pub take_next : (i : ℕ) (xs : List Atom) (d : Atom) → i < length xs → take (i + 1) xs ≡ take i xs ++ slice_index_or xs i d ∷ []
take_next i xs d h = subst (λ (n : ℕ). take n xs ≡ take i xs ++ slice_index_or xs i d ∷ []) (sym (one i)) (by i xs h)
  where
    one : (i : ℕ) → i + 1 ≡ suc i
    one i = omega arith

    by : (i : ℕ) (xs : List Atom) → i < length xs → take (suc i) xs ≡ take i xs ++ slice_index_or xs i d ∷ []
    by i [] h = absurd (omega arith)
    by zero (x ∷ xs) h = refl
    by (suc i) (x ∷ xs) h = ap (λ (ys : List Atom). x ∷ ys) (by i xs (omega arith))
