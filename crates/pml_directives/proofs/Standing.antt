-- The tokens that are cut stand where their places say.
use Rattle.std.proofs.Common.{◌≡◌, ◌∙◌, ℕ, zero, suc, ◌++◌, List, [], ◌∷◌, length, take, drop, refl, sym, ap, subst, slice_index_or, Result, Ok, Err, IfOk}
use Rattle.std.specs.Global.{Vec}
use Rattle.std.proofs.lemmas.List.Elements.{All-nil, All-cons, All-head, All-tail, All-append}
use Rattle.pml_macros.specs.declared.book.Book.{Book}
use Rattle.pml_macros.specs.declared.atom.Atom.{Atom}
use Rattle.pml_macros.specs.declared.atom.FilePlace.{FilePlace}
use Rattle.pml_macros.specs.Texts.{Keeps, IsText}
use Rattle.pml_directives.specs.declared.lines.AtomLine.{AtomLine}
use Rattle.pml_directives.specs.Places.{StandsThere, Stand, AllStand, AreOf, StandIn}

pub stands_still : (old new : Book) (bytes : List ℕ) (places : List FilePlace) (end : FilePlace) (a : Atom) → Keeps old new → StandsThere old bytes places end a → StandsThere new bytes places end a
stands_still old new bytes places end a keeps h =
    record { text = h.text; is = keeps a.text h.text h.is; behind = h.behind; there = h.there; place = h.place; own = h.own }

pub stand_still : (old new : Book) (bytes : List ℕ) (places : List FilePlace) (end : FilePlace) (xs : List Atom) → Keeps old new → Stand old bytes places end xs → Stand new bytes places end xs
stand_still old new bytes places end [] keeps h = All-nil (StandsThere new bytes places end)
stand_still old new bytes places end (a ∷ xs) keeps h =
    All-cons (StandsThere new bytes places end) a xs (stands_still old new bytes places end a keeps (All-head (StandsThere old bytes places end) a xs h))
    (stand_still old new bytes places end xs keeps (All-tail (StandsThere old bytes places end) a xs h))

pub all_stand_still : (old new : Book) (bytes : List ℕ) (places : List FilePlace) (end : FilePlace) (ls : List AtomLine) → Keeps old new → AllStand old bytes places end ls → AllStand new bytes places end ls
all_stand_still old new bytes places end [] keeps h = All-nil (λ l. Stand new bytes places end l.atoms.items)
all_stand_still old new bytes places end (l ∷ ls) keeps h =
    All-cons (λ l. Stand new bytes places end l.atoms.items) l ls (stand_still old new bytes places end l.atoms.items keeps (All-head (λ l. Stand old bytes places end l.atoms.items) l ls h))
    (all_stand_still old new bytes places end ls keeps (All-tail (λ l. Stand old bytes places end l.atoms.items) l ls h))

-- the front of a list
pub front_is : (n : ℕ) (xs : List ℕ) → take (length (take n xs)) xs ≡ take n xs
front_is zero xs = refl
front_is (suc n) [] = refl
front_is (suc n) (x ∷ xs) = ap (λ (ys : List ℕ). x ∷ ys) (front_is n xs)

-- a token more
pub one_more : (b : Book) (bytes : List ℕ) (places : List FilePlace) (end : FilePlace) (xs : List Atom) (a : Atom) → Stand b bytes places end xs → StandsThere b bytes places end a → Stand b bytes places end (xs ++ a ∷ [])
one_more b bytes places end xs a h k = All-append (StandsThere b bytes places end) xs (a ∷ []) h (All-cons (StandsThere b bytes places end) a [] k (All-nil (StandsThere b bytes places end)))

-- a line more
pub one_line : (b : Book) (bytes : List ℕ) (places : List FilePlace) (end : FilePlace) (ls : List AtomLine) (l : AtomLine) → AllStand b bytes places end ls → Stand b bytes places end l.atoms.items → AllStand b bytes places end (ls ++ l ∷ [])
one_line b bytes places end ls l h k = All-append (λ l. Stand b bytes places end l.atoms.items) ls (l ∷ []) h (All-cons (λ l. Stand b bytes places end l.atoms.items) l [] k (All-nil (λ l. Stand b bytes places end l.atoms.items)))

-- the same at equal things
pub same_stand : (b b' : Book) (bytes : List ℕ) (places : List FilePlace) (end : FilePlace) (xs xs' : List Atom) → b' ≡ b → xs' ≡ xs → Stand b bytes places end xs → Stand b' bytes places end xs'
same_stand b b' bytes places end xs xs' e f h = subst (λ (c : Book). Stand c bytes places end xs') (sym e) (subst (λ (ys : List Atom). Stand b bytes places end ys) (sym f) h)

pub same_lines : (b b' : Book) (bytes : List ℕ) (places : List FilePlace) (end : FilePlace) (ls ls' : List AtomLine) → b' ≡ b → ls' ≡ ls → AllStand b bytes places end ls → AllStand b' bytes places end ls'
same_lines b b' bytes places end ls ls' e f h = subst (λ (c : Book). AllStand c bytes places end ls') (sym e) (subst (λ (ys : List AtomLine). AllStand b bytes places end ys) (sym f) h)

pub none_stand : (b : Book) (bytes : List ℕ) (places : List FilePlace) (end : FilePlace) (xs : List Atom) → xs ≡ [] → Stand b bytes places end xs
none_stand b bytes places end xs e = subst (λ (ys : List Atom). Stand b bytes places end ys) (sym e) (All-nil (StandsThere b bytes places end))

-- the token that is cut
pub token_stands : (b : Book) (bytes : List ℕ) (places : List FilePlace) (end : FilePlace) (a : Atom) (rest front : List ℕ) (number at n : ℕ) → rest ≡ drop at bytes → front ≡ take n rest → IsText b number front → a.text ≡ number
    → a.place ≡ slice_index_or places at end → a.call ≡ a.place → StandsThere b bytes places end a
token_stands b bytes places end a rest front number at n e f is t place own =
    let front' : front ≡ take n (drop at bytes) = f ∙ ap (take n) e in
    record {
      text = front;
      is = subst (λ (k : ℕ). IsText b k front) (sym t) is;
      behind = at;
      there = subst (λ (ys : List ℕ). take (length ys) (drop at bytes) ≡ ys) (sym front') (front_is n (drop at bytes));
      place = place;
      own = own;
    }

-- what stands in the text without its joints stands in the text
pub stand_in : {E : Type 0} (r : Result (Vec AtomLine) E) (b : Book) (file : ℕ) (text bytes bytes' : List ℕ) (places places' : List FilePlace) (end : FilePlace) → AreOf file text bytes places → bytes' ≡ bytes → places' ≡ places
    → IfOk r (λ v. AllStand b bytes' places' end v.items) → IfOk r (λ v. StandIn b file text v.items)
stand_in (Err x) b file text bytes bytes' places places' end of e f h = tt
stand_in (Ok v) b file text bytes bytes' places places' end of e f h = record {
  bytes = bytes';
  places = places';
  end = end;
  of = subst (λ (xs : List ℕ). AreOf file text xs places') (sym e) (subst (λ (ps : List FilePlace). AreOf file text bytes ps) (sym f) of);
  stand = h;
}
