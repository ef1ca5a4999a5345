-- The tables of the code say what marks declare, and the names of marks, one mark more.
use Rattle.std.proofs.Common.{flat_map, ◌≡◌, ℕ, ◌+◌, ◌<◌, List, [], ◌∷◌, ◌++◌, Option, length, take, drop, get_or, refl, ap, sym, ◌∙◌, append_assoc}
use Rattle.std.proofs.lemmas.List.{take_more, drop_more}
use Rattle.promela_model.specs.declared.mark.Mark.{Mark}
use Rattle.promela_model.specs.Names.{Naming, Before, before}
use Rattle.check_names.specs.declared.places.Places.{Places}
use Rattle.check_names.specs.Entry.{Entry, found}
use Rattle.check_names.specs.Env.{env}
use Rattle.check_names.proofs.Firsts.{told-before}
use Rattle.declared_names.specs.Sites.{Sites, sites, labels}
use Rattle.declared_names.specs.Meant.{Known, known, by_mark, by_marks}
use Rattle.declared_names.specs.Tables.{told, sites_of, AreSites, AreLabels}
use Rattle.declared_names.specs.declared.occurrence.Occurrence.{Occurrence}
use Rattle.declared_names.specs.declared.declared.Declaration.{Declaration}
use Rattle.declared_names.specs.Firsts.{declared_by_mark, declared}

abbrev with_parts : Naming → Sites → Known
with_parts names ss = record { names = names; sites = ss }

pub found_is : (ms : List Mark) (es : List Entry) → es ≡ env ms → found es ≡ (before ms).names
found_is ms es e = ap found e ∙ ap (λ (k : Before). k.names) (told-before ms)

pub sites_are : (ms : List Mark) (ps : Places ℕ) → AreSites ms ps → sites_of ps ≡ sites ms
sites_are ms ps a = λ i o n. a.same o n i

pub labels_are : (ms : List Mark) (ps : Places ℕ) → AreLabels ms ps → sites_of ps ≡ labels ms
labels_are ms ps a = λ i o n. a.same o n i

pub told_is : (ms : List Mark) (es : List Entry) (ps : Places ℕ) → es ≡ env ms → AreSites ms ps → told es ps ≡ known ms
told_is ms es ps e a = ap (λ (x : Naming). with_parts x (sites_of ps)) (found_is ms es e) ∙ ap (with_parts (before ms).names) (sites_are ms ps a)

abbrev pub there : List Mark → Mark → List Mark → List Occurrence
there all m here = by_mark (known all) (known here) (labels all) m.owner m.what

-- one mark more
pub by_marks_more : (all ms : List Mark) (i : ℕ) (m : Mark) → i < length ms → m ≡ get_or ms i m
    → by_marks all (take i ms) (drop i ms) ≡ there all m (take (i + 1) ms) ++ by_marks all (take (i + 1) ms) (drop (i + 1) ms)
by_marks_more all ms i m h e =
    let d : drop i ms ≡ m ∷ drop (i + 1) ms = drop_more ms i m h ∙ ap (λ (x : Mark). x ∷ drop (i + 1) ms) (sym e) in
    let t : take i ms ++ m ∷ [] ≡ take (i + 1) ms = sym (take_more ms i m h ∙ ap (λ (x : Mark). take i ms ++ x ∷ []) (sym e)) in
    ap (by_marks all (take i ms)) d ∙ ap (λ (xs : List Mark). there all m xs ++ by_marks all xs (drop (i + 1) ms)) t

-- what is out and what the rest gives, behind a mark that was added by the tables of the code
pub meant_more : (all ms : List Mark) (i : ℕ) (m : Mark) (old new goal : List Occurrence) (a b : Known) (ls : Sites)
    → i < length ms → m ≡ get_or ms i m → a ≡ known all → b ≡ known (take (i + 1) ms) → ls ≡ labels all
    → new ≡ old ++ by_mark a b ls m.owner m.what → old ++ by_marks all (take i ms) (drop i ms) ≡ goal
    → new ++ by_marks all (take (i + 1) ms) (drop (i + 1) ms) ≡ goal
meant_more all ms i m old new goal a b ls h e p q r n g =
    let rest = by_marks all (take (i + 1) ms) (drop (i + 1) ms) in
    let same : by_mark a b ls m.owner m.what ≡ there all m (take (i + 1) ms) =
    ap (λ (x : Known). by_mark x b ls m.owner m.what) p
    ∙ ap (λ (x : Known). by_mark (known all) x ls m.owner m.what) q
    ∙ ap (λ (x : Sites). by_mark (known all) (known (take (i + 1) ms)) x m.owner m.what) r in
    ap (λ (xs : List Occurrence). xs ++ rest) (n ∙ ap (λ (xs : List Occurrence). old ++ xs) same)
    ∙ append_assoc old (there all m (take (i + 1) ms)) rest
    ∙ ap (λ (xs : List Occurrence). old ++ xs) (sym (by_marks_more all ms i m h e))
    ∙ g

-- what the tables of the code say is declared
pub declared_is : (ms : List Mark) (names : Naming) (ss ls : Sites) → names ≡ (before ms).names → ss ≡ sites ms → ls ≡ labels ms
    → flat_map (declared_by_mark names ss ls) ms ≡ declared ms
declared_is ms names ss ls n s l =
    ap (λ (x : Naming). flat_map (declared_by_mark x ss ls) ms) n
    ∙ ap (λ (x : Sites). flat_map (declared_by_mark (before ms).names x ls) ms) s
    ∙ ap (λ (x : Sites). flat_map (declared_by_mark (before ms).names (sites ms) x) ms) l
