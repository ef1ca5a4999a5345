-- What is written of a move is written again for the next that does the same.
use Rattle.std.proofs.Common.{◌≡◌, ◌∙◌, ap, sym, refl, subst, ℕ, ◌<◌, Bool, true, false, List, [], ◌∷◌, ◌++◌, length, Option, Some, None, arith, codes}
use Rattle.std.proofs.lemmas.Bool.{true≢false, and_parts, not-true, eqb-true}
use Rattle.std.proofs.lemmas.Slice.Eq.{bytes_eq-Decides}
use Rattle.std.specs.Prelude.{◌&&◌, not, nat_eq}
use Rattle.std.specs.Option.{option_map_or}
use Rattle.std.specs.Str.{bytes_eq}
use Rattle.pml_program.specs.declared.program.Proctype.{Proctype}
use Rattle.promela_process.specs.Offers.{Offer}
use Rattle.promela_run.specs.declared.moves.Pick.{Pick}
use Rattle.promela_run.specs.declared.moves.Move.{Move}
use Rattle.promela_run.specs.declared.moves.Move.TheVariants.{Alone, Pair}
use Rattle.promela_run.specs.State.{picked, State}
use Rattle.promela_run.specs.World.{sort_of_process, offer_with_heading, pick_text, move_text}
use Rattle.view_waits.specs.Offers.{bare, text_in, offered_line}
use Rattle.json.specs.Token.{Token}
use Rattle.view_json.specs.declared.known.Known.{Known}
use Rattle.view_json.specs.declared.known.Seen.{Seen}
use Rattle.view_json.specs.declared.texts.Parts.{Parts}
use Rattle.view_json.specs.declared.texts.Line.{Line}
use Rattle.view_json.specs.Objects.{text, member, detail, object}
use Rattle.view_json.specs.Lines.{dealing}
use Rattle.view_json.specs.Choices.{Effect, actor, partner, choice, next_line}
use Rattle.view_json.specs.Known.{Knows, IsSeen, alike, of_pick, IsOf, whole_text, acted}
use Rattle.view_json.specs.Texts.{behind_heading, offer_by, text_by, TellsMove, Reads, IsLine, same_parts}

-- ---- a process at an offer

text_is : (o : Option Offer) → text_in o ≡ bare (option_map_or (λ (x : Offer). x.text) o [])
text_is None = refl
text_is (Some o) = refl

same_actor : (s : State) (j k : Pick) → j.process ≡ k.process → offered_line s j ≡ offered_line s k → whole_text s j ≡ whole_text s k → next_line s j ≡ next_line s k
    → actor s j ≡ actor s k
same_actor s j k process line whole next =
    let bare_is : text_in (picked s j) ≡ text_in (picked s k) = text_is (picked s j) ∙ ap bare whole ∙ sym (text_is (picked s k)) in
    λ i. acted s (process i) (line i) (bare_is i) (next i)

pub alike_is : (s : State) (k : Known) (pick : Pick) (x : Seen) → IsSeen s pick x → Knows s k → alike k pick.process x ≡ true → IsOf s (of_pick pick k)
alike_is s k pick x seen knows same =
    let one = and_parts (not k.written.refused) _ same in
    let two = and_parts (nat_eq k.pick.process pick.process) _ one.1 in
    let three = and_parts (nat_eq k.line x.line) _ two.1 in
    let four = and_parts (nat_eq k.next x.next) _ three.1 in
    let of = knows (not-true k.written.refused one.0) in
    let line = eqb-true k.line x.line three.0 ∙ seen.line in
    let text = (bytes_eq-Decides k.text.items x.text.now).0 four.1 ∙ seen.text in
    let next = eqb-true k.next x.next four.0 ∙ seen.next in
    record {
      line = line;
      text = text;
      next = next;
      written = of.written ∙ same_actor s k.pick pick (eqb-true k.pick.process pick.process two.0) (sym of.line ∙ line) (sym of.text ∙ text) (sym of.next ∙ next);
    }

-- what was written of an offer is not refused, where it is alike
pub alike_calm : (k : Known) (p : ℕ) (x : Seen) → alike k p x ≡ true → k.written.refused ≡ false
alike_calm k p x same = not-true k.written.refused (and_parts (not k.written.refused) _ same).0

-- the tokens of a move of one process are those of another that is alike
pub same_single : (s : State) (k : Known) (pick : Pick) (x : Effect) → IsOf s k → IsOf s (of_pick pick k)
    → choice s (Alone k.pick false) x ≡ choice s (Alone pick false) x
same_single s k pick x old new =
    ap (λ (ts : List Token). object (ts ++ (dealing s x.deals ++ (partner s (Alone pick false) ++ detail (codes "effect") x.words)))) (sym old.written ∙ new.written)

-- so are those of a rendezvous
pub same_couple : (s : State) (k j : Known) (first second : Pick) (x : Effect) → IsOf s k → IsOf s (of_pick first k) → IsOf s j → IsOf s (of_pick second j)
    → choice s (Pair k.pick j.pick false) x ≡ choice s (Pair first second false) x
same_couple s k j first second x old new from to =
    let one : actor s k.pick ≡ actor s first = sym old.written ∙ new.written in
    let two : actor s j.pick ≡ actor s second = sym from.written ∙ to.written in
    λ i. object (one i ++ (dealing s x.deals ++ (member (codes "to") (object (two i)) ++ detail (codes "effect") x.words)))

-- ---- texts

pub some_bytes : (l : List ℕ) → not (nat_eq (length l) 0) ≡ true → 0 < length l
some_bytes [] e = absurd (true≢false (sym e))
some_bytes (x ∷ xs) e = omega arith

by_offer : (p : ℕ) (q : Option Proctype) (o : Option Offer) → 0 < length (option_map_or (λ (x : Offer). x.text) o [])
    → offer_with_heading p q o ≡ behind_heading p q (option_map_or (λ (x : Offer). x.text) o [])
by_offer p q None some = absurd (omega (arith, some))
by_offer p None (Some o) some = refl
by_offer p (Some q) (Some o) some = refl

pick_is : (s : State) (k : Pick) → 0 < length (whole_text s k) → pick_text s k ≡ offer_by s k.process (whole_text s k)
pick_is s k some = by_offer k.process (sort_of_process s k.process) (picked s k) some

with_reply : (s : State) (p : ℕ) (bs : List ℕ) (q : ℕ) (cs : List ℕ) → 0 < length cs → text_by s p bs q cs ≡ offer_by s p bs ++ (codes " -> " ++ offer_by s q cs)
with_reply s p bs q [] some = absurd (omega (arith, some))
with_reply s p bs q (c ∷ cs) some = refl

pub tells_alone : (s : State) (k : Pick) (late : Bool) (p : ℕ) (bs : List ℕ) (q : ℕ) → p ≡ k.process → bs ≡ whole_text s k → 0 < length bs
    → move_text s (Alone k late) ≡ text_by s p bs q []
tells_alone s k late p bs q process is some =
    pick_is s k (subst (λ (l : List ℕ). 0 < length l) is some) ∙ (λ i. offer_by s (sym process i) (sym is i))

pub tells_pair : (s : State) (k j : Pick) (late : Bool) (bs cs : List ℕ) → bs ≡ whole_text s k → cs ≡ whole_text s j → 0 < length bs → 0 < length cs
    → move_text s (Pair k j late) ≡ text_by s k.process bs j.process cs
tells_pair s k j late bs cs is so some more =
    (λ i. pick_is s k (subst (λ (l : List ℕ). 0 < length l) is some) i ++ (codes " -> " ++ pick_is s j (subst (λ (l : List ℕ). 0 < length l) so more) i))
    ∙ (λ i. offer_by s k.process (sym is i) ++ (codes " -> " ++ offer_by s j.process (sym so i)))
    ∙ sym (with_reply s k.process bs j.process cs more)

pub same_text : (s : State) (m : Move) (l : Line) (x : Parts) → Reads s l → same_parts l x ≡ true → TellsMove s m x → l.written.refused ≡ false
    → l.written.tokens ≡ text (move_text s m)
same_text s m l x reads same tells calm =
    let one = and_parts (not (nat_eq (length l.text.items) 0)) _ same in
    let two = and_parts (nat_eq l.first x.first) _ one.1 in
    let three = and_parts (nat_eq l.second x.second) _ two.1 in
    let four = and_parts (bytes_eq l.text.items x.text.now) _ three.1 in
    let some = some_bytes l.text.items one.0 in
    let first = eqb-true l.first x.first two.0 in
    let second = eqb-true l.second x.second three.0 in
    let whole = (bytes_eq-Decides l.text.items x.text.now).0 four.0 in
    let reply = (bytes_eq-Decides l.reply.items x.reply.now).0 four.1 in
    reads calm some ∙ (λ i. text (text_by s (first i) (whole i) (second i) (reply i))) ∙ ap text (sym (tells (subst (λ (b : List ℕ). 0 < length b) whole some)))

pub line_text : (s : State) (m : Move) (l : Line) (x : Parts) → IsLine l x → TellsMove s m x → 0 < length l.text.items
    → move_text s m ≡ text_by s l.first l.text.items l.second l.reply.items
line_text s m l x is tells some =
    tells (subst (λ (b : List ℕ). 0 < length b) is.text some) ∙ (λ i. text_by s (sym is.first i) (sym is.text i) (sym is.second i) (sym is.reply i))

-- ---- a move, whether `timeout` was true or not

pub for_alone : (P : Move → Type 0) (m : Move) (k : Pick) (late : Bool) → m ≡ Alone k late → ((l : Bool) → P (Alone k l)) → P m
for_alone P m k late is all = subst P (sym is) (all late)

pub for_pair : (P : Move → Type 0) (m : Move) (k j : Pick) (late : Bool) → m ≡ Pair k j late → ((l : Bool) → P (Pair k j l)) → P m
for_pair P m k j late is all = subst P (sym is) (all late)
