-- Lines of a record, one behind another.
use Rattle.std.proofs.Common.{◌≡◌, ◌∙◌, ap, sym, refl, ℕ, ◌<◌, ◌^◌, Bool, true, false, if◌then◌else◌, nat_lt, List, [], ◌∷◌, ◌++◌, take, length, get_or, suc, ◌+◌, arith, append-nil, append_assoc, codes}
use Rattle.std.specs.Fmt.{decimal}
use Rattle.std.proofs.lemmas.Bool.{true≢false}
use Rattle.std.proofs.lemmas.Grind.{flat_map-append}
use Rattle.std.proofs.Math.Seq.{take-suc}
use Rattle.std.specs.List.{flat_map}
use Rattle.promela_session.specs.Events.{record_line}
use Rattle.session.proofs.Written.{decimal_is}
use Rattle.view_text.specs.Written.{Written, Adds, Stays}
use Rattle.view_walk.specs.declared.leg.Leg.{Leg}
use Rattle.view_walk.specs.Records.{number_of, numbers_of, record_of}

not_before : (b c : Written) → Stays b c → c.refused ≡ false → b.refused ≡ false
not_before b c stays calm = by b.refused refl
  where
    by : (r : Bool) → b.refused ≡ r → b.refused ≡ false
    by true is = absurd (true≢false (sym (stays is) ∙ calm))
    by false is = is

-- one text behind another
pub chain : (a b c : Written) (xs ys zs : List ℕ) → Adds a b xs → Adds b c ys → xs ++ ys ≡ zs → Adds a c zs
chain a b c xs ys zs one two is = record {
  stays = λ r. two.stays (one.stays r);
  added = λ calm. two.added calm ∙ ap (λ (l : List ℕ). l ++ ys) (one.added (not_before b c two.stays calm)) ∙ append_assoc a.text xs ys ∙ ap (λ (l : List ℕ). a.text ++ l) is;
}

-- the record of a choice that is one of several
pub several_line : (t : Leg) → nat_lt 1 t.of ≡ true → t.choice < 2 ^ 64 → decimal t.choice ++ codes "\n" ≡ record_of (t ∷ [])
several_line t several fits =
    ap (λ (l : List ℕ). l ++ codes "\n") (decimal_is t.choice fits)
    ∙ sym (append-nil (record_line t.choice))
    ∙ ap (λ (b : Bool). flat_map record_line ((if b then t.choice ∷ [] else []) ++ [])) (sym several)

-- records, one behind another
pub record_append : (ts us : List Leg) → record_of ts ++ record_of us ≡ record_of (ts ++ us)
record_append ts us = sym (ap (λ (l : List ℕ). flat_map record_line l) (flat_map-append number_of ts us) ∙ flat_map-append record_line (numbers_of ts) (numbers_of us))

-- one choice more
pub record_more : (n : ℕ) (ts : List Leg) (t : Leg) → n < length ts → record_of (take n ts) ++ record_of (get_or ts n t ∷ []) ≡ record_of (take (n + 1) ts)
record_more n ts t below =
    let more : n + 1 ≡ suc n = omega arith in
    record_append (take n ts) (get_or ts n t ∷ []) ∙ ap record_of (sym (ap (λ (k : ℕ). take k ts) more ∙ take-suc ts n t below))
