-- Tokens, one behind another.
use Rattle.std.proofs.Common.{◌≡◌, ◌∙◌, ap, sym, refl, Bool, true, false, List, [], ◌++◌, append-nil, append_assoc}
use Rattle.std.proofs.lemmas.Bool.{true≢false}
use Rattle.json.specs.Token.{Token}
use Rattle.view_text.specs.Written.{Written, Adds}
use Rattle.view_tokens.specs.Printed.{Printed, Stays, Writes}
use Rattle.view_json.specs.Lines.{line}

not_before : (b c : Printed) → Stays b c → c.refused ≡ false → b.refused ≡ false
not_before b c stays calm = by b.refused refl
  where
    by : (r : Bool) → b.refused ≡ r → b.refused ≡ false
    by true is = absurd (true≢false (sym (stays is) ∙ calm))
    by false is = is

-- what is written and then more
pub chain : (a b c : Printed) (xs ys zs : List Token) → Writes a b xs → Writes b c ys → xs ++ ys ≡ zs → Writes a c zs
chain a b c xs ys zs one two is = record {
  stays = λ r. two.stays (one.stays r);
  added = λ calm. two.added calm ∙ ap (λ (l : List Token). l ++ ys) (one.added (not_before b c two.stays calm)) ∙ append_assoc a.tokens xs ys ∙ ap (λ (l : List Token). a.tokens ++ l) is;
}

-- the same as it comes
pub chained : (a b c : Printed) (xs ys : List Token) → Writes a b xs → Writes b c ys → Writes a c (xs ++ ys)
chained a b c xs ys one two = chain a b c xs ys (xs ++ ys) one two refl

-- what is written is behind what was written before
pub behind : (j k : Printed) (first ts : List Token) → (j.refused ≡ false → j.tokens ≡ first) → Writes j k ts → k.refused ≡ false → k.tokens ≡ first ++ ts
behind j k first ts is more calm = more.added calm ∙ ap (λ (l : List Token). l ++ ts) (is (not_before j k more.stays calm))

-- a line is ended behind what was written before
pub closes : (o n : Written) (j k : Printed) (first ts : List Token) → (j.refused ≡ false → j.tokens ≡ first) → Writes j k ts → Adds o n (line k.tokens)
    → (k.refused ≡ true → n.refused ≡ true) → Adds o n (line (first ++ ts))
closes o n j k first ts is more added refused = record {
  stays = added.stays;
  added = λ calm.
      let before : k.refused ≡ false = by k.refused refl calm in
      added.added calm ∙ ap (λ (l : List Token). o.text ++ line l) (more.added before ∙ ap (λ (l : List Token). l ++ ts) (is (not_before j k more.stays before)));
}
  where
    by : (r : Bool) → k.refused ≡ r → n.refused ≡ false → k.refused ≡ false
    by true so calm = absurd (true≢false (sym (refused so) ∙ calm))
    by false is_not calm = is_not

-- nothing is written yet
pub none : (a : Printed) → Writes a a []
none a = record { stays = λ r. r; added = λ calm. sym (append-nil a.tokens) }
