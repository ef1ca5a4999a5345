-- Just the blocks are blanked.
use Rattle.std.proofs.Common.{◌≡◌, ℕ, ◌+◌, ◌-◌, ◌<◌, Bool, true, false, cond, ◌&&◌, ◌||◌, List, [], ◌∷◌, ◌++◌, sym, refl, ap, ◌∙◌, subst, inl, inr, ⊎_elim, arith}
use Rattle.std.specs.Prelude.{◌⊎◌, nat_lt}
use Rattle.std.specs.List.{list_all}
use Rattle.std.proofs.lemmas.Bool.{false≢true}
use Rattle.std.proofs.lemmas.Bool.Decides.{nat_tests}
use Rattle.pml_token.specs.declared.token.Kind.{Kind}
use Rattle.pml_token.specs.declared.token.Kind.TheVariants as kind
use Rattle.pml_token.specs.Word.{same_kind}
use Rattle.prepare.specs.declared.roles.TokenRole.{TokenRole}
use Rattle.prepare.specs.declared.roles.TokenRole.TheVariants as as_role
use Rattle.prepare.specs.declared.context.BlankedBlock.{BlankedBlock}
use Rattle.prepare.specs.declared.context.BlankedBlock.TheVariants as block
use Rattle.prepare.specs.declared.context.Context.{Context}
use Rattle.prepare.specs.Roles.{role}
use Rattle.prepare.specs.Contexts as contexts
use Rattle.prepare.specs.Contexts.{deeper, is_head_word, block_behind, behind, start}
use Rattle.prepare.specs.Written.{Written}
use Rattle.prepare.specs.Stretches.{stretch, stretches}
use Rattle.prepare.specs.Blocks.{is_blanked, heads, opens, closes, open_behind, open_after, Closes, NeverCloses, IsEnd, leads, goes_on, IsBody, IsBlock, BlanksAreBlocks}
use Rattle.prepare.specs.Blocks as blanks
use Rattle.prepare.proofs.Blocks.{blank_is}
use Rattle.prepare.proofs.Chain.{IsWord, IsLast, Chain, chained, opens_role, closes_role, names_role, heads_is, opens_is, closes_is, names_is}

-- what a token is, by its role
record Is (r : TokenRole) (u : Written) : Type 0 where
  heads : heads u ≡ is_head_word r
  opens : opens u ≡ opens_role r
  closes : closes u ≡ closes_role r
  names : same_kind u.kind kind.Name ≡ names_role r

-- the rest of a block behind its word
record Ahead (us : List Written) : Type 0 where
  names : List Written
  body : List Written
  rest : List Written
  joins : us ≡ (names ++ body) ++ rest
  named : list_all leads names ≡ true
  ends : IsBody body rest
  blanked : list_all is_blanked (names ++ body) ≡ true
  more : BlanksAreBlocks rest

-- the rest of a block behind so many braces that are open
record Within (n : ℕ) (us : List Written) : Type 0 where
  body : List Written
  rest : List Written
  joins : us ≡ body ++ rest
  ends : Closes n body ⊎ (NeverCloses n body × IsEnd rest)
  blanked : list_all is_blanked body ≡ true
  more : BlanksAreBlocks rest

AtBlock : BlankedBlock → List Written → Type 0
AtBlock block.Outside us = BlanksAreBlocks us
AtBlock block.Ahead us = Ahead us
AtBlock (block.Within n) us = 0 < n → Within n us

closes_more : (n : ℕ) (u : Written) (ts : List Written) → 0 < n → Closes (open_behind n u) ts → Closes n (u ∷ ts)
closes_more n u ts some c = record { all = c.all; last = by }
  where
    by : (front back : List Written) → u ∷ ts ≡ front ++ back → (back ≡ [] → ⊥) → 0 < open_after n front
    by [] back e ne = some
    by (x ∷ front) back e ne =
        let head : u ≡ x = cc in
        let tail : ts ≡ front ++ back = cc in
        subst (λ (y : Written). 0 < open_after (open_behind n y) front) head (c.last front back tail ne)

closes_now : (n : ℕ) (u : Written) → 0 < n → open_behind n u ≡ 0 → Closes n (u ∷ [])
closes_now n u some e = record { all = e; last = by }
  where
    by : (front back : List Written) → u ∷ [] ≡ front ++ back → (back ≡ [] → ⊥) → 0 < open_after n front
    by [] back e ne = some
    by (x ∷ []) back e ne = let none : [] ≡ back = cc in absurd (ne (sym none))
    by (x ∷ y ∷ front) back e ne = cc

never_more : (n : ℕ) (u : Written) (ts : List Written) → 0 < n → NeverCloses (open_behind n u) ts → NeverCloses n (u ∷ ts)
never_more n u ts some c [] back e = some
never_more n u ts some c (x ∷ front) back e =
    let head : u ≡ x = cc in
    let tail : ts ≡ front ++ back = cc in
    subst (λ (y : Written). 0 < open_after (open_behind n y) front) head (c front back tail)

never_end : (n : ℕ) → 0 < n → NeverCloses n []
never_end n some [] back e = some
never_end n some (x ∷ front) back e = cc

both : (a b : Bool) → a ≡ true → b ≡ true → (a && b) ≡ true
both true b h g = g
both false b h g = h

within_more : (n m : ℕ) (u : Written) (us : List Written) → 0 < n → open_behind n u ≡ m → is_blanked u ≡ true → Within m us → Within n (u ∷ us)
within_more n m u us some e blanked w = record {
  body = u ∷ w.body;
  rest = w.rest;
  joins = ap (λ (x : List Written). u ∷ x) w.joins;
  ends = ⊎_elim
      (λ (c : Closes m w.body). let l : Closes n (u ∷ w.body) ⊎ (NeverCloses n (u ∷ w.body) × IsEnd w.rest) = inl (closes_more n u w.body some (subst (λ (x : ℕ). Closes x w.body) (sym e) c)) in l)
      (λ (c : NeverCloses m w.body × IsEnd w.rest). let r : Closes n (u ∷ w.body) ⊎ (NeverCloses n (u ∷ w.body) × IsEnd w.rest) = inr (never_more n u w.body some (subst (λ (x : ℕ). NeverCloses x w.body) (sym e) c.0), c.1) in r) w.ends;
  blanked = both (is_blanked u) (list_all is_blanked w.body) blanked w.blanked;
  more = w.more;
}

within_now : (n : ℕ) (u : Written) (us : List Written) → 0 < n → open_behind n u ≡ 0 → is_blanked u ≡ true → BlanksAreBlocks us → Within n (u ∷ us)
within_now n u us some e blanked more = record {
  body = u ∷ [];
  rest = us;
  joins = refl;
  ends = inl (closes_now n u some e);
  blanked = both (is_blanked u) true blanked refl;
  more = more;
}

open_is : (n : ℕ) (u : Written) (a b : Bool) → opens u ≡ a → closes u ≡ b → open_behind n u ≡ cond a (deeper n) (cond b (n - 1) n)
open_is n u a b e h = ap (λ (x : Bool). cond x (deeper n) (cond (closes u) (n - 1) n)) e ∙ ap (λ (x : Bool). cond a (deeper n) (cond x (n - 1) n)) h

deeper_some : (t : Bool) (n : ℕ) → 0 < n → 0 < cond t (n + 1) n
deeper_some true n h = omega arith
deeper_some false n h = h

inner_closes : (t : Bool) (n : ℕ) (u : Written) (us : List Written) → nat_lt 1 n ≡ t → 0 < n → open_behind n u ≡ n - 1 → is_blanked u ≡ true → AtBlock (cond t (block.Within (n - 1)) block.Outside) us → Within n (u ∷ us)
unfolding AtBlock
inner_closes true n u us e some o blanked at = within_more n (n - 1) u us some o blanked (at (grind (arith, nat_tests)))
inner_closes false n u us e some o blanked at = within_now n u us some (let one : n - 1 ≡ 0 = grind (arith, nat_tests) in o ∙ one) blanked at

inner : (n : ℕ) (r : TokenRole) (u : Written) (us : List Written) → Is r u → is_blanked u ≡ true → AtBlock (block_behind (block.Within n) r) us → 0 < n → Within n (u ∷ us)
unfolding AtBlock
inner n as_role.Opens u us is blanked at some = within_more n (deeper n) u us some (open_is n u true (closes u) is.opens refl) blanked (at (deeper_some (nat_lt n 1000000) n some))
inner n as_role.Closes u us is blanked at some = inner_closes (nat_lt 1 n) n u us refl some (open_is n u false true is.opens is.closes) blanked at
inner n _ u us is blanked at some = within_more n n u us some (open_is n u false false is.opens is.closes) blanked (at some)

-- behind the word of a block
ahead_more : (u : Written) (us : List Written) → leads u ≡ true → is_blanked u ≡ true → Ahead us → Ahead (u ∷ us)
ahead_more u us lead blanked w = record {
  names = u ∷ w.names;
  body = w.body;
  rest = w.rest;
  joins = ap (λ (x : List Written). u ∷ x) w.joins;
  named = both (leads u) (list_all leads w.names) lead w.named;
  ends = w.ends;
  blanked = both (is_blanked u) (list_all is_blanked (w.names ++ w.body)) blanked w.blanked;
  more = w.more;
}

ahead_opens : (u : Written) (us : List Written) → opens u ≡ true → is_blanked u ≡ true → Within 1 us → Ahead (u ∷ us)
ahead_opens u us brace blanked w = record {
  names = [];
  body = u ∷ w.body;
  rest = w.rest;
  joins = ap (λ (x : List Written). u ∷ x) w.joins;
  named = refl;
  ends = (brace, w.ends);
  blanked = both (is_blanked u) (list_all is_blanked w.body) blanked w.blanked;
  more = w.more;
}

none_leads : (a b c : Bool) → a ≡ false → b ≡ false → c ≡ false → ((a || b) || c) ≡ false
none_leads true b c e f g = e
none_leads false true c e f g = f
none_leads false false c e f g = g

ahead_none : (u : Written) (us : List Written) → heads u ≡ false → same_kind u.kind kind.Name ≡ false → opens u ≡ false → is_blanked u ≡ false → BlanksAreBlocks us → Ahead (u ∷ us)
ahead_none u us head name brace kept more = record {
  names = [];
  body = [];
  rest = u ∷ us;
  joins = refl;
  named = refl;
  ends = none_leads (heads u) (same_kind u.kind kind.Name) (opens u) head name brace;
  blanked = refl;
  more = blanks.kept kept head more;
}

or_left : (a b : Bool) → a ≡ true → (a || b) ≡ true
or_left true b e = refl
or_left false b e = absurd (false≢true e)

or_right : (a b : Bool) → b ≡ true → (a || b) ≡ true
or_right true b e = refl
or_right false b e = e

ahead : (r : TokenRole) (u : Written) (us : List Written) → Is r u → is_blanked u ≡ contexts.is_blanked block.Ahead r → AtBlock (block_behind block.Ahead r) us → Ahead (u ∷ us)
unfolding AtBlock
ahead as_role.Heads u us is blanked at = ahead_more u us (or_left (heads u) (same_kind u.kind kind.Name) is.heads) blanked at
ahead as_role.Names u us is blanked at = ahead_more u us (or_right (heads u) (same_kind u.kind kind.Name) is.names) blanked at
ahead as_role.Opens u us is blanked at = ahead_opens u us is.opens blanked (at (omega arith))
ahead _ u us is blanked at = ahead_none u us is.heads is.names is.opens blanked at

-- a block from its word on
whole : (u : Written) (us : List Written) → heads u ≡ true → is_blanked u ≡ true → Ahead us → BlanksAreBlocks (u ∷ us)
whole u us head blanked w =
    let block = u ∷ (w.names ++ w.body) in
    let is : IsBlock block w.rest = record {
      word = u;
      names = w.names;
      body = w.body;
      joins = refl;
      begins = head;
      named = w.named;
      ends = w.ends;
      blanked = both (is_blanked u) (list_all is_blanked (w.names ++ w.body)) blanked w.blanked;
    } in
    subst (λ (x : List Written). BlanksAreBlocks (u ∷ x)) (sym w.joins) (blanks.block is w.more)

outside : (r : TokenRole) (u : Written) (us : List Written) → Is r u → is_blanked u ≡ contexts.is_blanked block.Outside r → AtBlock (block_behind block.Outside r) us → BlanksAreBlocks (u ∷ us)
unfolding AtBlock
outside as_role.Heads u us is blanked at = whole u us is.heads blanked at
outside _ u us is blanked at = blanks.kept blanked is.heads at

step : (b : BlankedBlock) (r : TokenRole) (u : Written) (us : List Written) → Is r u → is_blanked u ≡ contexts.is_blanked b r → AtBlock (block_behind b r) us → AtBlock b (u ∷ us)
unfolding AtBlock
step block.Outside r u us is blanked at = outside r u us is blanked at
step block.Ahead r u us is blanked at = ahead r u us is blanked at
step (block.Within n) r u us is blanked at = inner n r u us is blanked at

is_role : (k : Kind) (u : Written) → u.kind ≡ k → IsWord u.kind u.token → Is (role u.kind u.token) u
is_role k u e word = record {
  heads = sym (heads_is u.kind u.token);
  opens = sym (opens_is u.kind u.token word);
  closes = sym (closes_is u.kind u.token word);
  names = sym (names_is u.kind u.token word);
}

stretch_blanked : (p : Context) (k : Kind) (gap t : List ℕ) → is_blanked (stretch p k gap t) ≡ contexts.is_blanked p.block (role k t)
unfolding stretch
stretch_blanked p k gap t = blank_is p.block (role k t)

-- at the end of the text
at_last : (b : BlankedBlock) (u : Written) → IsLast u → AtBlock b (u ∷ [])
unfolding AtBlock
at_last block.Outside u h = blanks.last h.stays
at_last block.Ahead u h = record {
  names = [];
  body = [];
  rest = u ∷ [];
  joins = refl;
  named = refl;
  ends = none_leads (heads u) (same_kind u.kind kind.Name) (opens u) h.no_word (ap (λ (k : Kind). same_kind k kind.Name) h.sort) (ap (λ (k : Kind). same_kind k kind.OpenBrace) h.sort);
  blanked = refl;
  more = blanks.last h.stays;
}
at_last (block.Within n) u h = λ some. record {
  body = [];
  rest = u ∷ [];
  joins = refl;
  ends = inr (never_end n some, (u, refl, h.none));
  blanked = refl;
  more = blanks.last h.stays;
}

blocks : (us : List Written) (p : Context) → Chain p us → AtBlock p.block us
blocks [] p h = absurd h
blocks (u ∷ []) p h = at_last p.block u h
blocks (u ∷ v ∷ us) p h =
    step p.block (role u.kind u.token) u (v ∷ us) (is_role u.kind u refl h.0.word) (ap is_blanked h.0.is ∙ stretch_blanked p u.kind u.gap u.token) (blocks (v ∷ us) (behind p (role u.kind u.token)) h.1)

pub blanks_are_blocks : (text : List ℕ) → BlanksAreBlocks (stretches text)
unfolding AtBlock
blanks_are_blocks text = blocks (stretches text) start (chained text)
