-- What is answered of calls is derived by the rules, and nothing else is.
use Rattle.std.proofs.Common.{◌≡◌, ℕ, zero, suc, ◌+◌, Bool, true, false, List, [], ◌∷◌, ◌++◌, length, drop, Option, Some, None, refl, sym, ap, ◌∙◌, subst, arith}
use Rattle.std.specs.Prelude.{not, ◌&&◌}
use Rattle.std.proofs.Math.Seq.{drop-nil}
use Rattle.pml_token.specs.declared.token.Kind.TheVariants.{OpenParen, CloseParen}
use Rattle.pml_token.specs.Word.{Word}
use Rattle.promela_text.specs.Inlines.{closing, arguments, Inline, is_among, callee, fits}
use Rattle.pml_inline.specs.Expansion.{Given, join_given, itself, calling, reading, turn, where_right}
use Rattle.pml_inline.proofs.Words.{enclosed, counted}
use Rattle.promela_text.specs.Inlines.{Becomes, nothing_more, stays, is_replaced, IsRight, inside_call, body_with}
use Rattle.pml_inline.specs.Expansion.{answered}

passing : (known : List Inline) (call : Inline → List Word → Option Given) (ws : List Word) (n : ℕ) → reading known call ws n ≡ reading known call (drop n ws) 0
passing known call ws zero = refl
passing known call [] (suc n) = refl
passing known call (w ∷ ws) (suc n) = passing known call ws n

-- a call that is right is what comes of its body
pub call_right : (known : List Inline) (room : ℕ) (active : List (List ℕ)) (d : Inline) (n : ℕ) (ws : List Word) → IsRight active d n ws
    → calling known (suc room) active d (inside_call n ws) ≡ join_given (counted (body_with d n ws)) (answered known room (active ++ d.name ∷ []) (body_with d n ws))
unfolding calling
call_right known room active d n ws right =
    ap (λ (b : Bool). where_right b (λ ts. answered known room (active ++ d.name ∷ []) ts) (body_with d n ws)) right

-- one turn of reading, by what the token calls
turn_is : (known : List Inline) (call : Inline → List Word → Option Given) (w : Word) (ws : List Word) (o : Option Inline) → callee known w ws ≡ o
    → reading known call (w ∷ ws) 0 ≡ turn call 0 o w ws (reading known call ws)
turn_is known call w ws o e = ap (λ (x : Option Inline). turn call 0 x w ws (reading known call ws)) e

pub are_answered : (known : List Inline) (room : ℕ) (active : List (List ℕ)) (ts us : List Word) (c : ℕ) → Becomes known room active ts us c
    → answered known room active ts ≡ Some (record { tokens = us; count = c })
are_answered known room active ts us c nothing_more = refl
are_answered known room active ts us c (stays {w = w} {ws = ws} {us = vs} none rest) =
    let same : 0 + c ≡ c = omega arith in
    turn_is known (calling known room active) w ws None none
    ∙ ap (join_given (itself w)) (are_answered known room active ws vs c rest)
    ∙ ap (λ (k : ℕ). Some (record { tokens = w ∷ vs; count = k })) same
are_answered known room active ts us c (is_replaced {room = room'} {w = w} {ws = ws} {us = xs} {vs = vs} {d = d} {n = n} {a = a} {b = b} called closed right body rest) =
    let call = calling known (suc room') active in
    turn_is known call w ws (Some d) called
    ∙ ap (enclosed (call d) ws (reading known call ws)) closed
    ∙ ap (λ (o : Option Given). join_given o (reading known call ws (n + 2)))
    (call_right known room' active d n ws right ∙ ap (join_given (counted (body_with d n ws))) (are_answered known room' (active ++ d.name ∷ []) (body_with d n ws) xs a body))
    ∙ ap (join_given (Some (record { tokens = xs; count = length (body_with d n ws) + a })))
    (passing known call ws (n + 2) ∙ are_answered known (suc room') active (drop (n + 2) ws) vs b rest)

-- ---- what is answered is derived

pub some_is : (x g : Given) → Some x ≡ Some g → x ≡ g
some_is x g h = cc

pub not_some : (g : Given) → None ≡ Some g → ⊥
not_some g h = cc

-- what is answered of a call comes of its body
abbrev pub Replaced : List Inline → ℕ → List (List ℕ) → Inline → ℕ → List Word → Given → Type 0
Replaced known zero active d n ws g = ⊥
Replaced known (suc room) active d n ws g = IsRight active d n ws × ((a : ℕ) × Becomes known room (active ++ d.name ∷ []) (body_with d n ws) g.tokens a × (g.count ≡ length (body_with d n ws) + a))

module _ (known : List Inline) (room : ℕ) (active : List (List ℕ))
    (call_is : (d : Inline) (n : ℕ) (ws : List Word) (g : Given) → calling known room active d (inside_call n ws) ≡ Some g → Replaced known room active d n ws g) where
  abbrev call : Inline → List Word → Option Given
  call = calling known room active

  -- a token that stays, and what comes of the rest
  kept : (w : Word) (ws : List Word) (g : Given) → callee known w ws ≡ None → (o : Option Given) → ((x : Given) → o ≡ Some x → Becomes known room active ws x.tokens x.count)
      → join_given (itself w) o ≡ Some g → Becomes known room active (w ∷ ws) g.tokens g.count
  kept w ws g none None rest h = absurd (not_some g h)
  kept w ws g none (Some x) rest h =
      let is : record { tokens = w ∷ x.tokens; count = 0 + x.count } ≡ g = some_is _ g h in
      let same : 0 + x.count ≡ x.count = omega arith in
      subst (λ (y : Given). Becomes known room active (w ∷ ws) y.tokens y.count) is (subst (λ (k : ℕ). Becomes known room active (w ∷ ws) (w ∷ x.tokens) k) (sym same) (stays none (rest x refl)))

pub join_parts : (p q : Option Given) (g : Given) → join_given p q ≡ Some g → (x : Given) × (y : Given) × (p ≡ Some x) × (q ≡ Some y) × (g ≡ record { tokens = x.tokens ++ y.tokens; count = x.count + y.count })
join_parts None q g h = absurd (not_some g h)
join_parts (Some a) None g h = absurd (not_some g h)
join_parts (Some a) (Some b) g h = (a, b, refl, refl, sym (some_is _ g h))

-- a call, and what comes of the rest
both_parts : (known : List Inline) (room : ℕ) (active : List (List ℕ)) (w : Word) (ws : List Word) (d : Inline) (n : ℕ) → callee known w ws ≡ Some d
    → closing OpenParen CloseParen (drop 1 ws) 0 ≡ Some n → (x y : Given) → Replaced known room active d n ws x → Becomes known room active (drop (n + 2) ws) y.tokens y.count
    → Becomes known room active (w ∷ ws) (x.tokens ++ y.tokens) (x.count + y.count)
both_parts known zero active w ws d n called closed x y there rest = absurd there
both_parts known (suc room) active w ws d n called closed x y there rest =
    subst (λ (k : ℕ). Becomes known (suc room) active (w ∷ ws) (x.tokens ++ y.tokens) (k + y.count)) (sym there.1.2) (is_replaced called closed there.0 there.1.1 rest)

module _ (known : List Inline) (room : ℕ) (active : List (List ℕ))
    (call_is : (d : Inline) (n : ℕ) (ws : List Word) (g : Given) → calling known room active d (inside_call n ws) ≡ Some g → Replaced known room active d n ws g) where
  abbrev Read : List Word → Type 0
  Read ws = (k : ℕ) (g : Given) → reading known (calling known room active) ws k ≡ Some g → Becomes known room active (drop k ws) g.tokens g.count

  at_call : (w : Word) (ws : List Word) (g : Given) (d : Inline) → callee known w ws ≡ Some d → (o : Option ℕ) → closing OpenParen CloseParen (drop 1 ws) 0 ≡ o → Read ws
      → enclosed (calling known room active d) ws (reading known (calling known room active) ws) o ≡ Some g → Becomes known room active (w ∷ ws) g.tokens g.count
  at_call w ws g d called None closed rest h = absurd (not_some g h)
  at_call w ws g d called (Some n) closed rest h =
      let parts = join_parts (calling known room active d (inside_call n ws)) (reading known (calling known room active) ws (n + 2)) g h in
      let whole = both_parts known room active w ws d n called closed parts.0 parts.1 (call_is d n ws parts.0 parts.2) (rest (n + 2) parts.1 parts.3) in
      subst (λ (y : Given). Becomes known room active (w ∷ ws) y.tokens y.count) (sym parts.4) whole

  at_token : (w : Word) (ws : List Word) (g : Given) (o : Option Inline) → callee known w ws ≡ o → Read ws
      → turn (calling known room active) 0 o w ws (reading known (calling known room active) ws) ≡ Some g → Becomes known room active (w ∷ ws) g.tokens g.count
  at_token w ws g None none rest h = kept known room active call_is w ws g none (reading known (calling known room active) ws 0) (λ x. rest 0 x) h
  at_token w ws g (Some d) called rest h = at_call w ws g d called (closing OpenParen CloseParen (drop 1 ws) 0) refl rest h

  read : (ts : List Word) → Read ts
  read [] k g h =
      let is : record { tokens = []; count = 0 } ≡ g = some_is _ g h in
      subst (λ (ts : List Word). Becomes known room active ts g.tokens g.count) (sym (drop-nil k)) (subst (λ (y : Given). Becomes known room active [] y.tokens y.count) is nothing_more)
  read (w ∷ ws) (suc k) g h = read ws k g h
  read (w ∷ ws) zero g h = at_token w ws g (callee known w ws) refl (read ws) h

-- a call that is answered is right, and what is answered comes of its body
pub call_is_right : (known : List Inline) (room : ℕ) (active : List (List ℕ)) (d : Inline) (n : ℕ) (ws : List Word) (g : Given)
    → ((g' : Given) → answered known room (active ++ d.name ∷ []) (body_with d n ws) ≡ Some g' → Becomes known room (active ++ d.name ∷ []) (body_with d n ws) g'.tokens g'.count)
    → calling known (suc room) active d (inside_call n ws) ≡ Some g → Replaced known (suc room) active d n ws g
unfolding calling
call_is_right known room active d n ws g comes h = by_right (not (is_among d.name active) && fits d (arguments (inside_call n ws))) refl h
  where
    by_right : (b : Bool) → (not (is_among d.name active) && fits d (arguments (inside_call n ws))) ≡ b
        → where_right b (λ ts. answered known room (active ++ d.name ∷ []) ts) (body_with d n ws) ≡ Some g → Replaced known (suc room) active d n ws g
    by_right false e k = absurd (not_some g k)
    by_right true e k =
        let parts = join_parts (counted (body_with d n ws)) (answered known room (active ++ d.name ∷ []) (body_with d n ws)) g k in
        let first : record { tokens = []; count = length (body_with d n ws) } ≡ parts.0 = some_is _ parts.0 parts.2 in
        let is : g ≡ record { tokens = parts.1.tokens; count = length (body_with d n ws) + parts.1.count } =
        parts.4 ∙ ap (λ (x : Given). record { tokens = x.tokens ++ parts.1.tokens; count = x.count + parts.1.count }) (sym first) in
        (e, (parts.1.count, subst (λ (y : Given). Becomes known room (active ++ d.name ∷ []) (body_with d n ws) y.tokens parts.1.count) (sym is) (comes parts.1 parts.3), ap (λ (y : Given). y.count) is))

no_room : (known : List Inline) (active : List (List ℕ)) (d : Inline) (ts : List Word) (g : Given) → calling known zero active d ts ≡ Some g → ⊥
unfolding calling
no_room known active d ts g h = not_some g h

pub are_derived : (known : List Inline) (room : ℕ) (active : List (List ℕ)) (ts : List Word) (g : Given) → answered known room active ts ≡ Some g
    → Becomes known room active ts g.tokens g.count
are_derived known zero active ts g h = read known zero active (λ d n ws x k. absurd (no_room known active d (inside_call n ws) x k)) ts 0 g h
are_derived known (suc room) active ts g h =
    read known (suc room) active (λ d n ws x k. call_is_right known room active d n ws x (λ y. are_derived known room (active ++ d.name ∷ []) (body_with d n ws) y) k) ts 0 g h
