-- What holds of each token of a text holds of each token that comes out of it.
use Rattle.std.proofs.Common.{◌≡◌, ℕ, zero, suc, ◌+◌, Bool, true, false, not, ◌&&◌, nat_eq, nat_le, cond, List, [], ◌∷◌, ◌++◌, take, drop, map, All, Option, Some, None, refl, subst}
use Rattle.std.specs.Prelude.{find, option_and_then, option_map, unwrap_or}
use Rattle.std.specs.List.{flat_map, slice_get, onto_first}
use Rattle.std.specs.Str.{bytes_eq}
use Rattle.std.proofs.lemmas.List.Elements.{All-nil, All-cons, All-head, All-tail, All-append, All-take, All-drop}
use Rattle.pml_token.specs.declared.token.Kind.TheVariants.{OpenParen, CloseParen, OpenBrace, CloseBrace, Comma}
use Rattle.pml_token.specs.Word.{same_kind, Word}
use Rattle.profile.specs.declared.TheConstants.{MOST_CALLS, MOST_REPLACED}
use Rattle.promela_text.specs.Inlines.{is_name, is_inline, has_inline, begins_as, closing, part_turn, parts, arguments, level_behind, Inline, is_among, parameter_names, listed, with_end, definition, all_differ, parameter, instead, replaced, fits, callee, braces_behind, Expands}
use Rattle.pml_inline.specs.Expansion.{definition_turn, definitions, Given, join_given, itself, turn, reading, where_right, calling, outermost_call, defined, text_turn, texts, limited, expansion}
use Rattle.pml_inline.proofs.Expanding.{are_expansions}
use Rattle.pml_inline.proofs.Words.{by_definitions, enclosed, with_parameters, counted}

module _ (P : Word → Type 0) where
  abbrev Of : List Word → Type 0
  Of ws = All P ws

  abbrev OfGiven : Option Given → Type 0
  OfGiven None = Unit {0}
  OfGiven (Some g) = Of g.tokens

  abbrev OfBody : Inline → Type 0
  OfBody d = Of d.body

  abbrev OfBodies : List Inline → Type 0
  OfBodies ds = All OfBody ds

  abbrev OfParts : List (List Word) → Type 0
  OfParts ps = All Of ps

  joined : (a b : Option Given) → OfGiven a → OfGiven b → OfGiven (join_given a b)
  joined None b x y = tt
  joined (Some a) None x y = tt
  joined (Some a) (Some b) x y = All-append P a.tokens b.tokens x y

  found : (ds : List Inline) (t : List ℕ) (d : Inline) → OfBodies ds → find (λ d. bytes_eq t d.name) ds ≡ Some d → OfBody d
  found [] t d h e = absurd cc
  found (c ∷ ds) t d h e = by_test (bytes_eq t c.name) e (λ f. found ds t d (All-tail OfBody c ds h) f)
    where
      same : Some c ≡ Some d → c ≡ d
      same f = cc

      by_test : (b : Bool) → cond b (Some c) (find (λ d. bytes_eq t d.name) ds) ≡ Some d → (find (λ d. bytes_eq t d.name) ds ≡ Some d → OfBody d) → OfBody d
      by_test true f g = subst (λ (x : Inline). OfBody x) (same f) (All-head OfBody c ds h)
      by_test false f g = g f

  called : (known : List Inline) (w : Word) (ws : List Word) (d : Inline) → OfBodies known → callee known w ws ≡ Some d → OfBody d
  unfolding callee
  called known w ws d h e = by_test (is_name w && begins_as OpenParen ws) e
    where
      by_test : (b : Bool) → cond b (find (λ d. bytes_eq w.text d.name) known) None ≡ Some d → OfBody d
      by_test true f = found known w.text d h f
      by_test false f = absurd cc

  read : (known : List Inline) (call : Inline → List Word → Option Given) → OfBodies known → ((d : Inline) (inside : List Word) → OfBody d → Of inside → OfGiven (call d inside)) → (ws : List Word) (n : ℕ) → Of ws → OfGiven (reading known call ws n)
  read known call k f [] n h = All-nil P
  read known call k f (w ∷ ws) n h = by_turn n (callee known w ws) refl (λ m. read known call k f ws m (All-tail P w ws h))
    where
      by_closing : (d : Inline) (o : Option ℕ) → OfBody d → ((m : ℕ) → OfGiven (reading known call ws m)) → OfGiven (enclosed (call d) ws (reading known call ws) o)
      by_closing d None b g = tt
      by_closing d (Some m) b g = joined (call d (take m (drop 1 ws))) (reading known call ws (m + 2)) (f d (take m (drop 1 ws)) b (All-take P m (drop 1 ws) (All-drop P 1 ws (All-tail P w ws h)))) (g (m + 2))

      by_turn : (n : ℕ) (o : Option Inline) → callee known w ws ≡ o → ((m : ℕ) → OfGiven (reading known call ws m)) → OfGiven (turn call n o w ws (reading known call ws))
      by_turn (suc n) o e g = g n
      by_turn zero None e g = joined (itself w) (reading known call ws 0) (All-cons P w [] (All-head P w ws h) (All-nil P)) (g 0)
      by_turn zero (Some d) e g = by_closing d (closing OpenParen CloseParen (drop 1 ws) 0) (called known w ws d k e) g

  parted : (ws : List Word) (n : ℕ) → Of ws → OfParts (parts ws n)
  parted [] n h = All-cons Of [] [] (All-nil P) (All-nil Of)
  parted (w ∷ ws) n h = by_turn (same_kind w.kind Comma && nat_eq n 0) (λ m. parted ws m (All-tail P w ws h))
    where
      fronted : (ps : List (List Word)) → OfParts ps → OfParts (onto_first w ps)
      fronted [] x = All-cons Of (w ∷ []) [] (All-cons P w [] (All-head P w ws h) (All-nil P)) (All-nil Of)
      fronted (p ∷ ps) x = All-cons Of (w ∷ p) ps (All-cons P w p (All-head P w ws h) (All-head Of p ps x)) (All-tail Of p ps x)

      by_turn : (b : Bool) → ((m : ℕ) → OfParts (parts ws m)) → OfParts (part_turn b w (parts ws) n)
      by_turn true g = All-cons Of [] (parts ws 0) (All-nil P) (g 0)
      by_turn false g = fronted (parts ws (level_behind n w.kind)) (g (level_behind n w.kind))

  argued : (ws : List Word) → Of ws → OfParts (arguments ws)
  argued [] h = All-nil Of
  argued (w ∷ ws) h = parted (w ∷ ws) 0 h

  one : (args : List (List Word)) (k : ℕ) → OfParts args → Of (unwrap_or (slice_get args k) [])
  one [] k h = All-nil P
  one (a ∷ args) zero h = All-head Of a args h
  one (a ∷ args) (suc k) h = one args k (All-tail Of a args h)

  substituted : (ps : List (List ℕ)) (args : List (List Word)) (ws : List Word) → Of ws → OfParts args → Of (flat_map (λ w. instead args w (parameter ps w)) ws)
  substituted ps args [] h a = All-nil P
  substituted ps args (w ∷ ws) h a = All-append P (instead args w (parameter ps w)) (flat_map (λ w. instead args w (parameter ps w)) ws) (by_option (parameter ps w)) (substituted ps args ws (All-tail P w ws h) a)
    where
      by_option : (o : Option ℕ) → Of (instead args w o)
      by_option None = All-cons P w [] (All-head P w ws h) (All-nil P)
      by_option (Some k) = one args k a

  made : (known : List Inline) → OfBodies known → (room : ℕ) (active : List (List ℕ)) (d : Inline) (inside : List Word) → OfBody d → Of inside → OfGiven (calling known room active d inside)
  unfolding calling
  made known k zero active d inside b h = tt
  made known k (suc room) active d inside b h =
      by_right (not (is_among d.name active) && fits d (arguments inside))
      (read known (calling known room (active ++ d.name ∷ [])) k (λ c i x y. made known k room (active ++ d.name ∷ []) c i x y) (replaced d (arguments inside)) 0 (substituted d.parameters (arguments inside) d.body b (argued inside h)))
    where
      by_right : (r : Bool) → OfGiven (reading known (calling known room (active ++ d.name ∷ [])) (replaced d (arguments inside)) 0)
          → OfGiven (where_right r (λ ts. reading known (calling known room (active ++ d.name ∷ [])) ts 0) (replaced d (arguments inside)))
      by_right true x = joined (counted (replaced d (arguments inside))) (reading known (calling known room (active ++ d.name ∷ [])) (replaced d (arguments inside)) 0) (All-nil P) x
      by_right false x = tt

  through : (ws : List Word) (known ds : List Inline) (b n : ℕ) → Of ws → OfBodies known → OfBodies ds → OfGiven (texts ws known ds b n)
  through [] known ds b n h k d = All-nil P
  through (w ∷ ws) known ds b n h k d = by_turn n (is_inline w) (callee known w ws) refl (λ ks es c m x y. through ws ks es c m (All-tail P w ws h) x y)
    where
      by_closing : (c : Inline) (o : Option ℕ) → OfBody c → ((ks es : List Inline) (c m : ℕ) → OfBodies ks → OfBodies es → OfGiven (texts ws ks es c m)) → OfGiven (outermost_call (calling known MOST_CALLS [] c) ws (texts ws known ds b) o)
      by_closing c None x g = tt
      by_closing c (Some m) x g = by_test (has_inline (take m (drop 1 ws)))
        where
          by_test : (t : Bool) → OfGiven (cond t None (join_given (calling known MOST_CALLS [] c (take m (drop 1 ws))) (texts ws known ds b (m + 2))))
          by_test true = tt
          by_test false = joined (calling known MOST_CALLS [] c (take m (drop 1 ws))) (texts ws known ds b (m + 2)) (made known k MOST_CALLS [] c (take m (drop 1 ws)) x (All-take P m (drop 1 ws) (All-drop P 1 ws (All-tail P w ws h)))) (g known ds b (m + 2) k d)

      by_ds : (es : List Inline) (b : ℕ) → OfBodies es → ((ks es : List Inline) (c m : ℕ) → OfBodies ks → OfBodies es → OfGiven (texts ws ks es c m)) → OfGiven (defined (texts ws) known es b)
      by_ds [] b x g = tt
      by_ds (e ∷ es) zero x g = g (known ++ e ∷ []) es 0 e.size (All-append OfBody known (e ∷ []) k (All-cons OfBody e [] (All-head OfBody e es x) (All-nil OfBody))) (All-tail OfBody e es x)
      by_ds (e ∷ es) (suc b) x g = tt

      by_turn : (n : ℕ) (i : Bool) (o : Option Inline) → callee known w ws ≡ o → ((ks es : List Inline) (c m : ℕ) → OfBodies ks → OfBodies es → OfGiven (texts ws ks es c m)) → OfGiven (text_turn n i o w ws (texts ws) known ds b n)
      by_turn (suc n) i o e g = g known ds b n k d
      by_turn zero true o e g = by_ds ds b d g
      by_turn zero false None e g = joined (itself w) (texts ws known ds (braces_behind b w) 0) (All-cons P w [] (All-head P w ws h) (All-nil P)) (g known ds (braces_behind b w) 0 k d)
      by_turn zero false (Some c) e g = by_closing c (closing OpenParen CloseParen (drop 1 ws) 0) (called known w ws c k e) g

  -- ---- the bodies of definitions

  abbrev OfDefinition : Option Inline → Type 0
  OfDefinition None = Unit {0}
  OfDefinition (Some d) = OfBody d

  abbrev OfList : Option (List Inline) → Type 0
  OfList None = Unit {0}
  OfList (Some ds) = OfBodies ds

  abbrev OfWords : Option (List Word) → Type 0
  OfWords None = Unit {0}
  OfWords (Some ws) = Of ws

  if_so : (b : Bool) (o : Option Inline) → OfDefinition o → OfDefinition (cond b o None)
  if_so true o h = h
  if_so false o h = tt

  ended : (n : List ℕ) (ps : List (List ℕ)) (ts : List Word) (r : Option ℕ) → Of ts → OfDefinition (option_and_then (with_end n ps ts) r)
  ended n ps ts None h = tt
  ended n ps ts (Some k) h = if_so (all_differ ps && not (has_inline (take (k + 2) ts))) (Some (record { name = n; parameters = ps; body = take (k + 2) ts; size = 2 + listed ps + (k + 2) })) (All-take P (k + 2) ts h)

  listed_so : (n : List ℕ) (ts : List Word) (o : Option (List (List ℕ))) → Of ts → OfDefinition (with_parameters n ts o)
  listed_so n ts None h = tt
  listed_so n ts (Some ps) h =
      if_so (begins_as OpenBrace (drop (listed ps) ts)) (option_and_then (with_end n ps (drop (listed ps) ts)) (closing OpenBrace CloseBrace (drop 1 (drop (listed ps) ts)) 0))
      (ended n ps (drop (listed ps) ts) (closing OpenBrace CloseBrace (drop 1 (drop (listed ps) ts)) 0) (All-drop P (listed ps) ts h))

  one_of : (ws : List Word) → Of ws → OfDefinition (definition ws)
  unfolding definition
  one_of [] h = tt
  one_of (w ∷ ws) h = if_so (is_name w && begins_as OpenParen ws) (with_parameters w.text (drop 1 ws) (parameter_names (drop 1 ws))) (listed_so w.text (drop 1 ws) (parameter_names (drop 1 ws)) (All-drop P 1 ws (All-tail P w ws h)))

  and_one : (d : Inline) (o : Option (List Inline)) → OfBody d → OfList o → OfList (option_map (λ ds. d ∷ ds) o)
  and_one d None b h = tt
  and_one d (Some ds) b h = All-cons OfBody d ds b h

  all_of : (ws : List Word) (n : ℕ) → Of ws → OfList (definitions ws n)
  all_of [] n h = All-nil OfBody
  all_of (w ∷ ws) n h = by_turn n (is_inline w) (definition ws) (one_of ws (All-tail P w ws h)) (λ m. all_of ws m (All-tail P w ws h))
    where
      by_turn : (n : ℕ) (i : Bool) (o : Option Inline) → OfDefinition o → ((m : ℕ) → OfList (definitions ws m)) → OfList (definition_turn n i o (definitions ws))
      by_turn (suc n) i o b g = g n
      by_turn zero true None b g = tt
      by_turn zero true (Some d) b g = and_one d (definitions ws d.size) b (g d.size)
      by_turn zero false o b g = g 0

  limits : (r : Option Given) → OfGiven r → OfWords (limited r)
  limits None h = tt
  limits (Some g) h = by_test (nat_le g.count MOST_REPLACED)
    where
      by_test : (b : Bool) → OfWords (cond b (Some g.tokens) None)
      by_test true = h
      by_test false = tt

  whole : (ts : List Word) → Of ts → OfWords (expansion ts)
  unfolding expansion
  whole ts h = by_list (definitions ts 0) (all_of ts 0 h)
    where
      by_list : (o : Option (List Inline)) → OfList o → OfWords (by_definitions ts o)
      by_list None x = tt
      by_list (Some ds) x = by_test (all_differ (map (λ d. d.name) ds))
        where
          by_test : (b : Bool) → OfWords (cond b (limited (texts ts [] ds 0 0)) None)
          by_test true = limits (texts ts [] ds 0 0) (through ts [] ds 0 0 h (All-nil OfBody) x)
          by_test false = tt

  pub kept : (ts us : List Word) → Of ts → Expands ts us → Of us
  kept ts us h e = subst (λ (o : Option (List Word)). OfWords o) (are_expansions ts us e) (whole ts h)
