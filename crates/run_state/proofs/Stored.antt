-- Numbers that are stored one after another.
use Rattle.std.proofs.Common.{◌≡◌, ℕ, ◌+◌, ◌<◌, List, [], ◌∷◌, ◌++◌, length, get_or, take, drop, refl, sym, ap, subst, ◌∙◌, arith}
use Rattle.std.proofs.lemmas.List.{take_more, drop_more, take-append-drop}
use Rattle.pml_store.specs.Writing.{Contents, stored}
use Rattle.promela_run.specs.declared.goes.Goes.{Goes}
use Rattle.pml_value.specs.Storing.{stored_all, AreAsLarge, StoresSome}
use Rattle.pml_value.proofs.Storing.{size-stored}
use Rattle.pml_value.specs.Takes.{IsIn}
use Rattle.run_state.specs.Storing.{AreIn}

stored-behind : (s : Contents) (gs hs : List Goes) → stored_all s (gs ++ hs) ≡ stored_all (stored_all s gs) hs
stored-behind s [] hs = refl
stored-behind s (g ∷ gs) hs = stored-behind (stored s g.place g.number) gs hs

-- one number more
pub done-next : (i : ℕ) (old now new : Contents) (gs : List Goes) (d : Goes) → i < length gs → now ≡ stored_all old (take i gs)
    → new ≡ stored now (get_or gs i d).place (get_or gs i d).number → new ≡ stored_all old (take (i + 1) gs)
done-next i old now new gs d l h e =
    e ∙ ap (λ (s : Contents). stored s (get_or gs i d).place (get_or gs i d).number) h
    ∙ sym (ap (stored_all old) (take_more gs i d l) ∙ stored-behind old (take i gs) (get_or gs i d ∷ []))

-- where the store ends early, a part is stored
pub done-some : (i : ℕ) (old now new : Contents) (gs : List Goes) → now ≡ stored_all old (take i gs) → new ≡ now → StoresSome old new gs
done-some i old now new gs h e = record { before = take i gs; after = drop i gs; parts = sym (take-append-drop i gs); stands = e ∙ h }

all-in : (old new : Contents) (gs : List Goes) → AreAsLarge old new → AreIn old.frames gs → AreIn new.frames gs
all-in old new [] h t = tt
all-in old new (g ∷ gs) h t = let e = h g.place.frame g.place.variable in let k : IsIn new.frames g = omega (arith, t.0, e) in (k, all-in old new gs h t.1)

-- the places of the rest are still there
pub in-next : (i : ℕ) (old new : Contents) (gs : List Goes) (d : Goes) → i < length gs → new ≡ stored old (get_or gs i d).place (get_or gs i d).number
    → AreIn old.frames (drop i gs) → AreIn new.frames (drop (i + 1) gs)
in-next i old new gs d l e t =
    let all : AreIn old.frames (get_or gs i d ∷ drop (i + 1) gs) = subst (AreIn old.frames) (drop_more gs i d l) t in
    all-in old new (drop (i + 1) gs) (subst (AreAsLarge old) (sym e) (size-stored old (get_or gs i d).place (get_or gs i d).number)) all.1
