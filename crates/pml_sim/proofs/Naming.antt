-- The text of a move names where the move comes from.
use Rattle.std.proofs.Common.{◌≡◌, ◌⊎◌, inl, inr, ℕ, List, [], ◌∷◌, ◌++◌, map, Option, Some, None, refl, ap, ◌∙◌, codes, append_assoc}
use Rattle.std.specs.Prelude.{slice_get, unwrap_or, option_map, IfSome, IsSome}
use Rattle.std.specs.Fmt.{decimal}
use Rattle.std.specs.List.{AllByRecursion}
use Rattle.pml_program.specs.declared.program.Stmt.{Stmt}
use Rattle.pml_program.specs.declared.program.Seq.{Seq}
use Rattle.pml_program.specs.declared.program.Proctype.{Proctype}
use Rattle.promela_process.specs.Control.{Control}
use Rattle.promela_process.specs.Offers.{Edge, Levels, offers, Offer, offer_of, statement_at, statement_text}
use Rattle.promela_process.specs.Offers as off
use Rattle.promela_run.specs.Lines.{proctype_name}
use Rattle.promela_run.specs.declared.moves.Pick.{Pick}
use Rattle.promela_run.specs.declared.moves.Move.TheVariants.{Death, Alone, Pair}
use Rattle.promela_run.specs.State.{Stand, State, body_of, levels_in, picked}
use Rattle.promela_run.specs.World.{sort_of_process, heading, offer_with_heading, pick_text, death_text}
use Rattle.run_search.specs.Lifted.{offer_on, offer_at, sort_of, line_in, brace_of}
use Rattle.pml_sim.specs.Origins.{Names, IsOffered, TextsNameOrigins}
use Rattle.pml_sim.proofs.Lasting.{get_light}

-- its text begins with its line, or there is none
abbrev Says : Offer → Type 0
Says o = (o.text ≡ []) ⊎ ((more : List ℕ) × (o.text ≡ codes "line " ++ (decimal o.line ++ more)))

offer_says : (b : Seq) (e : Edge) → Says (offer_of b e)
offer_says b e = by (statement_at b e.0)
  where
    by : (x : Option Stmt) → (unwrap_or (option_map off.offer_text x) [] ≡ []) ⊎ ((more : List ℕ) × (unwrap_or (option_map off.offer_text x) [] ≡ codes "line " ++ (decimal (unwrap_or (option_map off.offer_line x) 0) ++ more)))
    by None = inl refl
    by (Some s) = inr (codes " [" ++ (statement_text s.basic s.tokens ++ codes "]"), refl)

level_says : (b : Seq) (es : List Edge) → AllByRecursion Says (map (offer_of b) es)
level_says b [] = tt
level_says b (e ∷ es) = (offer_says b e, level_says b es)

levels_say : (b : Seq) (ls : Levels) → AllByRecursion (AllByRecursion Says) (map (map (offer_of b)) ls)
levels_say b [] = tt
levels_say b (l ∷ ls) = (level_says b l, levels_say b ls)

inside_says : (o : Option Seq) (c : Control) → AllByRecursion (AllByRecursion Says) (levels_in o c)
inside_says None c = tt
inside_says (Some b) c = levels_say b (offers b c)

on_says : (o : Option (List Offer)) (i : ℕ) → IfSome o (AllByRecursion Says) → IfSome (offer_on o i) Says
on_says None i h = tt
on_says (Some os) i h = get_light 0 Says os i h

picked_says : (s : State) (k : Pick) (y : Option Stand) → IfSome (offer_at s k y) Says
picked_says s k None = tt
picked_says s k (Some y) =
    let ls = levels_in (body_of s.program y.sort) y.control in
    on_says (slice_get ls k.level) k.place (get_light 0 (AllByRecursion Says) ls k.level (inside_says (body_of s.program y.sort) y.control))

-- ---- names

behind_heading : (p : ℕ) (q : Proctype) (text : List ℕ) → heading p q ++ text ≡ codes "proc " ++ (decimal p ++ (codes " (" ++ (proctype_name q.name ++ (codes ") " ++ text))))
behind_heading p q text =
    append_assoc (codes "proc ") _ text
    ∙ ap (λ l. codes "proc " ++ l) (append_assoc (decimal p) _ text
    ∙ ap (λ l. decimal p ++ l) (append_assoc (codes " (") _ text
    ∙ ap (λ l. codes " (" ++ l) (append_assoc (proctype_name q.name) (codes ") ") text)))

heading_names : (p n : ℕ) (q : Proctype) (text more : List ℕ) → text ≡ codes "line " ++ (decimal n ++ more) → Names (p, n) (heading p q ++ text)
heading_names p n q text more is = record {
  name = proctype_name q.name;
  more = more;
  is = behind_heading p q text ∙ ap (λ l. codes "proc " ++ (decimal p ++ (codes " (" ++ (proctype_name q.name ++ (codes ") " ++ l))))) is;
}

names_more : (place : ℕ × ℕ) (text rest : List ℕ) → Names place text → Names place (text ++ rest)
names_more place text rest h = record {
  name = h.name;
  more = h.more ++ rest;
  is = ap (λ l. l ++ rest) h.is ∙ append_assoc (codes "proc ") _ rest
      ∙ ap (λ l. codes "proc " ++ l) (append_assoc (decimal place.0) _ rest
      ∙ ap (λ l. decimal place.0 ++ l) (append_assoc (codes " (") _ rest
      ∙ ap (λ l. codes " (" ++ l) (append_assoc h.name _ rest
      ∙ ap (λ l. h.name ++ l) (append_assoc (codes ") ") (codes "line " ++ (decimal place.1 ++ h.more)) rest
      ∙ ap (λ l. codes ") " ++ l) (append_assoc (codes "line ") _ rest
      ∙ ap (λ l. codes "line " ++ l) (append_assoc (decimal place.1) h.more rest))))));
}

offer_names : (p : ℕ) (q : Option Proctype) (o : Option Offer) → IfSome o Says → IsOffered o → (q ≡ None → o ≡ None) → Names (p, line_in o) (offer_with_heading p q o)
offer_names p q None says there lost = absurd there
offer_names p None (Some o) says there lost = let e = lost refl in cc
offer_names p (Some q) (Some o) (inl none) there lost = absurd (there none)
offer_names p (Some q) (Some o) (inr h) there lost = heading_names p o.line q o.text h.0 h.1

-- where there is no proctype, there is no offer
no_offer : (s : State) (k : Pick) (y : Option Stand) → sort_of s.program y ≡ None → offer_at s k y ≡ None
no_offer s k None e = refl
no_offer s k (Some y) e = rw e refl

pick_names : (s : State) (k : Pick) → IsOffered (picked s k) → Names (k.process, line_in (picked s k)) (pick_text s k)
pick_names s k there =
    offer_names k.process (sort_of_process s k.process) (picked s k) (picked_says s k (slice_get s.stands k.process)) there (no_offer s k (slice_get s.stands k.process))

death_names : (p : ℕ) (q : Option Proctype) → IsSome q → Names (p, brace_of q) (death_text p q)
death_names p None some = cc
death_names p (Some q) some = heading_names p q.end.line q _ (codes " [-end-]") (append_assoc (codes "line ") (decimal q.end.line) (codes " [-end-]"))

pub texts_name_origins : TextsNameOrigins
texts_name_origins s (Death p) there = death_names p (sort_of_process s p) there
texts_name_origins s (Alone k t) there = pick_names s k there
texts_name_origins s (Pair k j t) there = names_more (k.process, line_in (picked s k)) (pick_text s k) _ (pick_names s k there)
