-- What is read as a model is spelled so.
use Rattle.std.proofs.Common.{◌≡◌, ℕ, zero, suc, Bool, true, false, List, [], ◌∷◌, ◌++◌, length, Option, Ok, inl, inr, refl, sym, ap, subst, ◌∙◌, append_assoc}
use Rattle.pml_token.specs.Word.{Word, same_kind}
use Rattle.pml_token.specs.declared.token.Kind.{Kind}
use Rattle.pml_token.specs.declared.token.Kind.TheVariants as k
use Rattle.pml_tree.specs.declared.tree.Expr.{Expr}
use Rattle.pml_tree.specs.declared.tree.Variable.{Variable}
use Rattle.pml_tree.specs.declared.tree.Item.{Item}
use Rattle.pml_tree.specs.declared.tree.Starts.{Starts}
use Rattle.pml_tree.specs.declared.tree.Starts.TheVariants as starting
use Rattle.pml_tree.specs.declared.tree.Unit.{Unit as ModelUnit}
use Rattle.pml_tree.specs.declared.tree.Unit.TheVariants as u
use Rattle.pml_tree.specs.declared.tree.Tree.{Tree}
use Rattle.promela_grammar.specs.declared.opener.Opener.{Opener}
use Rattle.promela_grammar.specs.declared.opener.Opener.TheVariants as opener
use Rattle.pml_syntax.specs.declared.starts.Head.{Head}
use Rattle.pml_syntax.specs.declared.starts.Head.TheVariants as h
use Rattle.promela_grammar.specs.Expressions as terms
use Rattle.promela_grammar.specs.Actions as grammar
use Rattle.promela_grammar.specs.Models as bodies
use Rattle.promela_grammar.specs.Expressions.{SpellsIndex, SpellsList}
use Rattle.promela_grammar.specs.Actions.{seq_of, proctype_tree, SpellsName, SpellsVisibility, SpellsOpener, SpellsDeclaration}
use Rattle.promela_grammar.specs.Models.{SpellsItems, SpellsBody, SpellsSemicolons, SpellsMembers, SpellsParameter, SpellsMoreParameters, SpellsParameters, SpellsStarts, SpellsUnit, SpellsUnits, Spells}
use Rattle.pml_syntax.specs.Starts.{head}
use Rattle.pml_expression.specs.Reading.{pick, next, sees, expect, expr, is_empty}
use Rattle.pml_syntax.specs.ReadingStatements.{skip_visibility}
use Rattle.pml_syntax.specs.ReadingUnits as reading
use Rattle.pml_syntax.specs.ReadingUnits.{skip_semicolons, starts_of, parts_parameters}
use Rattle.pml_expression.proofs.Steps.{bind_ok, chosen, ok_is, kind_is, expect_ok, name_ok, done, fronted, fronted3, from_name, closed_by}
use Rattle.pml_expression.proofs.Lists.{GoesOn, one_more, none_more, all_found, whole_list_found}
use Rattle.pml_expression.proofs.Found.{index_found, expr_found}
use Rattle.pml_syntax.proofs.FoundDeclarations.{visibility_found, opener_found, declaration_found}
use Rattle.pml_syntax.proofs.FoundBodies.{items_found}

-- ---- semicolons

semicolons_by : (b : Bool) (w : Word) (ws : List Word) → same_kind w.kind k.Semicolon ≡ b → SpellsSemicolons ws (skip_semicolons ws) → SpellsSemicolons (w ∷ ws) (pick b (skip_semicolons ws) (w ∷ ws))
unfolding pick
semicolons_by true w ws h rest = bodies.one_semicolon (kind_is w.kind k.Semicolon h) rest
semicolons_by false w ws h rest = bodies.no_semicolon

semicolons_found : (ts : List Word) → SpellsSemicolons ts (skip_semicolons ts)
unfolding skip_semicolons sees
semicolons_found [] = bodies.no_semicolon
semicolons_found (w ∷ ws) = semicolons_by (same_kind w.kind k.Semicolon) w ws refl (semicolons_found ws)

-- a semicolon at the front
record Parted (ts : List Word) : Type 0 where
  mark : Word
  behind : List Word
  front : ts ≡ mark ∷ behind
  is : mark.kind ≡ k.Semicolon
  rest : SpellsSemicolons behind (skip_semicolons ts)

parted : (ts : List Word) → sees k.Semicolon ts ≡ true → Parted ts
unfolding skip_semicolons sees pick
parted [] h = absurd cc
parted (w ∷ ws) h = record { mark = w; behind = ws; front = refl; is = kind_is w.kind k.Semicolon h; rest = subst (λ (to : List Word). SpellsSemicolons ws to) (rw h refl) (semicolons_found ws) }

-- ---- parameters

parameter_found : (f : Opener) (ts : List Word) (x : Variable × List Word) → reading.parameter_by f ts ≡ Ok x → SpellsParameter f x.0 ts x.1
unfolding reading.plain_parameter reading.packed_parameter
parameter_found (opener.Plain s) ts x h =
    let n = bind_ok h in
    let t = expect_ok n.1 in
    done (SpellsParameter (opener.Plain s)) n.2 (fronted (SpellsParameter (opener.Plain s)) t (bodies.plain_parameter t.is))
parameter_found opener.Unsigned ts x h =
    let n = bind_ok h in
    let t = expect_ok n.1 in
    let c = bind_ok n.2 in
    let v = expect_ok c.1 in
    let w = bind_ok c.2 in
    let z = expect_ok w.1 in
    done (SpellsParameter opener.Unsigned) w.2 (fronted3 (SpellsParameter opener.Unsigned) t v z (bodies.packed_parameter t.is v.is z.is))
parameter_found (opener.Named w) ts x h = absurd cc

record Typed (ts : List Word) (x : (Variable × Opener) × List Word) : Type 0 where
  typed : List Word
  named : List Word
  visible : SpellsVisibility ts typed
  opens : SpellsOpener x.0.1 typed named
  parameter : SpellsParameter x.0.1 x.0.0 named x.1

typed_found : (ts : List Word) (x : (Variable × Opener) × List Word) → reading.typed_parameter ts ≡ Ok x → Typed ts x
unfolding reading.typed_parameter
typed_found ts x h =
    let f = bind_ok h in
    let v = bind_ok f.2 in
    subst (Typed ts) (ok_is v.2) (record { typed = skip_visibility ts; named = f.0.1; visible = visibility_found ts; opens = opener_found (skip_visibility ts) f.0 f.1; parameter = parameter_found f.0.0 f.0.1 v.0 v.1 })

comma_is : (kind : Kind) → parts_parameters kind ≡ true → same_kind kind k.Semicolon ≡ false → kind ≡ k.Comma
comma_is k.Comma h g = refl
comma_is k.Semicolon h g = absurd cc
comma_is _ h g = absurd cc

-- one parameter more before those that come then
abbrev GoesBefore : Opener → List Word → (Variable × Opener) × List Word → Type 0
GoesBefore f ts x = (vs : List Variable) (to : List Word) → SpellsMoreParameters x.0.1 vs x.1 to → SpellsMoreParameters f (x.0.0 ∷ vs) ts to

more_found : (f : Opener) (ts : List Word) (x : (Variable × Opener) × List Word) → parts_parameters (next ts) ≡ true → reading.more_parameter f ts ≡ Ok x → GoesBefore f ts x
unfolding reading.more_parameter reading.next_parameter sees
more_found f [] x is h = absurd cc
more_found f (w ∷ ws) x is h = elim (chosen h) [
  | inl p ↦ let t = typed_found ws x p.1 in λ vs to rest. bodies.semicolon_parameter (kind_is w.kind k.Semicolon p.0) t.visible t.opens t.parameter rest
  | inr p ↦
      let comma = comma_is w.kind is p.0 in
      elim (chosen p.1) [
        | inl q ↦ let t = typed_found ws x q.1 in λ vs to rest. bodies.comma_parameter comma t.visible t.opens t.parameter rest
        | inr q ↦
            let v = bind_ok q.1 in
            subst (GoesBefore f (w ∷ ws)) (ok_is v.2) (λ vs to rest. bodies.same_type comma (parameter_found f ws v.0 v.1) rest)
      ]
]

parameters_from_found : (turns : ℕ) (f : Opener) (found : List Variable) (ts : List Word) (x : List Variable × List Word) → reading.parameters_from turns f found ts ≡ Ok x → GoesOn (λ vs. SpellsMoreParameters f vs ts x.1) found x.0
unfolding reading.parameters_from
parameters_from_found zero f found ts x h = subst (λ (r : List Variable × List Word). GoesOn (λ vs. SpellsMoreParameters f vs ts r.1) found r.0) (ok_is h) (none_more found bodies.no_more_parameters)
parameters_from_found (suc n) f found ts x h = elim (chosen h) [
  | inl p ↦
      let v = bind_ok p.1 in
      one_more {Spell = λ vs. SpellsMoreParameters v.0.0.1 vs v.0.1 x.1} found x.0 v.0.0.0 (λ vs s. more_found f ts v.0 p.0 v.1 vs x.1 s) (parameters_from_found n v.0.0.1 (found ++ v.0.0.0 ∷ []) v.0.1 x v.2)
  | inr p ↦ subst (λ (r : List Variable × List Word). GoesOn (λ vs. SpellsMoreParameters f vs ts r.1) found r.0) (ok_is p.1) (none_more found bodies.no_more_parameters)
]

parameters_found : (ts : List Word) (x : List Variable × List Word) → reading.parameters ts ≡ Ok x → SpellsParameters x.0 ts x.1
unfolding reading.parameters
parameters_found ts x h = elim (chosen h) [
  | inl p ↦ done SpellsParameters p.1 bodies.no_parameters
  | inr p ↦
      let v = bind_ok p.1 in
      let t = typed_found ts v.0 v.1 in
      let g = parameters_from_found (length v.0.1) v.0.0.1 (v.0.0.0 ∷ []) v.0.1 x v.2 in
      subst (λ (all : List Variable). SpellsParameters all ts x.1) (sym g.whole_is) (bodies.parameters t.visible t.opens t.parameter g.spells)
]

-- ---- units

name_found : (ts : List Word) (x : Word × List Word) → expect k.Name ts ≡ Ok x → SpellsName x.0 ts x.1
name_found ts x h = let t = expect_ok h in fronted SpellsName t (grammar.name t.is)

record Listed (ts : List Word) (x : List Word × List Word) : Type 0 where
  opened : Word
  close : Word
  inside : List Word
  front : ts ≡ opened ∷ inside
  opens : opened.kind ≡ k.OpenBrace
  closes : close.kind ≡ k.CloseBrace
  spells : SpellsList SpellsName x.0 inside (close ∷ x.1)

names_found : (ts : List Word) (x : List Word × List Word) → reading.names ts ≡ Ok x → Listed ts x
unfolding reading.names
names_found ts x h =
    let o = bind_ok h in
    let t = expect_ok o.1 in
    let ns = bind_ok o.2 in
    let c = bind_ok ns.2 in
    let v = expect_ok c.1 in
    let inside = whole_list_found (expect k.Name) SpellsName (SpellsList SpellsName) name_found (λ x from to s. terms.last_listed s) (λ x xs c from middle to s is more. terms.more_listed s is more) (length o.0.1) o.0.1 ns.0 ns.1 in
    subst (Listed ts) (ok_is c.2) (record { opened = o.0.0; close = c.0.0; inside = o.0.1; front = t.front; opens = t.is; closes = v.is; spells = closed_by (SpellsList SpellsName) v inside })

constants_found : (w : Word) (ts : List Word) (x : ModelUnit × List Word) → w.kind ≡ k.Mtype → reading.constants ts ≡ Ok x → SpellsUnit x.0 (w ∷ ts) x.1
unfolding reading.constants
constants_found w ts x is h = elim (chosen h) [
  | inl p ↦
      let q = bind_ok p.1 in
      let t = expect_ok q.1 in
      let ns = bind_ok q.2 in
      let l = names_found q.0.1 ns.0 ns.1 in
      done SpellsUnit ns.2 (subst (λ (from : List Word). SpellsUnit (u.Constants ns.0.0) (w ∷ from) ns.0.1) (sym t.front)
      (subst (λ (from : List Word). SpellsUnit (u.Constants ns.0.0) (w ∷ q.0.0 ∷ from) ns.0.1) (sym l.front) (bodies.equal_constants is t.is l.opens l.spells l.closes)))
  | inr p ↦
      let ns = bind_ok p.1 in
      let l = names_found ts ns.0 ns.1 in
      done SpellsUnit ns.2 (subst (λ (from : List Word). SpellsUnit (u.Constants ns.0.0) (w ∷ from) ns.0.1) (sym l.front) (bodies.constants is l.opens l.spells l.closes))
]

starts_index : {i : Option Expr} {w : Word} {from to : List Word} → w.kind ≡ k.Active → SpellsIndex i from to → SpellsStarts (starts_of i) (w ∷ from) to
starts_index is terms.no_index = bodies.once is
starts_index is (terms.index opened x closed) = bodies.times is opened x closed

all_read : (ts : List Word) → is_empty ts ≡ true → ts ≡ []
all_read [] h = refl
all_read (w ∷ ws) h = absurd cc

semicolons_before : {us : List ModelUnit} {from to : List Word} → SpellsSemicolons from to → SpellsUnits us to → SpellsUnits us from
semicolons_before bodies.no_semicolon us = us
semicolons_before (bodies.one_semicolon is s) us = bodies.semicolon is (semicolons_before s us)

head_mtype : (kind : Kind) → head kind ≡ h.Mtype → kind ≡ k.Mtype
head_mtype k.Mtype is = refl
head_mtype _ is = absurd cc

module _ (depth : ℕ) where
  starts_found : (ts : List Word) (x : Starts × List Word) → reading.starts depth ts ≡ Ok x → SpellsStarts x.0 ts x.1
  unfolding reading.starts
  starts_found ts x h = elim (chosen h) [
    | inl p ↦
        let w = bind_ok p.1 in
        let t = expect_ok w.1 in
        let i = bind_ok w.2 in
        done SpellsStarts i.2 (fronted SpellsStarts t (starts_index t.is (index_found (expr depth) (expr_found depth) w.0.1 i.0 i.1)))
    | inr p ↦ done SpellsStarts p.1 bodies.never
  ]

  members_found : (turns : ℕ) (found : List Variable) (ts : List Word) (x : List Variable × List Word) → reading.members_from depth turns found ts ≡ Ok x → GoesOn (λ vs. SpellsMembers vs ts x.1) found x.0
  unfolding reading.members_from
  members_found zero found ts x h = absurd cc
  members_found (suc n) found ts x h =
      let vs = bind_ok h in
      let d = declaration_found depth found ts vs.0 vs.1 in
      elim (chosen vs.2) [
        | inl p ↦ subst (λ (r : List Variable × List Word). GoesOn (λ vs. SpellsMembers vs ts r.1) found r.0) (ok_is p.1)
            (record { more = d.more; whole_is = d.whole_is; spells = bodies.last_members d.spells (semicolons_found vs.0.1) })
        | inr p ↦ elim (chosen p.1) [
          | inl q ↦
              let m = parted vs.0.1 q.0 in
              let g = members_found n vs.0.0.0 (skip_semicolons vs.0.1) x q.1 in
              record {
                more = d.more ++ g.more;
                whole_is = g.whole_is ∙ ap (λ (all : List Variable). all ++ g.more) d.whole_is ∙ append_assoc found d.more g.more;
                spells = bodies.more_members (subst (λ (to : List Word). SpellsDeclaration vs.0.0.1 d.more ts to) m.front d.spells) m.is m.rest g.spells;
              }
          | inr q ↦ absurd cc
        ]
      ]

  typedef_found : (ts : List Word) (x : ModelUnit × List Word) → reading.typedef depth ts ≡ Ok x → SpellsUnit x.0 ts x.1
  unfolding reading.typedef
  typedef_found ts x h =
      let n = bind_ok h in
      let t = name_ok n.1 in
      let vs = bind_ok n.2 in
      let c = bind_ok vs.2 in
      let y = expect_ok c.1 in
      let all = all_found {Spell = λ all. SpellsMembers all n.0.1 vs.0.1} (members_found (length n.0.1) [] n.0.1 vs.0 vs.1) in
      done SpellsUnit c.2 (from_name SpellsUnit t (bodies.typedef t.is t.named t.ends (closed_by SpellsMembers y all) y.is))

  -- a body in its braces
  record Braced (ts : List Word) (x : (List Item × Word) × List Word) : Type 0 where
    opened : Word
    inside : List Word
    front : ts ≡ opened ∷ inside
    opens : opened.kind ≡ k.OpenBrace
    closes : x.0.1.kind ≡ k.CloseBrace
    spells : SpellsBody x.0.0 inside (x.0.1 ∷ x.1)

  items_or_none_found : (ts : List Word) (x : List Item × List Word) → reading.items_or_none depth ts ≡ Ok x → SpellsBody x.0 ts x.1
  unfolding reading.items_or_none
  items_or_none_found ts x h = elim (chosen h) [
    | inl p ↦ done SpellsBody p.1 bodies.no_item
    | inr p ↦ let xs = bind_ok p.1 in done SpellsBody xs.2 (bodies.some_items (items_found depth ts xs.0 xs.1))
  ]

  body_found : (ts : List Word) (x : (List Item × Word) × List Word) → reading.body depth ts ≡ Ok x → Braced ts x
  unfolding reading.body
  body_found ts x h =
      let o = bind_ok h in
      let t = expect_ok o.1 in
      let xs = bind_ok o.2 in
      let c = bind_ok xs.2 in
      let v = expect_ok c.1 in
      let inside = items_or_none_found o.0.1 xs.0 xs.1 in
      subst (Braced ts) (ok_is c.2) (record { opened = o.0.0; inside = o.0.1; front = t.front; opens = t.is; closes = v.is; spells = closed_by SpellsBody v inside })

  record Signed (ts : List Word) (x : (Word × List Variable) × List Word) : Type 0 where
    word : Word
    opened : Word
    close : Word
    inside : List Word
    front : ts ≡ word ∷ x.0.0 ∷ opened ∷ inside
    is : word.kind ≡ k.Proctype
    named : x.0.0.kind ≡ k.Name
    opens : opened.kind ≡ k.OpenParen
    closes : close.kind ≡ k.CloseParen
    spells : SpellsParameters x.0.1 inside (close ∷ x.1)

  signature_found : (ts : List Word) (x : (Word × List Variable) × List Word) → reading.signature ts ≡ Ok x → Signed ts x
  unfolding reading.signature
  signature_found ts x h =
      let n = bind_ok h in
      let t = name_ok n.1 in
      let vs = bind_ok n.2 in
      let c = bind_ok vs.2 in
      let y = expect_ok c.1 in
      subst (Signed ts) (ok_is c.2)
      (record { word = t.word; opened = t.end; close = c.0.0; inside = n.0.1; front = t.parts; is = t.is; named = t.named; opens = t.ends; closes = y.is; spells = closed_by SpellsParameters y (parameters_found n.0.1 vs.0 vs.1) })

  proctype_found : (ts : List Word) (x : ModelUnit × List Word) → reading.proctype depth ts ≡ Ok x → SpellsUnit x.0 ts x.1
  unfolding reading.proctype reading.process
  proctype_found ts x h =
      let s = bind_ok h in
      let m = bind_ok s.2 in
      let y = bind_ok m.2 in
      let first = starts_found ts s.0 s.1 in
      let signed = signature_found s.0.1 m.0 m.1 in
      let braced = body_found m.0.1 y.0 y.1 in
      done SpellsUnit y.2
      (bodies.proctype (subst (λ (to : List Word). SpellsStarts s.0.0 ts to) signed.front first) signed.is signed.named signed.opens
      (subst (λ (to : List Word). SpellsParameters m.0.0.1 signed.inside (signed.close ∷ to)) braced.front signed.spells) signed.closes braced.opens braced.spells braced.closes)

  init_found : (ts : List Word) (x : ModelUnit × List Word) → reading.init depth ts ≡ Ok x → SpellsUnit x.0 ts x.1
  unfolding reading.init reading.process
  init_found ts x h =
      let w = bind_ok h in
      let t = expect_ok w.1 in
      let y = bind_ok w.2 in
      let braced = body_found w.0.1 y.0 y.1 in
      done SpellsUnit y.2 (fronted SpellsUnit t (subst (λ (from : List Word). SpellsUnit (u.Proctype (proctype_tree starting.Once w.0.0 [] (seq_of y.0.0.0) y.0.0.1)) (w.0.0 ∷ from) y.0.1) (sym braced.front) (bodies.init t.is braced.opens braced.spells braced.closes)))

  variables_found : (ts : List Word) (x : ModelUnit × List Word) → reading.variables depth ts ≡ Ok x → SpellsUnit x.0 ts x.1
  unfolding reading.variables
  variables_found ts x h =
      let vs = bind_ok h in
      let d = all_found {Spell = λ all. SpellsDeclaration vs.0.0.1 all ts vs.0.1} (declaration_found depth [] ts vs.0 vs.1) in
      done SpellsUnit vs.2 (bodies.variables d)

  unit_by_found : (start : Head) (ts : List Word) (x : ModelUnit × List Word) → head (next ts) ≡ start → reading.unit_by depth start ts ≡ Ok x → SpellsUnit x.0 ts x.1
  unit_by_found h.Mtype [] x is g = absurd cc
  unit_by_found h.Mtype (w ∷ ws) x is g = elim (chosen g) [
    | inl p ↦ variables_found (w ∷ ws) x p.1
    | inr p ↦ constants_found w ws x (head_mtype w.kind is) p.1
  ]
  unit_by_found h.Typedef ts x is g = typedef_found ts x g
  unit_by_found h.Proctype ts x is g = proctype_found ts x g
  unit_by_found h.Init ts x is g = init_found ts x g
  unit_by_found h.Other ts x is g = variables_found ts x g

  unit_found : (ts : List Word) (x : ModelUnit × List Word) → reading.unit depth ts ≡ Ok x → SpellsUnit x.0 ts x.1
  unfolding reading.unit
  unit_found ts x g = unit_by_found (head (next ts)) ts x refl g

  units_found : (turns : ℕ) (found : List ModelUnit) (ts : List Word) (x : List ModelUnit × List Word) → reading.units_from depth turns found ts ≡ Ok x → GoesOn (λ us. SpellsUnits us ts) found x.0
  unfolding reading.units_from
  units_found zero found ts x g = elim (chosen g) [
    | inl p ↦ subst (λ (r : List ModelUnit × List Word). GoesOn (λ us. SpellsUnits us ts) found r.0) (ok_is p.1)
        (none_more found (semicolons_before (semicolons_found ts) (subst (λ (to : List Word). SpellsUnits [] to) (sym (all_read (skip_semicolons ts) p.0)) bodies.no_unit)))
    | inr p ↦ absurd cc
  ]
  units_found (suc n) found ts x g = elim (chosen g) [
    | inl p ↦ subst (λ (r : List ModelUnit × List Word). GoesOn (λ us. SpellsUnits us ts) found r.0) (ok_is p.1)
        (none_more found (semicolons_before (semicolons_found ts) (subst (λ (to : List Word). SpellsUnits [] to) (sym (all_read (skip_semicolons ts) p.0)) bodies.no_unit)))
    | inr p ↦
        let y = bind_ok p.1 in
        one_more {Spell = λ us. SpellsUnits us y.0.1} found x.0 y.0.0 (λ us s. semicolons_before (semicolons_found ts) (bodies.unit (unit_found (skip_semicolons ts) y.0 y.1) s)) (units_found n (found ++ y.0.0 ∷ []) y.0.1 x y.2)
  ]

  pub model_found : (ts : List Word) (x : Tree × List Word) → reading.model depth ts ≡ Ok x → Spells x.0 ts
  unfolding reading.model
  model_found ts x g =
      let us = bind_ok g in
      let all = all_found {Spell = λ all. SpellsUnits all ts} (units_found (length ts) [] ts us.0 us.1) in
      subst (λ (r : Tree × List Word). Spells r.0 ts) (ok_is us.2) (bodies.model all)
