-- Bodies stand for what they are numbered as.
use Rattle.std.proofs.Common.{◌≡◌, ℕ, ◌<◌, List, [], ◌∷◌, ◌++◌, map, Option, Some, None, refl, ap, sym, subst, ◌∙◌}
use Rattle.std.specs.Option.{option_or}
use Rattle.pml_token.specs.Word.{Word}
use Rattle.pml_tree.specs.declared.tree.Basic.{Basic as TreeBasic, Basic-F, map-Basic, roll-Basic, fold-roll-Basic, ind-Basic}
use Rattle.pml_tree.specs.declared.tree.Basic.TheVariants as form
use Rattle.pml_tree.specs.declared.tree.Item.{Item, Item-F, map-Item, roll-Item, fold-roll-Item}
use Rattle.pml_tree.specs.declared.tree.Seq.{Seq as TreeSeq, Seq-F, map-Seq, roll-Seq as tree-Seq, fold-roll-Seq, ind-Seq}
use Rattle.promela_model.specs.declared.mark.Role.TheVariants as role
use Rattle.promela_model.specs.declared.thing.Thing.{Thing}
use Rattle.check_names.specs.Entry.{Entry, found}
use Rattle.promela_model.specs.Names.{only_process}
use Rattle.pml_program.specs.declared.program.Slot.{Slot}
use Rattle.pml_program.specs.declared.program.Basic.{Basic}
use Rattle.pml_program.specs.declared.program.Basic.TheVariants as b
use Rattle.pml_program.specs.declared.program.Stmt.{Stmt}
use Rattle.pml_program.specs.declared.program.Seq.{Seq}
use Rattle.check_resolve.specs.Numbered.{scope}
use Rattle.check_resolve.specs.Declarations.{Known}
use Rattle.check_resolve.specs.Statements.{Threaded, each, stmts, joined, basic_layer, item_layer, seq_layer, numbered_basic, numbered_item, numbered_seq, proctype_of}
use Rattle.promela_model.specs.Stands.{Globals}
use Rattle.promela_model.specs.StandsModel as stands
use Rattle.meaning_laws.proofs.Words.{stmt_of, steps_of}
use Rattle.promela_model.specs.StandsModel.{StandsBasic, StandsItems, StandsSeq, StandsOptions}
use Rattle.promela_grammar.specs.Actions.{item_of, seq_of}
use Rattle.meaning_laws.proofs.Declaring.{Runs, Ready, sees-of, variables-ready, variables-stand, only_variables}
use Rattle.meaning_laws.proofs.Acting.{action-stands, only_action}

abbrev B : Type 0
B = Threaded (Option Basic)

abbrev I : Type 0
I = Threaded (List Stmt)

abbrev S : Type 0
S = Threaded Seq

abbrev TreeLayer : Type 0
TreeLayer = Basic-F TreeBasic Item TreeSeq

basic-is : (x : TreeBasic) (y : Basic-F TreeBasic Item TreeSeq) → roll-Basic y ≡ x → numbered_basic x ≡ basic_layer (map-Basic TreeBasic Item TreeSeq B I S numbered_basic numbered_item numbered_seq y)
basic-is x y is = ap numbered_basic (sym is) ∙ fold-roll-Basic B I S basic_layer item_layer seq_layer y

abbrev numbered_as : List Word → TreeBasic → List Word → I
numbered_as labels x tokens = item_layer (record { labels = labels; basic = numbered_basic x; tokens = tokens })

item-is : (labels : List Word) (x : TreeBasic) (tokens : List Word) → numbered_item (item_of labels x tokens) ≡ numbered_as labels x tokens
item-is labels x tokens = fold-roll-Item B I S basic_layer item_layer seq_layer (record { labels = labels; basic = x; tokens = tokens })

seq-is : (is : List Item) → numbered_seq (seq_of is) ≡ seq_layer (record { items = map numbered_item is })
seq-is is = fold-roll-Seq B I S basic_layer item_layer seq_layer (record { items = is })

module _ (gs : Globals) (all start : List Entry) (o : ℕ) (p : 0 < o) (runs : Runs gs all start) where
  -- a run finds its proctype in a body too
  still-runs : (x : Known) → Ready gs start o x → Runs gs all x.names
  still-runs x h = λ n. ap (λ (f : Option Thing). proctype_of (option_or f (only_process (found all 0 n)))) (h.still n) ∙ runs n

  -- a part stands for what comes out, and what is known behind it is ready
  abbrev Stands : {A : Type 0} → (List Slot → A → List Slot → Type 0) → Threaded A → Type 0
  Stands R f = (x : Known) → Ready gs start o x → R x.slots (f all o x).0 (f all o x).1.slots × Ready gs start o (f all o x).1

  abbrev PB : TreeBasic → Type 0
  PB x = Stands (λ ls y zs. StandsBasic gs ls x y zs) (numbered_basic x)

  abbrev PI : Item → Type 0
  PI i = (labels : List Word) × (x : TreeBasic) × (tokens : List Word) × (i ≡ item_of labels x tokens) × PB x

  abbrev PS : TreeSeq → Type 0
  PS s = Stands (λ ls y zs. StandsSeq gs ls s y zs) (numbered_seq s)

  abbrev BB : Type 0
  BB = (x : TreeBasic) × PB x

  abbrev II : Type 0
  II = (i : Item) × PI i

  abbrev SS : Type 0
  SS = (s : TreeSeq) × PS s

  options-stand : (ss : List SS) → Stands (λ ls ys zs. StandsOptions gs ls (map (λ (s : SS). s.0) ss) ys zs) (each (map numbered_seq (map (λ (s : SS). s.0) ss)))
  options-stand [] = λ x h. (stands.no_option, h)
  options-stand (s ∷ ss) = λ x h.
      let first = s.1 x h in
      let rest = options-stand ss (numbered_seq s.0 all o x).1 first.1 in
      (stands.option first.0 rest.0, rest.1)

  one-item : (labels : List Word) (x : TreeBasic) (tokens : List Word) (ls ms zs : List Slot) (is : List Item) (ys : List Stmt) (y : Option Basic)
      → StandsBasic gs ls x y ms → StandsItems gs ms is ys zs → StandsItems gs ls (item_of labels x tokens ∷ is) (stmts labels y tokens ++ ys) zs
  one-item labels x tokens ls ms zs is ys None h g = stands.no_step h g
  one-item labels x tokens ls ms zs is ys (Some y) h g = stands.one_step h g

  abbrev items : List II → List Item
  items = map (λ (i : II). i.0)

  abbrev Rest : List Item → (List Item → Type 0)
  Rest is js = Stands (λ ls ys zs. StandsItems gs ls js ys zs) (λ all o x. (joined (each (map numbered_item is) all o x).0, (each (map numbered_item is) all o x).1))

  item-first : (labels : List Word) (x : TreeBasic) (tokens : List Word) (is : List Item) → PB x → Rest is is → Rest (item_of labels x tokens ∷ is) (item_of labels x tokens ∷ is)
  item-first labels x tokens is h rest = λ k r.
      let first = h k r in
      let m : Known = (numbered_basic x all o k).1 in
      let more = rest m first.1 in
      let whole : Threaded (List Stmt) → Type 0 = λ f. StandsItems gs k.slots (item_of labels x tokens ∷ is) ((f all o k).0 ++ joined (each (map numbered_item is) all o (f all o k).1).0) (each (map numbered_item is) all o (f all o k).1).1.slots × Ready gs start o (each (map numbered_item is) all o (f all o k).1).1 in
      subst whole (sym (item-is labels x tokens))
      (one-item labels x tokens k.slots m.slots (each (map numbered_item is) all o m).1.slots is (joined (each (map numbered_item is) all o m).0) (numbered_basic x all o k).0 first.0 more.0, more.1)

  items-stand : (is : List II) → Rest (items is) (items is)
  items-stand [] = λ x h. (stands.no_item, h)
  items-stand (i ∷ is) = subst (λ (j : Item). Rest (j ∷ items is) (j ∷ items is)) (sym i.1.3) (item-first i.1.0 i.1.1 i.1.2 (items is) i.1.4 (items-stand is))

  abbrev bare : Basic-F BB II SS → Basic-F TreeBasic Item TreeSeq
  bare = map-Basic BB II SS TreeBasic Item TreeSeq (λ e. e.0) (λ e. e.0) (λ e. e.0)

  -- a part that is made so
  put : (x : TreeBasic) (y : Basic-F TreeBasic Item TreeSeq) → roll-Basic y ≡ x → Stands (λ ls z zs. StandsBasic gs ls x z zs) (basic_layer (map-Basic TreeBasic Item TreeSeq B I S numbered_basic numbered_item numbered_seq y)) → PB (roll-Basic y)
  put x y is h = subst PB (sym is) (subst (Stands (λ ls z zs. StandsBasic gs ls x z zs)) (sym (basic-is x y is)) h)

  abbrev seqs : List SS → List TreeSeq
  seqs = map (λ (s : SS). s.0)

  basic-step : (y : Basic-F BB II SS) → PB (roll-Basic (bare y))
  basic-step (Basic-F.Declare vs) = put (form.Declare vs) (Basic-F.Declare vs) (form.rolls-Declare vs) λ x h. (stands.declare (variables-stand gs all start role.Variable o p vs x h), variables-ready gs all start role.Variable o p vs x h)
  basic-step (Basic-F.Exclusive rs) = put (form.Exclusive rs) (Basic-F.Exclusive rs) (form.rolls-Exclusive rs) λ x h. (stands.exclusive, h)
  basic-step (Basic-F.Plain a) = put (form.Plain a) (Basic-F.Plain a) (form.rolls-Plain a) λ x h. (stands.plain (action-stands gs x.slots (scope all x.names o) (sees-of gs all start role.Variable o x p h) (still-runs x h) a), h)
  basic-step (Basic-F.Goto l) = put (form.Goto l) (Basic-F.Goto l) (form.rolls-Goto l) λ x h. (stands.goto, h)
  basic-step Basic-F.Break = put form.Break Basic-F.Break form.rolls-Break λ x h. (stands.break, h)
  basic-step (Basic-F.If ss) = put (form.If (seqs ss)) (Basic-F.If (seqs ss)) (form.rolls-If (seqs ss)) λ x h. let q = options-stand ss x h in (stands.if_fi q.0, q.1)
  basic-step (Basic-F.Do ss) = put (form.Do (seqs ss)) (Basic-F.Do (seqs ss)) (form.rolls-Do (seqs ss)) λ x h. let q = options-stand ss x h in (stands.do_od q.0, q.1)
  basic-step (Basic-F.Block s) = put (form.Block s.0) (Basic-F.Block s.0) (form.rolls-Block s.0) λ x h. let q = s.1 x h in (stands.block q.0, q.1)
  basic-step (Basic-F.Atomic s) = put (form.Atomic s.0) (Basic-F.Atomic s.0) (form.rolls-Atomic s.0) λ x h. let q = s.1 x h in (stands.atomic q.0, q.1)
  basic-step (Basic-F.DStep s) = put (form.DStep s.0) (Basic-F.DStep s.0) (form.rolls-DStep s.0) λ x h. let q = s.1 x h in (stands.d_step q.0, q.1)
  basic-step (Basic-F.Unless s e) = put (form.Unless s.0 e.0) (Basic-F.Unless s.0 e.0) (form.rolls-Unless s.0 e.0) λ x h.
      let q = s.1 x h in
      let l = e.1 (numbered_seq s.0 all o x).1 q.1 in
      (stands.unless q.0 l.0, l.1)

  seq-step : (is : List II) → PS (seq_of (items is))
  seq-step is = subst (Stands (λ ls z zs. StandsSeq gs ls (seq_of (items is)) z zs)) (sym (seq-is (items is))) λ x h. let q = items-stand is x h in (stands.sequence q.0, q.1)

  basic-proof : (x : Basic-F TreeBasic Item TreeSeq) (y : Basic-F BB II SS) → bare y ≡ x → PB (roll-Basic x)
  basic-proof x y is = subst (λ z. PB (roll-Basic z)) is (basic-step y)

  item-proof : (x : Item-F TreeBasic Item TreeSeq) (y : Item-F BB II SS) → map-Item BB II SS TreeBasic Item TreeSeq (λ e. e.0) (λ e. e.0) (λ e. e.0) y ≡ x → PI (roll-Item x)
  item-proof x y is = subst (λ z. PI (roll-Item z)) is (y.labels, y.basic.0, y.tokens, refl, y.basic.1)

  seq-proof : (x : Seq-F TreeBasic Item TreeSeq) (y : Seq-F BB II SS) → map-Seq BB II SS TreeBasic Item TreeSeq (λ e. e.0) (λ e. e.0) (λ e. e.0) y ≡ x → PS (tree-Seq x)
  seq-proof x y is = subst (λ z. PS (tree-Seq z)) is (seq-step y.items)

  pub basic-stands : (x : TreeBasic) → PB x
  basic-stands = ind-Basic PB PI PS basic-proof item-proof seq-proof

  pub seq-stands : (s : TreeSeq) → PS s
  seq-stands = ind-Seq PB PI PS basic-proof item-proof seq-proof

  pub basic-ready : (x : TreeBasic) (k : Known) → Ready gs start o k → Ready gs start o (numbered_basic x all o k).1
  basic-ready x k h = (basic-stands x k h).1

  pub seq-ready : (s : TreeSeq) (k : Known) → Ready gs start o k → Ready gs start o (numbered_seq s all o k).1
  seq-ready s k h = (seq-stands s k h).1

  -- ---- nothing else does

  -- what a part stands for comes out, with the variables behind it
  pub record Is {A : Type 0} (y : A) (zs : List Slot) (made : A × Known) : Type 0 where
    pub part : y ≡ made.0
    pub slots : zs ≡ made.1.slots

  mutual
    only_basic : {ls zs : List Slot} {x : TreeBasic} {y : Option Basic} → StandsBasic gs ls x y zs → (k : Known) → k.slots ≡ ls → Ready gs start o k → Is y zs (numbered_basic x all o k)
    only_basic (stands.declare {zs} {vs} h) k is r =
        subst (λ (f : B). Is None zs (f all o k)) (sym (basic-is (form.Declare vs) (Basic-F.Declare vs) (form.rolls-Declare vs)))
        (record { part = refl; slots = only_variables gs all start role.Variable o p h k is r })
    only_basic (stands.exclusive {ls} {rs}) k is r =
        subst (λ (f : B). Is None ls (f all o k)) (sym (basic-is (form.Exclusive rs) (Basic-F.Exclusive rs) (form.rolls-Exclusive rs)))
        (record { part = refl; slots = sym is })
    only_basic (stands.plain {ls} {x} {y} h) k is r =
        subst (λ (f : B). Is (Some (b.Plain y)) ls (f all o k)) (sym (basic-is (form.Plain x) (Basic-F.Plain x) (form.rolls-Plain x)))
        (record { part = ap (λ a. Some (b.Plain a)) (only_action gs k.slots (scope all k.names o) (sees-of gs all start role.Variable o k p r) (still-runs k r) (rw (sym is) at h)); slots = sym is })
    only_basic (stands.goto {ls} {l}) k is r =
        subst (λ (f : B). Is (Some (b.Goto l)) ls (f all o k)) (sym (basic-is (form.Goto l) (Basic-F.Goto l) (form.rolls-Goto l))) (record { part = refl; slots = sym is })
    only_basic (stands.break {ls}) k is r =
        subst (λ (f : B). Is (Some b.Break) ls (f all o k)) (sym (basic-is form.Break Basic-F.Break form.rolls-Break)) (record { part = refl; slots = sym is })
    only_basic (stands.if_fi {zs} {ss} {xs} h) k is r =
        let q = only_options h k is r in
        subst (λ (f : B). Is (Some (b.If xs)) zs (f all o k)) (sym (basic-is (form.If ss) (Basic-F.If ss) (form.rolls-If ss))) (record { part = ap (λ ys. Some (b.If ys)) q.part; slots = q.slots })
    only_basic (stands.do_od {zs} {ss} {xs} h) k is r =
        let q = only_options h k is r in
        subst (λ (f : B). Is (Some (b.Do xs)) zs (f all o k)) (sym (basic-is (form.Do ss) (Basic-F.Do ss) (form.rolls-Do ss))) (record { part = ap (λ ys. Some (b.Do ys)) q.part; slots = q.slots })
    only_basic (stands.block {zs} {s} {x} h) k is r =
        let q = only_seq h k is r in
        subst (λ (f : B). Is (Some (b.Block x)) zs (f all o k)) (sym (basic-is (form.Block s) (Basic-F.Block s) (form.rolls-Block s))) (record { part = ap (λ y. Some (b.Block y)) q.part; slots = q.slots })
    only_basic (stands.atomic {zs} {s} {x} h) k is r =
        let q = only_seq h k is r in
        subst (λ (f : B). Is (Some (b.Atomic x)) zs (f all o k)) (sym (basic-is (form.Atomic s) (Basic-F.Atomic s) (form.rolls-Atomic s))) (record { part = ap (λ y. Some (b.Atomic y)) q.part; slots = q.slots })
    only_basic (stands.d_step {zs} {s} {x} h) k is r =
        let q = only_seq h k is r in
        subst (λ (f : B). Is (Some (b.DStep x)) zs (f all o k)) (sym (basic-is (form.DStep s) (Basic-F.DStep s) (form.rolls-DStep s))) (record { part = ap (λ y. Some (b.DStep y)) q.part; slots = q.slots })
    only_basic (stands.unless {zs} {s} {e} {x} {y} h g) k is r =
        let m : Known = (numbered_seq s all o k).1 in
        let q = only_seq h k is r in
        let l = only_seq g m (sym q.slots) (seq-ready s k r) in
        subst (λ (f : B). Is (Some (b.Unless x y)) zs (f all o k)) (sym (basic-is (form.Unless s e) (Basic-F.Unless s e) (form.rolls-Unless s e)))
        (record { part = ap (λ z. Some (b.Unless z y)) q.part ∙ ap (λ z. Some (b.Unless (numbered_seq s all o k).0 z)) l.part; slots = l.slots })

    only_items : {ls zs : List Slot} {is : List Item} {ys : List Stmt} → StandsItems gs ls is ys zs → (k : Known) → k.slots ≡ ls → Ready gs start o k
        → Is ys zs (joined (each (map numbered_item is) all o k).0, (each (map numbered_item is) all o k).1)
    only_items stands.no_item k is r = record { part = refl; slots = sym is }
    only_items (stands.no_step {zs} {labels} {tokens} {x} {is = more} {ys} h g) k is r =
        let q = only_basic h k is r in
        let l = only_items g (numbered_basic x all o k).1 (sym q.slots) (basic-ready x k r) in
        subst (λ (f : I). Is ys zs ((f all o k).0 ++ joined (each (map numbered_item more) all o (f all o k).1).0, (each (map numbered_item more) all o (f all o k).1).1)) (sym (item-is labels x tokens))
        (record { part = l.part ∙ ap (λ z. stmts labels z tokens ++ joined (each (map numbered_item more) all o (numbered_basic x all o k).1).0) q.part; slots = l.slots })
    only_items (stands.one_step {zs} {labels} {tokens} {x} {y} {is = more} {ys} h g) k is r =
        let q = only_basic h k is r in
        let l = only_items g (numbered_basic x all o k).1 (sym q.slots) (basic-ready x k r) in
        subst (λ (f : I). Is (stmt_of labels y tokens ∷ ys) zs ((f all o k).0 ++ joined (each (map numbered_item more) all o (f all o k).1).0, (each (map numbered_item more) all o (f all o k).1).1)) (sym (item-is labels x tokens))
        (record { part = ap (λ zs. stmt_of labels y tokens ∷ zs) l.part ∙ ap (λ z. stmts labels z tokens ++ joined (each (map numbered_item more) all o (numbered_basic x all o k).1).0) q.part; slots = l.slots })

    pub only_seq : {ls zs : List Slot} {s : TreeSeq} {y : Seq} → StandsSeq gs ls s y zs → (k : Known) → k.slots ≡ ls → Ready gs start o k → Is y zs (numbered_seq s all o k)
    only_seq (stands.sequence {zs} {is = more} {ys} h) k is r =
        let q = only_items h k is r in
        subst (λ (f : S). Is (steps_of ys) zs (f all o k)) (sym (seq-is more)) (record { part = ap steps_of q.part; slots = q.slots })

    only_options : {ls zs : List Slot} {ss : List TreeSeq} {xs : List Seq} → StandsOptions gs ls ss xs zs → (k : Known) → k.slots ≡ ls → Ready gs start o k → Is xs zs (each (map numbered_seq ss) all o k)
    only_options stands.no_option k is r = record { part = refl; slots = sym is }
    only_options (stands.option {s} {ss} {x} {xs} h g) k is r =
        let q = only_seq h k is r in
        let l = only_options g (numbered_seq s all o k).1 (sym q.slots) (seq-ready s k r) in
        record { part = ap (λ z. z ∷ xs) q.part ∙ ap (λ zs. (numbered_seq s all o k).0 ∷ zs) l.part; slots = l.slots }
