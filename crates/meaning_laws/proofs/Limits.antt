-- What the marks of a tree keep within the limits, the model that it stands for keeps: the cells of an owner, and the numbers of a channel.
use Rattle.std.proofs.Common.{◌≡◌, ℕ, suc, ◌+◌, ◌*◌, ◌≤◌, cond, List, [], ◌∷◌, ◌++◌, map, length, take, Option, Some, None, refl, ap, sym, subst, ◌∙◌, arith}
use Rattle.std.specs.Prelude.{slice_get}
use Rattle.std.specs.List.{AllByRecursion}
use Rattle.std.specs.Option.{is_some}
use Rattle.std.proofs.lemmas.List.{length-append, length-map}
use Rattle.profile.specs.declared.TheConstants.{MOST_CELLS}
use Rattle.pml_tree.specs.declared.tree.Sort.{Sort}
use Rattle.pml_tree.specs.declared.tree.Initial.{Initial as TreeInitial}
use Rattle.pml_tree.specs.declared.tree.Initial.TheVariants as begin
use Rattle.pml_tree.specs.declared.tree.Variable.{Variable}
use Rattle.pml_tree.specs.declared.tree.Basic.{Basic as TreeBasic, Basic-F, map-Basic, roll-Basic, fold-roll-Basic}
use Rattle.pml_tree.specs.declared.tree.Item.{Item, Item-F, map-Item, roll-Item, fold-roll-Item}
use Rattle.pml_tree.specs.declared.tree.Seq.{Seq as TreeSeq, Seq-F, map-Seq, roll-Seq, fold-roll-Seq, ind-Seq}
use Rattle.promela_model.specs.Marks as marked
use Rattle.promela_model.specs.Marks.{Marked, all_marks, of_seq, of_expr, of_sort, of_size, of_initial, of_variable, of_variables, one_mark}
use Rattle.check_uses.specs.Parts.{item_layer as marked_item, seq_layer as marked_seq, of_basic, of_item}
use Rattle.promela_model.specs.Stands.{cells_in_all}
use Rattle.promela_model.specs.declared.mark.Mark.{Mark}
use Rattle.promela_model.specs.declared.mark.Role.{Role}
use Rattle.promela_model.specs.declared.mark.Role.TheVariants as role
use Rattle.promela_model.specs.declared.mark.Declared.TheVariants as declared_as
use Rattle.promela_model.specs.declared.mark.What.{What}
use Rattle.promela_model.specs.declared.mark.What.TheVariants as what
use Rattle.promela_model.specs.declared.thing.Thing.{Thing}
use Rattle.check_names.specs.Entry.{Entry, entry, found}
use Rattle.check_names.specs.Env.{held, variables, after, env_from}
use Rattle.promela_model.specs.Names.{stride, user, constant, length_of}
use Rattle.pml_program.specs.declared.program.Initial.{Initial}
use Rattle.pml_program.specs.declared.program.Initial.TheVariants as i
use Rattle.pml_program.specs.declared.program.Slot.{Slot}
use Rattle.pml_program.specs.declared.program.Basic.{Basic}
use Rattle.pml_program.specs.declared.program.Stmt.{Stmt}
use Rattle.pml_program.specs.declared.program.Seq.{Seq}
use Rattle.check_resolve.specs.Numbered.{Scope}
use Rattle.check_resolve.specs.Statements as numbered
use Rattle.check_resolve.specs.Statements.{Threaded, each, numbered_basic, numbered_item, numbered_seq}
use Rattle.check_resolve.specs.Declarations.{Known, natural, plain, initial, declares, added_variable, with_variable, with_variables}
use Rattle.meaning_laws.proofs.Growing.{after-old, variables-own, held-own, cells-more}
use Rattle.meaning_laws.proofs.Quiet.{env-append, IsQuiet, quiet-sort, quiet-sized, quiet-initial, variable-declares, nothing, quiet-action, quiet-references, quiet-labels, quiet-goto, quiet-break, quiet-unless, quiet-enter, quiet-leave}
use Rattle.meaning_laws.proofs.Declaring.{new, new_thing, added-is}

-- ---- what is asked of marks

-- with what a mark declares, behind these names, its owner has few cells; and a channel holds few numbers
abbrev pub Few : List Entry → ℕ → What → Type 0
Few es o (what.Declares n (declared_as.Variable role.Variable s size makes)) = held es o + length_of size * stride (found es) o s ≤ MOST_CELLS
Few es o (what.Channel h c n) = natural c * n ≤ MOST_CELLS
Few es o _ = Unit {0}

-- so it is of each of these marks, the first behind these names
abbrev pub AllFew : List Entry → List Mark → Type 0
AllFew es [] = Unit {0}
AllFew es (m ∷ ms) = Few es m.owner m.what × AllFew (after es m.owner m.what) ms

-- it is so of each by its number
pub all-few : (es : List Entry) (ms : List Mark) → ((k : ℕ) (m : Mark) → slice_get ms k ≡ Some m → Few (env_from es (take k ms)) m.owner m.what) → AllFew es ms
all-few es [] h = tt
all-few es (m ∷ ms) h = (h 0 m refl, all-few (after es m.owner m.what) ms (λ k n e. h (suc k) n e))

pub few-first : (es : List Entry) (xs ys : List Mark) → AllFew es (xs ++ ys) → AllFew es xs
few-first es [] ys h = tt
few-first es (x ∷ xs) ys h = (h.0, few-first (after es x.owner x.what) xs ys h.1)

pub few-rest : (es : List Entry) (xs ys : List Mark) → AllFew es (xs ++ ys) → AllFew (env_from es xs) ys
few-rest es [] ys h = h
few-rest es (x ∷ xs) ys h = few-rest (after es x.owner x.what) xs ys h.1

-- ---- what is said of variables

-- how many numbers the messages of a channel may have that an initialiser makes
abbrev pub room : Initial → ℕ
room (i.Channel capacity types) = capacity * length types
room _ = 0

abbrev pub Rooms : List Slot → Type 0
Rooms = AllByRecursion (λ (s : Slot). room s.initial ≤ MOST_CELLS)

-- the cells of a typedef's fields are not asked
abbrev pub Cells : Role → List Slot → Type 0
Cells role.Variable ss = cells_in_all ss ≤ MOST_CELLS
Cells role.Field ss = Unit {0}

-- the names and the variables of the owner o have the same cells, and they are few
pub record Kept (x : Role) (o : ℕ) (k : Known) : Type 0 where
  pub count : variables k.names o ≡ length k.slots
  pub held : held k.names o ≡ cells_in_all k.slots
  pub cells : Cells x k.slots
  pub rooms : Rooms k.slots

-- behind these marks the names are those, and what is said of variables is so
pub record Gives (x : Role) (o : ℕ) (es : List Entry) (ms : List Mark) (k : Known) : Type 0 where
  pub names : k.names ≡ env_from es ms
  pub kept : Kept x o k

abbrev pub Leads : Role → ℕ → Known → List Mark → Known → Type 0
Leads x o k ms q = Kept x o k → AllFew k.names ms → Gives x o k.names ms q

pub quiet-leads : {x : Role} {o : ℕ} {ms : List Mark} → IsQuiet ms → (k : Known) → Leads x o k ms k
quiet-leads q k h f = record { names = sym (q.still k.names); kept = h }

pub both-lead : {x : Role} {o : ℕ} {k q r : Known} {xs ys : List Mark} → Leads x o k xs q → Leads x o q ys r → Leads x o k (xs ++ ys) r
both-lead {k} {xs} {ys} first rest h f =
    let a = first h (few-first k.names xs ys f) in
    let b = rest a.kept (subst (λ (es : List Entry). AllFew es ys) (sym a.names) (few-rest k.names xs ys f)) in
    record { names = b.names ∙ ap (λ (es : List Entry). env_from es ys) a.names ∙ sym (env-append k.names xs ys); kept = b.kept }

-- ---- variables

rooms-more : (ss : List Slot) (s : Slot) → Rooms ss → room s.initial ≤ MOST_CELLS → Rooms (ss ++ s ∷ [])
rooms-more [] s h g = (g, tt)
rooms-more (x ∷ ss) s h g = (h.0, rooms-more ss s h.1 g)

initial-few : (x : Role) (s : Sort) (t : Option TreeInitial) (u : ℕ) (es : List Entry) (sc : Scope) → AllFew es (of_initial x s t u) → room (initial t sc) ≤ MOST_CELLS
initial-few x s None u es sc h = omega arith
initial-few x s (Some (begin.Value e)) u es sc h = omega arith
initial-few role.Variable s (Some (begin.Channel e ts)) u es sc h =
    subst (λ (n : ℕ). natural (constant e) * n ≤ MOST_CELLS) (sym (length-map ts plain)) (few-rest es (of_expr e u) (one_mark _ u) h).0
initial-few role.Field s (Some (begin.Channel e ts)) u es sc h =
    subst (λ (n : ℕ). natural (constant e) * n ≤ MOST_CELLS) (sym (length-map ts plain)) (few-rest es (of_expr e u) (one_mark _ u) h).0

module _ (all : List Entry) (x : Role) (o : ℕ) where
  names-one : (v : Variable) (k : Known) → (with_variable all x o v k).names ≡ after k.names o (declares x v)
  names-one v k = go (found k.names o v.name.text) refl
    where
      go : (f : Option Thing) → found k.names o v.name.text ≡ f → (with_variable all x o v k).names ≡ after k.names o (declares x v)
      go (Some t) e = ap (λ (f : Option Thing). (cond (is_some f) k (added_variable all x o v k)).names) e ∙ sym (after-old k.names o v.name _ t e)
      go None e = ap (λ (f : Option Thing). (cond (is_some f) k (added_variable all x o v k)).names) e

  -- what the marks of a variable ask
  module _ (v : Variable) (es : List Entry) (f : AllFew es (of_variable x o v (user x o))) where
    abbrev u : ℕ
    u = user x o

    abbrev s : List Mark
    s = of_sort v.sort u

    abbrev z : List Mark
    z = of_size v.size u

    abbrev b : List Mark
    b = of_initial x v.sort v.initial u

    begins-few : (sc : Scope) → room (initial v.initial sc) ≤ MOST_CELLS
    begins-few sc =
        let f1 = few-rest es s (z ++ (b ++ one_mark (declares x v) o)) f in
        let f2 = few-rest (env_from es s) z (b ++ one_mark (declares x v) o) f1 in
        initial-few x v.sort v.initial u (env_from (env_from es s) z) sc (few-first (env_from (env_from es s) z) b (one_mark (declares x v) o) f2)

    variable-few : Few es o (declares x v)
    variable-few =
        let f1 = few-rest es s (z ++ (b ++ one_mark (declares x v) o)) f in
        let f2 = few-rest (env_from es s) z (b ++ one_mark (declares x v) o) f1 in
        let f3 = few-rest (env_from (env_from es s) z) b (one_mark (declares x v) o) f2 in
        subst (λ (fs : List Entry). Few fs o (declares x v))
        ((quiet-initial x v.sort v.initial u).still (env_from (env_from es s) z) ∙ (quiet-sized v.size u).still (env_from es s) ∙ (quiet-sort v.sort u).still es) f3.0

cells-few : (all : List Entry) (x : Role) (o : ℕ) (v : Variable) (k : Known) (none : found k.names o v.name.text ≡ None) (count : variables k.names o ≡ length k.slots)
    → held k.names o ≡ cells_in_all k.slots → Few k.names o (declares x v) → Cells x (k.slots ++ new all x o v k.names k.slots none count ∷ [])
cells-few all role.Variable o v k none count h f = omega (arith, h, f, cells-more k.slots (new all role.Variable o v k.names k.slots none count))
cells-few all role.Field o v k none count h f = tt

module _ (all : List Entry) (x : Role) (o : ℕ) where
  variable-leads : (v : Variable) (k : Known) → Leads x o k (of_variable x o v (user x o)) (with_variable all x o v k)
  variable-leads v k h f = record {
    names = names-one all x o v k ∙ sym (variable-declares x o v (user x o) k.names);
    kept = go (found k.names o v.name.text) refl;
  }
    where
      go : (y : Option Thing) → found k.names o v.name.text ≡ y → Kept x o (with_variable all x o v k)
      go (Some t) e = subst (Kept x o) (sym (ap (λ (y : Option Thing). cond (is_some y) k (added_variable all x o v k)) e)) h
      go None e =
          let s : Slot = new all x o v k.names k.slots e h.count in
          let is = ap (λ (y : Option Thing). cond (is_some y) k (added_variable all x o v k)) e ∙ added-is all x o v k.names k.slots e h.count in
          let one_more : Entry = entry o v.name.text (new_thing all x o v k.names k.slots e h.count) in
          subst (Kept x o) (sym is) (record {
            count = omega (arith, variables-own k.names one_more, h.count, length-append k.slots (s ∷ []));
            held = omega (arith, held-own k.names one_more, h.held, cells-more k.slots s);
            cells = cells-few all x o v k e h.count h.held (variable-few all x o v k.names f);
            rooms = rooms-more k.slots s h.rooms (begins-few all x o v k.names f _);
          })

  pub variables-lead : (vs : List Variable) (k : Known) → Leads x o k (of_variables x o vs (user x o)) (with_variables all x o vs k)
  variables-lead [] k = quiet-leads nothing k
  variables-lead (v ∷ vs) k =
      both-lead (variable-leads v k) (variables-lead vs (with_variable all x o v k))

-- ---- bodies

module _ (all : List Entry) (o : ℕ) where
  -- what a part's marks leave known is what is known behind the part
  abbrev pub Follows : {A : Type 0} → Threaded A → Marked → Type 0
  Follows f m = (k : Known) → Leads role.Variable o k (m o) (f all o k).1

  abbrev PB : TreeBasic → Type 0
  PB x = Follows (numbered_basic x) (of_basic x)

  abbrev PI : Item → Type 0
  PI x = Follows (numbered_item x) (of_item x)

  abbrev pub PS : TreeSeq → Type 0
  PS x = Follows (numbered_seq x) (of_seq x)

  abbrev BB : Type 0
  BB = (x : TreeBasic) × PB x

  abbrev II : Type 0
  II = (x : Item) × PI x

  abbrev SS : Type 0
  SS = (x : TreeSeq) × PS x

  abbrev items : List II → List Item
  items = map (λ (x : II). x.0)

  abbrev seqs : List SS → List TreeSeq
  seqs = map (λ (x : SS). x.0)

  seqs-follow : (xs : List SS) → Follows (each (map numbered_seq (seqs xs))) (all_marks (map of_seq (seqs xs)))
  seqs-follow [] k = quiet-leads nothing k
  seqs-follow (x ∷ xs) k = both-lead (x.1 k) (seqs-follow xs (numbered_seq x.0 all o k).1)

  items-follow : (xs : List II) → Follows (each (map numbered_item (items xs))) (all_marks (map of_item (items xs)))
  items-follow [] k = quiet-leads nothing k
  items-follow (x ∷ xs) k = both-lead (x.1 k) (items-follow xs (numbered_item x.0 all o k).1)

  abbrev bare : Basic-F BB II SS → Basic-F TreeBasic Item TreeSeq
  bare = map-Basic BB II SS TreeBasic Item TreeSeq (λ e. e.0) (λ e. e.0) (λ e. e.0)

  abbrev numbered_bare : Basic-F BB II SS → Threaded (Option Basic)
  numbered_bare y = numbered.basic_layer (map-Basic TreeBasic Item TreeSeq (Threaded (Option Basic)) (Threaded (List Stmt)) (Threaded Seq) numbered_basic numbered_item numbered_seq (bare y))

  abbrev marked_bare : Basic-F BB II SS → Marked
  marked_bare y = marked.basic_layer (map-Basic TreeBasic Item TreeSeq Marked Marked Marked of_basic of_item of_seq (bare y))

  basic-step : (y : Basic-F BB II SS) → Follows (numbered_bare y) (marked_bare y)
  basic-step (Basic-F.Declare vs) k = variables-lead all role.Variable o vs k
  basic-step (Basic-F.Exclusive rs) k = quiet-leads (quiet-references rs o) k
  basic-step (Basic-F.Plain a) k = quiet-leads (quiet-action a o) k
  basic-step (Basic-F.Goto l) k = quiet-leads (quiet-goto o l) k
  basic-step Basic-F.Break k = quiet-leads (quiet-break o) k
  basic-step (Basic-F.If xs) k = seqs-follow xs k
  basic-step (Basic-F.Do xs) k =
      both-lead (quiet-leads (quiet-enter o _) k) (both-lead (seqs-follow xs k) (quiet-leads (quiet-leave o) (each (map numbered_seq (seqs xs)) all o k).1))
  basic-step (Basic-F.Block x) k = x.1 k
  basic-step (Basic-F.Atomic x) k = x.1 k
  basic-step (Basic-F.DStep x) k =
      both-lead (quiet-leads (quiet-enter o _) k) (both-lead (x.1 k) (quiet-leads (quiet-leave o) (numbered_seq x.0 all o k).1))
  basic-step (Basic-F.Unless x y) k =
      both-lead (quiet-leads (quiet-unless o) k) (both-lead (x.1 k) (y.1 (numbered_seq x.0 all o k).1))

  item-step : (y : Item-F BB II SS) → Follows (numbered.item_layer (record { labels = y.labels; basic = numbered_basic y.basic.0; tokens = y.tokens })) (marked_item (record { labels = y.labels; basic = of_basic y.basic.0; tokens = y.tokens }))
  item-step y k = both-lead (quiet-leads (quiet-labels y.labels o) k) (y.basic.1 k)

  basic-proof : (x : Basic-F TreeBasic Item TreeSeq) (y : Basic-F BB II SS) → bare y ≡ x → PB (roll-Basic x)
  basic-proof x y is = subst (λ z. PB (roll-Basic z)) is (
      subst (λ (f : Threaded (Option Basic)). Follows f (of_basic (roll-Basic (bare y)))) (sym (fold-roll-Basic (Threaded (Option Basic)) (Threaded (List Stmt)) (Threaded Seq) numbered.basic_layer numbered.item_layer numbered.seq_layer (bare y)))
      (subst (Follows (numbered_bare y)) (sym (fold-roll-Basic Marked Marked Marked marked.basic_layer marked_item marked_seq (bare y))) (basic-step y)))

  item-proof : (x : Item-F TreeBasic Item TreeSeq) (y : Item-F BB II SS) → map-Item BB II SS TreeBasic Item TreeSeq (λ e. e.0) (λ e. e.0) (λ e. e.0) y ≡ x → PI (roll-Item x)
  item-proof x y is =
      let z : Item-F TreeBasic Item TreeSeq = record { labels = y.labels; basic = y.basic.0; tokens = y.tokens } in
      let f : Threaded (List Stmt) = numbered.item_layer (record { labels = y.labels; basic = numbered_basic y.basic.0; tokens = y.tokens }) in
      subst (λ z. PI (roll-Item z)) is (
      subst (λ (g : Threaded (List Stmt)). Follows g (of_item (roll-Item z))) (sym (fold-roll-Item (Threaded (Option Basic)) (Threaded (List Stmt)) (Threaded Seq) numbered.basic_layer numbered.item_layer numbered.seq_layer z))
      (subst (Follows f) (sym (fold-roll-Item Marked Marked Marked marked.basic_layer marked_item marked_seq z)) (item-step y)))

  seq-proof : (x : Seq-F TreeBasic Item TreeSeq) (y : Seq-F BB II SS) → map-Seq BB II SS TreeBasic Item TreeSeq (λ e. e.0) (λ e. e.0) (λ e. e.0) y ≡ x → PS (roll-Seq x)
  seq-proof x y is =
      let z : Seq-F TreeBasic Item TreeSeq = record { items = items y.items } in
      let f : Threaded Seq = numbered.seq_layer (record { items = map numbered_item (items y.items) }) in
      subst (λ z. PS (roll-Seq z)) is (
      subst (λ (g : Threaded Seq). Follows g (of_seq (roll-Seq z))) (sym (fold-roll-Seq (Threaded (Option Basic)) (Threaded (List Stmt)) (Threaded Seq) numbered.basic_layer numbered.item_layer numbered.seq_layer z))
      (subst (Follows f) (sym (fold-roll-Seq Marked Marked Marked marked.basic_layer marked_item marked_seq z)) (items-follow y.items)))

  pub seq-leads : (s : TreeSeq) → PS s
  seq-leads = ind-Seq PB PI PS basic-proof item-proof seq-proof
