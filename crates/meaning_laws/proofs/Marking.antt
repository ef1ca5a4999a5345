-- The names of the whole text: what its marks declare globally is what its units do.
use Rattle.std.proofs.Common.{◌≡◌, ℕ, ◌+◌, ◌<◌, Bool, cond, List, [], ◌∷◌, ◌++◌, map, length, reverse, Option, Some, None, refl, ap, sym, subst, ◌∙◌, arith}
use Rattle.std.specs.Str.{bytes_eq}
use Rattle.pml_token.specs.Word.{Word}
use Rattle.pml_tree.specs.declared.tree.Variable.{Variable}
use Rattle.pml_tree.specs.declared.tree.Basic.{Basic, Basic-F, map-Basic, roll-Basic, fold-roll-Basic}
use Rattle.pml_tree.specs.declared.tree.Item.{Item, roll-Item, fold-roll-Item}
use Rattle.pml_tree.specs.declared.tree.Seq.{Seq, roll-Seq, fold-roll-Seq, ind-Seq}
use Rattle.pml_tree.specs.declared.tree.Unit.{Unit as Part}
use Rattle.pml_tree.specs.declared.tree.Unit.TheVariants as part
use Rattle.pml_tree.specs.declared.tree.Tree.{Tree}
use Rattle.promela_model.specs.Marks.{Marked, one_mark, all_marks, made_by, of_variable, of_variables, basic_layer, of_seq, of_starts, of_unit, of_units, of_tree, is_proctype}
use Rattle.check_uses.specs.Parts.{item_layer, seq_layer, of_basic, of_item, size_of, proctypes_past}
use Rattle.promela_model.specs.declared.mark.Mark.{Mark}
use Rattle.promela_model.specs.declared.mark.Role.{Role}
use Rattle.promela_model.specs.declared.mark.Role.TheVariants as role
use Rattle.promela_model.specs.declared.mark.Declared.{Declared}
use Rattle.promela_model.specs.declared.mark.Declared.TheVariants as declared_as
use Rattle.promela_model.specs.declared.mark.What.TheVariants as what
use Rattle.promela_model.specs.declared.thing.Thing.{Thing}
use Rattle.check_names.specs.Entry.{Entry, found}
use Rattle.check_names.specs.Env.{after, env, env_from, thing_of}
use Rattle.promela_model.specs.Stands.{has_name, declares, proctype_named}
use Rattle.meaning_laws.proofs.Words.{names_of}
use Rattle.meaning_laws.proofs.Growing.{found-other, after-new, after-old}
use Rattle.meaning_laws.proofs.Reading.{ReadsAll, or_process, after-read, constants-read, cond-or, name-reversed}
use Rattle.meaning_laws.proofs.Quiet.{env-append, IsQuiet, variable-declares, quiet-action, quiet-references, quiet-labels, quiet-begins, quiet-goto, quiet-break, quiet-unless, quiet-enter, quiet-leave}

-- ---- marks that declare nothing globally

record IsLocal (ms : List Mark) : Type 0 where
  still : (es : List Entry) (n : List ℕ) → found (env_from es ms) 0 n ≡ found es 0 n

join : {xs ys : List Mark} → IsLocal xs → IsLocal ys → IsLocal (xs ++ ys)
join {xs} {ys} h g = record { still = λ es n. ap (λ (fs : List Entry). found fs 0 n) (env-append es xs ys) ∙ g.still (env_from es xs) n ∙ h.still es n }

no_mark : IsLocal []
no_mark = record { still = λ es n. refl }

local : {ms : List Mark} → IsQuiet ms → IsLocal ms
local h = record { still = λ es n. ap (λ (fs : List Entry). found fs 0 n) (h.still es) }

local-after : (es : List Entry) (o : ℕ) → 0 < o → (w : Word) (d : Declared) (n : List ℕ) → found (after es o (what.Declares w d)) 0 n ≡ found es 0 n
local-after es o p w d n = go (found es o w.text) refl
  where
    go : (x : Option Thing) → found es o w.text ≡ x → found (after es o (what.Declares w d)) 0 n ≡ found es 0 n
    go (Some t) e = ap (λ (fs : List Entry). found fs 0 n) (after-old es o w d t e)
    go None e = ap (λ (fs : List Entry). found fs 0 n) (after-new es o w d e) ∙ found-other es 0 o w.text (thing_of es o d) n (λ q. omega (arith, p, q))

local-variable : (x : Role) (k : ℕ) → 0 < k → (v : Variable) (o : ℕ) → IsLocal (of_variable x k v o)
local-variable x k p v o = record { still = λ es n. ap (λ (fs : List Entry). found fs 0 n) (variable-declares x k v o es) ∙ local-after es k p v.name _ n }

local-variables : (x : Role) (k : ℕ) → 0 < k → (vs : List Variable) (o : ℕ) → IsLocal (of_variables x k vs o)
local-variables x k p [] o = no_mark
local-variables x k p (v ∷ vs) o = join (local-variable x k p v o) (local-variables x k p vs o)

abbrev Still : Marked → Type 0
Still f = (o : ℕ) → 0 < o → IsLocal (f o)

abbrev B : Type 0
B = (x : Basic) × Still (of_basic x)

abbrev I : Type 0
I = (x : Item) × Still (of_item x)

abbrev Q : Type 0
Q = (x : Seq) × Still (of_seq x)

local-seqs : (xs : List Q) → Still (all_marks (map of_seq (map (λ (x : Q). x.0) xs)))
local-seqs [] o p = no_mark
local-seqs (x ∷ xs) o p = join (x.1 o p) (local-seqs xs o p)

local-items : (xs : List I) → Still (all_marks (map of_item (map (λ (x : I). x.0) xs)))
local-items [] o p = no_mark
local-items (x ∷ xs) o p = join (x.1 o p) (local-items xs o p)

basic-step : (y : Basic-F B I Q) → Still (basic_layer (map-Basic Basic Item Seq Marked Marked Marked of_basic of_item of_seq (map-Basic B I Q Basic Item Seq (λ e. e.0) (λ e. e.0) (λ e. e.0) y)))
basic-step (Basic-F.Declare vs) o p = local-variables role.Variable o p vs o
basic-step (Basic-F.Exclusive rs) o p = local (quiet-references rs o)
basic-step (Basic-F.Plain a) o p = local (quiet-action a o)
basic-step (Basic-F.Goto l) o p = local (quiet-goto o l)
basic-step Basic-F.Break o p = local (quiet-break o)
basic-step (Basic-F.If xs) o p = local-seqs xs o p
basic-step (Basic-F.Do xs) o p = join (local (quiet-enter o _)) (join (local-seqs xs o p) (local (quiet-leave o)))
basic-step (Basic-F.Block x) o p = x.1 o p
basic-step (Basic-F.Atomic x) o p = x.1 o p
basic-step (Basic-F.DStep x) o p = join (local (quiet-enter o _)) (join (x.1 o p) (local (quiet-leave o)))
basic-step (Basic-F.Unless x y) o p = join (local (quiet-unless o)) (join (x.1 o p) (y.1 o p))

local-seq : (s : Seq) → Still (of_seq s)
local-seq = ind-Seq (λ x. Still (of_basic x)) (λ x. Still (of_item x)) (λ x. Still (of_seq x))
    (λ x y is. subst (λ z. Still (of_basic (roll-Basic z))) is (subst Still (sym (fold-roll-Basic Marked Marked Marked basic_layer item_layer seq_layer _)) (basic-step y)))
    (λ x y is. subst (λ z. Still (of_item (roll-Item z))) is (subst Still (sym (fold-roll-Item Marked Marked Marked basic_layer item_layer seq_layer _)) (λ o p. join (local (quiet-labels y.labels o)) (y.basic.1 o p))))
    (λ x y is. subst (λ z. Still (of_seq (roll-Seq z))) is (subst Still (sym (fold-roll-Seq Marked Marked Marked basic_layer item_layer seq_layer _)) (local-items y.items)))

-- ---- units

variable-read : (v : Variable) (es : List Entry) (n : List ℕ) (r : Option ℕ)
    → or_process (found (env_from es (of_variable role.Variable 0 v 0)) 0 n) r ≡ or_process (found es 0 n) (cond (bytes_eq n v.name.text) None r)
variable-read v es n r =
    ap (λ (gs : List Entry). or_process (found gs 0 n) r) (variable-declares role.Variable 0 v 0 es)
    ∙ after-read es v.name (declared_as.Variable role.Variable v.sort (size_of v.size) (made_by v.initial)) n r

variables-marked : (vs : List Variable) (es : List Entry) (n : List ℕ) (r : Option ℕ)
    → or_process (found (env_from es (of_variables role.Variable 0 vs 0)) 0 n) r ≡ or_process (found es 0 n) (cond (has_name (names_of vs) n) None r)
variables-marked [] es n r = refl
variables-marked (v ∷ vs) es n r =
    ap (λ (fs : List Entry). or_process (found fs 0 n) r) (env-append es (of_variable role.Variable 0 v 0) (of_variables role.Variable 0 vs 0))
    ∙ variables-marked vs (env_from es (of_variable role.Variable 0 v 0)) n r
    ∙ variable-read v es n (cond (has_name (names_of vs) n) None r)
    ∙ ap (or_process (found es 0 n)) (cond-or (bytes_eq n v.name.text) (has_name (names_of vs) n) r)

unit-marked : (o k : ℕ) → 0 < o → (u : Part) (es : List Entry) (n : List ℕ) (r : Option ℕ)
    → or_process (found (env_from es (of_unit o k u)) 0 n) r ≡ or_process (found es 0 n) (cond (declares u n) (cond (is_proctype u) (Some k) None) r)
unit-marked o k p (part.Variables vs) es n r = variables-marked vs es n r
unit-marked o k p (part.Constants ns) es n r =
    constants-read (reverse ns) es n r ∙ ap (λ (b : Bool). or_process (found es 0 n) (cond b None r)) (name-reversed ns n)
unit-marked o k p (part.Typedef t vs) es n r =
    let fs : List Entry = env_from es (of_variables role.Field o vs 0) in
    ap (λ (gs : List Entry). or_process (found gs 0 n) r) (env-append es (of_variables role.Field o vs 0) (one_mark (what.Declares t (declared_as.Typedef o)) 0))
    ∙ after-read fs t (declared_as.Typedef o) n r
    ∙ ap (λ (x : Option Thing). or_process x (cond (bytes_eq n t.text) None r)) ((local-variables role.Field o p vs 0).still es n)
unit-marked o k p (part.Proctype q) es n r =
    let d : Declared = declared_as.Proctype k (length q.parameters) in
    let rest : List Mark = of_starts q.starts o ++ (of_variables role.Variable o q.parameters o ++ of_seq q.body o) in
    let away : IsLocal rest = join (local (quiet-begins q.starts o)) (join (local-variables role.Variable o p q.parameters o) (local-seq q.body o p)) in
    ap (λ (x : Option Thing). or_process x r) (away.still (after es 0 (what.Declares q.name d)) n)
    ∙ after-read es q.name d n r

past-is : (k : ℕ) (u : Part) → proctypes_past k u ≡ cond (is_proctype u) (k + 1) k
past-is k (part.Variables vs) = refl
past-is k (part.Constants ns) = refl
past-is k (part.Typedef t vs) = refl
past-is k (part.Proctype q) = refl

units-marked : (us : List Part) (o k : ℕ) → 0 < o → (es : List Entry) (n : List ℕ) → or_process (found (env_from es (of_units o k us)) 0 n) None ≡ or_process (found es 0 n) (proctype_named k us n)
units-marked [] o k p es n = refl
units-marked (u ∷ us) o k p es n =
    let j : ℕ = proctypes_past k u in
    ap (λ (fs : List Entry). or_process (found fs 0 n) None) (env-append es (of_unit o k u) (of_units (o + 1) j us))
    ∙ units-marked us (o + 1) j (omega (arith, p)) (env_from es (of_unit o k u)) n
    ∙ unit-marked o k p u es n (proctype_named j us n)
    ∙ ap (λ (i : ℕ). or_process (found es 0 n) (cond (declares u n) (cond (is_proctype u) (Some k) None) (proctype_named i us n))) (past-is k u)

pub tree-marked : (t : Tree) → ReadsAll t.units (env (of_tree t))
unfolding env
tree-marked t n = units-marked t.units 1 0 (omega arith) [] n
