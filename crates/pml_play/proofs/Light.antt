-- The bodies of a text's model weigh little.
use Rattle.std.proofs.Common.{ℕ, ◌+◌, ◌*◌, ◌≤◌, Bool, List, ◌∷◌, length, map, sym, subst, arith}
use Rattle.std.specs.List.{AllByRecursion}
use Rattle.pml_token.specs.Word.{Word}
use Rattle.pml_tree.specs.declared.tree.Item.{Item}
use Rattle.pml_tree.specs.declared.tree.Variable.{Variable}
use Rattle.pml_tree.specs.declared.tree.Starts.{Starts}
use Rattle.pml_tree.specs.declared.tree.Unit.{Unit as Part}
use Rattle.pml_tree.specs.declared.tree.Tree.{Tree}
use Rattle.promela_grammar.specs.Expressions.{SpellsList}
use Rattle.pml_expression.proofs.Kept.{Leads, here, past, ◌then◌, step, expr_leads, list_leads}
use Rattle.promela_grammar.specs.declared.opener.Opener.{Opener}
use Rattle.promela_grammar.specs.Actions as grammar
use Rattle.promela_grammar.specs.Models as loops
use Rattle.promela_grammar.specs.Actions.{SpellsName, seq_of}
use Rattle.promela_grammar.specs.Models.{SpellsBody, SpellsParameter, SpellsMoreParameters, SpellsParameters, SpellsStarts, SpellsSemicolons, SpellsMembers, SpellsUnit, SpellsUnits, Spells}
use Rattle.pml_syntax.proofs.Kept.{visibility_leads, opener_leads, declaration_leads, items_lead}
use Rattle.pml_program.specs.declared.program.Fields.{Fields}
use Rattle.pml_program.specs.declared.program.Proctype.{Proctype}
use Rattle.pml_program.specs.declared.program.Program.{Program}
use Rattle.promela_model.specs.Stands.{Globals}
use Rattle.promela_model.specs.StandsModel as stands
use Rattle.promela_model.specs.StandsModel.{StandsUnits, StandsModel}
use Rattle.promela_run.specs.World.{Running}
use Rattle.pml_sim.proofs.Crowding.{IsLightProctype, IsLightState}
use Rattle.pml_sim.proofs.Short.{most, first_is_light}
use Rattle.pml_play.proofs.Measured.{total, tree_item, tree_seq, seq-is, seq_weighs}
use Rattle.pml_play.proofs.Spelled.{AreLined, lined_behind, no_more, items_fit}
use Rattle.pml_play.proofs.Tokens.{few_tokens, few_lines}
use Rattle.pml_play.specs.Transcript.{IsModel}

-- ---- what the units of a text take

parameter_leads : {f : Opener} {v : Variable} {from to : List Word} → SpellsParameter f v from to → Leads from to
parameter_leads (loops.plain_parameter _) = past here
parameter_leads (loops.packed_parameter _ _ _) = past (past (past here))

more_lead : {f : Opener} {vs : List Variable} {from to : List Word} → SpellsMoreParameters f vs from to → Leads from to
more_lead loops.no_more_parameters = here
more_lead (loops.same_type _ v vs) = past (parameter_leads v then more_lead vs)
more_lead (loops.comma_parameter _ s f v vs) = past (visibility_leads s then opener_leads f then parameter_leads v then more_lead vs)
more_lead (loops.semicolon_parameter _ s f v vs) = past (visibility_leads s then opener_leads f then parameter_leads v then more_lead vs)

parameters_lead : {vs : List Variable} {from to : List Word} → SpellsParameters vs from to → Leads from to
parameters_lead loops.no_parameters = here
parameters_lead (loops.parameters s f v vs) = visibility_leads s then opener_leads f then parameter_leads v then more_lead vs

starts_leads : {s : Starts} {from to : List Word} → SpellsStarts s from to → Leads from to
starts_leads loops.never = here
starts_leads (loops.once _) = past here
starts_leads (loops.times _ _ x _) = past (past (step (expr_leads x)))

semicolons_lead : {from to : List Word} → SpellsSemicolons from to → Leads from to
semicolons_lead loops.no_semicolon = here
semicolons_lead (loops.one_semicolon _ s) = past (semicolons_lead s)

members_lead : {vs : List Variable} {from to : List Word} → SpellsMembers vs from to → Leads from to
members_lead (loops.last_members d s) = declaration_leads d then semicolons_lead s
members_lead (loops.more_members d _ s m) = step (declaration_leads d) then semicolons_lead s then members_lead m

name_leads : (n : Word) (from to : List Word) → SpellsName n from to → Leads from to
name_leads n from to (grammar.name _) = past here

names_lead : {ns from to : List Word} → SpellsList SpellsName ns from to → Leads from to
names_lead ns = list_leads name_leads ns

body_leads : {xs : List Item} {from to : List Word} → SpellsBody xs from to → Leads from to
body_leads loops.no_item = here
body_leads (loops.some_items is) = items_lead is

unit_leads : {x : Part} {from to : List Word} → SpellsUnit x from to → Leads from to
unit_leads (loops.variables d) = declaration_leads d
unit_leads (loops.constants _ _ ns _) = past (past (step (names_lead ns)))
unit_leads (loops.equal_constants _ _ _ ns _) = past (past (past (step (names_lead ns))))
unit_leads (loops.typedef _ _ _ vs _) = past (past (past (step (members_lead vs))))
unit_leads (loops.proctype s _ _ _ vs _ _ xs _) = step (step (step (starts_leads s))) then step (step (parameters_lead vs)) then step (body_leads xs)
unit_leads (loops.init _ _ xs _) = past (past (step (body_leads xs)))

-- ---- what they weigh

-- a proctype's body, with the line of its closing brace
abbrev IsLightPart : Part → Type 0
IsLightPart (Part.Proctype p) = tree_seq p.body + p.end.line ≤ most
IsLightPart (Part.Variables vs) = Unit {0}
IsLightPart (Part.Constants ns) = Unit {0}
IsLightPart (Part.Typedef t vs) = Unit {0}

body_fits : {xs : List Item} {from to : List Word} → SpellsBody xs from to → AreLined from → total (map tree_item xs) + 100000000 * length to ≤ 100000000 * length from
body_fits loops.no_item h = omega arith
body_fits (loops.some_items is) h = items_fit is h

light_body : {xs : List Item} {z : Word} {from to : List Word} → SpellsBody xs from (z ∷ to) → AreLined from → length from ≤ 1300000 → tree_seq (seq_of xs) + z.line ≤ most
light_body {xs} s h few = let l = (lined_behind (body_leads s) h).0 in omega (arith, seq-is xs, body_fits s h, few, l)

unit_light : {x : Part} {from to : List Word} → SpellsUnit x from to → AreLined from → length from ≤ 1300000 → IsLightPart x
unit_light (loops.variables d) h few = tt
unit_light (loops.constants _ _ ns _) h few = tt
unit_light (loops.equal_constants _ _ _ ns _) h few = tt
unit_light (loops.typedef _ _ _ vs _) h few = tt
unit_light (loops.proctype s _ _ _ vs _ _ xs _) h few =
    let l = step (step (step (starts_leads s))) then step (step (parameters_lead vs)) in
    let fewer = no_more l in
    light_body xs (lined_behind l h) (omega (arith, fewer, few))
unit_light (loops.init _ _ xs _) h few = light_body xs h.1.1 (omega (arith, few))

units_light : {us : List Part} {from : List Word} → SpellsUnits us from → AreLined from → length from ≤ 1300000 → AllByRecursion IsLightPart us
units_light loops.no_unit h few = tt
units_light (loops.semicolon _ us) h few = units_light us h.1 (omega (arith, few))
units_light (loops.unit x us) h few =
    let l = unit_leads x in
    let fewer = no_more l in
    (unit_light x h few, units_light us (lined_behind l h) (omega (arith, fewer, few)))

-- ---- and what they stand for

proctypes_light : {o : ℕ} {gs zs : Globals} {us : List Part} {cs : List Word} {ts : List Fields} {ps : List Proctype} → StandsUnits o gs us zs cs ts ps → AllByRecursion IsLightPart us → AllByRecursion (IsLightProctype most) ps
proctypes_light stands.no_unit h = tt
proctypes_light (stands.variables vs us) h = proctypes_light us h.1
proctypes_light (stands.constants us) h = proctypes_light us h.1
proctypes_light (stands.typedef vs us) h = proctypes_light us h.1
proctypes_light (stands.proctype {gs} vs x us) h = (let w = seq_weighs _ x in let l = h.0 in omega (arith, w, l), proctypes_light us h.1)

program_light : {t : Tree} {p : Program} → StandsModel t p → AllByRecursion IsLightPart t.units → AllByRecursion (IsLightProctype most) p.proctypes
program_light (stands.model us) h = proctypes_light us h

tree_light : {t : Tree} {from : List Word} → Spells t from → AreLined from → length from ≤ 1300000 → AllByRecursion IsLightPart t.units
tree_light (loops.model us) h few = units_light us h few

model_light : {t : Tree} {p : Program} {ws : List Word} → Spells t ws → StandsModel t p → AreLined ws → length ws ≤ 1300000 → AllByRecursion (IsLightProctype most) p.proctypes
model_light s m h few = program_light m (tree_light s h few)

-- the first state of a text's model is light
pub text_light : (text : List ℕ) (lossy : Bool) (state : Running) → IsModel text lossy state → IsLightState most state.state
text_light text lossy state is =
    let from = is.is_spelled.are_expanded in
    let few = few_tokens text from.tokens is.is_spelled.expanded from.are_tokens from.is_expanded.expands in
    let lined = few_lines text from.tokens is.is_spelled.expanded from.are_tokens from.is_expanded.expands in
    let bodies = model_light is.is_spelled.spells is.stands lined few in
    subst (λ (w : Running). IsLightState most w.state) (sym is.is) (first_is_light is.program is.begun lossy bodies is.starts)
