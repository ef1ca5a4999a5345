-- What is known before a token, and what is written there.
use Rattle.std.specs.Prelude.{ℕ, ◌+◌, ◌-◌, Bool, true, false, not, ◌&&◌, ◌||◌, ◌==◌, nat_lt, if◌then◌else◌, List, []}
use lib.Chars.{codes}
use Rattle.prepare.specs.declared.context.TheConstants.{MOST_DEPTH}
use Rattle.prepare.specs.declared.roles.TokenRole.{TokenRole}
use Rattle.prepare.specs.declared.roles.TokenRole.TheVariants as role
use Rattle.prepare.specs.declared.context.LastToken.{LastToken}
use Rattle.prepare.specs.declared.context.LastToken.TheVariants as last
use Rattle.prepare.specs.declared.context.Code.{Code}
use Rattle.prepare.specs.declared.context.BlankedBlock.{BlankedBlock}
use Rattle.prepare.specs.declared.context.BlankedBlock.TheVariants as block
use Rattle.prepare.specs.declared.context.Context.{Context}
use Rattle.prepare.specs.declared.context.Supply.{Supply}
use Rattle.prepare.specs.declared.context.Supply.TheVariants as as_supply
use Rattle.prepare.specs.Roles.{begins}

abbrev pub deeper : ℕ → ℕ
deeper n = if nat_lt n MOST_DEPTH then n + 1 else n

abbrev pub is_assigned : LastToken → Bool
is_assigned last.Assigned = true
is_assigned _ = false

abbrev pub is_typed : LastToken → Bool
is_typed last.Typed = true
is_typed _ = false

-- behind `{`: what stands in braces behind `=` is a list
abbrev pub opened : Code → Code
opened c =
    record {
      braces = deeper c.braces;
      brackets = c.brackets;
      is_list = c.is_list || is_assigned c.last;
      is_fields = c.is_fields;
      is_head = false;
      last = last.Open;
    }

-- behind `}`, which ends a field where it stands within a typedef: one of a channel
abbrev pub closed : Code → Code
closed c =
    let within = nat_lt 1 c.braces in
    record {
      braces = c.braces - 1;
      brackets = c.brackets;
      is_list = c.is_list && within;
      is_fields = c.is_fields && within;
      is_head = c.is_head;
      last = if c.is_fields && within then last.Ended else last.Open;
    }

-- behind `(` or `[`
abbrev pub entered : Code → Code
entered c = record c { brackets = deeper c.brackets; last = last.Open }

-- behind `)` or `]`: that of a `for` ends no statement
abbrev pub left : Code → Code
left c = record c { brackets = c.brackets - 1; last = if c.is_head && nat_lt c.brackets 2 then last.Open else last.Ended }

-- behind `=`
abbrev pub assigned : Code → Code
assigned c = record c { last = if is_typed c.last then last.Open else last.Assigned }

-- behind a colon: that of a subtype belongs to its `mtype`
abbrev pub labelled : Code → Code
labelled c = record c { last = if is_typed c.last then last.Subtyped else last.Labelled }

abbrev pub is_subtyped : LastToken → Bool
is_subtyped last.Subtyped = true
is_subtyped _ = false

-- behind a name: that of a subtype is a type, as `mtype` is
abbrev pub named : Code → Code
named c = record c { last = if is_subtyped c.last then last.Typed else last.Ended }

-- behind a token of the code
abbrev pub code_behind : Code → TokenRole → Code
code_behind c role.Opens = opened c
code_behind c role.Closes = closed c
code_behind c role.Enters = entered c
code_behind c role.Indexes = entered c
code_behind c role.Leaves = left c
code_behind c role.Assigns = assigned c
code_behind c role.Labels = labelled c
code_behind c role.Typedef = record c { is_fields = true; last = last.Open }
code_behind c role.For = record c { is_head = true; last = last.Open }
code_behind c role.Mtype = record c { last = last.Typed }
code_behind c role.Names = named c
code_behind c role.Both = record c { last = last.Ended }
code_behind c role.Ends = record c { last = last.Ended }
code_behind c _ = record c { last = last.Open }

abbrev pub is_head_word : TokenRole → Bool
is_head_word role.Heads = true
is_head_word _ = false

abbrev pub leads_in : TokenRole → Bool
leads_in role.Heads = true
leads_in role.Names = true
leads_in role.Opens = true
leads_in _ = false

-- whether a token belongs to a block: the word that heads it, a name behind that, and all from `{` to its `}`
abbrev pub is_blanked : BlankedBlock → TokenRole → Bool
is_blanked block.Outside r = is_head_word r
is_blanked block.Ahead r = leads_in r
is_blanked (block.Within n) r = true

abbrev pub behind_outside : TokenRole → BlankedBlock
behind_outside role.Heads = block.Ahead
behind_outside _ = block.Outside

abbrev pub behind_word : TokenRole → BlankedBlock
behind_word role.Heads = block.Ahead
behind_word role.Names = block.Ahead
behind_word role.Opens = block.Within 1
behind_word _ = block.Outside

abbrev pub behind_within : ℕ → TokenRole → BlankedBlock
behind_within n role.Opens = block.Within (deeper n)
behind_within n role.Closes = if nat_lt 1 n then block.Within (n - 1) else block.Outside
behind_within n _ = block.Within n

abbrev pub block_behind : BlankedBlock → TokenRole → BlankedBlock
block_behind block.Outside r = behind_outside r
block_behind block.Ahead r = behind_word r
block_behind (block.Within n) r = behind_within n r

abbrev pub start : Context
start = record { code = record { braces = 0; brackets = 0; is_list = false; is_fields = false; is_head = false; last = last.Open }; block = block.Outside }

-- behind a token
abbrev pub behind : Context → TokenRole → Context
behind p r = record { code = if is_blanked p.block r then p.code else code_behind p.code r; block = block_behind p.block r }

-- within braces that hold statements, and within no other brackets
abbrev pub has_statements : Code → Bool
has_statements c = nat_lt 0 c.braces && (c.brackets == 0 && not c.is_list)

abbrev pub skip_before : TokenRole → Supply
skip_before role.Closes = as_supply.Skip
skip_before role.Parts = as_supply.Skip
skip_before _ = as_supply.Nothing

abbrev pub supply_behind : LastToken → Bool → TokenRole → Supply
supply_behind last.Labelled b r = skip_before r
supply_behind last.Ended b r = if b then as_supply.Separator else as_supply.Nothing
supply_behind _ b r = as_supply.Nothing

-- what is written behind the last token and before one of role r: `;` where a line ends between them, the last one ends a statement and r
-- begins one; `skip` between a label and `}`, `fi`, `od` or `::`
abbrev pub supply : Code → Bool → TokenRole → Supply
supply c is_over r = supply_behind c.last (is_over && (begins r && has_statements c)) r

-- the bytes that are written
abbrev pub written : Supply → List ℕ
written as_supply.Nothing = []
written as_supply.Separator = codes ";"
written as_supply.Skip = codes " skip"
