-- The arguments of the command line of `spinview`, as what `clap` reads of them.
use Rattle.std.specs.Prelude.{◌≡◌, ℕ, Some, List, [], codes, map, pos, true, false}
use Rattle.clap.specs.Words.{App, IsPlainArg, Rule, Text, app_of, args_of, groups_of, new_app, new_rule, rule_of}
use Rattle.clap.specs.declared.builder.arg.Arg.{Arg}
use Rattle.clap.specs.declared.builder.command.Command.{Command}
use Rattle.clap.specs.declared.builder.action.ArgAction.TheVariants.{Set, Append, Count}
use Rattle.clap.specs.declared.builder.value_parser.ValueParser.TheVariants as vp

-- a flag, whose uses are counted
abbrev pub counted_letter : Text → ℕ → Rule
counted_letter id letter = record (new_rule id) { short = Some letter; action = Some Count }

-- the same of a whole word
abbrev pub counted_word : Text → Rule
counted_word id = record (new_rule id) { long = Some id; action = Some Count }

-- `-D NAME` and `-I FOLDER`, whose uses are kept in turn
abbrev pub appended_letter : Text → ℕ → Rule
appended_letter id letter = record (new_rule id) { short = Some letter; action = Some Append; value_names = 1 }

-- a word with a file or a name behind it
abbrev pub file_rule : Text → Rule
file_rule id = record (new_rule id) { long = Some id; action = Some Set; value_names = 1 }

-- a word with a number of 32 bits behind it
abbrev pub number_rule : Text → Rule
number_rule id = record (file_rule id) { parser = Some (vp.Signed (pos 0) (pos 4294967295)) }

-- `-uN`, a number of 32 bits
abbrev pub limit_rule : Rule
limit_rule = record (new_rule (codes "u")) {
  short = Some 117;
  action = Some Set;
  value_names = 1;
  parser = Some (vp.Signed (pos 0) (pos 4294967295));
}

-- `MODEL`, which must be there
abbrev pub model_rule : Rule
model_rule = record (new_rule (codes "MODEL")) { action = Some Set; required = true }

-- the argument excludes no other, belongs to this command alone and has this id
abbrev pub IsArgument : Text → Arg → Type 0
IsArgument id a = IsPlainArg a × (a.global ≡ false) × (a.id.now ≡ id)

-- the argument is read so, and excludes those with these ids
abbrev pub IsApart : Rule → List Text → Arg → Type 0
IsApart rule ids a = ((rule_of a).id ≡ rule.id) × ((rule_of a).long ≡ rule.long) × ((rule_of a).action ≡ rule.action)
    × ((rule_of a).parser ≡ rule.parser) × (map (λ id. id.now) a.conflicts.items ≡ ids)

-- the program, which has a version, and no argument yet
abbrev pub named : App
named = record { top = record ((new_app (codes "spinview")).top) { has_version = true }; subs = [] }

abbrev pub IsNamed : Command → Type 0
IsNamed c = (app_of c ≡ named) × (args_of c ≡ []) × (groups_of c ≡ [])
