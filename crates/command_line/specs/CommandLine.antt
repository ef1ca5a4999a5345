-- The command line of `spinplay`, as what `clap` reads of it.
use Rattle.std.specs.Prelude.{◌≡◌, ℕ, Some, List, [], ◌∷◌, codes, map, pos, true, false, All}
use Rattle.std.specs.List.{slice_index_or}
use Rattle.clap.specs.Built.{TakesValue}
use Rattle.clap.specs.Words.{AddsArg, AddsInTurn, App, IsPlainArg, Rule, Text, app_of, args_of}
use Rattle.clap.specs.Words.{groups_of, new_app, new_rule, with_rule}
use Rattle.clap.specs.declared.builder.arg.Arg.{Arg}
use Rattle.clap.specs.declared.builder.command.Command.{Command}
use Rattle.clap.specs.declared.builder.command.Command.TheViews.{out-Command as fields_of}
use Rattle.clap.specs.declared.builder.action.ArgAction.TheVariants.{Set, Append, Count}
use Rattle.clap.specs.declared.builder.value_parser.ValueParser.TheVariants as vp

-- a flag, whose uses are counted
abbrev pub counted_letter : Text → ℕ → Rule
counted_letter id letter = record (new_rule id) { short = Some letter; action = Some Count }

-- the same of a whole word
abbrev pub counted_word : Text → Rule
counted_word id = record (new_rule id) { long = Some id; action = Some Count }

-- `-D NAME` and `-I FOLDER`, whose uses are kept in turn
abbrev pub appended_letter : Text → ℕ → Rule
appended_letter id letter = record (new_rule id) { short = Some letter; action = Some Append; value_names = 1 }

-- `-uN`, a number of 32 bits
abbrev pub limit_rule : Rule
limit_rule = record (new_rule (codes "u")) {
  short = Some 117;
  action = Some Set;
  value_names = 1;
  parser = Some (vp.Signed (pos 0) (pos 4294967295));
}

-- `--choices FILE`, `--record FILE`, `--name NAME`, `--source FILE` and `--lines FILE`
abbrev pub file_rule : Text → Rule
file_rule id = record (new_rule id) { long = Some id; action = Some Set; value_names = 1 }

-- `MODEL`, which must be there
abbrev pub model_rule : Rule
model_rule = record (new_rule (codes "MODEL")) { action = Some Set; required = true }

-- with these arguments, one after another
abbrev pub with_all : App → List Rule → App
with_all a [] = a
with_all a (r ∷ rs) = with_all (with_rule a r) rs

-- the program, which has a version, and no argument yet
abbrev pub named : App
named = record { top = record ((new_app (codes "spinplay")).top) { has_version = true }; subs = [] }

-- the command is `named`, without groups or settings that reach others
pub record IsNamed (c : Command) : Type 0 where
  pub app : app_of c ≡ named
  pub empty : (args_of c ≡ []) × (groups_of c ≡ [])
  pub local : (fields_of c).has_globals ≡ false
  pub negates : (fields_of c).subcommand_negates_reqs ≡ false

-- `spinplay [-i] [-p] [-g] [-l] [-m] [-T] [-uN] [--choices FILE] [--record FILE] [--convert] [--check] [--explain] [--name NAME]
-- [--source FILE] [--lines FILE] [--prepare] [--no-cpp] [-D NAME].. [-I FOLDER].. MODEL`
unfoldable pub command_line : App
command_line = with_all named (
    counted_letter (codes "i") 105
    ∷ counted_letter (codes "p") 112
    ∷ counted_letter (codes "g") 103
    ∷ counted_letter (codes "l") 108
    ∷ counted_letter (codes "m") 109
    ∷ counted_letter (codes "T") 84
    ∷ limit_rule
    ∷ file_rule (codes "choices")
    ∷ file_rule (codes "record")
    ∷ counted_word (codes "convert")
    ∷ counted_word (codes "check")
    ∷ counted_word (codes "explain")
    ∷ file_rule (codes "name")
    ∷ file_rule (codes "source")
    ∷ file_rule (codes "lines")
    ∷ counted_word (codes "prepare")
    ∷ counted_word (codes "no-cpp")
    ∷ appended_letter (codes "D") 68
    ∷ appended_letter (codes "I") 73
    ∷ model_rule
    ∷ [])

-- the ids of the arguments, in their order
abbrev pub ids : List Text
ids =
    codes "i" ∷ codes "p" ∷ codes "g" ∷ codes "l" ∷ codes "m" ∷ codes "T" ∷ codes "u"
    ∷ codes "choices" ∷ codes "record" ∷ codes "convert" ∷ codes "check" ∷ codes "explain"
    ∷ codes "name" ∷ codes "source" ∷ codes "lines" ∷ codes "prepare" ∷ codes "no-cpp" ∷ codes "D" ∷ codes "I" ∷ codes "MODEL" ∷ []

-- the argument excludes no other, belongs to this command alone and has this id
abbrev pub IsArgument : Text → Arg → Type 0
IsArgument id a = IsPlainArg a × (a.global ≡ false) × (a.id.now ≡ id)

-- the command is `command_line`, and was made by adding these arguments in turn
pub record IsCommandLine (c : Command) : Type 0 where
  pub app : app_of c ≡ command_line
  pub start : Command
  pub empty : (args_of start ≡ []) × (groups_of start ≡ [])
  pub local : (fields_of start).has_globals ≡ false
  pub negates : (fields_of start).subcommand_negates_reqs ≡ false
  pub added : List Arg
  pub in_turn : AddsInTurn AddsArg start added c
  pub plain : All (λ a. IsPlainArg a × (a.global ≡ false)) added
  pub ids : map (λ a. a.id.now) added ≡ ids
  pub model : (d : Arg) → TakesValue (slice_index_or added 19 d)
