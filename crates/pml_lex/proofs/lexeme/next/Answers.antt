use Rattle.std.proofs.Common.{arith, sym, ◌∙◌, ap}
use Rattle.std.specs.Prelude.{◌+◌, Some}
use Rattle.promela_text.specs.declared.lexeme.Lexeme.TheVariants.{Token}
use Rattle.pml_lex.proofs.Turns.{word_turn, rest_whole}
use Rattle.std.specs.List.{prefix_len}
use Rattle.promela_text.specs.Tokens.{is_name_byte}
use Rattle.pml_lex.proofs.lexeme.next.Goals as goal

pub returns-in-Letter-clause-value : goal.returns-in-Letter-clause-value
returns-in-Letter-clause-value c =
    ap (λ kind. Some (1 + c.name_bytes-length.result, Token kind)) c.word_kind.ensures ∙ word_turn c.args.fresh c.args.text.now c.name_bytes-length.result (omega arith) (sym c.in-Letter.is ∙ c.class_of.ensures) (c.name_bytes-length.ensures.value ∙ ap (prefix_len is_name_byte) (rest_whole c.args.text.now))
