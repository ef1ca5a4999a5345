-- What Spin printed of random models, of runs by chance. `tools/spin-theorems` made the models and their data.
use Rattle.std.proofs.Common.{◌≡◌, ℕ, List, [], ◌∷◌, true, false, refl, Some, None}
use Rattle.std.specs.Prelude.{pos}
use Rattle.pml_token.specs.Word.{Word}
use Rattle.pml_tree.specs.declared.tree.Search.TheVariants.{First, Matching}
use Rattle.pml_tree.specs.declared.tree.Removal.TheVariants.{Remove}
use Rattle.pml_tree.specs.declared.tree.SendOrder.TheVariants.{Fifo, Sorted}
use Rattle.pml_program.specs.declared.program.Program.{Program}
use Rattle.pml_program.specs.declared.program.Basic.{Break}
use Rattle.worked_runs.proofs.Models.{on, token_at, tokens_between, bit, byte, chan, mtype, short, int, slot, fields, turn, in_global, local, global, number, read, run, assign, holds, stmt, plain, block, atomic, d_step, if_fi, do_od, unless, process, text}
use Rattle.worked_runs.proofs.Same.{computes}
use Rattle.worked_runs.specs.Printed.{printed, Valid, Invalid}
use Rattle.worked_runs.proofs.Same.{prints}
use Rattle.worked_runs.proofs.Models.{shown}
use Rattle.pml_token.specs.declared.token.Kind.TheVariants as kind
use Rattle.pml_tree.specs.declared.tree.Infix.TheVariants as op
use Rattle.pml_tree.specs.declared.tree.Prefix.TheVariants as before
use Rattle.pml_tree.specs.declared.tree.Fill.TheVariants as fill
use Rattle.pml_program.specs.declared.form.Form.TheVariants as form
use Rattle.pml_program.specs.declared.expr.Expr.TheVariants as expr
use Rattle.pml_program.specs.declared.expr.Want.TheVariants as want
use Rattle.pml_program.specs.declared.program.Initial.TheVariants as initial
use Rattle.pml_program.specs.declared.program.Action.TheVariants as action

-- mtype = { red, green, blue }; mtype m = green;
-- short s0;
-- int i1;
-- byte b2 = 3;
-- chan q0 = [2] of { short, byte };
-- chan q1 = [1] of { short, byte };
-- proctype P0(byte n) { byte k; byte v = 4; atomic { q1!k, 1; q0!(1 / 5), _pid }; printf("P0 ends %d %d\n", k, v) }
-- init { byte k; run P0(2); run P0(1); d_step { b2 = 3; b2 = (300 >= 255 -> (7 >> 1) : k) }; if :: timeout -> skip :: _nr_pr == 1 ->
--     skip fi; printf("%d %d %d\n", s0, i1, b2) }
tokens-spin-43 : List Word
tokens-spin-43 =
    on 1 kind.Mtype "mtype" ∷ on 1 kind.Assign "=" ∷ on 1 kind.OpenBrace "{" ∷ on 1 kind.Name "red" ∷ on 1 kind.Comma "," ∷
    on 1 kind.Name "green" ∷ on 1 kind.Comma "," ∷ on 1 kind.Name "blue" ∷ on 1 kind.CloseBrace "}" ∷ on 1 kind.Semicolon ";" ∷
    on 1 kind.Mtype "mtype" ∷ on 1 kind.Name "m" ∷ on 1 kind.Assign "=" ∷ on 1 kind.Name "green" ∷ on 1 kind.Semicolon ";" ∷
    on 2 kind.Short "short" ∷ on 2 kind.Name "s0" ∷ on 2 kind.Semicolon ";" ∷ on 3 kind.Int "int" ∷ on 3 kind.Name "i1" ∷
    on 3 kind.Semicolon ";" ∷ on 4 kind.Byte "byte" ∷ on 4 kind.Name "b2" ∷ on 4 kind.Assign "=" ∷ on 4 kind.Number "3" ∷
    on 4 kind.Semicolon ";" ∷ on 5 kind.Chan "chan" ∷ on 5 kind.Name "q0" ∷ on 5 kind.Assign "=" ∷ on 5 kind.OpenBracket "[" ∷
    on 5 kind.Number "2" ∷ on 5 kind.CloseBracket "]" ∷ on 5 kind.Of "of" ∷ on 5 kind.OpenBrace "{" ∷ on 5 kind.Short "short" ∷
    on 5 kind.Comma "," ∷ on 5 kind.Byte "byte" ∷ on 5 kind.CloseBrace "}" ∷ on 5 kind.Semicolon ";" ∷ on 6 kind.Chan "chan" ∷
    on 6 kind.Name "q1" ∷ on 6 kind.Assign "=" ∷ on 6 kind.OpenBracket "[" ∷ on 6 kind.Number "1" ∷ on 6 kind.CloseBracket "]" ∷
    on 6 kind.Of "of" ∷ on 6 kind.OpenBrace "{" ∷ on 6 kind.Short "short" ∷ on 6 kind.Comma "," ∷ on 6 kind.Byte "byte" ∷
    on 6 kind.CloseBrace "}" ∷ on 6 kind.Semicolon ";" ∷ on 7 kind.Proctype "proctype" ∷ on 7 kind.Name "P0" ∷
    on 7 kind.OpenParen "(" ∷ on 7 kind.Byte "byte" ∷ on 7 kind.Name "n" ∷ on 7 kind.CloseParen ")" ∷ on 7 kind.OpenBrace "{" ∷
    on 7 kind.Byte "byte" ∷ on 7 kind.Name "k" ∷ on 7 kind.Semicolon ";" ∷ on 7 kind.Byte "byte" ∷ on 7 kind.Name "v" ∷
    on 7 kind.Assign "=" ∷ on 7 kind.Number "4" ∷ on 7 kind.Semicolon ";" ∷ on 7 kind.Atomic "atomic" ∷ on 7 kind.OpenBrace "{" ∷
    on 7 kind.Name "q1" ∷ on 7 kind.Bang "!" ∷ on 7 kind.Name "k" ∷ on 7 kind.Comma "," ∷ on 7 kind.Number "1" ∷
    on 7 kind.Semicolon ";" ∷ on 7 kind.Name "q0" ∷ on 7 kind.Bang "!" ∷ on 7 kind.OpenParen "(" ∷ on 7 kind.Number "1" ∷
    on 7 kind.Slash "/" ∷ on 7 kind.Number "5" ∷ on 7 kind.CloseParen ")" ∷ on 7 kind.Comma "," ∷ on 7 kind.Name "_pid" ∷
    on 7 kind.CloseBrace "}" ∷ on 7 kind.Semicolon ";" ∷ on 7 kind.Printf "printf" ∷ on 7 kind.OpenParen "(" ∷
    on 7 kind.Quoted "\"P0 ends %d %d\\n\"" ∷ on 7 kind.Comma "," ∷ on 7 kind.Name "k" ∷ on 7 kind.Comma "," ∷ on 7 kind.Name "v" ∷
    on 7 kind.CloseParen ")" ∷ on 7 kind.CloseBrace "}" ∷ on 8 kind.Init "init" ∷ on 8 kind.OpenBrace "{" ∷ on 8 kind.Byte "byte" ∷
    on 8 kind.Name "k" ∷ on 8 kind.Semicolon ";" ∷ on 8 kind.Run "run" ∷ on 8 kind.Name "P0" ∷ on 8 kind.OpenParen "(" ∷
    on 8 kind.Number "2" ∷ on 8 kind.CloseParen ")" ∷ on 8 kind.Semicolon ";" ∷ on 8 kind.Run "run" ∷ on 8 kind.Name "P0" ∷
    on 8 kind.OpenParen "(" ∷ on 8 kind.Number "1" ∷ on 8 kind.CloseParen ")" ∷ on 8 kind.Semicolon ";" ∷ on 8 kind.DStep "d_step" ∷
    on 8 kind.OpenBrace "{" ∷ on 8 kind.Name "b2" ∷ on 8 kind.Assign "=" ∷ on 8 kind.Number "3" ∷ on 8 kind.Semicolon ";" ∷
    on 8 kind.Name "b2" ∷ on 8 kind.Assign "=" ∷ on 8 kind.OpenParen "(" ∷ on 8 kind.Number "300" ∷ on 8 kind.AtLeast ">=" ∷
    on 8 kind.Number "255" ∷ on 8 kind.Arrow "->" ∷ on 8 kind.OpenParen "(" ∷ on 8 kind.Number "7" ∷ on 8 kind.ShiftRight ">>" ∷
    on 8 kind.Number "1" ∷ on 8 kind.CloseParen ")" ∷ on 8 kind.Colon ":" ∷ on 8 kind.Name "k" ∷ on 8 kind.CloseParen ")" ∷
    on 8 kind.CloseBrace "}" ∷ on 8 kind.Semicolon ";" ∷ on 8 kind.If "if" ∷ on 8 kind.DoubleColon "::" ∷
    on 8 kind.Timeout "timeout" ∷ on 8 kind.Arrow "->" ∷ on 8 kind.Skip "skip" ∷ on 8 kind.DoubleColon "::" ∷
    on 8 kind.Name "_nr_pr" ∷ on 8 kind.Equal "==" ∷ on 8 kind.Number "1" ∷ on 8 kind.Arrow "->" ∷ on 8 kind.Skip "skip" ∷
    on 8 kind.Fi "fi" ∷ on 8 kind.Semicolon ";" ∷ on 8 kind.Printf "printf" ∷ on 8 kind.OpenParen "(" ∷
    on 8 kind.Quoted "\"%d %d %d\\n\"" ∷ on 8 kind.Comma "," ∷ on 8 kind.Name "s0" ∷ on 8 kind.Comma "," ∷ on 8 kind.Name "i1" ∷
    on 8 kind.Comma "," ∷ on 8 kind.Name "b2" ∷ on 8 kind.CloseParen ")" ∷ on 8 kind.CloseBrace "}" ∷ []

model-spin-43 : Program
unfolding tokens-spin-43
model-spin-43 =
    let at : ℕ → Word = token_at tokens-spin-43 in
    let part : ℕ → ℕ → List Word = tokens_between tokens-spin-43 in
    record {
      globals = (slot (at 11) mtype false 0 1 1 (initial.Value (number 2)) ∷ slot (at 16) short false 1 1 1 initial.Zero ∷ slot (at
          19) int false 2 1 1 initial.Zero ∷ slot (at 22) byte false 3 1 1 (initial.Value (number 3)) ∷ slot (at 27) chan false 4 1 1
          (initial.Channel 2 (short ∷ byte ∷ [])) ∷ slot (at 40) chan false 5 1 1 (initial.Channel 1 (short ∷ byte ∷ [])) ∷ []);
      constants = ((at 7) ∷ (at 5) ∷ (at 3) ∷ []);
      typedefs = [];
      proctypes = (
          process (at 53) 8 0 1 (slot (at 56) byte false 0 1 1 initial.Zero ∷ slot (at 60) byte false 1 1 1 initial.Zero ∷ slot (at 63)
          byte false 2 1 1 (initial.Value (number 4)) ∷ []) (
          atomic (part 67 85) (
          plain (part 69 74) (action.Send (global 5 chan) Fifo ((read (local 1 byte)) ∷ (number 1) ∷ [])) ∷
          plain (part 75 84) (action.Send (global 4 chan) Fifo ((expr.Binary op.Divide (number 1) (number 5)) ∷ expr.Pid ∷ [])) ∷ []) ∷
          plain (part 86 94) (action.Printf (at 88) ((read (local 1 byte)) ∷ (read (local 2 byte)) ∷ [])) ∷ []) (at 94) ∷
          process (at 95) 9 1 0 (slot (at 98) byte false 0 1 1 initial.Zero ∷ []) (
          plain (part 100 105) (action.Run (run 0 ((number 2) ∷ []))) ∷
          plain (part 106 111) (action.Run (run 0 ((number 1) ∷ []))) ∷
          d_step (part 112 134) (
          plain (part 114 117) (assign (global 3 byte) (number 3)) ∷
          plain (part 118 133) (assign (global 3 byte) (expr.Choice (expr.Binary op.AtLeast (number 300) (number 255)) (expr.Binary
          op.ShiftRight (number 7) (number 1)) (read (local 0 byte)))) ∷ []) ∷
          if_fi (part 135 147) (
          (plain (part 137 138) (holds expr.Timeout) ∷
          plain (part 139 140) (holds (number 1)) ∷ []) ∷
          (plain (part 141 144) (holds (expr.Binary op.Equal expr.ProcessCount (number 1))) ∷
          plain (part 145 146) (holds (number 1)) ∷ []) ∷ []) ∷
          plain (part 148 158) (action.Printf (at 150) ((read (global 1 short)) ∷ (read (global 2 int)) ∷ (read (global 3 byte)) ∷ []))
          ∷ []) (at 158) ∷ []);
    }

prints-spin-43 : printed model-spin-43 9 (2 ∷ 2 ∷ 1 ∷ [])
    ≡ Some (shown (text (
    "P0 ends 0 4\n" ∷
    "0 0 3\n" ∷
    [])) Invalid)
unfolding computes model-spin-43
prints-spin-43 = prints model-spin-43 9 (2 ∷ 2 ∷ 1 ∷ []) _ refl

-- byte b0 = 1;
-- int i1 = 0;
-- unsigned u2 : 2 = 2;
-- chan q0 = [2] of { int };
-- proctype P0(byte n) { byte k; short v = 0; q0!u2; printf("P0 ends %d %d\n", k, v) }
-- proctype P1(byte n) { byte k; int v = 4; atomic { printf("at %d %d\n", n, i1); do :: assert((-255) >= _nr_pr); printf("= %d %u\n",
--     u2, b0) :: else -> n = 1 :: break od }; { q0!i1 } unless { (i1 < 3) -> k = (!255) }; ((_pid != u2 || full(q0))); printf("P1
--     ends %d %d\n", k, v) }
-- init { byte k; run P0(0); run P0(4); q0?0; printf("at %d %d\n", k, b0); if :: timeout -> skip :: _nr_pr == 1 -> skip fi; printf("%d
--     %d %d\n", b0, i1, u2) }
tokens-spin-44 : List Word
tokens-spin-44 =
    on 1 kind.Byte "byte" ∷ on 1 kind.Name "b0" ∷ on 1 kind.Assign "=" ∷ on 1 kind.Number "1" ∷ on 1 kind.Semicolon ";" ∷
    on 2 kind.Int "int" ∷ on 2 kind.Name "i1" ∷ on 2 kind.Assign "=" ∷ on 2 kind.Number "0" ∷ on 2 kind.Semicolon ";" ∷
    on 3 kind.Unsigned "unsigned" ∷ on 3 kind.Name "u2" ∷ on 3 kind.Colon ":" ∷ on 3 kind.Number "2" ∷ on 3 kind.Assign "=" ∷
    on 3 kind.Number "2" ∷ on 3 kind.Semicolon ";" ∷ on 4 kind.Chan "chan" ∷ on 4 kind.Name "q0" ∷ on 4 kind.Assign "=" ∷
    on 4 kind.OpenBracket "[" ∷ on 4 kind.Number "2" ∷ on 4 kind.CloseBracket "]" ∷ on 4 kind.Of "of" ∷ on 4 kind.OpenBrace "{" ∷
    on 4 kind.Int "int" ∷ on 4 kind.CloseBrace "}" ∷ on 4 kind.Semicolon ";" ∷ on 5 kind.Proctype "proctype" ∷ on 5 kind.Name "P0" ∷
    on 5 kind.OpenParen "(" ∷ on 5 kind.Byte "byte" ∷ on 5 kind.Name "n" ∷ on 5 kind.CloseParen ")" ∷ on 5 kind.OpenBrace "{" ∷
    on 5 kind.Byte "byte" ∷ on 5 kind.Name "k" ∷ on 5 kind.Semicolon ";" ∷ on 5 kind.Short "short" ∷ on 5 kind.Name "v" ∷
    on 5 kind.Assign "=" ∷ on 5 kind.Number "0" ∷ on 5 kind.Semicolon ";" ∷ on 5 kind.Name "q0" ∷ on 5 kind.Bang "!" ∷
    on 5 kind.Name "u2" ∷ on 5 kind.Semicolon ";" ∷ on 5 kind.Printf "printf" ∷ on 5 kind.OpenParen "(" ∷
    on 5 kind.Quoted "\"P0 ends %d %d\\n\"" ∷ on 5 kind.Comma "," ∷ on 5 kind.Name "k" ∷ on 5 kind.Comma "," ∷ on 5 kind.Name "v" ∷
    on 5 kind.CloseParen ")" ∷ on 5 kind.CloseBrace "}" ∷ on 6 kind.Proctype "proctype" ∷ on 6 kind.Name "P1" ∷
    on 6 kind.OpenParen "(" ∷ on 6 kind.Byte "byte" ∷ on 6 kind.Name "n" ∷ on 6 kind.CloseParen ")" ∷ on 6 kind.OpenBrace "{" ∷
    on 6 kind.Byte "byte" ∷ on 6 kind.Name "k" ∷ on 6 kind.Semicolon ";" ∷ on 6 kind.Int "int" ∷ on 6 kind.Name "v" ∷
    on 6 kind.Assign "=" ∷ on 6 kind.Number "4" ∷ on 6 kind.Semicolon ";" ∷ on 6 kind.Atomic "atomic" ∷ on 6 kind.OpenBrace "{" ∷
    on 6 kind.Printf "printf" ∷ on 6 kind.OpenParen "(" ∷ on 6 kind.Quoted "\"at %d %d\\n\"" ∷ on 6 kind.Comma "," ∷
    on 6 kind.Name "n" ∷ on 6 kind.Comma "," ∷ on 6 kind.Name "i1" ∷ on 6 kind.CloseParen ")" ∷ on 6 kind.Semicolon ";" ∷
    on 6 kind.Do "do" ∷ on 6 kind.DoubleColon "::" ∷ on 6 kind.Assert "assert" ∷ on 6 kind.OpenParen "(" ∷ on 6 kind.OpenParen "(" ∷
    on 6 kind.Minus "-" ∷ on 6 kind.Number "255" ∷ on 6 kind.CloseParen ")" ∷ on 6 kind.AtLeast ">=" ∷ on 6 kind.Name "_nr_pr" ∷
    on 6 kind.CloseParen ")" ∷ on 6 kind.Semicolon ";" ∷ on 6 kind.Printf "printf" ∷ on 6 kind.OpenParen "(" ∷
    on 6 kind.Quoted "\"= %d %u\\n\"" ∷ on 6 kind.Comma "," ∷ on 6 kind.Name "u2" ∷ on 6 kind.Comma "," ∷ on 6 kind.Name "b0" ∷
    on 6 kind.CloseParen ")" ∷ on 6 kind.DoubleColon "::" ∷ on 6 kind.Else "else" ∷ on 6 kind.Arrow "->" ∷ on 6 kind.Name "n" ∷
    on 6 kind.Assign "=" ∷ on 6 kind.Number "1" ∷ on 6 kind.DoubleColon "::" ∷ on 6 kind.Break "break" ∷ on 6 kind.Od "od" ∷
    on 6 kind.CloseBrace "}" ∷ on 6 kind.Semicolon ";" ∷ on 6 kind.OpenBrace "{" ∷ on 6 kind.Name "q0" ∷ on 6 kind.Bang "!" ∷
    on 6 kind.Name "i1" ∷ on 6 kind.CloseBrace "}" ∷ on 6 kind.Unless "unless" ∷ on 6 kind.OpenBrace "{" ∷ on 6 kind.OpenParen "(" ∷
    on 6 kind.Name "i1" ∷ on 6 kind.Less "<" ∷ on 6 kind.Number "3" ∷ on 6 kind.CloseParen ")" ∷ on 6 kind.Arrow "->" ∷
    on 6 kind.Name "k" ∷ on 6 kind.Assign "=" ∷ on 6 kind.OpenParen "(" ∷ on 6 kind.Bang "!" ∷ on 6 kind.Number "255" ∷
    on 6 kind.CloseParen ")" ∷ on 6 kind.CloseBrace "}" ∷ on 6 kind.Semicolon ";" ∷ on 6 kind.OpenParen "(" ∷
    on 6 kind.OpenParen "(" ∷ on 6 kind.Name "_pid" ∷ on 6 kind.Unequal "!=" ∷ on 6 kind.Name "u2" ∷ on 6 kind.OrOr "||" ∷
    on 6 kind.Full "full" ∷ on 6 kind.OpenParen "(" ∷ on 6 kind.Name "q0" ∷ on 6 kind.CloseParen ")" ∷ on 6 kind.CloseParen ")" ∷
    on 6 kind.CloseParen ")" ∷ on 6 kind.Semicolon ";" ∷ on 6 kind.Printf "printf" ∷ on 6 kind.OpenParen "(" ∷
    on 6 kind.Quoted "\"P1 ends %d %d\\n\"" ∷ on 6 kind.Comma "," ∷ on 6 kind.Name "k" ∷ on 6 kind.Comma "," ∷ on 6 kind.Name "v" ∷
    on 6 kind.CloseParen ")" ∷ on 6 kind.CloseBrace "}" ∷ on 7 kind.Init "init" ∷ on 7 kind.OpenBrace "{" ∷ on 7 kind.Byte "byte" ∷
    on 7 kind.Name "k" ∷ on 7 kind.Semicolon ";" ∷ on 7 kind.Run "run" ∷ on 7 kind.Name "P0" ∷ on 7 kind.OpenParen "(" ∷
    on 7 kind.Number "0" ∷ on 7 kind.CloseParen ")" ∷ on 7 kind.Semicolon ";" ∷ on 7 kind.Run "run" ∷ on 7 kind.Name "P0" ∷
    on 7 kind.OpenParen "(" ∷ on 7 kind.Number "4" ∷ on 7 kind.CloseParen ")" ∷ on 7 kind.Semicolon ";" ∷ on 7 kind.Name "q0" ∷
    on 7 kind.Query "?" ∷ on 7 kind.Number "0" ∷ on 7 kind.Semicolon ";" ∷ on 7 kind.Printf "printf" ∷ on 7 kind.OpenParen "(" ∷
    on 7 kind.Quoted "\"at %d %d\\n\"" ∷ on 7 kind.Comma "," ∷ on 7 kind.Name "k" ∷ on 7 kind.Comma "," ∷ on 7 kind.Name "b0" ∷
    on 7 kind.CloseParen ")" ∷ on 7 kind.Semicolon ";" ∷ on 7 kind.If "if" ∷ on 7 kind.DoubleColon "::" ∷
    on 7 kind.Timeout "timeout" ∷ on 7 kind.Arrow "->" ∷ on 7 kind.Skip "skip" ∷ on 7 kind.DoubleColon "::" ∷
    on 7 kind.Name "_nr_pr" ∷ on 7 kind.Equal "==" ∷ on 7 kind.Number "1" ∷ on 7 kind.Arrow "->" ∷ on 7 kind.Skip "skip" ∷
    on 7 kind.Fi "fi" ∷ on 7 kind.Semicolon ";" ∷ on 7 kind.Printf "printf" ∷ on 7 kind.OpenParen "(" ∷
    on 7 kind.Quoted "\"%d %d %d\\n\"" ∷ on 7 kind.Comma "," ∷ on 7 kind.Name "b0" ∷ on 7 kind.Comma "," ∷ on 7 kind.Name "i1" ∷
    on 7 kind.Comma "," ∷ on 7 kind.Name "u2" ∷ on 7 kind.CloseParen ")" ∷ on 7 kind.CloseBrace "}" ∷ []

model-spin-44 : Program
unfolding tokens-spin-44
model-spin-44 =
    let at : ℕ → Word = token_at tokens-spin-44 in
    let part : ℕ → ℕ → List Word = tokens_between tokens-spin-44 in
    record {
      globals = (slot (at 1) byte false 0 1 1 (initial.Value (number 1)) ∷ slot (at 6) int false 1 1 1 (initial.Value (number 0)) ∷
          slot (at 11) (form.Unsigned 2) false 2 1 1 (initial.Value (number 2)) ∷ slot (at 18) chan false 3 1 1 (initial.Channel 2 (int
          ∷ [])) ∷ []);
      constants = [];
      typedefs = [];
      proctypes = (
          process (at 29) 5 0 1 (slot (at 32) byte false 0 1 1 initial.Zero ∷ slot (at 36) byte false 1 1 1 initial.Zero ∷ slot (at 39)
          short false 2 1 1 (initial.Value (number 0)) ∷ []) (
          plain (part 43 46) (action.Send (global 3 chan) Fifo ((read (global 2 (form.Unsigned 2))) ∷ [])) ∷
          plain (part 47 55) (action.Printf (at 49) ((read (local 1 byte)) ∷ (read (local 2 short)) ∷ [])) ∷ []) (at 55) ∷
          process (at 57) 6 0 1 (slot (at 60) byte false 0 1 1 initial.Zero ∷ slot (at 64) byte false 1 1 1 initial.Zero ∷ slot (at 67)
          int false 2 1 1 (initial.Value (number 4)) ∷ []) (
          atomic (part 71 112) (
          plain (part 73 81) (action.Printf (at 75) ((read (local 0 byte)) ∷ (read (global 1 int)) ∷ [])) ∷
          do_od (part 82 111) (
          (plain (part 84 93) (action.Assert (expr.Binary op.AtLeast (expr.Unary before.Minus (number 255)) expr.ProcessCount)) ∷
          plain (part 94 102) (action.Printf (at 96) ((read (global 2 (form.Unsigned 2))) ∷ (read (global 0 byte)) ∷ [])) ∷ []) ∷
          (plain (part 103 104) action.Else ∷
          plain (part 105 108) (assign (local 0 byte) (number 1)) ∷ []) ∷
          (stmt [] Break (part 109 110) ∷ []) ∷ []) ∷ []) ∷
          unless (part 113 133) (
          block (part 113 118) (
          plain (part 114 117) (action.Send (global 3 chan) Fifo ((read (global 1 int)) ∷ [])) ∷ []) ∷ []) (
          block (part 119 133) (
          plain (part 120 125) (holds (expr.Binary op.Below (read (global 1 int)) (number 3))) ∷
          plain (part 126 132) (assign (local 1 byte) (expr.Unary before.Not (number 255))) ∷ []) ∷ []) ∷
          plain (part 134 146) (holds (expr.Binary op.Or (expr.Binary op.Unequal expr.Pid (read (global 2 (form.Unsigned 2)))) (expr.Ask
          fill.IsFull (global 3 chan)))) ∷
          plain (part 147 155) (action.Printf (at 149) ((read (local 1 byte)) ∷ (read (local 2 int)) ∷ [])) ∷ []) (at 155) ∷
          process (at 156) 7 1 0 (slot (at 159) byte false 0 1 1 initial.Zero ∷ []) (
          plain (part 161 166) (action.Run (run 0 ((number 0) ∷ []))) ∷
          plain (part 167 172) (action.Run (run 0 ((number 4) ∷ []))) ∷
          plain (part 173 176) (action.Receive (global 3 chan) First Remove (want.Exactly (pos 0) ∷ [])) ∷
          plain (part 177 185) (action.Printf (at 179) ((read (local 0 byte)) ∷ (read (global 0 byte)) ∷ [])) ∷
          if_fi (part 186 198) (
          (plain (part 188 189) (holds expr.Timeout) ∷
          plain (part 190 191) (holds (number 1)) ∷ []) ∷
          (plain (part 192 195) (holds (expr.Binary op.Equal expr.ProcessCount (number 1))) ∷
          plain (part 196 197) (holds (number 1)) ∷ []) ∷ []) ∷
          plain (part 199 209) (action.Printf (at 201) ((read (global 0 byte)) ∷ (read (global 1 int)) ∷ (read (global 2 (form.Unsigned
          2))) ∷ [])) ∷ []) (at 209) ∷ []);
    }

prints-spin-44 : printed model-spin-44 8 (1 ∷ 2 ∷ 2 ∷ 1 ∷ 2 ∷ [])
    ≡ Some (shown (text (
    "P0 ends 0 0\n" ∷
    "P0 ends 0 0\n" ∷
    [])) Invalid)
unfolding computes model-spin-44
prints-spin-44 = prints model-spin-44 8 (1 ∷ 2 ∷ 2 ∷ 1 ∷ 2 ∷ []) _ refl

-- byte b0;
-- short s1;
-- byte a[2];
-- typedef T { byte f; short g[2] }; T r;
-- chan q0 = [0] of { int };
-- proctype P0(byte n) { byte k; byte v = 3; q0?2; printf("P0 ends %d %d\n", k, v) }
-- init { byte k; run P0(3); run P0(3); printf("p %u %x\n", s1, b0); if :: timeout -> skip :: _nr_pr == 1 -> skip fi; printf("%d %d %d
--     %d\n", b0, s1, r.f, r.g[1]) }
tokens-spin-46 : List Word
tokens-spin-46 =
    on 1 kind.Byte "byte" ∷ on 1 kind.Name "b0" ∷ on 1 kind.Semicolon ";" ∷ on 2 kind.Short "short" ∷ on 2 kind.Name "s1" ∷
    on 2 kind.Semicolon ";" ∷ on 3 kind.Byte "byte" ∷ on 3 kind.Name "a" ∷ on 3 kind.OpenBracket "[" ∷ on 3 kind.Number "2" ∷
    on 3 kind.CloseBracket "]" ∷ on 3 kind.Semicolon ";" ∷ on 4 kind.Typedef "typedef" ∷ on 4 kind.Name "T" ∷
    on 4 kind.OpenBrace "{" ∷ on 4 kind.Byte "byte" ∷ on 4 kind.Name "f" ∷ on 4 kind.Semicolon ";" ∷ on 4 kind.Short "short" ∷
    on 4 kind.Name "g" ∷ on 4 kind.OpenBracket "[" ∷ on 4 kind.Number "2" ∷ on 4 kind.CloseBracket "]" ∷ on 4 kind.CloseBrace "}" ∷
    on 4 kind.Semicolon ";" ∷ on 4 kind.Name "T" ∷ on 4 kind.Name "r" ∷ on 4 kind.Semicolon ";" ∷ on 5 kind.Chan "chan" ∷
    on 5 kind.Name "q0" ∷ on 5 kind.Assign "=" ∷ on 5 kind.OpenBracket "[" ∷ on 5 kind.Number "0" ∷ on 5 kind.CloseBracket "]" ∷
    on 5 kind.Of "of" ∷ on 5 kind.OpenBrace "{" ∷ on 5 kind.Int "int" ∷ on 5 kind.CloseBrace "}" ∷ on 5 kind.Semicolon ";" ∷
    on 6 kind.Proctype "proctype" ∷ on 6 kind.Name "P0" ∷ on 6 kind.OpenParen "(" ∷ on 6 kind.Byte "byte" ∷ on 6 kind.Name "n" ∷
    on 6 kind.CloseParen ")" ∷ on 6 kind.OpenBrace "{" ∷ on 6 kind.Byte "byte" ∷ on 6 kind.Name "k" ∷ on 6 kind.Semicolon ";" ∷
    on 6 kind.Byte "byte" ∷ on 6 kind.Name "v" ∷ on 6 kind.Assign "=" ∷ on 6 kind.Number "3" ∷ on 6 kind.Semicolon ";" ∷
    on 6 kind.Name "q0" ∷ on 6 kind.Query "?" ∷ on 6 kind.Number "2" ∷ on 6 kind.Semicolon ";" ∷ on 6 kind.Printf "printf" ∷
    on 6 kind.OpenParen "(" ∷ on 6 kind.Quoted "\"P0 ends %d %d\\n\"" ∷ on 6 kind.Comma "," ∷ on 6 kind.Name "k" ∷
    on 6 kind.Comma "," ∷ on 6 kind.Name "v" ∷ on 6 kind.CloseParen ")" ∷ on 6 kind.CloseBrace "}" ∷ on 7 kind.Init "init" ∷
    on 7 kind.OpenBrace "{" ∷ on 7 kind.Byte "byte" ∷ on 7 kind.Name "k" ∷ on 7 kind.Semicolon ";" ∷ on 7 kind.Run "run" ∷
    on 7 kind.Name "P0" ∷ on 7 kind.OpenParen "(" ∷ on 7 kind.Number "3" ∷ on 7 kind.CloseParen ")" ∷ on 7 kind.Semicolon ";" ∷
    on 7 kind.Run "run" ∷ on 7 kind.Name "P0" ∷ on 7 kind.OpenParen "(" ∷ on 7 kind.Number "3" ∷ on 7 kind.CloseParen ")" ∷
    on 7 kind.Semicolon ";" ∷ on 7 kind.Printf "printf" ∷ on 7 kind.OpenParen "(" ∷ on 7 kind.Quoted "\"p %u %x\\n\"" ∷
    on 7 kind.Comma "," ∷ on 7 kind.Name "s1" ∷ on 7 kind.Comma "," ∷ on 7 kind.Name "b0" ∷ on 7 kind.CloseParen ")" ∷
    on 7 kind.Semicolon ";" ∷ on 7 kind.If "if" ∷ on 7 kind.DoubleColon "::" ∷ on 7 kind.Timeout "timeout" ∷ on 7 kind.Arrow "->" ∷
    on 7 kind.Skip "skip" ∷ on 7 kind.DoubleColon "::" ∷ on 7 kind.Name "_nr_pr" ∷ on 7 kind.Equal "==" ∷ on 7 kind.Number "1" ∷
    on 7 kind.Arrow "->" ∷ on 7 kind.Skip "skip" ∷ on 7 kind.Fi "fi" ∷ on 7 kind.Semicolon ";" ∷ on 7 kind.Printf "printf" ∷
    on 7 kind.OpenParen "(" ∷ on 7 kind.Quoted "\"%d %d %d %d\\n\"" ∷ on 7 kind.Comma "," ∷ on 7 kind.Name "b0" ∷
    on 7 kind.Comma "," ∷ on 7 kind.Name "s1" ∷ on 7 kind.Comma "," ∷ on 7 kind.Name "r" ∷ on 7 kind.Dot "." ∷ on 7 kind.Name "f" ∷
    on 7 kind.Comma "," ∷ on 7 kind.Name "r" ∷ on 7 kind.Dot "." ∷ on 7 kind.Name "g" ∷ on 7 kind.OpenBracket "[" ∷
    on 7 kind.Number "1" ∷ on 7 kind.CloseBracket "]" ∷ on 7 kind.CloseParen ")" ∷ on 7 kind.CloseBrace "}" ∷ []

model-spin-46 : Program
unfolding tokens-spin-46
model-spin-46 =
    let at : ℕ → Word = token_at tokens-spin-46 in
    let part : ℕ → ℕ → List Word = tokens_between tokens-spin-46 in
    record {
      globals = (slot (at 1) byte false 0 1 1 initial.Zero ∷ slot (at 4) short false 1 1 1 initial.Zero ∷ slot (at 7) byte true 2 2 1
          initial.Zero ∷ slot (at 26) (form.Struct 4) false 4 1 3 initial.Zero ∷ slot (at 29) chan false 7 1 1 (initial.Channel 0 (int ∷
          [])) ∷ []);
      constants = [];
      typedefs = (fields 4 (slot (at 16) byte false 0 1 1 initial.Zero ∷ slot (at 19) short true 1 2 1 initial.Zero ∷ []) ∷ []);
      proctypes = (
          process (at 40) 7 0 1 (slot (at 43) byte false 0 1 1 initial.Zero ∷ slot (at 47) byte false 1 1 1 initial.Zero ∷ slot (at 50)
          byte false 2 1 1 (initial.Value (number 3)) ∷ []) (
          plain (part 54 57) (action.Receive (global 4 chan) First Remove (want.Exactly (pos 2) ∷ [])) ∷
          plain (part 58 66) (action.Printf (at 60) ((read (local 1 byte)) ∷ (read (local 2 byte)) ∷ [])) ∷ []) (at 66) ∷
          process (at 67) 8 1 0 (slot (at 70) byte false 0 1 1 initial.Zero ∷ []) (
          plain (part 72 77) (action.Run (run 0 ((number 3) ∷ []))) ∷
          plain (part 78 83) (action.Run (run 0 ((number 3) ∷ []))) ∷
          plain (part 84 92) (action.Printf (at 86) ((read (global 1 short)) ∷ (read (global 0 byte)) ∷ [])) ∷
          if_fi (part 93 105) (
          (plain (part 95 96) (holds expr.Timeout) ∷
          plain (part 97 98) (holds (number 1)) ∷ []) ∷
          (plain (part 99 102) (holds (expr.Binary op.Equal expr.ProcessCount (number 1))) ∷
          plain (part 103 104) (holds (number 1)) ∷ []) ∷ []) ∷
          plain (part 106 125) (action.Printf (at 108) ((read (global 0 byte)) ∷ (read (global 1 short)) ∷ (read (in_global 3 byte (turn
          0 1 3 None ∷ turn 0 1 1 None ∷ []))) ∷ (read (in_global 3 short (turn 0 1 3 None ∷ turn 1 2 1 (Some (number 1)) ∷ []))) ∷
          [])) ∷ []) (at 125) ∷ []);
    }

prints-spin-46 : printed model-spin-46 6 ([])
    ≡ Some (shown (text (
    "p 0 0\n" ∷
    "0 0 0 0\n" ∷
    [])) Invalid)
unfolding computes model-spin-46
prints-spin-46 = prints model-spin-46 6 ([]) _ refl

-- mtype = { red, green, blue }; mtype m = green;
-- unsigned u0 : 9;
-- int i1;
-- short a[2];
-- proctype P0(byte n) { byte k; short v = 4; { printf("= %d %d\n", v, k); printf("at %u\n", u0) } unless { (v > 0) -> printf("at
--     %u\n", n) }; a[(n & 1)] = 1; printf("P0 ends %d %d\n", k, v) }
-- init { byte k; run P0(1); run P0(2); k++; if :: timeout -> skip :: _nr_pr == 1 -> skip fi; printf("%d %d\n", u0, i1) }
tokens-spin-47 : List Word
tokens-spin-47 =
    on 1 kind.Mtype "mtype" ∷ on 1 kind.Assign "=" ∷ on 1 kind.OpenBrace "{" ∷ on 1 kind.Name "red" ∷ on 1 kind.Comma "," ∷
    on 1 kind.Name "green" ∷ on 1 kind.Comma "," ∷ on 1 kind.Name "blue" ∷ on 1 kind.CloseBrace "}" ∷ on 1 kind.Semicolon ";" ∷
    on 1 kind.Mtype "mtype" ∷ on 1 kind.Name "m" ∷ on 1 kind.Assign "=" ∷ on 1 kind.Name "green" ∷ on 1 kind.Semicolon ";" ∷
    on 2 kind.Unsigned "unsigned" ∷ on 2 kind.Name "u0" ∷ on 2 kind.Colon ":" ∷ on 2 kind.Number "9" ∷ on 2 kind.Semicolon ";" ∷
    on 3 kind.Int "int" ∷ on 3 kind.Name "i1" ∷ on 3 kind.Semicolon ";" ∷ on 4 kind.Short "short" ∷ on 4 kind.Name "a" ∷
    on 4 kind.OpenBracket "[" ∷ on 4 kind.Number "2" ∷ on 4 kind.CloseBracket "]" ∷ on 4 kind.Semicolon ";" ∷
    on 5 kind.Proctype "proctype" ∷ on 5 kind.Name "P0" ∷ on 5 kind.OpenParen "(" ∷ on 5 kind.Byte "byte" ∷ on 5 kind.Name "n" ∷
    on 5 kind.CloseParen ")" ∷ on 5 kind.OpenBrace "{" ∷ on 5 kind.Byte "byte" ∷ on 5 kind.Name "k" ∷ on 5 kind.Semicolon ";" ∷
    on 5 kind.Short "short" ∷ on 5 kind.Name "v" ∷ on 5 kind.Assign "=" ∷ on 5 kind.Number "4" ∷ on 5 kind.Semicolon ";" ∷
    on 5 kind.OpenBrace "{" ∷ on 5 kind.Printf "printf" ∷ on 5 kind.OpenParen "(" ∷ on 5 kind.Quoted "\"= %d %d\\n\"" ∷
    on 5 kind.Comma "," ∷ on 5 kind.Name "v" ∷ on 5 kind.Comma "," ∷ on 5 kind.Name "k" ∷ on 5 kind.CloseParen ")" ∷
    on 5 kind.Semicolon ";" ∷ on 5 kind.Printf "printf" ∷ on 5 kind.OpenParen "(" ∷ on 5 kind.Quoted "\"at %u\\n\"" ∷
    on 5 kind.Comma "," ∷ on 5 kind.Name "u0" ∷ on 5 kind.CloseParen ")" ∷ on 5 kind.CloseBrace "}" ∷ on 5 kind.Unless "unless" ∷
    on 5 kind.OpenBrace "{" ∷ on 5 kind.OpenParen "(" ∷ on 5 kind.Name "v" ∷ on 5 kind.Greater ">" ∷ on 5 kind.Number "0" ∷
    on 5 kind.CloseParen ")" ∷ on 5 kind.Arrow "->" ∷ on 5 kind.Printf "printf" ∷ on 5 kind.OpenParen "(" ∷
    on 5 kind.Quoted "\"at %u\\n\"" ∷ on 5 kind.Comma "," ∷ on 5 kind.Name "n" ∷ on 5 kind.CloseParen ")" ∷
    on 5 kind.CloseBrace "}" ∷ on 5 kind.Semicolon ";" ∷ on 5 kind.Name "a" ∷ on 5 kind.OpenBracket "[" ∷ on 5 kind.OpenParen "(" ∷
    on 5 kind.Name "n" ∷ on 5 kind.Ampersand "&" ∷ on 5 kind.Number "1" ∷ on 5 kind.CloseParen ")" ∷ on 5 kind.CloseBracket "]" ∷
    on 5 kind.Assign "=" ∷ on 5 kind.Number "1" ∷ on 5 kind.Semicolon ";" ∷ on 5 kind.Printf "printf" ∷ on 5 kind.OpenParen "(" ∷
    on 5 kind.Quoted "\"P0 ends %d %d\\n\"" ∷ on 5 kind.Comma "," ∷ on 5 kind.Name "k" ∷ on 5 kind.Comma "," ∷ on 5 kind.Name "v" ∷
    on 5 kind.CloseParen ")" ∷ on 5 kind.CloseBrace "}" ∷ on 6 kind.Init "init" ∷ on 6 kind.OpenBrace "{" ∷ on 6 kind.Byte "byte" ∷
    on 6 kind.Name "k" ∷ on 6 kind.Semicolon ";" ∷ on 6 kind.Run "run" ∷ on 6 kind.Name "P0" ∷ on 6 kind.OpenParen "(" ∷
    on 6 kind.Number "1" ∷ on 6 kind.CloseParen ")" ∷ on 6 kind.Semicolon ";" ∷ on 6 kind.Run "run" ∷ on 6 kind.Name "P0" ∷
    on 6 kind.OpenParen "(" ∷ on 6 kind.Number "2" ∷ on 6 kind.CloseParen ")" ∷ on 6 kind.Semicolon ";" ∷ on 6 kind.Name "k" ∷
    on 6 kind.Increment "++" ∷ on 6 kind.Semicolon ";" ∷ on 6 kind.If "if" ∷ on 6 kind.DoubleColon "::" ∷
    on 6 kind.Timeout "timeout" ∷ on 6 kind.Arrow "->" ∷ on 6 kind.Skip "skip" ∷ on 6 kind.DoubleColon "::" ∷
    on 6 kind.Name "_nr_pr" ∷ on 6 kind.Equal "==" ∷ on 6 kind.Number "1" ∷ on 6 kind.Arrow "->" ∷ on 6 kind.Skip "skip" ∷
    on 6 kind.Fi "fi" ∷ on 6 kind.Semicolon ";" ∷ on 6 kind.Printf "printf" ∷ on 6 kind.OpenParen "(" ∷
    on 6 kind.Quoted "\"%d %d\\n\"" ∷ on 6 kind.Comma "," ∷ on 6 kind.Name "u0" ∷ on 6 kind.Comma "," ∷ on 6 kind.Name "i1" ∷
    on 6 kind.CloseParen ")" ∷ on 6 kind.CloseBrace "}" ∷ []

model-spin-47 : Program
unfolding tokens-spin-47
model-spin-47 =
    let at : ℕ → Word = token_at tokens-spin-47 in
    let part : ℕ → ℕ → List Word = tokens_between tokens-spin-47 in
    record {
      globals = (slot (at 11) mtype false 0 1 1 (initial.Value (number 2)) ∷ slot (at 16) (form.Unsigned 9) false 1 1 1 initial.Zero ∷
          slot (at 21) int false 2 1 1 initial.Zero ∷ slot (at 24) short true 3 2 1 initial.Zero ∷ []);
      constants = ((at 7) ∷ (at 5) ∷ (at 3) ∷ []);
      typedefs = [];
      proctypes = (
          process (at 30) 6 0 1 (slot (at 33) byte false 0 1 1 initial.Zero ∷ slot (at 37) byte false 1 1 1 initial.Zero ∷ slot (at 40)
          short false 2 1 1 (initial.Value (number 4)) ∷ []) (
          unless (part 44 76) (
          block (part 44 61) (
          plain (part 45 53) (action.Printf (at 47) ((read (local 2 short)) ∷ (read (local 1 byte)) ∷ [])) ∷
          plain (part 54 60) (action.Printf (at 56) ((read (global 1 (form.Unsigned 9))) ∷ [])) ∷ []) ∷ []) (
          block (part 62 76) (
          plain (part 63 68) (holds (expr.Binary op.Above (read (local 2 short)) (number 0))) ∷
          plain (part 69 75) (action.Printf (at 71) ((read (local 0 byte)) ∷ [])) ∷ []) ∷ []) ∷
          plain (part 77 87) (assign (in_global 3 short (turn 0 2 1 (Some (expr.Binary op.BitAnd (read (local 0 byte)) (number 1))) ∷
          [])) (number 1)) ∷
          plain (part 88 96) (action.Printf (at 90) ((read (local 1 byte)) ∷ (read (local 2 short)) ∷ [])) ∷ []) (at 96) ∷
          process (at 97) 7 1 0 (slot (at 100) byte false 0 1 1 initial.Zero ∷ []) (
          plain (part 102 107) (action.Run (run 0 ((number 1) ∷ []))) ∷
          plain (part 108 113) (action.Run (run 0 ((number 2) ∷ []))) ∷
          plain (part 114 116) (action.Increment (local 0 byte)) ∷
          if_fi (part 117 129) (
          (plain (part 119 120) (holds expr.Timeout) ∷
          plain (part 121 122) (holds (number 1)) ∷ []) ∷
          (plain (part 123 126) (holds (expr.Binary op.Equal expr.ProcessCount (number 1))) ∷
          plain (part 127 128) (holds (number 1)) ∷ []) ∷ []) ∷
          plain (part 130 138) (action.Printf (at 132) ((read (global 1 (form.Unsigned 9))) ∷ (read (global 2 int)) ∷ [])) ∷ []) (at 138) ∷ []);
    }

prints-spin-47 : printed model-spin-47 17 (2 ∷ 1 ∷ 2 ∷ 1 ∷ 2 ∷ 2 ∷ 1 ∷ 1 ∷ [])
    ≡ Some (shown (text (
    "at 1\n" ∷
    "at 2\n" ∷
    "P0 ends 0 4\n" ∷
    "P0 ends 0 4\n" ∷
    "0 0\n" ∷
    [])) Valid)
unfolding computes model-spin-47
prints-spin-47 = prints model-spin-47 17 (2 ∷ 1 ∷ 2 ∷ 1 ∷ 2 ∷ 2 ∷ 1 ∷ 1 ∷ []) _ refl

-- unsigned u0 : 6;
-- chan q0 = [1] of { byte };
-- proctype P0(byte n) { byte k; byte v = 5; if :: n = 300 :: else -> q0!!3 fi; if :: 100 <= 7 -> if :: v = k :: printf("p %u %d\n",
--     n, k); q0??v fi; q0!!7 :: 255 <= (255 / 4) -> for (k : 1 .. 1) { printf("= %d %x\n", v, n) } :: else -> printf("at %d %o\n",
--     u0, k) fi; printf("P0 ends %d %d\n", k, v) }
-- init { byte k; run P0(1); d_step { u0 = 3; k = 1 }; if :: timeout -> skip :: _nr_pr == 1 -> skip fi; printf("%d\n", u0) }
tokens-spin-48 : List Word
tokens-spin-48 =
    on 1 kind.Unsigned "unsigned" ∷ on 1 kind.Name "u0" ∷ on 1 kind.Colon ":" ∷ on 1 kind.Number "6" ∷ on 1 kind.Semicolon ";" ∷
    on 2 kind.Chan "chan" ∷ on 2 kind.Name "q0" ∷ on 2 kind.Assign "=" ∷ on 2 kind.OpenBracket "[" ∷ on 2 kind.Number "1" ∷
    on 2 kind.CloseBracket "]" ∷ on 2 kind.Of "of" ∷ on 2 kind.OpenBrace "{" ∷ on 2 kind.Byte "byte" ∷ on 2 kind.CloseBrace "}" ∷
    on 2 kind.Semicolon ";" ∷ on 3 kind.Proctype "proctype" ∷ on 3 kind.Name "P0" ∷ on 3 kind.OpenParen "(" ∷ on 3 kind.Byte "byte" ∷
    on 3 kind.Name "n" ∷ on 3 kind.CloseParen ")" ∷ on 3 kind.OpenBrace "{" ∷ on 3 kind.Byte "byte" ∷ on 3 kind.Name "k" ∷
    on 3 kind.Semicolon ";" ∷ on 3 kind.Byte "byte" ∷ on 3 kind.Name "v" ∷ on 3 kind.Assign "=" ∷ on 3 kind.Number "5" ∷
    on 3 kind.Semicolon ";" ∷ on 3 kind.If "if" ∷ on 3 kind.DoubleColon "::" ∷ on 3 kind.Name "n" ∷ on 3 kind.Assign "=" ∷
    on 3 kind.Number "300" ∷ on 3 kind.DoubleColon "::" ∷ on 3 kind.Else "else" ∷ on 3 kind.Arrow "->" ∷ on 3 kind.Name "q0" ∷
    on 3 kind.BangBang "!!" ∷ on 3 kind.Number "3" ∷ on 3 kind.Fi "fi" ∷ on 3 kind.Semicolon ";" ∷ on 3 kind.If "if" ∷
    on 3 kind.DoubleColon "::" ∷ on 3 kind.Number "100" ∷ on 3 kind.AtMost "<=" ∷ on 3 kind.Number "7" ∷ on 3 kind.Arrow "->" ∷
    on 3 kind.If "if" ∷ on 3 kind.DoubleColon "::" ∷ on 3 kind.Name "v" ∷ on 3 kind.Assign "=" ∷ on 3 kind.Name "k" ∷
    on 3 kind.DoubleColon "::" ∷ on 3 kind.Printf "printf" ∷ on 3 kind.OpenParen "(" ∷ on 3 kind.Quoted "\"p %u %d\\n\"" ∷
    on 3 kind.Comma "," ∷ on 3 kind.Name "n" ∷ on 3 kind.Comma "," ∷ on 3 kind.Name "k" ∷ on 3 kind.CloseParen ")" ∷
    on 3 kind.Semicolon ";" ∷ on 3 kind.Name "q0" ∷ on 3 kind.QueryQuery "??" ∷ on 3 kind.Name "v" ∷ on 3 kind.Fi "fi" ∷
    on 3 kind.Semicolon ";" ∷ on 3 kind.Name "q0" ∷ on 3 kind.BangBang "!!" ∷ on 3 kind.Number "7" ∷ on 3 kind.DoubleColon "::" ∷
    on 3 kind.Number "255" ∷ on 3 kind.AtMost "<=" ∷ on 3 kind.OpenParen "(" ∷ on 3 kind.Number "255" ∷ on 3 kind.Slash "/" ∷
    on 3 kind.Number "4" ∷ on 3 kind.CloseParen ")" ∷ on 3 kind.Arrow "->" ∷ on 3 kind.For "for" ∷ on 3 kind.OpenParen "(" ∷
    on 3 kind.Name "k" ∷ on 3 kind.Colon ":" ∷ on 3 kind.Number "1" ∷ on 3 kind.DotDot ".." ∷ on 3 kind.Number "1" ∷
    on 3 kind.CloseParen ")" ∷ on 3 kind.OpenBrace "{" ∷ on 3 kind.Printf "printf" ∷ on 3 kind.OpenParen "(" ∷
    on 3 kind.Quoted "\"= %d %x\\n\"" ∷ on 3 kind.Comma "," ∷ on 3 kind.Name "v" ∷ on 3 kind.Comma "," ∷ on 3 kind.Name "n" ∷
    on 3 kind.CloseParen ")" ∷ on 3 kind.CloseBrace "}" ∷ on 3 kind.DoubleColon "::" ∷ on 3 kind.Else "else" ∷ on 3 kind.Arrow "->" ∷
    on 3 kind.Printf "printf" ∷ on 3 kind.OpenParen "(" ∷ on 3 kind.Quoted "\"at %d %o\\n\"" ∷ on 3 kind.Comma "," ∷
    on 3 kind.Name "u0" ∷ on 3 kind.Comma "," ∷ on 3 kind.Name "k" ∷ on 3 kind.CloseParen ")" ∷ on 3 kind.Fi "fi" ∷
    on 3 kind.Semicolon ";" ∷ on 3 kind.Printf "printf" ∷ on 3 kind.OpenParen "(" ∷ on 3 kind.Quoted "\"P0 ends %d %d\\n\"" ∷
    on 3 kind.Comma "," ∷ on 3 kind.Name "k" ∷ on 3 kind.Comma "," ∷ on 3 kind.Name "v" ∷ on 3 kind.CloseParen ")" ∷
    on 3 kind.CloseBrace "}" ∷ on 4 kind.Init "init" ∷ on 4 kind.OpenBrace "{" ∷ on 4 kind.Byte "byte" ∷ on 4 kind.Name "k" ∷
    on 4 kind.Semicolon ";" ∷ on 4 kind.Run "run" ∷ on 4 kind.Name "P0" ∷ on 4 kind.OpenParen "(" ∷ on 4 kind.Number "1" ∷
    on 4 kind.CloseParen ")" ∷ on 4 kind.Semicolon ";" ∷ on 4 kind.DStep "d_step" ∷ on 4 kind.OpenBrace "{" ∷ on 4 kind.Name "u0" ∷
    on 4 kind.Assign "=" ∷ on 4 kind.Number "3" ∷ on 4 kind.Semicolon ";" ∷ on 4 kind.Name "k" ∷ on 4 kind.Assign "=" ∷
    on 4 kind.Number "1" ∷ on 4 kind.CloseBrace "}" ∷ on 4 kind.Semicolon ";" ∷ on 4 kind.If "if" ∷ on 4 kind.DoubleColon "::" ∷
    on 4 kind.Timeout "timeout" ∷ on 4 kind.Arrow "->" ∷ on 4 kind.Skip "skip" ∷ on 4 kind.DoubleColon "::" ∷
    on 4 kind.Name "_nr_pr" ∷ on 4 kind.Equal "==" ∷ on 4 kind.Number "1" ∷ on 4 kind.Arrow "->" ∷ on 4 kind.Skip "skip" ∷
    on 4 kind.Fi "fi" ∷ on 4 kind.Semicolon ";" ∷ on 4 kind.Printf "printf" ∷ on 4 kind.OpenParen "(" ∷
    on 4 kind.Quoted "\"%d\\n\"" ∷ on 4 kind.Comma "," ∷ on 4 kind.Name "u0" ∷ on 4 kind.CloseParen ")" ∷ on 4 kind.CloseBrace "}" ∷ []

model-spin-48 : Program
unfolding tokens-spin-48
model-spin-48 =
    let at : ℕ → Word = token_at tokens-spin-48 in
    let part : ℕ → ℕ → List Word = tokens_between tokens-spin-48 in
    record {
      globals = (slot (at 1) (form.Unsigned 6) false 0 1 1 initial.Zero ∷ slot (at 6) chan false 1 1 1 (initial.Channel 1 (byte ∷ [])) ∷ []);
      constants = [];
      typedefs = [];
      proctypes = (
          process (at 17) 3 0 1 (slot (at 20) byte false 0 1 1 initial.Zero ∷ slot (at 24) byte false 1 1 1 initial.Zero ∷ slot (at 27)
          byte false 2 1 1 (initial.Value (number 5)) ∷ []) (
          if_fi (part 31 43) (
          (plain (part 33 36) (assign (local 0 byte) (number 300)) ∷ []) ∷
          (plain (part 37 38) action.Else ∷
          plain (part 39 42) (action.Send (global 1 chan) Sorted ((number 3) ∷ [])) ∷ []) ∷ []) ∷
          if_fi (part 44 112) (
          (plain (part 46 49) (holds (expr.Binary op.AtMost (number 100) (number 7))) ∷
          if_fi (part 50 69) (
          (plain (part 52 55) (assign (local 2 byte) (read (local 1 byte))) ∷ []) ∷
          (plain (part 56 64) (action.Printf (at 58) ((read (local 0 byte)) ∷ (read (local 1 byte)) ∷ [])) ∷
          plain (part 65 68) (action.Receive (global 1 chan) Matching Remove (want.Into (local 2 byte) ∷ [])) ∷ []) ∷ []) ∷
          plain (part 70 73) (action.Send (global 1 chan) Sorted ((number 7) ∷ [])) ∷ []) ∷
          (plain (part 74 81) (holds (expr.Binary op.AtMost (number 255) (expr.Binary op.Divide (number 255) (number 4)))) ∷
          block (part 82 100) (
          plain ((at 84) ∷ (on 3 kind.Assign "=") ∷ (at 86) ∷ []) (assign (local 1 byte) (number 1)) ∷
          do_od ((on 3 kind.Do "do") ∷ []) (
          (plain ((at 84) ∷ (on 3 kind.AtMost "<=") ∷ (at 88) ∷ []) (holds (expr.Binary op.AtMost (read (local 1 byte)) (number 1))) ∷
          plain (part 91 99) (action.Printf (at 93) ((read (local 2 byte)) ∷ (read (local 0 byte)) ∷ [])) ∷
          plain ((at 84) ∷ (on 3 kind.Increment "++") ∷ []) (action.Increment (local 1 byte)) ∷ []) ∷
          (plain ((on 3 kind.Else "else") ∷ []) action.Else ∷
          stmt [] Break ((on 3 kind.Break "break") ∷ []) ∷ []) ∷ []) ∷ []) ∷ []) ∷
          (plain (part 101 102) action.Else ∷
          plain (part 103 111) (action.Printf (at 105) ((read (global 0 (form.Unsigned 6))) ∷ (read (local 1 byte)) ∷ [])) ∷ []) ∷ []) ∷
          plain (part 113 121) (action.Printf (at 115) ((read (local 1 byte)) ∷ (read (local 2 byte)) ∷ [])) ∷ []) (at 121) ∷
          process (at 122) 4 1 0 (slot (at 125) byte false 0 1 1 initial.Zero ∷ []) (
          plain (part 127 132) (action.Run (run 0 ((number 1) ∷ []))) ∷
          d_step (part 133 143) (
          plain (part 135 138) (assign (global 0 (form.Unsigned 6)) (number 3)) ∷
          plain (part 139 142) (assign (local 0 byte) (number 1)) ∷ []) ∷
          if_fi (part 144 156) (
          (plain (part 146 147) (holds expr.Timeout) ∷
          plain (part 148 149) (holds (number 1)) ∷ []) ∷
          (plain (part 150 153) (holds (expr.Binary op.Equal expr.ProcessCount (number 1))) ∷
          plain (part 154 155) (holds (number 1)) ∷ []) ∷ []) ∷
          plain (part 157 163) (action.Printf (at 159) ((read (global 0 (form.Unsigned 6))) ∷ [])) ∷ []) (at 163) ∷ []);
    }

prints-spin-48 : printed model-spin-48 11 (1 ∷ [])
    ≡ Some (shown (text (
    "at 3 0\n" ∷
    "P0 ends 0 5\n" ∷
    "3\n" ∷
    [])) Valid)
unfolding computes model-spin-48
prints-spin-48 = prints model-spin-48 11 (1 ∷ []) _ refl

-- int i0;
-- short s1;
-- typedef T { byte f; short g[2] }; T r;
-- chan q0 = [1] of { short, byte };
-- chan q1 = [0] of { int };
-- proctype P0(byte n) { byte k; int v = 4; atomic { q1??r.g[1]; if :: printf("= %u %d\n", s1, r.f) :: r.f = 7 fi }; printf("p %u
--     %d\n", r.g[1], k); printf("P0 ends %d %d\n", k, v) }
-- init { byte k; run P0(2); atomic { i0++; q1!(~100) }; q0!!i0, 7; if :: timeout -> skip :: _nr_pr == 1 -> skip fi; printf("%d %d %d
--     %d\n", i0, s1, r.f, r.g[1]) }
tokens-spin-50 : List Word
tokens-spin-50 =
    on 1 kind.Int "int" ∷ on 1 kind.Name "i0" ∷ on 1 kind.Semicolon ";" ∷ on 2 kind.Short "short" ∷ on 2 kind.Name "s1" ∷
    on 2 kind.Semicolon ";" ∷ on 3 kind.Typedef "typedef" ∷ on 3 kind.Name "T" ∷ on 3 kind.OpenBrace "{" ∷ on 3 kind.Byte "byte" ∷
    on 3 kind.Name "f" ∷ on 3 kind.Semicolon ";" ∷ on 3 kind.Short "short" ∷ on 3 kind.Name "g" ∷ on 3 kind.OpenBracket "[" ∷
    on 3 kind.Number "2" ∷ on 3 kind.CloseBracket "]" ∷ on 3 kind.CloseBrace "}" ∷ on 3 kind.Semicolon ";" ∷ on 3 kind.Name "T" ∷
    on 3 kind.Name "r" ∷ on 3 kind.Semicolon ";" ∷ on 4 kind.Chan "chan" ∷ on 4 kind.Name "q0" ∷ on 4 kind.Assign "=" ∷
    on 4 kind.OpenBracket "[" ∷ on 4 kind.Number "1" ∷ on 4 kind.CloseBracket "]" ∷ on 4 kind.Of "of" ∷ on 4 kind.OpenBrace "{" ∷
    on 4 kind.Short "short" ∷ on 4 kind.Comma "," ∷ on 4 kind.Byte "byte" ∷ on 4 kind.CloseBrace "}" ∷ on 4 kind.Semicolon ";" ∷
    on 5 kind.Chan "chan" ∷ on 5 kind.Name "q1" ∷ on 5 kind.Assign "=" ∷ on 5 kind.OpenBracket "[" ∷ on 5 kind.Number "0" ∷
    on 5 kind.CloseBracket "]" ∷ on 5 kind.Of "of" ∷ on 5 kind.OpenBrace "{" ∷ on 5 kind.Int "int" ∷ on 5 kind.CloseBrace "}" ∷
    on 5 kind.Semicolon ";" ∷ on 6 kind.Proctype "proctype" ∷ on 6 kind.Name "P0" ∷ on 6 kind.OpenParen "(" ∷ on 6 kind.Byte "byte" ∷
    on 6 kind.Name "n" ∷ on 6 kind.CloseParen ")" ∷ on 6 kind.OpenBrace "{" ∷ on 6 kind.Byte "byte" ∷ on 6 kind.Name "k" ∷
    on 6 kind.Semicolon ";" ∷ on 6 kind.Int "int" ∷ on 6 kind.Name "v" ∷ on 6 kind.Assign "=" ∷ on 6 kind.Number "4" ∷
    on 6 kind.Semicolon ";" ∷ on 6 kind.Atomic "atomic" ∷ on 6 kind.OpenBrace "{" ∷ on 6 kind.Name "q1" ∷ on 6 kind.QueryQuery "??" ∷
    on 6 kind.Name "r" ∷ on 6 kind.Dot "." ∷ on 6 kind.Name "g" ∷ on 6 kind.OpenBracket "[" ∷ on 6 kind.Number "1" ∷
    on 6 kind.CloseBracket "]" ∷ on 6 kind.Semicolon ";" ∷ on 6 kind.If "if" ∷ on 6 kind.DoubleColon "::" ∷
    on 6 kind.Printf "printf" ∷ on 6 kind.OpenParen "(" ∷ on 6 kind.Quoted "\"= %u %d\\n\"" ∷ on 6 kind.Comma "," ∷
    on 6 kind.Name "s1" ∷ on 6 kind.Comma "," ∷ on 6 kind.Name "r" ∷ on 6 kind.Dot "." ∷ on 6 kind.Name "f" ∷
    on 6 kind.CloseParen ")" ∷ on 6 kind.DoubleColon "::" ∷ on 6 kind.Name "r" ∷ on 6 kind.Dot "." ∷ on 6 kind.Name "f" ∷
    on 6 kind.Assign "=" ∷ on 6 kind.Number "7" ∷ on 6 kind.Fi "fi" ∷ on 6 kind.CloseBrace "}" ∷ on 6 kind.Semicolon ";" ∷
    on 6 kind.Printf "printf" ∷ on 6 kind.OpenParen "(" ∷ on 6 kind.Quoted "\"p %u %d\\n\"" ∷ on 6 kind.Comma "," ∷
    on 6 kind.Name "r" ∷ on 6 kind.Dot "." ∷ on 6 kind.Name "g" ∷ on 6 kind.OpenBracket "[" ∷ on 6 kind.Number "1" ∷
    on 6 kind.CloseBracket "]" ∷ on 6 kind.Comma "," ∷ on 6 kind.Name "k" ∷ on 6 kind.CloseParen ")" ∷ on 6 kind.Semicolon ";" ∷
    on 6 kind.Printf "printf" ∷ on 6 kind.OpenParen "(" ∷ on 6 kind.Quoted "\"P0 ends %d %d\\n\"" ∷ on 6 kind.Comma "," ∷
    on 6 kind.Name "k" ∷ on 6 kind.Comma "," ∷ on 6 kind.Name "v" ∷ on 6 kind.CloseParen ")" ∷ on 6 kind.CloseBrace "}" ∷
    on 7 kind.Init "init" ∷ on 7 kind.OpenBrace "{" ∷ on 7 kind.Byte "byte" ∷ on 7 kind.Name "k" ∷ on 7 kind.Semicolon ";" ∷
    on 7 kind.Run "run" ∷ on 7 kind.Name "P0" ∷ on 7 kind.OpenParen "(" ∷ on 7 kind.Number "2" ∷ on 7 kind.CloseParen ")" ∷
    on 7 kind.Semicolon ";" ∷ on 7 kind.Atomic "atomic" ∷ on 7 kind.OpenBrace "{" ∷ on 7 kind.Name "i0" ∷ on 7 kind.Increment "++" ∷
    on 7 kind.Semicolon ";" ∷ on 7 kind.Name "q1" ∷ on 7 kind.Bang "!" ∷ on 7 kind.OpenParen "(" ∷ on 7 kind.Tilde "~" ∷
    on 7 kind.Number "100" ∷ on 7 kind.CloseParen ")" ∷ on 7 kind.CloseBrace "}" ∷ on 7 kind.Semicolon ";" ∷ on 7 kind.Name "q0" ∷
    on 7 kind.BangBang "!!" ∷ on 7 kind.Name "i0" ∷ on 7 kind.Comma "," ∷ on 7 kind.Number "7" ∷ on 7 kind.Semicolon ";" ∷
    on 7 kind.If "if" ∷ on 7 kind.DoubleColon "::" ∷ on 7 kind.Timeout "timeout" ∷ on 7 kind.Arrow "->" ∷ on 7 kind.Skip "skip" ∷
    on 7 kind.DoubleColon "::" ∷ on 7 kind.Name "_nr_pr" ∷ on 7 kind.Equal "==" ∷ on 7 kind.Number "1" ∷ on 7 kind.Arrow "->" ∷
    on 7 kind.Skip "skip" ∷ on 7 kind.Fi "fi" ∷ on 7 kind.Semicolon ";" ∷ on 7 kind.Printf "printf" ∷ on 7 kind.OpenParen "(" ∷
    on 7 kind.Quoted "\"%d %d %d %d\\n\"" ∷ on 7 kind.Comma "," ∷ on 7 kind.Name "i0" ∷ on 7 kind.Comma "," ∷ on 7 kind.Name "s1" ∷
    on 7 kind.Comma "," ∷ on 7 kind.Name "r" ∷ on 7 kind.Dot "." ∷ on 7 kind.Name "f" ∷ on 7 kind.Comma "," ∷ on 7 kind.Name "r" ∷
    on 7 kind.Dot "." ∷ on 7 kind.Name "g" ∷ on 7 kind.OpenBracket "[" ∷ on 7 kind.Number "1" ∷ on 7 kind.CloseBracket "]" ∷
    on 7 kind.CloseParen ")" ∷ on 7 kind.CloseBrace "}" ∷ []

model-spin-50 : Program
unfolding tokens-spin-50
model-spin-50 =
    let at : ℕ → Word = token_at tokens-spin-50 in
    let part : ℕ → ℕ → List Word = tokens_between tokens-spin-50 in
    record {
      globals = (slot (at 1) int false 0 1 1 initial.Zero ∷ slot (at 4) short false 1 1 1 initial.Zero ∷ slot (at 20) (form.Struct 3)
          false 2 1 3 initial.Zero ∷ slot (at 23) chan false 5 1 1 (initial.Channel 1 (short ∷ byte ∷ [])) ∷ slot (at 36) chan false 6 1
          1 (initial.Channel 0 (int ∷ [])) ∷ []);
      constants = [];
      typedefs = (fields 3 (slot (at 10) byte false 0 1 1 initial.Zero ∷ slot (at 13) short true 1 2 1 initial.Zero ∷ []) ∷ []);
      proctypes = (
          process (at 47) 7 0 1 (slot (at 50) byte false 0 1 1 initial.Zero ∷ slot (at 54) byte false 1 1 1 initial.Zero ∷ slot (at 57)
          int false 2 1 1 (initial.Value (number 4)) ∷ []) (
          atomic (part 61 92) (
          plain (part 63 71) (action.Receive (global 4 chan) Matching Remove (want.Into (in_global 2 short (turn 0 1 3 None ∷ turn 1 2 1
          (Some (number 1)) ∷ [])) ∷ [])) ∷
          if_fi (part 72 91) (
          (plain (part 74 84) (action.Printf (at 76) ((read (global 1 short)) ∷ (read (in_global 2 byte (turn 0 1 3 None ∷ turn 0 1 1
          None ∷ []))) ∷ [])) ∷ []) ∷
          (plain (part 85 90) (assign (in_global 2 byte (turn 0 1 3 None ∷ turn 0 1 1 None ∷ [])) (number 7)) ∷ []) ∷ []) ∷ []) ∷
          plain (part 93 106) (action.Printf (at 95) ((read (in_global 2 short (turn 0 1 3 None ∷ turn 1 2 1 (Some (number 1)) ∷ []))) ∷
          (read (local 1 byte)) ∷ [])) ∷
          plain (part 107 115) (action.Printf (at 109) ((read (local 1 byte)) ∷ (read (local 2 int)) ∷ [])) ∷ []) (at 115) ∷
          process (at 116) 8 1 0 (slot (at 119) byte false 0 1 1 initial.Zero ∷ []) (
          plain (part 121 126) (action.Run (run 0 ((number 2) ∷ []))) ∷
          atomic (part 127 139) (
          plain (part 129 131) (action.Increment (global 0 int)) ∷
          plain (part 132 138) (action.Send (global 4 chan) Fifo ((expr.Unary before.Complement (number 100)) ∷ [])) ∷ []) ∷
          plain (part 140 145) (action.Send (global 3 chan) Sorted ((read (global 0 int)) ∷ (number 7) ∷ [])) ∷
          if_fi (part 146 158) (
          (plain (part 148 149) (holds expr.Timeout) ∷
          plain (part 150 151) (holds (number 1)) ∷ []) ∷
          (plain (part 152 155) (holds (expr.Binary op.Equal expr.ProcessCount (number 1))) ∷
          plain (part 156 157) (holds (number 1)) ∷ []) ∷ []) ∷
          plain (part 159 178) (action.Printf (at 161) ((read (global 0 int)) ∷ (read (global 1 short)) ∷ (read (in_global 2 byte (turn
          0 1 3 None ∷ turn 0 1 1 None ∷ []))) ∷ (read (in_global 2 short (turn 0 1 3 None ∷ turn 1 2 1 (Some (number 1)) ∷ []))) ∷
          [])) ∷ []) (at 178) ∷ []);
    }

prints-spin-50 : printed model-spin-50 12 (2 ∷ 2 ∷ 2 ∷ 2 ∷ [])
    ≡ Some (shown (text (
    "p 4294967195 0\n" ∷
    "P0 ends 0 4\n" ∷
    "1 0 7 -101\n" ∷
    [])) Valid)
unfolding computes model-spin-50
prints-spin-50 = prints model-spin-50 12 (2 ∷ 2 ∷ 2 ∷ 2 ∷ []) _ refl

-- unsigned u0 : 9;
-- byte a[2];
-- typedef T { byte f; short g[2] }; T r;
-- chan q0 = [2] of { byte };
-- proctype P0(byte n) { byte k; int v = 3; r.f++; (300 >= a[1]); if :: do :: q0??_ :: else -> q0!100 :: break od :: _pid == a[(r.f &
--     1)] -> q0!3 :: else -> a[1] = 1 fi; printf("P0 ends %d %d\n", k, v) }
-- proctype P1(byte n) { byte k; byte v = 4; q0!(100 >= 255 -> 255 : 1); a[0] = ((3 + 1) < 2 -> 7 : a[(u0 & 1)]); printf("P1 ends %d
--     %d\n", k, v) }
-- init { byte k; run P0(2); k = 0; a[0] = 1; if :: timeout -> skip :: _nr_pr == 1 -> skip fi; printf("%d %d %d\n", u0, r.f, r.g[1]) }
tokens-spin-52 : List Word
tokens-spin-52 =
    on 1 kind.Unsigned "unsigned" ∷ on 1 kind.Name "u0" ∷ on 1 kind.Colon ":" ∷ on 1 kind.Number "9" ∷ on 1 kind.Semicolon ";" ∷
    on 2 kind.Byte "byte" ∷ on 2 kind.Name "a" ∷ on 2 kind.OpenBracket "[" ∷ on 2 kind.Number "2" ∷ on 2 kind.CloseBracket "]" ∷
    on 2 kind.Semicolon ";" ∷ on 3 kind.Typedef "typedef" ∷ on 3 kind.Name "T" ∷ on 3 kind.OpenBrace "{" ∷ on 3 kind.Byte "byte" ∷
    on 3 kind.Name "f" ∷ on 3 kind.Semicolon ";" ∷ on 3 kind.Short "short" ∷ on 3 kind.Name "g" ∷ on 3 kind.OpenBracket "[" ∷
    on 3 kind.Number "2" ∷ on 3 kind.CloseBracket "]" ∷ on 3 kind.CloseBrace "}" ∷ on 3 kind.Semicolon ";" ∷ on 3 kind.Name "T" ∷
    on 3 kind.Name "r" ∷ on 3 kind.Semicolon ";" ∷ on 4 kind.Chan "chan" ∷ on 4 kind.Name "q0" ∷ on 4 kind.Assign "=" ∷
    on 4 kind.OpenBracket "[" ∷ on 4 kind.Number "2" ∷ on 4 kind.CloseBracket "]" ∷ on 4 kind.Of "of" ∷ on 4 kind.OpenBrace "{" ∷
    on 4 kind.Byte "byte" ∷ on 4 kind.CloseBrace "}" ∷ on 4 kind.Semicolon ";" ∷ on 5 kind.Proctype "proctype" ∷
    on 5 kind.Name "P0" ∷ on 5 kind.OpenParen "(" ∷ on 5 kind.Byte "byte" ∷ on 5 kind.Name "n" ∷ on 5 kind.CloseParen ")" ∷
    on 5 kind.OpenBrace "{" ∷ on 5 kind.Byte "byte" ∷ on 5 kind.Name "k" ∷ on 5 kind.Semicolon ";" ∷ on 5 kind.Int "int" ∷
    on 5 kind.Name "v" ∷ on 5 kind.Assign "=" ∷ on 5 kind.Number "3" ∷ on 5 kind.Semicolon ";" ∷ on 5 kind.Name "r" ∷
    on 5 kind.Dot "." ∷ on 5 kind.Name "f" ∷ on 5 kind.Increment "++" ∷ on 5 kind.Semicolon ";" ∷ on 5 kind.OpenParen "(" ∷
    on 5 kind.Number "300" ∷ on 5 kind.AtLeast ">=" ∷ on 5 kind.Name "a" ∷ on 5 kind.OpenBracket "[" ∷ on 5 kind.Number "1" ∷
    on 5 kind.CloseBracket "]" ∷ on 5 kind.CloseParen ")" ∷ on 5 kind.Semicolon ";" ∷ on 5 kind.If "if" ∷
    on 5 kind.DoubleColon "::" ∷ on 5 kind.Do "do" ∷ on 5 kind.DoubleColon "::" ∷ on 5 kind.Name "q0" ∷ on 5 kind.QueryQuery "??" ∷
    on 5 kind.Name "_" ∷ on 5 kind.DoubleColon "::" ∷ on 5 kind.Else "else" ∷ on 5 kind.Arrow "->" ∷ on 5 kind.Name "q0" ∷
    on 5 kind.Bang "!" ∷ on 5 kind.Number "100" ∷ on 5 kind.DoubleColon "::" ∷ on 5 kind.Break "break" ∷ on 5 kind.Od "od" ∷
    on 5 kind.DoubleColon "::" ∷ on 5 kind.Name "_pid" ∷ on 5 kind.Equal "==" ∷ on 5 kind.Name "a" ∷ on 5 kind.OpenBracket "[" ∷
    on 5 kind.OpenParen "(" ∷ on 5 kind.Name "r" ∷ on 5 kind.Dot "." ∷ on 5 kind.Name "f" ∷ on 5 kind.Ampersand "&" ∷
    on 5 kind.Number "1" ∷ on 5 kind.CloseParen ")" ∷ on 5 kind.CloseBracket "]" ∷ on 5 kind.Arrow "->" ∷ on 5 kind.Name "q0" ∷
    on 5 kind.Bang "!" ∷ on 5 kind.Number "3" ∷ on 5 kind.DoubleColon "::" ∷ on 5 kind.Else "else" ∷ on 5 kind.Arrow "->" ∷
    on 5 kind.Name "a" ∷ on 5 kind.OpenBracket "[" ∷ on 5 kind.Number "1" ∷ on 5 kind.CloseBracket "]" ∷ on 5 kind.Assign "=" ∷
    on 5 kind.Number "1" ∷ on 5 kind.Fi "fi" ∷ on 5 kind.Semicolon ";" ∷ on 5 kind.Printf "printf" ∷ on 5 kind.OpenParen "(" ∷
    on 5 kind.Quoted "\"P0 ends %d %d\\n\"" ∷ on 5 kind.Comma "," ∷ on 5 kind.Name "k" ∷ on 5 kind.Comma "," ∷ on 5 kind.Name "v" ∷
    on 5 kind.CloseParen ")" ∷ on 5 kind.CloseBrace "}" ∷ on 6 kind.Proctype "proctype" ∷ on 6 kind.Name "P1" ∷
    on 6 kind.OpenParen "(" ∷ on 6 kind.Byte "byte" ∷ on 6 kind.Name "n" ∷ on 6 kind.CloseParen ")" ∷ on 6 kind.OpenBrace "{" ∷
    on 6 kind.Byte "byte" ∷ on 6 kind.Name "k" ∷ on 6 kind.Semicolon ";" ∷ on 6 kind.Byte "byte" ∷ on 6 kind.Name "v" ∷
    on 6 kind.Assign "=" ∷ on 6 kind.Number "4" ∷ on 6 kind.Semicolon ";" ∷ on 6 kind.Name "q0" ∷ on 6 kind.Bang "!" ∷
    on 6 kind.OpenParen "(" ∷ on 6 kind.Number "100" ∷ on 6 kind.AtLeast ">=" ∷ on 6 kind.Number "255" ∷ on 6 kind.Arrow "->" ∷
    on 6 kind.Number "255" ∷ on 6 kind.Colon ":" ∷ on 6 kind.Number "1" ∷ on 6 kind.CloseParen ")" ∷ on 6 kind.Semicolon ";" ∷
    on 6 kind.Name "a" ∷ on 6 kind.OpenBracket "[" ∷ on 6 kind.Number "0" ∷ on 6 kind.CloseBracket "]" ∷ on 6 kind.Assign "=" ∷
    on 6 kind.OpenParen "(" ∷ on 6 kind.OpenParen "(" ∷ on 6 kind.Number "3" ∷ on 6 kind.Plus "+" ∷ on 6 kind.Number "1" ∷
    on 6 kind.CloseParen ")" ∷ on 6 kind.Less "<" ∷ on 6 kind.Number "2" ∷ on 6 kind.Arrow "->" ∷ on 6 kind.Number "7" ∷
    on 6 kind.Colon ":" ∷ on 6 kind.Name "a" ∷ on 6 kind.OpenBracket "[" ∷ on 6 kind.OpenParen "(" ∷ on 6 kind.Name "u0" ∷
    on 6 kind.Ampersand "&" ∷ on 6 kind.Number "1" ∷ on 6 kind.CloseParen ")" ∷ on 6 kind.CloseBracket "]" ∷
    on 6 kind.CloseParen ")" ∷ on 6 kind.Semicolon ";" ∷ on 6 kind.Printf "printf" ∷ on 6 kind.OpenParen "(" ∷
    on 6 kind.Quoted "\"P1 ends %d %d\\n\"" ∷ on 6 kind.Comma "," ∷ on 6 kind.Name "k" ∷ on 6 kind.Comma "," ∷ on 6 kind.Name "v" ∷
    on 6 kind.CloseParen ")" ∷ on 6 kind.CloseBrace "}" ∷ on 7 kind.Init "init" ∷ on 7 kind.OpenBrace "{" ∷ on 7 kind.Byte "byte" ∷
    on 7 kind.Name "k" ∷ on 7 kind.Semicolon ";" ∷ on 7 kind.Run "run" ∷ on 7 kind.Name "P0" ∷ on 7 kind.OpenParen "(" ∷
    on 7 kind.Number "2" ∷ on 7 kind.CloseParen ")" ∷ on 7 kind.Semicolon ";" ∷ on 7 kind.Name "k" ∷ on 7 kind.Assign "=" ∷
    on 7 kind.Number "0" ∷ on 7 kind.Semicolon ";" ∷ on 7 kind.Name "a" ∷ on 7 kind.OpenBracket "[" ∷ on 7 kind.Number "0" ∷
    on 7 kind.CloseBracket "]" ∷ on 7 kind.Assign "=" ∷ on 7 kind.Number "1" ∷ on 7 kind.Semicolon ";" ∷ on 7 kind.If "if" ∷
    on 7 kind.DoubleColon "::" ∷ on 7 kind.Timeout "timeout" ∷ on 7 kind.Arrow "->" ∷ on 7 kind.Skip "skip" ∷
    on 7 kind.DoubleColon "::" ∷ on 7 kind.Name "_nr_pr" ∷ on 7 kind.Equal "==" ∷ on 7 kind.Number "1" ∷ on 7 kind.Arrow "->" ∷
    on 7 kind.Skip "skip" ∷ on 7 kind.Fi "fi" ∷ on 7 kind.Semicolon ";" ∷ on 7 kind.Printf "printf" ∷ on 7 kind.OpenParen "(" ∷
    on 7 kind.Quoted "\"%d %d %d\\n\"" ∷ on 7 kind.Comma "," ∷ on 7 kind.Name "u0" ∷ on 7 kind.Comma "," ∷ on 7 kind.Name "r" ∷
    on 7 kind.Dot "." ∷ on 7 kind.Name "f" ∷ on 7 kind.Comma "," ∷ on 7 kind.Name "r" ∷ on 7 kind.Dot "." ∷ on 7 kind.Name "g" ∷
    on 7 kind.OpenBracket "[" ∷ on 7 kind.Number "1" ∷ on 7 kind.CloseBracket "]" ∷ on 7 kind.CloseParen ")" ∷
    on 7 kind.CloseBrace "}" ∷ []

model-spin-52 : Program
unfolding tokens-spin-52
model-spin-52 =
    let at : ℕ → Word = token_at tokens-spin-52 in
    let part : ℕ → ℕ → List Word = tokens_between tokens-spin-52 in
    record {
      globals = (slot (at 1) (form.Unsigned 9) false 0 1 1 initial.Zero ∷ slot (at 6) byte true 1 2 1 initial.Zero ∷ slot (at 25)
          (form.Struct 3) false 3 1 3 initial.Zero ∷ slot (at 28) chan false 6 1 1 (initial.Channel 2 (byte ∷ [])) ∷ []);
      constants = [];
      typedefs = (fields 3 (slot (at 15) byte false 0 1 1 initial.Zero ∷ slot (at 18) short true 1 2 1 initial.Zero ∷ []) ∷ []);
      proctypes = (
          process (at 39) 6 0 1 (slot (at 42) byte false 0 1 1 initial.Zero ∷ slot (at 46) byte false 1 1 1 initial.Zero ∷ slot (at 49)
          int false 2 1 1 (initial.Value (number 3)) ∷ []) (
          plain (part 53 57) (action.Increment (in_global 2 byte (turn 0 1 3 None ∷ turn 0 1 1 None ∷ []))) ∷
          plain (part 58 66) (holds (expr.Binary op.AtLeast (number 300) (read (in_global 1 byte (turn 0 2 1 (Some (number 1)) ∷ []))))) ∷
          if_fi (part 67 110) (
          (do_od (part 69 83) (
          (plain (part 71 74) (action.Receive (global 3 chan) Matching Remove (want.Anything ∷ [])) ∷ []) ∷
          (plain (part 75 76) action.Else ∷
          plain (part 77 80) (action.Send (global 3 chan) Fifo ((number 100) ∷ [])) ∷ []) ∷
          (stmt [] Break (part 81 82) ∷ []) ∷ []) ∷ []) ∷
          (plain (part 84 96) (holds (expr.Binary op.Equal expr.Pid (read (in_global 1 byte (turn 0 2 1 (Some (expr.Binary op.BitAnd
          (read (in_global 2 byte (turn 0 1 3 None ∷ turn 0 1 1 None ∷ []))) (number 1))) ∷ []))))) ∷
          plain (part 97 100) (action.Send (global 3 chan) Fifo ((number 3) ∷ [])) ∷ []) ∷
          (plain (part 101 102) action.Else ∷
          plain (part 103 109) (assign (in_global 1 byte (turn 0 2 1 (Some (number 1)) ∷ [])) (number 1)) ∷ []) ∷ []) ∷
          plain (part 111 119) (action.Printf (at 113) ((read (local 1 byte)) ∷ (read (local 2 int)) ∷ [])) ∷ []) (at 119) ∷
          process (at 121) 7 0 1 (slot (at 124) byte false 0 1 1 initial.Zero ∷ slot (at 128) byte false 1 1 1 initial.Zero ∷ slot (at
          131) byte false 2 1 1 (initial.Value (number 4)) ∷ []) (
          plain (part 135 146) (action.Send (global 3 chan) Fifo ((expr.Choice (expr.Binary op.AtLeast (number 100) (number 255))
          (number 255) (number 1)) ∷ [])) ∷
          plain (part 147 172) (assign (in_global 1 byte (turn 0 2 1 (Some (number 0)) ∷ [])) (expr.Choice (expr.Binary op.Below
          (expr.Binary op.Plus (number 3) (number 1)) (number 2)) (number 7) (read (in_global 1 byte (turn 0 2 1 (Some (expr.Binary
          op.BitAnd (read (global 0 (form.Unsigned 9))) (number 1))) ∷ []))))) ∷
          plain (part 173 181) (action.Printf (at 175) ((read (local 1 byte)) ∷ (read (local 2 byte)) ∷ [])) ∷ []) (at 181) ∷
          process (at 182) 8 1 0 (slot (at 185) byte false 0 1 1 initial.Zero ∷ []) (
          plain (part 187 192) (action.Run (run 0 ((number 2) ∷ []))) ∷
          plain (part 193 196) (assign (local 0 byte) (number 0)) ∷
          plain (part 197 203) (assign (in_global 1 byte (turn 0 2 1 (Some (number 0)) ∷ [])) (number 1)) ∷
          if_fi (part 204 216) (
          (plain (part 206 207) (holds expr.Timeout) ∷
          plain (part 208 209) (holds (number 1)) ∷ []) ∷
          (plain (part 210 213) (holds (expr.Binary op.Equal expr.ProcessCount (number 1))) ∷
          plain (part 214 215) (holds (number 1)) ∷ []) ∷ []) ∷
          plain (part 217 234) (action.Printf (at 219) ((read (global 0 (form.Unsigned 9))) ∷ (read (in_global 2 byte (turn 0 1 3 None ∷
          turn 0 1 1 None ∷ []))) ∷ (read (in_global 2 short (turn 0 1 3 None ∷ turn 1 2 1 (Some (number 1)) ∷ []))) ∷ [])) ∷ []) (at
          234) ∷ []);
    }

prints-spin-52 : printed model-spin-52 12 (1 ∷ 1 ∷ [])
    ≡ Some (shown (text (
    "P0 ends 0 3\n" ∷
    "0 1 0\n" ∷
    [])) Valid)
unfolding computes model-spin-52
prints-spin-52 = prints model-spin-52 12 (1 ∷ 1 ∷ []) _ refl

-- bit t0;
-- int a[3];
-- proctype P0(byte n) { byte k; short v = 4; for (k : 1 .. 2) { a[0] = 1 }; printf("P0 ends %d %d\n", k, v) }
-- init { byte k; run P0(0); run P0(2); k = ((~255) * 7); if :: timeout -> skip :: _nr_pr == 1 -> skip fi; printf("%d\n", t0) }
tokens-spin-53 : List Word
tokens-spin-53 =
    on 1 kind.Bit "bit" ∷ on 1 kind.Name "t0" ∷ on 1 kind.Semicolon ";" ∷ on 2 kind.Int "int" ∷ on 2 kind.Name "a" ∷
    on 2 kind.OpenBracket "[" ∷ on 2 kind.Number "3" ∷ on 2 kind.CloseBracket "]" ∷ on 2 kind.Semicolon ";" ∷
    on 3 kind.Proctype "proctype" ∷ on 3 kind.Name "P0" ∷ on 3 kind.OpenParen "(" ∷ on 3 kind.Byte "byte" ∷ on 3 kind.Name "n" ∷
    on 3 kind.CloseParen ")" ∷ on 3 kind.OpenBrace "{" ∷ on 3 kind.Byte "byte" ∷ on 3 kind.Name "k" ∷ on 3 kind.Semicolon ";" ∷
    on 3 kind.Short "short" ∷ on 3 kind.Name "v" ∷ on 3 kind.Assign "=" ∷ on 3 kind.Number "4" ∷ on 3 kind.Semicolon ";" ∷
    on 3 kind.For "for" ∷ on 3 kind.OpenParen "(" ∷ on 3 kind.Name "k" ∷ on 3 kind.Colon ":" ∷ on 3 kind.Number "1" ∷
    on 3 kind.DotDot ".." ∷ on 3 kind.Number "2" ∷ on 3 kind.CloseParen ")" ∷ on 3 kind.OpenBrace "{" ∷ on 3 kind.Name "a" ∷
    on 3 kind.OpenBracket "[" ∷ on 3 kind.Number "0" ∷ on 3 kind.CloseBracket "]" ∷ on 3 kind.Assign "=" ∷ on 3 kind.Number "1" ∷
    on 3 kind.CloseBrace "}" ∷ on 3 kind.Semicolon ";" ∷ on 3 kind.Printf "printf" ∷ on 3 kind.OpenParen "(" ∷
    on 3 kind.Quoted "\"P0 ends %d %d\\n\"" ∷ on 3 kind.Comma "," ∷ on 3 kind.Name "k" ∷ on 3 kind.Comma "," ∷ on 3 kind.Name "v" ∷
    on 3 kind.CloseParen ")" ∷ on 3 kind.CloseBrace "}" ∷ on 4 kind.Init "init" ∷ on 4 kind.OpenBrace "{" ∷ on 4 kind.Byte "byte" ∷
    on 4 kind.Name "k" ∷ on 4 kind.Semicolon ";" ∷ on 4 kind.Run "run" ∷ on 4 kind.Name "P0" ∷ on 4 kind.OpenParen "(" ∷
    on 4 kind.Number "0" ∷ on 4 kind.CloseParen ")" ∷ on 4 kind.Semicolon ";" ∷ on 4 kind.Run "run" ∷ on 4 kind.Name "P0" ∷
    on 4 kind.OpenParen "(" ∷ on 4 kind.Number "2" ∷ on 4 kind.CloseParen ")" ∷ on 4 kind.Semicolon ";" ∷ on 4 kind.Name "k" ∷
    on 4 kind.Assign "=" ∷ on 4 kind.OpenParen "(" ∷ on 4 kind.OpenParen "(" ∷ on 4 kind.Tilde "~" ∷ on 4 kind.Number "255" ∷
    on 4 kind.CloseParen ")" ∷ on 4 kind.Star "*" ∷ on 4 kind.Number "7" ∷ on 4 kind.CloseParen ")" ∷ on 4 kind.Semicolon ";" ∷
    on 4 kind.If "if" ∷ on 4 kind.DoubleColon "::" ∷ on 4 kind.Timeout "timeout" ∷ on 4 kind.Arrow "->" ∷ on 4 kind.Skip "skip" ∷
    on 4 kind.DoubleColon "::" ∷ on 4 kind.Name "_nr_pr" ∷ on 4 kind.Equal "==" ∷ on 4 kind.Number "1" ∷ on 4 kind.Arrow "->" ∷
    on 4 kind.Skip "skip" ∷ on 4 kind.Fi "fi" ∷ on 4 kind.Semicolon ";" ∷ on 4 kind.Printf "printf" ∷ on 4 kind.OpenParen "(" ∷
    on 4 kind.Quoted "\"%d\\n\"" ∷ on 4 kind.Comma "," ∷ on 4 kind.Name "t0" ∷ on 4 kind.CloseParen ")" ∷ on 4 kind.CloseBrace "}" ∷ []

model-spin-53 : Program
unfolding tokens-spin-53
model-spin-53 =
    let at : ℕ → Word = token_at tokens-spin-53 in
    let part : ℕ → ℕ → List Word = tokens_between tokens-spin-53 in
    record {
      globals = (slot (at 1) bit false 0 1 1 initial.Zero ∷ slot (at 4) int true 1 3 1 initial.Zero ∷ []);
      constants = [];
      typedefs = [];
      proctypes = (
          process (at 10) 3 0 1 (slot (at 13) byte false 0 1 1 initial.Zero ∷ slot (at 17) byte false 1 1 1 initial.Zero ∷ slot (at 20)
          short false 2 1 1 (initial.Value (number 4)) ∷ []) (
          block (part 24 40) (
          plain ((at 26) ∷ (on 3 kind.Assign "=") ∷ (at 28) ∷ []) (assign (local 1 byte) (number 1)) ∷
          do_od ((on 3 kind.Do "do") ∷ []) (
          (plain ((at 26) ∷ (on 3 kind.AtMost "<=") ∷ (at 30) ∷ []) (holds (expr.Binary op.AtMost (read (local 1 byte)) (number 2))) ∷
          plain (part 33 39) (assign (in_global 1 int (turn 0 3 1 (Some (number 0)) ∷ [])) (number 1)) ∷
          plain ((at 26) ∷ (on 3 kind.Increment "++") ∷ []) (action.Increment (local 1 byte)) ∷ []) ∷
          (plain ((on 3 kind.Else "else") ∷ []) action.Else ∷
          stmt [] Break ((on 3 kind.Break "break") ∷ []) ∷ []) ∷ []) ∷ []) ∷
          plain (part 41 49) (action.Printf (at 43) ((read (local 1 byte)) ∷ (read (local 2 short)) ∷ [])) ∷ []) (at 49) ∷
          process (at 50) 4 1 0 (slot (at 53) byte false 0 1 1 initial.Zero ∷ []) (
          plain (part 55 60) (action.Run (run 0 ((number 0) ∷ []))) ∷
          plain (part 61 66) (action.Run (run 0 ((number 2) ∷ []))) ∷
          plain (part 67 77) (assign (local 0 byte) (expr.Binary op.Times (expr.Unary before.Complement (number 255)) (number 7))) ∷
          if_fi (part 78 90) (
          (plain (part 80 81) (holds expr.Timeout) ∷
          plain (part 82 83) (holds (number 1)) ∷ []) ∷
          (plain (part 84 87) (holds (expr.Binary op.Equal expr.ProcessCount (number 1))) ∷
          plain (part 88 89) (holds (number 1)) ∷ []) ∷ []) ∷
          plain (part 91 97) (action.Printf (at 93) ((read (global 0 bit)) ∷ [])) ∷ []) (at 97) ∷ []);
    }

prints-spin-53 : printed model-spin-53 27 (2 ∷ 1 ∷ 1 ∷ 2 ∷ 1 ∷ 2 ∷ 1 ∷ 1 ∷ 2 ∷ 1 ∷ 1 ∷ 2 ∷ 1 ∷ 1 ∷ 1 ∷ [])
    ≡ Some (shown (text (
    "P0 ends 3 4\n" ∷
    "P0 ends 3 4\n" ∷
    "0\n" ∷
    [])) Valid)
unfolding computes model-spin-53
prints-spin-53 = prints model-spin-53 27 (2 ∷ 1 ∷ 1 ∷ 2 ∷ 1 ∷ 2 ∷ 1 ∷ 1 ∷ 2 ∷ 1 ∷ 1 ∷ 2 ∷ 1 ∷ 1 ∷ 1 ∷ []) _ refl
