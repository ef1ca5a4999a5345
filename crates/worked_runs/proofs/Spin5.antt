-- What Spin printed of random models, of runs by chance. `tools/spin-theorems` made the models and their data.
use Rattle.std.proofs.Common.{◌≡◌, ℕ, List, [], ◌∷◌, true, false, refl, Some, None}
use Rattle.pml_token.specs.Word.{Word}
use Rattle.pml_tree.specs.declared.tree.Search.TheVariants.{First}
use Rattle.pml_tree.specs.declared.tree.Removal.TheVariants.{Remove}
use Rattle.pml_tree.specs.declared.tree.SendOrder.TheVariants.{Fifo, Sorted}
use Rattle.pml_program.specs.declared.program.Program.{Program}
use Rattle.pml_program.specs.declared.program.Basic.{Break}
use Rattle.worked_runs.proofs.Models.{on, token_at, tokens_between, bit, byte, chan, mtype, short, int, slot, fields, turn, in_global, local, global, number, read, run, assign, holds, stmt, plain, block, d_step, if_fi, do_od, unless, process, text}
use Rattle.worked_runs.proofs.Same.{computes}
use Rattle.worked_runs.specs.Printed.{printed, Valid, Invalid}
use Rattle.worked_runs.proofs.Same.{prints}
use Rattle.worked_runs.proofs.Models.{shown}
use Rattle.pml_token.specs.declared.token.Kind.TheVariants as kind
use Rattle.pml_tree.specs.declared.tree.Infix.TheVariants as op
use Rattle.pml_tree.specs.declared.tree.Prefix.TheVariants as before
use Rattle.pml_tree.specs.declared.tree.Fill.TheVariants as fill
use Rattle.pml_program.specs.declared.form.Form.TheVariants as form
use Rattle.pml_program.specs.declared.expr.Expr.TheVariants as expr
use Rattle.pml_program.specs.declared.expr.Want.TheVariants as want
use Rattle.pml_program.specs.declared.program.Initial.TheVariants as initial
use Rattle.pml_program.specs.declared.program.Action.TheVariants as action

-- short s0 = 2;
-- short a[3];
-- chan q0 = [2] of { short, byte };
-- chan q1 = [2] of { int };
-- proctype P0(byte n) { byte k; int v = 0; for (k : 1 .. 1) { q1!!(100 & 1); s0 = 2 }; q0!a[(v & 1)], 1; printf("P0 ends %d %d\n", k,
--     v) }
-- init { byte k; run P0(2); run P0(3); k++; if :: s0 <= k -> a[0] = 100 :: s0 = (-(300 - 300)) fi; if :: timeout -> skip :: _nr_pr ==
--     1 -> skip fi; printf("%d\n", s0) }
tokens-spin-69 : List Word
tokens-spin-69 =
    on 1 kind.Short "short" ∷ on 1 kind.Name "s0" ∷ on 1 kind.Assign "=" ∷ on 1 kind.Number "2" ∷ on 1 kind.Semicolon ";" ∷
    on 2 kind.Short "short" ∷ on 2 kind.Name "a" ∷ on 2 kind.OpenBracket "[" ∷ on 2 kind.Number "3" ∷ on 2 kind.CloseBracket "]" ∷
    on 2 kind.Semicolon ";" ∷ on 3 kind.Chan "chan" ∷ on 3 kind.Name "q0" ∷ on 3 kind.Assign "=" ∷ on 3 kind.OpenBracket "[" ∷
    on 3 kind.Number "2" ∷ on 3 kind.CloseBracket "]" ∷ on 3 kind.Of "of" ∷ on 3 kind.OpenBrace "{" ∷ on 3 kind.Short "short" ∷
    on 3 kind.Comma "," ∷ on 3 kind.Byte "byte" ∷ on 3 kind.CloseBrace "}" ∷ on 3 kind.Semicolon ";" ∷ on 4 kind.Chan "chan" ∷
    on 4 kind.Name "q1" ∷ on 4 kind.Assign "=" ∷ on 4 kind.OpenBracket "[" ∷ on 4 kind.Number "2" ∷ on 4 kind.CloseBracket "]" ∷
    on 4 kind.Of "of" ∷ on 4 kind.OpenBrace "{" ∷ on 4 kind.Int "int" ∷ on 4 kind.CloseBrace "}" ∷ on 4 kind.Semicolon ";" ∷
    on 5 kind.Proctype "proctype" ∷ on 5 kind.Name "P0" ∷ on 5 kind.OpenParen "(" ∷ on 5 kind.Byte "byte" ∷ on 5 kind.Name "n" ∷
    on 5 kind.CloseParen ")" ∷ on 5 kind.OpenBrace "{" ∷ on 5 kind.Byte "byte" ∷ on 5 kind.Name "k" ∷ on 5 kind.Semicolon ";" ∷
    on 5 kind.Int "int" ∷ on 5 kind.Name "v" ∷ on 5 kind.Assign "=" ∷ on 5 kind.Number "0" ∷ on 5 kind.Semicolon ";" ∷
    on 5 kind.For "for" ∷ on 5 kind.OpenParen "(" ∷ on 5 kind.Name "k" ∷ on 5 kind.Colon ":" ∷ on 5 kind.Number "1" ∷
    on 5 kind.DotDot ".." ∷ on 5 kind.Number "1" ∷ on 5 kind.CloseParen ")" ∷ on 5 kind.OpenBrace "{" ∷ on 5 kind.Name "q1" ∷
    on 5 kind.BangBang "!!" ∷ on 5 kind.OpenParen "(" ∷ on 5 kind.Number "100" ∷ on 5 kind.Ampersand "&" ∷ on 5 kind.Number "1" ∷
    on 5 kind.CloseParen ")" ∷ on 5 kind.Semicolon ";" ∷ on 5 kind.Name "s0" ∷ on 5 kind.Assign "=" ∷ on 5 kind.Number "2" ∷
    on 5 kind.CloseBrace "}" ∷ on 5 kind.Semicolon ";" ∷ on 5 kind.Name "q0" ∷ on 5 kind.Bang "!" ∷ on 5 kind.Name "a" ∷
    on 5 kind.OpenBracket "[" ∷ on 5 kind.OpenParen "(" ∷ on 5 kind.Name "v" ∷ on 5 kind.Ampersand "&" ∷ on 5 kind.Number "1" ∷
    on 5 kind.CloseParen ")" ∷ on 5 kind.CloseBracket "]" ∷ on 5 kind.Comma "," ∷ on 5 kind.Number "1" ∷ on 5 kind.Semicolon ";" ∷
    on 5 kind.Printf "printf" ∷ on 5 kind.OpenParen "(" ∷ on 5 kind.Quoted "\"P0 ends %d %d\\n\"" ∷ on 5 kind.Comma "," ∷
    on 5 kind.Name "k" ∷ on 5 kind.Comma "," ∷ on 5 kind.Name "v" ∷ on 5 kind.CloseParen ")" ∷ on 5 kind.CloseBrace "}" ∷
    on 6 kind.Init "init" ∷ on 6 kind.OpenBrace "{" ∷ on 6 kind.Byte "byte" ∷ on 6 kind.Name "k" ∷ on 6 kind.Semicolon ";" ∷
    on 6 kind.Run "run" ∷ on 6 kind.Name "P0" ∷ on 6 kind.OpenParen "(" ∷ on 6 kind.Number "2" ∷ on 6 kind.CloseParen ")" ∷
    on 6 kind.Semicolon ";" ∷ on 6 kind.Run "run" ∷ on 6 kind.Name "P0" ∷ on 6 kind.OpenParen "(" ∷ on 6 kind.Number "3" ∷
    on 6 kind.CloseParen ")" ∷ on 6 kind.Semicolon ";" ∷ on 6 kind.Name "k" ∷ on 6 kind.Increment "++" ∷ on 6 kind.Semicolon ";" ∷
    on 6 kind.If "if" ∷ on 6 kind.DoubleColon "::" ∷ on 6 kind.Name "s0" ∷ on 6 kind.AtMost "<=" ∷ on 6 kind.Name "k" ∷
    on 6 kind.Arrow "->" ∷ on 6 kind.Name "a" ∷ on 6 kind.OpenBracket "[" ∷ on 6 kind.Number "0" ∷ on 6 kind.CloseBracket "]" ∷
    on 6 kind.Assign "=" ∷ on 6 kind.Number "100" ∷ on 6 kind.DoubleColon "::" ∷ on 6 kind.Name "s0" ∷ on 6 kind.Assign "=" ∷
    on 6 kind.OpenParen "(" ∷ on 6 kind.Minus "-" ∷ on 6 kind.OpenParen "(" ∷ on 6 kind.Number "300" ∷ on 6 kind.Minus "-" ∷
    on 6 kind.Number "300" ∷ on 6 kind.CloseParen ")" ∷ on 6 kind.CloseParen ")" ∷ on 6 kind.Fi "fi" ∷ on 6 kind.Semicolon ";" ∷
    on 6 kind.If "if" ∷ on 6 kind.DoubleColon "::" ∷ on 6 kind.Timeout "timeout" ∷ on 6 kind.Arrow "->" ∷ on 6 kind.Skip "skip" ∷
    on 6 kind.DoubleColon "::" ∷ on 6 kind.Name "_nr_pr" ∷ on 6 kind.Equal "==" ∷ on 6 kind.Number "1" ∷ on 6 kind.Arrow "->" ∷
    on 6 kind.Skip "skip" ∷ on 6 kind.Fi "fi" ∷ on 6 kind.Semicolon ";" ∷ on 6 kind.Printf "printf" ∷ on 6 kind.OpenParen "(" ∷
    on 6 kind.Quoted "\"%d\\n\"" ∷ on 6 kind.Comma "," ∷ on 6 kind.Name "s0" ∷ on 6 kind.CloseParen ")" ∷ on 6 kind.CloseBrace "}" ∷ []

model-spin-69 : Program
unfolding tokens-spin-69
model-spin-69 =
    let at : ℕ → Word = token_at tokens-spin-69 in
    let part : ℕ → ℕ → List Word = tokens_between tokens-spin-69 in
    record {
      globals = (slot (at 1) short false 0 1 1 (initial.Value (number 2)) ∷ slot (at 6) short true 1 3 1 initial.Zero ∷ slot (at 12)
          chan false 4 1 1 (initial.Channel 2 (short ∷ byte ∷ [])) ∷ slot (at 25) chan false 5 1 1 (initial.Channel 2 (int ∷ [])) ∷ []);
      constants = [];
      typedefs = [];
      proctypes = (
          process (at 36) 5 0 1 (slot (at 39) byte false 0 1 1 initial.Zero ∷ slot (at 43) byte false 1 1 1 initial.Zero ∷ slot (at 46)
          int false 2 1 1 (initial.Value (number 0)) ∷ []) (
          block (part 50 71) (
          plain ((at 52) ∷ (on 5 kind.Assign "=") ∷ (at 54) ∷ []) (assign (local 1 byte) (number 1)) ∷
          do_od ((on 5 kind.Do "do") ∷ []) (
          (plain ((at 52) ∷ (on 5 kind.AtMost "<=") ∷ (at 56) ∷ []) (holds (expr.Binary op.AtMost (read (local 1 byte)) (number 1))) ∷
          plain (part 59 66) (action.Send (global 3 chan) Sorted ((expr.Binary op.BitAnd (number 100) (number 1)) ∷ [])) ∷
          plain (part 67 70) (assign (global 0 short) (number 2)) ∷
          plain ((at 52) ∷ (on 5 kind.Increment "++") ∷ []) (action.Increment (local 1 byte)) ∷ []) ∷
          (plain ((on 5 kind.Else "else") ∷ []) action.Else ∷
          stmt [] Break ((on 5 kind.Break "break") ∷ []) ∷ []) ∷ []) ∷ []) ∷
          plain (part 72 84) (action.Send (global 2 chan) Fifo ((read (in_global 1 short (turn 0 3 1 (Some (expr.Binary op.BitAnd (read
          (local 2 int)) (number 1))) ∷ []))) ∷ (number 1) ∷ [])) ∷
          plain (part 85 93) (action.Printf (at 87) ((read (local 1 byte)) ∷ (read (local 2 int)) ∷ [])) ∷ []) (at 93) ∷
          process (at 94) 6 1 0 (slot (at 97) byte false 0 1 1 initial.Zero ∷ []) (
          plain (part 99 104) (action.Run (run 0 ((number 2) ∷ []))) ∷
          plain (part 105 110) (action.Run (run 0 ((number 3) ∷ []))) ∷
          plain (part 111 113) (action.Increment (local 0 byte)) ∷
          if_fi (part 114 138) (
          (plain (part 116 119) (holds (expr.Binary op.AtMost (read (global 0 short)) (read (local 0 byte)))) ∷
          plain (part 120 126) (assign (in_global 1 short (turn 0 3 1 (Some (number 0)) ∷ [])) (number 100)) ∷ []) ∷
          (plain (part 127 137) (assign (global 0 short) (expr.Unary before.Minus (expr.Binary op.Minus (number 300) (number 300)))) ∷
          []) ∷ []) ∷
          if_fi (part 139 151) (
          (plain (part 141 142) (holds expr.Timeout) ∷
          plain (part 143 144) (holds (number 1)) ∷ []) ∷
          (plain (part 145 148) (holds (expr.Binary op.Equal expr.ProcessCount (number 1))) ∷
          plain (part 149 150) (holds (number 1)) ∷ []) ∷ []) ∷
          plain (part 152 158) (action.Printf (at 154) ((read (global 0 short)) ∷ [])) ∷ []) (at 158) ∷ []);
    }

prints-spin-69 : printed model-spin-69 26 (2 ∷ 1 ∷ 2 ∷ 2 ∷ 2 ∷ 3 ∷ 1 ∷ 2 ∷ 1 ∷ 2 ∷ 2 ∷ 2 ∷ 1 ∷ 2 ∷ 1 ∷ 2 ∷ 1 ∷ [])
    ≡ Some (shown (text (
    "P0 ends 2 0\n" ∷
    "P0 ends 2 0\n" ∷
    "2\n" ∷
    [])) Valid)
unfolding computes model-spin-69
prints-spin-69 = prints model-spin-69 26 (2 ∷ 1 ∷ 2 ∷ 2 ∷ 2 ∷ 3 ∷ 1 ∷ 2 ∷ 1 ∷ 2 ∷ 2 ∷ 2 ∷ 1 ∷ 2 ∷ 1 ∷ 2 ∷ 1 ∷ []) _ refl

-- byte b0 = 2;
-- short s1;
-- short s2 = 3;
-- chan q0 = [1] of { short, byte };
-- proctype P0(byte n) { byte k; int v = 1; q0!k, s2; n = 2; printf("P0 ends %d %d\n", k, v) }
-- proctype P1(byte n) { byte k; short v = 3; q0!_pid, k; printf("at %d\n", k); printf("p %d\n", s1); printf("P1 ends %d %d\n", k, v) }
-- init { byte k; run P1(1); for (k : 1 .. 1) { s2--; printf("p %u\n", b0) }; if :: timeout -> skip :: _nr_pr == 1 -> skip fi;
--     printf("%d %d %d\n", b0, s1, s2) }
tokens-spin-74 : List Word
tokens-spin-74 =
    on 1 kind.Byte "byte" ∷ on 1 kind.Name "b0" ∷ on 1 kind.Assign "=" ∷ on 1 kind.Number "2" ∷ on 1 kind.Semicolon ";" ∷
    on 2 kind.Short "short" ∷ on 2 kind.Name "s1" ∷ on 2 kind.Semicolon ";" ∷ on 3 kind.Short "short" ∷ on 3 kind.Name "s2" ∷
    on 3 kind.Assign "=" ∷ on 3 kind.Number "3" ∷ on 3 kind.Semicolon ";" ∷ on 4 kind.Chan "chan" ∷ on 4 kind.Name "q0" ∷
    on 4 kind.Assign "=" ∷ on 4 kind.OpenBracket "[" ∷ on 4 kind.Number "1" ∷ on 4 kind.CloseBracket "]" ∷ on 4 kind.Of "of" ∷
    on 4 kind.OpenBrace "{" ∷ on 4 kind.Short "short" ∷ on 4 kind.Comma "," ∷ on 4 kind.Byte "byte" ∷ on 4 kind.CloseBrace "}" ∷
    on 4 kind.Semicolon ";" ∷ on 5 kind.Proctype "proctype" ∷ on 5 kind.Name "P0" ∷ on 5 kind.OpenParen "(" ∷ on 5 kind.Byte "byte" ∷
    on 5 kind.Name "n" ∷ on 5 kind.CloseParen ")" ∷ on 5 kind.OpenBrace "{" ∷ on 5 kind.Byte "byte" ∷ on 5 kind.Name "k" ∷
    on 5 kind.Semicolon ";" ∷ on 5 kind.Int "int" ∷ on 5 kind.Name "v" ∷ on 5 kind.Assign "=" ∷ on 5 kind.Number "1" ∷
    on 5 kind.Semicolon ";" ∷ on 5 kind.Name "q0" ∷ on 5 kind.Bang "!" ∷ on 5 kind.Name "k" ∷ on 5 kind.Comma "," ∷
    on 5 kind.Name "s2" ∷ on 5 kind.Semicolon ";" ∷ on 5 kind.Name "n" ∷ on 5 kind.Assign "=" ∷ on 5 kind.Number "2" ∷
    on 5 kind.Semicolon ";" ∷ on 5 kind.Printf "printf" ∷ on 5 kind.OpenParen "(" ∷ on 5 kind.Quoted "\"P0 ends %d %d\\n\"" ∷
    on 5 kind.Comma "," ∷ on 5 kind.Name "k" ∷ on 5 kind.Comma "," ∷ on 5 kind.Name "v" ∷ on 5 kind.CloseParen ")" ∷
    on 5 kind.CloseBrace "}" ∷ on 6 kind.Proctype "proctype" ∷ on 6 kind.Name "P1" ∷ on 6 kind.OpenParen "(" ∷
    on 6 kind.Byte "byte" ∷ on 6 kind.Name "n" ∷ on 6 kind.CloseParen ")" ∷ on 6 kind.OpenBrace "{" ∷ on 6 kind.Byte "byte" ∷
    on 6 kind.Name "k" ∷ on 6 kind.Semicolon ";" ∷ on 6 kind.Short "short" ∷ on 6 kind.Name "v" ∷ on 6 kind.Assign "=" ∷
    on 6 kind.Number "3" ∷ on 6 kind.Semicolon ";" ∷ on 6 kind.Name "q0" ∷ on 6 kind.Bang "!" ∷ on 6 kind.Name "_pid" ∷
    on 6 kind.Comma "," ∷ on 6 kind.Name "k" ∷ on 6 kind.Semicolon ";" ∷ on 6 kind.Printf "printf" ∷ on 6 kind.OpenParen "(" ∷
    on 6 kind.Quoted "\"at %d\\n\"" ∷ on 6 kind.Comma "," ∷ on 6 kind.Name "k" ∷ on 6 kind.CloseParen ")" ∷ on 6 kind.Semicolon ";" ∷
    on 6 kind.Printf "printf" ∷ on 6 kind.OpenParen "(" ∷ on 6 kind.Quoted "\"p %d\\n\"" ∷ on 6 kind.Comma "," ∷
    on 6 kind.Name "s1" ∷ on 6 kind.CloseParen ")" ∷ on 6 kind.Semicolon ";" ∷ on 6 kind.Printf "printf" ∷ on 6 kind.OpenParen "(" ∷
    on 6 kind.Quoted "\"P1 ends %d %d\\n\"" ∷ on 6 kind.Comma "," ∷ on 6 kind.Name "k" ∷ on 6 kind.Comma "," ∷ on 6 kind.Name "v" ∷
    on 6 kind.CloseParen ")" ∷ on 6 kind.CloseBrace "}" ∷ on 7 kind.Init "init" ∷ on 7 kind.OpenBrace "{" ∷ on 7 kind.Byte "byte" ∷
    on 7 kind.Name "k" ∷ on 7 kind.Semicolon ";" ∷ on 7 kind.Run "run" ∷ on 7 kind.Name "P1" ∷ on 7 kind.OpenParen "(" ∷
    on 7 kind.Number "1" ∷ on 7 kind.CloseParen ")" ∷ on 7 kind.Semicolon ";" ∷ on 7 kind.For "for" ∷ on 7 kind.OpenParen "(" ∷
    on 7 kind.Name "k" ∷ on 7 kind.Colon ":" ∷ on 7 kind.Number "1" ∷ on 7 kind.DotDot ".." ∷ on 7 kind.Number "1" ∷
    on 7 kind.CloseParen ")" ∷ on 7 kind.OpenBrace "{" ∷ on 7 kind.Name "s2" ∷ on 7 kind.Decrement "--" ∷ on 7 kind.Semicolon ";" ∷
    on 7 kind.Printf "printf" ∷ on 7 kind.OpenParen "(" ∷ on 7 kind.Quoted "\"p %u\\n\"" ∷ on 7 kind.Comma "," ∷
    on 7 kind.Name "b0" ∷ on 7 kind.CloseParen ")" ∷ on 7 kind.CloseBrace "}" ∷ on 7 kind.Semicolon ";" ∷ on 7 kind.If "if" ∷
    on 7 kind.DoubleColon "::" ∷ on 7 kind.Timeout "timeout" ∷ on 7 kind.Arrow "->" ∷ on 7 kind.Skip "skip" ∷
    on 7 kind.DoubleColon "::" ∷ on 7 kind.Name "_nr_pr" ∷ on 7 kind.Equal "==" ∷ on 7 kind.Number "1" ∷ on 7 kind.Arrow "->" ∷
    on 7 kind.Skip "skip" ∷ on 7 kind.Fi "fi" ∷ on 7 kind.Semicolon ";" ∷ on 7 kind.Printf "printf" ∷ on 7 kind.OpenParen "(" ∷
    on 7 kind.Quoted "\"%d %d %d\\n\"" ∷ on 7 kind.Comma "," ∷ on 7 kind.Name "b0" ∷ on 7 kind.Comma "," ∷ on 7 kind.Name "s1" ∷
    on 7 kind.Comma "," ∷ on 7 kind.Name "s2" ∷ on 7 kind.CloseParen ")" ∷ on 7 kind.CloseBrace "}" ∷ []

model-spin-74 : Program
unfolding tokens-spin-74
model-spin-74 =
    let at : ℕ → Word = token_at tokens-spin-74 in
    let part : ℕ → ℕ → List Word = tokens_between tokens-spin-74 in
    record {
      globals = (slot (at 1) byte false 0 1 1 (initial.Value (number 2)) ∷ slot (at 6) short false 1 1 1 initial.Zero ∷ slot (at 9)
          short false 2 1 1 (initial.Value (number 3)) ∷ slot (at 14) chan false 3 1 1 (initial.Channel 1 (short ∷ byte ∷ [])) ∷ []);
      constants = [];
      typedefs = [];
      proctypes = (
          process (at 27) 5 0 1 (slot (at 30) byte false 0 1 1 initial.Zero ∷ slot (at 34) byte false 1 1 1 initial.Zero ∷ slot (at 37)
          int false 2 1 1 (initial.Value (number 1)) ∷ []) (
          plain (part 41 46) (action.Send (global 3 chan) Fifo ((read (local 1 byte)) ∷ (read (global 2 short)) ∷ [])) ∷
          plain (part 47 50) (assign (local 0 byte) (number 2)) ∷
          plain (part 51 59) (action.Printf (at 53) ((read (local 1 byte)) ∷ (read (local 2 int)) ∷ [])) ∷ []) (at 59) ∷
          process (at 61) 6 0 1 (slot (at 64) byte false 0 1 1 initial.Zero ∷ slot (at 68) byte false 1 1 1 initial.Zero ∷ slot (at 71)
          short false 2 1 1 (initial.Value (number 3)) ∷ []) (
          plain (part 75 80) (action.Send (global 3 chan) Fifo (expr.Pid ∷ (read (local 1 byte)) ∷ [])) ∷
          plain (part 81 87) (action.Printf (at 83) ((read (local 1 byte)) ∷ [])) ∷
          plain (part 88 94) (action.Printf (at 90) ((read (global 1 short)) ∷ [])) ∷
          plain (part 95 103) (action.Printf (at 97) ((read (local 1 byte)) ∷ (read (local 2 short)) ∷ [])) ∷ []) (at 103) ∷
          process (at 104) 7 1 0 (slot (at 107) byte false 0 1 1 initial.Zero ∷ []) (
          plain (part 109 114) (action.Run (run 1 ((number 1) ∷ []))) ∷
          block (part 115 134) (
          plain ((at 117) ∷ (on 7 kind.Assign "=") ∷ (at 119) ∷ []) (assign (local 0 byte) (number 1)) ∷
          do_od ((on 7 kind.Do "do") ∷ []) (
          (plain ((at 117) ∷ (on 7 kind.AtMost "<=") ∷ (at 121) ∷ []) (holds (expr.Binary op.AtMost (read (local 0 byte)) (number 1))) ∷
          plain (part 124 126) (action.Decrement (global 2 short)) ∷
          plain (part 127 133) (action.Printf (at 129) ((read (global 0 byte)) ∷ [])) ∷
          plain ((at 117) ∷ (on 7 kind.Increment "++") ∷ []) (action.Increment (local 0 byte)) ∷ []) ∷
          (plain ((on 7 kind.Else "else") ∷ []) action.Else ∷
          stmt [] Break ((on 7 kind.Break "break") ∷ []) ∷ []) ∷ []) ∷ []) ∷
          if_fi (part 135 147) (
          (plain (part 137 138) (holds expr.Timeout) ∷
          plain (part 139 140) (holds (number 1)) ∷ []) ∷
          (plain (part 141 144) (holds (expr.Binary op.Equal expr.ProcessCount (number 1))) ∷
          plain (part 145 146) (holds (number 1)) ∷ []) ∷ []) ∷
          plain (part 148 158) (action.Printf (at 150) ((read (global 0 byte)) ∷ (read (global 1 short)) ∷ (read (global 2 short)) ∷
          [])) ∷ []) (at 158) ∷ []);
    }

prints-spin-74 : printed model-spin-74 16 (1 ∷ 2 ∷ 2 ∷ 1 ∷ 2 ∷ 2 ∷ 2 ∷ [])
    ≡ Some (shown (text (
    "at 0\n" ∷
    "p 0\n" ∷
    "P1 ends 0 3\n" ∷
    "p 2\n" ∷
    "2 0 2\n" ∷
    [])) Valid)
unfolding computes model-spin-74
prints-spin-74 = prints model-spin-74 16 (1 ∷ 2 ∷ 2 ∷ 1 ∷ 2 ∷ 2 ∷ 2 ∷ []) _ refl

-- short s0 = 0;
-- int i1 = 1;
-- short a[2];
-- typedef T { byte f; short g[2] }; T r;
-- chan q0 = [1] of { byte };
-- proctype P0(byte n) { byte k; byte v = 5; q0?i1; printf("P0 ends %d %d\n", k, v) }
-- proctype P1(byte n) { byte k; int v = 3; { i1 = (255 < (300 - 7) -> (100 + 300) : 255) } unless { (100 < (0 + 100)) -> q0!(1 << 5)
--     }; v = (!255); k = 1; printf("P1 ends %d %d\n", k, v) }
-- init { byte k; run P1(3); d_step { a[0] = 1; a[(r.g[1] & 1)] = (a[1] + 3) }; if :: timeout -> skip :: _nr_pr == 1 -> skip fi;
--     printf("%d %d %d %d\n", s0, i1, r.f, r.g[1]) }
tokens-spin-77 : List Word
tokens-spin-77 =
    on 1 kind.Short "short" ∷ on 1 kind.Name "s0" ∷ on 1 kind.Assign "=" ∷ on 1 kind.Number "0" ∷ on 1 kind.Semicolon ";" ∷
    on 2 kind.Int "int" ∷ on 2 kind.Name "i1" ∷ on 2 kind.Assign "=" ∷ on 2 kind.Number "1" ∷ on 2 kind.Semicolon ";" ∷
    on 3 kind.Short "short" ∷ on 3 kind.Name "a" ∷ on 3 kind.OpenBracket "[" ∷ on 3 kind.Number "2" ∷ on 3 kind.CloseBracket "]" ∷
    on 3 kind.Semicolon ";" ∷ on 4 kind.Typedef "typedef" ∷ on 4 kind.Name "T" ∷ on 4 kind.OpenBrace "{" ∷ on 4 kind.Byte "byte" ∷
    on 4 kind.Name "f" ∷ on 4 kind.Semicolon ";" ∷ on 4 kind.Short "short" ∷ on 4 kind.Name "g" ∷ on 4 kind.OpenBracket "[" ∷
    on 4 kind.Number "2" ∷ on 4 kind.CloseBracket "]" ∷ on 4 kind.CloseBrace "}" ∷ on 4 kind.Semicolon ";" ∷ on 4 kind.Name "T" ∷
    on 4 kind.Name "r" ∷ on 4 kind.Semicolon ";" ∷ on 5 kind.Chan "chan" ∷ on 5 kind.Name "q0" ∷ on 5 kind.Assign "=" ∷
    on 5 kind.OpenBracket "[" ∷ on 5 kind.Number "1" ∷ on 5 kind.CloseBracket "]" ∷ on 5 kind.Of "of" ∷ on 5 kind.OpenBrace "{" ∷
    on 5 kind.Byte "byte" ∷ on 5 kind.CloseBrace "}" ∷ on 5 kind.Semicolon ";" ∷ on 6 kind.Proctype "proctype" ∷
    on 6 kind.Name "P0" ∷ on 6 kind.OpenParen "(" ∷ on 6 kind.Byte "byte" ∷ on 6 kind.Name "n" ∷ on 6 kind.CloseParen ")" ∷
    on 6 kind.OpenBrace "{" ∷ on 6 kind.Byte "byte" ∷ on 6 kind.Name "k" ∷ on 6 kind.Semicolon ";" ∷ on 6 kind.Byte "byte" ∷
    on 6 kind.Name "v" ∷ on 6 kind.Assign "=" ∷ on 6 kind.Number "5" ∷ on 6 kind.Semicolon ";" ∷ on 6 kind.Name "q0" ∷
    on 6 kind.Query "?" ∷ on 6 kind.Name "i1" ∷ on 6 kind.Semicolon ";" ∷ on 6 kind.Printf "printf" ∷ on 6 kind.OpenParen "(" ∷
    on 6 kind.Quoted "\"P0 ends %d %d\\n\"" ∷ on 6 kind.Comma "," ∷ on 6 kind.Name "k" ∷ on 6 kind.Comma "," ∷ on 6 kind.Name "v" ∷
    on 6 kind.CloseParen ")" ∷ on 6 kind.CloseBrace "}" ∷ on 7 kind.Proctype "proctype" ∷ on 7 kind.Name "P1" ∷
    on 7 kind.OpenParen "(" ∷ on 7 kind.Byte "byte" ∷ on 7 kind.Name "n" ∷ on 7 kind.CloseParen ")" ∷ on 7 kind.OpenBrace "{" ∷
    on 7 kind.Byte "byte" ∷ on 7 kind.Name "k" ∷ on 7 kind.Semicolon ";" ∷ on 7 kind.Int "int" ∷ on 7 kind.Name "v" ∷
    on 7 kind.Assign "=" ∷ on 7 kind.Number "3" ∷ on 7 kind.Semicolon ";" ∷ on 7 kind.OpenBrace "{" ∷ on 7 kind.Name "i1" ∷
    on 7 kind.Assign "=" ∷ on 7 kind.OpenParen "(" ∷ on 7 kind.Number "255" ∷ on 7 kind.Less "<" ∷ on 7 kind.OpenParen "(" ∷
    on 7 kind.Number "300" ∷ on 7 kind.Minus "-" ∷ on 7 kind.Number "7" ∷ on 7 kind.CloseParen ")" ∷ on 7 kind.Arrow "->" ∷
    on 7 kind.OpenParen "(" ∷ on 7 kind.Number "100" ∷ on 7 kind.Plus "+" ∷ on 7 kind.Number "300" ∷ on 7 kind.CloseParen ")" ∷
    on 7 kind.Colon ":" ∷ on 7 kind.Number "255" ∷ on 7 kind.CloseParen ")" ∷ on 7 kind.CloseBrace "}" ∷ on 7 kind.Unless "unless" ∷
    on 7 kind.OpenBrace "{" ∷ on 7 kind.OpenParen "(" ∷ on 7 kind.Number "100" ∷ on 7 kind.Less "<" ∷ on 7 kind.OpenParen "(" ∷
    on 7 kind.Number "0" ∷ on 7 kind.Plus "+" ∷ on 7 kind.Number "100" ∷ on 7 kind.CloseParen ")" ∷ on 7 kind.CloseParen ")" ∷
    on 7 kind.Arrow "->" ∷ on 7 kind.Name "q0" ∷ on 7 kind.Bang "!" ∷ on 7 kind.OpenParen "(" ∷ on 7 kind.Number "1" ∷
    on 7 kind.ShiftLeft "<<" ∷ on 7 kind.Number "5" ∷ on 7 kind.CloseParen ")" ∷ on 7 kind.CloseBrace "}" ∷ on 7 kind.Semicolon ";" ∷
    on 7 kind.Name "v" ∷ on 7 kind.Assign "=" ∷ on 7 kind.OpenParen "(" ∷ on 7 kind.Bang "!" ∷ on 7 kind.Number "255" ∷
    on 7 kind.CloseParen ")" ∷ on 7 kind.Semicolon ";" ∷ on 7 kind.Name "k" ∷ on 7 kind.Assign "=" ∷ on 7 kind.Number "1" ∷
    on 7 kind.Semicolon ";" ∷ on 7 kind.Printf "printf" ∷ on 7 kind.OpenParen "(" ∷ on 7 kind.Quoted "\"P1 ends %d %d\\n\"" ∷
    on 7 kind.Comma "," ∷ on 7 kind.Name "k" ∷ on 7 kind.Comma "," ∷ on 7 kind.Name "v" ∷ on 7 kind.CloseParen ")" ∷
    on 7 kind.CloseBrace "}" ∷ on 8 kind.Init "init" ∷ on 8 kind.OpenBrace "{" ∷ on 8 kind.Byte "byte" ∷ on 8 kind.Name "k" ∷
    on 8 kind.Semicolon ";" ∷ on 8 kind.Run "run" ∷ on 8 kind.Name "P1" ∷ on 8 kind.OpenParen "(" ∷ on 8 kind.Number "3" ∷
    on 8 kind.CloseParen ")" ∷ on 8 kind.Semicolon ";" ∷ on 8 kind.DStep "d_step" ∷ on 8 kind.OpenBrace "{" ∷ on 8 kind.Name "a" ∷
    on 8 kind.OpenBracket "[" ∷ on 8 kind.Number "0" ∷ on 8 kind.CloseBracket "]" ∷ on 8 kind.Assign "=" ∷ on 8 kind.Number "1" ∷
    on 8 kind.Semicolon ";" ∷ on 8 kind.Name "a" ∷ on 8 kind.OpenBracket "[" ∷ on 8 kind.OpenParen "(" ∷ on 8 kind.Name "r" ∷
    on 8 kind.Dot "." ∷ on 8 kind.Name "g" ∷ on 8 kind.OpenBracket "[" ∷ on 8 kind.Number "1" ∷ on 8 kind.CloseBracket "]" ∷
    on 8 kind.Ampersand "&" ∷ on 8 kind.Number "1" ∷ on 8 kind.CloseParen ")" ∷ on 8 kind.CloseBracket "]" ∷ on 8 kind.Assign "=" ∷
    on 8 kind.OpenParen "(" ∷ on 8 kind.Name "a" ∷ on 8 kind.OpenBracket "[" ∷ on 8 kind.Number "1" ∷ on 8 kind.CloseBracket "]" ∷
    on 8 kind.Plus "+" ∷ on 8 kind.Number "3" ∷ on 8 kind.CloseParen ")" ∷ on 8 kind.CloseBrace "}" ∷ on 8 kind.Semicolon ";" ∷
    on 8 kind.If "if" ∷ on 8 kind.DoubleColon "::" ∷ on 8 kind.Timeout "timeout" ∷ on 8 kind.Arrow "->" ∷ on 8 kind.Skip "skip" ∷
    on 8 kind.DoubleColon "::" ∷ on 8 kind.Name "_nr_pr" ∷ on 8 kind.Equal "==" ∷ on 8 kind.Number "1" ∷ on 8 kind.Arrow "->" ∷
    on 8 kind.Skip "skip" ∷ on 8 kind.Fi "fi" ∷ on 8 kind.Semicolon ";" ∷ on 8 kind.Printf "printf" ∷ on 8 kind.OpenParen "(" ∷
    on 8 kind.Quoted "\"%d %d %d %d\\n\"" ∷ on 8 kind.Comma "," ∷ on 8 kind.Name "s0" ∷ on 8 kind.Comma "," ∷ on 8 kind.Name "i1" ∷
    on 8 kind.Comma "," ∷ on 8 kind.Name "r" ∷ on 8 kind.Dot "." ∷ on 8 kind.Name "f" ∷ on 8 kind.Comma "," ∷ on 8 kind.Name "r" ∷
    on 8 kind.Dot "." ∷ on 8 kind.Name "g" ∷ on 8 kind.OpenBracket "[" ∷ on 8 kind.Number "1" ∷ on 8 kind.CloseBracket "]" ∷
    on 8 kind.CloseParen ")" ∷ on 8 kind.CloseBrace "}" ∷ []

model-spin-77 : Program
unfolding tokens-spin-77
model-spin-77 =
    let at : ℕ → Word = token_at tokens-spin-77 in
    let part : ℕ → ℕ → List Word = tokens_between tokens-spin-77 in
    record {
      globals = (slot (at 1) short false 0 1 1 (initial.Value (number 0)) ∷ slot (at 6) int false 1 1 1 (initial.Value (number 1)) ∷
          slot (at 11) short true 2 2 1 initial.Zero ∷ slot (at 30) (form.Struct 4) false 4 1 3 initial.Zero ∷ slot (at 33) chan false 7
          1 1 (initial.Channel 1 (byte ∷ [])) ∷ []);
      constants = [];
      typedefs = (fields 4 (slot (at 20) byte false 0 1 1 initial.Zero ∷ slot (at 23) short true 1 2 1 initial.Zero ∷ []) ∷ []);
      proctypes = (
          process (at 44) 7 0 1 (slot (at 47) byte false 0 1 1 initial.Zero ∷ slot (at 51) byte false 1 1 1 initial.Zero ∷ slot (at 54)
          byte false 2 1 1 (initial.Value (number 5)) ∷ []) (
          plain (part 58 61) (action.Receive (global 4 chan) First Remove (want.Into (global 1 int) ∷ [])) ∷
          plain (part 62 70) (action.Printf (at 64) ((read (local 1 byte)) ∷ (read (local 2 byte)) ∷ [])) ∷ []) (at 70) ∷
          process (at 72) 8 0 1 (slot (at 75) byte false 0 1 1 initial.Zero ∷ slot (at 79) byte false 1 1 1 initial.Zero ∷ slot (at 82)
          int false 2 1 1 (initial.Value (number 3)) ∷ []) (
          unless (part 86 127) (
          block (part 86 107) (
          plain (part 87 106) (assign (global 1 int) (expr.Choice (expr.Binary op.Below (number 255) (expr.Binary op.Minus (number 300)
          (number 7))) (expr.Binary op.Plus (number 100) (number 300)) (number 255))) ∷ []) ∷ []) (
          block (part 108 127) (
          plain (part 109 118) (holds (expr.Binary op.Below (number 100) (expr.Binary op.Plus (number 0) (number 100)))) ∷
          plain (part 119 126) (action.Send (global 4 chan) Fifo ((expr.Binary op.ShiftLeft (number 1) (number 5)) ∷ [])) ∷ []) ∷ []) ∷
          plain (part 128 134) (assign (local 2 int) (expr.Unary before.Not (number 255))) ∷
          plain (part 135 138) (assign (local 1 byte) (number 1)) ∷
          plain (part 139 147) (action.Printf (at 141) ((read (local 1 byte)) ∷ (read (local 2 int)) ∷ [])) ∷ []) (at 147) ∷
          process (at 148) 9 1 0 (slot (at 151) byte false 0 1 1 initial.Zero ∷ []) (
          plain (part 153 158) (action.Run (run 1 ((number 3) ∷ []))) ∷
          d_step (part 159 191) (
          plain (part 161 167) (assign (in_global 2 short (turn 0 2 1 (Some (number 0)) ∷ [])) (number 1)) ∷
          plain (part 168 190) (assign (in_global 2 short (turn 0 2 1 (Some (expr.Binary op.BitAnd (read (in_global 3 short (turn 0 1 3
          None ∷ turn 1 2 1 (Some (number 1)) ∷ []))) (number 1))) ∷ [])) (expr.Binary op.Plus (read (in_global 2 short (turn 0 2 1
          (Some (number 1)) ∷ []))) (number 3))) ∷ []) ∷
          if_fi (part 192 204) (
          (plain (part 194 195) (holds expr.Timeout) ∷
          plain (part 196 197) (holds (number 1)) ∷ []) ∷
          (plain (part 198 201) (holds (expr.Binary op.Equal expr.ProcessCount (number 1))) ∷
          plain (part 202 203) (holds (number 1)) ∷ []) ∷ []) ∷
          plain (part 205 224) (action.Printf (at 207) ((read (global 0 short)) ∷ (read (global 1 int)) ∷ (read (in_global 3 byte (turn
          0 1 3 None ∷ turn 0 1 1 None ∷ []))) ∷ (read (in_global 3 short (turn 0 1 3 None ∷ turn 1 2 1 (Some (number 1)) ∷ []))) ∷
          [])) ∷ []) (at 224) ∷ []);
    }

prints-spin-77 : printed model-spin-77 11 (2 ∷ 1 ∷ [])
    ≡ Some (shown (text (
    "P1 ends 1 0\n" ∷
    "0 400 0 0\n" ∷
    [])) Valid)
unfolding computes model-spin-77
prints-spin-77 = prints model-spin-77 11 (2 ∷ 1 ∷ []) _ refl

-- int i0;
-- typedef T { byte f; short g[2] }; T r;
-- chan q0 = [1] of { byte };
-- proctype P0(byte n) { byte k; int v = 4; n = ((1 << 4) + 100); do :: full(q0) -> do :: v = v; printf("p %u\n", v) :: else -> n = v
--     :: break od :: break od; r.g[1]--; printf("P0 ends %d %d\n", k, v) }
-- proctype P1(byte n) { byte k; byte v = 0; v++; q0!n; printf("P1 ends %d %d\n", k, v) }
-- init { byte k; run P0(3); run P1(4); { k = k } unless { (nfull(q0)) -> q0!(2 / 4) }; i0--; if :: timeout -> skip :: _nr_pr == 1 ->
--     skip fi; printf("%d %d %d\n", i0, r.f, r.g[1]) }
tokens-spin-78 : List Word
tokens-spin-78 =
    on 1 kind.Int "int" ∷ on 1 kind.Name "i0" ∷ on 1 kind.Semicolon ";" ∷ on 2 kind.Typedef "typedef" ∷ on 2 kind.Name "T" ∷
    on 2 kind.OpenBrace "{" ∷ on 2 kind.Byte "byte" ∷ on 2 kind.Name "f" ∷ on 2 kind.Semicolon ";" ∷ on 2 kind.Short "short" ∷
    on 2 kind.Name "g" ∷ on 2 kind.OpenBracket "[" ∷ on 2 kind.Number "2" ∷ on 2 kind.CloseBracket "]" ∷ on 2 kind.CloseBrace "}" ∷
    on 2 kind.Semicolon ";" ∷ on 2 kind.Name "T" ∷ on 2 kind.Name "r" ∷ on 2 kind.Semicolon ";" ∷ on 3 kind.Chan "chan" ∷
    on 3 kind.Name "q0" ∷ on 3 kind.Assign "=" ∷ on 3 kind.OpenBracket "[" ∷ on 3 kind.Number "1" ∷ on 3 kind.CloseBracket "]" ∷
    on 3 kind.Of "of" ∷ on 3 kind.OpenBrace "{" ∷ on 3 kind.Byte "byte" ∷ on 3 kind.CloseBrace "}" ∷ on 3 kind.Semicolon ";" ∷
    on 4 kind.Proctype "proctype" ∷ on 4 kind.Name "P0" ∷ on 4 kind.OpenParen "(" ∷ on 4 kind.Byte "byte" ∷ on 4 kind.Name "n" ∷
    on 4 kind.CloseParen ")" ∷ on 4 kind.OpenBrace "{" ∷ on 4 kind.Byte "byte" ∷ on 4 kind.Name "k" ∷ on 4 kind.Semicolon ";" ∷
    on 4 kind.Int "int" ∷ on 4 kind.Name "v" ∷ on 4 kind.Assign "=" ∷ on 4 kind.Number "4" ∷ on 4 kind.Semicolon ";" ∷
    on 4 kind.Name "n" ∷ on 4 kind.Assign "=" ∷ on 4 kind.OpenParen "(" ∷ on 4 kind.OpenParen "(" ∷ on 4 kind.Number "1" ∷
    on 4 kind.ShiftLeft "<<" ∷ on 4 kind.Number "4" ∷ on 4 kind.CloseParen ")" ∷ on 4 kind.Plus "+" ∷ on 4 kind.Number "100" ∷
    on 4 kind.CloseParen ")" ∷ on 4 kind.Semicolon ";" ∷ on 4 kind.Do "do" ∷ on 4 kind.DoubleColon "::" ∷ on 4 kind.Full "full" ∷
    on 4 kind.OpenParen "(" ∷ on 4 kind.Name "q0" ∷ on 4 kind.CloseParen ")" ∷ on 4 kind.Arrow "->" ∷ on 4 kind.Do "do" ∷
    on 4 kind.DoubleColon "::" ∷ on 4 kind.Name "v" ∷ on 4 kind.Assign "=" ∷ on 4 kind.Name "v" ∷ on 4 kind.Semicolon ";" ∷
    on 4 kind.Printf "printf" ∷ on 4 kind.OpenParen "(" ∷ on 4 kind.Quoted "\"p %u\\n\"" ∷ on 4 kind.Comma "," ∷ on 4 kind.Name "v" ∷
    on 4 kind.CloseParen ")" ∷ on 4 kind.DoubleColon "::" ∷ on 4 kind.Else "else" ∷ on 4 kind.Arrow "->" ∷ on 4 kind.Name "n" ∷
    on 4 kind.Assign "=" ∷ on 4 kind.Name "v" ∷ on 4 kind.DoubleColon "::" ∷ on 4 kind.Break "break" ∷ on 4 kind.Od "od" ∷
    on 4 kind.DoubleColon "::" ∷ on 4 kind.Break "break" ∷ on 4 kind.Od "od" ∷ on 4 kind.Semicolon ";" ∷ on 4 kind.Name "r" ∷
    on 4 kind.Dot "." ∷ on 4 kind.Name "g" ∷ on 4 kind.OpenBracket "[" ∷ on 4 kind.Number "1" ∷ on 4 kind.CloseBracket "]" ∷
    on 4 kind.Decrement "--" ∷ on 4 kind.Semicolon ";" ∷ on 4 kind.Printf "printf" ∷ on 4 kind.OpenParen "(" ∷
    on 4 kind.Quoted "\"P0 ends %d %d\\n\"" ∷ on 4 kind.Comma "," ∷ on 4 kind.Name "k" ∷ on 4 kind.Comma "," ∷ on 4 kind.Name "v" ∷
    on 4 kind.CloseParen ")" ∷ on 4 kind.CloseBrace "}" ∷ on 5 kind.Proctype "proctype" ∷ on 5 kind.Name "P1" ∷
    on 5 kind.OpenParen "(" ∷ on 5 kind.Byte "byte" ∷ on 5 kind.Name "n" ∷ on 5 kind.CloseParen ")" ∷ on 5 kind.OpenBrace "{" ∷
    on 5 kind.Byte "byte" ∷ on 5 kind.Name "k" ∷ on 5 kind.Semicolon ";" ∷ on 5 kind.Byte "byte" ∷ on 5 kind.Name "v" ∷
    on 5 kind.Assign "=" ∷ on 5 kind.Number "0" ∷ on 5 kind.Semicolon ";" ∷ on 5 kind.Name "v" ∷ on 5 kind.Increment "++" ∷
    on 5 kind.Semicolon ";" ∷ on 5 kind.Name "q0" ∷ on 5 kind.Bang "!" ∷ on 5 kind.Name "n" ∷ on 5 kind.Semicolon ";" ∷
    on 5 kind.Printf "printf" ∷ on 5 kind.OpenParen "(" ∷ on 5 kind.Quoted "\"P1 ends %d %d\\n\"" ∷ on 5 kind.Comma "," ∷
    on 5 kind.Name "k" ∷ on 5 kind.Comma "," ∷ on 5 kind.Name "v" ∷ on 5 kind.CloseParen ")" ∷ on 5 kind.CloseBrace "}" ∷
    on 6 kind.Init "init" ∷ on 6 kind.OpenBrace "{" ∷ on 6 kind.Byte "byte" ∷ on 6 kind.Name "k" ∷ on 6 kind.Semicolon ";" ∷
    on 6 kind.Run "run" ∷ on 6 kind.Name "P0" ∷ on 6 kind.OpenParen "(" ∷ on 6 kind.Number "3" ∷ on 6 kind.CloseParen ")" ∷
    on 6 kind.Semicolon ";" ∷ on 6 kind.Run "run" ∷ on 6 kind.Name "P1" ∷ on 6 kind.OpenParen "(" ∷ on 6 kind.Number "4" ∷
    on 6 kind.CloseParen ")" ∷ on 6 kind.Semicolon ";" ∷ on 6 kind.OpenBrace "{" ∷ on 6 kind.Name "k" ∷ on 6 kind.Assign "=" ∷
    on 6 kind.Name "k" ∷ on 6 kind.CloseBrace "}" ∷ on 6 kind.Unless "unless" ∷ on 6 kind.OpenBrace "{" ∷ on 6 kind.OpenParen "(" ∷
    on 6 kind.Nfull "nfull" ∷ on 6 kind.OpenParen "(" ∷ on 6 kind.Name "q0" ∷ on 6 kind.CloseParen ")" ∷ on 6 kind.CloseParen ")" ∷
    on 6 kind.Arrow "->" ∷ on 6 kind.Name "q0" ∷ on 6 kind.Bang "!" ∷ on 6 kind.OpenParen "(" ∷ on 6 kind.Number "2" ∷
    on 6 kind.Slash "/" ∷ on 6 kind.Number "4" ∷ on 6 kind.CloseParen ")" ∷ on 6 kind.CloseBrace "}" ∷ on 6 kind.Semicolon ";" ∷
    on 6 kind.Name "i0" ∷ on 6 kind.Decrement "--" ∷ on 6 kind.Semicolon ";" ∷ on 6 kind.If "if" ∷ on 6 kind.DoubleColon "::" ∷
    on 6 kind.Timeout "timeout" ∷ on 6 kind.Arrow "->" ∷ on 6 kind.Skip "skip" ∷ on 6 kind.DoubleColon "::" ∷
    on 6 kind.Name "_nr_pr" ∷ on 6 kind.Equal "==" ∷ on 6 kind.Number "1" ∷ on 6 kind.Arrow "->" ∷ on 6 kind.Skip "skip" ∷
    on 6 kind.Fi "fi" ∷ on 6 kind.Semicolon ";" ∷ on 6 kind.Printf "printf" ∷ on 6 kind.OpenParen "(" ∷
    on 6 kind.Quoted "\"%d %d %d\\n\"" ∷ on 6 kind.Comma "," ∷ on 6 kind.Name "i0" ∷ on 6 kind.Comma "," ∷ on 6 kind.Name "r" ∷
    on 6 kind.Dot "." ∷ on 6 kind.Name "f" ∷ on 6 kind.Comma "," ∷ on 6 kind.Name "r" ∷ on 6 kind.Dot "." ∷ on 6 kind.Name "g" ∷
    on 6 kind.OpenBracket "[" ∷ on 6 kind.Number "1" ∷ on 6 kind.CloseBracket "]" ∷ on 6 kind.CloseParen ")" ∷
    on 6 kind.CloseBrace "}" ∷ []

model-spin-78 : Program
unfolding tokens-spin-78
model-spin-78 =
    let at : ℕ → Word = token_at tokens-spin-78 in
    let part : ℕ → ℕ → List Word = tokens_between tokens-spin-78 in
    record {
      globals = (slot (at 1) int false 0 1 1 initial.Zero ∷ slot (at 17) (form.Struct 2) false 1 1 3 initial.Zero ∷ slot (at 20) chan
          false 4 1 1 (initial.Channel 1 (byte ∷ [])) ∷ []);
      constants = [];
      typedefs = (fields 2 (slot (at 7) byte false 0 1 1 initial.Zero ∷ slot (at 10) short true 1 2 1 initial.Zero ∷ []) ∷ []);
      proctypes = (
          process (at 31) 5 0 1 (slot (at 34) byte false 0 1 1 initial.Zero ∷ slot (at 38) byte false 1 1 1 initial.Zero ∷ slot (at 41)
          int false 2 1 1 (initial.Value (number 4)) ∷ []) (
          plain (part 45 56) (assign (local 0 byte) (expr.Binary op.Plus (expr.Binary op.ShiftLeft (number 1) (number 4)) (number 100))) ∷
          do_od (part 57 88) (
          (plain (part 59 63) (holds (expr.Ask fill.IsFull (global 2 chan))) ∷
          do_od (part 64 85) (
          (plain (part 66 69) (assign (local 2 int) (read (local 2 int))) ∷
          plain (part 70 76) (action.Printf (at 72) ((read (local 2 int)) ∷ [])) ∷ []) ∷
          (plain (part 77 78) action.Else ∷
          plain (part 79 82) (assign (local 0 byte) (read (local 2 int))) ∷ []) ∷
          (stmt [] Break (part 83 84) ∷ []) ∷ []) ∷ []) ∷
          (stmt [] Break (part 86 87) ∷ []) ∷ []) ∷
          plain (part 89 96) (action.Decrement (in_global 1 short (turn 0 1 3 None ∷ turn 1 2 1 (Some (number 1)) ∷ []))) ∷
          plain (part 97 105) (action.Printf (at 99) ((read (local 1 byte)) ∷ (read (local 2 int)) ∷ [])) ∷ []) (at 105) ∷
          process (at 107) 6 0 1 (slot (at 110) byte false 0 1 1 initial.Zero ∷ slot (at 114) byte false 1 1 1 initial.Zero ∷ slot (at
          117) byte false 2 1 1 (initial.Value (number 0)) ∷ []) (
          plain (part 121 123) (action.Increment (local 2 byte)) ∷
          plain (part 124 127) (action.Send (global 2 chan) Fifo ((read (local 0 byte)) ∷ [])) ∷
          plain (part 128 136) (action.Printf (at 130) ((read (local 1 byte)) ∷ (read (local 2 byte)) ∷ [])) ∷ []) (at 136) ∷
          process (at 137) 7 1 0 (slot (at 140) byte false 0 1 1 initial.Zero ∷ []) (
          plain (part 142 147) (action.Run (run 0 ((number 3) ∷ []))) ∷
          plain (part 148 153) (action.Run (run 1 ((number 4) ∷ []))) ∷
          unless (part 154 176) (
          block (part 154 159) (
          plain (part 155 158) (assign (local 0 byte) (read (local 0 byte))) ∷ []) ∷ []) (
          block (part 160 176) (
          plain (part 161 167) (holds (expr.Ask fill.IsNotFull (global 2 chan))) ∷
          plain (part 168 175) (action.Send (global 2 chan) Fifo ((expr.Binary op.Divide (number 2) (number 4)) ∷ [])) ∷ []) ∷ []) ∷
          plain (part 177 179) (action.Decrement (global 0 int)) ∷
          if_fi (part 180 192) (
          (plain (part 182 183) (holds expr.Timeout) ∷
          plain (part 184 185) (holds (number 1)) ∷ []) ∷
          (plain (part 186 189) (holds (expr.Binary op.Equal expr.ProcessCount (number 1))) ∷
          plain (part 190 191) (holds (number 1)) ∷ []) ∷ []) ∷
          plain (part 193 210) (action.Printf (at 195) ((read (global 0 int)) ∷ (read (in_global 1 byte (turn 0 1 3 None ∷ turn 0 1 1
          None ∷ []))) ∷ (read (in_global 1 short (turn 0 1 3 None ∷ turn 1 2 1 (Some (number 1)) ∷ []))) ∷ [])) ∷ []) (at 210) ∷ []);
    }

prints-spin-78 : printed model-spin-78 38 (1 ∷ 2 ∷ 3 ∷ 1 ∷ 3 ∷ 3 ∷ 1 ∷ 3 ∷ 1 ∷ 1 ∷ 1 ∷ 1 ∷ 1 ∷ 1 ∷ 1 ∷ 1 ∷ 1 ∷ 1 ∷ 1 ∷ 1 ∷ 2 ∷ 2 ∷ [])
    ≡ Some (shown (text (
    "P1 ends 0 1\n" ∷
    "p 4\n" ∷
    "p 4\n" ∷
    "p 4\n" ∷
    "p 4\n" ∷
    "p 4\n" ∷
    "p 4\n" ∷
    "p 4\n" ∷
    "p 4\n" ∷
    "p 4\n" ∷
    "p 4\n" ∷
    "p 4\n" ∷
    "p 4\n" ∷
    "P0 ends 0 4\n" ∷
    [])) Invalid)
unfolding computes model-spin-78
prints-spin-78 = prints model-spin-78 38 (1 ∷ 2 ∷ 3 ∷ 1 ∷ 3 ∷ 3 ∷ 1 ∷ 3 ∷ 1 ∷ 1 ∷ 1 ∷ 1 ∷ 1 ∷ 1 ∷ 1 ∷ 1 ∷ 1 ∷ 1 ∷ 1 ∷ 1 ∷ 2 ∷ 2 ∷ []) _ refl

-- mtype = { red, green, blue }; mtype m = green;
-- unsigned u0 : 4 = 3;
-- short s1 = 0;
-- int a[3];
-- typedef T { byte f; short g[2] }; T r;
-- chan q0 = [2] of { short, byte };
-- proctype P0(byte n) { byte k; int v = 4; k = ((0 != 1 -> 100 : 2) ^ (1 ^ 300)); q0!!0, s1; printf("P0 ends %d %d\n", k, v) }
-- init { byte k; run P0(0); a[1] = a[(k & 1)]; if :: a[(s1 & 1)] != a[(u0 & 1)] -> (_nr_pr == r.f); printf("= %x\n", r.f) :: else ->
--     k = ((1 ^ 255) / 4) fi; if :: timeout -> skip :: _nr_pr == 1 -> skip fi; printf("%d %d %d %d\n", u0, s1, r.f, r.g[1]) }
tokens-spin-79 : List Word
tokens-spin-79 =
    on 1 kind.Mtype "mtype" ∷ on 1 kind.Assign "=" ∷ on 1 kind.OpenBrace "{" ∷ on 1 kind.Name "red" ∷ on 1 kind.Comma "," ∷
    on 1 kind.Name "green" ∷ on 1 kind.Comma "," ∷ on 1 kind.Name "blue" ∷ on 1 kind.CloseBrace "}" ∷ on 1 kind.Semicolon ";" ∷
    on 1 kind.Mtype "mtype" ∷ on 1 kind.Name "m" ∷ on 1 kind.Assign "=" ∷ on 1 kind.Name "green" ∷ on 1 kind.Semicolon ";" ∷
    on 2 kind.Unsigned "unsigned" ∷ on 2 kind.Name "u0" ∷ on 2 kind.Colon ":" ∷ on 2 kind.Number "4" ∷ on 2 kind.Assign "=" ∷
    on 2 kind.Number "3" ∷ on 2 kind.Semicolon ";" ∷ on 3 kind.Short "short" ∷ on 3 kind.Name "s1" ∷ on 3 kind.Assign "=" ∷
    on 3 kind.Number "0" ∷ on 3 kind.Semicolon ";" ∷ on 4 kind.Int "int" ∷ on 4 kind.Name "a" ∷ on 4 kind.OpenBracket "[" ∷
    on 4 kind.Number "3" ∷ on 4 kind.CloseBracket "]" ∷ on 4 kind.Semicolon ";" ∷ on 5 kind.Typedef "typedef" ∷ on 5 kind.Name "T" ∷
    on 5 kind.OpenBrace "{" ∷ on 5 kind.Byte "byte" ∷ on 5 kind.Name "f" ∷ on 5 kind.Semicolon ";" ∷ on 5 kind.Short "short" ∷
    on 5 kind.Name "g" ∷ on 5 kind.OpenBracket "[" ∷ on 5 kind.Number "2" ∷ on 5 kind.CloseBracket "]" ∷ on 5 kind.CloseBrace "}" ∷
    on 5 kind.Semicolon ";" ∷ on 5 kind.Name "T" ∷ on 5 kind.Name "r" ∷ on 5 kind.Semicolon ";" ∷ on 6 kind.Chan "chan" ∷
    on 6 kind.Name "q0" ∷ on 6 kind.Assign "=" ∷ on 6 kind.OpenBracket "[" ∷ on 6 kind.Number "2" ∷ on 6 kind.CloseBracket "]" ∷
    on 6 kind.Of "of" ∷ on 6 kind.OpenBrace "{" ∷ on 6 kind.Short "short" ∷ on 6 kind.Comma "," ∷ on 6 kind.Byte "byte" ∷
    on 6 kind.CloseBrace "}" ∷ on 6 kind.Semicolon ";" ∷ on 7 kind.Proctype "proctype" ∷ on 7 kind.Name "P0" ∷
    on 7 kind.OpenParen "(" ∷ on 7 kind.Byte "byte" ∷ on 7 kind.Name "n" ∷ on 7 kind.CloseParen ")" ∷ on 7 kind.OpenBrace "{" ∷
    on 7 kind.Byte "byte" ∷ on 7 kind.Name "k" ∷ on 7 kind.Semicolon ";" ∷ on 7 kind.Int "int" ∷ on 7 kind.Name "v" ∷
    on 7 kind.Assign "=" ∷ on 7 kind.Number "4" ∷ on 7 kind.Semicolon ";" ∷ on 7 kind.Name "k" ∷ on 7 kind.Assign "=" ∷
    on 7 kind.OpenParen "(" ∷ on 7 kind.OpenParen "(" ∷ on 7 kind.Number "0" ∷ on 7 kind.Unequal "!=" ∷ on 7 kind.Number "1" ∷
    on 7 kind.Arrow "->" ∷ on 7 kind.Number "100" ∷ on 7 kind.Colon ":" ∷ on 7 kind.Number "2" ∷ on 7 kind.CloseParen ")" ∷
    on 7 kind.Caret "^" ∷ on 7 kind.OpenParen "(" ∷ on 7 kind.Number "1" ∷ on 7 kind.Caret "^" ∷ on 7 kind.Number "300" ∷
    on 7 kind.CloseParen ")" ∷ on 7 kind.CloseParen ")" ∷ on 7 kind.Semicolon ";" ∷ on 7 kind.Name "q0" ∷ on 7 kind.BangBang "!!" ∷
    on 7 kind.Number "0" ∷ on 7 kind.Comma "," ∷ on 7 kind.Name "s1" ∷ on 7 kind.Semicolon ";" ∷ on 7 kind.Printf "printf" ∷
    on 7 kind.OpenParen "(" ∷ on 7 kind.Quoted "\"P0 ends %d %d\\n\"" ∷ on 7 kind.Comma "," ∷ on 7 kind.Name "k" ∷
    on 7 kind.Comma "," ∷ on 7 kind.Name "v" ∷ on 7 kind.CloseParen ")" ∷ on 7 kind.CloseBrace "}" ∷ on 8 kind.Init "init" ∷
    on 8 kind.OpenBrace "{" ∷ on 8 kind.Byte "byte" ∷ on 8 kind.Name "k" ∷ on 8 kind.Semicolon ";" ∷ on 8 kind.Run "run" ∷
    on 8 kind.Name "P0" ∷ on 8 kind.OpenParen "(" ∷ on 8 kind.Number "0" ∷ on 8 kind.CloseParen ")" ∷ on 8 kind.Semicolon ";" ∷
    on 8 kind.Name "a" ∷ on 8 kind.OpenBracket "[" ∷ on 8 kind.Number "1" ∷ on 8 kind.CloseBracket "]" ∷ on 8 kind.Assign "=" ∷
    on 8 kind.Name "a" ∷ on 8 kind.OpenBracket "[" ∷ on 8 kind.OpenParen "(" ∷ on 8 kind.Name "k" ∷ on 8 kind.Ampersand "&" ∷
    on 8 kind.Number "1" ∷ on 8 kind.CloseParen ")" ∷ on 8 kind.CloseBracket "]" ∷ on 8 kind.Semicolon ";" ∷ on 8 kind.If "if" ∷
    on 8 kind.DoubleColon "::" ∷ on 8 kind.Name "a" ∷ on 8 kind.OpenBracket "[" ∷ on 8 kind.OpenParen "(" ∷ on 8 kind.Name "s1" ∷
    on 8 kind.Ampersand "&" ∷ on 8 kind.Number "1" ∷ on 8 kind.CloseParen ")" ∷ on 8 kind.CloseBracket "]" ∷ on 8 kind.Unequal "!=" ∷
    on 8 kind.Name "a" ∷ on 8 kind.OpenBracket "[" ∷ on 8 kind.OpenParen "(" ∷ on 8 kind.Name "u0" ∷ on 8 kind.Ampersand "&" ∷
    on 8 kind.Number "1" ∷ on 8 kind.CloseParen ")" ∷ on 8 kind.CloseBracket "]" ∷ on 8 kind.Arrow "->" ∷ on 8 kind.OpenParen "(" ∷
    on 8 kind.Name "_nr_pr" ∷ on 8 kind.Equal "==" ∷ on 8 kind.Name "r" ∷ on 8 kind.Dot "." ∷ on 8 kind.Name "f" ∷
    on 8 kind.CloseParen ")" ∷ on 8 kind.Semicolon ";" ∷ on 8 kind.Printf "printf" ∷ on 8 kind.OpenParen "(" ∷
    on 8 kind.Quoted "\"= %x\\n\"" ∷ on 8 kind.Comma "," ∷ on 8 kind.Name "r" ∷ on 8 kind.Dot "." ∷ on 8 kind.Name "f" ∷
    on 8 kind.CloseParen ")" ∷ on 8 kind.DoubleColon "::" ∷ on 8 kind.Else "else" ∷ on 8 kind.Arrow "->" ∷ on 8 kind.Name "k" ∷
    on 8 kind.Assign "=" ∷ on 8 kind.OpenParen "(" ∷ on 8 kind.OpenParen "(" ∷ on 8 kind.Number "1" ∷ on 8 kind.Caret "^" ∷
    on 8 kind.Number "255" ∷ on 8 kind.CloseParen ")" ∷ on 8 kind.Slash "/" ∷ on 8 kind.Number "4" ∷ on 8 kind.CloseParen ")" ∷
    on 8 kind.Fi "fi" ∷ on 8 kind.Semicolon ";" ∷ on 8 kind.If "if" ∷ on 8 kind.DoubleColon "::" ∷ on 8 kind.Timeout "timeout" ∷
    on 8 kind.Arrow "->" ∷ on 8 kind.Skip "skip" ∷ on 8 kind.DoubleColon "::" ∷ on 8 kind.Name "_nr_pr" ∷ on 8 kind.Equal "==" ∷
    on 8 kind.Number "1" ∷ on 8 kind.Arrow "->" ∷ on 8 kind.Skip "skip" ∷ on 8 kind.Fi "fi" ∷ on 8 kind.Semicolon ";" ∷
    on 8 kind.Printf "printf" ∷ on 8 kind.OpenParen "(" ∷ on 8 kind.Quoted "\"%d %d %d %d\\n\"" ∷ on 8 kind.Comma "," ∷
    on 8 kind.Name "u0" ∷ on 8 kind.Comma "," ∷ on 8 kind.Name "s1" ∷ on 8 kind.Comma "," ∷ on 8 kind.Name "r" ∷ on 8 kind.Dot "." ∷
    on 8 kind.Name "f" ∷ on 8 kind.Comma "," ∷ on 8 kind.Name "r" ∷ on 8 kind.Dot "." ∷ on 8 kind.Name "g" ∷
    on 8 kind.OpenBracket "[" ∷ on 8 kind.Number "1" ∷ on 8 kind.CloseBracket "]" ∷ on 8 kind.CloseParen ")" ∷
    on 8 kind.CloseBrace "}" ∷ []

model-spin-79 : Program
unfolding tokens-spin-79
model-spin-79 =
    let at : ℕ → Word = token_at tokens-spin-79 in
    let part : ℕ → ℕ → List Word = tokens_between tokens-spin-79 in
    record {
      globals = (slot (at 11) mtype false 0 1 1 (initial.Value (number 2)) ∷ slot (at 16) (form.Unsigned 4) false 1 1 1 (initial.Value
          (number 3)) ∷ slot (at 23) short false 2 1 1 (initial.Value (number 0)) ∷ slot (at 28) int true 3 3 1 initial.Zero ∷ slot (at
          47) (form.Struct 6) false 6 1 3 initial.Zero ∷ slot (at 50) chan false 9 1 1 (initial.Channel 2 (short ∷ byte ∷ [])) ∷ []);
      constants = ((at 7) ∷ (at 5) ∷ (at 3) ∷ []);
      typedefs = (fields 6 (slot (at 37) byte false 0 1 1 initial.Zero ∷ slot (at 40) short true 1 2 1 initial.Zero ∷ []) ∷ []);
      proctypes = (
          process (at 63) 9 0 1 (slot (at 66) byte false 0 1 1 initial.Zero ∷ slot (at 70) byte false 1 1 1 initial.Zero ∷ slot (at 73)
          int false 2 1 1 (initial.Value (number 4)) ∷ []) (
          plain (part 77 96) (assign (local 1 byte) (expr.Binary op.BitXor (expr.Choice (expr.Binary op.Unequal (number 0) (number 1))
          (number 100) (number 2)) (expr.Binary op.BitXor (number 1) (number 300)))) ∷
          plain (part 97 102) (action.Send (global 5 chan) Sorted ((number 0) ∷ (read (global 2 short)) ∷ [])) ∷
          plain (part 103 111) (action.Printf (at 105) ((read (local 1 byte)) ∷ (read (local 2 int)) ∷ [])) ∷ []) (at 111) ∷
          process (at 112) 10 1 0 (slot (at 115) byte false 0 1 1 initial.Zero ∷ []) (
          plain (part 117 122) (action.Run (run 0 ((number 0) ∷ []))) ∷
          plain (part 123 136) (assign (in_global 3 int (turn 0 3 1 (Some (number 1)) ∷ [])) (read (in_global 3 int (turn 0 3 1 (Some
          (expr.Binary op.BitAnd (read (local 0 byte)) (number 1))) ∷ [])))) ∷
          if_fi (part 137 188) (
          (plain (part 139 156) (holds (expr.Binary op.Unequal (read (in_global 3 int (turn 0 3 1 (Some (expr.Binary op.BitAnd (read
          (global 2 short)) (number 1))) ∷ []))) (read (in_global 3 int (turn 0 3 1 (Some (expr.Binary op.BitAnd (read (global 1
          (form.Unsigned 4))) (number 1))) ∷ []))))) ∷
          plain (part 157 164) (holds (expr.Binary op.Equal expr.ProcessCount (read (in_global 4 byte (turn 0 1 3 None ∷ turn 0 1 1 None
          ∷ []))))) ∷
          plain (part 165 173) (action.Printf (at 167) ((read (in_global 4 byte (turn 0 1 3 None ∷ turn 0 1 1 None ∷ []))) ∷ [])) ∷ []) ∷
          (plain (part 174 175) action.Else ∷
          plain (part 176 187) (assign (local 0 byte) (expr.Binary op.Divide (expr.Binary op.BitXor (number 1) (number 255)) (number
          4))) ∷ []) ∷ []) ∷
          if_fi (part 189 201) (
          (plain (part 191 192) (holds expr.Timeout) ∷
          plain (part 193 194) (holds (number 1)) ∷ []) ∷
          (plain (part 195 198) (holds (expr.Binary op.Equal expr.ProcessCount (number 1))) ∷
          plain (part 199 200) (holds (number 1)) ∷ []) ∷ []) ∷
          plain (part 202 221) (action.Printf (at 204) ((read (global 1 (form.Unsigned 4))) ∷ (read (global 2 short)) ∷ (read (in_global
          4 byte (turn 0 1 3 None ∷ turn 0 1 1 None ∷ []))) ∷ (read (in_global 4 short (turn 0 1 3 None ∷ turn 1 2 1 (Some (number 1))
          ∷ []))) ∷ [])) ∷ []) (at 221) ∷ []);
    }

prints-spin-79 : printed model-spin-79 12 (2 ∷ 1 ∷ 1 ∷ 1 ∷ [])
    ≡ Some (shown (text (
    "P0 ends 73 4\n" ∷
    "3 0 0 0\n" ∷
    [])) Valid)
unfolding computes model-spin-79
prints-spin-79 = prints model-spin-79 12 (2 ∷ 1 ∷ 1 ∷ 1 ∷ []) _ refl

-- mtype = { red, green, blue }; mtype m = green;
-- bit t0 = 1;
-- int i1 = 3;
-- short s2;
-- byte a[2];
-- chan q0 = [1] of { byte };
-- chan q1 = [1] of { short, byte };
-- proctype P0(byte n) { byte k; short v = 0; i1--; printf("P0 ends %d %d\n", k, v) }
-- init { byte k; run P0(0); run P0(1); printf("= %o\n", s2); t0 = a[(s2 & 1)]; if :: timeout -> skip :: _nr_pr == 1 -> skip fi;
--     printf("%d %d %d\n", t0, i1, s2) }
tokens-spin-80 : List Word
tokens-spin-80 =
    on 1 kind.Mtype "mtype" ∷ on 1 kind.Assign "=" ∷ on 1 kind.OpenBrace "{" ∷ on 1 kind.Name "red" ∷ on 1 kind.Comma "," ∷
    on 1 kind.Name "green" ∷ on 1 kind.Comma "," ∷ on 1 kind.Name "blue" ∷ on 1 kind.CloseBrace "}" ∷ on 1 kind.Semicolon ";" ∷
    on 1 kind.Mtype "mtype" ∷ on 1 kind.Name "m" ∷ on 1 kind.Assign "=" ∷ on 1 kind.Name "green" ∷ on 1 kind.Semicolon ";" ∷
    on 2 kind.Bit "bit" ∷ on 2 kind.Name "t0" ∷ on 2 kind.Assign "=" ∷ on 2 kind.Number "1" ∷ on 2 kind.Semicolon ";" ∷
    on 3 kind.Int "int" ∷ on 3 kind.Name "i1" ∷ on 3 kind.Assign "=" ∷ on 3 kind.Number "3" ∷ on 3 kind.Semicolon ";" ∷
    on 4 kind.Short "short" ∷ on 4 kind.Name "s2" ∷ on 4 kind.Semicolon ";" ∷ on 5 kind.Byte "byte" ∷ on 5 kind.Name "a" ∷
    on 5 kind.OpenBracket "[" ∷ on 5 kind.Number "2" ∷ on 5 kind.CloseBracket "]" ∷ on 5 kind.Semicolon ";" ∷ on 6 kind.Chan "chan" ∷
    on 6 kind.Name "q0" ∷ on 6 kind.Assign "=" ∷ on 6 kind.OpenBracket "[" ∷ on 6 kind.Number "1" ∷ on 6 kind.CloseBracket "]" ∷
    on 6 kind.Of "of" ∷ on 6 kind.OpenBrace "{" ∷ on 6 kind.Byte "byte" ∷ on 6 kind.CloseBrace "}" ∷ on 6 kind.Semicolon ";" ∷
    on 7 kind.Chan "chan" ∷ on 7 kind.Name "q1" ∷ on 7 kind.Assign "=" ∷ on 7 kind.OpenBracket "[" ∷ on 7 kind.Number "1" ∷
    on 7 kind.CloseBracket "]" ∷ on 7 kind.Of "of" ∷ on 7 kind.OpenBrace "{" ∷ on 7 kind.Short "short" ∷ on 7 kind.Comma "," ∷
    on 7 kind.Byte "byte" ∷ on 7 kind.CloseBrace "}" ∷ on 7 kind.Semicolon ";" ∷ on 8 kind.Proctype "proctype" ∷
    on 8 kind.Name "P0" ∷ on 8 kind.OpenParen "(" ∷ on 8 kind.Byte "byte" ∷ on 8 kind.Name "n" ∷ on 8 kind.CloseParen ")" ∷
    on 8 kind.OpenBrace "{" ∷ on 8 kind.Byte "byte" ∷ on 8 kind.Name "k" ∷ on 8 kind.Semicolon ";" ∷ on 8 kind.Short "short" ∷
    on 8 kind.Name "v" ∷ on 8 kind.Assign "=" ∷ on 8 kind.Number "0" ∷ on 8 kind.Semicolon ";" ∷ on 8 kind.Name "i1" ∷
    on 8 kind.Decrement "--" ∷ on 8 kind.Semicolon ";" ∷ on 8 kind.Printf "printf" ∷ on 8 kind.OpenParen "(" ∷
    on 8 kind.Quoted "\"P0 ends %d %d\\n\"" ∷ on 8 kind.Comma "," ∷ on 8 kind.Name "k" ∷ on 8 kind.Comma "," ∷ on 8 kind.Name "v" ∷
    on 8 kind.CloseParen ")" ∷ on 8 kind.CloseBrace "}" ∷ on 9 kind.Init "init" ∷ on 9 kind.OpenBrace "{" ∷ on 9 kind.Byte "byte" ∷
    on 9 kind.Name "k" ∷ on 9 kind.Semicolon ";" ∷ on 9 kind.Run "run" ∷ on 9 kind.Name "P0" ∷ on 9 kind.OpenParen "(" ∷
    on 9 kind.Number "0" ∷ on 9 kind.CloseParen ")" ∷ on 9 kind.Semicolon ";" ∷ on 9 kind.Run "run" ∷ on 9 kind.Name "P0" ∷
    on 9 kind.OpenParen "(" ∷ on 9 kind.Number "1" ∷ on 9 kind.CloseParen ")" ∷ on 9 kind.Semicolon ";" ∷ on 9 kind.Printf "printf" ∷
    on 9 kind.OpenParen "(" ∷ on 9 kind.Quoted "\"= %o\\n\"" ∷ on 9 kind.Comma "," ∷ on 9 kind.Name "s2" ∷ on 9 kind.CloseParen ")" ∷
    on 9 kind.Semicolon ";" ∷ on 9 kind.Name "t0" ∷ on 9 kind.Assign "=" ∷ on 9 kind.Name "a" ∷ on 9 kind.OpenBracket "[" ∷
    on 9 kind.OpenParen "(" ∷ on 9 kind.Name "s2" ∷ on 9 kind.Ampersand "&" ∷ on 9 kind.Number "1" ∷ on 9 kind.CloseParen ")" ∷
    on 9 kind.CloseBracket "]" ∷ on 9 kind.Semicolon ";" ∷ on 9 kind.If "if" ∷ on 9 kind.DoubleColon "::" ∷
    on 9 kind.Timeout "timeout" ∷ on 9 kind.Arrow "->" ∷ on 9 kind.Skip "skip" ∷ on 9 kind.DoubleColon "::" ∷
    on 9 kind.Name "_nr_pr" ∷ on 9 kind.Equal "==" ∷ on 9 kind.Number "1" ∷ on 9 kind.Arrow "->" ∷ on 9 kind.Skip "skip" ∷
    on 9 kind.Fi "fi" ∷ on 9 kind.Semicolon ";" ∷ on 9 kind.Printf "printf" ∷ on 9 kind.OpenParen "(" ∷
    on 9 kind.Quoted "\"%d %d %d\\n\"" ∷ on 9 kind.Comma "," ∷ on 9 kind.Name "t0" ∷ on 9 kind.Comma "," ∷ on 9 kind.Name "i1" ∷
    on 9 kind.Comma "," ∷ on 9 kind.Name "s2" ∷ on 9 kind.CloseParen ")" ∷ on 9 kind.CloseBrace "}" ∷ []

model-spin-80 : Program
unfolding tokens-spin-80
model-spin-80 =
    let at : ℕ → Word = token_at tokens-spin-80 in
    let part : ℕ → ℕ → List Word = tokens_between tokens-spin-80 in
    record {
      globals = (slot (at 11) mtype false 0 1 1 (initial.Value (number 2)) ∷ slot (at 16) bit false 1 1 1 (initial.Value (number 1)) ∷
          slot (at 21) int false 2 1 1 (initial.Value (number 3)) ∷ slot (at 26) short false 3 1 1 initial.Zero ∷ slot (at 29) byte true
          4 2 1 initial.Zero ∷ slot (at 35) chan false 6 1 1 (initial.Channel 1 (byte ∷ [])) ∷ slot (at 46) chan false 7 1 1
          (initial.Channel 1 (short ∷ byte ∷ [])) ∷ []);
      constants = ((at 7) ∷ (at 5) ∷ (at 3) ∷ []);
      typedefs = [];
      proctypes = (
          process (at 59) 9 0 1 (slot (at 62) byte false 0 1 1 initial.Zero ∷ slot (at 66) byte false 1 1 1 initial.Zero ∷ slot (at 69)
          short false 2 1 1 (initial.Value (number 0)) ∷ []) (
          plain (part 73 75) (action.Decrement (global 2 int)) ∷
          plain (part 76 84) (action.Printf (at 78) ((read (local 1 byte)) ∷ (read (local 2 short)) ∷ [])) ∷ []) (at 84) ∷
          process (at 85) 10 1 0 (slot (at 88) byte false 0 1 1 initial.Zero ∷ []) (
          plain (part 90 95) (action.Run (run 0 ((number 0) ∷ []))) ∷
          plain (part 96 101) (action.Run (run 0 ((number 1) ∷ []))) ∷
          plain (part 102 108) (action.Printf (at 104) ((read (global 3 short)) ∷ [])) ∷
          plain (part 109 119) (assign (global 1 bit) (read (in_global 4 byte (turn 0 2 1 (Some (expr.Binary op.BitAnd (read (global 3
          short)) (number 1))) ∷ [])))) ∷
          if_fi (part 120 132) (
          (plain (part 122 123) (holds expr.Timeout) ∷
          plain (part 124 125) (holds (number 1)) ∷ []) ∷
          (plain (part 126 129) (holds (expr.Binary op.Equal expr.ProcessCount (number 1))) ∷
          plain (part 130 131) (holds (number 1)) ∷ []) ∷ []) ∷
          plain (part 133 143) (action.Printf (at 135) ((read (global 1 bit)) ∷ (read (global 2 int)) ∷ (read (global 3 short)) ∷ [])) ∷
          []) (at 143) ∷ []);
    }

prints-spin-80 : printed model-spin-80 14 (1 ∷ 3 ∷ 2 ∷ 1 ∷ 2 ∷ 2 ∷ 2 ∷ 2 ∷ [])
    ≡ Some (shown (text (
    "= 0\n" ∷
    "P0 ends 0 0\n" ∷
    "P0 ends 0 0\n" ∷
    "0 1 0\n" ∷
    [])) Valid)
unfolding computes model-spin-80
prints-spin-80 = prints model-spin-80 14 (1 ∷ 3 ∷ 2 ∷ 1 ∷ 2 ∷ 2 ∷ 2 ∷ 2 ∷ []) _ refl

-- int i0;
-- bit t1 = 0;
-- int a[3];
-- chan q0 = [2] of { byte };
-- chan q1 = [2] of { short, byte };
-- proctype P0(byte n) { byte k; short v = 3; if :: (!1) >= 100 -> printf("= %x %x\n", n, v); a[(n & 1)] = (2 >> 1) :: else -> i0 =
--     300 fi; q1!i0, _nr_pr; printf("P0 ends %d %d\n", k, v) }
-- init { byte k; run P0(3); run P0(3); k--; if :: timeout -> skip :: _nr_pr == 1 -> skip fi; printf("%d %d\n", i0, t1) }
tokens-spin-81 : List Word
tokens-spin-81 =
    on 1 kind.Int "int" ∷ on 1 kind.Name "i0" ∷ on 1 kind.Semicolon ";" ∷ on 2 kind.Bit "bit" ∷ on 2 kind.Name "t1" ∷
    on 2 kind.Assign "=" ∷ on 2 kind.Number "0" ∷ on 2 kind.Semicolon ";" ∷ on 3 kind.Int "int" ∷ on 3 kind.Name "a" ∷
    on 3 kind.OpenBracket "[" ∷ on 3 kind.Number "3" ∷ on 3 kind.CloseBracket "]" ∷ on 3 kind.Semicolon ";" ∷ on 4 kind.Chan "chan" ∷
    on 4 kind.Name "q0" ∷ on 4 kind.Assign "=" ∷ on 4 kind.OpenBracket "[" ∷ on 4 kind.Number "2" ∷ on 4 kind.CloseBracket "]" ∷
    on 4 kind.Of "of" ∷ on 4 kind.OpenBrace "{" ∷ on 4 kind.Byte "byte" ∷ on 4 kind.CloseBrace "}" ∷ on 4 kind.Semicolon ";" ∷
    on 5 kind.Chan "chan" ∷ on 5 kind.Name "q1" ∷ on 5 kind.Assign "=" ∷ on 5 kind.OpenBracket "[" ∷ on 5 kind.Number "2" ∷
    on 5 kind.CloseBracket "]" ∷ on 5 kind.Of "of" ∷ on 5 kind.OpenBrace "{" ∷ on 5 kind.Short "short" ∷ on 5 kind.Comma "," ∷
    on 5 kind.Byte "byte" ∷ on 5 kind.CloseBrace "}" ∷ on 5 kind.Semicolon ";" ∷ on 6 kind.Proctype "proctype" ∷
    on 6 kind.Name "P0" ∷ on 6 kind.OpenParen "(" ∷ on 6 kind.Byte "byte" ∷ on 6 kind.Name "n" ∷ on 6 kind.CloseParen ")" ∷
    on 6 kind.OpenBrace "{" ∷ on 6 kind.Byte "byte" ∷ on 6 kind.Name "k" ∷ on 6 kind.Semicolon ";" ∷ on 6 kind.Short "short" ∷
    on 6 kind.Name "v" ∷ on 6 kind.Assign "=" ∷ on 6 kind.Number "3" ∷ on 6 kind.Semicolon ";" ∷ on 6 kind.If "if" ∷
    on 6 kind.DoubleColon "::" ∷ on 6 kind.OpenParen "(" ∷ on 6 kind.Bang "!" ∷ on 6 kind.Number "1" ∷ on 6 kind.CloseParen ")" ∷
    on 6 kind.AtLeast ">=" ∷ on 6 kind.Number "100" ∷ on 6 kind.Arrow "->" ∷ on 6 kind.Printf "printf" ∷ on 6 kind.OpenParen "(" ∷
    on 6 kind.Quoted "\"= %x %x\\n\"" ∷ on 6 kind.Comma "," ∷ on 6 kind.Name "n" ∷ on 6 kind.Comma "," ∷ on 6 kind.Name "v" ∷
    on 6 kind.CloseParen ")" ∷ on 6 kind.Semicolon ";" ∷ on 6 kind.Name "a" ∷ on 6 kind.OpenBracket "[" ∷ on 6 kind.OpenParen "(" ∷
    on 6 kind.Name "n" ∷ on 6 kind.Ampersand "&" ∷ on 6 kind.Number "1" ∷ on 6 kind.CloseParen ")" ∷ on 6 kind.CloseBracket "]" ∷
    on 6 kind.Assign "=" ∷ on 6 kind.OpenParen "(" ∷ on 6 kind.Number "2" ∷ on 6 kind.ShiftRight ">>" ∷ on 6 kind.Number "1" ∷
    on 6 kind.CloseParen ")" ∷ on 6 kind.DoubleColon "::" ∷ on 6 kind.Else "else" ∷ on 6 kind.Arrow "->" ∷ on 6 kind.Name "i0" ∷
    on 6 kind.Assign "=" ∷ on 6 kind.Number "300" ∷ on 6 kind.Fi "fi" ∷ on 6 kind.Semicolon ";" ∷ on 6 kind.Name "q1" ∷
    on 6 kind.Bang "!" ∷ on 6 kind.Name "i0" ∷ on 6 kind.Comma "," ∷ on 6 kind.Name "_nr_pr" ∷ on 6 kind.Semicolon ";" ∷
    on 6 kind.Printf "printf" ∷ on 6 kind.OpenParen "(" ∷ on 6 kind.Quoted "\"P0 ends %d %d\\n\"" ∷ on 6 kind.Comma "," ∷
    on 6 kind.Name "k" ∷ on 6 kind.Comma "," ∷ on 6 kind.Name "v" ∷ on 6 kind.CloseParen ")" ∷ on 6 kind.CloseBrace "}" ∷
    on 7 kind.Init "init" ∷ on 7 kind.OpenBrace "{" ∷ on 7 kind.Byte "byte" ∷ on 7 kind.Name "k" ∷ on 7 kind.Semicolon ";" ∷
    on 7 kind.Run "run" ∷ on 7 kind.Name "P0" ∷ on 7 kind.OpenParen "(" ∷ on 7 kind.Number "3" ∷ on 7 kind.CloseParen ")" ∷
    on 7 kind.Semicolon ";" ∷ on 7 kind.Run "run" ∷ on 7 kind.Name "P0" ∷ on 7 kind.OpenParen "(" ∷ on 7 kind.Number "3" ∷
    on 7 kind.CloseParen ")" ∷ on 7 kind.Semicolon ";" ∷ on 7 kind.Name "k" ∷ on 7 kind.Decrement "--" ∷ on 7 kind.Semicolon ";" ∷
    on 7 kind.If "if" ∷ on 7 kind.DoubleColon "::" ∷ on 7 kind.Timeout "timeout" ∷ on 7 kind.Arrow "->" ∷ on 7 kind.Skip "skip" ∷
    on 7 kind.DoubleColon "::" ∷ on 7 kind.Name "_nr_pr" ∷ on 7 kind.Equal "==" ∷ on 7 kind.Number "1" ∷ on 7 kind.Arrow "->" ∷
    on 7 kind.Skip "skip" ∷ on 7 kind.Fi "fi" ∷ on 7 kind.Semicolon ";" ∷ on 7 kind.Printf "printf" ∷ on 7 kind.OpenParen "(" ∷
    on 7 kind.Quoted "\"%d %d\\n\"" ∷ on 7 kind.Comma "," ∷ on 7 kind.Name "i0" ∷ on 7 kind.Comma "," ∷ on 7 kind.Name "t1" ∷
    on 7 kind.CloseParen ")" ∷ on 7 kind.CloseBrace "}" ∷ []

model-spin-81 : Program
unfolding tokens-spin-81
model-spin-81 =
    let at : ℕ → Word = token_at tokens-spin-81 in
    let part : ℕ → ℕ → List Word = tokens_between tokens-spin-81 in
    record {
      globals = (slot (at 1) int false 0 1 1 initial.Zero ∷ slot (at 4) bit false 1 1 1 (initial.Value (number 0)) ∷ slot (at 9) int
          true 2 3 1 initial.Zero ∷ slot (at 15) chan false 5 1 1 (initial.Channel 2 (byte ∷ [])) ∷ slot (at 26) chan false 6 1 1
          (initial.Channel 2 (short ∷ byte ∷ [])) ∷ []);
      constants = [];
      typedefs = [];
      proctypes = (
          process (at 39) 6 0 1 (slot (at 42) byte false 0 1 1 initial.Zero ∷ slot (at 46) byte false 1 1 1 initial.Zero ∷ slot (at 49)
          short false 2 1 1 (initial.Value (number 3)) ∷ []) (
          if_fi (part 53 92) (
          (plain (part 55 61) (holds (expr.Binary op.AtLeast (expr.Unary before.Not (number 1)) (number 100))) ∷
          plain (part 62 70) (action.Printf (at 64) ((read (local 0 byte)) ∷ (read (local 2 short)) ∷ [])) ∷
          plain (part 71 85) (assign (in_global 2 int (turn 0 3 1 (Some (expr.Binary op.BitAnd (read (local 0 byte)) (number 1))) ∷ []))
          (expr.Binary op.ShiftRight (number 2) (number 1))) ∷ []) ∷
          (plain (part 86 87) action.Else ∷
          plain (part 88 91) (assign (global 0 int) (number 300)) ∷ []) ∷ []) ∷
          plain (part 93 98) (action.Send (global 4 chan) Fifo ((read (global 0 int)) ∷ expr.ProcessCount ∷ [])) ∷
          plain (part 99 107) (action.Printf (at 101) ((read (local 1 byte)) ∷ (read (local 2 short)) ∷ [])) ∷ []) (at 107) ∷
          process (at 108) 7 1 0 (slot (at 111) byte false 0 1 1 initial.Zero ∷ []) (
          plain (part 113 118) (action.Run (run 0 ((number 3) ∷ []))) ∷
          plain (part 119 124) (action.Run (run 0 ((number 3) ∷ []))) ∷
          plain (part 125 127) (action.Decrement (local 0 byte)) ∷
          if_fi (part 128 140) (
          (plain (part 130 131) (holds expr.Timeout) ∷
          plain (part 132 133) (holds (number 1)) ∷ []) ∷
          (plain (part 134 137) (holds (expr.Binary op.Equal expr.ProcessCount (number 1))) ∷
          plain (part 138 139) (holds (number 1)) ∷ []) ∷ []) ∷
          plain (part 141 149) (action.Printf (at 143) ((read (global 0 int)) ∷ (read (global 1 bit)) ∷ [])) ∷ []) (at 149) ∷ []);
    }

prints-spin-81 : printed model-spin-81 17 (2 ∷ 2 ∷ 1 ∷ 1 ∷ 1 ∷ 1 ∷ [])
    ≡ Some (shown (text (
    "P0 ends 0 3\n" ∷
    "P0 ends 0 3\n" ∷
    "300 0\n" ∷
    [])) Valid)
unfolding computes model-spin-81
prints-spin-81 = prints model-spin-81 17 (2 ∷ 2 ∷ 1 ∷ 1 ∷ 1 ∷ 1 ∷ []) _ refl
