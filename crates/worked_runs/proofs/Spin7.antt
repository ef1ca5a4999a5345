-- What Spin printed of random models, of runs by chance. `tools/spin-theorems` made the models and their data.
use Rattle.std.proofs.Common.{◌≡◌, ℕ, List, [], ◌∷◌, true, false, refl, Some}
use Rattle.pml_token.specs.Word.{Word}
use Rattle.pml_tree.specs.declared.tree.SendOrder.TheVariants.{Fifo, Sorted}
use Rattle.pml_program.specs.declared.program.Program.{Program}
use Rattle.pml_program.specs.declared.program.Basic.{Break}
use Rattle.worked_runs.proofs.Models.{on, token_at, tokens_between, bit, byte, chan, mtype, short, int, slot, turn, in_global, local, global, number, read, run, assign, holds, stmt, plain, atomic, d_step, if_fi, do_od, process, text}
use Rattle.worked_runs.proofs.Same.{computes}
use Rattle.diagnostics.specs.declared.fault.Fault.TheVariants.{AssertionViolated}
use Rattle.worked_runs.specs.Printed.{printed, Fails}
use Rattle.worked_runs.proofs.Same.{prints}
use Rattle.worked_runs.proofs.Models.{shown}
use Rattle.pml_token.specs.declared.token.Kind.TheVariants as kind
use Rattle.pml_tree.specs.declared.tree.Infix.TheVariants as op
use Rattle.pml_tree.specs.declared.tree.Prefix.TheVariants as before
use Rattle.pml_program.specs.declared.expr.Expr.TheVariants as expr
use Rattle.pml_program.specs.declared.program.Initial.TheVariants as initial
use Rattle.pml_program.specs.declared.program.Action.TheVariants as action

-- short s0 = 1;
-- short a[2];
-- chan q0 = [1] of { short, byte };
-- chan q1 = [0] of { byte };
-- proctype P0(byte n) { byte k; short v = 3; s0 = (~1); printf("P0 ends %d %d\n", k, v) }
-- proctype P1(byte n) { byte k; short v = 1; a[(v & 1)] = (100 / 3); atomic { do :: q1!!(2 << 4); q0!(0 * 300), v :: assert((!3) >=
--     300); n = 1 :: break od }; s0 = 3; printf("P1 ends %d %d\n", k, v) }
-- init { byte k; run P1(1); run P1(4); d_step { a[0] = a[1]; a[(k & 1)] = a[(k & 1)] }; q1!!7; if :: timeout -> skip :: _nr_pr == 1
--     -> skip fi; printf("%d\n", s0) }
tokens-spin-217 : List Word
tokens-spin-217 =
    on 1 kind.Short "short" ∷ on 1 kind.Name "s0" ∷ on 1 kind.Assign "=" ∷ on 1 kind.Number "1" ∷ on 1 kind.Semicolon ";" ∷
    on 2 kind.Short "short" ∷ on 2 kind.Name "a" ∷ on 2 kind.OpenBracket "[" ∷ on 2 kind.Number "2" ∷ on 2 kind.CloseBracket "]" ∷
    on 2 kind.Semicolon ";" ∷ on 3 kind.Chan "chan" ∷ on 3 kind.Name "q0" ∷ on 3 kind.Assign "=" ∷ on 3 kind.OpenBracket "[" ∷
    on 3 kind.Number "1" ∷ on 3 kind.CloseBracket "]" ∷ on 3 kind.Of "of" ∷ on 3 kind.OpenBrace "{" ∷ on 3 kind.Short "short" ∷
    on 3 kind.Comma "," ∷ on 3 kind.Byte "byte" ∷ on 3 kind.CloseBrace "}" ∷ on 3 kind.Semicolon ";" ∷ on 4 kind.Chan "chan" ∷
    on 4 kind.Name "q1" ∷ on 4 kind.Assign "=" ∷ on 4 kind.OpenBracket "[" ∷ on 4 kind.Number "0" ∷ on 4 kind.CloseBracket "]" ∷
    on 4 kind.Of "of" ∷ on 4 kind.OpenBrace "{" ∷ on 4 kind.Byte "byte" ∷ on 4 kind.CloseBrace "}" ∷ on 4 kind.Semicolon ";" ∷
    on 5 kind.Proctype "proctype" ∷ on 5 kind.Name "P0" ∷ on 5 kind.OpenParen "(" ∷ on 5 kind.Byte "byte" ∷ on 5 kind.Name "n" ∷
    on 5 kind.CloseParen ")" ∷ on 5 kind.OpenBrace "{" ∷ on 5 kind.Byte "byte" ∷ on 5 kind.Name "k" ∷ on 5 kind.Semicolon ";" ∷
    on 5 kind.Short "short" ∷ on 5 kind.Name "v" ∷ on 5 kind.Assign "=" ∷ on 5 kind.Number "3" ∷ on 5 kind.Semicolon ";" ∷
    on 5 kind.Name "s0" ∷ on 5 kind.Assign "=" ∷ on 5 kind.OpenParen "(" ∷ on 5 kind.Tilde "~" ∷ on 5 kind.Number "1" ∷
    on 5 kind.CloseParen ")" ∷ on 5 kind.Semicolon ";" ∷ on 5 kind.Printf "printf" ∷ on 5 kind.OpenParen "(" ∷
    on 5 kind.Quoted "\"P0 ends %d %d\\n\"" ∷ on 5 kind.Comma "," ∷ on 5 kind.Name "k" ∷ on 5 kind.Comma "," ∷ on 5 kind.Name "v" ∷
    on 5 kind.CloseParen ")" ∷ on 5 kind.CloseBrace "}" ∷ on 6 kind.Proctype "proctype" ∷ on 6 kind.Name "P1" ∷
    on 6 kind.OpenParen "(" ∷ on 6 kind.Byte "byte" ∷ on 6 kind.Name "n" ∷ on 6 kind.CloseParen ")" ∷ on 6 kind.OpenBrace "{" ∷
    on 6 kind.Byte "byte" ∷ on 6 kind.Name "k" ∷ on 6 kind.Semicolon ";" ∷ on 6 kind.Short "short" ∷ on 6 kind.Name "v" ∷
    on 6 kind.Assign "=" ∷ on 6 kind.Number "1" ∷ on 6 kind.Semicolon ";" ∷ on 6 kind.Name "a" ∷ on 6 kind.OpenBracket "[" ∷
    on 6 kind.OpenParen "(" ∷ on 6 kind.Name "v" ∷ on 6 kind.Ampersand "&" ∷ on 6 kind.Number "1" ∷ on 6 kind.CloseParen ")" ∷
    on 6 kind.CloseBracket "]" ∷ on 6 kind.Assign "=" ∷ on 6 kind.OpenParen "(" ∷ on 6 kind.Number "100" ∷ on 6 kind.Slash "/" ∷
    on 6 kind.Number "3" ∷ on 6 kind.CloseParen ")" ∷ on 6 kind.Semicolon ";" ∷ on 6 kind.Atomic "atomic" ∷ on 6 kind.OpenBrace "{" ∷
    on 6 kind.Do "do" ∷ on 6 kind.DoubleColon "::" ∷ on 6 kind.Name "q1" ∷ on 6 kind.BangBang "!!" ∷ on 6 kind.OpenParen "(" ∷
    on 6 kind.Number "2" ∷ on 6 kind.ShiftLeft "<<" ∷ on 6 kind.Number "4" ∷ on 6 kind.CloseParen ")" ∷ on 6 kind.Semicolon ";" ∷
    on 6 kind.Name "q0" ∷ on 6 kind.Bang "!" ∷ on 6 kind.OpenParen "(" ∷ on 6 kind.Number "0" ∷ on 6 kind.Star "*" ∷
    on 6 kind.Number "300" ∷ on 6 kind.CloseParen ")" ∷ on 6 kind.Comma "," ∷ on 6 kind.Name "v" ∷ on 6 kind.DoubleColon "::" ∷
    on 6 kind.Assert "assert" ∷ on 6 kind.OpenParen "(" ∷ on 6 kind.OpenParen "(" ∷ on 6 kind.Bang "!" ∷ on 6 kind.Number "3" ∷
    on 6 kind.CloseParen ")" ∷ on 6 kind.AtLeast ">=" ∷ on 6 kind.Number "300" ∷ on 6 kind.CloseParen ")" ∷ on 6 kind.Semicolon ";" ∷
    on 6 kind.Name "n" ∷ on 6 kind.Assign "=" ∷ on 6 kind.Number "1" ∷ on 6 kind.DoubleColon "::" ∷ on 6 kind.Break "break" ∷
    on 6 kind.Od "od" ∷ on 6 kind.CloseBrace "}" ∷ on 6 kind.Semicolon ";" ∷ on 6 kind.Name "s0" ∷ on 6 kind.Assign "=" ∷
    on 6 kind.Number "3" ∷ on 6 kind.Semicolon ";" ∷ on 6 kind.Printf "printf" ∷ on 6 kind.OpenParen "(" ∷
    on 6 kind.Quoted "\"P1 ends %d %d\\n\"" ∷ on 6 kind.Comma "," ∷ on 6 kind.Name "k" ∷ on 6 kind.Comma "," ∷ on 6 kind.Name "v" ∷
    on 6 kind.CloseParen ")" ∷ on 6 kind.CloseBrace "}" ∷ on 7 kind.Init "init" ∷ on 7 kind.OpenBrace "{" ∷ on 7 kind.Byte "byte" ∷
    on 7 kind.Name "k" ∷ on 7 kind.Semicolon ";" ∷ on 7 kind.Run "run" ∷ on 7 kind.Name "P1" ∷ on 7 kind.OpenParen "(" ∷
    on 7 kind.Number "1" ∷ on 7 kind.CloseParen ")" ∷ on 7 kind.Semicolon ";" ∷ on 7 kind.Run "run" ∷ on 7 kind.Name "P1" ∷
    on 7 kind.OpenParen "(" ∷ on 7 kind.Number "4" ∷ on 7 kind.CloseParen ")" ∷ on 7 kind.Semicolon ";" ∷ on 7 kind.DStep "d_step" ∷
    on 7 kind.OpenBrace "{" ∷ on 7 kind.Name "a" ∷ on 7 kind.OpenBracket "[" ∷ on 7 kind.Number "0" ∷ on 7 kind.CloseBracket "]" ∷
    on 7 kind.Assign "=" ∷ on 7 kind.Name "a" ∷ on 7 kind.OpenBracket "[" ∷ on 7 kind.Number "1" ∷ on 7 kind.CloseBracket "]" ∷
    on 7 kind.Semicolon ";" ∷ on 7 kind.Name "a" ∷ on 7 kind.OpenBracket "[" ∷ on 7 kind.OpenParen "(" ∷ on 7 kind.Name "k" ∷
    on 7 kind.Ampersand "&" ∷ on 7 kind.Number "1" ∷ on 7 kind.CloseParen ")" ∷ on 7 kind.CloseBracket "]" ∷ on 7 kind.Assign "=" ∷
    on 7 kind.Name "a" ∷ on 7 kind.OpenBracket "[" ∷ on 7 kind.OpenParen "(" ∷ on 7 kind.Name "k" ∷ on 7 kind.Ampersand "&" ∷
    on 7 kind.Number "1" ∷ on 7 kind.CloseParen ")" ∷ on 7 kind.CloseBracket "]" ∷ on 7 kind.CloseBrace "}" ∷
    on 7 kind.Semicolon ";" ∷ on 7 kind.Name "q1" ∷ on 7 kind.BangBang "!!" ∷ on 7 kind.Number "7" ∷ on 7 kind.Semicolon ";" ∷
    on 7 kind.If "if" ∷ on 7 kind.DoubleColon "::" ∷ on 7 kind.Timeout "timeout" ∷ on 7 kind.Arrow "->" ∷ on 7 kind.Skip "skip" ∷
    on 7 kind.DoubleColon "::" ∷ on 7 kind.Name "_nr_pr" ∷ on 7 kind.Equal "==" ∷ on 7 kind.Number "1" ∷ on 7 kind.Arrow "->" ∷
    on 7 kind.Skip "skip" ∷ on 7 kind.Fi "fi" ∷ on 7 kind.Semicolon ";" ∷ on 7 kind.Printf "printf" ∷ on 7 kind.OpenParen "(" ∷
    on 7 kind.Quoted "\"%d\\n\"" ∷ on 7 kind.Comma "," ∷ on 7 kind.Name "s0" ∷ on 7 kind.CloseParen ")" ∷ on 7 kind.CloseBrace "}" ∷ []

model-spin-217 : Program
unfolding tokens-spin-217
model-spin-217 =
    let at : ℕ → Word = token_at tokens-spin-217 in
    let part : ℕ → ℕ → List Word = tokens_between tokens-spin-217 in
    record {
      globals = (slot (at 1) short false 0 1 1 (initial.Value (number 1)) ∷ slot (at 6) short true 1 2 1 initial.Zero ∷ slot (at 12)
          chan false 3 1 1 (initial.Channel 1 (short ∷ byte ∷ [])) ∷ slot (at 25) chan false 4 1 1 (initial.Channel 0 (byte ∷ [])) ∷
          []);
      constants = [];
      typedefs = [];
      proctypes = (
          process (at 36) 5 0 1 (slot (at 39) byte false 0 1 1 initial.Zero ∷ slot (at 43) byte false 1 1 1 initial.Zero ∷ slot (at 46)
          short false 2 1 1 (initial.Value (number 3)) ∷ []) (
          plain (part 50 56) (assign (global 0 short) (expr.Unary before.Complement (number 1))) ∷
          plain (part 57 65) (action.Printf (at 59) ((read (local 1 byte)) ∷ (read (local 2 short)) ∷ [])) ∷ []) (at 65) ∷
          process (at 67) 6 0 1 (slot (at 70) byte false 0 1 1 initial.Zero ∷ slot (at 74) byte false 1 1 1 initial.Zero ∷ slot (at 77)
          short false 2 1 1 (initial.Value (number 1)) ∷ []) (
          plain (part 81 95) (assign (in_global 1 short (turn 0 2 1 (Some (expr.Binary op.BitAnd (read (local 2 short)) (number 1))) ∷
          [])) (expr.Binary op.Divide (number 100) (number 3))) ∷
          atomic (part 96 135) (
          do_od (part 98 134) (
          (plain (part 100 107) (action.Send (global 3 chan) Sorted ((expr.Binary op.ShiftLeft (number 2) (number 4)) ∷ [])) ∷
          plain (part 108 117) (action.Send (global 2 chan) Fifo ((expr.Binary op.Times (number 0) (number 300)) ∷ (read (local 2
          short)) ∷ [])) ∷ []) ∷
          (plain (part 118 127) (action.Assert (expr.Binary op.AtLeast (expr.Unary before.Not (number 3)) (number 300))) ∷
          plain (part 128 131) (assign (local 0 byte) (number 1)) ∷ []) ∷
          (stmt [] Break (part 132 133) ∷ []) ∷ []) ∷ []) ∷
          plain (part 136 139) (assign (global 0 short) (number 3)) ∷
          plain (part 140 148) (action.Printf (at 142) ((read (local 1 byte)) ∷ (read (local 2 short)) ∷ [])) ∷ []) (at 148) ∷
          process (at 149) 7 1 0 (slot (at 152) byte false 0 1 1 initial.Zero ∷ []) (
          plain (part 154 159) (action.Run (run 1 ((number 1) ∷ []))) ∷
          plain (part 160 165) (action.Run (run 1 ((number 4) ∷ []))) ∷
          d_step (part 166 196) (
          plain (part 168 177) (assign (in_global 1 short (turn 0 2 1 (Some (number 0)) ∷ [])) (read (in_global 1 short (turn 0 2 1
          (Some (number 1)) ∷ [])))) ∷
          plain (part 178 195) (assign (in_global 1 short (turn 0 2 1 (Some (expr.Binary op.BitAnd (read (local 0 byte)) (number 1))) ∷
          [])) (read (in_global 1 short (turn 0 2 1 (Some (expr.Binary op.BitAnd (read (local 0 byte)) (number 1))) ∷ [])))) ∷ []) ∷
          plain (part 197 200) (action.Send (global 3 chan) Sorted ((number 7) ∷ [])) ∷
          if_fi (part 201 213) (
          (plain (part 203 204) (holds expr.Timeout) ∷
          plain (part 205 206) (holds (number 1)) ∷ []) ∷
          (plain (part 207 210) (holds (expr.Binary op.Equal expr.ProcessCount (number 1))) ∷
          plain (part 211 212) (holds (number 1)) ∷ []) ∷ []) ∷
          plain (part 214 220) (action.Printf (at 216) ((read (global 0 short)) ∷ [])) ∷ []) (at 220) ∷ []);
    }

prints-spin-217 : printed model-spin-217 6 (2 ∷ 1 ∷ 4 ∷ 1 ∷ 1 ∷ [])
    ≡ Some (shown (text ([])) (Fails AssertionViolated))
unfolding computes model-spin-217
prints-spin-217 = prints model-spin-217 6 (2 ∷ 1 ∷ 4 ∷ 1 ∷ 1 ∷ []) _ refl

-- bit t0;
-- bit t1;
-- short s2 = 1;
-- short a[3];
-- chan q0 = [2] of { int };
-- proctype P0(byte n) { byte k; short v = 3; do :: t1 = k :: break od; assert(a[(n & 1)] == 1); do :: s2 < (~7) -> q0!100 :: (255 ==
--     t0) :: else -> q0!3 :: break od; printf("P0 ends %d %d\n", k, v) }
-- init { byte k; run P0(3); do :: t0 <= _pid -> k = (~1) :: 7 >= 7 -> assert(((1 | 255) <= (1 >> 2) || 2 == 1)) :: break od; if ::
--     timeout -> skip :: _nr_pr == 1 -> skip fi; printf("%d %d %d\n", t0, t1, s2) }
tokens-spin-282 : List Word
tokens-spin-282 =
    on 1 kind.Bit "bit" ∷ on 1 kind.Name "t0" ∷ on 1 kind.Semicolon ";" ∷ on 2 kind.Bit "bit" ∷ on 2 kind.Name "t1" ∷
    on 2 kind.Semicolon ";" ∷ on 3 kind.Short "short" ∷ on 3 kind.Name "s2" ∷ on 3 kind.Assign "=" ∷ on 3 kind.Number "1" ∷
    on 3 kind.Semicolon ";" ∷ on 4 kind.Short "short" ∷ on 4 kind.Name "a" ∷ on 4 kind.OpenBracket "[" ∷ on 4 kind.Number "3" ∷
    on 4 kind.CloseBracket "]" ∷ on 4 kind.Semicolon ";" ∷ on 5 kind.Chan "chan" ∷ on 5 kind.Name "q0" ∷ on 5 kind.Assign "=" ∷
    on 5 kind.OpenBracket "[" ∷ on 5 kind.Number "2" ∷ on 5 kind.CloseBracket "]" ∷ on 5 kind.Of "of" ∷ on 5 kind.OpenBrace "{" ∷
    on 5 kind.Int "int" ∷ on 5 kind.CloseBrace "}" ∷ on 5 kind.Semicolon ";" ∷ on 6 kind.Proctype "proctype" ∷ on 6 kind.Name "P0" ∷
    on 6 kind.OpenParen "(" ∷ on 6 kind.Byte "byte" ∷ on 6 kind.Name "n" ∷ on 6 kind.CloseParen ")" ∷ on 6 kind.OpenBrace "{" ∷
    on 6 kind.Byte "byte" ∷ on 6 kind.Name "k" ∷ on 6 kind.Semicolon ";" ∷ on 6 kind.Short "short" ∷ on 6 kind.Name "v" ∷
    on 6 kind.Assign "=" ∷ on 6 kind.Number "3" ∷ on 6 kind.Semicolon ";" ∷ on 6 kind.Do "do" ∷ on 6 kind.DoubleColon "::" ∷
    on 6 kind.Name "t1" ∷ on 6 kind.Assign "=" ∷ on 6 kind.Name "k" ∷ on 6 kind.DoubleColon "::" ∷ on 6 kind.Break "break" ∷
    on 6 kind.Od "od" ∷ on 6 kind.Semicolon ";" ∷ on 6 kind.Assert "assert" ∷ on 6 kind.OpenParen "(" ∷ on 6 kind.Name "a" ∷
    on 6 kind.OpenBracket "[" ∷ on 6 kind.OpenParen "(" ∷ on 6 kind.Name "n" ∷ on 6 kind.Ampersand "&" ∷ on 6 kind.Number "1" ∷
    on 6 kind.CloseParen ")" ∷ on 6 kind.CloseBracket "]" ∷ on 6 kind.Equal "==" ∷ on 6 kind.Number "1" ∷ on 6 kind.CloseParen ")" ∷
    on 6 kind.Semicolon ";" ∷ on 6 kind.Do "do" ∷ on 6 kind.DoubleColon "::" ∷ on 6 kind.Name "s2" ∷ on 6 kind.Less "<" ∷
    on 6 kind.OpenParen "(" ∷ on 6 kind.Tilde "~" ∷ on 6 kind.Number "7" ∷ on 6 kind.CloseParen ")" ∷ on 6 kind.Arrow "->" ∷
    on 6 kind.Name "q0" ∷ on 6 kind.Bang "!" ∷ on 6 kind.Number "100" ∷ on 6 kind.DoubleColon "::" ∷ on 6 kind.OpenParen "(" ∷
    on 6 kind.Number "255" ∷ on 6 kind.Equal "==" ∷ on 6 kind.Name "t0" ∷ on 6 kind.CloseParen ")" ∷ on 6 kind.DoubleColon "::" ∷
    on 6 kind.Else "else" ∷ on 6 kind.Arrow "->" ∷ on 6 kind.Name "q0" ∷ on 6 kind.Bang "!" ∷ on 6 kind.Number "3" ∷
    on 6 kind.DoubleColon "::" ∷ on 6 kind.Break "break" ∷ on 6 kind.Od "od" ∷ on 6 kind.Semicolon ";" ∷ on 6 kind.Printf "printf" ∷
    on 6 kind.OpenParen "(" ∷ on 6 kind.Quoted "\"P0 ends %d %d\\n\"" ∷ on 6 kind.Comma "," ∷ on 6 kind.Name "k" ∷
    on 6 kind.Comma "," ∷ on 6 kind.Name "v" ∷ on 6 kind.CloseParen ")" ∷ on 6 kind.CloseBrace "}" ∷ on 7 kind.Init "init" ∷
    on 7 kind.OpenBrace "{" ∷ on 7 kind.Byte "byte" ∷ on 7 kind.Name "k" ∷ on 7 kind.Semicolon ";" ∷ on 7 kind.Run "run" ∷
    on 7 kind.Name "P0" ∷ on 7 kind.OpenParen "(" ∷ on 7 kind.Number "3" ∷ on 7 kind.CloseParen ")" ∷ on 7 kind.Semicolon ";" ∷
    on 7 kind.Do "do" ∷ on 7 kind.DoubleColon "::" ∷ on 7 kind.Name "t0" ∷ on 7 kind.AtMost "<=" ∷ on 7 kind.Name "_pid" ∷
    on 7 kind.Arrow "->" ∷ on 7 kind.Name "k" ∷ on 7 kind.Assign "=" ∷ on 7 kind.OpenParen "(" ∷ on 7 kind.Tilde "~" ∷
    on 7 kind.Number "1" ∷ on 7 kind.CloseParen ")" ∷ on 7 kind.DoubleColon "::" ∷ on 7 kind.Number "7" ∷ on 7 kind.AtLeast ">=" ∷
    on 7 kind.Number "7" ∷ on 7 kind.Arrow "->" ∷ on 7 kind.Assert "assert" ∷ on 7 kind.OpenParen "(" ∷ on 7 kind.OpenParen "(" ∷
    on 7 kind.OpenParen "(" ∷ on 7 kind.Number "1" ∷ on 7 kind.Bar "|" ∷ on 7 kind.Number "255" ∷ on 7 kind.CloseParen ")" ∷
    on 7 kind.AtMost "<=" ∷ on 7 kind.OpenParen "(" ∷ on 7 kind.Number "1" ∷ on 7 kind.ShiftRight ">>" ∷ on 7 kind.Number "2" ∷
    on 7 kind.CloseParen ")" ∷ on 7 kind.OrOr "||" ∷ on 7 kind.Number "2" ∷ on 7 kind.Equal "==" ∷ on 7 kind.Number "1" ∷
    on 7 kind.CloseParen ")" ∷ on 7 kind.CloseParen ")" ∷ on 7 kind.DoubleColon "::" ∷ on 7 kind.Break "break" ∷ on 7 kind.Od "od" ∷
    on 7 kind.Semicolon ";" ∷ on 7 kind.If "if" ∷ on 7 kind.DoubleColon "::" ∷ on 7 kind.Timeout "timeout" ∷ on 7 kind.Arrow "->" ∷
    on 7 kind.Skip "skip" ∷ on 7 kind.DoubleColon "::" ∷ on 7 kind.Name "_nr_pr" ∷ on 7 kind.Equal "==" ∷ on 7 kind.Number "1" ∷
    on 7 kind.Arrow "->" ∷ on 7 kind.Skip "skip" ∷ on 7 kind.Fi "fi" ∷ on 7 kind.Semicolon ";" ∷ on 7 kind.Printf "printf" ∷
    on 7 kind.OpenParen "(" ∷ on 7 kind.Quoted "\"%d %d %d\\n\"" ∷ on 7 kind.Comma "," ∷ on 7 kind.Name "t0" ∷ on 7 kind.Comma "," ∷
    on 7 kind.Name "t1" ∷ on 7 kind.Comma "," ∷ on 7 kind.Name "s2" ∷ on 7 kind.CloseParen ")" ∷ on 7 kind.CloseBrace "}" ∷ []

model-spin-282 : Program
unfolding tokens-spin-282
model-spin-282 =
    let at : ℕ → Word = token_at tokens-spin-282 in
    let part : ℕ → ℕ → List Word = tokens_between tokens-spin-282 in
    record {
      globals = (slot (at 1) bit false 0 1 1 initial.Zero ∷ slot (at 4) bit false 1 1 1 initial.Zero ∷ slot (at 7) short false 2 1 1
          (initial.Value (number 1)) ∷ slot (at 12) short true 3 3 1 initial.Zero ∷ slot (at 18) chan false 6 1 1 (initial.Channel 2
          (int ∷ [])) ∷ []);
      constants = [];
      typedefs = [];
      proctypes = (
          process (at 29) 6 0 1 (slot (at 32) byte false 0 1 1 initial.Zero ∷ slot (at 36) byte false 1 1 1 initial.Zero ∷ slot (at 39)
          short false 2 1 1 (initial.Value (number 3)) ∷ []) (
          do_od (part 43 51) (
          (plain (part 45 48) (assign (global 1 bit) (read (local 1 byte))) ∷ []) ∷
          (stmt [] Break (part 49 50) ∷ []) ∷ []) ∷
          plain (part 52 65) (action.Assert (expr.Binary op.Equal (read (in_global 3 short (turn 0 3 1 (Some (expr.Binary op.BitAnd
          (read (local 0 byte)) (number 1))) ∷ []))) (number 1))) ∷
          do_od (part 66 93) (
          (plain (part 68 74) (holds (expr.Binary op.Below (read (global 2 short)) (expr.Unary before.Complement (number 7)))) ∷
          plain (part 75 78) (action.Send (global 4 chan) Fifo ((number 100) ∷ [])) ∷ []) ∷
          (plain (part 79 84) (holds (expr.Binary op.Equal (number 255) (read (global 0 bit)))) ∷ []) ∷
          (plain (part 85 86) action.Else ∷
          plain (part 87 90) (action.Send (global 4 chan) Fifo ((number 3) ∷ [])) ∷ []) ∷
          (stmt [] Break (part 91 92) ∷ []) ∷ []) ∷
          plain (part 94 102) (action.Printf (at 96) ((read (local 1 byte)) ∷ (read (local 2 short)) ∷ [])) ∷ []) (at 102) ∷
          process (at 103) 7 1 0 (slot (at 106) byte false 0 1 1 initial.Zero ∷ []) (
          plain (part 108 113) (action.Run (run 0 ((number 3) ∷ []))) ∷
          do_od (part 114 154) (
          (plain (part 116 119) (holds (expr.Binary op.AtMost (read (global 0 bit)) expr.Pid)) ∷
          plain (part 120 126) (assign (local 0 byte) (expr.Unary before.Complement (number 1))) ∷ []) ∷
          (plain (part 127 130) (holds (expr.Binary op.AtLeast (number 7) (number 7))) ∷
          plain (part 131 151) (action.Assert (expr.Binary op.Or (expr.Binary op.AtMost (expr.Binary op.BitOr (number 1) (number 255))
          (expr.Binary op.ShiftRight (number 1) (number 2))) (expr.Binary op.Equal (number 2) (number 1)))) ∷ []) ∷
          (stmt [] Break (part 152 153) ∷ []) ∷ []) ∷
          if_fi (part 155 167) (
          (plain (part 157 158) (holds expr.Timeout) ∷
          plain (part 159 160) (holds (number 1)) ∷ []) ∷
          (plain (part 161 164) (holds (expr.Binary op.Equal expr.ProcessCount (number 1))) ∷
          plain (part 165 166) (holds (number 1)) ∷ []) ∷ []) ∷
          plain (part 168 178) (action.Printf (at 170) ((read (global 0 bit)) ∷ (read (global 1 bit)) ∷ (read (global 2 short)) ∷ [])) ∷
          []) (at 178) ∷ []);
    }

prints-spin-282 : printed model-spin-282 4 (5 ∷ 1 ∷ 2 ∷ [])
    ≡ Some (shown (text ([])) (Fails AssertionViolated))
unfolding computes model-spin-282
prints-spin-282 = prints model-spin-282 4 (5 ∷ 1 ∷ 2 ∷ []) _ refl

-- mtype = { red, green, blue }; mtype m = green;
-- int i0 = 3;
-- int i1;
-- proctype P0(byte n) { byte k; short v = 3; printf("= %x\n", i1); do :: printf("= %d %d\n", i1, i0) :: else -> v = 300 :: break od;
--     printf("P0 ends %d %d\n", k, v) }
-- init { byte k; run P0(2); run P0(1); do :: 2 < 7 -> i1 = 300; assert(300 < 300) :: break od; if :: timeout -> skip :: _nr_pr == 1
--     -> skip fi; printf("%d %d\n", i0, i1) }
tokens-spin-284 : List Word
tokens-spin-284 =
    on 1 kind.Mtype "mtype" ∷ on 1 kind.Assign "=" ∷ on 1 kind.OpenBrace "{" ∷ on 1 kind.Name "red" ∷ on 1 kind.Comma "," ∷
    on 1 kind.Name "green" ∷ on 1 kind.Comma "," ∷ on 1 kind.Name "blue" ∷ on 1 kind.CloseBrace "}" ∷ on 1 kind.Semicolon ";" ∷
    on 1 kind.Mtype "mtype" ∷ on 1 kind.Name "m" ∷ on 1 kind.Assign "=" ∷ on 1 kind.Name "green" ∷ on 1 kind.Semicolon ";" ∷
    on 2 kind.Int "int" ∷ on 2 kind.Name "i0" ∷ on 2 kind.Assign "=" ∷ on 2 kind.Number "3" ∷ on 2 kind.Semicolon ";" ∷
    on 3 kind.Int "int" ∷ on 3 kind.Name "i1" ∷ on 3 kind.Semicolon ";" ∷ on 4 kind.Proctype "proctype" ∷ on 4 kind.Name "P0" ∷
    on 4 kind.OpenParen "(" ∷ on 4 kind.Byte "byte" ∷ on 4 kind.Name "n" ∷ on 4 kind.CloseParen ")" ∷ on 4 kind.OpenBrace "{" ∷
    on 4 kind.Byte "byte" ∷ on 4 kind.Name "k" ∷ on 4 kind.Semicolon ";" ∷ on 4 kind.Short "short" ∷ on 4 kind.Name "v" ∷
    on 4 kind.Assign "=" ∷ on 4 kind.Number "3" ∷ on 4 kind.Semicolon ";" ∷ on 4 kind.Printf "printf" ∷ on 4 kind.OpenParen "(" ∷
    on 4 kind.Quoted "\"= %x\\n\"" ∷ on 4 kind.Comma "," ∷ on 4 kind.Name "i1" ∷ on 4 kind.CloseParen ")" ∷ on 4 kind.Semicolon ";" ∷
    on 4 kind.Do "do" ∷ on 4 kind.DoubleColon "::" ∷ on 4 kind.Printf "printf" ∷ on 4 kind.OpenParen "(" ∷
    on 4 kind.Quoted "\"= %d %d\\n\"" ∷ on 4 kind.Comma "," ∷ on 4 kind.Name "i1" ∷ on 4 kind.Comma "," ∷ on 4 kind.Name "i0" ∷
    on 4 kind.CloseParen ")" ∷ on 4 kind.DoubleColon "::" ∷ on 4 kind.Else "else" ∷ on 4 kind.Arrow "->" ∷ on 4 kind.Name "v" ∷
    on 4 kind.Assign "=" ∷ on 4 kind.Number "300" ∷ on 4 kind.DoubleColon "::" ∷ on 4 kind.Break "break" ∷ on 4 kind.Od "od" ∷
    on 4 kind.Semicolon ";" ∷ on 4 kind.Printf "printf" ∷ on 4 kind.OpenParen "(" ∷ on 4 kind.Quoted "\"P0 ends %d %d\\n\"" ∷
    on 4 kind.Comma "," ∷ on 4 kind.Name "k" ∷ on 4 kind.Comma "," ∷ on 4 kind.Name "v" ∷ on 4 kind.CloseParen ")" ∷
    on 4 kind.CloseBrace "}" ∷ on 5 kind.Init "init" ∷ on 5 kind.OpenBrace "{" ∷ on 5 kind.Byte "byte" ∷ on 5 kind.Name "k" ∷
    on 5 kind.Semicolon ";" ∷ on 5 kind.Run "run" ∷ on 5 kind.Name "P0" ∷ on 5 kind.OpenParen "(" ∷ on 5 kind.Number "2" ∷
    on 5 kind.CloseParen ")" ∷ on 5 kind.Semicolon ";" ∷ on 5 kind.Run "run" ∷ on 5 kind.Name "P0" ∷ on 5 kind.OpenParen "(" ∷
    on 5 kind.Number "1" ∷ on 5 kind.CloseParen ")" ∷ on 5 kind.Semicolon ";" ∷ on 5 kind.Do "do" ∷ on 5 kind.DoubleColon "::" ∷
    on 5 kind.Number "2" ∷ on 5 kind.Less "<" ∷ on 5 kind.Number "7" ∷ on 5 kind.Arrow "->" ∷ on 5 kind.Name "i1" ∷
    on 5 kind.Assign "=" ∷ on 5 kind.Number "300" ∷ on 5 kind.Semicolon ";" ∷ on 5 kind.Assert "assert" ∷ on 5 kind.OpenParen "(" ∷
    on 5 kind.Number "300" ∷ on 5 kind.Less "<" ∷ on 5 kind.Number "300" ∷ on 5 kind.CloseParen ")" ∷ on 5 kind.DoubleColon "::" ∷
    on 5 kind.Break "break" ∷ on 5 kind.Od "od" ∷ on 5 kind.Semicolon ";" ∷ on 5 kind.If "if" ∷ on 5 kind.DoubleColon "::" ∷
    on 5 kind.Timeout "timeout" ∷ on 5 kind.Arrow "->" ∷ on 5 kind.Skip "skip" ∷ on 5 kind.DoubleColon "::" ∷
    on 5 kind.Name "_nr_pr" ∷ on 5 kind.Equal "==" ∷ on 5 kind.Number "1" ∷ on 5 kind.Arrow "->" ∷ on 5 kind.Skip "skip" ∷
    on 5 kind.Fi "fi" ∷ on 5 kind.Semicolon ";" ∷ on 5 kind.Printf "printf" ∷ on 5 kind.OpenParen "(" ∷
    on 5 kind.Quoted "\"%d %d\\n\"" ∷ on 5 kind.Comma "," ∷ on 5 kind.Name "i0" ∷ on 5 kind.Comma "," ∷ on 5 kind.Name "i1" ∷
    on 5 kind.CloseParen ")" ∷ on 5 kind.CloseBrace "}" ∷ []

model-spin-284 : Program
unfolding tokens-spin-284
model-spin-284 =
    let at : ℕ → Word = token_at tokens-spin-284 in
    let part : ℕ → ℕ → List Word = tokens_between tokens-spin-284 in
    record {
      globals = (slot (at 11) mtype false 0 1 1 (initial.Value (number 2)) ∷ slot (at 16) int false 1 1 1 (initial.Value (number 3)) ∷
          slot (at 21) int false 2 1 1 initial.Zero ∷ []);
      constants = ((at 7) ∷ (at 5) ∷ (at 3) ∷ []);
      typedefs = [];
      proctypes = (
          process (at 24) 5 0 1 (slot (at 27) byte false 0 1 1 initial.Zero ∷ slot (at 31) byte false 1 1 1 initial.Zero ∷ slot (at 34)
          short false 2 1 1 (initial.Value (number 3)) ∷ []) (
          plain (part 38 44) (action.Printf (at 40) ((read (global 2 int)) ∷ [])) ∷
          do_od (part 45 64) (
          (plain (part 47 55) (action.Printf (at 49) ((read (global 2 int)) ∷ (read (global 1 int)) ∷ [])) ∷ []) ∷
          (plain (part 56 57) action.Else ∷
          plain (part 58 61) (assign (local 2 short) (number 300)) ∷ []) ∷
          (stmt [] Break (part 62 63) ∷ []) ∷ []) ∷
          plain (part 65 73) (action.Printf (at 67) ((read (local 1 byte)) ∷ (read (local 2 short)) ∷ [])) ∷ []) (at 73) ∷
          process (at 74) 6 1 0 (slot (at 77) byte false 0 1 1 initial.Zero ∷ []) (
          plain (part 79 84) (action.Run (run 0 ((number 2) ∷ []))) ∷
          plain (part 85 90) (action.Run (run 0 ((number 1) ∷ []))) ∷
          do_od (part 91 110) (
          (plain (part 93 96) (holds (expr.Binary op.Below (number 2) (number 7))) ∷
          plain (part 97 100) (assign (global 2 int) (number 300)) ∷
          plain (part 101 107) (action.Assert (expr.Binary op.Below (number 300) (number 300))) ∷ []) ∷
          (stmt [] Break (part 108 109) ∷ []) ∷ []) ∷
          if_fi (part 111 123) (
          (plain (part 113 114) (holds expr.Timeout) ∷
          plain (part 115 116) (holds (number 1)) ∷ []) ∷
          (plain (part 117 120) (holds (expr.Binary op.Equal expr.ProcessCount (number 1))) ∷
          plain (part 121 122) (holds (number 1)) ∷ []) ∷ []) ∷
          plain (part 124 132) (action.Printf (at 126) ((read (global 1 int)) ∷ (read (global 2 int)) ∷ [])) ∷ []) (at 132) ∷ []);
    }

prints-spin-284 : printed model-spin-284 10 (1 ∷ 4 ∷ 5 ∷ 3 ∷ 1 ∷ 4 ∷ 4 ∷ 1 ∷ 1 ∷ [])
    ≡ Some (shown (text (
    "= 0\n" ∷
    "= 0\n" ∷
    "P0 ends 0 3\n" ∷
    [])) (Fails AssertionViolated))
unfolding computes model-spin-284
prints-spin-284 = prints model-spin-284 10 (1 ∷ 4 ∷ 5 ∷ 3 ∷ 1 ∷ 4 ∷ 4 ∷ 1 ∷ 1 ∷ []) _ refl
