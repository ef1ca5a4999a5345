-- What Spin printed of random models, of runs by chance. `tools/spin-theorems` made the models and their data.
use Rattle.std.proofs.Common.{◌≡◌, ℕ, List, [], ◌∷◌, true, false, refl, Some, None}
use Rattle.std.specs.Prelude.{pos}
use Rattle.pml_token.specs.Word.{Word}
use Rattle.pml_tree.specs.declared.tree.Search.TheVariants.{First}
use Rattle.pml_tree.specs.declared.tree.Removal.TheVariants.{Remove}
use Rattle.pml_tree.specs.declared.tree.SendOrder.TheVariants.{Fifo, Sorted}
use Rattle.pml_program.specs.declared.program.Program.{Program}
use Rattle.pml_program.specs.declared.program.Basic.{Break}
use Rattle.worked_runs.proofs.Models.{on, token_at, tokens_between, bit, byte, chan, mtype, short, int, slot, fields, turn, in_global, local, global, number, read, run, assign, holds, stmt, plain, block, atomic, d_step, if_fi, do_od, unless, process, text}
use Rattle.worked_runs.proofs.Same.{computes}
use Rattle.worked_runs.specs.Printed.{printed, Valid, Invalid}
use Rattle.worked_runs.proofs.Same.{prints}
use Rattle.worked_runs.proofs.Models.{shown}
use Rattle.pml_token.specs.declared.token.Kind.TheVariants as kind
use Rattle.pml_tree.specs.declared.tree.Infix.TheVariants as op
use Rattle.pml_tree.specs.declared.tree.Prefix.TheVariants as before
use Rattle.pml_program.specs.declared.form.Form.TheVariants as form
use Rattle.pml_program.specs.declared.expr.Expr.TheVariants as expr
use Rattle.pml_program.specs.declared.expr.Want.TheVariants as want
use Rattle.pml_program.specs.declared.program.Initial.TheVariants as initial
use Rattle.pml_program.specs.declared.program.Action.TheVariants as action

-- mtype = { red, green, blue }; mtype m = green;
-- unsigned u0 : 2 = 2;
-- bit t1 = 1;
-- bit t2 = 0;
-- chan q0 = [0] of { short, byte };
-- proctype P0(byte n) { byte k; short v = 3; t1 = t1; k = (t2 * k); t2 = t1; printf("P0 ends %d %d\n", k, v) }
-- proctype P1(byte n) { byte k; short v = 1; if :: v = k; q0!v, 255 :: q0?k, eval(v); q0!!t1, k fi; printf("P1 ends %d %d\n", k, v) }
-- init { byte k; run P0(0); run P0(1); q0?_, eval(t2); if :: timeout -> skip :: _nr_pr == 1 -> skip fi; printf("%d %d %d\n", u0, t1,
--     t2) }
tokens-spin-57 : List Word
tokens-spin-57 =
    on 1 kind.Mtype "mtype" ∷ on 1 kind.Assign "=" ∷ on 1 kind.OpenBrace "{" ∷ on 1 kind.Name "red" ∷ on 1 kind.Comma "," ∷
    on 1 kind.Name "green" ∷ on 1 kind.Comma "," ∷ on 1 kind.Name "blue" ∷ on 1 kind.CloseBrace "}" ∷ on 1 kind.Semicolon ";" ∷
    on 1 kind.Mtype "mtype" ∷ on 1 kind.Name "m" ∷ on 1 kind.Assign "=" ∷ on 1 kind.Name "green" ∷ on 1 kind.Semicolon ";" ∷
    on 2 kind.Unsigned "unsigned" ∷ on 2 kind.Name "u0" ∷ on 2 kind.Colon ":" ∷ on 2 kind.Number "2" ∷ on 2 kind.Assign "=" ∷
    on 2 kind.Number "2" ∷ on 2 kind.Semicolon ";" ∷ on 3 kind.Bit "bit" ∷ on 3 kind.Name "t1" ∷ on 3 kind.Assign "=" ∷
    on 3 kind.Number "1" ∷ on 3 kind.Semicolon ";" ∷ on 4 kind.Bit "bit" ∷ on 4 kind.Name "t2" ∷ on 4 kind.Assign "=" ∷
    on 4 kind.Number "0" ∷ on 4 kind.Semicolon ";" ∷ on 5 kind.Chan "chan" ∷ on 5 kind.Name "q0" ∷ on 5 kind.Assign "=" ∷
    on 5 kind.OpenBracket "[" ∷ on 5 kind.Number "0" ∷ on 5 kind.CloseBracket "]" ∷ on 5 kind.Of "of" ∷ on 5 kind.OpenBrace "{" ∷
    on 5 kind.Short "short" ∷ on 5 kind.Comma "," ∷ on 5 kind.Byte "byte" ∷ on 5 kind.CloseBrace "}" ∷ on 5 kind.Semicolon ";" ∷
    on 6 kind.Proctype "proctype" ∷ on 6 kind.Name "P0" ∷ on 6 kind.OpenParen "(" ∷ on 6 kind.Byte "byte" ∷ on 6 kind.Name "n" ∷
    on 6 kind.CloseParen ")" ∷ on 6 kind.OpenBrace "{" ∷ on 6 kind.Byte "byte" ∷ on 6 kind.Name "k" ∷ on 6 kind.Semicolon ";" ∷
    on 6 kind.Short "short" ∷ on 6 kind.Name "v" ∷ on 6 kind.Assign "=" ∷ on 6 kind.Number "3" ∷ on 6 kind.Semicolon ";" ∷
    on 6 kind.Name "t1" ∷ on 6 kind.Assign "=" ∷ on 6 kind.Name "t1" ∷ on 6 kind.Semicolon ";" ∷ on 6 kind.Name "k" ∷
    on 6 kind.Assign "=" ∷ on 6 kind.OpenParen "(" ∷ on 6 kind.Name "t2" ∷ on 6 kind.Star "*" ∷ on 6 kind.Name "k" ∷
    on 6 kind.CloseParen ")" ∷ on 6 kind.Semicolon ";" ∷ on 6 kind.Name "t2" ∷ on 6 kind.Assign "=" ∷ on 6 kind.Name "t1" ∷
    on 6 kind.Semicolon ";" ∷ on 6 kind.Printf "printf" ∷ on 6 kind.OpenParen "(" ∷ on 6 kind.Quoted "\"P0 ends %d %d\\n\"" ∷
    on 6 kind.Comma "," ∷ on 6 kind.Name "k" ∷ on 6 kind.Comma "," ∷ on 6 kind.Name "v" ∷ on 6 kind.CloseParen ")" ∷
    on 6 kind.CloseBrace "}" ∷ on 7 kind.Proctype "proctype" ∷ on 7 kind.Name "P1" ∷ on 7 kind.OpenParen "(" ∷
    on 7 kind.Byte "byte" ∷ on 7 kind.Name "n" ∷ on 7 kind.CloseParen ")" ∷ on 7 kind.OpenBrace "{" ∷ on 7 kind.Byte "byte" ∷
    on 7 kind.Name "k" ∷ on 7 kind.Semicolon ";" ∷ on 7 kind.Short "short" ∷ on 7 kind.Name "v" ∷ on 7 kind.Assign "=" ∷
    on 7 kind.Number "1" ∷ on 7 kind.Semicolon ";" ∷ on 7 kind.If "if" ∷ on 7 kind.DoubleColon "::" ∷ on 7 kind.Name "v" ∷
    on 7 kind.Assign "=" ∷ on 7 kind.Name "k" ∷ on 7 kind.Semicolon ";" ∷ on 7 kind.Name "q0" ∷ on 7 kind.Bang "!" ∷
    on 7 kind.Name "v" ∷ on 7 kind.Comma "," ∷ on 7 kind.Number "255" ∷ on 7 kind.DoubleColon "::" ∷ on 7 kind.Name "q0" ∷
    on 7 kind.Query "?" ∷ on 7 kind.Name "k" ∷ on 7 kind.Comma "," ∷ on 7 kind.Eval "eval" ∷ on 7 kind.OpenParen "(" ∷
    on 7 kind.Name "v" ∷ on 7 kind.CloseParen ")" ∷ on 7 kind.Semicolon ";" ∷ on 7 kind.Name "q0" ∷ on 7 kind.BangBang "!!" ∷
    on 7 kind.Name "t1" ∷ on 7 kind.Comma "," ∷ on 7 kind.Name "k" ∷ on 7 kind.Fi "fi" ∷ on 7 kind.Semicolon ";" ∷
    on 7 kind.Printf "printf" ∷ on 7 kind.OpenParen "(" ∷ on 7 kind.Quoted "\"P1 ends %d %d\\n\"" ∷ on 7 kind.Comma "," ∷
    on 7 kind.Name "k" ∷ on 7 kind.Comma "," ∷ on 7 kind.Name "v" ∷ on 7 kind.CloseParen ")" ∷ on 7 kind.CloseBrace "}" ∷
    on 8 kind.Init "init" ∷ on 8 kind.OpenBrace "{" ∷ on 8 kind.Byte "byte" ∷ on 8 kind.Name "k" ∷ on 8 kind.Semicolon ";" ∷
    on 8 kind.Run "run" ∷ on 8 kind.Name "P0" ∷ on 8 kind.OpenParen "(" ∷ on 8 kind.Number "0" ∷ on 8 kind.CloseParen ")" ∷
    on 8 kind.Semicolon ";" ∷ on 8 kind.Run "run" ∷ on 8 kind.Name "P0" ∷ on 8 kind.OpenParen "(" ∷ on 8 kind.Number "1" ∷
    on 8 kind.CloseParen ")" ∷ on 8 kind.Semicolon ";" ∷ on 8 kind.Name "q0" ∷ on 8 kind.Query "?" ∷ on 8 kind.Name "_" ∷
    on 8 kind.Comma "," ∷ on 8 kind.Eval "eval" ∷ on 8 kind.OpenParen "(" ∷ on 8 kind.Name "t2" ∷ on 8 kind.CloseParen ")" ∷
    on 8 kind.Semicolon ";" ∷ on 8 kind.If "if" ∷ on 8 kind.DoubleColon "::" ∷ on 8 kind.Timeout "timeout" ∷ on 8 kind.Arrow "->" ∷
    on 8 kind.Skip "skip" ∷ on 8 kind.DoubleColon "::" ∷ on 8 kind.Name "_nr_pr" ∷ on 8 kind.Equal "==" ∷ on 8 kind.Number "1" ∷
    on 8 kind.Arrow "->" ∷ on 8 kind.Skip "skip" ∷ on 8 kind.Fi "fi" ∷ on 8 kind.Semicolon ";" ∷ on 8 kind.Printf "printf" ∷
    on 8 kind.OpenParen "(" ∷ on 8 kind.Quoted "\"%d %d %d\\n\"" ∷ on 8 kind.Comma "," ∷ on 8 kind.Name "u0" ∷ on 8 kind.Comma "," ∷
    on 8 kind.Name "t1" ∷ on 8 kind.Comma "," ∷ on 8 kind.Name "t2" ∷ on 8 kind.CloseParen ")" ∷ on 8 kind.CloseBrace "}" ∷ []

model-spin-57 : Program
unfolding tokens-spin-57
model-spin-57 =
    let at : ℕ → Word = token_at tokens-spin-57 in
    let part : ℕ → ℕ → List Word = tokens_between tokens-spin-57 in
    record {
      globals = (slot (at 11) mtype false 0 1 1 (initial.Value (number 2)) ∷ slot (at 16) (form.Unsigned 2) false 1 1 1 (initial.Value
          (number 2)) ∷ slot (at 23) bit false 2 1 1 (initial.Value (number 1)) ∷ slot (at 28) bit false 3 1 1 (initial.Value (number
          0)) ∷ slot (at 33) chan false 4 1 1 (initial.Channel 0 (short ∷ byte ∷ [])) ∷ []);
      constants = ((at 7) ∷ (at 5) ∷ (at 3) ∷ []);
      typedefs = [];
      proctypes = (
          process (at 46) 7 0 1 (slot (at 49) byte false 0 1 1 initial.Zero ∷ slot (at 53) byte false 1 1 1 initial.Zero ∷ slot (at 56)
          short false 2 1 1 (initial.Value (number 3)) ∷ []) (
          plain (part 60 63) (assign (global 2 bit) (read (global 2 bit))) ∷
          plain (part 64 71) (assign (local 1 byte) (expr.Binary op.Times (read (global 3 bit)) (read (local 1 byte)))) ∷
          plain (part 72 75) (assign (global 3 bit) (read (global 2 bit))) ∷
          plain (part 76 84) (action.Printf (at 78) ((read (local 1 byte)) ∷ (read (local 2 short)) ∷ [])) ∷ []) (at 84) ∷
          process (at 86) 8 0 1 (slot (at 89) byte false 0 1 1 initial.Zero ∷ slot (at 93) byte false 1 1 1 initial.Zero ∷ slot (at 96)
          short false 2 1 1 (initial.Value (number 1)) ∷ []) (
          if_fi (part 100 127) (
          (plain (part 102 105) (assign (local 2 short) (read (local 1 byte))) ∷
          plain (part 106 111) (action.Send (global 4 chan) Fifo ((read (local 2 short)) ∷ (number 255) ∷ [])) ∷ []) ∷
          (plain (part 112 120) (action.Receive (global 4 chan) First Remove (want.Into (local 1 byte) ∷ want.Equal (read (local 2
          short)) ∷ [])) ∷
          plain (part 121 126) (action.Send (global 4 chan) Sorted ((read (global 2 bit)) ∷ (read (local 1 byte)) ∷ [])) ∷ []) ∷ []) ∷
          plain (part 128 136) (action.Printf (at 130) ((read (local 1 byte)) ∷ (read (local 2 short)) ∷ [])) ∷ []) (at 136) ∷
          process (at 137) 9 1 0 (slot (at 140) byte false 0 1 1 initial.Zero ∷ []) (
          plain (part 142 147) (action.Run (run 0 ((number 0) ∷ []))) ∷
          plain (part 148 153) (action.Run (run 0 ((number 1) ∷ []))) ∷
          plain (part 154 162) (action.Receive (global 4 chan) First Remove (want.Anything ∷ want.Equal (read (global 3 bit)) ∷ [])) ∷
          if_fi (part 163 175) (
          (plain (part 165 166) (holds expr.Timeout) ∷
          plain (part 167 168) (holds (number 1)) ∷ []) ∷
          (plain (part 169 172) (holds (expr.Binary op.Equal expr.ProcessCount (number 1))) ∷
          plain (part 173 174) (holds (number 1)) ∷ []) ∷ []) ∷
          plain (part 176 186) (action.Printf (at 178) ((read (global 1 (form.Unsigned 2))) ∷ (read (global 2 bit)) ∷ (read (global 3
          bit)) ∷ [])) ∷ []) (at 186) ∷ []);
    }

prints-spin-57 : printed model-spin-57 12 (2 ∷ 2 ∷ 2 ∷ 2 ∷ 2 ∷ [])
    ≡ Some (shown (text (
    "P0 ends 0 3\n" ∷
    "P0 ends 0 3\n" ∷
    [])) Invalid)
unfolding computes model-spin-57
prints-spin-57 = prints model-spin-57 12 (2 ∷ 2 ∷ 2 ∷ 2 ∷ 2 ∷ []) _ refl

-- short s0 = 3;
-- short a[3];
-- chan q0 = [2] of { short, byte };
-- chan q1 = [0] of { int };
-- proctype P0(byte n) { byte k; int v = 0; v = _pid; a[1] = 2; printf("P0 ends %d %d\n", k, v) }
-- init { byte k; run P0(3); a[(s0 & 1)] = k; if :: timeout -> skip :: _nr_pr == 1 -> skip fi; printf("%d\n", s0) }
tokens-spin-58 : List Word
tokens-spin-58 =
    on 1 kind.Short "short" ∷ on 1 kind.Name "s0" ∷ on 1 kind.Assign "=" ∷ on 1 kind.Number "3" ∷ on 1 kind.Semicolon ";" ∷
    on 2 kind.Short "short" ∷ on 2 kind.Name "a" ∷ on 2 kind.OpenBracket "[" ∷ on 2 kind.Number "3" ∷ on 2 kind.CloseBracket "]" ∷
    on 2 kind.Semicolon ";" ∷ on 3 kind.Chan "chan" ∷ on 3 kind.Name "q0" ∷ on 3 kind.Assign "=" ∷ on 3 kind.OpenBracket "[" ∷
    on 3 kind.Number "2" ∷ on 3 kind.CloseBracket "]" ∷ on 3 kind.Of "of" ∷ on 3 kind.OpenBrace "{" ∷ on 3 kind.Short "short" ∷
    on 3 kind.Comma "," ∷ on 3 kind.Byte "byte" ∷ on 3 kind.CloseBrace "}" ∷ on 3 kind.Semicolon ";" ∷ on 4 kind.Chan "chan" ∷
    on 4 kind.Name "q1" ∷ on 4 kind.Assign "=" ∷ on 4 kind.OpenBracket "[" ∷ on 4 kind.Number "0" ∷ on 4 kind.CloseBracket "]" ∷
    on 4 kind.Of "of" ∷ on 4 kind.OpenBrace "{" ∷ on 4 kind.Int "int" ∷ on 4 kind.CloseBrace "}" ∷ on 4 kind.Semicolon ";" ∷
    on 5 kind.Proctype "proctype" ∷ on 5 kind.Name "P0" ∷ on 5 kind.OpenParen "(" ∷ on 5 kind.Byte "byte" ∷ on 5 kind.Name "n" ∷
    on 5 kind.CloseParen ")" ∷ on 5 kind.OpenBrace "{" ∷ on 5 kind.Byte "byte" ∷ on 5 kind.Name "k" ∷ on 5 kind.Semicolon ";" ∷
    on 5 kind.Int "int" ∷ on 5 kind.Name "v" ∷ on 5 kind.Assign "=" ∷ on 5 kind.Number "0" ∷ on 5 kind.Semicolon ";" ∷
    on 5 kind.Name "v" ∷ on 5 kind.Assign "=" ∷ on 5 kind.Name "_pid" ∷ on 5 kind.Semicolon ";" ∷ on 5 kind.Name "a" ∷
    on 5 kind.OpenBracket "[" ∷ on 5 kind.Number "1" ∷ on 5 kind.CloseBracket "]" ∷ on 5 kind.Assign "=" ∷ on 5 kind.Number "2" ∷
    on 5 kind.Semicolon ";" ∷ on 5 kind.Printf "printf" ∷ on 5 kind.OpenParen "(" ∷ on 5 kind.Quoted "\"P0 ends %d %d\\n\"" ∷
    on 5 kind.Comma "," ∷ on 5 kind.Name "k" ∷ on 5 kind.Comma "," ∷ on 5 kind.Name "v" ∷ on 5 kind.CloseParen ")" ∷
    on 5 kind.CloseBrace "}" ∷ on 6 kind.Init "init" ∷ on 6 kind.OpenBrace "{" ∷ on 6 kind.Byte "byte" ∷ on 6 kind.Name "k" ∷
    on 6 kind.Semicolon ";" ∷ on 6 kind.Run "run" ∷ on 6 kind.Name "P0" ∷ on 6 kind.OpenParen "(" ∷ on 6 kind.Number "3" ∷
    on 6 kind.CloseParen ")" ∷ on 6 kind.Semicolon ";" ∷ on 6 kind.Name "a" ∷ on 6 kind.OpenBracket "[" ∷ on 6 kind.OpenParen "(" ∷
    on 6 kind.Name "s0" ∷ on 6 kind.Ampersand "&" ∷ on 6 kind.Number "1" ∷ on 6 kind.CloseParen ")" ∷ on 6 kind.CloseBracket "]" ∷
    on 6 kind.Assign "=" ∷ on 6 kind.Name "k" ∷ on 6 kind.Semicolon ";" ∷ on 6 kind.If "if" ∷ on 6 kind.DoubleColon "::" ∷
    on 6 kind.Timeout "timeout" ∷ on 6 kind.Arrow "->" ∷ on 6 kind.Skip "skip" ∷ on 6 kind.DoubleColon "::" ∷
    on 6 kind.Name "_nr_pr" ∷ on 6 kind.Equal "==" ∷ on 6 kind.Number "1" ∷ on 6 kind.Arrow "->" ∷ on 6 kind.Skip "skip" ∷
    on 6 kind.Fi "fi" ∷ on 6 kind.Semicolon ";" ∷ on 6 kind.Printf "printf" ∷ on 6 kind.OpenParen "(" ∷
    on 6 kind.Quoted "\"%d\\n\"" ∷ on 6 kind.Comma "," ∷ on 6 kind.Name "s0" ∷ on 6 kind.CloseParen ")" ∷ on 6 kind.CloseBrace "}" ∷ []

model-spin-58 : Program
unfolding tokens-spin-58
model-spin-58 =
    let at : ℕ → Word = token_at tokens-spin-58 in
    let part : ℕ → ℕ → List Word = tokens_between tokens-spin-58 in
    record {
      globals = (slot (at 1) short false 0 1 1 (initial.Value (number 3)) ∷ slot (at 6) short true 1 3 1 initial.Zero ∷ slot (at 12)
          chan false 4 1 1 (initial.Channel 2 (short ∷ byte ∷ [])) ∷ slot (at 25) chan false 5 1 1 (initial.Channel 0 (int ∷ [])) ∷ []);
      constants = [];
      typedefs = [];
      proctypes = (
          process (at 36) 5 0 1 (slot (at 39) byte false 0 1 1 initial.Zero ∷ slot (at 43) byte false 1 1 1 initial.Zero ∷ slot (at 46)
          int false 2 1 1 (initial.Value (number 0)) ∷ []) (
          plain (part 50 53) (assign (local 2 int) expr.Pid) ∷
          plain (part 54 60) (assign (in_global 1 short (turn 0 3 1 (Some (number 1)) ∷ [])) (number 2)) ∷
          plain (part 61 69) (action.Printf (at 63) ((read (local 1 byte)) ∷ (read (local 2 int)) ∷ [])) ∷ []) (at 69) ∷
          process (at 70) 6 1 0 (slot (at 73) byte false 0 1 1 initial.Zero ∷ []) (
          plain (part 75 80) (action.Run (run 0 ((number 3) ∷ []))) ∷
          plain (part 81 91) (assign (in_global 1 short (turn 0 3 1 (Some (expr.Binary op.BitAnd (read (global 0 short)) (number 1))) ∷
          [])) (read (local 0 byte))) ∷
          if_fi (part 92 104) (
          (plain (part 94 95) (holds expr.Timeout) ∷
          plain (part 96 97) (holds (number 1)) ∷ []) ∷
          (plain (part 98 101) (holds (expr.Binary op.Equal expr.ProcessCount (number 1))) ∷
          plain (part 102 103) (holds (number 1)) ∷ []) ∷ []) ∷
          plain (part 105 111) (action.Printf (at 107) ((read (global 0 short)) ∷ [])) ∷ []) (at 111) ∷ []);
    }

prints-spin-58 : printed model-spin-58 10 (1 ∷ [])
    ≡ Some (shown (text (
    "P0 ends 0 1\n" ∷
    "3\n" ∷
    [])) Valid)
unfolding computes model-spin-58
prints-spin-58 = prints model-spin-58 10 (1 ∷ []) _ refl

-- mtype = { red, green, blue }; mtype m = green;
-- short s0 = 3;
-- bit t1;
-- byte b2;
-- proctype P0(byte n) { byte k; int v = 0; s0 = v; printf("= %u\n", k); printf("P0 ends %d %d\n", k, v) }
-- init { byte k; run P0(1); for (k : 1 .. 1) { s0++; s0 = ((s0 <= 255 || 1 < 1) -> 100 : _nr_pr) }; if :: timeout -> skip :: _nr_pr
--     == 1 -> skip fi; printf("%d %d %d\n", s0, t1, b2) }
tokens-spin-60 : List Word
tokens-spin-60 =
    on 1 kind.Mtype "mtype" ∷ on 1 kind.Assign "=" ∷ on 1 kind.OpenBrace "{" ∷ on 1 kind.Name "red" ∷ on 1 kind.Comma "," ∷
    on 1 kind.Name "green" ∷ on 1 kind.Comma "," ∷ on 1 kind.Name "blue" ∷ on 1 kind.CloseBrace "}" ∷ on 1 kind.Semicolon ";" ∷
    on 1 kind.Mtype "mtype" ∷ on 1 kind.Name "m" ∷ on 1 kind.Assign "=" ∷ on 1 kind.Name "green" ∷ on 1 kind.Semicolon ";" ∷
    on 2 kind.Short "short" ∷ on 2 kind.Name "s0" ∷ on 2 kind.Assign "=" ∷ on 2 kind.Number "3" ∷ on 2 kind.Semicolon ";" ∷
    on 3 kind.Bit "bit" ∷ on 3 kind.Name "t1" ∷ on 3 kind.Semicolon ";" ∷ on 4 kind.Byte "byte" ∷ on 4 kind.Name "b2" ∷
    on 4 kind.Semicolon ";" ∷ on 5 kind.Proctype "proctype" ∷ on 5 kind.Name "P0" ∷ on 5 kind.OpenParen "(" ∷ on 5 kind.Byte "byte" ∷
    on 5 kind.Name "n" ∷ on 5 kind.CloseParen ")" ∷ on 5 kind.OpenBrace "{" ∷ on 5 kind.Byte "byte" ∷ on 5 kind.Name "k" ∷
    on 5 kind.Semicolon ";" ∷ on 5 kind.Int "int" ∷ on 5 kind.Name "v" ∷ on 5 kind.Assign "=" ∷ on 5 kind.Number "0" ∷
    on 5 kind.Semicolon ";" ∷ on 5 kind.Name "s0" ∷ on 5 kind.Assign "=" ∷ on 5 kind.Name "v" ∷ on 5 kind.Semicolon ";" ∷
    on 5 kind.Printf "printf" ∷ on 5 kind.OpenParen "(" ∷ on 5 kind.Quoted "\"= %u\\n\"" ∷ on 5 kind.Comma "," ∷ on 5 kind.Name "k" ∷
    on 5 kind.CloseParen ")" ∷ on 5 kind.Semicolon ";" ∷ on 5 kind.Printf "printf" ∷ on 5 kind.OpenParen "(" ∷
    on 5 kind.Quoted "\"P0 ends %d %d\\n\"" ∷ on 5 kind.Comma "," ∷ on 5 kind.Name "k" ∷ on 5 kind.Comma "," ∷ on 5 kind.Name "v" ∷
    on 5 kind.CloseParen ")" ∷ on 5 kind.CloseBrace "}" ∷ on 6 kind.Init "init" ∷ on 6 kind.OpenBrace "{" ∷ on 6 kind.Byte "byte" ∷
    on 6 kind.Name "k" ∷ on 6 kind.Semicolon ";" ∷ on 6 kind.Run "run" ∷ on 6 kind.Name "P0" ∷ on 6 kind.OpenParen "(" ∷
    on 6 kind.Number "1" ∷ on 6 kind.CloseParen ")" ∷ on 6 kind.Semicolon ";" ∷ on 6 kind.For "for" ∷ on 6 kind.OpenParen "(" ∷
    on 6 kind.Name "k" ∷ on 6 kind.Colon ":" ∷ on 6 kind.Number "1" ∷ on 6 kind.DotDot ".." ∷ on 6 kind.Number "1" ∷
    on 6 kind.CloseParen ")" ∷ on 6 kind.OpenBrace "{" ∷ on 6 kind.Name "s0" ∷ on 6 kind.Increment "++" ∷ on 6 kind.Semicolon ";" ∷
    on 6 kind.Name "s0" ∷ on 6 kind.Assign "=" ∷ on 6 kind.OpenParen "(" ∷ on 6 kind.OpenParen "(" ∷ on 6 kind.Name "s0" ∷
    on 6 kind.AtMost "<=" ∷ on 6 kind.Number "255" ∷ on 6 kind.OrOr "||" ∷ on 6 kind.Number "1" ∷ on 6 kind.Less "<" ∷
    on 6 kind.Number "1" ∷ on 6 kind.CloseParen ")" ∷ on 6 kind.Arrow "->" ∷ on 6 kind.Number "100" ∷ on 6 kind.Colon ":" ∷
    on 6 kind.Name "_nr_pr" ∷ on 6 kind.CloseParen ")" ∷ on 6 kind.CloseBrace "}" ∷ on 6 kind.Semicolon ";" ∷ on 6 kind.If "if" ∷
    on 6 kind.DoubleColon "::" ∷ on 6 kind.Timeout "timeout" ∷ on 6 kind.Arrow "->" ∷ on 6 kind.Skip "skip" ∷
    on 6 kind.DoubleColon "::" ∷ on 6 kind.Name "_nr_pr" ∷ on 6 kind.Equal "==" ∷ on 6 kind.Number "1" ∷ on 6 kind.Arrow "->" ∷
    on 6 kind.Skip "skip" ∷ on 6 kind.Fi "fi" ∷ on 6 kind.Semicolon ";" ∷ on 6 kind.Printf "printf" ∷ on 6 kind.OpenParen "(" ∷
    on 6 kind.Quoted "\"%d %d %d\\n\"" ∷ on 6 kind.Comma "," ∷ on 6 kind.Name "s0" ∷ on 6 kind.Comma "," ∷ on 6 kind.Name "t1" ∷
    on 6 kind.Comma "," ∷ on 6 kind.Name "b2" ∷ on 6 kind.CloseParen ")" ∷ on 6 kind.CloseBrace "}" ∷ []

model-spin-60 : Program
unfolding tokens-spin-60
model-spin-60 =
    let at : ℕ → Word = token_at tokens-spin-60 in
    let part : ℕ → ℕ → List Word = tokens_between tokens-spin-60 in
    record {
      globals = (slot (at 11) mtype false 0 1 1 (initial.Value (number 2)) ∷ slot (at 16) short false 1 1 1 (initial.Value (number 3))
          ∷ slot (at 21) bit false 2 1 1 initial.Zero ∷ slot (at 24) byte false 3 1 1 initial.Zero ∷ []);
      constants = ((at 7) ∷ (at 5) ∷ (at 3) ∷ []);
      typedefs = [];
      proctypes = (
          process (at 27) 6 0 1 (slot (at 30) byte false 0 1 1 initial.Zero ∷ slot (at 34) byte false 1 1 1 initial.Zero ∷ slot (at 37)
          int false 2 1 1 (initial.Value (number 0)) ∷ []) (
          plain (part 41 44) (assign (global 1 short) (read (local 2 int))) ∷
          plain (part 45 51) (action.Printf (at 47) ((read (local 1 byte)) ∷ [])) ∷
          plain (part 52 60) (action.Printf (at 54) ((read (local 1 byte)) ∷ (read (local 2 int)) ∷ [])) ∷ []) (at 60) ∷
          process (at 61) 7 1 0 (slot (at 64) byte false 0 1 1 initial.Zero ∷ []) (
          plain (part 66 71) (action.Run (run 0 ((number 1) ∷ []))) ∷
          block (part 72 102) (
          plain ((at 74) ∷ (on 6 kind.Assign "=") ∷ (at 76) ∷ []) (assign (local 0 byte) (number 1)) ∷
          do_od ((on 6 kind.Do "do") ∷ []) (
          (plain ((at 74) ∷ (on 6 kind.AtMost "<=") ∷ (at 78) ∷ []) (holds (expr.Binary op.AtMost (read (local 0 byte)) (number 1))) ∷
          plain (part 81 83) (action.Increment (global 1 short)) ∷
          plain (part 84 101) (assign (global 1 short) (expr.Choice (expr.Binary op.Or (expr.Binary op.AtMost (read (global 1 short))
          (number 255)) (expr.Binary op.Below (number 1) (number 1))) (number 100) expr.ProcessCount)) ∷
          plain ((at 74) ∷ (on 6 kind.Increment "++") ∷ []) (action.Increment (local 0 byte)) ∷ []) ∷
          (plain ((on 6 kind.Else "else") ∷ []) action.Else ∷
          stmt [] Break ((on 6 kind.Break "break") ∷ []) ∷ []) ∷ []) ∷ []) ∷
          if_fi (part 103 115) (
          (plain (part 105 106) (holds expr.Timeout) ∷
          plain (part 107 108) (holds (number 1)) ∷ []) ∷
          (plain (part 109 112) (holds (expr.Binary op.Equal expr.ProcessCount (number 1))) ∷
          plain (part 113 114) (holds (number 1)) ∷ []) ∷ []) ∷
          plain (part 116 126) (action.Printf (at 118) ((read (global 1 short)) ∷ (read (global 2 bit)) ∷ (read (global 3 byte)) ∷ []))
          ∷ []) (at 126) ∷ []);
    }

prints-spin-60 : printed model-spin-60 15 (1 ∷ 2 ∷ 2 ∷ 1 ∷ 1 ∷ 1 ∷ 1 ∷ 2 ∷ 1 ∷ [])
    ≡ Some (shown (text (
    "= 0\n" ∷
    "P0 ends 0 0\n" ∷
    "100 0 0\n" ∷
    [])) Valid)
unfolding computes model-spin-60
prints-spin-60 = prints model-spin-60 15 (1 ∷ 2 ∷ 2 ∷ 1 ∷ 1 ∷ 1 ∷ 1 ∷ 2 ∷ 1 ∷ []) _ refl

-- short s0;
-- int i1 = 0;
-- bit t2 = 0;
-- byte a[3];
-- typedef T { byte f; short g[2] }; T r;
-- proctype P0(byte n) { byte k; int v = 1; printf("at %o\n", t2); { printf("at %u %x\n", t2, k); printf("p %o\n", n) } unless { (3 <
--     a[(k & 1)]) -> printf("at %o %x\n", n, s0) }; d_step { a[0] = (k | 7); n = ((300 >> 4) / 1) }; printf("P0 ends %d %d\n", k, v) }
-- init { byte k; run P0(4); do :: printf("at %d %u\n", i1, t2) :: else -> printf("at %d\n", r.f) :: break od; if :: timeout -> skip
--     :: _nr_pr == 1 -> skip fi; printf("%d %d %d %d %d\n", s0, i1, t2, r.f, r.g[1]) }
tokens-spin-61 : List Word
tokens-spin-61 =
    on 1 kind.Short "short" ∷ on 1 kind.Name "s0" ∷ on 1 kind.Semicolon ";" ∷ on 2 kind.Int "int" ∷ on 2 kind.Name "i1" ∷
    on 2 kind.Assign "=" ∷ on 2 kind.Number "0" ∷ on 2 kind.Semicolon ";" ∷ on 3 kind.Bit "bit" ∷ on 3 kind.Name "t2" ∷
    on 3 kind.Assign "=" ∷ on 3 kind.Number "0" ∷ on 3 kind.Semicolon ";" ∷ on 4 kind.Byte "byte" ∷ on 4 kind.Name "a" ∷
    on 4 kind.OpenBracket "[" ∷ on 4 kind.Number "3" ∷ on 4 kind.CloseBracket "]" ∷ on 4 kind.Semicolon ";" ∷
    on 5 kind.Typedef "typedef" ∷ on 5 kind.Name "T" ∷ on 5 kind.OpenBrace "{" ∷ on 5 kind.Byte "byte" ∷ on 5 kind.Name "f" ∷
    on 5 kind.Semicolon ";" ∷ on 5 kind.Short "short" ∷ on 5 kind.Name "g" ∷ on 5 kind.OpenBracket "[" ∷ on 5 kind.Number "2" ∷
    on 5 kind.CloseBracket "]" ∷ on 5 kind.CloseBrace "}" ∷ on 5 kind.Semicolon ";" ∷ on 5 kind.Name "T" ∷ on 5 kind.Name "r" ∷
    on 5 kind.Semicolon ";" ∷ on 6 kind.Proctype "proctype" ∷ on 6 kind.Name "P0" ∷ on 6 kind.OpenParen "(" ∷ on 6 kind.Byte "byte" ∷
    on 6 kind.Name "n" ∷ on 6 kind.CloseParen ")" ∷ on 6 kind.OpenBrace "{" ∷ on 6 kind.Byte "byte" ∷ on 6 kind.Name "k" ∷
    on 6 kind.Semicolon ";" ∷ on 6 kind.Int "int" ∷ on 6 kind.Name "v" ∷ on 6 kind.Assign "=" ∷ on 6 kind.Number "1" ∷
    on 6 kind.Semicolon ";" ∷ on 6 kind.Printf "printf" ∷ on 6 kind.OpenParen "(" ∷ on 6 kind.Quoted "\"at %o\\n\"" ∷
    on 6 kind.Comma "," ∷ on 6 kind.Name "t2" ∷ on 6 kind.CloseParen ")" ∷ on 6 kind.Semicolon ";" ∷ on 6 kind.OpenBrace "{" ∷
    on 6 kind.Printf "printf" ∷ on 6 kind.OpenParen "(" ∷ on 6 kind.Quoted "\"at %u %x\\n\"" ∷ on 6 kind.Comma "," ∷
    on 6 kind.Name "t2" ∷ on 6 kind.Comma "," ∷ on 6 kind.Name "k" ∷ on 6 kind.CloseParen ")" ∷ on 6 kind.Semicolon ";" ∷
    on 6 kind.Printf "printf" ∷ on 6 kind.OpenParen "(" ∷ on 6 kind.Quoted "\"p %o\\n\"" ∷ on 6 kind.Comma "," ∷ on 6 kind.Name "n" ∷
    on 6 kind.CloseParen ")" ∷ on 6 kind.CloseBrace "}" ∷ on 6 kind.Unless "unless" ∷ on 6 kind.OpenBrace "{" ∷
    on 6 kind.OpenParen "(" ∷ on 6 kind.Number "3" ∷ on 6 kind.Less "<" ∷ on 6 kind.Name "a" ∷ on 6 kind.OpenBracket "[" ∷
    on 6 kind.OpenParen "(" ∷ on 6 kind.Name "k" ∷ on 6 kind.Ampersand "&" ∷ on 6 kind.Number "1" ∷ on 6 kind.CloseParen ")" ∷
    on 6 kind.CloseBracket "]" ∷ on 6 kind.CloseParen ")" ∷ on 6 kind.Arrow "->" ∷ on 6 kind.Printf "printf" ∷
    on 6 kind.OpenParen "(" ∷ on 6 kind.Quoted "\"at %o %x\\n\"" ∷ on 6 kind.Comma "," ∷ on 6 kind.Name "n" ∷ on 6 kind.Comma "," ∷
    on 6 kind.Name "s0" ∷ on 6 kind.CloseParen ")" ∷ on 6 kind.CloseBrace "}" ∷ on 6 kind.Semicolon ";" ∷ on 6 kind.DStep "d_step" ∷
    on 6 kind.OpenBrace "{" ∷ on 6 kind.Name "a" ∷ on 6 kind.OpenBracket "[" ∷ on 6 kind.Number "0" ∷ on 6 kind.CloseBracket "]" ∷
    on 6 kind.Assign "=" ∷ on 6 kind.OpenParen "(" ∷ on 6 kind.Name "k" ∷ on 6 kind.Bar "|" ∷ on 6 kind.Number "7" ∷
    on 6 kind.CloseParen ")" ∷ on 6 kind.Semicolon ";" ∷ on 6 kind.Name "n" ∷ on 6 kind.Assign "=" ∷ on 6 kind.OpenParen "(" ∷
    on 6 kind.OpenParen "(" ∷ on 6 kind.Number "300" ∷ on 6 kind.ShiftRight ">>" ∷ on 6 kind.Number "4" ∷ on 6 kind.CloseParen ")" ∷
    on 6 kind.Slash "/" ∷ on 6 kind.Number "1" ∷ on 6 kind.CloseParen ")" ∷ on 6 kind.CloseBrace "}" ∷ on 6 kind.Semicolon ";" ∷
    on 6 kind.Printf "printf" ∷ on 6 kind.OpenParen "(" ∷ on 6 kind.Quoted "\"P0 ends %d %d\\n\"" ∷ on 6 kind.Comma "," ∷
    on 6 kind.Name "k" ∷ on 6 kind.Comma "," ∷ on 6 kind.Name "v" ∷ on 6 kind.CloseParen ")" ∷ on 6 kind.CloseBrace "}" ∷
    on 7 kind.Init "init" ∷ on 7 kind.OpenBrace "{" ∷ on 7 kind.Byte "byte" ∷ on 7 kind.Name "k" ∷ on 7 kind.Semicolon ";" ∷
    on 7 kind.Run "run" ∷ on 7 kind.Name "P0" ∷ on 7 kind.OpenParen "(" ∷ on 7 kind.Number "4" ∷ on 7 kind.CloseParen ")" ∷
    on 7 kind.Semicolon ";" ∷ on 7 kind.Do "do" ∷ on 7 kind.DoubleColon "::" ∷ on 7 kind.Printf "printf" ∷ on 7 kind.OpenParen "(" ∷
    on 7 kind.Quoted "\"at %d %u\\n\"" ∷ on 7 kind.Comma "," ∷ on 7 kind.Name "i1" ∷ on 7 kind.Comma "," ∷ on 7 kind.Name "t2" ∷
    on 7 kind.CloseParen ")" ∷ on 7 kind.DoubleColon "::" ∷ on 7 kind.Else "else" ∷ on 7 kind.Arrow "->" ∷
    on 7 kind.Printf "printf" ∷ on 7 kind.OpenParen "(" ∷ on 7 kind.Quoted "\"at %d\\n\"" ∷ on 7 kind.Comma "," ∷
    on 7 kind.Name "r" ∷ on 7 kind.Dot "." ∷ on 7 kind.Name "f" ∷ on 7 kind.CloseParen ")" ∷ on 7 kind.DoubleColon "::" ∷
    on 7 kind.Break "break" ∷ on 7 kind.Od "od" ∷ on 7 kind.Semicolon ";" ∷ on 7 kind.If "if" ∷ on 7 kind.DoubleColon "::" ∷
    on 7 kind.Timeout "timeout" ∷ on 7 kind.Arrow "->" ∷ on 7 kind.Skip "skip" ∷ on 7 kind.DoubleColon "::" ∷
    on 7 kind.Name "_nr_pr" ∷ on 7 kind.Equal "==" ∷ on 7 kind.Number "1" ∷ on 7 kind.Arrow "->" ∷ on 7 kind.Skip "skip" ∷
    on 7 kind.Fi "fi" ∷ on 7 kind.Semicolon ";" ∷ on 7 kind.Printf "printf" ∷ on 7 kind.OpenParen "(" ∷
    on 7 kind.Quoted "\"%d %d %d %d %d\\n\"" ∷ on 7 kind.Comma "," ∷ on 7 kind.Name "s0" ∷ on 7 kind.Comma "," ∷
    on 7 kind.Name "i1" ∷ on 7 kind.Comma "," ∷ on 7 kind.Name "t2" ∷ on 7 kind.Comma "," ∷ on 7 kind.Name "r" ∷ on 7 kind.Dot "." ∷
    on 7 kind.Name "f" ∷ on 7 kind.Comma "," ∷ on 7 kind.Name "r" ∷ on 7 kind.Dot "." ∷ on 7 kind.Name "g" ∷
    on 7 kind.OpenBracket "[" ∷ on 7 kind.Number "1" ∷ on 7 kind.CloseBracket "]" ∷ on 7 kind.CloseParen ")" ∷
    on 7 kind.CloseBrace "}" ∷ []

model-spin-61 : Program
unfolding tokens-spin-61
model-spin-61 =
    let at : ℕ → Word = token_at tokens-spin-61 in
    let part : ℕ → ℕ → List Word = tokens_between tokens-spin-61 in
    record {
      globals = (slot (at 1) short false 0 1 1 initial.Zero ∷ slot (at 4) int false 1 1 1 (initial.Value (number 0)) ∷ slot (at 9) bit
          false 2 1 1 (initial.Value (number 0)) ∷ slot (at 14) byte true 3 3 1 initial.Zero ∷ slot (at 33) (form.Struct 5) false 6 1 3
          initial.Zero ∷ []);
      constants = [];
      typedefs = (fields 5 (slot (at 23) byte false 0 1 1 initial.Zero ∷ slot (at 26) short true 1 2 1 initial.Zero ∷ []) ∷ []);
      proctypes = (
          process (at 36) 7 0 1 (slot (at 39) byte false 0 1 1 initial.Zero ∷ slot (at 43) byte false 1 1 1 initial.Zero ∷ slot (at 46)
          int false 2 1 1 (initial.Value (number 1)) ∷ []) (
          plain (part 50 56) (action.Printf (at 52) ((read (global 2 bit)) ∷ [])) ∷
          unless (part 57 98) (
          block (part 57 74) (
          plain (part 58 66) (action.Printf (at 60) ((read (global 2 bit)) ∷ (read (local 1 byte)) ∷ [])) ∷
          plain (part 67 73) (action.Printf (at 69) ((read (local 0 byte)) ∷ [])) ∷ []) ∷ []) (
          block (part 75 98) (
          plain (part 76 88) (holds (expr.Binary op.Below (number 3) (read (in_global 3 byte (turn 0 3 1 (Some (expr.Binary op.BitAnd
          (read (local 1 byte)) (number 1))) ∷ []))))) ∷
          plain (part 89 97) (action.Printf (at 91) ((read (local 0 byte)) ∷ (read (global 0 short)) ∷ [])) ∷ []) ∷ []) ∷
          d_step (part 99 124) (
          plain (part 101 111) (assign (in_global 3 byte (turn 0 3 1 (Some (number 0)) ∷ [])) (expr.Binary op.BitOr (read (local 1
          byte)) (number 7))) ∷
          plain (part 112 123) (assign (local 0 byte) (expr.Binary op.Divide (expr.Binary op.ShiftRight (number 300) (number 4)) (number
          1))) ∷ []) ∷
          plain (part 125 133) (action.Printf (at 127) ((read (local 1 byte)) ∷ (read (local 2 int)) ∷ [])) ∷ []) (at 133) ∷
          process (at 134) 8 1 0 (slot (at 137) byte false 0 1 1 initial.Zero ∷ []) (
          plain (part 139 144) (action.Run (run 0 ((number 4) ∷ []))) ∷
          do_od (part 145 169) (
          (plain (part 147 155) (action.Printf (at 149) ((read (global 1 int)) ∷ (read (global 2 bit)) ∷ [])) ∷ []) ∷
          (plain (part 156 157) action.Else ∷
          plain (part 158 166) (action.Printf (at 160) ((read (in_global 4 byte (turn 0 1 3 None ∷ turn 0 1 1 None ∷ []))) ∷ [])) ∷ []) ∷
          (stmt [] Break (part 167 168) ∷ []) ∷ []) ∷
          if_fi (part 170 182) (
          (plain (part 172 173) (holds expr.Timeout) ∷
          plain (part 174 175) (holds (number 1)) ∷ []) ∷
          (plain (part 176 179) (holds (expr.Binary op.Equal expr.ProcessCount (number 1))) ∷
          plain (part 180 181) (holds (number 1)) ∷ []) ∷ []) ∷
          plain (part 183 204) (action.Printf (at 185) ((read (global 0 short)) ∷ (read (global 1 int)) ∷ (read (global 2 bit)) ∷ (read
          (in_global 4 byte (turn 0 1 3 None ∷ turn 0 1 1 None ∷ []))) ∷ (read (in_global 4 short (turn 0 1 3 None ∷ turn 1 2 1 (Some
          (number 1)) ∷ []))) ∷ [])) ∷ []) (at 204) ∷ []);
    }

prints-spin-61 : printed model-spin-61 13 (3 ∷ 3 ∷ 1 ∷ 3 ∷ 3 ∷ 2 ∷ [])
    ≡ Some (shown (text (
    "at 0\n" ∷
    "at 0 0\n" ∷
    "at 0 0\n" ∷
    "p 4\n" ∷
    "P0 ends 0 1\n" ∷
    "0 0 0 0 0\n" ∷
    [])) Valid)
unfolding computes model-spin-61
prints-spin-61 = prints model-spin-61 13 (3 ∷ 3 ∷ 1 ∷ 3 ∷ 3 ∷ 2 ∷ []) _ refl

-- int i0 = 0;
-- bit t1;
-- short a[2];
-- typedef T { byte f; short g[2] }; T r;
-- chan q0 = [0] of { short, byte };
-- chan q1 = [1] of { byte };
-- proctype P0(byte n) { byte k; int v = 0; n = (k == a[1] -> i0 : 1); printf("P0 ends %d %d\n", k, v) }
-- proctype P1(byte n) { byte k; short v = 1; d_step { a[1] = a[0]; r.g[1] = (v / 3) }; t1 = 1; printf("P1 ends %d %d\n", k, v) }
-- init { byte k; run P0(1); run P1(0); q0?2, i0; i0 = (!a[0]); if :: timeout -> skip :: _nr_pr == 1 -> skip fi; printf("%d %d %d
--     %d\n", i0, t1, r.f, r.g[1]) }
tokens-spin-63 : List Word
tokens-spin-63 =
    on 1 kind.Int "int" ∷ on 1 kind.Name "i0" ∷ on 1 kind.Assign "=" ∷ on 1 kind.Number "0" ∷ on 1 kind.Semicolon ";" ∷
    on 2 kind.Bit "bit" ∷ on 2 kind.Name "t1" ∷ on 2 kind.Semicolon ";" ∷ on 3 kind.Short "short" ∷ on 3 kind.Name "a" ∷
    on 3 kind.OpenBracket "[" ∷ on 3 kind.Number "2" ∷ on 3 kind.CloseBracket "]" ∷ on 3 kind.Semicolon ";" ∷
    on 4 kind.Typedef "typedef" ∷ on 4 kind.Name "T" ∷ on 4 kind.OpenBrace "{" ∷ on 4 kind.Byte "byte" ∷ on 4 kind.Name "f" ∷
    on 4 kind.Semicolon ";" ∷ on 4 kind.Short "short" ∷ on 4 kind.Name "g" ∷ on 4 kind.OpenBracket "[" ∷ on 4 kind.Number "2" ∷
    on 4 kind.CloseBracket "]" ∷ on 4 kind.CloseBrace "}" ∷ on 4 kind.Semicolon ";" ∷ on 4 kind.Name "T" ∷ on 4 kind.Name "r" ∷
    on 4 kind.Semicolon ";" ∷ on 5 kind.Chan "chan" ∷ on 5 kind.Name "q0" ∷ on 5 kind.Assign "=" ∷ on 5 kind.OpenBracket "[" ∷
    on 5 kind.Number "0" ∷ on 5 kind.CloseBracket "]" ∷ on 5 kind.Of "of" ∷ on 5 kind.OpenBrace "{" ∷ on 5 kind.Short "short" ∷
    on 5 kind.Comma "," ∷ on 5 kind.Byte "byte" ∷ on 5 kind.CloseBrace "}" ∷ on 5 kind.Semicolon ";" ∷ on 6 kind.Chan "chan" ∷
    on 6 kind.Name "q1" ∷ on 6 kind.Assign "=" ∷ on 6 kind.OpenBracket "[" ∷ on 6 kind.Number "1" ∷ on 6 kind.CloseBracket "]" ∷
    on 6 kind.Of "of" ∷ on 6 kind.OpenBrace "{" ∷ on 6 kind.Byte "byte" ∷ on 6 kind.CloseBrace "}" ∷ on 6 kind.Semicolon ";" ∷
    on 7 kind.Proctype "proctype" ∷ on 7 kind.Name "P0" ∷ on 7 kind.OpenParen "(" ∷ on 7 kind.Byte "byte" ∷ on 7 kind.Name "n" ∷
    on 7 kind.CloseParen ")" ∷ on 7 kind.OpenBrace "{" ∷ on 7 kind.Byte "byte" ∷ on 7 kind.Name "k" ∷ on 7 kind.Semicolon ";" ∷
    on 7 kind.Int "int" ∷ on 7 kind.Name "v" ∷ on 7 kind.Assign "=" ∷ on 7 kind.Number "0" ∷ on 7 kind.Semicolon ";" ∷
    on 7 kind.Name "n" ∷ on 7 kind.Assign "=" ∷ on 7 kind.OpenParen "(" ∷ on 7 kind.Name "k" ∷ on 7 kind.Equal "==" ∷
    on 7 kind.Name "a" ∷ on 7 kind.OpenBracket "[" ∷ on 7 kind.Number "1" ∷ on 7 kind.CloseBracket "]" ∷ on 7 kind.Arrow "->" ∷
    on 7 kind.Name "i0" ∷ on 7 kind.Colon ":" ∷ on 7 kind.Number "1" ∷ on 7 kind.CloseParen ")" ∷ on 7 kind.Semicolon ";" ∷
    on 7 kind.Printf "printf" ∷ on 7 kind.OpenParen "(" ∷ on 7 kind.Quoted "\"P0 ends %d %d\\n\"" ∷ on 7 kind.Comma "," ∷
    on 7 kind.Name "k" ∷ on 7 kind.Comma "," ∷ on 7 kind.Name "v" ∷ on 7 kind.CloseParen ")" ∷ on 7 kind.CloseBrace "}" ∷
    on 8 kind.Proctype "proctype" ∷ on 8 kind.Name "P1" ∷ on 8 kind.OpenParen "(" ∷ on 8 kind.Byte "byte" ∷ on 8 kind.Name "n" ∷
    on 8 kind.CloseParen ")" ∷ on 8 kind.OpenBrace "{" ∷ on 8 kind.Byte "byte" ∷ on 8 kind.Name "k" ∷ on 8 kind.Semicolon ";" ∷
    on 8 kind.Short "short" ∷ on 8 kind.Name "v" ∷ on 8 kind.Assign "=" ∷ on 8 kind.Number "1" ∷ on 8 kind.Semicolon ";" ∷
    on 8 kind.DStep "d_step" ∷ on 8 kind.OpenBrace "{" ∷ on 8 kind.Name "a" ∷ on 8 kind.OpenBracket "[" ∷ on 8 kind.Number "1" ∷
    on 8 kind.CloseBracket "]" ∷ on 8 kind.Assign "=" ∷ on 8 kind.Name "a" ∷ on 8 kind.OpenBracket "[" ∷ on 8 kind.Number "0" ∷
    on 8 kind.CloseBracket "]" ∷ on 8 kind.Semicolon ";" ∷ on 8 kind.Name "r" ∷ on 8 kind.Dot "." ∷ on 8 kind.Name "g" ∷
    on 8 kind.OpenBracket "[" ∷ on 8 kind.Number "1" ∷ on 8 kind.CloseBracket "]" ∷ on 8 kind.Assign "=" ∷ on 8 kind.OpenParen "(" ∷
    on 8 kind.Name "v" ∷ on 8 kind.Slash "/" ∷ on 8 kind.Number "3" ∷ on 8 kind.CloseParen ")" ∷ on 8 kind.CloseBrace "}" ∷
    on 8 kind.Semicolon ";" ∷ on 8 kind.Name "t1" ∷ on 8 kind.Assign "=" ∷ on 8 kind.Number "1" ∷ on 8 kind.Semicolon ";" ∷
    on 8 kind.Printf "printf" ∷ on 8 kind.OpenParen "(" ∷ on 8 kind.Quoted "\"P1 ends %d %d\\n\"" ∷ on 8 kind.Comma "," ∷
    on 8 kind.Name "k" ∷ on 8 kind.Comma "," ∷ on 8 kind.Name "v" ∷ on 8 kind.CloseParen ")" ∷ on 8 kind.CloseBrace "}" ∷
    on 9 kind.Init "init" ∷ on 9 kind.OpenBrace "{" ∷ on 9 kind.Byte "byte" ∷ on 9 kind.Name "k" ∷ on 9 kind.Semicolon ";" ∷
    on 9 kind.Run "run" ∷ on 9 kind.Name "P0" ∷ on 9 kind.OpenParen "(" ∷ on 9 kind.Number "1" ∷ on 9 kind.CloseParen ")" ∷
    on 9 kind.Semicolon ";" ∷ on 9 kind.Run "run" ∷ on 9 kind.Name "P1" ∷ on 9 kind.OpenParen "(" ∷ on 9 kind.Number "0" ∷
    on 9 kind.CloseParen ")" ∷ on 9 kind.Semicolon ";" ∷ on 9 kind.Name "q0" ∷ on 9 kind.Query "?" ∷ on 9 kind.Number "2" ∷
    on 9 kind.Comma "," ∷ on 9 kind.Name "i0" ∷ on 9 kind.Semicolon ";" ∷ on 9 kind.Name "i0" ∷ on 9 kind.Assign "=" ∷
    on 9 kind.OpenParen "(" ∷ on 9 kind.Bang "!" ∷ on 9 kind.Name "a" ∷ on 9 kind.OpenBracket "[" ∷ on 9 kind.Number "0" ∷
    on 9 kind.CloseBracket "]" ∷ on 9 kind.CloseParen ")" ∷ on 9 kind.Semicolon ";" ∷ on 9 kind.If "if" ∷
    on 9 kind.DoubleColon "::" ∷ on 9 kind.Timeout "timeout" ∷ on 9 kind.Arrow "->" ∷ on 9 kind.Skip "skip" ∷
    on 9 kind.DoubleColon "::" ∷ on 9 kind.Name "_nr_pr" ∷ on 9 kind.Equal "==" ∷ on 9 kind.Number "1" ∷ on 9 kind.Arrow "->" ∷
    on 9 kind.Skip "skip" ∷ on 9 kind.Fi "fi" ∷ on 9 kind.Semicolon ";" ∷ on 9 kind.Printf "printf" ∷ on 9 kind.OpenParen "(" ∷
    on 9 kind.Quoted "\"%d %d %d %d\\n\"" ∷ on 9 kind.Comma "," ∷ on 9 kind.Name "i0" ∷ on 9 kind.Comma "," ∷ on 9 kind.Name "t1" ∷
    on 9 kind.Comma "," ∷ on 9 kind.Name "r" ∷ on 9 kind.Dot "." ∷ on 9 kind.Name "f" ∷ on 9 kind.Comma "," ∷ on 9 kind.Name "r" ∷
    on 9 kind.Dot "." ∷ on 9 kind.Name "g" ∷ on 9 kind.OpenBracket "[" ∷ on 9 kind.Number "1" ∷ on 9 kind.CloseBracket "]" ∷
    on 9 kind.CloseParen ")" ∷ on 9 kind.CloseBrace "}" ∷ []

model-spin-63 : Program
unfolding tokens-spin-63
model-spin-63 =
    let at : ℕ → Word = token_at tokens-spin-63 in
    let part : ℕ → ℕ → List Word = tokens_between tokens-spin-63 in
    record {
      globals = (slot (at 1) int false 0 1 1 (initial.Value (number 0)) ∷ slot (at 6) bit false 1 1 1 initial.Zero ∷ slot (at 9) short
          true 2 2 1 initial.Zero ∷ slot (at 28) (form.Struct 4) false 4 1 3 initial.Zero ∷ slot (at 31) chan false 7 1 1
          (initial.Channel 0 (short ∷ byte ∷ [])) ∷ slot (at 44) chan false 8 1 1 (initial.Channel 1 (byte ∷ [])) ∷ []);
      constants = [];
      typedefs = (fields 4 (slot (at 18) byte false 0 1 1 initial.Zero ∷ slot (at 21) short true 1 2 1 initial.Zero ∷ []) ∷ []);
      proctypes = (
          process (at 55) 8 0 1 (slot (at 58) byte false 0 1 1 initial.Zero ∷ slot (at 62) byte false 1 1 1 initial.Zero ∷ slot (at 65)
          int false 2 1 1 (initial.Value (number 0)) ∷ []) (
          plain (part 69 83) (assign (local 0 byte) (expr.Choice (expr.Binary op.Equal (read (local 1 byte)) (read (in_global 2 short
          (turn 0 2 1 (Some (number 1)) ∷ [])))) (read (global 0 int)) (number 1))) ∷
          plain (part 84 92) (action.Printf (at 86) ((read (local 1 byte)) ∷ (read (local 2 int)) ∷ [])) ∷ []) (at 92) ∷
          process (at 94) 9 0 1 (slot (at 97) byte false 0 1 1 initial.Zero ∷ slot (at 101) byte false 1 1 1 initial.Zero ∷ slot (at
          104) short false 2 1 1 (initial.Value (number 1)) ∷ []) (
          d_step (part 108 133) (
          plain (part 110 119) (assign (in_global 2 short (turn 0 2 1 (Some (number 1)) ∷ [])) (read (in_global 2 short (turn 0 2 1
          (Some (number 0)) ∷ [])))) ∷
          plain (part 120 132) (assign (in_global 3 short (turn 0 1 3 None ∷ turn 1 2 1 (Some (number 1)) ∷ [])) (expr.Binary op.Divide
          (read (local 2 short)) (number 3))) ∷ []) ∷
          plain (part 134 137) (assign (global 1 bit) (number 1)) ∷
          plain (part 138 146) (action.Printf (at 140) ((read (local 1 byte)) ∷ (read (local 2 short)) ∷ [])) ∷ []) (at 146) ∷
          process (at 147) 10 1 0 (slot (at 150) byte false 0 1 1 initial.Zero ∷ []) (
          plain (part 152 157) (action.Run (run 0 ((number 1) ∷ []))) ∷
          plain (part 158 163) (action.Run (run 1 ((number 0) ∷ []))) ∷
          plain (part 164 169) (action.Receive (global 4 chan) First Remove (want.Exactly (pos 2) ∷ want.Into (global 0 int) ∷ [])) ∷
          plain (part 170 179) (assign (global 0 int) (expr.Unary before.Not (read (in_global 2 short (turn 0 2 1 (Some (number 0)) ∷ []))))) ∷
          if_fi (part 180 192) (
          (plain (part 182 183) (holds expr.Timeout) ∷
          plain (part 184 185) (holds (number 1)) ∷ []) ∷
          (plain (part 186 189) (holds (expr.Binary op.Equal expr.ProcessCount (number 1))) ∷
          plain (part 190 191) (holds (number 1)) ∷ []) ∷ []) ∷
          plain (part 193 212) (action.Printf (at 195) ((read (global 0 int)) ∷ (read (global 1 bit)) ∷ (read (in_global 3 byte (turn 0
          1 3 None ∷ turn 0 1 1 None ∷ []))) ∷ (read (in_global 3 short (turn 0 1 3 None ∷ turn 1 2 1 (Some (number 1)) ∷ []))) ∷ []))
          ∷ []) (at 212) ∷ []);
    }

prints-spin-63 : printed model-spin-63 9 (2 ∷ 1 ∷ 2 ∷ 1 ∷ [])
    ≡ Some (shown (text (
    "P0 ends 0 0\n" ∷
    "P1 ends 0 1\n" ∷
    [])) Invalid)
unfolding computes model-spin-63
prints-spin-63 = prints model-spin-63 9 (2 ∷ 1 ∷ 2 ∷ 1 ∷ []) _ refl

-- mtype = { red, green, blue }; mtype m = green;
-- short s0;
-- int i1 = 0;
-- chan q0 = [2] of { byte };
-- proctype P0(byte n) { byte k; int v = 2; printf("= %o\n", k); k++; i1 = _pid; printf("P0 ends %d %d\n", k, v) }
-- init { byte k; run P0(1); run P0(0); do :: i1 = ((7 == 3 -> 7 : 255) << 1); k = 1 :: q0!100 :: break od; if :: timeout -> skip ::
--     _nr_pr == 1 -> skip fi; printf("%d %d\n", s0, i1) }
tokens-spin-66 : List Word
tokens-spin-66 =
    on 1 kind.Mtype "mtype" ∷ on 1 kind.Assign "=" ∷ on 1 kind.OpenBrace "{" ∷ on 1 kind.Name "red" ∷ on 1 kind.Comma "," ∷
    on 1 kind.Name "green" ∷ on 1 kind.Comma "," ∷ on 1 kind.Name "blue" ∷ on 1 kind.CloseBrace "}" ∷ on 1 kind.Semicolon ";" ∷
    on 1 kind.Mtype "mtype" ∷ on 1 kind.Name "m" ∷ on 1 kind.Assign "=" ∷ on 1 kind.Name "green" ∷ on 1 kind.Semicolon ";" ∷
    on 2 kind.Short "short" ∷ on 2 kind.Name "s0" ∷ on 2 kind.Semicolon ";" ∷ on 3 kind.Int "int" ∷ on 3 kind.Name "i1" ∷
    on 3 kind.Assign "=" ∷ on 3 kind.Number "0" ∷ on 3 kind.Semicolon ";" ∷ on 4 kind.Chan "chan" ∷ on 4 kind.Name "q0" ∷
    on 4 kind.Assign "=" ∷ on 4 kind.OpenBracket "[" ∷ on 4 kind.Number "2" ∷ on 4 kind.CloseBracket "]" ∷ on 4 kind.Of "of" ∷
    on 4 kind.OpenBrace "{" ∷ on 4 kind.Byte "byte" ∷ on 4 kind.CloseBrace "}" ∷ on 4 kind.Semicolon ";" ∷
    on 5 kind.Proctype "proctype" ∷ on 5 kind.Name "P0" ∷ on 5 kind.OpenParen "(" ∷ on 5 kind.Byte "byte" ∷ on 5 kind.Name "n" ∷
    on 5 kind.CloseParen ")" ∷ on 5 kind.OpenBrace "{" ∷ on 5 kind.Byte "byte" ∷ on 5 kind.Name "k" ∷ on 5 kind.Semicolon ";" ∷
    on 5 kind.Int "int" ∷ on 5 kind.Name "v" ∷ on 5 kind.Assign "=" ∷ on 5 kind.Number "2" ∷ on 5 kind.Semicolon ";" ∷
    on 5 kind.Printf "printf" ∷ on 5 kind.OpenParen "(" ∷ on 5 kind.Quoted "\"= %o\\n\"" ∷ on 5 kind.Comma "," ∷ on 5 kind.Name "k" ∷
    on 5 kind.CloseParen ")" ∷ on 5 kind.Semicolon ";" ∷ on 5 kind.Name "k" ∷ on 5 kind.Increment "++" ∷ on 5 kind.Semicolon ";" ∷
    on 5 kind.Name "i1" ∷ on 5 kind.Assign "=" ∷ on 5 kind.Name "_pid" ∷ on 5 kind.Semicolon ";" ∷ on 5 kind.Printf "printf" ∷
    on 5 kind.OpenParen "(" ∷ on 5 kind.Quoted "\"P0 ends %d %d\\n\"" ∷ on 5 kind.Comma "," ∷ on 5 kind.Name "k" ∷
    on 5 kind.Comma "," ∷ on 5 kind.Name "v" ∷ on 5 kind.CloseParen ")" ∷ on 5 kind.CloseBrace "}" ∷ on 6 kind.Init "init" ∷
    on 6 kind.OpenBrace "{" ∷ on 6 kind.Byte "byte" ∷ on 6 kind.Name "k" ∷ on 6 kind.Semicolon ";" ∷ on 6 kind.Run "run" ∷
    on 6 kind.Name "P0" ∷ on 6 kind.OpenParen "(" ∷ on 6 kind.Number "1" ∷ on 6 kind.CloseParen ")" ∷ on 6 kind.Semicolon ";" ∷
    on 6 kind.Run "run" ∷ on 6 kind.Name "P0" ∷ on 6 kind.OpenParen "(" ∷ on 6 kind.Number "0" ∷ on 6 kind.CloseParen ")" ∷
    on 6 kind.Semicolon ";" ∷ on 6 kind.Do "do" ∷ on 6 kind.DoubleColon "::" ∷ on 6 kind.Name "i1" ∷ on 6 kind.Assign "=" ∷
    on 6 kind.OpenParen "(" ∷ on 6 kind.OpenParen "(" ∷ on 6 kind.Number "7" ∷ on 6 kind.Equal "==" ∷ on 6 kind.Number "3" ∷
    on 6 kind.Arrow "->" ∷ on 6 kind.Number "7" ∷ on 6 kind.Colon ":" ∷ on 6 kind.Number "255" ∷ on 6 kind.CloseParen ")" ∷
    on 6 kind.ShiftLeft "<<" ∷ on 6 kind.Number "1" ∷ on 6 kind.CloseParen ")" ∷ on 6 kind.Semicolon ";" ∷ on 6 kind.Name "k" ∷
    on 6 kind.Assign "=" ∷ on 6 kind.Number "1" ∷ on 6 kind.DoubleColon "::" ∷ on 6 kind.Name "q0" ∷ on 6 kind.Bang "!" ∷
    on 6 kind.Number "100" ∷ on 6 kind.DoubleColon "::" ∷ on 6 kind.Break "break" ∷ on 6 kind.Od "od" ∷ on 6 kind.Semicolon ";" ∷
    on 6 kind.If "if" ∷ on 6 kind.DoubleColon "::" ∷ on 6 kind.Timeout "timeout" ∷ on 6 kind.Arrow "->" ∷ on 6 kind.Skip "skip" ∷
    on 6 kind.DoubleColon "::" ∷ on 6 kind.Name "_nr_pr" ∷ on 6 kind.Equal "==" ∷ on 6 kind.Number "1" ∷ on 6 kind.Arrow "->" ∷
    on 6 kind.Skip "skip" ∷ on 6 kind.Fi "fi" ∷ on 6 kind.Semicolon ";" ∷ on 6 kind.Printf "printf" ∷ on 6 kind.OpenParen "(" ∷
    on 6 kind.Quoted "\"%d %d\\n\"" ∷ on 6 kind.Comma "," ∷ on 6 kind.Name "s0" ∷ on 6 kind.Comma "," ∷ on 6 kind.Name "i1" ∷
    on 6 kind.CloseParen ")" ∷ on 6 kind.CloseBrace "}" ∷ []

model-spin-66 : Program
unfolding tokens-spin-66
model-spin-66 =
    let at : ℕ → Word = token_at tokens-spin-66 in
    let part : ℕ → ℕ → List Word = tokens_between tokens-spin-66 in
    record {
      globals = (slot (at 11) mtype false 0 1 1 (initial.Value (number 2)) ∷ slot (at 16) short false 1 1 1 initial.Zero ∷ slot (at
          19) int false 2 1 1 (initial.Value (number 0)) ∷ slot (at 24) chan false 3 1 1 (initial.Channel 2 (byte ∷ [])) ∷ []);
      constants = ((at 7) ∷ (at 5) ∷ (at 3) ∷ []);
      typedefs = [];
      proctypes = (
          process (at 35) 6 0 1 (slot (at 38) byte false 0 1 1 initial.Zero ∷ slot (at 42) byte false 1 1 1 initial.Zero ∷ slot (at 45)
          int false 2 1 1 (initial.Value (number 2)) ∷ []) (
          plain (part 49 55) (action.Printf (at 51) ((read (local 1 byte)) ∷ [])) ∷
          plain (part 56 58) (action.Increment (local 1 byte)) ∷
          plain (part 59 62) (assign (global 2 int) expr.Pid) ∷
          plain (part 63 71) (action.Printf (at 65) ((read (local 1 byte)) ∷ (read (local 2 int)) ∷ [])) ∷ []) (at 71) ∷
          process (at 72) 7 1 0 (slot (at 75) byte false 0 1 1 initial.Zero ∷ []) (
          plain (part 77 82) (action.Run (run 0 ((number 1) ∷ []))) ∷
          plain (part 83 88) (action.Run (run 0 ((number 0) ∷ []))) ∷
          do_od (part 89 117) (
          (plain (part 91 106) (assign (global 2 int) (expr.Binary op.ShiftLeft (expr.Choice (expr.Binary op.Equal (number 7) (number
          3)) (number 7) (number 255)) (number 1))) ∷
          plain (part 107 110) (assign (local 0 byte) (number 1)) ∷ []) ∷
          (plain (part 111 114) (action.Send (global 3 chan) Fifo ((number 100) ∷ [])) ∷ []) ∷
          (stmt [] Break (part 115 116) ∷ []) ∷ []) ∷
          if_fi (part 118 130) (
          (plain (part 120 121) (holds expr.Timeout) ∷
          plain (part 122 123) (holds (number 1)) ∷ []) ∷
          (plain (part 124 127) (holds (expr.Binary op.Equal expr.ProcessCount (number 1))) ∷
          plain (part 128 129) (holds (number 1)) ∷ []) ∷ []) ∷
          plain (part 131 139) (action.Printf (at 133) ((read (global 1 short)) ∷ (read (global 2 int)) ∷ [])) ∷ []) (at 139) ∷ []);
    }

prints-spin-66 : printed model-spin-66 23 (1 ∷ 5 ∷ 2 ∷ 5 ∷ 5 ∷ 4 ∷ 4 ∷ 5 ∷ 1 ∷ 3 ∷ 1 ∷ 1 ∷ 2 ∷ 2 ∷ 1 ∷ 4 ∷ 2 ∷ 2 ∷ [])
    ≡ Some (shown (text (
    "= 0\n" ∷
    "= 0\n" ∷
    "P0 ends 1 2\n" ∷
    "P0 ends 1 2\n" ∷
    "0 1\n" ∷
    [])) Valid)
unfolding computes model-spin-66
prints-spin-66 = prints model-spin-66 23 (1 ∷ 5 ∷ 2 ∷ 5 ∷ 5 ∷ 4 ∷ 4 ∷ 5 ∷ 1 ∷ 3 ∷ 1 ∷ 1 ∷ 2 ∷ 2 ∷ 1 ∷ 4 ∷ 2 ∷ 2 ∷ []) _ refl

-- mtype = { red, green, blue }; mtype m = green;
-- bit t0 = 1;
-- bit t1;
-- typedef T { byte f; short g[2] }; T r;
-- proctype P0(byte n) { byte k; int v = 1; printf("at %d\n", k); printf("= %u\n", r.g[1]); printf("P0 ends %d %d\n", k, v) }
-- init { byte k; run P0(4); do :: printf("p %u\n", t1); printf("p %u %o\n", t0, r.f) :: printf("= %d %d\n", r.g[1], t1) :: else ->
--     printf("p %u %x\n", r.f, r.g[1]) :: break od; if :: timeout -> skip :: _nr_pr == 1 -> skip fi; printf("%d %d %d %d\n", t0, t1,
--     r.f, r.g[1]) }
tokens-spin-67 : List Word
tokens-spin-67 =
    on 1 kind.Mtype "mtype" ∷ on 1 kind.Assign "=" ∷ on 1 kind.OpenBrace "{" ∷ on 1 kind.Name "red" ∷ on 1 kind.Comma "," ∷
    on 1 kind.Name "green" ∷ on 1 kind.Comma "," ∷ on 1 kind.Name "blue" ∷ on 1 kind.CloseBrace "}" ∷ on 1 kind.Semicolon ";" ∷
    on 1 kind.Mtype "mtype" ∷ on 1 kind.Name "m" ∷ on 1 kind.Assign "=" ∷ on 1 kind.Name "green" ∷ on 1 kind.Semicolon ";" ∷
    on 2 kind.Bit "bit" ∷ on 2 kind.Name "t0" ∷ on 2 kind.Assign "=" ∷ on 2 kind.Number "1" ∷ on 2 kind.Semicolon ";" ∷
    on 3 kind.Bit "bit" ∷ on 3 kind.Name "t1" ∷ on 3 kind.Semicolon ";" ∷ on 4 kind.Typedef "typedef" ∷ on 4 kind.Name "T" ∷
    on 4 kind.OpenBrace "{" ∷ on 4 kind.Byte "byte" ∷ on 4 kind.Name "f" ∷ on 4 kind.Semicolon ";" ∷ on 4 kind.Short "short" ∷
    on 4 kind.Name "g" ∷ on 4 kind.OpenBracket "[" ∷ on 4 kind.Number "2" ∷ on 4 kind.CloseBracket "]" ∷ on 4 kind.CloseBrace "}" ∷
    on 4 kind.Semicolon ";" ∷ on 4 kind.Name "T" ∷ on 4 kind.Name "r" ∷ on 4 kind.Semicolon ";" ∷ on 5 kind.Proctype "proctype" ∷
    on 5 kind.Name "P0" ∷ on 5 kind.OpenParen "(" ∷ on 5 kind.Byte "byte" ∷ on 5 kind.Name "n" ∷ on 5 kind.CloseParen ")" ∷
    on 5 kind.OpenBrace "{" ∷ on 5 kind.Byte "byte" ∷ on 5 kind.Name "k" ∷ on 5 kind.Semicolon ";" ∷ on 5 kind.Int "int" ∷
    on 5 kind.Name "v" ∷ on 5 kind.Assign "=" ∷ on 5 kind.Number "1" ∷ on 5 kind.Semicolon ";" ∷ on 5 kind.Printf "printf" ∷
    on 5 kind.OpenParen "(" ∷ on 5 kind.Quoted "\"at %d\\n\"" ∷ on 5 kind.Comma "," ∷ on 5 kind.Name "k" ∷ on 5 kind.CloseParen ")" ∷
    on 5 kind.Semicolon ";" ∷ on 5 kind.Printf "printf" ∷ on 5 kind.OpenParen "(" ∷ on 5 kind.Quoted "\"= %u\\n\"" ∷
    on 5 kind.Comma "," ∷ on 5 kind.Name "r" ∷ on 5 kind.Dot "." ∷ on 5 kind.Name "g" ∷ on 5 kind.OpenBracket "[" ∷
    on 5 kind.Number "1" ∷ on 5 kind.CloseBracket "]" ∷ on 5 kind.CloseParen ")" ∷ on 5 kind.Semicolon ";" ∷
    on 5 kind.Printf "printf" ∷ on 5 kind.OpenParen "(" ∷ on 5 kind.Quoted "\"P0 ends %d %d\\n\"" ∷ on 5 kind.Comma "," ∷
    on 5 kind.Name "k" ∷ on 5 kind.Comma "," ∷ on 5 kind.Name "v" ∷ on 5 kind.CloseParen ")" ∷ on 5 kind.CloseBrace "}" ∷
    on 6 kind.Init "init" ∷ on 6 kind.OpenBrace "{" ∷ on 6 kind.Byte "byte" ∷ on 6 kind.Name "k" ∷ on 6 kind.Semicolon ";" ∷
    on 6 kind.Run "run" ∷ on 6 kind.Name "P0" ∷ on 6 kind.OpenParen "(" ∷ on 6 kind.Number "4" ∷ on 6 kind.CloseParen ")" ∷
    on 6 kind.Semicolon ";" ∷ on 6 kind.Do "do" ∷ on 6 kind.DoubleColon "::" ∷ on 6 kind.Printf "printf" ∷ on 6 kind.OpenParen "(" ∷
    on 6 kind.Quoted "\"p %u\\n\"" ∷ on 6 kind.Comma "," ∷ on 6 kind.Name "t1" ∷ on 6 kind.CloseParen ")" ∷ on 6 kind.Semicolon ";" ∷
    on 6 kind.Printf "printf" ∷ on 6 kind.OpenParen "(" ∷ on 6 kind.Quoted "\"p %u %o\\n\"" ∷ on 6 kind.Comma "," ∷
    on 6 kind.Name "t0" ∷ on 6 kind.Comma "," ∷ on 6 kind.Name "r" ∷ on 6 kind.Dot "." ∷ on 6 kind.Name "f" ∷
    on 6 kind.CloseParen ")" ∷ on 6 kind.DoubleColon "::" ∷ on 6 kind.Printf "printf" ∷ on 6 kind.OpenParen "(" ∷
    on 6 kind.Quoted "\"= %d %d\\n\"" ∷ on 6 kind.Comma "," ∷ on 6 kind.Name "r" ∷ on 6 kind.Dot "." ∷ on 6 kind.Name "g" ∷
    on 6 kind.OpenBracket "[" ∷ on 6 kind.Number "1" ∷ on 6 kind.CloseBracket "]" ∷ on 6 kind.Comma "," ∷ on 6 kind.Name "t1" ∷
    on 6 kind.CloseParen ")" ∷ on 6 kind.DoubleColon "::" ∷ on 6 kind.Else "else" ∷ on 6 kind.Arrow "->" ∷
    on 6 kind.Printf "printf" ∷ on 6 kind.OpenParen "(" ∷ on 6 kind.Quoted "\"p %u %x\\n\"" ∷ on 6 kind.Comma "," ∷
    on 6 kind.Name "r" ∷ on 6 kind.Dot "." ∷ on 6 kind.Name "f" ∷ on 6 kind.Comma "," ∷ on 6 kind.Name "r" ∷ on 6 kind.Dot "." ∷
    on 6 kind.Name "g" ∷ on 6 kind.OpenBracket "[" ∷ on 6 kind.Number "1" ∷ on 6 kind.CloseBracket "]" ∷ on 6 kind.CloseParen ")" ∷
    on 6 kind.DoubleColon "::" ∷ on 6 kind.Break "break" ∷ on 6 kind.Od "od" ∷ on 6 kind.Semicolon ";" ∷ on 6 kind.If "if" ∷
    on 6 kind.DoubleColon "::" ∷ on 6 kind.Timeout "timeout" ∷ on 6 kind.Arrow "->" ∷ on 6 kind.Skip "skip" ∷
    on 6 kind.DoubleColon "::" ∷ on 6 kind.Name "_nr_pr" ∷ on 6 kind.Equal "==" ∷ on 6 kind.Number "1" ∷ on 6 kind.Arrow "->" ∷
    on 6 kind.Skip "skip" ∷ on 6 kind.Fi "fi" ∷ on 6 kind.Semicolon ";" ∷ on 6 kind.Printf "printf" ∷ on 6 kind.OpenParen "(" ∷
    on 6 kind.Quoted "\"%d %d %d %d\\n\"" ∷ on 6 kind.Comma "," ∷ on 6 kind.Name "t0" ∷ on 6 kind.Comma "," ∷ on 6 kind.Name "t1" ∷
    on 6 kind.Comma "," ∷ on 6 kind.Name "r" ∷ on 6 kind.Dot "." ∷ on 6 kind.Name "f" ∷ on 6 kind.Comma "," ∷ on 6 kind.Name "r" ∷
    on 6 kind.Dot "." ∷ on 6 kind.Name "g" ∷ on 6 kind.OpenBracket "[" ∷ on 6 kind.Number "1" ∷ on 6 kind.CloseBracket "]" ∷
    on 6 kind.CloseParen ")" ∷ on 6 kind.CloseBrace "}" ∷ []

model-spin-67 : Program
unfolding tokens-spin-67
model-spin-67 =
    let at : ℕ → Word = token_at tokens-spin-67 in
    let part : ℕ → ℕ → List Word = tokens_between tokens-spin-67 in
    record {
      globals = (slot (at 11) mtype false 0 1 1 (initial.Value (number 2)) ∷ slot (at 16) bit false 1 1 1 (initial.Value (number 1)) ∷
          slot (at 21) bit false 2 1 1 initial.Zero ∷ slot (at 37) (form.Struct 5) false 3 1 3 initial.Zero ∷ []);
      constants = ((at 7) ∷ (at 5) ∷ (at 3) ∷ []);
      typedefs = (fields 5 (slot (at 27) byte false 0 1 1 initial.Zero ∷ slot (at 30) short true 1 2 1 initial.Zero ∷ []) ∷ []);
      proctypes = (
          process (at 40) 7 0 1 (slot (at 43) byte false 0 1 1 initial.Zero ∷ slot (at 47) byte false 1 1 1 initial.Zero ∷ slot (at 50)
          int false 2 1 1 (initial.Value (number 1)) ∷ []) (
          plain (part 54 60) (action.Printf (at 56) ((read (local 1 byte)) ∷ [])) ∷
          plain (part 61 72) (action.Printf (at 63) ((read (in_global 3 short (turn 0 1 3 None ∷ turn 1 2 1 (Some (number 1)) ∷ []))) ∷ [])) ∷
          plain (part 73 81) (action.Printf (at 75) ((read (local 1 byte)) ∷ (read (local 2 int)) ∷ [])) ∷ []) (at 81) ∷
          process (at 82) 8 1 0 (slot (at 85) byte false 0 1 1 initial.Zero ∷ []) (
          plain (part 87 92) (action.Run (run 0 ((number 4) ∷ []))) ∷
          do_od (part 93 147) (
          (plain (part 95 101) (action.Printf (at 97) ((read (global 2 bit)) ∷ [])) ∷
          plain (part 102 112) (action.Printf (at 104) ((read (global 1 bit)) ∷ (read (in_global 3 byte (turn 0 1 3 None ∷ turn 0 1 1
          None ∷ []))) ∷ [])) ∷ []) ∷
          (plain (part 113 126) (action.Printf (at 115) ((read (in_global 3 short (turn 0 1 3 None ∷ turn 1 2 1 (Some (number 1)) ∷
          []))) ∷ (read (global 2 bit)) ∷ [])) ∷ []) ∷
          (plain (part 127 128) action.Else ∷
          plain (part 129 144) (action.Printf (at 131) ((read (in_global 3 byte (turn 0 1 3 None ∷ turn 0 1 1 None ∷ []))) ∷ (read
          (in_global 3 short (turn 0 1 3 None ∷ turn 1 2 1 (Some (number 1)) ∷ []))) ∷ [])) ∷ []) ∷
          (stmt [] Break (part 145 146) ∷ []) ∷ []) ∷
          if_fi (part 148 160) (
          (plain (part 150 151) (holds expr.Timeout) ∷
          plain (part 152 153) (holds (number 1)) ∷ []) ∷
          (plain (part 154 157) (holds (expr.Binary op.Equal expr.ProcessCount (number 1))) ∷
          plain (part 158 159) (holds (number 1)) ∷ []) ∷ []) ∷
          plain (part 161 180) (action.Printf (at 163) ((read (global 1 bit)) ∷ (read (global 2 bit)) ∷ (read (in_global 3 byte (turn 0
          1 3 None ∷ turn 0 1 1 None ∷ []))) ∷ (read (in_global 3 short (turn 0 1 3 None ∷ turn 1 2 1 (Some (number 1)) ∷ []))) ∷ []))
          ∷ []) (at 180) ∷ []);
    }

prints-spin-67 : printed model-spin-67 10 (4 ∷ 4 ∷ 4 ∷ 3 ∷ [])
    ≡ Some (shown (text (
    "at 0\n" ∷
    "= 0\n" ∷
    "P0 ends 0 1\n" ∷
    "1 0 0 0\n" ∷
    [])) Valid)
unfolding computes model-spin-67
prints-spin-67 = prints model-spin-67 10 (4 ∷ 4 ∷ 4 ∷ 3 ∷ []) _ refl

-- unsigned u0 : 3;
-- short s1 = 2;
-- int i2 = 2;
-- byte a[2];
-- chan q0 = [2] of { byte };
-- proctype P0(byte n) { byte k; byte v = 4; atomic { q0!k }; printf("P0 ends %d %d\n", k, v) }
-- init { byte k; run P0(1); i2 = 100; if :: timeout -> skip :: _nr_pr == 1 -> skip fi; printf("%d %d %d\n", u0, s1, i2) }
tokens-spin-68 : List Word
tokens-spin-68 =
    on 1 kind.Unsigned "unsigned" ∷ on 1 kind.Name "u0" ∷ on 1 kind.Colon ":" ∷ on 1 kind.Number "3" ∷ on 1 kind.Semicolon ";" ∷
    on 2 kind.Short "short" ∷ on 2 kind.Name "s1" ∷ on 2 kind.Assign "=" ∷ on 2 kind.Number "2" ∷ on 2 kind.Semicolon ";" ∷
    on 3 kind.Int "int" ∷ on 3 kind.Name "i2" ∷ on 3 kind.Assign "=" ∷ on 3 kind.Number "2" ∷ on 3 kind.Semicolon ";" ∷
    on 4 kind.Byte "byte" ∷ on 4 kind.Name "a" ∷ on 4 kind.OpenBracket "[" ∷ on 4 kind.Number "2" ∷ on 4 kind.CloseBracket "]" ∷
    on 4 kind.Semicolon ";" ∷ on 5 kind.Chan "chan" ∷ on 5 kind.Name "q0" ∷ on 5 kind.Assign "=" ∷ on 5 kind.OpenBracket "[" ∷
    on 5 kind.Number "2" ∷ on 5 kind.CloseBracket "]" ∷ on 5 kind.Of "of" ∷ on 5 kind.OpenBrace "{" ∷ on 5 kind.Byte "byte" ∷
    on 5 kind.CloseBrace "}" ∷ on 5 kind.Semicolon ";" ∷ on 6 kind.Proctype "proctype" ∷ on 6 kind.Name "P0" ∷
    on 6 kind.OpenParen "(" ∷ on 6 kind.Byte "byte" ∷ on 6 kind.Name "n" ∷ on 6 kind.CloseParen ")" ∷ on 6 kind.OpenBrace "{" ∷
    on 6 kind.Byte "byte" ∷ on 6 kind.Name "k" ∷ on 6 kind.Semicolon ";" ∷ on 6 kind.Byte "byte" ∷ on 6 kind.Name "v" ∷
    on 6 kind.Assign "=" ∷ on 6 kind.Number "4" ∷ on 6 kind.Semicolon ";" ∷ on 6 kind.Atomic "atomic" ∷ on 6 kind.OpenBrace "{" ∷
    on 6 kind.Name "q0" ∷ on 6 kind.Bang "!" ∷ on 6 kind.Name "k" ∷ on 6 kind.CloseBrace "}" ∷ on 6 kind.Semicolon ";" ∷
    on 6 kind.Printf "printf" ∷ on 6 kind.OpenParen "(" ∷ on 6 kind.Quoted "\"P0 ends %d %d\\n\"" ∷ on 6 kind.Comma "," ∷
    on 6 kind.Name "k" ∷ on 6 kind.Comma "," ∷ on 6 kind.Name "v" ∷ on 6 kind.CloseParen ")" ∷ on 6 kind.CloseBrace "}" ∷
    on 7 kind.Init "init" ∷ on 7 kind.OpenBrace "{" ∷ on 7 kind.Byte "byte" ∷ on 7 kind.Name "k" ∷ on 7 kind.Semicolon ";" ∷
    on 7 kind.Run "run" ∷ on 7 kind.Name "P0" ∷ on 7 kind.OpenParen "(" ∷ on 7 kind.Number "1" ∷ on 7 kind.CloseParen ")" ∷
    on 7 kind.Semicolon ";" ∷ on 7 kind.Name "i2" ∷ on 7 kind.Assign "=" ∷ on 7 kind.Number "100" ∷ on 7 kind.Semicolon ";" ∷
    on 7 kind.If "if" ∷ on 7 kind.DoubleColon "::" ∷ on 7 kind.Timeout "timeout" ∷ on 7 kind.Arrow "->" ∷ on 7 kind.Skip "skip" ∷
    on 7 kind.DoubleColon "::" ∷ on 7 kind.Name "_nr_pr" ∷ on 7 kind.Equal "==" ∷ on 7 kind.Number "1" ∷ on 7 kind.Arrow "->" ∷
    on 7 kind.Skip "skip" ∷ on 7 kind.Fi "fi" ∷ on 7 kind.Semicolon ";" ∷ on 7 kind.Printf "printf" ∷ on 7 kind.OpenParen "(" ∷
    on 7 kind.Quoted "\"%d %d %d\\n\"" ∷ on 7 kind.Comma "," ∷ on 7 kind.Name "u0" ∷ on 7 kind.Comma "," ∷ on 7 kind.Name "s1" ∷
    on 7 kind.Comma "," ∷ on 7 kind.Name "i2" ∷ on 7 kind.CloseParen ")" ∷ on 7 kind.CloseBrace "}" ∷ []

model-spin-68 : Program
unfolding tokens-spin-68
model-spin-68 =
    let at : ℕ → Word = token_at tokens-spin-68 in
    let part : ℕ → ℕ → List Word = tokens_between tokens-spin-68 in
    record {
      globals = (slot (at 1) (form.Unsigned 3) false 0 1 1 initial.Zero ∷ slot (at 6) short false 1 1 1 (initial.Value (number 2)) ∷
          slot (at 11) int false 2 1 1 (initial.Value (number 2)) ∷ slot (at 16) byte true 3 2 1 initial.Zero ∷ slot (at 22) chan false
          5 1 1 (initial.Channel 2 (byte ∷ [])) ∷ []);
      constants = [];
      typedefs = [];
      proctypes = (
          process (at 33) 6 0 1 (slot (at 36) byte false 0 1 1 initial.Zero ∷ slot (at 40) byte false 1 1 1 initial.Zero ∷ slot (at 43)
          byte false 2 1 1 (initial.Value (number 4)) ∷ []) (
          atomic (part 47 53) (
          plain (part 49 52) (action.Send (global 4 chan) Fifo ((read (local 1 byte)) ∷ [])) ∷ []) ∷
          plain (part 54 62) (action.Printf (at 56) ((read (local 1 byte)) ∷ (read (local 2 byte)) ∷ [])) ∷ []) (at 62) ∷
          process (at 63) 7 1 0 (slot (at 66) byte false 0 1 1 initial.Zero ∷ []) (
          plain (part 68 73) (action.Run (run 0 ((number 1) ∷ []))) ∷
          plain (part 74 77) (assign (global 2 int) (number 100)) ∷
          if_fi (part 78 90) (
          (plain (part 80 81) (holds expr.Timeout) ∷
          plain (part 82 83) (holds (number 1)) ∷ []) ∷
          (plain (part 84 87) (holds (expr.Binary op.Equal expr.ProcessCount (number 1))) ∷
          plain (part 88 89) (holds (number 1)) ∷ []) ∷ []) ∷
          plain (part 91 101) (action.Printf (at 93) ((read (global 0 (form.Unsigned 3))) ∷ (read (global 1 short)) ∷ (read (global 2
          int)) ∷ [])) ∷ []) (at 101) ∷ []);
    }

prints-spin-68 : printed model-spin-68 9 (1 ∷ [])
    ≡ Some (shown (text (
    "P0 ends 0 4\n" ∷
    "0 2 100\n" ∷
    [])) Valid)
unfolding computes model-spin-68
prints-spin-68 = prints model-spin-68 9 (1 ∷ []) _ refl
