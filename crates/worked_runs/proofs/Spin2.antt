-- What Spin printed of random models, of runs by chance. `tools/spin-theorems` made the models and their data.
use Rattle.std.proofs.Common.{◌≡◌, ℕ, List, [], ◌∷◌, true, false, refl, Some, None}
use Rattle.std.specs.Prelude.{pos}
use Rattle.pml_token.specs.Word.{Word}
use Rattle.pml_tree.specs.declared.tree.Search.TheVariants.{First}
use Rattle.pml_tree.specs.declared.tree.Removal.TheVariants.{Remove}
use Rattle.pml_tree.specs.declared.tree.SendOrder.TheVariants.{Fifo, Sorted}
use Rattle.pml_program.specs.declared.program.Program.{Program}
use Rattle.pml_program.specs.declared.program.Basic.{Break}
use Rattle.worked_runs.proofs.Models.{on, token_at, tokens_between, bit, byte, chan, mtype, short, int, slot, fields, turn, in_global, local, global, number, read, run, assign, holds, stmt, plain, block, atomic, d_step, if_fi, do_od, process, text}
use Rattle.worked_runs.proofs.Same.{computes}
use Rattle.worked_runs.specs.Printed.{printed, Valid, Invalid}
use Rattle.worked_runs.proofs.Same.{prints}
use Rattle.worked_runs.proofs.Models.{shown}
use Rattle.pml_token.specs.declared.token.Kind.TheVariants as kind
use Rattle.pml_tree.specs.declared.tree.Infix.TheVariants as op
use Rattle.pml_tree.specs.declared.tree.Prefix.TheVariants as before
use Rattle.pml_program.specs.declared.form.Form.TheVariants as form
use Rattle.pml_program.specs.declared.expr.Expr.TheVariants as expr
use Rattle.pml_program.specs.declared.expr.Want.TheVariants as want
use Rattle.pml_program.specs.declared.program.Initial.TheVariants as initial
use Rattle.pml_program.specs.declared.program.Action.TheVariants as action

-- mtype = { red, green, blue }; mtype m = green;
-- bit t0;
-- bit t1;
-- bit t2;
-- proctype P0(byte n) { byte k; byte v = 1; t0++; printf("P0 ends %d %d\n", k, v) }
-- init { byte k; run P0(3); printf("p %x %d\n", t0, t2); do :: (7 - 1) > _nr_pr -> printf("at %u\n", t0) :: break od; if :: timeout
--     -> skip :: _nr_pr == 1 -> skip fi; printf("%d %d %d\n", t0, t1, t2) }
tokens-spin-21 : List Word
tokens-spin-21 =
    on 1 kind.Mtype "mtype" ∷ on 1 kind.Assign "=" ∷ on 1 kind.OpenBrace "{" ∷ on 1 kind.Name "red" ∷ on 1 kind.Comma "," ∷
    on 1 kind.Name "green" ∷ on 1 kind.Comma "," ∷ on 1 kind.Name "blue" ∷ on 1 kind.CloseBrace "}" ∷ on 1 kind.Semicolon ";" ∷
    on 1 kind.Mtype "mtype" ∷ on 1 kind.Name "m" ∷ on 1 kind.Assign "=" ∷ on 1 kind.Name "green" ∷ on 1 kind.Semicolon ";" ∷
    on 2 kind.Bit "bit" ∷ on 2 kind.Name "t0" ∷ on 2 kind.Semicolon ";" ∷ on 3 kind.Bit "bit" ∷ on 3 kind.Name "t1" ∷
    on 3 kind.Semicolon ";" ∷ on 4 kind.Bit "bit" ∷ on 4 kind.Name "t2" ∷ on 4 kind.Semicolon ";" ∷ on 5 kind.Proctype "proctype" ∷
    on 5 kind.Name "P0" ∷ on 5 kind.OpenParen "(" ∷ on 5 kind.Byte "byte" ∷ on 5 kind.Name "n" ∷ on 5 kind.CloseParen ")" ∷
    on 5 kind.OpenBrace "{" ∷ on 5 kind.Byte "byte" ∷ on 5 kind.Name "k" ∷ on 5 kind.Semicolon ";" ∷ on 5 kind.Byte "byte" ∷
    on 5 kind.Name "v" ∷ on 5 kind.Assign "=" ∷ on 5 kind.Number "1" ∷ on 5 kind.Semicolon ";" ∷ on 5 kind.Name "t0" ∷
    on 5 kind.Increment "++" ∷ on 5 kind.Semicolon ";" ∷ on 5 kind.Printf "printf" ∷ on 5 kind.OpenParen "(" ∷
    on 5 kind.Quoted "\"P0 ends %d %d\\n\"" ∷ on 5 kind.Comma "," ∷ on 5 kind.Name "k" ∷ on 5 kind.Comma "," ∷ on 5 kind.Name "v" ∷
    on 5 kind.CloseParen ")" ∷ on 5 kind.CloseBrace "}" ∷ on 6 kind.Init "init" ∷ on 6 kind.OpenBrace "{" ∷ on 6 kind.Byte "byte" ∷
    on 6 kind.Name "k" ∷ on 6 kind.Semicolon ";" ∷ on 6 kind.Run "run" ∷ on 6 kind.Name "P0" ∷ on 6 kind.OpenParen "(" ∷
    on 6 kind.Number "3" ∷ on 6 kind.CloseParen ")" ∷ on 6 kind.Semicolon ";" ∷ on 6 kind.Printf "printf" ∷ on 6 kind.OpenParen "(" ∷
    on 6 kind.Quoted "\"p %x %d\\n\"" ∷ on 6 kind.Comma "," ∷ on 6 kind.Name "t0" ∷ on 6 kind.Comma "," ∷ on 6 kind.Name "t2" ∷
    on 6 kind.CloseParen ")" ∷ on 6 kind.Semicolon ";" ∷ on 6 kind.Do "do" ∷ on 6 kind.DoubleColon "::" ∷ on 6 kind.OpenParen "(" ∷
    on 6 kind.Number "7" ∷ on 6 kind.Minus "-" ∷ on 6 kind.Number "1" ∷ on 6 kind.CloseParen ")" ∷ on 6 kind.Greater ">" ∷
    on 6 kind.Name "_nr_pr" ∷ on 6 kind.Arrow "->" ∷ on 6 kind.Printf "printf" ∷ on 6 kind.OpenParen "(" ∷
    on 6 kind.Quoted "\"at %u\\n\"" ∷ on 6 kind.Comma "," ∷ on 6 kind.Name "t0" ∷ on 6 kind.CloseParen ")" ∷
    on 6 kind.DoubleColon "::" ∷ on 6 kind.Break "break" ∷ on 6 kind.Od "od" ∷ on 6 kind.Semicolon ";" ∷ on 6 kind.If "if" ∷
    on 6 kind.DoubleColon "::" ∷ on 6 kind.Timeout "timeout" ∷ on 6 kind.Arrow "->" ∷ on 6 kind.Skip "skip" ∷
    on 6 kind.DoubleColon "::" ∷ on 6 kind.Name "_nr_pr" ∷ on 6 kind.Equal "==" ∷ on 6 kind.Number "1" ∷ on 6 kind.Arrow "->" ∷
    on 6 kind.Skip "skip" ∷ on 6 kind.Fi "fi" ∷ on 6 kind.Semicolon ";" ∷ on 6 kind.Printf "printf" ∷ on 6 kind.OpenParen "(" ∷
    on 6 kind.Quoted "\"%d %d %d\\n\"" ∷ on 6 kind.Comma "," ∷ on 6 kind.Name "t0" ∷ on 6 kind.Comma "," ∷ on 6 kind.Name "t1" ∷
    on 6 kind.Comma "," ∷ on 6 kind.Name "t2" ∷ on 6 kind.CloseParen ")" ∷ on 6 kind.CloseBrace "}" ∷ []

model-spin-21 : Program
unfolding tokens-spin-21
model-spin-21 =
    let at : ℕ → Word = token_at tokens-spin-21 in
    let part : ℕ → ℕ → List Word = tokens_between tokens-spin-21 in
    record {
      globals = (slot (at 11) mtype false 0 1 1 (initial.Value (number 2)) ∷ slot (at 16) bit false 1 1 1 initial.Zero ∷ slot (at 19)
          bit false 2 1 1 initial.Zero ∷ slot (at 22) bit false 3 1 1 initial.Zero ∷ []);
      constants = ((at 7) ∷ (at 5) ∷ (at 3) ∷ []);
      typedefs = [];
      proctypes = (
          process (at 25) 6 0 1 (slot (at 28) byte false 0 1 1 initial.Zero ∷ slot (at 32) byte false 1 1 1 initial.Zero ∷ slot (at 35)
          byte false 2 1 1 (initial.Value (number 1)) ∷ []) (
          plain (part 39 41) (action.Increment (global 1 bit)) ∷
          plain (part 42 50) (action.Printf (at 44) ((read (local 1 byte)) ∷ (read (local 2 byte)) ∷ [])) ∷ []) (at 50) ∷
          process (at 51) 7 1 0 (slot (at 54) byte false 0 1 1 initial.Zero ∷ []) (
          plain (part 56 61) (action.Run (run 0 ((number 3) ∷ []))) ∷
          plain (part 62 70) (action.Printf (at 64) ((read (global 1 bit)) ∷ (read (global 3 bit)) ∷ [])) ∷
          do_od (part 71 90) (
          (plain (part 73 80) (holds (expr.Binary op.Above (expr.Binary op.Minus (number 7) (number 1)) expr.ProcessCount)) ∷
          plain (part 81 87) (action.Printf (at 83) ((read (global 1 bit)) ∷ [])) ∷ []) ∷
          (stmt [] Break (part 88 89) ∷ []) ∷ []) ∷
          if_fi (part 91 103) (
          (plain (part 93 94) (holds expr.Timeout) ∷
          plain (part 95 96) (holds (number 1)) ∷ []) ∷
          (plain (part 97 100) (holds (expr.Binary op.Equal expr.ProcessCount (number 1))) ∷
          plain (part 101 102) (holds (number 1)) ∷ []) ∷ []) ∷
          plain (part 104 114) (action.Printf (at 106) ((read (global 1 bit)) ∷ (read (global 2 bit)) ∷ (read (global 3 bit)) ∷ [])) ∷
          []) (at 114) ∷ []);
    }

prints-spin-21 : printed model-spin-21 16 (2 ∷ 1 ∷ 3 ∷ 1 ∷ 1 ∷ 3 ∷ 1 ∷ 1 ∷ 2 ∷ [])
    ≡ Some (shown (text (
    "p 1 0\n" ∷
    "P0 ends 0 1\n" ∷
    "at 1\n" ∷
    "at 1\n" ∷
    "at 1\n" ∷
    "1 0 0\n" ∷
    [])) Valid)
unfolding computes model-spin-21
prints-spin-21 = prints model-spin-21 16 (2 ∷ 1 ∷ 3 ∷ 1 ∷ 1 ∷ 3 ∷ 1 ∷ 1 ∷ 2 ∷ []) _ refl

-- byte b0 = 2;
-- bit t1 = 1;
-- short a[2];
-- proctype P0(byte n) { byte k; byte v = 1; b0 = n; printf("P0 ends %d %d\n", k, v) }
-- proctype P1(byte n) { byte k; int v = 1; if :: printf("p %u %d\n", v, t1) :: else -> a[1] = k fi; printf("P1 ends %d %d\n", k, v) }
-- init { byte k; run P0(0); run P0(3); printf("at %d\n", t1); if :: timeout -> skip :: _nr_pr == 1 -> skip fi; printf("%d %d\n", b0,
--     t1) }
tokens-spin-23 : List Word
tokens-spin-23 =
    on 1 kind.Byte "byte" ∷ on 1 kind.Name "b0" ∷ on 1 kind.Assign "=" ∷ on 1 kind.Number "2" ∷ on 1 kind.Semicolon ";" ∷
    on 2 kind.Bit "bit" ∷ on 2 kind.Name "t1" ∷ on 2 kind.Assign "=" ∷ on 2 kind.Number "1" ∷ on 2 kind.Semicolon ";" ∷
    on 3 kind.Short "short" ∷ on 3 kind.Name "a" ∷ on 3 kind.OpenBracket "[" ∷ on 3 kind.Number "2" ∷ on 3 kind.CloseBracket "]" ∷
    on 3 kind.Semicolon ";" ∷ on 4 kind.Proctype "proctype" ∷ on 4 kind.Name "P0" ∷ on 4 kind.OpenParen "(" ∷ on 4 kind.Byte "byte" ∷
    on 4 kind.Name "n" ∷ on 4 kind.CloseParen ")" ∷ on 4 kind.OpenBrace "{" ∷ on 4 kind.Byte "byte" ∷ on 4 kind.Name "k" ∷
    on 4 kind.Semicolon ";" ∷ on 4 kind.Byte "byte" ∷ on 4 kind.Name "v" ∷ on 4 kind.Assign "=" ∷ on 4 kind.Number "1" ∷
    on 4 kind.Semicolon ";" ∷ on 4 kind.Name "b0" ∷ on 4 kind.Assign "=" ∷ on 4 kind.Name "n" ∷ on 4 kind.Semicolon ";" ∷
    on 4 kind.Printf "printf" ∷ on 4 kind.OpenParen "(" ∷ on 4 kind.Quoted "\"P0 ends %d %d\\n\"" ∷ on 4 kind.Comma "," ∷
    on 4 kind.Name "k" ∷ on 4 kind.Comma "," ∷ on 4 kind.Name "v" ∷ on 4 kind.CloseParen ")" ∷ on 4 kind.CloseBrace "}" ∷
    on 5 kind.Proctype "proctype" ∷ on 5 kind.Name "P1" ∷ on 5 kind.OpenParen "(" ∷ on 5 kind.Byte "byte" ∷ on 5 kind.Name "n" ∷
    on 5 kind.CloseParen ")" ∷ on 5 kind.OpenBrace "{" ∷ on 5 kind.Byte "byte" ∷ on 5 kind.Name "k" ∷ on 5 kind.Semicolon ";" ∷
    on 5 kind.Int "int" ∷ on 5 kind.Name "v" ∷ on 5 kind.Assign "=" ∷ on 5 kind.Number "1" ∷ on 5 kind.Semicolon ";" ∷
    on 5 kind.If "if" ∷ on 5 kind.DoubleColon "::" ∷ on 5 kind.Printf "printf" ∷ on 5 kind.OpenParen "(" ∷
    on 5 kind.Quoted "\"p %u %d\\n\"" ∷ on 5 kind.Comma "," ∷ on 5 kind.Name "v" ∷ on 5 kind.Comma "," ∷ on 5 kind.Name "t1" ∷
    on 5 kind.CloseParen ")" ∷ on 5 kind.DoubleColon "::" ∷ on 5 kind.Else "else" ∷ on 5 kind.Arrow "->" ∷ on 5 kind.Name "a" ∷
    on 5 kind.OpenBracket "[" ∷ on 5 kind.Number "1" ∷ on 5 kind.CloseBracket "]" ∷ on 5 kind.Assign "=" ∷ on 5 kind.Name "k" ∷
    on 5 kind.Fi "fi" ∷ on 5 kind.Semicolon ";" ∷ on 5 kind.Printf "printf" ∷ on 5 kind.OpenParen "(" ∷
    on 5 kind.Quoted "\"P1 ends %d %d\\n\"" ∷ on 5 kind.Comma "," ∷ on 5 kind.Name "k" ∷ on 5 kind.Comma "," ∷ on 5 kind.Name "v" ∷
    on 5 kind.CloseParen ")" ∷ on 5 kind.CloseBrace "}" ∷ on 6 kind.Init "init" ∷ on 6 kind.OpenBrace "{" ∷ on 6 kind.Byte "byte" ∷
    on 6 kind.Name "k" ∷ on 6 kind.Semicolon ";" ∷ on 6 kind.Run "run" ∷ on 6 kind.Name "P0" ∷ on 6 kind.OpenParen "(" ∷
    on 6 kind.Number "0" ∷ on 6 kind.CloseParen ")" ∷ on 6 kind.Semicolon ";" ∷ on 6 kind.Run "run" ∷ on 6 kind.Name "P0" ∷
    on 6 kind.OpenParen "(" ∷ on 6 kind.Number "3" ∷ on 6 kind.CloseParen ")" ∷ on 6 kind.Semicolon ";" ∷ on 6 kind.Printf "printf" ∷
    on 6 kind.OpenParen "(" ∷ on 6 kind.Quoted "\"at %d\\n\"" ∷ on 6 kind.Comma "," ∷ on 6 kind.Name "t1" ∷
    on 6 kind.CloseParen ")" ∷ on 6 kind.Semicolon ";" ∷ on 6 kind.If "if" ∷ on 6 kind.DoubleColon "::" ∷
    on 6 kind.Timeout "timeout" ∷ on 6 kind.Arrow "->" ∷ on 6 kind.Skip "skip" ∷ on 6 kind.DoubleColon "::" ∷
    on 6 kind.Name "_nr_pr" ∷ on 6 kind.Equal "==" ∷ on 6 kind.Number "1" ∷ on 6 kind.Arrow "->" ∷ on 6 kind.Skip "skip" ∷
    on 6 kind.Fi "fi" ∷ on 6 kind.Semicolon ";" ∷ on 6 kind.Printf "printf" ∷ on 6 kind.OpenParen "(" ∷
    on 6 kind.Quoted "\"%d %d\\n\"" ∷ on 6 kind.Comma "," ∷ on 6 kind.Name "b0" ∷ on 6 kind.Comma "," ∷ on 6 kind.Name "t1" ∷
    on 6 kind.CloseParen ")" ∷ on 6 kind.CloseBrace "}" ∷ []

model-spin-23 : Program
unfolding tokens-spin-23
model-spin-23 =
    let at : ℕ → Word = token_at tokens-spin-23 in
    let part : ℕ → ℕ → List Word = tokens_between tokens-spin-23 in
    record {
      globals = (slot (at 1) byte false 0 1 1 (initial.Value (number 2)) ∷ slot (at 6) bit false 1 1 1 (initial.Value (number 1)) ∷
          slot (at 11) short true 2 2 1 initial.Zero ∷ []);
      constants = [];
      typedefs = [];
      proctypes = (
          process (at 17) 4 0 1 (slot (at 20) byte false 0 1 1 initial.Zero ∷ slot (at 24) byte false 1 1 1 initial.Zero ∷ slot (at 27)
          byte false 2 1 1 (initial.Value (number 1)) ∷ []) (
          plain (part 31 34) (assign (global 0 byte) (read (local 0 byte))) ∷
          plain (part 35 43) (action.Printf (at 37) ((read (local 1 byte)) ∷ (read (local 2 byte)) ∷ [])) ∷ []) (at 43) ∷
          process (at 45) 5 0 1 (slot (at 48) byte false 0 1 1 initial.Zero ∷ slot (at 52) byte false 1 1 1 initial.Zero ∷ slot (at 55)
          int false 2 1 1 (initial.Value (number 1)) ∷ []) (
          if_fi (part 59 79) (
          (plain (part 61 69) (action.Printf (at 63) ((read (local 2 int)) ∷ (read (global 1 bit)) ∷ [])) ∷ []) ∷
          (plain (part 70 71) action.Else ∷
          plain (part 72 78) (assign (in_global 2 short (turn 0 2 1 (Some (number 1)) ∷ [])) (read (local 1 byte))) ∷ []) ∷ []) ∷
          plain (part 80 88) (action.Printf (at 82) ((read (local 1 byte)) ∷ (read (local 2 int)) ∷ [])) ∷ []) (at 88) ∷
          process (at 89) 6 1 0 (slot (at 92) byte false 0 1 1 initial.Zero ∷ []) (
          plain (part 94 99) (action.Run (run 0 ((number 0) ∷ []))) ∷
          plain (part 100 105) (action.Run (run 0 ((number 3) ∷ []))) ∷
          plain (part 106 112) (action.Printf (at 108) ((read (global 1 bit)) ∷ [])) ∷
          if_fi (part 113 125) (
          (plain (part 115 116) (holds expr.Timeout) ∷
          plain (part 117 118) (holds (number 1)) ∷ []) ∷
          (plain (part 119 122) (holds (expr.Binary op.Equal expr.ProcessCount (number 1))) ∷
          plain (part 123 124) (holds (number 1)) ∷ []) ∷ []) ∷
          plain (part 126 134) (action.Printf (at 128) ((read (global 0 byte)) ∷ (read (global 1 bit)) ∷ [])) ∷ []) (at 134) ∷ []);
    }

prints-spin-23 : printed model-spin-23 13 (2 ∷ 2 ∷ 2 ∷ 1 ∷ [])
    ≡ Some (shown (text (
    "P0 ends 0 1\n" ∷
    "at 1\n" ∷
    "P0 ends 0 1\n" ∷
    "3 1\n" ∷
    [])) Valid)
unfolding computes model-spin-23
prints-spin-23 = prints model-spin-23 13 (2 ∷ 2 ∷ 2 ∷ 1 ∷ []) _ refl

-- mtype = { red, green, blue }; mtype m = green;
-- short s0;
-- byte a[3];
-- chan q0 = [2] of { byte };
-- proctype P0(byte n) { byte k; short v = 2; if :: q0!n; do :: 2 != (255 >> 4) -> q0?_; n++ :: else -> a[(k & 1)] = 300 :: break od
--     fi; printf("P0 ends %d %d\n", k, v) }
-- proctype P1(byte n) { byte k; int v = 2; (3 <= 3); atomic { q0!a[(n & 1)] }; printf("P1 ends %d %d\n", k, v) }
-- init { byte k; run P1(0); if :: ((1 < 0 -> 1 : 2) == 1 && 3 == 3) -> printf("p %d %u\n", s0, k) :: else -> q0!!255 fi; if ::
--     timeout -> skip :: _nr_pr == 1 -> skip fi; printf("%d\n", s0) }
tokens-spin-25 : List Word
tokens-spin-25 =
    on 1 kind.Mtype "mtype" ∷ on 1 kind.Assign "=" ∷ on 1 kind.OpenBrace "{" ∷ on 1 kind.Name "red" ∷ on 1 kind.Comma "," ∷
    on 1 kind.Name "green" ∷ on 1 kind.Comma "," ∷ on 1 kind.Name "blue" ∷ on 1 kind.CloseBrace "}" ∷ on 1 kind.Semicolon ";" ∷
    on 1 kind.Mtype "mtype" ∷ on 1 kind.Name "m" ∷ on 1 kind.Assign "=" ∷ on 1 kind.Name "green" ∷ on 1 kind.Semicolon ";" ∷
    on 2 kind.Short "short" ∷ on 2 kind.Name "s0" ∷ on 2 kind.Semicolon ";" ∷ on 3 kind.Byte "byte" ∷ on 3 kind.Name "a" ∷
    on 3 kind.OpenBracket "[" ∷ on 3 kind.Number "3" ∷ on 3 kind.CloseBracket "]" ∷ on 3 kind.Semicolon ";" ∷ on 4 kind.Chan "chan" ∷
    on 4 kind.Name "q0" ∷ on 4 kind.Assign "=" ∷ on 4 kind.OpenBracket "[" ∷ on 4 kind.Number "2" ∷ on 4 kind.CloseBracket "]" ∷
    on 4 kind.Of "of" ∷ on 4 kind.OpenBrace "{" ∷ on 4 kind.Byte "byte" ∷ on 4 kind.CloseBrace "}" ∷ on 4 kind.Semicolon ";" ∷
    on 5 kind.Proctype "proctype" ∷ on 5 kind.Name "P0" ∷ on 5 kind.OpenParen "(" ∷ on 5 kind.Byte "byte" ∷ on 5 kind.Name "n" ∷
    on 5 kind.CloseParen ")" ∷ on 5 kind.OpenBrace "{" ∷ on 5 kind.Byte "byte" ∷ on 5 kind.Name "k" ∷ on 5 kind.Semicolon ";" ∷
    on 5 kind.Short "short" ∷ on 5 kind.Name "v" ∷ on 5 kind.Assign "=" ∷ on 5 kind.Number "2" ∷ on 5 kind.Semicolon ";" ∷
    on 5 kind.If "if" ∷ on 5 kind.DoubleColon "::" ∷ on 5 kind.Name "q0" ∷ on 5 kind.Bang "!" ∷ on 5 kind.Name "n" ∷
    on 5 kind.Semicolon ";" ∷ on 5 kind.Do "do" ∷ on 5 kind.DoubleColon "::" ∷ on 5 kind.Number "2" ∷ on 5 kind.Unequal "!=" ∷
    on 5 kind.OpenParen "(" ∷ on 5 kind.Number "255" ∷ on 5 kind.ShiftRight ">>" ∷ on 5 kind.Number "4" ∷ on 5 kind.CloseParen ")" ∷
    on 5 kind.Arrow "->" ∷ on 5 kind.Name "q0" ∷ on 5 kind.Query "?" ∷ on 5 kind.Name "_" ∷ on 5 kind.Semicolon ";" ∷
    on 5 kind.Name "n" ∷ on 5 kind.Increment "++" ∷ on 5 kind.DoubleColon "::" ∷ on 5 kind.Else "else" ∷ on 5 kind.Arrow "->" ∷
    on 5 kind.Name "a" ∷ on 5 kind.OpenBracket "[" ∷ on 5 kind.OpenParen "(" ∷ on 5 kind.Name "k" ∷ on 5 kind.Ampersand "&" ∷
    on 5 kind.Number "1" ∷ on 5 kind.CloseParen ")" ∷ on 5 kind.CloseBracket "]" ∷ on 5 kind.Assign "=" ∷ on 5 kind.Number "300" ∷
    on 5 kind.DoubleColon "::" ∷ on 5 kind.Break "break" ∷ on 5 kind.Od "od" ∷ on 5 kind.Fi "fi" ∷ on 5 kind.Semicolon ";" ∷
    on 5 kind.Printf "printf" ∷ on 5 kind.OpenParen "(" ∷ on 5 kind.Quoted "\"P0 ends %d %d\\n\"" ∷ on 5 kind.Comma "," ∷
    on 5 kind.Name "k" ∷ on 5 kind.Comma "," ∷ on 5 kind.Name "v" ∷ on 5 kind.CloseParen ")" ∷ on 5 kind.CloseBrace "}" ∷
    on 6 kind.Proctype "proctype" ∷ on 6 kind.Name "P1" ∷ on 6 kind.OpenParen "(" ∷ on 6 kind.Byte "byte" ∷ on 6 kind.Name "n" ∷
    on 6 kind.CloseParen ")" ∷ on 6 kind.OpenBrace "{" ∷ on 6 kind.Byte "byte" ∷ on 6 kind.Name "k" ∷ on 6 kind.Semicolon ";" ∷
    on 6 kind.Int "int" ∷ on 6 kind.Name "v" ∷ on 6 kind.Assign "=" ∷ on 6 kind.Number "2" ∷ on 6 kind.Semicolon ";" ∷
    on 6 kind.OpenParen "(" ∷ on 6 kind.Number "3" ∷ on 6 kind.AtMost "<=" ∷ on 6 kind.Number "3" ∷ on 6 kind.CloseParen ")" ∷
    on 6 kind.Semicolon ";" ∷ on 6 kind.Atomic "atomic" ∷ on 6 kind.OpenBrace "{" ∷ on 6 kind.Name "q0" ∷ on 6 kind.Bang "!" ∷
    on 6 kind.Name "a" ∷ on 6 kind.OpenBracket "[" ∷ on 6 kind.OpenParen "(" ∷ on 6 kind.Name "n" ∷ on 6 kind.Ampersand "&" ∷
    on 6 kind.Number "1" ∷ on 6 kind.CloseParen ")" ∷ on 6 kind.CloseBracket "]" ∷ on 6 kind.CloseBrace "}" ∷
    on 6 kind.Semicolon ";" ∷ on 6 kind.Printf "printf" ∷ on 6 kind.OpenParen "(" ∷ on 6 kind.Quoted "\"P1 ends %d %d\\n\"" ∷
    on 6 kind.Comma "," ∷ on 6 kind.Name "k" ∷ on 6 kind.Comma "," ∷ on 6 kind.Name "v" ∷ on 6 kind.CloseParen ")" ∷
    on 6 kind.CloseBrace "}" ∷ on 7 kind.Init "init" ∷ on 7 kind.OpenBrace "{" ∷ on 7 kind.Byte "byte" ∷ on 7 kind.Name "k" ∷
    on 7 kind.Semicolon ";" ∷ on 7 kind.Run "run" ∷ on 7 kind.Name "P1" ∷ on 7 kind.OpenParen "(" ∷ on 7 kind.Number "0" ∷
    on 7 kind.CloseParen ")" ∷ on 7 kind.Semicolon ";" ∷ on 7 kind.If "if" ∷ on 7 kind.DoubleColon "::" ∷ on 7 kind.OpenParen "(" ∷
    on 7 kind.OpenParen "(" ∷ on 7 kind.Number "1" ∷ on 7 kind.Less "<" ∷ on 7 kind.Number "0" ∷ on 7 kind.Arrow "->" ∷
    on 7 kind.Number "1" ∷ on 7 kind.Colon ":" ∷ on 7 kind.Number "2" ∷ on 7 kind.CloseParen ")" ∷ on 7 kind.Equal "==" ∷
    on 7 kind.Number "1" ∷ on 7 kind.AndAnd "&&" ∷ on 7 kind.Number "3" ∷ on 7 kind.Equal "==" ∷ on 7 kind.Number "3" ∷
    on 7 kind.CloseParen ")" ∷ on 7 kind.Arrow "->" ∷ on 7 kind.Printf "printf" ∷ on 7 kind.OpenParen "(" ∷
    on 7 kind.Quoted "\"p %d %u\\n\"" ∷ on 7 kind.Comma "," ∷ on 7 kind.Name "s0" ∷ on 7 kind.Comma "," ∷ on 7 kind.Name "k" ∷
    on 7 kind.CloseParen ")" ∷ on 7 kind.DoubleColon "::" ∷ on 7 kind.Else "else" ∷ on 7 kind.Arrow "->" ∷ on 7 kind.Name "q0" ∷
    on 7 kind.BangBang "!!" ∷ on 7 kind.Number "255" ∷ on 7 kind.Fi "fi" ∷ on 7 kind.Semicolon ";" ∷ on 7 kind.If "if" ∷
    on 7 kind.DoubleColon "::" ∷ on 7 kind.Timeout "timeout" ∷ on 7 kind.Arrow "->" ∷ on 7 kind.Skip "skip" ∷
    on 7 kind.DoubleColon "::" ∷ on 7 kind.Name "_nr_pr" ∷ on 7 kind.Equal "==" ∷ on 7 kind.Number "1" ∷ on 7 kind.Arrow "->" ∷
    on 7 kind.Skip "skip" ∷ on 7 kind.Fi "fi" ∷ on 7 kind.Semicolon ";" ∷ on 7 kind.Printf "printf" ∷ on 7 kind.OpenParen "(" ∷
    on 7 kind.Quoted "\"%d\\n\"" ∷ on 7 kind.Comma "," ∷ on 7 kind.Name "s0" ∷ on 7 kind.CloseParen ")" ∷ on 7 kind.CloseBrace "}" ∷ []

model-spin-25 : Program
unfolding tokens-spin-25
model-spin-25 =
    let at : ℕ → Word = token_at tokens-spin-25 in
    let part : ℕ → ℕ → List Word = tokens_between tokens-spin-25 in
    record {
      globals = (slot (at 11) mtype false 0 1 1 (initial.Value (number 2)) ∷ slot (at 16) short false 1 1 1 initial.Zero ∷ slot (at
          19) byte true 2 3 1 initial.Zero ∷ slot (at 25) chan false 5 1 1 (initial.Channel 2 (byte ∷ [])) ∷ []);
      constants = ((at 7) ∷ (at 5) ∷ (at 3) ∷ []);
      typedefs = [];
      proctypes = (
          process (at 36) 6 0 1 (slot (at 39) byte false 0 1 1 initial.Zero ∷ slot (at 43) byte false 1 1 1 initial.Zero ∷ slot (at 46)
          short false 2 1 1 (initial.Value (number 2)) ∷ []) (
          if_fi (part 50 89) (
          (plain (part 52 55) (action.Send (global 3 chan) Fifo ((read (local 0 byte)) ∷ [])) ∷
          do_od (part 56 88) (
          (plain (part 58 65) (holds (expr.Binary op.Unequal (number 2) (expr.Binary op.ShiftRight (number 255) (number 4)))) ∷
          plain (part 66 69) (action.Receive (global 3 chan) First Remove (want.Anything ∷ [])) ∷
          plain (part 70 72) (action.Increment (local 0 byte)) ∷ []) ∷
          (plain (part 73 74) action.Else ∷
          plain (part 75 85) (assign (in_global 2 byte (turn 0 3 1 (Some (expr.Binary op.BitAnd (read (local 1 byte)) (number 1))) ∷
          [])) (number 300)) ∷ []) ∷
          (stmt [] Break (part 86 87) ∷ []) ∷ []) ∷ []) ∷ []) ∷
          plain (part 90 98) (action.Printf (at 92) ((read (local 1 byte)) ∷ (read (local 2 short)) ∷ [])) ∷ []) (at 98) ∷
          process (at 100) 7 0 1 (slot (at 103) byte false 0 1 1 initial.Zero ∷ slot (at 107) byte false 1 1 1 initial.Zero ∷ slot (at
          110) int false 2 1 1 (initial.Value (number 2)) ∷ []) (
          plain (part 114 119) (holds (expr.Binary op.AtMost (number 3) (number 3))) ∷
          atomic (part 120 133) (
          plain (part 122 132) (action.Send (global 3 chan) Fifo ((read (in_global 2 byte (turn 0 3 1 (Some (expr.Binary op.BitAnd (read
          (local 0 byte)) (number 1))) ∷ []))) ∷ [])) ∷ []) ∷
          plain (part 134 142) (action.Printf (at 136) ((read (local 1 byte)) ∷ (read (local 2 int)) ∷ [])) ∷ []) (at 142) ∷
          process (at 143) 8 1 0 (slot (at 146) byte false 0 1 1 initial.Zero ∷ []) (
          plain (part 148 153) (action.Run (run 1 ((number 0) ∷ []))) ∷
          if_fi (part 154 189) (
          (plain (part 156 173) (holds (expr.Binary op.And (expr.Binary op.Equal (expr.Choice (expr.Binary op.Below (number 1) (number
          0)) (number 1) (number 2)) (number 1)) (expr.Binary op.Equal (number 3) (number 3)))) ∷
          plain (part 174 182) (action.Printf (at 176) ((read (global 1 short)) ∷ (read (local 0 byte)) ∷ [])) ∷ []) ∷
          (plain (part 183 184) action.Else ∷
          plain (part 185 188) (action.Send (global 3 chan) Sorted ((number 255) ∷ [])) ∷ []) ∷ []) ∷
          if_fi (part 190 202) (
          (plain (part 192 193) (holds expr.Timeout) ∷
          plain (part 194 195) (holds (number 1)) ∷ []) ∷
          (plain (part 196 199) (holds (expr.Binary op.Equal expr.ProcessCount (number 1))) ∷
          plain (part 200 201) (holds (number 1)) ∷ []) ∷ []) ∷
          plain (part 203 209) (action.Printf (at 205) ((read (global 1 short)) ∷ [])) ∷ []) (at 209) ∷ []);
    }

prints-spin-25 : printed model-spin-25 11 (2 ∷ 2 ∷ 1 ∷ 2 ∷ 1 ∷ [])
    ≡ Some (shown (text (
    "P1 ends 0 2\n" ∷
    "0\n" ∷
    [])) Valid)
unfolding computes model-spin-25
prints-spin-25 = prints model-spin-25 11 (2 ∷ 2 ∷ 1 ∷ 2 ∷ 1 ∷ []) _ refl

-- unsigned u0 : 6 = 2;
-- bit t1 = 0;
-- int a[3];
-- typedef T { byte f; short g[2] }; T r;
-- chan q0 = [2] of { byte };
-- proctype P0(byte n) { byte k; byte v = 5; a[1] = _pid; printf("= %o %o\n", n, t1); printf("= %o %o\n", n, k); printf("P0 ends %d
--     %d\n", k, v) }
-- proctype P1(byte n) { byte k; int v = 1; d_step { a[(n & 1)] = k; r.f = (2 * _pid) }; for (k : 1 .. 1) { a[0] = ((0 >= 0 -> 300 :
--     1) + 255); q0!1 }; printf("P1 ends %d %d\n", k, v) }
-- init { byte k; run P1(1); r.f = 0; if :: timeout -> skip :: _nr_pr == 1 -> skip fi; printf("%d %d %d %d\n", u0, t1, r.f, r.g[1]) }
tokens-spin-29 : List Word
tokens-spin-29 =
    on 1 kind.Unsigned "unsigned" ∷ on 1 kind.Name "u0" ∷ on 1 kind.Colon ":" ∷ on 1 kind.Number "6" ∷ on 1 kind.Assign "=" ∷
    on 1 kind.Number "2" ∷ on 1 kind.Semicolon ";" ∷ on 2 kind.Bit "bit" ∷ on 2 kind.Name "t1" ∷ on 2 kind.Assign "=" ∷
    on 2 kind.Number "0" ∷ on 2 kind.Semicolon ";" ∷ on 3 kind.Int "int" ∷ on 3 kind.Name "a" ∷ on 3 kind.OpenBracket "[" ∷
    on 3 kind.Number "3" ∷ on 3 kind.CloseBracket "]" ∷ on 3 kind.Semicolon ";" ∷ on 4 kind.Typedef "typedef" ∷ on 4 kind.Name "T" ∷
    on 4 kind.OpenBrace "{" ∷ on 4 kind.Byte "byte" ∷ on 4 kind.Name "f" ∷ on 4 kind.Semicolon ";" ∷ on 4 kind.Short "short" ∷
    on 4 kind.Name "g" ∷ on 4 kind.OpenBracket "[" ∷ on 4 kind.Number "2" ∷ on 4 kind.CloseBracket "]" ∷ on 4 kind.CloseBrace "}" ∷
    on 4 kind.Semicolon ";" ∷ on 4 kind.Name "T" ∷ on 4 kind.Name "r" ∷ on 4 kind.Semicolon ";" ∷ on 5 kind.Chan "chan" ∷
    on 5 kind.Name "q0" ∷ on 5 kind.Assign "=" ∷ on 5 kind.OpenBracket "[" ∷ on 5 kind.Number "2" ∷ on 5 kind.CloseBracket "]" ∷
    on 5 kind.Of "of" ∷ on 5 kind.OpenBrace "{" ∷ on 5 kind.Byte "byte" ∷ on 5 kind.CloseBrace "}" ∷ on 5 kind.Semicolon ";" ∷
    on 6 kind.Proctype "proctype" ∷ on 6 kind.Name "P0" ∷ on 6 kind.OpenParen "(" ∷ on 6 kind.Byte "byte" ∷ on 6 kind.Name "n" ∷
    on 6 kind.CloseParen ")" ∷ on 6 kind.OpenBrace "{" ∷ on 6 kind.Byte "byte" ∷ on 6 kind.Name "k" ∷ on 6 kind.Semicolon ";" ∷
    on 6 kind.Byte "byte" ∷ on 6 kind.Name "v" ∷ on 6 kind.Assign "=" ∷ on 6 kind.Number "5" ∷ on 6 kind.Semicolon ";" ∷
    on 6 kind.Name "a" ∷ on 6 kind.OpenBracket "[" ∷ on 6 kind.Number "1" ∷ on 6 kind.CloseBracket "]" ∷ on 6 kind.Assign "=" ∷
    on 6 kind.Name "_pid" ∷ on 6 kind.Semicolon ";" ∷ on 6 kind.Printf "printf" ∷ on 6 kind.OpenParen "(" ∷
    on 6 kind.Quoted "\"= %o %o\\n\"" ∷ on 6 kind.Comma "," ∷ on 6 kind.Name "n" ∷ on 6 kind.Comma "," ∷ on 6 kind.Name "t1" ∷
    on 6 kind.CloseParen ")" ∷ on 6 kind.Semicolon ";" ∷ on 6 kind.Printf "printf" ∷ on 6 kind.OpenParen "(" ∷
    on 6 kind.Quoted "\"= %o %o\\n\"" ∷ on 6 kind.Comma "," ∷ on 6 kind.Name "n" ∷ on 6 kind.Comma "," ∷ on 6 kind.Name "k" ∷
    on 6 kind.CloseParen ")" ∷ on 6 kind.Semicolon ";" ∷ on 6 kind.Printf "printf" ∷ on 6 kind.OpenParen "(" ∷
    on 6 kind.Quoted "\"P0 ends %d %d\\n\"" ∷ on 6 kind.Comma "," ∷ on 6 kind.Name "k" ∷ on 6 kind.Comma "," ∷ on 6 kind.Name "v" ∷
    on 6 kind.CloseParen ")" ∷ on 6 kind.CloseBrace "}" ∷ on 7 kind.Proctype "proctype" ∷ on 7 kind.Name "P1" ∷
    on 7 kind.OpenParen "(" ∷ on 7 kind.Byte "byte" ∷ on 7 kind.Name "n" ∷ on 7 kind.CloseParen ")" ∷ on 7 kind.OpenBrace "{" ∷
    on 7 kind.Byte "byte" ∷ on 7 kind.Name "k" ∷ on 7 kind.Semicolon ";" ∷ on 7 kind.Int "int" ∷ on 7 kind.Name "v" ∷
    on 7 kind.Assign "=" ∷ on 7 kind.Number "1" ∷ on 7 kind.Semicolon ";" ∷ on 7 kind.DStep "d_step" ∷ on 7 kind.OpenBrace "{" ∷
    on 7 kind.Name "a" ∷ on 7 kind.OpenBracket "[" ∷ on 7 kind.OpenParen "(" ∷ on 7 kind.Name "n" ∷ on 7 kind.Ampersand "&" ∷
    on 7 kind.Number "1" ∷ on 7 kind.CloseParen ")" ∷ on 7 kind.CloseBracket "]" ∷ on 7 kind.Assign "=" ∷ on 7 kind.Name "k" ∷
    on 7 kind.Semicolon ";" ∷ on 7 kind.Name "r" ∷ on 7 kind.Dot "." ∷ on 7 kind.Name "f" ∷ on 7 kind.Assign "=" ∷
    on 7 kind.OpenParen "(" ∷ on 7 kind.Number "2" ∷ on 7 kind.Star "*" ∷ on 7 kind.Name "_pid" ∷ on 7 kind.CloseParen ")" ∷
    on 7 kind.CloseBrace "}" ∷ on 7 kind.Semicolon ";" ∷ on 7 kind.For "for" ∷ on 7 kind.OpenParen "(" ∷ on 7 kind.Name "k" ∷
    on 7 kind.Colon ":" ∷ on 7 kind.Number "1" ∷ on 7 kind.DotDot ".." ∷ on 7 kind.Number "1" ∷ on 7 kind.CloseParen ")" ∷
    on 7 kind.OpenBrace "{" ∷ on 7 kind.Name "a" ∷ on 7 kind.OpenBracket "[" ∷ on 7 kind.Number "0" ∷ on 7 kind.CloseBracket "]" ∷
    on 7 kind.Assign "=" ∷ on 7 kind.OpenParen "(" ∷ on 7 kind.OpenParen "(" ∷ on 7 kind.Number "0" ∷ on 7 kind.AtLeast ">=" ∷
    on 7 kind.Number "0" ∷ on 7 kind.Arrow "->" ∷ on 7 kind.Number "300" ∷ on 7 kind.Colon ":" ∷ on 7 kind.Number "1" ∷
    on 7 kind.CloseParen ")" ∷ on 7 kind.Plus "+" ∷ on 7 kind.Number "255" ∷ on 7 kind.CloseParen ")" ∷ on 7 kind.Semicolon ";" ∷
    on 7 kind.Name "q0" ∷ on 7 kind.Bang "!" ∷ on 7 kind.Number "1" ∷ on 7 kind.CloseBrace "}" ∷ on 7 kind.Semicolon ";" ∷
    on 7 kind.Printf "printf" ∷ on 7 kind.OpenParen "(" ∷ on 7 kind.Quoted "\"P1 ends %d %d\\n\"" ∷ on 7 kind.Comma "," ∷
    on 7 kind.Name "k" ∷ on 7 kind.Comma "," ∷ on 7 kind.Name "v" ∷ on 7 kind.CloseParen ")" ∷ on 7 kind.CloseBrace "}" ∷
    on 8 kind.Init "init" ∷ on 8 kind.OpenBrace "{" ∷ on 8 kind.Byte "byte" ∷ on 8 kind.Name "k" ∷ on 8 kind.Semicolon ";" ∷
    on 8 kind.Run "run" ∷ on 8 kind.Name "P1" ∷ on 8 kind.OpenParen "(" ∷ on 8 kind.Number "1" ∷ on 8 kind.CloseParen ")" ∷
    on 8 kind.Semicolon ";" ∷ on 8 kind.Name "r" ∷ on 8 kind.Dot "." ∷ on 8 kind.Name "f" ∷ on 8 kind.Assign "=" ∷
    on 8 kind.Number "0" ∷ on 8 kind.Semicolon ";" ∷ on 8 kind.If "if" ∷ on 8 kind.DoubleColon "::" ∷ on 8 kind.Timeout "timeout" ∷
    on 8 kind.Arrow "->" ∷ on 8 kind.Skip "skip" ∷ on 8 kind.DoubleColon "::" ∷ on 8 kind.Name "_nr_pr" ∷ on 8 kind.Equal "==" ∷
    on 8 kind.Number "1" ∷ on 8 kind.Arrow "->" ∷ on 8 kind.Skip "skip" ∷ on 8 kind.Fi "fi" ∷ on 8 kind.Semicolon ";" ∷
    on 8 kind.Printf "printf" ∷ on 8 kind.OpenParen "(" ∷ on 8 kind.Quoted "\"%d %d %d %d\\n\"" ∷ on 8 kind.Comma "," ∷
    on 8 kind.Name "u0" ∷ on 8 kind.Comma "," ∷ on 8 kind.Name "t1" ∷ on 8 kind.Comma "," ∷ on 8 kind.Name "r" ∷ on 8 kind.Dot "." ∷
    on 8 kind.Name "f" ∷ on 8 kind.Comma "," ∷ on 8 kind.Name "r" ∷ on 8 kind.Dot "." ∷ on 8 kind.Name "g" ∷
    on 8 kind.OpenBracket "[" ∷ on 8 kind.Number "1" ∷ on 8 kind.CloseBracket "]" ∷ on 8 kind.CloseParen ")" ∷
    on 8 kind.CloseBrace "}" ∷ []

model-spin-29 : Program
unfolding tokens-spin-29
model-spin-29 =
    let at : ℕ → Word = token_at tokens-spin-29 in
    let part : ℕ → ℕ → List Word = tokens_between tokens-spin-29 in
    record {
      globals = (slot (at 1) (form.Unsigned 6) false 0 1 1 (initial.Value (number 2)) ∷ slot (at 8) bit false 1 1 1 (initial.Value
          (number 0)) ∷ slot (at 13) int true 2 3 1 initial.Zero ∷ slot (at 32) (form.Struct 4) false 5 1 3 initial.Zero ∷ slot (at 35)
          chan false 8 1 1 (initial.Channel 2 (byte ∷ [])) ∷ []);
      constants = [];
      typedefs = (fields 4 (slot (at 22) byte false 0 1 1 initial.Zero ∷ slot (at 25) short true 1 2 1 initial.Zero ∷ []) ∷ []);
      proctypes = (
          process (at 46) 7 0 1 (slot (at 49) byte false 0 1 1 initial.Zero ∷ slot (at 53) byte false 1 1 1 initial.Zero ∷ slot (at 56)
          byte false 2 1 1 (initial.Value (number 5)) ∷ []) (
          plain (part 60 66) (assign (in_global 2 int (turn 0 3 1 (Some (number 1)) ∷ [])) expr.Pid) ∷
          plain (part 67 75) (action.Printf (at 69) ((read (local 0 byte)) ∷ (read (global 1 bit)) ∷ [])) ∷
          plain (part 76 84) (action.Printf (at 78) ((read (local 0 byte)) ∷ (read (local 1 byte)) ∷ [])) ∷
          plain (part 85 93) (action.Printf (at 87) ((read (local 1 byte)) ∷ (read (local 2 byte)) ∷ [])) ∷ []) (at 93) ∷
          process (at 95) 8 0 1 (slot (at 98) byte false 0 1 1 initial.Zero ∷ slot (at 102) byte false 1 1 1 initial.Zero ∷ slot (at
          105) int false 2 1 1 (initial.Value (number 1)) ∷ []) (
          d_step (part 109 132) (
          plain (part 111 121) (assign (in_global 2 int (turn 0 3 1 (Some (expr.Binary op.BitAnd (read (local 0 byte)) (number 1))) ∷
          [])) (read (local 1 byte))) ∷
          plain (part 122 131) (assign (in_global 3 byte (turn 0 1 3 None ∷ turn 0 1 1 None ∷ [])) (expr.Binary op.Times (number 2)
          expr.Pid)) ∷ []) ∷
          block (part 133 165) (
          plain ((at 135) ∷ (on 7 kind.Assign "=") ∷ (at 137) ∷ []) (assign (local 1 byte) (number 1)) ∷
          do_od ((on 7 kind.Do "do") ∷ []) (
          (plain ((at 135) ∷ (on 7 kind.AtMost "<=") ∷ (at 139) ∷ []) (holds (expr.Binary op.AtMost (read (local 1 byte)) (number 1))) ∷
          plain (part 142 160) (assign (in_global 2 int (turn 0 3 1 (Some (number 0)) ∷ [])) (expr.Binary op.Plus (expr.Choice
          (expr.Binary op.AtLeast (number 0) (number 0)) (number 300) (number 1)) (number 255))) ∷
          plain (part 161 164) (action.Send (global 4 chan) Fifo ((number 1) ∷ [])) ∷
          plain ((at 135) ∷ (on 7 kind.Increment "++") ∷ []) (action.Increment (local 1 byte)) ∷ []) ∷
          (plain ((on 7 kind.Else "else") ∷ []) action.Else ∷
          stmt [] Break ((on 7 kind.Break "break") ∷ []) ∷ []) ∷ []) ∷ []) ∷
          plain (part 166 174) (action.Printf (at 168) ((read (local 1 byte)) ∷ (read (local 2 int)) ∷ [])) ∷ []) (at 174) ∷
          process (at 175) 9 1 0 (slot (at 178) byte false 0 1 1 initial.Zero ∷ []) (
          plain (part 180 185) (action.Run (run 1 ((number 1) ∷ []))) ∷
          plain (part 186 191) (assign (in_global 3 byte (turn 0 1 3 None ∷ turn 0 1 1 None ∷ [])) (number 0)) ∷
          if_fi (part 192 204) (
          (plain (part 194 195) (holds expr.Timeout) ∷
          plain (part 196 197) (holds (number 1)) ∷ []) ∷
          (plain (part 198 201) (holds (expr.Binary op.Equal expr.ProcessCount (number 1))) ∷
          plain (part 202 203) (holds (number 1)) ∷ []) ∷ []) ∷
          plain (part 205 224) (action.Printf (at 207) ((read (global 0 (form.Unsigned 6))) ∷ (read (global 1 bit)) ∷ (read (in_global 3
          byte (turn 0 1 3 None ∷ turn 0 1 1 None ∷ []))) ∷ (read (in_global 3 short (turn 0 1 3 None ∷ turn 1 2 1 (Some (number 1)) ∷
          []))) ∷ [])) ∷ []) (at 224) ∷ []);
    }

prints-spin-29 : printed model-spin-29 15 (2 ∷ 2 ∷ 1 ∷ [])
    ≡ Some (shown (text (
    "P1 ends 2 1\n" ∷
    "2 0 0 0\n" ∷
    [])) Valid)
unfolding computes model-spin-29
prints-spin-29 = prints model-spin-29 15 (2 ∷ 2 ∷ 1 ∷ []) _ refl

-- mtype = { red, green, blue }; mtype m = green;
-- bit t0 = 0;
-- int a[2];
-- typedef T { byte f; short g[2] }; T r;
-- proctype P0(byte n) { byte k; int v = 5; printf("= %o\n", k); a[(n & 1)] = 2; printf("at %d\n", r.f); printf("P0 ends %d %d\n", k,
--     v) }
-- init { byte k; run P0(1); printf("= %u %o\n", t0, k); atomic { a[1] = 7 }; if :: timeout -> skip :: _nr_pr == 1 -> skip fi;
--     printf("%d %d %d\n", t0, r.f, r.g[1]) }
tokens-spin-31 : List Word
tokens-spin-31 =
    on 1 kind.Mtype "mtype" ∷ on 1 kind.Assign "=" ∷ on 1 kind.OpenBrace "{" ∷ on 1 kind.Name "red" ∷ on 1 kind.Comma "," ∷
    on 1 kind.Name "green" ∷ on 1 kind.Comma "," ∷ on 1 kind.Name "blue" ∷ on 1 kind.CloseBrace "}" ∷ on 1 kind.Semicolon ";" ∷
    on 1 kind.Mtype "mtype" ∷ on 1 kind.Name "m" ∷ on 1 kind.Assign "=" ∷ on 1 kind.Name "green" ∷ on 1 kind.Semicolon ";" ∷
    on 2 kind.Bit "bit" ∷ on 2 kind.Name "t0" ∷ on 2 kind.Assign "=" ∷ on 2 kind.Number "0" ∷ on 2 kind.Semicolon ";" ∷
    on 3 kind.Int "int" ∷ on 3 kind.Name "a" ∷ on 3 kind.OpenBracket "[" ∷ on 3 kind.Number "2" ∷ on 3 kind.CloseBracket "]" ∷
    on 3 kind.Semicolon ";" ∷ on 4 kind.Typedef "typedef" ∷ on 4 kind.Name "T" ∷ on 4 kind.OpenBrace "{" ∷ on 4 kind.Byte "byte" ∷
    on 4 kind.Name "f" ∷ on 4 kind.Semicolon ";" ∷ on 4 kind.Short "short" ∷ on 4 kind.Name "g" ∷ on 4 kind.OpenBracket "[" ∷
    on 4 kind.Number "2" ∷ on 4 kind.CloseBracket "]" ∷ on 4 kind.CloseBrace "}" ∷ on 4 kind.Semicolon ";" ∷ on 4 kind.Name "T" ∷
    on 4 kind.Name "r" ∷ on 4 kind.Semicolon ";" ∷ on 5 kind.Proctype "proctype" ∷ on 5 kind.Name "P0" ∷ on 5 kind.OpenParen "(" ∷
    on 5 kind.Byte "byte" ∷ on 5 kind.Name "n" ∷ on 5 kind.CloseParen ")" ∷ on 5 kind.OpenBrace "{" ∷ on 5 kind.Byte "byte" ∷
    on 5 kind.Name "k" ∷ on 5 kind.Semicolon ";" ∷ on 5 kind.Int "int" ∷ on 5 kind.Name "v" ∷ on 5 kind.Assign "=" ∷
    on 5 kind.Number "5" ∷ on 5 kind.Semicolon ";" ∷ on 5 kind.Printf "printf" ∷ on 5 kind.OpenParen "(" ∷
    on 5 kind.Quoted "\"= %o\\n\"" ∷ on 5 kind.Comma "," ∷ on 5 kind.Name "k" ∷ on 5 kind.CloseParen ")" ∷ on 5 kind.Semicolon ";" ∷
    on 5 kind.Name "a" ∷ on 5 kind.OpenBracket "[" ∷ on 5 kind.OpenParen "(" ∷ on 5 kind.Name "n" ∷ on 5 kind.Ampersand "&" ∷
    on 5 kind.Number "1" ∷ on 5 kind.CloseParen ")" ∷ on 5 kind.CloseBracket "]" ∷ on 5 kind.Assign "=" ∷ on 5 kind.Number "2" ∷
    on 5 kind.Semicolon ";" ∷ on 5 kind.Printf "printf" ∷ on 5 kind.OpenParen "(" ∷ on 5 kind.Quoted "\"at %d\\n\"" ∷
    on 5 kind.Comma "," ∷ on 5 kind.Name "r" ∷ on 5 kind.Dot "." ∷ on 5 kind.Name "f" ∷ on 5 kind.CloseParen ")" ∷
    on 5 kind.Semicolon ";" ∷ on 5 kind.Printf "printf" ∷ on 5 kind.OpenParen "(" ∷ on 5 kind.Quoted "\"P0 ends %d %d\\n\"" ∷
    on 5 kind.Comma "," ∷ on 5 kind.Name "k" ∷ on 5 kind.Comma "," ∷ on 5 kind.Name "v" ∷ on 5 kind.CloseParen ")" ∷
    on 5 kind.CloseBrace "}" ∷ on 6 kind.Init "init" ∷ on 6 kind.OpenBrace "{" ∷ on 6 kind.Byte "byte" ∷ on 6 kind.Name "k" ∷
    on 6 kind.Semicolon ";" ∷ on 6 kind.Run "run" ∷ on 6 kind.Name "P0" ∷ on 6 kind.OpenParen "(" ∷ on 6 kind.Number "1" ∷
    on 6 kind.CloseParen ")" ∷ on 6 kind.Semicolon ";" ∷ on 6 kind.Printf "printf" ∷ on 6 kind.OpenParen "(" ∷
    on 6 kind.Quoted "\"= %u %o\\n\"" ∷ on 6 kind.Comma "," ∷ on 6 kind.Name "t0" ∷ on 6 kind.Comma "," ∷ on 6 kind.Name "k" ∷
    on 6 kind.CloseParen ")" ∷ on 6 kind.Semicolon ";" ∷ on 6 kind.Atomic "atomic" ∷ on 6 kind.OpenBrace "{" ∷ on 6 kind.Name "a" ∷
    on 6 kind.OpenBracket "[" ∷ on 6 kind.Number "1" ∷ on 6 kind.CloseBracket "]" ∷ on 6 kind.Assign "=" ∷ on 6 kind.Number "7" ∷
    on 6 kind.CloseBrace "}" ∷ on 6 kind.Semicolon ";" ∷ on 6 kind.If "if" ∷ on 6 kind.DoubleColon "::" ∷
    on 6 kind.Timeout "timeout" ∷ on 6 kind.Arrow "->" ∷ on 6 kind.Skip "skip" ∷ on 6 kind.DoubleColon "::" ∷
    on 6 kind.Name "_nr_pr" ∷ on 6 kind.Equal "==" ∷ on 6 kind.Number "1" ∷ on 6 kind.Arrow "->" ∷ on 6 kind.Skip "skip" ∷
    on 6 kind.Fi "fi" ∷ on 6 kind.Semicolon ";" ∷ on 6 kind.Printf "printf" ∷ on 6 kind.OpenParen "(" ∷
    on 6 kind.Quoted "\"%d %d %d\\n\"" ∷ on 6 kind.Comma "," ∷ on 6 kind.Name "t0" ∷ on 6 kind.Comma "," ∷ on 6 kind.Name "r" ∷
    on 6 kind.Dot "." ∷ on 6 kind.Name "f" ∷ on 6 kind.Comma "," ∷ on 6 kind.Name "r" ∷ on 6 kind.Dot "." ∷ on 6 kind.Name "g" ∷
    on 6 kind.OpenBracket "[" ∷ on 6 kind.Number "1" ∷ on 6 kind.CloseBracket "]" ∷ on 6 kind.CloseParen ")" ∷
    on 6 kind.CloseBrace "}" ∷ []

model-spin-31 : Program
unfolding tokens-spin-31
model-spin-31 =
    let at : ℕ → Word = token_at tokens-spin-31 in
    let part : ℕ → ℕ → List Word = tokens_between tokens-spin-31 in
    record {
      globals = (slot (at 11) mtype false 0 1 1 (initial.Value (number 2)) ∷ slot (at 16) bit false 1 1 1 (initial.Value (number 0)) ∷
          slot (at 21) int true 2 2 1 initial.Zero ∷ slot (at 40) (form.Struct 5) false 4 1 3 initial.Zero ∷ []);
      constants = ((at 7) ∷ (at 5) ∷ (at 3) ∷ []);
      typedefs = (fields 5 (slot (at 30) byte false 0 1 1 initial.Zero ∷ slot (at 33) short true 1 2 1 initial.Zero ∷ []) ∷ []);
      proctypes = (
          process (at 43) 7 0 1 (slot (at 46) byte false 0 1 1 initial.Zero ∷ slot (at 50) byte false 1 1 1 initial.Zero ∷ slot (at 53)
          int false 2 1 1 (initial.Value (number 5)) ∷ []) (
          plain (part 57 63) (action.Printf (at 59) ((read (local 1 byte)) ∷ [])) ∷
          plain (part 64 74) (assign (in_global 2 int (turn 0 2 1 (Some (expr.Binary op.BitAnd (read (local 0 byte)) (number 1))) ∷ []))
          (number 2)) ∷
          plain (part 75 83) (action.Printf (at 77) ((read (in_global 3 byte (turn 0 1 3 None ∷ turn 0 1 1 None ∷ []))) ∷ [])) ∷
          plain (part 84 92) (action.Printf (at 86) ((read (local 1 byte)) ∷ (read (local 2 int)) ∷ [])) ∷ []) (at 92) ∷
          process (at 93) 8 1 0 (slot (at 96) byte false 0 1 1 initial.Zero ∷ []) (
          plain (part 98 103) (action.Run (run 0 ((number 1) ∷ []))) ∷
          plain (part 104 112) (action.Printf (at 106) ((read (global 1 bit)) ∷ (read (local 0 byte)) ∷ [])) ∷
          atomic (part 113 122) (
          plain (part 115 121) (assign (in_global 2 int (turn 0 2 1 (Some (number 1)) ∷ [])) (number 7)) ∷ []) ∷
          if_fi (part 123 135) (
          (plain (part 125 126) (holds expr.Timeout) ∷
          plain (part 127 128) (holds (number 1)) ∷ []) ∷
          (plain (part 129 132) (holds (expr.Binary op.Equal expr.ProcessCount (number 1))) ∷
          plain (part 133 134) (holds (number 1)) ∷ []) ∷ []) ∷
          plain (part 136 153) (action.Printf (at 138) ((read (global 1 bit)) ∷ (read (in_global 3 byte (turn 0 1 3 None ∷ turn 0 1 1
          None ∷ []))) ∷ (read (in_global 3 short (turn 0 1 3 None ∷ turn 1 2 1 (Some (number 1)) ∷ []))) ∷ [])) ∷ []) (at 153) ∷ []);
    }

prints-spin-31 : printed model-spin-31 12 (2 ∷ 1 ∷ 1 ∷ [])
    ≡ Some (shown (text (
    "= 0\n" ∷
    "= 0 0\n" ∷
    "at 0\n" ∷
    "P0 ends 0 5\n" ∷
    "0 0 0\n" ∷
    [])) Valid)
unfolding computes model-spin-31
prints-spin-31 = prints model-spin-31 12 (2 ∷ 1 ∷ 1 ∷ []) _ refl

-- int i0;
-- int a[3];
-- typedef T { byte f; short g[2] }; T r;
-- chan q0 = [2] of { short, byte };
-- chan q1 = [0] of { int };
-- proctype P0(byte n) { byte k; byte v = 1; for (k : 1 .. 1) { printf("p %o\n", r.g[1]) }; printf("P0 ends %d %d\n", k, v) }
-- proctype P1(byte n) { byte k; short v = 2; printf("p %x\n", n); r.f--; printf("P1 ends %d %d\n", k, v) }
-- init { byte k; run P1(0); run P1(4); i0 = _nr_pr; printf("= %o\n", k); if :: timeout -> skip :: _nr_pr == 1 -> skip fi; printf("%d
--     %d %d\n", i0, r.f, r.g[1]) }
tokens-spin-35 : List Word
tokens-spin-35 =
    on 1 kind.Int "int" ∷ on 1 kind.Name "i0" ∷ on 1 kind.Semicolon ";" ∷ on 2 kind.Int "int" ∷ on 2 kind.Name "a" ∷
    on 2 kind.OpenBracket "[" ∷ on 2 kind.Number "3" ∷ on 2 kind.CloseBracket "]" ∷ on 2 kind.Semicolon ";" ∷
    on 3 kind.Typedef "typedef" ∷ on 3 kind.Name "T" ∷ on 3 kind.OpenBrace "{" ∷ on 3 kind.Byte "byte" ∷ on 3 kind.Name "f" ∷
    on 3 kind.Semicolon ";" ∷ on 3 kind.Short "short" ∷ on 3 kind.Name "g" ∷ on 3 kind.OpenBracket "[" ∷ on 3 kind.Number "2" ∷
    on 3 kind.CloseBracket "]" ∷ on 3 kind.CloseBrace "}" ∷ on 3 kind.Semicolon ";" ∷ on 3 kind.Name "T" ∷ on 3 kind.Name "r" ∷
    on 3 kind.Semicolon ";" ∷ on 4 kind.Chan "chan" ∷ on 4 kind.Name "q0" ∷ on 4 kind.Assign "=" ∷ on 4 kind.OpenBracket "[" ∷
    on 4 kind.Number "2" ∷ on 4 kind.CloseBracket "]" ∷ on 4 kind.Of "of" ∷ on 4 kind.OpenBrace "{" ∷ on 4 kind.Short "short" ∷
    on 4 kind.Comma "," ∷ on 4 kind.Byte "byte" ∷ on 4 kind.CloseBrace "}" ∷ on 4 kind.Semicolon ";" ∷ on 5 kind.Chan "chan" ∷
    on 5 kind.Name "q1" ∷ on 5 kind.Assign "=" ∷ on 5 kind.OpenBracket "[" ∷ on 5 kind.Number "0" ∷ on 5 kind.CloseBracket "]" ∷
    on 5 kind.Of "of" ∷ on 5 kind.OpenBrace "{" ∷ on 5 kind.Int "int" ∷ on 5 kind.CloseBrace "}" ∷ on 5 kind.Semicolon ";" ∷
    on 6 kind.Proctype "proctype" ∷ on 6 kind.Name "P0" ∷ on 6 kind.OpenParen "(" ∷ on 6 kind.Byte "byte" ∷ on 6 kind.Name "n" ∷
    on 6 kind.CloseParen ")" ∷ on 6 kind.OpenBrace "{" ∷ on 6 kind.Byte "byte" ∷ on 6 kind.Name "k" ∷ on 6 kind.Semicolon ";" ∷
    on 6 kind.Byte "byte" ∷ on 6 kind.Name "v" ∷ on 6 kind.Assign "=" ∷ on 6 kind.Number "1" ∷ on 6 kind.Semicolon ";" ∷
    on 6 kind.For "for" ∷ on 6 kind.OpenParen "(" ∷ on 6 kind.Name "k" ∷ on 6 kind.Colon ":" ∷ on 6 kind.Number "1" ∷
    on 6 kind.DotDot ".." ∷ on 6 kind.Number "1" ∷ on 6 kind.CloseParen ")" ∷ on 6 kind.OpenBrace "{" ∷ on 6 kind.Printf "printf" ∷
    on 6 kind.OpenParen "(" ∷ on 6 kind.Quoted "\"p %o\\n\"" ∷ on 6 kind.Comma "," ∷ on 6 kind.Name "r" ∷ on 6 kind.Dot "." ∷
    on 6 kind.Name "g" ∷ on 6 kind.OpenBracket "[" ∷ on 6 kind.Number "1" ∷ on 6 kind.CloseBracket "]" ∷ on 6 kind.CloseParen ")" ∷
    on 6 kind.CloseBrace "}" ∷ on 6 kind.Semicolon ";" ∷ on 6 kind.Printf "printf" ∷ on 6 kind.OpenParen "(" ∷
    on 6 kind.Quoted "\"P0 ends %d %d\\n\"" ∷ on 6 kind.Comma "," ∷ on 6 kind.Name "k" ∷ on 6 kind.Comma "," ∷ on 6 kind.Name "v" ∷
    on 6 kind.CloseParen ")" ∷ on 6 kind.CloseBrace "}" ∷ on 7 kind.Proctype "proctype" ∷ on 7 kind.Name "P1" ∷
    on 7 kind.OpenParen "(" ∷ on 7 kind.Byte "byte" ∷ on 7 kind.Name "n" ∷ on 7 kind.CloseParen ")" ∷ on 7 kind.OpenBrace "{" ∷
    on 7 kind.Byte "byte" ∷ on 7 kind.Name "k" ∷ on 7 kind.Semicolon ";" ∷ on 7 kind.Short "short" ∷ on 7 kind.Name "v" ∷
    on 7 kind.Assign "=" ∷ on 7 kind.Number "2" ∷ on 7 kind.Semicolon ";" ∷ on 7 kind.Printf "printf" ∷ on 7 kind.OpenParen "(" ∷
    on 7 kind.Quoted "\"p %x\\n\"" ∷ on 7 kind.Comma "," ∷ on 7 kind.Name "n" ∷ on 7 kind.CloseParen ")" ∷ on 7 kind.Semicolon ";" ∷
    on 7 kind.Name "r" ∷ on 7 kind.Dot "." ∷ on 7 kind.Name "f" ∷ on 7 kind.Decrement "--" ∷ on 7 kind.Semicolon ";" ∷
    on 7 kind.Printf "printf" ∷ on 7 kind.OpenParen "(" ∷ on 7 kind.Quoted "\"P1 ends %d %d\\n\"" ∷ on 7 kind.Comma "," ∷
    on 7 kind.Name "k" ∷ on 7 kind.Comma "," ∷ on 7 kind.Name "v" ∷ on 7 kind.CloseParen ")" ∷ on 7 kind.CloseBrace "}" ∷
    on 8 kind.Init "init" ∷ on 8 kind.OpenBrace "{" ∷ on 8 kind.Byte "byte" ∷ on 8 kind.Name "k" ∷ on 8 kind.Semicolon ";" ∷
    on 8 kind.Run "run" ∷ on 8 kind.Name "P1" ∷ on 8 kind.OpenParen "(" ∷ on 8 kind.Number "0" ∷ on 8 kind.CloseParen ")" ∷
    on 8 kind.Semicolon ";" ∷ on 8 kind.Run "run" ∷ on 8 kind.Name "P1" ∷ on 8 kind.OpenParen "(" ∷ on 8 kind.Number "4" ∷
    on 8 kind.CloseParen ")" ∷ on 8 kind.Semicolon ";" ∷ on 8 kind.Name "i0" ∷ on 8 kind.Assign "=" ∷ on 8 kind.Name "_nr_pr" ∷
    on 8 kind.Semicolon ";" ∷ on 8 kind.Printf "printf" ∷ on 8 kind.OpenParen "(" ∷ on 8 kind.Quoted "\"= %o\\n\"" ∷
    on 8 kind.Comma "," ∷ on 8 kind.Name "k" ∷ on 8 kind.CloseParen ")" ∷ on 8 kind.Semicolon ";" ∷ on 8 kind.If "if" ∷
    on 8 kind.DoubleColon "::" ∷ on 8 kind.Timeout "timeout" ∷ on 8 kind.Arrow "->" ∷ on 8 kind.Skip "skip" ∷
    on 8 kind.DoubleColon "::" ∷ on 8 kind.Name "_nr_pr" ∷ on 8 kind.Equal "==" ∷ on 8 kind.Number "1" ∷ on 8 kind.Arrow "->" ∷
    on 8 kind.Skip "skip" ∷ on 8 kind.Fi "fi" ∷ on 8 kind.Semicolon ";" ∷ on 8 kind.Printf "printf" ∷ on 8 kind.OpenParen "(" ∷
    on 8 kind.Quoted "\"%d %d %d\\n\"" ∷ on 8 kind.Comma "," ∷ on 8 kind.Name "i0" ∷ on 8 kind.Comma "," ∷ on 8 kind.Name "r" ∷
    on 8 kind.Dot "." ∷ on 8 kind.Name "f" ∷ on 8 kind.Comma "," ∷ on 8 kind.Name "r" ∷ on 8 kind.Dot "." ∷ on 8 kind.Name "g" ∷
    on 8 kind.OpenBracket "[" ∷ on 8 kind.Number "1" ∷ on 8 kind.CloseBracket "]" ∷ on 8 kind.CloseParen ")" ∷
    on 8 kind.CloseBrace "}" ∷ []

model-spin-35 : Program
unfolding tokens-spin-35
model-spin-35 =
    let at : ℕ → Word = token_at tokens-spin-35 in
    let part : ℕ → ℕ → List Word = tokens_between tokens-spin-35 in
    record {
      globals = (slot (at 1) int false 0 1 1 initial.Zero ∷ slot (at 4) int true 1 3 1 initial.Zero ∷ slot (at 23) (form.Struct 3)
          false 4 1 3 initial.Zero ∷ slot (at 26) chan false 7 1 1 (initial.Channel 2 (short ∷ byte ∷ [])) ∷ slot (at 39) chan false 8 1
          1 (initial.Channel 0 (int ∷ [])) ∷ []);
      constants = [];
      typedefs = (fields 3 (slot (at 13) byte false 0 1 1 initial.Zero ∷ slot (at 16) short true 1 2 1 initial.Zero ∷ []) ∷ []);
      proctypes = (
          process (at 50) 7 0 1 (slot (at 53) byte false 0 1 1 initial.Zero ∷ slot (at 57) byte false 1 1 1 initial.Zero ∷ slot (at 60)
          byte false 2 1 1 (initial.Value (number 1)) ∷ []) (
          block (part 64 85) (
          plain ((at 66) ∷ (on 6 kind.Assign "=") ∷ (at 68) ∷ []) (assign (local 1 byte) (number 1)) ∷
          do_od ((on 6 kind.Do "do") ∷ []) (
          (plain ((at 66) ∷ (on 6 kind.AtMost "<=") ∷ (at 70) ∷ []) (holds (expr.Binary op.AtMost (read (local 1 byte)) (number 1))) ∷
          plain (part 73 84) (action.Printf (at 75) ((read (in_global 2 short (turn 0 1 3 None ∷ turn 1 2 1 (Some (number 1)) ∷ []))) ∷ [])) ∷
          plain ((at 66) ∷ (on 6 kind.Increment "++") ∷ []) (action.Increment (local 1 byte)) ∷ []) ∷
          (plain ((on 6 kind.Else "else") ∷ []) action.Else ∷
          stmt [] Break ((on 6 kind.Break "break") ∷ []) ∷ []) ∷ []) ∷ []) ∷
          plain (part 86 94) (action.Printf (at 88) ((read (local 1 byte)) ∷ (read (local 2 byte)) ∷ [])) ∷ []) (at 94) ∷
          process (at 96) 8 0 1 (slot (at 99) byte false 0 1 1 initial.Zero ∷ slot (at 103) byte false 1 1 1 initial.Zero ∷ slot (at
          106) short false 2 1 1 (initial.Value (number 2)) ∷ []) (
          plain (part 110 116) (action.Printf (at 112) ((read (local 0 byte)) ∷ [])) ∷
          plain (part 117 121) (action.Decrement (in_global 2 byte (turn 0 1 3 None ∷ turn 0 1 1 None ∷ []))) ∷
          plain (part 122 130) (action.Printf (at 124) ((read (local 1 byte)) ∷ (read (local 2 short)) ∷ [])) ∷ []) (at 130) ∷
          process (at 131) 9 1 0 (slot (at 134) byte false 0 1 1 initial.Zero ∷ []) (
          plain (part 136 141) (action.Run (run 1 ((number 0) ∷ []))) ∷
          plain (part 142 147) (action.Run (run 1 ((number 4) ∷ []))) ∷
          plain (part 148 151) (assign (global 0 int) expr.ProcessCount) ∷
          plain (part 152 158) (action.Printf (at 154) ((read (local 0 byte)) ∷ [])) ∷
          if_fi (part 159 171) (
          (plain (part 161 162) (holds expr.Timeout) ∷
          plain (part 163 164) (holds (number 1)) ∷ []) ∷
          (plain (part 165 168) (holds (expr.Binary op.Equal expr.ProcessCount (number 1))) ∷
          plain (part 169 170) (holds (number 1)) ∷ []) ∷ []) ∷
          plain (part 172 189) (action.Printf (at 174) ((read (global 0 int)) ∷ (read (in_global 2 byte (turn 0 1 3 None ∷ turn 0 1 1
          None ∷ []))) ∷ (read (in_global 2 short (turn 0 1 3 None ∷ turn 1 2 1 (Some (number 1)) ∷ []))) ∷ [])) ∷ []) (at 189) ∷ []);
    }

prints-spin-35 : printed model-spin-35 16 (2 ∷ 1 ∷ 2 ∷ 2 ∷ 2 ∷ 2 ∷ 1 ∷ 2 ∷ 2 ∷ 1 ∷ [])
    ≡ Some (shown (text (
    "p 0\n" ∷
    "P1 ends 0 2\n" ∷
    "p 4\n" ∷
    "P1 ends 0 2\n" ∷
    "= 0\n" ∷
    "3 254 0\n" ∷
    [])) Valid)
unfolding computes model-spin-35
prints-spin-35 = prints model-spin-35 16 (2 ∷ 1 ∷ 2 ∷ 2 ∷ 2 ∷ 2 ∷ 1 ∷ 2 ∷ 2 ∷ 1 ∷ []) _ refl

-- byte b0 = 1;
-- short s1;
-- int i2;
-- int a[2];
-- proctype P0(byte n) { byte k; byte v = 4; b0 = 7; a[0] = (7 % 2); i2--; printf("P0 ends %d %d\n", k, v) }
-- init { byte k; run P0(3); printf("= %o\n", b0); if :: timeout -> skip :: _nr_pr == 1 -> skip fi; printf("%d %d %d\n", b0, s1, i2) }
tokens-spin-40 : List Word
tokens-spin-40 =
    on 1 kind.Byte "byte" ∷ on 1 kind.Name "b0" ∷ on 1 kind.Assign "=" ∷ on 1 kind.Number "1" ∷ on 1 kind.Semicolon ";" ∷
    on 2 kind.Short "short" ∷ on 2 kind.Name "s1" ∷ on 2 kind.Semicolon ";" ∷ on 3 kind.Int "int" ∷ on 3 kind.Name "i2" ∷
    on 3 kind.Semicolon ";" ∷ on 4 kind.Int "int" ∷ on 4 kind.Name "a" ∷ on 4 kind.OpenBracket "[" ∷ on 4 kind.Number "2" ∷
    on 4 kind.CloseBracket "]" ∷ on 4 kind.Semicolon ";" ∷ on 5 kind.Proctype "proctype" ∷ on 5 kind.Name "P0" ∷
    on 5 kind.OpenParen "(" ∷ on 5 kind.Byte "byte" ∷ on 5 kind.Name "n" ∷ on 5 kind.CloseParen ")" ∷ on 5 kind.OpenBrace "{" ∷
    on 5 kind.Byte "byte" ∷ on 5 kind.Name "k" ∷ on 5 kind.Semicolon ";" ∷ on 5 kind.Byte "byte" ∷ on 5 kind.Name "v" ∷
    on 5 kind.Assign "=" ∷ on 5 kind.Number "4" ∷ on 5 kind.Semicolon ";" ∷ on 5 kind.Name "b0" ∷ on 5 kind.Assign "=" ∷
    on 5 kind.Number "7" ∷ on 5 kind.Semicolon ";" ∷ on 5 kind.Name "a" ∷ on 5 kind.OpenBracket "[" ∷ on 5 kind.Number "0" ∷
    on 5 kind.CloseBracket "]" ∷ on 5 kind.Assign "=" ∷ on 5 kind.OpenParen "(" ∷ on 5 kind.Number "7" ∷ on 5 kind.Percent "%" ∷
    on 5 kind.Number "2" ∷ on 5 kind.CloseParen ")" ∷ on 5 kind.Semicolon ";" ∷ on 5 kind.Name "i2" ∷ on 5 kind.Decrement "--" ∷
    on 5 kind.Semicolon ";" ∷ on 5 kind.Printf "printf" ∷ on 5 kind.OpenParen "(" ∷ on 5 kind.Quoted "\"P0 ends %d %d\\n\"" ∷
    on 5 kind.Comma "," ∷ on 5 kind.Name "k" ∷ on 5 kind.Comma "," ∷ on 5 kind.Name "v" ∷ on 5 kind.CloseParen ")" ∷
    on 5 kind.CloseBrace "}" ∷ on 6 kind.Init "init" ∷ on 6 kind.OpenBrace "{" ∷ on 6 kind.Byte "byte" ∷ on 6 kind.Name "k" ∷
    on 6 kind.Semicolon ";" ∷ on 6 kind.Run "run" ∷ on 6 kind.Name "P0" ∷ on 6 kind.OpenParen "(" ∷ on 6 kind.Number "3" ∷
    on 6 kind.CloseParen ")" ∷ on 6 kind.Semicolon ";" ∷ on 6 kind.Printf "printf" ∷ on 6 kind.OpenParen "(" ∷
    on 6 kind.Quoted "\"= %o\\n\"" ∷ on 6 kind.Comma "," ∷ on 6 kind.Name "b0" ∷ on 6 kind.CloseParen ")" ∷ on 6 kind.Semicolon ";" ∷
    on 6 kind.If "if" ∷ on 6 kind.DoubleColon "::" ∷ on 6 kind.Timeout "timeout" ∷ on 6 kind.Arrow "->" ∷ on 6 kind.Skip "skip" ∷
    on 6 kind.DoubleColon "::" ∷ on 6 kind.Name "_nr_pr" ∷ on 6 kind.Equal "==" ∷ on 6 kind.Number "1" ∷ on 6 kind.Arrow "->" ∷
    on 6 kind.Skip "skip" ∷ on 6 kind.Fi "fi" ∷ on 6 kind.Semicolon ";" ∷ on 6 kind.Printf "printf" ∷ on 6 kind.OpenParen "(" ∷
    on 6 kind.Quoted "\"%d %d %d\\n\"" ∷ on 6 kind.Comma "," ∷ on 6 kind.Name "b0" ∷ on 6 kind.Comma "," ∷ on 6 kind.Name "s1" ∷
    on 6 kind.Comma "," ∷ on 6 kind.Name "i2" ∷ on 6 kind.CloseParen ")" ∷ on 6 kind.CloseBrace "}" ∷ []

model-spin-40 : Program
unfolding tokens-spin-40
model-spin-40 =
    let at : ℕ → Word = token_at tokens-spin-40 in
    let part : ℕ → ℕ → List Word = tokens_between tokens-spin-40 in
    record {
      globals = (slot (at 1) byte false 0 1 1 (initial.Value (number 1)) ∷ slot (at 6) short false 1 1 1 initial.Zero ∷ slot (at 9)
          int false 2 1 1 initial.Zero ∷ slot (at 12) int true 3 2 1 initial.Zero ∷ []);
      constants = [];
      typedefs = [];
      proctypes = (
          process (at 18) 5 0 1 (slot (at 21) byte false 0 1 1 initial.Zero ∷ slot (at 25) byte false 1 1 1 initial.Zero ∷ slot (at 28)
          byte false 2 1 1 (initial.Value (number 4)) ∷ []) (
          plain (part 32 35) (assign (global 0 byte) (number 7)) ∷
          plain (part 36 46) (assign (in_global 3 int (turn 0 2 1 (Some (number 0)) ∷ [])) (expr.Binary op.Remainder (number 7) (number 2))) ∷
          plain (part 47 49) (action.Decrement (global 2 int)) ∷
          plain (part 50 58) (action.Printf (at 52) ((read (local 1 byte)) ∷ (read (local 2 byte)) ∷ [])) ∷ []) (at 58) ∷
          process (at 59) 6 1 0 (slot (at 62) byte false 0 1 1 initial.Zero ∷ []) (
          plain (part 64 69) (action.Run (run 0 ((number 3) ∷ []))) ∷
          plain (part 70 76) (action.Printf (at 72) ((read (global 0 byte)) ∷ [])) ∷
          if_fi (part 77 89) (
          (plain (part 79 80) (holds expr.Timeout) ∷
          plain (part 81 82) (holds (number 1)) ∷ []) ∷
          (plain (part 83 86) (holds (expr.Binary op.Equal expr.ProcessCount (number 1))) ∷
          plain (part 87 88) (holds (number 1)) ∷ []) ∷ []) ∷
          plain (part 90 100) (action.Printf (at 92) ((read (global 0 byte)) ∷ (read (global 1 short)) ∷ (read (global 2 int)) ∷ [])) ∷
          []) (at 100) ∷ []);
    }

prints-spin-40 : printed model-spin-40 11 (1 ∷ [])
    ≡ Some (shown (text (
    "= 1\n" ∷
    "P0 ends 0 4\n" ∷
    "7 0 -1\n" ∷
    [])) Valid)
unfolding computes model-spin-40
prints-spin-40 = prints model-spin-40 11 (1 ∷ []) _ refl

-- int i0 = 1;
-- chan q0 = [2] of { byte };
-- chan q1 = [0] of { byte };
-- proctype P0(byte n) { byte k; short v = 0; n = (v <= 0 -> (-7) : 2); printf("P0 ends %d %d\n", k, v) }
-- init { byte k; run P0(0); d_step { k = (!i0); k = 3 }; atomic { printf("= %d\n", i0); q0?1; printf("p %u %d\n", i0, k) }; if ::
--     timeout -> skip :: _nr_pr == 1 -> skip fi; printf("%d\n", i0) }
tokens-spin-42 : List Word
tokens-spin-42 =
    on 1 kind.Int "int" ∷ on 1 kind.Name "i0" ∷ on 1 kind.Assign "=" ∷ on 1 kind.Number "1" ∷ on 1 kind.Semicolon ";" ∷
    on 2 kind.Chan "chan" ∷ on 2 kind.Name "q0" ∷ on 2 kind.Assign "=" ∷ on 2 kind.OpenBracket "[" ∷ on 2 kind.Number "2" ∷
    on 2 kind.CloseBracket "]" ∷ on 2 kind.Of "of" ∷ on 2 kind.OpenBrace "{" ∷ on 2 kind.Byte "byte" ∷ on 2 kind.CloseBrace "}" ∷
    on 2 kind.Semicolon ";" ∷ on 3 kind.Chan "chan" ∷ on 3 kind.Name "q1" ∷ on 3 kind.Assign "=" ∷ on 3 kind.OpenBracket "[" ∷
    on 3 kind.Number "0" ∷ on 3 kind.CloseBracket "]" ∷ on 3 kind.Of "of" ∷ on 3 kind.OpenBrace "{" ∷ on 3 kind.Byte "byte" ∷
    on 3 kind.CloseBrace "}" ∷ on 3 kind.Semicolon ";" ∷ on 4 kind.Proctype "proctype" ∷ on 4 kind.Name "P0" ∷
    on 4 kind.OpenParen "(" ∷ on 4 kind.Byte "byte" ∷ on 4 kind.Name "n" ∷ on 4 kind.CloseParen ")" ∷ on 4 kind.OpenBrace "{" ∷
    on 4 kind.Byte "byte" ∷ on 4 kind.Name "k" ∷ on 4 kind.Semicolon ";" ∷ on 4 kind.Short "short" ∷ on 4 kind.Name "v" ∷
    on 4 kind.Assign "=" ∷ on 4 kind.Number "0" ∷ on 4 kind.Semicolon ";" ∷ on 4 kind.Name "n" ∷ on 4 kind.Assign "=" ∷
    on 4 kind.OpenParen "(" ∷ on 4 kind.Name "v" ∷ on 4 kind.AtMost "<=" ∷ on 4 kind.Number "0" ∷ on 4 kind.Arrow "->" ∷
    on 4 kind.OpenParen "(" ∷ on 4 kind.Minus "-" ∷ on 4 kind.Number "7" ∷ on 4 kind.CloseParen ")" ∷ on 4 kind.Colon ":" ∷
    on 4 kind.Number "2" ∷ on 4 kind.CloseParen ")" ∷ on 4 kind.Semicolon ";" ∷ on 4 kind.Printf "printf" ∷ on 4 kind.OpenParen "(" ∷
    on 4 kind.Quoted "\"P0 ends %d %d\\n\"" ∷ on 4 kind.Comma "," ∷ on 4 kind.Name "k" ∷ on 4 kind.Comma "," ∷ on 4 kind.Name "v" ∷
    on 4 kind.CloseParen ")" ∷ on 4 kind.CloseBrace "}" ∷ on 5 kind.Init "init" ∷ on 5 kind.OpenBrace "{" ∷ on 5 kind.Byte "byte" ∷
    on 5 kind.Name "k" ∷ on 5 kind.Semicolon ";" ∷ on 5 kind.Run "run" ∷ on 5 kind.Name "P0" ∷ on 5 kind.OpenParen "(" ∷
    on 5 kind.Number "0" ∷ on 5 kind.CloseParen ")" ∷ on 5 kind.Semicolon ";" ∷ on 5 kind.DStep "d_step" ∷ on 5 kind.OpenBrace "{" ∷
    on 5 kind.Name "k" ∷ on 5 kind.Assign "=" ∷ on 5 kind.OpenParen "(" ∷ on 5 kind.Bang "!" ∷ on 5 kind.Name "i0" ∷
    on 5 kind.CloseParen ")" ∷ on 5 kind.Semicolon ";" ∷ on 5 kind.Name "k" ∷ on 5 kind.Assign "=" ∷ on 5 kind.Number "3" ∷
    on 5 kind.CloseBrace "}" ∷ on 5 kind.Semicolon ";" ∷ on 5 kind.Atomic "atomic" ∷ on 5 kind.OpenBrace "{" ∷
    on 5 kind.Printf "printf" ∷ on 5 kind.OpenParen "(" ∷ on 5 kind.Quoted "\"= %d\\n\"" ∷ on 5 kind.Comma "," ∷
    on 5 kind.Name "i0" ∷ on 5 kind.CloseParen ")" ∷ on 5 kind.Semicolon ";" ∷ on 5 kind.Name "q0" ∷ on 5 kind.Query "?" ∷
    on 5 kind.Number "1" ∷ on 5 kind.Semicolon ";" ∷ on 5 kind.Printf "printf" ∷ on 5 kind.OpenParen "(" ∷
    on 5 kind.Quoted "\"p %u %d\\n\"" ∷ on 5 kind.Comma "," ∷ on 5 kind.Name "i0" ∷ on 5 kind.Comma "," ∷ on 5 kind.Name "k" ∷
    on 5 kind.CloseParen ")" ∷ on 5 kind.CloseBrace "}" ∷ on 5 kind.Semicolon ";" ∷ on 5 kind.If "if" ∷ on 5 kind.DoubleColon "::" ∷
    on 5 kind.Timeout "timeout" ∷ on 5 kind.Arrow "->" ∷ on 5 kind.Skip "skip" ∷ on 5 kind.DoubleColon "::" ∷
    on 5 kind.Name "_nr_pr" ∷ on 5 kind.Equal "==" ∷ on 5 kind.Number "1" ∷ on 5 kind.Arrow "->" ∷ on 5 kind.Skip "skip" ∷
    on 5 kind.Fi "fi" ∷ on 5 kind.Semicolon ";" ∷ on 5 kind.Printf "printf" ∷ on 5 kind.OpenParen "(" ∷
    on 5 kind.Quoted "\"%d\\n\"" ∷ on 5 kind.Comma "," ∷ on 5 kind.Name "i0" ∷ on 5 kind.CloseParen ")" ∷ on 5 kind.CloseBrace "}" ∷ []

model-spin-42 : Program
unfolding tokens-spin-42
model-spin-42 =
    let at : ℕ → Word = token_at tokens-spin-42 in
    let part : ℕ → ℕ → List Word = tokens_between tokens-spin-42 in
    record {
      globals = (slot (at 1) int false 0 1 1 (initial.Value (number 1)) ∷ slot (at 6) chan false 1 1 1 (initial.Channel 2 (byte ∷ []))
          ∷ slot (at 17) chan false 2 1 1 (initial.Channel 0 (byte ∷ [])) ∷ []);
      constants = [];
      typedefs = [];
      proctypes = (
          process (at 28) 4 0 1 (slot (at 31) byte false 0 1 1 initial.Zero ∷ slot (at 35) byte false 1 1 1 initial.Zero ∷ slot (at 38)
          short false 2 1 1 (initial.Value (number 0)) ∷ []) (
          plain (part 42 56) (assign (local 0 byte) (expr.Choice (expr.Binary op.AtMost (read (local 2 short)) (number 0)) (expr.Unary
          before.Minus (number 7)) (number 2))) ∷
          plain (part 57 65) (action.Printf (at 59) ((read (local 1 byte)) ∷ (read (local 2 short)) ∷ [])) ∷ []) (at 65) ∷
          process (at 66) 5 1 0 (slot (at 69) byte false 0 1 1 initial.Zero ∷ []) (
          plain (part 71 76) (action.Run (run 0 ((number 0) ∷ []))) ∷
          d_step (part 77 90) (
          plain (part 79 85) (assign (local 0 byte) (expr.Unary before.Not (read (global 0 int)))) ∷
          plain (part 86 89) (assign (local 0 byte) (number 3)) ∷ []) ∷
          atomic (part 91 113) (
          plain (part 93 99) (action.Printf (at 95) ((read (global 0 int)) ∷ [])) ∷
          plain (part 100 103) (action.Receive (global 1 chan) First Remove (want.Exactly (pos 1) ∷ [])) ∷
          plain (part 104 112) (action.Printf (at 106) ((read (global 0 int)) ∷ (read (local 0 byte)) ∷ [])) ∷ []) ∷
          if_fi (part 114 126) (
          (plain (part 116 117) (holds expr.Timeout) ∷
          plain (part 118 119) (holds (number 1)) ∷ []) ∷
          (plain (part 120 123) (holds (expr.Binary op.Equal expr.ProcessCount (number 1))) ∷
          plain (part 124 125) (holds (number 1)) ∷ []) ∷ []) ∷
          plain (part 127 133) (action.Printf (at 129) ((read (global 0 int)) ∷ [])) ∷ []) (at 133) ∷ []);
    }

prints-spin-42 : printed model-spin-42 6 (1 ∷ 1 ∷ [])
    ≡ Some (shown (text (
    "= 1\n" ∷
    "P0 ends 0 0\n" ∷
    [])) Invalid)
unfolding computes model-spin-42
prints-spin-42 = prints model-spin-42 6 (1 ∷ 1 ∷ []) _ refl
