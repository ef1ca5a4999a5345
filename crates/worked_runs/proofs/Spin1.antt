-- What Spin printed of random models, of runs by chance. `tools/spin-theorems` made the models and their data.
use Rattle.std.proofs.Common.{◌≡◌, ℕ, List, [], ◌∷◌, true, false, refl, Some, None}
use Rattle.std.specs.Prelude.{pos}
use Rattle.pml_token.specs.Word.{Word}
use Rattle.pml_tree.specs.declared.tree.Search.TheVariants.{First}
use Rattle.pml_tree.specs.declared.tree.Removal.TheVariants.{Remove}
use Rattle.pml_tree.specs.declared.tree.SendOrder.TheVariants.{Fifo, Sorted}
use Rattle.pml_program.specs.declared.program.Program.{Program}
use Rattle.pml_program.specs.declared.program.Basic.{Break}
use Rattle.worked_runs.proofs.Models.{on, token_at, tokens_between, bit, byte, chan, mtype, short, int, slot, fields, turn, in_global, local, global, number, read, run, assign, holds, stmt, plain, block, atomic, d_step, if_fi, do_od, unless, process, text}
use Rattle.worked_runs.proofs.Same.{computes}
use Rattle.worked_runs.specs.Printed.{printed, Valid, Invalid}
use Rattle.worked_runs.proofs.Same.{prints}
use Rattle.worked_runs.proofs.Models.{shown}
use Rattle.pml_token.specs.declared.token.Kind.TheVariants as kind
use Rattle.pml_tree.specs.declared.tree.Infix.TheVariants as op
use Rattle.pml_tree.specs.declared.tree.Prefix.TheVariants as before
use Rattle.pml_tree.specs.declared.tree.Fill.TheVariants as fill
use Rattle.pml_program.specs.declared.form.Form.TheVariants as form
use Rattle.pml_program.specs.declared.expr.Expr.TheVariants as expr
use Rattle.pml_program.specs.declared.expr.Want.TheVariants as want
use Rattle.pml_program.specs.declared.program.Initial.TheVariants as initial
use Rattle.pml_program.specs.declared.program.Action.TheVariants as action

-- mtype = { red, green, blue }; mtype m = green;
-- bit t0 = 0;
-- int a[3];
-- proctype P0(byte n) { byte k; byte v = 5; printf("p %x\n", t0); { n = 3 } unless { ((1 <= 100 -> 1 : 3) < (3 | 3)) -> v = a[1] };
--     a[(k & 1)] = k; printf("P0 ends %d %d\n", k, v) }
-- init { byte k; run P0(3); if :: k >= t0 -> t0-- :: printf("p %x %u\n", k, t0) :: else -> k = t0 fi; if :: timeout -> skip :: _nr_pr
--     == 1 -> skip fi; printf("%d\n", t0) }
tokens-spin-4 : List Word
tokens-spin-4 =
    on 1 kind.Mtype "mtype" ∷ on 1 kind.Assign "=" ∷ on 1 kind.OpenBrace "{" ∷ on 1 kind.Name "red" ∷ on 1 kind.Comma "," ∷
    on 1 kind.Name "green" ∷ on 1 kind.Comma "," ∷ on 1 kind.Name "blue" ∷ on 1 kind.CloseBrace "}" ∷ on 1 kind.Semicolon ";" ∷
    on 1 kind.Mtype "mtype" ∷ on 1 kind.Name "m" ∷ on 1 kind.Assign "=" ∷ on 1 kind.Name "green" ∷ on 1 kind.Semicolon ";" ∷
    on 2 kind.Bit "bit" ∷ on 2 kind.Name "t0" ∷ on 2 kind.Assign "=" ∷ on 2 kind.Number "0" ∷ on 2 kind.Semicolon ";" ∷
    on 3 kind.Int "int" ∷ on 3 kind.Name "a" ∷ on 3 kind.OpenBracket "[" ∷ on 3 kind.Number "3" ∷ on 3 kind.CloseBracket "]" ∷
    on 3 kind.Semicolon ";" ∷ on 4 kind.Proctype "proctype" ∷ on 4 kind.Name "P0" ∷ on 4 kind.OpenParen "(" ∷ on 4 kind.Byte "byte" ∷
    on 4 kind.Name "n" ∷ on 4 kind.CloseParen ")" ∷ on 4 kind.OpenBrace "{" ∷ on 4 kind.Byte "byte" ∷ on 4 kind.Name "k" ∷
    on 4 kind.Semicolon ";" ∷ on 4 kind.Byte "byte" ∷ on 4 kind.Name "v" ∷ on 4 kind.Assign "=" ∷ on 4 kind.Number "5" ∷
    on 4 kind.Semicolon ";" ∷ on 4 kind.Printf "printf" ∷ on 4 kind.OpenParen "(" ∷ on 4 kind.Quoted "\"p %x\\n\"" ∷
    on 4 kind.Comma "," ∷ on 4 kind.Name "t0" ∷ on 4 kind.CloseParen ")" ∷ on 4 kind.Semicolon ";" ∷ on 4 kind.OpenBrace "{" ∷
    on 4 kind.Name "n" ∷ on 4 kind.Assign "=" ∷ on 4 kind.Number "3" ∷ on 4 kind.CloseBrace "}" ∷ on 4 kind.Unless "unless" ∷
    on 4 kind.OpenBrace "{" ∷ on 4 kind.OpenParen "(" ∷ on 4 kind.OpenParen "(" ∷ on 4 kind.Number "1" ∷ on 4 kind.AtMost "<=" ∷
    on 4 kind.Number "100" ∷ on 4 kind.Arrow "->" ∷ on 4 kind.Number "1" ∷ on 4 kind.Colon ":" ∷ on 4 kind.Number "3" ∷
    on 4 kind.CloseParen ")" ∷ on 4 kind.Less "<" ∷ on 4 kind.OpenParen "(" ∷ on 4 kind.Number "3" ∷ on 4 kind.Bar "|" ∷
    on 4 kind.Number "3" ∷ on 4 kind.CloseParen ")" ∷ on 4 kind.CloseParen ")" ∷ on 4 kind.Arrow "->" ∷ on 4 kind.Name "v" ∷
    on 4 kind.Assign "=" ∷ on 4 kind.Name "a" ∷ on 4 kind.OpenBracket "[" ∷ on 4 kind.Number "1" ∷ on 4 kind.CloseBracket "]" ∷
    on 4 kind.CloseBrace "}" ∷ on 4 kind.Semicolon ";" ∷ on 4 kind.Name "a" ∷ on 4 kind.OpenBracket "[" ∷ on 4 kind.OpenParen "(" ∷
    on 4 kind.Name "k" ∷ on 4 kind.Ampersand "&" ∷ on 4 kind.Number "1" ∷ on 4 kind.CloseParen ")" ∷ on 4 kind.CloseBracket "]" ∷
    on 4 kind.Assign "=" ∷ on 4 kind.Name "k" ∷ on 4 kind.Semicolon ";" ∷ on 4 kind.Printf "printf" ∷ on 4 kind.OpenParen "(" ∷
    on 4 kind.Quoted "\"P0 ends %d %d\\n\"" ∷ on 4 kind.Comma "," ∷ on 4 kind.Name "k" ∷ on 4 kind.Comma "," ∷ on 4 kind.Name "v" ∷
    on 4 kind.CloseParen ")" ∷ on 4 kind.CloseBrace "}" ∷ on 5 kind.Init "init" ∷ on 5 kind.OpenBrace "{" ∷ on 5 kind.Byte "byte" ∷
    on 5 kind.Name "k" ∷ on 5 kind.Semicolon ";" ∷ on 5 kind.Run "run" ∷ on 5 kind.Name "P0" ∷ on 5 kind.OpenParen "(" ∷
    on 5 kind.Number "3" ∷ on 5 kind.CloseParen ")" ∷ on 5 kind.Semicolon ";" ∷ on 5 kind.If "if" ∷ on 5 kind.DoubleColon "::" ∷
    on 5 kind.Name "k" ∷ on 5 kind.AtLeast ">=" ∷ on 5 kind.Name "t0" ∷ on 5 kind.Arrow "->" ∷ on 5 kind.Name "t0" ∷
    on 5 kind.Decrement "--" ∷ on 5 kind.DoubleColon "::" ∷ on 5 kind.Printf "printf" ∷ on 5 kind.OpenParen "(" ∷
    on 5 kind.Quoted "\"p %x %u\\n\"" ∷ on 5 kind.Comma "," ∷ on 5 kind.Name "k" ∷ on 5 kind.Comma "," ∷ on 5 kind.Name "t0" ∷
    on 5 kind.CloseParen ")" ∷ on 5 kind.DoubleColon "::" ∷ on 5 kind.Else "else" ∷ on 5 kind.Arrow "->" ∷ on 5 kind.Name "k" ∷
    on 5 kind.Assign "=" ∷ on 5 kind.Name "t0" ∷ on 5 kind.Fi "fi" ∷ on 5 kind.Semicolon ";" ∷ on 5 kind.If "if" ∷
    on 5 kind.DoubleColon "::" ∷ on 5 kind.Timeout "timeout" ∷ on 5 kind.Arrow "->" ∷ on 5 kind.Skip "skip" ∷
    on 5 kind.DoubleColon "::" ∷ on 5 kind.Name "_nr_pr" ∷ on 5 kind.Equal "==" ∷ on 5 kind.Number "1" ∷ on 5 kind.Arrow "->" ∷
    on 5 kind.Skip "skip" ∷ on 5 kind.Fi "fi" ∷ on 5 kind.Semicolon ";" ∷ on 5 kind.Printf "printf" ∷ on 5 kind.OpenParen "(" ∷
    on 5 kind.Quoted "\"%d\\n\"" ∷ on 5 kind.Comma "," ∷ on 5 kind.Name "t0" ∷ on 5 kind.CloseParen ")" ∷ on 5 kind.CloseBrace "}" ∷ []

model-spin-4 : Program
unfolding tokens-spin-4
model-spin-4 =
    let at : ℕ → Word = token_at tokens-spin-4 in
    let part : ℕ → ℕ → List Word = tokens_between tokens-spin-4 in
    record {
      globals = (slot (at 11) mtype false 0 1 1 (initial.Value (number 2)) ∷ slot (at 16) bit false 1 1 1 (initial.Value (number 0)) ∷
          slot (at 21) int true 2 3 1 initial.Zero ∷ []);
      constants = ((at 7) ∷ (at 5) ∷ (at 3) ∷ []);
      typedefs = [];
      proctypes = (
          process (at 27) 5 0 1 (slot (at 30) byte false 0 1 1 initial.Zero ∷ slot (at 34) byte false 1 1 1 initial.Zero ∷ slot (at 37)
          byte false 2 1 1 (initial.Value (number 5)) ∷ []) (
          plain (part 41 47) (action.Printf (at 43) ((read (global 1 bit)) ∷ [])) ∷
          unless (part 48 80) (
          block (part 48 53) (
          plain (part 49 52) (assign (local 0 byte) (number 3)) ∷ []) ∷ []) (
          block (part 54 80) (
          plain (part 55 72) (holds (expr.Binary op.Below (expr.Choice (expr.Binary op.AtMost (number 1) (number 100)) (number 1)
          (number 3)) (expr.Binary op.BitOr (number 3) (number 3)))) ∷
          plain (part 73 79) (assign (local 2 byte) (read (in_global 2 int (turn 0 3 1 (Some (number 1)) ∷ [])))) ∷ []) ∷ []) ∷
          plain (part 81 91) (assign (in_global 2 int (turn 0 3 1 (Some (expr.Binary op.BitAnd (read (local 1 byte)) (number 1))) ∷ []))
          (read (local 1 byte))) ∷
          plain (part 92 100) (action.Printf (at 94) ((read (local 1 byte)) ∷ (read (local 2 byte)) ∷ [])) ∷ []) (at 100) ∷
          process (at 101) 6 1 0 (slot (at 104) byte false 0 1 1 initial.Zero ∷ []) (
          plain (part 106 111) (action.Run (run 0 ((number 3) ∷ []))) ∷
          if_fi (part 112 136) (
          (plain (part 114 117) (holds (expr.Binary op.AtLeast (read (local 0 byte)) (read (global 1 bit)))) ∷
          plain (part 118 120) (action.Decrement (global 1 bit)) ∷ []) ∷
          (plain (part 121 129) (action.Printf (at 123) ((read (local 0 byte)) ∷ (read (global 1 bit)) ∷ [])) ∷ []) ∷
          (plain (part 130 131) action.Else ∷
          plain (part 132 135) (assign (local 0 byte) (read (global 1 bit))) ∷ []) ∷ []) ∷
          if_fi (part 137 149) (
          (plain (part 139 140) (holds expr.Timeout) ∷
          plain (part 141 142) (holds (number 1)) ∷ []) ∷
          (plain (part 143 146) (holds (expr.Binary op.Equal expr.ProcessCount (number 1))) ∷
          plain (part 147 148) (holds (number 1)) ∷ []) ∷ []) ∷
          plain (part 150 156) (action.Printf (at 152) ((read (global 1 bit)) ∷ [])) ∷ []) (at 156) ∷ []);
    }

prints-spin-4 : printed model-spin-4 12 (2 ∷ [])
    ≡ Some (shown (text (
    "p 0 0\n" ∷
    "p 0\n" ∷
    "P0 ends 0 0\n" ∷
    "0\n" ∷
    [])) Valid)
unfolding computes model-spin-4
prints-spin-4 = prints model-spin-4 12 (2 ∷ []) _ refl

-- int i0;
-- unsigned u1 : 2;
-- short s2;
-- typedef T { byte f; short g[2] }; T r;
-- chan q0 = [2] of { byte };
-- proctype P0(byte n) { byte k; int v = 5; k = 100; s2 = v; q0!(3 * 2); printf("P0 ends %d %d\n", k, v) }
-- init { byte k; run P0(1); printf("p %x\n", u1); r.g[1] = 7; if :: timeout -> skip :: _nr_pr == 1 -> skip fi; printf("%d %d %d %d
--     %d\n", i0, u1, s2, r.f, r.g[1]) }
tokens-spin-5 : List Word
tokens-spin-5 =
    on 1 kind.Int "int" ∷ on 1 kind.Name "i0" ∷ on 1 kind.Semicolon ";" ∷ on 2 kind.Unsigned "unsigned" ∷ on 2 kind.Name "u1" ∷
    on 2 kind.Colon ":" ∷ on 2 kind.Number "2" ∷ on 2 kind.Semicolon ";" ∷ on 3 kind.Short "short" ∷ on 3 kind.Name "s2" ∷
    on 3 kind.Semicolon ";" ∷ on 4 kind.Typedef "typedef" ∷ on 4 kind.Name "T" ∷ on 4 kind.OpenBrace "{" ∷ on 4 kind.Byte "byte" ∷
    on 4 kind.Name "f" ∷ on 4 kind.Semicolon ";" ∷ on 4 kind.Short "short" ∷ on 4 kind.Name "g" ∷ on 4 kind.OpenBracket "[" ∷
    on 4 kind.Number "2" ∷ on 4 kind.CloseBracket "]" ∷ on 4 kind.CloseBrace "}" ∷ on 4 kind.Semicolon ";" ∷ on 4 kind.Name "T" ∷
    on 4 kind.Name "r" ∷ on 4 kind.Semicolon ";" ∷ on 5 kind.Chan "chan" ∷ on 5 kind.Name "q0" ∷ on 5 kind.Assign "=" ∷
    on 5 kind.OpenBracket "[" ∷ on 5 kind.Number "2" ∷ on 5 kind.CloseBracket "]" ∷ on 5 kind.Of "of" ∷ on 5 kind.OpenBrace "{" ∷
    on 5 kind.Byte "byte" ∷ on 5 kind.CloseBrace "}" ∷ on 5 kind.Semicolon ";" ∷ on 6 kind.Proctype "proctype" ∷
    on 6 kind.Name "P0" ∷ on 6 kind.OpenParen "(" ∷ on 6 kind.Byte "byte" ∷ on 6 kind.Name "n" ∷ on 6 kind.CloseParen ")" ∷
    on 6 kind.OpenBrace "{" ∷ on 6 kind.Byte "byte" ∷ on 6 kind.Name "k" ∷ on 6 kind.Semicolon ";" ∷ on 6 kind.Int "int" ∷
    on 6 kind.Name "v" ∷ on 6 kind.Assign "=" ∷ on 6 kind.Number "5" ∷ on 6 kind.Semicolon ";" ∷ on 6 kind.Name "k" ∷
    on 6 kind.Assign "=" ∷ on 6 kind.Number "100" ∷ on 6 kind.Semicolon ";" ∷ on 6 kind.Name "s2" ∷ on 6 kind.Assign "=" ∷
    on 6 kind.Name "v" ∷ on 6 kind.Semicolon ";" ∷ on 6 kind.Name "q0" ∷ on 6 kind.Bang "!" ∷ on 6 kind.OpenParen "(" ∷
    on 6 kind.Number "3" ∷ on 6 kind.Star "*" ∷ on 6 kind.Number "2" ∷ on 6 kind.CloseParen ")" ∷ on 6 kind.Semicolon ";" ∷
    on 6 kind.Printf "printf" ∷ on 6 kind.OpenParen "(" ∷ on 6 kind.Quoted "\"P0 ends %d %d\\n\"" ∷ on 6 kind.Comma "," ∷
    on 6 kind.Name "k" ∷ on 6 kind.Comma "," ∷ on 6 kind.Name "v" ∷ on 6 kind.CloseParen ")" ∷ on 6 kind.CloseBrace "}" ∷
    on 7 kind.Init "init" ∷ on 7 kind.OpenBrace "{" ∷ on 7 kind.Byte "byte" ∷ on 7 kind.Name "k" ∷ on 7 kind.Semicolon ";" ∷
    on 7 kind.Run "run" ∷ on 7 kind.Name "P0" ∷ on 7 kind.OpenParen "(" ∷ on 7 kind.Number "1" ∷ on 7 kind.CloseParen ")" ∷
    on 7 kind.Semicolon ";" ∷ on 7 kind.Printf "printf" ∷ on 7 kind.OpenParen "(" ∷ on 7 kind.Quoted "\"p %x\\n\"" ∷
    on 7 kind.Comma "," ∷ on 7 kind.Name "u1" ∷ on 7 kind.CloseParen ")" ∷ on 7 kind.Semicolon ";" ∷ on 7 kind.Name "r" ∷
    on 7 kind.Dot "." ∷ on 7 kind.Name "g" ∷ on 7 kind.OpenBracket "[" ∷ on 7 kind.Number "1" ∷ on 7 kind.CloseBracket "]" ∷
    on 7 kind.Assign "=" ∷ on 7 kind.Number "7" ∷ on 7 kind.Semicolon ";" ∷ on 7 kind.If "if" ∷ on 7 kind.DoubleColon "::" ∷
    on 7 kind.Timeout "timeout" ∷ on 7 kind.Arrow "->" ∷ on 7 kind.Skip "skip" ∷ on 7 kind.DoubleColon "::" ∷
    on 7 kind.Name "_nr_pr" ∷ on 7 kind.Equal "==" ∷ on 7 kind.Number "1" ∷ on 7 kind.Arrow "->" ∷ on 7 kind.Skip "skip" ∷
    on 7 kind.Fi "fi" ∷ on 7 kind.Semicolon ";" ∷ on 7 kind.Printf "printf" ∷ on 7 kind.OpenParen "(" ∷
    on 7 kind.Quoted "\"%d %d %d %d %d\\n\"" ∷ on 7 kind.Comma "," ∷ on 7 kind.Name "i0" ∷ on 7 kind.Comma "," ∷
    on 7 kind.Name "u1" ∷ on 7 kind.Comma "," ∷ on 7 kind.Name "s2" ∷ on 7 kind.Comma "," ∷ on 7 kind.Name "r" ∷ on 7 kind.Dot "." ∷
    on 7 kind.Name "f" ∷ on 7 kind.Comma "," ∷ on 7 kind.Name "r" ∷ on 7 kind.Dot "." ∷ on 7 kind.Name "g" ∷
    on 7 kind.OpenBracket "[" ∷ on 7 kind.Number "1" ∷ on 7 kind.CloseBracket "]" ∷ on 7 kind.CloseParen ")" ∷
    on 7 kind.CloseBrace "}" ∷ []

model-spin-5 : Program
unfolding tokens-spin-5
model-spin-5 =
    let at : ℕ → Word = token_at tokens-spin-5 in
    let part : ℕ → ℕ → List Word = tokens_between tokens-spin-5 in
    record {
      globals = (slot (at 1) int false 0 1 1 initial.Zero ∷ slot (at 4) (form.Unsigned 2) false 1 1 1 initial.Zero ∷ slot (at 9) short
          false 2 1 1 initial.Zero ∷ slot (at 25) (form.Struct 4) false 3 1 3 initial.Zero ∷ slot (at 28) chan false 6 1 1
          (initial.Channel 2 (byte ∷ [])) ∷ []);
      constants = [];
      typedefs = (fields 4 (slot (at 15) byte false 0 1 1 initial.Zero ∷ slot (at 18) short true 1 2 1 initial.Zero ∷ []) ∷ []);
      proctypes = (
          process (at 39) 7 0 1 (slot (at 42) byte false 0 1 1 initial.Zero ∷ slot (at 46) byte false 1 1 1 initial.Zero ∷ slot (at 49)
          int false 2 1 1 (initial.Value (number 5)) ∷ []) (
          plain (part 53 56) (assign (local 1 byte) (number 100)) ∷
          plain (part 57 60) (assign (global 2 short) (read (local 2 int))) ∷
          plain (part 61 68) (action.Send (global 4 chan) Fifo ((expr.Binary op.Times (number 3) (number 2)) ∷ [])) ∷
          plain (part 69 77) (action.Printf (at 71) ((read (local 1 byte)) ∷ (read (local 2 int)) ∷ [])) ∷ []) (at 77) ∷
          process (at 78) 8 1 0 (slot (at 81) byte false 0 1 1 initial.Zero ∷ []) (
          plain (part 83 88) (action.Run (run 0 ((number 1) ∷ []))) ∷
          plain (part 89 95) (action.Printf (at 91) ((read (global 1 (form.Unsigned 2))) ∷ [])) ∷
          plain (part 96 104) (assign (in_global 3 short (turn 0 1 3 None ∷ turn 1 2 1 (Some (number 1)) ∷ [])) (number 7)) ∷
          if_fi (part 105 117) (
          (plain (part 107 108) (holds expr.Timeout) ∷
          plain (part 109 110) (holds (number 1)) ∷ []) ∷
          (plain (part 111 114) (holds (expr.Binary op.Equal expr.ProcessCount (number 1))) ∷
          plain (part 115 116) (holds (number 1)) ∷ []) ∷ []) ∷
          plain (part 118 139) (action.Printf (at 120) ((read (global 0 int)) ∷ (read (global 1 (form.Unsigned 2))) ∷ (read (global 2
          short)) ∷ (read (in_global 3 byte (turn 0 1 3 None ∷ turn 0 1 1 None ∷ []))) ∷ (read (in_global 3 short (turn 0 1 3 None ∷
          turn 1 2 1 (Some (number 1)) ∷ []))) ∷ [])) ∷ []) (at 139) ∷ []);
    }

prints-spin-5 : printed model-spin-5 12 (2 ∷ 1 ∷ 1 ∷ [])
    ≡ Some (shown (text (
    "p 0\n" ∷
    "P0 ends 100 5\n" ∷
    "0 0 5 0 7\n" ∷
    [])) Valid)
unfolding computes model-spin-5
prints-spin-5 = prints model-spin-5 12 (2 ∷ 1 ∷ 1 ∷ []) _ refl

-- mtype = { red, green, blue }; mtype m = green;
-- bit t0;
-- short a[2];
-- chan q0 = [0] of { byte };
-- chan q1 = [2] of { byte };
-- proctype P0(byte n) { byte k; byte v = 1; a[(t0 & 1)]--; printf("P0 ends %d %d\n", k, v) }
-- proctype P1(byte n) { byte k; short v = 4; if :: 1 <= 1 -> a[(v & 1)]-- fi; printf("P1 ends %d %d\n", k, v) }
-- init { byte k; run P1(2); run P0(1); printf("p %x %u\n", k, t0); if :: timeout -> skip :: _nr_pr == 1 -> skip fi; printf("%d\n",
--     t0) }
tokens-spin-7 : List Word
tokens-spin-7 =
    on 1 kind.Mtype "mtype" ∷ on 1 kind.Assign "=" ∷ on 1 kind.OpenBrace "{" ∷ on 1 kind.Name "red" ∷ on 1 kind.Comma "," ∷
    on 1 kind.Name "green" ∷ on 1 kind.Comma "," ∷ on 1 kind.Name "blue" ∷ on 1 kind.CloseBrace "}" ∷ on 1 kind.Semicolon ";" ∷
    on 1 kind.Mtype "mtype" ∷ on 1 kind.Name "m" ∷ on 1 kind.Assign "=" ∷ on 1 kind.Name "green" ∷ on 1 kind.Semicolon ";" ∷
    on 2 kind.Bit "bit" ∷ on 2 kind.Name "t0" ∷ on 2 kind.Semicolon ";" ∷ on 3 kind.Short "short" ∷ on 3 kind.Name "a" ∷
    on 3 kind.OpenBracket "[" ∷ on 3 kind.Number "2" ∷ on 3 kind.CloseBracket "]" ∷ on 3 kind.Semicolon ";" ∷ on 4 kind.Chan "chan" ∷
    on 4 kind.Name "q0" ∷ on 4 kind.Assign "=" ∷ on 4 kind.OpenBracket "[" ∷ on 4 kind.Number "0" ∷ on 4 kind.CloseBracket "]" ∷
    on 4 kind.Of "of" ∷ on 4 kind.OpenBrace "{" ∷ on 4 kind.Byte "byte" ∷ on 4 kind.CloseBrace "}" ∷ on 4 kind.Semicolon ";" ∷
    on 5 kind.Chan "chan" ∷ on 5 kind.Name "q1" ∷ on 5 kind.Assign "=" ∷ on 5 kind.OpenBracket "[" ∷ on 5 kind.Number "2" ∷
    on 5 kind.CloseBracket "]" ∷ on 5 kind.Of "of" ∷ on 5 kind.OpenBrace "{" ∷ on 5 kind.Byte "byte" ∷ on 5 kind.CloseBrace "}" ∷
    on 5 kind.Semicolon ";" ∷ on 6 kind.Proctype "proctype" ∷ on 6 kind.Name "P0" ∷ on 6 kind.OpenParen "(" ∷ on 6 kind.Byte "byte" ∷
    on 6 kind.Name "n" ∷ on 6 kind.CloseParen ")" ∷ on 6 kind.OpenBrace "{" ∷ on 6 kind.Byte "byte" ∷ on 6 kind.Name "k" ∷
    on 6 kind.Semicolon ";" ∷ on 6 kind.Byte "byte" ∷ on 6 kind.Name "v" ∷ on 6 kind.Assign "=" ∷ on 6 kind.Number "1" ∷
    on 6 kind.Semicolon ";" ∷ on 6 kind.Name "a" ∷ on 6 kind.OpenBracket "[" ∷ on 6 kind.OpenParen "(" ∷ on 6 kind.Name "t0" ∷
    on 6 kind.Ampersand "&" ∷ on 6 kind.Number "1" ∷ on 6 kind.CloseParen ")" ∷ on 6 kind.CloseBracket "]" ∷
    on 6 kind.Decrement "--" ∷ on 6 kind.Semicolon ";" ∷ on 6 kind.Printf "printf" ∷ on 6 kind.OpenParen "(" ∷
    on 6 kind.Quoted "\"P0 ends %d %d\\n\"" ∷ on 6 kind.Comma "," ∷ on 6 kind.Name "k" ∷ on 6 kind.Comma "," ∷ on 6 kind.Name "v" ∷
    on 6 kind.CloseParen ")" ∷ on 6 kind.CloseBrace "}" ∷ on 7 kind.Proctype "proctype" ∷ on 7 kind.Name "P1" ∷
    on 7 kind.OpenParen "(" ∷ on 7 kind.Byte "byte" ∷ on 7 kind.Name "n" ∷ on 7 kind.CloseParen ")" ∷ on 7 kind.OpenBrace "{" ∷
    on 7 kind.Byte "byte" ∷ on 7 kind.Name "k" ∷ on 7 kind.Semicolon ";" ∷ on 7 kind.Short "short" ∷ on 7 kind.Name "v" ∷
    on 7 kind.Assign "=" ∷ on 7 kind.Number "4" ∷ on 7 kind.Semicolon ";" ∷ on 7 kind.If "if" ∷ on 7 kind.DoubleColon "::" ∷
    on 7 kind.Number "1" ∷ on 7 kind.AtMost "<=" ∷ on 7 kind.Number "1" ∷ on 7 kind.Arrow "->" ∷ on 7 kind.Name "a" ∷
    on 7 kind.OpenBracket "[" ∷ on 7 kind.OpenParen "(" ∷ on 7 kind.Name "v" ∷ on 7 kind.Ampersand "&" ∷ on 7 kind.Number "1" ∷
    on 7 kind.CloseParen ")" ∷ on 7 kind.CloseBracket "]" ∷ on 7 kind.Decrement "--" ∷ on 7 kind.Fi "fi" ∷ on 7 kind.Semicolon ";" ∷
    on 7 kind.Printf "printf" ∷ on 7 kind.OpenParen "(" ∷ on 7 kind.Quoted "\"P1 ends %d %d\\n\"" ∷ on 7 kind.Comma "," ∷
    on 7 kind.Name "k" ∷ on 7 kind.Comma "," ∷ on 7 kind.Name "v" ∷ on 7 kind.CloseParen ")" ∷ on 7 kind.CloseBrace "}" ∷
    on 8 kind.Init "init" ∷ on 8 kind.OpenBrace "{" ∷ on 8 kind.Byte "byte" ∷ on 8 kind.Name "k" ∷ on 8 kind.Semicolon ";" ∷
    on 8 kind.Run "run" ∷ on 8 kind.Name "P1" ∷ on 8 kind.OpenParen "(" ∷ on 8 kind.Number "2" ∷ on 8 kind.CloseParen ")" ∷
    on 8 kind.Semicolon ";" ∷ on 8 kind.Run "run" ∷ on 8 kind.Name "P0" ∷ on 8 kind.OpenParen "(" ∷ on 8 kind.Number "1" ∷
    on 8 kind.CloseParen ")" ∷ on 8 kind.Semicolon ";" ∷ on 8 kind.Printf "printf" ∷ on 8 kind.OpenParen "(" ∷
    on 8 kind.Quoted "\"p %x %u\\n\"" ∷ on 8 kind.Comma "," ∷ on 8 kind.Name "k" ∷ on 8 kind.Comma "," ∷ on 8 kind.Name "t0" ∷
    on 8 kind.CloseParen ")" ∷ on 8 kind.Semicolon ";" ∷ on 8 kind.If "if" ∷ on 8 kind.DoubleColon "::" ∷
    on 8 kind.Timeout "timeout" ∷ on 8 kind.Arrow "->" ∷ on 8 kind.Skip "skip" ∷ on 8 kind.DoubleColon "::" ∷
    on 8 kind.Name "_nr_pr" ∷ on 8 kind.Equal "==" ∷ on 8 kind.Number "1" ∷ on 8 kind.Arrow "->" ∷ on 8 kind.Skip "skip" ∷
    on 8 kind.Fi "fi" ∷ on 8 kind.Semicolon ";" ∷ on 8 kind.Printf "printf" ∷ on 8 kind.OpenParen "(" ∷
    on 8 kind.Quoted "\"%d\\n\"" ∷ on 8 kind.Comma "," ∷ on 8 kind.Name "t0" ∷ on 8 kind.CloseParen ")" ∷ on 8 kind.CloseBrace "}" ∷ []

model-spin-7 : Program
unfolding tokens-spin-7
model-spin-7 =
    let at : ℕ → Word = token_at tokens-spin-7 in
    let part : ℕ → ℕ → List Word = tokens_between tokens-spin-7 in
    record {
      globals = (slot (at 11) mtype false 0 1 1 (initial.Value (number 2)) ∷ slot (at 16) bit false 1 1 1 initial.Zero ∷ slot (at 19)
          short true 2 2 1 initial.Zero ∷ slot (at 25) chan false 4 1 1 (initial.Channel 0 (byte ∷ [])) ∷ slot (at 36) chan false 5 1 1
          (initial.Channel 2 (byte ∷ [])) ∷ []);
      constants = ((at 7) ∷ (at 5) ∷ (at 3) ∷ []);
      typedefs = [];
      proctypes = (
          process (at 47) 7 0 1 (slot (at 50) byte false 0 1 1 initial.Zero ∷ slot (at 54) byte false 1 1 1 initial.Zero ∷ slot (at 57)
          byte false 2 1 1 (initial.Value (number 1)) ∷ []) (
          plain (part 61 70) (action.Decrement (in_global 2 short (turn 0 2 1 (Some (expr.Binary op.BitAnd (read (global 1 bit)) (number
          1))) ∷ []))) ∷
          plain (part 71 79) (action.Printf (at 73) ((read (local 1 byte)) ∷ (read (local 2 byte)) ∷ [])) ∷ []) (at 79) ∷
          process (at 81) 8 0 1 (slot (at 84) byte false 0 1 1 initial.Zero ∷ slot (at 88) byte false 1 1 1 initial.Zero ∷ slot (at 91)
          short false 2 1 1 (initial.Value (number 4)) ∷ []) (
          if_fi (part 95 111) (
          (plain (part 97 100) (holds (expr.Binary op.AtMost (number 1) (number 1))) ∷
          plain (part 101 110) (action.Decrement (in_global 2 short (turn 0 2 1 (Some (expr.Binary op.BitAnd (read (local 2 short))
          (number 1))) ∷ []))) ∷ []) ∷ []) ∷
          plain (part 112 120) (action.Printf (at 114) ((read (local 1 byte)) ∷ (read (local 2 short)) ∷ [])) ∷ []) (at 120) ∷
          process (at 121) 9 1 0 (slot (at 124) byte false 0 1 1 initial.Zero ∷ []) (
          plain (part 126 131) (action.Run (run 1 ((number 2) ∷ []))) ∷
          plain (part 132 137) (action.Run (run 0 ((number 1) ∷ []))) ∷
          plain (part 138 146) (action.Printf (at 140) ((read (local 0 byte)) ∷ (read (global 1 bit)) ∷ [])) ∷
          if_fi (part 147 159) (
          (plain (part 149 150) (holds expr.Timeout) ∷
          plain (part 151 152) (holds (number 1)) ∷ []) ∷
          (plain (part 153 156) (holds (expr.Binary op.Equal expr.ProcessCount (number 1))) ∷
          plain (part 157 158) (holds (number 1)) ∷ []) ∷ []) ∷
          plain (part 160 166) (action.Printf (at 162) ((read (global 1 bit)) ∷ [])) ∷ []) (at 166) ∷ []);
    }

prints-spin-7 : printed model-spin-7 14 (2 ∷ 2 ∷ 1 ∷ 3 ∷ 2 ∷ 1 ∷ [])
    ≡ Some (shown (text (
    "P1 ends 0 4\n" ∷
    "p 0 0\n" ∷
    "P0 ends 0 1\n" ∷
    "0\n" ∷
    [])) Valid)
unfolding computes model-spin-7
prints-spin-7 = prints model-spin-7 14 (2 ∷ 2 ∷ 1 ∷ 3 ∷ 2 ∷ 1 ∷ []) _ refl

-- bit t0;
-- short s1 = 3;
-- proctype P0(byte n) { byte k; short v = 4; printf("at %d %u\n", t0, k); printf("p %x %x\n", k, s1); s1 = (0 + 2); printf("P0 ends
--     %d %d\n", k, v) }
-- init { byte k; run P0(2); run P0(3); k++; d_step { s1 = 0; s1 = 1 }; if :: timeout -> skip :: _nr_pr == 1 -> skip fi; printf("%d
--     %d\n", t0, s1) }
tokens-spin-10 : List Word
tokens-spin-10 =
    on 1 kind.Bit "bit" ∷ on 1 kind.Name "t0" ∷ on 1 kind.Semicolon ";" ∷ on 2 kind.Short "short" ∷ on 2 kind.Name "s1" ∷
    on 2 kind.Assign "=" ∷ on 2 kind.Number "3" ∷ on 2 kind.Semicolon ";" ∷ on 3 kind.Proctype "proctype" ∷ on 3 kind.Name "P0" ∷
    on 3 kind.OpenParen "(" ∷ on 3 kind.Byte "byte" ∷ on 3 kind.Name "n" ∷ on 3 kind.CloseParen ")" ∷ on 3 kind.OpenBrace "{" ∷
    on 3 kind.Byte "byte" ∷ on 3 kind.Name "k" ∷ on 3 kind.Semicolon ";" ∷ on 3 kind.Short "short" ∷ on 3 kind.Name "v" ∷
    on 3 kind.Assign "=" ∷ on 3 kind.Number "4" ∷ on 3 kind.Semicolon ";" ∷ on 3 kind.Printf "printf" ∷ on 3 kind.OpenParen "(" ∷
    on 3 kind.Quoted "\"at %d %u\\n\"" ∷ on 3 kind.Comma "," ∷ on 3 kind.Name "t0" ∷ on 3 kind.Comma "," ∷ on 3 kind.Name "k" ∷
    on 3 kind.CloseParen ")" ∷ on 3 kind.Semicolon ";" ∷ on 3 kind.Printf "printf" ∷ on 3 kind.OpenParen "(" ∷
    on 3 kind.Quoted "\"p %x %x\\n\"" ∷ on 3 kind.Comma "," ∷ on 3 kind.Name "k" ∷ on 3 kind.Comma "," ∷ on 3 kind.Name "s1" ∷
    on 3 kind.CloseParen ")" ∷ on 3 kind.Semicolon ";" ∷ on 3 kind.Name "s1" ∷ on 3 kind.Assign "=" ∷ on 3 kind.OpenParen "(" ∷
    on 3 kind.Number "0" ∷ on 3 kind.Plus "+" ∷ on 3 kind.Number "2" ∷ on 3 kind.CloseParen ")" ∷ on 3 kind.Semicolon ";" ∷
    on 3 kind.Printf "printf" ∷ on 3 kind.OpenParen "(" ∷ on 3 kind.Quoted "\"P0 ends %d %d\\n\"" ∷ on 3 kind.Comma "," ∷
    on 3 kind.Name "k" ∷ on 3 kind.Comma "," ∷ on 3 kind.Name "v" ∷ on 3 kind.CloseParen ")" ∷ on 3 kind.CloseBrace "}" ∷
    on 4 kind.Init "init" ∷ on 4 kind.OpenBrace "{" ∷ on 4 kind.Byte "byte" ∷ on 4 kind.Name "k" ∷ on 4 kind.Semicolon ";" ∷
    on 4 kind.Run "run" ∷ on 4 kind.Name "P0" ∷ on 4 kind.OpenParen "(" ∷ on 4 kind.Number "2" ∷ on 4 kind.CloseParen ")" ∷
    on 4 kind.Semicolon ";" ∷ on 4 kind.Run "run" ∷ on 4 kind.Name "P0" ∷ on 4 kind.OpenParen "(" ∷ on 4 kind.Number "3" ∷
    on 4 kind.CloseParen ")" ∷ on 4 kind.Semicolon ";" ∷ on 4 kind.Name "k" ∷ on 4 kind.Increment "++" ∷ on 4 kind.Semicolon ";" ∷
    on 4 kind.DStep "d_step" ∷ on 4 kind.OpenBrace "{" ∷ on 4 kind.Name "s1" ∷ on 4 kind.Assign "=" ∷ on 4 kind.Number "0" ∷
    on 4 kind.Semicolon ";" ∷ on 4 kind.Name "s1" ∷ on 4 kind.Assign "=" ∷ on 4 kind.Number "1" ∷ on 4 kind.CloseBrace "}" ∷
    on 4 kind.Semicolon ";" ∷ on 4 kind.If "if" ∷ on 4 kind.DoubleColon "::" ∷ on 4 kind.Timeout "timeout" ∷ on 4 kind.Arrow "->" ∷
    on 4 kind.Skip "skip" ∷ on 4 kind.DoubleColon "::" ∷ on 4 kind.Name "_nr_pr" ∷ on 4 kind.Equal "==" ∷ on 4 kind.Number "1" ∷
    on 4 kind.Arrow "->" ∷ on 4 kind.Skip "skip" ∷ on 4 kind.Fi "fi" ∷ on 4 kind.Semicolon ";" ∷ on 4 kind.Printf "printf" ∷
    on 4 kind.OpenParen "(" ∷ on 4 kind.Quoted "\"%d %d\\n\"" ∷ on 4 kind.Comma "," ∷ on 4 kind.Name "t0" ∷ on 4 kind.Comma "," ∷
    on 4 kind.Name "s1" ∷ on 4 kind.CloseParen ")" ∷ on 4 kind.CloseBrace "}" ∷ []

model-spin-10 : Program
unfolding tokens-spin-10
model-spin-10 =
    let at : ℕ → Word = token_at tokens-spin-10 in
    let part : ℕ → ℕ → List Word = tokens_between tokens-spin-10 in
    record {
      globals = (slot (at 1) bit false 0 1 1 initial.Zero ∷ slot (at 4) short false 1 1 1 (initial.Value (number 3)) ∷ []);
      constants = [];
      typedefs = [];
      proctypes = (
          process (at 9) 3 0 1 (slot (at 12) byte false 0 1 1 initial.Zero ∷ slot (at 16) byte false 1 1 1 initial.Zero ∷ slot (at 19)
          short false 2 1 1 (initial.Value (number 4)) ∷ []) (
          plain (part 23 31) (action.Printf (at 25) ((read (global 0 bit)) ∷ (read (local 1 byte)) ∷ [])) ∷
          plain (part 32 40) (action.Printf (at 34) ((read (local 1 byte)) ∷ (read (global 1 short)) ∷ [])) ∷
          plain (part 41 48) (assign (global 1 short) (expr.Binary op.Plus (number 0) (number 2))) ∷
          plain (part 49 57) (action.Printf (at 51) ((read (local 1 byte)) ∷ (read (local 2 short)) ∷ [])) ∷ []) (at 57) ∷
          process (at 58) 4 1 0 (slot (at 61) byte false 0 1 1 initial.Zero ∷ []) (
          plain (part 63 68) (action.Run (run 0 ((number 2) ∷ []))) ∷
          plain (part 69 74) (action.Run (run 0 ((number 3) ∷ []))) ∷
          plain (part 75 77) (action.Increment (local 0 byte)) ∷
          d_step (part 78 88) (
          plain (part 80 83) (assign (global 1 short) (number 0)) ∷
          plain (part 84 87) (assign (global 1 short) (number 1)) ∷ []) ∷
          if_fi (part 89 101) (
          (plain (part 91 92) (holds expr.Timeout) ∷
          plain (part 93 94) (holds (number 1)) ∷ []) ∷
          (plain (part 95 98) (holds (expr.Binary op.Equal expr.ProcessCount (number 1))) ∷
          plain (part 99 100) (holds (number 1)) ∷ []) ∷ []) ∷
          plain (part 102 110) (action.Printf (at 104) ((read (global 0 bit)) ∷ (read (global 1 short)) ∷ [])) ∷ []) (at 110) ∷ []);
    }

prints-spin-10 : printed model-spin-10 18 (1 ∷ 1 ∷ 3 ∷ 2 ∷ 3 ∷ 3 ∷ 3 ∷ 1 ∷ 1 ∷ 1 ∷ 1 ∷ [])
    ≡ Some (shown (text (
    "at 0 0\n" ∷
    "at 0 0\n" ∷
    "p 0 3\n" ∷
    "P0 ends 0 4\n" ∷
    "p 0 1\n" ∷
    "P0 ends 0 4\n" ∷
    "0 2\n" ∷
    [])) Valid)
unfolding computes model-spin-10
prints-spin-10 = prints model-spin-10 18 (1 ∷ 1 ∷ 3 ∷ 2 ∷ 3 ∷ 3 ∷ 3 ∷ 1 ∷ 1 ∷ 1 ∷ 1 ∷ []) _ refl

-- unsigned u0 : 7 = 0;
-- int i1 = 3;
-- unsigned u2 : 5;
-- typedef T { byte f; short g[2] }; T r;
-- chan q0 = [1] of { short, byte };
-- proctype P0(byte n) { byte k; int v = 3; i1 = n; printf("P0 ends %d %d\n", k, v) }
-- proctype P1(byte n) { byte k; int v = 1; q0!(1 - 300), 0; printf("P1 ends %d %d\n", k, v) }
-- init { byte k; run P1(4); if :: r.g[1] = 100; printf("p %o\n", i1) :: (-2) > 3 -> printf("at %o\n", r.g[1]); q0?0, _ fi; q0!i1, u2;
--     if :: timeout -> skip :: _nr_pr == 1 -> skip fi; printf("%d %d %d %d %d\n", u0, i1, u2, r.f, r.g[1]) }
tokens-spin-12 : List Word
tokens-spin-12 =
    on 1 kind.Unsigned "unsigned" ∷ on 1 kind.Name "u0" ∷ on 1 kind.Colon ":" ∷ on 1 kind.Number "7" ∷ on 1 kind.Assign "=" ∷
    on 1 kind.Number "0" ∷ on 1 kind.Semicolon ";" ∷ on 2 kind.Int "int" ∷ on 2 kind.Name "i1" ∷ on 2 kind.Assign "=" ∷
    on 2 kind.Number "3" ∷ on 2 kind.Semicolon ";" ∷ on 3 kind.Unsigned "unsigned" ∷ on 3 kind.Name "u2" ∷ on 3 kind.Colon ":" ∷
    on 3 kind.Number "5" ∷ on 3 kind.Semicolon ";" ∷ on 4 kind.Typedef "typedef" ∷ on 4 kind.Name "T" ∷ on 4 kind.OpenBrace "{" ∷
    on 4 kind.Byte "byte" ∷ on 4 kind.Name "f" ∷ on 4 kind.Semicolon ";" ∷ on 4 kind.Short "short" ∷ on 4 kind.Name "g" ∷
    on 4 kind.OpenBracket "[" ∷ on 4 kind.Number "2" ∷ on 4 kind.CloseBracket "]" ∷ on 4 kind.CloseBrace "}" ∷
    on 4 kind.Semicolon ";" ∷ on 4 kind.Name "T" ∷ on 4 kind.Name "r" ∷ on 4 kind.Semicolon ";" ∷ on 5 kind.Chan "chan" ∷
    on 5 kind.Name "q0" ∷ on 5 kind.Assign "=" ∷ on 5 kind.OpenBracket "[" ∷ on 5 kind.Number "1" ∷ on 5 kind.CloseBracket "]" ∷
    on 5 kind.Of "of" ∷ on 5 kind.OpenBrace "{" ∷ on 5 kind.Short "short" ∷ on 5 kind.Comma "," ∷ on 5 kind.Byte "byte" ∷
    on 5 kind.CloseBrace "}" ∷ on 5 kind.Semicolon ";" ∷ on 6 kind.Proctype "proctype" ∷ on 6 kind.Name "P0" ∷
    on 6 kind.OpenParen "(" ∷ on 6 kind.Byte "byte" ∷ on 6 kind.Name "n" ∷ on 6 kind.CloseParen ")" ∷ on 6 kind.OpenBrace "{" ∷
    on 6 kind.Byte "byte" ∷ on 6 kind.Name "k" ∷ on 6 kind.Semicolon ";" ∷ on 6 kind.Int "int" ∷ on 6 kind.Name "v" ∷
    on 6 kind.Assign "=" ∷ on 6 kind.Number "3" ∷ on 6 kind.Semicolon ";" ∷ on 6 kind.Name "i1" ∷ on 6 kind.Assign "=" ∷
    on 6 kind.Name "n" ∷ on 6 kind.Semicolon ";" ∷ on 6 kind.Printf "printf" ∷ on 6 kind.OpenParen "(" ∷
    on 6 kind.Quoted "\"P0 ends %d %d\\n\"" ∷ on 6 kind.Comma "," ∷ on 6 kind.Name "k" ∷ on 6 kind.Comma "," ∷ on 6 kind.Name "v" ∷
    on 6 kind.CloseParen ")" ∷ on 6 kind.CloseBrace "}" ∷ on 7 kind.Proctype "proctype" ∷ on 7 kind.Name "P1" ∷
    on 7 kind.OpenParen "(" ∷ on 7 kind.Byte "byte" ∷ on 7 kind.Name "n" ∷ on 7 kind.CloseParen ")" ∷ on 7 kind.OpenBrace "{" ∷
    on 7 kind.Byte "byte" ∷ on 7 kind.Name "k" ∷ on 7 kind.Semicolon ";" ∷ on 7 kind.Int "int" ∷ on 7 kind.Name "v" ∷
    on 7 kind.Assign "=" ∷ on 7 kind.Number "1" ∷ on 7 kind.Semicolon ";" ∷ on 7 kind.Name "q0" ∷ on 7 kind.Bang "!" ∷
    on 7 kind.OpenParen "(" ∷ on 7 kind.Number "1" ∷ on 7 kind.Minus "-" ∷ on 7 kind.Number "300" ∷ on 7 kind.CloseParen ")" ∷
    on 7 kind.Comma "," ∷ on 7 kind.Number "0" ∷ on 7 kind.Semicolon ";" ∷ on 7 kind.Printf "printf" ∷ on 7 kind.OpenParen "(" ∷
    on 7 kind.Quoted "\"P1 ends %d %d\\n\"" ∷ on 7 kind.Comma "," ∷ on 7 kind.Name "k" ∷ on 7 kind.Comma "," ∷ on 7 kind.Name "v" ∷
    on 7 kind.CloseParen ")" ∷ on 7 kind.CloseBrace "}" ∷ on 8 kind.Init "init" ∷ on 8 kind.OpenBrace "{" ∷ on 8 kind.Byte "byte" ∷
    on 8 kind.Name "k" ∷ on 8 kind.Semicolon ";" ∷ on 8 kind.Run "run" ∷ on 8 kind.Name "P1" ∷ on 8 kind.OpenParen "(" ∷
    on 8 kind.Number "4" ∷ on 8 kind.CloseParen ")" ∷ on 8 kind.Semicolon ";" ∷ on 8 kind.If "if" ∷ on 8 kind.DoubleColon "::" ∷
    on 8 kind.Name "r" ∷ on 8 kind.Dot "." ∷ on 8 kind.Name "g" ∷ on 8 kind.OpenBracket "[" ∷ on 8 kind.Number "1" ∷
    on 8 kind.CloseBracket "]" ∷ on 8 kind.Assign "=" ∷ on 8 kind.Number "100" ∷ on 8 kind.Semicolon ";" ∷
    on 8 kind.Printf "printf" ∷ on 8 kind.OpenParen "(" ∷ on 8 kind.Quoted "\"p %o\\n\"" ∷ on 8 kind.Comma "," ∷
    on 8 kind.Name "i1" ∷ on 8 kind.CloseParen ")" ∷ on 8 kind.DoubleColon "::" ∷ on 8 kind.OpenParen "(" ∷ on 8 kind.Minus "-" ∷
    on 8 kind.Number "2" ∷ on 8 kind.CloseParen ")" ∷ on 8 kind.Greater ">" ∷ on 8 kind.Number "3" ∷ on 8 kind.Arrow "->" ∷
    on 8 kind.Printf "printf" ∷ on 8 kind.OpenParen "(" ∷ on 8 kind.Quoted "\"at %o\\n\"" ∷ on 8 kind.Comma "," ∷
    on 8 kind.Name "r" ∷ on 8 kind.Dot "." ∷ on 8 kind.Name "g" ∷ on 8 kind.OpenBracket "[" ∷ on 8 kind.Number "1" ∷
    on 8 kind.CloseBracket "]" ∷ on 8 kind.CloseParen ")" ∷ on 8 kind.Semicolon ";" ∷ on 8 kind.Name "q0" ∷ on 8 kind.Query "?" ∷
    on 8 kind.Number "0" ∷ on 8 kind.Comma "," ∷ on 8 kind.Name "_" ∷ on 8 kind.Fi "fi" ∷ on 8 kind.Semicolon ";" ∷
    on 8 kind.Name "q0" ∷ on 8 kind.Bang "!" ∷ on 8 kind.Name "i1" ∷ on 8 kind.Comma "," ∷ on 8 kind.Name "u2" ∷
    on 8 kind.Semicolon ";" ∷ on 8 kind.If "if" ∷ on 8 kind.DoubleColon "::" ∷ on 8 kind.Timeout "timeout" ∷ on 8 kind.Arrow "->" ∷
    on 8 kind.Skip "skip" ∷ on 8 kind.DoubleColon "::" ∷ on 8 kind.Name "_nr_pr" ∷ on 8 kind.Equal "==" ∷ on 8 kind.Number "1" ∷
    on 8 kind.Arrow "->" ∷ on 8 kind.Skip "skip" ∷ on 8 kind.Fi "fi" ∷ on 8 kind.Semicolon ";" ∷ on 8 kind.Printf "printf" ∷
    on 8 kind.OpenParen "(" ∷ on 8 kind.Quoted "\"%d %d %d %d %d\\n\"" ∷ on 8 kind.Comma "," ∷ on 8 kind.Name "u0" ∷
    on 8 kind.Comma "," ∷ on 8 kind.Name "i1" ∷ on 8 kind.Comma "," ∷ on 8 kind.Name "u2" ∷ on 8 kind.Comma "," ∷
    on 8 kind.Name "r" ∷ on 8 kind.Dot "." ∷ on 8 kind.Name "f" ∷ on 8 kind.Comma "," ∷ on 8 kind.Name "r" ∷ on 8 kind.Dot "." ∷
    on 8 kind.Name "g" ∷ on 8 kind.OpenBracket "[" ∷ on 8 kind.Number "1" ∷ on 8 kind.CloseBracket "]" ∷ on 8 kind.CloseParen ")" ∷
    on 8 kind.CloseBrace "}" ∷ []

model-spin-12 : Program
unfolding tokens-spin-12
model-spin-12 =
    let at : ℕ → Word = token_at tokens-spin-12 in
    let part : ℕ → ℕ → List Word = tokens_between tokens-spin-12 in
    record {
      globals = (slot (at 1) (form.Unsigned 7) false 0 1 1 (initial.Value (number 0)) ∷ slot (at 8) int false 1 1 1 (initial.Value
          (number 3)) ∷ slot (at 13) (form.Unsigned 5) false 2 1 1 initial.Zero ∷ slot (at 31) (form.Struct 4) false 3 1 3 initial.Zero
          ∷ slot (at 34) chan false 6 1 1 (initial.Channel 1 (short ∷ byte ∷ [])) ∷ []);
      constants = [];
      typedefs = (fields 4 (slot (at 21) byte false 0 1 1 initial.Zero ∷ slot (at 24) short true 1 2 1 initial.Zero ∷ []) ∷ []);
      proctypes = (
          process (at 47) 7 0 1 (slot (at 50) byte false 0 1 1 initial.Zero ∷ slot (at 54) byte false 1 1 1 initial.Zero ∷ slot (at 57)
          int false 2 1 1 (initial.Value (number 3)) ∷ []) (
          plain (part 61 64) (assign (global 1 int) (read (local 0 byte))) ∷
          plain (part 65 73) (action.Printf (at 67) ((read (local 1 byte)) ∷ (read (local 2 int)) ∷ [])) ∷ []) (at 73) ∷
          process (at 75) 8 0 1 (slot (at 78) byte false 0 1 1 initial.Zero ∷ slot (at 82) byte false 1 1 1 initial.Zero ∷ slot (at 85)
          int false 2 1 1 (initial.Value (number 1)) ∷ []) (
          plain (part 89 98) (action.Send (global 4 chan) Fifo ((expr.Binary op.Minus (number 1) (number 300)) ∷ (number 0) ∷ [])) ∷
          plain (part 99 107) (action.Printf (at 101) ((read (local 1 byte)) ∷ (read (local 2 int)) ∷ [])) ∷ []) (at 107) ∷
          process (at 108) 9 1 0 (slot (at 111) byte false 0 1 1 initial.Zero ∷ []) (
          plain (part 113 118) (action.Run (run 1 ((number 4) ∷ []))) ∷
          if_fi (part 119 162) (
          (plain (part 121 129) (assign (in_global 3 short (turn 0 1 3 None ∷ turn 1 2 1 (Some (number 1)) ∷ [])) (number 100)) ∷
          plain (part 130 136) (action.Printf (at 132) ((read (global 1 int)) ∷ [])) ∷ []) ∷
          (plain (part 137 143) (holds (expr.Binary op.Above (expr.Unary before.Minus (number 2)) (number 3))) ∷
          plain (part 144 155) (action.Printf (at 146) ((read (in_global 3 short (turn 0 1 3 None ∷ turn 1 2 1 (Some (number 1)) ∷ [])))
          ∷ [])) ∷
          plain (part 156 161) (action.Receive (global 4 chan) First Remove (want.Exactly (pos 0) ∷ want.Anything ∷ [])) ∷ []) ∷ []) ∷
          plain (part 163 168) (action.Send (global 4 chan) Fifo ((read (global 1 int)) ∷ (read (global 2 (form.Unsigned 5))) ∷ [])) ∷
          if_fi (part 169 181) (
          (plain (part 171 172) (holds expr.Timeout) ∷
          plain (part 173 174) (holds (number 1)) ∷ []) ∷
          (plain (part 175 178) (holds (expr.Binary op.Equal expr.ProcessCount (number 1))) ∷
          plain (part 179 180) (holds (number 1)) ∷ []) ∷ []) ∷
          plain (part 182 203) (action.Printf (at 184) ((read (global 0 (form.Unsigned 7))) ∷ (read (global 1 int)) ∷ (read (global 2
          (form.Unsigned 5))) ∷ (read (in_global 3 byte (turn 0 1 3 None ∷ turn 0 1 1 None ∷ []))) ∷ (read (in_global 3 short (turn 0
          1 3 None ∷ turn 1 2 1 (Some (number 1)) ∷ []))) ∷ [])) ∷ []) (at 203) ∷ []);
    }

prints-spin-12 : printed model-spin-12 6 (1 ∷ 2 ∷ 1 ∷ [])
    ≡ Some (shown (text (
    "p 3\n" ∷
    "P1 ends 0 1\n" ∷
    [])) Invalid)
unfolding computes model-spin-12
prints-spin-12 = prints model-spin-12 6 (1 ∷ 2 ∷ 1 ∷ []) _ refl

-- unsigned u0 : 2 = 1;
-- int a[2];
-- proctype P0(byte n) { byte k; short v = 5; printf("at %d %d\n", k, n); atomic { v = (k >> 5) }; printf("P0 ends %d %d\n", k, v) }
-- init { byte k; run P0(0); run P0(0); printf("at %u\n", k); if :: timeout -> skip :: _nr_pr == 1 -> skip fi; printf("%d\n", u0) }
tokens-spin-15 : List Word
tokens-spin-15 =
    on 1 kind.Unsigned "unsigned" ∷ on 1 kind.Name "u0" ∷ on 1 kind.Colon ":" ∷ on 1 kind.Number "2" ∷ on 1 kind.Assign "=" ∷
    on 1 kind.Number "1" ∷ on 1 kind.Semicolon ";" ∷ on 2 kind.Int "int" ∷ on 2 kind.Name "a" ∷ on 2 kind.OpenBracket "[" ∷
    on 2 kind.Number "2" ∷ on 2 kind.CloseBracket "]" ∷ on 2 kind.Semicolon ";" ∷ on 3 kind.Proctype "proctype" ∷
    on 3 kind.Name "P0" ∷ on 3 kind.OpenParen "(" ∷ on 3 kind.Byte "byte" ∷ on 3 kind.Name "n" ∷ on 3 kind.CloseParen ")" ∷
    on 3 kind.OpenBrace "{" ∷ on 3 kind.Byte "byte" ∷ on 3 kind.Name "k" ∷ on 3 kind.Semicolon ";" ∷ on 3 kind.Short "short" ∷
    on 3 kind.Name "v" ∷ on 3 kind.Assign "=" ∷ on 3 kind.Number "5" ∷ on 3 kind.Semicolon ";" ∷ on 3 kind.Printf "printf" ∷
    on 3 kind.OpenParen "(" ∷ on 3 kind.Quoted "\"at %d %d\\n\"" ∷ on 3 kind.Comma "," ∷ on 3 kind.Name "k" ∷ on 3 kind.Comma "," ∷
    on 3 kind.Name "n" ∷ on 3 kind.CloseParen ")" ∷ on 3 kind.Semicolon ";" ∷ on 3 kind.Atomic "atomic" ∷ on 3 kind.OpenBrace "{" ∷
    on 3 kind.Name "v" ∷ on 3 kind.Assign "=" ∷ on 3 kind.OpenParen "(" ∷ on 3 kind.Name "k" ∷ on 3 kind.ShiftRight ">>" ∷
    on 3 kind.Number "5" ∷ on 3 kind.CloseParen ")" ∷ on 3 kind.CloseBrace "}" ∷ on 3 kind.Semicolon ";" ∷
    on 3 kind.Printf "printf" ∷ on 3 kind.OpenParen "(" ∷ on 3 kind.Quoted "\"P0 ends %d %d\\n\"" ∷ on 3 kind.Comma "," ∷
    on 3 kind.Name "k" ∷ on 3 kind.Comma "," ∷ on 3 kind.Name "v" ∷ on 3 kind.CloseParen ")" ∷ on 3 kind.CloseBrace "}" ∷
    on 4 kind.Init "init" ∷ on 4 kind.OpenBrace "{" ∷ on 4 kind.Byte "byte" ∷ on 4 kind.Name "k" ∷ on 4 kind.Semicolon ";" ∷
    on 4 kind.Run "run" ∷ on 4 kind.Name "P0" ∷ on 4 kind.OpenParen "(" ∷ on 4 kind.Number "0" ∷ on 4 kind.CloseParen ")" ∷
    on 4 kind.Semicolon ";" ∷ on 4 kind.Run "run" ∷ on 4 kind.Name "P0" ∷ on 4 kind.OpenParen "(" ∷ on 4 kind.Number "0" ∷
    on 4 kind.CloseParen ")" ∷ on 4 kind.Semicolon ";" ∷ on 4 kind.Printf "printf" ∷ on 4 kind.OpenParen "(" ∷
    on 4 kind.Quoted "\"at %u\\n\"" ∷ on 4 kind.Comma "," ∷ on 4 kind.Name "k" ∷ on 4 kind.CloseParen ")" ∷ on 4 kind.Semicolon ";" ∷
    on 4 kind.If "if" ∷ on 4 kind.DoubleColon "::" ∷ on 4 kind.Timeout "timeout" ∷ on 4 kind.Arrow "->" ∷ on 4 kind.Skip "skip" ∷
    on 4 kind.DoubleColon "::" ∷ on 4 kind.Name "_nr_pr" ∷ on 4 kind.Equal "==" ∷ on 4 kind.Number "1" ∷ on 4 kind.Arrow "->" ∷
    on 4 kind.Skip "skip" ∷ on 4 kind.Fi "fi" ∷ on 4 kind.Semicolon ";" ∷ on 4 kind.Printf "printf" ∷ on 4 kind.OpenParen "(" ∷
    on 4 kind.Quoted "\"%d\\n\"" ∷ on 4 kind.Comma "," ∷ on 4 kind.Name "u0" ∷ on 4 kind.CloseParen ")" ∷ on 4 kind.CloseBrace "}" ∷ []

model-spin-15 : Program
unfolding tokens-spin-15
model-spin-15 =
    let at : ℕ → Word = token_at tokens-spin-15 in
    let part : ℕ → ℕ → List Word = tokens_between tokens-spin-15 in
    record {
      globals = (slot (at 1) (form.Unsigned 2) false 0 1 1 (initial.Value (number 1)) ∷ slot (at 8) int true 1 2 1 initial.Zero ∷ []);
      constants = [];
      typedefs = [];
      proctypes = (
          process (at 14) 3 0 1 (slot (at 17) byte false 0 1 1 initial.Zero ∷ slot (at 21) byte false 1 1 1 initial.Zero ∷ slot (at 24)
          short false 2 1 1 (initial.Value (number 5)) ∷ []) (
          plain (part 28 36) (action.Printf (at 30) ((read (local 1 byte)) ∷ (read (local 0 byte)) ∷ [])) ∷
          atomic (part 37 47) (
          plain (part 39 46) (assign (local 2 short) (expr.Binary op.ShiftRight (read (local 1 byte)) (number 5))) ∷ []) ∷
          plain (part 48 56) (action.Printf (at 50) ((read (local 1 byte)) ∷ (read (local 2 short)) ∷ [])) ∷ []) (at 56) ∷
          process (at 57) 4 1 0 (slot (at 60) byte false 0 1 1 initial.Zero ∷ []) (
          plain (part 62 67) (action.Run (run 0 ((number 0) ∷ []))) ∷
          plain (part 68 73) (action.Run (run 0 ((number 0) ∷ []))) ∷
          plain (part 74 80) (action.Printf (at 76) ((read (local 0 byte)) ∷ [])) ∷
          if_fi (part 81 93) (
          (plain (part 83 84) (holds expr.Timeout) ∷
          plain (part 85 86) (holds (number 1)) ∷ []) ∷
          (plain (part 87 90) (holds (expr.Binary op.Equal expr.ProcessCount (number 1))) ∷
          plain (part 91 92) (holds (number 1)) ∷ []) ∷ []) ∷
          plain (part 94 100) (action.Printf (at 96) ((read (global 0 (form.Unsigned 2))) ∷ [])) ∷ []) (at 100) ∷ []);
    }

prints-spin-15 : printed model-spin-15 15 (2 ∷ 2 ∷ 2 ∷ 2 ∷ 2 ∷ 1 ∷ [])
    ≡ Some (shown (text (
    "at 0 0\n" ∷
    "P0 ends 0 0\n" ∷
    "at 0 0\n" ∷
    "at 0\n" ∷
    "P0 ends 0 0\n" ∷
    "1\n" ∷
    [])) Valid)
unfolding computes model-spin-15
prints-spin-15 = prints model-spin-15 15 (2 ∷ 2 ∷ 2 ∷ 2 ∷ 2 ∷ 1 ∷ []) _ refl

-- int i0 = 2;
-- byte b1;
-- short a[3];
-- chan q0 = [2] of { int };
-- proctype P0(byte n) { byte k; byte v = 4; b1 = (b1 << 5); a[1] = k; atomic { printf("at %d\n", n); b1 = 2 }; printf("P0 ends %d
--     %d\n", k, v) }
-- init { byte k; run P0(2); run P0(2); do :: q0!!0; printf("p %o\n", k) :: break od; if :: timeout -> skip :: _nr_pr == 1 -> skip fi;
--     printf("%d %d\n", i0, b1) }
tokens-spin-17 : List Word
tokens-spin-17 =
    on 1 kind.Int "int" ∷ on 1 kind.Name "i0" ∷ on 1 kind.Assign "=" ∷ on 1 kind.Number "2" ∷ on 1 kind.Semicolon ";" ∷
    on 2 kind.Byte "byte" ∷ on 2 kind.Name "b1" ∷ on 2 kind.Semicolon ";" ∷ on 3 kind.Short "short" ∷ on 3 kind.Name "a" ∷
    on 3 kind.OpenBracket "[" ∷ on 3 kind.Number "3" ∷ on 3 kind.CloseBracket "]" ∷ on 3 kind.Semicolon ";" ∷ on 4 kind.Chan "chan" ∷
    on 4 kind.Name "q0" ∷ on 4 kind.Assign "=" ∷ on 4 kind.OpenBracket "[" ∷ on 4 kind.Number "2" ∷ on 4 kind.CloseBracket "]" ∷
    on 4 kind.Of "of" ∷ on 4 kind.OpenBrace "{" ∷ on 4 kind.Int "int" ∷ on 4 kind.CloseBrace "}" ∷ on 4 kind.Semicolon ";" ∷
    on 5 kind.Proctype "proctype" ∷ on 5 kind.Name "P0" ∷ on 5 kind.OpenParen "(" ∷ on 5 kind.Byte "byte" ∷ on 5 kind.Name "n" ∷
    on 5 kind.CloseParen ")" ∷ on 5 kind.OpenBrace "{" ∷ on 5 kind.Byte "byte" ∷ on 5 kind.Name "k" ∷ on 5 kind.Semicolon ";" ∷
    on 5 kind.Byte "byte" ∷ on 5 kind.Name "v" ∷ on 5 kind.Assign "=" ∷ on 5 kind.Number "4" ∷ on 5 kind.Semicolon ";" ∷
    on 5 kind.Name "b1" ∷ on 5 kind.Assign "=" ∷ on 5 kind.OpenParen "(" ∷ on 5 kind.Name "b1" ∷ on 5 kind.ShiftLeft "<<" ∷
    on 5 kind.Number "5" ∷ on 5 kind.CloseParen ")" ∷ on 5 kind.Semicolon ";" ∷ on 5 kind.Name "a" ∷ on 5 kind.OpenBracket "[" ∷
    on 5 kind.Number "1" ∷ on 5 kind.CloseBracket "]" ∷ on 5 kind.Assign "=" ∷ on 5 kind.Name "k" ∷ on 5 kind.Semicolon ";" ∷
    on 5 kind.Atomic "atomic" ∷ on 5 kind.OpenBrace "{" ∷ on 5 kind.Printf "printf" ∷ on 5 kind.OpenParen "(" ∷
    on 5 kind.Quoted "\"at %d\\n\"" ∷ on 5 kind.Comma "," ∷ on 5 kind.Name "n" ∷ on 5 kind.CloseParen ")" ∷ on 5 kind.Semicolon ";" ∷
    on 5 kind.Name "b1" ∷ on 5 kind.Assign "=" ∷ on 5 kind.Number "2" ∷ on 5 kind.CloseBrace "}" ∷ on 5 kind.Semicolon ";" ∷
    on 5 kind.Printf "printf" ∷ on 5 kind.OpenParen "(" ∷ on 5 kind.Quoted "\"P0 ends %d %d\\n\"" ∷ on 5 kind.Comma "," ∷
    on 5 kind.Name "k" ∷ on 5 kind.Comma "," ∷ on 5 kind.Name "v" ∷ on 5 kind.CloseParen ")" ∷ on 5 kind.CloseBrace "}" ∷
    on 6 kind.Init "init" ∷ on 6 kind.OpenBrace "{" ∷ on 6 kind.Byte "byte" ∷ on 6 kind.Name "k" ∷ on 6 kind.Semicolon ";" ∷
    on 6 kind.Run "run" ∷ on 6 kind.Name "P0" ∷ on 6 kind.OpenParen "(" ∷ on 6 kind.Number "2" ∷ on 6 kind.CloseParen ")" ∷
    on 6 kind.Semicolon ";" ∷ on 6 kind.Run "run" ∷ on 6 kind.Name "P0" ∷ on 6 kind.OpenParen "(" ∷ on 6 kind.Number "2" ∷
    on 6 kind.CloseParen ")" ∷ on 6 kind.Semicolon ";" ∷ on 6 kind.Do "do" ∷ on 6 kind.DoubleColon "::" ∷ on 6 kind.Name "q0" ∷
    on 6 kind.BangBang "!!" ∷ on 6 kind.Number "0" ∷ on 6 kind.Semicolon ";" ∷ on 6 kind.Printf "printf" ∷ on 6 kind.OpenParen "(" ∷
    on 6 kind.Quoted "\"p %o\\n\"" ∷ on 6 kind.Comma "," ∷ on 6 kind.Name "k" ∷ on 6 kind.CloseParen ")" ∷
    on 6 kind.DoubleColon "::" ∷ on 6 kind.Break "break" ∷ on 6 kind.Od "od" ∷ on 6 kind.Semicolon ";" ∷ on 6 kind.If "if" ∷
    on 6 kind.DoubleColon "::" ∷ on 6 kind.Timeout "timeout" ∷ on 6 kind.Arrow "->" ∷ on 6 kind.Skip "skip" ∷
    on 6 kind.DoubleColon "::" ∷ on 6 kind.Name "_nr_pr" ∷ on 6 kind.Equal "==" ∷ on 6 kind.Number "1" ∷ on 6 kind.Arrow "->" ∷
    on 6 kind.Skip "skip" ∷ on 6 kind.Fi "fi" ∷ on 6 kind.Semicolon ";" ∷ on 6 kind.Printf "printf" ∷ on 6 kind.OpenParen "(" ∷
    on 6 kind.Quoted "\"%d %d\\n\"" ∷ on 6 kind.Comma "," ∷ on 6 kind.Name "i0" ∷ on 6 kind.Comma "," ∷ on 6 kind.Name "b1" ∷
    on 6 kind.CloseParen ")" ∷ on 6 kind.CloseBrace "}" ∷ []

model-spin-17 : Program
unfolding tokens-spin-17
model-spin-17 =
    let at : ℕ → Word = token_at tokens-spin-17 in
    let part : ℕ → ℕ → List Word = tokens_between tokens-spin-17 in
    record {
      globals = (slot (at 1) int false 0 1 1 (initial.Value (number 2)) ∷ slot (at 6) byte false 1 1 1 initial.Zero ∷ slot (at 9)
          short true 2 3 1 initial.Zero ∷ slot (at 15) chan false 5 1 1 (initial.Channel 2 (int ∷ [])) ∷ []);
      constants = [];
      typedefs = [];
      proctypes = (
          process (at 26) 5 0 1 (slot (at 29) byte false 0 1 1 initial.Zero ∷ slot (at 33) byte false 1 1 1 initial.Zero ∷ slot (at 36)
          byte false 2 1 1 (initial.Value (number 4)) ∷ []) (
          plain (part 40 47) (assign (global 1 byte) (expr.Binary op.ShiftLeft (read (global 1 byte)) (number 5))) ∷
          plain (part 48 54) (assign (in_global 2 short (turn 0 3 1 (Some (number 1)) ∷ [])) (read (local 1 byte))) ∷
          atomic (part 55 68) (
          plain (part 57 63) (action.Printf (at 59) ((read (local 0 byte)) ∷ [])) ∷
          plain (part 64 67) (assign (global 1 byte) (number 2)) ∷ []) ∷
          plain (part 69 77) (action.Printf (at 71) ((read (local 1 byte)) ∷ (read (local 2 byte)) ∷ [])) ∷ []) (at 77) ∷
          process (at 78) 6 1 0 (slot (at 81) byte false 0 1 1 initial.Zero ∷ []) (
          plain (part 83 88) (action.Run (run 0 ((number 2) ∷ []))) ∷
          plain (part 89 94) (action.Run (run 0 ((number 2) ∷ []))) ∷
          do_od (part 95 110) (
          (plain (part 97 100) (action.Send (global 3 chan) Sorted ((number 0) ∷ [])) ∷
          plain (part 101 107) (action.Printf (at 103) ((read (local 0 byte)) ∷ [])) ∷ []) ∷
          (stmt [] Break (part 108 109) ∷ []) ∷ []) ∷
          if_fi (part 111 123) (
          (plain (part 113 114) (holds expr.Timeout) ∷
          plain (part 115 116) (holds (number 1)) ∷ []) ∷
          (plain (part 117 120) (holds (expr.Binary op.Equal expr.ProcessCount (number 1))) ∷
          plain (part 121 122) (holds (number 1)) ∷ []) ∷ []) ∷
          plain (part 124 132) (action.Printf (at 126) ((read (global 0 int)) ∷ (read (global 1 byte)) ∷ [])) ∷ []) (at 132) ∷ []);
    }

prints-spin-17 : printed model-spin-17 21 (2 ∷ 1 ∷ 4 ∷ 4 ∷ 4 ∷ 4 ∷ 1 ∷ 2 ∷ 2 ∷ 3 ∷ 2 ∷ 2 ∷ 2 ∷ [])
    ≡ Some (shown (text (
    "at 2\n" ∷
    "P0 ends 0 4\n" ∷
    "at 2\n" ∷
    "P0 ends 0 4\n" ∷
    "p 0\n" ∷
    "2 2\n" ∷
    [])) Valid)
unfolding computes model-spin-17
prints-spin-17 = prints model-spin-17 21 (2 ∷ 1 ∷ 4 ∷ 4 ∷ 4 ∷ 4 ∷ 1 ∷ 2 ∷ 2 ∷ 3 ∷ 2 ∷ 2 ∷ 2 ∷ []) _ refl

-- mtype = { red, green, blue }; mtype m = green;
-- bit t0 = 0;
-- bit t1;
-- short s2 = 3;
-- typedef T { byte f; short g[2] }; T r;
-- chan q0 = [2] of { byte };
-- chan q1 = [1] of { byte, mtype };
-- proctype P0(byte n) { byte k; short v = 0; r.f = (~3); printf("P0 ends %d %d\n", k, v) }
-- init { byte k; run P0(1); run P0(4); if :: t1 = 100 :: nfull(q1) -> s2-- :: else -> assert(7 > (300 + 300)) fi; printf("= %x %o\n",
--     r.f, t1); if :: timeout -> skip :: _nr_pr == 1 -> skip fi; printf("%d %d %d %d %d\n", t0, t1, s2, r.f, r.g[1]) }
tokens-spin-18 : List Word
tokens-spin-18 =
    on 1 kind.Mtype "mtype" ∷ on 1 kind.Assign "=" ∷ on 1 kind.OpenBrace "{" ∷ on 1 kind.Name "red" ∷ on 1 kind.Comma "," ∷
    on 1 kind.Name "green" ∷ on 1 kind.Comma "," ∷ on 1 kind.Name "blue" ∷ on 1 kind.CloseBrace "}" ∷ on 1 kind.Semicolon ";" ∷
    on 1 kind.Mtype "mtype" ∷ on 1 kind.Name "m" ∷ on 1 kind.Assign "=" ∷ on 1 kind.Name "green" ∷ on 1 kind.Semicolon ";" ∷
    on 2 kind.Bit "bit" ∷ on 2 kind.Name "t0" ∷ on 2 kind.Assign "=" ∷ on 2 kind.Number "0" ∷ on 2 kind.Semicolon ";" ∷
    on 3 kind.Bit "bit" ∷ on 3 kind.Name "t1" ∷ on 3 kind.Semicolon ";" ∷ on 4 kind.Short "short" ∷ on 4 kind.Name "s2" ∷
    on 4 kind.Assign "=" ∷ on 4 kind.Number "3" ∷ on 4 kind.Semicolon ";" ∷ on 5 kind.Typedef "typedef" ∷ on 5 kind.Name "T" ∷
    on 5 kind.OpenBrace "{" ∷ on 5 kind.Byte "byte" ∷ on 5 kind.Name "f" ∷ on 5 kind.Semicolon ";" ∷ on 5 kind.Short "short" ∷
    on 5 kind.Name "g" ∷ on 5 kind.OpenBracket "[" ∷ on 5 kind.Number "2" ∷ on 5 kind.CloseBracket "]" ∷ on 5 kind.CloseBrace "}" ∷
    on 5 kind.Semicolon ";" ∷ on 5 kind.Name "T" ∷ on 5 kind.Name "r" ∷ on 5 kind.Semicolon ";" ∷ on 6 kind.Chan "chan" ∷
    on 6 kind.Name "q0" ∷ on 6 kind.Assign "=" ∷ on 6 kind.OpenBracket "[" ∷ on 6 kind.Number "2" ∷ on 6 kind.CloseBracket "]" ∷
    on 6 kind.Of "of" ∷ on 6 kind.OpenBrace "{" ∷ on 6 kind.Byte "byte" ∷ on 6 kind.CloseBrace "}" ∷ on 6 kind.Semicolon ";" ∷
    on 7 kind.Chan "chan" ∷ on 7 kind.Name "q1" ∷ on 7 kind.Assign "=" ∷ on 7 kind.OpenBracket "[" ∷ on 7 kind.Number "1" ∷
    on 7 kind.CloseBracket "]" ∷ on 7 kind.Of "of" ∷ on 7 kind.OpenBrace "{" ∷ on 7 kind.Byte "byte" ∷ on 7 kind.Comma "," ∷
    on 7 kind.Mtype "mtype" ∷ on 7 kind.CloseBrace "}" ∷ on 7 kind.Semicolon ";" ∷ on 8 kind.Proctype "proctype" ∷
    on 8 kind.Name "P0" ∷ on 8 kind.OpenParen "(" ∷ on 8 kind.Byte "byte" ∷ on 8 kind.Name "n" ∷ on 8 kind.CloseParen ")" ∷
    on 8 kind.OpenBrace "{" ∷ on 8 kind.Byte "byte" ∷ on 8 kind.Name "k" ∷ on 8 kind.Semicolon ";" ∷ on 8 kind.Short "short" ∷
    on 8 kind.Name "v" ∷ on 8 kind.Assign "=" ∷ on 8 kind.Number "0" ∷ on 8 kind.Semicolon ";" ∷ on 8 kind.Name "r" ∷
    on 8 kind.Dot "." ∷ on 8 kind.Name "f" ∷ on 8 kind.Assign "=" ∷ on 8 kind.OpenParen "(" ∷ on 8 kind.Tilde "~" ∷
    on 8 kind.Number "3" ∷ on 8 kind.CloseParen ")" ∷ on 8 kind.Semicolon ";" ∷ on 8 kind.Printf "printf" ∷ on 8 kind.OpenParen "(" ∷
    on 8 kind.Quoted "\"P0 ends %d %d\\n\"" ∷ on 8 kind.Comma "," ∷ on 8 kind.Name "k" ∷ on 8 kind.Comma "," ∷ on 8 kind.Name "v" ∷
    on 8 kind.CloseParen ")" ∷ on 8 kind.CloseBrace "}" ∷ on 9 kind.Init "init" ∷ on 9 kind.OpenBrace "{" ∷ on 9 kind.Byte "byte" ∷
    on 9 kind.Name "k" ∷ on 9 kind.Semicolon ";" ∷ on 9 kind.Run "run" ∷ on 9 kind.Name "P0" ∷ on 9 kind.OpenParen "(" ∷
    on 9 kind.Number "1" ∷ on 9 kind.CloseParen ")" ∷ on 9 kind.Semicolon ";" ∷ on 9 kind.Run "run" ∷ on 9 kind.Name "P0" ∷
    on 9 kind.OpenParen "(" ∷ on 9 kind.Number "4" ∷ on 9 kind.CloseParen ")" ∷ on 9 kind.Semicolon ";" ∷ on 9 kind.If "if" ∷
    on 9 kind.DoubleColon "::" ∷ on 9 kind.Name "t1" ∷ on 9 kind.Assign "=" ∷ on 9 kind.Number "100" ∷ on 9 kind.DoubleColon "::" ∷
    on 9 kind.Nfull "nfull" ∷ on 9 kind.OpenParen "(" ∷ on 9 kind.Name "q1" ∷ on 9 kind.CloseParen ")" ∷ on 9 kind.Arrow "->" ∷
    on 9 kind.Name "s2" ∷ on 9 kind.Decrement "--" ∷ on 9 kind.DoubleColon "::" ∷ on 9 kind.Else "else" ∷ on 9 kind.Arrow "->" ∷
    on 9 kind.Assert "assert" ∷ on 9 kind.OpenParen "(" ∷ on 9 kind.Number "7" ∷ on 9 kind.Greater ">" ∷ on 9 kind.OpenParen "(" ∷
    on 9 kind.Number "300" ∷ on 9 kind.Plus "+" ∷ on 9 kind.Number "300" ∷ on 9 kind.CloseParen ")" ∷ on 9 kind.CloseParen ")" ∷
    on 9 kind.Fi "fi" ∷ on 9 kind.Semicolon ";" ∷ on 9 kind.Printf "printf" ∷ on 9 kind.OpenParen "(" ∷
    on 9 kind.Quoted "\"= %x %o\\n\"" ∷ on 9 kind.Comma "," ∷ on 9 kind.Name "r" ∷ on 9 kind.Dot "." ∷ on 9 kind.Name "f" ∷
    on 9 kind.Comma "," ∷ on 9 kind.Name "t1" ∷ on 9 kind.CloseParen ")" ∷ on 9 kind.Semicolon ";" ∷ on 9 kind.If "if" ∷
    on 9 kind.DoubleColon "::" ∷ on 9 kind.Timeout "timeout" ∷ on 9 kind.Arrow "->" ∷ on 9 kind.Skip "skip" ∷
    on 9 kind.DoubleColon "::" ∷ on 9 kind.Name "_nr_pr" ∷ on 9 kind.Equal "==" ∷ on 9 kind.Number "1" ∷ on 9 kind.Arrow "->" ∷
    on 9 kind.Skip "skip" ∷ on 9 kind.Fi "fi" ∷ on 9 kind.Semicolon ";" ∷ on 9 kind.Printf "printf" ∷ on 9 kind.OpenParen "(" ∷
    on 9 kind.Quoted "\"%d %d %d %d %d\\n\"" ∷ on 9 kind.Comma "," ∷ on 9 kind.Name "t0" ∷ on 9 kind.Comma "," ∷
    on 9 kind.Name "t1" ∷ on 9 kind.Comma "," ∷ on 9 kind.Name "s2" ∷ on 9 kind.Comma "," ∷ on 9 kind.Name "r" ∷ on 9 kind.Dot "." ∷
    on 9 kind.Name "f" ∷ on 9 kind.Comma "," ∷ on 9 kind.Name "r" ∷ on 9 kind.Dot "." ∷ on 9 kind.Name "g" ∷
    on 9 kind.OpenBracket "[" ∷ on 9 kind.Number "1" ∷ on 9 kind.CloseBracket "]" ∷ on 9 kind.CloseParen ")" ∷
    on 9 kind.CloseBrace "}" ∷ []

model-spin-18 : Program
unfolding tokens-spin-18
model-spin-18 =
    let at : ℕ → Word = token_at tokens-spin-18 in
    let part : ℕ → ℕ → List Word = tokens_between tokens-spin-18 in
    record {
      globals = (slot (at 11) mtype false 0 1 1 (initial.Value (number 2)) ∷ slot (at 16) bit false 1 1 1 (initial.Value (number 0)) ∷
          slot (at 21) bit false 2 1 1 initial.Zero ∷ slot (at 24) short false 3 1 1 (initial.Value (number 3)) ∷ slot (at 42)
          (form.Struct 6) false 4 1 3 initial.Zero ∷ slot (at 45) chan false 7 1 1 (initial.Channel 2 (byte ∷ [])) ∷ slot (at 56) chan
          false 8 1 1 (initial.Channel 1 (byte ∷ mtype ∷ [])) ∷ []);
      constants = ((at 7) ∷ (at 5) ∷ (at 3) ∷ []);
      typedefs = (fields 6 (slot (at 32) byte false 0 1 1 initial.Zero ∷ slot (at 35) short true 1 2 1 initial.Zero ∷ []) ∷ []);
      proctypes = (
          process (at 69) 10 0 1 (slot (at 72) byte false 0 1 1 initial.Zero ∷ slot (at 76) byte false 1 1 1 initial.Zero ∷ slot (at 79)
          short false 2 1 1 (initial.Value (number 0)) ∷ []) (
          plain (part 83 91) (assign (in_global 4 byte (turn 0 1 3 None ∷ turn 0 1 1 None ∷ [])) (expr.Unary before.Complement (number 3))) ∷
          plain (part 92 100) (action.Printf (at 94) ((read (local 1 byte)) ∷ (read (local 2 short)) ∷ [])) ∷ []) (at 100) ∷
          process (at 101) 11 1 0 (slot (at 104) byte false 0 1 1 initial.Zero ∷ []) (
          plain (part 106 111) (action.Run (run 0 ((number 1) ∷ []))) ∷
          plain (part 112 117) (action.Run (run 0 ((number 4) ∷ []))) ∷
          if_fi (part 118 145) (
          (plain (part 120 123) (assign (global 2 bit) (number 100)) ∷ []) ∷
          (plain (part 124 128) (holds (expr.Ask fill.IsNotFull (global 6 chan))) ∷
          plain (part 129 131) (action.Decrement (global 3 short)) ∷ []) ∷
          (plain (part 132 133) action.Else ∷
          plain (part 134 144) (action.Assert (expr.Binary op.Above (number 7) (expr.Binary op.Plus (number 300) (number 300)))) ∷ []) ∷ []) ∷
          plain (part 146 156) (action.Printf (at 148) ((read (in_global 4 byte (turn 0 1 3 None ∷ turn 0 1 1 None ∷ []))) ∷ (read
          (global 2 bit)) ∷ [])) ∷
          if_fi (part 157 169) (
          (plain (part 159 160) (holds expr.Timeout) ∷
          plain (part 161 162) (holds (number 1)) ∷ []) ∷
          (plain (part 163 166) (holds (expr.Binary op.Equal expr.ProcessCount (number 1))) ∷
          plain (part 167 168) (holds (number 1)) ∷ []) ∷ []) ∷
          plain (part 170 191) (action.Printf (at 172) ((read (global 1 bit)) ∷ (read (global 2 bit)) ∷ (read (global 3 short)) ∷ (read
          (in_global 4 byte (turn 0 1 3 None ∷ turn 0 1 1 None ∷ []))) ∷ (read (in_global 4 short (turn 0 1 3 None ∷ turn 1 2 1 (Some
          (number 1)) ∷ []))) ∷ [])) ∷ []) (at 191) ∷ []);
    }

prints-spin-18 : printed model-spin-18 15 (1 ∷ 4 ∷ 2 ∷ 1 ∷ 1 ∷ 1 ∷ 1 ∷ [])
    ≡ Some (shown (text (
    "= fc 0\n" ∷
    "P0 ends 0 0\n" ∷
    "P0 ends 0 0\n" ∷
    "0 0 2 252 0\n" ∷
    [])) Valid)
unfolding computes model-spin-18
prints-spin-18 = prints model-spin-18 15 (1 ∷ 4 ∷ 2 ∷ 1 ∷ 1 ∷ 1 ∷ 1 ∷ []) _ refl
