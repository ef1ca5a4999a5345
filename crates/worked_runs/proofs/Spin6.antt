-- What Spin printed of random models, of runs by chance. `tools/spin-theorems` made the models and their data.
use Rattle.std.proofs.Common.{◌≡◌, ℕ, List, [], ◌∷◌, true, false, refl, Some, None}
use Rattle.std.specs.Prelude.{pos}
use Rattle.pml_token.specs.Word.{Word}
use Rattle.pml_tree.specs.declared.tree.Search.TheVariants.{First, Matching}
use Rattle.pml_tree.specs.declared.tree.Removal.TheVariants.{Remove}
use Rattle.pml_tree.specs.declared.tree.SendOrder.TheVariants.{Fifo, Sorted}
use Rattle.pml_program.specs.declared.program.Program.{Program}
use Rattle.pml_program.specs.declared.program.Basic.{Break}
use Rattle.worked_runs.proofs.Models.{on, token_at, tokens_between, bit, byte, chan, mtype, short, int, slot, fields, turn, in_global, local, global, number, read, run, assign, holds, stmt, plain, block, atomic, d_step, if_fi, do_od, unless, process, text}
use Rattle.worked_runs.proofs.Same.{computes}
use Rattle.diagnostics.specs.declared.fault.Fault.TheVariants.{AssertionViolated}
use Rattle.worked_runs.specs.Printed.{printed, Valid, Invalid, Fails}
use Rattle.worked_runs.proofs.Same.{prints}
use Rattle.worked_runs.proofs.Models.{shown}
use Rattle.pml_token.specs.declared.token.Kind.TheVariants as kind
use Rattle.pml_tree.specs.declared.tree.Infix.TheVariants as op
use Rattle.pml_tree.specs.declared.tree.Prefix.TheVariants as before
use Rattle.pml_tree.specs.declared.tree.Fill.TheVariants as fill
use Rattle.pml_program.specs.declared.form.Form.TheVariants as form
use Rattle.pml_program.specs.declared.expr.Expr.TheVariants as expr
use Rattle.pml_program.specs.declared.expr.Want.TheVariants as want
use Rattle.pml_program.specs.declared.program.Initial.TheVariants as initial
use Rattle.pml_program.specs.declared.program.Action.TheVariants as action

-- byte b0 = 0;
-- byte b1;
-- short a[2];
-- typedef T { byte f; short g[2] }; T r;
-- proctype P0(byte n) { byte k; byte v = 0; a[(b1 & 1)]++; printf("P0 ends %d %d\n", k, v) }
-- proctype P1(byte n) { byte k; byte v = 5; a[1]--; k = a[1]; printf("P1 ends %d %d\n", k, v) }
-- init { byte k; run P0(0); run P1(4); printf("p %d %d\n", b0, r.f); if :: b0 = r.g[1] fi; if :: timeout -> skip :: _nr_pr == 1 ->
--     skip fi; printf("%d %d %d %d\n", b0, b1, r.f, r.g[1]) }
tokens-spin-83 : List Word
tokens-spin-83 =
    on 1 kind.Byte "byte" ∷ on 1 kind.Name "b0" ∷ on 1 kind.Assign "=" ∷ on 1 kind.Number "0" ∷ on 1 kind.Semicolon ";" ∷
    on 2 kind.Byte "byte" ∷ on 2 kind.Name "b1" ∷ on 2 kind.Semicolon ";" ∷ on 3 kind.Short "short" ∷ on 3 kind.Name "a" ∷
    on 3 kind.OpenBracket "[" ∷ on 3 kind.Number "2" ∷ on 3 kind.CloseBracket "]" ∷ on 3 kind.Semicolon ";" ∷
    on 4 kind.Typedef "typedef" ∷ on 4 kind.Name "T" ∷ on 4 kind.OpenBrace "{" ∷ on 4 kind.Byte "byte" ∷ on 4 kind.Name "f" ∷
    on 4 kind.Semicolon ";" ∷ on 4 kind.Short "short" ∷ on 4 kind.Name "g" ∷ on 4 kind.OpenBracket "[" ∷ on 4 kind.Number "2" ∷
    on 4 kind.CloseBracket "]" ∷ on 4 kind.CloseBrace "}" ∷ on 4 kind.Semicolon ";" ∷ on 4 kind.Name "T" ∷ on 4 kind.Name "r" ∷
    on 4 kind.Semicolon ";" ∷ on 5 kind.Proctype "proctype" ∷ on 5 kind.Name "P0" ∷ on 5 kind.OpenParen "(" ∷ on 5 kind.Byte "byte" ∷
    on 5 kind.Name "n" ∷ on 5 kind.CloseParen ")" ∷ on 5 kind.OpenBrace "{" ∷ on 5 kind.Byte "byte" ∷ on 5 kind.Name "k" ∷
    on 5 kind.Semicolon ";" ∷ on 5 kind.Byte "byte" ∷ on 5 kind.Name "v" ∷ on 5 kind.Assign "=" ∷ on 5 kind.Number "0" ∷
    on 5 kind.Semicolon ";" ∷ on 5 kind.Name "a" ∷ on 5 kind.OpenBracket "[" ∷ on 5 kind.OpenParen "(" ∷ on 5 kind.Name "b1" ∷
    on 5 kind.Ampersand "&" ∷ on 5 kind.Number "1" ∷ on 5 kind.CloseParen ")" ∷ on 5 kind.CloseBracket "]" ∷
    on 5 kind.Increment "++" ∷ on 5 kind.Semicolon ";" ∷ on 5 kind.Printf "printf" ∷ on 5 kind.OpenParen "(" ∷
    on 5 kind.Quoted "\"P0 ends %d %d\\n\"" ∷ on 5 kind.Comma "," ∷ on 5 kind.Name "k" ∷ on 5 kind.Comma "," ∷ on 5 kind.Name "v" ∷
    on 5 kind.CloseParen ")" ∷ on 5 kind.CloseBrace "}" ∷ on 6 kind.Proctype "proctype" ∷ on 6 kind.Name "P1" ∷
    on 6 kind.OpenParen "(" ∷ on 6 kind.Byte "byte" ∷ on 6 kind.Name "n" ∷ on 6 kind.CloseParen ")" ∷ on 6 kind.OpenBrace "{" ∷
    on 6 kind.Byte "byte" ∷ on 6 kind.Name "k" ∷ on 6 kind.Semicolon ";" ∷ on 6 kind.Byte "byte" ∷ on 6 kind.Name "v" ∷
    on 6 kind.Assign "=" ∷ on 6 kind.Number "5" ∷ on 6 kind.Semicolon ";" ∷ on 6 kind.Name "a" ∷ on 6 kind.OpenBracket "[" ∷
    on 6 kind.Number "1" ∷ on 6 kind.CloseBracket "]" ∷ on 6 kind.Decrement "--" ∷ on 6 kind.Semicolon ";" ∷ on 6 kind.Name "k" ∷
    on 6 kind.Assign "=" ∷ on 6 kind.Name "a" ∷ on 6 kind.OpenBracket "[" ∷ on 6 kind.Number "1" ∷ on 6 kind.CloseBracket "]" ∷
    on 6 kind.Semicolon ";" ∷ on 6 kind.Printf "printf" ∷ on 6 kind.OpenParen "(" ∷ on 6 kind.Quoted "\"P1 ends %d %d\\n\"" ∷
    on 6 kind.Comma "," ∷ on 6 kind.Name "k" ∷ on 6 kind.Comma "," ∷ on 6 kind.Name "v" ∷ on 6 kind.CloseParen ")" ∷
    on 6 kind.CloseBrace "}" ∷ on 7 kind.Init "init" ∷ on 7 kind.OpenBrace "{" ∷ on 7 kind.Byte "byte" ∷ on 7 kind.Name "k" ∷
    on 7 kind.Semicolon ";" ∷ on 7 kind.Run "run" ∷ on 7 kind.Name "P0" ∷ on 7 kind.OpenParen "(" ∷ on 7 kind.Number "0" ∷
    on 7 kind.CloseParen ")" ∷ on 7 kind.Semicolon ";" ∷ on 7 kind.Run "run" ∷ on 7 kind.Name "P1" ∷ on 7 kind.OpenParen "(" ∷
    on 7 kind.Number "4" ∷ on 7 kind.CloseParen ")" ∷ on 7 kind.Semicolon ";" ∷ on 7 kind.Printf "printf" ∷ on 7 kind.OpenParen "(" ∷
    on 7 kind.Quoted "\"p %d %d\\n\"" ∷ on 7 kind.Comma "," ∷ on 7 kind.Name "b0" ∷ on 7 kind.Comma "," ∷ on 7 kind.Name "r" ∷
    on 7 kind.Dot "." ∷ on 7 kind.Name "f" ∷ on 7 kind.CloseParen ")" ∷ on 7 kind.Semicolon ";" ∷ on 7 kind.If "if" ∷
    on 7 kind.DoubleColon "::" ∷ on 7 kind.Name "b0" ∷ on 7 kind.Assign "=" ∷ on 7 kind.Name "r" ∷ on 7 kind.Dot "." ∷
    on 7 kind.Name "g" ∷ on 7 kind.OpenBracket "[" ∷ on 7 kind.Number "1" ∷ on 7 kind.CloseBracket "]" ∷ on 7 kind.Fi "fi" ∷
    on 7 kind.Semicolon ";" ∷ on 7 kind.If "if" ∷ on 7 kind.DoubleColon "::" ∷ on 7 kind.Timeout "timeout" ∷ on 7 kind.Arrow "->" ∷
    on 7 kind.Skip "skip" ∷ on 7 kind.DoubleColon "::" ∷ on 7 kind.Name "_nr_pr" ∷ on 7 kind.Equal "==" ∷ on 7 kind.Number "1" ∷
    on 7 kind.Arrow "->" ∷ on 7 kind.Skip "skip" ∷ on 7 kind.Fi "fi" ∷ on 7 kind.Semicolon ";" ∷ on 7 kind.Printf "printf" ∷
    on 7 kind.OpenParen "(" ∷ on 7 kind.Quoted "\"%d %d %d %d\\n\"" ∷ on 7 kind.Comma "," ∷ on 7 kind.Name "b0" ∷
    on 7 kind.Comma "," ∷ on 7 kind.Name "b1" ∷ on 7 kind.Comma "," ∷ on 7 kind.Name "r" ∷ on 7 kind.Dot "." ∷ on 7 kind.Name "f" ∷
    on 7 kind.Comma "," ∷ on 7 kind.Name "r" ∷ on 7 kind.Dot "." ∷ on 7 kind.Name "g" ∷ on 7 kind.OpenBracket "[" ∷
    on 7 kind.Number "1" ∷ on 7 kind.CloseBracket "]" ∷ on 7 kind.CloseParen ")" ∷ on 7 kind.CloseBrace "}" ∷ []

model-spin-83 : Program
unfolding tokens-spin-83
model-spin-83 =
    let at : ℕ → Word = token_at tokens-spin-83 in
    let part : ℕ → ℕ → List Word = tokens_between tokens-spin-83 in
    record {
      globals = (slot (at 1) byte false 0 1 1 (initial.Value (number 0)) ∷ slot (at 6) byte false 1 1 1 initial.Zero ∷ slot (at 9)
          short true 2 2 1 initial.Zero ∷ slot (at 28) (form.Struct 4) false 4 1 3 initial.Zero ∷ []);
      constants = [];
      typedefs = (fields 4 (slot (at 18) byte false 0 1 1 initial.Zero ∷ slot (at 21) short true 1 2 1 initial.Zero ∷ []) ∷ []);
      proctypes = (
          process (at 31) 6 0 1 (slot (at 34) byte false 0 1 1 initial.Zero ∷ slot (at 38) byte false 1 1 1 initial.Zero ∷ slot (at 41)
          byte false 2 1 1 (initial.Value (number 0)) ∷ []) (
          plain (part 45 54) (action.Increment (in_global 2 short (turn 0 2 1 (Some (expr.Binary op.BitAnd (read (global 1 byte))
          (number 1))) ∷ []))) ∷
          plain (part 55 63) (action.Printf (at 57) ((read (local 1 byte)) ∷ (read (local 2 byte)) ∷ [])) ∷ []) (at 63) ∷
          process (at 65) 7 0 1 (slot (at 68) byte false 0 1 1 initial.Zero ∷ slot (at 72) byte false 1 1 1 initial.Zero ∷ slot (at 75)
          byte false 2 1 1 (initial.Value (number 5)) ∷ []) (
          plain (part 79 84) (action.Decrement (in_global 2 short (turn 0 2 1 (Some (number 1)) ∷ []))) ∷
          plain (part 85 91) (assign (local 1 byte) (read (in_global 2 short (turn 0 2 1 (Some (number 1)) ∷ [])))) ∷
          plain (part 92 100) (action.Printf (at 94) ((read (local 1 byte)) ∷ (read (local 2 byte)) ∷ [])) ∷ []) (at 100) ∷
          process (at 101) 8 1 0 (slot (at 104) byte false 0 1 1 initial.Zero ∷ []) (
          plain (part 106 111) (action.Run (run 0 ((number 0) ∷ []))) ∷
          plain (part 112 117) (action.Run (run 1 ((number 4) ∷ []))) ∷
          plain (part 118 128) (action.Printf (at 120) ((read (global 0 byte)) ∷ (read (in_global 3 byte (turn 0 1 3 None ∷ turn 0 1 1
          None ∷ []))) ∷ [])) ∷
          if_fi (part 129 140) (
          (plain (part 131 139) (assign (global 0 byte) (read (in_global 3 short (turn 0 1 3 None ∷ turn 1 2 1 (Some (number 1)) ∷
          [])))) ∷ []) ∷ []) ∷
          if_fi (part 141 153) (
          (plain (part 143 144) (holds expr.Timeout) ∷
          plain (part 145 146) (holds (number 1)) ∷ []) ∷
          (plain (part 147 150) (holds (expr.Binary op.Equal expr.ProcessCount (number 1))) ∷
          plain (part 151 152) (holds (number 1)) ∷ []) ∷ []) ∷
          plain (part 154 173) (action.Printf (at 156) ((read (global 0 byte)) ∷ (read (global 1 byte)) ∷ (read (in_global 3 byte (turn
          0 1 3 None ∷ turn 0 1 1 None ∷ []))) ∷ (read (in_global 3 short (turn 0 1 3 None ∷ turn 1 2 1 (Some (number 1)) ∷ []))) ∷
          [])) ∷ []) (at 173) ∷ []);
    }

prints-spin-83 : printed model-spin-83 15 (2 ∷ 1 ∷ 2 ∷ 2 ∷ 2 ∷ 2 ∷ 1 ∷ 1 ∷ [])
    ≡ Some (shown (text (
    "P0 ends 0 0\n" ∷
    "P1 ends 255 5\n" ∷
    "p 0 0\n" ∷
    "0 0 0 0\n" ∷
    [])) Valid)
unfolding computes model-spin-83
prints-spin-83 = prints model-spin-83 15 (2 ∷ 1 ∷ 2 ∷ 2 ∷ 2 ∷ 2 ∷ 1 ∷ 1 ∷ []) _ refl

-- bit t0 = 1;
-- chan q0 = [2] of { int };
-- chan q1 = [1] of { int };
-- proctype P0(byte n) { byte k; int v = 1; k = n; if :: empty(q0) -> q0!(1 * 1); skip :: if :: q1??_; v = k fi :: else -> t0 = k fi;
--     atomic { n = (k & 1) }; printf("P0 ends %d %d\n", k, v) }
-- proctype P1(byte n) { byte k; short v = 4; atomic { printf("at %u\n", t0); printf("p %x\n", k) }; printf("P1 ends %d %d\n", k, v) }
-- init { byte k; run P1(0); q1?eval(t0); for (k : 1 .. 2) { printf("at %d\n", t0); (t0 < (1 + 1)) }; if :: timeout -> skip :: _nr_pr
--     == 1 -> skip fi; printf("%d\n", t0) }
tokens-spin-84 : List Word
tokens-spin-84 =
    on 1 kind.Bit "bit" ∷ on 1 kind.Name "t0" ∷ on 1 kind.Assign "=" ∷ on 1 kind.Number "1" ∷ on 1 kind.Semicolon ";" ∷
    on 2 kind.Chan "chan" ∷ on 2 kind.Name "q0" ∷ on 2 kind.Assign "=" ∷ on 2 kind.OpenBracket "[" ∷ on 2 kind.Number "2" ∷
    on 2 kind.CloseBracket "]" ∷ on 2 kind.Of "of" ∷ on 2 kind.OpenBrace "{" ∷ on 2 kind.Int "int" ∷ on 2 kind.CloseBrace "}" ∷
    on 2 kind.Semicolon ";" ∷ on 3 kind.Chan "chan" ∷ on 3 kind.Name "q1" ∷ on 3 kind.Assign "=" ∷ on 3 kind.OpenBracket "[" ∷
    on 3 kind.Number "1" ∷ on 3 kind.CloseBracket "]" ∷ on 3 kind.Of "of" ∷ on 3 kind.OpenBrace "{" ∷ on 3 kind.Int "int" ∷
    on 3 kind.CloseBrace "}" ∷ on 3 kind.Semicolon ";" ∷ on 4 kind.Proctype "proctype" ∷ on 4 kind.Name "P0" ∷
    on 4 kind.OpenParen "(" ∷ on 4 kind.Byte "byte" ∷ on 4 kind.Name "n" ∷ on 4 kind.CloseParen ")" ∷ on 4 kind.OpenBrace "{" ∷
    on 4 kind.Byte "byte" ∷ on 4 kind.Name "k" ∷ on 4 kind.Semicolon ";" ∷ on 4 kind.Int "int" ∷ on 4 kind.Name "v" ∷
    on 4 kind.Assign "=" ∷ on 4 kind.Number "1" ∷ on 4 kind.Semicolon ";" ∷ on 4 kind.Name "k" ∷ on 4 kind.Assign "=" ∷
    on 4 kind.Name "n" ∷ on 4 kind.Semicolon ";" ∷ on 4 kind.If "if" ∷ on 4 kind.DoubleColon "::" ∷ on 4 kind.Empty "empty" ∷
    on 4 kind.OpenParen "(" ∷ on 4 kind.Name "q0" ∷ on 4 kind.CloseParen ")" ∷ on 4 kind.Arrow "->" ∷ on 4 kind.Name "q0" ∷
    on 4 kind.Bang "!" ∷ on 4 kind.OpenParen "(" ∷ on 4 kind.Number "1" ∷ on 4 kind.Star "*" ∷ on 4 kind.Number "1" ∷
    on 4 kind.CloseParen ")" ∷ on 4 kind.Semicolon ";" ∷ on 4 kind.Skip "skip" ∷ on 4 kind.DoubleColon "::" ∷ on 4 kind.If "if" ∷
    on 4 kind.DoubleColon "::" ∷ on 4 kind.Name "q1" ∷ on 4 kind.QueryQuery "??" ∷ on 4 kind.Name "_" ∷ on 4 kind.Semicolon ";" ∷
    on 4 kind.Name "v" ∷ on 4 kind.Assign "=" ∷ on 4 kind.Name "k" ∷ on 4 kind.Fi "fi" ∷ on 4 kind.DoubleColon "::" ∷
    on 4 kind.Else "else" ∷ on 4 kind.Arrow "->" ∷ on 4 kind.Name "t0" ∷ on 4 kind.Assign "=" ∷ on 4 kind.Name "k" ∷
    on 4 kind.Fi "fi" ∷ on 4 kind.Semicolon ";" ∷ on 4 kind.Atomic "atomic" ∷ on 4 kind.OpenBrace "{" ∷ on 4 kind.Name "n" ∷
    on 4 kind.Assign "=" ∷ on 4 kind.OpenParen "(" ∷ on 4 kind.Name "k" ∷ on 4 kind.Ampersand "&" ∷ on 4 kind.Number "1" ∷
    on 4 kind.CloseParen ")" ∷ on 4 kind.CloseBrace "}" ∷ on 4 kind.Semicolon ";" ∷ on 4 kind.Printf "printf" ∷
    on 4 kind.OpenParen "(" ∷ on 4 kind.Quoted "\"P0 ends %d %d\\n\"" ∷ on 4 kind.Comma "," ∷ on 4 kind.Name "k" ∷
    on 4 kind.Comma "," ∷ on 4 kind.Name "v" ∷ on 4 kind.CloseParen ")" ∷ on 4 kind.CloseBrace "}" ∷ on 5 kind.Proctype "proctype" ∷
    on 5 kind.Name "P1" ∷ on 5 kind.OpenParen "(" ∷ on 5 kind.Byte "byte" ∷ on 5 kind.Name "n" ∷ on 5 kind.CloseParen ")" ∷
    on 5 kind.OpenBrace "{" ∷ on 5 kind.Byte "byte" ∷ on 5 kind.Name "k" ∷ on 5 kind.Semicolon ";" ∷ on 5 kind.Short "short" ∷
    on 5 kind.Name "v" ∷ on 5 kind.Assign "=" ∷ on 5 kind.Number "4" ∷ on 5 kind.Semicolon ";" ∷ on 5 kind.Atomic "atomic" ∷
    on 5 kind.OpenBrace "{" ∷ on 5 kind.Printf "printf" ∷ on 5 kind.OpenParen "(" ∷ on 5 kind.Quoted "\"at %u\\n\"" ∷
    on 5 kind.Comma "," ∷ on 5 kind.Name "t0" ∷ on 5 kind.CloseParen ")" ∷ on 5 kind.Semicolon ";" ∷ on 5 kind.Printf "printf" ∷
    on 5 kind.OpenParen "(" ∷ on 5 kind.Quoted "\"p %x\\n\"" ∷ on 5 kind.Comma "," ∷ on 5 kind.Name "k" ∷ on 5 kind.CloseParen ")" ∷
    on 5 kind.CloseBrace "}" ∷ on 5 kind.Semicolon ";" ∷ on 5 kind.Printf "printf" ∷ on 5 kind.OpenParen "(" ∷
    on 5 kind.Quoted "\"P1 ends %d %d\\n\"" ∷ on 5 kind.Comma "," ∷ on 5 kind.Name "k" ∷ on 5 kind.Comma "," ∷ on 5 kind.Name "v" ∷
    on 5 kind.CloseParen ")" ∷ on 5 kind.CloseBrace "}" ∷ on 6 kind.Init "init" ∷ on 6 kind.OpenBrace "{" ∷ on 6 kind.Byte "byte" ∷
    on 6 kind.Name "k" ∷ on 6 kind.Semicolon ";" ∷ on 6 kind.Run "run" ∷ on 6 kind.Name "P1" ∷ on 6 kind.OpenParen "(" ∷
    on 6 kind.Number "0" ∷ on 6 kind.CloseParen ")" ∷ on 6 kind.Semicolon ";" ∷ on 6 kind.Name "q1" ∷ on 6 kind.Query "?" ∷
    on 6 kind.Eval "eval" ∷ on 6 kind.OpenParen "(" ∷ on 6 kind.Name "t0" ∷ on 6 kind.CloseParen ")" ∷ on 6 kind.Semicolon ";" ∷
    on 6 kind.For "for" ∷ on 6 kind.OpenParen "(" ∷ on 6 kind.Name "k" ∷ on 6 kind.Colon ":" ∷ on 6 kind.Number "1" ∷
    on 6 kind.DotDot ".." ∷ on 6 kind.Number "2" ∷ on 6 kind.CloseParen ")" ∷ on 6 kind.OpenBrace "{" ∷ on 6 kind.Printf "printf" ∷
    on 6 kind.OpenParen "(" ∷ on 6 kind.Quoted "\"at %d\\n\"" ∷ on 6 kind.Comma "," ∷ on 6 kind.Name "t0" ∷
    on 6 kind.CloseParen ")" ∷ on 6 kind.Semicolon ";" ∷ on 6 kind.OpenParen "(" ∷ on 6 kind.Name "t0" ∷ on 6 kind.Less "<" ∷
    on 6 kind.OpenParen "(" ∷ on 6 kind.Number "1" ∷ on 6 kind.Plus "+" ∷ on 6 kind.Number "1" ∷ on 6 kind.CloseParen ")" ∷
    on 6 kind.CloseParen ")" ∷ on 6 kind.CloseBrace "}" ∷ on 6 kind.Semicolon ";" ∷ on 6 kind.If "if" ∷ on 6 kind.DoubleColon "::" ∷
    on 6 kind.Timeout "timeout" ∷ on 6 kind.Arrow "->" ∷ on 6 kind.Skip "skip" ∷ on 6 kind.DoubleColon "::" ∷
    on 6 kind.Name "_nr_pr" ∷ on 6 kind.Equal "==" ∷ on 6 kind.Number "1" ∷ on 6 kind.Arrow "->" ∷ on 6 kind.Skip "skip" ∷
    on 6 kind.Fi "fi" ∷ on 6 kind.Semicolon ";" ∷ on 6 kind.Printf "printf" ∷ on 6 kind.OpenParen "(" ∷
    on 6 kind.Quoted "\"%d\\n\"" ∷ on 6 kind.Comma "," ∷ on 6 kind.Name "t0" ∷ on 6 kind.CloseParen ")" ∷ on 6 kind.CloseBrace "}" ∷ []

model-spin-84 : Program
unfolding tokens-spin-84
model-spin-84 =
    let at : ℕ → Word = token_at tokens-spin-84 in
    let part : ℕ → ℕ → List Word = tokens_between tokens-spin-84 in
    record {
      globals = (slot (at 1) bit false 0 1 1 (initial.Value (number 1)) ∷ slot (at 6) chan false 1 1 1 (initial.Channel 2 (int ∷ []))
          ∷ slot (at 17) chan false 2 1 1 (initial.Channel 1 (int ∷ [])) ∷ []);
      constants = [];
      typedefs = [];
      proctypes = (
          process (at 28) 4 0 1 (slot (at 31) byte false 0 1 1 initial.Zero ∷ slot (at 35) byte false 1 1 1 initial.Zero ∷ slot (at 38)
          int false 2 1 1 (initial.Value (number 1)) ∷ []) (
          plain (part 42 45) (assign (local 1 byte) (read (local 0 byte))) ∷
          if_fi (part 46 80) (
          (plain (part 48 52) (holds (expr.Ask fill.IsEmpty (global 1 chan))) ∷
          plain (part 53 60) (action.Send (global 1 chan) Fifo ((expr.Binary op.Times (number 1) (number 1)) ∷ [])) ∷
          plain (part 61 62) (holds (number 1)) ∷ []) ∷
          (if_fi (part 63 73) (
          (plain (part 65 68) (action.Receive (global 2 chan) Matching Remove (want.Anything ∷ [])) ∷
          plain (part 69 72) (assign (local 2 int) (read (local 1 byte))) ∷ []) ∷ []) ∷ []) ∷
          (plain (part 74 75) action.Else ∷
          plain (part 76 79) (assign (global 0 bit) (read (local 1 byte))) ∷ []) ∷ []) ∷
          atomic (part 81 91) (
          plain (part 83 90) (assign (local 0 byte) (expr.Binary op.BitAnd (read (local 1 byte)) (number 1))) ∷ []) ∷
          plain (part 92 100) (action.Printf (at 94) ((read (local 1 byte)) ∷ (read (local 2 int)) ∷ [])) ∷ []) (at 100) ∷
          process (at 102) 5 0 1 (slot (at 105) byte false 0 1 1 initial.Zero ∷ slot (at 109) byte false 1 1 1 initial.Zero ∷ slot (at
          112) short false 2 1 1 (initial.Value (number 4)) ∷ []) (
          atomic (part 116 132) (
          plain (part 118 124) (action.Printf (at 120) ((read (global 0 bit)) ∷ [])) ∷
          plain (part 125 131) (action.Printf (at 127) ((read (local 1 byte)) ∷ [])) ∷ []) ∷
          plain (part 133 141) (action.Printf (at 135) ((read (local 1 byte)) ∷ (read (local 2 short)) ∷ [])) ∷ []) (at 141) ∷
          process (at 142) 6 1 0 (slot (at 145) byte false 0 1 1 initial.Zero ∷ []) (
          plain (part 147 152) (action.Run (run 1 ((number 0) ∷ []))) ∷
          plain (part 153 159) (action.Receive (global 2 chan) First Remove (want.Equal (read (global 0 bit)) ∷ [])) ∷
          block (part 160 186) (
          plain ((at 162) ∷ (on 6 kind.Assign "=") ∷ (at 164) ∷ []) (assign (local 0 byte) (number 1)) ∷
          do_od ((on 6 kind.Do "do") ∷ []) (
          (plain ((at 162) ∷ (on 6 kind.AtMost "<=") ∷ (at 166) ∷ []) (holds (expr.Binary op.AtMost (read (local 0 byte)) (number 2))) ∷
          plain (part 169 175) (action.Printf (at 171) ((read (global 0 bit)) ∷ [])) ∷
          plain (part 176 185) (holds (expr.Binary op.Below (read (global 0 bit)) (expr.Binary op.Plus (number 1) (number 1)))) ∷
          plain ((at 162) ∷ (on 6 kind.Increment "++") ∷ []) (action.Increment (local 0 byte)) ∷ []) ∷
          (plain ((on 6 kind.Else "else") ∷ []) action.Else ∷
          stmt [] Break ((on 6 kind.Break "break") ∷ []) ∷ []) ∷ []) ∷ []) ∷
          if_fi (part 187 199) (
          (plain (part 189 190) (holds expr.Timeout) ∷
          plain (part 191 192) (holds (number 1)) ∷ []) ∷
          (plain (part 193 196) (holds (expr.Binary op.Equal expr.ProcessCount (number 1))) ∷
          plain (part 197 198) (holds (number 1)) ∷ []) ∷ []) ∷
          plain (part 200 206) (action.Printf (at 202) ((read (global 0 bit)) ∷ [])) ∷ []) (at 206) ∷ []);
    }

prints-spin-84 : printed model-spin-84 5 ([])
    ≡ Some (shown (text (
    "at 1\n" ∷
    "p 0\n" ∷
    "P1 ends 0 4\n" ∷
    [])) Invalid)
unfolding computes model-spin-84
prints-spin-84 = prints model-spin-84 5 ([]) _ refl

-- unsigned u0 : 7;
-- chan q0 = [2] of { int };
-- chan q1 = [2] of { int };
-- proctype P0(byte n) { byte k; int v = 5; v = 2; q0!u0; (k > v); printf("P0 ends %d %d\n", k, v) }
-- init { byte k; run P0(0); run P0(0); printf("p %u %d\n", u0, k); if :: timeout -> skip :: _nr_pr == 1 -> skip fi; printf("%d\n",
--     u0) }
tokens-spin-86 : List Word
tokens-spin-86 =
    on 1 kind.Unsigned "unsigned" ∷ on 1 kind.Name "u0" ∷ on 1 kind.Colon ":" ∷ on 1 kind.Number "7" ∷ on 1 kind.Semicolon ";" ∷
    on 2 kind.Chan "chan" ∷ on 2 kind.Name "q0" ∷ on 2 kind.Assign "=" ∷ on 2 kind.OpenBracket "[" ∷ on 2 kind.Number "2" ∷
    on 2 kind.CloseBracket "]" ∷ on 2 kind.Of "of" ∷ on 2 kind.OpenBrace "{" ∷ on 2 kind.Int "int" ∷ on 2 kind.CloseBrace "}" ∷
    on 2 kind.Semicolon ";" ∷ on 3 kind.Chan "chan" ∷ on 3 kind.Name "q1" ∷ on 3 kind.Assign "=" ∷ on 3 kind.OpenBracket "[" ∷
    on 3 kind.Number "2" ∷ on 3 kind.CloseBracket "]" ∷ on 3 kind.Of "of" ∷ on 3 kind.OpenBrace "{" ∷ on 3 kind.Int "int" ∷
    on 3 kind.CloseBrace "}" ∷ on 3 kind.Semicolon ";" ∷ on 4 kind.Proctype "proctype" ∷ on 4 kind.Name "P0" ∷
    on 4 kind.OpenParen "(" ∷ on 4 kind.Byte "byte" ∷ on 4 kind.Name "n" ∷ on 4 kind.CloseParen ")" ∷ on 4 kind.OpenBrace "{" ∷
    on 4 kind.Byte "byte" ∷ on 4 kind.Name "k" ∷ on 4 kind.Semicolon ";" ∷ on 4 kind.Int "int" ∷ on 4 kind.Name "v" ∷
    on 4 kind.Assign "=" ∷ on 4 kind.Number "5" ∷ on 4 kind.Semicolon ";" ∷ on 4 kind.Name "v" ∷ on 4 kind.Assign "=" ∷
    on 4 kind.Number "2" ∷ on 4 kind.Semicolon ";" ∷ on 4 kind.Name "q0" ∷ on 4 kind.Bang "!" ∷ on 4 kind.Name "u0" ∷
    on 4 kind.Semicolon ";" ∷ on 4 kind.OpenParen "(" ∷ on 4 kind.Name "k" ∷ on 4 kind.Greater ">" ∷ on 4 kind.Name "v" ∷
    on 4 kind.CloseParen ")" ∷ on 4 kind.Semicolon ";" ∷ on 4 kind.Printf "printf" ∷ on 4 kind.OpenParen "(" ∷
    on 4 kind.Quoted "\"P0 ends %d %d\\n\"" ∷ on 4 kind.Comma "," ∷ on 4 kind.Name "k" ∷ on 4 kind.Comma "," ∷ on 4 kind.Name "v" ∷
    on 4 kind.CloseParen ")" ∷ on 4 kind.CloseBrace "}" ∷ on 5 kind.Init "init" ∷ on 5 kind.OpenBrace "{" ∷ on 5 kind.Byte "byte" ∷
    on 5 kind.Name "k" ∷ on 5 kind.Semicolon ";" ∷ on 5 kind.Run "run" ∷ on 5 kind.Name "P0" ∷ on 5 kind.OpenParen "(" ∷
    on 5 kind.Number "0" ∷ on 5 kind.CloseParen ")" ∷ on 5 kind.Semicolon ";" ∷ on 5 kind.Run "run" ∷ on 5 kind.Name "P0" ∷
    on 5 kind.OpenParen "(" ∷ on 5 kind.Number "0" ∷ on 5 kind.CloseParen ")" ∷ on 5 kind.Semicolon ";" ∷ on 5 kind.Printf "printf" ∷
    on 5 kind.OpenParen "(" ∷ on 5 kind.Quoted "\"p %u %d\\n\"" ∷ on 5 kind.Comma "," ∷ on 5 kind.Name "u0" ∷ on 5 kind.Comma "," ∷
    on 5 kind.Name "k" ∷ on 5 kind.CloseParen ")" ∷ on 5 kind.Semicolon ";" ∷ on 5 kind.If "if" ∷ on 5 kind.DoubleColon "::" ∷
    on 5 kind.Timeout "timeout" ∷ on 5 kind.Arrow "->" ∷ on 5 kind.Skip "skip" ∷ on 5 kind.DoubleColon "::" ∷
    on 5 kind.Name "_nr_pr" ∷ on 5 kind.Equal "==" ∷ on 5 kind.Number "1" ∷ on 5 kind.Arrow "->" ∷ on 5 kind.Skip "skip" ∷
    on 5 kind.Fi "fi" ∷ on 5 kind.Semicolon ";" ∷ on 5 kind.Printf "printf" ∷ on 5 kind.OpenParen "(" ∷
    on 5 kind.Quoted "\"%d\\n\"" ∷ on 5 kind.Comma "," ∷ on 5 kind.Name "u0" ∷ on 5 kind.CloseParen ")" ∷ on 5 kind.CloseBrace "}" ∷ []

model-spin-86 : Program
unfolding tokens-spin-86
model-spin-86 =
    let at : ℕ → Word = token_at tokens-spin-86 in
    let part : ℕ → ℕ → List Word = tokens_between tokens-spin-86 in
    record {
      globals = (slot (at 1) (form.Unsigned 7) false 0 1 1 initial.Zero ∷ slot (at 6) chan false 1 1 1 (initial.Channel 2 (int ∷ []))
          ∷ slot (at 17) chan false 2 1 1 (initial.Channel 2 (int ∷ [])) ∷ []);
      constants = [];
      typedefs = [];
      proctypes = (
          process (at 28) 4 0 1 (slot (at 31) byte false 0 1 1 initial.Zero ∷ slot (at 35) byte false 1 1 1 initial.Zero ∷ slot (at 38)
          int false 2 1 1 (initial.Value (number 5)) ∷ []) (
          plain (part 42 45) (assign (local 2 int) (number 2)) ∷
          plain (part 46 49) (action.Send (global 1 chan) Fifo ((read (global 0 (form.Unsigned 7))) ∷ [])) ∷
          plain (part 50 55) (holds (expr.Binary op.Above (read (local 1 byte)) (read (local 2 int)))) ∷
          plain (part 56 64) (action.Printf (at 58) ((read (local 1 byte)) ∷ (read (local 2 int)) ∷ [])) ∷ []) (at 64) ∷
          process (at 65) 5 1 0 (slot (at 68) byte false 0 1 1 initial.Zero ∷ []) (
          plain (part 70 75) (action.Run (run 0 ((number 0) ∷ []))) ∷
          plain (part 76 81) (action.Run (run 0 ((number 0) ∷ []))) ∷
          plain (part 82 90) (action.Printf (at 84) ((read (global 0 (form.Unsigned 7))) ∷ (read (local 0 byte)) ∷ [])) ∷
          if_fi (part 91 103) (
          (plain (part 93 94) (holds expr.Timeout) ∷
          plain (part 95 96) (holds (number 1)) ∷ []) ∷
          (plain (part 97 100) (holds (expr.Binary op.Equal expr.ProcessCount (number 1))) ∷
          plain (part 101 102) (holds (number 1)) ∷ []) ∷ []) ∷
          plain (part 104 110) (action.Printf (at 106) ((read (global 0 (form.Unsigned 7))) ∷ [])) ∷ []) (at 110) ∷ []);
    }

prints-spin-86 : printed model-spin-86 10 (1 ∷ 1 ∷ 1 ∷ 1 ∷ [])
    ≡ Some (shown (text (
    "p 0 0\n" ∷
    "0\n" ∷
    [])) Invalid)
unfolding computes model-spin-86
prints-spin-86 = prints model-spin-86 10 (1 ∷ 1 ∷ 1 ∷ 1 ∷ []) _ refl

-- mtype = { red, green, blue }; mtype m = green;
-- unsigned u0 : 3 = 2;
-- chan q0 = [2] of { byte };
-- chan q1 = [2] of { byte };
-- proctype P0(byte n) { byte k; byte v = 5; atomic { if :: printf("= %o %d\n", k, v) :: else -> k = 3 fi; k = (!k); u0 = 300 };
--     printf("P0 ends %d %d\n", k, v) }
-- proctype P1(byte n) { byte k; byte v = 0; skip; printf("P1 ends %d %d\n", k, v) }
-- init { byte k; run P1(2); run P0(1); atomic { q1??u0 }; { u0 = 2 } unless { (300 == k) -> printf("= %u\n", u0) }; if :: timeout ->
--     skip :: _nr_pr == 1 -> skip fi; printf("%d\n", u0) }
tokens-spin-87 : List Word
tokens-spin-87 =
    on 1 kind.Mtype "mtype" ∷ on 1 kind.Assign "=" ∷ on 1 kind.OpenBrace "{" ∷ on 1 kind.Name "red" ∷ on 1 kind.Comma "," ∷
    on 1 kind.Name "green" ∷ on 1 kind.Comma "," ∷ on 1 kind.Name "blue" ∷ on 1 kind.CloseBrace "}" ∷ on 1 kind.Semicolon ";" ∷
    on 1 kind.Mtype "mtype" ∷ on 1 kind.Name "m" ∷ on 1 kind.Assign "=" ∷ on 1 kind.Name "green" ∷ on 1 kind.Semicolon ";" ∷
    on 2 kind.Unsigned "unsigned" ∷ on 2 kind.Name "u0" ∷ on 2 kind.Colon ":" ∷ on 2 kind.Number "3" ∷ on 2 kind.Assign "=" ∷
    on 2 kind.Number "2" ∷ on 2 kind.Semicolon ";" ∷ on 3 kind.Chan "chan" ∷ on 3 kind.Name "q0" ∷ on 3 kind.Assign "=" ∷
    on 3 kind.OpenBracket "[" ∷ on 3 kind.Number "2" ∷ on 3 kind.CloseBracket "]" ∷ on 3 kind.Of "of" ∷ on 3 kind.OpenBrace "{" ∷
    on 3 kind.Byte "byte" ∷ on 3 kind.CloseBrace "}" ∷ on 3 kind.Semicolon ";" ∷ on 4 kind.Chan "chan" ∷ on 4 kind.Name "q1" ∷
    on 4 kind.Assign "=" ∷ on 4 kind.OpenBracket "[" ∷ on 4 kind.Number "2" ∷ on 4 kind.CloseBracket "]" ∷ on 4 kind.Of "of" ∷
    on 4 kind.OpenBrace "{" ∷ on 4 kind.Byte "byte" ∷ on 4 kind.CloseBrace "}" ∷ on 4 kind.Semicolon ";" ∷
    on 5 kind.Proctype "proctype" ∷ on 5 kind.Name "P0" ∷ on 5 kind.OpenParen "(" ∷ on 5 kind.Byte "byte" ∷ on 5 kind.Name "n" ∷
    on 5 kind.CloseParen ")" ∷ on 5 kind.OpenBrace "{" ∷ on 5 kind.Byte "byte" ∷ on 5 kind.Name "k" ∷ on 5 kind.Semicolon ";" ∷
    on 5 kind.Byte "byte" ∷ on 5 kind.Name "v" ∷ on 5 kind.Assign "=" ∷ on 5 kind.Number "5" ∷ on 5 kind.Semicolon ";" ∷
    on 5 kind.Atomic "atomic" ∷ on 5 kind.OpenBrace "{" ∷ on 5 kind.If "if" ∷ on 5 kind.DoubleColon "::" ∷
    on 5 kind.Printf "printf" ∷ on 5 kind.OpenParen "(" ∷ on 5 kind.Quoted "\"= %o %d\\n\"" ∷ on 5 kind.Comma "," ∷
    on 5 kind.Name "k" ∷ on 5 kind.Comma "," ∷ on 5 kind.Name "v" ∷ on 5 kind.CloseParen ")" ∷ on 5 kind.DoubleColon "::" ∷
    on 5 kind.Else "else" ∷ on 5 kind.Arrow "->" ∷ on 5 kind.Name "k" ∷ on 5 kind.Assign "=" ∷ on 5 kind.Number "3" ∷
    on 5 kind.Fi "fi" ∷ on 5 kind.Semicolon ";" ∷ on 5 kind.Name "k" ∷ on 5 kind.Assign "=" ∷ on 5 kind.OpenParen "(" ∷
    on 5 kind.Bang "!" ∷ on 5 kind.Name "k" ∷ on 5 kind.CloseParen ")" ∷ on 5 kind.Semicolon ";" ∷ on 5 kind.Name "u0" ∷
    on 5 kind.Assign "=" ∷ on 5 kind.Number "300" ∷ on 5 kind.CloseBrace "}" ∷ on 5 kind.Semicolon ";" ∷ on 5 kind.Printf "printf" ∷
    on 5 kind.OpenParen "(" ∷ on 5 kind.Quoted "\"P0 ends %d %d\\n\"" ∷ on 5 kind.Comma "," ∷ on 5 kind.Name "k" ∷
    on 5 kind.Comma "," ∷ on 5 kind.Name "v" ∷ on 5 kind.CloseParen ")" ∷ on 5 kind.CloseBrace "}" ∷ on 6 kind.Proctype "proctype" ∷
    on 6 kind.Name "P1" ∷ on 6 kind.OpenParen "(" ∷ on 6 kind.Byte "byte" ∷ on 6 kind.Name "n" ∷ on 6 kind.CloseParen ")" ∷
    on 6 kind.OpenBrace "{" ∷ on 6 kind.Byte "byte" ∷ on 6 kind.Name "k" ∷ on 6 kind.Semicolon ";" ∷ on 6 kind.Byte "byte" ∷
    on 6 kind.Name "v" ∷ on 6 kind.Assign "=" ∷ on 6 kind.Number "0" ∷ on 6 kind.Semicolon ";" ∷ on 6 kind.Skip "skip" ∷
    on 6 kind.Semicolon ";" ∷ on 6 kind.Printf "printf" ∷ on 6 kind.OpenParen "(" ∷ on 6 kind.Quoted "\"P1 ends %d %d\\n\"" ∷
    on 6 kind.Comma "," ∷ on 6 kind.Name "k" ∷ on 6 kind.Comma "," ∷ on 6 kind.Name "v" ∷ on 6 kind.CloseParen ")" ∷
    on 6 kind.CloseBrace "}" ∷ on 7 kind.Init "init" ∷ on 7 kind.OpenBrace "{" ∷ on 7 kind.Byte "byte" ∷ on 7 kind.Name "k" ∷
    on 7 kind.Semicolon ";" ∷ on 7 kind.Run "run" ∷ on 7 kind.Name "P1" ∷ on 7 kind.OpenParen "(" ∷ on 7 kind.Number "2" ∷
    on 7 kind.CloseParen ")" ∷ on 7 kind.Semicolon ";" ∷ on 7 kind.Run "run" ∷ on 7 kind.Name "P0" ∷ on 7 kind.OpenParen "(" ∷
    on 7 kind.Number "1" ∷ on 7 kind.CloseParen ")" ∷ on 7 kind.Semicolon ";" ∷ on 7 kind.Atomic "atomic" ∷ on 7 kind.OpenBrace "{" ∷
    on 7 kind.Name "q1" ∷ on 7 kind.QueryQuery "??" ∷ on 7 kind.Name "u0" ∷ on 7 kind.CloseBrace "}" ∷ on 7 kind.Semicolon ";" ∷
    on 7 kind.OpenBrace "{" ∷ on 7 kind.Name "u0" ∷ on 7 kind.Assign "=" ∷ on 7 kind.Number "2" ∷ on 7 kind.CloseBrace "}" ∷
    on 7 kind.Unless "unless" ∷ on 7 kind.OpenBrace "{" ∷ on 7 kind.OpenParen "(" ∷ on 7 kind.Number "300" ∷ on 7 kind.Equal "==" ∷
    on 7 kind.Name "k" ∷ on 7 kind.CloseParen ")" ∷ on 7 kind.Arrow "->" ∷ on 7 kind.Printf "printf" ∷ on 7 kind.OpenParen "(" ∷
    on 7 kind.Quoted "\"= %u\\n\"" ∷ on 7 kind.Comma "," ∷ on 7 kind.Name "u0" ∷ on 7 kind.CloseParen ")" ∷
    on 7 kind.CloseBrace "}" ∷ on 7 kind.Semicolon ";" ∷ on 7 kind.If "if" ∷ on 7 kind.DoubleColon "::" ∷
    on 7 kind.Timeout "timeout" ∷ on 7 kind.Arrow "->" ∷ on 7 kind.Skip "skip" ∷ on 7 kind.DoubleColon "::" ∷
    on 7 kind.Name "_nr_pr" ∷ on 7 kind.Equal "==" ∷ on 7 kind.Number "1" ∷ on 7 kind.Arrow "->" ∷ on 7 kind.Skip "skip" ∷
    on 7 kind.Fi "fi" ∷ on 7 kind.Semicolon ";" ∷ on 7 kind.Printf "printf" ∷ on 7 kind.OpenParen "(" ∷
    on 7 kind.Quoted "\"%d\\n\"" ∷ on 7 kind.Comma "," ∷ on 7 kind.Name "u0" ∷ on 7 kind.CloseParen ")" ∷ on 7 kind.CloseBrace "}" ∷ []

model-spin-87 : Program
unfolding tokens-spin-87
model-spin-87 =
    let at : ℕ → Word = token_at tokens-spin-87 in
    let part : ℕ → ℕ → List Word = tokens_between tokens-spin-87 in
    record {
      globals = (slot (at 11) mtype false 0 1 1 (initial.Value (number 2)) ∷ slot (at 16) (form.Unsigned 3) false 1 1 1 (initial.Value
          (number 2)) ∷ slot (at 23) chan false 2 1 1 (initial.Channel 2 (byte ∷ [])) ∷ slot (at 34) chan false 3 1 1 (initial.Channel 2
          (byte ∷ [])) ∷ []);
      constants = ((at 7) ∷ (at 5) ∷ (at 3) ∷ []);
      typedefs = [];
      proctypes = (
          process (at 45) 6 0 1 (slot (at 48) byte false 0 1 1 initial.Zero ∷ slot (at 52) byte false 1 1 1 initial.Zero ∷ slot (at 55)
          byte false 2 1 1 (initial.Value (number 5)) ∷ []) (
          atomic (part 59 90) (
          if_fi (part 61 78) (
          (plain (part 63 71) (action.Printf (at 65) ((read (local 1 byte)) ∷ (read (local 2 byte)) ∷ [])) ∷ []) ∷
          (plain (part 72 73) action.Else ∷
          plain (part 74 77) (assign (local 1 byte) (number 3)) ∷ []) ∷ []) ∷
          plain (part 79 85) (assign (local 1 byte) (expr.Unary before.Not (read (local 1 byte)))) ∷
          plain (part 86 89) (assign (global 1 (form.Unsigned 3)) (number 300)) ∷ []) ∷
          plain (part 91 99) (action.Printf (at 93) ((read (local 1 byte)) ∷ (read (local 2 byte)) ∷ [])) ∷ []) (at 99) ∷
          process (at 101) 7 0 1 (slot (at 104) byte false 0 1 1 initial.Zero ∷ slot (at 108) byte false 1 1 1 initial.Zero ∷ slot (at
          111) byte false 2 1 1 (initial.Value (number 0)) ∷ []) (
          plain (part 115 116) (holds (number 1)) ∷
          plain (part 117 125) (action.Printf (at 119) ((read (local 1 byte)) ∷ (read (local 2 byte)) ∷ [])) ∷ []) (at 125) ∷
          process (at 126) 8 1 0 (slot (at 129) byte false 0 1 1 initial.Zero ∷ []) (
          plain (part 131 136) (action.Run (run 1 ((number 2) ∷ []))) ∷
          plain (part 137 142) (action.Run (run 0 ((number 1) ∷ []))) ∷
          atomic (part 143 149) (
          plain (part 145 148) (action.Receive (global 3 chan) Matching Remove (want.Into (global 1 (form.Unsigned 3)) ∷ [])) ∷ []) ∷
          unless (part 150 170) (
          block (part 150 155) (
          plain (part 151 154) (assign (global 1 (form.Unsigned 3)) (number 2)) ∷ []) ∷ []) (
          block (part 156 170) (
          plain (part 157 162) (holds (expr.Binary op.Equal (number 300) (read (local 0 byte)))) ∷
          plain (part 163 169) (action.Printf (at 165) ((read (global 1 (form.Unsigned 3))) ∷ [])) ∷ []) ∷ []) ∷
          if_fi (part 171 183) (
          (plain (part 173 174) (holds expr.Timeout) ∷
          plain (part 175 176) (holds (number 1)) ∷ []) ∷
          (plain (part 177 180) (holds (expr.Binary op.Equal expr.ProcessCount (number 1))) ∷
          plain (part 181 182) (holds (number 1)) ∷ []) ∷ []) ∷
          plain (part 184 190) (action.Printf (at 186) ((read (global 1 (form.Unsigned 3))) ∷ [])) ∷ []) (at 190) ∷ []);
    }

prints-spin-87 : printed model-spin-87 10 (2 ∷ 2 ∷ 2 ∷ [])
    ≡ Some (shown (text (
    "P1 ends 0 0\n" ∷
    "= 0 5\n" ∷
    "P0 ends 1 5\n" ∷
    [])) Invalid)
unfolding computes model-spin-87
prints-spin-87 = prints model-spin-87 10 (2 ∷ 2 ∷ 2 ∷ []) _ refl

-- mtype = { red, green, blue }; mtype m = green;
-- int i0;
-- chan q0 = [2] of { byte };
-- chan q1 = [2] of { byte, mtype };
-- proctype P0(byte n) { byte k; byte v = 3; for (k : 1 .. 1) { printf("p %d %x\n", v, n) }; printf("P0 ends %d %d\n", k, v) }
-- init { byte k; run P0(1); run P0(3); i0 = ((-100) - k); if :: timeout -> skip :: _nr_pr == 1 -> skip fi; printf("%d\n", i0) }
tokens-spin-88 : List Word
tokens-spin-88 =
    on 1 kind.Mtype "mtype" ∷ on 1 kind.Assign "=" ∷ on 1 kind.OpenBrace "{" ∷ on 1 kind.Name "red" ∷ on 1 kind.Comma "," ∷
    on 1 kind.Name "green" ∷ on 1 kind.Comma "," ∷ on 1 kind.Name "blue" ∷ on 1 kind.CloseBrace "}" ∷ on 1 kind.Semicolon ";" ∷
    on 1 kind.Mtype "mtype" ∷ on 1 kind.Name "m" ∷ on 1 kind.Assign "=" ∷ on 1 kind.Name "green" ∷ on 1 kind.Semicolon ";" ∷
    on 2 kind.Int "int" ∷ on 2 kind.Name "i0" ∷ on 2 kind.Semicolon ";" ∷ on 3 kind.Chan "chan" ∷ on 3 kind.Name "q0" ∷
    on 3 kind.Assign "=" ∷ on 3 kind.OpenBracket "[" ∷ on 3 kind.Number "2" ∷ on 3 kind.CloseBracket "]" ∷ on 3 kind.Of "of" ∷
    on 3 kind.OpenBrace "{" ∷ on 3 kind.Byte "byte" ∷ on 3 kind.CloseBrace "}" ∷ on 3 kind.Semicolon ";" ∷ on 4 kind.Chan "chan" ∷
    on 4 kind.Name "q1" ∷ on 4 kind.Assign "=" ∷ on 4 kind.OpenBracket "[" ∷ on 4 kind.Number "2" ∷ on 4 kind.CloseBracket "]" ∷
    on 4 kind.Of "of" ∷ on 4 kind.OpenBrace "{" ∷ on 4 kind.Byte "byte" ∷ on 4 kind.Comma "," ∷ on 4 kind.Mtype "mtype" ∷
    on 4 kind.CloseBrace "}" ∷ on 4 kind.Semicolon ";" ∷ on 5 kind.Proctype "proctype" ∷ on 5 kind.Name "P0" ∷
    on 5 kind.OpenParen "(" ∷ on 5 kind.Byte "byte" ∷ on 5 kind.Name "n" ∷ on 5 kind.CloseParen ")" ∷ on 5 kind.OpenBrace "{" ∷
    on 5 kind.Byte "byte" ∷ on 5 kind.Name "k" ∷ on 5 kind.Semicolon ";" ∷ on 5 kind.Byte "byte" ∷ on 5 kind.Name "v" ∷
    on 5 kind.Assign "=" ∷ on 5 kind.Number "3" ∷ on 5 kind.Semicolon ";" ∷ on 5 kind.For "for" ∷ on 5 kind.OpenParen "(" ∷
    on 5 kind.Name "k" ∷ on 5 kind.Colon ":" ∷ on 5 kind.Number "1" ∷ on 5 kind.DotDot ".." ∷ on 5 kind.Number "1" ∷
    on 5 kind.CloseParen ")" ∷ on 5 kind.OpenBrace "{" ∷ on 5 kind.Printf "printf" ∷ on 5 kind.OpenParen "(" ∷
    on 5 kind.Quoted "\"p %d %x\\n\"" ∷ on 5 kind.Comma "," ∷ on 5 kind.Name "v" ∷ on 5 kind.Comma "," ∷ on 5 kind.Name "n" ∷
    on 5 kind.CloseParen ")" ∷ on 5 kind.CloseBrace "}" ∷ on 5 kind.Semicolon ";" ∷ on 5 kind.Printf "printf" ∷
    on 5 kind.OpenParen "(" ∷ on 5 kind.Quoted "\"P0 ends %d %d\\n\"" ∷ on 5 kind.Comma "," ∷ on 5 kind.Name "k" ∷
    on 5 kind.Comma "," ∷ on 5 kind.Name "v" ∷ on 5 kind.CloseParen ")" ∷ on 5 kind.CloseBrace "}" ∷ on 6 kind.Init "init" ∷
    on 6 kind.OpenBrace "{" ∷ on 6 kind.Byte "byte" ∷ on 6 kind.Name "k" ∷ on 6 kind.Semicolon ";" ∷ on 6 kind.Run "run" ∷
    on 6 kind.Name "P0" ∷ on 6 kind.OpenParen "(" ∷ on 6 kind.Number "1" ∷ on 6 kind.CloseParen ")" ∷ on 6 kind.Semicolon ";" ∷
    on 6 kind.Run "run" ∷ on 6 kind.Name "P0" ∷ on 6 kind.OpenParen "(" ∷ on 6 kind.Number "3" ∷ on 6 kind.CloseParen ")" ∷
    on 6 kind.Semicolon ";" ∷ on 6 kind.Name "i0" ∷ on 6 kind.Assign "=" ∷ on 6 kind.OpenParen "(" ∷ on 6 kind.OpenParen "(" ∷
    on 6 kind.Minus "-" ∷ on 6 kind.Number "100" ∷ on 6 kind.CloseParen ")" ∷ on 6 kind.Minus "-" ∷ on 6 kind.Name "k" ∷
    on 6 kind.CloseParen ")" ∷ on 6 kind.Semicolon ";" ∷ on 6 kind.If "if" ∷ on 6 kind.DoubleColon "::" ∷
    on 6 kind.Timeout "timeout" ∷ on 6 kind.Arrow "->" ∷ on 6 kind.Skip "skip" ∷ on 6 kind.DoubleColon "::" ∷
    on 6 kind.Name "_nr_pr" ∷ on 6 kind.Equal "==" ∷ on 6 kind.Number "1" ∷ on 6 kind.Arrow "->" ∷ on 6 kind.Skip "skip" ∷
    on 6 kind.Fi "fi" ∷ on 6 kind.Semicolon ";" ∷ on 6 kind.Printf "printf" ∷ on 6 kind.OpenParen "(" ∷
    on 6 kind.Quoted "\"%d\\n\"" ∷ on 6 kind.Comma "," ∷ on 6 kind.Name "i0" ∷ on 6 kind.CloseParen ")" ∷ on 6 kind.CloseBrace "}" ∷ []

model-spin-88 : Program
unfolding tokens-spin-88
model-spin-88 =
    let at : ℕ → Word = token_at tokens-spin-88 in
    let part : ℕ → ℕ → List Word = tokens_between tokens-spin-88 in
    record {
      globals = (slot (at 11) mtype false 0 1 1 (initial.Value (number 2)) ∷ slot (at 16) int false 1 1 1 initial.Zero ∷ slot (at 19)
          chan false 2 1 1 (initial.Channel 2 (byte ∷ [])) ∷ slot (at 30) chan false 3 1 1 (initial.Channel 2 (byte ∷ mtype ∷ [])) ∷
          []);
      constants = ((at 7) ∷ (at 5) ∷ (at 3) ∷ []);
      typedefs = [];
      proctypes = (
          process (at 43) 6 0 1 (slot (at 46) byte false 0 1 1 initial.Zero ∷ slot (at 50) byte false 1 1 1 initial.Zero ∷ slot (at 53)
          byte false 2 1 1 (initial.Value (number 3)) ∷ []) (
          block (part 57 75) (
          plain ((at 59) ∷ (on 5 kind.Assign "=") ∷ (at 61) ∷ []) (assign (local 1 byte) (number 1)) ∷
          do_od ((on 5 kind.Do "do") ∷ []) (
          (plain ((at 59) ∷ (on 5 kind.AtMost "<=") ∷ (at 63) ∷ []) (holds (expr.Binary op.AtMost (read (local 1 byte)) (number 1))) ∷
          plain (part 66 74) (action.Printf (at 68) ((read (local 2 byte)) ∷ (read (local 0 byte)) ∷ [])) ∷
          plain ((at 59) ∷ (on 5 kind.Increment "++") ∷ []) (action.Increment (local 1 byte)) ∷ []) ∷
          (plain ((on 5 kind.Else "else") ∷ []) action.Else ∷
          stmt [] Break ((on 5 kind.Break "break") ∷ []) ∷ []) ∷ []) ∷ []) ∷
          plain (part 76 84) (action.Printf (at 78) ((read (local 1 byte)) ∷ (read (local 2 byte)) ∷ [])) ∷ []) (at 84) ∷
          process (at 85) 7 1 0 (slot (at 88) byte false 0 1 1 initial.Zero ∷ []) (
          plain (part 90 95) (action.Run (run 0 ((number 1) ∷ []))) ∷
          plain (part 96 101) (action.Run (run 0 ((number 3) ∷ []))) ∷
          plain (part 102 112) (assign (global 1 int) (expr.Binary op.Minus (expr.Unary before.Minus (number 100)) (read (local 0 byte)))) ∷
          if_fi (part 113 125) (
          (plain (part 115 116) (holds expr.Timeout) ∷
          plain (part 117 118) (holds (number 1)) ∷ []) ∷
          (plain (part 119 122) (holds (expr.Binary op.Equal expr.ProcessCount (number 1))) ∷
          plain (part 123 124) (holds (number 1)) ∷ []) ∷ []) ∷
          plain (part 126 132) (action.Printf (at 128) ((read (global 1 int)) ∷ [])) ∷ []) (at 132) ∷ []);
    }

prints-spin-88 : printed model-spin-88 21 (1 ∷ 2 ∷ 3 ∷ 2 ∷ 3 ∷ 3 ∷ 3 ∷ 1 ∷ 1 ∷ 1 ∷ 1 ∷ 2 ∷ 2 ∷ 2 ∷ [])
    ≡ Some (shown (text (
    "p 3 3\n" ∷
    "p 3 1\n" ∷
    "P0 ends 2 3\n" ∷
    "P0 ends 2 3\n" ∷
    "-100\n" ∷
    [])) Valid)
unfolding computes model-spin-88
prints-spin-88 = prints model-spin-88 21 (1 ∷ 2 ∷ 3 ∷ 2 ∷ 3 ∷ 3 ∷ 3 ∷ 1 ∷ 1 ∷ 1 ∷ 1 ∷ 2 ∷ 2 ∷ 2 ∷ []) _ refl

-- mtype = { red, green, blue }; mtype m = green;
-- int i0 = 0;
-- short s1;
-- int i2;
-- byte a[3];
-- proctype P0(byte n) { byte k; short v = 2; printf("p %x %d\n", i0, k); printf("p %d %d\n", v, i2); d_step { a[(s1 & 1)] = 7; s1 =
--     (n >= k -> 2 : (2 | 7)) }; printf("P0 ends %d %d\n", k, v) }
-- proctype P1(byte n) { byte k; byte v = 5; atomic { if :: 1 == 3 -> printf("at %d %d\n", v, i0); assert((3 >> 3) < a[2]) :: skip fi;
--     printf("= %o %u\n", k, v) }; printf("P1 ends %d %d\n", k, v) }
-- init { byte k; run P1(1); s1 = s1; if :: timeout -> skip :: _nr_pr == 1 -> skip fi; printf("%d %d %d\n", i0, s1, i2) }
tokens-spin-89 : List Word
tokens-spin-89 =
    on 1 kind.Mtype "mtype" ∷ on 1 kind.Assign "=" ∷ on 1 kind.OpenBrace "{" ∷ on 1 kind.Name "red" ∷ on 1 kind.Comma "," ∷
    on 1 kind.Name "green" ∷ on 1 kind.Comma "," ∷ on 1 kind.Name "blue" ∷ on 1 kind.CloseBrace "}" ∷ on 1 kind.Semicolon ";" ∷
    on 1 kind.Mtype "mtype" ∷ on 1 kind.Name "m" ∷ on 1 kind.Assign "=" ∷ on 1 kind.Name "green" ∷ on 1 kind.Semicolon ";" ∷
    on 2 kind.Int "int" ∷ on 2 kind.Name "i0" ∷ on 2 kind.Assign "=" ∷ on 2 kind.Number "0" ∷ on 2 kind.Semicolon ";" ∷
    on 3 kind.Short "short" ∷ on 3 kind.Name "s1" ∷ on 3 kind.Semicolon ";" ∷ on 4 kind.Int "int" ∷ on 4 kind.Name "i2" ∷
    on 4 kind.Semicolon ";" ∷ on 5 kind.Byte "byte" ∷ on 5 kind.Name "a" ∷ on 5 kind.OpenBracket "[" ∷ on 5 kind.Number "3" ∷
    on 5 kind.CloseBracket "]" ∷ on 5 kind.Semicolon ";" ∷ on 6 kind.Proctype "proctype" ∷ on 6 kind.Name "P0" ∷
    on 6 kind.OpenParen "(" ∷ on 6 kind.Byte "byte" ∷ on 6 kind.Name "n" ∷ on 6 kind.CloseParen ")" ∷ on 6 kind.OpenBrace "{" ∷
    on 6 kind.Byte "byte" ∷ on 6 kind.Name "k" ∷ on 6 kind.Semicolon ";" ∷ on 6 kind.Short "short" ∷ on 6 kind.Name "v" ∷
    on 6 kind.Assign "=" ∷ on 6 kind.Number "2" ∷ on 6 kind.Semicolon ";" ∷ on 6 kind.Printf "printf" ∷ on 6 kind.OpenParen "(" ∷
    on 6 kind.Quoted "\"p %x %d\\n\"" ∷ on 6 kind.Comma "," ∷ on 6 kind.Name "i0" ∷ on 6 kind.Comma "," ∷ on 6 kind.Name "k" ∷
    on 6 kind.CloseParen ")" ∷ on 6 kind.Semicolon ";" ∷ on 6 kind.Printf "printf" ∷ on 6 kind.OpenParen "(" ∷
    on 6 kind.Quoted "\"p %d %d\\n\"" ∷ on 6 kind.Comma "," ∷ on 6 kind.Name "v" ∷ on 6 kind.Comma "," ∷ on 6 kind.Name "i2" ∷
    on 6 kind.CloseParen ")" ∷ on 6 kind.Semicolon ";" ∷ on 6 kind.DStep "d_step" ∷ on 6 kind.OpenBrace "{" ∷ on 6 kind.Name "a" ∷
    on 6 kind.OpenBracket "[" ∷ on 6 kind.OpenParen "(" ∷ on 6 kind.Name "s1" ∷ on 6 kind.Ampersand "&" ∷ on 6 kind.Number "1" ∷
    on 6 kind.CloseParen ")" ∷ on 6 kind.CloseBracket "]" ∷ on 6 kind.Assign "=" ∷ on 6 kind.Number "7" ∷ on 6 kind.Semicolon ";" ∷
    on 6 kind.Name "s1" ∷ on 6 kind.Assign "=" ∷ on 6 kind.OpenParen "(" ∷ on 6 kind.Name "n" ∷ on 6 kind.AtLeast ">=" ∷
    on 6 kind.Name "k" ∷ on 6 kind.Arrow "->" ∷ on 6 kind.Number "2" ∷ on 6 kind.Colon ":" ∷ on 6 kind.OpenParen "(" ∷
    on 6 kind.Number "2" ∷ on 6 kind.Bar "|" ∷ on 6 kind.Number "7" ∷ on 6 kind.CloseParen ")" ∷ on 6 kind.CloseParen ")" ∷
    on 6 kind.CloseBrace "}" ∷ on 6 kind.Semicolon ";" ∷ on 6 kind.Printf "printf" ∷ on 6 kind.OpenParen "(" ∷
    on 6 kind.Quoted "\"P0 ends %d %d\\n\"" ∷ on 6 kind.Comma "," ∷ on 6 kind.Name "k" ∷ on 6 kind.Comma "," ∷ on 6 kind.Name "v" ∷
    on 6 kind.CloseParen ")" ∷ on 6 kind.CloseBrace "}" ∷ on 7 kind.Proctype "proctype" ∷ on 7 kind.Name "P1" ∷
    on 7 kind.OpenParen "(" ∷ on 7 kind.Byte "byte" ∷ on 7 kind.Name "n" ∷ on 7 kind.CloseParen ")" ∷ on 7 kind.OpenBrace "{" ∷
    on 7 kind.Byte "byte" ∷ on 7 kind.Name "k" ∷ on 7 kind.Semicolon ";" ∷ on 7 kind.Byte "byte" ∷ on 7 kind.Name "v" ∷
    on 7 kind.Assign "=" ∷ on 7 kind.Number "5" ∷ on 7 kind.Semicolon ";" ∷ on 7 kind.Atomic "atomic" ∷ on 7 kind.OpenBrace "{" ∷
    on 7 kind.If "if" ∷ on 7 kind.DoubleColon "::" ∷ on 7 kind.Number "1" ∷ on 7 kind.Equal "==" ∷ on 7 kind.Number "3" ∷
    on 7 kind.Arrow "->" ∷ on 7 kind.Printf "printf" ∷ on 7 kind.OpenParen "(" ∷ on 7 kind.Quoted "\"at %d %d\\n\"" ∷
    on 7 kind.Comma "," ∷ on 7 kind.Name "v" ∷ on 7 kind.Comma "," ∷ on 7 kind.Name "i0" ∷ on 7 kind.CloseParen ")" ∷
    on 7 kind.Semicolon ";" ∷ on 7 kind.Assert "assert" ∷ on 7 kind.OpenParen "(" ∷ on 7 kind.OpenParen "(" ∷ on 7 kind.Number "3" ∷
    on 7 kind.ShiftRight ">>" ∷ on 7 kind.Number "3" ∷ on 7 kind.CloseParen ")" ∷ on 7 kind.Less "<" ∷ on 7 kind.Name "a" ∷
    on 7 kind.OpenBracket "[" ∷ on 7 kind.Number "2" ∷ on 7 kind.CloseBracket "]" ∷ on 7 kind.CloseParen ")" ∷
    on 7 kind.DoubleColon "::" ∷ on 7 kind.Skip "skip" ∷ on 7 kind.Fi "fi" ∷ on 7 kind.Semicolon ";" ∷ on 7 kind.Printf "printf" ∷
    on 7 kind.OpenParen "(" ∷ on 7 kind.Quoted "\"= %o %u\\n\"" ∷ on 7 kind.Comma "," ∷ on 7 kind.Name "k" ∷ on 7 kind.Comma "," ∷
    on 7 kind.Name "v" ∷ on 7 kind.CloseParen ")" ∷ on 7 kind.CloseBrace "}" ∷ on 7 kind.Semicolon ";" ∷ on 7 kind.Printf "printf" ∷
    on 7 kind.OpenParen "(" ∷ on 7 kind.Quoted "\"P1 ends %d %d\\n\"" ∷ on 7 kind.Comma "," ∷ on 7 kind.Name "k" ∷
    on 7 kind.Comma "," ∷ on 7 kind.Name "v" ∷ on 7 kind.CloseParen ")" ∷ on 7 kind.CloseBrace "}" ∷ on 8 kind.Init "init" ∷
    on 8 kind.OpenBrace "{" ∷ on 8 kind.Byte "byte" ∷ on 8 kind.Name "k" ∷ on 8 kind.Semicolon ";" ∷ on 8 kind.Run "run" ∷
    on 8 kind.Name "P1" ∷ on 8 kind.OpenParen "(" ∷ on 8 kind.Number "1" ∷ on 8 kind.CloseParen ")" ∷ on 8 kind.Semicolon ";" ∷
    on 8 kind.Name "s1" ∷ on 8 kind.Assign "=" ∷ on 8 kind.Name "s1" ∷ on 8 kind.Semicolon ";" ∷ on 8 kind.If "if" ∷
    on 8 kind.DoubleColon "::" ∷ on 8 kind.Timeout "timeout" ∷ on 8 kind.Arrow "->" ∷ on 8 kind.Skip "skip" ∷
    on 8 kind.DoubleColon "::" ∷ on 8 kind.Name "_nr_pr" ∷ on 8 kind.Equal "==" ∷ on 8 kind.Number "1" ∷ on 8 kind.Arrow "->" ∷
    on 8 kind.Skip "skip" ∷ on 8 kind.Fi "fi" ∷ on 8 kind.Semicolon ";" ∷ on 8 kind.Printf "printf" ∷ on 8 kind.OpenParen "(" ∷
    on 8 kind.Quoted "\"%d %d %d\\n\"" ∷ on 8 kind.Comma "," ∷ on 8 kind.Name "i0" ∷ on 8 kind.Comma "," ∷ on 8 kind.Name "s1" ∷
    on 8 kind.Comma "," ∷ on 8 kind.Name "i2" ∷ on 8 kind.CloseParen ")" ∷ on 8 kind.CloseBrace "}" ∷ []

model-spin-89 : Program
unfolding tokens-spin-89
model-spin-89 =
    let at : ℕ → Word = token_at tokens-spin-89 in
    let part : ℕ → ℕ → List Word = tokens_between tokens-spin-89 in
    record {
      globals = (slot (at 11) mtype false 0 1 1 (initial.Value (number 2)) ∷ slot (at 16) int false 1 1 1 (initial.Value (number 0)) ∷
          slot (at 21) short false 2 1 1 initial.Zero ∷ slot (at 24) int false 3 1 1 initial.Zero ∷ slot (at 27) byte true 4 3 1
          initial.Zero ∷ []);
      constants = ((at 7) ∷ (at 5) ∷ (at 3) ∷ []);
      typedefs = [];
      proctypes = (
          process (at 33) 7 0 1 (slot (at 36) byte false 0 1 1 initial.Zero ∷ slot (at 40) byte false 1 1 1 initial.Zero ∷ slot (at 43)
          short false 2 1 1 (initial.Value (number 2)) ∷ []) (
          plain (part 47 55) (action.Printf (at 49) ((read (global 1 int)) ∷ (read (local 1 byte)) ∷ [])) ∷
          plain (part 56 64) (action.Printf (at 58) ((read (local 2 short)) ∷ (read (global 3 int)) ∷ [])) ∷
          d_step (part 65 94) (
          plain (part 67 77) (assign (in_global 4 byte (turn 0 3 1 (Some (expr.Binary op.BitAnd (read (global 2 short)) (number 1))) ∷
          [])) (number 7)) ∷
          plain (part 78 93) (assign (global 2 short) (expr.Choice (expr.Binary op.AtLeast (read (local 0 byte)) (read (local 1 byte)))
          (number 2) (expr.Binary op.BitOr (number 2) (number 7)))) ∷ []) ∷
          plain (part 95 103) (action.Printf (at 97) ((read (local 1 byte)) ∷ (read (local 2 short)) ∷ [])) ∷ []) (at 103) ∷
          process (at 105) 8 0 1 (slot (at 108) byte false 0 1 1 initial.Zero ∷ slot (at 112) byte false 1 1 1 initial.Zero ∷ slot (at
          115) byte false 2 1 1 (initial.Value (number 5)) ∷ []) (
          atomic (part 119 162) (
          if_fi (part 121 152) (
          (plain (part 123 126) (holds (expr.Binary op.Equal (number 1) (number 3))) ∷
          plain (part 127 135) (action.Printf (at 129) ((read (local 2 byte)) ∷ (read (global 1 int)) ∷ [])) ∷
          plain (part 136 149) (action.Assert (expr.Binary op.Below (expr.Binary op.ShiftRight (number 3) (number 3)) (read (in_global 4
          byte (turn 0 3 1 (Some (number 2)) ∷ []))))) ∷ []) ∷
          (plain (part 150 151) (holds (number 1)) ∷ []) ∷ []) ∷
          plain (part 153 161) (action.Printf (at 155) ((read (local 1 byte)) ∷ (read (local 2 byte)) ∷ [])) ∷ []) ∷
          plain (part 163 171) (action.Printf (at 165) ((read (local 1 byte)) ∷ (read (local 2 byte)) ∷ [])) ∷ []) (at 171) ∷
          process (at 172) 9 1 0 (slot (at 175) byte false 0 1 1 initial.Zero ∷ []) (
          plain (part 177 182) (action.Run (run 1 ((number 1) ∷ []))) ∷
          plain (part 183 186) (assign (global 2 short) (read (global 2 short))) ∷
          if_fi (part 187 199) (
          (plain (part 189 190) (holds expr.Timeout) ∷
          plain (part 191 192) (holds (number 1)) ∷ []) ∷
          (plain (part 193 196) (holds (expr.Binary op.Equal expr.ProcessCount (number 1))) ∷
          plain (part 197 198) (holds (number 1)) ∷ []) ∷ []) ∷
          plain (part 200 210) (action.Printf (at 202) ((read (global 1 int)) ∷ (read (global 2 short)) ∷ (read (global 3 int)) ∷ [])) ∷
          []) (at 210) ∷ []);
    }

prints-spin-89 : printed model-spin-89 10 (2 ∷ 2 ∷ 2 ∷ [])
    ≡ Some (shown (text (
    "= 0 5\n" ∷
    "P1 ends 0 5\n" ∷
    "0 0 0\n" ∷
    [])) Valid)
unfolding computes model-spin-89
prints-spin-89 = prints model-spin-89 10 (2 ∷ 2 ∷ 2 ∷ []) _ refl

-- mtype = { red, green, blue }; mtype m = green;
-- bit t0;
-- chan q0 = [2] of { short, byte };
-- proctype P0(byte n) { byte k; byte v = 0; q0!!v, t0; n = 1; printf("P0 ends %d %d\n", k, v) }
-- proctype P1(byte n) { byte k; short v = 2; t0 = 100; q0?eval(t0), 2; d_step { k = 7; v = t0 }; printf("P1 ends %d %d\n", k, v) }
-- init { byte k; run P1(4); run P0(2); k++; if :: timeout -> skip :: _nr_pr == 1 -> skip fi; printf("%d\n", t0) }
tokens-spin-90 : List Word
tokens-spin-90 =
    on 1 kind.Mtype "mtype" ∷ on 1 kind.Assign "=" ∷ on 1 kind.OpenBrace "{" ∷ on 1 kind.Name "red" ∷ on 1 kind.Comma "," ∷
    on 1 kind.Name "green" ∷ on 1 kind.Comma "," ∷ on 1 kind.Name "blue" ∷ on 1 kind.CloseBrace "}" ∷ on 1 kind.Semicolon ";" ∷
    on 1 kind.Mtype "mtype" ∷ on 1 kind.Name "m" ∷ on 1 kind.Assign "=" ∷ on 1 kind.Name "green" ∷ on 1 kind.Semicolon ";" ∷
    on 2 kind.Bit "bit" ∷ on 2 kind.Name "t0" ∷ on 2 kind.Semicolon ";" ∷ on 3 kind.Chan "chan" ∷ on 3 kind.Name "q0" ∷
    on 3 kind.Assign "=" ∷ on 3 kind.OpenBracket "[" ∷ on 3 kind.Number "2" ∷ on 3 kind.CloseBracket "]" ∷ on 3 kind.Of "of" ∷
    on 3 kind.OpenBrace "{" ∷ on 3 kind.Short "short" ∷ on 3 kind.Comma "," ∷ on 3 kind.Byte "byte" ∷ on 3 kind.CloseBrace "}" ∷
    on 3 kind.Semicolon ";" ∷ on 4 kind.Proctype "proctype" ∷ on 4 kind.Name "P0" ∷ on 4 kind.OpenParen "(" ∷ on 4 kind.Byte "byte" ∷
    on 4 kind.Name "n" ∷ on 4 kind.CloseParen ")" ∷ on 4 kind.OpenBrace "{" ∷ on 4 kind.Byte "byte" ∷ on 4 kind.Name "k" ∷
    on 4 kind.Semicolon ";" ∷ on 4 kind.Byte "byte" ∷ on 4 kind.Name "v" ∷ on 4 kind.Assign "=" ∷ on 4 kind.Number "0" ∷
    on 4 kind.Semicolon ";" ∷ on 4 kind.Name "q0" ∷ on 4 kind.BangBang "!!" ∷ on 4 kind.Name "v" ∷ on 4 kind.Comma "," ∷
    on 4 kind.Name "t0" ∷ on 4 kind.Semicolon ";" ∷ on 4 kind.Name "n" ∷ on 4 kind.Assign "=" ∷ on 4 kind.Number "1" ∷
    on 4 kind.Semicolon ";" ∷ on 4 kind.Printf "printf" ∷ on 4 kind.OpenParen "(" ∷ on 4 kind.Quoted "\"P0 ends %d %d\\n\"" ∷
    on 4 kind.Comma "," ∷ on 4 kind.Name "k" ∷ on 4 kind.Comma "," ∷ on 4 kind.Name "v" ∷ on 4 kind.CloseParen ")" ∷
    on 4 kind.CloseBrace "}" ∷ on 5 kind.Proctype "proctype" ∷ on 5 kind.Name "P1" ∷ on 5 kind.OpenParen "(" ∷
    on 5 kind.Byte "byte" ∷ on 5 kind.Name "n" ∷ on 5 kind.CloseParen ")" ∷ on 5 kind.OpenBrace "{" ∷ on 5 kind.Byte "byte" ∷
    on 5 kind.Name "k" ∷ on 5 kind.Semicolon ";" ∷ on 5 kind.Short "short" ∷ on 5 kind.Name "v" ∷ on 5 kind.Assign "=" ∷
    on 5 kind.Number "2" ∷ on 5 kind.Semicolon ";" ∷ on 5 kind.Name "t0" ∷ on 5 kind.Assign "=" ∷ on 5 kind.Number "100" ∷
    on 5 kind.Semicolon ";" ∷ on 5 kind.Name "q0" ∷ on 5 kind.Query "?" ∷ on 5 kind.Eval "eval" ∷ on 5 kind.OpenParen "(" ∷
    on 5 kind.Name "t0" ∷ on 5 kind.CloseParen ")" ∷ on 5 kind.Comma "," ∷ on 5 kind.Number "2" ∷ on 5 kind.Semicolon ";" ∷
    on 5 kind.DStep "d_step" ∷ on 5 kind.OpenBrace "{" ∷ on 5 kind.Name "k" ∷ on 5 kind.Assign "=" ∷ on 5 kind.Number "7" ∷
    on 5 kind.Semicolon ";" ∷ on 5 kind.Name "v" ∷ on 5 kind.Assign "=" ∷ on 5 kind.Name "t0" ∷ on 5 kind.CloseBrace "}" ∷
    on 5 kind.Semicolon ";" ∷ on 5 kind.Printf "printf" ∷ on 5 kind.OpenParen "(" ∷ on 5 kind.Quoted "\"P1 ends %d %d\\n\"" ∷
    on 5 kind.Comma "," ∷ on 5 kind.Name "k" ∷ on 5 kind.Comma "," ∷ on 5 kind.Name "v" ∷ on 5 kind.CloseParen ")" ∷
    on 5 kind.CloseBrace "}" ∷ on 6 kind.Init "init" ∷ on 6 kind.OpenBrace "{" ∷ on 6 kind.Byte "byte" ∷ on 6 kind.Name "k" ∷
    on 6 kind.Semicolon ";" ∷ on 6 kind.Run "run" ∷ on 6 kind.Name "P1" ∷ on 6 kind.OpenParen "(" ∷ on 6 kind.Number "4" ∷
    on 6 kind.CloseParen ")" ∷ on 6 kind.Semicolon ";" ∷ on 6 kind.Run "run" ∷ on 6 kind.Name "P0" ∷ on 6 kind.OpenParen "(" ∷
    on 6 kind.Number "2" ∷ on 6 kind.CloseParen ")" ∷ on 6 kind.Semicolon ";" ∷ on 6 kind.Name "k" ∷ on 6 kind.Increment "++" ∷
    on 6 kind.Semicolon ";" ∷ on 6 kind.If "if" ∷ on 6 kind.DoubleColon "::" ∷ on 6 kind.Timeout "timeout" ∷ on 6 kind.Arrow "->" ∷
    on 6 kind.Skip "skip" ∷ on 6 kind.DoubleColon "::" ∷ on 6 kind.Name "_nr_pr" ∷ on 6 kind.Equal "==" ∷ on 6 kind.Number "1" ∷
    on 6 kind.Arrow "->" ∷ on 6 kind.Skip "skip" ∷ on 6 kind.Fi "fi" ∷ on 6 kind.Semicolon ";" ∷ on 6 kind.Printf "printf" ∷
    on 6 kind.OpenParen "(" ∷ on 6 kind.Quoted "\"%d\\n\"" ∷ on 6 kind.Comma "," ∷ on 6 kind.Name "t0" ∷ on 6 kind.CloseParen ")" ∷
    on 6 kind.CloseBrace "}" ∷ []

model-spin-90 : Program
unfolding tokens-spin-90
model-spin-90 =
    let at : ℕ → Word = token_at tokens-spin-90 in
    let part : ℕ → ℕ → List Word = tokens_between tokens-spin-90 in
    record {
      globals = (slot (at 11) mtype false 0 1 1 (initial.Value (number 2)) ∷ slot (at 16) bit false 1 1 1 initial.Zero ∷ slot (at 19)
          chan false 2 1 1 (initial.Channel 2 (short ∷ byte ∷ [])) ∷ []);
      constants = ((at 7) ∷ (at 5) ∷ (at 3) ∷ []);
      typedefs = [];
      proctypes = (
          process (at 32) 5 0 1 (slot (at 35) byte false 0 1 1 initial.Zero ∷ slot (at 39) byte false 1 1 1 initial.Zero ∷ slot (at 42)
          byte false 2 1 1 (initial.Value (number 0)) ∷ []) (
          plain (part 46 51) (action.Send (global 2 chan) Sorted ((read (local 2 byte)) ∷ (read (global 1 bit)) ∷ [])) ∷
          plain (part 52 55) (assign (local 0 byte) (number 1)) ∷
          plain (part 56 64) (action.Printf (at 58) ((read (local 1 byte)) ∷ (read (local 2 byte)) ∷ [])) ∷ []) (at 64) ∷
          process (at 66) 6 0 1 (slot (at 69) byte false 0 1 1 initial.Zero ∷ slot (at 73) byte false 1 1 1 initial.Zero ∷ slot (at 76)
          short false 2 1 1 (initial.Value (number 2)) ∷ []) (
          plain (part 80 83) (assign (global 1 bit) (number 100)) ∷
          plain (part 84 92) (action.Receive (global 2 chan) First Remove (want.Equal (read (global 1 bit)) ∷ want.Exactly (pos 2) ∷ [])) ∷
          d_step (part 93 103) (
          plain (part 95 98) (assign (local 1 byte) (number 7)) ∷
          plain (part 99 102) (assign (local 2 short) (read (global 1 bit))) ∷ []) ∷
          plain (part 104 112) (action.Printf (at 106) ((read (local 1 byte)) ∷ (read (local 2 short)) ∷ [])) ∷ []) (at 112) ∷
          process (at 113) 7 1 0 (slot (at 116) byte false 0 1 1 initial.Zero ∷ []) (
          plain (part 118 123) (action.Run (run 1 ((number 4) ∷ []))) ∷
          plain (part 124 129) (action.Run (run 0 ((number 2) ∷ []))) ∷
          plain (part 130 132) (action.Increment (local 0 byte)) ∷
          if_fi (part 133 145) (
          (plain (part 135 136) (holds expr.Timeout) ∷
          plain (part 137 138) (holds (number 1)) ∷ []) ∷
          (plain (part 139 142) (holds (expr.Binary op.Equal expr.ProcessCount (number 1))) ∷
          plain (part 143 144) (holds (number 1)) ∷ []) ∷ []) ∷
          plain (part 146 152) (action.Printf (at 148) ((read (global 1 bit)) ∷ [])) ∷ []) (at 152) ∷ []);
    }

prints-spin-90 : printed model-spin-90 11 (1 ∷ 3 ∷ 2 ∷ 1 ∷ [])
    ≡ Some (shown (text (
    "P0 ends 0 0\n" ∷
    "0\n" ∷
    [])) Invalid)
unfolding computes model-spin-90
prints-spin-90 = prints model-spin-90 11 (1 ∷ 3 ∷ 2 ∷ 1 ∷ []) _ refl

-- byte b0;
-- short a[3];
-- chan q0 = [1] of { byte };
-- proctype P0(byte n) { byte k; short v = 2; for (k : 1 .. 1) { assert(nfull(q0)) }; printf("P0 ends %d %d\n", k, v) }
-- init { byte k; run P0(0); run P0(2); a[2] = 1; q0!(1 & 100); if :: timeout -> skip :: _nr_pr == 1 -> skip fi; printf("%d\n", b0) }
tokens-spin-62 : List Word
tokens-spin-62 =
    on 1 kind.Byte "byte" ∷ on 1 kind.Name "b0" ∷ on 1 kind.Semicolon ";" ∷ on 2 kind.Short "short" ∷ on 2 kind.Name "a" ∷
    on 2 kind.OpenBracket "[" ∷ on 2 kind.Number "3" ∷ on 2 kind.CloseBracket "]" ∷ on 2 kind.Semicolon ";" ∷ on 3 kind.Chan "chan" ∷
    on 3 kind.Name "q0" ∷ on 3 kind.Assign "=" ∷ on 3 kind.OpenBracket "[" ∷ on 3 kind.Number "1" ∷ on 3 kind.CloseBracket "]" ∷
    on 3 kind.Of "of" ∷ on 3 kind.OpenBrace "{" ∷ on 3 kind.Byte "byte" ∷ on 3 kind.CloseBrace "}" ∷ on 3 kind.Semicolon ";" ∷
    on 4 kind.Proctype "proctype" ∷ on 4 kind.Name "P0" ∷ on 4 kind.OpenParen "(" ∷ on 4 kind.Byte "byte" ∷ on 4 kind.Name "n" ∷
    on 4 kind.CloseParen ")" ∷ on 4 kind.OpenBrace "{" ∷ on 4 kind.Byte "byte" ∷ on 4 kind.Name "k" ∷ on 4 kind.Semicolon ";" ∷
    on 4 kind.Short "short" ∷ on 4 kind.Name "v" ∷ on 4 kind.Assign "=" ∷ on 4 kind.Number "2" ∷ on 4 kind.Semicolon ";" ∷
    on 4 kind.For "for" ∷ on 4 kind.OpenParen "(" ∷ on 4 kind.Name "k" ∷ on 4 kind.Colon ":" ∷ on 4 kind.Number "1" ∷
    on 4 kind.DotDot ".." ∷ on 4 kind.Number "1" ∷ on 4 kind.CloseParen ")" ∷ on 4 kind.OpenBrace "{" ∷ on 4 kind.Assert "assert" ∷
    on 4 kind.OpenParen "(" ∷ on 4 kind.Nfull "nfull" ∷ on 4 kind.OpenParen "(" ∷ on 4 kind.Name "q0" ∷ on 4 kind.CloseParen ")" ∷
    on 4 kind.CloseParen ")" ∷ on 4 kind.CloseBrace "}" ∷ on 4 kind.Semicolon ";" ∷ on 4 kind.Printf "printf" ∷
    on 4 kind.OpenParen "(" ∷ on 4 kind.Quoted "\"P0 ends %d %d\\n\"" ∷ on 4 kind.Comma "," ∷ on 4 kind.Name "k" ∷
    on 4 kind.Comma "," ∷ on 4 kind.Name "v" ∷ on 4 kind.CloseParen ")" ∷ on 4 kind.CloseBrace "}" ∷ on 5 kind.Init "init" ∷
    on 5 kind.OpenBrace "{" ∷ on 5 kind.Byte "byte" ∷ on 5 kind.Name "k" ∷ on 5 kind.Semicolon ";" ∷ on 5 kind.Run "run" ∷
    on 5 kind.Name "P0" ∷ on 5 kind.OpenParen "(" ∷ on 5 kind.Number "0" ∷ on 5 kind.CloseParen ")" ∷ on 5 kind.Semicolon ";" ∷
    on 5 kind.Run "run" ∷ on 5 kind.Name "P0" ∷ on 5 kind.OpenParen "(" ∷ on 5 kind.Number "2" ∷ on 5 kind.CloseParen ")" ∷
    on 5 kind.Semicolon ";" ∷ on 5 kind.Name "a" ∷ on 5 kind.OpenBracket "[" ∷ on 5 kind.Number "2" ∷ on 5 kind.CloseBracket "]" ∷
    on 5 kind.Assign "=" ∷ on 5 kind.Number "1" ∷ on 5 kind.Semicolon ";" ∷ on 5 kind.Name "q0" ∷ on 5 kind.Bang "!" ∷
    on 5 kind.OpenParen "(" ∷ on 5 kind.Number "1" ∷ on 5 kind.Ampersand "&" ∷ on 5 kind.Number "100" ∷ on 5 kind.CloseParen ")" ∷
    on 5 kind.Semicolon ";" ∷ on 5 kind.If "if" ∷ on 5 kind.DoubleColon "::" ∷ on 5 kind.Timeout "timeout" ∷ on 5 kind.Arrow "->" ∷
    on 5 kind.Skip "skip" ∷ on 5 kind.DoubleColon "::" ∷ on 5 kind.Name "_nr_pr" ∷ on 5 kind.Equal "==" ∷ on 5 kind.Number "1" ∷
    on 5 kind.Arrow "->" ∷ on 5 kind.Skip "skip" ∷ on 5 kind.Fi "fi" ∷ on 5 kind.Semicolon ";" ∷ on 5 kind.Printf "printf" ∷
    on 5 kind.OpenParen "(" ∷ on 5 kind.Quoted "\"%d\\n\"" ∷ on 5 kind.Comma "," ∷ on 5 kind.Name "b0" ∷ on 5 kind.CloseParen ")" ∷
    on 5 kind.CloseBrace "}" ∷ []

model-spin-62 : Program
unfolding tokens-spin-62
model-spin-62 =
    let at : ℕ → Word = token_at tokens-spin-62 in
    let part : ℕ → ℕ → List Word = tokens_between tokens-spin-62 in
    record {
      globals = (slot (at 1) byte false 0 1 1 initial.Zero ∷ slot (at 4) short true 1 3 1 initial.Zero ∷ slot (at 10) chan false 4 1 1
          (initial.Channel 1 (byte ∷ [])) ∷ []);
      constants = [];
      typedefs = [];
      proctypes = (
          process (at 21) 4 0 1 (slot (at 24) byte false 0 1 1 initial.Zero ∷ slot (at 28) byte false 1 1 1 initial.Zero ∷ slot (at 31)
          short false 2 1 1 (initial.Value (number 2)) ∷ []) (
          block (part 35 52) (
          plain ((at 37) ∷ (on 4 kind.Assign "=") ∷ (at 39) ∷ []) (assign (local 1 byte) (number 1)) ∷
          do_od ((on 4 kind.Do "do") ∷ []) (
          (plain ((at 37) ∷ (on 4 kind.AtMost "<=") ∷ (at 41) ∷ []) (holds (expr.Binary op.AtMost (read (local 1 byte)) (number 1))) ∷
          plain (part 44 51) (action.Assert (expr.Ask fill.IsNotFull (global 2 chan))) ∷
          plain ((at 37) ∷ (on 4 kind.Increment "++") ∷ []) (action.Increment (local 1 byte)) ∷ []) ∷
          (plain ((on 4 kind.Else "else") ∷ []) action.Else ∷
          stmt [] Break ((on 4 kind.Break "break") ∷ []) ∷ []) ∷ []) ∷ []) ∷
          plain (part 53 61) (action.Printf (at 55) ((read (local 1 byte)) ∷ (read (local 2 short)) ∷ [])) ∷ []) (at 61) ∷
          process (at 62) 5 1 0 (slot (at 65) byte false 0 1 1 initial.Zero ∷ []) (
          plain (part 67 72) (action.Run (run 0 ((number 0) ∷ []))) ∷
          plain (part 73 78) (action.Run (run 0 ((number 2) ∷ []))) ∷
          plain (part 79 85) (assign (in_global 1 short (turn 0 3 1 (Some (number 2)) ∷ [])) (number 1)) ∷
          plain (part 86 93) (action.Send (global 2 chan) Fifo ((expr.Binary op.BitAnd (number 1) (number 100)) ∷ [])) ∷
          if_fi (part 94 106) (
          (plain (part 96 97) (holds expr.Timeout) ∷
          plain (part 98 99) (holds (number 1)) ∷ []) ∷
          (plain (part 100 103) (holds (expr.Binary op.Equal expr.ProcessCount (number 1))) ∷
          plain (part 104 105) (holds (number 1)) ∷ []) ∷ []) ∷
          plain (part 107 113) (action.Printf (at 109) ((read (global 0 byte)) ∷ [])) ∷ []) (at 113) ∷ []);
    }

prints-spin-62 : printed model-spin-62 9 (1 ∷ 1 ∷ 1 ∷ 2 ∷ 1 ∷ 2 ∷ 1 ∷ 1 ∷ [])
    ≡ Some (shown (text ([])) (Fails AssertionViolated))
unfolding computes model-spin-62
prints-spin-62 = prints model-spin-62 9 (1 ∷ 1 ∷ 1 ∷ 2 ∷ 1 ∷ 2 ∷ 1 ∷ 1 ∷ []) _ refl
