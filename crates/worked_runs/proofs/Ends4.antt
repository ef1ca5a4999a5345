-- All paths of small random models, whose ends are those of Spin's full search. `tools/spin-ends` made the models and their data.
use Rattle.std.proofs.Common.{◌≡◌, ℕ, List, [], ◌∷◌, true, false, refl, Some, None}
use Rattle.std.specs.Prelude.{codes, pos}
use Rattle.pml_token.specs.Word.{Word}
use Rattle.pml_tree.specs.declared.tree.Search.TheVariants.{First, Matching}
use Rattle.pml_tree.specs.declared.tree.Removal.TheVariants.{Remove}
use Rattle.pml_tree.specs.declared.tree.SendOrder.TheVariants.{Fifo, Sorted}
use Rattle.pml_program.specs.declared.program.Program.{Program}
use Rattle.pml_program.specs.declared.program.Basic.{Break}
use Rattle.worked_runs.proofs.Models.{on, token_at, tokens_between, bit, byte, chan, mtype, short, int, slot, fields, turn, in_global, global, number, read, run, assign, holds, stmt, plain, block, d_step, if_fi, do_od, unless, process}
use Rattle.worked_runs.proofs.Same.{computes}
use Rattle.worked_runs.specs.Printed.{Printed, Valid, Invalid}
use Rattle.worked_runs.specs.Ends.{paths}
use Rattle.worked_runs.proofs.Same.{has_paths}
use Rattle.worked_runs.proofs.Models.{shown}
use Rattle.pml_token.specs.declared.token.Kind.TheVariants as kind
use Rattle.pml_tree.specs.declared.tree.Infix.TheVariants as op
use Rattle.pml_tree.specs.declared.tree.Prefix.TheVariants as before
use Rattle.pml_tree.specs.declared.tree.Fill.TheVariants as fill
use Rattle.pml_program.specs.declared.form.Form.TheVariants as form
use Rattle.pml_program.specs.declared.expr.Expr.TheVariants as expr
use Rattle.pml_program.specs.declared.expr.Want.TheVariants as want
use Rattle.pml_program.specs.declared.program.Initial.TheVariants as initial
use Rattle.pml_program.specs.declared.program.Action.TheVariants as action

-- mtype = { red, green, blue }; mtype m = green;
-- byte b0 = 1;
-- int i1 = 1;
-- active proctype Watch() { timeout; printf("%d %d, %d left\n", b0, i1, _nr_pr) }
-- active proctype P0() { byte k; if :: (_nr_pr > _pid); (7 >= 0) :: ((7 + 2) <= (100 - 1) && 100 == 100) -> i1 = (-i1) fi; m = (-1) }
tokens-ends-245 : List Word
tokens-ends-245 =
    on 1 kind.Mtype "mtype" ∷ on 1 kind.Assign "=" ∷ on 1 kind.OpenBrace "{" ∷ on 1 kind.Name "red" ∷ on 1 kind.Comma "," ∷
    on 1 kind.Name "green" ∷ on 1 kind.Comma "," ∷ on 1 kind.Name "blue" ∷ on 1 kind.CloseBrace "}" ∷ on 1 kind.Semicolon ";" ∷
    on 1 kind.Mtype "mtype" ∷ on 1 kind.Name "m" ∷ on 1 kind.Assign "=" ∷ on 1 kind.Name "green" ∷ on 1 kind.Semicolon ";" ∷
    on 2 kind.Byte "byte" ∷ on 2 kind.Name "b0" ∷ on 2 kind.Assign "=" ∷ on 2 kind.Number "1" ∷ on 2 kind.Semicolon ";" ∷
    on 3 kind.Int "int" ∷ on 3 kind.Name "i1" ∷ on 3 kind.Assign "=" ∷ on 3 kind.Number "1" ∷ on 3 kind.Semicolon ";" ∷
    on 4 kind.Active "active" ∷ on 4 kind.Proctype "proctype" ∷ on 4 kind.Name "Watch" ∷ on 4 kind.OpenParen "(" ∷
    on 4 kind.CloseParen ")" ∷ on 4 kind.OpenBrace "{" ∷ on 4 kind.Timeout "timeout" ∷ on 4 kind.Semicolon ";" ∷
    on 4 kind.Printf "printf" ∷ on 4 kind.OpenParen "(" ∷ on 4 kind.Quoted "\"%d %d, %d left\\n\"" ∷ on 4 kind.Comma "," ∷
    on 4 kind.Name "b0" ∷ on 4 kind.Comma "," ∷ on 4 kind.Name "i1" ∷ on 4 kind.Comma "," ∷ on 4 kind.Name "_nr_pr" ∷
    on 4 kind.CloseParen ")" ∷ on 4 kind.CloseBrace "}" ∷ on 5 kind.Active "active" ∷ on 5 kind.Proctype "proctype" ∷
    on 5 kind.Name "P0" ∷ on 5 kind.OpenParen "(" ∷ on 5 kind.CloseParen ")" ∷ on 5 kind.OpenBrace "{" ∷ on 5 kind.Byte "byte" ∷
    on 5 kind.Name "k" ∷ on 5 kind.Semicolon ";" ∷ on 5 kind.If "if" ∷ on 5 kind.DoubleColon "::" ∷ on 5 kind.OpenParen "(" ∷
    on 5 kind.Name "_nr_pr" ∷ on 5 kind.Greater ">" ∷ on 5 kind.Name "_pid" ∷ on 5 kind.CloseParen ")" ∷ on 5 kind.Semicolon ";" ∷
    on 5 kind.OpenParen "(" ∷ on 5 kind.Number "7" ∷ on 5 kind.AtLeast ">=" ∷ on 5 kind.Number "0" ∷ on 5 kind.CloseParen ")" ∷
    on 5 kind.DoubleColon "::" ∷ on 5 kind.OpenParen "(" ∷ on 5 kind.OpenParen "(" ∷ on 5 kind.Number "7" ∷ on 5 kind.Plus "+" ∷
    on 5 kind.Number "2" ∷ on 5 kind.CloseParen ")" ∷ on 5 kind.AtMost "<=" ∷ on 5 kind.OpenParen "(" ∷ on 5 kind.Number "100" ∷
    on 5 kind.Minus "-" ∷ on 5 kind.Number "1" ∷ on 5 kind.CloseParen ")" ∷ on 5 kind.AndAnd "&&" ∷ on 5 kind.Number "100" ∷
    on 5 kind.Equal "==" ∷ on 5 kind.Number "100" ∷ on 5 kind.CloseParen ")" ∷ on 5 kind.Arrow "->" ∷ on 5 kind.Name "i1" ∷
    on 5 kind.Assign "=" ∷ on 5 kind.OpenParen "(" ∷ on 5 kind.Minus "-" ∷ on 5 kind.Name "i1" ∷ on 5 kind.CloseParen ")" ∷
    on 5 kind.Fi "fi" ∷ on 5 kind.Semicolon ";" ∷ on 5 kind.Name "m" ∷ on 5 kind.Assign "=" ∷ on 5 kind.OpenParen "(" ∷
    on 5 kind.Minus "-" ∷ on 5 kind.Number "1" ∷ on 5 kind.CloseParen ")" ∷ on 5 kind.CloseBrace "}" ∷ []

model-ends-245 : Program
unfolding tokens-ends-245
model-ends-245 =
    let at : ℕ → Word = token_at tokens-ends-245 in
    let part : ℕ → ℕ → List Word = tokens_between tokens-ends-245 in
    record {
      globals = (slot (at 11) mtype false 0 1 1 (initial.Value (number 2)) ∷ slot (at 16) byte false 1 1 1 (initial.Value (number 1))
          ∷ slot (at 21) int false 2 1 1 (initial.Value (number 1)) ∷ []);
      constants = ((at 7) ∷ (at 5) ∷ (at 3) ∷ []);
      typedefs = [];
      proctypes = (
          process (at 27) 5 1 0 [] (
          plain (part 31 32) (holds expr.Timeout) ∷
          plain (part 33 43) (action.Printf (at 35) ((read (global 1 byte)) ∷ (read (global 2 int)) ∷ expr.ProcessCount ∷ [])) ∷ []) (at 43) ∷
          process (at 46) 6 1 0 (slot (at 51) byte false 0 1 1 initial.Zero ∷ []) (
          if_fi (part 53 92) (
          (plain (part 55 60) (holds (expr.Binary op.Above expr.ProcessCount expr.Pid)) ∷
          plain (part 61 66) (holds (expr.Binary op.AtLeast (number 7) (number 0))) ∷ []) ∷
          (plain (part 67 84) (holds (expr.Binary op.And (expr.Binary op.AtMost (expr.Binary op.Plus (number 7) (number 2)) (expr.Binary
          op.Minus (number 100) (number 1))) (expr.Binary op.Equal (number 100) (number 100)))) ∷
          plain (part 85 91) (assign (global 2 int) (expr.Unary before.Minus (read (global 2 int)))) ∷ []) ∷ []) ∷
          plain (part 93 99) (assign (global 0 mtype) (expr.Unary before.Minus (number 1))) ∷ []) (at 99) ∷ []);
    }

abbrev end-1-of-ends-245 : Printed
end-1-of-ends-245 = shown (codes "1 1, 1 left\n") Valid

abbrev end-2-of-ends-245 : Printed
end-2-of-ends-245 = shown (codes "1 -1, 1 left\n") Valid

paths-of-ends-245 : paths model-ends-245 7 ≡ Some (end-1-of-ends-245 ∷ end-2-of-ends-245 ∷ [])
unfolding computes model-ends-245
paths-of-ends-245 = has_paths model-ends-245 7 _ refl

-- mtype = { red, green, blue }; mtype m = green;
-- int i0 = 1;
-- chan q0 = [1] of { short, byte };
-- active proctype Watch() { timeout; printf("%d %d, %d left\n", i0, len(q0), _nr_pr) }
-- active proctype P0() { byte k; q0!_pid, 100; if :: q0??eval(i0), 0 :: i0 = m fi }
-- proctype Q(byte n) { q0!!i0, (2 ^ 1) }
-- init { run Q(3) }
tokens-ends-276 : List Word
tokens-ends-276 =
    on 1 kind.Mtype "mtype" ∷ on 1 kind.Assign "=" ∷ on 1 kind.OpenBrace "{" ∷ on 1 kind.Name "red" ∷ on 1 kind.Comma "," ∷
    on 1 kind.Name "green" ∷ on 1 kind.Comma "," ∷ on 1 kind.Name "blue" ∷ on 1 kind.CloseBrace "}" ∷ on 1 kind.Semicolon ";" ∷
    on 1 kind.Mtype "mtype" ∷ on 1 kind.Name "m" ∷ on 1 kind.Assign "=" ∷ on 1 kind.Name "green" ∷ on 1 kind.Semicolon ";" ∷
    on 2 kind.Int "int" ∷ on 2 kind.Name "i0" ∷ on 2 kind.Assign "=" ∷ on 2 kind.Number "1" ∷ on 2 kind.Semicolon ";" ∷
    on 3 kind.Chan "chan" ∷ on 3 kind.Name "q0" ∷ on 3 kind.Assign "=" ∷ on 3 kind.OpenBracket "[" ∷ on 3 kind.Number "1" ∷
    on 3 kind.CloseBracket "]" ∷ on 3 kind.Of "of" ∷ on 3 kind.OpenBrace "{" ∷ on 3 kind.Short "short" ∷ on 3 kind.Comma "," ∷
    on 3 kind.Byte "byte" ∷ on 3 kind.CloseBrace "}" ∷ on 3 kind.Semicolon ";" ∷ on 4 kind.Active "active" ∷
    on 4 kind.Proctype "proctype" ∷ on 4 kind.Name "Watch" ∷ on 4 kind.OpenParen "(" ∷ on 4 kind.CloseParen ")" ∷
    on 4 kind.OpenBrace "{" ∷ on 4 kind.Timeout "timeout" ∷ on 4 kind.Semicolon ";" ∷ on 4 kind.Printf "printf" ∷
    on 4 kind.OpenParen "(" ∷ on 4 kind.Quoted "\"%d %d, %d left\\n\"" ∷ on 4 kind.Comma "," ∷ on 4 kind.Name "i0" ∷
    on 4 kind.Comma "," ∷ on 4 kind.Len "len" ∷ on 4 kind.OpenParen "(" ∷ on 4 kind.Name "q0" ∷ on 4 kind.CloseParen ")" ∷
    on 4 kind.Comma "," ∷ on 4 kind.Name "_nr_pr" ∷ on 4 kind.CloseParen ")" ∷ on 4 kind.CloseBrace "}" ∷ on 5 kind.Active "active" ∷
    on 5 kind.Proctype "proctype" ∷ on 5 kind.Name "P0" ∷ on 5 kind.OpenParen "(" ∷ on 5 kind.CloseParen ")" ∷
    on 5 kind.OpenBrace "{" ∷ on 5 kind.Byte "byte" ∷ on 5 kind.Name "k" ∷ on 5 kind.Semicolon ";" ∷ on 5 kind.Name "q0" ∷
    on 5 kind.Bang "!" ∷ on 5 kind.Name "_pid" ∷ on 5 kind.Comma "," ∷ on 5 kind.Number "100" ∷ on 5 kind.Semicolon ";" ∷
    on 5 kind.If "if" ∷ on 5 kind.DoubleColon "::" ∷ on 5 kind.Name "q0" ∷ on 5 kind.QueryQuery "??" ∷ on 5 kind.Eval "eval" ∷
    on 5 kind.OpenParen "(" ∷ on 5 kind.Name "i0" ∷ on 5 kind.CloseParen ")" ∷ on 5 kind.Comma "," ∷ on 5 kind.Number "0" ∷
    on 5 kind.DoubleColon "::" ∷ on 5 kind.Name "i0" ∷ on 5 kind.Assign "=" ∷ on 5 kind.Name "m" ∷ on 5 kind.Fi "fi" ∷
    on 5 kind.CloseBrace "}" ∷ on 6 kind.Proctype "proctype" ∷ on 6 kind.Name "Q" ∷ on 6 kind.OpenParen "(" ∷ on 6 kind.Byte "byte" ∷
    on 6 kind.Name "n" ∷ on 6 kind.CloseParen ")" ∷ on 6 kind.OpenBrace "{" ∷ on 6 kind.Name "q0" ∷ on 6 kind.BangBang "!!" ∷
    on 6 kind.Name "i0" ∷ on 6 kind.Comma "," ∷ on 6 kind.OpenParen "(" ∷ on 6 kind.Number "2" ∷ on 6 kind.Caret "^" ∷
    on 6 kind.Number "1" ∷ on 6 kind.CloseParen ")" ∷ on 6 kind.CloseBrace "}" ∷ on 7 kind.Init "init" ∷ on 7 kind.OpenBrace "{" ∷
    on 7 kind.Run "run" ∷ on 7 kind.Name "Q" ∷ on 7 kind.OpenParen "(" ∷ on 7 kind.Number "3" ∷ on 7 kind.CloseParen ")" ∷
    on 7 kind.CloseBrace "}" ∷ []

model-ends-276 : Program
unfolding tokens-ends-276
model-ends-276 =
    let at : ℕ → Word = token_at tokens-ends-276 in
    let part : ℕ → ℕ → List Word = tokens_between tokens-ends-276 in
    record {
      globals = (slot (at 11) mtype false 0 1 1 (initial.Value (number 2)) ∷ slot (at 16) int false 1 1 1 (initial.Value (number 1)) ∷
          slot (at 21) chan false 2 1 1 (initial.Channel 1 (short ∷ byte ∷ [])) ∷ []);
      constants = ((at 7) ∷ (at 5) ∷ (at 3) ∷ []);
      typedefs = [];
      proctypes = (
          process (at 35) 5 1 0 [] (
          plain (part 39 40) (holds expr.Timeout) ∷
          plain (part 41 54) (action.Printf (at 43) ((read (global 1 int)) ∷ (expr.Ask fill.Length (global 2 chan)) ∷ expr.ProcessCount
          ∷ [])) ∷ []) (at 54) ∷
          process (at 57) 6 1 0 (slot (at 62) byte false 0 1 1 initial.Zero ∷ []) (
          plain (part 64 69) (action.Send (global 2 chan) Fifo (expr.Pid ∷ (number 100) ∷ [])) ∷
          if_fi (part 70 85) (
          (plain (part 72 80) (action.Receive (global 2 chan) Matching Remove (want.Equal (read (global 1 int)) ∷ want.Exactly (pos 0) ∷
          [])) ∷ []) ∷
          (plain (part 81 84) (assign (global 1 int) (read (global 0 mtype))) ∷ []) ∷ []) ∷ []) (at 85) ∷
          process (at 87) 7 0 1 (slot (at 90) byte false 0 1 1 initial.Zero ∷ []) (
          plain (part 93 102) (action.Send (global 2 chan) Sorted ((read (global 1 int)) ∷ (expr.Binary op.BitXor (number 2) (number 1))
          ∷ [])) ∷ []) (at 102) ∷
          process (at 103) 8 1 0 [] (
          plain (part 105 110) (action.Run (run 2 ((number 3) ∷ []))) ∷ []) (at 110) ∷ []);
    }

abbrev end-1-of-ends-276 : Printed
end-1-of-ends-276 = shown (codes "2 1, 4 left\n") Invalid

abbrev end-2-of-ends-276 : Printed
end-2-of-ends-276 = shown (codes "1 1, 2 left\n") Invalid

paths-of-ends-276 : paths model-ends-276 6 ≡ Some (end-1-of-ends-276 ∷ end-1-of-ends-276 ∷ end-1-of-ends-276 ∷ end-2-of-ends-276 ∷ [])
unfolding computes model-ends-276
paths-of-ends-276 = has_paths model-ends-276 6 _ refl

-- bit t0 = 0;
-- chan q0 = [0] of { byte };
-- active proctype Watch() { timeout; printf("%d %d, %d left\n", t0, len(q0), _nr_pr) }
-- active proctype P0() { byte k; do :: t0 = _pid; (t0 < t0) :: q0??0; q0!300 :: break od }
-- active proctype P1() { byte k; q0?_ }
tokens-ends-279 : List Word
tokens-ends-279 =
    on 1 kind.Bit "bit" ∷ on 1 kind.Name "t0" ∷ on 1 kind.Assign "=" ∷ on 1 kind.Number "0" ∷ on 1 kind.Semicolon ";" ∷
    on 2 kind.Chan "chan" ∷ on 2 kind.Name "q0" ∷ on 2 kind.Assign "=" ∷ on 2 kind.OpenBracket "[" ∷ on 2 kind.Number "0" ∷
    on 2 kind.CloseBracket "]" ∷ on 2 kind.Of "of" ∷ on 2 kind.OpenBrace "{" ∷ on 2 kind.Byte "byte" ∷ on 2 kind.CloseBrace "}" ∷
    on 2 kind.Semicolon ";" ∷ on 3 kind.Active "active" ∷ on 3 kind.Proctype "proctype" ∷ on 3 kind.Name "Watch" ∷
    on 3 kind.OpenParen "(" ∷ on 3 kind.CloseParen ")" ∷ on 3 kind.OpenBrace "{" ∷ on 3 kind.Timeout "timeout" ∷
    on 3 kind.Semicolon ";" ∷ on 3 kind.Printf "printf" ∷ on 3 kind.OpenParen "(" ∷ on 3 kind.Quoted "\"%d %d, %d left\\n\"" ∷
    on 3 kind.Comma "," ∷ on 3 kind.Name "t0" ∷ on 3 kind.Comma "," ∷ on 3 kind.Len "len" ∷ on 3 kind.OpenParen "(" ∷
    on 3 kind.Name "q0" ∷ on 3 kind.CloseParen ")" ∷ on 3 kind.Comma "," ∷ on 3 kind.Name "_nr_pr" ∷ on 3 kind.CloseParen ")" ∷
    on 3 kind.CloseBrace "}" ∷ on 4 kind.Active "active" ∷ on 4 kind.Proctype "proctype" ∷ on 4 kind.Name "P0" ∷
    on 4 kind.OpenParen "(" ∷ on 4 kind.CloseParen ")" ∷ on 4 kind.OpenBrace "{" ∷ on 4 kind.Byte "byte" ∷ on 4 kind.Name "k" ∷
    on 4 kind.Semicolon ";" ∷ on 4 kind.Do "do" ∷ on 4 kind.DoubleColon "::" ∷ on 4 kind.Name "t0" ∷ on 4 kind.Assign "=" ∷
    on 4 kind.Name "_pid" ∷ on 4 kind.Semicolon ";" ∷ on 4 kind.OpenParen "(" ∷ on 4 kind.Name "t0" ∷ on 4 kind.Less "<" ∷
    on 4 kind.Name "t0" ∷ on 4 kind.CloseParen ")" ∷ on 4 kind.DoubleColon "::" ∷ on 4 kind.Name "q0" ∷ on 4 kind.QueryQuery "??" ∷
    on 4 kind.Number "0" ∷ on 4 kind.Semicolon ";" ∷ on 4 kind.Name "q0" ∷ on 4 kind.Bang "!" ∷ on 4 kind.Number "300" ∷
    on 4 kind.DoubleColon "::" ∷ on 4 kind.Break "break" ∷ on 4 kind.Od "od" ∷ on 4 kind.CloseBrace "}" ∷ on 5 kind.Active "active" ∷
    on 5 kind.Proctype "proctype" ∷ on 5 kind.Name "P1" ∷ on 5 kind.OpenParen "(" ∷ on 5 kind.CloseParen ")" ∷
    on 5 kind.OpenBrace "{" ∷ on 5 kind.Byte "byte" ∷ on 5 kind.Name "k" ∷ on 5 kind.Semicolon ";" ∷ on 5 kind.Name "q0" ∷
    on 5 kind.Query "?" ∷ on 5 kind.Name "_" ∷ on 5 kind.CloseBrace "}" ∷ []

model-ends-279 : Program
unfolding tokens-ends-279
model-ends-279 =
    let at : ℕ → Word = token_at tokens-ends-279 in
    let part : ℕ → ℕ → List Word = tokens_between tokens-ends-279 in
    record {
      globals = (slot (at 1) bit false 0 1 1 (initial.Value (number 0)) ∷ slot (at 6) chan false 1 1 1 (initial.Channel 0 (byte ∷ [])) ∷ []);
      constants = [];
      typedefs = [];
      proctypes = (
          process (at 18) 3 1 0 [] (
          plain (part 22 23) (holds expr.Timeout) ∷
          plain (part 24 37) (action.Printf (at 26) ((read (global 0 bit)) ∷ (expr.Ask fill.Length (global 1 chan)) ∷ expr.ProcessCount
          ∷ [])) ∷ []) (at 37) ∷
          process (at 40) 4 1 0 (slot (at 45) byte false 0 1 1 initial.Zero ∷ []) (
          do_od (part 47 69) (
          (plain (part 49 52) (assign (global 0 bit) expr.Pid) ∷
          plain (part 53 58) (holds (expr.Binary op.Below (read (global 0 bit)) (read (global 0 bit)))) ∷ []) ∷
          (plain (part 59 62) (action.Receive (global 1 chan) Matching Remove (want.Exactly (pos 0) ∷ [])) ∷
          plain (part 63 66) (action.Send (global 1 chan) Fifo ((number 300) ∷ [])) ∷ []) ∷
          (stmt [] Break (part 67 68) ∷ []) ∷ []) ∷ []) (at 69) ∷
          process (at 72) 5 1 0 (slot (at 77) byte false 0 1 1 initial.Zero ∷ []) (
          plain (part 79 82) (action.Receive (global 1 chan) First Remove (want.Anything ∷ [])) ∷ []) (at 82) ∷ []);
    }

abbrev end-1-of-ends-279 : Printed
end-1-of-ends-279 = shown (codes "1 0, 3 left\n") Invalid

abbrev end-2-of-ends-279 : Printed
end-2-of-ends-279 = shown (codes "0 0, 3 left\n") Invalid

paths-of-ends-279 : paths model-ends-279 3 ≡ Some (end-1-of-ends-279 ∷ end-2-of-ends-279 ∷ [])
unfolding computes model-ends-279
paths-of-ends-279 = has_paths model-ends-279 3 _ refl

-- unsigned u0 : 3 = 1;
-- active proctype Watch() { timeout; printf("%d, %d left\n", u0, _nr_pr) }
-- active proctype P0() { byte k; u0++; if :: u0++ :: else -> (1 != 0) fi }
-- active proctype P1() { byte k; u0 = u0; u0 = ((7 & 1) ^ u0) }
tokens-ends-283 : List Word
tokens-ends-283 =
    on 1 kind.Unsigned "unsigned" ∷ on 1 kind.Name "u0" ∷ on 1 kind.Colon ":" ∷ on 1 kind.Number "3" ∷ on 1 kind.Assign "=" ∷
    on 1 kind.Number "1" ∷ on 1 kind.Semicolon ";" ∷ on 2 kind.Active "active" ∷ on 2 kind.Proctype "proctype" ∷
    on 2 kind.Name "Watch" ∷ on 2 kind.OpenParen "(" ∷ on 2 kind.CloseParen ")" ∷ on 2 kind.OpenBrace "{" ∷
    on 2 kind.Timeout "timeout" ∷ on 2 kind.Semicolon ";" ∷ on 2 kind.Printf "printf" ∷ on 2 kind.OpenParen "(" ∷
    on 2 kind.Quoted "\"%d, %d left\\n\"" ∷ on 2 kind.Comma "," ∷ on 2 kind.Name "u0" ∷ on 2 kind.Comma "," ∷
    on 2 kind.Name "_nr_pr" ∷ on 2 kind.CloseParen ")" ∷ on 2 kind.CloseBrace "}" ∷ on 3 kind.Active "active" ∷
    on 3 kind.Proctype "proctype" ∷ on 3 kind.Name "P0" ∷ on 3 kind.OpenParen "(" ∷ on 3 kind.CloseParen ")" ∷
    on 3 kind.OpenBrace "{" ∷ on 3 kind.Byte "byte" ∷ on 3 kind.Name "k" ∷ on 3 kind.Semicolon ";" ∷ on 3 kind.Name "u0" ∷
    on 3 kind.Increment "++" ∷ on 3 kind.Semicolon ";" ∷ on 3 kind.If "if" ∷ on 3 kind.DoubleColon "::" ∷ on 3 kind.Name "u0" ∷
    on 3 kind.Increment "++" ∷ on 3 kind.DoubleColon "::" ∷ on 3 kind.Else "else" ∷ on 3 kind.Arrow "->" ∷ on 3 kind.OpenParen "(" ∷
    on 3 kind.Number "1" ∷ on 3 kind.Unequal "!=" ∷ on 3 kind.Number "0" ∷ on 3 kind.CloseParen ")" ∷ on 3 kind.Fi "fi" ∷
    on 3 kind.CloseBrace "}" ∷ on 4 kind.Active "active" ∷ on 4 kind.Proctype "proctype" ∷ on 4 kind.Name "P1" ∷
    on 4 kind.OpenParen "(" ∷ on 4 kind.CloseParen ")" ∷ on 4 kind.OpenBrace "{" ∷ on 4 kind.Byte "byte" ∷ on 4 kind.Name "k" ∷
    on 4 kind.Semicolon ";" ∷ on 4 kind.Name "u0" ∷ on 4 kind.Assign "=" ∷ on 4 kind.Name "u0" ∷ on 4 kind.Semicolon ";" ∷
    on 4 kind.Name "u0" ∷ on 4 kind.Assign "=" ∷ on 4 kind.OpenParen "(" ∷ on 4 kind.OpenParen "(" ∷ on 4 kind.Number "7" ∷
    on 4 kind.Ampersand "&" ∷ on 4 kind.Number "1" ∷ on 4 kind.CloseParen ")" ∷ on 4 kind.Caret "^" ∷ on 4 kind.Name "u0" ∷
    on 4 kind.CloseParen ")" ∷ on 4 kind.CloseBrace "}" ∷ []

model-ends-283 : Program
unfolding tokens-ends-283
model-ends-283 =
    let at : ℕ → Word = token_at tokens-ends-283 in
    let part : ℕ → ℕ → List Word = tokens_between tokens-ends-283 in
    record {
      globals = (slot (at 1) (form.Unsigned 3) false 0 1 1 (initial.Value (number 1)) ∷ []);
      constants = [];
      typedefs = [];
      proctypes = (
          process (at 9) 2 1 0 [] (
          plain (part 13 14) (holds expr.Timeout) ∷
          plain (part 15 23) (action.Printf (at 17) ((read (global 0 (form.Unsigned 3))) ∷ expr.ProcessCount ∷ [])) ∷ []) (at 23) ∷
          process (at 26) 3 1 0 (slot (at 31) byte false 0 1 1 initial.Zero ∷ []) (
          plain (part 33 35) (action.Increment (global 0 (form.Unsigned 3))) ∷
          if_fi (part 36 49) (
          (plain (part 38 40) (action.Increment (global 0 (form.Unsigned 3))) ∷ []) ∷
          (plain (part 41 42) action.Else ∷
          plain (part 43 48) (holds (expr.Binary op.Unequal (number 1) (number 0))) ∷ []) ∷ []) ∷ []) (at 49) ∷
          process (at 52) 4 1 0 (slot (at 57) byte false 0 1 1 initial.Zero ∷ []) (
          plain (part 59 62) (assign (global 0 (form.Unsigned 3)) (read (global 0 (form.Unsigned 3)))) ∷
          plain (part 63 74) (assign (global 0 (form.Unsigned 3)) (expr.Binary op.BitXor (expr.Binary op.BitAnd (number 7) (number 1))
          (read (global 0 (form.Unsigned 3))))) ∷ []) (at 74) ∷ []);
    }

abbrev end-1-of-ends-283 : Printed
end-1-of-ends-283 = shown (codes "2, 1 left\n") Valid

abbrev end-2-of-ends-283 : Printed
end-2-of-ends-283 = shown (codes "4, 1 left\n") Valid

paths-of-ends-283 : paths model-ends-283 9 ≡ Some (end-1-of-ends-283 ∷ end-1-of-ends-283 ∷ end-2-of-ends-283 ∷ end-2-of-ends-283 ∷
    end-1-of-ends-283 ∷ end-2-of-ends-283 ∷ end-2-of-ends-283 ∷ end-1-of-ends-283 ∷ end-1-of-ends-283 ∷ end-1-of-ends-283 ∷ [])
unfolding computes model-ends-283
paths-of-ends-283 = has_paths model-ends-283 9 _ refl

-- int i0 = 0;
-- short s1 = 1;
-- chan q0 = [1] of { short, byte };
-- active proctype Watch() { timeout; printf("%d %d %d, %d left\n", i0, s1, len(q0), _nr_pr) }
-- active proctype P0() { byte k; do :: (!2) >= 100 -> s1 = 1; s1 = 3 :: break od; if :: i0 = _nr_pr; q0?_, eval(i0) :: _nr_pr == (1
--     << 5) -> s1 = 100 fi }
-- proctype Q(byte n) { i0-- }
-- init { run Q(3) }
tokens-ends-287 : List Word
tokens-ends-287 =
    on 1 kind.Int "int" ∷ on 1 kind.Name "i0" ∷ on 1 kind.Assign "=" ∷ on 1 kind.Number "0" ∷ on 1 kind.Semicolon ";" ∷
    on 2 kind.Short "short" ∷ on 2 kind.Name "s1" ∷ on 2 kind.Assign "=" ∷ on 2 kind.Number "1" ∷ on 2 kind.Semicolon ";" ∷
    on 3 kind.Chan "chan" ∷ on 3 kind.Name "q0" ∷ on 3 kind.Assign "=" ∷ on 3 kind.OpenBracket "[" ∷ on 3 kind.Number "1" ∷
    on 3 kind.CloseBracket "]" ∷ on 3 kind.Of "of" ∷ on 3 kind.OpenBrace "{" ∷ on 3 kind.Short "short" ∷ on 3 kind.Comma "," ∷
    on 3 kind.Byte "byte" ∷ on 3 kind.CloseBrace "}" ∷ on 3 kind.Semicolon ";" ∷ on 4 kind.Active "active" ∷
    on 4 kind.Proctype "proctype" ∷ on 4 kind.Name "Watch" ∷ on 4 kind.OpenParen "(" ∷ on 4 kind.CloseParen ")" ∷
    on 4 kind.OpenBrace "{" ∷ on 4 kind.Timeout "timeout" ∷ on 4 kind.Semicolon ";" ∷ on 4 kind.Printf "printf" ∷
    on 4 kind.OpenParen "(" ∷ on 4 kind.Quoted "\"%d %d %d, %d left\\n\"" ∷ on 4 kind.Comma "," ∷ on 4 kind.Name "i0" ∷
    on 4 kind.Comma "," ∷ on 4 kind.Name "s1" ∷ on 4 kind.Comma "," ∷ on 4 kind.Len "len" ∷ on 4 kind.OpenParen "(" ∷
    on 4 kind.Name "q0" ∷ on 4 kind.CloseParen ")" ∷ on 4 kind.Comma "," ∷ on 4 kind.Name "_nr_pr" ∷ on 4 kind.CloseParen ")" ∷
    on 4 kind.CloseBrace "}" ∷ on 5 kind.Active "active" ∷ on 5 kind.Proctype "proctype" ∷ on 5 kind.Name "P0" ∷
    on 5 kind.OpenParen "(" ∷ on 5 kind.CloseParen ")" ∷ on 5 kind.OpenBrace "{" ∷ on 5 kind.Byte "byte" ∷ on 5 kind.Name "k" ∷
    on 5 kind.Semicolon ";" ∷ on 5 kind.Do "do" ∷ on 5 kind.DoubleColon "::" ∷ on 5 kind.OpenParen "(" ∷ on 5 kind.Bang "!" ∷
    on 5 kind.Number "2" ∷ on 5 kind.CloseParen ")" ∷ on 5 kind.AtLeast ">=" ∷ on 5 kind.Number "100" ∷ on 5 kind.Arrow "->" ∷
    on 5 kind.Name "s1" ∷ on 5 kind.Assign "=" ∷ on 5 kind.Number "1" ∷ on 5 kind.Semicolon ";" ∷ on 5 kind.Name "s1" ∷
    on 5 kind.Assign "=" ∷ on 5 kind.Number "3" ∷ on 5 kind.DoubleColon "::" ∷ on 5 kind.Break "break" ∷ on 5 kind.Od "od" ∷
    on 5 kind.Semicolon ";" ∷ on 5 kind.If "if" ∷ on 5 kind.DoubleColon "::" ∷ on 5 kind.Name "i0" ∷ on 5 kind.Assign "=" ∷
    on 5 kind.Name "_nr_pr" ∷ on 5 kind.Semicolon ";" ∷ on 5 kind.Name "q0" ∷ on 5 kind.Query "?" ∷ on 5 kind.Name "_" ∷
    on 5 kind.Comma "," ∷ on 5 kind.Eval "eval" ∷ on 5 kind.OpenParen "(" ∷ on 5 kind.Name "i0" ∷ on 5 kind.CloseParen ")" ∷
    on 5 kind.DoubleColon "::" ∷ on 5 kind.Name "_nr_pr" ∷ on 5 kind.Equal "==" ∷ on 5 kind.OpenParen "(" ∷ on 5 kind.Number "1" ∷
    on 5 kind.ShiftLeft "<<" ∷ on 5 kind.Number "5" ∷ on 5 kind.CloseParen ")" ∷ on 5 kind.Arrow "->" ∷ on 5 kind.Name "s1" ∷
    on 5 kind.Assign "=" ∷ on 5 kind.Number "100" ∷ on 5 kind.Fi "fi" ∷ on 5 kind.CloseBrace "}" ∷ on 6 kind.Proctype "proctype" ∷
    on 6 kind.Name "Q" ∷ on 6 kind.OpenParen "(" ∷ on 6 kind.Byte "byte" ∷ on 6 kind.Name "n" ∷ on 6 kind.CloseParen ")" ∷
    on 6 kind.OpenBrace "{" ∷ on 6 kind.Name "i0" ∷ on 6 kind.Decrement "--" ∷ on 6 kind.CloseBrace "}" ∷ on 7 kind.Init "init" ∷
    on 7 kind.OpenBrace "{" ∷ on 7 kind.Run "run" ∷ on 7 kind.Name "Q" ∷ on 7 kind.OpenParen "(" ∷ on 7 kind.Number "3" ∷
    on 7 kind.CloseParen ")" ∷ on 7 kind.CloseBrace "}" ∷ []

model-ends-287 : Program
unfolding tokens-ends-287
model-ends-287 =
    let at : ℕ → Word = token_at tokens-ends-287 in
    let part : ℕ → ℕ → List Word = tokens_between tokens-ends-287 in
    record {
      globals = (slot (at 1) int false 0 1 1 (initial.Value (number 0)) ∷ slot (at 6) short false 1 1 1 (initial.Value (number 1)) ∷
          slot (at 11) chan false 2 1 1 (initial.Channel 1 (short ∷ byte ∷ [])) ∷ []);
      constants = [];
      typedefs = [];
      proctypes = (
          process (at 25) 4 1 0 [] (
          plain (part 29 30) (holds expr.Timeout) ∷
          plain (part 31 46) (action.Printf (at 33) ((read (global 0 int)) ∷ (read (global 1 short)) ∷ (expr.Ask fill.Length (global 2
          chan)) ∷ expr.ProcessCount ∷ [])) ∷ []) (at 46) ∷
          process (at 49) 5 1 0 (slot (at 54) byte false 0 1 1 initial.Zero ∷ []) (
          do_od (part 56 75) (
          (plain (part 58 64) (holds (expr.Binary op.AtLeast (expr.Unary before.Not (number 2)) (number 100))) ∷
          plain (part 65 68) (assign (global 1 short) (number 1)) ∷
          plain (part 69 72) (assign (global 1 short) (number 3)) ∷ []) ∷
          (stmt [] Break (part 73 74) ∷ []) ∷ []) ∷
          if_fi (part 76 103) (
          (plain (part 78 81) (assign (global 0 int) expr.ProcessCount) ∷
          plain (part 82 90) (action.Receive (global 2 chan) First Remove (want.Anything ∷ want.Equal (read (global 0 int)) ∷ [])) ∷ []) ∷
          (plain (part 91 98) (holds (expr.Binary op.Equal expr.ProcessCount (expr.Binary op.ShiftLeft (number 1) (number 5)))) ∷
          plain (part 99 102) (assign (global 1 short) (number 100)) ∷ []) ∷ []) ∷ []) (at 103) ∷
          process (at 105) 6 0 1 (slot (at 108) byte false 0 1 1 initial.Zero ∷ []) (
          plain (part 111 113) (action.Decrement (global 0 int)) ∷ []) (at 113) ∷
          process (at 114) 7 1 0 [] (
          plain (part 116 121) (action.Run (run 2 ((number 3) ∷ []))) ∷ []) (at 121) ∷ []);
    }

abbrev end-1-of-ends-287 : Printed
end-1-of-ends-287 = shown (codes "2 1 0, 2 left\n") Invalid

abbrev end-2-of-ends-287 : Printed
end-2-of-ends-287 = shown (codes "3 1 0, 2 left\n") Invalid

abbrev end-3-of-ends-287 : Printed
end-3-of-ends-287 = shown (codes "4 1 0, 2 left\n") Invalid

paths-of-ends-287 : paths model-ends-287 8 ≡ Some (end-1-of-ends-287 ∷ end-2-of-ends-287 ∷ end-3-of-ends-287 ∷ end-2-of-ends-287 ∷
    end-1-of-ends-287 ∷ end-2-of-ends-287 ∷ end-3-of-ends-287 ∷ end-2-of-ends-287 ∷ end-1-of-ends-287 ∷ end-3-of-ends-287 ∷
    end-2-of-ends-287 ∷ end-1-of-ends-287 ∷ end-2-of-ends-287 ∷ end-1-of-ends-287 ∷ end-1-of-ends-287 ∷ [])
unfolding computes model-ends-287
paths-of-ends-287 = has_paths model-ends-287 8 _ refl

-- byte b0 = 1;
-- int i1 = 1;
-- typedef T { byte f; short g[2] }; T r;
-- chan q0 = [1] of { short, byte };
-- active proctype Watch() { timeout; printf("%d %d %d %d %d, %d left\n", b0, i1, r.f, r.g[1], len(q0), _nr_pr) }
-- active proctype P0() { byte k; d_step { b0 = _nr_pr; r.f = (r.f << 1) } }
-- proctype Q(byte n) { r.g[1] = 0 }
-- init { run Q(1) }
tokens-ends-300 : List Word
tokens-ends-300 =
    on 1 kind.Byte "byte" ∷ on 1 kind.Name "b0" ∷ on 1 kind.Assign "=" ∷ on 1 kind.Number "1" ∷ on 1 kind.Semicolon ";" ∷
    on 2 kind.Int "int" ∷ on 2 kind.Name "i1" ∷ on 2 kind.Assign "=" ∷ on 2 kind.Number "1" ∷ on 2 kind.Semicolon ";" ∷
    on 3 kind.Typedef "typedef" ∷ on 3 kind.Name "T" ∷ on 3 kind.OpenBrace "{" ∷ on 3 kind.Byte "byte" ∷ on 3 kind.Name "f" ∷
    on 3 kind.Semicolon ";" ∷ on 3 kind.Short "short" ∷ on 3 kind.Name "g" ∷ on 3 kind.OpenBracket "[" ∷ on 3 kind.Number "2" ∷
    on 3 kind.CloseBracket "]" ∷ on 3 kind.CloseBrace "}" ∷ on 3 kind.Semicolon ";" ∷ on 3 kind.Name "T" ∷ on 3 kind.Name "r" ∷
    on 3 kind.Semicolon ";" ∷ on 4 kind.Chan "chan" ∷ on 4 kind.Name "q0" ∷ on 4 kind.Assign "=" ∷ on 4 kind.OpenBracket "[" ∷
    on 4 kind.Number "1" ∷ on 4 kind.CloseBracket "]" ∷ on 4 kind.Of "of" ∷ on 4 kind.OpenBrace "{" ∷ on 4 kind.Short "short" ∷
    on 4 kind.Comma "," ∷ on 4 kind.Byte "byte" ∷ on 4 kind.CloseBrace "}" ∷ on 4 kind.Semicolon ";" ∷ on 5 kind.Active "active" ∷
    on 5 kind.Proctype "proctype" ∷ on 5 kind.Name "Watch" ∷ on 5 kind.OpenParen "(" ∷ on 5 kind.CloseParen ")" ∷
    on 5 kind.OpenBrace "{" ∷ on 5 kind.Timeout "timeout" ∷ on 5 kind.Semicolon ";" ∷ on 5 kind.Printf "printf" ∷
    on 5 kind.OpenParen "(" ∷ on 5 kind.Quoted "\"%d %d %d %d %d, %d left\\n\"" ∷ on 5 kind.Comma "," ∷ on 5 kind.Name "b0" ∷
    on 5 kind.Comma "," ∷ on 5 kind.Name "i1" ∷ on 5 kind.Comma "," ∷ on 5 kind.Name "r" ∷ on 5 kind.Dot "." ∷ on 5 kind.Name "f" ∷
    on 5 kind.Comma "," ∷ on 5 kind.Name "r" ∷ on 5 kind.Dot "." ∷ on 5 kind.Name "g" ∷ on 5 kind.OpenBracket "[" ∷
    on 5 kind.Number "1" ∷ on 5 kind.CloseBracket "]" ∷ on 5 kind.Comma "," ∷ on 5 kind.Len "len" ∷ on 5 kind.OpenParen "(" ∷
    on 5 kind.Name "q0" ∷ on 5 kind.CloseParen ")" ∷ on 5 kind.Comma "," ∷ on 5 kind.Name "_nr_pr" ∷ on 5 kind.CloseParen ")" ∷
    on 5 kind.CloseBrace "}" ∷ on 6 kind.Active "active" ∷ on 6 kind.Proctype "proctype" ∷ on 6 kind.Name "P0" ∷
    on 6 kind.OpenParen "(" ∷ on 6 kind.CloseParen ")" ∷ on 6 kind.OpenBrace "{" ∷ on 6 kind.Byte "byte" ∷ on 6 kind.Name "k" ∷
    on 6 kind.Semicolon ";" ∷ on 6 kind.DStep "d_step" ∷ on 6 kind.OpenBrace "{" ∷ on 6 kind.Name "b0" ∷ on 6 kind.Assign "=" ∷
    on 6 kind.Name "_nr_pr" ∷ on 6 kind.Semicolon ";" ∷ on 6 kind.Name "r" ∷ on 6 kind.Dot "." ∷ on 6 kind.Name "f" ∷
    on 6 kind.Assign "=" ∷ on 6 kind.OpenParen "(" ∷ on 6 kind.Name "r" ∷ on 6 kind.Dot "." ∷ on 6 kind.Name "f" ∷
    on 6 kind.ShiftLeft "<<" ∷ on 6 kind.Number "1" ∷ on 6 kind.CloseParen ")" ∷ on 6 kind.CloseBrace "}" ∷
    on 6 kind.CloseBrace "}" ∷ on 7 kind.Proctype "proctype" ∷ on 7 kind.Name "Q" ∷ on 7 kind.OpenParen "(" ∷ on 7 kind.Byte "byte" ∷
    on 7 kind.Name "n" ∷ on 7 kind.CloseParen ")" ∷ on 7 kind.OpenBrace "{" ∷ on 7 kind.Name "r" ∷ on 7 kind.Dot "." ∷
    on 7 kind.Name "g" ∷ on 7 kind.OpenBracket "[" ∷ on 7 kind.Number "1" ∷ on 7 kind.CloseBracket "]" ∷ on 7 kind.Assign "=" ∷
    on 7 kind.Number "0" ∷ on 7 kind.CloseBrace "}" ∷ on 8 kind.Init "init" ∷ on 8 kind.OpenBrace "{" ∷ on 8 kind.Run "run" ∷
    on 8 kind.Name "Q" ∷ on 8 kind.OpenParen "(" ∷ on 8 kind.Number "1" ∷ on 8 kind.CloseParen ")" ∷ on 8 kind.CloseBrace "}" ∷ []

model-ends-300 : Program
unfolding tokens-ends-300
model-ends-300 =
    let at : ℕ → Word = token_at tokens-ends-300 in
    let part : ℕ → ℕ → List Word = tokens_between tokens-ends-300 in
    record {
      globals = (slot (at 1) byte false 0 1 1 (initial.Value (number 1)) ∷ slot (at 6) int false 1 1 1 (initial.Value (number 1)) ∷
          slot (at 24) (form.Struct 3) false 2 1 3 initial.Zero ∷ slot (at 27) chan false 5 1 1 (initial.Channel 1 (short ∷ byte ∷ []))
          ∷ []);
      constants = [];
      typedefs = (fields 3 (slot (at 14) byte false 0 1 1 initial.Zero ∷ slot (at 17) short true 1 2 1 initial.Zero ∷ []) ∷ []);
      proctypes = (
          process (at 41) 6 1 0 [] (
          plain (part 45 46) (holds expr.Timeout) ∷
          plain (part 47 73) (action.Printf (at 49) ((read (global 0 byte)) ∷ (read (global 1 int)) ∷ (read (in_global 2 byte (turn 0 1
          3 None ∷ turn 0 1 1 None ∷ []))) ∷ (read (in_global 2 short (turn 0 1 3 None ∷ turn 1 2 1 (Some (number 1)) ∷ []))) ∷
          (expr.Ask fill.Length (global 3 chan)) ∷ expr.ProcessCount ∷ [])) ∷ []) (at 73) ∷
          process (at 76) 7 1 0 (slot (at 81) byte false 0 1 1 initial.Zero ∷ []) (
          d_step (part 83 101) (
          plain (part 85 88) (assign (global 0 byte) expr.ProcessCount) ∷
          plain (part 89 100) (assign (in_global 2 byte (turn 0 1 3 None ∷ turn 0 1 1 None ∷ [])) (expr.Binary op.ShiftLeft (read
          (in_global 2 byte (turn 0 1 3 None ∷ turn 0 1 1 None ∷ []))) (number 1))) ∷ []) ∷ []) (at 101) ∷
          process (at 103) 8 0 1 (slot (at 106) byte false 0 1 1 initial.Zero ∷ []) (
          plain (part 109 117) (assign (in_global 2 short (turn 0 1 3 None ∷ turn 1 2 1 (Some (number 1)) ∷ [])) (number 0)) ∷ []) (at 117) ∷
          process (at 118) 9 1 0 [] (
          plain (part 120 125) (action.Run (run 2 ((number 1) ∷ []))) ∷ []) (at 125) ∷ []);
    }

abbrev end-1-of-ends-300 : Printed
end-1-of-ends-300 = shown (codes "3 1 0 0 0, 1 left\n") Valid

abbrev end-2-of-ends-300 : Printed
end-2-of-ends-300 = shown (codes "4 1 0 0 0, 1 left\n") Valid

abbrev end-3-of-ends-300 : Printed
end-3-of-ends-300 = shown (codes "2 1 0 0 0, 1 left\n") Valid

paths-of-ends-300 : paths model-ends-300 9 ≡ Some (end-1-of-ends-300 ∷ end-2-of-ends-300 ∷ end-2-of-ends-300 ∷ end-1-of-ends-300 ∷
    end-3-of-ends-300 ∷ [])
unfolding computes model-ends-300
paths-of-ends-300 = has_paths model-ends-300 9 _ refl

-- bit t0 = 1;
-- typedef T { byte f; short g[2] }; T r;
-- active proctype Watch() { timeout; printf("%d %d %d, %d left\n", t0, r.f, r.g[1], _nr_pr) }
-- active proctype P0() { byte k; if :: (0 >= 1 -> 100 : 255) != 100 -> (_nr_pr > 0); (r.f >= 7) :: (100 >= r.g[1]) :: else -> r.f =
--     r.f fi; if :: t0-- :: t0 = (1 >> 1); t0 = (r.f > 3 -> t0 : 2) :: else -> r.g[1] = (7 ^ _pid) fi }
-- active proctype P1() { byte k; (1 > 2); do :: (2 != r.f); r.g[1]++ :: r.f <= 0 -> t0 = 255 :: break od }
tokens-ends-318 : List Word
tokens-ends-318 =
    on 1 kind.Bit "bit" ∷ on 1 kind.Name "t0" ∷ on 1 kind.Assign "=" ∷ on 1 kind.Number "1" ∷ on 1 kind.Semicolon ";" ∷
    on 2 kind.Typedef "typedef" ∷ on 2 kind.Name "T" ∷ on 2 kind.OpenBrace "{" ∷ on 2 kind.Byte "byte" ∷ on 2 kind.Name "f" ∷
    on 2 kind.Semicolon ";" ∷ on 2 kind.Short "short" ∷ on 2 kind.Name "g" ∷ on 2 kind.OpenBracket "[" ∷ on 2 kind.Number "2" ∷
    on 2 kind.CloseBracket "]" ∷ on 2 kind.CloseBrace "}" ∷ on 2 kind.Semicolon ";" ∷ on 2 kind.Name "T" ∷ on 2 kind.Name "r" ∷
    on 2 kind.Semicolon ";" ∷ on 3 kind.Active "active" ∷ on 3 kind.Proctype "proctype" ∷ on 3 kind.Name "Watch" ∷
    on 3 kind.OpenParen "(" ∷ on 3 kind.CloseParen ")" ∷ on 3 kind.OpenBrace "{" ∷ on 3 kind.Timeout "timeout" ∷
    on 3 kind.Semicolon ";" ∷ on 3 kind.Printf "printf" ∷ on 3 kind.OpenParen "(" ∷ on 3 kind.Quoted "\"%d %d %d, %d left\\n\"" ∷
    on 3 kind.Comma "," ∷ on 3 kind.Name "t0" ∷ on 3 kind.Comma "," ∷ on 3 kind.Name "r" ∷ on 3 kind.Dot "." ∷ on 3 kind.Name "f" ∷
    on 3 kind.Comma "," ∷ on 3 kind.Name "r" ∷ on 3 kind.Dot "." ∷ on 3 kind.Name "g" ∷ on 3 kind.OpenBracket "[" ∷
    on 3 kind.Number "1" ∷ on 3 kind.CloseBracket "]" ∷ on 3 kind.Comma "," ∷ on 3 kind.Name "_nr_pr" ∷ on 3 kind.CloseParen ")" ∷
    on 3 kind.CloseBrace "}" ∷ on 4 kind.Active "active" ∷ on 4 kind.Proctype "proctype" ∷ on 4 kind.Name "P0" ∷
    on 4 kind.OpenParen "(" ∷ on 4 kind.CloseParen ")" ∷ on 4 kind.OpenBrace "{" ∷ on 4 kind.Byte "byte" ∷ on 4 kind.Name "k" ∷
    on 4 kind.Semicolon ";" ∷ on 4 kind.If "if" ∷ on 4 kind.DoubleColon "::" ∷ on 4 kind.OpenParen "(" ∷ on 4 kind.Number "0" ∷
    on 4 kind.AtLeast ">=" ∷ on 4 kind.Number "1" ∷ on 4 kind.Arrow "->" ∷ on 4 kind.Number "100" ∷ on 4 kind.Colon ":" ∷
    on 4 kind.Number "255" ∷ on 4 kind.CloseParen ")" ∷ on 4 kind.Unequal "!=" ∷ on 4 kind.Number "100" ∷ on 4 kind.Arrow "->" ∷
    on 4 kind.OpenParen "(" ∷ on 4 kind.Name "_nr_pr" ∷ on 4 kind.Greater ">" ∷ on 4 kind.Number "0" ∷ on 4 kind.CloseParen ")" ∷
    on 4 kind.Semicolon ";" ∷ on 4 kind.OpenParen "(" ∷ on 4 kind.Name "r" ∷ on 4 kind.Dot "." ∷ on 4 kind.Name "f" ∷
    on 4 kind.AtLeast ">=" ∷ on 4 kind.Number "7" ∷ on 4 kind.CloseParen ")" ∷ on 4 kind.DoubleColon "::" ∷ on 4 kind.OpenParen "(" ∷
    on 4 kind.Number "100" ∷ on 4 kind.AtLeast ">=" ∷ on 4 kind.Name "r" ∷ on 4 kind.Dot "." ∷ on 4 kind.Name "g" ∷
    on 4 kind.OpenBracket "[" ∷ on 4 kind.Number "1" ∷ on 4 kind.CloseBracket "]" ∷ on 4 kind.CloseParen ")" ∷
    on 4 kind.DoubleColon "::" ∷ on 4 kind.Else "else" ∷ on 4 kind.Arrow "->" ∷ on 4 kind.Name "r" ∷ on 4 kind.Dot "." ∷
    on 4 kind.Name "f" ∷ on 4 kind.Assign "=" ∷ on 4 kind.Name "r" ∷ on 4 kind.Dot "." ∷ on 4 kind.Name "f" ∷ on 4 kind.Fi "fi" ∷
    on 4 kind.Semicolon ";" ∷ on 4 kind.If "if" ∷ on 4 kind.DoubleColon "::" ∷ on 4 kind.Name "t0" ∷ on 4 kind.Decrement "--" ∷
    on 4 kind.DoubleColon "::" ∷ on 4 kind.Name "t0" ∷ on 4 kind.Assign "=" ∷ on 4 kind.OpenParen "(" ∷ on 4 kind.Number "1" ∷
    on 4 kind.ShiftRight ">>" ∷ on 4 kind.Number "1" ∷ on 4 kind.CloseParen ")" ∷ on 4 kind.Semicolon ";" ∷ on 4 kind.Name "t0" ∷
    on 4 kind.Assign "=" ∷ on 4 kind.OpenParen "(" ∷ on 4 kind.Name "r" ∷ on 4 kind.Dot "." ∷ on 4 kind.Name "f" ∷
    on 4 kind.Greater ">" ∷ on 4 kind.Number "3" ∷ on 4 kind.Arrow "->" ∷ on 4 kind.Name "t0" ∷ on 4 kind.Colon ":" ∷
    on 4 kind.Number "2" ∷ on 4 kind.CloseParen ")" ∷ on 4 kind.DoubleColon "::" ∷ on 4 kind.Else "else" ∷ on 4 kind.Arrow "->" ∷
    on 4 kind.Name "r" ∷ on 4 kind.Dot "." ∷ on 4 kind.Name "g" ∷ on 4 kind.OpenBracket "[" ∷ on 4 kind.Number "1" ∷
    on 4 kind.CloseBracket "]" ∷ on 4 kind.Assign "=" ∷ on 4 kind.OpenParen "(" ∷ on 4 kind.Number "7" ∷ on 4 kind.Caret "^" ∷
    on 4 kind.Name "_pid" ∷ on 4 kind.CloseParen ")" ∷ on 4 kind.Fi "fi" ∷ on 4 kind.CloseBrace "}" ∷ on 5 kind.Active "active" ∷
    on 5 kind.Proctype "proctype" ∷ on 5 kind.Name "P1" ∷ on 5 kind.OpenParen "(" ∷ on 5 kind.CloseParen ")" ∷
    on 5 kind.OpenBrace "{" ∷ on 5 kind.Byte "byte" ∷ on 5 kind.Name "k" ∷ on 5 kind.Semicolon ";" ∷ on 5 kind.OpenParen "(" ∷
    on 5 kind.Number "1" ∷ on 5 kind.Greater ">" ∷ on 5 kind.Number "2" ∷ on 5 kind.CloseParen ")" ∷ on 5 kind.Semicolon ";" ∷
    on 5 kind.Do "do" ∷ on 5 kind.DoubleColon "::" ∷ on 5 kind.OpenParen "(" ∷ on 5 kind.Number "2" ∷ on 5 kind.Unequal "!=" ∷
    on 5 kind.Name "r" ∷ on 5 kind.Dot "." ∷ on 5 kind.Name "f" ∷ on 5 kind.CloseParen ")" ∷ on 5 kind.Semicolon ";" ∷
    on 5 kind.Name "r" ∷ on 5 kind.Dot "." ∷ on 5 kind.Name "g" ∷ on 5 kind.OpenBracket "[" ∷ on 5 kind.Number "1" ∷
    on 5 kind.CloseBracket "]" ∷ on 5 kind.Increment "++" ∷ on 5 kind.DoubleColon "::" ∷ on 5 kind.Name "r" ∷ on 5 kind.Dot "." ∷
    on 5 kind.Name "f" ∷ on 5 kind.AtMost "<=" ∷ on 5 kind.Number "0" ∷ on 5 kind.Arrow "->" ∷ on 5 kind.Name "t0" ∷
    on 5 kind.Assign "=" ∷ on 5 kind.Number "255" ∷ on 5 kind.DoubleColon "::" ∷ on 5 kind.Break "break" ∷ on 5 kind.Od "od" ∷
    on 5 kind.CloseBrace "}" ∷ []

model-ends-318 : Program
unfolding tokens-ends-318
model-ends-318 =
    let at : ℕ → Word = token_at tokens-ends-318 in
    let part : ℕ → ℕ → List Word = tokens_between tokens-ends-318 in
    record {
      globals = (slot (at 1) bit false 0 1 1 (initial.Value (number 1)) ∷ slot (at 19) (form.Struct 2) false 1 1 3 initial.Zero ∷ []);
      constants = [];
      typedefs = (fields 2 (slot (at 9) byte false 0 1 1 initial.Zero ∷ slot (at 12) short true 1 2 1 initial.Zero ∷ []) ∷ []);
      proctypes = (
          process (at 23) 4 1 0 [] (
          plain (part 27 28) (holds expr.Timeout) ∷
          plain (part 29 48) (action.Printf (at 31) ((read (global 0 bit)) ∷ (read (in_global 1 byte (turn 0 1 3 None ∷ turn 0 1 1 None
          ∷ []))) ∷ (read (in_global 1 short (turn 0 1 3 None ∷ turn 1 2 1 (Some (number 1)) ∷ []))) ∷ expr.ProcessCount ∷ [])) ∷ [])
          (at 48) ∷
          process (at 51) 5 1 0 (slot (at 56) byte false 0 1 1 initial.Zero ∷ []) (
          if_fi (part 58 107) (
          (plain (part 60 71) (holds (expr.Binary op.Unequal (expr.Choice (expr.Binary op.AtLeast (number 0) (number 1)) (number 100)
          (number 255)) (number 100))) ∷
          plain (part 72 77) (holds (expr.Binary op.Above expr.ProcessCount (number 0))) ∷
          plain (part 78 85) (holds (expr.Binary op.AtLeast (read (in_global 1 byte (turn 0 1 3 None ∷ turn 0 1 1 None ∷ []))) (number
          7))) ∷ []) ∷
          (plain (part 86 96) (holds (expr.Binary op.AtLeast (number 100) (read (in_global 1 short (turn 0 1 3 None ∷ turn 1 2 1 (Some
          (number 1)) ∷ []))))) ∷ []) ∷
          (plain (part 97 98) action.Else ∷
          plain (part 99 106) (assign (in_global 1 byte (turn 0 1 3 None ∷ turn 0 1 1 None ∷ [])) (read (in_global 1 byte (turn 0 1 3
          None ∷ turn 0 1 1 None ∷ [])))) ∷ []) ∷ []) ∷
          if_fi (part 108 150) (
          (plain (part 110 112) (action.Decrement (global 0 bit)) ∷ []) ∷
          (plain (part 113 120) (assign (global 0 bit) (expr.Binary op.ShiftRight (number 1) (number 1))) ∷
          plain (part 121 134) (assign (global 0 bit) (expr.Choice (expr.Binary op.Above (read (in_global 1 byte (turn 0 1 3 None ∷ turn
          0 1 1 None ∷ []))) (number 3)) (read (global 0 bit)) (number 2))) ∷ []) ∷
          (plain (part 135 136) action.Else ∷
          plain (part 137 149) (assign (in_global 1 short (turn 0 1 3 None ∷ turn 1 2 1 (Some (number 1)) ∷ [])) (expr.Binary op.BitXor
          (number 7) expr.Pid)) ∷ []) ∷ []) ∷ []) (at 150) ∷
          process (at 153) 6 1 0 (slot (at 158) byte false 0 1 1 initial.Zero ∷ []) (
          plain (part 160 165) (holds (expr.Binary op.Above (number 1) (number 2))) ∷
          do_od (part 166 196) (
          (plain (part 168 175) (holds (expr.Binary op.Unequal (number 2) (read (in_global 1 byte (turn 0 1 3 None ∷ turn 0 1 1 None ∷ []))))) ∷
          plain (part 176 183) (action.Increment (in_global 1 short (turn 0 1 3 None ∷ turn 1 2 1 (Some (number 1)) ∷ []))) ∷ []) ∷
          (plain (part 184 189) (holds (expr.Binary op.AtMost (read (in_global 1 byte (turn 0 1 3 None ∷ turn 0 1 1 None ∷ []))) (number 0))) ∷
          plain (part 190 193) (assign (global 0 bit) (number 255)) ∷ []) ∷
          (stmt [] Break (part 194 195) ∷ []) ∷ []) ∷ []) (at 196) ∷ []);
    }

abbrev end-1-of-ends-318 : Printed
end-1-of-ends-318 = shown (codes "1 0 0, 3 left\n") Invalid

abbrev end-2-of-ends-318 : Printed
end-2-of-ends-318 = shown (codes "0 0 0, 3 left\n") Invalid

paths-of-ends-318 : paths model-ends-318 5 ≡ Some (end-1-of-ends-318 ∷ end-2-of-ends-318 ∷ end-2-of-ends-318 ∷ [])
unfolding computes model-ends-318
paths-of-ends-318 = has_paths model-ends-318 5 _ refl

-- mtype = { red, green, blue }; mtype m = green;
-- unsigned u0 : 3 = 1;
-- active proctype Watch() { timeout; printf("%d, %d left\n", u0, _nr_pr) }
-- active proctype P0() { byte k; if :: (7 < 0 -> 255 : 3) != u0 -> u0 = m; ((1 >> 3) == (100 != 3 -> 7 : 1)) :: ((100 != (~7) || 2 <
--     0)) :: else -> u0 = 255 fi; if :: (100 / 3) > u0 -> ((255 >= m || 1 >= 7)); m++ fi }
tokens-ends-319 : List Word
tokens-ends-319 =
    on 1 kind.Mtype "mtype" ∷ on 1 kind.Assign "=" ∷ on 1 kind.OpenBrace "{" ∷ on 1 kind.Name "red" ∷ on 1 kind.Comma "," ∷
    on 1 kind.Name "green" ∷ on 1 kind.Comma "," ∷ on 1 kind.Name "blue" ∷ on 1 kind.CloseBrace "}" ∷ on 1 kind.Semicolon ";" ∷
    on 1 kind.Mtype "mtype" ∷ on 1 kind.Name "m" ∷ on 1 kind.Assign "=" ∷ on 1 kind.Name "green" ∷ on 1 kind.Semicolon ";" ∷
    on 2 kind.Unsigned "unsigned" ∷ on 2 kind.Name "u0" ∷ on 2 kind.Colon ":" ∷ on 2 kind.Number "3" ∷ on 2 kind.Assign "=" ∷
    on 2 kind.Number "1" ∷ on 2 kind.Semicolon ";" ∷ on 3 kind.Active "active" ∷ on 3 kind.Proctype "proctype" ∷
    on 3 kind.Name "Watch" ∷ on 3 kind.OpenParen "(" ∷ on 3 kind.CloseParen ")" ∷ on 3 kind.OpenBrace "{" ∷
    on 3 kind.Timeout "timeout" ∷ on 3 kind.Semicolon ";" ∷ on 3 kind.Printf "printf" ∷ on 3 kind.OpenParen "(" ∷
    on 3 kind.Quoted "\"%d, %d left\\n\"" ∷ on 3 kind.Comma "," ∷ on 3 kind.Name "u0" ∷ on 3 kind.Comma "," ∷
    on 3 kind.Name "_nr_pr" ∷ on 3 kind.CloseParen ")" ∷ on 3 kind.CloseBrace "}" ∷ on 4 kind.Active "active" ∷
    on 4 kind.Proctype "proctype" ∷ on 4 kind.Name "P0" ∷ on 4 kind.OpenParen "(" ∷ on 4 kind.CloseParen ")" ∷
    on 4 kind.OpenBrace "{" ∷ on 4 kind.Byte "byte" ∷ on 4 kind.Name "k" ∷ on 4 kind.Semicolon ";" ∷ on 4 kind.If "if" ∷
    on 4 kind.DoubleColon "::" ∷ on 4 kind.OpenParen "(" ∷ on 4 kind.Number "7" ∷ on 4 kind.Less "<" ∷ on 4 kind.Number "0" ∷
    on 4 kind.Arrow "->" ∷ on 4 kind.Number "255" ∷ on 4 kind.Colon ":" ∷ on 4 kind.Number "3" ∷ on 4 kind.CloseParen ")" ∷
    on 4 kind.Unequal "!=" ∷ on 4 kind.Name "u0" ∷ on 4 kind.Arrow "->" ∷ on 4 kind.Name "u0" ∷ on 4 kind.Assign "=" ∷
    on 4 kind.Name "m" ∷ on 4 kind.Semicolon ";" ∷ on 4 kind.OpenParen "(" ∷ on 4 kind.OpenParen "(" ∷ on 4 kind.Number "1" ∷
    on 4 kind.ShiftRight ">>" ∷ on 4 kind.Number "3" ∷ on 4 kind.CloseParen ")" ∷ on 4 kind.Equal "==" ∷ on 4 kind.OpenParen "(" ∷
    on 4 kind.Number "100" ∷ on 4 kind.Unequal "!=" ∷ on 4 kind.Number "3" ∷ on 4 kind.Arrow "->" ∷ on 4 kind.Number "7" ∷
    on 4 kind.Colon ":" ∷ on 4 kind.Number "1" ∷ on 4 kind.CloseParen ")" ∷ on 4 kind.CloseParen ")" ∷ on 4 kind.DoubleColon "::" ∷
    on 4 kind.OpenParen "(" ∷ on 4 kind.OpenParen "(" ∷ on 4 kind.Number "100" ∷ on 4 kind.Unequal "!=" ∷ on 4 kind.OpenParen "(" ∷
    on 4 kind.Tilde "~" ∷ on 4 kind.Number "7" ∷ on 4 kind.CloseParen ")" ∷ on 4 kind.OrOr "||" ∷ on 4 kind.Number "2" ∷
    on 4 kind.Less "<" ∷ on 4 kind.Number "0" ∷ on 4 kind.CloseParen ")" ∷ on 4 kind.CloseParen ")" ∷ on 4 kind.DoubleColon "::" ∷
    on 4 kind.Else "else" ∷ on 4 kind.Arrow "->" ∷ on 4 kind.Name "u0" ∷ on 4 kind.Assign "=" ∷ on 4 kind.Number "255" ∷
    on 4 kind.Fi "fi" ∷ on 4 kind.Semicolon ";" ∷ on 4 kind.If "if" ∷ on 4 kind.DoubleColon "::" ∷ on 4 kind.OpenParen "(" ∷
    on 4 kind.Number "100" ∷ on 4 kind.Slash "/" ∷ on 4 kind.Number "3" ∷ on 4 kind.CloseParen ")" ∷ on 4 kind.Greater ">" ∷
    on 4 kind.Name "u0" ∷ on 4 kind.Arrow "->" ∷ on 4 kind.OpenParen "(" ∷ on 4 kind.OpenParen "(" ∷ on 4 kind.Number "255" ∷
    on 4 kind.AtLeast ">=" ∷ on 4 kind.Name "m" ∷ on 4 kind.OrOr "||" ∷ on 4 kind.Number "1" ∷ on 4 kind.AtLeast ">=" ∷
    on 4 kind.Number "7" ∷ on 4 kind.CloseParen ")" ∷ on 4 kind.CloseParen ")" ∷ on 4 kind.Semicolon ";" ∷ on 4 kind.Name "m" ∷
    on 4 kind.Increment "++" ∷ on 4 kind.Fi "fi" ∷ on 4 kind.CloseBrace "}" ∷ []

model-ends-319 : Program
unfolding tokens-ends-319
model-ends-319 =
    let at : ℕ → Word = token_at tokens-ends-319 in
    let part : ℕ → ℕ → List Word = tokens_between tokens-ends-319 in
    record {
      globals = (slot (at 11) mtype false 0 1 1 (initial.Value (number 2)) ∷ slot (at 16) (form.Unsigned 3) false 1 1 1 (initial.Value
          (number 1)) ∷ []);
      constants = ((at 7) ∷ (at 5) ∷ (at 3) ∷ []);
      typedefs = [];
      proctypes = (
          process (at 24) 4 1 0 [] (
          plain (part 28 29) (holds expr.Timeout) ∷
          plain (part 30 38) (action.Printf (at 32) ((read (global 1 (form.Unsigned 3))) ∷ expr.ProcessCount ∷ [])) ∷ []) (at 38) ∷
          process (at 41) 5 1 0 (slot (at 46) byte false 0 1 1 initial.Zero ∷ []) (
          if_fi (part 48 105) (
          (plain (part 50 61) (holds (expr.Binary op.Unequal (expr.Choice (expr.Binary op.Below (number 7) (number 0)) (number 255)
          (number 3)) (read (global 1 (form.Unsigned 3))))) ∷
          plain (part 62 65) (assign (global 1 (form.Unsigned 3)) (read (global 0 mtype))) ∷
          plain (part 66 83) (holds (expr.Binary op.Equal (expr.Binary op.ShiftRight (number 1) (number 3)) (expr.Choice (expr.Binary
          op.Unequal (number 100) (number 3)) (number 7) (number 1)))) ∷ []) ∷
          (plain (part 84 98) (holds (expr.Binary op.Or (expr.Binary op.Unequal (number 100) (expr.Unary before.Complement (number 7)))
          (expr.Binary op.Below (number 2) (number 0)))) ∷ []) ∷
          (plain (part 99 100) action.Else ∷
          plain (part 101 104) (assign (global 1 (form.Unsigned 3)) (number 255)) ∷ []) ∷ []) ∷
          if_fi (part 106 131) (
          (plain (part 108 115) (holds (expr.Binary op.Above (expr.Binary op.Divide (number 100) (number 3)) (read (global 1
          (form.Unsigned 3))))) ∷
          plain (part 116 127) (holds (expr.Binary op.Or (expr.Binary op.AtLeast (number 255) (read (global 0 mtype))) (expr.Binary
          op.AtLeast (number 1) (number 7)))) ∷
          plain (part 128 130) (action.Increment (global 0 mtype)) ∷ []) ∷ []) ∷ []) (at 131) ∷ []);
    }

abbrev end-1-of-ends-319 : Printed
end-1-of-ends-319 = shown (codes "2, 2 left\n") Invalid

abbrev end-2-of-ends-319 : Printed
end-2-of-ends-319 = shown (codes "1, 1 left\n") Valid

paths-of-ends-319 : paths model-ends-319 8 ≡ Some (end-1-of-ends-319 ∷ end-2-of-ends-319 ∷ [])
unfolding computes model-ends-319
paths-of-ends-319 = has_paths model-ends-319 8 _ refl

-- int i0 = 1;
-- int i1 = 1;
-- chan q0 = [1] of { byte };
-- active proctype Watch() { timeout; printf("%d %d %d, %d left\n", i0, i1, len(q0), _nr_pr) }
-- active proctype P0() { byte k; { i0++; i0 = i1 } unless { (nempty(q0)) -> q0?2 }; i0 = 300 }
-- active proctype P1() { byte k; if :: i0 = ((300 > 300 -> 1 : 2) + (1 & 3)); q0?_ fi }
tokens-ends-351 : List Word
tokens-ends-351 =
    on 1 kind.Int "int" ∷ on 1 kind.Name "i0" ∷ on 1 kind.Assign "=" ∷ on 1 kind.Number "1" ∷ on 1 kind.Semicolon ";" ∷
    on 2 kind.Int "int" ∷ on 2 kind.Name "i1" ∷ on 2 kind.Assign "=" ∷ on 2 kind.Number "1" ∷ on 2 kind.Semicolon ";" ∷
    on 3 kind.Chan "chan" ∷ on 3 kind.Name "q0" ∷ on 3 kind.Assign "=" ∷ on 3 kind.OpenBracket "[" ∷ on 3 kind.Number "1" ∷
    on 3 kind.CloseBracket "]" ∷ on 3 kind.Of "of" ∷ on 3 kind.OpenBrace "{" ∷ on 3 kind.Byte "byte" ∷ on 3 kind.CloseBrace "}" ∷
    on 3 kind.Semicolon ";" ∷ on 4 kind.Active "active" ∷ on 4 kind.Proctype "proctype" ∷ on 4 kind.Name "Watch" ∷
    on 4 kind.OpenParen "(" ∷ on 4 kind.CloseParen ")" ∷ on 4 kind.OpenBrace "{" ∷ on 4 kind.Timeout "timeout" ∷
    on 4 kind.Semicolon ";" ∷ on 4 kind.Printf "printf" ∷ on 4 kind.OpenParen "(" ∷ on 4 kind.Quoted "\"%d %d %d, %d left\\n\"" ∷
    on 4 kind.Comma "," ∷ on 4 kind.Name "i0" ∷ on 4 kind.Comma "," ∷ on 4 kind.Name "i1" ∷ on 4 kind.Comma "," ∷
    on 4 kind.Len "len" ∷ on 4 kind.OpenParen "(" ∷ on 4 kind.Name "q0" ∷ on 4 kind.CloseParen ")" ∷ on 4 kind.Comma "," ∷
    on 4 kind.Name "_nr_pr" ∷ on 4 kind.CloseParen ")" ∷ on 4 kind.CloseBrace "}" ∷ on 5 kind.Active "active" ∷
    on 5 kind.Proctype "proctype" ∷ on 5 kind.Name "P0" ∷ on 5 kind.OpenParen "(" ∷ on 5 kind.CloseParen ")" ∷
    on 5 kind.OpenBrace "{" ∷ on 5 kind.Byte "byte" ∷ on 5 kind.Name "k" ∷ on 5 kind.Semicolon ";" ∷ on 5 kind.OpenBrace "{" ∷
    on 5 kind.Name "i0" ∷ on 5 kind.Increment "++" ∷ on 5 kind.Semicolon ";" ∷ on 5 kind.Name "i0" ∷ on 5 kind.Assign "=" ∷
    on 5 kind.Name "i1" ∷ on 5 kind.CloseBrace "}" ∷ on 5 kind.Unless "unless" ∷ on 5 kind.OpenBrace "{" ∷ on 5 kind.OpenParen "(" ∷
    on 5 kind.Nempty "nempty" ∷ on 5 kind.OpenParen "(" ∷ on 5 kind.Name "q0" ∷ on 5 kind.CloseParen ")" ∷ on 5 kind.CloseParen ")" ∷
    on 5 kind.Arrow "->" ∷ on 5 kind.Name "q0" ∷ on 5 kind.Query "?" ∷ on 5 kind.Number "2" ∷ on 5 kind.CloseBrace "}" ∷
    on 5 kind.Semicolon ";" ∷ on 5 kind.Name "i0" ∷ on 5 kind.Assign "=" ∷ on 5 kind.Number "300" ∷ on 5 kind.CloseBrace "}" ∷
    on 6 kind.Active "active" ∷ on 6 kind.Proctype "proctype" ∷ on 6 kind.Name "P1" ∷ on 6 kind.OpenParen "(" ∷
    on 6 kind.CloseParen ")" ∷ on 6 kind.OpenBrace "{" ∷ on 6 kind.Byte "byte" ∷ on 6 kind.Name "k" ∷ on 6 kind.Semicolon ";" ∷
    on 6 kind.If "if" ∷ on 6 kind.DoubleColon "::" ∷ on 6 kind.Name "i0" ∷ on 6 kind.Assign "=" ∷ on 6 kind.OpenParen "(" ∷
    on 6 kind.OpenParen "(" ∷ on 6 kind.Number "300" ∷ on 6 kind.Greater ">" ∷ on 6 kind.Number "300" ∷ on 6 kind.Arrow "->" ∷
    on 6 kind.Number "1" ∷ on 6 kind.Colon ":" ∷ on 6 kind.Number "2" ∷ on 6 kind.CloseParen ")" ∷ on 6 kind.Plus "+" ∷
    on 6 kind.OpenParen "(" ∷ on 6 kind.Number "1" ∷ on 6 kind.Ampersand "&" ∷ on 6 kind.Number "3" ∷ on 6 kind.CloseParen ")" ∷
    on 6 kind.CloseParen ")" ∷ on 6 kind.Semicolon ";" ∷ on 6 kind.Name "q0" ∷ on 6 kind.Query "?" ∷ on 6 kind.Name "_" ∷
    on 6 kind.Fi "fi" ∷ on 6 kind.CloseBrace "}" ∷ []

model-ends-351 : Program
unfolding tokens-ends-351
model-ends-351 =
    let at : ℕ → Word = token_at tokens-ends-351 in
    let part : ℕ → ℕ → List Word = tokens_between tokens-ends-351 in
    record {
      globals = (slot (at 1) int false 0 1 1 (initial.Value (number 1)) ∷ slot (at 6) int false 1 1 1 (initial.Value (number 1)) ∷
          slot (at 11) chan false 2 1 1 (initial.Channel 1 (byte ∷ [])) ∷ []);
      constants = [];
      typedefs = [];
      proctypes = (
          process (at 23) 4 1 0 [] (
          plain (part 27 28) (holds expr.Timeout) ∷
          plain (part 29 44) (action.Printf (at 31) ((read (global 0 int)) ∷ (read (global 1 int)) ∷ (expr.Ask fill.Length (global 2
          chan)) ∷ expr.ProcessCount ∷ [])) ∷ []) (at 44) ∷
          process (at 47) 5 1 0 (slot (at 52) byte false 0 1 1 initial.Zero ∷ []) (
          unless (part 54 75) (
          block (part 54 62) (
          plain (part 55 57) (action.Increment (global 0 int)) ∷
          plain (part 58 61) (assign (global 0 int) (read (global 1 int))) ∷ []) ∷ []) (
          block (part 63 75) (
          plain (part 64 70) (holds (expr.Ask fill.IsNotEmpty (global 2 chan))) ∷
          plain (part 71 74) (action.Receive (global 2 chan) First Remove (want.Exactly (pos 2) ∷ [])) ∷ []) ∷ []) ∷
          plain (part 76 79) (assign (global 0 int) (number 300)) ∷ []) (at 79) ∷
          process (at 82) 6 1 0 (slot (at 87) byte false 0 1 1 initial.Zero ∷ []) (
          if_fi (part 89 115) (
          (plain (part 91 110) (assign (global 0 int) (expr.Binary op.Plus (expr.Choice (expr.Binary op.Above (number 300) (number 300))
          (number 1) (number 2)) (expr.Binary op.BitAnd (number 1) (number 3)))) ∷
          plain (part 111 114) (action.Receive (global 2 chan) First Remove (want.Anything ∷ [])) ∷ []) ∷ []) ∷ []) (at 115) ∷ []);
    }

abbrev end-1-of-ends-351 : Printed
end-1-of-ends-351 = shown (codes "3 1 0, 3 left\n") Invalid

abbrev end-2-of-ends-351 : Printed
end-2-of-ends-351 = shown (codes "300 1 0, 3 left\n") Invalid

paths-of-ends-351 : paths model-ends-351 6 ≡ Some (end-1-of-ends-351 ∷ end-2-of-ends-351 ∷ end-2-of-ends-351 ∷ end-2-of-ends-351 ∷ [])
unfolding computes model-ends-351
paths-of-ends-351 = has_paths model-ends-351 6 _ refl

-- mtype = { red, green, blue }; mtype m = green;
-- byte b0 = 0;
-- short a[2];
-- active proctype Watch() { timeout; printf("%d %d %d, %d left\n", b0, a[0], a[1], _nr_pr) }
-- active proctype P0() { byte k; m = 2 }
-- active proctype P1() { byte k; if :: m = 1; m = 300 :: m < 255 -> ((1 / 1) > _nr_pr) :: else -> (100 <= (!255)) fi; a[1]++ }
tokens-ends-354 : List Word
tokens-ends-354 =
    on 1 kind.Mtype "mtype" ∷ on 1 kind.Assign "=" ∷ on 1 kind.OpenBrace "{" ∷ on 1 kind.Name "red" ∷ on 1 kind.Comma "," ∷
    on 1 kind.Name "green" ∷ on 1 kind.Comma "," ∷ on 1 kind.Name "blue" ∷ on 1 kind.CloseBrace "}" ∷ on 1 kind.Semicolon ";" ∷
    on 1 kind.Mtype "mtype" ∷ on 1 kind.Name "m" ∷ on 1 kind.Assign "=" ∷ on 1 kind.Name "green" ∷ on 1 kind.Semicolon ";" ∷
    on 2 kind.Byte "byte" ∷ on 2 kind.Name "b0" ∷ on 2 kind.Assign "=" ∷ on 2 kind.Number "0" ∷ on 2 kind.Semicolon ";" ∷
    on 3 kind.Short "short" ∷ on 3 kind.Name "a" ∷ on 3 kind.OpenBracket "[" ∷ on 3 kind.Number "2" ∷ on 3 kind.CloseBracket "]" ∷
    on 3 kind.Semicolon ";" ∷ on 4 kind.Active "active" ∷ on 4 kind.Proctype "proctype" ∷ on 4 kind.Name "Watch" ∷
    on 4 kind.OpenParen "(" ∷ on 4 kind.CloseParen ")" ∷ on 4 kind.OpenBrace "{" ∷ on 4 kind.Timeout "timeout" ∷
    on 4 kind.Semicolon ";" ∷ on 4 kind.Printf "printf" ∷ on 4 kind.OpenParen "(" ∷ on 4 kind.Quoted "\"%d %d %d, %d left\\n\"" ∷
    on 4 kind.Comma "," ∷ on 4 kind.Name "b0" ∷ on 4 kind.Comma "," ∷ on 4 kind.Name "a" ∷ on 4 kind.OpenBracket "[" ∷
    on 4 kind.Number "0" ∷ on 4 kind.CloseBracket "]" ∷ on 4 kind.Comma "," ∷ on 4 kind.Name "a" ∷ on 4 kind.OpenBracket "[" ∷
    on 4 kind.Number "1" ∷ on 4 kind.CloseBracket "]" ∷ on 4 kind.Comma "," ∷ on 4 kind.Name "_nr_pr" ∷ on 4 kind.CloseParen ")" ∷
    on 4 kind.CloseBrace "}" ∷ on 5 kind.Active "active" ∷ on 5 kind.Proctype "proctype" ∷ on 5 kind.Name "P0" ∷
    on 5 kind.OpenParen "(" ∷ on 5 kind.CloseParen ")" ∷ on 5 kind.OpenBrace "{" ∷ on 5 kind.Byte "byte" ∷ on 5 kind.Name "k" ∷
    on 5 kind.Semicolon ";" ∷ on 5 kind.Name "m" ∷ on 5 kind.Assign "=" ∷ on 5 kind.Number "2" ∷ on 5 kind.CloseBrace "}" ∷
    on 6 kind.Active "active" ∷ on 6 kind.Proctype "proctype" ∷ on 6 kind.Name "P1" ∷ on 6 kind.OpenParen "(" ∷
    on 6 kind.CloseParen ")" ∷ on 6 kind.OpenBrace "{" ∷ on 6 kind.Byte "byte" ∷ on 6 kind.Name "k" ∷ on 6 kind.Semicolon ";" ∷
    on 6 kind.If "if" ∷ on 6 kind.DoubleColon "::" ∷ on 6 kind.Name "m" ∷ on 6 kind.Assign "=" ∷ on 6 kind.Number "1" ∷
    on 6 kind.Semicolon ";" ∷ on 6 kind.Name "m" ∷ on 6 kind.Assign "=" ∷ on 6 kind.Number "300" ∷ on 6 kind.DoubleColon "::" ∷
    on 6 kind.Name "m" ∷ on 6 kind.Less "<" ∷ on 6 kind.Number "255" ∷ on 6 kind.Arrow "->" ∷ on 6 kind.OpenParen "(" ∷
    on 6 kind.OpenParen "(" ∷ on 6 kind.Number "1" ∷ on 6 kind.Slash "/" ∷ on 6 kind.Number "1" ∷ on 6 kind.CloseParen ")" ∷
    on 6 kind.Greater ">" ∷ on 6 kind.Name "_nr_pr" ∷ on 6 kind.CloseParen ")" ∷ on 6 kind.DoubleColon "::" ∷ on 6 kind.Else "else" ∷
    on 6 kind.Arrow "->" ∷ on 6 kind.OpenParen "(" ∷ on 6 kind.Number "100" ∷ on 6 kind.AtMost "<=" ∷ on 6 kind.OpenParen "(" ∷
    on 6 kind.Bang "!" ∷ on 6 kind.Number "255" ∷ on 6 kind.CloseParen ")" ∷ on 6 kind.CloseParen ")" ∷ on 6 kind.Fi "fi" ∷
    on 6 kind.Semicolon ";" ∷ on 6 kind.Name "a" ∷ on 6 kind.OpenBracket "[" ∷ on 6 kind.Number "1" ∷ on 6 kind.CloseBracket "]" ∷
    on 6 kind.Increment "++" ∷ on 6 kind.CloseBrace "}" ∷ []

model-ends-354 : Program
unfolding tokens-ends-354
model-ends-354 =
    let at : ℕ → Word = token_at tokens-ends-354 in
    let part : ℕ → ℕ → List Word = tokens_between tokens-ends-354 in
    record {
      globals = (slot (at 11) mtype false 0 1 1 (initial.Value (number 2)) ∷ slot (at 16) byte false 1 1 1 (initial.Value (number 0))
          ∷ slot (at 21) short true 2 2 1 initial.Zero ∷ []);
      constants = ((at 7) ∷ (at 5) ∷ (at 3) ∷ []);
      typedefs = [];
      proctypes = (
          process (at 28) 5 1 0 [] (
          plain (part 32 33) (holds expr.Timeout) ∷
          plain (part 34 52) (action.Printf (at 36) ((read (global 1 byte)) ∷ (read (in_global 2 short (turn 0 2 1 (Some (number 0)) ∷
          []))) ∷ (read (in_global 2 short (turn 0 2 1 (Some (number 1)) ∷ []))) ∷ expr.ProcessCount ∷ [])) ∷ []) (at 52) ∷
          process (at 55) 6 1 0 (slot (at 60) byte false 0 1 1 initial.Zero ∷ []) (
          plain (part 62 65) (assign (global 0 mtype) (number 2)) ∷ []) (at 65) ∷
          process (at 68) 7 1 0 (slot (at 73) byte false 0 1 1 initial.Zero ∷ []) (
          if_fi (part 75 110) (
          (plain (part 77 80) (assign (global 0 mtype) (number 1)) ∷
          plain (part 81 84) (assign (global 0 mtype) (number 300)) ∷ []) ∷
          (plain (part 85 88) (holds (expr.Binary op.Below (read (global 0 mtype)) (number 255))) ∷
          plain (part 89 98) (holds (expr.Binary op.Above (expr.Binary op.Divide (number 1) (number 1)) expr.ProcessCount)) ∷ []) ∷
          (plain (part 99 100) action.Else ∷
          plain (part 101 109) (holds (expr.Binary op.AtMost (number 100) (expr.Unary before.Not (number 255)))) ∷ []) ∷ []) ∷
          plain (part 111 116) (action.Increment (in_global 2 short (turn 0 2 1 (Some (number 1)) ∷ []))) ∷ []) (at 116) ∷ []);
    }

abbrev end-1-of-ends-354 : Printed
end-1-of-ends-354 = shown (codes "0 0 1, 1 left\n") Valid

abbrev end-2-of-ends-354 : Printed
end-2-of-ends-354 = shown (codes "0 0 0, 3 left\n") Invalid

paths-of-ends-354 : paths model-ends-354 9 ≡ Some (end-1-of-ends-354 ∷ end-2-of-ends-354 ∷ end-1-of-ends-354 ∷ end-1-of-ends-354 ∷
    end-1-of-ends-354 ∷ end-1-of-ends-354 ∷ end-2-of-ends-354 ∷ [])
unfolding computes model-ends-354
paths-of-ends-354 = has_paths model-ends-354 9 _ refl
