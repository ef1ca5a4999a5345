-- All paths of small random models, whose ends are those of Spin's full search. `tools/spin-ends` made the models and their data.
use Rattle.std.proofs.Common.{◌≡◌, ℕ, List, [], ◌∷◌, true, false, refl, Some}
use Rattle.std.specs.Prelude.{codes, pos}
use Rattle.pml_token.specs.Word.{Word}
use Rattle.pml_tree.specs.declared.tree.Search.TheVariants.{First, Matching}
use Rattle.pml_tree.specs.declared.tree.Removal.TheVariants.{Remove}
use Rattle.pml_tree.specs.declared.tree.SendOrder.TheVariants.{Fifo, Sorted}
use Rattle.pml_program.specs.declared.program.Program.{Program}
use Rattle.pml_program.specs.declared.program.Basic.{Break}
use Rattle.worked_runs.proofs.Models.{on, token_at, tokens_between, bit, byte, chan, mtype, short, int, slot, turn, in_global, local, global, number, read, run, assign, holds, stmt, plain, block, atomic, if_fi, do_od, unless, process}
use Rattle.worked_runs.proofs.Same.{computes}
use Rattle.worked_runs.specs.Printed.{Printed, Valid, Invalid}
use Rattle.worked_runs.specs.Ends.{paths}
use Rattle.worked_runs.proofs.Same.{has_paths}
use Rattle.worked_runs.proofs.Models.{shown}
use Rattle.pml_token.specs.declared.token.Kind.TheVariants as kind
use Rattle.pml_tree.specs.declared.tree.Infix.TheVariants as op
use Rattle.pml_tree.specs.declared.tree.Prefix.TheVariants as before
use Rattle.pml_tree.specs.declared.tree.Fill.TheVariants as fill
use Rattle.pml_program.specs.declared.form.Form.TheVariants as form
use Rattle.pml_program.specs.declared.expr.Expr.TheVariants as expr
use Rattle.pml_program.specs.declared.expr.Want.TheVariants as want
use Rattle.pml_program.specs.declared.program.Initial.TheVariants as initial
use Rattle.pml_program.specs.declared.program.Action.TheVariants as action

-- mtype = { red, green, blue }; mtype m = green;
-- int i0 = 0;
-- short s1 = 1;
-- chan q0 = [0] of { short, byte };
-- active proctype Watch() { timeout; printf("%d %d %d, %d left\n", i0, s1, len(q0), _nr_pr) }
-- active proctype P0() { byte k; s1 = _pid; if :: s1 = i0 :: 7 == 2 -> q0!1, i0 fi }
-- active proctype P1() { byte k; if :: i0++; (((2 % 4) < i0 && 300 == 300)) fi; { m = (7 - 1); m = (100 / 3) } unless { (empty(q0))
--     -> q0?1, eval(s1) } }
-- proctype Q(byte n) { q0??i0, m; q0?_, 2 }
-- init { run Q(2) }
tokens-ends-486 : List Word
tokens-ends-486 =
    on 1 kind.Mtype "mtype" ∷ on 1 kind.Assign "=" ∷ on 1 kind.OpenBrace "{" ∷ on 1 kind.Name "red" ∷ on 1 kind.Comma "," ∷
    on 1 kind.Name "green" ∷ on 1 kind.Comma "," ∷ on 1 kind.Name "blue" ∷ on 1 kind.CloseBrace "}" ∷ on 1 kind.Semicolon ";" ∷
    on 1 kind.Mtype "mtype" ∷ on 1 kind.Name "m" ∷ on 1 kind.Assign "=" ∷ on 1 kind.Name "green" ∷ on 1 kind.Semicolon ";" ∷
    on 2 kind.Int "int" ∷ on 2 kind.Name "i0" ∷ on 2 kind.Assign "=" ∷ on 2 kind.Number "0" ∷ on 2 kind.Semicolon ";" ∷
    on 3 kind.Short "short" ∷ on 3 kind.Name "s1" ∷ on 3 kind.Assign "=" ∷ on 3 kind.Number "1" ∷ on 3 kind.Semicolon ";" ∷
    on 4 kind.Chan "chan" ∷ on 4 kind.Name "q0" ∷ on 4 kind.Assign "=" ∷ on 4 kind.OpenBracket "[" ∷ on 4 kind.Number "0" ∷
    on 4 kind.CloseBracket "]" ∷ on 4 kind.Of "of" ∷ on 4 kind.OpenBrace "{" ∷ on 4 kind.Short "short" ∷ on 4 kind.Comma "," ∷
    on 4 kind.Byte "byte" ∷ on 4 kind.CloseBrace "}" ∷ on 4 kind.Semicolon ";" ∷ on 5 kind.Active "active" ∷
    on 5 kind.Proctype "proctype" ∷ on 5 kind.Name "Watch" ∷ on 5 kind.OpenParen "(" ∷ on 5 kind.CloseParen ")" ∷
    on 5 kind.OpenBrace "{" ∷ on 5 kind.Timeout "timeout" ∷ on 5 kind.Semicolon ";" ∷ on 5 kind.Printf "printf" ∷
    on 5 kind.OpenParen "(" ∷ on 5 kind.Quoted "\"%d %d %d, %d left\\n\"" ∷ on 5 kind.Comma "," ∷ on 5 kind.Name "i0" ∷
    on 5 kind.Comma "," ∷ on 5 kind.Name "s1" ∷ on 5 kind.Comma "," ∷ on 5 kind.Len "len" ∷ on 5 kind.OpenParen "(" ∷
    on 5 kind.Name "q0" ∷ on 5 kind.CloseParen ")" ∷ on 5 kind.Comma "," ∷ on 5 kind.Name "_nr_pr" ∷ on 5 kind.CloseParen ")" ∷
    on 5 kind.CloseBrace "}" ∷ on 6 kind.Active "active" ∷ on 6 kind.Proctype "proctype" ∷ on 6 kind.Name "P0" ∷
    on 6 kind.OpenParen "(" ∷ on 6 kind.CloseParen ")" ∷ on 6 kind.OpenBrace "{" ∷ on 6 kind.Byte "byte" ∷ on 6 kind.Name "k" ∷
    on 6 kind.Semicolon ";" ∷ on 6 kind.Name "s1" ∷ on 6 kind.Assign "=" ∷ on 6 kind.Name "_pid" ∷ on 6 kind.Semicolon ";" ∷
    on 6 kind.If "if" ∷ on 6 kind.DoubleColon "::" ∷ on 6 kind.Name "s1" ∷ on 6 kind.Assign "=" ∷ on 6 kind.Name "i0" ∷
    on 6 kind.DoubleColon "::" ∷ on 6 kind.Number "7" ∷ on 6 kind.Equal "==" ∷ on 6 kind.Number "2" ∷ on 6 kind.Arrow "->" ∷
    on 6 kind.Name "q0" ∷ on 6 kind.Bang "!" ∷ on 6 kind.Number "1" ∷ on 6 kind.Comma "," ∷ on 6 kind.Name "i0" ∷ on 6 kind.Fi "fi" ∷
    on 6 kind.CloseBrace "}" ∷ on 7 kind.Active "active" ∷ on 7 kind.Proctype "proctype" ∷ on 7 kind.Name "P1" ∷
    on 7 kind.OpenParen "(" ∷ on 7 kind.CloseParen ")" ∷ on 7 kind.OpenBrace "{" ∷ on 7 kind.Byte "byte" ∷ on 7 kind.Name "k" ∷
    on 7 kind.Semicolon ";" ∷ on 7 kind.If "if" ∷ on 7 kind.DoubleColon "::" ∷ on 7 kind.Name "i0" ∷ on 7 kind.Increment "++" ∷
    on 7 kind.Semicolon ";" ∷ on 7 kind.OpenParen "(" ∷ on 7 kind.OpenParen "(" ∷ on 7 kind.OpenParen "(" ∷ on 7 kind.Number "2" ∷
    on 7 kind.Percent "%" ∷ on 7 kind.Number "4" ∷ on 7 kind.CloseParen ")" ∷ on 7 kind.Less "<" ∷ on 7 kind.Name "i0" ∷
    on 7 kind.AndAnd "&&" ∷ on 7 kind.Number "300" ∷ on 7 kind.Equal "==" ∷ on 7 kind.Number "300" ∷ on 7 kind.CloseParen ")" ∷
    on 7 kind.CloseParen ")" ∷ on 7 kind.Fi "fi" ∷ on 7 kind.Semicolon ";" ∷ on 7 kind.OpenBrace "{" ∷ on 7 kind.Name "m" ∷
    on 7 kind.Assign "=" ∷ on 7 kind.OpenParen "(" ∷ on 7 kind.Number "7" ∷ on 7 kind.Minus "-" ∷ on 7 kind.Number "1" ∷
    on 7 kind.CloseParen ")" ∷ on 7 kind.Semicolon ";" ∷ on 7 kind.Name "m" ∷ on 7 kind.Assign "=" ∷ on 7 kind.OpenParen "(" ∷
    on 7 kind.Number "100" ∷ on 7 kind.Slash "/" ∷ on 7 kind.Number "3" ∷ on 7 kind.CloseParen ")" ∷ on 7 kind.CloseBrace "}" ∷
    on 7 kind.Unless "unless" ∷ on 7 kind.OpenBrace "{" ∷ on 7 kind.OpenParen "(" ∷ on 7 kind.Empty "empty" ∷
    on 7 kind.OpenParen "(" ∷ on 7 kind.Name "q0" ∷ on 7 kind.CloseParen ")" ∷ on 7 kind.CloseParen ")" ∷ on 7 kind.Arrow "->" ∷
    on 7 kind.Name "q0" ∷ on 7 kind.Query "?" ∷ on 7 kind.Number "1" ∷ on 7 kind.Comma "," ∷ on 7 kind.Eval "eval" ∷
    on 7 kind.OpenParen "(" ∷ on 7 kind.Name "s1" ∷ on 7 kind.CloseParen ")" ∷ on 7 kind.CloseBrace "}" ∷ on 7 kind.CloseBrace "}" ∷
    on 8 kind.Proctype "proctype" ∷ on 8 kind.Name "Q" ∷ on 8 kind.OpenParen "(" ∷ on 8 kind.Byte "byte" ∷ on 8 kind.Name "n" ∷
    on 8 kind.CloseParen ")" ∷ on 8 kind.OpenBrace "{" ∷ on 8 kind.Name "q0" ∷ on 8 kind.QueryQuery "??" ∷ on 8 kind.Name "i0" ∷
    on 8 kind.Comma "," ∷ on 8 kind.Name "m" ∷ on 8 kind.Semicolon ";" ∷ on 8 kind.Name "q0" ∷ on 8 kind.Query "?" ∷
    on 8 kind.Name "_" ∷ on 8 kind.Comma "," ∷ on 8 kind.Number "2" ∷ on 8 kind.CloseBrace "}" ∷ on 9 kind.Init "init" ∷
    on 9 kind.OpenBrace "{" ∷ on 9 kind.Run "run" ∷ on 9 kind.Name "Q" ∷ on 9 kind.OpenParen "(" ∷ on 9 kind.Number "2" ∷
    on 9 kind.CloseParen ")" ∷ on 9 kind.CloseBrace "}" ∷ []

model-ends-486 : Program
unfolding tokens-ends-486
model-ends-486 =
    let at : ℕ → Word = token_at tokens-ends-486 in
    let part : ℕ → ℕ → List Word = tokens_between tokens-ends-486 in
    record {
      globals = (slot (at 11) mtype false 0 1 1 (initial.Value (number 2)) ∷ slot (at 16) int false 1 1 1 (initial.Value (number 0)) ∷
          slot (at 21) short false 2 1 1 (initial.Value (number 1)) ∷ slot (at 26) chan false 3 1 1 (initial.Channel 0 (short ∷ byte ∷
          [])) ∷ []);
      constants = ((at 7) ∷ (at 5) ∷ (at 3) ∷ []);
      typedefs = [];
      proctypes = (
          process (at 40) 6 1 0 [] (
          plain (part 44 45) (holds expr.Timeout) ∷
          plain (part 46 61) (action.Printf (at 48) ((read (global 1 int)) ∷ (read (global 2 short)) ∷ (expr.Ask fill.Length (global 3
          chan)) ∷ expr.ProcessCount ∷ [])) ∷ []) (at 61) ∷
          process (at 64) 7 1 0 (slot (at 69) byte false 0 1 1 initial.Zero ∷ []) (
          plain (part 71 74) (assign (global 2 short) expr.Pid) ∷
          if_fi (part 75 91) (
          (plain (part 77 80) (assign (global 2 short) (read (global 1 int))) ∷ []) ∷
          (plain (part 81 84) (holds (expr.Binary op.Equal (number 7) (number 2))) ∷
          plain (part 85 90) (action.Send (global 3 chan) Fifo ((number 1) ∷ (read (global 1 int)) ∷ [])) ∷ []) ∷ []) ∷ []) (at 91) ∷
          process (at 94) 8 1 0 (slot (at 99) byte false 0 1 1 initial.Zero ∷ []) (
          if_fi (part 101 122) (
          (plain (part 103 105) (action.Increment (global 1 int)) ∷
          plain (part 106 121) (holds (expr.Binary op.And (expr.Binary op.Below (expr.Binary op.Remainder (number 2) (number 4)) (read
          (global 1 int))) (expr.Binary op.Equal (number 300) (number 300)))) ∷ []) ∷ []) ∷
          unless (part 123 158) (
          block (part 123 140) (
          plain (part 124 131) (assign (global 0 mtype) (expr.Binary op.Minus (number 7) (number 1))) ∷
          plain (part 132 139) (assign (global 0 mtype) (expr.Binary op.Divide (number 100) (number 3))) ∷ []) ∷ []) (
          block (part 141 158) (
          plain (part 142 148) (holds (expr.Ask fill.IsEmpty (global 3 chan))) ∷
          plain (part 149 157) (action.Receive (global 3 chan) First Remove (want.Exactly (pos 1) ∷ want.Equal (read (global 2 short)) ∷
          [])) ∷ []) ∷ []) ∷ []) (at 158) ∷
          process (at 160) 9 0 1 (slot (at 163) byte false 0 1 1 initial.Zero ∷ []) (
          plain (part 166 171) (action.Receive (global 3 chan) Matching Remove (want.Into (global 1 int) ∷ want.Into (global 0 mtype) ∷ [])) ∷
          plain (part 172 177) (action.Receive (global 3 chan) First Remove (want.Anything ∷ want.Exactly (pos 2) ∷ [])) ∷ []) (at 177) ∷
          process (at 178) 10 1 0 [] (
          plain (part 180 185) (action.Run (run 3 ((number 2) ∷ []))) ∷ []) (at 185) ∷ []);
    }

abbrev end-1-of-ends-486 : Printed
end-1-of-ends-486 = shown (codes "1 0 0, 5 left\n") Invalid

abbrev end-2-of-ends-486 : Printed
end-2-of-ends-486 = shown (codes "1 1 0, 5 left\n") Invalid

paths-of-ends-486 : paths model-ends-486 6 ≡ Some (end-1-of-ends-486 ∷ end-1-of-ends-486 ∷ end-2-of-ends-486 ∷ end-2-of-ends-486 ∷
    end-1-of-ends-486 ∷ end-2-of-ends-486 ∷ end-2-of-ends-486 ∷ end-2-of-ends-486 ∷ end-2-of-ends-486 ∷ end-1-of-ends-486 ∷
    end-2-of-ends-486 ∷ end-2-of-ends-486 ∷ [])
unfolding computes model-ends-486
paths-of-ends-486 = has_paths model-ends-486 6 _ refl

-- int i0 = 1;
-- unsigned u1 : 3 = 1;
-- active proctype Watch() { timeout; printf("%d %d, %d left\n", i0, u1, _nr_pr) }
-- active proctype P0() { byte k; (100 > 1); do :: i0 = i0; (2 == _pid) :: else -> i0 = u1 :: break od }
tokens-ends-506 : List Word
tokens-ends-506 =
    on 1 kind.Int "int" ∷ on 1 kind.Name "i0" ∷ on 1 kind.Assign "=" ∷ on 1 kind.Number "1" ∷ on 1 kind.Semicolon ";" ∷
    on 2 kind.Unsigned "unsigned" ∷ on 2 kind.Name "u1" ∷ on 2 kind.Colon ":" ∷ on 2 kind.Number "3" ∷ on 2 kind.Assign "=" ∷
    on 2 kind.Number "1" ∷ on 2 kind.Semicolon ";" ∷ on 3 kind.Active "active" ∷ on 3 kind.Proctype "proctype" ∷
    on 3 kind.Name "Watch" ∷ on 3 kind.OpenParen "(" ∷ on 3 kind.CloseParen ")" ∷ on 3 kind.OpenBrace "{" ∷
    on 3 kind.Timeout "timeout" ∷ on 3 kind.Semicolon ";" ∷ on 3 kind.Printf "printf" ∷ on 3 kind.OpenParen "(" ∷
    on 3 kind.Quoted "\"%d %d, %d left\\n\"" ∷ on 3 kind.Comma "," ∷ on 3 kind.Name "i0" ∷ on 3 kind.Comma "," ∷
    on 3 kind.Name "u1" ∷ on 3 kind.Comma "," ∷ on 3 kind.Name "_nr_pr" ∷ on 3 kind.CloseParen ")" ∷ on 3 kind.CloseBrace "}" ∷
    on 4 kind.Active "active" ∷ on 4 kind.Proctype "proctype" ∷ on 4 kind.Name "P0" ∷ on 4 kind.OpenParen "(" ∷
    on 4 kind.CloseParen ")" ∷ on 4 kind.OpenBrace "{" ∷ on 4 kind.Byte "byte" ∷ on 4 kind.Name "k" ∷ on 4 kind.Semicolon ";" ∷
    on 4 kind.OpenParen "(" ∷ on 4 kind.Number "100" ∷ on 4 kind.Greater ">" ∷ on 4 kind.Number "1" ∷ on 4 kind.CloseParen ")" ∷
    on 4 kind.Semicolon ";" ∷ on 4 kind.Do "do" ∷ on 4 kind.DoubleColon "::" ∷ on 4 kind.Name "i0" ∷ on 4 kind.Assign "=" ∷
    on 4 kind.Name "i0" ∷ on 4 kind.Semicolon ";" ∷ on 4 kind.OpenParen "(" ∷ on 4 kind.Number "2" ∷ on 4 kind.Equal "==" ∷
    on 4 kind.Name "_pid" ∷ on 4 kind.CloseParen ")" ∷ on 4 kind.DoubleColon "::" ∷ on 4 kind.Else "else" ∷ on 4 kind.Arrow "->" ∷
    on 4 kind.Name "i0" ∷ on 4 kind.Assign "=" ∷ on 4 kind.Name "u1" ∷ on 4 kind.DoubleColon "::" ∷ on 4 kind.Break "break" ∷
    on 4 kind.Od "od" ∷ on 4 kind.CloseBrace "}" ∷ []

model-ends-506 : Program
unfolding tokens-ends-506
model-ends-506 =
    let at : ℕ → Word = token_at tokens-ends-506 in
    let part : ℕ → ℕ → List Word = tokens_between tokens-ends-506 in
    record {
      globals = (slot (at 1) int false 0 1 1 (initial.Value (number 1)) ∷ slot (at 6) (form.Unsigned 3) false 1 1 1 (initial.Value
          (number 1)) ∷ []);
      constants = [];
      typedefs = [];
      proctypes = (
          process (at 14) 3 1 0 [] (
          plain (part 18 19) (holds expr.Timeout) ∷
          plain (part 20 30) (action.Printf (at 22) ((read (global 0 int)) ∷ (read (global 1 (form.Unsigned 3))) ∷ expr.ProcessCount ∷
          [])) ∷ []) (at 30) ∷
          process (at 33) 4 1 0 (slot (at 38) byte false 0 1 1 initial.Zero ∷ []) (
          plain (part 40 45) (holds (expr.Binary op.Above (number 100) (number 1))) ∷
          do_od (part 46 66) (
          (plain (part 48 51) (assign (global 0 int) (read (global 0 int))) ∷
          plain (part 52 57) (holds (expr.Binary op.Equal (number 2) expr.Pid)) ∷ []) ∷
          (plain (part 58 59) action.Else ∷
          plain (part 60 63) (assign (global 0 int) (read (global 1 (form.Unsigned 3)))) ∷ []) ∷
          (stmt [] Break (part 64 65) ∷ []) ∷ []) ∷ []) (at 66) ∷ []);
    }

abbrev end-1-of-ends-506 : Printed
end-1-of-ends-506 = shown (codes "1 1, 2 left\n") Invalid

abbrev end-2-of-ends-506 : Printed
end-2-of-ends-506 = shown (codes "1 1, 1 left\n") Valid

paths-of-ends-506 : paths model-ends-506 6 ≡ Some (end-1-of-ends-506 ∷ end-2-of-ends-506 ∷ [])
unfolding computes model-ends-506
paths-of-ends-506 = has_paths model-ends-506 6 _ refl

-- mtype = { red, green, blue }; mtype m = green;
-- bit t0 = 1;
-- short s1 = 0;
-- active proctype Watch() { timeout; printf("%d %d, %d left\n", t0, s1, _nr_pr) }
-- active proctype P0() { byte k; if :: (1 > t0) :: m < (300 + 7) -> (100 <= t0); t0 = (m - 7) fi; s1 = 300 }
-- proctype Q(byte n) { (n == s1); t0++ }
-- init { run Q(0) }
tokens-ends-535 : List Word
tokens-ends-535 =
    on 1 kind.Mtype "mtype" ∷ on 1 kind.Assign "=" ∷ on 1 kind.OpenBrace "{" ∷ on 1 kind.Name "red" ∷ on 1 kind.Comma "," ∷
    on 1 kind.Name "green" ∷ on 1 kind.Comma "," ∷ on 1 kind.Name "blue" ∷ on 1 kind.CloseBrace "}" ∷ on 1 kind.Semicolon ";" ∷
    on 1 kind.Mtype "mtype" ∷ on 1 kind.Name "m" ∷ on 1 kind.Assign "=" ∷ on 1 kind.Name "green" ∷ on 1 kind.Semicolon ";" ∷
    on 2 kind.Bit "bit" ∷ on 2 kind.Name "t0" ∷ on 2 kind.Assign "=" ∷ on 2 kind.Number "1" ∷ on 2 kind.Semicolon ";" ∷
    on 3 kind.Short "short" ∷ on 3 kind.Name "s1" ∷ on 3 kind.Assign "=" ∷ on 3 kind.Number "0" ∷ on 3 kind.Semicolon ";" ∷
    on 4 kind.Active "active" ∷ on 4 kind.Proctype "proctype" ∷ on 4 kind.Name "Watch" ∷ on 4 kind.OpenParen "(" ∷
    on 4 kind.CloseParen ")" ∷ on 4 kind.OpenBrace "{" ∷ on 4 kind.Timeout "timeout" ∷ on 4 kind.Semicolon ";" ∷
    on 4 kind.Printf "printf" ∷ on 4 kind.OpenParen "(" ∷ on 4 kind.Quoted "\"%d %d, %d left\\n\"" ∷ on 4 kind.Comma "," ∷
    on 4 kind.Name "t0" ∷ on 4 kind.Comma "," ∷ on 4 kind.Name "s1" ∷ on 4 kind.Comma "," ∷ on 4 kind.Name "_nr_pr" ∷
    on 4 kind.CloseParen ")" ∷ on 4 kind.CloseBrace "}" ∷ on 5 kind.Active "active" ∷ on 5 kind.Proctype "proctype" ∷
    on 5 kind.Name "P0" ∷ on 5 kind.OpenParen "(" ∷ on 5 kind.CloseParen ")" ∷ on 5 kind.OpenBrace "{" ∷ on 5 kind.Byte "byte" ∷
    on 5 kind.Name "k" ∷ on 5 kind.Semicolon ";" ∷ on 5 kind.If "if" ∷ on 5 kind.DoubleColon "::" ∷ on 5 kind.OpenParen "(" ∷
    on 5 kind.Number "1" ∷ on 5 kind.Greater ">" ∷ on 5 kind.Name "t0" ∷ on 5 kind.CloseParen ")" ∷ on 5 kind.DoubleColon "::" ∷
    on 5 kind.Name "m" ∷ on 5 kind.Less "<" ∷ on 5 kind.OpenParen "(" ∷ on 5 kind.Number "300" ∷ on 5 kind.Plus "+" ∷
    on 5 kind.Number "7" ∷ on 5 kind.CloseParen ")" ∷ on 5 kind.Arrow "->" ∷ on 5 kind.OpenParen "(" ∷ on 5 kind.Number "100" ∷
    on 5 kind.AtMost "<=" ∷ on 5 kind.Name "t0" ∷ on 5 kind.CloseParen ")" ∷ on 5 kind.Semicolon ";" ∷ on 5 kind.Name "t0" ∷
    on 5 kind.Assign "=" ∷ on 5 kind.OpenParen "(" ∷ on 5 kind.Name "m" ∷ on 5 kind.Minus "-" ∷ on 5 kind.Number "7" ∷
    on 5 kind.CloseParen ")" ∷ on 5 kind.Fi "fi" ∷ on 5 kind.Semicolon ";" ∷ on 5 kind.Name "s1" ∷ on 5 kind.Assign "=" ∷
    on 5 kind.Number "300" ∷ on 5 kind.CloseBrace "}" ∷ on 6 kind.Proctype "proctype" ∷ on 6 kind.Name "Q" ∷
    on 6 kind.OpenParen "(" ∷ on 6 kind.Byte "byte" ∷ on 6 kind.Name "n" ∷ on 6 kind.CloseParen ")" ∷ on 6 kind.OpenBrace "{" ∷
    on 6 kind.OpenParen "(" ∷ on 6 kind.Name "n" ∷ on 6 kind.Equal "==" ∷ on 6 kind.Name "s1" ∷ on 6 kind.CloseParen ")" ∷
    on 6 kind.Semicolon ";" ∷ on 6 kind.Name "t0" ∷ on 6 kind.Increment "++" ∷ on 6 kind.CloseBrace "}" ∷ on 7 kind.Init "init" ∷
    on 7 kind.OpenBrace "{" ∷ on 7 kind.Run "run" ∷ on 7 kind.Name "Q" ∷ on 7 kind.OpenParen "(" ∷ on 7 kind.Number "0" ∷
    on 7 kind.CloseParen ")" ∷ on 7 kind.CloseBrace "}" ∷ []

model-ends-535 : Program
unfolding tokens-ends-535
model-ends-535 =
    let at : ℕ → Word = token_at tokens-ends-535 in
    let part : ℕ → ℕ → List Word = tokens_between tokens-ends-535 in
    record {
      globals = (slot (at 11) mtype false 0 1 1 (initial.Value (number 2)) ∷ slot (at 16) bit false 1 1 1 (initial.Value (number 1)) ∷
          slot (at 21) short false 2 1 1 (initial.Value (number 0)) ∷ []);
      constants = ((at 7) ∷ (at 5) ∷ (at 3) ∷ []);
      typedefs = [];
      proctypes = (
          process (at 27) 5 1 0 [] (
          plain (part 31 32) (holds expr.Timeout) ∷
          plain (part 33 43) (action.Printf (at 35) ((read (global 1 bit)) ∷ (read (global 2 short)) ∷ expr.ProcessCount ∷ [])) ∷ []) (at 43) ∷
          process (at 46) 6 1 0 (slot (at 51) byte false 0 1 1 initial.Zero ∷ []) (
          if_fi (part 53 83) (
          (plain (part 55 60) (holds (expr.Binary op.Above (number 1) (read (global 1 bit)))) ∷ []) ∷
          (plain (part 61 68) (holds (expr.Binary op.Below (read (global 0 mtype)) (expr.Binary op.Plus (number 300) (number 7)))) ∷
          plain (part 69 74) (holds (expr.Binary op.AtMost (number 100) (read (global 1 bit)))) ∷
          plain (part 75 82) (assign (global 1 bit) (expr.Binary op.Minus (read (global 0 mtype)) (number 7))) ∷ []) ∷ []) ∷
          plain (part 84 87) (assign (global 2 short) (number 300)) ∷ []) (at 87) ∷
          process (at 89) 7 0 1 (slot (at 92) byte false 0 1 1 initial.Zero ∷ []) (
          plain (part 95 100) (holds (expr.Binary op.Equal (read (local 0 byte)) (read (global 2 short)))) ∷
          plain (part 101 103) (action.Increment (global 1 bit)) ∷ []) (at 103) ∷
          process (at 104) 8 1 0 [] (
          plain (part 106 111) (action.Run (run 2 ((number 0) ∷ []))) ∷ []) (at 111) ∷ []);
    }

abbrev end-1-of-ends-535 : Printed
end-1-of-ends-535 = shown (codes "0 0, 2 left\n") Invalid

abbrev end-2-of-ends-535 : Printed
end-2-of-ends-535 = shown (codes "0 300, 1 left\n") Valid

paths-of-ends-535 : paths model-ends-535 11 ≡ Some (end-1-of-ends-535 ∷ end-1-of-ends-535 ∷ end-1-of-ends-535 ∷ end-2-of-ends-535 ∷
    end-2-of-ends-535 ∷ end-2-of-ends-535 ∷ end-1-of-ends-535 ∷ end-2-of-ends-535 ∷ end-2-of-ends-535 ∷ end-1-of-ends-535 ∷
    end-2-of-ends-535 ∷ end-1-of-ends-535 ∷ [])
unfolding computes model-ends-535
paths-of-ends-535 = has_paths model-ends-535 11 _ refl

-- unsigned u0 : 3 = 1;
-- chan q0 = [1] of { short, byte };
-- active proctype Watch() { timeout; printf("%d %d, %d left\n", u0, len(q0), _nr_pr) }
-- active proctype P0() { byte k; q0!!(300 ^ 255), 1 }
-- active proctype P1() { byte k; atomic { u0++ }; q0!u0, (1 - 255) }
-- proctype Q(byte n) { q0!1, 0 }
-- init { run Q(0) }
tokens-ends-536 : List Word
tokens-ends-536 =
    on 1 kind.Unsigned "unsigned" ∷ on 1 kind.Name "u0" ∷ on 1 kind.Colon ":" ∷ on 1 kind.Number "3" ∷ on 1 kind.Assign "=" ∷
    on 1 kind.Number "1" ∷ on 1 kind.Semicolon ";" ∷ on 2 kind.Chan "chan" ∷ on 2 kind.Name "q0" ∷ on 2 kind.Assign "=" ∷
    on 2 kind.OpenBracket "[" ∷ on 2 kind.Number "1" ∷ on 2 kind.CloseBracket "]" ∷ on 2 kind.Of "of" ∷ on 2 kind.OpenBrace "{" ∷
    on 2 kind.Short "short" ∷ on 2 kind.Comma "," ∷ on 2 kind.Byte "byte" ∷ on 2 kind.CloseBrace "}" ∷ on 2 kind.Semicolon ";" ∷
    on 3 kind.Active "active" ∷ on 3 kind.Proctype "proctype" ∷ on 3 kind.Name "Watch" ∷ on 3 kind.OpenParen "(" ∷
    on 3 kind.CloseParen ")" ∷ on 3 kind.OpenBrace "{" ∷ on 3 kind.Timeout "timeout" ∷ on 3 kind.Semicolon ";" ∷
    on 3 kind.Printf "printf" ∷ on 3 kind.OpenParen "(" ∷ on 3 kind.Quoted "\"%d %d, %d left\\n\"" ∷ on 3 kind.Comma "," ∷
    on 3 kind.Name "u0" ∷ on 3 kind.Comma "," ∷ on 3 kind.Len "len" ∷ on 3 kind.OpenParen "(" ∷ on 3 kind.Name "q0" ∷
    on 3 kind.CloseParen ")" ∷ on 3 kind.Comma "," ∷ on 3 kind.Name "_nr_pr" ∷ on 3 kind.CloseParen ")" ∷ on 3 kind.CloseBrace "}" ∷
    on 4 kind.Active "active" ∷ on 4 kind.Proctype "proctype" ∷ on 4 kind.Name "P0" ∷ on 4 kind.OpenParen "(" ∷
    on 4 kind.CloseParen ")" ∷ on 4 kind.OpenBrace "{" ∷ on 4 kind.Byte "byte" ∷ on 4 kind.Name "k" ∷ on 4 kind.Semicolon ";" ∷
    on 4 kind.Name "q0" ∷ on 4 kind.BangBang "!!" ∷ on 4 kind.OpenParen "(" ∷ on 4 kind.Number "300" ∷ on 4 kind.Caret "^" ∷
    on 4 kind.Number "255" ∷ on 4 kind.CloseParen ")" ∷ on 4 kind.Comma "," ∷ on 4 kind.Number "1" ∷ on 4 kind.CloseBrace "}" ∷
    on 5 kind.Active "active" ∷ on 5 kind.Proctype "proctype" ∷ on 5 kind.Name "P1" ∷ on 5 kind.OpenParen "(" ∷
    on 5 kind.CloseParen ")" ∷ on 5 kind.OpenBrace "{" ∷ on 5 kind.Byte "byte" ∷ on 5 kind.Name "k" ∷ on 5 kind.Semicolon ";" ∷
    on 5 kind.Atomic "atomic" ∷ on 5 kind.OpenBrace "{" ∷ on 5 kind.Name "u0" ∷ on 5 kind.Increment "++" ∷ on 5 kind.CloseBrace "}" ∷
    on 5 kind.Semicolon ";" ∷ on 5 kind.Name "q0" ∷ on 5 kind.Bang "!" ∷ on 5 kind.Name "u0" ∷ on 5 kind.Comma "," ∷
    on 5 kind.OpenParen "(" ∷ on 5 kind.Number "1" ∷ on 5 kind.Minus "-" ∷ on 5 kind.Number "255" ∷ on 5 kind.CloseParen ")" ∷
    on 5 kind.CloseBrace "}" ∷ on 6 kind.Proctype "proctype" ∷ on 6 kind.Name "Q" ∷ on 6 kind.OpenParen "(" ∷ on 6 kind.Byte "byte" ∷
    on 6 kind.Name "n" ∷ on 6 kind.CloseParen ")" ∷ on 6 kind.OpenBrace "{" ∷ on 6 kind.Name "q0" ∷ on 6 kind.Bang "!" ∷
    on 6 kind.Number "1" ∷ on 6 kind.Comma "," ∷ on 6 kind.Number "0" ∷ on 6 kind.CloseBrace "}" ∷ on 7 kind.Init "init" ∷
    on 7 kind.OpenBrace "{" ∷ on 7 kind.Run "run" ∷ on 7 kind.Name "Q" ∷ on 7 kind.OpenParen "(" ∷ on 7 kind.Number "0" ∷
    on 7 kind.CloseParen ")" ∷ on 7 kind.CloseBrace "}" ∷ []

model-ends-536 : Program
unfolding tokens-ends-536
model-ends-536 =
    let at : ℕ → Word = token_at tokens-ends-536 in
    let part : ℕ → ℕ → List Word = tokens_between tokens-ends-536 in
    record {
      globals = (slot (at 1) (form.Unsigned 3) false 0 1 1 (initial.Value (number 1)) ∷ slot (at 8) chan false 1 1 1 (initial.Channel
          1 (short ∷ byte ∷ [])) ∷ []);
      constants = [];
      typedefs = [];
      proctypes = (
          process (at 22) 3 1 0 [] (
          plain (part 26 27) (holds expr.Timeout) ∷
          plain (part 28 41) (action.Printf (at 30) ((read (global 0 (form.Unsigned 3))) ∷ (expr.Ask fill.Length (global 1 chan)) ∷
          expr.ProcessCount ∷ [])) ∷ []) (at 41) ∷
          process (at 44) 4 1 0 (slot (at 49) byte false 0 1 1 initial.Zero ∷ []) (
          plain (part 51 60) (action.Send (global 1 chan) Sorted ((expr.Binary op.BitXor (number 300) (number 255)) ∷ (number 1) ∷ []))
          ∷ []) (at 60) ∷
          process (at 63) 5 1 0 (slot (at 68) byte false 0 1 1 initial.Zero ∷ []) (
          atomic (part 70 75) (
          plain (part 72 74) (action.Increment (global 0 (form.Unsigned 3))) ∷ []) ∷
          plain (part 76 85) (action.Send (global 1 chan) Fifo ((read (global 0 (form.Unsigned 3))) ∷ (expr.Binary op.Minus (number 1)
          (number 255)) ∷ [])) ∷ []) (at 85) ∷
          process (at 87) 6 0 1 (slot (at 90) byte false 0 1 1 initial.Zero ∷ []) (
          plain (part 93 98) (action.Send (global 1 chan) Fifo ((number 1) ∷ (number 0) ∷ [])) ∷ []) (at 98) ∷
          process (at 99) 7 1 0 [] (
          plain (part 101 106) (action.Run (run 3 ((number 0) ∷ []))) ∷ []) (at 106) ∷ []);
    }

abbrev end-1-of-ends-536 : Printed
end-1-of-ends-536 = shown (codes "2 1, 5 left\n") Invalid

abbrev end-2-of-ends-536 : Printed
end-2-of-ends-536 = shown (codes "2 1, 3 left\n") Invalid

paths-of-ends-536 : paths model-ends-536 7 ≡ Some (end-1-of-ends-536 ∷ end-1-of-ends-536 ∷ end-1-of-ends-536 ∷ end-1-of-ends-536 ∷
    end-1-of-ends-536 ∷ end-1-of-ends-536 ∷ end-2-of-ends-536 ∷ end-1-of-ends-536 ∷ end-1-of-ends-536 ∷ end-1-of-ends-536 ∷
    end-2-of-ends-536 ∷ end-2-of-ends-536 ∷ end-2-of-ends-536 ∷ end-2-of-ends-536 ∷ [])
unfolding computes model-ends-536
paths-of-ends-536 = has_paths model-ends-536 7 _ refl

-- mtype = { red, green, blue }; mtype m = green;
-- bit t0 = 0;
-- short s1 = 1;
-- active proctype Watch() { timeout; printf("%d %d, %d left\n", t0, s1, _nr_pr) }
-- active proctype P0() { byte k; m = (_nr_pr | 255); t0 = ((3 * 7) - 2) }
-- proctype Q(byte n) { t0++ }
-- init { run Q(2) }
tokens-ends-541 : List Word
tokens-ends-541 =
    on 1 kind.Mtype "mtype" ∷ on 1 kind.Assign "=" ∷ on 1 kind.OpenBrace "{" ∷ on 1 kind.Name "red" ∷ on 1 kind.Comma "," ∷
    on 1 kind.Name "green" ∷ on 1 kind.Comma "," ∷ on 1 kind.Name "blue" ∷ on 1 kind.CloseBrace "}" ∷ on 1 kind.Semicolon ";" ∷
    on 1 kind.Mtype "mtype" ∷ on 1 kind.Name "m" ∷ on 1 kind.Assign "=" ∷ on 1 kind.Name "green" ∷ on 1 kind.Semicolon ";" ∷
    on 2 kind.Bit "bit" ∷ on 2 kind.Name "t0" ∷ on 2 kind.Assign "=" ∷ on 2 kind.Number "0" ∷ on 2 kind.Semicolon ";" ∷
    on 3 kind.Short "short" ∷ on 3 kind.Name "s1" ∷ on 3 kind.Assign "=" ∷ on 3 kind.Number "1" ∷ on 3 kind.Semicolon ";" ∷
    on 4 kind.Active "active" ∷ on 4 kind.Proctype "proctype" ∷ on 4 kind.Name "Watch" ∷ on 4 kind.OpenParen "(" ∷
    on 4 kind.CloseParen ")" ∷ on 4 kind.OpenBrace "{" ∷ on 4 kind.Timeout "timeout" ∷ on 4 kind.Semicolon ";" ∷
    on 4 kind.Printf "printf" ∷ on 4 kind.OpenParen "(" ∷ on 4 kind.Quoted "\"%d %d, %d left\\n\"" ∷ on 4 kind.Comma "," ∷
    on 4 kind.Name "t0" ∷ on 4 kind.Comma "," ∷ on 4 kind.Name "s1" ∷ on 4 kind.Comma "," ∷ on 4 kind.Name "_nr_pr" ∷
    on 4 kind.CloseParen ")" ∷ on 4 kind.CloseBrace "}" ∷ on 5 kind.Active "active" ∷ on 5 kind.Proctype "proctype" ∷
    on 5 kind.Name "P0" ∷ on 5 kind.OpenParen "(" ∷ on 5 kind.CloseParen ")" ∷ on 5 kind.OpenBrace "{" ∷ on 5 kind.Byte "byte" ∷
    on 5 kind.Name "k" ∷ on 5 kind.Semicolon ";" ∷ on 5 kind.Name "m" ∷ on 5 kind.Assign "=" ∷ on 5 kind.OpenParen "(" ∷
    on 5 kind.Name "_nr_pr" ∷ on 5 kind.Bar "|" ∷ on 5 kind.Number "255" ∷ on 5 kind.CloseParen ")" ∷ on 5 kind.Semicolon ";" ∷
    on 5 kind.Name "t0" ∷ on 5 kind.Assign "=" ∷ on 5 kind.OpenParen "(" ∷ on 5 kind.OpenParen "(" ∷ on 5 kind.Number "3" ∷
    on 5 kind.Star "*" ∷ on 5 kind.Number "7" ∷ on 5 kind.CloseParen ")" ∷ on 5 kind.Minus "-" ∷ on 5 kind.Number "2" ∷
    on 5 kind.CloseParen ")" ∷ on 5 kind.CloseBrace "}" ∷ on 6 kind.Proctype "proctype" ∷ on 6 kind.Name "Q" ∷
    on 6 kind.OpenParen "(" ∷ on 6 kind.Byte "byte" ∷ on 6 kind.Name "n" ∷ on 6 kind.CloseParen ")" ∷ on 6 kind.OpenBrace "{" ∷
    on 6 kind.Name "t0" ∷ on 6 kind.Increment "++" ∷ on 6 kind.CloseBrace "}" ∷ on 7 kind.Init "init" ∷ on 7 kind.OpenBrace "{" ∷
    on 7 kind.Run "run" ∷ on 7 kind.Name "Q" ∷ on 7 kind.OpenParen "(" ∷ on 7 kind.Number "2" ∷ on 7 kind.CloseParen ")" ∷
    on 7 kind.CloseBrace "}" ∷ []

model-ends-541 : Program
unfolding tokens-ends-541
model-ends-541 =
    let at : ℕ → Word = token_at tokens-ends-541 in
    let part : ℕ → ℕ → List Word = tokens_between tokens-ends-541 in
    record {
      globals = (slot (at 11) mtype false 0 1 1 (initial.Value (number 2)) ∷ slot (at 16) bit false 1 1 1 (initial.Value (number 0)) ∷
          slot (at 21) short false 2 1 1 (initial.Value (number 1)) ∷ []);
      constants = ((at 7) ∷ (at 5) ∷ (at 3) ∷ []);
      typedefs = [];
      proctypes = (
          process (at 27) 5 1 0 [] (
          plain (part 31 32) (holds expr.Timeout) ∷
          plain (part 33 43) (action.Printf (at 35) ((read (global 1 bit)) ∷ (read (global 2 short)) ∷ expr.ProcessCount ∷ [])) ∷ []) (at 43) ∷
          process (at 46) 6 1 0 (slot (at 51) byte false 0 1 1 initial.Zero ∷ []) (
          plain (part 53 60) (assign (global 0 mtype) (expr.Binary op.BitOr expr.ProcessCount (number 255))) ∷
          plain (part 61 72) (assign (global 1 bit) (expr.Binary op.Minus (expr.Binary op.Times (number 3) (number 7)) (number 2))) ∷
          []) (at 72) ∷
          process (at 74) 7 0 1 (slot (at 77) byte false 0 1 1 initial.Zero ∷ []) (
          plain (part 80 82) (action.Increment (global 1 bit)) ∷ []) (at 82) ∷
          process (at 83) 8 1 0 [] (
          plain (part 85 90) (action.Run (run 2 ((number 2) ∷ []))) ∷ []) (at 90) ∷ []);
    }

abbrev end-1-of-ends-541 : Printed
end-1-of-ends-541 = shown (codes "0 1, 1 left\n") Valid

abbrev end-2-of-ends-541 : Printed
end-2-of-ends-541 = shown (codes "1 1, 1 left\n") Valid

paths-of-ends-541 : paths model-ends-541 10 ≡ Some (end-1-of-ends-541 ∷ end-1-of-ends-541 ∷ end-2-of-ends-541 ∷ end-2-of-ends-541 ∷
    end-2-of-ends-541 ∷ end-1-of-ends-541 ∷ end-2-of-ends-541 ∷ end-2-of-ends-541 ∷ end-2-of-ends-541 ∷ end-2-of-ends-541 ∷
    end-2-of-ends-541 ∷ end-2-of-ends-541 ∷ end-2-of-ends-541 ∷ end-2-of-ends-541 ∷ end-2-of-ends-541 ∷ [])
unfolding computes model-ends-541
paths-of-ends-541 = has_paths model-ends-541 10 _ refl

-- byte b0 = 1;
-- active proctype Watch() { timeout; printf("%d, %d left\n", b0, _nr_pr) }
-- active proctype P0() { byte k; if :: (2 > b0) :: b0 = (b0 >= 7 -> 300 : 2); (100 < 100) :: else -> ((3 % 5) != b0) fi }
-- active proctype P1() { byte k; if :: (300 != (1 != 1 -> 3 : 1)) fi }
tokens-ends-543 : List Word
tokens-ends-543 =
    on 1 kind.Byte "byte" ∷ on 1 kind.Name "b0" ∷ on 1 kind.Assign "=" ∷ on 1 kind.Number "1" ∷ on 1 kind.Semicolon ";" ∷
    on 2 kind.Active "active" ∷ on 2 kind.Proctype "proctype" ∷ on 2 kind.Name "Watch" ∷ on 2 kind.OpenParen "(" ∷
    on 2 kind.CloseParen ")" ∷ on 2 kind.OpenBrace "{" ∷ on 2 kind.Timeout "timeout" ∷ on 2 kind.Semicolon ";" ∷
    on 2 kind.Printf "printf" ∷ on 2 kind.OpenParen "(" ∷ on 2 kind.Quoted "\"%d, %d left\\n\"" ∷ on 2 kind.Comma "," ∷
    on 2 kind.Name "b0" ∷ on 2 kind.Comma "," ∷ on 2 kind.Name "_nr_pr" ∷ on 2 kind.CloseParen ")" ∷ on 2 kind.CloseBrace "}" ∷
    on 3 kind.Active "active" ∷ on 3 kind.Proctype "proctype" ∷ on 3 kind.Name "P0" ∷ on 3 kind.OpenParen "(" ∷
    on 3 kind.CloseParen ")" ∷ on 3 kind.OpenBrace "{" ∷ on 3 kind.Byte "byte" ∷ on 3 kind.Name "k" ∷ on 3 kind.Semicolon ";" ∷
    on 3 kind.If "if" ∷ on 3 kind.DoubleColon "::" ∷ on 3 kind.OpenParen "(" ∷ on 3 kind.Number "2" ∷ on 3 kind.Greater ">" ∷
    on 3 kind.Name "b0" ∷ on 3 kind.CloseParen ")" ∷ on 3 kind.DoubleColon "::" ∷ on 3 kind.Name "b0" ∷ on 3 kind.Assign "=" ∷
    on 3 kind.OpenParen "(" ∷ on 3 kind.Name "b0" ∷ on 3 kind.AtLeast ">=" ∷ on 3 kind.Number "7" ∷ on 3 kind.Arrow "->" ∷
    on 3 kind.Number "300" ∷ on 3 kind.Colon ":" ∷ on 3 kind.Number "2" ∷ on 3 kind.CloseParen ")" ∷ on 3 kind.Semicolon ";" ∷
    on 3 kind.OpenParen "(" ∷ on 3 kind.Number "100" ∷ on 3 kind.Less "<" ∷ on 3 kind.Number "100" ∷ on 3 kind.CloseParen ")" ∷
    on 3 kind.DoubleColon "::" ∷ on 3 kind.Else "else" ∷ on 3 kind.Arrow "->" ∷ on 3 kind.OpenParen "(" ∷ on 3 kind.OpenParen "(" ∷
    on 3 kind.Number "3" ∷ on 3 kind.Percent "%" ∷ on 3 kind.Number "5" ∷ on 3 kind.CloseParen ")" ∷ on 3 kind.Unequal "!=" ∷
    on 3 kind.Name "b0" ∷ on 3 kind.CloseParen ")" ∷ on 3 kind.Fi "fi" ∷ on 3 kind.CloseBrace "}" ∷ on 4 kind.Active "active" ∷
    on 4 kind.Proctype "proctype" ∷ on 4 kind.Name "P1" ∷ on 4 kind.OpenParen "(" ∷ on 4 kind.CloseParen ")" ∷
    on 4 kind.OpenBrace "{" ∷ on 4 kind.Byte "byte" ∷ on 4 kind.Name "k" ∷ on 4 kind.Semicolon ";" ∷ on 4 kind.If "if" ∷
    on 4 kind.DoubleColon "::" ∷ on 4 kind.OpenParen "(" ∷ on 4 kind.Number "300" ∷ on 4 kind.Unequal "!=" ∷
    on 4 kind.OpenParen "(" ∷ on 4 kind.Number "1" ∷ on 4 kind.Unequal "!=" ∷ on 4 kind.Number "1" ∷ on 4 kind.Arrow "->" ∷
    on 4 kind.Number "3" ∷ on 4 kind.Colon ":" ∷ on 4 kind.Number "1" ∷ on 4 kind.CloseParen ")" ∷ on 4 kind.CloseParen ")" ∷
    on 4 kind.Fi "fi" ∷ on 4 kind.CloseBrace "}" ∷ []

model-ends-543 : Program
unfolding tokens-ends-543
model-ends-543 =
    let at : ℕ → Word = token_at tokens-ends-543 in
    let part : ℕ → ℕ → List Word = tokens_between tokens-ends-543 in
    record {
      globals = (slot (at 1) byte false 0 1 1 (initial.Value (number 1)) ∷ []);
      constants = [];
      typedefs = [];
      proctypes = (
          process (at 7) 2 1 0 [] (
          plain (part 11 12) (holds expr.Timeout) ∷
          plain (part 13 21) (action.Printf (at 15) ((read (global 0 byte)) ∷ expr.ProcessCount ∷ [])) ∷ []) (at 21) ∷
          process (at 24) 3 1 0 (slot (at 29) byte false 0 1 1 initial.Zero ∷ []) (
          if_fi (part 31 69) (
          (plain (part 33 38) (holds (expr.Binary op.Above (number 2) (read (global 0 byte)))) ∷ []) ∷
          (plain (part 39 50) (assign (global 0 byte) (expr.Choice (expr.Binary op.AtLeast (read (global 0 byte)) (number 7)) (number
          300) (number 2))) ∷
          plain (part 51 56) (holds (expr.Binary op.Below (number 100) (number 100))) ∷ []) ∷
          (plain (part 57 58) action.Else ∷
          plain (part 59 68) (holds (expr.Binary op.Unequal (expr.Binary op.Remainder (number 3) (number 5)) (read (global 0 byte)))) ∷
          []) ∷ []) ∷ []) (at 69) ∷
          process (at 72) 4 1 0 (slot (at 77) byte false 0 1 1 initial.Zero ∷ []) (
          if_fi (part 79 95) (
          (plain (part 81 94) (holds (expr.Binary op.Unequal (number 300) (expr.Choice (expr.Binary op.Unequal (number 1) (number 1))
          (number 3) (number 1)))) ∷ []) ∷ []) ∷ []) (at 95) ∷ []);
    }

abbrev end-1-of-ends-543 : Printed
end-1-of-ends-543 = shown (codes "1, 1 left\n") Valid

abbrev end-2-of-ends-543 : Printed
end-2-of-ends-543 = shown (codes "2, 2 left\n") Invalid

paths-of-ends-543 : paths model-ends-543 7 ≡ Some (end-1-of-ends-543 ∷ end-2-of-ends-543 ∷ end-1-of-ends-543 ∷ end-2-of-ends-543 ∷
    end-1-of-ends-543 ∷ end-2-of-ends-543 ∷ [])
unfolding computes model-ends-543
paths-of-ends-543 = has_paths model-ends-543 7 _ refl

-- byte b0 = 1;
-- unsigned u1 : 3 = 1;
-- active proctype Watch() { timeout; printf("%d %d, %d left\n", b0, u1, _nr_pr) }
-- active proctype P0() { byte k; u1 = 300; b0 = (300 + 100) }
-- proctype Q(byte n) { b0 = n }
-- init { run Q(2) }
tokens-ends-544 : List Word
tokens-ends-544 =
    on 1 kind.Byte "byte" ∷ on 1 kind.Name "b0" ∷ on 1 kind.Assign "=" ∷ on 1 kind.Number "1" ∷ on 1 kind.Semicolon ";" ∷
    on 2 kind.Unsigned "unsigned" ∷ on 2 kind.Name "u1" ∷ on 2 kind.Colon ":" ∷ on 2 kind.Number "3" ∷ on 2 kind.Assign "=" ∷
    on 2 kind.Number "1" ∷ on 2 kind.Semicolon ";" ∷ on 3 kind.Active "active" ∷ on 3 kind.Proctype "proctype" ∷
    on 3 kind.Name "Watch" ∷ on 3 kind.OpenParen "(" ∷ on 3 kind.CloseParen ")" ∷ on 3 kind.OpenBrace "{" ∷
    on 3 kind.Timeout "timeout" ∷ on 3 kind.Semicolon ";" ∷ on 3 kind.Printf "printf" ∷ on 3 kind.OpenParen "(" ∷
    on 3 kind.Quoted "\"%d %d, %d left\\n\"" ∷ on 3 kind.Comma "," ∷ on 3 kind.Name "b0" ∷ on 3 kind.Comma "," ∷
    on 3 kind.Name "u1" ∷ on 3 kind.Comma "," ∷ on 3 kind.Name "_nr_pr" ∷ on 3 kind.CloseParen ")" ∷ on 3 kind.CloseBrace "}" ∷
    on 4 kind.Active "active" ∷ on 4 kind.Proctype "proctype" ∷ on 4 kind.Name "P0" ∷ on 4 kind.OpenParen "(" ∷
    on 4 kind.CloseParen ")" ∷ on 4 kind.OpenBrace "{" ∷ on 4 kind.Byte "byte" ∷ on 4 kind.Name "k" ∷ on 4 kind.Semicolon ";" ∷
    on 4 kind.Name "u1" ∷ on 4 kind.Assign "=" ∷ on 4 kind.Number "300" ∷ on 4 kind.Semicolon ";" ∷ on 4 kind.Name "b0" ∷
    on 4 kind.Assign "=" ∷ on 4 kind.OpenParen "(" ∷ on 4 kind.Number "300" ∷ on 4 kind.Plus "+" ∷ on 4 kind.Number "100" ∷
    on 4 kind.CloseParen ")" ∷ on 4 kind.CloseBrace "}" ∷ on 5 kind.Proctype "proctype" ∷ on 5 kind.Name "Q" ∷
    on 5 kind.OpenParen "(" ∷ on 5 kind.Byte "byte" ∷ on 5 kind.Name "n" ∷ on 5 kind.CloseParen ")" ∷ on 5 kind.OpenBrace "{" ∷
    on 5 kind.Name "b0" ∷ on 5 kind.Assign "=" ∷ on 5 kind.Name "n" ∷ on 5 kind.CloseBrace "}" ∷ on 6 kind.Init "init" ∷
    on 6 kind.OpenBrace "{" ∷ on 6 kind.Run "run" ∷ on 6 kind.Name "Q" ∷ on 6 kind.OpenParen "(" ∷ on 6 kind.Number "2" ∷
    on 6 kind.CloseParen ")" ∷ on 6 kind.CloseBrace "}" ∷ []

model-ends-544 : Program
unfolding tokens-ends-544
model-ends-544 =
    let at : ℕ → Word = token_at tokens-ends-544 in
    let part : ℕ → ℕ → List Word = tokens_between tokens-ends-544 in
    record {
      globals = (slot (at 1) byte false 0 1 1 (initial.Value (number 1)) ∷ slot (at 6) (form.Unsigned 3) false 1 1 1 (initial.Value
          (number 1)) ∷ []);
      constants = [];
      typedefs = [];
      proctypes = (
          process (at 14) 3 1 0 [] (
          plain (part 18 19) (holds expr.Timeout) ∷
          plain (part 20 30) (action.Printf (at 22) ((read (global 0 byte)) ∷ (read (global 1 (form.Unsigned 3))) ∷ expr.ProcessCount ∷
          [])) ∷ []) (at 30) ∷
          process (at 33) 4 1 0 (slot (at 38) byte false 0 1 1 initial.Zero ∷ []) (
          plain (part 40 43) (assign (global 1 (form.Unsigned 3)) (number 300)) ∷
          plain (part 44 51) (assign (global 0 byte) (expr.Binary op.Plus (number 300) (number 100))) ∷ []) (at 51) ∷
          process (at 53) 5 0 1 (slot (at 56) byte false 0 1 1 initial.Zero ∷ []) (
          plain (part 59 62) (assign (global 0 byte) (read (local 0 byte))) ∷ []) (at 62) ∷
          process (at 63) 6 1 0 [] (
          plain (part 65 70) (action.Run (run 2 ((number 2) ∷ []))) ∷ []) (at 70) ∷ []);
    }

abbrev end-1-of-ends-544 : Printed
end-1-of-ends-544 = shown (codes "2 4, 1 left\n") Valid

abbrev end-2-of-ends-544 : Printed
end-2-of-ends-544 = shown (codes "144 4, 1 left\n") Valid

paths-of-ends-544 : paths model-ends-544 10 ≡ Some (end-1-of-ends-544 ∷ end-1-of-ends-544 ∷ end-2-of-ends-544 ∷ end-2-of-ends-544 ∷
    end-2-of-ends-544 ∷ end-1-of-ends-544 ∷ end-2-of-ends-544 ∷ end-2-of-ends-544 ∷ end-2-of-ends-544 ∷ end-2-of-ends-544 ∷
    end-2-of-ends-544 ∷ end-2-of-ends-544 ∷ end-2-of-ends-544 ∷ end-2-of-ends-544 ∷ end-2-of-ends-544 ∷ [])
unfolding computes model-ends-544
paths-of-ends-544 = has_paths model-ends-544 10 _ refl

-- short s0 = 1;
-- byte b1 = 1;
-- active proctype Watch() { timeout; printf("%d %d, %d left\n", s0, b1, _nr_pr) }
-- active proctype P0() { byte k; ((300 - 0) == 100) }
-- active proctype P1() { byte k; (s0 < 2) }
-- proctype Q(byte n) { ((~0) <= (100 - 3)); s0 = 3 }
-- init { run Q(2) }
tokens-ends-553 : List Word
tokens-ends-553 =
    on 1 kind.Short "short" ∷ on 1 kind.Name "s0" ∷ on 1 kind.Assign "=" ∷ on 1 kind.Number "1" ∷ on 1 kind.Semicolon ";" ∷
    on 2 kind.Byte "byte" ∷ on 2 kind.Name "b1" ∷ on 2 kind.Assign "=" ∷ on 2 kind.Number "1" ∷ on 2 kind.Semicolon ";" ∷
    on 3 kind.Active "active" ∷ on 3 kind.Proctype "proctype" ∷ on 3 kind.Name "Watch" ∷ on 3 kind.OpenParen "(" ∷
    on 3 kind.CloseParen ")" ∷ on 3 kind.OpenBrace "{" ∷ on 3 kind.Timeout "timeout" ∷ on 3 kind.Semicolon ";" ∷
    on 3 kind.Printf "printf" ∷ on 3 kind.OpenParen "(" ∷ on 3 kind.Quoted "\"%d %d, %d left\\n\"" ∷ on 3 kind.Comma "," ∷
    on 3 kind.Name "s0" ∷ on 3 kind.Comma "," ∷ on 3 kind.Name "b1" ∷ on 3 kind.Comma "," ∷ on 3 kind.Name "_nr_pr" ∷
    on 3 kind.CloseParen ")" ∷ on 3 kind.CloseBrace "}" ∷ on 4 kind.Active "active" ∷ on 4 kind.Proctype "proctype" ∷
    on 4 kind.Name "P0" ∷ on 4 kind.OpenParen "(" ∷ on 4 kind.CloseParen ")" ∷ on 4 kind.OpenBrace "{" ∷ on 4 kind.Byte "byte" ∷
    on 4 kind.Name "k" ∷ on 4 kind.Semicolon ";" ∷ on 4 kind.OpenParen "(" ∷ on 4 kind.OpenParen "(" ∷ on 4 kind.Number "300" ∷
    on 4 kind.Minus "-" ∷ on 4 kind.Number "0" ∷ on 4 kind.CloseParen ")" ∷ on 4 kind.Equal "==" ∷ on 4 kind.Number "100" ∷
    on 4 kind.CloseParen ")" ∷ on 4 kind.CloseBrace "}" ∷ on 5 kind.Active "active" ∷ on 5 kind.Proctype "proctype" ∷
    on 5 kind.Name "P1" ∷ on 5 kind.OpenParen "(" ∷ on 5 kind.CloseParen ")" ∷ on 5 kind.OpenBrace "{" ∷ on 5 kind.Byte "byte" ∷
    on 5 kind.Name "k" ∷ on 5 kind.Semicolon ";" ∷ on 5 kind.OpenParen "(" ∷ on 5 kind.Name "s0" ∷ on 5 kind.Less "<" ∷
    on 5 kind.Number "2" ∷ on 5 kind.CloseParen ")" ∷ on 5 kind.CloseBrace "}" ∷ on 6 kind.Proctype "proctype" ∷ on 6 kind.Name "Q" ∷
    on 6 kind.OpenParen "(" ∷ on 6 kind.Byte "byte" ∷ on 6 kind.Name "n" ∷ on 6 kind.CloseParen ")" ∷ on 6 kind.OpenBrace "{" ∷
    on 6 kind.OpenParen "(" ∷ on 6 kind.OpenParen "(" ∷ on 6 kind.Tilde "~" ∷ on 6 kind.Number "0" ∷ on 6 kind.CloseParen ")" ∷
    on 6 kind.AtMost "<=" ∷ on 6 kind.OpenParen "(" ∷ on 6 kind.Number "100" ∷ on 6 kind.Minus "-" ∷ on 6 kind.Number "3" ∷
    on 6 kind.CloseParen ")" ∷ on 6 kind.CloseParen ")" ∷ on 6 kind.Semicolon ";" ∷ on 6 kind.Name "s0" ∷ on 6 kind.Assign "=" ∷
    on 6 kind.Number "3" ∷ on 6 kind.CloseBrace "}" ∷ on 7 kind.Init "init" ∷ on 7 kind.OpenBrace "{" ∷ on 7 kind.Run "run" ∷
    on 7 kind.Name "Q" ∷ on 7 kind.OpenParen "(" ∷ on 7 kind.Number "2" ∷ on 7 kind.CloseParen ")" ∷ on 7 kind.CloseBrace "}" ∷ []

model-ends-553 : Program
unfolding tokens-ends-553
model-ends-553 =
    let at : ℕ → Word = token_at tokens-ends-553 in
    let part : ℕ → ℕ → List Word = tokens_between tokens-ends-553 in
    record {
      globals = (slot (at 1) short false 0 1 1 (initial.Value (number 1)) ∷ slot (at 6) byte false 1 1 1 (initial.Value (number 1)) ∷ []);
      constants = [];
      typedefs = [];
      proctypes = (
          process (at 12) 3 1 0 [] (
          plain (part 16 17) (holds expr.Timeout) ∷
          plain (part 18 28) (action.Printf (at 20) ((read (global 0 short)) ∷ (read (global 1 byte)) ∷ expr.ProcessCount ∷ [])) ∷ []) (at 28) ∷
          process (at 31) 4 1 0 (slot (at 36) byte false 0 1 1 initial.Zero ∷ []) (
          plain (part 38 47) (holds (expr.Binary op.Equal (expr.Binary op.Minus (number 300) (number 0)) (number 100))) ∷ []) (at 47) ∷
          process (at 50) 5 1 0 (slot (at 55) byte false 0 1 1 initial.Zero ∷ []) (
          plain (part 57 62) (holds (expr.Binary op.Below (read (global 0 short)) (number 2))) ∷ []) (at 62) ∷
          process (at 64) 6 0 1 (slot (at 67) byte false 0 1 1 initial.Zero ∷ []) (
          plain (part 70 82) (holds (expr.Binary op.AtMost (expr.Unary before.Complement (number 0)) (expr.Binary op.Minus (number 100)
          (number 3)))) ∷
          plain (part 83 86) (assign (global 0 short) (number 3)) ∷ []) (at 86) ∷
          process (at 87) 7 1 0 [] (
          plain (part 89 94) (action.Run (run 3 ((number 2) ∷ []))) ∷ []) (at 94) ∷ []);
    }

abbrev end-1-of-ends-553 : Printed
end-1-of-ends-553 = shown (codes "3 1, 2 left\n") Invalid

abbrev end-2-of-ends-553 : Printed
end-2-of-ends-553 = shown (codes "3 1, 3 left\n") Invalid

paths-of-ends-553 : paths model-ends-553 9 ≡ Some (end-1-of-ends-553 ∷ end-1-of-ends-553 ∷ end-1-of-ends-553 ∷ end-2-of-ends-553 ∷ [])
unfolding computes model-ends-553
paths-of-ends-553 = has_paths model-ends-553 9 _ refl

-- int i0 = 0;
-- chan q0 = [1] of { int };
-- active proctype Watch() { timeout; printf("%d %d, %d left\n", i0, len(q0), _nr_pr) }
-- active proctype P0() { byte k; atomic { i0 = (2 - (300 >> 2)) } }
-- active proctype P1() { byte k; i0 = (!(300 >> 5)); if :: i0 = (~_nr_pr) :: i0 > i0 -> i0 = i0 :: else -> i0 = i0 fi }
-- proctype Q(byte n) { q0?eval(n) }
-- init { run Q(2) }
tokens-ends-554 : List Word
tokens-ends-554 =
    on 1 kind.Int "int" ∷ on 1 kind.Name "i0" ∷ on 1 kind.Assign "=" ∷ on 1 kind.Number "0" ∷ on 1 kind.Semicolon ";" ∷
    on 2 kind.Chan "chan" ∷ on 2 kind.Name "q0" ∷ on 2 kind.Assign "=" ∷ on 2 kind.OpenBracket "[" ∷ on 2 kind.Number "1" ∷
    on 2 kind.CloseBracket "]" ∷ on 2 kind.Of "of" ∷ on 2 kind.OpenBrace "{" ∷ on 2 kind.Int "int" ∷ on 2 kind.CloseBrace "}" ∷
    on 2 kind.Semicolon ";" ∷ on 3 kind.Active "active" ∷ on 3 kind.Proctype "proctype" ∷ on 3 kind.Name "Watch" ∷
    on 3 kind.OpenParen "(" ∷ on 3 kind.CloseParen ")" ∷ on 3 kind.OpenBrace "{" ∷ on 3 kind.Timeout "timeout" ∷
    on 3 kind.Semicolon ";" ∷ on 3 kind.Printf "printf" ∷ on 3 kind.OpenParen "(" ∷ on 3 kind.Quoted "\"%d %d, %d left\\n\"" ∷
    on 3 kind.Comma "," ∷ on 3 kind.Name "i0" ∷ on 3 kind.Comma "," ∷ on 3 kind.Len "len" ∷ on 3 kind.OpenParen "(" ∷
    on 3 kind.Name "q0" ∷ on 3 kind.CloseParen ")" ∷ on 3 kind.Comma "," ∷ on 3 kind.Name "_nr_pr" ∷ on 3 kind.CloseParen ")" ∷
    on 3 kind.CloseBrace "}" ∷ on 4 kind.Active "active" ∷ on 4 kind.Proctype "proctype" ∷ on 4 kind.Name "P0" ∷
    on 4 kind.OpenParen "(" ∷ on 4 kind.CloseParen ")" ∷ on 4 kind.OpenBrace "{" ∷ on 4 kind.Byte "byte" ∷ on 4 kind.Name "k" ∷
    on 4 kind.Semicolon ";" ∷ on 4 kind.Atomic "atomic" ∷ on 4 kind.OpenBrace "{" ∷ on 4 kind.Name "i0" ∷ on 4 kind.Assign "=" ∷
    on 4 kind.OpenParen "(" ∷ on 4 kind.Number "2" ∷ on 4 kind.Minus "-" ∷ on 4 kind.OpenParen "(" ∷ on 4 kind.Number "300" ∷
    on 4 kind.ShiftRight ">>" ∷ on 4 kind.Number "2" ∷ on 4 kind.CloseParen ")" ∷ on 4 kind.CloseParen ")" ∷
    on 4 kind.CloseBrace "}" ∷ on 4 kind.CloseBrace "}" ∷ on 5 kind.Active "active" ∷ on 5 kind.Proctype "proctype" ∷
    on 5 kind.Name "P1" ∷ on 5 kind.OpenParen "(" ∷ on 5 kind.CloseParen ")" ∷ on 5 kind.OpenBrace "{" ∷ on 5 kind.Byte "byte" ∷
    on 5 kind.Name "k" ∷ on 5 kind.Semicolon ";" ∷ on 5 kind.Name "i0" ∷ on 5 kind.Assign "=" ∷ on 5 kind.OpenParen "(" ∷
    on 5 kind.Bang "!" ∷ on 5 kind.OpenParen "(" ∷ on 5 kind.Number "300" ∷ on 5 kind.ShiftRight ">>" ∷ on 5 kind.Number "5" ∷
    on 5 kind.CloseParen ")" ∷ on 5 kind.CloseParen ")" ∷ on 5 kind.Semicolon ";" ∷ on 5 kind.If "if" ∷ on 5 kind.DoubleColon "::" ∷
    on 5 kind.Name "i0" ∷ on 5 kind.Assign "=" ∷ on 5 kind.OpenParen "(" ∷ on 5 kind.Tilde "~" ∷ on 5 kind.Name "_nr_pr" ∷
    on 5 kind.CloseParen ")" ∷ on 5 kind.DoubleColon "::" ∷ on 5 kind.Name "i0" ∷ on 5 kind.Greater ">" ∷ on 5 kind.Name "i0" ∷
    on 5 kind.Arrow "->" ∷ on 5 kind.Name "i0" ∷ on 5 kind.Assign "=" ∷ on 5 kind.Name "i0" ∷ on 5 kind.DoubleColon "::" ∷
    on 5 kind.Else "else" ∷ on 5 kind.Arrow "->" ∷ on 5 kind.Name "i0" ∷ on 5 kind.Assign "=" ∷ on 5 kind.Name "i0" ∷
    on 5 kind.Fi "fi" ∷ on 5 kind.CloseBrace "}" ∷ on 6 kind.Proctype "proctype" ∷ on 6 kind.Name "Q" ∷ on 6 kind.OpenParen "(" ∷
    on 6 kind.Byte "byte" ∷ on 6 kind.Name "n" ∷ on 6 kind.CloseParen ")" ∷ on 6 kind.OpenBrace "{" ∷ on 6 kind.Name "q0" ∷
    on 6 kind.Query "?" ∷ on 6 kind.Eval "eval" ∷ on 6 kind.OpenParen "(" ∷ on 6 kind.Name "n" ∷ on 6 kind.CloseParen ")" ∷
    on 6 kind.CloseBrace "}" ∷ on 7 kind.Init "init" ∷ on 7 kind.OpenBrace "{" ∷ on 7 kind.Run "run" ∷ on 7 kind.Name "Q" ∷
    on 7 kind.OpenParen "(" ∷ on 7 kind.Number "2" ∷ on 7 kind.CloseParen ")" ∷ on 7 kind.CloseBrace "}" ∷ []

model-ends-554 : Program
unfolding tokens-ends-554
model-ends-554 =
    let at : ℕ → Word = token_at tokens-ends-554 in
    let part : ℕ → ℕ → List Word = tokens_between tokens-ends-554 in
    record {
      globals = (slot (at 1) int false 0 1 1 (initial.Value (number 0)) ∷ slot (at 6) chan false 1 1 1 (initial.Channel 1 (int ∷ [])) ∷ []);
      constants = [];
      typedefs = [];
      proctypes = (
          process (at 18) 3 1 0 [] (
          plain (part 22 23) (holds expr.Timeout) ∷
          plain (part 24 37) (action.Printf (at 26) ((read (global 0 int)) ∷ (expr.Ask fill.Length (global 1 chan)) ∷ expr.ProcessCount
          ∷ [])) ∷ []) (at 37) ∷
          process (at 40) 4 1 0 (slot (at 45) byte false 0 1 1 initial.Zero ∷ []) (
          atomic (part 47 61) (
          plain (part 49 60) (assign (global 0 int) (expr.Binary op.Minus (number 2) (expr.Binary op.ShiftRight (number 300) (number
          2)))) ∷ []) ∷ []) (at 61) ∷
          process (at 64) 5 1 0 (slot (at 69) byte false 0 1 1 initial.Zero ∷ []) (
          plain (part 71 81) (assign (global 0 int) (expr.Unary before.Not (expr.Binary op.ShiftRight (number 300) (number 5)))) ∷
          if_fi (part 82 105) (
          (plain (part 84 90) (assign (global 0 int) (expr.Unary before.Complement expr.ProcessCount)) ∷ []) ∷
          (plain (part 91 94) (holds (expr.Binary op.Above (read (global 0 int)) (read (global 0 int)))) ∷
          plain (part 95 98) (assign (global 0 int) (read (global 0 int))) ∷ []) ∷
          (plain (part 99 100) action.Else ∷
          plain (part 101 104) (assign (global 0 int) (read (global 0 int))) ∷ []) ∷ []) ∷ []) (at 105) ∷
          process (at 107) 6 0 1 (slot (at 110) byte false 0 1 1 initial.Zero ∷ []) (
          plain (part 113 119) (action.Receive (global 1 chan) First Remove (want.Equal (read (local 0 byte)) ∷ [])) ∷ []) (at 119) ∷
          process (at 120) 7 1 0 [] (
          plain (part 122 127) (action.Run (run 3 ((number 2) ∷ []))) ∷ []) (at 127) ∷ []);
    }

abbrev end-1-of-ends-554 : Printed
end-1-of-ends-554 = shown (codes "-5 0, 5 left\n") Invalid

abbrev end-2-of-ends-554 : Printed
end-2-of-ends-554 = shown (codes "-6 0, 5 left\n") Invalid

abbrev end-3-of-ends-554 : Printed
end-3-of-ends-554 = shown (codes "-73 0, 5 left\n") Invalid

paths-of-ends-554 : paths model-ends-554 6 ≡ Some (end-1-of-ends-554 ∷ end-2-of-ends-554 ∷ end-2-of-ends-554 ∷ end-1-of-ends-554 ∷
    end-2-of-ends-554 ∷ end-3-of-ends-554 ∷ end-3-of-ends-554 ∷ end-2-of-ends-554 ∷ end-3-of-ends-554 ∷ end-2-of-ends-554 ∷
    end-2-of-ends-554 ∷ end-3-of-ends-554 ∷ [])
unfolding computes model-ends-554
paths-of-ends-554 = has_paths model-ends-554 6 _ refl

-- mtype = { red, green, blue }; mtype m = green;
-- int i0 = 1;
-- unsigned u1 : 3 = 0;
-- short a[2];
-- active proctype Watch() { timeout; printf("%d %d %d %d, %d left\n", i0, u1, a[0], a[1], _nr_pr) }
-- active proctype P0() { byte k; u1 = (i0 - (7 << 1)) }
-- active proctype P1() { byte k; a[1] = 3; i0 = ((!300) % 3) }
-- proctype Q(byte n) { ((3 - 255) >= n); ((255 / 4) >= 2) }
-- init { run Q(0) }
tokens-ends-559 : List Word
tokens-ends-559 =
    on 1 kind.Mtype "mtype" ∷ on 1 kind.Assign "=" ∷ on 1 kind.OpenBrace "{" ∷ on 1 kind.Name "red" ∷ on 1 kind.Comma "," ∷
    on 1 kind.Name "green" ∷ on 1 kind.Comma "," ∷ on 1 kind.Name "blue" ∷ on 1 kind.CloseBrace "}" ∷ on 1 kind.Semicolon ";" ∷
    on 1 kind.Mtype "mtype" ∷ on 1 kind.Name "m" ∷ on 1 kind.Assign "=" ∷ on 1 kind.Name "green" ∷ on 1 kind.Semicolon ";" ∷
    on 2 kind.Int "int" ∷ on 2 kind.Name "i0" ∷ on 2 kind.Assign "=" ∷ on 2 kind.Number "1" ∷ on 2 kind.Semicolon ";" ∷
    on 3 kind.Unsigned "unsigned" ∷ on 3 kind.Name "u1" ∷ on 3 kind.Colon ":" ∷ on 3 kind.Number "3" ∷ on 3 kind.Assign "=" ∷
    on 3 kind.Number "0" ∷ on 3 kind.Semicolon ";" ∷ on 4 kind.Short "short" ∷ on 4 kind.Name "a" ∷ on 4 kind.OpenBracket "[" ∷
    on 4 kind.Number "2" ∷ on 4 kind.CloseBracket "]" ∷ on 4 kind.Semicolon ";" ∷ on 5 kind.Active "active" ∷
    on 5 kind.Proctype "proctype" ∷ on 5 kind.Name "Watch" ∷ on 5 kind.OpenParen "(" ∷ on 5 kind.CloseParen ")" ∷
    on 5 kind.OpenBrace "{" ∷ on 5 kind.Timeout "timeout" ∷ on 5 kind.Semicolon ";" ∷ on 5 kind.Printf "printf" ∷
    on 5 kind.OpenParen "(" ∷ on 5 kind.Quoted "\"%d %d %d %d, %d left\\n\"" ∷ on 5 kind.Comma "," ∷ on 5 kind.Name "i0" ∷
    on 5 kind.Comma "," ∷ on 5 kind.Name "u1" ∷ on 5 kind.Comma "," ∷ on 5 kind.Name "a" ∷ on 5 kind.OpenBracket "[" ∷
    on 5 kind.Number "0" ∷ on 5 kind.CloseBracket "]" ∷ on 5 kind.Comma "," ∷ on 5 kind.Name "a" ∷ on 5 kind.OpenBracket "[" ∷
    on 5 kind.Number "1" ∷ on 5 kind.CloseBracket "]" ∷ on 5 kind.Comma "," ∷ on 5 kind.Name "_nr_pr" ∷ on 5 kind.CloseParen ")" ∷
    on 5 kind.CloseBrace "}" ∷ on 6 kind.Active "active" ∷ on 6 kind.Proctype "proctype" ∷ on 6 kind.Name "P0" ∷
    on 6 kind.OpenParen "(" ∷ on 6 kind.CloseParen ")" ∷ on 6 kind.OpenBrace "{" ∷ on 6 kind.Byte "byte" ∷ on 6 kind.Name "k" ∷
    on 6 kind.Semicolon ";" ∷ on 6 kind.Name "u1" ∷ on 6 kind.Assign "=" ∷ on 6 kind.OpenParen "(" ∷ on 6 kind.Name "i0" ∷
    on 6 kind.Minus "-" ∷ on 6 kind.OpenParen "(" ∷ on 6 kind.Number "7" ∷ on 6 kind.ShiftLeft "<<" ∷ on 6 kind.Number "1" ∷
    on 6 kind.CloseParen ")" ∷ on 6 kind.CloseParen ")" ∷ on 6 kind.CloseBrace "}" ∷ on 7 kind.Active "active" ∷
    on 7 kind.Proctype "proctype" ∷ on 7 kind.Name "P1" ∷ on 7 kind.OpenParen "(" ∷ on 7 kind.CloseParen ")" ∷
    on 7 kind.OpenBrace "{" ∷ on 7 kind.Byte "byte" ∷ on 7 kind.Name "k" ∷ on 7 kind.Semicolon ";" ∷ on 7 kind.Name "a" ∷
    on 7 kind.OpenBracket "[" ∷ on 7 kind.Number "1" ∷ on 7 kind.CloseBracket "]" ∷ on 7 kind.Assign "=" ∷ on 7 kind.Number "3" ∷
    on 7 kind.Semicolon ";" ∷ on 7 kind.Name "i0" ∷ on 7 kind.Assign "=" ∷ on 7 kind.OpenParen "(" ∷ on 7 kind.OpenParen "(" ∷
    on 7 kind.Bang "!" ∷ on 7 kind.Number "300" ∷ on 7 kind.CloseParen ")" ∷ on 7 kind.Percent "%" ∷ on 7 kind.Number "3" ∷
    on 7 kind.CloseParen ")" ∷ on 7 kind.CloseBrace "}" ∷ on 8 kind.Proctype "proctype" ∷ on 8 kind.Name "Q" ∷
    on 8 kind.OpenParen "(" ∷ on 8 kind.Byte "byte" ∷ on 8 kind.Name "n" ∷ on 8 kind.CloseParen ")" ∷ on 8 kind.OpenBrace "{" ∷
    on 8 kind.OpenParen "(" ∷ on 8 kind.OpenParen "(" ∷ on 8 kind.Number "3" ∷ on 8 kind.Minus "-" ∷ on 8 kind.Number "255" ∷
    on 8 kind.CloseParen ")" ∷ on 8 kind.AtLeast ">=" ∷ on 8 kind.Name "n" ∷ on 8 kind.CloseParen ")" ∷ on 8 kind.Semicolon ";" ∷
    on 8 kind.OpenParen "(" ∷ on 8 kind.OpenParen "(" ∷ on 8 kind.Number "255" ∷ on 8 kind.Slash "/" ∷ on 8 kind.Number "4" ∷
    on 8 kind.CloseParen ")" ∷ on 8 kind.AtLeast ">=" ∷ on 8 kind.Number "2" ∷ on 8 kind.CloseParen ")" ∷ on 8 kind.CloseBrace "}" ∷
    on 9 kind.Init "init" ∷ on 9 kind.OpenBrace "{" ∷ on 9 kind.Run "run" ∷ on 9 kind.Name "Q" ∷ on 9 kind.OpenParen "(" ∷
    on 9 kind.Number "0" ∷ on 9 kind.CloseParen ")" ∷ on 9 kind.CloseBrace "}" ∷ []

model-ends-559 : Program
unfolding tokens-ends-559
model-ends-559 =
    let at : ℕ → Word = token_at tokens-ends-559 in
    let part : ℕ → ℕ → List Word = tokens_between tokens-ends-559 in
    record {
      globals = (slot (at 11) mtype false 0 1 1 (initial.Value (number 2)) ∷ slot (at 16) int false 1 1 1 (initial.Value (number 1)) ∷
          slot (at 21) (form.Unsigned 3) false 2 1 1 (initial.Value (number 0)) ∷ slot (at 28) short true 3 2 1 initial.Zero ∷ []);
      constants = ((at 7) ∷ (at 5) ∷ (at 3) ∷ []);
      typedefs = [];
      proctypes = (
          process (at 35) 6 1 0 [] (
          plain (part 39 40) (holds expr.Timeout) ∷
          plain (part 41 61) (action.Printf (at 43) ((read (global 1 int)) ∷ (read (global 2 (form.Unsigned 3))) ∷ (read (in_global 3
          short (turn 0 2 1 (Some (number 0)) ∷ []))) ∷ (read (in_global 3 short (turn 0 2 1 (Some (number 1)) ∷ []))) ∷
          expr.ProcessCount ∷ [])) ∷ []) (at 61) ∷
          process (at 64) 7 1 0 (slot (at 69) byte false 0 1 1 initial.Zero ∷ []) (
          plain (part 71 82) (assign (global 2 (form.Unsigned 3)) (expr.Binary op.Minus (read (global 1 int)) (expr.Binary op.ShiftLeft
          (number 7) (number 1)))) ∷ []) (at 82) ∷
          process (at 85) 8 1 0 (slot (at 90) byte false 0 1 1 initial.Zero ∷ []) (
          plain (part 92 98) (assign (in_global 3 short (turn 0 2 1 (Some (number 1)) ∷ [])) (number 3)) ∷
          plain (part 99 109) (assign (global 1 int) (expr.Binary op.Remainder (expr.Unary before.Not (number 300)) (number 3))) ∷ [])
          (at 109) ∷
          process (at 111) 9 0 1 (slot (at 114) byte false 0 1 1 initial.Zero ∷ []) (
          plain (part 117 126) (holds (expr.Binary op.AtLeast (expr.Binary op.Minus (number 3) (number 255)) (read (local 0 byte)))) ∷
          plain (part 127 136) (holds (expr.Binary op.AtLeast (expr.Binary op.Divide (number 255) (number 4)) (number 2))) ∷ []) (at 136) ∷
          process (at 137) 10 1 0 [] (
          plain (part 139 144) (action.Run (run 3 ((number 0) ∷ []))) ∷ []) (at 144) ∷ []);
    }

abbrev end-1-of-ends-559 : Printed
end-1-of-ends-559 = shown (codes "0 3 0 3, 5 left\n") Invalid

abbrev end-2-of-ends-559 : Printed
end-2-of-ends-559 = shown (codes "0 2 0 3, 5 left\n") Invalid

paths-of-ends-559 : paths model-ends-559 6 ≡ Some (end-1-of-ends-559 ∷ end-1-of-ends-559 ∷ end-1-of-ends-559 ∷ end-1-of-ends-559 ∷
    end-1-of-ends-559 ∷ end-2-of-ends-559 ∷ end-2-of-ends-559 ∷ end-1-of-ends-559 ∷ end-2-of-ends-559 ∷ end-1-of-ends-559 ∷
    end-1-of-ends-559 ∷ end-2-of-ends-559 ∷ [])
unfolding computes model-ends-559
paths-of-ends-559 = has_paths model-ends-559 6 _ refl
