-- All paths of small random models, whose ends are those of Spin's full search. `tools/spin-ends` made the models and their data.
use Rattle.std.proofs.Common.{◌≡◌, ℕ, List, [], ◌∷◌, true, false, refl, Some, None}
use Rattle.std.specs.Prelude.{codes, pos}
use Rattle.pml_token.specs.Word.{Word}
use Rattle.pml_tree.specs.declared.tree.Search.TheVariants.{First, Matching}
use Rattle.pml_tree.specs.declared.tree.Removal.TheVariants.{Remove}
use Rattle.pml_tree.specs.declared.tree.SendOrder.TheVariants.{Fifo, Sorted}
use Rattle.pml_program.specs.declared.program.Program.{Program}
use Rattle.pml_program.specs.declared.program.Basic.{Break}
use Rattle.worked_runs.proofs.Models.{on, token_at, tokens_between, bit, byte, chan, mtype, short, int, slot, fields, turn, in_global, local, global, number, read, run, assign, holds, stmt, plain, block, atomic, d_step, if_fi, do_od, unless, process}
use Rattle.worked_runs.proofs.Same.{computes}
use Rattle.worked_runs.specs.Printed.{Printed, Valid, Invalid}
use Rattle.worked_runs.specs.Ends.{paths}
use Rattle.worked_runs.proofs.Same.{has_paths}
use Rattle.worked_runs.proofs.Models.{shown}
use Rattle.pml_token.specs.declared.token.Kind.TheVariants as kind
use Rattle.pml_tree.specs.declared.tree.Infix.TheVariants as op
use Rattle.pml_tree.specs.declared.tree.Prefix.TheVariants as before
use Rattle.pml_tree.specs.declared.tree.Fill.TheVariants as fill
use Rattle.pml_program.specs.declared.form.Form.TheVariants as form
use Rattle.pml_program.specs.declared.expr.Expr.TheVariants as expr
use Rattle.pml_program.specs.declared.expr.Want.TheVariants as want
use Rattle.pml_program.specs.declared.program.Initial.TheVariants as initial
use Rattle.pml_program.specs.declared.program.Action.TheVariants as action

-- mtype = { red, green, blue }; mtype m = green;
-- bit t0 = 0;
-- int i1 = 0;
-- typedef T { byte f; short g[2] }; T r;
-- active proctype Watch() { timeout; printf("%d %d %d %d, %d left\n", t0, i1, r.f, r.g[1], _nr_pr) }
-- active proctype P0() { byte k; if :: r.f = r.g[1] :: r.f++; r.g[1]-- :: else -> (_pid > i1) fi; (t0 == 1) }
-- proctype Q(byte n) { (1 <= r.f); (255 >= (!7)) }
-- init { run Q(1) }
tokens-ends-579 : List Word
tokens-ends-579 =
    on 1 kind.Mtype "mtype" ∷ on 1 kind.Assign "=" ∷ on 1 kind.OpenBrace "{" ∷ on 1 kind.Name "red" ∷ on 1 kind.Comma "," ∷
    on 1 kind.Name "green" ∷ on 1 kind.Comma "," ∷ on 1 kind.Name "blue" ∷ on 1 kind.CloseBrace "}" ∷ on 1 kind.Semicolon ";" ∷
    on 1 kind.Mtype "mtype" ∷ on 1 kind.Name "m" ∷ on 1 kind.Assign "=" ∷ on 1 kind.Name "green" ∷ on 1 kind.Semicolon ";" ∷
    on 2 kind.Bit "bit" ∷ on 2 kind.Name "t0" ∷ on 2 kind.Assign "=" ∷ on 2 kind.Number "0" ∷ on 2 kind.Semicolon ";" ∷
    on 3 kind.Int "int" ∷ on 3 kind.Name "i1" ∷ on 3 kind.Assign "=" ∷ on 3 kind.Number "0" ∷ on 3 kind.Semicolon ";" ∷
    on 4 kind.Typedef "typedef" ∷ on 4 kind.Name "T" ∷ on 4 kind.OpenBrace "{" ∷ on 4 kind.Byte "byte" ∷ on 4 kind.Name "f" ∷
    on 4 kind.Semicolon ";" ∷ on 4 kind.Short "short" ∷ on 4 kind.Name "g" ∷ on 4 kind.OpenBracket "[" ∷ on 4 kind.Number "2" ∷
    on 4 kind.CloseBracket "]" ∷ on 4 kind.CloseBrace "}" ∷ on 4 kind.Semicolon ";" ∷ on 4 kind.Name "T" ∷ on 4 kind.Name "r" ∷
    on 4 kind.Semicolon ";" ∷ on 5 kind.Active "active" ∷ on 5 kind.Proctype "proctype" ∷ on 5 kind.Name "Watch" ∷
    on 5 kind.OpenParen "(" ∷ on 5 kind.CloseParen ")" ∷ on 5 kind.OpenBrace "{" ∷ on 5 kind.Timeout "timeout" ∷
    on 5 kind.Semicolon ";" ∷ on 5 kind.Printf "printf" ∷ on 5 kind.OpenParen "(" ∷ on 5 kind.Quoted "\"%d %d %d %d, %d left\\n\"" ∷
    on 5 kind.Comma "," ∷ on 5 kind.Name "t0" ∷ on 5 kind.Comma "," ∷ on 5 kind.Name "i1" ∷ on 5 kind.Comma "," ∷
    on 5 kind.Name "r" ∷ on 5 kind.Dot "." ∷ on 5 kind.Name "f" ∷ on 5 kind.Comma "," ∷ on 5 kind.Name "r" ∷ on 5 kind.Dot "." ∷
    on 5 kind.Name "g" ∷ on 5 kind.OpenBracket "[" ∷ on 5 kind.Number "1" ∷ on 5 kind.CloseBracket "]" ∷ on 5 kind.Comma "," ∷
    on 5 kind.Name "_nr_pr" ∷ on 5 kind.CloseParen ")" ∷ on 5 kind.CloseBrace "}" ∷ on 6 kind.Active "active" ∷
    on 6 kind.Proctype "proctype" ∷ on 6 kind.Name "P0" ∷ on 6 kind.OpenParen "(" ∷ on 6 kind.CloseParen ")" ∷
    on 6 kind.OpenBrace "{" ∷ on 6 kind.Byte "byte" ∷ on 6 kind.Name "k" ∷ on 6 kind.Semicolon ";" ∷ on 6 kind.If "if" ∷
    on 6 kind.DoubleColon "::" ∷ on 6 kind.Name "r" ∷ on 6 kind.Dot "." ∷ on 6 kind.Name "f" ∷ on 6 kind.Assign "=" ∷
    on 6 kind.Name "r" ∷ on 6 kind.Dot "." ∷ on 6 kind.Name "g" ∷ on 6 kind.OpenBracket "[" ∷ on 6 kind.Number "1" ∷
    on 6 kind.CloseBracket "]" ∷ on 6 kind.DoubleColon "::" ∷ on 6 kind.Name "r" ∷ on 6 kind.Dot "." ∷ on 6 kind.Name "f" ∷
    on 6 kind.Increment "++" ∷ on 6 kind.Semicolon ";" ∷ on 6 kind.Name "r" ∷ on 6 kind.Dot "." ∷ on 6 kind.Name "g" ∷
    on 6 kind.OpenBracket "[" ∷ on 6 kind.Number "1" ∷ on 6 kind.CloseBracket "]" ∷ on 6 kind.Decrement "--" ∷
    on 6 kind.DoubleColon "::" ∷ on 6 kind.Else "else" ∷ on 6 kind.Arrow "->" ∷ on 6 kind.OpenParen "(" ∷ on 6 kind.Name "_pid" ∷
    on 6 kind.Greater ">" ∷ on 6 kind.Name "i1" ∷ on 6 kind.CloseParen ")" ∷ on 6 kind.Fi "fi" ∷ on 6 kind.Semicolon ";" ∷
    on 6 kind.OpenParen "(" ∷ on 6 kind.Name "t0" ∷ on 6 kind.Equal "==" ∷ on 6 kind.Number "1" ∷ on 6 kind.CloseParen ")" ∷
    on 6 kind.CloseBrace "}" ∷ on 7 kind.Proctype "proctype" ∷ on 7 kind.Name "Q" ∷ on 7 kind.OpenParen "(" ∷ on 7 kind.Byte "byte" ∷
    on 7 kind.Name "n" ∷ on 7 kind.CloseParen ")" ∷ on 7 kind.OpenBrace "{" ∷ on 7 kind.OpenParen "(" ∷ on 7 kind.Number "1" ∷
    on 7 kind.AtMost "<=" ∷ on 7 kind.Name "r" ∷ on 7 kind.Dot "." ∷ on 7 kind.Name "f" ∷ on 7 kind.CloseParen ")" ∷
    on 7 kind.Semicolon ";" ∷ on 7 kind.OpenParen "(" ∷ on 7 kind.Number "255" ∷ on 7 kind.AtLeast ">=" ∷ on 7 kind.OpenParen "(" ∷
    on 7 kind.Bang "!" ∷ on 7 kind.Number "7" ∷ on 7 kind.CloseParen ")" ∷ on 7 kind.CloseParen ")" ∷ on 7 kind.CloseBrace "}" ∷
    on 8 kind.Init "init" ∷ on 8 kind.OpenBrace "{" ∷ on 8 kind.Run "run" ∷ on 8 kind.Name "Q" ∷ on 8 kind.OpenParen "(" ∷
    on 8 kind.Number "1" ∷ on 8 kind.CloseParen ")" ∷ on 8 kind.CloseBrace "}" ∷ []

model-ends-579 : Program
unfolding tokens-ends-579
model-ends-579 =
    let at : ℕ → Word = token_at tokens-ends-579 in
    let part : ℕ → ℕ → List Word = tokens_between tokens-ends-579 in
    record {
      globals = (slot (at 11) mtype false 0 1 1 (initial.Value (number 2)) ∷ slot (at 16) bit false 1 1 1 (initial.Value (number 0)) ∷
          slot (at 21) int false 2 1 1 (initial.Value (number 0)) ∷ slot (at 39) (form.Struct 5) false 3 1 3 initial.Zero ∷ []);
      constants = ((at 7) ∷ (at 5) ∷ (at 3) ∷ []);
      typedefs = (fields 5 (slot (at 29) byte false 0 1 1 initial.Zero ∷ slot (at 32) short true 1 2 1 initial.Zero ∷ []) ∷ []);
      proctypes = (
          process (at 43) 7 1 0 [] (
          plain (part 47 48) (holds expr.Timeout) ∷
          plain (part 49 70) (action.Printf (at 51) ((read (global 1 bit)) ∷ (read (global 2 int)) ∷ (read (in_global 3 byte (turn 0 1 3
          None ∷ turn 0 1 1 None ∷ []))) ∷ (read (in_global 3 short (turn 0 1 3 None ∷ turn 1 2 1 (Some (number 1)) ∷ []))) ∷
          expr.ProcessCount ∷ [])) ∷ []) (at 70) ∷
          process (at 73) 8 1 0 (slot (at 78) byte false 0 1 1 initial.Zero ∷ []) (
          if_fi (part 80 114) (
          (plain (part 82 92) (assign (in_global 3 byte (turn 0 1 3 None ∷ turn 0 1 1 None ∷ [])) (read (in_global 3 short (turn 0 1 3
          None ∷ turn 1 2 1 (Some (number 1)) ∷ [])))) ∷ []) ∷
          (plain (part 93 97) (action.Increment (in_global 3 byte (turn 0 1 3 None ∷ turn 0 1 1 None ∷ []))) ∷
          plain (part 98 105) (action.Decrement (in_global 3 short (turn 0 1 3 None ∷ turn 1 2 1 (Some (number 1)) ∷ []))) ∷ []) ∷
          (plain (part 106 107) action.Else ∷
          plain (part 108 113) (holds (expr.Binary op.Above expr.Pid (read (global 2 int)))) ∷ []) ∷ []) ∷
          plain (part 115 120) (holds (expr.Binary op.Equal (read (global 1 bit)) (number 1))) ∷ []) (at 120) ∷
          process (at 122) 9 0 1 (slot (at 125) byte false 0 1 1 initial.Zero ∷ []) (
          plain (part 128 135) (holds (expr.Binary op.AtMost (number 1) (read (in_global 3 byte (turn 0 1 3 None ∷ turn 0 1 1 None ∷ []))))) ∷
          plain (part 136 144) (holds (expr.Binary op.AtLeast (number 255) (expr.Unary before.Not (number 7)))) ∷ []) (at 144) ∷
          process (at 145) 10 1 0 [] (
          plain (part 147 152) (action.Run (run 2 ((number 1) ∷ []))) ∷ []) (at 152) ∷ []);
    }

abbrev end-1-of-ends-579 : Printed
end-1-of-ends-579 = shown (codes "0 0 0 0, 4 left\n") Invalid

abbrev end-2-of-ends-579 : Printed
end-2-of-ends-579 = shown (codes "0 0 1 -1, 2 left\n") Invalid

paths-of-ends-579 : paths model-ends-579 9 ≡ Some (end-1-of-ends-579 ∷ end-2-of-ends-579 ∷ end-2-of-ends-579 ∷ end-2-of-ends-579 ∷
    end-2-of-ends-579 ∷ end-2-of-ends-579 ∷ end-2-of-ends-579 ∷ end-1-of-ends-579 ∷ end-2-of-ends-579 ∷ end-2-of-ends-579 ∷
    end-2-of-ends-579 ∷ end-2-of-ends-579 ∷ end-2-of-ends-579 ∷ [])
unfolding computes model-ends-579
paths-of-ends-579 = has_paths model-ends-579 9 _ refl

-- byte b0 = 1;
-- short s1 = 1;
-- chan q0 = [0] of { int };
-- active proctype Watch() { timeout; printf("%d %d %d, %d left\n", b0, s1, len(q0), _nr_pr) }
-- active proctype P0() { byte k; (300 != (100 ^ 100)); b0 = s1 }
-- active proctype P1() { byte k; for (k : 1 .. 2) { s1 = ((1 < 1 -> 2 : 255) != s1 -> 3 : s1); q0!_nr_pr }; b0 = b0 }
tokens-ends-580 : List Word
tokens-ends-580 =
    on 1 kind.Byte "byte" ∷ on 1 kind.Name "b0" ∷ on 1 kind.Assign "=" ∷ on 1 kind.Number "1" ∷ on 1 kind.Semicolon ";" ∷
    on 2 kind.Short "short" ∷ on 2 kind.Name "s1" ∷ on 2 kind.Assign "=" ∷ on 2 kind.Number "1" ∷ on 2 kind.Semicolon ";" ∷
    on 3 kind.Chan "chan" ∷ on 3 kind.Name "q0" ∷ on 3 kind.Assign "=" ∷ on 3 kind.OpenBracket "[" ∷ on 3 kind.Number "0" ∷
    on 3 kind.CloseBracket "]" ∷ on 3 kind.Of "of" ∷ on 3 kind.OpenBrace "{" ∷ on 3 kind.Int "int" ∷ on 3 kind.CloseBrace "}" ∷
    on 3 kind.Semicolon ";" ∷ on 4 kind.Active "active" ∷ on 4 kind.Proctype "proctype" ∷ on 4 kind.Name "Watch" ∷
    on 4 kind.OpenParen "(" ∷ on 4 kind.CloseParen ")" ∷ on 4 kind.OpenBrace "{" ∷ on 4 kind.Timeout "timeout" ∷
    on 4 kind.Semicolon ";" ∷ on 4 kind.Printf "printf" ∷ on 4 kind.OpenParen "(" ∷ on 4 kind.Quoted "\"%d %d %d, %d left\\n\"" ∷
    on 4 kind.Comma "," ∷ on 4 kind.Name "b0" ∷ on 4 kind.Comma "," ∷ on 4 kind.Name "s1" ∷ on 4 kind.Comma "," ∷
    on 4 kind.Len "len" ∷ on 4 kind.OpenParen "(" ∷ on 4 kind.Name "q0" ∷ on 4 kind.CloseParen ")" ∷ on 4 kind.Comma "," ∷
    on 4 kind.Name "_nr_pr" ∷ on 4 kind.CloseParen ")" ∷ on 4 kind.CloseBrace "}" ∷ on 5 kind.Active "active" ∷
    on 5 kind.Proctype "proctype" ∷ on 5 kind.Name "P0" ∷ on 5 kind.OpenParen "(" ∷ on 5 kind.CloseParen ")" ∷
    on 5 kind.OpenBrace "{" ∷ on 5 kind.Byte "byte" ∷ on 5 kind.Name "k" ∷ on 5 kind.Semicolon ";" ∷ on 5 kind.OpenParen "(" ∷
    on 5 kind.Number "300" ∷ on 5 kind.Unequal "!=" ∷ on 5 kind.OpenParen "(" ∷ on 5 kind.Number "100" ∷ on 5 kind.Caret "^" ∷
    on 5 kind.Number "100" ∷ on 5 kind.CloseParen ")" ∷ on 5 kind.CloseParen ")" ∷ on 5 kind.Semicolon ";" ∷ on 5 kind.Name "b0" ∷
    on 5 kind.Assign "=" ∷ on 5 kind.Name "s1" ∷ on 5 kind.CloseBrace "}" ∷ on 6 kind.Active "active" ∷
    on 6 kind.Proctype "proctype" ∷ on 6 kind.Name "P1" ∷ on 6 kind.OpenParen "(" ∷ on 6 kind.CloseParen ")" ∷
    on 6 kind.OpenBrace "{" ∷ on 6 kind.Byte "byte" ∷ on 6 kind.Name "k" ∷ on 6 kind.Semicolon ";" ∷ on 6 kind.For "for" ∷
    on 6 kind.OpenParen "(" ∷ on 6 kind.Name "k" ∷ on 6 kind.Colon ":" ∷ on 6 kind.Number "1" ∷ on 6 kind.DotDot ".." ∷
    on 6 kind.Number "2" ∷ on 6 kind.CloseParen ")" ∷ on 6 kind.OpenBrace "{" ∷ on 6 kind.Name "s1" ∷ on 6 kind.Assign "=" ∷
    on 6 kind.OpenParen "(" ∷ on 6 kind.OpenParen "(" ∷ on 6 kind.Number "1" ∷ on 6 kind.Less "<" ∷ on 6 kind.Number "1" ∷
    on 6 kind.Arrow "->" ∷ on 6 kind.Number "2" ∷ on 6 kind.Colon ":" ∷ on 6 kind.Number "255" ∷ on 6 kind.CloseParen ")" ∷
    on 6 kind.Unequal "!=" ∷ on 6 kind.Name "s1" ∷ on 6 kind.Arrow "->" ∷ on 6 kind.Number "3" ∷ on 6 kind.Colon ":" ∷
    on 6 kind.Name "s1" ∷ on 6 kind.CloseParen ")" ∷ on 6 kind.Semicolon ";" ∷ on 6 kind.Name "q0" ∷ on 6 kind.Bang "!" ∷
    on 6 kind.Name "_nr_pr" ∷ on 6 kind.CloseBrace "}" ∷ on 6 kind.Semicolon ";" ∷ on 6 kind.Name "b0" ∷ on 6 kind.Assign "=" ∷
    on 6 kind.Name "b0" ∷ on 6 kind.CloseBrace "}" ∷ []

model-ends-580 : Program
unfolding tokens-ends-580
model-ends-580 =
    let at : ℕ → Word = token_at tokens-ends-580 in
    let part : ℕ → ℕ → List Word = tokens_between tokens-ends-580 in
    record {
      globals = (slot (at 1) byte false 0 1 1 (initial.Value (number 1)) ∷ slot (at 6) short false 1 1 1 (initial.Value (number 1)) ∷
          slot (at 11) chan false 2 1 1 (initial.Channel 0 (int ∷ [])) ∷ []);
      constants = [];
      typedefs = [];
      proctypes = (
          process (at 23) 4 1 0 [] (
          plain (part 27 28) (holds expr.Timeout) ∷
          plain (part 29 44) (action.Printf (at 31) ((read (global 0 byte)) ∷ (read (global 1 short)) ∷ (expr.Ask fill.Length (global 2
          chan)) ∷ expr.ProcessCount ∷ [])) ∷ []) (at 44) ∷
          process (at 47) 5 1 0 (slot (at 52) byte false 0 1 1 initial.Zero ∷ []) (
          plain (part 54 63) (holds (expr.Binary op.Unequal (number 300) (expr.Binary op.BitXor (number 100) (number 100)))) ∷
          plain (part 64 67) (assign (global 0 byte) (read (global 1 short))) ∷ []) (at 67) ∷
          process (at 70) 6 1 0 (slot (at 75) byte false 0 1 1 initial.Zero ∷ []) (
          block (part 77 110) (
          plain ((at 79) ∷ (on 6 kind.Assign "=") ∷ (at 81) ∷ []) (assign (local 0 byte) (number 1)) ∷
          do_od ((on 6 kind.Do "do") ∷ []) (
          (plain ((at 79) ∷ (on 6 kind.AtMost "<=") ∷ (at 83) ∷ []) (holds (expr.Binary op.AtMost (read (local 0 byte)) (number 2))) ∷
          plain (part 86 105) (assign (global 1 short) (expr.Choice (expr.Binary op.Unequal (expr.Choice (expr.Binary op.Below (number
          1) (number 1)) (number 2) (number 255)) (read (global 1 short))) (number 3) (read (global 1 short)))) ∷
          plain (part 106 109) (action.Send (global 2 chan) Fifo (expr.ProcessCount ∷ [])) ∷
          plain ((at 79) ∷ (on 6 kind.Increment "++") ∷ []) (action.Increment (local 0 byte)) ∷ []) ∷
          (plain ((on 6 kind.Else "else") ∷ []) action.Else ∷
          stmt [] Break ((on 6 kind.Break "break") ∷ []) ∷ []) ∷ []) ∷ []) ∷
          plain (part 111 114) (assign (global 0 byte) (read (global 0 byte))) ∷ []) (at 114) ∷ []);
    }

abbrev end-1-of-ends-580 : Printed
end-1-of-ends-580 = shown (codes "1 3 0, 3 left\n") Invalid

abbrev end-2-of-ends-580 : Printed
end-2-of-ends-580 = shown (codes "3 3 0, 3 left\n") Invalid

paths-of-ends-580 : paths model-ends-580 7 ≡ Some (end-1-of-ends-580 ∷ end-1-of-ends-580 ∷ end-1-of-ends-580 ∷ end-2-of-ends-580 ∷
    end-1-of-ends-580 ∷ end-1-of-ends-580 ∷ end-2-of-ends-580 ∷ end-1-of-ends-580 ∷ end-2-of-ends-580 ∷ end-2-of-ends-580 ∷ [])
unfolding computes model-ends-580
paths-of-ends-580 = has_paths model-ends-580 7 _ refl

-- mtype = { red, green, blue }; mtype m = green;
-- int i0 = 1;
-- bit t1 = 1;
-- chan q0 = [1] of { byte };
-- active proctype Watch() { timeout; printf("%d %d %d, %d left\n", i0, t1, len(q0), _nr_pr) }
-- active proctype P0() { byte k; q0?eval(i0); q0!1 }
-- active proctype P1() { byte k; t1 = (_nr_pr + t1) }
-- proctype Q(byte n) { n = 255; i0 = t1 }
-- init { run Q(0) }
tokens-ends-604 : List Word
tokens-ends-604 =
    on 1 kind.Mtype "mtype" ∷ on 1 kind.Assign "=" ∷ on 1 kind.OpenBrace "{" ∷ on 1 kind.Name "red" ∷ on 1 kind.Comma "," ∷
    on 1 kind.Name "green" ∷ on 1 kind.Comma "," ∷ on 1 kind.Name "blue" ∷ on 1 kind.CloseBrace "}" ∷ on 1 kind.Semicolon ";" ∷
    on 1 kind.Mtype "mtype" ∷ on 1 kind.Name "m" ∷ on 1 kind.Assign "=" ∷ on 1 kind.Name "green" ∷ on 1 kind.Semicolon ";" ∷
    on 2 kind.Int "int" ∷ on 2 kind.Name "i0" ∷ on 2 kind.Assign "=" ∷ on 2 kind.Number "1" ∷ on 2 kind.Semicolon ";" ∷
    on 3 kind.Bit "bit" ∷ on 3 kind.Name "t1" ∷ on 3 kind.Assign "=" ∷ on 3 kind.Number "1" ∷ on 3 kind.Semicolon ";" ∷
    on 4 kind.Chan "chan" ∷ on 4 kind.Name "q0" ∷ on 4 kind.Assign "=" ∷ on 4 kind.OpenBracket "[" ∷ on 4 kind.Number "1" ∷
    on 4 kind.CloseBracket "]" ∷ on 4 kind.Of "of" ∷ on 4 kind.OpenBrace "{" ∷ on 4 kind.Byte "byte" ∷ on 4 kind.CloseBrace "}" ∷
    on 4 kind.Semicolon ";" ∷ on 5 kind.Active "active" ∷ on 5 kind.Proctype "proctype" ∷ on 5 kind.Name "Watch" ∷
    on 5 kind.OpenParen "(" ∷ on 5 kind.CloseParen ")" ∷ on 5 kind.OpenBrace "{" ∷ on 5 kind.Timeout "timeout" ∷
    on 5 kind.Semicolon ";" ∷ on 5 kind.Printf "printf" ∷ on 5 kind.OpenParen "(" ∷ on 5 kind.Quoted "\"%d %d %d, %d left\\n\"" ∷
    on 5 kind.Comma "," ∷ on 5 kind.Name "i0" ∷ on 5 kind.Comma "," ∷ on 5 kind.Name "t1" ∷ on 5 kind.Comma "," ∷
    on 5 kind.Len "len" ∷ on 5 kind.OpenParen "(" ∷ on 5 kind.Name "q0" ∷ on 5 kind.CloseParen ")" ∷ on 5 kind.Comma "," ∷
    on 5 kind.Name "_nr_pr" ∷ on 5 kind.CloseParen ")" ∷ on 5 kind.CloseBrace "}" ∷ on 6 kind.Active "active" ∷
    on 6 kind.Proctype "proctype" ∷ on 6 kind.Name "P0" ∷ on 6 kind.OpenParen "(" ∷ on 6 kind.CloseParen ")" ∷
    on 6 kind.OpenBrace "{" ∷ on 6 kind.Byte "byte" ∷ on 6 kind.Name "k" ∷ on 6 kind.Semicolon ";" ∷ on 6 kind.Name "q0" ∷
    on 6 kind.Query "?" ∷ on 6 kind.Eval "eval" ∷ on 6 kind.OpenParen "(" ∷ on 6 kind.Name "i0" ∷ on 6 kind.CloseParen ")" ∷
    on 6 kind.Semicolon ";" ∷ on 6 kind.Name "q0" ∷ on 6 kind.Bang "!" ∷ on 6 kind.Number "1" ∷ on 6 kind.CloseBrace "}" ∷
    on 7 kind.Active "active" ∷ on 7 kind.Proctype "proctype" ∷ on 7 kind.Name "P1" ∷ on 7 kind.OpenParen "(" ∷
    on 7 kind.CloseParen ")" ∷ on 7 kind.OpenBrace "{" ∷ on 7 kind.Byte "byte" ∷ on 7 kind.Name "k" ∷ on 7 kind.Semicolon ";" ∷
    on 7 kind.Name "t1" ∷ on 7 kind.Assign "=" ∷ on 7 kind.OpenParen "(" ∷ on 7 kind.Name "_nr_pr" ∷ on 7 kind.Plus "+" ∷
    on 7 kind.Name "t1" ∷ on 7 kind.CloseParen ")" ∷ on 7 kind.CloseBrace "}" ∷ on 8 kind.Proctype "proctype" ∷ on 8 kind.Name "Q" ∷
    on 8 kind.OpenParen "(" ∷ on 8 kind.Byte "byte" ∷ on 8 kind.Name "n" ∷ on 8 kind.CloseParen ")" ∷ on 8 kind.OpenBrace "{" ∷
    on 8 kind.Name "n" ∷ on 8 kind.Assign "=" ∷ on 8 kind.Number "255" ∷ on 8 kind.Semicolon ";" ∷ on 8 kind.Name "i0" ∷
    on 8 kind.Assign "=" ∷ on 8 kind.Name "t1" ∷ on 8 kind.CloseBrace "}" ∷ on 9 kind.Init "init" ∷ on 9 kind.OpenBrace "{" ∷
    on 9 kind.Run "run" ∷ on 9 kind.Name "Q" ∷ on 9 kind.OpenParen "(" ∷ on 9 kind.Number "0" ∷ on 9 kind.CloseParen ")" ∷
    on 9 kind.CloseBrace "}" ∷ []

model-ends-604 : Program
unfolding tokens-ends-604
model-ends-604 =
    let at : ℕ → Word = token_at tokens-ends-604 in
    let part : ℕ → ℕ → List Word = tokens_between tokens-ends-604 in
    record {
      globals = (slot (at 11) mtype false 0 1 1 (initial.Value (number 2)) ∷ slot (at 16) int false 1 1 1 (initial.Value (number 1)) ∷
          slot (at 21) bit false 2 1 1 (initial.Value (number 1)) ∷ slot (at 26) chan false 3 1 1 (initial.Channel 1 (byte ∷ [])) ∷ []);
      constants = ((at 7) ∷ (at 5) ∷ (at 3) ∷ []);
      typedefs = [];
      proctypes = (
          process (at 38) 6 1 0 [] (
          plain (part 42 43) (holds expr.Timeout) ∷
          plain (part 44 59) (action.Printf (at 46) ((read (global 1 int)) ∷ (read (global 2 bit)) ∷ (expr.Ask fill.Length (global 3
          chan)) ∷ expr.ProcessCount ∷ [])) ∷ []) (at 59) ∷
          process (at 62) 7 1 0 (slot (at 67) byte false 0 1 1 initial.Zero ∷ []) (
          plain (part 69 75) (action.Receive (global 3 chan) First Remove (want.Equal (read (global 1 int)) ∷ [])) ∷
          plain (part 76 79) (action.Send (global 3 chan) Fifo ((number 1) ∷ [])) ∷ []) (at 79) ∷
          process (at 82) 8 1 0 (slot (at 87) byte false 0 1 1 initial.Zero ∷ []) (
          plain (part 89 96) (assign (global 2 bit) (expr.Binary op.Plus expr.ProcessCount (read (global 2 bit)))) ∷ []) (at 96) ∷
          process (at 98) 9 0 1 (slot (at 101) byte false 0 1 1 initial.Zero ∷ []) (
          plain (part 104 107) (assign (local 0 byte) (number 255)) ∷
          plain (part 108 111) (assign (global 1 int) (read (global 2 bit))) ∷ []) (at 111) ∷
          process (at 112) 10 1 0 [] (
          plain (part 114 119) (action.Run (run 3 ((number 0) ∷ []))) ∷ []) (at 119) ∷ []);
    }

abbrev end-1-of-ends-604 : Printed
end-1-of-ends-604 = shown (codes "1 1 0, 2 left\n") Invalid

abbrev end-2-of-ends-604 : Printed
end-2-of-ends-604 = shown (codes "0 0 0, 2 left\n") Invalid

abbrev end-3-of-ends-604 : Printed
end-3-of-ends-604 = shown (codes "1 0 0, 2 left\n") Invalid

paths-of-ends-604 : paths model-ends-604 9 ≡ Some (end-1-of-ends-604 ∷ end-2-of-ends-604 ∷ end-2-of-ends-604 ∷ end-3-of-ends-604 ∷
    end-1-of-ends-604 ∷ end-3-of-ends-604 ∷ [])
unfolding computes model-ends-604
paths-of-ends-604 = has_paths model-ends-604 9 _ refl

-- int i0 = 1;
-- typedef T { byte f; short g[2] }; T r;
-- chan q0 = [0] of { byte };
-- active proctype Watch() { timeout; printf("%d %d %d %d, %d left\n", i0, r.f, r.g[1], len(q0), _nr_pr) }
-- active proctype P0() { byte k; d_step { r.f = i0; r.g[1] = r.f } }
-- active proctype P1() { byte k; i0++ }
-- proctype Q(byte n) { r.f--; q0?r.g[1] }
-- init { run Q(0) }
tokens-ends-606 : List Word
tokens-ends-606 =
    on 1 kind.Int "int" ∷ on 1 kind.Name "i0" ∷ on 1 kind.Assign "=" ∷ on 1 kind.Number "1" ∷ on 1 kind.Semicolon ";" ∷
    on 2 kind.Typedef "typedef" ∷ on 2 kind.Name "T" ∷ on 2 kind.OpenBrace "{" ∷ on 2 kind.Byte "byte" ∷ on 2 kind.Name "f" ∷
    on 2 kind.Semicolon ";" ∷ on 2 kind.Short "short" ∷ on 2 kind.Name "g" ∷ on 2 kind.OpenBracket "[" ∷ on 2 kind.Number "2" ∷
    on 2 kind.CloseBracket "]" ∷ on 2 kind.CloseBrace "}" ∷ on 2 kind.Semicolon ";" ∷ on 2 kind.Name "T" ∷ on 2 kind.Name "r" ∷
    on 2 kind.Semicolon ";" ∷ on 3 kind.Chan "chan" ∷ on 3 kind.Name "q0" ∷ on 3 kind.Assign "=" ∷ on 3 kind.OpenBracket "[" ∷
    on 3 kind.Number "0" ∷ on 3 kind.CloseBracket "]" ∷ on 3 kind.Of "of" ∷ on 3 kind.OpenBrace "{" ∷ on 3 kind.Byte "byte" ∷
    on 3 kind.CloseBrace "}" ∷ on 3 kind.Semicolon ";" ∷ on 4 kind.Active "active" ∷ on 4 kind.Proctype "proctype" ∷
    on 4 kind.Name "Watch" ∷ on 4 kind.OpenParen "(" ∷ on 4 kind.CloseParen ")" ∷ on 4 kind.OpenBrace "{" ∷
    on 4 kind.Timeout "timeout" ∷ on 4 kind.Semicolon ";" ∷ on 4 kind.Printf "printf" ∷ on 4 kind.OpenParen "(" ∷
    on 4 kind.Quoted "\"%d %d %d %d, %d left\\n\"" ∷ on 4 kind.Comma "," ∷ on 4 kind.Name "i0" ∷ on 4 kind.Comma "," ∷
    on 4 kind.Name "r" ∷ on 4 kind.Dot "." ∷ on 4 kind.Name "f" ∷ on 4 kind.Comma "," ∷ on 4 kind.Name "r" ∷ on 4 kind.Dot "." ∷
    on 4 kind.Name "g" ∷ on 4 kind.OpenBracket "[" ∷ on 4 kind.Number "1" ∷ on 4 kind.CloseBracket "]" ∷ on 4 kind.Comma "," ∷
    on 4 kind.Len "len" ∷ on 4 kind.OpenParen "(" ∷ on 4 kind.Name "q0" ∷ on 4 kind.CloseParen ")" ∷ on 4 kind.Comma "," ∷
    on 4 kind.Name "_nr_pr" ∷ on 4 kind.CloseParen ")" ∷ on 4 kind.CloseBrace "}" ∷ on 5 kind.Active "active" ∷
    on 5 kind.Proctype "proctype" ∷ on 5 kind.Name "P0" ∷ on 5 kind.OpenParen "(" ∷ on 5 kind.CloseParen ")" ∷
    on 5 kind.OpenBrace "{" ∷ on 5 kind.Byte "byte" ∷ on 5 kind.Name "k" ∷ on 5 kind.Semicolon ";" ∷ on 5 kind.DStep "d_step" ∷
    on 5 kind.OpenBrace "{" ∷ on 5 kind.Name "r" ∷ on 5 kind.Dot "." ∷ on 5 kind.Name "f" ∷ on 5 kind.Assign "=" ∷
    on 5 kind.Name "i0" ∷ on 5 kind.Semicolon ";" ∷ on 5 kind.Name "r" ∷ on 5 kind.Dot "." ∷ on 5 kind.Name "g" ∷
    on 5 kind.OpenBracket "[" ∷ on 5 kind.Number "1" ∷ on 5 kind.CloseBracket "]" ∷ on 5 kind.Assign "=" ∷ on 5 kind.Name "r" ∷
    on 5 kind.Dot "." ∷ on 5 kind.Name "f" ∷ on 5 kind.CloseBrace "}" ∷ on 5 kind.CloseBrace "}" ∷ on 6 kind.Active "active" ∷
    on 6 kind.Proctype "proctype" ∷ on 6 kind.Name "P1" ∷ on 6 kind.OpenParen "(" ∷ on 6 kind.CloseParen ")" ∷
    on 6 kind.OpenBrace "{" ∷ on 6 kind.Byte "byte" ∷ on 6 kind.Name "k" ∷ on 6 kind.Semicolon ";" ∷ on 6 kind.Name "i0" ∷
    on 6 kind.Increment "++" ∷ on 6 kind.CloseBrace "}" ∷ on 7 kind.Proctype "proctype" ∷ on 7 kind.Name "Q" ∷
    on 7 kind.OpenParen "(" ∷ on 7 kind.Byte "byte" ∷ on 7 kind.Name "n" ∷ on 7 kind.CloseParen ")" ∷ on 7 kind.OpenBrace "{" ∷
    on 7 kind.Name "r" ∷ on 7 kind.Dot "." ∷ on 7 kind.Name "f" ∷ on 7 kind.Decrement "--" ∷ on 7 kind.Semicolon ";" ∷
    on 7 kind.Name "q0" ∷ on 7 kind.Query "?" ∷ on 7 kind.Name "r" ∷ on 7 kind.Dot "." ∷ on 7 kind.Name "g" ∷
    on 7 kind.OpenBracket "[" ∷ on 7 kind.Number "1" ∷ on 7 kind.CloseBracket "]" ∷ on 7 kind.CloseBrace "}" ∷
    on 8 kind.Init "init" ∷ on 8 kind.OpenBrace "{" ∷ on 8 kind.Run "run" ∷ on 8 kind.Name "Q" ∷ on 8 kind.OpenParen "(" ∷
    on 8 kind.Number "0" ∷ on 8 kind.CloseParen ")" ∷ on 8 kind.CloseBrace "}" ∷ []

model-ends-606 : Program
unfolding tokens-ends-606
model-ends-606 =
    let at : ℕ → Word = token_at tokens-ends-606 in
    let part : ℕ → ℕ → List Word = tokens_between tokens-ends-606 in
    record {
      globals = (slot (at 1) int false 0 1 1 (initial.Value (number 1)) ∷ slot (at 19) (form.Struct 2) false 1 1 3 initial.Zero ∷ slot
          (at 22) chan false 4 1 1 (initial.Channel 0 (byte ∷ [])) ∷ []);
      constants = [];
      typedefs = (fields 2 (slot (at 9) byte false 0 1 1 initial.Zero ∷ slot (at 12) short true 1 2 1 initial.Zero ∷ []) ∷ []);
      proctypes = (
          process (at 34) 5 1 0 [] (
          plain (part 38 39) (holds expr.Timeout) ∷
          plain (part 40 64) (action.Printf (at 42) ((read (global 0 int)) ∷ (read (in_global 1 byte (turn 0 1 3 None ∷ turn 0 1 1 None
          ∷ []))) ∷ (read (in_global 1 short (turn 0 1 3 None ∷ turn 1 2 1 (Some (number 1)) ∷ []))) ∷ (expr.Ask fill.Length (global 2
          chan)) ∷ expr.ProcessCount ∷ [])) ∷ []) (at 64) ∷
          process (at 67) 6 1 0 (slot (at 72) byte false 0 1 1 initial.Zero ∷ []) (
          d_step (part 74 93) (
          plain (part 76 81) (assign (in_global 1 byte (turn 0 1 3 None ∷ turn 0 1 1 None ∷ [])) (read (global 0 int))) ∷
          plain (part 82 92) (assign (in_global 1 short (turn 0 1 3 None ∷ turn 1 2 1 (Some (number 1)) ∷ [])) (read (in_global 1 byte
          (turn 0 1 3 None ∷ turn 0 1 1 None ∷ [])))) ∷ []) ∷ []) (at 93) ∷
          process (at 96) 7 1 0 (slot (at 101) byte false 0 1 1 initial.Zero ∷ []) (
          plain (part 103 105) (action.Increment (global 0 int)) ∷ []) (at 105) ∷
          process (at 107) 8 0 1 (slot (at 110) byte false 0 1 1 initial.Zero ∷ []) (
          plain (part 113 117) (action.Decrement (in_global 1 byte (turn 0 1 3 None ∷ turn 0 1 1 None ∷ []))) ∷
          plain (part 118 126) (action.Receive (global 2 chan) First Remove (want.Into (in_global 1 short (turn 0 1 3 None ∷ turn 1 2 1
          (Some (number 1)) ∷ [])) ∷ [])) ∷ []) (at 126) ∷
          process (at 127) 9 1 0 [] (
          plain (part 129 134) (action.Run (run 3 ((number 0) ∷ []))) ∷ []) (at 134) ∷ []);
    }

abbrev end-1-of-ends-606 : Printed
end-1-of-ends-606 = shown (codes "2 0 1 0, 5 left\n") Invalid

abbrev end-2-of-ends-606 : Printed
end-2-of-ends-606 = shown (codes "2 1 2 0, 5 left\n") Invalid

abbrev end-3-of-ends-606 : Printed
end-3-of-ends-606 = shown (codes "2 2 2 0, 5 left\n") Invalid

abbrev end-4-of-ends-606 : Printed
end-4-of-ends-606 = shown (codes "2 1 1 0, 5 left\n") Invalid

paths-of-ends-606 : paths model-ends-606 6 ≡ Some (end-1-of-ends-606 ∷ end-1-of-ends-606 ∷ end-1-of-ends-606 ∷ end-2-of-ends-606 ∷
    end-2-of-ends-606 ∷ end-3-of-ends-606 ∷ end-1-of-ends-606 ∷ end-1-of-ends-606 ∷ end-2-of-ends-606 ∷ end-3-of-ends-606 ∷
    end-4-of-ends-606 ∷ end-3-of-ends-606 ∷ [])
unfolding computes model-ends-606
paths-of-ends-606 = has_paths model-ends-606 6 _ refl

-- mtype = { red, green, blue }; mtype m = green;
-- int i0 = 1;
-- unsigned u1 : 3 = 1;
-- chan q0 = [2] of { short, byte };
-- active proctype Watch() { timeout; printf("%d %d %d, %d left\n", i0, u1, len(q0), _nr_pr) }
-- active proctype P0() { byte k; { i0-- } unless { (nempty(q0)) -> u1 = 1 } }
-- active proctype P1() { byte k; if :: i0-- :: i0 = 2; q0?1, 0 :: else -> u1 = 1 fi; d_step { m = (~(255 / 3)); u1 = i0 } }
tokens-ends-621 : List Word
tokens-ends-621 =
    on 1 kind.Mtype "mtype" ∷ on 1 kind.Assign "=" ∷ on 1 kind.OpenBrace "{" ∷ on 1 kind.Name "red" ∷ on 1 kind.Comma "," ∷
    on 1 kind.Name "green" ∷ on 1 kind.Comma "," ∷ on 1 kind.Name "blue" ∷ on 1 kind.CloseBrace "}" ∷ on 1 kind.Semicolon ";" ∷
    on 1 kind.Mtype "mtype" ∷ on 1 kind.Name "m" ∷ on 1 kind.Assign "=" ∷ on 1 kind.Name "green" ∷ on 1 kind.Semicolon ";" ∷
    on 2 kind.Int "int" ∷ on 2 kind.Name "i0" ∷ on 2 kind.Assign "=" ∷ on 2 kind.Number "1" ∷ on 2 kind.Semicolon ";" ∷
    on 3 kind.Unsigned "unsigned" ∷ on 3 kind.Name "u1" ∷ on 3 kind.Colon ":" ∷ on 3 kind.Number "3" ∷ on 3 kind.Assign "=" ∷
    on 3 kind.Number "1" ∷ on 3 kind.Semicolon ";" ∷ on 4 kind.Chan "chan" ∷ on 4 kind.Name "q0" ∷ on 4 kind.Assign "=" ∷
    on 4 kind.OpenBracket "[" ∷ on 4 kind.Number "2" ∷ on 4 kind.CloseBracket "]" ∷ on 4 kind.Of "of" ∷ on 4 kind.OpenBrace "{" ∷
    on 4 kind.Short "short" ∷ on 4 kind.Comma "," ∷ on 4 kind.Byte "byte" ∷ on 4 kind.CloseBrace "}" ∷ on 4 kind.Semicolon ";" ∷
    on 5 kind.Active "active" ∷ on 5 kind.Proctype "proctype" ∷ on 5 kind.Name "Watch" ∷ on 5 kind.OpenParen "(" ∷
    on 5 kind.CloseParen ")" ∷ on 5 kind.OpenBrace "{" ∷ on 5 kind.Timeout "timeout" ∷ on 5 kind.Semicolon ";" ∷
    on 5 kind.Printf "printf" ∷ on 5 kind.OpenParen "(" ∷ on 5 kind.Quoted "\"%d %d %d, %d left\\n\"" ∷ on 5 kind.Comma "," ∷
    on 5 kind.Name "i0" ∷ on 5 kind.Comma "," ∷ on 5 kind.Name "u1" ∷ on 5 kind.Comma "," ∷ on 5 kind.Len "len" ∷
    on 5 kind.OpenParen "(" ∷ on 5 kind.Name "q0" ∷ on 5 kind.CloseParen ")" ∷ on 5 kind.Comma "," ∷ on 5 kind.Name "_nr_pr" ∷
    on 5 kind.CloseParen ")" ∷ on 5 kind.CloseBrace "}" ∷ on 6 kind.Active "active" ∷ on 6 kind.Proctype "proctype" ∷
    on 6 kind.Name "P0" ∷ on 6 kind.OpenParen "(" ∷ on 6 kind.CloseParen ")" ∷ on 6 kind.OpenBrace "{" ∷ on 6 kind.Byte "byte" ∷
    on 6 kind.Name "k" ∷ on 6 kind.Semicolon ";" ∷ on 6 kind.OpenBrace "{" ∷ on 6 kind.Name "i0" ∷ on 6 kind.Decrement "--" ∷
    on 6 kind.CloseBrace "}" ∷ on 6 kind.Unless "unless" ∷ on 6 kind.OpenBrace "{" ∷ on 6 kind.OpenParen "(" ∷
    on 6 kind.Nempty "nempty" ∷ on 6 kind.OpenParen "(" ∷ on 6 kind.Name "q0" ∷ on 6 kind.CloseParen ")" ∷ on 6 kind.CloseParen ")" ∷
    on 6 kind.Arrow "->" ∷ on 6 kind.Name "u1" ∷ on 6 kind.Assign "=" ∷ on 6 kind.Number "1" ∷ on 6 kind.CloseBrace "}" ∷
    on 6 kind.CloseBrace "}" ∷ on 7 kind.Active "active" ∷ on 7 kind.Proctype "proctype" ∷ on 7 kind.Name "P1" ∷
    on 7 kind.OpenParen "(" ∷ on 7 kind.CloseParen ")" ∷ on 7 kind.OpenBrace "{" ∷ on 7 kind.Byte "byte" ∷ on 7 kind.Name "k" ∷
    on 7 kind.Semicolon ";" ∷ on 7 kind.If "if" ∷ on 7 kind.DoubleColon "::" ∷ on 7 kind.Name "i0" ∷ on 7 kind.Decrement "--" ∷
    on 7 kind.DoubleColon "::" ∷ on 7 kind.Name "i0" ∷ on 7 kind.Assign "=" ∷ on 7 kind.Number "2" ∷ on 7 kind.Semicolon ";" ∷
    on 7 kind.Name "q0" ∷ on 7 kind.Query "?" ∷ on 7 kind.Number "1" ∷ on 7 kind.Comma "," ∷ on 7 kind.Number "0" ∷
    on 7 kind.DoubleColon "::" ∷ on 7 kind.Else "else" ∷ on 7 kind.Arrow "->" ∷ on 7 kind.Name "u1" ∷ on 7 kind.Assign "=" ∷
    on 7 kind.Number "1" ∷ on 7 kind.Fi "fi" ∷ on 7 kind.Semicolon ";" ∷ on 7 kind.DStep "d_step" ∷ on 7 kind.OpenBrace "{" ∷
    on 7 kind.Name "m" ∷ on 7 kind.Assign "=" ∷ on 7 kind.OpenParen "(" ∷ on 7 kind.Tilde "~" ∷ on 7 kind.OpenParen "(" ∷
    on 7 kind.Number "255" ∷ on 7 kind.Slash "/" ∷ on 7 kind.Number "3" ∷ on 7 kind.CloseParen ")" ∷ on 7 kind.CloseParen ")" ∷
    on 7 kind.Semicolon ";" ∷ on 7 kind.Name "u1" ∷ on 7 kind.Assign "=" ∷ on 7 kind.Name "i0" ∷ on 7 kind.CloseBrace "}" ∷
    on 7 kind.CloseBrace "}" ∷ []

model-ends-621 : Program
unfolding tokens-ends-621
model-ends-621 =
    let at : ℕ → Word = token_at tokens-ends-621 in
    let part : ℕ → ℕ → List Word = tokens_between tokens-ends-621 in
    record {
      globals = (slot (at 11) mtype false 0 1 1 (initial.Value (number 2)) ∷ slot (at 16) int false 1 1 1 (initial.Value (number 1)) ∷
          slot (at 21) (form.Unsigned 3) false 2 1 1 (initial.Value (number 1)) ∷ slot (at 28) chan false 3 1 1 (initial.Channel 2
          (short ∷ byte ∷ [])) ∷ []);
      constants = ((at 7) ∷ (at 5) ∷ (at 3) ∷ []);
      typedefs = [];
      proctypes = (
          process (at 42) 6 1 0 [] (
          plain (part 46 47) (holds expr.Timeout) ∷
          plain (part 48 63) (action.Printf (at 50) ((read (global 1 int)) ∷ (read (global 2 (form.Unsigned 3))) ∷ (expr.Ask fill.Length
          (global 3 chan)) ∷ expr.ProcessCount ∷ [])) ∷ []) (at 63) ∷
          process (at 66) 7 1 0 (slot (at 71) byte false 0 1 1 initial.Zero ∷ []) (
          unless (part 73 90) (
          block (part 73 77) (
          plain (part 74 76) (action.Decrement (global 1 int)) ∷ []) ∷ []) (
          block (part 78 90) (
          plain (part 79 85) (holds (expr.Ask fill.IsNotEmpty (global 3 chan))) ∷
          plain (part 86 89) (assign (global 2 (form.Unsigned 3)) (number 1)) ∷ []) ∷ []) ∷ []) (at 90) ∷
          process (at 93) 8 1 0 (slot (at 98) byte false 0 1 1 initial.Zero ∷ []) (
          if_fi (part 100 121) (
          (plain (part 102 104) (action.Decrement (global 1 int)) ∷ []) ∷
          (plain (part 105 108) (assign (global 1 int) (number 2)) ∷
          plain (part 109 114) (action.Receive (global 3 chan) First Remove (want.Exactly (pos 1) ∷ want.Exactly (pos 0) ∷ [])) ∷ []) ∷
          (plain (part 115 116) action.Else ∷
          plain (part 117 120) (assign (global 2 (form.Unsigned 3)) (number 1)) ∷ []) ∷ []) ∷
          d_step (part 122 139) (
          plain (part 124 134) (assign (global 0 mtype) (expr.Unary before.Complement (expr.Binary op.Divide (number 255) (number 3)))) ∷
          plain (part 135 138) (assign (global 2 (form.Unsigned 3)) (read (global 1 int))) ∷ []) ∷ []) (at 139) ∷ []);
    }

abbrev end-1-of-ends-621 : Printed
end-1-of-ends-621 = shown (codes "-1 7 0, 1 left\n") Valid

abbrev end-2-of-ends-621 : Printed
end-2-of-ends-621 = shown (codes "2 1 0, 3 left\n") Invalid

abbrev end-3-of-ends-621 : Printed
end-3-of-ends-621 = shown (codes "-1 0 0, 1 left\n") Valid

abbrev end-4-of-ends-621 : Printed
end-4-of-ends-621 = shown (codes "1 1 0, 3 left\n") Invalid

paths-of-ends-621 : paths model-ends-621 8 ≡ Some (end-1-of-ends-621 ∷ end-2-of-ends-621 ∷ end-1-of-ends-621 ∷ end-3-of-ends-621 ∷
    end-3-of-ends-621 ∷ end-4-of-ends-621 ∷ [])
unfolding computes model-ends-621
paths-of-ends-621 = has_paths model-ends-621 8 _ refl

-- short s0 = 1;
-- chan q0 = [0] of { int };
-- active proctype Watch() { timeout; printf("%d %d, %d left\n", s0, len(q0), _nr_pr) }
-- active proctype P0() { byte k; atomic { s0 = 300 }; atomic { s0 = (s0 > (2 >> 1) -> 1 : (1 << 2)); s0 = ((300 | 1) << 1) } }
-- active proctype P1() { byte k; s0 = 300 }
-- proctype Q(byte n) { q0!!(2 <= 1 -> 2 : 300); n++ }
-- init { run Q(3) }
tokens-ends-662 : List Word
tokens-ends-662 =
    on 1 kind.Short "short" ∷ on 1 kind.Name "s0" ∷ on 1 kind.Assign "=" ∷ on 1 kind.Number "1" ∷ on 1 kind.Semicolon ";" ∷
    on 2 kind.Chan "chan" ∷ on 2 kind.Name "q0" ∷ on 2 kind.Assign "=" ∷ on 2 kind.OpenBracket "[" ∷ on 2 kind.Number "0" ∷
    on 2 kind.CloseBracket "]" ∷ on 2 kind.Of "of" ∷ on 2 kind.OpenBrace "{" ∷ on 2 kind.Int "int" ∷ on 2 kind.CloseBrace "}" ∷
    on 2 kind.Semicolon ";" ∷ on 3 kind.Active "active" ∷ on 3 kind.Proctype "proctype" ∷ on 3 kind.Name "Watch" ∷
    on 3 kind.OpenParen "(" ∷ on 3 kind.CloseParen ")" ∷ on 3 kind.OpenBrace "{" ∷ on 3 kind.Timeout "timeout" ∷
    on 3 kind.Semicolon ";" ∷ on 3 kind.Printf "printf" ∷ on 3 kind.OpenParen "(" ∷ on 3 kind.Quoted "\"%d %d, %d left\\n\"" ∷
    on 3 kind.Comma "," ∷ on 3 kind.Name "s0" ∷ on 3 kind.Comma "," ∷ on 3 kind.Len "len" ∷ on 3 kind.OpenParen "(" ∷
    on 3 kind.Name "q0" ∷ on 3 kind.CloseParen ")" ∷ on 3 kind.Comma "," ∷ on 3 kind.Name "_nr_pr" ∷ on 3 kind.CloseParen ")" ∷
    on 3 kind.CloseBrace "}" ∷ on 4 kind.Active "active" ∷ on 4 kind.Proctype "proctype" ∷ on 4 kind.Name "P0" ∷
    on 4 kind.OpenParen "(" ∷ on 4 kind.CloseParen ")" ∷ on 4 kind.OpenBrace "{" ∷ on 4 kind.Byte "byte" ∷ on 4 kind.Name "k" ∷
    on 4 kind.Semicolon ";" ∷ on 4 kind.Atomic "atomic" ∷ on 4 kind.OpenBrace "{" ∷ on 4 kind.Name "s0" ∷ on 4 kind.Assign "=" ∷
    on 4 kind.Number "300" ∷ on 4 kind.CloseBrace "}" ∷ on 4 kind.Semicolon ";" ∷ on 4 kind.Atomic "atomic" ∷
    on 4 kind.OpenBrace "{" ∷ on 4 kind.Name "s0" ∷ on 4 kind.Assign "=" ∷ on 4 kind.OpenParen "(" ∷ on 4 kind.Name "s0" ∷
    on 4 kind.Greater ">" ∷ on 4 kind.OpenParen "(" ∷ on 4 kind.Number "2" ∷ on 4 kind.ShiftRight ">>" ∷ on 4 kind.Number "1" ∷
    on 4 kind.CloseParen ")" ∷ on 4 kind.Arrow "->" ∷ on 4 kind.Number "1" ∷ on 4 kind.Colon ":" ∷ on 4 kind.OpenParen "(" ∷
    on 4 kind.Number "1" ∷ on 4 kind.ShiftLeft "<<" ∷ on 4 kind.Number "2" ∷ on 4 kind.CloseParen ")" ∷ on 4 kind.CloseParen ")" ∷
    on 4 kind.Semicolon ";" ∷ on 4 kind.Name "s0" ∷ on 4 kind.Assign "=" ∷ on 4 kind.OpenParen "(" ∷ on 4 kind.OpenParen "(" ∷
    on 4 kind.Number "300" ∷ on 4 kind.Bar "|" ∷ on 4 kind.Number "1" ∷ on 4 kind.CloseParen ")" ∷ on 4 kind.ShiftLeft "<<" ∷
    on 4 kind.Number "1" ∷ on 4 kind.CloseParen ")" ∷ on 4 kind.CloseBrace "}" ∷ on 4 kind.CloseBrace "}" ∷
    on 5 kind.Active "active" ∷ on 5 kind.Proctype "proctype" ∷ on 5 kind.Name "P1" ∷ on 5 kind.OpenParen "(" ∷
    on 5 kind.CloseParen ")" ∷ on 5 kind.OpenBrace "{" ∷ on 5 kind.Byte "byte" ∷ on 5 kind.Name "k" ∷ on 5 kind.Semicolon ";" ∷
    on 5 kind.Name "s0" ∷ on 5 kind.Assign "=" ∷ on 5 kind.Number "300" ∷ on 5 kind.CloseBrace "}" ∷ on 6 kind.Proctype "proctype" ∷
    on 6 kind.Name "Q" ∷ on 6 kind.OpenParen "(" ∷ on 6 kind.Byte "byte" ∷ on 6 kind.Name "n" ∷ on 6 kind.CloseParen ")" ∷
    on 6 kind.OpenBrace "{" ∷ on 6 kind.Name "q0" ∷ on 6 kind.BangBang "!!" ∷ on 6 kind.OpenParen "(" ∷ on 6 kind.Number "2" ∷
    on 6 kind.AtMost "<=" ∷ on 6 kind.Number "1" ∷ on 6 kind.Arrow "->" ∷ on 6 kind.Number "2" ∷ on 6 kind.Colon ":" ∷
    on 6 kind.Number "300" ∷ on 6 kind.CloseParen ")" ∷ on 6 kind.Semicolon ";" ∷ on 6 kind.Name "n" ∷ on 6 kind.Increment "++" ∷
    on 6 kind.CloseBrace "}" ∷ on 7 kind.Init "init" ∷ on 7 kind.OpenBrace "{" ∷ on 7 kind.Run "run" ∷ on 7 kind.Name "Q" ∷
    on 7 kind.OpenParen "(" ∷ on 7 kind.Number "3" ∷ on 7 kind.CloseParen ")" ∷ on 7 kind.CloseBrace "}" ∷ []

model-ends-662 : Program
unfolding tokens-ends-662
model-ends-662 =
    let at : ℕ → Word = token_at tokens-ends-662 in
    let part : ℕ → ℕ → List Word = tokens_between tokens-ends-662 in
    record {
      globals = (slot (at 1) short false 0 1 1 (initial.Value (number 1)) ∷ slot (at 6) chan false 1 1 1 (initial.Channel 0 (int ∷ [])) ∷ []);
      constants = [];
      typedefs = [];
      proctypes = (
          process (at 18) 3 1 0 [] (
          plain (part 22 23) (holds expr.Timeout) ∷
          plain (part 24 37) (action.Printf (at 26) ((read (global 0 short)) ∷ (expr.Ask fill.Length (global 1 chan)) ∷
          expr.ProcessCount ∷ [])) ∷ []) (at 37) ∷
          process (at 40) 4 1 0 (slot (at 45) byte false 0 1 1 initial.Zero ∷ []) (
          atomic (part 47 53) (
          plain (part 49 52) (assign (global 0 short) (number 300)) ∷ []) ∷
          atomic (part 54 88) (
          plain (part 56 75) (assign (global 0 short) (expr.Choice (expr.Binary op.Above (read (global 0 short)) (expr.Binary
          op.ShiftRight (number 2) (number 1))) (number 1) (expr.Binary op.ShiftLeft (number 1) (number 2)))) ∷
          plain (part 76 87) (assign (global 0 short) (expr.Binary op.ShiftLeft (expr.Binary op.BitOr (number 300) (number 1)) (number
          1))) ∷ []) ∷ []) (at 88) ∷
          process (at 91) 5 1 0 (slot (at 96) byte false 0 1 1 initial.Zero ∷ []) (
          plain (part 98 101) (assign (global 0 short) (number 300)) ∷ []) (at 101) ∷
          process (at 103) 6 0 1 (slot (at 106) byte false 0 1 1 initial.Zero ∷ []) (
          plain (part 109 120) (action.Send (global 1 chan) Sorted ((expr.Choice (expr.Binary op.AtMost (number 2) (number 1)) (number
          2) (number 300)) ∷ [])) ∷
          plain (part 121 123) (action.Increment (local 0 byte)) ∷ []) (at 123) ∷
          process (at 124) 7 1 0 [] (
          plain (part 126 131) (action.Run (run 3 ((number 3) ∷ []))) ∷ []) (at 131) ∷ []);
    }

abbrev end-1-of-ends-662 : Printed
end-1-of-ends-662 = shown (codes "300 0, 5 left\n") Invalid

abbrev end-2-of-ends-662 : Printed
end-2-of-ends-662 = shown (codes "602 0, 5 left\n") Invalid

paths-of-ends-662 : paths model-ends-662 7 ≡ Some (end-1-of-ends-662 ∷ end-1-of-ends-662 ∷ end-2-of-ends-662 ∷ end-2-of-ends-662 ∷
    end-1-of-ends-662 ∷ end-2-of-ends-662 ∷ end-2-of-ends-662 ∷ end-2-of-ends-662 ∷ end-2-of-ends-662 ∷ end-1-of-ends-662 ∷
    end-2-of-ends-662 ∷ end-2-of-ends-662 ∷ [])
unfolding computes model-ends-662
paths-of-ends-662 = has_paths model-ends-662 7 _ refl

-- mtype = { red, green, blue }; mtype m = green;
-- unsigned u0 : 3 = 1;
-- int i1 = 1;
-- typedef T { byte f; short g[2] }; T r;
-- chan q0 = [0] of { short, byte };
-- active proctype Watch() { timeout; printf("%d %d %d %d %d, %d left\n", u0, i1, r.f, r.g[1], len(q0), _nr_pr) }
-- active proctype P0() { byte k; do :: q0!1, 2; m = 1 :: r.f >= 3 -> r.f = 2; m = 2:: break od }
-- active proctype P1() { byte k; if :: r.g[1] = _nr_pr :: r.f <= 7 -> q0??_, _; q0!!2, 7 :: else -> r.f++ fi; q0!3, 2 }
tokens-ends-684 : List Word
tokens-ends-684 =
    on 1 kind.Mtype "mtype" ∷ on 1 kind.Assign "=" ∷ on 1 kind.OpenBrace "{" ∷ on 1 kind.Name "red" ∷ on 1 kind.Comma "," ∷
    on 1 kind.Name "green" ∷ on 1 kind.Comma "," ∷ on 1 kind.Name "blue" ∷ on 1 kind.CloseBrace "}" ∷ on 1 kind.Semicolon ";" ∷
    on 1 kind.Mtype "mtype" ∷ on 1 kind.Name "m" ∷ on 1 kind.Assign "=" ∷ on 1 kind.Name "green" ∷ on 1 kind.Semicolon ";" ∷
    on 2 kind.Unsigned "unsigned" ∷ on 2 kind.Name "u0" ∷ on 2 kind.Colon ":" ∷ on 2 kind.Number "3" ∷ on 2 kind.Assign "=" ∷
    on 2 kind.Number "1" ∷ on 2 kind.Semicolon ";" ∷ on 3 kind.Int "int" ∷ on 3 kind.Name "i1" ∷ on 3 kind.Assign "=" ∷
    on 3 kind.Number "1" ∷ on 3 kind.Semicolon ";" ∷ on 4 kind.Typedef "typedef" ∷ on 4 kind.Name "T" ∷ on 4 kind.OpenBrace "{" ∷
    on 4 kind.Byte "byte" ∷ on 4 kind.Name "f" ∷ on 4 kind.Semicolon ";" ∷ on 4 kind.Short "short" ∷ on 4 kind.Name "g" ∷
    on 4 kind.OpenBracket "[" ∷ on 4 kind.Number "2" ∷ on 4 kind.CloseBracket "]" ∷ on 4 kind.CloseBrace "}" ∷
    on 4 kind.Semicolon ";" ∷ on 4 kind.Name "T" ∷ on 4 kind.Name "r" ∷ on 4 kind.Semicolon ";" ∷ on 5 kind.Chan "chan" ∷
    on 5 kind.Name "q0" ∷ on 5 kind.Assign "=" ∷ on 5 kind.OpenBracket "[" ∷ on 5 kind.Number "0" ∷ on 5 kind.CloseBracket "]" ∷
    on 5 kind.Of "of" ∷ on 5 kind.OpenBrace "{" ∷ on 5 kind.Short "short" ∷ on 5 kind.Comma "," ∷ on 5 kind.Byte "byte" ∷
    on 5 kind.CloseBrace "}" ∷ on 5 kind.Semicolon ";" ∷ on 6 kind.Active "active" ∷ on 6 kind.Proctype "proctype" ∷
    on 6 kind.Name "Watch" ∷ on 6 kind.OpenParen "(" ∷ on 6 kind.CloseParen ")" ∷ on 6 kind.OpenBrace "{" ∷
    on 6 kind.Timeout "timeout" ∷ on 6 kind.Semicolon ";" ∷ on 6 kind.Printf "printf" ∷ on 6 kind.OpenParen "(" ∷
    on 6 kind.Quoted "\"%d %d %d %d %d, %d left\\n\"" ∷ on 6 kind.Comma "," ∷ on 6 kind.Name "u0" ∷ on 6 kind.Comma "," ∷
    on 6 kind.Name "i1" ∷ on 6 kind.Comma "," ∷ on 6 kind.Name "r" ∷ on 6 kind.Dot "." ∷ on 6 kind.Name "f" ∷ on 6 kind.Comma "," ∷
    on 6 kind.Name "r" ∷ on 6 kind.Dot "." ∷ on 6 kind.Name "g" ∷ on 6 kind.OpenBracket "[" ∷ on 6 kind.Number "1" ∷
    on 6 kind.CloseBracket "]" ∷ on 6 kind.Comma "," ∷ on 6 kind.Len "len" ∷ on 6 kind.OpenParen "(" ∷ on 6 kind.Name "q0" ∷
    on 6 kind.CloseParen ")" ∷ on 6 kind.Comma "," ∷ on 6 kind.Name "_nr_pr" ∷ on 6 kind.CloseParen ")" ∷ on 6 kind.CloseBrace "}" ∷
    on 7 kind.Active "active" ∷ on 7 kind.Proctype "proctype" ∷ on 7 kind.Name "P0" ∷ on 7 kind.OpenParen "(" ∷
    on 7 kind.CloseParen ")" ∷ on 7 kind.OpenBrace "{" ∷ on 7 kind.Byte "byte" ∷ on 7 kind.Name "k" ∷ on 7 kind.Semicolon ";" ∷
    on 7 kind.Do "do" ∷ on 7 kind.DoubleColon "::" ∷ on 7 kind.Name "q0" ∷ on 7 kind.Bang "!" ∷ on 7 kind.Number "1" ∷
    on 7 kind.Comma "," ∷ on 7 kind.Number "2" ∷ on 7 kind.Semicolon ";" ∷ on 7 kind.Name "m" ∷ on 7 kind.Assign "=" ∷
    on 7 kind.Number "1" ∷ on 7 kind.DoubleColon "::" ∷ on 7 kind.Name "r" ∷ on 7 kind.Dot "." ∷ on 7 kind.Name "f" ∷
    on 7 kind.AtLeast ">=" ∷ on 7 kind.Number "3" ∷ on 7 kind.Arrow "->" ∷ on 7 kind.Name "r" ∷ on 7 kind.Dot "." ∷
    on 7 kind.Name "f" ∷ on 7 kind.Assign "=" ∷ on 7 kind.Number "2" ∷ on 7 kind.Semicolon ";" ∷ on 7 kind.Name "m" ∷
    on 7 kind.Assign "=" ∷ on 7 kind.Number "2" ∷ on 7 kind.DoubleColon "::" ∷ on 7 kind.Break "break" ∷ on 7 kind.Od "od" ∷
    on 7 kind.CloseBrace "}" ∷ on 8 kind.Active "active" ∷ on 8 kind.Proctype "proctype" ∷ on 8 kind.Name "P1" ∷
    on 8 kind.OpenParen "(" ∷ on 8 kind.CloseParen ")" ∷ on 8 kind.OpenBrace "{" ∷ on 8 kind.Byte "byte" ∷ on 8 kind.Name "k" ∷
    on 8 kind.Semicolon ";" ∷ on 8 kind.If "if" ∷ on 8 kind.DoubleColon "::" ∷ on 8 kind.Name "r" ∷ on 8 kind.Dot "." ∷
    on 8 kind.Name "g" ∷ on 8 kind.OpenBracket "[" ∷ on 8 kind.Number "1" ∷ on 8 kind.CloseBracket "]" ∷ on 8 kind.Assign "=" ∷
    on 8 kind.Name "_nr_pr" ∷ on 8 kind.DoubleColon "::" ∷ on 8 kind.Name "r" ∷ on 8 kind.Dot "." ∷ on 8 kind.Name "f" ∷
    on 8 kind.AtMost "<=" ∷ on 8 kind.Number "7" ∷ on 8 kind.Arrow "->" ∷ on 8 kind.Name "q0" ∷ on 8 kind.QueryQuery "??" ∷
    on 8 kind.Name "_" ∷ on 8 kind.Comma "," ∷ on 8 kind.Name "_" ∷ on 8 kind.Semicolon ";" ∷ on 8 kind.Name "q0" ∷
    on 8 kind.BangBang "!!" ∷ on 8 kind.Number "2" ∷ on 8 kind.Comma "," ∷ on 8 kind.Number "7" ∷ on 8 kind.DoubleColon "::" ∷
    on 8 kind.Else "else" ∷ on 8 kind.Arrow "->" ∷ on 8 kind.Name "r" ∷ on 8 kind.Dot "." ∷ on 8 kind.Name "f" ∷
    on 8 kind.Increment "++" ∷ on 8 kind.Fi "fi" ∷ on 8 kind.Semicolon ";" ∷ on 8 kind.Name "q0" ∷ on 8 kind.Bang "!" ∷
    on 8 kind.Number "3" ∷ on 8 kind.Comma "," ∷ on 8 kind.Number "2" ∷ on 8 kind.CloseBrace "}" ∷ []

model-ends-684 : Program
unfolding tokens-ends-684
model-ends-684 =
    let at : ℕ → Word = token_at tokens-ends-684 in
    let part : ℕ → ℕ → List Word = tokens_between tokens-ends-684 in
    record {
      globals = (slot (at 11) mtype false 0 1 1 (initial.Value (number 2)) ∷ slot (at 16) (form.Unsigned 3) false 1 1 1 (initial.Value
          (number 1)) ∷ slot (at 23) int false 2 1 1 (initial.Value (number 1)) ∷ slot (at 41) (form.Struct 5) false 3 1 3 initial.Zero
          ∷ slot (at 44) chan false 6 1 1 (initial.Channel 0 (short ∷ byte ∷ [])) ∷ []);
      constants = ((at 7) ∷ (at 5) ∷ (at 3) ∷ []);
      typedefs = (fields 5 (slot (at 31) byte false 0 1 1 initial.Zero ∷ slot (at 34) short true 1 2 1 initial.Zero ∷ []) ∷ []);
      proctypes = (
          process (at 58) 8 1 0 [] (
          plain (part 62 63) (holds expr.Timeout) ∷
          plain (part 64 90) (action.Printf (at 66) ((read (global 1 (form.Unsigned 3))) ∷ (read (global 2 int)) ∷ (read (in_global 3
          byte (turn 0 1 3 None ∷ turn 0 1 1 None ∷ []))) ∷ (read (in_global 3 short (turn 0 1 3 None ∷ turn 1 2 1 (Some (number 1)) ∷
          []))) ∷ (expr.Ask fill.Length (global 4 chan)) ∷ expr.ProcessCount ∷ [])) ∷ []) (at 90) ∷
          process (at 93) 9 1 0 (slot (at 98) byte false 0 1 1 initial.Zero ∷ []) (
          do_od (part 100 130) (
          (plain (part 102 107) (action.Send (global 4 chan) Fifo ((number 1) ∷ (number 2) ∷ [])) ∷
          plain (part 108 111) (assign (global 0 mtype) (number 1)) ∷ []) ∷
          (plain (part 112 117) (holds (expr.Binary op.AtLeast (read (in_global 3 byte (turn 0 1 3 None ∷ turn 0 1 1 None ∷ []))) (number 3))) ∷
          plain (part 118 123) (assign (in_global 3 byte (turn 0 1 3 None ∷ turn 0 1 1 None ∷ [])) (number 2)) ∷
          plain (part 124 127) (assign (global 0 mtype) (number 2)) ∷ []) ∷
          (stmt [] Break (part 128 129) ∷ []) ∷ []) ∷ []) (at 130) ∷
          process (at 133) 10 1 0 (slot (at 138) byte false 0 1 1 initial.Zero ∷ []) (
          if_fi (part 140 176) (
          (plain (part 142 150) (assign (in_global 3 short (turn 0 1 3 None ∷ turn 1 2 1 (Some (number 1)) ∷ [])) expr.ProcessCount) ∷ []) ∷
          (plain (part 151 156) (holds (expr.Binary op.AtMost (read (in_global 3 byte (turn 0 1 3 None ∷ turn 0 1 1 None ∷ []))) (number 7))) ∷
          plain (part 157 162) (action.Receive (global 4 chan) Matching Remove (want.Anything ∷ want.Anything ∷ [])) ∷
          plain (part 163 168) (action.Send (global 4 chan) Sorted ((number 2) ∷ (number 7) ∷ [])) ∷ []) ∷
          (plain (part 169 170) action.Else ∷
          plain (part 171 175) (action.Increment (in_global 3 byte (turn 0 1 3 None ∷ turn 0 1 1 None ∷ []))) ∷ []) ∷ []) ∷
          plain (part 177 182) (action.Send (global 4 chan) Fifo ((number 3) ∷ (number 2) ∷ [])) ∷ []) (at 182) ∷ []);
    }

abbrev end-1-of-ends-684 : Printed
end-1-of-ends-684 = shown (codes "1 1 0 3 0, 3 left\n") Invalid

abbrev end-2-of-ends-684 : Printed
end-2-of-ends-684 = shown (codes "1 1 0 0 0, 3 left\n") Invalid

paths-of-ends-684 : paths model-ends-684 6 ≡ Some (end-1-of-ends-684 ∷ end-2-of-ends-684 ∷ end-1-of-ends-684 ∷ end-2-of-ends-684 ∷
    end-2-of-ends-684 ∷ [])
unfolding computes model-ends-684
paths-of-ends-684 = has_paths model-ends-684 6 _ refl

-- byte b0 = 1;
-- chan q0 = [1] of { byte };
-- active proctype Watch() { timeout; printf("%d %d, %d left\n", b0, len(q0), _nr_pr) }
-- active proctype P0() { byte k; if :: b0 = b0 :: q0!b0; b0++ fi }
-- active proctype P1() { byte k; b0-- }
tokens-ends-691 : List Word
tokens-ends-691 =
    on 1 kind.Byte "byte" ∷ on 1 kind.Name "b0" ∷ on 1 kind.Assign "=" ∷ on 1 kind.Number "1" ∷ on 1 kind.Semicolon ";" ∷
    on 2 kind.Chan "chan" ∷ on 2 kind.Name "q0" ∷ on 2 kind.Assign "=" ∷ on 2 kind.OpenBracket "[" ∷ on 2 kind.Number "1" ∷
    on 2 kind.CloseBracket "]" ∷ on 2 kind.Of "of" ∷ on 2 kind.OpenBrace "{" ∷ on 2 kind.Byte "byte" ∷ on 2 kind.CloseBrace "}" ∷
    on 2 kind.Semicolon ";" ∷ on 3 kind.Active "active" ∷ on 3 kind.Proctype "proctype" ∷ on 3 kind.Name "Watch" ∷
    on 3 kind.OpenParen "(" ∷ on 3 kind.CloseParen ")" ∷ on 3 kind.OpenBrace "{" ∷ on 3 kind.Timeout "timeout" ∷
    on 3 kind.Semicolon ";" ∷ on 3 kind.Printf "printf" ∷ on 3 kind.OpenParen "(" ∷ on 3 kind.Quoted "\"%d %d, %d left\\n\"" ∷
    on 3 kind.Comma "," ∷ on 3 kind.Name "b0" ∷ on 3 kind.Comma "," ∷ on 3 kind.Len "len" ∷ on 3 kind.OpenParen "(" ∷
    on 3 kind.Name "q0" ∷ on 3 kind.CloseParen ")" ∷ on 3 kind.Comma "," ∷ on 3 kind.Name "_nr_pr" ∷ on 3 kind.CloseParen ")" ∷
    on 3 kind.CloseBrace "}" ∷ on 4 kind.Active "active" ∷ on 4 kind.Proctype "proctype" ∷ on 4 kind.Name "P0" ∷
    on 4 kind.OpenParen "(" ∷ on 4 kind.CloseParen ")" ∷ on 4 kind.OpenBrace "{" ∷ on 4 kind.Byte "byte" ∷ on 4 kind.Name "k" ∷
    on 4 kind.Semicolon ";" ∷ on 4 kind.If "if" ∷ on 4 kind.DoubleColon "::" ∷ on 4 kind.Name "b0" ∷ on 4 kind.Assign "=" ∷
    on 4 kind.Name "b0" ∷ on 4 kind.DoubleColon "::" ∷ on 4 kind.Name "q0" ∷ on 4 kind.Bang "!" ∷ on 4 kind.Name "b0" ∷
    on 4 kind.Semicolon ";" ∷ on 4 kind.Name "b0" ∷ on 4 kind.Increment "++" ∷ on 4 kind.Fi "fi" ∷ on 4 kind.CloseBrace "}" ∷
    on 5 kind.Active "active" ∷ on 5 kind.Proctype "proctype" ∷ on 5 kind.Name "P1" ∷ on 5 kind.OpenParen "(" ∷
    on 5 kind.CloseParen ")" ∷ on 5 kind.OpenBrace "{" ∷ on 5 kind.Byte "byte" ∷ on 5 kind.Name "k" ∷ on 5 kind.Semicolon ";" ∷
    on 5 kind.Name "b0" ∷ on 5 kind.Decrement "--" ∷ on 5 kind.CloseBrace "}" ∷ []

model-ends-691 : Program
unfolding tokens-ends-691
model-ends-691 =
    let at : ℕ → Word = token_at tokens-ends-691 in
    let part : ℕ → ℕ → List Word = tokens_between tokens-ends-691 in
    record {
      globals = (slot (at 1) byte false 0 1 1 (initial.Value (number 1)) ∷ slot (at 6) chan false 1 1 1 (initial.Channel 1 (byte ∷ [])) ∷ []);
      constants = [];
      typedefs = [];
      proctypes = (
          process (at 18) 3 1 0 [] (
          plain (part 22 23) (holds expr.Timeout) ∷
          plain (part 24 37) (action.Printf (at 26) ((read (global 0 byte)) ∷ (expr.Ask fill.Length (global 1 chan)) ∷ expr.ProcessCount
          ∷ [])) ∷ []) (at 37) ∷
          process (at 40) 4 1 0 (slot (at 45) byte false 0 1 1 initial.Zero ∷ []) (
          if_fi (part 47 60) (
          (plain (part 49 52) (assign (global 0 byte) (read (global 0 byte))) ∷ []) ∷
          (plain (part 53 56) (action.Send (global 1 chan) Fifo ((read (global 0 byte)) ∷ [])) ∷
          plain (part 57 59) (action.Increment (global 0 byte)) ∷ []) ∷ []) ∷ []) (at 60) ∷
          process (at 63) 5 1 0 (slot (at 68) byte false 0 1 1 initial.Zero ∷ []) (
          plain (part 70 72) (action.Decrement (global 0 byte)) ∷ []) (at 72) ∷ []);
    }

abbrev end-1-of-ends-691 : Printed
end-1-of-ends-691 = shown (codes "0 0, 1 left\n") Valid

abbrev end-2-of-ends-691 : Printed
end-2-of-ends-691 = shown (codes "1 1, 1 left\n") Valid

paths-of-ends-691 : paths model-ends-691 8 ≡ Some (end-1-of-ends-691 ∷ end-2-of-ends-691 ∷ end-2-of-ends-691 ∷ end-2-of-ends-691 ∷
    end-1-of-ends-691 ∷ end-2-of-ends-691 ∷ end-2-of-ends-691 ∷ end-1-of-ends-691 ∷ end-2-of-ends-691 ∷ [])
unfolding computes model-ends-691
paths-of-ends-691 = has_paths model-ends-691 8 _ refl

-- mtype = { red, green, blue }; mtype m = green;
-- short s0 = 1;
-- int i1 = 0;
-- chan q0 = [2] of { byte };
-- active proctype Watch() { timeout; printf("%d %d %d, %d left\n", s0, i1, len(q0), _nr_pr) }
-- active proctype P0() { byte k; do :: i1 >= m -> q0?eval(s0); s0 = (_nr_pr % 5) :: i1 <= m -> q0!_pid; (((1 + 1) != 100 || 0 != 1))
--     :: break od; if :: q0!m fi }
tokens-ends-710 : List Word
tokens-ends-710 =
    on 1 kind.Mtype "mtype" ∷ on 1 kind.Assign "=" ∷ on 1 kind.OpenBrace "{" ∷ on 1 kind.Name "red" ∷ on 1 kind.Comma "," ∷
    on 1 kind.Name "green" ∷ on 1 kind.Comma "," ∷ on 1 kind.Name "blue" ∷ on 1 kind.CloseBrace "}" ∷ on 1 kind.Semicolon ";" ∷
    on 1 kind.Mtype "mtype" ∷ on 1 kind.Name "m" ∷ on 1 kind.Assign "=" ∷ on 1 kind.Name "green" ∷ on 1 kind.Semicolon ";" ∷
    on 2 kind.Short "short" ∷ on 2 kind.Name "s0" ∷ on 2 kind.Assign "=" ∷ on 2 kind.Number "1" ∷ on 2 kind.Semicolon ";" ∷
    on 3 kind.Int "int" ∷ on 3 kind.Name "i1" ∷ on 3 kind.Assign "=" ∷ on 3 kind.Number "0" ∷ on 3 kind.Semicolon ";" ∷
    on 4 kind.Chan "chan" ∷ on 4 kind.Name "q0" ∷ on 4 kind.Assign "=" ∷ on 4 kind.OpenBracket "[" ∷ on 4 kind.Number "2" ∷
    on 4 kind.CloseBracket "]" ∷ on 4 kind.Of "of" ∷ on 4 kind.OpenBrace "{" ∷ on 4 kind.Byte "byte" ∷ on 4 kind.CloseBrace "}" ∷
    on 4 kind.Semicolon ";" ∷ on 5 kind.Active "active" ∷ on 5 kind.Proctype "proctype" ∷ on 5 kind.Name "Watch" ∷
    on 5 kind.OpenParen "(" ∷ on 5 kind.CloseParen ")" ∷ on 5 kind.OpenBrace "{" ∷ on 5 kind.Timeout "timeout" ∷
    on 5 kind.Semicolon ";" ∷ on 5 kind.Printf "printf" ∷ on 5 kind.OpenParen "(" ∷ on 5 kind.Quoted "\"%d %d %d, %d left\\n\"" ∷
    on 5 kind.Comma "," ∷ on 5 kind.Name "s0" ∷ on 5 kind.Comma "," ∷ on 5 kind.Name "i1" ∷ on 5 kind.Comma "," ∷
    on 5 kind.Len "len" ∷ on 5 kind.OpenParen "(" ∷ on 5 kind.Name "q0" ∷ on 5 kind.CloseParen ")" ∷ on 5 kind.Comma "," ∷
    on 5 kind.Name "_nr_pr" ∷ on 5 kind.CloseParen ")" ∷ on 5 kind.CloseBrace "}" ∷ on 6 kind.Active "active" ∷
    on 6 kind.Proctype "proctype" ∷ on 6 kind.Name "P0" ∷ on 6 kind.OpenParen "(" ∷ on 6 kind.CloseParen ")" ∷
    on 6 kind.OpenBrace "{" ∷ on 6 kind.Byte "byte" ∷ on 6 kind.Name "k" ∷ on 6 kind.Semicolon ";" ∷ on 6 kind.Do "do" ∷
    on 6 kind.DoubleColon "::" ∷ on 6 kind.Name "i1" ∷ on 6 kind.AtLeast ">=" ∷ on 6 kind.Name "m" ∷ on 6 kind.Arrow "->" ∷
    on 6 kind.Name "q0" ∷ on 6 kind.Query "?" ∷ on 6 kind.Eval "eval" ∷ on 6 kind.OpenParen "(" ∷ on 6 kind.Name "s0" ∷
    on 6 kind.CloseParen ")" ∷ on 6 kind.Semicolon ";" ∷ on 6 kind.Name "s0" ∷ on 6 kind.Assign "=" ∷ on 6 kind.OpenParen "(" ∷
    on 6 kind.Name "_nr_pr" ∷ on 6 kind.Percent "%" ∷ on 6 kind.Number "5" ∷ on 6 kind.CloseParen ")" ∷ on 6 kind.DoubleColon "::" ∷
    on 6 kind.Name "i1" ∷ on 6 kind.AtMost "<=" ∷ on 6 kind.Name "m" ∷ on 6 kind.Arrow "->" ∷ on 6 kind.Name "q0" ∷
    on 6 kind.Bang "!" ∷ on 6 kind.Name "_pid" ∷ on 6 kind.Semicolon ";" ∷ on 6 kind.OpenParen "(" ∷ on 6 kind.OpenParen "(" ∷
    on 6 kind.OpenParen "(" ∷ on 6 kind.Number "1" ∷ on 6 kind.Plus "+" ∷ on 6 kind.Number "1" ∷ on 6 kind.CloseParen ")" ∷
    on 6 kind.Unequal "!=" ∷ on 6 kind.Number "100" ∷ on 6 kind.OrOr "||" ∷ on 6 kind.Number "0" ∷ on 6 kind.Unequal "!=" ∷
    on 6 kind.Number "1" ∷ on 6 kind.CloseParen ")" ∷ on 6 kind.CloseParen ")" ∷ on 6 kind.DoubleColon "::" ∷
    on 6 kind.Break "break" ∷ on 6 kind.Od "od" ∷ on 6 kind.Semicolon ";" ∷ on 6 kind.If "if" ∷ on 6 kind.DoubleColon "::" ∷
    on 6 kind.Name "q0" ∷ on 6 kind.Bang "!" ∷ on 6 kind.Name "m" ∷ on 6 kind.Fi "fi" ∷ on 6 kind.CloseBrace "}" ∷ []

model-ends-710 : Program
unfolding tokens-ends-710
model-ends-710 =
    let at : ℕ → Word = token_at tokens-ends-710 in
    let part : ℕ → ℕ → List Word = tokens_between tokens-ends-710 in
    record {
      globals = (slot (at 11) mtype false 0 1 1 (initial.Value (number 2)) ∷ slot (at 16) short false 1 1 1 (initial.Value (number 1))
          ∷ slot (at 21) int false 2 1 1 (initial.Value (number 0)) ∷ slot (at 26) chan false 3 1 1 (initial.Channel 2 (byte ∷ [])) ∷
          []);
      constants = ((at 7) ∷ (at 5) ∷ (at 3) ∷ []);
      typedefs = [];
      proctypes = (
          process (at 38) 6 1 0 [] (
          plain (part 42 43) (holds expr.Timeout) ∷
          plain (part 44 59) (action.Printf (at 46) ((read (global 1 short)) ∷ (read (global 2 int)) ∷ (expr.Ask fill.Length (global 3
          chan)) ∷ expr.ProcessCount ∷ [])) ∷ []) (at 59) ∷
          process (at 62) 7 1 0 (slot (at 67) byte false 0 1 1 initial.Zero ∷ []) (
          do_od (part 69 116) (
          (plain (part 71 74) (holds (expr.Binary op.AtLeast (read (global 2 int)) (read (global 0 mtype)))) ∷
          plain (part 75 81) (action.Receive (global 3 chan) First Remove (want.Equal (read (global 1 short)) ∷ [])) ∷
          plain (part 82 89) (assign (global 1 short) (expr.Binary op.Remainder expr.ProcessCount (number 5))) ∷ []) ∷
          (plain (part 90 93) (holds (expr.Binary op.AtMost (read (global 2 int)) (read (global 0 mtype)))) ∷
          plain (part 94 97) (action.Send (global 3 chan) Fifo (expr.Pid ∷ [])) ∷
          plain (part 98 113) (holds (expr.Binary op.Or (expr.Binary op.Unequal (expr.Binary op.Plus (number 1) (number 1)) (number
          100)) (expr.Binary op.Unequal (number 0) (number 1)))) ∷ []) ∷
          (stmt [] Break (part 114 115) ∷ []) ∷ []) ∷
          if_fi (part 117 123) (
          (plain (part 119 122) (action.Send (global 3 chan) Fifo ((read (global 0 mtype)) ∷ [])) ∷ []) ∷ []) ∷ []) (at 123) ∷ []);
    }

abbrev end-1-of-ends-710 : Printed
end-1-of-ends-710 = shown (codes "1 0 2, 2 left\n") Invalid

abbrev end-2-of-ends-710 : Printed
end-2-of-ends-710 = shown (codes "1 0 2, 1 left\n") Valid

abbrev end-3-of-ends-710 : Printed
end-3-of-ends-710 = shown (codes "1 0 1, 1 left\n") Valid

paths-of-ends-710 : paths model-ends-710 9 ≡ Some (end-1-of-ends-710 ∷ end-1-of-ends-710 ∷ end-2-of-ends-710 ∷ end-3-of-ends-710 ∷ [])
unfolding computes model-ends-710
paths-of-ends-710 = has_paths model-ends-710 9 _ refl
