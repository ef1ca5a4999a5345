-- All paths of small random models, whose ends are those of Spin's full search. `tools/spin-ends` made the models and their data.
use Rattle.std.proofs.Common.{◌≡◌, ℕ, List, [], ◌∷◌, true, false, refl, Some, None}
use Rattle.std.specs.Prelude.{codes, pos}
use Rattle.pml_token.specs.Word.{Word}
use Rattle.pml_tree.specs.declared.tree.Search.TheVariants.{First, Matching}
use Rattle.pml_tree.specs.declared.tree.Removal.TheVariants.{Remove}
use Rattle.pml_tree.specs.declared.tree.SendOrder.TheVariants.{Fifo, Sorted}
use Rattle.pml_program.specs.declared.program.Program.{Program}
use Rattle.pml_program.specs.declared.program.Basic.{Break}
use Rattle.worked_runs.proofs.Models.{on, token_at, tokens_between, bit, byte, chan, mtype, short, int, slot, fields, turn, in_global, local, global, number, read, run, assign, holds, stmt, plain, block, d_step, if_fi, do_od, process}
use Rattle.worked_runs.proofs.Same.{computes}
use Rattle.worked_runs.specs.Printed.{Printed, Valid, Invalid}
use Rattle.worked_runs.specs.Ends.{paths}
use Rattle.worked_runs.proofs.Same.{has_paths}
use Rattle.worked_runs.proofs.Models.{shown}
use Rattle.pml_token.specs.declared.token.Kind.TheVariants as kind
use Rattle.pml_tree.specs.declared.tree.Infix.TheVariants as op
use Rattle.pml_tree.specs.declared.tree.Prefix.TheVariants as before
use Rattle.pml_tree.specs.declared.tree.Fill.TheVariants as fill
use Rattle.pml_program.specs.declared.form.Form.TheVariants as form
use Rattle.pml_program.specs.declared.expr.Expr.TheVariants as expr
use Rattle.pml_program.specs.declared.expr.Want.TheVariants as want
use Rattle.pml_program.specs.declared.program.Initial.TheVariants as initial
use Rattle.pml_program.specs.declared.program.Action.TheVariants as action

-- bit t0 = 1;
-- byte a[2];
-- chan q0 = [1] of { int };
-- active proctype Watch() { timeout; printf("%d %d %d %d, %d left\n", t0, a[0], a[1], len(q0), _nr_pr) }
-- active proctype P0() { byte k; t0 = (300 - _nr_pr) }
-- active proctype P1() { byte k; d_step { t0 = t0; t0 = (!a[0]) } }
tokens-ends-6 : List Word
tokens-ends-6 =
    on 1 kind.Bit "bit" ∷ on 1 kind.Name "t0" ∷ on 1 kind.Assign "=" ∷ on 1 kind.Number "1" ∷ on 1 kind.Semicolon ";" ∷
    on 2 kind.Byte "byte" ∷ on 2 kind.Name "a" ∷ on 2 kind.OpenBracket "[" ∷ on 2 kind.Number "2" ∷ on 2 kind.CloseBracket "]" ∷
    on 2 kind.Semicolon ";" ∷ on 3 kind.Chan "chan" ∷ on 3 kind.Name "q0" ∷ on 3 kind.Assign "=" ∷ on 3 kind.OpenBracket "[" ∷
    on 3 kind.Number "1" ∷ on 3 kind.CloseBracket "]" ∷ on 3 kind.Of "of" ∷ on 3 kind.OpenBrace "{" ∷ on 3 kind.Int "int" ∷
    on 3 kind.CloseBrace "}" ∷ on 3 kind.Semicolon ";" ∷ on 4 kind.Active "active" ∷ on 4 kind.Proctype "proctype" ∷
    on 4 kind.Name "Watch" ∷ on 4 kind.OpenParen "(" ∷ on 4 kind.CloseParen ")" ∷ on 4 kind.OpenBrace "{" ∷
    on 4 kind.Timeout "timeout" ∷ on 4 kind.Semicolon ";" ∷ on 4 kind.Printf "printf" ∷ on 4 kind.OpenParen "(" ∷
    on 4 kind.Quoted "\"%d %d %d %d, %d left\\n\"" ∷ on 4 kind.Comma "," ∷ on 4 kind.Name "t0" ∷ on 4 kind.Comma "," ∷
    on 4 kind.Name "a" ∷ on 4 kind.OpenBracket "[" ∷ on 4 kind.Number "0" ∷ on 4 kind.CloseBracket "]" ∷ on 4 kind.Comma "," ∷
    on 4 kind.Name "a" ∷ on 4 kind.OpenBracket "[" ∷ on 4 kind.Number "1" ∷ on 4 kind.CloseBracket "]" ∷ on 4 kind.Comma "," ∷
    on 4 kind.Len "len" ∷ on 4 kind.OpenParen "(" ∷ on 4 kind.Name "q0" ∷ on 4 kind.CloseParen ")" ∷ on 4 kind.Comma "," ∷
    on 4 kind.Name "_nr_pr" ∷ on 4 kind.CloseParen ")" ∷ on 4 kind.CloseBrace "}" ∷ on 5 kind.Active "active" ∷
    on 5 kind.Proctype "proctype" ∷ on 5 kind.Name "P0" ∷ on 5 kind.OpenParen "(" ∷ on 5 kind.CloseParen ")" ∷
    on 5 kind.OpenBrace "{" ∷ on 5 kind.Byte "byte" ∷ on 5 kind.Name "k" ∷ on 5 kind.Semicolon ";" ∷ on 5 kind.Name "t0" ∷
    on 5 kind.Assign "=" ∷ on 5 kind.OpenParen "(" ∷ on 5 kind.Number "300" ∷ on 5 kind.Minus "-" ∷ on 5 kind.Name "_nr_pr" ∷
    on 5 kind.CloseParen ")" ∷ on 5 kind.CloseBrace "}" ∷ on 6 kind.Active "active" ∷ on 6 kind.Proctype "proctype" ∷
    on 6 kind.Name "P1" ∷ on 6 kind.OpenParen "(" ∷ on 6 kind.CloseParen ")" ∷ on 6 kind.OpenBrace "{" ∷ on 6 kind.Byte "byte" ∷
    on 6 kind.Name "k" ∷ on 6 kind.Semicolon ";" ∷ on 6 kind.DStep "d_step" ∷ on 6 kind.OpenBrace "{" ∷ on 6 kind.Name "t0" ∷
    on 6 kind.Assign "=" ∷ on 6 kind.Name "t0" ∷ on 6 kind.Semicolon ";" ∷ on 6 kind.Name "t0" ∷ on 6 kind.Assign "=" ∷
    on 6 kind.OpenParen "(" ∷ on 6 kind.Bang "!" ∷ on 6 kind.Name "a" ∷ on 6 kind.OpenBracket "[" ∷ on 6 kind.Number "0" ∷
    on 6 kind.CloseBracket "]" ∷ on 6 kind.CloseParen ")" ∷ on 6 kind.CloseBrace "}" ∷ on 6 kind.CloseBrace "}" ∷ []

model-ends-6 : Program
unfolding tokens-ends-6
model-ends-6 =
    let at : ℕ → Word = token_at tokens-ends-6 in
    let part : ℕ → ℕ → List Word = tokens_between tokens-ends-6 in
    record {
      globals = (slot (at 1) bit false 0 1 1 (initial.Value (number 1)) ∷ slot (at 6) byte true 1 2 1 initial.Zero ∷ slot (at 12) chan
          false 3 1 1 (initial.Channel 1 (int ∷ [])) ∷ []);
      constants = [];
      typedefs = [];
      proctypes = (
          process (at 24) 4 1 0 [] (
          plain (part 28 29) (holds expr.Timeout) ∷
          plain (part 30 53) (action.Printf (at 32) ((read (global 0 bit)) ∷ (read (in_global 1 byte (turn 0 2 1 (Some (number 0)) ∷
          []))) ∷ (read (in_global 1 byte (turn 0 2 1 (Some (number 1)) ∷ []))) ∷ (expr.Ask fill.Length (global 2 chan)) ∷
          expr.ProcessCount ∷ [])) ∷ []) (at 53) ∷
          process (at 56) 5 1 0 (slot (at 61) byte false 0 1 1 initial.Zero ∷ []) (
          plain (part 63 70) (assign (global 0 bit) (expr.Binary op.Minus (number 300) expr.ProcessCount)) ∷ []) (at 70) ∷
          process (at 73) 6 1 0 (slot (at 78) byte false 0 1 1 initial.Zero ∷ []) (
          d_step (part 80 96) (
          plain (part 82 85) (assign (global 0 bit) (read (global 0 bit))) ∷
          plain (part 86 95) (assign (global 0 bit) (expr.Unary before.Not (read (in_global 1 byte (turn 0 2 1 (Some (number 0)) ∷
          []))))) ∷ []) ∷ []) (at 96) ∷ []);
    }

abbrev end-1-of-ends-6 : Printed
end-1-of-ends-6 = shown (codes "1 0 0 0, 1 left\n") Valid

abbrev end-2-of-ends-6 : Printed
end-2-of-ends-6 = shown (codes "0 0 0 0, 1 left\n") Valid

paths-of-ends-6 : paths model-ends-6 7 ≡ Some (end-1-of-ends-6 ∷ end-1-of-ends-6 ∷ end-2-of-ends-6 ∷ [])
unfolding computes model-ends-6
paths-of-ends-6 = has_paths model-ends-6 7 _ refl

-- int i0 = 1;
-- short s1 = 1;
-- byte a[2];
-- active proctype Watch() { timeout; printf("%d %d %d %d, %d left\n", i0, s1, a[0], a[1], _nr_pr) }
-- active proctype P0() { byte k; d_step { s1 = 300; a[0] = 1 }; d_step { s1 = s1; i0 = _nr_pr } }
-- active proctype P1() { byte k; ((~255) == a[0]); for (k : 1 .. 2) { a[1] = (1 ^ (0 | 7)) } }
-- proctype Q(byte n) { (255 < i0); n = (-3) }
-- init { run Q(1) }
tokens-ends-17 : List Word
tokens-ends-17 =
    on 1 kind.Int "int" ∷ on 1 kind.Name "i0" ∷ on 1 kind.Assign "=" ∷ on 1 kind.Number "1" ∷ on 1 kind.Semicolon ";" ∷
    on 2 kind.Short "short" ∷ on 2 kind.Name "s1" ∷ on 2 kind.Assign "=" ∷ on 2 kind.Number "1" ∷ on 2 kind.Semicolon ";" ∷
    on 3 kind.Byte "byte" ∷ on 3 kind.Name "a" ∷ on 3 kind.OpenBracket "[" ∷ on 3 kind.Number "2" ∷ on 3 kind.CloseBracket "]" ∷
    on 3 kind.Semicolon ";" ∷ on 4 kind.Active "active" ∷ on 4 kind.Proctype "proctype" ∷ on 4 kind.Name "Watch" ∷
    on 4 kind.OpenParen "(" ∷ on 4 kind.CloseParen ")" ∷ on 4 kind.OpenBrace "{" ∷ on 4 kind.Timeout "timeout" ∷
    on 4 kind.Semicolon ";" ∷ on 4 kind.Printf "printf" ∷ on 4 kind.OpenParen "(" ∷ on 4 kind.Quoted "\"%d %d %d %d, %d left\\n\"" ∷
    on 4 kind.Comma "," ∷ on 4 kind.Name "i0" ∷ on 4 kind.Comma "," ∷ on 4 kind.Name "s1" ∷ on 4 kind.Comma "," ∷
    on 4 kind.Name "a" ∷ on 4 kind.OpenBracket "[" ∷ on 4 kind.Number "0" ∷ on 4 kind.CloseBracket "]" ∷ on 4 kind.Comma "," ∷
    on 4 kind.Name "a" ∷ on 4 kind.OpenBracket "[" ∷ on 4 kind.Number "1" ∷ on 4 kind.CloseBracket "]" ∷ on 4 kind.Comma "," ∷
    on 4 kind.Name "_nr_pr" ∷ on 4 kind.CloseParen ")" ∷ on 4 kind.CloseBrace "}" ∷ on 5 kind.Active "active" ∷
    on 5 kind.Proctype "proctype" ∷ on 5 kind.Name "P0" ∷ on 5 kind.OpenParen "(" ∷ on 5 kind.CloseParen ")" ∷
    on 5 kind.OpenBrace "{" ∷ on 5 kind.Byte "byte" ∷ on 5 kind.Name "k" ∷ on 5 kind.Semicolon ";" ∷ on 5 kind.DStep "d_step" ∷
    on 5 kind.OpenBrace "{" ∷ on 5 kind.Name "s1" ∷ on 5 kind.Assign "=" ∷ on 5 kind.Number "300" ∷ on 5 kind.Semicolon ";" ∷
    on 5 kind.Name "a" ∷ on 5 kind.OpenBracket "[" ∷ on 5 kind.Number "0" ∷ on 5 kind.CloseBracket "]" ∷ on 5 kind.Assign "=" ∷
    on 5 kind.Number "1" ∷ on 5 kind.CloseBrace "}" ∷ on 5 kind.Semicolon ";" ∷ on 5 kind.DStep "d_step" ∷ on 5 kind.OpenBrace "{" ∷
    on 5 kind.Name "s1" ∷ on 5 kind.Assign "=" ∷ on 5 kind.Name "s1" ∷ on 5 kind.Semicolon ";" ∷ on 5 kind.Name "i0" ∷
    on 5 kind.Assign "=" ∷ on 5 kind.Name "_nr_pr" ∷ on 5 kind.CloseBrace "}" ∷ on 5 kind.CloseBrace "}" ∷
    on 6 kind.Active "active" ∷ on 6 kind.Proctype "proctype" ∷ on 6 kind.Name "P1" ∷ on 6 kind.OpenParen "(" ∷
    on 6 kind.CloseParen ")" ∷ on 6 kind.OpenBrace "{" ∷ on 6 kind.Byte "byte" ∷ on 6 kind.Name "k" ∷ on 6 kind.Semicolon ";" ∷
    on 6 kind.OpenParen "(" ∷ on 6 kind.OpenParen "(" ∷ on 6 kind.Tilde "~" ∷ on 6 kind.Number "255" ∷ on 6 kind.CloseParen ")" ∷
    on 6 kind.Equal "==" ∷ on 6 kind.Name "a" ∷ on 6 kind.OpenBracket "[" ∷ on 6 kind.Number "0" ∷ on 6 kind.CloseBracket "]" ∷
    on 6 kind.CloseParen ")" ∷ on 6 kind.Semicolon ";" ∷ on 6 kind.For "for" ∷ on 6 kind.OpenParen "(" ∷ on 6 kind.Name "k" ∷
    on 6 kind.Colon ":" ∷ on 6 kind.Number "1" ∷ on 6 kind.DotDot ".." ∷ on 6 kind.Number "2" ∷ on 6 kind.CloseParen ")" ∷
    on 6 kind.OpenBrace "{" ∷ on 6 kind.Name "a" ∷ on 6 kind.OpenBracket "[" ∷ on 6 kind.Number "1" ∷ on 6 kind.CloseBracket "]" ∷
    on 6 kind.Assign "=" ∷ on 6 kind.OpenParen "(" ∷ on 6 kind.Number "1" ∷ on 6 kind.Caret "^" ∷ on 6 kind.OpenParen "(" ∷
    on 6 kind.Number "0" ∷ on 6 kind.Bar "|" ∷ on 6 kind.Number "7" ∷ on 6 kind.CloseParen ")" ∷ on 6 kind.CloseParen ")" ∷
    on 6 kind.CloseBrace "}" ∷ on 6 kind.CloseBrace "}" ∷ on 7 kind.Proctype "proctype" ∷ on 7 kind.Name "Q" ∷
    on 7 kind.OpenParen "(" ∷ on 7 kind.Byte "byte" ∷ on 7 kind.Name "n" ∷ on 7 kind.CloseParen ")" ∷ on 7 kind.OpenBrace "{" ∷
    on 7 kind.OpenParen "(" ∷ on 7 kind.Number "255" ∷ on 7 kind.Less "<" ∷ on 7 kind.Name "i0" ∷ on 7 kind.CloseParen ")" ∷
    on 7 kind.Semicolon ";" ∷ on 7 kind.Name "n" ∷ on 7 kind.Assign "=" ∷ on 7 kind.OpenParen "(" ∷ on 7 kind.Minus "-" ∷
    on 7 kind.Number "3" ∷ on 7 kind.CloseParen ")" ∷ on 7 kind.CloseBrace "}" ∷ on 8 kind.Init "init" ∷ on 8 kind.OpenBrace "{" ∷
    on 8 kind.Run "run" ∷ on 8 kind.Name "Q" ∷ on 8 kind.OpenParen "(" ∷ on 8 kind.Number "1" ∷ on 8 kind.CloseParen ")" ∷
    on 8 kind.CloseBrace "}" ∷ []

model-ends-17 : Program
unfolding tokens-ends-17
model-ends-17 =
    let at : ℕ → Word = token_at tokens-ends-17 in
    let part : ℕ → ℕ → List Word = tokens_between tokens-ends-17 in
    record {
      globals = (slot (at 1) int false 0 1 1 (initial.Value (number 1)) ∷ slot (at 6) short false 1 1 1 (initial.Value (number 1)) ∷
          slot (at 11) byte true 2 2 1 initial.Zero ∷ []);
      constants = [];
      typedefs = [];
      proctypes = (
          process (at 18) 4 1 0 [] (
          plain (part 22 23) (holds expr.Timeout) ∷
          plain (part 24 44) (action.Printf (at 26) ((read (global 0 int)) ∷ (read (global 1 short)) ∷ (read (in_global 2 byte (turn 0 2
          1 (Some (number 0)) ∷ []))) ∷ (read (in_global 2 byte (turn 0 2 1 (Some (number 1)) ∷ []))) ∷ expr.ProcessCount ∷ [])) ∷ [])
          (at 44) ∷
          process (at 47) 5 1 0 (slot (at 52) byte false 0 1 1 initial.Zero ∷ []) (
          d_step (part 54 67) (
          plain (part 56 59) (assign (global 1 short) (number 300)) ∷
          plain (part 60 66) (assign (in_global 2 byte (turn 0 2 1 (Some (number 0)) ∷ [])) (number 1)) ∷ []) ∷
          d_step (part 68 78) (
          plain (part 70 73) (assign (global 1 short) (read (global 1 short))) ∷
          plain (part 74 77) (assign (global 0 int) expr.ProcessCount) ∷ []) ∷ []) (at 78) ∷
          process (at 81) 6 1 0 (slot (at 86) byte false 0 1 1 initial.Zero ∷ []) (
          plain (part 88 99) (holds (expr.Binary op.Equal (expr.Unary before.Complement (number 255)) (read (in_global 2 byte (turn 0 2
          1 (Some (number 0)) ∷ []))))) ∷
          block (part 100 124) (
          plain ((at 102) ∷ (on 6 kind.Assign "=") ∷ (at 104) ∷ []) (assign (local 0 byte) (number 1)) ∷
          do_od ((on 6 kind.Do "do") ∷ []) (
          (plain ((at 102) ∷ (on 6 kind.AtMost "<=") ∷ (at 106) ∷ []) (holds (expr.Binary op.AtMost (read (local 0 byte)) (number 2))) ∷
          plain (part 109 123) (assign (in_global 2 byte (turn 0 2 1 (Some (number 1)) ∷ [])) (expr.Binary op.BitXor (number 1)
          (expr.Binary op.BitOr (number 0) (number 7)))) ∷
          plain ((at 102) ∷ (on 6 kind.Increment "++") ∷ []) (action.Increment (local 0 byte)) ∷ []) ∷
          (plain ((on 6 kind.Else "else") ∷ []) action.Else ∷
          stmt [] Break ((on 6 kind.Break "break") ∷ []) ∷ []) ∷ []) ∷ []) ∷ []) (at 124) ∷
          process (at 126) 7 0 1 (slot (at 129) byte false 0 1 1 initial.Zero ∷ []) (
          plain (part 132 137) (holds (expr.Binary op.Below (number 255) (read (global 0 int)))) ∷
          plain (part 138 144) (assign (local 0 byte) (expr.Unary before.Minus (number 3))) ∷ []) (at 144) ∷
          process (at 145) 8 1 0 [] (
          plain (part 147 152) (action.Run (run 3 ((number 1) ∷ []))) ∷ []) (at 152) ∷ []);
    }

abbrev end-1-of-ends-17 : Printed
end-1-of-ends-17 = shown (codes "4 300 1 0, 5 left\n") Invalid

abbrev end-2-of-ends-17 : Printed
end-2-of-ends-17 = shown (codes "5 300 1 0, 5 left\n") Invalid

paths-of-ends-17 : paths model-ends-17 5 ≡ Some (end-1-of-ends-17 ∷ end-2-of-ends-17 ∷ end-2-of-ends-17 ∷ [])
unfolding computes model-ends-17
paths-of-ends-17 = has_paths model-ends-17 5 _ refl

-- short s0 = 0;
-- active proctype Watch() { timeout; printf("%d, %d left\n", s0, _nr_pr) }
-- active proctype P0() { byte k; s0 = ((0 + 0) * s0) }
-- active proctype P1() { byte k; s0 = _nr_pr; s0 = (3 * _pid) }
tokens-ends-22 : List Word
tokens-ends-22 =
    on 1 kind.Short "short" ∷ on 1 kind.Name "s0" ∷ on 1 kind.Assign "=" ∷ on 1 kind.Number "0" ∷ on 1 kind.Semicolon ";" ∷
    on 2 kind.Active "active" ∷ on 2 kind.Proctype "proctype" ∷ on 2 kind.Name "Watch" ∷ on 2 kind.OpenParen "(" ∷
    on 2 kind.CloseParen ")" ∷ on 2 kind.OpenBrace "{" ∷ on 2 kind.Timeout "timeout" ∷ on 2 kind.Semicolon ";" ∷
    on 2 kind.Printf "printf" ∷ on 2 kind.OpenParen "(" ∷ on 2 kind.Quoted "\"%d, %d left\\n\"" ∷ on 2 kind.Comma "," ∷
    on 2 kind.Name "s0" ∷ on 2 kind.Comma "," ∷ on 2 kind.Name "_nr_pr" ∷ on 2 kind.CloseParen ")" ∷ on 2 kind.CloseBrace "}" ∷
    on 3 kind.Active "active" ∷ on 3 kind.Proctype "proctype" ∷ on 3 kind.Name "P0" ∷ on 3 kind.OpenParen "(" ∷
    on 3 kind.CloseParen ")" ∷ on 3 kind.OpenBrace "{" ∷ on 3 kind.Byte "byte" ∷ on 3 kind.Name "k" ∷ on 3 kind.Semicolon ";" ∷
    on 3 kind.Name "s0" ∷ on 3 kind.Assign "=" ∷ on 3 kind.OpenParen "(" ∷ on 3 kind.OpenParen "(" ∷ on 3 kind.Number "0" ∷
    on 3 kind.Plus "+" ∷ on 3 kind.Number "0" ∷ on 3 kind.CloseParen ")" ∷ on 3 kind.Star "*" ∷ on 3 kind.Name "s0" ∷
    on 3 kind.CloseParen ")" ∷ on 3 kind.CloseBrace "}" ∷ on 4 kind.Active "active" ∷ on 4 kind.Proctype "proctype" ∷
    on 4 kind.Name "P1" ∷ on 4 kind.OpenParen "(" ∷ on 4 kind.CloseParen ")" ∷ on 4 kind.OpenBrace "{" ∷ on 4 kind.Byte "byte" ∷
    on 4 kind.Name "k" ∷ on 4 kind.Semicolon ";" ∷ on 4 kind.Name "s0" ∷ on 4 kind.Assign "=" ∷ on 4 kind.Name "_nr_pr" ∷
    on 4 kind.Semicolon ";" ∷ on 4 kind.Name "s0" ∷ on 4 kind.Assign "=" ∷ on 4 kind.OpenParen "(" ∷ on 4 kind.Number "3" ∷
    on 4 kind.Star "*" ∷ on 4 kind.Name "_pid" ∷ on 4 kind.CloseParen ")" ∷ on 4 kind.CloseBrace "}" ∷ []

model-ends-22 : Program
unfolding tokens-ends-22
model-ends-22 =
    let at : ℕ → Word = token_at tokens-ends-22 in
    let part : ℕ → ℕ → List Word = tokens_between tokens-ends-22 in
    record {
      globals = (slot (at 1) short false 0 1 1 (initial.Value (number 0)) ∷ []);
      constants = [];
      typedefs = [];
      proctypes = (
          process (at 7) 2 1 0 [] (
          plain (part 11 12) (holds expr.Timeout) ∷
          plain (part 13 21) (action.Printf (at 15) ((read (global 0 short)) ∷ expr.ProcessCount ∷ [])) ∷ []) (at 21) ∷
          process (at 24) 3 1 0 (slot (at 29) byte false 0 1 1 initial.Zero ∷ []) (
          plain (part 31 42) (assign (global 0 short) (expr.Binary op.Times (expr.Binary op.Plus (number 0) (number 0)) (read (global 0
          short)))) ∷ []) (at 42) ∷
          process (at 45) 4 1 0 (slot (at 50) byte false 0 1 1 initial.Zero ∷ []) (
          plain (part 52 55) (assign (global 0 short) expr.ProcessCount) ∷
          plain (part 56 63) (assign (global 0 short) (expr.Binary op.Times (number 3) expr.Pid)) ∷ []) (at 63) ∷ []);
    }

abbrev end-1-of-ends-22 : Printed
end-1-of-ends-22 = shown (codes "6, 1 left\n") Valid

abbrev end-2-of-ends-22 : Printed
end-2-of-ends-22 = shown (codes "0, 1 left\n") Valid

paths-of-ends-22 : paths model-ends-22 8 ≡ Some (end-1-of-ends-22 ∷ end-1-of-ends-22 ∷ end-2-of-ends-22 ∷ end-2-of-ends-22 ∷ [])
unfolding computes model-ends-22
paths-of-ends-22 = has_paths model-ends-22 8 _ refl

-- short s0 = 0;
-- active proctype Watch() { timeout; printf("%d, %d left\n", s0, _nr_pr) }
-- active proctype P0() { byte k; s0++; s0++ }
-- active proctype P1() { byte k; s0 = (-s0) }
-- proctype Q(byte n) { (100 <= s0); (255 == n) }
-- init { run Q(1) }
tokens-ends-34 : List Word
tokens-ends-34 =
    on 1 kind.Short "short" ∷ on 1 kind.Name "s0" ∷ on 1 kind.Assign "=" ∷ on 1 kind.Number "0" ∷ on 1 kind.Semicolon ";" ∷
    on 2 kind.Active "active" ∷ on 2 kind.Proctype "proctype" ∷ on 2 kind.Name "Watch" ∷ on 2 kind.OpenParen "(" ∷
    on 2 kind.CloseParen ")" ∷ on 2 kind.OpenBrace "{" ∷ on 2 kind.Timeout "timeout" ∷ on 2 kind.Semicolon ";" ∷
    on 2 kind.Printf "printf" ∷ on 2 kind.OpenParen "(" ∷ on 2 kind.Quoted "\"%d, %d left\\n\"" ∷ on 2 kind.Comma "," ∷
    on 2 kind.Name "s0" ∷ on 2 kind.Comma "," ∷ on 2 kind.Name "_nr_pr" ∷ on 2 kind.CloseParen ")" ∷ on 2 kind.CloseBrace "}" ∷
    on 3 kind.Active "active" ∷ on 3 kind.Proctype "proctype" ∷ on 3 kind.Name "P0" ∷ on 3 kind.OpenParen "(" ∷
    on 3 kind.CloseParen ")" ∷ on 3 kind.OpenBrace "{" ∷ on 3 kind.Byte "byte" ∷ on 3 kind.Name "k" ∷ on 3 kind.Semicolon ";" ∷
    on 3 kind.Name "s0" ∷ on 3 kind.Increment "++" ∷ on 3 kind.Semicolon ";" ∷ on 3 kind.Name "s0" ∷ on 3 kind.Increment "++" ∷
    on 3 kind.CloseBrace "}" ∷ on 4 kind.Active "active" ∷ on 4 kind.Proctype "proctype" ∷ on 4 kind.Name "P1" ∷
    on 4 kind.OpenParen "(" ∷ on 4 kind.CloseParen ")" ∷ on 4 kind.OpenBrace "{" ∷ on 4 kind.Byte "byte" ∷ on 4 kind.Name "k" ∷
    on 4 kind.Semicolon ";" ∷ on 4 kind.Name "s0" ∷ on 4 kind.Assign "=" ∷ on 4 kind.OpenParen "(" ∷ on 4 kind.Minus "-" ∷
    on 4 kind.Name "s0" ∷ on 4 kind.CloseParen ")" ∷ on 4 kind.CloseBrace "}" ∷ on 5 kind.Proctype "proctype" ∷ on 5 kind.Name "Q" ∷
    on 5 kind.OpenParen "(" ∷ on 5 kind.Byte "byte" ∷ on 5 kind.Name "n" ∷ on 5 kind.CloseParen ")" ∷ on 5 kind.OpenBrace "{" ∷
    on 5 kind.OpenParen "(" ∷ on 5 kind.Number "100" ∷ on 5 kind.AtMost "<=" ∷ on 5 kind.Name "s0" ∷ on 5 kind.CloseParen ")" ∷
    on 5 kind.Semicolon ";" ∷ on 5 kind.OpenParen "(" ∷ on 5 kind.Number "255" ∷ on 5 kind.Equal "==" ∷ on 5 kind.Name "n" ∷
    on 5 kind.CloseParen ")" ∷ on 5 kind.CloseBrace "}" ∷ on 6 kind.Init "init" ∷ on 6 kind.OpenBrace "{" ∷ on 6 kind.Run "run" ∷
    on 6 kind.Name "Q" ∷ on 6 kind.OpenParen "(" ∷ on 6 kind.Number "1" ∷ on 6 kind.CloseParen ")" ∷ on 6 kind.CloseBrace "}" ∷ []

model-ends-34 : Program
unfolding tokens-ends-34
model-ends-34 =
    let at : ℕ → Word = token_at tokens-ends-34 in
    let part : ℕ → ℕ → List Word = tokens_between tokens-ends-34 in
    record {
      globals = (slot (at 1) short false 0 1 1 (initial.Value (number 0)) ∷ []);
      constants = [];
      typedefs = [];
      proctypes = (
          process (at 7) 2 1 0 [] (
          plain (part 11 12) (holds expr.Timeout) ∷
          plain (part 13 21) (action.Printf (at 15) ((read (global 0 short)) ∷ expr.ProcessCount ∷ [])) ∷ []) (at 21) ∷
          process (at 24) 3 1 0 (slot (at 29) byte false 0 1 1 initial.Zero ∷ []) (
          plain (part 31 33) (action.Increment (global 0 short)) ∷
          plain (part 34 36) (action.Increment (global 0 short)) ∷ []) (at 36) ∷
          process (at 39) 4 1 0 (slot (at 44) byte false 0 1 1 initial.Zero ∷ []) (
          plain (part 46 52) (assign (global 0 short) (expr.Unary before.Minus (read (global 0 short)))) ∷ []) (at 52) ∷
          process (at 54) 5 0 1 (slot (at 57) byte false 0 1 1 initial.Zero ∷ []) (
          plain (part 60 65) (holds (expr.Binary op.AtMost (number 100) (read (global 0 short)))) ∷
          plain (part 66 71) (holds (expr.Binary op.Equal (number 255) (read (local 0 byte)))) ∷ []) (at 71) ∷
          process (at 72) 6 1 0 [] (
          plain (part 74 79) (action.Run (run 3 ((number 1) ∷ []))) ∷ []) (at 79) ∷ []);
    }

abbrev end-1-of-ends-34 : Printed
end-1-of-ends-34 = shown (codes "-2, 5 left\n") Invalid

abbrev end-2-of-ends-34 : Printed
end-2-of-ends-34 = shown (codes "0, 5 left\n") Invalid

abbrev end-3-of-ends-34 : Printed
end-3-of-ends-34 = shown (codes "2, 5 left\n") Invalid

paths-of-ends-34 : paths model-ends-34 6 ≡ Some (end-1-of-ends-34 ∷ end-1-of-ends-34 ∷ end-2-of-ends-34 ∷ end-2-of-ends-34 ∷
    end-1-of-ends-34 ∷ end-2-of-ends-34 ∷ end-3-of-ends-34 ∷ end-3-of-ends-34 ∷ end-3-of-ends-34 ∷ end-1-of-ends-34 ∷ end-2-of-ends-34
    ∷ end-3-of-ends-34 ∷ [])
unfolding computes model-ends-34
paths-of-ends-34 = has_paths model-ends-34 6 _ refl

-- int i0 = 0;
-- chan q0 = [1] of { int };
-- active proctype Watch() { timeout; printf("%d %d, %d left\n", i0, len(q0), _nr_pr) }
-- active proctype P0() { byte k; i0 = 255 }
-- active proctype P1() { byte k; do :: 2 == 7 -> q0!_pid :: i0 = _nr_pr; q0!!2 :: else -> i0 = 1 :: break od; i0 = i0 }
tokens-ends-35 : List Word
tokens-ends-35 =
    on 1 kind.Int "int" ∷ on 1 kind.Name "i0" ∷ on 1 kind.Assign "=" ∷ on 1 kind.Number "0" ∷ on 1 kind.Semicolon ";" ∷
    on 2 kind.Chan "chan" ∷ on 2 kind.Name "q0" ∷ on 2 kind.Assign "=" ∷ on 2 kind.OpenBracket "[" ∷ on 2 kind.Number "1" ∷
    on 2 kind.CloseBracket "]" ∷ on 2 kind.Of "of" ∷ on 2 kind.OpenBrace "{" ∷ on 2 kind.Int "int" ∷ on 2 kind.CloseBrace "}" ∷
    on 2 kind.Semicolon ";" ∷ on 3 kind.Active "active" ∷ on 3 kind.Proctype "proctype" ∷ on 3 kind.Name "Watch" ∷
    on 3 kind.OpenParen "(" ∷ on 3 kind.CloseParen ")" ∷ on 3 kind.OpenBrace "{" ∷ on 3 kind.Timeout "timeout" ∷
    on 3 kind.Semicolon ";" ∷ on 3 kind.Printf "printf" ∷ on 3 kind.OpenParen "(" ∷ on 3 kind.Quoted "\"%d %d, %d left\\n\"" ∷
    on 3 kind.Comma "," ∷ on 3 kind.Name "i0" ∷ on 3 kind.Comma "," ∷ on 3 kind.Len "len" ∷ on 3 kind.OpenParen "(" ∷
    on 3 kind.Name "q0" ∷ on 3 kind.CloseParen ")" ∷ on 3 kind.Comma "," ∷ on 3 kind.Name "_nr_pr" ∷ on 3 kind.CloseParen ")" ∷
    on 3 kind.CloseBrace "}" ∷ on 4 kind.Active "active" ∷ on 4 kind.Proctype "proctype" ∷ on 4 kind.Name "P0" ∷
    on 4 kind.OpenParen "(" ∷ on 4 kind.CloseParen ")" ∷ on 4 kind.OpenBrace "{" ∷ on 4 kind.Byte "byte" ∷ on 4 kind.Name "k" ∷
    on 4 kind.Semicolon ";" ∷ on 4 kind.Name "i0" ∷ on 4 kind.Assign "=" ∷ on 4 kind.Number "255" ∷ on 4 kind.CloseBrace "}" ∷
    on 5 kind.Active "active" ∷ on 5 kind.Proctype "proctype" ∷ on 5 kind.Name "P1" ∷ on 5 kind.OpenParen "(" ∷
    on 5 kind.CloseParen ")" ∷ on 5 kind.OpenBrace "{" ∷ on 5 kind.Byte "byte" ∷ on 5 kind.Name "k" ∷ on 5 kind.Semicolon ";" ∷
    on 5 kind.Do "do" ∷ on 5 kind.DoubleColon "::" ∷ on 5 kind.Number "2" ∷ on 5 kind.Equal "==" ∷ on 5 kind.Number "7" ∷
    on 5 kind.Arrow "->" ∷ on 5 kind.Name "q0" ∷ on 5 kind.Bang "!" ∷ on 5 kind.Name "_pid" ∷ on 5 kind.DoubleColon "::" ∷
    on 5 kind.Name "i0" ∷ on 5 kind.Assign "=" ∷ on 5 kind.Name "_nr_pr" ∷ on 5 kind.Semicolon ";" ∷ on 5 kind.Name "q0" ∷
    on 5 kind.BangBang "!!" ∷ on 5 kind.Number "2" ∷ on 5 kind.DoubleColon "::" ∷ on 5 kind.Else "else" ∷ on 5 kind.Arrow "->" ∷
    on 5 kind.Name "i0" ∷ on 5 kind.Assign "=" ∷ on 5 kind.Number "1" ∷ on 5 kind.DoubleColon "::" ∷ on 5 kind.Break "break" ∷
    on 5 kind.Od "od" ∷ on 5 kind.Semicolon ";" ∷ on 5 kind.Name "i0" ∷ on 5 kind.Assign "=" ∷ on 5 kind.Name "i0" ∷
    on 5 kind.CloseBrace "}" ∷ []

model-ends-35 : Program
unfolding tokens-ends-35
model-ends-35 =
    let at : ℕ → Word = token_at tokens-ends-35 in
    let part : ℕ → ℕ → List Word = tokens_between tokens-ends-35 in
    record {
      globals = (slot (at 1) int false 0 1 1 (initial.Value (number 0)) ∷ slot (at 6) chan false 1 1 1 (initial.Channel 1 (int ∷ [])) ∷ []);
      constants = [];
      typedefs = [];
      proctypes = (
          process (at 18) 3 1 0 [] (
          plain (part 22 23) (holds expr.Timeout) ∷
          plain (part 24 37) (action.Printf (at 26) ((read (global 0 int)) ∷ (expr.Ask fill.Length (global 1 chan)) ∷ expr.ProcessCount
          ∷ [])) ∷ []) (at 37) ∷
          process (at 40) 4 1 0 (slot (at 45) byte false 0 1 1 initial.Zero ∷ []) (
          plain (part 47 50) (assign (global 0 int) (number 255)) ∷ []) (at 50) ∷
          process (at 53) 5 1 0 (slot (at 58) byte false 0 1 1 initial.Zero ∷ []) (
          do_od (part 60 86) (
          (plain (part 62 65) (holds (expr.Binary op.Equal (number 2) (number 7))) ∷
          plain (part 66 69) (action.Send (global 1 chan) Fifo (expr.Pid ∷ [])) ∷ []) ∷
          (plain (part 70 73) (assign (global 0 int) expr.ProcessCount) ∷
          plain (part 74 77) (action.Send (global 1 chan) Sorted ((number 2) ∷ [])) ∷ []) ∷
          (plain (part 78 79) action.Else ∷
          plain (part 80 83) (assign (global 0 int) (number 1)) ∷ []) ∷
          (stmt [] Break (part 84 85) ∷ []) ∷ []) ∷
          plain (part 87 90) (assign (global 0 int) (read (global 0 int))) ∷ []) (at 90) ∷ []);
    }

abbrev end-1-of-ends-35 : Printed
end-1-of-ends-35 = shown (codes "3 1, 3 left\n") Invalid

abbrev end-2-of-ends-35 : Printed
end-2-of-ends-35 = shown (codes "3 1, 1 left\n") Valid

abbrev end-3-of-ends-35 : Printed
end-3-of-ends-35 = shown (codes "255 0, 1 left\n") Valid

abbrev end-4-of-ends-35 : Printed
end-4-of-ends-35 = shown (codes "255 1, 1 left\n") Valid

abbrev end-5-of-ends-35 : Printed
end-5-of-ends-35 = shown (codes "255 1, 3 left\n") Invalid

paths-of-ends-35 : paths model-ends-35 10 ≡ Some (end-1-of-ends-35 ∷ end-2-of-ends-35 ∷ end-3-of-ends-35 ∷ end-1-of-ends-35 ∷
    end-4-of-ends-35 ∷ end-1-of-ends-35 ∷ end-4-of-ends-35 ∷ end-5-of-ends-35 ∷ end-4-of-ends-35 ∷ end-4-of-ends-35 ∷ end-4-of-ends-35
    ∷ end-3-of-ends-35 ∷ end-3-of-ends-35 ∷ end-3-of-ends-35 ∷ [])
unfolding computes model-ends-35
paths-of-ends-35 = has_paths model-ends-35 10 _ refl

-- mtype = { red, green, blue }; mtype m = green;
-- int i0 = 0;
-- int a[2];
-- typedef T { byte f; short g[2] }; T r;
-- chan q0 = [2] of { byte, mtype };
-- active proctype Watch() { timeout; printf("%d %d %d %d %d %d, %d left\n", i0, r.f, r.g[1], a[0], a[1], len(q0), _nr_pr) }
-- active proctype P0() { byte k; m--; do :: (a[(r.f & 1)] <= 255 || 0 <= 255) -> q0??_, green :: q0??eval(i0), m:: break od }
-- active proctype P1() { byte k; i0 = 255 }
tokens-ends-36 : List Word
tokens-ends-36 =
    on 1 kind.Mtype "mtype" ∷ on 1 kind.Assign "=" ∷ on 1 kind.OpenBrace "{" ∷ on 1 kind.Name "red" ∷ on 1 kind.Comma "," ∷
    on 1 kind.Name "green" ∷ on 1 kind.Comma "," ∷ on 1 kind.Name "blue" ∷ on 1 kind.CloseBrace "}" ∷ on 1 kind.Semicolon ";" ∷
    on 1 kind.Mtype "mtype" ∷ on 1 kind.Name "m" ∷ on 1 kind.Assign "=" ∷ on 1 kind.Name "green" ∷ on 1 kind.Semicolon ";" ∷
    on 2 kind.Int "int" ∷ on 2 kind.Name "i0" ∷ on 2 kind.Assign "=" ∷ on 2 kind.Number "0" ∷ on 2 kind.Semicolon ";" ∷
    on 3 kind.Int "int" ∷ on 3 kind.Name "a" ∷ on 3 kind.OpenBracket "[" ∷ on 3 kind.Number "2" ∷ on 3 kind.CloseBracket "]" ∷
    on 3 kind.Semicolon ";" ∷ on 4 kind.Typedef "typedef" ∷ on 4 kind.Name "T" ∷ on 4 kind.OpenBrace "{" ∷ on 4 kind.Byte "byte" ∷
    on 4 kind.Name "f" ∷ on 4 kind.Semicolon ";" ∷ on 4 kind.Short "short" ∷ on 4 kind.Name "g" ∷ on 4 kind.OpenBracket "[" ∷
    on 4 kind.Number "2" ∷ on 4 kind.CloseBracket "]" ∷ on 4 kind.CloseBrace "}" ∷ on 4 kind.Semicolon ";" ∷ on 4 kind.Name "T" ∷
    on 4 kind.Name "r" ∷ on 4 kind.Semicolon ";" ∷ on 5 kind.Chan "chan" ∷ on 5 kind.Name "q0" ∷ on 5 kind.Assign "=" ∷
    on 5 kind.OpenBracket "[" ∷ on 5 kind.Number "2" ∷ on 5 kind.CloseBracket "]" ∷ on 5 kind.Of "of" ∷ on 5 kind.OpenBrace "{" ∷
    on 5 kind.Byte "byte" ∷ on 5 kind.Comma "," ∷ on 5 kind.Mtype "mtype" ∷ on 5 kind.CloseBrace "}" ∷ on 5 kind.Semicolon ";" ∷
    on 6 kind.Active "active" ∷ on 6 kind.Proctype "proctype" ∷ on 6 kind.Name "Watch" ∷ on 6 kind.OpenParen "(" ∷
    on 6 kind.CloseParen ")" ∷ on 6 kind.OpenBrace "{" ∷ on 6 kind.Timeout "timeout" ∷ on 6 kind.Semicolon ";" ∷
    on 6 kind.Printf "printf" ∷ on 6 kind.OpenParen "(" ∷ on 6 kind.Quoted "\"%d %d %d %d %d %d, %d left\\n\"" ∷
    on 6 kind.Comma "," ∷ on 6 kind.Name "i0" ∷ on 6 kind.Comma "," ∷ on 6 kind.Name "r" ∷ on 6 kind.Dot "." ∷ on 6 kind.Name "f" ∷
    on 6 kind.Comma "," ∷ on 6 kind.Name "r" ∷ on 6 kind.Dot "." ∷ on 6 kind.Name "g" ∷ on 6 kind.OpenBracket "[" ∷
    on 6 kind.Number "1" ∷ on 6 kind.CloseBracket "]" ∷ on 6 kind.Comma "," ∷ on 6 kind.Name "a" ∷ on 6 kind.OpenBracket "[" ∷
    on 6 kind.Number "0" ∷ on 6 kind.CloseBracket "]" ∷ on 6 kind.Comma "," ∷ on 6 kind.Name "a" ∷ on 6 kind.OpenBracket "[" ∷
    on 6 kind.Number "1" ∷ on 6 kind.CloseBracket "]" ∷ on 6 kind.Comma "," ∷ on 6 kind.Len "len" ∷ on 6 kind.OpenParen "(" ∷
    on 6 kind.Name "q0" ∷ on 6 kind.CloseParen ")" ∷ on 6 kind.Comma "," ∷ on 6 kind.Name "_nr_pr" ∷ on 6 kind.CloseParen ")" ∷
    on 6 kind.CloseBrace "}" ∷ on 7 kind.Active "active" ∷ on 7 kind.Proctype "proctype" ∷ on 7 kind.Name "P0" ∷
    on 7 kind.OpenParen "(" ∷ on 7 kind.CloseParen ")" ∷ on 7 kind.OpenBrace "{" ∷ on 7 kind.Byte "byte" ∷ on 7 kind.Name "k" ∷
    on 7 kind.Semicolon ";" ∷ on 7 kind.Name "m" ∷ on 7 kind.Decrement "--" ∷ on 7 kind.Semicolon ";" ∷ on 7 kind.Do "do" ∷
    on 7 kind.DoubleColon "::" ∷ on 7 kind.OpenParen "(" ∷ on 7 kind.Name "a" ∷ on 7 kind.OpenBracket "[" ∷ on 7 kind.OpenParen "(" ∷
    on 7 kind.Name "r" ∷ on 7 kind.Dot "." ∷ on 7 kind.Name "f" ∷ on 7 kind.Ampersand "&" ∷ on 7 kind.Number "1" ∷
    on 7 kind.CloseParen ")" ∷ on 7 kind.CloseBracket "]" ∷ on 7 kind.AtMost "<=" ∷ on 7 kind.Number "255" ∷ on 7 kind.OrOr "||" ∷
    on 7 kind.Number "0" ∷ on 7 kind.AtMost "<=" ∷ on 7 kind.Number "255" ∷ on 7 kind.CloseParen ")" ∷ on 7 kind.Arrow "->" ∷
    on 7 kind.Name "q0" ∷ on 7 kind.QueryQuery "??" ∷ on 7 kind.Name "_" ∷ on 7 kind.Comma "," ∷ on 7 kind.Name "green" ∷
    on 7 kind.DoubleColon "::" ∷ on 7 kind.Name "q0" ∷ on 7 kind.QueryQuery "??" ∷ on 7 kind.Eval "eval" ∷ on 7 kind.OpenParen "(" ∷
    on 7 kind.Name "i0" ∷ on 7 kind.CloseParen ")" ∷ on 7 kind.Comma "," ∷ on 7 kind.Name "m" ∷ on 7 kind.DoubleColon "::" ∷
    on 7 kind.Break "break" ∷ on 7 kind.Od "od" ∷ on 7 kind.CloseBrace "}" ∷ on 8 kind.Active "active" ∷
    on 8 kind.Proctype "proctype" ∷ on 8 kind.Name "P1" ∷ on 8 kind.OpenParen "(" ∷ on 8 kind.CloseParen ")" ∷
    on 8 kind.OpenBrace "{" ∷ on 8 kind.Byte "byte" ∷ on 8 kind.Name "k" ∷ on 8 kind.Semicolon ";" ∷ on 8 kind.Name "i0" ∷
    on 8 kind.Assign "=" ∷ on 8 kind.Number "255" ∷ on 8 kind.CloseBrace "}" ∷ []

model-ends-36 : Program
unfolding tokens-ends-36
model-ends-36 =
    let at : ℕ → Word = token_at tokens-ends-36 in
    let part : ℕ → ℕ → List Word = tokens_between tokens-ends-36 in
    record {
      globals = (slot (at 11) mtype false 0 1 1 (initial.Value (number 2)) ∷ slot (at 16) int false 1 1 1 (initial.Value (number 0)) ∷
          slot (at 21) int true 2 2 1 initial.Zero ∷ slot (at 40) (form.Struct 5) false 4 1 3 initial.Zero ∷ slot (at 43) chan false 7 1
          1 (initial.Channel 2 (byte ∷ mtype ∷ [])) ∷ []);
      constants = ((at 7) ∷ (at 5) ∷ (at 3) ∷ []);
      typedefs = (fields 5 (slot (at 30) byte false 0 1 1 initial.Zero ∷ slot (at 33) short true 1 2 1 initial.Zero ∷ []) ∷ []);
      proctypes = (
          process (at 57) 8 1 0 [] (
          plain (part 61 62) (holds expr.Timeout) ∷
          plain (part 63 97) (action.Printf (at 65) ((read (global 1 int)) ∷ (read (in_global 3 byte (turn 0 1 3 None ∷ turn 0 1 1 None
          ∷ []))) ∷ (read (in_global 3 short (turn 0 1 3 None ∷ turn 1 2 1 (Some (number 1)) ∷ []))) ∷ (read (in_global 2 int (turn 0
          2 1 (Some (number 0)) ∷ []))) ∷ (read (in_global 2 int (turn 0 2 1 (Some (number 1)) ∷ []))) ∷ (expr.Ask fill.Length (global
          4 chan)) ∷ expr.ProcessCount ∷ [])) ∷ []) (at 97) ∷
          process (at 100) 9 1 0 (slot (at 105) byte false 0 1 1 initial.Zero ∷ []) (
          plain (part 107 109) (action.Decrement (global 0 mtype)) ∷
          do_od (part 110 148) (
          (plain (part 112 130) (holds (expr.Binary op.Or (expr.Binary op.AtMost (read (in_global 2 int (turn 0 2 1 (Some (expr.Binary
          op.BitAnd (read (in_global 3 byte (turn 0 1 3 None ∷ turn 0 1 1 None ∷ []))) (number 1))) ∷ []))) (number 255)) (expr.Binary
          op.AtMost (number 0) (number 255)))) ∷
          plain (part 131 136) (action.Receive (global 4 chan) Matching Remove (want.Anything ∷ want.Exactly (pos 2) ∷ [])) ∷ []) ∷
          (plain (part 137 145) (action.Receive (global 4 chan) Matching Remove (want.Equal (read (global 1 int)) ∷ want.Into (global 0
          mtype) ∷ [])) ∷ []) ∷
          (stmt [] Break (part 146 147) ∷ []) ∷ []) ∷ []) (at 148) ∷
          process (at 151) 10 1 0 (slot (at 156) byte false 0 1 1 initial.Zero ∷ []) (
          plain (part 158 161) (assign (global 1 int) (number 255)) ∷ []) (at 161) ∷ []);
    }

abbrev end-1-of-ends-36 : Printed
end-1-of-ends-36 = shown (codes "255 0 0 0 0 0, 2 left\n") Invalid

abbrev end-2-of-ends-36 : Printed
end-2-of-ends-36 = shown (codes "255 0 0 0 0 0, 1 left\n") Valid

paths-of-ends-36 : paths model-ends-36 8 ≡ Some (end-1-of-ends-36 ∷ end-2-of-ends-36 ∷ end-1-of-ends-36 ∷ end-2-of-ends-36 ∷
    end-1-of-ends-36 ∷ end-2-of-ends-36 ∷ end-1-of-ends-36 ∷ end-2-of-ends-36 ∷ end-1-of-ends-36 ∷ end-2-of-ends-36 ∷ end-1-of-ends-36
    ∷ end-2-of-ends-36 ∷ [])
unfolding computes model-ends-36
paths-of-ends-36 = has_paths model-ends-36 8 _ refl

-- byte b0 = 0;
-- int i1 = 1;
-- chan q0 = [1] of { short, byte };
-- active proctype Watch() { timeout; printf("%d %d %d, %d left\n", b0, i1, len(q0), _nr_pr) }
-- active proctype P0() { byte k; if :: b0 = 1; i1 = 100 :: 255 != i1 -> i1 = 300; q0!(1 & 300), (7 / 2) :: else -> q0?1, 0 fi; if ::
--     b0 == 100 -> i1 = 300 fi }
-- active proctype P1() { byte k; (_pid != 100) }
tokens-ends-38 : List Word
tokens-ends-38 =
    on 1 kind.Byte "byte" ∷ on 1 kind.Name "b0" ∷ on 1 kind.Assign "=" ∷ on 1 kind.Number "0" ∷ on 1 kind.Semicolon ";" ∷
    on 2 kind.Int "int" ∷ on 2 kind.Name "i1" ∷ on 2 kind.Assign "=" ∷ on 2 kind.Number "1" ∷ on 2 kind.Semicolon ";" ∷
    on 3 kind.Chan "chan" ∷ on 3 kind.Name "q0" ∷ on 3 kind.Assign "=" ∷ on 3 kind.OpenBracket "[" ∷ on 3 kind.Number "1" ∷
    on 3 kind.CloseBracket "]" ∷ on 3 kind.Of "of" ∷ on 3 kind.OpenBrace "{" ∷ on 3 kind.Short "short" ∷ on 3 kind.Comma "," ∷
    on 3 kind.Byte "byte" ∷ on 3 kind.CloseBrace "}" ∷ on 3 kind.Semicolon ";" ∷ on 4 kind.Active "active" ∷
    on 4 kind.Proctype "proctype" ∷ on 4 kind.Name "Watch" ∷ on 4 kind.OpenParen "(" ∷ on 4 kind.CloseParen ")" ∷
    on 4 kind.OpenBrace "{" ∷ on 4 kind.Timeout "timeout" ∷ on 4 kind.Semicolon ";" ∷ on 4 kind.Printf "printf" ∷
    on 4 kind.OpenParen "(" ∷ on 4 kind.Quoted "\"%d %d %d, %d left\\n\"" ∷ on 4 kind.Comma "," ∷ on 4 kind.Name "b0" ∷
    on 4 kind.Comma "," ∷ on 4 kind.Name "i1" ∷ on 4 kind.Comma "," ∷ on 4 kind.Len "len" ∷ on 4 kind.OpenParen "(" ∷
    on 4 kind.Name "q0" ∷ on 4 kind.CloseParen ")" ∷ on 4 kind.Comma "," ∷ on 4 kind.Name "_nr_pr" ∷ on 4 kind.CloseParen ")" ∷
    on 4 kind.CloseBrace "}" ∷ on 5 kind.Active "active" ∷ on 5 kind.Proctype "proctype" ∷ on 5 kind.Name "P0" ∷
    on 5 kind.OpenParen "(" ∷ on 5 kind.CloseParen ")" ∷ on 5 kind.OpenBrace "{" ∷ on 5 kind.Byte "byte" ∷ on 5 kind.Name "k" ∷
    on 5 kind.Semicolon ";" ∷ on 5 kind.If "if" ∷ on 5 kind.DoubleColon "::" ∷ on 5 kind.Name "b0" ∷ on 5 kind.Assign "=" ∷
    on 5 kind.Number "1" ∷ on 5 kind.Semicolon ";" ∷ on 5 kind.Name "i1" ∷ on 5 kind.Assign "=" ∷ on 5 kind.Number "100" ∷
    on 5 kind.DoubleColon "::" ∷ on 5 kind.Number "255" ∷ on 5 kind.Unequal "!=" ∷ on 5 kind.Name "i1" ∷ on 5 kind.Arrow "->" ∷
    on 5 kind.Name "i1" ∷ on 5 kind.Assign "=" ∷ on 5 kind.Number "300" ∷ on 5 kind.Semicolon ";" ∷ on 5 kind.Name "q0" ∷
    on 5 kind.Bang "!" ∷ on 5 kind.OpenParen "(" ∷ on 5 kind.Number "1" ∷ on 5 kind.Ampersand "&" ∷ on 5 kind.Number "300" ∷
    on 5 kind.CloseParen ")" ∷ on 5 kind.Comma "," ∷ on 5 kind.OpenParen "(" ∷ on 5 kind.Number "7" ∷ on 5 kind.Slash "/" ∷
    on 5 kind.Number "2" ∷ on 5 kind.CloseParen ")" ∷ on 5 kind.DoubleColon "::" ∷ on 5 kind.Else "else" ∷ on 5 kind.Arrow "->" ∷
    on 5 kind.Name "q0" ∷ on 5 kind.Query "?" ∷ on 5 kind.Number "1" ∷ on 5 kind.Comma "," ∷ on 5 kind.Number "0" ∷
    on 5 kind.Fi "fi" ∷ on 5 kind.Semicolon ";" ∷ on 5 kind.If "if" ∷ on 5 kind.DoubleColon "::" ∷ on 5 kind.Name "b0" ∷
    on 5 kind.Equal "==" ∷ on 5 kind.Number "100" ∷ on 5 kind.Arrow "->" ∷ on 5 kind.Name "i1" ∷ on 5 kind.Assign "=" ∷
    on 5 kind.Number "300" ∷ on 5 kind.Fi "fi" ∷ on 5 kind.CloseBrace "}" ∷ on 6 kind.Active "active" ∷
    on 6 kind.Proctype "proctype" ∷ on 6 kind.Name "P1" ∷ on 6 kind.OpenParen "(" ∷ on 6 kind.CloseParen ")" ∷
    on 6 kind.OpenBrace "{" ∷ on 6 kind.Byte "byte" ∷ on 6 kind.Name "k" ∷ on 6 kind.Semicolon ";" ∷ on 6 kind.OpenParen "(" ∷
    on 6 kind.Name "_pid" ∷ on 6 kind.Unequal "!=" ∷ on 6 kind.Number "100" ∷ on 6 kind.CloseParen ")" ∷ on 6 kind.CloseBrace "}" ∷ []

model-ends-38 : Program
unfolding tokens-ends-38
model-ends-38 =
    let at : ℕ → Word = token_at tokens-ends-38 in
    let part : ℕ → ℕ → List Word = tokens_between tokens-ends-38 in
    record {
      globals = (slot (at 1) byte false 0 1 1 (initial.Value (number 0)) ∷ slot (at 6) int false 1 1 1 (initial.Value (number 1)) ∷
          slot (at 11) chan false 2 1 1 (initial.Channel 1 (short ∷ byte ∷ [])) ∷ []);
      constants = [];
      typedefs = [];
      proctypes = (
          process (at 25) 4 1 0 [] (
          plain (part 29 30) (holds expr.Timeout) ∷
          plain (part 31 46) (action.Printf (at 33) ((read (global 0 byte)) ∷ (read (global 1 int)) ∷ (expr.Ask fill.Length (global 2
          chan)) ∷ expr.ProcessCount ∷ [])) ∷ []) (at 46) ∷
          process (at 49) 5 1 0 (slot (at 54) byte false 0 1 1 initial.Zero ∷ []) (
          if_fi (part 56 96) (
          (plain (part 58 61) (assign (global 0 byte) (number 1)) ∷
          plain (part 62 65) (assign (global 1 int) (number 100)) ∷ []) ∷
          (plain (part 66 69) (holds (expr.Binary op.Unequal (number 255) (read (global 1 int)))) ∷
          plain (part 70 73) (assign (global 1 int) (number 300)) ∷
          plain (part 74 87) (action.Send (global 2 chan) Fifo ((expr.Binary op.BitAnd (number 1) (number 300)) ∷ (expr.Binary op.Divide
          (number 7) (number 2)) ∷ [])) ∷ []) ∷
          (plain (part 88 89) action.Else ∷
          plain (part 90 95) (action.Receive (global 2 chan) First Remove (want.Exactly (pos 1) ∷ want.Exactly (pos 0) ∷ [])) ∷ []) ∷ []) ∷
          if_fi (part 97 107) (
          (plain (part 99 102) (holds (expr.Binary op.Equal (read (global 0 byte)) (number 100))) ∷
          plain (part 103 106) (assign (global 1 int) (number 300)) ∷ []) ∷ []) ∷ []) (at 107) ∷
          process (at 110) 6 1 0 (slot (at 115) byte false 0 1 1 initial.Zero ∷ []) (
          plain (part 117 122) (holds (expr.Binary op.Unequal expr.Pid (number 100))) ∷ []) (at 122) ∷ []);
    }

abbrev end-1-of-ends-38 : Printed
end-1-of-ends-38 = shown (codes "1 100 0, 2 left\n") Invalid

abbrev end-2-of-ends-38 : Printed
end-2-of-ends-38 = shown (codes "0 300 1, 2 left\n") Invalid

paths-of-ends-38 : paths model-ends-38 7 ≡ Some (end-1-of-ends-38 ∷ end-1-of-ends-38 ∷ end-1-of-ends-38 ∷ end-2-of-ends-38 ∷
    end-2-of-ends-38 ∷ end-2-of-ends-38 ∷ end-2-of-ends-38 ∷ end-2-of-ends-38 ∷ end-2-of-ends-38 ∷ end-1-of-ends-38 ∷ end-1-of-ends-38
    ∷ end-2-of-ends-38 ∷ end-2-of-ends-38 ∷ end-2-of-ends-38 ∷ end-1-of-ends-38 ∷ end-2-of-ends-38 ∷ [])
unfolding computes model-ends-38
paths-of-ends-38 = has_paths model-ends-38 7 _ refl

-- mtype = { red, green, blue }; mtype m = green;
-- short s0 = 1;
-- active proctype Watch() { timeout; printf("%d, %d left\n", s0, _nr_pr) }
-- active proctype P0() { byte k; d_step { s0 = m; m = s0 } }
-- active proctype P1() { byte k; s0 = s0; m = s0 }
tokens-ends-57 : List Word
tokens-ends-57 =
    on 1 kind.Mtype "mtype" ∷ on 1 kind.Assign "=" ∷ on 1 kind.OpenBrace "{" ∷ on 1 kind.Name "red" ∷ on 1 kind.Comma "," ∷
    on 1 kind.Name "green" ∷ on 1 kind.Comma "," ∷ on 1 kind.Name "blue" ∷ on 1 kind.CloseBrace "}" ∷ on 1 kind.Semicolon ";" ∷
    on 1 kind.Mtype "mtype" ∷ on 1 kind.Name "m" ∷ on 1 kind.Assign "=" ∷ on 1 kind.Name "green" ∷ on 1 kind.Semicolon ";" ∷
    on 2 kind.Short "short" ∷ on 2 kind.Name "s0" ∷ on 2 kind.Assign "=" ∷ on 2 kind.Number "1" ∷ on 2 kind.Semicolon ";" ∷
    on 3 kind.Active "active" ∷ on 3 kind.Proctype "proctype" ∷ on 3 kind.Name "Watch" ∷ on 3 kind.OpenParen "(" ∷
    on 3 kind.CloseParen ")" ∷ on 3 kind.OpenBrace "{" ∷ on 3 kind.Timeout "timeout" ∷ on 3 kind.Semicolon ";" ∷
    on 3 kind.Printf "printf" ∷ on 3 kind.OpenParen "(" ∷ on 3 kind.Quoted "\"%d, %d left\\n\"" ∷ on 3 kind.Comma "," ∷
    on 3 kind.Name "s0" ∷ on 3 kind.Comma "," ∷ on 3 kind.Name "_nr_pr" ∷ on 3 kind.CloseParen ")" ∷ on 3 kind.CloseBrace "}" ∷
    on 4 kind.Active "active" ∷ on 4 kind.Proctype "proctype" ∷ on 4 kind.Name "P0" ∷ on 4 kind.OpenParen "(" ∷
    on 4 kind.CloseParen ")" ∷ on 4 kind.OpenBrace "{" ∷ on 4 kind.Byte "byte" ∷ on 4 kind.Name "k" ∷ on 4 kind.Semicolon ";" ∷
    on 4 kind.DStep "d_step" ∷ on 4 kind.OpenBrace "{" ∷ on 4 kind.Name "s0" ∷ on 4 kind.Assign "=" ∷ on 4 kind.Name "m" ∷
    on 4 kind.Semicolon ";" ∷ on 4 kind.Name "m" ∷ on 4 kind.Assign "=" ∷ on 4 kind.Name "s0" ∷ on 4 kind.CloseBrace "}" ∷
    on 4 kind.CloseBrace "}" ∷ on 5 kind.Active "active" ∷ on 5 kind.Proctype "proctype" ∷ on 5 kind.Name "P1" ∷
    on 5 kind.OpenParen "(" ∷ on 5 kind.CloseParen ")" ∷ on 5 kind.OpenBrace "{" ∷ on 5 kind.Byte "byte" ∷ on 5 kind.Name "k" ∷
    on 5 kind.Semicolon ";" ∷ on 5 kind.Name "s0" ∷ on 5 kind.Assign "=" ∷ on 5 kind.Name "s0" ∷ on 5 kind.Semicolon ";" ∷
    on 5 kind.Name "m" ∷ on 5 kind.Assign "=" ∷ on 5 kind.Name "s0" ∷ on 5 kind.CloseBrace "}" ∷ []

model-ends-57 : Program
unfolding tokens-ends-57
model-ends-57 =
    let at : ℕ → Word = token_at tokens-ends-57 in
    let part : ℕ → ℕ → List Word = tokens_between tokens-ends-57 in
    record {
      globals = (slot (at 11) mtype false 0 1 1 (initial.Value (number 2)) ∷ slot (at 16) short false 1 1 1 (initial.Value (number 1)) ∷ []);
      constants = ((at 7) ∷ (at 5) ∷ (at 3) ∷ []);
      typedefs = [];
      proctypes = (
          process (at 22) 4 1 0 [] (
          plain (part 26 27) (holds expr.Timeout) ∷
          plain (part 28 36) (action.Printf (at 30) ((read (global 1 short)) ∷ expr.ProcessCount ∷ [])) ∷ []) (at 36) ∷
          process (at 39) 5 1 0 (slot (at 44) byte false 0 1 1 initial.Zero ∷ []) (
          d_step (part 46 56) (
          plain (part 48 51) (assign (global 1 short) (read (global 0 mtype))) ∷
          plain (part 52 55) (assign (global 0 mtype) (read (global 1 short))) ∷ []) ∷ []) (at 56) ∷
          process (at 59) 6 1 0 (slot (at 64) byte false 0 1 1 initial.Zero ∷ []) (
          plain (part 66 69) (assign (global 1 short) (read (global 1 short))) ∷
          plain (part 70 73) (assign (global 0 mtype) (read (global 1 short))) ∷ []) (at 73) ∷ []);
    }

abbrev end-1-of-ends-57 : Printed
end-1-of-ends-57 = shown (codes "2, 1 left\n") Valid

abbrev end-2-of-ends-57 : Printed
end-2-of-ends-57 = shown (codes "1, 1 left\n") Valid

paths-of-ends-57 : paths model-ends-57 8 ≡ Some (end-1-of-ends-57 ∷ end-1-of-ends-57 ∷ end-2-of-ends-57 ∷ end-2-of-ends-57 ∷ [])
unfolding computes model-ends-57
paths-of-ends-57 = has_paths model-ends-57 8 _ refl

-- mtype = { red, green, blue }; mtype m = green;
-- int i0 = 0;
-- active proctype Watch() { timeout; printf("%d, %d left\n", i0, _nr_pr) }
-- active proctype P0() { byte k; i0 = _pid; (1 != (1 % 4)) }
-- active proctype P1() { byte k; i0 = ((-100) - m) }
tokens-ends-88 : List Word
tokens-ends-88 =
    on 1 kind.Mtype "mtype" ∷ on 1 kind.Assign "=" ∷ on 1 kind.OpenBrace "{" ∷ on 1 kind.Name "red" ∷ on 1 kind.Comma "," ∷
    on 1 kind.Name "green" ∷ on 1 kind.Comma "," ∷ on 1 kind.Name "blue" ∷ on 1 kind.CloseBrace "}" ∷ on 1 kind.Semicolon ";" ∷
    on 1 kind.Mtype "mtype" ∷ on 1 kind.Name "m" ∷ on 1 kind.Assign "=" ∷ on 1 kind.Name "green" ∷ on 1 kind.Semicolon ";" ∷
    on 2 kind.Int "int" ∷ on 2 kind.Name "i0" ∷ on 2 kind.Assign "=" ∷ on 2 kind.Number "0" ∷ on 2 kind.Semicolon ";" ∷
    on 3 kind.Active "active" ∷ on 3 kind.Proctype "proctype" ∷ on 3 kind.Name "Watch" ∷ on 3 kind.OpenParen "(" ∷
    on 3 kind.CloseParen ")" ∷ on 3 kind.OpenBrace "{" ∷ on 3 kind.Timeout "timeout" ∷ on 3 kind.Semicolon ";" ∷
    on 3 kind.Printf "printf" ∷ on 3 kind.OpenParen "(" ∷ on 3 kind.Quoted "\"%d, %d left\\n\"" ∷ on 3 kind.Comma "," ∷
    on 3 kind.Name "i0" ∷ on 3 kind.Comma "," ∷ on 3 kind.Name "_nr_pr" ∷ on 3 kind.CloseParen ")" ∷ on 3 kind.CloseBrace "}" ∷
    on 4 kind.Active "active" ∷ on 4 kind.Proctype "proctype" ∷ on 4 kind.Name "P0" ∷ on 4 kind.OpenParen "(" ∷
    on 4 kind.CloseParen ")" ∷ on 4 kind.OpenBrace "{" ∷ on 4 kind.Byte "byte" ∷ on 4 kind.Name "k" ∷ on 4 kind.Semicolon ";" ∷
    on 4 kind.Name "i0" ∷ on 4 kind.Assign "=" ∷ on 4 kind.Name "_pid" ∷ on 4 kind.Semicolon ";" ∷ on 4 kind.OpenParen "(" ∷
    on 4 kind.Number "1" ∷ on 4 kind.Unequal "!=" ∷ on 4 kind.OpenParen "(" ∷ on 4 kind.Number "1" ∷ on 4 kind.Percent "%" ∷
    on 4 kind.Number "4" ∷ on 4 kind.CloseParen ")" ∷ on 4 kind.CloseParen ")" ∷ on 4 kind.CloseBrace "}" ∷
    on 5 kind.Active "active" ∷ on 5 kind.Proctype "proctype" ∷ on 5 kind.Name "P1" ∷ on 5 kind.OpenParen "(" ∷
    on 5 kind.CloseParen ")" ∷ on 5 kind.OpenBrace "{" ∷ on 5 kind.Byte "byte" ∷ on 5 kind.Name "k" ∷ on 5 kind.Semicolon ";" ∷
    on 5 kind.Name "i0" ∷ on 5 kind.Assign "=" ∷ on 5 kind.OpenParen "(" ∷ on 5 kind.OpenParen "(" ∷ on 5 kind.Minus "-" ∷
    on 5 kind.Number "100" ∷ on 5 kind.CloseParen ")" ∷ on 5 kind.Minus "-" ∷ on 5 kind.Name "m" ∷ on 5 kind.CloseParen ")" ∷
    on 5 kind.CloseBrace "}" ∷ []

model-ends-88 : Program
unfolding tokens-ends-88
model-ends-88 =
    let at : ℕ → Word = token_at tokens-ends-88 in
    let part : ℕ → ℕ → List Word = tokens_between tokens-ends-88 in
    record {
      globals = (slot (at 11) mtype false 0 1 1 (initial.Value (number 2)) ∷ slot (at 16) int false 1 1 1 (initial.Value (number 0)) ∷ []);
      constants = ((at 7) ∷ (at 5) ∷ (at 3) ∷ []);
      typedefs = [];
      proctypes = (
          process (at 22) 4 1 0 [] (
          plain (part 26 27) (holds expr.Timeout) ∷
          plain (part 28 36) (action.Printf (at 30) ((read (global 1 int)) ∷ expr.ProcessCount ∷ [])) ∷ []) (at 36) ∷
          process (at 39) 5 1 0 (slot (at 44) byte false 0 1 1 initial.Zero ∷ []) (
          plain (part 46 49) (assign (global 1 int) expr.Pid) ∷
          plain (part 50 59) (holds (expr.Binary op.Unequal (number 1) (expr.Binary op.Remainder (number 1) (number 4)))) ∷ []) (at 59) ∷
          process (at 62) 6 1 0 (slot (at 67) byte false 0 1 1 initial.Zero ∷ []) (
          plain (part 69 79) (assign (global 1 int) (expr.Binary op.Minus (expr.Unary before.Minus (number 100)) (read (global 0
          mtype)))) ∷ []) (at 79) ∷ []);
    }

abbrev end-1-of-ends-88 : Printed
end-1-of-ends-88 = shown (codes "-102, 2 left\n") Invalid

abbrev end-2-of-ends-88 : Printed
end-2-of-ends-88 = shown (codes "1, 2 left\n") Invalid

paths-of-ends-88 : paths model-ends-88 5 ≡ Some (end-1-of-ends-88 ∷ end-2-of-ends-88 ∷ end-2-of-ends-88 ∷ [])
unfolding computes model-ends-88
paths-of-ends-88 = has_paths model-ends-88 5 _ refl

-- byte b0 = 1;
-- short s1 = 0;
-- chan q0 = [0] of { byte };
-- active proctype Watch() { timeout; printf("%d %d %d, %d left\n", b0, s1, len(q0), _nr_pr) }
-- active proctype P0() { byte k; do :: q0!(0 * 3) :: s1--; q0!(2 * 255) :: break od }
-- proctype Q(byte n) { q0??0; b0 = _pid }
-- init { run Q(3) }
tokens-ends-92 : List Word
tokens-ends-92 =
    on 1 kind.Byte "byte" ∷ on 1 kind.Name "b0" ∷ on 1 kind.Assign "=" ∷ on 1 kind.Number "1" ∷ on 1 kind.Semicolon ";" ∷
    on 2 kind.Short "short" ∷ on 2 kind.Name "s1" ∷ on 2 kind.Assign "=" ∷ on 2 kind.Number "0" ∷ on 2 kind.Semicolon ";" ∷
    on 3 kind.Chan "chan" ∷ on 3 kind.Name "q0" ∷ on 3 kind.Assign "=" ∷ on 3 kind.OpenBracket "[" ∷ on 3 kind.Number "0" ∷
    on 3 kind.CloseBracket "]" ∷ on 3 kind.Of "of" ∷ on 3 kind.OpenBrace "{" ∷ on 3 kind.Byte "byte" ∷ on 3 kind.CloseBrace "}" ∷
    on 3 kind.Semicolon ";" ∷ on 4 kind.Active "active" ∷ on 4 kind.Proctype "proctype" ∷ on 4 kind.Name "Watch" ∷
    on 4 kind.OpenParen "(" ∷ on 4 kind.CloseParen ")" ∷ on 4 kind.OpenBrace "{" ∷ on 4 kind.Timeout "timeout" ∷
    on 4 kind.Semicolon ";" ∷ on 4 kind.Printf "printf" ∷ on 4 kind.OpenParen "(" ∷ on 4 kind.Quoted "\"%d %d %d, %d left\\n\"" ∷
    on 4 kind.Comma "," ∷ on 4 kind.Name "b0" ∷ on 4 kind.Comma "," ∷ on 4 kind.Name "s1" ∷ on 4 kind.Comma "," ∷
    on 4 kind.Len "len" ∷ on 4 kind.OpenParen "(" ∷ on 4 kind.Name "q0" ∷ on 4 kind.CloseParen ")" ∷ on 4 kind.Comma "," ∷
    on 4 kind.Name "_nr_pr" ∷ on 4 kind.CloseParen ")" ∷ on 4 kind.CloseBrace "}" ∷ on 5 kind.Active "active" ∷
    on 5 kind.Proctype "proctype" ∷ on 5 kind.Name "P0" ∷ on 5 kind.OpenParen "(" ∷ on 5 kind.CloseParen ")" ∷
    on 5 kind.OpenBrace "{" ∷ on 5 kind.Byte "byte" ∷ on 5 kind.Name "k" ∷ on 5 kind.Semicolon ";" ∷ on 5 kind.Do "do" ∷
    on 5 kind.DoubleColon "::" ∷ on 5 kind.Name "q0" ∷ on 5 kind.Bang "!" ∷ on 5 kind.OpenParen "(" ∷ on 5 kind.Number "0" ∷
    on 5 kind.Star "*" ∷ on 5 kind.Number "3" ∷ on 5 kind.CloseParen ")" ∷ on 5 kind.DoubleColon "::" ∷ on 5 kind.Name "s1" ∷
    on 5 kind.Decrement "--" ∷ on 5 kind.Semicolon ";" ∷ on 5 kind.Name "q0" ∷ on 5 kind.Bang "!" ∷ on 5 kind.OpenParen "(" ∷
    on 5 kind.Number "2" ∷ on 5 kind.Star "*" ∷ on 5 kind.Number "255" ∷ on 5 kind.CloseParen ")" ∷ on 5 kind.DoubleColon "::" ∷
    on 5 kind.Break "break" ∷ on 5 kind.Od "od" ∷ on 5 kind.CloseBrace "}" ∷ on 6 kind.Proctype "proctype" ∷ on 6 kind.Name "Q" ∷
    on 6 kind.OpenParen "(" ∷ on 6 kind.Byte "byte" ∷ on 6 kind.Name "n" ∷ on 6 kind.CloseParen ")" ∷ on 6 kind.OpenBrace "{" ∷
    on 6 kind.Name "q0" ∷ on 6 kind.QueryQuery "??" ∷ on 6 kind.Number "0" ∷ on 6 kind.Semicolon ";" ∷ on 6 kind.Name "b0" ∷
    on 6 kind.Assign "=" ∷ on 6 kind.Name "_pid" ∷ on 6 kind.CloseBrace "}" ∷ on 7 kind.Init "init" ∷ on 7 kind.OpenBrace "{" ∷
    on 7 kind.Run "run" ∷ on 7 kind.Name "Q" ∷ on 7 kind.OpenParen "(" ∷ on 7 kind.Number "3" ∷ on 7 kind.CloseParen ")" ∷
    on 7 kind.CloseBrace "}" ∷ []

model-ends-92 : Program
unfolding tokens-ends-92
model-ends-92 =
    let at : ℕ → Word = token_at tokens-ends-92 in
    let part : ℕ → ℕ → List Word = tokens_between tokens-ends-92 in
    record {
      globals = (slot (at 1) byte false 0 1 1 (initial.Value (number 1)) ∷ slot (at 6) short false 1 1 1 (initial.Value (number 0)) ∷
          slot (at 11) chan false 2 1 1 (initial.Channel 0 (byte ∷ [])) ∷ []);
      constants = [];
      typedefs = [];
      proctypes = (
          process (at 23) 4 1 0 [] (
          plain (part 27 28) (holds expr.Timeout) ∷
          plain (part 29 44) (action.Printf (at 31) ((read (global 0 byte)) ∷ (read (global 1 short)) ∷ (expr.Ask fill.Length (global 2
          chan)) ∷ expr.ProcessCount ∷ [])) ∷ []) (at 44) ∷
          process (at 47) 5 1 0 (slot (at 52) byte false 0 1 1 initial.Zero ∷ []) (
          do_od (part 54 77) (
          (plain (part 56 63) (action.Send (global 2 chan) Fifo ((expr.Binary op.Times (number 0) (number 3)) ∷ [])) ∷ []) ∷
          (plain (part 64 66) (action.Decrement (global 1 short)) ∷
          plain (part 67 74) (action.Send (global 2 chan) Fifo ((expr.Binary op.Times (number 2) (number 255)) ∷ [])) ∷ []) ∷
          (stmt [] Break (part 75 76) ∷ []) ∷ []) ∷ []) (at 77) ∷
          process (at 79) 6 0 1 (slot (at 82) byte false 0 1 1 initial.Zero ∷ []) (
          plain (part 85 88) (action.Receive (global 2 chan) Matching Remove (want.Exactly (pos 0) ∷ [])) ∷
          plain (part 89 92) (assign (global 0 byte) expr.Pid) ∷ []) (at 92) ∷
          process (at 93) 7 1 0 [] (
          plain (part 95 100) (action.Run (run 2 ((number 3) ∷ []))) ∷ []) (at 100) ∷ []);
    }

abbrev end-1-of-ends-92 : Printed
end-1-of-ends-92 = shown (codes "1 -1 0, 4 left\n") Invalid

abbrev end-2-of-ends-92 : Printed
end-2-of-ends-92 = shown (codes "1 0 0, 4 left\n") Invalid

abbrev end-3-of-ends-92 : Printed
end-3-of-ends-92 = shown (codes "3 -1 0, 2 left\n") Invalid

abbrev end-4-of-ends-92 : Printed
end-4-of-ends-92 = shown (codes "3 0 0, 1 left\n") Valid

paths-of-ends-92 : paths model-ends-92 10 ≡ Some (end-1-of-ends-92 ∷ end-2-of-ends-92 ∷ end-3-of-ends-92 ∷ end-4-of-ends-92 ∷
    end-3-of-ends-92 ∷ end-4-of-ends-92 ∷ end-3-of-ends-92 ∷ end-4-of-ends-92 ∷ end-3-of-ends-92 ∷ end-4-of-ends-92 ∷ end-1-of-ends-92
    ∷ end-2-of-ends-92 ∷ [])
unfolding computes model-ends-92
paths-of-ends-92 = has_paths model-ends-92 10 _ refl
