-- All paths of small random models, whose ends are those of Spin's full search. `tools/spin-ends` made the models and their data.
use Rattle.std.proofs.Common.{◌≡◌, ℕ, List, [], ◌∷◌, true, false, refl, Some}
use Rattle.std.specs.Prelude.{codes, pos}
use Rattle.pml_token.specs.Word.{Word}
use Rattle.pml_tree.specs.declared.tree.Search.TheVariants.{First, Matching}
use Rattle.pml_tree.specs.declared.tree.Removal.TheVariants.{Remove}
use Rattle.pml_tree.specs.declared.tree.SendOrder.TheVariants.{Fifo}
use Rattle.pml_program.specs.declared.program.Program.{Program}
use Rattle.pml_program.specs.declared.program.Basic.{Break}
use Rattle.worked_runs.proofs.Models.{on, token_at, tokens_between, byte, chan, mtype, short, int, slot, turn, in_global, local, global, number, read, run, assign, holds, stmt, plain, block, atomic, d_step, if_fi, do_od, unless, process}
use Rattle.worked_runs.proofs.Same.{computes}
use Rattle.worked_runs.specs.Printed.{Printed, Valid, Invalid}
use Rattle.worked_runs.specs.Ends.{paths}
use Rattle.worked_runs.proofs.Same.{has_paths}
use Rattle.worked_runs.proofs.Models.{shown}
use Rattle.pml_token.specs.declared.token.Kind.TheVariants as kind
use Rattle.pml_tree.specs.declared.tree.Infix.TheVariants as op
use Rattle.pml_tree.specs.declared.tree.Prefix.TheVariants as before
use Rattle.pml_tree.specs.declared.tree.Fill.TheVariants as fill
use Rattle.pml_program.specs.declared.form.Form.TheVariants as form
use Rattle.pml_program.specs.declared.expr.Expr.TheVariants as expr
use Rattle.pml_program.specs.declared.expr.Want.TheVariants as want
use Rattle.pml_program.specs.declared.program.Initial.TheVariants as initial
use Rattle.pml_program.specs.declared.program.Action.TheVariants as action

-- mtype = { red, green, blue }; mtype m = green;
-- short s0 = 0;
-- active proctype Watch() { timeout; printf("%d, %d left\n", s0, _nr_pr) }
-- active proctype P0() { byte k; if :: ((3 % 1) <= (300 + 0)); ((3 - 0) < m) :: (3 << 4) != 2 -> s0 = 100 :: else -> (((3 - 7) == 0
--     && 1 != 255)) fi }
-- active proctype P1() { byte k; if :: (0 < 0); (0 >= m) :: else -> s0++ fi; if :: s0--; (m < s0) :: 1 < (300 != 1 -> 0 : 0) -> (s0
--     >= _nr_pr) fi }
tokens-ends-716 : List Word
tokens-ends-716 =
    on 1 kind.Mtype "mtype" ∷ on 1 kind.Assign "=" ∷ on 1 kind.OpenBrace "{" ∷ on 1 kind.Name "red" ∷ on 1 kind.Comma "," ∷
    on 1 kind.Name "green" ∷ on 1 kind.Comma "," ∷ on 1 kind.Name "blue" ∷ on 1 kind.CloseBrace "}" ∷ on 1 kind.Semicolon ";" ∷
    on 1 kind.Mtype "mtype" ∷ on 1 kind.Name "m" ∷ on 1 kind.Assign "=" ∷ on 1 kind.Name "green" ∷ on 1 kind.Semicolon ";" ∷
    on 2 kind.Short "short" ∷ on 2 kind.Name "s0" ∷ on 2 kind.Assign "=" ∷ on 2 kind.Number "0" ∷ on 2 kind.Semicolon ";" ∷
    on 3 kind.Active "active" ∷ on 3 kind.Proctype "proctype" ∷ on 3 kind.Name "Watch" ∷ on 3 kind.OpenParen "(" ∷
    on 3 kind.CloseParen ")" ∷ on 3 kind.OpenBrace "{" ∷ on 3 kind.Timeout "timeout" ∷ on 3 kind.Semicolon ";" ∷
    on 3 kind.Printf "printf" ∷ on 3 kind.OpenParen "(" ∷ on 3 kind.Quoted "\"%d, %d left\\n\"" ∷ on 3 kind.Comma "," ∷
    on 3 kind.Name "s0" ∷ on 3 kind.Comma "," ∷ on 3 kind.Name "_nr_pr" ∷ on 3 kind.CloseParen ")" ∷ on 3 kind.CloseBrace "}" ∷
    on 4 kind.Active "active" ∷ on 4 kind.Proctype "proctype" ∷ on 4 kind.Name "P0" ∷ on 4 kind.OpenParen "(" ∷
    on 4 kind.CloseParen ")" ∷ on 4 kind.OpenBrace "{" ∷ on 4 kind.Byte "byte" ∷ on 4 kind.Name "k" ∷ on 4 kind.Semicolon ";" ∷
    on 4 kind.If "if" ∷ on 4 kind.DoubleColon "::" ∷ on 4 kind.OpenParen "(" ∷ on 4 kind.OpenParen "(" ∷ on 4 kind.Number "3" ∷
    on 4 kind.Percent "%" ∷ on 4 kind.Number "1" ∷ on 4 kind.CloseParen ")" ∷ on 4 kind.AtMost "<=" ∷ on 4 kind.OpenParen "(" ∷
    on 4 kind.Number "300" ∷ on 4 kind.Plus "+" ∷ on 4 kind.Number "0" ∷ on 4 kind.CloseParen ")" ∷ on 4 kind.CloseParen ")" ∷
    on 4 kind.Semicolon ";" ∷ on 4 kind.OpenParen "(" ∷ on 4 kind.OpenParen "(" ∷ on 4 kind.Number "3" ∷ on 4 kind.Minus "-" ∷
    on 4 kind.Number "0" ∷ on 4 kind.CloseParen ")" ∷ on 4 kind.Less "<" ∷ on 4 kind.Name "m" ∷ on 4 kind.CloseParen ")" ∷
    on 4 kind.DoubleColon "::" ∷ on 4 kind.OpenParen "(" ∷ on 4 kind.Number "3" ∷ on 4 kind.ShiftLeft "<<" ∷ on 4 kind.Number "4" ∷
    on 4 kind.CloseParen ")" ∷ on 4 kind.Unequal "!=" ∷ on 4 kind.Number "2" ∷ on 4 kind.Arrow "->" ∷ on 4 kind.Name "s0" ∷
    on 4 kind.Assign "=" ∷ on 4 kind.Number "100" ∷ on 4 kind.DoubleColon "::" ∷ on 4 kind.Else "else" ∷ on 4 kind.Arrow "->" ∷
    on 4 kind.OpenParen "(" ∷ on 4 kind.OpenParen "(" ∷ on 4 kind.OpenParen "(" ∷ on 4 kind.Number "3" ∷ on 4 kind.Minus "-" ∷
    on 4 kind.Number "7" ∷ on 4 kind.CloseParen ")" ∷ on 4 kind.Equal "==" ∷ on 4 kind.Number "0" ∷ on 4 kind.AndAnd "&&" ∷
    on 4 kind.Number "1" ∷ on 4 kind.Unequal "!=" ∷ on 4 kind.Number "255" ∷ on 4 kind.CloseParen ")" ∷ on 4 kind.CloseParen ")" ∷
    on 4 kind.Fi "fi" ∷ on 4 kind.CloseBrace "}" ∷ on 5 kind.Active "active" ∷ on 5 kind.Proctype "proctype" ∷ on 5 kind.Name "P1" ∷
    on 5 kind.OpenParen "(" ∷ on 5 kind.CloseParen ")" ∷ on 5 kind.OpenBrace "{" ∷ on 5 kind.Byte "byte" ∷ on 5 kind.Name "k" ∷
    on 5 kind.Semicolon ";" ∷ on 5 kind.If "if" ∷ on 5 kind.DoubleColon "::" ∷ on 5 kind.OpenParen "(" ∷ on 5 kind.Number "0" ∷
    on 5 kind.Less "<" ∷ on 5 kind.Number "0" ∷ on 5 kind.CloseParen ")" ∷ on 5 kind.Semicolon ";" ∷ on 5 kind.OpenParen "(" ∷
    on 5 kind.Number "0" ∷ on 5 kind.AtLeast ">=" ∷ on 5 kind.Name "m" ∷ on 5 kind.CloseParen ")" ∷ on 5 kind.DoubleColon "::" ∷
    on 5 kind.Else "else" ∷ on 5 kind.Arrow "->" ∷ on 5 kind.Name "s0" ∷ on 5 kind.Increment "++" ∷ on 5 kind.Fi "fi" ∷
    on 5 kind.Semicolon ";" ∷ on 5 kind.If "if" ∷ on 5 kind.DoubleColon "::" ∷ on 5 kind.Name "s0" ∷ on 5 kind.Decrement "--" ∷
    on 5 kind.Semicolon ";" ∷ on 5 kind.OpenParen "(" ∷ on 5 kind.Name "m" ∷ on 5 kind.Less "<" ∷ on 5 kind.Name "s0" ∷
    on 5 kind.CloseParen ")" ∷ on 5 kind.DoubleColon "::" ∷ on 5 kind.Number "1" ∷ on 5 kind.Less "<" ∷ on 5 kind.OpenParen "(" ∷
    on 5 kind.Number "300" ∷ on 5 kind.Unequal "!=" ∷ on 5 kind.Number "1" ∷ on 5 kind.Arrow "->" ∷ on 5 kind.Number "0" ∷
    on 5 kind.Colon ":" ∷ on 5 kind.Number "0" ∷ on 5 kind.CloseParen ")" ∷ on 5 kind.Arrow "->" ∷ on 5 kind.OpenParen "(" ∷
    on 5 kind.Name "s0" ∷ on 5 kind.AtLeast ">=" ∷ on 5 kind.Name "_nr_pr" ∷ on 5 kind.CloseParen ")" ∷ on 5 kind.Fi "fi" ∷
    on 5 kind.CloseBrace "}" ∷ []

model-ends-716 : Program
unfolding tokens-ends-716
model-ends-716 =
    let at : ℕ → Word = token_at tokens-ends-716 in
    let part : ℕ → ℕ → List Word = tokens_between tokens-ends-716 in
    record {
      globals = (slot (at 11) mtype false 0 1 1 (initial.Value (number 2)) ∷ slot (at 16) short false 1 1 1 (initial.Value (number 0)) ∷ []);
      constants = ((at 7) ∷ (at 5) ∷ (at 3) ∷ []);
      typedefs = [];
      proctypes = (
          process (at 22) 4 1 0 [] (
          plain (part 26 27) (holds expr.Timeout) ∷
          plain (part 28 36) (action.Printf (at 30) ((read (global 1 short)) ∷ expr.ProcessCount ∷ [])) ∷ []) (at 36) ∷
          process (at 39) 5 1 0 (slot (at 44) byte false 0 1 1 initial.Zero ∷ []) (
          if_fi (part 46 102) (
          (plain (part 48 61) (holds (expr.Binary op.AtMost (expr.Binary op.Remainder (number 3) (number 1)) (expr.Binary op.Plus
          (number 300) (number 0)))) ∷
          plain (part 62 71) (holds (expr.Binary op.Below (expr.Binary op.Minus (number 3) (number 0)) (read (global 0 mtype)))) ∷ []) ∷
          (plain (part 72 79) (holds (expr.Binary op.Unequal (expr.Binary op.ShiftLeft (number 3) (number 4)) (number 2))) ∷
          plain (part 80 83) (assign (global 1 short) (number 100)) ∷ []) ∷
          (plain (part 84 85) action.Else ∷
          plain (part 86 101) (holds (expr.Binary op.And (expr.Binary op.Equal (expr.Binary op.Minus (number 3) (number 7)) (number 0))
          (expr.Binary op.Unequal (number 1) (number 255)))) ∷ []) ∷ []) ∷ []) (at 102) ∷
          process (at 105) 6 1 0 (slot (at 110) byte false 0 1 1 initial.Zero ∷ []) (
          if_fi (part 112 131) (
          (plain (part 114 119) (holds (expr.Binary op.Below (number 0) (number 0))) ∷
          plain (part 120 125) (holds (expr.Binary op.AtLeast (number 0) (read (global 0 mtype)))) ∷ []) ∷
          (plain (part 126 127) action.Else ∷
          plain (part 128 130) (action.Increment (global 1 short)) ∷ []) ∷ []) ∷
          if_fi (part 132 161) (
          (plain (part 134 136) (action.Decrement (global 1 short)) ∷
          plain (part 137 142) (holds (expr.Binary op.Below (read (global 0 mtype)) (read (global 1 short)))) ∷ []) ∷
          (plain (part 143 154) (holds (expr.Binary op.Below (number 1) (expr.Choice (expr.Binary op.Unequal (number 300) (number 1))
          (number 0) (number 0)))) ∷
          plain (part 155 160) (holds (expr.Binary op.AtLeast (read (global 1 short)) expr.ProcessCount)) ∷ []) ∷ []) ∷ []) (at 161) ∷ []);
    }

abbrev end-1-of-ends-716 : Printed
end-1-of-ends-716 = shown (codes "0, 3 left\n") Invalid

abbrev end-2-of-ends-716 : Printed
end-2-of-ends-716 = shown (codes "100, 1 left\n") Valid

abbrev end-3-of-ends-716 : Printed
end-3-of-ends-716 = shown (codes "99, 1 left\n") Valid

paths-of-ends-716 : paths model-ends-716 11 ≡ Some (end-1-of-ends-716 ∷ end-2-of-ends-716 ∷ end-2-of-ends-716 ∷ end-3-of-ends-716 ∷
    end-2-of-ends-716 ∷ end-1-of-ends-716 ∷ end-2-of-ends-716 ∷ end-3-of-ends-716 ∷ end-2-of-ends-716 ∷ end-1-of-ends-716 ∷
    end-3-of-ends-716 ∷ end-2-of-ends-716 ∷ end-1-of-ends-716 ∷ end-2-of-ends-716 ∷ [])
unfolding computes model-ends-716
paths-of-ends-716 = has_paths model-ends-716 11 _ refl

-- mtype = { red, green, blue }; mtype m = green;
-- unsigned u0 : 3 = 0;
-- chan q0 = [1] of { byte, mtype };
-- active proctype Watch() { timeout; printf("%d %d, %d left\n", u0, len(q0), _nr_pr) }
-- active proctype P0() { byte k; if :: m = 300; u0++ :: (300 - 7) > 2 -> (m <= (1 / 1)); u0 = (m - (0 != 0 -> 300 : 2)) fi; u0-- }
tokens-ends-717 : List Word
tokens-ends-717 =
    on 1 kind.Mtype "mtype" ∷ on 1 kind.Assign "=" ∷ on 1 kind.OpenBrace "{" ∷ on 1 kind.Name "red" ∷ on 1 kind.Comma "," ∷
    on 1 kind.Name "green" ∷ on 1 kind.Comma "," ∷ on 1 kind.Name "blue" ∷ on 1 kind.CloseBrace "}" ∷ on 1 kind.Semicolon ";" ∷
    on 1 kind.Mtype "mtype" ∷ on 1 kind.Name "m" ∷ on 1 kind.Assign "=" ∷ on 1 kind.Name "green" ∷ on 1 kind.Semicolon ";" ∷
    on 2 kind.Unsigned "unsigned" ∷ on 2 kind.Name "u0" ∷ on 2 kind.Colon ":" ∷ on 2 kind.Number "3" ∷ on 2 kind.Assign "=" ∷
    on 2 kind.Number "0" ∷ on 2 kind.Semicolon ";" ∷ on 3 kind.Chan "chan" ∷ on 3 kind.Name "q0" ∷ on 3 kind.Assign "=" ∷
    on 3 kind.OpenBracket "[" ∷ on 3 kind.Number "1" ∷ on 3 kind.CloseBracket "]" ∷ on 3 kind.Of "of" ∷ on 3 kind.OpenBrace "{" ∷
    on 3 kind.Byte "byte" ∷ on 3 kind.Comma "," ∷ on 3 kind.Mtype "mtype" ∷ on 3 kind.CloseBrace "}" ∷ on 3 kind.Semicolon ";" ∷
    on 4 kind.Active "active" ∷ on 4 kind.Proctype "proctype" ∷ on 4 kind.Name "Watch" ∷ on 4 kind.OpenParen "(" ∷
    on 4 kind.CloseParen ")" ∷ on 4 kind.OpenBrace "{" ∷ on 4 kind.Timeout "timeout" ∷ on 4 kind.Semicolon ";" ∷
    on 4 kind.Printf "printf" ∷ on 4 kind.OpenParen "(" ∷ on 4 kind.Quoted "\"%d %d, %d left\\n\"" ∷ on 4 kind.Comma "," ∷
    on 4 kind.Name "u0" ∷ on 4 kind.Comma "," ∷ on 4 kind.Len "len" ∷ on 4 kind.OpenParen "(" ∷ on 4 kind.Name "q0" ∷
    on 4 kind.CloseParen ")" ∷ on 4 kind.Comma "," ∷ on 4 kind.Name "_nr_pr" ∷ on 4 kind.CloseParen ")" ∷ on 4 kind.CloseBrace "}" ∷
    on 5 kind.Active "active" ∷ on 5 kind.Proctype "proctype" ∷ on 5 kind.Name "P0" ∷ on 5 kind.OpenParen "(" ∷
    on 5 kind.CloseParen ")" ∷ on 5 kind.OpenBrace "{" ∷ on 5 kind.Byte "byte" ∷ on 5 kind.Name "k" ∷ on 5 kind.Semicolon ";" ∷
    on 5 kind.If "if" ∷ on 5 kind.DoubleColon "::" ∷ on 5 kind.Name "m" ∷ on 5 kind.Assign "=" ∷ on 5 kind.Number "300" ∷
    on 5 kind.Semicolon ";" ∷ on 5 kind.Name "u0" ∷ on 5 kind.Increment "++" ∷ on 5 kind.DoubleColon "::" ∷ on 5 kind.OpenParen "(" ∷
    on 5 kind.Number "300" ∷ on 5 kind.Minus "-" ∷ on 5 kind.Number "7" ∷ on 5 kind.CloseParen ")" ∷ on 5 kind.Greater ">" ∷
    on 5 kind.Number "2" ∷ on 5 kind.Arrow "->" ∷ on 5 kind.OpenParen "(" ∷ on 5 kind.Name "m" ∷ on 5 kind.AtMost "<=" ∷
    on 5 kind.OpenParen "(" ∷ on 5 kind.Number "1" ∷ on 5 kind.Slash "/" ∷ on 5 kind.Number "1" ∷ on 5 kind.CloseParen ")" ∷
    on 5 kind.CloseParen ")" ∷ on 5 kind.Semicolon ";" ∷ on 5 kind.Name "u0" ∷ on 5 kind.Assign "=" ∷ on 5 kind.OpenParen "(" ∷
    on 5 kind.Name "m" ∷ on 5 kind.Minus "-" ∷ on 5 kind.OpenParen "(" ∷ on 5 kind.Number "0" ∷ on 5 kind.Unequal "!=" ∷
    on 5 kind.Number "0" ∷ on 5 kind.Arrow "->" ∷ on 5 kind.Number "300" ∷ on 5 kind.Colon ":" ∷ on 5 kind.Number "2" ∷
    on 5 kind.CloseParen ")" ∷ on 5 kind.CloseParen ")" ∷ on 5 kind.Fi "fi" ∷ on 5 kind.Semicolon ";" ∷ on 5 kind.Name "u0" ∷
    on 5 kind.Decrement "--" ∷ on 5 kind.CloseBrace "}" ∷ []

model-ends-717 : Program
unfolding tokens-ends-717
model-ends-717 =
    let at : ℕ → Word = token_at tokens-ends-717 in
    let part : ℕ → ℕ → List Word = tokens_between tokens-ends-717 in
    record {
      globals = (slot (at 11) mtype false 0 1 1 (initial.Value (number 2)) ∷ slot (at 16) (form.Unsigned 3) false 1 1 1 (initial.Value
          (number 0)) ∷ slot (at 23) chan false 2 1 1 (initial.Channel 1 (byte ∷ mtype ∷ [])) ∷ []);
      constants = ((at 7) ∷ (at 5) ∷ (at 3) ∷ []);
      typedefs = [];
      proctypes = (
          process (at 37) 5 1 0 [] (
          plain (part 41 42) (holds expr.Timeout) ∷
          plain (part 43 56) (action.Printf (at 45) ((read (global 1 (form.Unsigned 3))) ∷ (expr.Ask fill.Length (global 2 chan)) ∷
          expr.ProcessCount ∷ [])) ∷ []) (at 56) ∷
          process (at 59) 6 1 0 (slot (at 64) byte false 0 1 1 initial.Zero ∷ []) (
          if_fi (part 66 109) (
          (plain (part 68 71) (assign (global 0 mtype) (number 300)) ∷
          plain (part 72 74) (action.Increment (global 1 (form.Unsigned 3))) ∷ []) ∷
          (plain (part 75 82) (holds (expr.Binary op.Above (expr.Binary op.Minus (number 300) (number 7)) (number 2))) ∷
          plain (part 83 92) (holds (expr.Binary op.AtMost (read (global 0 mtype)) (expr.Binary op.Divide (number 1) (number 1)))) ∷
          plain (part 93 108) (assign (global 1 (form.Unsigned 3)) (expr.Binary op.Minus (read (global 0 mtype)) (expr.Choice
          (expr.Binary op.Unequal (number 0) (number 0)) (number 300) (number 2)))) ∷ []) ∷ []) ∷
          plain (part 110 112) (action.Decrement (global 1 (form.Unsigned 3))) ∷ []) (at 112) ∷ []);
    }

abbrev end-1-of-ends-717 : Printed
end-1-of-ends-717 = shown (codes "0 0, 1 left\n") Valid

abbrev end-2-of-ends-717 : Printed
end-2-of-ends-717 = shown (codes "0 0, 2 left\n") Invalid

paths-of-ends-717 : paths model-ends-717 7 ≡ Some (end-1-of-ends-717 ∷ end-2-of-ends-717 ∷ [])
unfolding computes model-ends-717
paths-of-ends-717 = has_paths model-ends-717 7 _ refl

-- unsigned u0 : 3 = 0;
-- byte b1 = 1;
-- active proctype Watch() { timeout; printf("%d %d, %d left\n", u0, b1, _nr_pr) }
-- active proctype P0() { byte k; u0--; b1 = (b1 ^ u0) }
-- proctype Q(byte n) { u0 = (!1) }
-- init { run Q(0) }
tokens-ends-728 : List Word
tokens-ends-728 =
    on 1 kind.Unsigned "unsigned" ∷ on 1 kind.Name "u0" ∷ on 1 kind.Colon ":" ∷ on 1 kind.Number "3" ∷ on 1 kind.Assign "=" ∷
    on 1 kind.Number "0" ∷ on 1 kind.Semicolon ";" ∷ on 2 kind.Byte "byte" ∷ on 2 kind.Name "b1" ∷ on 2 kind.Assign "=" ∷
    on 2 kind.Number "1" ∷ on 2 kind.Semicolon ";" ∷ on 3 kind.Active "active" ∷ on 3 kind.Proctype "proctype" ∷
    on 3 kind.Name "Watch" ∷ on 3 kind.OpenParen "(" ∷ on 3 kind.CloseParen ")" ∷ on 3 kind.OpenBrace "{" ∷
    on 3 kind.Timeout "timeout" ∷ on 3 kind.Semicolon ";" ∷ on 3 kind.Printf "printf" ∷ on 3 kind.OpenParen "(" ∷
    on 3 kind.Quoted "\"%d %d, %d left\\n\"" ∷ on 3 kind.Comma "," ∷ on 3 kind.Name "u0" ∷ on 3 kind.Comma "," ∷
    on 3 kind.Name "b1" ∷ on 3 kind.Comma "," ∷ on 3 kind.Name "_nr_pr" ∷ on 3 kind.CloseParen ")" ∷ on 3 kind.CloseBrace "}" ∷
    on 4 kind.Active "active" ∷ on 4 kind.Proctype "proctype" ∷ on 4 kind.Name "P0" ∷ on 4 kind.OpenParen "(" ∷
    on 4 kind.CloseParen ")" ∷ on 4 kind.OpenBrace "{" ∷ on 4 kind.Byte "byte" ∷ on 4 kind.Name "k" ∷ on 4 kind.Semicolon ";" ∷
    on 4 kind.Name "u0" ∷ on 4 kind.Decrement "--" ∷ on 4 kind.Semicolon ";" ∷ on 4 kind.Name "b1" ∷ on 4 kind.Assign "=" ∷
    on 4 kind.OpenParen "(" ∷ on 4 kind.Name "b1" ∷ on 4 kind.Caret "^" ∷ on 4 kind.Name "u0" ∷ on 4 kind.CloseParen ")" ∷
    on 4 kind.CloseBrace "}" ∷ on 5 kind.Proctype "proctype" ∷ on 5 kind.Name "Q" ∷ on 5 kind.OpenParen "(" ∷ on 5 kind.Byte "byte" ∷
    on 5 kind.Name "n" ∷ on 5 kind.CloseParen ")" ∷ on 5 kind.OpenBrace "{" ∷ on 5 kind.Name "u0" ∷ on 5 kind.Assign "=" ∷
    on 5 kind.OpenParen "(" ∷ on 5 kind.Bang "!" ∷ on 5 kind.Number "1" ∷ on 5 kind.CloseParen ")" ∷ on 5 kind.CloseBrace "}" ∷
    on 6 kind.Init "init" ∷ on 6 kind.OpenBrace "{" ∷ on 6 kind.Run "run" ∷ on 6 kind.Name "Q" ∷ on 6 kind.OpenParen "(" ∷
    on 6 kind.Number "0" ∷ on 6 kind.CloseParen ")" ∷ on 6 kind.CloseBrace "}" ∷ []

model-ends-728 : Program
unfolding tokens-ends-728
model-ends-728 =
    let at : ℕ → Word = token_at tokens-ends-728 in
    let part : ℕ → ℕ → List Word = tokens_between tokens-ends-728 in
    record {
      globals = (slot (at 1) (form.Unsigned 3) false 0 1 1 (initial.Value (number 0)) ∷ slot (at 8) byte false 1 1 1 (initial.Value
          (number 1)) ∷ []);
      constants = [];
      typedefs = [];
      proctypes = (
          process (at 14) 3 1 0 [] (
          plain (part 18 19) (holds expr.Timeout) ∷
          plain (part 20 30) (action.Printf (at 22) ((read (global 0 (form.Unsigned 3))) ∷ (read (global 1 byte)) ∷ expr.ProcessCount ∷
          [])) ∷ []) (at 30) ∷
          process (at 33) 4 1 0 (slot (at 38) byte false 0 1 1 initial.Zero ∷ []) (
          plain (part 40 42) (action.Decrement (global 0 (form.Unsigned 3))) ∷
          plain (part 43 50) (assign (global 1 byte) (expr.Binary op.BitXor (read (global 1 byte)) (read (global 0 (form.Unsigned 3)))))
          ∷ []) (at 50) ∷
          process (at 52) 5 0 1 (slot (at 55) byte false 0 1 1 initial.Zero ∷ []) (
          plain (part 58 64) (assign (global 0 (form.Unsigned 3)) (expr.Unary before.Not (number 1))) ∷ []) (at 64) ∷
          process (at 65) 6 1 0 [] (
          plain (part 67 72) (action.Run (run 2 ((number 0) ∷ []))) ∷ []) (at 72) ∷ []);
    }

abbrev end-1-of-ends-728 : Printed
end-1-of-ends-728 = shown (codes "0 6, 1 left\n") Valid

abbrev end-2-of-ends-728 : Printed
end-2-of-ends-728 = shown (codes "0 1, 1 left\n") Valid

abbrev end-3-of-ends-728 : Printed
end-3-of-ends-728 = shown (codes "7 6, 1 left\n") Valid

paths-of-ends-728 : paths model-ends-728 10 ≡ Some (end-1-of-ends-728 ∷ end-1-of-ends-728 ∷ end-2-of-ends-728 ∷ end-2-of-ends-728 ∷
    end-2-of-ends-728 ∷ end-1-of-ends-728 ∷ end-2-of-ends-728 ∷ end-2-of-ends-728 ∷ end-2-of-ends-728 ∷ end-3-of-ends-728 ∷
    end-3-of-ends-728 ∷ end-3-of-ends-728 ∷ end-3-of-ends-728 ∷ end-3-of-ends-728 ∷ end-3-of-ends-728 ∷ [])
unfolding computes model-ends-728
paths-of-ends-728 = has_paths model-ends-728 10 _ refl

-- short s0 = 0;
-- unsigned u1 : 3 = 0;
-- active proctype Watch() { timeout; printf("%d %d, %d left\n", s0, u1, _nr_pr) }
-- active proctype P0() { byte k; if :: 255 < 3 -> ((s0 <= 1 && 255 <= 100)); s0 = 100 :: else -> s0 = 300 fi }
-- active proctype P1() { byte k; d_step { u1 = (u1 << 5); s0 = (u1 & 0) } }
tokens-ends-742 : List Word
tokens-ends-742 =
    on 1 kind.Short "short" ∷ on 1 kind.Name "s0" ∷ on 1 kind.Assign "=" ∷ on 1 kind.Number "0" ∷ on 1 kind.Semicolon ";" ∷
    on 2 kind.Unsigned "unsigned" ∷ on 2 kind.Name "u1" ∷ on 2 kind.Colon ":" ∷ on 2 kind.Number "3" ∷ on 2 kind.Assign "=" ∷
    on 2 kind.Number "0" ∷ on 2 kind.Semicolon ";" ∷ on 3 kind.Active "active" ∷ on 3 kind.Proctype "proctype" ∷
    on 3 kind.Name "Watch" ∷ on 3 kind.OpenParen "(" ∷ on 3 kind.CloseParen ")" ∷ on 3 kind.OpenBrace "{" ∷
    on 3 kind.Timeout "timeout" ∷ on 3 kind.Semicolon ";" ∷ on 3 kind.Printf "printf" ∷ on 3 kind.OpenParen "(" ∷
    on 3 kind.Quoted "\"%d %d, %d left\\n\"" ∷ on 3 kind.Comma "," ∷ on 3 kind.Name "s0" ∷ on 3 kind.Comma "," ∷
    on 3 kind.Name "u1" ∷ on 3 kind.Comma "," ∷ on 3 kind.Name "_nr_pr" ∷ on 3 kind.CloseParen ")" ∷ on 3 kind.CloseBrace "}" ∷
    on 4 kind.Active "active" ∷ on 4 kind.Proctype "proctype" ∷ on 4 kind.Name "P0" ∷ on 4 kind.OpenParen "(" ∷
    on 4 kind.CloseParen ")" ∷ on 4 kind.OpenBrace "{" ∷ on 4 kind.Byte "byte" ∷ on 4 kind.Name "k" ∷ on 4 kind.Semicolon ";" ∷
    on 4 kind.If "if" ∷ on 4 kind.DoubleColon "::" ∷ on 4 kind.Number "255" ∷ on 4 kind.Less "<" ∷ on 4 kind.Number "3" ∷
    on 4 kind.Arrow "->" ∷ on 4 kind.OpenParen "(" ∷ on 4 kind.OpenParen "(" ∷ on 4 kind.Name "s0" ∷ on 4 kind.AtMost "<=" ∷
    on 4 kind.Number "1" ∷ on 4 kind.AndAnd "&&" ∷ on 4 kind.Number "255" ∷ on 4 kind.AtMost "<=" ∷ on 4 kind.Number "100" ∷
    on 4 kind.CloseParen ")" ∷ on 4 kind.CloseParen ")" ∷ on 4 kind.Semicolon ";" ∷ on 4 kind.Name "s0" ∷ on 4 kind.Assign "=" ∷
    on 4 kind.Number "100" ∷ on 4 kind.DoubleColon "::" ∷ on 4 kind.Else "else" ∷ on 4 kind.Arrow "->" ∷ on 4 kind.Name "s0" ∷
    on 4 kind.Assign "=" ∷ on 4 kind.Number "300" ∷ on 4 kind.Fi "fi" ∷ on 4 kind.CloseBrace "}" ∷ on 5 kind.Active "active" ∷
    on 5 kind.Proctype "proctype" ∷ on 5 kind.Name "P1" ∷ on 5 kind.OpenParen "(" ∷ on 5 kind.CloseParen ")" ∷
    on 5 kind.OpenBrace "{" ∷ on 5 kind.Byte "byte" ∷ on 5 kind.Name "k" ∷ on 5 kind.Semicolon ";" ∷ on 5 kind.DStep "d_step" ∷
    on 5 kind.OpenBrace "{" ∷ on 5 kind.Name "u1" ∷ on 5 kind.Assign "=" ∷ on 5 kind.OpenParen "(" ∷ on 5 kind.Name "u1" ∷
    on 5 kind.ShiftLeft "<<" ∷ on 5 kind.Number "5" ∷ on 5 kind.CloseParen ")" ∷ on 5 kind.Semicolon ";" ∷ on 5 kind.Name "s0" ∷
    on 5 kind.Assign "=" ∷ on 5 kind.OpenParen "(" ∷ on 5 kind.Name "u1" ∷ on 5 kind.Ampersand "&" ∷ on 5 kind.Number "0" ∷
    on 5 kind.CloseParen ")" ∷ on 5 kind.CloseBrace "}" ∷ on 5 kind.CloseBrace "}" ∷ []

model-ends-742 : Program
unfolding tokens-ends-742
model-ends-742 =
    let at : ℕ → Word = token_at tokens-ends-742 in
    let part : ℕ → ℕ → List Word = tokens_between tokens-ends-742 in
    record {
      globals = (slot (at 1) short false 0 1 1 (initial.Value (number 0)) ∷ slot (at 6) (form.Unsigned 3) false 1 1 1 (initial.Value
          (number 0)) ∷ []);
      constants = [];
      typedefs = [];
      proctypes = (
          process (at 14) 3 1 0 [] (
          plain (part 18 19) (holds expr.Timeout) ∷
          plain (part 20 30) (action.Printf (at 22) ((read (global 0 short)) ∷ (read (global 1 (form.Unsigned 3))) ∷ expr.ProcessCount ∷
          [])) ∷ []) (at 30) ∷
          process (at 33) 4 1 0 (slot (at 38) byte false 0 1 1 initial.Zero ∷ []) (
          if_fi (part 40 68) (
          (plain (part 42 45) (holds (expr.Binary op.Below (number 255) (number 3))) ∷
          plain (part 46 57) (holds (expr.Binary op.And (expr.Binary op.AtMost (read (global 0 short)) (number 1)) (expr.Binary
          op.AtMost (number 255) (number 100)))) ∷
          plain (part 58 61) (assign (global 0 short) (number 100)) ∷ []) ∷
          (plain (part 62 63) action.Else ∷
          plain (part 64 67) (assign (global 0 short) (number 300)) ∷ []) ∷ []) ∷ []) (at 68) ∷
          process (at 71) 5 1 0 (slot (at 76) byte false 0 1 1 initial.Zero ∷ []) (
          d_step (part 78 96) (
          plain (part 80 87) (assign (global 1 (form.Unsigned 3)) (expr.Binary op.ShiftLeft (read (global 1 (form.Unsigned 3))) (number 5))) ∷
          plain (part 88 95) (assign (global 0 short) (expr.Binary op.BitAnd (read (global 1 (form.Unsigned 3))) (number 0))) ∷ []) ∷
          []) (at 96) ∷ []);
    }

abbrev end-1-of-ends-742 : Printed
end-1-of-ends-742 = shown (codes "0 0, 1 left\n") Valid

abbrev end-2-of-ends-742 : Printed
end-2-of-ends-742 = shown (codes "300 0, 1 left\n") Valid

paths-of-ends-742 : paths model-ends-742 8 ≡ Some (end-1-of-ends-742 ∷ end-2-of-ends-742 ∷ end-2-of-ends-742 ∷ end-2-of-ends-742 ∷
    end-2-of-ends-742 ∷ end-2-of-ends-742 ∷ [])
unfolding computes model-ends-742
paths-of-ends-742 = has_paths model-ends-742 8 _ refl

-- byte b0 = 0;
-- unsigned u1 : 3 = 0;
-- active proctype Watch() { timeout; printf("%d %d, %d left\n", b0, u1, _nr_pr) }
-- active proctype P0() { byte k; if :: (300 != b0); (u1 >= 100) :: b0 = _pid fi }
-- proctype Q(byte n) { n = ((n >= 300 && 300 <= 255) -> 300 : _nr_pr) }
-- init { run Q(2) }
tokens-ends-763 : List Word
tokens-ends-763 =
    on 1 kind.Byte "byte" ∷ on 1 kind.Name "b0" ∷ on 1 kind.Assign "=" ∷ on 1 kind.Number "0" ∷ on 1 kind.Semicolon ";" ∷
    on 2 kind.Unsigned "unsigned" ∷ on 2 kind.Name "u1" ∷ on 2 kind.Colon ":" ∷ on 2 kind.Number "3" ∷ on 2 kind.Assign "=" ∷
    on 2 kind.Number "0" ∷ on 2 kind.Semicolon ";" ∷ on 3 kind.Active "active" ∷ on 3 kind.Proctype "proctype" ∷
    on 3 kind.Name "Watch" ∷ on 3 kind.OpenParen "(" ∷ on 3 kind.CloseParen ")" ∷ on 3 kind.OpenBrace "{" ∷
    on 3 kind.Timeout "timeout" ∷ on 3 kind.Semicolon ";" ∷ on 3 kind.Printf "printf" ∷ on 3 kind.OpenParen "(" ∷
    on 3 kind.Quoted "\"%d %d, %d left\\n\"" ∷ on 3 kind.Comma "," ∷ on 3 kind.Name "b0" ∷ on 3 kind.Comma "," ∷
    on 3 kind.Name "u1" ∷ on 3 kind.Comma "," ∷ on 3 kind.Name "_nr_pr" ∷ on 3 kind.CloseParen ")" ∷ on 3 kind.CloseBrace "}" ∷
    on 4 kind.Active "active" ∷ on 4 kind.Proctype "proctype" ∷ on 4 kind.Name "P0" ∷ on 4 kind.OpenParen "(" ∷
    on 4 kind.CloseParen ")" ∷ on 4 kind.OpenBrace "{" ∷ on 4 kind.Byte "byte" ∷ on 4 kind.Name "k" ∷ on 4 kind.Semicolon ";" ∷
    on 4 kind.If "if" ∷ on 4 kind.DoubleColon "::" ∷ on 4 kind.OpenParen "(" ∷ on 4 kind.Number "300" ∷ on 4 kind.Unequal "!=" ∷
    on 4 kind.Name "b0" ∷ on 4 kind.CloseParen ")" ∷ on 4 kind.Semicolon ";" ∷ on 4 kind.OpenParen "(" ∷ on 4 kind.Name "u1" ∷
    on 4 kind.AtLeast ">=" ∷ on 4 kind.Number "100" ∷ on 4 kind.CloseParen ")" ∷ on 4 kind.DoubleColon "::" ∷ on 4 kind.Name "b0" ∷
    on 4 kind.Assign "=" ∷ on 4 kind.Name "_pid" ∷ on 4 kind.Fi "fi" ∷ on 4 kind.CloseBrace "}" ∷ on 5 kind.Proctype "proctype" ∷
    on 5 kind.Name "Q" ∷ on 5 kind.OpenParen "(" ∷ on 5 kind.Byte "byte" ∷ on 5 kind.Name "n" ∷ on 5 kind.CloseParen ")" ∷
    on 5 kind.OpenBrace "{" ∷ on 5 kind.Name "n" ∷ on 5 kind.Assign "=" ∷ on 5 kind.OpenParen "(" ∷ on 5 kind.OpenParen "(" ∷
    on 5 kind.Name "n" ∷ on 5 kind.AtLeast ">=" ∷ on 5 kind.Number "300" ∷ on 5 kind.AndAnd "&&" ∷ on 5 kind.Number "300" ∷
    on 5 kind.AtMost "<=" ∷ on 5 kind.Number "255" ∷ on 5 kind.CloseParen ")" ∷ on 5 kind.Arrow "->" ∷ on 5 kind.Number "300" ∷
    on 5 kind.Colon ":" ∷ on 5 kind.Name "_nr_pr" ∷ on 5 kind.CloseParen ")" ∷ on 5 kind.CloseBrace "}" ∷ on 6 kind.Init "init" ∷
    on 6 kind.OpenBrace "{" ∷ on 6 kind.Run "run" ∷ on 6 kind.Name "Q" ∷ on 6 kind.OpenParen "(" ∷ on 6 kind.Number "2" ∷
    on 6 kind.CloseParen ")" ∷ on 6 kind.CloseBrace "}" ∷ []

model-ends-763 : Program
unfolding tokens-ends-763
model-ends-763 =
    let at : ℕ → Word = token_at tokens-ends-763 in
    let part : ℕ → ℕ → List Word = tokens_between tokens-ends-763 in
    record {
      globals = (slot (at 1) byte false 0 1 1 (initial.Value (number 0)) ∷ slot (at 6) (form.Unsigned 3) false 1 1 1 (initial.Value
          (number 0)) ∷ []);
      constants = [];
      typedefs = [];
      proctypes = (
          process (at 14) 3 1 0 [] (
          plain (part 18 19) (holds expr.Timeout) ∷
          plain (part 20 30) (action.Printf (at 22) ((read (global 0 byte)) ∷ (read (global 1 (form.Unsigned 3))) ∷ expr.ProcessCount ∷
          [])) ∷ []) (at 30) ∷
          process (at 33) 4 1 0 (slot (at 38) byte false 0 1 1 initial.Zero ∷ []) (
          if_fi (part 40 58) (
          (plain (part 42 47) (holds (expr.Binary op.Unequal (number 300) (read (global 0 byte)))) ∷
          plain (part 48 53) (holds (expr.Binary op.AtLeast (read (global 1 (form.Unsigned 3))) (number 100))) ∷ []) ∷
          (plain (part 54 57) (assign (global 0 byte) expr.Pid) ∷ []) ∷ []) ∷ []) (at 58) ∷
          process (at 60) 5 0 1 (slot (at 63) byte false 0 1 1 initial.Zero ∷ []) (
          plain (part 66 83) (assign (local 0 byte) (expr.Choice (expr.Binary op.And (expr.Binary op.AtLeast (read (local 0 byte))
          (number 300)) (expr.Binary op.AtMost (number 300) (number 255))) (number 300) expr.ProcessCount)) ∷ []) (at 83) ∷
          process (at 84) 6 1 0 [] (
          plain (part 86 91) (action.Run (run 2 ((number 2) ∷ []))) ∷ []) (at 91) ∷ []);
    }

abbrev end-1-of-ends-763 : Printed
end-1-of-ends-763 = shown (codes "0 0, 2 left\n") Invalid

abbrev end-2-of-ends-763 : Printed
end-2-of-ends-763 = shown (codes "1 0, 1 left\n") Valid

paths-of-ends-763 : paths model-ends-763 9 ≡ Some (end-1-of-ends-763 ∷ end-2-of-ends-763 ∷ end-1-of-ends-763 ∷ end-2-of-ends-763 ∷
    end-1-of-ends-763 ∷ end-2-of-ends-763 ∷ end-1-of-ends-763 ∷ end-2-of-ends-763 ∷ end-1-of-ends-763 ∷ end-2-of-ends-763 ∷ [])
unfolding computes model-ends-763
paths-of-ends-763 = has_paths model-ends-763 9 _ refl

-- short s0 = 1;
-- chan q0 = [1] of { int };
-- active proctype Watch() { timeout; printf("%d %d, %d left\n", s0, len(q0), _nr_pr) }
-- active proctype P0() { byte k; if :: s0 = _nr_pr :: else -> q0!(1 - 7) fi }
-- active proctype P1() { byte k; atomic { s0 = 100; q0?2 } }
tokens-ends-771 : List Word
tokens-ends-771 =
    on 1 kind.Short "short" ∷ on 1 kind.Name "s0" ∷ on 1 kind.Assign "=" ∷ on 1 kind.Number "1" ∷ on 1 kind.Semicolon ";" ∷
    on 2 kind.Chan "chan" ∷ on 2 kind.Name "q0" ∷ on 2 kind.Assign "=" ∷ on 2 kind.OpenBracket "[" ∷ on 2 kind.Number "1" ∷
    on 2 kind.CloseBracket "]" ∷ on 2 kind.Of "of" ∷ on 2 kind.OpenBrace "{" ∷ on 2 kind.Int "int" ∷ on 2 kind.CloseBrace "}" ∷
    on 2 kind.Semicolon ";" ∷ on 3 kind.Active "active" ∷ on 3 kind.Proctype "proctype" ∷ on 3 kind.Name "Watch" ∷
    on 3 kind.OpenParen "(" ∷ on 3 kind.CloseParen ")" ∷ on 3 kind.OpenBrace "{" ∷ on 3 kind.Timeout "timeout" ∷
    on 3 kind.Semicolon ";" ∷ on 3 kind.Printf "printf" ∷ on 3 kind.OpenParen "(" ∷ on 3 kind.Quoted "\"%d %d, %d left\\n\"" ∷
    on 3 kind.Comma "," ∷ on 3 kind.Name "s0" ∷ on 3 kind.Comma "," ∷ on 3 kind.Len "len" ∷ on 3 kind.OpenParen "(" ∷
    on 3 kind.Name "q0" ∷ on 3 kind.CloseParen ")" ∷ on 3 kind.Comma "," ∷ on 3 kind.Name "_nr_pr" ∷ on 3 kind.CloseParen ")" ∷
    on 3 kind.CloseBrace "}" ∷ on 4 kind.Active "active" ∷ on 4 kind.Proctype "proctype" ∷ on 4 kind.Name "P0" ∷
    on 4 kind.OpenParen "(" ∷ on 4 kind.CloseParen ")" ∷ on 4 kind.OpenBrace "{" ∷ on 4 kind.Byte "byte" ∷ on 4 kind.Name "k" ∷
    on 4 kind.Semicolon ";" ∷ on 4 kind.If "if" ∷ on 4 kind.DoubleColon "::" ∷ on 4 kind.Name "s0" ∷ on 4 kind.Assign "=" ∷
    on 4 kind.Name "_nr_pr" ∷ on 4 kind.DoubleColon "::" ∷ on 4 kind.Else "else" ∷ on 4 kind.Arrow "->" ∷ on 4 kind.Name "q0" ∷
    on 4 kind.Bang "!" ∷ on 4 kind.OpenParen "(" ∷ on 4 kind.Number "1" ∷ on 4 kind.Minus "-" ∷ on 4 kind.Number "7" ∷
    on 4 kind.CloseParen ")" ∷ on 4 kind.Fi "fi" ∷ on 4 kind.CloseBrace "}" ∷ on 5 kind.Active "active" ∷
    on 5 kind.Proctype "proctype" ∷ on 5 kind.Name "P1" ∷ on 5 kind.OpenParen "(" ∷ on 5 kind.CloseParen ")" ∷
    on 5 kind.OpenBrace "{" ∷ on 5 kind.Byte "byte" ∷ on 5 kind.Name "k" ∷ on 5 kind.Semicolon ";" ∷ on 5 kind.Atomic "atomic" ∷
    on 5 kind.OpenBrace "{" ∷ on 5 kind.Name "s0" ∷ on 5 kind.Assign "=" ∷ on 5 kind.Number "100" ∷ on 5 kind.Semicolon ";" ∷
    on 5 kind.Name "q0" ∷ on 5 kind.Query "?" ∷ on 5 kind.Number "2" ∷ on 5 kind.CloseBrace "}" ∷ on 5 kind.CloseBrace "}" ∷ []

model-ends-771 : Program
unfolding tokens-ends-771
model-ends-771 =
    let at : ℕ → Word = token_at tokens-ends-771 in
    let part : ℕ → ℕ → List Word = tokens_between tokens-ends-771 in
    record {
      globals = (slot (at 1) short false 0 1 1 (initial.Value (number 1)) ∷ slot (at 6) chan false 1 1 1 (initial.Channel 1 (int ∷ [])) ∷ []);
      constants = [];
      typedefs = [];
      proctypes = (
          process (at 18) 3 1 0 [] (
          plain (part 22 23) (holds expr.Timeout) ∷
          plain (part 24 37) (action.Printf (at 26) ((read (global 0 short)) ∷ (expr.Ask fill.Length (global 1 chan)) ∷
          expr.ProcessCount ∷ [])) ∷ []) (at 37) ∷
          process (at 40) 4 1 0 (slot (at 45) byte false 0 1 1 initial.Zero ∷ []) (
          if_fi (part 47 63) (
          (plain (part 49 52) (assign (global 0 short) expr.ProcessCount) ∷ []) ∷
          (plain (part 53 54) action.Else ∷
          plain (part 55 62) (action.Send (global 1 chan) Fifo ((expr.Binary op.Minus (number 1) (number 7)) ∷ [])) ∷ []) ∷ []) ∷ []) (at 63) ∷
          process (at 66) 5 1 0 (slot (at 71) byte false 0 1 1 initial.Zero ∷ []) (
          atomic (part 73 83) (
          plain (part 75 78) (assign (global 0 short) (number 100)) ∷
          plain (part 79 82) (action.Receive (global 1 chan) First Remove (want.Exactly (pos 2) ∷ [])) ∷ []) ∷ []) (at 83) ∷ []);
    }

abbrev end-1-of-ends-771 : Printed
end-1-of-ends-771 = shown (codes "100 0, 3 left\n") Invalid

abbrev end-2-of-ends-771 : Printed
end-2-of-ends-771 = shown (codes "3 0, 3 left\n") Invalid

paths-of-ends-771 : paths model-ends-771 4 ≡ Some (end-1-of-ends-771 ∷ end-2-of-ends-771 ∷ [])
unfolding computes model-ends-771
paths-of-ends-771 = has_paths model-ends-771 4 _ refl

-- int i0 = 0;
-- chan q0 = [2] of { short, byte };
-- active proctype Watch() { timeout; printf("%d %d, %d left\n", i0, len(q0), _nr_pr) }
-- active proctype P0() { byte k; i0 = 7; atomic { q0??eval(i0), 0; i0++; i0 = i0 } }
-- active proctype P1() { byte k; i0 = 2; i0 = i0 }
-- proctype Q(byte n) { q0?n, 0; q0?n, _ }
-- init { run Q(3) }
tokens-ends-784 : List Word
tokens-ends-784 =
    on 1 kind.Int "int" ∷ on 1 kind.Name "i0" ∷ on 1 kind.Assign "=" ∷ on 1 kind.Number "0" ∷ on 1 kind.Semicolon ";" ∷
    on 2 kind.Chan "chan" ∷ on 2 kind.Name "q0" ∷ on 2 kind.Assign "=" ∷ on 2 kind.OpenBracket "[" ∷ on 2 kind.Number "2" ∷
    on 2 kind.CloseBracket "]" ∷ on 2 kind.Of "of" ∷ on 2 kind.OpenBrace "{" ∷ on 2 kind.Short "short" ∷ on 2 kind.Comma "," ∷
    on 2 kind.Byte "byte" ∷ on 2 kind.CloseBrace "}" ∷ on 2 kind.Semicolon ";" ∷ on 3 kind.Active "active" ∷
    on 3 kind.Proctype "proctype" ∷ on 3 kind.Name "Watch" ∷ on 3 kind.OpenParen "(" ∷ on 3 kind.CloseParen ")" ∷
    on 3 kind.OpenBrace "{" ∷ on 3 kind.Timeout "timeout" ∷ on 3 kind.Semicolon ";" ∷ on 3 kind.Printf "printf" ∷
    on 3 kind.OpenParen "(" ∷ on 3 kind.Quoted "\"%d %d, %d left\\n\"" ∷ on 3 kind.Comma "," ∷ on 3 kind.Name "i0" ∷
    on 3 kind.Comma "," ∷ on 3 kind.Len "len" ∷ on 3 kind.OpenParen "(" ∷ on 3 kind.Name "q0" ∷ on 3 kind.CloseParen ")" ∷
    on 3 kind.Comma "," ∷ on 3 kind.Name "_nr_pr" ∷ on 3 kind.CloseParen ")" ∷ on 3 kind.CloseBrace "}" ∷ on 4 kind.Active "active" ∷
    on 4 kind.Proctype "proctype" ∷ on 4 kind.Name "P0" ∷ on 4 kind.OpenParen "(" ∷ on 4 kind.CloseParen ")" ∷
    on 4 kind.OpenBrace "{" ∷ on 4 kind.Byte "byte" ∷ on 4 kind.Name "k" ∷ on 4 kind.Semicolon ";" ∷ on 4 kind.Name "i0" ∷
    on 4 kind.Assign "=" ∷ on 4 kind.Number "7" ∷ on 4 kind.Semicolon ";" ∷ on 4 kind.Atomic "atomic" ∷ on 4 kind.OpenBrace "{" ∷
    on 4 kind.Name "q0" ∷ on 4 kind.QueryQuery "??" ∷ on 4 kind.Eval "eval" ∷ on 4 kind.OpenParen "(" ∷ on 4 kind.Name "i0" ∷
    on 4 kind.CloseParen ")" ∷ on 4 kind.Comma "," ∷ on 4 kind.Number "0" ∷ on 4 kind.Semicolon ";" ∷ on 4 kind.Name "i0" ∷
    on 4 kind.Increment "++" ∷ on 4 kind.Semicolon ";" ∷ on 4 kind.Name "i0" ∷ on 4 kind.Assign "=" ∷ on 4 kind.Name "i0" ∷
    on 4 kind.CloseBrace "}" ∷ on 4 kind.CloseBrace "}" ∷ on 5 kind.Active "active" ∷ on 5 kind.Proctype "proctype" ∷
    on 5 kind.Name "P1" ∷ on 5 kind.OpenParen "(" ∷ on 5 kind.CloseParen ")" ∷ on 5 kind.OpenBrace "{" ∷ on 5 kind.Byte "byte" ∷
    on 5 kind.Name "k" ∷ on 5 kind.Semicolon ";" ∷ on 5 kind.Name "i0" ∷ on 5 kind.Assign "=" ∷ on 5 kind.Number "2" ∷
    on 5 kind.Semicolon ";" ∷ on 5 kind.Name "i0" ∷ on 5 kind.Assign "=" ∷ on 5 kind.Name "i0" ∷ on 5 kind.CloseBrace "}" ∷
    on 6 kind.Proctype "proctype" ∷ on 6 kind.Name "Q" ∷ on 6 kind.OpenParen "(" ∷ on 6 kind.Byte "byte" ∷ on 6 kind.Name "n" ∷
    on 6 kind.CloseParen ")" ∷ on 6 kind.OpenBrace "{" ∷ on 6 kind.Name "q0" ∷ on 6 kind.Query "?" ∷ on 6 kind.Name "n" ∷
    on 6 kind.Comma "," ∷ on 6 kind.Number "0" ∷ on 6 kind.Semicolon ";" ∷ on 6 kind.Name "q0" ∷ on 6 kind.Query "?" ∷
    on 6 kind.Name "n" ∷ on 6 kind.Comma "," ∷ on 6 kind.Name "_" ∷ on 6 kind.CloseBrace "}" ∷ on 7 kind.Init "init" ∷
    on 7 kind.OpenBrace "{" ∷ on 7 kind.Run "run" ∷ on 7 kind.Name "Q" ∷ on 7 kind.OpenParen "(" ∷ on 7 kind.Number "3" ∷
    on 7 kind.CloseParen ")" ∷ on 7 kind.CloseBrace "}" ∷ []

model-ends-784 : Program
unfolding tokens-ends-784
model-ends-784 =
    let at : ℕ → Word = token_at tokens-ends-784 in
    let part : ℕ → ℕ → List Word = tokens_between tokens-ends-784 in
    record {
      globals = (slot (at 1) int false 0 1 1 (initial.Value (number 0)) ∷ slot (at 6) chan false 1 1 1 (initial.Channel 2 (short ∷
          byte ∷ [])) ∷ []);
      constants = [];
      typedefs = [];
      proctypes = (
          process (at 20) 3 1 0 [] (
          plain (part 24 25) (holds expr.Timeout) ∷
          plain (part 26 39) (action.Printf (at 28) ((read (global 0 int)) ∷ (expr.Ask fill.Length (global 1 chan)) ∷ expr.ProcessCount
          ∷ [])) ∷ []) (at 39) ∷
          process (at 42) 4 1 0 (slot (at 47) byte false 0 1 1 initial.Zero ∷ []) (
          plain (part 49 52) (assign (global 0 int) (number 7)) ∷
          atomic (part 53 71) (
          plain (part 55 63) (action.Receive (global 1 chan) Matching Remove (want.Equal (read (global 0 int)) ∷ want.Exactly (pos 0) ∷ [])) ∷
          plain (part 64 66) (action.Increment (global 0 int)) ∷
          plain (part 67 70) (assign (global 0 int) (read (global 0 int))) ∷ []) ∷ []) (at 71) ∷
          process (at 74) 5 1 0 (slot (at 79) byte false 0 1 1 initial.Zero ∷ []) (
          plain (part 81 84) (assign (global 0 int) (number 2)) ∷
          plain (part 85 88) (assign (global 0 int) (read (global 0 int))) ∷ []) (at 88) ∷
          process (at 90) 6 0 1 (slot (at 93) byte false 0 1 1 initial.Zero ∷ []) (
          plain (part 96 101) (action.Receive (global 1 chan) First Remove (want.Into (local 0 byte) ∷ want.Exactly (pos 0) ∷ [])) ∷
          plain (part 102 107) (action.Receive (global 1 chan) First Remove (want.Into (local 0 byte) ∷ want.Anything ∷ [])) ∷ []) (at 107) ∷
          process (at 108) 7 1 0 [] (
          plain (part 110 115) (action.Run (run 3 ((number 3) ∷ []))) ∷ []) (at 115) ∷ []);
    }

abbrev end-1-of-ends-784 : Printed
end-1-of-ends-784 = shown (codes "2 0, 5 left\n") Invalid

abbrev end-2-of-ends-784 : Printed
end-2-of-ends-784 = shown (codes "7 0, 5 left\n") Invalid

paths-of-ends-784 : paths model-ends-784 6 ≡ Some (end-1-of-ends-784 ∷ end-1-of-ends-784 ∷ end-1-of-ends-784 ∷ end-2-of-ends-784 ∷
    end-2-of-ends-784 ∷ end-2-of-ends-784 ∷ end-2-of-ends-784 ∷ end-2-of-ends-784 ∷ end-2-of-ends-784 ∷ end-1-of-ends-784 ∷
    end-2-of-ends-784 ∷ end-2-of-ends-784 ∷ [])
unfolding computes model-ends-784
paths-of-ends-784 = has_paths model-ends-784 6 _ refl

-- unsigned u0 : 3 = 1;
-- byte b1 = 1;
-- chan q0 = [0] of { byte };
-- active proctype Watch() { timeout; printf("%d %d %d, %d left\n", u0, b1, len(q0), _nr_pr) }
-- active proctype P0() { byte k; u0 = (_pid >> 1); u0 = u0 }
-- active proctype P1() { byte k; b1 = (~u0); { (((255 - 7) <= u0 || 300 > 1)) } unless { ((~0) < u0) -> q0??_ } }
tokens-ends-818 : List Word
tokens-ends-818 =
    on 1 kind.Unsigned "unsigned" ∷ on 1 kind.Name "u0" ∷ on 1 kind.Colon ":" ∷ on 1 kind.Number "3" ∷ on 1 kind.Assign "=" ∷
    on 1 kind.Number "1" ∷ on 1 kind.Semicolon ";" ∷ on 2 kind.Byte "byte" ∷ on 2 kind.Name "b1" ∷ on 2 kind.Assign "=" ∷
    on 2 kind.Number "1" ∷ on 2 kind.Semicolon ";" ∷ on 3 kind.Chan "chan" ∷ on 3 kind.Name "q0" ∷ on 3 kind.Assign "=" ∷
    on 3 kind.OpenBracket "[" ∷ on 3 kind.Number "0" ∷ on 3 kind.CloseBracket "]" ∷ on 3 kind.Of "of" ∷ on 3 kind.OpenBrace "{" ∷
    on 3 kind.Byte "byte" ∷ on 3 kind.CloseBrace "}" ∷ on 3 kind.Semicolon ";" ∷ on 4 kind.Active "active" ∷
    on 4 kind.Proctype "proctype" ∷ on 4 kind.Name "Watch" ∷ on 4 kind.OpenParen "(" ∷ on 4 kind.CloseParen ")" ∷
    on 4 kind.OpenBrace "{" ∷ on 4 kind.Timeout "timeout" ∷ on 4 kind.Semicolon ";" ∷ on 4 kind.Printf "printf" ∷
    on 4 kind.OpenParen "(" ∷ on 4 kind.Quoted "\"%d %d %d, %d left\\n\"" ∷ on 4 kind.Comma "," ∷ on 4 kind.Name "u0" ∷
    on 4 kind.Comma "," ∷ on 4 kind.Name "b1" ∷ on 4 kind.Comma "," ∷ on 4 kind.Len "len" ∷ on 4 kind.OpenParen "(" ∷
    on 4 kind.Name "q0" ∷ on 4 kind.CloseParen ")" ∷ on 4 kind.Comma "," ∷ on 4 kind.Name "_nr_pr" ∷ on 4 kind.CloseParen ")" ∷
    on 4 kind.CloseBrace "}" ∷ on 5 kind.Active "active" ∷ on 5 kind.Proctype "proctype" ∷ on 5 kind.Name "P0" ∷
    on 5 kind.OpenParen "(" ∷ on 5 kind.CloseParen ")" ∷ on 5 kind.OpenBrace "{" ∷ on 5 kind.Byte "byte" ∷ on 5 kind.Name "k" ∷
    on 5 kind.Semicolon ";" ∷ on 5 kind.Name "u0" ∷ on 5 kind.Assign "=" ∷ on 5 kind.OpenParen "(" ∷ on 5 kind.Name "_pid" ∷
    on 5 kind.ShiftRight ">>" ∷ on 5 kind.Number "1" ∷ on 5 kind.CloseParen ")" ∷ on 5 kind.Semicolon ";" ∷ on 5 kind.Name "u0" ∷
    on 5 kind.Assign "=" ∷ on 5 kind.Name "u0" ∷ on 5 kind.CloseBrace "}" ∷ on 6 kind.Active "active" ∷
    on 6 kind.Proctype "proctype" ∷ on 6 kind.Name "P1" ∷ on 6 kind.OpenParen "(" ∷ on 6 kind.CloseParen ")" ∷
    on 6 kind.OpenBrace "{" ∷ on 6 kind.Byte "byte" ∷ on 6 kind.Name "k" ∷ on 6 kind.Semicolon ";" ∷ on 6 kind.Name "b1" ∷
    on 6 kind.Assign "=" ∷ on 6 kind.OpenParen "(" ∷ on 6 kind.Tilde "~" ∷ on 6 kind.Name "u0" ∷ on 6 kind.CloseParen ")" ∷
    on 6 kind.Semicolon ";" ∷ on 6 kind.OpenBrace "{" ∷ on 6 kind.OpenParen "(" ∷ on 6 kind.OpenParen "(" ∷ on 6 kind.OpenParen "(" ∷
    on 6 kind.Number "255" ∷ on 6 kind.Minus "-" ∷ on 6 kind.Number "7" ∷ on 6 kind.CloseParen ")" ∷ on 6 kind.AtMost "<=" ∷
    on 6 kind.Name "u0" ∷ on 6 kind.OrOr "||" ∷ on 6 kind.Number "300" ∷ on 6 kind.Greater ">" ∷ on 6 kind.Number "1" ∷
    on 6 kind.CloseParen ")" ∷ on 6 kind.CloseParen ")" ∷ on 6 kind.CloseBrace "}" ∷ on 6 kind.Unless "unless" ∷
    on 6 kind.OpenBrace "{" ∷ on 6 kind.OpenParen "(" ∷ on 6 kind.OpenParen "(" ∷ on 6 kind.Tilde "~" ∷ on 6 kind.Number "0" ∷
    on 6 kind.CloseParen ")" ∷ on 6 kind.Less "<" ∷ on 6 kind.Name "u0" ∷ on 6 kind.CloseParen ")" ∷ on 6 kind.Arrow "->" ∷
    on 6 kind.Name "q0" ∷ on 6 kind.QueryQuery "??" ∷ on 6 kind.Name "_" ∷ on 6 kind.CloseBrace "}" ∷ on 6 kind.CloseBrace "}" ∷ []

model-ends-818 : Program
unfolding tokens-ends-818
model-ends-818 =
    let at : ℕ → Word = token_at tokens-ends-818 in
    let part : ℕ → ℕ → List Word = tokens_between tokens-ends-818 in
    record {
      globals = (slot (at 1) (form.Unsigned 3) false 0 1 1 (initial.Value (number 1)) ∷ slot (at 8) byte false 1 1 1 (initial.Value
          (number 1)) ∷ slot (at 13) chan false 2 1 1 (initial.Channel 0 (byte ∷ [])) ∷ []);
      constants = [];
      typedefs = [];
      proctypes = (
          process (at 25) 4 1 0 [] (
          plain (part 29 30) (holds expr.Timeout) ∷
          plain (part 31 46) (action.Printf (at 33) ((read (global 0 (form.Unsigned 3))) ∷ (read (global 1 byte)) ∷ (expr.Ask
          fill.Length (global 2 chan)) ∷ expr.ProcessCount ∷ [])) ∷ []) (at 46) ∷
          process (at 49) 5 1 0 (slot (at 54) byte false 0 1 1 initial.Zero ∷ []) (
          plain (part 56 63) (assign (global 0 (form.Unsigned 3)) (expr.Binary op.ShiftRight expr.Pid (number 1))) ∷
          plain (part 64 67) (assign (global 0 (form.Unsigned 3)) (read (global 0 (form.Unsigned 3)))) ∷ []) (at 67) ∷
          process (at 70) 6 1 0 (slot (at 75) byte false 0 1 1 initial.Zero ∷ []) (
          plain (part 77 83) (assign (global 1 byte) (expr.Unary before.Complement (read (global 0 (form.Unsigned 3))))) ∷
          unless (part 84 116) (
          block (part 84 101) (
          plain (part 85 100) (holds (expr.Binary op.Or (expr.Binary op.AtMost (expr.Binary op.Minus (number 255) (number 7)) (read
          (global 0 (form.Unsigned 3)))) (expr.Binary op.Above (number 300) (number 1)))) ∷ []) ∷ []) (
          block (part 102 116) (
          plain (part 103 111) (holds (expr.Binary op.Below (expr.Unary before.Complement (number 0)) (read (global 0 (form.Unsigned 3))))) ∷
          plain (part 112 115) (action.Receive (global 2 chan) Matching Remove (want.Anything ∷ [])) ∷ []) ∷ []) ∷ []) (at 116) ∷ []);
    }

abbrev end-1-of-ends-818 : Printed
end-1-of-ends-818 = shown (codes "0 255 0, 3 left\n") Invalid

abbrev end-2-of-ends-818 : Printed
end-2-of-ends-818 = shown (codes "0 254 0, 3 left\n") Invalid

paths-of-ends-818 : paths model-ends-818 6 ≡ Some (end-1-of-ends-818 ∷ end-1-of-ends-818 ∷ end-1-of-ends-818 ∷ end-2-of-ends-818 ∷
    end-2-of-ends-818 ∷ end-2-of-ends-818 ∷ [])
unfolding computes model-ends-818
paths-of-ends-818 = has_paths model-ends-818 6 _ refl

-- int i0 = 0;
-- byte b1 = 1;
-- chan q0 = [1] of { short, byte };
-- active proctype Watch() { timeout; printf("%d %d %d, %d left\n", i0, b1, len(q0), _nr_pr) }
-- active proctype P0() { byte k; { i0 = i0; i0 = (~(~255)) } unless { (1 < i0) -> q0?eval(i0), 1 } }
-- active proctype P1() { byte k; i0--; i0++ }
tokens-ends-833 : List Word
tokens-ends-833 =
    on 1 kind.Int "int" ∷ on 1 kind.Name "i0" ∷ on 1 kind.Assign "=" ∷ on 1 kind.Number "0" ∷ on 1 kind.Semicolon ";" ∷
    on 2 kind.Byte "byte" ∷ on 2 kind.Name "b1" ∷ on 2 kind.Assign "=" ∷ on 2 kind.Number "1" ∷ on 2 kind.Semicolon ";" ∷
    on 3 kind.Chan "chan" ∷ on 3 kind.Name "q0" ∷ on 3 kind.Assign "=" ∷ on 3 kind.OpenBracket "[" ∷ on 3 kind.Number "1" ∷
    on 3 kind.CloseBracket "]" ∷ on 3 kind.Of "of" ∷ on 3 kind.OpenBrace "{" ∷ on 3 kind.Short "short" ∷ on 3 kind.Comma "," ∷
    on 3 kind.Byte "byte" ∷ on 3 kind.CloseBrace "}" ∷ on 3 kind.Semicolon ";" ∷ on 4 kind.Active "active" ∷
    on 4 kind.Proctype "proctype" ∷ on 4 kind.Name "Watch" ∷ on 4 kind.OpenParen "(" ∷ on 4 kind.CloseParen ")" ∷
    on 4 kind.OpenBrace "{" ∷ on 4 kind.Timeout "timeout" ∷ on 4 kind.Semicolon ";" ∷ on 4 kind.Printf "printf" ∷
    on 4 kind.OpenParen "(" ∷ on 4 kind.Quoted "\"%d %d %d, %d left\\n\"" ∷ on 4 kind.Comma "," ∷ on 4 kind.Name "i0" ∷
    on 4 kind.Comma "," ∷ on 4 kind.Name "b1" ∷ on 4 kind.Comma "," ∷ on 4 kind.Len "len" ∷ on 4 kind.OpenParen "(" ∷
    on 4 kind.Name "q0" ∷ on 4 kind.CloseParen ")" ∷ on 4 kind.Comma "," ∷ on 4 kind.Name "_nr_pr" ∷ on 4 kind.CloseParen ")" ∷
    on 4 kind.CloseBrace "}" ∷ on 5 kind.Active "active" ∷ on 5 kind.Proctype "proctype" ∷ on 5 kind.Name "P0" ∷
    on 5 kind.OpenParen "(" ∷ on 5 kind.CloseParen ")" ∷ on 5 kind.OpenBrace "{" ∷ on 5 kind.Byte "byte" ∷ on 5 kind.Name "k" ∷
    on 5 kind.Semicolon ";" ∷ on 5 kind.OpenBrace "{" ∷ on 5 kind.Name "i0" ∷ on 5 kind.Assign "=" ∷ on 5 kind.Name "i0" ∷
    on 5 kind.Semicolon ";" ∷ on 5 kind.Name "i0" ∷ on 5 kind.Assign "=" ∷ on 5 kind.OpenParen "(" ∷ on 5 kind.Tilde "~" ∷
    on 5 kind.OpenParen "(" ∷ on 5 kind.Tilde "~" ∷ on 5 kind.Number "255" ∷ on 5 kind.CloseParen ")" ∷ on 5 kind.CloseParen ")" ∷
    on 5 kind.CloseBrace "}" ∷ on 5 kind.Unless "unless" ∷ on 5 kind.OpenBrace "{" ∷ on 5 kind.OpenParen "(" ∷ on 5 kind.Number "1" ∷
    on 5 kind.Less "<" ∷ on 5 kind.Name "i0" ∷ on 5 kind.CloseParen ")" ∷ on 5 kind.Arrow "->" ∷ on 5 kind.Name "q0" ∷
    on 5 kind.Query "?" ∷ on 5 kind.Eval "eval" ∷ on 5 kind.OpenParen "(" ∷ on 5 kind.Name "i0" ∷ on 5 kind.CloseParen ")" ∷
    on 5 kind.Comma "," ∷ on 5 kind.Number "1" ∷ on 5 kind.CloseBrace "}" ∷ on 5 kind.CloseBrace "}" ∷ on 6 kind.Active "active" ∷
    on 6 kind.Proctype "proctype" ∷ on 6 kind.Name "P1" ∷ on 6 kind.OpenParen "(" ∷ on 6 kind.CloseParen ")" ∷
    on 6 kind.OpenBrace "{" ∷ on 6 kind.Byte "byte" ∷ on 6 kind.Name "k" ∷ on 6 kind.Semicolon ";" ∷ on 6 kind.Name "i0" ∷
    on 6 kind.Decrement "--" ∷ on 6 kind.Semicolon ";" ∷ on 6 kind.Name "i0" ∷ on 6 kind.Increment "++" ∷ on 6 kind.CloseBrace "}" ∷ []

model-ends-833 : Program
unfolding tokens-ends-833
model-ends-833 =
    let at : ℕ → Word = token_at tokens-ends-833 in
    let part : ℕ → ℕ → List Word = tokens_between tokens-ends-833 in
    record {
      globals = (slot (at 1) int false 0 1 1 (initial.Value (number 0)) ∷ slot (at 6) byte false 1 1 1 (initial.Value (number 1)) ∷
          slot (at 11) chan false 2 1 1 (initial.Channel 1 (short ∷ byte ∷ [])) ∷ []);
      constants = [];
      typedefs = [];
      proctypes = (
          process (at 25) 4 1 0 [] (
          plain (part 29 30) (holds expr.Timeout) ∷
          plain (part 31 46) (action.Printf (at 33) ((read (global 0 int)) ∷ (read (global 1 byte)) ∷ (expr.Ask fill.Length (global 2
          chan)) ∷ expr.ProcessCount ∷ [])) ∷ []) (at 46) ∷
          process (at 49) 5 1 0 (slot (at 54) byte false 0 1 1 initial.Zero ∷ []) (
          unless (part 56 88) (
          block (part 56 71) (
          plain (part 57 60) (assign (global 0 int) (read (global 0 int))) ∷
          plain (part 61 70) (assign (global 0 int) (expr.Unary before.Complement (expr.Unary before.Complement (number 255)))) ∷ []) ∷ []) (
          block (part 72 88) (
          plain (part 73 78) (holds (expr.Binary op.Below (number 1) (read (global 0 int)))) ∷
          plain (part 79 87) (action.Receive (global 2 chan) First Remove (want.Equal (read (global 0 int)) ∷ want.Exactly (pos 1) ∷
          [])) ∷ []) ∷ []) ∷ []) (at 88) ∷
          process (at 91) 6 1 0 (slot (at 96) byte false 0 1 1 initial.Zero ∷ []) (
          plain (part 98 100) (action.Decrement (global 0 int)) ∷
          plain (part 101 103) (action.Increment (global 0 int)) ∷ []) (at 103) ∷ []);
    }

abbrev end-1-of-ends-833 : Printed
end-1-of-ends-833 = shown (codes "255 1 0, 1 left\n") Valid

abbrev end-2-of-ends-833 : Printed
end-2-of-ends-833 = shown (codes "256 1 0, 1 left\n") Valid

paths-of-ends-833 : paths model-ends-833 9 ≡ Some (end-1-of-ends-833 ∷ end-2-of-ends-833 ∷ end-1-of-ends-833 ∷ end-1-of-ends-833 ∷
    end-2-of-ends-833 ∷ end-1-of-ends-833 ∷ end-1-of-ends-833 ∷ end-1-of-ends-833 ∷ end-1-of-ends-833 ∷ end-1-of-ends-833 ∷ [])
unfolding computes model-ends-833
paths-of-ends-833 = has_paths model-ends-833 9 _ refl

-- byte b0 = 1;
-- unsigned u1 : 3 = 0;
-- short a[2];
-- active proctype Watch() { timeout; printf("%d %d %d %d, %d left\n", b0, u1, a[0], a[1], _nr_pr) }
-- active proctype P0() { byte k; do :: a[0] = 2; (7 < a[1]) :: break od }
tokens-ends-837 : List Word
tokens-ends-837 =
    on 1 kind.Byte "byte" ∷ on 1 kind.Name "b0" ∷ on 1 kind.Assign "=" ∷ on 1 kind.Number "1" ∷ on 1 kind.Semicolon ";" ∷
    on 2 kind.Unsigned "unsigned" ∷ on 2 kind.Name "u1" ∷ on 2 kind.Colon ":" ∷ on 2 kind.Number "3" ∷ on 2 kind.Assign "=" ∷
    on 2 kind.Number "0" ∷ on 2 kind.Semicolon ";" ∷ on 3 kind.Short "short" ∷ on 3 kind.Name "a" ∷ on 3 kind.OpenBracket "[" ∷
    on 3 kind.Number "2" ∷ on 3 kind.CloseBracket "]" ∷ on 3 kind.Semicolon ";" ∷ on 4 kind.Active "active" ∷
    on 4 kind.Proctype "proctype" ∷ on 4 kind.Name "Watch" ∷ on 4 kind.OpenParen "(" ∷ on 4 kind.CloseParen ")" ∷
    on 4 kind.OpenBrace "{" ∷ on 4 kind.Timeout "timeout" ∷ on 4 kind.Semicolon ";" ∷ on 4 kind.Printf "printf" ∷
    on 4 kind.OpenParen "(" ∷ on 4 kind.Quoted "\"%d %d %d %d, %d left\\n\"" ∷ on 4 kind.Comma "," ∷ on 4 kind.Name "b0" ∷
    on 4 kind.Comma "," ∷ on 4 kind.Name "u1" ∷ on 4 kind.Comma "," ∷ on 4 kind.Name "a" ∷ on 4 kind.OpenBracket "[" ∷
    on 4 kind.Number "0" ∷ on 4 kind.CloseBracket "]" ∷ on 4 kind.Comma "," ∷ on 4 kind.Name "a" ∷ on 4 kind.OpenBracket "[" ∷
    on 4 kind.Number "1" ∷ on 4 kind.CloseBracket "]" ∷ on 4 kind.Comma "," ∷ on 4 kind.Name "_nr_pr" ∷ on 4 kind.CloseParen ")" ∷
    on 4 kind.CloseBrace "}" ∷ on 5 kind.Active "active" ∷ on 5 kind.Proctype "proctype" ∷ on 5 kind.Name "P0" ∷
    on 5 kind.OpenParen "(" ∷ on 5 kind.CloseParen ")" ∷ on 5 kind.OpenBrace "{" ∷ on 5 kind.Byte "byte" ∷ on 5 kind.Name "k" ∷
    on 5 kind.Semicolon ";" ∷ on 5 kind.Do "do" ∷ on 5 kind.DoubleColon "::" ∷ on 5 kind.Name "a" ∷ on 5 kind.OpenBracket "[" ∷
    on 5 kind.Number "0" ∷ on 5 kind.CloseBracket "]" ∷ on 5 kind.Assign "=" ∷ on 5 kind.Number "2" ∷ on 5 kind.Semicolon ";" ∷
    on 5 kind.OpenParen "(" ∷ on 5 kind.Number "7" ∷ on 5 kind.Less "<" ∷ on 5 kind.Name "a" ∷ on 5 kind.OpenBracket "[" ∷
    on 5 kind.Number "1" ∷ on 5 kind.CloseBracket "]" ∷ on 5 kind.CloseParen ")" ∷ on 5 kind.DoubleColon "::" ∷
    on 5 kind.Break "break" ∷ on 5 kind.Od "od" ∷ on 5 kind.CloseBrace "}" ∷ []

model-ends-837 : Program
unfolding tokens-ends-837
model-ends-837 =
    let at : ℕ → Word = token_at tokens-ends-837 in
    let part : ℕ → ℕ → List Word = tokens_between tokens-ends-837 in
    record {
      globals = (slot (at 1) byte false 0 1 1 (initial.Value (number 1)) ∷ slot (at 6) (form.Unsigned 3) false 1 1 1 (initial.Value
          (number 0)) ∷ slot (at 13) short true 2 2 1 initial.Zero ∷ []);
      constants = [];
      typedefs = [];
      proctypes = (
          process (at 20) 4 1 0 [] (
          plain (part 24 25) (holds expr.Timeout) ∷
          plain (part 26 46) (action.Printf (at 28) ((read (global 0 byte)) ∷ (read (global 1 (form.Unsigned 3))) ∷ (read (in_global 2
          short (turn 0 2 1 (Some (number 0)) ∷ []))) ∷ (read (in_global 2 short (turn 0 2 1 (Some (number 1)) ∷ []))) ∷
          expr.ProcessCount ∷ [])) ∷ []) (at 46) ∷
          process (at 49) 5 1 0 (slot (at 54) byte false 0 1 1 initial.Zero ∷ []) (
          do_od (part 56 76) (
          (plain (part 58 64) (assign (in_global 2 short (turn 0 2 1 (Some (number 0)) ∷ [])) (number 2)) ∷
          plain (part 65 73) (holds (expr.Binary op.Below (number 7) (read (in_global 2 short (turn 0 2 1 (Some (number 1)) ∷ []))))) ∷ []) ∷
          (stmt [] Break (part 74 75) ∷ []) ∷ []) ∷ []) (at 76) ∷ []);
    }

abbrev end-1-of-ends-837 : Printed
end-1-of-ends-837 = shown (codes "1 0 2 0, 2 left\n") Invalid

abbrev end-2-of-ends-837 : Printed
end-2-of-ends-837 = shown (codes "1 0 0 0, 1 left\n") Valid

paths-of-ends-837 : paths model-ends-837 5 ≡ Some (end-1-of-ends-837 ∷ end-2-of-ends-837 ∷ [])
unfolding computes model-ends-837
paths-of-ends-837 = has_paths model-ends-837 5 _ refl
