-- All paths of small random models, whose ends are those of Spin's full search. `tools/spin-ends` made the models and their data.
use Rattle.std.proofs.Common.{◌≡◌, ℕ, List, [], ◌∷◌, true, false, refl, Some, None}
use Rattle.std.specs.Prelude.{codes, pos}
use Rattle.pml_token.specs.Word.{Word}
use Rattle.pml_tree.specs.declared.tree.Search.TheVariants.{First, Matching}
use Rattle.pml_tree.specs.declared.tree.Removal.TheVariants.{Remove}
use Rattle.pml_tree.specs.declared.tree.SendOrder.TheVariants.{Fifo}
use Rattle.pml_program.specs.declared.program.Program.{Program}
use Rattle.worked_runs.proofs.Models.{on, token_at, tokens_between, bit, byte, chan, mtype, short, int, slot, fields, turn, in_global, global, number, read, run, assign, holds, plain, block, if_fi, unless, process}
use Rattle.worked_runs.proofs.Same.{computes}
use Rattle.worked_runs.specs.Printed.{Printed, Valid, Invalid}
use Rattle.worked_runs.specs.Ends.{paths}
use Rattle.worked_runs.proofs.Same.{has_paths}
use Rattle.worked_runs.proofs.Models.{shown}
use Rattle.pml_token.specs.declared.token.Kind.TheVariants as kind
use Rattle.pml_tree.specs.declared.tree.Infix.TheVariants as op
use Rattle.pml_tree.specs.declared.tree.Prefix.TheVariants as before
use Rattle.pml_tree.specs.declared.tree.Fill.TheVariants as fill
use Rattle.pml_program.specs.declared.form.Form.TheVariants as form
use Rattle.pml_program.specs.declared.expr.Expr.TheVariants as expr
use Rattle.pml_program.specs.declared.expr.Want.TheVariants as want
use Rattle.pml_program.specs.declared.program.Initial.TheVariants as initial
use Rattle.pml_program.specs.declared.program.Action.TheVariants as action

-- byte b0 = 0;
-- typedef T { byte f; short g[2] }; T r;
-- active proctype Watch() { timeout; printf("%d %d %d, %d left\n", b0, r.f, r.g[1], _nr_pr) }
-- active proctype P0() { byte k; if :: ((100 > 255 -> 0 : 255) >= r.f) :: r.f = 255 fi }
-- active proctype P1() { byte k; if :: (7 > (1 + 3)) fi }
tokens-ends-934 : List Word
tokens-ends-934 =
    on 1 kind.Byte "byte" ∷ on 1 kind.Name "b0" ∷ on 1 kind.Assign "=" ∷ on 1 kind.Number "0" ∷ on 1 kind.Semicolon ";" ∷
    on 2 kind.Typedef "typedef" ∷ on 2 kind.Name "T" ∷ on 2 kind.OpenBrace "{" ∷ on 2 kind.Byte "byte" ∷ on 2 kind.Name "f" ∷
    on 2 kind.Semicolon ";" ∷ on 2 kind.Short "short" ∷ on 2 kind.Name "g" ∷ on 2 kind.OpenBracket "[" ∷ on 2 kind.Number "2" ∷
    on 2 kind.CloseBracket "]" ∷ on 2 kind.CloseBrace "}" ∷ on 2 kind.Semicolon ";" ∷ on 2 kind.Name "T" ∷ on 2 kind.Name "r" ∷
    on 2 kind.Semicolon ";" ∷ on 3 kind.Active "active" ∷ on 3 kind.Proctype "proctype" ∷ on 3 kind.Name "Watch" ∷
    on 3 kind.OpenParen "(" ∷ on 3 kind.CloseParen ")" ∷ on 3 kind.OpenBrace "{" ∷ on 3 kind.Timeout "timeout" ∷
    on 3 kind.Semicolon ";" ∷ on 3 kind.Printf "printf" ∷ on 3 kind.OpenParen "(" ∷ on 3 kind.Quoted "\"%d %d %d, %d left\\n\"" ∷
    on 3 kind.Comma "," ∷ on 3 kind.Name "b0" ∷ on 3 kind.Comma "," ∷ on 3 kind.Name "r" ∷ on 3 kind.Dot "." ∷ on 3 kind.Name "f" ∷
    on 3 kind.Comma "," ∷ on 3 kind.Name "r" ∷ on 3 kind.Dot "." ∷ on 3 kind.Name "g" ∷ on 3 kind.OpenBracket "[" ∷
    on 3 kind.Number "1" ∷ on 3 kind.CloseBracket "]" ∷ on 3 kind.Comma "," ∷ on 3 kind.Name "_nr_pr" ∷ on 3 kind.CloseParen ")" ∷
    on 3 kind.CloseBrace "}" ∷ on 4 kind.Active "active" ∷ on 4 kind.Proctype "proctype" ∷ on 4 kind.Name "P0" ∷
    on 4 kind.OpenParen "(" ∷ on 4 kind.CloseParen ")" ∷ on 4 kind.OpenBrace "{" ∷ on 4 kind.Byte "byte" ∷ on 4 kind.Name "k" ∷
    on 4 kind.Semicolon ";" ∷ on 4 kind.If "if" ∷ on 4 kind.DoubleColon "::" ∷ on 4 kind.OpenParen "(" ∷ on 4 kind.OpenParen "(" ∷
    on 4 kind.Number "100" ∷ on 4 kind.Greater ">" ∷ on 4 kind.Number "255" ∷ on 4 kind.Arrow "->" ∷ on 4 kind.Number "0" ∷
    on 4 kind.Colon ":" ∷ on 4 kind.Number "255" ∷ on 4 kind.CloseParen ")" ∷ on 4 kind.AtLeast ">=" ∷ on 4 kind.Name "r" ∷
    on 4 kind.Dot "." ∷ on 4 kind.Name "f" ∷ on 4 kind.CloseParen ")" ∷ on 4 kind.DoubleColon "::" ∷ on 4 kind.Name "r" ∷
    on 4 kind.Dot "." ∷ on 4 kind.Name "f" ∷ on 4 kind.Assign "=" ∷ on 4 kind.Number "255" ∷ on 4 kind.Fi "fi" ∷
    on 4 kind.CloseBrace "}" ∷ on 5 kind.Active "active" ∷ on 5 kind.Proctype "proctype" ∷ on 5 kind.Name "P1" ∷
    on 5 kind.OpenParen "(" ∷ on 5 kind.CloseParen ")" ∷ on 5 kind.OpenBrace "{" ∷ on 5 kind.Byte "byte" ∷ on 5 kind.Name "k" ∷
    on 5 kind.Semicolon ";" ∷ on 5 kind.If "if" ∷ on 5 kind.DoubleColon "::" ∷ on 5 kind.OpenParen "(" ∷ on 5 kind.Number "7" ∷
    on 5 kind.Greater ">" ∷ on 5 kind.OpenParen "(" ∷ on 5 kind.Number "1" ∷ on 5 kind.Plus "+" ∷ on 5 kind.Number "3" ∷
    on 5 kind.CloseParen ")" ∷ on 5 kind.CloseParen ")" ∷ on 5 kind.Fi "fi" ∷ on 5 kind.CloseBrace "}" ∷ []

model-ends-934 : Program
unfolding tokens-ends-934
model-ends-934 =
    let at : ℕ → Word = token_at tokens-ends-934 in
    let part : ℕ → ℕ → List Word = tokens_between tokens-ends-934 in
    record {
      globals = (slot (at 1) byte false 0 1 1 (initial.Value (number 0)) ∷ slot (at 19) (form.Struct 2) false 1 1 3 initial.Zero ∷ []);
      constants = [];
      typedefs = (fields 2 (slot (at 9) byte false 0 1 1 initial.Zero ∷ slot (at 12) short true 1 2 1 initial.Zero ∷ []) ∷ []);
      proctypes = (
          process (at 23) 4 1 0 [] (
          plain (part 27 28) (holds expr.Timeout) ∷
          plain (part 29 48) (action.Printf (at 31) ((read (global 0 byte)) ∷ (read (in_global 1 byte (turn 0 1 3 None ∷ turn 0 1 1 None
          ∷ []))) ∷ (read (in_global 1 short (turn 0 1 3 None ∷ turn 1 2 1 (Some (number 1)) ∷ []))) ∷ expr.ProcessCount ∷ [])) ∷ [])
          (at 48) ∷
          process (at 51) 5 1 0 (slot (at 56) byte false 0 1 1 initial.Zero ∷ []) (
          if_fi (part 58 82) (
          (plain (part 60 75) (holds (expr.Binary op.AtLeast (expr.Choice (expr.Binary op.Above (number 100) (number 255)) (number 0)
          (number 255)) (read (in_global 1 byte (turn 0 1 3 None ∷ turn 0 1 1 None ∷ []))))) ∷ []) ∷
          (plain (part 76 81) (assign (in_global 1 byte (turn 0 1 3 None ∷ turn 0 1 1 None ∷ [])) (number 255)) ∷ []) ∷ []) ∷ []) (at 82) ∷
          process (at 85) 6 1 0 (slot (at 90) byte false 0 1 1 initial.Zero ∷ []) (
          if_fi (part 92 104) (
          (plain (part 94 103) (holds (expr.Binary op.Above (number 7) (expr.Binary op.Plus (number 1) (number 3)))) ∷ []) ∷ []) ∷ [])
          (at 104) ∷ []);
    }

abbrev end-1-of-ends-934 : Printed
end-1-of-ends-934 = shown (codes "0 0 0, 1 left\n") Valid

abbrev end-2-of-ends-934 : Printed
end-2-of-ends-934 = shown (codes "0 255 0, 1 left\n") Valid

paths-of-ends-934 : paths model-ends-934 7 ≡ Some (end-1-of-ends-934 ∷ end-2-of-ends-934 ∷ end-1-of-ends-934 ∷ end-2-of-ends-934 ∷
    end-1-of-ends-934 ∷ end-2-of-ends-934 ∷ [])
unfolding computes model-ends-934
paths-of-ends-934 = has_paths model-ends-934 7 _ refl

-- mtype = { red, green, blue }; mtype m = green;
-- short s0 = 0;
-- unsigned u1 : 3 = 0;
-- int a[2];
-- active proctype Watch() { timeout; printf("%d %d %d %d, %d left\n", s0, u1, a[0], a[1], _nr_pr) }
-- active proctype P0() { byte k; if :: s0 = u1 :: ((-100) == 2 && 0 <= 2) -> a[(u1 & 1)]++; (2 < 7) fi; a[(m & 1)]++ }
-- active proctype P1() { byte k; a[0] = 2 }
tokens-ends-936 : List Word
tokens-ends-936 =
    on 1 kind.Mtype "mtype" ∷ on 1 kind.Assign "=" ∷ on 1 kind.OpenBrace "{" ∷ on 1 kind.Name "red" ∷ on 1 kind.Comma "," ∷
    on 1 kind.Name "green" ∷ on 1 kind.Comma "," ∷ on 1 kind.Name "blue" ∷ on 1 kind.CloseBrace "}" ∷ on 1 kind.Semicolon ";" ∷
    on 1 kind.Mtype "mtype" ∷ on 1 kind.Name "m" ∷ on 1 kind.Assign "=" ∷ on 1 kind.Name "green" ∷ on 1 kind.Semicolon ";" ∷
    on 2 kind.Short "short" ∷ on 2 kind.Name "s0" ∷ on 2 kind.Assign "=" ∷ on 2 kind.Number "0" ∷ on 2 kind.Semicolon ";" ∷
    on 3 kind.Unsigned "unsigned" ∷ on 3 kind.Name "u1" ∷ on 3 kind.Colon ":" ∷ on 3 kind.Number "3" ∷ on 3 kind.Assign "=" ∷
    on 3 kind.Number "0" ∷ on 3 kind.Semicolon ";" ∷ on 4 kind.Int "int" ∷ on 4 kind.Name "a" ∷ on 4 kind.OpenBracket "[" ∷
    on 4 kind.Number "2" ∷ on 4 kind.CloseBracket "]" ∷ on 4 kind.Semicolon ";" ∷ on 5 kind.Active "active" ∷
    on 5 kind.Proctype "proctype" ∷ on 5 kind.Name "Watch" ∷ on 5 kind.OpenParen "(" ∷ on 5 kind.CloseParen ")" ∷
    on 5 kind.OpenBrace "{" ∷ on 5 kind.Timeout "timeout" ∷ on 5 kind.Semicolon ";" ∷ on 5 kind.Printf "printf" ∷
    on 5 kind.OpenParen "(" ∷ on 5 kind.Quoted "\"%d %d %d %d, %d left\\n\"" ∷ on 5 kind.Comma "," ∷ on 5 kind.Name "s0" ∷
    on 5 kind.Comma "," ∷ on 5 kind.Name "u1" ∷ on 5 kind.Comma "," ∷ on 5 kind.Name "a" ∷ on 5 kind.OpenBracket "[" ∷
    on 5 kind.Number "0" ∷ on 5 kind.CloseBracket "]" ∷ on 5 kind.Comma "," ∷ on 5 kind.Name "a" ∷ on 5 kind.OpenBracket "[" ∷
    on 5 kind.Number "1" ∷ on 5 kind.CloseBracket "]" ∷ on 5 kind.Comma "," ∷ on 5 kind.Name "_nr_pr" ∷ on 5 kind.CloseParen ")" ∷
    on 5 kind.CloseBrace "}" ∷ on 6 kind.Active "active" ∷ on 6 kind.Proctype "proctype" ∷ on 6 kind.Name "P0" ∷
    on 6 kind.OpenParen "(" ∷ on 6 kind.CloseParen ")" ∷ on 6 kind.OpenBrace "{" ∷ on 6 kind.Byte "byte" ∷ on 6 kind.Name "k" ∷
    on 6 kind.Semicolon ";" ∷ on 6 kind.If "if" ∷ on 6 kind.DoubleColon "::" ∷ on 6 kind.Name "s0" ∷ on 6 kind.Assign "=" ∷
    on 6 kind.Name "u1" ∷ on 6 kind.DoubleColon "::" ∷ on 6 kind.OpenParen "(" ∷ on 6 kind.OpenParen "(" ∷ on 6 kind.Minus "-" ∷
    on 6 kind.Number "100" ∷ on 6 kind.CloseParen ")" ∷ on 6 kind.Equal "==" ∷ on 6 kind.Number "2" ∷ on 6 kind.AndAnd "&&" ∷
    on 6 kind.Number "0" ∷ on 6 kind.AtMost "<=" ∷ on 6 kind.Number "2" ∷ on 6 kind.CloseParen ")" ∷ on 6 kind.Arrow "->" ∷
    on 6 kind.Name "a" ∷ on 6 kind.OpenBracket "[" ∷ on 6 kind.OpenParen "(" ∷ on 6 kind.Name "u1" ∷ on 6 kind.Ampersand "&" ∷
    on 6 kind.Number "1" ∷ on 6 kind.CloseParen ")" ∷ on 6 kind.CloseBracket "]" ∷ on 6 kind.Increment "++" ∷
    on 6 kind.Semicolon ";" ∷ on 6 kind.OpenParen "(" ∷ on 6 kind.Number "2" ∷ on 6 kind.Less "<" ∷ on 6 kind.Number "7" ∷
    on 6 kind.CloseParen ")" ∷ on 6 kind.Fi "fi" ∷ on 6 kind.Semicolon ";" ∷ on 6 kind.Name "a" ∷ on 6 kind.OpenBracket "[" ∷
    on 6 kind.OpenParen "(" ∷ on 6 kind.Name "m" ∷ on 6 kind.Ampersand "&" ∷ on 6 kind.Number "1" ∷ on 6 kind.CloseParen ")" ∷
    on 6 kind.CloseBracket "]" ∷ on 6 kind.Increment "++" ∷ on 6 kind.CloseBrace "}" ∷ on 7 kind.Active "active" ∷
    on 7 kind.Proctype "proctype" ∷ on 7 kind.Name "P1" ∷ on 7 kind.OpenParen "(" ∷ on 7 kind.CloseParen ")" ∷
    on 7 kind.OpenBrace "{" ∷ on 7 kind.Byte "byte" ∷ on 7 kind.Name "k" ∷ on 7 kind.Semicolon ";" ∷ on 7 kind.Name "a" ∷
    on 7 kind.OpenBracket "[" ∷ on 7 kind.Number "0" ∷ on 7 kind.CloseBracket "]" ∷ on 7 kind.Assign "=" ∷ on 7 kind.Number "2" ∷
    on 7 kind.CloseBrace "}" ∷ []

model-ends-936 : Program
unfolding tokens-ends-936
model-ends-936 =
    let at : ℕ → Word = token_at tokens-ends-936 in
    let part : ℕ → ℕ → List Word = tokens_between tokens-ends-936 in
    record {
      globals = (slot (at 11) mtype false 0 1 1 (initial.Value (number 2)) ∷ slot (at 16) short false 1 1 1 (initial.Value (number 0))
          ∷ slot (at 21) (form.Unsigned 3) false 2 1 1 (initial.Value (number 0)) ∷ slot (at 28) int true 3 2 1 initial.Zero ∷ []);
      constants = ((at 7) ∷ (at 5) ∷ (at 3) ∷ []);
      typedefs = [];
      proctypes = (
          process (at 35) 6 1 0 [] (
          plain (part 39 40) (holds expr.Timeout) ∷
          plain (part 41 61) (action.Printf (at 43) ((read (global 1 short)) ∷ (read (global 2 (form.Unsigned 3))) ∷ (read (in_global 3
          int (turn 0 2 1 (Some (number 0)) ∷ []))) ∷ (read (in_global 3 int (turn 0 2 1 (Some (number 1)) ∷ []))) ∷ expr.ProcessCount
          ∷ [])) ∷ []) (at 61) ∷
          process (at 64) 7 1 0 (slot (at 69) byte false 0 1 1 initial.Zero ∷ []) (
          if_fi (part 71 106) (
          (plain (part 73 76) (assign (global 1 short) (read (global 2 (form.Unsigned 3)))) ∷ []) ∷
          (plain (part 77 89) (holds (expr.Binary op.And (expr.Binary op.Equal (expr.Unary before.Minus (number 100)) (number 2))
          (expr.Binary op.AtMost (number 0) (number 2)))) ∷
          plain (part 90 99) (action.Increment (in_global 3 int (turn 0 2 1 (Some (expr.Binary op.BitAnd (read (global 2 (form.Unsigned
          3))) (number 1))) ∷ []))) ∷
          plain (part 100 105) (holds (expr.Binary op.Below (number 2) (number 7))) ∷ []) ∷ []) ∷
          plain (part 107 116) (action.Increment (in_global 3 int (turn 0 2 1 (Some (expr.Binary op.BitAnd (read (global 0 mtype))
          (number 1))) ∷ []))) ∷ []) (at 116) ∷
          process (at 119) 8 1 0 (slot (at 124) byte false 0 1 1 initial.Zero ∷ []) (
          plain (part 126 132) (assign (in_global 3 int (turn 0 2 1 (Some (number 0)) ∷ [])) (number 2)) ∷ []) (at 132) ∷ []);
    }

abbrev end-1-of-ends-936 : Printed
end-1-of-ends-936 = shown (codes "0 0 2 0, 1 left\n") Valid

abbrev end-2-of-ends-936 : Printed
end-2-of-ends-936 = shown (codes "0 0 3 0, 1 left\n") Valid

paths-of-ends-936 : paths model-ends-936 8 ≡ Some (end-1-of-ends-936 ∷ end-2-of-ends-936 ∷ end-2-of-ends-936 ∷ end-2-of-ends-936 ∷
    end-2-of-ends-936 ∷ end-2-of-ends-936 ∷ [])
unfolding computes model-ends-936
paths-of-ends-936 = has_paths model-ends-936 8 _ refl

-- mtype = { red, green, blue }; mtype m = green;
-- byte b0 = 0;
-- int i1 = 0;
-- chan q0 = [0] of { short, byte };
-- active proctype Watch() { timeout; printf("%d %d %d, %d left\n", b0, i1, len(q0), _nr_pr) }
-- active proctype P0() { byte k; i1 = b0 }
-- proctype Q(byte n) { i1++; m = 3 }
-- init { run Q(1) }
tokens-ends-940 : List Word
tokens-ends-940 =
    on 1 kind.Mtype "mtype" ∷ on 1 kind.Assign "=" ∷ on 1 kind.OpenBrace "{" ∷ on 1 kind.Name "red" ∷ on 1 kind.Comma "," ∷
    on 1 kind.Name "green" ∷ on 1 kind.Comma "," ∷ on 1 kind.Name "blue" ∷ on 1 kind.CloseBrace "}" ∷ on 1 kind.Semicolon ";" ∷
    on 1 kind.Mtype "mtype" ∷ on 1 kind.Name "m" ∷ on 1 kind.Assign "=" ∷ on 1 kind.Name "green" ∷ on 1 kind.Semicolon ";" ∷
    on 2 kind.Byte "byte" ∷ on 2 kind.Name "b0" ∷ on 2 kind.Assign "=" ∷ on 2 kind.Number "0" ∷ on 2 kind.Semicolon ";" ∷
    on 3 kind.Int "int" ∷ on 3 kind.Name "i1" ∷ on 3 kind.Assign "=" ∷ on 3 kind.Number "0" ∷ on 3 kind.Semicolon ";" ∷
    on 4 kind.Chan "chan" ∷ on 4 kind.Name "q0" ∷ on 4 kind.Assign "=" ∷ on 4 kind.OpenBracket "[" ∷ on 4 kind.Number "0" ∷
    on 4 kind.CloseBracket "]" ∷ on 4 kind.Of "of" ∷ on 4 kind.OpenBrace "{" ∷ on 4 kind.Short "short" ∷ on 4 kind.Comma "," ∷
    on 4 kind.Byte "byte" ∷ on 4 kind.CloseBrace "}" ∷ on 4 kind.Semicolon ";" ∷ on 5 kind.Active "active" ∷
    on 5 kind.Proctype "proctype" ∷ on 5 kind.Name "Watch" ∷ on 5 kind.OpenParen "(" ∷ on 5 kind.CloseParen ")" ∷
    on 5 kind.OpenBrace "{" ∷ on 5 kind.Timeout "timeout" ∷ on 5 kind.Semicolon ";" ∷ on 5 kind.Printf "printf" ∷
    on 5 kind.OpenParen "(" ∷ on 5 kind.Quoted "\"%d %d %d, %d left\\n\"" ∷ on 5 kind.Comma "," ∷ on 5 kind.Name "b0" ∷
    on 5 kind.Comma "," ∷ on 5 kind.Name "i1" ∷ on 5 kind.Comma "," ∷ on 5 kind.Len "len" ∷ on 5 kind.OpenParen "(" ∷
    on 5 kind.Name "q0" ∷ on 5 kind.CloseParen ")" ∷ on 5 kind.Comma "," ∷ on 5 kind.Name "_nr_pr" ∷ on 5 kind.CloseParen ")" ∷
    on 5 kind.CloseBrace "}" ∷ on 6 kind.Active "active" ∷ on 6 kind.Proctype "proctype" ∷ on 6 kind.Name "P0" ∷
    on 6 kind.OpenParen "(" ∷ on 6 kind.CloseParen ")" ∷ on 6 kind.OpenBrace "{" ∷ on 6 kind.Byte "byte" ∷ on 6 kind.Name "k" ∷
    on 6 kind.Semicolon ";" ∷ on 6 kind.Name "i1" ∷ on 6 kind.Assign "=" ∷ on 6 kind.Name "b0" ∷ on 6 kind.CloseBrace "}" ∷
    on 7 kind.Proctype "proctype" ∷ on 7 kind.Name "Q" ∷ on 7 kind.OpenParen "(" ∷ on 7 kind.Byte "byte" ∷ on 7 kind.Name "n" ∷
    on 7 kind.CloseParen ")" ∷ on 7 kind.OpenBrace "{" ∷ on 7 kind.Name "i1" ∷ on 7 kind.Increment "++" ∷ on 7 kind.Semicolon ";" ∷
    on 7 kind.Name "m" ∷ on 7 kind.Assign "=" ∷ on 7 kind.Number "3" ∷ on 7 kind.CloseBrace "}" ∷ on 8 kind.Init "init" ∷
    on 8 kind.OpenBrace "{" ∷ on 8 kind.Run "run" ∷ on 8 kind.Name "Q" ∷ on 8 kind.OpenParen "(" ∷ on 8 kind.Number "1" ∷
    on 8 kind.CloseParen ")" ∷ on 8 kind.CloseBrace "}" ∷ []

model-ends-940 : Program
unfolding tokens-ends-940
model-ends-940 =
    let at : ℕ → Word = token_at tokens-ends-940 in
    let part : ℕ → ℕ → List Word = tokens_between tokens-ends-940 in
    record {
      globals = (slot (at 11) mtype false 0 1 1 (initial.Value (number 2)) ∷ slot (at 16) byte false 1 1 1 (initial.Value (number 0))
          ∷ slot (at 21) int false 2 1 1 (initial.Value (number 0)) ∷ slot (at 26) chan false 3 1 1 (initial.Channel 0 (short ∷ byte ∷
          [])) ∷ []);
      constants = ((at 7) ∷ (at 5) ∷ (at 3) ∷ []);
      typedefs = [];
      proctypes = (
          process (at 40) 6 1 0 [] (
          plain (part 44 45) (holds expr.Timeout) ∷
          plain (part 46 61) (action.Printf (at 48) ((read (global 1 byte)) ∷ (read (global 2 int)) ∷ (expr.Ask fill.Length (global 3
          chan)) ∷ expr.ProcessCount ∷ [])) ∷ []) (at 61) ∷
          process (at 64) 7 1 0 (slot (at 69) byte false 0 1 1 initial.Zero ∷ []) (
          plain (part 71 74) (assign (global 2 int) (read (global 1 byte))) ∷ []) (at 74) ∷
          process (at 76) 8 0 1 (slot (at 79) byte false 0 1 1 initial.Zero ∷ []) (
          plain (part 82 84) (action.Increment (global 2 int)) ∷
          plain (part 85 88) (assign (global 0 mtype) (number 3)) ∷ []) (at 88) ∷
          process (at 89) 9 1 0 [] (
          plain (part 91 96) (action.Run (run 2 ((number 1) ∷ []))) ∷ []) (at 96) ∷ []);
    }

abbrev end-1-of-ends-940 : Printed
end-1-of-ends-940 = shown (codes "0 1 0, 1 left\n") Valid

abbrev end-2-of-ends-940 : Printed
end-2-of-ends-940 = shown (codes "0 0 0, 1 left\n") Valid

paths-of-ends-940 : paths model-ends-940 10 ≡ Some (end-1-of-ends-940 ∷ end-1-of-ends-940 ∷ end-2-of-ends-940 ∷ end-2-of-ends-940 ∷
    end-2-of-ends-940 ∷ end-2-of-ends-940 ∷ [])
unfolding computes model-ends-940
paths-of-ends-940 = has_paths model-ends-940 10 _ refl

-- unsigned u0 : 3 = 0;
-- int a[2];
-- chan q0 = [0] of { int };
-- active proctype Watch() { timeout; printf("%d %d %d %d, %d left\n", u0, a[0], a[1], len(q0), _nr_pr) }
-- active proctype P0() { byte k; { u0 = 7 } unless { (2 > 255) -> q0!a[1] } }
-- active proctype P1() { byte k; u0++ }
-- proctype Q(byte n) { q0?2 }
-- init { run Q(2) }
tokens-ends-948 : List Word
tokens-ends-948 =
    on 1 kind.Unsigned "unsigned" ∷ on 1 kind.Name "u0" ∷ on 1 kind.Colon ":" ∷ on 1 kind.Number "3" ∷ on 1 kind.Assign "=" ∷
    on 1 kind.Number "0" ∷ on 1 kind.Semicolon ";" ∷ on 2 kind.Int "int" ∷ on 2 kind.Name "a" ∷ on 2 kind.OpenBracket "[" ∷
    on 2 kind.Number "2" ∷ on 2 kind.CloseBracket "]" ∷ on 2 kind.Semicolon ";" ∷ on 3 kind.Chan "chan" ∷ on 3 kind.Name "q0" ∷
    on 3 kind.Assign "=" ∷ on 3 kind.OpenBracket "[" ∷ on 3 kind.Number "0" ∷ on 3 kind.CloseBracket "]" ∷ on 3 kind.Of "of" ∷
    on 3 kind.OpenBrace "{" ∷ on 3 kind.Int "int" ∷ on 3 kind.CloseBrace "}" ∷ on 3 kind.Semicolon ";" ∷ on 4 kind.Active "active" ∷
    on 4 kind.Proctype "proctype" ∷ on 4 kind.Name "Watch" ∷ on 4 kind.OpenParen "(" ∷ on 4 kind.CloseParen ")" ∷
    on 4 kind.OpenBrace "{" ∷ on 4 kind.Timeout "timeout" ∷ on 4 kind.Semicolon ";" ∷ on 4 kind.Printf "printf" ∷
    on 4 kind.OpenParen "(" ∷ on 4 kind.Quoted "\"%d %d %d %d, %d left\\n\"" ∷ on 4 kind.Comma "," ∷ on 4 kind.Name "u0" ∷
    on 4 kind.Comma "," ∷ on 4 kind.Name "a" ∷ on 4 kind.OpenBracket "[" ∷ on 4 kind.Number "0" ∷ on 4 kind.CloseBracket "]" ∷
    on 4 kind.Comma "," ∷ on 4 kind.Name "a" ∷ on 4 kind.OpenBracket "[" ∷ on 4 kind.Number "1" ∷ on 4 kind.CloseBracket "]" ∷
    on 4 kind.Comma "," ∷ on 4 kind.Len "len" ∷ on 4 kind.OpenParen "(" ∷ on 4 kind.Name "q0" ∷ on 4 kind.CloseParen ")" ∷
    on 4 kind.Comma "," ∷ on 4 kind.Name "_nr_pr" ∷ on 4 kind.CloseParen ")" ∷ on 4 kind.CloseBrace "}" ∷ on 5 kind.Active "active" ∷
    on 5 kind.Proctype "proctype" ∷ on 5 kind.Name "P0" ∷ on 5 kind.OpenParen "(" ∷ on 5 kind.CloseParen ")" ∷
    on 5 kind.OpenBrace "{" ∷ on 5 kind.Byte "byte" ∷ on 5 kind.Name "k" ∷ on 5 kind.Semicolon ";" ∷ on 5 kind.OpenBrace "{" ∷
    on 5 kind.Name "u0" ∷ on 5 kind.Assign "=" ∷ on 5 kind.Number "7" ∷ on 5 kind.CloseBrace "}" ∷ on 5 kind.Unless "unless" ∷
    on 5 kind.OpenBrace "{" ∷ on 5 kind.OpenParen "(" ∷ on 5 kind.Number "2" ∷ on 5 kind.Greater ">" ∷ on 5 kind.Number "255" ∷
    on 5 kind.CloseParen ")" ∷ on 5 kind.Arrow "->" ∷ on 5 kind.Name "q0" ∷ on 5 kind.Bang "!" ∷ on 5 kind.Name "a" ∷
    on 5 kind.OpenBracket "[" ∷ on 5 kind.Number "1" ∷ on 5 kind.CloseBracket "]" ∷ on 5 kind.CloseBrace "}" ∷
    on 5 kind.CloseBrace "}" ∷ on 6 kind.Active "active" ∷ on 6 kind.Proctype "proctype" ∷ on 6 kind.Name "P1" ∷
    on 6 kind.OpenParen "(" ∷ on 6 kind.CloseParen ")" ∷ on 6 kind.OpenBrace "{" ∷ on 6 kind.Byte "byte" ∷ on 6 kind.Name "k" ∷
    on 6 kind.Semicolon ";" ∷ on 6 kind.Name "u0" ∷ on 6 kind.Increment "++" ∷ on 6 kind.CloseBrace "}" ∷
    on 7 kind.Proctype "proctype" ∷ on 7 kind.Name "Q" ∷ on 7 kind.OpenParen "(" ∷ on 7 kind.Byte "byte" ∷ on 7 kind.Name "n" ∷
    on 7 kind.CloseParen ")" ∷ on 7 kind.OpenBrace "{" ∷ on 7 kind.Name "q0" ∷ on 7 kind.Query "?" ∷ on 7 kind.Number "2" ∷
    on 7 kind.CloseBrace "}" ∷ on 8 kind.Init "init" ∷ on 8 kind.OpenBrace "{" ∷ on 8 kind.Run "run" ∷ on 8 kind.Name "Q" ∷
    on 8 kind.OpenParen "(" ∷ on 8 kind.Number "2" ∷ on 8 kind.CloseParen ")" ∷ on 8 kind.CloseBrace "}" ∷ []

model-ends-948 : Program
unfolding tokens-ends-948
model-ends-948 =
    let at : ℕ → Word = token_at tokens-ends-948 in
    let part : ℕ → ℕ → List Word = tokens_between tokens-ends-948 in
    record {
      globals = (slot (at 1) (form.Unsigned 3) false 0 1 1 (initial.Value (number 0)) ∷ slot (at 8) int true 1 2 1 initial.Zero ∷ slot
          (at 14) chan false 3 1 1 (initial.Channel 0 (int ∷ [])) ∷ []);
      constants = [];
      typedefs = [];
      proctypes = (
          process (at 26) 4 1 0 [] (
          plain (part 30 31) (holds expr.Timeout) ∷
          plain (part 32 55) (action.Printf (at 34) ((read (global 0 (form.Unsigned 3))) ∷ (read (in_global 1 int (turn 0 2 1 (Some
          (number 0)) ∷ []))) ∷ (read (in_global 1 int (turn 0 2 1 (Some (number 1)) ∷ []))) ∷ (expr.Ask fill.Length (global 2 chan))
          ∷ expr.ProcessCount ∷ [])) ∷ []) (at 55) ∷
          process (at 58) 5 1 0 (slot (at 63) byte false 0 1 1 initial.Zero ∷ []) (
          unless (part 65 85) (
          block (part 65 70) (
          plain (part 66 69) (assign (global 0 (form.Unsigned 3)) (number 7)) ∷ []) ∷ []) (
          block (part 71 85) (
          plain (part 72 77) (holds (expr.Binary op.Above (number 2) (number 255))) ∷
          plain (part 78 84) (action.Send (global 2 chan) Fifo ((read (in_global 1 int (turn 0 2 1 (Some (number 1)) ∷ []))) ∷ [])) ∷
          []) ∷ []) ∷ []) (at 85) ∷
          process (at 88) 6 1 0 (slot (at 93) byte false 0 1 1 initial.Zero ∷ []) (
          plain (part 95 97) (action.Increment (global 0 (form.Unsigned 3))) ∷ []) (at 97) ∷
          process (at 99) 7 0 1 (slot (at 102) byte false 0 1 1 initial.Zero ∷ []) (
          plain (part 105 108) (action.Receive (global 2 chan) First Remove (want.Exactly (pos 2) ∷ [])) ∷ []) (at 108) ∷
          process (at 109) 8 1 0 [] (
          plain (part 111 116) (action.Run (run 3 ((number 2) ∷ []))) ∷ []) (at 116) ∷ []);
    }

abbrev end-1-of-ends-948 : Printed
end-1-of-ends-948 = shown (codes "0 0 0 0, 5 left\n") Invalid

abbrev end-2-of-ends-948 : Printed
end-2-of-ends-948 = shown (codes "7 0 0 0, 5 left\n") Invalid

paths-of-ends-948 : paths model-ends-948 5 ≡ Some (end-1-of-ends-948 ∷ end-1-of-ends-948 ∷ end-2-of-ends-948 ∷ end-2-of-ends-948 ∷
    end-1-of-ends-948 ∷ end-2-of-ends-948 ∷ [])
unfolding computes model-ends-948
paths-of-ends-948 = has_paths model-ends-948 5 _ refl

-- mtype = { red, green, blue }; mtype m = green;
-- short s0 = 1;
-- byte b1 = 1;
-- short a[2];
-- active proctype Watch() { timeout; printf("%d %d %d %d, %d left\n", s0, b1, a[0], a[1], _nr_pr) }
-- active proctype P0() { byte k; a[(b1 & 1)] = 3; s0 = (100 - s0) }
-- active proctype P1() { byte k; if :: a[(s0 & 1)] = s0; s0 = s0 fi }
tokens-ends-950 : List Word
tokens-ends-950 =
    on 1 kind.Mtype "mtype" ∷ on 1 kind.Assign "=" ∷ on 1 kind.OpenBrace "{" ∷ on 1 kind.Name "red" ∷ on 1 kind.Comma "," ∷
    on 1 kind.Name "green" ∷ on 1 kind.Comma "," ∷ on 1 kind.Name "blue" ∷ on 1 kind.CloseBrace "}" ∷ on 1 kind.Semicolon ";" ∷
    on 1 kind.Mtype "mtype" ∷ on 1 kind.Name "m" ∷ on 1 kind.Assign "=" ∷ on 1 kind.Name "green" ∷ on 1 kind.Semicolon ";" ∷
    on 2 kind.Short "short" ∷ on 2 kind.Name "s0" ∷ on 2 kind.Assign "=" ∷ on 2 kind.Number "1" ∷ on 2 kind.Semicolon ";" ∷
    on 3 kind.Byte "byte" ∷ on 3 kind.Name "b1" ∷ on 3 kind.Assign "=" ∷ on 3 kind.Number "1" ∷ on 3 kind.Semicolon ";" ∷
    on 4 kind.Short "short" ∷ on 4 kind.Name "a" ∷ on 4 kind.OpenBracket "[" ∷ on 4 kind.Number "2" ∷ on 4 kind.CloseBracket "]" ∷
    on 4 kind.Semicolon ";" ∷ on 5 kind.Active "active" ∷ on 5 kind.Proctype "proctype" ∷ on 5 kind.Name "Watch" ∷
    on 5 kind.OpenParen "(" ∷ on 5 kind.CloseParen ")" ∷ on 5 kind.OpenBrace "{" ∷ on 5 kind.Timeout "timeout" ∷
    on 5 kind.Semicolon ";" ∷ on 5 kind.Printf "printf" ∷ on 5 kind.OpenParen "(" ∷ on 5 kind.Quoted "\"%d %d %d %d, %d left\\n\"" ∷
    on 5 kind.Comma "," ∷ on 5 kind.Name "s0" ∷ on 5 kind.Comma "," ∷ on 5 kind.Name "b1" ∷ on 5 kind.Comma "," ∷
    on 5 kind.Name "a" ∷ on 5 kind.OpenBracket "[" ∷ on 5 kind.Number "0" ∷ on 5 kind.CloseBracket "]" ∷ on 5 kind.Comma "," ∷
    on 5 kind.Name "a" ∷ on 5 kind.OpenBracket "[" ∷ on 5 kind.Number "1" ∷ on 5 kind.CloseBracket "]" ∷ on 5 kind.Comma "," ∷
    on 5 kind.Name "_nr_pr" ∷ on 5 kind.CloseParen ")" ∷ on 5 kind.CloseBrace "}" ∷ on 6 kind.Active "active" ∷
    on 6 kind.Proctype "proctype" ∷ on 6 kind.Name "P0" ∷ on 6 kind.OpenParen "(" ∷ on 6 kind.CloseParen ")" ∷
    on 6 kind.OpenBrace "{" ∷ on 6 kind.Byte "byte" ∷ on 6 kind.Name "k" ∷ on 6 kind.Semicolon ";" ∷ on 6 kind.Name "a" ∷
    on 6 kind.OpenBracket "[" ∷ on 6 kind.OpenParen "(" ∷ on 6 kind.Name "b1" ∷ on 6 kind.Ampersand "&" ∷ on 6 kind.Number "1" ∷
    on 6 kind.CloseParen ")" ∷ on 6 kind.CloseBracket "]" ∷ on 6 kind.Assign "=" ∷ on 6 kind.Number "3" ∷ on 6 kind.Semicolon ";" ∷
    on 6 kind.Name "s0" ∷ on 6 kind.Assign "=" ∷ on 6 kind.OpenParen "(" ∷ on 6 kind.Number "100" ∷ on 6 kind.Minus "-" ∷
    on 6 kind.Name "s0" ∷ on 6 kind.CloseParen ")" ∷ on 6 kind.CloseBrace "}" ∷ on 7 kind.Active "active" ∷
    on 7 kind.Proctype "proctype" ∷ on 7 kind.Name "P1" ∷ on 7 kind.OpenParen "(" ∷ on 7 kind.CloseParen ")" ∷
    on 7 kind.OpenBrace "{" ∷ on 7 kind.Byte "byte" ∷ on 7 kind.Name "k" ∷ on 7 kind.Semicolon ";" ∷ on 7 kind.If "if" ∷
    on 7 kind.DoubleColon "::" ∷ on 7 kind.Name "a" ∷ on 7 kind.OpenBracket "[" ∷ on 7 kind.OpenParen "(" ∷ on 7 kind.Name "s0" ∷
    on 7 kind.Ampersand "&" ∷ on 7 kind.Number "1" ∷ on 7 kind.CloseParen ")" ∷ on 7 kind.CloseBracket "]" ∷ on 7 kind.Assign "=" ∷
    on 7 kind.Name "s0" ∷ on 7 kind.Semicolon ";" ∷ on 7 kind.Name "s0" ∷ on 7 kind.Assign "=" ∷ on 7 kind.Name "s0" ∷
    on 7 kind.Fi "fi" ∷ on 7 kind.CloseBrace "}" ∷ []

model-ends-950 : Program
unfolding tokens-ends-950
model-ends-950 =
    let at : ℕ → Word = token_at tokens-ends-950 in
    let part : ℕ → ℕ → List Word = tokens_between tokens-ends-950 in
    record {
      globals = (slot (at 11) mtype false 0 1 1 (initial.Value (number 2)) ∷ slot (at 16) short false 1 1 1 (initial.Value (number 1))
          ∷ slot (at 21) byte false 2 1 1 (initial.Value (number 1)) ∷ slot (at 26) short true 3 2 1 initial.Zero ∷ []);
      constants = ((at 7) ∷ (at 5) ∷ (at 3) ∷ []);
      typedefs = [];
      proctypes = (
          process (at 33) 6 1 0 [] (
          plain (part 37 38) (holds expr.Timeout) ∷
          plain (part 39 59) (action.Printf (at 41) ((read (global 1 short)) ∷ (read (global 2 byte)) ∷ (read (in_global 3 short (turn 0
          2 1 (Some (number 0)) ∷ []))) ∷ (read (in_global 3 short (turn 0 2 1 (Some (number 1)) ∷ []))) ∷ expr.ProcessCount ∷ [])) ∷
          []) (at 59) ∷
          process (at 62) 7 1 0 (slot (at 67) byte false 0 1 1 initial.Zero ∷ []) (
          plain (part 69 79) (assign (in_global 3 short (turn 0 2 1 (Some (expr.Binary op.BitAnd (read (global 2 byte)) (number 1))) ∷
          [])) (number 3)) ∷
          plain (part 80 87) (assign (global 1 short) (expr.Binary op.Minus (number 100) (read (global 1 short)))) ∷ []) (at 87) ∷
          process (at 90) 8 1 0 (slot (at 95) byte false 0 1 1 initial.Zero ∷ []) (
          if_fi (part 97 114) (
          (plain (part 99 109) (assign (in_global 3 short (turn 0 2 1 (Some (expr.Binary op.BitAnd (read (global 1 short)) (number 1)))
          ∷ [])) (read (global 1 short))) ∷
          plain (part 110 113) (assign (global 1 short) (read (global 1 short))) ∷ []) ∷ []) ∷ []) (at 114) ∷ []);
    }

abbrev end-1-of-ends-950 : Printed
end-1-of-ends-950 = shown (codes "99 1 0 99, 1 left\n") Valid

abbrev end-2-of-ends-950 : Printed
end-2-of-ends-950 = shown (codes "99 1 0 1, 1 left\n") Valid

abbrev end-3-of-ends-950 : Printed
end-3-of-ends-950 = shown (codes "99 1 0 3, 1 left\n") Valid

paths-of-ends-950 : paths model-ends-950 9 ≡ Some (end-1-of-ends-950 ∷ end-2-of-ends-950 ∷ end-2-of-ends-950 ∷ end-2-of-ends-950 ∷
    end-3-of-ends-950 ∷ end-3-of-ends-950 ∷ end-3-of-ends-950 ∷ end-3-of-ends-950 ∷ end-3-of-ends-950 ∷ end-3-of-ends-950 ∷ [])
unfolding computes model-ends-950
paths-of-ends-950 = has_paths model-ends-950 9 _ refl

-- int i0 = 1;
-- chan q0 = [2] of { byte };
-- active proctype Watch() { timeout; printf("%d %d, %d left\n", i0, len(q0), _nr_pr) }
-- active proctype P0() { byte k; i0 = 255 }
-- active proctype P1() { byte k; if :: i0 = ((0 < i0 && 3 >= 1) -> (255 & 300) : 7) :: i0 = (300 << 3); i0-- :: else -> q0!100 fi }
tokens-ends-951 : List Word
tokens-ends-951 =
    on 1 kind.Int "int" ∷ on 1 kind.Name "i0" ∷ on 1 kind.Assign "=" ∷ on 1 kind.Number "1" ∷ on 1 kind.Semicolon ";" ∷
    on 2 kind.Chan "chan" ∷ on 2 kind.Name "q0" ∷ on 2 kind.Assign "=" ∷ on 2 kind.OpenBracket "[" ∷ on 2 kind.Number "2" ∷
    on 2 kind.CloseBracket "]" ∷ on 2 kind.Of "of" ∷ on 2 kind.OpenBrace "{" ∷ on 2 kind.Byte "byte" ∷ on 2 kind.CloseBrace "}" ∷
    on 2 kind.Semicolon ";" ∷ on 3 kind.Active "active" ∷ on 3 kind.Proctype "proctype" ∷ on 3 kind.Name "Watch" ∷
    on 3 kind.OpenParen "(" ∷ on 3 kind.CloseParen ")" ∷ on 3 kind.OpenBrace "{" ∷ on 3 kind.Timeout "timeout" ∷
    on 3 kind.Semicolon ";" ∷ on 3 kind.Printf "printf" ∷ on 3 kind.OpenParen "(" ∷ on 3 kind.Quoted "\"%d %d, %d left\\n\"" ∷
    on 3 kind.Comma "," ∷ on 3 kind.Name "i0" ∷ on 3 kind.Comma "," ∷ on 3 kind.Len "len" ∷ on 3 kind.OpenParen "(" ∷
    on 3 kind.Name "q0" ∷ on 3 kind.CloseParen ")" ∷ on 3 kind.Comma "," ∷ on 3 kind.Name "_nr_pr" ∷ on 3 kind.CloseParen ")" ∷
    on 3 kind.CloseBrace "}" ∷ on 4 kind.Active "active" ∷ on 4 kind.Proctype "proctype" ∷ on 4 kind.Name "P0" ∷
    on 4 kind.OpenParen "(" ∷ on 4 kind.CloseParen ")" ∷ on 4 kind.OpenBrace "{" ∷ on 4 kind.Byte "byte" ∷ on 4 kind.Name "k" ∷
    on 4 kind.Semicolon ";" ∷ on 4 kind.Name "i0" ∷ on 4 kind.Assign "=" ∷ on 4 kind.Number "255" ∷ on 4 kind.CloseBrace "}" ∷
    on 5 kind.Active "active" ∷ on 5 kind.Proctype "proctype" ∷ on 5 kind.Name "P1" ∷ on 5 kind.OpenParen "(" ∷
    on 5 kind.CloseParen ")" ∷ on 5 kind.OpenBrace "{" ∷ on 5 kind.Byte "byte" ∷ on 5 kind.Name "k" ∷ on 5 kind.Semicolon ";" ∷
    on 5 kind.If "if" ∷ on 5 kind.DoubleColon "::" ∷ on 5 kind.Name "i0" ∷ on 5 kind.Assign "=" ∷ on 5 kind.OpenParen "(" ∷
    on 5 kind.OpenParen "(" ∷ on 5 kind.Number "0" ∷ on 5 kind.Less "<" ∷ on 5 kind.Name "i0" ∷ on 5 kind.AndAnd "&&" ∷
    on 5 kind.Number "3" ∷ on 5 kind.AtLeast ">=" ∷ on 5 kind.Number "1" ∷ on 5 kind.CloseParen ")" ∷ on 5 kind.Arrow "->" ∷
    on 5 kind.OpenParen "(" ∷ on 5 kind.Number "255" ∷ on 5 kind.Ampersand "&" ∷ on 5 kind.Number "300" ∷ on 5 kind.CloseParen ")" ∷
    on 5 kind.Colon ":" ∷ on 5 kind.Number "7" ∷ on 5 kind.CloseParen ")" ∷ on 5 kind.DoubleColon "::" ∷ on 5 kind.Name "i0" ∷
    on 5 kind.Assign "=" ∷ on 5 kind.OpenParen "(" ∷ on 5 kind.Number "300" ∷ on 5 kind.ShiftLeft "<<" ∷ on 5 kind.Number "3" ∷
    on 5 kind.CloseParen ")" ∷ on 5 kind.Semicolon ";" ∷ on 5 kind.Name "i0" ∷ on 5 kind.Decrement "--" ∷
    on 5 kind.DoubleColon "::" ∷ on 5 kind.Else "else" ∷ on 5 kind.Arrow "->" ∷ on 5 kind.Name "q0" ∷ on 5 kind.Bang "!" ∷
    on 5 kind.Number "100" ∷ on 5 kind.Fi "fi" ∷ on 5 kind.CloseBrace "}" ∷ []

model-ends-951 : Program
unfolding tokens-ends-951
model-ends-951 =
    let at : ℕ → Word = token_at tokens-ends-951 in
    let part : ℕ → ℕ → List Word = tokens_between tokens-ends-951 in
    record {
      globals = (slot (at 1) int false 0 1 1 (initial.Value (number 1)) ∷ slot (at 6) chan false 1 1 1 (initial.Channel 2 (byte ∷ [])) ∷ []);
      constants = [];
      typedefs = [];
      proctypes = (
          process (at 18) 3 1 0 [] (
          plain (part 22 23) (holds expr.Timeout) ∷
          plain (part 24 37) (action.Printf (at 26) ((read (global 0 int)) ∷ (expr.Ask fill.Length (global 1 chan)) ∷ expr.ProcessCount
          ∷ [])) ∷ []) (at 37) ∷
          process (at 40) 4 1 0 (slot (at 45) byte false 0 1 1 initial.Zero ∷ []) (
          plain (part 47 50) (assign (global 0 int) (number 255)) ∷ []) (at 50) ∷
          process (at 53) 5 1 0 (slot (at 58) byte false 0 1 1 initial.Zero ∷ []) (
          if_fi (part 60 101) (
          (plain (part 62 83) (assign (global 0 int) (expr.Choice (expr.Binary op.And (expr.Binary op.Below (number 0) (read (global 0
          int))) (expr.Binary op.AtLeast (number 3) (number 1))) (expr.Binary op.BitAnd (number 255) (number 300)) (number 7))) ∷ [])
          ∷
          (plain (part 84 91) (assign (global 0 int) (expr.Binary op.ShiftLeft (number 300) (number 3))) ∷
          plain (part 92 94) (action.Decrement (global 0 int)) ∷ []) ∷
          (plain (part 95 96) action.Else ∷
          plain (part 97 100) (action.Send (global 1 chan) Fifo ((number 100) ∷ [])) ∷ []) ∷ []) ∷ []) (at 101) ∷ []);
    }

abbrev end-1-of-ends-951 : Printed
end-1-of-ends-951 = shown (codes "44 0, 1 left\n") Valid

abbrev end-2-of-ends-951 : Printed
end-2-of-ends-951 = shown (codes "2399 0, 1 left\n") Valid

abbrev end-3-of-ends-951 : Printed
end-3-of-ends-951 = shown (codes "255 0, 1 left\n") Valid

abbrev end-4-of-ends-951 : Printed
end-4-of-ends-951 = shown (codes "254 0, 1 left\n") Valid

paths-of-ends-951 : paths model-ends-951 8 ≡ Some (end-1-of-ends-951 ∷ end-2-of-ends-951 ∷ end-3-of-ends-951 ∷ end-3-of-ends-951 ∷
    end-4-of-ends-951 ∷ end-3-of-ends-951 ∷ end-3-of-ends-951 ∷ [])
unfolding computes model-ends-951
paths-of-ends-951 = has_paths model-ends-951 8 _ refl

-- mtype = { red, green, blue }; mtype m = green;
-- short s0 = 1;
-- bit t1 = 1;
-- chan q0 = [2] of { byte, mtype };
-- active proctype Watch() { timeout; printf("%d %d %d, %d left\n", s0, t1, len(q0), _nr_pr) }
-- active proctype P0() { byte k; if :: q0??1, _; t1 = 1 fi }
-- active proctype P1() { byte k; if :: m = 7 :: t1 < m -> (nempty(q0)); m-- fi }
-- proctype Q(byte n) { m = (s0 - 7) }
-- init { run Q(1) }
tokens-ends-958 : List Word
tokens-ends-958 =
    on 1 kind.Mtype "mtype" ∷ on 1 kind.Assign "=" ∷ on 1 kind.OpenBrace "{" ∷ on 1 kind.Name "red" ∷ on 1 kind.Comma "," ∷
    on 1 kind.Name "green" ∷ on 1 kind.Comma "," ∷ on 1 kind.Name "blue" ∷ on 1 kind.CloseBrace "}" ∷ on 1 kind.Semicolon ";" ∷
    on 1 kind.Mtype "mtype" ∷ on 1 kind.Name "m" ∷ on 1 kind.Assign "=" ∷ on 1 kind.Name "green" ∷ on 1 kind.Semicolon ";" ∷
    on 2 kind.Short "short" ∷ on 2 kind.Name "s0" ∷ on 2 kind.Assign "=" ∷ on 2 kind.Number "1" ∷ on 2 kind.Semicolon ";" ∷
    on 3 kind.Bit "bit" ∷ on 3 kind.Name "t1" ∷ on 3 kind.Assign "=" ∷ on 3 kind.Number "1" ∷ on 3 kind.Semicolon ";" ∷
    on 4 kind.Chan "chan" ∷ on 4 kind.Name "q0" ∷ on 4 kind.Assign "=" ∷ on 4 kind.OpenBracket "[" ∷ on 4 kind.Number "2" ∷
    on 4 kind.CloseBracket "]" ∷ on 4 kind.Of "of" ∷ on 4 kind.OpenBrace "{" ∷ on 4 kind.Byte "byte" ∷ on 4 kind.Comma "," ∷
    on 4 kind.Mtype "mtype" ∷ on 4 kind.CloseBrace "}" ∷ on 4 kind.Semicolon ";" ∷ on 5 kind.Active "active" ∷
    on 5 kind.Proctype "proctype" ∷ on 5 kind.Name "Watch" ∷ on 5 kind.OpenParen "(" ∷ on 5 kind.CloseParen ")" ∷
    on 5 kind.OpenBrace "{" ∷ on 5 kind.Timeout "timeout" ∷ on 5 kind.Semicolon ";" ∷ on 5 kind.Printf "printf" ∷
    on 5 kind.OpenParen "(" ∷ on 5 kind.Quoted "\"%d %d %d, %d left\\n\"" ∷ on 5 kind.Comma "," ∷ on 5 kind.Name "s0" ∷
    on 5 kind.Comma "," ∷ on 5 kind.Name "t1" ∷ on 5 kind.Comma "," ∷ on 5 kind.Len "len" ∷ on 5 kind.OpenParen "(" ∷
    on 5 kind.Name "q0" ∷ on 5 kind.CloseParen ")" ∷ on 5 kind.Comma "," ∷ on 5 kind.Name "_nr_pr" ∷ on 5 kind.CloseParen ")" ∷
    on 5 kind.CloseBrace "}" ∷ on 6 kind.Active "active" ∷ on 6 kind.Proctype "proctype" ∷ on 6 kind.Name "P0" ∷
    on 6 kind.OpenParen "(" ∷ on 6 kind.CloseParen ")" ∷ on 6 kind.OpenBrace "{" ∷ on 6 kind.Byte "byte" ∷ on 6 kind.Name "k" ∷
    on 6 kind.Semicolon ";" ∷ on 6 kind.If "if" ∷ on 6 kind.DoubleColon "::" ∷ on 6 kind.Name "q0" ∷ on 6 kind.QueryQuery "??" ∷
    on 6 kind.Number "1" ∷ on 6 kind.Comma "," ∷ on 6 kind.Name "_" ∷ on 6 kind.Semicolon ";" ∷ on 6 kind.Name "t1" ∷
    on 6 kind.Assign "=" ∷ on 6 kind.Number "1" ∷ on 6 kind.Fi "fi" ∷ on 6 kind.CloseBrace "}" ∷ on 7 kind.Active "active" ∷
    on 7 kind.Proctype "proctype" ∷ on 7 kind.Name "P1" ∷ on 7 kind.OpenParen "(" ∷ on 7 kind.CloseParen ")" ∷
    on 7 kind.OpenBrace "{" ∷ on 7 kind.Byte "byte" ∷ on 7 kind.Name "k" ∷ on 7 kind.Semicolon ";" ∷ on 7 kind.If "if" ∷
    on 7 kind.DoubleColon "::" ∷ on 7 kind.Name "m" ∷ on 7 kind.Assign "=" ∷ on 7 kind.Number "7" ∷ on 7 kind.DoubleColon "::" ∷
    on 7 kind.Name "t1" ∷ on 7 kind.Less "<" ∷ on 7 kind.Name "m" ∷ on 7 kind.Arrow "->" ∷ on 7 kind.OpenParen "(" ∷
    on 7 kind.Nempty "nempty" ∷ on 7 kind.OpenParen "(" ∷ on 7 kind.Name "q0" ∷ on 7 kind.CloseParen ")" ∷ on 7 kind.CloseParen ")" ∷
    on 7 kind.Semicolon ";" ∷ on 7 kind.Name "m" ∷ on 7 kind.Decrement "--" ∷ on 7 kind.Fi "fi" ∷ on 7 kind.CloseBrace "}" ∷
    on 8 kind.Proctype "proctype" ∷ on 8 kind.Name "Q" ∷ on 8 kind.OpenParen "(" ∷ on 8 kind.Byte "byte" ∷ on 8 kind.Name "n" ∷
    on 8 kind.CloseParen ")" ∷ on 8 kind.OpenBrace "{" ∷ on 8 kind.Name "m" ∷ on 8 kind.Assign "=" ∷ on 8 kind.OpenParen "(" ∷
    on 8 kind.Name "s0" ∷ on 8 kind.Minus "-" ∷ on 8 kind.Number "7" ∷ on 8 kind.CloseParen ")" ∷ on 8 kind.CloseBrace "}" ∷
    on 9 kind.Init "init" ∷ on 9 kind.OpenBrace "{" ∷ on 9 kind.Run "run" ∷ on 9 kind.Name "Q" ∷ on 9 kind.OpenParen "(" ∷
    on 9 kind.Number "1" ∷ on 9 kind.CloseParen ")" ∷ on 9 kind.CloseBrace "}" ∷ []

model-ends-958 : Program
unfolding tokens-ends-958
model-ends-958 =
    let at : ℕ → Word = token_at tokens-ends-958 in
    let part : ℕ → ℕ → List Word = tokens_between tokens-ends-958 in
    record {
      globals = (slot (at 11) mtype false 0 1 1 (initial.Value (number 2)) ∷ slot (at 16) short false 1 1 1 (initial.Value (number 1))
          ∷ slot (at 21) bit false 2 1 1 (initial.Value (number 1)) ∷ slot (at 26) chan false 3 1 1 (initial.Channel 2 (byte ∷ mtype ∷
          [])) ∷ []);
      constants = ((at 7) ∷ (at 5) ∷ (at 3) ∷ []);
      typedefs = [];
      proctypes = (
          process (at 40) 6 1 0 [] (
          plain (part 44 45) (holds expr.Timeout) ∷
          plain (part 46 61) (action.Printf (at 48) ((read (global 1 short)) ∷ (read (global 2 bit)) ∷ (expr.Ask fill.Length (global 3
          chan)) ∷ expr.ProcessCount ∷ [])) ∷ []) (at 61) ∷
          process (at 64) 7 1 0 (slot (at 69) byte false 0 1 1 initial.Zero ∷ []) (
          if_fi (part 71 83) (
          (plain (part 73 78) (action.Receive (global 3 chan) Matching Remove (want.Exactly (pos 1) ∷ want.Anything ∷ [])) ∷
          plain (part 79 82) (assign (global 2 bit) (number 1)) ∷ []) ∷ []) ∷ []) (at 83) ∷
          process (at 86) 8 1 0 (slot (at 91) byte false 0 1 1 initial.Zero ∷ []) (
          if_fi (part 93 113) (
          (plain (part 95 98) (assign (global 0 mtype) (number 7)) ∷ []) ∷
          (plain (part 99 102) (holds (expr.Binary op.Below (read (global 2 bit)) (read (global 0 mtype)))) ∷
          plain (part 103 109) (holds (expr.Ask fill.IsNotEmpty (global 3 chan))) ∷
          plain (part 110 112) (action.Decrement (global 0 mtype)) ∷ []) ∷ []) ∷ []) (at 113) ∷
          process (at 115) 9 0 1 (slot (at 118) byte false 0 1 1 initial.Zero ∷ []) (
          plain (part 121 128) (assign (global 0 mtype) (expr.Binary op.Minus (read (global 1 short)) (number 7))) ∷ []) (at 128) ∷
          process (at 129) 10 1 0 [] (
          plain (part 131 136) (action.Run (run 3 ((number 1) ∷ []))) ∷ []) (at 136) ∷ []);
    }

abbrev end-1-of-ends-958 : Printed
end-1-of-ends-958 = shown (codes "1 1 0, 2 left\n") Invalid

abbrev end-2-of-ends-958 : Printed
end-2-of-ends-958 = shown (codes "1 1 0, 3 left\n") Invalid

paths-of-ends-958 : paths model-ends-958 8 ≡ Some (end-1-of-ends-958 ∷ end-2-of-ends-958 ∷ end-1-of-ends-958 ∷ end-2-of-ends-958 ∷
    end-1-of-ends-958 ∷ end-2-of-ends-958 ∷ end-1-of-ends-958 ∷ end-2-of-ends-958 ∷ end-1-of-ends-958 ∷ end-2-of-ends-958 ∷ [])
unfolding computes model-ends-958
paths-of-ends-958 = has_paths model-ends-958 8 _ refl

-- short s0 = 0;
-- byte b1 = 1;
-- chan q0 = [1] of { int };
-- active proctype Watch() { timeout; printf("%d %d %d, %d left\n", s0, b1, len(q0), _nr_pr) }
-- active proctype P0() { byte k; s0 = 1 }
-- active proctype P1() { byte k; if :: q0?b1; s0-- :: s0 = b1; s0 = _nr_pr fi }
tokens-ends-963 : List Word
tokens-ends-963 =
    on 1 kind.Short "short" ∷ on 1 kind.Name "s0" ∷ on 1 kind.Assign "=" ∷ on 1 kind.Number "0" ∷ on 1 kind.Semicolon ";" ∷
    on 2 kind.Byte "byte" ∷ on 2 kind.Name "b1" ∷ on 2 kind.Assign "=" ∷ on 2 kind.Number "1" ∷ on 2 kind.Semicolon ";" ∷
    on 3 kind.Chan "chan" ∷ on 3 kind.Name "q0" ∷ on 3 kind.Assign "=" ∷ on 3 kind.OpenBracket "[" ∷ on 3 kind.Number "1" ∷
    on 3 kind.CloseBracket "]" ∷ on 3 kind.Of "of" ∷ on 3 kind.OpenBrace "{" ∷ on 3 kind.Int "int" ∷ on 3 kind.CloseBrace "}" ∷
    on 3 kind.Semicolon ";" ∷ on 4 kind.Active "active" ∷ on 4 kind.Proctype "proctype" ∷ on 4 kind.Name "Watch" ∷
    on 4 kind.OpenParen "(" ∷ on 4 kind.CloseParen ")" ∷ on 4 kind.OpenBrace "{" ∷ on 4 kind.Timeout "timeout" ∷
    on 4 kind.Semicolon ";" ∷ on 4 kind.Printf "printf" ∷ on 4 kind.OpenParen "(" ∷ on 4 kind.Quoted "\"%d %d %d, %d left\\n\"" ∷
    on 4 kind.Comma "," ∷ on 4 kind.Name "s0" ∷ on 4 kind.Comma "," ∷ on 4 kind.Name "b1" ∷ on 4 kind.Comma "," ∷
    on 4 kind.Len "len" ∷ on 4 kind.OpenParen "(" ∷ on 4 kind.Name "q0" ∷ on 4 kind.CloseParen ")" ∷ on 4 kind.Comma "," ∷
    on 4 kind.Name "_nr_pr" ∷ on 4 kind.CloseParen ")" ∷ on 4 kind.CloseBrace "}" ∷ on 5 kind.Active "active" ∷
    on 5 kind.Proctype "proctype" ∷ on 5 kind.Name "P0" ∷ on 5 kind.OpenParen "(" ∷ on 5 kind.CloseParen ")" ∷
    on 5 kind.OpenBrace "{" ∷ on 5 kind.Byte "byte" ∷ on 5 kind.Name "k" ∷ on 5 kind.Semicolon ";" ∷ on 5 kind.Name "s0" ∷
    on 5 kind.Assign "=" ∷ on 5 kind.Number "1" ∷ on 5 kind.CloseBrace "}" ∷ on 6 kind.Active "active" ∷
    on 6 kind.Proctype "proctype" ∷ on 6 kind.Name "P1" ∷ on 6 kind.OpenParen "(" ∷ on 6 kind.CloseParen ")" ∷
    on 6 kind.OpenBrace "{" ∷ on 6 kind.Byte "byte" ∷ on 6 kind.Name "k" ∷ on 6 kind.Semicolon ";" ∷ on 6 kind.If "if" ∷
    on 6 kind.DoubleColon "::" ∷ on 6 kind.Name "q0" ∷ on 6 kind.Query "?" ∷ on 6 kind.Name "b1" ∷ on 6 kind.Semicolon ";" ∷
    on 6 kind.Name "s0" ∷ on 6 kind.Decrement "--" ∷ on 6 kind.DoubleColon "::" ∷ on 6 kind.Name "s0" ∷ on 6 kind.Assign "=" ∷
    on 6 kind.Name "b1" ∷ on 6 kind.Semicolon ";" ∷ on 6 kind.Name "s0" ∷ on 6 kind.Assign "=" ∷ on 6 kind.Name "_nr_pr" ∷
    on 6 kind.Fi "fi" ∷ on 6 kind.CloseBrace "}" ∷ []

model-ends-963 : Program
unfolding tokens-ends-963
model-ends-963 =
    let at : ℕ → Word = token_at tokens-ends-963 in
    let part : ℕ → ℕ → List Word = tokens_between tokens-ends-963 in
    record {
      globals = (slot (at 1) short false 0 1 1 (initial.Value (number 0)) ∷ slot (at 6) byte false 1 1 1 (initial.Value (number 1)) ∷
          slot (at 11) chan false 2 1 1 (initial.Channel 1 (int ∷ [])) ∷ []);
      constants = [];
      typedefs = [];
      proctypes = (
          process (at 23) 4 1 0 [] (
          plain (part 27 28) (holds expr.Timeout) ∷
          plain (part 29 44) (action.Printf (at 31) ((read (global 0 short)) ∷ (read (global 1 byte)) ∷ (expr.Ask fill.Length (global 2
          chan)) ∷ expr.ProcessCount ∷ [])) ∷ []) (at 44) ∷
          process (at 47) 5 1 0 (slot (at 52) byte false 0 1 1 initial.Zero ∷ []) (
          plain (part 54 57) (assign (global 0 short) (number 1)) ∷ []) (at 57) ∷
          process (at 60) 6 1 0 (slot (at 65) byte false 0 1 1 initial.Zero ∷ []) (
          if_fi (part 67 84) (
          (plain (part 69 72) (action.Receive (global 2 chan) First Remove (want.Into (global 1 byte) ∷ [])) ∷
          plain (part 73 75) (action.Decrement (global 0 short)) ∷ []) ∷
          (plain (part 76 79) (assign (global 0 short) (read (global 1 byte))) ∷
          plain (part 80 83) (assign (global 0 short) expr.ProcessCount) ∷ []) ∷ []) ∷ []) (at 84) ∷ []);
    }

abbrev end-1-of-ends-963 : Printed
end-1-of-ends-963 = shown (codes "3 1 0, 1 left\n") Valid

abbrev end-2-of-ends-963 : Printed
end-2-of-ends-963 = shown (codes "1 1 0, 1 left\n") Valid

paths-of-ends-963 : paths model-ends-963 8 ≡ Some (end-1-of-ends-963 ∷ end-1-of-ends-963 ∷ end-2-of-ends-963 ∷ end-2-of-ends-963 ∷ [])
unfolding computes model-ends-963
paths-of-ends-963 = has_paths model-ends-963 8 _ refl

-- bit t0 = 1;
-- byte a[2];
-- active proctype Watch() { timeout; printf("%d %d %d, %d left\n", t0, a[0], a[1], _nr_pr) }
-- active proctype P0() { byte k; if :: t0 = ((3 % 3) * 7) :: a[1] != 2 -> t0 = t0; t0 = 1 :: else -> ((300 << 3) == 255) fi }
tokens-ends-1000 : List Word
tokens-ends-1000 =
    on 1 kind.Bit "bit" ∷ on 1 kind.Name "t0" ∷ on 1 kind.Assign "=" ∷ on 1 kind.Number "1" ∷ on 1 kind.Semicolon ";" ∷
    on 2 kind.Byte "byte" ∷ on 2 kind.Name "a" ∷ on 2 kind.OpenBracket "[" ∷ on 2 kind.Number "2" ∷ on 2 kind.CloseBracket "]" ∷
    on 2 kind.Semicolon ";" ∷ on 3 kind.Active "active" ∷ on 3 kind.Proctype "proctype" ∷ on 3 kind.Name "Watch" ∷
    on 3 kind.OpenParen "(" ∷ on 3 kind.CloseParen ")" ∷ on 3 kind.OpenBrace "{" ∷ on 3 kind.Timeout "timeout" ∷
    on 3 kind.Semicolon ";" ∷ on 3 kind.Printf "printf" ∷ on 3 kind.OpenParen "(" ∷ on 3 kind.Quoted "\"%d %d %d, %d left\\n\"" ∷
    on 3 kind.Comma "," ∷ on 3 kind.Name "t0" ∷ on 3 kind.Comma "," ∷ on 3 kind.Name "a" ∷ on 3 kind.OpenBracket "[" ∷
    on 3 kind.Number "0" ∷ on 3 kind.CloseBracket "]" ∷ on 3 kind.Comma "," ∷ on 3 kind.Name "a" ∷ on 3 kind.OpenBracket "[" ∷
    on 3 kind.Number "1" ∷ on 3 kind.CloseBracket "]" ∷ on 3 kind.Comma "," ∷ on 3 kind.Name "_nr_pr" ∷ on 3 kind.CloseParen ")" ∷
    on 3 kind.CloseBrace "}" ∷ on 4 kind.Active "active" ∷ on 4 kind.Proctype "proctype" ∷ on 4 kind.Name "P0" ∷
    on 4 kind.OpenParen "(" ∷ on 4 kind.CloseParen ")" ∷ on 4 kind.OpenBrace "{" ∷ on 4 kind.Byte "byte" ∷ on 4 kind.Name "k" ∷
    on 4 kind.Semicolon ";" ∷ on 4 kind.If "if" ∷ on 4 kind.DoubleColon "::" ∷ on 4 kind.Name "t0" ∷ on 4 kind.Assign "=" ∷
    on 4 kind.OpenParen "(" ∷ on 4 kind.OpenParen "(" ∷ on 4 kind.Number "3" ∷ on 4 kind.Percent "%" ∷ on 4 kind.Number "3" ∷
    on 4 kind.CloseParen ")" ∷ on 4 kind.Star "*" ∷ on 4 kind.Number "7" ∷ on 4 kind.CloseParen ")" ∷ on 4 kind.DoubleColon "::" ∷
    on 4 kind.Name "a" ∷ on 4 kind.OpenBracket "[" ∷ on 4 kind.Number "1" ∷ on 4 kind.CloseBracket "]" ∷ on 4 kind.Unequal "!=" ∷
    on 4 kind.Number "2" ∷ on 4 kind.Arrow "->" ∷ on 4 kind.Name "t0" ∷ on 4 kind.Assign "=" ∷ on 4 kind.Name "t0" ∷
    on 4 kind.Semicolon ";" ∷ on 4 kind.Name "t0" ∷ on 4 kind.Assign "=" ∷ on 4 kind.Number "1" ∷ on 4 kind.DoubleColon "::" ∷
    on 4 kind.Else "else" ∷ on 4 kind.Arrow "->" ∷ on 4 kind.OpenParen "(" ∷ on 4 kind.OpenParen "(" ∷ on 4 kind.Number "300" ∷
    on 4 kind.ShiftLeft "<<" ∷ on 4 kind.Number "3" ∷ on 4 kind.CloseParen ")" ∷ on 4 kind.Equal "==" ∷ on 4 kind.Number "255" ∷
    on 4 kind.CloseParen ")" ∷ on 4 kind.Fi "fi" ∷ on 4 kind.CloseBrace "}" ∷ []

model-ends-1000 : Program
unfolding tokens-ends-1000
model-ends-1000 =
    let at : ℕ → Word = token_at tokens-ends-1000 in
    let part : ℕ → ℕ → List Word = tokens_between tokens-ends-1000 in
    record {
      globals = (slot (at 1) bit false 0 1 1 (initial.Value (number 1)) ∷ slot (at 6) byte true 1 2 1 initial.Zero ∷ []);
      constants = [];
      typedefs = [];
      proctypes = (
          process (at 13) 3 1 0 [] (
          plain (part 17 18) (holds expr.Timeout) ∷
          plain (part 19 37) (action.Printf (at 21) ((read (global 0 bit)) ∷ (read (in_global 1 byte (turn 0 2 1 (Some (number 0)) ∷
          []))) ∷ (read (in_global 1 byte (turn 0 2 1 (Some (number 1)) ∷ []))) ∷ expr.ProcessCount ∷ [])) ∷ []) (at 37) ∷
          process (at 40) 4 1 0 (slot (at 45) byte false 0 1 1 initial.Zero ∷ []) (
          if_fi (part 47 88) (
          (plain (part 49 60) (assign (global 0 bit) (expr.Binary op.Times (expr.Binary op.Remainder (number 3) (number 3)) (number 7))) ∷ []) ∷
          (plain (part 61 67) (holds (expr.Binary op.Unequal (read (in_global 1 byte (turn 0 2 1 (Some (number 1)) ∷ []))) (number 2))) ∷
          plain (part 68 71) (assign (global 0 bit) (read (global 0 bit))) ∷
          plain (part 72 75) (assign (global 0 bit) (number 1)) ∷ []) ∷
          (plain (part 76 77) action.Else ∷
          plain (part 78 87) (holds (expr.Binary op.Equal (expr.Binary op.ShiftLeft (number 300) (number 3)) (number 255))) ∷ []) ∷ [])
          ∷ []) (at 88) ∷ []);
    }

abbrev end-1-of-ends-1000 : Printed
end-1-of-ends-1000 = shown (codes "0 0 0, 1 left\n") Valid

abbrev end-2-of-ends-1000 : Printed
end-2-of-ends-1000 = shown (codes "1 0 0, 1 left\n") Valid

paths-of-ends-1000 : paths model-ends-1000 7 ≡ Some (end-1-of-ends-1000 ∷ end-2-of-ends-1000 ∷ [])
unfolding computes model-ends-1000
paths-of-ends-1000 = has_paths model-ends-1000 7 _ refl

-- mtype = { red, green, blue }; mtype m = green;
-- bit t0 = 0;
-- active proctype Watch() { timeout; printf("%d, %d left\n", t0, _nr_pr) }
-- active proctype P0() { byte k; if :: t0 = t0; m = 1 :: t0--; t0-- fi }
-- active proctype P1() { byte k; t0 = 1 }
tokens-ends-1012 : List Word
tokens-ends-1012 =
    on 1 kind.Mtype "mtype" ∷ on 1 kind.Assign "=" ∷ on 1 kind.OpenBrace "{" ∷ on 1 kind.Name "red" ∷ on 1 kind.Comma "," ∷
    on 1 kind.Name "green" ∷ on 1 kind.Comma "," ∷ on 1 kind.Name "blue" ∷ on 1 kind.CloseBrace "}" ∷ on 1 kind.Semicolon ";" ∷
    on 1 kind.Mtype "mtype" ∷ on 1 kind.Name "m" ∷ on 1 kind.Assign "=" ∷ on 1 kind.Name "green" ∷ on 1 kind.Semicolon ";" ∷
    on 2 kind.Bit "bit" ∷ on 2 kind.Name "t0" ∷ on 2 kind.Assign "=" ∷ on 2 kind.Number "0" ∷ on 2 kind.Semicolon ";" ∷
    on 3 kind.Active "active" ∷ on 3 kind.Proctype "proctype" ∷ on 3 kind.Name "Watch" ∷ on 3 kind.OpenParen "(" ∷
    on 3 kind.CloseParen ")" ∷ on 3 kind.OpenBrace "{" ∷ on 3 kind.Timeout "timeout" ∷ on 3 kind.Semicolon ";" ∷
    on 3 kind.Printf "printf" ∷ on 3 kind.OpenParen "(" ∷ on 3 kind.Quoted "\"%d, %d left\\n\"" ∷ on 3 kind.Comma "," ∷
    on 3 kind.Name "t0" ∷ on 3 kind.Comma "," ∷ on 3 kind.Name "_nr_pr" ∷ on 3 kind.CloseParen ")" ∷ on 3 kind.CloseBrace "}" ∷
    on 4 kind.Active "active" ∷ on 4 kind.Proctype "proctype" ∷ on 4 kind.Name "P0" ∷ on 4 kind.OpenParen "(" ∷
    on 4 kind.CloseParen ")" ∷ on 4 kind.OpenBrace "{" ∷ on 4 kind.Byte "byte" ∷ on 4 kind.Name "k" ∷ on 4 kind.Semicolon ";" ∷
    on 4 kind.If "if" ∷ on 4 kind.DoubleColon "::" ∷ on 4 kind.Name "t0" ∷ on 4 kind.Assign "=" ∷ on 4 kind.Name "t0" ∷
    on 4 kind.Semicolon ";" ∷ on 4 kind.Name "m" ∷ on 4 kind.Assign "=" ∷ on 4 kind.Number "1" ∷ on 4 kind.DoubleColon "::" ∷
    on 4 kind.Name "t0" ∷ on 4 kind.Decrement "--" ∷ on 4 kind.Semicolon ";" ∷ on 4 kind.Name "t0" ∷ on 4 kind.Decrement "--" ∷
    on 4 kind.Fi "fi" ∷ on 4 kind.CloseBrace "}" ∷ on 5 kind.Active "active" ∷ on 5 kind.Proctype "proctype" ∷ on 5 kind.Name "P1" ∷
    on 5 kind.OpenParen "(" ∷ on 5 kind.CloseParen ")" ∷ on 5 kind.OpenBrace "{" ∷ on 5 kind.Byte "byte" ∷ on 5 kind.Name "k" ∷
    on 5 kind.Semicolon ";" ∷ on 5 kind.Name "t0" ∷ on 5 kind.Assign "=" ∷ on 5 kind.Number "1" ∷ on 5 kind.CloseBrace "}" ∷ []

model-ends-1012 : Program
unfolding tokens-ends-1012
model-ends-1012 =
    let at : ℕ → Word = token_at tokens-ends-1012 in
    let part : ℕ → ℕ → List Word = tokens_between tokens-ends-1012 in
    record {
      globals = (slot (at 11) mtype false 0 1 1 (initial.Value (number 2)) ∷ slot (at 16) bit false 1 1 1 (initial.Value (number 0)) ∷ []);
      constants = ((at 7) ∷ (at 5) ∷ (at 3) ∷ []);
      typedefs = [];
      proctypes = (
          process (at 22) 4 1 0 [] (
          plain (part 26 27) (holds expr.Timeout) ∷
          plain (part 28 36) (action.Printf (at 30) ((read (global 1 bit)) ∷ expr.ProcessCount ∷ [])) ∷ []) (at 36) ∷
          process (at 39) 5 1 0 (slot (at 44) byte false 0 1 1 initial.Zero ∷ []) (
          if_fi (part 46 62) (
          (plain (part 48 51) (assign (global 1 bit) (read (global 1 bit))) ∷
          plain (part 52 55) (assign (global 0 mtype) (number 1)) ∷ []) ∷
          (plain (part 56 58) (action.Decrement (global 1 bit)) ∷
          plain (part 59 61) (action.Decrement (global 1 bit)) ∷ []) ∷ []) ∷ []) (at 62) ∷
          process (at 65) 6 1 0 (slot (at 70) byte false 0 1 1 initial.Zero ∷ []) (
          plain (part 72 75) (assign (global 1 bit) (number 1)) ∷ []) (at 75) ∷ []);
    }

abbrev end-1-of-ends-1012 : Printed
end-1-of-ends-1012 = shown (codes "1, 1 left\n") Valid

abbrev end-2-of-ends-1012 : Printed
end-2-of-ends-1012 = shown (codes "0, 1 left\n") Valid

paths-of-ends-1012 : paths model-ends-1012 8 ≡ Some (end-1-of-ends-1012 ∷ end-1-of-ends-1012 ∷ end-1-of-ends-1012 ∷
    end-1-of-ends-1012 ∷ end-2-of-ends-1012 ∷ end-2-of-ends-1012 ∷ end-1-of-ends-1012 ∷ end-1-of-ends-1012 ∷ end-1-of-ends-1012 ∷
    end-1-of-ends-1012 ∷ end-1-of-ends-1012 ∷ end-1-of-ends-1012 ∷ [])
unfolding computes model-ends-1012
paths-of-ends-1012 = has_paths model-ends-1012 8 _ refl
