-- All paths of small random models, whose ends are those of Spin's full search. `tools/spin-ends` made the models and their data.
use Rattle.std.proofs.Common.{◌≡◌, ℕ, List, [], ◌∷◌, true, false, refl, Some, None}
use Rattle.std.specs.Prelude.{codes}
use Rattle.pml_token.specs.Word.{Word}
use Rattle.pml_tree.specs.declared.tree.Search.TheVariants.{First, Matching}
use Rattle.pml_tree.specs.declared.tree.Removal.TheVariants.{Remove}
use Rattle.pml_tree.specs.declared.tree.SendOrder.TheVariants.{Fifo}
use Rattle.pml_program.specs.declared.program.Program.{Program}
use Rattle.pml_program.specs.declared.program.Basic.{Break}
use Rattle.worked_runs.proofs.Models.{on, token_at, tokens_between, bit, byte, chan, mtype, short, int, slot, fields, turn, in_global, local, global, number, read, run, assign, holds, stmt, plain, block, atomic, d_step, if_fi, do_od, unless, process}
use Rattle.worked_runs.proofs.Same.{computes}
use Rattle.worked_runs.specs.Printed.{Printed, Valid, Invalid}
use Rattle.worked_runs.specs.Ends.{paths}
use Rattle.worked_runs.proofs.Same.{has_paths}
use Rattle.worked_runs.proofs.Models.{shown}
use Rattle.pml_token.specs.declared.token.Kind.TheVariants as kind
use Rattle.pml_tree.specs.declared.tree.Infix.TheVariants as op
use Rattle.pml_tree.specs.declared.tree.Prefix.TheVariants as before
use Rattle.pml_tree.specs.declared.tree.Fill.TheVariants as fill
use Rattle.pml_program.specs.declared.form.Form.TheVariants as form
use Rattle.pml_program.specs.declared.expr.Expr.TheVariants as expr
use Rattle.pml_program.specs.declared.expr.Want.TheVariants as want
use Rattle.pml_program.specs.declared.program.Initial.TheVariants as initial
use Rattle.pml_program.specs.declared.program.Action.TheVariants as action

-- byte b0 = 0;
-- byte a[2];
-- chan q0 = [0] of { int };
-- active proctype Watch() { timeout; printf("%d %d %d %d, %d left\n", b0, a[0], a[1], len(q0), _nr_pr) }
-- active proctype P0() { byte k; d_step { a[(b0 & 1)] = a[0]; b0 = 7 }; if :: b0--; b0++ :: 255 > b0 -> q0!b0; q0??b0 fi }
-- proctype Q(byte n) { q0?_ }
-- init { run Q(2) }
tokens-ends-143 : List Word
tokens-ends-143 =
    on 1 kind.Byte "byte" ∷ on 1 kind.Name "b0" ∷ on 1 kind.Assign "=" ∷ on 1 kind.Number "0" ∷ on 1 kind.Semicolon ";" ∷
    on 2 kind.Byte "byte" ∷ on 2 kind.Name "a" ∷ on 2 kind.OpenBracket "[" ∷ on 2 kind.Number "2" ∷ on 2 kind.CloseBracket "]" ∷
    on 2 kind.Semicolon ";" ∷ on 3 kind.Chan "chan" ∷ on 3 kind.Name "q0" ∷ on 3 kind.Assign "=" ∷ on 3 kind.OpenBracket "[" ∷
    on 3 kind.Number "0" ∷ on 3 kind.CloseBracket "]" ∷ on 3 kind.Of "of" ∷ on 3 kind.OpenBrace "{" ∷ on 3 kind.Int "int" ∷
    on 3 kind.CloseBrace "}" ∷ on 3 kind.Semicolon ";" ∷ on 4 kind.Active "active" ∷ on 4 kind.Proctype "proctype" ∷
    on 4 kind.Name "Watch" ∷ on 4 kind.OpenParen "(" ∷ on 4 kind.CloseParen ")" ∷ on 4 kind.OpenBrace "{" ∷
    on 4 kind.Timeout "timeout" ∷ on 4 kind.Semicolon ";" ∷ on 4 kind.Printf "printf" ∷ on 4 kind.OpenParen "(" ∷
    on 4 kind.Quoted "\"%d %d %d %d, %d left\\n\"" ∷ on 4 kind.Comma "," ∷ on 4 kind.Name "b0" ∷ on 4 kind.Comma "," ∷
    on 4 kind.Name "a" ∷ on 4 kind.OpenBracket "[" ∷ on 4 kind.Number "0" ∷ on 4 kind.CloseBracket "]" ∷ on 4 kind.Comma "," ∷
    on 4 kind.Name "a" ∷ on 4 kind.OpenBracket "[" ∷ on 4 kind.Number "1" ∷ on 4 kind.CloseBracket "]" ∷ on 4 kind.Comma "," ∷
    on 4 kind.Len "len" ∷ on 4 kind.OpenParen "(" ∷ on 4 kind.Name "q0" ∷ on 4 kind.CloseParen ")" ∷ on 4 kind.Comma "," ∷
    on 4 kind.Name "_nr_pr" ∷ on 4 kind.CloseParen ")" ∷ on 4 kind.CloseBrace "}" ∷ on 5 kind.Active "active" ∷
    on 5 kind.Proctype "proctype" ∷ on 5 kind.Name "P0" ∷ on 5 kind.OpenParen "(" ∷ on 5 kind.CloseParen ")" ∷
    on 5 kind.OpenBrace "{" ∷ on 5 kind.Byte "byte" ∷ on 5 kind.Name "k" ∷ on 5 kind.Semicolon ";" ∷ on 5 kind.DStep "d_step" ∷
    on 5 kind.OpenBrace "{" ∷ on 5 kind.Name "a" ∷ on 5 kind.OpenBracket "[" ∷ on 5 kind.OpenParen "(" ∷ on 5 kind.Name "b0" ∷
    on 5 kind.Ampersand "&" ∷ on 5 kind.Number "1" ∷ on 5 kind.CloseParen ")" ∷ on 5 kind.CloseBracket "]" ∷ on 5 kind.Assign "=" ∷
    on 5 kind.Name "a" ∷ on 5 kind.OpenBracket "[" ∷ on 5 kind.Number "0" ∷ on 5 kind.CloseBracket "]" ∷ on 5 kind.Semicolon ";" ∷
    on 5 kind.Name "b0" ∷ on 5 kind.Assign "=" ∷ on 5 kind.Number "7" ∷ on 5 kind.CloseBrace "}" ∷ on 5 kind.Semicolon ";" ∷
    on 5 kind.If "if" ∷ on 5 kind.DoubleColon "::" ∷ on 5 kind.Name "b0" ∷ on 5 kind.Decrement "--" ∷ on 5 kind.Semicolon ";" ∷
    on 5 kind.Name "b0" ∷ on 5 kind.Increment "++" ∷ on 5 kind.DoubleColon "::" ∷ on 5 kind.Number "255" ∷ on 5 kind.Greater ">" ∷
    on 5 kind.Name "b0" ∷ on 5 kind.Arrow "->" ∷ on 5 kind.Name "q0" ∷ on 5 kind.Bang "!" ∷ on 5 kind.Name "b0" ∷
    on 5 kind.Semicolon ";" ∷ on 5 kind.Name "q0" ∷ on 5 kind.QueryQuery "??" ∷ on 5 kind.Name "b0" ∷ on 5 kind.Fi "fi" ∷
    on 5 kind.CloseBrace "}" ∷ on 6 kind.Proctype "proctype" ∷ on 6 kind.Name "Q" ∷ on 6 kind.OpenParen "(" ∷ on 6 kind.Byte "byte" ∷
    on 6 kind.Name "n" ∷ on 6 kind.CloseParen ")" ∷ on 6 kind.OpenBrace "{" ∷ on 6 kind.Name "q0" ∷ on 6 kind.Query "?" ∷
    on 6 kind.Name "_" ∷ on 6 kind.CloseBrace "}" ∷ on 7 kind.Init "init" ∷ on 7 kind.OpenBrace "{" ∷ on 7 kind.Run "run" ∷
    on 7 kind.Name "Q" ∷ on 7 kind.OpenParen "(" ∷ on 7 kind.Number "2" ∷ on 7 kind.CloseParen ")" ∷ on 7 kind.CloseBrace "}" ∷ []

model-ends-143 : Program
unfolding tokens-ends-143
model-ends-143 =
    let at : ℕ → Word = token_at tokens-ends-143 in
    let part : ℕ → ℕ → List Word = tokens_between tokens-ends-143 in
    record {
      globals = (slot (at 1) byte false 0 1 1 (initial.Value (number 0)) ∷ slot (at 6) byte true 1 2 1 initial.Zero ∷ slot (at 12)
          chan false 3 1 1 (initial.Channel 0 (int ∷ [])) ∷ []);
      constants = [];
      typedefs = [];
      proctypes = (
          process (at 24) 4 1 0 [] (
          plain (part 28 29) (holds expr.Timeout) ∷
          plain (part 30 53) (action.Printf (at 32) ((read (global 0 byte)) ∷ (read (in_global 1 byte (turn 0 2 1 (Some (number 0)) ∷
          []))) ∷ (read (in_global 1 byte (turn 0 2 1 (Some (number 1)) ∷ []))) ∷ (expr.Ask fill.Length (global 2 chan)) ∷
          expr.ProcessCount ∷ [])) ∷ []) (at 53) ∷
          process (at 56) 5 1 0 (slot (at 61) byte false 0 1 1 initial.Zero ∷ []) (
          d_step (part 63 83) (
          plain (part 65 78) (assign (in_global 1 byte (turn 0 2 1 (Some (expr.Binary op.BitAnd (read (global 0 byte)) (number 1))) ∷
          [])) (read (in_global 1 byte (turn 0 2 1 (Some (number 0)) ∷ [])))) ∷
          plain (part 79 82) (assign (global 0 byte) (number 7)) ∷ []) ∷
          if_fi (part 84 104) (
          (plain (part 86 88) (action.Decrement (global 0 byte)) ∷
          plain (part 89 91) (action.Increment (global 0 byte)) ∷ []) ∷
          (plain (part 92 95) (holds (expr.Binary op.Above (number 255) (read (global 0 byte)))) ∷
          plain (part 96 99) (action.Send (global 2 chan) Fifo ((read (global 0 byte)) ∷ [])) ∷
          plain (part 100 103) (action.Receive (global 2 chan) Matching Remove (want.Into (global 0 byte) ∷ [])) ∷ []) ∷ []) ∷ []) (at 104) ∷
          process (at 106) 6 0 1 (slot (at 109) byte false 0 1 1 initial.Zero ∷ []) (
          plain (part 112 115) (action.Receive (global 2 chan) First Remove (want.Anything ∷ [])) ∷ []) (at 115) ∷
          process (at 116) 7 1 0 [] (
          plain (part 118 123) (action.Run (run 2 ((number 2) ∷ []))) ∷ []) (at 123) ∷ []);
    }

abbrev end-1-of-ends-143 : Printed
end-1-of-ends-143 = shown (codes "7 0 0 0, 4 left\n") Invalid

abbrev end-2-of-ends-143 : Printed
end-2-of-ends-143 = shown (codes "7 0 0 0, 2 left\n") Invalid

paths-of-ends-143 : paths model-ends-143 8 ≡ Some (end-1-of-ends-143 ∷ end-1-of-ends-143 ∷ end-2-of-ends-143 ∷ end-1-of-ends-143 ∷
    end-2-of-ends-143 ∷ end-1-of-ends-143 ∷ end-2-of-ends-143 ∷ [])
unfolding computes model-ends-143
paths-of-ends-143 = has_paths model-ends-143 8 _ refl

-- unsigned u0 : 3 = 0;
-- bit t1 = 0;
-- active proctype Watch() { timeout; printf("%d %d, %d left\n", u0, t1, _nr_pr) }
-- active proctype P0() { byte k; u0 = t1; ((255 ^ 1) < u0) }
-- active proctype P1() { byte k; t1-- }
tokens-ends-145 : List Word
tokens-ends-145 =
    on 1 kind.Unsigned "unsigned" ∷ on 1 kind.Name "u0" ∷ on 1 kind.Colon ":" ∷ on 1 kind.Number "3" ∷ on 1 kind.Assign "=" ∷
    on 1 kind.Number "0" ∷ on 1 kind.Semicolon ";" ∷ on 2 kind.Bit "bit" ∷ on 2 kind.Name "t1" ∷ on 2 kind.Assign "=" ∷
    on 2 kind.Number "0" ∷ on 2 kind.Semicolon ";" ∷ on 3 kind.Active "active" ∷ on 3 kind.Proctype "proctype" ∷
    on 3 kind.Name "Watch" ∷ on 3 kind.OpenParen "(" ∷ on 3 kind.CloseParen ")" ∷ on 3 kind.OpenBrace "{" ∷
    on 3 kind.Timeout "timeout" ∷ on 3 kind.Semicolon ";" ∷ on 3 kind.Printf "printf" ∷ on 3 kind.OpenParen "(" ∷
    on 3 kind.Quoted "\"%d %d, %d left\\n\"" ∷ on 3 kind.Comma "," ∷ on 3 kind.Name "u0" ∷ on 3 kind.Comma "," ∷
    on 3 kind.Name "t1" ∷ on 3 kind.Comma "," ∷ on 3 kind.Name "_nr_pr" ∷ on 3 kind.CloseParen ")" ∷ on 3 kind.CloseBrace "}" ∷
    on 4 kind.Active "active" ∷ on 4 kind.Proctype "proctype" ∷ on 4 kind.Name "P0" ∷ on 4 kind.OpenParen "(" ∷
    on 4 kind.CloseParen ")" ∷ on 4 kind.OpenBrace "{" ∷ on 4 kind.Byte "byte" ∷ on 4 kind.Name "k" ∷ on 4 kind.Semicolon ";" ∷
    on 4 kind.Name "u0" ∷ on 4 kind.Assign "=" ∷ on 4 kind.Name "t1" ∷ on 4 kind.Semicolon ";" ∷ on 4 kind.OpenParen "(" ∷
    on 4 kind.OpenParen "(" ∷ on 4 kind.Number "255" ∷ on 4 kind.Caret "^" ∷ on 4 kind.Number "1" ∷ on 4 kind.CloseParen ")" ∷
    on 4 kind.Less "<" ∷ on 4 kind.Name "u0" ∷ on 4 kind.CloseParen ")" ∷ on 4 kind.CloseBrace "}" ∷ on 5 kind.Active "active" ∷
    on 5 kind.Proctype "proctype" ∷ on 5 kind.Name "P1" ∷ on 5 kind.OpenParen "(" ∷ on 5 kind.CloseParen ")" ∷
    on 5 kind.OpenBrace "{" ∷ on 5 kind.Byte "byte" ∷ on 5 kind.Name "k" ∷ on 5 kind.Semicolon ";" ∷ on 5 kind.Name "t1" ∷
    on 5 kind.Decrement "--" ∷ on 5 kind.CloseBrace "}" ∷ []

model-ends-145 : Program
unfolding tokens-ends-145
model-ends-145 =
    let at : ℕ → Word = token_at tokens-ends-145 in
    let part : ℕ → ℕ → List Word = tokens_between tokens-ends-145 in
    record {
      globals = (slot (at 1) (form.Unsigned 3) false 0 1 1 (initial.Value (number 0)) ∷ slot (at 8) bit false 1 1 1 (initial.Value
          (number 0)) ∷ []);
      constants = [];
      typedefs = [];
      proctypes = (
          process (at 14) 3 1 0 [] (
          plain (part 18 19) (holds expr.Timeout) ∷
          plain (part 20 30) (action.Printf (at 22) ((read (global 0 (form.Unsigned 3))) ∷ (read (global 1 bit)) ∷ expr.ProcessCount ∷
          [])) ∷ []) (at 30) ∷
          process (at 33) 4 1 0 (slot (at 38) byte false 0 1 1 initial.Zero ∷ []) (
          plain (part 40 43) (assign (global 0 (form.Unsigned 3)) (read (global 1 bit))) ∷
          plain (part 44 53) (holds (expr.Binary op.Below (expr.Binary op.BitXor (number 255) (number 1)) (read (global 0 (form.Unsigned
          3))))) ∷ []) (at 53) ∷
          process (at 56) 5 1 0 (slot (at 61) byte false 0 1 1 initial.Zero ∷ []) (
          plain (part 63 65) (action.Decrement (global 1 bit)) ∷ []) (at 65) ∷ []);
    }

abbrev end-1-of-ends-145 : Printed
end-1-of-ends-145 = shown (codes "0 1, 2 left\n") Invalid

abbrev end-2-of-ends-145 : Printed
end-2-of-ends-145 = shown (codes "1 1, 2 left\n") Invalid

paths-of-ends-145 : paths model-ends-145 5 ≡ Some (end-1-of-ends-145 ∷ end-2-of-ends-145 ∷ end-2-of-ends-145 ∷ [])
unfolding computes model-ends-145
paths-of-ends-145 = has_paths model-ends-145 5 _ refl

-- byte b0 = 1;
-- chan q0 = [1] of { int };
-- active proctype Watch() { timeout; printf("%d %d, %d left\n", b0, len(q0), _nr_pr) }
-- active proctype P0() { byte k; atomic { b0 = (-b0); q0??eval(b0); ((1 <= 100 || 2 != 3)) } }
-- active proctype P1() { byte k; b0 = 2; ((300 - 2) == _nr_pr) }
tokens-ends-153 : List Word
tokens-ends-153 =
    on 1 kind.Byte "byte" ∷ on 1 kind.Name "b0" ∷ on 1 kind.Assign "=" ∷ on 1 kind.Number "1" ∷ on 1 kind.Semicolon ";" ∷
    on 2 kind.Chan "chan" ∷ on 2 kind.Name "q0" ∷ on 2 kind.Assign "=" ∷ on 2 kind.OpenBracket "[" ∷ on 2 kind.Number "1" ∷
    on 2 kind.CloseBracket "]" ∷ on 2 kind.Of "of" ∷ on 2 kind.OpenBrace "{" ∷ on 2 kind.Int "int" ∷ on 2 kind.CloseBrace "}" ∷
    on 2 kind.Semicolon ";" ∷ on 3 kind.Active "active" ∷ on 3 kind.Proctype "proctype" ∷ on 3 kind.Name "Watch" ∷
    on 3 kind.OpenParen "(" ∷ on 3 kind.CloseParen ")" ∷ on 3 kind.OpenBrace "{" ∷ on 3 kind.Timeout "timeout" ∷
    on 3 kind.Semicolon ";" ∷ on 3 kind.Printf "printf" ∷ on 3 kind.OpenParen "(" ∷ on 3 kind.Quoted "\"%d %d, %d left\\n\"" ∷
    on 3 kind.Comma "," ∷ on 3 kind.Name "b0" ∷ on 3 kind.Comma "," ∷ on 3 kind.Len "len" ∷ on 3 kind.OpenParen "(" ∷
    on 3 kind.Name "q0" ∷ on 3 kind.CloseParen ")" ∷ on 3 kind.Comma "," ∷ on 3 kind.Name "_nr_pr" ∷ on 3 kind.CloseParen ")" ∷
    on 3 kind.CloseBrace "}" ∷ on 4 kind.Active "active" ∷ on 4 kind.Proctype "proctype" ∷ on 4 kind.Name "P0" ∷
    on 4 kind.OpenParen "(" ∷ on 4 kind.CloseParen ")" ∷ on 4 kind.OpenBrace "{" ∷ on 4 kind.Byte "byte" ∷ on 4 kind.Name "k" ∷
    on 4 kind.Semicolon ";" ∷ on 4 kind.Atomic "atomic" ∷ on 4 kind.OpenBrace "{" ∷ on 4 kind.Name "b0" ∷ on 4 kind.Assign "=" ∷
    on 4 kind.OpenParen "(" ∷ on 4 kind.Minus "-" ∷ on 4 kind.Name "b0" ∷ on 4 kind.CloseParen ")" ∷ on 4 kind.Semicolon ";" ∷
    on 4 kind.Name "q0" ∷ on 4 kind.QueryQuery "??" ∷ on 4 kind.Eval "eval" ∷ on 4 kind.OpenParen "(" ∷ on 4 kind.Name "b0" ∷
    on 4 kind.CloseParen ")" ∷ on 4 kind.Semicolon ";" ∷ on 4 kind.OpenParen "(" ∷ on 4 kind.OpenParen "(" ∷ on 4 kind.Number "1" ∷
    on 4 kind.AtMost "<=" ∷ on 4 kind.Number "100" ∷ on 4 kind.OrOr "||" ∷ on 4 kind.Number "2" ∷ on 4 kind.Unequal "!=" ∷
    on 4 kind.Number "3" ∷ on 4 kind.CloseParen ")" ∷ on 4 kind.CloseParen ")" ∷ on 4 kind.CloseBrace "}" ∷
    on 4 kind.CloseBrace "}" ∷ on 5 kind.Active "active" ∷ on 5 kind.Proctype "proctype" ∷ on 5 kind.Name "P1" ∷
    on 5 kind.OpenParen "(" ∷ on 5 kind.CloseParen ")" ∷ on 5 kind.OpenBrace "{" ∷ on 5 kind.Byte "byte" ∷ on 5 kind.Name "k" ∷
    on 5 kind.Semicolon ";" ∷ on 5 kind.Name "b0" ∷ on 5 kind.Assign "=" ∷ on 5 kind.Number "2" ∷ on 5 kind.Semicolon ";" ∷
    on 5 kind.OpenParen "(" ∷ on 5 kind.OpenParen "(" ∷ on 5 kind.Number "300" ∷ on 5 kind.Minus "-" ∷ on 5 kind.Number "2" ∷
    on 5 kind.CloseParen ")" ∷ on 5 kind.Equal "==" ∷ on 5 kind.Name "_nr_pr" ∷ on 5 kind.CloseParen ")" ∷ on 5 kind.CloseBrace "}" ∷ []

model-ends-153 : Program
unfolding tokens-ends-153
model-ends-153 =
    let at : ℕ → Word = token_at tokens-ends-153 in
    let part : ℕ → ℕ → List Word = tokens_between tokens-ends-153 in
    record {
      globals = (slot (at 1) byte false 0 1 1 (initial.Value (number 1)) ∷ slot (at 6) chan false 1 1 1 (initial.Channel 1 (int ∷ [])) ∷ []);
      constants = [];
      typedefs = [];
      proctypes = (
          process (at 18) 3 1 0 [] (
          plain (part 22 23) (holds expr.Timeout) ∷
          plain (part 24 37) (action.Printf (at 26) ((read (global 0 byte)) ∷ (expr.Ask fill.Length (global 1 chan)) ∷ expr.ProcessCount
          ∷ [])) ∷ []) (at 37) ∷
          process (at 40) 4 1 0 (slot (at 45) byte false 0 1 1 initial.Zero ∷ []) (
          atomic (part 47 75) (
          plain (part 49 55) (assign (global 0 byte) (expr.Unary before.Minus (read (global 0 byte)))) ∷
          plain (part 56 62) (action.Receive (global 1 chan) Matching Remove (want.Equal (read (global 0 byte)) ∷ [])) ∷
          plain (part 63 74) (holds (expr.Binary op.Or (expr.Binary op.AtMost (number 1) (number 100)) (expr.Binary op.Unequal (number
          2) (number 3)))) ∷ []) ∷ []) (at 75) ∷
          process (at 78) 5 1 0 (slot (at 83) byte false 0 1 1 initial.Zero ∷ []) (
          plain (part 85 88) (assign (global 0 byte) (number 2)) ∷
          plain (part 89 98) (holds (expr.Binary op.Equal (expr.Binary op.Minus (number 300) (number 2)) expr.ProcessCount)) ∷ []) (at
          98) ∷ []);
    }

abbrev end-1-of-ends-153 : Printed
end-1-of-ends-153 = shown (codes "2 0, 3 left\n") Invalid

abbrev end-2-of-ends-153 : Printed
end-2-of-ends-153 = shown (codes "254 0, 3 left\n") Invalid

paths-of-ends-153 : paths model-ends-153 4 ≡ Some (end-1-of-ends-153 ∷ end-2-of-ends-153 ∷ [])
unfolding computes model-ends-153
paths-of-ends-153 = has_paths model-ends-153 4 _ refl

-- mtype = { red, green, blue }; mtype m = green;
-- short s0 = 0;
-- unsigned u1 : 3 = 0;
-- int a[2];
-- active proctype Watch() { timeout; printf("%d %d %d %d, %d left\n", s0, u1, a[0], a[1], _nr_pr) }
-- active proctype P0() { byte k; (_nr_pr > 2); ((-255) <= (300 == 0 -> 1 : 1)) }
-- active proctype P1() { byte k; do :: (3 == (-7)) :: break od }
tokens-ends-159 : List Word
tokens-ends-159 =
    on 1 kind.Mtype "mtype" ∷ on 1 kind.Assign "=" ∷ on 1 kind.OpenBrace "{" ∷ on 1 kind.Name "red" ∷ on 1 kind.Comma "," ∷
    on 1 kind.Name "green" ∷ on 1 kind.Comma "," ∷ on 1 kind.Name "blue" ∷ on 1 kind.CloseBrace "}" ∷ on 1 kind.Semicolon ";" ∷
    on 1 kind.Mtype "mtype" ∷ on 1 kind.Name "m" ∷ on 1 kind.Assign "=" ∷ on 1 kind.Name "green" ∷ on 1 kind.Semicolon ";" ∷
    on 2 kind.Short "short" ∷ on 2 kind.Name "s0" ∷ on 2 kind.Assign "=" ∷ on 2 kind.Number "0" ∷ on 2 kind.Semicolon ";" ∷
    on 3 kind.Unsigned "unsigned" ∷ on 3 kind.Name "u1" ∷ on 3 kind.Colon ":" ∷ on 3 kind.Number "3" ∷ on 3 kind.Assign "=" ∷
    on 3 kind.Number "0" ∷ on 3 kind.Semicolon ";" ∷ on 4 kind.Int "int" ∷ on 4 kind.Name "a" ∷ on 4 kind.OpenBracket "[" ∷
    on 4 kind.Number "2" ∷ on 4 kind.CloseBracket "]" ∷ on 4 kind.Semicolon ";" ∷ on 5 kind.Active "active" ∷
    on 5 kind.Proctype "proctype" ∷ on 5 kind.Name "Watch" ∷ on 5 kind.OpenParen "(" ∷ on 5 kind.CloseParen ")" ∷
    on 5 kind.OpenBrace "{" ∷ on 5 kind.Timeout "timeout" ∷ on 5 kind.Semicolon ";" ∷ on 5 kind.Printf "printf" ∷
    on 5 kind.OpenParen "(" ∷ on 5 kind.Quoted "\"%d %d %d %d, %d left\\n\"" ∷ on 5 kind.Comma "," ∷ on 5 kind.Name "s0" ∷
    on 5 kind.Comma "," ∷ on 5 kind.Name "u1" ∷ on 5 kind.Comma "," ∷ on 5 kind.Name "a" ∷ on 5 kind.OpenBracket "[" ∷
    on 5 kind.Number "0" ∷ on 5 kind.CloseBracket "]" ∷ on 5 kind.Comma "," ∷ on 5 kind.Name "a" ∷ on 5 kind.OpenBracket "[" ∷
    on 5 kind.Number "1" ∷ on 5 kind.CloseBracket "]" ∷ on 5 kind.Comma "," ∷ on 5 kind.Name "_nr_pr" ∷ on 5 kind.CloseParen ")" ∷
    on 5 kind.CloseBrace "}" ∷ on 6 kind.Active "active" ∷ on 6 kind.Proctype "proctype" ∷ on 6 kind.Name "P0" ∷
    on 6 kind.OpenParen "(" ∷ on 6 kind.CloseParen ")" ∷ on 6 kind.OpenBrace "{" ∷ on 6 kind.Byte "byte" ∷ on 6 kind.Name "k" ∷
    on 6 kind.Semicolon ";" ∷ on 6 kind.OpenParen "(" ∷ on 6 kind.Name "_nr_pr" ∷ on 6 kind.Greater ">" ∷ on 6 kind.Number "2" ∷
    on 6 kind.CloseParen ")" ∷ on 6 kind.Semicolon ";" ∷ on 6 kind.OpenParen "(" ∷ on 6 kind.OpenParen "(" ∷ on 6 kind.Minus "-" ∷
    on 6 kind.Number "255" ∷ on 6 kind.CloseParen ")" ∷ on 6 kind.AtMost "<=" ∷ on 6 kind.OpenParen "(" ∷ on 6 kind.Number "300" ∷
    on 6 kind.Equal "==" ∷ on 6 kind.Number "0" ∷ on 6 kind.Arrow "->" ∷ on 6 kind.Number "1" ∷ on 6 kind.Colon ":" ∷
    on 6 kind.Number "1" ∷ on 6 kind.CloseParen ")" ∷ on 6 kind.CloseParen ")" ∷ on 6 kind.CloseBrace "}" ∷
    on 7 kind.Active "active" ∷ on 7 kind.Proctype "proctype" ∷ on 7 kind.Name "P1" ∷ on 7 kind.OpenParen "(" ∷
    on 7 kind.CloseParen ")" ∷ on 7 kind.OpenBrace "{" ∷ on 7 kind.Byte "byte" ∷ on 7 kind.Name "k" ∷ on 7 kind.Semicolon ";" ∷
    on 7 kind.Do "do" ∷ on 7 kind.DoubleColon "::" ∷ on 7 kind.OpenParen "(" ∷ on 7 kind.Number "3" ∷ on 7 kind.Equal "==" ∷
    on 7 kind.OpenParen "(" ∷ on 7 kind.Minus "-" ∷ on 7 kind.Number "7" ∷ on 7 kind.CloseParen ")" ∷ on 7 kind.CloseParen ")" ∷
    on 7 kind.DoubleColon "::" ∷ on 7 kind.Break "break" ∷ on 7 kind.Od "od" ∷ on 7 kind.CloseBrace "}" ∷ []

model-ends-159 : Program
unfolding tokens-ends-159
model-ends-159 =
    let at : ℕ → Word = token_at tokens-ends-159 in
    let part : ℕ → ℕ → List Word = tokens_between tokens-ends-159 in
    record {
      globals = (slot (at 11) mtype false 0 1 1 (initial.Value (number 2)) ∷ slot (at 16) short false 1 1 1 (initial.Value (number 0))
          ∷ slot (at 21) (form.Unsigned 3) false 2 1 1 (initial.Value (number 0)) ∷ slot (at 28) int true 3 2 1 initial.Zero ∷ []);
      constants = ((at 7) ∷ (at 5) ∷ (at 3) ∷ []);
      typedefs = [];
      proctypes = (
          process (at 35) 6 1 0 [] (
          plain (part 39 40) (holds expr.Timeout) ∷
          plain (part 41 61) (action.Printf (at 43) ((read (global 1 short)) ∷ (read (global 2 (form.Unsigned 3))) ∷ (read (in_global 3
          int (turn 0 2 1 (Some (number 0)) ∷ []))) ∷ (read (in_global 3 int (turn 0 2 1 (Some (number 1)) ∷ []))) ∷ expr.ProcessCount
          ∷ [])) ∷ []) (at 61) ∷
          process (at 64) 7 1 0 (slot (at 69) byte false 0 1 1 initial.Zero ∷ []) (
          plain (part 71 76) (holds (expr.Binary op.Above expr.ProcessCount (number 2))) ∷
          plain (part 77 93) (holds (expr.Binary op.AtMost (expr.Unary before.Minus (number 255)) (expr.Choice (expr.Binary op.Equal
          (number 300) (number 0)) (number 1) (number 1)))) ∷ []) (at 93) ∷
          process (at 96) 8 1 0 (slot (at 101) byte false 0 1 1 initial.Zero ∷ []) (
          do_od (part 103 116) (
          (plain (part 105 113) (holds (expr.Binary op.Equal (number 3) (expr.Unary before.Minus (number 7)))) ∷ []) ∷
          (stmt [] Break (part 114 115) ∷ []) ∷ []) ∷ []) (at 116) ∷ []);
    }

abbrev end-1-of-ends-159 : Printed
end-1-of-ends-159 = shown (codes "0 0 0 0, 1 left\n") Valid

abbrev end-2-of-ends-159 : Printed
end-2-of-ends-159 = shown (codes "0 0 0 0, 2 left\n") Invalid

paths-of-ends-159 : paths model-ends-159 8 ≡ Some (end-1-of-ends-159 ∷ end-1-of-ends-159 ∷ end-1-of-ends-159 ∷ end-1-of-ends-159 ∷
    end-1-of-ends-159 ∷ end-2-of-ends-159 ∷ [])
unfolding computes model-ends-159
paths-of-ends-159 = has_paths model-ends-159 8 _ refl

-- short s0 = 1;
-- bit t1 = 1;
-- short a[2];
-- chan q0 = [1] of { byte };
-- active proctype Watch() { timeout; printf("%d %d %d %d %d, %d left\n", s0, t1, a[0], a[1], len(q0), _nr_pr) }
-- active proctype P0() { byte k; { s0 = _pid } unless { (a[1] <= (1 / 2)) -> q0?_ } }
-- active proctype P1() { byte k; if :: 1 <= a[1] -> a[1]--; (t1 > a[1]) :: else -> q0!(0 != 1 -> 0 : 1) fi; atomic { a[(s0 & 1)] =
--     s0; s0 = s0 } }
tokens-ends-178 : List Word
tokens-ends-178 =
    on 1 kind.Short "short" ∷ on 1 kind.Name "s0" ∷ on 1 kind.Assign "=" ∷ on 1 kind.Number "1" ∷ on 1 kind.Semicolon ";" ∷
    on 2 kind.Bit "bit" ∷ on 2 kind.Name "t1" ∷ on 2 kind.Assign "=" ∷ on 2 kind.Number "1" ∷ on 2 kind.Semicolon ";" ∷
    on 3 kind.Short "short" ∷ on 3 kind.Name "a" ∷ on 3 kind.OpenBracket "[" ∷ on 3 kind.Number "2" ∷ on 3 kind.CloseBracket "]" ∷
    on 3 kind.Semicolon ";" ∷ on 4 kind.Chan "chan" ∷ on 4 kind.Name "q0" ∷ on 4 kind.Assign "=" ∷ on 4 kind.OpenBracket "[" ∷
    on 4 kind.Number "1" ∷ on 4 kind.CloseBracket "]" ∷ on 4 kind.Of "of" ∷ on 4 kind.OpenBrace "{" ∷ on 4 kind.Byte "byte" ∷
    on 4 kind.CloseBrace "}" ∷ on 4 kind.Semicolon ";" ∷ on 5 kind.Active "active" ∷ on 5 kind.Proctype "proctype" ∷
    on 5 kind.Name "Watch" ∷ on 5 kind.OpenParen "(" ∷ on 5 kind.CloseParen ")" ∷ on 5 kind.OpenBrace "{" ∷
    on 5 kind.Timeout "timeout" ∷ on 5 kind.Semicolon ";" ∷ on 5 kind.Printf "printf" ∷ on 5 kind.OpenParen "(" ∷
    on 5 kind.Quoted "\"%d %d %d %d %d, %d left\\n\"" ∷ on 5 kind.Comma "," ∷ on 5 kind.Name "s0" ∷ on 5 kind.Comma "," ∷
    on 5 kind.Name "t1" ∷ on 5 kind.Comma "," ∷ on 5 kind.Name "a" ∷ on 5 kind.OpenBracket "[" ∷ on 5 kind.Number "0" ∷
    on 5 kind.CloseBracket "]" ∷ on 5 kind.Comma "," ∷ on 5 kind.Name "a" ∷ on 5 kind.OpenBracket "[" ∷ on 5 kind.Number "1" ∷
    on 5 kind.CloseBracket "]" ∷ on 5 kind.Comma "," ∷ on 5 kind.Len "len" ∷ on 5 kind.OpenParen "(" ∷ on 5 kind.Name "q0" ∷
    on 5 kind.CloseParen ")" ∷ on 5 kind.Comma "," ∷ on 5 kind.Name "_nr_pr" ∷ on 5 kind.CloseParen ")" ∷ on 5 kind.CloseBrace "}" ∷
    on 6 kind.Active "active" ∷ on 6 kind.Proctype "proctype" ∷ on 6 kind.Name "P0" ∷ on 6 kind.OpenParen "(" ∷
    on 6 kind.CloseParen ")" ∷ on 6 kind.OpenBrace "{" ∷ on 6 kind.Byte "byte" ∷ on 6 kind.Name "k" ∷ on 6 kind.Semicolon ";" ∷
    on 6 kind.OpenBrace "{" ∷ on 6 kind.Name "s0" ∷ on 6 kind.Assign "=" ∷ on 6 kind.Name "_pid" ∷ on 6 kind.CloseBrace "}" ∷
    on 6 kind.Unless "unless" ∷ on 6 kind.OpenBrace "{" ∷ on 6 kind.OpenParen "(" ∷ on 6 kind.Name "a" ∷ on 6 kind.OpenBracket "[" ∷
    on 6 kind.Number "1" ∷ on 6 kind.CloseBracket "]" ∷ on 6 kind.AtMost "<=" ∷ on 6 kind.OpenParen "(" ∷ on 6 kind.Number "1" ∷
    on 6 kind.Slash "/" ∷ on 6 kind.Number "2" ∷ on 6 kind.CloseParen ")" ∷ on 6 kind.CloseParen ")" ∷ on 6 kind.Arrow "->" ∷
    on 6 kind.Name "q0" ∷ on 6 kind.Query "?" ∷ on 6 kind.Name "_" ∷ on 6 kind.CloseBrace "}" ∷ on 6 kind.CloseBrace "}" ∷
    on 7 kind.Active "active" ∷ on 7 kind.Proctype "proctype" ∷ on 7 kind.Name "P1" ∷ on 7 kind.OpenParen "(" ∷
    on 7 kind.CloseParen ")" ∷ on 7 kind.OpenBrace "{" ∷ on 7 kind.Byte "byte" ∷ on 7 kind.Name "k" ∷ on 7 kind.Semicolon ";" ∷
    on 7 kind.If "if" ∷ on 7 kind.DoubleColon "::" ∷ on 7 kind.Number "1" ∷ on 7 kind.AtMost "<=" ∷ on 7 kind.Name "a" ∷
    on 7 kind.OpenBracket "[" ∷ on 7 kind.Number "1" ∷ on 7 kind.CloseBracket "]" ∷ on 7 kind.Arrow "->" ∷ on 7 kind.Name "a" ∷
    on 7 kind.OpenBracket "[" ∷ on 7 kind.Number "1" ∷ on 7 kind.CloseBracket "]" ∷ on 7 kind.Decrement "--" ∷
    on 7 kind.Semicolon ";" ∷ on 7 kind.OpenParen "(" ∷ on 7 kind.Name "t1" ∷ on 7 kind.Greater ">" ∷ on 7 kind.Name "a" ∷
    on 7 kind.OpenBracket "[" ∷ on 7 kind.Number "1" ∷ on 7 kind.CloseBracket "]" ∷ on 7 kind.CloseParen ")" ∷
    on 7 kind.DoubleColon "::" ∷ on 7 kind.Else "else" ∷ on 7 kind.Arrow "->" ∷ on 7 kind.Name "q0" ∷ on 7 kind.Bang "!" ∷
    on 7 kind.OpenParen "(" ∷ on 7 kind.Number "0" ∷ on 7 kind.Unequal "!=" ∷ on 7 kind.Number "1" ∷ on 7 kind.Arrow "->" ∷
    on 7 kind.Number "0" ∷ on 7 kind.Colon ":" ∷ on 7 kind.Number "1" ∷ on 7 kind.CloseParen ")" ∷ on 7 kind.Fi "fi" ∷
    on 7 kind.Semicolon ";" ∷ on 7 kind.Atomic "atomic" ∷ on 7 kind.OpenBrace "{" ∷ on 7 kind.Name "a" ∷ on 7 kind.OpenBracket "[" ∷
    on 7 kind.OpenParen "(" ∷ on 7 kind.Name "s0" ∷ on 7 kind.Ampersand "&" ∷ on 7 kind.Number "1" ∷ on 7 kind.CloseParen ")" ∷
    on 7 kind.CloseBracket "]" ∷ on 7 kind.Assign "=" ∷ on 7 kind.Name "s0" ∷ on 7 kind.Semicolon ";" ∷ on 7 kind.Name "s0" ∷
    on 7 kind.Assign "=" ∷ on 7 kind.Name "s0" ∷ on 7 kind.CloseBrace "}" ∷ on 7 kind.CloseBrace "}" ∷ []

model-ends-178 : Program
unfolding tokens-ends-178
model-ends-178 =
    let at : ℕ → Word = token_at tokens-ends-178 in
    let part : ℕ → ℕ → List Word = tokens_between tokens-ends-178 in
    record {
      globals = (slot (at 1) short false 0 1 1 (initial.Value (number 1)) ∷ slot (at 6) bit false 1 1 1 (initial.Value (number 1)) ∷
          slot (at 11) short true 2 2 1 initial.Zero ∷ slot (at 17) chan false 4 1 1 (initial.Channel 1 (byte ∷ [])) ∷ []);
      constants = [];
      typedefs = [];
      proctypes = (
          process (at 29) 5 1 0 [] (
          plain (part 33 34) (holds expr.Timeout) ∷
          plain (part 35 60) (action.Printf (at 37) ((read (global 0 short)) ∷ (read (global 1 bit)) ∷ (read (in_global 2 short (turn 0
          2 1 (Some (number 0)) ∷ []))) ∷ (read (in_global 2 short (turn 0 2 1 (Some (number 1)) ∷ []))) ∷ (expr.Ask fill.Length
          (global 3 chan)) ∷ expr.ProcessCount ∷ [])) ∷ []) (at 60) ∷
          process (at 63) 6 1 0 (slot (at 68) byte false 0 1 1 initial.Zero ∷ []) (
          unless (part 70 94) (
          block (part 70 75) (
          plain (part 71 74) (assign (global 0 short) expr.Pid) ∷ []) ∷ []) (
          block (part 76 94) (
          plain (part 77 89) (holds (expr.Binary op.AtMost (read (in_global 2 short (turn 0 2 1 (Some (number 1)) ∷ []))) (expr.Binary
          op.Divide (number 1) (number 2)))) ∷
          plain (part 90 93) (action.Receive (global 3 chan) First Remove (want.Anything ∷ [])) ∷ []) ∷ []) ∷ []) (at 94) ∷
          process (at 97) 7 1 0 (slot (at 102) byte false 0 1 1 initial.Zero ∷ []) (
          if_fi (part 104 142) (
          (plain (part 106 112) (holds (expr.Binary op.AtMost (number 1) (read (in_global 2 short (turn 0 2 1 (Some (number 1)) ∷ []))))) ∷
          plain (part 113 118) (action.Decrement (in_global 2 short (turn 0 2 1 (Some (number 1)) ∷ []))) ∷
          plain (part 119 127) (holds (expr.Binary op.Above (read (global 1 bit)) (read (in_global 2 short (turn 0 2 1 (Some (number 1))
          ∷ []))))) ∷ []) ∷
          (plain (part 128 129) action.Else ∷
          plain (part 130 141) (action.Send (global 3 chan) Fifo ((expr.Choice (expr.Binary op.Unequal (number 0) (number 1)) (number 0)
          (number 1)) ∷ [])) ∷ []) ∷ []) ∷
          atomic (part 143 160) (
          plain (part 145 155) (assign (in_global 2 short (turn 0 2 1 (Some (expr.Binary op.BitAnd (read (global 0 short)) (number 1)))
          ∷ [])) (read (global 0 short))) ∷
          plain (part 156 159) (assign (global 0 short) (read (global 0 short))) ∷ []) ∷ []) (at 160) ∷ []);
    }

abbrev end-1-of-ends-178 : Printed
end-1-of-ends-178 = shown (codes "1 1 0 1 0, 1 left\n") Valid

abbrev end-2-of-ends-178 : Printed
end-2-of-ends-178 = shown (codes "1 1 0 1 1, 1 left\n") Valid

paths-of-ends-178 : paths model-ends-178 11 ≡ Some (end-1-of-ends-178 ∷ end-1-of-ends-178 ∷ end-1-of-ends-178 ∷ end-1-of-ends-178 ∷
    end-1-of-ends-178 ∷ end-1-of-ends-178 ∷ end-1-of-ends-178 ∷ end-1-of-ends-178 ∷ end-1-of-ends-178 ∷ end-2-of-ends-178 ∷
    end-2-of-ends-178 ∷ [])
unfolding computes model-ends-178
paths-of-ends-178 = has_paths model-ends-178 11 _ refl

-- mtype = { red, green, blue }; mtype m = green;
-- bit t0 = 0;
-- int i1 = 1;
-- chan q0 = [2] of { short, byte };
-- active proctype Watch() { timeout; printf("%d %d %d, %d left\n", t0, i1, len(q0), _nr_pr) }
-- active proctype P0() { byte k; i1++; q0!3, (0 - 1) }
-- active proctype P1() { byte k; m = _nr_pr; i1 = m }
tokens-ends-201 : List Word
tokens-ends-201 =
    on 1 kind.Mtype "mtype" ∷ on 1 kind.Assign "=" ∷ on 1 kind.OpenBrace "{" ∷ on 1 kind.Name "red" ∷ on 1 kind.Comma "," ∷
    on 1 kind.Name "green" ∷ on 1 kind.Comma "," ∷ on 1 kind.Name "blue" ∷ on 1 kind.CloseBrace "}" ∷ on 1 kind.Semicolon ";" ∷
    on 1 kind.Mtype "mtype" ∷ on 1 kind.Name "m" ∷ on 1 kind.Assign "=" ∷ on 1 kind.Name "green" ∷ on 1 kind.Semicolon ";" ∷
    on 2 kind.Bit "bit" ∷ on 2 kind.Name "t0" ∷ on 2 kind.Assign "=" ∷ on 2 kind.Number "0" ∷ on 2 kind.Semicolon ";" ∷
    on 3 kind.Int "int" ∷ on 3 kind.Name "i1" ∷ on 3 kind.Assign "=" ∷ on 3 kind.Number "1" ∷ on 3 kind.Semicolon ";" ∷
    on 4 kind.Chan "chan" ∷ on 4 kind.Name "q0" ∷ on 4 kind.Assign "=" ∷ on 4 kind.OpenBracket "[" ∷ on 4 kind.Number "2" ∷
    on 4 kind.CloseBracket "]" ∷ on 4 kind.Of "of" ∷ on 4 kind.OpenBrace "{" ∷ on 4 kind.Short "short" ∷ on 4 kind.Comma "," ∷
    on 4 kind.Byte "byte" ∷ on 4 kind.CloseBrace "}" ∷ on 4 kind.Semicolon ";" ∷ on 5 kind.Active "active" ∷
    on 5 kind.Proctype "proctype" ∷ on 5 kind.Name "Watch" ∷ on 5 kind.OpenParen "(" ∷ on 5 kind.CloseParen ")" ∷
    on 5 kind.OpenBrace "{" ∷ on 5 kind.Timeout "timeout" ∷ on 5 kind.Semicolon ";" ∷ on 5 kind.Printf "printf" ∷
    on 5 kind.OpenParen "(" ∷ on 5 kind.Quoted "\"%d %d %d, %d left\\n\"" ∷ on 5 kind.Comma "," ∷ on 5 kind.Name "t0" ∷
    on 5 kind.Comma "," ∷ on 5 kind.Name "i1" ∷ on 5 kind.Comma "," ∷ on 5 kind.Len "len" ∷ on 5 kind.OpenParen "(" ∷
    on 5 kind.Name "q0" ∷ on 5 kind.CloseParen ")" ∷ on 5 kind.Comma "," ∷ on 5 kind.Name "_nr_pr" ∷ on 5 kind.CloseParen ")" ∷
    on 5 kind.CloseBrace "}" ∷ on 6 kind.Active "active" ∷ on 6 kind.Proctype "proctype" ∷ on 6 kind.Name "P0" ∷
    on 6 kind.OpenParen "(" ∷ on 6 kind.CloseParen ")" ∷ on 6 kind.OpenBrace "{" ∷ on 6 kind.Byte "byte" ∷ on 6 kind.Name "k" ∷
    on 6 kind.Semicolon ";" ∷ on 6 kind.Name "i1" ∷ on 6 kind.Increment "++" ∷ on 6 kind.Semicolon ";" ∷ on 6 kind.Name "q0" ∷
    on 6 kind.Bang "!" ∷ on 6 kind.Number "3" ∷ on 6 kind.Comma "," ∷ on 6 kind.OpenParen "(" ∷ on 6 kind.Number "0" ∷
    on 6 kind.Minus "-" ∷ on 6 kind.Number "1" ∷ on 6 kind.CloseParen ")" ∷ on 6 kind.CloseBrace "}" ∷ on 7 kind.Active "active" ∷
    on 7 kind.Proctype "proctype" ∷ on 7 kind.Name "P1" ∷ on 7 kind.OpenParen "(" ∷ on 7 kind.CloseParen ")" ∷
    on 7 kind.OpenBrace "{" ∷ on 7 kind.Byte "byte" ∷ on 7 kind.Name "k" ∷ on 7 kind.Semicolon ";" ∷ on 7 kind.Name "m" ∷
    on 7 kind.Assign "=" ∷ on 7 kind.Name "_nr_pr" ∷ on 7 kind.Semicolon ";" ∷ on 7 kind.Name "i1" ∷ on 7 kind.Assign "=" ∷
    on 7 kind.Name "m" ∷ on 7 kind.CloseBrace "}" ∷ []

model-ends-201 : Program
unfolding tokens-ends-201
model-ends-201 =
    let at : ℕ → Word = token_at tokens-ends-201 in
    let part : ℕ → ℕ → List Word = tokens_between tokens-ends-201 in
    record {
      globals = (slot (at 11) mtype false 0 1 1 (initial.Value (number 2)) ∷ slot (at 16) bit false 1 1 1 (initial.Value (number 0)) ∷
          slot (at 21) int false 2 1 1 (initial.Value (number 1)) ∷ slot (at 26) chan false 3 1 1 (initial.Channel 2 (short ∷ byte ∷
          [])) ∷ []);
      constants = ((at 7) ∷ (at 5) ∷ (at 3) ∷ []);
      typedefs = [];
      proctypes = (
          process (at 40) 6 1 0 [] (
          plain (part 44 45) (holds expr.Timeout) ∷
          plain (part 46 61) (action.Printf (at 48) ((read (global 1 bit)) ∷ (read (global 2 int)) ∷ (expr.Ask fill.Length (global 3
          chan)) ∷ expr.ProcessCount ∷ [])) ∷ []) (at 61) ∷
          process (at 64) 7 1 0 (slot (at 69) byte false 0 1 1 initial.Zero ∷ []) (
          plain (part 71 73) (action.Increment (global 2 int)) ∷
          plain (part 74 83) (action.Send (global 3 chan) Fifo ((number 3) ∷ (expr.Binary op.Minus (number 0) (number 1)) ∷ [])) ∷ []) (at 83) ∷
          process (at 86) 8 1 0 (slot (at 91) byte false 0 1 1 initial.Zero ∷ []) (
          plain (part 93 96) (assign (global 0 mtype) expr.ProcessCount) ∷
          plain (part 97 100) (assign (global 2 int) (read (global 0 mtype))) ∷ []) (at 100) ∷ []);
    }

abbrev end-1-of-ends-201 : Printed
end-1-of-ends-201 = shown (codes "0 3 1, 1 left\n") Valid

abbrev end-2-of-ends-201 : Printed
end-2-of-ends-201 = shown (codes "0 4 1, 1 left\n") Valid

paths-of-ends-201 : paths model-ends-201 9 ≡ Some (end-1-of-ends-201 ∷ end-1-of-ends-201 ∷ end-1-of-ends-201 ∷ end-1-of-ends-201 ∷
    end-1-of-ends-201 ∷ end-1-of-ends-201 ∷ end-1-of-ends-201 ∷ end-2-of-ends-201 ∷ end-2-of-ends-201 ∷ end-2-of-ends-201 ∷ [])
unfolding computes model-ends-201
paths-of-ends-201 = has_paths model-ends-201 9 _ refl

-- mtype = { red, green, blue }; mtype m = green;
-- unsigned u0 : 3 = 0;
-- byte b1 = 1;
-- active proctype Watch() { timeout; printf("%d %d, %d left\n", u0, b1, _nr_pr) }
-- active proctype P0() { byte k; do :: ((b1 == u0 && 1 != 7)) :: else -> (2 > (1 >= 1 -> 3 : 3)) :: break od }
-- active proctype P1() { byte k; do :: (255 >= 2); (300 < _pid) :: else -> b1 = u0 :: break od; ((3 >> 1) != u0) }
tokens-ends-203 : List Word
tokens-ends-203 =
    on 1 kind.Mtype "mtype" ∷ on 1 kind.Assign "=" ∷ on 1 kind.OpenBrace "{" ∷ on 1 kind.Name "red" ∷ on 1 kind.Comma "," ∷
    on 1 kind.Name "green" ∷ on 1 kind.Comma "," ∷ on 1 kind.Name "blue" ∷ on 1 kind.CloseBrace "}" ∷ on 1 kind.Semicolon ";" ∷
    on 1 kind.Mtype "mtype" ∷ on 1 kind.Name "m" ∷ on 1 kind.Assign "=" ∷ on 1 kind.Name "green" ∷ on 1 kind.Semicolon ";" ∷
    on 2 kind.Unsigned "unsigned" ∷ on 2 kind.Name "u0" ∷ on 2 kind.Colon ":" ∷ on 2 kind.Number "3" ∷ on 2 kind.Assign "=" ∷
    on 2 kind.Number "0" ∷ on 2 kind.Semicolon ";" ∷ on 3 kind.Byte "byte" ∷ on 3 kind.Name "b1" ∷ on 3 kind.Assign "=" ∷
    on 3 kind.Number "1" ∷ on 3 kind.Semicolon ";" ∷ on 4 kind.Active "active" ∷ on 4 kind.Proctype "proctype" ∷
    on 4 kind.Name "Watch" ∷ on 4 kind.OpenParen "(" ∷ on 4 kind.CloseParen ")" ∷ on 4 kind.OpenBrace "{" ∷
    on 4 kind.Timeout "timeout" ∷ on 4 kind.Semicolon ";" ∷ on 4 kind.Printf "printf" ∷ on 4 kind.OpenParen "(" ∷
    on 4 kind.Quoted "\"%d %d, %d left\\n\"" ∷ on 4 kind.Comma "," ∷ on 4 kind.Name "u0" ∷ on 4 kind.Comma "," ∷
    on 4 kind.Name "b1" ∷ on 4 kind.Comma "," ∷ on 4 kind.Name "_nr_pr" ∷ on 4 kind.CloseParen ")" ∷ on 4 kind.CloseBrace "}" ∷
    on 5 kind.Active "active" ∷ on 5 kind.Proctype "proctype" ∷ on 5 kind.Name "P0" ∷ on 5 kind.OpenParen "(" ∷
    on 5 kind.CloseParen ")" ∷ on 5 kind.OpenBrace "{" ∷ on 5 kind.Byte "byte" ∷ on 5 kind.Name "k" ∷ on 5 kind.Semicolon ";" ∷
    on 5 kind.Do "do" ∷ on 5 kind.DoubleColon "::" ∷ on 5 kind.OpenParen "(" ∷ on 5 kind.OpenParen "(" ∷ on 5 kind.Name "b1" ∷
    on 5 kind.Equal "==" ∷ on 5 kind.Name "u0" ∷ on 5 kind.AndAnd "&&" ∷ on 5 kind.Number "1" ∷ on 5 kind.Unequal "!=" ∷
    on 5 kind.Number "7" ∷ on 5 kind.CloseParen ")" ∷ on 5 kind.CloseParen ")" ∷ on 5 kind.DoubleColon "::" ∷ on 5 kind.Else "else" ∷
    on 5 kind.Arrow "->" ∷ on 5 kind.OpenParen "(" ∷ on 5 kind.Number "2" ∷ on 5 kind.Greater ">" ∷ on 5 kind.OpenParen "(" ∷
    on 5 kind.Number "1" ∷ on 5 kind.AtLeast ">=" ∷ on 5 kind.Number "1" ∷ on 5 kind.Arrow "->" ∷ on 5 kind.Number "3" ∷
    on 5 kind.Colon ":" ∷ on 5 kind.Number "3" ∷ on 5 kind.CloseParen ")" ∷ on 5 kind.CloseParen ")" ∷ on 5 kind.DoubleColon "::" ∷
    on 5 kind.Break "break" ∷ on 5 kind.Od "od" ∷ on 5 kind.CloseBrace "}" ∷ on 6 kind.Active "active" ∷
    on 6 kind.Proctype "proctype" ∷ on 6 kind.Name "P1" ∷ on 6 kind.OpenParen "(" ∷ on 6 kind.CloseParen ")" ∷
    on 6 kind.OpenBrace "{" ∷ on 6 kind.Byte "byte" ∷ on 6 kind.Name "k" ∷ on 6 kind.Semicolon ";" ∷ on 6 kind.Do "do" ∷
    on 6 kind.DoubleColon "::" ∷ on 6 kind.OpenParen "(" ∷ on 6 kind.Number "255" ∷ on 6 kind.AtLeast ">=" ∷ on 6 kind.Number "2" ∷
    on 6 kind.CloseParen ")" ∷ on 6 kind.Semicolon ";" ∷ on 6 kind.OpenParen "(" ∷ on 6 kind.Number "300" ∷ on 6 kind.Less "<" ∷
    on 6 kind.Name "_pid" ∷ on 6 kind.CloseParen ")" ∷ on 6 kind.DoubleColon "::" ∷ on 6 kind.Else "else" ∷ on 6 kind.Arrow "->" ∷
    on 6 kind.Name "b1" ∷ on 6 kind.Assign "=" ∷ on 6 kind.Name "u0" ∷ on 6 kind.DoubleColon "::" ∷ on 6 kind.Break "break" ∷
    on 6 kind.Od "od" ∷ on 6 kind.Semicolon ";" ∷ on 6 kind.OpenParen "(" ∷ on 6 kind.OpenParen "(" ∷ on 6 kind.Number "3" ∷
    on 6 kind.ShiftRight ">>" ∷ on 6 kind.Number "1" ∷ on 6 kind.CloseParen ")" ∷ on 6 kind.Unequal "!=" ∷ on 6 kind.Name "u0" ∷
    on 6 kind.CloseParen ")" ∷ on 6 kind.CloseBrace "}" ∷ []

model-ends-203 : Program
unfolding tokens-ends-203
model-ends-203 =
    let at : ℕ → Word = token_at tokens-ends-203 in
    let part : ℕ → ℕ → List Word = tokens_between tokens-ends-203 in
    record {
      globals = (slot (at 11) mtype false 0 1 1 (initial.Value (number 2)) ∷ slot (at 16) (form.Unsigned 3) false 1 1 1 (initial.Value
          (number 0)) ∷ slot (at 23) byte false 2 1 1 (initial.Value (number 1)) ∷ []);
      constants = ((at 7) ∷ (at 5) ∷ (at 3) ∷ []);
      typedefs = [];
      proctypes = (
          process (at 29) 5 1 0 [] (
          plain (part 33 34) (holds expr.Timeout) ∷
          plain (part 35 45) (action.Printf (at 37) ((read (global 1 (form.Unsigned 3))) ∷ (read (global 2 byte)) ∷ expr.ProcessCount ∷
          [])) ∷ []) (at 45) ∷
          process (at 48) 6 1 0 (slot (at 53) byte false 0 1 1 initial.Zero ∷ []) (
          do_od (part 55 87) (
          (plain (part 57 68) (holds (expr.Binary op.And (expr.Binary op.Equal (read (global 2 byte)) (read (global 1 (form.Unsigned
          3)))) (expr.Binary op.Unequal (number 1) (number 7)))) ∷ []) ∷
          (plain (part 69 70) action.Else ∷
          plain (part 71 84) (holds (expr.Binary op.Above (number 2) (expr.Choice (expr.Binary op.AtLeast (number 1) (number 1)) (number
          3) (number 3)))) ∷ []) ∷
          (stmt [] Break (part 85 86) ∷ []) ∷ []) ∷ []) (at 87) ∷
          process (at 90) 7 1 0 (slot (at 95) byte false 0 1 1 initial.Zero ∷ []) (
          do_od (part 97 119) (
          (plain (part 99 104) (holds (expr.Binary op.AtLeast (number 255) (number 2))) ∷
          plain (part 105 110) (holds (expr.Binary op.Below (number 300) expr.Pid)) ∷ []) ∷
          (plain (part 111 112) action.Else ∷
          plain (part 113 116) (assign (global 2 byte) (read (global 1 (form.Unsigned 3)))) ∷ []) ∷
          (stmt [] Break (part 117 118) ∷ []) ∷ []) ∷
          plain (part 120 129) (holds (expr.Binary op.Unequal (expr.Binary op.ShiftRight (number 3) (number 1)) (read (global 1
          (form.Unsigned 3))))) ∷ []) (at 129) ∷ []);
    }

abbrev end-1-of-ends-203 : Printed
end-1-of-ends-203 = shown (codes "0 1, 3 left\n") Invalid

abbrev end-2-of-ends-203 : Printed
end-2-of-ends-203 = shown (codes "0 1, 1 left\n") Valid

paths-of-ends-203 : paths model-ends-203 8 ≡ Some (end-1-of-ends-203 ∷ end-2-of-ends-203 ∷ end-1-of-ends-203 ∷ end-2-of-ends-203 ∷
    end-2-of-ends-203 ∷ end-2-of-ends-203 ∷ [])
unfolding computes model-ends-203
paths-of-ends-203 = has_paths model-ends-203 8 _ refl

-- mtype = { red, green, blue }; mtype m = green;
-- short s0 = 0;
-- int i1 = 0;
-- byte a[2];
-- typedef T { byte f; short g[2] }; T r;
-- active proctype Watch() { timeout; printf("%d %d %d %d %d %d, %d left\n", s0, i1, r.f, r.g[1], a[0], a[1], _nr_pr) }
-- active proctype P0() { byte k; r.f = (!1) }
-- proctype Q(byte n) { r.f = 300; n++ }
-- init { run Q(0) }
tokens-ends-210 : List Word
tokens-ends-210 =
    on 1 kind.Mtype "mtype" ∷ on 1 kind.Assign "=" ∷ on 1 kind.OpenBrace "{" ∷ on 1 kind.Name "red" ∷ on 1 kind.Comma "," ∷
    on 1 kind.Name "green" ∷ on 1 kind.Comma "," ∷ on 1 kind.Name "blue" ∷ on 1 kind.CloseBrace "}" ∷ on 1 kind.Semicolon ";" ∷
    on 1 kind.Mtype "mtype" ∷ on 1 kind.Name "m" ∷ on 1 kind.Assign "=" ∷ on 1 kind.Name "green" ∷ on 1 kind.Semicolon ";" ∷
    on 2 kind.Short "short" ∷ on 2 kind.Name "s0" ∷ on 2 kind.Assign "=" ∷ on 2 kind.Number "0" ∷ on 2 kind.Semicolon ";" ∷
    on 3 kind.Int "int" ∷ on 3 kind.Name "i1" ∷ on 3 kind.Assign "=" ∷ on 3 kind.Number "0" ∷ on 3 kind.Semicolon ";" ∷
    on 4 kind.Byte "byte" ∷ on 4 kind.Name "a" ∷ on 4 kind.OpenBracket "[" ∷ on 4 kind.Number "2" ∷ on 4 kind.CloseBracket "]" ∷
    on 4 kind.Semicolon ";" ∷ on 5 kind.Typedef "typedef" ∷ on 5 kind.Name "T" ∷ on 5 kind.OpenBrace "{" ∷ on 5 kind.Byte "byte" ∷
    on 5 kind.Name "f" ∷ on 5 kind.Semicolon ";" ∷ on 5 kind.Short "short" ∷ on 5 kind.Name "g" ∷ on 5 kind.OpenBracket "[" ∷
    on 5 kind.Number "2" ∷ on 5 kind.CloseBracket "]" ∷ on 5 kind.CloseBrace "}" ∷ on 5 kind.Semicolon ";" ∷ on 5 kind.Name "T" ∷
    on 5 kind.Name "r" ∷ on 5 kind.Semicolon ";" ∷ on 6 kind.Active "active" ∷ on 6 kind.Proctype "proctype" ∷
    on 6 kind.Name "Watch" ∷ on 6 kind.OpenParen "(" ∷ on 6 kind.CloseParen ")" ∷ on 6 kind.OpenBrace "{" ∷
    on 6 kind.Timeout "timeout" ∷ on 6 kind.Semicolon ";" ∷ on 6 kind.Printf "printf" ∷ on 6 kind.OpenParen "(" ∷
    on 6 kind.Quoted "\"%d %d %d %d %d %d, %d left\\n\"" ∷ on 6 kind.Comma "," ∷ on 6 kind.Name "s0" ∷ on 6 kind.Comma "," ∷
    on 6 kind.Name "i1" ∷ on 6 kind.Comma "," ∷ on 6 kind.Name "r" ∷ on 6 kind.Dot "." ∷ on 6 kind.Name "f" ∷ on 6 kind.Comma "," ∷
    on 6 kind.Name "r" ∷ on 6 kind.Dot "." ∷ on 6 kind.Name "g" ∷ on 6 kind.OpenBracket "[" ∷ on 6 kind.Number "1" ∷
    on 6 kind.CloseBracket "]" ∷ on 6 kind.Comma "," ∷ on 6 kind.Name "a" ∷ on 6 kind.OpenBracket "[" ∷ on 6 kind.Number "0" ∷
    on 6 kind.CloseBracket "]" ∷ on 6 kind.Comma "," ∷ on 6 kind.Name "a" ∷ on 6 kind.OpenBracket "[" ∷ on 6 kind.Number "1" ∷
    on 6 kind.CloseBracket "]" ∷ on 6 kind.Comma "," ∷ on 6 kind.Name "_nr_pr" ∷ on 6 kind.CloseParen ")" ∷
    on 6 kind.CloseBrace "}" ∷ on 7 kind.Active "active" ∷ on 7 kind.Proctype "proctype" ∷ on 7 kind.Name "P0" ∷
    on 7 kind.OpenParen "(" ∷ on 7 kind.CloseParen ")" ∷ on 7 kind.OpenBrace "{" ∷ on 7 kind.Byte "byte" ∷ on 7 kind.Name "k" ∷
    on 7 kind.Semicolon ";" ∷ on 7 kind.Name "r" ∷ on 7 kind.Dot "." ∷ on 7 kind.Name "f" ∷ on 7 kind.Assign "=" ∷
    on 7 kind.OpenParen "(" ∷ on 7 kind.Bang "!" ∷ on 7 kind.Number "1" ∷ on 7 kind.CloseParen ")" ∷ on 7 kind.CloseBrace "}" ∷
    on 8 kind.Proctype "proctype" ∷ on 8 kind.Name "Q" ∷ on 8 kind.OpenParen "(" ∷ on 8 kind.Byte "byte" ∷ on 8 kind.Name "n" ∷
    on 8 kind.CloseParen ")" ∷ on 8 kind.OpenBrace "{" ∷ on 8 kind.Name "r" ∷ on 8 kind.Dot "." ∷ on 8 kind.Name "f" ∷
    on 8 kind.Assign "=" ∷ on 8 kind.Number "300" ∷ on 8 kind.Semicolon ";" ∷ on 8 kind.Name "n" ∷ on 8 kind.Increment "++" ∷
    on 8 kind.CloseBrace "}" ∷ on 9 kind.Init "init" ∷ on 9 kind.OpenBrace "{" ∷ on 9 kind.Run "run" ∷ on 9 kind.Name "Q" ∷
    on 9 kind.OpenParen "(" ∷ on 9 kind.Number "0" ∷ on 9 kind.CloseParen ")" ∷ on 9 kind.CloseBrace "}" ∷ []

model-ends-210 : Program
unfolding tokens-ends-210
model-ends-210 =
    let at : ℕ → Word = token_at tokens-ends-210 in
    let part : ℕ → ℕ → List Word = tokens_between tokens-ends-210 in
    record {
      globals = (slot (at 11) mtype false 0 1 1 (initial.Value (number 2)) ∷ slot (at 16) short false 1 1 1 (initial.Value (number 0))
          ∷ slot (at 21) int false 2 1 1 (initial.Value (number 0)) ∷ slot (at 26) byte true 3 2 1 initial.Zero ∷ slot (at 45)
          (form.Struct 6) false 5 1 3 initial.Zero ∷ []);
      constants = ((at 7) ∷ (at 5) ∷ (at 3) ∷ []);
      typedefs = (fields 6 (slot (at 35) byte false 0 1 1 initial.Zero ∷ slot (at 38) short true 1 2 1 initial.Zero ∷ []) ∷ []);
      proctypes = (
          process (at 49) 8 1 0 [] (
          plain (part 53 54) (holds expr.Timeout) ∷
          plain (part 55 86) (action.Printf (at 57) ((read (global 1 short)) ∷ (read (global 2 int)) ∷ (read (in_global 4 byte (turn 0 1
          3 None ∷ turn 0 1 1 None ∷ []))) ∷ (read (in_global 4 short (turn 0 1 3 None ∷ turn 1 2 1 (Some (number 1)) ∷ []))) ∷ (read
          (in_global 3 byte (turn 0 2 1 (Some (number 0)) ∷ []))) ∷ (read (in_global 3 byte (turn 0 2 1 (Some (number 1)) ∷ []))) ∷
          expr.ProcessCount ∷ [])) ∷ []) (at 86) ∷
          process (at 89) 9 1 0 (slot (at 94) byte false 0 1 1 initial.Zero ∷ []) (
          plain (part 96 104) (assign (in_global 4 byte (turn 0 1 3 None ∷ turn 0 1 1 None ∷ [])) (expr.Unary before.Not (number 1))) ∷
          []) (at 104) ∷
          process (at 106) 10 0 1 (slot (at 109) byte false 0 1 1 initial.Zero ∷ []) (
          plain (part 112 117) (assign (in_global 4 byte (turn 0 1 3 None ∷ turn 0 1 1 None ∷ [])) (number 300)) ∷
          plain (part 118 120) (action.Increment (local 0 byte)) ∷ []) (at 120) ∷
          process (at 121) 11 1 0 [] (
          plain (part 123 128) (action.Run (run 2 ((number 0) ∷ []))) ∷ []) (at 128) ∷ []);
    }

abbrev end-1-of-ends-210 : Printed
end-1-of-ends-210 = shown (codes "0 0 44 0 0 0, 1 left\n") Valid

abbrev end-2-of-ends-210 : Printed
end-2-of-ends-210 = shown (codes "0 0 0 0 0 0, 1 left\n") Valid

paths-of-ends-210 : paths model-ends-210 10 ≡ Some (end-1-of-ends-210 ∷ end-1-of-ends-210 ∷ end-2-of-ends-210 ∷ end-2-of-ends-210 ∷
    end-2-of-ends-210 ∷ end-2-of-ends-210 ∷ [])
unfolding computes model-ends-210
paths-of-ends-210 = has_paths model-ends-210 10 _ refl

-- byte b0 = 1;
-- active proctype Watch() { timeout; printf("%d, %d left\n", b0, _nr_pr) }
-- active proctype P0() { byte k; (((300 * 7) <= 255 && 1 >= 300)) }
-- active proctype P1() { byte k; if :: 255 != 3 -> (b0 >= 300) :: b0-- :: else -> (_nr_pr >= b0) fi }
tokens-ends-211 : List Word
tokens-ends-211 =
    on 1 kind.Byte "byte" ∷ on 1 kind.Name "b0" ∷ on 1 kind.Assign "=" ∷ on 1 kind.Number "1" ∷ on 1 kind.Semicolon ";" ∷
    on 2 kind.Active "active" ∷ on 2 kind.Proctype "proctype" ∷ on 2 kind.Name "Watch" ∷ on 2 kind.OpenParen "(" ∷
    on 2 kind.CloseParen ")" ∷ on 2 kind.OpenBrace "{" ∷ on 2 kind.Timeout "timeout" ∷ on 2 kind.Semicolon ";" ∷
    on 2 kind.Printf "printf" ∷ on 2 kind.OpenParen "(" ∷ on 2 kind.Quoted "\"%d, %d left\\n\"" ∷ on 2 kind.Comma "," ∷
    on 2 kind.Name "b0" ∷ on 2 kind.Comma "," ∷ on 2 kind.Name "_nr_pr" ∷ on 2 kind.CloseParen ")" ∷ on 2 kind.CloseBrace "}" ∷
    on 3 kind.Active "active" ∷ on 3 kind.Proctype "proctype" ∷ on 3 kind.Name "P0" ∷ on 3 kind.OpenParen "(" ∷
    on 3 kind.CloseParen ")" ∷ on 3 kind.OpenBrace "{" ∷ on 3 kind.Byte "byte" ∷ on 3 kind.Name "k" ∷ on 3 kind.Semicolon ";" ∷
    on 3 kind.OpenParen "(" ∷ on 3 kind.OpenParen "(" ∷ on 3 kind.OpenParen "(" ∷ on 3 kind.Number "300" ∷ on 3 kind.Star "*" ∷
    on 3 kind.Number "7" ∷ on 3 kind.CloseParen ")" ∷ on 3 kind.AtMost "<=" ∷ on 3 kind.Number "255" ∷ on 3 kind.AndAnd "&&" ∷
    on 3 kind.Number "1" ∷ on 3 kind.AtLeast ">=" ∷ on 3 kind.Number "300" ∷ on 3 kind.CloseParen ")" ∷ on 3 kind.CloseParen ")" ∷
    on 3 kind.CloseBrace "}" ∷ on 4 kind.Active "active" ∷ on 4 kind.Proctype "proctype" ∷ on 4 kind.Name "P1" ∷
    on 4 kind.OpenParen "(" ∷ on 4 kind.CloseParen ")" ∷ on 4 kind.OpenBrace "{" ∷ on 4 kind.Byte "byte" ∷ on 4 kind.Name "k" ∷
    on 4 kind.Semicolon ";" ∷ on 4 kind.If "if" ∷ on 4 kind.DoubleColon "::" ∷ on 4 kind.Number "255" ∷ on 4 kind.Unequal "!=" ∷
    on 4 kind.Number "3" ∷ on 4 kind.Arrow "->" ∷ on 4 kind.OpenParen "(" ∷ on 4 kind.Name "b0" ∷ on 4 kind.AtLeast ">=" ∷
    on 4 kind.Number "300" ∷ on 4 kind.CloseParen ")" ∷ on 4 kind.DoubleColon "::" ∷ on 4 kind.Name "b0" ∷ on 4 kind.Decrement "--" ∷
    on 4 kind.DoubleColon "::" ∷ on 4 kind.Else "else" ∷ on 4 kind.Arrow "->" ∷ on 4 kind.OpenParen "(" ∷ on 4 kind.Name "_nr_pr" ∷
    on 4 kind.AtLeast ">=" ∷ on 4 kind.Name "b0" ∷ on 4 kind.CloseParen ")" ∷ on 4 kind.Fi "fi" ∷ on 4 kind.CloseBrace "}" ∷ []

model-ends-211 : Program
unfolding tokens-ends-211
model-ends-211 =
    let at : ℕ → Word = token_at tokens-ends-211 in
    let part : ℕ → ℕ → List Word = tokens_between tokens-ends-211 in
    record {
      globals = (slot (at 1) byte false 0 1 1 (initial.Value (number 1)) ∷ []);
      constants = [];
      typedefs = [];
      proctypes = (
          process (at 7) 2 1 0 [] (
          plain (part 11 12) (holds expr.Timeout) ∷
          plain (part 13 21) (action.Printf (at 15) ((read (global 0 byte)) ∷ expr.ProcessCount ∷ [])) ∷ []) (at 21) ∷
          process (at 24) 3 1 0 (slot (at 29) byte false 0 1 1 initial.Zero ∷ []) (
          plain (part 31 46) (holds (expr.Binary op.And (expr.Binary op.AtMost (expr.Binary op.Times (number 300) (number 7)) (number
          255)) (expr.Binary op.AtLeast (number 1) (number 300)))) ∷ []) (at 46) ∷
          process (at 49) 4 1 0 (slot (at 54) byte false 0 1 1 initial.Zero ∷ []) (
          if_fi (part 56 79) (
          (plain (part 58 61) (holds (expr.Binary op.Unequal (number 255) (number 3))) ∷
          plain (part 62 67) (holds (expr.Binary op.AtLeast (read (global 0 byte)) (number 300))) ∷ []) ∷
          (plain (part 68 70) (action.Decrement (global 0 byte)) ∷ []) ∷
          (plain (part 71 72) action.Else ∷
          plain (part 73 78) (holds (expr.Binary op.AtLeast expr.ProcessCount (read (global 0 byte)))) ∷ []) ∷ []) ∷ []) (at 79) ∷ []);
    }

abbrev end-1-of-ends-211 : Printed
end-1-of-ends-211 = shown (codes "1, 3 left\n") Invalid

abbrev end-2-of-ends-211 : Printed
end-2-of-ends-211 = shown (codes "0, 2 left\n") Invalid

paths-of-ends-211 : paths model-ends-211 4 ≡ Some (end-1-of-ends-211 ∷ end-2-of-ends-211 ∷ [])
unfolding computes model-ends-211
paths-of-ends-211 = has_paths model-ends-211 4 _ refl

-- int i0 = 1;
-- short a[2];
-- active proctype Watch() { timeout; printf("%d %d %d, %d left\n", i0, a[0], a[1], _nr_pr) }
-- active proctype P0() { byte k; ((255 >= i0 || 2 > 1)); atomic { i0--; ((!1) == a[(i0 & 1)]) } }
-- active proctype P1() { byte k; if :: i0 = a[(i0 & 1)] fi; atomic { (_nr_pr < 300); (2 > (~2)) } }
tokens-ends-222 : List Word
tokens-ends-222 =
    on 1 kind.Int "int" ∷ on 1 kind.Name "i0" ∷ on 1 kind.Assign "=" ∷ on 1 kind.Number "1" ∷ on 1 kind.Semicolon ";" ∷
    on 2 kind.Short "short" ∷ on 2 kind.Name "a" ∷ on 2 kind.OpenBracket "[" ∷ on 2 kind.Number "2" ∷ on 2 kind.CloseBracket "]" ∷
    on 2 kind.Semicolon ";" ∷ on 3 kind.Active "active" ∷ on 3 kind.Proctype "proctype" ∷ on 3 kind.Name "Watch" ∷
    on 3 kind.OpenParen "(" ∷ on 3 kind.CloseParen ")" ∷ on 3 kind.OpenBrace "{" ∷ on 3 kind.Timeout "timeout" ∷
    on 3 kind.Semicolon ";" ∷ on 3 kind.Printf "printf" ∷ on 3 kind.OpenParen "(" ∷ on 3 kind.Quoted "\"%d %d %d, %d left\\n\"" ∷
    on 3 kind.Comma "," ∷ on 3 kind.Name "i0" ∷ on 3 kind.Comma "," ∷ on 3 kind.Name "a" ∷ on 3 kind.OpenBracket "[" ∷
    on 3 kind.Number "0" ∷ on 3 kind.CloseBracket "]" ∷ on 3 kind.Comma "," ∷ on 3 kind.Name "a" ∷ on 3 kind.OpenBracket "[" ∷
    on 3 kind.Number "1" ∷ on 3 kind.CloseBracket "]" ∷ on 3 kind.Comma "," ∷ on 3 kind.Name "_nr_pr" ∷ on 3 kind.CloseParen ")" ∷
    on 3 kind.CloseBrace "}" ∷ on 4 kind.Active "active" ∷ on 4 kind.Proctype "proctype" ∷ on 4 kind.Name "P0" ∷
    on 4 kind.OpenParen "(" ∷ on 4 kind.CloseParen ")" ∷ on 4 kind.OpenBrace "{" ∷ on 4 kind.Byte "byte" ∷ on 4 kind.Name "k" ∷
    on 4 kind.Semicolon ";" ∷ on 4 kind.OpenParen "(" ∷ on 4 kind.OpenParen "(" ∷ on 4 kind.Number "255" ∷ on 4 kind.AtLeast ">=" ∷
    on 4 kind.Name "i0" ∷ on 4 kind.OrOr "||" ∷ on 4 kind.Number "2" ∷ on 4 kind.Greater ">" ∷ on 4 kind.Number "1" ∷
    on 4 kind.CloseParen ")" ∷ on 4 kind.CloseParen ")" ∷ on 4 kind.Semicolon ";" ∷ on 4 kind.Atomic "atomic" ∷
    on 4 kind.OpenBrace "{" ∷ on 4 kind.Name "i0" ∷ on 4 kind.Decrement "--" ∷ on 4 kind.Semicolon ";" ∷ on 4 kind.OpenParen "(" ∷
    on 4 kind.OpenParen "(" ∷ on 4 kind.Bang "!" ∷ on 4 kind.Number "1" ∷ on 4 kind.CloseParen ")" ∷ on 4 kind.Equal "==" ∷
    on 4 kind.Name "a" ∷ on 4 kind.OpenBracket "[" ∷ on 4 kind.OpenParen "(" ∷ on 4 kind.Name "i0" ∷ on 4 kind.Ampersand "&" ∷
    on 4 kind.Number "1" ∷ on 4 kind.CloseParen ")" ∷ on 4 kind.CloseBracket "]" ∷ on 4 kind.CloseParen ")" ∷
    on 4 kind.CloseBrace "}" ∷ on 4 kind.CloseBrace "}" ∷ on 5 kind.Active "active" ∷ on 5 kind.Proctype "proctype" ∷
    on 5 kind.Name "P1" ∷ on 5 kind.OpenParen "(" ∷ on 5 kind.CloseParen ")" ∷ on 5 kind.OpenBrace "{" ∷ on 5 kind.Byte "byte" ∷
    on 5 kind.Name "k" ∷ on 5 kind.Semicolon ";" ∷ on 5 kind.If "if" ∷ on 5 kind.DoubleColon "::" ∷ on 5 kind.Name "i0" ∷
    on 5 kind.Assign "=" ∷ on 5 kind.Name "a" ∷ on 5 kind.OpenBracket "[" ∷ on 5 kind.OpenParen "(" ∷ on 5 kind.Name "i0" ∷
    on 5 kind.Ampersand "&" ∷ on 5 kind.Number "1" ∷ on 5 kind.CloseParen ")" ∷ on 5 kind.CloseBracket "]" ∷ on 5 kind.Fi "fi" ∷
    on 5 kind.Semicolon ";" ∷ on 5 kind.Atomic "atomic" ∷ on 5 kind.OpenBrace "{" ∷ on 5 kind.OpenParen "(" ∷
    on 5 kind.Name "_nr_pr" ∷ on 5 kind.Less "<" ∷ on 5 kind.Number "300" ∷ on 5 kind.CloseParen ")" ∷ on 5 kind.Semicolon ";" ∷
    on 5 kind.OpenParen "(" ∷ on 5 kind.Number "2" ∷ on 5 kind.Greater ">" ∷ on 5 kind.OpenParen "(" ∷ on 5 kind.Tilde "~" ∷
    on 5 kind.Number "2" ∷ on 5 kind.CloseParen ")" ∷ on 5 kind.CloseParen ")" ∷ on 5 kind.CloseBrace "}" ∷
    on 5 kind.CloseBrace "}" ∷ []

model-ends-222 : Program
unfolding tokens-ends-222
model-ends-222 =
    let at : ℕ → Word = token_at tokens-ends-222 in
    let part : ℕ → ℕ → List Word = tokens_between tokens-ends-222 in
    record {
      globals = (slot (at 1) int false 0 1 1 (initial.Value (number 1)) ∷ slot (at 6) short true 1 2 1 initial.Zero ∷ []);
      constants = [];
      typedefs = [];
      proctypes = (
          process (at 13) 3 1 0 [] (
          plain (part 17 18) (holds expr.Timeout) ∷
          plain (part 19 37) (action.Printf (at 21) ((read (global 0 int)) ∷ (read (in_global 1 short (turn 0 2 1 (Some (number 0)) ∷
          []))) ∷ (read (in_global 1 short (turn 0 2 1 (Some (number 1)) ∷ []))) ∷ expr.ProcessCount ∷ [])) ∷ []) (at 37) ∷
          process (at 40) 4 1 0 (slot (at 45) byte false 0 1 1 initial.Zero ∷ []) (
          plain (part 47 58) (holds (expr.Binary op.Or (expr.Binary op.AtLeast (number 255) (read (global 0 int))) (expr.Binary op.Above
          (number 2) (number 1)))) ∷
          atomic (part 59 80) (
          plain (part 61 63) (action.Decrement (global 0 int)) ∷
          plain (part 64 79) (holds (expr.Binary op.Equal (expr.Unary before.Not (number 1)) (read (in_global 1 short (turn 0 2 1 (Some
          (expr.Binary op.BitAnd (read (global 0 int)) (number 1))) ∷ []))))) ∷ []) ∷ []) (at 80) ∷
          process (at 83) 5 1 0 (slot (at 88) byte false 0 1 1 initial.Zero ∷ []) (
          if_fi (part 90 103) (
          (plain (part 92 102) (assign (global 0 int) (read (in_global 1 short (turn 0 2 1 (Some (expr.Binary op.BitAnd (read (global 0
          int)) (number 1))) ∷ [])))) ∷ []) ∷ []) ∷
          atomic (part 104 121) (
          plain (part 106 111) (holds (expr.Binary op.Below expr.ProcessCount (number 300))) ∷
          plain (part 112 120) (holds (expr.Binary op.Above (number 2) (expr.Unary before.Complement (number 2)))) ∷ []) ∷ []) (at 121) ∷ []);
    }

abbrev end-1-of-ends-222 : Printed
end-1-of-ends-222 = shown (codes "0 0 0, 1 left\n") Valid

abbrev end-2-of-ends-222 : Printed
end-2-of-ends-222 = shown (codes "-1 0 0, 1 left\n") Valid

paths-of-ends-222 : paths model-ends-222 11 ≡ Some (end-1-of-ends-222 ∷ end-2-of-ends-222 ∷ end-2-of-ends-222 ∷ end-2-of-ends-222 ∷
    end-2-of-ends-222 ∷ end-2-of-ends-222 ∷ end-2-of-ends-222 ∷ end-2-of-ends-222 ∷ end-2-of-ends-222 ∷ end-2-of-ends-222 ∷ [])
unfolding computes model-ends-222
paths-of-ends-222 = has_paths model-ends-222 11 _ refl
