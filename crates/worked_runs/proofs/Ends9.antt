-- All paths of small random models, whose ends are those of Spin's full search. `tools/spin-ends` made the models and their data.
use Rattle.std.proofs.Common.{◌≡◌, ℕ, List, [], ◌∷◌, true, false, refl, Some, None}
use Rattle.std.specs.Prelude.{codes, pos}
use Rattle.pml_token.specs.Word.{Word}
use Rattle.pml_tree.specs.declared.tree.Search.TheVariants.{Matching}
use Rattle.pml_tree.specs.declared.tree.Removal.TheVariants.{Remove}
use Rattle.pml_tree.specs.declared.tree.SendOrder.TheVariants.{Fifo, Sorted}
use Rattle.pml_program.specs.declared.program.Program.{Program}
use Rattle.pml_program.specs.declared.program.Basic.{Break}
use Rattle.worked_runs.proofs.Models.{on, token_at, tokens_between, bit, byte, chan, mtype, short, int, slot, fields, turn, in_global, global, number, read, run, assign, holds, stmt, plain, block, d_step, if_fi, do_od, unless, process}
use Rattle.worked_runs.proofs.Same.{computes}
use Rattle.worked_runs.specs.Printed.{Printed, Valid, Invalid}
use Rattle.worked_runs.specs.Ends.{paths}
use Rattle.worked_runs.proofs.Same.{has_paths}
use Rattle.worked_runs.proofs.Models.{shown}
use Rattle.pml_token.specs.declared.token.Kind.TheVariants as kind
use Rattle.pml_tree.specs.declared.tree.Infix.TheVariants as op
use Rattle.pml_tree.specs.declared.tree.Prefix.TheVariants as before
use Rattle.pml_tree.specs.declared.tree.Fill.TheVariants as fill
use Rattle.pml_program.specs.declared.form.Form.TheVariants as form
use Rattle.pml_program.specs.declared.expr.Expr.TheVariants as expr
use Rattle.pml_program.specs.declared.expr.Want.TheVariants as want
use Rattle.pml_program.specs.declared.program.Initial.TheVariants as initial
use Rattle.pml_program.specs.declared.program.Action.TheVariants as action

-- bit t0 = 1;
-- short a[2];
-- chan q0 = [0] of { byte };
-- active proctype Watch() { timeout; printf("%d %d %d %d, %d left\n", t0, a[0], a[1], len(q0), _nr_pr) }
-- active proctype P0() { byte k; t0 = _nr_pr }
-- active proctype P1() { byte k; t0++; a[1] = t0 }
tokens-ends-843 : List Word
tokens-ends-843 =
    on 1 kind.Bit "bit" ∷ on 1 kind.Name "t0" ∷ on 1 kind.Assign "=" ∷ on 1 kind.Number "1" ∷ on 1 kind.Semicolon ";" ∷
    on 2 kind.Short "short" ∷ on 2 kind.Name "a" ∷ on 2 kind.OpenBracket "[" ∷ on 2 kind.Number "2" ∷ on 2 kind.CloseBracket "]" ∷
    on 2 kind.Semicolon ";" ∷ on 3 kind.Chan "chan" ∷ on 3 kind.Name "q0" ∷ on 3 kind.Assign "=" ∷ on 3 kind.OpenBracket "[" ∷
    on 3 kind.Number "0" ∷ on 3 kind.CloseBracket "]" ∷ on 3 kind.Of "of" ∷ on 3 kind.OpenBrace "{" ∷ on 3 kind.Byte "byte" ∷
    on 3 kind.CloseBrace "}" ∷ on 3 kind.Semicolon ";" ∷ on 4 kind.Active "active" ∷ on 4 kind.Proctype "proctype" ∷
    on 4 kind.Name "Watch" ∷ on 4 kind.OpenParen "(" ∷ on 4 kind.CloseParen ")" ∷ on 4 kind.OpenBrace "{" ∷
    on 4 kind.Timeout "timeout" ∷ on 4 kind.Semicolon ";" ∷ on 4 kind.Printf "printf" ∷ on 4 kind.OpenParen "(" ∷
    on 4 kind.Quoted "\"%d %d %d %d, %d left\\n\"" ∷ on 4 kind.Comma "," ∷ on 4 kind.Name "t0" ∷ on 4 kind.Comma "," ∷
    on 4 kind.Name "a" ∷ on 4 kind.OpenBracket "[" ∷ on 4 kind.Number "0" ∷ on 4 kind.CloseBracket "]" ∷ on 4 kind.Comma "," ∷
    on 4 kind.Name "a" ∷ on 4 kind.OpenBracket "[" ∷ on 4 kind.Number "1" ∷ on 4 kind.CloseBracket "]" ∷ on 4 kind.Comma "," ∷
    on 4 kind.Len "len" ∷ on 4 kind.OpenParen "(" ∷ on 4 kind.Name "q0" ∷ on 4 kind.CloseParen ")" ∷ on 4 kind.Comma "," ∷
    on 4 kind.Name "_nr_pr" ∷ on 4 kind.CloseParen ")" ∷ on 4 kind.CloseBrace "}" ∷ on 5 kind.Active "active" ∷
    on 5 kind.Proctype "proctype" ∷ on 5 kind.Name "P0" ∷ on 5 kind.OpenParen "(" ∷ on 5 kind.CloseParen ")" ∷
    on 5 kind.OpenBrace "{" ∷ on 5 kind.Byte "byte" ∷ on 5 kind.Name "k" ∷ on 5 kind.Semicolon ";" ∷ on 5 kind.Name "t0" ∷
    on 5 kind.Assign "=" ∷ on 5 kind.Name "_nr_pr" ∷ on 5 kind.CloseBrace "}" ∷ on 6 kind.Active "active" ∷
    on 6 kind.Proctype "proctype" ∷ on 6 kind.Name "P1" ∷ on 6 kind.OpenParen "(" ∷ on 6 kind.CloseParen ")" ∷
    on 6 kind.OpenBrace "{" ∷ on 6 kind.Byte "byte" ∷ on 6 kind.Name "k" ∷ on 6 kind.Semicolon ";" ∷ on 6 kind.Name "t0" ∷
    on 6 kind.Increment "++" ∷ on 6 kind.Semicolon ";" ∷ on 6 kind.Name "a" ∷ on 6 kind.OpenBracket "[" ∷ on 6 kind.Number "1" ∷
    on 6 kind.CloseBracket "]" ∷ on 6 kind.Assign "=" ∷ on 6 kind.Name "t0" ∷ on 6 kind.CloseBrace "}" ∷ []

model-ends-843 : Program
unfolding tokens-ends-843
model-ends-843 =
    let at : ℕ → Word = token_at tokens-ends-843 in
    let part : ℕ → ℕ → List Word = tokens_between tokens-ends-843 in
    record {
      globals = (slot (at 1) bit false 0 1 1 (initial.Value (number 1)) ∷ slot (at 6) short true 1 2 1 initial.Zero ∷ slot (at 12)
          chan false 3 1 1 (initial.Channel 0 (byte ∷ [])) ∷ []);
      constants = [];
      typedefs = [];
      proctypes = (
          process (at 24) 4 1 0 [] (
          plain (part 28 29) (holds expr.Timeout) ∷
          plain (part 30 53) (action.Printf (at 32) ((read (global 0 bit)) ∷ (read (in_global 1 short (turn 0 2 1 (Some (number 0)) ∷
          []))) ∷ (read (in_global 1 short (turn 0 2 1 (Some (number 1)) ∷ []))) ∷ (expr.Ask fill.Length (global 2 chan)) ∷
          expr.ProcessCount ∷ [])) ∷ []) (at 53) ∷
          process (at 56) 5 1 0 (slot (at 61) byte false 0 1 1 initial.Zero ∷ []) (
          plain (part 63 66) (assign (global 0 bit) expr.ProcessCount) ∷ []) (at 66) ∷
          process (at 69) 6 1 0 (slot (at 74) byte false 0 1 1 initial.Zero ∷ []) (
          plain (part 76 78) (action.Increment (global 0 bit)) ∷
          plain (part 79 85) (assign (in_global 1 short (turn 0 2 1 (Some (number 1)) ∷ [])) (read (global 0 bit))) ∷ []) (at 85) ∷ []);
    }

abbrev end-1-of-ends-843 : Printed
end-1-of-ends-843 = shown (codes "0 0 0 0, 1 left\n") Valid

abbrev end-2-of-ends-843 : Printed
end-2-of-ends-843 = shown (codes "1 0 1 0, 1 left\n") Valid

abbrev end-3-of-ends-843 : Printed
end-3-of-ends-843 = shown (codes "1 0 0 0, 1 left\n") Valid

paths-of-ends-843 : paths model-ends-843 8 ≡ Some (end-1-of-ends-843 ∷ end-2-of-ends-843 ∷ end-3-of-ends-843 ∷ end-1-of-ends-843 ∷ [])
unfolding computes model-ends-843
paths-of-ends-843 = has_paths model-ends-843 8 _ refl

-- byte b0 = 1;
-- chan q0 = [1] of { short, byte };
-- active proctype Watch() { timeout; printf("%d %d, %d left\n", b0, len(q0), _nr_pr) }
-- active proctype P0() { byte k; b0 = b0; d_step { b0 = 300; b0 = (-(100 / 5)) } }
-- proctype Q(byte n) { b0 = 0; (full(q0)) }
-- init { run Q(2) }
tokens-ends-844 : List Word
tokens-ends-844 =
    on 1 kind.Byte "byte" ∷ on 1 kind.Name "b0" ∷ on 1 kind.Assign "=" ∷ on 1 kind.Number "1" ∷ on 1 kind.Semicolon ";" ∷
    on 2 kind.Chan "chan" ∷ on 2 kind.Name "q0" ∷ on 2 kind.Assign "=" ∷ on 2 kind.OpenBracket "[" ∷ on 2 kind.Number "1" ∷
    on 2 kind.CloseBracket "]" ∷ on 2 kind.Of "of" ∷ on 2 kind.OpenBrace "{" ∷ on 2 kind.Short "short" ∷ on 2 kind.Comma "," ∷
    on 2 kind.Byte "byte" ∷ on 2 kind.CloseBrace "}" ∷ on 2 kind.Semicolon ";" ∷ on 3 kind.Active "active" ∷
    on 3 kind.Proctype "proctype" ∷ on 3 kind.Name "Watch" ∷ on 3 kind.OpenParen "(" ∷ on 3 kind.CloseParen ")" ∷
    on 3 kind.OpenBrace "{" ∷ on 3 kind.Timeout "timeout" ∷ on 3 kind.Semicolon ";" ∷ on 3 kind.Printf "printf" ∷
    on 3 kind.OpenParen "(" ∷ on 3 kind.Quoted "\"%d %d, %d left\\n\"" ∷ on 3 kind.Comma "," ∷ on 3 kind.Name "b0" ∷
    on 3 kind.Comma "," ∷ on 3 kind.Len "len" ∷ on 3 kind.OpenParen "(" ∷ on 3 kind.Name "q0" ∷ on 3 kind.CloseParen ")" ∷
    on 3 kind.Comma "," ∷ on 3 kind.Name "_nr_pr" ∷ on 3 kind.CloseParen ")" ∷ on 3 kind.CloseBrace "}" ∷ on 4 kind.Active "active" ∷
    on 4 kind.Proctype "proctype" ∷ on 4 kind.Name "P0" ∷ on 4 kind.OpenParen "(" ∷ on 4 kind.CloseParen ")" ∷
    on 4 kind.OpenBrace "{" ∷ on 4 kind.Byte "byte" ∷ on 4 kind.Name "k" ∷ on 4 kind.Semicolon ";" ∷ on 4 kind.Name "b0" ∷
    on 4 kind.Assign "=" ∷ on 4 kind.Name "b0" ∷ on 4 kind.Semicolon ";" ∷ on 4 kind.DStep "d_step" ∷ on 4 kind.OpenBrace "{" ∷
    on 4 kind.Name "b0" ∷ on 4 kind.Assign "=" ∷ on 4 kind.Number "300" ∷ on 4 kind.Semicolon ";" ∷ on 4 kind.Name "b0" ∷
    on 4 kind.Assign "=" ∷ on 4 kind.OpenParen "(" ∷ on 4 kind.Minus "-" ∷ on 4 kind.OpenParen "(" ∷ on 4 kind.Number "100" ∷
    on 4 kind.Slash "/" ∷ on 4 kind.Number "5" ∷ on 4 kind.CloseParen ")" ∷ on 4 kind.CloseParen ")" ∷ on 4 kind.CloseBrace "}" ∷
    on 4 kind.CloseBrace "}" ∷ on 5 kind.Proctype "proctype" ∷ on 5 kind.Name "Q" ∷ on 5 kind.OpenParen "(" ∷ on 5 kind.Byte "byte" ∷
    on 5 kind.Name "n" ∷ on 5 kind.CloseParen ")" ∷ on 5 kind.OpenBrace "{" ∷ on 5 kind.Name "b0" ∷ on 5 kind.Assign "=" ∷
    on 5 kind.Number "0" ∷ on 5 kind.Semicolon ";" ∷ on 5 kind.OpenParen "(" ∷ on 5 kind.Full "full" ∷ on 5 kind.OpenParen "(" ∷
    on 5 kind.Name "q0" ∷ on 5 kind.CloseParen ")" ∷ on 5 kind.CloseParen ")" ∷ on 5 kind.CloseBrace "}" ∷ on 6 kind.Init "init" ∷
    on 6 kind.OpenBrace "{" ∷ on 6 kind.Run "run" ∷ on 6 kind.Name "Q" ∷ on 6 kind.OpenParen "(" ∷ on 6 kind.Number "2" ∷
    on 6 kind.CloseParen ")" ∷ on 6 kind.CloseBrace "}" ∷ []

model-ends-844 : Program
unfolding tokens-ends-844
model-ends-844 =
    let at : ℕ → Word = token_at tokens-ends-844 in
    let part : ℕ → ℕ → List Word = tokens_between tokens-ends-844 in
    record {
      globals = (slot (at 1) byte false 0 1 1 (initial.Value (number 1)) ∷ slot (at 6) chan false 1 1 1 (initial.Channel 1 (short ∷
          byte ∷ [])) ∷ []);
      constants = [];
      typedefs = [];
      proctypes = (
          process (at 20) 3 1 0 [] (
          plain (part 24 25) (holds expr.Timeout) ∷
          plain (part 26 39) (action.Printf (at 28) ((read (global 0 byte)) ∷ (expr.Ask fill.Length (global 1 chan)) ∷ expr.ProcessCount
          ∷ [])) ∷ []) (at 39) ∷
          process (at 42) 4 1 0 (slot (at 47) byte false 0 1 1 initial.Zero ∷ []) (
          plain (part 49 52) (assign (global 0 byte) (read (global 0 byte))) ∷
          d_step (part 53 70) (
          plain (part 55 58) (assign (global 0 byte) (number 300)) ∷
          plain (part 59 69) (assign (global 0 byte) (expr.Unary before.Minus (expr.Binary op.Divide (number 100) (number 5)))) ∷ []) ∷
          []) (at 70) ∷
          process (at 72) 5 0 1 (slot (at 75) byte false 0 1 1 initial.Zero ∷ []) (
          plain (part 78 81) (assign (global 0 byte) (number 0)) ∷
          plain (part 82 88) (holds (expr.Ask fill.IsFull (global 1 chan))) ∷ []) (at 88) ∷
          process (at 89) 6 1 0 [] (
          plain (part 91 96) (action.Run (run 2 ((number 2) ∷ []))) ∷ []) (at 96) ∷ []);
    }

abbrev end-1-of-ends-844 : Printed
end-1-of-ends-844 = shown (codes "0 0, 4 left\n") Invalid

abbrev end-2-of-ends-844 : Printed
end-2-of-ends-844 = shown (codes "236 0, 4 left\n") Invalid

paths-of-ends-844 : paths model-ends-844 6 ≡ Some (end-1-of-ends-844 ∷ end-1-of-ends-844 ∷ end-2-of-ends-844 ∷ end-1-of-ends-844 ∷
    end-2-of-ends-844 ∷ end-2-of-ends-844 ∷ [])
unfolding computes model-ends-844
paths-of-ends-844 = has_paths model-ends-844 6 _ refl

-- mtype = { red, green, blue }; mtype m = green;
-- unsigned u0 : 3 = 0;
-- chan q0 = [2] of { short, byte };
-- active proctype Watch() { timeout; printf("%d %d, %d left\n", u0, len(q0), _nr_pr) }
-- active proctype P0() { byte k; if :: m = (m & (1 / 3)) :: (255 - 3) > m -> q0??m, eval(m) fi; u0 = 1 }
tokens-ends-856 : List Word
tokens-ends-856 =
    on 1 kind.Mtype "mtype" ∷ on 1 kind.Assign "=" ∷ on 1 kind.OpenBrace "{" ∷ on 1 kind.Name "red" ∷ on 1 kind.Comma "," ∷
    on 1 kind.Name "green" ∷ on 1 kind.Comma "," ∷ on 1 kind.Name "blue" ∷ on 1 kind.CloseBrace "}" ∷ on 1 kind.Semicolon ";" ∷
    on 1 kind.Mtype "mtype" ∷ on 1 kind.Name "m" ∷ on 1 kind.Assign "=" ∷ on 1 kind.Name "green" ∷ on 1 kind.Semicolon ";" ∷
    on 2 kind.Unsigned "unsigned" ∷ on 2 kind.Name "u0" ∷ on 2 kind.Colon ":" ∷ on 2 kind.Number "3" ∷ on 2 kind.Assign "=" ∷
    on 2 kind.Number "0" ∷ on 2 kind.Semicolon ";" ∷ on 3 kind.Chan "chan" ∷ on 3 kind.Name "q0" ∷ on 3 kind.Assign "=" ∷
    on 3 kind.OpenBracket "[" ∷ on 3 kind.Number "2" ∷ on 3 kind.CloseBracket "]" ∷ on 3 kind.Of "of" ∷ on 3 kind.OpenBrace "{" ∷
    on 3 kind.Short "short" ∷ on 3 kind.Comma "," ∷ on 3 kind.Byte "byte" ∷ on 3 kind.CloseBrace "}" ∷ on 3 kind.Semicolon ";" ∷
    on 4 kind.Active "active" ∷ on 4 kind.Proctype "proctype" ∷ on 4 kind.Name "Watch" ∷ on 4 kind.OpenParen "(" ∷
    on 4 kind.CloseParen ")" ∷ on 4 kind.OpenBrace "{" ∷ on 4 kind.Timeout "timeout" ∷ on 4 kind.Semicolon ";" ∷
    on 4 kind.Printf "printf" ∷ on 4 kind.OpenParen "(" ∷ on 4 kind.Quoted "\"%d %d, %d left\\n\"" ∷ on 4 kind.Comma "," ∷
    on 4 kind.Name "u0" ∷ on 4 kind.Comma "," ∷ on 4 kind.Len "len" ∷ on 4 kind.OpenParen "(" ∷ on 4 kind.Name "q0" ∷
    on 4 kind.CloseParen ")" ∷ on 4 kind.Comma "," ∷ on 4 kind.Name "_nr_pr" ∷ on 4 kind.CloseParen ")" ∷ on 4 kind.CloseBrace "}" ∷
    on 5 kind.Active "active" ∷ on 5 kind.Proctype "proctype" ∷ on 5 kind.Name "P0" ∷ on 5 kind.OpenParen "(" ∷
    on 5 kind.CloseParen ")" ∷ on 5 kind.OpenBrace "{" ∷ on 5 kind.Byte "byte" ∷ on 5 kind.Name "k" ∷ on 5 kind.Semicolon ";" ∷
    on 5 kind.If "if" ∷ on 5 kind.DoubleColon "::" ∷ on 5 kind.Name "m" ∷ on 5 kind.Assign "=" ∷ on 5 kind.OpenParen "(" ∷
    on 5 kind.Name "m" ∷ on 5 kind.Ampersand "&" ∷ on 5 kind.OpenParen "(" ∷ on 5 kind.Number "1" ∷ on 5 kind.Slash "/" ∷
    on 5 kind.Number "3" ∷ on 5 kind.CloseParen ")" ∷ on 5 kind.CloseParen ")" ∷ on 5 kind.DoubleColon "::" ∷
    on 5 kind.OpenParen "(" ∷ on 5 kind.Number "255" ∷ on 5 kind.Minus "-" ∷ on 5 kind.Number "3" ∷ on 5 kind.CloseParen ")" ∷
    on 5 kind.Greater ">" ∷ on 5 kind.Name "m" ∷ on 5 kind.Arrow "->" ∷ on 5 kind.Name "q0" ∷ on 5 kind.QueryQuery "??" ∷
    on 5 kind.Name "m" ∷ on 5 kind.Comma "," ∷ on 5 kind.Eval "eval" ∷ on 5 kind.OpenParen "(" ∷ on 5 kind.Name "m" ∷
    on 5 kind.CloseParen ")" ∷ on 5 kind.Fi "fi" ∷ on 5 kind.Semicolon ";" ∷ on 5 kind.Name "u0" ∷ on 5 kind.Assign "=" ∷
    on 5 kind.Number "1" ∷ on 5 kind.CloseBrace "}" ∷ []

model-ends-856 : Program
unfolding tokens-ends-856
model-ends-856 =
    let at : ℕ → Word = token_at tokens-ends-856 in
    let part : ℕ → ℕ → List Word = tokens_between tokens-ends-856 in
    record {
      globals = (slot (at 11) mtype false 0 1 1 (initial.Value (number 2)) ∷ slot (at 16) (form.Unsigned 3) false 1 1 1 (initial.Value
          (number 0)) ∷ slot (at 23) chan false 2 1 1 (initial.Channel 2 (short ∷ byte ∷ [])) ∷ []);
      constants = ((at 7) ∷ (at 5) ∷ (at 3) ∷ []);
      typedefs = [];
      proctypes = (
          process (at 37) 5 1 0 [] (
          plain (part 41 42) (holds expr.Timeout) ∷
          plain (part 43 56) (action.Printf (at 45) ((read (global 1 (form.Unsigned 3))) ∷ (expr.Ask fill.Length (global 2 chan)) ∷
          expr.ProcessCount ∷ [])) ∷ []) (at 56) ∷
          process (at 59) 6 1 0 (slot (at 64) byte false 0 1 1 initial.Zero ∷ []) (
          if_fi (part 66 97) (
          (plain (part 68 79) (assign (global 0 mtype) (expr.Binary op.BitAnd (read (global 0 mtype)) (expr.Binary op.Divide (number 1)
          (number 3)))) ∷ []) ∷
          (plain (part 80 87) (holds (expr.Binary op.Above (expr.Binary op.Minus (number 255) (number 3)) (read (global 0 mtype)))) ∷
          plain (part 88 96) (action.Receive (global 2 chan) Matching Remove (want.Into (global 0 mtype) ∷ want.Equal (read (global 0
          mtype)) ∷ [])) ∷ []) ∷ []) ∷
          plain (part 98 101) (assign (global 1 (form.Unsigned 3)) (number 1)) ∷ []) (at 101) ∷ []);
    }

abbrev end-1-of-ends-856 : Printed
end-1-of-ends-856 = shown (codes "1 0, 1 left\n") Valid

abbrev end-2-of-ends-856 : Printed
end-2-of-ends-856 = shown (codes "0 0, 2 left\n") Invalid

paths-of-ends-856 : paths model-ends-856 6 ≡ Some (end-1-of-ends-856 ∷ end-2-of-ends-856 ∷ [])
unfolding computes model-ends-856
paths-of-ends-856 = has_paths model-ends-856 6 _ refl

-- bit t0 = 0;
-- unsigned u1 : 3 = 1;
-- short a[2];
-- chan q0 = [0] of { byte };
-- active proctype Watch() { timeout; printf("%d %d %d %d %d, %d left\n", t0, u1, a[0], a[1], len(q0), _nr_pr) }
-- active proctype P0() { byte k; do :: u1 = (~t0); q0!0 :: break od }
tokens-ends-875 : List Word
tokens-ends-875 =
    on 1 kind.Bit "bit" ∷ on 1 kind.Name "t0" ∷ on 1 kind.Assign "=" ∷ on 1 kind.Number "0" ∷ on 1 kind.Semicolon ";" ∷
    on 2 kind.Unsigned "unsigned" ∷ on 2 kind.Name "u1" ∷ on 2 kind.Colon ":" ∷ on 2 kind.Number "3" ∷ on 2 kind.Assign "=" ∷
    on 2 kind.Number "1" ∷ on 2 kind.Semicolon ";" ∷ on 3 kind.Short "short" ∷ on 3 kind.Name "a" ∷ on 3 kind.OpenBracket "[" ∷
    on 3 kind.Number "2" ∷ on 3 kind.CloseBracket "]" ∷ on 3 kind.Semicolon ";" ∷ on 4 kind.Chan "chan" ∷ on 4 kind.Name "q0" ∷
    on 4 kind.Assign "=" ∷ on 4 kind.OpenBracket "[" ∷ on 4 kind.Number "0" ∷ on 4 kind.CloseBracket "]" ∷ on 4 kind.Of "of" ∷
    on 4 kind.OpenBrace "{" ∷ on 4 kind.Byte "byte" ∷ on 4 kind.CloseBrace "}" ∷ on 4 kind.Semicolon ";" ∷
    on 5 kind.Active "active" ∷ on 5 kind.Proctype "proctype" ∷ on 5 kind.Name "Watch" ∷ on 5 kind.OpenParen "(" ∷
    on 5 kind.CloseParen ")" ∷ on 5 kind.OpenBrace "{" ∷ on 5 kind.Timeout "timeout" ∷ on 5 kind.Semicolon ";" ∷
    on 5 kind.Printf "printf" ∷ on 5 kind.OpenParen "(" ∷ on 5 kind.Quoted "\"%d %d %d %d %d, %d left\\n\"" ∷ on 5 kind.Comma "," ∷
    on 5 kind.Name "t0" ∷ on 5 kind.Comma "," ∷ on 5 kind.Name "u1" ∷ on 5 kind.Comma "," ∷ on 5 kind.Name "a" ∷
    on 5 kind.OpenBracket "[" ∷ on 5 kind.Number "0" ∷ on 5 kind.CloseBracket "]" ∷ on 5 kind.Comma "," ∷ on 5 kind.Name "a" ∷
    on 5 kind.OpenBracket "[" ∷ on 5 kind.Number "1" ∷ on 5 kind.CloseBracket "]" ∷ on 5 kind.Comma "," ∷ on 5 kind.Len "len" ∷
    on 5 kind.OpenParen "(" ∷ on 5 kind.Name "q0" ∷ on 5 kind.CloseParen ")" ∷ on 5 kind.Comma "," ∷ on 5 kind.Name "_nr_pr" ∷
    on 5 kind.CloseParen ")" ∷ on 5 kind.CloseBrace "}" ∷ on 6 kind.Active "active" ∷ on 6 kind.Proctype "proctype" ∷
    on 6 kind.Name "P0" ∷ on 6 kind.OpenParen "(" ∷ on 6 kind.CloseParen ")" ∷ on 6 kind.OpenBrace "{" ∷ on 6 kind.Byte "byte" ∷
    on 6 kind.Name "k" ∷ on 6 kind.Semicolon ";" ∷ on 6 kind.Do "do" ∷ on 6 kind.DoubleColon "::" ∷ on 6 kind.Name "u1" ∷
    on 6 kind.Assign "=" ∷ on 6 kind.OpenParen "(" ∷ on 6 kind.Tilde "~" ∷ on 6 kind.Name "t0" ∷ on 6 kind.CloseParen ")" ∷
    on 6 kind.Semicolon ";" ∷ on 6 kind.Name "q0" ∷ on 6 kind.Bang "!" ∷ on 6 kind.Number "0" ∷ on 6 kind.DoubleColon "::" ∷
    on 6 kind.Break "break" ∷ on 6 kind.Od "od" ∷ on 6 kind.CloseBrace "}" ∷ []

model-ends-875 : Program
unfolding tokens-ends-875
model-ends-875 =
    let at : ℕ → Word = token_at tokens-ends-875 in
    let part : ℕ → ℕ → List Word = tokens_between tokens-ends-875 in
    record {
      globals = (slot (at 1) bit false 0 1 1 (initial.Value (number 0)) ∷ slot (at 6) (form.Unsigned 3) false 1 1 1 (initial.Value
          (number 1)) ∷ slot (at 13) short true 2 2 1 initial.Zero ∷ slot (at 19) chan false 4 1 1 (initial.Channel 0 (byte ∷ [])) ∷
          []);
      constants = [];
      typedefs = [];
      proctypes = (
          process (at 31) 5 1 0 [] (
          plain (part 35 36) (holds expr.Timeout) ∷
          plain (part 37 62) (action.Printf (at 39) ((read (global 0 bit)) ∷ (read (global 1 (form.Unsigned 3))) ∷ (read (in_global 2
          short (turn 0 2 1 (Some (number 0)) ∷ []))) ∷ (read (in_global 2 short (turn 0 2 1 (Some (number 1)) ∷ []))) ∷ (expr.Ask
          fill.Length (global 3 chan)) ∷ expr.ProcessCount ∷ [])) ∷ []) (at 62) ∷
          process (at 65) 6 1 0 (slot (at 70) byte false 0 1 1 initial.Zero ∷ []) (
          do_od (part 72 87) (
          (plain (part 74 80) (assign (global 1 (form.Unsigned 3)) (expr.Unary before.Complement (read (global 0 bit)))) ∷
          plain (part 81 84) (action.Send (global 3 chan) Fifo ((number 0) ∷ [])) ∷ []) ∷
          (stmt [] Break (part 85 86) ∷ []) ∷ []) ∷ []) (at 87) ∷ []);
    }

abbrev end-1-of-ends-875 : Printed
end-1-of-ends-875 = shown (codes "0 7 0 0 0, 2 left\n") Invalid

abbrev end-2-of-ends-875 : Printed
end-2-of-ends-875 = shown (codes "0 1 0 0 0, 1 left\n") Valid

paths-of-ends-875 : paths model-ends-875 5 ≡ Some (end-1-of-ends-875 ∷ end-2-of-ends-875 ∷ [])
unfolding computes model-ends-875
paths-of-ends-875 = has_paths model-ends-875 5 _ refl

-- unsigned u0 : 3 = 0;
-- int a[2];
-- typedef T { byte f; short g[2] }; T r;
-- chan q0 = [0] of { byte };
-- active proctype Watch() { timeout; printf("%d %d %d %d %d %d, %d left\n", u0, r.f, r.g[1], a[0], a[1], len(q0), _nr_pr) }
-- active proctype P0() { byte k; if :: ((a[0] == 100 && 300 != 1)) :: else -> r.g[1]-- fi; q0!!(-2) }
-- active proctype P1() { byte k; d_step { r.g[1] = (r.f > u0 -> 3 : 3); r.f = a[0] }; q0??0 }
tokens-ends-889 : List Word
tokens-ends-889 =
    on 1 kind.Unsigned "unsigned" ∷ on 1 kind.Name "u0" ∷ on 1 kind.Colon ":" ∷ on 1 kind.Number "3" ∷ on 1 kind.Assign "=" ∷
    on 1 kind.Number "0" ∷ on 1 kind.Semicolon ";" ∷ on 2 kind.Int "int" ∷ on 2 kind.Name "a" ∷ on 2 kind.OpenBracket "[" ∷
    on 2 kind.Number "2" ∷ on 2 kind.CloseBracket "]" ∷ on 2 kind.Semicolon ";" ∷ on 3 kind.Typedef "typedef" ∷ on 3 kind.Name "T" ∷
    on 3 kind.OpenBrace "{" ∷ on 3 kind.Byte "byte" ∷ on 3 kind.Name "f" ∷ on 3 kind.Semicolon ";" ∷ on 3 kind.Short "short" ∷
    on 3 kind.Name "g" ∷ on 3 kind.OpenBracket "[" ∷ on 3 kind.Number "2" ∷ on 3 kind.CloseBracket "]" ∷ on 3 kind.CloseBrace "}" ∷
    on 3 kind.Semicolon ";" ∷ on 3 kind.Name "T" ∷ on 3 kind.Name "r" ∷ on 3 kind.Semicolon ";" ∷ on 4 kind.Chan "chan" ∷
    on 4 kind.Name "q0" ∷ on 4 kind.Assign "=" ∷ on 4 kind.OpenBracket "[" ∷ on 4 kind.Number "0" ∷ on 4 kind.CloseBracket "]" ∷
    on 4 kind.Of "of" ∷ on 4 kind.OpenBrace "{" ∷ on 4 kind.Byte "byte" ∷ on 4 kind.CloseBrace "}" ∷ on 4 kind.Semicolon ";" ∷
    on 5 kind.Active "active" ∷ on 5 kind.Proctype "proctype" ∷ on 5 kind.Name "Watch" ∷ on 5 kind.OpenParen "(" ∷
    on 5 kind.CloseParen ")" ∷ on 5 kind.OpenBrace "{" ∷ on 5 kind.Timeout "timeout" ∷ on 5 kind.Semicolon ";" ∷
    on 5 kind.Printf "printf" ∷ on 5 kind.OpenParen "(" ∷ on 5 kind.Quoted "\"%d %d %d %d %d %d, %d left\\n\"" ∷
    on 5 kind.Comma "," ∷ on 5 kind.Name "u0" ∷ on 5 kind.Comma "," ∷ on 5 kind.Name "r" ∷ on 5 kind.Dot "." ∷ on 5 kind.Name "f" ∷
    on 5 kind.Comma "," ∷ on 5 kind.Name "r" ∷ on 5 kind.Dot "." ∷ on 5 kind.Name "g" ∷ on 5 kind.OpenBracket "[" ∷
    on 5 kind.Number "1" ∷ on 5 kind.CloseBracket "]" ∷ on 5 kind.Comma "," ∷ on 5 kind.Name "a" ∷ on 5 kind.OpenBracket "[" ∷
    on 5 kind.Number "0" ∷ on 5 kind.CloseBracket "]" ∷ on 5 kind.Comma "," ∷ on 5 kind.Name "a" ∷ on 5 kind.OpenBracket "[" ∷
    on 5 kind.Number "1" ∷ on 5 kind.CloseBracket "]" ∷ on 5 kind.Comma "," ∷ on 5 kind.Len "len" ∷ on 5 kind.OpenParen "(" ∷
    on 5 kind.Name "q0" ∷ on 5 kind.CloseParen ")" ∷ on 5 kind.Comma "," ∷ on 5 kind.Name "_nr_pr" ∷ on 5 kind.CloseParen ")" ∷
    on 5 kind.CloseBrace "}" ∷ on 6 kind.Active "active" ∷ on 6 kind.Proctype "proctype" ∷ on 6 kind.Name "P0" ∷
    on 6 kind.OpenParen "(" ∷ on 6 kind.CloseParen ")" ∷ on 6 kind.OpenBrace "{" ∷ on 6 kind.Byte "byte" ∷ on 6 kind.Name "k" ∷
    on 6 kind.Semicolon ";" ∷ on 6 kind.If "if" ∷ on 6 kind.DoubleColon "::" ∷ on 6 kind.OpenParen "(" ∷ on 6 kind.OpenParen "(" ∷
    on 6 kind.Name "a" ∷ on 6 kind.OpenBracket "[" ∷ on 6 kind.Number "0" ∷ on 6 kind.CloseBracket "]" ∷ on 6 kind.Equal "==" ∷
    on 6 kind.Number "100" ∷ on 6 kind.AndAnd "&&" ∷ on 6 kind.Number "300" ∷ on 6 kind.Unequal "!=" ∷ on 6 kind.Number "1" ∷
    on 6 kind.CloseParen ")" ∷ on 6 kind.CloseParen ")" ∷ on 6 kind.DoubleColon "::" ∷ on 6 kind.Else "else" ∷ on 6 kind.Arrow "->" ∷
    on 6 kind.Name "r" ∷ on 6 kind.Dot "." ∷ on 6 kind.Name "g" ∷ on 6 kind.OpenBracket "[" ∷ on 6 kind.Number "1" ∷
    on 6 kind.CloseBracket "]" ∷ on 6 kind.Decrement "--" ∷ on 6 kind.Fi "fi" ∷ on 6 kind.Semicolon ";" ∷ on 6 kind.Name "q0" ∷
    on 6 kind.BangBang "!!" ∷ on 6 kind.OpenParen "(" ∷ on 6 kind.Minus "-" ∷ on 6 kind.Number "2" ∷ on 6 kind.CloseParen ")" ∷
    on 6 kind.CloseBrace "}" ∷ on 7 kind.Active "active" ∷ on 7 kind.Proctype "proctype" ∷ on 7 kind.Name "P1" ∷
    on 7 kind.OpenParen "(" ∷ on 7 kind.CloseParen ")" ∷ on 7 kind.OpenBrace "{" ∷ on 7 kind.Byte "byte" ∷ on 7 kind.Name "k" ∷
    on 7 kind.Semicolon ";" ∷ on 7 kind.DStep "d_step" ∷ on 7 kind.OpenBrace "{" ∷ on 7 kind.Name "r" ∷ on 7 kind.Dot "." ∷
    on 7 kind.Name "g" ∷ on 7 kind.OpenBracket "[" ∷ on 7 kind.Number "1" ∷ on 7 kind.CloseBracket "]" ∷ on 7 kind.Assign "=" ∷
    on 7 kind.OpenParen "(" ∷ on 7 kind.Name "r" ∷ on 7 kind.Dot "." ∷ on 7 kind.Name "f" ∷ on 7 kind.Greater ">" ∷
    on 7 kind.Name "u0" ∷ on 7 kind.Arrow "->" ∷ on 7 kind.Number "3" ∷ on 7 kind.Colon ":" ∷ on 7 kind.Number "3" ∷
    on 7 kind.CloseParen ")" ∷ on 7 kind.Semicolon ";" ∷ on 7 kind.Name "r" ∷ on 7 kind.Dot "." ∷ on 7 kind.Name "f" ∷
    on 7 kind.Assign "=" ∷ on 7 kind.Name "a" ∷ on 7 kind.OpenBracket "[" ∷ on 7 kind.Number "0" ∷ on 7 kind.CloseBracket "]" ∷
    on 7 kind.CloseBrace "}" ∷ on 7 kind.Semicolon ";" ∷ on 7 kind.Name "q0" ∷ on 7 kind.QueryQuery "??" ∷ on 7 kind.Number "0" ∷
    on 7 kind.CloseBrace "}" ∷ []

model-ends-889 : Program
unfolding tokens-ends-889
model-ends-889 =
    let at : ℕ → Word = token_at tokens-ends-889 in
    let part : ℕ → ℕ → List Word = tokens_between tokens-ends-889 in
    record {
      globals = (slot (at 1) (form.Unsigned 3) false 0 1 1 (initial.Value (number 0)) ∷ slot (at 8) int true 1 2 1 initial.Zero ∷ slot
          (at 27) (form.Struct 3) false 3 1 3 initial.Zero ∷ slot (at 30) chan false 6 1 1 (initial.Channel 0 (byte ∷ [])) ∷ []);
      constants = [];
      typedefs = (fields 3 (slot (at 17) byte false 0 1 1 initial.Zero ∷ slot (at 20) short true 1 2 1 initial.Zero ∷ []) ∷ []);
      proctypes = (
          process (at 42) 6 1 0 [] (
          plain (part 46 47) (holds expr.Timeout) ∷
          plain (part 48 82) (action.Printf (at 50) ((read (global 0 (form.Unsigned 3))) ∷ (read (in_global 2 byte (turn 0 1 3 None ∷
          turn 0 1 1 None ∷ []))) ∷ (read (in_global 2 short (turn 0 1 3 None ∷ turn 1 2 1 (Some (number 1)) ∷ []))) ∷ (read
          (in_global 1 int (turn 0 2 1 (Some (number 0)) ∷ []))) ∷ (read (in_global 1 int (turn 0 2 1 (Some (number 1)) ∷ []))) ∷
          (expr.Ask fill.Length (global 3 chan)) ∷ expr.ProcessCount ∷ [])) ∷ []) (at 82) ∷
          process (at 85) 7 1 0 (slot (at 90) byte false 0 1 1 initial.Zero ∷ []) (
          if_fi (part 92 119) (
          (plain (part 94 108) (holds (expr.Binary op.And (expr.Binary op.Equal (read (in_global 1 int (turn 0 2 1 (Some (number 0)) ∷
          []))) (number 100)) (expr.Binary op.Unequal (number 300) (number 1)))) ∷ []) ∷
          (plain (part 109 110) action.Else ∷
          plain (part 111 118) (action.Decrement (in_global 2 short (turn 0 1 3 None ∷ turn 1 2 1 (Some (number 1)) ∷ []))) ∷ []) ∷ []) ∷
          plain (part 120 126) (action.Send (global 3 chan) Sorted ((expr.Unary before.Minus (number 2)) ∷ [])) ∷ []) (at 126) ∷
          process (at 129) 8 1 0 (slot (at 134) byte false 0 1 1 initial.Zero ∷ []) (
          d_step (part 136 166) (
          plain (part 138 156) (assign (in_global 2 short (turn 0 1 3 None ∷ turn 1 2 1 (Some (number 1)) ∷ [])) (expr.Choice
          (expr.Binary op.Above (read (in_global 2 byte (turn 0 1 3 None ∷ turn 0 1 1 None ∷ []))) (read (global 0 (form.Unsigned
          3)))) (number 3) (number 3))) ∷
          plain (part 157 165) (assign (in_global 2 byte (turn 0 1 3 None ∷ turn 0 1 1 None ∷ [])) (read (in_global 1 int (turn 0 2 1
          (Some (number 0)) ∷ [])))) ∷ []) ∷
          plain (part 167 170) (action.Receive (global 3 chan) Matching Remove (want.Exactly (pos 0) ∷ [])) ∷ []) (at 170) ∷ []);
    }

abbrev end-1-of-ends-889 : Printed
end-1-of-ends-889 = shown (codes "0 0 3 0 0 0, 3 left\n") Invalid

abbrev end-2-of-ends-889 : Printed
end-2-of-ends-889 = shown (codes "0 0 2 0 0 0, 3 left\n") Invalid

paths-of-ends-889 : paths model-ends-889 5 ≡ Some (end-1-of-ends-889 ∷ end-2-of-ends-889 ∷ end-2-of-ends-889 ∷ [])
unfolding computes model-ends-889
paths-of-ends-889 = has_paths model-ends-889 5 _ refl

-- bit t0 = 0;
-- active proctype Watch() { timeout; printf("%d, %d left\n", t0, _nr_pr) }
-- active proctype P0() { byte k; d_step { t0 = t0; t0 = (300 / 1) }; ((7 * 2) == t0) }
-- active proctype P1() { byte k; { ((!300) <= (3 + 2)) } unless { (t0 < t0) -> t0 = t0 }; t0++ }
tokens-ends-895 : List Word
tokens-ends-895 =
    on 1 kind.Bit "bit" ∷ on 1 kind.Name "t0" ∷ on 1 kind.Assign "=" ∷ on 1 kind.Number "0" ∷ on 1 kind.Semicolon ";" ∷
    on 2 kind.Active "active" ∷ on 2 kind.Proctype "proctype" ∷ on 2 kind.Name "Watch" ∷ on 2 kind.OpenParen "(" ∷
    on 2 kind.CloseParen ")" ∷ on 2 kind.OpenBrace "{" ∷ on 2 kind.Timeout "timeout" ∷ on 2 kind.Semicolon ";" ∷
    on 2 kind.Printf "printf" ∷ on 2 kind.OpenParen "(" ∷ on 2 kind.Quoted "\"%d, %d left\\n\"" ∷ on 2 kind.Comma "," ∷
    on 2 kind.Name "t0" ∷ on 2 kind.Comma "," ∷ on 2 kind.Name "_nr_pr" ∷ on 2 kind.CloseParen ")" ∷ on 2 kind.CloseBrace "}" ∷
    on 3 kind.Active "active" ∷ on 3 kind.Proctype "proctype" ∷ on 3 kind.Name "P0" ∷ on 3 kind.OpenParen "(" ∷
    on 3 kind.CloseParen ")" ∷ on 3 kind.OpenBrace "{" ∷ on 3 kind.Byte "byte" ∷ on 3 kind.Name "k" ∷ on 3 kind.Semicolon ";" ∷
    on 3 kind.DStep "d_step" ∷ on 3 kind.OpenBrace "{" ∷ on 3 kind.Name "t0" ∷ on 3 kind.Assign "=" ∷ on 3 kind.Name "t0" ∷
    on 3 kind.Semicolon ";" ∷ on 3 kind.Name "t0" ∷ on 3 kind.Assign "=" ∷ on 3 kind.OpenParen "(" ∷ on 3 kind.Number "300" ∷
    on 3 kind.Slash "/" ∷ on 3 kind.Number "1" ∷ on 3 kind.CloseParen ")" ∷ on 3 kind.CloseBrace "}" ∷ on 3 kind.Semicolon ";" ∷
    on 3 kind.OpenParen "(" ∷ on 3 kind.OpenParen "(" ∷ on 3 kind.Number "7" ∷ on 3 kind.Star "*" ∷ on 3 kind.Number "2" ∷
    on 3 kind.CloseParen ")" ∷ on 3 kind.Equal "==" ∷ on 3 kind.Name "t0" ∷ on 3 kind.CloseParen ")" ∷ on 3 kind.CloseBrace "}" ∷
    on 4 kind.Active "active" ∷ on 4 kind.Proctype "proctype" ∷ on 4 kind.Name "P1" ∷ on 4 kind.OpenParen "(" ∷
    on 4 kind.CloseParen ")" ∷ on 4 kind.OpenBrace "{" ∷ on 4 kind.Byte "byte" ∷ on 4 kind.Name "k" ∷ on 4 kind.Semicolon ";" ∷
    on 4 kind.OpenBrace "{" ∷ on 4 kind.OpenParen "(" ∷ on 4 kind.OpenParen "(" ∷ on 4 kind.Bang "!" ∷ on 4 kind.Number "300" ∷
    on 4 kind.CloseParen ")" ∷ on 4 kind.AtMost "<=" ∷ on 4 kind.OpenParen "(" ∷ on 4 kind.Number "3" ∷ on 4 kind.Plus "+" ∷
    on 4 kind.Number "2" ∷ on 4 kind.CloseParen ")" ∷ on 4 kind.CloseParen ")" ∷ on 4 kind.CloseBrace "}" ∷
    on 4 kind.Unless "unless" ∷ on 4 kind.OpenBrace "{" ∷ on 4 kind.OpenParen "(" ∷ on 4 kind.Name "t0" ∷ on 4 kind.Less "<" ∷
    on 4 kind.Name "t0" ∷ on 4 kind.CloseParen ")" ∷ on 4 kind.Arrow "->" ∷ on 4 kind.Name "t0" ∷ on 4 kind.Assign "=" ∷
    on 4 kind.Name "t0" ∷ on 4 kind.CloseBrace "}" ∷ on 4 kind.Semicolon ";" ∷ on 4 kind.Name "t0" ∷ on 4 kind.Increment "++" ∷
    on 4 kind.CloseBrace "}" ∷ []

model-ends-895 : Program
unfolding tokens-ends-895
model-ends-895 =
    let at : ℕ → Word = token_at tokens-ends-895 in
    let part : ℕ → ℕ → List Word = tokens_between tokens-ends-895 in
    record {
      globals = (slot (at 1) bit false 0 1 1 (initial.Value (number 0)) ∷ []);
      constants = [];
      typedefs = [];
      proctypes = (
          process (at 7) 2 1 0 [] (
          plain (part 11 12) (holds expr.Timeout) ∷
          plain (part 13 21) (action.Printf (at 15) ((read (global 0 bit)) ∷ expr.ProcessCount ∷ [])) ∷ []) (at 21) ∷
          process (at 24) 3 1 0 (slot (at 29) byte false 0 1 1 initial.Zero ∷ []) (
          d_step (part 31 45) (
          plain (part 33 36) (assign (global 0 bit) (read (global 0 bit))) ∷
          plain (part 37 44) (assign (global 0 bit) (expr.Binary op.Divide (number 300) (number 1))) ∷ []) ∷
          plain (part 46 55) (holds (expr.Binary op.Equal (expr.Binary op.Times (number 7) (number 2)) (read (global 0 bit)))) ∷ []) (at 55) ∷
          process (at 58) 4 1 0 (slot (at 63) byte false 0 1 1 initial.Zero ∷ []) (
          unless (part 65 91) (
          block (part 65 79) (
          plain (part 66 78) (holds (expr.Binary op.AtMost (expr.Unary before.Not (number 300)) (expr.Binary op.Plus (number 3) (number
          2)))) ∷ []) ∷ []) (
          block (part 80 91) (
          plain (part 81 86) (holds (expr.Binary op.Below (read (global 0 bit)) (read (global 0 bit)))) ∷
          plain (part 87 90) (assign (global 0 bit) (read (global 0 bit))) ∷ []) ∷ []) ∷
          plain (part 92 94) (action.Increment (global 0 bit)) ∷ []) (at 94) ∷ []);
    }

abbrev end-1-of-ends-895 : Printed
end-1-of-ends-895 = shown (codes "1, 2 left\n") Invalid

abbrev end-2-of-ends-895 : Printed
end-2-of-ends-895 = shown (codes "0, 2 left\n") Invalid

paths-of-ends-895 : paths model-ends-895 6 ≡ Some (end-1-of-ends-895 ∷ end-1-of-ends-895 ∷ end-2-of-ends-895 ∷ end-2-of-ends-895 ∷ [])
unfolding computes model-ends-895
paths-of-ends-895 = has_paths model-ends-895 6 _ refl

-- mtype = { red, green, blue }; mtype m = green;
-- unsigned u0 : 3 = 0;
-- typedef T { byte f; short g[2] }; T r;
-- active proctype Watch() { timeout; printf("%d %d %d, %d left\n", u0, r.f, r.g[1], _nr_pr) }
-- active proctype P0() { byte k; r.g[1] = _nr_pr; if :: ((300 - 255) == u0); r.g[1] = (255 >= _pid -> r.g[1] : (255 << 3)) fi }
-- active proctype P1() { byte k; r.f-- }
tokens-ends-914 : List Word
tokens-ends-914 =
    on 1 kind.Mtype "mtype" ∷ on 1 kind.Assign "=" ∷ on 1 kind.OpenBrace "{" ∷ on 1 kind.Name "red" ∷ on 1 kind.Comma "," ∷
    on 1 kind.Name "green" ∷ on 1 kind.Comma "," ∷ on 1 kind.Name "blue" ∷ on 1 kind.CloseBrace "}" ∷ on 1 kind.Semicolon ";" ∷
    on 1 kind.Mtype "mtype" ∷ on 1 kind.Name "m" ∷ on 1 kind.Assign "=" ∷ on 1 kind.Name "green" ∷ on 1 kind.Semicolon ";" ∷
    on 2 kind.Unsigned "unsigned" ∷ on 2 kind.Name "u0" ∷ on 2 kind.Colon ":" ∷ on 2 kind.Number "3" ∷ on 2 kind.Assign "=" ∷
    on 2 kind.Number "0" ∷ on 2 kind.Semicolon ";" ∷ on 3 kind.Typedef "typedef" ∷ on 3 kind.Name "T" ∷ on 3 kind.OpenBrace "{" ∷
    on 3 kind.Byte "byte" ∷ on 3 kind.Name "f" ∷ on 3 kind.Semicolon ";" ∷ on 3 kind.Short "short" ∷ on 3 kind.Name "g" ∷
    on 3 kind.OpenBracket "[" ∷ on 3 kind.Number "2" ∷ on 3 kind.CloseBracket "]" ∷ on 3 kind.CloseBrace "}" ∷
    on 3 kind.Semicolon ";" ∷ on 3 kind.Name "T" ∷ on 3 kind.Name "r" ∷ on 3 kind.Semicolon ";" ∷ on 4 kind.Active "active" ∷
    on 4 kind.Proctype "proctype" ∷ on 4 kind.Name "Watch" ∷ on 4 kind.OpenParen "(" ∷ on 4 kind.CloseParen ")" ∷
    on 4 kind.OpenBrace "{" ∷ on 4 kind.Timeout "timeout" ∷ on 4 kind.Semicolon ";" ∷ on 4 kind.Printf "printf" ∷
    on 4 kind.OpenParen "(" ∷ on 4 kind.Quoted "\"%d %d %d, %d left\\n\"" ∷ on 4 kind.Comma "," ∷ on 4 kind.Name "u0" ∷
    on 4 kind.Comma "," ∷ on 4 kind.Name "r" ∷ on 4 kind.Dot "." ∷ on 4 kind.Name "f" ∷ on 4 kind.Comma "," ∷ on 4 kind.Name "r" ∷
    on 4 kind.Dot "." ∷ on 4 kind.Name "g" ∷ on 4 kind.OpenBracket "[" ∷ on 4 kind.Number "1" ∷ on 4 kind.CloseBracket "]" ∷
    on 4 kind.Comma "," ∷ on 4 kind.Name "_nr_pr" ∷ on 4 kind.CloseParen ")" ∷ on 4 kind.CloseBrace "}" ∷ on 5 kind.Active "active" ∷
    on 5 kind.Proctype "proctype" ∷ on 5 kind.Name "P0" ∷ on 5 kind.OpenParen "(" ∷ on 5 kind.CloseParen ")" ∷
    on 5 kind.OpenBrace "{" ∷ on 5 kind.Byte "byte" ∷ on 5 kind.Name "k" ∷ on 5 kind.Semicolon ";" ∷ on 5 kind.Name "r" ∷
    on 5 kind.Dot "." ∷ on 5 kind.Name "g" ∷ on 5 kind.OpenBracket "[" ∷ on 5 kind.Number "1" ∷ on 5 kind.CloseBracket "]" ∷
    on 5 kind.Assign "=" ∷ on 5 kind.Name "_nr_pr" ∷ on 5 kind.Semicolon ";" ∷ on 5 kind.If "if" ∷ on 5 kind.DoubleColon "::" ∷
    on 5 kind.OpenParen "(" ∷ on 5 kind.OpenParen "(" ∷ on 5 kind.Number "300" ∷ on 5 kind.Minus "-" ∷ on 5 kind.Number "255" ∷
    on 5 kind.CloseParen ")" ∷ on 5 kind.Equal "==" ∷ on 5 kind.Name "u0" ∷ on 5 kind.CloseParen ")" ∷ on 5 kind.Semicolon ";" ∷
    on 5 kind.Name "r" ∷ on 5 kind.Dot "." ∷ on 5 kind.Name "g" ∷ on 5 kind.OpenBracket "[" ∷ on 5 kind.Number "1" ∷
    on 5 kind.CloseBracket "]" ∷ on 5 kind.Assign "=" ∷ on 5 kind.OpenParen "(" ∷ on 5 kind.Number "255" ∷ on 5 kind.AtLeast ">=" ∷
    on 5 kind.Name "_pid" ∷ on 5 kind.Arrow "->" ∷ on 5 kind.Name "r" ∷ on 5 kind.Dot "." ∷ on 5 kind.Name "g" ∷
    on 5 kind.OpenBracket "[" ∷ on 5 kind.Number "1" ∷ on 5 kind.CloseBracket "]" ∷ on 5 kind.Colon ":" ∷ on 5 kind.OpenParen "(" ∷
    on 5 kind.Number "255" ∷ on 5 kind.ShiftLeft "<<" ∷ on 5 kind.Number "3" ∷ on 5 kind.CloseParen ")" ∷ on 5 kind.CloseParen ")" ∷
    on 5 kind.Fi "fi" ∷ on 5 kind.CloseBrace "}" ∷ on 6 kind.Active "active" ∷ on 6 kind.Proctype "proctype" ∷ on 6 kind.Name "P1" ∷
    on 6 kind.OpenParen "(" ∷ on 6 kind.CloseParen ")" ∷ on 6 kind.OpenBrace "{" ∷ on 6 kind.Byte "byte" ∷ on 6 kind.Name "k" ∷
    on 6 kind.Semicolon ";" ∷ on 6 kind.Name "r" ∷ on 6 kind.Dot "." ∷ on 6 kind.Name "f" ∷ on 6 kind.Decrement "--" ∷
    on 6 kind.CloseBrace "}" ∷ []

model-ends-914 : Program
unfolding tokens-ends-914
model-ends-914 =
    let at : ℕ → Word = token_at tokens-ends-914 in
    let part : ℕ → ℕ → List Word = tokens_between tokens-ends-914 in
    record {
      globals = (slot (at 11) mtype false 0 1 1 (initial.Value (number 2)) ∷ slot (at 16) (form.Unsigned 3) false 1 1 1 (initial.Value
          (number 0)) ∷ slot (at 36) (form.Struct 4) false 2 1 3 initial.Zero ∷ []);
      constants = ((at 7) ∷ (at 5) ∷ (at 3) ∷ []);
      typedefs = (fields 4 (slot (at 26) byte false 0 1 1 initial.Zero ∷ slot (at 29) short true 1 2 1 initial.Zero ∷ []) ∷ []);
      proctypes = (
          process (at 40) 6 1 0 [] (
          plain (part 44 45) (holds expr.Timeout) ∷
          plain (part 46 65) (action.Printf (at 48) ((read (global 1 (form.Unsigned 3))) ∷ (read (in_global 2 byte (turn 0 1 3 None ∷
          turn 0 1 1 None ∷ []))) ∷ (read (in_global 2 short (turn 0 1 3 None ∷ turn 1 2 1 (Some (number 1)) ∷ []))) ∷
          expr.ProcessCount ∷ [])) ∷ []) (at 65) ∷
          process (at 68) 7 1 0 (slot (at 73) byte false 0 1 1 initial.Zero ∷ []) (
          plain (part 75 83) (assign (in_global 2 short (turn 0 1 3 None ∷ turn 1 2 1 (Some (number 1)) ∷ [])) expr.ProcessCount) ∷
          if_fi (part 84 122) (
          (plain (part 86 95) (holds (expr.Binary op.Equal (expr.Binary op.Minus (number 300) (number 255)) (read (global 1
          (form.Unsigned 3))))) ∷
          plain (part 96 121) (assign (in_global 2 short (turn 0 1 3 None ∷ turn 1 2 1 (Some (number 1)) ∷ [])) (expr.Choice
          (expr.Binary op.AtLeast (number 255) expr.Pid) (read (in_global 2 short (turn 0 1 3 None ∷ turn 1 2 1 (Some (number 1)) ∷
          []))) (expr.Binary op.ShiftLeft (number 255) (number 3)))) ∷ []) ∷ []) ∷ []) (at 122) ∷
          process (at 125) 8 1 0 (slot (at 130) byte false 0 1 1 initial.Zero ∷ []) (
          plain (part 132 136) (action.Decrement (in_global 2 byte (turn 0 1 3 None ∷ turn 0 1 1 None ∷ []))) ∷ []) (at 136) ∷ []);
    }

abbrev end-1-of-ends-914 : Printed
end-1-of-ends-914 = shown (codes "0 255 3, 2 left\n") Invalid

abbrev end-2-of-ends-914 : Printed
end-2-of-ends-914 = shown (codes "0 255 2, 2 left\n") Invalid

paths-of-ends-914 : paths model-ends-914 5 ≡ Some (end-1-of-ends-914 ∷ end-1-of-ends-914 ∷ end-2-of-ends-914 ∷ [])
unfolding computes model-ends-914
paths-of-ends-914 = has_paths model-ends-914 5 _ refl

-- mtype = { red, green, blue }; mtype m = green;
-- bit t0 = 0;
-- int i1 = 1;
-- typedef T { byte f; short g[2] }; T r;
-- chan q0 = [2] of { short, byte };
-- active proctype Watch() { timeout; printf("%d %d %d %d %d, %d left\n", t0, i1, r.f, r.g[1], len(q0), _nr_pr) }
-- active proctype P0() { byte k; if :: nfull(q0) -> r.g[1] = 100 :: nfull(q0) -> t0 = (2 | r.f) fi }
tokens-ends-915 : List Word
tokens-ends-915 =
    on 1 kind.Mtype "mtype" ∷ on 1 kind.Assign "=" ∷ on 1 kind.OpenBrace "{" ∷ on 1 kind.Name "red" ∷ on 1 kind.Comma "," ∷
    on 1 kind.Name "green" ∷ on 1 kind.Comma "," ∷ on 1 kind.Name "blue" ∷ on 1 kind.CloseBrace "}" ∷ on 1 kind.Semicolon ";" ∷
    on 1 kind.Mtype "mtype" ∷ on 1 kind.Name "m" ∷ on 1 kind.Assign "=" ∷ on 1 kind.Name "green" ∷ on 1 kind.Semicolon ";" ∷
    on 2 kind.Bit "bit" ∷ on 2 kind.Name "t0" ∷ on 2 kind.Assign "=" ∷ on 2 kind.Number "0" ∷ on 2 kind.Semicolon ";" ∷
    on 3 kind.Int "int" ∷ on 3 kind.Name "i1" ∷ on 3 kind.Assign "=" ∷ on 3 kind.Number "1" ∷ on 3 kind.Semicolon ";" ∷
    on 4 kind.Typedef "typedef" ∷ on 4 kind.Name "T" ∷ on 4 kind.OpenBrace "{" ∷ on 4 kind.Byte "byte" ∷ on 4 kind.Name "f" ∷
    on 4 kind.Semicolon ";" ∷ on 4 kind.Short "short" ∷ on 4 kind.Name "g" ∷ on 4 kind.OpenBracket "[" ∷ on 4 kind.Number "2" ∷
    on 4 kind.CloseBracket "]" ∷ on 4 kind.CloseBrace "}" ∷ on 4 kind.Semicolon ";" ∷ on 4 kind.Name "T" ∷ on 4 kind.Name "r" ∷
    on 4 kind.Semicolon ";" ∷ on 5 kind.Chan "chan" ∷ on 5 kind.Name "q0" ∷ on 5 kind.Assign "=" ∷ on 5 kind.OpenBracket "[" ∷
    on 5 kind.Number "2" ∷ on 5 kind.CloseBracket "]" ∷ on 5 kind.Of "of" ∷ on 5 kind.OpenBrace "{" ∷ on 5 kind.Short "short" ∷
    on 5 kind.Comma "," ∷ on 5 kind.Byte "byte" ∷ on 5 kind.CloseBrace "}" ∷ on 5 kind.Semicolon ";" ∷ on 6 kind.Active "active" ∷
    on 6 kind.Proctype "proctype" ∷ on 6 kind.Name "Watch" ∷ on 6 kind.OpenParen "(" ∷ on 6 kind.CloseParen ")" ∷
    on 6 kind.OpenBrace "{" ∷ on 6 kind.Timeout "timeout" ∷ on 6 kind.Semicolon ";" ∷ on 6 kind.Printf "printf" ∷
    on 6 kind.OpenParen "(" ∷ on 6 kind.Quoted "\"%d %d %d %d %d, %d left\\n\"" ∷ on 6 kind.Comma "," ∷ on 6 kind.Name "t0" ∷
    on 6 kind.Comma "," ∷ on 6 kind.Name "i1" ∷ on 6 kind.Comma "," ∷ on 6 kind.Name "r" ∷ on 6 kind.Dot "." ∷ on 6 kind.Name "f" ∷
    on 6 kind.Comma "," ∷ on 6 kind.Name "r" ∷ on 6 kind.Dot "." ∷ on 6 kind.Name "g" ∷ on 6 kind.OpenBracket "[" ∷
    on 6 kind.Number "1" ∷ on 6 kind.CloseBracket "]" ∷ on 6 kind.Comma "," ∷ on 6 kind.Len "len" ∷ on 6 kind.OpenParen "(" ∷
    on 6 kind.Name "q0" ∷ on 6 kind.CloseParen ")" ∷ on 6 kind.Comma "," ∷ on 6 kind.Name "_nr_pr" ∷ on 6 kind.CloseParen ")" ∷
    on 6 kind.CloseBrace "}" ∷ on 7 kind.Active "active" ∷ on 7 kind.Proctype "proctype" ∷ on 7 kind.Name "P0" ∷
    on 7 kind.OpenParen "(" ∷ on 7 kind.CloseParen ")" ∷ on 7 kind.OpenBrace "{" ∷ on 7 kind.Byte "byte" ∷ on 7 kind.Name "k" ∷
    on 7 kind.Semicolon ";" ∷ on 7 kind.If "if" ∷ on 7 kind.DoubleColon "::" ∷ on 7 kind.Nfull "nfull" ∷ on 7 kind.OpenParen "(" ∷
    on 7 kind.Name "q0" ∷ on 7 kind.CloseParen ")" ∷ on 7 kind.Arrow "->" ∷ on 7 kind.Name "r" ∷ on 7 kind.Dot "." ∷
    on 7 kind.Name "g" ∷ on 7 kind.OpenBracket "[" ∷ on 7 kind.Number "1" ∷ on 7 kind.CloseBracket "]" ∷ on 7 kind.Assign "=" ∷
    on 7 kind.Number "100" ∷ on 7 kind.DoubleColon "::" ∷ on 7 kind.Nfull "nfull" ∷ on 7 kind.OpenParen "(" ∷ on 7 kind.Name "q0" ∷
    on 7 kind.CloseParen ")" ∷ on 7 kind.Arrow "->" ∷ on 7 kind.Name "t0" ∷ on 7 kind.Assign "=" ∷ on 7 kind.OpenParen "(" ∷
    on 7 kind.Number "2" ∷ on 7 kind.Bar "|" ∷ on 7 kind.Name "r" ∷ on 7 kind.Dot "." ∷ on 7 kind.Name "f" ∷
    on 7 kind.CloseParen ")" ∷ on 7 kind.Fi "fi" ∷ on 7 kind.CloseBrace "}" ∷ []

model-ends-915 : Program
unfolding tokens-ends-915
model-ends-915 =
    let at : ℕ → Word = token_at tokens-ends-915 in
    let part : ℕ → ℕ → List Word = tokens_between tokens-ends-915 in
    record {
      globals = (slot (at 11) mtype false 0 1 1 (initial.Value (number 2)) ∷ slot (at 16) bit false 1 1 1 (initial.Value (number 0)) ∷
          slot (at 21) int false 2 1 1 (initial.Value (number 1)) ∷ slot (at 39) (form.Struct 5) false 3 1 3 initial.Zero ∷ slot (at 42)
          chan false 6 1 1 (initial.Channel 2 (short ∷ byte ∷ [])) ∷ []);
      constants = ((at 7) ∷ (at 5) ∷ (at 3) ∷ []);
      typedefs = (fields 5 (slot (at 29) byte false 0 1 1 initial.Zero ∷ slot (at 32) short true 1 2 1 initial.Zero ∷ []) ∷ []);
      proctypes = (
          process (at 56) 8 1 0 [] (
          plain (part 60 61) (holds expr.Timeout) ∷
          plain (part 62 88) (action.Printf (at 64) ((read (global 1 bit)) ∷ (read (global 2 int)) ∷ (read (in_global 3 byte (turn 0 1 3
          None ∷ turn 0 1 1 None ∷ []))) ∷ (read (in_global 3 short (turn 0 1 3 None ∷ turn 1 2 1 (Some (number 1)) ∷ []))) ∷
          (expr.Ask fill.Length (global 4 chan)) ∷ expr.ProcessCount ∷ [])) ∷ []) (at 88) ∷
          process (at 91) 9 1 0 (slot (at 96) byte false 0 1 1 initial.Zero ∷ []) (
          if_fi (part 98 129) (
          (plain (part 100 104) (holds (expr.Ask fill.IsNotFull (global 4 chan))) ∷
          plain (part 105 113) (assign (in_global 3 short (turn 0 1 3 None ∷ turn 1 2 1 (Some (number 1)) ∷ [])) (number 100)) ∷ []) ∷
          (plain (part 114 118) (holds (expr.Ask fill.IsNotFull (global 4 chan))) ∷
          plain (part 119 128) (assign (global 1 bit) (expr.Binary op.BitOr (number 2) (read (in_global 3 byte (turn 0 1 3 None ∷ turn 0
          1 1 None ∷ []))))) ∷ []) ∷ []) ∷ []) (at 129) ∷ []);
    }

abbrev end-1-of-ends-915 : Printed
end-1-of-ends-915 = shown (codes "0 1 0 100 0, 1 left\n") Valid

abbrev end-2-of-ends-915 : Printed
end-2-of-ends-915 = shown (codes "0 1 0 0 0, 1 left\n") Valid

paths-of-ends-915 : paths model-ends-915 6 ≡ Some (end-1-of-ends-915 ∷ end-2-of-ends-915 ∷ [])
unfolding computes model-ends-915
paths-of-ends-915 = has_paths model-ends-915 6 _ refl

-- byte b0 = 0;
-- chan q0 = [1] of { int };
-- active proctype Watch() { timeout; printf("%d %d, %d left\n", b0, len(q0), _nr_pr) }
-- active proctype P0() { byte k; q0!!(1 ^ 1) }
-- active proctype P1() { byte k; q0!1 }
tokens-ends-917 : List Word
tokens-ends-917 =
    on 1 kind.Byte "byte" ∷ on 1 kind.Name "b0" ∷ on 1 kind.Assign "=" ∷ on 1 kind.Number "0" ∷ on 1 kind.Semicolon ";" ∷
    on 2 kind.Chan "chan" ∷ on 2 kind.Name "q0" ∷ on 2 kind.Assign "=" ∷ on 2 kind.OpenBracket "[" ∷ on 2 kind.Number "1" ∷
    on 2 kind.CloseBracket "]" ∷ on 2 kind.Of "of" ∷ on 2 kind.OpenBrace "{" ∷ on 2 kind.Int "int" ∷ on 2 kind.CloseBrace "}" ∷
    on 2 kind.Semicolon ";" ∷ on 3 kind.Active "active" ∷ on 3 kind.Proctype "proctype" ∷ on 3 kind.Name "Watch" ∷
    on 3 kind.OpenParen "(" ∷ on 3 kind.CloseParen ")" ∷ on 3 kind.OpenBrace "{" ∷ on 3 kind.Timeout "timeout" ∷
    on 3 kind.Semicolon ";" ∷ on 3 kind.Printf "printf" ∷ on 3 kind.OpenParen "(" ∷ on 3 kind.Quoted "\"%d %d, %d left\\n\"" ∷
    on 3 kind.Comma "," ∷ on 3 kind.Name "b0" ∷ on 3 kind.Comma "," ∷ on 3 kind.Len "len" ∷ on 3 kind.OpenParen "(" ∷
    on 3 kind.Name "q0" ∷ on 3 kind.CloseParen ")" ∷ on 3 kind.Comma "," ∷ on 3 kind.Name "_nr_pr" ∷ on 3 kind.CloseParen ")" ∷
    on 3 kind.CloseBrace "}" ∷ on 4 kind.Active "active" ∷ on 4 kind.Proctype "proctype" ∷ on 4 kind.Name "P0" ∷
    on 4 kind.OpenParen "(" ∷ on 4 kind.CloseParen ")" ∷ on 4 kind.OpenBrace "{" ∷ on 4 kind.Byte "byte" ∷ on 4 kind.Name "k" ∷
    on 4 kind.Semicolon ";" ∷ on 4 kind.Name "q0" ∷ on 4 kind.BangBang "!!" ∷ on 4 kind.OpenParen "(" ∷ on 4 kind.Number "1" ∷
    on 4 kind.Caret "^" ∷ on 4 kind.Number "1" ∷ on 4 kind.CloseParen ")" ∷ on 4 kind.CloseBrace "}" ∷ on 5 kind.Active "active" ∷
    on 5 kind.Proctype "proctype" ∷ on 5 kind.Name "P1" ∷ on 5 kind.OpenParen "(" ∷ on 5 kind.CloseParen ")" ∷
    on 5 kind.OpenBrace "{" ∷ on 5 kind.Byte "byte" ∷ on 5 kind.Name "k" ∷ on 5 kind.Semicolon ";" ∷ on 5 kind.Name "q0" ∷
    on 5 kind.Bang "!" ∷ on 5 kind.Number "1" ∷ on 5 kind.CloseBrace "}" ∷ []

model-ends-917 : Program
unfolding tokens-ends-917
model-ends-917 =
    let at : ℕ → Word = token_at tokens-ends-917 in
    let part : ℕ → ℕ → List Word = tokens_between tokens-ends-917 in
    record {
      globals = (slot (at 1) byte false 0 1 1 (initial.Value (number 0)) ∷ slot (at 6) chan false 1 1 1 (initial.Channel 1 (int ∷ [])) ∷ []);
      constants = [];
      typedefs = [];
      proctypes = (
          process (at 18) 3 1 0 [] (
          plain (part 22 23) (holds expr.Timeout) ∷
          plain (part 24 37) (action.Printf (at 26) ((read (global 0 byte)) ∷ (expr.Ask fill.Length (global 1 chan)) ∷ expr.ProcessCount
          ∷ [])) ∷ []) (at 37) ∷
          process (at 40) 4 1 0 (slot (at 45) byte false 0 1 1 initial.Zero ∷ []) (
          plain (part 47 54) (action.Send (global 1 chan) Sorted ((expr.Binary op.BitXor (number 1) (number 1)) ∷ [])) ∷ []) (at 54) ∷
          process (at 57) 5 1 0 (slot (at 62) byte false 0 1 1 initial.Zero ∷ []) (
          plain (part 64 67) (action.Send (global 1 chan) Fifo ((number 1) ∷ [])) ∷ []) (at 67) ∷ []);
    }

abbrev end-1-of-ends-917 : Printed
end-1-of-ends-917 = shown (codes "0 1, 3 left\n") Invalid

abbrev end-2-of-ends-917 : Printed
end-2-of-ends-917 = shown (codes "0 1, 2 left\n") Invalid

paths-of-ends-917 : paths model-ends-917 4 ≡ Some (end-1-of-ends-917 ∷ end-2-of-ends-917 ∷ [])
unfolding computes model-ends-917
paths-of-ends-917 = has_paths model-ends-917 4 _ refl

-- unsigned u0 : 3 = 1;
-- active proctype Watch() { timeout; printf("%d, %d left\n", u0, _nr_pr) }
-- active proctype P0() { byte k; u0 = ((2 / 4) >> 4); u0++ }
-- proctype Q(byte n) { u0-- }
-- init { run Q(0) }
tokens-ends-923 : List Word
tokens-ends-923 =
    on 1 kind.Unsigned "unsigned" ∷ on 1 kind.Name "u0" ∷ on 1 kind.Colon ":" ∷ on 1 kind.Number "3" ∷ on 1 kind.Assign "=" ∷
    on 1 kind.Number "1" ∷ on 1 kind.Semicolon ";" ∷ on 2 kind.Active "active" ∷ on 2 kind.Proctype "proctype" ∷
    on 2 kind.Name "Watch" ∷ on 2 kind.OpenParen "(" ∷ on 2 kind.CloseParen ")" ∷ on 2 kind.OpenBrace "{" ∷
    on 2 kind.Timeout "timeout" ∷ on 2 kind.Semicolon ";" ∷ on 2 kind.Printf "printf" ∷ on 2 kind.OpenParen "(" ∷
    on 2 kind.Quoted "\"%d, %d left\\n\"" ∷ on 2 kind.Comma "," ∷ on 2 kind.Name "u0" ∷ on 2 kind.Comma "," ∷
    on 2 kind.Name "_nr_pr" ∷ on 2 kind.CloseParen ")" ∷ on 2 kind.CloseBrace "}" ∷ on 3 kind.Active "active" ∷
    on 3 kind.Proctype "proctype" ∷ on 3 kind.Name "P0" ∷ on 3 kind.OpenParen "(" ∷ on 3 kind.CloseParen ")" ∷
    on 3 kind.OpenBrace "{" ∷ on 3 kind.Byte "byte" ∷ on 3 kind.Name "k" ∷ on 3 kind.Semicolon ";" ∷ on 3 kind.Name "u0" ∷
    on 3 kind.Assign "=" ∷ on 3 kind.OpenParen "(" ∷ on 3 kind.OpenParen "(" ∷ on 3 kind.Number "2" ∷ on 3 kind.Slash "/" ∷
    on 3 kind.Number "4" ∷ on 3 kind.CloseParen ")" ∷ on 3 kind.ShiftRight ">>" ∷ on 3 kind.Number "4" ∷ on 3 kind.CloseParen ")" ∷
    on 3 kind.Semicolon ";" ∷ on 3 kind.Name "u0" ∷ on 3 kind.Increment "++" ∷ on 3 kind.CloseBrace "}" ∷
    on 4 kind.Proctype "proctype" ∷ on 4 kind.Name "Q" ∷ on 4 kind.OpenParen "(" ∷ on 4 kind.Byte "byte" ∷ on 4 kind.Name "n" ∷
    on 4 kind.CloseParen ")" ∷ on 4 kind.OpenBrace "{" ∷ on 4 kind.Name "u0" ∷ on 4 kind.Decrement "--" ∷ on 4 kind.CloseBrace "}" ∷
    on 5 kind.Init "init" ∷ on 5 kind.OpenBrace "{" ∷ on 5 kind.Run "run" ∷ on 5 kind.Name "Q" ∷ on 5 kind.OpenParen "(" ∷
    on 5 kind.Number "0" ∷ on 5 kind.CloseParen ")" ∷ on 5 kind.CloseBrace "}" ∷ []

model-ends-923 : Program
unfolding tokens-ends-923
model-ends-923 =
    let at : ℕ → Word = token_at tokens-ends-923 in
    let part : ℕ → ℕ → List Word = tokens_between tokens-ends-923 in
    record {
      globals = (slot (at 1) (form.Unsigned 3) false 0 1 1 (initial.Value (number 1)) ∷ []);
      constants = [];
      typedefs = [];
      proctypes = (
          process (at 9) 2 1 0 [] (
          plain (part 13 14) (holds expr.Timeout) ∷
          plain (part 15 23) (action.Printf (at 17) ((read (global 0 (form.Unsigned 3))) ∷ expr.ProcessCount ∷ [])) ∷ []) (at 23) ∷
          process (at 26) 3 1 0 (slot (at 31) byte false 0 1 1 initial.Zero ∷ []) (
          plain (part 33 44) (assign (global 0 (form.Unsigned 3)) (expr.Binary op.ShiftRight (expr.Binary op.Divide (number 2) (number
          4)) (number 4))) ∷
          plain (part 45 47) (action.Increment (global 0 (form.Unsigned 3))) ∷ []) (at 47) ∷
          process (at 49) 4 0 1 (slot (at 52) byte false 0 1 1 initial.Zero ∷ []) (
          plain (part 55 57) (action.Decrement (global 0 (form.Unsigned 3))) ∷ []) (at 57) ∷
          process (at 58) 5 1 0 [] (
          plain (part 60 65) (action.Run (run 2 ((number 0) ∷ []))) ∷ []) (at 65) ∷ []);
    }

abbrev end-1-of-ends-923 : Printed
end-1-of-ends-923 = shown (codes "0, 1 left\n") Valid

abbrev end-2-of-ends-923 : Printed
end-2-of-ends-923 = shown (codes "1, 1 left\n") Valid

paths-of-ends-923 : paths model-ends-923 10 ≡ Some (end-1-of-ends-923 ∷ end-1-of-ends-923 ∷ end-1-of-ends-923 ∷ end-1-of-ends-923 ∷
    end-1-of-ends-923 ∷ end-1-of-ends-923 ∷ end-1-of-ends-923 ∷ end-1-of-ends-923 ∷ end-1-of-ends-923 ∷ end-2-of-ends-923 ∷
    end-2-of-ends-923 ∷ end-2-of-ends-923 ∷ end-2-of-ends-923 ∷ end-2-of-ends-923 ∷ end-2-of-ends-923 ∷ [])
unfolding computes model-ends-923
paths-of-ends-923 = has_paths model-ends-923 10 _ refl
