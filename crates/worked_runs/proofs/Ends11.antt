-- All paths of small random models, whose ends are those of Spin's full search. `tools/spin-ends` made the models and their data.
use Rattle.std.proofs.Common.{◌≡◌, ℕ, List, [], ◌∷◌, false, refl, Some}
use Rattle.std.specs.Prelude.{codes}
use Rattle.pml_token.specs.Word.{Word}
use Rattle.pml_program.specs.declared.program.Program.{Program}
use Rattle.worked_runs.proofs.Models.{on, token_at, tokens_between, byte, chan, int, slot, global, number, read, run, assign, holds, plain, process}
use Rattle.worked_runs.proofs.Same.{computes}
use Rattle.worked_runs.specs.Printed.{Printed, Valid}
use Rattle.worked_runs.specs.Ends.{paths}
use Rattle.worked_runs.proofs.Same.{has_paths}
use Rattle.worked_runs.proofs.Models.{shown}
use Rattle.pml_token.specs.declared.token.Kind.TheVariants as kind
use Rattle.pml_tree.specs.declared.tree.Infix.TheVariants as op
use Rattle.pml_tree.specs.declared.tree.Fill.TheVariants as fill
use Rattle.pml_program.specs.declared.expr.Expr.TheVariants as expr
use Rattle.pml_program.specs.declared.program.Initial.TheVariants as initial
use Rattle.pml_program.specs.declared.program.Action.TheVariants as action

-- int i0 = 0;
-- byte b1 = 0;
-- chan q0 = [0] of { byte };
-- active proctype Watch() { timeout; printf("%d %d %d, %d left\n", i0, b1, len(q0), _nr_pr) }
-- active proctype P0() { byte k; i0-- }
-- proctype Q(byte n) { b1 = i0 }
-- init { run Q(0) }
tokens-ends-483 : List Word
tokens-ends-483 =
    on 1 kind.Int "int" ∷ on 1 kind.Name "i0" ∷ on 1 kind.Assign "=" ∷ on 1 kind.Number "0" ∷ on 1 kind.Semicolon ";" ∷
    on 2 kind.Byte "byte" ∷ on 2 kind.Name "b1" ∷ on 2 kind.Assign "=" ∷ on 2 kind.Number "0" ∷ on 2 kind.Semicolon ";" ∷
    on 3 kind.Chan "chan" ∷ on 3 kind.Name "q0" ∷ on 3 kind.Assign "=" ∷ on 3 kind.OpenBracket "[" ∷ on 3 kind.Number "0" ∷
    on 3 kind.CloseBracket "]" ∷ on 3 kind.Of "of" ∷ on 3 kind.OpenBrace "{" ∷ on 3 kind.Byte "byte" ∷ on 3 kind.CloseBrace "}" ∷
    on 3 kind.Semicolon ";" ∷ on 4 kind.Active "active" ∷ on 4 kind.Proctype "proctype" ∷ on 4 kind.Name "Watch" ∷
    on 4 kind.OpenParen "(" ∷ on 4 kind.CloseParen ")" ∷ on 4 kind.OpenBrace "{" ∷ on 4 kind.Timeout "timeout" ∷
    on 4 kind.Semicolon ";" ∷ on 4 kind.Printf "printf" ∷ on 4 kind.OpenParen "(" ∷ on 4 kind.Quoted "\"%d %d %d, %d left\\n\"" ∷
    on 4 kind.Comma "," ∷ on 4 kind.Name "i0" ∷ on 4 kind.Comma "," ∷ on 4 kind.Name "b1" ∷ on 4 kind.Comma "," ∷
    on 4 kind.Len "len" ∷ on 4 kind.OpenParen "(" ∷ on 4 kind.Name "q0" ∷ on 4 kind.CloseParen ")" ∷ on 4 kind.Comma "," ∷
    on 4 kind.Name "_nr_pr" ∷ on 4 kind.CloseParen ")" ∷ on 4 kind.CloseBrace "}" ∷ on 5 kind.Active "active" ∷
    on 5 kind.Proctype "proctype" ∷ on 5 kind.Name "P0" ∷ on 5 kind.OpenParen "(" ∷ on 5 kind.CloseParen ")" ∷
    on 5 kind.OpenBrace "{" ∷ on 5 kind.Byte "byte" ∷ on 5 kind.Name "k" ∷ on 5 kind.Semicolon ";" ∷ on 5 kind.Name "i0" ∷
    on 5 kind.Decrement "--" ∷ on 5 kind.CloseBrace "}" ∷ on 6 kind.Proctype "proctype" ∷ on 6 kind.Name "Q" ∷
    on 6 kind.OpenParen "(" ∷ on 6 kind.Byte "byte" ∷ on 6 kind.Name "n" ∷ on 6 kind.CloseParen ")" ∷ on 6 kind.OpenBrace "{" ∷
    on 6 kind.Name "b1" ∷ on 6 kind.Assign "=" ∷ on 6 kind.Name "i0" ∷ on 6 kind.CloseBrace "}" ∷ on 7 kind.Init "init" ∷
    on 7 kind.OpenBrace "{" ∷ on 7 kind.Run "run" ∷ on 7 kind.Name "Q" ∷ on 7 kind.OpenParen "(" ∷ on 7 kind.Number "0" ∷
    on 7 kind.CloseParen ")" ∷ on 7 kind.CloseBrace "}" ∷ []

model-ends-483 : Program
unfolding tokens-ends-483
model-ends-483 =
    let at : ℕ → Word = token_at tokens-ends-483 in
    let part : ℕ → ℕ → List Word = tokens_between tokens-ends-483 in
    record {
      globals = (slot (at 1) int false 0 1 1 (initial.Value (number 0)) ∷ slot (at 6) byte false 1 1 1 (initial.Value (number 0)) ∷
          slot (at 11) chan false 2 1 1 (initial.Channel 0 (byte ∷ [])) ∷ []);
      constants = [];
      typedefs = [];
      proctypes = (
          process (at 23) 4 1 0 [] (
          plain (part 27 28) (holds expr.Timeout) ∷
          plain (part 29 44) (action.Printf (at 31) ((read (global 0 int)) ∷ (read (global 1 byte)) ∷ (expr.Ask fill.Length (global 2
          chan)) ∷ expr.ProcessCount ∷ [])) ∷ []) (at 44) ∷
          process (at 47) 5 1 0 (slot (at 52) byte false 0 1 1 initial.Zero ∷ []) (
          plain (part 54 56) (action.Decrement (global 0 int)) ∷ []) (at 56) ∷
          process (at 58) 6 0 1 (slot (at 61) byte false 0 1 1 initial.Zero ∷ []) (
          plain (part 64 67) (assign (global 1 byte) (read (global 0 int))) ∷ []) (at 67) ∷
          process (at 68) 7 1 0 [] (
          plain (part 70 75) (action.Run (run 2 ((number 0) ∷ []))) ∷ []) (at 75) ∷ []);
    }

abbrev end-1-of-ends-483 : Printed
end-1-of-ends-483 = shown (codes "-1 255 0, 1 left\n") Valid

abbrev end-2-of-ends-483 : Printed
end-2-of-ends-483 = shown (codes "-1 0 0, 1 left\n") Valid

paths-of-ends-483 : paths model-ends-483 9 ≡ Some (end-1-of-ends-483 ∷ end-1-of-ends-483 ∷ end-2-of-ends-483 ∷ end-2-of-ends-483 ∷
    end-2-of-ends-483 ∷ [])
unfolding computes model-ends-483
paths-of-ends-483 = has_paths model-ends-483 9 _ refl

-- int i0 = 0;
-- active proctype Watch() { timeout; printf("%d, %d left\n", i0, _nr_pr) }
-- active proctype P0() { byte k; i0 = (1 + 1) }
-- proctype Q(byte n) { i0++ }
-- init { run Q(0) }
tokens-ends-714 : List Word
tokens-ends-714 =
    on 1 kind.Int "int" ∷ on 1 kind.Name "i0" ∷ on 1 kind.Assign "=" ∷ on 1 kind.Number "0" ∷ on 1 kind.Semicolon ";" ∷
    on 2 kind.Active "active" ∷ on 2 kind.Proctype "proctype" ∷ on 2 kind.Name "Watch" ∷ on 2 kind.OpenParen "(" ∷
    on 2 kind.CloseParen ")" ∷ on 2 kind.OpenBrace "{" ∷ on 2 kind.Timeout "timeout" ∷ on 2 kind.Semicolon ";" ∷
    on 2 kind.Printf "printf" ∷ on 2 kind.OpenParen "(" ∷ on 2 kind.Quoted "\"%d, %d left\\n\"" ∷ on 2 kind.Comma "," ∷
    on 2 kind.Name "i0" ∷ on 2 kind.Comma "," ∷ on 2 kind.Name "_nr_pr" ∷ on 2 kind.CloseParen ")" ∷ on 2 kind.CloseBrace "}" ∷
    on 3 kind.Active "active" ∷ on 3 kind.Proctype "proctype" ∷ on 3 kind.Name "P0" ∷ on 3 kind.OpenParen "(" ∷
    on 3 kind.CloseParen ")" ∷ on 3 kind.OpenBrace "{" ∷ on 3 kind.Byte "byte" ∷ on 3 kind.Name "k" ∷ on 3 kind.Semicolon ";" ∷
    on 3 kind.Name "i0" ∷ on 3 kind.Assign "=" ∷ on 3 kind.OpenParen "(" ∷ on 3 kind.Number "1" ∷ on 3 kind.Plus "+" ∷
    on 3 kind.Number "1" ∷ on 3 kind.CloseParen ")" ∷ on 3 kind.CloseBrace "}" ∷ on 4 kind.Proctype "proctype" ∷ on 4 kind.Name "Q" ∷
    on 4 kind.OpenParen "(" ∷ on 4 kind.Byte "byte" ∷ on 4 kind.Name "n" ∷ on 4 kind.CloseParen ")" ∷ on 4 kind.OpenBrace "{" ∷
    on 4 kind.Name "i0" ∷ on 4 kind.Increment "++" ∷ on 4 kind.CloseBrace "}" ∷ on 5 kind.Init "init" ∷ on 5 kind.OpenBrace "{" ∷
    on 5 kind.Run "run" ∷ on 5 kind.Name "Q" ∷ on 5 kind.OpenParen "(" ∷ on 5 kind.Number "0" ∷ on 5 kind.CloseParen ")" ∷
    on 5 kind.CloseBrace "}" ∷ []

model-ends-714 : Program
unfolding tokens-ends-714
model-ends-714 =
    let at : ℕ → Word = token_at tokens-ends-714 in
    let part : ℕ → ℕ → List Word = tokens_between tokens-ends-714 in
    record {
      globals = (slot (at 1) int false 0 1 1 (initial.Value (number 0)) ∷ []);
      constants = [];
      typedefs = [];
      proctypes = (
          process (at 7) 2 1 0 [] (
          plain (part 11 12) (holds expr.Timeout) ∷
          plain (part 13 21) (action.Printf (at 15) ((read (global 0 int)) ∷ expr.ProcessCount ∷ [])) ∷ []) (at 21) ∷
          process (at 24) 3 1 0 (slot (at 29) byte false 0 1 1 initial.Zero ∷ []) (
          plain (part 31 38) (assign (global 0 int) (expr.Binary op.Plus (number 1) (number 1))) ∷ []) (at 38) ∷
          process (at 40) 4 0 1 (slot (at 43) byte false 0 1 1 initial.Zero ∷ []) (
          plain (part 46 48) (action.Increment (global 0 int)) ∷ []) (at 48) ∷
          process (at 49) 5 1 0 [] (
          plain (part 51 56) (action.Run (run 2 ((number 0) ∷ []))) ∷ []) (at 56) ∷ []);
    }

abbrev end-1-of-ends-714 : Printed
end-1-of-ends-714 = shown (codes "3, 1 left\n") Valid

abbrev end-2-of-ends-714 : Printed
end-2-of-ends-714 = shown (codes "2, 1 left\n") Valid

paths-of-ends-714 : paths model-ends-714 9 ≡ Some (end-1-of-ends-714 ∷ end-1-of-ends-714 ∷ end-2-of-ends-714 ∷ end-2-of-ends-714 ∷
    end-2-of-ends-714 ∷ [])
unfolding computes model-ends-714
paths-of-ends-714 = has_paths model-ends-714 9 _ refl
