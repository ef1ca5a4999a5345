-- All paths of small random models, whose ends are those of Spin's full search. `tools/spin-ends` made the models and their data.
use Rattle.std.proofs.Common.{◌≡◌, ℕ, List, [], ◌∷◌, true, false, refl, Some, None}
use Rattle.std.specs.Prelude.{codes, pos}
use Rattle.pml_token.specs.Word.{Word}
use Rattle.pml_tree.specs.declared.tree.Search.TheVariants.{First, Matching}
use Rattle.pml_tree.specs.declared.tree.Removal.TheVariants.{Remove}
use Rattle.pml_tree.specs.declared.tree.SendOrder.TheVariants.{Fifo, Sorted}
use Rattle.pml_program.specs.declared.program.Program.{Program}
use Rattle.pml_program.specs.declared.program.Basic.{Break}
use Rattle.worked_runs.proofs.Models.{on, token_at, tokens_between, bit, byte, chan, mtype, short, int, slot, fields, turn, in_global, global, number, read, assign, holds, stmt, plain, atomic, d_step, if_fi, do_od, process}
use Rattle.worked_runs.proofs.Same.{computes}
use Rattle.worked_runs.specs.Printed.{Printed, Valid, Invalid}
use Rattle.worked_runs.specs.Ends.{paths}
use Rattle.worked_runs.proofs.Same.{has_paths}
use Rattle.worked_runs.proofs.Models.{shown}
use Rattle.pml_token.specs.declared.token.Kind.TheVariants as kind
use Rattle.pml_tree.specs.declared.tree.Infix.TheVariants as op
use Rattle.pml_tree.specs.declared.tree.Prefix.TheVariants as before
use Rattle.pml_tree.specs.declared.tree.Fill.TheVariants as fill
use Rattle.pml_program.specs.declared.form.Form.TheVariants as form
use Rattle.pml_program.specs.declared.expr.Expr.TheVariants as expr
use Rattle.pml_program.specs.declared.expr.Want.TheVariants as want
use Rattle.pml_program.specs.declared.program.Initial.TheVariants as initial
use Rattle.pml_program.specs.declared.program.Action.TheVariants as action

-- int i0 = 1;
-- typedef T { byte f; short g[2] }; T r;
-- chan q0 = [2] of { short, byte };
-- active proctype Watch() { timeout; printf("%d %d %d %d, %d left\n", i0, r.f, r.g[1], len(q0), _nr_pr) }
-- active proctype P0() { byte k; r.f = (i0 - _pid) }
-- active proctype P1() { byte k; i0--; r.f = r.f }
tokens-ends-94 : List Word
tokens-ends-94 =
    on 1 kind.Int "int" ∷ on 1 kind.Name "i0" ∷ on 1 kind.Assign "=" ∷ on 1 kind.Number "1" ∷ on 1 kind.Semicolon ";" ∷
    on 2 kind.Typedef "typedef" ∷ on 2 kind.Name "T" ∷ on 2 kind.OpenBrace "{" ∷ on 2 kind.Byte "byte" ∷ on 2 kind.Name "f" ∷
    on 2 kind.Semicolon ";" ∷ on 2 kind.Short "short" ∷ on 2 kind.Name "g" ∷ on 2 kind.OpenBracket "[" ∷ on 2 kind.Number "2" ∷
    on 2 kind.CloseBracket "]" ∷ on 2 kind.CloseBrace "}" ∷ on 2 kind.Semicolon ";" ∷ on 2 kind.Name "T" ∷ on 2 kind.Name "r" ∷
    on 2 kind.Semicolon ";" ∷ on 3 kind.Chan "chan" ∷ on 3 kind.Name "q0" ∷ on 3 kind.Assign "=" ∷ on 3 kind.OpenBracket "[" ∷
    on 3 kind.Number "2" ∷ on 3 kind.CloseBracket "]" ∷ on 3 kind.Of "of" ∷ on 3 kind.OpenBrace "{" ∷ on 3 kind.Short "short" ∷
    on 3 kind.Comma "," ∷ on 3 kind.Byte "byte" ∷ on 3 kind.CloseBrace "}" ∷ on 3 kind.Semicolon ";" ∷ on 4 kind.Active "active" ∷
    on 4 kind.Proctype "proctype" ∷ on 4 kind.Name "Watch" ∷ on 4 kind.OpenParen "(" ∷ on 4 kind.CloseParen ")" ∷
    on 4 kind.OpenBrace "{" ∷ on 4 kind.Timeout "timeout" ∷ on 4 kind.Semicolon ";" ∷ on 4 kind.Printf "printf" ∷
    on 4 kind.OpenParen "(" ∷ on 4 kind.Quoted "\"%d %d %d %d, %d left\\n\"" ∷ on 4 kind.Comma "," ∷ on 4 kind.Name "i0" ∷
    on 4 kind.Comma "," ∷ on 4 kind.Name "r" ∷ on 4 kind.Dot "." ∷ on 4 kind.Name "f" ∷ on 4 kind.Comma "," ∷ on 4 kind.Name "r" ∷
    on 4 kind.Dot "." ∷ on 4 kind.Name "g" ∷ on 4 kind.OpenBracket "[" ∷ on 4 kind.Number "1" ∷ on 4 kind.CloseBracket "]" ∷
    on 4 kind.Comma "," ∷ on 4 kind.Len "len" ∷ on 4 kind.OpenParen "(" ∷ on 4 kind.Name "q0" ∷ on 4 kind.CloseParen ")" ∷
    on 4 kind.Comma "," ∷ on 4 kind.Name "_nr_pr" ∷ on 4 kind.CloseParen ")" ∷ on 4 kind.CloseBrace "}" ∷ on 5 kind.Active "active" ∷
    on 5 kind.Proctype "proctype" ∷ on 5 kind.Name "P0" ∷ on 5 kind.OpenParen "(" ∷ on 5 kind.CloseParen ")" ∷
    on 5 kind.OpenBrace "{" ∷ on 5 kind.Byte "byte" ∷ on 5 kind.Name "k" ∷ on 5 kind.Semicolon ";" ∷ on 5 kind.Name "r" ∷
    on 5 kind.Dot "." ∷ on 5 kind.Name "f" ∷ on 5 kind.Assign "=" ∷ on 5 kind.OpenParen "(" ∷ on 5 kind.Name "i0" ∷
    on 5 kind.Minus "-" ∷ on 5 kind.Name "_pid" ∷ on 5 kind.CloseParen ")" ∷ on 5 kind.CloseBrace "}" ∷ on 6 kind.Active "active" ∷
    on 6 kind.Proctype "proctype" ∷ on 6 kind.Name "P1" ∷ on 6 kind.OpenParen "(" ∷ on 6 kind.CloseParen ")" ∷
    on 6 kind.OpenBrace "{" ∷ on 6 kind.Byte "byte" ∷ on 6 kind.Name "k" ∷ on 6 kind.Semicolon ";" ∷ on 6 kind.Name "i0" ∷
    on 6 kind.Decrement "--" ∷ on 6 kind.Semicolon ";" ∷ on 6 kind.Name "r" ∷ on 6 kind.Dot "." ∷ on 6 kind.Name "f" ∷
    on 6 kind.Assign "=" ∷ on 6 kind.Name "r" ∷ on 6 kind.Dot "." ∷ on 6 kind.Name "f" ∷ on 6 kind.CloseBrace "}" ∷ []

model-ends-94 : Program
unfolding tokens-ends-94
model-ends-94 =
    let at : ℕ → Word = token_at tokens-ends-94 in
    let part : ℕ → ℕ → List Word = tokens_between tokens-ends-94 in
    record {
      globals = (slot (at 1) int false 0 1 1 (initial.Value (number 1)) ∷ slot (at 19) (form.Struct 2) false 1 1 3 initial.Zero ∷ slot
          (at 22) chan false 4 1 1 (initial.Channel 2 (short ∷ byte ∷ [])) ∷ []);
      constants = [];
      typedefs = (fields 2 (slot (at 9) byte false 0 1 1 initial.Zero ∷ slot (at 12) short true 1 2 1 initial.Zero ∷ []) ∷ []);
      proctypes = (
          process (at 36) 5 1 0 [] (
          plain (part 40 41) (holds expr.Timeout) ∷
          plain (part 42 66) (action.Printf (at 44) ((read (global 0 int)) ∷ (read (in_global 1 byte (turn 0 1 3 None ∷ turn 0 1 1 None
          ∷ []))) ∷ (read (in_global 1 short (turn 0 1 3 None ∷ turn 1 2 1 (Some (number 1)) ∷ []))) ∷ (expr.Ask fill.Length (global 2
          chan)) ∷ expr.ProcessCount ∷ [])) ∷ []) (at 66) ∷
          process (at 69) 6 1 0 (slot (at 74) byte false 0 1 1 initial.Zero ∷ []) (
          plain (part 76 85) (assign (in_global 1 byte (turn 0 1 3 None ∷ turn 0 1 1 None ∷ [])) (expr.Binary op.Minus (read (global 0
          int)) expr.Pid)) ∷ []) (at 85) ∷
          process (at 88) 7 1 0 (slot (at 93) byte false 0 1 1 initial.Zero ∷ []) (
          plain (part 95 97) (action.Decrement (global 0 int)) ∷
          plain (part 98 105) (assign (in_global 1 byte (turn 0 1 3 None ∷ turn 0 1 1 None ∷ [])) (read (in_global 1 byte (turn 0 1 3
          None ∷ turn 0 1 1 None ∷ [])))) ∷ []) (at 105) ∷ []);
    }

abbrev end-1-of-ends-94 : Printed
end-1-of-ends-94 = shown (codes "0 0 0 0, 1 left\n") Valid

abbrev end-2-of-ends-94 : Printed
end-2-of-ends-94 = shown (codes "0 255 0 0, 1 left\n") Valid

paths-of-ends-94 : paths model-ends-94 8 ≡ Some (end-1-of-ends-94 ∷ end-2-of-ends-94 ∷ end-2-of-ends-94 ∷ end-2-of-ends-94 ∷ [])
unfolding computes model-ends-94
paths-of-ends-94 = has_paths model-ends-94 8 _ refl

-- mtype = { red, green, blue }; mtype m = green;
-- byte b0 = 0;
-- unsigned u1 : 3 = 0;
-- int a[2];
-- chan q0 = [2] of { byte };
-- active proctype Watch() { timeout; printf("%d %d %d %d %d, %d left\n", b0, u1, a[0], a[1], len(q0), _nr_pr) }
-- active proctype P0() { byte k; atomic { q0?_ } }
-- active proctype P1() { byte k; do :: u1++; q0?m :: break od }
tokens-ends-97 : List Word
tokens-ends-97 =
    on 1 kind.Mtype "mtype" ∷ on 1 kind.Assign "=" ∷ on 1 kind.OpenBrace "{" ∷ on 1 kind.Name "red" ∷ on 1 kind.Comma "," ∷
    on 1 kind.Name "green" ∷ on 1 kind.Comma "," ∷ on 1 kind.Name "blue" ∷ on 1 kind.CloseBrace "}" ∷ on 1 kind.Semicolon ";" ∷
    on 1 kind.Mtype "mtype" ∷ on 1 kind.Name "m" ∷ on 1 kind.Assign "=" ∷ on 1 kind.Name "green" ∷ on 1 kind.Semicolon ";" ∷
    on 2 kind.Byte "byte" ∷ on 2 kind.Name "b0" ∷ on 2 kind.Assign "=" ∷ on 2 kind.Number "0" ∷ on 2 kind.Semicolon ";" ∷
    on 3 kind.Unsigned "unsigned" ∷ on 3 kind.Name "u1" ∷ on 3 kind.Colon ":" ∷ on 3 kind.Number "3" ∷ on 3 kind.Assign "=" ∷
    on 3 kind.Number "0" ∷ on 3 kind.Semicolon ";" ∷ on 4 kind.Int "int" ∷ on 4 kind.Name "a" ∷ on 4 kind.OpenBracket "[" ∷
    on 4 kind.Number "2" ∷ on 4 kind.CloseBracket "]" ∷ on 4 kind.Semicolon ";" ∷ on 5 kind.Chan "chan" ∷ on 5 kind.Name "q0" ∷
    on 5 kind.Assign "=" ∷ on 5 kind.OpenBracket "[" ∷ on 5 kind.Number "2" ∷ on 5 kind.CloseBracket "]" ∷ on 5 kind.Of "of" ∷
    on 5 kind.OpenBrace "{" ∷ on 5 kind.Byte "byte" ∷ on 5 kind.CloseBrace "}" ∷ on 5 kind.Semicolon ";" ∷
    on 6 kind.Active "active" ∷ on 6 kind.Proctype "proctype" ∷ on 6 kind.Name "Watch" ∷ on 6 kind.OpenParen "(" ∷
    on 6 kind.CloseParen ")" ∷ on 6 kind.OpenBrace "{" ∷ on 6 kind.Timeout "timeout" ∷ on 6 kind.Semicolon ";" ∷
    on 6 kind.Printf "printf" ∷ on 6 kind.OpenParen "(" ∷ on 6 kind.Quoted "\"%d %d %d %d %d, %d left\\n\"" ∷ on 6 kind.Comma "," ∷
    on 6 kind.Name "b0" ∷ on 6 kind.Comma "," ∷ on 6 kind.Name "u1" ∷ on 6 kind.Comma "," ∷ on 6 kind.Name "a" ∷
    on 6 kind.OpenBracket "[" ∷ on 6 kind.Number "0" ∷ on 6 kind.CloseBracket "]" ∷ on 6 kind.Comma "," ∷ on 6 kind.Name "a" ∷
    on 6 kind.OpenBracket "[" ∷ on 6 kind.Number "1" ∷ on 6 kind.CloseBracket "]" ∷ on 6 kind.Comma "," ∷ on 6 kind.Len "len" ∷
    on 6 kind.OpenParen "(" ∷ on 6 kind.Name "q0" ∷ on 6 kind.CloseParen ")" ∷ on 6 kind.Comma "," ∷ on 6 kind.Name "_nr_pr" ∷
    on 6 kind.CloseParen ")" ∷ on 6 kind.CloseBrace "}" ∷ on 7 kind.Active "active" ∷ on 7 kind.Proctype "proctype" ∷
    on 7 kind.Name "P0" ∷ on 7 kind.OpenParen "(" ∷ on 7 kind.CloseParen ")" ∷ on 7 kind.OpenBrace "{" ∷ on 7 kind.Byte "byte" ∷
    on 7 kind.Name "k" ∷ on 7 kind.Semicolon ";" ∷ on 7 kind.Atomic "atomic" ∷ on 7 kind.OpenBrace "{" ∷ on 7 kind.Name "q0" ∷
    on 7 kind.Query "?" ∷ on 7 kind.Name "_" ∷ on 7 kind.CloseBrace "}" ∷ on 7 kind.CloseBrace "}" ∷ on 8 kind.Active "active" ∷
    on 8 kind.Proctype "proctype" ∷ on 8 kind.Name "P1" ∷ on 8 kind.OpenParen "(" ∷ on 8 kind.CloseParen ")" ∷
    on 8 kind.OpenBrace "{" ∷ on 8 kind.Byte "byte" ∷ on 8 kind.Name "k" ∷ on 8 kind.Semicolon ";" ∷ on 8 kind.Do "do" ∷
    on 8 kind.DoubleColon "::" ∷ on 8 kind.Name "u1" ∷ on 8 kind.Increment "++" ∷ on 8 kind.Semicolon ";" ∷ on 8 kind.Name "q0" ∷
    on 8 kind.Query "?" ∷ on 8 kind.Name "m" ∷ on 8 kind.DoubleColon "::" ∷ on 8 kind.Break "break" ∷ on 8 kind.Od "od" ∷
    on 8 kind.CloseBrace "}" ∷ []

model-ends-97 : Program
unfolding tokens-ends-97
model-ends-97 =
    let at : ℕ → Word = token_at tokens-ends-97 in
    let part : ℕ → ℕ → List Word = tokens_between tokens-ends-97 in
    record {
      globals = (slot (at 11) mtype false 0 1 1 (initial.Value (number 2)) ∷ slot (at 16) byte false 1 1 1 (initial.Value (number 0))
          ∷ slot (at 21) (form.Unsigned 3) false 2 1 1 (initial.Value (number 0)) ∷ slot (at 28) int true 3 2 1 initial.Zero ∷ slot (at
          34) chan false 5 1 1 (initial.Channel 2 (byte ∷ [])) ∷ []);
      constants = ((at 7) ∷ (at 5) ∷ (at 3) ∷ []);
      typedefs = [];
      proctypes = (
          process (at 46) 7 1 0 [] (
          plain (part 50 51) (holds expr.Timeout) ∷
          plain (part 52 77) (action.Printf (at 54) ((read (global 1 byte)) ∷ (read (global 2 (form.Unsigned 3))) ∷ (read (in_global 3
          int (turn 0 2 1 (Some (number 0)) ∷ []))) ∷ (read (in_global 3 int (turn 0 2 1 (Some (number 1)) ∷ []))) ∷ (expr.Ask
          fill.Length (global 4 chan)) ∷ expr.ProcessCount ∷ [])) ∷ []) (at 77) ∷
          process (at 80) 8 1 0 (slot (at 85) byte false 0 1 1 initial.Zero ∷ []) (
          atomic (part 87 93) (
          plain (part 89 92) (action.Receive (global 4 chan) First Remove (want.Anything ∷ [])) ∷ []) ∷ []) (at 93) ∷
          process (at 96) 9 1 0 (slot (at 101) byte false 0 1 1 initial.Zero ∷ []) (
          do_od (part 103 114) (
          (plain (part 105 107) (action.Increment (global 2 (form.Unsigned 3))) ∷
          plain (part 108 111) (action.Receive (global 4 chan) First Remove (want.Into (global 0 mtype) ∷ [])) ∷ []) ∷
          (stmt [] Break (part 112 113) ∷ []) ∷ []) ∷ []) (at 114) ∷ []);
    }

abbrev end-1-of-ends-97 : Printed
end-1-of-ends-97 = shown (codes "0 1 0 0 0, 3 left\n") Invalid

abbrev end-2-of-ends-97 : Printed
end-2-of-ends-97 = shown (codes "0 0 0 0 0, 2 left\n") Invalid

paths-of-ends-97 : paths model-ends-97 4 ≡ Some (end-1-of-ends-97 ∷ end-2-of-ends-97 ∷ [])
unfolding computes model-ends-97
paths-of-ends-97 = has_paths model-ends-97 4 _ refl

-- mtype = { red, green, blue }; mtype m = green;
-- short s0 = 1;
-- int i1 = 1;
-- typedef T { byte f; short g[2] }; T r;
-- chan q0 = [2] of { byte, mtype };
-- active proctype Watch() { timeout; printf("%d %d %d %d %d, %d left\n", s0, i1, r.f, r.g[1], len(q0), _nr_pr) }
-- active proctype P0() { byte k; if :: q0?_, m; q0!(100 & 300), red fi }
-- active proctype P1() { byte k; if :: 7 != s0 -> q0??_, m; i1 = 3 :: r.g[1] = 300; s0-- fi; i1 = r.g[1] }
tokens-ends-100 : List Word
tokens-ends-100 =
    on 1 kind.Mtype "mtype" ∷ on 1 kind.Assign "=" ∷ on 1 kind.OpenBrace "{" ∷ on 1 kind.Name "red" ∷ on 1 kind.Comma "," ∷
    on 1 kind.Name "green" ∷ on 1 kind.Comma "," ∷ on 1 kind.Name "blue" ∷ on 1 kind.CloseBrace "}" ∷ on 1 kind.Semicolon ";" ∷
    on 1 kind.Mtype "mtype" ∷ on 1 kind.Name "m" ∷ on 1 kind.Assign "=" ∷ on 1 kind.Name "green" ∷ on 1 kind.Semicolon ";" ∷
    on 2 kind.Short "short" ∷ on 2 kind.Name "s0" ∷ on 2 kind.Assign "=" ∷ on 2 kind.Number "1" ∷ on 2 kind.Semicolon ";" ∷
    on 3 kind.Int "int" ∷ on 3 kind.Name "i1" ∷ on 3 kind.Assign "=" ∷ on 3 kind.Number "1" ∷ on 3 kind.Semicolon ";" ∷
    on 4 kind.Typedef "typedef" ∷ on 4 kind.Name "T" ∷ on 4 kind.OpenBrace "{" ∷ on 4 kind.Byte "byte" ∷ on 4 kind.Name "f" ∷
    on 4 kind.Semicolon ";" ∷ on 4 kind.Short "short" ∷ on 4 kind.Name "g" ∷ on 4 kind.OpenBracket "[" ∷ on 4 kind.Number "2" ∷
    on 4 kind.CloseBracket "]" ∷ on 4 kind.CloseBrace "}" ∷ on 4 kind.Semicolon ";" ∷ on 4 kind.Name "T" ∷ on 4 kind.Name "r" ∷
    on 4 kind.Semicolon ";" ∷ on 5 kind.Chan "chan" ∷ on 5 kind.Name "q0" ∷ on 5 kind.Assign "=" ∷ on 5 kind.OpenBracket "[" ∷
    on 5 kind.Number "2" ∷ on 5 kind.CloseBracket "]" ∷ on 5 kind.Of "of" ∷ on 5 kind.OpenBrace "{" ∷ on 5 kind.Byte "byte" ∷
    on 5 kind.Comma "," ∷ on 5 kind.Mtype "mtype" ∷ on 5 kind.CloseBrace "}" ∷ on 5 kind.Semicolon ";" ∷ on 6 kind.Active "active" ∷
    on 6 kind.Proctype "proctype" ∷ on 6 kind.Name "Watch" ∷ on 6 kind.OpenParen "(" ∷ on 6 kind.CloseParen ")" ∷
    on 6 kind.OpenBrace "{" ∷ on 6 kind.Timeout "timeout" ∷ on 6 kind.Semicolon ";" ∷ on 6 kind.Printf "printf" ∷
    on 6 kind.OpenParen "(" ∷ on 6 kind.Quoted "\"%d %d %d %d %d, %d left\\n\"" ∷ on 6 kind.Comma "," ∷ on 6 kind.Name "s0" ∷
    on 6 kind.Comma "," ∷ on 6 kind.Name "i1" ∷ on 6 kind.Comma "," ∷ on 6 kind.Name "r" ∷ on 6 kind.Dot "." ∷ on 6 kind.Name "f" ∷
    on 6 kind.Comma "," ∷ on 6 kind.Name "r" ∷ on 6 kind.Dot "." ∷ on 6 kind.Name "g" ∷ on 6 kind.OpenBracket "[" ∷
    on 6 kind.Number "1" ∷ on 6 kind.CloseBracket "]" ∷ on 6 kind.Comma "," ∷ on 6 kind.Len "len" ∷ on 6 kind.OpenParen "(" ∷
    on 6 kind.Name "q0" ∷ on 6 kind.CloseParen ")" ∷ on 6 kind.Comma "," ∷ on 6 kind.Name "_nr_pr" ∷ on 6 kind.CloseParen ")" ∷
    on 6 kind.CloseBrace "}" ∷ on 7 kind.Active "active" ∷ on 7 kind.Proctype "proctype" ∷ on 7 kind.Name "P0" ∷
    on 7 kind.OpenParen "(" ∷ on 7 kind.CloseParen ")" ∷ on 7 kind.OpenBrace "{" ∷ on 7 kind.Byte "byte" ∷ on 7 kind.Name "k" ∷
    on 7 kind.Semicolon ";" ∷ on 7 kind.If "if" ∷ on 7 kind.DoubleColon "::" ∷ on 7 kind.Name "q0" ∷ on 7 kind.Query "?" ∷
    on 7 kind.Name "_" ∷ on 7 kind.Comma "," ∷ on 7 kind.Name "m" ∷ on 7 kind.Semicolon ";" ∷ on 7 kind.Name "q0" ∷
    on 7 kind.Bang "!" ∷ on 7 kind.OpenParen "(" ∷ on 7 kind.Number "100" ∷ on 7 kind.Ampersand "&" ∷ on 7 kind.Number "300" ∷
    on 7 kind.CloseParen ")" ∷ on 7 kind.Comma "," ∷ on 7 kind.Name "red" ∷ on 7 kind.Fi "fi" ∷ on 7 kind.CloseBrace "}" ∷
    on 8 kind.Active "active" ∷ on 8 kind.Proctype "proctype" ∷ on 8 kind.Name "P1" ∷ on 8 kind.OpenParen "(" ∷
    on 8 kind.CloseParen ")" ∷ on 8 kind.OpenBrace "{" ∷ on 8 kind.Byte "byte" ∷ on 8 kind.Name "k" ∷ on 8 kind.Semicolon ";" ∷
    on 8 kind.If "if" ∷ on 8 kind.DoubleColon "::" ∷ on 8 kind.Number "7" ∷ on 8 kind.Unequal "!=" ∷ on 8 kind.Name "s0" ∷
    on 8 kind.Arrow "->" ∷ on 8 kind.Name "q0" ∷ on 8 kind.QueryQuery "??" ∷ on 8 kind.Name "_" ∷ on 8 kind.Comma "," ∷
    on 8 kind.Name "m" ∷ on 8 kind.Semicolon ";" ∷ on 8 kind.Name "i1" ∷ on 8 kind.Assign "=" ∷ on 8 kind.Number "3" ∷
    on 8 kind.DoubleColon "::" ∷ on 8 kind.Name "r" ∷ on 8 kind.Dot "." ∷ on 8 kind.Name "g" ∷ on 8 kind.OpenBracket "[" ∷
    on 8 kind.Number "1" ∷ on 8 kind.CloseBracket "]" ∷ on 8 kind.Assign "=" ∷ on 8 kind.Number "300" ∷ on 8 kind.Semicolon ";" ∷
    on 8 kind.Name "s0" ∷ on 8 kind.Decrement "--" ∷ on 8 kind.Fi "fi" ∷ on 8 kind.Semicolon ";" ∷ on 8 kind.Name "i1" ∷
    on 8 kind.Assign "=" ∷ on 8 kind.Name "r" ∷ on 8 kind.Dot "." ∷ on 8 kind.Name "g" ∷ on 8 kind.OpenBracket "[" ∷
    on 8 kind.Number "1" ∷ on 8 kind.CloseBracket "]" ∷ on 8 kind.CloseBrace "}" ∷ []

model-ends-100 : Program
unfolding tokens-ends-100
model-ends-100 =
    let at : ℕ → Word = token_at tokens-ends-100 in
    let part : ℕ → ℕ → List Word = tokens_between tokens-ends-100 in
    record {
      globals = (slot (at 11) mtype false 0 1 1 (initial.Value (number 2)) ∷ slot (at 16) short false 1 1 1 (initial.Value (number 1))
          ∷ slot (at 21) int false 2 1 1 (initial.Value (number 1)) ∷ slot (at 39) (form.Struct 5) false 3 1 3 initial.Zero ∷ slot (at
          42) chan false 6 1 1 (initial.Channel 2 (byte ∷ mtype ∷ [])) ∷ []);
      constants = ((at 7) ∷ (at 5) ∷ (at 3) ∷ []);
      typedefs = (fields 5 (slot (at 29) byte false 0 1 1 initial.Zero ∷ slot (at 32) short true 1 2 1 initial.Zero ∷ []) ∷ []);
      proctypes = (
          process (at 56) 8 1 0 [] (
          plain (part 60 61) (holds expr.Timeout) ∷
          plain (part 62 88) (action.Printf (at 64) ((read (global 1 short)) ∷ (read (global 2 int)) ∷ (read (in_global 3 byte (turn 0 1
          3 None ∷ turn 0 1 1 None ∷ []))) ∷ (read (in_global 3 short (turn 0 1 3 None ∷ turn 1 2 1 (Some (number 1)) ∷ []))) ∷
          (expr.Ask fill.Length (global 4 chan)) ∷ expr.ProcessCount ∷ [])) ∷ []) (at 88) ∷
          process (at 91) 9 1 0 (slot (at 96) byte false 0 1 1 initial.Zero ∷ []) (
          if_fi (part 98 116) (
          (plain (part 100 105) (action.Receive (global 4 chan) First Remove (want.Anything ∷ want.Into (global 0 mtype) ∷ [])) ∷
          plain (part 106 115) (action.Send (global 4 chan) Fifo ((expr.Binary op.BitAnd (number 100) (number 300)) ∷ (number 3) ∷ []))
          ∷ []) ∷ []) ∷ []) (at 116) ∷
          process (at 119) 10 1 0 (slot (at 124) byte false 0 1 1 initial.Zero ∷ []) (
          if_fi (part 126 154) (
          (plain (part 128 131) (holds (expr.Binary op.Unequal (number 7) (read (global 1 short)))) ∷
          plain (part 132 137) (action.Receive (global 4 chan) Matching Remove (want.Anything ∷ want.Into (global 0 mtype) ∷ [])) ∷
          plain (part 138 141) (assign (global 2 int) (number 3)) ∷ []) ∷
          (plain (part 142 150) (assign (in_global 3 short (turn 0 1 3 None ∷ turn 1 2 1 (Some (number 1)) ∷ [])) (number 300)) ∷
          plain (part 151 153) (action.Decrement (global 1 short)) ∷ []) ∷ []) ∷
          plain (part 155 163) (assign (global 2 int) (read (in_global 3 short (turn 0 1 3 None ∷ turn 1 2 1 (Some (number 1)) ∷ []))))
          ∷ []) (at 163) ∷ []);
    }

abbrev end-1-of-ends-100 : Printed
end-1-of-ends-100 = shown (codes "1 1 0 0 0, 3 left\n") Invalid

abbrev end-2-of-ends-100 : Printed
end-2-of-ends-100 = shown (codes "0 300 0 300 0, 2 left\n") Invalid

paths-of-ends-100 : paths model-ends-100 6 ≡ Some (end-1-of-ends-100 ∷ end-2-of-ends-100 ∷ [])
unfolding computes model-ends-100
paths-of-ends-100 = has_paths model-ends-100 6 _ refl

-- mtype = { red, green, blue }; mtype m = green;
-- short s0 = 0;
-- bit t1 = 1;
-- chan q0 = [0] of { byte, mtype };
-- active proctype Watch() { timeout; printf("%d %d %d, %d left\n", s0, t1, len(q0), _nr_pr) }
-- active proctype P0() { byte k; q0??_, green; q0??s0, _ }
-- active proctype P1() { byte k; if :: ((255 >> 5) >= 2) :: s0 = 300 fi; q0!1, red }
tokens-ends-102 : List Word
tokens-ends-102 =
    on 1 kind.Mtype "mtype" ∷ on 1 kind.Assign "=" ∷ on 1 kind.OpenBrace "{" ∷ on 1 kind.Name "red" ∷ on 1 kind.Comma "," ∷
    on 1 kind.Name "green" ∷ on 1 kind.Comma "," ∷ on 1 kind.Name "blue" ∷ on 1 kind.CloseBrace "}" ∷ on 1 kind.Semicolon ";" ∷
    on 1 kind.Mtype "mtype" ∷ on 1 kind.Name "m" ∷ on 1 kind.Assign "=" ∷ on 1 kind.Name "green" ∷ on 1 kind.Semicolon ";" ∷
    on 2 kind.Short "short" ∷ on 2 kind.Name "s0" ∷ on 2 kind.Assign "=" ∷ on 2 kind.Number "0" ∷ on 2 kind.Semicolon ";" ∷
    on 3 kind.Bit "bit" ∷ on 3 kind.Name "t1" ∷ on 3 kind.Assign "=" ∷ on 3 kind.Number "1" ∷ on 3 kind.Semicolon ";" ∷
    on 4 kind.Chan "chan" ∷ on 4 kind.Name "q0" ∷ on 4 kind.Assign "=" ∷ on 4 kind.OpenBracket "[" ∷ on 4 kind.Number "0" ∷
    on 4 kind.CloseBracket "]" ∷ on 4 kind.Of "of" ∷ on 4 kind.OpenBrace "{" ∷ on 4 kind.Byte "byte" ∷ on 4 kind.Comma "," ∷
    on 4 kind.Mtype "mtype" ∷ on 4 kind.CloseBrace "}" ∷ on 4 kind.Semicolon ";" ∷ on 5 kind.Active "active" ∷
    on 5 kind.Proctype "proctype" ∷ on 5 kind.Name "Watch" ∷ on 5 kind.OpenParen "(" ∷ on 5 kind.CloseParen ")" ∷
    on 5 kind.OpenBrace "{" ∷ on 5 kind.Timeout "timeout" ∷ on 5 kind.Semicolon ";" ∷ on 5 kind.Printf "printf" ∷
    on 5 kind.OpenParen "(" ∷ on 5 kind.Quoted "\"%d %d %d, %d left\\n\"" ∷ on 5 kind.Comma "," ∷ on 5 kind.Name "s0" ∷
    on 5 kind.Comma "," ∷ on 5 kind.Name "t1" ∷ on 5 kind.Comma "," ∷ on 5 kind.Len "len" ∷ on 5 kind.OpenParen "(" ∷
    on 5 kind.Name "q0" ∷ on 5 kind.CloseParen ")" ∷ on 5 kind.Comma "," ∷ on 5 kind.Name "_nr_pr" ∷ on 5 kind.CloseParen ")" ∷
    on 5 kind.CloseBrace "}" ∷ on 6 kind.Active "active" ∷ on 6 kind.Proctype "proctype" ∷ on 6 kind.Name "P0" ∷
    on 6 kind.OpenParen "(" ∷ on 6 kind.CloseParen ")" ∷ on 6 kind.OpenBrace "{" ∷ on 6 kind.Byte "byte" ∷ on 6 kind.Name "k" ∷
    on 6 kind.Semicolon ";" ∷ on 6 kind.Name "q0" ∷ on 6 kind.QueryQuery "??" ∷ on 6 kind.Name "_" ∷ on 6 kind.Comma "," ∷
    on 6 kind.Name "green" ∷ on 6 kind.Semicolon ";" ∷ on 6 kind.Name "q0" ∷ on 6 kind.QueryQuery "??" ∷ on 6 kind.Name "s0" ∷
    on 6 kind.Comma "," ∷ on 6 kind.Name "_" ∷ on 6 kind.CloseBrace "}" ∷ on 7 kind.Active "active" ∷ on 7 kind.Proctype "proctype" ∷
    on 7 kind.Name "P1" ∷ on 7 kind.OpenParen "(" ∷ on 7 kind.CloseParen ")" ∷ on 7 kind.OpenBrace "{" ∷ on 7 kind.Byte "byte" ∷
    on 7 kind.Name "k" ∷ on 7 kind.Semicolon ";" ∷ on 7 kind.If "if" ∷ on 7 kind.DoubleColon "::" ∷ on 7 kind.OpenParen "(" ∷
    on 7 kind.OpenParen "(" ∷ on 7 kind.Number "255" ∷ on 7 kind.ShiftRight ">>" ∷ on 7 kind.Number "5" ∷ on 7 kind.CloseParen ")" ∷
    on 7 kind.AtLeast ">=" ∷ on 7 kind.Number "2" ∷ on 7 kind.CloseParen ")" ∷ on 7 kind.DoubleColon "::" ∷ on 7 kind.Name "s0" ∷
    on 7 kind.Assign "=" ∷ on 7 kind.Number "300" ∷ on 7 kind.Fi "fi" ∷ on 7 kind.Semicolon ";" ∷ on 7 kind.Name "q0" ∷
    on 7 kind.Bang "!" ∷ on 7 kind.Number "1" ∷ on 7 kind.Comma "," ∷ on 7 kind.Name "red" ∷ on 7 kind.CloseBrace "}" ∷ []

model-ends-102 : Program
unfolding tokens-ends-102
model-ends-102 =
    let at : ℕ → Word = token_at tokens-ends-102 in
    let part : ℕ → ℕ → List Word = tokens_between tokens-ends-102 in
    record {
      globals = (slot (at 11) mtype false 0 1 1 (initial.Value (number 2)) ∷ slot (at 16) short false 1 1 1 (initial.Value (number 0))
          ∷ slot (at 21) bit false 2 1 1 (initial.Value (number 1)) ∷ slot (at 26) chan false 3 1 1 (initial.Channel 0 (byte ∷ mtype ∷
          [])) ∷ []);
      constants = ((at 7) ∷ (at 5) ∷ (at 3) ∷ []);
      typedefs = [];
      proctypes = (
          process (at 40) 6 1 0 [] (
          plain (part 44 45) (holds expr.Timeout) ∷
          plain (part 46 61) (action.Printf (at 48) ((read (global 1 short)) ∷ (read (global 2 bit)) ∷ (expr.Ask fill.Length (global 3
          chan)) ∷ expr.ProcessCount ∷ [])) ∷ []) (at 61) ∷
          process (at 64) 7 1 0 (slot (at 69) byte false 0 1 1 initial.Zero ∷ []) (
          plain (part 71 76) (action.Receive (global 3 chan) Matching Remove (want.Anything ∷ want.Exactly (pos 2) ∷ [])) ∷
          plain (part 77 82) (action.Receive (global 3 chan) Matching Remove (want.Into (global 1 short) ∷ want.Anything ∷ [])) ∷ []) (at 82) ∷
          process (at 85) 8 1 0 (slot (at 90) byte false 0 1 1 initial.Zero ∷ []) (
          if_fi (part 92 108) (
          (plain (part 94 103) (holds (expr.Binary op.AtLeast (expr.Binary op.ShiftRight (number 255) (number 5)) (number 2))) ∷ []) ∷
          (plain (part 104 107) (assign (global 1 short) (number 300)) ∷ []) ∷ []) ∷
          plain (part 109 114) (action.Send (global 3 chan) Fifo ((number 1) ∷ (number 3) ∷ [])) ∷ []) (at 114) ∷ []);
    }

abbrev end-1-of-ends-102 : Printed
end-1-of-ends-102 = shown (codes "0 1 0, 3 left\n") Invalid

abbrev end-2-of-ends-102 : Printed
end-2-of-ends-102 = shown (codes "300 1 0, 3 left\n") Invalid

paths-of-ends-102 : paths model-ends-102 3 ≡ Some (end-1-of-ends-102 ∷ end-2-of-ends-102 ∷ [])
unfolding computes model-ends-102
paths-of-ends-102 = has_paths model-ends-102 3 _ refl

-- int i0 = 1;
-- short a[2];
-- chan q0 = [2] of { byte };
-- active proctype Watch() { timeout; printf("%d %d %d %d, %d left\n", i0, a[0], a[1], len(q0), _nr_pr) }
-- active proctype P0() { byte k; if :: q0!!(100 + 3) :: i0 >= _pid -> i0 = a[(i0 & 1)] fi }
tokens-ends-111 : List Word
tokens-ends-111 =
    on 1 kind.Int "int" ∷ on 1 kind.Name "i0" ∷ on 1 kind.Assign "=" ∷ on 1 kind.Number "1" ∷ on 1 kind.Semicolon ";" ∷
    on 2 kind.Short "short" ∷ on 2 kind.Name "a" ∷ on 2 kind.OpenBracket "[" ∷ on 2 kind.Number "2" ∷ on 2 kind.CloseBracket "]" ∷
    on 2 kind.Semicolon ";" ∷ on 3 kind.Chan "chan" ∷ on 3 kind.Name "q0" ∷ on 3 kind.Assign "=" ∷ on 3 kind.OpenBracket "[" ∷
    on 3 kind.Number "2" ∷ on 3 kind.CloseBracket "]" ∷ on 3 kind.Of "of" ∷ on 3 kind.OpenBrace "{" ∷ on 3 kind.Byte "byte" ∷
    on 3 kind.CloseBrace "}" ∷ on 3 kind.Semicolon ";" ∷ on 4 kind.Active "active" ∷ on 4 kind.Proctype "proctype" ∷
    on 4 kind.Name "Watch" ∷ on 4 kind.OpenParen "(" ∷ on 4 kind.CloseParen ")" ∷ on 4 kind.OpenBrace "{" ∷
    on 4 kind.Timeout "timeout" ∷ on 4 kind.Semicolon ";" ∷ on 4 kind.Printf "printf" ∷ on 4 kind.OpenParen "(" ∷
    on 4 kind.Quoted "\"%d %d %d %d, %d left\\n\"" ∷ on 4 kind.Comma "," ∷ on 4 kind.Name "i0" ∷ on 4 kind.Comma "," ∷
    on 4 kind.Name "a" ∷ on 4 kind.OpenBracket "[" ∷ on 4 kind.Number "0" ∷ on 4 kind.CloseBracket "]" ∷ on 4 kind.Comma "," ∷
    on 4 kind.Name "a" ∷ on 4 kind.OpenBracket "[" ∷ on 4 kind.Number "1" ∷ on 4 kind.CloseBracket "]" ∷ on 4 kind.Comma "," ∷
    on 4 kind.Len "len" ∷ on 4 kind.OpenParen "(" ∷ on 4 kind.Name "q0" ∷ on 4 kind.CloseParen ")" ∷ on 4 kind.Comma "," ∷
    on 4 kind.Name "_nr_pr" ∷ on 4 kind.CloseParen ")" ∷ on 4 kind.CloseBrace "}" ∷ on 5 kind.Active "active" ∷
    on 5 kind.Proctype "proctype" ∷ on 5 kind.Name "P0" ∷ on 5 kind.OpenParen "(" ∷ on 5 kind.CloseParen ")" ∷
    on 5 kind.OpenBrace "{" ∷ on 5 kind.Byte "byte" ∷ on 5 kind.Name "k" ∷ on 5 kind.Semicolon ";" ∷ on 5 kind.If "if" ∷
    on 5 kind.DoubleColon "::" ∷ on 5 kind.Name "q0" ∷ on 5 kind.BangBang "!!" ∷ on 5 kind.OpenParen "(" ∷ on 5 kind.Number "100" ∷
    on 5 kind.Plus "+" ∷ on 5 kind.Number "3" ∷ on 5 kind.CloseParen ")" ∷ on 5 kind.DoubleColon "::" ∷ on 5 kind.Name "i0" ∷
    on 5 kind.AtLeast ">=" ∷ on 5 kind.Name "_pid" ∷ on 5 kind.Arrow "->" ∷ on 5 kind.Name "i0" ∷ on 5 kind.Assign "=" ∷
    on 5 kind.Name "a" ∷ on 5 kind.OpenBracket "[" ∷ on 5 kind.OpenParen "(" ∷ on 5 kind.Name "i0" ∷ on 5 kind.Ampersand "&" ∷
    on 5 kind.Number "1" ∷ on 5 kind.CloseParen ")" ∷ on 5 kind.CloseBracket "]" ∷ on 5 kind.Fi "fi" ∷ on 5 kind.CloseBrace "}" ∷ []

model-ends-111 : Program
unfolding tokens-ends-111
model-ends-111 =
    let at : ℕ → Word = token_at tokens-ends-111 in
    let part : ℕ → ℕ → List Word = tokens_between tokens-ends-111 in
    record {
      globals = (slot (at 1) int false 0 1 1 (initial.Value (number 1)) ∷ slot (at 6) short true 1 2 1 initial.Zero ∷ slot (at 12)
          chan false 3 1 1 (initial.Channel 2 (byte ∷ [])) ∷ []);
      constants = [];
      typedefs = [];
      proctypes = (
          process (at 24) 4 1 0 [] (
          plain (part 28 29) (holds expr.Timeout) ∷
          plain (part 30 53) (action.Printf (at 32) ((read (global 0 int)) ∷ (read (in_global 1 short (turn 0 2 1 (Some (number 0)) ∷
          []))) ∷ (read (in_global 1 short (turn 0 2 1 (Some (number 1)) ∷ []))) ∷ (expr.Ask fill.Length (global 2 chan)) ∷
          expr.ProcessCount ∷ [])) ∷ []) (at 53) ∷
          process (at 56) 5 1 0 (slot (at 61) byte false 0 1 1 initial.Zero ∷ []) (
          if_fi (part 63 88) (
          (plain (part 65 72) (action.Send (global 2 chan) Sorted ((expr.Binary op.Plus (number 100) (number 3)) ∷ [])) ∷ []) ∷
          (plain (part 73 76) (holds (expr.Binary op.AtLeast (read (global 0 int)) expr.Pid)) ∷
          plain (part 77 87) (assign (global 0 int) (read (in_global 1 short (turn 0 2 1 (Some (expr.Binary op.BitAnd (read (global 0
          int)) (number 1))) ∷ [])))) ∷ []) ∷ []) ∷ []) (at 88) ∷ []);
    }

abbrev end-1-of-ends-111 : Printed
end-1-of-ends-111 = shown (codes "1 0 0 1, 1 left\n") Valid

abbrev end-2-of-ends-111 : Printed
end-2-of-ends-111 = shown (codes "0 0 0 0, 1 left\n") Valid

paths-of-ends-111 : paths model-ends-111 6 ≡ Some (end-1-of-ends-111 ∷ end-2-of-ends-111 ∷ [])
unfolding computes model-ends-111
paths-of-ends-111 = has_paths model-ends-111 6 _ refl

-- mtype = { red, green, blue }; mtype m = green;
-- byte b0 = 0;
-- chan q0 = [1] of { byte, mtype };
-- active proctype Watch() { timeout; printf("%d %d, %d left\n", b0, len(q0), _nr_pr) }
-- active proctype P0() { byte k; b0 = (1 + (255 > 7 -> 3 : 1)) }
-- active proctype P1() { byte k; if :: 2 != 100 -> q0?b0, _ :: m = (2 - 100); q0!!b0, m fi; m = 7 }
tokens-ends-127 : List Word
tokens-ends-127 =
    on 1 kind.Mtype "mtype" ∷ on 1 kind.Assign "=" ∷ on 1 kind.OpenBrace "{" ∷ on 1 kind.Name "red" ∷ on 1 kind.Comma "," ∷
    on 1 kind.Name "green" ∷ on 1 kind.Comma "," ∷ on 1 kind.Name "blue" ∷ on 1 kind.CloseBrace "}" ∷ on 1 kind.Semicolon ";" ∷
    on 1 kind.Mtype "mtype" ∷ on 1 kind.Name "m" ∷ on 1 kind.Assign "=" ∷ on 1 kind.Name "green" ∷ on 1 kind.Semicolon ";" ∷
    on 2 kind.Byte "byte" ∷ on 2 kind.Name "b0" ∷ on 2 kind.Assign "=" ∷ on 2 kind.Number "0" ∷ on 2 kind.Semicolon ";" ∷
    on 3 kind.Chan "chan" ∷ on 3 kind.Name "q0" ∷ on 3 kind.Assign "=" ∷ on 3 kind.OpenBracket "[" ∷ on 3 kind.Number "1" ∷
    on 3 kind.CloseBracket "]" ∷ on 3 kind.Of "of" ∷ on 3 kind.OpenBrace "{" ∷ on 3 kind.Byte "byte" ∷ on 3 kind.Comma "," ∷
    on 3 kind.Mtype "mtype" ∷ on 3 kind.CloseBrace "}" ∷ on 3 kind.Semicolon ";" ∷ on 4 kind.Active "active" ∷
    on 4 kind.Proctype "proctype" ∷ on 4 kind.Name "Watch" ∷ on 4 kind.OpenParen "(" ∷ on 4 kind.CloseParen ")" ∷
    on 4 kind.OpenBrace "{" ∷ on 4 kind.Timeout "timeout" ∷ on 4 kind.Semicolon ";" ∷ on 4 kind.Printf "printf" ∷
    on 4 kind.OpenParen "(" ∷ on 4 kind.Quoted "\"%d %d, %d left\\n\"" ∷ on 4 kind.Comma "," ∷ on 4 kind.Name "b0" ∷
    on 4 kind.Comma "," ∷ on 4 kind.Len "len" ∷ on 4 kind.OpenParen "(" ∷ on 4 kind.Name "q0" ∷ on 4 kind.CloseParen ")" ∷
    on 4 kind.Comma "," ∷ on 4 kind.Name "_nr_pr" ∷ on 4 kind.CloseParen ")" ∷ on 4 kind.CloseBrace "}" ∷ on 5 kind.Active "active" ∷
    on 5 kind.Proctype "proctype" ∷ on 5 kind.Name "P0" ∷ on 5 kind.OpenParen "(" ∷ on 5 kind.CloseParen ")" ∷
    on 5 kind.OpenBrace "{" ∷ on 5 kind.Byte "byte" ∷ on 5 kind.Name "k" ∷ on 5 kind.Semicolon ";" ∷ on 5 kind.Name "b0" ∷
    on 5 kind.Assign "=" ∷ on 5 kind.OpenParen "(" ∷ on 5 kind.Number "1" ∷ on 5 kind.Plus "+" ∷ on 5 kind.OpenParen "(" ∷
    on 5 kind.Number "255" ∷ on 5 kind.Greater ">" ∷ on 5 kind.Number "7" ∷ on 5 kind.Arrow "->" ∷ on 5 kind.Number "3" ∷
    on 5 kind.Colon ":" ∷ on 5 kind.Number "1" ∷ on 5 kind.CloseParen ")" ∷ on 5 kind.CloseParen ")" ∷ on 5 kind.CloseBrace "}" ∷
    on 6 kind.Active "active" ∷ on 6 kind.Proctype "proctype" ∷ on 6 kind.Name "P1" ∷ on 6 kind.OpenParen "(" ∷
    on 6 kind.CloseParen ")" ∷ on 6 kind.OpenBrace "{" ∷ on 6 kind.Byte "byte" ∷ on 6 kind.Name "k" ∷ on 6 kind.Semicolon ";" ∷
    on 6 kind.If "if" ∷ on 6 kind.DoubleColon "::" ∷ on 6 kind.Number "2" ∷ on 6 kind.Unequal "!=" ∷ on 6 kind.Number "100" ∷
    on 6 kind.Arrow "->" ∷ on 6 kind.Name "q0" ∷ on 6 kind.Query "?" ∷ on 6 kind.Name "b0" ∷ on 6 kind.Comma "," ∷
    on 6 kind.Name "_" ∷ on 6 kind.DoubleColon "::" ∷ on 6 kind.Name "m" ∷ on 6 kind.Assign "=" ∷ on 6 kind.OpenParen "(" ∷
    on 6 kind.Number "2" ∷ on 6 kind.Minus "-" ∷ on 6 kind.Number "100" ∷ on 6 kind.CloseParen ")" ∷ on 6 kind.Semicolon ";" ∷
    on 6 kind.Name "q0" ∷ on 6 kind.BangBang "!!" ∷ on 6 kind.Name "b0" ∷ on 6 kind.Comma "," ∷ on 6 kind.Name "m" ∷
    on 6 kind.Fi "fi" ∷ on 6 kind.Semicolon ";" ∷ on 6 kind.Name "m" ∷ on 6 kind.Assign "=" ∷ on 6 kind.Number "7" ∷
    on 6 kind.CloseBrace "}" ∷ []

model-ends-127 : Program
unfolding tokens-ends-127
model-ends-127 =
    let at : ℕ → Word = token_at tokens-ends-127 in
    let part : ℕ → ℕ → List Word = tokens_between tokens-ends-127 in
    record {
      globals = (slot (at 11) mtype false 0 1 1 (initial.Value (number 2)) ∷ slot (at 16) byte false 1 1 1 (initial.Value (number 0))
          ∷ slot (at 21) chan false 2 1 1 (initial.Channel 1 (byte ∷ mtype ∷ [])) ∷ []);
      constants = ((at 7) ∷ (at 5) ∷ (at 3) ∷ []);
      typedefs = [];
      proctypes = (
          process (at 35) 5 1 0 [] (
          plain (part 39 40) (holds expr.Timeout) ∷
          plain (part 41 54) (action.Printf (at 43) ((read (global 1 byte)) ∷ (expr.Ask fill.Length (global 2 chan)) ∷ expr.ProcessCount
          ∷ [])) ∷ []) (at 54) ∷
          process (at 57) 6 1 0 (slot (at 62) byte false 0 1 1 initial.Zero ∷ []) (
          plain (part 64 79) (assign (global 1 byte) (expr.Binary op.Plus (number 1) (expr.Choice (expr.Binary op.Above (number 255)
          (number 7)) (number 3) (number 1)))) ∷ []) (at 79) ∷
          process (at 82) 7 1 0 (slot (at 87) byte false 0 1 1 initial.Zero ∷ []) (
          if_fi (part 89 115) (
          (plain (part 91 94) (holds (expr.Binary op.Unequal (number 2) (number 100))) ∷
          plain (part 95 100) (action.Receive (global 2 chan) First Remove (want.Into (global 1 byte) ∷ want.Anything ∷ [])) ∷ []) ∷
          (plain (part 101 108) (assign (global 0 mtype) (expr.Binary op.Minus (number 2) (number 100))) ∷
          plain (part 109 114) (action.Send (global 2 chan) Sorted ((read (global 1 byte)) ∷ (read (global 0 mtype)) ∷ [])) ∷ []) ∷ []) ∷
          plain (part 116 119) (assign (global 0 mtype) (number 7)) ∷ []) (at 119) ∷ []);
    }

abbrev end-1-of-ends-127 : Printed
end-1-of-ends-127 = shown (codes "4 0, 3 left\n") Invalid

abbrev end-2-of-ends-127 : Printed
end-2-of-ends-127 = shown (codes "4 1, 1 left\n") Valid

paths-of-ends-127 : paths model-ends-127 9 ≡ Some (end-1-of-ends-127 ∷ end-2-of-ends-127 ∷ end-1-of-ends-127 ∷ end-2-of-ends-127 ∷
    end-2-of-ends-127 ∷ end-2-of-ends-127 ∷ end-2-of-ends-127 ∷ [])
unfolding computes model-ends-127
paths-of-ends-127 = has_paths model-ends-127 9 _ refl

-- byte b0 = 0;
-- byte b1 = 1;
-- int a[2];
-- typedef T { byte f; short g[2] }; T r;
-- active proctype Watch() { timeout; printf("%d %d %d %d %d %d, %d left\n", b0, b1, r.f, r.g[1], a[0], a[1], _nr_pr) }
-- active proctype P0() { byte k; atomic { a[(r.f & 1)] = r.f } }
-- active proctype P1() { byte k; if :: (b0 != 2); a[0]++ fi }
tokens-ends-132 : List Word
tokens-ends-132 =
    on 1 kind.Byte "byte" ∷ on 1 kind.Name "b0" ∷ on 1 kind.Assign "=" ∷ on 1 kind.Number "0" ∷ on 1 kind.Semicolon ";" ∷
    on 2 kind.Byte "byte" ∷ on 2 kind.Name "b1" ∷ on 2 kind.Assign "=" ∷ on 2 kind.Number "1" ∷ on 2 kind.Semicolon ";" ∷
    on 3 kind.Int "int" ∷ on 3 kind.Name "a" ∷ on 3 kind.OpenBracket "[" ∷ on 3 kind.Number "2" ∷ on 3 kind.CloseBracket "]" ∷
    on 3 kind.Semicolon ";" ∷ on 4 kind.Typedef "typedef" ∷ on 4 kind.Name "T" ∷ on 4 kind.OpenBrace "{" ∷ on 4 kind.Byte "byte" ∷
    on 4 kind.Name "f" ∷ on 4 kind.Semicolon ";" ∷ on 4 kind.Short "short" ∷ on 4 kind.Name "g" ∷ on 4 kind.OpenBracket "[" ∷
    on 4 kind.Number "2" ∷ on 4 kind.CloseBracket "]" ∷ on 4 kind.CloseBrace "}" ∷ on 4 kind.Semicolon ";" ∷ on 4 kind.Name "T" ∷
    on 4 kind.Name "r" ∷ on 4 kind.Semicolon ";" ∷ on 5 kind.Active "active" ∷ on 5 kind.Proctype "proctype" ∷
    on 5 kind.Name "Watch" ∷ on 5 kind.OpenParen "(" ∷ on 5 kind.CloseParen ")" ∷ on 5 kind.OpenBrace "{" ∷
    on 5 kind.Timeout "timeout" ∷ on 5 kind.Semicolon ";" ∷ on 5 kind.Printf "printf" ∷ on 5 kind.OpenParen "(" ∷
    on 5 kind.Quoted "\"%d %d %d %d %d %d, %d left\\n\"" ∷ on 5 kind.Comma "," ∷ on 5 kind.Name "b0" ∷ on 5 kind.Comma "," ∷
    on 5 kind.Name "b1" ∷ on 5 kind.Comma "," ∷ on 5 kind.Name "r" ∷ on 5 kind.Dot "." ∷ on 5 kind.Name "f" ∷ on 5 kind.Comma "," ∷
    on 5 kind.Name "r" ∷ on 5 kind.Dot "." ∷ on 5 kind.Name "g" ∷ on 5 kind.OpenBracket "[" ∷ on 5 kind.Number "1" ∷
    on 5 kind.CloseBracket "]" ∷ on 5 kind.Comma "," ∷ on 5 kind.Name "a" ∷ on 5 kind.OpenBracket "[" ∷ on 5 kind.Number "0" ∷
    on 5 kind.CloseBracket "]" ∷ on 5 kind.Comma "," ∷ on 5 kind.Name "a" ∷ on 5 kind.OpenBracket "[" ∷ on 5 kind.Number "1" ∷
    on 5 kind.CloseBracket "]" ∷ on 5 kind.Comma "," ∷ on 5 kind.Name "_nr_pr" ∷ on 5 kind.CloseParen ")" ∷
    on 5 kind.CloseBrace "}" ∷ on 6 kind.Active "active" ∷ on 6 kind.Proctype "proctype" ∷ on 6 kind.Name "P0" ∷
    on 6 kind.OpenParen "(" ∷ on 6 kind.CloseParen ")" ∷ on 6 kind.OpenBrace "{" ∷ on 6 kind.Byte "byte" ∷ on 6 kind.Name "k" ∷
    on 6 kind.Semicolon ";" ∷ on 6 kind.Atomic "atomic" ∷ on 6 kind.OpenBrace "{" ∷ on 6 kind.Name "a" ∷ on 6 kind.OpenBracket "[" ∷
    on 6 kind.OpenParen "(" ∷ on 6 kind.Name "r" ∷ on 6 kind.Dot "." ∷ on 6 kind.Name "f" ∷ on 6 kind.Ampersand "&" ∷
    on 6 kind.Number "1" ∷ on 6 kind.CloseParen ")" ∷ on 6 kind.CloseBracket "]" ∷ on 6 kind.Assign "=" ∷ on 6 kind.Name "r" ∷
    on 6 kind.Dot "." ∷ on 6 kind.Name "f" ∷ on 6 kind.CloseBrace "}" ∷ on 6 kind.CloseBrace "}" ∷ on 7 kind.Active "active" ∷
    on 7 kind.Proctype "proctype" ∷ on 7 kind.Name "P1" ∷ on 7 kind.OpenParen "(" ∷ on 7 kind.CloseParen ")" ∷
    on 7 kind.OpenBrace "{" ∷ on 7 kind.Byte "byte" ∷ on 7 kind.Name "k" ∷ on 7 kind.Semicolon ";" ∷ on 7 kind.If "if" ∷
    on 7 kind.DoubleColon "::" ∷ on 7 kind.OpenParen "(" ∷ on 7 kind.Name "b0" ∷ on 7 kind.Unequal "!=" ∷ on 7 kind.Number "2" ∷
    on 7 kind.CloseParen ")" ∷ on 7 kind.Semicolon ";" ∷ on 7 kind.Name "a" ∷ on 7 kind.OpenBracket "[" ∷ on 7 kind.Number "0" ∷
    on 7 kind.CloseBracket "]" ∷ on 7 kind.Increment "++" ∷ on 7 kind.Fi "fi" ∷ on 7 kind.CloseBrace "}" ∷ []

model-ends-132 : Program
unfolding tokens-ends-132
model-ends-132 =
    let at : ℕ → Word = token_at tokens-ends-132 in
    let part : ℕ → ℕ → List Word = tokens_between tokens-ends-132 in
    record {
      globals = (slot (at 1) byte false 0 1 1 (initial.Value (number 0)) ∷ slot (at 6) byte false 1 1 1 (initial.Value (number 1)) ∷
          slot (at 11) int true 2 2 1 initial.Zero ∷ slot (at 30) (form.Struct 4) false 4 1 3 initial.Zero ∷ []);
      constants = [];
      typedefs = (fields 4 (slot (at 20) byte false 0 1 1 initial.Zero ∷ slot (at 23) short true 1 2 1 initial.Zero ∷ []) ∷ []);
      proctypes = (
          process (at 34) 6 1 0 [] (
          plain (part 38 39) (holds expr.Timeout) ∷
          plain (part 40 71) (action.Printf (at 42) ((read (global 0 byte)) ∷ (read (global 1 byte)) ∷ (read (in_global 3 byte (turn 0 1
          3 None ∷ turn 0 1 1 None ∷ []))) ∷ (read (in_global 3 short (turn 0 1 3 None ∷ turn 1 2 1 (Some (number 1)) ∷ []))) ∷ (read
          (in_global 2 int (turn 0 2 1 (Some (number 0)) ∷ []))) ∷ (read (in_global 2 int (turn 0 2 1 (Some (number 1)) ∷ []))) ∷
          expr.ProcessCount ∷ [])) ∷ []) (at 71) ∷
          process (at 74) 7 1 0 (slot (at 79) byte false 0 1 1 initial.Zero ∷ []) (
          atomic (part 81 98) (
          plain (part 83 97) (assign (in_global 2 int (turn 0 2 1 (Some (expr.Binary op.BitAnd (read (in_global 3 byte (turn 0 1 3 None
          ∷ turn 0 1 1 None ∷ []))) (number 1))) ∷ [])) (read (in_global 3 byte (turn 0 1 3 None ∷ turn 0 1 1 None ∷ [])))) ∷ []) ∷
          []) (at 98) ∷
          process (at 101) 8 1 0 (slot (at 106) byte false 0 1 1 initial.Zero ∷ []) (
          if_fi (part 108 122) (
          (plain (part 110 115) (holds (expr.Binary op.Unequal (read (global 0 byte)) (number 2))) ∷
          plain (part 116 121) (action.Increment (in_global 2 int (turn 0 2 1 (Some (number 0)) ∷ []))) ∷ []) ∷ []) ∷ []) (at 122) ∷ []);
    }

abbrev end-1-of-ends-132 : Printed
end-1-of-ends-132 = shown (codes "0 1 0 0 1 0, 1 left\n") Valid

abbrev end-2-of-ends-132 : Printed
end-2-of-ends-132 = shown (codes "0 1 0 0 0 0, 1 left\n") Valid

paths-of-ends-132 : paths model-ends-132 8 ≡ Some (end-1-of-ends-132 ∷ end-1-of-ends-132 ∷ end-2-of-ends-132 ∷ end-2-of-ends-132 ∷ [])
unfolding computes model-ends-132
paths-of-ends-132 = has_paths model-ends-132 8 _ refl

-- bit t0 = 1;
-- byte b1 = 1;
-- chan q0 = [1] of { int };
-- active proctype Watch() { timeout; printf("%d %d %d, %d left\n", t0, b1, len(q0), _nr_pr) }
-- active proctype P0() { byte k; atomic { b1 = (2 << 1); t0-- }; b1 = 1 }
-- active proctype P1() { byte k; atomic { b1 = t0 } }
tokens-ends-135 : List Word
tokens-ends-135 =
    on 1 kind.Bit "bit" ∷ on 1 kind.Name "t0" ∷ on 1 kind.Assign "=" ∷ on 1 kind.Number "1" ∷ on 1 kind.Semicolon ";" ∷
    on 2 kind.Byte "byte" ∷ on 2 kind.Name "b1" ∷ on 2 kind.Assign "=" ∷ on 2 kind.Number "1" ∷ on 2 kind.Semicolon ";" ∷
    on 3 kind.Chan "chan" ∷ on 3 kind.Name "q0" ∷ on 3 kind.Assign "=" ∷ on 3 kind.OpenBracket "[" ∷ on 3 kind.Number "1" ∷
    on 3 kind.CloseBracket "]" ∷ on 3 kind.Of "of" ∷ on 3 kind.OpenBrace "{" ∷ on 3 kind.Int "int" ∷ on 3 kind.CloseBrace "}" ∷
    on 3 kind.Semicolon ";" ∷ on 4 kind.Active "active" ∷ on 4 kind.Proctype "proctype" ∷ on 4 kind.Name "Watch" ∷
    on 4 kind.OpenParen "(" ∷ on 4 kind.CloseParen ")" ∷ on 4 kind.OpenBrace "{" ∷ on 4 kind.Timeout "timeout" ∷
    on 4 kind.Semicolon ";" ∷ on 4 kind.Printf "printf" ∷ on 4 kind.OpenParen "(" ∷ on 4 kind.Quoted "\"%d %d %d, %d left\\n\"" ∷
    on 4 kind.Comma "," ∷ on 4 kind.Name "t0" ∷ on 4 kind.Comma "," ∷ on 4 kind.Name "b1" ∷ on 4 kind.Comma "," ∷
    on 4 kind.Len "len" ∷ on 4 kind.OpenParen "(" ∷ on 4 kind.Name "q0" ∷ on 4 kind.CloseParen ")" ∷ on 4 kind.Comma "," ∷
    on 4 kind.Name "_nr_pr" ∷ on 4 kind.CloseParen ")" ∷ on 4 kind.CloseBrace "}" ∷ on 5 kind.Active "active" ∷
    on 5 kind.Proctype "proctype" ∷ on 5 kind.Name "P0" ∷ on 5 kind.OpenParen "(" ∷ on 5 kind.CloseParen ")" ∷
    on 5 kind.OpenBrace "{" ∷ on 5 kind.Byte "byte" ∷ on 5 kind.Name "k" ∷ on 5 kind.Semicolon ";" ∷ on 5 kind.Atomic "atomic" ∷
    on 5 kind.OpenBrace "{" ∷ on 5 kind.Name "b1" ∷ on 5 kind.Assign "=" ∷ on 5 kind.OpenParen "(" ∷ on 5 kind.Number "2" ∷
    on 5 kind.ShiftLeft "<<" ∷ on 5 kind.Number "1" ∷ on 5 kind.CloseParen ")" ∷ on 5 kind.Semicolon ";" ∷ on 5 kind.Name "t0" ∷
    on 5 kind.Decrement "--" ∷ on 5 kind.CloseBrace "}" ∷ on 5 kind.Semicolon ";" ∷ on 5 kind.Name "b1" ∷ on 5 kind.Assign "=" ∷
    on 5 kind.Number "1" ∷ on 5 kind.CloseBrace "}" ∷ on 6 kind.Active "active" ∷ on 6 kind.Proctype "proctype" ∷
    on 6 kind.Name "P1" ∷ on 6 kind.OpenParen "(" ∷ on 6 kind.CloseParen ")" ∷ on 6 kind.OpenBrace "{" ∷ on 6 kind.Byte "byte" ∷
    on 6 kind.Name "k" ∷ on 6 kind.Semicolon ";" ∷ on 6 kind.Atomic "atomic" ∷ on 6 kind.OpenBrace "{" ∷ on 6 kind.Name "b1" ∷
    on 6 kind.Assign "=" ∷ on 6 kind.Name "t0" ∷ on 6 kind.CloseBrace "}" ∷ on 6 kind.CloseBrace "}" ∷ []

model-ends-135 : Program
unfolding tokens-ends-135
model-ends-135 =
    let at : ℕ → Word = token_at tokens-ends-135 in
    let part : ℕ → ℕ → List Word = tokens_between tokens-ends-135 in
    record {
      globals = (slot (at 1) bit false 0 1 1 (initial.Value (number 1)) ∷ slot (at 6) byte false 1 1 1 (initial.Value (number 1)) ∷
          slot (at 11) chan false 2 1 1 (initial.Channel 1 (int ∷ [])) ∷ []);
      constants = [];
      typedefs = [];
      proctypes = (
          process (at 23) 4 1 0 [] (
          plain (part 27 28) (holds expr.Timeout) ∷
          plain (part 29 44) (action.Printf (at 31) ((read (global 0 bit)) ∷ (read (global 1 byte)) ∷ (expr.Ask fill.Length (global 2
          chan)) ∷ expr.ProcessCount ∷ [])) ∷ []) (at 44) ∷
          process (at 47) 5 1 0 (slot (at 52) byte false 0 1 1 initial.Zero ∷ []) (
          atomic (part 54 67) (
          plain (part 56 63) (assign (global 1 byte) (expr.Binary op.ShiftLeft (number 2) (number 1))) ∷
          plain (part 64 66) (action.Decrement (global 0 bit)) ∷ []) ∷
          plain (part 68 71) (assign (global 1 byte) (number 1)) ∷ []) (at 71) ∷
          process (at 74) 6 1 0 (slot (at 79) byte false 0 1 1 initial.Zero ∷ []) (
          atomic (part 81 87) (
          plain (part 83 86) (assign (global 1 byte) (read (global 0 bit))) ∷ []) ∷ []) (at 87) ∷ []);
    }

abbrev end-1-of-ends-135 : Printed
end-1-of-ends-135 = shown (codes "0 0 0, 1 left\n") Valid

abbrev end-2-of-ends-135 : Printed
end-2-of-ends-135 = shown (codes "0 1 0, 1 left\n") Valid

paths-of-ends-135 : paths model-ends-135 9 ≡ Some (end-1-of-ends-135 ∷ end-2-of-ends-135 ∷ end-2-of-ends-135 ∷ end-2-of-ends-135 ∷
    end-2-of-ends-135 ∷ end-2-of-ends-135 ∷ [])
unfolding computes model-ends-135
paths-of-ends-135 = has_paths model-ends-135 9 _ refl

-- mtype = { red, green, blue }; mtype m = green;
-- int i0 = 0;
-- short s1 = 1;
-- active proctype Watch() { timeout; printf("%d %d, %d left\n", i0, s1, _nr_pr) }
-- active proctype P0() { byte k; atomic { m = i0; m = 7; s1 = (0 ^ _nr_pr) }; (7 <= m) }
-- active proctype P1() { byte k; i0 = m; atomic { (300 != 100) } }
tokens-ends-137 : List Word
tokens-ends-137 =
    on 1 kind.Mtype "mtype" ∷ on 1 kind.Assign "=" ∷ on 1 kind.OpenBrace "{" ∷ on 1 kind.Name "red" ∷ on 1 kind.Comma "," ∷
    on 1 kind.Name "green" ∷ on 1 kind.Comma "," ∷ on 1 kind.Name "blue" ∷ on 1 kind.CloseBrace "}" ∷ on 1 kind.Semicolon ";" ∷
    on 1 kind.Mtype "mtype" ∷ on 1 kind.Name "m" ∷ on 1 kind.Assign "=" ∷ on 1 kind.Name "green" ∷ on 1 kind.Semicolon ";" ∷
    on 2 kind.Int "int" ∷ on 2 kind.Name "i0" ∷ on 2 kind.Assign "=" ∷ on 2 kind.Number "0" ∷ on 2 kind.Semicolon ";" ∷
    on 3 kind.Short "short" ∷ on 3 kind.Name "s1" ∷ on 3 kind.Assign "=" ∷ on 3 kind.Number "1" ∷ on 3 kind.Semicolon ";" ∷
    on 4 kind.Active "active" ∷ on 4 kind.Proctype "proctype" ∷ on 4 kind.Name "Watch" ∷ on 4 kind.OpenParen "(" ∷
    on 4 kind.CloseParen ")" ∷ on 4 kind.OpenBrace "{" ∷ on 4 kind.Timeout "timeout" ∷ on 4 kind.Semicolon ";" ∷
    on 4 kind.Printf "printf" ∷ on 4 kind.OpenParen "(" ∷ on 4 kind.Quoted "\"%d %d, %d left\\n\"" ∷ on 4 kind.Comma "," ∷
    on 4 kind.Name "i0" ∷ on 4 kind.Comma "," ∷ on 4 kind.Name "s1" ∷ on 4 kind.Comma "," ∷ on 4 kind.Name "_nr_pr" ∷
    on 4 kind.CloseParen ")" ∷ on 4 kind.CloseBrace "}" ∷ on 5 kind.Active "active" ∷ on 5 kind.Proctype "proctype" ∷
    on 5 kind.Name "P0" ∷ on 5 kind.OpenParen "(" ∷ on 5 kind.CloseParen ")" ∷ on 5 kind.OpenBrace "{" ∷ on 5 kind.Byte "byte" ∷
    on 5 kind.Name "k" ∷ on 5 kind.Semicolon ";" ∷ on 5 kind.Atomic "atomic" ∷ on 5 kind.OpenBrace "{" ∷ on 5 kind.Name "m" ∷
    on 5 kind.Assign "=" ∷ on 5 kind.Name "i0" ∷ on 5 kind.Semicolon ";" ∷ on 5 kind.Name "m" ∷ on 5 kind.Assign "=" ∷
    on 5 kind.Number "7" ∷ on 5 kind.Semicolon ";" ∷ on 5 kind.Name "s1" ∷ on 5 kind.Assign "=" ∷ on 5 kind.OpenParen "(" ∷
    on 5 kind.Number "0" ∷ on 5 kind.Caret "^" ∷ on 5 kind.Name "_nr_pr" ∷ on 5 kind.CloseParen ")" ∷ on 5 kind.CloseBrace "}" ∷
    on 5 kind.Semicolon ";" ∷ on 5 kind.OpenParen "(" ∷ on 5 kind.Number "7" ∷ on 5 kind.AtMost "<=" ∷ on 5 kind.Name "m" ∷
    on 5 kind.CloseParen ")" ∷ on 5 kind.CloseBrace "}" ∷ on 6 kind.Active "active" ∷ on 6 kind.Proctype "proctype" ∷
    on 6 kind.Name "P1" ∷ on 6 kind.OpenParen "(" ∷ on 6 kind.CloseParen ")" ∷ on 6 kind.OpenBrace "{" ∷ on 6 kind.Byte "byte" ∷
    on 6 kind.Name "k" ∷ on 6 kind.Semicolon ";" ∷ on 6 kind.Name "i0" ∷ on 6 kind.Assign "=" ∷ on 6 kind.Name "m" ∷
    on 6 kind.Semicolon ";" ∷ on 6 kind.Atomic "atomic" ∷ on 6 kind.OpenBrace "{" ∷ on 6 kind.OpenParen "(" ∷
    on 6 kind.Number "300" ∷ on 6 kind.Unequal "!=" ∷ on 6 kind.Number "100" ∷ on 6 kind.CloseParen ")" ∷ on 6 kind.CloseBrace "}" ∷
    on 6 kind.CloseBrace "}" ∷ []

model-ends-137 : Program
unfolding tokens-ends-137
model-ends-137 =
    let at : ℕ → Word = token_at tokens-ends-137 in
    let part : ℕ → ℕ → List Word = tokens_between tokens-ends-137 in
    record {
      globals = (slot (at 11) mtype false 0 1 1 (initial.Value (number 2)) ∷ slot (at 16) int false 1 1 1 (initial.Value (number 0)) ∷
          slot (at 21) short false 2 1 1 (initial.Value (number 1)) ∷ []);
      constants = ((at 7) ∷ (at 5) ∷ (at 3) ∷ []);
      typedefs = [];
      proctypes = (
          process (at 27) 5 1 0 [] (
          plain (part 31 32) (holds expr.Timeout) ∷
          plain (part 33 43) (action.Printf (at 35) ((read (global 1 int)) ∷ (read (global 2 short)) ∷ expr.ProcessCount ∷ [])) ∷ []) (at 43) ∷
          process (at 46) 6 1 0 (slot (at 51) byte false 0 1 1 initial.Zero ∷ []) (
          atomic (part 53 71) (
          plain (part 55 58) (assign (global 0 mtype) (read (global 1 int))) ∷
          plain (part 59 62) (assign (global 0 mtype) (number 7)) ∷
          plain (part 63 70) (assign (global 2 short) (expr.Binary op.BitXor (number 0) expr.ProcessCount)) ∷ []) ∷
          plain (part 72 77) (holds (expr.Binary op.AtMost (number 7) (read (global 0 mtype)))) ∷ []) (at 77) ∷
          process (at 80) 7 1 0 (slot (at 85) byte false 0 1 1 initial.Zero ∷ []) (
          plain (part 87 90) (assign (global 1 int) (read (global 0 mtype))) ∷
          atomic (part 91 99) (
          plain (part 93 98) (holds (expr.Binary op.Unequal (number 300) (number 100))) ∷ []) ∷ []) (at 99) ∷ []);
    }

abbrev end-1-of-ends-137 : Printed
end-1-of-ends-137 = shown (codes "7 3, 1 left\n") Valid

abbrev end-2-of-ends-137 : Printed
end-2-of-ends-137 = shown (codes "2 3, 1 left\n") Valid

abbrev end-3-of-ends-137 : Printed
end-3-of-ends-137 = shown (codes "2 2, 1 left\n") Valid

paths-of-ends-137 : paths model-ends-137 11 ≡ Some (end-1-of-ends-137 ∷ end-1-of-ends-137 ∷ end-1-of-ends-137 ∷ end-1-of-ends-137 ∷
    end-2-of-ends-137 ∷ end-2-of-ends-137 ∷ end-2-of-ends-137 ∷ end-2-of-ends-137 ∷ end-2-of-ends-137 ∷ end-3-of-ends-137 ∷ [])
unfolding computes model-ends-137
paths-of-ends-137 = has_paths model-ends-137 11 _ refl

-- mtype = { red, green, blue }; mtype m = green;
-- int i0 = 0;
-- unsigned u1 : 3 = 1;
-- byte a[2];
-- chan q0 = [0] of { byte, mtype };
-- active proctype Watch() { timeout; printf("%d %d %d %d %d, %d left\n", i0, u1, a[0], a[1], len(q0), _nr_pr) }
-- active proctype P0() { byte k; d_step { i0 = 2; a[1] = (3 >> 2) }; if :: i0++ :: a[(m & 1)] != 300 -> a[0] = 7 :: else ->
--     q0!(!255), blue fi }
tokens-ends-138 : List Word
tokens-ends-138 =
    on 1 kind.Mtype "mtype" ∷ on 1 kind.Assign "=" ∷ on 1 kind.OpenBrace "{" ∷ on 1 kind.Name "red" ∷ on 1 kind.Comma "," ∷
    on 1 kind.Name "green" ∷ on 1 kind.Comma "," ∷ on 1 kind.Name "blue" ∷ on 1 kind.CloseBrace "}" ∷ on 1 kind.Semicolon ";" ∷
    on 1 kind.Mtype "mtype" ∷ on 1 kind.Name "m" ∷ on 1 kind.Assign "=" ∷ on 1 kind.Name "green" ∷ on 1 kind.Semicolon ";" ∷
    on 2 kind.Int "int" ∷ on 2 kind.Name "i0" ∷ on 2 kind.Assign "=" ∷ on 2 kind.Number "0" ∷ on 2 kind.Semicolon ";" ∷
    on 3 kind.Unsigned "unsigned" ∷ on 3 kind.Name "u1" ∷ on 3 kind.Colon ":" ∷ on 3 kind.Number "3" ∷ on 3 kind.Assign "=" ∷
    on 3 kind.Number "1" ∷ on 3 kind.Semicolon ";" ∷ on 4 kind.Byte "byte" ∷ on 4 kind.Name "a" ∷ on 4 kind.OpenBracket "[" ∷
    on 4 kind.Number "2" ∷ on 4 kind.CloseBracket "]" ∷ on 4 kind.Semicolon ";" ∷ on 5 kind.Chan "chan" ∷ on 5 kind.Name "q0" ∷
    on 5 kind.Assign "=" ∷ on 5 kind.OpenBracket "[" ∷ on 5 kind.Number "0" ∷ on 5 kind.CloseBracket "]" ∷ on 5 kind.Of "of" ∷
    on 5 kind.OpenBrace "{" ∷ on 5 kind.Byte "byte" ∷ on 5 kind.Comma "," ∷ on 5 kind.Mtype "mtype" ∷ on 5 kind.CloseBrace "}" ∷
    on 5 kind.Semicolon ";" ∷ on 6 kind.Active "active" ∷ on 6 kind.Proctype "proctype" ∷ on 6 kind.Name "Watch" ∷
    on 6 kind.OpenParen "(" ∷ on 6 kind.CloseParen ")" ∷ on 6 kind.OpenBrace "{" ∷ on 6 kind.Timeout "timeout" ∷
    on 6 kind.Semicolon ";" ∷ on 6 kind.Printf "printf" ∷ on 6 kind.OpenParen "(" ∷
    on 6 kind.Quoted "\"%d %d %d %d %d, %d left\\n\"" ∷ on 6 kind.Comma "," ∷ on 6 kind.Name "i0" ∷ on 6 kind.Comma "," ∷
    on 6 kind.Name "u1" ∷ on 6 kind.Comma "," ∷ on 6 kind.Name "a" ∷ on 6 kind.OpenBracket "[" ∷ on 6 kind.Number "0" ∷
    on 6 kind.CloseBracket "]" ∷ on 6 kind.Comma "," ∷ on 6 kind.Name "a" ∷ on 6 kind.OpenBracket "[" ∷ on 6 kind.Number "1" ∷
    on 6 kind.CloseBracket "]" ∷ on 6 kind.Comma "," ∷ on 6 kind.Len "len" ∷ on 6 kind.OpenParen "(" ∷ on 6 kind.Name "q0" ∷
    on 6 kind.CloseParen ")" ∷ on 6 kind.Comma "," ∷ on 6 kind.Name "_nr_pr" ∷ on 6 kind.CloseParen ")" ∷ on 6 kind.CloseBrace "}" ∷
    on 7 kind.Active "active" ∷ on 7 kind.Proctype "proctype" ∷ on 7 kind.Name "P0" ∷ on 7 kind.OpenParen "(" ∷
    on 7 kind.CloseParen ")" ∷ on 7 kind.OpenBrace "{" ∷ on 7 kind.Byte "byte" ∷ on 7 kind.Name "k" ∷ on 7 kind.Semicolon ";" ∷
    on 7 kind.DStep "d_step" ∷ on 7 kind.OpenBrace "{" ∷ on 7 kind.Name "i0" ∷ on 7 kind.Assign "=" ∷ on 7 kind.Number "2" ∷
    on 7 kind.Semicolon ";" ∷ on 7 kind.Name "a" ∷ on 7 kind.OpenBracket "[" ∷ on 7 kind.Number "1" ∷ on 7 kind.CloseBracket "]" ∷
    on 7 kind.Assign "=" ∷ on 7 kind.OpenParen "(" ∷ on 7 kind.Number "3" ∷ on 7 kind.ShiftRight ">>" ∷ on 7 kind.Number "2" ∷
    on 7 kind.CloseParen ")" ∷ on 7 kind.CloseBrace "}" ∷ on 7 kind.Semicolon ";" ∷ on 7 kind.If "if" ∷ on 7 kind.DoubleColon "::" ∷
    on 7 kind.Name "i0" ∷ on 7 kind.Increment "++" ∷ on 7 kind.DoubleColon "::" ∷ on 7 kind.Name "a" ∷ on 7 kind.OpenBracket "[" ∷
    on 7 kind.OpenParen "(" ∷ on 7 kind.Name "m" ∷ on 7 kind.Ampersand "&" ∷ on 7 kind.Number "1" ∷ on 7 kind.CloseParen ")" ∷
    on 7 kind.CloseBracket "]" ∷ on 7 kind.Unequal "!=" ∷ on 7 kind.Number "300" ∷ on 7 kind.Arrow "->" ∷ on 7 kind.Name "a" ∷
    on 7 kind.OpenBracket "[" ∷ on 7 kind.Number "0" ∷ on 7 kind.CloseBracket "]" ∷ on 7 kind.Assign "=" ∷ on 7 kind.Number "7" ∷
    on 7 kind.DoubleColon "::" ∷ on 7 kind.Else "else" ∷ on 7 kind.Arrow "->" ∷ on 7 kind.Name "q0" ∷ on 7 kind.Bang "!" ∷
    on 7 kind.OpenParen "(" ∷ on 7 kind.Bang "!" ∷ on 7 kind.Number "255" ∷ on 7 kind.CloseParen ")" ∷ on 7 kind.Comma "," ∷
    on 7 kind.Name "blue" ∷ on 7 kind.Fi "fi" ∷ on 7 kind.CloseBrace "}" ∷ []

model-ends-138 : Program
unfolding tokens-ends-138
model-ends-138 =
    let at : ℕ → Word = token_at tokens-ends-138 in
    let part : ℕ → ℕ → List Word = tokens_between tokens-ends-138 in
    record {
      globals = (slot (at 11) mtype false 0 1 1 (initial.Value (number 2)) ∷ slot (at 16) int false 1 1 1 (initial.Value (number 0)) ∷
          slot (at 21) (form.Unsigned 3) false 2 1 1 (initial.Value (number 1)) ∷ slot (at 28) byte true 3 2 1 initial.Zero ∷ slot (at
          34) chan false 5 1 1 (initial.Channel 0 (byte ∷ mtype ∷ [])) ∷ []);
      constants = ((at 7) ∷ (at 5) ∷ (at 3) ∷ []);
      typedefs = [];
      proctypes = (
          process (at 48) 7 1 0 [] (
          plain (part 52 53) (holds expr.Timeout) ∷
          plain (part 54 79) (action.Printf (at 56) ((read (global 1 int)) ∷ (read (global 2 (form.Unsigned 3))) ∷ (read (in_global 3
          byte (turn 0 2 1 (Some (number 0)) ∷ []))) ∷ (read (in_global 3 byte (turn 0 2 1 (Some (number 1)) ∷ []))) ∷ (expr.Ask
          fill.Length (global 4 chan)) ∷ expr.ProcessCount ∷ [])) ∷ []) (at 79) ∷
          process (at 82) 8 1 0 (slot (at 87) byte false 0 1 1 initial.Zero ∷ []) (
          d_step (part 89 106) (
          plain (part 91 94) (assign (global 1 int) (number 2)) ∷
          plain (part 95 105) (assign (in_global 3 byte (turn 0 2 1 (Some (number 1)) ∷ [])) (expr.Binary op.ShiftRight (number 3)
          (number 2))) ∷ []) ∷
          if_fi (part 107 141) (
          (plain (part 109 111) (action.Increment (global 1 int)) ∷ []) ∷
          (plain (part 112 122) (holds (expr.Binary op.Unequal (read (in_global 3 byte (turn 0 2 1 (Some (expr.Binary op.BitAnd (read
          (global 0 mtype)) (number 1))) ∷ []))) (number 300))) ∷
          plain (part 123 129) (assign (in_global 3 byte (turn 0 2 1 (Some (number 0)) ∷ [])) (number 7)) ∷ []) ∷
          (plain (part 130 131) action.Else ∷
          plain (part 132 140) (action.Send (global 4 chan) Fifo ((expr.Unary before.Not (number 255)) ∷ (number 1) ∷ [])) ∷ []) ∷ []) ∷
          []) (at 141) ∷ []);
    }

abbrev end-1-of-ends-138 : Printed
end-1-of-ends-138 = shown (codes "3 1 0 0 0, 1 left\n") Valid

abbrev end-2-of-ends-138 : Printed
end-2-of-ends-138 = shown (codes "2 1 7 0 0, 1 left\n") Valid

paths-of-ends-138 : paths model-ends-138 7 ≡ Some (end-1-of-ends-138 ∷ end-2-of-ends-138 ∷ [])
unfolding computes model-ends-138
paths-of-ends-138 = has_paths model-ends-138 7 _ refl
