-- All paths of small random models, whose ends are those of Spin's full search. `tools/spin-ends` made the models and their data.
use Rattle.std.proofs.Common.{◌≡◌, ℕ, List, [], ◌∷◌, true, false, refl, Some, None}
use Rattle.std.specs.Prelude.{codes, pos}
use Rattle.pml_token.specs.Word.{Word}
use Rattle.pml_tree.specs.declared.tree.Search.TheVariants.{First, Matching}
use Rattle.pml_tree.specs.declared.tree.Removal.TheVariants.{Remove}
use Rattle.pml_tree.specs.declared.tree.SendOrder.TheVariants.{Fifo, Sorted}
use Rattle.pml_program.specs.declared.program.Program.{Program}
use Rattle.pml_program.specs.declared.program.Basic.{Break}
use Rattle.worked_runs.proofs.Models.{on, token_at, tokens_between, bit, byte, chan, mtype, short, int, slot, fields, turn, in_global, local, global, number, read, run, assign, holds, stmt, plain, block, d_step, if_fi, do_od, unless, process}
use Rattle.worked_runs.proofs.Same.{computes}
use Rattle.worked_runs.specs.Printed.{Printed, Valid, Invalid}
use Rattle.worked_runs.specs.Ends.{paths}
use Rattle.worked_runs.proofs.Same.{has_paths}
use Rattle.worked_runs.proofs.Models.{shown}
use Rattle.pml_token.specs.declared.token.Kind.TheVariants as kind
use Rattle.pml_tree.specs.declared.tree.Infix.TheVariants as op
use Rattle.pml_tree.specs.declared.tree.Prefix.TheVariants as before
use Rattle.pml_tree.specs.declared.tree.Fill.TheVariants as fill
use Rattle.pml_program.specs.declared.form.Form.TheVariants as form
use Rattle.pml_program.specs.declared.expr.Expr.TheVariants as expr
use Rattle.pml_program.specs.declared.expr.Want.TheVariants as want
use Rattle.pml_program.specs.declared.program.Initial.TheVariants as initial
use Rattle.pml_program.specs.declared.program.Action.TheVariants as action

-- mtype = { red, green, blue }; mtype m = green;
-- short s0 = 0;
-- unsigned u1 : 3 = 0;
-- chan q0 = [0] of { byte, mtype };
-- active proctype Watch() { timeout; printf("%d %d %d, %d left\n", s0, u1, len(q0), _nr_pr) }
-- active proctype P0() { byte k; { q0!u1, blue; s0 = (1 | 1) } unless { ((m >= s0 || len(q0))) -> m = (m + 255) } }
-- active proctype P1() { byte k; s0 = _pid; if :: m < _pid -> (100 > m); s0-- :: u1 = 300; q0??_, _ fi }
tokens-ends-372 : List Word
tokens-ends-372 =
    on 1 kind.Mtype "mtype" ∷ on 1 kind.Assign "=" ∷ on 1 kind.OpenBrace "{" ∷ on 1 kind.Name "red" ∷ on 1 kind.Comma "," ∷
    on 1 kind.Name "green" ∷ on 1 kind.Comma "," ∷ on 1 kind.Name "blue" ∷ on 1 kind.CloseBrace "}" ∷ on 1 kind.Semicolon ";" ∷
    on 1 kind.Mtype "mtype" ∷ on 1 kind.Name "m" ∷ on 1 kind.Assign "=" ∷ on 1 kind.Name "green" ∷ on 1 kind.Semicolon ";" ∷
    on 2 kind.Short "short" ∷ on 2 kind.Name "s0" ∷ on 2 kind.Assign "=" ∷ on 2 kind.Number "0" ∷ on 2 kind.Semicolon ";" ∷
    on 3 kind.Unsigned "unsigned" ∷ on 3 kind.Name "u1" ∷ on 3 kind.Colon ":" ∷ on 3 kind.Number "3" ∷ on 3 kind.Assign "=" ∷
    on 3 kind.Number "0" ∷ on 3 kind.Semicolon ";" ∷ on 4 kind.Chan "chan" ∷ on 4 kind.Name "q0" ∷ on 4 kind.Assign "=" ∷
    on 4 kind.OpenBracket "[" ∷ on 4 kind.Number "0" ∷ on 4 kind.CloseBracket "]" ∷ on 4 kind.Of "of" ∷ on 4 kind.OpenBrace "{" ∷
    on 4 kind.Byte "byte" ∷ on 4 kind.Comma "," ∷ on 4 kind.Mtype "mtype" ∷ on 4 kind.CloseBrace "}" ∷ on 4 kind.Semicolon ";" ∷
    on 5 kind.Active "active" ∷ on 5 kind.Proctype "proctype" ∷ on 5 kind.Name "Watch" ∷ on 5 kind.OpenParen "(" ∷
    on 5 kind.CloseParen ")" ∷ on 5 kind.OpenBrace "{" ∷ on 5 kind.Timeout "timeout" ∷ on 5 kind.Semicolon ";" ∷
    on 5 kind.Printf "printf" ∷ on 5 kind.OpenParen "(" ∷ on 5 kind.Quoted "\"%d %d %d, %d left\\n\"" ∷ on 5 kind.Comma "," ∷
    on 5 kind.Name "s0" ∷ on 5 kind.Comma "," ∷ on 5 kind.Name "u1" ∷ on 5 kind.Comma "," ∷ on 5 kind.Len "len" ∷
    on 5 kind.OpenParen "(" ∷ on 5 kind.Name "q0" ∷ on 5 kind.CloseParen ")" ∷ on 5 kind.Comma "," ∷ on 5 kind.Name "_nr_pr" ∷
    on 5 kind.CloseParen ")" ∷ on 5 kind.CloseBrace "}" ∷ on 6 kind.Active "active" ∷ on 6 kind.Proctype "proctype" ∷
    on 6 kind.Name "P0" ∷ on 6 kind.OpenParen "(" ∷ on 6 kind.CloseParen ")" ∷ on 6 kind.OpenBrace "{" ∷ on 6 kind.Byte "byte" ∷
    on 6 kind.Name "k" ∷ on 6 kind.Semicolon ";" ∷ on 6 kind.OpenBrace "{" ∷ on 6 kind.Name "q0" ∷ on 6 kind.Bang "!" ∷
    on 6 kind.Name "u1" ∷ on 6 kind.Comma "," ∷ on 6 kind.Name "blue" ∷ on 6 kind.Semicolon ";" ∷ on 6 kind.Name "s0" ∷
    on 6 kind.Assign "=" ∷ on 6 kind.OpenParen "(" ∷ on 6 kind.Number "1" ∷ on 6 kind.Bar "|" ∷ on 6 kind.Number "1" ∷
    on 6 kind.CloseParen ")" ∷ on 6 kind.CloseBrace "}" ∷ on 6 kind.Unless "unless" ∷ on 6 kind.OpenBrace "{" ∷
    on 6 kind.OpenParen "(" ∷ on 6 kind.OpenParen "(" ∷ on 6 kind.Name "m" ∷ on 6 kind.AtLeast ">=" ∷ on 6 kind.Name "s0" ∷
    on 6 kind.OrOr "||" ∷ on 6 kind.Len "len" ∷ on 6 kind.OpenParen "(" ∷ on 6 kind.Name "q0" ∷ on 6 kind.CloseParen ")" ∷
    on 6 kind.CloseParen ")" ∷ on 6 kind.CloseParen ")" ∷ on 6 kind.Arrow "->" ∷ on 6 kind.Name "m" ∷ on 6 kind.Assign "=" ∷
    on 6 kind.OpenParen "(" ∷ on 6 kind.Name "m" ∷ on 6 kind.Plus "+" ∷ on 6 kind.Number "255" ∷ on 6 kind.CloseParen ")" ∷
    on 6 kind.CloseBrace "}" ∷ on 6 kind.CloseBrace "}" ∷ on 7 kind.Active "active" ∷ on 7 kind.Proctype "proctype" ∷
    on 7 kind.Name "P1" ∷ on 7 kind.OpenParen "(" ∷ on 7 kind.CloseParen ")" ∷ on 7 kind.OpenBrace "{" ∷ on 7 kind.Byte "byte" ∷
    on 7 kind.Name "k" ∷ on 7 kind.Semicolon ";" ∷ on 7 kind.Name "s0" ∷ on 7 kind.Assign "=" ∷ on 7 kind.Name "_pid" ∷
    on 7 kind.Semicolon ";" ∷ on 7 kind.If "if" ∷ on 7 kind.DoubleColon "::" ∷ on 7 kind.Name "m" ∷ on 7 kind.Less "<" ∷
    on 7 kind.Name "_pid" ∷ on 7 kind.Arrow "->" ∷ on 7 kind.OpenParen "(" ∷ on 7 kind.Number "100" ∷ on 7 kind.Greater ">" ∷
    on 7 kind.Name "m" ∷ on 7 kind.CloseParen ")" ∷ on 7 kind.Semicolon ";" ∷ on 7 kind.Name "s0" ∷ on 7 kind.Decrement "--" ∷
    on 7 kind.DoubleColon "::" ∷ on 7 kind.Name "u1" ∷ on 7 kind.Assign "=" ∷ on 7 kind.Number "300" ∷ on 7 kind.Semicolon ";" ∷
    on 7 kind.Name "q0" ∷ on 7 kind.QueryQuery "??" ∷ on 7 kind.Name "_" ∷ on 7 kind.Comma "," ∷ on 7 kind.Name "_" ∷
    on 7 kind.Fi "fi" ∷ on 7 kind.CloseBrace "}" ∷ []

model-ends-372 : Program
unfolding tokens-ends-372
model-ends-372 =
    let at : ℕ → Word = token_at tokens-ends-372 in
    let part : ℕ → ℕ → List Word = tokens_between tokens-ends-372 in
    record {
      globals = (slot (at 11) mtype false 0 1 1 (initial.Value (number 2)) ∷ slot (at 16) short false 1 1 1 (initial.Value (number 0))
          ∷ slot (at 21) (form.Unsigned 3) false 2 1 1 (initial.Value (number 0)) ∷ slot (at 28) chan false 3 1 1 (initial.Channel 0
          (byte ∷ mtype ∷ [])) ∷ []);
      constants = ((at 7) ∷ (at 5) ∷ (at 3) ∷ []);
      typedefs = [];
      proctypes = (
          process (at 42) 6 1 0 [] (
          plain (part 46 47) (holds expr.Timeout) ∷
          plain (part 48 63) (action.Printf (at 50) ((read (global 1 short)) ∷ (read (global 2 (form.Unsigned 3))) ∷ (expr.Ask
          fill.Length (global 3 chan)) ∷ expr.ProcessCount ∷ [])) ∷ []) (at 63) ∷
          process (at 66) 7 1 0 (slot (at 71) byte false 0 1 1 initial.Zero ∷ []) (
          unless (part 73 111) (
          block (part 73 88) (
          plain (part 74 79) (action.Send (global 3 chan) Fifo ((read (global 2 (form.Unsigned 3))) ∷ (number 1) ∷ [])) ∷
          plain (part 80 87) (assign (global 1 short) (expr.Binary op.BitOr (number 1) (number 1))) ∷ []) ∷ []) (
          block (part 89 111) (
          plain (part 90 102) (holds (expr.Binary op.Or (expr.Binary op.AtLeast (read (global 0 mtype)) (read (global 1 short)))
          (expr.Ask fill.Length (global 3 chan)))) ∷
          plain (part 103 110) (assign (global 0 mtype) (expr.Binary op.Plus (read (global 0 mtype)) (number 255))) ∷ []) ∷ []) ∷ []) (at 111) ∷
          process (at 114) 8 1 0 (slot (at 119) byte false 0 1 1 initial.Zero ∷ []) (
          plain (part 121 124) (assign (global 1 short) expr.Pid) ∷
          if_fi (part 125 150) (
          (plain (part 127 130) (holds (expr.Binary op.Below (read (global 0 mtype)) expr.Pid)) ∷
          plain (part 131 136) (holds (expr.Binary op.Above (number 100) (read (global 0 mtype)))) ∷
          plain (part 137 139) (action.Decrement (global 1 short)) ∷ []) ∷
          (plain (part 140 143) (assign (global 2 (form.Unsigned 3)) (number 300)) ∷
          plain (part 144 149) (action.Receive (global 3 chan) Matching Remove (want.Anything ∷ want.Anything ∷ [])) ∷ []) ∷ []) ∷ [])
          (at 150) ∷ []);
    }

abbrev end-1-of-ends-372 : Printed
end-1-of-ends-372 = shown (codes "1 0 0, 1 left\n") Valid

abbrev end-2-of-ends-372 : Printed
end-2-of-ends-372 = shown (codes "2 4 0, 3 left\n") Invalid

paths-of-ends-372 : paths model-ends-372 11 ≡ Some (end-1-of-ends-372 ∷ end-2-of-ends-372 ∷ end-1-of-ends-372 ∷ end-2-of-ends-372 ∷
    end-2-of-ends-372 ∷ end-1-of-ends-372 ∷ end-2-of-ends-372 ∷ end-2-of-ends-372 ∷ end-2-of-ends-372 ∷ [])
unfolding computes model-ends-372
paths-of-ends-372 = has_paths model-ends-372 11 _ refl

-- bit t0 = 1;
-- byte b1 = 1;
-- short a[2];
-- chan q0 = [0] of { byte };
-- active proctype Watch() { timeout; printf("%d %d %d %d %d, %d left\n", t0, b1, a[0], a[1], len(q0), _nr_pr) }
-- active proctype P0() { byte k; q0!1 }
-- active proctype P1() { byte k; q0?eval(t0); a[(t0 & 1)]-- }
-- proctype Q(byte n) { t0++; q0??b1 }
-- init { run Q(0) }
tokens-ends-385 : List Word
tokens-ends-385 =
    on 1 kind.Bit "bit" ∷ on 1 kind.Name "t0" ∷ on 1 kind.Assign "=" ∷ on 1 kind.Number "1" ∷ on 1 kind.Semicolon ";" ∷
    on 2 kind.Byte "byte" ∷ on 2 kind.Name "b1" ∷ on 2 kind.Assign "=" ∷ on 2 kind.Number "1" ∷ on 2 kind.Semicolon ";" ∷
    on 3 kind.Short "short" ∷ on 3 kind.Name "a" ∷ on 3 kind.OpenBracket "[" ∷ on 3 kind.Number "2" ∷ on 3 kind.CloseBracket "]" ∷
    on 3 kind.Semicolon ";" ∷ on 4 kind.Chan "chan" ∷ on 4 kind.Name "q0" ∷ on 4 kind.Assign "=" ∷ on 4 kind.OpenBracket "[" ∷
    on 4 kind.Number "0" ∷ on 4 kind.CloseBracket "]" ∷ on 4 kind.Of "of" ∷ on 4 kind.OpenBrace "{" ∷ on 4 kind.Byte "byte" ∷
    on 4 kind.CloseBrace "}" ∷ on 4 kind.Semicolon ";" ∷ on 5 kind.Active "active" ∷ on 5 kind.Proctype "proctype" ∷
    on 5 kind.Name "Watch" ∷ on 5 kind.OpenParen "(" ∷ on 5 kind.CloseParen ")" ∷ on 5 kind.OpenBrace "{" ∷
    on 5 kind.Timeout "timeout" ∷ on 5 kind.Semicolon ";" ∷ on 5 kind.Printf "printf" ∷ on 5 kind.OpenParen "(" ∷
    on 5 kind.Quoted "\"%d %d %d %d %d, %d left\\n\"" ∷ on 5 kind.Comma "," ∷ on 5 kind.Name "t0" ∷ on 5 kind.Comma "," ∷
    on 5 kind.Name "b1" ∷ on 5 kind.Comma "," ∷ on 5 kind.Name "a" ∷ on 5 kind.OpenBracket "[" ∷ on 5 kind.Number "0" ∷
    on 5 kind.CloseBracket "]" ∷ on 5 kind.Comma "," ∷ on 5 kind.Name "a" ∷ on 5 kind.OpenBracket "[" ∷ on 5 kind.Number "1" ∷
    on 5 kind.CloseBracket "]" ∷ on 5 kind.Comma "," ∷ on 5 kind.Len "len" ∷ on 5 kind.OpenParen "(" ∷ on 5 kind.Name "q0" ∷
    on 5 kind.CloseParen ")" ∷ on 5 kind.Comma "," ∷ on 5 kind.Name "_nr_pr" ∷ on 5 kind.CloseParen ")" ∷ on 5 kind.CloseBrace "}" ∷
    on 6 kind.Active "active" ∷ on 6 kind.Proctype "proctype" ∷ on 6 kind.Name "P0" ∷ on 6 kind.OpenParen "(" ∷
    on 6 kind.CloseParen ")" ∷ on 6 kind.OpenBrace "{" ∷ on 6 kind.Byte "byte" ∷ on 6 kind.Name "k" ∷ on 6 kind.Semicolon ";" ∷
    on 6 kind.Name "q0" ∷ on 6 kind.Bang "!" ∷ on 6 kind.Number "1" ∷ on 6 kind.CloseBrace "}" ∷ on 7 kind.Active "active" ∷
    on 7 kind.Proctype "proctype" ∷ on 7 kind.Name "P1" ∷ on 7 kind.OpenParen "(" ∷ on 7 kind.CloseParen ")" ∷
    on 7 kind.OpenBrace "{" ∷ on 7 kind.Byte "byte" ∷ on 7 kind.Name "k" ∷ on 7 kind.Semicolon ";" ∷ on 7 kind.Name "q0" ∷
    on 7 kind.Query "?" ∷ on 7 kind.Eval "eval" ∷ on 7 kind.OpenParen "(" ∷ on 7 kind.Name "t0" ∷ on 7 kind.CloseParen ")" ∷
    on 7 kind.Semicolon ";" ∷ on 7 kind.Name "a" ∷ on 7 kind.OpenBracket "[" ∷ on 7 kind.OpenParen "(" ∷ on 7 kind.Name "t0" ∷
    on 7 kind.Ampersand "&" ∷ on 7 kind.Number "1" ∷ on 7 kind.CloseParen ")" ∷ on 7 kind.CloseBracket "]" ∷
    on 7 kind.Decrement "--" ∷ on 7 kind.CloseBrace "}" ∷ on 8 kind.Proctype "proctype" ∷ on 8 kind.Name "Q" ∷
    on 8 kind.OpenParen "(" ∷ on 8 kind.Byte "byte" ∷ on 8 kind.Name "n" ∷ on 8 kind.CloseParen ")" ∷ on 8 kind.OpenBrace "{" ∷
    on 8 kind.Name "t0" ∷ on 8 kind.Increment "++" ∷ on 8 kind.Semicolon ";" ∷ on 8 kind.Name "q0" ∷ on 8 kind.QueryQuery "??" ∷
    on 8 kind.Name "b1" ∷ on 8 kind.CloseBrace "}" ∷ on 9 kind.Init "init" ∷ on 9 kind.OpenBrace "{" ∷ on 9 kind.Run "run" ∷
    on 9 kind.Name "Q" ∷ on 9 kind.OpenParen "(" ∷ on 9 kind.Number "0" ∷ on 9 kind.CloseParen ")" ∷ on 9 kind.CloseBrace "}" ∷ []

model-ends-385 : Program
unfolding tokens-ends-385
model-ends-385 =
    let at : ℕ → Word = token_at tokens-ends-385 in
    let part : ℕ → ℕ → List Word = tokens_between tokens-ends-385 in
    record {
      globals = (slot (at 1) bit false 0 1 1 (initial.Value (number 1)) ∷ slot (at 6) byte false 1 1 1 (initial.Value (number 1)) ∷
          slot (at 11) short true 2 2 1 initial.Zero ∷ slot (at 17) chan false 4 1 1 (initial.Channel 0 (byte ∷ [])) ∷ []);
      constants = [];
      typedefs = [];
      proctypes = (
          process (at 29) 5 1 0 [] (
          plain (part 33 34) (holds expr.Timeout) ∷
          plain (part 35 60) (action.Printf (at 37) ((read (global 0 bit)) ∷ (read (global 1 byte)) ∷ (read (in_global 2 short (turn 0 2
          1 (Some (number 0)) ∷ []))) ∷ (read (in_global 2 short (turn 0 2 1 (Some (number 1)) ∷ []))) ∷ (expr.Ask fill.Length (global
          3 chan)) ∷ expr.ProcessCount ∷ [])) ∷ []) (at 60) ∷
          process (at 63) 6 1 0 (slot (at 68) byte false 0 1 1 initial.Zero ∷ []) (
          plain (part 70 73) (action.Send (global 3 chan) Fifo ((number 1) ∷ [])) ∷ []) (at 73) ∷
          process (at 76) 7 1 0 (slot (at 81) byte false 0 1 1 initial.Zero ∷ []) (
          plain (part 83 89) (action.Receive (global 3 chan) First Remove (want.Equal (read (global 0 bit)) ∷ [])) ∷
          plain (part 90 99) (action.Decrement (in_global 2 short (turn 0 2 1 (Some (expr.Binary op.BitAnd (read (global 0 bit)) (number
          1))) ∷ []))) ∷ []) (at 99) ∷
          process (at 101) 8 0 1 (slot (at 104) byte false 0 1 1 initial.Zero ∷ []) (
          plain (part 107 109) (action.Increment (global 0 bit)) ∷
          plain (part 110 113) (action.Receive (global 3 chan) Matching Remove (want.Into (global 1 byte) ∷ [])) ∷ []) (at 113) ∷
          process (at 114) 9 1 0 [] (
          plain (part 116 121) (action.Run (run 3 ((number 0) ∷ []))) ∷ []) (at 121) ∷ []);
    }

abbrev end-1-of-ends-385 : Printed
end-1-of-ends-385 = shown (codes "0 1 0 -1 0, 5 left\n") Invalid

abbrev end-2-of-ends-385 : Printed
end-2-of-ends-385 = shown (codes "0 1 -1 0 0, 5 left\n") Invalid

abbrev end-3-of-ends-385 : Printed
end-3-of-ends-385 = shown (codes "0 1 0 0 0, 3 left\n") Invalid

paths-of-ends-385 : paths model-ends-385 7 ≡ Some (end-1-of-ends-385 ∷ end-1-of-ends-385 ∷ end-2-of-ends-385 ∷ end-1-of-ends-385 ∷
    end-2-of-ends-385 ∷ end-3-of-ends-385 ∷ [])
unfolding computes model-ends-385
paths-of-ends-385 = has_paths model-ends-385 7 _ refl

-- mtype = { red, green, blue }; mtype m = green;
-- bit t0 = 0;
-- int i1 = 0;
-- short a[2];
-- chan q0 = [2] of { byte, mtype };
-- active proctype Watch() { timeout; printf("%d %d %d %d %d, %d left\n", t0, i1, a[0], a[1], len(q0), _nr_pr) }
-- active proctype P0() { byte k; if :: a[(m & 1)]++ :: i1 == 2 -> i1 = (~0); m = _nr_pr :: else -> i1++ fi; d_step { t0 = ((300 |
--     255) << 3); m = 1 } }
-- active proctype P1() { byte k; d_step { t0 = (-(300 << 2)); t0 = m }; if :: m--; t0++ fi }
tokens-ends-397 : List Word
tokens-ends-397 =
    on 1 kind.Mtype "mtype" ∷ on 1 kind.Assign "=" ∷ on 1 kind.OpenBrace "{" ∷ on 1 kind.Name "red" ∷ on 1 kind.Comma "," ∷
    on 1 kind.Name "green" ∷ on 1 kind.Comma "," ∷ on 1 kind.Name "blue" ∷ on 1 kind.CloseBrace "}" ∷ on 1 kind.Semicolon ";" ∷
    on 1 kind.Mtype "mtype" ∷ on 1 kind.Name "m" ∷ on 1 kind.Assign "=" ∷ on 1 kind.Name "green" ∷ on 1 kind.Semicolon ";" ∷
    on 2 kind.Bit "bit" ∷ on 2 kind.Name "t0" ∷ on 2 kind.Assign "=" ∷ on 2 kind.Number "0" ∷ on 2 kind.Semicolon ";" ∷
    on 3 kind.Int "int" ∷ on 3 kind.Name "i1" ∷ on 3 kind.Assign "=" ∷ on 3 kind.Number "0" ∷ on 3 kind.Semicolon ";" ∷
    on 4 kind.Short "short" ∷ on 4 kind.Name "a" ∷ on 4 kind.OpenBracket "[" ∷ on 4 kind.Number "2" ∷ on 4 kind.CloseBracket "]" ∷
    on 4 kind.Semicolon ";" ∷ on 5 kind.Chan "chan" ∷ on 5 kind.Name "q0" ∷ on 5 kind.Assign "=" ∷ on 5 kind.OpenBracket "[" ∷
    on 5 kind.Number "2" ∷ on 5 kind.CloseBracket "]" ∷ on 5 kind.Of "of" ∷ on 5 kind.OpenBrace "{" ∷ on 5 kind.Byte "byte" ∷
    on 5 kind.Comma "," ∷ on 5 kind.Mtype "mtype" ∷ on 5 kind.CloseBrace "}" ∷ on 5 kind.Semicolon ";" ∷ on 6 kind.Active "active" ∷
    on 6 kind.Proctype "proctype" ∷ on 6 kind.Name "Watch" ∷ on 6 kind.OpenParen "(" ∷ on 6 kind.CloseParen ")" ∷
    on 6 kind.OpenBrace "{" ∷ on 6 kind.Timeout "timeout" ∷ on 6 kind.Semicolon ";" ∷ on 6 kind.Printf "printf" ∷
    on 6 kind.OpenParen "(" ∷ on 6 kind.Quoted "\"%d %d %d %d %d, %d left\\n\"" ∷ on 6 kind.Comma "," ∷ on 6 kind.Name "t0" ∷
    on 6 kind.Comma "," ∷ on 6 kind.Name "i1" ∷ on 6 kind.Comma "," ∷ on 6 kind.Name "a" ∷ on 6 kind.OpenBracket "[" ∷
    on 6 kind.Number "0" ∷ on 6 kind.CloseBracket "]" ∷ on 6 kind.Comma "," ∷ on 6 kind.Name "a" ∷ on 6 kind.OpenBracket "[" ∷
    on 6 kind.Number "1" ∷ on 6 kind.CloseBracket "]" ∷ on 6 kind.Comma "," ∷ on 6 kind.Len "len" ∷ on 6 kind.OpenParen "(" ∷
    on 6 kind.Name "q0" ∷ on 6 kind.CloseParen ")" ∷ on 6 kind.Comma "," ∷ on 6 kind.Name "_nr_pr" ∷ on 6 kind.CloseParen ")" ∷
    on 6 kind.CloseBrace "}" ∷ on 7 kind.Active "active" ∷ on 7 kind.Proctype "proctype" ∷ on 7 kind.Name "P0" ∷
    on 7 kind.OpenParen "(" ∷ on 7 kind.CloseParen ")" ∷ on 7 kind.OpenBrace "{" ∷ on 7 kind.Byte "byte" ∷ on 7 kind.Name "k" ∷
    on 7 kind.Semicolon ";" ∷ on 7 kind.If "if" ∷ on 7 kind.DoubleColon "::" ∷ on 7 kind.Name "a" ∷ on 7 kind.OpenBracket "[" ∷
    on 7 kind.OpenParen "(" ∷ on 7 kind.Name "m" ∷ on 7 kind.Ampersand "&" ∷ on 7 kind.Number "1" ∷ on 7 kind.CloseParen ")" ∷
    on 7 kind.CloseBracket "]" ∷ on 7 kind.Increment "++" ∷ on 7 kind.DoubleColon "::" ∷ on 7 kind.Name "i1" ∷ on 7 kind.Equal "==" ∷
    on 7 kind.Number "2" ∷ on 7 kind.Arrow "->" ∷ on 7 kind.Name "i1" ∷ on 7 kind.Assign "=" ∷ on 7 kind.OpenParen "(" ∷
    on 7 kind.Tilde "~" ∷ on 7 kind.Number "0" ∷ on 7 kind.CloseParen ")" ∷ on 7 kind.Semicolon ";" ∷ on 7 kind.Name "m" ∷
    on 7 kind.Assign "=" ∷ on 7 kind.Name "_nr_pr" ∷ on 7 kind.DoubleColon "::" ∷ on 7 kind.Else "else" ∷ on 7 kind.Arrow "->" ∷
    on 7 kind.Name "i1" ∷ on 7 kind.Increment "++" ∷ on 7 kind.Fi "fi" ∷ on 7 kind.Semicolon ";" ∷ on 7 kind.DStep "d_step" ∷
    on 7 kind.OpenBrace "{" ∷ on 7 kind.Name "t0" ∷ on 7 kind.Assign "=" ∷ on 7 kind.OpenParen "(" ∷ on 7 kind.OpenParen "(" ∷
    on 7 kind.Number "300" ∷ on 7 kind.Bar "|" ∷ on 7 kind.Number "255" ∷ on 7 kind.CloseParen ")" ∷ on 7 kind.ShiftLeft "<<" ∷
    on 7 kind.Number "3" ∷ on 7 kind.CloseParen ")" ∷ on 7 kind.Semicolon ";" ∷ on 7 kind.Name "m" ∷ on 7 kind.Assign "=" ∷
    on 7 kind.Number "1" ∷ on 7 kind.CloseBrace "}" ∷ on 7 kind.CloseBrace "}" ∷ on 8 kind.Active "active" ∷
    on 8 kind.Proctype "proctype" ∷ on 8 kind.Name "P1" ∷ on 8 kind.OpenParen "(" ∷ on 8 kind.CloseParen ")" ∷
    on 8 kind.OpenBrace "{" ∷ on 8 kind.Byte "byte" ∷ on 8 kind.Name "k" ∷ on 8 kind.Semicolon ";" ∷ on 8 kind.DStep "d_step" ∷
    on 8 kind.OpenBrace "{" ∷ on 8 kind.Name "t0" ∷ on 8 kind.Assign "=" ∷ on 8 kind.OpenParen "(" ∷ on 8 kind.Minus "-" ∷
    on 8 kind.OpenParen "(" ∷ on 8 kind.Number "300" ∷ on 8 kind.ShiftLeft "<<" ∷ on 8 kind.Number "2" ∷ on 8 kind.CloseParen ")" ∷
    on 8 kind.CloseParen ")" ∷ on 8 kind.Semicolon ";" ∷ on 8 kind.Name "t0" ∷ on 8 kind.Assign "=" ∷ on 8 kind.Name "m" ∷
    on 8 kind.CloseBrace "}" ∷ on 8 kind.Semicolon ";" ∷ on 8 kind.If "if" ∷ on 8 kind.DoubleColon "::" ∷ on 8 kind.Name "m" ∷
    on 8 kind.Decrement "--" ∷ on 8 kind.Semicolon ";" ∷ on 8 kind.Name "t0" ∷ on 8 kind.Increment "++" ∷ on 8 kind.Fi "fi" ∷
    on 8 kind.CloseBrace "}" ∷ []

model-ends-397 : Program
unfolding tokens-ends-397
model-ends-397 =
    let at : ℕ → Word = token_at tokens-ends-397 in
    let part : ℕ → ℕ → List Word = tokens_between tokens-ends-397 in
    record {
      globals = (slot (at 11) mtype false 0 1 1 (initial.Value (number 2)) ∷ slot (at 16) bit false 1 1 1 (initial.Value (number 0)) ∷
          slot (at 21) int false 2 1 1 (initial.Value (number 0)) ∷ slot (at 26) short true 3 2 1 initial.Zero ∷ slot (at 32) chan false
          5 1 1 (initial.Channel 2 (byte ∷ mtype ∷ [])) ∷ []);
      constants = ((at 7) ∷ (at 5) ∷ (at 3) ∷ []);
      typedefs = [];
      proctypes = (
          process (at 46) 7 1 0 [] (
          plain (part 50 51) (holds expr.Timeout) ∷
          plain (part 52 77) (action.Printf (at 54) ((read (global 1 bit)) ∷ (read (global 2 int)) ∷ (read (in_global 3 short (turn 0 2
          1 (Some (number 0)) ∷ []))) ∷ (read (in_global 3 short (turn 0 2 1 (Some (number 1)) ∷ []))) ∷ (expr.Ask fill.Length (global
          4 chan)) ∷ expr.ProcessCount ∷ [])) ∷ []) (at 77) ∷
          process (at 80) 8 1 0 (slot (at 85) byte false 0 1 1 initial.Zero ∷ []) (
          if_fi (part 87 119) (
          (plain (part 89 98) (action.Increment (in_global 3 short (turn 0 2 1 (Some (expr.Binary op.BitAnd (read (global 0 mtype))
          (number 1))) ∷ []))) ∷ []) ∷
          (plain (part 99 102) (holds (expr.Binary op.Equal (read (global 2 int)) (number 2))) ∷
          plain (part 103 109) (assign (global 2 int) (expr.Unary before.Complement (number 0))) ∷
          plain (part 110 113) (assign (global 0 mtype) expr.ProcessCount) ∷ []) ∷
          (plain (part 114 115) action.Else ∷
          plain (part 116 118) (action.Increment (global 2 int)) ∷ []) ∷ []) ∷
          d_step (part 120 138) (
          plain (part 122 133) (assign (global 1 bit) (expr.Binary op.ShiftLeft (expr.Binary op.BitOr (number 300) (number 255)) (number 3))) ∷
          plain (part 134 137) (assign (global 0 mtype) (number 1)) ∷ []) ∷ []) (at 138) ∷
          process (at 141) 9 1 0 (slot (at 146) byte false 0 1 1 initial.Zero ∷ []) (
          d_step (part 148 165) (
          plain (part 150 160) (assign (global 1 bit) (expr.Unary before.Minus (expr.Binary op.ShiftLeft (number 300) (number 2)))) ∷
          plain (part 161 164) (assign (global 1 bit) (read (global 0 mtype))) ∷ []) ∷
          if_fi (part 166 174) (
          (plain (part 168 170) (action.Decrement (global 0 mtype)) ∷
          plain (part 171 173) (action.Increment (global 1 bit)) ∷ []) ∷ []) ∷ []) (at 174) ∷ []);
    }

abbrev end-1-of-ends-397 : Printed
end-1-of-ends-397 = shown (codes "0 0 1 0 0, 1 left\n") Valid

abbrev end-2-of-ends-397 : Printed
end-2-of-ends-397 = shown (codes "1 0 1 0 0, 1 left\n") Valid

abbrev end-3-of-ends-397 : Printed
end-3-of-ends-397 = shown (codes "1 0 0 1 0, 1 left\n") Valid

abbrev end-4-of-ends-397 : Printed
end-4-of-ends-397 = shown (codes "0 0 0 1 0, 1 left\n") Valid

paths-of-ends-397 : paths model-ends-397 10 ≡ Some (end-1-of-ends-397 ∷ end-2-of-ends-397 ∷ end-2-of-ends-397 ∷ end-1-of-ends-397 ∷
    end-1-of-ends-397 ∷ end-2-of-ends-397 ∷ end-2-of-ends-397 ∷ end-1-of-ends-397 ∷ end-1-of-ends-397 ∷ end-3-of-ends-397 ∷
    end-4-of-ends-397 ∷ end-4-of-ends-397 ∷ end-4-of-ends-397 ∷ end-4-of-ends-397 ∷ end-4-of-ends-397 ∷ [])
unfolding computes model-ends-397
paths-of-ends-397 = has_paths model-ends-397 10 _ refl

-- mtype = { red, green, blue }; mtype m = green;
-- short s0 = 1;
-- unsigned u1 : 3 = 0;
-- active proctype Watch() { timeout; printf("%d %d, %d left\n", s0, u1, _nr_pr) }
-- active proctype P0() { byte k; if :: ((7 < 255 -> 7 : 1) <= 1); (255 <= 100) :: 1 > u1 -> (s0 == (7 % 3)); u1 = 1 :: else -> (u1 <
--     3) fi }
-- active proctype P1() { byte k; if :: u1 = 2 :: else -> s0 = m fi }
tokens-ends-423 : List Word
tokens-ends-423 =
    on 1 kind.Mtype "mtype" ∷ on 1 kind.Assign "=" ∷ on 1 kind.OpenBrace "{" ∷ on 1 kind.Name "red" ∷ on 1 kind.Comma "," ∷
    on 1 kind.Name "green" ∷ on 1 kind.Comma "," ∷ on 1 kind.Name "blue" ∷ on 1 kind.CloseBrace "}" ∷ on 1 kind.Semicolon ";" ∷
    on 1 kind.Mtype "mtype" ∷ on 1 kind.Name "m" ∷ on 1 kind.Assign "=" ∷ on 1 kind.Name "green" ∷ on 1 kind.Semicolon ";" ∷
    on 2 kind.Short "short" ∷ on 2 kind.Name "s0" ∷ on 2 kind.Assign "=" ∷ on 2 kind.Number "1" ∷ on 2 kind.Semicolon ";" ∷
    on 3 kind.Unsigned "unsigned" ∷ on 3 kind.Name "u1" ∷ on 3 kind.Colon ":" ∷ on 3 kind.Number "3" ∷ on 3 kind.Assign "=" ∷
    on 3 kind.Number "0" ∷ on 3 kind.Semicolon ";" ∷ on 4 kind.Active "active" ∷ on 4 kind.Proctype "proctype" ∷
    on 4 kind.Name "Watch" ∷ on 4 kind.OpenParen "(" ∷ on 4 kind.CloseParen ")" ∷ on 4 kind.OpenBrace "{" ∷
    on 4 kind.Timeout "timeout" ∷ on 4 kind.Semicolon ";" ∷ on 4 kind.Printf "printf" ∷ on 4 kind.OpenParen "(" ∷
    on 4 kind.Quoted "\"%d %d, %d left\\n\"" ∷ on 4 kind.Comma "," ∷ on 4 kind.Name "s0" ∷ on 4 kind.Comma "," ∷
    on 4 kind.Name "u1" ∷ on 4 kind.Comma "," ∷ on 4 kind.Name "_nr_pr" ∷ on 4 kind.CloseParen ")" ∷ on 4 kind.CloseBrace "}" ∷
    on 5 kind.Active "active" ∷ on 5 kind.Proctype "proctype" ∷ on 5 kind.Name "P0" ∷ on 5 kind.OpenParen "(" ∷
    on 5 kind.CloseParen ")" ∷ on 5 kind.OpenBrace "{" ∷ on 5 kind.Byte "byte" ∷ on 5 kind.Name "k" ∷ on 5 kind.Semicolon ";" ∷
    on 5 kind.If "if" ∷ on 5 kind.DoubleColon "::" ∷ on 5 kind.OpenParen "(" ∷ on 5 kind.OpenParen "(" ∷ on 5 kind.Number "7" ∷
    on 5 kind.Less "<" ∷ on 5 kind.Number "255" ∷ on 5 kind.Arrow "->" ∷ on 5 kind.Number "7" ∷ on 5 kind.Colon ":" ∷
    on 5 kind.Number "1" ∷ on 5 kind.CloseParen ")" ∷ on 5 kind.AtMost "<=" ∷ on 5 kind.Number "1" ∷ on 5 kind.CloseParen ")" ∷
    on 5 kind.Semicolon ";" ∷ on 5 kind.OpenParen "(" ∷ on 5 kind.Number "255" ∷ on 5 kind.AtMost "<=" ∷ on 5 kind.Number "100" ∷
    on 5 kind.CloseParen ")" ∷ on 5 kind.DoubleColon "::" ∷ on 5 kind.Number "1" ∷ on 5 kind.Greater ">" ∷ on 5 kind.Name "u1" ∷
    on 5 kind.Arrow "->" ∷ on 5 kind.OpenParen "(" ∷ on 5 kind.Name "s0" ∷ on 5 kind.Equal "==" ∷ on 5 kind.OpenParen "(" ∷
    on 5 kind.Number "7" ∷ on 5 kind.Percent "%" ∷ on 5 kind.Number "3" ∷ on 5 kind.CloseParen ")" ∷ on 5 kind.CloseParen ")" ∷
    on 5 kind.Semicolon ";" ∷ on 5 kind.Name "u1" ∷ on 5 kind.Assign "=" ∷ on 5 kind.Number "1" ∷ on 5 kind.DoubleColon "::" ∷
    on 5 kind.Else "else" ∷ on 5 kind.Arrow "->" ∷ on 5 kind.OpenParen "(" ∷ on 5 kind.Name "u1" ∷ on 5 kind.Less "<" ∷
    on 5 kind.Number "3" ∷ on 5 kind.CloseParen ")" ∷ on 5 kind.Fi "fi" ∷ on 5 kind.CloseBrace "}" ∷ on 6 kind.Active "active" ∷
    on 6 kind.Proctype "proctype" ∷ on 6 kind.Name "P1" ∷ on 6 kind.OpenParen "(" ∷ on 6 kind.CloseParen ")" ∷
    on 6 kind.OpenBrace "{" ∷ on 6 kind.Byte "byte" ∷ on 6 kind.Name "k" ∷ on 6 kind.Semicolon ";" ∷ on 6 kind.If "if" ∷
    on 6 kind.DoubleColon "::" ∷ on 6 kind.Name "u1" ∷ on 6 kind.Assign "=" ∷ on 6 kind.Number "2" ∷ on 6 kind.DoubleColon "::" ∷
    on 6 kind.Else "else" ∷ on 6 kind.Arrow "->" ∷ on 6 kind.Name "s0" ∷ on 6 kind.Assign "=" ∷ on 6 kind.Name "m" ∷
    on 6 kind.Fi "fi" ∷ on 6 kind.CloseBrace "}" ∷ []

model-ends-423 : Program
unfolding tokens-ends-423
model-ends-423 =
    let at : ℕ → Word = token_at tokens-ends-423 in
    let part : ℕ → ℕ → List Word = tokens_between tokens-ends-423 in
    record {
      globals = (slot (at 11) mtype false 0 1 1 (initial.Value (number 2)) ∷ slot (at 16) short false 1 1 1 (initial.Value (number 1))
          ∷ slot (at 21) (form.Unsigned 3) false 2 1 1 (initial.Value (number 0)) ∷ []);
      constants = ((at 7) ∷ (at 5) ∷ (at 3) ∷ []);
      typedefs = [];
      proctypes = (
          process (at 29) 5 1 0 [] (
          plain (part 33 34) (holds expr.Timeout) ∷
          plain (part 35 45) (action.Printf (at 37) ((read (global 1 short)) ∷ (read (global 2 (form.Unsigned 3))) ∷ expr.ProcessCount ∷
          [])) ∷ []) (at 45) ∷
          process (at 48) 6 1 0 (slot (at 53) byte false 0 1 1 initial.Zero ∷ []) (
          if_fi (part 55 103) (
          (plain (part 57 70) (holds (expr.Binary op.AtMost (expr.Choice (expr.Binary op.Below (number 7) (number 255)) (number 7)
          (number 1)) (number 1))) ∷
          plain (part 71 76) (holds (expr.Binary op.AtMost (number 255) (number 100))) ∷ []) ∷
          (plain (part 77 80) (holds (expr.Binary op.Above (number 1) (read (global 2 (form.Unsigned 3))))) ∷
          plain (part 81 90) (holds (expr.Binary op.Equal (read (global 1 short)) (expr.Binary op.Remainder (number 7) (number 3)))) ∷
          plain (part 91 94) (assign (global 2 (form.Unsigned 3)) (number 1)) ∷ []) ∷
          (plain (part 95 96) action.Else ∷
          plain (part 97 102) (holds (expr.Binary op.Below (read (global 2 (form.Unsigned 3))) (number 3))) ∷ []) ∷ []) ∷ []) (at 103) ∷
          process (at 106) 7 1 0 (slot (at 111) byte false 0 1 1 initial.Zero ∷ []) (
          if_fi (part 113 125) (
          (plain (part 115 118) (assign (global 2 (form.Unsigned 3)) (number 2)) ∷ []) ∷
          (plain (part 119 120) action.Else ∷
          plain (part 121 124) (assign (global 1 short) (read (global 0 mtype))) ∷ []) ∷ []) ∷ []) (at 125) ∷ []);
    }

abbrev end-1-of-ends-423 : Printed
end-1-of-ends-423 = shown (codes "1 2, 1 left\n") Valid

abbrev end-2-of-ends-423 : Printed
end-2-of-ends-423 = shown (codes "1 1, 1 left\n") Valid

paths-of-ends-423 : paths model-ends-423 9 ≡ Some (end-1-of-ends-423 ∷ end-2-of-ends-423 ∷ end-2-of-ends-423 ∷ end-2-of-ends-423 ∷
    end-2-of-ends-423 ∷ end-2-of-ends-423 ∷ end-1-of-ends-423 ∷ end-1-of-ends-423 ∷ end-1-of-ends-423 ∷ [])
unfolding computes model-ends-423
paths-of-ends-423 = has_paths model-ends-423 9 _ refl

-- mtype = { red, green, blue }; mtype m = green;
-- unsigned u0 : 3 = 1;
-- int a[2];
-- chan q0 = [1] of { byte };
-- active proctype Watch() { timeout; printf("%d %d %d %d, %d left\n", u0, a[0], a[1], len(q0), _nr_pr) }
-- active proctype P0() { byte k; if :: u0--; u0++ :: q0!!2; u0-- fi }
-- active proctype P1() { byte k; d_step { a[0] = _nr_pr; u0 = u0 }; if :: (0 != (3 != 1 -> 7 : 7) && 0 == 1) -> u0 = u0; (3 <= 7) ::
--     q0!(300 << 1) fi }
tokens-ends-428 : List Word
tokens-ends-428 =
    on 1 kind.Mtype "mtype" ∷ on 1 kind.Assign "=" ∷ on 1 kind.OpenBrace "{" ∷ on 1 kind.Name "red" ∷ on 1 kind.Comma "," ∷
    on 1 kind.Name "green" ∷ on 1 kind.Comma "," ∷ on 1 kind.Name "blue" ∷ on 1 kind.CloseBrace "}" ∷ on 1 kind.Semicolon ";" ∷
    on 1 kind.Mtype "mtype" ∷ on 1 kind.Name "m" ∷ on 1 kind.Assign "=" ∷ on 1 kind.Name "green" ∷ on 1 kind.Semicolon ";" ∷
    on 2 kind.Unsigned "unsigned" ∷ on 2 kind.Name "u0" ∷ on 2 kind.Colon ":" ∷ on 2 kind.Number "3" ∷ on 2 kind.Assign "=" ∷
    on 2 kind.Number "1" ∷ on 2 kind.Semicolon ";" ∷ on 3 kind.Int "int" ∷ on 3 kind.Name "a" ∷ on 3 kind.OpenBracket "[" ∷
    on 3 kind.Number "2" ∷ on 3 kind.CloseBracket "]" ∷ on 3 kind.Semicolon ";" ∷ on 4 kind.Chan "chan" ∷ on 4 kind.Name "q0" ∷
    on 4 kind.Assign "=" ∷ on 4 kind.OpenBracket "[" ∷ on 4 kind.Number "1" ∷ on 4 kind.CloseBracket "]" ∷ on 4 kind.Of "of" ∷
    on 4 kind.OpenBrace "{" ∷ on 4 kind.Byte "byte" ∷ on 4 kind.CloseBrace "}" ∷ on 4 kind.Semicolon ";" ∷
    on 5 kind.Active "active" ∷ on 5 kind.Proctype "proctype" ∷ on 5 kind.Name "Watch" ∷ on 5 kind.OpenParen "(" ∷
    on 5 kind.CloseParen ")" ∷ on 5 kind.OpenBrace "{" ∷ on 5 kind.Timeout "timeout" ∷ on 5 kind.Semicolon ";" ∷
    on 5 kind.Printf "printf" ∷ on 5 kind.OpenParen "(" ∷ on 5 kind.Quoted "\"%d %d %d %d, %d left\\n\"" ∷ on 5 kind.Comma "," ∷
    on 5 kind.Name "u0" ∷ on 5 kind.Comma "," ∷ on 5 kind.Name "a" ∷ on 5 kind.OpenBracket "[" ∷ on 5 kind.Number "0" ∷
    on 5 kind.CloseBracket "]" ∷ on 5 kind.Comma "," ∷ on 5 kind.Name "a" ∷ on 5 kind.OpenBracket "[" ∷ on 5 kind.Number "1" ∷
    on 5 kind.CloseBracket "]" ∷ on 5 kind.Comma "," ∷ on 5 kind.Len "len" ∷ on 5 kind.OpenParen "(" ∷ on 5 kind.Name "q0" ∷
    on 5 kind.CloseParen ")" ∷ on 5 kind.Comma "," ∷ on 5 kind.Name "_nr_pr" ∷ on 5 kind.CloseParen ")" ∷ on 5 kind.CloseBrace "}" ∷
    on 6 kind.Active "active" ∷ on 6 kind.Proctype "proctype" ∷ on 6 kind.Name "P0" ∷ on 6 kind.OpenParen "(" ∷
    on 6 kind.CloseParen ")" ∷ on 6 kind.OpenBrace "{" ∷ on 6 kind.Byte "byte" ∷ on 6 kind.Name "k" ∷ on 6 kind.Semicolon ";" ∷
    on 6 kind.If "if" ∷ on 6 kind.DoubleColon "::" ∷ on 6 kind.Name "u0" ∷ on 6 kind.Decrement "--" ∷ on 6 kind.Semicolon ";" ∷
    on 6 kind.Name "u0" ∷ on 6 kind.Increment "++" ∷ on 6 kind.DoubleColon "::" ∷ on 6 kind.Name "q0" ∷ on 6 kind.BangBang "!!" ∷
    on 6 kind.Number "2" ∷ on 6 kind.Semicolon ";" ∷ on 6 kind.Name "u0" ∷ on 6 kind.Decrement "--" ∷ on 6 kind.Fi "fi" ∷
    on 6 kind.CloseBrace "}" ∷ on 7 kind.Active "active" ∷ on 7 kind.Proctype "proctype" ∷ on 7 kind.Name "P1" ∷
    on 7 kind.OpenParen "(" ∷ on 7 kind.CloseParen ")" ∷ on 7 kind.OpenBrace "{" ∷ on 7 kind.Byte "byte" ∷ on 7 kind.Name "k" ∷
    on 7 kind.Semicolon ";" ∷ on 7 kind.DStep "d_step" ∷ on 7 kind.OpenBrace "{" ∷ on 7 kind.Name "a" ∷ on 7 kind.OpenBracket "[" ∷
    on 7 kind.Number "0" ∷ on 7 kind.CloseBracket "]" ∷ on 7 kind.Assign "=" ∷ on 7 kind.Name "_nr_pr" ∷ on 7 kind.Semicolon ";" ∷
    on 7 kind.Name "u0" ∷ on 7 kind.Assign "=" ∷ on 7 kind.Name "u0" ∷ on 7 kind.CloseBrace "}" ∷ on 7 kind.Semicolon ";" ∷
    on 7 kind.If "if" ∷ on 7 kind.DoubleColon "::" ∷ on 7 kind.OpenParen "(" ∷ on 7 kind.Number "0" ∷ on 7 kind.Unequal "!=" ∷
    on 7 kind.OpenParen "(" ∷ on 7 kind.Number "3" ∷ on 7 kind.Unequal "!=" ∷ on 7 kind.Number "1" ∷ on 7 kind.Arrow "->" ∷
    on 7 kind.Number "7" ∷ on 7 kind.Colon ":" ∷ on 7 kind.Number "7" ∷ on 7 kind.CloseParen ")" ∷ on 7 kind.AndAnd "&&" ∷
    on 7 kind.Number "0" ∷ on 7 kind.Equal "==" ∷ on 7 kind.Number "1" ∷ on 7 kind.CloseParen ")" ∷ on 7 kind.Arrow "->" ∷
    on 7 kind.Name "u0" ∷ on 7 kind.Assign "=" ∷ on 7 kind.Name "u0" ∷ on 7 kind.Semicolon ";" ∷ on 7 kind.OpenParen "(" ∷
    on 7 kind.Number "3" ∷ on 7 kind.AtMost "<=" ∷ on 7 kind.Number "7" ∷ on 7 kind.CloseParen ")" ∷ on 7 kind.DoubleColon "::" ∷
    on 7 kind.Name "q0" ∷ on 7 kind.Bang "!" ∷ on 7 kind.OpenParen "(" ∷ on 7 kind.Number "300" ∷ on 7 kind.ShiftLeft "<<" ∷
    on 7 kind.Number "1" ∷ on 7 kind.CloseParen ")" ∷ on 7 kind.Fi "fi" ∷ on 7 kind.CloseBrace "}" ∷ []

model-ends-428 : Program
unfolding tokens-ends-428
model-ends-428 =
    let at : ℕ → Word = token_at tokens-ends-428 in
    let part : ℕ → ℕ → List Word = tokens_between tokens-ends-428 in
    record {
      globals = (slot (at 11) mtype false 0 1 1 (initial.Value (number 2)) ∷ slot (at 16) (form.Unsigned 3) false 1 1 1 (initial.Value
          (number 1)) ∷ slot (at 23) int true 2 2 1 initial.Zero ∷ slot (at 29) chan false 4 1 1 (initial.Channel 1 (byte ∷ [])) ∷ []);
      constants = ((at 7) ∷ (at 5) ∷ (at 3) ∷ []);
      typedefs = [];
      proctypes = (
          process (at 41) 6 1 0 [] (
          plain (part 45 46) (holds expr.Timeout) ∷
          plain (part 47 70) (action.Printf (at 49) ((read (global 1 (form.Unsigned 3))) ∷ (read (in_global 2 int (turn 0 2 1 (Some
          (number 0)) ∷ []))) ∷ (read (in_global 2 int (turn 0 2 1 (Some (number 1)) ∷ []))) ∷ (expr.Ask fill.Length (global 3 chan))
          ∷ expr.ProcessCount ∷ [])) ∷ []) (at 70) ∷
          process (at 73) 7 1 0 (slot (at 78) byte false 0 1 1 initial.Zero ∷ []) (
          if_fi (part 80 95) (
          (plain (part 82 84) (action.Decrement (global 1 (form.Unsigned 3))) ∷
          plain (part 85 87) (action.Increment (global 1 (form.Unsigned 3))) ∷ []) ∷
          (plain (part 88 91) (action.Send (global 3 chan) Sorted ((number 2) ∷ [])) ∷
          plain (part 92 94) (action.Decrement (global 1 (form.Unsigned 3))) ∷ []) ∷ []) ∷ []) (at 95) ∷
          process (at 98) 8 1 0 (slot (at 103) byte false 0 1 1 initial.Zero ∷ []) (
          d_step (part 105 118) (
          plain (part 107 113) (assign (in_global 2 int (turn 0 2 1 (Some (number 0)) ∷ [])) expr.ProcessCount) ∷
          plain (part 114 117) (assign (global 1 (form.Unsigned 3)) (read (global 1 (form.Unsigned 3)))) ∷ []) ∷
          if_fi (part 119 157) (
          (plain (part 121 138) (holds (expr.Binary op.And (expr.Binary op.Unequal (number 0) (expr.Choice (expr.Binary op.Unequal
          (number 3) (number 1)) (number 7) (number 7))) (expr.Binary op.Equal (number 0) (number 1)))) ∷
          plain (part 139 142) (assign (global 1 (form.Unsigned 3)) (read (global 1 (form.Unsigned 3)))) ∷
          plain (part 143 148) (holds (expr.Binary op.AtMost (number 3) (number 7))) ∷ []) ∷
          (plain (part 149 156) (action.Send (global 3 chan) Fifo ((expr.Binary op.ShiftLeft (number 300) (number 1)) ∷ [])) ∷ []) ∷ [])
          ∷ []) (at 157) ∷ []);
    }

abbrev end-1-of-ends-428 : Printed
end-1-of-ends-428 = shown (codes "1 3 0 1, 1 left\n") Valid

abbrev end-2-of-ends-428 : Printed
end-2-of-ends-428 = shown (codes "0 3 0 1, 3 left\n") Invalid

paths-of-ends-428 : paths model-ends-428 9 ≡ Some (end-1-of-ends-428 ∷ end-1-of-ends-428 ∷ end-1-of-ends-428 ∷ end-1-of-ends-428 ∷
    end-2-of-ends-428 ∷ end-2-of-ends-428 ∷ end-1-of-ends-428 ∷ end-1-of-ends-428 ∷ end-1-of-ends-428 ∷ end-2-of-ends-428 ∷
    end-1-of-ends-428 ∷ end-1-of-ends-428 ∷ end-1-of-ends-428 ∷ [])
unfolding computes model-ends-428
paths-of-ends-428 = has_paths model-ends-428 9 _ refl

-- unsigned u0 : 3 = 1;
-- bit t1 = 1;
-- byte a[2];
-- chan q0 = [0] of { byte };
-- active proctype Watch() { timeout; printf("%d %d %d %d %d, %d left\n", u0, t1, a[0], a[1], len(q0), _nr_pr) }
-- active proctype P0() { byte k; u0++; if :: q0?1; q0!a[(u0 & 1)] :: u0 = 1; q0?t1 fi }
-- active proctype P1() { byte k; a[(u0 & 1)] = 3; if :: q0!!(255 != 7 -> 0 : 2); (((7 > 300 -> 0 : 2) == (!2) && 100 >= 100)) :: 1 >
--     u0 -> a[(t1 & 1)]++; u0-- fi }
tokens-ends-457 : List Word
tokens-ends-457 =
    on 1 kind.Unsigned "unsigned" ∷ on 1 kind.Name "u0" ∷ on 1 kind.Colon ":" ∷ on 1 kind.Number "3" ∷ on 1 kind.Assign "=" ∷
    on 1 kind.Number "1" ∷ on 1 kind.Semicolon ";" ∷ on 2 kind.Bit "bit" ∷ on 2 kind.Name "t1" ∷ on 2 kind.Assign "=" ∷
    on 2 kind.Number "1" ∷ on 2 kind.Semicolon ";" ∷ on 3 kind.Byte "byte" ∷ on 3 kind.Name "a" ∷ on 3 kind.OpenBracket "[" ∷
    on 3 kind.Number "2" ∷ on 3 kind.CloseBracket "]" ∷ on 3 kind.Semicolon ";" ∷ on 4 kind.Chan "chan" ∷ on 4 kind.Name "q0" ∷
    on 4 kind.Assign "=" ∷ on 4 kind.OpenBracket "[" ∷ on 4 kind.Number "0" ∷ on 4 kind.CloseBracket "]" ∷ on 4 kind.Of "of" ∷
    on 4 kind.OpenBrace "{" ∷ on 4 kind.Byte "byte" ∷ on 4 kind.CloseBrace "}" ∷ on 4 kind.Semicolon ";" ∷
    on 5 kind.Active "active" ∷ on 5 kind.Proctype "proctype" ∷ on 5 kind.Name "Watch" ∷ on 5 kind.OpenParen "(" ∷
    on 5 kind.CloseParen ")" ∷ on 5 kind.OpenBrace "{" ∷ on 5 kind.Timeout "timeout" ∷ on 5 kind.Semicolon ";" ∷
    on 5 kind.Printf "printf" ∷ on 5 kind.OpenParen "(" ∷ on 5 kind.Quoted "\"%d %d %d %d %d, %d left\\n\"" ∷ on 5 kind.Comma "," ∷
    on 5 kind.Name "u0" ∷ on 5 kind.Comma "," ∷ on 5 kind.Name "t1" ∷ on 5 kind.Comma "," ∷ on 5 kind.Name "a" ∷
    on 5 kind.OpenBracket "[" ∷ on 5 kind.Number "0" ∷ on 5 kind.CloseBracket "]" ∷ on 5 kind.Comma "," ∷ on 5 kind.Name "a" ∷
    on 5 kind.OpenBracket "[" ∷ on 5 kind.Number "1" ∷ on 5 kind.CloseBracket "]" ∷ on 5 kind.Comma "," ∷ on 5 kind.Len "len" ∷
    on 5 kind.OpenParen "(" ∷ on 5 kind.Name "q0" ∷ on 5 kind.CloseParen ")" ∷ on 5 kind.Comma "," ∷ on 5 kind.Name "_nr_pr" ∷
    on 5 kind.CloseParen ")" ∷ on 5 kind.CloseBrace "}" ∷ on 6 kind.Active "active" ∷ on 6 kind.Proctype "proctype" ∷
    on 6 kind.Name "P0" ∷ on 6 kind.OpenParen "(" ∷ on 6 kind.CloseParen ")" ∷ on 6 kind.OpenBrace "{" ∷ on 6 kind.Byte "byte" ∷
    on 6 kind.Name "k" ∷ on 6 kind.Semicolon ";" ∷ on 6 kind.Name "u0" ∷ on 6 kind.Increment "++" ∷ on 6 kind.Semicolon ";" ∷
    on 6 kind.If "if" ∷ on 6 kind.DoubleColon "::" ∷ on 6 kind.Name "q0" ∷ on 6 kind.Query "?" ∷ on 6 kind.Number "1" ∷
    on 6 kind.Semicolon ";" ∷ on 6 kind.Name "q0" ∷ on 6 kind.Bang "!" ∷ on 6 kind.Name "a" ∷ on 6 kind.OpenBracket "[" ∷
    on 6 kind.OpenParen "(" ∷ on 6 kind.Name "u0" ∷ on 6 kind.Ampersand "&" ∷ on 6 kind.Number "1" ∷ on 6 kind.CloseParen ")" ∷
    on 6 kind.CloseBracket "]" ∷ on 6 kind.DoubleColon "::" ∷ on 6 kind.Name "u0" ∷ on 6 kind.Assign "=" ∷ on 6 kind.Number "1" ∷
    on 6 kind.Semicolon ";" ∷ on 6 kind.Name "q0" ∷ on 6 kind.Query "?" ∷ on 6 kind.Name "t1" ∷ on 6 kind.Fi "fi" ∷
    on 6 kind.CloseBrace "}" ∷ on 7 kind.Active "active" ∷ on 7 kind.Proctype "proctype" ∷ on 7 kind.Name "P1" ∷
    on 7 kind.OpenParen "(" ∷ on 7 kind.CloseParen ")" ∷ on 7 kind.OpenBrace "{" ∷ on 7 kind.Byte "byte" ∷ on 7 kind.Name "k" ∷
    on 7 kind.Semicolon ";" ∷ on 7 kind.Name "a" ∷ on 7 kind.OpenBracket "[" ∷ on 7 kind.OpenParen "(" ∷ on 7 kind.Name "u0" ∷
    on 7 kind.Ampersand "&" ∷ on 7 kind.Number "1" ∷ on 7 kind.CloseParen ")" ∷ on 7 kind.CloseBracket "]" ∷ on 7 kind.Assign "=" ∷
    on 7 kind.Number "3" ∷ on 7 kind.Semicolon ";" ∷ on 7 kind.If "if" ∷ on 7 kind.DoubleColon "::" ∷ on 7 kind.Name "q0" ∷
    on 7 kind.BangBang "!!" ∷ on 7 kind.OpenParen "(" ∷ on 7 kind.Number "255" ∷ on 7 kind.Unequal "!=" ∷ on 7 kind.Number "7" ∷
    on 7 kind.Arrow "->" ∷ on 7 kind.Number "0" ∷ on 7 kind.Colon ":" ∷ on 7 kind.Number "2" ∷ on 7 kind.CloseParen ")" ∷
    on 7 kind.Semicolon ";" ∷ on 7 kind.OpenParen "(" ∷ on 7 kind.OpenParen "(" ∷ on 7 kind.OpenParen "(" ∷ on 7 kind.Number "7" ∷
    on 7 kind.Greater ">" ∷ on 7 kind.Number "300" ∷ on 7 kind.Arrow "->" ∷ on 7 kind.Number "0" ∷ on 7 kind.Colon ":" ∷
    on 7 kind.Number "2" ∷ on 7 kind.CloseParen ")" ∷ on 7 kind.Equal "==" ∷ on 7 kind.OpenParen "(" ∷ on 7 kind.Bang "!" ∷
    on 7 kind.Number "2" ∷ on 7 kind.CloseParen ")" ∷ on 7 kind.AndAnd "&&" ∷ on 7 kind.Number "100" ∷ on 7 kind.AtLeast ">=" ∷
    on 7 kind.Number "100" ∷ on 7 kind.CloseParen ")" ∷ on 7 kind.CloseParen ")" ∷ on 7 kind.DoubleColon "::" ∷
    on 7 kind.Number "1" ∷ on 7 kind.Greater ">" ∷ on 7 kind.Name "u0" ∷ on 7 kind.Arrow "->" ∷ on 7 kind.Name "a" ∷
    on 7 kind.OpenBracket "[" ∷ on 7 kind.OpenParen "(" ∷ on 7 kind.Name "t1" ∷ on 7 kind.Ampersand "&" ∷ on 7 kind.Number "1" ∷
    on 7 kind.CloseParen ")" ∷ on 7 kind.CloseBracket "]" ∷ on 7 kind.Increment "++" ∷ on 7 kind.Semicolon ";" ∷
    on 7 kind.Name "u0" ∷ on 7 kind.Decrement "--" ∷ on 7 kind.Fi "fi" ∷ on 7 kind.CloseBrace "}" ∷ []

model-ends-457 : Program
unfolding tokens-ends-457
model-ends-457 =
    let at : ℕ → Word = token_at tokens-ends-457 in
    let part : ℕ → ℕ → List Word = tokens_between tokens-ends-457 in
    record {
      globals = (slot (at 1) (form.Unsigned 3) false 0 1 1 (initial.Value (number 1)) ∷ slot (at 8) bit false 1 1 1 (initial.Value
          (number 1)) ∷ slot (at 13) byte true 2 2 1 initial.Zero ∷ slot (at 19) chan false 4 1 1 (initial.Channel 0 (byte ∷ [])) ∷ []);
      constants = [];
      typedefs = [];
      proctypes = (
          process (at 31) 5 1 0 [] (
          plain (part 35 36) (holds expr.Timeout) ∷
          plain (part 37 62) (action.Printf (at 39) ((read (global 0 (form.Unsigned 3))) ∷ (read (global 1 bit)) ∷ (read (in_global 2
          byte (turn 0 2 1 (Some (number 0)) ∷ []))) ∷ (read (in_global 2 byte (turn 0 2 1 (Some (number 1)) ∷ []))) ∷ (expr.Ask
          fill.Length (global 3 chan)) ∷ expr.ProcessCount ∷ [])) ∷ []) (at 62) ∷
          process (at 65) 6 1 0 (slot (at 70) byte false 0 1 1 initial.Zero ∷ []) (
          plain (part 72 74) (action.Increment (global 0 (form.Unsigned 3))) ∷
          if_fi (part 75 100) (
          (plain (part 77 80) (action.Receive (global 3 chan) First Remove (want.Exactly (pos 1) ∷ [])) ∷
          plain (part 81 91) (action.Send (global 3 chan) Fifo ((read (in_global 2 byte (turn 0 2 1 (Some (expr.Binary op.BitAnd (read
          (global 0 (form.Unsigned 3))) (number 1))) ∷ []))) ∷ [])) ∷ []) ∷
          (plain (part 92 95) (assign (global 0 (form.Unsigned 3)) (number 1)) ∷
          plain (part 96 99) (action.Receive (global 3 chan) First Remove (want.Into (global 1 bit) ∷ [])) ∷ []) ∷ []) ∷ []) (at 100) ∷
          process (at 103) 7 1 0 (slot (at 108) byte false 0 1 1 initial.Zero ∷ []) (
          plain (part 110 120) (assign (in_global 2 byte (turn 0 2 1 (Some (expr.Binary op.BitAnd (read (global 0 (form.Unsigned 3)))
          (number 1))) ∷ [])) (number 3)) ∷
          if_fi (part 121 175) (
          (plain (part 123 134) (action.Send (global 3 chan) Sorted ((expr.Choice (expr.Binary op.Unequal (number 255) (number 7))
          (number 0) (number 2)) ∷ [])) ∷
          plain (part 135 157) (holds (expr.Binary op.And (expr.Binary op.Equal (expr.Choice (expr.Binary op.Above (number 7) (number
          300)) (number 0) (number 2)) (expr.Unary before.Not (number 2))) (expr.Binary op.AtLeast (number 100) (number 100)))) ∷ [])
          ∷
          (plain (part 158 161) (holds (expr.Binary op.Above (number 1) (read (global 0 (form.Unsigned 3))))) ∷
          plain (part 162 171) (action.Increment (in_global 2 byte (turn 0 2 1 (Some (expr.Binary op.BitAnd (read (global 1 bit))
          (number 1))) ∷ []))) ∷
          plain (part 172 174) (action.Decrement (global 0 (form.Unsigned 3))) ∷ []) ∷ []) ∷ []) (at 175) ∷ []);
    }

abbrev end-1-of-ends-457 : Printed
end-1-of-ends-457 = shown (codes "1 0 0 3 0, 3 left\n") Invalid

abbrev end-2-of-ends-457 : Printed
end-2-of-ends-457 = shown (codes "1 0 3 0 0, 3 left\n") Invalid

paths-of-ends-457 : paths model-ends-457 6 ≡ Some (end-1-of-ends-457 ∷ end-2-of-ends-457 ∷ end-1-of-ends-457 ∷ [])
unfolding computes model-ends-457
paths-of-ends-457 = has_paths model-ends-457 6 _ refl

-- int i0 = 0;
-- active proctype Watch() { timeout; printf("%d, %d left\n", i0, _nr_pr) }
-- active proctype P0() { byte k; if :: i0++ :: i0 = (i0 - i0) :: else -> i0 = 7 fi }
-- proctype Q(byte n) { (n != (300 + 100)); ((-1) < (7 + 300)) }
-- init { run Q(0) }
tokens-ends-477 : List Word
tokens-ends-477 =
    on 1 kind.Int "int" ∷ on 1 kind.Name "i0" ∷ on 1 kind.Assign "=" ∷ on 1 kind.Number "0" ∷ on 1 kind.Semicolon ";" ∷
    on 2 kind.Active "active" ∷ on 2 kind.Proctype "proctype" ∷ on 2 kind.Name "Watch" ∷ on 2 kind.OpenParen "(" ∷
    on 2 kind.CloseParen ")" ∷ on 2 kind.OpenBrace "{" ∷ on 2 kind.Timeout "timeout" ∷ on 2 kind.Semicolon ";" ∷
    on 2 kind.Printf "printf" ∷ on 2 kind.OpenParen "(" ∷ on 2 kind.Quoted "\"%d, %d left\\n\"" ∷ on 2 kind.Comma "," ∷
    on 2 kind.Name "i0" ∷ on 2 kind.Comma "," ∷ on 2 kind.Name "_nr_pr" ∷ on 2 kind.CloseParen ")" ∷ on 2 kind.CloseBrace "}" ∷
    on 3 kind.Active "active" ∷ on 3 kind.Proctype "proctype" ∷ on 3 kind.Name "P0" ∷ on 3 kind.OpenParen "(" ∷
    on 3 kind.CloseParen ")" ∷ on 3 kind.OpenBrace "{" ∷ on 3 kind.Byte "byte" ∷ on 3 kind.Name "k" ∷ on 3 kind.Semicolon ";" ∷
    on 3 kind.If "if" ∷ on 3 kind.DoubleColon "::" ∷ on 3 kind.Name "i0" ∷ on 3 kind.Increment "++" ∷ on 3 kind.DoubleColon "::" ∷
    on 3 kind.Name "i0" ∷ on 3 kind.Assign "=" ∷ on 3 kind.OpenParen "(" ∷ on 3 kind.Name "i0" ∷ on 3 kind.Minus "-" ∷
    on 3 kind.Name "i0" ∷ on 3 kind.CloseParen ")" ∷ on 3 kind.DoubleColon "::" ∷ on 3 kind.Else "else" ∷ on 3 kind.Arrow "->" ∷
    on 3 kind.Name "i0" ∷ on 3 kind.Assign "=" ∷ on 3 kind.Number "7" ∷ on 3 kind.Fi "fi" ∷ on 3 kind.CloseBrace "}" ∷
    on 4 kind.Proctype "proctype" ∷ on 4 kind.Name "Q" ∷ on 4 kind.OpenParen "(" ∷ on 4 kind.Byte "byte" ∷ on 4 kind.Name "n" ∷
    on 4 kind.CloseParen ")" ∷ on 4 kind.OpenBrace "{" ∷ on 4 kind.OpenParen "(" ∷ on 4 kind.Name "n" ∷ on 4 kind.Unequal "!=" ∷
    on 4 kind.OpenParen "(" ∷ on 4 kind.Number "300" ∷ on 4 kind.Plus "+" ∷ on 4 kind.Number "100" ∷ on 4 kind.CloseParen ")" ∷
    on 4 kind.CloseParen ")" ∷ on 4 kind.Semicolon ";" ∷ on 4 kind.OpenParen "(" ∷ on 4 kind.OpenParen "(" ∷ on 4 kind.Minus "-" ∷
    on 4 kind.Number "1" ∷ on 4 kind.CloseParen ")" ∷ on 4 kind.Less "<" ∷ on 4 kind.OpenParen "(" ∷ on 4 kind.Number "7" ∷
    on 4 kind.Plus "+" ∷ on 4 kind.Number "300" ∷ on 4 kind.CloseParen ")" ∷ on 4 kind.CloseParen ")" ∷ on 4 kind.CloseBrace "}" ∷
    on 5 kind.Init "init" ∷ on 5 kind.OpenBrace "{" ∷ on 5 kind.Run "run" ∷ on 5 kind.Name "Q" ∷ on 5 kind.OpenParen "(" ∷
    on 5 kind.Number "0" ∷ on 5 kind.CloseParen ")" ∷ on 5 kind.CloseBrace "}" ∷ []

model-ends-477 : Program
unfolding tokens-ends-477
model-ends-477 =
    let at : ℕ → Word = token_at tokens-ends-477 in
    let part : ℕ → ℕ → List Word = tokens_between tokens-ends-477 in
    record {
      globals = (slot (at 1) int false 0 1 1 (initial.Value (number 0)) ∷ []);
      constants = [];
      typedefs = [];
      proctypes = (
          process (at 7) 2 1 0 [] (
          plain (part 11 12) (holds expr.Timeout) ∷
          plain (part 13 21) (action.Printf (at 15) ((read (global 0 int)) ∷ expr.ProcessCount ∷ [])) ∷ []) (at 21) ∷
          process (at 24) 3 1 0 (slot (at 29) byte false 0 1 1 initial.Zero ∷ []) (
          if_fi (part 31 50) (
          (plain (part 33 35) (action.Increment (global 0 int)) ∷ []) ∷
          (plain (part 36 43) (assign (global 0 int) (expr.Binary op.Minus (read (global 0 int)) (read (global 0 int)))) ∷ []) ∷
          (plain (part 44 45) action.Else ∷
          plain (part 46 49) (assign (global 0 int) (number 7)) ∷ []) ∷ []) ∷ []) (at 50) ∷
          process (at 52) 4 0 1 (slot (at 55) byte false 0 1 1 initial.Zero ∷ []) (
          plain (part 58 67) (holds (expr.Binary op.Unequal (read (local 0 byte)) (expr.Binary op.Plus (number 300) (number 100)))) ∷
          plain (part 68 80) (holds (expr.Binary op.Below (expr.Unary before.Minus (number 1)) (expr.Binary op.Plus (number 7) (number
          300)))) ∷ []) (at 80) ∷
          process (at 81) 5 1 0 [] (
          plain (part 83 88) (action.Run (run 2 ((number 0) ∷ []))) ∷ []) (at 88) ∷ []);
    }

abbrev end-1-of-ends-477 : Printed
end-1-of-ends-477 = shown (codes "1, 1 left\n") Valid

abbrev end-2-of-ends-477 : Printed
end-2-of-ends-477 = shown (codes "0, 1 left\n") Valid

paths-of-ends-477 : paths model-ends-477 10 ≡ Some (end-1-of-ends-477 ∷ end-2-of-ends-477 ∷ end-1-of-ends-477 ∷ end-2-of-ends-477 ∷
    end-1-of-ends-477 ∷ end-2-of-ends-477 ∷ end-1-of-ends-477 ∷ end-2-of-ends-477 ∷ end-1-of-ends-477 ∷ end-2-of-ends-477 ∷
    end-1-of-ends-477 ∷ end-2-of-ends-477 ∷ [])
unfolding computes model-ends-477
paths-of-ends-477 = has_paths model-ends-477 10 _ refl

-- byte b0 = 0;
-- chan q0 = [1] of { short, byte };
-- active proctype Watch() { timeout; printf("%d %d, %d left\n", b0, len(q0), _nr_pr) }
-- active proctype P0() { byte k; b0 = b0 }
-- active proctype P1() { byte k; if :: q0!b0, 255; b0 = (len(q0) -> (0 ^ 7) : 300) :: b0 = _nr_pr; q0?eval(b0), 1 fi }
tokens-ends-478 : List Word
tokens-ends-478 =
    on 1 kind.Byte "byte" ∷ on 1 kind.Name "b0" ∷ on 1 kind.Assign "=" ∷ on 1 kind.Number "0" ∷ on 1 kind.Semicolon ";" ∷
    on 2 kind.Chan "chan" ∷ on 2 kind.Name "q0" ∷ on 2 kind.Assign "=" ∷ on 2 kind.OpenBracket "[" ∷ on 2 kind.Number "1" ∷
    on 2 kind.CloseBracket "]" ∷ on 2 kind.Of "of" ∷ on 2 kind.OpenBrace "{" ∷ on 2 kind.Short "short" ∷ on 2 kind.Comma "," ∷
    on 2 kind.Byte "byte" ∷ on 2 kind.CloseBrace "}" ∷ on 2 kind.Semicolon ";" ∷ on 3 kind.Active "active" ∷
    on 3 kind.Proctype "proctype" ∷ on 3 kind.Name "Watch" ∷ on 3 kind.OpenParen "(" ∷ on 3 kind.CloseParen ")" ∷
    on 3 kind.OpenBrace "{" ∷ on 3 kind.Timeout "timeout" ∷ on 3 kind.Semicolon ";" ∷ on 3 kind.Printf "printf" ∷
    on 3 kind.OpenParen "(" ∷ on 3 kind.Quoted "\"%d %d, %d left\\n\"" ∷ on 3 kind.Comma "," ∷ on 3 kind.Name "b0" ∷
    on 3 kind.Comma "," ∷ on 3 kind.Len "len" ∷ on 3 kind.OpenParen "(" ∷ on 3 kind.Name "q0" ∷ on 3 kind.CloseParen ")" ∷
    on 3 kind.Comma "," ∷ on 3 kind.Name "_nr_pr" ∷ on 3 kind.CloseParen ")" ∷ on 3 kind.CloseBrace "}" ∷ on 4 kind.Active "active" ∷
    on 4 kind.Proctype "proctype" ∷ on 4 kind.Name "P0" ∷ on 4 kind.OpenParen "(" ∷ on 4 kind.CloseParen ")" ∷
    on 4 kind.OpenBrace "{" ∷ on 4 kind.Byte "byte" ∷ on 4 kind.Name "k" ∷ on 4 kind.Semicolon ";" ∷ on 4 kind.Name "b0" ∷
    on 4 kind.Assign "=" ∷ on 4 kind.Name "b0" ∷ on 4 kind.CloseBrace "}" ∷ on 5 kind.Active "active" ∷
    on 5 kind.Proctype "proctype" ∷ on 5 kind.Name "P1" ∷ on 5 kind.OpenParen "(" ∷ on 5 kind.CloseParen ")" ∷
    on 5 kind.OpenBrace "{" ∷ on 5 kind.Byte "byte" ∷ on 5 kind.Name "k" ∷ on 5 kind.Semicolon ";" ∷ on 5 kind.If "if" ∷
    on 5 kind.DoubleColon "::" ∷ on 5 kind.Name "q0" ∷ on 5 kind.Bang "!" ∷ on 5 kind.Name "b0" ∷ on 5 kind.Comma "," ∷
    on 5 kind.Number "255" ∷ on 5 kind.Semicolon ";" ∷ on 5 kind.Name "b0" ∷ on 5 kind.Assign "=" ∷ on 5 kind.OpenParen "(" ∷
    on 5 kind.Len "len" ∷ on 5 kind.OpenParen "(" ∷ on 5 kind.Name "q0" ∷ on 5 kind.CloseParen ")" ∷ on 5 kind.Arrow "->" ∷
    on 5 kind.OpenParen "(" ∷ on 5 kind.Number "0" ∷ on 5 kind.Caret "^" ∷ on 5 kind.Number "7" ∷ on 5 kind.CloseParen ")" ∷
    on 5 kind.Colon ":" ∷ on 5 kind.Number "300" ∷ on 5 kind.CloseParen ")" ∷ on 5 kind.DoubleColon "::" ∷ on 5 kind.Name "b0" ∷
    on 5 kind.Assign "=" ∷ on 5 kind.Name "_nr_pr" ∷ on 5 kind.Semicolon ";" ∷ on 5 kind.Name "q0" ∷ on 5 kind.Query "?" ∷
    on 5 kind.Eval "eval" ∷ on 5 kind.OpenParen "(" ∷ on 5 kind.Name "b0" ∷ on 5 kind.CloseParen ")" ∷ on 5 kind.Comma "," ∷
    on 5 kind.Number "1" ∷ on 5 kind.Fi "fi" ∷ on 5 kind.CloseBrace "}" ∷ []

model-ends-478 : Program
unfolding tokens-ends-478
model-ends-478 =
    let at : ℕ → Word = token_at tokens-ends-478 in
    let part : ℕ → ℕ → List Word = tokens_between tokens-ends-478 in
    record {
      globals = (slot (at 1) byte false 0 1 1 (initial.Value (number 0)) ∷ slot (at 6) chan false 1 1 1 (initial.Channel 1 (short ∷
          byte ∷ [])) ∷ []);
      constants = [];
      typedefs = [];
      proctypes = (
          process (at 20) 3 1 0 [] (
          plain (part 24 25) (holds expr.Timeout) ∷
          plain (part 26 39) (action.Printf (at 28) ((read (global 0 byte)) ∷ (expr.Ask fill.Length (global 1 chan)) ∷ expr.ProcessCount
          ∷ [])) ∷ []) (at 39) ∷
          process (at 42) 4 1 0 (slot (at 47) byte false 0 1 1 initial.Zero ∷ []) (
          plain (part 49 52) (assign (global 0 byte) (read (global 0 byte))) ∷ []) (at 52) ∷
          process (at 55) 5 1 0 (slot (at 60) byte false 0 1 1 initial.Zero ∷ []) (
          if_fi (part 62 100) (
          (plain (part 64 69) (action.Send (global 1 chan) Fifo ((read (global 0 byte)) ∷ (number 255) ∷ [])) ∷
          plain (part 70 86) (assign (global 0 byte) (expr.Choice (expr.Ask fill.Length (global 1 chan)) (expr.Binary op.BitXor (number
          0) (number 7)) (number 300))) ∷ []) ∷
          (plain (part 87 90) (assign (global 0 byte) expr.ProcessCount) ∷
          plain (part 91 99) (action.Receive (global 1 chan) First Remove (want.Equal (read (global 0 byte)) ∷ want.Exactly (pos 1) ∷
          [])) ∷ []) ∷ []) ∷ []) (at 100) ∷ []);
    }

abbrev end-1-of-ends-478 : Printed
end-1-of-ends-478 = shown (codes "7 1, 1 left\n") Valid

abbrev end-2-of-ends-478 : Printed
end-2-of-ends-478 = shown (codes "3 0, 3 left\n") Invalid

paths-of-ends-478 : paths model-ends-478 8 ≡ Some (end-1-of-ends-478 ∷ end-2-of-ends-478 ∷ end-1-of-ends-478 ∷ end-1-of-ends-478 ∷
    end-1-of-ends-478 ∷ end-2-of-ends-478 ∷ [])
unfolding computes model-ends-478
paths-of-ends-478 = has_paths model-ends-478 8 _ refl

-- bit t0 = 0;
-- bit t1 = 1;
-- typedef T { byte f; short g[2] }; T r;
-- chan q0 = [0] of { short, byte };
-- active proctype Watch() { timeout; printf("%d %d %d %d %d, %d left\n", t0, t1, r.f, r.g[1], len(q0), _nr_pr) }
-- active proctype P0() { byte k; q0!(255 ^ 255), 1 }
-- active proctype P1() { byte k; t0--; do :: t1 = t1; q0!!t1, r.f :: break od }
tokens-ends-481 : List Word
tokens-ends-481 =
    on 1 kind.Bit "bit" ∷ on 1 kind.Name "t0" ∷ on 1 kind.Assign "=" ∷ on 1 kind.Number "0" ∷ on 1 kind.Semicolon ";" ∷
    on 2 kind.Bit "bit" ∷ on 2 kind.Name "t1" ∷ on 2 kind.Assign "=" ∷ on 2 kind.Number "1" ∷ on 2 kind.Semicolon ";" ∷
    on 3 kind.Typedef "typedef" ∷ on 3 kind.Name "T" ∷ on 3 kind.OpenBrace "{" ∷ on 3 kind.Byte "byte" ∷ on 3 kind.Name "f" ∷
    on 3 kind.Semicolon ";" ∷ on 3 kind.Short "short" ∷ on 3 kind.Name "g" ∷ on 3 kind.OpenBracket "[" ∷ on 3 kind.Number "2" ∷
    on 3 kind.CloseBracket "]" ∷ on 3 kind.CloseBrace "}" ∷ on 3 kind.Semicolon ";" ∷ on 3 kind.Name "T" ∷ on 3 kind.Name "r" ∷
    on 3 kind.Semicolon ";" ∷ on 4 kind.Chan "chan" ∷ on 4 kind.Name "q0" ∷ on 4 kind.Assign "=" ∷ on 4 kind.OpenBracket "[" ∷
    on 4 kind.Number "0" ∷ on 4 kind.CloseBracket "]" ∷ on 4 kind.Of "of" ∷ on 4 kind.OpenBrace "{" ∷ on 4 kind.Short "short" ∷
    on 4 kind.Comma "," ∷ on 4 kind.Byte "byte" ∷ on 4 kind.CloseBrace "}" ∷ on 4 kind.Semicolon ";" ∷ on 5 kind.Active "active" ∷
    on 5 kind.Proctype "proctype" ∷ on 5 kind.Name "Watch" ∷ on 5 kind.OpenParen "(" ∷ on 5 kind.CloseParen ")" ∷
    on 5 kind.OpenBrace "{" ∷ on 5 kind.Timeout "timeout" ∷ on 5 kind.Semicolon ";" ∷ on 5 kind.Printf "printf" ∷
    on 5 kind.OpenParen "(" ∷ on 5 kind.Quoted "\"%d %d %d %d %d, %d left\\n\"" ∷ on 5 kind.Comma "," ∷ on 5 kind.Name "t0" ∷
    on 5 kind.Comma "," ∷ on 5 kind.Name "t1" ∷ on 5 kind.Comma "," ∷ on 5 kind.Name "r" ∷ on 5 kind.Dot "." ∷ on 5 kind.Name "f" ∷
    on 5 kind.Comma "," ∷ on 5 kind.Name "r" ∷ on 5 kind.Dot "." ∷ on 5 kind.Name "g" ∷ on 5 kind.OpenBracket "[" ∷
    on 5 kind.Number "1" ∷ on 5 kind.CloseBracket "]" ∷ on 5 kind.Comma "," ∷ on 5 kind.Len "len" ∷ on 5 kind.OpenParen "(" ∷
    on 5 kind.Name "q0" ∷ on 5 kind.CloseParen ")" ∷ on 5 kind.Comma "," ∷ on 5 kind.Name "_nr_pr" ∷ on 5 kind.CloseParen ")" ∷
    on 5 kind.CloseBrace "}" ∷ on 6 kind.Active "active" ∷ on 6 kind.Proctype "proctype" ∷ on 6 kind.Name "P0" ∷
    on 6 kind.OpenParen "(" ∷ on 6 kind.CloseParen ")" ∷ on 6 kind.OpenBrace "{" ∷ on 6 kind.Byte "byte" ∷ on 6 kind.Name "k" ∷
    on 6 kind.Semicolon ";" ∷ on 6 kind.Name "q0" ∷ on 6 kind.Bang "!" ∷ on 6 kind.OpenParen "(" ∷ on 6 kind.Number "255" ∷
    on 6 kind.Caret "^" ∷ on 6 kind.Number "255" ∷ on 6 kind.CloseParen ")" ∷ on 6 kind.Comma "," ∷ on 6 kind.Number "1" ∷
    on 6 kind.CloseBrace "}" ∷ on 7 kind.Active "active" ∷ on 7 kind.Proctype "proctype" ∷ on 7 kind.Name "P1" ∷
    on 7 kind.OpenParen "(" ∷ on 7 kind.CloseParen ")" ∷ on 7 kind.OpenBrace "{" ∷ on 7 kind.Byte "byte" ∷ on 7 kind.Name "k" ∷
    on 7 kind.Semicolon ";" ∷ on 7 kind.Name "t0" ∷ on 7 kind.Decrement "--" ∷ on 7 kind.Semicolon ";" ∷ on 7 kind.Do "do" ∷
    on 7 kind.DoubleColon "::" ∷ on 7 kind.Name "t1" ∷ on 7 kind.Assign "=" ∷ on 7 kind.Name "t1" ∷ on 7 kind.Semicolon ";" ∷
    on 7 kind.Name "q0" ∷ on 7 kind.BangBang "!!" ∷ on 7 kind.Name "t1" ∷ on 7 kind.Comma "," ∷ on 7 kind.Name "r" ∷
    on 7 kind.Dot "." ∷ on 7 kind.Name "f" ∷ on 7 kind.DoubleColon "::" ∷ on 7 kind.Break "break" ∷ on 7 kind.Od "od" ∷
    on 7 kind.CloseBrace "}" ∷ []

model-ends-481 : Program
unfolding tokens-ends-481
model-ends-481 =
    let at : ℕ → Word = token_at tokens-ends-481 in
    let part : ℕ → ℕ → List Word = tokens_between tokens-ends-481 in
    record {
      globals = (slot (at 1) bit false 0 1 1 (initial.Value (number 0)) ∷ slot (at 6) bit false 1 1 1 (initial.Value (number 1)) ∷
          slot (at 24) (form.Struct 3) false 2 1 3 initial.Zero ∷ slot (at 27) chan false 5 1 1 (initial.Channel 0 (short ∷ byte ∷ []))
          ∷ []);
      constants = [];
      typedefs = (fields 3 (slot (at 14) byte false 0 1 1 initial.Zero ∷ slot (at 17) short true 1 2 1 initial.Zero ∷ []) ∷ []);
      proctypes = (
          process (at 41) 6 1 0 [] (
          plain (part 45 46) (holds expr.Timeout) ∷
          plain (part 47 73) (action.Printf (at 49) ((read (global 0 bit)) ∷ (read (global 1 bit)) ∷ (read (in_global 2 byte (turn 0 1 3
          None ∷ turn 0 1 1 None ∷ []))) ∷ (read (in_global 2 short (turn 0 1 3 None ∷ turn 1 2 1 (Some (number 1)) ∷ []))) ∷
          (expr.Ask fill.Length (global 3 chan)) ∷ expr.ProcessCount ∷ [])) ∷ []) (at 73) ∷
          process (at 76) 7 1 0 (slot (at 81) byte false 0 1 1 initial.Zero ∷ []) (
          plain (part 83 92) (action.Send (global 3 chan) Fifo ((expr.Binary op.BitXor (number 255) (number 255)) ∷ (number 1) ∷ [])) ∷
          []) (at 92) ∷
          process (at 95) 8 1 0 (slot (at 100) byte false 0 1 1 initial.Zero ∷ []) (
          plain (part 102 104) (action.Decrement (global 0 bit)) ∷
          do_od (part 105 121) (
          (plain (part 107 110) (assign (global 1 bit) (read (global 1 bit))) ∷
          plain (part 111 118) (action.Send (global 3 chan) Sorted ((read (global 1 bit)) ∷ (read (in_global 2 byte (turn 0 1 3 None ∷
          turn 0 1 1 None ∷ []))) ∷ [])) ∷ []) ∷
          (stmt [] Break (part 119 120) ∷ []) ∷ []) ∷ []) (at 121) ∷ []);
    }

abbrev end-1-of-ends-481 : Printed
end-1-of-ends-481 = shown (codes "1 1 0 0 0, 3 left\n") Invalid

abbrev end-2-of-ends-481 : Printed
end-2-of-ends-481 = shown (codes "1 1 0 0 0, 2 left\n") Invalid

paths-of-ends-481 : paths model-ends-481 5 ≡ Some (end-1-of-ends-481 ∷ end-2-of-ends-481 ∷ [])
unfolding computes model-ends-481
paths-of-ends-481 = has_paths model-ends-481 5 _ refl
