-- Runs: random models. `tools/model-data` made the data of their models.
use Rattle.std.proofs.Common.{◌≡◌, ℕ, List, [], ◌∷◌, true, false, refl, Some, None}
use Rattle.std.specs.Prelude.{codes, pos, negsuc}
use Rattle.pml_token.specs.Word.{Word}
use Rattle.pml_tree.specs.declared.tree.Search.TheVariants.{First}
use Rattle.pml_tree.specs.declared.tree.Removal.TheVariants.{Remove}
use Rattle.pml_tree.specs.declared.tree.SendOrder.TheVariants.{Fifo, Sorted}
use Rattle.pml_program.specs.declared.program.Program.{Program}
use Rattle.pml_program.specs.declared.program.Basic.{Break}
use Rattle.worked_runs.specs.Seen.{seen}
use Rattle.worked_runs.proofs.Models.{on, token_at, tokens_between, bit, bool, byte, chan, mtype, pid, short, int, slot, fields, turn, in_global, local, global, number, read, run, assign, holds, stmt, plain, labelled, block, d_step, if_fi, do_od, unless, process, options, text, whole}
use Rattle.worked_runs.proofs.Same.{computes, sees}
use Rattle.pml_token.specs.declared.token.Kind.TheVariants as kind
use Rattle.pml_tree.specs.declared.tree.Infix.TheVariants as op
use Rattle.pml_tree.specs.declared.tree.Fill.TheVariants as fill
use Rattle.pml_program.specs.declared.form.Form.TheVariants as form
use Rattle.pml_program.specs.declared.expr.Expr.TheVariants as expr
use Rattle.pml_program.specs.declared.expr.Want.TheVariants as want
use Rattle.pml_program.specs.declared.program.Initial.TheVariants as initial
use Rattle.pml_program.specs.declared.program.Action.TheVariants as action

-- -p -g -l
-- chan c0 = [ 0 ] of{byte} ; byte g , h ; active proctype P ( ) {byte x = // d
-- 1; g = 1 } active proctype Q
-- ( ) { byte x = 0; end : do :: h ++ :: {c0 ! 1 + timeout;if :: break -> c0 !! 2 :: c0 ? 2;g = 1 :: else -> h = g fi}od }
tokens-random-10 : List Word
tokens-random-10 =
    on 1 kind.Chan "chan" ∷ on 1 kind.Name "c0" ∷ on 1 kind.Assign "=" ∷ on 1 kind.OpenBracket "[" ∷ on 1 kind.Number "0" ∷
    on 1 kind.CloseBracket "]" ∷ on 1 kind.Of "of" ∷ on 1 kind.OpenBrace "{" ∷ on 1 kind.Byte "byte" ∷ on 1 kind.CloseBrace "}" ∷
    on 1 kind.Semicolon ";" ∷ on 1 kind.Byte "byte" ∷ on 1 kind.Name "g" ∷ on 1 kind.Comma "," ∷ on 1 kind.Name "h" ∷
    on 1 kind.Semicolon ";" ∷ on 1 kind.Active "active" ∷ on 1 kind.Proctype "proctype" ∷ on 1 kind.Name "P" ∷
    on 1 kind.OpenParen "(" ∷ on 1 kind.CloseParen ")" ∷ on 1 kind.OpenBrace "{" ∷ on 1 kind.Byte "byte" ∷ on 1 kind.Name "x" ∷
    on 1 kind.Assign "=" ∷ on 2 kind.Number "1" ∷ on 2 kind.Semicolon ";" ∷ on 2 kind.Name "g" ∷ on 2 kind.Assign "=" ∷
    on 2 kind.Number "1" ∷ on 2 kind.CloseBrace "}" ∷ on 2 kind.Active "active" ∷ on 2 kind.Proctype "proctype" ∷
    on 2 kind.Name "Q" ∷ on 3 kind.OpenParen "(" ∷ on 3 kind.CloseParen ")" ∷ on 3 kind.OpenBrace "{" ∷ on 3 kind.Byte "byte" ∷
    on 3 kind.Name "x" ∷ on 3 kind.Assign "=" ∷ on 3 kind.Number "0" ∷ on 3 kind.Semicolon ";" ∷ on 3 kind.Name "end" ∷
    on 3 kind.Colon ":" ∷ on 3 kind.Do "do" ∷ on 3 kind.DoubleColon "::" ∷ on 3 kind.Name "h" ∷ on 3 kind.Increment "++" ∷
    on 3 kind.DoubleColon "::" ∷ on 3 kind.OpenBrace "{" ∷ on 3 kind.Name "c0" ∷ on 3 kind.Bang "!" ∷ on 3 kind.Number "1" ∷
    on 3 kind.Plus "+" ∷ on 3 kind.Timeout "timeout" ∷ on 3 kind.Semicolon ";" ∷ on 3 kind.If "if" ∷ on 3 kind.DoubleColon "::" ∷
    on 3 kind.Break "break" ∷ on 3 kind.Arrow "->" ∷ on 3 kind.Name "c0" ∷ on 3 kind.BangBang "!!" ∷ on 3 kind.Number "2" ∷
    on 3 kind.DoubleColon "::" ∷ on 3 kind.Name "c0" ∷ on 3 kind.Query "?" ∷ on 3 kind.Number "2" ∷ on 3 kind.Semicolon ";" ∷
    on 3 kind.Name "g" ∷ on 3 kind.Assign "=" ∷ on 3 kind.Number "1" ∷ on 3 kind.DoubleColon "::" ∷ on 3 kind.Else "else" ∷
    on 3 kind.Arrow "->" ∷ on 3 kind.Name "h" ∷ on 3 kind.Assign "=" ∷ on 3 kind.Name "g" ∷ on 3 kind.Fi "fi" ∷
    on 3 kind.CloseBrace "}" ∷ on 3 kind.Od "od" ∷ on 3 kind.CloseBrace "}" ∷ []

model-random-10 : Program
unfolding tokens-random-10
model-random-10 =
    let at : ℕ → Word = token_at tokens-random-10 in
    let part : ℕ → ℕ → List Word = tokens_between tokens-random-10 in
    record {
      globals = (slot (at 1) chan false 0 1 1 (initial.Channel 0 (byte ∷ [])) ∷ slot (at 12) byte false 1 1 1 initial.Zero ∷ slot (at
          14) byte false 2 1 1 initial.Zero ∷ []);
      constants = [];
      typedefs = [];
      proctypes = (
          process (at 18) 3 1 0 (slot (at 23) byte false 0 1 1 (initial.Value (number 1)) ∷ []) (
          plain (part 27 30) (assign (global 1 byte) (number 1)) ∷ []) (at 30) ∷
          process (at 33) 4 1 0 (slot (at 38) byte false 0 1 1 (initial.Value (number 0)) ∷ []) (
          labelled ((at 42) ∷ []) (do_od (part 44 80) (
          (plain (part 46 48) (action.Increment (global 2 byte)) ∷ []) ∷
          (block (part 49 79) (
          plain (part 50 55) (action.Send (global 0 chan) Fifo ((expr.Binary op.Plus (number 1) expr.Timeout) ∷ [])) ∷
          if_fi (part 56 78) (
          (stmt [] Break (part 58 59) ∷
          plain (part 60 63) (action.Send (global 0 chan) Sorted ((number 2) ∷ [])) ∷ []) ∷
          (plain (part 64 67) (action.Receive (global 0 chan) First Remove (want.Exactly (pos 2) ∷ [])) ∷
          plain (part 68 71) (assign (global 1 byte) (number 1)) ∷ []) ∷
          (plain (part 72 73) action.Else ∷
          plain (part 74 77) (assign (global 2 byte) (read (global 1 byte))) ∷ []) ∷ []) ∷ []) ∷ []) ∷ [])) ∷ []) (at 80) ∷ []);
    }

row-random-10 : seen (options true true true 9) model-random-10 (codes "1\n")
    ≡ Some (whole (text (
    "choice 1: proc 0 (P) line 2 [g = 1]\n" ∷
    "choice 2: proc 1 (Q) line 3 [h ++]\n" ∷
    "choose 1..2\n" ∷
    "step 1: proc 0 (P) line 2 [g = 1]\n" ∷
    "global g = 1\n" ∷
    "step 2: proc 1 (Q) line 3 [h ++]\n" ∷
    "global h = 1\n" ∷
    "step 3: proc 1 (Q) line 3 [h ++]\n" ∷
    "global h = 2\n" ∷
    "step 4: proc 1 (Q) line 3 [h ++]\n" ∷
    "global h = 3\n" ∷
    "step 5: proc 1 (Q) line 3 [h ++]\n" ∷
    "global h = 4\n" ∷
    "step 6: proc 1 (Q) line 3 [h ++]\n" ∷
    "global h = 5\n" ∷
    "step 7: proc 1 (Q) line 3 [h ++]\n" ∷
    "global h = 6\n" ∷
    "step 8: proc 1 (Q) line 3 [h ++]\n" ∷
    "global h = 7\n" ∷
    "step 9: proc 1 (Q) line 3 [h ++]\n" ∷
    "global h = 8\n" ∷
    "stop: step limit, steps 9\n" ∷
    [])) (codes "1\n") 5 2)
unfolding computes model-random-10
row-random-10 = sees (options true true true 9) model-random-10 (codes "1\n") _ refl

-- -p
-- chan q1 = [3] of { pid, mtype, byte };
-- local byte g4[3] = 3; chan q2 = [1] of { bit, byte, bool }
-- chan q3 = [1] of { byte };
-- active [3] proctype P5() { skip; { do ::  d_step { timeout; timeout } ; g4[0] < 1 -> od } unless { q3!!255 } }
tokens-random-11 : List Word
tokens-random-11 =
    on 1 kind.Chan "chan" ∷ on 1 kind.Name "q1" ∷ on 1 kind.Assign "=" ∷ on 1 kind.OpenBracket "[" ∷ on 1 kind.Number "3" ∷
    on 1 kind.CloseBracket "]" ∷ on 1 kind.Of "of" ∷ on 1 kind.OpenBrace "{" ∷ on 1 kind.Pid "pid" ∷ on 1 kind.Comma "," ∷
    on 1 kind.Mtype "mtype" ∷ on 1 kind.Comma "," ∷ on 1 kind.Byte "byte" ∷ on 1 kind.CloseBrace "}" ∷ on 1 kind.Semicolon ";" ∷
    on 2 kind.Local "local" ∷ on 2 kind.Byte "byte" ∷ on 2 kind.Name "g4" ∷ on 2 kind.OpenBracket "[" ∷ on 2 kind.Number "3" ∷
    on 2 kind.CloseBracket "]" ∷ on 2 kind.Assign "=" ∷ on 2 kind.Number "3" ∷ on 2 kind.Semicolon ";" ∷ on 2 kind.Chan "chan" ∷
    on 2 kind.Name "q2" ∷ on 2 kind.Assign "=" ∷ on 2 kind.OpenBracket "[" ∷ on 2 kind.Number "1" ∷ on 2 kind.CloseBracket "]" ∷
    on 2 kind.Of "of" ∷ on 2 kind.OpenBrace "{" ∷ on 2 kind.Bit "bit" ∷ on 2 kind.Comma "," ∷ on 2 kind.Byte "byte" ∷
    on 2 kind.Comma "," ∷ on 2 kind.Bool "bool" ∷ on 2 kind.CloseBrace "}" ∷ on 3 kind.Chan "chan" ∷ on 3 kind.Name "q3" ∷
    on 3 kind.Assign "=" ∷ on 3 kind.OpenBracket "[" ∷ on 3 kind.Number "1" ∷ on 3 kind.CloseBracket "]" ∷ on 3 kind.Of "of" ∷
    on 3 kind.OpenBrace "{" ∷ on 3 kind.Byte "byte" ∷ on 3 kind.CloseBrace "}" ∷ on 3 kind.Semicolon ";" ∷
    on 4 kind.Active "active" ∷ on 4 kind.OpenBracket "[" ∷ on 4 kind.Number "3" ∷ on 4 kind.CloseBracket "]" ∷
    on 4 kind.Proctype "proctype" ∷ on 4 kind.Name "P5" ∷ on 4 kind.OpenParen "(" ∷ on 4 kind.CloseParen ")" ∷
    on 4 kind.OpenBrace "{" ∷ on 4 kind.Skip "skip" ∷ on 4 kind.Semicolon ";" ∷ on 4 kind.OpenBrace "{" ∷ on 4 kind.Do "do" ∷
    on 4 kind.DoubleColon "::" ∷ on 4 kind.DStep "d_step" ∷ on 4 kind.OpenBrace "{" ∷ on 4 kind.Timeout "timeout" ∷
    on 4 kind.Semicolon ";" ∷ on 4 kind.Timeout "timeout" ∷ on 4 kind.CloseBrace "}" ∷ on 4 kind.Semicolon ";" ∷
    on 4 kind.Name "g4" ∷ on 4 kind.OpenBracket "[" ∷ on 4 kind.Number "0" ∷ on 4 kind.CloseBracket "]" ∷ on 4 kind.Less "<" ∷
    on 4 kind.Number "1" ∷ on 4 kind.Arrow "->" ∷ on 4 kind.Od "od" ∷ on 4 kind.CloseBrace "}" ∷ on 4 kind.Unless "unless" ∷
    on 4 kind.OpenBrace "{" ∷ on 4 kind.Name "q3" ∷ on 4 kind.BangBang "!!" ∷ on 4 kind.Number "255" ∷ on 4 kind.CloseBrace "}" ∷
    on 4 kind.CloseBrace "}" ∷ []

model-random-11 : Program
unfolding tokens-random-11
model-random-11 =
    let at : ℕ → Word = token_at tokens-random-11 in
    let part : ℕ → ℕ → List Word = tokens_between tokens-random-11 in
    record {
      globals = (slot (at 1) chan false 0 1 1 (initial.Channel 3 (pid ∷ mtype ∷ byte ∷ [])) ∷ slot (at 17) byte true 1 3 1
          (initial.Value (number 3)) ∷ slot (at 25) chan false 4 1 1 (initial.Channel 1 (bit ∷ byte ∷ bool ∷ [])) ∷ slot (at 39) chan
          false 5 1 1 (initial.Channel 1 (byte ∷ [])) ∷ []);
      constants = [];
      typedefs = [];
      proctypes = (
          process (at 54) 5 3 0 [] (
          plain (part 58 59) (holds (number 1)) ∷
          unless (part 60 85) (
          block (part 60 79) (
          do_od (part 61 78) (
          (d_step (part 63 69) (
          plain (part 65 66) (holds expr.Timeout) ∷
          plain (part 67 68) (holds expr.Timeout) ∷ []) ∷
          plain (part 70 76) (holds (expr.Binary op.Below (read (in_global 1 byte (turn 0 3 1 (Some (number 0)) ∷ []))) (number 1))) ∷
          []) ∷ []) ∷ []) ∷ []) (
          block (part 80 85) (
          plain (part 81 84) (action.Send (global 3 chan) Sorted ((number 255) ∷ [])) ∷ []) ∷ []) ∷ []) (at 85) ∷ []);
    }

row-random-11 : seen (options true false false 9) model-random-11 (codes "1\n2\n1\n2\n")
    ≡ Some (whole (text (
    "choice 1: proc 0 (P5) line 4 [skip]\n" ∷
    "choice 2: proc 1 (P5) line 4 [skip]\n" ∷
    "choice 3: proc 2 (P5) line 4 [skip]\n" ∷
    "choose 1..3\n" ∷
    "step 1: proc 0 (P5) line 4 [skip]\n" ∷
    "choice 1: proc 0 (P5) line 4 [q3 !! 255]\n" ∷
    "choice 2: proc 1 (P5) line 4 [skip]\n" ∷
    "choice 3: proc 2 (P5) line 4 [skip]\n" ∷
    "choose 1..3\n" ∷
    "step 2: proc 1 (P5) line 4 [skip]\n" ∷
    "choice 1: proc 0 (P5) line 4 [q3 !! 255]\n" ∷
    "choice 2: proc 1 (P5) line 4 [q3 !! 255]\n" ∷
    "choice 3: proc 2 (P5) line 4 [skip]\n" ∷
    "choose 1..3\n" ∷
    "step 3: proc 0 (P5) line 4 [q3 !! 255]\n" ∷
    "step 4: proc 2 (P5) line 4 [skip]\n" ∷
    "choice 1: proc 1 (P5) line 4 [d_step]\n" ∷
    "choice 2: proc 2 (P5) line 4 [d_step]\n" ∷
    "choose 1..2\n" ∷
    "fault F7 (d_step blocks): step 5: proc 2 (P5) line 4 [d_step]\n" ∷
    [])) (codes "1\n2\n1\n2\n") 2 8)
unfolding computes model-random-11
row-random-11 = sees (options true false false 9) model-random-11 (codes "1\n2\n1\n2\n") _ refl

-- -g -l
-- chan zc0 = [0] of { byte, byte }; byte za0[2]; byte zi0; active proctype ZR0() { zc0?zi0,za0[zi0]; zc0?_,zi0 } ; byte zb1 ; init {
--     zc0!1,7; zc0!2,zi0 + 1; zb1 = (0 -> 1 / zb1 : 4) + (zb1 || 1) + (zb1 && 1); zb1 = 0 || 1 % (zb1 - zb1); skip }
tokens-random-12 : List Word
tokens-random-12 =
    on 1 kind.Chan "chan" ∷ on 1 kind.Name "zc0" ∷ on 1 kind.Assign "=" ∷ on 1 kind.OpenBracket "[" ∷ on 1 kind.Number "0" ∷
    on 1 kind.CloseBracket "]" ∷ on 1 kind.Of "of" ∷ on 1 kind.OpenBrace "{" ∷ on 1 kind.Byte "byte" ∷ on 1 kind.Comma "," ∷
    on 1 kind.Byte "byte" ∷ on 1 kind.CloseBrace "}" ∷ on 1 kind.Semicolon ";" ∷ on 1 kind.Byte "byte" ∷ on 1 kind.Name "za0" ∷
    on 1 kind.OpenBracket "[" ∷ on 1 kind.Number "2" ∷ on 1 kind.CloseBracket "]" ∷ on 1 kind.Semicolon ";" ∷ on 1 kind.Byte "byte" ∷
    on 1 kind.Name "zi0" ∷ on 1 kind.Semicolon ";" ∷ on 1 kind.Active "active" ∷ on 1 kind.Proctype "proctype" ∷
    on 1 kind.Name "ZR0" ∷ on 1 kind.OpenParen "(" ∷ on 1 kind.CloseParen ")" ∷ on 1 kind.OpenBrace "{" ∷ on 1 kind.Name "zc0" ∷
    on 1 kind.Query "?" ∷ on 1 kind.Name "zi0" ∷ on 1 kind.Comma "," ∷ on 1 kind.Name "za0" ∷ on 1 kind.OpenBracket "[" ∷
    on 1 kind.Name "zi0" ∷ on 1 kind.CloseBracket "]" ∷ on 1 kind.Semicolon ";" ∷ on 1 kind.Name "zc0" ∷ on 1 kind.Query "?" ∷
    on 1 kind.Name "_" ∷ on 1 kind.Comma "," ∷ on 1 kind.Name "zi0" ∷ on 1 kind.CloseBrace "}" ∷ on 1 kind.Semicolon ";" ∷
    on 1 kind.Byte "byte" ∷ on 1 kind.Name "zb1" ∷ on 1 kind.Semicolon ";" ∷ on 1 kind.Init "init" ∷ on 1 kind.OpenBrace "{" ∷
    on 1 kind.Name "zc0" ∷ on 1 kind.Bang "!" ∷ on 1 kind.Number "1" ∷ on 1 kind.Comma "," ∷ on 1 kind.Number "7" ∷
    on 1 kind.Semicolon ";" ∷ on 1 kind.Name "zc0" ∷ on 1 kind.Bang "!" ∷ on 1 kind.Number "2" ∷ on 1 kind.Comma "," ∷
    on 1 kind.Name "zi0" ∷ on 1 kind.Plus "+" ∷ on 1 kind.Number "1" ∷ on 1 kind.Semicolon ";" ∷ on 1 kind.Name "zb1" ∷
    on 1 kind.Assign "=" ∷ on 1 kind.OpenParen "(" ∷ on 1 kind.Number "0" ∷ on 1 kind.Arrow "->" ∷ on 1 kind.Number "1" ∷
    on 1 kind.Slash "/" ∷ on 1 kind.Name "zb1" ∷ on 1 kind.Colon ":" ∷ on 1 kind.Number "4" ∷ on 1 kind.CloseParen ")" ∷
    on 1 kind.Plus "+" ∷ on 1 kind.OpenParen "(" ∷ on 1 kind.Name "zb1" ∷ on 1 kind.OrOr "||" ∷ on 1 kind.Number "1" ∷
    on 1 kind.CloseParen ")" ∷ on 1 kind.Plus "+" ∷ on 1 kind.OpenParen "(" ∷ on 1 kind.Name "zb1" ∷ on 1 kind.AndAnd "&&" ∷
    on 1 kind.Number "1" ∷ on 1 kind.CloseParen ")" ∷ on 1 kind.Semicolon ";" ∷ on 1 kind.Name "zb1" ∷ on 1 kind.Assign "=" ∷
    on 1 kind.Number "0" ∷ on 1 kind.OrOr "||" ∷ on 1 kind.Number "1" ∷ on 1 kind.Percent "%" ∷ on 1 kind.OpenParen "(" ∷
    on 1 kind.Name "zb1" ∷ on 1 kind.Minus "-" ∷ on 1 kind.Name "zb1" ∷ on 1 kind.CloseParen ")" ∷ on 1 kind.Semicolon ";" ∷
    on 1 kind.Skip "skip" ∷ on 1 kind.CloseBrace "}" ∷ []

model-random-12 : Program
unfolding tokens-random-12
model-random-12 =
    let at : ℕ → Word = token_at tokens-random-12 in
    let part : ℕ → ℕ → List Word = tokens_between tokens-random-12 in
    record {
      globals = (slot (at 1) chan false 0 1 1 (initial.Channel 0 (byte ∷ byte ∷ [])) ∷ slot (at 14) byte true 1 2 1 initial.Zero ∷
          slot (at 20) byte false 3 1 1 initial.Zero ∷ slot (at 45) byte false 4 1 1 initial.Zero ∷ []);
      constants = [];
      typedefs = [];
      proctypes = (
          process (at 24) 4 1 0 [] (
          plain (part 28 36) (action.Receive (global 0 chan) First Remove (want.Into (global 2 byte) ∷ want.Into (in_global 1 byte (turn
          0 2 1 (Some (read (global 2 byte))) ∷ [])) ∷ [])) ∷
          plain (part 37 42) (action.Receive (global 0 chan) First Remove (want.Anything ∷ want.Into (global 2 byte) ∷ [])) ∷ []) (at 42) ∷
          process (at 47) 6 1 0 [] (
          plain (part 49 54) (action.Send (global 0 chan) Fifo ((number 1) ∷ (number 7) ∷ [])) ∷
          plain (part 55 62) (action.Send (global 0 chan) Fifo ((number 2) ∷ (expr.Binary op.Plus (read (global 2 byte)) (number 1)) ∷ [])) ∷
          plain (part 63 86) (assign (global 3 byte) (expr.Binary op.Plus (expr.Binary op.Plus (expr.Choice (number 0) (expr.Binary
          op.Divide (number 1) (read (global 3 byte))) (number 4)) (expr.Binary op.Or (read (global 3 byte)) (number 1))) (expr.Binary
          op.And (read (global 3 byte)) (number 1)))) ∷
          plain (part 87 98) (assign (global 3 byte) (expr.Binary op.Or (number 0) (expr.Binary op.Remainder (number 1) (expr.Binary
          op.Minus (read (global 3 byte)) (read (global 3 byte)))))) ∷
          plain (part 99 100) (holds (number 1)) ∷ []) (at 100) ∷ []);
    }

row-random-12 : seen (options false true true 9) model-random-12 (codes "")
    ≡ Some (whole (text (
    "global za0[0] = 7\n" ∷
    "global zi0 = 1\n" ∷
    "global zi0 = 2\n" ∷
    "global zb1 = 5\n" ∷
    "fault F2 (zero divisor): step 4: proc 1 (:init:) line 1 [zb1 = 0 || 1 % ( zb1 - zb1 )]\n" ∷
    [])) (codes "") 2 0)
unfolding computes model-random-12
row-random-12 = sees (options false true true 9) model-random-12 (codes "") _ refl

-- -p -g -l
-- byte za0[4]; proctype ZP0() { byte k = _nr_pr; za0[3] = k } ; chan zc1 = [1] of { short } ; init { if :: skip :: skip fi; za0[0] =
--     run ZP0(); za0[1] = run ZP0(); zc1!65535; zc1?[-1] -> zc1?65535 }
tokens-random-13 : List Word
tokens-random-13 =
    on 1 kind.Byte "byte" ∷ on 1 kind.Name "za0" ∷ on 1 kind.OpenBracket "[" ∷ on 1 kind.Number "4" ∷ on 1 kind.CloseBracket "]" ∷
    on 1 kind.Semicolon ";" ∷ on 1 kind.Proctype "proctype" ∷ on 1 kind.Name "ZP0" ∷ on 1 kind.OpenParen "(" ∷
    on 1 kind.CloseParen ")" ∷ on 1 kind.OpenBrace "{" ∷ on 1 kind.Byte "byte" ∷ on 1 kind.Name "k" ∷ on 1 kind.Assign "=" ∷
    on 1 kind.Name "_nr_pr" ∷ on 1 kind.Semicolon ";" ∷ on 1 kind.Name "za0" ∷ on 1 kind.OpenBracket "[" ∷ on 1 kind.Number "3" ∷
    on 1 kind.CloseBracket "]" ∷ on 1 kind.Assign "=" ∷ on 1 kind.Name "k" ∷ on 1 kind.CloseBrace "}" ∷ on 1 kind.Semicolon ";" ∷
    on 1 kind.Chan "chan" ∷ on 1 kind.Name "zc1" ∷ on 1 kind.Assign "=" ∷ on 1 kind.OpenBracket "[" ∷ on 1 kind.Number "1" ∷
    on 1 kind.CloseBracket "]" ∷ on 1 kind.Of "of" ∷ on 1 kind.OpenBrace "{" ∷ on 1 kind.Short "short" ∷ on 1 kind.CloseBrace "}" ∷
    on 1 kind.Semicolon ";" ∷ on 1 kind.Init "init" ∷ on 1 kind.OpenBrace "{" ∷ on 1 kind.If "if" ∷ on 1 kind.DoubleColon "::" ∷
    on 1 kind.Skip "skip" ∷ on 1 kind.DoubleColon "::" ∷ on 1 kind.Skip "skip" ∷ on 1 kind.Fi "fi" ∷ on 1 kind.Semicolon ";" ∷
    on 1 kind.Name "za0" ∷ on 1 kind.OpenBracket "[" ∷ on 1 kind.Number "0" ∷ on 1 kind.CloseBracket "]" ∷ on 1 kind.Assign "=" ∷
    on 1 kind.Run "run" ∷ on 1 kind.Name "ZP0" ∷ on 1 kind.OpenParen "(" ∷ on 1 kind.CloseParen ")" ∷ on 1 kind.Semicolon ";" ∷
    on 1 kind.Name "za0" ∷ on 1 kind.OpenBracket "[" ∷ on 1 kind.Number "1" ∷ on 1 kind.CloseBracket "]" ∷ on 1 kind.Assign "=" ∷
    on 1 kind.Run "run" ∷ on 1 kind.Name "ZP0" ∷ on 1 kind.OpenParen "(" ∷ on 1 kind.CloseParen ")" ∷ on 1 kind.Semicolon ";" ∷
    on 1 kind.Name "zc1" ∷ on 1 kind.Bang "!" ∷ on 1 kind.Number "65535" ∷ on 1 kind.Semicolon ";" ∷ on 1 kind.Name "zc1" ∷
    on 1 kind.Query "?" ∷ on 1 kind.OpenBracket "[" ∷ on 1 kind.Minus "-" ∷ on 1 kind.Number "1" ∷ on 1 kind.CloseBracket "]" ∷
    on 1 kind.Arrow "->" ∷ on 1 kind.Name "zc1" ∷ on 1 kind.Query "?" ∷ on 1 kind.Number "65535" ∷ on 1 kind.CloseBrace "}" ∷ []

model-random-13 : Program
unfolding tokens-random-13
model-random-13 =
    let at : ℕ → Word = token_at tokens-random-13 in
    let part : ℕ → ℕ → List Word = tokens_between tokens-random-13 in
    record {
      globals = (slot (at 1) byte true 0 4 1 initial.Zero ∷ slot (at 25) chan false 4 1 1 (initial.Channel 1 (short ∷ [])) ∷ []);
      constants = [];
      typedefs = [];
      proctypes = (
          process (at 7) 2 0 0 (slot (at 12) byte false 0 1 1 (initial.Value expr.ProcessCount) ∷ []) (
          plain (part 16 22) (assign (in_global 0 byte (turn 0 4 1 (Some (number 3)) ∷ [])) (read (local 0 byte))) ∷ []) (at 22) ∷
          process (at 35) 4 1 0 [] (
          if_fi (part 37 43) (
          (plain (part 39 40) (holds (number 1)) ∷ []) ∷
          (plain (part 41 42) (holds (number 1)) ∷ []) ∷ []) ∷
          plain (part 44 53) (action.AssignRun (Some (in_global 0 byte (turn 0 4 1 (Some (number 0)) ∷ []))) (run 0 [])) ∷
          plain (part 54 63) (action.AssignRun (Some (in_global 0 byte (turn 0 4 1 (Some (number 1)) ∷ []))) (run 0 [])) ∷
          plain (part 64 67) (action.Send (global 1 chan) Fifo ((number 65535) ∷ [])) ∷
          plain (part 68 74) (holds (expr.Poll (global 1 chan) First (want.Exactly (negsuc 0) ∷ []))) ∷
          plain (part 75 78) (action.Receive (global 1 chan) First Remove (want.Exactly (pos 65535) ∷ [])) ∷ []) (at 78) ∷ []);
    }

row-random-13 : seen (options true true true 9) model-random-13 (codes "1\n2\n2\n2\n2\n")
    ≡ Some (whole (text (
    "choice 1: proc 0 (:init:) line 1 [skip]\n" ∷
    "choice 2: proc 0 (:init:) line 1 [skip]\n" ∷
    "choose 1..2\n" ∷
    "step 1: proc 0 (:init:) line 1 [skip]\n" ∷
    "step 2: proc 0 (:init:) line 1 [za0 [ 0 ] = run ZP0 ( )]\n" ∷
    "global za0[0] = 1\n" ∷
    "choice 1: proc 0 (:init:) line 1 [za0 [ 1 ] = run ZP0 ( )]\n" ∷
    "choice 2: proc 1 (ZP0) line 1 [za0 [ 3 ] = k]\n" ∷
    "choose 1..2\n" ∷
    "step 3: proc 1 (ZP0) line 1 [za0 [ 3 ] = k]\n" ∷
    "global za0[3] = 2\n" ∷
    "choice 1: proc 0 (:init:) line 1 [za0 [ 1 ] = run ZP0 ( )]\n" ∷
    "choice 2: proc 1 (ZP0) line 1 [-end-]\n" ∷
    "choose 1..2\n" ∷
    "step 4: proc 1 (ZP0) line 1 [-end-]\n" ∷
    "step 5: proc 0 (:init:) line 1 [za0 [ 1 ] = run ZP0 ( )]\n" ∷
    "global za0[1] = 1\n" ∷
    "choice 1: proc 0 (:init:) line 1 [zc1 ! 65535]\n" ∷
    "choice 2: proc 1 (ZP0) line 1 [za0 [ 3 ] = k]\n" ∷
    "choose 1..2\n" ∷
    "step 6: proc 1 (ZP0) line 1 [za0 [ 3 ] = k]\n" ∷
    "choice 1: proc 0 (:init:) line 1 [zc1 ! 65535]\n" ∷
    "choice 2: proc 1 (ZP0) line 1 [-end-]\n" ∷
    "choose 1..2\n" ∷
    "step 7: proc 1 (ZP0) line 1 [-end-]\n" ∷
    "step 8: proc 0 (:init:) line 1 [zc1 ! 65535]\n" ∷
    "step 9: proc 0 (:init:) line 1 [zc1 ? [ - 1 ]]\n" ∷
    "end: invalid, steps 9\n" ∷
    "at: proc 0 (:init:) line 1\n" ∷
    [])) (codes "1\n2\n2\n2\n2\n") 1 10)
unfolding computes model-random-13
row-random-13 = sees (options true true true 9) model-random-13 (codes "1\n2\n2\n2\n2\n") _ refl

-- -g -l
-- mtype =
--   { m1 , m2 , m3 } ; typedef
--
-- Tz { int f4 = 1 , f5 [ 4 ] = m2 , f6 = 300 ; ; chan f7 = [ 3 ] of { bool , byte } ;
-- } int g14 = 1
-- pid g11 [ 3 ] , g12 ; pid g13 ; chan q10 = [ 3 ] of { int , byte
-- } ; chan q9 [ 2 ] = [ 3 ] of { bool , byte } ; active [ 2 ] proctype P15 ( ) { chan v16 ; end17 : g11 [ g13 % 3 ] =
-- m1 | 1 + ( g13 // d
-- + 33 ) ; ; }
tokens-random-14 : List Word
tokens-random-14 =
    on 1 kind.Mtype "mtype" ∷ on 1 kind.Assign "=" ∷ on 2 kind.OpenBrace "{" ∷ on 2 kind.Name "m1" ∷ on 2 kind.Comma "," ∷
    on 2 kind.Name "m2" ∷ on 2 kind.Comma "," ∷ on 2 kind.Name "m3" ∷ on 2 kind.CloseBrace "}" ∷ on 2 kind.Semicolon ";" ∷
    on 2 kind.Typedef "typedef" ∷ on 4 kind.Name "Tz" ∷ on 4 kind.OpenBrace "{" ∷ on 4 kind.Int "int" ∷ on 4 kind.Name "f4" ∷
    on 4 kind.Assign "=" ∷ on 4 kind.Number "1" ∷ on 4 kind.Comma "," ∷ on 4 kind.Name "f5" ∷ on 4 kind.OpenBracket "[" ∷
    on 4 kind.Number "4" ∷ on 4 kind.CloseBracket "]" ∷ on 4 kind.Assign "=" ∷ on 4 kind.Name "m2" ∷ on 4 kind.Comma "," ∷
    on 4 kind.Name "f6" ∷ on 4 kind.Assign "=" ∷ on 4 kind.Number "300" ∷ on 4 kind.Semicolon ";" ∷ on 4 kind.Semicolon ";" ∷
    on 4 kind.Chan "chan" ∷ on 4 kind.Name "f7" ∷ on 4 kind.Assign "=" ∷ on 4 kind.OpenBracket "[" ∷ on 4 kind.Number "3" ∷
    on 4 kind.CloseBracket "]" ∷ on 4 kind.Of "of" ∷ on 4 kind.OpenBrace "{" ∷ on 4 kind.Bool "bool" ∷ on 4 kind.Comma "," ∷
    on 4 kind.Byte "byte" ∷ on 4 kind.CloseBrace "}" ∷ on 4 kind.Semicolon ";" ∷ on 5 kind.CloseBrace "}" ∷ on 5 kind.Int "int" ∷
    on 5 kind.Name "g14" ∷ on 5 kind.Assign "=" ∷ on 5 kind.Number "1" ∷ on 6 kind.Pid "pid" ∷ on 6 kind.Name "g11" ∷
    on 6 kind.OpenBracket "[" ∷ on 6 kind.Number "3" ∷ on 6 kind.CloseBracket "]" ∷ on 6 kind.Comma "," ∷ on 6 kind.Name "g12" ∷
    on 6 kind.Semicolon ";" ∷ on 6 kind.Pid "pid" ∷ on 6 kind.Name "g13" ∷ on 6 kind.Semicolon ";" ∷ on 6 kind.Chan "chan" ∷
    on 6 kind.Name "q10" ∷ on 6 kind.Assign "=" ∷ on 6 kind.OpenBracket "[" ∷ on 6 kind.Number "3" ∷ on 6 kind.CloseBracket "]" ∷
    on 6 kind.Of "of" ∷ on 6 kind.OpenBrace "{" ∷ on 6 kind.Int "int" ∷ on 6 kind.Comma "," ∷ on 6 kind.Byte "byte" ∷
    on 7 kind.CloseBrace "}" ∷ on 7 kind.Semicolon ";" ∷ on 7 kind.Chan "chan" ∷ on 7 kind.Name "q9" ∷ on 7 kind.OpenBracket "[" ∷
    on 7 kind.Number "2" ∷ on 7 kind.CloseBracket "]" ∷ on 7 kind.Assign "=" ∷ on 7 kind.OpenBracket "[" ∷ on 7 kind.Number "3" ∷
    on 7 kind.CloseBracket "]" ∷ on 7 kind.Of "of" ∷ on 7 kind.OpenBrace "{" ∷ on 7 kind.Bool "bool" ∷ on 7 kind.Comma "," ∷
    on 7 kind.Byte "byte" ∷ on 7 kind.CloseBrace "}" ∷ on 7 kind.Semicolon ";" ∷ on 7 kind.Active "active" ∷
    on 7 kind.OpenBracket "[" ∷ on 7 kind.Number "2" ∷ on 7 kind.CloseBracket "]" ∷ on 7 kind.Proctype "proctype" ∷
    on 7 kind.Name "P15" ∷ on 7 kind.OpenParen "(" ∷ on 7 kind.CloseParen ")" ∷ on 7 kind.OpenBrace "{" ∷ on 7 kind.Chan "chan" ∷
    on 7 kind.Name "v16" ∷ on 7 kind.Semicolon ";" ∷ on 7 kind.Name "end17" ∷ on 7 kind.Colon ":" ∷ on 7 kind.Name "g11" ∷
    on 7 kind.OpenBracket "[" ∷ on 7 kind.Name "g13" ∷ on 7 kind.Percent "%" ∷ on 7 kind.Number "3" ∷ on 7 kind.CloseBracket "]" ∷
    on 7 kind.Assign "=" ∷ on 8 kind.Name "m1" ∷ on 8 kind.Bar "|" ∷ on 8 kind.Number "1" ∷ on 8 kind.Plus "+" ∷
    on 8 kind.OpenParen "(" ∷ on 8 kind.Name "g13" ∷ on 9 kind.Plus "+" ∷ on 9 kind.Number "33" ∷ on 9 kind.CloseParen ")" ∷
    on 9 kind.Semicolon ";" ∷ on 9 kind.Semicolon ";" ∷ on 9 kind.CloseBrace "}" ∷ []

model-random-14 : Program
unfolding tokens-random-14
model-random-14 =
    let at : ℕ → Word = token_at tokens-random-14 in
    let part : ℕ → ℕ → List Word = tokens_between tokens-random-14 in
    record {
      globals = (slot (at 45) int false 0 1 1 (initial.Value (number 1)) ∷ slot (at 49) pid true 1 3 1 initial.Zero ∷ slot (at 54) pid
          false 4 1 1 initial.Zero ∷ slot (at 57) pid false 5 1 1 initial.Zero ∷ slot (at 60) chan false 6 1 1 (initial.Channel 3 (int ∷
          byte ∷ [])) ∷ slot (at 73) chan true 7 2 1 (initial.Channel 3 (bool ∷ byte ∷ [])) ∷ []);
      constants = ((at 7) ∷ (at 5) ∷ (at 3) ∷ []);
      typedefs = (fields 2 (slot (at 14) int false 0 1 1 (initial.Value (number 1)) ∷ slot (at 18) int true 1 4 1 (initial.Value
          (number 2)) ∷ slot (at 25) int false 5 1 1 (initial.Value (number 300)) ∷ slot (at 31) chan false 6 1 1 (initial.Channel 3
          (bool ∷ byte ∷ [])) ∷ []) ∷ []);
      proctypes = (
          process (at 93) 8 2 0 (slot (at 98) chan false 0 1 1 initial.Zero ∷ []) (
          labelled ((at 100) ∷ []) (plain (part 102 118) (assign (in_global 1 pid (turn 0 3 1 (Some (expr.Binary op.Remainder (read
          (global 3 pid)) (number 3))) ∷ [])) (expr.Binary op.BitOr (number 3) (expr.Binary op.Plus (number 1) (expr.Binary op.Plus
          (read (global 3 pid)) (number 33)))))) ∷ []) (at 120) ∷ []);
    }

row-random-14 : seen (options false true true 9) model-random-14 (codes "2\n2\n")
    ≡ Some (whole (text (
    "choice 1: proc 0 (P15) line 7 [g11 [ g13 % 3 ] = m1 | 1 + ( g13 + 33 )]\n" ∷
    "choice 2: proc 1 (P15) line 7 [g11 [ g13 % 3 ] = m1 | 1 + ( g13 + 33 )]\n" ∷
    "choose 1..2\n" ∷
    "global g11[0] = 35\n" ∷
    "choice 1: proc 0 (P15) line 7 [g11 [ g13 % 3 ] = m1 | 1 + ( g13 + 33 )]\n" ∷
    "choice 2: proc 1 (P15) line 9 [-end-]\n" ∷
    "choose 1..2\n" ∷
    "end: valid, steps 4\n" ∷
    [])) (codes "2\n2\n") 0 4)
unfolding computes model-random-14
row-random-14 = sees (options false true true 9) model-random-14 (codes "2\n2\n") _ refl

-- -p
-- mtype { m1 } ; mtype = { m2 , m3 , m4 }/* c */chan q5 = [ 1 ] of { mtype
--   , chan , short } ; chan q6 = [ 1 ] of {
--
-- pid , bit , pid } chan g7 = [ 1 ] of { pid , bit , pid } ; chan g8 ; init { _ = 4 ; -> ( ( _nr_pr -> 8 : 3 ) ) -> if :: true ; _ =
--     nfull ( g7 ) ; { assert 1 == 1 } unless else fi ; _ = g7 ? [ _ , _ , _ ] ; skip } ;
tokens-random-15 : List Word
tokens-random-15 =
    on 1 kind.Mtype "mtype" ∷ on 1 kind.OpenBrace "{" ∷ on 1 kind.Name "m1" ∷ on 1 kind.CloseBrace "}" ∷ on 1 kind.Semicolon ";" ∷
    on 1 kind.Mtype "mtype" ∷ on 1 kind.Assign "=" ∷ on 1 kind.OpenBrace "{" ∷ on 1 kind.Name "m2" ∷ on 1 kind.Comma "," ∷
    on 1 kind.Name "m3" ∷ on 1 kind.Comma "," ∷ on 1 kind.Name "m4" ∷ on 1 kind.CloseBrace "}" ∷ on 1 kind.Chan "chan" ∷
    on 1 kind.Name "q5" ∷ on 1 kind.Assign "=" ∷ on 1 kind.OpenBracket "[" ∷ on 1 kind.Number "1" ∷ on 1 kind.CloseBracket "]" ∷
    on 1 kind.Of "of" ∷ on 1 kind.OpenBrace "{" ∷ on 1 kind.Mtype "mtype" ∷ on 2 kind.Comma "," ∷ on 2 kind.Chan "chan" ∷
    on 2 kind.Comma "," ∷ on 2 kind.Short "short" ∷ on 2 kind.CloseBrace "}" ∷ on 2 kind.Semicolon ";" ∷ on 2 kind.Chan "chan" ∷
    on 2 kind.Name "q6" ∷ on 2 kind.Assign "=" ∷ on 2 kind.OpenBracket "[" ∷ on 2 kind.Number "1" ∷ on 2 kind.CloseBracket "]" ∷
    on 2 kind.Of "of" ∷ on 2 kind.OpenBrace "{" ∷ on 4 kind.Pid "pid" ∷ on 4 kind.Comma "," ∷ on 4 kind.Bit "bit" ∷
    on 4 kind.Comma "," ∷ on 4 kind.Pid "pid" ∷ on 4 kind.CloseBrace "}" ∷ on 4 kind.Chan "chan" ∷ on 4 kind.Name "g7" ∷
    on 4 kind.Assign "=" ∷ on 4 kind.OpenBracket "[" ∷ on 4 kind.Number "1" ∷ on 4 kind.CloseBracket "]" ∷ on 4 kind.Of "of" ∷
    on 4 kind.OpenBrace "{" ∷ on 4 kind.Pid "pid" ∷ on 4 kind.Comma "," ∷ on 4 kind.Bit "bit" ∷ on 4 kind.Comma "," ∷
    on 4 kind.Pid "pid" ∷ on 4 kind.CloseBrace "}" ∷ on 4 kind.Semicolon ";" ∷ on 4 kind.Chan "chan" ∷ on 4 kind.Name "g8" ∷
    on 4 kind.Semicolon ";" ∷ on 4 kind.Init "init" ∷ on 4 kind.OpenBrace "{" ∷ on 4 kind.Name "_" ∷ on 4 kind.Assign "=" ∷
    on 4 kind.Number "4" ∷ on 4 kind.Semicolon ";" ∷ on 4 kind.Arrow "->" ∷ on 4 kind.OpenParen "(" ∷ on 4 kind.OpenParen "(" ∷
    on 4 kind.Name "_nr_pr" ∷ on 4 kind.Arrow "->" ∷ on 4 kind.Number "8" ∷ on 4 kind.Colon ":" ∷ on 4 kind.Number "3" ∷
    on 4 kind.CloseParen ")" ∷ on 4 kind.CloseParen ")" ∷ on 4 kind.Arrow "->" ∷ on 4 kind.If "if" ∷ on 4 kind.DoubleColon "::" ∷
    on 4 kind.True "true" ∷ on 4 kind.Semicolon ";" ∷ on 4 kind.Name "_" ∷ on 4 kind.Assign "=" ∷ on 4 kind.Nfull "nfull" ∷
    on 4 kind.OpenParen "(" ∷ on 4 kind.Name "g7" ∷ on 4 kind.CloseParen ")" ∷ on 4 kind.Semicolon ";" ∷ on 4 kind.OpenBrace "{" ∷
    on 4 kind.Assert "assert" ∷ on 4 kind.Number "1" ∷ on 4 kind.Equal "==" ∷ on 4 kind.Number "1" ∷ on 4 kind.CloseBrace "}" ∷
    on 4 kind.Unless "unless" ∷ on 4 kind.Else "else" ∷ on 4 kind.Fi "fi" ∷ on 4 kind.Semicolon ";" ∷ on 4 kind.Name "_" ∷
    on 4 kind.Assign "=" ∷ on 4 kind.Name "g7" ∷ on 4 kind.Query "?" ∷ on 4 kind.OpenBracket "[" ∷ on 4 kind.Name "_" ∷
    on 4 kind.Comma "," ∷ on 4 kind.Name "_" ∷ on 4 kind.Comma "," ∷ on 4 kind.Name "_" ∷ on 4 kind.CloseBracket "]" ∷
    on 4 kind.Semicolon ";" ∷ on 4 kind.Skip "skip" ∷ on 4 kind.CloseBrace "}" ∷ on 4 kind.Semicolon ";" ∷ []

model-random-15 : Program
unfolding tokens-random-15
model-random-15 =
    let at : ℕ → Word = token_at tokens-random-15 in
    let part : ℕ → ℕ → List Word = tokens_between tokens-random-15 in
    record {
      globals = (slot (at 15) chan false 0 1 1 (initial.Channel 1 (mtype ∷ chan ∷ short ∷ [])) ∷ slot (at 30) chan false 1 1 1
          (initial.Channel 1 (pid ∷ bit ∷ pid ∷ [])) ∷ slot (at 44) chan false 2 1 1 (initial.Channel 1 (pid ∷ bit ∷ pid ∷ [])) ∷ slot
          (at 59) chan false 3 1 1 initial.Zero ∷ []);
      constants = ((at 2) ∷ (at 12) ∷ (at 10) ∷ (at 8) ∷ []);
      typedefs = [];
      proctypes = (
          process (at 61) 7 1 0 [] (
          plain (part 63 66) (action.Assign None (number 4)) ∷
          plain (part 68 77) (holds (expr.Choice expr.ProcessCount (number 8) (number 3))) ∷
          if_fi (part 78 98) (
          (plain (part 80 81) (holds (number 1)) ∷
          plain (part 82 88) (action.Assign None (expr.Ask fill.IsNotFull (global 2 chan))) ∷
          unless (part 89 97) (
          block (part 89 95) (
          plain (part 90 94) (action.Assert (expr.Binary op.Equal (number 1) (number 1))) ∷ []) ∷ []) (
          plain (part 96 97) action.Else ∷ []) ∷ []) ∷ []) ∷
          plain (part 99 110) (action.Assign None (expr.Poll (global 2 chan) First (want.Anything ∷ want.Anything ∷ want.Anything ∷ []))) ∷
          plain (part 111 112) (holds (number 1)) ∷ []) (at 112) ∷ []);
    }

row-random-15 : seen (options true false false 9) model-random-15 (codes "")
    ≡ Some (whole (text (
    "step 1: proc 0 (:init:) line 4 [_ = 4]\n" ∷
    "step 2: proc 0 (:init:) line 4 [( ( _nr_pr -> 8 : 3 ) )]\n" ∷
    "step 3: proc 0 (:init:) line 4 [true]\n" ∷
    "step 4: proc 0 (:init:) line 4 [_ = nfull ( g7 )]\n" ∷
    "step 5: proc 0 (:init:) line 4 [else]\n" ∷
    "step 6: proc 0 (:init:) line 4 [_ = g7 ? [ _ , _ , _ ]]\n" ∷
    "step 7: proc 0 (:init:) line 4 [skip]\n" ∷
    "step 8: proc 0 (:init:) line 4 [-end-]\n" ∷
    "end: valid, steps 8\n" ∷
    [])) (codes "") 0 0)
unfolding computes model-random-15
row-random-15 = sees (options true false false 9) model-random-15 (codes "") _ refl

-- -p
-- mtype = { m1 } typedef Ty { unsigned f2 : 8 } chan q4 = [ 1 ] of { short , byte , byte } chan q5 = [ 1 ] of {
-- byte } ; chan q6 = [ 0 ] of { mtype } byte g10 [ 3 ]
-- ; show chan g8 [ 3 ] = [ 0 ] of { mtype } ;
-- byte g9 = ( 32768 ) == ( 0 ) chan g7 [ 2 ] = [ 1 ] of { short , byte , byte } init { do :: skip :: q6 ! m1 ; skip :: else :: skip ;
--     break od ; chan v11 = [ 1 ] of { byte } g9 = 31 } ;
tokens-random-16 : List Word
tokens-random-16 =
    on 1 kind.Mtype "mtype" ∷ on 1 kind.Assign "=" ∷ on 1 kind.OpenBrace "{" ∷ on 1 kind.Name "m1" ∷ on 1 kind.CloseBrace "}" ∷
    on 1 kind.Typedef "typedef" ∷ on 1 kind.Name "Ty" ∷ on 1 kind.OpenBrace "{" ∷ on 1 kind.Unsigned "unsigned" ∷
    on 1 kind.Name "f2" ∷ on 1 kind.Colon ":" ∷ on 1 kind.Number "8" ∷ on 1 kind.CloseBrace "}" ∷ on 1 kind.Chan "chan" ∷
    on 1 kind.Name "q4" ∷ on 1 kind.Assign "=" ∷ on 1 kind.OpenBracket "[" ∷ on 1 kind.Number "1" ∷ on 1 kind.CloseBracket "]" ∷
    on 1 kind.Of "of" ∷ on 1 kind.OpenBrace "{" ∷ on 1 kind.Short "short" ∷ on 1 kind.Comma "," ∷ on 1 kind.Byte "byte" ∷
    on 1 kind.Comma "," ∷ on 1 kind.Byte "byte" ∷ on 1 kind.CloseBrace "}" ∷ on 1 kind.Chan "chan" ∷ on 1 kind.Name "q5" ∷
    on 1 kind.Assign "=" ∷ on 1 kind.OpenBracket "[" ∷ on 1 kind.Number "1" ∷ on 1 kind.CloseBracket "]" ∷ on 1 kind.Of "of" ∷
    on 1 kind.OpenBrace "{" ∷ on 2 kind.Byte "byte" ∷ on 2 kind.CloseBrace "}" ∷ on 2 kind.Semicolon ";" ∷ on 2 kind.Chan "chan" ∷
    on 2 kind.Name "q6" ∷ on 2 kind.Assign "=" ∷ on 2 kind.OpenBracket "[" ∷ on 2 kind.Number "0" ∷ on 2 kind.CloseBracket "]" ∷
    on 2 kind.Of "of" ∷ on 2 kind.OpenBrace "{" ∷ on 2 kind.Mtype "mtype" ∷ on 2 kind.CloseBrace "}" ∷ on 2 kind.Byte "byte" ∷
    on 2 kind.Name "g10" ∷ on 2 kind.OpenBracket "[" ∷ on 2 kind.Number "3" ∷ on 2 kind.CloseBracket "]" ∷ on 3 kind.Semicolon ";" ∷
    on 3 kind.Show "show" ∷ on 3 kind.Chan "chan" ∷ on 3 kind.Name "g8" ∷ on 3 kind.OpenBracket "[" ∷ on 3 kind.Number "3" ∷
    on 3 kind.CloseBracket "]" ∷ on 3 kind.Assign "=" ∷ on 3 kind.OpenBracket "[" ∷ on 3 kind.Number "0" ∷
    on 3 kind.CloseBracket "]" ∷ on 3 kind.Of "of" ∷ on 3 kind.OpenBrace "{" ∷ on 3 kind.Mtype "mtype" ∷ on 3 kind.CloseBrace "}" ∷
    on 3 kind.Semicolon ";" ∷ on 4 kind.Byte "byte" ∷ on 4 kind.Name "g9" ∷ on 4 kind.Assign "=" ∷ on 4 kind.OpenParen "(" ∷
    on 4 kind.Number "32768" ∷ on 4 kind.CloseParen ")" ∷ on 4 kind.Equal "==" ∷ on 4 kind.OpenParen "(" ∷ on 4 kind.Number "0" ∷
    on 4 kind.CloseParen ")" ∷ on 4 kind.Chan "chan" ∷ on 4 kind.Name "g7" ∷ on 4 kind.OpenBracket "[" ∷ on 4 kind.Number "2" ∷
    on 4 kind.CloseBracket "]" ∷ on 4 kind.Assign "=" ∷ on 4 kind.OpenBracket "[" ∷ on 4 kind.Number "1" ∷
    on 4 kind.CloseBracket "]" ∷ on 4 kind.Of "of" ∷ on 4 kind.OpenBrace "{" ∷ on 4 kind.Short "short" ∷ on 4 kind.Comma "," ∷
    on 4 kind.Byte "byte" ∷ on 4 kind.Comma "," ∷ on 4 kind.Byte "byte" ∷ on 4 kind.CloseBrace "}" ∷ on 4 kind.Init "init" ∷
    on 4 kind.OpenBrace "{" ∷ on 4 kind.Do "do" ∷ on 4 kind.DoubleColon "::" ∷ on 4 kind.Skip "skip" ∷ on 4 kind.DoubleColon "::" ∷
    on 4 kind.Name "q6" ∷ on 4 kind.Bang "!" ∷ on 4 kind.Name "m1" ∷ on 4 kind.Semicolon ";" ∷ on 4 kind.Skip "skip" ∷
    on 4 kind.DoubleColon "::" ∷ on 4 kind.Else "else" ∷ on 4 kind.DoubleColon "::" ∷ on 4 kind.Skip "skip" ∷
    on 4 kind.Semicolon ";" ∷ on 4 kind.Break "break" ∷ on 4 kind.Od "od" ∷ on 4 kind.Semicolon ";" ∷ on 4 kind.Chan "chan" ∷
    on 4 kind.Name "v11" ∷ on 4 kind.Assign "=" ∷ on 4 kind.OpenBracket "[" ∷ on 4 kind.Number "1" ∷ on 4 kind.CloseBracket "]" ∷
    on 4 kind.Of "of" ∷ on 4 kind.OpenBrace "{" ∷ on 4 kind.Byte "byte" ∷ on 4 kind.CloseBrace "}" ∷ on 4 kind.Name "g9" ∷
    on 4 kind.Assign "=" ∷ on 4 kind.Number "31" ∷ on 4 kind.CloseBrace "}" ∷ on 4 kind.Semicolon ";" ∷ []

model-random-16 : Program
unfolding tokens-random-16
model-random-16 =
    let at : ℕ → Word = token_at tokens-random-16 in
    let part : ℕ → ℕ → List Word = tokens_between tokens-random-16 in
    record {
      globals = (slot (at 14) chan false 0 1 1 (initial.Channel 1 (short ∷ byte ∷ byte ∷ [])) ∷ slot (at 28) chan false 1 1 1
          (initial.Channel 1 (byte ∷ [])) ∷ slot (at 39) chan false 2 1 1 (initial.Channel 0 (mtype ∷ [])) ∷ slot (at 49) byte true 3 3
          1 initial.Zero ∷ slot (at 56) chan true 6 3 1 (initial.Channel 0 (mtype ∷ [])) ∷ slot (at 70) byte false 9 1 1 (initial.Value
          (expr.Binary op.Equal (number 32768) (number 0))) ∷ slot (at 80) chan true 10 2 1 (initial.Channel 1 (short ∷ byte ∷ byte ∷
          [])) ∷ []);
      constants = ((at 3) ∷ []);
      typedefs = (fields 2 (slot (at 9) (form.Unsigned 8) false 0 1 1 initial.Zero ∷ []) ∷ []);
      proctypes = (
          process (at 96) 10 1 0 (slot (at 116) chan false 0 1 1 (initial.Channel 1 (byte ∷ [])) ∷ []) (
          do_od (part 98 114) (
          (plain (part 100 101) (holds (number 1)) ∷ []) ∷
          (plain (part 102 105) (action.Send (global 2 chan) Fifo ((number 1) ∷ [])) ∷
          plain (part 106 107) (holds (number 1)) ∷ []) ∷
          (plain (part 108 109) action.Else ∷ []) ∷
          (plain (part 110 111) (holds (number 1)) ∷
          stmt [] Break (part 112 113) ∷ []) ∷ []) ∷
          plain (part 125 128) (assign (global 5 byte) (number 31)) ∷ []) (at 128) ∷ []);
    }

row-random-16 : seen (options true false false 9) model-random-16 (codes "2\n")
    ≡ Some (whole (text (
    "choice 1: proc 0 (:init:) line 4 [skip]\n" ∷
    "choice 2: proc 0 (:init:) line 4 [skip]\n" ∷
    "choose 1..2\n" ∷
    "step 1: proc 0 (:init:) line 4 [skip]\n" ∷
    "step 2: proc 0 (:init:) line 4 [g9 = 31]\n" ∷
    "step 3: proc 0 (:init:) line 4 [-end-]\n" ∷
    "end: valid, steps 3\n" ∷
    [])) (codes "2\n") 0 2)
unfolding computes model-random-16
row-random-16 = sees (options true false false 9) model-random-16 (codes "2\n") _ refl
