-- Runs: random models. `tools/model-data` made the data of their models.
use Rattle.std.proofs.Common.{◌≡◌, ℕ, List, [], ◌∷◌, true, false, refl, Some, None}
use Rattle.std.specs.Prelude.{codes, pos, negsuc}
use Rattle.pml_token.specs.Word.{Word}
use Rattle.pml_tree.specs.declared.tree.Search.TheVariants.{First, Matching}
use Rattle.pml_tree.specs.declared.tree.Removal.TheVariants.{Remove}
use Rattle.pml_tree.specs.declared.tree.SendOrder.TheVariants.{Fifo}
use Rattle.pml_program.specs.declared.program.Program.{Program}
use Rattle.pml_program.specs.declared.program.Basic.{Goto, Break}
use Rattle.worked_runs.specs.Seen.{seen}
use Rattle.worked_runs.proofs.Models.{on, token_at, tokens_between, bit, byte, chan, mtype, pid, short, int, slot, turn, in_global, local, global, number, read, run, assign, holds, stmt, plain, labelled, block, atomic, d_step, if_fi, do_od, unless, process, options, text, whole}
use Rattle.worked_runs.proofs.Same.{computes, sees}
use Rattle.pml_token.specs.declared.token.Kind.TheVariants as kind
use Rattle.pml_tree.specs.declared.tree.Infix.TheVariants as op
use Rattle.pml_tree.specs.declared.tree.Prefix.TheVariants as before
use Rattle.pml_tree.specs.declared.tree.Fill.TheVariants as fill
use Rattle.pml_program.specs.declared.expr.Expr.TheVariants as expr
use Rattle.pml_program.specs.declared.expr.Want.TheVariants as want
use Rattle.pml_program.specs.declared.program.Initial.TheVariants as initial
use Rattle.pml_program.specs.declared.program.Action.TheVariants as action

-- -p -g -l
-- byte zb0 ; init { do :: zb0 > 3 -> break :: { zb0++ } unless { else } od; skip }
tokens-random-1 : List Word
tokens-random-1 =
    on 1 kind.Byte "byte" ∷ on 1 kind.Name "zb0" ∷ on 1 kind.Semicolon ";" ∷ on 1 kind.Init "init" ∷ on 1 kind.OpenBrace "{" ∷
    on 1 kind.Do "do" ∷ on 1 kind.DoubleColon "::" ∷ on 1 kind.Name "zb0" ∷ on 1 kind.Greater ">" ∷ on 1 kind.Number "3" ∷
    on 1 kind.Arrow "->" ∷ on 1 kind.Break "break" ∷ on 1 kind.DoubleColon "::" ∷ on 1 kind.OpenBrace "{" ∷ on 1 kind.Name "zb0" ∷
    on 1 kind.Increment "++" ∷ on 1 kind.CloseBrace "}" ∷ on 1 kind.Unless "unless" ∷ on 1 kind.OpenBrace "{" ∷
    on 1 kind.Else "else" ∷ on 1 kind.CloseBrace "}" ∷ on 1 kind.Od "od" ∷ on 1 kind.Semicolon ";" ∷ on 1 kind.Skip "skip" ∷
    on 1 kind.CloseBrace "}" ∷ []

model-random-1 : Program
unfolding tokens-random-1
model-random-1 =
    let at : ℕ → Word = token_at tokens-random-1 in
    let part : ℕ → ℕ → List Word = tokens_between tokens-random-1 in
    record {
      globals = (slot (at 1) byte false 0 1 1 initial.Zero ∷ []);
      constants = [];
      typedefs = [];
      proctypes = (
          process (at 3) 2 1 0 [] (
          do_od (part 5 22) (
          (plain (part 7 10) (holds (expr.Binary op.Above (read (global 0 byte)) (number 3))) ∷
          stmt [] Break (part 11 12) ∷ []) ∷
          (unless (part 13 21) (
          block (part 13 17) (
          plain (part 14 16) (action.Increment (global 0 byte)) ∷ []) ∷ []) (
          block (part 18 21) (
          plain (part 19 20) action.Else ∷ []) ∷ []) ∷ []) ∷ []) ∷
          plain (part 23 24) (holds (number 1)) ∷ []) (at 24) ∷ []);
    }

row-random-1 : seen (options true true true 9) model-random-1 (codes "")
    ≡ Some (whole (text (
    "step 1: proc 0 (:init:) line 1 [else]\n" ∷
    "step 2: proc 0 (:init:) line 1 [else]\n" ∷
    "step 3: proc 0 (:init:) line 1 [else]\n" ∷
    "step 4: proc 0 (:init:) line 1 [else]\n" ∷
    "step 5: proc 0 (:init:) line 1 [else]\n" ∷
    "step 6: proc 0 (:init:) line 1 [else]\n" ∷
    "step 7: proc 0 (:init:) line 1 [else]\n" ∷
    "step 8: proc 0 (:init:) line 1 [else]\n" ∷
    "step 9: proc 0 (:init:) line 1 [else]\n" ∷
    "stop: step limit, steps 9\n" ∷
    [])) (codes "") 5 0)
unfolding computes model-random-1
row-random-1 = sees (options true true true 9) model-random-1 (codes "") _ refl

-- -p -l
-- byte zb0 ; init { if :: { false } unless { zb0 == 0 } :: { skip } unless { zb0 == 1 } :: else fi; skip }
tokens-random-2 : List Word
tokens-random-2 =
    on 1 kind.Byte "byte" ∷ on 1 kind.Name "zb0" ∷ on 1 kind.Semicolon ";" ∷ on 1 kind.Init "init" ∷ on 1 kind.OpenBrace "{" ∷
    on 1 kind.If "if" ∷ on 1 kind.DoubleColon "::" ∷ on 1 kind.OpenBrace "{" ∷ on 1 kind.False "false" ∷ on 1 kind.CloseBrace "}" ∷
    on 1 kind.Unless "unless" ∷ on 1 kind.OpenBrace "{" ∷ on 1 kind.Name "zb0" ∷ on 1 kind.Equal "==" ∷ on 1 kind.Number "0" ∷
    on 1 kind.CloseBrace "}" ∷ on 1 kind.DoubleColon "::" ∷ on 1 kind.OpenBrace "{" ∷ on 1 kind.Skip "skip" ∷
    on 1 kind.CloseBrace "}" ∷ on 1 kind.Unless "unless" ∷ on 1 kind.OpenBrace "{" ∷ on 1 kind.Name "zb0" ∷ on 1 kind.Equal "==" ∷
    on 1 kind.Number "1" ∷ on 1 kind.CloseBrace "}" ∷ on 1 kind.DoubleColon "::" ∷ on 1 kind.Else "else" ∷ on 1 kind.Fi "fi" ∷
    on 1 kind.Semicolon ";" ∷ on 1 kind.Skip "skip" ∷ on 1 kind.CloseBrace "}" ∷ []

model-random-2 : Program
unfolding tokens-random-2
model-random-2 =
    let at : ℕ → Word = token_at tokens-random-2 in
    let part : ℕ → ℕ → List Word = tokens_between tokens-random-2 in
    record {
      globals = (slot (at 1) byte false 0 1 1 initial.Zero ∷ []);
      constants = [];
      typedefs = [];
      proctypes = (
          process (at 3) 2 1 0 [] (
          if_fi (part 5 29) (
          (unless (part 7 16) (
          block (part 7 10) (
          plain (part 8 9) (holds (number 0)) ∷ []) ∷ []) (
          block (part 11 16) (
          plain (part 12 15) (holds (expr.Binary op.Equal (read (global 0 byte)) (number 0))) ∷ []) ∷ []) ∷ []) ∷
          (unless (part 17 26) (
          block (part 17 20) (
          plain (part 18 19) (holds (number 1)) ∷ []) ∷ []) (
          block (part 21 26) (
          plain (part 22 25) (holds (expr.Binary op.Equal (read (global 0 byte)) (number 1))) ∷ []) ∷ []) ∷ []) ∷
          (plain (part 27 28) action.Else ∷ []) ∷ []) ∷
          plain (part 30 31) (holds (number 1)) ∷ []) (at 31) ∷ []);
    }

row-random-2 : seen (options true false true 9) model-random-2 (codes "")
    ≡ Some (whole (text (
    "step 1: proc 0 (:init:) line 1 [zb0 == 0]\n" ∷
    "step 2: proc 0 (:init:) line 1 [skip]\n" ∷
    "step 3: proc 0 (:init:) line 1 [-end-]\n" ∷
    "end: valid, steps 3\n" ∷
    [])) (codes "") 0 0)
unfolding computes model-random-2
row-random-2 = sees (options true false true 9) model-random-2 (codes "") _ refl

-- -p -g
-- proctype ZP0(byte a) { end: false }; byte zb0 ; init { skip; do :: _nr_pr < 255 -> run ZP0(1) :: else -> break od; zb0 = 7; zb0 =
--     run ZP0(1 / (zb0 - zb0)) }
tokens-random-3 : List Word
tokens-random-3 =
    on 1 kind.Proctype "proctype" ∷ on 1 kind.Name "ZP0" ∷ on 1 kind.OpenParen "(" ∷ on 1 kind.Byte "byte" ∷ on 1 kind.Name "a" ∷
    on 1 kind.CloseParen ")" ∷ on 1 kind.OpenBrace "{" ∷ on 1 kind.Name "end" ∷ on 1 kind.Colon ":" ∷ on 1 kind.False "false" ∷
    on 1 kind.CloseBrace "}" ∷ on 1 kind.Semicolon ";" ∷ on 1 kind.Byte "byte" ∷ on 1 kind.Name "zb0" ∷ on 1 kind.Semicolon ";" ∷
    on 1 kind.Init "init" ∷ on 1 kind.OpenBrace "{" ∷ on 1 kind.Skip "skip" ∷ on 1 kind.Semicolon ";" ∷ on 1 kind.Do "do" ∷
    on 1 kind.DoubleColon "::" ∷ on 1 kind.Name "_nr_pr" ∷ on 1 kind.Less "<" ∷ on 1 kind.Number "255" ∷ on 1 kind.Arrow "->" ∷
    on 1 kind.Run "run" ∷ on 1 kind.Name "ZP0" ∷ on 1 kind.OpenParen "(" ∷ on 1 kind.Number "1" ∷ on 1 kind.CloseParen ")" ∷
    on 1 kind.DoubleColon "::" ∷ on 1 kind.Else "else" ∷ on 1 kind.Arrow "->" ∷ on 1 kind.Break "break" ∷ on 1 kind.Od "od" ∷
    on 1 kind.Semicolon ";" ∷ on 1 kind.Name "zb0" ∷ on 1 kind.Assign "=" ∷ on 1 kind.Number "7" ∷ on 1 kind.Semicolon ";" ∷
    on 1 kind.Name "zb0" ∷ on 1 kind.Assign "=" ∷ on 1 kind.Run "run" ∷ on 1 kind.Name "ZP0" ∷ on 1 kind.OpenParen "(" ∷
    on 1 kind.Number "1" ∷ on 1 kind.Slash "/" ∷ on 1 kind.OpenParen "(" ∷ on 1 kind.Name "zb0" ∷ on 1 kind.Minus "-" ∷
    on 1 kind.Name "zb0" ∷ on 1 kind.CloseParen ")" ∷ on 1 kind.CloseParen ")" ∷ on 1 kind.CloseBrace "}" ∷ []

model-random-3 : Program
unfolding tokens-random-3
model-random-3 =
    let at : ℕ → Word = token_at tokens-random-3 in
    let part : ℕ → ℕ → List Word = tokens_between tokens-random-3 in
    record {
      globals = (slot (at 13) byte false 0 1 1 initial.Zero ∷ []);
      constants = [];
      typedefs = [];
      proctypes = (
          process (at 1) 1 0 1 (slot (at 4) byte false 0 1 1 initial.Zero ∷ []) (
          labelled ((at 7) ∷ []) (plain (part 9 10) (holds (number 0))) ∷ []) (at 10) ∷
          process (at 15) 3 1 0 [] (
          plain (part 17 18) (holds (number 1)) ∷
          do_od (part 19 35) (
          (plain (part 21 24) (holds (expr.Binary op.Below expr.ProcessCount (number 255))) ∷
          plain (part 25 30) (action.Run (run 0 ((number 1) ∷ []))) ∷ []) ∷
          (plain (part 31 32) action.Else ∷
          stmt [] Break (part 33 34) ∷ []) ∷ []) ∷
          plain (part 36 39) (assign (global 0 byte) (number 7)) ∷
          plain (part 40 53) (action.AssignRun (Some (global 0 byte)) (run 0 ((expr.Binary op.Divide (number 1) (expr.Binary op.Minus
          (read (global 0 byte)) (read (global 0 byte)))) ∷ []))) ∷ []) (at 53) ∷ []);
    }

row-random-3 : seen (options true true false 9) model-random-3 (codes "")
    ≡ Some (whole (text (
    "step 1: proc 0 (:init:) line 1 [skip]\n" ∷
    "step 2: proc 0 (:init:) line 1 [_nr_pr < 255]\n" ∷
    "step 3: proc 0 (:init:) line 1 [run ZP0 ( 1 )]\n" ∷
    "step 4: proc 0 (:init:) line 1 [_nr_pr < 255]\n" ∷
    "step 5: proc 0 (:init:) line 1 [run ZP0 ( 1 )]\n" ∷
    "step 6: proc 0 (:init:) line 1 [_nr_pr < 255]\n" ∷
    "step 7: proc 0 (:init:) line 1 [run ZP0 ( 1 )]\n" ∷
    "step 8: proc 0 (:init:) line 1 [_nr_pr < 255]\n" ∷
    "step 9: proc 0 (:init:) line 1 [run ZP0 ( 1 )]\n" ∷
    "stop: step limit, steps 9\n" ∷
    [])) (codes "") 5 0)
unfolding computes model-random-3
row-random-3 = sees (options true true false 9) model-random-3 (codes "") _ refl

-- -p -g
-- proctype ZP0(byte a; bit b; short c) { printf("%d %d %d", a, b, c) } ; init { run ZP0(300, 2, 40000); run ZP0(- 1, 3, 65535); skip }
tokens-random-4 : List Word
tokens-random-4 =
    on 1 kind.Proctype "proctype" ∷ on 1 kind.Name "ZP0" ∷ on 1 kind.OpenParen "(" ∷ on 1 kind.Byte "byte" ∷ on 1 kind.Name "a" ∷
    on 1 kind.Semicolon ";" ∷ on 1 kind.Bit "bit" ∷ on 1 kind.Name "b" ∷ on 1 kind.Semicolon ";" ∷ on 1 kind.Short "short" ∷
    on 1 kind.Name "c" ∷ on 1 kind.CloseParen ")" ∷ on 1 kind.OpenBrace "{" ∷ on 1 kind.Printf "printf" ∷ on 1 kind.OpenParen "(" ∷
    on 1 kind.Quoted "\"%d %d %d\"" ∷ on 1 kind.Comma "," ∷ on 1 kind.Name "a" ∷ on 1 kind.Comma "," ∷ on 1 kind.Name "b" ∷
    on 1 kind.Comma "," ∷ on 1 kind.Name "c" ∷ on 1 kind.CloseParen ")" ∷ on 1 kind.CloseBrace "}" ∷ on 1 kind.Semicolon ";" ∷
    on 1 kind.Init "init" ∷ on 1 kind.OpenBrace "{" ∷ on 1 kind.Run "run" ∷ on 1 kind.Name "ZP0" ∷ on 1 kind.OpenParen "(" ∷
    on 1 kind.Number "300" ∷ on 1 kind.Comma "," ∷ on 1 kind.Number "2" ∷ on 1 kind.Comma "," ∷ on 1 kind.Number "40000" ∷
    on 1 kind.CloseParen ")" ∷ on 1 kind.Semicolon ";" ∷ on 1 kind.Run "run" ∷ on 1 kind.Name "ZP0" ∷ on 1 kind.OpenParen "(" ∷
    on 1 kind.Minus "-" ∷ on 1 kind.Number "1" ∷ on 1 kind.Comma "," ∷ on 1 kind.Number "3" ∷ on 1 kind.Comma "," ∷
    on 1 kind.Number "65535" ∷ on 1 kind.CloseParen ")" ∷ on 1 kind.Semicolon ";" ∷ on 1 kind.Skip "skip" ∷
    on 1 kind.CloseBrace "}" ∷ []

model-random-4 : Program
unfolding tokens-random-4
model-random-4 =
    let at : ℕ → Word = token_at tokens-random-4 in
    let part : ℕ → ℕ → List Word = tokens_between tokens-random-4 in
    record {
      globals = [];
      constants = [];
      typedefs = [];
      proctypes = (
          process (at 1) 1 0 3 (slot (at 4) byte false 0 1 1 initial.Zero ∷ slot (at 7) bit false 1 1 1 initial.Zero ∷ slot (at 10)
          short false 2 1 1 initial.Zero ∷ []) (
          plain (part 13 23) (action.Printf (at 15) ((read (local 0 byte)) ∷ (read (local 1 bit)) ∷ (read (local 2 short)) ∷ [])) ∷ [])
          (at 23) ∷
          process (at 25) 2 1 0 [] (
          plain (part 27 36) (action.Run (run 0 ((number 300) ∷ (number 2) ∷ (number 40000) ∷ []))) ∷
          plain (part 37 47) (action.Run (run 0 ((expr.Unary before.Minus (number 1)) ∷ (number 3) ∷ (number 65535) ∷ []))) ∷
          plain (part 48 49) (holds (number 1)) ∷ []) (at 49) ∷ []);
    }

row-random-4 : seen (options true true false 9) model-random-4 (codes "2\n2\n1\n")
    ≡ Some (whole (text (
    "step 1: proc 0 (:init:) line 1 [run ZP0 ( 300 , 2 , 40000 )]\n" ∷
    "choice 1: proc 0 (:init:) line 1 [run ZP0 ( - 1 , 3 , 65535 )]\n" ∷
    "choice 2: proc 1 (ZP0) line 1 [printf ( \"%d %d %d\" , a , b , c )]\n" ∷
    "choose 1..2\n" ∷
    "step 2: proc 1 (ZP0) line 1 [printf ( \"%d %d %d\" , a , b , c )]\n" ∷
    "44 0 -25536choice 1: proc 0 (:init:) line 1 [run ZP0 ( - 1 , 3 , 65535 )]\n" ∷
    "choice 2: proc 1 (ZP0) line 1 [-end-]\n" ∷
    "choose 1..2\n" ∷
    "step 3: proc 1 (ZP0) line 1 [-end-]\n" ∷
    "step 4: proc 0 (:init:) line 1 [run ZP0 ( - 1 , 3 , 65535 )]\n" ∷
    "choice 1: proc 0 (:init:) line 1 [skip]\n" ∷
    "choice 2: proc 1 (ZP0) line 1 [printf ( \"%d %d %d\" , a , b , c )]\n" ∷
    "choose 1..2\n" ∷
    "step 5: proc 0 (:init:) line 1 [skip]\n" ∷
    "step 6: proc 1 (ZP0) line 1 [printf ( \"%d %d %d\" , a , b , c )]\n" ∷
    "255 1 -1step 7: proc 1 (ZP0) line 1 [-end-]\n" ∷
    "step 8: proc 0 (:init:) line 1 [-end-]\n" ∷
    "end: valid, steps 8\n" ∷
    [])) (codes "2\n2\n1\n") 0 6)
unfolding computes model-random-4
row-random-4 = sees (options true true false 9) model-random-4 (codes "2\n2\n1\n") _ refl

-- -g -l
-- chan q2 = [ 2]
-- of { int,byte } int g3[ 2 ] chan q1 =[3]of{byte ,bit/**/,byte};active[2 ]proctype P4(){ if :: q1 ?? false ,skip , g3 [ 1]
-- :: nfull( q1)
--   ;; g3 [ 0 ] -- fi }
tokens-random-5 : List Word
tokens-random-5 =
    on 1 kind.Chan "chan" ∷ on 1 kind.Name "q2" ∷ on 1 kind.Assign "=" ∷ on 1 kind.OpenBracket "[" ∷ on 1 kind.Number "2" ∷
    on 1 kind.CloseBracket "]" ∷ on 2 kind.Of "of" ∷ on 2 kind.OpenBrace "{" ∷ on 2 kind.Int "int" ∷ on 2 kind.Comma "," ∷
    on 2 kind.Byte "byte" ∷ on 2 kind.CloseBrace "}" ∷ on 2 kind.Int "int" ∷ on 2 kind.Name "g3" ∷ on 2 kind.OpenBracket "[" ∷
    on 2 kind.Number "2" ∷ on 2 kind.CloseBracket "]" ∷ on 2 kind.Chan "chan" ∷ on 2 kind.Name "q1" ∷ on 2 kind.Assign "=" ∷
    on 2 kind.OpenBracket "[" ∷ on 2 kind.Number "3" ∷ on 2 kind.CloseBracket "]" ∷ on 2 kind.Of "of" ∷ on 2 kind.OpenBrace "{" ∷
    on 2 kind.Byte "byte" ∷ on 2 kind.Comma "," ∷ on 2 kind.Bit "bit" ∷ on 2 kind.Comma "," ∷ on 2 kind.Byte "byte" ∷
    on 2 kind.CloseBrace "}" ∷ on 2 kind.Semicolon ";" ∷ on 2 kind.Active "active" ∷ on 2 kind.OpenBracket "[" ∷
    on 2 kind.Number "2" ∷ on 2 kind.CloseBracket "]" ∷ on 2 kind.Proctype "proctype" ∷ on 2 kind.Name "P4" ∷
    on 2 kind.OpenParen "(" ∷ on 2 kind.CloseParen ")" ∷ on 2 kind.OpenBrace "{" ∷ on 2 kind.If "if" ∷ on 2 kind.DoubleColon "::" ∷
    on 2 kind.Name "q1" ∷ on 2 kind.QueryQuery "??" ∷ on 2 kind.False "false" ∷ on 2 kind.Comma "," ∷ on 2 kind.Skip "skip" ∷
    on 2 kind.Comma "," ∷ on 2 kind.Name "g3" ∷ on 2 kind.OpenBracket "[" ∷ on 2 kind.Number "1" ∷ on 2 kind.CloseBracket "]" ∷
    on 3 kind.DoubleColon "::" ∷ on 3 kind.Nfull "nfull" ∷ on 3 kind.OpenParen "(" ∷ on 3 kind.Name "q1" ∷ on 3 kind.CloseParen ")" ∷
    on 4 kind.Semicolon ";" ∷ on 4 kind.Semicolon ";" ∷ on 4 kind.Name "g3" ∷ on 4 kind.OpenBracket "[" ∷ on 4 kind.Number "0" ∷
    on 4 kind.CloseBracket "]" ∷ on 4 kind.Decrement "--" ∷ on 4 kind.Fi "fi" ∷ on 4 kind.CloseBrace "}" ∷ []

model-random-5 : Program
unfolding tokens-random-5
model-random-5 =
    let at : ℕ → Word = token_at tokens-random-5 in
    let part : ℕ → ℕ → List Word = tokens_between tokens-random-5 in
    record {
      globals = (slot (at 1) chan false 0 1 1 (initial.Channel 2 (int ∷ byte ∷ [])) ∷ slot (at 13) int true 1 2 1 initial.Zero ∷ slot
          (at 18) chan false 3 1 1 (initial.Channel 3 (byte ∷ bit ∷ byte ∷ [])) ∷ []);
      constants = [];
      typedefs = [];
      proctypes = (
          process (at 37) 4 2 0 [] (
          if_fi (part 41 66) (
          (plain (part 43 53) (action.Receive (global 2 chan) Matching Remove (want.Exactly (pos 0) ∷ want.Exactly (pos 1) ∷ want.Into
          (in_global 1 int (turn 0 2 1 (Some (number 1)) ∷ [])) ∷ [])) ∷ []) ∷
          (plain (part 54 58) (holds (expr.Ask fill.IsNotFull (global 2 chan))) ∷
          plain (part 60 65) (action.Decrement (in_global 1 int (turn 0 2 1 (Some (number 0)) ∷ []))) ∷ []) ∷ []) ∷ []) (at 66) ∷ []);
    }

row-random-5 : seen (options false true true 9) model-random-5 (codes "2\n1\n1\n")
    ≡ Some (whole (text (
    "choice 1: proc 0 (P4) line 3 [nfull ( q1 )]\n" ∷
    "choice 2: proc 1 (P4) line 3 [nfull ( q1 )]\n" ∷
    "choose 1..2\n" ∷
    "choice 1: proc 0 (P4) line 3 [nfull ( q1 )]\n" ∷
    "choice 2: proc 1 (P4) line 4 [g3 [ 0 ] --]\n" ∷
    "choose 1..2\n" ∷
    "choice 1: proc 0 (P4) line 4 [g3 [ 0 ] --]\n" ∷
    "choice 2: proc 1 (P4) line 4 [g3 [ 0 ] --]\n" ∷
    "choose 1..2\n" ∷
    "global g3[0] = -1\n" ∷
    "global g3[0] = -2\n" ∷
    "end: valid, steps 6\n" ∷
    [])) (codes "2\n1\n1\n") 0 6)
unfolding computes model-random-5
row-random-5 = sees (options false true true 9) model-random-5 (codes "2\n1\n1\n") _ refl

-- -p -g -l
-- byte zb0; active proctype ZQ0() { zb0 = 9; zb0 = 8 } ; init { skip; atomic { zb0 = 1; d_step { zb0 = 2; zb0 = 3 }; zb0 == 9; zb0 =
--     4 }; skip }
tokens-random-6 : List Word
tokens-random-6 =
    on 1 kind.Byte "byte" ∷ on 1 kind.Name "zb0" ∷ on 1 kind.Semicolon ";" ∷ on 1 kind.Active "active" ∷
    on 1 kind.Proctype "proctype" ∷ on 1 kind.Name "ZQ0" ∷ on 1 kind.OpenParen "(" ∷ on 1 kind.CloseParen ")" ∷
    on 1 kind.OpenBrace "{" ∷ on 1 kind.Name "zb0" ∷ on 1 kind.Assign "=" ∷ on 1 kind.Number "9" ∷ on 1 kind.Semicolon ";" ∷
    on 1 kind.Name "zb0" ∷ on 1 kind.Assign "=" ∷ on 1 kind.Number "8" ∷ on 1 kind.CloseBrace "}" ∷ on 1 kind.Semicolon ";" ∷
    on 1 kind.Init "init" ∷ on 1 kind.OpenBrace "{" ∷ on 1 kind.Skip "skip" ∷ on 1 kind.Semicolon ";" ∷ on 1 kind.Atomic "atomic" ∷
    on 1 kind.OpenBrace "{" ∷ on 1 kind.Name "zb0" ∷ on 1 kind.Assign "=" ∷ on 1 kind.Number "1" ∷ on 1 kind.Semicolon ";" ∷
    on 1 kind.DStep "d_step" ∷ on 1 kind.OpenBrace "{" ∷ on 1 kind.Name "zb0" ∷ on 1 kind.Assign "=" ∷ on 1 kind.Number "2" ∷
    on 1 kind.Semicolon ";" ∷ on 1 kind.Name "zb0" ∷ on 1 kind.Assign "=" ∷ on 1 kind.Number "3" ∷ on 1 kind.CloseBrace "}" ∷
    on 1 kind.Semicolon ";" ∷ on 1 kind.Name "zb0" ∷ on 1 kind.Equal "==" ∷ on 1 kind.Number "9" ∷ on 1 kind.Semicolon ";" ∷
    on 1 kind.Name "zb0" ∷ on 1 kind.Assign "=" ∷ on 1 kind.Number "4" ∷ on 1 kind.CloseBrace "}" ∷ on 1 kind.Semicolon ";" ∷
    on 1 kind.Skip "skip" ∷ on 1 kind.CloseBrace "}" ∷ []

model-random-6 : Program
unfolding tokens-random-6
model-random-6 =
    let at : ℕ → Word = token_at tokens-random-6 in
    let part : ℕ → ℕ → List Word = tokens_between tokens-random-6 in
    record {
      globals = (slot (at 1) byte false 0 1 1 initial.Zero ∷ []);
      constants = [];
      typedefs = [];
      proctypes = (
          process (at 5) 2 1 0 [] (
          plain (part 9 12) (assign (global 0 byte) (number 9)) ∷
          plain (part 13 16) (assign (global 0 byte) (number 8)) ∷ []) (at 16) ∷
          process (at 18) 3 1 0 [] (
          plain (part 20 21) (holds (number 1)) ∷
          atomic (part 22 47) (
          plain (part 24 27) (assign (global 0 byte) (number 1)) ∷
          d_step (part 28 38) (
          plain (part 30 33) (assign (global 0 byte) (number 2)) ∷
          plain (part 34 37) (assign (global 0 byte) (number 3)) ∷ []) ∷
          plain (part 39 42) (holds (expr.Binary op.Equal (read (global 0 byte)) (number 9))) ∷
          plain (part 43 46) (assign (global 0 byte) (number 4)) ∷ []) ∷
          plain (part 48 49) (holds (number 1)) ∷ []) (at 49) ∷ []);
    }

row-random-6 : seen (options true true true 9) model-random-6 (codes "1\n1\n")
    ≡ Some (whole (text (
    "choice 1: proc 0 (ZQ0) line 1 [zb0 = 9]\n" ∷
    "choice 2: proc 1 (:init:) line 1 [skip]\n" ∷
    "choose 1..2\n" ∷
    "step 1: proc 0 (ZQ0) line 1 [zb0 = 9]\n" ∷
    "global zb0 = 9\n" ∷
    "choice 1: proc 0 (ZQ0) line 1 [zb0 = 8]\n" ∷
    "choice 2: proc 1 (:init:) line 1 [skip]\n" ∷
    "choose 1..2\n" ∷
    "step 2: proc 0 (ZQ0) line 1 [zb0 = 8]\n" ∷
    "global zb0 = 8\n" ∷
    "step 3: proc 1 (:init:) line 1 [skip]\n" ∷
    "step 4: proc 1 (:init:) line 1 [zb0 = 1]\n" ∷
    "global zb0 = 1\n" ∷
    "step 5: proc 1 (:init:) line 1 [d_step]\n" ∷
    "global zb0 = 3\n" ∷
    "end: invalid, steps 5\n" ∷
    "at: proc 1 (:init:) line 1\n" ∷
    [])) (codes "1\n1\n") 1 4)
unfolding computes model-random-6
row-random-6 = sees (options true true true 9) model-random-6 (codes "1\n1\n") _ refl

-- -g -l
-- chan zc0 = [0] of { byte, byte }; byte za0[2]; byte zi0; active proctype ZR0() { zc0?zi0,za0[zi0]; zc0?_,zi0 } ; init { if :: skip
--     :: skip fi; zc0!1,7; zc0!2,zi0 + 1; skip }
tokens-random-7 : List Word
tokens-random-7 =
    on 1 kind.Chan "chan" ∷ on 1 kind.Name "zc0" ∷ on 1 kind.Assign "=" ∷ on 1 kind.OpenBracket "[" ∷ on 1 kind.Number "0" ∷
    on 1 kind.CloseBracket "]" ∷ on 1 kind.Of "of" ∷ on 1 kind.OpenBrace "{" ∷ on 1 kind.Byte "byte" ∷ on 1 kind.Comma "," ∷
    on 1 kind.Byte "byte" ∷ on 1 kind.CloseBrace "}" ∷ on 1 kind.Semicolon ";" ∷ on 1 kind.Byte "byte" ∷ on 1 kind.Name "za0" ∷
    on 1 kind.OpenBracket "[" ∷ on 1 kind.Number "2" ∷ on 1 kind.CloseBracket "]" ∷ on 1 kind.Semicolon ";" ∷ on 1 kind.Byte "byte" ∷
    on 1 kind.Name "zi0" ∷ on 1 kind.Semicolon ";" ∷ on 1 kind.Active "active" ∷ on 1 kind.Proctype "proctype" ∷
    on 1 kind.Name "ZR0" ∷ on 1 kind.OpenParen "(" ∷ on 1 kind.CloseParen ")" ∷ on 1 kind.OpenBrace "{" ∷ on 1 kind.Name "zc0" ∷
    on 1 kind.Query "?" ∷ on 1 kind.Name "zi0" ∷ on 1 kind.Comma "," ∷ on 1 kind.Name "za0" ∷ on 1 kind.OpenBracket "[" ∷
    on 1 kind.Name "zi0" ∷ on 1 kind.CloseBracket "]" ∷ on 1 kind.Semicolon ";" ∷ on 1 kind.Name "zc0" ∷ on 1 kind.Query "?" ∷
    on 1 kind.Name "_" ∷ on 1 kind.Comma "," ∷ on 1 kind.Name "zi0" ∷ on 1 kind.CloseBrace "}" ∷ on 1 kind.Semicolon ";" ∷
    on 1 kind.Init "init" ∷ on 1 kind.OpenBrace "{" ∷ on 1 kind.If "if" ∷ on 1 kind.DoubleColon "::" ∷ on 1 kind.Skip "skip" ∷
    on 1 kind.DoubleColon "::" ∷ on 1 kind.Skip "skip" ∷ on 1 kind.Fi "fi" ∷ on 1 kind.Semicolon ";" ∷ on 1 kind.Name "zc0" ∷
    on 1 kind.Bang "!" ∷ on 1 kind.Number "1" ∷ on 1 kind.Comma "," ∷ on 1 kind.Number "7" ∷ on 1 kind.Semicolon ";" ∷
    on 1 kind.Name "zc0" ∷ on 1 kind.Bang "!" ∷ on 1 kind.Number "2" ∷ on 1 kind.Comma "," ∷ on 1 kind.Name "zi0" ∷
    on 1 kind.Plus "+" ∷ on 1 kind.Number "1" ∷ on 1 kind.Semicolon ";" ∷ on 1 kind.Skip "skip" ∷ on 1 kind.CloseBrace "}" ∷ []

model-random-7 : Program
unfolding tokens-random-7
model-random-7 =
    let at : ℕ → Word = token_at tokens-random-7 in
    let part : ℕ → ℕ → List Word = tokens_between tokens-random-7 in
    record {
      globals = (slot (at 1) chan false 0 1 1 (initial.Channel 0 (byte ∷ byte ∷ [])) ∷ slot (at 14) byte true 1 2 1 initial.Zero ∷
          slot (at 20) byte false 3 1 1 initial.Zero ∷ []);
      constants = [];
      typedefs = [];
      proctypes = (
          process (at 24) 4 1 0 [] (
          plain (part 28 36) (action.Receive (global 0 chan) First Remove (want.Into (global 2 byte) ∷ want.Into (in_global 1 byte (turn
          0 2 1 (Some (read (global 2 byte))) ∷ [])) ∷ [])) ∷
          plain (part 37 42) (action.Receive (global 0 chan) First Remove (want.Anything ∷ want.Into (global 2 byte) ∷ [])) ∷ []) (at 42) ∷
          process (at 44) 5 1 0 [] (
          if_fi (part 46 52) (
          (plain (part 48 49) (holds (number 1)) ∷ []) ∷
          (plain (part 50 51) (holds (number 1)) ∷ []) ∷ []) ∷
          plain (part 53 58) (action.Send (global 0 chan) Fifo ((number 1) ∷ (number 7) ∷ [])) ∷
          plain (part 59 66) (action.Send (global 0 chan) Fifo ((number 2) ∷ (expr.Binary op.Plus (read (global 2 byte)) (number 1)) ∷ [])) ∷
          plain (part 67 68) (holds (number 1)) ∷ []) (at 68) ∷ []);
    }

row-random-7 : seen (options false true true 9) model-random-7 (codes "1\n")
    ≡ Some (whole (text (
    "choice 1: proc 1 (:init:) line 1 [skip]\n" ∷
    "choice 2: proc 1 (:init:) line 1 [skip]\n" ∷
    "choose 1..2\n" ∷
    "global za0[0] = 7\n" ∷
    "global zi0 = 1\n" ∷
    "global zi0 = 2\n" ∷
    "end: valid, steps 6\n" ∷
    [])) (codes "1\n") 0 2)
unfolding computes model-random-7
row-random-7 = sees (options false true true 9) model-random-7 (codes "1\n") _ refl

-- -p -l
-- mtype{ m1, m2}chan q3 =[ 3 ] of
--   {mtype, byte} ; chan g4
-- [ 3 ];
--
-- init
--   { end5 :{ q3 ! m1( (8) << (4)) ; _ = 4294967295 || 7 ; ;q3 ? _, _ };nempty
--
-- (q3 ) unless{goto end5 } atomic{
-- q3 ! m2,full(q3)} q3/*
-- */! m2, 32767 << 2;skip };
tokens-random-8 : List Word
tokens-random-8 =
    on 1 kind.Mtype "mtype" ∷ on 1 kind.OpenBrace "{" ∷ on 1 kind.Name "m1" ∷ on 1 kind.Comma "," ∷ on 1 kind.Name "m2" ∷
    on 1 kind.CloseBrace "}" ∷ on 1 kind.Chan "chan" ∷ on 1 kind.Name "q3" ∷ on 1 kind.Assign "=" ∷ on 1 kind.OpenBracket "[" ∷
    on 1 kind.Number "3" ∷ on 1 kind.CloseBracket "]" ∷ on 1 kind.Of "of" ∷ on 2 kind.OpenBrace "{" ∷ on 2 kind.Mtype "mtype" ∷
    on 2 kind.Comma "," ∷ on 2 kind.Byte "byte" ∷ on 2 kind.CloseBrace "}" ∷ on 2 kind.Semicolon ";" ∷ on 2 kind.Chan "chan" ∷
    on 2 kind.Name "g4" ∷ on 3 kind.OpenBracket "[" ∷ on 3 kind.Number "3" ∷ on 3 kind.CloseBracket "]" ∷ on 3 kind.Semicolon ";" ∷
    on 5 kind.Init "init" ∷ on 6 kind.OpenBrace "{" ∷ on 6 kind.Name "end5" ∷ on 6 kind.Colon ":" ∷ on 6 kind.OpenBrace "{" ∷
    on 6 kind.Name "q3" ∷ on 6 kind.Bang "!" ∷ on 6 kind.Name "m1" ∷ on 6 kind.OpenParen "(" ∷ on 6 kind.OpenParen "(" ∷
    on 6 kind.Number "8" ∷ on 6 kind.CloseParen ")" ∷ on 6 kind.ShiftLeft "<<" ∷ on 6 kind.OpenParen "(" ∷ on 6 kind.Number "4" ∷
    on 6 kind.CloseParen ")" ∷ on 6 kind.CloseParen ")" ∷ on 6 kind.Semicolon ";" ∷ on 6 kind.Name "_" ∷ on 6 kind.Assign "=" ∷
    on 6 kind.Number "4294967295" ∷ on 6 kind.OrOr "||" ∷ on 6 kind.Number "7" ∷ on 6 kind.Semicolon ";" ∷ on 6 kind.Semicolon ";" ∷
    on 6 kind.Name "q3" ∷ on 6 kind.Query "?" ∷ on 6 kind.Name "_" ∷ on 6 kind.Comma "," ∷ on 6 kind.Name "_" ∷
    on 6 kind.CloseBrace "}" ∷ on 6 kind.Semicolon ";" ∷ on 6 kind.Nempty "nempty" ∷ on 8 kind.OpenParen "(" ∷ on 8 kind.Name "q3" ∷
    on 8 kind.CloseParen ")" ∷ on 8 kind.Unless "unless" ∷ on 8 kind.OpenBrace "{" ∷ on 8 kind.Goto "goto" ∷ on 8 kind.Name "end5" ∷
    on 8 kind.CloseBrace "}" ∷ on 8 kind.Atomic "atomic" ∷ on 8 kind.OpenBrace "{" ∷ on 9 kind.Name "q3" ∷ on 9 kind.Bang "!" ∷
    on 9 kind.Name "m2" ∷ on 9 kind.Comma "," ∷ on 9 kind.Full "full" ∷ on 9 kind.OpenParen "(" ∷ on 9 kind.Name "q3" ∷
    on 9 kind.CloseParen ")" ∷ on 9 kind.CloseBrace "}" ∷ on 9 kind.Name "q3" ∷ on 10 kind.Bang "!" ∷ on 10 kind.Name "m2" ∷
    on 10 kind.Comma "," ∷ on 10 kind.Number "32767" ∷ on 10 kind.ShiftLeft "<<" ∷ on 10 kind.Number "2" ∷ on 10 kind.Semicolon ";" ∷
    on 10 kind.Skip "skip" ∷ on 10 kind.CloseBrace "}" ∷ on 10 kind.Semicolon ";" ∷ []

model-random-8 : Program
unfolding tokens-random-8
model-random-8 =
    let at : ℕ → Word = token_at tokens-random-8 in
    let part : ℕ → ℕ → List Word = tokens_between tokens-random-8 in
    record {
      globals = (slot (at 7) chan false 0 1 1 (initial.Channel 3 (mtype ∷ byte ∷ [])) ∷ slot (at 20) chan true 1 3 1 initial.Zero ∷ []);
      constants = ((at 4) ∷ (at 2) ∷ []);
      typedefs = [];
      proctypes = (
          process (at 25) 4 1 0 [] (
          labelled ((at 27) ∷ []) (block (part 29 56) (
          plain (part 30 42) (action.Send (global 0 chan) Fifo ((number 2) ∷ (expr.Binary op.ShiftLeft (number 8) (number 4)) ∷ [])) ∷
          plain (part 43 48) (action.Assign None (expr.Binary op.Or (expr.Number (negsuc 0)) (number 7))) ∷
          plain (part 50 55) (action.Receive (global 0 chan) First Remove (want.Anything ∷ want.Anything ∷ [])) ∷ [])) ∷
          unless (part 57 66) (
          plain (part 57 61) (holds (expr.Ask fill.IsNotEmpty (global 0 chan))) ∷ []) (
          block (part 62 66) (
          stmt [] (Goto (at 64)) (part 63 65) ∷ []) ∷ []) ∷
          atomic (part 66 77) (
          plain (part 68 76) (action.Send (global 0 chan) Fifo ((number 1) ∷ (expr.Ask fill.IsFull (global 0 chan)) ∷ [])) ∷ []) ∷
          plain (part 77 84) (action.Send (global 0 chan) Fifo ((number 1) ∷ (expr.Binary op.ShiftLeft (number 32767) (number 2)) ∷ [])) ∷
          plain (part 85 86) (holds (number 1)) ∷ []) (at 86) ∷ []);
    }

row-random-8 : seen (options true false true 9) model-random-8 (codes "")
    ≡ Some (whole (text (
    "step 1: proc 0 (:init:) line 6 [q3 ! m1 ( ( 8 ) << ( 4 ) )]\n" ∷
    "step 2: proc 0 (:init:) line 6 [_ = 4294967295 || 7]\n" ∷
    "step 3: proc 0 (:init:) line 6 [q3 ? _ , _]\n" ∷
    "step 4: proc 0 (:init:) line 8 [goto end5]\n" ∷
    "step 5: proc 0 (:init:) line 6 [q3 ! m1 ( ( 8 ) << ( 4 ) )]\n" ∷
    "step 6: proc 0 (:init:) line 6 [_ = 4294967295 || 7]\n" ∷
    "step 7: proc 0 (:init:) line 6 [q3 ? _ , _]\n" ∷
    "step 8: proc 0 (:init:) line 8 [goto end5]\n" ∷
    "step 9: proc 0 (:init:) line 6 [q3 ! m1 ( ( 8 ) << ( 4 ) )]\n" ∷
    "stop: step limit, steps 9\n" ∷
    [])) (codes "") 5 0)
unfolding computes model-random-8
row-random-8 = sees (options true false true 9) model-random-8 (codes "") _ refl

-- -p -g -l
-- mtype = { m1,m2} ; chan q3//
-- [ 2 ]=
-- [ 2 ]of { byte, int , int } local chan g5
--
-- [ 3 ]=[ 2] of{ byte , int
-- ,int }hidden int g6 [3] ,g7 [3]= 4 ;chan q4 [ 2 ] = [ 0] of { byte, pid}init{g5[
-- 0 ]! 1, // d
-- (g6 [ 1]) |( m1)
--   , 8 ;;assert (g6 [2]<= g6 [2])
-- ;-> g7[2] ++ } ;
tokens-random-9 : List Word
tokens-random-9 =
    on 1 kind.Mtype "mtype" ∷ on 1 kind.Assign "=" ∷ on 1 kind.OpenBrace "{" ∷ on 1 kind.Name "m1" ∷ on 1 kind.Comma "," ∷
    on 1 kind.Name "m2" ∷ on 1 kind.CloseBrace "}" ∷ on 1 kind.Semicolon ";" ∷ on 1 kind.Chan "chan" ∷ on 1 kind.Name "q3" ∷
    on 2 kind.OpenBracket "[" ∷ on 2 kind.Number "2" ∷ on 2 kind.CloseBracket "]" ∷ on 2 kind.Assign "=" ∷
    on 3 kind.OpenBracket "[" ∷ on 3 kind.Number "2" ∷ on 3 kind.CloseBracket "]" ∷ on 3 kind.Of "of" ∷ on 3 kind.OpenBrace "{" ∷
    on 3 kind.Byte "byte" ∷ on 3 kind.Comma "," ∷ on 3 kind.Int "int" ∷ on 3 kind.Comma "," ∷ on 3 kind.Int "int" ∷
    on 3 kind.CloseBrace "}" ∷ on 3 kind.Local "local" ∷ on 3 kind.Chan "chan" ∷ on 3 kind.Name "g5" ∷ on 5 kind.OpenBracket "[" ∷
    on 5 kind.Number "3" ∷ on 5 kind.CloseBracket "]" ∷ on 5 kind.Assign "=" ∷ on 5 kind.OpenBracket "[" ∷ on 5 kind.Number "2" ∷
    on 5 kind.CloseBracket "]" ∷ on 5 kind.Of "of" ∷ on 5 kind.OpenBrace "{" ∷ on 5 kind.Byte "byte" ∷ on 5 kind.Comma "," ∷
    on 5 kind.Int "int" ∷ on 6 kind.Comma "," ∷ on 6 kind.Int "int" ∷ on 6 kind.CloseBrace "}" ∷ on 6 kind.Hidden "hidden" ∷
    on 6 kind.Int "int" ∷ on 6 kind.Name "g6" ∷ on 6 kind.OpenBracket "[" ∷ on 6 kind.Number "3" ∷ on 6 kind.CloseBracket "]" ∷
    on 6 kind.Comma "," ∷ on 6 kind.Name "g7" ∷ on 6 kind.OpenBracket "[" ∷ on 6 kind.Number "3" ∷ on 6 kind.CloseBracket "]" ∷
    on 6 kind.Assign "=" ∷ on 6 kind.Number "4" ∷ on 6 kind.Semicolon ";" ∷ on 6 kind.Chan "chan" ∷ on 6 kind.Name "q4" ∷
    on 6 kind.OpenBracket "[" ∷ on 6 kind.Number "2" ∷ on 6 kind.CloseBracket "]" ∷ on 6 kind.Assign "=" ∷
    on 6 kind.OpenBracket "[" ∷ on 6 kind.Number "0" ∷ on 6 kind.CloseBracket "]" ∷ on 6 kind.Of "of" ∷ on 6 kind.OpenBrace "{" ∷
    on 6 kind.Byte "byte" ∷ on 6 kind.Comma "," ∷ on 6 kind.Pid "pid" ∷ on 6 kind.CloseBrace "}" ∷ on 6 kind.Init "init" ∷
    on 6 kind.OpenBrace "{" ∷ on 6 kind.Name "g5" ∷ on 6 kind.OpenBracket "[" ∷ on 7 kind.Number "0" ∷ on 7 kind.CloseBracket "]" ∷
    on 7 kind.Bang "!" ∷ on 7 kind.Number "1" ∷ on 7 kind.Comma "," ∷ on 8 kind.OpenParen "(" ∷ on 8 kind.Name "g6" ∷
    on 8 kind.OpenBracket "[" ∷ on 8 kind.Number "1" ∷ on 8 kind.CloseBracket "]" ∷ on 8 kind.CloseParen ")" ∷ on 8 kind.Bar "|" ∷
    on 8 kind.OpenParen "(" ∷ on 8 kind.Name "m1" ∷ on 8 kind.CloseParen ")" ∷ on 9 kind.Comma "," ∷ on 9 kind.Number "8" ∷
    on 9 kind.Semicolon ";" ∷ on 9 kind.Semicolon ";" ∷ on 9 kind.Assert "assert" ∷ on 9 kind.OpenParen "(" ∷ on 9 kind.Name "g6" ∷
    on 9 kind.OpenBracket "[" ∷ on 9 kind.Number "2" ∷ on 9 kind.CloseBracket "]" ∷ on 9 kind.AtMost "<=" ∷ on 9 kind.Name "g6" ∷
    on 9 kind.OpenBracket "[" ∷ on 9 kind.Number "2" ∷ on 9 kind.CloseBracket "]" ∷ on 9 kind.CloseParen ")" ∷
    on 10 kind.Semicolon ";" ∷ on 10 kind.Arrow "->" ∷ on 10 kind.Name "g7" ∷ on 10 kind.OpenBracket "[" ∷ on 10 kind.Number "2" ∷
    on 10 kind.CloseBracket "]" ∷ on 10 kind.Increment "++" ∷ on 10 kind.CloseBrace "}" ∷ on 10 kind.Semicolon ";" ∷ []

model-random-9 : Program
unfolding tokens-random-9
model-random-9 =
    let at : ℕ → Word = token_at tokens-random-9 in
    let part : ℕ → ℕ → List Word = tokens_between tokens-random-9 in
    record {
      globals = (slot (at 9) chan true 0 2 1 (initial.Channel 2 (byte ∷ int ∷ int ∷ [])) ∷ slot (at 27) chan true 2 3 1
          (initial.Channel 2 (byte ∷ int ∷ int ∷ [])) ∷ slot (at 45) int true 5 3 1 initial.Zero ∷ slot (at 50) int true 8 3 1
          (initial.Value (number 4)) ∷ slot (at 58) chan true 11 2 1 (initial.Channel 0 (byte ∷ pid ∷ [])) ∷ []);
      constants = ((at 5) ∷ (at 3) ∷ []);
      typedefs = [];
      proctypes = (
          process (at 72) 6 1 0 [] (
          plain (part 74 93) (action.Send (in_global 1 chan (turn 0 3 1 (Some (number 0)) ∷ [])) Fifo ((number 1) ∷ (expr.Binary
          op.BitOr (read (in_global 2 int (turn 0 3 1 (Some (number 1)) ∷ []))) (number 2)) ∷ (number 8) ∷ [])) ∷
          plain (part 95 107) (action.Assert (expr.Binary op.AtMost (read (in_global 2 int (turn 0 3 1 (Some (number 2)) ∷ []))) (read
          (in_global 2 int (turn 0 3 1 (Some (number 2)) ∷ []))))) ∷
          plain (part 109 114) (action.Increment (in_global 3 int (turn 0 3 1 (Some (number 2)) ∷ []))) ∷ []) (at 114) ∷ []);
    }

row-random-9 : seen (options true true true 9) model-random-9 (codes "")
    ≡ Some (whole (text (
    "step 1: proc 0 (:init:) line 6 [g5 [ 0 ] ! 1 , ( g6 [ 1 ] ) | ( m1 ) , 8]\n" ∷
    "step 2: proc 0 (:init:) line 9 [assert ( g6 [ 2 ] <= g6 [ 2 ] )]\n" ∷
    "step 3: proc 0 (:init:) line 10 [g7 [ 2 ] ++]\n" ∷
    "global g7[2] = 5\n" ∷
    "step 4: proc 0 (:init:) line 10 [-end-]\n" ∷
    "end: valid, steps 4\n" ∷
    [])) (codes "") 0 0)
unfolding computes model-random-9
row-random-9 = sees (options true true true 9) model-random-9 (codes "") _ refl
