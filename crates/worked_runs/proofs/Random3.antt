-- Runs: random models. `tools/model-data` made the data of their models.
use Rattle.std.proofs.Common.{◌≡◌, ℕ, List, [], ◌∷◌, true, false, refl, Some, None}
use Rattle.std.specs.Prelude.{codes, negsuc}
use Rattle.pml_token.specs.Word.{Word}
use Rattle.pml_tree.specs.declared.tree.Search.TheVariants.{First, Matching}
use Rattle.pml_tree.specs.declared.tree.Removal.TheVariants.{Remove}
use Rattle.pml_tree.specs.declared.tree.SendOrder.TheVariants.{Fifo, Sorted}
use Rattle.pml_program.specs.declared.program.Program.{Program}
use Rattle.pml_program.specs.declared.program.Basic.{Goto, Break}
use Rattle.worked_runs.specs.Seen.{seen}
use Rattle.worked_runs.proofs.Models.{on, token_at, tokens_between, bit, bool, byte, chan, mtype, pid, short, int, slot, fields, turn, in_local, in_global, local, global, number, read, run, assign, holds, stmt, plain, labelled, block, atomic, d_step, if_fi, do_od, unless, process, options, text, whole}
use Rattle.worked_runs.proofs.Same.{computes, sees}
use Rattle.pml_token.specs.declared.token.Kind.TheVariants as kind
use Rattle.pml_tree.specs.declared.tree.Infix.TheVariants as op
use Rattle.pml_tree.specs.declared.tree.Prefix.TheVariants as before
use Rattle.pml_tree.specs.declared.tree.Fill.TheVariants as fill
use Rattle.pml_program.specs.declared.form.Form.TheVariants as form
use Rattle.pml_program.specs.declared.expr.Expr.TheVariants as expr
use Rattle.pml_program.specs.declared.expr.Want.TheVariants as want
use Rattle.pml_program.specs.declared.program.Initial.TheVariants as initial
use Rattle.pml_program.specs.declared.program.Action.TheVariants as action

-- -p -g -l
-- mtype{m1,m2 } mtype{ m3,m4}; chan q5 = [2 ]of { pid} chan q6 =[ 3]of{ byte }show chan g7
-- ; init{if :: 1 :: skip ; q5 !! m3 >( 0 ); {E8 : goto E9}unless {skip -> q5 ! ~ 4 } ::( m4) >= q5 ?? [ // d
-- _]:: goto E9 ; E9 :
-- q5 ! 255 fi _ = 4 -> printf("\n") -> _ = nempty (q6 ) }
tokens-random-17 : List Word
tokens-random-17 =
    on 1 kind.Mtype "mtype" ∷ on 1 kind.OpenBrace "{" ∷ on 1 kind.Name "m1" ∷ on 1 kind.Comma "," ∷ on 1 kind.Name "m2" ∷
    on 1 kind.CloseBrace "}" ∷ on 1 kind.Mtype "mtype" ∷ on 1 kind.OpenBrace "{" ∷ on 1 kind.Name "m3" ∷ on 1 kind.Comma "," ∷
    on 1 kind.Name "m4" ∷ on 1 kind.CloseBrace "}" ∷ on 1 kind.Semicolon ";" ∷ on 1 kind.Chan "chan" ∷ on 1 kind.Name "q5" ∷
    on 1 kind.Assign "=" ∷ on 1 kind.OpenBracket "[" ∷ on 1 kind.Number "2" ∷ on 1 kind.CloseBracket "]" ∷ on 1 kind.Of "of" ∷
    on 1 kind.OpenBrace "{" ∷ on 1 kind.Pid "pid" ∷ on 1 kind.CloseBrace "}" ∷ on 1 kind.Chan "chan" ∷ on 1 kind.Name "q6" ∷
    on 1 kind.Assign "=" ∷ on 1 kind.OpenBracket "[" ∷ on 1 kind.Number "3" ∷ on 1 kind.CloseBracket "]" ∷ on 1 kind.Of "of" ∷
    on 1 kind.OpenBrace "{" ∷ on 1 kind.Byte "byte" ∷ on 1 kind.CloseBrace "}" ∷ on 1 kind.Show "show" ∷ on 1 kind.Chan "chan" ∷
    on 1 kind.Name "g7" ∷ on 2 kind.Semicolon ";" ∷ on 2 kind.Init "init" ∷ on 2 kind.OpenBrace "{" ∷ on 2 kind.If "if" ∷
    on 2 kind.DoubleColon "::" ∷ on 2 kind.Number "1" ∷ on 2 kind.DoubleColon "::" ∷ on 2 kind.Skip "skip" ∷
    on 2 kind.Semicolon ";" ∷ on 2 kind.Name "q5" ∷ on 2 kind.BangBang "!!" ∷ on 2 kind.Name "m3" ∷ on 2 kind.Greater ">" ∷
    on 2 kind.OpenParen "(" ∷ on 2 kind.Number "0" ∷ on 2 kind.CloseParen ")" ∷ on 2 kind.Semicolon ";" ∷ on 2 kind.OpenBrace "{" ∷
    on 2 kind.Name "E8" ∷ on 2 kind.Colon ":" ∷ on 2 kind.Goto "goto" ∷ on 2 kind.Name "E9" ∷ on 2 kind.CloseBrace "}" ∷
    on 2 kind.Unless "unless" ∷ on 2 kind.OpenBrace "{" ∷ on 2 kind.Skip "skip" ∷ on 2 kind.Arrow "->" ∷ on 2 kind.Name "q5" ∷
    on 2 kind.Bang "!" ∷ on 2 kind.Tilde "~" ∷ on 2 kind.Number "4" ∷ on 2 kind.CloseBrace "}" ∷ on 2 kind.DoubleColon "::" ∷
    on 2 kind.OpenParen "(" ∷ on 2 kind.Name "m4" ∷ on 2 kind.CloseParen ")" ∷ on 2 kind.AtLeast ">=" ∷ on 2 kind.Name "q5" ∷
    on 2 kind.QueryQuery "??" ∷ on 2 kind.OpenBracket "[" ∷ on 3 kind.Name "_" ∷ on 3 kind.CloseBracket "]" ∷
    on 3 kind.DoubleColon "::" ∷ on 3 kind.Goto "goto" ∷ on 3 kind.Name "E9" ∷ on 3 kind.Semicolon ";" ∷ on 3 kind.Name "E9" ∷
    on 3 kind.Colon ":" ∷ on 4 kind.Name "q5" ∷ on 4 kind.Bang "!" ∷ on 4 kind.Number "255" ∷ on 4 kind.Fi "fi" ∷
    on 4 kind.Name "_" ∷ on 4 kind.Assign "=" ∷ on 4 kind.Number "4" ∷ on 4 kind.Arrow "->" ∷ on 4 kind.Printf "printf" ∷
    on 4 kind.OpenParen "(" ∷ on 4 kind.Quoted "\"\\n\"" ∷ on 4 kind.CloseParen ")" ∷ on 4 kind.Arrow "->" ∷ on 4 kind.Name "_" ∷
    on 4 kind.Assign "=" ∷ on 4 kind.Nempty "nempty" ∷ on 4 kind.OpenParen "(" ∷ on 4 kind.Name "q6" ∷ on 4 kind.CloseParen ")" ∷
    on 4 kind.CloseBrace "}" ∷ []

model-random-17 : Program
unfolding tokens-random-17
model-random-17 =
    let at : ℕ → Word = token_at tokens-random-17 in
    let part : ℕ → ℕ → List Word = tokens_between tokens-random-17 in
    record {
      globals = (slot (at 14) chan false 0 1 1 (initial.Channel 2 (pid ∷ [])) ∷ slot (at 24) chan false 1 1 1 (initial.Channel 3 (byte
          ∷ [])) ∷ slot (at 35) chan false 2 1 1 initial.Zero ∷ []);
      constants = ((at 4) ∷ (at 2) ∷ (at 10) ∷ (at 8) ∷ []);
      typedefs = [];
      proctypes = (
          process (at 37) 6 1 0 [] (
          if_fi (part 39 88) (
          (plain (part 41 42) (holds (number 1)) ∷ []) ∷
          (plain (part 43 44) (holds (number 1)) ∷
          plain (part 45 52) (action.Send (global 0 chan) Sorted ((expr.Binary op.Above (number 4) (number 0)) ∷ [])) ∷
          unless (part 53 68) (
          block (part 53 59) (
          labelled ((at 54) ∷ []) (stmt [] (Goto (at 57)) (part 56 58)) ∷ []) ∷ []) (
          block (part 60 68) (
          plain (part 61 62) (holds (number 1)) ∷
          plain (part 63 67) (action.Send (global 0 chan) Fifo ((expr.Unary before.Complement (number 4)) ∷ [])) ∷ []) ∷ []) ∷ []) ∷
          (plain (part 69 78) (holds (expr.Binary op.AtLeast (number 3) (expr.Poll (global 0 chan) Matching (want.Anything ∷ [])))) ∷ []) ∷
          (stmt [] (Goto (at 80)) (part 79 81) ∷
          labelled ((at 82) ∷ []) (plain (part 84 87) (action.Send (global 0 chan) Fifo ((number 255) ∷ []))) ∷ []) ∷ []) ∷
          plain (part 88 91) (action.Assign None (number 4)) ∷
          plain (part 92 96) (action.Printf (at 94) []) ∷
          plain (part 97 103) (action.Assign None (expr.Ask fill.IsNotEmpty (global 1 chan))) ∷ []) (at 103) ∷ []);
    }

row-random-17 : seen (options true true true 9) model-random-17 (codes "4\n")
    ≡ Some (whole (text (
    "choice 1: proc 0 (:init:) line 2 [1]\n" ∷
    "choice 2: proc 0 (:init:) line 2 [skip]\n" ∷
    "choice 3: proc 0 (:init:) line 2 [( m4 ) >= q5 ?? [ _ ]]\n" ∷
    "choice 4: proc 0 (:init:) line 3 [goto E9]\n" ∷
    "choose 1..4\n" ∷
    "step 1: proc 0 (:init:) line 3 [goto E9]\n" ∷
    "step 2: proc 0 (:init:) line 4 [q5 ! 255]\n" ∷
    "step 3: proc 0 (:init:) line 4 [_ = 4]\n" ∷
    "step 4: proc 0 (:init:) line 4 [printf ( \"\\n\" )]\n" ∷
    "\n" ∷
    "step 5: proc 0 (:init:) line 4 [_ = nempty ( q6 )]\n" ∷
    "step 6: proc 0 (:init:) line 4 [-end-]\n" ∷
    "end: valid, steps 6\n" ∷
    [])) (codes "4\n") 0 2)
unfolding computes model-random-17
row-random-17 = sees (options true true true 9) model-random-17 (codes "4\n") _ refl

-- -p -g -l
-- byte za0[3]; byte zi0 ; chan zg1; proctype ZP1() { chan c = [1] of { byte }; zg1 = c } ; byte za2[2]; byte zb2; proctype ZP2(byte
--     a) { skip } ; init { do :: za0[zi0] = zi0; zi0++ od; run ZP1(); (_nr_pr == 1); run ZP1(); (_nr_pr == 1); zg1!1; za2[5] = run
--     ZP2(1 / zb2); printf("after\n") }
tokens-random-18 : List Word
tokens-random-18 =
    on 1 kind.Byte "byte" ∷ on 1 kind.Name "za0" ∷ on 1 kind.OpenBracket "[" ∷ on 1 kind.Number "3" ∷ on 1 kind.CloseBracket "]" ∷
    on 1 kind.Semicolon ";" ∷ on 1 kind.Byte "byte" ∷ on 1 kind.Name "zi0" ∷ on 1 kind.Semicolon ";" ∷ on 1 kind.Chan "chan" ∷
    on 1 kind.Name "zg1" ∷ on 1 kind.Semicolon ";" ∷ on 1 kind.Proctype "proctype" ∷ on 1 kind.Name "ZP1" ∷ on 1 kind.OpenParen "(" ∷
    on 1 kind.CloseParen ")" ∷ on 1 kind.OpenBrace "{" ∷ on 1 kind.Chan "chan" ∷ on 1 kind.Name "c" ∷ on 1 kind.Assign "=" ∷
    on 1 kind.OpenBracket "[" ∷ on 1 kind.Number "1" ∷ on 1 kind.CloseBracket "]" ∷ on 1 kind.Of "of" ∷ on 1 kind.OpenBrace "{" ∷
    on 1 kind.Byte "byte" ∷ on 1 kind.CloseBrace "}" ∷ on 1 kind.Semicolon ";" ∷ on 1 kind.Name "zg1" ∷ on 1 kind.Assign "=" ∷
    on 1 kind.Name "c" ∷ on 1 kind.CloseBrace "}" ∷ on 1 kind.Semicolon ";" ∷ on 1 kind.Byte "byte" ∷ on 1 kind.Name "za2" ∷
    on 1 kind.OpenBracket "[" ∷ on 1 kind.Number "2" ∷ on 1 kind.CloseBracket "]" ∷ on 1 kind.Semicolon ";" ∷ on 1 kind.Byte "byte" ∷
    on 1 kind.Name "zb2" ∷ on 1 kind.Semicolon ";" ∷ on 1 kind.Proctype "proctype" ∷ on 1 kind.Name "ZP2" ∷ on 1 kind.OpenParen "(" ∷
    on 1 kind.Byte "byte" ∷ on 1 kind.Name "a" ∷ on 1 kind.CloseParen ")" ∷ on 1 kind.OpenBrace "{" ∷ on 1 kind.Skip "skip" ∷
    on 1 kind.CloseBrace "}" ∷ on 1 kind.Semicolon ";" ∷ on 1 kind.Init "init" ∷ on 1 kind.OpenBrace "{" ∷ on 1 kind.Do "do" ∷
    on 1 kind.DoubleColon "::" ∷ on 1 kind.Name "za0" ∷ on 1 kind.OpenBracket "[" ∷ on 1 kind.Name "zi0" ∷
    on 1 kind.CloseBracket "]" ∷ on 1 kind.Assign "=" ∷ on 1 kind.Name "zi0" ∷ on 1 kind.Semicolon ";" ∷ on 1 kind.Name "zi0" ∷
    on 1 kind.Increment "++" ∷ on 1 kind.Od "od" ∷ on 1 kind.Semicolon ";" ∷ on 1 kind.Run "run" ∷ on 1 kind.Name "ZP1" ∷
    on 1 kind.OpenParen "(" ∷ on 1 kind.CloseParen ")" ∷ on 1 kind.Semicolon ";" ∷ on 1 kind.OpenParen "(" ∷
    on 1 kind.Name "_nr_pr" ∷ on 1 kind.Equal "==" ∷ on 1 kind.Number "1" ∷ on 1 kind.CloseParen ")" ∷ on 1 kind.Semicolon ";" ∷
    on 1 kind.Run "run" ∷ on 1 kind.Name "ZP1" ∷ on 1 kind.OpenParen "(" ∷ on 1 kind.CloseParen ")" ∷ on 1 kind.Semicolon ";" ∷
    on 1 kind.OpenParen "(" ∷ on 1 kind.Name "_nr_pr" ∷ on 1 kind.Equal "==" ∷ on 1 kind.Number "1" ∷ on 1 kind.CloseParen ")" ∷
    on 1 kind.Semicolon ";" ∷ on 1 kind.Name "zg1" ∷ on 1 kind.Bang "!" ∷ on 1 kind.Number "1" ∷ on 1 kind.Semicolon ";" ∷
    on 1 kind.Name "za2" ∷ on 1 kind.OpenBracket "[" ∷ on 1 kind.Number "5" ∷ on 1 kind.CloseBracket "]" ∷ on 1 kind.Assign "=" ∷
    on 1 kind.Run "run" ∷ on 1 kind.Name "ZP2" ∷ on 1 kind.OpenParen "(" ∷ on 1 kind.Number "1" ∷ on 1 kind.Slash "/" ∷
    on 1 kind.Name "zb2" ∷ on 1 kind.CloseParen ")" ∷ on 1 kind.Semicolon ";" ∷ on 1 kind.Printf "printf" ∷ on 1 kind.OpenParen "(" ∷
    on 1 kind.Quoted "\"after\\n\"" ∷ on 1 kind.CloseParen ")" ∷ on 1 kind.CloseBrace "}" ∷ []

model-random-18 : Program
unfolding tokens-random-18
model-random-18 =
    let at : ℕ → Word = token_at tokens-random-18 in
    let part : ℕ → ℕ → List Word = tokens_between tokens-random-18 in
    record {
      globals = (slot (at 1) byte true 0 3 1 initial.Zero ∷ slot (at 7) byte false 3 1 1 initial.Zero ∷ slot (at 10) chan false 4 1 1
          initial.Zero ∷ slot (at 34) byte true 5 2 1 initial.Zero ∷ slot (at 40) byte false 7 1 1 initial.Zero ∷ []);
      constants = [];
      typedefs = [];
      proctypes = (
          process (at 13) 4 0 0 (slot (at 18) chan false 0 1 1 (initial.Channel 1 (byte ∷ [])) ∷ []) (
          plain (part 28 31) (assign (global 2 chan) (read (local 0 chan))) ∷ []) (at 31) ∷
          process (at 43) 7 0 1 (slot (at 46) byte false 0 1 1 initial.Zero ∷ []) (
          plain (part 49 50) (holds (number 1)) ∷ []) (at 50) ∷
          process (at 52) 8 1 0 [] (
          do_od (part 54 66) (
          (plain (part 56 62) (assign (in_global 0 byte (turn 0 3 1 (Some (read (global 1 byte))) ∷ [])) (read (global 1 byte))) ∷
          plain (part 63 65) (action.Increment (global 1 byte)) ∷ []) ∷ []) ∷
          plain (part 67 71) (action.Run (run 0 [])) ∷
          plain (part 72 77) (holds (expr.Binary op.Equal expr.ProcessCount (number 1))) ∷
          plain (part 78 82) (action.Run (run 0 [])) ∷
          plain (part 83 88) (holds (expr.Binary op.Equal expr.ProcessCount (number 1))) ∷
          plain (part 89 92) (action.Send (global 2 chan) Fifo ((number 1) ∷ [])) ∷
          plain (part 93 105) (action.AssignRun (Some (in_global 3 byte (turn 0 2 1 (Some (number 5)) ∷ []))) (run 1 ((expr.Binary
          op.Divide (number 1) (read (global 4 byte))) ∷ []))) ∷
          plain (part 106 110) (action.Printf (at 108) []) ∷ []) (at 110) ∷ []);
    }

row-random-18 : seen (options true true true 9) model-random-18 (codes "")
    ≡ Some (whole (text (
    "step 1: proc 0 (:init:) line 1 [za0 [ zi0 ] = zi0]\n" ∷
    "step 2: proc 0 (:init:) line 1 [zi0 ++]\n" ∷
    "global zi0 = 1\n" ∷
    "step 3: proc 0 (:init:) line 1 [za0 [ zi0 ] = zi0]\n" ∷
    "global za0[1] = 1\n" ∷
    "step 4: proc 0 (:init:) line 1 [zi0 ++]\n" ∷
    "global zi0 = 2\n" ∷
    "step 5: proc 0 (:init:) line 1 [za0 [ zi0 ] = zi0]\n" ∷
    "global za0[2] = 2\n" ∷
    "step 6: proc 0 (:init:) line 1 [zi0 ++]\n" ∷
    "global zi0 = 3\n" ∷
    "fault F3 (index out of range): step 7: proc 0 (:init:) line 1 [za0 [ zi0 ] = zi0]\n" ∷
    [])) (codes "") 2 0)
unfolding computes model-random-18
row-random-18 = sees (options true true true 9) model-random-18 (codes "") _ refl

-- -p -l
-- byte za[2] ; mtype = { m1 }; typedef Ty { show chan f2; } chan q4 = [1] of { bit, int }
-- unsigned g5 : 4 = (2); byte g6, g7 = 2, g8 active proctype P9() { bool v10[0 + 1] = 4; atomic { g7 = 0; -> end11: skip; ->
--     printf("%u\n", (m1) != _pid) } }
-- init { za[- 1] == 0 ;  unsigned v12 : 3 = (timeout) << (g6); E13: accept14: q4!!false <= _nr_pr, - - (_pid) }
tokens-random-19 : List Word
tokens-random-19 =
    on 1 kind.Byte "byte" ∷ on 1 kind.Name "za" ∷ on 1 kind.OpenBracket "[" ∷ on 1 kind.Number "2" ∷ on 1 kind.CloseBracket "]" ∷
    on 1 kind.Semicolon ";" ∷ on 1 kind.Mtype "mtype" ∷ on 1 kind.Assign "=" ∷ on 1 kind.OpenBrace "{" ∷ on 1 kind.Name "m1" ∷
    on 1 kind.CloseBrace "}" ∷ on 1 kind.Semicolon ";" ∷ on 1 kind.Typedef "typedef" ∷ on 1 kind.Name "Ty" ∷
    on 1 kind.OpenBrace "{" ∷ on 1 kind.Show "show" ∷ on 1 kind.Chan "chan" ∷ on 1 kind.Name "f2" ∷ on 1 kind.Semicolon ";" ∷
    on 1 kind.CloseBrace "}" ∷ on 1 kind.Chan "chan" ∷ on 1 kind.Name "q4" ∷ on 1 kind.Assign "=" ∷ on 1 kind.OpenBracket "[" ∷
    on 1 kind.Number "1" ∷ on 1 kind.CloseBracket "]" ∷ on 1 kind.Of "of" ∷ on 1 kind.OpenBrace "{" ∷ on 1 kind.Bit "bit" ∷
    on 1 kind.Comma "," ∷ on 1 kind.Int "int" ∷ on 1 kind.CloseBrace "}" ∷ on 2 kind.Unsigned "unsigned" ∷ on 2 kind.Name "g5" ∷
    on 2 kind.Colon ":" ∷ on 2 kind.Number "4" ∷ on 2 kind.Assign "=" ∷ on 2 kind.OpenParen "(" ∷ on 2 kind.Number "2" ∷
    on 2 kind.CloseParen ")" ∷ on 2 kind.Semicolon ";" ∷ on 2 kind.Byte "byte" ∷ on 2 kind.Name "g6" ∷ on 2 kind.Comma "," ∷
    on 2 kind.Name "g7" ∷ on 2 kind.Assign "=" ∷ on 2 kind.Number "2" ∷ on 2 kind.Comma "," ∷ on 2 kind.Name "g8" ∷
    on 2 kind.Active "active" ∷ on 2 kind.Proctype "proctype" ∷ on 2 kind.Name "P9" ∷ on 2 kind.OpenParen "(" ∷
    on 2 kind.CloseParen ")" ∷ on 2 kind.OpenBrace "{" ∷ on 2 kind.Bool "bool" ∷ on 2 kind.Name "v10" ∷ on 2 kind.OpenBracket "[" ∷
    on 2 kind.Number "0" ∷ on 2 kind.Plus "+" ∷ on 2 kind.Number "1" ∷ on 2 kind.CloseBracket "]" ∷ on 2 kind.Assign "=" ∷
    on 2 kind.Number "4" ∷ on 2 kind.Semicolon ";" ∷ on 2 kind.Atomic "atomic" ∷ on 2 kind.OpenBrace "{" ∷ on 2 kind.Name "g7" ∷
    on 2 kind.Assign "=" ∷ on 2 kind.Number "0" ∷ on 2 kind.Semicolon ";" ∷ on 2 kind.Arrow "->" ∷ on 2 kind.Name "end11" ∷
    on 2 kind.Colon ":" ∷ on 2 kind.Skip "skip" ∷ on 2 kind.Semicolon ";" ∷ on 2 kind.Arrow "->" ∷ on 2 kind.Printf "printf" ∷
    on 2 kind.OpenParen "(" ∷ on 2 kind.Quoted "\"%u\\n\"" ∷ on 2 kind.Comma "," ∷ on 2 kind.OpenParen "(" ∷ on 2 kind.Name "m1" ∷
    on 2 kind.CloseParen ")" ∷ on 2 kind.Unequal "!=" ∷ on 2 kind.Name "_pid" ∷ on 2 kind.CloseParen ")" ∷ on 2 kind.CloseBrace "}" ∷
    on 2 kind.CloseBrace "}" ∷ on 3 kind.Init "init" ∷ on 3 kind.OpenBrace "{" ∷ on 3 kind.Name "za" ∷ on 3 kind.OpenBracket "[" ∷
    on 3 kind.Minus "-" ∷ on 3 kind.Number "1" ∷ on 3 kind.CloseBracket "]" ∷ on 3 kind.Equal "==" ∷ on 3 kind.Number "0" ∷
    on 3 kind.Semicolon ";" ∷ on 3 kind.Unsigned "unsigned" ∷ on 3 kind.Name "v12" ∷ on 3 kind.Colon ":" ∷ on 3 kind.Number "3" ∷
    on 3 kind.Assign "=" ∷ on 3 kind.OpenParen "(" ∷ on 3 kind.Timeout "timeout" ∷ on 3 kind.CloseParen ")" ∷
    on 3 kind.ShiftLeft "<<" ∷ on 3 kind.OpenParen "(" ∷ on 3 kind.Name "g6" ∷ on 3 kind.CloseParen ")" ∷ on 3 kind.Semicolon ";" ∷
    on 3 kind.Name "E13" ∷ on 3 kind.Colon ":" ∷ on 3 kind.Name "accept14" ∷ on 3 kind.Colon ":" ∷ on 3 kind.Name "q4" ∷
    on 3 kind.BangBang "!!" ∷ on 3 kind.False "false" ∷ on 3 kind.AtMost "<=" ∷ on 3 kind.Name "_nr_pr" ∷ on 3 kind.Comma "," ∷
    on 3 kind.Minus "-" ∷ on 3 kind.Minus "-" ∷ on 3 kind.OpenParen "(" ∷ on 3 kind.Name "_pid" ∷ on 3 kind.CloseParen ")" ∷
    on 3 kind.CloseBrace "}" ∷ []

model-random-19 : Program
unfolding tokens-random-19
model-random-19 =
    let at : ℕ → Word = token_at tokens-random-19 in
    let part : ℕ → ℕ → List Word = tokens_between tokens-random-19 in
    record {
      globals = (slot (at 1) byte true 0 2 1 initial.Zero ∷ slot (at 21) chan false 2 1 1 (initial.Channel 1 (bit ∷ int ∷ [])) ∷ slot
          (at 33) (form.Unsigned 4) false 3 1 1 (initial.Value (number 2)) ∷ slot (at 42) byte false 4 1 1 initial.Zero ∷ slot (at 44)
          byte false 5 1 1 (initial.Value (number 2)) ∷ slot (at 48) byte false 6 1 1 initial.Zero ∷ []);
      constants = ((at 9) ∷ []);
      typedefs = (fields 3 (slot (at 17) chan false 0 1 1 initial.Zero ∷ []) ∷ []);
      proctypes = (
          process (at 51) 7 1 0 (slot (at 56) bool true 0 1 1 (initial.Value (number 4)) ∷ []) (
          atomic (part 65 88) (
          plain (part 67 70) (assign (global 4 byte) (number 0)) ∷
          labelled ((at 72) ∷ []) (plain (part 74 75) (holds (number 1))) ∷
          plain (part 77 87) (action.Printf (at 79) ((expr.Binary op.Unequal (number 1) expr.Pid) ∷ [])) ∷ []) ∷ []) (at 88) ∷
          process (at 89) 8 1 0 (slot (at 100) (form.Unsigned 3) false 0 1 1 (initial.Value (expr.Binary op.ShiftLeft expr.Timeout (read
          (global 3 byte)))) ∷ []) (
          plain (part 91 98) (holds (expr.Binary op.Equal (read (in_global 0 byte (turn 0 2 1 (Some (expr.Unary before.Minus (number
          1))) ∷ []))) (number 0))) ∷
          labelled ((at 112) ∷ (at 114) ∷ []) (plain (part 116 127) (action.Send (global 1 chan) Sorted ((expr.Binary op.AtMost (number
          0) expr.ProcessCount) ∷ (expr.Unary before.Minus (expr.Unary before.Minus expr.Pid)) ∷ []))) ∷ []) (at 127) ∷ []);
    }

row-random-19 : seen (options true false true 9) model-random-19 (codes "1\n")
    ≡ Some (whole (text (
    "choice 1: proc 0 (P9) line 2 [g7 = 0]\n" ∷
    "choice 2: proc 1 (:init:) line 3 [za [ - 1 ] == 0]\n" ∷
    "choose 1..2\n" ∷
    "step 1: proc 0 (P9) line 2 [g7 = 0]\n" ∷
    "step 2: proc 0 (P9) line 2 [skip]\n" ∷
    "step 3: proc 0 (P9) line 2 [printf ( \"%u\\n\" , ( m1 ) != _pid )]\n" ∷
    "1\n" ∷
    "fault F3 (index out of range): step 4: proc 1 (:init:) line 3 [za [ - 1 ] == 0]\n" ∷
    [])) (codes "1\n") 2 2)
unfolding computes model-random-19
row-random-19 = sees (options true false true 9) model-random-19 (codes "1\n") _ refl

-- no options
-- mtype ={m1,m2 }chan q3 = [ 1 ]of{bit ,pid };bool g4,g5 [3 + 1 ] ,g6 = (_nr_pr )%(3) chan g7
--   = [ 1 ]of{bit,pid }; active proctype P10(pid p8, hidden byte p9) {local unsigned v11 : 1; do :: g6 != 1 -> accept12 : if :: g7 !
--     257, 2 ;p9 = 0 :: g7 !! !(32767)(true
-- ) fi :: goto
-- accept12 :: else ; q3
-- ++ :: len( g7 ) -> break od
--
-- } ;
tokens-random-20 : List Word
tokens-random-20 =
    on 1 kind.Mtype "mtype" ∷ on 1 kind.Assign "=" ∷ on 1 kind.OpenBrace "{" ∷ on 1 kind.Name "m1" ∷ on 1 kind.Comma "," ∷
    on 1 kind.Name "m2" ∷ on 1 kind.CloseBrace "}" ∷ on 1 kind.Chan "chan" ∷ on 1 kind.Name "q3" ∷ on 1 kind.Assign "=" ∷
    on 1 kind.OpenBracket "[" ∷ on 1 kind.Number "1" ∷ on 1 kind.CloseBracket "]" ∷ on 1 kind.Of "of" ∷ on 1 kind.OpenBrace "{" ∷
    on 1 kind.Bit "bit" ∷ on 1 kind.Comma "," ∷ on 1 kind.Pid "pid" ∷ on 1 kind.CloseBrace "}" ∷ on 1 kind.Semicolon ";" ∷
    on 1 kind.Bool "bool" ∷ on 1 kind.Name "g4" ∷ on 1 kind.Comma "," ∷ on 1 kind.Name "g5" ∷ on 1 kind.OpenBracket "[" ∷
    on 1 kind.Number "3" ∷ on 1 kind.Plus "+" ∷ on 1 kind.Number "1" ∷ on 1 kind.CloseBracket "]" ∷ on 1 kind.Comma "," ∷
    on 1 kind.Name "g6" ∷ on 1 kind.Assign "=" ∷ on 1 kind.OpenParen "(" ∷ on 1 kind.Name "_nr_pr" ∷ on 1 kind.CloseParen ")" ∷
    on 1 kind.Percent "%" ∷ on 1 kind.OpenParen "(" ∷ on 1 kind.Number "3" ∷ on 1 kind.CloseParen ")" ∷ on 1 kind.Chan "chan" ∷
    on 1 kind.Name "g7" ∷ on 2 kind.Assign "=" ∷ on 2 kind.OpenBracket "[" ∷ on 2 kind.Number "1" ∷ on 2 kind.CloseBracket "]" ∷
    on 2 kind.Of "of" ∷ on 2 kind.OpenBrace "{" ∷ on 2 kind.Bit "bit" ∷ on 2 kind.Comma "," ∷ on 2 kind.Pid "pid" ∷
    on 2 kind.CloseBrace "}" ∷ on 2 kind.Semicolon ";" ∷ on 2 kind.Active "active" ∷ on 2 kind.Proctype "proctype" ∷
    on 2 kind.Name "P10" ∷ on 2 kind.OpenParen "(" ∷ on 2 kind.Pid "pid" ∷ on 2 kind.Name "p8" ∷ on 2 kind.Comma "," ∷
    on 2 kind.Hidden "hidden" ∷ on 2 kind.Byte "byte" ∷ on 2 kind.Name "p9" ∷ on 2 kind.CloseParen ")" ∷ on 2 kind.OpenBrace "{" ∷
    on 2 kind.Local "local" ∷ on 2 kind.Unsigned "unsigned" ∷ on 2 kind.Name "v11" ∷ on 2 kind.Colon ":" ∷ on 2 kind.Number "1" ∷
    on 2 kind.Semicolon ";" ∷ on 2 kind.Do "do" ∷ on 2 kind.DoubleColon "::" ∷ on 2 kind.Name "g6" ∷ on 2 kind.Unequal "!=" ∷
    on 2 kind.Number "1" ∷ on 2 kind.Arrow "->" ∷ on 2 kind.Name "accept12" ∷ on 2 kind.Colon ":" ∷ on 2 kind.If "if" ∷
    on 2 kind.DoubleColon "::" ∷ on 2 kind.Name "g7" ∷ on 2 kind.Bang "!" ∷ on 2 kind.Number "257" ∷ on 2 kind.Comma "," ∷
    on 2 kind.Number "2" ∷ on 2 kind.Semicolon ";" ∷ on 2 kind.Name "p9" ∷ on 2 kind.Assign "=" ∷ on 2 kind.Number "0" ∷
    on 2 kind.DoubleColon "::" ∷ on 2 kind.Name "g7" ∷ on 2 kind.BangBang "!!" ∷ on 2 kind.Bang "!" ∷ on 2 kind.OpenParen "(" ∷
    on 2 kind.Number "32767" ∷ on 2 kind.CloseParen ")" ∷ on 2 kind.OpenParen "(" ∷ on 2 kind.True "true" ∷
    on 3 kind.CloseParen ")" ∷ on 3 kind.Fi "fi" ∷ on 3 kind.DoubleColon "::" ∷ on 3 kind.Goto "goto" ∷ on 4 kind.Name "accept12" ∷
    on 4 kind.DoubleColon "::" ∷ on 4 kind.Else "else" ∷ on 4 kind.Semicolon ";" ∷ on 4 kind.Name "q3" ∷ on 5 kind.Increment "++" ∷
    on 5 kind.DoubleColon "::" ∷ on 5 kind.Len "len" ∷ on 5 kind.OpenParen "(" ∷ on 5 kind.Name "g7" ∷ on 5 kind.CloseParen ")" ∷
    on 5 kind.Arrow "->" ∷ on 5 kind.Break "break" ∷ on 5 kind.Od "od" ∷ on 7 kind.CloseBrace "}" ∷ on 7 kind.Semicolon ";" ∷ []

model-random-20 : Program
unfolding tokens-random-20
model-random-20 =
    let at : ℕ → Word = token_at tokens-random-20 in
    let part : ℕ → ℕ → List Word = tokens_between tokens-random-20 in
    record {
      globals = (slot (at 8) chan false 0 1 1 (initial.Channel 1 (bit ∷ pid ∷ [])) ∷ slot (at 21) bool false 1 1 1 initial.Zero ∷ slot
          (at 23) bool true 2 4 1 initial.Zero ∷ slot (at 30) bool false 6 1 1 (initial.Value (expr.Binary op.Remainder
          expr.ProcessCount (number 3))) ∷ slot (at 40) chan false 7 1 1 (initial.Channel 1 (bit ∷ pid ∷ [])) ∷ []);
      constants = ((at 5) ∷ (at 3) ∷ []);
      typedefs = [];
      proctypes = (
          process (at 54) 5 1 2 (slot (at 57) pid false 0 1 1 initial.Zero ∷ slot (at 61) byte false 1 1 1 initial.Zero ∷ slot (at 66)
          (form.Unsigned 1) false 2 1 1 initial.Zero ∷ []) (
          do_od (part 70 116) (
          (plain (part 72 75) (holds (expr.Binary op.Unequal (read (global 3 bool)) (number 1))) ∷
          labelled ((at 76) ∷ []) (if_fi (part 78 100) (
          (plain (part 80 85) (action.Send (global 4 chan) Fifo ((number 257) ∷ (number 2) ∷ [])) ∷
          plain (part 86 89) (assign (local 1 byte) (number 0)) ∷ []) ∷
          (plain (part 90 99) (action.Send (global 4 chan) Sorted ((expr.Unary before.Not (number 32767)) ∷ (number 1) ∷ [])) ∷ []) ∷
          [])) ∷ []) ∷
          (stmt [] (Goto (at 102)) (part 101 103) ∷ []) ∷
          (plain (part 104 105) action.Else ∷
          plain (part 106 108) (action.Increment (global 0 chan)) ∷ []) ∷
          (plain (part 109 113) (holds (expr.Ask fill.Length (global 4 chan))) ∷
          stmt [] Break (part 114 115) ∷ []) ∷ []) ∷ []) (at 116) ∷ []);
    }

row-random-20 : seen (options false false false 9) model-random-20 (codes "1\n2\n3\n")
    ≡ Some (whole (text (
    "choice 1: proc 0 (P10) line 2 [g6 != 1]\n" ∷
    "choice 2: proc 0 (P10) line 3 [goto accept12]\n" ∷
    "choose 1..2\n" ∷
    "choice 1: proc 0 (P10) line 2 [g7 ! 257 , 2]\n" ∷
    "choice 2: proc 0 (P10) line 2 [g7 !! ! ( 32767 ) ( true )]\n" ∷
    "choose 1..2\n" ∷
    "choice 1: proc 0 (P10) line 2 [g6 != 1]\n" ∷
    "choice 2: proc 0 (P10) line 3 [goto accept12]\n" ∷
    "choice 3: proc 0 (P10) line 5 [len ( g7 )]\n" ∷
    "choose 1..3\n" ∷
    "end: valid, steps 4\n" ∷
    [])) (codes "1\n2\n3\n") 0 6)
unfolding computes model-random-20
row-random-20 = sees (options false false false 9) model-random-20 (codes "1\n2\n3\n") _ refl

-- no options
-- chan q1[2 ] = [0 ] of{mtype , bit} ; local chan g2 = [ 0] of {mtype , bit} active[ 3] proctype P3 (){ if :: skip fi;{E4 : _ =
--     full(q1 [0] )} unless { q1[0 ]?? _ , eval ( 3) ; ( 3)== true} -> atomic{_ = 65536 >= 0; g2 ! ~ 33 , 0 >>
-- 0
--
-- }} ;
tokens-random-21 : List Word
tokens-random-21 =
    on 1 kind.Chan "chan" ∷ on 1 kind.Name "q1" ∷ on 1 kind.OpenBracket "[" ∷ on 1 kind.Number "2" ∷ on 1 kind.CloseBracket "]" ∷
    on 1 kind.Assign "=" ∷ on 1 kind.OpenBracket "[" ∷ on 1 kind.Number "0" ∷ on 1 kind.CloseBracket "]" ∷ on 1 kind.Of "of" ∷
    on 1 kind.OpenBrace "{" ∷ on 1 kind.Mtype "mtype" ∷ on 1 kind.Comma "," ∷ on 1 kind.Bit "bit" ∷ on 1 kind.CloseBrace "}" ∷
    on 1 kind.Semicolon ";" ∷ on 1 kind.Local "local" ∷ on 1 kind.Chan "chan" ∷ on 1 kind.Name "g2" ∷ on 1 kind.Assign "=" ∷
    on 1 kind.OpenBracket "[" ∷ on 1 kind.Number "0" ∷ on 1 kind.CloseBracket "]" ∷ on 1 kind.Of "of" ∷ on 1 kind.OpenBrace "{" ∷
    on 1 kind.Mtype "mtype" ∷ on 1 kind.Comma "," ∷ on 1 kind.Bit "bit" ∷ on 1 kind.CloseBrace "}" ∷ on 1 kind.Active "active" ∷
    on 1 kind.OpenBracket "[" ∷ on 1 kind.Number "3" ∷ on 1 kind.CloseBracket "]" ∷ on 1 kind.Proctype "proctype" ∷
    on 1 kind.Name "P3" ∷ on 1 kind.OpenParen "(" ∷ on 1 kind.CloseParen ")" ∷ on 1 kind.OpenBrace "{" ∷ on 1 kind.If "if" ∷
    on 1 kind.DoubleColon "::" ∷ on 1 kind.Skip "skip" ∷ on 1 kind.Fi "fi" ∷ on 1 kind.Semicolon ";" ∷ on 1 kind.OpenBrace "{" ∷
    on 1 kind.Name "E4" ∷ on 1 kind.Colon ":" ∷ on 1 kind.Name "_" ∷ on 1 kind.Assign "=" ∷ on 1 kind.Full "full" ∷
    on 1 kind.OpenParen "(" ∷ on 1 kind.Name "q1" ∷ on 1 kind.OpenBracket "[" ∷ on 1 kind.Number "0" ∷ on 1 kind.CloseBracket "]" ∷
    on 1 kind.CloseParen ")" ∷ on 1 kind.CloseBrace "}" ∷ on 1 kind.Unless "unless" ∷ on 1 kind.OpenBrace "{" ∷ on 1 kind.Name "q1" ∷
    on 1 kind.OpenBracket "[" ∷ on 1 kind.Number "0" ∷ on 1 kind.CloseBracket "]" ∷ on 1 kind.QueryQuery "??" ∷ on 1 kind.Name "_" ∷
    on 1 kind.Comma "," ∷ on 1 kind.Eval "eval" ∷ on 1 kind.OpenParen "(" ∷ on 1 kind.Number "3" ∷ on 1 kind.CloseParen ")" ∷
    on 1 kind.Semicolon ";" ∷ on 1 kind.OpenParen "(" ∷ on 1 kind.Number "3" ∷ on 1 kind.CloseParen ")" ∷ on 1 kind.Equal "==" ∷
    on 1 kind.True "true" ∷ on 1 kind.CloseBrace "}" ∷ on 1 kind.Arrow "->" ∷ on 1 kind.Atomic "atomic" ∷ on 1 kind.OpenBrace "{" ∷
    on 1 kind.Name "_" ∷ on 1 kind.Assign "=" ∷ on 1 kind.Number "65536" ∷ on 1 kind.AtLeast ">=" ∷ on 1 kind.Number "0" ∷
    on 1 kind.Semicolon ";" ∷ on 1 kind.Name "g2" ∷ on 1 kind.Bang "!" ∷ on 1 kind.Tilde "~" ∷ on 1 kind.Number "33" ∷
    on 1 kind.Comma "," ∷ on 1 kind.Number "0" ∷ on 1 kind.ShiftRight ">>" ∷ on 2 kind.Number "0" ∷ on 4 kind.CloseBrace "}" ∷
    on 4 kind.CloseBrace "}" ∷ on 4 kind.Semicolon ";" ∷ []

model-random-21 : Program
unfolding tokens-random-21
model-random-21 =
    let at : ℕ → Word = token_at tokens-random-21 in
    let part : ℕ → ℕ → List Word = tokens_between tokens-random-21 in
    record {
      globals = (slot (at 1) chan true 0 2 1 (initial.Channel 0 (mtype ∷ bit ∷ [])) ∷ slot (at 18) chan false 2 1 1 (initial.Channel 0
          (mtype ∷ bit ∷ [])) ∷ []);
      constants = [];
      typedefs = [];
      proctypes = (
          process (at 34) 3 3 0 [] (
          if_fi (part 38 42) (
          (plain (part 40 41) (holds (number 1)) ∷ []) ∷ []) ∷
          unless (part 43 76) (
          block (part 43 56) (
          labelled ((at 44) ∷ []) (plain (part 46 55) (action.Assign None (expr.Ask fill.IsFull (in_global 0 chan (turn 0 2 1 (Some
          (number 0)) ∷ []))))) ∷ []) ∷ []) (
          block (part 57 76) (
          plain (part 58 69) (action.Receive (in_global 0 chan (turn 0 2 1 (Some (number 0)) ∷ [])) Matching Remove (want.Anything ∷
          want.Equal (number 3) ∷ [])) ∷
          plain (part 70 75) (holds (expr.Binary op.Equal (number 3) (number 1))) ∷ []) ∷ []) ∷
          atomic (part 77 94) (
          plain (part 79 84) (action.Assign None (expr.Binary op.AtLeast (number 65536) (number 0))) ∷
          plain (part 85 93) (action.Send (global 1 chan) Fifo ((expr.Unary before.Complement (number 33)) ∷ (expr.Binary op.ShiftRight
          (number 0) (number 0)) ∷ [])) ∷ []) ∷ []) (at 94) ∷ []);
    }

row-random-21 : seen (options false false false 9) model-random-21 (codes "1\n3\n2\n1\n2\n1\n1\n")
    ≡ Some (whole (text (
    "choice 1: proc 0 (P3) line 1 [skip]\n" ∷
    "choice 2: proc 1 (P3) line 1 [skip]\n" ∷
    "choice 3: proc 2 (P3) line 1 [skip]\n" ∷
    "choose 1..3\n" ∷
    "choice 1: proc 0 (P3) line 1 [_ = full ( q1 [ 0 ] )]\n" ∷
    "choice 2: proc 1 (P3) line 1 [skip]\n" ∷
    "choice 3: proc 2 (P3) line 1 [skip]\n" ∷
    "choose 1..3\n" ∷
    "choice 1: proc 0 (P3) line 1 [_ = full ( q1 [ 0 ] )]\n" ∷
    "choice 2: proc 1 (P3) line 1 [skip]\n" ∷
    "choice 3: proc 2 (P3) line 1 [_ = full ( q1 [ 0 ] )]\n" ∷
    "choose 1..3\n" ∷
    "choice 1: proc 0 (P3) line 1 [_ = full ( q1 [ 0 ] )]\n" ∷
    "choice 2: proc 1 (P3) line 1 [_ = full ( q1 [ 0 ] )]\n" ∷
    "choice 3: proc 2 (P3) line 1 [_ = full ( q1 [ 0 ] )]\n" ∷
    "choose 1..3\n" ∷
    "choice 1: proc 0 (P3) line 1 [_ = 65536 >= 0]\n" ∷
    "choice 2: proc 1 (P3) line 1 [_ = full ( q1 [ 0 ] )]\n" ∷
    "choice 3: proc 2 (P3) line 1 [_ = full ( q1 [ 0 ] )]\n" ∷
    "choose 1..3\n" ∷
    "choice 1: proc 0 (P3) line 1 [_ = 65536 >= 0]\n" ∷
    "choice 2: proc 1 (P3) line 1 [_ = 65536 >= 0]\n" ∷
    "choice 3: proc 2 (P3) line 1 [_ = full ( q1 [ 0 ] )]\n" ∷
    "choose 1..3\n" ∷
    "choice 1: proc 1 (P3) line 1 [_ = 65536 >= 0]\n" ∷
    "choice 2: proc 2 (P3) line 1 [_ = full ( q1 [ 0 ] )]\n" ∷
    "choose 1..2\n" ∷
    "end: invalid, steps 9\n" ∷
    "at: proc 0 (P3) line 1\n" ∷
    "at: proc 1 (P3) line 1\n" ∷
    "at: proc 2 (P3) line 1\n" ∷
    [])) (codes "1\n3\n2\n1\n2\n1\n1\n") 1 14)
unfolding computes model-random-21
row-random-21 = sees (options false false false 9) model-random-21 (codes "1\n3\n2\n1\n2\n1\n1\n") _ refl

-- -g -l
-- mtype = { m1 } chan q2 [ 2 ] = [ 0 ] of { bit , byte } chan q3 [ 2 ] = [ 1 ] of { byte , byte } byte g4 [ 3 ] , g5 = 1 ; hidden
--     short g6 [ 2 + 1 ] = ( 0 -> g4 [ 2 ] : 1 ) bit g7 [ 1 ] ; active [ 1 ] proctype
-- P8 ( ) { g5 = 4
-- ; ; g6 [ g5 % 3 ] ++ } ; active
--
-- proctype P11 ( int p9 , byte p10 ) { int v12 [ 3 ] = 2 , v13 [ 2 + 1 ] = 2 ; g5 = v13 [ 1 ] + ( g4 [ 1 ] ) & 2 }
tokens-random-22 : List Word
tokens-random-22 =
    on 1 kind.Mtype "mtype" ∷ on 1 kind.Assign "=" ∷ on 1 kind.OpenBrace "{" ∷ on 1 kind.Name "m1" ∷ on 1 kind.CloseBrace "}" ∷
    on 1 kind.Chan "chan" ∷ on 1 kind.Name "q2" ∷ on 1 kind.OpenBracket "[" ∷ on 1 kind.Number "2" ∷ on 1 kind.CloseBracket "]" ∷
    on 1 kind.Assign "=" ∷ on 1 kind.OpenBracket "[" ∷ on 1 kind.Number "0" ∷ on 1 kind.CloseBracket "]" ∷ on 1 kind.Of "of" ∷
    on 1 kind.OpenBrace "{" ∷ on 1 kind.Bit "bit" ∷ on 1 kind.Comma "," ∷ on 1 kind.Byte "byte" ∷ on 1 kind.CloseBrace "}" ∷
    on 1 kind.Chan "chan" ∷ on 1 kind.Name "q3" ∷ on 1 kind.OpenBracket "[" ∷ on 1 kind.Number "2" ∷ on 1 kind.CloseBracket "]" ∷
    on 1 kind.Assign "=" ∷ on 1 kind.OpenBracket "[" ∷ on 1 kind.Number "1" ∷ on 1 kind.CloseBracket "]" ∷ on 1 kind.Of "of" ∷
    on 1 kind.OpenBrace "{" ∷ on 1 kind.Byte "byte" ∷ on 1 kind.Comma "," ∷ on 1 kind.Byte "byte" ∷ on 1 kind.CloseBrace "}" ∷
    on 1 kind.Byte "byte" ∷ on 1 kind.Name "g4" ∷ on 1 kind.OpenBracket "[" ∷ on 1 kind.Number "3" ∷ on 1 kind.CloseBracket "]" ∷
    on 1 kind.Comma "," ∷ on 1 kind.Name "g5" ∷ on 1 kind.Assign "=" ∷ on 1 kind.Number "1" ∷ on 1 kind.Semicolon ";" ∷
    on 1 kind.Hidden "hidden" ∷ on 1 kind.Short "short" ∷ on 1 kind.Name "g6" ∷ on 1 kind.OpenBracket "[" ∷ on 1 kind.Number "2" ∷
    on 1 kind.Plus "+" ∷ on 1 kind.Number "1" ∷ on 1 kind.CloseBracket "]" ∷ on 1 kind.Assign "=" ∷ on 1 kind.OpenParen "(" ∷
    on 1 kind.Number "0" ∷ on 1 kind.Arrow "->" ∷ on 1 kind.Name "g4" ∷ on 1 kind.OpenBracket "[" ∷ on 1 kind.Number "2" ∷
    on 1 kind.CloseBracket "]" ∷ on 1 kind.Colon ":" ∷ on 1 kind.Number "1" ∷ on 1 kind.CloseParen ")" ∷ on 1 kind.Bit "bit" ∷
    on 1 kind.Name "g7" ∷ on 1 kind.OpenBracket "[" ∷ on 1 kind.Number "1" ∷ on 1 kind.CloseBracket "]" ∷ on 1 kind.Semicolon ";" ∷
    on 1 kind.Active "active" ∷ on 1 kind.OpenBracket "[" ∷ on 1 kind.Number "1" ∷ on 1 kind.CloseBracket "]" ∷
    on 1 kind.Proctype "proctype" ∷ on 2 kind.Name "P8" ∷ on 2 kind.OpenParen "(" ∷ on 2 kind.CloseParen ")" ∷
    on 2 kind.OpenBrace "{" ∷ on 2 kind.Name "g5" ∷ on 2 kind.Assign "=" ∷ on 2 kind.Number "4" ∷ on 3 kind.Semicolon ";" ∷
    on 3 kind.Semicolon ";" ∷ on 3 kind.Name "g6" ∷ on 3 kind.OpenBracket "[" ∷ on 3 kind.Name "g5" ∷ on 3 kind.Percent "%" ∷
    on 3 kind.Number "3" ∷ on 3 kind.CloseBracket "]" ∷ on 3 kind.Increment "++" ∷ on 3 kind.CloseBrace "}" ∷
    on 3 kind.Semicolon ";" ∷ on 3 kind.Active "active" ∷ on 5 kind.Proctype "proctype" ∷ on 5 kind.Name "P11" ∷
    on 5 kind.OpenParen "(" ∷ on 5 kind.Int "int" ∷ on 5 kind.Name "p9" ∷ on 5 kind.Comma "," ∷ on 5 kind.Byte "byte" ∷
    on 5 kind.Name "p10" ∷ on 5 kind.CloseParen ")" ∷ on 5 kind.OpenBrace "{" ∷ on 5 kind.Int "int" ∷ on 5 kind.Name "v12" ∷
    on 5 kind.OpenBracket "[" ∷ on 5 kind.Number "3" ∷ on 5 kind.CloseBracket "]" ∷ on 5 kind.Assign "=" ∷ on 5 kind.Number "2" ∷
    on 5 kind.Comma "," ∷ on 5 kind.Name "v13" ∷ on 5 kind.OpenBracket "[" ∷ on 5 kind.Number "2" ∷ on 5 kind.Plus "+" ∷
    on 5 kind.Number "1" ∷ on 5 kind.CloseBracket "]" ∷ on 5 kind.Assign "=" ∷ on 5 kind.Number "2" ∷ on 5 kind.Semicolon ";" ∷
    on 5 kind.Name "g5" ∷ on 5 kind.Assign "=" ∷ on 5 kind.Name "v13" ∷ on 5 kind.OpenBracket "[" ∷ on 5 kind.Number "1" ∷
    on 5 kind.CloseBracket "]" ∷ on 5 kind.Plus "+" ∷ on 5 kind.OpenParen "(" ∷ on 5 kind.Name "g4" ∷ on 5 kind.OpenBracket "[" ∷
    on 5 kind.Number "1" ∷ on 5 kind.CloseBracket "]" ∷ on 5 kind.CloseParen ")" ∷ on 5 kind.Ampersand "&" ∷ on 5 kind.Number "2" ∷
    on 5 kind.CloseBrace "}" ∷ []

model-random-22 : Program
unfolding tokens-random-22
model-random-22 =
    let at : ℕ → Word = token_at tokens-random-22 in
    let part : ℕ → ℕ → List Word = tokens_between tokens-random-22 in
    record {
      globals = (slot (at 6) chan true 0 2 1 (initial.Channel 0 (bit ∷ byte ∷ [])) ∷ slot (at 21) chan true 2 2 1 (initial.Channel 1
          (byte ∷ byte ∷ [])) ∷ slot (at 36) byte true 4 3 1 initial.Zero ∷ slot (at 41) byte false 7 1 1 (initial.Value (number 1)) ∷
          slot (at 47) short true 8 3 1 (initial.Value (expr.Choice (number 0) (read (in_global 2 byte (turn 0 3 1 (Some (number 2)) ∷
          []))) (number 1))) ∷ slot (at 65) bit true 11 1 1 initial.Zero ∷ []);
      constants = ((at 3) ∷ []);
      typedefs = [];
      proctypes = (
          process (at 75) 7 1 0 [] (
          plain (part 79 82) (assign (global 3 byte) (number 4)) ∷
          plain (part 84 91) (action.Increment (in_global 4 short (turn 0 3 1 (Some (expr.Binary op.Remainder (read (global 3 byte))
          (number 3))) ∷ []))) ∷ []) (at 91) ∷
          process (at 95) 8 1 2 (slot (at 98) int false 0 1 1 initial.Zero ∷ slot (at 101) byte false 1 1 1 initial.Zero ∷ slot (at 105)
          int true 2 3 1 (initial.Value (number 2)) ∷ slot (at 112) int true 5 3 1 (initial.Value (number 2)) ∷ []) (
          plain (part 121 136) (assign (global 3 byte) (expr.Binary op.BitAnd (expr.Binary op.Plus (read (in_local 3 int (turn 0 3 1
          (Some (number 1)) ∷ []))) (read (in_global 2 byte (turn 0 3 1 (Some (number 1)) ∷ [])))) (number 2))) ∷ []) (at 136) ∷ []);
    }

row-random-22 : seen (options false true true 9) model-random-22 (codes "1\n2\n1\n")
    ≡ Some (whole (text (
    "choice 1: proc 0 (P8) line 2 [g5 = 4]\n" ∷
    "choice 2: proc 1 (P11) line 5 [g5 = v13 [ 1 ] + ( g4 [ 1 ] ) & 2]\n" ∷
    "choose 1..2\n" ∷
    "global g5 = 4\n" ∷
    "choice 1: proc 0 (P8) line 3 [g6 [ g5 % 3 ] ++]\n" ∷
    "choice 2: proc 1 (P11) line 5 [g5 = v13 [ 1 ] + ( g4 [ 1 ] ) & 2]\n" ∷
    "choose 1..2\n" ∷
    "global g5 = 2\n" ∷
    "choice 1: proc 0 (P8) line 3 [g6 [ g5 % 3 ] ++]\n" ∷
    "choice 2: proc 1 (P11) line 5 [-end-]\n" ∷
    "choose 1..2\n" ∷
    "global g6[2] = 2\n" ∷
    "end: valid, steps 5\n" ∷
    [])) (codes "1\n2\n1\n") 0 6)
unfolding computes model-random-22
row-random-22 = sees (options false true true 9) model-random-22 (codes "1\n2\n1\n") _ refl

-- -l
-- chan q1 =[1] of {bool,short } ; chan q2 =[ 1]of{byte ,short} ; show chan g3 = [
-- 1]of { byte ,short}active proctype P4(){int v8[4] = 2 % 1 ;d_step{/* c */v8 [ 3]= 4294967294 ->}} ;active proctype P7
--   ( chan p5,byte p6) { unsigned v9 : 32 ;if :: p6 > 3; -> v9 != 3;v9 = 32767 :: g3 ? p6 ( eval(3 )) :: p6 <= 2 :: q1 ! 1,4 fi v9 --
--     ;printf("")}
tokens-random-23 : List Word
tokens-random-23 =
    on 1 kind.Chan "chan" ∷ on 1 kind.Name "q1" ∷ on 1 kind.Assign "=" ∷ on 1 kind.OpenBracket "[" ∷ on 1 kind.Number "1" ∷
    on 1 kind.CloseBracket "]" ∷ on 1 kind.Of "of" ∷ on 1 kind.OpenBrace "{" ∷ on 1 kind.Bool "bool" ∷ on 1 kind.Comma "," ∷
    on 1 kind.Short "short" ∷ on 1 kind.CloseBrace "}" ∷ on 1 kind.Semicolon ";" ∷ on 1 kind.Chan "chan" ∷ on 1 kind.Name "q2" ∷
    on 1 kind.Assign "=" ∷ on 1 kind.OpenBracket "[" ∷ on 1 kind.Number "1" ∷ on 1 kind.CloseBracket "]" ∷ on 1 kind.Of "of" ∷
    on 1 kind.OpenBrace "{" ∷ on 1 kind.Byte "byte" ∷ on 1 kind.Comma "," ∷ on 1 kind.Short "short" ∷ on 1 kind.CloseBrace "}" ∷
    on 1 kind.Semicolon ";" ∷ on 1 kind.Show "show" ∷ on 1 kind.Chan "chan" ∷ on 1 kind.Name "g3" ∷ on 1 kind.Assign "=" ∷
    on 1 kind.OpenBracket "[" ∷ on 2 kind.Number "1" ∷ on 2 kind.CloseBracket "]" ∷ on 2 kind.Of "of" ∷ on 2 kind.OpenBrace "{" ∷
    on 2 kind.Byte "byte" ∷ on 2 kind.Comma "," ∷ on 2 kind.Short "short" ∷ on 2 kind.CloseBrace "}" ∷ on 2 kind.Active "active" ∷
    on 2 kind.Proctype "proctype" ∷ on 2 kind.Name "P4" ∷ on 2 kind.OpenParen "(" ∷ on 2 kind.CloseParen ")" ∷
    on 2 kind.OpenBrace "{" ∷ on 2 kind.Int "int" ∷ on 2 kind.Name "v8" ∷ on 2 kind.OpenBracket "[" ∷ on 2 kind.Number "4" ∷
    on 2 kind.CloseBracket "]" ∷ on 2 kind.Assign "=" ∷ on 2 kind.Number "2" ∷ on 2 kind.Percent "%" ∷ on 2 kind.Number "1" ∷
    on 2 kind.Semicolon ";" ∷ on 2 kind.DStep "d_step" ∷ on 2 kind.OpenBrace "{" ∷ on 2 kind.Name "v8" ∷ on 2 kind.OpenBracket "[" ∷
    on 2 kind.Number "3" ∷ on 2 kind.CloseBracket "]" ∷ on 2 kind.Assign "=" ∷ on 2 kind.Number "4294967294" ∷ on 2 kind.Arrow "->" ∷
    on 2 kind.CloseBrace "}" ∷ on 2 kind.CloseBrace "}" ∷ on 2 kind.Semicolon ";" ∷ on 2 kind.Active "active" ∷
    on 2 kind.Proctype "proctype" ∷ on 2 kind.Name "P7" ∷ on 3 kind.OpenParen "(" ∷ on 3 kind.Chan "chan" ∷ on 3 kind.Name "p5" ∷
    on 3 kind.Comma "," ∷ on 3 kind.Byte "byte" ∷ on 3 kind.Name "p6" ∷ on 3 kind.CloseParen ")" ∷ on 3 kind.OpenBrace "{" ∷
    on 3 kind.Unsigned "unsigned" ∷ on 3 kind.Name "v9" ∷ on 3 kind.Colon ":" ∷ on 3 kind.Number "32" ∷ on 3 kind.Semicolon ";" ∷
    on 3 kind.If "if" ∷ on 3 kind.DoubleColon "::" ∷ on 3 kind.Name "p6" ∷ on 3 kind.Greater ">" ∷ on 3 kind.Number "3" ∷
    on 3 kind.Semicolon ";" ∷ on 3 kind.Arrow "->" ∷ on 3 kind.Name "v9" ∷ on 3 kind.Unequal "!=" ∷ on 3 kind.Number "3" ∷
    on 3 kind.Semicolon ";" ∷ on 3 kind.Name "v9" ∷ on 3 kind.Assign "=" ∷ on 3 kind.Number "32767" ∷ on 3 kind.DoubleColon "::" ∷
    on 3 kind.Name "g3" ∷ on 3 kind.Query "?" ∷ on 3 kind.Name "p6" ∷ on 3 kind.OpenParen "(" ∷ on 3 kind.Eval "eval" ∷
    on 3 kind.OpenParen "(" ∷ on 3 kind.Number "3" ∷ on 3 kind.CloseParen ")" ∷ on 3 kind.CloseParen ")" ∷
    on 3 kind.DoubleColon "::" ∷ on 3 kind.Name "p6" ∷ on 3 kind.AtMost "<=" ∷ on 3 kind.Number "2" ∷ on 3 kind.DoubleColon "::" ∷
    on 3 kind.Name "q1" ∷ on 3 kind.Bang "!" ∷ on 3 kind.Number "1" ∷ on 3 kind.Comma "," ∷ on 3 kind.Number "4" ∷
    on 3 kind.Fi "fi" ∷ on 3 kind.Name "v9" ∷ on 3 kind.Decrement "--" ∷ on 3 kind.Semicolon ";" ∷ on 3 kind.Printf "printf" ∷
    on 3 kind.OpenParen "(" ∷ on 3 kind.Quoted "\"\"" ∷ on 3 kind.CloseParen ")" ∷ on 3 kind.CloseBrace "}" ∷ []

model-random-23 : Program
unfolding tokens-random-23
model-random-23 =
    let at : ℕ → Word = token_at tokens-random-23 in
    let part : ℕ → ℕ → List Word = tokens_between tokens-random-23 in
    record {
      globals = (slot (at 1) chan false 0 1 1 (initial.Channel 1 (bool ∷ short ∷ [])) ∷ slot (at 14) chan false 1 1 1 (initial.Channel
          1 (byte ∷ short ∷ [])) ∷ slot (at 28) chan false 2 1 1 (initial.Channel 1 (byte ∷ short ∷ [])) ∷ []);
      constants = [];
      typedefs = [];
      proctypes = (
          process (at 41) 4 1 0 (slot (at 46) int true 0 4 1 (initial.Value (expr.Binary op.Remainder (number 2) (number 1))) ∷ []) (
          d_step (part 55 65) (
          plain (part 57 63) (assign (in_local 0 int (turn 0 4 1 (Some (number 3)) ∷ [])) (expr.Number (negsuc 1))) ∷ []) ∷ []) (at 65) ∷
          process (at 69) 5 1 2 (slot (at 72) chan false 0 1 1 initial.Zero ∷ slot (at 75) byte false 1 1 1 initial.Zero ∷ slot (at 79)
          (form.Unsigned 32) false 2 1 1 initial.Zero ∷ []) (
          if_fi (part 83 118) (
          (plain (part 85 88) (holds (expr.Binary op.Above (read (local 1 byte)) (number 3))) ∷
          plain (part 90 93) (holds (expr.Binary op.Unequal (read (local 2 (form.Unsigned 32))) (number 3))) ∷
          plain (part 94 97) (assign (local 2 (form.Unsigned 32)) (number 32767)) ∷ []) ∷
          (plain (part 98 107) (action.Receive (global 2 chan) First Remove (want.Into (local 1 byte) ∷ want.Equal (number 3) ∷ [])) ∷ []) ∷
          (plain (part 108 111) (holds (expr.Binary op.AtMost (read (local 1 byte)) (number 2))) ∷ []) ∷
          (plain (part 112 117) (action.Send (global 0 chan) Fifo ((number 1) ∷ (number 4) ∷ [])) ∷ []) ∷ []) ∷
          plain (part 118 120) (action.Decrement (local 2 (form.Unsigned 32))) ∷
          plain (part 121 125) (action.Printf (at 123) []) ∷ []) (at 125) ∷ []);
    }

row-random-23 : seen (options false false true 9) model-random-23 (codes "3\n2\n1\n")
    ≡ Some (whole (text (
    "choice 1: proc 0 (P4) line 2 [d_step]\n" ∷
    "choice 2: proc 1 (P7) line 3 [p6 <= 2]\n" ∷
    "choice 3: proc 1 (P7) line 3 [q1 ! 1 , 4]\n" ∷
    "choose 1..3\n" ∷
    "choice 1: proc 0 (P4) line 2 [d_step]\n" ∷
    "choice 2: proc 1 (P7) line 3 [v9 --]\n" ∷
    "choose 1..2\n" ∷
    "local 1 (P7) v9 = -1\n" ∷
    "choice 1: proc 0 (P4) line 2 [d_step]\n" ∷
    "choice 2: proc 1 (P7) line 3 [printf ( \"\" )]\n" ∷
    "choose 1..2\n" ∷
    "local 0 (P4) v8[3] = -2\n" ∷
    "end: valid, steps 6\n" ∷
    [])) (codes "3\n2\n1\n") 0 6)
unfolding computes model-random-23
row-random-23 = sees (options false false true 9) model-random-23 (codes "3\n2\n1\n") _ refl
