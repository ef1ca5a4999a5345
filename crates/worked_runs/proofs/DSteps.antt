-- Runs: d_step. `tools/model-data` made the data of their models.
use Rattle.std.proofs.Common.{◌≡◌, ℕ, List, [], ◌∷◌, true, false, refl, Some}
use Rattle.std.specs.Prelude.{codes}
use Rattle.pml_token.specs.Word.{Word}
use Rattle.pml_tree.specs.declared.tree.Search.TheVariants.{First}
use Rattle.pml_tree.specs.declared.tree.Removal.TheVariants.{Remove}
use Rattle.pml_tree.specs.declared.tree.SendOrder.TheVariants.{Fifo}
use Rattle.pml_program.specs.declared.program.Program.{Program}
use Rattle.pml_program.specs.declared.program.Basic.{Break}
use Rattle.worked_runs.specs.Seen.{seen}
use Rattle.worked_runs.proofs.Models.{on, token_at, tokens_between, byte, chan, slot, local, global, number, read, run, assign, holds, stmt, plain, atomic, d_step, if_fi, do_od, process, options, text, whole}
use Rattle.worked_runs.proofs.Same.{computes, sees}
use Rattle.pml_token.specs.declared.token.Kind.TheVariants as kind
use Rattle.pml_tree.specs.declared.tree.Infix.TheVariants as op
use Rattle.pml_program.specs.declared.expr.Expr.TheVariants as expr
use Rattle.pml_program.specs.declared.expr.Want.TheVariants as want
use Rattle.pml_program.specs.declared.program.Initial.TheVariants as initial
use Rattle.pml_program.specs.declared.program.Action.TheVariants as action

-- -p
-- byte x; init { if :: d_step { printf("hi\n"); x = 1 / x } :: skip fi }
tokens-fault-in-d-step : List Word
tokens-fault-in-d-step =
    on 1 kind.Byte "byte" ∷ on 1 kind.Name "x" ∷ on 1 kind.Semicolon ";" ∷ on 1 kind.Init "init" ∷ on 1 kind.OpenBrace "{" ∷
    on 1 kind.If "if" ∷ on 1 kind.DoubleColon "::" ∷ on 1 kind.DStep "d_step" ∷ on 1 kind.OpenBrace "{" ∷ on 1 kind.Printf "printf" ∷
    on 1 kind.OpenParen "(" ∷ on 1 kind.Quoted "\"hi\\n\"" ∷ on 1 kind.CloseParen ")" ∷ on 1 kind.Semicolon ";" ∷
    on 1 kind.Name "x" ∷ on 1 kind.Assign "=" ∷ on 1 kind.Number "1" ∷ on 1 kind.Slash "/" ∷ on 1 kind.Name "x" ∷
    on 1 kind.CloseBrace "}" ∷ on 1 kind.DoubleColon "::" ∷ on 1 kind.Skip "skip" ∷ on 1 kind.Fi "fi" ∷ on 1 kind.CloseBrace "}" ∷ []

model-fault-in-d-step : Program
unfolding tokens-fault-in-d-step
model-fault-in-d-step =
    let at : ℕ → Word = token_at tokens-fault-in-d-step in
    let part : ℕ → ℕ → List Word = tokens_between tokens-fault-in-d-step in
    record {
      globals = (slot (at 1) byte false 0 1 1 initial.Zero ∷ []);
      constants = [];
      typedefs = [];
      proctypes = (
          process (at 3) 2 1 0 [] (
          if_fi (part 5 23) (
          (d_step (part 7 20) (
          plain (part 9 13) (action.Printf (at 11) []) ∷
          plain (part 14 19) (assign (global 0 byte) (expr.Binary op.Divide (number 1) (read (global 0 byte)))) ∷ []) ∷ []) ∷
          (plain (part 21 22) (holds (number 1)) ∷ []) ∷ []) ∷ []) (at 23) ∷ []);
    }

row-fault-in-d-step : seen (options true false false 1000) model-fault-in-d-step (codes "1\n")
    ≡ Some (whole (text (
    "choice 1: proc 0 (:init:) line 1 [d_step]\n" ∷
    "choice 2: proc 0 (:init:) line 1 [skip]\n" ∷
    "choose 1..2\n" ∷
    "fault F2 (zero divisor): step 1: proc 0 (:init:) line 1 [d_step]\n" ∷
    [])) (codes "1\n") 2 2)
unfolding computes model-fault-in-d-step
row-fault-in-d-step = sees (options true false false 1000) model-fault-in-d-step (codes "1\n") _ refl

-- -p
-- init { d_step { if :: else -> skip fi } }
tokens-else-in-d-step : List Word
tokens-else-in-d-step =
    on 1 kind.Init "init" ∷ on 1 kind.OpenBrace "{" ∷ on 1 kind.DStep "d_step" ∷ on 1 kind.OpenBrace "{" ∷ on 1 kind.If "if" ∷
    on 1 kind.DoubleColon "::" ∷ on 1 kind.Else "else" ∷ on 1 kind.Arrow "->" ∷ on 1 kind.Skip "skip" ∷ on 1 kind.Fi "fi" ∷
    on 1 kind.CloseBrace "}" ∷ on 1 kind.CloseBrace "}" ∷ []

model-else-in-d-step : Program
unfolding tokens-else-in-d-step
model-else-in-d-step =
    let at : ℕ → Word = token_at tokens-else-in-d-step in
    let part : ℕ → ℕ → List Word = tokens_between tokens-else-in-d-step in
    record {
      globals = [];
      constants = [];
      typedefs = [];
      proctypes = (
          process (at 0) 1 1 0 [] (
          d_step (part 2 11) (
          if_fi (part 4 10) (
          (plain (part 6 7) action.Else ∷
          plain (part 8 9) (holds (number 1)) ∷ []) ∷ []) ∷ []) ∷ []) (at 11) ∷ []);
    }

row-else-in-d-step : seen (options true false false 1000) model-else-in-d-step (codes "")
    ≡ Some (whole (text (
    "step 1: proc 0 (:init:) line 1 [d_step]\n" ∷
    "step 2: proc 0 (:init:) line 1 [-end-]\n" ∷
    "end: valid, steps 2\n" ∷
    [])) (codes "") 0 0)
unfolding computes model-else-in-d-step
row-else-in-d-step = sees (options true false false 1000) model-else-in-d-step (codes "") _ refl

-- no options
-- byte x; init { d_step { x = 1; x == 2 } }
tokens-d-step-blocks : List Word
tokens-d-step-blocks =
    on 1 kind.Byte "byte" ∷ on 1 kind.Name "x" ∷ on 1 kind.Semicolon ";" ∷ on 1 kind.Init "init" ∷ on 1 kind.OpenBrace "{" ∷
    on 1 kind.DStep "d_step" ∷ on 1 kind.OpenBrace "{" ∷ on 1 kind.Name "x" ∷ on 1 kind.Assign "=" ∷ on 1 kind.Number "1" ∷
    on 1 kind.Semicolon ";" ∷ on 1 kind.Name "x" ∷ on 1 kind.Equal "==" ∷ on 1 kind.Number "2" ∷ on 1 kind.CloseBrace "}" ∷
    on 1 kind.CloseBrace "}" ∷ []

model-d-step-blocks : Program
unfolding tokens-d-step-blocks
model-d-step-blocks =
    let at : ℕ → Word = token_at tokens-d-step-blocks in
    let part : ℕ → ℕ → List Word = tokens_between tokens-d-step-blocks in
    record {
      globals = (slot (at 1) byte false 0 1 1 initial.Zero ∷ []);
      constants = [];
      typedefs = [];
      proctypes = (
          process (at 3) 2 1 0 [] (
          d_step (part 5 15) (
          plain (part 7 10) (assign (global 0 byte) (number 1)) ∷
          plain (part 11 14) (holds (expr.Binary op.Equal (read (global 0 byte)) (number 2))) ∷ []) ∷ []) (at 15) ∷ []);
    }

row-d-step-blocks : seen (options false false false 1000) model-d-step-blocks (codes "")
    ≡ Some (whole (text ("fault F7 (d_step blocks): step 1: proc 0 (:init:) line 1 [d_step]\n" ∷ [])) (codes "") 2 0)
unfolding computes model-d-step-blocks
row-d-step-blocks = sees (options false false false 1000) model-d-step-blocks (codes "") _ refl

-- -p -g -l
-- byte x; init { d_step { x = 2; printf("%d\n", x); if :: x == 1 -> x = 5 :: else -> x = 6 fi }; x = 7 }
tokens-d-step-prints : List Word
tokens-d-step-prints =
    on 1 kind.Byte "byte" ∷ on 1 kind.Name "x" ∷ on 1 kind.Semicolon ";" ∷ on 1 kind.Init "init" ∷ on 1 kind.OpenBrace "{" ∷
    on 1 kind.DStep "d_step" ∷ on 1 kind.OpenBrace "{" ∷ on 1 kind.Name "x" ∷ on 1 kind.Assign "=" ∷ on 1 kind.Number "2" ∷
    on 1 kind.Semicolon ";" ∷ on 1 kind.Printf "printf" ∷ on 1 kind.OpenParen "(" ∷ on 1 kind.Quoted "\"%d\\n\"" ∷
    on 1 kind.Comma "," ∷ on 1 kind.Name "x" ∷ on 1 kind.CloseParen ")" ∷ on 1 kind.Semicolon ";" ∷ on 1 kind.If "if" ∷
    on 1 kind.DoubleColon "::" ∷ on 1 kind.Name "x" ∷ on 1 kind.Equal "==" ∷ on 1 kind.Number "1" ∷ on 1 kind.Arrow "->" ∷
    on 1 kind.Name "x" ∷ on 1 kind.Assign "=" ∷ on 1 kind.Number "5" ∷ on 1 kind.DoubleColon "::" ∷ on 1 kind.Else "else" ∷
    on 1 kind.Arrow "->" ∷ on 1 kind.Name "x" ∷ on 1 kind.Assign "=" ∷ on 1 kind.Number "6" ∷ on 1 kind.Fi "fi" ∷
    on 1 kind.CloseBrace "}" ∷ on 1 kind.Semicolon ";" ∷ on 1 kind.Name "x" ∷ on 1 kind.Assign "=" ∷ on 1 kind.Number "7" ∷
    on 1 kind.CloseBrace "}" ∷ []

model-d-step-prints : Program
unfolding tokens-d-step-prints
model-d-step-prints =
    let at : ℕ → Word = token_at tokens-d-step-prints in
    let part : ℕ → ℕ → List Word = tokens_between tokens-d-step-prints in
    record {
      globals = (slot (at 1) byte false 0 1 1 initial.Zero ∷ []);
      constants = [];
      typedefs = [];
      proctypes = (
          process (at 3) 2 1 0 [] (
          d_step (part 5 35) (
          plain (part 7 10) (assign (global 0 byte) (number 2)) ∷
          plain (part 11 17) (action.Printf (at 13) ((read (global 0 byte)) ∷ [])) ∷
          if_fi (part 18 34) (
          (plain (part 20 23) (holds (expr.Binary op.Equal (read (global 0 byte)) (number 1))) ∷
          plain (part 24 27) (assign (global 0 byte) (number 5)) ∷ []) ∷
          (plain (part 28 29) action.Else ∷
          plain (part 30 33) (assign (global 0 byte) (number 6)) ∷ []) ∷ []) ∷ []) ∷
          plain (part 36 39) (assign (global 0 byte) (number 7)) ∷ []) (at 39) ∷ []);
    }

row-d-step-prints : seen (options true true true 200) model-d-step-prints (codes "")
    ≡ Some (whole (text (
    "step 1: proc 0 (:init:) line 1 [d_step]\n" ∷
    "2\n" ∷
    "global x = 6\n" ∷
    "step 2: proc 0 (:init:) line 1 [x = 7]\n" ∷
    "global x = 7\n" ∷
    "step 3: proc 0 (:init:) line 1 [-end-]\n" ∷
    "end: valid, steps 3\n" ∷
    [])) (codes "") 0 0)
unfolding computes model-d-step-prints
row-d-step-prints = sees (options true true true 200) model-d-step-prints (codes "") _ refl

-- -p -g -l
-- chan q = [0] of { byte }; byte x; active proctype A() { if :: d_step { q!1; x = 1 } :: x = 9 fi } active proctype B() { q?_ }
tokens-d-step-rendezvous : List Word
tokens-d-step-rendezvous =
    on 1 kind.Chan "chan" ∷ on 1 kind.Name "q" ∷ on 1 kind.Assign "=" ∷ on 1 kind.OpenBracket "[" ∷ on 1 kind.Number "0" ∷
    on 1 kind.CloseBracket "]" ∷ on 1 kind.Of "of" ∷ on 1 kind.OpenBrace "{" ∷ on 1 kind.Byte "byte" ∷ on 1 kind.CloseBrace "}" ∷
    on 1 kind.Semicolon ";" ∷ on 1 kind.Byte "byte" ∷ on 1 kind.Name "x" ∷ on 1 kind.Semicolon ";" ∷ on 1 kind.Active "active" ∷
    on 1 kind.Proctype "proctype" ∷ on 1 kind.Name "A" ∷ on 1 kind.OpenParen "(" ∷ on 1 kind.CloseParen ")" ∷
    on 1 kind.OpenBrace "{" ∷ on 1 kind.If "if" ∷ on 1 kind.DoubleColon "::" ∷ on 1 kind.DStep "d_step" ∷ on 1 kind.OpenBrace "{" ∷
    on 1 kind.Name "q" ∷ on 1 kind.Bang "!" ∷ on 1 kind.Number "1" ∷ on 1 kind.Semicolon ";" ∷ on 1 kind.Name "x" ∷
    on 1 kind.Assign "=" ∷ on 1 kind.Number "1" ∷ on 1 kind.CloseBrace "}" ∷ on 1 kind.DoubleColon "::" ∷ on 1 kind.Name "x" ∷
    on 1 kind.Assign "=" ∷ on 1 kind.Number "9" ∷ on 1 kind.Fi "fi" ∷ on 1 kind.CloseBrace "}" ∷ on 1 kind.Active "active" ∷
    on 1 kind.Proctype "proctype" ∷ on 1 kind.Name "B" ∷ on 1 kind.OpenParen "(" ∷ on 1 kind.CloseParen ")" ∷
    on 1 kind.OpenBrace "{" ∷ on 1 kind.Name "q" ∷ on 1 kind.Query "?" ∷ on 1 kind.Name "_" ∷ on 1 kind.CloseBrace "}" ∷ []

model-d-step-rendezvous : Program
unfolding tokens-d-step-rendezvous
model-d-step-rendezvous =
    let at : ℕ → Word = token_at tokens-d-step-rendezvous in
    let part : ℕ → ℕ → List Word = tokens_between tokens-d-step-rendezvous in
    record {
      globals = (slot (at 1) chan false 0 1 1 (initial.Channel 0 (byte ∷ [])) ∷ slot (at 12) byte false 1 1 1 initial.Zero ∷ []);
      constants = [];
      typedefs = [];
      proctypes = (
          process (at 16) 3 1 0 [] (
          if_fi (part 20 37) (
          (d_step (part 22 32) (
          plain (part 24 27) (action.Send (global 0 chan) Fifo ((number 1) ∷ [])) ∷
          plain (part 28 31) (assign (global 1 byte) (number 1)) ∷ []) ∷ []) ∷
          (plain (part 33 36) (assign (global 1 byte) (number 9)) ∷ []) ∷ []) ∷ []) (at 37) ∷
          process (at 40) 4 1 0 [] (
          plain (part 44 47) (action.Receive (global 0 chan) First Remove (want.Anything ∷ [])) ∷ []) (at 47) ∷ []);
    }

row-d-step-rendezvous : seen (options true true true 200) model-d-step-rendezvous (codes "")
    ≡ Some (whole (text (
    "step 1: proc 0 (A) line 1 [x = 9]\n" ∷
    "global x = 9\n" ∷
    "end: invalid, steps 1\n" ∷
    "at: proc 1 (B) line 1\n" ∷
    [])) (codes "") 1 0)
unfolding computes model-d-step-rendezvous
row-d-step-rendezvous = sees (options true true true 200) model-d-step-rendezvous (codes "") _ refl

-- -p -g -l
-- chan q = [0] of { byte }; byte x; active proctype A() { d_step { x = 1; q!1 } } active proctype B() { q?_ }
tokens-d-step-inner-rendezvous : List Word
tokens-d-step-inner-rendezvous =
    on 1 kind.Chan "chan" ∷ on 1 kind.Name "q" ∷ on 1 kind.Assign "=" ∷ on 1 kind.OpenBracket "[" ∷ on 1 kind.Number "0" ∷
    on 1 kind.CloseBracket "]" ∷ on 1 kind.Of "of" ∷ on 1 kind.OpenBrace "{" ∷ on 1 kind.Byte "byte" ∷ on 1 kind.CloseBrace "}" ∷
    on 1 kind.Semicolon ";" ∷ on 1 kind.Byte "byte" ∷ on 1 kind.Name "x" ∷ on 1 kind.Semicolon ";" ∷ on 1 kind.Active "active" ∷
    on 1 kind.Proctype "proctype" ∷ on 1 kind.Name "A" ∷ on 1 kind.OpenParen "(" ∷ on 1 kind.CloseParen ")" ∷
    on 1 kind.OpenBrace "{" ∷ on 1 kind.DStep "d_step" ∷ on 1 kind.OpenBrace "{" ∷ on 1 kind.Name "x" ∷ on 1 kind.Assign "=" ∷
    on 1 kind.Number "1" ∷ on 1 kind.Semicolon ";" ∷ on 1 kind.Name "q" ∷ on 1 kind.Bang "!" ∷ on 1 kind.Number "1" ∷
    on 1 kind.CloseBrace "}" ∷ on 1 kind.CloseBrace "}" ∷ on 1 kind.Active "active" ∷ on 1 kind.Proctype "proctype" ∷
    on 1 kind.Name "B" ∷ on 1 kind.OpenParen "(" ∷ on 1 kind.CloseParen ")" ∷ on 1 kind.OpenBrace "{" ∷ on 1 kind.Name "q" ∷
    on 1 kind.Query "?" ∷ on 1 kind.Name "_" ∷ on 1 kind.CloseBrace "}" ∷ []

model-d-step-inner-rendezvous : Program
unfolding tokens-d-step-inner-rendezvous
model-d-step-inner-rendezvous =
    let at : ℕ → Word = token_at tokens-d-step-inner-rendezvous in
    let part : ℕ → ℕ → List Word = tokens_between tokens-d-step-inner-rendezvous in
    record {
      globals = (slot (at 1) chan false 0 1 1 (initial.Channel 0 (byte ∷ [])) ∷ slot (at 12) byte false 1 1 1 initial.Zero ∷ []);
      constants = [];
      typedefs = [];
      proctypes = (
          process (at 16) 3 1 0 [] (
          d_step (part 20 30) (
          plain (part 22 25) (assign (global 1 byte) (number 1)) ∷
          plain (part 26 29) (action.Send (global 0 chan) Fifo ((number 1) ∷ [])) ∷ []) ∷ []) (at 30) ∷
          process (at 33) 4 1 0 [] (
          plain (part 37 40) (action.Receive (global 0 chan) First Remove (want.Anything ∷ [])) ∷ []) (at 40) ∷ []);
    }

row-d-step-inner-rendezvous : seen (options true true true 200) model-d-step-inner-rendezvous (codes "")
    ≡ Some (whole (text ("fault F7 (d_step blocks): step 1: proc 0 (A) line 1 [d_step]\n" ∷ [])) (codes "") 2 0)
unfolding computes model-d-step-inner-rendezvous
row-d-step-inner-rendezvous = sees (options true true true 200) model-d-step-inner-rendezvous (codes "") _ refl

-- -p -g -l
-- byte x; init { d_step { timeout; x = timeout } }
tokens-d-step-timeout : List Word
tokens-d-step-timeout =
    on 1 kind.Byte "byte" ∷ on 1 kind.Name "x" ∷ on 1 kind.Semicolon ";" ∷ on 1 kind.Init "init" ∷ on 1 kind.OpenBrace "{" ∷
    on 1 kind.DStep "d_step" ∷ on 1 kind.OpenBrace "{" ∷ on 1 kind.Timeout "timeout" ∷ on 1 kind.Semicolon ";" ∷ on 1 kind.Name "x" ∷
    on 1 kind.Assign "=" ∷ on 1 kind.Timeout "timeout" ∷ on 1 kind.CloseBrace "}" ∷ on 1 kind.CloseBrace "}" ∷ []

model-d-step-timeout : Program
unfolding tokens-d-step-timeout
model-d-step-timeout =
    let at : ℕ → Word = token_at tokens-d-step-timeout in
    let part : ℕ → ℕ → List Word = tokens_between tokens-d-step-timeout in
    record {
      globals = (slot (at 1) byte false 0 1 1 initial.Zero ∷ []);
      constants = [];
      typedefs = [];
      proctypes = (
          process (at 3) 2 1 0 [] (
          d_step (part 5 13) (
          plain (part 7 8) (holds expr.Timeout) ∷
          plain (part 9 12) (assign (global 0 byte) expr.Timeout) ∷ []) ∷ []) (at 13) ∷ []);
    }

row-d-step-timeout : seen (options true true true 200) model-d-step-timeout (codes "")
    ≡ Some (whole (text (
    "step 1: proc 0 (:init:) line 1 [d_step]\n" ∷
    "step 2: proc 0 (:init:) line 1 [-end-]\n" ∷
    "end: valid, steps 2\n" ∷
    [])) (codes "") 0 0)
unfolding computes model-d-step-timeout
row-d-step-timeout = sees (options true true true 200) model-d-step-timeout (codes "") _ refl

-- -p -g -l
-- byte x; init { d_step { x = 3; x = 1 / (x - 3) } }
tokens-d-step-zero-divisor : List Word
tokens-d-step-zero-divisor =
    on 1 kind.Byte "byte" ∷ on 1 kind.Name "x" ∷ on 1 kind.Semicolon ";" ∷ on 1 kind.Init "init" ∷ on 1 kind.OpenBrace "{" ∷
    on 1 kind.DStep "d_step" ∷ on 1 kind.OpenBrace "{" ∷ on 1 kind.Name "x" ∷ on 1 kind.Assign "=" ∷ on 1 kind.Number "3" ∷
    on 1 kind.Semicolon ";" ∷ on 1 kind.Name "x" ∷ on 1 kind.Assign "=" ∷ on 1 kind.Number "1" ∷ on 1 kind.Slash "/" ∷
    on 1 kind.OpenParen "(" ∷ on 1 kind.Name "x" ∷ on 1 kind.Minus "-" ∷ on 1 kind.Number "3" ∷ on 1 kind.CloseParen ")" ∷
    on 1 kind.CloseBrace "}" ∷ on 1 kind.CloseBrace "}" ∷ []

model-d-step-zero-divisor : Program
unfolding tokens-d-step-zero-divisor
model-d-step-zero-divisor =
    let at : ℕ → Word = token_at tokens-d-step-zero-divisor in
    let part : ℕ → ℕ → List Word = tokens_between tokens-d-step-zero-divisor in
    record {
      globals = (slot (at 1) byte false 0 1 1 initial.Zero ∷ []);
      constants = [];
      typedefs = [];
      proctypes = (
          process (at 3) 2 1 0 [] (
          d_step (part 5 21) (
          plain (part 7 10) (assign (global 0 byte) (number 3)) ∷
          plain (part 11 20) (assign (global 0 byte) (expr.Binary op.Divide (number 1) (expr.Binary op.Minus (read (global 0 byte))
          (number 3)))) ∷ []) ∷ []) (at 21) ∷ []);
    }

row-d-step-zero-divisor : seen (options true true true 200) model-d-step-zero-divisor (codes "")
    ≡ Some (whole (text ("fault F2 (zero divisor): step 1: proc 0 (:init:) line 1 [d_step]\n" ∷ [])) (codes "") 2 0)
unfolding computes model-d-step-zero-divisor
row-d-step-zero-divisor = sees (options true true true 200) model-d-step-zero-divisor (codes "") _ refl

-- -p -g -l
-- byte x; init { d_step { do :: x < 3 -> x++ :: else -> break od } }
tokens-d-step-loop : List Word
tokens-d-step-loop =
    on 1 kind.Byte "byte" ∷ on 1 kind.Name "x" ∷ on 1 kind.Semicolon ";" ∷ on 1 kind.Init "init" ∷ on 1 kind.OpenBrace "{" ∷
    on 1 kind.DStep "d_step" ∷ on 1 kind.OpenBrace "{" ∷ on 1 kind.Do "do" ∷ on 1 kind.DoubleColon "::" ∷ on 1 kind.Name "x" ∷
    on 1 kind.Less "<" ∷ on 1 kind.Number "3" ∷ on 1 kind.Arrow "->" ∷ on 1 kind.Name "x" ∷ on 1 kind.Increment "++" ∷
    on 1 kind.DoubleColon "::" ∷ on 1 kind.Else "else" ∷ on 1 kind.Arrow "->" ∷ on 1 kind.Break "break" ∷ on 1 kind.Od "od" ∷
    on 1 kind.CloseBrace "}" ∷ on 1 kind.CloseBrace "}" ∷ []

model-d-step-loop : Program
unfolding tokens-d-step-loop
model-d-step-loop =
    let at : ℕ → Word = token_at tokens-d-step-loop in
    let part : ℕ → ℕ → List Word = tokens_between tokens-d-step-loop in
    record {
      globals = (slot (at 1) byte false 0 1 1 initial.Zero ∷ []);
      constants = [];
      typedefs = [];
      proctypes = (
          process (at 3) 2 1 0 [] (
          d_step (part 5 21) (
          do_od (part 7 20) (
          (plain (part 9 12) (holds (expr.Binary op.Below (read (global 0 byte)) (number 3))) ∷
          plain (part 13 15) (action.Increment (global 0 byte)) ∷ []) ∷
          (plain (part 16 17) action.Else ∷
          stmt [] Break (part 18 19) ∷ []) ∷ []) ∷ []) ∷ []) (at 21) ∷ []);
    }

row-d-step-loop : seen (options true true true 200) model-d-step-loop (codes "")
    ≡ Some (whole (text (
    "step 1: proc 0 (:init:) line 1 [d_step]\n" ∷
    "global x = 3\n" ∷
    "step 2: proc 0 (:init:) line 1 [-end-]\n" ∷
    "end: valid, steps 2\n" ∷
    [])) (codes "") 0 0)
unfolding computes model-d-step-loop
row-d-step-loop = sees (options true true true 200) model-d-step-loop (codes "") _ refl

-- -p -g -l
-- byte x; proctype P(byte a) { byte b = a + 1; x = b } init { d_step { x = 4; run P(x); x = 5 } }
tokens-d-step-runs : List Word
tokens-d-step-runs =
    on 1 kind.Byte "byte" ∷ on 1 kind.Name "x" ∷ on 1 kind.Semicolon ";" ∷ on 1 kind.Proctype "proctype" ∷ on 1 kind.Name "P" ∷
    on 1 kind.OpenParen "(" ∷ on 1 kind.Byte "byte" ∷ on 1 kind.Name "a" ∷ on 1 kind.CloseParen ")" ∷ on 1 kind.OpenBrace "{" ∷
    on 1 kind.Byte "byte" ∷ on 1 kind.Name "b" ∷ on 1 kind.Assign "=" ∷ on 1 kind.Name "a" ∷ on 1 kind.Plus "+" ∷
    on 1 kind.Number "1" ∷ on 1 kind.Semicolon ";" ∷ on 1 kind.Name "x" ∷ on 1 kind.Assign "=" ∷ on 1 kind.Name "b" ∷
    on 1 kind.CloseBrace "}" ∷ on 1 kind.Init "init" ∷ on 1 kind.OpenBrace "{" ∷ on 1 kind.DStep "d_step" ∷ on 1 kind.OpenBrace "{" ∷
    on 1 kind.Name "x" ∷ on 1 kind.Assign "=" ∷ on 1 kind.Number "4" ∷ on 1 kind.Semicolon ";" ∷ on 1 kind.Run "run" ∷
    on 1 kind.Name "P" ∷ on 1 kind.OpenParen "(" ∷ on 1 kind.Name "x" ∷ on 1 kind.CloseParen ")" ∷ on 1 kind.Semicolon ";" ∷
    on 1 kind.Name "x" ∷ on 1 kind.Assign "=" ∷ on 1 kind.Number "5" ∷ on 1 kind.CloseBrace "}" ∷ on 1 kind.CloseBrace "}" ∷ []

model-d-step-runs : Program
unfolding tokens-d-step-runs
model-d-step-runs =
    let at : ℕ → Word = token_at tokens-d-step-runs in
    let part : ℕ → ℕ → List Word = tokens_between tokens-d-step-runs in
    record {
      globals = (slot (at 1) byte false 0 1 1 initial.Zero ∷ []);
      constants = [];
      typedefs = [];
      proctypes = (
          process (at 4) 2 0 1 (slot (at 7) byte false 0 1 1 initial.Zero ∷ slot (at 11) byte false 1 1 1 (initial.Value (expr.Binary
          op.Plus (read (local 0 byte)) (number 1))) ∷ []) (
          plain (part 17 20) (assign (global 0 byte) (read (local 1 byte))) ∷ []) (at 20) ∷
          process (at 21) 3 1 0 [] (
          d_step (part 23 39) (
          plain (part 25 28) (assign (global 0 byte) (number 4)) ∷
          plain (part 29 34) (action.Run (run 0 ((read (global 0 byte)) ∷ []))) ∷
          plain (part 35 38) (assign (global 0 byte) (number 5)) ∷ []) ∷ []) (at 39) ∷ []);
    }

row-d-step-runs : seen (options true true true 200) model-d-step-runs (codes "")
    ≡ Some (whole (text (
    "step 1: proc 0 (:init:) line 1 [d_step]\n" ∷
    "global x = 5\n" ∷
    "step 2: proc 1 (P) line 1 [x = b]\n" ∷
    "step 3: proc 1 (P) line 1 [-end-]\n" ∷
    "step 4: proc 0 (:init:) line 1 [-end-]\n" ∷
    "end: valid, steps 4\n" ∷
    [])) (codes "") 0 0)
unfolding computes model-d-step-runs
row-d-step-runs = sees (options true true true 200) model-d-step-runs (codes "") _ refl

-- -p -g -l
-- byte x; active proctype A() { atomic { d_step { x = 1; x = 2 }; x = 3 } } active proctype B() { skip }
tokens-d-step-keeps-atomic : List Word
tokens-d-step-keeps-atomic =
    on 1 kind.Byte "byte" ∷ on 1 kind.Name "x" ∷ on 1 kind.Semicolon ";" ∷ on 1 kind.Active "active" ∷
    on 1 kind.Proctype "proctype" ∷ on 1 kind.Name "A" ∷ on 1 kind.OpenParen "(" ∷ on 1 kind.CloseParen ")" ∷
    on 1 kind.OpenBrace "{" ∷ on 1 kind.Atomic "atomic" ∷ on 1 kind.OpenBrace "{" ∷ on 1 kind.DStep "d_step" ∷
    on 1 kind.OpenBrace "{" ∷ on 1 kind.Name "x" ∷ on 1 kind.Assign "=" ∷ on 1 kind.Number "1" ∷ on 1 kind.Semicolon ";" ∷
    on 1 kind.Name "x" ∷ on 1 kind.Assign "=" ∷ on 1 kind.Number "2" ∷ on 1 kind.CloseBrace "}" ∷ on 1 kind.Semicolon ";" ∷
    on 1 kind.Name "x" ∷ on 1 kind.Assign "=" ∷ on 1 kind.Number "3" ∷ on 1 kind.CloseBrace "}" ∷ on 1 kind.CloseBrace "}" ∷
    on 1 kind.Active "active" ∷ on 1 kind.Proctype "proctype" ∷ on 1 kind.Name "B" ∷ on 1 kind.OpenParen "(" ∷
    on 1 kind.CloseParen ")" ∷ on 1 kind.OpenBrace "{" ∷ on 1 kind.Skip "skip" ∷ on 1 kind.CloseBrace "}" ∷ []

model-d-step-keeps-atomic : Program
unfolding tokens-d-step-keeps-atomic
model-d-step-keeps-atomic =
    let at : ℕ → Word = token_at tokens-d-step-keeps-atomic in
    let part : ℕ → ℕ → List Word = tokens_between tokens-d-step-keeps-atomic in
    record {
      globals = (slot (at 1) byte false 0 1 1 initial.Zero ∷ []);
      constants = [];
      typedefs = [];
      proctypes = (
          process (at 5) 2 1 0 [] (
          atomic (part 9 26) (
          d_step (part 11 21) (
          plain (part 13 16) (assign (global 0 byte) (number 1)) ∷
          plain (part 17 20) (assign (global 0 byte) (number 2)) ∷ []) ∷
          plain (part 22 25) (assign (global 0 byte) (number 3)) ∷ []) ∷ []) (at 26) ∷
          process (at 29) 3 1 0 [] (
          plain (part 33 34) (holds (number 1)) ∷ []) (at 34) ∷ []);
    }

row-d-step-keeps-atomic : seen (options true true true 200) model-d-step-keeps-atomic (codes "1\n")
    ≡ Some (whole (text (
    "choice 1: proc 0 (A) line 1 [d_step]\n" ∷
    "choice 2: proc 1 (B) line 1 [skip]\n" ∷
    "choose 1..2\n" ∷
    "step 1: proc 0 (A) line 1 [d_step]\n" ∷
    "global x = 2\n" ∷
    "step 2: proc 0 (A) line 1 [x = 3]\n" ∷
    "global x = 3\n" ∷
    "step 3: proc 1 (B) line 1 [skip]\n" ∷
    "step 4: proc 1 (B) line 1 [-end-]\n" ∷
    "step 5: proc 0 (A) line 1 [-end-]\n" ∷
    "end: valid, steps 5\n" ∷
    [])) (codes "1\n") 0 2)
unfolding computes model-d-step-keeps-atomic
row-d-step-keeps-atomic = sees (options true true true 200) model-d-step-keeps-atomic (codes "1\n") _ refl

-- -p
-- chan q = [0] of { byte };
-- byte z;
-- init { d_step { z = 0; q!1 / z } }
tokens-d-step-fields-not-asked : List Word
tokens-d-step-fields-not-asked =
    on 1 kind.Chan "chan" ∷ on 1 kind.Name "q" ∷ on 1 kind.Assign "=" ∷ on 1 kind.OpenBracket "[" ∷ on 1 kind.Number "0" ∷
    on 1 kind.CloseBracket "]" ∷ on 1 kind.Of "of" ∷ on 1 kind.OpenBrace "{" ∷ on 1 kind.Byte "byte" ∷ on 1 kind.CloseBrace "}" ∷
    on 1 kind.Semicolon ";" ∷ on 2 kind.Byte "byte" ∷ on 2 kind.Name "z" ∷ on 2 kind.Semicolon ";" ∷ on 3 kind.Init "init" ∷
    on 3 kind.OpenBrace "{" ∷ on 3 kind.DStep "d_step" ∷ on 3 kind.OpenBrace "{" ∷ on 3 kind.Name "z" ∷ on 3 kind.Assign "=" ∷
    on 3 kind.Number "0" ∷ on 3 kind.Semicolon ";" ∷ on 3 kind.Name "q" ∷ on 3 kind.Bang "!" ∷ on 3 kind.Number "1" ∷
    on 3 kind.Slash "/" ∷ on 3 kind.Name "z" ∷ on 3 kind.CloseBrace "}" ∷ on 3 kind.CloseBrace "}" ∷ []

model-d-step-fields-not-asked : Program
unfolding tokens-d-step-fields-not-asked
model-d-step-fields-not-asked =
    let at : ℕ → Word = token_at tokens-d-step-fields-not-asked in
    let part : ℕ → ℕ → List Word = tokens_between tokens-d-step-fields-not-asked in
    record {
      globals = (slot (at 1) chan false 0 1 1 (initial.Channel 0 (byte ∷ [])) ∷ slot (at 12) byte false 1 1 1 initial.Zero ∷ []);
      constants = [];
      typedefs = [];
      proctypes = (
          process (at 14) 3 1 0 [] (
          d_step (part 16 28) (
          plain (part 18 21) (assign (global 1 byte) (number 0)) ∷
          plain (part 22 27) (action.Send (global 0 chan) Fifo ((expr.Binary op.Divide (number 1) (read (global 1 byte))) ∷ [])) ∷ []) ∷
          []) (at 28) ∷ []);
    }

row-d-step-fields-not-asked : seen (options true false false 1000) model-d-step-fields-not-asked (codes "")
    ≡ Some (whole (text ("fault F7 (d_step blocks): step 1: proc 0 (:init:) line 3 [d_step]\n" ∷ [])) (codes "") 2 0)
unfolding computes model-d-step-fields-not-asked
row-d-step-fields-not-asked = sees (options true false false 1000) model-d-step-fields-not-asked (codes "") _ refl
