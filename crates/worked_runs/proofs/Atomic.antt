-- Runs: atomic, and levels of escapes. `tools/model-data` made the data of their models.
use Rattle.std.proofs.Common.{◌≡◌, ℕ, List, [], ◌∷◌, true, false, refl, Some}
use Rattle.std.specs.Prelude.{codes}
use Rattle.pml_token.specs.Word.{Word}
use Rattle.pml_tree.specs.declared.tree.Search.TheVariants.{First}
use Rattle.pml_tree.specs.declared.tree.Removal.TheVariants.{Remove}
use Rattle.pml_tree.specs.declared.tree.SendOrder.TheVariants.{Fifo}
use Rattle.pml_program.specs.declared.program.Program.{Program}
use Rattle.pml_program.specs.declared.program.Basic.{Goto, Break}
use Rattle.worked_runs.specs.Seen.{seen}
use Rattle.worked_runs.proofs.Models.{on, token_at, tokens_between, byte, chan, slot, global, number, read, assign, holds, stmt, plain, labelled, block, atomic, do_od, unless, process, options, text, whole}
use Rattle.worked_runs.proofs.Same.{computes, sees}
use Rattle.pml_token.specs.declared.token.Kind.TheVariants as kind
use Rattle.pml_tree.specs.declared.tree.Infix.TheVariants as op
use Rattle.pml_program.specs.declared.expr.Expr.TheVariants as expr
use Rattle.pml_program.specs.declared.expr.Want.TheVariants as want
use Rattle.pml_program.specs.declared.program.Initial.TheVariants as initial
use Rattle.pml_program.specs.declared.program.Action.TheVariants as action

-- -p -g -l
-- byte z; init { { z = 1 } unless { 1 / z } }
tokens-fault-hides-levels : List Word
tokens-fault-hides-levels =
    on 1 kind.Byte "byte" ∷ on 1 kind.Name "z" ∷ on 1 kind.Semicolon ";" ∷ on 1 kind.Init "init" ∷ on 1 kind.OpenBrace "{" ∷
    on 1 kind.OpenBrace "{" ∷ on 1 kind.Name "z" ∷ on 1 kind.Assign "=" ∷ on 1 kind.Number "1" ∷ on 1 kind.CloseBrace "}" ∷
    on 1 kind.Unless "unless" ∷ on 1 kind.OpenBrace "{" ∷ on 1 kind.Number "1" ∷ on 1 kind.Slash "/" ∷ on 1 kind.Name "z" ∷
    on 1 kind.CloseBrace "}" ∷ on 1 kind.CloseBrace "}" ∷ []

model-fault-hides-levels : Program
unfolding tokens-fault-hides-levels
model-fault-hides-levels =
    let at : ℕ → Word = token_at tokens-fault-hides-levels in
    let part : ℕ → ℕ → List Word = tokens_between tokens-fault-hides-levels in
    record {
      globals = (slot (at 1) byte false 0 1 1 initial.Zero ∷ []);
      constants = [];
      typedefs = [];
      proctypes = (
          process (at 3) 2 1 0 [] (
          unless (part 5 16) (
          block (part 5 10) (
          plain (part 6 9) (assign (global 0 byte) (number 1)) ∷ []) ∷ []) (
          block (part 11 16) (
          plain (part 12 15) (holds (expr.Binary op.Divide (number 1) (read (global 0 byte)))) ∷ []) ∷ []) ∷ []) (at 16) ∷ []);
    }

row-fault-hides-levels : seen (options true true true 200) model-fault-hides-levels (codes "")
    ≡ Some (whole (text ("fault F2 (zero divisor): step 1: proc 0 (:init:) line 1 [1 / z]\n" ∷ [])) (codes "") 2 0)
unfolding computes model-fault-hides-levels
row-fault-hides-levels = sees (options true true true 200) model-fault-hides-levels (codes "") _ refl

-- -p
-- byte x;
-- active proctype A() { atomic { x = 1; (x == 2); x = 3 } }
-- active proctype B() { x = 2 }
tokens-control-lent : List Word
tokens-control-lent =
    on 1 kind.Byte "byte" ∷ on 1 kind.Name "x" ∷ on 1 kind.Semicolon ";" ∷ on 2 kind.Active "active" ∷
    on 2 kind.Proctype "proctype" ∷ on 2 kind.Name "A" ∷ on 2 kind.OpenParen "(" ∷ on 2 kind.CloseParen ")" ∷
    on 2 kind.OpenBrace "{" ∷ on 2 kind.Atomic "atomic" ∷ on 2 kind.OpenBrace "{" ∷ on 2 kind.Name "x" ∷ on 2 kind.Assign "=" ∷
    on 2 kind.Number "1" ∷ on 2 kind.Semicolon ";" ∷ on 2 kind.OpenParen "(" ∷ on 2 kind.Name "x" ∷ on 2 kind.Equal "==" ∷
    on 2 kind.Number "2" ∷ on 2 kind.CloseParen ")" ∷ on 2 kind.Semicolon ";" ∷ on 2 kind.Name "x" ∷ on 2 kind.Assign "=" ∷
    on 2 kind.Number "3" ∷ on 2 kind.CloseBrace "}" ∷ on 2 kind.CloseBrace "}" ∷ on 3 kind.Active "active" ∷
    on 3 kind.Proctype "proctype" ∷ on 3 kind.Name "B" ∷ on 3 kind.OpenParen "(" ∷ on 3 kind.CloseParen ")" ∷
    on 3 kind.OpenBrace "{" ∷ on 3 kind.Name "x" ∷ on 3 kind.Assign "=" ∷ on 3 kind.Number "2" ∷ on 3 kind.CloseBrace "}" ∷ []

model-control-lent : Program
unfolding tokens-control-lent
model-control-lent =
    let at : ℕ → Word = token_at tokens-control-lent in
    let part : ℕ → ℕ → List Word = tokens_between tokens-control-lent in
    record {
      globals = (slot (at 1) byte false 0 1 1 initial.Zero ∷ []);
      constants = [];
      typedefs = [];
      proctypes = (
          process (at 5) 2 1 0 [] (
          atomic (part 9 25) (
          plain (part 11 14) (assign (global 0 byte) (number 1)) ∷
          plain (part 15 20) (holds (expr.Binary op.Equal (read (global 0 byte)) (number 2))) ∷
          plain (part 21 24) (assign (global 0 byte) (number 3)) ∷ []) ∷ []) (at 25) ∷
          process (at 28) 3 1 0 [] (
          plain (part 32 35) (assign (global 0 byte) (number 2)) ∷ []) (at 35) ∷ []);
    }

row-control-lent : seen (options true false false 1000) model-control-lent (codes "1\n1\n")
    ≡ Some (whole (text (
    "choice 1: proc 0 (A) line 2 [x = 1]\n" ∷
    "choice 2: proc 1 (B) line 3 [x = 2]\n" ∷
    "choose 1..2\n" ∷
    "step 1: proc 0 (A) line 2 [x = 1]\n" ∷
    "step 2: proc 1 (B) line 3 [x = 2]\n" ∷
    "choice 1: proc 0 (A) line 2 [( x == 2 )]\n" ∷
    "choice 2: proc 1 (B) line 3 [-end-]\n" ∷
    "choose 1..2\n" ∷
    "step 3: proc 0 (A) line 2 [( x == 2 )]\n" ∷
    "step 4: proc 0 (A) line 2 [x = 3]\n" ∷
    "step 5: proc 1 (B) line 3 [-end-]\n" ∷
    "step 6: proc 0 (A) line 2 [-end-]\n" ∷
    "end: valid, steps 6\n" ∷
    [])) (codes "1\n1\n") 0 4)
unfolding computes model-control-lent
row-control-lent = sees (options true false false 1000) model-control-lent (codes "1\n1\n") _ refl

-- -p -g -l
-- chan q = [0] of { byte }; byte x; active proctype S() { atomic { q!1; x = 1 } } active proctype R() { q?_; x = 2 }
tokens-sender-never-keeps : List Word
tokens-sender-never-keeps =
    on 1 kind.Chan "chan" ∷ on 1 kind.Name "q" ∷ on 1 kind.Assign "=" ∷ on 1 kind.OpenBracket "[" ∷ on 1 kind.Number "0" ∷
    on 1 kind.CloseBracket "]" ∷ on 1 kind.Of "of" ∷ on 1 kind.OpenBrace "{" ∷ on 1 kind.Byte "byte" ∷ on 1 kind.CloseBrace "}" ∷
    on 1 kind.Semicolon ";" ∷ on 1 kind.Byte "byte" ∷ on 1 kind.Name "x" ∷ on 1 kind.Semicolon ";" ∷ on 1 kind.Active "active" ∷
    on 1 kind.Proctype "proctype" ∷ on 1 kind.Name "S" ∷ on 1 kind.OpenParen "(" ∷ on 1 kind.CloseParen ")" ∷
    on 1 kind.OpenBrace "{" ∷ on 1 kind.Atomic "atomic" ∷ on 1 kind.OpenBrace "{" ∷ on 1 kind.Name "q" ∷ on 1 kind.Bang "!" ∷
    on 1 kind.Number "1" ∷ on 1 kind.Semicolon ";" ∷ on 1 kind.Name "x" ∷ on 1 kind.Assign "=" ∷ on 1 kind.Number "1" ∷
    on 1 kind.CloseBrace "}" ∷ on 1 kind.CloseBrace "}" ∷ on 1 kind.Active "active" ∷ on 1 kind.Proctype "proctype" ∷
    on 1 kind.Name "R" ∷ on 1 kind.OpenParen "(" ∷ on 1 kind.CloseParen ")" ∷ on 1 kind.OpenBrace "{" ∷ on 1 kind.Name "q" ∷
    on 1 kind.Query "?" ∷ on 1 kind.Name "_" ∷ on 1 kind.Semicolon ";" ∷ on 1 kind.Name "x" ∷ on 1 kind.Assign "=" ∷
    on 1 kind.Number "2" ∷ on 1 kind.CloseBrace "}" ∷ []

model-sender-never-keeps : Program
unfolding tokens-sender-never-keeps
model-sender-never-keeps =
    let at : ℕ → Word = token_at tokens-sender-never-keeps in
    let part : ℕ → ℕ → List Word = tokens_between tokens-sender-never-keeps in
    record {
      globals = (slot (at 1) chan false 0 1 1 (initial.Channel 0 (byte ∷ [])) ∷ slot (at 12) byte false 1 1 1 initial.Zero ∷ []);
      constants = [];
      typedefs = [];
      proctypes = (
          process (at 16) 3 1 0 [] (
          atomic (part 20 30) (
          plain (part 22 25) (action.Send (global 0 chan) Fifo ((number 1) ∷ [])) ∷
          plain (part 26 29) (assign (global 1 byte) (number 1)) ∷ []) ∷ []) (at 30) ∷
          process (at 33) 4 1 0 [] (
          plain (part 37 40) (action.Receive (global 0 chan) First Remove (want.Anything ∷ [])) ∷
          plain (part 41 44) (assign (global 1 byte) (number 2)) ∷ []) (at 44) ∷ []);
    }

row-sender-never-keeps : seen (options true true true 200) model-sender-never-keeps (codes "1\n1\n1\n")
    ≡ Some (whole (text (
    "step 1: proc 0 (S) line 1 [q ! 1] -> proc 1 (R) line 1 [q ? _]\n" ∷
    "choice 1: proc 0 (S) line 1 [x = 1]\n" ∷
    "choice 2: proc 1 (R) line 1 [x = 2]\n" ∷
    "choose 1..2\n" ∷
    "step 2: proc 0 (S) line 1 [x = 1]\n" ∷
    "global x = 1\n" ∷
    "step 3: proc 1 (R) line 1 [x = 2]\n" ∷
    "global x = 2\n" ∷
    "step 4: proc 1 (R) line 1 [-end-]\n" ∷
    "step 5: proc 0 (S) line 1 [-end-]\n" ∷
    "end: valid, steps 5\n" ∷
    [])) (codes "1\n") 0 2)
unfolding computes model-sender-never-keeps
row-sender-never-keeps = sees (options true true true 200) model-sender-never-keeps (codes "1\n1\n1\n") _ refl

-- -p -g -l
-- byte x; active proctype A() { atomic { x = 1; goto L; L: x = 2 } } active proctype B() { x = 3 }
tokens-atomic-over-goto : List Word
tokens-atomic-over-goto =
    on 1 kind.Byte "byte" ∷ on 1 kind.Name "x" ∷ on 1 kind.Semicolon ";" ∷ on 1 kind.Active "active" ∷
    on 1 kind.Proctype "proctype" ∷ on 1 kind.Name "A" ∷ on 1 kind.OpenParen "(" ∷ on 1 kind.CloseParen ")" ∷
    on 1 kind.OpenBrace "{" ∷ on 1 kind.Atomic "atomic" ∷ on 1 kind.OpenBrace "{" ∷ on 1 kind.Name "x" ∷ on 1 kind.Assign "=" ∷
    on 1 kind.Number "1" ∷ on 1 kind.Semicolon ";" ∷ on 1 kind.Goto "goto" ∷ on 1 kind.Name "L" ∷ on 1 kind.Semicolon ";" ∷
    on 1 kind.Name "L" ∷ on 1 kind.Colon ":" ∷ on 1 kind.Name "x" ∷ on 1 kind.Assign "=" ∷ on 1 kind.Number "2" ∷
    on 1 kind.CloseBrace "}" ∷ on 1 kind.CloseBrace "}" ∷ on 1 kind.Active "active" ∷ on 1 kind.Proctype "proctype" ∷
    on 1 kind.Name "B" ∷ on 1 kind.OpenParen "(" ∷ on 1 kind.CloseParen ")" ∷ on 1 kind.OpenBrace "{" ∷ on 1 kind.Name "x" ∷
    on 1 kind.Assign "=" ∷ on 1 kind.Number "3" ∷ on 1 kind.CloseBrace "}" ∷ []

model-atomic-over-goto : Program
unfolding tokens-atomic-over-goto
model-atomic-over-goto =
    let at : ℕ → Word = token_at tokens-atomic-over-goto in
    let part : ℕ → ℕ → List Word = tokens_between tokens-atomic-over-goto in
    record {
      globals = (slot (at 1) byte false 0 1 1 initial.Zero ∷ []);
      constants = [];
      typedefs = [];
      proctypes = (
          process (at 5) 2 1 0 [] (
          atomic (part 9 24) (
          plain (part 11 14) (assign (global 0 byte) (number 1)) ∷
          stmt [] (Goto (at 16)) (part 15 17) ∷
          labelled ((at 18) ∷ []) (plain (part 20 23) (assign (global 0 byte) (number 2))) ∷ []) ∷ []) (at 24) ∷
          process (at 27) 3 1 0 [] (
          plain (part 31 34) (assign (global 0 byte) (number 3)) ∷ []) (at 34) ∷ []);
    }

row-atomic-over-goto : seen (options true true true 200) model-atomic-over-goto (codes "1\n1\n1\n")
    ≡ Some (whole (text (
    "choice 1: proc 0 (A) line 1 [x = 1]\n" ∷
    "choice 2: proc 1 (B) line 1 [x = 3]\n" ∷
    "choose 1..2\n" ∷
    "step 1: proc 0 (A) line 1 [x = 1]\n" ∷
    "global x = 1\n" ∷
    "step 2: proc 0 (A) line 1 [x = 2]\n" ∷
    "global x = 2\n" ∷
    "step 3: proc 1 (B) line 1 [x = 3]\n" ∷
    "global x = 3\n" ∷
    "step 4: proc 1 (B) line 1 [-end-]\n" ∷
    "step 5: proc 0 (A) line 1 [-end-]\n" ∷
    "end: valid, steps 5\n" ∷
    [])) (codes "1\n") 0 2)
unfolding computes model-atomic-over-goto
row-atomic-over-goto = sees (options true true true 200) model-atomic-over-goto (codes "1\n1\n1\n") _ refl

-- -p -g -l
-- byte x; active proctype A() { do :: atomic { x < 2 -> x++ } :: else -> break od } active proctype B() { skip }
tokens-atomic-in-do : List Word
tokens-atomic-in-do =
    on 1 kind.Byte "byte" ∷ on 1 kind.Name "x" ∷ on 1 kind.Semicolon ";" ∷ on 1 kind.Active "active" ∷
    on 1 kind.Proctype "proctype" ∷ on 1 kind.Name "A" ∷ on 1 kind.OpenParen "(" ∷ on 1 kind.CloseParen ")" ∷
    on 1 kind.OpenBrace "{" ∷ on 1 kind.Do "do" ∷ on 1 kind.DoubleColon "::" ∷ on 1 kind.Atomic "atomic" ∷ on 1 kind.OpenBrace "{" ∷
    on 1 kind.Name "x" ∷ on 1 kind.Less "<" ∷ on 1 kind.Number "2" ∷ on 1 kind.Arrow "->" ∷ on 1 kind.Name "x" ∷
    on 1 kind.Increment "++" ∷ on 1 kind.CloseBrace "}" ∷ on 1 kind.DoubleColon "::" ∷ on 1 kind.Else "else" ∷ on 1 kind.Arrow "->" ∷
    on 1 kind.Break "break" ∷ on 1 kind.Od "od" ∷ on 1 kind.CloseBrace "}" ∷ on 1 kind.Active "active" ∷
    on 1 kind.Proctype "proctype" ∷ on 1 kind.Name "B" ∷ on 1 kind.OpenParen "(" ∷ on 1 kind.CloseParen ")" ∷
    on 1 kind.OpenBrace "{" ∷ on 1 kind.Skip "skip" ∷ on 1 kind.CloseBrace "}" ∷ []

model-atomic-in-do : Program
unfolding tokens-atomic-in-do
model-atomic-in-do =
    let at : ℕ → Word = token_at tokens-atomic-in-do in
    let part : ℕ → ℕ → List Word = tokens_between tokens-atomic-in-do in
    record {
      globals = (slot (at 1) byte false 0 1 1 initial.Zero ∷ []);
      constants = [];
      typedefs = [];
      proctypes = (
          process (at 5) 2 1 0 [] (
          do_od (part 9 25) (
          (atomic (part 11 20) (
          plain (part 13 16) (holds (expr.Binary op.Below (read (global 0 byte)) (number 2))) ∷
          plain (part 17 19) (action.Increment (global 0 byte)) ∷ []) ∷ []) ∷
          (plain (part 21 22) action.Else ∷
          stmt [] Break (part 23 24) ∷ []) ∷ []) ∷ []) (at 25) ∷
          process (at 28) 3 1 0 [] (
          plain (part 32 33) (holds (number 1)) ∷ []) (at 33) ∷ []);
    }

row-atomic-in-do : seen (options true true true 200) model-atomic-in-do (codes "1\n1\n1\n1\n1\n")
    ≡ Some (whole (text (
    "choice 1: proc 0 (A) line 1 [x < 2]\n" ∷
    "choice 2: proc 1 (B) line 1 [skip]\n" ∷
    "choose 1..2\n" ∷
    "step 1: proc 0 (A) line 1 [x < 2]\n" ∷
    "step 2: proc 0 (A) line 1 [x ++]\n" ∷
    "global x = 1\n" ∷
    "choice 1: proc 0 (A) line 1 [x < 2]\n" ∷
    "choice 2: proc 1 (B) line 1 [skip]\n" ∷
    "choose 1..2\n" ∷
    "step 3: proc 0 (A) line 1 [x < 2]\n" ∷
    "step 4: proc 0 (A) line 1 [x ++]\n" ∷
    "global x = 2\n" ∷
    "choice 1: proc 0 (A) line 1 [else]\n" ∷
    "choice 2: proc 1 (B) line 1 [skip]\n" ∷
    "choose 1..2\n" ∷
    "step 5: proc 0 (A) line 1 [else]\n" ∷
    "step 6: proc 1 (B) line 1 [skip]\n" ∷
    "step 7: proc 1 (B) line 1 [-end-]\n" ∷
    "step 8: proc 0 (A) line 1 [-end-]\n" ∷
    "end: valid, steps 8\n" ∷
    [])) (codes "1\n1\n1\n") 0 6)
unfolding computes model-atomic-in-do
row-atomic-in-do = sees (options true true true 200) model-atomic-in-do (codes "1\n1\n1\n1\n1\n") _ refl

-- -p
-- byte x;
-- active proctype A() { atomic { x = 1; timeout; x = 2 } }
-- active proctype B() { x == 1; x = 3 }
tokens-control-lent-before-timeout : List Word
tokens-control-lent-before-timeout =
    on 1 kind.Byte "byte" ∷ on 1 kind.Name "x" ∷ on 1 kind.Semicolon ";" ∷ on 2 kind.Active "active" ∷
    on 2 kind.Proctype "proctype" ∷ on 2 kind.Name "A" ∷ on 2 kind.OpenParen "(" ∷ on 2 kind.CloseParen ")" ∷
    on 2 kind.OpenBrace "{" ∷ on 2 kind.Atomic "atomic" ∷ on 2 kind.OpenBrace "{" ∷ on 2 kind.Name "x" ∷ on 2 kind.Assign "=" ∷
    on 2 kind.Number "1" ∷ on 2 kind.Semicolon ";" ∷ on 2 kind.Timeout "timeout" ∷ on 2 kind.Semicolon ";" ∷ on 2 kind.Name "x" ∷
    on 2 kind.Assign "=" ∷ on 2 kind.Number "2" ∷ on 2 kind.CloseBrace "}" ∷ on 2 kind.CloseBrace "}" ∷ on 3 kind.Active "active" ∷
    on 3 kind.Proctype "proctype" ∷ on 3 kind.Name "B" ∷ on 3 kind.OpenParen "(" ∷ on 3 kind.CloseParen ")" ∷
    on 3 kind.OpenBrace "{" ∷ on 3 kind.Name "x" ∷ on 3 kind.Equal "==" ∷ on 3 kind.Number "1" ∷ on 3 kind.Semicolon ";" ∷
    on 3 kind.Name "x" ∷ on 3 kind.Assign "=" ∷ on 3 kind.Number "3" ∷ on 3 kind.CloseBrace "}" ∷ []

model-control-lent-before-timeout : Program
unfolding tokens-control-lent-before-timeout
model-control-lent-before-timeout =
    let at : ℕ → Word = token_at tokens-control-lent-before-timeout in
    let part : ℕ → ℕ → List Word = tokens_between tokens-control-lent-before-timeout in
    record {
      globals = (slot (at 1) byte false 0 1 1 initial.Zero ∷ []);
      constants = [];
      typedefs = [];
      proctypes = (
          process (at 5) 2 1 0 [] (
          atomic (part 9 21) (
          plain (part 11 14) (assign (global 0 byte) (number 1)) ∷
          plain (part 15 16) (holds expr.Timeout) ∷
          plain (part 17 20) (assign (global 0 byte) (number 2)) ∷ []) ∷ []) (at 21) ∷
          process (at 24) 3 1 0 [] (
          plain (part 28 31) (holds (expr.Binary op.Equal (read (global 0 byte)) (number 1))) ∷
          plain (part 32 35) (assign (global 0 byte) (number 3)) ∷ []) (at 35) ∷ []);
    }

row-control-lent-before-timeout : seen (options true false false 1000) model-control-lent-before-timeout (codes "")
    ≡ Some (whole (text (
    "step 1: proc 0 (A) line 2 [x = 1]\n" ∷
    "step 2: proc 1 (B) line 3 [x == 1]\n" ∷
    "step 3: proc 1 (B) line 3 [x = 3]\n" ∷
    "step 4: proc 1 (B) line 3 [-end-]\n" ∷
    "step 5: proc 0 (A) line 2 [timeout]\n" ∷
    "step 6: proc 0 (A) line 2 [x = 2]\n" ∷
    "step 7: proc 0 (A) line 2 [-end-]\n" ∷
    "end: valid, steps 7\n" ∷
    [])) (codes "") 0 0)
unfolding computes model-control-lent-before-timeout
row-control-lent-before-timeout = sees (options true false false 1000) model-control-lent-before-timeout (codes "") _ refl
