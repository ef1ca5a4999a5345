-- Runs: goto, else, timeout and unless. `tools/model-data` made the data of their models.
use Rattle.std.proofs.Common.{◌≡◌, ℕ, List, [], ◌∷◌, true, false, refl, Some}
use Rattle.std.specs.Prelude.{codes}
use Rattle.pml_token.specs.Word.{Word}
use Rattle.pml_program.specs.declared.program.Program.{Program}
use Rattle.pml_program.specs.declared.program.Basic.{Goto}
use Rattle.worked_runs.specs.Seen.{seen}
use Rattle.worked_runs.proofs.Models.{on, token_at, tokens_between, byte, slot, global, number, read, assign, holds, stmt, plain, labelled, block, if_fi, do_od, unless, process, options, text, whole}
use Rattle.worked_runs.proofs.Same.{computes, sees}
use Rattle.pml_token.specs.declared.token.Kind.TheVariants as kind
use Rattle.pml_tree.specs.declared.tree.Infix.TheVariants as op
use Rattle.pml_program.specs.declared.expr.Expr.TheVariants as expr
use Rattle.pml_program.specs.declared.program.Initial.TheVariants as initial
use Rattle.pml_program.specs.declared.program.Action.TheVariants as action

-- -p
-- byte x; init { do :: goto L od; L: x = 1 }
tokens-goto-in-do : List Word
tokens-goto-in-do =
    on 1 kind.Byte "byte" ∷ on 1 kind.Name "x" ∷ on 1 kind.Semicolon ";" ∷ on 1 kind.Init "init" ∷ on 1 kind.OpenBrace "{" ∷
    on 1 kind.Do "do" ∷ on 1 kind.DoubleColon "::" ∷ on 1 kind.Goto "goto" ∷ on 1 kind.Name "L" ∷ on 1 kind.Od "od" ∷
    on 1 kind.Semicolon ";" ∷ on 1 kind.Name "L" ∷ on 1 kind.Colon ":" ∷ on 1 kind.Name "x" ∷ on 1 kind.Assign "=" ∷
    on 1 kind.Number "1" ∷ on 1 kind.CloseBrace "}" ∷ []

model-goto-in-do : Program
unfolding tokens-goto-in-do
model-goto-in-do =
    let at : ℕ → Word = token_at tokens-goto-in-do in
    let part : ℕ → ℕ → List Word = tokens_between tokens-goto-in-do in
    record {
      globals = (slot (at 1) byte false 0 1 1 initial.Zero ∷ []);
      constants = [];
      typedefs = [];
      proctypes = (
          process (at 3) 2 1 0 [] (
          do_od (part 5 10) (
          (stmt [] (Goto (at 8)) (part 7 9) ∷ []) ∷ []) ∷
          labelled ((at 11) ∷ []) (plain (part 13 16) (assign (global 0 byte) (number 1))) ∷ []) (at 16) ∷ []);
    }

row-goto-in-do : seen (options true false false 1000) model-goto-in-do (codes "")
    ≡ Some (whole (text (
    "step 1: proc 0 (:init:) line 1 [goto L]\n" ∷
    "step 2: proc 0 (:init:) line 1 [x = 1]\n" ∷
    "step 3: proc 0 (:init:) line 1 [-end-]\n" ∷
    "end: valid, steps 3\n" ∷
    [])) (codes "") 0 0)
unfolding computes model-goto-in-do
row-goto-in-do = sees (options true false false 1000) model-goto-in-do (codes "") _ refl

-- -p
-- init { skip; goto L; L: skip }
tokens-goto-forward : List Word
tokens-goto-forward =
    on 1 kind.Init "init" ∷ on 1 kind.OpenBrace "{" ∷ on 1 kind.Skip "skip" ∷ on 1 kind.Semicolon ";" ∷ on 1 kind.Goto "goto" ∷
    on 1 kind.Name "L" ∷ on 1 kind.Semicolon ";" ∷ on 1 kind.Name "L" ∷ on 1 kind.Colon ":" ∷ on 1 kind.Skip "skip" ∷
    on 1 kind.CloseBrace "}" ∷ []

model-goto-forward : Program
unfolding tokens-goto-forward
model-goto-forward =
    let at : ℕ → Word = token_at tokens-goto-forward in
    let part : ℕ → ℕ → List Word = tokens_between tokens-goto-forward in
    record {
      globals = [];
      constants = [];
      typedefs = [];
      proctypes = (
          process (at 0) 1 1 0 [] (
          plain (part 2 3) (holds (number 1)) ∷
          stmt [] (Goto (at 5)) (part 4 6) ∷
          labelled ((at 7) ∷ []) (plain (part 9 10) (holds (number 1))) ∷ []) (at 10) ∷ []);
    }

row-goto-forward : seen (options true false false 1000) model-goto-forward (codes "")
    ≡ Some (whole (text (
    "step 1: proc 0 (:init:) line 1 [skip]\n" ∷
    "step 2: proc 0 (:init:) line 1 [skip]\n" ∷
    "step 3: proc 0 (:init:) line 1 [-end-]\n" ∷
    "end: valid, steps 3\n" ∷
    [])) (codes "") 0 0)
unfolding computes model-goto-forward
row-goto-forward = sees (options true false false 1000) model-goto-forward (codes "") _ refl

-- -p
-- byte x;
-- active proctype A() { if :: x == 1 :: timeout -> x = 2 fi }
-- active proctype B() { if :: x == 2 :: else fi }
tokens-timeout-and-else : List Word
tokens-timeout-and-else =
    on 1 kind.Byte "byte" ∷ on 1 kind.Name "x" ∷ on 1 kind.Semicolon ";" ∷ on 2 kind.Active "active" ∷
    on 2 kind.Proctype "proctype" ∷ on 2 kind.Name "A" ∷ on 2 kind.OpenParen "(" ∷ on 2 kind.CloseParen ")" ∷
    on 2 kind.OpenBrace "{" ∷ on 2 kind.If "if" ∷ on 2 kind.DoubleColon "::" ∷ on 2 kind.Name "x" ∷ on 2 kind.Equal "==" ∷
    on 2 kind.Number "1" ∷ on 2 kind.DoubleColon "::" ∷ on 2 kind.Timeout "timeout" ∷ on 2 kind.Arrow "->" ∷ on 2 kind.Name "x" ∷
    on 2 kind.Assign "=" ∷ on 2 kind.Number "2" ∷ on 2 kind.Fi "fi" ∷ on 2 kind.CloseBrace "}" ∷ on 3 kind.Active "active" ∷
    on 3 kind.Proctype "proctype" ∷ on 3 kind.Name "B" ∷ on 3 kind.OpenParen "(" ∷ on 3 kind.CloseParen ")" ∷
    on 3 kind.OpenBrace "{" ∷ on 3 kind.If "if" ∷ on 3 kind.DoubleColon "::" ∷ on 3 kind.Name "x" ∷ on 3 kind.Equal "==" ∷
    on 3 kind.Number "2" ∷ on 3 kind.DoubleColon "::" ∷ on 3 kind.Else "else" ∷ on 3 kind.Fi "fi" ∷ on 3 kind.CloseBrace "}" ∷ []

model-timeout-and-else : Program
unfolding tokens-timeout-and-else
model-timeout-and-else =
    let at : ℕ → Word = token_at tokens-timeout-and-else in
    let part : ℕ → ℕ → List Word = tokens_between tokens-timeout-and-else in
    record {
      globals = (slot (at 1) byte false 0 1 1 initial.Zero ∷ []);
      constants = [];
      typedefs = [];
      proctypes = (
          process (at 5) 2 1 0 [] (
          if_fi (part 9 21) (
          (plain (part 11 14) (holds (expr.Binary op.Equal (read (global 0 byte)) (number 1))) ∷ []) ∷
          (plain (part 15 16) (holds expr.Timeout) ∷
          plain (part 17 20) (assign (global 0 byte) (number 2)) ∷ []) ∷ []) ∷ []) (at 21) ∷
          process (at 24) 3 1 0 [] (
          if_fi (part 28 36) (
          (plain (part 30 33) (holds (expr.Binary op.Equal (read (global 0 byte)) (number 2))) ∷ []) ∷
          (plain (part 34 35) action.Else ∷ []) ∷ []) ∷ []) (at 36) ∷ []);
    }

row-timeout-and-else : seen (options true false false 1000) model-timeout-and-else (codes "")
    ≡ Some (whole (text (
    "step 1: proc 1 (B) line 3 [else]\n" ∷
    "step 2: proc 1 (B) line 3 [-end-]\n" ∷
    "step 3: proc 0 (A) line 2 [timeout]\n" ∷
    "step 4: proc 0 (A) line 2 [x = 2]\n" ∷
    "step 5: proc 0 (A) line 2 [-end-]\n" ∷
    "end: valid, steps 5\n" ∷
    [])) (codes "") 0 0)
unfolding computes model-timeout-and-else
row-timeout-and-else = sees (options true false false 1000) model-timeout-and-else (codes "") _ refl

-- -p -g -l
-- byte x; active proctype A() { timeout -> x = 1 } active proctype B() { x == 1 }
tokens-timeout-after-all : List Word
tokens-timeout-after-all =
    on 1 kind.Byte "byte" ∷ on 1 kind.Name "x" ∷ on 1 kind.Semicolon ";" ∷ on 1 kind.Active "active" ∷
    on 1 kind.Proctype "proctype" ∷ on 1 kind.Name "A" ∷ on 1 kind.OpenParen "(" ∷ on 1 kind.CloseParen ")" ∷
    on 1 kind.OpenBrace "{" ∷ on 1 kind.Timeout "timeout" ∷ on 1 kind.Arrow "->" ∷ on 1 kind.Name "x" ∷ on 1 kind.Assign "=" ∷
    on 1 kind.Number "1" ∷ on 1 kind.CloseBrace "}" ∷ on 1 kind.Active "active" ∷ on 1 kind.Proctype "proctype" ∷
    on 1 kind.Name "B" ∷ on 1 kind.OpenParen "(" ∷ on 1 kind.CloseParen ")" ∷ on 1 kind.OpenBrace "{" ∷ on 1 kind.Name "x" ∷
    on 1 kind.Equal "==" ∷ on 1 kind.Number "1" ∷ on 1 kind.CloseBrace "}" ∷ []

model-timeout-after-all : Program
unfolding tokens-timeout-after-all
model-timeout-after-all =
    let at : ℕ → Word = token_at tokens-timeout-after-all in
    let part : ℕ → ℕ → List Word = tokens_between tokens-timeout-after-all in
    record {
      globals = (slot (at 1) byte false 0 1 1 initial.Zero ∷ []);
      constants = [];
      typedefs = [];
      proctypes = (
          process (at 5) 2 1 0 [] (
          plain (part 9 10) (holds expr.Timeout) ∷
          plain (part 11 14) (assign (global 0 byte) (number 1)) ∷ []) (at 14) ∷
          process (at 17) 3 1 0 [] (
          plain (part 21 24) (holds (expr.Binary op.Equal (read (global 0 byte)) (number 1))) ∷ []) (at 24) ∷ []);
    }

row-timeout-after-all : seen (options true true true 200) model-timeout-after-all (codes "")
    ≡ Some (whole (text (
    "step 1: proc 0 (A) line 1 [timeout]\n" ∷
    "step 2: proc 0 (A) line 1 [x = 1]\n" ∷
    "global x = 1\n" ∷
    "step 3: proc 1 (B) line 1 [x == 1]\n" ∷
    "step 4: proc 1 (B) line 1 [-end-]\n" ∷
    "step 5: proc 0 (A) line 1 [-end-]\n" ∷
    "end: valid, steps 5\n" ∷
    [])) (codes "") 0 0)
unfolding computes model-timeout-after-all
row-timeout-after-all = sees (options true true true 200) model-timeout-after-all (codes "") _ refl

-- -p -g -l
-- byte x; active proctype A() { if :: x == 1 :: else -> x = 5 fi } active proctype B() { x = 1 }
tokens-else-beside-plain : List Word
tokens-else-beside-plain =
    on 1 kind.Byte "byte" ∷ on 1 kind.Name "x" ∷ on 1 kind.Semicolon ";" ∷ on 1 kind.Active "active" ∷
    on 1 kind.Proctype "proctype" ∷ on 1 kind.Name "A" ∷ on 1 kind.OpenParen "(" ∷ on 1 kind.CloseParen ")" ∷
    on 1 kind.OpenBrace "{" ∷ on 1 kind.If "if" ∷ on 1 kind.DoubleColon "::" ∷ on 1 kind.Name "x" ∷ on 1 kind.Equal "==" ∷
    on 1 kind.Number "1" ∷ on 1 kind.DoubleColon "::" ∷ on 1 kind.Else "else" ∷ on 1 kind.Arrow "->" ∷ on 1 kind.Name "x" ∷
    on 1 kind.Assign "=" ∷ on 1 kind.Number "5" ∷ on 1 kind.Fi "fi" ∷ on 1 kind.CloseBrace "}" ∷ on 1 kind.Active "active" ∷
    on 1 kind.Proctype "proctype" ∷ on 1 kind.Name "B" ∷ on 1 kind.OpenParen "(" ∷ on 1 kind.CloseParen ")" ∷
    on 1 kind.OpenBrace "{" ∷ on 1 kind.Name "x" ∷ on 1 kind.Assign "=" ∷ on 1 kind.Number "1" ∷ on 1 kind.CloseBrace "}" ∷ []

model-else-beside-plain : Program
unfolding tokens-else-beside-plain
model-else-beside-plain =
    let at : ℕ → Word = token_at tokens-else-beside-plain in
    let part : ℕ → ℕ → List Word = tokens_between tokens-else-beside-plain in
    record {
      globals = (slot (at 1) byte false 0 1 1 initial.Zero ∷ []);
      constants = [];
      typedefs = [];
      proctypes = (
          process (at 5) 2 1 0 [] (
          if_fi (part 9 21) (
          (plain (part 11 14) (holds (expr.Binary op.Equal (read (global 0 byte)) (number 1))) ∷ []) ∷
          (plain (part 15 16) action.Else ∷
          plain (part 17 20) (assign (global 0 byte) (number 5)) ∷ []) ∷ []) ∷ []) (at 21) ∷
          process (at 24) 3 1 0 [] (
          plain (part 28 31) (assign (global 0 byte) (number 1)) ∷ []) (at 31) ∷ []);
    }

row-else-beside-plain : seen (options true true true 200) model-else-beside-plain (codes "2\n1\n1\n")
    ≡ Some (whole (text (
    "choice 1: proc 0 (A) line 1 [else]\n" ∷
    "choice 2: proc 1 (B) line 1 [x = 1]\n" ∷
    "choose 1..2\n" ∷
    "step 1: proc 1 (B) line 1 [x = 1]\n" ∷
    "global x = 1\n" ∷
    "choice 1: proc 0 (A) line 1 [x == 1]\n" ∷
    "choice 2: proc 1 (B) line 1 [-end-]\n" ∷
    "choose 1..2\n" ∷
    "step 2: proc 0 (A) line 1 [x == 1]\n" ∷
    "step 3: proc 1 (B) line 1 [-end-]\n" ∷
    "step 4: proc 0 (A) line 1 [-end-]\n" ∷
    "end: valid, steps 4\n" ∷
    [])) (codes "2\n1\n") 0 4)
unfolding computes model-else-beside-plain
row-else-beside-plain = sees (options true true true 200) model-else-beside-plain (codes "2\n1\n1\n") _ refl

-- -p -g -l
-- byte x; init { { x = 1 } unless { if :: x == 3 :: else -> x = 7 fi } }
tokens-unless-else : List Word
tokens-unless-else =
    on 1 kind.Byte "byte" ∷ on 1 kind.Name "x" ∷ on 1 kind.Semicolon ";" ∷ on 1 kind.Init "init" ∷ on 1 kind.OpenBrace "{" ∷
    on 1 kind.OpenBrace "{" ∷ on 1 kind.Name "x" ∷ on 1 kind.Assign "=" ∷ on 1 kind.Number "1" ∷ on 1 kind.CloseBrace "}" ∷
    on 1 kind.Unless "unless" ∷ on 1 kind.OpenBrace "{" ∷ on 1 kind.If "if" ∷ on 1 kind.DoubleColon "::" ∷ on 1 kind.Name "x" ∷
    on 1 kind.Equal "==" ∷ on 1 kind.Number "3" ∷ on 1 kind.DoubleColon "::" ∷ on 1 kind.Else "else" ∷ on 1 kind.Arrow "->" ∷
    on 1 kind.Name "x" ∷ on 1 kind.Assign "=" ∷ on 1 kind.Number "7" ∷ on 1 kind.Fi "fi" ∷ on 1 kind.CloseBrace "}" ∷
    on 1 kind.CloseBrace "}" ∷ []

model-unless-else : Program
unfolding tokens-unless-else
model-unless-else =
    let at : ℕ → Word = token_at tokens-unless-else in
    let part : ℕ → ℕ → List Word = tokens_between tokens-unless-else in
    record {
      globals = (slot (at 1) byte false 0 1 1 initial.Zero ∷ []);
      constants = [];
      typedefs = [];
      proctypes = (
          process (at 3) 2 1 0 [] (
          unless (part 5 25) (
          block (part 5 10) (
          plain (part 6 9) (assign (global 0 byte) (number 1)) ∷ []) ∷ []) (
          block (part 11 25) (
          if_fi (part 12 24) (
          (plain (part 14 17) (holds (expr.Binary op.Equal (read (global 0 byte)) (number 3))) ∷ []) ∷
          (plain (part 18 19) action.Else ∷
          plain (part 20 23) (assign (global 0 byte) (number 7)) ∷ []) ∷ []) ∷ []) ∷ []) ∷ []) (at 25) ∷ []);
    }

row-unless-else : seen (options true true true 200) model-unless-else (codes "")
    ≡ Some (whole (text (
    "step 1: proc 0 (:init:) line 1 [else]\n" ∷
    "step 2: proc 0 (:init:) line 1 [x = 7]\n" ∷
    "global x = 7\n" ∷
    "step 3: proc 0 (:init:) line 1 [-end-]\n" ∷
    "end: valid, steps 3\n" ∷
    [])) (codes "") 0 0)
unfolding computes model-unless-else
row-unless-else = sees (options true true true 200) model-unless-else (codes "") _ refl

-- -p
-- byte x; init { { x = 1; x = 2 } unless { x == 1 -> x = 5 } }
tokens-escape-taken : List Word
tokens-escape-taken =
    on 1 kind.Byte "byte" ∷ on 1 kind.Name "x" ∷ on 1 kind.Semicolon ";" ∷ on 1 kind.Init "init" ∷ on 1 kind.OpenBrace "{" ∷
    on 1 kind.OpenBrace "{" ∷ on 1 kind.Name "x" ∷ on 1 kind.Assign "=" ∷ on 1 kind.Number "1" ∷ on 1 kind.Semicolon ";" ∷
    on 1 kind.Name "x" ∷ on 1 kind.Assign "=" ∷ on 1 kind.Number "2" ∷ on 1 kind.CloseBrace "}" ∷ on 1 kind.Unless "unless" ∷
    on 1 kind.OpenBrace "{" ∷ on 1 kind.Name "x" ∷ on 1 kind.Equal "==" ∷ on 1 kind.Number "1" ∷ on 1 kind.Arrow "->" ∷
    on 1 kind.Name "x" ∷ on 1 kind.Assign "=" ∷ on 1 kind.Number "5" ∷ on 1 kind.CloseBrace "}" ∷ on 1 kind.CloseBrace "}" ∷ []

model-escape-taken : Program
unfolding tokens-escape-taken
model-escape-taken =
    let at : ℕ → Word = token_at tokens-escape-taken in
    let part : ℕ → ℕ → List Word = tokens_between tokens-escape-taken in
    record {
      globals = (slot (at 1) byte false 0 1 1 initial.Zero ∷ []);
      constants = [];
      typedefs = [];
      proctypes = (
          process (at 3) 2 1 0 [] (
          unless (part 5 24) (
          block (part 5 14) (
          plain (part 6 9) (assign (global 0 byte) (number 1)) ∷
          plain (part 10 13) (assign (global 0 byte) (number 2)) ∷ []) ∷ []) (
          block (part 15 24) (
          plain (part 16 19) (holds (expr.Binary op.Equal (read (global 0 byte)) (number 1))) ∷
          plain (part 20 23) (assign (global 0 byte) (number 5)) ∷ []) ∷ []) ∷ []) (at 24) ∷ []);
    }

row-escape-taken : seen (options true false false 1000) model-escape-taken (codes "")
    ≡ Some (whole (text (
    "step 1: proc 0 (:init:) line 1 [x = 1]\n" ∷
    "step 2: proc 0 (:init:) line 1 [x == 1]\n" ∷
    "step 3: proc 0 (:init:) line 1 [x = 5]\n" ∷
    "step 4: proc 0 (:init:) line 1 [-end-]\n" ∷
    "end: valid, steps 4\n" ∷
    [])) (codes "") 0 0)
unfolding computes model-escape-taken
row-escape-taken = sees (options true false false 1000) model-escape-taken (codes "") _ refl

-- -p
-- byte x; init { { { x = 1 } unless { x = 2 } } unless { x = 3 } }
tokens-nested-escapes : List Word
tokens-nested-escapes =
    on 1 kind.Byte "byte" ∷ on 1 kind.Name "x" ∷ on 1 kind.Semicolon ";" ∷ on 1 kind.Init "init" ∷ on 1 kind.OpenBrace "{" ∷
    on 1 kind.OpenBrace "{" ∷ on 1 kind.OpenBrace "{" ∷ on 1 kind.Name "x" ∷ on 1 kind.Assign "=" ∷ on 1 kind.Number "1" ∷
    on 1 kind.CloseBrace "}" ∷ on 1 kind.Unless "unless" ∷ on 1 kind.OpenBrace "{" ∷ on 1 kind.Name "x" ∷ on 1 kind.Assign "=" ∷
    on 1 kind.Number "2" ∷ on 1 kind.CloseBrace "}" ∷ on 1 kind.CloseBrace "}" ∷ on 1 kind.Unless "unless" ∷
    on 1 kind.OpenBrace "{" ∷ on 1 kind.Name "x" ∷ on 1 kind.Assign "=" ∷ on 1 kind.Number "3" ∷ on 1 kind.CloseBrace "}" ∷
    on 1 kind.CloseBrace "}" ∷ []

model-nested-escapes : Program
unfolding tokens-nested-escapes
model-nested-escapes =
    let at : ℕ → Word = token_at tokens-nested-escapes in
    let part : ℕ → ℕ → List Word = tokens_between tokens-nested-escapes in
    record {
      globals = (slot (at 1) byte false 0 1 1 initial.Zero ∷ []);
      constants = [];
      typedefs = [];
      proctypes = (
          process (at 3) 2 1 0 [] (
          unless (part 5 24) (
          block (part 5 18) (
          unless (part 6 17) (
          block (part 6 11) (
          plain (part 7 10) (assign (global 0 byte) (number 1)) ∷ []) ∷ []) (
          block (part 12 17) (
          plain (part 13 16) (assign (global 0 byte) (number 2)) ∷ []) ∷ []) ∷ []) ∷ []) (
          block (part 19 24) (
          plain (part 20 23) (assign (global 0 byte) (number 3)) ∷ []) ∷ []) ∷ []) (at 24) ∷ []);
    }

row-nested-escapes : seen (options true false false 1000) model-nested-escapes (codes "")
    ≡ Some (whole (text (
    "step 1: proc 0 (:init:) line 1 [x = 3]\n" ∷
    "step 2: proc 0 (:init:) line 1 [-end-]\n" ∷
    "end: valid, steps 2\n" ∷
    [])) (codes "") 0 0)
unfolding computes model-nested-escapes
row-nested-escapes = sees (options true false false 1000) model-nested-escapes (codes "") _ refl

-- -p -g -l
-- byte x; init { { { x = 1; x = 2 } unless { x == 1 -> x = 4 } } unless { x == 4 -> x = 9 } }
tokens-inner-escape : List Word
tokens-inner-escape =
    on 1 kind.Byte "byte" ∷ on 1 kind.Name "x" ∷ on 1 kind.Semicolon ";" ∷ on 1 kind.Init "init" ∷ on 1 kind.OpenBrace "{" ∷
    on 1 kind.OpenBrace "{" ∷ on 1 kind.OpenBrace "{" ∷ on 1 kind.Name "x" ∷ on 1 kind.Assign "=" ∷ on 1 kind.Number "1" ∷
    on 1 kind.Semicolon ";" ∷ on 1 kind.Name "x" ∷ on 1 kind.Assign "=" ∷ on 1 kind.Number "2" ∷ on 1 kind.CloseBrace "}" ∷
    on 1 kind.Unless "unless" ∷ on 1 kind.OpenBrace "{" ∷ on 1 kind.Name "x" ∷ on 1 kind.Equal "==" ∷ on 1 kind.Number "1" ∷
    on 1 kind.Arrow "->" ∷ on 1 kind.Name "x" ∷ on 1 kind.Assign "=" ∷ on 1 kind.Number "4" ∷ on 1 kind.CloseBrace "}" ∷
    on 1 kind.CloseBrace "}" ∷ on 1 kind.Unless "unless" ∷ on 1 kind.OpenBrace "{" ∷ on 1 kind.Name "x" ∷ on 1 kind.Equal "==" ∷
    on 1 kind.Number "4" ∷ on 1 kind.Arrow "->" ∷ on 1 kind.Name "x" ∷ on 1 kind.Assign "=" ∷ on 1 kind.Number "9" ∷
    on 1 kind.CloseBrace "}" ∷ on 1 kind.CloseBrace "}" ∷ []

model-inner-escape : Program
unfolding tokens-inner-escape
model-inner-escape =
    let at : ℕ → Word = token_at tokens-inner-escape in
    let part : ℕ → ℕ → List Word = tokens_between tokens-inner-escape in
    record {
      globals = (slot (at 1) byte false 0 1 1 initial.Zero ∷ []);
      constants = [];
      typedefs = [];
      proctypes = (
          process (at 3) 2 1 0 [] (
          unless (part 5 36) (
          block (part 5 26) (
          unless (part 6 25) (
          block (part 6 15) (
          plain (part 7 10) (assign (global 0 byte) (number 1)) ∷
          plain (part 11 14) (assign (global 0 byte) (number 2)) ∷ []) ∷ []) (
          block (part 16 25) (
          plain (part 17 20) (holds (expr.Binary op.Equal (read (global 0 byte)) (number 1))) ∷
          plain (part 21 24) (assign (global 0 byte) (number 4)) ∷ []) ∷ []) ∷ []) ∷ []) (
          block (part 27 36) (
          plain (part 28 31) (holds (expr.Binary op.Equal (read (global 0 byte)) (number 4))) ∷
          plain (part 32 35) (assign (global 0 byte) (number 9)) ∷ []) ∷ []) ∷ []) (at 36) ∷ []);
    }

row-inner-escape : seen (options true true true 200) model-inner-escape (codes "")
    ≡ Some (whole (text (
    "step 1: proc 0 (:init:) line 1 [x = 1]\n" ∷
    "global x = 1\n" ∷
    "step 2: proc 0 (:init:) line 1 [x == 1]\n" ∷
    "step 3: proc 0 (:init:) line 1 [x = 4]\n" ∷
    "global x = 4\n" ∷
    "step 4: proc 0 (:init:) line 1 [-end-]\n" ∷
    "end: valid, steps 4\n" ∷
    [])) (codes "") 0 0)
unfolding computes model-inner-escape
row-inner-escape = sees (options true true true 200) model-inner-escape (codes "") _ refl
