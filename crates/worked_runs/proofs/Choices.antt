-- Runs: lines of choices, and ends. `tools/model-data` made the data of their models.
use Rattle.std.proofs.Common.{◌≡◌, ℕ, List, [], ◌∷◌, true, false, refl, Some}
use Rattle.std.specs.Prelude.{codes}
use Rattle.pml_token.specs.Word.{Word}
use Rattle.pml_tree.specs.declared.tree.Search.TheVariants.{First}
use Rattle.pml_tree.specs.declared.tree.Removal.TheVariants.{Remove}
use Rattle.pml_program.specs.declared.program.Program.{Program}
use Rattle.worked_runs.specs.Seen.{seen}
use Rattle.worked_runs.proofs.Models.{on, token_at, tokens_between, byte, chan, slot, global, number, read, assign, holds, plain, labelled, if_fi, do_od, process, options, text, whole}
use Rattle.worked_runs.proofs.Same.{computes, sees}
use Rattle.pml_token.specs.declared.token.Kind.TheVariants as kind
use Rattle.pml_tree.specs.declared.tree.Infix.TheVariants as op
use Rattle.pml_program.specs.declared.expr.Expr.TheVariants as expr
use Rattle.pml_program.specs.declared.expr.Want.TheVariants as want
use Rattle.pml_program.specs.declared.program.Initial.TheVariants as initial
use Rattle.pml_program.specs.declared.program.Action.TheVariants as action

-- -p
-- init { skip }
tokens-one-process : List Word
tokens-one-process =
    on 1 kind.Init "init" ∷ on 1 kind.OpenBrace "{" ∷ on 1 kind.Skip "skip" ∷ on 1 kind.CloseBrace "}" ∷ []

model-one-process : Program
unfolding tokens-one-process
model-one-process =
    let at : ℕ → Word = token_at tokens-one-process in
    let part : ℕ → ℕ → List Word = tokens_between tokens-one-process in
    record {
      globals = [];
      constants = [];
      typedefs = [];
      proctypes = (
          process (at 0) 1 1 0 [] (
          plain (part 2 3) (holds (number 1)) ∷ []) (at 3) ∷ []);
    }

row-one-process : seen (options true false false 1000) model-one-process (codes "5\n")
    ≡ Some (whole (text (
    "step 1: proc 0 (:init:) line 1 [skip]\n" ∷
    "step 2: proc 0 (:init:) line 1 [-end-]\n" ∷
    "end: valid, steps 2\n" ∷
    [])) (codes "") 0 0)
unfolding computes model-one-process
row-one-process = sees (options true false false 1000) model-one-process (codes "5\n") _ refl

-- -p
-- byte x = 254, y;
-- active proctype A() { x = x + 3; y--; x == 1; skip -> x = x - y }
tokens-first-path : List Word
tokens-first-path =
    on 1 kind.Byte "byte" ∷ on 1 kind.Name "x" ∷ on 1 kind.Assign "=" ∷ on 1 kind.Number "254" ∷ on 1 kind.Comma "," ∷
    on 1 kind.Name "y" ∷ on 1 kind.Semicolon ";" ∷ on 2 kind.Active "active" ∷ on 2 kind.Proctype "proctype" ∷ on 2 kind.Name "A" ∷
    on 2 kind.OpenParen "(" ∷ on 2 kind.CloseParen ")" ∷ on 2 kind.OpenBrace "{" ∷ on 2 kind.Name "x" ∷ on 2 kind.Assign "=" ∷
    on 2 kind.Name "x" ∷ on 2 kind.Plus "+" ∷ on 2 kind.Number "3" ∷ on 2 kind.Semicolon ";" ∷ on 2 kind.Name "y" ∷
    on 2 kind.Decrement "--" ∷ on 2 kind.Semicolon ";" ∷ on 2 kind.Name "x" ∷ on 2 kind.Equal "==" ∷ on 2 kind.Number "1" ∷
    on 2 kind.Semicolon ";" ∷ on 2 kind.Skip "skip" ∷ on 2 kind.Arrow "->" ∷ on 2 kind.Name "x" ∷ on 2 kind.Assign "=" ∷
    on 2 kind.Name "x" ∷ on 2 kind.Minus "-" ∷ on 2 kind.Name "y" ∷ on 2 kind.CloseBrace "}" ∷ []

model-first-path : Program
unfolding tokens-first-path
model-first-path =
    let at : ℕ → Word = token_at tokens-first-path in
    let part : ℕ → ℕ → List Word = tokens_between tokens-first-path in
    record {
      globals = (slot (at 1) byte false 0 1 1 (initial.Value (number 254)) ∷ slot (at 5) byte false 1 1 1 initial.Zero ∷ []);
      constants = [];
      typedefs = [];
      proctypes = (
          process (at 9) 2 1 0 [] (
          plain (part 13 18) (assign (global 0 byte) (expr.Binary op.Plus (read (global 0 byte)) (number 3))) ∷
          plain (part 19 21) (action.Decrement (global 1 byte)) ∷
          plain (part 22 25) (holds (expr.Binary op.Equal (read (global 0 byte)) (number 1))) ∷
          plain (part 26 27) (holds (number 1)) ∷
          plain (part 28 33) (assign (global 0 byte) (expr.Binary op.Minus (read (global 0 byte)) (read (global 1 byte)))) ∷ []) (at 33) ∷ []);
    }

row-first-path : seen (options true false false 1000) model-first-path (codes "")
    ≡ Some (whole (text (
    "step 1: proc 0 (A) line 2 [x = x + 3]\n" ∷
    "step 2: proc 0 (A) line 2 [y --]\n" ∷
    "step 3: proc 0 (A) line 2 [x == 1]\n" ∷
    "step 4: proc 0 (A) line 2 [skip]\n" ∷
    "step 5: proc 0 (A) line 2 [x = x - y]\n" ∷
    "step 6: proc 0 (A) line 2 [-end-]\n" ∷
    "end: valid, steps 6\n" ∷
    [])) (codes "") 0 0)
unfolding computes model-first-path
row-first-path = sees (options true false false 1000) model-first-path (codes "") _ refl

-- -p
-- byte x, y;
-- active proctype A() { x = 1 }
-- active proctype B() { y = 2 }
tokens-two-writers : List Word
tokens-two-writers =
    on 1 kind.Byte "byte" ∷ on 1 kind.Name "x" ∷ on 1 kind.Comma "," ∷ on 1 kind.Name "y" ∷ on 1 kind.Semicolon ";" ∷
    on 2 kind.Active "active" ∷ on 2 kind.Proctype "proctype" ∷ on 2 kind.Name "A" ∷ on 2 kind.OpenParen "(" ∷
    on 2 kind.CloseParen ")" ∷ on 2 kind.OpenBrace "{" ∷ on 2 kind.Name "x" ∷ on 2 kind.Assign "=" ∷ on 2 kind.Number "1" ∷
    on 2 kind.CloseBrace "}" ∷ on 3 kind.Active "active" ∷ on 3 kind.Proctype "proctype" ∷ on 3 kind.Name "B" ∷
    on 3 kind.OpenParen "(" ∷ on 3 kind.CloseParen ")" ∷ on 3 kind.OpenBrace "{" ∷ on 3 kind.Name "y" ∷ on 3 kind.Assign "=" ∷
    on 3 kind.Number "2" ∷ on 3 kind.CloseBrace "}" ∷ []

model-two-writers : Program
unfolding tokens-two-writers
model-two-writers =
    let at : ℕ → Word = token_at tokens-two-writers in
    let part : ℕ → ℕ → List Word = tokens_between tokens-two-writers in
    record {
      globals = (slot (at 1) byte false 0 1 1 initial.Zero ∷ slot (at 3) byte false 1 1 1 initial.Zero ∷ []);
      constants = [];
      typedefs = [];
      proctypes = (
          process (at 7) 2 1 0 [] (
          plain (part 11 14) (assign (global 0 byte) (number 1)) ∷ []) (at 14) ∷
          process (at 17) 3 1 0 [] (
          plain (part 21 24) (assign (global 1 byte) (number 2)) ∷ []) (at 24) ∷ []);
    }

row-two-writers : seen (options true false false 1000) model-two-writers (codes "2\n1\n")
    ≡ Some (whole (text (
    "choice 1: proc 0 (A) line 2 [x = 1]\n" ∷
    "choice 2: proc 1 (B) line 3 [y = 2]\n" ∷
    "choose 1..2\n" ∷
    "step 1: proc 1 (B) line 3 [y = 2]\n" ∷
    "choice 1: proc 0 (A) line 2 [x = 1]\n" ∷
    "choice 2: proc 1 (B) line 3 [-end-]\n" ∷
    "choose 1..2\n" ∷
    "step 2: proc 0 (A) line 2 [x = 1]\n" ∷
    "step 3: proc 1 (B) line 3 [-end-]\n" ∷
    "step 4: proc 0 (A) line 2 [-end-]\n" ∷
    "end: valid, steps 4\n" ∷
    [])) (codes "2\n1\n") 0 4)
unfolding computes model-two-writers
row-two-writers = sees (options true false false 1000) model-two-writers (codes "2\n1\n") _ refl

-- -p
-- byte x, y;
-- active proctype A() { x = 1 }
-- active proctype B() { y = 2 }
tokens-word-among-choices : List Word
tokens-word-among-choices =
    on 1 kind.Byte "byte" ∷ on 1 kind.Name "x" ∷ on 1 kind.Comma "," ∷ on 1 kind.Name "y" ∷ on 1 kind.Semicolon ";" ∷
    on 2 kind.Active "active" ∷ on 2 kind.Proctype "proctype" ∷ on 2 kind.Name "A" ∷ on 2 kind.OpenParen "(" ∷
    on 2 kind.CloseParen ")" ∷ on 2 kind.OpenBrace "{" ∷ on 2 kind.Name "x" ∷ on 2 kind.Assign "=" ∷ on 2 kind.Number "1" ∷
    on 2 kind.CloseBrace "}" ∷ on 3 kind.Active "active" ∷ on 3 kind.Proctype "proctype" ∷ on 3 kind.Name "B" ∷
    on 3 kind.OpenParen "(" ∷ on 3 kind.CloseParen ")" ∷ on 3 kind.OpenBrace "{" ∷ on 3 kind.Name "y" ∷ on 3 kind.Assign "=" ∷
    on 3 kind.Number "2" ∷ on 3 kind.CloseBrace "}" ∷ []

model-word-among-choices : Program
unfolding tokens-word-among-choices
model-word-among-choices =
    let at : ℕ → Word = token_at tokens-word-among-choices in
    let part : ℕ → ℕ → List Word = tokens_between tokens-word-among-choices in
    record {
      globals = (slot (at 1) byte false 0 1 1 initial.Zero ∷ slot (at 3) byte false 1 1 1 initial.Zero ∷ []);
      constants = [];
      typedefs = [];
      proctypes = (
          process (at 7) 2 1 0 [] (
          plain (part 11 14) (assign (global 0 byte) (number 1)) ∷ []) (at 14) ∷
          process (at 17) 3 1 0 [] (
          plain (part 21 24) (assign (global 1 byte) (number 2)) ∷ []) (at 24) ∷ []);
    }

row-word-among-choices : seen (options true false false 1000) model-word-among-choices (codes "choices 2\n2\n1\n")
    ≡ Some (whole (text (
    "choice 1: proc 0 (A) line 2 [x = 1]\n" ∷
    "choice 2: proc 1 (B) line 3 [y = 2]\n" ∷
    "choose 1..2\n" ∷
    "stop: choice misfit, steps 0\n" ∷
    [])) (codes "") 5 12)
unfolding computes model-word-among-choices
row-word-among-choices = sees (options true false false 1000) model-word-among-choices (codes "choices 2\n2\n1\n") _ refl

-- -g
-- byte x; init { if :: x = 1 :: x = 2 fi }
tokens-bad-lines : List Word
tokens-bad-lines =
    on 1 kind.Byte "byte" ∷ on 1 kind.Name "x" ∷ on 1 kind.Semicolon ";" ∷ on 1 kind.Init "init" ∷ on 1 kind.OpenBrace "{" ∷
    on 1 kind.If "if" ∷ on 1 kind.DoubleColon "::" ∷ on 1 kind.Name "x" ∷ on 1 kind.Assign "=" ∷ on 1 kind.Number "1" ∷
    on 1 kind.DoubleColon "::" ∷ on 1 kind.Name "x" ∷ on 1 kind.Assign "=" ∷ on 1 kind.Number "2" ∷ on 1 kind.Fi "fi" ∷
    on 1 kind.CloseBrace "}" ∷ []

model-bad-lines : Program
unfolding tokens-bad-lines
model-bad-lines =
    let at : ℕ → Word = token_at tokens-bad-lines in
    let part : ℕ → ℕ → List Word = tokens_between tokens-bad-lines in
    record {
      globals = (slot (at 1) byte false 0 1 1 initial.Zero ∷ []);
      constants = [];
      typedefs = [];
      proctypes = (
          process (at 3) 2 1 0 [] (
          if_fi (part 5 15) (
          (plain (part 7 10) (assign (global 0 byte) (number 1)) ∷ []) ∷
          (plain (part 11 14) (assign (global 0 byte) (number 2)) ∷ []) ∷ []) ∷ []) (at 15) ∷ []);
    }

row-bad-lines : seen (options false true false 1000) model-bad-lines (codes "0\n3\nx\n\n2\n")
    ≡ Some (whole (text (
    "choice 1: proc 0 (:init:) line 1 [x = 1]\n" ∷
    "choice 2: proc 0 (:init:) line 1 [x = 2]\n" ∷
    "choose 1..2\n" ∷
    "bad choice\n" ∷
    "choose 1..2\n" ∷
    "bad choice\n" ∷
    "choose 1..2\n" ∷
    "bad choice\n" ∷
    "choose 1..2\n" ∷
    "bad choice\n" ∷
    "choose 1..2\n" ∷
    "global x = 2\n" ∷
    "end: valid, steps 2\n" ∷
    [])) (codes "2\n") 0 9)
unfolding computes model-bad-lines
row-bad-lines = sees (options false true false 1000) model-bad-lines (codes "0\n3\nx\n\n2\n") _ refl

-- -g
-- byte x; init { if :: x = 1 :: x = 2 fi }
tokens-last-line-without-feed : List Word
tokens-last-line-without-feed =
    on 1 kind.Byte "byte" ∷ on 1 kind.Name "x" ∷ on 1 kind.Semicolon ";" ∷ on 1 kind.Init "init" ∷ on 1 kind.OpenBrace "{" ∷
    on 1 kind.If "if" ∷ on 1 kind.DoubleColon "::" ∷ on 1 kind.Name "x" ∷ on 1 kind.Assign "=" ∷ on 1 kind.Number "1" ∷
    on 1 kind.DoubleColon "::" ∷ on 1 kind.Name "x" ∷ on 1 kind.Assign "=" ∷ on 1 kind.Number "2" ∷ on 1 kind.Fi "fi" ∷
    on 1 kind.CloseBrace "}" ∷ []

model-last-line-without-feed : Program
unfolding tokens-last-line-without-feed
model-last-line-without-feed =
    let at : ℕ → Word = token_at tokens-last-line-without-feed in
    let part : ℕ → ℕ → List Word = tokens_between tokens-last-line-without-feed in
    record {
      globals = (slot (at 1) byte false 0 1 1 initial.Zero ∷ []);
      constants = [];
      typedefs = [];
      proctypes = (
          process (at 3) 2 1 0 [] (
          if_fi (part 5 15) (
          (plain (part 7 10) (assign (global 0 byte) (number 1)) ∷ []) ∷
          (plain (part 11 14) (assign (global 0 byte) (number 2)) ∷ []) ∷ []) ∷ []) (at 15) ∷ []);
    }

row-last-line-without-feed : seen (options false true false 1000) model-last-line-without-feed (codes "0\n3\nx\n\n2")
    ≡ Some (whole (text (
    "choice 1: proc 0 (:init:) line 1 [x = 1]\n" ∷
    "choice 2: proc 0 (:init:) line 1 [x = 2]\n" ∷
    "choose 1..2\n" ∷
    "bad choice\n" ∷
    "choose 1..2\n" ∷
    "bad choice\n" ∷
    "choose 1..2\n" ∷
    "bad choice\n" ∷
    "choose 1..2\n" ∷
    "bad choice\n" ∷
    "choose 1..2\n" ∷
    "global x = 2\n" ∷
    "end: valid, steps 2\n" ∷
    [])) (codes "2\n") 0 8)
unfolding computes model-last-line-without-feed
row-last-line-without-feed = sees (options false true false 1000) model-last-line-without-feed (codes "0\n3\nx\n\n2") _ refl

-- -g
-- byte x; init { if :: x = 1 :: x = 2 fi }
tokens-bad-lines-and-the-end : List Word
tokens-bad-lines-and-the-end =
    on 1 kind.Byte "byte" ∷ on 1 kind.Name "x" ∷ on 1 kind.Semicolon ";" ∷ on 1 kind.Init "init" ∷ on 1 kind.OpenBrace "{" ∷
    on 1 kind.If "if" ∷ on 1 kind.DoubleColon "::" ∷ on 1 kind.Name "x" ∷ on 1 kind.Assign "=" ∷ on 1 kind.Number "1" ∷
    on 1 kind.DoubleColon "::" ∷ on 1 kind.Name "x" ∷ on 1 kind.Assign "=" ∷ on 1 kind.Number "2" ∷ on 1 kind.Fi "fi" ∷
    on 1 kind.CloseBrace "}" ∷ []

model-bad-lines-and-the-end : Program
unfolding tokens-bad-lines-and-the-end
model-bad-lines-and-the-end =
    let at : ℕ → Word = token_at tokens-bad-lines-and-the-end in
    let part : ℕ → ℕ → List Word = tokens_between tokens-bad-lines-and-the-end in
    record {
      globals = (slot (at 1) byte false 0 1 1 initial.Zero ∷ []);
      constants = [];
      typedefs = [];
      proctypes = (
          process (at 3) 2 1 0 [] (
          if_fi (part 5 15) (
          (plain (part 7 10) (assign (global 0 byte) (number 1)) ∷ []) ∷
          (plain (part 11 14) (assign (global 0 byte) (number 2)) ∷ []) ∷ []) ∷ []) (at 15) ∷ []);
    }

row-bad-lines-and-the-end : seen (options false true false 1000) model-bad-lines-and-the-end (codes "0\n3\nx\n\n")
    ≡ Some (whole (text (
    "choice 1: proc 0 (:init:) line 1 [x = 1]\n" ∷
    "choice 2: proc 0 (:init:) line 1 [x = 2]\n" ∷
    "choose 1..2\n" ∷
    "bad choice\n" ∷
    "choose 1..2\n" ∷
    "bad choice\n" ∷
    "choose 1..2\n" ∷
    "bad choice\n" ∷
    "choose 1..2\n" ∷
    "bad choice\n" ∷
    "choose 1..2\n" ∷
    "stop: choices ended, steps 0\n" ∷
    [])) (codes "") 5 7)
unfolding computes model-bad-lines-and-the-end
row-bad-lines-and-the-end = sees (options false true false 1000) model-bad-lines-and-the-end (codes "0\n3\nx\n\n") _ refl

-- -g
-- byte x; init { do :: x = 1 :: x = 2 od }
tokens-choices-end : List Word
tokens-choices-end =
    on 1 kind.Byte "byte" ∷ on 1 kind.Name "x" ∷ on 1 kind.Semicolon ";" ∷ on 1 kind.Init "init" ∷ on 1 kind.OpenBrace "{" ∷
    on 1 kind.Do "do" ∷ on 1 kind.DoubleColon "::" ∷ on 1 kind.Name "x" ∷ on 1 kind.Assign "=" ∷ on 1 kind.Number "1" ∷
    on 1 kind.DoubleColon "::" ∷ on 1 kind.Name "x" ∷ on 1 kind.Assign "=" ∷ on 1 kind.Number "2" ∷ on 1 kind.Od "od" ∷
    on 1 kind.CloseBrace "}" ∷ []

model-choices-end : Program
unfolding tokens-choices-end
model-choices-end =
    let at : ℕ → Word = token_at tokens-choices-end in
    let part : ℕ → ℕ → List Word = tokens_between tokens-choices-end in
    record {
      globals = (slot (at 1) byte false 0 1 1 initial.Zero ∷ []);
      constants = [];
      typedefs = [];
      proctypes = (
          process (at 3) 2 1 0 [] (
          do_od (part 5 15) (
          (plain (part 7 10) (assign (global 0 byte) (number 1)) ∷ []) ∷
          (plain (part 11 14) (assign (global 0 byte) (number 2)) ∷ []) ∷ []) ∷ []) (at 15) ∷ []);
    }

row-choices-end : seen (options false true false 1000) model-choices-end (codes "1")
    ≡ Some (whole (text (
    "choice 1: proc 0 (:init:) line 1 [x = 1]\n" ∷
    "choice 2: proc 0 (:init:) line 1 [x = 2]\n" ∷
    "choose 1..2\n" ∷
    "global x = 1\n" ∷
    "choice 1: proc 0 (:init:) line 1 [x = 1]\n" ∷
    "choice 2: proc 0 (:init:) line 1 [x = 2]\n" ∷
    "choose 1..2\n" ∷
    "stop: choices ended, steps 1\n" ∷
    [])) (codes "1\n") 5 1)
unfolding computes model-choices-end
row-choices-end = sees (options false true false 1000) model-choices-end (codes "1") _ refl

-- no options
-- byte x; init { do :: x = 1 :: x = 2 od }
tokens-line-too-long : List Word
tokens-line-too-long =
    on 1 kind.Byte "byte" ∷ on 1 kind.Name "x" ∷ on 1 kind.Semicolon ";" ∷ on 1 kind.Init "init" ∷ on 1 kind.OpenBrace "{" ∷
    on 1 kind.Do "do" ∷ on 1 kind.DoubleColon "::" ∷ on 1 kind.Name "x" ∷ on 1 kind.Assign "=" ∷ on 1 kind.Number "1" ∷
    on 1 kind.DoubleColon "::" ∷ on 1 kind.Name "x" ∷ on 1 kind.Assign "=" ∷ on 1 kind.Number "2" ∷ on 1 kind.Od "od" ∷
    on 1 kind.CloseBrace "}" ∷ []

model-line-too-long : Program
unfolding tokens-line-too-long
model-line-too-long =
    let at : ℕ → Word = token_at tokens-line-too-long in
    let part : ℕ → ℕ → List Word = tokens_between tokens-line-too-long in
    record {
      globals = (slot (at 1) byte false 0 1 1 initial.Zero ∷ []);
      constants = [];
      typedefs = [];
      proctypes = (
          process (at 3) 2 1 0 [] (
          do_od (part 5 15) (
          (plain (part 7 10) (assign (global 0 byte) (number 1)) ∷ []) ∷
          (plain (part 11 14) (assign (global 0 byte) (number 2)) ∷ []) ∷ []) ∷ []) (at 15) ∷ []);
    }

row-line-too-long : seen (options false false false 1000) model-line-too-long (text
    ("11111111111111111111111111111111111111111111111111" ∷ "1111111111111111111111111111111" ∷ []))
    ≡ Some (whole (text (
    "choice 1: proc 0 (:init:) line 1 [x = 1]\n" ∷
    "choice 2: proc 0 (:init:) line 1 [x = 2]\n" ∷
    "choose 1..2\n" ∷
    "stop: line too long, steps 0\n" ∷
    [])) (codes "") 5 81)
unfolding computes model-line-too-long
row-line-too-long = sees (options false false false 1000) model-line-too-long (text
    ("11111111111111111111111111111111111111111111111111" ∷ "1111111111111111111111111111111" ∷ [])) _ refl

-- no options
-- byte x; init { do :: x = 1 :: x = 2 od }
tokens-line-far-too-long : List Word
tokens-line-far-too-long =
    on 1 kind.Byte "byte" ∷ on 1 kind.Name "x" ∷ on 1 kind.Semicolon ";" ∷ on 1 kind.Init "init" ∷ on 1 kind.OpenBrace "{" ∷
    on 1 kind.Do "do" ∷ on 1 kind.DoubleColon "::" ∷ on 1 kind.Name "x" ∷ on 1 kind.Assign "=" ∷ on 1 kind.Number "1" ∷
    on 1 kind.DoubleColon "::" ∷ on 1 kind.Name "x" ∷ on 1 kind.Assign "=" ∷ on 1 kind.Number "2" ∷ on 1 kind.Od "od" ∷
    on 1 kind.CloseBrace "}" ∷ []

model-line-far-too-long : Program
unfolding tokens-line-far-too-long
model-line-far-too-long =
    let at : ℕ → Word = token_at tokens-line-far-too-long in
    let part : ℕ → ℕ → List Word = tokens_between tokens-line-far-too-long in
    record {
      globals = (slot (at 1) byte false 0 1 1 initial.Zero ∷ []);
      constants = [];
      typedefs = [];
      proctypes = (
          process (at 3) 2 1 0 [] (
          do_od (part 5 15) (
          (plain (part 7 10) (assign (global 0 byte) (number 1)) ∷ []) ∷
          (plain (part 11 14) (assign (global 0 byte) (number 2)) ∷ []) ∷ []) ∷ []) (at 15) ∷ []);
    }

row-line-far-too-long : seen (options false false false 1000) model-line-far-too-long (text
    ("11111111111111111111111111111111111111111111111111" ∷ "11111111111111111111111111111111111111111111111111" ∷
    "11111111111111111111111111111111111111111111111111" ∷ "11111111111111111111111111111111111111111111111111" ∷ "\n" ∷ []))
    ≡ Some (whole (text (
    "choice 1: proc 0 (:init:) line 1 [x = 1]\n" ∷
    "choice 2: proc 0 (:init:) line 1 [x = 2]\n" ∷
    "choose 1..2\n" ∷
    "stop: line too long, steps 0\n" ∷
    [])) (codes "") 5 81)
unfolding computes model-line-far-too-long
row-line-far-too-long = sees (options false false false 1000) model-line-far-too-long (text
    ("11111111111111111111111111111111111111111111111111" ∷ "11111111111111111111111111111111111111111111111111" ∷
    "11111111111111111111111111111111111111111111111111" ∷ "11111111111111111111111111111111111111111111111111" ∷ "\n" ∷ [])) _ refl

-- no options
-- byte x; init { do :: x = 1 :: x = 2 od }
tokens-line-of-80-bytes : List Word
tokens-line-of-80-bytes =
    on 1 kind.Byte "byte" ∷ on 1 kind.Name "x" ∷ on 1 kind.Semicolon ";" ∷ on 1 kind.Init "init" ∷ on 1 kind.OpenBrace "{" ∷
    on 1 kind.Do "do" ∷ on 1 kind.DoubleColon "::" ∷ on 1 kind.Name "x" ∷ on 1 kind.Assign "=" ∷ on 1 kind.Number "1" ∷
    on 1 kind.DoubleColon "::" ∷ on 1 kind.Name "x" ∷ on 1 kind.Assign "=" ∷ on 1 kind.Number "2" ∷ on 1 kind.Od "od" ∷
    on 1 kind.CloseBrace "}" ∷ []

model-line-of-80-bytes : Program
unfolding tokens-line-of-80-bytes
model-line-of-80-bytes =
    let at : ℕ → Word = token_at tokens-line-of-80-bytes in
    let part : ℕ → ℕ → List Word = tokens_between tokens-line-of-80-bytes in
    record {
      globals = (slot (at 1) byte false 0 1 1 initial.Zero ∷ []);
      constants = [];
      typedefs = [];
      proctypes = (
          process (at 3) 2 1 0 [] (
          do_od (part 5 15) (
          (plain (part 7 10) (assign (global 0 byte) (number 1)) ∷ []) ∷
          (plain (part 11 14) (assign (global 0 byte) (number 2)) ∷ []) ∷ []) ∷ []) (at 15) ∷ []);
    }

row-line-of-80-bytes : seen (options false false false 1000) model-line-of-80-bytes (text
    ("00000000000000000000000000000000000000000000000000" ∷ "000000000000000000000000000001\n" ∷ []))
    ≡ Some (whole (text (
    "choice 1: proc 0 (:init:) line 1 [x = 1]\n" ∷
    "choice 2: proc 0 (:init:) line 1 [x = 2]\n" ∷
    "choose 1..2\n" ∷
    "choice 1: proc 0 (:init:) line 1 [x = 1]\n" ∷
    "choice 2: proc 0 (:init:) line 1 [x = 2]\n" ∷
    "choose 1..2\n" ∷
    "stop: choices ended, steps 1\n" ∷
    [])) (codes "1\n") 5 81)
unfolding computes model-line-of-80-bytes
row-line-of-80-bytes = sees (options false false false 1000) model-line-of-80-bytes (text
    ("00000000000000000000000000000000000000000000000000" ∷ "000000000000000000000000000001\n" ∷ [])) _ refl

-- no options
-- byte x; init { do :: x = 1 :: x = 2 od }
tokens-quit : List Word
tokens-quit =
    on 1 kind.Byte "byte" ∷ on 1 kind.Name "x" ∷ on 1 kind.Semicolon ";" ∷ on 1 kind.Init "init" ∷ on 1 kind.OpenBrace "{" ∷
    on 1 kind.Do "do" ∷ on 1 kind.DoubleColon "::" ∷ on 1 kind.Name "x" ∷ on 1 kind.Assign "=" ∷ on 1 kind.Number "1" ∷
    on 1 kind.DoubleColon "::" ∷ on 1 kind.Name "x" ∷ on 1 kind.Assign "=" ∷ on 1 kind.Number "2" ∷ on 1 kind.Od "od" ∷
    on 1 kind.CloseBrace "}" ∷ []

model-quit : Program
unfolding tokens-quit
model-quit =
    let at : ℕ → Word = token_at tokens-quit in
    let part : ℕ → ℕ → List Word = tokens_between tokens-quit in
    record {
      globals = (slot (at 1) byte false 0 1 1 initial.Zero ∷ []);
      constants = [];
      typedefs = [];
      proctypes = (
          process (at 3) 2 1 0 [] (
          do_od (part 5 15) (
          (plain (part 7 10) (assign (global 0 byte) (number 1)) ∷ []) ∷
          (plain (part 11 14) (assign (global 0 byte) (number 2)) ∷ []) ∷ []) ∷ []) (at 15) ∷ []);
    }

row-quit : seen (options false false false 1000) model-quit (codes "q\n")
    ≡ Some (whole (text (
    "choice 1: proc 0 (:init:) line 1 [x = 1]\n" ∷
    "choice 2: proc 0 (:init:) line 1 [x = 2]\n" ∷
    "choose 1..2\n" ∷
    "end: quit, steps 0\n" ∷
    [])) (codes "") 0 2)
unfolding computes model-quit
row-quit = sees (options false false false 1000) model-quit (codes "q\n") _ refl

-- -p -u3
-- init { do :: skip od }
tokens-step-limit : List Word
tokens-step-limit =
    on 1 kind.Init "init" ∷ on 1 kind.OpenBrace "{" ∷ on 1 kind.Do "do" ∷ on 1 kind.DoubleColon "::" ∷ on 1 kind.Skip "skip" ∷
    on 1 kind.Od "od" ∷ on 1 kind.CloseBrace "}" ∷ []

model-step-limit : Program
unfolding tokens-step-limit
model-step-limit =
    let at : ℕ → Word = token_at tokens-step-limit in
    let part : ℕ → ℕ → List Word = tokens_between tokens-step-limit in
    record {
      globals = [];
      constants = [];
      typedefs = [];
      proctypes = (
          process (at 0) 1 1 0 [] (
          do_od (part 2 6) (
          (plain (part 4 5) (holds (number 1)) ∷ []) ∷ []) ∷ []) (at 6) ∷ []);
    }

row-step-limit : seen (options true false false 3) model-step-limit (codes "")
    ≡ Some (whole (text (
    "step 1: proc 0 (:init:) line 1 [skip]\n" ∷
    "step 2: proc 0 (:init:) line 1 [skip]\n" ∷
    "step 3: proc 0 (:init:) line 1 [skip]\n" ∷
    "stop: step limit, steps 3\n" ∷
    [])) (codes "") 5 0)
unfolding computes model-step-limit
row-step-limit = sees (options true false false 3) model-step-limit (codes "") _ refl

-- no options
-- byte x; active proctype A() { x == 1 }
tokens-invalid-end : List Word
tokens-invalid-end =
    on 1 kind.Byte "byte" ∷ on 1 kind.Name "x" ∷ on 1 kind.Semicolon ";" ∷ on 1 kind.Active "active" ∷
    on 1 kind.Proctype "proctype" ∷ on 1 kind.Name "A" ∷ on 1 kind.OpenParen "(" ∷ on 1 kind.CloseParen ")" ∷
    on 1 kind.OpenBrace "{" ∷ on 1 kind.Name "x" ∷ on 1 kind.Equal "==" ∷ on 1 kind.Number "1" ∷ on 1 kind.CloseBrace "}" ∷ []

model-invalid-end : Program
unfolding tokens-invalid-end
model-invalid-end =
    let at : ℕ → Word = token_at tokens-invalid-end in
    let part : ℕ → ℕ → List Word = tokens_between tokens-invalid-end in
    record {
      globals = (slot (at 1) byte false 0 1 1 initial.Zero ∷ []);
      constants = [];
      typedefs = [];
      proctypes = (
          process (at 5) 2 1 0 [] (
          plain (part 9 12) (holds (expr.Binary op.Equal (read (global 0 byte)) (number 1))) ∷ []) (at 12) ∷ []);
    }

row-invalid-end : seen (options false false false 1000) model-invalid-end (codes "")
    ≡ Some (whole (text (
    "end: invalid, steps 0\n" ∷
    "at: proc 0 (A) line 1\n" ∷
    [])) (codes "") 1 0)
unfolding computes model-invalid-end
row-invalid-end = sees (options false false false 1000) model-invalid-end (codes "") _ refl

-- no options
-- chan q = [1] of { byte }; byte x; init { do :: q?x od }
tokens-blocked : List Word
tokens-blocked =
    on 1 kind.Chan "chan" ∷ on 1 kind.Name "q" ∷ on 1 kind.Assign "=" ∷ on 1 kind.OpenBracket "[" ∷ on 1 kind.Number "1" ∷
    on 1 kind.CloseBracket "]" ∷ on 1 kind.Of "of" ∷ on 1 kind.OpenBrace "{" ∷ on 1 kind.Byte "byte" ∷ on 1 kind.CloseBrace "}" ∷
    on 1 kind.Semicolon ";" ∷ on 1 kind.Byte "byte" ∷ on 1 kind.Name "x" ∷ on 1 kind.Semicolon ";" ∷ on 1 kind.Init "init" ∷
    on 1 kind.OpenBrace "{" ∷ on 1 kind.Do "do" ∷ on 1 kind.DoubleColon "::" ∷ on 1 kind.Name "q" ∷ on 1 kind.Query "?" ∷
    on 1 kind.Name "x" ∷ on 1 kind.Od "od" ∷ on 1 kind.CloseBrace "}" ∷ []

model-blocked : Program
unfolding tokens-blocked
model-blocked =
    let at : ℕ → Word = token_at tokens-blocked in
    let part : ℕ → ℕ → List Word = tokens_between tokens-blocked in
    record {
      globals = (slot (at 1) chan false 0 1 1 (initial.Channel 1 (byte ∷ [])) ∷ slot (at 12) byte false 1 1 1 initial.Zero ∷ []);
      constants = [];
      typedefs = [];
      proctypes = (
          process (at 14) 3 1 0 [] (
          do_od (part 16 22) (
          (plain (part 18 21) (action.Receive (global 0 chan) First Remove (want.Into (global 1 byte) ∷ [])) ∷ []) ∷ []) ∷ []) (at 22) ∷ []);
    }

row-blocked : seen (options false false false 1000) model-blocked (codes "")
    ≡ Some (whole (text (
    "end: invalid, steps 0\n" ∷
    "at: proc 0 (:init:) line 1\n" ∷
    [])) (codes "") 1 0)
unfolding computes model-blocked
row-blocked = sees (options false false false 1000) model-blocked (codes "") _ refl

-- no options
-- chan q = [1] of { byte }; byte x; init { end: do :: q?x od }
tokens-blocked-at-end-label : List Word
tokens-blocked-at-end-label =
    on 1 kind.Chan "chan" ∷ on 1 kind.Name "q" ∷ on 1 kind.Assign "=" ∷ on 1 kind.OpenBracket "[" ∷ on 1 kind.Number "1" ∷
    on 1 kind.CloseBracket "]" ∷ on 1 kind.Of "of" ∷ on 1 kind.OpenBrace "{" ∷ on 1 kind.Byte "byte" ∷ on 1 kind.CloseBrace "}" ∷
    on 1 kind.Semicolon ";" ∷ on 1 kind.Byte "byte" ∷ on 1 kind.Name "x" ∷ on 1 kind.Semicolon ";" ∷ on 1 kind.Init "init" ∷
    on 1 kind.OpenBrace "{" ∷ on 1 kind.Name "end" ∷ on 1 kind.Colon ":" ∷ on 1 kind.Do "do" ∷ on 1 kind.DoubleColon "::" ∷
    on 1 kind.Name "q" ∷ on 1 kind.Query "?" ∷ on 1 kind.Name "x" ∷ on 1 kind.Od "od" ∷ on 1 kind.CloseBrace "}" ∷ []

model-blocked-at-end-label : Program
unfolding tokens-blocked-at-end-label
model-blocked-at-end-label =
    let at : ℕ → Word = token_at tokens-blocked-at-end-label in
    let part : ℕ → ℕ → List Word = tokens_between tokens-blocked-at-end-label in
    record {
      globals = (slot (at 1) chan false 0 1 1 (initial.Channel 1 (byte ∷ [])) ∷ slot (at 12) byte false 1 1 1 initial.Zero ∷ []);
      constants = [];
      typedefs = [];
      proctypes = (
          process (at 14) 3 1 0 [] (
          labelled ((at 16) ∷ []) (do_od (part 18 24) (
          (plain (part 20 23) (action.Receive (global 0 chan) First Remove (want.Into (global 1 byte) ∷ [])) ∷ []) ∷ [])) ∷ []) (at 24) ∷ []);
    }

row-blocked-at-end-label : seen (options false false false 1000) model-blocked-at-end-label (codes "")
    ≡ Some (whole (text ("end: valid, steps 0\n" ∷ [])) (codes "") 0 0)
unfolding computes model-blocked-at-end-label
row-blocked-at-end-label = sees (options false false false 1000) model-blocked-at-end-label (codes "") _ refl
