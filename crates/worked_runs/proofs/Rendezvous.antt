-- Runs: rendezvous. `tools/model-data` made the data of their models.
use Rattle.std.proofs.Common.{◌≡◌, ℕ, List, [], ◌∷◌, true, false, refl, Some}
use Rattle.std.specs.Prelude.{codes, pos}
use Rattle.pml_token.specs.Word.{Word}
use Rattle.pml_tree.specs.declared.tree.Search.TheVariants.{First}
use Rattle.pml_tree.specs.declared.tree.Removal.TheVariants.{Remove}
use Rattle.pml_tree.specs.declared.tree.SendOrder.TheVariants.{Fifo}
use Rattle.pml_program.specs.declared.program.Program.{Program}
use Rattle.worked_runs.specs.Seen.{seen}
use Rattle.worked_runs.proofs.Models.{on, token_at, tokens_between, byte, chan, slot, local, global, number, read, assign, holds, plain, block, atomic, if_fi, unless, process, options, text, whole}
use Rattle.worked_runs.proofs.Same.{computes, sees}
use Rattle.pml_token.specs.declared.token.Kind.TheVariants as kind
use Rattle.pml_tree.specs.declared.tree.Infix.TheVariants as op
use Rattle.pml_program.specs.declared.expr.Expr.TheVariants as expr
use Rattle.pml_program.specs.declared.expr.Want.TheVariants as want
use Rattle.pml_program.specs.declared.program.Initial.TheVariants as initial
use Rattle.pml_program.specs.declared.program.Action.TheVariants as action

-- -p
-- chan q = [0] of { byte };
-- active proctype S() { q!1 }
-- active proctype R() { byte x; if :: q?x :: else fi }
tokens-else-beside-rendezvous : List Word
tokens-else-beside-rendezvous =
    on 1 kind.Chan "chan" ∷ on 1 kind.Name "q" ∷ on 1 kind.Assign "=" ∷ on 1 kind.OpenBracket "[" ∷ on 1 kind.Number "0" ∷
    on 1 kind.CloseBracket "]" ∷ on 1 kind.Of "of" ∷ on 1 kind.OpenBrace "{" ∷ on 1 kind.Byte "byte" ∷ on 1 kind.CloseBrace "}" ∷
    on 1 kind.Semicolon ";" ∷ on 2 kind.Active "active" ∷ on 2 kind.Proctype "proctype" ∷ on 2 kind.Name "S" ∷
    on 2 kind.OpenParen "(" ∷ on 2 kind.CloseParen ")" ∷ on 2 kind.OpenBrace "{" ∷ on 2 kind.Name "q" ∷ on 2 kind.Bang "!" ∷
    on 2 kind.Number "1" ∷ on 2 kind.CloseBrace "}" ∷ on 3 kind.Active "active" ∷ on 3 kind.Proctype "proctype" ∷
    on 3 kind.Name "R" ∷ on 3 kind.OpenParen "(" ∷ on 3 kind.CloseParen ")" ∷ on 3 kind.OpenBrace "{" ∷ on 3 kind.Byte "byte" ∷
    on 3 kind.Name "x" ∷ on 3 kind.Semicolon ";" ∷ on 3 kind.If "if" ∷ on 3 kind.DoubleColon "::" ∷ on 3 kind.Name "q" ∷
    on 3 kind.Query "?" ∷ on 3 kind.Name "x" ∷ on 3 kind.DoubleColon "::" ∷ on 3 kind.Else "else" ∷ on 3 kind.Fi "fi" ∷
    on 3 kind.CloseBrace "}" ∷ []

model-else-beside-rendezvous : Program
unfolding tokens-else-beside-rendezvous
model-else-beside-rendezvous =
    let at : ℕ → Word = token_at tokens-else-beside-rendezvous in
    let part : ℕ → ℕ → List Word = tokens_between tokens-else-beside-rendezvous in
    record {
      globals = (slot (at 1) chan false 0 1 1 (initial.Channel 0 (byte ∷ [])) ∷ []);
      constants = [];
      typedefs = [];
      proctypes = (
          process (at 13) 2 1 0 [] (
          plain (part 17 20) (action.Send (global 0 chan) Fifo ((number 1) ∷ [])) ∷ []) (at 20) ∷
          process (at 23) 3 1 0 (slot (at 28) byte false 0 1 1 initial.Zero ∷ []) (
          if_fi (part 30 38) (
          (plain (part 32 35) (action.Receive (global 0 chan) First Remove (want.Into (local 0 byte) ∷ [])) ∷ []) ∷
          (plain (part 36 37) action.Else ∷ []) ∷ []) ∷ []) (at 38) ∷ []);
    }

row-else-beside-rendezvous : seen (options true false false 1000) model-else-beside-rendezvous (codes "2\n")
    ≡ Some (whole (text (
    "choice 1: proc 0 (S) line 2 [q ! 1] -> proc 1 (R) line 3 [q ? x]\n" ∷
    "choice 2: proc 1 (R) line 3 [else]\n" ∷
    "choose 1..2\n" ∷
    "step 1: proc 1 (R) line 3 [else]\n" ∷
    "step 2: proc 1 (R) line 3 [-end-]\n" ∷
    "end: invalid, steps 2\n" ∷
    "at: proc 0 (S) line 2\n" ∷
    [])) (codes "2\n") 1 2)
unfolding computes model-else-beside-rendezvous
row-else-beside-rendezvous = sees (options true false false 1000) model-else-beside-rendezvous (codes "2\n") _ refl

-- -p
-- chan q = [0] of { byte }; byte x, y;
-- active proctype A() { atomic { q!1; x = 2 } }
-- active proctype B() { atomic { q?y; y = 3 } }
tokens-atomic-passed-on : List Word
tokens-atomic-passed-on =
    on 1 kind.Chan "chan" ∷ on 1 kind.Name "q" ∷ on 1 kind.Assign "=" ∷ on 1 kind.OpenBracket "[" ∷ on 1 kind.Number "0" ∷
    on 1 kind.CloseBracket "]" ∷ on 1 kind.Of "of" ∷ on 1 kind.OpenBrace "{" ∷ on 1 kind.Byte "byte" ∷ on 1 kind.CloseBrace "}" ∷
    on 1 kind.Semicolon ";" ∷ on 1 kind.Byte "byte" ∷ on 1 kind.Name "x" ∷ on 1 kind.Comma "," ∷ on 1 kind.Name "y" ∷
    on 1 kind.Semicolon ";" ∷ on 2 kind.Active "active" ∷ on 2 kind.Proctype "proctype" ∷ on 2 kind.Name "A" ∷
    on 2 kind.OpenParen "(" ∷ on 2 kind.CloseParen ")" ∷ on 2 kind.OpenBrace "{" ∷ on 2 kind.Atomic "atomic" ∷
    on 2 kind.OpenBrace "{" ∷ on 2 kind.Name "q" ∷ on 2 kind.Bang "!" ∷ on 2 kind.Number "1" ∷ on 2 kind.Semicolon ";" ∷
    on 2 kind.Name "x" ∷ on 2 kind.Assign "=" ∷ on 2 kind.Number "2" ∷ on 2 kind.CloseBrace "}" ∷ on 2 kind.CloseBrace "}" ∷
    on 3 kind.Active "active" ∷ on 3 kind.Proctype "proctype" ∷ on 3 kind.Name "B" ∷ on 3 kind.OpenParen "(" ∷
    on 3 kind.CloseParen ")" ∷ on 3 kind.OpenBrace "{" ∷ on 3 kind.Atomic "atomic" ∷ on 3 kind.OpenBrace "{" ∷ on 3 kind.Name "q" ∷
    on 3 kind.Query "?" ∷ on 3 kind.Name "y" ∷ on 3 kind.Semicolon ";" ∷ on 3 kind.Name "y" ∷ on 3 kind.Assign "=" ∷
    on 3 kind.Number "3" ∷ on 3 kind.CloseBrace "}" ∷ on 3 kind.CloseBrace "}" ∷ []

model-atomic-passed-on : Program
unfolding tokens-atomic-passed-on
model-atomic-passed-on =
    let at : ℕ → Word = token_at tokens-atomic-passed-on in
    let part : ℕ → ℕ → List Word = tokens_between tokens-atomic-passed-on in
    record {
      globals = (slot (at 1) chan false 0 1 1 (initial.Channel 0 (byte ∷ [])) ∷ slot (at 12) byte false 1 1 1 initial.Zero ∷ slot (at
          14) byte false 2 1 1 initial.Zero ∷ []);
      constants = [];
      typedefs = [];
      proctypes = (
          process (at 18) 3 1 0 [] (
          atomic (part 22 32) (
          plain (part 24 27) (action.Send (global 0 chan) Fifo ((number 1) ∷ [])) ∷
          plain (part 28 31) (assign (global 1 byte) (number 2)) ∷ []) ∷ []) (at 32) ∷
          process (at 35) 4 1 0 [] (
          atomic (part 39 49) (
          plain (part 41 44) (action.Receive (global 0 chan) First Remove (want.Into (global 2 byte) ∷ [])) ∷
          plain (part 45 48) (assign (global 2 byte) (number 3)) ∷ []) ∷ []) (at 49) ∷ []);
    }

row-atomic-passed-on : seen (options true false false 1000) model-atomic-passed-on (codes "1\n")
    ≡ Some (whole (text (
    "step 1: proc 0 (A) line 2 [q ! 1] -> proc 1 (B) line 3 [q ? y]\n" ∷
    "step 2: proc 1 (B) line 3 [y = 3]\n" ∷
    "choice 1: proc 0 (A) line 2 [x = 2]\n" ∷
    "choice 2: proc 1 (B) line 3 [-end-]\n" ∷
    "choose 1..2\n" ∷
    "step 3: proc 0 (A) line 2 [x = 2]\n" ∷
    "step 4: proc 1 (B) line 3 [-end-]\n" ∷
    "step 5: proc 0 (A) line 2 [-end-]\n" ∷
    "end: valid, steps 5\n" ∷
    [])) (codes "1\n") 0 2)
unfolding computes model-atomic-passed-on
row-atomic-passed-on = sees (options true false false 1000) model-atomic-passed-on (codes "1\n") _ refl

-- no options
-- chan a = [0] of { byte }; chan b = [0] of { byte };
-- active proctype P() { { a!1 } unless { b?_ } }
-- active proctype Q() { { b!1 } unless { a?_ } }
tokens-pairs-across-unless : List Word
tokens-pairs-across-unless =
    on 1 kind.Chan "chan" ∷ on 1 kind.Name "a" ∷ on 1 kind.Assign "=" ∷ on 1 kind.OpenBracket "[" ∷ on 1 kind.Number "0" ∷
    on 1 kind.CloseBracket "]" ∷ on 1 kind.Of "of" ∷ on 1 kind.OpenBrace "{" ∷ on 1 kind.Byte "byte" ∷ on 1 kind.CloseBrace "}" ∷
    on 1 kind.Semicolon ";" ∷ on 1 kind.Chan "chan" ∷ on 1 kind.Name "b" ∷ on 1 kind.Assign "=" ∷ on 1 kind.OpenBracket "[" ∷
    on 1 kind.Number "0" ∷ on 1 kind.CloseBracket "]" ∷ on 1 kind.Of "of" ∷ on 1 kind.OpenBrace "{" ∷ on 1 kind.Byte "byte" ∷
    on 1 kind.CloseBrace "}" ∷ on 1 kind.Semicolon ";" ∷ on 2 kind.Active "active" ∷ on 2 kind.Proctype "proctype" ∷
    on 2 kind.Name "P" ∷ on 2 kind.OpenParen "(" ∷ on 2 kind.CloseParen ")" ∷ on 2 kind.OpenBrace "{" ∷ on 2 kind.OpenBrace "{" ∷
    on 2 kind.Name "a" ∷ on 2 kind.Bang "!" ∷ on 2 kind.Number "1" ∷ on 2 kind.CloseBrace "}" ∷ on 2 kind.Unless "unless" ∷
    on 2 kind.OpenBrace "{" ∷ on 2 kind.Name "b" ∷ on 2 kind.Query "?" ∷ on 2 kind.Name "_" ∷ on 2 kind.CloseBrace "}" ∷
    on 2 kind.CloseBrace "}" ∷ on 3 kind.Active "active" ∷ on 3 kind.Proctype "proctype" ∷ on 3 kind.Name "Q" ∷
    on 3 kind.OpenParen "(" ∷ on 3 kind.CloseParen ")" ∷ on 3 kind.OpenBrace "{" ∷ on 3 kind.OpenBrace "{" ∷ on 3 kind.Name "b" ∷
    on 3 kind.Bang "!" ∷ on 3 kind.Number "1" ∷ on 3 kind.CloseBrace "}" ∷ on 3 kind.Unless "unless" ∷ on 3 kind.OpenBrace "{" ∷
    on 3 kind.Name "a" ∷ on 3 kind.Query "?" ∷ on 3 kind.Name "_" ∷ on 3 kind.CloseBrace "}" ∷ on 3 kind.CloseBrace "}" ∷ []

model-pairs-across-unless : Program
unfolding tokens-pairs-across-unless
model-pairs-across-unless =
    let at : ℕ → Word = token_at tokens-pairs-across-unless in
    let part : ℕ → ℕ → List Word = tokens_between tokens-pairs-across-unless in
    record {
      globals = (slot (at 1) chan false 0 1 1 (initial.Channel 0 (byte ∷ [])) ∷ slot (at 12) chan false 1 1 1 (initial.Channel 0 (byte
          ∷ [])) ∷ []);
      constants = [];
      typedefs = [];
      proctypes = (
          process (at 24) 3 1 0 [] (
          unless (part 28 39) (
          block (part 28 33) (
          plain (part 29 32) (action.Send (global 0 chan) Fifo ((number 1) ∷ [])) ∷ []) ∷ []) (
          block (part 34 39) (
          plain (part 35 38) (action.Receive (global 1 chan) First Remove (want.Anything ∷ [])) ∷ []) ∷ []) ∷ []) (at 39) ∷
          process (at 42) 4 1 0 [] (
          unless (part 46 57) (
          block (part 46 51) (
          plain (part 47 50) (action.Send (global 1 chan) Fifo ((number 1) ∷ [])) ∷ []) ∷ []) (
          block (part 52 57) (
          plain (part 53 56) (action.Receive (global 0 chan) First Remove (want.Anything ∷ [])) ∷ []) ∷ []) ∷ []) (at 57) ∷ []);
    }

row-pairs-across-unless : seen (options false false false 1000) model-pairs-across-unless (codes "2\n")
    ≡ Some (whole (text (
    "choice 1: proc 0 (P) line 2 [a ! 1] -> proc 1 (Q) line 3 [a ? _]\n" ∷
    "choice 2: proc 1 (Q) line 3 [b ! 1] -> proc 0 (P) line 2 [b ? _]\n" ∷
    "choose 1..2\n" ∷
    "end: valid, steps 3\n" ∷
    [])) (codes "2\n") 0 2)
unfolding computes model-pairs-across-unless
row-pairs-across-unless = sees (options false false false 1000) model-pairs-across-unless (codes "2\n") _ refl

-- -p -g -l
-- chan q = [0] of { byte }; byte x; active proctype S() { q!1 } active proctype R() { if :: q?x :: q?_ :: q?2 :: skip fi }
tokens-two-receives : List Word
tokens-two-receives =
    on 1 kind.Chan "chan" ∷ on 1 kind.Name "q" ∷ on 1 kind.Assign "=" ∷ on 1 kind.OpenBracket "[" ∷ on 1 kind.Number "0" ∷
    on 1 kind.CloseBracket "]" ∷ on 1 kind.Of "of" ∷ on 1 kind.OpenBrace "{" ∷ on 1 kind.Byte "byte" ∷ on 1 kind.CloseBrace "}" ∷
    on 1 kind.Semicolon ";" ∷ on 1 kind.Byte "byte" ∷ on 1 kind.Name "x" ∷ on 1 kind.Semicolon ";" ∷ on 1 kind.Active "active" ∷
    on 1 kind.Proctype "proctype" ∷ on 1 kind.Name "S" ∷ on 1 kind.OpenParen "(" ∷ on 1 kind.CloseParen ")" ∷
    on 1 kind.OpenBrace "{" ∷ on 1 kind.Name "q" ∷ on 1 kind.Bang "!" ∷ on 1 kind.Number "1" ∷ on 1 kind.CloseBrace "}" ∷
    on 1 kind.Active "active" ∷ on 1 kind.Proctype "proctype" ∷ on 1 kind.Name "R" ∷ on 1 kind.OpenParen "(" ∷
    on 1 kind.CloseParen ")" ∷ on 1 kind.OpenBrace "{" ∷ on 1 kind.If "if" ∷ on 1 kind.DoubleColon "::" ∷ on 1 kind.Name "q" ∷
    on 1 kind.Query "?" ∷ on 1 kind.Name "x" ∷ on 1 kind.DoubleColon "::" ∷ on 1 kind.Name "q" ∷ on 1 kind.Query "?" ∷
    on 1 kind.Name "_" ∷ on 1 kind.DoubleColon "::" ∷ on 1 kind.Name "q" ∷ on 1 kind.Query "?" ∷ on 1 kind.Number "2" ∷
    on 1 kind.DoubleColon "::" ∷ on 1 kind.Skip "skip" ∷ on 1 kind.Fi "fi" ∷ on 1 kind.CloseBrace "}" ∷ []

model-two-receives : Program
unfolding tokens-two-receives
model-two-receives =
    let at : ℕ → Word = token_at tokens-two-receives in
    let part : ℕ → ℕ → List Word = tokens_between tokens-two-receives in
    record {
      globals = (slot (at 1) chan false 0 1 1 (initial.Channel 0 (byte ∷ [])) ∷ slot (at 12) byte false 1 1 1 initial.Zero ∷ []);
      constants = [];
      typedefs = [];
      proctypes = (
          process (at 16) 3 1 0 [] (
          plain (part 20 23) (action.Send (global 0 chan) Fifo ((number 1) ∷ [])) ∷ []) (at 23) ∷
          process (at 26) 4 1 0 [] (
          if_fi (part 30 46) (
          (plain (part 32 35) (action.Receive (global 0 chan) First Remove (want.Into (global 1 byte) ∷ [])) ∷ []) ∷
          (plain (part 36 39) (action.Receive (global 0 chan) First Remove (want.Anything ∷ [])) ∷ []) ∷
          (plain (part 40 43) (action.Receive (global 0 chan) First Remove (want.Exactly (pos 2) ∷ [])) ∷ []) ∷
          (plain (part 44 45) (holds (number 1)) ∷ []) ∷ []) ∷ []) (at 46) ∷ []);
    }

row-two-receives : seen (options true true true 200) model-two-receives (codes "2\n1\n")
    ≡ Some (whole (text (
    "choice 1: proc 0 (S) line 1 [q ! 1] -> proc 1 (R) line 1 [q ? x]\n" ∷
    "choice 2: proc 0 (S) line 1 [q ! 1] -> proc 1 (R) line 1 [q ? _]\n" ∷
    "choice 3: proc 1 (R) line 1 [skip]\n" ∷
    "choose 1..3\n" ∷
    "step 1: proc 0 (S) line 1 [q ! 1] -> proc 1 (R) line 1 [q ? _]\n" ∷
    "step 2: proc 1 (R) line 1 [-end-]\n" ∷
    "step 3: proc 0 (S) line 1 [-end-]\n" ∷
    "end: valid, steps 3\n" ∷
    [])) (codes "2\n") 0 2)
unfolding computes model-two-receives
row-two-receives = sees (options true true true 200) model-two-receives (codes "2\n1\n") _ refl

-- -p -g -l
-- chan q = [0] of { byte }; active proctype S() { q!1 } active proctype R() { byte x; { q?x } unless { q?2 } }
tokens-highest-matching-level : List Word
tokens-highest-matching-level =
    on 1 kind.Chan "chan" ∷ on 1 kind.Name "q" ∷ on 1 kind.Assign "=" ∷ on 1 kind.OpenBracket "[" ∷ on 1 kind.Number "0" ∷
    on 1 kind.CloseBracket "]" ∷ on 1 kind.Of "of" ∷ on 1 kind.OpenBrace "{" ∷ on 1 kind.Byte "byte" ∷ on 1 kind.CloseBrace "}" ∷
    on 1 kind.Semicolon ";" ∷ on 1 kind.Active "active" ∷ on 1 kind.Proctype "proctype" ∷ on 1 kind.Name "S" ∷
    on 1 kind.OpenParen "(" ∷ on 1 kind.CloseParen ")" ∷ on 1 kind.OpenBrace "{" ∷ on 1 kind.Name "q" ∷ on 1 kind.Bang "!" ∷
    on 1 kind.Number "1" ∷ on 1 kind.CloseBrace "}" ∷ on 1 kind.Active "active" ∷ on 1 kind.Proctype "proctype" ∷
    on 1 kind.Name "R" ∷ on 1 kind.OpenParen "(" ∷ on 1 kind.CloseParen ")" ∷ on 1 kind.OpenBrace "{" ∷ on 1 kind.Byte "byte" ∷
    on 1 kind.Name "x" ∷ on 1 kind.Semicolon ";" ∷ on 1 kind.OpenBrace "{" ∷ on 1 kind.Name "q" ∷ on 1 kind.Query "?" ∷
    on 1 kind.Name "x" ∷ on 1 kind.CloseBrace "}" ∷ on 1 kind.Unless "unless" ∷ on 1 kind.OpenBrace "{" ∷ on 1 kind.Name "q" ∷
    on 1 kind.Query "?" ∷ on 1 kind.Number "2" ∷ on 1 kind.CloseBrace "}" ∷ on 1 kind.CloseBrace "}" ∷ []

model-highest-matching-level : Program
unfolding tokens-highest-matching-level
model-highest-matching-level =
    let at : ℕ → Word = token_at tokens-highest-matching-level in
    let part : ℕ → ℕ → List Word = tokens_between tokens-highest-matching-level in
    record {
      globals = (slot (at 1) chan false 0 1 1 (initial.Channel 0 (byte ∷ [])) ∷ []);
      constants = [];
      typedefs = [];
      proctypes = (
          process (at 13) 2 1 0 [] (
          plain (part 17 20) (action.Send (global 0 chan) Fifo ((number 1) ∷ [])) ∷ []) (at 20) ∷
          process (at 23) 3 1 0 (slot (at 28) byte false 0 1 1 initial.Zero ∷ []) (
          unless (part 30 41) (
          block (part 30 35) (
          plain (part 31 34) (action.Receive (global 0 chan) First Remove (want.Into (local 0 byte) ∷ [])) ∷ []) ∷ []) (
          block (part 36 41) (
          plain (part 37 40) (action.Receive (global 0 chan) First Remove (want.Exactly (pos 2) ∷ [])) ∷ []) ∷ []) ∷ []) (at 41) ∷ []);
    }

row-highest-matching-level : seen (options true true true 200) model-highest-matching-level (codes "1\n1\n")
    ≡ Some (whole (text (
    "step 1: proc 0 (S) line 1 [q ! 1] -> proc 1 (R) line 1 [q ? x]\n" ∷
    "local 1 (R) x = 1\n" ∷
    "step 2: proc 1 (R) line 1 [-end-]\n" ∷
    "step 3: proc 0 (S) line 1 [-end-]\n" ∷
    "end: valid, steps 3\n" ∷
    [])) (codes "") 0 0)
unfolding computes model-highest-matching-level
row-highest-matching-level = sees (options true true true 200) model-highest-matching-level (codes "1\n1\n") _ refl

-- -p -g -l
-- chan q = [0] of { byte }; active proctype S() { q!2 } active proctype R() { byte x; { q?x } unless { q?2 } }
tokens-receive-above : List Word
tokens-receive-above =
    on 1 kind.Chan "chan" ∷ on 1 kind.Name "q" ∷ on 1 kind.Assign "=" ∷ on 1 kind.OpenBracket "[" ∷ on 1 kind.Number "0" ∷
    on 1 kind.CloseBracket "]" ∷ on 1 kind.Of "of" ∷ on 1 kind.OpenBrace "{" ∷ on 1 kind.Byte "byte" ∷ on 1 kind.CloseBrace "}" ∷
    on 1 kind.Semicolon ";" ∷ on 1 kind.Active "active" ∷ on 1 kind.Proctype "proctype" ∷ on 1 kind.Name "S" ∷
    on 1 kind.OpenParen "(" ∷ on 1 kind.CloseParen ")" ∷ on 1 kind.OpenBrace "{" ∷ on 1 kind.Name "q" ∷ on 1 kind.Bang "!" ∷
    on 1 kind.Number "2" ∷ on 1 kind.CloseBrace "}" ∷ on 1 kind.Active "active" ∷ on 1 kind.Proctype "proctype" ∷
    on 1 kind.Name "R" ∷ on 1 kind.OpenParen "(" ∷ on 1 kind.CloseParen ")" ∷ on 1 kind.OpenBrace "{" ∷ on 1 kind.Byte "byte" ∷
    on 1 kind.Name "x" ∷ on 1 kind.Semicolon ";" ∷ on 1 kind.OpenBrace "{" ∷ on 1 kind.Name "q" ∷ on 1 kind.Query "?" ∷
    on 1 kind.Name "x" ∷ on 1 kind.CloseBrace "}" ∷ on 1 kind.Unless "unless" ∷ on 1 kind.OpenBrace "{" ∷ on 1 kind.Name "q" ∷
    on 1 kind.Query "?" ∷ on 1 kind.Number "2" ∷ on 1 kind.CloseBrace "}" ∷ on 1 kind.CloseBrace "}" ∷ []

model-receive-above : Program
unfolding tokens-receive-above
model-receive-above =
    let at : ℕ → Word = token_at tokens-receive-above in
    let part : ℕ → ℕ → List Word = tokens_between tokens-receive-above in
    record {
      globals = (slot (at 1) chan false 0 1 1 (initial.Channel 0 (byte ∷ [])) ∷ []);
      constants = [];
      typedefs = [];
      proctypes = (
          process (at 13) 2 1 0 [] (
          plain (part 17 20) (action.Send (global 0 chan) Fifo ((number 2) ∷ [])) ∷ []) (at 20) ∷
          process (at 23) 3 1 0 (slot (at 28) byte false 0 1 1 initial.Zero ∷ []) (
          unless (part 30 41) (
          block (part 30 35) (
          plain (part 31 34) (action.Receive (global 0 chan) First Remove (want.Into (local 0 byte) ∷ [])) ∷ []) ∷ []) (
          block (part 36 41) (
          plain (part 37 40) (action.Receive (global 0 chan) First Remove (want.Exactly (pos 2) ∷ [])) ∷ []) ∷ []) ∷ []) (at 41) ∷ []);
    }

row-receive-above : seen (options true true true 200) model-receive-above (codes "1\n1\n")
    ≡ Some (whole (text (
    "step 1: proc 0 (S) line 1 [q ! 2] -> proc 1 (R) line 1 [q ? 2]\n" ∷
    "step 2: proc 1 (R) line 1 [-end-]\n" ∷
    "step 3: proc 0 (S) line 1 [-end-]\n" ∷
    "end: valid, steps 3\n" ∷
    [])) (codes "") 0 0)
unfolding computes model-receive-above
row-receive-above = sees (options true true true 200) model-receive-above (codes "1\n1\n") _ refl

-- -p -g -l
-- chan q = [0] of { byte }; byte x; active proctype S() { q!3 } active proctype R() { { q?x } unless { x == 0 } }
tokens-blocked-receiver-meets : List Word
tokens-blocked-receiver-meets =
    on 1 kind.Chan "chan" ∷ on 1 kind.Name "q" ∷ on 1 kind.Assign "=" ∷ on 1 kind.OpenBracket "[" ∷ on 1 kind.Number "0" ∷
    on 1 kind.CloseBracket "]" ∷ on 1 kind.Of "of" ∷ on 1 kind.OpenBrace "{" ∷ on 1 kind.Byte "byte" ∷ on 1 kind.CloseBrace "}" ∷
    on 1 kind.Semicolon ";" ∷ on 1 kind.Byte "byte" ∷ on 1 kind.Name "x" ∷ on 1 kind.Semicolon ";" ∷ on 1 kind.Active "active" ∷
    on 1 kind.Proctype "proctype" ∷ on 1 kind.Name "S" ∷ on 1 kind.OpenParen "(" ∷ on 1 kind.CloseParen ")" ∷
    on 1 kind.OpenBrace "{" ∷ on 1 kind.Name "q" ∷ on 1 kind.Bang "!" ∷ on 1 kind.Number "3" ∷ on 1 kind.CloseBrace "}" ∷
    on 1 kind.Active "active" ∷ on 1 kind.Proctype "proctype" ∷ on 1 kind.Name "R" ∷ on 1 kind.OpenParen "(" ∷
    on 1 kind.CloseParen ")" ∷ on 1 kind.OpenBrace "{" ∷ on 1 kind.OpenBrace "{" ∷ on 1 kind.Name "q" ∷ on 1 kind.Query "?" ∷
    on 1 kind.Name "x" ∷ on 1 kind.CloseBrace "}" ∷ on 1 kind.Unless "unless" ∷ on 1 kind.OpenBrace "{" ∷ on 1 kind.Name "x" ∷
    on 1 kind.Equal "==" ∷ on 1 kind.Number "0" ∷ on 1 kind.CloseBrace "}" ∷ on 1 kind.CloseBrace "}" ∷ []

model-blocked-receiver-meets : Program
unfolding tokens-blocked-receiver-meets
model-blocked-receiver-meets =
    let at : ℕ → Word = token_at tokens-blocked-receiver-meets in
    let part : ℕ → ℕ → List Word = tokens_between tokens-blocked-receiver-meets in
    record {
      globals = (slot (at 1) chan false 0 1 1 (initial.Channel 0 (byte ∷ [])) ∷ slot (at 12) byte false 1 1 1 initial.Zero ∷ []);
      constants = [];
      typedefs = [];
      proctypes = (
          process (at 16) 3 1 0 [] (
          plain (part 20 23) (action.Send (global 0 chan) Fifo ((number 3) ∷ [])) ∷ []) (at 23) ∷
          process (at 26) 4 1 0 [] (
          unless (part 30 41) (
          block (part 30 35) (
          plain (part 31 34) (action.Receive (global 0 chan) First Remove (want.Into (global 1 byte) ∷ [])) ∷ []) ∷ []) (
          block (part 36 41) (
          plain (part 37 40) (holds (expr.Binary op.Equal (read (global 1 byte)) (number 0))) ∷ []) ∷ []) ∷ []) (at 41) ∷ []);
    }

row-blocked-receiver-meets : seen (options true true true 200) model-blocked-receiver-meets (codes "1\n1\n1\n")
    ≡ Some (whole (text (
    "choice 1: proc 0 (S) line 1 [q ! 3] -> proc 1 (R) line 1 [q ? x]\n" ∷
    "choice 2: proc 1 (R) line 1 [x == 0]\n" ∷
    "choose 1..2\n" ∷
    "step 1: proc 0 (S) line 1 [q ! 3] -> proc 1 (R) line 1 [q ? x]\n" ∷
    "global x = 3\n" ∷
    "step 2: proc 1 (R) line 1 [-end-]\n" ∷
    "step 3: proc 0 (S) line 1 [-end-]\n" ∷
    "end: valid, steps 3\n" ∷
    [])) (codes "1\n") 0 2)
unfolding computes model-blocked-receiver-meets
row-blocked-receiver-meets = sees (options true true true 200) model-blocked-receiver-meets (codes "1\n1\n1\n") _ refl

-- -p -g -l
-- chan q = [0] of { byte }; byte z; active proctype S() { q!3 } active proctype R() { q?eval(1 / z) }
tokens-pattern-without-value : List Word
tokens-pattern-without-value =
    on 1 kind.Chan "chan" ∷ on 1 kind.Name "q" ∷ on 1 kind.Assign "=" ∷ on 1 kind.OpenBracket "[" ∷ on 1 kind.Number "0" ∷
    on 1 kind.CloseBracket "]" ∷ on 1 kind.Of "of" ∷ on 1 kind.OpenBrace "{" ∷ on 1 kind.Byte "byte" ∷ on 1 kind.CloseBrace "}" ∷
    on 1 kind.Semicolon ";" ∷ on 1 kind.Byte "byte" ∷ on 1 kind.Name "z" ∷ on 1 kind.Semicolon ";" ∷ on 1 kind.Active "active" ∷
    on 1 kind.Proctype "proctype" ∷ on 1 kind.Name "S" ∷ on 1 kind.OpenParen "(" ∷ on 1 kind.CloseParen ")" ∷
    on 1 kind.OpenBrace "{" ∷ on 1 kind.Name "q" ∷ on 1 kind.Bang "!" ∷ on 1 kind.Number "3" ∷ on 1 kind.CloseBrace "}" ∷
    on 1 kind.Active "active" ∷ on 1 kind.Proctype "proctype" ∷ on 1 kind.Name "R" ∷ on 1 kind.OpenParen "(" ∷
    on 1 kind.CloseParen ")" ∷ on 1 kind.OpenBrace "{" ∷ on 1 kind.Name "q" ∷ on 1 kind.Query "?" ∷ on 1 kind.Eval "eval" ∷
    on 1 kind.OpenParen "(" ∷ on 1 kind.Number "1" ∷ on 1 kind.Slash "/" ∷ on 1 kind.Name "z" ∷ on 1 kind.CloseParen ")" ∷
    on 1 kind.CloseBrace "}" ∷ []

model-pattern-without-value : Program
unfolding tokens-pattern-without-value
model-pattern-without-value =
    let at : ℕ → Word = token_at tokens-pattern-without-value in
    let part : ℕ → ℕ → List Word = tokens_between tokens-pattern-without-value in
    record {
      globals = (slot (at 1) chan false 0 1 1 (initial.Channel 0 (byte ∷ [])) ∷ slot (at 12) byte false 1 1 1 initial.Zero ∷ []);
      constants = [];
      typedefs = [];
      proctypes = (
          process (at 16) 3 1 0 [] (
          plain (part 20 23) (action.Send (global 0 chan) Fifo ((number 3) ∷ [])) ∷ []) (at 23) ∷
          process (at 26) 4 1 0 [] (
          plain (part 30 38) (action.Receive (global 0 chan) First Remove (want.Equal (expr.Binary op.Divide (number 1) (read (global 1
          byte))) ∷ [])) ∷ []) (at 38) ∷ []);
    }

row-pattern-without-value : seen (options true true true 200) model-pattern-without-value (codes "")
    ≡ Some (whole (text ("fault F2 (zero divisor): step 1: proc 0 (S) line 1 [q ! 3] -> proc 1 (R) line 1 [q ? eval ( 1 / z )]\n" ∷
    [])) (codes "") 2 0)
unfolding computes model-pattern-without-value
row-pattern-without-value = sees (options true true true 200) model-pattern-without-value (codes "") _ refl

-- -p -g -l
-- chan q = [0] of { byte }; byte z; active proctype S() { q!1 / z } active proctype R() { q?_ }
tokens-fields-without-value : List Word
tokens-fields-without-value =
    on 1 kind.Chan "chan" ∷ on 1 kind.Name "q" ∷ on 1 kind.Assign "=" ∷ on 1 kind.OpenBracket "[" ∷ on 1 kind.Number "0" ∷
    on 1 kind.CloseBracket "]" ∷ on 1 kind.Of "of" ∷ on 1 kind.OpenBrace "{" ∷ on 1 kind.Byte "byte" ∷ on 1 kind.CloseBrace "}" ∷
    on 1 kind.Semicolon ";" ∷ on 1 kind.Byte "byte" ∷ on 1 kind.Name "z" ∷ on 1 kind.Semicolon ";" ∷ on 1 kind.Active "active" ∷
    on 1 kind.Proctype "proctype" ∷ on 1 kind.Name "S" ∷ on 1 kind.OpenParen "(" ∷ on 1 kind.CloseParen ")" ∷
    on 1 kind.OpenBrace "{" ∷ on 1 kind.Name "q" ∷ on 1 kind.Bang "!" ∷ on 1 kind.Number "1" ∷ on 1 kind.Slash "/" ∷
    on 1 kind.Name "z" ∷ on 1 kind.CloseBrace "}" ∷ on 1 kind.Active "active" ∷ on 1 kind.Proctype "proctype" ∷ on 1 kind.Name "R" ∷
    on 1 kind.OpenParen "(" ∷ on 1 kind.CloseParen ")" ∷ on 1 kind.OpenBrace "{" ∷ on 1 kind.Name "q" ∷ on 1 kind.Query "?" ∷
    on 1 kind.Name "_" ∷ on 1 kind.CloseBrace "}" ∷ []

model-fields-without-value : Program
unfolding tokens-fields-without-value
model-fields-without-value =
    let at : ℕ → Word = token_at tokens-fields-without-value in
    let part : ℕ → ℕ → List Word = tokens_between tokens-fields-without-value in
    record {
      globals = (slot (at 1) chan false 0 1 1 (initial.Channel 0 (byte ∷ [])) ∷ slot (at 12) byte false 1 1 1 initial.Zero ∷ []);
      constants = [];
      typedefs = [];
      proctypes = (
          process (at 16) 3 1 0 [] (
          plain (part 20 25) (action.Send (global 0 chan) Fifo ((expr.Binary op.Divide (number 1) (read (global 1 byte))) ∷ [])) ∷ []) (at 25) ∷
          process (at 28) 4 1 0 [] (
          plain (part 32 35) (action.Receive (global 0 chan) First Remove (want.Anything ∷ [])) ∷ []) (at 35) ∷ []);
    }

row-fields-without-value : seen (options true true true 200) model-fields-without-value (codes "")
    ≡ Some (whole (text ("fault F2 (zero divisor): step 1: proc 0 (S) line 1 [q ! 1 / z]\n" ∷ [])) (codes "") 2 0)
unfolding computes model-fields-without-value
row-fields-without-value = sees (options true true true 200) model-fields-without-value (codes "") _ refl

-- -p -g -l
-- chan q = [0] of { byte }; active proctype S() { q!1 } active proctype R() { q?1,2 }
tokens-wrong-fields-is-a-move : List Word
tokens-wrong-fields-is-a-move =
    on 1 kind.Chan "chan" ∷ on 1 kind.Name "q" ∷ on 1 kind.Assign "=" ∷ on 1 kind.OpenBracket "[" ∷ on 1 kind.Number "0" ∷
    on 1 kind.CloseBracket "]" ∷ on 1 kind.Of "of" ∷ on 1 kind.OpenBrace "{" ∷ on 1 kind.Byte "byte" ∷ on 1 kind.CloseBrace "}" ∷
    on 1 kind.Semicolon ";" ∷ on 1 kind.Active "active" ∷ on 1 kind.Proctype "proctype" ∷ on 1 kind.Name "S" ∷
    on 1 kind.OpenParen "(" ∷ on 1 kind.CloseParen ")" ∷ on 1 kind.OpenBrace "{" ∷ on 1 kind.Name "q" ∷ on 1 kind.Bang "!" ∷
    on 1 kind.Number "1" ∷ on 1 kind.CloseBrace "}" ∷ on 1 kind.Active "active" ∷ on 1 kind.Proctype "proctype" ∷
    on 1 kind.Name "R" ∷ on 1 kind.OpenParen "(" ∷ on 1 kind.CloseParen ")" ∷ on 1 kind.OpenBrace "{" ∷ on 1 kind.Name "q" ∷
    on 1 kind.Query "?" ∷ on 1 kind.Number "1" ∷ on 1 kind.Comma "," ∷ on 1 kind.Number "2" ∷ on 1 kind.CloseBrace "}" ∷ []

model-wrong-fields-is-a-move : Program
unfolding tokens-wrong-fields-is-a-move
model-wrong-fields-is-a-move =
    let at : ℕ → Word = token_at tokens-wrong-fields-is-a-move in
    let part : ℕ → ℕ → List Word = tokens_between tokens-wrong-fields-is-a-move in
    record {
      globals = (slot (at 1) chan false 0 1 1 (initial.Channel 0 (byte ∷ [])) ∷ []);
      constants = [];
      typedefs = [];
      proctypes = (
          process (at 13) 2 1 0 [] (
          plain (part 17 20) (action.Send (global 0 chan) Fifo ((number 1) ∷ [])) ∷ []) (at 20) ∷
          process (at 23) 3 1 0 [] (
          plain (part 27 32) (action.Receive (global 0 chan) First Remove (want.Exactly (pos 1) ∷ want.Exactly (pos 2) ∷ [])) ∷ []) (at
          32) ∷ []);
    }

row-wrong-fields-is-a-move : seen (options true true true 200) model-wrong-fields-is-a-move (codes "1\n")
    ≡ Some (whole (text ("fault F5 (wrong number of fields): step 1: proc 1 (R) line 1 [q ? 1 , 2]\n" ∷ [])) (codes "") 2 0)
unfolding computes model-wrong-fields-is-a-move
row-wrong-fields-is-a-move = sees (options true true true 200) model-wrong-fields-is-a-move (codes "1\n") _ refl

-- -p -g -l
-- chan p = [0] of { byte }; chan q = [0] of { byte }; byte x; active proctype S() { p!300 } active proctype R() { if :: q?x :: p?x fi
--     }
tokens-two-channels : List Word
tokens-two-channels =
    on 1 kind.Chan "chan" ∷ on 1 kind.Name "p" ∷ on 1 kind.Assign "=" ∷ on 1 kind.OpenBracket "[" ∷ on 1 kind.Number "0" ∷
    on 1 kind.CloseBracket "]" ∷ on 1 kind.Of "of" ∷ on 1 kind.OpenBrace "{" ∷ on 1 kind.Byte "byte" ∷ on 1 kind.CloseBrace "}" ∷
    on 1 kind.Semicolon ";" ∷ on 1 kind.Chan "chan" ∷ on 1 kind.Name "q" ∷ on 1 kind.Assign "=" ∷ on 1 kind.OpenBracket "[" ∷
    on 1 kind.Number "0" ∷ on 1 kind.CloseBracket "]" ∷ on 1 kind.Of "of" ∷ on 1 kind.OpenBrace "{" ∷ on 1 kind.Byte "byte" ∷
    on 1 kind.CloseBrace "}" ∷ on 1 kind.Semicolon ";" ∷ on 1 kind.Byte "byte" ∷ on 1 kind.Name "x" ∷ on 1 kind.Semicolon ";" ∷
    on 1 kind.Active "active" ∷ on 1 kind.Proctype "proctype" ∷ on 1 kind.Name "S" ∷ on 1 kind.OpenParen "(" ∷
    on 1 kind.CloseParen ")" ∷ on 1 kind.OpenBrace "{" ∷ on 1 kind.Name "p" ∷ on 1 kind.Bang "!" ∷ on 1 kind.Number "300" ∷
    on 1 kind.CloseBrace "}" ∷ on 1 kind.Active "active" ∷ on 1 kind.Proctype "proctype" ∷ on 1 kind.Name "R" ∷
    on 1 kind.OpenParen "(" ∷ on 1 kind.CloseParen ")" ∷ on 1 kind.OpenBrace "{" ∷ on 1 kind.If "if" ∷ on 1 kind.DoubleColon "::" ∷
    on 1 kind.Name "q" ∷ on 1 kind.Query "?" ∷ on 1 kind.Name "x" ∷ on 1 kind.DoubleColon "::" ∷ on 1 kind.Name "p" ∷
    on 1 kind.Query "?" ∷ on 1 kind.Name "x" ∷ on 1 kind.Fi "fi" ∷ on 1 kind.CloseBrace "}" ∷ []

model-two-channels : Program
unfolding tokens-two-channels
model-two-channels =
    let at : ℕ → Word = token_at tokens-two-channels in
    let part : ℕ → ℕ → List Word = tokens_between tokens-two-channels in
    record {
      globals = (slot (at 1) chan false 0 1 1 (initial.Channel 0 (byte ∷ [])) ∷ slot (at 12) chan false 1 1 1 (initial.Channel 0 (byte
          ∷ [])) ∷ slot (at 23) byte false 2 1 1 initial.Zero ∷ []);
      constants = [];
      typedefs = [];
      proctypes = (
          process (at 27) 4 1 0 [] (
          plain (part 31 34) (action.Send (global 0 chan) Fifo ((number 300) ∷ [])) ∷ []) (at 34) ∷
          process (at 37) 5 1 0 [] (
          if_fi (part 41 51) (
          (plain (part 43 46) (action.Receive (global 1 chan) First Remove (want.Into (global 2 byte) ∷ [])) ∷ []) ∷
          (plain (part 47 50) (action.Receive (global 0 chan) First Remove (want.Into (global 2 byte) ∷ [])) ∷ []) ∷ []) ∷ []) (at 51) ∷ []);
    }

row-two-channels : seen (options true true true 200) model-two-channels (codes "")
    ≡ Some (whole (text (
    "step 1: proc 0 (S) line 1 [p ! 300] -> proc 1 (R) line 1 [p ? x]\n" ∷
    "global x = 44\n" ∷
    "step 2: proc 1 (R) line 1 [-end-]\n" ∷
    "step 3: proc 0 (S) line 1 [-end-]\n" ∷
    "end: valid, steps 3\n" ∷
    [])) (codes "") 0 0)
unfolding computes model-two-channels
row-two-channels = sees (options true true true 200) model-two-channels (codes "") _ refl

-- -p
-- chan q = [0] of { byte };
-- init { byte x; if :: q!1 :: q?x :: timeout fi }
tokens-not-with-itself : List Word
tokens-not-with-itself =
    on 1 kind.Chan "chan" ∷ on 1 kind.Name "q" ∷ on 1 kind.Assign "=" ∷ on 1 kind.OpenBracket "[" ∷ on 1 kind.Number "0" ∷
    on 1 kind.CloseBracket "]" ∷ on 1 kind.Of "of" ∷ on 1 kind.OpenBrace "{" ∷ on 1 kind.Byte "byte" ∷ on 1 kind.CloseBrace "}" ∷
    on 1 kind.Semicolon ";" ∷ on 2 kind.Init "init" ∷ on 2 kind.OpenBrace "{" ∷ on 2 kind.Byte "byte" ∷ on 2 kind.Name "x" ∷
    on 2 kind.Semicolon ";" ∷ on 2 kind.If "if" ∷ on 2 kind.DoubleColon "::" ∷ on 2 kind.Name "q" ∷ on 2 kind.Bang "!" ∷
    on 2 kind.Number "1" ∷ on 2 kind.DoubleColon "::" ∷ on 2 kind.Name "q" ∷ on 2 kind.Query "?" ∷ on 2 kind.Name "x" ∷
    on 2 kind.DoubleColon "::" ∷ on 2 kind.Timeout "timeout" ∷ on 2 kind.Fi "fi" ∷ on 2 kind.CloseBrace "}" ∷ []

model-not-with-itself : Program
unfolding tokens-not-with-itself
model-not-with-itself =
    let at : ℕ → Word = token_at tokens-not-with-itself in
    let part : ℕ → ℕ → List Word = tokens_between tokens-not-with-itself in
    record {
      globals = (slot (at 1) chan false 0 1 1 (initial.Channel 0 (byte ∷ [])) ∷ []);
      constants = [];
      typedefs = [];
      proctypes = (
          process (at 11) 2 1 0 (slot (at 14) byte false 0 1 1 initial.Zero ∷ []) (
          if_fi (part 16 28) (
          (plain (part 18 21) (action.Send (global 0 chan) Fifo ((number 1) ∷ [])) ∷ []) ∷
          (plain (part 22 25) (action.Receive (global 0 chan) First Remove (want.Into (local 0 byte) ∷ [])) ∷ []) ∷
          (plain (part 26 27) (holds expr.Timeout) ∷ []) ∷ []) ∷ []) (at 28) ∷ []);
    }

row-not-with-itself : seen (options true false false 1000) model-not-with-itself (codes "")
    ≡ Some (whole (text (
    "step 1: proc 0 (:init:) line 2 [timeout]\n" ∷
    "step 2: proc 0 (:init:) line 2 [-end-]\n" ∷
    "end: valid, steps 2\n" ∷
    [])) (codes "") 0 0)
unfolding computes model-not-with-itself
row-not-with-itself = sees (options true false false 1000) model-not-with-itself (codes "") _ refl
