-- Runs: limits. `tools/model-data` made the data of their models.
use Rattle.std.proofs.Common.{◌≡◌, ℕ, List, [], ◌∷◌, true, false, refl, Some}
use Rattle.std.specs.Prelude.{codes}
use Rattle.pml_token.specs.Word.{Word}
use Rattle.pml_program.specs.declared.program.Program.{Program}
use Rattle.pml_program.specs.declared.program.Basic.{Break}
use Rattle.worked_runs.specs.Seen.{seen}
use Rattle.worked_runs.proofs.Models.{on, token_at, tokens_between, byte, chan, int, slot, global, number, read, run, assign, holds, stmt, plain, labelled, d_step, do_od, process, options, text, whole}
use Rattle.worked_runs.proofs.Same.{computes, sees}
use Rattle.pml_token.specs.declared.token.Kind.TheVariants as kind
use Rattle.pml_tree.specs.declared.tree.Infix.TheVariants as op
use Rattle.pml_program.specs.declared.expr.Expr.TheVariants as expr
use Rattle.pml_program.specs.declared.program.Initial.TheVariants as initial
use Rattle.pml_program.specs.declared.program.Action.TheVariants as action

-- no options
-- byte x; init { do :: x = 1 :: x = 2 od }
tokens-hundred-bad-lines : List Word
tokens-hundred-bad-lines =
    on 1 kind.Byte "byte" ∷ on 1 kind.Name "x" ∷ on 1 kind.Semicolon ";" ∷ on 1 kind.Init "init" ∷ on 1 kind.OpenBrace "{" ∷
    on 1 kind.Do "do" ∷ on 1 kind.DoubleColon "::" ∷ on 1 kind.Name "x" ∷ on 1 kind.Assign "=" ∷ on 1 kind.Number "1" ∷
    on 1 kind.DoubleColon "::" ∷ on 1 kind.Name "x" ∷ on 1 kind.Assign "=" ∷ on 1 kind.Number "2" ∷ on 1 kind.Od "od" ∷
    on 1 kind.CloseBrace "}" ∷ []

model-hundred-bad-lines : Program
unfolding tokens-hundred-bad-lines
model-hundred-bad-lines =
    let at : ℕ → Word = token_at tokens-hundred-bad-lines in
    let part : ℕ → ℕ → List Word = tokens_between tokens-hundred-bad-lines in
    record {
      globals = (slot (at 1) byte false 0 1 1 initial.Zero ∷ []);
      constants = [];
      typedefs = [];
      proctypes = (
          process (at 3) 2 1 0 [] (
          do_od (part 5 15) (
          (plain (part 7 10) (assign (global 0 byte) (number 1)) ∷ []) ∷
          (plain (part 11 14) (assign (global 0 byte) (number 2)) ∷ []) ∷ []) ∷ []) (at 15) ∷ []);
    }

row-hundred-bad-lines : seen (options false false false 1000) model-hundred-bad-lines (text
    ("\n\n\n\n\n\n\n\n\n\n\n\n\n\n\n\n\n\n\n\n\n\n\n\n\n\n\n\n\n\n\n\n\n\n\n\n\n\n\n\n\n\n\n\n\n\n\n\n\n\n" ∷
    "\n\n\n\n\n\n\n\n\n\n\n\n\n\n\n\n\n\n\n\n\n\n\n\n\n\n\n\n\n\n\n\n\n\n\n\n\n\n\n\n\n\n\n\n\n\n\n\n\n\n" ∷
    "\n\n\n\n\n\n\n\n\n\n\n\n\n\n\n\n\n\n\n\n\n\n\n\n\n\n\n\n\n\n\n\n\n\n\n\n\n\n\n\n\n\n\n\n\n\n\n\n\n\n" ∷
    "\n\n\n\n\n\n\n\n\n\n\n\n\n\n\n\n\n\n\n\n\n\n\n\n\n\n\n\n\n\n\n\n\n\n\n\n\n\n\n\n\n\n\n\n\n\n\n\n\n\n" ∷
    "\n\n\n\n\n\n\n\n\n\n\n\n\n\n\n\n\n\n\n\n\n\n\n\n\n\n\n\n\n\n\n\n\n\n\n\n\n\n\n\n\n\n\n\n\n\n\n\n\n\n" ∷
    "\n\n\n\n\n\n\n\n\n\n\n\n\n\n\n\n\n\n\n\n\n\n\n\n\n\n\n\n\n\n\n\n\n\n\n\n\n\n\n\n\n\n\n\n\n\n\n\n\n\n" ∷
    "\n\n\n\n\n\n\n\n\n\n\n\n\n\n\n\n\n\n\n\n\n\n\n\n\n\n\n\n\n\n\n\n\n\n\n\n\n\n\n\n\n\n\n\n\n\n\n\n\n\n" ∷
    "\n\n\n\n\n\n\n\n\n\n\n\n\n\n\n\n\n\n\n\n\n\n\n\n\n\n\n\n\n\n\n\n\n\n\n\n\n\n\n\n\n\n\n\n\n\n\n\n\n\n" ∷
    "\n\n\n\n\n\n\n\n\n\n\n\n\n\n\n\n\n\n\n\n\n\n\n\n\n\n\n\n\n\n\n\n\n\n\n\n\n\n\n\n\n\n\n\n\n\n\n\n\n\n" ∷
    "\n\n\n\n\n\n\n\n\n\n\n\n\n\n\n\n\n\n\n\n\n\n\n\n\n\n\n\n\n\n\n\n\n\n\n\n\n\n\n\n\n\n\n\n\n\n\n\n\n\n" ∷ []))
    ≡ Some (whole (text (
    "choice 1: proc 0 (:init:) line 1 [x = 1]\n" ∷
    "choice 2: proc 0 (:init:) line 1 [x = 2]\n" ∷
    "choose 1..2\n" ∷
    "bad choice\n" ∷
    "choose 1..2\n" ∷
    "bad choice\n" ∷
    "choose 1..2\n" ∷
    "bad choice\n" ∷
    "choose 1..2\n" ∷
    "bad choice\n" ∷
    "choose 1..2\n" ∷
    "bad choice\n" ∷
    "choose 1..2\n" ∷
    "bad choice\n" ∷
    "choose 1..2\n" ∷
    "bad choice\n" ∷
    "choose 1..2\n" ∷
    "bad choice\n" ∷
    "choose 1..2\n" ∷
    "bad choice\n" ∷
    "choose 1..2\n" ∷
    "bad choice\n" ∷
    "choose 1..2\n" ∷
    "bad choice\n" ∷
    "choose 1..2\n" ∷
    "bad choice\n" ∷
    "choose 1..2\n" ∷
    "bad choice\n" ∷
    "choose 1..2\n" ∷
    "bad choice\n" ∷
    "choose 1..2\n" ∷
    "bad choice\n" ∷
    "choose 1..2\n" ∷
    "bad choice\n" ∷
    "choose 1..2\n" ∷
    "bad choice\n" ∷
    "choose 1..2\n" ∷
    "bad choice\n" ∷
    "choose 1..2\n" ∷
    "bad choice\n" ∷
    "choose 1..2\n" ∷
    "bad choice\n" ∷
    "choose 1..2\n" ∷
    "bad choice\n" ∷
    "choose 1..2\n" ∷
    "bad choice\n" ∷
    "choose 1..2\n" ∷
    "bad choice\n" ∷
    "choose 1..2\n" ∷
    "bad choice\n" ∷
    "choose 1..2\n" ∷
    "bad choice\n" ∷
    "choose 1..2\n" ∷
    "bad choice\n" ∷
    "choose 1..2\n" ∷
    "bad choice\n" ∷
    "choose 1..2\n" ∷
    "bad choice\n" ∷
    "choose 1..2\n" ∷
    "bad choice\n" ∷
    "choose 1..2\n" ∷
    "bad choice\n" ∷
    "choose 1..2\n" ∷
    "bad choice\n" ∷
    "choose 1..2\n" ∷
    "bad choice\n" ∷
    "choose 1..2\n" ∷
    "bad choice\n" ∷
    "choose 1..2\n" ∷
    "bad choice\n" ∷
    "choose 1..2\n" ∷
    "bad choice\n" ∷
    "choose 1..2\n" ∷
    "bad choice\n" ∷
    "choose 1..2\n" ∷
    "bad choice\n" ∷
    "choose 1..2\n" ∷
    "bad choice\n" ∷
    "choose 1..2\n" ∷
    "bad choice\n" ∷
    "choose 1..2\n" ∷
    "bad choice\n" ∷
    "choose 1..2\n" ∷
    "bad choice\n" ∷
    "choose 1..2\n" ∷
    "bad choice\n" ∷
    "choose 1..2\n" ∷
    "bad choice\n" ∷
    "choose 1..2\n" ∷
    "bad choice\n" ∷
    "choose 1..2\n" ∷
    "bad choice\n" ∷
    "choose 1..2\n" ∷
    "bad choice\n" ∷
    "choose 1..2\n" ∷
    "bad choice\n" ∷
    "choose 1..2\n" ∷
    "bad choice\n" ∷
    "choose 1..2\n" ∷
    "bad choice\n" ∷
    "choose 1..2\n" ∷
    "bad choice\n" ∷
    "choose 1..2\n" ∷
    "bad choice\n" ∷
    "choose 1..2\n" ∷
    "bad choice\n" ∷
    "choose 1..2\n" ∷
    "bad choice\n" ∷
    "choose 1..2\n" ∷
    "bad choice\n" ∷
    "choose 1..2\n" ∷
    "bad choice\n" ∷
    "choose 1..2\n" ∷
    "bad choice\n" ∷
    "choose 1..2\n" ∷
    "bad choice\n" ∷
    "choose 1..2\n" ∷
    "bad choice\n" ∷
    "choose 1..2\n" ∷
    "bad choice\n" ∷
    "choose 1..2\n" ∷
    "bad choice\n" ∷
    "choose 1..2\n" ∷
    "bad choice\n" ∷
    "choose 1..2\n" ∷
    "bad choice\n" ∷
    "choose 1..2\n" ∷
    "bad choice\n" ∷
    "choose 1..2\n" ∷
    "bad choice\n" ∷
    "choose 1..2\n" ∷
    "bad choice\n" ∷
    "choose 1..2\n" ∷
    "bad choice\n" ∷
    "choose 1..2\n" ∷
    "bad choice\n" ∷
    "choose 1..2\n" ∷
    "bad choice\n" ∷
    "choose 1..2\n" ∷
    "bad choice\n" ∷
    "choose 1..2\n" ∷
    "bad choice\n" ∷
    "choose 1..2\n" ∷
    "bad choice\n" ∷
    "choose 1..2\n" ∷
    "bad choice\n" ∷
    "choose 1..2\n" ∷
    "bad choice\n" ∷
    "choose 1..2\n" ∷
    "bad choice\n" ∷
    "choose 1..2\n" ∷
    "bad choice\n" ∷
    "choose 1..2\n" ∷
    "bad choice\n" ∷
    "choose 1..2\n" ∷
    "bad choice\n" ∷
    "choose 1..2\n" ∷
    "bad choice\n" ∷
    "choose 1..2\n" ∷
    "bad choice\n" ∷
    "choose 1..2\n" ∷
    "bad choice\n" ∷
    "choose 1..2\n" ∷
    "bad choice\n" ∷
    "choose 1..2\n" ∷
    "bad choice\n" ∷
    "choose 1..2\n" ∷
    "bad choice\n" ∷
    "choose 1..2\n" ∷
    "bad choice\n" ∷
    "choose 1..2\n" ∷
    "bad choice\n" ∷
    "choose 1..2\n" ∷
    "bad choice\n" ∷
    "choose 1..2\n" ∷
    "bad choice\n" ∷
    "choose 1..2\n" ∷
    "bad choice\n" ∷
    "choose 1..2\n" ∷
    "bad choice\n" ∷
    "choose 1..2\n" ∷
    "bad choice\n" ∷
    "choose 1..2\n" ∷
    "bad choice\n" ∷
    "choose 1..2\n" ∷
    "bad choice\n" ∷
    "choose 1..2\n" ∷
    "bad choice\n" ∷
    "choose 1..2\n" ∷
    "bad choice\n" ∷
    "choose 1..2\n" ∷
    "bad choice\n" ∷
    "choose 1..2\n" ∷
    "bad choice\n" ∷
    "choose 1..2\n" ∷
    "bad choice\n" ∷
    "choose 1..2\n" ∷
    "bad choice\n" ∷
    "choose 1..2\n" ∷
    "bad choice\n" ∷
    "choose 1..2\n" ∷
    "bad choice\n" ∷
    "stop: 100 bad choices, steps 0\n" ∷
    [])) (codes "") 5 100)
unfolding computes model-hundred-bad-lines
row-hundred-bad-lines = sees (options false false false 1000) model-hundred-bad-lines (text
    ("\n\n\n\n\n\n\n\n\n\n\n\n\n\n\n\n\n\n\n\n\n\n\n\n\n\n\n\n\n\n\n\n\n\n\n\n\n\n\n\n\n\n\n\n\n\n\n\n\n\n" ∷
    "\n\n\n\n\n\n\n\n\n\n\n\n\n\n\n\n\n\n\n\n\n\n\n\n\n\n\n\n\n\n\n\n\n\n\n\n\n\n\n\n\n\n\n\n\n\n\n\n\n\n" ∷
    "\n\n\n\n\n\n\n\n\n\n\n\n\n\n\n\n\n\n\n\n\n\n\n\n\n\n\n\n\n\n\n\n\n\n\n\n\n\n\n\n\n\n\n\n\n\n\n\n\n\n" ∷
    "\n\n\n\n\n\n\n\n\n\n\n\n\n\n\n\n\n\n\n\n\n\n\n\n\n\n\n\n\n\n\n\n\n\n\n\n\n\n\n\n\n\n\n\n\n\n\n\n\n\n" ∷
    "\n\n\n\n\n\n\n\n\n\n\n\n\n\n\n\n\n\n\n\n\n\n\n\n\n\n\n\n\n\n\n\n\n\n\n\n\n\n\n\n\n\n\n\n\n\n\n\n\n\n" ∷
    "\n\n\n\n\n\n\n\n\n\n\n\n\n\n\n\n\n\n\n\n\n\n\n\n\n\n\n\n\n\n\n\n\n\n\n\n\n\n\n\n\n\n\n\n\n\n\n\n\n\n" ∷
    "\n\n\n\n\n\n\n\n\n\n\n\n\n\n\n\n\n\n\n\n\n\n\n\n\n\n\n\n\n\n\n\n\n\n\n\n\n\n\n\n\n\n\n\n\n\n\n\n\n\n" ∷
    "\n\n\n\n\n\n\n\n\n\n\n\n\n\n\n\n\n\n\n\n\n\n\n\n\n\n\n\n\n\n\n\n\n\n\n\n\n\n\n\n\n\n\n\n\n\n\n\n\n\n" ∷
    "\n\n\n\n\n\n\n\n\n\n\n\n\n\n\n\n\n\n\n\n\n\n\n\n\n\n\n\n\n\n\n\n\n\n\n\n\n\n\n\n\n\n\n\n\n\n\n\n\n\n" ∷
    "\n\n\n\n\n\n\n\n\n\n\n\n\n\n\n\n\n\n\n\n\n\n\n\n\n\n\n\n\n\n\n\n\n\n\n\n\n\n\n\n\n\n\n\n\n\n\n\n\n\n" ∷ [])) _ refl

-- no options
-- proctype P() { end: false } init { do :: run P() :: timeout -> break od }
tokens-process-limit : List Word
tokens-process-limit =
    on 1 kind.Proctype "proctype" ∷ on 1 kind.Name "P" ∷ on 1 kind.OpenParen "(" ∷ on 1 kind.CloseParen ")" ∷
    on 1 kind.OpenBrace "{" ∷ on 1 kind.Name "end" ∷ on 1 kind.Colon ":" ∷ on 1 kind.False "false" ∷ on 1 kind.CloseBrace "}" ∷
    on 1 kind.Init "init" ∷ on 1 kind.OpenBrace "{" ∷ on 1 kind.Do "do" ∷ on 1 kind.DoubleColon "::" ∷ on 1 kind.Run "run" ∷
    on 1 kind.Name "P" ∷ on 1 kind.OpenParen "(" ∷ on 1 kind.CloseParen ")" ∷ on 1 kind.DoubleColon "::" ∷
    on 1 kind.Timeout "timeout" ∷ on 1 kind.Arrow "->" ∷ on 1 kind.Break "break" ∷ on 1 kind.Od "od" ∷ on 1 kind.CloseBrace "}" ∷ []

model-process-limit : Program
unfolding tokens-process-limit
model-process-limit =
    let at : ℕ → Word = token_at tokens-process-limit in
    let part : ℕ → ℕ → List Word = tokens_between tokens-process-limit in
    record {
      globals = [];
      constants = [];
      typedefs = [];
      proctypes = (
          process (at 1) 1 0 0 [] (
          labelled ((at 5) ∷ []) (plain (part 7 8) (holds (number 0))) ∷ []) (at 8) ∷
          process (at 9) 2 1 0 [] (
          do_od (part 11 22) (
          (plain (part 13 17) (action.Run (run 0 [])) ∷ []) ∷
          (plain (part 18 19) (holds expr.Timeout) ∷
          stmt [] Break (part 20 21) ∷ []) ∷ []) ∷ []) (at 22) ∷ []);
    }

row-process-limit : seen (options false false false 1000) model-process-limit (codes "")
    ≡ Some (whole (text ("end: valid, steps 255\n" ∷ [])) (codes "") 0 0)
unfolding computes model-process-limit
row-process-limit = sees (options false false false 1000) model-process-limit (codes "") _ refl

-- no options
-- proctype P() { chan c[10] = [1] of { byte }; end: false } init { do :: run P() od }
tokens-channel-limit : List Word
tokens-channel-limit =
    on 1 kind.Proctype "proctype" ∷ on 1 kind.Name "P" ∷ on 1 kind.OpenParen "(" ∷ on 1 kind.CloseParen ")" ∷
    on 1 kind.OpenBrace "{" ∷ on 1 kind.Chan "chan" ∷ on 1 kind.Name "c" ∷ on 1 kind.OpenBracket "[" ∷ on 1 kind.Number "10" ∷
    on 1 kind.CloseBracket "]" ∷ on 1 kind.Assign "=" ∷ on 1 kind.OpenBracket "[" ∷ on 1 kind.Number "1" ∷
    on 1 kind.CloseBracket "]" ∷ on 1 kind.Of "of" ∷ on 1 kind.OpenBrace "{" ∷ on 1 kind.Byte "byte" ∷ on 1 kind.CloseBrace "}" ∷
    on 1 kind.Semicolon ";" ∷ on 1 kind.Name "end" ∷ on 1 kind.Colon ":" ∷ on 1 kind.False "false" ∷ on 1 kind.CloseBrace "}" ∷
    on 1 kind.Init "init" ∷ on 1 kind.OpenBrace "{" ∷ on 1 kind.Do "do" ∷ on 1 kind.DoubleColon "::" ∷ on 1 kind.Run "run" ∷
    on 1 kind.Name "P" ∷ on 1 kind.OpenParen "(" ∷ on 1 kind.CloseParen ")" ∷ on 1 kind.Od "od" ∷ on 1 kind.CloseBrace "}" ∷ []

model-channel-limit : Program
unfolding tokens-channel-limit
model-channel-limit =
    let at : ℕ → Word = token_at tokens-channel-limit in
    let part : ℕ → ℕ → List Word = tokens_between tokens-channel-limit in
    record {
      globals = [];
      constants = [];
      typedefs = [];
      proctypes = (
          process (at 1) 1 0 0 (slot (at 6) chan true 0 10 1 (initial.Channel 1 (byte ∷ [])) ∷ []) (
          labelled ((at 19) ∷ []) (plain (part 21 22) (holds (number 0))) ∷ []) (at 22) ∷
          process (at 23) 2 1 0 [] (
          do_od (part 25 32) (
          (plain (part 27 31) (action.Run (run 0 [])) ∷ []) ∷ []) ∷ []) (at 32) ∷ []);
    }

row-channel-limit : seen (options false false false 1000) model-channel-limit (codes "")
    ≡ Some (whole (text ("fault F6 (too many channels): step 26: proc 0 (:init:) line 1 [run P ( )]\n" ∷ [])) (codes "") 2 0)
unfolding computes model-channel-limit
row-channel-limit = sees (options false false false 1000) model-channel-limit (codes "") _ refl

-- no options
-- active [255] proctype P() { end: false }
tokens-at-most-255-processes : List Word
tokens-at-most-255-processes =
    on 1 kind.Active "active" ∷ on 1 kind.OpenBracket "[" ∷ on 1 kind.Number "255" ∷ on 1 kind.CloseBracket "]" ∷
    on 1 kind.Proctype "proctype" ∷ on 1 kind.Name "P" ∷ on 1 kind.OpenParen "(" ∷ on 1 kind.CloseParen ")" ∷
    on 1 kind.OpenBrace "{" ∷ on 1 kind.Name "end" ∷ on 1 kind.Colon ":" ∷ on 1 kind.False "false" ∷ on 1 kind.CloseBrace "}" ∷ []

model-at-most-255-processes : Program
unfolding tokens-at-most-255-processes
model-at-most-255-processes =
    let at : ℕ → Word = token_at tokens-at-most-255-processes in
    let part : ℕ → ℕ → List Word = tokens_between tokens-at-most-255-processes in
    record {
      globals = [];
      constants = [];
      typedefs = [];
      proctypes = (
          process (at 5) 1 255 0 [] (
          labelled ((at 9) ∷ []) (plain (part 11 12) (holds (number 0))) ∷ []) (at 12) ∷ []);
    }

row-at-most-255-processes : seen (options false false false 1000) model-at-most-255-processes (codes "")
    ≡ Some (whole (text ("end: valid, steps 0\n" ∷ [])) (codes "") 0 0)
unfolding computes model-at-most-255-processes
row-at-most-255-processes = sees (options false false false 1000) model-at-most-255-processes (codes "") _ refl

-- no options
-- chan c[255] = [0] of { byte }; init { skip }
tokens-at-most-255-channels : List Word
tokens-at-most-255-channels =
    on 1 kind.Chan "chan" ∷ on 1 kind.Name "c" ∷ on 1 kind.OpenBracket "[" ∷ on 1 kind.Number "255" ∷ on 1 kind.CloseBracket "]" ∷
    on 1 kind.Assign "=" ∷ on 1 kind.OpenBracket "[" ∷ on 1 kind.Number "0" ∷ on 1 kind.CloseBracket "]" ∷ on 1 kind.Of "of" ∷
    on 1 kind.OpenBrace "{" ∷ on 1 kind.Byte "byte" ∷ on 1 kind.CloseBrace "}" ∷ on 1 kind.Semicolon ";" ∷ on 1 kind.Init "init" ∷
    on 1 kind.OpenBrace "{" ∷ on 1 kind.Skip "skip" ∷ on 1 kind.CloseBrace "}" ∷ []

model-at-most-255-channels : Program
unfolding tokens-at-most-255-channels
model-at-most-255-channels =
    let at : ℕ → Word = token_at tokens-at-most-255-channels in
    let part : ℕ → ℕ → List Word = tokens_between tokens-at-most-255-channels in
    record {
      globals = (slot (at 1) chan true 0 255 1 (initial.Channel 0 (byte ∷ [])) ∷ []);
      constants = [];
      typedefs = [];
      proctypes = (
          process (at 14) 2 1 0 [] (
          plain (part 16 17) (holds (number 1)) ∷ []) (at 17) ∷ []);
    }

row-at-most-255-channels : seen (options false false false 1000) model-at-most-255-channels (codes "")
    ≡ Some (whole (text ("end: valid, steps 2\n" ∷ [])) (codes "") 0 0)
unfolding computes model-at-most-255-channels
row-at-most-255-channels = sees (options false false false 1000) model-at-most-255-channels (codes "") _ refl

-- -g
-- int i; init { d_step { i = 0; do :: i < 4999 -> i++ :: else -> break od } }
tokens-d-step-of-10000 : List Word
tokens-d-step-of-10000 =
    on 1 kind.Int "int" ∷ on 1 kind.Name "i" ∷ on 1 kind.Semicolon ";" ∷ on 1 kind.Init "init" ∷ on 1 kind.OpenBrace "{" ∷
    on 1 kind.DStep "d_step" ∷ on 1 kind.OpenBrace "{" ∷ on 1 kind.Name "i" ∷ on 1 kind.Assign "=" ∷ on 1 kind.Number "0" ∷
    on 1 kind.Semicolon ";" ∷ on 1 kind.Do "do" ∷ on 1 kind.DoubleColon "::" ∷ on 1 kind.Name "i" ∷ on 1 kind.Less "<" ∷
    on 1 kind.Number "4999" ∷ on 1 kind.Arrow "->" ∷ on 1 kind.Name "i" ∷ on 1 kind.Increment "++" ∷ on 1 kind.DoubleColon "::" ∷
    on 1 kind.Else "else" ∷ on 1 kind.Arrow "->" ∷ on 1 kind.Break "break" ∷ on 1 kind.Od "od" ∷ on 1 kind.CloseBrace "}" ∷
    on 1 kind.CloseBrace "}" ∷ []

model-d-step-of-10000 : Program
unfolding tokens-d-step-of-10000
model-d-step-of-10000 =
    let at : ℕ → Word = token_at tokens-d-step-of-10000 in
    let part : ℕ → ℕ → List Word = tokens_between tokens-d-step-of-10000 in
    record {
      globals = (slot (at 1) int false 0 1 1 initial.Zero ∷ []);
      constants = [];
      typedefs = [];
      proctypes = (
          process (at 3) 2 1 0 [] (
          d_step (part 5 25) (
          plain (part 7 10) (assign (global 0 int) (number 0)) ∷
          do_od (part 11 24) (
          (plain (part 13 16) (holds (expr.Binary op.Below (read (global 0 int)) (number 4999))) ∷
          plain (part 17 19) (action.Increment (global 0 int)) ∷ []) ∷
          (plain (part 20 21) action.Else ∷
          stmt [] Break (part 22 23) ∷ []) ∷ []) ∷ []) ∷ []) (at 25) ∷ []);
    }

row-d-step-of-10000 : seen (options false true false 1000) model-d-step-of-10000 (codes "")
    ≡ Some (whole (text (
    "global i = 4999\n" ∷
    "end: valid, steps 2\n" ∷
    [])) (codes "") 0 0)
unfolding computes model-d-step-of-10000
row-d-step-of-10000 = sees (options false true false 1000) model-d-step-of-10000 (codes "") _ refl

-- -g
-- int i; init { d_step { i = 0; do :: i < 5000 -> i++ :: else -> break od } }
tokens-d-step-of-10001 : List Word
tokens-d-step-of-10001 =
    on 1 kind.Int "int" ∷ on 1 kind.Name "i" ∷ on 1 kind.Semicolon ";" ∷ on 1 kind.Init "init" ∷ on 1 kind.OpenBrace "{" ∷
    on 1 kind.DStep "d_step" ∷ on 1 kind.OpenBrace "{" ∷ on 1 kind.Name "i" ∷ on 1 kind.Assign "=" ∷ on 1 kind.Number "0" ∷
    on 1 kind.Semicolon ";" ∷ on 1 kind.Do "do" ∷ on 1 kind.DoubleColon "::" ∷ on 1 kind.Name "i" ∷ on 1 kind.Less "<" ∷
    on 1 kind.Number "5000" ∷ on 1 kind.Arrow "->" ∷ on 1 kind.Name "i" ∷ on 1 kind.Increment "++" ∷ on 1 kind.DoubleColon "::" ∷
    on 1 kind.Else "else" ∷ on 1 kind.Arrow "->" ∷ on 1 kind.Break "break" ∷ on 1 kind.Od "od" ∷ on 1 kind.CloseBrace "}" ∷
    on 1 kind.CloseBrace "}" ∷ []

model-d-step-of-10001 : Program
unfolding tokens-d-step-of-10001
model-d-step-of-10001 =
    let at : ℕ → Word = token_at tokens-d-step-of-10001 in
    let part : ℕ → ℕ → List Word = tokens_between tokens-d-step-of-10001 in
    record {
      globals = (slot (at 1) int false 0 1 1 initial.Zero ∷ []);
      constants = [];
      typedefs = [];
      proctypes = (
          process (at 3) 2 1 0 [] (
          d_step (part 5 25) (
          plain (part 7 10) (assign (global 0 int) (number 0)) ∷
          do_od (part 11 24) (
          (plain (part 13 16) (holds (expr.Binary op.Below (read (global 0 int)) (number 5000))) ∷
          plain (part 17 19) (action.Increment (global 0 int)) ∷ []) ∷
          (plain (part 20 21) action.Else ∷
          stmt [] Break (part 22 23) ∷ []) ∷ []) ∷ []) ∷ []) (at 25) ∷ []);
    }

row-d-step-of-10001 : seen (options false true false 1000) model-d-step-of-10001 (codes "")
    ≡ Some (whole (text ("fault F8 (d_step too long): step 1: proc 0 (:init:) line 1 [d_step]\n" ∷ [])) (codes "") 2 0)
unfolding computes model-d-step-of-10001
row-d-step-of-10001 = sees (options false true false 1000) model-d-step-of-10001 (codes "") _ refl

-- no options
-- init { d_step { do :: skip od } }
tokens-d-step-without-end : List Word
tokens-d-step-without-end =
    on 1 kind.Init "init" ∷ on 1 kind.OpenBrace "{" ∷ on 1 kind.DStep "d_step" ∷ on 1 kind.OpenBrace "{" ∷ on 1 kind.Do "do" ∷
    on 1 kind.DoubleColon "::" ∷ on 1 kind.Skip "skip" ∷ on 1 kind.Od "od" ∷ on 1 kind.CloseBrace "}" ∷ on 1 kind.CloseBrace "}" ∷ []

model-d-step-without-end : Program
unfolding tokens-d-step-without-end
model-d-step-without-end =
    let at : ℕ → Word = token_at tokens-d-step-without-end in
    let part : ℕ → ℕ → List Word = tokens_between tokens-d-step-without-end in
    record {
      globals = [];
      constants = [];
      typedefs = [];
      proctypes = (
          process (at 0) 1 1 0 [] (
          d_step (part 2 9) (
          do_od (part 4 8) (
          (plain (part 6 7) (holds (number 1)) ∷ []) ∷ []) ∷ []) ∷ []) (at 9) ∷ []);
    }

row-d-step-without-end : seen (options false false false 1000) model-d-step-without-end (codes "")
    ≡ Some (whole (text ("fault F8 (d_step too long): step 1: proc 0 (:init:) line 1 [d_step]\n" ∷ [])) (codes "") 2 0)
unfolding computes model-d-step-without-end
row-d-step-without-end = sees (options false false false 1000) model-d-step-without-end (codes "") _ refl
