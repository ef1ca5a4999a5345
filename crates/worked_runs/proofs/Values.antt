-- Runs: values, initialisers, faults and printing. `tools/model-data` made the data of their models.
use Rattle.std.proofs.Common.{◌≡◌, ℕ, List, [], ◌∷◌, true, false, refl, Some, None}
use Rattle.std.specs.Prelude.{codes}
use Rattle.pml_token.specs.Word.{Word}
use Rattle.pml_tree.specs.declared.tree.Search.TheVariants.{First}
use Rattle.pml_tree.specs.declared.tree.Removal.TheVariants.{Remove}
use Rattle.pml_tree.specs.declared.tree.SendOrder.TheVariants.{Fifo}
use Rattle.pml_program.specs.declared.program.Program.{Program}
use Rattle.worked_runs.specs.Seen.{seen}
use Rattle.worked_runs.proofs.Models.{on, token_at, tokens_between, byte, chan, mtype, short, int, slot, fields, turn, in_global, local, global, number, read, run, assign, holds, plain, if_fi, process, options, text, whole}
use Rattle.worked_runs.proofs.Same.{computes, sees}
use Rattle.pml_token.specs.declared.token.Kind.TheVariants as kind
use Rattle.pml_tree.specs.declared.tree.Infix.TheVariants as op
use Rattle.pml_tree.specs.declared.tree.Prefix.TheVariants as before
use Rattle.pml_program.specs.declared.form.Form.TheVariants as form
use Rattle.pml_program.specs.declared.expr.Expr.TheVariants as expr
use Rattle.pml_program.specs.declared.expr.Want.TheVariants as want
use Rattle.pml_program.specs.declared.program.Initial.TheVariants as initial
use Rattle.pml_program.specs.declared.program.Action.TheVariants as action

-- -g
-- byte x = 255; short y = 32767; init { x++; y++ }
tokens-counts-wrap : List Word
tokens-counts-wrap =
    on 1 kind.Byte "byte" ∷ on 1 kind.Name "x" ∷ on 1 kind.Assign "=" ∷ on 1 kind.Number "255" ∷ on 1 kind.Semicolon ";" ∷
    on 1 kind.Short "short" ∷ on 1 kind.Name "y" ∷ on 1 kind.Assign "=" ∷ on 1 kind.Number "32767" ∷ on 1 kind.Semicolon ";" ∷
    on 1 kind.Init "init" ∷ on 1 kind.OpenBrace "{" ∷ on 1 kind.Name "x" ∷ on 1 kind.Increment "++" ∷ on 1 kind.Semicolon ";" ∷
    on 1 kind.Name "y" ∷ on 1 kind.Increment "++" ∷ on 1 kind.CloseBrace "}" ∷ []

model-counts-wrap : Program
unfolding tokens-counts-wrap
model-counts-wrap =
    let at : ℕ → Word = token_at tokens-counts-wrap in
    let part : ℕ → ℕ → List Word = tokens_between tokens-counts-wrap in
    record {
      globals = (slot (at 1) byte false 0 1 1 (initial.Value (number 255)) ∷ slot (at 6) short false 1 1 1 (initial.Value (number
          32767)) ∷ []);
      constants = [];
      typedefs = [];
      proctypes = (
          process (at 10) 3 1 0 [] (
          plain (part 12 14) (action.Increment (global 0 byte)) ∷
          plain (part 15 17) (action.Increment (global 1 short)) ∷ []) (at 17) ∷ []);
    }

row-counts-wrap : seen (options false true false 1000) model-counts-wrap (codes "")
    ≡ Some (whole (text (
    "global x = 0\n" ∷
    "global y = -32768\n" ∷
    "end: valid, steps 3\n" ∷
    [])) (codes "") 0 0)
unfolding computes model-counts-wrap
row-counts-wrap = sees (options false true false 1000) model-counts-wrap (codes "") _ refl

-- -g -l
-- typedef R { byte f[2]; short g };
-- mtype = { ack, nak };
-- R r[2];
-- mtype m;
-- unsigned u : 3;
-- int i = 2147483647;
-- init { byte k = 1; r[k].f[1] = 300; m = nak; u = 9; i++; k = r[1].f[1] >> 2; r[0].g = -40000; u = 9 / (k - 11) }
tokens-values-of-all-types : List Word
tokens-values-of-all-types =
    on 1 kind.Typedef "typedef" ∷ on 1 kind.Name "R" ∷ on 1 kind.OpenBrace "{" ∷ on 1 kind.Byte "byte" ∷ on 1 kind.Name "f" ∷
    on 1 kind.OpenBracket "[" ∷ on 1 kind.Number "2" ∷ on 1 kind.CloseBracket "]" ∷ on 1 kind.Semicolon ";" ∷
    on 1 kind.Short "short" ∷ on 1 kind.Name "g" ∷ on 1 kind.CloseBrace "}" ∷ on 1 kind.Semicolon ";" ∷ on 2 kind.Mtype "mtype" ∷
    on 2 kind.Assign "=" ∷ on 2 kind.OpenBrace "{" ∷ on 2 kind.Name "ack" ∷ on 2 kind.Comma "," ∷ on 2 kind.Name "nak" ∷
    on 2 kind.CloseBrace "}" ∷ on 2 kind.Semicolon ";" ∷ on 3 kind.Name "R" ∷ on 3 kind.Name "r" ∷ on 3 kind.OpenBracket "[" ∷
    on 3 kind.Number "2" ∷ on 3 kind.CloseBracket "]" ∷ on 3 kind.Semicolon ";" ∷ on 4 kind.Mtype "mtype" ∷ on 4 kind.Name "m" ∷
    on 4 kind.Semicolon ";" ∷ on 5 kind.Unsigned "unsigned" ∷ on 5 kind.Name "u" ∷ on 5 kind.Colon ":" ∷ on 5 kind.Number "3" ∷
    on 5 kind.Semicolon ";" ∷ on 6 kind.Int "int" ∷ on 6 kind.Name "i" ∷ on 6 kind.Assign "=" ∷ on 6 kind.Number "2147483647" ∷
    on 6 kind.Semicolon ";" ∷ on 7 kind.Init "init" ∷ on 7 kind.OpenBrace "{" ∷ on 7 kind.Byte "byte" ∷ on 7 kind.Name "k" ∷
    on 7 kind.Assign "=" ∷ on 7 kind.Number "1" ∷ on 7 kind.Semicolon ";" ∷ on 7 kind.Name "r" ∷ on 7 kind.OpenBracket "[" ∷
    on 7 kind.Name "k" ∷ on 7 kind.CloseBracket "]" ∷ on 7 kind.Dot "." ∷ on 7 kind.Name "f" ∷ on 7 kind.OpenBracket "[" ∷
    on 7 kind.Number "1" ∷ on 7 kind.CloseBracket "]" ∷ on 7 kind.Assign "=" ∷ on 7 kind.Number "300" ∷ on 7 kind.Semicolon ";" ∷
    on 7 kind.Name "m" ∷ on 7 kind.Assign "=" ∷ on 7 kind.Name "nak" ∷ on 7 kind.Semicolon ";" ∷ on 7 kind.Name "u" ∷
    on 7 kind.Assign "=" ∷ on 7 kind.Number "9" ∷ on 7 kind.Semicolon ";" ∷ on 7 kind.Name "i" ∷ on 7 kind.Increment "++" ∷
    on 7 kind.Semicolon ";" ∷ on 7 kind.Name "k" ∷ on 7 kind.Assign "=" ∷ on 7 kind.Name "r" ∷ on 7 kind.OpenBracket "[" ∷
    on 7 kind.Number "1" ∷ on 7 kind.CloseBracket "]" ∷ on 7 kind.Dot "." ∷ on 7 kind.Name "f" ∷ on 7 kind.OpenBracket "[" ∷
    on 7 kind.Number "1" ∷ on 7 kind.CloseBracket "]" ∷ on 7 kind.ShiftRight ">>" ∷ on 7 kind.Number "2" ∷ on 7 kind.Semicolon ";" ∷
    on 7 kind.Name "r" ∷ on 7 kind.OpenBracket "[" ∷ on 7 kind.Number "0" ∷ on 7 kind.CloseBracket "]" ∷ on 7 kind.Dot "." ∷
    on 7 kind.Name "g" ∷ on 7 kind.Assign "=" ∷ on 7 kind.Minus "-" ∷ on 7 kind.Number "40000" ∷ on 7 kind.Semicolon ";" ∷
    on 7 kind.Name "u" ∷ on 7 kind.Assign "=" ∷ on 7 kind.Number "9" ∷ on 7 kind.Slash "/" ∷ on 7 kind.OpenParen "(" ∷
    on 7 kind.Name "k" ∷ on 7 kind.Minus "-" ∷ on 7 kind.Number "11" ∷ on 7 kind.CloseParen ")" ∷ on 7 kind.CloseBrace "}" ∷ []

model-values-of-all-types : Program
unfolding tokens-values-of-all-types
model-values-of-all-types =
    let at : ℕ → Word = token_at tokens-values-of-all-types in
    let part : ℕ → ℕ → List Word = tokens_between tokens-values-of-all-types in
    record {
      globals = (slot (at 22) (form.Struct 1) true 0 2 3 initial.Zero ∷ slot (at 28) mtype false 6 1 1 initial.Zero ∷ slot (at 31)
          (form.Unsigned 3) false 7 1 1 initial.Zero ∷ slot (at 36) int false 8 1 1 (initial.Value (number 2147483647)) ∷ []);
      constants = ((at 18) ∷ (at 16) ∷ []);
      typedefs = (fields 1 (slot (at 4) byte true 0 2 1 initial.Zero ∷ slot (at 10) short false 2 1 1 initial.Zero ∷ []) ∷ []);
      proctypes = (
          process (at 40) 7 1 0 (slot (at 43) byte false 0 1 1 (initial.Value (number 1)) ∷ []) (
          plain (part 47 58) (assign (in_global 0 byte (turn 0 2 3 (Some (read (local 0 byte))) ∷ turn 0 2 1 (Some (number 1)) ∷ []))
          (number 300)) ∷
          plain (part 59 62) (assign (global 1 mtype) (number 1)) ∷
          plain (part 63 66) (assign (global 2 (form.Unsigned 3)) (number 9)) ∷
          plain (part 67 69) (action.Increment (global 3 int)) ∷
          plain (part 70 83) (assign (local 0 byte) (expr.Binary op.ShiftRight (read (in_global 0 byte (turn 0 2 3 (Some (number 1)) ∷
          turn 0 2 1 (Some (number 1)) ∷ []))) (number 2))) ∷
          plain (part 84 93) (assign (in_global 0 short (turn 0 2 3 (Some (number 0)) ∷ turn 2 1 1 None ∷ [])) (expr.Unary before.Minus
          (number 40000))) ∷
          plain (part 94 103) (assign (global 2 (form.Unsigned 3)) (expr.Binary op.Divide (number 9) (expr.Binary op.Minus (read (local
          0 byte)) (number 11)))) ∷ []) (at 103) ∷ []);
    }

row-values-of-all-types : seen (options false true true 1000) model-values-of-all-types (codes "")
    ≡ Some (whole (text (
    "global r[1].f[1] = 44\n" ∷
    "global m = nak\n" ∷
    "global u = 1\n" ∷
    "global i = -2147483648\n" ∷
    "local 0 (:init:) k = 11\n" ∷
    "global r[0].g = 25536\n" ∷
    "fault F2 (zero divisor): step 7: proc 0 (:init:) line 7 [u = 9 / ( k - 11 )]\n" ∷
    [])) (codes "") 2 0)
unfolding computes model-values-of-all-types
row-values-of-all-types = sees (options false true true 1000) model-values-of-all-types (codes "") _ refl

-- no options
-- byte a[2]; init { byte i = 2; a[i] = 1 }
tokens-index-fault : List Word
tokens-index-fault =
    on 1 kind.Byte "byte" ∷ on 1 kind.Name "a" ∷ on 1 kind.OpenBracket "[" ∷ on 1 kind.Number "2" ∷ on 1 kind.CloseBracket "]" ∷
    on 1 kind.Semicolon ";" ∷ on 1 kind.Init "init" ∷ on 1 kind.OpenBrace "{" ∷ on 1 kind.Byte "byte" ∷ on 1 kind.Name "i" ∷
    on 1 kind.Assign "=" ∷ on 1 kind.Number "2" ∷ on 1 kind.Semicolon ";" ∷ on 1 kind.Name "a" ∷ on 1 kind.OpenBracket "[" ∷
    on 1 kind.Name "i" ∷ on 1 kind.CloseBracket "]" ∷ on 1 kind.Assign "=" ∷ on 1 kind.Number "1" ∷ on 1 kind.CloseBrace "}" ∷ []

model-index-fault : Program
unfolding tokens-index-fault
model-index-fault =
    let at : ℕ → Word = token_at tokens-index-fault in
    let part : ℕ → ℕ → List Word = tokens_between tokens-index-fault in
    record {
      globals = (slot (at 1) byte true 0 2 1 initial.Zero ∷ []);
      constants = [];
      typedefs = [];
      proctypes = (
          process (at 6) 2 1 0 (slot (at 9) byte false 0 1 1 (initial.Value (number 2)) ∷ []) (
          plain (part 13 19) (assign (in_global 0 byte (turn 0 2 1 (Some (read (local 0 byte))) ∷ [])) (number 1)) ∷ []) (at 19) ∷ []);
    }

row-index-fault : seen (options false false false 1000) model-index-fault (codes "")
    ≡ Some (whole (text ("fault F3 (index out of range): step 1: proc 0 (:init:) line 1 [a [ i ] = 1]\n" ∷ [])) (codes "") 2 0)
unfolding computes model-index-fault
row-index-fault = sees (options false false false 1000) model-index-fault (codes "") _ refl

-- no options
-- byte a[2]; byte i = 2; init { if :: a[i] == 0 :: skip fi }
tokens-index-fault-in-condition : List Word
tokens-index-fault-in-condition =
    on 1 kind.Byte "byte" ∷ on 1 kind.Name "a" ∷ on 1 kind.OpenBracket "[" ∷ on 1 kind.Number "2" ∷ on 1 kind.CloseBracket "]" ∷
    on 1 kind.Semicolon ";" ∷ on 1 kind.Byte "byte" ∷ on 1 kind.Name "i" ∷ on 1 kind.Assign "=" ∷ on 1 kind.Number "2" ∷
    on 1 kind.Semicolon ";" ∷ on 1 kind.Init "init" ∷ on 1 kind.OpenBrace "{" ∷ on 1 kind.If "if" ∷ on 1 kind.DoubleColon "::" ∷
    on 1 kind.Name "a" ∷ on 1 kind.OpenBracket "[" ∷ on 1 kind.Name "i" ∷ on 1 kind.CloseBracket "]" ∷ on 1 kind.Equal "==" ∷
    on 1 kind.Number "0" ∷ on 1 kind.DoubleColon "::" ∷ on 1 kind.Skip "skip" ∷ on 1 kind.Fi "fi" ∷ on 1 kind.CloseBrace "}" ∷ []

model-index-fault-in-condition : Program
unfolding tokens-index-fault-in-condition
model-index-fault-in-condition =
    let at : ℕ → Word = token_at tokens-index-fault-in-condition in
    let part : ℕ → ℕ → List Word = tokens_between tokens-index-fault-in-condition in
    record {
      globals = (slot (at 1) byte true 0 2 1 initial.Zero ∷ slot (at 7) byte false 2 1 1 (initial.Value (number 2)) ∷ []);
      constants = [];
      typedefs = [];
      proctypes = (
          process (at 11) 3 1 0 [] (
          if_fi (part 13 24) (
          (plain (part 15 21) (holds (expr.Binary op.Equal (read (in_global 0 byte (turn 0 2 1 (Some (read (global 1 byte))) ∷ [])))
          (number 0))) ∷ []) ∷
          (plain (part 22 23) (holds (number 1)) ∷ []) ∷ []) ∷ []) (at 24) ∷ []);
    }

row-index-fault-in-condition : seen (options false false false 1000) model-index-fault-in-condition (codes "1\n")
    ≡ Some (whole (text (
    "choice 1: proc 0 (:init:) line 1 [a [ i ] == 0]\n" ∷
    "choice 2: proc 0 (:init:) line 1 [skip]\n" ∷
    "choose 1..2\n" ∷
    "fault F3 (index out of range): step 1: proc 0 (:init:) line 1 [a [ i ] == 0]\n" ∷
    [])) (codes "1\n") 2 2)
unfolding computes model-index-fault-in-condition
row-index-fault-in-condition = sees (options false false false 1000) model-index-fault-in-condition (codes "1\n") _ refl

-- no options
-- init {(((((((((((((((((((((((((((((((((((((((((((((((((((((((((((((((((((((((((((((((((((((((((((((((((((1))))))))))))))))))))))))))
--     )))))))))))))))))))))))))))))))))))))))))))))))))))))))))))))))))))))))))}
tokens-deep-parentheses : List Word
tokens-deep-parentheses =
    on 1 kind.Init "init" ∷ on 1 kind.OpenBrace "{" ∷ on 1 kind.OpenParen "(" ∷ on 1 kind.OpenParen "(" ∷ on 1 kind.OpenParen "(" ∷
    on 1 kind.OpenParen "(" ∷ on 1 kind.OpenParen "(" ∷ on 1 kind.OpenParen "(" ∷ on 1 kind.OpenParen "(" ∷ on 1 kind.OpenParen "(" ∷
    on 1 kind.OpenParen "(" ∷ on 1 kind.OpenParen "(" ∷ on 1 kind.OpenParen "(" ∷ on 1 kind.OpenParen "(" ∷ on 1 kind.OpenParen "(" ∷
    on 1 kind.OpenParen "(" ∷ on 1 kind.OpenParen "(" ∷ on 1 kind.OpenParen "(" ∷ on 1 kind.OpenParen "(" ∷ on 1 kind.OpenParen "(" ∷
    on 1 kind.OpenParen "(" ∷ on 1 kind.OpenParen "(" ∷ on 1 kind.OpenParen "(" ∷ on 1 kind.OpenParen "(" ∷ on 1 kind.OpenParen "(" ∷
    on 1 kind.OpenParen "(" ∷ on 1 kind.OpenParen "(" ∷ on 1 kind.OpenParen "(" ∷ on 1 kind.OpenParen "(" ∷ on 1 kind.OpenParen "(" ∷
    on 1 kind.OpenParen "(" ∷ on 1 kind.OpenParen "(" ∷ on 1 kind.OpenParen "(" ∷ on 1 kind.OpenParen "(" ∷ on 1 kind.OpenParen "(" ∷
    on 1 kind.OpenParen "(" ∷ on 1 kind.OpenParen "(" ∷ on 1 kind.OpenParen "(" ∷ on 1 kind.OpenParen "(" ∷ on 1 kind.OpenParen "(" ∷
    on 1 kind.OpenParen "(" ∷ on 1 kind.OpenParen "(" ∷ on 1 kind.OpenParen "(" ∷ on 1 kind.OpenParen "(" ∷ on 1 kind.OpenParen "(" ∷
    on 1 kind.OpenParen "(" ∷ on 1 kind.OpenParen "(" ∷ on 1 kind.OpenParen "(" ∷ on 1 kind.OpenParen "(" ∷ on 1 kind.OpenParen "(" ∷
    on 1 kind.OpenParen "(" ∷ on 1 kind.OpenParen "(" ∷ on 1 kind.OpenParen "(" ∷ on 1 kind.OpenParen "(" ∷ on 1 kind.OpenParen "(" ∷
    on 1 kind.OpenParen "(" ∷ on 1 kind.OpenParen "(" ∷ on 1 kind.OpenParen "(" ∷ on 1 kind.OpenParen "(" ∷ on 1 kind.OpenParen "(" ∷
    on 1 kind.OpenParen "(" ∷ on 1 kind.OpenParen "(" ∷ on 1 kind.OpenParen "(" ∷ on 1 kind.OpenParen "(" ∷ on 1 kind.OpenParen "(" ∷
    on 1 kind.OpenParen "(" ∷ on 1 kind.OpenParen "(" ∷ on 1 kind.OpenParen "(" ∷ on 1 kind.OpenParen "(" ∷ on 1 kind.OpenParen "(" ∷
    on 1 kind.OpenParen "(" ∷ on 1 kind.OpenParen "(" ∷ on 1 kind.OpenParen "(" ∷ on 1 kind.OpenParen "(" ∷ on 1 kind.OpenParen "(" ∷
    on 1 kind.OpenParen "(" ∷ on 1 kind.OpenParen "(" ∷ on 1 kind.OpenParen "(" ∷ on 1 kind.OpenParen "(" ∷ on 1 kind.OpenParen "(" ∷
    on 1 kind.OpenParen "(" ∷ on 1 kind.OpenParen "(" ∷ on 1 kind.OpenParen "(" ∷ on 1 kind.OpenParen "(" ∷ on 1 kind.OpenParen "(" ∷
    on 1 kind.OpenParen "(" ∷ on 1 kind.OpenParen "(" ∷ on 1 kind.OpenParen "(" ∷ on 1 kind.OpenParen "(" ∷ on 1 kind.OpenParen "(" ∷
    on 1 kind.OpenParen "(" ∷ on 1 kind.OpenParen "(" ∷ on 1 kind.OpenParen "(" ∷ on 1 kind.OpenParen "(" ∷ on 1 kind.OpenParen "(" ∷
    on 1 kind.OpenParen "(" ∷ on 1 kind.OpenParen "(" ∷ on 1 kind.OpenParen "(" ∷ on 1 kind.OpenParen "(" ∷ on 1 kind.OpenParen "(" ∷
    on 1 kind.OpenParen "(" ∷ on 1 kind.Number "1" ∷ on 1 kind.CloseParen ")" ∷ on 1 kind.CloseParen ")" ∷ on 1 kind.CloseParen ")" ∷
    on 1 kind.CloseParen ")" ∷ on 1 kind.CloseParen ")" ∷ on 1 kind.CloseParen ")" ∷ on 1 kind.CloseParen ")" ∷
    on 1 kind.CloseParen ")" ∷ on 1 kind.CloseParen ")" ∷ on 1 kind.CloseParen ")" ∷ on 1 kind.CloseParen ")" ∷
    on 1 kind.CloseParen ")" ∷ on 1 kind.CloseParen ")" ∷ on 1 kind.CloseParen ")" ∷ on 1 kind.CloseParen ")" ∷
    on 1 kind.CloseParen ")" ∷ on 1 kind.CloseParen ")" ∷ on 1 kind.CloseParen ")" ∷ on 1 kind.CloseParen ")" ∷
    on 1 kind.CloseParen ")" ∷ on 1 kind.CloseParen ")" ∷ on 1 kind.CloseParen ")" ∷ on 1 kind.CloseParen ")" ∷
    on 1 kind.CloseParen ")" ∷ on 1 kind.CloseParen ")" ∷ on 1 kind.CloseParen ")" ∷ on 1 kind.CloseParen ")" ∷
    on 1 kind.CloseParen ")" ∷ on 1 kind.CloseParen ")" ∷ on 1 kind.CloseParen ")" ∷ on 1 kind.CloseParen ")" ∷
    on 1 kind.CloseParen ")" ∷ on 1 kind.CloseParen ")" ∷ on 1 kind.CloseParen ")" ∷ on 1 kind.CloseParen ")" ∷
    on 1 kind.CloseParen ")" ∷ on 1 kind.CloseParen ")" ∷ on 1 kind.CloseParen ")" ∷ on 1 kind.CloseParen ")" ∷
    on 1 kind.CloseParen ")" ∷ on 1 kind.CloseParen ")" ∷ on 1 kind.CloseParen ")" ∷ on 1 kind.CloseParen ")" ∷
    on 1 kind.CloseParen ")" ∷ on 1 kind.CloseParen ")" ∷ on 1 kind.CloseParen ")" ∷ on 1 kind.CloseParen ")" ∷
    on 1 kind.CloseParen ")" ∷ on 1 kind.CloseParen ")" ∷ on 1 kind.CloseParen ")" ∷ on 1 kind.CloseParen ")" ∷
    on 1 kind.CloseParen ")" ∷ on 1 kind.CloseParen ")" ∷ on 1 kind.CloseParen ")" ∷ on 1 kind.CloseParen ")" ∷
    on 1 kind.CloseParen ")" ∷ on 1 kind.CloseParen ")" ∷ on 1 kind.CloseParen ")" ∷ on 1 kind.CloseParen ")" ∷
    on 1 kind.CloseParen ")" ∷ on 1 kind.CloseParen ")" ∷ on 1 kind.CloseParen ")" ∷ on 1 kind.CloseParen ")" ∷
    on 1 kind.CloseParen ")" ∷ on 1 kind.CloseParen ")" ∷ on 1 kind.CloseParen ")" ∷ on 1 kind.CloseParen ")" ∷
    on 1 kind.CloseParen ")" ∷ on 1 kind.CloseParen ")" ∷ on 1 kind.CloseParen ")" ∷ on 1 kind.CloseParen ")" ∷
    on 1 kind.CloseParen ")" ∷ on 1 kind.CloseParen ")" ∷ on 1 kind.CloseParen ")" ∷ on 1 kind.CloseParen ")" ∷
    on 1 kind.CloseParen ")" ∷ on 1 kind.CloseParen ")" ∷ on 1 kind.CloseParen ")" ∷ on 1 kind.CloseParen ")" ∷
    on 1 kind.CloseParen ")" ∷ on 1 kind.CloseParen ")" ∷ on 1 kind.CloseParen ")" ∷ on 1 kind.CloseParen ")" ∷
    on 1 kind.CloseParen ")" ∷ on 1 kind.CloseParen ")" ∷ on 1 kind.CloseParen ")" ∷ on 1 kind.CloseParen ")" ∷
    on 1 kind.CloseParen ")" ∷ on 1 kind.CloseParen ")" ∷ on 1 kind.CloseParen ")" ∷ on 1 kind.CloseParen ")" ∷
    on 1 kind.CloseParen ")" ∷ on 1 kind.CloseParen ")" ∷ on 1 kind.CloseParen ")" ∷ on 1 kind.CloseParen ")" ∷
    on 1 kind.CloseParen ")" ∷ on 1 kind.CloseParen ")" ∷ on 1 kind.CloseParen ")" ∷ on 1 kind.CloseParen ")" ∷
    on 1 kind.CloseBrace "}" ∷ []

model-deep-parentheses : Program
unfolding tokens-deep-parentheses
model-deep-parentheses =
    let at : ℕ → Word = token_at tokens-deep-parentheses in
    let part : ℕ → ℕ → List Word = tokens_between tokens-deep-parentheses in
    record {
      globals = [];
      constants = [];
      typedefs = [];
      proctypes = (
          process (at 0) 1 1 0 [] (
          plain (part 2 201) (holds (number 1)) ∷ []) (at 201) ∷ []);
    }

row-deep-parentheses : seen (options false false false 1000) model-deep-parentheses (codes "")
    ≡ Some (whole (text ("end: valid, steps 2\n" ∷ [])) (codes "") 0 0)
unfolding computes model-deep-parentheses
row-deep-parentheses = sees (options false false false 1000) model-deep-parentheses (codes "") _ refl

-- no options
-- # 1 "m.pml"
-- init { skip }
tokens-hash-line : List Word
tokens-hash-line =
    on 2 kind.Init "init" ∷ on 2 kind.OpenBrace "{" ∷ on 2 kind.Skip "skip" ∷ on 2 kind.CloseBrace "}" ∷ []

model-hash-line : Program
unfolding tokens-hash-line
model-hash-line =
    let at : ℕ → Word = token_at tokens-hash-line in
    let part : ℕ → ℕ → List Word = tokens_between tokens-hash-line in
    record {
      globals = [];
      constants = [];
      typedefs = [];
      proctypes = (
          process (at 0) 1 1 0 [] (
          plain (part 2 3) (holds (number 1)) ∷ []) (at 3) ∷ []);
    }

row-hash-line : seen (options false false false 1000) model-hash-line (codes "")
    ≡ Some (whole (text ("end: valid, steps 2\n" ∷ [])) (codes "") 0 0)
unfolding computes model-hash-line
row-hash-line = sees (options false false false 1000) model-hash-line (codes "") _ refl

-- no options
-- mtype = { ack, nak }; init { printf("%e %d%% %x\n", nak, ack, -1); printm(7) }
tokens-names-and-numbers : List Word
tokens-names-and-numbers =
    on 1 kind.Mtype "mtype" ∷ on 1 kind.Assign "=" ∷ on 1 kind.OpenBrace "{" ∷ on 1 kind.Name "ack" ∷ on 1 kind.Comma "," ∷
    on 1 kind.Name "nak" ∷ on 1 kind.CloseBrace "}" ∷ on 1 kind.Semicolon ";" ∷ on 1 kind.Init "init" ∷ on 1 kind.OpenBrace "{" ∷
    on 1 kind.Printf "printf" ∷ on 1 kind.OpenParen "(" ∷ on 1 kind.Quoted "\"%e %d%% %x\\n\"" ∷ on 1 kind.Comma "," ∷
    on 1 kind.Name "nak" ∷ on 1 kind.Comma "," ∷ on 1 kind.Name "ack" ∷ on 1 kind.Comma "," ∷ on 1 kind.Minus "-" ∷
    on 1 kind.Number "1" ∷ on 1 kind.CloseParen ")" ∷ on 1 kind.Semicolon ";" ∷ on 1 kind.Printm "printm" ∷ on 1 kind.OpenParen "(" ∷
    on 1 kind.Number "7" ∷ on 1 kind.CloseParen ")" ∷ on 1 kind.CloseBrace "}" ∷ []

model-names-and-numbers : Program
unfolding tokens-names-and-numbers
model-names-and-numbers =
    let at : ℕ → Word = token_at tokens-names-and-numbers in
    let part : ℕ → ℕ → List Word = tokens_between tokens-names-and-numbers in
    record {
      globals = [];
      constants = ((at 5) ∷ (at 3) ∷ []);
      typedefs = [];
      proctypes = (
          process (at 8) 2 1 0 [] (
          plain (part 10 21) (action.Printf (at 12) ((number 1) ∷ (number 2) ∷ (expr.Unary before.Minus (number 1)) ∷ [])) ∷
          plain (part 22 26) (action.Printm (number 7)) ∷ []) (at 26) ∷ []);
    }

row-names-and-numbers : seen (options false false false 1000) model-names-and-numbers (codes "")
    ≡ Some (whole (text (
    "nak 2% ffffffff\n" ∷
    "7end: valid, steps 3\n" ∷
    [])) (codes "") 0 0)
unfolding computes model-names-and-numbers
row-names-and-numbers = sees (options false false false 1000) model-names-and-numbers (codes "") _ refl

-- -p
-- byte x; init { if :: x = 1 :: printf("%c%o %u\n", 65, 8, -1); x = 2 fi; assert x == 1 }
tokens-assertion-after-printing : List Word
tokens-assertion-after-printing =
    on 1 kind.Byte "byte" ∷ on 1 kind.Name "x" ∷ on 1 kind.Semicolon ";" ∷ on 1 kind.Init "init" ∷ on 1 kind.OpenBrace "{" ∷
    on 1 kind.If "if" ∷ on 1 kind.DoubleColon "::" ∷ on 1 kind.Name "x" ∷ on 1 kind.Assign "=" ∷ on 1 kind.Number "1" ∷
    on 1 kind.DoubleColon "::" ∷ on 1 kind.Printf "printf" ∷ on 1 kind.OpenParen "(" ∷ on 1 kind.Quoted "\"%c%o %u\\n\"" ∷
    on 1 kind.Comma "," ∷ on 1 kind.Number "65" ∷ on 1 kind.Comma "," ∷ on 1 kind.Number "8" ∷ on 1 kind.Comma "," ∷
    on 1 kind.Minus "-" ∷ on 1 kind.Number "1" ∷ on 1 kind.CloseParen ")" ∷ on 1 kind.Semicolon ";" ∷ on 1 kind.Name "x" ∷
    on 1 kind.Assign "=" ∷ on 1 kind.Number "2" ∷ on 1 kind.Fi "fi" ∷ on 1 kind.Semicolon ";" ∷ on 1 kind.Assert "assert" ∷
    on 1 kind.Name "x" ∷ on 1 kind.Equal "==" ∷ on 1 kind.Number "1" ∷ on 1 kind.CloseBrace "}" ∷ []

model-assertion-after-printing : Program
unfolding tokens-assertion-after-printing
model-assertion-after-printing =
    let at : ℕ → Word = token_at tokens-assertion-after-printing in
    let part : ℕ → ℕ → List Word = tokens_between tokens-assertion-after-printing in
    record {
      globals = (slot (at 1) byte false 0 1 1 initial.Zero ∷ []);
      constants = [];
      typedefs = [];
      proctypes = (
          process (at 3) 2 1 0 [] (
          if_fi (part 5 27) (
          (plain (part 7 10) (assign (global 0 byte) (number 1)) ∷ []) ∷
          (plain (part 11 22) (action.Printf (at 13) ((number 65) ∷ (number 8) ∷ (expr.Unary before.Minus (number 1)) ∷ [])) ∷
          plain (part 23 26) (assign (global 0 byte) (number 2)) ∷ []) ∷ []) ∷
          plain (part 28 32) (action.Assert (expr.Binary op.Equal (read (global 0 byte)) (number 1))) ∷ []) (at 32) ∷ []);
    }

row-assertion-after-printing : seen (options true false false 1000) model-assertion-after-printing (codes "2\n")
    ≡ Some (whole (text (
    "choice 1: proc 0 (:init:) line 1 [x = 1]\n" ∷
    "choice 2: proc 0 (:init:) line 1 [printf ( \"%c%o %u\\n\" , 65 , 8 , - 1 )]\n" ∷
    "choose 1..2\n" ∷
    "step 1: proc 0 (:init:) line 1 [printf ( \"%c%o %u\\n\" , 65 , 8 , - 1 )]\n" ∷
    "A10 4294967295\n" ∷
    "step 2: proc 0 (:init:) line 1 [x = 2]\n" ∷
    "fault F1 (assertion violated): step 3: proc 0 (:init:) line 1 [assert x == 1]\n" ∷
    [])) (codes "2\n") 2 2)
unfolding computes model-assertion-after-printing
row-assertion-after-printing = sees (options true false false 1000) model-assertion-after-printing (codes "2\n") _ refl

-- -p -g -l
-- mtype = { a, b }; init { printf("%d %u %o %x %c %e %e %%\t\\n|", -5, -1, 8, 255, 65, 1, 9); printm(b) }
tokens-printf-all : List Word
tokens-printf-all =
    on 1 kind.Mtype "mtype" ∷ on 1 kind.Assign "=" ∷ on 1 kind.OpenBrace "{" ∷ on 1 kind.Name "a" ∷ on 1 kind.Comma "," ∷
    on 1 kind.Name "b" ∷ on 1 kind.CloseBrace "}" ∷ on 1 kind.Semicolon ";" ∷ on 1 kind.Init "init" ∷ on 1 kind.OpenBrace "{" ∷
    on 1 kind.Printf "printf" ∷ on 1 kind.OpenParen "(" ∷ on 1 kind.Quoted "\"%d %u %o %x %c %e %e %%\\t\\\\n|\"" ∷
    on 1 kind.Comma "," ∷ on 1 kind.Minus "-" ∷ on 1 kind.Number "5" ∷ on 1 kind.Comma "," ∷ on 1 kind.Minus "-" ∷
    on 1 kind.Number "1" ∷ on 1 kind.Comma "," ∷ on 1 kind.Number "8" ∷ on 1 kind.Comma "," ∷ on 1 kind.Number "255" ∷
    on 1 kind.Comma "," ∷ on 1 kind.Number "65" ∷ on 1 kind.Comma "," ∷ on 1 kind.Number "1" ∷ on 1 kind.Comma "," ∷
    on 1 kind.Number "9" ∷ on 1 kind.CloseParen ")" ∷ on 1 kind.Semicolon ";" ∷ on 1 kind.Printm "printm" ∷ on 1 kind.OpenParen "(" ∷
    on 1 kind.Name "b" ∷ on 1 kind.CloseParen ")" ∷ on 1 kind.CloseBrace "}" ∷ []

model-printf-all : Program
unfolding tokens-printf-all
model-printf-all =
    let at : ℕ → Word = token_at tokens-printf-all in
    let part : ℕ → ℕ → List Word = tokens_between tokens-printf-all in
    record {
      globals = [];
      constants = ((at 5) ∷ (at 3) ∷ []);
      typedefs = [];
      proctypes = (
          process (at 8) 2 1 0 [] (
          plain (part 10 30) (action.Printf (at 12) ((expr.Unary before.Minus (number 5)) ∷ (expr.Unary before.Minus (number 1)) ∷
          (number 8) ∷ (number 255) ∷ (number 65) ∷ (number 1) ∷ (number 9) ∷ [])) ∷
          plain (part 31 35) (action.Printm (number 1)) ∷ []) (at 35) ∷ []);
    }

row-printf-all : seen (options true true true 200) model-printf-all (codes "")
    ≡ Some (whole (text (
    "step 1: proc 0 (:init:) line 1 [printf ( \"%d %u %o %x %c %e %e %%\\t\\\\n|\" , - 5 , - 1 , 8 , 255 , 65 , 1 , 9 )]" ∷
    "\n" ∷
    "-5 4294967295 10 ff A b 9 %\t\\n|step 2: proc 0 (:init:) line 1 [printm ( b )]\n" ∷
    "bstep 3: proc 0 (:init:) line 1 [-end-]\n" ∷
    "end: valid, steps 3\n" ∷
    [])) (codes "") 0 0)
unfolding computes model-printf-all
row-printf-all = sees (options true true true 200) model-printf-all (codes "") _ refl

-- -p -g -l
-- byte x; init { x = 2; assert(x == 3) }
tokens-assertion : List Word
tokens-assertion =
    on 1 kind.Byte "byte" ∷ on 1 kind.Name "x" ∷ on 1 kind.Semicolon ";" ∷ on 1 kind.Init "init" ∷ on 1 kind.OpenBrace "{" ∷
    on 1 kind.Name "x" ∷ on 1 kind.Assign "=" ∷ on 1 kind.Number "2" ∷ on 1 kind.Semicolon ";" ∷ on 1 kind.Assert "assert" ∷
    on 1 kind.OpenParen "(" ∷ on 1 kind.Name "x" ∷ on 1 kind.Equal "==" ∷ on 1 kind.Number "3" ∷ on 1 kind.CloseParen ")" ∷
    on 1 kind.CloseBrace "}" ∷ []

model-assertion : Program
unfolding tokens-assertion
model-assertion =
    let at : ℕ → Word = token_at tokens-assertion in
    let part : ℕ → ℕ → List Word = tokens_between tokens-assertion in
    record {
      globals = (slot (at 1) byte false 0 1 1 initial.Zero ∷ []);
      constants = [];
      typedefs = [];
      proctypes = (
          process (at 3) 2 1 0 [] (
          plain (part 5 8) (assign (global 0 byte) (number 2)) ∷
          plain (part 9 15) (action.Assert (expr.Binary op.Equal (read (global 0 byte)) (number 3))) ∷ []) (at 15) ∷ []);
    }

row-assertion : seen (options true true true 200) model-assertion (codes "")
    ≡ Some (whole (text (
    "step 1: proc 0 (:init:) line 1 [x = 2]\n" ∷
    "global x = 2\n" ∷
    "fault F1 (assertion violated): step 2: proc 0 (:init:) line 1 [assert ( x == 3 )]\n" ∷
    [])) (codes "") 2 0)
unfolding computes model-assertion
row-assertion = sees (options true true true 200) model-assertion (codes "") _ refl

-- -p -g -l
-- proctype P() { byte z; byte y = 1 / z; skip } init { run P() }
tokens-initialiser-fault : List Word
tokens-initialiser-fault =
    on 1 kind.Proctype "proctype" ∷ on 1 kind.Name "P" ∷ on 1 kind.OpenParen "(" ∷ on 1 kind.CloseParen ")" ∷
    on 1 kind.OpenBrace "{" ∷ on 1 kind.Byte "byte" ∷ on 1 kind.Name "z" ∷ on 1 kind.Semicolon ";" ∷ on 1 kind.Byte "byte" ∷
    on 1 kind.Name "y" ∷ on 1 kind.Assign "=" ∷ on 1 kind.Number "1" ∷ on 1 kind.Slash "/" ∷ on 1 kind.Name "z" ∷
    on 1 kind.Semicolon ";" ∷ on 1 kind.Skip "skip" ∷ on 1 kind.CloseBrace "}" ∷ on 1 kind.Init "init" ∷ on 1 kind.OpenBrace "{" ∷
    on 1 kind.Run "run" ∷ on 1 kind.Name "P" ∷ on 1 kind.OpenParen "(" ∷ on 1 kind.CloseParen ")" ∷ on 1 kind.CloseBrace "}" ∷ []

model-initialiser-fault : Program
unfolding tokens-initialiser-fault
model-initialiser-fault =
    let at : ℕ → Word = token_at tokens-initialiser-fault in
    let part : ℕ → ℕ → List Word = tokens_between tokens-initialiser-fault in
    record {
      globals = [];
      constants = [];
      typedefs = [];
      proctypes = (
          process (at 1) 1 0 0 (slot (at 6) byte false 0 1 1 initial.Zero ∷ slot (at 9) byte false 1 1 1 (initial.Value (expr.Binary
          op.Divide (number 1) (read (local 0 byte)))) ∷ []) (
          plain (part 15 16) (holds (number 1)) ∷ []) (at 16) ∷
          process (at 17) 2 1 0 [] (
          plain (part 19 23) (action.Run (run 0 [])) ∷ []) (at 23) ∷ []);
    }

row-initialiser-fault : seen (options true true true 200) model-initialiser-fault (codes "")
    ≡ Some (whole (text ("fault F2 (zero divisor): step 1: proc 0 (:init:) line 1 [run P ( )]\n" ∷ [])) (codes "") 2 0)
unfolding computes model-initialiser-fault
row-initialiser-fault = sees (options true true true 200) model-initialiser-fault (codes "") _ refl

-- -p -g -l
-- chan q; init { q!1 }
tokens-no-such-channel : List Word
tokens-no-such-channel =
    on 1 kind.Chan "chan" ∷ on 1 kind.Name "q" ∷ on 1 kind.Semicolon ";" ∷ on 1 kind.Init "init" ∷ on 1 kind.OpenBrace "{" ∷
    on 1 kind.Name "q" ∷ on 1 kind.Bang "!" ∷ on 1 kind.Number "1" ∷ on 1 kind.CloseBrace "}" ∷ []

model-no-such-channel : Program
unfolding tokens-no-such-channel
model-no-such-channel =
    let at : ℕ → Word = token_at tokens-no-such-channel in
    let part : ℕ → ℕ → List Word = tokens_between tokens-no-such-channel in
    record {
      globals = (slot (at 1) chan false 0 1 1 initial.Zero ∷ []);
      constants = [];
      typedefs = [];
      proctypes = (
          process (at 3) 2 1 0 [] (
          plain (part 5 8) (action.Send (global 0 chan) Fifo ((number 1) ∷ [])) ∷ []) (at 8) ∷ []);
    }

row-no-such-channel : seen (options true true true 200) model-no-such-channel (codes "")
    ≡ Some (whole (text ("fault F4 (no such channel): step 1: proc 0 (:init:) line 1 [q ! 1]\n" ∷ [])) (codes "") 2 0)
unfolding computes model-no-such-channel
row-no-such-channel = sees (options true true true 200) model-no-such-channel (codes "") _ refl

-- -l
-- chan q = [0] of { byte }; active proctype S() { q!257 } active proctype R() { byte y; q?y }
tokens-message-cut : List Word
tokens-message-cut =
    on 1 kind.Chan "chan" ∷ on 1 kind.Name "q" ∷ on 1 kind.Assign "=" ∷ on 1 kind.OpenBracket "[" ∷ on 1 kind.Number "0" ∷
    on 1 kind.CloseBracket "]" ∷ on 1 kind.Of "of" ∷ on 1 kind.OpenBrace "{" ∷ on 1 kind.Byte "byte" ∷ on 1 kind.CloseBrace "}" ∷
    on 1 kind.Semicolon ";" ∷ on 1 kind.Active "active" ∷ on 1 kind.Proctype "proctype" ∷ on 1 kind.Name "S" ∷
    on 1 kind.OpenParen "(" ∷ on 1 kind.CloseParen ")" ∷ on 1 kind.OpenBrace "{" ∷ on 1 kind.Name "q" ∷ on 1 kind.Bang "!" ∷
    on 1 kind.Number "257" ∷ on 1 kind.CloseBrace "}" ∷ on 1 kind.Active "active" ∷ on 1 kind.Proctype "proctype" ∷
    on 1 kind.Name "R" ∷ on 1 kind.OpenParen "(" ∷ on 1 kind.CloseParen ")" ∷ on 1 kind.OpenBrace "{" ∷ on 1 kind.Byte "byte" ∷
    on 1 kind.Name "y" ∷ on 1 kind.Semicolon ";" ∷ on 1 kind.Name "q" ∷ on 1 kind.Query "?" ∷ on 1 kind.Name "y" ∷
    on 1 kind.CloseBrace "}" ∷ []

model-message-cut : Program
unfolding tokens-message-cut
model-message-cut =
    let at : ℕ → Word = token_at tokens-message-cut in
    let part : ℕ → ℕ → List Word = tokens_between tokens-message-cut in
    record {
      globals = (slot (at 1) chan false 0 1 1 (initial.Channel 0 (byte ∷ [])) ∷ []);
      constants = [];
      typedefs = [];
      proctypes = (
          process (at 13) 2 1 0 [] (
          plain (part 17 20) (action.Send (global 0 chan) Fifo ((number 257) ∷ [])) ∷ []) (at 20) ∷
          process (at 23) 3 1 0 (slot (at 28) byte false 0 1 1 initial.Zero ∷ []) (
          plain (part 30 33) (action.Receive (global 0 chan) First Remove (want.Into (local 0 byte) ∷ [])) ∷ []) (at 33) ∷ []);
    }

row-message-cut : seen (options false false true 1000) model-message-cut (codes "")
    ≡ Some (whole (text (
    "local 1 (R) y = 1\n" ∷
    "end: valid, steps 3\n" ∷
    [])) (codes "") 0 0)
unfolding computes model-message-cut
row-message-cut = sees (options false false true 1000) model-message-cut (codes "") _ refl

-- -p -g -l
-- proctype P(byte a; short b) { byte c = a; a = _pid } init { byte n; n = run P(257, -1); n = _nr_pr }
tokens-run-arguments : List Word
tokens-run-arguments =
    on 1 kind.Proctype "proctype" ∷ on 1 kind.Name "P" ∷ on 1 kind.OpenParen "(" ∷ on 1 kind.Byte "byte" ∷ on 1 kind.Name "a" ∷
    on 1 kind.Semicolon ";" ∷ on 1 kind.Short "short" ∷ on 1 kind.Name "b" ∷ on 1 kind.CloseParen ")" ∷ on 1 kind.OpenBrace "{" ∷
    on 1 kind.Byte "byte" ∷ on 1 kind.Name "c" ∷ on 1 kind.Assign "=" ∷ on 1 kind.Name "a" ∷ on 1 kind.Semicolon ";" ∷
    on 1 kind.Name "a" ∷ on 1 kind.Assign "=" ∷ on 1 kind.Name "_pid" ∷ on 1 kind.CloseBrace "}" ∷ on 1 kind.Init "init" ∷
    on 1 kind.OpenBrace "{" ∷ on 1 kind.Byte "byte" ∷ on 1 kind.Name "n" ∷ on 1 kind.Semicolon ";" ∷ on 1 kind.Name "n" ∷
    on 1 kind.Assign "=" ∷ on 1 kind.Run "run" ∷ on 1 kind.Name "P" ∷ on 1 kind.OpenParen "(" ∷ on 1 kind.Number "257" ∷
    on 1 kind.Comma "," ∷ on 1 kind.Minus "-" ∷ on 1 kind.Number "1" ∷ on 1 kind.CloseParen ")" ∷ on 1 kind.Semicolon ";" ∷
    on 1 kind.Name "n" ∷ on 1 kind.Assign "=" ∷ on 1 kind.Name "_nr_pr" ∷ on 1 kind.CloseBrace "}" ∷ []

model-run-arguments : Program
unfolding tokens-run-arguments
model-run-arguments =
    let at : ℕ → Word = token_at tokens-run-arguments in
    let part : ℕ → ℕ → List Word = tokens_between tokens-run-arguments in
    record {
      globals = [];
      constants = [];
      typedefs = [];
      proctypes = (
          process (at 1) 1 0 2 (slot (at 4) byte false 0 1 1 initial.Zero ∷ slot (at 7) short false 1 1 1 initial.Zero ∷ slot (at 11)
          byte false 2 1 1 (initial.Value (read (local 0 byte))) ∷ []) (
          plain (part 15 18) (assign (local 0 byte) expr.Pid) ∷ []) (at 18) ∷
          process (at 19) 2 1 0 (slot (at 22) byte false 0 1 1 initial.Zero ∷ []) (
          plain (part 24 34) (action.AssignRun (Some (local 0 byte)) (run 0 ((number 257) ∷ (expr.Unary before.Minus (number 1)) ∷ []))) ∷
          plain (part 35 38) (assign (local 0 byte) expr.ProcessCount) ∷ []) (at 38) ∷ []);
    }

row-run-arguments : seen (options true true true 200) model-run-arguments (codes "2\n1\n1\n1\n1\n")
    ≡ Some (whole (text (
    "step 1: proc 0 (:init:) line 1 [n = run P ( 257 , - 1 )]\n" ∷
    "local 0 (:init:) n = 1\n" ∷
    "choice 1: proc 0 (:init:) line 1 [n = _nr_pr]\n" ∷
    "choice 2: proc 1 (P) line 1 [a = _pid]\n" ∷
    "choose 1..2\n" ∷
    "step 2: proc 1 (P) line 1 [a = _pid]\n" ∷
    "choice 1: proc 0 (:init:) line 1 [n = _nr_pr]\n" ∷
    "choice 2: proc 1 (P) line 1 [-end-]\n" ∷
    "choose 1..2\n" ∷
    "step 3: proc 0 (:init:) line 1 [n = _nr_pr]\n" ∷
    "local 0 (:init:) n = 2\n" ∷
    "step 4: proc 1 (P) line 1 [-end-]\n" ∷
    "step 5: proc 0 (:init:) line 1 [-end-]\n" ∷
    "end: valid, steps 5\n" ∷
    [])) (codes "2\n1\n") 0 4)
unfolding computes model-run-arguments
row-run-arguments = sees (options true true true 200) model-run-arguments (codes "2\n1\n1\n1\n1\n") _ refl

-- -p -g
-- byte a[3];
-- proctype P() { skip }
-- init { a[_nr_pr] = run P() }
tokens-run-into-an-index : List Word
tokens-run-into-an-index =
    on 1 kind.Byte "byte" ∷ on 1 kind.Name "a" ∷ on 1 kind.OpenBracket "[" ∷ on 1 kind.Number "3" ∷ on 1 kind.CloseBracket "]" ∷
    on 1 kind.Semicolon ";" ∷ on 2 kind.Proctype "proctype" ∷ on 2 kind.Name "P" ∷ on 2 kind.OpenParen "(" ∷
    on 2 kind.CloseParen ")" ∷ on 2 kind.OpenBrace "{" ∷ on 2 kind.Skip "skip" ∷ on 2 kind.CloseBrace "}" ∷ on 3 kind.Init "init" ∷
    on 3 kind.OpenBrace "{" ∷ on 3 kind.Name "a" ∷ on 3 kind.OpenBracket "[" ∷ on 3 kind.Name "_nr_pr" ∷ on 3 kind.CloseBracket "]" ∷
    on 3 kind.Assign "=" ∷ on 3 kind.Run "run" ∷ on 3 kind.Name "P" ∷ on 3 kind.OpenParen "(" ∷ on 3 kind.CloseParen ")" ∷
    on 3 kind.CloseBrace "}" ∷ []

model-run-into-an-index : Program
unfolding tokens-run-into-an-index
model-run-into-an-index =
    let at : ℕ → Word = token_at tokens-run-into-an-index in
    let part : ℕ → ℕ → List Word = tokens_between tokens-run-into-an-index in
    record {
      globals = (slot (at 1) byte true 0 3 1 initial.Zero ∷ []);
      constants = [];
      typedefs = [];
      proctypes = (
          process (at 7) 2 0 0 [] (
          plain (part 11 12) (holds (number 1)) ∷ []) (at 12) ∷
          process (at 13) 3 1 0 [] (
          plain (part 15 24) (action.AssignRun (Some (in_global 0 byte (turn 0 3 1 (Some expr.ProcessCount) ∷ []))) (run 0 [])) ∷ [])
          (at 24) ∷ []);
    }

row-run-into-an-index : seen (options true true false 1000) model-run-into-an-index (codes "")
    ≡ Some (whole (text (
    "step 1: proc 0 (:init:) line 3 [a [ _nr_pr ] = run P ( )]\n" ∷
    "global a[2] = 1\n" ∷
    "step 2: proc 1 (P) line 2 [skip]\n" ∷
    "step 3: proc 1 (P) line 2 [-end-]\n" ∷
    "step 4: proc 0 (:init:) line 3 [-end-]\n" ∷
    "end: valid, steps 4\n" ∷
    [])) (codes "") 0 0)
unfolding computes model-run-into-an-index
row-run-into-an-index = sees (options true true false 1000) model-run-into-an-index (codes "") _ refl
