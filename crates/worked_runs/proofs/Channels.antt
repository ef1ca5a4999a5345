-- Runs: buffered channels, and the processes that make them. `tools/model-data` made the data of their models.
use Rattle.std.proofs.Common.{◌≡◌, ℕ, List, [], ◌∷◌, true, false, refl, Some}
use Rattle.std.specs.Prelude.{codes, pos}
use Rattle.pml_token.specs.Word.{Word}
use Rattle.pml_tree.specs.declared.tree.Search.TheVariants.{First, Matching}
use Rattle.pml_tree.specs.declared.tree.Removal.TheVariants.{Remove, Keep}
use Rattle.pml_tree.specs.declared.tree.SendOrder.TheVariants.{Fifo, Sorted}
use Rattle.pml_program.specs.declared.program.Program.{Program}
use Rattle.worked_runs.specs.Seen.{seen}
use Rattle.worked_runs.proofs.Models.{on, token_at, tokens_between, byte, chan, mtype, slot, turn, in_global, local, global, number, read, run, assign, holds, plain, if_fi, process, options, text, whole}
use Rattle.worked_runs.proofs.Same.{computes, sees}
use Rattle.pml_token.specs.declared.token.Kind.TheVariants as kind
use Rattle.pml_tree.specs.declared.tree.Infix.TheVariants as op
use Rattle.pml_tree.specs.declared.tree.Fill.TheVariants as fill
use Rattle.pml_program.specs.declared.expr.Expr.TheVariants as expr
use Rattle.pml_program.specs.declared.expr.Want.TheVariants as want
use Rattle.pml_program.specs.declared.program.Initial.TheVariants as initial
use Rattle.pml_program.specs.declared.program.Action.TheVariants as action

-- -g
-- chan q = [4] of { byte, byte }; byte x; init { q!!3,1; q!!1,9; q!!2,5; q!!1,4; q??2,x; q??1,x; q?1,x; q?3(x) }
tokens-sorted-channel : List Word
tokens-sorted-channel =
    on 1 kind.Chan "chan" ∷ on 1 kind.Name "q" ∷ on 1 kind.Assign "=" ∷ on 1 kind.OpenBracket "[" ∷ on 1 kind.Number "4" ∷
    on 1 kind.CloseBracket "]" ∷ on 1 kind.Of "of" ∷ on 1 kind.OpenBrace "{" ∷ on 1 kind.Byte "byte" ∷ on 1 kind.Comma "," ∷
    on 1 kind.Byte "byte" ∷ on 1 kind.CloseBrace "}" ∷ on 1 kind.Semicolon ";" ∷ on 1 kind.Byte "byte" ∷ on 1 kind.Name "x" ∷
    on 1 kind.Semicolon ";" ∷ on 1 kind.Init "init" ∷ on 1 kind.OpenBrace "{" ∷ on 1 kind.Name "q" ∷ on 1 kind.BangBang "!!" ∷
    on 1 kind.Number "3" ∷ on 1 kind.Comma "," ∷ on 1 kind.Number "1" ∷ on 1 kind.Semicolon ";" ∷ on 1 kind.Name "q" ∷
    on 1 kind.BangBang "!!" ∷ on 1 kind.Number "1" ∷ on 1 kind.Comma "," ∷ on 1 kind.Number "9" ∷ on 1 kind.Semicolon ";" ∷
    on 1 kind.Name "q" ∷ on 1 kind.BangBang "!!" ∷ on 1 kind.Number "2" ∷ on 1 kind.Comma "," ∷ on 1 kind.Number "5" ∷
    on 1 kind.Semicolon ";" ∷ on 1 kind.Name "q" ∷ on 1 kind.BangBang "!!" ∷ on 1 kind.Number "1" ∷ on 1 kind.Comma "," ∷
    on 1 kind.Number "4" ∷ on 1 kind.Semicolon ";" ∷ on 1 kind.Name "q" ∷ on 1 kind.QueryQuery "??" ∷ on 1 kind.Number "2" ∷
    on 1 kind.Comma "," ∷ on 1 kind.Name "x" ∷ on 1 kind.Semicolon ";" ∷ on 1 kind.Name "q" ∷ on 1 kind.QueryQuery "??" ∷
    on 1 kind.Number "1" ∷ on 1 kind.Comma "," ∷ on 1 kind.Name "x" ∷ on 1 kind.Semicolon ";" ∷ on 1 kind.Name "q" ∷
    on 1 kind.Query "?" ∷ on 1 kind.Number "1" ∷ on 1 kind.Comma "," ∷ on 1 kind.Name "x" ∷ on 1 kind.Semicolon ";" ∷
    on 1 kind.Name "q" ∷ on 1 kind.Query "?" ∷ on 1 kind.Number "3" ∷ on 1 kind.OpenParen "(" ∷ on 1 kind.Name "x" ∷
    on 1 kind.CloseParen ")" ∷ on 1 kind.CloseBrace "}" ∷ []

model-sorted-channel : Program
unfolding tokens-sorted-channel
model-sorted-channel =
    let at : ℕ → Word = token_at tokens-sorted-channel in
    let part : ℕ → ℕ → List Word = tokens_between tokens-sorted-channel in
    record {
      globals = (slot (at 1) chan false 0 1 1 (initial.Channel 4 (byte ∷ byte ∷ [])) ∷ slot (at 14) byte false 1 1 1 initial.Zero ∷ []);
      constants = [];
      typedefs = [];
      proctypes = (
          process (at 16) 3 1 0 [] (
          plain (part 18 23) (action.Send (global 0 chan) Sorted ((number 3) ∷ (number 1) ∷ [])) ∷
          plain (part 24 29) (action.Send (global 0 chan) Sorted ((number 1) ∷ (number 9) ∷ [])) ∷
          plain (part 30 35) (action.Send (global 0 chan) Sorted ((number 2) ∷ (number 5) ∷ [])) ∷
          plain (part 36 41) (action.Send (global 0 chan) Sorted ((number 1) ∷ (number 4) ∷ [])) ∷
          plain (part 42 47) (action.Receive (global 0 chan) Matching Remove (want.Exactly (pos 2) ∷ want.Into (global 1 byte) ∷ [])) ∷
          plain (part 48 53) (action.Receive (global 0 chan) Matching Remove (want.Exactly (pos 1) ∷ want.Into (global 1 byte) ∷ [])) ∷
          plain (part 54 59) (action.Receive (global 0 chan) First Remove (want.Exactly (pos 1) ∷ want.Into (global 1 byte) ∷ [])) ∷
          plain (part 60 66) (action.Receive (global 0 chan) First Remove (want.Exactly (pos 3) ∷ want.Into (global 1 byte) ∷ [])) ∷ [])
          (at 66) ∷ []);
    }

row-sorted-channel : seen (options false true false 1000) model-sorted-channel (codes "")
    ≡ Some (whole (text (
    "global x = 5\n" ∷
    "global x = 4\n" ∷
    "global x = 9\n" ∷
    "global x = 1\n" ∷
    "end: valid, steps 9\n" ∷
    [])) (codes "") 0 0)
unfolding computes model-sorted-channel
row-sorted-channel = sees (options false true false 1000) model-sorted-channel (codes "") _ refl

-- no options
-- chan q = [4] of { byte, byte }; byte x; init { q!!3,1; q!!1,9; q!!2,5; q!!1,4; q??2,x; q??1,x; q?1,x; q?3(x) }
tokens-sorted-channel-not-shown : List Word
tokens-sorted-channel-not-shown =
    on 1 kind.Chan "chan" ∷ on 1 kind.Name "q" ∷ on 1 kind.Assign "=" ∷ on 1 kind.OpenBracket "[" ∷ on 1 kind.Number "4" ∷
    on 1 kind.CloseBracket "]" ∷ on 1 kind.Of "of" ∷ on 1 kind.OpenBrace "{" ∷ on 1 kind.Byte "byte" ∷ on 1 kind.Comma "," ∷
    on 1 kind.Byte "byte" ∷ on 1 kind.CloseBrace "}" ∷ on 1 kind.Semicolon ";" ∷ on 1 kind.Byte "byte" ∷ on 1 kind.Name "x" ∷
    on 1 kind.Semicolon ";" ∷ on 1 kind.Init "init" ∷ on 1 kind.OpenBrace "{" ∷ on 1 kind.Name "q" ∷ on 1 kind.BangBang "!!" ∷
    on 1 kind.Number "3" ∷ on 1 kind.Comma "," ∷ on 1 kind.Number "1" ∷ on 1 kind.Semicolon ";" ∷ on 1 kind.Name "q" ∷
    on 1 kind.BangBang "!!" ∷ on 1 kind.Number "1" ∷ on 1 kind.Comma "," ∷ on 1 kind.Number "9" ∷ on 1 kind.Semicolon ";" ∷
    on 1 kind.Name "q" ∷ on 1 kind.BangBang "!!" ∷ on 1 kind.Number "2" ∷ on 1 kind.Comma "," ∷ on 1 kind.Number "5" ∷
    on 1 kind.Semicolon ";" ∷ on 1 kind.Name "q" ∷ on 1 kind.BangBang "!!" ∷ on 1 kind.Number "1" ∷ on 1 kind.Comma "," ∷
    on 1 kind.Number "4" ∷ on 1 kind.Semicolon ";" ∷ on 1 kind.Name "q" ∷ on 1 kind.QueryQuery "??" ∷ on 1 kind.Number "2" ∷
    on 1 kind.Comma "," ∷ on 1 kind.Name "x" ∷ on 1 kind.Semicolon ";" ∷ on 1 kind.Name "q" ∷ on 1 kind.QueryQuery "??" ∷
    on 1 kind.Number "1" ∷ on 1 kind.Comma "," ∷ on 1 kind.Name "x" ∷ on 1 kind.Semicolon ";" ∷ on 1 kind.Name "q" ∷
    on 1 kind.Query "?" ∷ on 1 kind.Number "1" ∷ on 1 kind.Comma "," ∷ on 1 kind.Name "x" ∷ on 1 kind.Semicolon ";" ∷
    on 1 kind.Name "q" ∷ on 1 kind.Query "?" ∷ on 1 kind.Number "3" ∷ on 1 kind.OpenParen "(" ∷ on 1 kind.Name "x" ∷
    on 1 kind.CloseParen ")" ∷ on 1 kind.CloseBrace "}" ∷ []

model-sorted-channel-not-shown : Program
unfolding tokens-sorted-channel-not-shown
model-sorted-channel-not-shown =
    let at : ℕ → Word = token_at tokens-sorted-channel-not-shown in
    let part : ℕ → ℕ → List Word = tokens_between tokens-sorted-channel-not-shown in
    record {
      globals = (slot (at 1) chan false 0 1 1 (initial.Channel 4 (byte ∷ byte ∷ [])) ∷ slot (at 14) byte false 1 1 1 initial.Zero ∷ []);
      constants = [];
      typedefs = [];
      proctypes = (
          process (at 16) 3 1 0 [] (
          plain (part 18 23) (action.Send (global 0 chan) Sorted ((number 3) ∷ (number 1) ∷ [])) ∷
          plain (part 24 29) (action.Send (global 0 chan) Sorted ((number 1) ∷ (number 9) ∷ [])) ∷
          plain (part 30 35) (action.Send (global 0 chan) Sorted ((number 2) ∷ (number 5) ∷ [])) ∷
          plain (part 36 41) (action.Send (global 0 chan) Sorted ((number 1) ∷ (number 4) ∷ [])) ∷
          plain (part 42 47) (action.Receive (global 0 chan) Matching Remove (want.Exactly (pos 2) ∷ want.Into (global 1 byte) ∷ [])) ∷
          plain (part 48 53) (action.Receive (global 0 chan) Matching Remove (want.Exactly (pos 1) ∷ want.Into (global 1 byte) ∷ [])) ∷
          plain (part 54 59) (action.Receive (global 0 chan) First Remove (want.Exactly (pos 1) ∷ want.Into (global 1 byte) ∷ [])) ∷
          plain (part 60 66) (action.Receive (global 0 chan) First Remove (want.Exactly (pos 3) ∷ want.Into (global 1 byte) ∷ [])) ∷ [])
          (at 66) ∷ []);
    }

row-sorted-channel-not-shown : seen (options false false false 1000) model-sorted-channel-not-shown (codes "")
    ≡ Some (whole (text ("end: valid, steps 9\n" ∷ [])) (codes "") 0 0)
unfolding computes model-sorted-channel-not-shown
row-sorted-channel-not-shown = sees (options false false false 1000) model-sorted-channel-not-shown (codes "") _ refl

-- -g
-- chan q = [2] of { byte, mtype };
-- mtype = { a, b };
-- byte x; mtype m;
-- init { q!257(b); q!3,a; q?<x,m>; (q??[3,a] && full(q)); q??eval(x + 2),m; x = len(q); q?x,eval(b) }
tokens-buffered-channel : List Word
tokens-buffered-channel =
    on 1 kind.Chan "chan" ∷ on 1 kind.Name "q" ∷ on 1 kind.Assign "=" ∷ on 1 kind.OpenBracket "[" ∷ on 1 kind.Number "2" ∷
    on 1 kind.CloseBracket "]" ∷ on 1 kind.Of "of" ∷ on 1 kind.OpenBrace "{" ∷ on 1 kind.Byte "byte" ∷ on 1 kind.Comma "," ∷
    on 1 kind.Mtype "mtype" ∷ on 1 kind.CloseBrace "}" ∷ on 1 kind.Semicolon ";" ∷ on 2 kind.Mtype "mtype" ∷ on 2 kind.Assign "=" ∷
    on 2 kind.OpenBrace "{" ∷ on 2 kind.Name "a" ∷ on 2 kind.Comma "," ∷ on 2 kind.Name "b" ∷ on 2 kind.CloseBrace "}" ∷
    on 2 kind.Semicolon ";" ∷ on 3 kind.Byte "byte" ∷ on 3 kind.Name "x" ∷ on 3 kind.Semicolon ";" ∷ on 3 kind.Mtype "mtype" ∷
    on 3 kind.Name "m" ∷ on 3 kind.Semicolon ";" ∷ on 4 kind.Init "init" ∷ on 4 kind.OpenBrace "{" ∷ on 4 kind.Name "q" ∷
    on 4 kind.Bang "!" ∷ on 4 kind.Number "257" ∷ on 4 kind.OpenParen "(" ∷ on 4 kind.Name "b" ∷ on 4 kind.CloseParen ")" ∷
    on 4 kind.Semicolon ";" ∷ on 4 kind.Name "q" ∷ on 4 kind.Bang "!" ∷ on 4 kind.Number "3" ∷ on 4 kind.Comma "," ∷
    on 4 kind.Name "a" ∷ on 4 kind.Semicolon ";" ∷ on 4 kind.Name "q" ∷ on 4 kind.Query "?" ∷ on 4 kind.Less "<" ∷
    on 4 kind.Name "x" ∷ on 4 kind.Comma "," ∷ on 4 kind.Name "m" ∷ on 4 kind.Greater ">" ∷ on 4 kind.Semicolon ";" ∷
    on 4 kind.OpenParen "(" ∷ on 4 kind.Name "q" ∷ on 4 kind.QueryQuery "??" ∷ on 4 kind.OpenBracket "[" ∷ on 4 kind.Number "3" ∷
    on 4 kind.Comma "," ∷ on 4 kind.Name "a" ∷ on 4 kind.CloseBracket "]" ∷ on 4 kind.AndAnd "&&" ∷ on 4 kind.Full "full" ∷
    on 4 kind.OpenParen "(" ∷ on 4 kind.Name "q" ∷ on 4 kind.CloseParen ")" ∷ on 4 kind.CloseParen ")" ∷ on 4 kind.Semicolon ";" ∷
    on 4 kind.Name "q" ∷ on 4 kind.QueryQuery "??" ∷ on 4 kind.Eval "eval" ∷ on 4 kind.OpenParen "(" ∷ on 4 kind.Name "x" ∷
    on 4 kind.Plus "+" ∷ on 4 kind.Number "2" ∷ on 4 kind.CloseParen ")" ∷ on 4 kind.Comma "," ∷ on 4 kind.Name "m" ∷
    on 4 kind.Semicolon ";" ∷ on 4 kind.Name "x" ∷ on 4 kind.Assign "=" ∷ on 4 kind.Len "len" ∷ on 4 kind.OpenParen "(" ∷
    on 4 kind.Name "q" ∷ on 4 kind.CloseParen ")" ∷ on 4 kind.Semicolon ";" ∷ on 4 kind.Name "q" ∷ on 4 kind.Query "?" ∷
    on 4 kind.Name "x" ∷ on 4 kind.Comma "," ∷ on 4 kind.Eval "eval" ∷ on 4 kind.OpenParen "(" ∷ on 4 kind.Name "b" ∷
    on 4 kind.CloseParen ")" ∷ on 4 kind.CloseBrace "}" ∷ []

model-buffered-channel : Program
unfolding tokens-buffered-channel
model-buffered-channel =
    let at : ℕ → Word = token_at tokens-buffered-channel in
    let part : ℕ → ℕ → List Word = tokens_between tokens-buffered-channel in
    record {
      globals = (slot (at 1) chan false 0 1 1 (initial.Channel 2 (byte ∷ mtype ∷ [])) ∷ slot (at 22) byte false 1 1 1 initial.Zero ∷
          slot (at 25) mtype false 2 1 1 initial.Zero ∷ []);
      constants = ((at 18) ∷ (at 16) ∷ []);
      typedefs = [];
      proctypes = (
          process (at 27) 5 1 0 [] (
          plain (part 29 35) (action.Send (global 0 chan) Fifo ((number 257) ∷ (number 1) ∷ [])) ∷
          plain (part 36 41) (action.Send (global 0 chan) Fifo ((number 3) ∷ (number 2) ∷ [])) ∷
          plain (part 42 49) (action.Receive (global 0 chan) First Keep (want.Into (global 1 byte) ∷ want.Into (global 2 mtype) ∷ [])) ∷
          plain (part 50 64) (holds (expr.Binary op.And (expr.Poll (global 0 chan) Matching (want.Exactly (pos 3) ∷ want.Exactly (pos 2)
          ∷ [])) (expr.Ask fill.IsFull (global 0 chan)))) ∷
          plain (part 65 75) (action.Receive (global 0 chan) Matching Remove (want.Equal (expr.Binary op.Plus (read (global 1 byte))
          (number 2)) ∷ want.Into (global 2 mtype) ∷ [])) ∷
          plain (part 76 82) (assign (global 1 byte) (expr.Ask fill.Length (global 0 chan))) ∷
          plain (part 83 91) (action.Receive (global 0 chan) First Remove (want.Into (global 1 byte) ∷ want.Equal (number 1) ∷ [])) ∷
          []) (at 91) ∷ []);
    }

row-buffered-channel : seen (options false true false 1000) model-buffered-channel (codes "")
    ≡ Some (whole (text (
    "global x = 1\n" ∷
    "global m = b\n" ∷
    "global m = a\n" ∷
    "end: valid, steps 8\n" ∷
    [])) (codes "") 0 0)
unfolding computes model-buffered-channel
row-buffered-channel = sees (options false true false 1000) model-buffered-channel (codes "") _ refl

-- -p -g -l
-- chan q = [3] of { byte, byte }; byte x, y; init { q!!2,1; q!!1,7; q!!2,0; q?<x,y>; q??2,y; q?x,y; q?x,y; q?x,y }
tokens-sorted-sends : List Word
tokens-sorted-sends =
    on 1 kind.Chan "chan" ∷ on 1 kind.Name "q" ∷ on 1 kind.Assign "=" ∷ on 1 kind.OpenBracket "[" ∷ on 1 kind.Number "3" ∷
    on 1 kind.CloseBracket "]" ∷ on 1 kind.Of "of" ∷ on 1 kind.OpenBrace "{" ∷ on 1 kind.Byte "byte" ∷ on 1 kind.Comma "," ∷
    on 1 kind.Byte "byte" ∷ on 1 kind.CloseBrace "}" ∷ on 1 kind.Semicolon ";" ∷ on 1 kind.Byte "byte" ∷ on 1 kind.Name "x" ∷
    on 1 kind.Comma "," ∷ on 1 kind.Name "y" ∷ on 1 kind.Semicolon ";" ∷ on 1 kind.Init "init" ∷ on 1 kind.OpenBrace "{" ∷
    on 1 kind.Name "q" ∷ on 1 kind.BangBang "!!" ∷ on 1 kind.Number "2" ∷ on 1 kind.Comma "," ∷ on 1 kind.Number "1" ∷
    on 1 kind.Semicolon ";" ∷ on 1 kind.Name "q" ∷ on 1 kind.BangBang "!!" ∷ on 1 kind.Number "1" ∷ on 1 kind.Comma "," ∷
    on 1 kind.Number "7" ∷ on 1 kind.Semicolon ";" ∷ on 1 kind.Name "q" ∷ on 1 kind.BangBang "!!" ∷ on 1 kind.Number "2" ∷
    on 1 kind.Comma "," ∷ on 1 kind.Number "0" ∷ on 1 kind.Semicolon ";" ∷ on 1 kind.Name "q" ∷ on 1 kind.Query "?" ∷
    on 1 kind.Less "<" ∷ on 1 kind.Name "x" ∷ on 1 kind.Comma "," ∷ on 1 kind.Name "y" ∷ on 1 kind.Greater ">" ∷
    on 1 kind.Semicolon ";" ∷ on 1 kind.Name "q" ∷ on 1 kind.QueryQuery "??" ∷ on 1 kind.Number "2" ∷ on 1 kind.Comma "," ∷
    on 1 kind.Name "y" ∷ on 1 kind.Semicolon ";" ∷ on 1 kind.Name "q" ∷ on 1 kind.Query "?" ∷ on 1 kind.Name "x" ∷
    on 1 kind.Comma "," ∷ on 1 kind.Name "y" ∷ on 1 kind.Semicolon ";" ∷ on 1 kind.Name "q" ∷ on 1 kind.Query "?" ∷
    on 1 kind.Name "x" ∷ on 1 kind.Comma "," ∷ on 1 kind.Name "y" ∷ on 1 kind.Semicolon ";" ∷ on 1 kind.Name "q" ∷
    on 1 kind.Query "?" ∷ on 1 kind.Name "x" ∷ on 1 kind.Comma "," ∷ on 1 kind.Name "y" ∷ on 1 kind.CloseBrace "}" ∷ []

model-sorted-sends : Program
unfolding tokens-sorted-sends
model-sorted-sends =
    let at : ℕ → Word = token_at tokens-sorted-sends in
    let part : ℕ → ℕ → List Word = tokens_between tokens-sorted-sends in
    record {
      globals = (slot (at 1) chan false 0 1 1 (initial.Channel 3 (byte ∷ byte ∷ [])) ∷ slot (at 14) byte false 1 1 1 initial.Zero ∷
          slot (at 16) byte false 2 1 1 initial.Zero ∷ []);
      constants = [];
      typedefs = [];
      proctypes = (
          process (at 18) 3 1 0 [] (
          plain (part 20 25) (action.Send (global 0 chan) Sorted ((number 2) ∷ (number 1) ∷ [])) ∷
          plain (part 26 31) (action.Send (global 0 chan) Sorted ((number 1) ∷ (number 7) ∷ [])) ∷
          plain (part 32 37) (action.Send (global 0 chan) Sorted ((number 2) ∷ (number 0) ∷ [])) ∷
          plain (part 38 45) (action.Receive (global 0 chan) First Keep (want.Into (global 1 byte) ∷ want.Into (global 2 byte) ∷ [])) ∷
          plain (part 46 51) (action.Receive (global 0 chan) Matching Remove (want.Exactly (pos 2) ∷ want.Into (global 2 byte) ∷ [])) ∷
          plain (part 52 57) (action.Receive (global 0 chan) First Remove (want.Into (global 1 byte) ∷ want.Into (global 2 byte) ∷ [])) ∷
          plain (part 58 63) (action.Receive (global 0 chan) First Remove (want.Into (global 1 byte) ∷ want.Into (global 2 byte) ∷ [])) ∷
          plain (part 64 69) (action.Receive (global 0 chan) First Remove (want.Into (global 1 byte) ∷ want.Into (global 2 byte) ∷ []))
          ∷ []) (at 69) ∷ []);
    }

row-sorted-sends : seen (options true true true 200) model-sorted-sends (codes "")
    ≡ Some (whole (text (
    "step 1: proc 0 (:init:) line 1 [q !! 2 , 1]\n" ∷
    "step 2: proc 0 (:init:) line 1 [q !! 1 , 7]\n" ∷
    "step 3: proc 0 (:init:) line 1 [q !! 2 , 0]\n" ∷
    "step 4: proc 0 (:init:) line 1 [q ? < x , y >]\n" ∷
    "global x = 1\n" ∷
    "global y = 7\n" ∷
    "step 5: proc 0 (:init:) line 1 [q ?? 2 , y]\n" ∷
    "global y = 0\n" ∷
    "step 6: proc 0 (:init:) line 1 [q ? x , y]\n" ∷
    "global y = 7\n" ∷
    "step 7: proc 0 (:init:) line 1 [q ? x , y]\n" ∷
    "global x = 2\n" ∷
    "global y = 1\n" ∷
    "end: invalid, steps 7\n" ∷
    "at: proc 0 (:init:) line 1\n" ∷
    [])) (codes "") 1 0)
unfolding computes model-sorted-sends
row-sorted-sends = sees (options true true true 200) model-sorted-sends (codes "") _ refl

-- -p -g -l
-- chan q = [1] of { byte, byte }; byte i, a[3]; init { q!2,9; q?i,a[i] }
tokens-receive-resolves-first : List Word
tokens-receive-resolves-first =
    on 1 kind.Chan "chan" ∷ on 1 kind.Name "q" ∷ on 1 kind.Assign "=" ∷ on 1 kind.OpenBracket "[" ∷ on 1 kind.Number "1" ∷
    on 1 kind.CloseBracket "]" ∷ on 1 kind.Of "of" ∷ on 1 kind.OpenBrace "{" ∷ on 1 kind.Byte "byte" ∷ on 1 kind.Comma "," ∷
    on 1 kind.Byte "byte" ∷ on 1 kind.CloseBrace "}" ∷ on 1 kind.Semicolon ";" ∷ on 1 kind.Byte "byte" ∷ on 1 kind.Name "i" ∷
    on 1 kind.Comma "," ∷ on 1 kind.Name "a" ∷ on 1 kind.OpenBracket "[" ∷ on 1 kind.Number "3" ∷ on 1 kind.CloseBracket "]" ∷
    on 1 kind.Semicolon ";" ∷ on 1 kind.Init "init" ∷ on 1 kind.OpenBrace "{" ∷ on 1 kind.Name "q" ∷ on 1 kind.Bang "!" ∷
    on 1 kind.Number "2" ∷ on 1 kind.Comma "," ∷ on 1 kind.Number "9" ∷ on 1 kind.Semicolon ";" ∷ on 1 kind.Name "q" ∷
    on 1 kind.Query "?" ∷ on 1 kind.Name "i" ∷ on 1 kind.Comma "," ∷ on 1 kind.Name "a" ∷ on 1 kind.OpenBracket "[" ∷
    on 1 kind.Name "i" ∷ on 1 kind.CloseBracket "]" ∷ on 1 kind.CloseBrace "}" ∷ []

model-receive-resolves-first : Program
unfolding tokens-receive-resolves-first
model-receive-resolves-first =
    let at : ℕ → Word = token_at tokens-receive-resolves-first in
    let part : ℕ → ℕ → List Word = tokens_between tokens-receive-resolves-first in
    record {
      globals = (slot (at 1) chan false 0 1 1 (initial.Channel 1 (byte ∷ byte ∷ [])) ∷ slot (at 14) byte false 1 1 1 initial.Zero ∷
          slot (at 16) byte true 2 3 1 initial.Zero ∷ []);
      constants = [];
      typedefs = [];
      proctypes = (
          process (at 21) 3 1 0 [] (
          plain (part 23 28) (action.Send (global 0 chan) Fifo ((number 2) ∷ (number 9) ∷ [])) ∷
          plain (part 29 37) (action.Receive (global 0 chan) First Remove (want.Into (global 1 byte) ∷ want.Into (in_global 2 byte (turn
          0 3 1 (Some (read (global 1 byte))) ∷ [])) ∷ [])) ∷ []) (at 37) ∷ []);
    }

row-receive-resolves-first : seen (options true true true 200) model-receive-resolves-first (codes "")
    ≡ Some (whole (text (
    "step 1: proc 0 (:init:) line 1 [q ! 2 , 9]\n" ∷
    "step 2: proc 0 (:init:) line 1 [q ? i , a [ i ]]\n" ∷
    "global i = 2\n" ∷
    "global a[0] = 9\n" ∷
    "step 3: proc 0 (:init:) line 1 [-end-]\n" ∷
    "end: valid, steps 3\n" ∷
    [])) (codes "") 0 0)
unfolding computes model-receive-resolves-first
row-receive-resolves-first = sees (options true true true 200) model-receive-resolves-first (codes "") _ refl

-- -p -g -l
-- chan q = [1] of { byte }; byte x; init { q!1; if :: q!2 :: full(q) -> q?x fi; q?eval(x) }
tokens-full-channel : List Word
tokens-full-channel =
    on 1 kind.Chan "chan" ∷ on 1 kind.Name "q" ∷ on 1 kind.Assign "=" ∷ on 1 kind.OpenBracket "[" ∷ on 1 kind.Number "1" ∷
    on 1 kind.CloseBracket "]" ∷ on 1 kind.Of "of" ∷ on 1 kind.OpenBrace "{" ∷ on 1 kind.Byte "byte" ∷ on 1 kind.CloseBrace "}" ∷
    on 1 kind.Semicolon ";" ∷ on 1 kind.Byte "byte" ∷ on 1 kind.Name "x" ∷ on 1 kind.Semicolon ";" ∷ on 1 kind.Init "init" ∷
    on 1 kind.OpenBrace "{" ∷ on 1 kind.Name "q" ∷ on 1 kind.Bang "!" ∷ on 1 kind.Number "1" ∷ on 1 kind.Semicolon ";" ∷
    on 1 kind.If "if" ∷ on 1 kind.DoubleColon "::" ∷ on 1 kind.Name "q" ∷ on 1 kind.Bang "!" ∷ on 1 kind.Number "2" ∷
    on 1 kind.DoubleColon "::" ∷ on 1 kind.Full "full" ∷ on 1 kind.OpenParen "(" ∷ on 1 kind.Name "q" ∷ on 1 kind.CloseParen ")" ∷
    on 1 kind.Arrow "->" ∷ on 1 kind.Name "q" ∷ on 1 kind.Query "?" ∷ on 1 kind.Name "x" ∷ on 1 kind.Fi "fi" ∷
    on 1 kind.Semicolon ";" ∷ on 1 kind.Name "q" ∷ on 1 kind.Query "?" ∷ on 1 kind.Eval "eval" ∷ on 1 kind.OpenParen "(" ∷
    on 1 kind.Name "x" ∷ on 1 kind.CloseParen ")" ∷ on 1 kind.CloseBrace "}" ∷ []

model-full-channel : Program
unfolding tokens-full-channel
model-full-channel =
    let at : ℕ → Word = token_at tokens-full-channel in
    let part : ℕ → ℕ → List Word = tokens_between tokens-full-channel in
    record {
      globals = (slot (at 1) chan false 0 1 1 (initial.Channel 1 (byte ∷ [])) ∷ slot (at 12) byte false 1 1 1 initial.Zero ∷ []);
      constants = [];
      typedefs = [];
      proctypes = (
          process (at 14) 3 1 0 [] (
          plain (part 16 19) (action.Send (global 0 chan) Fifo ((number 1) ∷ [])) ∷
          if_fi (part 20 35) (
          (plain (part 22 25) (action.Send (global 0 chan) Fifo ((number 2) ∷ [])) ∷ []) ∷
          (plain (part 26 30) (holds (expr.Ask fill.IsFull (global 0 chan))) ∷
          plain (part 31 34) (action.Receive (global 0 chan) First Remove (want.Into (global 1 byte) ∷ [])) ∷ []) ∷ []) ∷
          plain (part 36 42) (action.Receive (global 0 chan) First Remove (want.Equal (read (global 1 byte)) ∷ [])) ∷ []) (at 42) ∷ []);
    }

row-full-channel : seen (options true true true 200) model-full-channel (codes "")
    ≡ Some (whole (text (
    "step 1: proc 0 (:init:) line 1 [q ! 1]\n" ∷
    "step 2: proc 0 (:init:) line 1 [full ( q )]\n" ∷
    "step 3: proc 0 (:init:) line 1 [q ? x]\n" ∷
    "global x = 1\n" ∷
    "end: invalid, steps 3\n" ∷
    "at: proc 0 (:init:) line 1\n" ∷
    [])) (codes "") 1 0)
unfolding computes model-full-channel
row-full-channel = sees (options true true true 200) model-full-channel (codes "") _ refl

-- -p -g
-- chan g;
-- proctype P() { chan c = [1] of { byte }; g = c }
-- init { run P(); (_nr_pr == 1); run P(); (_nr_pr == 1); g!1 }
tokens-channel-of-the-dead : List Word
tokens-channel-of-the-dead =
    on 1 kind.Chan "chan" ∷ on 1 kind.Name "g" ∷ on 1 kind.Semicolon ";" ∷ on 2 kind.Proctype "proctype" ∷ on 2 kind.Name "P" ∷
    on 2 kind.OpenParen "(" ∷ on 2 kind.CloseParen ")" ∷ on 2 kind.OpenBrace "{" ∷ on 2 kind.Chan "chan" ∷ on 2 kind.Name "c" ∷
    on 2 kind.Assign "=" ∷ on 2 kind.OpenBracket "[" ∷ on 2 kind.Number "1" ∷ on 2 kind.CloseBracket "]" ∷ on 2 kind.Of "of" ∷
    on 2 kind.OpenBrace "{" ∷ on 2 kind.Byte "byte" ∷ on 2 kind.CloseBrace "}" ∷ on 2 kind.Semicolon ";" ∷ on 2 kind.Name "g" ∷
    on 2 kind.Assign "=" ∷ on 2 kind.Name "c" ∷ on 2 kind.CloseBrace "}" ∷ on 3 kind.Init "init" ∷ on 3 kind.OpenBrace "{" ∷
    on 3 kind.Run "run" ∷ on 3 kind.Name "P" ∷ on 3 kind.OpenParen "(" ∷ on 3 kind.CloseParen ")" ∷ on 3 kind.Semicolon ";" ∷
    on 3 kind.OpenParen "(" ∷ on 3 kind.Name "_nr_pr" ∷ on 3 kind.Equal "==" ∷ on 3 kind.Number "1" ∷ on 3 kind.CloseParen ")" ∷
    on 3 kind.Semicolon ";" ∷ on 3 kind.Run "run" ∷ on 3 kind.Name "P" ∷ on 3 kind.OpenParen "(" ∷ on 3 kind.CloseParen ")" ∷
    on 3 kind.Semicolon ";" ∷ on 3 kind.OpenParen "(" ∷ on 3 kind.Name "_nr_pr" ∷ on 3 kind.Equal "==" ∷ on 3 kind.Number "1" ∷
    on 3 kind.CloseParen ")" ∷ on 3 kind.Semicolon ";" ∷ on 3 kind.Name "g" ∷ on 3 kind.Bang "!" ∷ on 3 kind.Number "1" ∷
    on 3 kind.CloseBrace "}" ∷ []

model-channel-of-the-dead : Program
unfolding tokens-channel-of-the-dead
model-channel-of-the-dead =
    let at : ℕ → Word = token_at tokens-channel-of-the-dead in
    let part : ℕ → ℕ → List Word = tokens_between tokens-channel-of-the-dead in
    record {
      globals = (slot (at 1) chan false 0 1 1 initial.Zero ∷ []);
      constants = [];
      typedefs = [];
      proctypes = (
          process (at 4) 2 0 0 (slot (at 9) chan false 0 1 1 (initial.Channel 1 (byte ∷ [])) ∷ []) (
          plain (part 19 22) (assign (global 0 chan) (read (local 0 chan))) ∷ []) (at 22) ∷
          process (at 23) 3 1 0 [] (
          plain (part 25 29) (action.Run (run 0 [])) ∷
          plain (part 30 35) (holds (expr.Binary op.Equal expr.ProcessCount (number 1))) ∷
          plain (part 36 40) (action.Run (run 0 [])) ∷
          plain (part 41 46) (holds (expr.Binary op.Equal expr.ProcessCount (number 1))) ∷
          plain (part 47 50) (action.Send (global 0 chan) Fifo ((number 1) ∷ [])) ∷ []) (at 50) ∷ []);
    }

row-channel-of-the-dead : seen (options true true false 1000) model-channel-of-the-dead (codes "")
    ≡ Some (whole (text (
    "step 1: proc 0 (:init:) line 3 [run P ( )]\n" ∷
    "step 2: proc 1 (P) line 2 [g = c]\n" ∷
    "global g = 1\n" ∷
    "step 3: proc 1 (P) line 2 [-end-]\n" ∷
    "step 4: proc 0 (:init:) line 3 [( _nr_pr == 1 )]\n" ∷
    "step 5: proc 0 (:init:) line 3 [run P ( )]\n" ∷
    "step 6: proc 1 (P) line 2 [g = c]\n" ∷
    "step 7: proc 1 (P) line 2 [-end-]\n" ∷
    "step 8: proc 0 (:init:) line 3 [( _nr_pr == 1 )]\n" ∷
    "fault F4 (no such channel): step 9: proc 0 (:init:) line 3 [g ! 1]\n" ∷
    [])) (codes "") 2 0)
unfolding computes model-channel-of-the-dead
row-channel-of-the-dead = sees (options true true false 1000) model-channel-of-the-dead (codes "") _ refl

-- -p -g -l
-- chan g; proctype P() { chan c = [1] of { byte }; g = c; c!5 } init { byte x; run P(); (_nr_pr == 1); len(g) == 0 }
tokens-channel-dies : List Word
tokens-channel-dies =
    on 1 kind.Chan "chan" ∷ on 1 kind.Name "g" ∷ on 1 kind.Semicolon ";" ∷ on 1 kind.Proctype "proctype" ∷ on 1 kind.Name "P" ∷
    on 1 kind.OpenParen "(" ∷ on 1 kind.CloseParen ")" ∷ on 1 kind.OpenBrace "{" ∷ on 1 kind.Chan "chan" ∷ on 1 kind.Name "c" ∷
    on 1 kind.Assign "=" ∷ on 1 kind.OpenBracket "[" ∷ on 1 kind.Number "1" ∷ on 1 kind.CloseBracket "]" ∷ on 1 kind.Of "of" ∷
    on 1 kind.OpenBrace "{" ∷ on 1 kind.Byte "byte" ∷ on 1 kind.CloseBrace "}" ∷ on 1 kind.Semicolon ";" ∷ on 1 kind.Name "g" ∷
    on 1 kind.Assign "=" ∷ on 1 kind.Name "c" ∷ on 1 kind.Semicolon ";" ∷ on 1 kind.Name "c" ∷ on 1 kind.Bang "!" ∷
    on 1 kind.Number "5" ∷ on 1 kind.CloseBrace "}" ∷ on 1 kind.Init "init" ∷ on 1 kind.OpenBrace "{" ∷ on 1 kind.Byte "byte" ∷
    on 1 kind.Name "x" ∷ on 1 kind.Semicolon ";" ∷ on 1 kind.Run "run" ∷ on 1 kind.Name "P" ∷ on 1 kind.OpenParen "(" ∷
    on 1 kind.CloseParen ")" ∷ on 1 kind.Semicolon ";" ∷ on 1 kind.OpenParen "(" ∷ on 1 kind.Name "_nr_pr" ∷ on 1 kind.Equal "==" ∷
    on 1 kind.Number "1" ∷ on 1 kind.CloseParen ")" ∷ on 1 kind.Semicolon ";" ∷ on 1 kind.Len "len" ∷ on 1 kind.OpenParen "(" ∷
    on 1 kind.Name "g" ∷ on 1 kind.CloseParen ")" ∷ on 1 kind.Equal "==" ∷ on 1 kind.Number "0" ∷ on 1 kind.CloseBrace "}" ∷ []

model-channel-dies : Program
unfolding tokens-channel-dies
model-channel-dies =
    let at : ℕ → Word = token_at tokens-channel-dies in
    let part : ℕ → ℕ → List Word = tokens_between tokens-channel-dies in
    record {
      globals = (slot (at 1) chan false 0 1 1 initial.Zero ∷ []);
      constants = [];
      typedefs = [];
      proctypes = (
          process (at 4) 2 0 0 (slot (at 9) chan false 0 1 1 (initial.Channel 1 (byte ∷ [])) ∷ []) (
          plain (part 19 22) (assign (global 0 chan) (read (local 0 chan))) ∷
          plain (part 23 26) (action.Send (local 0 chan) Fifo ((number 5) ∷ [])) ∷ []) (at 26) ∷
          process (at 27) 3 1 0 (slot (at 30) byte false 0 1 1 initial.Zero ∷ []) (
          plain (part 32 36) (action.Run (run 0 [])) ∷
          plain (part 37 42) (holds (expr.Binary op.Equal expr.ProcessCount (number 1))) ∷
          plain (part 43 49) (holds (expr.Binary op.Equal (expr.Ask fill.Length (global 0 chan)) (number 0))) ∷ []) (at 49) ∷ []);
    }

row-channel-dies : seen (options true true true 200) model-channel-dies (codes "")
    ≡ Some (whole (text (
    "step 1: proc 0 (:init:) line 1 [run P ( )]\n" ∷
    "step 2: proc 1 (P) line 1 [g = c]\n" ∷
    "global g = 1\n" ∷
    "step 3: proc 1 (P) line 1 [c ! 5]\n" ∷
    "step 4: proc 1 (P) line 1 [-end-]\n" ∷
    "step 5: proc 0 (:init:) line 1 [( _nr_pr == 1 )]\n" ∷
    "fault F4 (no such channel): step 6: proc 0 (:init:) line 1 [len ( g ) == 0]\n" ∷
    [])) (codes "") 2 0)
unfolding computes model-channel-dies
row-channel-dies = sees (options true true true 200) model-channel-dies (codes "") _ refl

-- -p -g -l
-- proctype P() { byte x = 1 / 0; chan c[255] = [1] of { byte }; skip } chan d = [1] of { byte }; init { run P() }
tokens-too-many-channels : List Word
tokens-too-many-channels =
    on 1 kind.Proctype "proctype" ∷ on 1 kind.Name "P" ∷ on 1 kind.OpenParen "(" ∷ on 1 kind.CloseParen ")" ∷
    on 1 kind.OpenBrace "{" ∷ on 1 kind.Byte "byte" ∷ on 1 kind.Name "x" ∷ on 1 kind.Assign "=" ∷ on 1 kind.Number "1" ∷
    on 1 kind.Slash "/" ∷ on 1 kind.Number "0" ∷ on 1 kind.Semicolon ";" ∷ on 1 kind.Chan "chan" ∷ on 1 kind.Name "c" ∷
    on 1 kind.OpenBracket "[" ∷ on 1 kind.Number "255" ∷ on 1 kind.CloseBracket "]" ∷ on 1 kind.Assign "=" ∷
    on 1 kind.OpenBracket "[" ∷ on 1 kind.Number "1" ∷ on 1 kind.CloseBracket "]" ∷ on 1 kind.Of "of" ∷ on 1 kind.OpenBrace "{" ∷
    on 1 kind.Byte "byte" ∷ on 1 kind.CloseBrace "}" ∷ on 1 kind.Semicolon ";" ∷ on 1 kind.Skip "skip" ∷ on 1 kind.CloseBrace "}" ∷
    on 1 kind.Chan "chan" ∷ on 1 kind.Name "d" ∷ on 1 kind.Assign "=" ∷ on 1 kind.OpenBracket "[" ∷ on 1 kind.Number "1" ∷
    on 1 kind.CloseBracket "]" ∷ on 1 kind.Of "of" ∷ on 1 kind.OpenBrace "{" ∷ on 1 kind.Byte "byte" ∷ on 1 kind.CloseBrace "}" ∷
    on 1 kind.Semicolon ";" ∷ on 1 kind.Init "init" ∷ on 1 kind.OpenBrace "{" ∷ on 1 kind.Run "run" ∷ on 1 kind.Name "P" ∷
    on 1 kind.OpenParen "(" ∷ on 1 kind.CloseParen ")" ∷ on 1 kind.CloseBrace "}" ∷ []

model-too-many-channels : Program
unfolding tokens-too-many-channels
model-too-many-channels =
    let at : ℕ → Word = token_at tokens-too-many-channels in
    let part : ℕ → ℕ → List Word = tokens_between tokens-too-many-channels in
    record {
      globals = (slot (at 29) chan false 0 1 1 (initial.Channel 1 (byte ∷ [])) ∷ []);
      constants = [];
      typedefs = [];
      proctypes = (
          process (at 1) 1 0 0 (slot (at 6) byte false 0 1 1 (initial.Value (expr.Binary op.Divide (number 1) (number 0))) ∷ slot (at
          13) chan true 1 255 1 (initial.Channel 1 (byte ∷ [])) ∷ []) (
          plain (part 26 27) (holds (number 1)) ∷ []) (at 27) ∷
          process (at 39) 3 1 0 [] (
          plain (part 41 45) (action.Run (run 0 [])) ∷ []) (at 45) ∷ []);
    }

row-too-many-channels : seen (options true true true 200) model-too-many-channels (codes "")
    ≡ Some (whole (text ("fault F6 (too many channels): step 1: proc 0 (:init:) line 1 [run P ( )]\n" ∷ [])) (codes "") 2 0)
unfolding computes model-too-many-channels
row-too-many-channels = sees (options true true true 200) model-too-many-channels (codes "") _ refl

-- -p -g -l
-- active proctype A() { skip } active proctype B() { skip }
tokens-deaths-in-reverse : List Word
tokens-deaths-in-reverse =
    on 1 kind.Active "active" ∷ on 1 kind.Proctype "proctype" ∷ on 1 kind.Name "A" ∷ on 1 kind.OpenParen "(" ∷
    on 1 kind.CloseParen ")" ∷ on 1 kind.OpenBrace "{" ∷ on 1 kind.Skip "skip" ∷ on 1 kind.CloseBrace "}" ∷
    on 1 kind.Active "active" ∷ on 1 kind.Proctype "proctype" ∷ on 1 kind.Name "B" ∷ on 1 kind.OpenParen "(" ∷
    on 1 kind.CloseParen ")" ∷ on 1 kind.OpenBrace "{" ∷ on 1 kind.Skip "skip" ∷ on 1 kind.CloseBrace "}" ∷ []

model-deaths-in-reverse : Program
unfolding tokens-deaths-in-reverse
model-deaths-in-reverse =
    let at : ℕ → Word = token_at tokens-deaths-in-reverse in
    let part : ℕ → ℕ → List Word = tokens_between tokens-deaths-in-reverse in
    record {
      globals = [];
      constants = [];
      typedefs = [];
      proctypes = (
          process (at 2) 1 1 0 [] (
          plain (part 6 7) (holds (number 1)) ∷ []) (at 7) ∷
          process (at 10) 2 1 0 [] (
          plain (part 14 15) (holds (number 1)) ∷ []) (at 15) ∷ []);
    }

row-deaths-in-reverse : seen (options true true true 200) model-deaths-in-reverse (codes "1\n1\n")
    ≡ Some (whole (text (
    "choice 1: proc 0 (A) line 1 [skip]\n" ∷
    "choice 2: proc 1 (B) line 1 [skip]\n" ∷
    "choose 1..2\n" ∷
    "step 1: proc 0 (A) line 1 [skip]\n" ∷
    "step 2: proc 1 (B) line 1 [skip]\n" ∷
    "step 3: proc 1 (B) line 1 [-end-]\n" ∷
    "step 4: proc 0 (A) line 1 [-end-]\n" ∷
    "end: valid, steps 4\n" ∷
    [])) (codes "1\n") 0 2)
unfolding computes model-deaths-in-reverse
row-deaths-in-reverse = sees (options true true true 200) model-deaths-in-reverse (codes "1\n1\n") _ refl
