-- Parts of a text that are exchanged for others.
use Rattle.std.specs.Prelude.{ℕ, List, [], ◌++◌, take, drop, codes}
use Rattle.model_verdicts.specs.declared.exchange.WrittenSign.{WrittenSign}
use Rattle.model_verdicts.specs.declared.exchange.WrittenSign.TheVariants as sign
use Rattle.model_verdicts.specs.declared.exchange.Words.{Words}
use Rattle.model_verdicts.specs.declared.exchange.Words.TheVariants as words
use Rattle.model_verdicts.specs.declared.exchange.ExchangedPart.{ExchangedPart}

-- how a sign is written
abbrev pub bytes_of : WrittenSign → List ℕ
bytes_of sign.Nothing = []
bytes_of sign.Semicolon = codes ";"
bytes_of sign.SemicolonBefore = codes "; "
bytes_of sign.Option = codes "::"
bytes_of sign.OptionBefore = codes ":: "
bytes_of sign.Arrow = codes "->"
bytes_of sign.CommaBefore = codes ", "
bytes_of sign.RunBefore = codes "run "
bytes_of sign.Parentheses = codes "()"
bytes_of sign.CloseParen = codes ")"
bytes_of sign.CloseBracket = codes "]"
bytes_of sign.CloseBrace = codes "} "
bytes_of sign.Fi = codes "fi "
bytes_of sign.Od = codes "od "

-- what is written, of a text
abbrev pub words_of : List ℕ → Words → List ℕ
words_of text (words.Sign s) = bytes_of s
words_of text (words.Copy at n) = take n (drop at text)

-- the text with a part of it exchanged
abbrev pub exchanged : List ℕ → ExchangedPart → List ℕ
exchanged text e = take e.at text ++ (words_of text e.words ++ drop e.length (drop e.at text))
