-- What is exchanged in a refused text, by the cause of its refusal.
use Rattle.std.specs.Prelude.{ℕ, ◌+◌, min, if◌then◌else◌, List, length, codes, Option, Some, None}
use Rattle.std.specs.Option.{option_or}
use Rattle.std.specs.Str.{bytes_eq}
use Rattle.explain_cause.specs.declared.cause.Segment.{Segment}
use Rattle.explain_cause.specs.declared.cause.Named.{Named}
use Rattle.explain_cause.specs.declared.cause.Expected.{Expected}
use Rattle.explain_cause.specs.declared.cause.Expected.TheVariants as wanted
use Rattle.explain_cause.specs.declared.cause.UnknownCause.{UnknownCause}
use Rattle.explain_cause.specs.declared.cause.UnknownCause.TheVariants as unknown
use Rattle.explain_cause.specs.declared.cause.LabelCause.{LabelCause}
use Rattle.explain_cause.specs.declared.cause.LabelCause.TheVariants as label
use Rattle.explain_cause.specs.declared.cause.Reason.{Reason}
use Rattle.explain_cause.specs.declared.cause.Reason.TheVariants as cause
use Rattle.model_verdicts.specs.declared.exchange.WrittenSign.{WrittenSign}
use Rattle.model_verdicts.specs.declared.exchange.WrittenSign.TheVariants as sign
use Rattle.model_verdicts.specs.declared.exchange.Words.TheVariants as words
use Rattle.model_verdicts.specs.declared.exchange.ExchangedPart.{ExchangedPart}

-- a sign in place of a part of the text
abbrev pub in_place : ℕ → ℕ → WrittenSign → ExchangedPart
in_place at n s = record { at = at; length = n; words = words.Sign s }

-- a sign in front of what stands behind so many bytes
abbrev pub inserted : ℕ → WrittenSign → ExchangedPart
inserted at s = in_place at 0 s

-- what closes this
abbrev pub closer_of : List ℕ → WrittenSign
closer_of o =
    if bytes_eq o (codes "(") then sign.CloseParen
    else if bytes_eq o (codes "[") then sign.CloseBracket
    else if bytes_eq o (codes "{") then sign.CloseBrace
    else if bytes_eq o (codes "if") then sign.Fi
    else sign.Od

-- a place behind another, within what a place may be
abbrev pub end_of : ℕ → ℕ → ℕ
end_of at n = min (at + n) 18446744073709551615

-- a `;` behind a word of the text
abbrev pub behind : Named → ExchangedPart
behind w = inserted (end_of w.offset (length w.name.now)) sign.Semicolon

-- where what closes is wanted, or `run`, parentheses or nothing
abbrev pub by_closer : Segment → Expected → Option ExchangedPart
by_closer p (wanted.Closer o) = Some (inserted p.offset (closer_of o.name.now))
by_closer p (wanted.CloserBefore o) = Some (inserted p.offset (closer_of o.name.now))
by_closer p (wanted.CloserByLayout o) = Some (inserted p.offset (closer_of o.name.now))
by_closer p (wanted.CloserBeforeArrow o a) = Some (inserted a.offset (closer_of o.name.now))
by_closer p (wanted.RunOf d c) = Some (inserted c.offset sign.RunBefore)
by_closer p (wanted.Arguments n) = Some (inserted p.offset sign.Parentheses)
by_closer p (wanted.Parameters n) = Some (inserted p.offset sign.Parentheses)
by_closer p wanted.Nothing = Some (in_place p.offset p.length sign.Nothing)
by_closer p w = None

-- where a separator or another sign is wanted
abbrev pub by_sign : Segment → Expected → Option ExchangedPart
by_sign p (wanted.SemicolonAtLineEnd l) = Some (behind l)
by_sign p (wanted.SemicolonOrOption l) = Some (behind l)
by_sign p wanted.Semicolon = Some (inserted p.offset sign.SemicolonBefore)
by_sign p wanted.SemicolonFor = Some (in_place p.offset p.length sign.Semicolon)
by_sign p wanted.OptionSign = Some (inserted p.offset sign.OptionBefore)
by_sign p wanted.OptionFor = Some (in_place p.offset p.length sign.Option)
by_sign p (wanted.ArrowFor s) = Some (in_place s.offset (length s.name.now) sign.Arrow)
by_sign p wanted.Comma = Some (inserted p.offset sign.CommaBefore)
by_sign p (wanted.CommaBefore n) = Some (inserted n.offset sign.CommaBefore)
by_sign p w = None

-- where no rule reads a token
abbrev pub by_syntax : Segment → Expected → Option ExchangedPart
by_syntax p w = option_or (by_sign p w) (by_closer p w)

-- the name nearest to it, in place of a name
abbrev pub copied : Segment → Named → ExchangedPart
copied p n = record { at = p.offset; length = p.length; words = words.Copy n.offset (length n.name.now) }

abbrev pub by_near : Segment → Option Named → Option ExchangedPart
by_near p None = None
by_near p (Some n) = Some (copied p n)

abbrev pub by_unknown : Segment → UnknownCause → Option ExchangedPart
by_unknown p (unknown.Nowhere s n near) = by_near p near
by_unknown p (unknown.Field n h near) = by_near p near
by_unknown p (unknown.Inline i) = Some (inserted (end_of p.offset p.length) sign.Parentheses)
by_unknown p c = None

abbrev pub by_label : Segment → LabelCause → Option ExchangedPart
by_label p (label.Missing n near) = by_near p near
by_label p c = None

-- where a text is refused at a place for this
abbrev pub by_cause : Segment → Reason → Option ExchangedPart
by_cause p (cause.Syntax c) = by_syntax p c.wanted
by_cause p (cause.Unknown c) = by_unknown p c
by_cause p (cause.Label c) = by_label p c
by_cause p c = None
