-- What is told by what: the sorts of what is wanted.
use Rattle.std.specs.Prelude.{Bool, true, false, ◌||◌, Option, Some, None}
use Rattle.explain_cause.specs.declared.foreign.Foreign.{Foreign}
use Rattle.explain_cause.specs.declared.foreign.Foreign.TheVariants as foreign
use Rattle.explain_cause.specs.declared.cause.Named.{Named}
use Rattle.explain_cause.specs.declared.cause.Expected.{Expected}
use Rattle.explain_cause.specs.declared.cause.Expected.TheVariants as wanted
use Rattle.explain_cause.specs.declared.cause.Reason.{Reason}
use Rattle.explain_cause.specs.declared.cause.Reason.TheVariants as cause

-- it is told of tokens that no rule reads, or nothing is known
abbrev pub is_syntax : Reason → Bool
is_syntax (cause.Syntax c) = true
is_syntax cause.Untold = true
is_syntax r = false

-- the word before the token that is told of, where it is the word that another one is wanted for
abbrev pub word_of : Expected → Option Named
word_of (wanted.ForeignWord f n) = Some n
word_of (wanted.RunOf p n) = Some n
word_of (wanted.Word n w) = Some n
word_of (wanted.NoWord n) = Some n
word_of (wanted.NoType n) = Some n
word_of (wanted.Index n) = Some n
word_of (wanted.InlineValue n) = Some n
word_of (wanted.Inline n d) = Some n
word_of (wanted.NameOfInline n d) = Some n
word_of (wanted.InlineRun n d) = Some n
word_of (wanted.Untyped n) = Some n
word_of (wanted.CommaBefore n) = Some n
word_of (wanted.ArrowFor n) = Some n
word_of (wanted.CloserBeforeArrow o n) = Some n
word_of e = None

-- a word of another language
abbrev pub is_foreign : Expected → Bool
is_foreign (wanted.ForeignWord f n) = true
is_foreign e = false

-- a word of the language that a name is near to
abbrev pub is_word : Expected → Bool
is_word (wanted.Word n w) = true
is_word e = false

-- a variable or a call that stands for another thing
abbrev pub is_index : Expected → Bool
is_index (wanted.Index n) = true
is_index e = false

abbrev pub is_inline : Expected → Bool
is_inline (wanted.Inline n d) = true
is_inline (wanted.ForeignWord f n) = true
is_inline e = false

abbrev pub is_call : Expected → Bool
is_call e = is_index e || is_inline e

-- an inline that stands for a value, or for a name
abbrev pub is_inline_value : Expected → Bool
is_inline_value (wanted.InlineValue n) = true
is_inline_value e = false

abbrev pub is_inline_name : Expected → Bool
is_inline_name (wanted.InlineRun n d) = true
is_inline_name (wanted.NameOfInline n d) = true
is_inline_name e = false

-- the type of a name
abbrev pub is_typed : Expected → Bool
is_typed (wanted.Form f) = true
is_typed (wanted.ForeignWord f n) = true
is_typed (wanted.NoType n) = true
is_typed e = false

abbrev pub is_wordless : Expected → Bool
is_wordless (wanted.Form f) = true
is_wordless (wanted.NoWord n) = true
is_wordless e = false

-- the parameters of a proctype, or the `run` in front of one
abbrev pub is_proctype : Expected → Bool
is_proctype (wanted.Parameters n) = true
is_proctype (wanted.RunOf p n) = true
is_proctype e = false

-- a name without a type, or without a comma before it
abbrev pub is_untyped : Expected → Bool
is_untyped (wanted.RunOf p n) = true
is_untyped (wanted.Untyped n) = true
is_untyped e = false

abbrev pub is_beside : Expected → Bool
is_beside (wanted.CommaBefore n) = true
is_beside e = is_untyped e

-- what closes what is open, by the layout or at the end
abbrev pub is_by_layout : Expected → Bool
is_by_layout (wanted.CloserByLayout n) = true
is_by_layout e = false

abbrev pub is_of_end : Expected → Bool
is_of_end (wanted.EndOf n) = true
is_of_end (wanted.EndByLayout n) = true
is_of_end e = false

abbrev pub is_arrow : Expected → Bool
is_arrow (wanted.ArrowFor n) = true
is_arrow e = false

-- no list, or one that is written otherwise
abbrev pub is_list : Expected → Bool
is_list wanted.NoList = true
is_list (wanted.Form f) = true
is_list e = false

-- what is wanted between statements
abbrev pub is_between : Expected → Bool
is_between (wanted.SemicolonAtLineEnd n) = true
is_between wanted.Semicolon = true
is_between (wanted.Closer n) = true
is_between (wanted.CloserAndSemicolon n) = true
is_between (wanted.SemicolonOrOption n) = true
is_between (wanted.Form foreign.Then) = true
is_between e = false

abbrev pub is_one_of : Expected → Bool
is_one_of (wanted.OneOf c) = true
is_one_of wanted.Untold = true
is_one_of e = false

-- what is told by the word, the number or the string that no rule reads
abbrev pub is_of_word : Foreign → Bool
is_of_word foreign.ActiveCount = true
is_of_word foreign.ActiveInit = true
is_of_word foreign.ActiveProctype = true
is_of_word foreign.AssertText = true
is_of_word foreign.BraceBody = true
is_of_word foreign.BreakLabel = true
is_of_word foreign.Cast = true
is_of_word foreign.Channel = true
is_of_word foreign.ChannelQuestion = true
is_of_word foreign.ChannelTypes = true
is_of_word foreign.Conditional = true
is_of_word foreign.ElseIf = true
is_of_word foreign.LabelDeclaration = true
is_of_word foreign.ListValue = true
is_of_word foreign.LoopParens = true
is_of_word foreign.LoopType = true
is_of_word foreign.NameBegins = true
is_of_word foreign.Own = true
is_of_word foreign.Print = true
is_of_word foreign.PrintTexts = true
is_of_word foreign.PrintmText = true
is_of_word foreign.ProctypeResult = true
is_of_word foreign.QuotedName = true
is_of_word foreign.ReceivedType = true
is_of_word foreign.Record = true
is_of_word foreign.RepeatedType = true
is_of_word foreign.RunName = true
is_of_word foreign.SelectRange = true
is_of_word foreign.Text = true
is_of_word foreign.TextPrefix = true
is_of_word foreign.Try = true
is_of_word foreign.TwoTypes = true
is_of_word foreign.Width = true
is_of_word f = false

-- what is told by what is open there
abbrev pub is_within : Foreign → Bool
is_within foreign.ArgumentComma = true
is_within foreign.ArgumentType = true
is_within foreign.ArrayRange = true
is_within foreign.AssertText = true
is_within foreign.Cases = true
is_within foreign.ChannelAlone = true
is_within foreign.ChannelFields = true
is_within foreign.ChannelParameter = true
is_within foreign.ChannelRecord = true
is_within foreign.Counting = true
is_within foreign.FieldComma = true
is_within foreign.Implication = true
is_within foreign.LoopRange = true
is_within foreign.MessageFields = true
is_within foreign.NestedUnit = true
is_within foreign.NoChannel = true
is_within foreign.NoParameters = true
is_within foreign.NumberedName = true
is_within foreign.OptionBehind = true
is_within foreign.ParameterType = true
is_within foreign.ParameterArray = true
is_within foreign.ParameterValue = true
is_within foreign.SelectRange = true
is_within foreign.TwoAssignments = true
is_within f = false

-- what is told by a word that takes one thing alone, or by a declaration
abbrev pub is_behind_word : Foreign → Bool
is_behind_word foreign.ElseCondition = true
is_behind_word foreign.Postfix = true
is_behind_word foreign.GotoLabel = true
is_behind_word foreign.OptionArrow = true
is_behind_word foreign.Try = true
is_behind_word foreign.EvalParens = true
is_behind_word foreign.ValueParens = true
is_behind_word foreign.ChannelParens = true
is_behind_word foreign.CallParens = true
is_behind_word f = false

abbrev pub is_of_declaration : Foreign → Bool
is_of_declaration foreign.Width = true
is_of_declaration foreign.Size = true
is_of_declaration foreign.NamedMtype = true
is_of_declaration foreign.DeclaredEqual = true
is_of_declaration foreign.ProctypeType = true
is_of_declaration foreign.PeekEnd = true
is_of_declaration foreign.ReceiveValue = true
is_of_declaration f = is_behind_word f

-- what a `<`, or another sign of a comparison, is meant for
abbrev pub is_of_less : Foreign → Bool
is_of_less foreign.Channel = true
is_of_less foreign.MessageFields = true
is_of_less foreign.ReceivedValue = true
is_of_less foreign.LessEquals = true
is_of_less f = false

abbrev pub is_of_comparison : Foreign → Bool
is_of_comparison foreign.Unequal = true
is_of_comparison foreign.GreaterEquals = true
is_of_comparison foreign.FatArrow = true
is_of_comparison foreign.Same = true
is_of_comparison foreign.Parallel = true
is_of_comparison foreign.ReceiveInCondition = true
is_of_comparison f = is_of_less f

-- what a sign of arithmetic is meant for
abbrev pub is_of_star : Foreign → Bool
is_of_star foreign.CommentEnd = true
is_of_star foreign.Power = true
is_of_star foreign.Pointer = true
is_of_star f = false

abbrev pub is_of_operator : Foreign → Bool
is_of_operator foreign.CommentSign = true
is_of_operator foreign.PrintTexts = true
is_of_operator foreign.PrintJoined = true
is_of_operator foreign.NameSigns = true
is_of_operator foreign.Unequal = true
is_of_operator foreign.Prefix = true
is_of_operator foreign.Postfix = true
is_of_operator foreign.FatArrow = true
is_of_operator f = is_of_star f

-- what a `:`, a `,` or a `.` is meant for
abbrev pub is_of_colon : Foreign → Bool
is_of_colon foreign.ColonEquals = true
is_of_colon foreign.ElseArrow = true
is_of_colon foreign.LabelName = true
is_of_colon foreign.GotoColon = true
is_of_colon foreign.Channel = true
is_of_colon foreign.OtherWidth = true
is_of_colon foreign.TypeBehind = true
is_of_colon foreign.TypeName = true
is_of_colon f = false

-- what a `?` is meant for
abbrev pub is_of_query : Foreign → Bool
is_of_query foreign.ReceivedValue = true
is_of_query foreign.TwoMessages = true
is_of_query foreign.MessageFields = true
is_of_query foreign.Conditional = true
is_of_query f = false

-- what an option, braces or brackets with nothing in them are meant for
abbrev pub is_of_empty : Foreign → Bool
is_of_empty foreign.EmptyOption = true
is_of_empty foreign.Cases = true
is_of_empty foreign.NoFields = true
is_of_empty foreign.Enumeration = true
is_of_empty foreign.Record = true
is_of_empty foreign.EmptyBody = true
is_of_empty foreign.Channel = true
is_of_empty foreign.EmptyIndex = true
is_of_empty foreign.EmptyBrackets = true
is_of_empty f = false

-- what stands where a list of names, a text or a body begins
abbrev pub is_of_beginning : Foreign → Bool
is_of_beginning foreign.Enumeration = true
is_of_beginning foreign.PrintValue = true
is_of_beginning foreign.Main = true
is_of_beginning foreign.BraceBody = true
is_of_beginning foreign.LoopBody = true
is_of_beginning f = false

-- what stands outside of all braces
abbrev pub is_outside : Foreign → Bool
is_outside foreign.BodyBrace = true
is_outside foreign.AtomicUnit = true
is_outside foreign.Outside = true
is_outside foreign.OutsideSign = true
is_outside f = false

-- a form of another language
abbrev pub is_form : Expected → Bool
is_form (wanted.Form f) = true
is_form e = false

-- what is told by a token and those in front of it alone
abbrev pub is_neighbour : Expected → Bool
is_neighbour wanted.NoSubtype = true
is_neighbour wanted.PlainAssignment = true
is_neighbour (wanted.Arguments n) = true
is_neighbour (wanted.Operand n) = true
is_neighbour (wanted.Options n) = true
is_neighbour wanted.NoRun = true
is_neighbour (wanted.Form foreign.ElseIf) = true
is_neighbour e = false

abbrev pub is_by_neighbours : Expected → Bool
is_by_neighbours e = is_list e || is_neighbour e

-- a word of another language, a form, or a proctype that is called
abbrev pub is_by_words : Expected → Bool
is_by_words e = is_foreign e || (is_form e || is_proctype e)

-- a condition that is closed too late
abbrev pub is_before_arrow : Expected → Bool
is_before_arrow (wanted.CloserBeforeArrow o n) = true
is_before_arrow e = false

-- a list or a condition that cannot go on so
abbrev pub is_unfit : Expected → Bool
is_unfit e = is_list e || (is_foreign e || is_before_arrow e)

abbrev pub is_closer : Expected → Bool
is_closer (wanted.CloserBefore n) = true
is_closer e = false

-- what is told by what is open
abbrev pub is_of_open : Expected → Bool
is_of_open e = is_form e || (is_closer e || is_unfit e)

-- a type, or a word that is meant for one
abbrev pub is_by_type : Expected → Bool
is_by_type e = is_foreign e || (is_word e || is_typed e)

-- what stands in no braces
abbrev pub is_of_outside : Expected → Bool
is_of_outside e = is_foreign e || (is_word e || is_form e)

-- a word for the type of a parameter: a channel is one of its own kind
abbrev pub of_parameter : Expected → Expected
of_parameter (wanted.ForeignWord foreign.Channel n) = wanted.ForeignWord foreign.ChannelParameter n
of_parameter e = e

-- what is told first: by the layout, by words, and by a sign for `->`
abbrev pub is_meant_first : Expected → Bool
is_meant_first e = is_by_layout e || (is_arrow e || (is_word e || is_by_type e))

-- what is told by a change of one token, but for a `;`
abbrev pub is_of_change : Expected → Bool
is_of_change wanted.Semicolon = true
is_of_change (wanted.Statement n) = true
is_of_change wanted.NoRun = true
is_of_change (wanted.Form foreign.StatementWord) = true
is_of_change wanted.Name = true
is_of_change wanted.Nothing = true
is_of_change wanted.Comma = true
is_of_change wanted.SemicolonFor = true
is_of_change wanted.OptionFor = true
is_of_change wanted.Untold = true
is_of_change e = false

abbrev pub is_option : Expected → Bool
is_option wanted.OptionSign = true
is_option e = false

-- what is told by reading the tokens once more
abbrev pub is_by_trial : Expected → Bool
is_by_trial e = is_option e || (is_between e || (is_one_of e || is_of_change e))
