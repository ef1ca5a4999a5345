-- Worked rows of the definition. Each character is a token: a letter a name, but `I` the word `inline`, a digit a number, any other a sign.
use Rattle.std.specs.Prelude.{◌≡◌, ℕ, zero, suc, ◌+◌, ◌++◌, Bool, true, false, nat_eq, nat_le, if◌then◌else◌, List, [], ◌∷◌, Option, Some, None, refl, map}
use lib.Chars.{codes}
use Rattle.pml_token.specs.declared.token.Kind.{Kind}
use Rattle.pml_token.specs.declared.token.Kind.TheVariants.{Name, Number, Inline, Semicolon}
use Rattle.pml_lex.specs.Scanning.{sign_of_one}
use Rattle.pml_token.specs.Word.{Word}
use Rattle.std.specs.Prelude.{unwrap_or}
use Rattle.promela_text.specs.Inlines.{is_inline, definition, callee}
use Rattle.pml_inline.specs.Expansion.{calling, expansion}

abbrev kind_of : ℕ → Kind
kind_of c = if nat_eq c 73 then Inline else (if nat_le 48 c then (if nat_le c 57 then Number else unwrap_or (sign_of_one c) Name) else unwrap_or (sign_of_one c) Semicolon)

abbrev text_of : ℕ → List ℕ
text_of c = if nat_eq c 73 then codes "inline" else c ∷ []

-- the tokens that these characters are, the k-th on line k
abbrev tokens_from : ℕ → List ℕ → List Word
tokens_from k [] = []
tokens_from k (c ∷ cs) = record { kind = kind_of c; text = text_of c; line = k } ∷ tokens_from (suc k) cs

abbrev head_of : List ℕ → ℕ
head_of [] = 0
head_of (c ∷ cs) = c

abbrev shown : Option (List Word) → Option (List ℕ)
shown None = None
shown (Some ws) = Some (map (λ (w : Word). head_of w.text) ws)

abbrev lines : Option (List Word) → Option (List ℕ)
lines None = None
lines (Some ws) = Some (map (λ (w : Word). w.line) ws)

abbrev outcome : List ℕ → Option (List ℕ)
unfolding expansion calling callee definition is_inline
outcome text = shown (expansion (tokens_from 1 text))

abbrev line_outcome : List ℕ → Option (List ℕ)
unfolding expansion calling callee definition is_inline
line_outcome text = lines (expansion (tokens_from 1 text))

-- a call by a call, its arguments in place of the parameters, and the braces of the bodies
twice : outcome (codes "Is(v,e){v=e;p(v)}It(v){s(v,v+1);s(v,v*2)}bx;{t(x)}") ≡ Some (codes "bx;{{{x=x+1;p(x)};{x=x*2;p(x)}}}")
unfolding outcome
twice = refl

-- too many arguments
too_many_arguments : outcome (codes "If(a){x=a}bx;{f(1,2)}") ≡ None
unfolding outcome
too_many_arguments = refl

-- calls itself
calls_itself : outcome (codes "If(){f()}{f()}") ≡ None
unfolding outcome
calls_itself = refl

-- is never called
is_never_called : outcome (codes "If(){f()}{s}") ≡ Some (codes "{s}")
unfolding outcome
is_never_called = refl

-- no inline
no_inline : outcome (codes "bx;{x=f(1,,{)}") ≡ Some (codes "bx;{x=f(1,,{)}")
unfolding outcome
no_inline = refl

-- no parenthesis
no_parenthesis : outcome (codes "If(){x}{f;f()}") ≡ Some (codes "{f;{x}}")
unfolding outcome
no_parenthesis = refl

-- defined later than the body
defined_later_than_the_body : outcome (codes "Ia(){b()}Ib(){x}{a()}") ≡ Some (codes "{{{x}}}")
unfolding outcome
defined_later_than_the_body = refl

-- called before it is defined
called_before_it_is_defined : outcome (codes "{f()}If(){x}") ≡ Some (codes "{f()}")
unfolding outcome
called_before_it_is_defined = refl

-- defined behind the outermost call
defined_behind_the_outermost_call : outcome (codes "Ia(){b()}{a()}Ib(){x}{a()}") ≡ Some (codes "{{b()}}{{{x}}}")
unfolding outcome
defined_behind_the_outermost_call = refl

-- within braces
within_braces : outcome (codes "{If(){x}}") ≡ None
unfolding outcome
within_braces = refl

-- braces that close nothing
braces_that_close_nothing : outcome (codes "}If(){x}{f()}") ≡ Some (codes "}{{x}}")
unfolding outcome
braces_that_close_nothing = refl

-- two of one name
two_of_one_name : outcome (codes "If(){x}If(a){y}") ≡ None
unfolding outcome
two_of_one_name = refl

-- parameter twice
parameter_twice : outcome (codes "If(a,a){x}") ≡ None
unfolding outcome
parameter_twice = refl

-- no closing parenthesis
no_closing_parenthesis : outcome (codes "If(){x}{f(}") ≡ None
unfolding outcome
no_closing_parenthesis = refl

-- no argument
no_argument : outcome (codes "If(a){x=a}{f()}") ≡ None
unfolding outcome
no_argument = refl

-- empty argument
empty_argument : outcome (codes "If(a,b){x}{f(1,)}") ≡ None
unfolding outcome
empty_argument = refl

-- commas in brackets
commas_in_brackets : outcome (codes "If(a){x=a}{f(g(1,2)+c[1,2])}") ≡ Some (codes "{{x=g(1,2)+c[1,2]}}")
unfolding outcome
commas_in_brackets = refl

-- argument calls the same
argument_calls_the_same : outcome (codes "If(a){x=a}{f(f(1))}") ≡ None
unfolding outcome
argument_calls_the_same = refl

-- argument that is not used
argument_that_is_not_used : outcome (codes "If(a){x}{f(f(1))}") ≡ Some (codes "{{x}}")
unfolding outcome
argument_that_is_not_used = refl

-- argument calls another
argument_calls_another : outcome (codes "If(a){x=a}Ig(b){b}{f(g(1))}") ≡ Some (codes "{{x={1}}}")
unfolding outcome
argument_calls_another = refl

-- one behind the other
one_behind_the_other : outcome (codes "If(a){x=a}{f(1);f(2)}") ≡ Some (codes "{{x=1};{x=2}}")
unfolding outcome
one_behind_the_other = refl

-- closes behind the body
closes_behind_the_body : outcome (codes "Ig(){h(}Ih(a){a}{g()1)}") ≡ None
unfolding outcome
closes_behind_the_body = refl

-- inline in a call
inline_in_a_call : outcome (codes "If(a){x}{f(I)}") ≡ None
unfolding outcome
inline_in_a_call = refl

-- definition in a call
definition_in_a_call : outcome (codes "If(a){x}f(Ig(){y})") ≡ None
unfolding outcome
definition_in_a_call = refl

-- no parameters
no_parameters : outcome (codes "If{x}") ≡ None
unfolding outcome
no_parameters = refl

-- nothing behind inline
nothing_behind_inline : outcome (codes "{s}I") ≡ None
unfolding outcome
nothing_behind_inline = refl

-- comma before the parenthesis
comma_before_the_parenthesis : outcome (codes "If(a,){x}") ≡ None
unfolding outcome
comma_before_the_parenthesis = refl

-- no comma
no_comma : outcome (codes "If(ab){x}") ≡ None
unfolding outcome
no_comma = refl

-- body without end
body_without_end : outcome (codes "If(){{x}") ≡ None
unfolding outcome
body_without_end = refl

-- inline in a body
inline_in_a_body : outcome (codes "If(){Ig(){x}}") ≡ None
unfolding outcome
inline_in_a_body = refl

-- parentheses alone count
parentheses_alone_count : outcome (codes "If(a){a}{f([)]}") ≡ Some (codes "{{[}]}")
unfolding outcome
parentheses_alone_count = refl

-- bracket in a body
bracket_in_a_body : outcome (codes "If(){(}{f()}") ≡ Some (codes "{{(}}")
unfolding outcome
bracket_in_a_body = refl

-- parameter before inline
parameter_before_inline : outcome (codes "Ia(){y}If(a){a()}{f(x)}") ≡ Some (codes "{{x()}}")
unfolding outcome
parameter_before_inline = refl

-- an argument may call what the body calls
an_argument_may_call_what_the_body_calls : outcome (codes "If(a){a;g()}Ig(){y}{f(g())}") ≡ Some (codes "{{{y};{y}}}")
unfolding outcome
an_argument_may_call_what_the_body_calls = refl

-- each token keeps its line, the braces of the body too
keeps_lines : line_outcome (codes "If(a){x=a}{f(1)}") ≡ Some (11 ∷ 6 ∷ 7 ∷ 8 ∷ 14 ∷ 10 ∷ 16 ∷ [])
unfolding line_outcome
keeps_lines = refl

-- n inlines from the k-th on, each of which calls the next one, and the last of which calls none
abbrev chain : ℕ → ℕ → List ℕ
chain zero k = []
chain (suc n) k = 73 ∷ (200 + k) ∷ 40 ∷ 41 ∷ 123 ∷ (201 + k) ∷ 40 ∷ 41 ∷ 125 ∷ chain n (suc k)

abbrev is_right : Option (List ℕ) → Bool
is_right None = false
is_right (Some ts) = true

a_hundred_calls : is_right (outcome (chain 100 0 ++ (200 ∷ 40 ∷ 41 ∷ []))) ≡ true
unfolding outcome
a_hundred_calls = refl

a_hundred_and_one : is_right (outcome (chain 101 0 ++ (200 ∷ 40 ∷ 41 ∷ []))) ≡ false
unfolding outcome
a_hundred_and_one = refl
