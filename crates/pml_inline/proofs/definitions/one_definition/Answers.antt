use Rattle.std.proofs.Common.{rules, ◌≡◌, ◌∙◌, ◌+◌, ◌-◌, ◌<◌, ℕ, true, false, List, Some, ap, sym, subst, take, drop, length, arith}
use Rattle.std.proofs.lemmas.List.{length-map, length-take, length-drop}
use Rattle.std.specs.Borrow.{Bor}
use Rattle.pml_token.specs.declared.token.Kind.{Kind}
use Rattle.pml_token.specs.declared.token.Kind.TheVariants.{Name, OpenParen, OpenBrace, CloseBrace}
use Rattle.pml_token.specs.Word.{same_kind}
use Rattle.promela_text.specs.Inlines.{has_inline, closing, parameter_names, listed, all_differ}
use Rattle.pml_inline.specs.Places.{word_at, words_of}
use Rattle.pml_inline.specs.Parts.{texts_of, places_of, AreNumbered}
use Rattle.pml_inline.proofs.Steps.{none_of, some_of}
use Rattle.pml_inline.proofs.Defining.{no_name, no_paren, too_short, no_list, no_start, no_brace, no_end, inline_inside, twice_named, right, brace_closing, body_words, body_range, listed-code}
use Rattle.pml_inline.proofs.definitions.one_definition.Goals as goal

pub returns-then-from-tokens : goal.returns-then-from-tokens
returns-then-from-tokens c = too_short c.args.tokens.now c.args.from c.if-from-tokens.true

pub returns-then-not-same_kind : goal.returns-then-not-same_kind
returns-then-not-same_kind c =
    let ts = c.args.tokens.now in
    let from = c.args.from in
    let other : c.same_kind.result ≡ false = search rules in
    no_name ts from (ap (λ (k : Kind). same_kind k Name) (sym c.kind_at.ensures) ∙ sym c.same_kind.ensures ∙ other)

pub returns-then-not-same_kind-2 : goal.returns-then-not-same_kind-2
returns-then-not-same_kind-2 c =
    let ts = c.args.tokens.now in
    let from = c.args.from in
    let other : c.same_kind-2.result ≡ false = search rules in
    no_paren ts from (ap (λ (k : Kind). same_kind k OpenParen) (sym c.kind_at-2.ensures) ∙ sym c.same_kind-2.ensures ∙ other)

pub returns-in_default : goal.returns-in_default
returns-in_default c =
    let ts = c.args.tokens.now in
    let from = c.args.from in
    let one : c.same_kind.result ≡ true = search rules in
    let name : same_kind (word_at ts from).kind Name ≡ true = ap (λ (k : Kind). same_kind k Name) (sym c.kind_at.ensures) ∙ sym c.same_kind.ensures ∙ one in
    let two : c.same_kind-2.result ≡ true = search rules in
    let paren : same_kind (word_at ts (from + 1)).kind OpenParen ≡ true = ap (λ (k : Kind). same_kind k OpenParen) (sym c.kind_at-2.ensures) ∙ sym c.same_kind-2.ensures ∙ two in
    no_list ts from name paren (none_of _ _ _ c.in_default.is c.in_ok-parameters.ensures.names)

pub returns-then-start-tokens : goal.returns-then-start-tokens
returns-then-start-tokens c =
    let ts = c.args.tokens.now in
    let from = c.args.from in
    let one : c.same_kind.result ≡ true = search rules in
    let name : same_kind (word_at ts from).kind Name ≡ true = ap (λ (k : Kind). same_kind k Name) (sym c.kind_at.ensures) ∙ sym c.same_kind.ensures ∙ one in
    let two : c.same_kind-2.result ≡ true = search rules in
    let paren : same_kind (word_at ts (from + 1)).kind OpenParen ≡ true = ap (λ (k : Kind). same_kind k OpenParen) (sym c.kind_at-2.ensures) ∙ sym c.same_kind-2.ensures ∙ two in
    let names = texts_of c.in-Some.parameters.items in
    let list : parameter_names (drop (from + 2) ts) ≡ Some names = some_of _ _ _ _ c.in-Some.is c.in_ok-parameters.ensures.names in
    let count : c.len.result ≡ length names = c.len.ensures ∙ c.in-Some.parameters.ok.0 ∙ sym (length-map c.in-Some.parameters.items (λ (n : Bor (List ℕ)). n.now)) in
    let start = from + 2 + c.listed.result in
    let begin : start ≡ from + 2 + listed names = ap (λ n. from + 2 + n) (listed-code c.listed.result c.len.result names count c.listed.ensures) in
    no_start ts from start names name paren list begin c.if-start-tokens.true

pub returns-then-not-same_kind-3 : goal.returns-then-not-same_kind-3
returns-then-not-same_kind-3 c =
    let ts = c.args.tokens.now in
    let from = c.args.from in
    let one : c.same_kind.result ≡ true = search rules in
    let name : same_kind (word_at ts from).kind Name ≡ true = ap (λ (k : Kind). same_kind k Name) (sym c.kind_at.ensures) ∙ sym c.same_kind.ensures ∙ one in
    let two : c.same_kind-2.result ≡ true = search rules in
    let paren : same_kind (word_at ts (from + 1)).kind OpenParen ≡ true = ap (λ (k : Kind). same_kind k OpenParen) (sym c.kind_at-2.ensures) ∙ sym c.same_kind-2.ensures ∙ two in
    let names = texts_of c.in-Some.parameters.items in
    let list : parameter_names (drop (from + 2) ts) ≡ Some names = some_of _ _ _ _ c.in-Some.is c.in_ok-parameters.ensures.names in
    let count : c.len.result ≡ length names = c.len.ensures ∙ c.in-Some.parameters.ok.0 ∙ sym (length-map c.in-Some.parameters.items (λ (n : Bor (List ℕ)). n.now)) in
    let start = from + 2 + c.listed.result in
    let begin : start ≡ from + 2 + listed names = ap (λ n. from + 2 + n) (listed-code c.listed.result c.len.result names count c.listed.ensures) in
    let other : c.same_kind-3.result ≡ false = search rules in
    no_brace ts from start names name paren list begin (ap (λ (k : Kind). same_kind k OpenBrace) (sym c.kind_at-3.ensures) ∙ sym c.same_kind-3.ensures ∙ other)

pub returns-in_default-closing : goal.returns-in_default-closing
returns-in_default-closing c =
    let ts = c.args.tokens.now in
    let from = c.args.from in
    let one : c.same_kind.result ≡ true = search rules in
    let name : same_kind (word_at ts from).kind Name ≡ true = ap (λ (k : Kind). same_kind k Name) (sym c.kind_at.ensures) ∙ sym c.same_kind.ensures ∙ one in
    let two : c.same_kind-2.result ≡ true = search rules in
    let paren : same_kind (word_at ts (from + 1)).kind OpenParen ≡ true = ap (λ (k : Kind). same_kind k OpenParen) (sym c.kind_at-2.ensures) ∙ sym c.same_kind-2.ensures ∙ two in
    let names = texts_of c.in-Some.parameters.items in
    let list : parameter_names (drop (from + 2) ts) ≡ Some names = some_of _ _ _ _ c.in-Some.is c.in_ok-parameters.ensures.names in
    let count : c.len.result ≡ length names = c.len.ensures ∙ c.in-Some.parameters.ok.0 ∙ sym (length-map c.in-Some.parameters.items (λ (n : Bor (List ℕ)). n.now)) in
    let start = from + 2 + c.listed.result in
    let begin : start ≡ from + 2 + listed names = ap (λ n. from + 2 + n) (listed-code c.listed.result c.len.result names count c.listed.ensures) in
    let three : c.same_kind-3.result ≡ true = search rules in
    let brace : same_kind (word_at ts start).kind OpenBrace ≡ true = ap (λ (k : Kind). same_kind k OpenBrace) (sym c.kind_at-3.ensures) ∙ sym c.same_kind-3.ensures ∙ three in
    no_end ts from start names name paren list begin brace (brace_closing ts c.args.places.now (start + 1) c.closing.result c.requires.whole c.closing.ensures.value ∙ c.in_default-closing.is)

pub returns-then-has_inline : goal.returns-then-has_inline
returns-then-has_inline c =
    let ts = c.args.tokens.now in
    let from = c.args.from in
    let one : c.same_kind.result ≡ true = search rules in
    let name : same_kind (word_at ts from).kind Name ≡ true = ap (λ (k : Kind). same_kind k Name) (sym c.kind_at.ensures) ∙ sym c.same_kind.ensures ∙ one in
    let two : c.same_kind-2.result ≡ true = search rules in
    let paren : same_kind (word_at ts (from + 1)).kind OpenParen ≡ true = ap (λ (k : Kind). same_kind k OpenParen) (sym c.kind_at-2.ensures) ∙ sym c.same_kind-2.ensures ∙ two in
    let names = texts_of c.in-Some.parameters.items in
    let list : parameter_names (drop (from + 2) ts) ≡ Some names = some_of _ _ _ _ c.in-Some.is c.in_ok-parameters.ensures.names in
    let count : c.len.result ≡ length names = c.len.ensures ∙ c.in-Some.parameters.ok.0 ∙ sym (length-map c.in-Some.parameters.items (λ (n : Bor (List ℕ)). n.now)) in
    let start = from + 2 + c.listed.result in
    let begin : start ≡ from + 2 + listed names = ap (λ n. from + 2 + n) (listed-code c.listed.result c.len.result names count c.listed.ensures) in
    let three : c.same_kind-3.result ≡ true = search rules in
    let brace : same_kind (word_at ts start).kind OpenBrace ≡ true = ap (λ (k : Kind). same_kind k OpenBrace) (sym c.kind_at-3.ensures) ∙ sym c.same_kind-3.ensures ∙ three in
    let n = c.in-Some-closing.length in
    let closes : closing OpenBrace CloseBrace (drop (start + 1) ts) 0 ≡ Some n = brace_closing ts c.args.places.now (start + 1) c.closing.result c.requires.whole c.closing.ensures.value ∙ c.in-Some-closing.is in
    inline_inside ts from start names name paren list begin n brace closes (ap has_inline (sym (body_range ts start n)) ∙ sym c.has_inline.ensures ∙ c.if-has_inline.true)

pub returns-in_default-2 : goal.returns-in_default-2
returns-in_default-2 c =
    let ts = c.args.tokens.now in
    let from = c.args.from in
    let one : c.same_kind.result ≡ true = search rules in
    let name : same_kind (word_at ts from).kind Name ≡ true = ap (λ (k : Kind). same_kind k Name) (sym c.kind_at.ensures) ∙ sym c.same_kind.ensures ∙ one in
    let two : c.same_kind-2.result ≡ true = search rules in
    let paren : same_kind (word_at ts (from + 1)).kind OpenParen ≡ true = ap (λ (k : Kind). same_kind k OpenParen) (sym c.kind_at-2.ensures) ∙ sym c.same_kind-2.ensures ∙ two in
    let names = texts_of c.in-Some.parameters.items in
    let list : parameter_names (drop (from + 2) ts) ≡ Some names = some_of _ _ _ _ c.in-Some.is c.in_ok-parameters.ensures.names in
    let count : c.len.result ≡ length names = c.len.ensures ∙ c.in-Some.parameters.ok.0 ∙ sym (length-map c.in-Some.parameters.items (λ (n : Bor (List ℕ)). n.now)) in
    let start = from + 2 + c.listed.result in
    let begin : start ≡ from + 2 + listed names = ap (λ n. from + 2 + n) (listed-code c.listed.result c.len.result names count c.listed.ensures) in
    let three : c.same_kind-3.result ≡ true = search rules in
    let brace : same_kind (word_at ts start).kind OpenBrace ≡ true = ap (λ (k : Kind). same_kind k OpenBrace) (sym c.kind_at-3.ensures) ∙ sym c.same_kind-3.ensures ∙ three in
    let n = c.in-Some-closing.length in
    let closes : closing OpenBrace CloseBrace (drop (start + 1) ts) 0 ≡ Some n = brace_closing ts c.args.places.now (start + 1) c.closing.result c.requires.whole c.closing.ensures.value ∙ c.in-Some-closing.is in
    twice_named ts from start names name paren list begin n brace closes (ap all_differ (sym (ap texts_of c.deref.ensures.value)) ∙ none_of _ _ _ c.in_default-2.is c.in_ok-numbers.ensures)

pub returns : goal.returns
returns c =
    let ts = c.args.tokens.now in
    let from = c.args.from in
    let one : c.same_kind.result ≡ true = search rules in
    let name : same_kind (word_at ts from).kind Name ≡ true = ap (λ (k : Kind). same_kind k Name) (sym c.kind_at.ensures) ∙ sym c.same_kind.ensures ∙ one in
    let two : c.same_kind-2.result ≡ true = search rules in
    let paren : same_kind (word_at ts (from + 1)).kind OpenParen ≡ true = ap (λ (k : Kind). same_kind k OpenParen) (sym c.kind_at-2.ensures) ∙ sym c.same_kind-2.ensures ∙ two in
    let names = texts_of c.in-Some.parameters.items in
    let list : parameter_names (drop (from + 2) ts) ≡ Some names = some_of _ _ _ _ c.in-Some.is c.in_ok-parameters.ensures.names in
    let count : c.len.result ≡ length names = c.len.ensures ∙ c.in-Some.parameters.ok.0 ∙ sym (length-map c.in-Some.parameters.items (λ (n : Bor (List ℕ)). n.now)) in
    let start = from + 2 + c.listed.result in
    let begin : start ≡ from + 2 + listed names = ap (λ n. from + 2 + n) (listed-code c.listed.result c.len.result names count c.listed.ensures) in
    let three : c.same_kind-3.result ≡ true = search rules in
    let brace : same_kind (word_at ts start).kind OpenBrace ≡ true = ap (λ (k : Kind). same_kind k OpenBrace) (sym c.kind_at-3.ensures) ∙ sym c.same_kind-3.ensures ∙ three in
    let n = c.in-Some-closing.length in
    let closes : closing OpenBrace CloseBrace (drop (start + 1) ts) 0 ≡ Some n = brace_closing ts c.args.places.now (start + 1) c.closing.result c.requires.whole c.closing.ensures.value ∙ c.in-Some-closing.is in
    let numbered : AreNumbered c.in-Some-2.numbers.numbers names = subst (λ ns. AreNumbered c.in-Some-2.numbers.numbers (texts_of ns)) c.deref.ensures.value (some_of _ _ _ _ c.in-Some-2.is c.in_ok-numbers.ensures) in
    let clean : has_inline (take (n + 2) (drop start ts)) ≡ false = ap has_inline (sym (body_range ts start n)) ∙ sym c.has_inline.ensures ∙ c.if-has_inline.false in
    let size : from + 2 + c.listed.result + n + 2 - from ≡ 2 + listed names + (n + 2) = let l = listed-code c.listed.result c.len.result names count c.listed.ensures in omega arith in
    let w : n < length c.args.places.now - (start + 1) = let v = simp (length-take, length-drop) at c.in-Some-closing.ensures.within in omega arith in
    record {
      is = right ts from start names name paren list begin n c.text_at.result.now (words_of ts (places_of c.in_ok-parts.field-0.items)) (from + 2 + c.listed.result + n + 2 - from) brace closes clean numbered.apart
          c.text_at.ensures (ap (words_of ts) c.in_ok-parts.ensures.places ∙ body_words ts c.args.places.now start n c.requires.whole) size;
      marked = c.in_ok-parts.ensures.marked names numbered;
      fits = let same = c.requires.same in omega arith;
    }
