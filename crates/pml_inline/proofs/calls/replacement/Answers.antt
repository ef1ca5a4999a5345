use Rattle.std.proofs.Common.{rules, ◌≡◌, ◌∙◌, ◌<◌, ℕ, true, false, length, get_or, ap, sym, arith, Vec, Global}
use Rattle.std.proofs.lemmas.List.{length-map}
use Rattle.promela_text.specs.Inlines.{arguments}
use Rattle.pml_inline.specs.Places.{words_of}
use Rattle.pml_inline.specs.Parts.{inline_of, lists_of, places_replaced, IsMarked}
use Rattle.pml_inline.specs.Texts.{inlines}
use Rattle.pml_inline.proofs.Replacement.{get-within, inline-at, fits-code, body-is, no_room, is_around, not_fit, by_result}
use Rattle.pml_inline.proofs.calls.replacement.Goals as goal

pub returns-then-active : goal.returns-then-active
returns-then-active c = λ known d is. no_room c.args.text.now c.requires.text c.args.active.now c.requires.numbers c.args.number d is known (words_of c.args.text.now.tokens.now c.args.inside.now) c.args.most c.if-active.true

pub returns-then-contains : goal.returns-then-contains
returns-then-contains c = λ known d is.
    is_around c.args.text.now c.requires.text c.args.active.now c.requires.numbers c.args.number d is known (words_of c.args.text.now.tokens.now c.args.inside.now) c.args.most (sym c.contains.ensures.value ∙ c.if-contains.true)

pub returns-then-number-text : goal.returns-then-number-text
returns-then-number-text c = λ known d is.
    let lt : c.args.number < length (inlines c.args.text.now) = get-within (inlines c.args.text.now) c.args.number d is in
    let e = length-map c.args.text.now.definitions.now (inline_of c.args.text.now.tokens.now) in
    absurd (omega arith)

pub returns-then-not-fits : goal.returns-then-not-fits
returns-then-not-fits c = λ known d is.
    let ts = c.args.text.now.tokens.now in
    let here = get_or c.args.text.now.definitions.now c.args.number c.index-text-number.result in
    let same : inline_of ts here ≡ d = inline-at ts c.args.text.now.definitions.now c.args.number c.index-text-number.result d c.if-number-text.false is in
    let wrong : c.fits.result ≡ false = search rules in
    not_fit c.args.text.now c.requires.text c.args.active.now c.requires.numbers c.args.number d is known (words_of ts c.args.inside.now) c.args.most
    (fits-code ts here d c.in_ok-arguments.arguments.items c.deref.result.now (arguments (words_of ts c.args.inside.now)) c.fits.result same c.in_ok-arguments.ensures c.deref.ensures.value c.fits.ensures ∙ wrong)

pub returns : goal.returns
returns c = λ known d is.
    let ts = c.args.text.now.tokens.now in
    let here = get_or c.args.text.now.definitions.now c.args.number c.index-text-number.result in
    let same : inline_of ts here ≡ d = inline-at ts c.args.text.now.definitions.now c.args.number c.index-text-number.result d c.if-number-text.false is in
    let right : c.fits.result ≡ true = search rules in
    let alone : c.contains.result ≡ false = search rules in
    let marked : IsMarked ts here = c.requires.text.marked c.args.number c.index-text-number.result c.if-number-text.false in
    by_result c.args.text.now c.requires.text c.args.active.now c.requires.numbers c.args.number d is known (words_of ts c.args.inside.now) c.args.most (λ (v : Vec ℕ Global). v.items) c.replaced.result
    (places_replaced c.deref-2.result.now (lists_of c.deref-3.result.now)) c.if-active.false (sym c.contains.ensures.value ∙ alone)
    (fits-code ts here d c.in_ok-arguments.arguments.items c.deref.result.now (arguments (words_of ts c.args.inside.now)) c.fits.result same c.in_ok-arguments.ensures c.deref.ensures.value c.fits.ensures ∙ right)
    (ap (λ b. words_of ts (places_replaced b (lists_of c.deref-3.result.now))) c.deref-2.ensures.value ∙ ap (λ a. words_of ts (places_replaced here.body.items (lists_of a))) c.deref-3.ensures.value
    ∙ body-is ts here d (lists_of c.in_ok-arguments.arguments.items) (arguments (words_of ts c.args.inside.now)) same marked c.in_ok-arguments.ensures)
    c.replaced.ensures
