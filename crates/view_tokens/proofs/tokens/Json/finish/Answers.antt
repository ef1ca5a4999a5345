use Rattle.std.proofs.Common.{◌≡◌, ◌∙◌, ap, sym, subst, ℕ, List}
use Rattle.std.specs.Str.{IsUtf8}
use Rattle.json.specs.Print.{print, ArePrintable}
use Rattle.json.proofs.Printed.Tokens.{tokens-print}
use Rattle.view_text.specs.Written.{Adds}
use Rattle.view_tokens.specs.Printed.{Printed}
use Rattle.view_tokens.proofs.Growing.{shows}
use Rattle.view_tokens.proofs.tokens.Json.finish.Goals as goal

pub returns-then-is_refused-clause-printable : goal.returns-then-is_refused-clause-printable
returns-then-is_refused-clause-printable c =
    let h = c.self.invariant in
    let same : h.printed ≡ c.args.self.tokens = sym (shows _ _ h) ∙ ap (λ (v : Printed). v.tokens) c.self.view_is in
    subst ArePrintable same h.printable

pub returns-then-is_refused-clause-reads_back : goal.returns-then-is_refused-clause-reads_back
returns-then-is_refused-clause-reads_back c =
    let h = c.self.invariant in
    let same : h.printed ≡ c.args.self.tokens = sym (shows _ _ h) ∙ ap (λ (v : Printed). v.tokens) c.self.view_is in
    tokens-print c.args.self.tokens (subst ArePrintable same h.printable)

pub returns-then-is_refused-clause-utf8 : goal.returns-then-is_refused-clause-utf8
returns-then-is_refused-clause-utf8 c =
    let h = c.self.invariant in
    let same : h.printed ≡ c.args.self.tokens = sym (shows _ _ h) ∙ ap (λ (v : Printed). v.tokens) c.self.view_is in
    subst IsUtf8 (h.is ∙ ap print same) h.utf8

pub returns-else-is_refused-clause-printable : goal.returns-else-is_refused-clause-printable
returns-else-is_refused-clause-printable c =
    let h = c.self.invariant in
    let same : h.printed ≡ c.args.self.tokens = sym (shows _ _ h) ∙ ap (λ (v : Printed). v.tokens) c.self.view_is in
    subst ArePrintable same h.printable

pub returns-else-is_refused-clause-reads_back : goal.returns-else-is_refused-clause-reads_back
returns-else-is_refused-clause-reads_back c =
    let h = c.self.invariant in
    let same : h.printed ≡ c.args.self.tokens = sym (shows _ _ h) ∙ ap (λ (v : Printed). v.tokens) c.self.view_is in
    tokens-print c.args.self.tokens (subst ArePrintable same h.printable)

pub returns-else-is_refused-clause-utf8 : goal.returns-else-is_refused-clause-utf8
returns-else-is_refused-clause-utf8 c =
    let h = c.self.invariant in
    let same : h.printed ≡ c.args.self.tokens = sym (shows _ _ h) ∙ ap (λ (v : Printed). v.tokens) c.self.view_is in
    subst IsUtf8 (h.is ∙ ap print same) h.utf8

pub returns-else-is_refused-clause-written : goal.returns-else-is_refused-clause-written
returns-else-is_refused-clause-written c =
    let h = c.self.invariant in
    let same : h.printed ≡ c.args.self.tokens = sym (shows _ _ h) ∙ ap (λ (v : Printed). v.tokens) c.self.view_is in
    subst (λ (l : List ℕ). Adds c.args.out.now c.add_whole.new.out l) (h.is ∙ ap print same) c.add_whole.ensures
