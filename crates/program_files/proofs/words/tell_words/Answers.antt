use Rattle.std.proofs.Common.{refl, sym, ap, ◌∙◌, rules}
use Rattle.std.proofs.lemmas.Bool.{false≢true}
use denote.Enum.Bare.{same_true, sameb}
use Rattle.clap.specs.contracts.error.kind.ErrorKind.{the_type}
use Rattle.clap.specs.declared.error.kind.ErrorKind.{ErrorKind}
use Rattle.clap.specs.declared.error.kind.ErrorKind.TheVariants as kind
use Rattle.program_files.specs.Words.{no_memory, mistake, shown, not_shown}
use Rattle.program_files.proofs.words.tell_words.Goals as goal

pub returns-then-eq : goal.returns-then-eq
returns-then-eq c = no_memory (sym c.kind.ensures ∙ same_true the_type (search rules) _ _ (sym c.if-eq.ensures))

pub returns-then-use_stderr : goal.returns-then-use_stderr
returns-then-use_stderr c =
    mistake (λ is. false≢true (c.if-eq.ensures ∙ ap (λ (k : ErrorKind). sameb the_type k kind.OutOfMemory) (c.kind.ensures ∙ is))) (c.if-use_stderr.ensures.0 refl)

pub returns-then-shown : goal.returns-then-shown
returns-then-shown c = shown (λ is. false≢true (c.if-use_stderr.ensures.1 is))

pub returns-else-shown : goal.returns-else-shown
returns-else-shown c = not_shown (λ is. false≢true (c.if-use_stderr.ensures.1 is))
