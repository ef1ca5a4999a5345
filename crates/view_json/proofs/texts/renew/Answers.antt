use Rattle.std.proofs.Common.{◌∙◌, ap, sym, ◌++◌}
use Rattle.promela_run.specs.World.{move_text}
use Rattle.view_tokens.specs.Printed.{Printed}
use Rattle.view_json.specs.Objects.{text}
use Rattle.view_json.proofs.Alike.{line_text}
use Rattle.view_json.proofs.texts.renew.Goals as goal

pub returns-clause-written : goal.returns-clause-written
returns-clause-written c = λ calm.
    ap (λ (j : Printed). j.tokens) c.keep.ensures.written ∙ c.move_text.ensures.added (sym (ap (λ (j : Printed). j.refused) c.keep.ensures.written) ∙ calm)
    ∙ ap (λ (j : Printed). j.tokens ++ text (move_text c.args.live.now.state c.args.m)) c.clear.ensures

pub returns-clause-reads : goal.returns-clause-reads
returns-clause-reads c = λ calm some.
    ap (λ (j : Printed). j.tokens) c.keep.ensures.written ∙ c.move_text.ensures.added (sym (ap (λ (j : Printed). j.refused) c.keep.ensures.written) ∙ calm)
    ∙ ap (λ (j : Printed). j.tokens ++ text (move_text c.args.live.now.state c.args.m)) c.clear.ensures
    ∙ ap text (line_text c.args.live.now.state c.args.m c.keep.new.line c.args.parts (c.keep.ensures.line some) c.requires some)
