use Rattle.std.proofs.Common.{rules, ◌≡◌, ◌≤◌, ◌∙◌, ap, take, length, ℕ, List, subst}
use Rattle.std.specs.Result.{is_ok}
use Rattle.std.specs.Io.KnownBytes.{prepend_known, Keeps}
use Rattle.message_frames.proofs.Own.{filled}
use Rattle.message_frames.proofs.frames.Frames.fill.Goals as goal

pub returns-clause-kept : goal.returns-clause-kept
returns-clause-kept g c =
    let view : c.self.inside.held.items ≡ c.args.self.now = search rules in
    let held : c.len-held.result ≡ length c.self.inside.held.items = search rules in
    let low : c.len-held.result ≤ c.saturating_add.result = search rules in
    let long : c.resize.new.self.len ≡ length c.resize.new.self.items = search rules in
    let value : c.deref_mut.result.now ≡ c.resize.new.self.items = c.deref_mut.ensures.value in
    let longs : length c.read_behind-answer.new.room ≡ length c.resize.new.self.items =
    c.read_behind-answer.ensures.long ∙ ap (λ (l : List ℕ). length l) value in
    let first : take c.len-held.result c.read_behind-answer.new.room ≡ take c.len-held.result c.resize.new.self.items =
    c.read_behind-answer.ensures.held ∙ ap (λ (l : List ℕ). take c.len-held.result l) value in
    subst (λ (old : List ℕ). Keeps (prepend_known old (g.R.Read.remaining c.args.reader.now)) (prepend_known c.truncate.new.self.items (g.R.Read.remaining c.read_behind-answer.new.reader))) view
    (filled c.read_behind-answer.result (is_ok c.resize.result) c.len-held.result c.unwrap_or-count.result c.resize.new.self.len c.saturating_add.result
    c.self.inside.held.items _ c.resize.new.self.items c.read_behind-answer.new.room _ c.truncate.new.self.items _ _
    held low c.resize.ensures.items long longs first c.truncate.ensures.items
    c.unwrap_or-count.ensures c.read_behind-answer.ensures.read c.read_behind-answer.ensures.kept)
