use Rattle.std.proofs.Common.{◌≡◌, ℕ, ap, nat_lt}
use Rattle.view_words.proofs.words.read.Goals as goal

set_where : (n m : ℕ) → n ≡ m → nat_lt 0 n ≡ nat_lt 0 m
set_where n m e = ap (nat_lt 0) e

pub returns : goal.returns
returns c = (
  c.in_ok-matches.matches,
  record {
    name = c.in_ok-name.ensures;
    source = c.in_ok-source.ensures;
    lines = c.in_ok-lines.ensures;
    prepare = set_where _ _ c.get_count.ensures.value;
    no_cpp = set_where _ _ c.get_count-2.ensures.value;
    defines = c.in_ok-defines.ensures;
    folders = c.in_ok-folders.ensures;
    choices = c.in_ok-choices.ensures;
    trail = c.in_ok-trail.ensures;
    rec = c.in_ok-rec.ensures;
    page = c.in_ok-page.ensures;
    form = c.form_of.ensures.lines;
    asks = set_where _ _ c.get_count-3.ensures.value;
    serves = set_where _ _ c.get_count-4.ensures.value;
    lossy = set_where _ _ c.get_count-5.ensures.value;
    explains = set_where _ _ c.get_count-6.ensures.value;
  },
)
