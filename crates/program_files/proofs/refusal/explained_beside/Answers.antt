use Rattle.std.proofs.Common.{rules, string_bytes}
use Rattle.program_files.proofs.Calling.{told_of_lent}
use Rattle.program_files.proofs.refusal.explained_beside.Goals as goal

pub returns : goal.returns
returns c = record {
  included = c.unwrap_or-included.result.items;
  told = string_bytes c.in_ok-out.out;
  explains = told_of_lent c.args.name.now c.args.text.now c.args.own.now.text.items c.args.own.now.lines.items c.unwrap_or-included.result.items
      c.as_slice-2.result.now c.as_slice-3.result.now c.as_slice-4.result.now c.args.refusal (string_bytes c.in_ok-out.out)
      c.as_slice-2.ensures.value c.as_slice-3.ensures.value c.as_slice-4.ensures.value c.in_ok-out.ensures;
  adds = search (rules, c.in_ok-add_called.ensures);
}
