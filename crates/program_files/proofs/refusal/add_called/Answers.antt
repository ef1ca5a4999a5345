use Rattle.std.proofs.Common.{rules, ◌≡◌, ◌++◌, Option, Some, IfSome, string_bytes, subst}
use Rattle.pml_macros.specs.declared.atom.Atom.{Atom}
use Rattle.called_macros.specs.Told.{called_told}
use Rattle.program_files.specs.Explained.{IsCalledIn}
use Rattle.program_files.proofs.Calling.{ok_adds}
use Rattle.program_files.proofs.refusal.add_called.Goals as goal

pub returns : goal.returns
returns c =
    let told : IfSome (Some c.in-Some-2.atom) (IsCalledIn c.in-Some.origin c.args.text.now c.args.refusal) =
    subst (λ (o : Option Atom). IfSome o (IsCalledIn c.in-Some.origin c.args.text.now c.args.refusal)) c.in-Some-2.is c.in_ok-atom.ensures in
    let added : string_bytes c.push_called.new.out ≡ string_bytes c.args.out.now ++ called_told c.in-Some.origin c.in-Some-2.atom = search (rules, c.in_ok-push_called.ensures) in
    ok_adds c.args.own.now.origin c.args.text.now c.args.refusal c.in-Some.origin c.in-Some-2.atom (string_bytes c.args.out.now) (string_bytes c.push_called.new.out) (string_bytes c.add_its_line.new.out)
    c.add_its_line.result c.in-Some.is told added c.add_its_line.ensures
