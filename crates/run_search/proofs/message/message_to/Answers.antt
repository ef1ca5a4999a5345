use Rattle.std.proofs.Common.{rules, ◌≡◌, true, ℤ, to_z, of_z, w32, Ok, Some, sym, ap, ◌∙◌}
use Rattle.pml_value.specs.Seen.{seen}
use Rattle.promela_run.specs.Moves.{is_rendezvous}
use Rattle.promela_run.specs.Statements.{values}
use Rattle.promela_process.specs.Store.{cut}
use Rattle.run_search.specs.Fields.{evaluated, worths}
use Rattle.run_search.proofs.Offering.{message_some}
use Rattle.run_search.proofs.message.message_to.Goals as goal

pub returns : goal.returns
returns c =
    let k : is_rendezvous c.in-Ok.channel.now ≡ true = search rules in
    let n : evaluated (values c.args.fields.now (seen c.args.view)) ≡ Ok tt = search rules in
    let z : to_z w32 (of_z w32 c.in-Ok.number) ≡ c.in-Ok.number = search rules in
    let m = message_some _ _ _ c.args.fields.now _ c.in-Ok.ensures.ok k n in
    ap Some c.message_over.ensures ∙ (ap (λ (x : ℤ). Some (record { number = x; fields = cut c.in-Ok.channel.now.types (worths c.args.fields.now (seen c.args.view)) })) z ∙ sym m)
