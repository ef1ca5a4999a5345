use Rattle.std.proofs.Common.{rules, ◌≡◌, ◌++◌, Bool, true, false, List, ℤ, to_z, of_z, w32, length, Some, Ok, OnOk, sym, ap, ◌∙◌, subst}
use Rattle.promela_process.specs.Expressions.{Reading}
use Rattle.promela_process.specs.Store.{cut}
use Rattle.promela_run.specs.declared.live_channel.LiveChannel.{LiveChannel}
use Rattle.promela_run.specs.declared.moves.Move.{Move}
use Rattle.promela_run.specs.State.{reads}
use Rattle.promela_run.specs.Statements.{values}
use Rattle.promela_run.specs.Moves.{Message, Named, named, or_fault, can_send, is_rendezvous, pairs}
use Rattle.pml_value.specs.Seen.{seen}
use Rattle.run_search.specs.Fields.{worths}
use Rattle.run_search.proofs.Sends.{sent_message}
use Rattle.run_search.proofs.round.add_send.Goals as goal

pub returns-clause-added : goal.returns-clause-added
returns-clause-added c =
    let s = c.args.round.now.live.now.state in
    let t = c.args.round.now.timeout in
    let es = c.args.fields.now in
    let x = c.args.target.now in
    let r : Reading = reads s c.args.offer.process t in
    let n : Named = record { number = c.in-Ok.number; contents = c.in-Ok.channel.now } in
    let is : named s.channels r x (length es) ≡ Ok n =
    ap (λ (cs : List LiveChannel). named cs r x (length es)) (sym c.view-view.ensures.channels)
    ∙ (ap (λ (q : Reading). named c.view-view.result.channels.now q x (length es)) (sym c.view-view.ensures.reads) ∙ c.in-Ok.ensures.ok) in
    let not : c.can_send.result ≡ false = search rules in
    let alone : or_fault (can_send s.lossy false n.contents (values es r)) ≡ false =
    ap (λ (l : Bool). or_fault (can_send l false n.contents (values es r))) (sym c.is_lossy.ensures)
    ∙ (ap (λ (q : Reading). or_fault (can_send c.is_lossy.result false n.contents (values es q))) (sym c.view-view.ensures.reads) ∙ (sym c.can_send.ensures ∙ not)) in
    let meets : is_rendezvous n.contents ≡ true = search rules in
    let z : to_z w32 (of_z w32 c.in-Ok.number) ≡ c.in-Ok.number = search rules in
    let m : c.message_over.result ≡ record { number = n.number; fields = cut n.contents.types (worths es r) } =
    c.message_over.ensures
    ∙ (ap (λ (v : ℤ). record { number = v; fields = cut n.contents.types (worths es (seen c.view-view.result)) }) z
    ∙ ap (λ (q : Reading). record { number = n.number; fields = cut n.contents.types (worths es q) }) c.view-view.ensures.reads) in
    subst (λ (ms : List Move). OnOk c.add_sent.result (c.add_sent.new.moves.items ≡ c.args.moves.now.items ++ ms))
    (ap (λ (k : Message). pairs s t c.args.offer (Some k)) m ∙ sym (sent_message s t c.args.offer s.channels r x es n is alone meets))
    c.add_sent.ensures.added
