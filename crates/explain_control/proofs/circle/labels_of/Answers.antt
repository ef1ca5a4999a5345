use Rattle.std.proofs.Common.{◌≡◌, ◌∙◌, ◌<◌, ℕ, suc, Some, ap, sym, arith}
use Rattle.pml_control.specs.Ends.{Leads}
use Rattle.pml_control.proofs.Chains.{leads_on}
use Rattle.explain_control.specs.Blamed.{labels_along}
use Rattle.explain_control.proofs.Rounds.{circling_on, circling_goes, not_yet, more_labels, round_back, round_out, one_more}
use Rattle.explain_control.proofs.circle.labels_of.Goals as goal

pub returns-in_default : goal.returns-in_default
returns-in_default c = absurd (circling_goes c.args.next.now c.loop.here c.loop.invariant.goes (sym c.next_of.ensures ∙ c.in_default.is))

pub returns-then-there-post : goal.returns-then-there-post
returns-then-there-post c =
    let i = c.loop.invariant in
    round_back c.args.next.now c.args.sites.now c.loop.index c.args.post c.loop.here c.loop.labels.items i.leads i.first i.labels c.add_label.new.labels.items c.requires c.in_ok-add_label.ensures (sym c.next_of.ensures ∙ c.in-Some.is ∙ ap Some c.if-there-post.true)

pub loop-preserved : goal.loop-preserved
loop-preserved c =
    let i = c.loop.invariant in
    let e = sym c.next_of.ensures ∙ c.in-Some.is in
    record {
      goes = circling_on c.args.next.now c.loop.here c.in-Some.there i.goes e;
      leads = one_more (λ (n : ℕ). Leads c.args.next.now n c.args.post c.in-Some.there) c.loop.index (leads_on c.args.next.now c.loop.index c.args.post c.loop.here c.in-Some.there i.leads e);
      labels =
          one_more (λ (n : ℕ). c.add_label.new.labels.items ≡ labels_along c.args.sites.now c.args.next.now n c.args.post) c.loop.index
          (more_labels c.args.next.now c.args.sites.now c.loop.index c.args.post c.loop.here c.loop.labels.items i.leads i.first i.labels c.add_label.new.labels.items c.in_ok-add_label.ensures);
      first =
          one_more (λ (k : ℕ). (n : ℕ) → n < k → Leads c.args.next.now (suc n) c.args.post c.args.post → ⊥) c.loop.index
          (not_yet c.args.next.now c.loop.index c.args.post c.loop.here c.in-Some.there i.first i.leads e c.if-there-post.false);
    }

pub returns : goal.returns
returns c =
    let i = c.loop.invariant in
    round_out c.args.next.now c.args.sites.now c.loop.index c.args.post c.loop.labels.items i.first i.labels c.requires (omega (arith, c.loop-test.false, c.loop.auto.index-end))
