use Rattle.std.proofs.Common.{rules, ◌≡◌, ◌∙◌, ◌+◌, ◌-◌, ◌&&◌, ◌++◌, [], false, nat_eq, List, ap, sym, get_or, take, drop, map, arith}
use Rattle.std.proofs.lemmas.Bool.{ne_eqb, and_left, and_right}
use Rattle.pml_token.specs.declared.token.Kind.{Kind}
use Rattle.pml_token.specs.declared.token.Kind.TheVariants.{Comma}
use Rattle.pml_token.specs.Word.{same_kind, Word}
use Rattle.promela_text.specs.Inlines.{parts, level_behind}
use Rattle.pml_inline.specs.Places.{word_at, words_of}
use Rattle.pml_inline.specs.Parts.{lists_of}
use Rattle.pml_inline.proofs.Lists.{in_front, front-nil, lists-more, part_ends, part_goes_on}
use Rattle.pml_inline.proofs.arguments.arguments.Goals as goal
use Rattle.pml_inline.proofs.arguments.arguments.Goals.{then-same_kind+then-level-eq0+in_ok-push, else-same_kind, else-same_kind-via-then-same_kind+else-level-eq0, else-same_kind-via-else-same_kind}

pub loop-at-init : goal.loop-at-init
loop-at-init c =
    let ts = c.args.tokens.now in
    let ws = words_of ts c.args.inside.now in
    record {
      here = ap (λ vs. map (words_of ts) (lists_of vs) ++ in_front [] (parts ws 0)) c.new-arguments.ensures.items ∙ front-nil ws 0;
      level_fits = omega arith;
      start_fits = omega arith;
    }

pub loop-at-preserved : goal.loop-at-preserved
loop-at-preserved c =
    let ts = c.args.tokens.now in
    let ps = c.args.inside.now in
    let at = c.loop-at.at in
    let start = c.loop-at.start in
    let level = c.loop-at.level in
    let args = map (words_of ts) (lists_of c.loop-at.arguments.items) in
    let kind : same_kind (word_at ts (get_or ps at 0)).kind Comma ≡ c.same_kind.result = ap (λ (k : Kind). same_kind k Comma) (sym c.kind_at-kind.ensures) ∙ sym c.same_kind.ensures in
    elim c.if-same_kind.branch [
      | then-same_kind+then-level-eq0+in_ok-push w ↦
          rw (w.arguments-is, w.start-is, w.level-is) (record {
            here = ap (λ vs. map (words_of ts) (lists_of vs) ++ in_front (words_of ts (take (at + 1 - (at + 1)) (drop (at + 1) ps))) (parts (words_of ts (drop (at + 1) ps)) level)) w.in_ok-push.ensures.items
                ∙ ap (λ (xs : List (List Word)). xs ++ in_front (words_of ts (take (at + 1 - (at + 1)) (drop (at + 1) ps))) (parts (words_of ts (drop (at + 1) ps)) level)) (lists-more ts c.loop-at.arguments.items _)
                ∙ sym (part_ends ts ps args start at level c.loop-at-test.true (kind ∙ w.if-same_kind.true) w.if-level-eq0.true) ∙ c.loop-at.invariant.here;
            level_fits = omega arith;
            start_fits = omega arith;
          })
      | else-same_kind w ↦
          let no : (same_kind (word_at ts (get_or ps at 0)).kind Comma && nat_eq level 0) ≡ false = elim w.else-same_kind.branch [
            | else-same_kind-via-then-same_kind+else-level-eq0 w' ↦ and_right _ _ (ne_eqb level 0 w'.if-level-eq0.false)
            | else-same_kind-via-else-same_kind w' ↦ and_left _ _ (kind ∙ w'.if-same_kind.false)
          ] in
          let next : c.if-same_kind.level ≡ level_behind level (word_at ts (get_or ps at 0)).kind = w.level-is ∙ w.level_behind-level.ensures ∙ ap (level_behind level) c.kind_at-kind.ensures in
          record {
            here = rw (w.arguments-is, w.start-is, next) (sym (part_goes_on ts ps args start at level c.loop-at.invariant.start_fits c.loop-at-test.true no) ∙ c.loop-at.invariant.here);
            level_fits = search rules;
            start_fits = rw w.start-is (omega arith);
          }
    ]
