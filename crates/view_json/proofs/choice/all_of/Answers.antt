use Rattle.std.proofs.Common.{◌∙◌, sym, subst, [], ◌∷◌, List}
use Rattle.json.specs.Token.{Token, begin_object}
use Rattle.json.specs.Print.{print, ArePrintable}
use Rattle.view_text.specs.Written.{Adds}
use Rattle.view_json.specs.declared.list.Listing.{Listing}
use Rattle.view_json.specs.Shown.{Lists}
use Rattle.view_json.specs.Choices.{choices}
use Rattle.view_json.proofs.Listed.{lists_more}
use Rattle.view_json.proofs.Differing.{finished, written_printable}
use Rattle.view_json.proofs.Choices.{are_objects, several_are}
use Rattle.view_json.proofs.choice.all_of.Goals as goal

pub returns : goal.returns
returns c =
    let told = c.add_choices.ensures in
    let s = c.args.live.now.state in
    let ms = c.args.moves.now in
    let ts = choices s ms told.0 in
    let are = are_objects s ms told.0 c.requires told.1 in
    let list : Listing = record { text = c.finish.new.out; is_empty = c.next.new.self.is_empty } in
    let text = finished c.next.new.self.text c.finish.new.out c.new-json.result c.add_choices.new.json ts c.new-json.ensures told.2 c.finish.ensures.written c.finish.ensures.refused in
    let can_read = written_printable c.finish.new.out c.new-json.result c.add_choices.new.json ts c.new-json.ensures told.2 c.finish.ensures.printable c.finish.ensures.refused in (
      told.0,
      told.1,
      subst (Lists list) (sym are.begins ∙ sym (several_are s ms told.0 c.requires))
          (lists_more c.new-list.result c.next.new.self list [] are.rest c.new-list.ensures c.next.ensures.text (subst (λ (us : List Token). Adds c.next.new.self.text c.finish.new.out (print us)) are.begins text) c.next.ensures.some
          are.ends (λ calm. subst ArePrintable are.begins (can_read calm))),
    )
