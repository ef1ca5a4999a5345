use Rattle.std.proofs.Common.{◌≡◌, ◌∙◌, ◌++◌, ◌∷◌, [], ◌&&◌, ℕ, List, Some, None, ap, cond, nat_eq, length}
use Rattle.std.specs.Str.{bytes_eq}
use Rattle.indexmap.specs.IndexMap.{insert_entry}
use Rattle.check_names.specs.Entry.{found, entry, entries_of}
use Rattle.check_names.specs.Places.{stands}
use Rattle.check_names.proofs.Placing.{placed-more, entries-after}
use Rattle.check_names.proofs.table.Table.add.Goals as goal

pub invariant_of-self-2 : goal.invariant_of-self-2
invariant_of-self-2 c =
    let o = c.args.owner in
    let name = c.args.name in
    let t = c.args.thing in
    let inside = c.self.inside in
    let things = inside.things.entries in
    let place : c.len-place.result ≡ length things = c.len-place.ensures.len in
    let new : found (entries_of things) o name.now ≡ None = ap (λ es. found es o name.now) c.self.view_is ∙ c.requires in
    let is : (p : ℕ) (n : List ℕ) → stands c.put.new.self.numbers c.put.new.self.places p n
    ≡ cond (nat_eq o p && bytes_eq name.now n) (Some (length things)) (stands inside.places.numbers inside.places.places p n) = λ p n.
    c.in_ok-put.ensures.added p n
    ∙ ap (λ (j : ℕ). cond (nat_eq o p && bytes_eq name.now n) (Some j) (stands inside.places.numbers inside.places.places p n)) place in
    let after : c.insert.new.self.entries ≡ insert_entry nat_eq things (length things) ((o, name), t) =
    c.in_ok-insert.ensures.entries
    ∙ ap (λ es. insert_entry nat_eq es c.len-place.result ((o, name), t)) c.in_ok-reserve.ensures.entries
    ∙ ap (λ (j : ℕ). insert_entry nat_eq things j ((o, name), t)) place in
    rw after (placed-more inside.places.numbers c.put.new.self.numbers inside.places.places c.put.new.self.places things o name t c.self.invariant c.put.ensures.kept new is)

pub returns : goal.returns
returns c =
    let o = c.args.owner in
    let name = c.args.name in
    let t = c.args.thing in
    let things = c.self.inside.things.entries in
    ap entries_of
    (c.in_ok-insert.ensures.entries
    ∙ ap (λ es. insert_entry nat_eq es c.len-place.result ((o, name), t)) c.in_ok-reserve.ensures.entries
    ∙ ap (λ (j : ℕ). insert_entry nat_eq things j ((o, name), t)) c.len-place.ensures.len)
    ∙ entries-after things o name t c.self.invariant.counted
    ∙ ap (λ es. es ++ entry o name.now t ∷ []) c.self.view_is
