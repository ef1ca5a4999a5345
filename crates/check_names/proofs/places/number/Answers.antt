use Rattle.std.proofs.Common.{◌≡◌, ◌∙◌, ◌+◌, ℕ, List, Some, None, ap, sym, cond}
use Rattle.std.specs.BTreeMap.{btree_map_len}
use Rattle.std.specs.Option.{is_some, option_copied}
use Rattle.std.specs.Str.{bytes_eq}
use Rattle.std.proofs.lemmas.Map.Text.{btree_map_updates_str}
use Rattle.check_names.specs.Places.{number_in}
use Rattle.check_names.proofs.Numbering.{number-others, number-kept, numbered-more}
use Rattle.check_names.proofs.places.number.Goals as goal

pub returns-in_ok-insert-in-None-clause-numbered : goal.returns-in_ok-insert-in-None-clause-numbered
returns-in_ok-insert-in-None-clause-numbered c =
    let name = c.args.name.now in
    let ns = c.args.numbers.now in
    let ms = c.insert.new.self in
    let fresh : number_in ns name ≡ None = sym c.get.ensures.value ∙ ap option_copied c.in-None.is in
    let one : btree_map_len ms ≡ btree_map_len ns + 1 = c.in_ok-insert-in-None.ensures.len ∙ ap (λ o. btree_map_len ns + cond (is_some o) 0 1) (c.in_ok-insert-in-None.ensures.old ∙ fresh) in
    let is : (n : List ℕ) → number_in ms n ≡ cond (bytes_eq name n) (Some (btree_map_len ns)) (number_in ns n) = λ n.
    btree_map_updates_str name ns ms _ c.in_ok-insert-in-None.ensures.updates n
    ∙ ap (λ (k : ℕ). cond (bytes_eq name n) (Some k) (number_in ns n)) c.len-number.ensures.len in
    numbered-more ns ms name c.requires fresh one is

pub returns-in_ok-insert-in-None-clause-others : goal.returns-in_ok-insert-in-None-clause-others
returns-in_ok-insert-in-None-clause-others c =
    let name = c.args.name.now in
    let ns = c.args.numbers.now in
    let ms = c.insert.new.self in
    let fresh : number_in ns name ≡ None = sym c.get.ensures.value ∙ ap option_copied c.in-None.is in
    let one : btree_map_len ms ≡ btree_map_len ns + 1 = c.in_ok-insert-in-None.ensures.len ∙ ap (λ o. btree_map_len ns + cond (is_some o) 0 1) (c.in_ok-insert-in-None.ensures.old ∙ fresh) in
    let is : (n : List ℕ) → number_in ms n ≡ cond (bytes_eq name n) (Some (btree_map_len ns)) (number_in ns n) = λ n.
    btree_map_updates_str name ns ms _ c.in_ok-insert-in-None.ensures.updates n
    ∙ ap (λ (k : ℕ). cond (bytes_eq name n) (Some k) (number_in ns n)) c.len-number.ensures.len in
    number-others ns ms name c.requires fresh one is

pub returns-in_ok-insert-in-None-clause-kept : goal.returns-in_ok-insert-in-None-clause-kept
returns-in_ok-insert-in-None-clause-kept c =
    let name = c.args.name.now in
    let ns = c.args.numbers.now in
    let ms = c.insert.new.self in
    let fresh : number_in ns name ≡ None = sym c.get.ensures.value ∙ ap option_copied c.in-None.is in
    let one : btree_map_len ms ≡ btree_map_len ns + 1 = c.in_ok-insert-in-None.ensures.len ∙ ap (λ o. btree_map_len ns + cond (is_some o) 0 1) (c.in_ok-insert-in-None.ensures.old ∙ fresh) in
    let is : (n : List ℕ) → number_in ms n ≡ cond (bytes_eq name n) (Some (btree_map_len ns)) (number_in ns n) = λ n.
    btree_map_updates_str name ns ms _ c.in_ok-insert-in-None.ensures.updates n
    ∙ ap (λ (k : ℕ). cond (bytes_eq name n) (Some k) (number_in ns n)) c.len-number.ensures.len in
    number-kept ns ms name c.requires fresh one is
