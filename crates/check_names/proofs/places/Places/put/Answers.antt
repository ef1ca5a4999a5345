use Rattle.std.proofs.Common.{◌≡◌, ◌∙◌, ◌&&◌, ℕ, Some, ap, cond, nat_eq}
use Rattle.std.specs.Str.{bytes_eq}
use Rattle.std.specs.Prelude.{Result, Ok, Err, OnErr}
use Rattle.check_names.specs.Places.{place_in}
use Rattle.check_names.proofs.Numbering.{same_key, still, kept-still, put-one, kept-more}
use Rattle.check_names.proofs.places.Places.put.Goals as goal

pub returns-clause-kept : goal.returns-clause-kept
returns-clause-kept g c =
    let ns = c.args.self.now.numbers in
    let ms = c.number.new.numbers in
    let ps = c.args.self.now.places in
    let e = c.in_ok-number.ensures in
    let number = c.in_ok-number.number in
    let is : (p k : ℕ) → place_in c.insert.new.self p k ≡ cond (nat_eq c.args.owner p && nat_eq number k) (Some c.args.place) (place_in ps p k) = λ p k.
    c.in_ok-insert.ensures.updates.0 (p, k) ∙ ap (λ b. cond b (Some c.args.place) (place_in ps p k)) (same_key c.args.owner number p k) in
    kept-more ms ps c.insert.new.self c.args.owner c.args.name.now number c.args.place (kept-still ns ms ps c.requires e.numbered e.more e.others e.kept) e.number is

pub returns-clause-added : goal.returns-clause-added
returns-clause-added g c =
    let ns = c.args.self.now.numbers in
    let ms = c.number.new.numbers in
    let ps = c.args.self.now.places in
    let e = c.in_ok-number.ensures in
    let number = c.in_ok-number.number in
    let is : (p k : ℕ) → place_in c.insert.new.self p k ≡ cond (nat_eq c.args.owner p && nat_eq number k) (Some c.args.place) (place_in ps p k) = λ p k.
    c.in_ok-insert.ensures.updates.0 (p, k) ∙ ap (λ b. cond b (Some c.args.place) (place_in ps p k)) (same_key c.args.owner number p k) in
    λ p n.
    put-one ms ps c.insert.new.self c.args.owner c.args.name.now number c.args.place (kept-still ns ms ps c.requires e.numbered e.more e.others e.kept) e.number is p n
    ∙ ap (cond (nat_eq c.args.owner p && bytes_eq c.args.name.now n) (Some c.args.place)) (still ns ms ps c.requires e.numbered e.more e.others e.kept p n)

on_err : {T E P : Type 0} (r : Result T E) → P → OnErr r P
on_err (Ok x) p = tt
on_err (Err e) p = p

pub returns-in_err-number-clause-same : goal.returns-in_err-number-clause-same
returns-in_err-number-clause-same g c =
    let e = c.in_err-number.ensures in
    on_err c.from_residual.result (still c.args.self.now.numbers c.number.new.numbers c.args.self.now.places c.requires e.numbered e.more e.others e.kept)
