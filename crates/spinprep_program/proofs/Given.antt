-- What a reader gives up to a limit is all of it where that is less.
use Rattle.std.proofs.Common.{◌≡◌, ℕ, ◌<◌, List, [], ◌∷◌, ◌++◌, Option, None, Some, length, take, drop, refl, sym, ap, ◌∙◌, subst, append_assoc, append-nil, take-append-drop, length-take, length-drop, ◌-◌, arith}
use Rattle.std.specs.Prelude.{IfSome}
use Rattle.std.specs.Io.KnownBytes.{Keeps, Appends}
use Rattle.std.specs.Option.{option_map}
use Rattle.std.proofs.lemmas.List.{take_all}
use Rattle.std.proofs.Math.Seq.{take-length}
use Rattle.spinprep_program.specs.Over.{IsBegun}

pub taken : (o : Option (List ℕ)) (n : ℕ) (old new : List ℕ) → old ≡ [] → IfSome (option_map (take n) o) (λ xs. new ≡ old ++ xs) → IfSome o (λ xs. new ≡ take n xs)
taken None n old new e h = tt
taken (Some xs) n old new e h = h ∙ ap (λ (y : List ℕ). y ++ take n xs) e

pub whole : (o : Option (List ℕ)) (n : ℕ) (text : List ℕ) → length text < n → IfSome o (λ xs. text ≡ take n xs) → IfSome o (λ xs. text ≡ xs)
whole None n text short h = tt
whole (Some xs) n text short h = h ∙ take_all n xs (let len : length (take n xs) ≡ length text = ap length (sym h) in omega (arith, length-take n xs))

-- so much of some bytes was taken, and this is left
pub record Put (before after : Option (List ℕ)) (bytes rest : List ℕ) : Type 0 where
  pub front : List ℕ
  pub joins : bytes ≡ front ++ rest
  pub taken : Appends before after front

nothing : (o : Option (List ℕ)) → Appends o o []
nothing None = tt
nothing (Some xs) = sym (append-nil xs)

pub put_none : (o : Option (List ℕ)) (bytes : List ℕ) → Put o o bytes bytes
put_none o bytes = record { front = []; joins = refl; taken = nothing o }

keeps : (before mid after : Option (List ℕ)) (xs : List ℕ) → Appends before mid xs → Keeps mid after → Appends before after xs
keeps None mid after xs a k = tt
keeps (Some b) None after xs a k = absurd a
keeps (Some b) (Some m) None xs a k = absurd k
keeps (Some b) (Some m) (Some e) xs a k = k ∙ a

appends : (before mid after : Option (List ℕ)) (xs ys : List ℕ) → Appends before mid xs → Appends mid after ys → Appends before after (xs ++ ys)
appends None mid after xs ys a k = tt
appends (Some b) None after xs ys a k = absurd a
appends (Some b) (Some m) None xs ys a k = absurd k
appends (Some b) (Some m) (Some e) xs ys a k = k ∙ ap (λ (z : List ℕ). z ++ ys) a ∙ append_assoc b xs ys

pub put_kept : {before mid : Option (List ℕ)} {bytes rest : List ℕ} (after : Option (List ℕ)) → Put before mid bytes rest → Keeps mid after → Put before after bytes rest
put_kept {before} {mid} {bytes} {rest} after p k = record { front = p.front; joins = p.joins; taken = keeps before mid after p.front p.taken k }

pub put_more : {before mid : Option (List ℕ)} {bytes rest : List ℕ} (after : Option (List ℕ)) (n : ℕ) → Put before mid bytes rest → Appends mid after (take n rest) → Put before after bytes (drop n rest)
put_more {before} {mid} {bytes} {rest} after n p a = record {
  front = p.front ++ take n rest;
  joins = p.joins ∙ ap (λ (x : List ℕ). p.front ++ x) (sym (take-append-drop n rest)) ∙ sym (append_assoc p.front (take n rest) (drop n rest));
  taken = appends before mid after p.front (take n rest) p.taken a;
}

none_left : (rest : List ℕ) → length rest ≡ 0 → rest ≡ []
none_left [] h = refl
none_left (b ∷ q) h = absurd (omega arith)

pub put_all : {before after : Option (List ℕ)} {bytes rest : List ℕ} → Put before after bytes rest → length rest ≡ 0 → Appends before after bytes
put_all {before} {after} {bytes} {rest} p h = subst (Appends before after) (sym (append-nil p.front) ∙ ap (λ (x : List ℕ). p.front ++ x) (sym (none_left rest h)) ∙ sym p.joins) p.taken

pub put_begun : {before after : Option (List ℕ)} {bytes rest : List ℕ} → Put before after bytes rest → IsBegun before after bytes
put_begun {before} {after} {bytes} {rest} p = record { front = p.front; back = rest; joins = p.joins; taken = p.taken }

pub none_begun : (o : Option (List ℕ)) (bytes : List ℕ) → IsBegun o o bytes
none_begun o bytes = put_begun (put_none o bytes)

pub grown_none : (before after : Option (List ℕ)) → Keeps before after → Appends before after []
grown_none None after k = tt
grown_none (Some b) None k = k
grown_none (Some b) (Some e) k = k ∙ sym (append-nil b)

pub whole_rest : (n : ℕ) (xs : List ℕ) → take (length xs - n) (drop n xs) ≡ drop n xs
whole_rest n xs = rw (← length-drop n xs) (take-length (drop n xs))
