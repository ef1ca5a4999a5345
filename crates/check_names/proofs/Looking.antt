-- What a list of marks declares, one mark more.
use Rattle.std.proofs.Common.{◌≡◌, ℕ, ◌+◌, ◌≤◌, ◌<◌, Bool, true, false, cond, List, [], ◌∷◌, ◌++◌, length, take, get_or, refl, ap, sym, ◌∙◌, arith}
use Rattle.std.specs.Option.{is_some}
use Rattle.std.proofs.lemmas.List.{take_more}
use Rattle.promela_model.specs.declared.mark.What.{What}
use Rattle.promela_model.specs.declared.mark.What.TheVariants as what
use Rattle.promela_model.specs.declared.mark.Mark.{Mark}
use Rattle.promela_model.specs.declared.thing.Thing.{Thing}
use Rattle.check_names.specs.Entry.{Entry, entry, found}
use Rattle.check_names.specs.Env.{env, env_from, after, add, thing_of}

env_from-append : (es : List Entry) (ms : List Mark) (m : Mark) → env_from es (ms ++ m ∷ []) ≡ after (env_from es ms) m.owner m.what
env_from-append es [] m = refl
env_from-append es (n ∷ ms) m = env_from-append (after es n.owner n.what) ms m

pub env-empty : env [] ≡ []
unfolding env
env-empty = refl

env-append : (ms : List Mark) (m : Mark) → env (ms ++ m ∷ []) ≡ after (env ms) m.owner m.what
unfolding env
env-append ms m = env_from-append [] ms m

-- one mark more
pub env-more : (ms : List Mark) (i : ℕ) (m : Mark) → i < length ms → m ≡ get_or ms i m → env (take (i + 1) ms) ≡ after (env (take i ms)) m.owner m.what
env-more ms i m h e = ap env (take_more ms i m h ∙ ap (λ (x : Mark). take i ms ++ x ∷ []) (sym e)) ∙ env-append (take i ms) m

added : (b : Bool) (es : List Entry) (e : Entry) → length (cond b es (es ++ e ∷ [])) ≤ length es + 1
added true es e = omega arith
added false es e = grind (arith, length_more es e)
  where
    length_more : (es : List Entry) (e : Entry) → length (es ++ e ∷ []) ≡ length es + 1
    length_more [] e = omega arith
    length_more (f ∷ es) e = omega (arith, length_more es e)

add-length : (es : List Entry) (o : ℕ) (n : List ℕ) (t : Thing) → length (add es o n t) ≤ length es + 1
unfolding add
add-length es o n t = added (is_some (found es o n)) es (entry o n t)

-- at most one name more
pub after-length : (es : List Entry) (o : ℕ) (w : What) → length (after es o w) ≤ length es + 1
unfolding after
after-length es o (what.Declares n d) = add-length es o n.text (thing_of es o d)
after-length es o _ = omega arith
