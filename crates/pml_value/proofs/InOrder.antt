-- Messages come out of a channel in the order in which they were put in.
use Rattle.std.proofs.Common.{◌≡◌, Bool, true, false, nat_lt, if◌then◌else◌, List, [], ◌∷◌, ◌++◌, length, take, ℤ, refl, sym, ap, ◌∙◌, append-nil, append_assoc}
use Rattle.pml_tree.specs.declared.tree.Removal.TheVariants.{Remove}
use Rattle.promela_process.specs.Store.{ChannelState, cut}
use Rattle.promela_run.specs.Statements.{without}
use Rattle.pml_value.specs.Laws.{Use, Sends, Receives, used, put, got, all_put, all_got, MessagesComeInOrder}

oldest_out : (ms : List (List ℤ)) (c : ChannelState) → take 1 ms ++ (without Remove 0 (record c { messages = ms })).messages ≡ ms ++ []
oldest_out [] c = refl
oldest_out (m ∷ ms) c = ap (λ l. m ∷ l) (sym (append-nil ms))

one : (c : ChannelState) (u : Use) → got c u ++ (used c u).messages ≡ c.messages ++ put c u
one c (Sends fields) = by (nat_lt (length c.messages) c.capacity)
  where
    by : (room : Bool) → (if room then record c { messages = c.messages ++ cut c.types fields ∷ [] } else c).messages ≡ c.messages ++ (if room then cut c.types fields ∷ [] else [])
    by true = refl
    by false = sym (append-nil c.messages)
one c Receives = oldest_out c.messages c

pub in_order : MessagesComeInOrder
in_order c [] = sym (append-nil c.messages)
in_order c (u ∷ us) =
    append_assoc (got c u) (all_got (used c u) us) _ ∙ (ap (λ l. got c u ++ l) (in_order (used c u) us)
    ∙ (sym (append_assoc (got c u) (used c u).messages _) ∙ (ap (λ l. l ++ all_put (used c u) us) (one c u) ∙ append_assoc c.messages (put c u) _)))
