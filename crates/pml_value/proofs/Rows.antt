-- Rows: what sends and receives do to a channel of a byte and a short, put together by hand.
use Rattle.std.proofs.Common.{◌≡◌, ℕ, List, [], ◌∷◌, ℤ, pos, negsuc, Some, None, Ok, Err, refl, sym, ap, ◌∙◌}
use Rattle.diagnostics.specs.declared.fault.Fault.TheVariants.{AssertionViolated, NoSuchChannel, WrongNumberOfFields}
use Rattle.pml_tree.specs.declared.tree.Scalar.TheVariants.{Bit, Byte, Short}
use Rattle.pml_tree.specs.declared.tree.SendOrder.TheVariants.{Fifo, Sorted}
use Rattle.pml_tree.specs.declared.tree.Search.TheVariants.{First, Matching}
use Rattle.pml_tree.specs.declared.tree.Removal.TheVariants.{Remove, Keep}
use Rattle.pml_program.specs.declared.form.Form.TheVariants.{Plain}
use Rattle.pml_program.specs.declared.expr.Expr.{Expr, Expr-F, fold-roll-Expr}
use Rattle.pml_program.specs.declared.expr.Expr.TheVariants as e
use Rattle.promela_process.specs.declared.sought.Sought.TheVariants.{Exactly, Into, Anything}
use Rattle.promela_process.specs.Numbers.{bits_of, is_signed}
use Rattle.promela_process.specs.Expressions.{Reading, Valued, Wanted, Placed, Turned, val, value_step, want_step, target_step, turn_step}
use Rattle.promela_process.specs.declared.place.Place.{Place}
use Rattle.promela_process.specs.Store.{ChannelState}
use Rattle.promela_run.specs.declared.live_channel.LiveChannel.{LiveChannel}
use Rattle.promela_run.specs.Statements.{place_with_fields, values, with_message, found, stores, taken_from, asserted}

abbrev message : ℤ → ℤ → List ℤ
message x y = x ∷ y ∷ []

abbrev holding : ℕ → List (List ℤ) → ChannelState
holding capacity ms = record { capacity = capacity; types = Plain Byte ∷ Plain Short ∷ []; messages = ms }

abbrev live : ChannelState → LiveChannel
live c = record { frame = 0; channel = c }

abbrev cell : ℕ → Place
cell n = record { frame = 0; variable = n; cell = 0 }

-- a send: fields are cut to the channel's types
sent_last : with_message Fifo (message (pos 257) (pos 40000)) (holding 2 (message (pos 5) (pos 0) ∷ [])) ≡ holding 2 (message (pos 5) (pos 0) ∷ message (pos 1) (negsuc 25535) ∷ [])
unfolding bits_of is_signed
sent_last = refl

-- right before the first message that is greater
sent_in_order : with_message Sorted (message (pos 2) (pos 9)) (holding 4 (message (pos 1) (pos 5) ∷ message (pos 2) (pos 9) ∷ message (pos 2) (pos 10) ∷ [])) ≡
    holding 4 (message (pos 1) (pos 5) ∷ message (pos 2) (pos 9) ∷ message (pos 2) (pos 9) ∷ message (pos 2) (pos 10) ∷ [])
unfolding bits_of is_signed
sent_in_order = refl

-- a full channel and a rendezvous take none
sent_to_full : with_message Fifo (message (pos 1) (pos 1)) (holding 1 (message (pos 5) (pos 0) ∷ [])) ≡ holding 1 (message (pos 5) (pos 0) ∷ [])
sent_to_full = refl

sent_to_rendezvous : with_message Sorted (message (pos 1) (pos 1)) (holding 0 []) ≡ holding 0 []
sent_to_rendezvous = refl

-- the channel is asked before the number of fields
no_channel_first : place_with_fields 3 (pos 0) None ≡ Err NoSuchChannel
no_channel_first = refl

too_many_fields : place_with_fields 3 (pos 1) (Some (holding 1 [])) ≡ Err WrongNumberOfFields
too_many_fields = refl

as_many_fields : place_with_fields 2 (pos 4) (Some (holding 1 [])) ≡ Ok 3
as_many_fields = refl

-- `?` looks at the oldest message alone, `??` at the first that matches
abbrev two_of_three : List (List ℤ)
two_of_three = message (pos 1) (pos 5) ∷ message (pos 3) (pos 6) ∷ message (pos 3) (pos 7) ∷ []

oldest_does_not_match : found First (Exactly (pos 3) ∷ Anything ∷ []) two_of_three ≡ None
oldest_does_not_match = refl

oldest_matches : found First (Exactly (pos 1) ∷ Anything ∷ []) two_of_three ≡ Some 0
oldest_matches = refl

first_that_matches : found Matching (Exactly (pos 3) ∷ Anything ∷ []) two_of_three ≡ Some 1
first_that_matches = refl

none_is_found : found First (Anything ∷ Anything ∷ []) [] ≡ None
none_is_found = refl

-- each number is cut to the type of its variable
stored_fields : stores (Into (cell 1) (Plain Bit) ∷ Exactly (pos 3) ∷ Into (cell 2) (Plain Short) ∷ []) (pos 7 ∷ pos 3 ∷ pos 40000 ∷ []) ≡
    record { place = cell 1; number = pos 1 } ∷ record { place = cell 2; number = negsuc 25535 } ∷ []
unfolding bits_of is_signed
stored_fields = refl

-- `??` takes its message out of the second channel, and `<..>` leaves it
abbrev channels : List (List ℤ) → List LiveChannel
channels ms = live (holding 1 []) ∷ live (holding 3 ms) ∷ []

taken_out : (taken_from (channels two_of_three) 1 Remove (Exactly (pos 3) ∷ Into (cell 1) (Plain Byte) ∷ []) (Some 1)).live ≡ channels (message (pos 1) (pos 5) ∷ message (pos 3) (pos 7) ∷ [])
taken_out = refl

what_is_stored : (taken_from (channels two_of_three) 1 Remove (Exactly (pos 3) ∷ Into (cell 1) (Plain Byte) ∷ []) (Some 1)).numbers ≡ record { place = cell 1; number = pos 6 } ∷ []
unfolding bits_of is_signed
what_is_stored = refl

left_there : (taken_from (channels two_of_three) 1 Keep (Exactly (pos 3) ∷ Anything ∷ []) (Some 1)).live ≡ channels two_of_three
left_there = refl

-- values, and an assert of nought
number-is : (n : ℤ) (r : Reading) → val (e.Number n) r ≡ Ok n
number-is n r =
    ap (λ (x : Expr). val x r) (sym (e.rolls-Number n))
    ∙ ap (λ (f : Valued). f r) (fold-roll-Expr Valued Wanted Placed Turned value_step want_step target_step turn_step (Expr-F.Number n))

two_values : (r : Reading) → values (e.Number (pos 5) ∷ e.Number (negsuc 0) ∷ []) r ≡ Ok (pos 5 ∷ negsuc 0 ∷ [])
two_values r = rw (number-is (pos 5) r, number-is (negsuc 0) r) refl

assert_of_nought : (r : Reading) → asserted (e.Number (pos 0)) r ≡ Err AssertionViolated
assert_of_nought r = rw (number-is (pos 0) r) refl
