-- What is told of a step before it is taken ends a value.
use Rattle.std.proofs.Common.{◌≡◌, ◌∙◌, ap, refl, ℕ, Bool, true, false, if◌then◌else◌, List, [], ◌++◌, length, Option, Some, None, codes}
use Rattle.std.specs.Prelude.{ltb, pos}
use Rattle.std.specs.List.{flat_map}
use Rattle.json.specs.Token.{Token}
use Rattle.json.specs.Print.{ends_value}
use Rattle.pml_program.specs.declared.program.Program.{Program}
use Rattle.promela_process.specs.Store.{ChannelState}
use Rattle.promela_run.specs.State.{channel_at, State}
use Rattle.promela_run.specs.declared.moves.Move.{Move}
use Rattle.promela_run.specs.declared.moves.Move.TheVariants.{Death, Alone, Pair}
use Rattle.promela_run.specs.World.{move_text}
use Rattle.view_waits.specs.declared.transfer.Transfer.{Transfer}
use Rattle.view_json.specs.declared.lines.Ahead.{Ahead}
use Rattle.view_json.specs.Objects.{text, fields}
use Rattle.view_json.specs.Lines.{texts, picked, mover, receiver, passed, transfer, choices, front}
use Rattle.view_json.proofs.Listed.{ends_from, object_ends, array_ends}
use Rattle.view_json.proofs.Stepped.{ends_append}

choices_end : (s : State) (ms : List Move) → ends_from true (choices s ms) ≡ true
choices_end s ms = by (ltb 1 (length ms)) refl
  where
    either : Bool → List Token
    either b = if b then texts s ms else []

    by : (b : Bool) → ltb 1 (length ms) ≡ b → ends_from true (choices s ms) ≡ true
    by true is = ap (λ (b : Bool). ends_from true (either b)) is ∙ array_ends true (codes "moves") (flat_map (λ m. text (move_text s m)) ms)
    by false is = ap (λ (b : Bool). ends_from true (either b)) is

mover_ends : (s : State) (m : Move) → ends_from true (mover s m) ≡ true
mover_ends s (Death p) = refl
mover_ends s (Alone k t) = refl
mover_ends s (Pair k j t) = refl

receiver_ends : (s : State) (m : Move) → ends_from true (receiver s m) ≡ true
receiver_ends s (Death p) = refl
receiver_ends s (Alone k t) = refl
receiver_ends s (Pair k j t) = object_ends false (picked s j)

passed_ends : (pr : Program) (e : Transfer) (c : Option ChannelState) → ends_from true (passed pr e c) ≡ true
passed_ends pr e None = refl
passed_ends pr e (Some c) = array_ends true (codes "message") (fields pr c.types e.message.items)

-- what is told of a step before it is taken ends a value
pub front_value : (s : State) (event : List ℕ) (a : Ahead) (m : Move) → ends_value (front s event a m) ≡ true
front_value s event a m =
    let e = a.transfer.now in
    let ms = a.moves.now in
    let said = passed s.program e (channel_at s.channels (pos e.channel)) in
    let one = mover s m ++ (transfer s e ++ receiver s m) in
    ends_append true (choices s ms) one ∙ ap (λ (c : Bool). ends_from c one) (choices_end s ms)
    ∙ ends_append true (mover s m) (transfer s e ++ receiver s m) ∙ ap (λ (c : Bool). ends_from c (transfer s e ++ receiver s m)) (mover_ends s m)
    ∙ ends_append true said (receiver s m) ∙ ap (λ (c : Bool). ends_from c (receiver s m)) (passed_ends s.program e (channel_at s.channels (pos e.channel)))
    ∙ receiver_ends s m
