-- What is shown of a run changes nothing else of it.
use Rattle.std.proofs.Common.{◌≡◌, ℕ, zero, suc, ◌+◌, List, [], ◌∷◌, refl, sym, subst}
use Rattle.std.specs.Prelude.{slice_index_or, ◌-◌}
use Rattle.std.proofs.lemmas.List.Elements.{filter-append}
use Rattle.promela_session.specs.declared.ends.Options.{Options}
use Rattle.promela_session.specs.declared.ends.End.{End}
use Rattle.promela_session.specs.declared.ends.Cause.TheVariants as cause
use Rattle.promela_session.specs.declared.choice.Answer.{Answer}
use Rattle.promela_session.specs.declared.choice.Answer.TheVariants as answer
use Rattle.promela_session.specs.Events.{Event, Put, Told, Stepped, Part, preceded, followed}
use Rattle.promela_machine.specs.Machine.{Rules, Outcome, Goes, Faults}
use Rattle.promela_session.specs.Session.{select_move, stopped, stepped, answered, at_moves, story, transcript, step_text}
use Rattle.session.specs.Laws.{is_no_piece, beside_output, IsSameCourse, ShowingChangesNothing}
use Rattle.promela_session.specs.declared.form.Stream.{Stream}
use Rattle.promela_session.specs.declared.form.Stream.TheVariants.{Unread}
use Rattle.promela_session.specs.declared.form.Version.{Version}
use Rattle.promela_session.specs.declared.form.Version.TheVariants.{First}

same : {T : Type 0} (part : Part T) → IsSameCourse part part
same part = record { ends = refl; does = refl; leaves = refl }

-- behind events that do the same beside the output
behind : {T : Type 0} (before after : List Event) {run other : Part T} → beside_output after ≡ beside_output before → IsSameCourse run other → IsSameCourse (preceded before run) (preceded after other)
behind before after {run} {other} is course = record {
  ends = course.ends;
  does = rw (filter-append is_no_piece after other.events, filter-append is_no_piece before run.events, is, course.does) refl;
  leaves = course.leaves;
}

followed_course : {T U : Type 0} (part : Part T) (next other : T → Stream → List ℕ → Part U) → ((v : T) (stream : Stream) (left : List ℕ) → IsSameCourse (next v stream left) (other v stream left))
    → IsSameCourse (followed part next) (followed part other)
followed_course part next other courses = behind part.events part.events refl (courses part.value part.stream part.left)

module _ {S M : Type 0} (notes : Version) (rules : Rules S M) (options others : Options) where
  stepped_course : (s : S) (m : M) (steps : ℕ) (later other : S → Part End) (stream : Stream) (left : List ℕ) → ((t : S) → IsSameCourse (later t) (other t)) → (o : Outcome S)
      → IsSameCourse (stepped rules options s m steps later stream left o) (stepped rules others s m steps other stream left o)
  unfolding stepped
  stepped_course s m steps later other stream left courses (Goes t printed) =
      behind (Stepped ∷ Put Told (step_text rules options s m (steps + 1) t printed) ∷ []) (Stepped ∷ Put Told (step_text rules others s m (steps + 1) t printed) ∷ []) refl (courses t)
  stepped_course s m steps later other stream left courses (Faults f) = record { ends = refl; does = refl; leaves = refl }

  answered_course : (s : S) (moves : List M) (first : M) (steps : ℕ) (later other : S → Stream → List ℕ → Part End)
      → ((t : S) (stream : Stream) (left : List ℕ) → IsSameCourse (later t stream left) (other t stream left)) → (said : Answer) (stream : Stream) (left : List ℕ)
      → IsSameCourse (answered rules options s moves first steps later said stream left) (answered rules others s moves first steps other said stream left)
  unfolding answered
  answered_course s moves first steps later other courses (answer.Pick n) stream left =
      stepped_course s (slice_index_or moves (n - 1) first) steps _ _ stream left (λ t. courses t stream left) (rules.step s (slice_index_or moves (n - 1) first))
  answered_course s moves first steps later other courses answer.Quit stream left = same _
  answered_course s moves first steps later other courses answer.Ended stream left = same _
  answered_course s moves first steps later other courses answer.TooLong stream left = same _
  answered_course s moves first steps later other courses answer.Hundred stream left = same _
  answered_course s moves first steps later other courses answer.Misfit stream left = same _

  at_course : (s : S) (steps : ℕ) (stream : Stream) (rest : List ℕ) (go other : List M → M → Part End) → ((ms : List M) (m : M) → IsSameCourse (go ms m) (other ms m)) → (moves : List M)
      → IsSameCourse (at_moves rules s steps stream rest go moves) (at_moves rules s steps stream rest other moves)
  at_course s steps stream rest go other courses [] = same _
  at_course s steps stream rest go other courses (m ∷ ms) = courses (m ∷ ms) m

  story_course : (fuel : ℕ) (s : S) (steps : ℕ) (stream : Stream) (rest : List ℕ) → IsSameCourse (story notes rules options fuel s steps stream rest) (story notes rules others fuel s steps stream rest)
  unfolding story
  story_course zero s steps stream rest =
      at_course s steps stream rest (λ ms m. stopped cause.StepLimit steps stream rest) (λ ms m. stopped cause.StepLimit steps stream rest) (λ ms m. same _) (rules.moves s)
  story_course (suc fuel) s steps stream rest = at_course s steps stream rest
      (λ ms m. followed (select_move notes rules s ms stream rest) (answered rules options s ms m steps (λ t o r. story notes rules options fuel t (steps + 1) o r)))
      (λ ms m. followed (select_move notes rules s ms stream rest) (answered rules others s ms m steps (λ t o r. story notes rules others fuel t (steps + 1) o r)))
      (λ ms m. followed_course (select_move notes rules s ms stream rest) _ _ (answered_course s ms m steps _ _ (λ t o r. story_course fuel t (steps + 1) o r))) (rules.moves s)

pub showing_changes_nothing : {S M : Type 0} (rules : Rules S M) → ShowingChangesNothing rules
showing_changes_nothing rules s choices options others is =
    subst (λ fuel. IsSameCourse (transcript rules options s choices) (story First rules others fuel s 0 Unread choices)) (sym is) (story_course First rules options others options.limit s 0 Unread choices)
