-- What is found in the control of bodies: circles of gotos, and bad first points of d_steps.
use Rattle.std.proofs.Common.{inl, inr, [], ◌∷◌, refl}
use Rattle.pml_token.specs.Word.{Word}
use Rattle.pml_token.specs.declared.token.Kind.TheVariants as kind
use Rattle.pml_program.specs.declared.program.Seq.{Seq}
use Rattle.pml_program.specs.declared.program.Basic.{Goto}
use Rattle.pml_program.specs.declared.program.Action.TheVariants as action
use Rattle.promela_process.specs.Control.{Comes, at, steps, Circle, BadFirstPoint}
use Rattle.worked_runs.proofs.Same.{body_computes}
use Rattle.worked_runs.proofs.Models.{on, stmt, seq, plain, labelled, block, d_step}

label : Word
label = on 1 kind.Name "L"

-- L: goto L
goto-itself : Seq
unfolding label
goto-itself = seq (labelled (label ∷ []) (stmt [] (Goto label) []) ∷ [])

goto-itself-is-a-circle : Circle goto-itself
unfolding body_computes label goto-itself
goto-itself-is-a-circle = record { position = ([], 0); round = record { next = at (steps goto-itself) ([], 0); moves = refl; comes = Comes.here } }

-- d_step { { else } }
else-in-braces : Seq
else-in-braces = seq (d_step [] (block [] (plain [] action.Else ∷ []) ∷ []) ∷ [])

else-in-braces-is-bad : BadFirstPoint else-in-braces
unfolding body_computes else-in-braces
else-in-braces-is-bad = record {
  position = ([], 0);
  body = seq (block [] (plain [] action.Else ∷ []) ∷ []);
  stands = refl;
  point = at (steps else-in-braces) ((0, 0) ∷ (0, 0) ∷ [], 0);
  comes = Comes.after refl Comes.here;
  settled = refl;
  bad = inl refl;
}

-- d_step { goto L }; L: else
goto-out : Seq
unfolding label
goto-out = seq (d_step [] (stmt [] (Goto label) [] ∷ []) ∷ labelled (label ∷ []) (plain [] action.Else) ∷ [])

goto-out-is-bad : BadFirstPoint goto-out
unfolding body_computes label goto-out
goto-out-is-bad = record {
  position = ([], 0);
  body = seq (stmt [] (Goto label) [] ∷ []);
  stands = refl;
  point = at (steps goto-out) ([], 1);
  comes = Comes.after refl Comes.here;
  settled = refl;
  bad = inr (λ lies. lies);
}
