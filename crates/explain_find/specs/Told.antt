-- Where a refusal is told.
use Rattle.std.specs.Prelude.{◌≡◌, ℕ, nat_eq, nat_lt, Bool, true, ◌&&◌, ◌||◌, List, slice_index_or, Some}
use Rattle.diagnostics.specs.declared.refusal.Refusal.{Refusal}
use Rattle.diagnostics.specs.declared.refusal.Refusal.TheVariants as r
use Rattle.pml_token.specs.Word.{Word}
use Rattle.pml_tree.specs.declared.tree.Tree.{Tree}
use Rattle.explain_tokens.specs.Placed.{ArePlaced, StopsAt}
use Rattle.promela_text.specs.Inlines.{IsExpanded, GoesTooDeep}
use Rattle.pml_inline.specs.Least.{IsLeast}
use Rattle.promela_text.specs.declared.inline_fault.InlineError.TheVariants as fault
use Rattle.promela_text.specs.declared.misuse.Misuse.{Misuse}
use Rattle.promela_grammar.specs.Models.{Spells}
use Rattle.promela_model.specs.declared.mark.Mark.{Mark}
use Rattle.promela_model.specs.Marks.{of_tree}
use Rattle.promela_model.specs.declared.condition.Condition.{Condition}
use Rattle.check_conditions.specs.First.{IsFirstBroken}
use Rattle.explain_cause.specs.declared.cause.Segment.{Segment}
use Rattle.explain_find.specs.Tokens.{lies, at_first_left_out}
use Rattle.explain_find.specs.Marks.{condition_of, all_breaks, IsOfMark, NoneBreaks}
use Rattle.explain_find.specs.Control.{IsOfStep, IsOfCircle}
use Rattle.explain_find.specs.Inlines.{IsOfMisuse}

-- of a tree no mark of which breaks the condition that the refusal is of
abbrev pub IsOfWhole : Refusal → Tree → Segment → Type 0
IsOfWhole r.DStep t p = IsOfStep t p
IsOfWhole r.CircleOfGotos t p = IsOfCircle t p
IsOfWhole x t p = Unit {0}

-- Of the tree that tokens spell: the place is that of the first mark that breaks the condition which the refusal is of, or else of what control comes to.
pub data IsOfTree (x : Refusal) (us : List Word) (t : Tree) (p : Segment) : Type 0 where
  of_mark : {c : Condition} {k : ℕ} → condition_of x ≡ Some c → IsFirstBroken c (of_tree t) k → IsOfMark us (all_breaks t) (of_tree t) k p
      → IsOfTree x us t p
  of_whole : NoneBreaks x (of_tree t) → IsOfWhole x t p → IsOfTree x us t p

-- no tree spells the tokens
abbrev pub NoTree : List Word → Type 0
NoTree us = (t : Tree) → Spells t us → ⊥

-- the marks of a tree that tokens spell
pub record AreMarks (us : List Word) (ms : List Mark) : Type 0 where
  pub tree : Tree
  pub spells : Spells tree us
  pub are : ms ≡ of_tree tree

-- Of what comes of the tokens of a text: no tree spells it, or one does.
pub data IsOfExpanded (x : Refusal) (us : List Word) (p : Segment) : Type 0 where
  unread : NoTree us → IsOfExpanded x us p
  read : {t : Tree} → Spells t us → IsOfTree x us t p → IsOfExpanded x us p

-- Of the tokens of a text: one is left out, a definition or a call of an inline is not right, what comes of them is too deep, or it is read.
pub data IsOfTokens (x : Refusal) (ts : List Word) (p : Segment) : Type 0 where
  left_out : at_first_left_out ts p ≡ true → IsOfTokens x ts p
  misused : (m : Misuse) → IsLeast ts (fault.Inline m) → IsOfMisuse ts m p → IsOfTokens x ts p
  too_deep : GoesTooDeep ts → IsOfTokens x ts p
  expanded : {us : List Word} → IsExpanded ts us → IsOfExpanded x us p → IsOfTokens x ts p

-- b'\''
abbrev pub apostrophe : ℕ
apostrophe = 39

-- the place where nothing can stand, or that of a `'` before it
abbrev pub is_stop : List ℕ → ℕ → Segment → Bool
is_stop text at p = nat_eq p.offset at || (nat_lt p.offset at && nat_eq (slice_index_or text p.offset 0) apostrophe)

-- The place is told of this refusal of the text: where its tokens end that cannot be cut further, or at one of its tokens, by how far they are read.
pub data IsTold (text : List ℕ) (x : Refusal) (p : Segment) : Type 0 where
  uncut : {at : ℕ} → StopsAt text at → is_stop text at p ≡ true → IsTold text x p
  at_tokens : {ts : List Word} → ArePlaced text ts → lies x text ts p ≡ true → IsOfTokens x ts p → IsTold text x p
