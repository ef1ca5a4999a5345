-- What follows of a finding that keeps its place.
use Rattle.std.proofs.Common.{◌≡◌, ℕ, Bool, true, ◌||◌, List, drop, Option, Some, None, Result, Ok, Err, IfOk, IfSome, MatchOption, MatchResult, ap, sym, subst}
use Rattle.diagnostics.specs.declared.refusal.Refusal.{Refusal}
use Rattle.pml_token.specs.Word.{Word}
use Rattle.pml_tree.specs.declared.tree.Tree.{Tree}
use Rattle.explain_tokens.specs.Placed.{ArePlaced, StopsAt}
use Rattle.promela_text.specs.Inlines.{IsExpanded, GoesTooDeep}
use Rattle.pml_inline.specs.Least.{IsLeast}
use Rattle.promela_text.specs.declared.inline_fault.InlineError.TheVariants as fault
use Rattle.promela_text.specs.declared.misuse.Misuse.{Misuse}
use Rattle.promela_grammar.specs.Models.{Spells}
use Rattle.promela_model.specs.declared.mark.Mark.{Mark}
use Rattle.promela_model.specs.Marks.{of_tree}
use Rattle.promela_model.specs.declared.condition.Condition.{Condition}
use Rattle.check_conditions.specs.First.{IsFirstBroken}
use Rattle.explain_cause.specs.declared.cause.Segment.{Segment}
use Rattle.explain_cause.specs.declared.cause.Finding.{Finding}
use Rattle.explain_find.specs.declared.find.Broken.{Broken}
use Rattle.explain_find.specs.Tokens.{lies, at_first_left_out}
use Rattle.explain_find.specs.Marks.{condition_of, all_breaks, first_is_told, is_at_break, IsOfMark, NoneBreaks}
use Rattle.explain_find.specs.Inlines.{IsOfMisuse}
use Rattle.explain_find.specs.Found.{IsBroken}
use Rattle.explain_find.specs.Told.{IsOfWhole, IsOfTree, of_mark, of_whole, NoTree, AreMarks, IsOfExpanded, unread, read, IsOfTokens, left_out, misused, too_deep, expanded, IsTold, uncut, at_tokens, is_stop}

-- what holds of a place that is told holds of none
pub of_none : (o : Option Segment) (P : Segment → Type 0) → o ≡ None → IfSome o P
of_none o P e = subst (λ (x : Option Segment). IfSome x P) (sym e) tt

pub told_at : (text : List ℕ) (ts : List Word) (x : Refusal) (o q : Option Segment) → ArePlaced text ts → IfSome q (λ p. o ≡ Some p)
    → IfSome q (λ p. lies x text ts p ≡ true) → IfSome o (IsOfTokens x ts) → IfSome q (IsTold text x)
told_at text ts x o None are same here of = tt
told_at text ts x o (Some p) are same here of = at_tokens are here (subst (λ (x' : Option Segment). IfSome x' (IsOfTokens x ts)) same of)

pub told_uncut : (text : List ℕ) (at : ℕ) (x : Refusal) (q : Option Segment) → StopsAt text at → IfSome q (λ p. is_stop text at p ≡ true) → IfSome q (IsTold text x)
told_uncut text at x None stops here = tt
told_uncut text at x (Some p) stops here = uncut stops here

pub told_left_out : (ts : List Word) (x : Refusal) (q : Option Segment) → IfSome q (λ p. at_first_left_out ts p ≡ true) → IfSome q (IsOfTokens x ts)
told_left_out ts x None here = tt
told_left_out ts x (Some p) here = left_out here

pub told_misused : (ts : List Word) (m : Misuse) (x : Refusal) (q : Option Segment) → IsLeast ts (fault.Inline m) → IfSome q (IsOfMisuse ts m) → IfSome q (IsOfTokens x ts)
told_misused ts m x None least here = tt
told_misused ts m x (Some p) least here = misused m least here

pub told_deep : (ts : List Word) (x : Refusal) (q : Option Segment) → GoesTooDeep ts → IfSome q (IsOfTokens x ts)
told_deep ts x None deep = tt
told_deep ts x (Some p) deep = too_deep deep

pub told_expanded : (ts us : List Word) (x : Refusal) (q : Option Segment) → IsExpanded ts us → IfSome q (IsOfExpanded x us) → IfSome q (IsOfTokens x ts)
told_expanded ts us x None is here = tt
told_expanded ts us x (Some p) is here = expanded is here

pub told_unread : (us : List Word) (x : Refusal) (q : Option Segment) → NoTree us → IfSome q (IsOfExpanded x us)
told_unread us x None none = tt
told_unread us x (Some p) none = unread none

pub told_read : (us : List Word) (t : Tree) (x : Refusal) (q : Option Segment) → Spells t us → IfSome q (IsOfTree x us t) → IfSome q (IsOfExpanded x us)
told_read us t x None spells here = tt
told_read us t x (Some p) spells here = read spells here

pub told_mark : (us : List Word) (t : Tree) (x : Refusal) (c : Condition) (k : ℕ) (q : Option Segment) → condition_of x ≡ Some c → IsFirstBroken c (of_tree t) k
    → IfSome q (IsOfMark us (all_breaks t) (of_tree t) k) → IfSome q (IsOfTree x us t)
told_mark us t x c k None of first here = tt
told_mark us t x c k (Some p) of first here = of_mark of first here

pub told_whole : (us : List Word) (t : Tree) (x : Refusal) (q : Option Segment) → NoneBreaks x (of_tree t) → IfSome q (IsOfWhole x t) → IfSome q (IsOfTree x us t)
told_whole us t x None none here = tt
told_whole us t x (Some p) none here = of_whole none here

pub told_judged : (us : List Word) (bs : List (Option ℕ)) (ms : List Mark) (k : ℕ) (q : Option Segment) → IfSome q (λ p. first_is_told us (drop k ms) p ≡ true) → IfSome q (IsOfMark us bs ms k)
told_judged us bs ms k None here = tt
told_judged us bs ms k (Some p) here = ap (λ (b : Bool). b || is_at_break bs ms k p) here

-- of marks of which one breaks the condition first
pub told_broken : (us : List Word) (t : Tree) (x : Refusal) (ms : List Mark) (b : Broken) {E : Type 0} (r : Result Finding E) → ms ≡ of_tree t → IsBroken x ms b
    → IfOk r (λ f. IfSome f.place (IsOfMark us (all_breaks t) ms b.at)) → IfOk r (λ f. IfSome f.place (IsOfTree x us t))
told_broken us t x ms b (Ok f) same broken here =
    let first : IsFirstBroken b.condition (of_tree t) b.at = subst (λ (m : List Mark). IsFirstBroken b.condition m b.at) same broken.first in
    let there : IfSome f.place (IsOfMark us (all_breaks t) (of_tree t) b.at) = subst (λ (m : List Mark). IfSome f.place (IsOfMark us (all_breaks t) m b.at)) same here in
    told_mark us t x b.condition b.at f.place broken.of first there
told_broken us t x ms b (Err e) same broken here = tt

pub some_of : {X : Type 0} (o : Option X) (x : X) (P : Type 0) (Q : X → Type 0) → o ≡ Some x → MatchOption o P Q → Q x
some_of o x P Q e h = subst (λ o'. MatchOption o' P Q) e h

pub ok_of : {X E : Type 0} (r : Result X E) (x : X) (P : X → Type 0) (Q : E → Type 0) → r ≡ Ok x → MatchResult r P Q → P x
ok_of r x P Q e h = subst (λ r'. MatchResult r' P Q) e h

-- of the marks of a tree
pub told_list : (us : List Word) (x : Refusal) (ms : List Mark) {E : Type 0} (r : Result Finding E) → AreMarks us ms
    → ((t : Tree) → Spells t us → ms ≡ of_tree t → IfOk r (λ f. IfSome f.place (IsOfTree x us t))) → IfOk r (λ f. IfSome f.place (IsOfExpanded x us))
told_list us x ms (Ok f) are here = told_read us are.tree x f.place are.spells (here are.tree are.spells are.are)
told_list us x ms (Err e) are here = tt

-- of what comes of tokens
pub told_words : (ts us : List Word) (x : Refusal) {E : Type 0} (r : Result Finding E) → IsExpanded ts us
    → IfOk r (λ f. IfSome f.place (IsOfExpanded x us)) → IfOk r (λ f. IfSome f.place (IsOfTokens x ts))
told_words ts us x (Ok f) is here = told_expanded ts us x f.place is here
told_words ts us x (Err e) is here = tt
