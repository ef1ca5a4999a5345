-- What breaks a condition on control, by the posts of a body.
use Rattle.std.specs.Prelude.{◌≡◌, ◌≢◌, ◌⊎◌, ℕ, zero, suc, ◌<◌, Bool, true, false, ◌||◌, nat_lt, List, [], ◌∷◌, ◌++◌, length, Option, Some, None, unwrap_or, slice_index_or}
use Rattle.pml_program.specs.declared.program.Seq.{Seq}
use Rattle.pml_program.specs.declared.program.Proctype.{Proctype}
use Rattle.pml_control.specs.declared.ends.Ending.{Ending}
use Rattle.pml_control.specs.declared.ends.Ending.TheVariants as ending
use Rattle.pml_control.specs.Ends.{next_of, Leads, ending_of, AreEnds}
use Rattle.pml_control.specs.Graph.{posts_of, nexts, spot_of, bad_step}
use Rattle.explain_control.specs.declared.site.PostMatter.{PostMatter}
use Rattle.explain_control.specs.declared.site.PostMatter.TheVariants as matter
use Rattle.explain_control.specs.declared.site.PostSite.{PostSite}
use Rattle.explain_control.specs.declared.site.Label.{Label}
use Rattle.explain_control.specs.declared.body.BadFirstPoint.{BadFirstPoint}
use Rattle.explain_control.specs.declared.body.Circle.{Circle}
use Rattle.explain_control.specs.declared.first_point.BadStep.{BadStep}
use Rattle.explain_control.specs.Sites.{bare, sites_of}

-- what stands at a post
abbrev pub site_at : List PostSite → ℕ → PostSite
site_at ss k = slice_index_or ss k bare

abbrev pub is_else : PostMatter → Bool
is_else matter.Else = true
is_else m = false

-- a goto or a break
abbrev pub is_leap : PostMatter → Bool
is_leap (matter.Goto l) = true
is_leap matter.Break = true
is_leap m = false

-- the post where settling ends
abbrev pub stays_at : Ending → Option ℕ
stays_at (ending.Stays end) = Some end
stays_at e = None

abbrev pub end_of : List Ending → ℕ → Option ℕ
end_of es k = stays_at (ending_of es k)

-- whether settling from the first statement of a d_step with these posts ends outside of it, or at an else
abbrev pub bad_end : List PostSite → ℕ → ℕ → ℕ → Bool
bad_end ss least first end = nat_lt end least || (nat_lt first end || is_else (site_at ss end).matter)

abbrev pub bad_point : List PostSite → ℕ → ℕ → Option ℕ → Bool
bad_point ss least first None = false
bad_point ss least first (Some end) = bad_end ss least first end

abbrev pub bad_matter : List PostSite → List Ending → PostMatter → Bool
bad_matter ss es (matter.DStep least first) = bad_point ss least first (end_of es first)
bad_matter ss es m = false

-- whether a post is a d_step with a bad first point
abbrev pub is_bad : List PostSite → List Ending → ℕ → Bool
is_bad ss es k = bad_matter ss es (site_at ss k).matter

-- the first in the text: those with greater posts stand before it
pub record IsFirstBad (ss : List PostSite) (es : List Ending) (k : ℕ) : Type 0 where
  pub within : k < length ss
  pub bad : is_bad ss es k ≡ true
  pub first : (j : ℕ) → k < j → j < length ss → is_bad ss es j ≡ false

-- a d_step, with the posts of its first statement and of where settling ends from there
pub record IsStep (ss : List PostSite) (es : List Ending) (step first point : ℕ) : Type 0 where
  pub least : ℕ
  pub is : (site_at ss step).matter ≡ matter.DStep least first
  pub stays : end_of es first ≡ Some point

-- the d_step at a post is this one, with a bad first point
abbrev pub IsBadStepAt : List PostSite → List Ending → ℕ → BadStep → Type 0
IsBadStepAt ss es step bad = (is_bad ss es step ≡ true) × (bad.step ≡ step) × IsStep ss es step bad.first bad.point

-- the first one in the text with a bad first point is this
abbrev pub IsFirstBadStep : List PostSite → List Ending → BadStep → Type 0
IsFirstBadStep ss es bad = IsFirstBad ss es bad.step × IsStep ss es bad.step bad.first bad.point

abbrev pub NoneIsBad : List PostSite → List Ending → Type 0
NoneIsBad ss es = (j : ℕ) → j < length ss → is_bad ss es j ≡ false

-- a post is led back to
pub record Returns (ns : List (Option ℕ)) (k : ℕ) : Type 0 where
  pub more : ℕ
  pub leads : Leads ns (suc more) k k

-- the position of a break
abbrev pub own_break : Option ℕ → PostMatter → List (Option ℕ)
own_break o matter.Break = o ∷ []
own_break o m = []

-- those of the breaks among posts, in the order of the text: the last post stands first
abbrev pub breaks_in : List PostSite → List (Option ℕ)
breaks_in [] = []
breaks_in (s ∷ ss) = breaks_in ss ++ own_break s.offset s.matter

-- whether post k of a body is a d_step with a bad first point
abbrev pub is_bad_step : Seq → List Ending → ℕ → Bool
is_bad_step b es k = bad_step (posts_of b) es (spot_of (posts_of b) k).d_step

-- none is, by where the chains of the body end
pub record NoStepIsBad (b : Seq) : Type 0 where
  pub ends : List Ending
  pub are : AreEnds (nexts (posts_of b)) ends
  pub none : (j : ℕ) → j < length (posts_of b) → is_bad_step b ends j ≡ false

-- the d_step is the first one in the text with a bad first point, where posts with greater numbers stand before it; and what is said of the
-- point, where settling ends from the first statement of the d_step
pub record IsBlamedStep (b : Seq) (x : BadFirstPoint) : Type 0 where
  pub ends : List Ending
  pub are : AreEnds (nexts (posts_of b)) ends
  pub post : ℕ
  pub within : post < length (posts_of b)
  pub bad : is_bad_step b ends post ≡ true
  pub first : (j : ℕ) → post < j → j < length (posts_of b) → is_bad_step b ends j ≡ false
  pub step : x.step ≡ (site_at (sites_of b) post).offset
  pub least : ℕ
  pub start : ℕ
  pub point : ℕ
  pub is_step : (spot_of (posts_of b) post).d_step ≡ Some (least, start)
  pub stays : ending_of ends start ≡ ending.Stays point
  pub says : x.is_else ≡ (spot_of (posts_of b) point).is_else
  pub marked : x.is_else ≡ true → x.point ≡ (site_at (sites_of b) point).offset

-- no chain comes to a circle
abbrev pub NoneCircles : List Ending → Type 0
NoneCircles es = (k : ℕ) → ending_of es k ≢ ending.Circles

-- the label that a goto names
abbrev pub own_label : PostMatter → List Label
own_label (matter.Goto l) = l ∷ []
own_label m = []

-- the labels that the gotos among the first so many posts of a chain name
abbrev pub labels_along : List PostSite → List (Option ℕ) → ℕ → ℕ → List Label
labels_along ss ns zero k = []
labels_along ss ns (suc n) k = own_label (site_at ss k).matter ++ labels_along ss ns n (unwrap_or (next_of ns k) k)

-- the labels on the way round from a post back to it, or, were there none, past as many posts as there are
pub record IsRound (ss : List PostSite) (ns : List (Option ℕ)) (k : ℕ) (ls : List Label) : Type 0 where
  pub more : ℕ
  pub round : Leads ns (suc more) k k ⊎ (suc more ≡ length ns)
  pub first : (n : ℕ) → n < more → Leads ns (suc n) k k → ⊥
  pub labels : ls ≡ labels_along ss ns (suc more) k
  pub returns : Returns ns k

-- a body without a circle, by where its chains end
pub record NoCircle (b : Seq) : Type 0 where
  pub ends : List Ending
  pub are : AreEnds (nexts (posts_of b)) ends
  pub none : NoneCircles ends

-- the goto stands in a circle of the body, and the labels are those on the way round it
pub record IsBlamedCircle (b : Seq) (x : Circle) : Type 0 where
  pub post : ℕ
  pub round : IsRound (sites_of b) (nexts (posts_of b)) post x.labels.items
  pub goto : x.goto ≡ (site_at (sites_of b) post).offset

-- the same in the body of one of these
pub record IsBlamedStepIn (ps : List Proctype) (x : BadFirstPoint) : Type 0 where
  pub at : ℕ
  pub within : at < length ps
  pub blamed : (p : Proctype) → IsBlamedStep (slice_index_or ps at p).body x

pub record IsBlamedCircleIn (ps : List Proctype) (x : Circle) : Type 0 where
  pub at : ℕ
  pub within : at < length ps
  pub blamed : (p : Proctype) → IsBlamedCircle (slice_index_or ps at p).body x
