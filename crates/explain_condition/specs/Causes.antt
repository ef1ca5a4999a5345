-- The kinds of causes that are told of a refusal. Each takes in that nothing is known.
use Rattle.std.specs.Prelude.{Bool, true, false}
use Rattle.explain_cause.specs.declared.cause.Reason.{Reason}
use Rattle.explain_cause.specs.declared.cause.Reason.TheVariants as cause
use Rattle.explain_cause.specs.declared.cause.NameSort.{NameSort}
use Rattle.explain_cause.specs.declared.cause.NameSort.TheVariants as sort
use Rattle.explain_condition.specs.declared.sign.Saying.{Saying}
use Rattle.explain_condition.specs.declared.sign.Saying.TheVariants as saying

abbrev pub is_twice : Reason → Bool
is_twice (cause.Twice c) = true
is_twice cause.Untold = true
is_twice r = false

abbrev pub is_unknown : Reason → Bool
is_unknown (cause.Unknown c) = true
is_unknown cause.Untold = true
is_unknown r = false

abbrev pub is_wrong : Reason → Bool
is_wrong (cause.Wrong c first) = true
is_wrong cause.Untold = true
is_wrong r = false

abbrev pub is_count : Reason → Bool
is_count (cause.Count c) = true
is_count cause.Untold = true
is_count r = false

abbrev pub is_label : Reason → Bool
is_label (cause.Label c) = true
is_label cause.Untold = true
is_label r = false

abbrev pub is_control : Reason → Bool
is_control (cause.Control c) = true
is_control cause.Untold = true
is_control r = false

abbrev pub is_range : Reason → Bool
is_range (cause.Range c) = true
is_range cause.Untold = true
is_range r = false

abbrev pub is_start : Reason → Bool
is_start (cause.Start c) = true
is_start cause.Untold = true
is_start r = false

-- what a mark says gives a name of this sort; a constant may stand where a variable may
abbrev pub is_of_sort : Saying → NameSort → Bool
is_of_sort saying.Variable sort.Variable = true
is_of_sort saying.Field sort.Field = true
is_of_sort saying.Constant sort.Variable = true
is_of_sort saying.Constant sort.Constant = true
is_of_sort (saying.Typedef fields) sort.Typedef = true
is_of_sort (saying.Proctype count) sort.Proctype = true
is_of_sort saying.Label sort.Label = true
is_of_sort s n = false

-- the sort of a name that is something else than what is wanted
abbrev pub sort_of : Saying → NameSort
sort_of saying.Constant = sort.Constant
sort_of (saying.Typedef fields) = sort.Typedef
sort_of (saying.Proctype count) = sort.Proctype
sort_of s = sort.Variable
