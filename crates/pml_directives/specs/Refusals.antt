-- Why a text is refused, and where.
use Rattle.pml_macros.specs.declared.atom.FilePlace.{FilePlace}
use Rattle.pml_macros.specs.declared.trouble.Trouble.{Trouble}
use Rattle.pml_macros.specs.declared.trouble.Trouble.TheVariants as trouble
use Rattle.pml_directives.specs.declared.refusal.DirectiveRefusal.{DirectiveRefusal}
use Rattle.pml_directives.specs.declared.refusal.Why.{Why}
use Rattle.pml_directives.specs.declared.refusal.Why.TheVariants as why

abbrev pub refusal : Why → FilePlace → DirectiveRefusal
refusal w p = record { why = w; place = p }

-- a macro's trouble belongs at its call
abbrev pub refusal_of : Trouble → FilePlace → DirectiveRefusal
refusal_of trouble.Memory p = refusal why.Memory p
refusal_of (trouble.Open a) p = refusal (why.Call (trouble.Open a)) a.call
refusal_of (trouble.Arguments a n) p = refusal (why.Call (trouble.Arguments a n)) a.call
refusal_of (trouble.Joined a) p = refusal (why.Call (trouble.Joined a)) a.call
refusal_of (trouble.Much a) p = refusal (why.Call (trouble.Much a)) a.call
refusal_of (trouble.Deep a) p = refusal (why.Call (trouble.Deep a)) a.call
