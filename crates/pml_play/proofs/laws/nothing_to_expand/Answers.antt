use Rattle.pml_play.proofs.Plain.{plain_tree, plain_too_deep, plain_syntax, plain_right}
use Rattle.pml_play.proofs.laws.nothing_to_expand.Goals as goal

pub returns-clause-tree : goal.returns-clause-tree
returns-clause-tree c text tokens plain tree = plain_tree plain tree

pub returns-clause-too_deep : goal.returns-clause-too_deep
returns-clause-too_deep c text tokens plain line = plain_too_deep plain line

pub returns-clause-syntax : goal.returns-clause-syntax
returns-clause-syntax c text tokens plain line = plain_syntax plain line

pub returns-clause-right : goal.returns-clause-right
returns-clause-right c text tokens plain line = plain_right plain line
