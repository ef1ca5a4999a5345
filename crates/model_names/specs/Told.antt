-- The names of a text.
use Rattle.std.specs.Prelude.{◌≡◌, ℕ, List}
use Rattle.pml_token.specs.Word.{Word}
use Rattle.pml_tree.specs.declared.tree.Tree.{Tree}
use Rattle.promela_text.specs.Inlines.{IsExpanded}
use Rattle.promela_grammar.specs.Models.{Spells}
use Rattle.promela_model.specs.declared.mark.Mark.{Mark}
use Rattle.promela_model.specs.Marks.{of_tree}
use Rattle.explain_tokens.specs.Placed.{ArePlaced}
use Rattle.declared_names.specs.Meant.{meant}
use Rattle.declared_names.specs.declared.occurrence.Occurrence.{Occurrence}

-- the marks of a tree that tokens spell
pub record AreMarks (us : List Word) (ms : List Mark) : Type 0 where
  pub tree : Tree
  pub spells : Spells tree us
  pub are : ms ≡ of_tree tree

-- the names of the tree that tokens spell
pub record AreMeantBy (us : List Word) (os : List Occurrence) : Type 0 where
  pub tree : Tree
  pub spells : Spells tree us
  pub are : os ≡ meant (of_tree tree)

-- the names of what comes of tokens in which the calls of inlines are replaced
pub record AreMeantIn (ts : List Word) (os : List Occurrence) : Type 0 where
  pub expanded : List Word
  pub expands : IsExpanded ts expanded
  pub meant : AreMeantBy expanded os

-- The names of a text, each with its declaration: of the tree that its tokens spell, whose lines are their places.
pub record AreMeant (text : List ℕ) (os : List Occurrence) : Type 0 where
  pub tokens : List Word
  pub placed : ArePlaced text tokens
  pub meant : AreMeantIn tokens os
