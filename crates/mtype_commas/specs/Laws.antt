-- Words for laws over the definitions.
use Rattle.std.specs.Prelude.{◌≡◌}
use Rattle.pml_token.specs.declared.token.Kind.TheVariants as kind
use Rattle.mtype_commas.specs.declared.changes.CommaChange.TheVariants.{Blanked, Parted}
use Rattle.prepare.specs.Changed.{Changed}
use Rattle.mtype_commas.specs.declared.changes.CommaChange.{CommaChange}

-- a token that a blank stands for is a comma, and one that a comma stands before is a name
pub record IsOwn (c : Changed CommaChange) : Type 0 where
  pub comma : c.change ≡ Blanked → c.kind ≡ kind.Comma
  pub name : c.change ≡ Parted → c.kind ≡ kind.Name
