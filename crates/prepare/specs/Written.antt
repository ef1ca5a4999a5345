-- A stretch as contracts see it: without where its bytes lie in memory.
use Rattle.std.specs.Prelude.{ℕ, List}
use Rattle.pml_token.specs.declared.token.Kind.{Kind}
use Rattle.prepare.specs.declared.context.Supply.{Supply}
use Rattle.prepare.specs.declared.stretch.StretchForm.{StretchForm}
use Rattle.prepare.specs.declared.stretch.StretchRemark.{StretchRemark}

pub record Written : Type 0 where
  pub supply : Supply
  pub gap : List ℕ
  pub token : List ℕ
  pub kind : Kind
  pub form : StretchForm
  pub remark : StretchRemark
