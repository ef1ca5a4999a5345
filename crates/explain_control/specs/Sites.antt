-- What stands at the posts of a body, which are numbered as its plan numbers them.
use Rattle.std.specs.Prelude.{ℕ, ◌+◌, ◌-◌, List, [], ◌∷◌, ◌++◌, length, Option, Some, None}
use Rattle.pml_token.specs.Word.{Word}
use Rattle.pml_program.specs.declared.program.Action.{Action}
use Rattle.pml_program.specs.declared.program.Action.TheVariants as action
use Rattle.pml_program.specs.declared.program.Stmt.{Stmt}
use Rattle.pml_program.specs.declared.program.Seq.{Seq, Seq', Row_of-Stmt, end_of-Stmt, more_of-Stmt}
use Rattle.pml_program.specs.declared.program.Basic.{Basic, Plain, Goto, Break, If', Do', Block, Atomic, DStep, Unless, Row_of-Seq, end_of-Seq, more_of-Seq}
use Rattle.promela_process.specs.Control.{steps}
use Rattle.explain_control.specs.declared.site.PostMatter.{PostMatter}
use Rattle.explain_control.specs.declared.site.PostMatter.TheVariants as matter
use Rattle.explain_control.specs.declared.site.PostSite.{PostSite}

abbrev pub site : Option ℕ → PostMatter → PostSite
site o m = record { offset = o; matter = m }

-- the end of an arm
abbrev pub bare : PostSite
bare = site None matter.Bare

-- a goto to the label that a token names
abbrev pub goto : Word → PostMatter
goto l = matter.Goto (record { offset = l.line; length = length l.text })

-- what a plain statement is
abbrev pub matter_of : Action → PostMatter
matter_of action.Else = matter.Else
matter_of a = matter.Other

-- the line of the first token
abbrev pub first_line : List Word → Option ℕ
first_line [] = None
first_line (w ∷ ws) = Some w.line

-- the number of the last
abbrev pub last_of : List PostSite → ℕ
last_of ns = length ns - 1

-- a d_step behind post `last`, whose arm has these
abbrev pub close_step : Option ℕ → ℕ → List PostSite → List PostSite
close_step o last ns = ns ++ site o (matter.DStep (last + 1) (last + length ns)) ∷ []

-- what stands at the posts of a statement with this offset, where `last` is the post of what follows it
abbrev mutual
  pub sites_in : Option ℕ → ℕ → Basic → List PostSite
  sites_in o last (Plain a) = site o (matter_of a) ∷ []
  sites_in o last (Goto l) = site o (goto l) ∷ []
  sites_in o last Break = site o matter.Break ∷ []
  sites_in o last (If' m row) = sites_options last row ++ site o matter.Other ∷ []
  sites_in o last (Do' m row) = bare ∷ (sites_options (last + 1) row ++ site o matter.Other ∷ [])
  sites_in o last (Block s) = sites_arm last s ++ site o matter.Other ∷ []
  sites_in o last (Atomic s) = sites_arm last s ++ site o matter.Other ∷ []
  sites_in o last (DStep s) = close_step o last (sites_arm last s)
  sites_in o last (Unless s e) =
      let es : List PostSite = sites_arm last e in
      es ++ (sites_arm (last + length es) s ++ site o matter.Other ∷ [])

  -- of an arm: its end, and then its statements
  pub sites_arm : ℕ → Seq → List PostSite
  sites_arm last (Seq' m row) = bare ∷ sites_row (last + 1) row

  pub sites_row : {n : _} → ℕ → Row_of-Stmt n → List PostSite
  sites_row last end_of-Stmt = []
  sites_row last (more_of-Stmt ls s ts rest) =
      sites_row last rest ++ sites_in (first_line ts) (last + length (sites_row last rest)) s

  pub sites_options : {n : _} → ℕ → Row_of-Seq n → List PostSite
  sites_options last end_of-Seq = []
  sites_options last (more_of-Seq s rest) =
      sites_options last rest ++ sites_arm (last + length (sites_options last rest)) s

-- the same of statements and options in a list
abbrev pub sites_list : ℕ → List Stmt → List PostSite
sites_list last [] = []
sites_list last (s ∷ ss) =
    sites_list last ss ++ sites_in (first_line s.tokens) (last + length (sites_list last ss)) s.basic

abbrev pub sites_closed : Option ℕ → ℕ → Seq → List PostSite
sites_closed o last s = sites_arm last s ++ site o matter.Other ∷ []

abbrev pub sites_arms : ℕ → List Seq → List PostSite
sites_arms last [] = []
sites_arms last (s ∷ ss) = sites_arms last ss ++ sites_arm (last + length (sites_arms last ss)) s

-- post 0 is the end of the body
abbrev pub sites_of : Seq → List PostSite
sites_of b = bare ∷ sites_list 0 (steps b)
