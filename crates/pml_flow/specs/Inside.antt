-- The statements inside a statement, in the order of their positions' numbers.
use Rattle.std.specs.Prelude.{List, [], ◌∷◌, ◌++◌, Option, Some, None}
use Rattle.pml_program.specs.declared.program.Stmt.{Stmt}
use Rattle.pml_program.specs.declared.program.Seq.{Seq, Seq', Row_of-Stmt, end_of-Stmt, more_of-Stmt, items-the_row-Stmt}
use Rattle.pml_program.specs.declared.program.Basic.{Basic, Plain, Goto, Break, If', Do', Block, Atomic, DStep, Unless, Row_of-Seq, end_of-Seq, more_of-Seq}

-- the first that is there
abbrev pub either : Option Stmt → Option Stmt → Option Stmt
either None o = o
either (Some s) o = Some s

abbrev pub first_or : Option Stmt → List Stmt → Option Stmt
first_or o [] = o
first_or o (s ∷ ss) = Some s

-- Those of the numbers inside a statement, with `next` behind it. The end of an arm has what follows it, if it is a statement.
abbrev mutual
  pub inner_in : Option Stmt → Stmt → Basic → List (Option Stmt)
  inner_in next own (Plain a) = []
  inner_in next own (Goto l) = []
  inner_in next own Break = []
  inner_in next own (If' m row) = inner_options next row
  inner_in next own (Do' m row) = Some own ∷ inner_options None row
  inner_in next own (Block s) = inner_arm next s
  inner_in next own (Atomic s) = inner_arm None s
  inner_in next own (DStep s) = inner_arm None s
  inner_in next own (Unless s e) = inner_arm next e ++ inner_arm None s

  pub inner_arm : Option Stmt → Seq → List (Option Stmt)
  inner_arm next (Seq' m row) = next ∷ inner_row next row

  pub inner_row : {n : _} → Option Stmt → Row_of-Stmt n → List (Option Stmt)
  inner_row next end_of-Stmt = []
  inner_row next (more_of-Stmt ls s ts rest) =
      let own : Stmt = record { labels = ls; basic = s; tokens = ts } in
      inner_row next rest ++ (inner_in (first_or next (items-the_row-Stmt _ rest)) own s ++ Some own ∷ [])

  pub inner_options : {n : _} → Option Stmt → Row_of-Seq n → List (Option Stmt)
  inner_options next end_of-Seq = []
  inner_options next (more_of-Seq s rest) = inner_options next rest ++ inner_arm next s

-- the same of statements and options in a list
abbrev pub inner_list : Option Stmt → List Stmt → List (Option Stmt)
inner_list next [] = []
inner_list next (s ∷ ss) = inner_list next ss ++ (inner_in (first_or next ss) s s.basic ++ Some s ∷ [])

abbrev pub inner_arms : Option Stmt → List Seq → List (Option Stmt)
inner_arms next [] = []
inner_arms next (s ∷ ss) = inner_arms next ss ++ inner_arm next s
