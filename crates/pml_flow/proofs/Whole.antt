-- Sites with all their ways: their own, and above them those of the escapes.
use Rattle.std.specs.Prelude.{ℕ, ◌+◌, List, [], ◌∷◌, ◌++◌, Bool, true, false, Option, None, if◌then◌else◌, slice_index_or}
use Rattle.pml_program.specs.declared.program.Seq.{Seq, Seq', Row_of-Stmt, end_of-Stmt, more_of-Stmt}
use Rattle.pml_program.specs.declared.program.Basic.{Basic, Plain, Goto, Break, If', Do', Block, Atomic, DStep, Unless, Row_of-Seq, end_of-Seq, more_of-Seq}
use Rattle.pml_flow.specs.Ways.{Ways, way, own_step, one, outer, count_arm, count_row, count_options, ways_arm, ways_row, ways_options}

pub record Site : Type 0 where
  pub atomic : Option ℕ
  pub inside : Bool
  pub ways : Ways

abbrev pub site : Option ℕ → Bool → Ways → Site
site a inside ws = record { atomic = a; inside = inside; ways = ws }

abbrev pub site_of : List Site → ℕ → Site
site_of ss n = slice_index_or ss n (site None false [])

-- The sites of a statement under the ways of escapes.
abbrev mutual
  pub sites_in : ℕ → Bool → Option ℕ → Ways → Basic → List Site
  sites_in last inside a above (Plain x) = site a inside (one (way (last + 1) last) ++ above) ∷ []
  sites_in last inside a above (Goto l) = site a inside [] ∷ []
  sites_in last inside a above Break = site a inside [] ∷ []
  sites_in last inside a above (If' m row) =
      sites_options last inside a above row ++ site a inside (ways_options last inside row ++ above) ∷ []
  sites_in last inside a above (Do' m row) =
      site a inside (ways_options (last + 1) inside row ++ above) ∷ (sites_options (last + 1) inside a above row ++ site a inside [] ∷ [])
  sites_in last inside a above (Block s) = sites_arm last inside a above s ++ site a inside [] ∷ []
  sites_in last inside a above (Atomic s) = sites_arm last inside (outer a (last + 1)) above s ++ site a inside [] ∷ []
  sites_in last inside a above (DStep s) =
      sites_arm last true a [] s
      ++ site a inside (if inside then [] else (one (own_step last s) ++ above)) ∷ []
  sites_in last inside a above (Unless s e) =
      sites_escape last inside a above e
      ++ (sites_arm (last + count_arm e) inside a (ways_arm last inside e ++ above) s ++ site a inside [] ∷ [])

  pub sites_arm : ℕ → Bool → Option ℕ → Ways → Seq → List Site
  sites_arm last inside a above (Seq' m row) = site a inside [] ∷ sites_row (last + 1) inside a above row

  pub sites_escape : ℕ → Bool → Option ℕ → Ways → Seq → List Site
  sites_escape last inside a above (Seq' m row) =
      site a inside (ways_row (last + 1) inside row) ∷ sites_row (last + 1) inside a above row

  pub sites_row : {n : _} → ℕ → Bool → Option ℕ → Ways → Row_of-Stmt n → List Site
  sites_row last inside a above end_of-Stmt = []
  sites_row last inside a above (more_of-Stmt ls s ts rest) =
      sites_row last inside a above rest ++ sites_in (last + count_row rest) inside a above s

  pub sites_options : {n : _} → ℕ → Bool → Option ℕ → Ways → Row_of-Seq n → List Site
  sites_options last inside a above end_of-Seq = []
  sites_options last inside a above (more_of-Seq s rest) =
      sites_options last inside a above rest ++ sites_arm (last + count_options rest) inside a above s

abbrev pub sites_whole : Seq → List Site
sites_whole (Seq' m row) = site None false [] ∷ sites_row 0 false None [] row
