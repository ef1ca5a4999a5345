-- Small models and states.
use Rattle.std.proofs.Common.{ℕ, List, [], false, map, None, codes}
use Rattle.pml_token.specs.Word.{Word}
use Rattle.pml_token.specs.declared.token.Kind.TheVariants as kind
use Rattle.pml_program.specs.declared.program.Stmt.{Stmt}
use Rattle.pml_program.specs.declared.program.Seq.{Seq, roll-Seq}
use Rattle.pml_program.specs.declared.program.Basic.{Basic}
use Rattle.pml_program.specs.declared.program.Proctype.{Proctype}
use Rattle.promela_process.specs.Control.{settle, at, steps}
use Rattle.promela_run.specs.State.{Stand, State}

abbrev pub word : ℕ → List ℕ → Word
word n text = record { kind = kind.Name; text = text; line = n }

-- a statement with these labels on line n, by its tokens
abbrev pub labelled : List (List ℕ) → ℕ → List (List ℕ) → Basic → Stmt
labelled ls n ts s = record { labels = map (word n) ls; basic = s; tokens = map (word n) ts }

abbrev pub said : ℕ → List (List ℕ) → Basic → Stmt
said n ts s = labelled [] n ts s

abbrev pub body : List Stmt → Seq
body ss = roll-Seq record { steps = ss }

-- a proctype whose closing brace is on line n
abbrev pub proctype : List ℕ → ℕ → Seq → Proctype
proctype text n b = record { name = word 1 text; owner = 1; starts = 1; parameters = 0; variables = []; body = b; end = word n [] }

abbrev pub init : ℕ → Seq → Proctype
init n b = record (proctype [] n b) { name = record { kind = kind.Init; text = codes "init"; line = 1 } }

-- a process of proctype k, before statement i of its body; and one at its closing brace
abbrev pub before : ℕ → Seq → ℕ → Stand
before k b i = record { sort = k; control = settle b (at (steps b) ([], i)) }

abbrev pub closed : ℕ → Stand
closed k = record { sort = k; control = [] }

abbrev pub state : List Proctype → List Stand → State
state ps ys = record {
  program = record { globals = []; constants = []; typedefs = []; proctypes = ps };
  frames = [];
  stands = ys;
  channels = [];
  holder = None;
  lossy = false;
}
