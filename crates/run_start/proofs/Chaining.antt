-- Steps one after the other.
use Rattle.std.proofs.Common.{Result, Ok, Err, IfOk}
use Rattle.diagnostics.specs.declared.fault.Fault.{Fault}
use Rattle.promela_process.specs.Expressions.{◌>>=◌}

-- a step and another
pub chain : {A B : Type 0} (P : A → Type 0) (Q : B → Type 0) (x : Result A Fault) (rest : A → Result B Fault) → IfOk x P → ((a : A) → P a → IfOk (rest a) Q) → IfOk (x >>= rest) Q
chain P Q (Ok a) rest h k = k a h
chain P Q (Err f) rest h k = tt

-- a step of which nothing need be known, and another
pub chain_any : {A B : Type 0} (Q : B → Type 0) (x : Result A Fault) (rest : A → Result B Fault) → ((a : A) → IfOk (rest a) Q) → IfOk (x >>= rest) Q
chain_any Q (Ok a) rest k = k a
chain_any Q (Err f) rest k = tt

pub weaker : {A : Type 0} (P Q : A → Type 0) (x : Result A Fault) → ((a : A) → P a → Q a) → IfOk x P → IfOk x Q
weaker P Q (Ok a) k h = k a h
weaker P Q (Err f) k h = tt
