-- The status of words that lead to no run.
use Rattle.std.specs.Prelude.{◌≡◌, ◌≢◌, ℕ}
use Rattle.clap.specs.declared.error.Error.{Error}
use Rattle.clap.specs.declared.error.kind.ErrorKind.TheVariants as kind
use Rattle.clap.specs.Words.{kind_of}

-- words that ask for no help and no version, and are no command line either
abbrev pub IsMistake : Error → Type 0
IsMistake error = (kind_of error ≢ kind.DisplayHelp) × (kind_of error ≢ kind.DisplayVersion)

-- The status of words that lead to no run: 4 where they are a mistake, 0 where the help or the version was asked for and shown, and 6 where it could not be
-- shown or memory was refused.
pub data IsStatusOfWords (error : Error) : ℕ → Type 0 where
  no_memory : kind_of error ≡ kind.OutOfMemory → IsStatusOfWords error 6
  mistake : (kind_of error ≢ kind.OutOfMemory) → IsMistake error → IsStatusOfWords error 4
  shown : (IsMistake error → ⊥) → IsStatusOfWords error 0
  not_shown : (IsMistake error → ⊥) → IsStatusOfWords error 6
