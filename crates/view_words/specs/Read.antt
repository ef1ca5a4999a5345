-- What a command line asks for, by the matches of `clap`.
use Rattle.std.specs.Prelude.{◌≡◌, ◌&&◌, ◌||◌, not, nat_eq, nat_lt, List, [], length, Bool, true, is_none, codes, map, unwrap_or, if◌then◌else◌}
use Rattle.std.specs.Option.{option_map}
use Rattle.std.specs.String.{string_bytes}
use Rattle.clap.specs.declared.parser.matches.ArgMatches.{ArgMatches}
use Rattle.clap.specs.declared.parser.matches.Found.{Found}
use Rattle.clap.specs.Words.{Text, count_of, first_value, found_of, matched_of, raw_values, rows_of}
use Rattle.view_words.specs.declared.asked.Wishes.{Wishes}
use Rattle.view_words.specs.declared.asked.RunForm.{RunForm}
use Rattle.view_words.specs.declared.asked.RunForm.TheVariants as form

-- the options of preparing fit together
abbrev pub fits_together : Wishes → Bool
fits_together w =
    if w.prepare then is_none w.source && is_none w.lines
    else not w.no_cpp && (nat_eq (length w.defines.items) 0 && nat_eq (length w.folders.items) 0)

-- a flag is there
abbrev pub is_there : Text → Found → Bool
is_there id f = nat_lt 0 (count_of id (rows_of f))

-- one of the flags of lines of JSON is there
abbrev pub is_of_lines : Found → Bool
is_of_lines f = is_there (codes "json") f || (is_there (codes "ask") f || is_there (codes "serve") f)

abbrev pub is_of_chart : Found → Bool
is_of_chart f = is_there (codes "chart") f

-- what is shown by the flags alone
abbrev pub shown : Found → RunForm
shown f = if is_of_lines f then form.Json else if is_of_chart f then form.Chart else form.Session

-- all texts of an option, in turn
abbrev pub texts_in : Found → Text → List Text
texts_in f id = unwrap_or (option_map raw_values (matched_of f id)) []

-- each wish is what stands behind its own option, and where a run goes on by lines, these are of JSON
pub record IsReadFrom (f : Found) (w : Wishes) : Type 0 where
  pub name : option_map string_bytes w.name ≡ first_value f (codes "name")
  pub source : option_map string_bytes w.source ≡ first_value f (codes "source")
  pub lines : option_map string_bytes w.lines ≡ first_value f (codes "lines")
  pub prepare : w.prepare ≡ is_there (codes "prepare") f
  pub no_cpp : w.no_cpp ≡ is_there (codes "no-cpp") f
  pub defines : map string_bytes w.defines.items ≡ texts_in f (codes "D")
  pub folders : map string_bytes w.folders.items ≡ texts_in f (codes "I")
  pub choices : option_map string_bytes w.choices ≡ first_value f (codes "choices")
  pub trail : option_map string_bytes w.trail ≡ first_value f (codes "trail")
  pub rec : option_map string_bytes w.rec ≡ first_value f (codes "record")
  pub page : option_map string_bytes w.page ≡ first_value f (codes "page")
  pub form : is_of_lines f ≡ true → w.form ≡ form.Json
  pub asks : w.asks ≡ is_there (codes "ask") f
  pub serves : w.serves ≡ is_there (codes "serve") f
  pub lossy : w.is_lossy ≡ is_there (codes "m") f
  pub explains : w.explains ≡ is_there (codes "explain") f

-- the wishes are read of the matches of some words
abbrev pub IsRead : Wishes → Type 0
IsRead w = (m : ArgMatches) × IsReadFrom (found_of m) w
