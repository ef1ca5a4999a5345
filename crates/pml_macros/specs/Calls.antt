-- What comes of tokens in which macros are named, by rules: C11 6.10.3 for macros without `#` and `##`.
use Rattle.std.specs.Prelude.{◌≡◌, ℕ, ◌+◌, ◌-◌, Bool, true, false, not, ◌&&◌, ◌||◌, nat_eq, nat_le, if◌then◌else◌, List, [], ◌∷◌, ◌++◌, length, take, map, All, Option, None, Some, slice_index_or, slice_get, option_and_then, option_map, reverse, Result, OnOk}
use Rattle.std.specs.List.{list_any, flat_map}
use Rattle.std.specs.Ordering.{nat_cmp}
use Rattle.std.specs.BTreeMap.{get}
use denote.Enum.Bare.{sameb}
use Rattle.pml_macros.specs.contracts.atom.AtomSort.{the_type}
use Rattle.pml_macros.specs.declared.atom.AtomSort.{AtomSort}
use Rattle.pml_macros.specs.declared.atom.AtomSort.TheVariants as sort
use Rattle.pml_macros.specs.declared.atom.FilePlace.{FilePlace}
use Rattle.pml_macros.specs.declared.atom.Atom.{Atom}
use Rattle.pml_macros.specs.declared.calls.PendingItem.{PendingItem}
use Rattle.pml_macros.specs.declared.calls.Pending.{Pending}
use Rattle.pml_macros.specs.declared.calls.PendingItem.TheVariants.{Token, End}
use Rattle.pml_macros.specs.declared.calls.AtomStanding.{AtomStanding}
use Rattle.pml_macros.specs.declared.calls.AtomStanding.TheVariants.{Stays, Painted, Object, Call}
use Rattle.pml_macros.specs.declared.table.Substitution.{Substitution}
use Rattle.pml_macros.specs.declared.table.Substitution.TheVariants.{Itself, Expanded, Raw, Shown}
use Rattle.pml_macros.specs.declared.table.BodyToken.{BodyToken}
use Rattle.pml_macros.specs.declared.table.Macro.{Macro}
use Rattle.pml_macros.specs.declared.table.MacroTable.{MacroTable}
use Rattle.std.specs.Global.{Vec}

-- two sorts are the same
abbrev pub same_sort : AtomSort → AtomSort → Bool
same_sort = sameb the_type

-- a token that names a macro which it stands within
abbrev pub painted : Atom → Atom
painted a = record a { is_painted = true }

-- a token as it comes out of a call at this place
abbrev pub called : FilePlace → Atom → Atom
called p a = record a { call = p }

-- a token with blanks before it or none
abbrev pub spaced : Bool → Atom → Atom
spaced b a = record a { is_spaced = b }

-- A macro: the number of its name, how many parameters it has where it is called with parentheses, and its body.
pub record Rule : Type 0 where
  pub name : ℕ
  pub parameters : Option ℕ
  pub body : List BodyToken

-- the one that the code keeps
abbrev pub rule_of : Macro → Rule
rule_of m = record { name = m.name; parameters = m.parameters; body = m.body.items }

-- the macros by the numbers of their names
abbrev pub Known : Type 0
Known = ℕ → Option Rule

-- those of a table
abbrev pub known : MacroTable → Known
known t n = option_map rule_of (option_and_then (λ p. slice_get t.macros.items p) (get nat_cmp t.places n))

-- a name is one of these
abbrev pub is_among : ℕ → List ℕ → Bool
is_among n ns = list_any (λ m. nat_eq m n) ns

-- lists of tokens
abbrev pub lists : List (Vec Atom) → List (List Atom)
lists vs = map (λ v. v.items) vs

-- what is to be read of tokens
abbrev pub tokens : List Atom → List PendingItem
tokens xs = map Token xs

-- without the innermost
abbrev pub outer : List ℕ → List ℕ
outer ns = take (length ns - 1) ns

-- the next token is a `(`
abbrev pub opens_next : List PendingItem → Bool
opens_next [] = false
opens_next (End ∷ ts) = opens_next ts
opens_next (Token a ∷ ts) = same_sort a.sort sort.OpenParen

-- what a macro is called as
abbrev pub called_as : Option ℕ → Bool → AtomStanding
called_as None opens = Object
called_as (Some n) true = Call n
called_as (Some n) false = Stays

-- what the name of a macro is at its place
abbrev pub as_macro : Option Rule → Bool → Bool → AtomStanding
as_macro None within opens = Stays
as_macro (Some m) true opens = Painted
as_macro (Some m) false opens = called_as m.parameters opens

-- what a token is at its place, within these macros and before this
unfoldable pub standing : Known → List ℕ → Atom → List PendingItem → AtomStanding
standing ms active a ts =
    if same_sort a.sort sort.Name && not a.is_painted then as_macro (ms a.text) (is_among a.text active) (opens_next ts) else Stays

-- ---- arguments

-- what a call takes: its arguments, and what is active and still to be read behind it
pub record Taken : Type 0 where
  pub arguments : List (List Atom)
  pub active : List ℕ
  pub items : List PendingItem

-- a token of an argument: one that names a macro which it stands within is never replaced
abbrev pub seen : List ℕ → Atom → Atom
seen active a = if same_sort a.sort sort.Name && is_among a.text active then painted a else a

-- what reading on gives: of the depth, the arguments so far, the one that is being read, and the macros that are active
abbrev pub Taking : Type 0
Taking = ℕ → List (List Atom) → List Atom → List ℕ → Option Taken

-- a token between the parentheses of a call, of which so many are open
abbrev pub take_turn : Atom → List PendingItem → Taking → Taking
take_turn a ts rest n args cur active =
    if same_sort a.sort sort.OpenParen then rest (n + 1) args (if nat_eq n 0 then cur else cur ++ a ∷ []) active
    else (if same_sort a.sort sort.CloseParen
    then (if nat_le n 1 then Some (record { arguments = args ++ cur ∷ []; active = active; items = ts }) else rest (n - 1) args (cur ++ a ∷ []) active)
    else (if same_sort a.sort sort.Comma && nat_le n 1 then rest n (args ++ cur ∷ []) [] active else rest n args (cur ++ a ∷ []) active))

-- what stands from a `(` to its `)`, cut at the commas that stand in no inner parentheses; the ends of macros on the way are passed
abbrev pub taking : List PendingItem → Taking
taking [] n args cur active = None
taking (End ∷ ts) n args cur active = taking ts n args cur (outer active)
taking (Token a ∷ ts) n args cur active = take_turn (seen active a) ts (taking ts) n args cur active

abbrev pub is_bare : List (List Atom) → Bool
is_bare ([] ∷ []) = true
is_bare _ = false

-- as many arguments as parameters; nothing at all is none for a macro without parameters
abbrev pub fits : ℕ → List (List Atom) → Bool
fits n args = if nat_eq n 0 then is_bare args else nat_eq (length args) n

-- ---- what stands in place of a call

abbrev pub argument : List (List Atom) → ℕ → List Atom
argument args k = slice_index_or args k []

-- the first token of an argument has blanks before it where the parameter has
abbrev pub fronted : Bool → List Atom → List Atom
fronted b [] = []
fronted b (a ∷ xs) = spaced b a ∷ xs

-- what stands in place of a token of the body
abbrev pub by_role : List (List Atom) → FilePlace → BodyToken → Substitution → List Atom
by_role outs p part Itself = called p part.atom ∷ []
by_role outs p part (Expanded k) = fronted part.atom.is_spaced (argument outs k)
by_role outs p part (Raw k) = []
by_role outs p part (Shown k) = []

abbrev pub instead : List (List Atom) → FilePlace → BodyToken → List Atom
instead outs p part = by_role outs p part part.role

-- the body with what came of the arguments in place of the parameters
abbrev pub body_of : Rule → List (List Atom) → FilePlace → List Atom
body_of m outs p = flat_map (instead outs p) m.body

-- what comes of this argument is asked for
abbrev pub asks : ℕ → Substitution → Bool
asks k (Expanded j) = nat_eq j k
asks k Itself = false
asks k (Raw j) = false
asks k (Shown j) = false

abbrev pub is_wanted_in : ℕ → List BodyToken → Bool
is_wanted_in k [] = false
is_wanted_in k (p ∷ ps) = if asks k p.role then true else is_wanted_in k ps

abbrev pub is_wanted : Rule → ℕ → Bool
is_wanted m k = is_wanted_in k m.body

-- a token that is nothing
abbrev pub is_gone : Atom → Bool
is_gone a = same_sort a.sort sort.Gone

abbrev pub stands : Atom → Bool
stands a = not (is_gone a)

-- what stands for an empty argument beside `##`
abbrev pub gone : FilePlace → Atom → Atom
gone p a = record { sort = sort.Gone; text = a.text; is_spaced = a.is_spaced; is_painted = false; place = a.place; call = p }

-- an argument as it is, beside `##`
abbrev pub as_it_is : FilePlace → BodyToken → List Atom → List Atom
as_it_is p part [] = gone p part.atom ∷ []
as_it_is p part (a ∷ xs) = fronted part.atom.is_spaced (a ∷ xs)

-- a token in quotes
abbrev pub is_in_quotes : AtomSort → Bool
is_in_quotes s = same_sort s sort.Quoted || same_sort s sort.Character

-- a byte of a token in a string: in quotes, a quote and a backslash stand behind a backslash
abbrev pub escaped : Bool → ℕ → List ℕ
escaped quotes b = if quotes && (nat_eq b 34 || nat_eq b 92) then 92 ∷ b ∷ [] else b ∷ []

-- no `#` and no `##`
abbrev pub IsPlainRole : Substitution → Type 0
IsPlainRole Itself = Unit {0}
IsPlainRole (Expanded k) = Unit {0}
IsPlainRole (Raw k) = ⊥
IsPlainRole (Shown k) = ⊥

pub record IsPlainPart (p : BodyToken) : Type 0 where
  pub apart : p.is_joined ≡ false
  pub role : IsPlainRole p.role

abbrev pub IsPlain : Rule → Type 0
IsPlain m = All IsPlainPart m.body

-- no macro that is known has a `#` or a `##`
abbrev pub ArePlain : Known → Type 0
ArePlain ms = (n : ℕ) (m : Rule) → ms n ≡ Some m → IsPlain m

-- ---- the rules

-- Of what is to be read within these macros comes the list of tokens.
pub data Comes (ms : Known) : List ℕ → List PendingItem → List Atom → Type 0 where
  nothing_left : {active : List ℕ} → Comes ms active [] []
  ends : {active : List ℕ} {ts : List PendingItem} {us : List Atom} → Comes ms (outer active) ts us → Comes ms active (End ∷ ts) us
  stays : {active : List ℕ} {a : Atom} {ts : List PendingItem} {us : List Atom} → standing ms active a ts ≡ Stays → Comes ms active ts us
      → Comes ms active (Token a ∷ ts) (a ∷ us)
  is_painted : {active : List ℕ} {a : Atom} {ts : List PendingItem} {us : List Atom} → standing ms active a ts ≡ Painted → Comes ms active ts us
      → Comes ms active (Token a ∷ ts) (painted a ∷ us)
  is_replaced : {active : List ℕ} {a : Atom} {ts : List PendingItem} {us : List Atom} {m : Rule} → standing ms active a ts ≡ Object → ms a.text ≡ Some m
      → Comes ms (active ++ m.name ∷ []) (tokens (body_of m [] a.call) ++ End ∷ ts) us → Comes ms active (Token a ∷ ts) us
  is_called : {active : List ℕ} {a : Atom} {ts : List PendingItem} {us : List Atom} {m : Rule} {n : ℕ} {x : Taken} (outs : List (List Atom))
      → standing ms active a ts ≡ Call n → ms a.text ≡ Some m → taking ts 0 [] [] active ≡ Some x → fits n x.arguments ≡ true
      → ((k : ℕ) → is_wanted m k ≡ true → Comes ms x.active (tokens (argument x.arguments k)) (argument outs k))
      → Comes ms (x.active ++ m.name ∷ []) (tokens (body_of m outs a.call) ++ End ∷ x.items) us → Comes ms active (Token a ∷ ts) us

-- ---- what the code does, step by step. No clause of a public function cites this.

-- what comes of the rest, behind what is out, is what comes of the whole
abbrev pub Gives : Known → List ℕ → List PendingItem → List Atom → List ℕ → List PendingItem → Type 0
Gives ms whole_active whole out active ts = (us : List Atom) → Comes ms active ts us → Comes ms whole_active whole (out ++ us)

-- whatever the whole is, from what is out and what is to be read to what is out and to be read then
abbrev pub Passes : Known → List Atom → List ℕ → List PendingItem → List Atom → List ℕ → List PendingItem → Type 0
Passes ms out active ts out' active' ts' = (whole_active : List ℕ) (whole : List PendingItem) → Gives ms whole_active whole out active ts → Gives ms whole_active whole out' active' ts'

-- the token is a call, which takes these arguments
pub record IsCall (ms : Known) (active : List ℕ) (a : Atom) (ts : List PendingItem) (x : Taken) : Type 0 where
  pub wanted : ℕ
  pub stands : standing ms active a ts ≡ Call wanted
  pub takes : taking ts 0 [] [] active ≡ Some x
  pub right : fits wanted x.arguments ≡ true

-- the body of a macro stands in front of what was to be read
pub record HasEntered (m : Rule) (outs : List (List Atom)) (a : Atom) (active : List ℕ) (ts : List PendingItem) (active' : List ℕ) (ts' : List PendingItem) : Type 0 where
  pub within : active' ≡ active ++ m.name ∷ []
  pub ahead : ts' ≡ tokens (body_of m outs a.call) ++ End ∷ ts

-- where nothing was closed nothing is taken, else these arguments
abbrev pub Takes : List ℕ → List PendingItem → Option (Vec (Vec Atom)) → List ℕ → List PendingItem → Type 0
Takes active ts None active' ts' = taking ts 0 [] [] active ≡ None
Takes active ts (Some v) active' ts' = taking ts 0 [] [] active ≡ Some (record { arguments = lists v.items; active = active'; items = ts' })

-- as many as are wanted are taken
pub record TakesRight (wanted : ℕ) (active : List ℕ) (ts : List PendingItem) (v : Vec (Vec Atom)) (active' : List ℕ) (ts' : List PendingItem) : Type 0 where
  pub takes : taking ts 0 [] [] active ≡ Some (record { arguments = lists v.items; active = active'; items = ts' })
  pub right : fits wanted (lists v.items) ≡ true

-- how much may still be read: what is there, and what may be put in front of it
abbrev pub to_read : ℕ → List PendingItem → ℕ
to_read left ts = left + length ts

-- the end of what came of a macro
abbrev pub stop : PendingItem
stop = End

-- what comes of a token and what is behind it is what comes of all that was to be read
abbrev pub Follows : Known → Atom → List ℕ → List PendingItem → List ℕ → List PendingItem → Type 0
Follows ms a active ts active' ts' = (us : List Atom) → Comes ms active' (Token a ∷ ts') us → Comes ms active ts us

-- a token is read, or is a call whose arguments are taken
abbrev pub Turns : Known → Atom → List Atom → List ℕ → List PendingItem → List Atom → List ℕ → List PendingItem → Option (Vec (Vec Atom)) → Type 0
Turns ms a out active ts out' active' ts' None = Passes ms out active (Token a ∷ ts) out' active' ts'
Turns ms a out active ts out' active' ts' (Some v) = IsCall ms active a ts (record { arguments = lists v.items; active = active'; items = ts' }) × (out' ≡ out)

-- ---- the same of what the code keeps

-- what is still to be read, the next of it first
abbrev pub ahead : Pending → List PendingItem
ahead p = reverse p.items.items

-- from what was to be read, arguments are taken, or nothing is
abbrev pub TakesFrom : Pending → Option (Vec (Vec Atom)) → Pending → Type 0
TakesFrom p o q = Takes p.active.items (ahead p) o q.active.items (ahead q)

-- as many as are wanted are taken from it
abbrev pub TakesRightFrom : ℕ → Pending → Vec (Vec Atom) → Pending → Type 0
TakesRightFrom wanted p v q = TakesRight wanted p.active.items (ahead p) v q.active.items (ahead q)

-- the body of a macro stands in front of what was to be read
abbrev pub EntersFrom : Rule → List (List Atom) → Atom → Pending → Pending → Type 0
EntersFrom m outs a p q = HasEntered m outs a p.active.items (ahead p) q.active.items (ahead q)

-- so it is of the macro that a token names, unless memory or a bound refuses it
abbrev pub Enters : {A E : Type 0} → Known → List (Vec Atom) → Atom → Pending → Pending → Result A E → Type 0
Enters ms outs a p q r = ArePlain ms → (m : Rule) → ms a.text ≡ Some m → OnOk r (EntersFrom m (lists outs) a p q)

-- what comes of a token and what is behind it is what comes of all
abbrev pub FollowsFrom : Known → Atom → Pending → Pending → Type 0
FollowsFrom ms a p q = Follows ms a p.active.items (ahead p) q.active.items (ahead q)

-- a token is read, or is a call whose arguments are taken
abbrev pub TurnsFrom : Known → Atom → List Atom → Pending → List Atom → Pending → Option (Vec (Vec Atom)) → Type 0
TurnsFrom ms a out p out' q = Turns ms a out p.active.items (ahead p) out' q.active.items (ahead q)
