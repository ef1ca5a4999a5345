-- What may be typed at a place: which names of a text are offered there.
use Rattle.std.specs.Prelude.{◌≡◌, ℕ, ◌-◌, nat_eq, nat_lt, Bool, true, false, if◌then◌else◌, List, [], ◌++◌, length, take, map, filter, codes, Option, Some, None, IfSome, option_map}
use Rattle.std.specs.Option.{option_map_or}
use Rattle.serde_json.specs.Data.{Data, null, boolean, array, object, member, no_members}
use Rattle.serde_json.specs.View.{view, items_of}
use Rattle.pml_token.specs.Word.{Word}
use Rattle.pml_lex.specs.declared.fault.LexError.{LexError}
use Rattle.pml_program.specs.declared.form.Form.{Form}
use Rattle.pml_program.specs.declared.form.Form.TheVariants as form
use Rattle.explain_tokens.specs.Placed.{ArePlaced, IsUnplaced}
use Rattle.declared_names.specs.declared.declared.Declaration.{Declaration}
use Rattle.lsp_results.specs.declared.page.Page.{Page}
use Rattle.offered_names.specs.declared.asked.Fitting.{Fitting}
use Rattle.offered_names.specs.declared.asked.Fitting.TheVariants.{Any, Proctype, Label, Field, Message}
use Rattle.offered_names.specs.declared.standing.PlaceStanding.{PlaceStanding}
use Rattle.offered_names.specs.declared.offers.SoughtNames.{SoughtNames}
use Rattle.offered_names.specs.Asked.{asked_behind}
use Rattle.offered_names.specs.Standing.{stands, nowhere}
use Rattle.offered_names.specs.Owners.{owner_at}
use Rattle.offered_names.specs.References.{read, form_read}
use Rattle.offered_names.specs.Offers.{is_offered}
use Rattle.lsp_completions.specs.declared.readable.Readable.{Readable}
use Rattle.lsp_completions.specs.declared.wishes.TypedPlace.{TypedPlace}
use Rattle.lsp_completions.specs.declared.wishes.OfferedItems.{OfferedItems}
use Rattle.lsp_completions.specs.declared.wishes.TheConstants.{MOST_NAMES}
use Rattle.lsp_completions.specs.Fronts.{typed_in, before_typed}
use Rattle.lsp_completions.specs.Items.{item_of, AreWords}
use Rattle.lsp_completions.specs.Readables.{IsReadable}

abbrev pub owner_in : Readable → Bool → ℕ → ℕ
owner_in r is_inline head = owner_at head (if is_inline then r.names.inlines.declarations.items else r.names.declarations.items)

-- whose names may stand in a unit
abbrev pub own_owner : Readable → PlaceStanding → ℕ
own_owner r s = option_map_or (owner_in r s.is_inline) s.head 0

-- whose the fields are of what has a type
abbrev pub fields_in : Form → Option ℕ
fields_in (form.Struct n) = Some n
fields_in f = None

abbrev pub fields_of : Option Form → Option ℕ
fields_of None = None
fields_of (Some f) = fields_in f

-- whose the fields are of the reference before the dot that is the last of the tokens
abbrev pub field_owner : Readable → TypedPlace → List Word → Option ℕ
field_owner r p ws =
    fields_of (form_read r.text.items r.names.declarations.items (own_owner r p.standing) (read (take (length ws - 1) ws)).names)

-- what is wished for at a place, of an owner
abbrev pub wish_of : Readable → TypedPlace → ℕ → SoughtNames
wish_of r p o = record { asked = p.asked; owner = o; offset = r.offset; typed = p.typed }

abbrev pub offered : Readable → TypedPlace → List Declaration → ℕ → List Declaration
offered r p ds o = filter (is_offered r.text.items (wish_of r p o)) ds

-- the fields that may stand there
abbrev pub fields_at : Readable → TypedPlace → List Word → List Declaration
fields_at r p ws = option_map_or (offered r p r.names.declarations.items) (field_owner r p ws) []

-- the names of the unit that may stand there
abbrev pub own_by : Readable → TypedPlace → ℕ → List Declaration
own_by r p o =
    if nat_eq o 0 then []
    else if p.standing.is_inline then offered r p r.names.inlines.declarations.items o
    else offered r p r.names.declarations.items o

abbrev pub own_names : Readable → TypedPlace → List Declaration
own_names r p = own_by r p (own_owner r p.standing)

-- the global names that may stand there, those of inlines last
abbrev pub other_names : Readable → TypedPlace → List Declaration
other_names r p = offered r p r.names.declarations.items 0 ++ offered r p r.names.inlines.declarations.items 0

abbrev pub names_by : Fitting → Readable → TypedPlace → List Word → List Declaration
names_by Any r p ws = own_names r p ++ other_names r p
names_by Proctype r p ws = own_names r p ++ other_names r p
names_by Label r p ws = own_names r p ++ other_names r p
names_by Field r p ws = fields_at r p ws
names_by Message r p ws = own_names r p ++ other_names r p

-- fields behind a dot, and else those of the unit first
abbrev pub names_at : Readable → TypedPlace → List Word → List Declaration
names_at r p ws = names_by p.asked r p ws

-- the names of a text whose names are known
abbrev pub names_of : Option Readable → TypedPlace → List Word → List Declaration
names_of None p ws = []
names_of (Some r) p ws = names_at r p ws

-- so many of them, each with what it is
abbrev pub items_by : Option Readable → TypedPlace → List Word → List Data
items_by None p ws = []
items_by (Some r) p ws = map (item_of r.text.items r.names.declarations.items p.asked) (take MOST_NAMES (names_at r p ws))

-- these are the names that are offered, and some are left out
pub record AreOffered (r : Readable) (p : TypedPlace) (ws : List Word) (o : OfferedItems) : Type 0 where
  pub items_are : map view o.items.items ≡ items_by (Some r) p ws
  pub is_cut_is : o.is_cut ≡ nat_lt MOST_NAMES (length (names_at r p ws))

-- a list of what is offered, which says whether names are left out of it
abbrev pub list_of : Bool → List Data → Data
list_of is_cut ds = object (member (codes "isIncomplete") (boolean is_cut) (member (codes "items") (array (items_of ds)) no_members))

-- The names that are offered, and words of the language behind them.
pub record IsList (r : Option Readable) (p : TypedPlace) (ws : List Word) (d : Data) : Type 0 where
  pub words : List Data
  pub are_words : AreWords p.typed.now words
  pub told : d ≡ list_of (nat_lt MOST_NAMES (length (names_of r p ws))) (items_by r p ws ++ words)

-- the place that is told by the tokens before it: the last of them may be what is typed
pub record IsPlace (at : ℕ) (ts : List Word) (p : TypedPlace) : Type 0 where
  pub typed : p.typed.now ≡ typed_in at ts
  pub asked : p.asked ≡ asked_behind (before_typed at ts)
  pub standing : p.standing ≡ stands nowhere (before_typed at ts)

-- what may be typed at a place, behind the tokens of what stands before it
pub record IsOffer (page : Page) (at : ℕ) (ts : List Word) (d : Data) : Type 0 where
  pub placed : ArePlaced (take at page.text.now) ts
  pub place : TypedPlace
  pub is_place : IsPlace at ts place
  pub readable : Option Readable
  pub is_readable : IfSome readable (IsReadable page.text.now (before_typed at ts) at)
  pub list : IsList readable place (before_typed at ts) d

-- What may be typed at a place: nothing, where what stands before it cannot be cut into tokens.
pub data IsCompletion (page : Page) (at : ℕ) (d : Data) : Type 0 where
  nothing : (why : LexError) → IsUnplaced (take at page.text.now) why → d ≡ null → IsCompletion page at d
  offered_there : (ts : List Word) → IsOffer page at ts d → IsCompletion page at d
