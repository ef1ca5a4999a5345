-- The labels of one name: which body has one, and how many come of the calls of inlines that have one.
use Rattle.std.specs.Prelude.{ℕ, ◌+◌, Bool, true, false, not, ◌&&◌, ◌||◌, ◌==◌, nat_lt, max, if◌then◌else◌, List, [], ◌∷◌, ◌++◌}
use Rattle.pml_token.specs.declared.token.Kind.{Kind}
use Rattle.pml_token.specs.declared.token.Kind.TheVariants as kind
use Rattle.pml_token.specs.Word.{same_kind}
use Rattle.prepare.specs.Written.{Written}
use Rattle.names_apart.specs.declared.labels.Labels.{Labels}
use Rattle.names_apart.specs.declared.changes.NameChange.{NameChange}
use Rattle.names_apart.specs.declared.changes.NameChange.TheVariants as change
use Rattle.names_apart.specs.InlineCount.{InlineCount}
use Rattle.prepare.specs.Changed.{Changed, changed}
use Rattle.names_apart.specs.Scopes.{more, is_name, braces_behind, parens_behind, ends, call_behind}
use Rattle.names_apart.specs.Tallies.{count_at, home_behind, Tallied, as_tallied}
use Rattle.names_apart.specs.Changes.{index}

abbrev pub start : Labels
start =
    record {
      last = kind.End;
      braces = 0;
      parens = 0;
      is_inline = false;
      has = false;
      goes = false;
      count = 0;
      call = record { ahead = 0; within = 0; outer = 0; is_bare = false };
    }

-- what a statement may stand behind
abbrev pub is_between : Kind → Bool
is_between kind.Semicolon = true
is_between kind.Arrow = true
is_between kind.DoubleColon = true
is_between kind.OpenBrace = true
is_between kind.CloseBrace = true
is_between kind.Colon = true
is_between kind.Fi = true
is_between kind.Od = true
is_between kind.Else = true
is_between _ = false

abbrev pub begins_with : Kind → List Written → Bool
begins_with k [] = false
begins_with k (t ∷ ts) = same_kind t.kind k

-- whether a name is a label: it stands where a statement may begin, in a body, and a colon behind it
abbrev pub is_label : Labels → Kind → List Written → Bool
is_label s k ts = (same_kind k kind.Name && begins_with kind.Colon ts) && (is_between s.last && (nat_lt 0 s.braces && s.parens == 0))

-- whether a token is where a `goto` goes
abbrev pub is_target : Labels → Bool
is_target s = same_kind s.last kind.Goto

abbrev pub is_header : Labels → Bool
is_header s = s.is_inline && s.braces == 0

-- whether a `)` ends the call of an inline that has labels, or the header of one
abbrev pub ends_call : Labels → Kind → Bool
ends_call s k = same_kind k kind.CloseParen && ends s.call s.parens

abbrev pub ends_body : Labels → Kind → Bool
ends_body s k = same_kind k kind.CloseBrace && nat_lt s.braces 2

-- the labels of calls behind a token
abbrev pub count_behind : Labels → Kind → ℕ
count_behind s k = if ends_call s k && nat_lt 0 s.braces then more s.count s.call.within else s.count

-- behind a token, which is the name of an inline that has m labels
abbrev pub behind : Labels → List ℕ → ℕ → Kind → List ℕ → List Written → Labels
behind s name m k t ts =
    let ended = ends_body s k in
    record {
      last = k;
      braces = braces_behind s.braces k;
      parens = parens_behind s.parens k;
      is_inline = same_kind k kind.Inline || (s.is_inline && not ended);
      has = not ended && (s.has || (is_name name k t && is_label s k ts));
      goes = not ended && (s.goes || (is_name name k t && is_target s));
      count = if ended then 0 else count_behind s k;
      call = call_behind s.call s.parens m k;
    }

-- how many labels a body has with all that it calls
abbrev pub total : Labels → ℕ
total s = if s.has then more s.count 1 else s.count

-- an inline is counted where its body ends, if it has labels
abbrev pub table_behind : List InlineCount → Labels → List ℕ → Kind → List InlineCount
table_behind cs s home k = if s.is_inline && (ends_body s k && nat_lt 0 (total s)) then cs ++ record { inline = home; count = total s } ∷ [] else cs

-- how many labels a body that is no inline's has at most
abbrev pub most_behind : ℕ → Labels → Kind → ℕ
most_behind n s k = if not s.is_inline && ends_body s k then max n (total s) else n

-- whether the labels of the name stay: a body has it twice, or beside the calls of inlines that have it, where Spin takes one for the other; an inline has it
-- as a parameter; or a `goto` leaves its body
abbrev pub is_odd : Labels → List ℕ → Kind → List ℕ → List Written → Bool
is_odd s name k t ts =
    (is_name name k t && (is_header s || (s.has && is_label s k ts)))
    || (ends_body s k && ((s.goes && not s.has) || (s.has && nat_lt 0 s.count)))

abbrev pub labelled_by : List ℕ → Labels → List InlineCount → List ℕ → ℕ → Bool → List Written → Tallied
labelled_by name s cs home n b [] = as_tallied cs n b
labelled_by name s cs home n b (t ∷ ts) =
    let table = table_behind cs s home t.kind in
    labelled_by name
    (behind s name (count_at table t.kind t.token) t.kind t.token ts)
    table
    (home_behind home t.kind ts)
    (most_behind n s t.kind)
    (b || is_odd s name t.kind t.token ts)
    ts

-- what is known of the labels of a name in a text
abbrev pub labelled : List ℕ → List Written → Tallied
labelled name ts = labelled_by name start [] [] 0 false ts

-- what becomes of a token: the label and each `goto` to it keep their name in a body, and have that of a parameter in an inline; behind the arguments
-- of a call stand names for all labels of the inline
abbrev pub change_at : Labels → List ℕ → Kind → List ℕ → List Written → NameChange
change_at s name k t ts =
    if is_name name k t then (if is_label s k ts || is_target s then change.Named (index s.is_inline 1) else change.Kept)
    else (if ends_call s k then change.Passed (index s.is_inline (more s.count 1)) s.call.within s.call.is_bare else change.Kept)

abbrev pub changes_by : List ℕ → List InlineCount → Labels → List Written → List (Changed NameChange)
changes_by name cs s [] = []
changes_by name cs s (t ∷ ts) =
    changed t (change_at s name t.kind t.token ts)
    ∷ changes_by name cs (behind s name (count_at cs t.kind t.token) t.kind t.token ts) ts

-- what becomes of the tokens of a text where the labels of a name are divided which these inlines have
abbrev pub changes : List ℕ → List InlineCount → List Written → List (Changed NameChange)
changes name cs ts = changes_by name cs start ts
