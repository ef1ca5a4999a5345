-- Messages of a language server as values of JSON (JSON-RPC 2.0).
use Rattle.std.specs.Prelude.{◌≡◌, ℕ, ℤ, nat_eq, Bool, not, if◌then◌else◌, List, [], length, Option, Some, None, codes, option_and_then}
use Rattle.std.specs.Option.{option_map_or}
use Rattle.serde_json.specs.Data.{Data, string, object, member, no_members}
use Rattle.serde_json.specs.Find.{get, as_str, pointer}
use Rattle.lsp_answers.specs.declared.replies.RequestFault.{RequestFault}
use Rattle.lsp_answers.specs.declared.replies.RequestFault.TheVariants.{NoRequest, NotInitialized, ShutDown, NoMethod}

-- the number by which a request is known, or its text; a notification has none
abbrev pub id_of : Data → Option Data
id_of message = get (codes "id") message

-- the reply to a request that is answered
abbrev pub reply_of : Data → Data → Data
reply_of id what = object (member (codes "id") id (member (codes "jsonrpc") (string (codes "2.0")) (member (codes "result") what no_members)))

-- the reply to one that is refused
abbrev pub refusal_of : Data → Data → Data
refusal_of id fault = object (member (codes "error") fault (member (codes "id") id (member (codes "jsonrpc") (string (codes "2.0")) no_members)))

-- one reply to each request, with its own id, and none to a notification
abbrev pub RepliesTo : Data → Option Data → Type 0
RepliesTo message None = id_of message ≡ None
RepliesTo message (Some reply) = (id : Data) × (id_of message ≡ Some id) × (id_of reply ≡ Some id)

-- what stands in the way of an answer to a request of this method
abbrev pub fault_by : List ℕ → Bool → Bool → RequestFault
fault_by m is_ready is_shut =
    if nat_eq (length m) 0 then NoRequest else if not is_ready then NotInitialized else if is_shut then ShutDown else NoMethod

-- the text at a path, or an empty one
abbrev pub text_at : List ℕ → Data → List ℕ
text_at path d = option_map_or (λ t. t) (option_and_then as_str (pointer path d)) []
