-- What an initiator's sending half writes of documents (nbfx_encoder) is read as these documents
-- (stream_reader), by whoever admits as much.
use Rattle.std.specs.Prelude.{◌≡◌, ℕ, ◌≤◌, List, [], ◌∷◌, ◌++◌, map, length, Ok, Option, ⊤}
use Rattle.string_tables.specs.StaticStrings.{Entry, IsStaticMap}
use Rattle.string_tables.specs.StringTable.{StringTable}
use Rattle.nbfx_values.specs.{declared.content.Item.Item, Documents.IsDocument}
use Rattle.nbfx_values.specs.declared.session.{Kind.Kind, Mode.Mode, Mode.TheVariants.Singleton}
use Rattle.nbfx_values.specs.Limits.{IsGood, Limits}
use Rattle.nmf_records.specs.{declared.frame.Frame.TheVariants.End, Writing.frame_bytes_of}
use Rattle.nbfx_encoder.specs.{Envelopes.envelopes_from, Placing.Placed, ReadBack.AdmitsAsMuch}
use Rattle.stream_reader.specs.Sessions.{Carried, CarriesAll, conversation, IsPreamble, IsSession}
use Rattle.stream_reader.specs.Stream.{initiators, Settings}

-- each is a document
abbrev pub AreDocuments : List (List Item) → Type 0
AreDocuments [] = ⊤
AreDocuments (document ∷ documents) = IsDocument document × AreDocuments documents

-- the table of a direction before its first payload
abbrev pub first_table : List Entry → StringTable
first_table statics = record { statics = statics; strings = [] }

-- the strings of a direction behind these payloads
abbrev pub strings_after : List (List ℕ) → List Carried → List (List ℕ)
strings_after strings [] = strings
strings_after strings (one ∷ carried) = strings_after (strings ++ one.own) carried

-- the bytes are an envelope for each of the documents, and leave these strings
pub record CarryDocuments (x : Settings) (mode : Mode) (kind : Kind) (strings : List (List ℕ))
    (documents : List (List Item)) (bytes : List ℕ) (behind : List (List ℕ)) : Type 0 where
  pub carried : List Carried
  pub documents_are : map (λ (one : Carried). one.items) carried ≡ documents
  pub behind_is : strings_after strings carried ≡ behind
  pub carries : CarriesAll x mode kind strings carried bytes

-- documents that fit a sender, and what it writes of them
pub record AreSent (statics : List Entry) (writer : Limits) (mode : Mode) (kind : Kind)
    (documents : List (List Item)) (sent : Placed (List ℕ)) : Type 0 where
  pub good : IsGood writer
  pub static_map : IsStaticMap statics
  pub documents_are : AreDocuments documents
  pub all_fit : envelopes_from writer kind mode (first_table statics) 0 documents ≡ Ok sent

-- What is written of documents that fit is an envelope for each of them, for any reader with the
-- same static strings that admits as much, and leaves that reader the sender's strings.
abbrev pub SentAreCarried : Type 0
SentAreCarried = (x : Settings) (writer : Limits) (mode : Mode) (kind : Kind)
    (documents : List (List Item)) (sent : Placed (List ℕ))
    → IsGood x.limits → AdmitsAsMuch x.limits writer
    → AreSent x.statics writer mode kind documents sent
    → CarryDocuments x mode kind [] documents sent.0 sent.1.strings

-- in singleton mode there is one document
abbrev pub MayBeSent : Mode → List (List Item) → Type 0
MayBeSent Singleton documents = length documents ≡ 1
MayBeSent mode documents = ⊤

-- a preamble, envelopes, and an End record
abbrev pub session_bytes : List ℕ → List ℕ → List ℕ
session_bytes preamble envelopes = preamble ++ (envelopes ++ frame_bytes_of End [])

-- Behind a preamble that the reader takes, and before an End record, they are a session of just
-- these documents, where it is within the reader's session quota.
abbrev pub SentAreSessions : Type 0
SentAreSessions = (x : Settings) (endpoint : Option (List ℕ)) (writer : Limits) (mode : Mode)
    (kind : Kind) (via preamble : List ℕ) (documents : List (List Item)) (sent : Placed (List ℕ))
    → IsGood x.limits → AdmitsAsMuch x.limits writer → x.side ≡ initiators endpoint
    → IsPreamble x mode kind via preamble → MayBeSent mode documents
    → AreSent x.statics writer mode kind documents sent
    → length (session_bytes preamble sent.0) ≤ x.limits.session
    → (carried : List Carried) × (map (λ (one : Carried). one.items) carried ≡ documents)
    × IsSession x (conversation mode kind via carried) (session_bytes preamble sent.0)
