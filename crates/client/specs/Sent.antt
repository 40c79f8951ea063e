-- What a client sends: an opening, an envelope for each document, and an End record (MC-NMF). What
-- became of a sink that it was put to, however the writing ended.
use Rattle.std.specs.Prelude.{◌≡◌, ℕ, List, [], ◌∷◌, ◌++◌, length, take, Ok, Err}
use Rattle.std.specs.Prelude.{Result}
use Rattle.nbfx_values.specs.{declared.limits.Two.Two, Limits.Limits, QuotasOf.limits_of}
use Rattle.io_edges.specs.{Faults.CountsFaults, Flow.GrowsByPrefix, Flow.Told}
use Rattle.string_tables.specs.{StaticStrings.Entry, StringTable.StringTable}
use Rattle.nbfx_values.specs.declared.{content.Item.Item, session.Mode.Mode}
use Rattle.nbfx_values.specs.declared.session.{Encoding.Encoding, Kind.Kind}
use Rattle.nbfx_values.specs.Session.{encoding_kind}
use Rattle.nmf_records.specs.{declared.frame.Frame.TheVariants.End, Writing.frame_bytes_of}
use Rattle.nbfx_encoder.specs.{declared.faults.EncodeFault.EncodeFault, Refusals.told}
use Rattle.nbfx_encoder.specs.Envelopes.{envelope, envelopes_from, UnfitAt}
use Rattle.nbfx_encoder.specs.{Placing.Placed, Spelling.encoded, Spelling.Unfit}
use Rattle.stream_loop.specs.declared.outbound.Outbound.{Outbound}
use Rattle.{initiator_machine.specs.Opening.opening_bytes, session_ends.specs.Sent.first_table}
use Rattle.client.specs.declared.outcome.ClientOut.{ClientOut, TheVariants.Done, TheVariants.Memory}
use Rattle.client.specs.declared.settings.CallSettings.{CallSettings}
use Rattle.io_edges.specs.Views.{HoldsNothing, SinkView}
use Rattle.io_edges.specs.Puts.{Puts}
use Rattle.client.specs.declared.outcome.ClientOut.TheVariants.{Unfit as UnfitDocument, WriteFault}
use Rattle.stream_loop.specs.declared.outbound.Outbound.TheVariants as outbounds

-- documents, and how they are sent: within which quotas they are written and answers are read, with
-- which static strings, in which mode and encoding
pub record Sending : Type 0 where
  pub forward : Limits
  pub back : Limits
  pub statics : List Entry
  pub mode : Mode
  pub encoding : Encoding
  pub documents : List (List Item)

abbrev pub sending : (forward back : Limits) → List Entry → Mode → Encoding → List (List Item)
    → Sending
sending forward back statics mode encoding documents = record {
  forward = forward;
  back = back;
  statics = statics;
  mode = mode;
  encoding = encoding;
  documents = documents;
}

-- the encoding of the envelopes
abbrev pub kind_of : Sending → Kind
kind_of x = encoding_kind x.encoding

-- and by settings
abbrev pub kind_by : CallSettings → Kind
kind_by s = encoding_kind s.encoding

-- the bytes of envelopes, where all documents fit
abbrev pub bytes_of : Result (Placed (List ℕ)) UnfitAt → List ℕ
bytes_of (Ok sent) = sent.0
bytes_of (Err unfit) = []

-- the bytes of an envelope, where its document fits
abbrev pub due_of : Mode → Result (Placed (List ℕ)) Unfit → List ℕ
due_of mode (Ok payload) = envelope mode payload.0
due_of mode (Err why) = []

-- documents that are sent within the quotas of both directions
abbrev pub sending_within : Two → List Entry → Mode → Encoding → List (List Item) → Sending
sending_within quotas statics mode encoding documents =
    sending (limits_of quotas.forward) (limits_of quotas.back) statics mode encoding documents

-- documents that are sent by these settings
abbrev pub sending_by : CallSettings → List (List Item) → Sending
sending_by s documents = sending_within s.quotas s.statics.now s.mode s.encoding documents

module _ (x : Sending) where
  -- the envelopes of documents, one behind the other; or the first that doesn't fit, and why
  abbrev pub envelopes : List (List Item) → Result (Placed (List ℕ)) UnfitAt
  envelopes documents =
      envelopes_from x.forward (kind_of x) x.mode (first_table x.statics) 0 documents

  -- where all documents fit, their envelopes and End; else the envelopes before the first unfit one
  abbrev pub sent_of : Result (Placed (List ℕ)) UnfitAt → List ℕ
  sent_of (Ok sent) = sent.0 ++ frame_bytes_of End []
  sent_of (Err unfit) = bytes_of (envelopes (take unfit.number x.documents))

  -- what is sent behind the opening
  abbrev pub sent_behind : List ℕ
  sent_behind = sent_of (envelopes x.documents)

  -- what is sent in all, to this Via
  abbrev pub sent_by : (via : List ℕ) → List ℕ
  sent_by via = opening_bytes x.mode x.encoding via ++ sent_behind

  -- what is due next under a table: an envelope where the document fits, and at last End
  abbrev pub due_next : StringTable → List (List Item) → List ℕ
  due_next table [] = frame_bytes_of End []
  due_next table (document ∷ rest) = due_of x.mode (encoded x.forward (kind_of x) table document)

  -- Of what was put to a sink that was like the first: these bytes, and then envelopes.
  module _ (before : List ℕ) (first : SinkView) where
    -- the envelopes of these documents were put, and leave the table
    pub record HasSent (done : List (List Item)) (table : StringTable)
        (now : SinkView) : Type 0 where
      pub bytes : List ℕ
      pub spelled : envelopes done ≡ Ok (bytes, table)
      pub puts : Puts first now (before ++ bytes) (Ok tt)

    -- all that is due was put, and is written
    pub record HasSentAll (sent : ℕ) (now : SinkView) : Type 0 where
      pub bytes : List ℕ
      pub table : StringTable
      pub spelled : envelopes x.documents ≡ Ok (bytes, table)
      pub counted : sent ≡ length x.documents
      pub puts : Puts first now (before ++ (bytes ++ frame_bytes_of End [])) (Ok tt)
      pub emptied : now.held ≡ []

    -- the envelopes before a document that doesn't fit were put, and are written
    pub record HasSentFitting (number : ℕ) (fault : EncodeFault) (sent : ℕ)
        (now : SinkView) : Type 0
      where
        pub done : List (List Item)
        pub document : List Item
        pub rest : List (List Item)
        pub joined : x.documents ≡ done ++ document ∷ rest
        pub counted : sent ≡ length done
        pub number_is : number ≡ length done
        pub table : StringTable
        pub why : Unfit
        pub unfit : encoded x.forward (kind_of x) table document ≡ Err why
        pub fault_is : fault ≡ told why
        pub puts : HasSent done table now
        pub emptied : now.held ≡ []

    -- The writing ended so at what was due behind the envelopes of the first documents, as many
    -- as were sent. First bytes are written of what was put before, of these envelopes and of
    -- what was due next. Where the sink holds nothing back, these envelopes are written whole.
    pub record HasBroken (outbound : Outbound) (sent : ℕ) (now : SinkView) : Type 0 where
      pub done : List (List Item)
      pub rest : List (List Item)
      pub joined : x.documents ≡ done ++ rest
      pub counted : sent ≡ length done
      pub bytes : List ℕ
      pub table : StringTable
      pub spelled : envelopes done ≡ Ok (bytes, table)
      pub grown : Told first.written now.written (λ w w'. GrowsByPrefix w w'
          (first.held ++ (before ++ (bytes ++ due_next table rest))))
      pub whole : HoldsNothing first → Told first.written now.written (λ w w'.
          GrowsByPrefix (w ++ first.held ++ (before ++ bytes)) w' (due_next table rest))
      pub emptied : now.held ≡ []
      pub faults_counted : CountsFaults first.faults now.faults (outbound ≡ outbounds.WriteFault)

    -- what was put of the documents, by how the writing ended, and how many envelopes that is
    abbrev pub SendsAll : ClientOut → (sent : ℕ) → SinkView → Type 0
    SendsAll Done sent now = HasSentAll sent now
    SendsAll (UnfitDocument number fault) sent now = HasSentFitting number fault sent now
    SendsAll WriteFault sent now = HasBroken outbounds.WriteFault sent now
    SendsAll Memory sent now = HasBroken outbounds.Memory sent now
