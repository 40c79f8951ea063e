-- What a writer of documents has made of them, and put to a sink.
use Rattle.std.specs.Prelude.{◌≡◌, ℕ, Bool, true, false, List, [], ◌∷◌, ◌++◌, length, map, take, Some, None}
use Rattle.std.specs.Prelude.{Ok, Err, Option, ⊤, IfSome}
use Rattle.string_tables.specs.StringTable.{StringTable}
use Rattle.nbfx_values.specs.{declared.content.Item.Item, QuotasOf.limits_of}
use Rattle.client.specs.Sent.{kind_by}
use Rattle.nbfx_encoder.specs.declared.{faults.EncodeFault.EncodeFault}
use Rattle.nbfx_encoder.specs.{Envelopes.envelope, Placing.Placed, Refusals.told}
use Rattle.nbfx_encoder.specs.Spelling.{encoded, Unfit}
use Rattle.nbfx_encoder.specs.Sending.{names_in, state_in}
use Rattle.session_ends.specs.Sent.{first_table}
use Rattle.stream_loop.specs.declared.{outbound.Outbound.Outbound}
use Rattle.stream_loop.specs.declared.outbound.Outbound.TheVariants.{Done, Memory, WriteFault}
use Rattle.stream_loop.specs.{Parts.Part, Parts.part}
use Rattle.stream_loop.specs.PartsGiven.{IsFresh, MayWait, WasGiven}
use Rattle.io_edges.specs.{Puts.Puts, Views.SinkView}
use Rattle.two_lanes.specs.declared.jobs.{Lane.TheVariants.A, LaneJob.LaneJob}
use Rattle.two_lanes.specs.Merges.{elements_of, Step, steps, tags_of}
use Rattle.client.specs.declared.{lane_writer.LaneWriter.LaneWriter, outcome.ClientOut.ClientOut}
use Rattle.client.specs.declared.owned.OwnedWriter.{OwnedWriter}
use Rattle.client.specs.declared.settings.CallSettings.{CallSettings}
use Rattle.client.specs.{Sent.sending_by, Making.AreFew, Making.IsSet, Making.moment_behind}
use Rattle.client.specs.Sent.{SendsAll}
use Rattle.client.specs.declared.outcome.ClientOut.TheVariants as out

-- the envelope of a payload, which counts once it was put whole
abbrev pub envelope_part : CallSettings → List ℕ → Part
envelope_part s payload = part (envelope s.mode payload) true

-- These parts are the envelopes of documents. The first is made under the first table, and the last
-- leaves the other one.
abbrev pub AreEnvelopes : CallSettings → StringTable → List (List Item) → List Part → StringTable
    → Type 0
AreEnvelopes s table [] parts behind = (parts ≡ []) × (behind ≡ table)
AreEnvelopes s table (document ∷ documents) parts behind = (payload : Placed (List ℕ))
    × (encoded (limits_of s.quotas.forward) (kind_by s) table document ≡ Ok payload)
    × (more : List Part) × (parts ≡ envelope_part s payload.0 ∷ more)
    × AreEnvelopes s payload.1 documents more behind

-- parts without bytes, which don't count
abbrev pub AreEmpty : List Part → Type 0
AreEmpty [] = ⊤
AreEmpty (one ∷ parts) = (one.bytes ≡ []) × (one.counts ≡ false) × AreEmpty parts

-- the next document is one that doesn't fit under the table, for this reason
abbrev pub IsUnfitNext : CallSettings → StringTable → List (List Item) → EncodeFault → Type 0
IsUnfitNext s table [] fault = ⊥
IsUnfitNext s table (document ∷ documents) fault =
    (why : Unfit) × (encoded (limits_of s.quotas.forward) (kind_by s) table document ≡ Err why)
    × (fault ≡ told why)

-- how the writing ended, by a writer
abbrev pub outbound_for : Outbound → Option EncodeFault → ℕ → ClientOut
outbound_for Done None sent = out.Done
outbound_for Done (Some fault) sent = out.Unfit sent fault
outbound_for WriteFault unfit sent = out.WriteFault
outbound_for Memory unfit sent = out.Memory

-- documents, each with the letter of its list
abbrev pub Tagged : Type 0
Tagged = List (Step (List Item))

abbrev pub writer_out : LaneWriter → ClientOut
writer_out w = outbound_for w.parts.outbound w.unfit (length w.tags.items)

-- a writer that was asked for nothing
pub record IsUnwritten (w : LaneWriter) : Type 0 where
  pub set : IsSet w.settings w.sender
  pub ready : state_in w.sender ≡ moment_behind w.settings.mode []
  pub names : names_in w.sender ≡ first_table w.settings.statics.now
  pub fits : w.unfit ≡ None
  pub untagged : w.tags.items ≡ []
  pub fresh : IsFresh w.parts

-- what a call leaves of what a writer is set to
pub record IsSetAs (old new : LaneWriter) : Type 0 where
  pub settings : new.settings ≡ old.settings
  pub set : IsSet old.settings old.sender → IsSet new.settings new.sender

-- These documents were asked for since the sink was like the first, and it is like this now. The
-- envelopes of the first of them were made and given; while the writing goes on and each fits, of
-- all.
pub record IsWritingSome (first : SinkView) (all : Tagged) (w : LaneWriter) (now : SinkView)
    : Type 0 where
  pub made : Tagged
  pub rest : Tagged
  pub joined : all ≡ made ++ rest
  pub parts : List Part
  pub table : StringTable
  pub envelopes : AreEnvelopes w.settings (first_table w.settings.statics.now)
      (elements_of made) parts table
  pub tags_are : w.tags.items ≡ tags_of made
  pub others : List Part
  pub empty : AreEmpty others
  pub given : WasGiven first (parts ++ others) w.parts now
  pub clear : w.parts.outbound ≡ Done → others ≡ []
  pub whole : w.parts.outbound ≡ Done → w.unfit ≡ None → rest ≡ []
  pub names : w.parts.outbound ≡ Done → w.unfit ≡ None → names_in w.sender ≡ table
  pub ready : w.parts.outbound ≡ Done → w.unfit ≡ None
      → state_in w.sender ≡ moment_behind w.settings.mode (elements_of made)
  pub unfit : IfSome w.unfit (IsUnfitNext w.settings table (elements_of rest))

-- where these are documents of one session
abbrev pub IsWriting : (first : SinkView) → Tagged → LaneWriter → (now : SinkView) → Type 0
IsWriting first all w now = IsSet w.settings w.sender
    × (AreFew w.settings.mode (elements_of all) → IsWritingSome first all w now)

-- The same when no more comes: by how the writing ended, what was put of the documents behind other
-- bytes, and the letters of the envelopes that were put whole.
pub record HasEnded (s : CallSettings) (first : SinkView) (all : Tagged) (w : LaneWriter)
    (now : SinkView) : Type 0 where
  pub sends : AreFew s.mode (elements_of all) → (start : SinkView) (before : List ℕ)
      → Puts start first before (Ok tt) → first.held ≡ []
      → SendsAll (sending_by s (elements_of all)) before start (writer_out w)
      (length w.tags.items) now
  pub tagged : AreFew s.mode (elements_of all)
      → w.tags.items ≡ take (length w.tags.items) (tags_of all)

-- the documents of a list
abbrev pub of_list : List (List Item) → Tagged
of_list documents = map (λ (d : List Item). (A, d)) documents

-- ---- of two lists

-- the documents of two lists that jobs name
abbrev pub named_by : {K : Type 0} → OwnedWriter K → List LaneJob → Tagged
named_by w jobs = steps w.a.now w.b.now jobs

-- What was asked for is written, but for a document that doesn't fit and what comes behind it; where
-- the writing has failed, the sink's direction is ended.
abbrev pub NothingWaits : {K : Type 0} → (K → SinkView) → (K → Bool) → OwnedWriter K → Type 0
NothingWaits view ended w = MayWait w.writer.parts.outbound w.writer.parts.gathered.items
    (view w.sink) (ended w.sink)

module _ {K : Type 0} (view : K → SinkView) where
  -- what a writer that was like the first has done for jobs
  pub record HasDone (first : OwnedWriter K) (jobs : List LaneJob) (now : OwnedWriter K) : Type 0
    where
      pub settings : now.writer.settings ≡ first.writer.settings
      pub first_is : now.a ≡ first.a
      pub second_is : now.b ≡ first.b
      pub writing : IsWriting (view first.sink) (named_by first jobs) now.writer (view now.sink)

  -- and when no more comes
  abbrev pub HasFinished : (first : OwnedWriter K) → List LaneJob → (now : OwnedWriter K) → Type 0
  HasFinished first jobs now = HasEnded first.writer.settings (view first.sink)
      (named_by first jobs) now.writer (view now.sink)
