-- What follows from what a reader stands for.
use Rattle.std.proofs.Common.{◌≡◌, ℕ, ◌≤◌, Bool, true, ◌⊎◌, List, [], length, if◌then◌else◌, Some}
use Rattle.std.proofs.Common.{None, Ok, Option, sym, refl, ap, ◌∙◌, subst, inl, inr, arith}
use Rattle.unit_streams.proofs.Standing.{standing_nothing}
use Rattle.unit_streams.specs.Grammar.{at_start, standing}
use Rattle.unit_streams.specs.Judging.{ending_at, event_at, is_over_at}
use Rattle.{string_tables.specs.SessionStrings.used_cost, nbfx_decoder.proofs.StandsFacts.stands_as}
use Rattle.nbfx_values.specs.declared.{limits.Quotas.Quotas, session.Mode.Mode}
use Rattle.nbfx_values.specs.{declared.refusals.Reason.TheVariants.Truncated, QuotasOf.limits_of}
use Rattle.nmf_records.specs.declared.{reader.FrameReader.FrameReader}
use Rattle.nmf_records.specs.Reader.{ShowsText as FramesShowText}
use Rattle.nmf_records.specs.RecordFronts.{via_or_fault}
use Rattle.nbfx_decoder.proofs.{Readable.readable as payload_readable, Sound.keeps_within}
use Rattle.nbfx_decoder.specs.declared.{decoder.Decoder.Decoder, faults.DecodeFault.DecodeFault}
use Rattle.nbfx_decoder.specs.DecoderState.{begun_of, FailedBehind as DecoderFailedBehind}
use Rattle.nbfx_decoder.specs.DecoderState.{settings_of as decoder_settings, situation_of}
use Rattle.nbfx_decoder.specs.DecoderState.{StandsFor as DecoderStandsFor}
use Rattle.nbfx_decoder.specs.DecoderState.{WhereItFailed as WhereDecoderFailed}
use Rattle.nbfx_decoder.specs.DecoderState.{WhereItStands as WhereDecoderStands}
use Rattle.nbfx_decoder.specs.Payload.{payload, Settings as PayloadSettings}
use Rattle.stream_reader.specs.declared.awaited.{Closing.Closing}
use Rattle.stream_reader.specs.declared.reader.{ReadRefusal.ReadRefusal, StreamReader.StreamReader}
use Rattle.stream_reader.specs.{declared.side.Side.Side as SideRead, Saying.Repeats, Sides.side_of}
use Rattle.stream_reader.specs.Stepping.{closing_step, has_ended, KeepsShown, may_end_at, opened_at}
use Rattle.stream_reader.specs.Stream.{accepted, chunk_due, cut_off, direction_of, ended}
use Rattle.stream_reader.specs.Stream.{is_over_in, may_end_in, message, offence_at, open_from}
use Rattle.stream_reader.specs.Stream.{opened, OpenPayload, payload_open, payloads, PayloadStanding}
use Rattle.stream_reader.specs.Stream.{peer_fault, record_due, Settings, Situation, Stage, stream}
use Rattle.stream_reader.specs.Stream.{StreamEvent, strings_at, strings_in}
use Rattle.stream_reader.specs.StreamReaderState.{awaited_at, begun_in, Failed, FailedBehind}
use Rattle.stream_reader.specs.StreamReaderState.{failure_of, HasPart, IsIn, items_in, messages_of}
use Rattle.stream_reader.specs.StreamReaderState.{Reached, ReadsPayload, Recalls, settings_of}
use Rattle.stream_reader.specs.StreamReaderState.{ShowsStrings, ShowsTable, ShowsText, taken_of}
use Rattle.stream_reader.proofs.{Grammar.readable, Situations.event_tells}
use Rattle.nmf_records.specs.declared.script.Due.TheVariants as dues
use Rattle.stream_reader.specs.declared.awaited.Closing.TheVariants as closings

-- a refused one stands for nothing
pub not_failed : (r : StreamReader) (x : Settings) (p : List ℕ) (refusal : ReadRefusal)
    → Reached r x p → r.failure ≡ Some refusal → ⊥
not_failed r x p refusal h e = let none = h.unfailed in cc

pub failure_as : (r : StreamReader) (v : Option ReadRefusal) → failure_of r ≡ v → r.failure ≡ v
unfolding failure_of
failure_as r v e = e

-- before the first byte
pub stands_first : (x : Settings) → standing (stream x) [] ≡ at_start (stream x) []
stands_first x = standing_nothing (stream x) (readable x)

-- it has ended where the session is over
ended_as : (stage : Stage) → has_ended (awaited_at stage) ≡ is_over_in stage
ended_as (record_due due) = refl
ended_as (chunk_due p) = refl
ended_as (payload_open p) = refl

opened_as : (stage : Stage) (from : ℕ) → opened_at (awaited_at stage) from ≡ open_from stage from
opened_as (record_due due) from = refl
opened_as (chunk_due p) from = refl
opened_as (payload_open p) from = refl

-- and the input may end there alike
may_end_as : (x : Settings) (mode : Mode) (stage : Stage) (from n : ℕ)
    → may_end_in x mode stage from n
    ≡ may_end_at (direction_of x.side) mode (awaited_at stage) from n
may_end_as x mode (record_due dues.Over) from n = refl
may_end_as x mode (record_due _) from n = refl
may_end_as x mode (chunk_due p) from n = refl
may_end_as x mode (payload_open p) from n = refl

module _ (r : StreamReader) (x : Settings) (p : List ℕ) (h : Reached r x p) where
  pub over_as_ended : is_over_at (stream x) p ≡ has_ended r.awaited
  unfolding is_over_at
  over_as_ended =
      sym (ap has_ended h.at.awaits ∙ ended_as (standing (stream x) p).situation.stage)

  -- the first byte of what isn't whole
  pub open_as_opened : open_from (standing (stream x) p).situation.stage
      (standing (stream x) p).from ≡ opened_at r.awaited r.unit_from
  open_as_opened =
      sym (ap (λ a. opened_at a (standing (stream x) p).from) h.at.awaits
      ∙ opened_as (standing (stream x) p).situation.stage (standing (stream x) p).from)
      ∙ ap (opened_at r.awaited) (sym h.unit_from)

  may_end_so : may_end_in x (standing (stream x) p).situation.mode
      (standing (stream x) p).situation.stage (standing (stream x) p).from (length p)
      ≡ may_end_at (direction_of x.side) r.mode r.awaited r.unit_from r.taken
  may_end_so =
      may_end_as x (standing (stream x) p).situation.mode (standing (stream x) p).situation.stage
      (standing (stream x) p).from (length p)
      ∙ ap (λ a. may_end_at (direction_of x.side) (standing (stream x) p).situation.mode a
      (standing (stream x) p).from (length p)) (sym h.at.awaits)
      ∙ ap (λ m. may_end_at (direction_of x.side) m r.awaited (standing (stream x) p).from
      (length p))
      (sym h.at.mode)
      ∙ ap (λ n. may_end_at (direction_of x.side) r.mode r.awaited n (length p)) (sym h.unit_from)
      ∙ ap (may_end_at (direction_of x.side) r.mode r.awaited r.unit_from) (sym h.taken)

  -- what the end of the input says of the bytes used
  pub ending_is : (b : Bool)
      → may_end_at (direction_of x.side) r.mode r.awaited r.unit_from r.taken ≡ b
      → ending_at (stream x) p ≡ (if b then None
      else Some (offence_at (opened_at r.awaited r.unit_from) Truncated))
  unfolding ending_at cut_off
  ending_is b e =
      ap (λ c. if c then None else Some (offence_at
      (open_from (standing (stream x) p).situation.stage (standing (stream x) p).from) Truncated))
      (may_end_so ∙ e)
      ∙ ap (λ from. if b then None else Some (offence_at from Truncated)) open_as_opened

  -- the event that ended it is the one that it recalls
  recalled : (closing : Closing) (v : Option StreamEvent) → event_at (stream x) p ≡ v
      → Recalls closing v → Repeats v (Ok (0, closing_step closing (length p)))
  recalled closings.End (Some (ended n)) e is =
      ap (λ m. Ok (0, closing_step closings.End m)) (sym (event_tells x p (ended n) e))
  recalled closings.Fault (Some (peer_fault n text)) e is =
      ap (λ m. Ok (0, closing_step closings.Fault m))
      (sym (event_tells x p (peer_fault n text) e).0)
  recalled closings.End None e is = absurd is
  recalled closings.End (Some (opened mode kind via)) e is = absurd is
  recalled closings.End (Some accepted) e is = absurd is
  recalled closings.End (Some (message envelope)) e is = absurd is
  recalled closings.End (Some (peer_fault n text)) e is = absurd is
  recalled closings.Fault None e is = absurd is
  recalled closings.Fault (Some (opened mode kind via)) e is = absurd is
  recalled closings.Fault (Some accepted) e is = absurd is
  recalled closings.Fault (Some (message envelope)) e is = absurd is
  recalled closings.Fault (Some (ended n)) e is = absurd is

  pub repeats_end : is_over_at (stream x) p ≡ true
      → Repeats (event_at (stream x) p) (Ok (0, closing_step r.closing r.taken))
  repeats_end over =
      subst (λ (n : ℕ). Repeats (event_at (stream x) p) (Ok (0, closing_step r.closing n)))
      (sym h.taken)
      (recalled r.closing (event_at (stream x) p) refl (h.closing over))

-- the strings behind bytes of a payload cost no more than they may, where those before it don't
pub cost_within : (x : PayloadSettings) (strings : List (List ℕ)) (bytes : List ℕ)
    → used_cost strings ≤ x.limits.dictionary → used_cost (situation_of x strings bytes).strings
    ≤ x.limits.dictionary
cost_within x strings bytes low = let keeps = (keeps_within x strings (payload_readable x strings)
    bytes).dictionary in omega (arith, keeps, low)

-- the payload bytes that a decoder stands for are those of the situation
pub record HasCome (d : Decoder) (z : Situation) : Type 0 where
  pub before : List (List ℕ)
  pub bytes : List ℕ
  pub stands_for : DecoderStandsFor d before bytes
  pub begun : begun_of (decoder_settings d) before bytes ≡ begun_in z.stage
  pub items : (situation_of (decoder_settings d) before bytes).items ≡ items_in z.stage
  pub strings : (situation_of (decoder_settings d) before bytes).strings ≡ strings_in z

has_part : (d : Decoder) (x : Settings) (z : Situation) (p : OpenPayload)
    → decoder_settings d ≡ payloads x z.kind → HasPart d x z p
    → p.standing.begun ≡ begun_in z.stage → p.standing.situation.items ≡ items_in z.stage
    → p.standing.situation.strings ≡ strings_in z → HasCome d z
has_part d x z p decodes h begun_is items_are strings_are =
    let there : standing (payload (decoder_settings d) z.strings) h.bytes ≡ p.standing =
    ap (λ (s : PayloadSettings). standing (payload s z.strings) h.bytes) decodes
    ∙ sym h.standing_is in
    record {
      before = z.strings;
      bytes = h.bytes;
      stands_for = h.stands_for;
      begun = ap (λ (s : PayloadStanding). s.begun) there ∙ begun_is;
      items = ap (λ (s : PayloadStanding). s.situation.items) there ∙ items_are;
      strings = ap (λ (s : PayloadStanding). s.situation.strings) there ∙ strings_are;
    }

has_come : (d : Decoder) (x : Settings) (z : Situation) (stage : Stage) → z.stage ≡ stage
    → decoder_settings d ≡ payloads x z.kind → ReadsPayload d x z stage → HasCome d z
has_come d x z (record_due due) is decodes h =
    let first = standing_nothing (payload (decoder_settings d) z.strings)
    (payload_readable (decoder_settings d) z.strings) in
    record {
      before = z.strings;
      bytes = [];
      stands_for = h;
      begun = ap (λ (s : PayloadStanding). s.begun) first ∙ sym (ap begun_in is);
      items = ap (λ (s : PayloadStanding). s.situation.items) first ∙ sym (ap items_in is);
      strings = ap (λ (s : PayloadStanding). s.situation.strings) first ∙ sym
          (ap (strings_at z) is);
    }
has_come d x z (chunk_due p) is decodes h =
    has_part d x z p decodes h.1 (sym (ap begun_in is)) (sym (ap items_in is))
    (sym (ap (strings_at z) is))
has_come d x z (payload_open p) is decodes h =
    has_part d x z p decodes h.1 (sym (ap begun_in is)) (sym (ap items_in is))
    (sym (ap (strings_at z) is))

pub comes_in : (r : StreamReader) (x : Settings) (z : Situation) → IsIn r x z → HasCome r.decoder z
comes_in r x z h = has_come r.decoder x z z.stage refl h.decodes h.payload

-- what it shows of them
pub shows_come : (d : Decoder) (z : Situation) → HasCome d z → ShowsTable d (strings_in z)
shows_come d z h = record {
  before = h.before;
  bytes = h.bytes;
  there = inl h.stands_for;
  same = h.strings;
  within =
      subst (λ (strings : List (List ℕ)). used_cost strings
      ≤ (decoder_settings d).limits.dictionary) h.strings
      (cost_within (decoder_settings d) h.before h.bytes
      (stands_as d h.before h.bytes h.stands_for).before);
}

pub shows_in : (r : StreamReader) (x : Settings) (z : Situation) → IsIn r x z → ShowsTable r.decoder
    (strings_in z)
shows_in r x z h = shows_come r.decoder z (comes_in r x z h)

-- a decoder that stands for what another does
module _ (old new : Decoder) (same : decoder_settings new ≡ decoder_settings old)
    (stands : WhereDecoderStands old (DecoderStandsFor new))
    (failed : WhereDecoderFailed old (DecoderFailedBehind new)) where
  part_too : (x : Settings) (z : Situation) (p : OpenPayload) → HasPart old x z p → HasPart new x z
      p
  part_too x z p h = record {
    bytes = h.bytes;
    stands_for = stands z.strings h.bytes h.stands_for;
    standing_is = h.standing_is;
    counted = h.counted;
    within = h.within;
  }

  pub reads_too : (x : Settings) (z : Situation) (stage : Stage) → ReadsPayload old x z stage
      → ReadsPayload new x z stage
  reads_too x z (record_due due) h = stands z.strings [] h
  reads_too x z (chunk_due p) h = (h.0, part_too x z p h.1)
  reads_too x z (payload_open p) h = (h.0, part_too x z p h.1)

  pub shows_too : (strings : List (List ℕ)) → ShowsTable old strings → ShowsTable new strings
  shows_too strings h = record {
    before = h.before;
    bytes = h.bytes;
    there = there h.there;
    same = ap (λ (s : PayloadSettings). (situation_of s h.before h.bytes).strings) same ∙ h.same;
    within = subst (λ (s : PayloadSettings). used_cost strings ≤ s.limits.dictionary) (sym same)
        h.within;
  } where
    there : DecoderStandsFor old h.before h.bytes
        ⊎ ((fault : DecodeFault) × DecoderFailedBehind old fault h.before h.bytes)
        → DecoderStandsFor new h.before h.bytes
        ⊎ ((fault : DecodeFault) × DecoderFailedBehind new fault h.before h.bytes)
    there (inl s) = inl (stands h.before h.bytes s)
    there (inr f) = inr (f.0, failed f.0 h.before h.bytes f.1)

-- what it is set to stays
pub same_settings : (old new : StreamReader) → new.side ≡ old.side → new.statics ≡ old.statics
    → new.quotas ≡ old.quotas → settings_of new ≡ settings_of old
unfolding settings_of
same_settings old new side statics quotas =
    ap (λ (s : SideRead). record {
      side = side_of s;
      statics = new.statics.now;
      limits = limits_of
          new.quotas;
    })
    side
    ∙ ap (λ s. record { side = side_of old.side; statics = s.now; limits = limits_of new.quotas })
    statics
    ∙ ap (λ (q : Quotas). record {
      side = side_of old.side;
      statics = old.statics.now;
      limits = limits_of q;
    }) quotas

-- a refused reader shows what it stood for
pub refused_shows : (old new : StreamReader) (x : Settings) (p : List ℕ) (refusal : ReadRefusal)
    (taken : ℕ) → Reached old x p → new.failure ≡ Some refusal → new.taken ≡ taken
    → KeepsShown old new
    → Failed new x refusal taken p
unfolding failure_of taken_of messages_of ShowsText ShowsStrings
refused_shows old new x p refusal taken h failure taken_is kept = record {
  failure = failure;
  taken_is = taken_is;
  text = subst (λ (f : FrameReader). FramesShowText via_or_fault f (standing
      (stream x) p).situation.text)
      (sym kept.frames) h.text;
  messages = kept.messages ∙ h.at.messages;
  strings = subst (λ (d : Decoder). ShowsTable d (strings_in (standing (stream x) p).situation))
      (sym kept.decoder) (shows_in old x (standing (stream x) p).situation h.at);
}

-- by what it is set to
pub failed_as_set : (r : StreamReader) (x : Settings) (refusal : ReadRefusal) (taken : ℕ)
    (p : List ℕ) → settings_of r ≡ x → Failed r x refusal taken p → FailedBehind r refusal taken p
unfolding FailedBehind
failed_as_set r x refusal taken p set h = subst (λ (s : Settings). Failed r s refusal taken p)
    (sym set) h
