-- What stands behind a session of an initiator that has ended.
use Rattle.std.proofs.Common.{◌≡◌, ℕ, Bool, true, false, if◌then◌else◌, List, Some, None, Option}
use Rattle.std.proofs.Common.{refl, inl, inr}
use Rattle.unit_streams.proofs.Pending.{open_going_on, pending_open}
use Rattle.unit_streams.specs.{Judging.ending_at, Judging.is_over_at}
use Rattle.nbfx_values.specs.declared.session.Mode.{Mode}
use Rattle.stream_reader.specs.Stream.{chunk_due, cut_off, is_over_in, may_end_in, payload_open}
use Rattle.stream_reader.specs.Stream.{record_due, Settings, Stage, stream}
use Rattle.stream_loop.specs.{Edges.Input, Followed.Leaves}
use Rattle.duplex_server.specs.{Carrying.GoesBehind, ServerStream.Answering}
use Rattle.duplex_server.specs.ServerStream.{requests_to}
use Rattle.nmf_records.specs.declared.script.Due.TheVariants as dues

module _ (x : Answering) (endpoint : Option (List ℕ)) where
  abbrev y : Settings
  y = requests_to x endpoint

  -- an initiator's stream may end nowhere but behind its End record
  ends_over : (mode : Mode) (stage : Stage) (from n : ℕ) → may_end_in y mode stage from n ≡ true
      → is_over_in stage ≡ true
  ends_over mode (record_due dues.Version) from n is = cc
  ends_over mode (record_due dues.Mode) from n is = cc
  ends_over mode (record_due dues.Via) from n is = cc
  ends_over mode (record_due dues.Encoding) from n is = cc
  ends_over mode (record_due dues.PreambleEnd) from n is = cc
  ends_over mode (record_due dues.Ack) from n is = cc
  ends_over mode (record_due dues.Messages) from n is = cc
  ends_over mode (record_due dues.Envelope) from n is = cc
  ends_over mode (record_due dues.Reply) from n is = cc
  ends_over mode (record_due dues.Chunk) from n is = cc
  ends_over mode (record_due dues.End) from n is = cc
  ends_over mode (record_due dues.Over) from n is = refl
  ends_over mode (chunk_due p) from n is = cc
  ends_over mode (payload_open p) from n is = cc

  uncut_over : (mode : Mode) (stage : Stage) (from n : ℕ) → cut_off y mode stage from n ≡ None
      → is_over_in stage ≡ true
  unfolding cut_off
  uncut_over mode stage from n none =
      ends_over mode stage from n (go (may_end_in y mode stage from n) _ none) where
        go : {A : Type 0} (b : Bool) (a : A) → (if b then None else Some a) ≡ None → b ≡ true
        go true a h = refl
        go false a h = cc

  over_at_end : (read : List ℕ) → ending_at (stream y) read ≡ None
      → is_over_at (stream y) read ≡ true
  unfolding ending_at is_over_at
  over_at_end read none = uncut_over _ _ _ _ none

  pub goes_behind : (i i' : Input) (held : List ℕ) → Leaves (stream y) i i' held
      → GoesBehind x endpoint i i' held
  goes_behind i i' held l = record {
    session = l.read;
    ended = elim l.ended [
      | inl here ↦ here
      | inr cut ↦ absurd (let over = over_at_end l.read cut.1 in
          let on = open_going_on (stream y) l.read (pending_open (stream y) l.read cut.0) in cc)
    ];
    stream = l.stream;
    took = l.took;
  }
