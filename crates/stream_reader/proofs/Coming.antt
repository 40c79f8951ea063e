-- Which units come: at a payload bytes, elsewhere the records that are due.
use Rattle.std.proofs.Common.{◌≡◌, ℕ, ◌≤◌, List, [], ◌∷◌, length, take, sym, refl, ap}
use Rattle.unit_streams.specs.{Front.begun, Front.Front, Front.whole, Front.wrong, Parts.seen}
use Rattle.nmf_records.proofs.{Frames.frames_front, Records.read_record}
use Rattle.nmf_records.specs.declared.{frame.FrameFault.FrameFault, script.Due.Due}
use Rattle.nmf_records.specs.RecordFronts.{frame_at, MayCome, text_limit}
use Rattle.nmf_records.specs.{Records.IsRecord, Records.Read, Script.may_come}
use Rattle.stream_reader.specs.Stream.{chunk_due, direction_of, due_record_at, frame, offence_at}
use Rattle.stream_reader.specs.Stream.{OpenPayload, payload_at, payload_byte, payload_open}
use Rattle.stream_reader.specs.Stream.{reason_of, record_due, Settings, StreamUnit}
use Rattle.stream_reader.specs.Stream.{text_limits, unit_in}
use Rattle.nmf_records.specs.declared.script.Due.TheVariants as dues

-- the record that a unit is
pub record Comes (x : Settings) (due : Due) (bytes : List ℕ) (read : Read) (n : ℕ) : Type 0 where
  pub front : frame_at (text_limits x) (may_come (direction_of x.side) due) bytes ≡ whole read n
  pub bytes_are : IsRecord read (take n bytes)
  pub may : MayCome (may_come (direction_of x.side) due) read.frame
  pub within : n ≤ length bytes
  pub low : length read.text ≤ text_limit (text_limits x) read.frame

module _ (x : Settings) (from : ℕ) (bytes : List ℕ) (u : StreamUnit) (n : ℕ) where
  seen_whole : (due : Due) (v : Front Read FrameFault)
      → seen frame (λ fault. offence_at from (reason_of due fault)) v ≡ whole u n → (read : Read)
      × (v ≡ whole read n) × (u ≡ frame read)
  seen_whole due begun e = cc
  seen_whole due (whole read k) e = let size : k ≡ n = cc in let same : frame read
      ≡ u = cc in (read, ap (whole read) size, sym same)
  seen_whole due (wrong fault k) e = cc

  due_comes : (due : Due) → seen frame (λ fault. offence_at from (reason_of due fault))
      (frame_at (text_limits x) (may_come (direction_of x.side) due) bytes) ≡ whole u n
      → (read : Read) × (u ≡ frame read) × Comes x due bytes read n
  due_comes due e =
      let w = seen_whole due (frame_at (text_limits x) (may_come
      (direction_of x.side) due) bytes) e in
      let r = read_record (text_limits x) (may_come (direction_of x.side) due) bytes w.0 n w.1 in (
        w.0,
        w.2,
        record {
          front = w.1;
          bytes_are = r.0;
          may = r.1;
          within = (frames_front (text_limits x) (may_come (direction_of x.side) due)).whole_within
              bytes w.0 n w.1;
          low = r.2;
        },
      )

  -- where a record is due a record comes
  pub record_comes : (due : Due) → due_record_at x due from bytes ≡ whole u n → (read : Read)
      × (u ≡ frame read) × Comes x due bytes read n
  record_comes dues.Over e = cc
  record_comes due e = due_comes due e

  pub unit_of_record : (due : Due) → unit_in x (record_due due) from bytes ≡ whole u n
      → (read : Read) × (u ≡ frame read) × Comes x due bytes read n
  unfolding unit_in
  unit_of_record due e = record_comes due e

  -- where a chunk's size is, such a size comes
  pub unit_of_chunk : (p : OpenPayload) → unit_in x (chunk_due p) from bytes ≡ whole u n
      → (read : Read) × (u ≡ frame read) × Comes x dues.Chunk bytes read n
  unfolding unit_in
  unit_of_chunk p e = record_comes dues.Chunk e

-- at a payload a byte comes
pub byte_comes : (bytes : List ℕ) (u : StreamUnit) (n : ℕ) → payload_at bytes ≡ whole u n
    → (byte : ℕ) × (rest : List ℕ) × (bytes ≡ byte ∷ rest) × (u ≡ payload_byte byte) × (n ≡ 1)
byte_comes [] u n e = cc
byte_comes (y ∷ rest) u n e = let same : payload_byte y ≡ u = cc in let one : 1
    ≡ n = cc in (y, rest, refl, sym same, sym one)

pub unit_of_payload : (x : Settings) (from : ℕ) (bytes : List ℕ) (u : StreamUnit) (n : ℕ)
    (p : OpenPayload) → unit_in x (payload_open p) from bytes ≡ whole u n
    → (byte : ℕ) × (rest : List ℕ) × (bytes ≡ byte ∷ rest) × (u ≡ payload_byte byte) × (n ≡ 1)
unfolding unit_in
unit_of_payload x from bytes u n p e = byte_comes bytes u n e
