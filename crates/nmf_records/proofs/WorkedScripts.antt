-- Scripts on literals: what may come, where it leads, and streams of each direction and mode.
use Rattle.std.proofs.Common.{◌≡◌, ◌+◌, ◌^◌, ◌<◌, true, false, List, [], ◌∷◌, refl, inl, inr, arith}
use Rattle.std.proofs.lemmas.List.Elements.{All-cons, All-nil}
use Rattle.nbfx_values.specs.declared.session.Mode.TheVariants.{Duplex, Simplex, Singleton}
use Rattle.nmf_records.specs.declared.frame.Frame.{Frame, TheVariants.Version, TheVariants.Via}
use Rattle.nmf_records.specs.declared.frame.Frame.TheVariants.{Chunk, End, ExtensibleEncoding}
use Rattle.nmf_records.specs.declared.frame.Frame.TheVariants.{Fault}
use Rattle.nmf_records.specs.declared.frame.Frame.TheVariants.{KnownEncoding}
use Rattle.nmf_records.specs.declared.frame.Frame.TheVariants.{Mode, PreambleAck, PreambleEnd}
use Rattle.nmf_records.specs.declared.frame.Frame.TheVariants.{SizedEnvelope, UnsizedEnvelope}
use Rattle.nmf_records.specs.declared.script.Direction.TheVariants.{FromInitiator, FromReceiver}
use Rattle.nmf_records.specs.RecordFronts.{comes}
use Rattle.nmf_records.specs.Script.{due_behind, first, IsScript, may_come, may_end}
use Rattle.nmf_records.specs.declared.frame.Expect.TheVariants as expects
use Rattle.nmf_records.specs.declared.script.Due.TheVariants as dues

-- a preamble in each mode
abbrev duplex_preamble : List Frame
duplex_preamble = Version 1 0 ∷ Mode 2 ∷ Via ∷ KnownEncoding 8 ∷ PreambleEnd ∷ []

abbrev singleton_preamble : List Frame
singleton_preamble = Version 1 0 ∷ Mode 1 ∷ Via ∷ KnownEncoding 7 ∷ PreambleEnd ∷ []

-- the encoding by its content type
abbrev spelled_out : List Frame
spelled_out = Version 1 0 ∷ Mode 2 ∷ Via ∷ ExtensibleEncoding ∷ PreambleEnd ∷ []

-- what may come
version_first : may_come FromInitiator (first FromInitiator) ≡ expects.Types (2 ^ 0)
version_first = refl

either_encoding : may_come FromInitiator dues.Encoding ≡ expects.Types (2 ^ 3 + 2 ^ 4)
either_encoding = refl

messages_or_end : may_come FromInitiator dues.Messages ≡ expects.Types (2 ^ 6 + 2 ^ 7)
messages_or_end = refl

ack_or_fault : may_come FromReceiver (first FromReceiver) ≡ expects.Types (2 ^ 8 + 2 ^ 11)
ack_or_fault = refl

reply_end_or_fault : may_come FromReceiver dues.Reply ≡ expects.Types (2 ^ 5 + 2 ^ 7 + 2 ^ 8)
reply_end_or_fault = refl

size_alone : may_come FromReceiver dues.Chunk ≡ expects.Chunk
size_alone = refl

nothing_when_over : may_come FromReceiver dues.Over ≡ expects.Types 0
nothing_when_over = refl

-- and what may not
no_fault_of_an_initiator : comes (may_come FromInitiator dues.Messages) Fault ≡ false
no_fault_of_an_initiator = refl

no_fault_for_a_size : comes (may_come FromReceiver dues.Chunk) Fault ≡ false
no_fault_for_a_size = refl

no_second_encoding : comes
    (may_come FromInitiator (due_behind FromInitiator Duplex dues.Encoding (KnownEncoding 8 ∷ [])))
    ExtensibleEncoding ≡ false
no_second_encoding = refl

no_sized_envelope : comes (may_come FromInitiator dues.Envelope) (SizedEnvelope 3) ≡ false
no_sized_envelope = refl

no_second_envelope : comes
    (may_come FromInitiator (due_behind FromInitiator Singleton dues.Envelope
    (UnsizedEnvelope ∷ Chunk 0 ∷ []))) UnsizedEnvelope ≡ false
no_second_envelope = refl

-- where records lead
behind_a_duplex_preamble : due_behind FromInitiator Duplex dues.Version duplex_preamble
    ≡ dues.Messages
behind_a_duplex_preamble = refl

behind_one_spelled_out : due_behind FromInitiator Duplex dues.Version spelled_out ≡ dues.Messages
behind_one_spelled_out = refl

behind_a_singleton_preamble : due_behind FromInitiator Singleton dues.Version singleton_preamble
    ≡ dues.Envelope
behind_a_singleton_preamble = refl

behind_a_chunk : due_behind FromReceiver Singleton dues.Ack (PreambleAck ∷ UnsizedEnvelope ∷ Chunk 3
    ∷ []) ≡ dues.Chunk
behind_a_chunk = refl

behind_the_last_chunk : due_behind FromReceiver Singleton dues.Ack
    (PreambleAck ∷ UnsizedEnvelope ∷ Chunk 3 ∷ Chunk 0 ∷ []) ≡ dues.End
behind_the_last_chunk = refl

behind_a_fault : due_behind FromReceiver Duplex dues.Ack (PreambleAck ∷ SizedEnvelope 3 ∷ Fault
    ∷ []) ≡ dues.Over
behind_a_fault = refl

-- where a stream may end
ack_alone_ends : may_end FromReceiver Simplex
    (due_behind FromReceiver Simplex dues.Ack (PreambleAck ∷ [])) ≡ true
ack_alone_ends = refl

no_end_in_duplex : may_end FromReceiver Duplex
    (due_behind FromReceiver Duplex dues.Ack (PreambleAck ∷ [])) ≡ false
no_end_in_duplex = refl

no_end_in_an_envelope : may_end FromInitiator Singleton dues.Chunk ≡ false
no_end_in_an_envelope = refl

-- an initiator's streams
no_message : IsScript FromInitiator Duplex (Version 1 0 ∷ Mode 2 ∷ Via ∷ KnownEncoding 8
    ∷ PreambleEnd ∷ End ∷ [])
no_message = record {
  major = 1;
  minor = 0;
  encoding = KnownEncoding 8;
  is_encoding = tt;
  envelopes = [];
  sent = ([], refl);
  joined = refl;
}

no_message_spelled_out : IsScript FromInitiator Duplex (Version 1 0 ∷ Mode 2 ∷ Via
    ∷ ExtensibleEncoding ∷ PreambleEnd ∷ End ∷ [])
no_message_spelled_out = record {
  major = 1;
  minor = 0;
  encoding = ExtensibleEncoding;
  is_encoding = tt;
  envelopes = [];
  sent = ([], refl);
  joined = refl;
}

two_one_way : IsScript FromInitiator Simplex (Version 1 0 ∷ Mode 3 ∷ Via ∷ KnownEncoding 8
    ∷ PreambleEnd ∷ SizedEnvelope 3 ∷ SizedEnvelope 0 ∷ End ∷ [])
two_one_way = record {
  major = 1;
  minor = 0;
  encoding = KnownEncoding 8;
  is_encoding = tt;
  envelopes = SizedEnvelope 3 ∷ SizedEnvelope 0 ∷ [];
  sent = (3 ∷ 0 ∷ [], refl);
  joined = refl;
}

one_envelope : IsScript FromInitiator Singleton (Version 1 0 ∷ Mode 1 ∷ Via ∷ KnownEncoding 7
    ∷ PreambleEnd ∷ UnsizedEnvelope ∷ Chunk 3 ∷ Chunk 0 ∷ End ∷ [])
one_envelope = record {
  major = 1;
  minor = 0;
  encoding = KnownEncoding 7;
  is_encoding = tt;
  envelopes = UnsizedEnvelope ∷ Chunk 3 ∷ Chunk 0 ∷ [];
  sent = (
    3 ∷ [],
    All-cons (λ size. 0 < size) 3 [] (omega arith) (All-nil (λ size. 0 < size)),
    refl,
  );
  joined = refl;
}

-- a receiver's
answered : IsScript FromReceiver Duplex (PreambleAck ∷ SizedEnvelope 3 ∷ End ∷ [])
answered = inl (record { envelopes = SizedEnvelope 3 ∷ []; sent = (3 ∷ [], refl); joined = refl })

no_reply : IsScript FromReceiver Singleton (PreambleAck ∷ End ∷ [])
no_reply = inl (record { envelopes = []; sent = inl refl; joined = refl })

ack_alone : IsScript FromReceiver Simplex (PreambleAck ∷ [])
ack_alone = inr (inl (refl, refl))

fault_for_the_ack : IsScript FromReceiver Singleton (Fault ∷ [])
fault_for_the_ack = inr (inr (record {
  before = [];
  in_place_of = PreambleAck;
  after = End ∷ [];
  record_of = refl;
  answer = record { envelopes = []; sent = inl refl; joined = refl };
  joined = refl;
}))

fault_for_an_envelope : IsScript FromReceiver Duplex (PreambleAck ∷ SizedEnvelope 3 ∷ Fault ∷ [])
fault_for_an_envelope = inr (inr (record {
  before = PreambleAck ∷ SizedEnvelope 3 ∷ [];
  in_place_of = SizedEnvelope 5;
  after = End ∷ [];
  record_of = refl;
  answer = record {
    envelopes = SizedEnvelope 3 ∷ SizedEnvelope 5 ∷ [];
    sent = (3 ∷ 5 ∷ [], refl);
    joined = refl;
  };
  joined = refl;
}))
