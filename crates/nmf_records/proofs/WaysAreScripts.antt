-- What leads through what is due to the end is a script of the grammar.
use Rattle.std.proofs.Common.{◌≡◌, ℕ, ◌<◌, ◌⊎◌, List, [], ◌∷◌, ◌++◌, map, ◌==◌, All, refl, ap, ◌∙◌}
use Rattle.std.proofs.Common.{inl, inr, arith, eqb-true}
use Rattle.std.proofs.lemmas.Bool.{cases_Bool, eqb-false}
use Rattle.std.proofs.lemmas.List.Elements.{All-cons, All-nil}
use Rattle.nbfx_values.specs.{declared.session.Mode.Mode, Session.mode_number}
use Rattle.nbfx_values.specs.declared.session.Mode.TheVariants.{Duplex, Simplex, Singleton}
use Rattle.nmf_records.specs.declared.{frame.Frame.Frame, script.Direction.Direction}
use Rattle.nmf_records.specs.declared.script.Direction.TheVariants.{FromInitiator, FromReceiver}
use Rattle.nmf_records.specs.Script.{AreEnvelopes, behind_preamble, first, IsEncoding}
use Rattle.nmf_records.specs.Script.{IsInitiatorsScript}
use Rattle.nmf_records.specs.Script.{IsScript, IsUnsized}
use Rattle.nmf_records.proofs.ScriptWays.{Follows, over_is}
use Rattle.nmf_records.specs.declared.frame.Frame.TheVariants as frames
use Rattle.nmf_records.specs.declared.script.Due.TheVariants as dues

-- what may come at each place is what comes there
end_is : (mode : Mode) (script : List Frame) → Follows FromInitiator mode dues.End script → script
    ≡ frames.End ∷ []
end_is mode [] h = cc
end_is mode (frames.End ∷ rest) h = ap (λ l. frames.End ∷ l) (over_is FromInitiator mode rest h.2)
end_is mode (_ ∷ rest) h = cc

-- after the chunks of an envelope
pub record Chunked (direction : Direction) (mode : Mode) (script : List Frame) : Type 0 where
  pub sizes : List ℕ
  pub some : All (λ size. 0 < size) sizes
  pub rest : List Frame
  pub joined : script ≡ (map frames.Chunk sizes ++ frames.Chunk 0 ∷ []) ++ rest
  pub follows : Follows direction mode dues.End rest

chunks_are : (direction : Direction) (mode : Mode) (script : List Frame) → Follows direction mode
    dues.Chunk script → Chunked direction mode script
chunks_are direction mode [] h = cc
chunks_are direction mode (frames.Chunk size ∷ rest) h =
    elim (cases_Bool (size == 0)) [
      | inl last ↦ record {
        sizes = [];
        some = All-nil (λ size. 0 < size);
        rest = rest;
        joined = ap (λ n. frames.Chunk n ∷ rest) (eqb-true size 0 last);
        follows = rw last at h.2;
      }
      | inr more ↦
          let w = chunks_are direction mode rest (rw more at h.2) in
          record {
            sizes = size ∷ w.sizes;
            some = All-cons (λ size. 0 < size) size w.sizes
                (let isnt = eqb-false size 0 more in omega arith) w.some;
            rest = w.rest;
            joined = ap (λ l. frames.Chunk size ∷ l) w.joined;
            follows = w.follows;
          }
    ]
chunks_are direction mode (_ ∷ rest) h = cc

sized_are : (mode : Mode) (script : List Frame) → Follows FromInitiator mode dues.Messages script
    → (sizes : List ℕ) × (script ≡ map frames.SizedEnvelope sizes ++ frames.End ∷ [])
sized_are mode [] h = cc
sized_are mode (frames.SizedEnvelope size ∷ rest) h =
    let w = sized_are mode rest h.2 in (size ∷ w.0, ap (λ l. frames.SizedEnvelope size ∷ l) w.1)
sized_are mode (frames.End ∷ rest) h =
    ([], ap (λ l. frames.End ∷ l) (over_is FromInitiator mode rest h.2))
sized_are mode (_ ∷ rest) h = cc

envelope_is : (mode : Mode) (script : List Frame) → Follows FromInitiator mode dues.Envelope script
    → (envelope : List Frame) × IsUnsized envelope × (script ≡ envelope ++ frames.End ∷ [])
envelope_is mode [] h = cc
envelope_is mode (frames.UnsizedEnvelope ∷ rest) h =
    let w = chunks_are FromInitiator mode rest h.2 in (
      _,
      (w.sizes, w.some, refl),
      ap (λ l. frames.UnsizedEnvelope ∷ l)
          (w.joined ∙ ap (λ l. (map frames.Chunk w.sizes ++ frames.Chunk 0 ∷ []) ++ l)
          (end_is mode w.rest w.follows)),
    )
envelope_is mode (_ ∷ rest) h = cc

-- behind an initiator's preamble
envelopes_are : (mode : Mode) (script : List Frame) → Follows FromInitiator mode
    (behind_preamble FromInitiator mode) script
    → (envelopes : List Frame) × AreEnvelopes FromInitiator mode envelopes
    × (script ≡ envelopes ++ frames.End ∷ [])
envelopes_are Singleton script h = envelope_is Singleton script h
envelopes_are Duplex script h = let w = sized_are Duplex script h in (_, (w.0, refl), w.1)
envelopes_are Simplex script h = let w = sized_are Simplex script h in (_, (w.0, refl), w.1)

-- and along it
at_preamble_end : (mode : Mode) (script : List Frame) → Follows FromInitiator mode dues.PreambleEnd
    script
    → (rest : List Frame) × (script ≡ frames.PreambleEnd ∷ rest) × Follows FromInitiator mode
    (behind_preamble FromInitiator mode) rest
at_preamble_end mode [] h = cc
at_preamble_end mode (frames.PreambleEnd ∷ rest) h = (rest, refl, h.2)
at_preamble_end mode (_ ∷ rest) h = cc

at_encoding : (mode : Mode) (script : List Frame) → Follows FromInitiator mode dues.Encoding script
    → (encoding : Frame) × IsEncoding encoding × (rest : List Frame) × (script ≡ encoding ∷ rest)
    × Follows FromInitiator mode dues.PreambleEnd rest
at_encoding mode [] h = cc
at_encoding mode (frames.KnownEncoding byte ∷ rest) h =
    (frames.KnownEncoding byte, tt, rest, refl, h.2)
at_encoding mode (frames.ExtensibleEncoding ∷ rest) h =
    (frames.ExtensibleEncoding, tt, rest, refl, h.2)
at_encoding mode (_ ∷ rest) h = cc

at_via : (mode : Mode) (script : List Frame) → Follows FromInitiator mode dues.Via script
    → (rest : List Frame) × (script ≡ frames.Via ∷ rest) × Follows FromInitiator mode dues.Encoding
    rest
at_via mode [] h = cc
at_via mode (frames.Via ∷ rest) h = (rest, refl, h.2)
at_via mode (_ ∷ rest) h = cc

at_mode : (mode : Mode) (script : List Frame) → Follows FromInitiator mode dues.Mode script
    → (rest : List Frame) × (script ≡ frames.Mode (mode_number mode) ∷ rest) × Follows FromInitiator
    mode dues.Via rest
at_mode mode [] h = cc
at_mode mode (frames.Mode byte ∷ rest) h = (rest, ap (λ n. frames.Mode n ∷ rest) h.1, h.2)
at_mode mode (_ ∷ rest) h = cc

at_version : (mode : Mode) (script : List Frame) → Follows FromInitiator mode dues.Version script
    → (major : ℕ) × (minor : ℕ) × (rest : List Frame) × (script ≡ frames.Version major minor ∷ rest)
    × Follows FromInitiator mode dues.Mode rest
at_version mode [] h = cc
at_version mode (frames.Version major minor ∷ rest) h = (major, minor, rest, refl, h.2)
at_version mode (_ ∷ rest) h = cc

request_is : (mode : Mode) (script : List Frame) → Follows FromInitiator mode dues.Version script
    → IsInitiatorsScript mode script
request_is mode script h =
    let v = at_version mode script h in
    let m = at_mode mode v.2 v.4 in
    let via = at_via mode m.0 m.2 in
    let e = at_encoding mode via.0 via.2 in
    let p = at_preamble_end mode e.2 e.4 in
    let sent = envelopes_are mode p.0 p.2 in
    record {
      major = v.0;
      minor = v.1;
      encoding = e.0;
      is_encoding = e.1;
      envelopes = sent.0;
      sent = sent.1;
      joined =
          cc (v.3, m.1, via.1, e.3, p.1, sent.2);
    }

-- a receiver's envelopes, and what ends its stream behind them
record Sent (mode : Mode) (script : List Frame) : Type 0 where
  envelopes : List Frame
  sent : AreEnvelopes FromReceiver mode envelopes
  rest : List Frame
  joined : script ≡ envelopes ++ rest
  ends : (rest ≡ frames.End ∷ []) ⊎ (rest ≡ frames.Fault ∷ [])

end_or_fault : (mode : Mode) (script : List Frame) → Follows FromReceiver mode dues.End script
    → (script ≡ frames.End ∷ []) ⊎ (script ≡ frames.Fault ∷ []) ⊎ ((mode ≡ Simplex) × (script ≡ []))
end_or_fault Simplex [] h = inr (inr (refl, refl))
end_or_fault _ [] h = cc
end_or_fault mode (frames.End ∷ rest) h = inl
    (ap (λ l. frames.End ∷ l) (over_is FromReceiver mode rest h.2))
end_or_fault mode (frames.Fault ∷ rest) h = inr
    (inl (ap (λ l. frames.Fault ∷ l) (over_is FromReceiver mode rest h.2)))
end_or_fault mode (_ ∷ rest) h = cc

sized_sent : (script : List Frame) → Follows FromReceiver Duplex dues.Messages script
    → Sent Duplex script
sized_sent [] h = cc
sized_sent (frames.SizedEnvelope size ∷ more) h =
    let w = sized_sent more h.2 in
    record {
      envelopes = frames.SizedEnvelope size ∷ w.envelopes;
      sent = (size ∷ w.sent.0, ap (λ l. frames.SizedEnvelope size ∷ l) w.sent.1);
      rest = w.rest;
      joined = ap (λ l. frames.SizedEnvelope size ∷ l) w.joined;
      ends = w.ends;
    }
sized_sent (frames.End ∷ more) h =
    record {
      envelopes = [];
      sent = ([], refl);
      rest = frames.End ∷ more;
      joined = refl;
      ends = inl
          (ap (λ l. frames.End ∷ l) (over_is FromReceiver Duplex more h.2));
    }
sized_sent (frames.Fault ∷ more) h =
    record {
      envelopes = [];
      sent = ([], refl);
      rest = frames.Fault ∷ more;
      joined = refl;
      ends =
          inr (ap (λ l. frames.Fault ∷ l) (over_is FromReceiver Duplex more h.2));
    }
sized_sent (_ ∷ more) h = cc

reply_sent : (script : List Frame) → Follows FromReceiver Singleton dues.Reply script
    → Sent Singleton script
reply_sent [] h = cc
reply_sent (frames.UnsizedEnvelope ∷ more) h =
    let w = chunks_are FromReceiver Singleton more h.2 in
    record {
      envelopes = frames.UnsizedEnvelope ∷ map frames.Chunk w.sizes ++ frames.Chunk 0 ∷ [];
      sent = inr (w.sizes, w.some, refl);
      rest = w.rest;
      joined = ap (λ l. frames.UnsizedEnvelope ∷ l) w.joined;
      ends = elim (end_or_fault Singleton w.rest w.follows) [
        | inl e ↦ inl e
        | inr (inl e) ↦ inr e
        | inr (inr (e, none)) ↦ cc
      ];
    }
reply_sent (frames.End ∷ more) h =
    record {
      envelopes = [];
      sent = inl refl;
      rest = frames.End ∷ more;
      joined = refl;
      ends = inl
          (ap (λ l. frames.End ∷ l) (over_is FromReceiver Singleton more h.2));
    }
reply_sent (frames.Fault ∷ more) h =
    record {
      envelopes = [];
      sent = inl refl;
      rest = frames.Fault ∷ more;
      joined = refl;
      ends = inr
          (ap (λ l. frames.Fault ∷ l) (over_is FromReceiver Singleton more h.2));
    }
reply_sent (_ ∷ more) h = cc

none_sent : (mode : Mode) → AreEnvelopes FromReceiver mode []
none_sent Singleton = inl refl
none_sent Duplex = ([], refl)
none_sent Simplex = refl

sent_or_alone : (mode : Mode) (script : List Frame) → Follows FromReceiver mode
    (behind_preamble FromReceiver mode) script
    → Sent mode script ⊎ ((mode ≡ Simplex) × (script ≡ []))
sent_or_alone Singleton script h = inl (reply_sent script h)
sent_or_alone Duplex script h = inl (sized_sent script h)
sent_or_alone Simplex script h =
    elim (end_or_fault Simplex script h) [
      | inl e ↦ inl
          (record { envelopes = []; sent = refl; rest = script; joined = refl; ends = inl e })
      | inr (inl e) ↦ inl
          (record { envelopes = []; sent = refl; rest = script; joined = refl; ends = inr e })
      | inr (inr alone) ↦ inr alone
    ]

-- behind the Ack
behind_ack : (mode : Mode) (script : List Frame) → Sent mode script → IsScript FromReceiver mode
    (frames.PreambleAck ∷ script)
behind_ack mode script w =
    elim w.ends [
      | inl e ↦ inl (record {
        envelopes = w.envelopes;
        sent = w.sent;
        joined = ap (λ l. frames.PreambleAck ∷ l) (w.joined ∙ ap (λ l. w.envelopes ++ l) e);
      })
      | inr e ↦ inr (inr (record {
        before = frames.PreambleAck ∷ w.envelopes;
        in_place_of = frames.End;
        after = [];
        record_of = refl;
        answer = record { envelopes = w.envelopes; sent = w.sent; joined = refl };
        joined = ap (λ l. frames.PreambleAck ∷ l) (w.joined ∙ ap (λ l. w.envelopes ++ l) e);
      }))
    ]

answer_is : (mode : Mode) (script : List Frame) → Follows FromReceiver mode dues.Ack script
    → IsScript FromReceiver mode script
answer_is mode [] h = cc
answer_is mode (frames.PreambleAck ∷ rest) h =
    elim (sent_or_alone mode rest h.2) [
      | inl w ↦ behind_ack mode rest w
      | inr alone ↦ inr (inl (alone.0, ap (λ l. frames.PreambleAck ∷ l) alone.1))
    ]
answer_is mode (frames.Fault ∷ rest) h =
    inr (inr (record {
      before = [];
      in_place_of = frames.PreambleAck;
      after = frames.End ∷ [];
      record_of = refl;
      answer = record { envelopes = []; sent = none_sent mode; joined = refl };
      joined = ap (λ l. frames.Fault ∷ l) (over_is FromReceiver mode rest h.2);
    }))
answer_is mode (_ ∷ rest) h = cc

pub script_is : (direction : Direction) (mode : Mode) (script : List Frame) → Follows direction mode
    (first direction) script
    → IsScript direction mode script
script_is FromInitiator mode script h = request_is mode script h
script_is FromReceiver mode script h = answer_is mode script h
