-- A script of the grammar leads through what is due.
use Rattle.std.proofs.Common.{◌≡◌, ℕ, ◌<◌, true, false, List, [], ◌∷◌, ◌++◌, map, is_none, IsSome}
use Rattle.std.proofs.Common.{◌==◌, Some, None, All, Option, refl, inl, inr, arith}
use Rattle.{std.proofs.lemmas.Bool.Decides.nat_tests, nbfx_values.specs.declared.session.Mode.Mode}
use Rattle.std.proofs.lemmas.List.Elements.{All-head, All-tail}
use Rattle.nbfx_values.specs.declared.session.Mode.TheVariants.{Duplex, Simplex, Singleton}
use Rattle.nmf_records.specs.{declared.frame.Frame.Frame, RecordFronts.MayCome, Records.type_of}
use Rattle.nmf_records.specs.declared.script.{Direction.Direction, Due.Due}
use Rattle.nmf_records.specs.declared.script.Direction.TheVariants.{FromInitiator, FromReceiver}
use Rattle.nmf_records.specs.Script.{AreEnvelopes, behind_preamble, first, IsAnswer}
use Rattle.nmf_records.specs.Script.{IsEncoding}
use Rattle.nmf_records.specs.Script.{IsInitiatorsScript, IsScript, IsUnsized, leads, may_come}
use Rattle.nmf_records.proofs.ScriptWays.{Follows, nothing_comes}
use Rattle.nmf_records.specs.declared.frame.Frame.TheVariants as frames
use Rattle.nmf_records.specs.declared.script.Due.TheVariants as dues

sized_come : (direction : Direction) (size : ℕ) → MayCome (may_come direction dues.Messages)
    (frames.SizedEnvelope size)
sized_come FromInitiator size = refl
sized_come FromReceiver size = refl

end_comes : (direction : Direction) (mode : Mode) → Follows direction mode dues.End
    (frames.End ∷ [])
end_comes FromInitiator mode = (refl, tt, refl)
end_comes FromReceiver mode = (refl, tt, refl)

-- any number of sized envelopes, and then End
sized_follow : (direction : Direction) (mode : Mode) (sizes : List ℕ) → Follows direction mode
    dues.Messages (map frames.SizedEnvelope sizes ++ frames.End ∷ [])
sized_follow FromInitiator mode [] = (refl, tt, refl)
sized_follow FromReceiver mode [] = (refl, tt, refl)
sized_follow direction mode (size ∷ sizes) = (
  sized_come direction size,
  tt,
  sized_follow direction
      mode sizes,
)

-- the chunks of an envelope, and then End
chunks_follow : (direction : Direction) (mode : Mode) (sizes : List ℕ) → All (λ size. 0 < size)
    sizes
    → Follows direction mode dues.Chunk ((map frames.Chunk sizes ++ frames.Chunk 0 ∷ [])
    ++ frames.End ∷ [])
chunks_follow direction mode [] some = (refl, tt, end_comes direction mode)
chunks_follow direction mode (size ∷ sizes) some =
    let here : 0 < size = All-head (λ size. 0 < size) size sizes some in
    let isnt : (size == 0) ≡ false = grind (arith, nat_tests) in (
      refl,
      tt,
      rw isnt
          (chunks_follow direction mode sizes (All-tail (λ size. 0 < size) size sizes some)),
    )

-- an unsized envelope, and then End, where one may begin
unsized_follow : (direction : Direction) (mode : Mode) (envelope : List Frame) → IsUnsized envelope
    → (due : Due) → MayCome (may_come direction due) frames.UnsizedEnvelope → Follows direction mode
    due (envelope ++ frames.End ∷ [])
unsized_follow direction mode envelope unsized due comes = rw unsized.2
    (comes, tt, chunks_follow direction mode unsized.0 unsized.1)

-- the envelopes of a stream, and then End
envelopes_follow : (direction : Direction) (mode : Mode) (envelopes : List Frame)
    → AreEnvelopes direction mode envelopes
    → Follows direction mode (behind_preamble direction mode) (envelopes ++ frames.End ∷ [])
envelopes_follow FromInitiator Singleton envelopes sent = unsized_follow FromInitiator Singleton
    envelopes sent dues.Envelope refl
envelopes_follow FromInitiator Duplex envelopes sent = rw sent.1
    (sized_follow FromInitiator Duplex sent.0)
envelopes_follow FromInitiator Simplex envelopes sent = rw sent.1
    (sized_follow FromInitiator Simplex sent.0)
envelopes_follow FromReceiver Singleton envelopes (inl none) = rw none (refl, tt, refl)
envelopes_follow FromReceiver Singleton envelopes (inr sent) = unsized_follow FromReceiver Singleton
    envelopes sent dues.Reply refl
envelopes_follow FromReceiver Duplex envelopes sent = rw sent.1
    (sized_follow FromReceiver Duplex sent.0)
envelopes_follow FromReceiver Simplex envelopes none = rw none (refl, tt, refl)

-- either record may name the encoding
encoding_follows : (mode : Mode) (encoding : Frame) → IsEncoding encoding → (rest : List Frame)
    → Follows FromInitiator mode dues.PreambleEnd rest
    → Follows FromInitiator mode dues.Encoding (encoding ∷ rest)
encoding_follows mode (frames.KnownEncoding byte) is rest h = (refl, tt, h)
encoding_follows mode frames.ExtensibleEncoding is rest h = (refl, tt, h)
encoding_follows mode _ is rest h = absurd is

request_follows : (mode : Mode) (script : List Frame) → IsInitiatorsScript mode script
    → Follows FromInitiator mode dues.Version script
request_follows mode script r =
    rw r.joined (
      refl,
      tt,
      (
        refl,
        refl,
        (
          refl,
          tt,
          encoding_follows mode r.encoding r.is_encoding
              (frames.PreambleEnd ∷ r.envelopes ++ frames.End ∷ [])
              (refl, tt, envelopes_follow FromInitiator mode r.envelopes r.sent),
        ),
      ),
    )

answer_follows : (mode : Mode) (script : List Frame) → IsAnswer mode script → Follows FromReceiver
    mode dues.Ack script
answer_follows mode script a = rw a.joined (
  refl,
  tt,
  envelopes_follow FromReceiver mode a.envelopes
      a.sent,
)

no_size : (type : Option ℕ) → IsSome type → is_none type ≡ true → ⊥
no_size None some none = cc
no_size (Some kind) some none = cc

-- where a record may come in a receiver's stream, a Fault may
fault_may : (due : Due) (frame : Frame) → IsSome (type_of frame)
    → MayCome (may_come FromReceiver due) frame → MayCome (may_come FromReceiver due) frames.Fault
fault_may dues.Chunk frame some comes = absurd (no_size (type_of frame) some comes)
fault_may dues.Over frame some comes = absurd (nothing_comes FromReceiver frame comes)
fault_may _ frame some comes = refl

fault_follows : (mode : Mode) (due : Due) (before after : List Frame) (frame : Frame)
    → IsSome (type_of frame)
    → Follows FromReceiver mode due (before ++ frame ∷ after) → Follows FromReceiver mode due
    (before ++ frames.Fault ∷ [])
fault_follows mode due [] after frame some h = (fault_may due frame some h.0, tt, refl)
fault_follows mode due (x ∷ before) after frame some h =
    (h.0, h.1, fault_follows mode (leads FromReceiver mode due x) before after frame some h.2)

pub script_follows : (direction : Direction) (mode : Mode) (script : List Frame)
    → IsScript direction mode script
    → Follows direction mode (first direction) script
script_follows FromInitiator mode script request = request_follows mode script request
script_follows FromReceiver mode script (inl answer) = answer_follows mode script answer
script_follows FromReceiver mode script (inr (inl lone)) = rw (lone.0, lone.1) (refl, tt, refl)
script_follows FromReceiver mode script (inr (inr cut)) =
    rw cut.joined (fault_follows mode dues.Ack cut.before cut.after cut.in_place_of cut.record_of
    (answer_follows mode (cut.before ++ cut.in_place_of ∷ cut.after) cut.answer))
