-- Where a writer of replies stands behind what it spelled.
use Rattle.duplex_server.specs.declared.jobs.Related.{Related}
use Rattle.std.proofs.Common.{◌≡◌, ℕ, Bool, true, false, List}
use Rattle.std.proofs.Common.{[], ◌∷◌, ◌++◌, Some, None, Ok, Option}
use Rattle.std.proofs.Common.{sym, refl, ap, ◌∙◌}
use Rattle.nbfx_values.specs.{declared.content.Item.Item, Limits.Limits}
use Rattle.nbfx_encoder.specs.{declared.sender.Sender.Sender, Envelopes.envelope, Placing.Placed}
use Rattle.nbfx_encoder.specs.declared.sender.SendState.TheVariants.{Spent}
use Rattle.nbfx_encoder.specs.Sending.{behind_message, KeepsSettings, kind_in, limits_in, mode_in}
use Rattle.nbfx_encoder.specs.Sending.{names_in, state_in}
use Rattle.duplex_server.specs.Jobs.{fitting, reply_part, reply_payload}
use Rattle.duplex_server.specs.ServerStream.{behind_reply, Replying, when_ready}
use Rattle.stream_loop.proofs.Parts.{gathers_nothing}
use Rattle.stream_loop.specs.{declared.outbound.Outbound.TheVariants.Done, Parts.Part}
use Rattle.duplex_server.specs.declared.reply_writer.ReplyWriter.{ReplyWriter}
use Rattle.duplex_server.specs.{Replying.SendsAt, Replying.StandsAt, Spelling.Spells}
use Rattle.io_edges.specs.Views.{SinkView}

-- before the preamble, and in simplex mode, nothing is due
pub none_due : (limits : Limits) (s : Replying) (made : Option (List Item)) (relates : Related)
    → s.moment ≡ Spent → reply_payload limits s made relates ≡ None
none_due limits s made relates is =
    ap (λ m. when_ready m (fitting limits s.kind s.table made relates)) is

-- the part of an answer that was spelled, and where the sending half is then
pub record IsSpelled (limits : Limits) (s : Replying) (sender' : Sender) (old new : List ℕ)
    (due : Option (Placed (List ℕ))) (counts : Bool) : Type 0 where
  pub bytes : new ≡ old ++ (reply_part s.mode due).bytes
  pub counts_is : (reply_part s.mode due).counts ≡ counts
  pub sends : SendsAt limits sender' (behind_reply due s)

module _ (limits : Limits) (s : Replying) (sender sender' : Sender) (here : SendsAt limits sender s)
    (kept : KeepsSettings sender sender') (made : Option (List Item)) (relates : Related)
    (old new : List ℕ) where
  abbrev spelled : Option (Placed (List ℕ))
  spelled = when_ready (state_in sender)
      (fitting (limits_in sender) (kind_in sender) (names_in sender) made relates)

  abbrev due : Option (Placed (List ℕ))
  due = reply_payload limits s made relates

  spelled_due : spelled ≡ due
  spelled_due = rw (here.limits_are, here.kind_is, here.moment_is, here.table_is) refl

  pub spelled_one : Spells (mode_in sender) old new (names_in sender) (names_in sender')
      (state_in sender) (state_in sender') spelled (Ok true)
      → IsSpelled limits s sender' old new due true
  spelled_one h =
      let is : due ≡ Some h.0 = sym spelled_due ∙ h.1 in
      rw is (record {
        bytes = h.2.written ∙ ap (λ m. old ++ envelope m h.0.0) here.mode_is;
        counts_is = refl;
        sends = record {
          limits_are = kept.limits ∙ here.limits_are;
          mode_is = kept.mode ∙ here.mode_is;
          kind_is = kept.kind ∙ here.kind_is;
          moment_is = h.2.moment_is ∙ ap behind_message here.mode_is;
          table_is = h.2.table;
        };
      })

  pub spelled_none : Spells (mode_in sender) old new (names_in sender) (names_in sender')
      (state_in sender) (state_in sender') spelled (Ok false)
      → (new ≡ old) × ((reply_part s.mode due).bytes ≡ [])
      × ((reply_part s.mode due).counts ≡ false) × SendsAt limits sender' (behind_reply due s)
  spelled_none h =
      let is : due ≡ None = sym spelled_due ∙ h.0 in
      rw is (
        h.1.written,
        refl,
        refl,
        record {
          limits_are = kept.limits ∙ here.limits_are;
          mode_is = kept.mode ∙ here.mode_is;
          kind_is = kept.kind ∙ here.kind_is;
          moment_is = h.1.moment_is ∙ here.moment_is;
          table_is = h.1.table ∙ here.table_is;
        },
      )

-- a part without bytes that doesn't count changes nothing
pub stands_idle : (first : SinkView) (parts : List Part) (s : Replying)
    (w : ReplyWriter) (now : SinkView) (one : Part) → w.parts.outbound ≡ Done → one.bytes ≡ []
    → one.counts ≡ false → StandsAt first parts s w now
    → StandsAt first (parts ++ one ∷ []) s w now
stands_idle first parts s w now one going none uncounted h = record {
  given = rw going (gathers_nothing first parts w.parts.whole
      w.parts.gathered.items w.parts.ends.items now (rw going at h.given) one none uncounted);
  is_at = h.is_at;
  little = h.little;
}
