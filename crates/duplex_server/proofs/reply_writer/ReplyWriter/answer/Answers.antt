use Rattle.std.proofs.Common.{ℕ, ◌<◌, false, List, [], ◌∷◌, ◌++◌, length, sym, refl, ◌∙◌, subst}
use Rattle.std.specs.Option.{option_copied}
use Rattle.nbfx_values.specs.{Limits.Limits, QuotasOf.limits_of}
use Rattle.stream_loop.proofs.Parts.{gathers_nothing}
use Rattle.stream_loop.specs.{Parts.part, PartsGiven.HasTaken}
use Rattle.duplex_server.specs.Jobs.{reply_part, reply_payload}
use Rattle.duplex_server.proofs.Replies.{none_due, spelled_none, spelled_one}
use Rattle.duplex_server.proofs.reply_writer.ReplyWriter.answer.Goals as goal

-- before the preamble
pub returns-in-None-clause-stands : goal.returns-in-None-clause-stands
returns-in-None-clause-stands g c = λ first parts s h.
    let m = c.args.self.now in
    let going = c.requires in
    let spent = rw c.in-None.is at (h.is_at going) in
    let none = none_due (limits_of m.quotas) s (option_copied c.args.doc) c.args.relates spent in
    rw none (record {
      given = rw going (gathers_nothing first parts m.parts.whole m.parts.gathered.items
          m.parts.ends.items
          (g.K.Sink.view c.args.sink.now) (rw going at h.given) (part [] false) refl refl);
      is_at = h.is_at;
      little = h.little;
    })

pub returns-in-Ok-true-clause-stands : goal.returns-in-Ok-true-clause-stands
returns-in-Ok-true-clause-stands g c = λ first parts s h.
    let m = c.args.self.now in
    let limits : Limits = limits_of m.quotas in
    let sender = c.in-Some.sender in
    let here = rw c.in-Some.is at (h.is_at c.requires) in
    let spells = rw c.in-Ok-true.field-0-test at c.in-Ok-true.ensures.spells in
    let k = spelled_one limits s sender c.spell_answer.new.sender here c.spell_answer.ensures.kept
    (option_copied c.args.doc) c.args.relates m.parts.gathered.items c.spell_answer.new.out.items
    spells in
    let due = reply_payload limits s (option_copied c.args.doc) c.args.relates in
    let e = c.end_part.ensures in
    record {
      given = e.given first parts (reply_part s.mode due) (record {
        earlier = m.parts.gathered.items;
        length_is = sym (c.len-before.ensures ∙ m.parts.gathered.ok.0);
        taken = h.given;
        bytes = k.bytes;
        counts = k.counts_is;
      });
      is_at = λ going. k.sends;
      little = e.little;
    }

pub returns-in-Ok-false-clause-stands : goal.returns-in-Ok-false-clause-stands
returns-in-Ok-false-clause-stands g c = λ first parts s h.
    let m = c.args.self.now in
    let limits : Limits = limits_of m.quotas in
    let sender = c.in-Some.sender in
    let going = c.requires in
    let here = rw c.in-Some.is at (h.is_at going) in
    let spells = rw c.in-Ok-false.field-0-test at c.in-Ok-false.ensures.spells in
    let k = spelled_none limits s sender c.spell_answer.new.sender here
    c.spell_answer.ensures.kept (option_copied c.args.doc) c.args.relates m.parts.gathered.items
    c.spell_answer.new.out.items spells in
    let due = reply_payload limits s (option_copied c.args.doc) c.args.relates in
    record {
      given = subst (λ (l : List ℕ). HasTaken first (parts ++ reply_part s.mode due ∷ [])
          m.parts.outbound m.parts.whole l m.parts.ends.items (g.K.Sink.view c.args.sink.now))
          (sym k.0) (rw going (gathers_nothing first parts m.parts.whole m.parts.gathered.items
          m.parts.ends.items (g.K.Sink.view c.args.sink.now) (rw going at h.given)
          (reply_part s.mode due) k.1 k.2));
      is_at = λ on. k.3;
      little = subst (λ (l : List ℕ). length l < 65536) (sym k.0) h.little;
    }

pub returns-in-Err-clause-stands : goal.returns-in-Err-clause-stands
returns-in-Err-clause-stands g c = λ first parts s h.
    let m = c.args.self.now in
    let due = reply_payload (limits_of m.quotas) s (option_copied c.args.doc) c.args.relates in
    let e = c.run_out.ensures in
    record {
      given = e.given first parts (reply_part s.mode due)
          (rw c.in-Err.ensures.unchanged h.given);
      is_at = λ going. absurd (e.stopped going);
      little = e.little;
    }
