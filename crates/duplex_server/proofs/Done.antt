-- What a thread that writes replies has done, with one job more, with none, and with the last one.
use Rattle.std.proofs.Common.{◌≡◌, Bool, true, false, List, [], ◌∷◌, ◌++◌, None, sym, refl}
use Rattle.std.proofs.Common.{ap, ◌∙◌, subst, true≢false, arith}
use Rattle.nbfx_values.specs.{declared.refusals.Offence.Offence, Limits.Limits, QuotasOf.limits_of}
use Rattle.string_tables.specs.StaticStrings.{Entry}
use Rattle.stream_loop.proofs.Parts.{given_none}
use Rattle.stream_loop.specs.declared.{following.FollowEnding.FollowEnding}
use Rattle.stream_loop.specs.declared.outbound.Outbound.TheVariants.{Done}
use Rattle.stream_loop.specs.{Parts.counting, Parts.Part, PartsGiven.IsFresh, Writing.Wrote}
use Rattle.stream_loop.specs.PartsGiven.{IsLittle, WasGiven}
use Rattle.worker_thread.specs.Jobs.{AreFirst}
use Rattle.duplex_server.specs.declared.{jobs.Job.Job, reply_thread.ReplyThread.ReplyThread}
use Rattle.duplex_server.specs.Jobs.{behind_job, behind_jobs, is_last, part_for, parts_of}
use Rattle.duplex_server.specs.{ServerStream.Replying, ServerStream.start, Replying.KeepsWriting}
use Rattle.duplex_server.specs.{Replying.StandsAt, Serving.closing_of}
use Rattle.duplex_server.specs.TwoThreads.{HasDone}
use Rattle.duplex_server.proofs.Crossed.{behind_more, ends_alike, first_before, none_empty}
use Rattle.duplex_server.proofs.{Crossed.nothing_before, Crossed.parts_more, Handled.going_before}
use Rattle.io_edges.specs.Views.{SinkView}
use Rattle.duplex_server.specs.declared.jobs.Job.TheVariants as jobs

module _ {R K : Type 0} (view : K → SinkView) (ended : K → Bool) where
  abbrev Done' : ReplyThread R K → List Job → ReplyThread R K → Type 0
  Done' = HasDone view ended

  -- before the first job
  pub done_none : (thread : ReplyThread R K) → IsFresh thread.writer.parts
      → thread.writer.sender ≡ None → thread.begun ≡ false → Done' thread [] thread
  unfolding parts_of behind_jobs
  done_none thread fresh unopened unbegun = record {
    statics_are = refl;
    quotas_are = refl;
    stands = λ go. record {
      given = given_none (view thread.sink) thread.writer.parts fresh;
      is_at = λ going. rw unopened refl;
      little = rw fresh.nothing (omega arith);
    };
    replied = record {
      wrote = λ asked ending go is. absurd (none_empty asked (jobs.Last ending) (sym is));
      same_end = λ done. refl;
      back = λ is. absurd (none_empty [] jobs.Back (sym is));
    };
    untouched = λ is. (unbegun, refl);
    unbegun = λ is. refl;
  }

  module _ (first : ReplyThread R K) (done : List Job) (old new : ReplyThread R K)
      (h : Done' first done old) (statics_are : new.writer.statics.now ≡ old.writer.statics.now)
      (quotas_are : new.writer.quotas ≡ old.writer.quotas) where
    abbrev statics : List Entry
    statics = first.writer.statics.now

    abbrev limits : Limits
    limits = limits_of first.writer.quotas

    abbrev s : Replying
    s = behind_jobs statics limits (start statics) done

    abbrev parts : List Part
    parts = parts_of statics limits (start statics) done

    -- what is gathered was written, since no job waits
    pub done_still : AreFirst is_last done
        → (WasGiven (view first.sink) parts old.writer.parts (view old.sink)
        → WasGiven (view first.sink) parts new.writer.parts (view new.sink))
        → (new.writer.parts.outbound ≡ Done → ended new.sink ≡ ended old.sink)
        → (IsLittle old.writer.parts → IsLittle new.writer.parts)
        → ((old.writer.parts.outbound ≡ Done → ⊥)
        → new.writer.parts.outbound ≡ old.writer.parts.outbound)
        → new.writer.sender ≡ old.writer.sender → old.begun ≡ true → new.begun ≡ true
        → Done' first done new
    done_still go given same_end little stopped same_sender begun begins = record {
      statics_are = statics_are ∙ h.statics_are;
      quotas_are = quotas_are ∙ h.quotas_are;
      stands = λ first.
          let was = h.stands go in
          record {
            given = given was.given;
            is_at = λ going. rw (same_sender, quotas_are) (was.is_at (before going));
            little = little was.little;
          };
      replied = record {
        wrote = λ asked ending first is. absurd (true≢false (first_before asked (jobs.Last ending)
            (subst (AreFirst is_last) is go)).1);
        same_end = λ going. same_end going ∙ h.replied.same_end (before going);
        back = λ is. absurd (true≢false (first_before [] jobs.Back
            (subst (AreFirst is_last) is go)).1);
      };
      untouched = λ is. absurd (true≢false (sym begun ∙ (h.untouched is).0));
      unbegun = λ not. absurd (true≢false (sym begins ∙ not));
    } where
      before : new.writer.parts.outbound ≡ Done → old.writer.parts.outbound ≡ Done
      before going = going_before old.writer.parts.outbound new.writer.parts.outbound stopped going

    -- a job that others follow
    pub done_more : (job : Job) → is_last job ≡ false
        → (StandsAt (view first.sink) parts s old.writer (view old.sink)
        → StandsAt (view first.sink)
        (parts ++ part_for old.writer.statics.now (limits_of old.writer.quotas) s job ∷ [])
        (behind_job old.writer.statics.now (limits_of old.writer.quotas) s job) new.writer (view
        new.sink))
        → KeepsWriting ended old.writer new.writer old.sink new.sink → new.begun ≡ true
        → Done' first (done ++ job ∷ []) new
    done_more job goes_on stands kept begins = record {
      statics_are = statics_are ∙ h.statics_are;
      quotas_are = quotas_are ∙ h.quotas_are;
      stands = λ go. rw (
        parts_more statics limits (start statics) done job,
        behind_more statics limits (start statics) done job,
      ) (rw (h.statics_are, h.quotas_are) at
          (stands (h.stands (first_before done job go).0)));
      replied = record {
        wrote = λ asked ending go is. absurd (true≢false (sym (ap is_last
            (ends_alike done asked job (jobs.Last ending) is).1) ∙ goes_on));
        same_end = λ done. kept.same_end ∙ h.replied.same_end (going_before
            old.writer.parts.outbound new.writer.parts.outbound (λ stopped. (kept.stopped
            stopped).0)
            done);
        back = λ is. absurd (true≢false (sym (ap is_last (nothing_before done job jobs.Back is).1)
            ∙ goes_on));
      };
      untouched = λ is. absurd (none_empty done job is);
      unbegun = λ not. absurd (true≢false (sym begins ∙ not));
    }

    -- what is owed last
    pub done_last : (ending : FollowEnding Offence)
        → (WasGiven (view first.sink) parts old.writer.parts (view old.sink)
        → Wrote counting new.writer.parts.outbound (closing_of ending)
        (view first.sink) parts (λ count. new.writer.parts.whole ≡ count) (view new.sink))
        → ended new.sink ≡ ended old.sink
        → ((old.writer.parts.outbound ≡ Done → ⊥)
        → new.writer.parts.outbound ≡ old.writer.parts.outbound) → new.begun ≡ true
        → Done' first (done ++ jobs.Last ending ∷ []) new
    done_last ending wrote same_end stopped begins = record {
      statics_are = statics_are ∙ h.statics_are;
      quotas_are = quotas_are ∙ h.quotas_are;
      stands = λ go. absurd (true≢false (first_before done (jobs.Last ending) go).1);
      replied = record {
        wrote = λ asked ending' go is.
            let e = ends_alike done asked (jobs.Last ending) (jobs.Last ending') is in
            wrote_as asked ending' e.0 e.1 go;
        same_end = λ done. same_end ∙ h.replied.same_end (going_before old.writer.parts.outbound
            new.writer.parts.outbound stopped done);
        back = λ is. absurd (last_back ending
            (nothing_before done (jobs.Last ending) jobs.Back is).1);
      };
      untouched = λ is. absurd (none_empty done (jobs.Last ending) is);
      unbegun = λ not. absurd (true≢false (sym begins ∙ not));
    } where
      ending_in : Job → FollowEnding Offence → FollowEnding Offence
      ending_in (jobs.Last ending) other = ending
      ending_in job other = other

      last_back : (ending : FollowEnding Offence) → jobs.Last ending ≡ jobs.Back → ⊥
      last_back ending is = cc

      wrote_as : (asked : List Job) (ending' : FollowEnding Offence) → done ≡ asked
          → jobs.Last ending ≡ jobs.Last ending' → AreFirst is_last asked
          → Wrote counting new.writer.parts.outbound
          (closing_of ending') (view first.sink) (parts_of statics limits (start statics) asked)
          (λ count. new.writer.parts.whole ≡ count) (view new.sink)
      wrote_as asked ending' same is go =
          subst (λ (e : FollowEnding Offence). Wrote counting
          new.writer.parts.outbound (closing_of e) (view first.sink)
          (parts_of statics limits (start statics) asked)
          (λ count. new.writer.parts.whole ≡ count) (view new.sink))
          (ap (λ (j : Job). ending_in j ending) is)
          (subst (λ (l : List Job). Wrote counting
          new.writer.parts.outbound (closing_of ending) (view first.sink)
          (parts_of statics limits (start statics) l)
          (λ count. new.writer.parts.whole ≡ count) (view new.sink)) same
          (wrote (h.stands (subst (AreFirst is_last) (sym same) go)).given))

    -- nothing
    pub done_back : new.writer ≡ old.writer → new.sink ≡ old.sink → new.begun ≡ true
        → Done' first (done ++ jobs.Back ∷ []) new
    done_back same_writer same_sink begins = record {
      statics_are = statics_are ∙ h.statics_are;
      quotas_are = quotas_are ∙ h.quotas_are;
      stands = λ go. absurd (true≢false (first_before done jobs.Back go).1);
      replied = record {
        wrote = λ asked ending go is. absurd (back_last ending
            (ends_alike done asked jobs.Back (jobs.Last ending) is).1);
        same_end = λ going. ap ended same_sink ∙ h.replied.same_end
            (sym (ap (λ w. w.parts.outbound) same_writer) ∙ going);
        back = λ is.
            let same = same_sink ∙ (h.untouched (nothing_before done jobs.Back jobs.Back is).0).1 in
            (ap view same, ap ended same);
      };
      untouched = λ is. absurd (none_empty done jobs.Back is);
      unbegun = λ not. absurd (true≢false (sym begins ∙ not));
    } where
      back_last : (ending : FollowEnding Offence) → jobs.Back ≡ jobs.Last ending → ⊥
      back_last ending is = cc
