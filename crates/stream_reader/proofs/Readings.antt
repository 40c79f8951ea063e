-- What a loop over the pieces of a stream goes by: bytes that may still go on are few, and no bytes
-- are refused.
use Rattle.std.proofs.Common.{◌≡◌, ℕ, ◌<◌, List, [], length, Some, None, Option, refl, ◌∙◌}
use Rattle.{std.specs.Option.option_or, unit_streams.proofs.Standing.standing_nothing}
use Rattle.unit_streams.proofs.Passing.{going_refusal, refusal_from}
use Rattle.unit_streams.proofs.Pending.{open_going_on, pending_open, pending_unrefused}
use Rattle.unit_streams.specs.{Front.wrong_of, Going.IsGoing, Going.IsPending}
use Rattle.unit_streams.specs.Grammar.{next_unit, standing}
use Rattle.unit_streams.specs.Judging.{given_at, is_over_at, refusal_at}
use Rattle.stream_reader.specs.Stream.{beginning, Settings, stream, too_long}
use Rattle.stream_reader.proofs.Grammar.{readable, short_enough, within_quota}

option_last : {A : Type 0} (a b v : Option A) → option_or a (option_or b v) ≡ None → v ≡ None
option_last None None v e = e
option_last None (Some s) v e = cc
option_last (Some s) b v e = cc

module _ (x : Settings) where
  -- bytes that may still go on are fewer than the session quota
  pub few_bytes : (p : List ℕ) → IsPending (stream x) p → length p < x.limits.session
  unfolding refusal_at is_over_at
  few_bytes p h =
      let s = standing (stream x) p in
      within_quota x s.situation.stage s.from (length p)
      (open_going_on (stream x) p (pending_open (stream x) p h))
      (option_last (given_at s.begun s.refusal) (wrong_of (next_unit (stream x) s))
      (too_long x s.situation.stage s.from (length p)) (pending_unrefused (stream x) p h))

  first_going : IsGoing (stream x) (standing (stream x) [])
  first_going =
      rw (standing_nothing (stream x) (readable x))
      (record { next = (readable x).nothing (beginning x) 0; last = refl })

  pub first_unrefused : 0 < x.limits.session → refusal_at (stream x) [] ≡ None
  first_unrefused room =
      let s = standing (stream x) [] in
      refusal_from (stream x) [] s refl ∙ going_refusal (stream x) s 0 first_going
      ∙ short_enough x s.situation.stage s.from 0 room
