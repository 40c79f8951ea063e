-- A stream has no offence exactly where a session closes it.
use Rattle.stream_reader.proofs.FromScript.{context_of}
use Rattle.std.proofs.Common.{◌≡◌, ℕ, ◌+◌, ◌-◌, ◌<◌, ◌≤◌, Bool, true, false, List, [], ◌∷◌, ◌++◌}
use Rattle.std.proofs.Common.{length, take, drop, if◌then◌else◌, Some, None, sym, refl, ap}
use Rattle.std.proofs.Common.{◌∙◌, subst, append_assoc, arith, length-append, take-append-drop}
use Rattle.std.proofs.lemmas.List.{nil_from_length}
use Rattle.unit_streams.proofs.Accepted.{accepted_or_offended, leads_length}
use Rattle.unit_streams.{proofs.Fronts.whole_some, specs.Front.whole}
use Rattle.unit_streams.specs.Units.{AreShort, Counted, IsAccepted, size_of, UnitsLead}
use Rattle.nbfx_values.specs.{declared.session.Mode.Mode, Limits.IsGood}
use Rattle.nmf_records.specs.declared.frame.Frame.{Frame}
use Rattle.nmf_records.specs.declared.script.{Direction.Direction, Due.Due}
use Rattle.nmf_records.specs.Script.{due_behind as led_by, first}
use Rattle.nmf_records.proofs.WaysAreScripts.{script_is}
use Rattle.stream_reader.specs.Scripts.{IsModeOf}
use Rattle.stream_reader.specs.Sessions.{answer, broken_off, ClosedOrRefused, conversation, IsClosed}
use Rattle.stream_reader.specs.Sessions.{lone_ack, MayFollow, Parts, turned_down}
use Rattle.stream_reader.specs.Stream.{after, beginning, chunk_due, cut_off, direction_of, first_mode}
use Rattle.stream_reader.specs.Stream.{initiators, is_over_in, may_end_in, offence_at, open_from}
use Rattle.stream_reader.specs.Stream.{payload_open, receivers, record_due, Settings, Side, Situation}
use Rattle.stream_reader.specs.Stream.{Stage, stream, StreamUnit, unit_in}
use Rattle.stream_reader.proofs.{Accepted.HasMode, Accepted.unit_first, Ending.begun_on}
use Rattle.stream_reader.proofs.{FromScript.from_script, Grammar.readable, Grammar.within_quota}
use Rattle.stream_reader.proofs.Left.{as_due, from_first, Left, LeftAt}
use Rattle.stream_reader.proofs.LoneAck.{due_may_end, IsBehindMode, unit_keeps}
use Rattle.stream_reader.proofs.{SessionEnds.closed_offence, Situations.sound_unit}
use Rattle.stream_reader.proofs.Situations.{IsSound}
use Rattle.nbfx_values.specs.declared.refusals.Reason.TheVariants as reasons
use Rattle.nmf_records.specs.declared.frame.Frame.TheVariants as frames
use Rattle.nmf_records.specs.declared.script.Due.TheVariants as dues

module _ (x : Settings) (good : IsGood x.limits) (Stop : Type 0) where
  -- each situation is sound
  still_sound : (z : Situation) (from : ℕ) (bytes : List ℕ) (u : StreamUnit) (n : ℕ)
      → unit_in x z.stage from bytes ≡ whole u n → IsSound x z from
      → IsSound x (after x z from u) (from + n)
  still_sound z from bytes u n e h =
      sound_unit x z from n (whole_some (unit_in x z.stage from) ((readable x).reads z from)
      ((readable x).nothing z from) bytes u n e).0 h u

  -- where the input may end behind some units nothing is left
  ended_here : (z : Situation) (stage : Stage) (from n : ℕ) → z.stage ≡ stage
      → may_end_in x z.mode stage from n ≡ true
      → (is_over_in stage ≡ false → from ≡ n → Stop) → LeftAt x Stop z.mode z stage []
  ended_here z (record_due due) from n at may stop =
      as_due x Stop z.mode due _ [] (by_due due may stop)
    where
      by_due : (due : Due) → may_end_in x z.mode (record_due due) from n ≡ true
          → (is_over_in (record_due due) ≡ false → from ≡ n → Stop)
          → Left x Stop z.mode due (context_of z.kind z.strings []) []
      by_due dues.Over may stop =
          record { script = []; follows = refl; has = refl; stops = λ on. cc }
      by_due due may stop =
          let b = due_may_end x z.mode due from n may refl in
          record { script = []; follows = b.0; has = refl; stops = λ on. stop on b.1 }
  ended_here z (chunk_due o) from n at may stop = cc
  ended_here z (payload_open o) from n at may stop = cc

  -- whole units up to there are what is left of a script
  units_first : (units : List (Counted StreamUnit)) (z : Situation) (from : ℕ) (bytes : List ℕ)
      (z' : Situation) (rest : List ℕ) (n : ℕ) → IsSound x z from
      → UnitsLead (stream x) z from units bytes z' rest
      → may_end_in x z'.mode z'.stage (from + size_of units) n ≡ true
      → (is_over_in z'.stage ≡ false → from + size_of units ≡ n → Stop)
      → (c : List ℕ) × (bytes ≡ c ++ rest) × LeftAt x Stop z'.mode z z.stage c × HasMode z'.mode z
  unfolding UnitsLead size_of
  units_first [] z from bytes z' rest n sound l may stop = (
    [],
    l.1,
    rw l.0 (ended_here z' z'.stage (from + 0) n refl may stop),
    λ behind. ap (λ (s : Situation). s.mode) l.0,
  )
  units_first (one ∷ units) z from bytes z' rest n sound l may stop =
      let place : from + (one.size + size_of units) ≡ from + one.size + size_of units = omega arith
      in
      let (c, bytes_are, left, then_mode) = units_first units (after x z from one.unit)
      (from + one.size) (drop one.size bytes) z' rest n
      (still_sound z from bytes one.unit one.size l.0 sound) l.2
      (subst (λ (k : ℕ). may_end_in x z'.mode z'.stage k n ≡ true) place may)
      (λ on all. stop on (place ∙ all)) in
      let has_mode : HasMode z'.mode z = λ behind.
      let keeps = unit_keeps x z.mode z (refl, behind) z.stage from bytes one.unit one.size refl l.0
      in
      sym keeps.0 ∙ then_mode keeps.1 in (
        take one.size bytes ++ c,
        sym (take-append-drop one.size bytes) ∙ ap (λ b. take one.size bytes ++ b) bytes_are
            ∙ sym (append_assoc (take one.size bytes) c rest),
        unit_first x good Stop z'.mode z.stage z from bytes one.unit one.size c refl sound.dictionary
            sound.payload has_mode l.0 l.1 then_mode left,
        has_mode,
      )

-- behind the Ack a session isn't over
ack_on : (direction : Direction) (mode : Mode) (script : List Frame)
    → script ≡ frames.PreambleAck ∷ []
    → is_over_in (record_due (led_by direction mode (first direction) script)) ≡ false
ack_on direction mode script is = rw is (begun_on direction mode)

-- the mode of a stream is its side's
of_side : (side : Side) (mode : Mode)
    → (IsBehindMode (record_due (first (direction_of side))) → first_mode side ≡ mode)
    → IsModeOf side mode
of_side (initiators endpoint) mode has = tt
of_side (receivers own kind) mode has = sym (has tt)

module _ (x : Settings) (good : IsGood x.limits) where
  -- where a unit is read the session isn't over
  unit_going : (stage : Stage) (from : ℕ) (bytes : List ℕ) (u : StreamUnit) (n : ℕ)
      → unit_in x stage from bytes ≡ whole u n → is_over_in stage ≡ false
  unfolding unit_in
  unit_going (record_due dues.Over) from bytes u n e = cc
  unit_going (record_due _) from bytes u n e = refl
  unit_going (chunk_due o) from bytes u n e = refl
  unit_going (payload_open o) from bytes u n e = refl

  -- so units at no length too great end within the session quota
  units_within : (units : List (Counted StreamUnit)) (z : Situation) (from : ℕ) (bytes : List ℕ)
      (z' : Situation) (rest : List ℕ) → from ≤ x.limits.session
      → UnitsLead (stream x) z from units bytes z' rest → AreShort (stream x) z from units
      → from + size_of units ≤ x.limits.session
  unfolding UnitsLead AreShort size_of
  units_within [] z from bytes z' rest low l short = omega arith
  units_within (one ∷ units) z from bytes z' rest low l short =
      let some = (whole_some (unit_in x z.stage from) ((readable x).reads z from)
      ((readable x).nothing z from) bytes one.unit one.size l.0).0 in
      let last : ℕ = from + one.size - 1 in
      let below = within_quota x z.stage from last
      (unit_going z.stage from bytes one.unit one.size l.0)
      (short.0 last (omega (arith, some)) (omega (arith, some))) in
      let more = units_within units (after x z from one.unit) (from + one.size)
      (drop one.size bytes)
      z' rest (omega (arith, some, below)) l.2 short.1 in
      omega (arith, more)

  -- nothing follows a lone Ack, which is below the quota
  record Stopped (rest bytes : List ℕ) : Type 0 where
    nothing : rest ≡ []
    below : length bytes < x.limits.session

  may_end_of_none : (mode : Mode) (stage : Stage) (from n : ℕ) → cut_off x mode stage from n ≡ None
      → may_end_in x mode stage from n ≡ true
  unfolding cut_off
  may_end_of_none mode stage from n none = go (may_end_in x mode stage from n) refl none where
    go : (b : Bool) → may_end_in x mode stage from n ≡ b
        → (if b then None else Some (offence_at (open_from stage from) reasons.Truncated)) ≡ None
        → may_end_in x mode stage from n ≡ true
    go true e h = e
    go false e h = cc

  follows : (parts : Parts) (rest : List ℕ) → (parts ≡ lone_ack → rest ≡ []) → MayFollow parts rest
  follows lone_ack rest nothing = nothing refl
  follows (conversation mode kind via carried) rest nothing = tt
  follows (answer carried) rest nothing = tt
  follows (broken_off carried text) rest nothing = tt
  follows (turned_down text) rest nothing = tt

  pub accepted_closed : (bytes : List ℕ) → IsAccepted (stream x) bytes → IsClosed x bytes
  accepted_closed bytes a =
      let size = leads_length (stream x) (readable x) a.units (beginning x) 0 bytes a.situation
      a.rest a.lead in
      let low = units_within a.units (beginning x) 0 bytes a.situation a.rest (omega arith) a.lead
      a.units_short in
      let may = may_end_of_none a.situation.mode a.situation.stage (size_of a.units) (length bytes)
      a.may_end in
      let same : 0 + size_of a.units ≡ size_of a.units = omega arith in
      let stop : is_over_in a.situation.stage ≡ false → 0 + size_of a.units ≡ length bytes
      → Stopped a.rest bytes = λ on all. record {
        nothing = nil_from_length a.rest (omega (arith, size, all));
        below = within_quota x a.situation.stage (size_of a.units) (length bytes) on
            (a.rest_short (length bytes) (omega (arith, all)) (omega arith));
      } in
      let h = units_first x good (Stopped a.rest bytes) a.units (beginning x) 0 bytes a.situation
      a.rest (length bytes)
      (record { messages_within = omega arith; dictionary = omega arith; payload = tt }) a.lead
      (subst (λ (n : ℕ). may_end_in x a.situation.mode a.situation.stage n (length bytes) ≡ true)
      (sym same) may) stop in
      let mode : Mode = a.situation.mode in
      let left = from_first x (Stopped a.rest bytes) mode (direction_of x.side) _ h.0 h.2 in
      let alone : left.script ≡ frames.PreambleAck ∷ [] → Stopped a.rest bytes = λ is.
      left.stops (ack_on (direction_of x.side) mode left.script is) in
      let all : length bytes ≡ length h.0 + length a.rest =
      ap length h.1 ∙ length-append h.0 a.rest in
      let p = from_script x x.side mode left.script h.0 (of_side x.side mode h.3)
      (script_is (direction_of x.side) mode left.script left.follows) left.has
      (omega (arith, low, size, all), λ is. let below = (alone is).below in omega (arith, all, below))
      in
      record {
        parts = p.0;
        session = h.0;
        rest = a.rest;
        joined = h.1;
        is_session = (p.1, p.2);
        may_follow = follows p.0 a.rest (λ is. (alone (p.3 is)).nothing);
      }

pub closed_or_refused : ClosedOrRefused
closed_or_refused x good bytes = (
  (λ none. accepted_closed x good bytes ((accepted_or_offended (stream x) (readable x) bytes).0
      none)),
  closed_offence x good bytes,
)
