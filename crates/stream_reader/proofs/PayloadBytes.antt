-- Bytes of a payload in a stream of either side: where they lead, what they complete and why they
-- are
-- refused is said by the payload's own grammar.
use Rattle.std.proofs.Common.{◌≡◌, ℕ, zero, suc, ◌+◌, ◌-◌, ◌<◌, ◌≤◌, Bool, true, false, not, ◌&&◌}
use Rattle.std.proofs.Common.{List, [], ◌∷◌, ◌++◌, length, take, if◌then◌else◌, ◌==◌, Some, None}
use Rattle.std.proofs.Common.{Option, option_map, sym, refl, ap, ◌∙◌, subst, inl, inr, append_assoc}
use Rattle.std.proofs.Common.{append-nil, arith, length-append, length-take-le, ne_eqb}
use Rattle.std.{proofs.Math.Nat.eq-or-lt_of_le, specs.Option.option_or}
use Rattle.unit_streams.proofs.Passing.{event_from, going_refusal, refusal_from}
use Rattle.{unit_streams.proofs.Refusals.unit_standing, nmf_records.specs.Records.Read}
use Rattle.unit_streams.proofs.Standing.{standing_append, standing_length}
use Rattle.unit_streams.specs.{Front.whole, Front.wrong_of, Refusals.AreUnits}
use Rattle.unit_streams.specs.Going.{IsGoing, IsQuiet, IsQuietBefore}
use Rattle.unit_streams.specs.Grammar.{Standing, standing}
use Rattle.unit_streams.specs.Judging.{ending_at, event_at, refusal_at, refusal_of}
use Rattle.nbfx_values.specs.declared.refusals.Offence.{Offence}
use Rattle.nbfx_decoder.{proofs.Readable.readable as payload_readable, specs.Payload.Refusal}
use Rattle.stream_reader.specs.Stream.{after, after_bare, behind_payload, chunk_due, completed}
use Rattle.stream_reader.specs.Stream.{completed_bare, completed_payload, frame, is_chunked}
use Rattle.stream_reader.specs.Stream.{offence_in, on_open, on_payload, OpenPayload}
use Rattle.stream_reader.specs.Stream.{payload_by, payload_byte, payload_in, payload_open, payloads}
use Rattle.stream_reader.specs.Stream.{PayloadStanding, refusal_in, refused, refused_payload}
use Rattle.stream_reader.specs.Stream.{refused_record, Settings, Situation, Stage, stream}
use Rattle.stream_reader.specs.Stream.{StreamEvent, too_long, unit_in, with_byte}
use Rattle.stream_reader.proofs.Grammar.{readable, short_enough}
use Rattle.stream_reader.proofs.Outcomes.{chunk_behind}
use Rattle.stream_reader.proofs.Outcomes.{more_behind, more_completed}
use Rattle.stream_reader.proofs.Situations.{IsBehind, nothing_begun}

-- a payload of this offset, size and form behind these of its bytes
abbrev pub payload_behind : Settings → Situation → OpenPayload → List ℕ → OpenPayload
payload_behind x z o bytes =
    record o { left = o.size - length bytes; standing = standing (payload_in x z) bytes }

-- where a stream of so many bytes stands behind bytes of a payload, the last of which is its last
abbrev pub stands_so : Settings → Situation → OpenPayload → ℕ
    → Standing Situation StreamEvent Offence
stands_so x z p n = record {
  situation = behind_payload x z p;
  from = n;
  begun = [];
  event = completed_payload x z p;
  refusal = refused_payload x z p;
}

-- without another
alone : {A : Type 0} (v : Option A) → option_or v None ≡ v
alone None = refl
alone (Some a) = refl

-- a payload that stands so
pub behind_is : (x : Settings) (z : Situation) (o : OpenPayload) (bytes : List ℕ)
    → IsBehind x z o bytes → o ≡ payload_behind x z o bytes
behind_is x z o bytes h =
    let rest : o.left ≡ o.size - length bytes = let n = h.counted in omega (arith, n) in
    ap (λ (s : PayloadStanding). record o { standing = s }) h.standing_is
    ∙ ap (λ n. record o { left = n; standing = standing (payload_in x z) bytes }) rest

module _ (x : Settings) (z : Situation) (o : OpenPayload) where
  -- one byte more
  pub with_byte_is : (bytes : List ℕ) (byte : ℕ)
      → with_byte x z (payload_behind x z o bytes) byte ≡ payload_behind x z o (bytes ++ byte ∷ [])
  with_byte_is bytes byte =
      let less : o.size - length bytes - 1 ≡ o.size - length (bytes ++ byte ∷ []) =
      let n = length-append bytes (byte ∷ []) in omega (arith, n) in
      ap (λ (s : PayloadStanding). record o { left = o.size - length bytes - 1; standing = s })
      (sym (standing_append (payload_in x z) (payload_readable (payloads x z.kind) z.strings)
      bytes (byte ∷ [])))
      ∙ ap (λ n. record o { left = n; standing = standing (payload_in x z) (bytes ++ byte ∷ []) })
      less

  module _ (bytes : List ℕ) where
    abbrev here : OpenPayload
    here = payload_behind x z o bytes

    own_refusal : length bytes ≤ o.size
        → refusal_of (payload_in x z) (standing (payload_in x z) bytes)
        (o.size - (o.size - length bytes)) ≡ refusal_at (payload_in x z) bytes
    own_refusal le =
        let all : o.size - (o.size - length bytes) ≡ length bytes = omega arith in
        ap (refusal_of (payload_in x z) (standing (payload_in x z) bytes)) all
        ∙ sym (refusal_from (payload_in x z) bytes (standing (payload_in x z) bytes) refl)

    -- where there are more to come they are refused as the payload's bytes are
    pub refusal_before : length bytes < o.size
        → refusal_in x z (payload_behind x z o bytes) ≡ refusal_at (payload_in x z) bytes
    refusal_before lt =
        let some : ((o.size - length bytes) == 0) ≡ false =
        ne_eqb (o.size - length bytes) 0 (λ e. omega arith) in
        rw (own_refusal (omega arith), some) (alone (refusal_at (payload_in x z) bytes))

    -- and so where another chunk is
    pub refusal_between : length bytes ≤ o.size → is_chunked o.form ≡ true
        → refusal_in x z (payload_behind x z o bytes) ≡ refusal_at (payload_in x z) bytes
    refusal_between le chunked = rw (own_refusal le, chunked)
        (between ((o.size - length bytes) == 0))
      where
        between : (b : Bool) → option_or (refusal_at (payload_in x z) bytes)
            (if b && not true then (payload_in x z).at_end
            (standing (payload_in x z) bytes).situation (standing (payload_in x z) bytes).from
            o.size
            else None) ≡ refusal_at (payload_in x z) bytes
        between true = alone (refusal_at (payload_in x z) bytes)
        between false = alone (refusal_at (payload_in x z) bytes)

    -- where they are all, as these are, or else as their end is
    pub refusal_all : length bytes ≡ o.size → is_chunked o.form ≡ false
        → refusal_in x z (payload_behind x z o bytes)
        ≡ option_or (refusal_at (payload_in x z) bytes) (ending_at (payload_in x z) bytes)
    unfolding ending_at
    refusal_all e last =
        let none : ((o.size - length bytes) == 0) ≡ true =
        let zero_left : o.size - length bytes ≡ 0 = omega arith in ap (λ n. n == 0) zero_left in
        rw (own_refusal (omega arith), none, last) refl

-- behind whole units, within a payload of which these bytes have come; of the situation z only the
-- stage is another one
pub record IsWithin (x : Settings) (p : List ℕ) (z : Situation) (o : OpenPayload) (bytes : List ℕ)
    : Type 0 where
  pub units : AreUnits (stream x) p
  pub situation : (standing (stream x) p).situation
      ≡ record z { stage = payload_open (payload_behind x z o bytes) }
  pub more : length bytes < o.size

-- where whole units stand
pub units_place : (x : Settings) (p : List ℕ) → AreUnits (stream x) p
    → (standing (stream x) p).from ≡ length p
units_place x p units =
    let n = standing_length (stream x) (readable x) p in
    let none = ap length units in omega (arith, n, none)

-- where a stream is within one
pub within_open : (x : Settings) (p : List ℕ) (o : OpenPayload) (bytes : List ℕ)
    → (standing (stream x) p).situation.stage ≡ payload_open o
    → IsBehind x (standing (stream x) p).situation o bytes → 0 < o.left
    → IsWithin x p (standing (stream x) p).situation o bytes
within_open x p o bytes at h some = record {
  units = nothing_begun x p o at;
  situation =
      ap (λ (stage : Stage). record (standing (stream x) p).situation { stage = stage })
      (at ∙ ap payload_open (behind_is x (standing (stream x) p).situation o bytes h));
  more = let n = h.counted in omega (arith, n, some);
}

-- behind a record that makes or resumes a payload
module _ (x : Settings) (before bytes : List ℕ) (read : Read) (o : OpenPayload)
    (units : AreUnits (stream x) before)
    (reads : unit_in x (standing (stream x) before).situation.stage
    (standing (stream x) before).from bytes ≡ whole (frame read) (length bytes))
    (made : payload_by x (standing (stream x) before).situation (length before) read.frame ≡ Some o)
  where
    abbrev by_record : Situation → ℕ → Option OpenPayload → Standing Situation StreamEvent Offence
    by_record s n v = record {
      situation = on_payload v (behind_payload x s) (after_bare x s read.frame read.text);
      from = length (before ++ bytes);
      begun = [];
      event = on_payload v (completed_payload x s)
          (completed_bare s (length (before ++ bytes)) read.frame read.text);
      refusal = refused_record x s n read.frame read.text;
    }

    pub made_stands : standing (stream x) (before ++ bytes) ≡ record {
      situation = behind_payload x (standing (stream x) before).situation o;
      from = length (before ++ bytes);
      begun = [];
      event = completed_payload x (standing (stream x) before).situation o;
      refusal = refused_record x (standing (stream x) before).situation (length before) read.frame
          read.text;
    }
    unfolding after completed refused
    made_stands =
        let s : Situation = (standing (stream x) before).situation in
        let place : (standing (stream x) before).from ≡ length before = units_place x before units
        in
        let all : length before + length bytes ≡ length (before ++ bytes) =
        sym (length-append before bytes) in
        unit_standing (stream x) (readable x) before bytes (frame read) units reads
        ∙ ap (λ n. record {
          situation = after x s n (frame read);
          from = n + length bytes;
          begun = [];
          event = completed x s n (n + length bytes) (frame read);
          refusal = refused x s n (frame read);
        }) place
        ∙ ap (λ n. record {
          situation = after x s (length before) (frame read);
          from = n;
          begun = [];
          event = completed x s (length before) n (frame read);
          refusal = refused x s (length before) (frame read);
        }) all
        ∙ ap (by_record s (length before)) made

module _ (x : Settings) (p : List ℕ) (z : Situation) (o : OpenPayload) (bytes : List ℕ)
    (at : IsWithin x p z o bytes) where
  -- a byte behind a situation
  abbrev by_byte : ℕ → ℕ → Situation → Standing Situation StreamEvent Offence
  by_byte y n s = record {
    situation = on_open s.stage (λ q. behind_payload x s (with_byte x s q y))
        s;
    from = n;
    begun = [];
    event = on_open s.stage
        (λ q. completed_payload x s (with_byte x s q y)) None;
    refusal = on_open s.stage
        (λ q. refused_payload x s (with_byte x s q y)) None;
  }

  -- one byte more
  one_stands : (y : ℕ) → standing (stream x) (p ++ y ∷ [])
      ≡ stands_so x z (payload_behind x z o (bytes ++ y ∷ [])) (length (p ++ y ∷ []))
  unfolding after completed refused unit_in
  one_stands y =
      let place : (standing (stream x) p).from + 1 ≡ length (p ++ y ∷ []) = let n = units_place x p
      at.units in let m = length-append p (y ∷ []) in omega (arith, n, m) in
      let reads : unit_in x (standing (stream x) p).situation.stage (standing (stream x) p).from
      (y ∷ []) ≡ whole (payload_byte y) 1 = rw at.situation refl in
      unit_standing (stream x) (readable x) p (y ∷ []) (payload_byte y) at.units reads
      ∙ ap (by_byte y ((standing (stream x) p).from + 1)) at.situation
      ∙ ap (λ (q : OpenPayload). stands_so x z q ((standing (stream x) p).from + 1))
      (with_byte_is x z o bytes y)
      ∙ ap (stands_so x z (payload_behind x z o (bytes ++ y ∷ []))) place

  -- and where it isn't the last
  one_within : (y : ℕ) → length bytes + 1 < o.size → IsWithin x (p ++ y ∷ []) z o (bytes ++ y ∷ [])
  one_within y lt =
      let s = one_stands y in
      let longer : length (bytes ++ y ∷ []) ≡ length bytes + 1 = length-append bytes (y ∷ []) in
      record {
        units = ap (λ (t : Standing Situation StreamEvent Offence). t.begun) s;
        situation = ap (λ (t : Standing Situation StreamEvent Offence). t.situation) s ∙ more_behind
            x z (payload_behind x z o (bytes ++ y ∷ [])) (omega arith);
        more = omega (arith, longer, lt);
      }

-- so do more bytes
pub bytes_stand : (x : Settings) (c p : List ℕ) (z : Situation) (o : OpenPayload) (bytes : List ℕ)
    → IsWithin x p z o bytes → 0 < length c → length bytes + length c ≤ o.size
    → standing (stream x) (p ++ c) ≡ stands_so x z (payload_behind x z o (bytes ++ c))
    (length (p ++ c))
bytes_stand x [] p z o bytes at some le = absurd (omega arith)
bytes_stand x (y ∷ []) p z o bytes at some le = one_stands x p z o bytes at y
bytes_stand x (y ∷ d ∷ c) p z o bytes at some le =
    let longer : length (bytes ++ y ∷ []) ≡ length bytes + 1 = length-append bytes (y ∷ []) in
    subst (λ (b : List ℕ). standing (stream x) (p ++ y ∷ d ∷ c)
    ≡ stands_so x z (payload_behind x z o b) (length (p ++ y ∷ d ∷ c)))
    (append_assoc bytes (y ∷ []) (d ∷ c))
    (subst (λ (b : List ℕ). standing (stream x) b
    ≡ stands_so x z (payload_behind x z o ((bytes ++ y ∷ []) ++ d ∷ c)) (length b))
    (append_assoc p (y ∷ []) (d ∷ c))
    (bytes_stand x (d ∷ c) (p ++ y ∷ []) z o (bytes ++ y ∷ [])
    (one_within x p z o bytes at y (omega (arith, le))) (omega arith) (omega (arith, longer, le))))

module _ (x : Settings) (p : List ℕ) (z : Situation) (o : OpenPayload) (bytes : List ℕ)
    (at : IsWithin x p z o bytes) (c : List ℕ) (some : 0 < length c)
    (le : length bytes + length c ≤ o.size) where
  abbrev there : OpenPayload
  there = payload_behind x z o (bytes ++ c)

  -- what the last of them completes, and why they are refused
  pub bytes_event : event_at (stream x) (p ++ c) ≡ completed_payload x z
      (payload_behind x z o (bytes ++ c))
  bytes_event = event_from (stream x) (p ++ c) _ (bytes_stand x c p z o bytes at some le)

  -- so that nothing but the length can refuse them that the payload isn't refused by
  abbrev by_length : Option Offence
  by_length = too_long x (behind_payload x z (payload_behind x z o (bytes ++ c))).stage
      (length (p ++ c)) (length (p ++ c))

  pub bytes_refusal : refusal_at (stream x) (p ++ c)
      ≡ option_or (refused_payload x z (payload_behind x z o (bytes ++ c))) by_length
  bytes_refusal =
      refusal_from (stream x) (p ++ c) _ (bytes_stand x c p z o bytes at some le)
      ∙ ap (λ v. option_or (refused_payload x z there) (option_or (wrong_of v) by_length))
      ((readable x).nothing (behind_payload x z there) (length (p ++ c)))

  refused_as : (v : Option Refusal) → refusal_in x z there ≡ v → refusal_at (stream x) (p ++ c)
      ≡ option_or (option_map (offence_in z.messages) v) by_length
  refused_as v e = bytes_refusal ∙ ap (λ v. option_or (option_map (offence_in z.messages) v)
      by_length) e

  pub bytes_refused : (r : Refusal) → refusal_in x z (payload_behind x z o (bytes ++ c)) ≡ Some r
      → refusal_at (stream x) (p ++ c) ≡ Some (offence_in z.messages r)
  bytes_refused r e = refused_as (Some r) e

  pub bytes_unrefused : refusal_in x z (payload_behind x z o (bytes ++ c)) ≡ None → length (p ++ c)
      < x.limits.session → refusal_at (stream x) (p ++ c) ≡ None
  bytes_unrefused e short = refused_as None e ∙ short_enough x (behind_payload x z there).stage
      (length (p ++ c)) (length (p ++ c)) short

  pub bytes_going : refusal_in x z (payload_behind x z o (bytes ++ c)) ≡ None → IsGoing (stream x)
      (standing (stream x) (p ++ c))
  bytes_going e =
      subst (IsGoing (stream x)) (sym (bytes_stand x c p z o bytes at some le)) (record {
        next = (readable x).nothing (behind_payload x z there) (length (p ++ c));
        last = ap (option_map (offence_in z.messages)) e;
      })

  pub bytes_units : AreUnits (stream x) (p ++ c)
  bytes_units = ap (λ (t : Standing Situation StreamEvent Offence). t.begun)
      (bytes_stand x c p z o bytes at some le)

  bytes_situation : (standing (stream x) (p ++ c)).situation ≡ behind_payload x z
      (payload_behind x z o (bytes ++ c))
  bytes_situation = ap (λ (t : Standing Situation StreamEvent Offence). t.situation)
      (bytes_stand x c p z o bytes at some le)

  longer : length (bytes ++ c) ≡ length bytes + length c
  longer = length-append bytes c

  -- where they aren't the last of the payload
  module _ (more : length bytes + length c < o.size) where
    pub more_eventless : event_at (stream x) (p ++ c) ≡ None
    more_eventless = bytes_event ∙ more_completed x z there (omega (arith, longer, more))

    pub more_refusal : refusal_in x z (payload_behind x z o (bytes ++ c))
        ≡ refusal_at (payload_in x z) (bytes ++ c)
    more_refusal = refusal_before x z o (bytes ++ c) (omega (arith, longer, more))

  -- where they are the last of a chunk, and another one comes
  module _ (all : length bytes + length c ≡ o.size) where
    none_left : there.left ≡ 0
    none_left = omega (arith, longer, all)

    module _ (chunked : is_chunked o.form ≡ true) where
      pub between_situation : (standing (stream x) (p ++ c)).situation
          ≡ record z { stage = chunk_due (payload_behind x z o (bytes ++ c)) }
      between_situation = bytes_situation ∙ (chunk_behind x z there none_left chunked).0

      pub between_refusal : refusal_in x z (payload_behind x z o (bytes ++ c))
          ≡ refusal_at (payload_in x z) (bytes ++ c)
      between_refusal = refusal_between x z o (bytes ++ c) (omega (arith, longer, all)) chunked

    -- or the last of all
    module _ (last : is_chunked o.form ≡ false) where
      pub last_refusal : refusal_in x z (payload_behind x z o (bytes ++ c))
          ≡ option_or (refusal_at (payload_in x z) (bytes ++ c))
          (ending_at (payload_in x z) (bytes ++ c))
      last_refusal = refusal_all x z o (bytes ++ c) (omega (arith, longer, all)) last

-- k bytes of a piece behind p
module _ (x : Settings) (p : List ℕ) (z : Situation) (o : OpenPayload) (bytes : List ℕ)
    (at : IsWithin x p z o bytes) (y : List ℕ) (k : ℕ) (within : k ≤ length y)
    (le : length bytes + k ≤ o.size) where
  taken : (i : ℕ) → i ≤ k → length (take i y) ≡ i
  taken i few = length-take-le i y (omega arith)

  -- fewer than all of them
  module _ (i : ℕ) (some : 0 < i) (lt : i < k) where
    few_some : 0 < length (take i y)
    few_some = let n = taken i (omega arith) in omega (arith, n, some)

    few_within : length bytes + length (take i y) < o.size
    few_within = let n = taken i (omega arith) in omega (arith, n, le, lt)

    few_eventless : event_at (stream x) (p ++ take i y) ≡ None
    few_eventless = more_eventless x p z o bytes at (take i y) few_some (omega (arith, few_within))
        few_within

    few_unrefused : refusal_at (payload_in x z) (bytes ++ take i y) ≡ None → length p + k
        ≤ x.limits.session → refusal_at (stream x) (p ++ take i y) ≡ None
    few_unrefused none short =
        bytes_unrefused x p z o bytes at (take i y) few_some (omega (arith, few_within))
        (more_refusal x p z o bytes at (take i y) few_some (omega (arith, few_within)) few_within ∙
        none)
        (let n = length-append p (take i y) in let m = taken i (omega arith) in omega
        (arith, n, m, short, lt))

  -- decide nothing before the last, where the payload isn't refused before it
  module _ (short : length p + k ≤ x.limits.session)
      (going : IsGoing (stream x) (standing (stream x) p))
      (none : (i : ℕ) → i < k → refusal_at (payload_in x z) (bytes ++ take i y) ≡ None) where
    unrefused : (i : ℕ) → i < k → refusal_at (stream x) (p ++ take i y) ≡ None
    unrefused zero lt =
        ap (refusal_at (stream x)) (append-nil p) ∙ refusal_from (stream x) p
        (standing (stream x) p) refl ∙ going_refusal (stream x) (standing (stream x) p) (length p)
        going
        ∙ short_enough x (standing (stream x) p).situation.stage (standing (stream x) p).from
        (length p) (omega (arith, short, lt))
    unrefused (suc i) lt = few_unrefused (suc i) (omega arith) lt (none (suc i) lt) short

    pub payload_quiet_before : IsQuietBefore (stream x) p y k
    payload_quiet_before = record {
      within = within;
      unrefused = unrefused;
      eventless =
          few_eventless;
    }

    -- nor at it, where that completes nothing
    pub payload_quiet : event_at (stream x) (p ++ take k y) ≡ None → IsQuiet (stream x) p y k
    payload_quiet last = record {
      within = within;
      unrefused = unrefused;
      eventless = λ i some few.
          elim (eq-or-lt_of_le few) [
            | inl same ↦ ap (λ n. event_at (stream x) (p ++ take n y)) same ∙ last
            | inr lt ↦ few_eventless i some lt
          ];
    }
