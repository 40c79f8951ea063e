-- A decoder takes bytes of one unit.
use Rattle.std.proofs.Common.{◌≡◌, ℕ, ◌+◌, ◌-◌, ◌<◌, ◌≤◌, List, [], ◌∷◌, ◌++◌, length, take, drop}
use Rattle.std.proofs.Common.{IsErrAnd, Some, None, Ok, Err, Result, sym, refl, ap, ◌∙◌, subst, inl}
use Rattle.std.proofs.Common.{inr, append_assoc, arith, length-append, take-append-drop}
use Rattle.std.proofs.{Common.length-take-le, Math.Seq.take-append-add, Math.Seq.take-length}
use Rattle.std.proofs.lemmas.{Bool.cases_lt, List.take-append-le, Result.err_from_is_err_and}
use Rattle.{std.specs.Option.option_or, unit_streams.proofs.Standing.standing_length}
use Rattle.unit_streams.proofs.Fronts.{leaves_or_decides, left_begun}
use Rattle.unit_streams.proofs.Passing.{given_none, leaves_quiet, leaves_standing, whole_quiet}
use Rattle.unit_streams.proofs.Passing.{whole_refusal, whole_standing, wrong_quiet, wrong_refusal}
use Rattle.unit_streams.proofs.{Passing.wrong_standing, Quiet.quiet_behind}
use Rattle.unit_streams.proofs.Peeling.{Decides, extent, Leaves}
use Rattle.unit_streams.specs.Front.{begun, Front, ReadsFront, whole, wrong}
use Rattle.unit_streams.specs.{Going.IsGoing, Going.IsQuiet, Judging.refusal_at}
use Rattle.unit_streams.specs.Grammar.{Standing, standing, with_more}
use Rattle.nbfx_values.specs.declared.refusals.Reason.{Reason}
use Rattle.nbfx_decoder.specs.declared.{decoder.Decoder.Decoder, faults.UnitFault.UnitFault}
use Rattle.nbfx_decoder.specs.declared.faults.UnitFault.TheVariants.{Memory, Refused}
use Rattle.nbfx_decoder.specs.declared.units.UnitRead.TheVariants.{Done, More}
use Rattle.nbfx_decoder.specs.{declared.units.UnitReader.UnitReader, Taking.TakeAnswers}
use Rattle.nbfx_decoder.specs.DecoderState.{begun_of, from_of, Reached, situation_of}
use Rattle.nbfx_decoder.specs.Payload.{after, node, NoEvent, payload, PayloadUnit, Refusal, refusal}
use Rattle.nbfx_decoder.specs.Payload.{refusal_from, refused, Settings, Situation, table_size}
use Rattle.nbfx_decoder.specs.Payload.{table_string, unit_in}
use Rattle.nbfx_decoder.specs.Units.{AwaitsBytes, HasStrings, IsAt, IsUnitRefused, UnitAnswers}
use Rattle.nbfx_decoder.proofs.{Readable.readable, Readable.reads_unit, Waits.waits_now}

-- a unit that is refused by what it says adds no string
adds_none : (x : Settings) (z : Situation) (u : PayloadUnit) (reason : Reason) → refused x z u
    ≡ Some reason → (after x z u).strings ≡ z.strings
unfolding after refused
adds_none x z (table_size n) reason e = cc
adds_none x z (table_string s) reason e = cc
adds_none x z (node n) reason e = refl

module _ (x : Settings) (strings : List (List ℕ)) (p c : List ℕ)
    (going : IsGoing (payload x strings) (standing (payload x strings) p)) where
  abbrev situation_here : Situation
  situation_here = situation_of x strings p

  abbrev from_here : ℕ
  from_here = from_of x strings p

  abbrev begun_here : List ℕ
  begun_here = begun_of x strings p

  abbrev front : List ℕ → Front PayloadUnit Refusal
  front = unit_in x situation_here from_here

  -- more bytes decide it where they make it whole or wrong
  decides_so : (v : Front PayloadUnit Refusal) → front (begun_here ++ c) ≡ v → (v ≡ begun → ⊥)
      → (n : ℕ) × (extent v ≡ length begun_here + n) × Decides front begun_here c n
  decides_so v e said =
      elim (leaves_or_decides front ((readable x strings).reads situation_here from_here) begun_here
      c going.next) [
        | inl l ↦ absurd (said (sym e ∙ l.at_end))
        | inr d ↦ (d.0, ap extent (sym e) ∙ d.1.extent_is, d.1)
      ]

  -- it stands so behind more bytes
  reached_at : (new : Decoder) (q : List ℕ) (d : Standing Situation NoEvent Refusal)
      → standing (payload x strings) q ≡ d → IsAt new.units x d.situation d.from → new.begun
      ≡ d.begun
      → (0 < length new.begun → AwaitsBytes (unit_in x d.situation d.from) new.begun new.wants)
      → IsGoing (payload x strings) d → new.failure ≡ None → Reached new x strings q
  reached_at new q d e at kept waits on unfailed = record {
    at = subst (λ (s : Standing Situation NoEvent Refusal). IsAt new.units x s.situation s.from)
        (sym e) at;
    begun = subst (λ (s : Standing Situation NoEvent Refusal). new.begun ≡ s.begun) (sym e) kept;
    waits = λ more. subst (λ (s : Standing Situation NoEvent Refusal). AwaitsBytes
        (unit_in x s.situation s.from) new.begun new.wants) (sym e) (waits more);
    going = subst (λ (s : Standing Situation NoEvent Refusal). IsGoing (payload x strings) s)
        (sym e) on;
    unfailed = unfailed;
  }

  -- they leave it begun
  module _ (e : front (begun_here ++ c) ≡ begun) (some : 0 < length c) where
    leaves : Leaves front begun_here c
    leaves = left_begun front ((readable x strings).reads situation_here from_here) begun_here c
        going.next e

    there : standing (payload x strings) (p ++ c) ≡ with_more (standing (payload x strings) p) c
    there = leaves_standing (payload x strings) (readable x strings) p c going leaves (λ i lt. refl)

    quiet : IsQuiet (payload x strings) p c (length c)
    quiet = leaves_quiet (payload x strings) (readable x strings) p c going leaves (λ i lt. refl)

    on : IsGoing (payload x strings) (with_more (standing (payload x strings) p) c)
    on = record {
      next = e;
      last = given_none (begun_here ++ c)
          (standing (payload x strings) p).refusal
          (let n = length-append begun_here c in omega (arith, n, some));
    }

    pub takes_all : (new : Decoder) (wants : ℕ) → IsAt new.units x situation_here from_here
        → new.begun ≡ begun_here ++ c → new.wants ≡ wants → AwaitsBytes front (begun_here ++ c)
        wants → new.failure ≡ None → TakeAnswers x strings p c new (Ok (length c))
    takes_all new wants at kept wanted waits unfailed =
        let all : p ++ take (length c) c ≡ p ++ c = ap (λ d. p ++ d) (take-length c) in
        let same : standing (payload x strings) (p ++ take (length c) c)
        ≡ with_more (standing (payload x strings) p) c = ap (standing (payload x strings)) all ∙
        there in (
          some,
          quiet,
          reached_at new (p ++ take (length c) c) (with_more (standing (payload x strings) p) c)
              same at kept (λ more. rw (kept, wanted) waits) on unfailed,
        )

  -- they make it whole
  module _ (u : PayloadUnit) (k : ℕ) (e : front (begun_here ++ c) ≡ whole u k) where
    pub by_last : (n : ℕ) × (k ≡ length begun_here + n) × Decides front begun_here c n
    by_last = decides_so (whole u k) e (λ h. cc)

    abbrev pub last_of : ℕ
    last_of = by_last.0

    pub last_size : k ≡ length begun_here + last_of
    last_size = by_last.1

    abbrev closed : Standing Situation NoEvent Refusal
    closed = record {
      situation = after x situation_here u;
      from = from_here
          + k;
      begun = [];
      event = None;
      refusal = refusal_from from_here (refused x situation_here u);
    }

    whole_there : standing (payload x strings) (p ++ take last_of c) ≡ closed
    whole_there = whole_standing (payload x strings) (readable x strings) p c going last_of
        by_last.2 (λ i lt. refl) u k e

    pub unit_quiet : IsQuiet (payload x strings) p c last_of
    unit_quiet = whole_quiet (payload x strings) (readable x strings) p c going last_of by_last.2
        (λ i lt. refl) u k e refl

    pub takes_unit : refused x situation_here u ≡ None → (new : Decoder) → IsAt new.units x
        (after x situation_here u) (from_here + k) → new.begun ≡ [] → new.failure ≡ None
        → TakeAnswers x strings p c new (Ok last_of)
    takes_unit good new at none unfailed = (
      by_last.2.some,
      unit_quiet,
      reached_at new (p ++ take last_of c) closed whole_there at none
          (λ more. absurd (let n = ap length none in omega (arith, n, more)))
          (record {
            next = (readable x strings).nothing (after x situation_here u) (from_here + k);
            last = ap (refusal_from from_here) good;
          }) unfailed,
    )

    -- of so many bytes
    pub takes_unit_of : (n : ℕ) → k ≡ length begun_here + n → refused x situation_here u ≡ None
        → (new : Decoder) → IsAt new.units x (after x situation_here u) (from_here + k) → new.begun
        ≡ [] → new.failure ≡ None
        → TakeAnswers x strings p c new (Ok n)
    takes_unit_of n size good new at none unfailed =
        let last = last_size in
        let same : last_of ≡ n = omega (arith, size, last) in
        subst (λ (m : ℕ). TakeAnswers x strings p c new (Ok m)) same
        (takes_unit good new at none unfailed)

    pub unit_refused : (reason : Reason) → refused x situation_here u ≡ Some reason
        → refusal_at (payload x strings) (p ++ take last_of c) ≡ Some (refusal from_here reason)
    unit_refused reason bad =
        whole_refusal (payload x strings) (readable x strings) p c going last_of by_last.2
        (λ i lt. refl) u k e
        ∙ ap (λ v. option_or (refusal_from from_here v) None) bad

    pub unit_strings : (reason : Reason) → refused x situation_here u ≡ Some reason
        → (situation_of x strings (p ++ take last_of c)).strings ≡ situation_here.strings
    unit_strings reason bad = ap (λ (s : Standing Situation NoEvent Refusal). s.situation.strings)
        whole_there ∙ adds_none x situation_here u reason bad

  -- they show it to be wrong
  module _ (r : Refusal) (k : ℕ) (e : front (begun_here ++ c) ≡ wrong r k) where
    by_wrong : (n : ℕ) × (k ≡ length begun_here + n) × Decides front begun_here c n
    by_wrong = decides_so (wrong r k) e (λ h. cc)

    pub shows_wrong : (new : UnitReader) → HasStrings new x situation_here.strings from_here
        → (n : ℕ) × IsQuiet (payload x strings) p c n
        × (refusal_at (payload x strings) (p ++ take n c) ≡ Some r) × (from_here + k ≡ length p + n)
        × HasStrings new x (situation_of x strings (p ++ take n c)).strings from_here
    shows_wrong new set =
        let there = wrong_standing (payload x strings) (readable x strings) p c going by_wrong.0
        by_wrong.2 (λ i lt. refl) r k e in
        let place = standing_length (payload x strings) (readable x strings) p in
        let size = by_wrong.1 in (
          by_wrong.0,
          wrong_quiet (payload x strings) (readable x strings) p c going by_wrong.0 by_wrong.2
              (λ i lt. refl) r k e,
          wrong_refusal (payload x strings) (readable x strings) p c going by_wrong.0 by_wrong.2
              (λ i lt. refl) r k e,
          omega (arith, place, size),
          subst (λ (s : Standing Situation NoEvent Refusal). HasStrings new x s.situation.strings
              from_here) (sym there) set,
        )

  -- what refuses it
  pub takes_refused : (new : Decoder) (reason : Reason) (k : ℕ) → IsUnitRefused x situation_here
      from_here (begun_here ++ c) reason k → HasStrings new.units x situation_here.strings from_here
      → TakeAnswers x strings p c new (Err (Refused reason k))
  takes_refused new reason k (inl e) set = shows_wrong (refusal from_here reason) k e new.units set
  takes_refused new reason k (inr (u, e, bad)) set =
      let place = standing_length (payload x strings) (readable x strings) p in
      let size = last_size u k e in (
        last_of u k e,
        unit_quiet u k e,
        unit_refused u k e reason bad,
        omega (arith, place, size),
        subst (λ (s : List (List ℕ)). HasStrings new.units x s from_here)
            (sym (unit_strings u k e reason bad)) set,
      )

-- some of the bytes are taken
module _ (x : Settings) (strings : List (List ℕ)) (p c : List ℕ) (m : ℕ) (within : m ≤ length c)
    (new : Decoder) where
  same_front : (k : ℕ) → k ≤ length (take m c) → p ++ take k (take m c) ≡ p ++ take k c
  same_front k le = ap (λ d. p ++ d) (sym (take-append-le k (take m c) (drop m c) le) ∙ ap (take k)
      (take-append-drop m c))

  quiet_all : (k : ℕ) → IsQuiet (payload x strings) p (take m c) k → IsQuiet (payload x strings) p c
      k
  quiet_all k q = subst (λ (d : List ℕ). IsQuiet (payload x strings) p d k) (take-append-drop m c)
      (quiet_behind (payload x strings) p (take m c) (drop m c) k q)

  pub takes_some : (result : Result ℕ UnitFault) → TakeAnswers x strings p (take m c) new result
      → TakeAnswers x strings p c new result
  takes_some (Ok k) (some, quiet, reached) = (
    some,
    quiet_all k quiet,
    subst (λ (q : List ℕ). Reached new x strings q)
        (same_front k quiet.within) reached,
  )
  takes_some (Err (Refused reason k)) (n, quiet, shown, sum, set) = (
    n,
    quiet_all n quiet,
    ap (refusal_at (payload x strings)) (sym (same_front n quiet.within)) ∙ shown,
    sum,
    subst (λ (q : List ℕ). HasStrings new.units x (situation_of x strings q).strings
        (from_of x strings p)) (same_front n quiet.within) set,
  )
  takes_some (Err Memory) set = set

-- what is refused, as a `?` hands it on
module _ (x : Settings) (strings : List (List ℕ)) (p c : List ℕ) (new : Decoder)
    (going : IsGoing (payload x strings) (standing (payload x strings) p)) where
  pub takes_fault : (fault : UnitFault) (result : Result ℕ UnitFault) → IsErrAnd result
      (λ y. y ≡ fault)
      → UnitAnswers x (situation_of x strings p) (from_of x strings p) (begun_of x strings p ++ c)
      new.units (Err fault) → TakeAnswers x strings p c new result
  takes_fault fault result e answers =
      let q = err_from_is_err_and result e in
      subst (λ (r : Result ℕ UnitFault). TakeAnswers x strings p c new r)
      (ap Err (sym q.2) ∙ sym q.1) (by_fault fault answers)
    where
      by_fault : (fault : UnitFault) → UnitAnswers x (situation_of x strings p)
          (from_of x strings p) (begun_of x strings p ++ c) new.units (Err fault)
          → TakeAnswers x strings p c new (Err fault)
      by_fault (Refused reason k) h = takes_refused x strings p c going new reason k h.0 h.1
      by_fault Memory h = h

-- the bytes that a whole unit has where so many were wanted and no more were taken
module _ (x : Settings) (z : Situation) (place : ℕ) (b c : List ℕ) (wants : ℕ)
    (waits : AwaitsBytes (unit_in x z place) b wants) (u : PayloadUnit) (k : ℕ)
    (e : unit_in x z place (b ++ c) ≡ whole u k) where
  reads : ReadsFront (unit_in x z place)
  reads = reads_unit x z place

  -- it has as many as were wanted
  enough : wants ≤ k
  enough =
      elim (cases_lt k wants) [
        | inr le ↦ le
        | inl lt ↦ elim (cases_lt k (length b)) [
          | inl few ↦ let early = sym (waits_now (unit_in x z place) b wants waits) ∙
              ap (unit_in x z place) (sym (take-append-drop k b)) ∙ reads.whole_stays (take k b)
              (drop k b) u k (front (omega (arith, few))) in cc
          | inr le ↦
              let size = length-take-le k (b ++ c) (reads.whole_within (b ++ c) u k e) in
              let parts : take k (b ++ c) ≡ b ++ take (k - length b) c =
              (let sum : k ≡ length b + (k - length b) = omega (arith, le) in
              ap (λ n. take n (b ++ c)) sum ∙ take-append-add b c (k - length b)) in
              let short : length (b ++ take (k - length b) c)
              < wants = (let same = ap length parts in omega (arith, same, size, lt)) in
              let told = sym (waits.begins (take (k - length b) c) short) ∙ ap (unit_in x z place)
              (sym parts) ∙ reads.whole_alone (b ++ c) u k e in
              cc
        ]
      ]
    where
      front : k ≤ length b → unit_in x z place (take k b) ≡ whole u k
      front le = ap (unit_in x z place) (sym (take-append-le k b c le)) ∙ reads.whole_alone (b ++ c)
          u k e

  pub all_used : length b + length c ≤ wants → k ≡ length b + length c
  all_used le =
      let most = reads.whole_within (b ++ c) u k e in
      let size = length-append b c in
      let least = enough in
      omega (arith, most, size, least, le)

-- where fewer bytes come than are wanted, as many are wanted then
pub waits_still : (x : Settings) (z : Situation) (place : ℕ) (b c : List ℕ) (wants : ℕ)
    → AwaitsBytes (unit_in x z place) b wants → length (b ++ c) < wants
    → AwaitsBytes (unit_in x z place) (b ++ c) wants
waits_still x z place b c wants w lt = record {
  more = lt;
  begins = λ next few. ap (unit_in x z place) (append_assoc b c next) ∙ w.begins (c ++ next)
      (let same = ap length (append_assoc b c next) in omega (arith, same, few));
}

-- m bytes come of a unit that has begun, which may be all that are wanted
module _ (d : Decoder) (x : Settings) (strings : List (List ℕ)) (p : List ℕ)
    (h : Reached d x strings p) (more : 0 < length d.begun) (c : List ℕ) (m : ℕ)
    (within : m ≤ length c) (some : 0 < m) where
  abbrev taken : List ℕ
  taken = take m c

  size_taken : length taken ≡ m
  size_taken = length-take-le m c within

  some_taken : 0 < length taken
  some_taken = let n = size_taken in omega (arith, n, some)

  waits_here : AwaitsBytes (unit_in x (situation_of x strings p) (from_of x strings p))
      (begun_of x strings p) d.wants
  waits_here = subst
      (λ (b : List ℕ). AwaitsBytes (unit_in x (situation_of x strings p) (from_of x strings p)) b
      d.wants) h.begun (h.waits more)

  kept_here : d.begun ++ taken ≡ begun_of x strings p ++ taken
  kept_here = ap (λ b. b ++ taken) h.begun

  of_taken : (new : Decoder) → TakeAnswers x strings p taken new (Ok (length taken))
      → TakeAnswers x strings p c new (Ok m)
  of_taken new t = takes_some x strings p c m within new (Ok m)
      (subst (λ (n : ℕ). TakeAnswers x strings p taken new (Ok n)) size_taken t)

  -- they leave it begun
  pub on_begun : (new : Decoder) → length (d.begun ++ taken) < d.wants → new.units ≡ d.units
      → new.begun ≡ d.begun ++ taken → new.wants ≡ d.wants → new.failure ≡ d.failure
      → TakeAnswers x strings p c new (Ok m)
  on_begun new lt units kept wanted unfailed =
      let short : length (begun_of x strings p ++ taken)
      < d.wants = (let same = ap length kept_here in omega (arith, same, lt)) in
      of_taken new (takes_all x strings p taken h.going (waits_here.begins taken short) some_taken
      new d.wants
      (subst (λ (r : UnitReader). IsAt r x (situation_of x strings p) (from_of x strings p))
      (sym units) h.at) (kept ∙ kept_here) wanted
      (waits_still x (situation_of x strings p) (from_of x strings p) (begun_of x strings p) taken
      d.wants waits_here short) (unfailed ∙ h.unfailed))

  module _ (bytes : List ℕ) (all : bytes ≡ d.begun ++ taken) where
    bytes_here : bytes ≡ begun_of x strings p ++ taken
    bytes_here = all ∙ kept_here

    -- so does a unit that wants more
    pub on_more : (new : Decoder) (wants : ℕ) → UnitAnswers x (situation_of x strings p)
        (from_of x strings p) bytes new.units (Ok (More wants)) → new.begun ≡ bytes → new.wants
        ≡ wants → new.failure ≡ d.failure
        → TakeAnswers x strings p c new (Ok m)
    on_more new wants answers kept wanted unfailed =
        let waits = subst
        (λ (b : List ℕ). AwaitsBytes (unit_in x (situation_of x strings p) (from_of x strings p)) b
        wants) bytes_here answers.0 in
        of_taken new
        (takes_all x strings p taken h.going
        (waits_now (unit_in x (situation_of x strings p) (from_of x strings p))
        (begun_of x strings p ++ taken) wants waits) some_taken new wants
        answers.1 (kept ∙ bytes_here) wanted waits (unfailed ∙ h.unfailed))

    -- they are all that it has
    pub on_done : (new : Decoder) (used : ℕ) → length d.begun + m ≤ d.wants
        → UnitAnswers x (situation_of x strings p) (from_of x strings p) bytes new.units
        (Ok (Done used)) → new.begun ≡ [] → new.failure ≡ d.failure
        → TakeAnswers x strings p c new (Ok m)
    on_done new used few answers none unfailed =
        let e : unit_in x (situation_of x strings p) (from_of x strings p)
        (begun_of x strings p ++ taken) ≡ whole answers.0 used =
        ap (unit_in x (situation_of x strings p) (from_of x strings p)) (sym bytes_here) ∙ answers.1
        in
        let same = ap length h.begun in
        let size = size_taken in
        let as_many = all_used x (situation_of x strings p) (from_of x strings p)
        (begun_of x strings p) taken d.wants waits_here answers.0 used e
        (omega (arith, same, size, few)) in
        of_taken new (takes_unit_of x strings p taken h.going answers.0 used e (length taken)
        as_many answers.2 new answers.3 none (unfailed ∙ h.unfailed))

    -- they show a fault
    pub on_fault : (new : Decoder) (fault : UnitFault) (result : Result ℕ UnitFault)
        → IsErrAnd result (λ y. y ≡ fault) → UnitAnswers x (situation_of x strings p)
        (from_of x strings p) bytes new.units (Err fault)
        → TakeAnswers x strings p c new result
    on_fault new fault result e answers =
        takes_some x strings p c m within new result
        (takes_fault x strings p taken new h.going fault result e
        (subst (λ (b : List ℕ). UnitAnswers x (situation_of x strings p) (from_of x strings p) b
        new.units (Err fault)) bytes_here answers))

-- of no bytes there is none
pub no_bytes : (b : List ℕ) → length b ≡ 0 → b ≡ []
no_bytes [] e = refl
no_bytes (x ∷ b) e = absurd cc
