-- What bytes of whole units are answered with, of which only the last unit completes an event.
use Rattle.std.proofs.Common.{◌≡◌, ℕ, ◌+◌, ◌-◌, ◌<◌, ◌≤◌, ◌⊎◌, List, [], ◌∷◌, ◌++◌, length, take}
use Rattle.std.proofs.Common.{drop, Some, None, Option, option_to_list, sym, refl, ap, ◌∙◌, subst}
use Rattle.std.proofs.Common.{inl, inr, append_assoc, append-nil, arith, length-append}
use Rattle.std.proofs.Common.{length-take-le, take_all}
use Rattle.std.proofs.Math.Seq.{drop-append_seam, take-add, take-append_seam}
use Rattle.std.proofs.lemmas.{Bool.cases_lt, List.take-append-le}
use Rattle.unit_streams.proofs.{Along.Passes, Answers.answers_are_first}
use Rattle.unit_streams.proofs.Passing.{begun_event, event_from, given_none, going_refusal}
use Rattle.unit_streams.proofs.{Passing.refusal_from, Units.unit_some}
use Rattle.unit_streams.proofs.Standing.{standing_append, undecided_at, whole_at}
use Rattle.unit_streams.proofs.Units.{between_first, between_going, IsBetween, unit_decides}
use Rattle.unit_streams.specs.{Front.whole, Going.IsGoing, Going.Means, Grammar.with_more}
use Rattle.unit_streams.specs.Grammar.{behind_unit, Grammar, IsReadable, Standing, standing}
use Rattle.unit_streams.specs.Judging.{Answer, answer, completes, event_at, event_of, goes_on}
use Rattle.unit_streams.specs.Judging.{offends, refusal_at}
use Rattle.unit_streams.specs.Units.{Counted, events_along, size_of, UnitsLead}

module _ {Z U E R : Type 0} (g : Grammar Z U E R) (readable : IsReadable g) where
  -- nothing but its length can refuse the prefix
  pub record IsStill (p : List ℕ) : Type 0 where
    pub going : IsGoing g (standing g p)
    pub eventless : event_at g p ≡ None

  -- a unit that isn't refused
  module _ (p : List ℕ) (z : Z) (from : ℕ) (at : IsBetween g readable p z from) (bytes : List ℕ)
      (u : U)
      (n : ℕ) (e : g.unit_at z from bytes ≡ whole u n) where
    behind : standing g (p ++ take n bytes)
        ≡ record (behind_unit g (standing g p) u n) { begun = [] }
    behind =
        let d = unit_decides g readable p z from at bytes u n e in
        let here : g.unit_at (standing g p).situation (standing g p).from
        ((standing g p).begun ++ bytes) ≡ whole u n =
        rw (at.situation, at.place, at.begun) e in
        standing_append g readable p (take n bytes)
        ∙ (whole_at g readable (standing g p) bytes n d u n here).1

    leads_on : g.refused z from u ≡ None
        → IsBetween g readable (p ++ take n bytes) (g.after z from u) (from + n)
    leads_on fine = record {
      situation = ap (λ (t : Standing Z E R). t.situation) behind ∙ rw (at.situation, at.place)
          refl;
      place = ap (λ (t : Standing Z E R). t.from) behind ∙ rw at.place refl;
      begun = ap (λ (t : Standing Z E R). t.begun) behind;
      refusal = ap (λ (t : Standing Z E R). t.refusal) behind ∙ rw (at.situation, at.place) fine;
    }

    event_behind : event_at g (p ++ take n bytes) ≡ g.completed z from (from + n) u
    event_behind =
        event_from g (p ++ take n bytes) (record (behind_unit g (standing g p) u n) { begun = [] })
        behind
        ∙ rw (at.situation, at.place) refl

    within : (i : ℕ) → 0 < i → i < n → IsStill (p ++ take i bytes)
    within i some lt =
        let d = unit_decides g readable p z from at bytes u n e in
        let fits : i ≤ length bytes = (let w = d.within in omega (arith, w, lt)) in
        let stays = undecided_at g readable (standing g p) bytes n d i lt in
        let stands : standing g (p ++ take i bytes) ≡ with_more (standing g p) (take i bytes) =
        standing_append g readable p (take i bytes) ∙ stays in
        let more : 0 < length ((standing g p).begun ++ take i bytes) =
        let a = length-append (standing g p).begun (take i bytes) in
        let b = length-take-le i bytes fits in omega (arith, a, b, some) in
        record {
          going = subst (IsGoing g) (sym stands) (record {
            next = d.before i lt;
            last = given_none ((standing g p).begun ++ take i bytes) (standing g p).refusal more;
          });
          eventless = begun_event g readable p bytes i fits stays some;
        }

  -- two parts of some bytes
  parted : (p bytes : List ℕ) (k i : ℕ) → k ≤ i
      → (p ++ take k bytes) ++ take (i - k) (drop k bytes) ≡ p ++ take i bytes
  parted p bytes k i le =
      let sum : k + (i - k) ≡ i = omega (arith, le) in
      append_assoc p (take k bytes) (take (i - k) (drop k bytes))
      ∙ ap (λ c. p ++ c) (sym (take-add k (i - k) bytes)) ∙ ap (λ n. p ++ take n bytes) sum

  -- no event
  first_none : (v : Option E) (events : List E) → option_to_list v ++ events ≡ []
      → (v ≡ None) × (events ≡ [])
  first_none None events is = (refl, is)
  first_none (Some e) events is = absurd (cc is)

  pub between_behind : (units : List (Counted U)) (p : List ℕ) (z : Z) (from : ℕ) (bytes : List ℕ)
      (z' : Z) (rest : List ℕ) → IsBetween g readable p z from
      → UnitsLead g z from units bytes z' rest
      → IsBetween g readable (p ++ take (size_of units) bytes) z' (from + size_of units)
  unfolding UnitsLead size_of
  between_behind [] p z from bytes z' rest at lead =
      let none : p ≡ p ++ take 0 bytes = sym (append-nil p) in
      let same : from ≡ from + 0 = omega arith in
      subst (λ (q : List ℕ). IsBetween g readable q z' (from + 0)) none
      (subst (λ (n : ℕ). IsBetween g readable p z' n) same
      (subst (λ (y : Z). IsBetween g readable p y from) lead.0 at))
  between_behind (one ∷ units) p z from bytes z' rest at lead =
      let n : ℕ = one.size in
      let next = leads_on p z from at bytes one.unit n lead.0 lead.1 in
      let rest_of = between_behind units (p ++ take n bytes) (g.after z from one.unit) (from + n)
      (drop n bytes) z' rest next lead.2 in
      let less : n + size_of units - n ≡ size_of units = omega arith in
      let joins : (p ++ take n bytes) ++ take (size_of units) (drop n bytes)
      ≡ p ++ take (n + size_of units) bytes =
      ap (λ k. (p ++ take n bytes) ++ take k (drop n bytes)) (sym less)
      ∙ parted p bytes n (n + size_of units) (omega arith) in
      let sum : from + n + size_of units ≡ from + (n + size_of units) = omega arith in
      subst (λ (q : List ℕ). IsBetween g readable q z' (from + (n + size_of units))) joins
      (subst (λ (m : ℕ). IsBetween g readable
      ((p ++ take n bytes) ++ take (size_of units) (drop n bytes)) z' m) sum rest_of)

  -- where bytes of a stream stand that are whole units
  pub passes_stand : (bytes : List ℕ) (z' : Z) (events : List E) → Passes g g.start 0 bytes z'
      events
      → IsBetween g readable bytes z' (length bytes)
  passes_stand bytes z' events h =
      let front : take (size_of h.units) (bytes ++ []) ≡ bytes =
      ap (λ n. take n (bytes ++ [])) h.size ∙ take-append_seam bytes [] in
      let size : 0 + size_of h.units ≡ length bytes = (let n = h.size in omega (arith, n)) in
      subst (λ (q : List ℕ). IsBetween g readable q z' (length bytes)) front
      (subst (λ (n : ℕ). IsBetween g readable (take (size_of h.units) (bytes ++ [])) z' n) size
      (between_behind h.units [] g.start 0 (bytes ++ []) z' [] (between_first g readable)
      (h.lead [])))

  -- units that complete nothing
  still : (units : List (Counted U)) (p : List ℕ) (z : Z) (from : ℕ) (bytes : List ℕ) (z' : Z)
      (rest : List ℕ) → IsBetween g readable p z from → UnitsLead g z from units bytes z' rest
      → events_along g z from units ≡ [] → (i : ℕ) → 0 < i → i ≤ size_of units
      → IsStill (p ++ take i bytes)
  unfolding UnitsLead size_of events_along
  still [] p z from bytes z' rest at lead none i some le = absurd (omega (arith, some, le))
  still (one ∷ units) p z from bytes z' rest at lead none i some le =
      let n : ℕ = one.size in
      let split = first_none (g.completed z from (from + n) one.unit) _ none in
      let next = leads_on p z from at bytes one.unit n lead.0 lead.1 in
      elim (cases_lt i n) [
        | inl lt ↦ within p z from at bytes one.unit n lead.0 i some lt
        | inr ge ↦
            elim (cases_lt n i) [
              | inl more ↦
                  subst IsStill (parted p bytes n i ge)
                  (still units (p ++ take n bytes) (g.after z from one.unit) (from + n)
                  (drop n bytes) z' rest next lead.2 split.1 (i - n) (omega (arith, more))
                  (omega (arith, le, ge)))
              | inr few ↦
                  let same : n ≡ i = omega (arith, ge, few) in
                  subst (λ (k : ℕ). IsStill (p ++ take k bytes)) same (record {
                    going = between_going g readable (p ++ take n bytes) _ _ next;
                    eventless = event_behind p z from at bytes one.unit n lead.0 ∙ split.0;
                  })
            ]
      ]

  -- units that complete nothing, and then one that completes an event
  pub record EndsIn (z : Z) (from : ℕ) (bytes : List ℕ) (z' : Z) (e : E) : Type 0 where
    pub front : List ℕ
    pub last : List ℕ
    pub joined : bytes ≡ front ++ last
    pub before : Z
    pub passes : Passes g z from front before []
    pub unit : U
    pub reads : g.unit_at before (from + length front) last ≡ whole unit (length last)
    pub unrefused : g.refused before (from + length front) unit ≡ None
    pub completed : g.completed before (from + length front) (from + length front + length last)
        unit ≡ Some e
    pub leads : g.after before (from + length front) unit ≡ z'

  -- what refuses by its length alone
  abbrev pub IsByLength : R → Type 0
  IsByLength r = (z : Z) × (from : ℕ) × (n : ℕ) × (g.at_length z from n ≡ Some r)

  -- the answer is that event, or the bytes are too long
  abbrev pub IsAnswered : List ℕ → List ℕ → E → Type 0
  IsAnswered p bytes e = (answer g p bytes ≡ completes (length bytes) e)
      ⊎ ((k : ℕ) × (r : R) × (answer g p bytes ≡ offends k r) × IsByLength r)

  module _ (p : List ℕ) (z : Z) (from : ℕ) (at : IsBetween g readable p z from) (bytes : List ℕ)
      (z' : Z) (e : E) (h : EndsIn z from bytes z' e) where
    lead_front : UnitsLead g z from h.passes.units (h.front ++ h.last) h.before h.last
    lead_front = h.passes.lead h.last

    taken : take (size_of h.passes.units) (h.front ++ h.last) ≡ h.front
    taken = ap (λ n. take n (h.front ++ h.last)) h.passes.size ∙ take-append_seam h.front h.last

    between_front : IsBetween g readable (p ++ h.front) h.before (from + length h.front)
    between_front =
        subst (λ (q : List ℕ). IsBetween g readable (p ++ q) h.before (from + length h.front)) taken
        (subst (λ (n : ℕ). IsBetween g readable
        (p ++ take (size_of h.passes.units) (h.front ++ h.last)) h.before (from + n)) h.passes.size
        (between_behind h.passes.units p z from (h.front ++ h.last) h.before h.last at lead_front))

    all_last : take (length h.last) h.last ≡ h.last
    all_last = take_all (length h.last) h.last (omega arith)

    whole_is : (p ++ h.front) ++ take (length h.last) h.last ≡ p ++ bytes
    whole_is = ap (λ l. (p ++ h.front) ++ l) all_last ∙ append_assoc p h.front h.last
        ∙ ap (λ l. p ++ l) (sym h.joined)

    size_is : length bytes ≡ length h.front + length h.last
    size_is = ap length h.joined ∙ length-append h.front h.last

    -- where that leads
    pub between_all : IsBetween g readable (p ++ bytes) z' (from + length bytes)
    between_all =
        let sum : from + length h.front + length h.last ≡ from + length bytes =
        (let n = size_is in omega (arith, n)) in
        subst (λ (q : List ℕ). IsBetween g readable q z' (from + length bytes)) whole_is
        (subst (λ (m : ℕ). IsBetween g readable ((p ++ h.front) ++ take (length h.last) h.last) z'
        m)
        sum
        (subst (λ (y : Z). IsBetween g readable ((p ++ h.front) ++ take (length h.last) h.last) y
        (from + length h.front + length h.last)) h.leads
        (leads_on (p ++ h.front) h.before (from + length h.front) between_front h.last h.unit
        (length h.last) h.reads h.unrefused)))

    event_all : event_at g (p ++ bytes) ≡ Some e
    event_all = ap (event_at g) (sym whole_is)
        ∙ event_behind (p ++ h.front) h.before (from + length h.front) between_front h.last h.unit
        (length h.last) h.reads ∙ h.completed

    -- before the last byte
    still_before : (i : ℕ) → 0 < i → i < length bytes → IsStill (p ++ take i bytes)
    still_before i some lt =
        let n = size_is in
        subst (λ (b : List ℕ). IsStill (p ++ take i b)) (sym h.joined)
        (elim (cases_lt (length h.front) i) [
          | inr few ↦
              let size = h.passes.size in
              still h.passes.units p z from (h.front ++ h.last) h.before h.last at lead_front
              h.passes.brought i some (omega (arith, few, size))
          | inl more ↦
              let joins : (p ++ h.front) ++ take (i - length h.front) h.last
              ≡ p ++ take i (h.front ++ h.last) =
              ap (λ l. (p ++ l) ++ take (i - length h.front) h.last)
              (sym (take-append_seam h.front h.last))
              ∙ ap (λ l. (p ++ take (length h.front) (h.front ++ h.last))
              ++ take (i - length h.front) l)
              (sym (drop-append_seam h.front h.last))
              ∙ parted p (h.front ++ h.last) (length h.front) i (omega (arith, more)) in
              subst IsStill joins
              (within (p ++ h.front) h.before (from + length h.front) between_front h.last h.unit
              (length h.last) h.reads (i - length h.front) (omega (arith, more))
              (omega (arith, more, n, lt)))
        ])

    by_length : (i : ℕ) (r : R) → i < length bytes → refusal_at g (p ++ take i bytes) ≡ Some r
        → IsByLength r
    by_length i r lt is =
        let going = going_at i lt in (
          (standing g (p ++ take i bytes)).situation,
          (standing g (p ++ take i bytes)).from,
          length (p ++ take i bytes),
          sym (refusal_from g (p ++ take i bytes) (standing g (p ++ take i bytes)) refl
              ∙ going_refusal g (standing g (p ++ take i bytes)) (length (p ++ take i bytes)) going)
              ∙ is,
        )
      where
        going_at : (i : ℕ) → i < length bytes → IsGoing g (standing g (p ++ take i bytes))
        going_at i lt =
            elim (cases_lt 0 i) [
              | inl some ↦ (still_before i some lt).going
              | inr none ↦
                  let zero : 0 ≡ i = omega (arith, none) in
                  subst (λ (k : ℕ). IsGoing g (standing g (p ++ take k bytes))) zero
                  (subst (λ (q : List ℕ). IsGoing g (standing g q)) (sym (append-nil p))
                  (between_going g readable p z from at))
            ]

    some_bytes : 0 < length bytes
    some_bytes =
        let last = unit_some g readable (p ++ h.front) h.before (from + length h.front)
        between_front h.last h.unit (length h.last) h.reads in
        let n = size_is in omega (arith, n, last)

    all_bytes : take (length bytes) bytes ≡ bytes
    all_bytes = take_all (length bytes) bytes (omega arith)

    -- at the last byte the event is completed
    last_event : event_at g (p ++ take (length bytes) bytes) ≡ Some e
    last_event = ap (λ b. event_at g (p ++ b)) all_bytes ∙ event_all

    by_answer : (a : Answer E R) → answer g p bytes ≡ a → Means g p bytes a
        → IsAnswered p bytes e
    by_answer goes_on is m =
        absurd (let none = m.0.eventless (length bytes) some_bytes (omega arith) in
        let told = last_event in cc)
    by_answer (completes k f) is m =
        elim (cases_lt k (length bytes)) [
          | inl lt ↦ absurd (let none = (still_before k m.1 lt).eventless in let told = m.2 in cc)
          | inr ge ↦
              let within = m.0.within in
              let same : k ≡ length bytes = omega (arith, ge, within) in
              let told : event_at g (p ++ take (length bytes) bytes) ≡ Some f =
              ap (λ n. event_at g (p ++ take n bytes)) (sym same) ∙ m.2 in
              let event = last_event in
              let one : f ≡ e = cc in
              inl (is ∙ ap (λ n. completes n f) same ∙ ap (completes (length bytes)) one)
        ]
    by_answer (offends k r) is m =
        elim (cases_lt k (length bytes)) [
          | inl lt ↦ inr (k, r, is, by_length k r lt m.1)
          | inr ge ↦
              absurd (let within = m.0.within in
              let same : k ≡ length bytes = omega (arith, ge, within) in
              let none = m.0.eventless (length bytes) some_bytes (omega (arith, same)) in
              let told = last_event in cc)
        ]

    pub is_answered : IsAnswered p bytes e
    is_answered =
        by_answer (answer g p bytes) refl
        ((answers_are_first g p bytes (answer g p bytes)).0 refl)
