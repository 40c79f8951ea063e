-- A stream has no offence exactly where unrefused units lead to where the input may end.
use Rattle.std.proofs.Common.{◌≡◌, ℕ, zero, suc, ◌+◌, ◌≤◌, List, [], ◌∷◌, ◌++◌, length, take, drop}
use Rattle.std.proofs.Common.{None, sym, refl, ap, ◌∙◌, subst, append-nil, arith, length-drop}
use Rattle.std.proofs.{Common.take-append-drop, Common.length-take-le, Math.Seq.take-length}
use Rattle.unit_streams.specs.{Front.begun, Judging.refusal_at, Laws.AcceptedOrOffended}
use Rattle.unit_streams.specs.Grammar.{Grammar, IsReadable, Standing, standing, with_more}
use Rattle.unit_streams.specs.Judging.{ending_at, History, history, history_from, offence}
use Rattle.unit_streams.specs.Units.{Counted, IsAccepted, size_of, UnitsLead}
use Rattle.unit_streams.proofs.{Fronts.left_begun, Peeling.Leaves}
use Rattle.unit_streams.proofs.Offences.{no_offence, unrefused_from}
use Rattle.unit_streams.proofs.Passing.{begun_refusal, going_at, going_refusal, refusal_from}
use Rattle.unit_streams.proofs.Standing.{leaves_all, leaves_at, standing_append, standing_length}
use Rattle.unit_streams.proofs.Units.{between_first, between_going, between_place, IsBetween}
use Rattle.unit_streams.proofs.Units.{length_at, units_bring, units_of}

module _ {Z U E R : Type 0} (g : Grammar Z U E R) (readable : IsReadable g) where
  -- the bytes are those of the units, and those behind them
  pub leads_length : (units : List (Counted U)) (z : Z) (from : ℕ) (bytes : List ℕ) (z' : Z)
      (rest : List ℕ) → UnitsLead g z from units bytes z' rest → length bytes ≡ size_of units
      + length rest
  unfolding UnitsLead size_of
  leads_length [] z from bytes z' rest l = ap length l.1 ∙ omega arith
  leads_length (one ∷ units) z from bytes z' rest l =
      let within = (readable.reads z from).whole_within bytes one.unit one.size l.0 in
      let more = leads_length units (g.after z from one.unit) (from + one.size)
      (drop one.size bytes) z' rest l.2 in
      omega (arith, within, more, length-drop one.size bytes)

  -- a stream without an offence
  module _ (bytes : List ℕ) (none : offence g bytes ≡ None) where
    unrefused : refusal_at g bytes ≡ None
    unrefused = ap (refusal_at g) (sym (take-length bytes)) ∙ (no_offence g bytes none).0
        (length bytes) (omega arith)

    pub offenceless_accepted : IsAccepted g bytes
    unfolding ending_at
    offenceless_accepted =
        let nothing = no_offence g bytes none in
        let h = units_of g readable bytes nothing.0 in
        let size = leads_length h.units g.start 0 bytes (standing g bytes).situation
        (standing g bytes).begun h.lead in
        let place : (standing g bytes).from ≡ size_of h.units = omega
        (arith, size, standing_length g readable bytes) in
        let zero_more : size_of h.units ≡ 0 + size_of h.units = omega arith in
        record {
          units = h.units;
          situation = (standing g bytes).situation;
          rest = (standing g bytes).begun;
          lead = h.lead;
          units_short = h.units_short;
          rest_begun = ap (λ k. g.unit_at (standing g bytes).situation k (standing g bytes).begun)
              (sym place) ∙ (going_at g readable bytes unrefused).next;
          rest_short = λ n low high. ap (λ k. g.at_length (standing g bytes).situation k n)
              zero_more ∙ h.rest_short n (omega (arith, low)) (omega (arith, high));
          may_end = ap (λ k. g.at_end (standing g bytes).situation k (length bytes)) (sym place) ∙
              nothing.1;
        }

  -- bytes behind p of which no unit is whole nor wrong, at no length too many
  module _ (p : List ℕ) (z : Z) (from : ℕ) (at : IsBetween g readable p z from) (rest : List ℕ)
      (open_rest : g.unit_at z from rest ≡ begun)
      (short : (n : ℕ) → from ≤ n → n ≤ length p + length rest → g.at_length z from n ≡ None) where
    leaves : Leaves (g.unit_at (standing g p).situation (standing g p).from) (standing g p).begun
        rest
    leaves =
        left_begun (g.unit_at (standing g p).situation (standing g p).from)
        (readable.reads (standing g p).situation (standing g p).from) (standing g p).begun rest
        (between_going g readable p z from at).next
        (rw (at.situation, at.place, at.begun) open_rest)

    short_here : (i : ℕ) → i ≤ length rest → g.at_length (standing g p).situation
        (standing g p).from (length p + i) ≡ None
    short_here i le = length_at g readable p z from at i ∙ short (from + i) (omega arith)
        (omega (arith, le, between_place g readable p z from at))

    rest_unrefused : (i : ℕ) → i ≤ length rest → refusal_at g (p ++ take i rest) ≡ None
    rest_unrefused zero le =
        ap (refusal_at g) (append-nil p) ∙ refusal_from g p (standing g p) refl ∙ going_refusal g
        (standing g p) (length p) (between_going g readable p z from at)
        ∙ ap (g.at_length (standing g p).situation (standing g p).from) (omega arith) ∙ short_here 0
        le
    rest_unrefused (suc i) le =
        begun_refusal g readable p rest (suc i) le (leaves_at g readable (standing g p) rest leaves
        (suc i)) (omega arith) (leaves.along (suc i)) ∙ short_here (suc i) le

    rest_ending : ending_at g (p ++ rest) ≡ g.at_end z from (length (p ++ rest))
    unfolding ending_at
    rest_ending =
        let s : standing g (p ++ rest) ≡ with_more (standing g p) rest = standing_append g readable
        p rest ∙ leaves_all g readable (standing g p) rest leaves in
        ap (λ (t : Standing Z E R). g.at_end t.situation t.from (length (p ++ rest))) s
        ∙ ap (λ y. g.at_end y (standing g p).from (length (p ++ rest))) at.situation ∙
        ap (λ k. g.at_end z k (length (p ++ rest))) at.place

    pub rest_offence : (history_from g p rest).offence ≡ g.at_end z from (length (p ++ rest))
    rest_offence = unrefused_from g p rest rest_unrefused ∙ rest_ending

  pub accepted_offenceless : (bytes : List ℕ) → IsAccepted g bytes → offence g bytes ≡ None
  unfolding offence history
  accepted_offenceless bytes h =
      let b = units_bring g readable h.units [] g.start 0 bytes h.situation h.rest
      (between_first g readable) h.lead h.units_short in
      let front : List ℕ = take (size_of h.units) bytes in
      let zero_more : 0 + size_of h.units ≡ size_of h.units = omega arith in
      let at : IsBetween g readable front h.situation (size_of h.units) = subst
      (λ (n : ℕ). IsBetween g readable front h.situation n) zero_more b.between in
      let all : front ++ h.rest ≡ bytes = ap (λ c. front ++ c) (sym b.left) ∙ take-append-drop
      (size_of h.units) bytes in
      let size : length front ≡ size_of h.units = length-take-le (size_of h.units) bytes b.within in
      let total = leads_length h.units g.start 0 bytes h.situation h.rest h.lead in
      ap (λ (r : History E R). r.offence) b.history
      ∙ rest_offence front h.situation (size_of h.units) at h.rest h.rest_begun
      (λ n low high. h.rest_short n low (omega (arith, high, size, total)))
      ∙ ap (λ c. g.at_end h.situation (size_of h.units) (length c)) all ∙ h.may_end

  -- of each grammar
  pub accepted_or_offended : AcceptedOrOffended g
  accepted_or_offended bytes = (offenceless_accepted bytes, accepted_offenceless bytes)
