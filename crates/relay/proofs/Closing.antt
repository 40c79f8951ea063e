-- What was written of a direction that is ended, and where one begins.
use Rattle.std.proofs.Common.{◌≡◌, ℕ, Bool, true, false, ◌||◌, ◌⊎◌, List, [], ◌∷◌, ◌++◌, Some, None}
use Rattle.std.proofs.Common.{Option, sym, refl, ap, inl, inr}
use Rattle.std.proofs.Common.{◌∙◌, subst}
use Rattle.std.specs.Option.{option_map}
use Rattle.unit_streams.specs.Tellers.{state_behind}
use Rattle.nbfx_encoder.specs.{declared.faults.EncodeFault.EncodeFault, Spelling.Unfit}
use Rattle.nbfx_encoder.specs.{Refusals.told, Sending.first_state, Sending.names_in}
use Rattle.nbfx_encoder.specs.{Sending.state_in}
use Rattle.stream_loop.proofs.Written.{stays_closed}
use Rattle.stream_loop.specs.declared.{outbound.Outbound.Outbound}
use Rattle.stream_loop.specs.declared.outbound.Outbound.TheVariants.{Done, Memory, WriteFault}
use Rattle.stream_loop.specs.{Gathering.Gathers, Parts.counting, Parts.Part, Parts.part}
use Rattle.stream_loop.specs.{PartsGiven.IsLittle, PartsGiven.WasGiven}
use Rattle.stream_loop.specs.Writing.{Wrote}
use Rattle.io_edges.specs.Views.{SinkView}
use Rattle.session_report.specs.declared.reading.Event.{Event}
use Rattle.relay.specs.declared.{beginning.Begun.Begun, carrier.Carrier.Carrier, outcome.Pump.Pump}
use Rattle.nbfx_encoder.specs.declared.sender.Side.{Side}
use Rattle.relay.specs.declared.outcome.PumpIn.{PumpIn}
use Rattle.relay.specs.{Beginning.BeginsSo, Events.faulted_along, Events.has_begun}
use Rattle.relay.specs.{Outcomes.last_by, Outcomes.outbound_of}
use Rattle.relay.specs.{Outcomes.written_by, Writing.HasPut, Writing.IsGoing}
use Rattle.relay.specs.{Relayed.IsStopped, Writing.IsNamed}
use Rattle.relay.specs.Carried.{behind, Carried, carried_by, Carries, carries, Carrying, end_unless}
use Rattle.relay.specs.Carried.{FitsSo, last_of, opened, start}
use Rattle.relay.proofs.Begun.{begun_at_last, begun_more, carried_more, faulted_more, no_fault}
use Rattle.relay.proofs.Begun.{opens_so}
use Rattle.relay.proofs.Begun.{unbegun_due, unbegun_start}
use Rattle.stream_loop.proofs.PartsDue.{due_more, wrote_so}
use Rattle.relay.specs.declared.outcome.PumpIn.TheVariants as ins

head_or : {T : Type 0} → T → List T → T
head_or other [] = other
head_or other (one ∷ list) = one

tail_of : {T : Type 0} → List T → List T
tail_of [] = []
tail_of (one ∷ list) = list

nothing_first : {T : Type 0} (a b : List T) → a ++ b ≡ [] → a ≡ []
nothing_first [] b none = refl
nothing_first (one ∷ a) b none = cc

-- ---- how it ended

same_outbound : (o : Outbound) (unfit : Option EncodeFault) (n : ℕ)
    → outbound_of (written_by o unfit n) ≡ o
same_outbound Done None n = refl
same_outbound Done (Some fault) n = refl
same_outbound WriteFault unfit n = refl
same_outbound Memory unfit n = refl

fits_so : (o : Outbound) (unfit : Option EncodeFault) (n : ℕ) (s : Carried)
    → (o ≡ Done → unfit ≡ option_map told s.unfit) → (o ≡ Done → n ≡ s.documents)
    → FitsSo (written_by o unfit n) s
fits_so Done None n s is counted = none s.unfit (is refl)
  where
    none : (u : Option Unfit) → None ≡ option_map told u → u ≡ None
    none None e = refl
    none (Some why) e = cc
fits_so Done (Some fault) n s is counted = some s.unfit refl (is refl)
  where
    some : (u : Option Unfit) → s.unfit ≡ u → Some fault ≡ option_map told u
        → (why : Unfit) × (s.unfit ≡ Some why) × (n ≡ s.documents) × (fault ≡ told why)
    some None at e = cc
    some (Some why) at e =
        let same : fault ≡ told why = cc in
        (why, at, counted refl, same)
fits_so WriteFault unfit n s is counted = tt
fits_so Memory unfit n s is counted = tt

pub stopped_by : (o : Outbound) (unfit : Option EncodeFault) (n : ℕ) → (o ≡ Done → ⊥)
    → IsStopped (written_by o unfit n)
stopped_by Done unfit n never = absurd (never refl)
stopped_by WriteFault unfit n never = tt
stopped_by Memory unfit n never = tt

-- what is counted where all is written
counted_done : (x : Carrying) (o : Outbound) (last : List ℕ) (first : SinkView)
    (events : List Event) (n : ℕ) (now : SinkView)
    → Wrote (carries x) o last first events (λ s. n ≡ s.documents) now → o ≡ Done
    → n ≡ (carried_by x events).documents
counted_done x Done last first events n now h is = h.left
counted_done x WriteFault last first events n now h is = cc
counted_done x Memory last first events n now h is = cc

pub carries_by : (x : Carrying) (o : Outbound) (last : List ℕ) (first : SinkView)
    (events : List Event) (p : Pump) (now : SinkView) (unfit : Option EncodeFault)
    → Wrote (carries x) o last first events (λ s. p.documents ≡ s.documents) now
    → p.written ≡ written_by o unfit p.documents
    → (o ≡ Done → unfit ≡ option_map told (carried_by x events).unfit)
    → Carries x last events first now p
carries_by x o last first events p now unfit wrote is fits = record {
  wrote = subst (λ (v : Outbound). Wrote (carries x) v last first events
      (λ s. p.documents ≡ s.documents) now)
      (sym (ap outbound_of is ∙ same_outbound o unfit p.documents)) wrote;
  fits = rw is (fits_so o unfit p.documents (carried_by x events) fits
      (counted_done x o last first events p.documents now wrote));
}

-- ---- a direction that was opened

module _ (x : Carrying) (first : SinkView) (events : List Event) (c : Carrier) (was : SinkView)
    (h : HasPut x first events c was) where
  -- the writing had ended before
  stopped_wrote : (o : Outbound) (last : List ℕ) (s : ℕ) (Left : ℕ → ℕ → Type 0)
      (gathered : List ℕ) → (o ≡ Done → ⊥)
      → Gathers counting o first h.parts s Left (λ n. c.parts.whole ≡ n) gathered was
      → Wrote counting o last first h.parts (λ n. c.parts.whole ≡ n) was
  stopped_wrote Done last s Left gathered never g = absurd (never refl)
  stopped_wrote WriteFault last s Left gathered never g =
      stays_closed counting first h.parts was WriteFault last s (λ n. c.parts.whole ≡ n)
      (λ e. cc) g
  stopped_wrote Memory last s Left gathered never g =
      stays_closed counting first h.parts was Memory last s (λ n. c.parts.whole ≡ n) (λ e. cc) g

  -- however that is
  pub wrote_stopped : (last : List ℕ) → (IsGoing c → ⊥)
      → Wrote (carries x) c.parts.outbound last first events (λ s. c.parts.whole ≡ s.documents) was
  wrote_stopped last never = wrote_so (carries x) (λ s. s.documents) refl first was events h.parts
      h.due c.parts.whole last c.parts.outbound
      (stopped_wrote c.parts.outbound last _ _ _ never h.given.gathers)

  pub wrote_closed : (o : Outbound) (whole : ℕ) (last : List ℕ) (now : SinkView)
      → Wrote counting o last first h.parts (λ n. whole ≡ n) now
      → Wrote (carries x) o last first events (λ s. whole ≡ s.documents) now
  wrote_closed o whole last now wrote = wrote_so (carries x) (λ s. s.documents) refl first now
      events h.parts h.due whole last o wrote

-- the last bytes
pub last_is : (read : PumpIn) (unfit : Option EncodeFault) (s : Carried)
    → unfit ≡ option_map told s.unfit → last_by read unfit ≡ last_of read s
last_is ins.Ended unfit s is = by s.unfit refl
  where
    by : (u : Option Unfit) → s.unfit ≡ u → last_by ins.Ended unfit ≡ end_unless s.unfit
    by None at_none = rw (is, at_none) refl
    by (Some why) at_some = rw (is, at_some) refl
last_is (ins.Offended offence) unfit s is = refl
last_is ins.PeerFault unfit s is = refl
last_is ins.NotOpened unfit s is = refl
last_is ins.ReadFault unfit s is = refl
last_is ins.Memory unfit s is = refl

-- where the writing goes on it went on before
pub going_before : (o o' : Outbound) → ((o ≡ Done → ⊥) → o' ≡ o) → o' ≡ Done → o ≡ Done
going_before Done o' same is = refl
going_before WriteFault o' same is = sym (same (λ e. cc)) ∙ is
going_before Memory o' same is = sym (same (λ e. cc)) ∙ is

pub going_unless : (o : Outbound) → ((o ≡ Done → ⊥) → ⊥) → o ≡ Done
going_unless Done never = refl
going_unless WriteFault never = absurd (never (λ e. cc))
going_unless Memory never = absurd (never (λ e. cc))

-- ---- one that wasn't

pub none_whole : (o : Outbound) (last : List ℕ) (first : SinkView) (n : ℕ) (now : SinkView)
    → Wrote counting o last first [] (λ count. n ≡ count) now → n ≡ 0
unfolding state_behind
none_whole Done last first n now h = h.left
none_whole WriteFault last first n now h = by h.done h.joined h.left
  where
    by : (done : List Part) → [] ≡ done ++ h.rest → n ≡ state_behind counting 0 done → n ≡ 0
    by [] e left = left
    by (one ∷ done) e left = cc
none_whole Memory last first n now h = by h.done h.joined h.left
  where
    by : (done : List Part) → [] ≡ done ++ h.rest → n ≡ state_behind counting 0 done → n ≡ 0
    by [] e left = left
    by (one ∷ done) e left = cc

module _ (first now : SinkView) (o : Outbound) (last : List ℕ) (p : Pump)
    (wrote : Wrote counting o last first [] (λ n. p.documents ≡ n) now) where
  pub carries_unopened : p.written ≡ written_by o None p.documents → (x : Carrying)
      (events : List Event) → has_begun x.side events ≡ false → Carries x last events first now p
  carries_unopened is x events none = carries_by x o last first events p now None
      (wrote_so (carries x) (λ s. s.documents) refl first now events [] (unbegun_due x events none)
      p.documents last o wrote) is
      (λ done. sym (ap (λ (s : Carried). option_map told s.unfit) (unbegun_start x events none)))

-- a front of a list is all of it, or one of the list without its last
cut_of : {T : Type 0} (done rest before : List T) (last : T)
    → done ++ rest ≡ before ++ last ∷ []
    → (done ≡ before ++ last ∷ []) ⊎ ((more : List T) × (before ≡ done ++ more))
unfolding head_or tail_of
cut_of [] rest before last same = inr (before, refl)
cut_of (one ∷ done) rest [] last same =
    let heads : one ≡ last = ap (λ l. head_or last l) same in
    let tails : done ++ rest ≡ [] = ap tail_of same in
    inl (ap (λ l. one ∷ l) (nothing_first done rest tails) ∙ ap (λ v. v ∷ []) heads)
cut_of (one ∷ done) rest (first ∷ before) last same =
    let heads : one ≡ first = ap (λ l. head_or one l) same in
    let tails : done ++ rest ≡ before ++ last ∷ [] = ap tail_of same in
    elim (cut_of done rest before last tails) [
      | inl all ↦ inl (ap (λ l. one ∷ l) all ∙ ap (λ v. v ∷ (before ++ last ∷ [])) heads)
      | inr part ↦ inr (
        part.0,
        ap (λ l. first ∷ l) part.1 ∙ ap (λ v. v ∷ (done ++ part.0))
            (sym heads),
      )
    ]

front_unbegun : (side : Side) (done more : List Event) → has_begun side (done ++ more) ≡ false
    → has_begun side done ≡ false
front_unbegun side done more unbegun =
    or_first (has_begun side done) (has_begun side more)
    (sym (begun_more side done more) ∙ unbegun)
  where
    or_first : (a b : Bool) → (a || b) ≡ false → a ≡ false
    or_first true b none = cc
    or_first false b none = refl

-- ---- one that begins

-- where it begins no document was carried
pub opened_by : (x : Carrying) (events : List Event) (halt : Begun)
    → BeginsSo x.side events halt → carried_by x events ≡ opened x (start x)
opened_by x events halt begins = ap (carried_by x) begins.joined
    ∙ carried_more x begins.before begins.event
    ∙ ap (λ (s : Carried). behind x s begins.event) (unbegun_start x begins.before begins.unbegun)
    ∙ (opens_so x begins.event halt begins.begins_so).1

-- nor before
pub front_none : (x : Carrying) (events : List Event) (halt : Begun)
    → BeginsSo x.side events halt → (done rest : List Event) → events ≡ done ++ rest
    → (carried_by x done).documents ≡ 0
front_none x events halt begins done rest is = by rest (sym is ∙ begins.joined)
  where
    by : (rest : List Event) → done ++ rest ≡ begins.before ++ begins.event ∷ []
        → (carried_by x done).documents ≡ 0
    by rest same = elim (cut_of done rest begins.before begins.event same) [
      | inl all ↦ ap (λ (s : Carried). s.documents) (ap (carried_by x) (all ∙ sym begins.joined)
          ∙ opened_by x events halt begins)
      | inr others ↦ ap (λ (s : Carried). s.documents) (unbegun_start x done
          (front_unbegun x.side done others.0
          (subst (λ l. has_begun x.side l ≡ false) others.1 begins.unbegun)))
    ]

module _ (x : Carrying) (first : SinkView) (events : List Event) (halt : Begun)
    (begins : BeginsSo x.side events halt) (named : IsNamed x events) (c : Carrier)
    (now : SinkView) where
  abbrev joined : List Event
  joined = begins.before ++ begins.event ∷ []

  opened_is : carried_by x events ≡ opened x (start x)
  opened_is = opened_by x events halt begins

  pub put_opening : WasGiven first (part x.opening false ∷ []) c.parts now → IsLittle c.parts
      → (IsGoing c → (state_in c.sender ≡ first_state x.mode x.side)
      × (names_in c.sender ≡ record { statics = x.statics; strings = [] }) × (c.unfit ≡ None))
      → HasPut x first events c now
  put_opening given little at =
      let so = opens_so x begins.event halt begins.begins_so in
      let start_is = unbegun_start x begins.before begins.unbegun in
      record {
        parts = part x.opening false ∷ [];
        due = rw begins.joined (due_more (carries x) (λ s. s.documents) (start x) begins.before []
            begins.event (part x.opening false) (unbegun_due x begins.before begins.unbegun)
            (rw start_is (sym so.0, sym (ap (λ (s : Carried). s.documents) so.1))));
        given = given;
        little = little;
        begun = ap (λ (s : Carried). s.begun) opened_is;
        opened = ap (has_begun x.side) begins.joined
            ∙ begun_at_last x.side begins.before begins.event halt begins.begins_so;
        named = named;
        is_at = λ going. let a = at going in rw opened_is (record {
          moment_is = a.0;
          table_is = a.1;
          unfit_is = a.2;
        });
      }

-- its last event isn't a Fault
pub unfaulted : (side : Side) (events : List Event) (halt : Begun) → BeginsSo side events halt
    → faulted_along false events ≡ false
unfaulted side events halt begins = rw begins.joined (faulted_more false begins.before begins.event
    ∙ no_fault begins.event side halt begins.begins_so)
