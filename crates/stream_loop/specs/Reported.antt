-- What was read and written where a stream is reported, however that ends. The output may have held
-- bytes before, which are written before what is put.
use Rattle.std.specs.Prelude.{◌≡◌, ℕ, ◌≤◌, ◌⊎◌, List, [], ◌++◌, length, Some, Option}
use Rattle.io_edges.specs.{Faults.CountsFaults, Faults.one_more, Flow.GrowsByPrefix, Flow.Told}
use Rattle.unit_streams.specs.{Going.IsPending, Grammar.Grammar, Judging.events, Judging.offence}
use Rattle.unit_streams.specs.Tellers.{report, state_behind, Teller, told_so_far}
use Rattle.stream_loop.specs.{declared.reporting.ReportEnding.ReportEnding, Edges.Input}
use Rattle.stream_loop.specs.declared.reporting.ReportEnding.TheVariants.{Judged, ReadFault}
use Rattle.stream_loop.specs.declared.reporting.ReportEnding.TheVariants.{WriteFault}
use Rattle.io_edges.specs.Views.{SinkView}

-- more is written after what was
pub record Grows (w w' : List ℕ) : Type 0 where
  pub more : List ℕ
  pub grown : w' ≡ w ++ more

module _ {Z U E R S : Type 0} (g : Grammar Z U E R) (t : Teller S E R) where
  -- what is remembered after all events of a stream
  abbrev pub last_state : List ℕ → S
  last_state stream = state_behind t t.start (events g stream)

  -- what is written of these bytes' events is written, and maybe more; or only a part of what the
  -- output held before is, and there are no such bytes
  abbrev pub Writes : (held bytes w w' : List ℕ) → Type 0
  Writes held bytes w w' =
      Grows (w ++ held ++ told_so_far g t bytes) w' ⊎ ((bytes ≡ []) × GrowsByPrefix w w' held)

  -- these bytes have the offence, and their events leave the state
  abbrev pub IsJudged : (judged : Option R) (state : S) → List ℕ → Type 0
  IsJudged judged state bytes = (offence g bytes ≡ judged) × (state ≡ last_state bytes)

  module _ (i i' : Input) (o o' : SinkView) where
    -- What was read and written where reading failed: bytes of which no prefix is refused or ends
    -- the stream, and what is written of their events. No take gave nothing.
    pub record Breaks : Type 0 where
      pub bytes : List ℕ
      pub pending : IsPending g bytes
      pub stream : Told i.left i'.left (λ all rest. all ≡ bytes ++ rest)
      pub took : Told i.taken i'.taken (λ t t'. t' ≡ t ++ bytes)
      pub wrote : Told o.written o'.written (λ w w'. w' ≡ w ++ o.held ++ told_so_far g t bytes)
      pub no_empty_take : i'.empty_takes ≡ i.empty_takes

    -- What was read and written however it ends: such bytes, and at most one piece after them; all
    -- that is written of the events of the bytes, and maybe more.
    pub record Reaches : Type 0 where
      pub before : List ℕ
      pub piece : List ℕ
      pub pending : IsPending g before
      pub short : length piece ≤ 65536
      pub stream : Told i.left i'.left (λ all rest. all ≡ before ++ piece ++ rest)
      pub took : Told i.taken i'.taken (λ t t'. t' ≡ t ++ before ++ piece)
      pub wrote : Told o.written o'.written (Writes o.held before)

    -- What was read and written of a stream that is judged: bytes that have this offence, and their
    -- report. Either they may go on, and one take gave nothing, after all of them; or they decide
    -- it however they go on, and no take gave nothing.
    pub record Decides (judged : Option R) (state : S) : Type 0 where
      pub bytes : List ℕ
      pub judged_so : IsJudged judged state bytes
      pub settled : (IsPending g bytes × (i'.empty_takes ≡ one_more i.empty_takes))
          ⊎ (((more : List ℕ) → IsJudged judged state (bytes ++ more))
          × (i'.empty_takes ≡ i.empty_takes))
      pub stream : Told i.left i'.left (λ all rest. (all ≡ bytes ++ rest)
          × ((rest ≡ []) ⊎ ((more : List ℕ) → IsJudged judged state (bytes ++ more))))
      pub took : Told i.taken i'.taken (λ t t'. t' ≡ t ++ bytes)
      pub wrote : Told o.written o'.written (λ w w'. w' ≡ w ++ o.held ++ report g t bytes)

    -- the judgement of a stream is its offence, and the state is what its events leave
    abbrev pub Judges : List ℕ → (state : S) → ReportEnding R → Type 0
    Judges bytes state (Judged judged) = IsJudged judged state bytes
    Judges bytes state _ = Unit {0}

    -- what is written of a stream after what was held: its report, or the first bytes of both
    abbrev pub Reports : List ℕ → (w w' : List ℕ) → ReportEnding R → Type 0
    Reports bytes w w' (Judged judged) = w' ≡ w ++ o.held ++ report g t bytes
    Reports bytes w w' _ = GrowsByPrefix w w' (o.held ++ report g t bytes)

    -- of the takes at most one gave nothing, and none failed after it
    abbrev pub OneEmptyTake : ReportEnding R → Type 0
    OneEmptyTake ending = (i'.empty_takes ≡ i.empty_takes)
        ⊎ ((i'.empty_takes ≡ one_more i.empty_takes) × (ending ≡ ReadFault → ⊥))

    -- What is known of a stream's reporting, which leaves such a state and ends so: what was read
    -- and written, how many takes of the input gave nothing, and what the calls that failed by the
    -- outside left of the counts of the input and of the output.
    pub record EndsAs (state : S) (ending : ReportEnding R) : Type 0 where
      pub judges : (bytes : List ℕ) → i.left ≡ Some bytes → Judges bytes state ending
      pub reports : (bytes w : List ℕ) → i.left ≡ Some bytes → o.written ≡ Some w
          → (w' : List ℕ) × (o'.written ≡ Some w') × Reports bytes w w' ending
      pub decides : (judged : Option R) → ending ≡ Judged judged → Decides judged state
      pub breaks : ending ≡ ReadFault → Breaks
      pub reaches : Reaches
      pub one_empty_take : OneEmptyTake ending
      pub reads_counted : CountsFaults i.faults i'.faults (ending ≡ ReadFault)
      pub writes_counted : CountsFaults o.faults o'.faults (ending ≡ WriteFault)
