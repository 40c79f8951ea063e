-- What a line says may happen, and how a player answers it.
use Rattle.std.proofs.Common.{◌≡◌, ℕ, ◌+◌, ◌-◌, ◌^◌, ◌<◌, ◌≤◌, Bool, true, false, List}
use Rattle.std.proofs.Common.{if◌then◌else◌, Some, None, Ok, Err, Option, Result, sym, refl, ap}
use Rattle.std.proofs.Common.{◌∙◌, subst, arith}
use Rattle.std.specs.Str.{is_utf8}
use Rattle.nbfx_values.specs.declared.content.Item.{Item}
use Rattle.line_notation.specs.declared.reader.LineKind.{LineKind, TheVariants.BadText}
use Rattle.reliable_sequence.specs.declared.events.{Counts.Counts, Event.Event}
use Rattle.reliable_sequence.specs.declared.events.Event.TheVariants.{Submit}
use Rattle.reliable_sequence.specs.Rehearsal.{counts_of, delivered_by, IsBody, Kept, kept_after}
use Rattle.reliable_sequence.specs.Rehearsal.{MayHappen}
use Rattle.reliable_sequence.specs.Sent.{submitted_count}
use Rattle.stream_loop.specs.declared.reading_end.FeedFault.{FeedFault}
use Rattle.stream_loop.specs.declared.reading_end.FeedFault.TheVariants.{Memory, Refused}
use Rattle.rehearsal.specs.declared.fault.HistoryFault.{HistoryFault, TheVariants.Line}
use Rattle.rehearsal.specs.declared.{played.Played.Played, player.Player.Player}
use Rattle.rehearsal.specs.Forms.{acknowledges, arrives, body_of, delivers, event_of, event_said}
use Rattle.rehearsal.specs.Forms.{Form, form_of, is_heard, sends, submission, submits}
use Rattle.rehearsal.specs.History.{brought, history_rules, played, Settings, Situation}
use Rattle.rehearsal.specs.History.{situation_after, submitted_in}
use Rattle.rehearsal.specs.PlayerState.{Plays, PlaysLine}
use Rattle.line_streams.specs.{LineRules.refusal_in, LineStreamState.LineAnswers}
use Rattle.line_streams.proofs.LineFacts.{answered_by}

-- one text may stand in Body
is-body : (text : List ℕ) → is_utf8 text ≡ true → IsBody (body_of text)
is-body text good = record { content = rw good refl; named = λ at. refl }

ok-same : {said event : Event} → ◌≡◌ {A = Result Event LineKind} (Ok said) (Ok event) → said ≡ event
ok-same e = cc

some-same : {k l : Kept} → ◌≡◌ {A = Option Kept} (Some k) (Some l) → k ≡ l
some-same e = cc

module _ (kept : Kept) (few : submitted_count kept.sender < 2 ^ 63 - 1) where
  submits-well : (text : List ℕ) (last : Bool) (event : Event)
      → submission text last ≡ Ok event → MayHappen kept event
  submits-well text last event e = by_test (is_utf8 text) refl e where
    by_test : (v : Bool) → is_utf8 text ≡ v
        → ◌≡◌ {A = Result Event LineKind} (if v then Ok (Submit (body_of text) last) else Err
        BadText)
        (Ok event) → MayHappen kept event
    by_test true good e =
        subst (λ (said : Event). MayHappen kept said) (ok-same e)
        (record { fits = is-body text good; few = few })
    by_test false bad e = cc

  form-happens : (form : Option Form) (event : Event) → event_said form ≡ Ok event
      → MayHappen kept event
  form-happens None event e = cc
  form-happens (Some (submits text last)) event e = submits-well text last event e
  form-happens (Some (sends n)) event e =
      subst (λ (said : Event). MayHappen kept said) (ok-same e) tt
  form-happens (Some (arrives at)) event e =
      subst (λ (said : Event). MayHappen kept said) (ok-same e) tt
  form-happens (Some delivers) event e =
      subst (λ (said : Event). MayHappen kept said) (ok-same e) tt
  form-happens (Some acknowledges) event e =
      subst (λ (said : Event). MayHappen kept said) (ok-same e) tt
  form-happens (Some (is_heard at)) event e =
      subst (λ (said : Event). MayHappen kept said) (ok-same e) tt

  -- what a line says may happen
  pub may-happen : (line : List ℕ) (event : Event) → event_of line ≡ Ok event
      → MayHappen kept event
  may-happen line event e = form-happens (form_of line) event e

-- few bodies were submitted, where few lines were played
pub few-so : (kept : Kept) (world : Option Kept) (lines : ℕ) → Some kept ≡ world
    → submitted_in world ≤ lines → lines < 2 ^ 62 → submitted_count kept.sender < 2 ^ 63 - 1
few-so kept world lines is few less =
    let here : submitted_count kept.sender ≤ lines
    = subst (λ (w : Option Kept). submitted_in w ≤ lines) (sym is) few in
    omega (arith, here, less)

-- ---- how a line is answered

module _ (z : Situation) (old : Player) (line : List ℕ) (plays : Plays z old) where
  pub refused-so : (kind : LineKind) → event_of line ≡ Err kind
      → brought z (event_of line) ≡ Err (Line (old.lines + 1) kind)
  refused-so kind e =
      ap (brought z) e ∙ ap (λ (n : ℕ). Err (Line (n + 1) kind)) (sym plays.lines)

  module _ (event : Event) (world : Kept) (is : old.world ≡ Some world) where
    same-world : world ≡ z.kept
    same-world = let both = sym is ∙ plays.kept in some-same both

    pub played-so : event_of line ≡ Ok event → (new : Player) (next : Kept)
        (body : Option (List Item)) (counts : Counts) → next ≡ kept_after world event
        → body ≡ delivered_by world event → counts ≡ counts_of next → new.world ≡ Some next
        → new.lines ≡ old.lines + 1
        → PlaysLine z line new (Ok (record { body = body; counts = counts }))
    played-so e new next body counts next_is body_is counts_are there lines =
        let same = same-world in
        let next_so : next ≡ kept_after z.kept event
        = next_is ∙ ap (λ (k : Kept). kept_after k event) same in
        let body_so : body ≡ delivered_by z.kept event
        = body_is ∙ ap (λ (k : Kept). delivered_by k event) same in
        let counts_so : counts ≡ counts_of (kept_after z.kept event)
        = counts_are ∙ ap counts_of next_so in
        let brings : played z.kept event ≡ record { body = body; counts = counts } = cc in (
          situation_after z event,
          ap (brought z) e ∙ ap (λ (p : Played). Ok (situation_after z event, p)) brings,
          record {
            kept = there ∙ ap Some next_so;
            lines = lines ∙ ap (λ n. n + 1) plays.lines;
          },
        )

-- what is played is what the rules of lines say
module _ (x : Settings) (z : Situation) (line : List ℕ) (new : Player) where
  abbrev Answered : Result (Option Played) (FeedFault HistoryFault) → Type 0
  Answered = LineAnswers (history_rules x) (λ behind. Plays behind new) z line

  pub line-played : (one : Played) → PlaysLine z line new (Ok one) → Answered (Ok (Some one))
  line-played one (behind, is, there) =
      answered_by (λ (y : Situation). Plays y new) z behind one (brought z (event_of line)) is there

  pub line-refused : (fault : FeedFault HistoryFault) → PlaysLine z line new (Err fault)
      → Answered (Err fault)
  line-refused (Refused fault) is = ap refusal_in is
  line-refused Memory is = tt
