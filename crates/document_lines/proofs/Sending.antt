-- What an encoder of lines answers and is, by where the line led.
use Rattle.std.proofs.Common.{◌≡◌, ℕ, ◌+◌, true, false, not, ◌&&◌, List, if◌then◌else◌, ◌==◌, Some}
use Rattle.std.proofs.Common.{None, Ok, Err, Option, Result, sym, refl, ap, ◌∙◌, subst, inl, inr}
use Rattle.std.proofs.Common.{arith, ne_eqb, ◌-◌, ◌≤◌, max}
use Rattle.std.proofs.{lemmas.Bool.cases_Bool, Math.Nat.le-max_left, Math.Nat.le-max_right}
use Rattle.string_tables.specs.{StaticStrings.Entry, StringTable.StringTable}
use Rattle.nbfx_values.specs.{declared.session.Kind.Kind, Limits.Limits}
use Rattle.nbfx_values.specs.declared.{content.Item.Item, session.Mode.Mode}
use Rattle.nbfx_values.specs.declared.session.Mode.TheVariants.{Duplex, Simplex, Singleton}
use Rattle.nbfx_encoder.specs.declared.sender.{Sender.Sender, SendState.TheVariants.Ready}
use Rattle.nbfx_encoder.specs.declared.sender.SendState.TheVariants.{Spent}
use Rattle.nbfx_encoder.specs.{declared.sender.Side.TheVariants.Initiator, Spelling.encoded}
use Rattle.nbfx_encoder.specs.Sending.{behind_message, first_state, KeepsSettings, kind_in}
use Rattle.nbfx_encoder.specs.Sending.{limits_in, mode_in, names_in, state_in}
use Rattle.stream_loop.specs.declared.reading_end.FeedFault.{FeedFault}
use Rattle.stream_loop.specs.declared.reading_end.FeedFault.TheVariants.{Memory, Refused}
use Rattle.line_notation.specs.declared.reader.LineFault.{LineFault, TheVariants.Bad}
use Rattle.line_notation.specs.declared.reader.LineKind.{LineKind, TheVariants.WrongCount}
use Rattle.line_notation.specs.declared.reader.LineStep.{LineStep}
use Rattle.line_notation.specs.declared.reader.LineStep.TheVariants.{Done, More}
use Rattle.line_notation.specs.Between.{is_between, IsUnrefused, next_line}
use Rattle.line_notation.specs.LineReaderState.{after, answer, failed, Standing}
use Rattle.document_lines.specs.declared.InputFault.{InputFault, TheVariants.Line}
use Rattle.document_lines.specs.declared.line_encoder.LineEncoder.{LineEncoder}
use Rattle.line_streams.specs.LineStreamState.{LineAnswers}
use Rattle.document_lines.specs.LineEncoderState.{IsAt, IsIn, IsSent, KeepsAll, SendAnswers}
use Rattle.document_lines.specs.LineEncoderState.{settings_in}
use Rattle.document_lines.specs.Input.{behind_line, completed_line, document_rules, is_full}
use Rattle.document_lines.specs.Input.{is_singleton, payload_at, refused_line, Settings, Situation}
use Rattle.document_lines.specs.Input.{start_of}
use Rattle.document_lines.proofs.Standings.{done_leads, more_leads, next_after, no_lone}

-- before the first document a message may be sent
pub ready_first : (mode : Mode)
    → first_state mode Initiator ≡ (if is_singleton mode && not (0 == 0) then Spent else Ready)
ready_first Singleton = refl
ready_first Duplex = refl
ready_first Simplex = refl

-- and in singleton mode before no other
pub none_full : (mode : Mode) → (is_singleton mode && not (0 == 0)) ≡ false
none_full Singleton = refl
none_full Duplex = refl
none_full Simplex = refl

state_behind : (mode : Mode) (n : ℕ)
    → behind_message mode ≡ (if is_singleton mode && not (n + 1 == 0) then Spent else Ready)
state_behind Singleton n = rw (ne_eqb (n + 1) 0 (λ e. omega (arith, e))) refl
state_behind Duplex n = refl
state_behind Simplex n = refl

module _ (x : Settings) (z : Situation) (old new : LineEncoder) (at : IsAt x z old)
    (line : List ℕ) (lines : new.lines ≡ after z.lines line)
  where
    abbrev Answered : Result (Option (List ℕ)) (FeedFault InputFault) → Type 0
    Answered = LineAnswers (document_rules x) (λ behind. IsAt x behind new) z line

    -- a line that completes a document
    module _ (doc : List Item) (a : answer z.lines line ≡ Ok (Done doc))
        (kept : KeepsSettings old.sender new.sender) (mode : new.mode ≡ old.mode)
        (documents : new.documents ≡ old.documents + 1)
      where
        not_full : is_full x z ≡ false
        not_full =
            elim (cases_Bool (is_full x z)) [
              | inl t ↦ absurd (no_lone z.lines line doc (at.full t) a)
              | inr f ↦ f
            ]

        pub may_send : state_in old.sender ≡ Ready
        may_send = at.state ∙ rw not_full refl

        -- written
        module _ (bytes : List ℕ) (sent : IsSent (payload_at x z doc) x.mode bytes new) where
          there : IsAt x (record {
            lines = after z.lines line;
            table = sent.placed.1;
            documents = z.documents + 1;
          }) new
          there =
              let leads = done_leads z.lines line doc a in
              let between : is_between (after z.lines line) ≡ true = rw leads.1 refl in record {
                limits = kept.limits ∙ at.limits;
                kind = kept.kind ∙ at.kind;
                mode = mode ∙ at.mode;
                sends = kept.mode ∙ at.sends;
                lines = lines;
                table = sent.table;
                documents = documents ∙ ap (λ n. n + 1) at.documents;
                state = sent.state ∙ state_behind x.mode z.documents;
                unrefused = subst IsUnrefused (sym leads.1) tt;
                full = λ full. between;
              }

          written : Answered (Ok (Some bytes))
          written =
              let P : Result LineStep LineFault → Type 0
              = λ r. (refused_line x z (after z.lines line) r ≡ None)
              × (completed_line x z r ≡ Some bytes)
              × IsAt x (behind_line x z (after z.lines line) r) new in
              subst P (sym a) (rw sent.payload_is (refl, ap Some (sym sent.bytes_are), there))

        answered : (result : Result (Option (List ℕ)) (FeedFault InputFault))
            → SendAnswers (payload_at x z doc) x.mode z.documents new result → Answered result
        answered (Ok None) s = absurd s
        answered (Ok (Some bytes)) s = written bytes s
        answered (Err (Refused fault)) s =
            let P : Result LineStep LineFault → Type 0
            = λ r. refused_line x z (after z.lines line) r ≡ Some fault in
            subst P (sym a) (rw s.1 (ap Some (sym s.2)))
        answered (Err Memory) s = tt

        pub line_done : (result : Result (Option (List ℕ)) (FeedFault InputFault))
            → (state_in old.sender ≡ Ready → SendAnswers
            (encoded (limits_in old.sender) (kind_in old.sender) (names_in old.sender) doc)
            (mode_in old.sender) old.documents new result)
            → Answered result
        line_done result sent =
            answered result (rw (at.limits, at.kind, at.table, at.sends, at.documents) at
            (sent may_send))

    -- one that doesn't
    module _ (a : answer z.lines line ≡ Ok More) (sender : new.sender ≡ old.sender)
        (mode : new.mode ≡ old.mode) (documents : new.documents ≡ old.documents)
      where
        -- a second document begins in singleton mode
        pub line_full : (number : ℕ) → (is_singleton old.mode && not (old.documents == 0)) ≡ true
            → is_between new.lines ≡ false → number ≡ next_line z.lines
            → Answered (Err (Refused (Line number WrongCount)))
        line_full number full begun count =
            let is : is_full x z ≡ true = rw (sym at.mode, sym at.documents) full in
            let behind : is_between (after z.lines line) ≡ false = rw (sym lines) begun in
            let P : Result LineStep LineFault → Type 0
            = λ r. refused_line x z (after z.lines line) r ≡ Some (Line number WrongCount) in
            subst P (sym a) (rw (is, at.full is, behind, count) refl)

        pub line_more : ((is_singleton old.mode && not (old.documents == 0)) ≡ true
            → is_between new.lines ≡ true) → Answered (Ok None)
        line_more full =
            let still : is_full x z ≡ true → is_between (after z.lines line) ≡ true
            = λ is. rw (sym lines) (full (rw (at.mode, at.documents) is)) in
            let P : Result LineStep LineFault → Type 0
            = λ r. (refused_line x z (after z.lines line) r ≡ None)
            × (completed_line x z r ≡ None)
            × IsAt x (behind_line x z (after z.lines line) r) new in
            subst P (sym a) (
              unrefused still,
              refl,
              record {
                limits = ap limits_in sender ∙ at.limits;
                kind = ap kind_in sender ∙ at.kind;
                mode = mode ∙ at.mode;
                sends = ap mode_in sender ∙ at.sends;
                lines = lines;
                table = ap names_in sender ∙ at.table;
                documents = documents ∙ at.documents;
                state = ap state_in sender ∙ at.state;
                unrefused = more_leads z.lines line a;
                full = still;
              },
            )
          where
            unrefused : (is_full x z ≡ true → is_between (after z.lines line) ≡ true)
                → refused_line x z (after z.lines line) (Ok More) ≡ None
            unrefused still =
                elim (cases_Bool (is_full x z)) [
                  | inl t ↦ rw (t, still t, at.full t) refl
                  | inr f ↦ rw f refl
                ]

    -- one that is refused
    pub line_bad : (n : ℕ) (kind : LineKind) → answer z.lines line ≡ Err (Bad n kind)
        → Answered (Err (Refused (Line n kind)))
    line_bad n kind a =
        let P : Result LineStep LineFault → Type 0
        = λ r. refused_line x z (after z.lines line) r ≡ Some (Line n kind) in
        subst P (sym a) refl

-- ---- what it is set to

same_set : (limits l : Limits) (kind k : Kind) (mode m : Mode) (statics s : List Entry)
    → limits ≡ l → kind ≡ k → mode ≡ m → statics ≡ s
    → ◌≡◌ {A = Settings} (record { limits = limits; kind = kind; mode = mode; statics = statics })
    (record { limits = l; kind = k; mode = m; statics = s })
same_set limits l kind k mode m statics s a b c d = rw (a, b, c, d) refl

pub set_as : (e : LineEncoder) (x : Settings) → IsAt x (start_of x) e → settings_in e ≡ x
unfolding settings_in
set_as e x at = same_set _ _ _ _ _ _ _ _ at.limits at.kind at.mode
    (ap (λ (t : StringTable). t.statics) at.table)

-- sending a document leaves that
pub set_sent : (old new : LineEncoder) → KeepsSettings old.sender new.sender
    → new.mode ≡ old.mode → settings_in new ≡ settings_in old
unfolding settings_in
set_sent old new kept mode =
    same_set _ _ _ _ _ _ _ _ kept.limits kept.kind mode kept.statics

-- and so does a line that completes none
pub set_moved : (e : LineEncoder) (lines : Standing)
    → settings_in (record e { lines = lines }) ≡ settings_in e
unfolding settings_in
set_moved e lines = refl

-- and what changes nothing but the room of the next envelope
pub set_still : (old new : LineEncoder) → KeepsAll old new → settings_in new ≡ settings_in old
unfolding settings_in
set_still old new kept = same_set _ _ _ _ _ _ _ _ (ap limits_in kept.sender)
    (ap kind_in kept.sender) kept.mode (ap (λ (s : Sender). (names_in s).statics) kept.sender)

-- what changes nothing but the room of the next envelope leaves it as it is
pub at_still : (x : Settings) (z : Situation) (old new : LineEncoder) → KeepsAll old new
    → IsAt x z old → IsAt x z new
at_still x z old new kept at = record {
  limits = ap limits_in kept.sender ∙ at.limits;
  kind = ap kind_in kept.sender ∙ at.kind;
  mode = kept.mode ∙ at.mode;
  sends = ap mode_in kept.sender ∙ at.sends;
  lines = kept.lines ∙ at.lines;
  table = ap names_in kept.sender ∙ at.table;
  documents = kept.documents ∙ at.documents;
  state = ap state_in kept.sender ∙ at.state;
  unrefused = at.unrefused;
  full = at.full;
}

-- a line is answered by an encoder that is set as it was
pub line_in : (old new : LineEncoder) → settings_in new ≡ settings_in old → (z : Situation)
    (line : List ℕ) (result : Result (Option (List ℕ)) (FeedFault InputFault))
    → LineAnswers (document_rules (settings_in old)) (λ behind. IsAt (settings_in old) behind new) z
    line result
    → LineAnswers (document_rules (settings_in old)) (IsIn new) z line result
line_in old new same z line result answers =
    subst (λ (x : Settings). LineAnswers (document_rules (settings_in old))
    (λ behind. IsAt x behind new) z line result) (sym same) answers

pub still_in : (old new : LineEncoder) → KeepsAll old new → (z : Situation) → IsIn old z
    → IsIn new z
still_in old new kept z at =
    subst (λ (x : Settings). IsAt x z new) (sym (set_still old new kept))
    (at_still (settings_in old) z old new kept at)

-- ---- how many lines and documents there were

-- of two counts each is one more at most
one_more : (a a' b b' : ℕ) → a' ≤ a + 1 → b' ≤ b + 1 → max a' b' ≤ max a b + 1
one_more a a' b b' less few =
    let l = le-max_left a b in
    let r = le-max_right a b in
    max_below a' b' (max a b + 1) (omega (arith, less, l)) (omega (arith, few, r))
  where
    max_below : (m n most : ℕ) → m ≤ most → n ≤ most → max m n ≤ most
    max_below m n most p q = grind (arith, p, q)

-- a line is one line more at most, and completes a document at most
pub counted : (old new : LineEncoder) (line : List ℕ) → new.lines ≡ after old.lines line
    → new.documents ≤ old.documents + 1
    → max (next_line new.lines - 1) new.documents ≤ max (next_line old.lines - 1) old.documents + 1
counted old new line leads few =
    let less = next_after old.lines line in
    let same = ap next_line leads in
    one_more (next_line old.lines - 1) (next_line new.lines - 1) old.documents new.documents
    (omega (arith, less, same)) few

pub counted_failed : (old new : LineEncoder) (fault : LineFault) → new.lines ≡ failed fault
    → new.documents ≡ old.documents
    → max (next_line new.lines - 1) new.documents ≤ max (next_line old.lines - 1) old.documents + 1
counted_failed old new fault leads same =
    let none = ap next_line leads in
    one_more (next_line old.lines - 1) (next_line new.lines - 1) old.documents new.documents
    (omega (arith, none)) (omega (arith, same))
