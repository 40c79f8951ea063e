-- How a reader comes along a piece.
use Rattle.nmf_records.specs.RecordFronts.{TextKind, TextLimits}
use Rattle.std.proofs.Common.{◌≡◌, ℕ, ◌+◌, ◌-◌, ◌<◌, ◌≤◌, Bool, true, false, List, [], ◌∷◌, ◌++◌}
use Rattle.std.proofs.Common.{length, take, drop, if◌then◌else◌, Some, sym, refl, ap, ◌∙◌, subst}
use Rattle.std.proofs.Common.{append_assoc, append-nil, arith, length-append, take-append-drop}
use Rattle.std.proofs.{Common.length-take-le, Math.Seq.take-add, lemmas.List.take_rest}
use Rattle.unit_streams.proofs.Peeling.{decided_some, goes_on}
use Rattle.unit_streams.specs.Front.{begun, Front}
use Rattle.nmf_records.specs.declared.frame.Expect.{Expect, TheVariants.Chunk, TheVariants.Types}
use Rattle.nmf_records.specs.declared.frame.{FrameFault.FrameFault, FrameRefusal.FrameRefusal}
use Rattle.nmf_records.specs.declared.{reader.FrameReader.FrameReader, stage.Stage.Stage}
use Rattle.nmf_records.specs.Reader.{failure_of, HasShape, HoldsText, type_of_text, limits_of}
use Rattle.nmf_records.specs.Reader.{pending_of, refusal_in, ShowsText, StandsFor, text_after}
use Rattle.nmf_records.{specs.Reader.text_read, specs.Records.Read, proofs.Frames.frame_peels}
use Rattle.nmf_records.specs.RecordFronts.{begins_text, frame_at}
use Rattle.nmf_records.proofs.Showing.{field_head, plain_shows, size_head, text_shows}
use Rattle.nmf_records.specs.declared.stage.Stage.TheVariants as stages

-- n bytes of the rest of a piece, behind used ones
module _ (p piece : List ℕ) (used n : ℕ) where
  -- what the piece has left
  abbrev pub rest_of : List ℕ
  rest_of = take (length piece - used) (drop used piece)

  -- n more of its bytes lie behind the used ones
  pub along : (p ++ take used piece) ++ take n rest_of ≡ p ++ take (used + n) piece
  along = append_assoc p (take used piece) (take n rest_of) ∙ ap (λ x. p ++ x)
      (ap (λ r. take used piece ++ take n r) (take_rest piece used) ∙ sym (take-add used n piece))

  -- and the others behind those
  pub all_along : ((p ++ take used piece) ++ take n rest_of) ++ drop n rest_of ≡ p ++ piece
  all_along =
      append_assoc (p ++ take used piece) (take n rest_of) (drop n rest_of)
      ∙ ap (λ r. (p ++ take used piece) ++ r) (take-append-drop n rest_of ∙ take_rest piece used)
      ∙ append_assoc p (take used piece) (drop used piece) ∙ ap (λ r. p ++ r)
      (take-append-drop used piece)

  -- how many bytes there are then
  pub len_along : used + n ≤ length piece → length ((p ++ take used piece) ++ take n rest_of)
      ≡ length p + (used + n)
  len_along le = ap length along ∙ simp length-append
      (omega (arith, length-take-le (used + n) piece le))

-- what is decided stays so
pub decided_along : (limits : TextLimits) (expect : Expect) (b c : List ℕ)
    → (frame_at limits expect b ≡ begun → ⊥) → frame_at limits expect (b ++ c)
    ≡ frame_at limits expect
    b
decided_along limits expect b c said =
    let peels = frame_peels limits expect in
    goes_on (frame_at limits expect) peels b c (decided_some (frame_at limits expect) peels b said)

-- a text that has begun is known by its first byte
head_along : (kind : TextKind) (expect : Expect) (b c : List ℕ) → 0 < length b
    → begins_text kind expect (b ++ c) ≡ begins_text kind expect b
head_along kind expect [] c lt = absurd (omega arith)
head_along kind (Types types) (type ∷ b) c lt = refl
head_along kind Chunk (type ∷ b) c lt = refl

-- nothing is decided by no byte
decided_length : (limits : TextLimits) (expect : Expect) (b : List ℕ) → (frame_at limits expect b
    ≡ begun → ⊥)
    → 0 < length b
decided_length limits expect [] said = absurd (said (frame_peels limits expect).nothing)
decided_length limits expect (x ∷ b) said = omega arith

-- the text shown behind b and more is shown all along
pub after_after : (kind : TextKind) (s : List ℕ) (expect : Expect) (b c : List ℕ)
    (reading : Front Read FrameFault)
    → text_after kind (text_after kind s expect b begun) expect (b ++ c) reading
    ≡ text_after kind s expect (b ++ c) reading
after_after kind s (Types types) [] c reading = refl
after_after kind s Chunk b c reading = refl
after_after kind s (Types types) (type ∷ b) c reading =
    by_case (begins_text kind (Types types) (type ∷ b))
  where
    by_case : (t : Bool) → (if t then text_read reading else (if t then [] else s))
        ≡ (if t then text_read reading else s)
    by_case true = refl
    by_case false = refl

-- what is shown where a record is decided is shown however it goes on
pub after_along : (kind : TextKind) (s : List ℕ) (limits : TextLimits) (expect : Expect)
    (b c : List ℕ) → (frame_at limits expect b ≡ begun → ⊥)
    → text_after kind s expect b (frame_at limits expect b)
    ≡ text_after kind s expect (b ++ c) (frame_at limits expect (b ++ c))
after_along kind s limits expect b c said =
    rw (
      head_along kind expect b c (decided_length limits expect b said),
      decided_along limits expect b c said,
    ) refl

-- a reader shows what it has of a record that has begun
pub begun_shows : (kind : TextKind) (r : FrameReader) (expect : Expect) (p s : List ℕ)
    → StandsFor r expect p → ShowsText kind r s
    → ShowsText kind r (text_after kind s expect p begun)
unfolding StandsFor
begun_shows kind r expect p s stands h = by_stage r.stage stands.shape stands.text where
  none_begins : (expect : Expect) → begins_text kind expect [] ≡ false
  none_begins (Types types) = refl
  none_begins Chunk = refl

  by_stage : (stage : Stage) → HasShape expect stage p → HoldsText stage r p
      → ShowsText kind r (text_after kind s expect p begun)
  by_stage stages.Type shape text = plain_shows kind r s expect p begun
      (ap (begins_text kind expect) shape ∙ none_begins expect) h
  by_stage (stages.Field field) shape text = plain_shows kind r s expect p begun
      (ap (begins_text kind expect) (sym (append-nil p)) ∙ field_head kind expect field p [] shape)
      h
  by_stage (stages.Size size) shape text = plain_shows kind r s expect p begun
      (ap (begins_text kind expect) (sym (append-nil p)) ∙ size_head kind expect size p [] shape) h
  by_stage (stages.Failed fault) shape text = absurd shape
  by_stage (stages.Text t) shape text =
      let h' : frame_at (limits_of r) expect (type_of_text t ∷ drop 1 p)
      ≡ begun = ap (frame_at (limits_of r) expect) (sym shape) ∙ stands.begun in
      let shown = text_shows (limits_of r) r r kind s expect t (drop 1 p) (drop 1 p) refl h' text
      (λ _. refl) h in
      let e : text_after kind s expect (type_of_text t ∷ drop 1 p)
      (frame_at (limits_of r) expect (type_of_text t ∷ drop 1 p)) ≡ text_after kind s expect p begun
      = ap (text_after kind s expect (type_of_text t ∷ drop 1 p)) h' ∙
      ap (λ x. text_after kind s expect x begun) (sym shape) in
      subst (ShowsText kind r) e shown

-- what a reader stands for has begun
pub begun_still : (limits : TextLimits) (r : FrameReader) (expect : Expect) (p : List ℕ)
    → limits_of r ≡ limits
    → StandsFor r expect p → frame_at limits expect p ≡ begun
unfolding StandsFor
begun_still limits r expect p e stands = ap (λ l. frame_at l expect p) (sym e) ∙ stands.begun

-- a failed stage answers its refusal from now on
pub refusal_is : (reader : FrameReader) (fault : FrameFault) → reader.stage ≡ stages.Failed fault
    → failure_of reader ≡ Some (record { fault = fault; shown_by = pending_of reader })
unfolding failure_of pending_of
refusal_is reader fault e = ap (λ stage. refusal_in stage reader.pending) e

-- and another stage none
pub no_refusal : (reader : FrameReader) (refusal : FrameRefusal)
    → ((fault : FrameFault) → reader.stage ≡ stages.Failed fault → ⊥)
    → failure_of reader ≡ Some refusal → ⊥
unfolding failure_of
no_refusal reader refusal isnt e = by_stage reader.stage isnt e where
  by_stage : (stage : Stage) → ((fault : FrameFault) → stage ≡ stages.Failed fault → ⊥)
      → refusal_in stage reader.pending ≡ Some refusal → ⊥
  by_stage stages.Type isnt e = cc
  by_stage (stages.Field field) isnt e = cc
  by_stage (stages.Text text) isnt e = cc
  by_stage (stages.Size size) isnt e = cc
  by_stage (stages.Failed fault) isnt e = isnt fault refl

-- what n bytes of the rest of a piece decide, the whole piece decides
module _ (limits limits' : TextLimits) (expect : Expect) (p piece : List ℕ) (used n : ℕ)
    (same : limits ≡ limits') where
  -- the bytes so far with n more
  abbrev pub upto : List ℕ
  upto = (p ++ take used piece) ++ take n (rest_of p piece used n)

  -- what these decide is decided by the whole piece
  pub piece_decided : (frame_at limits expect upto ≡ begun → ⊥)
      → frame_at limits' expect (p ++ piece)
      ≡ frame_at limits expect upto
  piece_decided said =
      ap (λ l. frame_at l expect (p ++ piece)) (sym same) ∙ ap (frame_at limits expect)
      (sym (all_along p piece used n)) ∙ decided_along limits expect upto
      (drop n (rest_of p piece used n)) said

  -- and so is the text that is shown
  pub piece_shows : (kind : TextKind) (new : FrameReader) (s : List ℕ)
      → (frame_at limits expect upto ≡ begun → ⊥)
      → ShowsText kind new (text_after kind (text_after kind s expect (p ++ take used piece) begun)
      expect upto (frame_at limits expect upto))
      → ShowsText kind new (text_after kind s expect (p ++ piece)
      (frame_at limits' expect (p ++ piece)))
  piece_shows kind new s said h =
      let b : List ℕ = p ++ take used piece in
      let more : List ℕ = take n (rest_of p piece used n) in
      let shown = after_after kind s expect b more (frame_at limits expect (b ++ more)) ∙
      after_along kind s limits expect upto (drop n (rest_of p piece used n)) said in
      subst (λ l. ShowsText kind new (text_after kind s expect (p ++ piece)
      (frame_at l expect (p ++ piece)))) same
      (subst (λ q. ShowsText kind new (text_after kind s expect q (frame_at limits expect q)))
      (all_along p piece used n) (subst (ShowsText kind new) shown h))
