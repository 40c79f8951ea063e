use Rattle.std.proofs.Common.{◌≡◌, ℕ, ◌-◌, List, ◌++◌, length, take, drop, Some, sym, refl, ap, ◌∙◌}
use Rattle.std.proofs.Common.{subst, append-nil, arith, length-drop}
use Rattle.{std.proofs.lemmas.List.take_rest, unit_streams.proofs.Taken.all_taken}
use Rattle.unit_streams.specs.Front.{begun, whole, wrong}
use Rattle.nmf_records.specs.declared.frame.FrameRefusal.{FrameRefusal}
use Rattle.nmf_records.specs.Reader.{limits_of, ShowsText, StandsFor, text_after}
use Rattle.nmf_records.specs.RecordFronts.{frame_at, with_text}
use Rattle.nmf_records.proofs.Feeding.{after_after, along, begun_shows, begun_still, len_along}
use Rattle.nmf_records.proofs.Feeding.{no_refusal, piece_decided, piece_shows, refusal_is, rest_of}
use Rattle.nmf_records.proofs.reader.FrameReader.feed_on.Goals.{After-loop-used}
use Rattle.nmf_records.proofs.reader.FrameReader.feed_on.Goals as goal

pub returns-in-Failed-clause-answers : goal.returns-in-Failed-clause-answers
unfolding StandsFor
returns-in-Failed-clause-answers c = λ p stands. let none : ⊥ = rw c.in-Failed.is at stands.shape in
    absurd none

pub returns-in-Failed-clause-text : goal.returns-in-Failed-clause-text
unfolding StandsFor
returns-in-Failed-clause-text c = λ kind p s stands h. let none : ⊥ = rw c.in-Failed.is at
    stands.shape
    in absurd none

pub returns-in-Failed-clause-failed : goal.returns-in-Failed-clause-failed
returns-in-Failed-clause-failed c = refusal_is _ _ c.in-Failed.is ∙ ap Some (sym c.refusal.ensures)

pub returns-in-Failed-clause-repeated : goal.returns-in-Failed-clause-repeated
returns-in-Failed-clause-repeated c = λ refusal e.
    let same : Some c.refusal.result ≡ Some refusal = ap Some c.refusal.ensures ∙ sym
    (refusal_is _ _ c.in-Failed.is) ∙ e in cc

pub loop-used-init : goal.loop-used-init
loop-used-init c =
    let r = c.args.self.now in
    record {
      within = omega arith;
      stands = λ p stands. subst (StandsFor r c.args.expect) (sym (append-nil p)) stands;
      text = λ kind p s stands h. subst (λ q. ShowsText kind r
          (text_after kind s c.args.expect q begun))
          (sym (append-nil p)) (begun_shows kind r c.args.expect p s stands h);
      limits = refl;
    }

-- how many bytes of the piece are left
rest_len : (piece : List ℕ) (used : ℕ) → length (take (length piece - used) (drop used piece))
    ≡ length piece - used
rest_len piece used = ap length (take_rest piece used) ∙ length-drop used piece

-- the reader at this byte of the piece, for what it stood for before
pub loop-used-preserved : goal.loop-used-preserved
loop-used-preserved c =
    let r = c.args.self.now in
    let piece : List ℕ = c.args.piece.now in
    let used : ℕ = c.loop-used.used in
    let n : ℕ = c.advance-n.result.0 in
    let inv = c.loop-used.invariant in
    let goes : (p : List ℕ) → StandsFor r c.args.expect p → StandsFor c.advance-n.new.self
    c.args.expect ((p ++ take used piece) ++ take n (rest_of p piece used n))
    = λ p stands. rw c.in-Going.is at (c.advance-n.ensures.steps (p ++ take used piece)
    (inv.stands p stands)) in
    record {
      within = let len = rest_len piece used in omega
          (arith, c.advance-n.ensures.within, inv.within);
      stands = λ p stands. subst (StandsFor c.advance-n.new.self c.args.expect)
          (along p piece used n) (goes p stands);
      text = λ kind p s stands h.
          let b : List ℕ = p ++ take used piece in
          let more : List ℕ = take n (rest_of p piece used n) in
          let shown = c.advance-n.ensures.text kind b (text_after kind s c.args.expect b begun)
          (inv.stands p stands) (inv.text kind p s stands h) in
          let still : frame_at (limits_of c.loop-used.self) c.args.expect (b ++ more)
          ≡ begun = begun_still (limits_of c.loop-used.self) c.advance-n.new.self c.args.expect
          (b ++ more) c.advance-n.ensures.limits (goes p stands) in
          subst (λ q. ShowsText kind c.advance-n.new.self (text_after kind s c.args.expect q begun))
          (along p piece used n)
          (subst (ShowsText kind c.advance-n.new.self)
          (after_after kind s c.args.expect b more (frame_at
          (limits_of c.loop-used.self) c.args.expect
          (b ++ more)) ∙ ap (text_after kind s c.args.expect (b ++ more)) still) shown);
      limits = c.advance-n.ensures.limits ∙ inv.limits;
    }

pub returns-in-Done-clause-answers : goal.returns-in-Done-clause-answers
returns-in-Done-clause-answers c = λ p stands.
    let piece : List ℕ = c.args.piece.now in
    let used : ℕ = c.loop-used.used in
    let n : ℕ = c.advance-n.result.0 in
    let inv = c.loop-used.invariant in
    let led = rw c.in-Done.is at (c.advance-n.ensures.steps (p ++ take used piece)
    (inv.stands p stands)) in
    let decided = piece_decided _ _ c.args.expect p piece used n inv.limits (λ h. cc) in
    let len = len_along p piece used n
    (omega (arith, rest_len piece used, c.advance-n.ensures.within, inv.within)) in
    (led.0, decided ∙ led.1 ∙ ap (whole (with_text c.in-Done.frame led.0)) len)

pub returns-in-Done-clause-stands : goal.returns-in-Done-clause-stands
returns-in-Done-clause-stands c = λ p stands.
    (rw c.in-Done.is at (c.advance-n.ensures.steps _ (c.loop-used.invariant.stands p stands))).2

pub returns-in-Done-clause-text : goal.returns-in-Done-clause-text
returns-in-Done-clause-text c = λ kind p s stands h.
    let inv = c.loop-used.invariant in
    let led = rw c.in-Done.is at (c.advance-n.ensures.steps _ (inv.stands p stands)) in
    piece_shows _ _ c.args.expect p c.args.piece.now c.loop-used.used c.advance-n.result.0
    inv.limits
    kind c.advance-n.new.self s (λ h. cc)
    (c.advance-n.ensures.text kind _ _ (inv.stands p stands) (inv.text kind p s stands h))

pub returns-in-Done-clause-repeated : goal.returns-in-Done-clause-repeated
returns-in-Done-clause-repeated c = λ refusal e. absurd
    (no_refusal _ refusal c.in_default.not-Failed e)

pub returns-in-Done-clause-unchanged : goal.returns-in-Done-clause-unchanged
returns-in-Done-clause-unchanged c = λ refusal e. absurd
    (no_refusal _ refusal c.in_default.not-Failed e)

pub returns-in-Wrong-clause-answers : goal.returns-in-Wrong-clause-answers
returns-in-Wrong-clause-answers c = λ p stands.
    let inv = c.loop-used.invariant in
    let led = rw c.in-Wrong.is at (c.advance-n.ensures.steps _ (inv.stands p stands)) in
    piece_decided _ _ c.args.expect p c.args.piece.now c.loop-used.used c.advance-n.result.0
    inv.limits (λ h. cc) ∙ led.0
    ∙ ap (wrong c.in-Wrong.fault) (sym led.1) ∙ ap (λ (r : FrameRefusal). wrong r.fault r.shown_by)
    (sym c.refusal-in-Wrong.ensures)

pub returns-in-Wrong-clause-text : goal.returns-in-Wrong-clause-text
returns-in-Wrong-clause-text c = λ kind p s stands h.
    let inv = c.loop-used.invariant in
    let led = rw c.in-Wrong.is at (c.advance-n.ensures.steps _ (inv.stands p stands)) in
    let decided = led.0 in
    piece_shows _ _ c.args.expect p c.args.piece.now c.loop-used.used c.advance-n.result.0
    inv.limits
    kind c.advance-n.new.self s (λ h. cc)
    (c.advance-n.ensures.text kind _ _ (inv.stands p stands) (inv.text kind p s stands h))

pub returns-in-Wrong-clause-failed : goal.returns-in-Wrong-clause-failed
returns-in-Wrong-clause-failed c =
    let kept = rw c.in-Wrong.is at c.advance-n.ensures.kept in kept ∙ ap Some
    (sym c.refusal-in-Wrong.ensures)

pub returns-in-Wrong-clause-repeated : goal.returns-in-Wrong-clause-repeated
returns-in-Wrong-clause-repeated c = λ refusal e. absurd
    (no_refusal _ refusal c.in_default.not-Failed e)

pub returns-in-Wrong-clause-unchanged : goal.returns-in-Wrong-clause-unchanged
returns-in-Wrong-clause-unchanged c = λ refusal e. absurd
    (no_refusal _ refusal c.in_default.not-Failed e)

-- where the piece is used up, the reader stands for all of it
module _ (c : After-loop-used) (p : List ℕ) where
  all : p ++ take c.loop-used.used c.args.piece.now ≡ p ++ c.args.piece.now
  all = all_taken p c.args.piece.now c.loop-used.used
      (omega (arith, c.loop-used.invariant.within, c.loop-used-test.false))

  still : StandsFor c.args.self.now c.args.expect p → frame_at (limits_of c.args.self.now)
      c.args.expect (p ++ c.args.piece.now) ≡ begun
  still stands =
      let inv = c.loop-used.invariant in
      ap (frame_at (limits_of c.args.self.now) c.args.expect) (sym all)
      ∙ begun_still (limits_of c.args.self.now) c.loop-used.self c.args.expect
      (p ++ take c.loop-used.used c.args.piece.now) inv.limits (inv.stands p stands)

pub returns-clause-answers : goal.returns-clause-answers
returns-clause-answers c = λ p stands.
    (omega (arith, c.loop-used.invariant.within, c.loop-used-test.false), still c p stands)

pub returns-clause-stands : goal.returns-clause-stands
returns-clause-stands c = λ p stands. subst (StandsFor c.loop-used.self c.args.expect) (all c p)
    (c.loop-used.invariant.stands p stands)

pub returns-clause-text : goal.returns-clause-text
returns-clause-text c = λ kind p s stands h.
    subst (λ y. ShowsText kind c.loop-used.self (text_after kind s c.args.expect
    (p ++ c.args.piece.now) y))
    (sym (still c p stands))
    (subst (λ q. ShowsText kind c.loop-used.self (text_after kind s c.args.expect q begun))
    (all c p)
    (c.loop-used.invariant.text kind p s stands h))

pub returns-clause-repeated : goal.returns-clause-repeated
returns-clause-repeated c = λ refusal e. absurd (no_refusal _ refusal c.in_default.not-Failed e)

pub returns-clause-unchanged : goal.returns-clause-unchanged
returns-clause-unchanged c = λ refusal e. absurd (no_refusal _ refusal c.in_default.not-Failed e)
