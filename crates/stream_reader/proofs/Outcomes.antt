-- Where bytes of a payload lead: there are more to come of its chunk, or another chunk is, or they
-- are
-- all and a document, or refused.
use Rattle.std.proofs.Common.{◌≡◌, ℕ, ◌+◌, ◌<◌, Bool, true, false, ◌==◌, Some, None, Option, sym}
use Rattle.std.proofs.Common.{refl, ap, ◌∙◌, arith, eqb-true}
use Rattle.{std.proofs.lemmas.Bool.eqb-false, nbfx_decoder.specs.Payload.Refusal}
use Rattle.stream_reader.specs.Stream.{behind_payload, chunk_due, completed_payload, due_behind}
use Rattle.stream_reader.specs.Stream.{Envelope, is_chunked, message, OpenPayload, payload_open}
use Rattle.stream_reader.specs.Stream.{record_due, refusal_in, Settings, Situation, strings_in}

-- the envelope that such a payload is, where it has all its bytes
abbrev pub envelope_of : Situation → OpenPayload → Envelope
envelope_of z p = record {
  number = z.messages;
  size = p.size;
  items = p.standing.situation.items;
  strings = p.standing.situation.strings;
}

-- before the next record, behind so many documents
abbrev pub behind_whole : Situation → OpenPayload → ℕ → Situation
behind_whole z p messages = record z {
  stage = record_due (due_behind p.form);
  messages = messages;
  strings = p.standing.situation.strings;
}

-- all bytes of it are there
pub record HasAll (p : OpenPayload) : Type 0 where
  pub none_left : p.left ≡ 0
  pub last : is_chunked p.form ≡ false

pub data Outcome (x : Settings) (z : Situation) (p : OpenPayload) : Type 0 where
  goes_on : 0 < p.left → behind_payload x z p ≡ record z { stage = payload_open p }
      → completed_payload x z p ≡ None → Outcome x z p
  wants_chunk : p.left ≡ 0 → is_chunked p.form ≡ true
      → behind_payload x z p ≡ record z { stage = chunk_due p }
      → completed_payload x z p ≡ None → Outcome x z p
  is_whole : HasAll p → refusal_in x z p ≡ None
      → behind_payload x z p ≡ behind_whole z p (z.messages + 1)
      → completed_payload x z p ≡ Some (message (envelope_of z p)) → Outcome x z p
  is_refused : HasAll p → (r : Refusal) → refusal_in x z p ≡ Some r
      → behind_payload x z p ≡ behind_whole z p z.messages
      → completed_payload x z p ≡ None → Outcome x z p

module _ (x : Settings) (z : Situation) (p : OpenPayload) where
  pub outcome : Outcome x z p
  outcome = go (p.left == 0) refl (is_chunked p.form) refl (refusal_in x z p) refl where
    go : (b : Bool) → (p.left == 0) ≡ b → (c : Bool) → is_chunked p.form ≡ c
        → (v : Option Refusal) → refusal_in x z p ≡ v → Outcome x z p
    go false e c h None f =
        goes_on (let n = eqb-false p.left 0 e in omega arith) (rw e refl) (rw (f, e) refl)
    go false e c h (Some r) f =
        goes_on (let n = eqb-false p.left 0 e in omega arith) (rw e refl) (rw f refl)
    go true e true h None f = wants_chunk (eqb-true p.left 0 e) h (rw (e, h) refl)
        (rw (f, e, h) refl)
    go true e true h (Some r) f = wants_chunk (eqb-true p.left 0 e) h (rw (e, h) refl) (rw f refl)
    go true e false h None f =
        is_whole (record { none_left = eqb-true p.left 0 e; last = h }) f
        (rw (f, e, h) refl) (rw (f, e, h) refl)
    go true e false h (Some r) f =
        is_refused (record { none_left = eqb-true p.left 0 e; last = h }) r f
        (rw (f, e, h) refl) (rw f refl)

  pub more_behind : 0 < p.left → behind_payload x z p ≡ record z { stage = payload_open p }
  more_behind some =
      elim outcome [
        | goes_on more b c ↦ b
        | wants_chunk none h b c ↦ absurd (omega arith)
        | is_whole all none b c ↦ absurd (let n = all.none_left in omega (arith, n, some))
        | is_refused all r is b c ↦ absurd (let n = all.none_left in omega (arith, n, some))
      ]

  pub more_completed : 0 < p.left → completed_payload x z p ≡ None
  more_completed some =
      elim outcome [
        | goes_on more b c ↦ c
        | wants_chunk none h b c ↦ c
        | is_whole all none b c ↦ absurd (let n = all.none_left in omega (arith, n, some))
        | is_refused all r is b c ↦ c
      ]

  -- the last bytes of a chunk
  pub chunk_behind : p.left ≡ 0 → is_chunked p.form ≡ true
      → (behind_payload x z p ≡ record z { stage = chunk_due p }) × (completed_payload x z p ≡ None)
  chunk_behind all more =
      elim outcome [
        | goes_on some b c ↦ absurd (omega arith)
        | wants_chunk none h b c ↦ (b, c)
        | is_whole whole none b c ↦ let bad = sym more ∙ whole.last in cc
        | is_refused whole r is b c ↦ let bad = sym more ∙ whole.last in cc
      ]

  -- the last bytes
  pub whole_behind : HasAll p → refusal_in x z p ≡ None
      → (behind_payload x z p ≡ behind_whole z p (z.messages + 1))
      × (completed_payload x z p ≡ Some (message (envelope_of z p)))
  whole_behind all none =
      elim outcome [
        | goes_on more b c ↦ absurd (let n = all.none_left in omega (arith, n, more))
        | wants_chunk n h b c ↦ let bad = sym h ∙ all.last in cc
        | is_whole all' none' b c ↦ (b, c)
        | is_refused all' r is b c ↦ let bad = sym none ∙ is in cc
      ]

  pub refused_behind : HasAll p → (r : Refusal) → refusal_in x z p ≡ Some r
      → (behind_payload x z p ≡ behind_whole z p z.messages) × (completed_payload x z p ≡ None)
  refused_behind all r is =
      elim outcome [
        | goes_on more b c ↦ absurd (let n = all.none_left in omega (arith, n, more))
        | wants_chunk n h b c ↦ let bad = sym h ∙ all.last in cc
        | is_whole all' none b c ↦ let bad = sym none ∙ is in cc
        | is_refused all' r' is' b c ↦ (b, c)
      ]

  -- all but the stage, the documents and the strings stays
  pub text_behind : (behind_payload x z p).text ≡ z.text
  text_behind =
      elim outcome [
        | goes_on more b c ↦ ap (λ (s : Situation). s.text) b
        | wants_chunk none h b c ↦ ap (λ (s : Situation). s.text) b
        | is_whole all none b c ↦ ap (λ (s : Situation). s.text) b
        | is_refused all r is b c ↦ ap (λ (s : Situation). s.text) b
      ]

  pub mode_behind : (behind_payload x z p).mode ≡ z.mode
  mode_behind =
      elim outcome [
        | goes_on more b c ↦ ap (λ (s : Situation). s.mode) b
        | wants_chunk none h b c ↦ ap (λ (s : Situation). s.mode) b
        | is_whole all none b c ↦ ap (λ (s : Situation). s.mode) b
        | is_refused all r is b c ↦ ap (λ (s : Situation). s.mode) b
      ]

  pub strings_behind : strings_in (behind_payload x z p) ≡ p.standing.situation.strings
  strings_behind =
      elim outcome [
        | goes_on more b c ↦ ap strings_in b
        | wants_chunk none h b c ↦ ap strings_in b
        | is_whole all none b c ↦ ap strings_in b
        | is_refused all r is b c ↦ ap strings_in b
      ]

  -- what is refused is no document
  pub refused_messages : (r : Refusal) → refusal_in x z p ≡ Some r
      → (behind_payload x z p).messages ≡ z.messages
  refused_messages r e =
      elim outcome [
        | goes_on more b c ↦ ap (λ (s : Situation). s.messages) b
        | wants_chunk none h b c ↦ ap (λ (s : Situation). s.messages) b
        | is_whole all none b c ↦ let bad = sym none ∙ e in cc
        | is_refused all r is b c ↦ ap (λ (s : Situation). s.messages) b
      ]

  pub refused_eventless : (r : Refusal) → refusal_in x z p ≡ Some r → completed_payload x z p ≡ None
  refused_eventless r e =
      elim outcome [
        | goes_on more b c ↦ c
        | wants_chunk none h b c ↦ c
        | is_whole all none b c ↦ let bad = sym none ∙ e in cc
        | is_refused all r is b c ↦ c
      ]
