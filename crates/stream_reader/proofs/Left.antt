-- What is left of a session at each stage of a stream: records of a script, with what stands behind
-- each.
use Rattle.std.proofs.Common.{◌≡◌, ℕ, zero, suc, ◌-◌, ◌<◌, ◌≤◌, Bool, true, false, List, []}
use Rattle.std.proofs.Common.{◌∷◌, ◌++◌, length, take, Some, None, Option, option_map, sym, refl, ap}
use Rattle.std.proofs.Common.{◌∙◌, subst, inl, inr, append_assoc, append-nil, arith, take_all}
use Rattle.std.{proofs.lemmas.Bool.cases_lt, specs.Option.option_or}
use Rattle.std.proofs.{Common.length-append, lemmas.List.take-append-le}
use Rattle.std.proofs.Math.{Nat.eq-or-lt_of_le, Seq.take-length}
use Rattle.unit_streams.specs.Grammar.{Grammar, standing}
use Rattle.unit_streams.specs.Judging.{ending_at, refusal_at}
use Rattle.string_tables.specs.SessionStrings.{used_cost}
use Rattle.nbfx_values.specs.declared.{content.Item.Item, session.Kind.Kind, session.Mode.Mode}
use Rattle.nbfx_values.specs.Limits.{IsGood}
use Rattle.nmf_records.specs.{declared.frame.Frame.Frame, Records.IsRecordOf}
use Rattle.nmf_records.specs.declared.script.{Direction.Direction, Due.Due}
use Rattle.nmf_records.specs.declared.script.Direction.TheVariants.{FromInitiator, FromReceiver}
use Rattle.nmf_records.specs.RecordFronts.{MayCome, text_limit}
use Rattle.nmf_records.specs.Script.{behind_preamble, due_behind as led_by, first, leads, may_come}
use Rattle.nmf_records.specs.Script.{NamesMode}
use Rattle.nbfx_values.specs.declared.session.Mode.TheVariants.{Duplex, Simplex, Singleton}
use Rattle.nmf_records.proofs.ScriptWays.{Follows}
use Rattle.nbfx_decoder.proofs.PayloadAnswers.{finished_where_whole, nothing_is_refused}
use Rattle.nbfx_decoder.proofs.{PayloadAnswers.strings_behind, PayloadReasons.unrefused_nothing}
use Rattle.nbfx_decoder.specs.DecoderState.{situation_of}
use Rattle.nbfx_decoder.specs.Laws.{IsUnrefused, IsWholePayload, MayBegin, ShowsNothing}
use Rattle.nbfx_decoder.specs.Payload.{NoEvent, payload, PayloadUnit, Refusal}
use Rattle.nbfx_decoder.specs.Payload.{Situation as PayloadSituation}
use Rattle.stream_reader.specs.Scripts.{Context, HasScript, IsFollowedBy, refused_there}
use Rattle.stream_reader.specs.Stream.{behind_payload, chunk_due, chunked, direction_of, due_behind}
use Rattle.stream_reader.specs.Stream.{Form, is_chunked, is_over_in, last_chunk, OpenPayload}
use Rattle.stream_reader.specs.Stream.{payload_in, payload_open, payloads, PayloadStanding}
use Rattle.stream_reader.specs.Stream.{record_due, refusal_in, Settings, Situation, sized, Stage}
use Rattle.stream_reader.specs.Stream.{text_limits, with_byte}
use Rattle.stream_reader.proofs.FromScript.{context_of}
use Rattle.stream_reader.proofs.Outcomes.{goes_on, HasAll, is_refused, is_whole, outcome}
use Rattle.stream_reader.proofs.{Outcomes.wants_chunk, PayloadBytes.refusal_between}
use Rattle.stream_reader.proofs.PayloadBytes.{behind_is, refusal_all, refusal_before}
use Rattle.stream_reader.proofs.Situations.{byte_behind, IsBehind}
use Rattle.nmf_records.specs.declared.script.Due.TheVariants as dues

-- of the bytes of a payload, from so many on, none is refused
abbrev pub IsCleanFrom : Grammar PayloadSituation PayloadUnit NoEvent Refusal → ℕ → List ℕ → Type 0
IsCleanFrom g n bytes =
    (i : ℕ) → n < i → i ≤ length bytes → refusal_at g (take i bytes) ≡ None

-- in a stream that comes to be in this mode, where stopping before the end is so
module _ (x : Settings) (Stop : Type 0) (mode : Mode) where
  -- records from where this is due to where the input may end
  pub record Left (due : Due) (context : Context) (c : List ℕ) : Type 0 where
    pub script : List Frame
    pub follows : Follows (direction_of x.side) mode due script
    pub has : HasScript x context script c
    pub stops : is_over_in (record_due (led_by (direction_of x.side) mode due script)) ≡ false
        → Stop

  -- a record, and bytes of its payload, in front of them
  pub left_behind : (due : Due) (context then_context : Context) (read : Frame)
      (text t part c : List ℕ) → MayCome (may_come (direction_of x.side) due) read
      → NamesMode mode read → IsRecordOf read text t
      → length text ≤ text_limit (text_limits x) read
      → refused_there x context read text ≡ None
      → IsFollowedBy x context read text part then_context
      → Left (leads (direction_of x.side) mode due read) then_context c
      → Left due context ((t ++ part) ++ c)
  left_behind due context then_context read text t part c may names is low none followed w = record {
    script = read ∷ w.script;
    follows = (may, names, w.follows);
    has = record {
      text = text;
      head = t;
      payload = part;
      rest = c;
      then_context = then_context;
      joined = refl;
      is_record = is;
      unrefused = none;
      text_within = low;
      followed = followed;
      next = w.has;
    };
    stops = w.stops;
  }

  -- a chunk's size is due where a payload is open, and else nowhere
  abbrev pub LeftDue : Due → Context → List ℕ → Type 0
  LeftDue dues.Chunk context c = Unit {0}
  LeftDue due context c = Left due context c

  pub as_due : (due : Due) (context : Context) (c : List ℕ) → Left due context c
      → LeftDue due context c
  as_due dues.Chunk context c w = tt
  as_due due context c w = w

  pub from_first : (direction : Direction) (context : Context) (c : List ℕ)
      → LeftDue (first direction) context c → Left (first direction) context c
  from_first FromInitiator context c w = w
  from_first FromReceiver context c w = w

  pub from_preamble : (direction : Direction) (m : Mode) (context : Context) (c : List ℕ)
      → LeftDue (behind_preamble direction m) context c
      → Left (behind_preamble direction m) context c
  from_preamble FromInitiator Singleton context c w = w
  from_preamble FromInitiator Duplex context c w = w
  from_preamble FromInitiator Simplex context c w = w
  from_preamble FromReceiver Singleton context c w = w
  from_preamble FromReceiver Duplex context c w = w
  from_preamble FromReceiver Simplex context c w = w

  module _ (kind : Kind) (strings : List (List ℕ)) where
    -- behind these bytes of a payload, the last of their part
    abbrev pub NextOf : Form → List ℕ → List ℕ → Type 0
    NextOf chunked q c = IsCleanFrom (payload (payloads x kind) strings) 0 q
        → Left dues.Chunk (context_of kind strings q) c
    NextOf form q c = (ending_at (payload (payloads x kind) strings) q ≡ None)
        × Left (due_behind form) (context_of kind
        (standing (payload (payloads x kind) strings) q).situation.strings []) c

    -- or so many before it
    pub record OpenLeft (form : Form) (left : ℕ) (q c : List ℕ) : Type 0 where
      pub part : List ℕ
      pub more : List ℕ
      pub bytes_are : c ≡ part ++ more
      pub size : length part ≡ left
      pub clean : IsCleanFrom (payload (payloads x kind) strings) (length q) (q ++ part)
      pub next : NextOf form (q ++ part) more

  abbrev pub LeftAt : Situation → Stage → List ℕ → Type 0
  LeftAt z (record_due due) c = LeftDue due (context_of z.kind z.strings []) c
  LeftAt z (chunk_due p) c = (q : List ℕ) → IsBehind x z p q → NextOf z.kind z.strings chunked q c
  LeftAt z (payload_open p) c =
      (q : List ℕ) → IsBehind x z p q → OpenLeft z.kind z.strings p.form p.left q c

-- of options that are none
pub none_mapped : {A B : Type 0} (f : A → B) (v : Option A) → option_map f v ≡ None → v ≡ None
none_mapped f None e = refl
none_mapped f (Some a) e = cc

pub none_both : {A : Type 0} (v w : Option A) → option_or v w ≡ None → (v ≡ None) × (w ≡ None)
none_both None w e = (refl, e)
none_both (Some a) w e = cc

module _ (x : Settings) (Stop : Type 0) (mode : Mode) (z : Situation) (o : OpenPayload) where
  -- bytes that aren't refused
  unrefused_behind : (q : List ℕ) → IsBehind x z o q → refusal_in x z o ≡ None
      → refusal_at (payload_in x z) q ≡ None
  unrefused_behind q h none =
      let so = ap (refusal_in x z) (sym (behind_is x z o q h)) ∙ none in
      elim (eq-or-lt_of_le (let n = h.counted in omega (arith, n))) [
        | inl all ↦ by_form (is_chunked o.form) refl all so
        | inr lt ↦ sym (refusal_before x z o q lt) ∙ so
      ]
    where
      by_form : (b : Bool) → is_chunked o.form ≡ b → length q ≡ o.size
          → refusal_in x z
          (record o { left = o.size - length q; standing = standing (payload_in x z) q })
          ≡ None → refusal_at (payload_in x z) q ≡ None
      by_form true e all so = sym (refusal_between x z o q (omega (arith, all)) e) ∙ so
      by_form false e all so = (none_both _ _ (sym (refusal_all x z o q all e) ∙ so)).0

  -- nor is their end
  unrefused_end : (q : List ℕ) → IsBehind x z o q → HasAll o → refusal_in x z o ≡ None
      → ending_at (payload_in x z) q ≡ None
  unrefused_end q h all none =
      let so = ap (refusal_in x z) (sym (behind_is x z o q h)) ∙ none in
      (none_both _ _ (sym (refusal_all x z o q
      (let n = h.counted in let m = all.none_left in omega (arith, n, m)) all.last) ∙ so)).1

  abbrev NextIs : Form → List ℕ → List ℕ → Type 0
  NextIs form q c = NextOf x Stop mode z.kind z.strings form q c

  whole_form : (form : Form) (q c : List ℕ) → is_chunked form ≡ false
      → ending_at (payload_in x z) q ≡ None
      → LeftDue x Stop mode (due_behind form)
      (context_of z.kind (standing (payload_in x z) q).situation.strings []) c → NextIs form q c
  whole_form sized q c last fine h = (fine, h)
  whole_form chunked q c last fine h = cc
  whole_form last_chunk q c last fine h = (fine, h)

  chunk_form : (form : Form) (q c : List ℕ) → is_chunked form ≡ true → NextIs chunked q c
      → NextIs form q c
  chunk_form sized q c more h = cc
  chunk_form chunked q c more h = h
  chunk_form last_chunk q c more h = cc

  nothing_more : (q c : List ℕ) → o.left ≡ 0 → NextIs o.form q c
      → OpenLeft x Stop mode z.kind z.strings o.form o.left q c
  nothing_more q c none next = record {
    part = [];
    more = c;
    bytes_are = refl;
    size = sym none;
    clean = λ i some le. absurd (let n = length-append q [] in omega (arith, n, some, le));
    next = subst (λ (b : List ℕ). NextIs o.form b c) (sym (append-nil q)) next;
  }

  -- where bytes of a payload aren't refused, what is left behind them is left of it
  pub rest_behind : (q c : List ℕ) → IsBehind x z o q → refusal_in x z o ≡ None
      → LeftAt x Stop mode (behind_payload x z o) (behind_payload x z o).stage c
      → OpenLeft x Stop mode z.kind z.strings o.form o.left q c
  rest_behind q c at none h =
      elim (outcome x z o) [
        | goes_on more b e ↦
            let r : LeftAt x Stop mode (record z { stage = payload_open o }) (payload_open o) c =
            subst (λ (w : Situation). LeftAt x Stop mode w w.stage c) b h in
            r q (record { standing_is = at.standing_is; counted = at.counted })
        | wants_chunk none_left is b e ↦
            let r : LeftAt x Stop mode (record z { stage = chunk_due o }) (chunk_due o) c =
            subst (λ (w : Situation). LeftAt x Stop mode w w.stage c) b h in
            nothing_more q c none_left (chunk_form o.form q c is
            (r q (record { standing_is = at.standing_is; counted = at.counted })))
        | is_whole all fine b e ↦
            let r : LeftDue x Stop mode (due_behind o.form)
            (context_of z.kind o.standing.situation.strings []) c =
            subst (λ (w : Situation). LeftAt x Stop mode w w.stage c) b h in
            nothing_more q c all.none_left (whole_form o.form q c all.last
            (unrefused_end q at all none)
            (subst (λ (s : PayloadStanding). LeftDue x Stop mode (due_behind o.form)
            (context_of z.kind s.situation.strings []) c) at.standing_is r))
        | is_refused all r is b e ↦ let bad = sym none ∙ is in cc
      ]

-- bytes behind others of a payload, of which none is refused
pub clean_joined : (g : Grammar PayloadSituation PayloadUnit NoEvent Refusal) (n : ℕ)
    (q part : List ℕ) → IsCleanFrom g n q → IsCleanFrom g (length q) (q ++ part)
    → IsCleanFrom g n (q ++ part)
clean_joined g n q part clean more i some le =
    elim (cases_lt (length q) i) [
      | inl behind ↦ more i behind le
      | inr within ↦
          ap (refusal_at g) (take-append-le i q part within)
          ∙ clean i some within
    ]

-- a byte in front of them
pub byte_first : (x : Settings) (Stop : Type 0) (mode : Mode) (z : Situation) (o : OpenPayload)
    (y : ℕ) (q c : List ℕ) → 0 < o.left → IsBehind x z o q
    → refusal_in x z (with_byte x z o y) ≡ None
    → OpenLeft x Stop mode z.kind z.strings o.form (o.left - 1) (q ++ y ∷ []) c
    → OpenLeft x Stop mode z.kind z.strings o.form o.left q (y ∷ c)
byte_first x Stop mode z o y q c some at none r =
    let joins : (q ++ y ∷ []) ++ r.part ≡ q ++ y ∷ r.part = append_assoc q (y ∷ []) r.part in
    let one = length-append q (y ∷ []) in
    let last : IsCleanFrom (payload_in x z) (length q) (q ++ y ∷ []) = λ i more le.
    let all : take i (q ++ y ∷ []) ≡ q ++ y ∷ [] = take_all i (q ++ y ∷ []) (omega (arith, one, more))
    in
    ap (refusal_at (payload_in x z)) all
    ∙ unrefused_behind x Stop mode z (with_byte x z o y) (q ++ y ∷ [])
    (byte_behind x z o q y some at) none in
    record {
      part = y ∷ r.part;
      more = r.more;
      bytes_are = ap (λ b. y ∷ b) r.bytes_are;
      size = (let n = r.size in omega (arith, n, some));
      clean =
          subst (IsCleanFrom (payload_in x z) (length q)) joins
          (clean_joined (payload_in x z) (length q) (q ++ y ∷ []) r.part last r.clean);
      next = subst (λ (p : List ℕ). NextOf x Stop mode z.kind z.strings o.form p r.more) joins
          r.next;
    }

-- a payload that isn't refused is a document's
pub record IsDocument (x : Settings) (kind : Kind) (strings : List (List ℕ)) (bytes : List ℕ)
    : Type 0 where
  pub own : List (List ℕ)
  pub items : List Item
  pub is_whole : IsWholePayload (payloads x kind) strings own items bytes
  pub strings_are : (standing (payload (payloads x kind) strings) bytes).situation.strings
      ≡ strings ++ own

pub whole_payload : (x : Settings) → IsGood x.limits → (kind : Kind) (strings : List (List ℕ))
    (bytes : List ℕ)
    → used_cost strings ≤ x.limits.dictionary → length bytes ≤ x.limits.payload
    → IsCleanFrom (payload (payloads x kind) strings) 0 bytes
    → ending_at (payload (payloads x kind) strings) bytes ≡ None → IsDocument x kind strings bytes
whole_payload x good kind strings bytes cheap low clean fine =
    let may : MayBegin (payloads x kind) strings = record {
      depth = (let deep = good.depth_least in omega (arith, deep));
      dictionary = cheap;
    } in
    let items : List Item = (situation_of (payloads x kind) strings bytes).items in
    let it = (finished_where_whole (payloads x kind) strings bytes items may nothing low).0
    (fine, refl) in
    record {
      own = it.0;
      items = items;
      is_whole = it.1;
      strings_are = strings_behind (payloads x kind) strings it.0 items bytes may it.1;
    }
  where
    nothing_within : (i : ℕ) → i ≤ length bytes
        → ShowsNothing (payloads x kind) strings (take i bytes)
    nothing_within zero le = nothing_is_refused (payloads x kind) strings 0
    nothing_within (suc i) le =
        unrefused_nothing (payloads x kind) strings (take (suc i) bytes)
        (clean (suc i) (omega arith) le)

    nothing : IsUnrefused (payloads x kind) strings bytes
    nothing i =
        elim (cases_lt (length bytes) i) [
          | inl lt ↦ subst (ShowsNothing (payloads x kind) strings)
              (take-length bytes ∙ sym (take_all i bytes (omega arith)))
              (nothing_within (length bytes) (omega arith))
          | inr le ↦ nothing_within i le
        ]
