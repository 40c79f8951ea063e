-- Parts that are the envelopes of documents: with one more, some of them, and what they come to.
use Rattle.std.proofs.Common.{◌≡◌, ℕ, suc, ◌+◌, ◌<◌, ◌^◌, Bool, false, ◌⊎◌, List, []}
use Rattle.std.proofs.Common.{◌∷◌, ◌++◌, length, Ok, sym, refl, ap, ◌∙◌, inl, inr, arith}
use Rattle.std.proofs.Common.{if◌then◌else◌, append-nil, subst}
use Rattle.io_edges.specs.Faults.{one_more}
use Rattle.string_tables.specs.StringTable.{StringTable}
use Rattle.nbfx_values.specs.{declared.content.Item.Item, QuotasOf.limits_of}
use Rattle.client.specs.Sent.{kind_by}
use Rattle.nbfx_encoder.specs.Envelopes.{behind_bytes, envelope, envelope_then, envelopes_from}
use Rattle.nbfx_encoder.specs.{Placing.Placed, Spelling.encoded}
use Rattle.unit_streams.{proofs.Telling.told_append, proofs.Telling.state_append}
use Rattle.unit_streams.specs.Tellers.{state_behind, told_along}
use Rattle.stream_loop.specs.Parts.{counting, Part, part, with_part}
use Rattle.client.specs.declared.settings.CallSettings.{CallSettings}
use Rattle.client.specs.LaneWriting.{AreEmpty, AreEnvelopes, envelope_part}

abbrev tail_of : {T : Type 0} → List T → List T
tail_of [] = []
tail_of (x ∷ rest) = rest

abbrev head_of : {T : Type 0} → T → List T → T
head_of other [] = other
head_of other (x ∷ rest) = x

-- two ways to cut a list in two
pub cut_twice : {T : Type 0} (a b x y : List T) → a ++ b ≡ x ++ y
    → ((m : List T) × (a ≡ x ++ m) × (y ≡ m ++ b)) ⊎ ((m : List T) × (x ≡ a ++ m) × (b ≡ m ++ y))
cut_twice a b [] y e = inl (a, refl, sym e)
cut_twice [] b (p ∷ x) y e = inr (p ∷ x, refl, e)
cut_twice (q ∷ a) b (p ∷ x) y e = elim (cut_twice a b x y (ap tail_of e)) [
  | inl c ↦ inl (c.0, cons (ap (head_of q) e) c.1, c.2)
  | inr c ↦ inr (c.0, cons (sym (ap (head_of q) e)) c.1, c.2)
] where
  cons : {T : Type 0} {p q : T} {a b : List T} → p ≡ q → a ≡ b → p ∷ a ≡ q ∷ b
  cons e f = rw (e, f) refl

-- ---- parts without bytes

pub empty_told : (parts : List Part) (count : ℕ) → AreEmpty parts
    → told_along counting count parts ≡ []
unfolding told_along
empty_told [] count none = refl
empty_told (one ∷ parts) count none =
    ap (λ l. l ++ told_along counting (with_part count one) parts) none.0
    ∙ empty_told parts (with_part count one) none.2

pub empty_count : (parts : List Part) (count : ℕ) → AreEmpty parts
    → state_behind counting count parts ≡ count
unfolding state_behind
empty_count [] count none = refl
empty_count (one ∷ parts) count none =
    empty_count parts (with_part count one) none.2
    ∙ ap (λ (b : Bool). if b then one_more count else count) none.1

pub empty_first : (a b : List Part) → AreEmpty (a ++ b) → AreEmpty a
empty_first [] b none = tt
empty_first (one ∷ a) b none = (none.0, none.1, empty_first a b none.2)

pub empty_last : (a b : List Part) → AreEmpty (a ++ b) → AreEmpty b
empty_last [] b none = none
empty_last (one ∷ a) b none = empty_last a b none.2

pub empty_more : (a : List Part) → AreEmpty a → AreEmpty (a ++ part [] false ∷ [])
empty_more [] none = (refl, refl, tt)
empty_more (one ∷ a) none = (none.0, none.1, empty_more a none.2)

module _ (s : CallSettings) where
  abbrev Are : StringTable → List (List Item) → List Part → StringTable → Type 0
  Are = AreEnvelopes s

  -- one more
  pub envelopes_more : (documents : List (List Item)) (table behind : StringTable)
      (parts : List Part) (d : List Item) (payload : Placed (List ℕ))
      → Are table documents parts behind
      → encoded (limits_of s.quotas.forward) (kind_by s) behind d ≡ Ok payload
      → Are table (documents ++ d ∷ []) (parts ++ envelope_part s payload.0 ∷ []) payload.1
  envelopes_more [] table behind parts d payload are fits = (
    payload,
    ap (λ t. encoded (limits_of s.quotas.forward) (kind_by s) t d) (sym are.1) ∙ fits,
    [],
    ap (λ l. l ++ envelope_part s payload.0 ∷ []) are.0,
    (refl, refl),
  )
  envelopes_more (one ∷ documents) table behind parts d payload are fits = (
    are.0,
    are.1,
    are.2 ++ envelope_part s payload.0 ∷ [],
    ap (λ l. l ++ envelope_part s payload.0 ∷ []) are.3,
    envelopes_more documents are.0.1 behind are.2 d payload are.4 fits,
  )

  -- the documents of the first parts, and of the others
  pub envelopes_cut : (documents : List (List Item)) (table behind : StringTable)
      (first others : List Part) → Are table documents (first ++ others) behind
      → (done : List (List Item)) × (rest : List (List Item)) × (mid : StringTable)
      × (documents ≡ done ++ rest) × (length done ≡ length first)
      × Are table done first mid × Are mid rest others behind
  envelopes_cut documents table behind [] others are =
      ([], documents, table, refl, refl, (refl, refl), are)
  envelopes_cut [] table behind (one ∷ first) others are = absurd (cc are.0)
  envelopes_cut (d ∷ documents) table behind (one ∷ first) others are =
      let c = envelopes_cut documents are.0.1 behind first others
      (subst (λ (l : List Part). Are are.0.1 documents l behind) (sym (ap tail_of are.3))
      are.4) in (
        d ∷ c.0,
        c.1,
        c.2,
        ap (λ l. d ∷ l) c.3,
        ap suc c.4,
        (are.0, are.1, first, ap (λ p. p ∷ first) (ap (head_of one) are.3), c.5),
        c.6,
      )

  -- no parts are the envelopes of no documents
  pub envelopes_none : (documents : List (List Item)) (table behind : StringTable)
      → Are table documents [] behind → (documents ≡ []) × (behind ≡ table)
  envelopes_none [] table behind are = (refl, are.1)
  envelopes_none (d ∷ documents) table behind are = absurd (cc are.3)

  -- as bytes
  pub envelopes_spelled : (documents : List (List Item)) (table behind : StringTable)
      (parts : List Part) (number count : ℕ) → Are table documents parts behind
      → envelopes_from (limits_of s.quotas.forward) (kind_by s) s.mode table number documents
      ≡ Ok (told_along counting count parts, behind)
  unfolding told_along
  envelopes_spelled [] table behind parts number count are =
      ap (λ t. Ok ([], t)) (sym are.1)
      ∙ ap (λ l. Ok (told_along counting count l, behind)) (sym are.0)
  envelopes_spelled (d ∷ documents) table behind parts number count are =
      let more = envelopes_spelled documents are.0.1 behind are.2 (number + 1)
      (with_part count (envelope_part s are.0.0)) are.4 in
      ap (λ one. envelope_then s.mode number one (λ t. envelopes_from
      (limits_of s.quotas.forward) (kind_by s)
      s.mode t (number + 1) documents)) are.1
      ∙ ap (behind_bytes (envelope s.mode are.0.0)) more
      ∙ ap (λ l. Ok (told_along counting count l, behind)) (sym are.3)

  -- as many parts
  pub envelopes_length : (documents : List (List Item)) (table behind : StringTable)
      (parts : List Part) → Are table documents parts behind → length parts ≡ length documents
  envelopes_length [] table behind parts are = ap length are.0
  envelopes_length (d ∷ documents) table behind parts are =
      ap length are.3 ∙ ap suc (envelopes_length documents are.0.1 behind are.2 are.4)

  -- and how many of them count, where the count doesn't stand still
  pub envelopes_count : (documents : List (List Item)) (table behind : StringTable)
      (parts : List Part) (count : ℕ) → Are table documents parts behind
      → count + length documents < 2 ^ 64
      → state_behind counting count parts ≡ count + length documents
  unfolding state_behind
  envelopes_count [] table behind parts count are few =
      ap (state_behind counting count) are.0 ∙ omega arith
  envelopes_count (d ∷ documents) table behind parts count are few =
      ap (state_behind counting count) are.3
      ∙ ap (λ n. state_behind counting n are.2) (next (omega (arith, few)))
      ∙ envelopes_count documents are.0.1 behind are.2 (count + 1) are.4 (omega (arith, few))
      ∙ omega arith
    where
      next : count + 1 < 2 ^ 64 → one_more count ≡ count + 1
      next small = omega (arith, small)

  -- from the first on
  pub envelopes_counted : (documents : List (List Item)) (table behind : StringTable)
      (parts : List Part) → Are table documents parts behind → length documents < 2 ^ 64
      → state_behind counting 0 parts ≡ length documents
  envelopes_counted documents table behind parts are few =
      envelopes_count documents table behind parts 0 are (omega (arith, few))
      ∙ from_none (length documents)
    where
      from_none : (n : ℕ) → 0 + n ≡ n
      from_none n = omega arith

-- what is told of envelopes and of parts without bytes behind them
pub told_beside : (parts others : List Part) (count : ℕ) → AreEmpty others
    → told_along counting count (parts ++ others) ≡ told_along counting count parts
told_beside parts others count none =
    told_append counting parts others count
    ∙ ap (λ l. told_along counting count parts ++ l)
    (empty_told others (state_behind counting count parts) none)
    ∙ append-nil (told_along counting count parts)

pub count_beside : (parts others : List Part) (count : ℕ) → AreEmpty others
    → state_behind counting count (parts ++ others) ≡ state_behind counting count parts
count_beside parts others count none =
    state_append counting parts others count
    ∙ empty_count others (state_behind counting count parts) none
