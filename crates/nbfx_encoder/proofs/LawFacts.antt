-- When a document is written, and what one more adds.
use Rattle.std.proofs.Common.{◌≡◌, ℕ, ◌+◌, ◌≤◌, Bool, true, false, List, [], ◌∷◌, ◌++◌, length}
use Rattle.std.proofs.Common.{if◌then◌else◌, nat_lt, Ok, Err, Result, sym, refl, ap, ◌∙◌}
use Rattle.std.proofs.Common.{append_assoc, arith, ltb-false, le-ltb}
use Rattle.{std.proofs.Math.Nat.add-zero, string_tables.specs.StringTable.StringTable}
use Rattle.nbfx_values.specs.declared.{content.Item.Item, session.Kind.Kind, session.Mode.Mode}
use Rattle.nbfx_values.specs.Limits.{Limits}
use Rattle.nbfx_values.specs.Measures.{capped, content_of, depth_of}
use Rattle.nbfx_encoder.specs.Envelopes.{behind_bytes, envelope, envelope_then, envelopes_from}
use Rattle.nbfx_encoder.specs.{Envelopes.UnfitAt, Placing.Placed}
use Rattle.nbfx_encoder.specs.Laws.{SendsOneMore, WritesWhatFits}
use Rattle.nbfx_encoder.specs.Spelling.{chosen, encoded, Fits, too_deep, too_large, too_much, Unfit}
use Rattle.nbfx_encoder.specs.Spelling.{within_payload, writing}

-- of two ways out by a comparison
record NotAbove (most n : ℕ) {X : Type 0} (otherwise : X) (is : X) : Type 0 where
  within : n ≤ most
  rest : otherwise ≡ is

not_above : {T E : Type 0} (most n : ℕ) (e : E) (otherwise : Result T E) (t : T)
    → (if nat_lt most n then Err e else otherwise) ≡ Ok t → NotAbove most n otherwise (Ok t)
not_above most n e otherwise t is = by (nat_lt most n) refl is
  where
    by : (b : Bool) → nat_lt most n ≡ b → (if b then Err e else otherwise) ≡ Ok t
        → NotAbove most n otherwise (Ok t)
    by true above is = absurd (cc is)
    by false below is = record { within = ltb-false most n below; rest = is }

-- a payload within the quota
pub record IsShort (most : ℕ) (answer : Result (Placed (List ℕ)) ℕ) (payload : Placed (List ℕ)) :
    Type 0
  where
    pub is : answer ≡ Ok payload
    pub within : length payload.0 ≤ most

pub short_one : (most : ℕ) (answer : Result (Placed (List ℕ)) ℕ) (payload : Placed (List ℕ))
    → within_payload most answer ≡ Ok payload → IsShort most answer payload
short_one most (Err item) payload is = absurd (cc is)
short_one most (Ok other) payload is =
    let n = not_above most (length other.0) (too_large (length other.0)) (Ok other) payload is in
    let same : other ≡ payload = cc n.rest in
    record { is = ap Ok same; within = rw (← same) n.within }

pub fits_so : (limits : Limits) (kind : Kind) (table : StringTable) (items : List Item)
    (payload : Placed (List ℕ)) → encoded limits kind table items ≡ Ok payload
    → (fits : Fits limits kind table items) × (fits.payload ≡ payload)
fits_so limits kind table items payload is =
    let one = not_above limits.depth (depth_of items) (too_deep (depth_of items))
    (if nat_lt limits.content (content_of items) then Err (too_much (capped (content_of items)))
    else within_payload limits.payload (chosen (writing limits kind) table items)) payload is in
    let two = not_above limits.content (content_of items) (too_much (capped (content_of items)))
    (within_payload limits.payload (chosen (writing limits kind) table items)) payload one.rest
    in
    let three = short_one limits.payload (chosen (writing limits kind) table items) payload two.rest
    in (
      record {
        depth = one.within;
        content = two.within;
        payload = payload;
        chosen_is =
            three.is;
        within = three.within;
      },
      refl,
    )

so_written : (limits : Limits) (kind : Kind) (table : StringTable) (items : List Item)
    (payload : Placed (List ℕ)) (fits : Fits limits kind table items) → fits.payload ≡ payload
    → encoded limits kind table items ≡ Ok payload
so_written limits kind table items payload fits same =
    rw (
      le-ltb limits.depth (depth_of items) fits.depth,
      le-ltb limits.content (content_of items)
          fits.content,
      fits.chosen_is,
      le-ltb limits.payload (length fits.payload.0) fits.within,
    )
    (ap Ok same)

pub writes_what_fits : WritesWhatFits
writes_what_fits limits kind table items payload = (
  fits_so limits kind table items payload,
  λ (fits, same). so_written limits kind table items
      payload fits same,
)

-- one more
behind_none : (rest : Result (Placed (List ℕ)) UnfitAt) → behind_bytes [] rest ≡ rest
behind_none (Ok more) = refl
behind_none (Err unfit) = refl

behind_both : (a b : List ℕ) (rest : Result (Placed (List ℕ)) UnfitAt)
    → behind_bytes a (behind_bytes b rest) ≡ behind_bytes (a ++ b) rest
behind_both a b (Ok more) = ap (λ l. Ok (l, more.1)) (sym (append_assoc a b more.0))
behind_both a b (Err unfit) = refl

-- what stands behind the first envelope, where there is one
pub record Parted (mode : Mode) (number : ℕ) (first : Result (Placed (List ℕ)) Unfit)
    (rest : StringTable → Result (Placed (List ℕ)) UnfitAt) (bytes : List ℕ) (behind : StringTable)
    : Type 0 where
  pub payload : Placed (List ℕ)
  pub first_is : first ≡ Ok payload
  pub others : List ℕ
  pub rest_is : rest payload.1 ≡ Ok (others, behind)
  pub joined : bytes ≡ envelope mode payload.0 ++ others

pub parted : (mode : Mode) (number : ℕ) (first : Result (Placed (List ℕ)) Unfit)
    (rest : StringTable → Result (Placed (List ℕ)) UnfitAt) (bytes : List ℕ) (behind : StringTable)
    → envelope_then mode number first rest ≡ Ok (bytes, behind)
    → Parted mode number first rest bytes behind
parted mode number (Err why) rest bytes behind is = absurd (cc is)
parted mode number (Ok payload) rest bytes behind is = by (rest payload.1) refl is
  where
    by : (tail : Result (Placed (List ℕ)) UnfitAt) → rest payload.1 ≡ tail
        → behind_bytes (envelope mode payload.0) tail ≡ Ok (bytes, behind)
        → Parted mode number (Ok payload) rest bytes behind
    by (Err unfit) e is = absurd (cc is)
    by (Ok more) e is =
        let pair : (envelope mode payload.0 ++ more.0, more.1) ≡ (bytes, behind) = cc is in
        record {
          payload = payload;
          first_is = refl;
          others = more.0;
          rest_is = e ∙ ap (λ (t : StringTable). Ok (more.0, t))
              (ap (λ (p : Placed (List ℕ)). p.1) pair);
          joined = sym (ap (λ (p : Placed (List ℕ)). p.0) pair);
        }

-- the envelope of the last
abbrev last_one : Limits → Kind → Mode → List Item → StringTable → ℕ
    → Result (Placed (List ℕ)) UnfitAt
last_one limits kind mode document table number =
    envelope_then mode number (encoded limits kind table document) (λ last. Ok ([], last))

pub sends_one_more : SendsOneMore
sends_one_more limits kind mode table behind number [] document bytes is =
    let pair : ([], table) ≡ (bytes, behind) = cc is in
    let none : [] ≡ bytes = ap (λ (p : Placed (List ℕ)). p.0) pair in
    let same : table ≡ behind = ap (λ (p : Placed (List ℕ)). p.1) pair in
    let last = last_one limits kind mode document in
    let counted : number ≡ number + 0 = sym (add-zero number) in
    sym (behind_none (last table number)) ∙ ap (λ b. behind_bytes b (last table number)) none
    ∙ ap (λ t. behind_bytes bytes (last t number)) same
    ∙ ap (λ n. behind_bytes bytes (last behind n)) counted
sends_one_more limits kind mode table behind number (first ∷ documents) document bytes is =
    let p = parted mode number (encoded limits kind table first)
    (λ t. envelopes_from limits kind mode t (number + 1) documents) bytes behind is in
    let more = sends_one_more limits kind mode p.payload.1 behind (number + 1) documents document
    p.others p.rest_is in
    let last = last_one limits kind mode document in
    let counted : number + 1 + length documents ≡ number + length (first ∷ documents) =
    omega arith in
    ap (λ one. envelope_then mode number one
    (λ t. envelopes_from limits kind mode t (number + 1) (documents ++ document ∷ [])))
    p.first_is
    ∙ ap (behind_bytes (envelope mode p.payload.0)) more
    ∙ behind_both (envelope mode p.payload.0) p.others (last behind (number + 1 + length documents))
    ∙ ap (λ b. behind_bytes b (last behind (number + 1 + length documents))) (sym p.joined)
    ∙ ap (λ n. behind_bytes bytes (last behind n)) counted
