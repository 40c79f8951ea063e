-- What a decoder stands for or shows, in the words of public clauses.
use Rattle.std.proofs.Common.{◌≡◌, ℕ, ◌+◌, ◌^◌, ◌<◌, ◌≤◌, false, List, [], ◌++◌, length, take, Some}
use Rattle.std.proofs.Common.{None, Option, sym, refl, ap, ◌∙◌, subst, arith}
use Rattle.{std.proofs.Math.Seq.take-nil, string_tables.specs.SessionStrings.used_cost}
use Rattle.unit_streams.proofs.Pending.{open_longer, open_pending, pending_open}
use Rattle.unit_streams.proofs.Standing.{standing_length, standing_nothing}
use Rattle.unit_streams.specs.{Front.begun, Front.whole, Grammar.Standing, Grammar.standing}
use Rattle.unit_streams.specs.Going.{IsGoing, IsPending, IsQuiet}
use Rattle.unit_streams.specs.Judging.{is_over_at, refusal_at}
use Rattle.nbfx_values.specs.QuotasOf.{limits_of}
use Rattle.nbfx_decoder.specs.declared.{decoder.Decoder.Decoder, faults.DecodeFault.DecodeFault}
use Rattle.nbfx_decoder.specs.DecoderState.{Failed, FailedBehind, failure_of, Reached, settings_of}
use Rattle.nbfx_decoder.specs.DecoderState.{situation_of, StandsFor, StandsSo, taken_of}
use Rattle.nbfx_decoder.specs.Payload.{beginning, NoEvent, payload, Refusal, Settings, Situation}
use Rattle.nbfx_decoder.specs.Units.{IsAt, KeepsSettings}
use Rattle.nbfx_decoder.proofs.{AllSteps.going_unrefused, Readable.readable}

-- the words of public clauses
pub settings_kept : (d new : Decoder) → KeepsSettings d.units new.units → settings_of new
    ≡ settings_of d
unfolding settings_of
settings_kept d new kept =
    ap (λ statics. record {
      statics = statics.now;
      kind = new.units.kind;
      limits = limits_of
          new.units.quotas;
    }) kept.statics
    ∙ ap (λ kind. record {
      statics = d.units.statics.now;
      kind = kind;
      limits = limits_of
          new.units.quotas;
    }) kept.kind
    ∙ ap (λ quotas. record {
      statics = d.units.statics.now;
      kind = d.units.kind;
      limits = limits_of
          quotas;
    }) kept.quotas

pub settings_at : (d : Decoder) (x : Settings) (z : Situation) (from : ℕ) → IsAt d.units x z from
    → settings_of d ≡ x
unfolding settings_of
settings_at d x z from at =
    ap (λ statics. record {
      statics = statics;
      kind = d.units.kind;
      limits = limits_of
          d.units.quotas;
    }) at.set.statics
    ∙ ap (λ kind. record { statics = x.statics; kind = kind; limits = limits_of d.units.quotas })
    at.set.kind
    ∙ ap (λ limits. record { statics = x.statics; kind = x.kind; limits = limits }) at.set.limits

pub stands_as : (d : Decoder) (strings : List (List ℕ)) (p : List ℕ) → StandsFor d strings p
    → StandsSo d (settings_of d) strings p
unfolding StandsFor
stands_as d strings p h = h

pub reached_of : (d : Decoder) (strings : List (List ℕ)) (p : List ℕ) → StandsFor d strings p
    → Reached d (settings_of d) strings p
reached_of d strings p h = (stands_as d strings p h).reached

pub items_here : (d : Decoder) (strings : List (List ℕ)) (p : List ℕ) → StandsFor d strings p
    → d.units.document ≡ (situation_of (settings_of d) strings p).items
items_here d strings p h = (reached_of d strings p h).at.items

pub stands_of : (d : Decoder) (x : Settings) (strings : List (List ℕ)) (p : List ℕ) → settings_of d
    ≡ x → StandsSo d x strings p → StandsFor d strings p
unfolding StandsFor
stands_of d x strings p is h = subst (λ (s : Settings). StandsSo d s strings p) (sym is) h

pub failed_of : (d : Decoder) (x : Settings) (fault : DecodeFault) (strings : List (List ℕ))
    (p : List ℕ) → settings_of d ≡ x → Failed d x fault strings p → FailedBehind d fault strings p
unfolding FailedBehind
failed_of d x fault strings p is h = subst (λ (s : Settings). Failed d s fault strings p) (sym is) h

pub failure_is : (d : Decoder) (v : Option DecodeFault) → d.failure ≡ v → failure_of d ≡ v
unfolding failure_of
failure_is d v e = e

-- a decoder that stands for something hasn't failed
pub unfailed_stands : (d : Decoder) (fault : DecodeFault) (strings : List (List ℕ)) (p : List ℕ)
    → d.failure ≡ Some fault → StandsFor d strings p → ⊥
unfailed_stands d fault strings p e h = let none = sym e ∙ (reached_of d strings p h).unfailed in cc

pub unfailed_failure : (d : Decoder) (fault : DecodeFault) → d.failure ≡ None → failure_of d
    ≡ Some fault → ⊥
unfolding failure_of
unfailed_failure d fault none e = let bad = sym none ∙ e in cc

pub same_failure : (d : Decoder) (fault told : DecodeFault) → d.failure ≡ Some fault → failure_of d
    ≡ Some told → fault ≡ told
unfolding failure_of
same_failure d fault told e f = let same = sym e ∙ f in cc

-- the bytes taken and those of the piece are few
pub few_bytes : (d : Decoder) (n : ℕ) → d.failure ≡ None
    → (failure_of d ≡ None → taken_of d + n ≤ (settings_of d).limits.payload) → d.units.from
    + length d.begun + n < 2 ^ 32
unfolding failure_of taken_of settings_of
few_bytes d n none within =
    let le = within none in
    let most = d.units.quotas.good.payload_most in
    omega (arith, le, most)

pub payload_small : (d : Decoder) → (settings_of d).limits.payload ≤ 16777216
unfolding settings_of
payload_small d = d.units.quotas.good.payload_most

pub content_most : (d : Decoder) → (settings_of d).limits.content ≤ 67108864
unfolding settings_of
content_most d = d.units.quotas.good.content_most

pub depth_some : (d : Decoder) → 0 < (settings_of d).limits.depth
unfolding settings_of
depth_some d = let least = d.units.quotas.good.depth_least in omega (arith, least)

pub depth_most : (d : Decoder) → (settings_of d).limits.depth ≤ 1024
unfolding settings_of
depth_most d = d.units.quotas.good.depth_most

-- how many bytes it has taken, by where the unit that isn't whole begins
pub taken_as : (d : Decoder) → taken_of d ≡ d.units.from + length d.begun
unfolding taken_of
taken_as d = refl

-- a decoder has taken the bytes that it stands for
pub counts_taken : (d : Decoder) (strings : List (List ℕ)) (p : List ℕ) → StandsFor d strings p
    → d.units.from + length d.begun ≡ length p
counts_taken d strings p h =
    let r = reached_of d strings p h in
    let place = standing_length (payload (settings_of d) strings) (readable (settings_of d) strings)
    p in
    let from = r.at.set.from_is in
    let size = ap length r.begun in
    omega (arith, place, from, size)

pub taken_is : (d : Decoder) (strings : List (List ℕ)) (p : List ℕ) → StandsFor d strings p
    → taken_of d ≡ length p
unfolding taken_of
taken_is d strings p h = counts_taken d strings p h

-- nothing of a payload ends it
never_over : (x : Settings) (strings : List (List ℕ)) (p : List ℕ) → is_over_at (payload x strings)
    p ≡ false
unfolding is_over_at
never_over x strings p = refl

-- bytes that aren't refused, and more
pub still_pending : (x : Settings) (strings : List (List ℕ)) (p y : List ℕ)
    → IsPending (payload x strings) p → IsQuiet (payload x strings) p y (length y)
    → refusal_at (payload x strings) (p ++ y) ≡ None
    → IsPending (payload x strings) (p ++ y)
still_pending x strings p y pending quiet none =
    open_pending (payload x strings) p y
    (open_longer (payload x strings) p y (pending_open (payload x strings) p pending)
    quiet.unrefused (λ i le. never_over x strings (p ++ take i y))) none

-- before the first byte
pub none_pending : (x : Settings) (strings : List (List ℕ)) → IsGoing (payload x strings)
    (standing (payload x strings) []) → IsPending (payload x strings) []
none_pending x strings going = record {
  unrefused = λ n. ap (refusal_at (payload x strings)) (take-nil n) ∙ going_unrefused x strings []
      going;
  going_on = λ n. never_over x strings (take n []);
}

-- a decoder before a payload
pub stands_first : (d : Decoder) (x : Settings) (strings : List (List ℕ)) → settings_of d ≡ x
    → IsAt d.units x (beginning x strings) 0 → d.begun ≡ [] → d.failure ≡ None → used_cost strings
    ≤ x.limits.dictionary
    → StandsFor d strings []
stands_first d x strings is at none unfailed cost =
    let first = standing_nothing (payload x strings) (readable x strings) in
    let reached : Reached d x strings [] = record {
      at = subst (λ (s : Standing Situation NoEvent Refusal). IsAt d.units x s.situation s.from)
          (sym first) at;
      begun = subst (λ (s : Standing Situation NoEvent Refusal). d.begun ≡ s.begun) (sym first)
          none;
      waits = λ some. absurd (let n = ap length none in omega (arith, n, some));
      going = subst (λ (s : Standing Situation NoEvent Refusal). IsGoing (payload x strings) s)
          (sym first)
          (record { next = (readable x strings).nothing (beginning x strings) 0; last = refl });
      unfailed = unfailed;
    } in
    stands_of d x strings [] is
    (record {
      reached = reached;
      pending = none_pending x strings reached.going;
      within = omega
          arith;
      before = cost;
    })
