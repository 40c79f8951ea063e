-- What makes a thing of parts wrong: a part of it, once those before are whole.
use Rattle.std.proofs.Common.{◌≡◌, ℕ, zero, suc, ◌+◌, ◌≤◌, ◌⊎◌, ◌↔◌, List, [], ◌∷◌, length, drop}
use Rattle.std.proofs.Common.{Some, None, Option, sym, refl, ap, ◌∙◌, subst, inl, inr, arith}
use Rattle.std.proofs.Common.{length-drop, drop-drop}
use Rattle.unit_streams.{proofs.Fronts.whole_some, specs.Parts.with_first, specs.Parts.◌>>=◌}
use Rattle.unit_streams.proofs.Parts.{then_begun, then_whole, then_wrong}
use Rattle.unit_streams.specs.Front.{begun, Front, ReadsFront, whole, wrong}
use Rattle.unit_streams.specs.Parts.{a_byte, further, many, more, Reader, refuse, seen, stop, Turn}
use Rattle.nbfx_records.specs.declared.nodes.RecordFault.{RecordFault}
use Rattle.nbfx_records.specs.Causes.{Behind, BehindMany, BehindThese, Caused, IsRefused}
use Rattle.nbfx_records.specs.Causes.{IsWrongPart, Now, Part, type_refused}
use Rattle.nbfx_records.proofs.CursorFacts.{further_wrong}
use Rattle.nbfx_records.proofs.ManyFacts.{many_begun, many_more, many_stop, many_wrong}

-- a reader's thing is wrong by the parts that come in it, and only so
abbrev pub WrongJust : {A : Type 0} → Reader A RecordFault → (Part → List ℕ → ℕ → Type 0) → Type 0
WrongJust reader comes = (bytes : List ℕ) (fault : RecordFault) (n : ℕ)
    → (reader bytes ≡ wrong fault n) ↔ Caused comes fault bytes n

abbrev pub Nowhere : Part → List ℕ → ℕ → Type 0
Nowhere part bytes k = ⊥

pub caused_as : {c d : Part → List ℕ → ℕ → Type 0} {fault : RecordFault} {bytes : List ℕ} {n : ℕ}
    → ((part : Part) (k : ℕ) → c part bytes k → d part bytes k) → Caused c fault bytes n
    → Caused d fault bytes n
caused_as change it = record {
  part = it.part;
  at = it.at;
  shown = it.shown;
  come = change it.part
      it.at it.come;
  wrong = it.wrong;
  place = it.place;
}

pub wrong_as : {A : Type 0} {reader : Reader A RecordFault} (c d : Part → List ℕ → ℕ → Type 0)
    → ((part : Part) (bytes : List ℕ) (k : ℕ) → c part bytes k → d part bytes k)
    → ((part : Part) (bytes : List ℕ) (k : ℕ) → d part bytes k → c part bytes k) → WrongJust reader
    c → WrongJust reader d
wrong_as c d to back just bytes fault n = (
  λ e. caused_as (λ part k. to part bytes k) ((just bytes fault n).0 e),
  λ it. (just bytes fault n).1 (caused_as (λ part k. back part bytes k) it),
)

-- what is never wrong
pub never_wrong : {A : Type 0} (reader : Reader A RecordFault)
    → ((bytes : List ℕ) (fault : RecordFault) (n : ℕ) → reader bytes ≡ wrong fault n → ⊥)
    → WrongJust reader Nowhere
never_wrong reader never bytes fault n = (λ e. absurd (never bytes fault n e), λ it. absurd it.come)

-- as another sees it
pub unseen : {A B : Type 0} (see : A → B) (v : Front A RecordFault) (fault : RecordFault) (n : ℕ)
    → seen see (λ r. r) v ≡ wrong fault n → v ≡ wrong fault n
unseen see begun fault n e = cc
unseen see (whole a k) fault n e = cc
unseen see (wrong r k) fault n e = let same : r ≡ fault = cc in let size : k
    ≡ n = cc in ap (λ x. wrong x k) same ∙ ap (wrong fault) size

pub wrong_seen : {A B : Type 0} (see : A → B) (reader : Reader A RecordFault)
    (c : Part → List ℕ → ℕ → Type 0) → WrongJust reader c
    → WrongJust (λ bytes. seen see (λ r. r) (reader bytes)) c
wrong_seen see reader c just bytes fault n = (
  λ e. (just bytes fault n).0 (unseen see (reader bytes) fault n e),
  λ it. ap (seen see (λ r. r)) ((just bytes fault n).1 it),
)

-- two that are wrong by the same are wrong by what one is
pub carried : {A B : Type 0} (v : Front A RecordFault) (w : Front B RecordFault)
    (r fault : RecordFault) (k n : ℕ) → v ≡ wrong r k → w ≡ wrong r k → w ≡ wrong fault n → v
    ≡ wrong fault n
carried v w r fault k n is also e =
    let both = sym also ∙ e in
    let same : r ≡ fault = cc both in
    let size : k ≡ n = cc both in
    is ∙ ap (λ x. wrong x k) same ∙ ap (wrong fault) size

-- a part that is wrong behind others
behind_wrong : (part : Part) (fault : RecordFault) (bytes : List ℕ) (j i shown : ℕ)
    → IsWrongPart part fault (drop i (drop j bytes)) shown → IsWrongPart part fault
    (drop (j + i) bytes) shown
behind_wrong part fault bytes j i shown h = subst (λ (b : List ℕ). IsWrongPart part fault b shown)
    (drop-drop i j bytes) h

before_wrong : (part : Part) (fault : RecordFault) (bytes : List ℕ) (k j i shown : ℕ) → k ≡ j + i
    → IsWrongPart part fault (drop k bytes) shown → IsWrongPart part fault (drop i (drop j bytes))
    shown
before_wrong part fault bytes k j i shown e h = subst
    (λ (b : List ℕ). IsWrongPart part fault b shown)
    (ap (λ m. drop m bytes) e ∙ sym (drop-drop i j bytes)) h

-- a first thing, and what it makes come next
module _ {A B : Type 0} (first : Reader A RecordFault) (next : A → Reader B RecordFault)
    (c : Part → List ℕ → ℕ → Type 0) (d : A → Part → List ℕ → ℕ → Type 0)
    (one : WrongJust first c) (other : (a : A) → WrongJust (next a) (d a)) where
  abbrev InBoth : Part → List ℕ → ℕ → Type 0
  InBoth part bytes k = c part bytes k ⊎ Behind first (λ a rest i. d a part rest i) bytes k

  both_caused : (bytes : List ℕ) (fault : RecordFault) (n : ℕ) (v : Front A RecordFault)
      → first bytes ≡ v → (first >>= next) bytes ≡ wrong fault n → Caused InBoth fault bytes n
  both_caused bytes fault n begun is e = let none = then_begun first next bytes is in cc
  both_caused bytes fault n (wrong r k) is e =
      let all = then_wrong first next bytes r k is in
      caused_as (λ part at. inl)
      ((one bytes fault n).0 (carried (first bytes) ((first >>= next) bytes) r fault k n is all e))
  both_caused bytes fault n (whole a j) is e =
      let behind = further_wrong j (next a (drop j bytes)) fault n
      (sym (then_whole first next bytes a j is) ∙ e) in
      let it = (other a (drop j bytes) fault behind.0).0 behind.1 in
      record {
        part = it.part;
        at = j + it.at;
        shown = it.shown;
        come = inr (a, j, it.at, is, refl, it.come);
        wrong = behind_wrong it.part fault bytes j it.at it.shown it.wrong;
        place = omega (arith, behind.2, it.place);
      }

  both_wrong : (bytes : List ℕ) (fault : RecordFault) (n : ℕ) (part : Part) (at shown : ℕ)
      → InBoth part bytes at → IsWrongPart part fault (drop at bytes) shown → n ≡ at + shown
      → (first >>= next) bytes ≡ wrong fault n
  both_wrong bytes fault n part at shown (inl come) is e =
      then_wrong first next bytes fault n
      ((one bytes fault n).1
      (record { part = part; at = at; shown = shown; come = come; wrong = is; place = e }))
  both_wrong bytes fault n part at shown (inr (a, j, i, read, size, come)) is e =
      let behind = (other a (drop j bytes) fault (i + shown)).1
      (record {
        part = part;
        at = i;
        shown = shown;
        come = come;
        wrong = before_wrong part fault
            bytes at j i shown size is;
        place = refl;
      }) in
      let place : j + (i + shown) ≡ n = omega (arith, e, size) in
      then_whole first next bytes a j read ∙ ap (further j) behind ∙ ap (wrong fault) place

  pub wrong_both : WrongJust (first >>= next) InBoth
  wrong_both bytes fault n = (
    both_caused bytes fault n (first bytes) refl,
    λ it. both_wrong bytes
        fault n it.part it.at it.shown it.come it.wrong it.place,
  )

-- where either part can't be wrong
pub then_never : {A B : Type 0} (first : Reader A RecordFault) (next : A → Reader B RecordFault)
    (c : Part → List ℕ → ℕ → Type 0) → WrongJust first c → ((a : A) → WrongJust (next a) Nowhere)
    → WrongJust (first >>= next) c
then_never first next c one other =
    wrong_as (λ part bytes k. c part bytes k ⊎ Behind first (λ a rest i. Nowhere part rest i) bytes
    k) c back (λ part bytes k. inl) (wrong_both first next c (λ a. Nowhere) one other)
  where
    back : (part : Part) (bytes : List ℕ) (k : ℕ) → c part bytes k
        ⊎ Behind first (λ a rest i. Nowhere part rest i) bytes k → c part bytes k
    back part bytes k (inl h) = h
    back part bytes k (inr (a, j, i, read, size, none)) = absurd none

pub after_never : {A B : Type 0} (first : Reader A RecordFault) (next : A → Reader B RecordFault)
    (d : A → Part → List ℕ → ℕ → Type 0) → WrongJust first Nowhere
    → ((a : A) → WrongJust (next a) (d a))
    → WrongJust (first >>= next) (λ part bytes k. Behind first (λ a rest i. d a part rest i) bytes
    k)
after_never first next d one other =
    wrong_as (λ part bytes k. Nowhere part bytes k ⊎ Behind first (λ a rest i. d a part rest i)
    bytes k) (λ part bytes k. Behind first (λ a rest i. d a part rest i) bytes k) back
    (λ part bytes k. inr) (wrong_both first next Nowhere d one other)
  where
    back : (part : Part) (bytes : List ℕ) (k : ℕ) → Nowhere part bytes k
        ⊎ Behind first (λ a rest i. d a part rest i) bytes k
        → Behind first (λ a rest i. d a part rest i) bytes k
    back part bytes k (inl none) = absurd none
    back part bytes k (inr h) = h

-- a part by itself
pub leaf : {A : Type 0} (due : Part) (reader : Reader A RecordFault)
    → ((bytes : List ℕ) (fault : RecordFault) (n : ℕ) → (reader bytes ≡ wrong fault n)
    ↔ IsWrongPart due fault bytes n)
    → WrongJust reader (λ part bytes k. Now due part k)
leaf due reader by bytes fault n = (
  λ e. record {
    part = due;
    at = 0;
    shown = n;
    come = (refl, refl);
    wrong = (by bytes fault n).0 e;
    place = omega arith;
  },
  λ it.
      let there = subst (λ (m : ℕ). IsWrongPart due fault (drop m bytes) it.shown) it.come.1
      (subst (λ (q : Part). IsWrongPart q fault (drop it.at bytes) it.shown) it.come.0 it.wrong) in
      let place : it.shown ≡ n = omega (arith, it.place, it.come.1) in
      (by bytes fault it.shown).1 there ∙ ap (wrong fault) place,
)

-- behind a type byte, which is refused or lets something come
abbrev pub BranchOf : {A : Type 0} → Option RecordFault → Reader A RecordFault
    → (Part → List ℕ → ℕ → Type 0) → Type 0
BranchOf refused reader c =
    ((fault : RecordFault) × (refused ≡ Some fault)
    × ((bytes : List ℕ) → reader bytes ≡ wrong fault 0)
    × ((part : Part) (bytes : List ℕ) (k : ℕ) → c part bytes k → ⊥))
    ⊎ ((refused ≡ None) × WrongJust reader c)

pub refuses : {A : Type 0} (fault : RecordFault) → BranchOf {A = A} (Some fault) (refuse fault)
    Nowhere
refuses fault = inl (fault, refl, λ bytes. refl, λ part bytes k h. h)

abbrev pub Branch : {A : Type 0} → Part → ℕ → Reader A RecordFault → (Part → List ℕ → ℕ → Type 0)
    → Type 0
Branch due byte reader c = BranchOf (type_refused due byte) reader c

module _ {A : Type 0} (due : Part) (to : (fault : RecordFault) (bytes : List ℕ) (m : ℕ)
    → IsRefused due fault bytes m → IsWrongPart due fault bytes m)
    (back : (fault : RecordFault) (bytes : List ℕ) (m : ℕ) → IsWrongPart due fault bytes m
    → IsRefused due fault bytes m)
    (branch : ℕ → Reader A RecordFault) (c : ℕ → Part → List ℕ → ℕ → Type 0)
    (branches : (byte : ℕ) → Branch due byte (branch byte) (c byte)) where
  abbrev InTyped : Part → List ℕ → ℕ → Type 0
  InTyped part bytes k = Now due part k ⊎ Behind (a_byte {R = RecordFault})
      (λ byte rest i. c byte part rest i) bytes k

  behind_byte : (byte : ℕ) (rest : List ℕ) → (a_byte >>= branch) (byte ∷ rest)
      ≡ further 1 (branch byte rest)
  behind_byte byte rest = then_whole a_byte branch (byte ∷ rest) byte 1 refl

  typed_caused : (bytes : List ℕ) (fault : RecordFault) (n : ℕ) → (a_byte >>= branch) bytes
      ≡ wrong fault n → Caused InTyped fault bytes n
  typed_caused [] fault n e = let none = then_begun a_byte branch [] refl in cc
  typed_caused (byte ∷ rest) fault n e =
      let behind = further_wrong 1 (branch byte rest) fault n (sym (behind_byte byte rest) ∙ e) in
      elim (branches byte) [
        | inl (given, refused, reads, none) ↦
            let both : wrong given 0 ≡ wrong fault behind.0 = sym (reads rest) ∙ behind.1 in
            let same : given ≡ fault = cc both in
            let size : 0 ≡ behind.0 = cc both in
            record {
              part = due;
              at = 0;
              shown = 1;
              come = inl (refl, refl);
              wrong = to fault (byte ∷ rest) 1 (refl, refused ∙ ap Some same);
              place = omega (arith, behind.2, size);
            }
        | inr (allowed, just) ↦
            let it = (just rest fault behind.0).0 behind.1 in
            record {
              part = it.part;
              at = 1 + it.at;
              shown = it.shown;
              come = inr (byte, 1, it.at, refl, refl, it.come);
              wrong = behind_wrong it.part fault (byte ∷ rest) 1 it.at it.shown it.wrong;
              place = omega (arith, behind.2, it.place);
            }
      ]

  refused_wrong : (bytes : List ℕ) (fault : RecordFault) (n shown : ℕ) → IsRefused due fault bytes
      shown → n ≡ shown → (a_byte >>= branch) bytes ≡ wrong fault n
  refused_wrong [] fault n shown is e = absurd is
  refused_wrong (byte ∷ rest) fault n shown (one, refused) e =
      let place : 1 ≡ n = omega (arith, one, e) in
      behind_byte byte rest ∙ (elim (branches byte) [
        | inl (given, is, reads, none) ↦ let same : given ≡ fault = cc (is, refused) in
            ap (further 1) (reads rest) ∙ ap (λ r. wrong r 1) same
        | inr (allowed, just) ↦ cc (allowed, refused)
      ]) ∙ ap (wrong fault) place

  behind_typed : (bytes : List ℕ) (fault : RecordFault) (n : ℕ) (part : Part) (byte j i shown : ℕ)
      → a_byte {R = RecordFault} bytes ≡ whole byte j → c byte part (drop j bytes) i
      → IsWrongPart part fault (drop (j + i) bytes) shown → n ≡ j + i + shown
      → (a_byte >>= branch) bytes ≡ wrong fault n
  behind_typed [] fault n part byte j i shown read come is e = cc read
  behind_typed (x ∷ rest) fault n part byte j i shown read come is e =
      let same : x ≡ byte = cc read in
      let size : j ≡ 1 = cc read in
      let own : c x part rest i = subst (λ (y : ℕ). c y part rest i) (sym same)
      (subst (λ (m : ℕ). c byte part (drop m (x ∷ rest)) i) size come) in
      let wrong_there : IsWrongPart part fault (drop i rest) shown = before_wrong part fault
      (x ∷ rest) (j + i) 1 i shown (ap (λ m. m + i) size) is in
      let place : 1 + (i + shown) ≡ n = omega (arith, e, size) in
      elim (branches x) [
        | inl (given, refused, reads, none) ↦ absurd (none part rest i own)
        | inr (allowed, just) ↦
            behind_byte x rest ∙ ap (further 1)
            ((just rest fault (i + shown)).1
            (record {
              part = part;
              at = i;
              shown = shown;
              come = own;
              wrong = wrong_there;
              place =
                  refl;
            })) ∙ ap (wrong fault) place
      ]

  typed_wrong : (bytes : List ℕ) (fault : RecordFault) (n : ℕ) (part : Part) (at shown : ℕ)
      → InTyped part bytes at → IsWrongPart part fault (drop at bytes) shown → n ≡ at + shown
      → (a_byte >>= branch) bytes ≡ wrong fault n
  typed_wrong bytes fault n part at shown (inl (is_due, at_once)) is e =
      let there = subst (λ (m : ℕ). IsWrongPart due fault (drop m bytes) shown) at_once
      (subst (λ (q : Part). IsWrongPart q fault (drop at bytes) shown) is_due is) in
      refused_wrong bytes fault n shown (back fault bytes shown there) (omega (arith, e, at_once))
  typed_wrong bytes fault n part at shown (inr (byte, j, i, read, size, come)) is e =
      behind_typed bytes fault n part byte j i shown read come
      (subst (λ (m : ℕ). IsWrongPart part fault (drop m bytes) shown) size is)
      (omega (arith, e, size))

  pub wrong_typed : WrongJust (a_byte >>= branch) InTyped
  wrong_typed bytes fault n = (
    typed_caused bytes fault n,
    λ it. typed_wrong bytes fault n it.part
        it.at it.shown it.come it.wrong it.place,
  )

-- things one behind the other
module _ {A B : Type 0} (turn : Reader (Turn A B) RecordFault) (reads : ReadsFront turn)
    (nothing : turn [] ≡ begun) (c : Part → List ℕ → ℕ → Type 0) (just : WrongJust turn c) where
  abbrev InMany : Part → List ℕ → ℕ → Type 0
  InMany part bytes k = BehindMany turn (c part) bytes k

  many_caused : (size : ℕ) (bytes : List ℕ) (fault : RecordFault) (n : ℕ)
      (v : Front (Turn A B) RecordFault) → length bytes ≤ size → turn bytes ≡ v → many turn bytes
      ≡ wrong fault n → Caused InMany fault bytes n
  many_caused size bytes fault n begun le is e = let none = many_begun turn reads nothing bytes is
      in cc
  many_caused size bytes fault n (wrong r k) le is e =
      let all = many_wrong turn reads nothing bytes r k is in
      caused_as (λ part at come. ([], come))
      ((just bytes fault n).0 (carried (turn bytes) (many turn bytes) r fault k n is all e))
  many_caused size bytes fault n (whole (stop last) k) le is e = let all = many_stop turn reads
      nothing bytes last k is in cc
  many_caused zero bytes fault n (whole (more a) j) le is e = let some = whole_some turn reads
      nothing bytes (more a) j is in absurd (omega (arith, le, some.0, some.1))
  many_caused (suc size) bytes fault n (whole (more a) j) le is e =
      let some = whole_some turn reads nothing bytes (more a) j is in
      let behind = further_wrong j (seen (with_first a) (λ r. r) (many turn (drop j bytes))) fault n
      (sym (many_more turn reads nothing bytes a j is) ∙ e) in
      let it = many_caused size (drop j bytes) fault behind.0 (turn (drop j bytes))
      (omega (arith, le, some.0, some.1, length-drop j bytes)) refl
      (unseen (with_first a) (many turn (drop j bytes)) fault behind.0 behind.1) in
      record {
        part = it.part;
        at = j + it.at;
        shown = it.shown;
        come = (a ∷ it.come.0, (j, it.at, is, refl, it.come.1));
        wrong = behind_wrong it.part fault bytes j it.at it.shown it.wrong;
        place = omega (arith, behind.2, it.place);
      }

  these_wrong : (items : List A) (bytes : List ℕ) (fault : RecordFault) (n : ℕ) (part : Part)
      (at shown : ℕ) → BehindThese turn (c part) items bytes at → IsWrongPart part fault
      (drop at bytes) shown → n ≡ at + shown
      → many turn bytes ≡ wrong fault n
  these_wrong [] bytes fault n part at shown come is e =
      many_wrong turn reads nothing bytes fault n
      ((just bytes fault n).1
      (record { part = part; at = at; shown = shown; come = come; wrong = is; place = e }))
  these_wrong (a ∷ items) bytes fault n part at shown (j, i, read, size, come) is e =
      let behind = these_wrong items (drop j bytes) fault (i + shown) part i shown come
      (before_wrong part fault bytes at j i shown size is) refl in
      let place : j + (i + shown) ≡ n = omega (arith, e, size) in
      many_more turn reads nothing bytes a j read ∙
      ap (λ v. further j (seen (with_first a) (λ r. r) v)) behind ∙ ap (wrong fault) place

  pub wrong_many : WrongJust (many turn) InMany
  wrong_many bytes fault n = (
    many_caused (length bytes) bytes fault n (turn bytes) (omega arith) refl,
    λ it. these_wrong it.come.0 bytes fault n it.part it.at it.shown it.come.1 it.wrong it.place,
  )
