-- What the bytes of each part of a record are, up to a list, where no text and no value is judged.
use Rattle.std.proofs.Common.{◌≡◌, ℕ, Bool, true, false, List, [], ◌∷◌, ◌++◌, length, take}
use Rattle.std.proofs.Common.{if◌then◌else◌, Some, None, Option, sym, refl, ap, ◌∙◌, subst}
use Rattle.std.{proofs.Common.append-nil, specs.Int.byte_len}
use Rattle.unit_streams.proofs.{Parts.then_begun, Repeated.just_many, Spelled.just_then}
use Rattle.unit_streams.proofs.Spelled.{just_byte, just_bytes, just_given, just_refuse, just_seen}
use Rattle.unit_streams.specs.Parts.{a_byte, AreMany, given, Joined, Many, more, Reader, ReadsJust}
use Rattle.unit_streams.specs.Parts.{refuse, seen, some_bytes, stop, Turn, ◌>>=◌}
use Rattle.multibyte_ints.proofs.IntegerLaws.{spells_from_whole, whole_from_spells}
use Rattle.multibyte_ints.specs.Integer.{int_at, Spells}
use Rattle.nbfx_records.specs.declared.kinds.Body.{Body, TheVariants.Named, TheVariants.Qualified}
use Rattle.nbfx_records.specs.declared.kinds.Body.TheVariants.{Counted, Ending, Fixed, Listed}
use Rattle.nbfx_records.specs.declared.kinds.{LengthForm.LengthForm, NameForm.NameForm}
use Rattle.nbfx_records.specs.declared.kinds.NameForm.TheVariants.{Identified, Inlined}
use Rattle.nbfx_records.specs.declared.kinds.{PrefixForm.PrefixForm, TextKind.TextKind}
use Rattle.nbfx_records.specs.declared.kinds.PrefixForm.TheVariants.{Lettered, Prefixed, Unprefixed}
use Rattle.nbfx_records.specs.declared.{kinds.RecordKind.RecordKind, nodes.RecordFault.RecordFault}
use Rattle.nbfx_records.specs.declared.nodes.NameRef.{NameRef, TheVariants.Id, TheVariants.Inline}
use Rattle.nbfx_records.specs.Kinds.{body_of, record_kind}
use Rattle.nbfx_records.specs.Shapes.{a_length, a_string, an_integer, body_at, bytes_of}
use Rattle.nbfx_records.specs.Shapes.{counted_bytes, given_or, is_negative, length_of, list_at}
use Rattle.nbfx_records.specs.Shapes.{list_turn, name_at, named_by, prefix_at, qualified_by}
use Rattle.nbfx_records.specs.Shapes.{said_length, scalar_at, ScalarShape, turn_of, width_in}
use Rattle.nbfx_records.proofs.ShapeFronts.{reads_list_turn}
use Rattle.nbfx_records.specs.declared.kinds.TextKind.TheVariants as texts
use Rattle.nbfx_records.specs.declared.nodes.RecordFault.TheVariants as faults
use Rattle.nbfx_records.specs.declared.kinds.RecordKind.TheVariants as records

-- the same bytes, said otherwise
pub just_as : {A R : Type 0} (f : Reader A R) (P Q : A → List ℕ → Type 0) → ReadsJust f P
    → ((a : A) (b : List ℕ) → P a b → Q a b) → ((a : A) (b : List ℕ) → Q a b → P a b)
    → ReadsJust f Q
just_as f P Q just there back b a n = (
  λ e. let h = (just b a n).0 e in (h.0, there a (take n b) h.1),
  λ h. (just b a n).1
      (h.0, back a (take n b) h.1),
)

-- a thing seen otherwise, by what it is seen as
module _ {A B R S : Type 0} (see : A → B) (tell : R → S) (f : Reader A R) (P : A → List ℕ → Type 0)
    (Q : B → List ℕ → Type 0) where
  just_seen_as : ReadsJust f P → ((a : A) (b : List ℕ) → P a b → Q (see a) b)
      → ((y : B) (b : List ℕ) → Q y b → (a : A) × P a b × (see a ≡ y))
      → ReadsJust (λ b. seen see tell (f b)) Q
  just_seen_as just there back =
      just_as (λ b. seen see tell (f b)) (λ y b. (a : A) × P a b × (see a ≡ y)) Q
      (just_seen see tell f P just)
      (λ y b h. subst (λ (z : B). Q z b) h.2 (there h.0 b h.1)) back

-- a part and another behind it, by what they are together
module _ {A B R : Type 0} (f : Reader A R) (next : A → Reader B R) (P : A → List ℕ → Type 0)
    (Q : A → B → List ℕ → Type 0) (J : B → List ℕ → Type 0) where
  pub just_then_as : ReadsJust f P → ((a : A) → ReadsJust (next a) (Q a))
      → ((a : A) (b : B) (front rest : List ℕ) → P a front → Q a b rest → J b (front ++ rest))
      → ((b : B) (bytes : List ℕ) → J b bytes → Joined P Q b bytes) → ReadsJust (f >>= next) J
  just_then_as first rest there back =
      just_as (f >>= next) (Joined P Q) J (just_then f next P Q first rest)
      (λ b bytes j. subst (λ (c : List ℕ). J b c) (sym j.joined)
      (there j.part b j.front j.rest j.first j.next)) back

-- an integer
pub just_integer : ReadsJust an_integer Spells
just_integer =
    just_seen_as (λ n. n) (λ _. faults.BadInt) int_at Spells Spells
    (λ b n k. (spells_from_whole b n k, λ h. whole_from_spells b n k h.0 h.1))
    (λ n b h. h) (λ n b h. (n, h, refl))

-- an integer, and as many bytes as it says
pub record IsRawString (content bytes : List ℕ) : Type 0 where
  pub spelling : List ℕ
  pub spelled : Spells (length content) spelling
  pub joined : bytes ≡ spelling ++ content

pub just_string : ReadsJust a_string IsRawString
just_string =
    just_then_as an_integer some_bytes Spells (λ n s b. (b ≡ s) × (length b ≡ n)) IsRawString
    just_integer (λ n. just_bytes n)
    (λ n s front rest p q. record {
      spelling = front;
      spelled = subst (λ (m : ℕ). Spells m front)
          (sym q.1 ∙ ap length q.0) p;
      joined = ap (λ c. front ++ c) q.0;
    })
    (λ s b h. record {
      part = length s;
      front = h.spelling;
      rest = s;
      joined = h.joined;
      first =
          h.spelled;
      next = (refl, refl);
    })

abbrev pub PrefixIs : PrefixForm → List ℕ → List ℕ → Type 0
PrefixIs Unprefixed p b = (p ≡ []) × (b ≡ [])
PrefixIs (Lettered c) p b = (p ≡ c ∷ []) × (b ≡ [])
PrefixIs Prefixed p b = IsRawString p b

pub just_prefix : (form : PrefixForm) → ReadsJust (prefix_at form) (PrefixIs form)
just_prefix Unprefixed = just_given []
just_prefix (Lettered c) = just_given (c ∷ [])
just_prefix Prefixed = just_string

abbrev pub NameIs : NameForm → NameRef → List ℕ → Type 0
NameIs Inlined (Inline s) b = IsRawString s b
NameIs Identified (Id id) b = Spells id b
NameIs _ _ b = ⊥

pub just_name : (form : NameForm) → ReadsJust (name_at form) (NameIs form)
just_name Inlined = just_seen_as Inline (λ fault. fault) a_string IsRawString (NameIs Inlined)
    just_string (λ s b h. h) back
  where
    back : (y : NameRef) (b : List ℕ) → NameIs Inlined y b → (s : List ℕ) × IsRawString s b
        × (Inline s ≡ y)
    back (Inline s) b h = (s, h, refl)
    back (Id id) b h = absurd h
just_name Identified = just_seen_as Id (λ fault. fault) an_integer Spells (NameIs Identified)
    just_integer (λ n b h. h) back
  where
    back : (y : NameRef) (b : List ℕ) → NameIs Identified y b → (id : ℕ) × Spells id b × (Id id ≡ y)
    back (Inline s) b h = absurd h
    back (Id id) b h = (id, h, refl)

-- a length that is not negative
record IsLength (form : LengthForm) (n : ℕ) (said : List ℕ) : Type 0 where
  size : length said ≡ byte_len (width_in form)
  says : length_of form said ≡ n
  positive : is_negative form n ≡ false

-- a thing that is there, of no bytes
just_given_or : {A : Type 0} (fault : RecordFault) (o : Option A) → ReadsJust (given_or fault o)
    (λ a b. (o ≡ Some a) × (b ≡ []))
just_given_or fault None = just_as (refuse fault) (λ a b. ⊥) (λ a b. (None ≡ Some a) × (b ≡ []))
    (just_refuse fault) (λ a b h. absurd h) (λ a b h. cc h.0)
just_given_or fault (Some x) = just_as (given x) (λ a b. (a ≡ x) × (b ≡ []))
    (λ a b. (Some x ≡ Some a) × (b ≡ [])) (just_given x) (λ a b h. (ap Some (sym h.0), h.1))
    (λ a b h. (cc h.0, h.1))

said_parts : (form : LengthForm) (said : List ℕ) (n : ℕ) → said_length form said ≡ Some n
    → (is_negative form (length_of form said) ≡ false) × (length_of form said ≡ n)
said_parts form said n e = by (is_negative form (length_of form said)) refl e
  where
    by : (negative : Bool) → is_negative form (length_of form said) ≡ negative
        → (if negative then None else Some (length_of form said)) ≡ Some n
        → (is_negative form (length_of form said) ≡ false) × (length_of form said ≡ n)
    by true is e = cc
    by false is e = (is, cc)

said_from : (form : LengthForm) (said : List ℕ) (n : ℕ) → is_negative form n ≡ false
    → length_of form said ≡ n → said_length form said ≡ Some n
said_from form said n positive e = rw (e, positive) refl

just_length : (form : LengthForm) → ReadsJust (a_length form) (IsLength form)
just_length form =
    just_then_as (some_bytes (byte_len (width_in form))) _
    (λ s b. (b ≡ s) × (length b ≡ byte_len (width_in form)))
    (λ said n b. (said_length form said ≡ Some n) × (b ≡ [])) (IsLength form)
    (just_bytes (byte_len (width_in form)))
    (λ said. just_given_or faults.BadInt (said_length form said))
    (λ said n front rest p q.
    let parts = said_parts form said n q.0 in
    subst (IsLength form n) (sym (ap (λ c. front ++ c) q.1 ∙ append-nil front)) (record {
      size = p.1;
      says = ap (length_of form) p.0 ∙ parts.1;
      positive = ap (is_negative form) (sym parts.1) ∙ parts.0;
    }))
    (λ n b h. record {
      part = b;
      front = b;
      rest = [];
      joined = sym (append-nil b);
      first = (refl, h.size);
      next = (said_from form b n h.positive h.says, refl);
    })

-- and as many bytes as it says
pub record IsLengthAnd (form : LengthForm) (content bytes : List ℕ) : Type 0 where
  pub said : List ℕ
  pub size : length said ≡ byte_len (width_in form)
  pub says : length_of form said ≡ length content
  pub positive : is_negative form (length content) ≡ false
  pub joined : bytes ≡ said ++ content

just_counted : (form : LengthForm) → ReadsJust (counted_bytes form) (IsLengthAnd form)
just_counted form =
    just_then_as (a_length form) some_bytes (IsLength form) (λ n s b. (b ≡ s) × (length b ≡ n))
    (IsLengthAnd form) (just_length form) (λ n. just_bytes n)
    (λ n s front rest p q.
    let count : n ≡ length s = sym q.1 ∙ ap length q.0 in
    record {
      said = front;
      size = p.size;
      says = p.says ∙ count;
      positive = ap (is_negative form) (sym count) ∙ p.positive;
      joined = ap (λ c. front ++ c) q.0;
    })
    (λ s b h. record {
      part = length s;
      front = h.said;
      rest = s;
      joined = h.joined;
      first = record { size = h.size; says = h.says; positive = h.positive };
      next = (refl, refl);
    })

-- what follows the type byte of one value
abbrev pub BodyIs : TextKind → Body → ScalarShape → List ℕ → Type 0
BodyIs kind (Fixed n) (bytes_of k s) b = (k ≡ kind) × (b ≡ s) × (length b ≡ n)
BodyIs kind (Counted form) (bytes_of k s) b = (k ≡ kind) × IsLengthAnd form s b
BodyIs kind Named (named_by id) b = Spells id b
BodyIs kind Qualified (qualified_by letter id) b = (spelling : List ℕ) × Spells id spelling
    × (b ≡ letter ∷ spelling)
BodyIs _ _ _ b = ⊥

abbrev pub ScalarIs : TextKind → ScalarShape → List ℕ → Type 0
ScalarIs kind scalar b = BodyIs kind (body_of kind) scalar b

pub just_body : (kind : TextKind) (body : Body) → ReadsJust (body_at kind body) (BodyIs kind body)
just_body kind (Fixed n) =
    just_seen_as (bytes_of kind) (λ fault. fault) (some_bytes n) (λ s b. (b ≡ s) × (length b ≡ n))
    (BodyIs kind (Fixed n)) (just_bytes n) (λ s b h. (refl, h.0, h.1)) back
  where
    back : (y : ScalarShape) (b : List ℕ) → BodyIs kind (Fixed n) y b → (s : List ℕ)
        × ((b ≡ s) × (length b ≡ n)) × (bytes_of kind s ≡ y)
    back (bytes_of k s) b h = (s, (h.1, h.2), ap (λ j. bytes_of j s) (sym h.0))
    back (named_by id) b h = absurd h
    back (qualified_by letter id) b h = absurd h
just_body kind (Counted form) =
    just_seen_as (bytes_of kind) (λ fault. fault) (counted_bytes form) (IsLengthAnd form)
    (BodyIs kind (Counted form)) (just_counted form) (λ s b h. (refl, h)) back
  where
    back : (y : ScalarShape) (b : List ℕ) → BodyIs kind (Counted form) y b → (s : List ℕ)
        × IsLengthAnd form s b × (bytes_of kind s ≡ y)
    back (bytes_of k s) b h = (s, h.1, ap (λ j. bytes_of j s) (sym h.0))
    back (named_by id) b h = absurd h
    back (qualified_by letter id) b h = absurd h
just_body kind Named =
    just_seen_as named_by (λ fault. fault) an_integer Spells (BodyIs kind Named) just_integer
    (λ n b h. h) back
  where
    back : (y : ScalarShape) (b : List ℕ) → BodyIs kind Named y b → (n : ℕ) × Spells n b
        × (named_by n ≡ y)
    back (named_by id) b h = (id, h, refl)
    back (bytes_of k s) b h = absurd h
    back (qualified_by letter id) b h = absurd h
just_body kind Qualified =
    just_then_as a_byte (λ letter bytes. seen (qualified_by letter) (λ fault. fault)
    (an_integer bytes)) (λ x b. b ≡ x ∷ []) LetterIs (BodyIs kind Qualified) just_byte
    (λ letter. just_seen_as (qualified_by letter) (λ fault. fault) an_integer Spells
    (LetterIs letter) just_integer (λ n b h. (refl, h)) (back letter))
    there joined
  where
    LetterIs : ℕ → ScalarShape → List ℕ → Type 0
    LetterIs letter (qualified_by l id) b = (l ≡ letter) × Spells id b
    LetterIs letter (bytes_of k s) b = ⊥
    LetterIs letter (named_by id) b = ⊥

    back : (letter : ℕ) (y : ScalarShape) (b : List ℕ) → LetterIs letter y b → (n : ℕ) × Spells n b
        × (qualified_by letter n ≡ y)
    back letter (qualified_by l id) b h = (id, h.1, ap (λ m. qualified_by m id) (sym h.0))
    back letter (bytes_of k s) b h = absurd h
    back letter (named_by id) b h = absurd h

    there : (x : ℕ) (y : ScalarShape) (front rest : List ℕ) → front ≡ x ∷ [] → LetterIs x y rest
        → BodyIs kind Qualified y (front ++ rest)
    there x (qualified_by l id) front rest e h =
        (rest, h.1, ap (λ c. c ++ rest) e ∙ ap (λ m. m ∷ rest) (sym h.0))
    there x (bytes_of k s) front rest e h = absurd h
    there x (named_by id) front rest e h = absurd h

    joined : (y : ScalarShape) (b : List ℕ) → BodyIs kind Qualified y b
        → Joined (λ (x : ℕ) b. b ≡ x ∷ []) LetterIs y b
    joined (qualified_by l id) b h = record {
      part = l;
      front = l ∷ [];
      rest = h.0;
      joined = h.2;
      first = refl;
      next = (refl, h.1);
    }
    joined (bytes_of k s) b h = absurd h
    joined (named_by id) b h = absurd h
just_body kind Listed = just_as (refuse faults.OutOfPlace) (λ s b. ⊥) (BodyIs kind Listed)
    (just_refuse faults.OutOfPlace) (λ s b h. absurd h) none
  where
    none : (y : ScalarShape) (b : List ℕ) → BodyIs kind Listed y b → ⊥
    none (bytes_of k s) b h = h
    none (named_by id) b h = h
    none (qualified_by letter id) b h = h
just_body kind Ending = just_as (refuse faults.OutOfPlace) (λ s b. ⊥) (BodyIs kind Ending)
    (just_refuse faults.OutOfPlace) (λ s b h. absurd h) none
  where
    none : (y : ScalarShape) (b : List ℕ) → BodyIs kind Ending y b → ⊥
    none (bytes_of k s) b h = h
    none (named_by id) b h = h
    none (qualified_by letter id) b h = h

pub just_scalar : (kind : TextKind) → ReadsJust (scalar_at kind) (ScalarIs kind)
just_scalar kind = just_body kind (body_of kind)

-- what begins with a type byte, by the kind of record that the byte begins
module _ {A : Type 0} (next : Option RecordKind → Reader A RecordFault)
    (P : Option RecordKind → A → List ℕ → Type 0) where
  pub record Typed (a : A) (bytes : List ℕ) : Type 0 where
    pub byte : ℕ
    pub rest : List ℕ
    pub joined : bytes ≡ byte ∷ rest
    pub behind : P (record_kind byte) a rest

  pub just_typed : ((kind : Option RecordKind) → ReadsJust (next kind) (P kind))
      → ReadsJust (a_byte >>= λ byte. next (record_kind byte)) Typed
  just_typed just =
      just_then_as a_byte (λ byte. next (record_kind byte)) (λ x b. b ≡ x ∷ [])
      (λ byte. P (record_kind byte)) Typed just_byte (λ byte. just (record_kind byte))
      (λ x a front rest e h. record {
        byte = x;
        rest = rest;
        joined = ap (λ c. c ++ rest) e;
        behind = h;
      })
      (λ a b h. record {
        part = h.byte;
        front = h.byte ∷ [];
        rest = h.rest;
        joined = h.joined;
        first = refl;
        next = h.behind;
      })

-- one thing of a list, or its end
abbrev pub TurnIs : Bool → Option RecordKind → Turn ScalarShape Bool → List ℕ → Type 0
TurnIs may_close (Some (records.Text texts.EndList false)) turn b = (turn ≡ stop false) × (b ≡ [])
TurnIs may_close (Some (records.Text texts.EndList true)) turn b = (may_close ≡ true)
    × (turn ≡ stop true) × (b ≡ [])
TurnIs may_close (Some (records.Text kind false)) turn b = (scalar : ScalarShape)
    × ScalarIs kind scalar b × (more scalar ≡ turn)
TurnIs may_close _ turn b = ⊥

just_turn_of : (may_close : Bool) (kind : Option RecordKind) → ReadsJust (turn_of may_close kind)
    (TurnIs may_close kind)
just_turn_of may_close None = just_refuse faults.UnknownNode
just_turn_of may_close (Some (records.Text texts.EndList false)) = just_given (stop false)
just_turn_of true (Some (records.Text texts.EndList true)) =
    just_as (turn_of true (Some (records.Text texts.EndList true)))
    (λ turn b. (turn ≡ stop true) × (b ≡ [])) (TurnIs true (Some (records.Text texts.EndList true)))
    (just_given (stop true))
    (λ turn b h. (refl, h.0, h.1)) (λ turn b h. (h.1, h.2))
just_turn_of false (Some (records.Text texts.EndList true)) =
    just_as (turn_of false (Some (records.Text texts.EndList true))) (λ turn b. ⊥)
    (TurnIs false (Some (records.Text texts.EndList true))) (just_refuse faults.OutOfPlace)
    (λ turn b h. absurd h) (λ turn b h. cc h.0)
just_turn_of may_close (Some (records.Text kind false)) = just_seen more (λ fault. fault)
    (scalar_at kind) (ScalarIs kind) (just_scalar kind)
just_turn_of may_close (Some _) = just_refuse faults.OutOfPlace

-- with its type byte
abbrev pub IsTurn : Bool → Turn ScalarShape Bool → List ℕ → Type 0
IsTurn may_close = Typed (turn_of may_close) (TurnIs may_close)

pub just_turn : (may_close : Bool) → ReadsJust (list_turn may_close) (IsTurn may_close)
just_turn may_close = just_typed (turn_of may_close) (TurnIs may_close) (just_turn_of may_close)

-- all of a list behind its type byte
abbrev pub ListIs : Bool → Many ScalarShape Bool → List ℕ → Type 0
ListIs may_close list b = AreMany (IsTurn may_close) list.items list.last b

pub just_list : (may_close : Bool) → ReadsJust (list_at may_close) (ListIs may_close)
just_list may_close = just_many (list_turn may_close) (reads_list_turn may_close)
    (then_begun a_byte _ [] refl) (IsTurn may_close) (just_turn may_close)
