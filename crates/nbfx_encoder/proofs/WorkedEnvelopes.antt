-- Worked envelopes, alone and in a session, computed by the definitions.
use Rattle.std.proofs.Common.{◌≡◌, ℕ, List, [], ◌∷◌, ◌++◌, map, Ok, Err, codes, Result, refl}
use Rattle.{std.specs.List.repeat, nbfx_values.specs.Limits.Limits, nbfx_values.specs.Limits.limits}
use Rattle.nbfx_values.specs.declared.{content.Item.Item, scalars.Scalar.TheVariants.QName}
use Rattle.nbfx_values.specs.declared.session.{Kind.TheVariants.Session, Mode.Mode}
use Rattle.nbfx_values.specs.declared.session.Mode.TheVariants.{Duplex, Simplex, Singleton}
use Rattle.nbfx_encoder.specs.declared.sender.{SendState.SendState, Side.Side}
use Rattle.nbfx_encoder.specs.declared.sender.SendState.TheVariants.{Ready, Spent}
use Rattle.nbfx_encoder.specs.declared.sender.Side.TheVariants.{Initiator, Receiver}
use Rattle.nbfx_encoder.specs.Envelopes.{envelope, envelopes_from, UnfitAt}
use Rattle.nbfx_encoder.specs.{Placing.Placed, Sending.behind_message, Sending.first_state}
use Rattle.nbfx_encoder.specs.Spelling.{too_much, unnamed}
use Rattle.nbfx_encoder.proofs.OnLiterals.{table_of, text, writing_on_literals, x}

-- a mode, a payload, and its envelope: sized, or one chunk, with a size of one byte and of two
abbrev Row : Type 0
Row = Mode × List ℕ × List ℕ

abbrev AreEnvelopes : List Row → Type 0
AreEnvelopes rows = map (λ (r : Row). envelope r.0 r.1) rows ≡ map (λ (r : Row). r.2) rows

envelopes : AreEnvelopes (
    (Duplex, 0x40 ∷ 0x01 ∷ 0x78 ∷ 0x01 ∷ [], 0x06 ∷ 0x04 ∷ 0x40 ∷ 0x01 ∷ 0x78 ∷ 0x01 ∷ [])
    ∷ (Simplex, 0x40 ∷ 0x01 ∷ 0x78 ∷ 0x01 ∷ [], 0x06 ∷ 0x04 ∷ 0x40 ∷ 0x01 ∷ 0x78 ∷ 0x01 ∷ [])
    ∷ (
      Singleton,
      0x40 ∷ 0x01 ∷ 0x78 ∷ 0x01 ∷ [],
      0x05 ∷ 0x04 ∷ 0x40 ∷ 0x01 ∷ 0x78 ∷ 0x01 ∷ 0x00 ∷ [],
    )
    ∷ (Duplex, repeat 128 (0x79 ∷ []), 0x06 ∷ 0x80 ∷ 0x01 ∷ repeat 128 (0x79 ∷ []))
    ∷ (
      Singleton,
      repeat 128 (0x79 ∷ []),
      0x05 ∷ 0x80 ∷ 0x01 ∷ (repeat 128 (0x79 ∷ []) ++ 0x00 ∷ []),
    )
    ∷ [])
unfolding writing_on_literals
envelopes = refl

-- the usual limits on a small scale
abbrev quotas : Limits
quotas = limits 64 2 2 64 2048 4096

-- the documents of a session under encoding 8, what is sent of them, and the strings after them
abbrev Sent : Type 0
Sent = Mode × List (List Item) × List ℕ × List (List ℕ)

abbrev AreSent : List Sent → Type 0
AreSent rows =
    map (λ (r : Sent). envelopes_from quotas Session r.0 (table_of []) 0 r.1) rows
    ≡ map (λ (r : Sent). Ok (r.2, table_of r.3)) rows

sent : AreSent (
    (Duplex, [], [], [])
    ∷ (
      Duplex,
      x [] ∷ x (x []) ∷ [],
      0x06 ∷ 0x06 ∷ 0x02 ∷ 0x01 ∷ 0x78 ∷ 0x42 ∷ 0x01 ∷ 0x01
          ∷ 0x06 ∷ 0x07 ∷ 0x00 ∷ 0x42 ∷ 0x01 ∷ 0x42 ∷ 0x01 ∷ 0x01 ∷ 0x01 ∷ [],
      codes "x" ∷ [],
    )
    ∷ (
      Singleton,
      x [] ∷ [],
      0x05 ∷ 0x06 ∷ 0x02 ∷ 0x01 ∷ 0x78 ∷ 0x42 ∷ 0x01 ∷ 0x01 ∷ 0x00 ∷ [],
      codes "x" ∷ [],
    )
    ∷ [])
unfolding writing_on_literals
sent = refl

-- documents of which one doesn't fit: a QName's name has room behind one string, and not behind two
abbrev qualified : List ℕ → List Item
qualified name = x (text (QName 0 name) ∷ [])

abbrev Refused : Type 0
Refused = List (List Item) × UnfitAt

abbrev refused : UnfitAt → Result (Placed (List ℕ)) UnfitAt
refused unfit = Err unfit

abbrev AreRefused : List Refused → Type 0
AreRefused rows =
    map (λ (r : Refused). envelopes_from quotas Session Duplex (table_of []) 0 r.0) rows
    ≡ map (λ (r : Refused). refused r.1) rows

unfit : AreRefused ((
  qualified (codes "q") ∷ qualified (codes "r") ∷ [],
  record { number = 1; why = unnamed 1 },
)
    ∷ (
      x [] ∷ x [] ∷ qualified (repeat 64 (0x79 ∷ [])) ∷ [],
      record { number = 2; why = too_much 65 },
    )
    ∷ [])
unfolding writing_on_literals
unfit = refl

-- where a half begins, and where it is behind a message
abbrev First : Type 0
First = Mode × Side × SendState

abbrev AreFirst : List First → Type 0
AreFirst rows = map (λ (r : First). first_state r.0 r.1) rows ≡ map (λ (r : First). r.2) rows

first : AreFirst (
    (Duplex, Initiator, Ready)
    ∷ (Duplex, Receiver, Ready)
    ∷ (Simplex, Initiator, Ready)
    ∷ (Simplex, Receiver, Spent)
    ∷ (Singleton, Initiator, Ready)
    ∷ (Singleton, Receiver, Ready)
    ∷ [])
first = refl

next : map behind_message (Duplex ∷ Simplex ∷ Singleton ∷ []) ≡ Ready ∷ Ready ∷ Spent ∷ []
next = refl
