-- What is owed for the bytes of a connection that carries one session behind the other.
use Rattle.std.specs.Prelude.{ℕ, zero, suc, List, [], ◌∷◌, ◌++◌, if◌then◌else◌, Some, None, Option}
use Rattle.unit_streams.specs.{Grammar.Grammar, Judging.is_over_at, Judging.refusal_at}
use Rattle.stream_reader.specs.Stream.{stream}
use Rattle.duplex_server.specs.ServerStream.{Answering, owed, requests_to}

-- refused, or else the other
abbrev pub unless_refused : {R : Type 0} → Option R → Option (List ℕ) → Option (List ℕ)
unless_refused (Some refusal) rest = None
unless_refused None rest = rest

module _ {Z U E R : Type 0} (g : Grammar Z U E R) where
  -- what follows the shortest prefix with which the stream ends, as y goes on behind the prefix p;
  -- nothing does where the stream is refused before
  unfoldable pub behind_end : List ℕ → List ℕ → Option (List ℕ)
  behind_end p [] = unless_refused (refusal_at g p) (if is_over_at g p then Some [] else None)
  behind_end p (b ∷ y) = unless_refused (refusal_at g p)
      (if is_over_at g p then Some (b ∷ y) else behind_end (p ++ b ∷ []) y)

-- by what follows, where something does
abbrev pub on_rest : Option (List ℕ) → (List ℕ → List ℕ) → List ℕ
on_rest None owed = []
on_rest (Some rest) owed = owed rest

-- for at most so many sessions, each with strings of its own: what is owed for the first one, and
-- where it ends with an End record, what is owed for those that follow it
unfoldable pub owed_turns : Answering → Option (List ℕ) → ℕ → List ℕ → List ℕ
owed_turns x endpoint zero bytes = []
owed_turns x endpoint (suc most) [] = []
owed_turns x endpoint (suc most) (b ∷ bytes) = owed x endpoint (b ∷ bytes)
    ++ on_rest (behind_end (stream (requests_to x endpoint)) [] (b ∷ bytes))
    (owed_turns x endpoint most)
