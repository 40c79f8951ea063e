-- What is seen at one moment of where a stream comes from, and of a connection's ends.
use Rattle.std.specs.Prelude.{◌≡◌, ℕ, ◌≤◌, ◌↔◌, List, [], ◌++◌, length, IfOk, OnErr}
use Rattle.std.specs.Prelude.{IsErr, Ok, Option, Result}
use Rattle.io_edges.specs.{declared.Failed.Failed, Flow.Told}
use Rattle.io_edges.specs.Faults.{CountsFaults, CountsOne}
use Rattle.io_edges.specs.{Views.SinkView, Wires.Fresh}

-- of where a stream comes from: the bytes to come and those handed out, where these are told, how
-- many calls met a fault, and how many takes gave nothing
pub record Input : Type 0 where
  pub left : Option (List ℕ)
  pub taken : Option (List ℕ)
  pub faults : ℕ
  pub empty_takes : ℕ

-- a source, by what it tells
abbrev pub input_at : {I : Type 0} → (left taken : I → Option (List ℕ))
    → (faults empty_takes : I → ℕ) → I → Input
input_at left taken faults empty_takes input = record {
  left = left input;
  taken = taken input;
  faults = faults input;
  empty_takes = empty_takes input;
}

-- what a take of bytes into an empty buffer leaves of a source, and in the buffer
pub record Fills (i i' : Input) (bytes : List ℕ) (answer : Result ℕ Failed) : Type 0 where
  pub size : IfOk answer (λ n. n ≡ length bytes)
  pub none : OnErr answer (bytes ≡ [])
  pub short : length bytes ≤ 65536
  pub moved : Told i.left i'.left (λ l l'. l ≡ bytes ++ l')
  pub taken : Told i.taken i'.taken (λ t t'. t' ≡ t ++ bytes)
  pub ended : IfOk answer (λ n. Told i.left i'.left (λ l _. (n ≡ 0) ↔ (l ≡ [])))
  pub counted : CountsFaults i.faults i'.faults (IsErr answer)
  pub empty : CountsOne i.empty_takes i'.empty_takes (answer ≡ Ok 0)

-- nothing has moved through the ends of a connection, and they have met no fault; they tell what
-- moves where the wire tells what the ended connections left
pub record AreNew (told : Option (List (List ℕ × List ℕ))) (i : Input) (k : SinkView) : Type 0 where
  pub unread : i.faults ≡ 0
  pub nothing_taken : Fresh told i.taken
  pub unwritten : k.faults ≡ 0
  pub nothing_written : Fresh told k.written
  pub nothing_held : k.held ≡ []
