-- What a refused put has written.
use Rattle.std.proofs.Common.{◌≡◌, ℕ, ◌+◌, List, ◌++◌, take, drop, OnErr, Some, None, Ok, Err}
use Rattle.std.proofs.Common.{Option, Result, IsErrOf, sym, refl, ap, ◌∙◌, append_assoc, append-nil}
use Rattle.std.{proofs.Math.Seq.take-add, specs.Io.KnownBytes.Appends}
use Rattle.io_edges.specs.declared.SinkFault.{SinkFault, TheVariants.Failed, TheVariants.Memory}
use Rattle.io_edges.specs.Flow.{GrowsByPrefix}

-- a sink that keeps the front of the piece where it fails, and nothing where it wants memory
pub refused_front : (w w' piece : List ℕ) (kept : ℕ) (r : Result (Unit {0}) SinkFault)
    → (IsErrOf r Failed → w' ≡ w ++ take kept piece) → (IsErrOf r Memory → w' ≡ w)
    → OnErr r (GrowsByPrefix w w' piece)
refused_front w w' piece kept (Ok x) failed memory = tt
refused_front w w' piece kept (Err Failed) failed memory = record
    { kept = kept; grown = failed refl }
refused_front w w' piece kept (Err Memory) failed memory = record
    { kept = 0; grown = memory refl ∙ sym (append-nil w) }

-- the front of the piece, and then the front of what is left of it
pub appends_further : (first mid last : Option (List ℕ)) (piece : List ℕ) (at n : ℕ)
    → Appends first mid (take at piece) → Appends mid last (take n (drop at piece))
    → Appends first last (take (at + n) piece)
appends_further None mid last piece at n before now = tt
appends_further (Some xs) None last piece at n before now = absurd before
appends_further (Some xs) (Some ys) None piece at n before now = absurd now
appends_further (Some xs) (Some ys) (Some zs) piece at n before now = now ∙
    ap (λ w. w ++ take n (drop at piece)) before ∙ append_assoc xs (take at piece)
    (take n (drop at piece)) ∙ ap (λ t. xs ++ t) (sym (take-add at n piece))
