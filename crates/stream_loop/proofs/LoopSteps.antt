-- What is known before the first piece of a stream, and where nothing is written.
use Rattle.std.proofs.Common.{ℕ, Bool, List, [], Some, None, Option, sym, refl, ap, ◌∙◌}
use Rattle.std.proofs.Common.{inr, append-nil}
use Rattle.std.proofs.Math.Seq.{take-nil}
use Rattle.unit_streams.proofs.Pending.{open_first}
use Rattle.unit_streams.specs.{Going.IsPending, Grammar.Grammar, Judging.refusal_at}
use Rattle.unit_streams.specs.Tellers.{Teller}
use Rattle.io_edges.specs.Flow.{Told}
use Rattle.stream_loop.specs.{Answers.EndsWithin, Reported.Writes}

-- a stream of which nothing is read may still go on
pub first_pending : {Z U E R : Type 0} (g : Grammar Z U E R) (ends : E → Bool) (most : ℕ)
    → EndsWithin g ends most → IsPending g []
first_pending g ends most c = record {
  unrefused = λ n. ap (refusal_at g) (take-nil n) ∙ c.first;
  going_on = (open_first g c.closes.readable ends c.closes.tells).going_on;
}

-- nothing is written
pub writes_none : {Z U E R S : Type 0} (g : Grammar Z U E R) (t : Teller S E R) (held : List ℕ)
    (w : Option (List ℕ)) → Told w w (Writes g t held [])
writes_none g t held None = tt
writes_none g t held (Some w) = inr (refl, record { kept = 0; grown = sym (append-nil w) })
