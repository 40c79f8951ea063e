-- A receiver's stream has no text before its Fault.
use Rattle.std.proofs.Common.{◌≡◌, ℕ, true, false, not, List, [], sym, ap, subst}
use Rattle.unit_streams.specs.{Grammar.standing, Judging.is_over_at}
use Rattle.nmf_records.specs.declared.script.Direction.{Direction, TheVariants.FromReceiver}
use Rattle.stream_reader.proofs.Texts.{early, IsEarly}
use Rattle.stream_reader.specs.Stream.{direction_of, Settings, stream}

pub no_text : (x : Settings) (p : List ℕ) → direction_of x.side ≡ FromReceiver
    → is_over_at (stream x) p ≡ false → (standing (stream x) p).situation.text ≡ []
unfolding is_over_at
no_text x p side going =
    let here : IsEarly FromReceiver (standing (stream x) p).situation
    = subst (λ (d : Direction). IsEarly d (standing (stream x) p).situation) side (early x p)
    in here.text (ap not going)
