-- What a stream that is followed leaves of the counts of faults, and that some events were handled.
use Rattle.std.proofs.Common.{◌≡◌, ℕ, List, ◌++◌, Some, Ok, refl, inl, inr}
use Rattle.io_edges.{proofs.Putting.Puts-then, specs.Faults.CountsFaults}
use Rattle.unit_streams.specs.{Grammar.Grammar, Judging.events_of, Tellers.Teller}
use Rattle.stream_loop.specs.declared.{following.FollowEnding.FollowEnding}
use Rattle.stream_loop.specs.declared.{outbound.Outbound.Outbound}
use Rattle.stream_loop.{proofs.Writing.told_some, specs.Edges.Input, specs.Followed.Follows}
use Rattle.stream_loop.specs.Writing.{Ends, Wrote}
use Rattle.io_edges.specs.Views.{SinkView}
use Rattle.io_edges.specs.Puts.{Puts}
use Rattle.stream_loop.specs.declared.following.FollowEnding.TheVariants as endings
use Rattle.stream_loop.specs.declared.outbound.Outbound.TheVariants as outbounds

-- some events were handled, however that ends
pub handled_some : {Z U E R : Type 0} (g : Grammar Z U E R) (Handled : List E → Type 0)
    (i i' : Input)
    (ending : FollowEnding R) → Follows g Handled i i' ending → (events : List E) × Handled events
handled_some g Handled i i' (endings.Judged judged) h = (h.events, h.handled)
handled_some g Handled i i' endings.ReadFault h = (events_of g h.bytes, h.handled)
handled_some g Handled i i' endings.Memory h = (h.events, h.handled)

-- what was taken stays told
pub took_some : {Z U E R : Type 0} (g : Grammar Z U E R) (Handled : List E → Type 0) (i i' : Input)
    (ending : FollowEnding R) → Follows g Handled i i' ending → (t : List ℕ) → i.taken ≡ Some t
    → (t' : List ℕ) × (i'.taken ≡ Some t')
took_some g Handled i i' (endings.Judged judged) h t is =
    let k = told_some (λ t t'. t' ≡ t ++ h.bytes) i.taken i'.taken t is h.took in (k.0, k.1)
took_some g Handled i i' endings.ReadFault h t is =
    let k = told_some (λ t t'. t' ≡ t ++ h.bytes) i.taken i'.taken t is h.took in (k.0, k.1)
took_some g Handled i i' endings.Memory h t is =
    let k = told_some (λ t t'. t' ≡ t ++ h.before ++ h.piece) i.taken i'.taken t is h.took in
    (k.0, k.1)

-- counts of calls that failed so where others failed
pub counts_as : (f f' : ℕ) (A B : Type 0) → (A → B) → (B → A) → CountsFaults f f' A
    → CountsFaults f f'
    B
counts_as f f' A B to back h = record {
  rose = λ b. h.rose (back b);
  same = λ never. h.same (λ a. never (to a));
  grows = h.grows;
}

abbrev Counts : Outbound → SinkView → SinkView → Type 0
Counts o old new = CountsFaults old.faults new.faults (o ≡ outbounds.WriteFault)

pub ends_counted : (o : Outbound) (before bytes : List ℕ) (first mid now : SinkView)
    → Puts first mid before (Ok tt)
    → Ends o mid now bytes → Counts o first now
ends_counted outbounds.Done before bytes first mid now puts ends = absurd ends
ends_counted outbounds.WriteFault before bytes first mid now puts ends =
    counts_as _ _ _ _ (λ e. refl) (λ e. refl) (Puts-then _ puts ends).counted
ends_counted outbounds.Memory before bytes first mid now puts (inl ends) =
    counts_as _ _ _ _ (λ e. cc) (λ e. cc) (Puts-then _ puts ends).counted
ends_counted outbounds.Memory before bytes first mid now puts (inr ends) =
    counts_as _ _ _ _ (λ e. cc) (λ e. cc) (Puts-then _ puts ends.0).counted

pub writes_counted : {S E R : Type 0} (t : Teller S E R) (o : Outbound) (closing : List ℕ)
    (first : SinkView) (events : List E) (Left : S → Type 0) (now : SinkView)
    → Wrote t o closing first events Left now
    → CountsFaults first.faults now.faults (o ≡ outbounds.WriteFault)
writes_counted t outbounds.Done closing first events Left now h =
    counts_as _ _ _ _ (λ e. cc) (λ e. cc) h.puts.counted
writes_counted t outbounds.WriteFault closing first events Left now h =
    h.counted
writes_counted t outbounds.Memory closing first events Left now h =
    h.counted
