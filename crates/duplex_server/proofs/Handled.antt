-- What a replier has handled, with one request more.
use Rattle.std.proofs.Common.{◌≡◌, ℕ, List, [], ◌∷◌, ◌++◌, sym, refl, ap, ◌∙◌, subst}
use Rattle.unit_streams.{proofs.Telling.state_append, proofs.Telling.state_one}
use Rattle.unit_streams.specs.Tellers.{state_behind}
use Rattle.stream_loop.specs.declared.outbound.Outbound.{Outbound}
use Rattle.stream_loop.specs.declared.outbound.Outbound.TheVariants.{Done, Memory, WriteFault}
use Rattle.stream_loop.specs.Parts.{Part}
use Rattle.duplex_server.specs.declared.{replier.Replier.Replier, requests.Request.Request}
use Rattle.duplex_server.specs.ServerStream.{Answering, behind, messages_along, messages_behind}
use Rattle.duplex_server.specs.ServerStream.{replies}
use Rattle.duplex_server.specs.ServerStream.{Replying, start}
use Rattle.duplex_server.specs.Replying.{answers_in, HasHandled, IsDue, IsQuiet, StandsAt}
use Rattle.stream_loop.proofs.PartsDue.{due_more, due_quietly}
use Rattle.io_edges.specs.Views.{SinkView}

-- one request more
pub messages_more : (n : ℕ) (requests : List Request) (request : Request)
    → messages_along n (requests ++ request ∷ []) ≡ messages_behind request
    (messages_along n requests)
unfolding messages_along
messages_more n [] request = refl
messages_more n (one ∷ requests) request = messages_more (messages_behind one n) requests request

-- where the writing goes on it went on before
pub going_before : (o o' : Outbound) → ((o ≡ Done → ⊥) → o' ≡ o) → o' ≡ Done → o ≡ Done
going_before Done o' same is = refl
going_before WriteFault o' same is = sym (same (λ e. cc)) ∙ is
going_before Memory o' same is = sym (same (λ e. cc)) ∙ is

module _ (x : Answering) (first : SinkView) {V : Type 0} (requests : List Request)
    (old new : Replier V) (was now : SinkView) (request : Request)
    (h : HasHandled x first requests old was)
    (counts : new.answerer.messages ≡ messages_behind request old.answerer.messages) where
  abbrev s : Replying
  s = state_behind (replies x) (start x.statics) requests

  state_is : behind x s request ≡ state_behind (replies x) (start x.statics) (requests ++ request ∷
      [])
  state_is = sym (state_one (replies x) request s)
      ∙ sym (state_append (replies x) requests (request ∷ []) (start x.statics))

  counted_is : new.answerer.messages ≡ messages_along 0 (requests ++ request ∷ [])
  counted_is = counts ∙ ap (messages_behind request) h.counted
      ∙ sym (messages_more 0 requests request)

  -- for which a part is due
  pub handled_part : (one : Part) → IsDue x s request one
      → StandsAt first (h.parts ++ one ∷ []) (behind x s request)
      new.writer now
      → HasHandled x first (requests ++ request ∷ []) new now
  handled_part one due stands = record {
    counted = counted_is;
    parts = h.parts ++ one ∷ [];
    due = due_more (replies x) answers_in (start x.statics) requests h.parts request one h.due due;
    stands = subst (λ (z : Replying). StandsAt first
        (h.parts ++ one ∷ []) z new.writer now) state_is stands;
  }

  -- the same of what answers alike
  pub handled_part_as : (y : Answering) → y ≡ x → (one : Part) → IsDue x s request one
      → StandsAt first (h.parts ++ one ∷ []) (behind x s request) new.writer now
      → HasHandled y first (requests ++ request ∷ []) new now
  handled_part_as y same one due stands =
      subst (λ (z : Answering). HasHandled z first (requests ++ request ∷ []) new now) (sym same)
      (handled_part one due stands)

  -- or none
  pub handled_quietly : IsQuiet x s request
      → StandsAt first h.parts s new.writer now
      → HasHandled x first (requests ++ request ∷ []) new now
  handled_quietly quiet stands = record {
    counted = counted_is;
    parts = h.parts;
    due = due_quietly (replies x) answers_in (start x.statics) requests h.parts request h.due
        (quiet.0, ap answers_in quiet.1);
    stands = subst (λ (z : Replying). StandsAt first h.parts z
        new.writer now) (sym quiet.1 ∙ state_is) stands;
  }
