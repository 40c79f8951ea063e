-- A small grammar, and what it says of a few streams, by computation alone.
use Rattle.std.proofs.Common.{◌≡◌, ℕ, ◌+◌, List, [], ◌∷◌, ◌++◌, length, take, Bool, true, false}
use Rattle.std.proofs.Common.{Option, Some, None, refl}
use Rattle.std.specs.Prelude.{nat_lt, nat_le, ◌==◌, not, ◌&&◌, ◌||◌, if◌then◌else◌}
use Rattle.unit_streams.specs.Front.{Front, begun, whole, wrong}
use Rattle.unit_streams.specs.Grammar.{Grammar, peeled, peel, standing}
use Rattle.unit_streams.specs.Judging.{event_at, refusal_at, ending_at, history_from, history}
use Rattle.unit_streams.specs.Judging.{events_in, events_of, goes_on, completes, offends}
use Rattle.unit_streams.specs.Judging.{answer_from, answer}
use Rattle.unit_streams.specs.Tellers.{Teller, report, told_so_far, told_along, state_behind}

data Why : Type 0 where
  too_long : Why
  all_zero : Why
  too_many : Why
  cut_off : Why

-- a refusal and its place
record Refusal : Type 0 where
  pub place : ℕ
  pub why : Why

abbrev at : ℕ → Why → Refusal
at place why = record { place = place; why = why }

-- Texts of at most nine bytes behind their length, until one is empty.
abbrev letters_at : ℕ → List ℕ → Front (List ℕ) Refusal
letters_at from [] = begun
letters_at from (n ∷ bytes) = if nat_lt 9 n then wrong (at from too_long) 1 else if nat_lt
    (length bytes) n then begun else whole (take n bytes) (n + 1)

abbrev unit_at : Bool → ℕ → List ℕ → Front (List ℕ) Refusal
unit_at false from bytes = letters_at from bytes
unit_at true from bytes = begun

-- One that is the byte 0 alone is refused, and so is a stream of ten bytes that hasn't ended.
abbrev texts : Grammar Bool (List ℕ) (List ℕ) Refusal
texts = record {
  start = false;
  unit_at = unit_at;
  after = λ over from text. length text == 0;
  refused = refused;
  completed = λ over from to text. Some text;
  is_over = λ over. over;
  at_length = λ over from n. if nat_le 10 n && not over then Some (at from too_many) else None;
  at_end = λ over from n. if over then None else Some (at from cut_off);
} where
  refused : Bool → ℕ → List ℕ → Option Refusal
  refused over from (byte ∷ []) = if byte == 0 then Some (at from all_zero) else None
  refused over from _ = None

-- two texts and the end, with something behind it
ends : history texts (2 ∷ 7 ∷ 8 ∷ 1 ∷ 5 ∷ 0 ∷ 99 ∷ [])
    ≡ record { events = (7 ∷ 8 ∷ []) ∷ (5 ∷ []) ∷ [] ∷ []; offence = None }
unfolding history history_from event_at refusal_at ending_at standing peel peeled
ends = refl

-- a length above nine, at its byte
length_refused : history texts (1 ∷ 5 ∷ 10 ∷ [])
    ≡ record { events = (5 ∷ []) ∷ []; offence = Some (at 2 too_long) }
unfolding history history_from event_at refusal_at ending_at standing peel peeled
length_refused = refl

-- the byte 0 alone, whose event goes before its refusal
zero_refused : history texts (1 ∷ 0 ∷ 0 ∷ [])
    ≡ record { events = (0 ∷ []) ∷ []; offence = Some (at 0 all_zero) }
unfolding history history_from event_at refusal_at ending_at standing peel peeled
zero_refused = refl

-- ten bytes, where a text is begun
too_many_bytes : history texts (3 ∷ 1 ∷ 2 ∷ 3 ∷ 9 ∷ 1 ∷ 2 ∷ 3 ∷ 4 ∷ 5 ∷ 6 ∷ [])
    ≡ record { events = (1 ∷ 2 ∷ 3 ∷ []) ∷ []; offence = Some (at 4 too_many) }
unfolding history history_from event_at refusal_at ending_at standing peel peeled
too_many_bytes = refl

-- the end of the input within a text, and before any
cut_in_text : history texts (3 ∷ 1 ∷ 2 ∷ []) ≡ record { events = []; offence = Some (at 0 cut_off) }
unfolding history history_from event_at refusal_at ending_at standing peel peeled
cut_in_text = refl

nothing_at_all : history texts [] ≡ record { events = []; offence = Some (at 0 cut_off) }
unfolding history history_from event_at refusal_at ending_at standing peel peeled
nothing_at_all = refl

-- where the input may end between texts: behind one, and not within one that is begun
abbrev between_texts : Grammar Bool (List ℕ) (List ℕ) Refusal
between_texts = record texts {
  at_end = λ over from n. if over || (from == n) then None else Some
      (at from cut_off);
}

ends_between : history between_texts (1 ∷ 5 ∷ [])
    ≡ record { events = (5 ∷ []) ∷ []; offence = None }
unfolding history history_from event_at refusal_at ending_at standing peel peeled
ends_between = refl

cut_in_begun : history between_texts (1 ∷ 5 ∷ 2 ∷ [])
    ≡ record { events = (5 ∷ []) ∷ []; offence = Some (at 2 cut_off) }
unfolding history history_from event_at refusal_at ending_at standing peel peeled
cut_in_begun = refl

-- an event that tells the offset behind its unit
abbrev ends_told : Grammar Bool (List ℕ) ℕ Refusal
ends_told = record {
  start = false;
  unit_at = unit_at;
  after = λ over from text. length text == 0;
  refused = λ over from text. None;
  completed = λ over from to text. Some to;
  is_over = λ over. over;
  at_length = λ over from n. None;
  at_end = λ over from n. None;
}

offsets : history ends_told (2 ∷ 7 ∷ 8 ∷ 1 ∷ 5 ∷ 0 ∷ 99 ∷ [])
    ≡ record { events = 3 ∷ 5 ∷ 6 ∷ []; offence = None }
unfolding history history_from event_at refusal_at ending_at standing peel peeled
offsets = refl

-- pieces: an event at the byte that completes it, a piece that decides nothing, a refusal at its
-- byte
piece_completes : answer texts (2 ∷ 7 ∷ []) (8 ∷ 1 ∷ 5 ∷ []) ≡ completes 1 (7 ∷ 8 ∷ [])
unfolding answer answer_from event_at refusal_at standing peel peeled
piece_completes = refl

piece_goes_on : answer texts (2 ∷ 7 ∷ 8 ∷ []) (3 ∷ 5 ∷ 6 ∷ []) ≡ goes_on
unfolding answer answer_from event_at refusal_at standing peel peeled
piece_goes_on = refl

piece_offends : answer texts (2 ∷ 7 ∷ 8 ∷ []) (77 ∷ 5 ∷ 6 ∷ []) ≡ offends 1 (at 3 too_long)
unfolding answer answer_from event_at refusal_at standing peel peeled
piece_offends = refl

-- what an event was answered before is refused by the next piece, the empty one too
empty_offends : answer texts (1 ∷ 0 ∷ []) [] ≡ offends 0 (at 0 all_zero)
unfolding answer answer_from event_at refusal_at standing peel peeled
empty_offends = refl

-- Each text behind its number, and at last how many there were, behind why the stream is refused.
abbrev numbers : Teller ℕ (List ℕ) Refusal
numbers = record {
  start = 0;
  told = λ n text. n ∷ text;
  next = λ n text. n + 1;
  ends = λ n offence. ending offence ++ n ∷ [];
} where
  ending : Option Refusal → List ℕ
  ending None = []
  ending (Some r) = 200 ∷ r.place ∷ []

-- what is told of a stream that ends, of one that is refused and of one that is cut off
whole_report : report texts numbers (2 ∷ 7 ∷ 8 ∷ 1 ∷ 5 ∷ 0 ∷ 99 ∷ []) ≡ 0 ∷ 7 ∷ 8 ∷ 1 ∷ 5 ∷ 2 ∷ 3
    ∷ []
unfolding report told_along state_behind history history_from event_at refusal_at ending_at standing
    peel peeled
whole_report = refl

refused_report : report texts numbers (1 ∷ 5 ∷ 10 ∷ []) ≡ 0 ∷ 5 ∷ 200 ∷ 2 ∷ 1 ∷ []
unfolding report told_along state_behind history history_from event_at refusal_at ending_at standing
    peel peeled
refused_report = refl

cut_report : report texts numbers (1 ∷ 5 ∷ 3 ∷ 1 ∷ []) ≡ 0 ∷ 5 ∷ 200 ∷ 2 ∷ 1 ∷ []
unfolding report told_along state_behind history history_from event_at refusal_at ending_at standing
    peel peeled
cut_report = refl

-- what is told of the bytes so far
so_far : told_so_far texts numbers (1 ∷ 5 ∷ 3 ∷ 1 ∷ []) ≡ 0 ∷ 5 ∷ []
unfolding told_so_far told_along events_of events_in event_at standing peel peeled
so_far = refl
