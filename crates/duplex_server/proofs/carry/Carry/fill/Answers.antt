use Rattle.std.proofs.Common.{◌≡◌, ℕ, true, false, List, [], ◌++◌, length, ◌==◌, sym, refl, ap, ◌∙◌}
use Rattle.std.proofs.Common.{append-nil, arith}
use Rattle.stream_loop.proofs.Writing.{counted_none, known_told}
use Rattle.stream_loop.specs.Edges.{Input, input_at}
use Rattle.duplex_server.proofs.carry.Carry.fill.Goals as goal

-- nothing is taken where some bytes are carried
pub returns-then-not-is_empty : goal.returns-then-not-is_empty
returns-then-not-is_empty g c =
    let i : Input = input_at g.S.Source.left g.S.Source.taken g.S.Source.faults
    g.S.Source.empty_takes c.args.source.now in
    record {
      taken = [];
      joined = sym (append-nil c.args.self.now);
      kept = λ some. (refl, refl, refl);
      some = (λ e. cc, λ none. never none);
      moved = known_told (λ l l'. l ≡ [] ++ l') i.left i.left (λ l e. (l, e, refl));
      took = known_told (λ (t t' : List ℕ). t' ≡ t ++ []) i.taken i.taken
          (λ t e. (t, e, sym (append-nil t)));
      over = λ e. cc;
      counted = counted_none _ _ _ refl (λ e. cc);
      empty = record { once = λ e. cc; same = λ e. refl; grows = omega arith };
    } where
      never : {A : Type 0} → c.args.self.now ≡ [] → A
      never none =
          let bytes : c.bytes.result.now ≡ [] = c.bytes.ensures.held ∙ c.self.view_is ∙ none in
          let empty : false ≡ true = c.if-not-is_empty.ensures
          ∙ ap (λ (l : List ℕ). length l == 0) bytes in cc
