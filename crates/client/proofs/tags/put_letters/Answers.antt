use Rattle.std.proofs.Common.{ℕ, ◌≡◌, ◌+◌, ◌<◌, List, [], ◌∷◌, ◌++◌, Ok, drop, Err, get_or, length, take}
use Rattle.std.proofs.Common.{sym, ap, ◌∙◌, subst, take-append-drop, take_all}
use Rattle.std.proofs.lemmas.{List.map-append, List.take_more, Result.err_from_is_err_and}
use Rattle.io_edges.{proofs.Putting.Puts-cut, proofs.Putting.Puts-then, specs.Puts.Puts}
use Rattle.two_lanes.specs.declared.jobs.Lane.{Lane}
use Rattle.client.specs.Tags.{letter_of, letters}
use Rattle.client.proofs.tags.put_letters.Goals as goal

letters_more : (tags : List Lane) (i : ℕ) (d : Lane) → i < length tags
    → letters (take i tags) ++ letter_of (get_or tags i d) ∷ [] ≡ letters (take (i + 1) tags)
letters_more tags i d below =
    sym (map-append letter_of (take i tags) (get_or tags i d ∷ []))
    ∙ ap letters (sym (take_more tags i d below))

letters_cut : (tags : List Lane) (i : ℕ) (d : Lane) → i < length tags
    → letters tags ≡ (letters (take i tags) ++ letter_of (get_or tags i d) ∷ [])
    ++ letters (drop (i + 1) tags)
letters_cut tags i d below =
    ap letters (sym (take-append-drop (i + 1) tags))
    ∙ map-append letter_of (take (i + 1) tags) (drop (i + 1) tags)
    ∙ ap (λ l. l ++ letters (drop (i + 1) tags)) (sym (letters_more tags i d below))

pub returns-in_err-put_joined : goal.returns-in_err-put_joined
returns-in_err-put_joined g c =
    let r = err_from_is_err_and c.from_residual.result c.from_residual.ensures.1 in
    let i = c.loop-lane.lane-index in
    let letter = rw c.letter_number.ensures.letter at c.in_err-put_joined.ensures in
    let put = Puts-cut (letters (drop (i + 1) c.args.tags.now))
    (Puts-then _ c.loop-lane.invariant letter) in
    rw (r.1, r.2) (subst (λ (l : List ℕ). Puts (g.K.Sink.view c.args.output.now)
    (g.K.Sink.view c.put_joined.new.sink) l (Err c.in_err-put_joined.field-0.0))
    (sym (letters_cut c.args.tags.now i _ c.loop-lane-test.true)) put)

pub loop-lane-preserved : goal.loop-lane-preserved
loop-lane-preserved g c =
    subst (λ (l : List ℕ). Puts (g.K.Sink.view c.args.output.now)
    (g.K.Sink.view c.put_joined.new.sink) l (Ok tt))
    (letters_more c.args.tags.now c.loop-lane.lane-index _ c.loop-lane-test.true)
    (Puts-then _ c.loop-lane.invariant
    (rw c.letter_number.ensures.letter at c.in_ok-put_joined.ensures))

pub returns : goal.returns
returns g c = subst (λ (t : List Lane). Puts (g.K.Sink.view c.args.output.now)
    (g.K.Sink.view c.loop-lane.output) (letters t) (Ok tt))
    (take_all c.loop-lane.lane-index c.args.tags.now c.loop-lane-test.false) c.loop-lane.invariant
