use Rattle.std.proofs.Common.{◌+◌, ℕ, List, Ok, Err, get_or, sym, refl, ap}
use Rattle.std.proofs.Common.{subst, arith}
use Rattle.std.proofs.Common.{take_all}
use Rattle.std.proofs.lemmas.Result.{err_from_is_err_and}
use Rattle.io_edges.{proofs.Putting.Puts-cut, proofs.Putting.Puts-nothing, proofs.Putting.Puts-then}
use Rattle.io_edges.specs.Puts.{Puts}
use Rattle.stream_loop.proofs.Writing.{after_flush}
use Rattle.session_pool.specs.declared.turns.Turns.{Turns}
use Rattle.session_pool.specs.PoolLines.{pool_line, pool_lines}
use Rattle.session_pool.proofs.PutLines.{lines_more, lines_split}
use Rattle.session_pool.proofs.lines.put_lines.Goals as goal

pub loop-turns-init : goal.loop-turns-init
unfolding pool_lines
loop-turns-init g c = (Puts-nothing _, refl)

pub returns-in_err-put_line-clause-puts : goal.returns-in_err-put_line-clause-puts
returns-in_err-put_line-clause-puts g c =
    let l = c.loop-turns in
    let all : List Turns = c.args.list.now in
    let i : ℕ = l.turns-index in
    let view = g.K.Sink.view in
    let r = err_from_is_err_and c.from_residual.result c.from_residual.ensures.1 in
    rw (r.1, r.2) (subst (λ (b : List ℕ). Puts (view c.args.output.now)
    (view c.put_line.new.output) b (Err c.in_err-put_line.field-0.0))
    (sym (lines_split all i c.turns-item.result c.loop-turns-test.true))
    (Puts-cut _ (Puts-then _ l.invariant.0
    (subst (λ (n : ℕ). Puts (view l.output) (view c.put_line.new.output)
    (pool_line n (get_or all i c.turns-item.result)) (Err c.in_err-put_line.field-0.0))
    l.invariant.1
    (subst (λ (t : Turns). Puts (view l.output) (view c.put_line.new.output)
    (pool_line l.number t) (Err c.in_err-put_line.field-0.0)) c.turns-item.is
    c.in_err-put_line.ensures)))))

pub loop-turns-preserved : goal.loop-turns-preserved
loop-turns-preserved g c =
    let l = c.loop-turns in
    let all : List Turns = c.args.list.now in
    let i : ℕ = l.turns-index in
    let view = g.K.Sink.view in (
      subst (λ (b : List ℕ). Puts (view c.args.output.now) (view c.put_line.new.output) b (Ok tt))
          (sym (lines_more all i c.turns-item.result c.loop-turns-test.true))
          (Puts-then _ l.invariant.0
          (subst (λ (n : ℕ). Puts (view l.output) (view c.put_line.new.output)
          (pool_line n (get_or all i c.turns-item.result)) (Ok tt)) l.invariant.1
          (subst (λ (t : Turns). Puts (view l.output) (view c.put_line.new.output)
          (pool_line l.number t) (Ok tt)) c.turns-item.is c.in_ok-put_line.ensures))),
      ap (λ (n : ℕ). n + 1) l.invariant.1,
    )

pub returns-clause-puts : goal.returns-clause-puts
returns-clause-puts g c =
    let l = c.loop-turns in
    let all : List Turns = c.args.list.now in
    let last = c.loop-turns-test.false in
    after_flush c.flush.result (subst (λ (b : List Turns). Puts (g.K.Sink.view c.args.output.now)
    (g.K.Sink.view l.output) (pool_lines 0 b) (Ok tt))
    (take_all l.turns-index all (omega (arith, last))) l.invariant.0) c.flush.ensures.puts
