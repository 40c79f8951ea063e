-- How the reporting of a stream ended, by what was put for the bytes that were read, and what was
-- then written.
use Rattle.std.proofs.Common.{◌≡◌, ℕ, ◌+◌, ◌-◌, ◌⊎◌, ◌↔◌, List, [], ◌++◌, length, take, IfOk}
use Rattle.std.proofs.Common.{IfErr, OnOk, OnErr, Some, None, Ok, Err, Option, Result, IsErrOf, sym}
use Rattle.std.proofs.Common.{refl, ap, ◌∙◌, subst, inl, inr, append_assoc, append-nil, arith}
use Rattle.{std.specs.Prelude.⊤, io_edges.proofs.Putting.Puts-then}
use Rattle.std.proofs.{Math.Seq.take-append-add, lemmas.Bool.cases_lt, lemmas.List.take-append-le}
use Rattle.io_edges.specs.{declared.SinkFault.SinkFault, Faults.CountsFaults, Puts.Puts}
use Rattle.io_edges.specs.Flow.{GrowsByPrefix, Passes, Told}
use Rattle.unit_streams.proofs.{Pending.pending_open, Pieces.told_due, Telling.told_nothing}
use Rattle.unit_streams.specs.{Going.IsPending, Grammar.Grammar}
use Rattle.unit_streams.specs.Tellers.{AreDue, report, Teller, told_so_far}
use Rattle.stream_loop.specs.{declared.reporting.ReportEnding.ReportEnding, Edges.Input}
use Rattle.io_edges.specs.Views.{SinkView}
use Rattle.stream_loop.specs.LoopParts.{done, ended_by, HasReported, IsAllRead, ReportsAs}
use Rattle.stream_loop.specs.Reported.{OneEmptyTake, Breaks, Decides, EndsAs, Grows, IsJudged}
use Rattle.stream_loop.specs.Reported.{Judges}
use Rattle.stream_loop.specs.Reported.{Reaches, Reports, Writes}
use Rattle.stream_loop.proofs.Writing.{counted_with, grown_within, known_told, put_either}
use Rattle.stream_loop.proofs.Writing.{puts_grow, told_as, told_some}
use Rattle.io_edges.specs.declared.SinkFault.TheVariants as faults
use Rattle.stream_loop.specs.declared.reporting.ReportEnding.TheVariants as endings

-- what was put and then written, of what was reported so, and how that ends
pub record Finished (R : Type 0) (r : Result (ReportEnding R) SinkFault) (lines : List ℕ)
    (o o1 o2 : SinkView) (e : ReportEnding R) : Type 0 where
  pub put : Result ⊤ SinkFault
  pub puts : Puts o o2 lines put
  pub grew : Told o1.written o2.written Grows
  pub whole : OnOk put ((r ≡ Ok e) × (o2.held ≡ []))
  pub stopped : IfErr put (λ fault. e ≡ ended_by fault)
  pub kept : r ≡ Ok endings.ReadFault → e ≡ endings.ReadFault

-- nothing more is written
grows_not : (w : Option (List ℕ)) → Told w w Grows
grows_not None = tt
grows_not (Some w) = record { more = []; grown = sym (append-nil w) }

module _ {Z U E R V : Type 0} (g : Grammar Z U E R) (t : Teller V E R)
    (first old new : SinkView) (i i' : Input) (lines : List ℕ) (e : ReportEnding R) where
  -- it ends so, of what was reported so
  abbrev pub Finishes : Result (ReportEnding R) SinkFault → Type 0
  Finishes r = Finished R r lines first old new e

  abbrev Flushes : ReportEnding R → Type 0
  Flushes k = (flush : Result ⊤ SinkFault)
      × Puts old new [] flush × OnOk flush ((e ≡ k) × (new.held ≡ []))
      × IfErr flush (λ fault. e ≡ ended_by fault)

  flushed_whole : (k : ReportEnding R) (r : Result (ReportEnding R) SinkFault) → r ≡ Ok k
      → (flush : Result ⊤ SinkFault) → OnOk flush ((e ≡ k) × (new.held ≡ []))
      → OnOk flush ((r ≡ Ok e) × (new.held ≡ []))
  flushed_whole k r is (Ok u) h = (is ∙ ap Ok (sym h.0), h.1)
  flushed_whole k r is (Err fault) h = tt

  -- what was put before
  abbrev PutBefore : Result ⊤ SinkFault → Type 0
  PutBefore r = Puts first old lines r

  -- where the output is flushed
  by_flush : (k : ReportEnding R) → PutBefore (Ok tt) → (k ≡ endings.ReadFault → ⊥) → Flushes k
      → Finishes (Ok k)
  by_flush k puts not_read z = record {
    put = z.0;
    puts = rw append-nil at (Puts-then z.0 puts z.1);
    grew = puts_grow z.0 z.1;
    whole = flushed_whole k (Ok k) refl z.0 z.2;
    stopped = z.3;
    kept = λ is. absurd (not_read cc);
  }

  pub finished_by : (state : V) (r : Result (ReportEnding R) SinkFault) → PutBefore (done r)
      → HasReported g t i i' first old state r lines
      → (r ≡ Ok endings.ReadFault → (e ≡ endings.ReadFault) × (new ≡ old))
      → IfErr r (λ fault. (e ≡ ended_by fault) × (new ≡ old))
      → IfOk r (λ k. (k ≡ endings.ReadFault → ⊥) → Flushes k)
      → Finishes r
  finished_by state (Err fault) puts b kept failed flushed = rw failed.1 (record {
    put = Err fault;
    puts = puts;
    grew = grows_not old.written;
    whole = tt;
    stopped = failed.0;
    kept = λ is. cc;
  })
  finished_by state (Ok endings.ReadFault) puts b kept failed flushed =
      let k = kept refl in
      rw k.1 (record {
        put = Ok tt;
        puts = puts;
        grew = grows_not old.written;
        whole = (ap Ok (sym k.0), b.ends.2);
        stopped = tt;
        kept = λ is. k.0;
      })
  finished_by state (Ok (endings.Judged o)) puts b kept failed flushed =
      by_flush (endings.Judged o) puts (λ no. cc) (flushed (λ no. cc))
  finished_by state (Ok endings.WriteFault) puts b kept failed flushed = absurd b.ends
  finished_by state (Ok endings.Memory) puts b kept failed flushed = by_flush endings.Memory puts
      (λ no. cc) (flushed (λ no. cc))

module _ {R : Type 0} where
  -- a stop by the output is none of these
  never_judged : (fault : SinkFault) (judged : Option R) → endings.Judged judged ≡ ended_by fault
      → ⊥
  never_judged faults.Failed judged e = cc
  never_judged faults.Memory judged e = cc

  never_read : (fault : SinkFault) → ◌≡◌ {A = ReportEnding R} endings.ReadFault (ended_by fault) → ⊥
  never_read faults.Failed e = cc
  never_read faults.Memory e = cc

  stopped_failed : (fault : SinkFault)
      → ◌≡◌ {A = ReportEnding R} (ended_by fault) endings.WriteFault
      → fault ≡ faults.Failed
  stopped_failed faults.Failed e = refl
  stopped_failed faults.Memory e = cc

module _ {Z U E R S : Type 0} (g : Grammar Z U E R) (t : Teller S E R) where
  -- the lines of what was read are due, whatever follows
  lines_due : (p : List ℕ) → IsPending g p → AreDue g t (p ++ []) [] (told_so_far g t p)
  lines_due p pending = told_due g t p (pending_open g p pending)

  -- the first bytes of what was held and of lines
  prefix_writes : (h lines w w' : List ℕ) → GrowsByPrefix w w' (h ++ lines) → Writes g t h [] w w'
  prefix_writes h lines w w' p =
      elim (cases_lt (length h) p.kept) [
        | inl lt ↦
            let n : ℕ = p.kept - length h in
            let e : p.kept ≡ length h + n = omega arith in
            let shape : take p.kept (h ++ lines) ≡ h ++ take n lines = ap (λ k. take k (h ++ lines))
            e ∙ take-append-add h lines n in
            let none : w ++ h ++ told_so_far g t [] ≡ w ++ h = ap (λ l. w ++ h ++ l)
            (told_nothing g t) ∙ append-nil (w ++ h) in
            inl (record {
              more = take n lines;
              grown = p.grown ∙ ap (λ l. w ++ l) shape
                  ∙ sym (append_assoc w h (take n lines)) ∙ ap (λ l. l ++ take n lines) (sym none);
            })
        | inr ge ↦ inr (
          refl,
          record {
            kept = p.kept;
            grown = p.grown
                ∙ ap (λ l. w ++ l) (take-append-le p.kept h lines ge);
          },
        )
      ]

  -- what is written after what was, where more comes
  writes_on : (h before lines : List ℕ) (w w1 w2 : Option (List ℕ))
      → Told w w1 (Writes g t h before) → Told w1 w2 Grows
      → Told w w2 (λ w w'. GrowsByPrefix w w' (h ++ lines)) → Told w w2 (Writes g t h before)
  writes_on h before lines None w1 w2 wrote grew all = tt
  writes_on h before lines (Some w) None w2 wrote grew all = absurd wrote
  writes_on h before lines (Some w) (Some w1) None wrote grew all = absurd grew
  writes_on h before lines (Some w) (Some w1) (Some w2) (inl wrote) grew all = inl
      (record {
        more = wrote.more ++ grew.more;
        grown = grew.grown
            ∙ ap (λ l. l ++ grew.more) wrote.grown ∙ append_assoc (w ++ h ++ told_so_far g t before)
            wrote.more grew.more;
      })
  writes_on h before lines (Some w) (Some w1) (Some w2) (inr none) grew all = rw none.0
      (prefix_writes h lines w w2 all)

module _ {Z U E R S : Type 0} (g : Grammar Z U E R) (t : Teller S E R) (i i' : Input)
    (o o1 o2 : SinkView) (state : S) (r : Result (ReportEnding R) SinkFault) (lines : List ℕ)
    (e : ReportEnding R)
    (b : HasReported g t i i' o o1 state r lines) (z : Finished R r lines o o1 o2 e) where
  abbrev reached : Reaches g t i i' o o1
  reached = b.reached

  -- what was reported so ends so
  abbrev ReportsSo : Result (ReportEnding R) SinkFault → Type 0
  ReportsSo v = ReportsAs g t i i' o o1 reached.before reached.piece state v lines

  abbrev AllRead : Type 0
  AllRead = IsAllRead g t i i' o o1 reached.before reached.piece lines

  -- the lines begin the stream's report
  due : AllRead ⊎ AreDue g t (reached.before ++ reached.piece) [] lines
  due = go r b.ends where
    go : (v : Result (ReportEnding R) SinkFault) → ReportsSo v → AllRead
        ⊎ AreDue g t (reached.before ++ reached.piece) [] lines
    go (Ok (endings.Judged judged)) (inl all) = inl all.0
    go (Ok (endings.Judged judged)) (inr known) = inr (λ more. (
      [],
      (known.0 more).1
          ∙ sym (append-nil lines),
    ))
    go (Ok endings.ReadFault) ends =
        inr (subst (λ (y : List ℕ). AreDue g t (reached.before ++ y) [] lines) (sym ends.0)
        (subst (λ (l : List ℕ). AreDue g t (reached.before ++ []) [] l) (sym ends.1)
        (lines_due g t reached.before reached.pending)))
    go (Ok endings.WriteFault) ends = absurd ends
    go (Ok endings.Memory) ends = inr ends.0
    go (Err fault) (inl all) = inl all
    go (Err fault) (inr known) = inr known.0

  -- as one that ends so
  as_ended : (put : Result ⊤ SinkFault) → OnOk put ((r ≡ Ok e) × (o2.held ≡ []))
      → OnOk put (ReportsSo (Ok e))
  as_ended (Ok u) whole = subst ReportsSo whole.0 b.ends
  as_ended (Err fault) whole = tt

  -- all was written
  all_written : Told o.written o2.written (λ w w'. Passes w w' o.held o2.held lines) → o2.held ≡ []
      → Told o.written o2.written (λ w w'. w' ≡ w ++ o.held ++ lines)
  all_written told none = told_as (λ l l'. Passes l l' o.held o2.held lines)
      (λ l l'. l' ≡ l ++ o.held ++ lines) o.written o2.written told (λ l l' p.
      let put : p.put ≡ o.held ++ lines = sym (append-nil p.put) ∙ ap (λ k. p.put ++ k) (sym none)
      ∙ sym p.split in
      p.grown ∙ ap (λ k. l ++ k) put ∙ sym (append_assoc l o.held lines))

  -- where it isn't stopped by the output
  whole_end : ((fault : SinkFault) → e ≡ ended_by fault → ⊥) → ReportsSo (Ok e)
      × Told o.written o2.written (λ w w'. w' ≡ w ++ o.held ++ lines)
  whole_end never = go z.put z.puts.written z.whole z.stopped where
    go : (put : Result ⊤ SinkFault)
        → OnOk put (Told o.written o2.written (λ w w'. Passes w w' o.held o2.held lines))
        → OnOk put ((r ≡ Ok e) × (o2.held ≡ [])) → IfErr put (λ fault. e ≡ ended_by fault)
        → ReportsSo (Ok e) × Told o.written o2.written (λ w w'. w' ≡ w ++ o.held ++ lines)
    go (Ok u) written whole stopped = (as_ended (Ok u) whole, all_written written whole.1)
    go (Err fault) written whole stopped = absurd (never fault stopped)

  judged_end : (judged : Option R) → e ≡ endings.Judged judged
      → ReportsSo (Ok (endings.Judged judged)) × Told o.written o2.written (λ w w'. w' ≡ w ++ o.held
      ++ lines)
  judged_end judged is =
      let k = whole_end (λ fault by. never_judged fault judged (sym is ∙ by)) in
      (subst (λ (v : ReportEnding R). ReportsSo (Ok v)) is k.0, k.1)

  -- the first bytes of the lines are written, or all
  written_front : Told o.written o2.written (λ w w'. GrowsByPrefix w w' (o.held ++ lines))
  written_front = go z.put z.puts.written z.puts.refused z.whole where
    go : (put : Result ⊤ SinkFault)
        → OnOk put (Told o.written o2.written (λ w w'. Passes w w' o.held o2.held lines))
        → OnErr put (Told o.written o2.written (λ w w'. GrowsByPrefix w w' (o.held ++ lines)))
        → OnOk put ((r ≡ Ok e) × (o2.held ≡ []))
        → Told o.written o2.written (λ w w'. GrowsByPrefix w w' (o.held ++ lines))
    go (Ok u) written refused whole =
        put_either (Ok u) o.written o2.written (o.held ++ lines)
        (told_as (λ l l'. l' ≡ l ++ o.held ++ lines) (λ l l'. l' ≡ l ++ (o.held ++ lines))
        o.written o2.written (all_written written whole.1) (λ l l' k. k
        ∙ append_assoc l o.held lines)) tt
    go (Err fault) written refused whole = refused

  module _ (bytes : List ℕ) (is : i.left ≡ Some bytes) where
    rest : (rest : List ℕ) × (i'.left ≡ Some rest)
        × (bytes ≡ reached.before ++ reached.piece ++ rest)
    rest = told_some (λ all rest. all ≡ reached.before ++ reached.piece ++ rest) i.left i'.left
        bytes is reached.stream

    -- where all was read
    all_read : AllRead → bytes ≡ reached.before
    all_read all =
        let over = told_some (λ all rest. rest ≡ []) i.left i'.left bytes is all.2 in
        let same : rest.0 ≡ [] = (let one = rest.1 in let other = over.1 in cc) ∙ over.2 in
        rest.2 ∙ ap (λ l. reached.before ++ l ++ rest.0) all.0 ∙ ap (λ l. reached.before ++ [] ++ l)
        same ∙ append-nil (reached.before ++ []) ∙ append-nil reached.before

    -- the report begins with the lines
    report_front : (more : List ℕ) × (report g t bytes ≡ lines ++ more)
    report_front =
        elim due [
          | inl all ↦ ([], ap (report g t) (all_read all) ∙ all.1 ∙ sym (append-nil lines))
          | inr known ↦ let k = known rest.0 in (k.0, ap (report g t) rest.2 ∙ k.1)
        ]

    report_is : (judged : Option R) → e ≡ endings.Judged judged → (report g t bytes ≡ lines)
        × IsJudged g t judged state bytes
    report_is judged ended =
        elim (judged_end judged ended).0 [
          | inl all ↦ (
            ap (report g t) (all_read all.0) ∙ all.0.1,
            subst (IsJudged g t judged state)
                (sym (all_read all.0)) all.1,
          )
          | inr known ↦ let k = known.0 rest.0 in (
            ap (report g t) rest.2
                ∙ k.1,
            subst (IsJudged g t judged state) (sym rest.2) k.0,
          )
        ]

    pub judges : Judges g t i i' o o2 bytes state e
    judges = go e refl where
      go : (v : ReportEnding R) → e ≡ v → Judges g t i i' o o2 bytes state v
      go (endings.Judged judged) ended = (report_is judged ended).1
      go endings.ReadFault ended = tt
      go endings.WriteFault ended = tt
      go endings.Memory ended = tt

    module _ (l : List ℕ) (before : o.written ≡ Some l) where
      front : (l' : List ℕ) × (o2.written ≡ Some l')
          × GrowsByPrefix l l' (o.held ++ report g t bytes)
      front =
          let k = told_some (λ l l'. GrowsByPrefix l l' (o.held ++ lines)) o.written o2.written l
          before written_front in
          let more = report_front in (
            k.0,
            k.1,
            subst (GrowsByPrefix l k.0) (append_assoc o.held lines more.0
                ∙ ap (λ s. o.held ++ s) (sym more.1)) (grown_within l k.0 (o.held ++ lines) more.0
                k.2),
          )

      pub reports : (l' : List ℕ) × (o2.written ≡ Some l') × Reports g t i i' o o2 bytes l l' e
      reports = go e refl where
        go : (v : ReportEnding R) → e ≡ v → (l' : List ℕ) × (o2.written ≡ Some l')
            × Reports g t i i' o o2 bytes l l' v
        go (endings.Judged judged) ended =
            let k = told_some (λ l l'. l' ≡ l ++ o.held ++ lines) o.written o2.written l before
            (judged_end judged ended).1 in
            (k.0, k.1, k.2 ∙ ap (λ s. l ++ o.held ++ s) (sym (report_is judged ended).0))
        go endings.ReadFault ended = front
        go endings.WriteFault ended = front
        go endings.Memory ended = front

  pub decides : (judged : Option R) → e ≡ endings.Judged judged → Decides g t i i' o o2 judged state
  decides judged ended =
      let k = judged_end judged ended in
      elim k.0 [
        | inl all ↦ record {
          bytes = reached.before;
          judged_so = all.1;
          settled = inl (reached.pending, all.0.3);
          stream = known_told (λ all rest. (all ≡ reached.before ++ rest)
              × ((rest ≡ []) ⊎ ((more : List ℕ)
              → IsJudged g t judged state (reached.before ++ more)))) i.left i'.left (λ bytes is.
              let over = told_some (λ all rest. rest ≡ []) i.left i'.left bytes is all.0.2 in (
                over.0,
                over.1,
                (
                  all_read bytes is all.0 ∙ sym (append-nil reached.before)
                      ∙ ap (λ l. reached.before ++ l) (sym over.2),
                  inl over.2,
                ),
              ));
          took = told_as (λ t t'. t' ≡ t ++ reached.before ++ reached.piece)
              (λ t t'. t' ≡ t ++ reached.before) i.taken i'.taken reached.took (λ t t' s. s
              ∙ ap (λ l. t ++ reached.before ++ l) all.0.0 ∙ append-nil (t ++ reached.before));
          wrote = told_as (λ l l'. l' ≡ l ++ o.held ++ lines) (λ l l'. l' ≡ l ++ o.held ++ report g
              t reached.before) o.written o2.written k.1 (λ l l' s. s ∙ ap (λ q. l ++ o.held ++ q)
              (sym all.0.1));
        }
        | inr known ↦ record {
          bytes = reached.before ++ reached.piece;
          judged_so = subst (IsJudged g t judged state)
              (append-nil (reached.before ++ reached.piece)) (known.0 []).0;
          settled = inr (λ more. (known.0 more).0, known.1);
          stream = told_as (λ all rest. all ≡ reached.before ++ reached.piece ++ rest)
              (λ all rest. (all ≡ reached.before ++ reached.piece ++ rest)
              × ((rest ≡ []) ⊎ ((more : List ℕ)
              → IsJudged g t judged state (reached.before ++ reached.piece ++ more)))) i.left
              i'.left reached.stream
              (λ all rest s. (s, inr (λ more. (known.0 more).0)));
          took = told_as (λ t t'. t' ≡ t ++ reached.before ++ reached.piece)
              (λ t t'. t' ≡ t ++ (reached.before ++ reached.piece)) i.taken i'.taken reached.took
              (λ t t' s. s ∙ append_assoc t reached.before reached.piece);
          wrote = told_as (λ l l'. l' ≡ l ++ o.held ++ lines) (λ l l'. l' ≡ l ++ o.held ++ report g
              t (reached.before ++ reached.piece)) o.written o2.written k.1
              (λ l l' s. s ∙ ap (λ q. l ++ o.held ++ q)
              (sym (ap (report g t) (sym (append-nil (reached.before ++ reached.piece)))
              ∙ (known.0 []).1)));
        }
      ]

  -- where a read failed
  read_end : e ≡ endings.ReadFault → ReportsSo (Ok endings.ReadFault)
      × Told o.written o2.written (λ w w'. w' ≡ w ++ o.held ++ lines)
  read_end ended =
      let k = whole_end (λ fault by. never_read fault (sym ended ∙ by)) in
      (subst (λ (v : ReportEnding R). ReportsSo (Ok v)) ended k.0, k.1)

  pub breaks : e ≡ endings.ReadFault → Breaks g t i i' o o2
  breaks ended =
      let k = read_end ended in
      let ends : ReportsSo (Ok endings.ReadFault) = k.0 in
      record {
        bytes = reached.before;
        pending = reached.pending;
        stream = told_as (λ all rest. all ≡ reached.before ++ reached.piece ++ rest)
            (λ all rest. all ≡ reached.before ++ rest) i.left i'.left reached.stream
            (λ all rest s. s ∙ ap (λ l. reached.before ++ l ++ rest) ends.0
            ∙ ap (λ l. l ++ rest) (append-nil reached.before));
        took = told_as (λ t t'. t' ≡ t ++ reached.before ++ reached.piece)
            (λ t t'. t' ≡ t ++ reached.before) i.taken i'.taken reached.took (λ t t' s. s
            ∙ ap (λ l. t ++ reached.before ++ l) ends.0 ∙ append-nil (t ++ reached.before));
        wrote = told_as (λ l l'. l' ≡ l ++ o.held ++ lines) (λ l l'. l' ≡ l ++ o.held ++ told_so_far
            g t reached.before) o.written o2.written k.1 (λ l l' s. s ∙ ap (λ q. l ++ o.held ++ q)
            ends.1);
        no_empty_take = ends.3;
      }

  pub reaches : Reaches g t i i' o o2
  reaches = record {
    before = reached.before;
    piece = reached.piece;
    pending = reached.pending;
    short = reached.short;
    stream = reached.stream;
    took = reached.took;
    wrote = writes_on g t o.held reached.before lines o.written o1.written o2.written reached.wrote
        z.grew written_front;
  }

  -- a read did where reading did
  read_as : (put : Result ⊤ SinkFault) → OnOk put ((r ≡ Ok e) × (o2.held ≡ []))
      → IfErr put (λ fault. e ≡ ended_by fault) → e ≡ endings.ReadFault → r ≡ Ok endings.ReadFault
  read_as (Ok u) whole stopped ended = whole.0 ∙ ap Ok ended
  read_as (Err fault) whole stopped ended = absurd (never_read fault (sym ended ∙ stopped))

  -- how many takes of the input gave nothing
  pub one_empty_take : OneEmptyTake g t i i' o o2 e
  one_empty_take = go r b.ends (read_as z.put z.whole z.stopped) where
    go : (v : Result (ReportEnding R) SinkFault) → ReportsSo v → (e ≡ endings.ReadFault
        → v ≡ Ok endings.ReadFault) → OneEmptyTake g t i i' o o2 e
    go (Ok (endings.Judged judged)) (inl all) read = inr (
      all.0.3,
      λ ended. let no = read ended in
          cc,
    )
    go (Ok (endings.Judged judged)) (inr known) read = inl known.1
    go (Ok endings.ReadFault) ends read = inl ends.3
    go (Ok endings.WriteFault) ends read = absurd ends
    go (Ok endings.Memory) ends read = inl ends.1
    go (Err fault) (inl all) read = inr (all.3, λ ended. let no = read ended in cc)
    go (Err fault) (inr known) read = inl known.1

  -- a write failed where the output did
  failed_as : (put : Result ⊤ SinkFault) → OnOk put ((r ≡ Ok e) × (o2.held ≡ []))
      → IfErr put (λ fault. e ≡ ended_by fault) → (e ≡ endings.WriteFault) ↔ IsErrOf put
      faults.Failed
  failed_as (Ok u) whole stopped = (
    λ ended. absurd (subst (λ (v : ReportEnding R). ReportsSo (Ok v))
        ended (as_ended (Ok u) whole)),
    λ no. cc,
  )
  failed_as (Err fault) whole stopped = (
    λ ended. ap Err (stopped_failed fault (sym stopped
        ∙ ended)),
    λ failed. let same : fault ≡ faults.Failed = cc in stopped ∙ ap ended_by same,
  )

  pub writes_counted : CountsFaults o.faults o2.faults (e ≡ endings.WriteFault)
  writes_counted =
      let same = failed_as z.put z.whole z.stopped in
      counted_with _ _ _ _ _ refl z.puts.counted same.0 same.1

  pub reads_counted : CountsFaults i.faults i'.faults (r ≡ Ok endings.ReadFault)
      → CountsFaults i.faults i'.faults (e ≡ endings.ReadFault)
  reads_counted counted = counted_with _ _ _ _ _ refl counted (read_as z.put z.whole z.stopped)
      z.kept

  -- all of it
  pub ends_so : CountsFaults i.faults i'.faults (r ≡ Ok endings.ReadFault)
      → EndsAs g t i i' o o2 state e
  ends_so counted = record {
    judges = judges;
    reports = λ bytes w left before. reports bytes left w before;
    decides = decides;
    breaks = breaks;
    reaches = reaches;
    one_empty_take = one_empty_take;
    reads_counted = reads_counted counted;
    writes_counted = writes_counted;
  }
