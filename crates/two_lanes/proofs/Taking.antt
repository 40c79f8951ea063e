-- What a worker's thread knows after one more job.
use Rattle.std.proofs.Common.{◌≡◌, ℕ, Bool, true, false, true≢false, List, [], ◌∷◌, ◌++◌, sym, refl}
use Rattle.std.proofs.Common.{ap, ◌∙◌, subst, append_assoc, append-nil, None, Some}
use Rattle.std.proofs.Common.{if◌then◌else◌}
use Rattle.two_lanes.specs.declared.jobs.Lane.{Lane}
use Rattle.two_lanes.specs.declared.jobs.Lane.TheVariants.{A, B}
use Rattle.two_lanes.specs.declared.jobs.LaneJob.{LaneJob}
use Rattle.two_lanes.specs.declared.jobs.LaneJob.TheVariants.{Send, Last, Back}
use Rattle.two_lanes.specs.declared.jobs.Log.{Log}
use Rattle.two_lanes.specs.declared.working.Over.{Over}
use Rattle.two_lanes.specs.Jobs.{ends, has_back, has_last, is_known, is_lane, known, log, more}
use Rattle.two_lanes.specs.Numbers.{IsOver, Took}

pub may_take : (v : Log) → v ≡ log None None (Some (known v.got)) → is_known v.got ≡ true
may_take v e = ap (λ u. is_known u.got) e

got_more : (v w : Log) (x : LaneJob) → v ≡ log None None (Some (known v.got))
    → w ≡ log v.a v.b (more x v.got) → known w.got ≡ known v.got ++ x ∷ []
got_more v w x i e =
    ap (λ u. known u.got) e ∙ ap (λ u. known (more x u.got)) i

pub takes_still : (v w : Log) (x : LaneJob) → v ≡ log None None (Some (known v.got))
    → w ≡ log v.a v.b (more x v.got) → w ≡ log None None (Some (known w.got))
takes_still v w x i e =
    e ∙ ap (λ u. log u.a u.b (more x u.got)) i
    ∙ ap (λ l. log None None (Some l)) (sym (got_more v w x i e))

if_same : (c : Bool) → (if c then true else true) ≡ true
if_same true = refl
if_same false = refl

-- a job more that is no last one of the lane
pub last-else : (lane : Lane) (jobs : List LaneJob) (x : LaneJob)
    → has_last lane (x ∷ []) ≡ false → has_last lane (jobs ++ x ∷ []) ≡ has_last lane jobs
last-else lane [] x e = e
last-else lane (Send l n ∷ jobs) x e = last-else lane jobs x e
last-else lane (Last l ∷ jobs) x e =
    ap (λ t. if is_lane lane l then true else t) (last-else lane jobs x e)
last-else lane (Back ∷ jobs) x e = last-else lane jobs x e

last-there : (lane : Lane) (jobs : List LaneJob) (x : LaneJob)
    → has_last lane (x ∷ []) ≡ true → has_last lane (jobs ++ x ∷ []) ≡ true
last-there lane [] x e = e
last-there lane (Send l n ∷ jobs) x e = last-there lane jobs x e
last-there lane (Last l ∷ jobs) x e =
    ap (λ t. if is_lane lane l then true else t) (last-there lane jobs x e)
    ∙ if_same (is_lane lane l)
last-there lane (Back ∷ jobs) x e = last-there lane jobs x e

back-there : (jobs : List LaneJob) → has_back (jobs ++ Back ∷ []) ≡ true
back-there [] = refl
back-there (Send l n ∷ jobs) = back-there jobs
back-there (Last l ∷ jobs) = back-there jobs
back-there (Back ∷ jobs) = refl

back-else : (jobs : List LaneJob) (x : LaneJob) → has_back (x ∷ []) ≡ false
    → has_back (jobs ++ x ∷ []) ≡ has_back jobs
back-else [] x e = e
back-else (Send l n ∷ jobs) x e = back-else jobs x e
back-else (Last l ∷ jobs) x e = back-else jobs x e
back-else (Back ∷ jobs) x e = refl

ends_back : (jobs : List LaneJob) → has_back jobs ≡ true → ends jobs ≡ true
ends_back jobs b = rw b refl

ends_both : (jobs : List LaneJob) → has_last A jobs ≡ true → has_last B jobs ≡ true
    → ends jobs ≡ true
ends_both jobs a b = rw (a, b) (if_same (has_back jobs))

-- the jobs that wait are taken one by one
pub one_more : (v w : Log) (x : LaneJob) (before xs jobs : List LaneJob)
    → v ≡ log None None (Some (before ++ xs)) → w ≡ log v.a v.b (more x v.got)
    → jobs ≡ xs ++ x ∷ [] → w ≡ log None None (Some (before ++ jobs))
one_more v w x before xs jobs i e j =
    e ∙ ap (λ u. log u.a u.b (more x u.got)) i
    ∙ ap (λ l. log None None (Some l))
    (append_assoc before xs (x ∷ []) ∙ ap (λ l. before ++ l) (sym j))

pub none_more : (v : Log) (jobs : List LaneJob) → v ≡ log None None (Some (known v.got))
    → jobs ≡ [] → v ≡ log None None (Some (known v.got ++ jobs))
none_more v jobs e none =
    e ∙ ap (λ l. log None None (Some l)) (sym (append-nil (known v.got))
    ∙ ap (λ l. known v.got ++ l) (sym none))

pub still_taking : (v : Log) (jobs : List LaneJob) → v ≡ log None None (Some jobs)
    → is_known v.got ≡ true
still_taking v jobs e = ap (λ u. is_known u.got) e

-- which last jobs came, after one more
module _ (over over' : Over) (jobs : List LaneJob) (o : IsOver over jobs) where
  pub over_a : over'.a ≡ true → over'.b ≡ over.b → over'.back ≡ over.back
      → IsOver over' (jobs ++ Last A ∷ [])
  over_a a b back = record {
    a_is = a ∙ sym (last-there A jobs (Last A) refl);
    b_is = b ∙ o.b_is ∙ sym (last-else B jobs (Last A) refl);
    back_is = back ∙ o.back_is ∙ sym (back-else jobs (Last A) refl);
  }

  pub over_b : over'.a ≡ over.a → over'.b ≡ true → over'.back ≡ over.back
      → IsOver over' (jobs ++ Last B ∷ [])
  over_b a b back = record {
    a_is = a ∙ o.a_is ∙ sym (last-else A jobs (Last B) refl);
    b_is = b ∙ sym (last-there B jobs (Last B) refl);
    back_is = back ∙ o.back_is ∙ sym (back-else jobs (Last B) refl);
  }

  pub over_back : over'.a ≡ over.a → over'.b ≡ over.b → over'.back ≡ true
      → IsOver over' (jobs ++ Back ∷ [])
  over_back a b back = record {
    a_is = a ∙ o.a_is ∙ sym (last-else A jobs Back refl);
    b_is = b ∙ o.b_is ∙ sym (last-else B jobs Back refl);
    back_is = back ∙ sym (back-there jobs);
  }

pub over_still : (over : Over) (jobs : List LaneJob) (lane : Lane) (n : ℕ) → IsOver over jobs
    → IsOver over (jobs ++ Send lane n ∷ [])
over_still over jobs lane n o = record {
  a_is = o.a_is ∙ sym (last-else A jobs (Send lane n) refl);
  b_is = o.b_is ∙ sym (last-else B jobs (Send lane n) refl);
  back_is = o.back_is ∙ sym (back-else jobs (Send lane n) refl);
}

module _ {W : Type 0} (did finished : W → List LaneJob → W → Type 0) where
  -- what a worker's thread knows between two jobs
  pub record Going (v : Log) (over : Over) (first now : W) : Type 0 where
    pub view : v ≡ log None None (Some (known v.got))
    pub over_is : IsOver over (known v.got)
    pub done : did first (known v.got) now

  pub begun : (v : Log) (over : Over) (first : W) → v ≡ log None None (Some [])
      → over.a ≡ false → over.b ≡ false → over.back ≡ false → did first [] first
      → Going v over first first
  begun v over first e a b back d =
      let none : known v.got ≡ [] = ap (λ u. known u.got) e in record {
        view = e ∙ ap (λ l. log None None (Some l)) (sym none);
        over_is = record {
          a_is = a ∙ ap (has_last A) (sym none);
          b_is = b ∙ ap (has_last B) (sym none);
          back_is = back ∙ ap has_back (sym none);
        };
        done = subst (λ l. did first l first) (sym none) d;
      }

  -- a job more was done, and then those that waited
  pub goes_on : (v w u : Log) (x : LaneJob) (xs : List LaneJob) (over over' : Over)
      (first old now : W) → w ≡ log v.a v.b (more x v.got)
      → u ≡ log None None (Some (known w.got ++ xs)) → Going v over first old
      → (did first (known v.got) old → did first ((known v.got ++ x ∷ []) ++ xs) now)
      → (IsOver over (known v.got) → IsOver over' ((known v.got ++ x ∷ []) ++ xs))
      → Going u over' first now
  goes_on v w u x xs over over' first old now e f g works after =
      let got : known u.got ≡ (known v.got ++ x ∷ []) ++ xs = ap (λ t. known t.got) f
      ∙ ap (λ l. l ++ xs) (got_more v w x g.view e) in record {
        view = f ∙ ap (λ l. log None None (Some l)) (sym (ap (λ t. known t.got) f));
        over_is = subst (IsOver over') (sym got) (after g.over_is);
        done = subst (λ l. did first l now) (sym got) (works g.done);
      }

  -- the worker is wanted back
  pub sent_back : (v : Log) (over : Over) (first now : W) → Going v over first now
      → over.back ≡ true → Took did finished v first now
  sent_back v over first now g is =
      let back : has_back (known v.got) ≡ true = sym g.over_is.back_is ∙ is in record {
        view = g.view;
        ended = ends_back (known v.got) back;
        stopped = λ _. g.done;
        done = λ never. absurd (true≢false (sym back ∙ never));
      }

  -- no job comes any more
  pub all_taken : (v : Log) (over : Over) (first old now : W) → Going v over first old
      → over.a ≡ true → over.b ≡ true → over.back ≡ false
      → (did first (known v.got) old → finished first (known v.got) now)
      → Took did finished v first now
  all_taken v over first old now g a b wanted finishes = record {
    view = g.view;
    ended = ends_both (known v.got) (sym g.over_is.a_is ∙ a) (sym g.over_is.b_is ∙ b);
    stopped = λ back. absurd (true≢false (sym back ∙ sym g.over_is.back_is ∙ wanted));
    done = λ _. finishes g.done;
  }
