-- What the caller knows once each pass is back.
use Rattle.std.proofs.Common.{◌≡◌, ℕ, zero, suc, Bool, true, false, true≢false, List, [], ◌∷◌, ◌++◌}
use Rattle.std.proofs.Common.{sym, refl, ap, ◌∙◌, append-nil, subst, None, Some}
use Rattle.std.proofs.Common.{if◌then◌else◌}
use Rattle.std.proofs.lemmas.List.Elements.{filter-append}
use Rattle.two_lanes.specs.declared.jobs.Lane.{Lane}
use Rattle.two_lanes.specs.declared.jobs.Lane.TheVariants.{A, B}
use Rattle.two_lanes.specs.declared.jobs.LaneJob.{LaneJob}
use Rattle.two_lanes.specs.declared.jobs.LaneJob.TheVariants.{Send, Last, Back}
use Rattle.two_lanes.specs.declared.jobs.Log.{Log}
use Rattle.two_lanes.specs.Jobs.{is_lane, lane_of, of, log, known, first_jobs, all_jobs, has_last}
use Rattle.two_lanes.specs.Jobs.{has_back, ends, AllTold}
use Rattle.two_lanes.specs.Numbers.{HasAll, numbers, Took}
use Rattle.two_lanes.proofs.Numbering.{all_numbers, one_by_one}
use Rattle.two_lanes.proofs.Taking.{last-else}

of-append : (lane : Lane) (x y : List LaneJob) → of lane (x ++ y) ≡ of lane x ++ of lane y
of-append lane x y = filter-append (λ job. is_lane lane (lane_of job)) x y

last_of : (lane : Lane) (jobs : List LaneJob) → has_last lane (of lane jobs) ≡ has_last lane jobs
last_of lane [] = refl
last_of A (Send A n ∷ jobs) = last_of A jobs
last_of A (Send B n ∷ jobs) = last_of A jobs
last_of B (Send A n ∷ jobs) = last_of B jobs
last_of B (Send B n ∷ jobs) = last_of B jobs
last_of A (Last A ∷ jobs) = refl
last_of A (Last B ∷ jobs) = last_of A jobs
last_of B (Last A ∷ jobs) = last_of B jobs
last_of B (Last B ∷ jobs) = refl
last_of A (Back ∷ jobs) = last_of A jobs
last_of B (Back ∷ jobs) = last_of B jobs

no_last : (lane : Lane) (n : ℕ) → has_last lane (first_jobs lane n) ≡ false
no_last lane zero = refl
no_last lane (suc n) = last-else lane (first_jobs lane n) (Send lane n) refl ∙ no_last lane n

abbrev tail_of : List LaneJob → List LaneJob
tail_of [] = []
tail_of (x ∷ xs) = xs

abbrev head_of : LaneJob → List LaneJob → LaneJob
head_of j [] = j
head_of j (x ∷ xs) = x

none_left : (got items : List LaneJob) → [] ≡ got ++ items → items ≡ []
none_left [] items e = sym e
none_left (x ∷ got) items e = cc

-- behind the last job of a lane comes none
last_ends : (lane : Lane) (xs got items : List LaneJob) → xs ++ Last lane ∷ [] ≡ got ++ items
    → has_last lane xs ≡ false → has_last lane got ≡ true → items ≡ []
last_ends lane xs [] items e free there = absurd (true≢false (sym there))
last_ends lane [] (x ∷ got) items e free there = none_left got items (ap tail_of e)
last_ends lane (Send l n ∷ xs) (y ∷ got) items e free there = let is : y ≡ Send l n = sym
    (ap (head_of Back) e) in
    last_ends lane xs got items (ap tail_of e) free
    (ap (λ j. has_last lane (j ∷ got)) (sym is) ∙ there)
last_ends lane (Back ∷ xs) (y ∷ got) items e free there = let is : y ≡ Back = sym
    (ap (head_of Back) e) in
    last_ends lane xs got items (ap tail_of e) free
    (ap (λ j. has_last lane (j ∷ got)) (sym is) ∙ there)
last_ends A (Last A ∷ xs) (y ∷ got) items e free there = absurd (true≢false free)
last_ends B (Last B ∷ xs) (y ∷ got) items e free there = absurd (true≢false free)
last_ends A (Last B ∷ xs) (y ∷ got) items e free there = let is : y ≡ Last B = sym
    (ap (head_of Back) e) in
    last_ends A xs got items (ap tail_of e) free (ap (λ j. has_last A (j ∷ got)) (sym is) ∙ there)
last_ends B (Last A ∷ xs) (y ∷ got) items e free there = let is : y ≡ Last A = sym
    (ap (head_of Back) e) in
    last_ends B xs got items (ap tail_of e) free (ap (λ j. has_last B (j ∷ got)) (sym is) ∙ there)

-- of a lane whose last job was taken all jobs were taken
lane_taken : (lane : Lane) (n : ℕ) (got items : List LaneJob)
    → all_jobs lane n ≡ of lane (got ++ items) → has_last lane got ≡ true
    → of lane got ≡ all_jobs lane n
lane_taken lane n got items e there =
    let e' : all_jobs lane n ≡ of lane got ++ of lane items = e ∙ of-append lane got items in
    let none : of lane items ≡ [] = last_ends lane (first_jobs lane n) (of lane got) (of lane items)
    e' (no_last lane n) (last_of lane got ∙ there) in
    sym (append-nil (of lane got)) ∙ ap (λ l. of lane got ++ l) (sym none) ∙ sym e'

back_of : (jobs : List LaneJob) → has_back (of A jobs) ≡ has_back jobs
back_of [] = refl
back_of (Send A n ∷ jobs) = back_of jobs
back_of (Send B n ∷ jobs) = back_of jobs
back_of (Last A ∷ jobs) = back_of jobs
back_of (Last B ∷ jobs) = back_of jobs
back_of (Back ∷ jobs) = refl

back-first : (x y : List LaneJob) → has_back (x ++ y) ≡ false → has_back x ≡ false
back-first [] y e = refl
back-first (Send l n ∷ x) y e = back-first x y e
back-first (Last l ∷ x) y e = back-first x y e
back-first (Back ∷ x) y e = e

back-else : (x : List LaneJob) (j : LaneJob) → has_back (j ∷ []) ≡ false → has_back x ≡ false
    → has_back (x ++ j ∷ []) ≡ false
back-else [] j e free = e
back-else (Send l n ∷ x) j e free = back-else x j e free
back-else (Last l ∷ x) j e free = back-else x j e free
back-else (Back ∷ x) j e free = free

no_back : (lane : Lane) (n : ℕ) → has_back (first_jobs lane n) ≡ false
no_back lane zero = refl
no_back lane (suc n) = back-else (first_jobs lane n) (Send lane n) refl (no_back lane n)

-- lanes never send the writer back
not_back : (n : ℕ) (got items : List LaneJob) → all_jobs A n ≡ of A (got ++ items)
    → has_back got ≡ false
not_back n got items e = sym (back_of got)
    ∙ back-first (of A got) (of A items)
    (ap has_back (sym (e ∙ of-append A got items))
    ∙ back-else (first_jobs A n) (Last A) refl (no_back A n))

both_last : (x y z : Bool) → (if x then true else (if y then z else false)) ≡ true → x ≡ false
    → (y ≡ true) × (z ≡ true)
both_last true y z e free = absurd (true≢false free)
both_last false true z e free = (refl, e)
both_last false false z e free = absurd (true≢false (sym e))

-- after both last jobs: what was taken of each lane is all that was sent of it
pub lanes_taken : (n m : ℕ) (got items : List LaneJob) → all_jobs A n ≡ of A (got ++ items)
    → all_jobs B m ≡ of B (got ++ items) → ends got ≡ true
    → HasAll n m got × (has_back got ≡ false)
lanes_taken n m got items ea eb over =
    let wanted = not_back n got items ea in
    let lasts = both_last (has_back got) (has_last A got) (has_last B got) over wanted in (
      record {
        of_a = all_numbers A n got (lane_taken A n got items ea lasts.0);
        of_b = all_numbers B m got (lane_taken B m got items eb lasts.1);
      },
      wanted,
    )

none_at_all : (got : List LaneJob) → of A got ≡ [] → of B got ≡ [] → got ≡ []
none_at_all [] ea eb = refl
none_at_all (Send A n ∷ got) ea eb = cc
none_at_all (Send B n ∷ got) ea eb = cc
none_at_all (Last A ∷ got) ea eb = cc
none_at_all (Last B ∷ got) ea eb = cc
none_at_all (Back ∷ got) ea eb = cc

none_before : (got items : List LaneJob) → got ++ items ≡ [] → got ≡ []
none_before [] items e = refl
none_before (x ∷ got) items e = cc

-- a worker that was wanted back took that alone
pub back_alone : (got items : List LaneJob) → Back ∷ [] ≡ of A (got ++ items)
    → [] ≡ of B (got ++ items) → ends got ≡ true → got ≡ Back ∷ []
back_alone [] items ea eb over = absurd (true≢false (sym over))
back_alone (Send A n ∷ got) items ea eb over = cc
back_alone (Send B n ∷ got) items ea eb over = cc
back_alone (Last A ∷ got) items ea eb over = cc
back_alone (Last B ∷ got) items ea eb over = cc
back_alone (Back ∷ got) items ea eb over =
    ap (λ l. Back ∷ l) (none_before got items
    (none_at_all (got ++ items) (sym (ap tail_of ea)) (sym eb)))

module _ {W : Type 0} (did finished : W → List LaneJob → W → Type 0) (a b : ℕ) where
  abbrev Finished : W → W → Type 0
  Finished first now = (jobs : List LaneJob) × HasAll a b jobs × finished first jobs now

  abbrev Finishes : W → W → Type 0
  Finishes old new = (first : W) (jobs : List LaneJob) → did first jobs old
      → finished first ((jobs ++ first_jobs A a) ++ first_jobs B b) new

  -- the elements were dealt with here, behind jobs that name nothing
  pub alone_done : (jobs : List LaneJob) (first old new : W) → numbers A jobs ≡ []
      → numbers B jobs ≡ [] → did first jobs old → Finishes old new → Finished first new
  alone_done jobs first old new none_a none_b done finishes = (
    (jobs ++ first_jobs A a) ++ first_jobs B b,
    one_by_one jobs a b none_a none_b,
    finishes first jobs done,
  )

  -- or by a worker that was wanted back
  pub back_done : (v : Log) (first sent old new : W) → Took did finished v sent old
      → known v.got ≡ Back ∷ [] → sent ≡ first → Finishes old new → Finished first new
  back_done v first sent old new took is same finishes =
      subst (λ (w : W). Finished w new) same
      (alone_done (known v.got) sent old new (ap (numbers A) is) (ap (numbers B) is)
      (took.stopped (ap has_back is)) finishes)

-- the pass that took in the taker's
pub told_both : (v w z : Log) (x y : List LaneJob) → v ≡ log (Some x) (Some y) None
    → w ≡ log None None (Some (known w.got)) → z ≡ log v.a v.b w.got → (items : List LaneJob)
    → AllTold z items
    → (x ≡ of A (known w.got ++ items)) × (y ≡ of B (known w.got ++ items))
told_both v w z x y ev ew ez items told =
    let got : known z.got ≡ known w.got = ap (λ u. known u.got) ez in (
      sym (ap (λ u. known u.a) ez ∙ ap (λ u. known u.a) ev) ∙ ap (λ u. known u.a) told
          ∙ ap (λ l. of A (l ++ items)) got,
      sym (ap (λ u. known u.b) ez ∙ ap (λ u. known u.b) ev) ∙ ap (λ u. known u.b) told
          ∙ ap (λ l. of B (l ++ items)) got,
    )
