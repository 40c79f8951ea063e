-- One side of what passes know, which one pass at most has.
use Rattle.std.proofs.Common.{◌≡◌, ◌≢◌, ℕ, zero, suc, List, [], ◌∷◌, ◌++◌, length, set, sym, refl}
use Rattle.std.proofs.Common.{ap, ◌∙◌, subst, ⊎_elim, Option, None, Some, IfSome}
use mathlib.Core.Option.{some, some-ne-none}
use lib.ListN.{get_elem?}
use Rattle.atomic_table.proofs.Lists.{at_set, at_snoc}
use Rattle.two_lanes.specs.declared.jobs.LaneJob.{LaneJob}
use Rattle.two_lanes.specs.declared.jobs.Log.{Log}
use Rattle.two_lanes.specs.Jobs.{Has}

at_end : (l : List Log) (a b : Log) (j : ℕ) → get_elem? l j ≢ some b
    → get_elem? (l ++ a ∷ []) j ≡ some b → j ≡ length l
at_end [] a b zero n e = refl
at_end [] a b (suc j) n e = absurd (some-ne-none b (sym e))
at_end (x ∷ xs) a b zero n e = absurd (n e)
at_end (x ∷ xs) a b (suc j) n e = ap suc (at_end xs a b j n e)

abbrev Jobs : Type 0
Jobs = Option (List LaneJob)

abbrev Fits : Jobs → ℕ → List LaneJob → ℕ → Type 0
Fits o seat jobs pass = IfSome o (λ k. (pass ≡ seat) × (k ≡ jobs))

-- who has nothing fits
fits_none : (o : Jobs) (seat : ℕ) (jobs : List LaneJob) (pass : ℕ) → o ≡ None
    → Fits o seat jobs pass
fits_none None seat jobs pass e = tt
fits_none (Some k) seat jobs pass e = cc

fits_some : (o : Jobs) (k : List LaneJob) (seat : ℕ) (jobs : List LaneJob) (pass : ℕ) → o ≡ Some k
    → (pass ≡ seat) × (k ≡ jobs) → Fits o seat jobs pass
fits_some o k seat jobs pass e p = subst (λ o. Fits o seat jobs pass) (sym e) p

seated : (o : Jobs) (k : List LaneJob) (seat : ℕ) (jobs : List LaneJob) (pass : ℕ) → o ≡ Some k
    → Fits o seat jobs pass → (pass ≡ seat) × (k ≡ jobs)
seated o k seat jobs pass e p = subst (λ o. Fits o seat jobs pass) e p

-- who isn't at the seat has nothing, so fits any other
apart : (o : Jobs) (seat new : ℕ) (jobs jobs' : List LaneJob) (pass : ℕ) → pass ≢ seat
    → Fits o seat jobs pass → Fits o new jobs' pass
apart None seat new jobs jobs' pass n p = tt
apart (Some k) seat new jobs jobs' pass n p = absurd (n p.0)

none_some : (k : List LaneJob) → None ≡ Some k → ⊥
none_some k e = cc

module _ (f : Log → Jobs) where
  abbrev All : ℕ → List LaneJob → List Log → Type 0
  All seat jobs views = (pass : ℕ) (v : Log) → get_elem? views pass ≡ some v
      → Fits (f v) seat jobs pass

  all_set : (seat : ℕ) (jobs : List LaneJob) (views : List Log) (port : ℕ) (w : Log)
      → Fits (f w) seat jobs port
      → ((j : ℕ) (u : Log) → j ≢ port → get_elem? views j ≡ some u → Fits (f u) seat jobs j)
      → All seat jobs (set views port w)
  all_set seat jobs views port w mine others j u e = ⊎_elim
      (λ (x : (j ≡ port) × (w ≡ u)). subst (λ (y : ℕ × Log). Fits (f y.1) seat jobs y.0)
      (λ i. (sym x.0 i, x.1 i)) mine)
      (λ (x : (j ≢ port) × (get_elem? views j ≡ some u)). others j u x.0 x.1)
      (at_set views port j w u e)

  -- of what the pass with this side knows
  pub knows : {jobs k : List LaneJob} {views : List Log} (port : ℕ) {v : Log} → f v ≡ Some k
      → Has f jobs views → get_elem? views port ≡ some v → k ≡ jobs
  knows {jobs = jobs} {k = k} port {v = v} e h at =
      (seated (f v) k h.seat jobs port e (h.told port v at)).1

  -- the first pass has all
  pub alone : (jobs : List LaneJob) (v : Log) → f v ≡ Some jobs → Has f jobs (v ∷ [])
  alone jobs v e = record {
    seat = 0;
    told = all_set 0 jobs (v ∷ []) 0 v (fits_some (f v) jobs 0 jobs 0 e (refl, refl))
        (λ j u other at. absurd (other (at_end [] v u j (λ x. some-ne-none u (sym x)) at)));
  }

  -- a view changes, and not this side of it
  pub same : {jobs : List LaneJob} {views : List Log} (port : ℕ) {v : Log} (w : Log) → f w ≡ f v
      → Has f jobs views → get_elem? views port ≡ some v → Has f jobs (set views port w)
  same {jobs = jobs} {views = views} port {v = v} w e h at = record {
    seat = h.seat;
    told = all_set h.seat jobs views port w
        (subst (λ o. Fits o h.seat jobs port) (sym e) (h.told port v at))
        (λ j u other is. h.told j u is);
  }

  -- who has this side learns more
  pub grows : {jobs k : List LaneJob} (new : List LaneJob) {views : List Log} (port : ℕ) {v : Log}
      (w : Log) → f v ≡ Some k → f w ≡ Some new → Has f jobs views → get_elem? views port ≡ some v
      → Has f new (set views port w)
  grows {jobs = jobs} {k = k} new {views = views} port {v = v} w e e' h at = let mine = seated (f v)
      k h.seat jobs port e (h.told port v at) in record {
        seat = port;
        told = all_set port new views port w (fits_some (f w) new port new port e' (refl, refl))
            (λ j u other is. apart (f u) h.seat port jobs new j (λ p. other (p ∙ sym mine.0))
            (h.told j u is));
      }

  -- a new pass comes without this side
  pub beside : {jobs : List LaneJob} {views : List Log} (r : Log) → f r ≡ None → Has f jobs views
      → Has f jobs (views ++ r ∷ [])
  beside {jobs = jobs} {views = views} r e h = record {
    seat = h.seat;
    told = λ j u is. ⊎_elim (λ (x : get_elem? views j ≡ some u). h.told j u x)
        (λ (x : r ≡ u). fits_none (f u) h.seat jobs j (ap f (sym x) ∙ e)) (at_snoc views r u j is);
  }

  -- this side goes to a new pass
  pub goes : {jobs k : List LaneJob} {views : List Log} (port : ℕ) {v : Log} (l r : Log)
      → f v ≡ Some k → f l ≡ None → f r ≡ Some k → Has f jobs views → get_elem? views port ≡ some v
      → Has f jobs (set views port l ++ r ∷ [])
  goes {jobs = jobs} {k = k} {views = views} port {v = v} l r e el er h at = let mine = seated (f v)
      k h.seat jobs port e (h.told port v at) in let vs : List Log = set views port l in
      let left : (j : ℕ) (u : Log) → get_elem? vs j ≡ some u → (f u ≡ Some k)
      → ⊥ = λ j u is some_k. ⊎_elim
      (λ (x : (j ≡ port) × (l ≡ u)). none_some k (sym el ∙ ap f x.1 ∙ some_k))
      (λ (x : (j ≢ port) × (get_elem? views j ≡ some u)). x.0
      ((seated (f u) k h.seat jobs j some_k (h.told j u x.1)).0 ∙ sym mine.0))
      (at_set views port j l u is) in
      record {
        seat = length vs;
        told = λ j u is. ⊎_elim
            (λ (x : get_elem? vs j ≡ some u). all_set (length vs) jobs views port l
            (fits_none (f l) (length vs) jobs port el)
            (λ j u other is. apart (f u) h.seat (length vs) jobs jobs j
            (λ p. other (p ∙ sym mine.0)) (h.told j u is)) j u x)
            (λ (x : r ≡ u). let e' : f u ≡ Some k = ap f (sym x) ∙ er in
            fits_some (f u) k (length vs) jobs j e'
            (at_end vs r u j (λ old. left j u old e') is, mine.1)) (at_snoc vs r u j is);
      }

  -- this side comes from the other pass, which is spent
  pub comes : {jobs k : List LaneJob} {views : List Log} (port other : ℕ) {w : Log}
      (both spent : Log) → f w ≡ Some k → f both ≡ Some k → f spent ≡ None → Has f jobs views
      → other ≢ port → get_elem? (set views port both) other ≡ some w
      → Has f jobs (set (set views port both) other spent)
  comes {jobs = jobs} {k = k} {views = views} port other {w = w} both spent e eb es h two at =
      let was : get_elem? views other ≡ some w = ⊎_elim (λ x. absurd (two x.0)) (λ x. x.1)
      (at_set views port other both w at) in
      let theirs = seated (f w) k h.seat jobs other e (h.told other w was) in
      record {
        seat = port;
        told = all_set port jobs (set views port both) other spent
            (fits_none (f spent) port jobs other es)
            (λ j u n is. ⊎_elim
            (λ (x : (j ≡ port) × (both ≡ u)). fits_some (f u) k port jobs j (ap f (sym x.1) ∙ eb)
            (x.0, theirs.1))
            (λ (x : (j ≢ port) × (get_elem? views j ≡ some u)). apart (f u) h.seat port jobs jobs j
            (λ p. n (p ∙ sym theirs.0)) (h.told j u x.1)) (at_set views port j both u is));
      }

  -- the other pass is spent, and this side stays as it is
  pub stays : {jobs : List LaneJob} {views : List Log} (port other : ℕ) {v : Log} (both spent : Log)
      → f both ≡ f v → f spent ≡ None → Has f jobs views → get_elem? views port ≡ some v
      → Has f jobs (set (set views port both) other spent)
  stays {jobs = jobs} {views = views} port other {v = v} both spent e es h at = let now = same port
      both e h at in record {
        seat = now.seat;
        told = all_set now.seat jobs (set views port both) other spent
            (fits_none (f spent) now.seat jobs other es) (λ j u n is. now.told j u is);
      }
