-- What one job more leaves of what a pass knows, and of jobs that end.
use Rattle.std.proofs.Common.{◌≡◌, Bool, true, false, true≢false, List, [], ◌∷◌, ◌++◌, refl, sym}
use Rattle.std.proofs.Common.{ap, ◌∙◌, subst, append-nil}
use Rattle.worker_thread.specs.declared.rule.Log.{Log}
use Rattle.worker_thread.specs.Crossing.{log}
use Rattle.worker_thread.specs.Jobs.{AreFirst, IsEnded}

module _ {T : Type 0} where
  -- what a taker knows after one more job
  pub takes-more : (v w : Log T) (job : T) → v ≡ log false true [] v.taken
      → w ≡ log v.sends v.takes v.sent (v.taken ++ job ∷ [])
      → w ≡ log false true [] w.taken
  takes-more v w job i e =
      e ∙ ap (λ u. log u.sends u.takes u.sent (v.taken ++ job ∷ [])) i
      ∙ ap (λ l. log false true [] l) (sym (ap (λ u. u.taken) e))

  pub none-first : (is_last : T → Bool) → AreFirst is_last []
  unfolding AreFirst
  none-first is_last = tt

  pub first-more : (is_last : T → Bool) (jobs : List T) (job : T) → AreFirst is_last jobs
      → is_last job ≡ false → AreFirst is_last (jobs ++ job ∷ [])
  unfolding AreFirst
  first-more is_last [] job first e = (e, tt)
  first-more is_last (x ∷ jobs) job first e = (first.0, first-more is_last jobs job first.1 e)

  -- what a worker's thread knows of the jobs that it has taken, none of them the last one
  pub begun : (is_last : T → Bool) (Did : List T → Type 0) (v : Log T)
      → v ≡ log false true [] [] → Did []
      → (v ≡ log false true [] v.taken) × AreFirst is_last v.taken × Did v.taken
  begun is_last Did v e did = (
    e ∙ ap (λ l. log false true [] l) (sym (ap (λ u. u.taken) e)),
    subst (AreFirst is_last) (sym (ap (λ u. u.taken) e)) (none-first is_last),
    subst Did (sym (ap (λ u. u.taken) e)) did,
  )

  pub one-more : (is_last : T → Bool) (Did : List T → Type 0) (v w : Log T) (job : T)
      → v ≡ log false true [] v.taken → AreFirst is_last v.taken → is_last job ≡ false
      → w ≡ log v.sends v.takes v.sent (v.taken ++ job ∷ []) → Did (v.taken ++ job ∷ [])
      → (w ≡ log false true [] w.taken) × AreFirst is_last w.taken × Did w.taken
  one-more is_last Did v w job i first goes_on e did = (
    takes-more v w job i e,
    subst (AreFirst is_last) (sym (ap (λ u. u.taken) e))
        (first-more is_last v.taken job first goes_on),
    subst Did (sym (ap (λ u. u.taken) e)) did,
  )

  pub the-last : (is_last : T → Bool) (Did : List T → Type 0) (v w : Log T) (job : T)
      → v ≡ log false true [] v.taken → AreFirst is_last v.taken → is_last job ≡ true
      → w ≡ log v.sends v.takes v.sent (v.taken ++ job ∷ []) → Did (v.taken ++ job ∷ [])
      → (w ≡ log false true [] w.taken) × IsEnded is_last w.taken × Did w.taken
  the-last is_last Did v w job i first ends e did = (
    takes-more v w job i e,
    subst (IsEnded is_last) (sym (ap (λ u. u.taken) e)) record {
      before = v.taken;
      last = job;
      joined = refl;
      first = first;
      ended = ends;
    },
    subst Did (sym (ap (λ u. u.taken) e)) did,
  )

  abbrev tail_of : List T → List T
  tail_of [] = []
  tail_of (x ∷ rest) = rest

  abbrev head_of : T → List T → T
  head_of other [] = other
  head_of other (x ∷ xs) = x

  -- nothing stands behind the last of jobs, of which no other is one
  none-behind : (is_last : T → Bool) (xs : List T) (a : T) (bs : List T) (b : T) (items : List T)
      → xs ++ a ∷ [] ≡ (bs ++ b ∷ []) ++ items → AreFirst is_last xs → AreFirst is_last bs
      → is_last a ≡ true → is_last b ≡ true → items ≡ []
  unfolding AreFirst
  none-behind is_last [] a [] b items e f g p q = sym (ap tail_of e)
  none-behind is_last [] a (x ∷ bs) b items e f g p q =
      absurd (true≢false (sym p ∙ ap is_last (ap (head_of a) e) ∙ g.0))
  none-behind is_last (x ∷ xs) a [] b items e f g p q =
      absurd (true≢false (sym q ∙ ap is_last (sym (ap (head_of b) e)) ∙ f.0))
  none-behind is_last (x ∷ xs) a (y ∷ bs) b items e f g p q =
      none-behind is_last xs a bs b items (ap tail_of e) f.1 g.1 p q

  -- where the last job was taken, all were
  pub all-taken : (is_last : T → Bool) (sent taken items : List T) → IsEnded is_last sent
      → IsEnded is_last taken → sent ≡ taken ++ items → taken ≡ sent
  all-taken is_last sent taken items s t e =
      sym (append-nil taken) ∙ ap (λ l. taken ++ l) (sym (none-behind is_last s.before s.last t.before
      t.last items (sym s.joined ∙ e ∙ ap (λ l. l ++ items) t.joined) s.first t.first s.ended
      t.ended)) ∙ sym e

  -- what the sender knows, when it has its worker's pass back
  pub learned : (is_last : T → Bool) (v w x : Log T) (items : List T)
      → IsEnded is_last v.sent → IsEnded is_last w.taken → x ≡ log true true v.sent w.taken
      → x.sent ≡ x.taken ++ items → w.taken ≡ v.sent
  learned is_last v w x items s t e l = all-taken is_last v.sent w.taken items s t
      (sym (ap (λ u. u.sent) e) ∙ l ∙ ap (λ u. u.taken ++ items) e)
