-- Each move keeps the rule.
use Rattle.std.proofs.Common.{◌≡◌, ℕ, true, true≢false, List, [], ◌∷◌, ◌++◌, sym, refl, ap, ◌∙◌}
use Rattle.std.proofs.Common.{subst, append_assoc, append-nil, set, Option, None, Some}
use Rattle.std.proofs.lemmas.List.Elements.{filter-append}
use Rattle.crossbeam_channel.specs.Fifo.{Pushes, Pops, Forks, Merges, Learns}
use Rattle.two_lanes.specs.declared.jobs.Lane.{Lane}
use Rattle.two_lanes.specs.declared.jobs.Lane.TheVariants.{A, B}
use Rattle.two_lanes.specs.declared.jobs.LaneJob.{LaneJob}
use Rattle.two_lanes.specs.declared.jobs.LaneJob.TheVariants.{Send, Last, Back}
use Rattle.two_lanes.specs.declared.jobs.Log.{Log}
use Rattle.two_lanes.specs.Jobs.{log, Has, Crossing, AllTold, after_send, send_on, may_send, more}
use Rattle.two_lanes.specs.Jobs.{known, is_known, is_lane, lane_of, of}
use Rattle.two_lanes.proofs.Seats.{alone, same, grows, beside, goes, comes, stays, knows}

is_some : (o : Option (List LaneJob)) → is_known o ≡ true → o ≡ Some (known o)
is_some None e = absurd (true≢false (sym e))
is_some (Some k) e = refl

more_some : (x : LaneJob) (o : Option (List LaneJob)) → is_known o ≡ true
    → more x o ≡ Some (known o ++ x ∷ [])
more_some x None e = absurd (true≢false (sym e))
more_some x (Some k) e = refl

-- a job more of its lane is no job more of the other
of-snoc : (lane : Lane) (got items : List LaneJob) (x : LaneJob)
    → of lane (got ++ (items ++ x ∷ [])) ≡ of lane (got ++ items) ++ of lane (x ∷ [])
of-snoc lane got items x = ap (of lane) (sym (append_assoc got items (x ∷ [])))
    ∙ filter-append (λ job. is_lane lane (lane_of job)) (got ++ items) (x ∷ [])

pub begins : Crossing [] (log (Some []) (Some []) (Some []) ∷ [])
begins = ([], alone (λ v. v.a) [] _ refl, alone (λ v. v.b) [] _ refl, alone (λ v. v.got) [] _ refl)

sends_a : (n port : ℕ) (v : Log) (x : LaneJob) → is_known v.a ≡ true → of A (x ∷ []) ≡ x ∷ []
    → of B (x ∷ []) ≡ [] → Pushes Crossing n port v x (λ w. w ≡ send_on A v x)
sends_a n port v x may mine other items views room h at =
    let w : Log = send_on A v x in
    let e : known v.a ≡ of A (h.0 ++ items) = knows (λ v. v.a) port (is_some v.a may) h.1 at in
    let e_a : known v.a ++ x ∷ [] ≡ of A (h.0 ++ (items ++ x ∷ [])) = ap (λ l. l ++ x ∷ []) e
    ∙ ap (λ l. of A (h.0 ++ items) ++ l) (sym mine) ∙ sym (of-snoc A h.0 items x) in
    let e_b : of B (h.0 ++ items) ≡ of B (h.0 ++ (items ++ x ∷ [])) = sym
    (append-nil (of B (h.0 ++ items))) ∙ ap (λ l. of B (h.0 ++ items) ++ l) (sym other)
    ∙ sym (of-snoc B h.0 items x) in (
      w,
      (
        h.0,
        subst (λ l. Has (λ v. v.a) l (set views port w)) e_a
            (grows (λ v. v.a) (known v.a ++ x ∷ []) port w (is_some v.a may) (more_some x v.a may)
            h.1 at),
        subst (λ l. Has (λ v. v.b) l (set views port w)) e_b (same (λ v. v.b) port w refl h.2 at),
        same (λ v. v.got) port w refl h.3 at,
      ),
      refl,
    )

sends_b : (n port : ℕ) (v : Log) (x : LaneJob) → is_known v.b ≡ true → of B (x ∷ []) ≡ x ∷ []
    → of A (x ∷ []) ≡ [] → Pushes Crossing n port v x (λ w. w ≡ send_on B v x)
sends_b n port v x may mine other items views room h at =
    let w : Log = send_on B v x in
    let e : known v.b ≡ of B (h.0 ++ items) = knows (λ v. v.b) port (is_some v.b may) h.2 at in
    let e_b : known v.b ++ x ∷ [] ≡ of B (h.0 ++ (items ++ x ∷ [])) = ap (λ l. l ++ x ∷ []) e
    ∙ ap (λ l. of B (h.0 ++ items) ++ l) (sym mine) ∙ sym (of-snoc B h.0 items x) in
    let e_a : of A (h.0 ++ items) ≡ of A (h.0 ++ (items ++ x ∷ [])) = sym
    (append-nil (of A (h.0 ++ items))) ∙ ap (λ l. of A (h.0 ++ items) ++ l) (sym other)
    ∙ sym (of-snoc A h.0 items x) in (
      w,
      (
        h.0,
        subst (λ l. Has (λ v. v.a) l (set views port w)) e_a (same (λ v. v.a) port w refl h.1 at),
        subst (λ l. Has (λ v. v.b) l (set views port w)) e_b
            (grows (λ v. v.b) (known v.b ++ x ∷ []) port w (is_some v.b may) (more_some x v.b may)
            h.2 at),
        same (λ v. v.got) port w refl h.3 at,
      ),
      refl,
    )

pub sends : (n port : ℕ) (v : Log) (x : LaneJob) → may_send v x ≡ true
    → Pushes Crossing n port v x (λ w. w ≡ after_send v x)
sends n port v (Send A i) may = sends_a n port v (Send A i) may refl refl
sends n port v (Send B i) may = sends_b n port v (Send B i) may refl refl
sends n port v (Last A) may = sends_a n port v (Last A) may refl refl
sends n port v (Last B) may = sends_b n port v (Last B) may refl refl
sends n port v Back may = sends_a n port v Back may refl refl

pub gets : (port : ℕ) (v : Log) → is_known v.got ≡ true
    → Pops Crossing port v (λ x w. w ≡ log v.a v.b (more x v.got))
gets port v may x items views h at =
    let w : Log = log v.a v.b (more x v.got) in let got = h.0 ++ x ∷ [] in
    let e : known v.got ≡ h.0 = knows (λ v. v.got) port (is_some v.got may) h.3 at in
    let moved : h.0 ++ (x ∷ items) ≡ got ++ items = sym (append_assoc h.0 (x ∷ []) items) in (
      w,
      (
        got,
        subst (λ l. Has (λ v. v.a) (of A l) (set views port w)) moved
            (same (λ v. v.a) port w refl h.1 at),
        subst (λ l. Has (λ v. v.b) (of B l) (set views port w)) moved
            (same (λ v. v.b) port w refl h.2 at),
        grows (λ v. v.got) got port w (is_some v.got may)
            (more_some x v.got may ∙ ap (λ l. Some (l ++ x ∷ [])) e) h.3 at,
      ),
      refl,
    )

pub forks_working : (port : ℕ) (v : Log) → is_known v.got ≡ true
    → Forks Crossing port v (log v.a v.b None) (log None None v.got)
forks_working port v may items views h at = let l : Log = log v.a v.b None in let r : Log = log None
    None v.got in (
      h.0,
      beside (λ v. v.a) r refl (same (λ v. v.a) port l refl h.1 at),
      beside (λ v. v.b) r refl (same (λ v. v.b) port l refl h.2 at),
      goes (λ v. v.got) port l r (is_some v.got may) refl (is_some v.got may) h.3 at,
    )

pub forks_lanes : (port : ℕ) (v : Log) → is_known v.b ≡ true
    → Forks Crossing port v (log v.a None v.got) (log None v.b None)
forks_lanes port v may items views h at = let l : Log = log v.a None v.got in let r : Log = log None
    v.b None in (
      h.0,
      beside (λ v. v.a) r refl (same (λ v. v.a) port l refl h.1 at),
      goes (λ v. v.b) port l r (is_some v.b may) refl (is_some v.b may) h.2 at,
      beside (λ v. v.got) r refl (same (λ v. v.got) port l refl h.3 at),
    )

pub merges_working : (port : ℕ) (v : Log) (other : ℕ) (w : Log) → is_known w.got ≡ true
    → Merges Crossing port v other w (log v.a v.b w.got) (log None None None)
merges_working port v other w may items views h at two at' = let both : Log = log v.a v.b w.got in
    let spent : Log = log None None None in (
      h.0,
      stays (λ v. v.a) port other both spent refl refl h.1 at,
      stays (λ v. v.b) port other both spent refl refl h.2 at,
      comes (λ v. v.got) port other both spent (is_some w.got may) (is_some w.got may) refl h.3 two at',
    )

pub merges_lanes : (port : ℕ) (v : Log) (other : ℕ) (w : Log) → is_known w.b ≡ true
    → Merges Crossing port v other w (log v.a w.b v.got) (log None None None)
merges_lanes port v other w may items views h at two at' = let both : Log = log v.a w.b v.got in let
    spent : Log = log None None None in (
      h.0,
      stays (λ v. v.a) port other both spent refl refl h.1 at,
      comes (λ v. v.b) port other both spent (is_some w.b may) (is_some w.b may) refl h.2 two at',
      stays (λ v. v.got) port other both spent refl refl h.3 at,
    )

pub totals : (port : ℕ) (v : Log) → is_known v.a ≡ true → is_known v.b ≡ true
    → is_known v.got ≡ true → Learns Crossing port v (AllTold v)
totals port v a b got items views h at =
    let g : known v.got ≡ h.0 = knows (λ v. v.got) port (is_some v.got got) h.3 at in
    let e_a : v.a ≡ Some (of A (known v.got ++ items)) = is_some v.a a
    ∙ ap Some (knows (λ v. v.a) port (is_some v.a a) h.1 at)
    ∙ ap (λ l. Some (of A (l ++ items))) (sym g) in
    let e_b : v.b ≡ Some (of B (known v.got ++ items)) = is_some v.b b
    ∙ ap Some (knows (λ v. v.b) port (is_some v.b b) h.2 at)
    ∙ ap (λ l. Some (of B (l ++ items))) (sym g) in
    λ i. log (e_a i) (e_b i) (is_some v.got got i)
