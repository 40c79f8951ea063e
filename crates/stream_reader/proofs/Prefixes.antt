-- What holds before the first unit of a stream, and behind each whole unit where it holds before
-- it,
-- holds of each prefix that is whole units.
use Rattle.std.proofs.Common.{◌≡◌, ℕ, ◌<◌, ◌≤◌, List, [], ◌++◌, length, take, drop, sym, ap, ◌∙◌}
use Rattle.std.proofs.Common.{subst, append_assoc, append-nil, take-append-drop, length-take-le}
use Rattle.unit_streams.proofs.{Refusals.unit_standing, Standing.peel_by, Standing.standing_nothing}
use Rattle.unit_streams.specs.{Front.IsOpen, Front.whole, Refusals.AreUnits}
use Rattle.unit_streams.specs.Grammar.{at_start, behind_unit, Grammar, IsReadable, next_unit}
use Rattle.unit_streams.specs.Grammar.{Standing, standing}

module _ {Z U E R : Type 0} (g : Grammar Z U E R) (readable : IsReadable g) (P : List ℕ → Type 0)
  where
    -- behind each unit
    abbrev pub KeepsBehind : Type 0
    KeepsBehind = (before bytes : List ℕ) (u : U) → AreUnits g before
        → g.unit_at (standing g before).situation (standing g before).from bytes
        ≡ whole u (length bytes) → P before → P (before ++ bytes)

    module _ (keeps : KeepsBehind) where
      -- from where the stream q stands, up to t
      abbrev Comes : Standing Z E R → Standing Z E R → Type 0
      Comes s t = (q : List ℕ) → standing g q ≡ record s { begun = [] } → P q → t.begun ≡ []
          → P (q ++ s.begun)

      stops : (s : Standing Z E R) → IsOpen (next_unit g s) → Comes s s
      stops s o q at h none = subst P (sym (append-nil q) ∙ ap (λ b. q ++ b) (sym none)) h

      peels_one : (s : Standing Z E R) (u : U) (k : ℕ) (t : Standing Z E R) → next_unit g s
          ≡ whole u k → 0 < k → k ≤ length s.begun → Comes (behind_unit g s u k) t → Comes s t
      peels_one s u k t e some within rest q at h none =
          let bytes : List ℕ = take k s.begun in
          let units : AreUnits g q = ap (λ (w : Standing Z E R). w.begun) at in
          let size : k ≡ length bytes = sym (length-take-le k s.begun within) in
          let reads : g.unit_at (standing g q).situation (standing g q).from bytes
          ≡ whole u (length bytes)
          = ap (λ (w : Standing Z E R). g.unit_at w.situation w.from bytes) at ∙
          (readable.reads s.situation s.from).whole_alone s.begun u k e ∙ ap (whole u) size in
          let stands : standing g (q ++ bytes) ≡ record (behind_unit g s u k) { begun = [] }
          = unit_standing g readable q bytes u units reads
          ∙ ap (λ n. record (behind_unit g (standing g q) u n) { begun = [] }) (sym size)
          ∙ ap (λ (w : Standing Z E R). record (behind_unit g w u k) { begun = [] }) at in
          let all : (q ++ bytes) ++ drop k s.begun ≡ q ++ s.begun = append_assoc q bytes
          (drop k s.begun) ∙ ap (λ c. q ++ c) (take-append-drop k s.begun) in
          subst P all (rest (q ++ bytes) stands (keeps q bytes u units reads h) none)

      pub units_keep : P [] → (p : List ℕ) → AreUnits g p → P p
      unfolding standing
      units_keep first p units = peel_by g readable Comes stops peels_one (at_start g p) []
          (standing_nothing g readable) first units
