-- The documents of a seed that were sent, and those that are to come.
use Rattle.std.proofs.Common.{◌≡◌, ℕ, zero, suc, ◌+◌, ◌-◌, ◌<◌, ◌≤◌, List, [], ◌∷◌, ◌++◌, length}
use Rattle.std.proofs.Common.{sym, refl, ap, ◌∙◌, subst, append_assoc, append-nil, arith}
use Rattle.string_tables.specs.StaticStrings.{Entry, IsStaticMap}
use Rattle.nbfx_values.specs.{declared.content.Item.Item, Limits.IsGood, Limits.Limits}
use Rattle.session_generator.specs.declared.ends.{Ends.Ends, GenFault.GenFault}
use Rattle.session_generator.specs.Documents.{document, documents, documents_from, drawn, stepped}
use Rattle.session_generator.specs.{Ends.HaveSession, Ends.IsWhyNone, UnderWay.Stops}
use Rattle.session_generator.proofs.Carrying.{why_none}

-- as many as were asked for
pub count_of : (count y number : ℕ) → length (documents_from y number count) ≡ count
unfolding documents_from
count_of zero y number = refl
count_of (suc count) y number = ap suc (count_of count (stepped y) (number + 1))

module _ (seed count y number : ℕ) (done : List (List Item)) where
  -- some were sent, and the others follow y
  abbrev pub AreSentBefore : Type 0
  AreSentBefore = documents seed count ≡ done ++ documents_from y number (count - number)

  -- one more
  pub one_sent : AreSentBefore → number < count → documents seed count
      ≡ (done ++ document number (drawn (stepped y)) ∷ [])
      ++ documents_from (stepped y) (number + 1) (count - (number + 1))
  unfolding documents_from
  one_sent is lt =
      let d : List Item = document number (drawn (stepped y)) in
      let less : count - number ≡ suc (count - (number + 1)) = omega arith in
      is ∙ ap (λ n. done ++ documents_from y number n) less
      ∙ sym (append_assoc done (d ∷ [])
      (documents_from (stepped y) (number + 1) (count - (number + 1))))

  -- all
  pub all_sent : AreSentBefore → count ≤ number → documents seed count ≡ done
  unfolding documents_from
  all_sent is ge =
      let none : count - number ≡ 0 = omega arith in
      is ∙ ap (λ n. done ++ documents_from y number n) none ∙ append-nil done

-- none
pub none_sent : (seed count : ℕ) → AreSentBefore seed count seed 0 []
none_sent seed count =
    let all : count ≡ count - 0 = omega arith in ap (documents_from seed 0) all

-- a session that was stopped with these
pub stopped_with : (statics : List Entry) (l : Limits) → IsGood l → IsStaticMap statics
    → (seed count y number more : ℕ) (done : List (List Item)) (fault : GenFault)
    → documents seed count ≡ done ++ documents_from y number more → Stops l statics done fault
    → IsWhyNone l statics (documents seed count) fault
stopped_with statics l good is_map seed count y number more done fault is stops =
    subst (λ ds. IsWhyNone l statics ds fault) (sym is)
    (why_none statics l good is_map done y number more fault stops)

-- a session that has ended with them
pub ended_with : (statics : List Entry) (l : Limits) (seed count : ℕ) (done : List (List Item))
    (ends : Ends) → documents seed count ≡ done → HaveSession l statics done ends
    → HaveSession l statics (documents seed count) ends
ended_with statics l seed count done ends is h =
    subst (λ ds. HaveSession l statics ds ends) (sym is) h

pub as_many : (l : Limits) (statics : List Entry) (seed count : ℕ) (ends : Ends)
    → HaveSession l statics (documents seed count) ends → ends.documents ≡ count
as_many l statics seed count ends h = h.documents_read ∙ count_of count seed 0
