-- Input that is lines of documents that fit isn't refused (specs/Laws).
use Rattle.std.proofs.Common.{◌≡◌, ℕ, suc, ◌+◌, ◌≤◌, Bool, true, false, not, ◌&&◌, List, [], ◌∷◌}
use Rattle.std.proofs.Common.{◌++◌, length, drop, if◌then◌else◌, nat_lt, ◌==◌, Some, None, Ok, Err}
use Rattle.std.proofs.Common.{Option, Result, sym, refl, ap, ◌∙◌, subst, arith, le-ltb, ne_eqb}
use Rattle.{std.proofs.lemmas.Bool.eqb-false, string_tables.specs.StringTable.StringTable}
use Rattle.unit_streams.proofs.Accepted.{accepted_or_offended, leads_length}
use Rattle.unit_streams.{proofs.Units.short_below, specs.Front.whole, specs.Grammar.Grammar}
use Rattle.unit_streams.specs.Units.{Counted, IsAccepted, size_of, UnitsLead}
use Rattle.nbfx_values.specs.declared.{content.ArrayItem.ArrayItem, position.Position.Position}
use Rattle.nbfx_values.specs.declared.content.Item.{Item, TheVariants.Text, TheVariants.Xmlns}
use Rattle.nbfx_values.specs.declared.content.Item.TheVariants.{Array, Attr, Close, Comment, Start}
use Rattle.nbfx_values.specs.declared.position.Position.TheVariants.{After, Before, Within}
use Rattle.nbfx_values.specs.Positions.{position_of}
use Rattle.nbfx_encoder.specs.Envelopes.{behind_bytes, envelope, envelope_then, envelopes_from}
use Rattle.nbfx_encoder.specs.{Envelopes.UnfitAt, Placing.Placed, Spelling.encoded, Spelling.Unfit}
use Rattle.line_notation.specs.declared.{line.Line.Line, reader.LineFault.LineFault}
use Rattle.line_notation.specs.declared.reader.LineKind.{LineKind, TheVariants.WrongCount}
use Rattle.line_notation.specs.{Between.is_between, Between.next_line, Lines.cut, Lines.cut_before}
use Rattle.line_notation.specs.{Forms.Form, Forms.form_of, Judging.judged, Laws.AreOfWhatTheyBring}
use Rattle.line_notation.specs.LineReaderState.{answer_of, at_start, document_of, documents_from}
use Rattle.line_notation.specs.LineReaderState.{documents_of, ending, ends as ends_document, failed}
use Rattle.line_notation.specs.LineReaderState.{going, kind_of, led, on as leads_on, outcome}
use Rattle.line_notation.specs.LineReaderState.{outcome_of, Placed as PlacedLine, placed}
use Rattle.line_notation.specs.LineReaderState.{placed_array, placed_at, Standing, standing}
use Rattle.line_notation.specs.LineReaderState.{standing_from, standing_of}
use Rattle.document_lines.specs.declared.InputFault.{InputFault, TheVariants.Line as RefusedLine}
use Rattle.document_lines.specs.Input.{behind_line, ending_fault, fault_of, is_full, is_singleton}
use Rattle.document_lines.specs.Input.{document_rules, lines_of_documents, refused_line, Settings}
use Rattle.document_lines.specs.Input.{Situation, start_of, table_of}
use Rattle.document_lines.specs.Laws.{FittingIsAccepted, MayBeBuilt}
use Rattle.line_streams.proofs.{LineFacts.other_cut, LineFacts.short_enough, Walking.lines_of}
use Rattle.line_streams.specs.LineRules.{line_at, with_byte}
use Rattle.document_lines.proofs.{Built.at, Lines.readable}
use Rattle.document_lines.proofs.Written.{led_documents, led_lines}
use Rattle.line_notation.specs.declared.line.Line.TheVariants as says

-- ---- lines of bytes

abbrev Cut : Type 0
Cut = List (List ℕ) × List ℕ

-- bytes have this line first, behind which they are cut so
abbrev HasFirst : (bytes line : List ℕ) → (lines : List (List ℕ)) → (rest : List ℕ) → Type 0
HasFirst bytes line lines rest = (line_at {R = InputFault} bytes ≡ whole line (length line + 1))
    × (cut (drop (length line + 1) bytes) ≡ (lines, rest))

-- the first line of bytes that are cut so
line_of_cut : (bytes line : List ℕ) (lines : List (List ℕ)) (rest : List ℕ)
    → cut bytes ≡ (line ∷ lines, rest) → HasFirst bytes line lines rest
line_of_cut [] line lines rest e = absurd (no_lines e) where
  no_lines : ◌≡◌ {A = Cut} ([], []) (line ∷ lines, rest) → ⊥
  no_lines e = let h : ◌≡◌ {A = List (List ℕ)} [] (line ∷ lines) = ap (λ (v : Cut). v.0) e in cc
line_of_cut (b ∷ bytes) line lines rest e = by_feed (line_of_cut bytes) (b == 10) refl e where
  by_more : (l : List ℕ) (ls : List (List ℕ)) (r : List ℕ) → cut bytes ≡ (l ∷ ls, r)
      → (b == 10) ≡ false → cut_before b (l ∷ ls, r) ≡ (line ∷ lines, rest)
      → HasFirst bytes l ls r → HasFirst (b ∷ bytes) line lines rest
  by_more l ls r is feed e later =
      let all : ◌≡◌ {A = List (List ℕ)} ((b ∷ l) ∷ ls) (line ∷ lines) = ap (λ (v : Cut). v.0) e in
      let first : b ∷ l ≡ line = cc in
      let others : ls ≡ lines = cc in
      let tail : r ≡ rest = ap (λ (v : Cut). v.1) e in
      let size : length l + 1 + 1 ≡ suc (length l) + 1 = omega arith in
      let next : suc (length l) + 1 ≡ suc (length l + 1) = omega arith in
      subst (λ (t : List ℕ). HasFirst (b ∷ bytes) t lines rest) first
      (subst (λ (k : List (List ℕ)). HasFirst (b ∷ bytes) (b ∷ l) k rest) others
      (subst (λ (k : List ℕ). HasFirst (b ∷ bytes) (b ∷ l) ls k) tail (
        rw feed (ap (with_byte b) later.0 ∙ ap (λ (n : ℕ). whole (b ∷ l) n) size),
        ap (λ (n : ℕ). cut (drop n (b ∷ bytes))) next ∙ later.1,
      )))

  by_cut : (v : Cut) → cut bytes ≡ v → (b == 10) ≡ false
      → cut_before b v ≡ (line ∷ lines, rest)
      → ((l : List ℕ) (ls : List (List ℕ)) (r : List ℕ) → cut bytes ≡ (l ∷ ls, r)
      → HasFirst bytes l ls r) → HasFirst (b ∷ bytes) line lines rest
  by_cut ([], r) is feed e later = absurd (no_lines r e) where
    no_lines : (r : List ℕ) → ◌≡◌ {A = Cut} ([], b ∷ r) (line ∷ lines, rest) → ⊥
    no_lines r e =
        let h : ◌≡◌ {A = List (List ℕ)} [] (line ∷ lines) = ap (λ (v : Cut). v.0) e in cc
  by_cut (l ∷ ls, r) is feed e later = by_more l ls r is feed e (later l ls r is)

  by_feed : ((l : List ℕ) (ls : List (List ℕ)) (r : List ℕ) → cut bytes ≡ (l ∷ ls, r)
      → HasFirst bytes l ls r) → (v : Bool) → (b == 10) ≡ v
      → cut (b ∷ bytes) ≡ (line ∷ lines, rest) → HasFirst (b ∷ bytes) line lines rest
  by_feed later true feed e =
      let h : ◌≡◌ {A = Cut} ([] ∷ (cut bytes).0, (cut bytes).1) (line ∷ lines, rest)
      = rw feed at e in
      let all : ◌≡◌ {A = List (List ℕ)} ([] ∷ (cut bytes).0) (line ∷ lines)
      = ap (λ (v : Cut). v.0) h in
      let first : [] ≡ line = cc in
      let others : (cut bytes).0 ≡ lines = cc in
      let tail : (cut bytes).1 ≡ rest = ap (λ (v : Cut). v.1) h in
      subst (λ (t : List ℕ). HasFirst (b ∷ bytes) t lines rest) first (
        rw feed refl,
        ap (λ (k : List (List ℕ)). (k, (cut bytes).1)) others
            ∙ ap (λ (k : List ℕ). (lines, k)) tail,
      )
  by_feed later false feed e = by_cut (cut bytes) refl feed (rw feed at e) later

-- bytes that are cut into nothing are none
nothing_cut : (bytes : List ℕ) → cut bytes ≡ ([], []) → bytes ≡ []
nothing_cut [] e = refl
nothing_cut (b ∷ bytes) e = by_feed (b == 10) refl (cut bytes) refl e where
  by_feed : (v : Bool) → (b == 10) ≡ v → (c : List (List ℕ) × List ℕ) → cut bytes ≡ c
      → cut (b ∷ bytes) ≡ ([], []) → b ∷ bytes ≡ []
  by_feed true feed c is e =
      let h : ◌≡◌ {A = Cut} ([] ∷ (cut bytes).0, (cut bytes).1) ([], []) = rw feed at e in
      let h2 : ◌≡◌ {A = List (List ℕ)} ([] ∷ (cut bytes).0) [] = ap (λ (v : Cut). v.0) h in cc
  by_feed false feed ([], r) is e =
      let h : ◌≡◌ {A = Cut} ([], b ∷ r) ([], []) = sym
      (other_cut b bytes feed ∙ ap (cut_before b) is) ∙ e in
      let h2 : b ∷ r ≡ [] = ap (λ (v : Cut). v.1) h in cc
  by_feed false feed (l ∷ ls, r) is e =
      let h : ◌≡◌ {A = Cut} ((b ∷ l) ∷ ls, r) ([], [])
      = sym (other_cut b bytes feed ∙ ap (cut_before b) is) ∙ e in
      let h2 : (b ∷ l) ∷ ls ≡ [] = ap (λ (v : Cut). v.0) h in cc

-- ---- where lines lead that end between documents

-- a reader that has failed stays so
failed_ends : (lines : List (List ℕ)) (fault : LineFault)
    → ending (standing_from (failed fault) lines) ≡ Ok tt → ⊥
failed_ends [] fault e = cc
failed_ends (line ∷ lines) fault e = failed_ends lines fault e

-- items that don't end a document have begun one
item_within : (m : ℕ) (items : List Item) (item : Item) (p : Option Position) (i : List Item)
    (a : Option ArrayItem) → placed_at p (items ++ item ∷ []) ≡ Ok (leads_on i a)
    → is_between (going m i a) ≡ false
item_within m items item p i a e = by_place p e where
  begun_items : (its : List Item) → is_between (going m (its ++ item ∷ []) None) ≡ false
  begun_items [] = refl
  begun_items (one ∷ its) = refl

  same : ◌≡◌ {A = Result PlacedLine LineKind} (Ok (leads_on (items ++ item ∷ []) None))
      (Ok (leads_on i a))
      → is_between (going m i a) ≡ false
  same e =
      let left : items ++ item ∷ [] ≡ i = cc in
      let right : None ≡ a = cc in
      subst (λ (b : Option ArrayItem). is_between (going m i b) ≡ false) right
      (subst (λ (k : List Item). is_between (going m k None) ≡ false) left (begun_items items))

  by_place : (p : Option Position) → placed_at p (items ++ item ∷ []) ≡ Ok (leads_on i a)
      → is_between (going m i a) ≡ false
  by_place None e = cc
  by_place (Some Before) e = same e
  by_place (Some (Within inner attributes)) e = same e
  by_place (Some After) e = cc

-- an array that is open stands within a document
array_within : (m : ℕ) (items : List Item) (b : ArrayItem)
    → is_between (going m items (Some b)) ≡ false
array_within m [] b = refl
array_within m (item ∷ items) b = refl

-- within a document a line leads within it, or to its end
module _ (m : ℕ) (i : List Item) (a : Option ArrayItem) where
  abbrev Stays : Result PlacedLine LineKind → Type 0
  Stays o = o ≡ Ok (leads_on i a) → is_between (going m i a) ≡ false

  on_array : (items : List Item) (b : ArrayItem) → Stays (Ok (leads_on items (Some b)))
  on_array items b e =
      let left : items ≡ i = cc in
      let right : Some b ≡ a = cc in
      subst (λ (c : Option ArrayItem). is_between (going m i c) ≡ false) right
      (subst (λ (k : List Item). is_between (going m k (Some b)) ≡ false) left
      (array_within m items b))

  array_stays : (items : List Item) (b : ArrayItem) (p : Option Position)
      → Stays (placed_array p items b)
  array_stays items b None e = cc
  array_stays items b (Some Before) e = cc
  array_stays items b (Some (Within inner attributes)) e = on_array items b e
  array_stays items b (Some After) e = cc

  placed_stays : (items : List Item) (array : Option ArrayItem) (line : Line)
      → Stays (placed items array line)
  placed_stays items None (says.Item item) e =
      item_within m items item (position_of (items ++ item ∷ [])) i a e
  placed_stays items None (says.Array b) e = array_stays items b (position_of items) e
  placed_stays items None (says.Values scalars) e = cc
  placed_stays items (Some b) (says.Item (Xmlns prefix uri)) e = on_array items _ e
  placed_stays items (Some b) (says.Item (Attr prefix local value)) e = on_array items _ e
  placed_stays items (Some b) (says.Item (Start prefix local)) e = cc
  placed_stays items (Some b) (says.Item (Text value)) e = cc
  placed_stays items (Some b) (says.Item (Comment bytes)) e = cc
  placed_stays items (Some b) (says.Item (Array c)) e = cc
  placed_stays items (Some b) (says.Item Close) e = cc
  placed_stays items (Some b) (says.Array c) e = cc
  placed_stays items (Some b) (says.Values scalars) e =
      let last : Item = Array (record b { values = scalars }) in
      item_within m items last (position_of (items ++ last ∷ [])) i a e

  led_stays : (items : List Item) (array : Option ArrayItem) (said : Result Line LineKind)
      → Stays (led items array said)
  led_stays items array (Err kind) e = cc
  led_stays items array (Ok line) e = placed_stays items array line e

  form_stays : (items : List Item) (array : Option ArrayItem) (form : Option Form)
      → Stays (outcome_of items array form)
  form_stays items array None e = cc
  form_stays items array (Some form) e =
      led_stays items array (judged (kind_of array) form) e

  line_stays : (n : ℕ) (items : List Item) (array : Option ArrayItem) (line : List ℕ)
      → is_between (going n items array) ≡ false → Stays (outcome items array line)
  line_stays n [] None line within e = cc
  line_stays n [] (Some b) line within e = form_stays [] (Some b) (form_of line) e
  line_stays n (item ∷ items) None line within e =
      form_stays (item ∷ items) None (form_of line) e
  line_stays n (item ∷ items) (Some b) line within e =
      form_stays (item ∷ items) (Some b) (form_of line) e

-- lines that end between documents bring the one that has begun
within_brings : (lines : List (List ℕ)) (n : ℕ) (items : List Item) (array : Option ArrayItem)
    → is_between (going n items array) ≡ false
    → ending (standing_from (going n items array) lines) ≡ Ok tt
    → 1 ≤ length (documents_from (going n items array) lines)
within_brings [] n [] None within e = cc
within_brings [] n [] (Some b) within e = cc
within_brings [] n (item ∷ items) array within e = cc
within_brings (line ∷ lines) n items array within e =
    by_outcome (outcome items array line) refl e (within_brings lines (n + 1)) where
      by_outcome : (o : Result PlacedLine LineKind) → outcome items array line ≡ o
          → ending (standing_from (standing_of (n + 1) o) lines) ≡ Ok tt
          → ((i : List Item) (a : Option ArrayItem) → is_between (going (n + 1) i a) ≡ false
          → ending (standing_from (going (n + 1) i a) lines) ≡ Ok tt
          → 1 ≤ length (documents_from (going (n + 1) i a) lines))
          → 1 ≤ length (document_of (answer_of (n + 1) o)
          ++ documents_from (standing_of (n + 1) o) lines)
      by_outcome (Ok (leads_on i a)) is e later =
          later i a (line_stays (n + 1) i a n items array line within is) e
      by_outcome (Ok (ends_document doc)) is e later = omega arith
      by_outcome (Err kind) is e later = absurd (failed_ends lines _ e)

-- ---- documents that fit

module _ (x : Settings) where
  abbrev g : Grammar Situation (List ℕ) (List ℕ) InputFault
  g = lines_of_documents x

  -- documents fit, the first of which has this number
  abbrev Fit : StringTable → ℕ → List (List Item) → Type 0
  Fit table k docs = (sent : Placed (List ℕ))
      × (envelopes_from x.limits x.kind x.mode table k docs ≡ Ok sent)

  -- so many before them and these are no more than the mode takes
  abbrev AreFew : ℕ → List (List Item) → Type 0
  AreFew k docs = is_singleton x.mode ≡ true → k + length docs ≤ 1

  -- the bytes are these lines, none of which is refused
  record LeadsOn (z : Situation) (from : ℕ) (lines : List (List ℕ)) (bytes : List ℕ)
      : Type 0 where
    units : List (Counted (List ℕ))
    situation : Situation
    lines_are : lines_of (document_rules x) units ≡ lines
    lead : UnitsLead g z from units bytes situation []

  -- the first fits, and so do the others
  first_fits : (v : Result (Placed (List ℕ)) Unfit) (k : ℕ) (docs : List (List Item))
      (sent : Placed (List ℕ))
      → envelope_then x.mode k v (λ table. envelopes_from x.limits x.kind x.mode table (k + 1)
      docs) ≡ Ok sent
      → (payload : Placed (List ℕ)) × (v ≡ Ok payload) × Fit payload.1 (k + 1) docs
  first_fits (Err why) k docs sent e = cc
  first_fits (Ok payload) k docs sent e = (
    payload,
    refl,
    by_later (envelopes_from x.limits x.kind x.mode payload.1 (k + 1) docs) refl
        e,
  ) where
    by_later : (r : Result (Placed (List ℕ)) UnfitAt)
        → envelopes_from x.limits x.kind x.mode payload.1 (k + 1) docs ≡ r
        → behind_bytes (envelope x.mode payload.0) r ≡ Ok sent → Fit payload.1 (k + 1) docs
    by_later (Ok more) is e = (more, is)
    by_later (Err unfit) is e = cc

  -- in singleton mode no document begins behind another
  begins_none : (n k : ℕ) (table : StringTable) (lines : List (List ℕ)) (s : Standing)
      (i : List Item) (a : Option ArrayItem)
      → ending (standing_from (going n i a) lines) ≡ Ok tt
      → AreFew k (documents_from (going n i a) lines)
      → (is_full x (at x s table k) && (is_between s && not (is_between (going n i a)))) ≡ false
  begins_none n k table lines s i a e few =
      by_test (is_singleton x.mode) refl (k == 0) refl (is_between s) (is_between (going n i a))
      refl where
        by_test : (single : Bool) → is_singleton x.mode ≡ single → (zero : Bool) → (k == 0) ≡ zero
            → (b c : Bool) → is_between (going n i a) ≡ c
            → ((single && not zero) && (b && not c)) ≡ false
        by_test false one zero none b c is = refl
        by_test true one true none b c is = refl
        by_test true one false none false c is = refl
        by_test true one false none true true is = refl
        by_test true one false none true false is =
            let some = within_brings lines n i a is e in
            let never = eqb-false k 0 none in
            let most = few one in
            absurd (never (omega (arith, some, most)))

  module _ (line : List ℕ) (lines : List (List ℕ)) (from : ℕ) (tail : List ℕ)
      (later : (n : ℕ) (items : List Item) (array : Option ArrayItem) (table : StringTable)
      (k : ℕ) → ending (standing_from (going n items array) lines) ≡ Ok tt
      → Fit table k (documents_from (going n items array) lines)
      → AreFew k (documents_from (going n items array) lines)
      → LeadsOn (at x (going n items array) table k) from lines tail)
    where
      abbrev Goes : Standing → StringTable → ℕ → ℕ → Result PlacedLine LineKind → Type 0
      Goes s table k n o =
          (refused_line x (at x s table k) (standing_of n o) (answer_of n o) ≡ None)
          × LeadsOn (behind_line x (at x s table k) (standing_of n o) (answer_of n o)) from lines
          tail

      goes : (s : Standing) (table : StringTable) (k n : ℕ) (o : Result PlacedLine LineKind)
          → ending (standing_from (standing_of n o) lines) ≡ Ok tt
          → Fit table k (document_of (answer_of n o) ++ documents_from (standing_of n o) lines)
          → AreFew k (document_of (answer_of n o) ++ documents_from (standing_of n o) lines)
          → Goes s table k n o
      goes s table k n (Ok (leads_on i a)) e fit few = (
        rw (begins_none n k table lines s i a e few) refl,
        later n i a table k e fit few,
      )
      goes s table k n (Ok (ends_document doc)) e fit few =
          let docs = documents_from (going n [] None) lines in
          let f = first_fits (encoded x.limits x.kind table doc) k docs fit.0 fit.1 in
          let most : AreFew (k + 1) docs = λ single. let m = few single in omega (arith, m) in (
            ap (fault_of x k) f.1,
            subst (λ (v : Result (Placed (List ℕ)) Unfit). LeadsOn (at x (going n [] None)
                (table_of x table v) (k + 1)) from lines tail) (sym f.1)
                (later n [] None f.0.1 (k + 1) e f.2 most),
          )
      goes s table k n (Err kind) e fit few = absurd (failed_ends lines _ e)

  leads_on_lines : (lines : List (List ℕ)) (n : ℕ) (items : List Item)
      (array : Option ArrayItem) (table : StringTable) (k from : ℕ) (bytes : List ℕ)
      → cut bytes ≡ (lines, []) → ending (standing_from (going n items array) lines) ≡ Ok tt
      → Fit table k (documents_from (going n items array) lines)
      → AreFew k (documents_from (going n items array) lines)
      → LeadsOn (at x (going n items array) table k) from lines bytes
  unfolding UnitsLead
  leads_on_lines [] n items array table k from bytes cuts e fit few = record {
    units = [];
    situation = at x (going n items array) table k;
    lines_are = refl;
    lead = (refl, nothing_cut bytes cuts);
  }
  leads_on_lines (line ∷ lines) n items array table k from bytes cuts e fit few =
      let first = line_of_cut bytes line lines [] cuts in
      let size : ℕ = length line + 1 in
      let s : Standing = going n items array in
      let g = goes line lines (from + size) (drop size bytes)
      (λ n' i' a' t' k' e' fit' few'. leads_on_lines lines n' i' a' t' k' (from + size)
      (drop size bytes) first.1 e' fit' few')
      s table k (n + 1) (outcome items array line) e fit few in
      record {
        units = record { unit = line; size = size } ∷ g.1.units;
        situation = g.1.situation;
        lines_are = ap (λ (l : List (List ℕ)). line ∷ l) g.1.lines_are;
        lead = (first.0, g.0, g.1.lead);
      }

  -- ---- all of it

  between_is : (s : Standing) → ending s ≡ Ok tt → is_between s ≡ true
  between_is (failed fault) e = cc
  between_is (going n [] None) e = refl
  between_is (going n [] (Some b)) e = cc
  between_is (going n (item ∷ items) array) e = cc

  module _ (bring : AreOfWhatTheyBring) (bytes : List ℕ) (may : MayBeBuilt x bytes) where
    read : (documents_of may.lines ≡ may.documents) × (ending (standing may.lines) ≡ Ok tt)
    read = (bring may.documents may.lines).0 may.documents_are

    leading : LeadsOn (start_of x) 0 may.lines bytes
    leading = leads_on_lines may.lines 0 [] None (start_of x).table 0 0 bytes may.lines_are read.1
        (subst (Fit (start_of x).table 0) (sym read.0) (may.sent, may.all_fit))
        (subst (AreFew 0) (sym read.0) (λ single. let one = may.count single in omega (arith, one)))

    total : length bytes ≡ size_of leading.units + 0
    total = leads_length g (readable x) leading.units (start_of x) 0 bytes leading.situation []
        leading.lead

    ends_between : is_between leading.situation.lines ≡ true
    ends_between = between_is leading.situation.lines
        (ap ending (led_lines x leading.units (start_of x) 0 bytes leading.situation [] leading.lead
        ∙ ap (standing_from at_start) leading.lines_are) ∙ read.1)

    counted : leading.situation.documents ≡ length may.documents
    counted =
        let n = led_documents x leading.units (start_of x) 0 bytes leading.situation [] leading.lead
        in
        let same = ap (λ (l : List (List ℕ)). length (documents_from at_start l)) leading.lines_are
        in
        let those = ap length read.0 in
        omega (arith, n, same, those)

    may_end : ending_fault x (nat_lt (size_of leading.units) (length bytes)) leading.situation
        ≡ None
    may_end =
        let n = total in
        rw (le-ltb (size_of leading.units) (length bytes) (omega (arith, n)), ends_between)
        (by_mode (is_singleton x.mode) refl)
      where
        by_mode : (single : Bool) → is_singleton x.mode ≡ single
            → ◌≡◌ {A = Option InputFault}
            (if is_singleton x.mode && (leading.situation.documents == 0)
            then Some (RefusedLine (next_line leading.situation.lines) WrongCount) else None) None
        by_mode true is =
            let one = may.count is in
            let same = counted in
            let some : (leading.situation.documents == 0)
            ≡ false = ne_eqb leading.situation.documents 0
            (λ zero. omega (arith, one, same, zero)) in
            rw (is, some) refl
        by_mode false is = rw is refl

    accepted : IsAccepted g bytes
    accepted = record {
      units = leading.units;
      situation = leading.situation;
      rest = [];
      lead = leading.lead;
      units_short = short_below g (readable x) x.limits.session
          (λ y from n lt. short_enough (document_rules x) n lt) leading.units (start_of x) 0
          (let n = total in let few = may.short in omega (arith, n, few));
      rest_begun = refl;
      rest_short = λ n least most. short_enough (document_rules x) n
          (let few = may.short in omega (arith, most, few));
      may_end = may_end;
    }

pub fitting_is_accepted : AreOfWhatTheyBring → FittingIsAccepted
fitting_is_accepted bring x bytes may =
    (accepted_or_offended (lines_of_documents x) (readable x) bytes).1
    (accepted x bring bytes may)
