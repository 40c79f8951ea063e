-- What a decoder shows, and that nothing of it changes where a document is handed back.
use Rattle.std.proofs.Common.{◌≡◌, ℕ, ◌*◌, ◌≤◌, List, [], length, sym, ap, ◌∙◌, subst, arith}
use Rattle.unit_streams.proofs.Standing.{standing_length}
use Rattle.string_tables.specs.SessionStrings.{used_cost}
use Rattle.nbfx_values.specs.Measures.{capped, content_of, opened_by}
use Rattle.nbfx_decoder.specs.declared.{decoder.Decoder.Decoder, faults.DecodeFault.DecodeFault}
use Rattle.nbfx_decoder.specs.{Bounds.KeepsWithin, Values.values_of}
use Rattle.nbfx_decoder.specs.DecoderState.{begun_of, Failed, FailedBehind, from_of, IsPlacedAt}
use Rattle.nbfx_decoder.specs.DecoderState.{settings_of, situation_of, StandsFor}
use Rattle.nbfx_decoder.specs.Payload.{payload, Settings}
use Rattle.nbfx_decoder.specs.Units.{HasStrings, KeepsTable}
use Rattle.nbfx_decoder.proofs.Keeping.{keeps_settings, strings_kept}
use Rattle.nbfx_decoder.proofs.{Readable.readable, Sound.keeps_within, StandsFacts.stands_of}
use Rattle.nbfx_decoder.proofs.StandsFacts.{content_most, counts_taken, depth_some, failed_of}
use Rattle.nbfx_decoder.proofs.StandsFacts.{items_here, reached_of, settings_kept, stands_as}

-- what the decoder shows of what it stands for
module _ (d : Decoder) (strings : List (List ℕ)) (p : List ℕ) (h : StandsFor d strings p) where
  pub raw_here : length d.begun ≡ length (begun_of (settings_of d) strings p)
  raw_here = ap length (reached_of d strings p h).begun

  bounds : KeepsWithin (settings_of d).limits strings (situation_of (settings_of d) strings p)
      (from_of (settings_of d) strings p)
  bounds = keeps_within (settings_of d) strings (readable (settings_of d) strings) p

  pub items_few : length (situation_of (settings_of d) strings p).items ≤ 2 * length p
  items_few = let le = bounds.few_items in let place = standing_length
      (payload (settings_of d) strings) (readable (settings_of d) strings) p in omega
      (arith, le, place)

  pub values_few : values_of (situation_of (settings_of d) strings p).items ≤ length p
  values_few = let le = bounds.few_values in let place = standing_length
      (payload (settings_of d) strings) (readable (settings_of d) strings) p in omega
      (arith, le, place)

  pub content_small : content_of d.units.document ≤ (settings_of d).limits.content
  content_small = let le = bounds.content in let same = ap content_of (items_here d strings p h) in
      omega (arith, le, same)

  pub content_is : capped (content_of d.units.document)
      ≡ content_of (situation_of (settings_of d) strings p).items
  content_is =
      let le = content_small in
      let most = content_most d in
      let same = ap content_of (items_here d strings p h) in
      omega (arith, le, most, same)

  pub open_here : opened_by 0 d.units.document
      ≡ opened_by 0 (situation_of (settings_of d) strings p).items
  open_here = ap (opened_by 0) (items_here d strings p h)

  pub open_small : opened_by 0 d.units.document ≤ (settings_of d).limits.depth
  open_small = let le = bounds.open_elements in let some = depth_some d in let same = open_here in
      omega (arith, le, some, same)

  pub raw_small : length d.begun ≤ (settings_of d).limits.payload
  raw_small =
      let taken = counts_taken d strings p h in
      let le = (stands_as d strings p h).within in
      omega (arith, taken, le)

  pub cost_small : used_cost (situation_of (settings_of d) strings p).strings
      ≤ (settings_of d).limits.dictionary
  cost_small = let le = bounds.dictionary in let before = (stands_as d strings p h).before in omega
      (arith, le, before)

  pub table_here : d.units.table
      ≡ record {
        strings = (situation_of (settings_of d) strings p).strings;
        limit =
            (settings_of d).limits.dictionary;
      }
  table_here = (reached_of d strings p h).at.set.table

-- and of what has failed
module _ (d : Decoder) (fault : DecodeFault) (strings : List (List ℕ)) (p : List ℕ)
    (h : FailedBehind d fault strings p) where
  failed_here : Failed d (settings_of d) fault strings p
  unfolding FailedBehind
  failed_here = h

  pub failed_table : d.units.table
      ≡ record {
        strings = (situation_of (settings_of d) strings p).strings;
        limit =
            (settings_of d).limits.dictionary;
      }
  failed_table = failed_here.strings_are.table

  pub failed_place : IsPlacedAt (from_of (settings_of d) strings p) fault d.units.from
  failed_place = failed_here.place

  pub failed_bytes : d.begun ≡ []
  failed_bytes = failed_here.no_bytes

  pub failed_items : d.units.document ≡ []
  failed_items = failed_here.no_items

-- nothing of it changes where a document's room is used again
module _ (d new : Decoder) (items : new.units.document ≡ d.units.document)
    (section : new.units.section ≡ d.units.section) (from : new.units.from ≡ d.units.from)
    (same : KeepsTable d.units new.units)
    (bytes : new.begun ≡ d.begun) (wants : new.wants ≡ d.wants) (failure : new.failure ≡ d.failure)
  where
    pub settings_stay : settings_of new ≡ settings_of d
    settings_stay = settings_kept d new (keeps_settings same)

    set_stays : (x : Settings) (strings : List (List ℕ)) (n : ℕ) → HasStrings d.units x strings n
        → HasStrings new.units x strings n
    set_stays x strings n set = strings_kept same set (from ∙ set.from_is)

    pub stands_still : (strings : List (List ℕ)) (p : List ℕ) → StandsFor d strings p
        → StandsFor new strings p
    stands_still strings p h =
        let r = reached_of d strings p h in
        let s = stands_as d strings p h in
        stands_of new (settings_of d) strings p settings_stay (record {
          pending = s.pending;
          within = s.within;
          before = s.before;
          reached = record {
            at = record {
              set = set_stays (settings_of d) _ _ r.at.set;
              section = section ∙
                  r.at.section;
              items = items ∙ r.at.items;
            };
            begun = bytes ∙ r.begun;
            waits = λ some. rw (bytes, wants)
                (r.waits (let n = ap length bytes in omega (arith, n, some)));
            going = r.going;
            unfailed = failure ∙ r.unfailed;
          };
        })

    pub failed_still : (fault : DecodeFault) (strings : List (List ℕ)) (p : List ℕ)
        → FailedBehind d fault strings p → FailedBehind new fault strings p
    failed_still fault strings p h =
        let f = failed_here d fault strings p h in
        failed_of new (settings_of d) fault strings p settings_stay (record {
          failure = failure ∙ f.failure;
          place = subst (IsPlacedAt (from_of (settings_of d) strings p) fault) (sym from) f.place;
          strings_are = subst (λ (n : ℕ). HasStrings new.units (settings_of d)
              (situation_of (settings_of d) strings p).strings n) (sym from)
              (set_stays (settings_of d) _ _ f.strings_are);
          no_bytes = bytes ∙ f.no_bytes;
          no_items = items ∙ f.no_items;
        })
