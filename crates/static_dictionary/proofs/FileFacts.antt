-- What the rows that were read so far say of the file.
use Rattle.std.proofs.Common.{◌≡◌, ℕ, ◌+◌, Bool, true, false, List, [], ◌∷◌, ◌++◌, drop, is_some}
use Rattle.std.proofs.Common.{Some, None, Ok, Err, Option, Result, String, BTreeMap, sym, refl, ap}
use Rattle.std.proofs.Common.{◌∙◌, inl, inr, append_assoc, append-nil}
use Rattle.std.{proofs.lemmas.Bool.cases_Bool, specs.Result.result_ok}
use Rattle.std.proofs.lemmas.List.{Elements.filter_map-append, Sums.fold-append}
use Rattle.{string_tables.proofs.EntryFacts.same-with, csv_rows.specs.Rows.Advanced}
use Rattle.string_tables.specs.StaticStrings.{Entry, in_order, static_text, with_entry}
use Rattle.static_dictionary.specs.declared.fault.{TableFault.TableFault, TableKind.TableKind}
use Rattle.static_dictionary.specs.declared.fault.TableFault.TheVariants.{Bad, Memory}
use Rattle.static_dictionary.specs.{declared.names.Names.Names, Names.identifier_in}
use Rattle.static_dictionary.specs.Faults.{AddsEntryOf, Tells}
use Rattle.static_dictionary.specs.Inside.{AreMapsOfTable, entries_in}
use Rattle.static_dictionary.specs.Rows.{entries_of, entry_of, Fault, fault_from, fault_of}
use Rattle.static_dictionary.specs.Rows.{fault_or, is_header, Row, rows_of, table_of}
use Rattle.static_dictionary.specs.declared.fault.TableKind.TheVariants as kind

-- one more row with an entry
entries_of-push : (rows : List Row) (row : Row) (entry : Entry) → entry_of row ≡ Ok entry
    → entries_of (rows ++ row ∷ []) ≡ entries_of rows ++ entry ∷ []
entries_of-push rows row entry written =
    filter_map-append (λ row. result_ok (entry_of row)) rows (row ∷ []) ∙ rw written refl

in_order-push : (entries : List Entry) (entry : Entry)
    → in_order (entries ++ entry ∷ []) ≡ with_entry (in_order entries) entry
in_order-push entries entry = fold-append with_entry [] entries (entry ∷ [])

-- a row that fails does, whatever comes after it, and after any entries that give the same texts
fault_or-same : (later : ℕ → List Entry → Option Fault) (n : ℕ) (sorted listed : List Entry)
    (read : Result Entry TableKind) (fault : Fault)
    → ((id : ℕ) → static_text sorted id ≡ static_text listed id)
    → fault_or (λ _ _. None) n sorted read ≡ Some fault
    → fault_or later n listed read ≡ Some fault
fault_or-same later n sorted listed (Err wrong) fault same e = e
fault_or-same later n sorted listed (Ok entry) fault same e =
    elim (cases_Bool (is_some (static_text sorted entry.0))) [
      | inl seen ↦ rw (← same entry.0, seen) (rw seen at e)
      | inr fresh ↦ cc (rw fresh at e)
    ]

-- a row with a new entry does not fail
fault_or-passed : (later : ℕ → List Entry → Option Fault) (n : ℕ) (listed : List Entry)
    (entry : Entry) → static_text listed entry.0 ≡ None
    → fault_or later n listed (Ok entry) ≡ later (n + 1) (listed ++ entry ∷ [])
fault_or-passed later n listed entry fresh = rw fresh refl

-- the rows after the first up to a number were read, none of them fails, and these are to come
pub record ReadSoFar {A : Type 0} (bytes : List ℕ) (number : ℕ) (coming : List Row)
    (by_id : BTreeMap ℕ (String A)) (names : Names) : Type 0 where
  pub header : Row
  pub rows : List Row
  pub all : rows_of bytes ≡ header ∷ (rows ++ coming)
  pub headed : is_header header ≡ true
  pub maps : AreMapsOfTable by_id names
  pub sorted : entries_in by_id ≡ in_order (entries_of rows)
  pub same : (id : ℕ) → static_text (entries_in by_id) id ≡ static_text (entries_of rows) id
  pub faultless : (more : List Row)
      → fault_from (rows ++ more) 1 [] ≡ fault_from more number (entries_of rows)

-- the fault of a file whose first row is right
fault_of-headed : (header : Row) (rows : List Row) → is_header header ≡ true
    → fault_of (header ∷ rows) ≡ fault_from rows 1 []
fault_of-headed header rows headed = rw headed refl

module _ {A : Type 0} (bytes : List ℕ) (number : ℕ) (coming : List Row)
    (by_id : BTreeMap ℕ (String A)) (names : Names)
    (so_far : ReadSoFar bytes number coming by_id names) where
  -- the rows of the file where these are to come
  leaves : (more : List Row) → coming ≡ more
      → rows_of bytes ≡ so_far.header ∷ (so_far.rows ++ more)
  leaves more is = so_far.all ∙ ap (λ rows. so_far.header ∷ (so_far.rows ++ rows)) is

  -- one more row was read, and added
  pub read_more : (row : Row) (left : List Row) (by_id2 : BTreeMap ℕ (String A))
      (names2 : Names) → coming ≡ row ∷ left
      → AddsEntryOf row (entries_in by_id) (entries_in by_id2) → AreMapsOfTable by_id2 names2
      → ReadSoFar bytes (number + 1) left by_id2 names2
  read_more row left by_id2 names2 is adds maps =
      let entry = adds.entry in
      let before = entries_of so_far.rows in
      let pushed = entries_of-push so_far.rows row entry adds.written in
      let fresh : static_text before entry.0 ≡ None = sym (so_far.same entry.0) ∙ adds.fresh in
      record {
        header = so_far.header;
        rows = so_far.rows ++ row ∷ [];
        all = leaves (row ∷ left) is
            ∙ ap (λ rows. so_far.header ∷ rows) (sym (append_assoc so_far.rows (row ∷ []) left));
        headed = so_far.headed;
        maps = maps;
        sorted = adds.entries ∙ ap (λ es. with_entry es entry) so_far.sorted
            ∙ sym (in_order-push before entry) ∙ ap in_order (sym pushed);
        same = λ id. rw (adds.entries, pushed)
            (same-with entry.0 entry.1 (entries_in by_id) before so_far.same fresh id);
        faultless = λ more.
            ap (λ rows. fault_from rows 1 []) (append_assoc so_far.rows (row ∷ []) more)
            ∙ so_far.faultless (row ∷ more)
            ∙ ap (fault_or (fault_from more) number before) adds.written
            ∙ fault_or-passed (fault_from more) number before entry fresh
            ∙ ap (fault_from more (number + 1)) (sym pushed);
      }

  -- there is no further row
  pub read_all : coming ≡ [] → (entries_in by_id ≡ table_of (rows_of bytes))
      × (fault_of (rows_of bytes) ≡ None)
      × ((id : ℕ) → static_text (entries_in by_id) id
      ≡ static_text (entries_of (drop 1 (rows_of bytes))) id)
  read_all none =
      let all : rows_of bytes ≡ so_far.header ∷ so_far.rows =
      leaves [] none ∙ ap (λ rows. so_far.header ∷ rows) (append-nil so_far.rows) in
      let faultless =
      ap (λ rows. fault_from rows 1 []) (sym (append-nil so_far.rows)) ∙ so_far.faultless [] in (
        so_far.sorted ∙ ap table_of (sym all),
        ap fault_of all ∙ fault_of-headed so_far.header so_far.rows so_far.headed ∙ faultless,
        λ id. so_far.same id ∙ ap (λ rows. static_text (entries_of (drop 1 rows)) id) (sym all),
      )

  -- the row read next fails
  pub read_bad : (row : Row) (left : List Row) (fault : TableFault) → coming ≡ row ∷ left
      → Tells (fault_or (λ _ _. None) number (entries_in by_id) (entry_of row)) fault
      → Tells (fault_of (rows_of bytes)) fault
  read_bad row left Memory is tells = tt
  read_bad row left (Bad at wrong) is tells =
      ap fault_of (leaves (row ∷ left) is)
      ∙ fault_of-headed so_far.header (so_far.rows ++ row ∷ left) so_far.headed
      ∙ so_far.faultless (row ∷ left)
      ∙ fault_or-same (fault_from left) number (entries_in by_id) (entries_of so_far.rows)
      (entry_of row) (at, wrong) so_far.same tells

-- a file without a right first row
pub no_header : (coming left : List Row) (row : Row) (found : Bool) → Advanced found coming row left
    → found ≡ false → fault_of coming ≡ Some (0, kind.Header)
no_header coming left row true next none = cc none
no_header coming left row false next none = ap fault_of next

pub other_header : (coming left : List Row) (row : Row) (found : Bool)
    → Advanced found coming row left → is_header row ≡ false
    → fault_of coming ≡ Some (0, kind.Header)
other_header coming left row true next other = ap fault_of next ∙ rw other refl
other_header coming left row false next other = ap fault_of next

-- the first row was read
pub read_first : {A : Type 0} (bytes : List ℕ) (header : Row) (coming : List Row)
    (by_id : BTreeMap ℕ (String A)) (names : Names)
    → rows_of bytes ≡ header ∷ coming → is_header header ≡ true → by_id.entries ≡ []
    → ((text : List ℕ) → identifier_in names text ≡ None) → ReadSoFar bytes 1 coming by_id names
read_first bytes header coming by_id names all headed no_ids no_texts = record {
  header = header;
  rows = [];
  all = all;
  headed = headed;
  maps = record {
    rises = rw no_ids tt;
    least = λ text. no_texts text ∙ sym (rw no_ids refl);
    longest = λ text long. no_texts text;
  };
  sorted = rw no_ids refl;
  same = λ id. rw no_ids refl;
  faultless = λ more. refl;
}
