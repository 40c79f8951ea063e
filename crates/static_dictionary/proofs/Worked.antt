-- The definitions of a static file's rows, at written files.
use Rattle.std.specs.Prelude.{◌≡◌, ℕ, List, [], ◌∷◌, ◌++◌, map, Option, Some, None, codes, refl}
use Rattle.csv_rows.proofs.OnLiterals.{rows_on_literals}
use Rattle.string_tables.specs.StaticStrings.{Entry, least_static_id, static_text}
use Rattle.static_dictionary.specs.Rows.{Fault, fault_of, id_of, rows_of, table_of}
use Rattle.static_dictionary.specs.declared.fault.TableKind.TheVariants as kind

-- the identifiers that fields write
ids : map id_of
    (codes "0" ∷ codes "2147483647" ∷ codes "2147483648" ∷ codes "02" ∷ codes "+2" ∷ [] ∷ [])
    ≡ Some 0 ∷ Some 2147483647 ∷ None ∷ None ∷ None ∷ None ∷ []
ids = refl

small_file : List ℕ
small_file = codes "id,string\n0,mustUnderstand\n2,Envelope\n8,Header\n"

small_rows : rows_of small_file
    ≡ (codes "id" ∷ codes "string" ∷ []) ∷ (codes "0" ∷ codes "mustUnderstand" ∷ [])
    ∷ (codes "2" ∷ codes "Envelope" ∷ []) ∷ (codes "8" ∷ codes "Header" ∷ []) ∷ []
unfolding small_file rows_on_literals
small_rows = refl

-- the texts that an addressed envelope uses
envelope_file : List ℕ
envelope_file =
    codes "id,string\n0,mustUnderstand\n2,Envelope\n4,http://www.w3.org/2003/05/soap-envelope\n"
    ++ codes "6,http://www.w3.org/2005/08/addressing\n8,Header\n10,Action\n12,To\n14,Body\n"
    ++ codes "18,RelatesTo\n20,http://www.w3.org/2005/08/addressing/anonymous\n26,MessageID\n"
    ++ codes "42,Address\n44,ReplyTo\n"

-- files, and the first row of each that fails
abbrev Judged : Type 0
Judged = List ℕ × Option Fault

abbrev AllJudged : List Judged → Type 0
AllJudged files =
    map (λ (f : Judged). fault_of (rows_of f.0)) files ≡ map (λ (f : Judged). f.1) files

judged : AllJudged (
    (small_file, None) ∷
    (envelope_file, None) ∷
    ([], Some (0, kind.Header)) ∷
    (codes "id,string\n1,x\n", Some (1, kind.Odd)) ∷
    (codes "id,string\n2,a\n0,b\n2,c\n1,d\n", Some (3, kind.Repeated)) ∷ [])
unfolding small_file envelope_file rows_on_literals
judged = refl

-- files, and the entries that they give
abbrev Read : Type 0
Read = List ℕ × List Entry

abbrev AllRead : List Read → Type 0
AllRead files = map (λ (f : Read). table_of (rows_of f.0)) files ≡ map (λ (f : Read). f.1) files

read : AllRead (
    (small_file, (0, codes "mustUnderstand") ∷ (2, codes "Envelope") ∷ (8, codes "Header") ∷ []) ∷
    (codes "id,string\n4,b\n2,a\n", (2, codes "a") ∷ (4, codes "b") ∷ []) ∷ [])
unfolding small_file rows_on_literals
read = refl

envelope_id : least_static_id (table_of (rows_of envelope_file)) (codes "ReplyTo") ≡ Some 44
unfolding envelope_file rows_on_literals
envelope_id = refl

envelope_text : static_text (table_of (rows_of envelope_file)) 6
    ≡ Some (codes "http://www.w3.org/2005/08/addressing")
unfolding envelope_file rows_on_literals
envelope_text = refl
