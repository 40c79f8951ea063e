-- Worked cases: the texts of literal files.
use Rattle.std.proofs.Common.{◌≡◌, ℕ, List, [], ◌∷◌, ◌++◌, map, Ok, Err, codes, Result, refl}
use Rattle.csv_rows.{proofs.OnLiterals.rows_on_literals, specs.Rows.rows_of}
use Rattle.action_dispatch.specs.Actions.{Fault, Texts, texts_of}
use Rattle.action_dispatch.specs.declared.fault.ActionKind.TheVariants as kind

-- files and their texts
abbrev Read : Type 0
Read = List ℕ × Texts

abbrev read : Texts → Result Texts Fault
read texts = Ok texts

AllRead : List Read → Type 0
AllRead rows = map (λ (r : Read). texts_of (rows_of r.0)) rows ≡ map (λ (r : Read). read r.1) rows

files : AllRead (
    (codes "action,text\n", [])
    ∷ (codes "action,text\nurn:echo,ok\n", (codes "urn:echo", codes "ok") ∷ [])
    ∷ (
      codes "action,text\nurn:b,two\nurn:a,one",
      (codes "urn:a", codes "one") ∷ (codes "urn:b", codes "two") ∷ [],
    )
    ∷ (codes "\"action\",text\r\n\r\n\"\",\"a, \"\"b\"\"\"\r\n", ([], codes "a, \"b\"") ∷ [])
    ∷ (0xEF ∷ 0xBB ∷ 0xBF ∷ codes "action,text\nurn:a,\n", (codes "urn:a", []) ∷ [])
    ∷ [])
unfolding AllRead rows_on_literals
files = refl

-- files with a bad row, and the first such
abbrev Refused : Type 0
Refused = List ℕ × Fault

abbrev bad : Fault → Result Texts Fault
bad fault = Err fault

AllRefused : List Refused → Type 0
AllRefused rows =
    map (λ (r : Refused). texts_of (rows_of r.0)) rows ≡ map (λ (r : Refused). bad r.1) rows

bad_files : AllRefused (
    ([], (0, kind.Header))
    ∷ (codes "action,string\n", (0, kind.Header))
    ∷ (codes "Action,text\n", (0, kind.Header))
    ∷ (codes "action\nurn:a\n", (0, kind.Header))
    ∷ (codes "action,text\nurn:a\n", (1, kind.Fields))
    ∷ (codes "action,text\nurn:a,b\nurn:c,d,e\n", (2, kind.Fields))
    ∷ (codes "action,text\nurn:a," ++ 0xFF ∷ 10 ∷ [], (1, kind.NotUtf8))
    ∷ (codes "action,text\n" ++ 0xFF ∷ codes ",b\n", (1, kind.NotUtf8))
    ∷ (codes "action,text\nurn:a,b\nurn:c,d\nurn:a,b\nurn:e\n", (3, kind.Repeated))
    ∷ [])
unfolding AllRefused rows_on_literals
bad_files = refl
