-- Where a search for a space cuts a line, and what a text in quotes is read as.
use Rattle.std.proofs.Common.{◌≡◌, ℕ, zero, suc, Bool, true, false, List, [], ◌∷◌, length, take}
use Rattle.std.proofs.Common.{drop, ◌==◌, if◌then◌else◌, Some, None, Ok, Err, Option, Result, refl}
use Rattle.std.proofs.Common.{ap, ◌∙◌}
use Rattle.std.proofs.{Common.◌-◌, Common.arith, Math.Seq.take-length}
use Rattle.std.specs.Str.{is_utf8}
use Rattle.memchr.specs.Find.{is_byte, NoneBefore, Nowhere, Passes}
use Rattle.line_notation.proofs.PiecesFacts.{quoted-quoted_in, quoted_in-quoted}
use Rattle.line_notation.specs.declared.reader.LineKind.{LineKind, TheVariants.BadText}
use Rattle.line_notation.specs.declared.reader.LineKind.TheVariants.{NotALine}
use Rattle.line_notation.specs.Quoted.{IsQuoted, quoted_in}
use Rattle.line_notation.specs.Options.{◌>>=◌}
use Rattle.reliable_sequence.specs.declared.events.Event.{Event, TheVariants.Submit}
use Rattle.rehearsal.specs.declared.line.Stop.{Stop, TheVariants.Bad, TheVariants.Memory}
use Rattle.rehearsal.specs.Forms.{body_of, event_said, onto_word, parts_of, submits}
use Rattle.rehearsal.specs.Reading.{Reads, submission_of, text_read}

-- a line without a space is one word
pub parts-none : (line : List ℕ) → Nowhere (Passes (is_byte 32) line) 0 (length line)
    → parts_of line ≡ (line, None)
parts-none [] none = refl
parts-none (b ∷ line) none = by_space (parts-none line) (b == 32) refl where
  by_space : (Nowhere (Passes (is_byte 32) line) 0 (length line) → parts_of line ≡ (line, None))
      → (v : Bool) → (b == 32) ≡ v
      → (if v then ([], Some line) else onto_word b (parts_of line)) ≡ (b ∷ line, None)
  by_space more true is = absurd (none 0 (omega arith) (omega arith) is)
  by_space more false is =
      ap (onto_word b) (more (λ k low high. none (suc k) (omega arith) (omega (arith, high))))

-- one with a space is cut at the first
pub parts-some : (line : List ℕ) (k : ℕ)
    → NoneBefore (Passes (is_byte 32) line) 0 (length line) k → Passes (is_byte 32) line k
    → parts_of line ≡ (take k line, Some (drop (suc k) line))
parts-some [] k first is = absurd (let n = first.high in omega (arith, n))
parts-some (b ∷ line) zero first is =
    ap (λ v. if v then ([], Some line) else onto_word b (parts_of line)) is
parts-some (b ∷ line) (suc k) first is = by_space (parts-some line k) (b == 32) refl where
  by_space : (NoneBefore (Passes (is_byte 32) line) 0 (length line) k
      → Passes (is_byte 32) line k → parts_of line ≡ (take k line, Some (drop (suc k) line)))
      → (v : Bool) → (b == 32) ≡ v
      → (if v then ([], Some line) else onto_word b (parts_of line))
      ≡ (b ∷ take k line, Some (drop (suc k) line))
  by_space more true space = absurd (first.before 0 (omega arith) (omega arith) space)
  by_space more false space =
      let high = first.high in
      ap (onto_word b) (more (record {
        low = omega arith;
        high = omega (arith, high);
        before = λ j low lt. first.before (suc j) (omega arith) (omega (arith, lt));
      }) is)

-- what stands behind the first byte of a rest
rest-of : (bytes : List ℕ) → take (length bytes - 1) (drop 1 bytes) ≡ drop 1 bytes
rest-of [] = refl
rest-of (b ∷ bytes) =
    let one : suc (length bytes) - 1 ≡ length bytes = omega arith in
    ap (λ n. take n bytes) one ∙ take-length bytes

drop-more : (k : ℕ) (bytes : List ℕ) → drop 1 (drop k bytes) ≡ drop (suc k) bytes
drop-more zero bytes = refl
drop-more (suc k) [] = refl
drop-more (suc k) (b ∷ bytes) = drop-more k bytes

pub behind-space : (k : ℕ) (line back : List ℕ) → back ≡ drop k line
    → take (length back - 1) (drop 1 back) ≡ drop (suc k) line
behind-space k line back is = rest-of back ∙ ap (drop 1) is ∙ drop-more k line

-- ---- texts in quotes

pub text-good : (argument text : List ℕ) → IsQuoted text argument → is_utf8 text ≡ true
    → text_read (quoted_in argument) ≡ Ok text
text-good argument text is good =
    ap text_read (quoted_in-quoted text argument is)
    ∙ ap (λ v. if v then Ok text else Err BadText) good

pub text-bad : (argument text : List ℕ) → IsQuoted text argument → is_utf8 text ≡ false
    → text_read (quoted_in argument) ≡ Err BadText
text-bad argument text is bad =
    ap text_read (quoted_in-quoted text argument is)
    ∙ ap (λ v. if v then Ok text else Err BadText) bad

pub text-none : (argument : List ℕ) → ((text : List ℕ) → IsQuoted text argument → ⊥)
    → text_read (quoted_in argument) ≡ Err NotALine
text-none argument not = by_read (quoted_in argument) refl where
  by_read : (read : Option (List ℕ)) → quoted_in argument ≡ read → text_read read ≡ Err NotALine
  by_read None is = refl
  by_read (Some text) is = absurd (not text (quoted-quoted_in text argument is))

-- ---- submissions

stopped : (read : Option (List ℕ)) (last : Bool) (kind : LineKind) → text_read read ≡ Err kind
    → submission_of read last ≡ Err kind
stopped None last kind e = cc
stopped (Some text) last kind e = by_test (is_utf8 text) e where
  by_test : (v : Bool)
      → ◌≡◌ {A = Result (List ℕ) LineKind} (if v then Ok text else Err BadText) (Err kind)
      → ◌≡◌ {A = Result Event LineKind} (if v then Ok (Submit (body_of text) last) else Err BadText)
      (Err kind)
  by_test true e = cc
  by_test false e = cc

-- a text that isn't read isn't submitted
pub submission-stopped : (read : Option (List ℕ)) (last : Bool) (stop : Stop)
    → Reads (text_read read) (Err stop) → Reads (submission_of read last) (Err stop)
submission-stopped read last (Bad kind) e = stopped read last kind e
submission-stopped read last Memory e = tt

-- one that is read is
pub submission-made : (read : Option (List ℕ)) (last : Bool) (text : List ℕ)
    → text_read read ≡ Ok text → submission_of read last ≡ Ok (Submit (body_of text) last)
submission-made None last text e = cc
submission-made (Some given) last text e = by_test (is_utf8 given) e where
  by_test : (v : Bool)
      → ◌≡◌ {A = Result (List ℕ) LineKind} (if v then Ok given else Err BadText) (Ok text)
      → ◌≡◌ {A = Result Event LineKind} (if v then Ok (Submit (body_of given) last)
      else Err BadText)
      (Ok (Submit (body_of text) last))
  by_test true e =
      let same : given ≡ text = cc in
      ap (λ (t : List ℕ). Ok (Submit (body_of t) last)) same
  by_test false e = cc

-- a submission is what the form says
pub said-submission : (read : Option (List ℕ)) (last : Bool)
    → event_said (read >>= λ text. Some (submits text last)) ≡ submission_of read last
said-submission None last = refl
said-submission (Some text) last = refl
