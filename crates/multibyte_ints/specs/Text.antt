-- The string of MC-NMF and MC-NBFX: an integer n, and then n bytes of UTF-8.
use Rattle.std.specs.Prelude.{◌≡◌, ℕ, ◌+◌, List, ◌++◌, length, take, drop, if◌then◌else◌, nat_lt}
use Rattle.std.specs.{Prelude.IsUtf8, Prelude.⊤, Str.is_utf8}
use Rattle.unit_streams.specs.Front.{begun, Front, whole, wrong}
use Rattle.multibyte_ints.specs.Integer.{int_at, shortest, Spells}

-- the bytes b are a string of the text s
pub record IsString (s b : List ℕ) : Type 0 where
  pub spelling : List ℕ
  pub spelled : Spells (length s) spelling
  pub joined : b ≡ spelling ++ s
  pub utf8 : IsUtf8 s

-- the string of a text as it is written
unfoldable pub string_bytes_of : List ℕ → List ℕ
string_bytes_of s = shortest (length s) ++ s

-- what is wrong at the front, where a string of at most so many bytes of text is read
pub data StringFault : Type 0 where
  -- the integer is
  bad_int : StringFault
  -- the integer is above the limit
  too_long : StringFault
  -- the text isn't UTF-8
  bad_utf8 : StringFault

-- the text, which is whole at k bytes
unfoldable pub text_ending_at : ℕ → List ℕ → Front (List ℕ) StringFault
text_ending_at k s = if is_utf8 s then whole s k else wrong bad_utf8 k

-- the text of n bytes behind the first k
unfoldable pub text_at : ℕ → ℕ → ℕ → List ℕ → Front (List ℕ) StringFault
text_at limit n k b =
    if nat_lt limit n then wrong too_long k
    else (if nat_lt (length b) (k + n) then begun
    else text_ending_at (k + n) (take n (drop k b)))

-- the text behind such an integer
unfoldable pub text_behind : ℕ → Front ℕ ⊤ → List ℕ → Front (List ℕ) StringFault
text_behind limit begun b = begun
text_behind limit (whole n k) b = text_at limit n k b
text_behind limit (wrong _ k) b = wrong bad_int k

-- the string at the front: the integer is judged where it is whole, the text where all of it is
-- there
unfoldable pub string_at : ℕ → List ℕ → Front (List ℕ) StringFault
string_at limit b = text_behind limit (int_at b) b
