-- Texts that are fields joined, this project's own: how long a field is, and which bytes it may have, the fields
-- before it say.
use Rattle.std.specs.Prelude.{◌≡◌, ℕ, zero, suc, ◌≤◌, Bool, true, List, [], ◌∷◌, ◌++◌, length, get_or}
use Rattle.std.specs.Int.{w16, from_be_bytes}

-- Either nothing more comes, and the text means this; or a field of so many bytes that pass a test, and then what
-- these bytes say.
pub data Format (A : Type 0) : Type 0 where
  ends : A → Format A
  field : ℕ → (List ℕ → Bool) → (List ℕ → Format A) → Format A

-- one format, and behind it the one that its meaning says
infixl 10 ◌>>=◌
abbrev pub ◌>>=◌ : {A B : Type 0} → Format A → (A → Format B) → Format B
(ends x) >>= f = f x
(field n test next) >>= f = field n test (λ bytes. next bytes >>= f)

-- so many bytes that pass a test
abbrev pub bytes_that : ℕ → (List ℕ → Bool) → Format (List ℕ)
bytes_that n test = field n test (λ bytes. ends bytes)

abbrev pub any_bytes : ℕ → Format (List ℕ)
any_bytes n = bytes_that n (λ bytes. true)

-- a byte that passes a test
abbrev pub byte_that : (ℕ → Bool) → Format ℕ
byte_that test = field 1 (λ bytes. test (get_or bytes 0 0)) (λ bytes. ends (get_or bytes 0 0))

-- a count or a length in two bytes
abbrev pub number : Format ℕ
number = field 2 (λ bytes. true) (λ bytes. ends (from_be_bytes w16 bytes))

-- bytes behind their length
abbrev pub string : Format (List ℕ)
string = do
  n ← number
  any_bytes n

-- so many of one format
abbrev pub many : {A : Type 0} → ℕ → Format A → Format (List A)
many zero one = ends []
many (suc n) one = do
  first ← one
  others ← many n one
  ends (first ∷ others)

abbrev pub joined : List (List ℕ) → List ℕ
joined [] = []
joined (x ∷ xs) = x ++ joined xs

-- the first fields of a text: each is whole and passes its test
abbrev pub AreFirstFields : {A : Type 0} → Format A → List (List ℕ) → Type 0
AreFirstFields format [] = Unit {0}
AreFirstFields (ends x) (bytes ∷ others) = ⊥
AreFirstFields (field n test next) (bytes ∷ others) = (length bytes ≡ n) × (test bytes ≡ true) ×
    AreFirstFields (next bytes) others

-- all fields of a text with this meaning
abbrev pub Spells : {A : Type 0} → Format A → List (List ℕ) → A → Type 0
Spells (ends x) [] meaning = meaning ≡ x
Spells (ends x) (bytes ∷ others) meaning = ⊥
Spells (field n test next) [] meaning = ⊥
Spells (field n test next) (bytes ∷ others) meaning = (length bytes ≡ n) × (test bytes ≡ true) ×
    Spells (next bytes) others meaning

-- the bytes go on behind these
abbrev pub Begins : List ℕ → List ℕ → Type 0
Begins prefix bytes = (rest : List ℕ) × (bytes ≡ prefix ++ rest)

-- the first fields that the bytes begin with, as many bytes as can be
pub record LongestPrefix {A : Type 0} (format : Format A) (bytes : List ℕ) (size : ℕ) : Type 0 where
  pub fields : List (List ℕ)
  pub are_first : AreFirstFields format fields
  pub begins : Begins (joined fields) bytes
  pub has_size : length (joined fields) ≡ size
  pub longest : (others : List (List ℕ)) → AreFirstFields format others → Begins (joined others) bytes →
      length (joined others) ≤ size
