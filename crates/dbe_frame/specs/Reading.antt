-- Steps of the reader; not part of what is promised.
-- A header read from its first byte on. The clauses of `read` are those of `IsHeader` and `IsHeaderFault`.
use Rattle.std.specs.Prelude.{◌≡◌, ℕ, zero, suc, ◌==◌, ◌&&◌, Bool, true, List, [], ◌∷◌, length, take, drop, nat_lt}
use Rattle.std.specs.Prelude.{nat_le, Option, Some, None, Result, Ok, Err, if◌then◌else◌}
use Rattle.std.specs.Int.{w16, from_be_bytes}
use Rattle.dbe_rawring.specs.Edk.{EdkParts}
use Rattle.dbe_frame.specs.Header.{HeaderParts, is_version, is_flavour, is_legend_byte, comes_after, is_edk_count}
use Rattle.dbe_frame.specs.Sizes.{id_size, commitment_size, most_counted}
use Rattle.dbe_frame.specs.declared.stop.Stop.{Stop}
use Rattle.dbe_frame.specs.declared.stop.Stop.TheVariants as stop

-- Reading gives what was read, or how many bytes are left where the first field begins that is cut short or breaks
-- its rule.
infixl 10 ◌>>=◌
abbrev pub ◌>>=◌ : {A B : Type 0} → Result A ℕ → (A → Result B ℕ) → Result B ℕ
(Ok x) >>= f = f x
(Err left) >>= f = Err left

-- what a call answered, seen by view, is what reading gives, unless memory ran out
abbrev pub Fails : {B : Type 0} → Stop → Result B ℕ → Type 0
Fails stop.Memory read = Unit {0}
Fails (stop.Left n) read = read ≡ Err n

abbrev pub Gives : {A B : Type 0} → (A → B) → Result A Stop → Result B ℕ → Type 0
Gives view (Ok x) read = read ≡ Ok (view x)
Gives view (Err e) read = Fails e read

-- so many bytes that pass a test
unfoldable pub bytes_at : ℕ → (List ℕ → Bool) → List ℕ → Result (List ℕ × List ℕ) ℕ
bytes_at n test bytes = if nat_lt (length bytes) n then Err (length bytes) else if test (take n bytes) then Ok
    (take n bytes, drop n bytes) else Err (length bytes)

unfoldable pub byte_at : (ℕ → Bool) → List ℕ → Result (ℕ × List ℕ) ℕ
byte_at test [] = Err 0
byte_at test (b ∷ bytes) = if test b then Ok (b, bytes) else Err (suc (length bytes))

abbrev pub any : List ℕ → Bool
any bytes = true

unfoldable pub number_at : List ℕ → Result (ℕ × List ℕ) ℕ
number_at bytes = do
  n ← bytes_at 2 any bytes
  Ok (from_be_bytes w16 n.0, n.1)

unfoldable pub string_at : List ℕ → Result (List ℕ × List ℕ) ℕ
string_at bytes = do
  n ← number_at bytes
  bytes_at n.0 any n.1

-- so many things of one form, one behind the other, and the bytes behind them
unfoldable pub many_at : {X : Type 0} → (List ℕ → Result (X × List ℕ) ℕ) → ℕ → List ℕ → Result (List X × List ℕ) ℕ
many_at one zero bytes = Ok ([], bytes)
many_at one (suc n) bytes = one bytes >>= λ x. many_at one n x.1 >>= λ xs. Ok (x.0 ∷ xs.0, xs.1)

unfoldable pub legend_at : ℕ → List ℕ → Result (List ℕ × List ℕ) ℕ
legend_at version bytes = do
  n ← number_at bytes
  many_at (byte_at (is_legend_byte version)) n.0 n.1

unfoldable pub key_at : Option (List ℕ) → List ℕ → Result (List ℕ × List ℕ) ℕ
key_at before bytes = do
  n ← number_at bytes
  bytes_at n.0 (comes_after before) n.1

unfoldable pub pair_at : Option (List ℕ) → List ℕ → Result ((List ℕ × List ℕ) × List ℕ) ℕ
pair_at before bytes = do
  key ← key_at before bytes
  value ← string_at key.1
  Ok ((key.0, value.0), value.1)

unfoldable pub pairs_at : Option (List ℕ) → ℕ → List ℕ → Result (List (List ℕ × List ℕ) × List ℕ) ℕ
pairs_at before zero bytes = Ok ([], bytes)
pairs_at before (suc n) bytes = do
  pair ← pair_at before bytes
  pairs ← pairs_at (Some pair.0.0) n pair.1
  Ok (pair.0 ∷ pairs.0, pairs.1)

unfoldable pub context_at : List ℕ → Result (List (List ℕ × List ℕ) × List ℕ) ℕ
context_at bytes = do
  n ← number_at bytes
  pairs_at None n.0 n.1

unfoldable pub edk_at : List ℕ → Result (EdkParts × List ℕ) ℕ
edk_at bytes = do
  provider ← string_at bytes
  info ← string_at provider.1
  ciphertext ← string_at info.1
  Ok (record { provider = provider.0; info = info.0; ciphertext = ciphertext.0 }, ciphertext.1)

unfoldable pub edks_at : List ℕ → Result (List EdkParts × List ℕ) ℕ
edks_at bytes = do
  n ← byte_at is_edk_count bytes
  many_at edk_at n.0 n.1

unfoldable pub header_at : List ℕ → Result (HeaderParts × List ℕ) ℕ
header_at bytes = do
  version ← byte_at is_version bytes
  flavour ← byte_at is_flavour version.1
  message_id ← bytes_at id_size any flavour.1
  legend ← legend_at version.0 message_id.1
  context ← context_at legend.1
  edks ← edks_at context.1
  commitment ← bytes_at commitment_size any edks.1
  Ok (
    record {
      message_id = message_id.0;
      legend = legend.0;
      context = context.0;
      edks = edks.0;
      commitment =
          commitment.0;
    },
    commitment.1,
  )

-- all of the bytes
unfoldable pub all_of : List ℕ → Result HeaderParts ℕ
all_of bytes = do
  h ← header_at bytes
  if length h.1 == 0 then Ok h.0 else Err (length h.1)

-- a pair that may come after the key before it
abbrev pub takes_pair : Option (List ℕ) → List ℕ × List ℕ → Bool
takes_pair before pair = nat_le (length pair.0) most_counted && nat_le (length pair.1) most_counted && comes_after
    before pair.0

unfoldable pub takes_pairs : Option (List ℕ) → List (List ℕ × List ℕ) → Bool
takes_pairs before [] = true
takes_pairs before (pair ∷ pairs) = takes_pair before pair && takes_pairs (Some pair.0) pairs
