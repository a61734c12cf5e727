-- The header of a sealed item, this project's own. Numbers are big-endian.
use Rattle.std.specs.Prelude.{◌≡◌, ℕ, zero, suc, ◌≤◌, ◌==◌, ◌&&◌, ◌||◌, Bool, true, List, [], ◌∷◌, ◌++◌, length, map}
use Rattle.std.specs.Prelude.{nat_le, Option, Some, None}
use Rattle.std.specs.List.{All, flat_map}
use Rattle.std.specs.List.Sorted.{IsStrictlySortedBy}
use Rattle.std.specs.Ordering.{nat_cmp, is_lt}
use Rattle.std.specs.Cmp.Lexicographic.{slice_cmp}
use Rattle.std.specs.Int.{w16, to_be_bytes}
use Rattle.dbe_rawring.specs.Edk.{EdkParts, IsShort, IsEdk}
use Rattle.dbe_frame.specs.Format.{Format, ends, ◌>>=◌, bytes_that, any_bytes, byte_that, number, string, many}
use Rattle.dbe_frame.specs.Format.{joined, LongestPrefix}
use Rattle.dbe_frame.specs.Sizes.{version_1, the_flavour, encrypted, signed_only, id_size, commitment_size, most_edks}
use Rattle.dbe_frame.specs.Sizes.{most_counted}
use Rattle.dbe_frame.specs.declared.fault.FrameFault.{FrameFault}
use Rattle.dbe_frame.specs.declared.fault.FrameFault.TheVariants as fault

pub record HeaderParts : Type 0 where
  pub message_id : List ℕ
  pub legend : List ℕ  -- a byte for each signed attribute
  pub context : List (List ℕ × List ℕ)  -- keys and values
  pub edks : List EdkParts
  pub commitment : List ℕ

-- ---- the rules

abbrev pub is_version : ℕ → Bool
is_version b = b == version_1

abbrev pub is_flavour : ℕ → Bool
is_flavour b = b == the_flavour

-- The legend bytes of a version. Version 1 has `e`, encrypted and signed, and `s`, signed only. No other version has
-- a legend.
abbrev pub is_legend_byte : ℕ → ℕ → Bool
is_legend_byte version b = version == version_1 && (b == encrypted || b == signed_only)

-- greater by bytes than the key before it, where there is one
abbrev pub comes_after : Option (List ℕ) → List ℕ → Bool
comes_after None key = true
comes_after (Some before) key = is_lt (slice_cmp nat_cmp before key)

abbrev pub is_edk_count : ℕ → Bool
is_edk_count n = nat_le 1 n && nat_le n most_edks

abbrev pub edk : Format EdkParts
edk = do
  provider ← string
  info ← string
  ciphertext ← string
  ends (record { provider = provider; info = info; ciphertext = ciphertext })

-- pairs behind a key
abbrev pub pairs_after : Option (List ℕ) → ℕ → Format (List (List ℕ × List ℕ))
pairs_after before zero = ends []
pairs_after before (suc n) = do
  key_length ← number
  key ← bytes_that key_length (comes_after before)
  value ← string
  others ← pairs_after (Some key) n
  ends ((key, value) ∷ others)

abbrev pub legend_format : ℕ → Format (List ℕ)
legend_format version = do
  n ← number
  many n (byte_that (is_legend_byte version))

abbrev pub context_format : Format (List (List ℕ × List ℕ))
context_format = do
  n ← number
  pairs_after None n

abbrev pub edks_format : Format (List EdkParts)
edks_format = do
  n ← byte_that is_edk_count
  many n edk

-- The version, the legend byte and the count of data keys are tests of their own, and each can be widened alone.
unfoldable pub header : Format HeaderParts
header = do
  version ← byte_that is_version
  flavour ← byte_that is_flavour
  message_id ← any_bytes id_size
  legend ← legend_format version
  context ← context_format
  edks ← edks_format
  commitment ← any_bytes commitment_size
  ends (record { message_id = message_id; legend = legend; context = context; edks = edks; commitment = commitment })

-- ---- what has a header

-- at most 65,535 bytes, each a legend byte of the version
pub record IsLegend (version : ℕ) (legend : List ℕ) : Type 0 where
  pub short : IsShort legend
  pub each : All (λ b. is_legend_byte version b ≡ true) legend

abbrev pub IsShortPair : List ℕ × List ℕ → Type 0
IsShortPair pair = IsShort pair.0 × IsShort pair.1

-- at most 65,535 pairs, each key below those after it
pub record ArePairs (pairs : List (List ℕ × List ℕ)) : Type 0 where
  pub few : length pairs ≤ most_counted
  pub short : All IsShortPair pairs
  pub sorted : IsStrictlySortedBy (slice_cmp nat_cmp) (map (λ pair. pair.0) pairs)

pub record AreEdks (edks : List EdkParts) : Type 0 where
  pub some : 1 ≤ length edks
  pub few : length edks ≤ most_edks
  pub each : All IsEdk edks

pub record HasParts (h : HeaderParts) : Type 0 where
  pub message_id : length h.message_id ≡ id_size
  pub legend : IsLegend version_1 h.legend
  pub context : ArePairs h.context
  pub edks : AreEdks h.edks
  pub commitment : length h.commitment ≡ commitment_size

-- ---- its fields

-- the two bytes of a count or a length
abbrev pub short_number : ℕ → List ℕ
short_number n = to_be_bytes w16 n

abbrev pub string_fields : List ℕ → List (List ℕ)
string_fields bytes = short_number (length bytes) ∷ bytes ∷ []

abbrev pub pair_fields : List ℕ × List ℕ → List (List ℕ)
pair_fields pair = string_fields pair.0 ++ string_fields pair.1

abbrev pub edk_fields : EdkParts → List (List ℕ)
edk_fields e = string_fields e.provider ++ string_fields e.info ++ string_fields e.ciphertext

-- the fields before the commitment, which does not stand in them
abbrev pub body_fields : HeaderParts → List (List ℕ)
body_fields h =
    (version_1 ∷ []) ∷ (the_flavour ∷ []) ∷ h.message_id
    ∷ short_number (length h.legend) ∷ map (λ b. b ∷ []) h.legend
    ++ short_number (length h.context) ∷ flat_map pair_fields h.context
    ++ (length h.edks ∷ []) ∷ flat_map edk_fields h.edks

abbrev pub fields_of : HeaderParts → List (List ℕ)
fields_of h = body_fields h ++ h.commitment ∷ []

-- the bytes before the commitment, of which the commitment is made
unfoldable pub header_prefix : HeaderParts → List ℕ
header_prefix h = joined (body_fields h)

-- the bytes of a header
unfoldable pub header_text : HeaderParts → List ℕ
header_text h = joined (fields_of h)

-- the bytes are the header
pub record IsHeader (h : HeaderParts) (bytes : List ℕ) : Type 0 where
  pub parts : HasParts h
  pub text : bytes ≡ header_text h

-- a fault of reading: no header has the bytes, and where the longest prefix of whole fields ends
abbrev pub IsHeaderFault : FrameFault → List ℕ → Type 0
IsHeaderFault (fault.HeaderFault at) bytes = ((h : HeaderParts) → IsHeader h bytes → ⊥) × LongestPrefix header bytes at
IsHeaderFault fault.FooterLength bytes = ⊥
IsHeaderFault fault.Memory bytes = Unit {0}
