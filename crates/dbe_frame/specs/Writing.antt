-- Steps of the writer; not part of what is promised.
-- The parts of a header, one behind the other.
use Rattle.std.specs.Prelude.{ℕ, List, ◌∷◌, ◌++◌, length}
use Rattle.std.specs.List.{flat_map}
use Rattle.dbe_rawring.specs.Edk.{EdkParts}
use Rattle.dbe_frame.specs.Header.{short_number}
use Rattle.dbe_frame.specs.Context.{short_string, pair_text}

abbrev pub edk_text : EdkParts → List ℕ
edk_text e = (short_string e.provider ++ short_string e.info) ++ short_string e.ciphertext

-- the count of pairs in two bytes, and the pairs
abbrev pub context_part : List (List ℕ × List ℕ) → List ℕ
context_part pairs = short_number (length pairs) ++ flat_map pair_text pairs

-- the count of data keys in a byte, and the data keys
abbrev pub edks_part : List EdkParts → List ℕ
edks_part edks = length edks ∷ flat_map edk_text edks
