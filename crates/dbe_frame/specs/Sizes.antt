-- The numbers of a frame.
use Rattle.std.specs.Prelude.{ℕ}

-- the version that is read and written
abbrev pub version_1 : ℕ
version_1 = 1

-- the one flavour
abbrev pub the_flavour : ℕ
the_flavour = 0

-- `e`: encrypted and signed
abbrev pub encrypted : ℕ
encrypted = 101

-- `s`: signed only
abbrev pub signed_only : ℕ
signed_only = 115

-- the bytes of a message id
abbrev pub id_size : ℕ
id_size = 32

-- the bytes of a commitment
abbrev pub commitment_size : ℕ
commitment_size = 32

-- the bytes of a recipient tag
abbrev pub tag_size : ℕ
tag_size = 48

-- the most data keys of a header
abbrev pub most_edks : ℕ
most_edks = 8

-- the most bytes of a table's or an attribute's name
abbrev pub most_named : ℕ
most_named = 255

-- the greatest count or length of two bytes
abbrev pub most_counted : ℕ
most_counted = 65535
