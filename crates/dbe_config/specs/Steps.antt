-- The steps of a virtual field (this project's own): arrays of a word and what it asks for.
use Rattle.std.specs.Prelude.{ℕ, ℤ, ◌==◌, List, codes, bytes_eq, Option, Some, None, if◌then◌else◌}
use Rattle.serde_json.specs.Data.{Data}
use Rattle.serde_json.specs.Find.{at}
use Rattle.dbe_config.specs.declared.text_step.TextStep.{TextStep}
use Rattle.dbe_config.specs.declared.text_step.TextStep.TheVariants as step
use Rattle.dbe_config.specs.Spelling.{any_text_in, whole_in, char_in, count_of}

-- `["upper"]`, `["lower"]`
abbrev pub bare_step : List ℕ → Option TextStep
bare_step word =
    if bytes_eq word (codes "upper") then Some step.Upper
    else (if bytes_eq word (codes "lower") then Some step.Lower
    else None)

abbrev pub insert_of : Option (List ℕ) → Option TextStep
insert_of None = None
insert_of (Some t) = Some (step.Insert t)

abbrev pub prefix_of : Option ℤ → Option TextStep
prefix_of None = None
prefix_of (Some n) = Some (step.Prefix n)

abbrev pub suffix_of : Option ℤ → Option TextStep
suffix_of None = None
suffix_of (Some n) = Some (step.Suffix n)

-- `["insert", t]`, `["prefix", n]`, `["suffix", n]`
abbrev pub step_of_one : List ℕ → Option Data → Option TextStep
step_of_one word a =
    if bytes_eq word (codes "insert") then insert_of (any_text_in a)
    else (if bytes_eq word (codes "prefix") then prefix_of (whole_in a)
    else (if bytes_eq word (codes "suffix") then suffix_of (whole_in a)
    else None))

abbrev pub substring_of : Option ℤ → Option ℤ → Option TextStep
substring_of None b = None
substring_of (Some a) None = None
substring_of (Some a) (Some b) = Some (step.Substring a b)

abbrev pub segment_of : Option ℕ → Option ℤ → Option TextStep
segment_of None i = None
segment_of (Some c) None = None
segment_of (Some c) (Some i) = Some (step.Segment c i)

-- `["substring", a, b]`, `["segment", c, i]`
abbrev pub step_of_two : List ℕ → Option Data → Option Data → Option TextStep
step_of_two word a b =
    if bytes_eq word (codes "substring") then substring_of (whole_in a) (whole_in b)
    else (if bytes_eq word (codes "segment") then segment_of (char_in a) (whole_in b)
    else None)

abbrev pub segments_of : Option ℕ → Option ℤ → Option ℤ → Option TextStep
segments_of None a b = None
segments_of (Some c) None b = None
segments_of (Some c) (Some a) None = None
segments_of (Some c) (Some a) (Some b) = Some (step.Segments c a b)

-- `["segments", c, a, b]`
abbrev pub step_of_three : List ℕ → Option Data → Option Data → Option Data → Option TextStep
step_of_three word a b c = if bytes_eq word (codes "segments") then segments_of (char_in a) (whole_in b) (whole_in c)
    else None

abbrev pub step_by : Option (List ℕ) → Data → Option TextStep
step_by None d = None
step_by (Some word) d =
    if count_of d == 1 then bare_step word
    else (if count_of d == 2 then step_of_one word (at 1 d)
    else (if count_of d == 3 then step_of_two word (at 1 d) (at 2 d)
    else (if count_of d == 4 then step_of_three word (at 1 d) (at 2 d) (at 3 d)
    else None)))

abbrev pub step_in : Data → Option TextStep
step_in d = step_by (any_text_in (at 0 d)) d
