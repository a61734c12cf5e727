-- The text of a value (this project's own).
use Rattle.std.specs.Prelude.{ℕ, List, Option, Some, None}
use Rattle.dbe_num.specs.NormalText.{normal_text}
use Rattle.dbe_values.specs.Val.{Val, text, number, binary, boolean, nothing, texts, numbers, binaries, list, map}
use Rattle.dbe_values.specs.View.{view}
use Rattle.dbe_values.specs.declared.value.AttrValue.{AttrValue}

-- that of a text, or the normal text of a number; other values have none
abbrev pub text_in : Val → Option (List ℕ)
text_in (text x) = Some x
text_in (number x) = Some (normal_text x)
text_in (binary x) = None
text_in (boolean x) = None
text_in nothing = None
text_in (texts xs) = None
text_in (numbers xs) = None
text_in (binaries xs) = None
text_in (list vs) = None
text_in (map es) = None

abbrev pub value_text : AttrValue → Option (List ℕ)
value_text a = text_in (view a)
