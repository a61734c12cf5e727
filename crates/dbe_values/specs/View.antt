-- The value that an `AttrValue` is.
use Rattle.std.specs.Prelude.{ℕ, List, [], ◌∷◌}
use Rattle.dbe_values.specs.Val.{Val, text, number, binary, boolean, nothing, texts, numbers, binaries, list, map}
use Rattle.dbe_values.specs.Val.{Vals, no_vals, val, Entries, no_entries, entry}
use Rattle.dbe_values.specs.declared.value.AttrValue.{AttrValue, fold-AttrValue, S, N, B, Bool, Null, Ss, Ns, Bs, L, M}
use Rattle.dbe_values.specs.declared.value.AttrValue.TheOpen.{AttrValue-F}

abbrev pub vals_of : List Val → Vals
vals_of [] = no_vals
vals_of (v ∷ vs) = val v (vals_of vs)

abbrev pub entries_of : List (List ℕ × Val) → Entries
entries_of [] = no_entries
entries_of (e ∷ es) = entry e.0 e.1 (entries_of es)

-- one level, with each value inside already seen
abbrev pub view_step : AttrValue-F Val → Val
view_step (AttrValue-F.S x) = text x
view_step (AttrValue-F.N x) = number x
view_step (AttrValue-F.B x) = binary x
view_step (AttrValue-F.Bool x) = boolean x
view_step AttrValue-F.Null = nothing
view_step (AttrValue-F.Ss xs) = texts xs
view_step (AttrValue-F.Ns xs) = numbers xs
view_step (AttrValue-F.Bs xs) = binaries xs
view_step (AttrValue-F.L vs) = list (vals_of vs)
view_step (AttrValue-F.M es) = map (entries_of es)

abbrev pub view : AttrValue → Val
view = fold-AttrValue Val view_step

abbrev pub entry_view : List ℕ × AttrValue → List ℕ × Val
entry_view e = (e.0, view e.1)

-- The value that is seen as this.
abbrev mutual
  pub attr_of : Val → AttrValue
  attr_of (text x) = S x
  attr_of (number x) = N x
  attr_of (binary x) = B x
  attr_of (boolean x) = Bool x
  attr_of nothing = Null
  attr_of (texts xs) = Ss xs
  attr_of (numbers xs) = Ns xs
  attr_of (binaries xs) = Bs xs
  attr_of (list vs) = L (attrs_of vs)
  attr_of (map es) = M (attributes_of es)

  pub attrs_of : Vals → List AttrValue
  attrs_of no_vals = []
  attrs_of (val v vs) = attr_of v ∷ attrs_of vs

  pub attributes_of : Entries → List (List ℕ × AttrValue)
  attributes_of no_entries = []
  attributes_of (entry n v es) = (n, attr_of v) ∷ attributes_of es
