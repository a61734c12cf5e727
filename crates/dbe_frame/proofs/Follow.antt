-- One format behind another, by a name: reading has an operator of the same signs.
use Rattle.dbe_frame.specs.Format.{Format, ◌>>=◌}

abbrev pub followed : {A B : Type 0} → Format A → (A → Format B) → Format B
followed m f = m >>= f
