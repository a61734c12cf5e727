-- Which rows a table hands out (this project's own).
use Rattle.std.specs.Prelude.{ℕ, Bool, true, List}
use Rattle.dbe_values.specs.declared.value.AttrValue.{AttrValue}
use Rattle.dbe_cond.specs.declared.wanted.Wanted.{Wanted}
use Rattle.dbe_cond.specs.declared.wanted.Wanted.TheVariants.{Every, Only}
use Rattle.dbe_cond.specs.Condition.{condition_of}
use Rattle.dbe_cond.specs.Meaning.{holds}

-- whether a row is wanted, the row taken as an item
abbrev pub wants : Wanted → List (List ℕ × AttrValue) → Bool
wants Every row = true
wants (Only cond) row = holds (condition_of cond) row
