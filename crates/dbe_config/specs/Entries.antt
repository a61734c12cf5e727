-- The entries of a map from texts to actions.
use Rattle.std.specs.Prelude.{ℕ, List, map, String, string_bytes}
use Rattle.std.specs.declared.alloc.Global.{Global}
use Rattle.dbe_config.specs.declared.action.Action.{Action}

abbrev pub entries_of : List (String Global × Action) → List (List ℕ × Action)
entries_of es = map (λ e. (string_bytes e.0, e.1)) es
