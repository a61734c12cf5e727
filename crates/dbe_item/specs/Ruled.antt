-- Configurations that seal (this project's own).
use Rattle.std.specs.Prelude.{◌≡◌, ◌≤◌, false, length}
use Rattle.dbe_config.specs.Setting.{Setting}
use Rattle.dbe_config.specs.Bounds.{IsBounded}
use Rattle.dbe_config.specs.Rules.{is_not_built}

-- a configuration keeps its bounds, and what sealing needs: it has few recipients, all of them built
pub record IsSealing (c : Setting) : Type 0 where
  pub bounded : IsBounded c
  pub built : is_not_built c ≡ false
  pub few : length c.recipients ≤ 8
