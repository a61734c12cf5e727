-- What the objects that a run is handed tell (this project's own).
use Rattle.std.specs.Prelude.{ℕ, List, Option}
use Rattle.dbe_values.specs.declared.key.KeySchema.{KeySchema}
use Rattle.dbe_io.specs.declared.source.Source.{Ghosts as SourceGhosts}
use Rattle.dbe_io.specs.declared.sink.Sink.{Ghosts as SinkGhosts}
use Rattle.dbe_io.specs.declared.dice.Dice.{Ghosts as DiceGhosts}
use Rattle.dbe_table.specs.Rows.{Row}
use Rattle.dbe_table.specs.declared.table.Table.{Ghosts as TableGhosts}
use Rattle.dbe_session.specs.Steps.{Told, told}

-- what the objects tell that lines are served with
pub record Progress : Type 0 where
  pub script : Option (List ℕ)  -- the bytes of the script that are still to come
  pub told : Told  -- what the objects of a step tell
  pub written : Option (List ℕ)  -- the bytes that were written

-- what all objects tell
pub record World : Type 0 where
  pub config : Option (List ℕ)  -- the bytes of the configuration that are still to come
  pub coming : KeySchema → Option (List Row)  -- the rows that the table will have begun with
  pub begun : Option KeySchema  -- the keys that the table has begun with
  pub progress : Progress

-- what a script, an output, a table and dice tell
abbrev pub progress_of : {S O T D : Type 0} → SourceGhosts S → SinkGhosts O → TableGhosts T → DiceGhosts D → S → O →
    T → D → Progress
progress_of s o t d script out table dice = record {
  script = s.left script;
  told = told (t.rows table) (t.given table) (d.left dice);
  written = o.written out;
}

-- what these and a configuration tell
abbrev pub world_of : {C S O T D : Type 0} → SourceGhosts C → SourceGhosts S → SinkGhosts O → TableGhosts T →
    DiceGhosts D → C → S → O → T → D → World
world_of c s o t d config script out table dice = record {
  config = c.left config;
  coming = t.coming table;
  begun =
      t.begun table;
  progress = progress_of s o t d script out table dice;
}

-- what the objects tell where the table has begun with these rows
abbrev pub begun_with : Progress → Option (List Row) → Progress
begun_with before rows = record before { told = record before.told { rows = rows } }
