use Rattle.std.proofs.Common.{◌≡◌, ◌∙◌, sym, ap}
use Rattle.dbe_table.specs.InMemory.{rows_held}
use Rattle.dbe_table.proofs.Keyed.{wanted-every, weaker_ok}
use Rattle.dbe_table.proofs.mem_table.MemTable.rows.Goals as goal

pub returns-in-Some-clause-rows : goal.returns-in-Some-clause-rows
returns-in-Some-clause-rows c =
    let same : c.in-Some.held.rows ≡ c.args.self.now.rows = ap rows_held (sym c.in-Some.is) ∙
    ap (λ t. t.rows) c.self.view_is in
    weaker_ok c.select.result _ _ (λ found is. is ∙ wanted-every c.in-Some.held.rows ∙ same) c.select.ensures.found
