use Rattle.std.proofs.Common.{◌≡◌, ◌∙◌, Ok, sym, subst, Option, IfSome}
use Rattle.dbe_values.specs.Keys.{row_key}
use Rattle.dbe_values.specs.KeyValues.{key_view}
use Rattle.dbe_table.specs.Rows.{Row}
use Rattle.dbe_table.proofs.Keyed.{lookup-row_at, lookup-key, mapped}
use Rattle.dbe_table.proofs.keyed_rows.KeyedRows.get.Goals as goal

pub returns-clause-found : goal.returns-clause-found
returns-clause-found c = rw (← c.self.view_is) (c.get.ensures.value ∙
    lookup-row_at c.self.inside.schema c.self.inside.rows.entries c.args.key.now c.self.invariant)

pub returns-clause-key : goal.returns-clause-key
returns-clause-key c =
    let P : Row → Type 0 = λ row. row_key c.self.inside.schema row ≡ Ok (key_view c.args.key.now) in
    let Q : Option Row → Type 0 = λ found. IfSome found P in
    let lawful = rw (← c.self.view_is) at c.requires in
    rw (← c.self.view_is) (mapped P c.get.result (subst Q (sym c.get.ensures.value)
    (lookup-key c.one_number_a_value.ensures c.a_read_key_is_lawful.ensures c.self.inside.schema
    c.self.inside.rows.entries c.args.key.now c.self.invariant lawful c.normal_key.ensures)))
