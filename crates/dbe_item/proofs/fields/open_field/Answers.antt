use Rattle.std.proofs.Common.{◌≡◌, ◌∙◌, List, ℕ, subst}
use Rattle.dbe_canon.specs.Path.{path_of}
use Rattle.dbe_item.specs.Opens.{HasBinary}
use Rattle.dbe_item.proofs.FieldSteps.{attribute_fault}
use Rattle.dbe_item.proofs.fields.open_field.Goals as goal

pub returns-in-Err-clause-fault : goal.returns-in-Err-clause-fault
returns-in-Err-clause-fault c =
    let stored : HasBinary c.args.name.now c.args.row.now c.in-Some.bytes.now = subst
    (λ (n : List ℕ). HasBinary n c.args.row.now c.in-Some.bytes.now) c.as_str.ensures c.in-Some.ensures.some in
    (c.in-Some.bytes.now, stored, tt)

pub returns-in-Ok-clause-fault : goal.returns-in-Ok-clause-fault
returns-in-Ok-clause-fault c =
    let stored : HasBinary c.args.name.now c.args.row.now c.in-Some.bytes.now = subst
    (λ (n : List ℕ). HasBinary n c.args.row.now c.in-Some.bytes.now) c.as_str.ensures c.in-Some.ensures.some in
    let path : c.deref.result.now ≡ path_of c.args.config.now.table c.args.name.now = c.deref.ensures.value ∙
    (rw (c.clear.ensures.items, c.as_bytes.ensures, c.table.ensures, c.as_bytes-2.ensures) at c.in-Ok.ensures) in
    attribute_fault c.args.config.now c.args.row.now c.args.keys.now.root c.args.k c.args.name.now c.deref.result.now
    c.in-Some.bytes.now c.open_field.result stored path c.open_field.ensures.err
