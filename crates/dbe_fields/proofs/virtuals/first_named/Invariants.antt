use Rattle.std.proofs.Common.{◌≡◌, drop, find, bytes_eq}
use Rattle.dbe_fields.proofs.virtuals.first_named.Given as goal

abbrev pub invariant-loop-field : goal.invariant-loop-field
invariant-loop-field l = find (λ v. bytes_eq l.name v.name) (drop l.field-index l.fields) ≡ find
    (λ v. bytes_eq l.name v.name) l.fields
