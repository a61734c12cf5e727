use Rattle.std.proofs.Common.{◌≡◌, map, drop, fold}
use Rattle.dbe_fields.specs.Plain.{plain}
use Rattle.dbe_fields.specs.Extended.{with_value}
use Rattle.dbe_fields.proofs.extension.put_virtuals.Given as goal

abbrev pub invariant-loop-field : goal.invariant-loop-field
invariant-loop-field l =
    fold (λ r name. with_value name (plain l.config name l.item) r) l.target
    (map (λ v. v.name) (drop l.field-index l.field-items))
    ≡ fold (λ r name. with_value name (plain l.config name l.item) r) l.fn.target (map (λ v. v.name) l.config.virtuals)
