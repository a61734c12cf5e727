use Rattle.std.proofs.Common.{◌≡◌, map, drop}
use Rattle.dbe_fields.proofs.Removal.{unnamed}
use Rattle.dbe_fields.proofs.extension.remove_virtuals.Given as goal

abbrev pub invariant-loop-field : goal.invariant-loop-field
invariant-loop-field l = unnamed (map (λ v. v.name) (drop l.field-index l.virtuals)) l.target ≡ unnamed
    (map (λ v. v.name) l.virtuals) l.fn.target
