use Rattle.std.proofs.Common.{◌≡◌, drop}
use Rattle.dbe_config.specs.Rules.{is_among, virtual_names}
use Rattle.dbe_fields.proofs.computed.is_virtual.Given as goal

abbrev pub invariant-loop-field : goal.invariant-loop-field
invariant-loop-field l = is_among l.name (virtual_names (drop l.field-index l.virtuals)) ≡ is_among l.name
    (virtual_names l.virtuals)
