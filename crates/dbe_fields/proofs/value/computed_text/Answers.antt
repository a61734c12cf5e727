use Rattle.std.proofs.Common.{◌≡◌, false}
use Rattle.dbe_fields.specs.Plain.{is_computed}
use Rattle.dbe_fields.proofs.Values.{not_computed}
use Rattle.dbe_fields.proofs.value.computed_text.Goals as goal

pub returns-in-None-virtual_named : goal.returns-in-None-virtual_named
returns-in-None-virtual_named c = λ computed. absurd (let free : is_computed c.args.config.now c.args.name.now ≡ false
    = not_computed c.args.config.now c.args.name.now c.in-None.ensures.named c.in-None-virtual_named.ensures in cc)
