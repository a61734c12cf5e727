use Rattle.dbe_config.proofs.Actions.{cloned_entries}
use Rattle.dbe_config.proofs.copies.copy_of_actions.Goals as goal

pub returns : goal.returns
returns c = cloned_entries c.args.actions.now.entries c.in_ok-clone.field-0.entries c.in_ok-clone.ensures.cases
