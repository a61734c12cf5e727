use Rattle.std.proofs.Common.{◌∙◌, ap}
use Rattle.dbe_config.specs.Actions.{action_at}
use Rattle.dbe_config.specs.Entries.{entries_of}
use Rattle.dbe_config.proofs.Actions.{action_at_lookup}
use Rattle.dbe_config.proofs.names.action_at.Goals as goal

pub returns : goal.returns
returns c =
    c.copied.ensures ∙ c.get.ensures.value ∙ action_at_lookup c.as_str.result.now c.args.actions.now.entries
    ∙ ap (λ n. action_at n (entries_of c.args.actions.now.entries)) c.as_str.ensures
