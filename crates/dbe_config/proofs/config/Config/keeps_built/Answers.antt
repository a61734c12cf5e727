use Rattle.std.proofs.Common.{rules}
use Rattle.dbe_config.proofs.Few.{all_built}
use Rattle.dbe_config.proofs.config.Config.keeps_built.Goals as goal

pub returns : goal.returns
returns c = all_built c.args.self.now (search rules)
