use Rattle.std.proofs.Common.{rules}
use Rattle.dbe_config.proofs.Few.{few_recipients}
use Rattle.dbe_config.proofs.config.Config.keeps_few_recipients.Goals as goal

pub returns : goal.returns
returns c = few_recipients c.args.self.now (search rules)
