use Rattle.dbe_cond.proofs.Entries.{increasing_push}
use Rattle.dbe_cond.proofs.placeholders.Names.push.Goals as goal

pub invariant_of-self-2 : goal.invariant_of-self-2
invariant_of-self-2 c = increasing_push c.self.inside.entries.items c.args.self.now c.push.new.self.items
    c.args.placeholder c.args.name c.self.view_is c.self.invariant c.requires c.in_ok-push.ensures.items
