use Rattle.dbe_cond.proofs.Known.{word_text}
use Rattle.dbe_cond.proofs.resolve.named.Goals as goal

pub copy_text-requires : goal.copy_text-requires
copy_text-requires c = word_text c.args.text.now c.args.names.now c.args.values.now c.args.name c.in-Word.span
    c.bytes_in.result.now c.in-Word.is c.requires c.bytes_in.ensures
