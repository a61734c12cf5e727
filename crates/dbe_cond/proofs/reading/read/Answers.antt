use Rattle.dbe_cond.proofs.Readings.{gives, gives_fault}
use Rattle.dbe_cond.proofs.reading.read.Goals as goal

pub returns-clause-only : goal.returns-clause-only
returns-clause-only c = gives c.args.text.now c.as_bytes.result.now c.args.names.now c.args.values.now
    c.read_bytes.result c.as_bytes.ensures.value c.read_bytes.ensures.ok c.read_bytes.ensures.refused

pub returns-clause-bad : goal.returns-clause-bad
returns-clause-bad c = gives_fault c.args.text.now c.as_bytes.result.now c.args.names.now c.args.values.now
    c.read_bytes.result c.as_bytes.ensures.value c.read_bytes.ensures.ok c.read_bytes.ensures.refused
