use Rattle.dbe_lines.proofs.Plain.{query_is_plain, explain_is_plain}
use Rattle.dbe_lines.proofs.laws.queries_are_over_plain_tables.Goals as goal

pub returns-clause-query : goal.returns-clause-query
returns-clause-query c = query_is_plain

pub returns-clause-explain : goal.returns-clause-explain
returns-clause-explain c = explain_is_plain
