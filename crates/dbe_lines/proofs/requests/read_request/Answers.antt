use Rattle.std.proofs.Common.{Some}
use Rattle.serde_json.specs.View.{view}
use Rattle.dbe_lines.proofs.Keys.{read_lawful}
use Rattle.dbe_lines.proofs.requests.read_request.Goals as goal

pub returns-in-Some-clause-key : goal.returns-in-Some-clause-key
returns-in-Some-clause-key c = read_lawful c.args.config.now (Some (view c.in-Some.value)) c.request_in.result
    c.request_in.ensures
