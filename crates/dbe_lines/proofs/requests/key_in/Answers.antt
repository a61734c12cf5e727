use Rattle.std.proofs.Common.{sym, ◌∙◌}
use Rattle.serde_json.specs.View.{view}
use Rattle.dbe_lines.proofs.Known.{key_made}
use Rattle.dbe_lines.proofs.requests.key_in.Goals as goal

pub returns-in_ok-key_of-in-Ok : goal.returns-in_ok-key_of-in-Ok
returns-in_ok-key_of-in-Ok c = λ make.
    key_made c.args.schema.now make (view c.args.value.now) c.in-Ok.item _
    (sym c.is_key_object.ensures ∙ c.if-not-is_key_object.false) c.in-Ok.ensures (c.in_ok-key_of-in-Ok.ensures make)
