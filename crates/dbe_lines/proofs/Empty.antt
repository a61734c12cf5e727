-- An empty line is no JSON.
use Rattle.std.proofs.Common.{◌≡◌, [], Bool, true, false, if◌then◌else◌, Option, None, refl, ap}
use Rattle.std.specs.Str.{is_utf8}
use Rattle.serde_json.specs.Data.{Data}
use Rattle.serde_json.specs.Read.{read}
use Rattle.serde_json.proofs.OnLiterals.{serde_json_on_literals}
use Rattle.dbe_values.specs.Json.{json_of}
use Rattle.dbe_config.specs.Setting.{Setting}
use Rattle.dbe_lines.specs.Requests.{request_of, request_in}
use Rattle.dbe_lines.specs.declared.request.Request.TheVariants as r

nothing_read : read [] ≡ None
unfolding serde_json_on_literals
nothing_read = refl

none_if : (t : Bool) (d : Option Data) → d ≡ None → (if t then d else None) ≡ None
none_if true d is = is
none_if false d is = refl

no_json : json_of [] ≡ None
no_json = none_if (is_utf8 []) (read []) nothing_read

pub no_request : (st : Setting) → request_of st [] ≡ r.NotJson
no_request st = ap (request_in st) no_json
