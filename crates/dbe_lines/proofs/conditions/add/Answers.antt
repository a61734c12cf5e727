use Rattle.std.proofs.Common.{rules, ◌≡◌, ◌∙◌, ap, string_bytes}
use Rattle.serde_json.specs.Data.{put}
use Rattle.serde_json.specs.View.{view, members_view}
use Rattle.serde_json.proofs.Views.{members_view-insert_entry}
use Rattle.dbe_lines.proofs.conditions.add.Goals as goal

pub returns : goal.returns
returns c =
    let is : string_bytes c.in_ok-from_str.field-0 ≡ c.args.name.now = search rules in
    ap members_view c.in_ok-insert.ensures.entries
    ∙ members_view-insert_entry c.args.map.now.entries c.in_ok-from_str.field-0 c.args.value
    ∙ ap (λ k. put k (view c.args.value) (members_view c.args.map.now.entries)) is
