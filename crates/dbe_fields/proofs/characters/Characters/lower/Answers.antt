use Rattle.std.proofs.Common.{◌≡◌, length, map, drop, ap, ◌∙◌, arith}
use Rattle.std.specs.Char.{to_ascii_lowercase}
use Rattle.std.specs.List.{drop-map}
use Rattle.std.proofs.lemmas.List.{with_items_is, length-map}
use Rattle.dbe_fields.proofs.characters.Characters.lower.Goals as goal

pub returns : goal.returns
returns c =
    let v = c.self.inside.items in
    let made : c.make_lower.new.text ≡ map to_ascii_lowercase v.items = c.make_lower.ensures ∙
    ap (map to_ascii_lowercase) c.deref_mut.ensures.value in
    let long : length c.make_lower.new.text ≡ v.len = omega (
      arith,
      ap length made,
      length-map v.items to_ascii_lowercase,
      v.ok.0,
    ) in
    ap (drop c.self.inside.from) (with_items_is v c.make_lower.new.text long ∙ made) ∙
    drop-map to_ascii_lowercase c.self.inside.from v.items ∙ ap (map to_ascii_lowercase) c.self.view_is
