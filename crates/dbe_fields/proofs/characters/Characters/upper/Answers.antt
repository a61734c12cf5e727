use Rattle.std.proofs.Common.{◌≡◌, length, map, drop, ap, ◌∙◌, arith}
use Rattle.std.specs.Char.{to_ascii_uppercase}
use Rattle.std.specs.List.{drop-map}
use Rattle.std.proofs.lemmas.List.{with_items_is, length-map}
use Rattle.dbe_fields.proofs.characters.Characters.upper.Goals as goal

pub returns : goal.returns
returns c =
    let v = c.self.inside.items in
    let made : c.make_upper.new.text ≡ map to_ascii_uppercase v.items = c.make_upper.ensures ∙
    ap (map to_ascii_uppercase) c.deref_mut.ensures.value in
    let long : length c.make_upper.new.text ≡ v.len = omega (
      arith,
      ap length made,
      length-map v.items to_ascii_uppercase,
      v.ok.0,
    ) in
    ap (drop c.self.inside.from) (with_items_is v c.make_upper.new.text long ∙ made) ∙
    drop-map to_ascii_uppercase c.self.inside.from v.items ∙ ap (map to_ascii_uppercase) c.self.view_is
