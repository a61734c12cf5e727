use Rattle.std.proofs.Common.{ℕ, List, [], ◌∷◌, ◌++◌, sym, subst}
use Rattle.dbe_values.specs.Sets.{IsIncreasing}
use Rattle.dbe_values.specs.Lawful.{names_of}
use Rattle.dbe_values.specs.declared.value.AttrValue.{AttrValue}
use Rattle.std.specs.Str.{IsUtf8}
use Rattle.dbe_values.proofs.Lookups.{lawful_push}
use Rattle.dbe_values.proofs.item.Item.push.Goals as goal

pub invariant_of-self-2 : goal.invariant_of-self-2
invariant_of-self-2 c =
    rw c.in_ok-push.ensures.items (lawful_push _ c.self.invariant c.args.name c.args.value (record {
      text =
          subst IsUtf8 c.as_str.ensures c.as_str.utf8;
      name = c.requires.named;
      value = c.requires.lawful;
    })
    (subst (λ (xs : List (List ℕ × AttrValue)). IsIncreasing (names_of xs ++ c.args.name ∷ []))
    (sym c.self.view_is) c.requires.last))
