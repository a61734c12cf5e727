use Rattle.std.proofs.Common.{rules, subst, sym}
use Rattle.std.proofs.lemmas.Fn.{always_returns_same}
use Rattle.dbe_canon.specs.Path.{name_cmp}
use Rattle.dbe_item.proofs.Searched.{searched, IsNumberOrNone}
use Rattle.dbe_item.proofs.numbers.number_of.Goals as goal

pub returns : goal.returns
returns c =
    let position = c.binary_search_by-found.ensures.position (λ y. name_cmp y c.args.name.now)
    (always_returns_same _ _ _ (λ a r f k. search rules)) in
    let is = searched c.args.names.now c.args.name.now c.requires c.binary_search_by-found.result
    c.binary_search_by-found.ensures.bound position in
    subst (IsNumberOrNone c.args.names.now c.args.name.now) (sym c.ok.ensures.value) is
