-- The form of a tree, node by node, and of members that get one more.
use Rattle.std.proofs.Common.{◌≡◌, List, [], ◌∷◌, ◌++◌, refl, ap}
use denote.Hole.Carrier
use Rattle.dbe_tokens.specs.declared.token.Op.{Op}
use Rattle.dbe_tokens.specs.declared.token.Name.{Name}
use Rattle.dbe_tokens.specs.declared.token.Operand.{Operand}
use Rattle.dbe_grammar.specs.declared.tree.Tree.{Tree, Compare, Between, In, BeginsWith, Exists, NotExists, Not, And}
use Rattle.dbe_grammar.specs.declared.tree.Tree.{Or, fold-roll-Tree, roll-Tree}
use Rattle.dbe_grammar.specs.declared.tree.Tree.TheOpen.{Tree-F}
use Rattle.dbe_grammar.specs.Form.{Form, some, form_of, members_of, forms_last, form_step}
use Rattle.dbe_grammar.specs.Form as form

pub members_of-last : (trees : List Tree) (c : Tree) → members_of (trees ++ c ∷ []) ≡ forms_last (members_of trees)
    (form_of c)
members_of-last [] c = refl
members_of-last (d ∷ trees) c = ap (λ x. some (form_of d) x) (members_of-last trees c)

pub form_of-Compare : (left : Operand) (op : Op) (right : Operand) →
    form_of (Compare left op right) ≡ form.compare left op right
unfolding roll-Tree denote.Hole.Carrier.roll
form_of-Compare left op right = fold-roll-Tree Form form_step (Tree-F.Compare left op right)

pub form_of-Between : (value low high : Operand) → form_of (Between value low high) ≡ form.between value low high
unfolding roll-Tree denote.Hole.Carrier.roll
form_of-Between value low high = fold-roll-Tree Form form_step (Tree-F.Between value low high)

pub form_of-In : (value : Operand) (list : List Operand) → form_of (In value list) ≡ form.within value list
unfolding roll-Tree denote.Hole.Carrier.roll
form_of-In value list = fold-roll-Tree Form form_step (Tree-F.In value list)

pub form_of-BeginsWith : (name : Name) (front : Operand) → form_of (BeginsWith name front) ≡ form.begins name front
unfolding roll-Tree denote.Hole.Carrier.roll
form_of-BeginsWith name front = fold-roll-Tree Form form_step (Tree-F.BeginsWith name front)

pub form_of-Exists : (name : Name) → form_of (Exists name) ≡ form.exists name
unfolding roll-Tree denote.Hole.Carrier.roll
form_of-Exists name = fold-roll-Tree Form form_step (Tree-F.Exists name)

pub form_of-NotExists : (name : Name) → form_of (NotExists name) ≡ form.lacks name
unfolding roll-Tree denote.Hole.Carrier.roll
form_of-NotExists name = fold-roll-Tree Form form_step (Tree-F.NotExists name)

pub form_of-Not : (c : Tree) → form_of (Not c) ≡ form.not (form_of c)
unfolding roll-Tree denote.Hole.Carrier.roll
form_of-Not c = fold-roll-Tree Form form_step (Tree-F.Not c)

pub form_of-And : (trees : List Tree) → form_of (And trees) ≡ form.and (members_of trees)
unfolding roll-Tree denote.Hole.Carrier.roll
form_of-And trees = fold-roll-Tree Form form_step (Tree-F.And trees)

pub form_of-Or : (trees : List Tree) → form_of (Or trees) ≡ form.or (members_of trees)
unfolding roll-Tree denote.Hole.Carrier.roll
form_of-Or trees = fold-roll-Tree Form form_step (Tree-F.Or trees)
