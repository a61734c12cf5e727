-- The names and values of a condition are the operands among its tokens, in their order.
use Rattle.std.proofs.Common.{◌≡◌, Bool, true, false, List, [], ◌∷◌, ◌++◌, map, refl, sym, ap, ◌∙◌, append_assoc}
use Rattle.std.proofs.Common.{append-nil}
use Rattle.std.specs.List.{flat_map}
use Rattle.std.proofs.lemmas.Grind.{flat_map-append}
use Rattle.std.proofs.lemmas.List.{map-append}
use Rattle.dbe_tokens.specs.declared.token.Token.{Token}
use Rattle.dbe_tokens.specs.declared.token.Token.TheVariants as t
use Rattle.dbe_tokens.specs.declared.token.Operand.{Operand as TokenOperand}
use Rattle.dbe_grammar.specs.Grammar.{comma_text}
use Rattle.dbe_grammar.specs.Printed.{printed, and_printed, more_ands, or_printed, more_ors, in_parentheses, is_chain}
use Rattle.dbe_grammar.specs.Printed.{is_or, list_printed}
use Rattle.dbe_cond.specs.Condition.{Condition, Conditions, compare, between, within, begins, exists, lacks, not, and}
use Rattle.dbe_cond.specs.Condition.{or, none, some}
use Rattle.dbe_cond.specs.Names.{operand_names, names_of, names_of_all}
use Rattle.dbe_cond.specs.Values.{operand_values, values_of, values_of_all}
use Rattle.dbe_cond.specs.Printed.{operand_shape, shape_of, all_shapes}
use Rattle.dbe_cond.specs.declared.operand.Operand.{Operand}
use Rattle.dbe_cond.specs.declared.operand.Operand.TheVariants.{Name}

-- the names and values of a condition, in text order
abbrev mutual
  pub leaves_of : Condition → List Operand
  leaves_of (compare left op right) = left ∷ right ∷ []
  leaves_of (between value low high) = value ∷ low ∷ high ∷ []
  leaves_of (within value list) = value ∷ list
  leaves_of (begins name front) = Name name ∷ front ∷ []
  leaves_of (exists name) = Name name ∷ []
  leaves_of (lacks name) = Name name ∷ []
  leaves_of (not c) = leaves_of c
  leaves_of (and cs) = all_leaves cs
  leaves_of (or cs) = all_leaves cs

  pub all_leaves : Conditions → List Operand
  all_leaves none = []
  all_leaves (some c cs) = leaves_of c ++ all_leaves cs

two : {X : Type 0} (a b : List X) → a ++ b ≡ a ++ (b ++ [])
two a b = ap (λ x. a ++ x) (sym (append-nil b))

three : {X : Type 0} (a b c : List X) → (a ++ b) ++ c ≡ a ++ (b ++ (c ++ []))
three a b c = append_assoc a b c ∙ ap (λ x. a ++ (b ++ x)) (sym (append-nil c))

mutual
  pub names_of-leaves : (c : Condition) → names_of c ≡ flat_map operand_names (leaves_of c)
  names_of-leaves (compare left op right) = two (operand_names left) (operand_names right)
  names_of-leaves (between value low high) = three (operand_names value) (operand_names low) (operand_names high)
  names_of-leaves (within value list) = refl
  names_of-leaves (begins name front) = ap (λ x. name ∷ x) (sym (append-nil (operand_names front)))
  names_of-leaves (exists name) = refl
  names_of-leaves (lacks name) = refl
  names_of-leaves (not c) = names_of-leaves c
  names_of-leaves (and cs) = names_of_all-leaves cs
  names_of-leaves (or cs) = names_of_all-leaves cs

  names_of_all-leaves : (cs : Conditions) → names_of_all cs ≡ flat_map operand_names (all_leaves cs)
  names_of_all-leaves none = refl
  names_of_all-leaves (some c cs) =
      ap (λ x. x ++ names_of_all cs) (names_of-leaves c) ∙ ap (λ x. flat_map operand_names (leaves_of c) ++ x)
      (names_of_all-leaves cs) ∙ sym (flat_map-append operand_names (leaves_of c) (all_leaves cs))

mutual
  pub values_of-leaves : (c : Condition) → values_of c ≡ flat_map operand_values (leaves_of c)
  values_of-leaves (compare left op right) = two (operand_values left) (operand_values right)
  values_of-leaves (between value low high) = three (operand_values value) (operand_values low) (operand_values high)
  values_of-leaves (within value list) = refl
  values_of-leaves (begins name front) = sym (append-nil (operand_values front))
  values_of-leaves (exists name) = refl
  values_of-leaves (lacks name) = refl
  values_of-leaves (not c) = values_of-leaves c
  values_of-leaves (and cs) = values_of_all-leaves cs
  values_of-leaves (or cs) = values_of_all-leaves cs

  values_of_all-leaves : (cs : Conditions) → values_of_all cs ≡ flat_map operand_values (all_leaves cs)
  values_of_all-leaves none = refl
  values_of_all-leaves (some c cs) =
      ap (λ x. x ++ values_of_all cs) (values_of-leaves c) ∙ ap (λ x. flat_map operand_values (leaves_of c) ++ x)
      (values_of_all-leaves cs) ∙ sym (flat_map-append operand_values (leaves_of c) (all_leaves cs))

-- the operands among tokens
abbrev pub operands : List Token → List TokenOperand
operands [] = []
operands (t.Operand a ∷ tokens) = a ∷ operands tokens
operands (token ∷ tokens) = operands tokens

operands-commas : (list : List TokenOperand) (others : List Token) →
    operands (comma_text list others) ≡ list ++ operands others
operands-commas [] others = refl
operands-commas (a ∷ list) others = ap (λ x. a ∷ x) (operands-commas list others)

operands-list : (list : List TokenOperand) (others : List Token) →
    operands (list_printed list others) ≡ list ++ operands others
operands-list [] others = refl
operands-list (a ∷ list) others = ap (λ x. a ∷ x) (operands-commas list others)

-- one part and the parts behind it
joined : (leaves more : List Operand) (others x y : List TokenOperand) → x ≡ map operand_shape leaves ++ y →
    y ≡ map operand_shape more ++ others → x ≡ map operand_shape (leaves ++ more) ++ others
joined leaves more others x y p q =
    p ∙ ap (λ z. map operand_shape leaves ++ z) q ∙
    sym (append_assoc (map operand_shape leaves) (map operand_shape more) others) ∙
    ap (λ z. z ++ others) (sym (map-append operand_shape leaves more))

operands-parentheses : (b : Bool) (text : List Token → List Token) (leaves : List Operand) (others : List Token) →
    ((u : List Token) → operands (text u) ≡ map operand_shape leaves ++ operands u) →
    operands (in_parentheses b text others) ≡ map operand_shape leaves ++ operands others
operands-parentheses true text leaves others h = h (t.Close ∷ others)
operands-parentheses false text leaves others h = h others

mutual
  pub operands-printed : (c : Condition) (others : List Token) →
      operands (printed (shape_of c) others) ≡ map operand_shape (leaves_of c) ++ operands others
  operands-printed (compare left op right) others = refl
  operands-printed (between value low high) others = refl
  operands-printed (within value list) others =
      ap (λ x. operand_shape value ∷ x) (operands-list (map operand_shape list) (t.Close ∷ others))
  operands-printed (begins name front) others = refl
  operands-printed (exists name) others = refl
  operands-printed (lacks name) others = refl
  operands-printed (not c) others = operands-parentheses (is_chain (shape_of c)) (printed (shape_of c)) (leaves_of c)
      others (operands-printed c)
  operands-printed (and cs) others = operands-ands cs others
  operands-printed (or cs) others = operands-ors cs others

  operands-ands : (cs : Conditions) (others : List Token) → operands (and_printed (all_shapes cs) others) ≡ map
      operand_shape (all_leaves cs) ++ operands others
  operands-ands none others = refl
  operands-ands (some c cs) others =
      joined (leaves_of c) (all_leaves cs) (operands others) _ _ (operands-parentheses (is_chain (shape_of c))
      (printed (shape_of c)) (leaves_of c) (more_ands (all_shapes cs) others) (operands-printed c))
      (operands-more_ands cs others)

  operands-more_ands : (cs : Conditions) (others : List Token) → operands (more_ands (all_shapes cs) others) ≡ map
      operand_shape (all_leaves cs) ++ operands others
  operands-more_ands none others = refl
  operands-more_ands (some c cs) others =
      joined (leaves_of c) (all_leaves cs) (operands others) _ _ (operands-parentheses (is_chain (shape_of c))
      (printed (shape_of c)) (leaves_of c) (more_ands (all_shapes cs) others) (operands-printed c))
      (operands-more_ands cs others)

  operands-ors : (cs : Conditions) (others : List Token) → operands (or_printed (all_shapes cs) others) ≡ map
      operand_shape (all_leaves cs) ++ operands others
  operands-ors none others = refl
  operands-ors (some c cs) others =
      joined (leaves_of c) (all_leaves cs) (operands others) _ _ (operands-parentheses (is_or (shape_of c))
      (printed (shape_of c)) (leaves_of c) (more_ors (all_shapes cs) others) (operands-printed c))
      (operands-more_ors cs others)

  operands-more_ors : (cs : Conditions) (others : List Token) →
      operands (more_ors (all_shapes cs) others) ≡ map operand_shape (all_leaves cs) ++ operands others
  operands-more_ors none others = refl
  operands-more_ors (some c cs) others =
      joined (leaves_of c) (all_leaves cs) (operands others) _ _ (operands-parentheses (is_or (shape_of c))
      (printed (shape_of c)) (leaves_of c) (more_ors (all_shapes cs) others) (operands-printed c))
      (operands-more_ors cs others)
