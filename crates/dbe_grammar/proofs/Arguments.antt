-- What stands in the parentheses of a function.
use Rattle.std.proofs.Common.{◌≡◌, List, [], ◌∷◌, length, Some, refl, ap, sym, ◌∙◌}
use Rattle.std.specs.Prelude.{◌≢◌}
use Rattle.dbe_tokens.specs.declared.token.Token.{Token}
use Rattle.dbe_tokens.specs.declared.token.Token.TheVariants as t
use Rattle.dbe_tokens.specs.declared.token.Name.{Name}
use Rattle.dbe_tokens.specs.declared.token.Operand.{Operand}
use Rattle.dbe_tokens.specs.declared.token.Operand.TheVariants as o
use Rattle.dbe_grammar.specs.Grammar.{name_text}
use Rattle.dbe_grammar.specs.Parts.{next_of, NameStuck, Pair, pair, text_of_pair, PairStuck}
use Rattle.dbe_grammar.proofs.Places.{some_name, some_operand, NoOperand, NoName, at_place}

-- attribute_exists and attribute_not_exists
pub name_open : (tokens : List Token) → next_of tokens ≢ Some t.Open → NameStuck tokens (length tokens)
name_open tokens h = at_place Name name_text [] tokens (name_text some_name []) some_name refl
    (λ n more others e q. h (sym e ∙ ap next_of q))

name_only : (tokens : List Token) → NoName tokens → (n : Name) (more others : List Token) →
    next_of more ≡ next_of tokens → t.Open ∷ more ≡ name_text n others → ⊥
name_only tokens h n more others e q = let r : more ≡ t.Operand (o.Name n) ∷ t.Close ∷ others = cc in
    h n (sym e ∙ ap next_of r)

pub name_name : (tokens rest : List Token) → tokens ≡ t.Open ∷ rest → NoName rest → NameStuck tokens (length rest)
name_name tokens rest w h = rw w (at_place Name name_text (t.Open ∷ []) rest (t.Operand some_operand ∷ t.Close ∷ [])
    some_name refl (name_only rest h))

name_end : (tokens : List Token) (m : Name) → next_of tokens ≢ Some t.Close → (n : Name) (more others : List Token) →
    next_of more ≡ next_of tokens → t.Open ∷ t.Operand (o.Name m) ∷ more ≡ name_text n others → ⊥
name_end tokens m h n more others e q = let r : more ≡ t.Close ∷ others = cc in h (sym e ∙ ap next_of r)

pub name_close : (tokens opened rest : List Token) (m : Name) → tokens ≡ t.Open ∷ opened →
    opened ≡ t.Operand (o.Name m) ∷ rest → next_of rest ≢ Some t.Close → NameStuck tokens (length rest)
name_close tokens opened rest m w x h = rw (w, x) (at_place Name name_text (t.Open ∷ t.Operand (o.Name m) ∷ []) rest
    (t.Close ∷ []) m refl (name_end rest m h))

-- begins_with
none_open : (tokens : List Token) → next_of tokens ≢ Some t.Open → (p : Pair) (more others : List Token) →
    next_of more ≡ next_of tokens → more ≡ text_of_pair p others → ⊥
none_open tokens h (pair n a) more others e q = h (sym e ∙ ap next_of q)

pub pair_open : (tokens : List Token) → next_of tokens ≢ Some t.Open → PairStuck tokens (length tokens)
pair_open tokens h = at_place Pair text_of_pair [] tokens (text_of_pair (pair some_name some_operand) [])
    (pair some_name some_operand) refl (none_open tokens h)

none_name : (tokens : List Token) → NoName tokens → (p : Pair) (more others : List Token) →
    next_of more ≡ next_of tokens → t.Open ∷ more ≡ text_of_pair p others → ⊥
none_name tokens h (pair n a) more others e q = let r : more ≡ t.Operand (o.Name n) ∷ t.Comma ∷ t.Operand a ∷ t.Close
    ∷ others = cc in h n (sym e ∙ ap next_of r)

pub pair_name : (tokens rest : List Token) → tokens ≡ t.Open ∷ rest → NoName rest → PairStuck tokens (length rest)
pair_name tokens rest w h =
    rw w (at_place Pair text_of_pair (t.Open ∷ []) rest (t.Operand some_operand ∷ t.Comma ∷ t.Operand some_operand ∷
    t.Close ∷ []) (pair some_name some_operand) refl (none_name rest h))

none_comma : (tokens : List Token) (m : Name) → next_of tokens ≢ Some t.Comma →
    (p : Pair) (more others : List Token) → next_of more ≡ next_of tokens →
    t.Open ∷ t.Operand (o.Name m) ∷ more ≡ text_of_pair p others → ⊥
none_comma tokens m h (pair n a) more others e q = let r : more ≡ t.Comma ∷ t.Operand a ∷ t.Close ∷ others = cc in
    h (sym e ∙ ap next_of r)

pub pair_comma : (tokens opened rest : List Token) (m : Name) → tokens ≡ t.Open ∷ opened →
    opened ≡ t.Operand (o.Name m) ∷ rest → next_of rest ≢ Some t.Comma → PairStuck tokens (length rest)
pair_comma tokens opened rest m w x h = rw (w, x) (at_place Pair text_of_pair (t.Open ∷ t.Operand (o.Name m) ∷ [])
    rest (t.Comma ∷ t.Operand some_operand ∷ t.Close ∷ []) (pair m some_operand) refl (none_comma rest m h))

none_front : (tokens : List Token) (m : Name) → NoOperand tokens → (p : Pair) (more others : List Token) →
    next_of more ≡ next_of tokens → t.Open ∷ t.Operand (o.Name m) ∷ t.Comma ∷ more ≡ text_of_pair p others → ⊥
none_front tokens m h (pair n a) more others e q = let r : more ≡ t.Operand a ∷ t.Close ∷ others = cc in
    h a (sym e ∙ ap next_of r)

pub pair_front : (tokens opened named rest : List Token) (m : Name) → tokens ≡ t.Open ∷ opened →
    opened ≡ t.Operand (o.Name m) ∷ named → named ≡ t.Comma ∷ rest → NoOperand rest → PairStuck tokens (length rest)
pair_front tokens opened named rest m w x y h =
    rw (w, x, y) (at_place Pair text_of_pair (t.Open ∷ t.Operand (o.Name m) ∷ t.Comma ∷ []) rest
    (t.Operand some_operand ∷ t.Close ∷ []) (pair m some_operand) refl (none_front rest m h))

none_close : (tokens : List Token) (m : Name) (b : Operand) → next_of tokens ≢ Some t.Close →
    (p : Pair) (more others : List Token) → next_of more ≡ next_of tokens →
    t.Open ∷ t.Operand (o.Name m) ∷ t.Comma ∷ t.Operand b ∷ more ≡ text_of_pair p others → ⊥
none_close tokens m b h (pair n a) more others e q = let r : more ≡ t.Close ∷ others = cc in h (sym e ∙ ap next_of r)

pub pair_close : (tokens opened named parted rest : List Token) (m : Name) (b : Operand) → tokens ≡ t.Open ∷ opened →
    opened ≡ t.Operand (o.Name m) ∷ named → named ≡ t.Comma ∷ parted → parted ≡ t.Operand b ∷ rest →
    next_of rest ≢ Some t.Close → PairStuck tokens (length rest)
pair_close tokens opened named parted rest m b w x y z h =
    rw (w, x, y, z) (at_place Pair text_of_pair (t.Open ∷ t.Operand (o.Name m) ∷ t.Comma ∷ t.Operand b ∷ []) rest
    (t.Close ∷ []) (pair m b) refl (none_close rest m b h))
