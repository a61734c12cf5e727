-- What is printed after other tokens, piece by piece.
use Rattle.std.proofs.Common.{◌≡◌, Bool, true, false, List, [], ◌∷◌, ◌++◌, refl, ap, sym, ◌∙◌, append_assoc}
use Rattle.std.specs.Prelude.{Result, Ok, Err, OnOk}
use Rattle.dbe_tokens.specs.declared.token.Token.{Token}
use Rattle.dbe_tokens.specs.declared.token.Token.TheVariants as t
use Rattle.dbe_tokens.specs.declared.token.Operand.{Operand}
use Rattle.dbe_grammar.specs.declared.tree.Tree.{Tree}
use Rattle.dbe_grammar.specs.Form.{Form, Forms, compare, between, within, begins, exists, lacks, not, and, or, none}
use Rattle.dbe_grammar.specs.Form.{some, form_of, members_of}
use Rattle.dbe_grammar.specs.Printed.{printed, and_printed, more_ands, or_printed, more_ors, in_parentheses, is_chain}
use Rattle.dbe_grammar.specs.Printed.{is_or, list_printed}
use Rattle.dbe_grammar.proofs.Unique.{comma_text-append}

pub list_printed-append : (list : List Operand) (y z : List Token) →
    list_printed list y ++ z ≡ list_printed list (y ++ z)
list_printed-append [] y z = refl
list_printed-append (a ∷ list) y z = ap (λ x. t.Operand a ∷ x) (comma_text-append list y z)

parentheses-append : (b : Bool) (text : List Token → List Token) (y z : List Token) →
    ((u v : List Token) → text u ++ v ≡ text (u ++ v)) → in_parentheses b text y ++ z ≡ in_parentheses b text (y ++ z)
parentheses-append true text y z h = ap (λ x. t.Open ∷ x) (h (t.Close ∷ y) z)
parentheses-append false text y z h = h y z

mutual
  pub printed-append : (f : Form) (y z : List Token) → printed f y ++ z ≡ printed f (y ++ z)
  printed-append (compare a op b) y z = refl
  printed-append (between a low high) y z = refl
  printed-append (within a list) y z =
      ap (λ x. t.Operand a ∷ t.In ∷ t.Open ∷ x) (list_printed-append list (t.Close ∷ y) z)
  printed-append (begins name front) y z = refl
  printed-append (exists name) y z = refl
  printed-append (lacks name) y z = refl
  printed-append (not f) y z = ap (λ x. t.Not ∷ x) (parentheses-append (is_chain f) (printed f) y z (printed-append f))
  printed-append (and fs) y z = and_printed-append fs y z
  printed-append (or fs) y z = or_printed-append fs y z

  and_printed-append : (fs : Forms) (y z : List Token) → and_printed fs y ++ z ≡ and_printed fs (y ++ z)
  and_printed-append none y z = refl
  and_printed-append (some f fs) y z = parentheses-append (is_chain f) (printed f) (more_ands fs y) z
      (printed-append f) ∙ ap (λ x. in_parentheses (is_chain f) (printed f) x) (more_ands-append fs y z)

  more_ands-append : (fs : Forms) (y z : List Token) → more_ands fs y ++ z ≡ more_ands fs (y ++ z)
  more_ands-append none y z = refl
  more_ands-append (some f fs) y z = ap (λ x. t.And ∷ x) (parentheses-append (is_chain f) (printed f) (more_ands fs y)
      z (printed-append f) ∙ ap (λ x. in_parentheses (is_chain f) (printed f) x) (more_ands-append fs y z))

  or_printed-append : (fs : Forms) (y z : List Token) → or_printed fs y ++ z ≡ or_printed fs (y ++ z)
  or_printed-append none y z = refl
  or_printed-append (some f fs) y z = parentheses-append (is_or f) (printed f) (more_ors fs y) z (printed-append f) ∙
      ap (λ x. in_parentheses (is_or f) (printed f) x) (more_ors-append fs y z)

  more_ors-append : (fs : Forms) (y z : List Token) → more_ors fs y ++ z ≡ more_ors fs (y ++ z)
  more_ors-append none y z = refl
  more_ors-append (some f fs) y z = ap (λ x. t.Or ∷ x) (parentheses-append (is_or f) (printed f) (more_ors fs y) z
      (printed-append f) ∙ ap (λ x. in_parentheses (is_or f) (printed f) x) (more_ors-append fs y z))

pub weaken : {A E : Type 0} {P Q : Type 0} (r : Result A E) → OnOk r P → (P → Q) → OnOk r Q
weaken (Ok a) p f = f p
weaken (Err e) p f = tt

-- an opening parenthesis, a condition, and a closing one
pub member_closed : (old a b n : List Token) (f : Form) (parentheses : Bool) → parentheses ≡ true →
    a ≡ old ++ t.Open ∷ [] → b ≡ a ++ printed f [] → n ≡ b ++ t.Close ∷ [] →
    n ≡ old ++ in_parentheses parentheses (printed f) []
member_closed old a b n f parentheses h p q r =
    r ∙ ap (λ x. x ++ t.Close ∷ []) (q ∙ ap (λ x. x ++ printed f []) p) ∙
    append_assoc (old ++ t.Open ∷ []) (printed f []) (t.Close ∷ []) ∙
    append_assoc old (t.Open ∷ []) (printed f [] ++ t.Close ∷ [])
    ∙ ap (λ x. old ++ t.Open ∷ x) (printed-append f [] (t.Close ∷ [])) ∙
    ap (λ x. old ++ in_parentheses x (printed f) []) (sym h)

pub not_printed : (old a n : List Token) (f whole : Form) (b : Bool) → whole ≡ not f → b ≡ is_chain f →
    a ≡ old ++ t.Not ∷ [] → n ≡ a ++ in_parentheses b (printed f) [] → n ≡ old ++ printed whole []
not_printed old a n f whole b w h p q =
    q ∙ ap (λ x. x ++ in_parentheses b (printed f) []) p ∙
    append_assoc old (t.Not ∷ []) (in_parentheses b (printed f) []) ∙
    ap (λ x. old ++ t.Not ∷ in_parentheses x (printed f) []) h ∙ ap (λ x. old ++ printed x []) (sym w)

pub in_printed : (old one two three four n : List Token) (a : Operand) (list : List Operand) (whole : Form) →
    whole ≡ within a list → one ≡ old ++ t.Operand a ∷ [] → two ≡ one ++ t.In ∷ [] → three ≡ two ++ t.Open ∷ [] →
    four ≡ three ++ list_printed list [] → n ≡ four ++ t.Close ∷ [] → n ≡ old ++ printed whole []
in_printed old one two three four n a list whole w p q r s u =
    let front : three ≡ old ++ t.Operand a ∷ t.In ∷ t.Open ∷ [] =
    r ∙ ap (λ x. x ++ t.Open ∷ []) (q ∙ ap (λ x. x ++ t.In ∷ []) p ∙ append_assoc old (t.Operand a ∷ []) (t.In ∷ []))
    ∙ append_assoc old (t.Operand a ∷ t.In ∷ []) (t.Open ∷ []) in
    u ∙ ap (λ x. x ++ t.Close ∷ []) (s ∙ ap (λ x. x ++ list_printed list []) front) ∙
    append_assoc (old ++ t.Operand a ∷ t.In ∷ t.Open ∷ []) (list_printed list []) (t.Close ∷ [])
    ∙ append_assoc old (t.Operand a ∷ t.In ∷ t.Open ∷ []) (list_printed list [] ++ t.Close ∷ []) ∙
    ap (λ x. old ++ t.Operand a ∷ t.In ∷ t.Open ∷ x) (list_printed-append list [] (t.Close ∷ [])) ∙
    ap (λ x. old ++ printed x []) (sym w)

-- the first member, and one more
member_before : (old new : List Token) (f : Form) (b c : Bool) (k : List Token) → b ≡ c →
    new ≡ old ++ in_parentheses b (printed f) [] → new ++ k ≡ old ++ in_parentheses c (printed f) k
member_before old new f b c k h n =
    ap (λ x. x ++ k) n ∙ append_assoc old (in_parentheses b (printed f) []) k ∙
    ap (λ x. old ++ x) (parentheses-append b (printed f) [] k (printed-append f)) ∙
    ap (λ x. old ++ in_parentheses x (printed f) k) h

pub ands_begin : (old new : List Token) (all rest : List Tree) (m : Tree) (b : Bool) → all ≡ m ∷ rest →
    b ≡ is_chain (form_of m) → new ≡ old ++ in_parentheses b (printed (form_of m)) [] →
    new ++ more_ands (members_of rest) [] ≡ old ++ and_printed (members_of all) []
ands_begin old new all rest m b e h n = member_before old new (form_of m) b (is_chain (form_of m))
    (more_ands (members_of rest) []) h n ∙ ap (λ x. old ++ and_printed (members_of x) []) (sym e)

pub ors_begin : (old new : List Token) (all rest : List Tree) (m : Tree) (b : Bool) → all ≡ m ∷ rest →
    b ≡ is_or (form_of m) → new ≡ old ++ in_parentheses b (printed (form_of m)) [] →
    new ++ more_ors (members_of rest) [] ≡ old ++ or_printed (members_of all) []
ors_begin old new all rest m b e h n = member_before old new (form_of m) b (is_or (form_of m))
    (more_ors (members_of rest) []) h n ∙ ap (λ x. old ++ or_printed (members_of x) []) (sym e)

pub ands_step : (out pushed new whole : List Token) (here rest : List Tree) (m : Tree) (b : Bool) → here ≡ m ∷ rest →
    pushed ≡ out ++ t.And ∷ [] → b ≡ is_chain (form_of m) → new ≡ pushed ++ in_parentheses b (printed (form_of m)) [] →
    out ++ more_ands (members_of here) [] ≡ whole → new ++ more_ands (members_of rest) [] ≡ whole
ands_step out pushed new whole here rest m b e p h n w =
    let k = more_ands (members_of rest) [] in
    member_before pushed new (form_of m) b (is_chain (form_of m)) k h n ∙
    ap (λ x. x ++ in_parentheses (is_chain (form_of m)) (printed (form_of m)) k) p ∙
    append_assoc out (t.And ∷ []) (in_parentheses (is_chain (form_of m)) (printed (form_of m)) k)
    ∙ ap (λ x. out ++ more_ands (members_of x) []) (sym e) ∙ w

pub ors_step : (out pushed new whole : List Token) (here rest : List Tree) (m : Tree) (b : Bool) → here ≡ m ∷ rest →
    pushed ≡ out ++ t.Or ∷ [] → b ≡ is_or (form_of m) → new ≡ pushed ++ in_parentheses b (printed (form_of m)) [] →
    out ++ more_ors (members_of here) [] ≡ whole → new ++ more_ors (members_of rest) [] ≡ whole
ors_step out pushed new whole here rest m b e p h n w =
    let k = more_ors (members_of rest) [] in
    member_before pushed new (form_of m) b (is_or (form_of m)) k h n ∙
    ap (λ x. x ++ in_parentheses (is_or (form_of m)) (printed (form_of m)) k) p ∙
    append_assoc out (t.Or ∷ []) (in_parentheses (is_or (form_of m)) (printed (form_of m)) k)
    ∙ ap (λ x. out ++ more_ors (members_of x) []) (sym e) ∙ w
