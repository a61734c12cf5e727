-- A printed condition with its placeholders at other places of a text, one after another.
use Rattle.std.proofs.Common.{◌≡◌, ◌≢◌, Bool, true, false, List, [], ◌∷◌, refl, ap, ◌∙◌}
use Rattle.dbe_tokens.specs.declared.token.Span.{Span}
use Rattle.dbe_tokens.specs.declared.token.Token.{Token}
use Rattle.dbe_tokens.specs.declared.token.Token.TheVariants as t
use Rattle.dbe_tokens.specs.declared.token.Name.TheVariants.{Placeholder}
use Rattle.dbe_tokens.specs.declared.token.Operand.{Operand}
use Rattle.dbe_tokens.specs.declared.token.Operand.TheVariants as o
use Rattle.dbe_grammar.specs.Form.{Form, Forms, compare, between, within, begins, exists, lacks, not, and, or, none}
use Rattle.dbe_grammar.specs.Form.{some, IsLawful, AreLawful, HaveTwo}
use Rattle.dbe_grammar.specs.Grammar.{comma_text}
use Rattle.dbe_grammar.specs.Printed.{printed, and_printed, more_ands, or_printed, more_ors, in_parentheses, is_chain}
use Rattle.dbe_grammar.specs.Printed.{is_or, list_printed}
use Rattle.dbe_cond.specs.Printed.{nowhere}

abbrev pub first : List Span → Span
first [] = nowhere
first (s ∷ ss) = s

abbrev pub rest : List Span → List Span
rest [] = []
rest (s ∷ ss) = ss

-- a placeholder of the same kind at a place
abbrev pub placed_at : Span → Operand → Operand
placed_at s (o.Name name) = o.Name (Placeholder s)
placed_at s (o.Value span) = o.Value s

abbrev pub relabelled_list : List Span → List Operand → List Operand
relabelled_list ss [] = []
relabelled_list ss (a ∷ list) = placed_at (first ss) a ∷ relabelled_list (rest ss) list

-- the places that are left behind a list, and behind a condition
abbrev pub after_list : List Span → List Operand → List Span
after_list ss [] = ss
after_list ss (a ∷ list) = after_list (rest ss) list

abbrev mutual
  pub after : List Span → Form → List Span
  after ss (compare left op right) = rest (rest ss)
  after ss (between value low high) = rest (rest (rest ss))
  after ss (within value list) = after_list (rest ss) list
  after ss (begins name front) = rest (rest ss)
  after ss (exists name) = rest ss
  after ss (lacks name) = rest ss
  after ss (not f) = after ss f
  after ss (and fs) = after_all ss fs
  after ss (or fs) = after_all ss fs

  pub after_all : List Span → Forms → List Span
  after_all ss none = ss
  after_all ss (some f fs) = after_all (after ss f) fs

abbrev mutual
  pub relabelled : List Span → Form → Form
  relabelled ss (compare left op right) = compare (placed_at (first ss) left) op (placed_at (first (rest ss)) right)
  relabelled ss (between value low high) = between (placed_at (first ss) value) (placed_at (first (rest ss)) low)
      (placed_at (first (rest (rest ss))) high)
  relabelled ss (within value list) = within (placed_at (first ss) value) (relabelled_list (rest ss) list)
  relabelled ss (begins name front) = begins (Placeholder (first ss)) (placed_at (first (rest ss)) front)
  relabelled ss (exists name) = exists (Placeholder (first ss))
  relabelled ss (lacks name) = lacks (Placeholder (first ss))
  relabelled ss (not f) = not (relabelled ss f)
  relabelled ss (and fs) = and (all_relabelled ss fs)
  relabelled ss (or fs) = or (all_relabelled ss fs)

  pub all_relabelled : List Span → Forms → Forms
  all_relabelled ss none = none
  all_relabelled ss (some f fs) = some (relabelled ss f) (all_relabelled (after ss f) fs)

-- tokens with their placeholders at these places
abbrev pub tokens_at : List Span → List Token → List Token
tokens_at ss [] = []
tokens_at ss (t.Operand a ∷ tokens) = t.Operand (placed_at (first ss) a) ∷ tokens_at (rest ss) tokens
tokens_at ss (token ∷ tokens) = token ∷ tokens_at ss tokens

at-commas : (list : List Operand) (ss : List Span) (others : List Token) →
    tokens_at ss (comma_text list others) ≡ comma_text (relabelled_list ss list) (tokens_at (after_list ss list) others)
at-commas [] ss others = refl
at-commas (a ∷ list) ss others = ap (λ x. t.Comma ∷ t.Operand (placed_at (first ss) a) ∷ x) (at-commas list (rest ss)
    others)

at-list : (list : List Operand) (ss : List Span) (others : List Token) →
    tokens_at ss (list_printed list others) ≡ list_printed (relabelled_list ss list) (tokens_at (after_list ss list)
    others)
at-list [] ss others = refl
at-list (a ∷ list) ss others = ap (λ x. t.Operand (placed_at (first ss) a) ∷ x) (at-commas list (rest ss) others)

same_chain : (f : Form) (ss : List Span) → is_chain f ≡ is_chain (relabelled ss f)
same_chain (compare left op right) ss = refl
same_chain (between value low high) ss = refl
same_chain (within value list) ss = refl
same_chain (begins name front) ss = refl
same_chain (exists name) ss = refl
same_chain (lacks name) ss = refl
same_chain (not f) ss = refl
same_chain (and fs) ss = refl
same_chain (or fs) ss = refl

same_or : (f : Form) (ss : List Span) → is_or f ≡ is_or (relabelled ss f)
same_or (compare left op right) ss = refl
same_or (between value low high) ss = refl
same_or (within value list) ss = refl
same_or (begins name front) ss = refl
same_or (exists name) ss = refl
same_or (lacks name) ss = refl
same_or (not f) ss = refl
same_or (and fs) ss = refl
same_or (or fs) ss = refl

at-parentheses : (b c : Bool) (f : Form) (ss : List Span) (others : List Token) → b ≡ c →
    ((u : List Token) → tokens_at ss (printed f u) ≡ printed (relabelled ss f) (tokens_at (after ss f) u)) →
    tokens_at ss (in_parentheses b (printed f) others) ≡ in_parentheses c (printed (relabelled ss f))
    (tokens_at (after ss f) others)
at-parentheses true c f ss others e h = ap (λ x. t.Open ∷ x) (h (t.Close ∷ others)) ∙
    ap (λ x. in_parentheses x (printed (relabelled ss f)) (tokens_at (after ss f) others)) e
at-parentheses false c f ss others e h = h others ∙
    ap (λ x. in_parentheses x (printed (relabelled ss f)) (tokens_at (after ss f) others)) e

mutual
  pub at-printed : (f : Form) (ss : List Span) (others : List Token) →
      tokens_at ss (printed f others) ≡ printed (relabelled ss f) (tokens_at (after ss f) others)
  at-printed (compare left op right) ss others = refl
  at-printed (between value low high) ss others = refl
  at-printed (within value list) ss others = ap (λ x. t.Operand (placed_at (first ss) value) ∷ t.In ∷ t.Open ∷ x)
      (at-list list (rest ss) (t.Close ∷ others))
  at-printed (begins name front) ss others = refl
  at-printed (exists name) ss others = refl
  at-printed (lacks name) ss others = refl
  at-printed (not f) ss others = ap (λ x. t.Not ∷ x) (at-parentheses (is_chain f) (is_chain (relabelled ss f)) f ss
      others (same_chain f ss) (at-printed f ss))
  at-printed (and fs) ss others = at-ands fs ss others
  at-printed (or fs) ss others = at-ors fs ss others

  at-ands : (fs : Forms) (ss : List Span) (others : List Token) → tokens_at ss (and_printed fs others) ≡ and_printed
      (all_relabelled ss fs) (tokens_at (after_all ss fs) others)
  at-ands none ss others = refl
  at-ands (some f fs) ss others =
      at-parentheses (is_chain f) (is_chain (relabelled ss f)) f ss (more_ands fs others) (same_chain f ss)
      (at-printed f ss)
      ∙ ap (λ x. in_parentheses (is_chain (relabelled ss f)) (printed (relabelled ss f)) x)
      (at-more_ands fs (after ss f) others)

  at-more_ands : (fs : Forms) (ss : List Span) (others : List Token) →
      tokens_at ss (more_ands fs others) ≡ more_ands (all_relabelled ss fs) (tokens_at (after_all ss fs) others)
  at-more_ands none ss others = refl
  at-more_ands (some f fs) ss others =
      ap (λ x. t.And ∷ x) (at-parentheses (is_chain f) (is_chain (relabelled ss f)) f ss (more_ands fs others)
      (same_chain f ss) (at-printed f ss)
      ∙ ap (λ x. in_parentheses (is_chain (relabelled ss f)) (printed (relabelled ss f)) x)
      (at-more_ands fs (after ss f) others))

  at-ors : (fs : Forms) (ss : List Span) (others : List Token) →
      tokens_at ss (or_printed fs others) ≡ or_printed (all_relabelled ss fs) (tokens_at (after_all ss fs) others)
  at-ors none ss others = refl
  at-ors (some f fs) ss others =
      at-parentheses (is_or f) (is_or (relabelled ss f)) f ss (more_ors fs others) (same_or f ss) (at-printed f ss)
      ∙ ap (λ x. in_parentheses (is_or (relabelled ss f)) (printed (relabelled ss f)) x) (at-more_ors fs (after ss f)
      others)

  at-more_ors : (fs : Forms) (ss : List Span) (others : List Token) →
      tokens_at ss (more_ors fs others) ≡ more_ors (all_relabelled ss fs) (tokens_at (after_all ss fs) others)
  at-more_ors none ss others = refl
  at-more_ors (some f fs) ss others =
      ap (λ x. t.Or ∷ x) (at-parentheses (is_or f) (is_or (relabelled ss f)) f ss (more_ors fs others) (same_or f ss)
      (at-printed f ss)
      ∙ ap (λ x. in_parentheses (is_or (relabelled ss f)) (printed (relabelled ss f)) x) (at-more_ors fs (after ss f)
      others))

some_relabelled : (list : List Operand) (ss : List Span) → list ≢ [] → relabelled_list ss list ≢ []
some_relabelled [] ss h = absurd (h refl)
some_relabelled (a ∷ list) ss h = λ e. cc

two_relabelled : (fs : Forms) (ss : List Span) → HaveTwo fs → HaveTwo (all_relabelled ss fs)
two_relabelled none ss h = absurd h
two_relabelled (some f none) ss h = absurd h
two_relabelled (some f (some g fs)) ss h = tt

mutual
  pub relabelled_lawful : (f : Form) (ss : List Span) → IsLawful f → IsLawful (relabelled ss f)
  relabelled_lawful (compare left op right) ss h = tt
  relabelled_lawful (between value low high) ss h = tt
  relabelled_lawful (within value list) ss h = some_relabelled list (rest ss) h
  relabelled_lawful (begins name front) ss h = tt
  relabelled_lawful (exists name) ss h = tt
  relabelled_lawful (lacks name) ss h = tt
  relabelled_lawful (not f) ss h = relabelled_lawful f ss h
  relabelled_lawful (and fs) ss h = (two_relabelled fs ss h.0, all_relabelled_lawful fs ss h.1)
  relabelled_lawful (or fs) ss h = (two_relabelled fs ss h.0, all_relabelled_lawful fs ss h.1)

  all_relabelled_lawful : (fs : Forms) (ss : List Span) → AreLawful fs → AreLawful (all_relabelled ss fs)
  all_relabelled_lawful none ss h = tt
  all_relabelled_lawful (some f fs) ss h = (relabelled_lawful f ss h.0, all_relabelled_lawful fs (after ss f) h.1)
