-- Where all placeholders of a text are given, each name and operand of its condition is known.
use Rattle.std.proofs.Common.{◌≡◌, ℕ, suc, ◌<◌, Bool, true, false, not, List, [], ◌∷◌, length, Some, None, refl, sym}
use Rattle.std.proofs.Common.{ap, subst, ◌∙◌, arith, inl, inr, get_or, zero}
use Rattle.std.specs.Prelude.{◌&&◌, nat_lt, nat_le, is_some, Option}
use Rattle.std.specs.List.{list_all}
use Rattle.std.specs.Str.{IsUtf8, IsAscii}
use Rattle.std.specs.Char.{is_ascii}
use Rattle.std.proofs.lemmas.Bool.{and_from, and_parts, cond-true, cond-false, cases_Bool, ltb-true}
use Rattle.std.proofs.lemmas.Str.{IsUtf8-from_ascii}
use Rattle.std.proofs.lemmas.Str.Ascii.{IsAscii-nil, IsAscii-cons}
use Rattle.dbe_values.specs.declared.value.AttrValue.{AttrValue}
use Rattle.dbe_tokens.specs.Text.{bytes_in}
use Rattle.dbe_tokens.specs.Ranges.{has_range, is_range}
use Rattle.dbe_tokens.specs.declared.token.Span.{Span}
use Rattle.dbe_tokens.specs.declared.token.Token.{Token}
use Rattle.dbe_tokens.specs.declared.token.Token.TheVariants as t
use Rattle.dbe_tokens.specs.declared.token.Name.{Name}
use Rattle.dbe_tokens.specs.declared.token.Name.TheVariants as n
use Rattle.dbe_tokens.specs.declared.token.Operand.TheVariants as o
use Rattle.dbe_grammar.specs.Leaves.{token_passes}
use Rattle.dbe_cond.specs.Given.{given, not_given}
use Rattle.dbe_cond.specs.Placeholders.{name_placeholder, value_placeholder, name_placeholders, value_placeholders}
use Rattle.dbe_cond.specs.Placeholders.{is_known}

abbrev Pairs : Type 0 → Type 0
Pairs X = List (List ℕ × X)

-- bytes of ASCII are a text
ascii_at : (bytes : List ℕ) → list_all is_ascii bytes ≡ true → IsAscii bytes
ascii_at [] h = IsAscii-nil
ascii_at (b ∷ bytes) h = let r = and_parts (is_ascii b) (list_all is_ascii bytes) h in
    IsAscii-cons b bytes (ltb-true b 128 r.0) (ascii_at bytes r.1)

pub ascii_text : (bytes : List ℕ) → list_all is_ascii bytes ≡ true → IsUtf8 bytes
ascii_text bytes h = IsUtf8-from_ascii bytes (ascii_at bytes h)

pub range_ascii : (text : List ℕ) (span : Span) → is_range text span ≡ true →
    list_all is_ascii (bytes_in text span) ≡ true
range_ascii text span h =
    (and_parts (nat_lt span.start span.end && nat_le span.end (length text)) (list_all is_ascii (bytes_in text span))
    h).1

not_true : (b : Bool) → not b ≡ false → b ≡ true
not_true true h = refl
not_true false h = sym h

cons_nil : (p : List ℕ) (ps : List (List ℕ)) → p ∷ ps ≡ [] → ⊥
cons_nil p ps e = cc

-- the first of those to look at is given, and so are the others
first_given : {X : Type 0} (entries : Pairs X) (p : List ℕ) (ps : List (List ℕ)) → not_given entries (p ∷ ps) ≡ [] →
    (is_some (given p entries) ≡ true) × (not_given entries ps ≡ [])
first_given entries p ps h = elim (cases_Bool (not (is_some (given p entries)))) [
  | inl u ↦ absurd (cons_nil p (not_given entries ps) (sym (cond-true (not (is_some (given p entries)))
      (p ∷ not_given entries ps) (not_given entries ps) u) ∙ h))
  | inr k ↦ (
    not_true (is_some (given p entries)) k,
    sym (cond-false (not (is_some (given p entries))) (p ∷ not_given entries ps) (not_given entries ps) k) ∙ h,
  )
]

pub known_tokens : (text : List ℕ) (names : Pairs (List ℕ)) (values : Pairs AttrValue) (tokens : List Token) →
    list_all (has_range text) tokens ≡ true → not_given names (name_placeholders text tokens) ≡ [] →
    not_given values (value_placeholders text tokens) ≡ [] →
    list_all (token_passes (is_known text names values)) tokens ≡ true
known_tokens text names values [] h m v = refl
known_tokens text names values ((t.Compare op) ∷ tokens) h m v = known_tokens text names values tokens h m v
known_tokens text names values (t.Open ∷ tokens) h m v = known_tokens text names values tokens h m v
known_tokens text names values (t.Close ∷ tokens) h m v = known_tokens text names values tokens h m v
known_tokens text names values (t.Comma ∷ tokens) h m v = known_tokens text names values tokens h m v
known_tokens text names values (t.Or ∷ tokens) h m v = known_tokens text names values tokens h m v
known_tokens text names values (t.And ∷ tokens) h m v = known_tokens text names values tokens h m v
known_tokens text names values (t.Not ∷ tokens) h m v = known_tokens text names values tokens h m v
known_tokens text names values (t.Between ∷ tokens) h m v = known_tokens text names values tokens h m v
known_tokens text names values (t.In ∷ tokens) h m v = known_tokens text names values tokens h m v
known_tokens text names values (t.Exists ∷ tokens) h m v = known_tokens text names values tokens h m v
known_tokens text names values (t.NotExists ∷ tokens) h m v = known_tokens text names values tokens h m v
known_tokens text names values (t.BeginsWith ∷ tokens) h m v = known_tokens text names values tokens h m v
known_tokens text names values (t.Operand (o.Name (n.Word span)) ∷ tokens) h m v =
    let r = and_parts (is_range text span) (list_all (has_range text) tokens) h in
    and_from (list_all is_ascii (bytes_in text span)) (list_all (token_passes (is_known text names values)) tokens)
    (range_ascii text span r.0) (known_tokens text names values tokens r.1 m v)
known_tokens text names values (t.Operand (o.Name (n.Placeholder span)) ∷ tokens) h m v =
    let r = and_parts (is_range text span) (list_all (has_range text) tokens) h in
    let s = first_given names (bytes_in text span) (name_placeholders text tokens) m in
    and_from (is_some (given (bytes_in text span) names)) (list_all (token_passes (is_known text names values))
    tokens) s.0 (known_tokens text names values tokens r.1 s.1 v)
known_tokens text names values (t.Operand (o.Value span) ∷ tokens) h m v =
    let r = and_parts (is_range text span) (list_all (has_range text) tokens) h in
    let s = first_given values (bytes_in text span) (value_placeholders text tokens) v in
    and_from (is_some (given (bytes_in text span) values)) (list_all (token_passes (is_known text names values))
    tokens) s.0 (known_tokens text names values tokens r.1 m s.1)

-- a word that is known is a text
pub word_text : (text : List ℕ) (names : Pairs (List ℕ)) (values : Pairs AttrValue) (name : Name) (span : Span)
    (bytes : List ℕ) → name ≡ n.Word span → is_known text names values (o.Name name) ≡ true →
    bytes ≡ bytes_in text span → IsUtf8 bytes
word_text text names values name span bytes e known b =
    subst IsUtf8 (sym b) (ascii_text (bytes_in text span) (sym (ap (λ x. is_known text names values (o.Name x)) e) ∙
    known))

has_at : (text : List ℕ) (tokens : List Token) (i : ℕ) (d : Token) → i < length tokens →
    list_all (has_range text) tokens ≡ true → has_range text (get_or tokens i d) ≡ true
has_at text [] i d lt h = absurd (omega arith)
has_at text (token ∷ tokens) zero d lt h = (and_parts (has_range text token) (list_all (has_range text) tokens) h).0
has_at text (token ∷ tokens) (suc i) d lt h =
    has_at text tokens i d (omega arith) (and_parts (has_range text token) (list_all (has_range text) tokens) h).1

no_span : (span : Span) (r : Option Span) → r ≡ None → Some span ≡ r → ⊥
no_span span r e h = cc

same_span : (a b : Span) → Some a ≡ Some b → b ≡ a
same_span a b h = cc

name_range : (text : List ℕ) (token : Token) (span : Span) → has_range text token ≡ true →
    Some span ≡ name_placeholder token → is_range text span ≡ true
name_range text (t.Compare op) span h e = absurd (no_span span None refl e)
name_range text t.Open span h e = absurd (no_span span None refl e)
name_range text t.Close span h e = absurd (no_span span None refl e)
name_range text t.Comma span h e = absurd (no_span span None refl e)
name_range text t.Or span h e = absurd (no_span span None refl e)
name_range text t.And span h e = absurd (no_span span None refl e)
name_range text t.Not span h e = absurd (no_span span None refl e)
name_range text t.Between span h e = absurd (no_span span None refl e)
name_range text t.In span h e = absurd (no_span span None refl e)
name_range text t.Exists span h e = absurd (no_span span None refl e)
name_range text t.NotExists span h e = absurd (no_span span None refl e)
name_range text t.BeginsWith span h e = absurd (no_span span None refl e)
name_range text (t.Operand (o.Name (n.Word s))) span h e = absurd (no_span span None refl e)
name_range text (t.Operand (o.Value s)) span h e = absurd (no_span span None refl e)
name_range text (t.Operand (o.Name (n.Placeholder s))) span h e =
    subst (λ x. is_range text x ≡ true) (same_span span s e) h

-- a placeholder of a name is a text
pub name_text : (text : List ℕ) (tokens : List Token) (i : ℕ) (d : Token) (span : Span) (bytes : List ℕ) →
    list_all (has_range text) tokens ≡ true → i < length tokens → Some span ≡ name_placeholder (get_or tokens i d) →
    bytes ≡ bytes_in text span → IsUtf8 bytes
name_text text tokens i d span bytes h lt e b =
    subst IsUtf8 (sym b) (ascii_text (bytes_in text span) (range_ascii text span (name_range text (get_or tokens i d)
    span (has_at text tokens i d lt h) e)))

value_range : (text : List ℕ) (token : Token) (span : Span) → has_range text token ≡ true →
    Some span ≡ value_placeholder token → is_range text span ≡ true
value_range text (t.Compare op) span h e = absurd (no_span span None refl e)
value_range text t.Open span h e = absurd (no_span span None refl e)
value_range text t.Close span h e = absurd (no_span span None refl e)
value_range text t.Comma span h e = absurd (no_span span None refl e)
value_range text t.Or span h e = absurd (no_span span None refl e)
value_range text t.And span h e = absurd (no_span span None refl e)
value_range text t.Not span h e = absurd (no_span span None refl e)
value_range text t.Between span h e = absurd (no_span span None refl e)
value_range text t.In span h e = absurd (no_span span None refl e)
value_range text t.Exists span h e = absurd (no_span span None refl e)
value_range text t.NotExists span h e = absurd (no_span span None refl e)
value_range text t.BeginsWith span h e = absurd (no_span span None refl e)
value_range text (t.Operand (o.Name (n.Word s))) span h e = absurd (no_span span None refl e)
value_range text (t.Operand (o.Name (n.Placeholder s))) span h e = absurd (no_span span None refl e)
value_range text (t.Operand (o.Value s)) span h e = subst (λ x. is_range text x ≡ true) (same_span span s e) h

-- a placeholder of a value is a text
pub value_text : (text : List ℕ) (tokens : List Token) (i : ℕ) (d : Token) (span : Span) (bytes : List ℕ) →
    list_all (has_range text) tokens ≡ true → i < length tokens → Some span ≡ value_placeholder (get_or tokens i d) →
    bytes ≡ bytes_in text span → IsUtf8 bytes
value_text text tokens i d span bytes h lt e b =
    subst IsUtf8 (sym b) (ascii_text (bytes_in text span) (range_ascii text span (value_range text (get_or tokens i d)
    span (has_at text tokens i d lt h) e)))
