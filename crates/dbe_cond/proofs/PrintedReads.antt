-- What is printed is read again.
use Rattle.std.proofs.Common.{◌≡◌, ◌≢◌, ℕ, ◌+◌, ◌<◌, ◌≤◌, ◌^◌, Bool, false, List, [], ◌∷◌, ◌++◌, map, length, codes}
use Rattle.std.proofs.Common.{refl, sym, ap, subst, ◌∙◌, arith, length-append, append-nil, zero-add, inl, inr}
use Rattle.std.specs.List.{flat_map}
use Rattle.std.proofs.lemmas.List.{length-map}
use Rattle.std.proofs.lemmas.Bool.{cases_Bool}
use Rattle.dbe_tokens.specs.declared.token.Token.{Token}
use Rattle.dbe_tokens.specs.declared.token.Token.TheVariants as t
use Rattle.dbe_tokens.specs.Text.{IsCut, AreTokens}
use Rattle.dbe_grammar.specs.Form as f
use Rattle.dbe_grammar.specs.Grammar.{IsCond}
use Rattle.dbe_grammar.specs.Printed.{printed}
use Rattle.dbe_grammar.proofs.PrintedForms.{printed_is}
use Rattle.dbe_cond.specs.Condition.{Condition, Conditions, compare, between, within, begins, exists, lacks, not, and}
use Rattle.dbe_cond.specs.Condition.{or, none, some, IsLawful, AreLawful, HaveTwo}
use Rattle.dbe_cond.specs.Names.{operand_names, names_of}
use Rattle.dbe_cond.specs.Values.{operand_values, values_of}
use Rattle.dbe_cond.specs.Printed.{operand_shape, shape_of, all_shapes, token_text, gap, has_gap_behind, printed_text}
use Rattle.dbe_cond.specs.Printed.{printed_names, printed_values}
use Rattle.dbe_cond.specs.Reading.{Reads, Parses, IsWithinLimits, has_long_list}
use Rattle.dbe_cond.specs.declared.operand.Operand.{Operand}
use Rattle.dbe_cond.specs.declared.operand.Operand.TheVariants.{Name, Value}
use Rattle.dbe_cond.proofs.PrintedLeaves.{leaves_of, names_of-leaves, values_of-leaves, operands, operands-printed}
use Rattle.dbe_cond.proofs.Relabelled.{relabelled, relabelled_lawful, at-printed}
use Rattle.dbe_cond.proofs.Fitting.{Fits, resolved_fits}
use Rattle.dbe_cond.proofs.Numbering.{GivesAll, all_given}
use Rattle.dbe_cond.proofs.Spelling.{spelled, spelled_tokens, spelled_starts, text_spelled, next_names, next_values}
use Rattle.dbe_cond.proofs.Spelling.{some_text, calls-printed, cut-spelled}
use Rattle.dbe_cond.proofs.Places.{ranges_of, tokens-spelled, spelled_fits, names_fit, values_fit}

some_shapes : (list : List Operand) → list ≢ [] → map operand_shape list ≢ []
some_shapes [] h = absurd (h refl)
some_shapes (a ∷ list) h = λ e. cc

two_shapes : (cs : Conditions) → HaveTwo cs → f.HaveTwo (all_shapes cs)
two_shapes none h = absurd h
two_shapes (some c none) h = absurd h
two_shapes (some c (some d cs)) h = tt

mutual
  shape_lawful : (c : Condition) → IsLawful c → f.IsLawful (shape_of c)
  shape_lawful (compare left op right) h = tt
  shape_lawful (between value low high) h = tt
  shape_lawful (within value list) h = some_shapes list h
  shape_lawful (begins name front) h = tt
  shape_lawful (exists name) h = tt
  shape_lawful (lacks name) h = tt
  shape_lawful (not c) h = shape_lawful c h
  shape_lawful (and cs) h = (two_shapes cs h.0, all_lawful cs h.1)
  shape_lawful (or cs) h = (two_shapes cs h.0, all_lawful cs h.1)

  all_lawful : (cs : Conditions) → AreLawful cs → f.AreLawful (all_shapes cs)
  all_lawful none h = tt
  all_lawful (some c cs) h = (shape_lawful c h.0, all_lawful cs h.1)

-- a text has no more names and values than bytes
few_names : (leaves : List Operand) → length (flat_map operand_names leaves) ≤ length leaves
few_names [] = omega arith
few_names (Name name ∷ leaves) = omega (arith, few_names leaves)
few_names (Value v ∷ leaves) = omega (arith, few_names leaves)

few_values : (leaves : List Operand) → length (flat_map operand_values leaves) ≤ length leaves
few_values [] = omega arith
few_values (Name name ∷ leaves) = omega (arith, few_values leaves)
few_values (Value v ∷ leaves) = omega (arith, few_values leaves)

few_operands : (tokens : List Token) → length (operands tokens) ≤ length tokens
few_operands [] = omega arith
few_operands (t.Operand a ∷ tokens) = omega (arith, few_operands tokens)
few_operands (token ∷ tokens) = omega (arith, few_operands tokens)

few_tokens : (tokens : List Token) (n v : ℕ) (b : Bool) → length tokens ≤ length (spelled n v b tokens)
few_tokens [] n v b = omega arith
few_tokens (token ∷ tokens) n v b =
    let back = spelled (next_names n token) (next_values v token) (has_gap_behind token) tokens in
    omega (
      arith,
      few_tokens tokens (next_names n token) (next_values v token) (has_gap_behind token),
      some_text n v token,
      length-append (gap b token) (token_text n v token ++ back),
      length-append (token_text n v token) back,
    )

module _ (c : Condition) where
  abbrev tokens : List Token
  tokens = printed (shape_of c) []

  abbrev text : List ℕ
  text = spelled 0 0 false tokens

  abbrev placed : List Token
  placed = spelled_tokens 0 0 0 false tokens

  abbrev form : f.Form
  form = relabelled (ranges_of placed) (shape_of c)

  is_cond : IsLawful c → IsCond placed form
  is_cond lawful =
      let same : placed ≡ printed form [] = sym (tokens-spelled tokens 0 0 0 false) ∙
      at-printed (shape_of c) (ranges_of placed) [] in
      subst (λ x. IsCond x form) (sym same) (printed_is form (relabelled_lawful (shape_of c) (ranges_of placed)
      (shape_lawful c lawful)))

  leaves : operands tokens ≡ map operand_shape (leaves_of c)
  leaves = operands-printed c [] ∙ append-nil (map operand_shape (leaves_of c))

  module _ (limits : IsWithinLimits text) where
    is_cut : IsCut text placed (spelled_starts 0 0 0 false tokens)
    is_cut = subst (λ e. AreTokens 0 text placed (spelled_starts 0 0 0 false tokens) e []) (zero-add (length text))
        (cut-spelled tokens 0 0 0 false (calls-printed (shape_of c) [] tt) (omega arith) (omega arith) (omega (
          arith,
          limits.short,
        )))

    few_leaves : length (leaves_of c) ≤ 4096
    few_leaves = omega (
      arith,
      limits.short,
      few_tokens tokens 0 0 false,
      few_operands tokens,
      ap length leaves ∙
          length-map (leaves_of c) operand_shape,
    )

    fits : Fits text (printed_names c) (printed_values c) (ranges_of placed) (leaves_of c)
    fits =
        let names_few : 0 + length (names_of c) < 2 ^ 64 = omega (
          arith,
          few_leaves,
          few_names (leaves_of c),
          ap length (names_of-leaves c),
        ) in
        let values_few : 0 + length (values_of c) < 2 ^ 64 = omega (
          arith,
          few_leaves,
          few_values (leaves_of c),
          ap length (values_of-leaves c),
        ) in
        spelled_fits text (printed_names c) (printed_values c) tokens (leaves_of c) [] 0 0 0 false leaves
        (subst (λ x. GivesAll (codes "#") (printed_names c) 0 x) (names_of-leaves c)
        (all_given (codes "#") (names_of c) 0 [] names_few))
        (subst (λ x. GivesAll (codes ":") (printed_values c) 0 x) (values_of-leaves c)
        (all_given (codes ":") (values_of c) 0 [] values_few))
        refl refl

    parses : IsLawful c → Parses text placed form
    parses lawful = record {
      starts = spelled_starts 0 0 0 false tokens;
      are_tokens = record {
        short = limits.short;
        cut = is_cut;
        shallow = λ deep. limits.shallow (record {
          tokens = placed;
          starts = spelled_starts 0 0 0 false tokens;
          short = limits.short;
          cut = is_cut;
          deep = deep;
        });
      };
      cond = is_cond lawful;
    }

    short_lists : IsLawful c → has_long_list form ≡ false
    short_lists lawful = elim (cases_Bool (has_long_list form)) [
      | inl long ↦ absurd (limits.lists (record { tokens = placed; form = form; parses = parses lawful; long = long }))
      | inr h ↦ h
    ]

    reads : IsLawful c → Reads text (printed_names c) (printed_values c) c
    reads lawful = record {
      tokens = placed;
      form = form;
      parses = parses lawful;
      lists = short_lists lawful;
      names_given = names_fit text (printed_names c) (printed_values c) tokens (leaves_of c) 0 0 0 false leaves fits;
      values_given = values_fit text (printed_names c) (printed_values c) tokens (leaves_of c) 0 0 0 false leaves fits;
      means = sym (resolved_fits text (printed_names c) (printed_values c) c (ranges_of placed) []
          (subst (λ x. Fits text (printed_names c) (printed_values c) (ranges_of placed) x)
          (sym (append-nil (leaves_of c))) fits)).0;
    }

pub printed_reads : (c : Condition) → IsLawful c → IsWithinLimits (printed_text c) →
    Reads (printed_text c) (printed_names c) (printed_values c) c
printed_reads c lawful limits =
    let e : printed_text c ≡ spelled 0 0 false (printed (shape_of c) []) =
    text_spelled (printed (shape_of c) []) 0 0 false in
    subst (λ x. Reads x (printed_names c) (printed_values c) c) (sym e) (reads c (subst IsWithinLimits e limits) lawful)
