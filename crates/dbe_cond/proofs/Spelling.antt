-- The printed text is cut into the printed tokens.
use Rattle.std.proofs.Common.{◌≡◌, ◌≢◌, ℕ, suc, ◌+◌, ◌-◌, ◌<◌, ◌≤◌, ◌^◌, Bool, true, false, List, [], ◌∷◌, ◌++◌}
use Rattle.std.proofs.Common.{length, take, drop, Some, None, refl, sym, ap, subst, ◌∙◌, arith, length-append}
use Rattle.std.proofs.Common.{append_assoc}
use Rattle.std.specs.Prelude.{◌&&◌}
use Rattle.std.specs.Fmt.{decimal}
use Rattle.std.specs.List.{list_all}
use Rattle.std.proofs.lemmas.Fmt.{decimal_by_steps}
use Rattle.std.proofs.lemmas.Bool.{cond-true, and_parts}
use Rattle.dbe_tokens.specs.declared.token.Token.{Token}
use Rattle.dbe_tokens.specs.declared.token.Token.TheVariants as t
use Rattle.dbe_tokens.specs.declared.token.Op.TheVariants as op
use Rattle.dbe_tokens.specs.declared.token.Operand.TheVariants as o
use Rattle.dbe_tokens.specs.Token.{is_space, is_part, are_parts, token_of, word_token, function_or_name}
use Rattle.dbe_tokens.specs.Text.{IsLongest, AreTokens, EndsToken}
use Rattle.dbe_tokens.proofs.TokenEnds.{ends}
use Rattle.dbe_grammar.specs.Form.{Form, Forms, compare, between, within, begins, exists, lacks, not, and, or, none}
use Rattle.dbe_grammar.specs.Form.{some}
use Rattle.dbe_grammar.specs.Grammar.{comma_text}
use Rattle.dbe_grammar.specs.Printed.{printed, and_printed, more_ands, or_printed, more_ors, in_parentheses, is_chain}
use Rattle.dbe_grammar.specs.Printed.{is_or, list_printed}
use Rattle.dbe_tokens.specs.declared.token.Operand.{Operand}
use Rattle.dbe_cond.specs.Printed.{gap, token_text, tokens_text, one_if_name, one_if_value, has_gap_behind}
use Rattle.dbe_cond.proofs.Relabelled.{placed_at}

-- how many names, and values, stand before the next token
abbrev pub next_names : ℕ → Token → ℕ
next_names n (t.Operand (o.Name name)) = suc n
next_names n token = n

abbrev pub next_values : ℕ → Token → ℕ
next_values n (t.Operand (o.Value span)) = suc n
next_values n token = n

names_step : (n : ℕ) (token : Token) → n + one_if_name token ≡ next_names n token
names_step n (t.Operand (o.Name name)) = omega arith
names_step n token = omega arith

values_step : (n : ℕ) (token : Token) → n + one_if_value token ≡ next_values n token
values_step n (t.Operand (o.Value span)) = omega arith
values_step n token = omega arith

abbrev pub spelled : ℕ → ℕ → Bool → List Token → List ℕ
spelled n v b [] = []
spelled n v b (token ∷ tokens) =
    gap b token ++ (token_text n v token ++ spelled (next_names n token) (next_values v token) (has_gap_behind token)
    tokens)

pub text_spelled : (tokens : List Token) (n v : ℕ) (b : Bool) → tokens_text n v b tokens ≡ spelled n v b tokens
text_spelled [] n v b = refl
text_spelled (token ∷ tokens) n v b =
    ap (λ x. gap b token ++ (token_text n v token ++ x))
    (ap (λ k. tokens_text k (v + one_if_value token) (has_gap_behind token) tokens) (names_step n token)
    ∙ ap (λ k. tokens_text (next_names n token) k (has_gap_behind token) tokens) (values_step v token)
    ∙ text_spelled tokens (next_names n token) (next_values v token) (has_gap_behind token))

-- the token whose text begins at a place and has this length
abbrev pub token_at : ℕ → ℕ → Token → Token
token_at start size (t.Operand a) = t.Operand (placed_at (record { start = start; end = start + size }) a)
token_at start size token = token

-- the tokens of the text, each placeholder with its range, and where they start
abbrev pub spelled_tokens : ℕ → ℕ → ℕ → Bool → List Token → List Token
spelled_tokens at n v b [] = []
spelled_tokens at n v b (token ∷ tokens) =
    token_at (at + length (gap b token)) (length (token_text n v token)) token
    ∷ spelled_tokens (at + length (gap b token) + length (token_text n v token)) (next_names n token)
    (next_values v token) (has_gap_behind token) tokens

abbrev pub spelled_starts : ℕ → ℕ → ℕ → Bool → List Token → List ℕ
spelled_starts at n v b [] = []
spelled_starts at n v b (token ∷ tokens) =
    (at + length (gap b token)) ∷ spelled_starts (at + length (gap b token) + length (token_text n v token))
    (next_names n token) (next_values v token) (has_gap_behind token) tokens

-- an opening parenthesis is next
abbrev pub IsOpened : List Token → Type 0
IsOpened (t.Open ∷ tokens) = Unit {0}
IsOpened tokens = ⊥

-- an opening parenthesis stands behind each function word
abbrev pub CallsOpen : List Token → Type 0
CallsOpen [] = Unit {0}
CallsOpen (t.Exists ∷ tokens) = IsOpened tokens × CallsOpen tokens
CallsOpen (t.NotExists ∷ tokens) = IsOpened tokens × CallsOpen tokens
CallsOpen (t.BeginsWith ∷ tokens) = IsOpened tokens × CallsOpen tokens
CallsOpen (token ∷ tokens) = CallsOpen tokens

calls_tail : (token : Token) (tokens : List Token) → CallsOpen (token ∷ tokens) → CallsOpen tokens
calls_tail t.Exists tokens h = h.1
calls_tail t.NotExists tokens h = h.1
calls_tail t.BeginsWith tokens h = h.1
calls_tail token tokens h = h

calls-commas : (list : List Operand) (others : List Token) → CallsOpen others → CallsOpen (comma_text list others)
calls-commas [] others h = h
calls-commas (a ∷ list) others h = calls-commas list others h

calls-list : (list : List Operand) (others : List Token) → CallsOpen others → CallsOpen (list_printed list others)
calls-list [] others h = h
calls-list (a ∷ list) others h = calls-commas list others h

calls-parentheses : (b : Bool) (text : List Token → List Token) (others : List Token) →
    ((u : List Token) → CallsOpen u → CallsOpen (text u)) → CallsOpen others → CallsOpen (in_parentheses b text others)
calls-parentheses true text others h k = h (t.Close ∷ others) k
calls-parentheses false text others h k = h others k

mutual
  pub calls-printed : (f : Form) (others : List Token) → CallsOpen others → CallsOpen (printed f others)
  calls-printed (compare left op right) others h = h
  calls-printed (between value low high) others h = h
  calls-printed (within value list) others h = calls-list list (t.Close ∷ others) h
  calls-printed (begins name front) others h = (tt, h)
  calls-printed (exists name) others h = (tt, h)
  calls-printed (lacks name) others h = (tt, h)
  calls-printed (not f) others h = calls-parentheses (is_chain f) (printed f) others (calls-printed f) h
  calls-printed (and fs) others h = calls-ands fs others h
  calls-printed (or fs) others h = calls-ors fs others h

  calls-ands : (fs : Forms) (others : List Token) → CallsOpen others → CallsOpen (and_printed fs others)
  calls-ands none others h = h
  calls-ands (some f fs) others h = calls-parentheses (is_chain f) (printed f) (more_ands fs others) (calls-printed f)
      (calls-more_ands fs others h)

  calls-more_ands : (fs : Forms) (others : List Token) → CallsOpen others → CallsOpen (more_ands fs others)
  calls-more_ands none others h = h
  calls-more_ands (some f fs) others h = calls-parentheses (is_chain f) (printed f) (more_ands fs others)
      (calls-printed f) (calls-more_ands fs others h)

  calls-ors : (fs : Forms) (others : List Token) → CallsOpen others → CallsOpen (or_printed fs others)
  calls-ors none others h = h
  calls-ors (some f fs) others h = calls-parentheses (is_or f) (printed f) (more_ors fs others) (calls-printed f)
      (calls-more_ors fs others h)

  calls-more_ors : (fs : Forms) (others : List Token) → CallsOpen others → CallsOpen (more_ors fs others)
  calls-more_ors none others h = h
  calls-more_ors (some f fs) others h = calls-parentheses (is_or f) (printed f) (more_ors fs others) (calls-printed f)
      (calls-more_ors fs others h)

-- ---- each token

digit_is_part : (d : ℕ) → d < 10 → are_parts ((48 + d) ∷ []) ≡ true
digit_is_part d h = search (Rattle.std.proofs.Common.rules)

all_more : (ds : List ℕ) (d : ℕ) → d < 10 → list_all is_part ds ≡ true → list_all is_part (ds ++ (48 + d) ∷ []) ≡ true
all_more [] d small h = digit_is_part d small
all_more (b ∷ ds) d small h =
    let parts = and_parts (is_part b) (list_all is_part ds) h in
    ap (λ x. x && list_all is_part (ds ++ (48 + d) ∷ [])) parts.0 ∙ all_more ds d small parts.1

more_parts : (ds : List ℕ) (d : ℕ) → d < 10 → are_parts ds ≡ true → are_parts (ds ++ (48 + d) ∷ []) ≡ true
more_parts [] d small h = digit_is_part d small
more_parts (b ∷ ds) d small h = all_more (b ∷ ds) d small h

pub decimal_parts : (n : ℕ) → n < 2 ^ 64 → are_parts (decimal n) ≡ true
decimal_parts n h = decimal_by_steps (λ k ds. are_parts ds ≡ true) (λ k lt. digit_is_part k lt)
    (λ k ds le e. more_parts ds (Rattle.std.proofs.Common.◌%◌ k 10) (omega arith) e) n h

-- the text of a token spells it
spells : (start n v : ℕ) (token : Token) → n < 2 ^ 64 → v < 2 ^ 64 →
    token_of start (token_text n v token) ≡ Some (token_at start (length (token_text n v token)) token)
unfolding word_token function_or_name
spells start n v (t.Compare op.Eq) h k = refl
spells start n v (t.Compare op.Ne) h k = refl
spells start n v (t.Compare op.Lt) h k = refl
spells start n v (t.Compare op.Le) h k = refl
spells start n v (t.Compare op.Gt) h k = refl
spells start n v (t.Compare op.Ge) h k = refl
spells start n v t.Open h k = refl
spells start n v t.Close h k = refl
spells start n v t.Comma h k = refl
spells start n v t.Or h k = refl
spells start n v t.And h k = refl
spells start n v t.Not h k = refl
spells start n v t.Between h k = refl
spells start n v t.In h k = refl
spells start n v t.Exists h k = refl
spells start n v t.NotExists h k = refl
spells start n v t.BeginsWith h k = refl
spells start n v (t.Operand (o.Name name)) h k = cond-true (are_parts (decimal n)) _ _ (decimal_parts n h)
spells start n v (t.Operand (o.Value span)) h k = cond-true (are_parts (decimal v)) _ _ (decimal_parts v k)

-- what stands behind a gap, or is an opening parenthesis, ends a token
behind_gap : (tokens : List Token) (n v : ℕ) → EndsToken (spelled n v true tokens)
behind_gap [] n v = tt
behind_gap (t.Close ∷ tokens) n v = refl
behind_gap (t.Comma ∷ tokens) n v = refl
behind_gap (token ∷ tokens) n v = refl

opened_ends : (tokens : List Token) (n v : ℕ) → IsOpened tokens → EndsToken (spelled n v false tokens)
opened_ends [] n v h = absurd h
opened_ends (t.Open ∷ tokens) n v h = refl
opened_ends (token ∷ tokens) n v h = absurd h

-- no token but the parenthesis begins with it
open_alone : (start : ℕ) (more : List ℕ) → more ≢ [] → token_of start (40 ∷ more) ≡ None
open_alone start [] h = absurd (h refl)
open_alone start (c ∷ []) h = refl
open_alone start (c ∷ d ∷ bytes) h = refl

longest : (start n v : ℕ) (token : Token) (tokens : List Token) → n < 2 ^ 64 → v < 2 ^ 64 → CallsOpen (token ∷ tokens) →
    IsLongest start (token_text n v token ++ spelled (next_names n token) (next_values v token) (has_gap_behind token)
    tokens) (token_at start (length (token_text n v token)) token) (token_text n v token)
    (spelled (next_names n token) (next_values v token) (has_gap_behind token) tokens)
longest start n v t.Open tokens h k calls = record {
  whole = refl;
  spelled = refl;
  longest =
      λ more others q ne. open_alone start more ne;
}
longest start n v t.Exists tokens h k calls =
    ends start _ _ _ (spells start n v t.Exists h k) (opened_ends tokens n v calls.0)
longest start n v t.NotExists tokens h k calls = ends start _ _ _ (spells start n v t.NotExists h k)
    (opened_ends tokens n v calls.0)
longest start n v t.BeginsWith tokens h k calls = ends start _ _ _ (spells start n v t.BeginsWith h k)
    (opened_ends tokens n v calls.0)
longest start n v token tokens h k calls =
    ends start _ _ _ (spells start n v token h k) (behind_gap tokens (next_names n token) (next_values v token))

pub some_text : (n v : ℕ) (token : Token) → 0 < length (token_text n v token)
some_text n v (t.Compare op.Eq) = omega arith
some_text n v (t.Compare op.Ne) = omega arith
some_text n v (t.Compare op.Lt) = omega arith
some_text n v (t.Compare op.Le) = omega arith
some_text n v (t.Compare op.Gt) = omega arith
some_text n v (t.Compare op.Ge) = omega arith
some_text n v (t.Operand (o.Name name)) = omega arith
some_text n v (t.Operand (o.Value span)) = omega arith
some_text n v token = omega arith

few_names : (n : ℕ) (token : Token) → next_names n token ≤ n + 1
few_names n (t.Operand (o.Name name)) = omega arith
few_names n token = omega arith

few_values : (n : ℕ) (token : Token) → next_values n token ≤ n + 1
few_values n (t.Operand (o.Value span)) = omega arith
few_values n token = omega arith

only_spaces : (b : Bool) (token : Token) → list_all is_space (gap b token) ≡ true
only_spaces false token = refl
only_spaces true t.Close = refl
only_spaces true t.Comma = refl
only_spaces true token = refl

pub cut-spelled : (tokens : List Token) (at n v : ℕ) (b : Bool) → CallsOpen tokens → n ≤ at → v ≤ at →
    at + length (spelled n v b tokens) ≤ 4096 →
    AreTokens at (spelled n v b tokens) (spelled_tokens at n v b tokens) (spelled_starts at n v b tokens)
    (at + length (spelled n v b tokens)) []
cut-spelled [] at n v b calls few low short = record { gap = []; whole = refl; spaces = refl; place = refl }
cut-spelled (token ∷ tokens) at n v b calls few low short =
    let space = gap b token in
    let word = token_text n v token in
    let back = spelled (next_names n token) (next_values v token) (has_gap_behind token) tokens in
    let long : length (space ++ (word ++ back)) ≡ length space + (length word + length back) =
    length-append space (word ++ back) ∙ ap (λ x. length space + x) (length-append word back) in
    let wide : 0 < length word = some_text n v token in
    let named : next_names n token ≤ n + 1 = few_names n token in
    let valued : next_values v token ≤ v + 1 = few_values v token in (
      word ++ back,
      word,
      back,
      record { gap = space; whole = refl; spaces = only_spaces b token; place = refl },
      longest (at + length space) n v token tokens (omega arith) (omega arith) calls,
      subst (λ e. AreTokens (at + length space + length word) back (spelled_tokens (at + length space + length word)
          (next_names n token) (next_values v token) (has_gap_behind token) tokens)
          (spelled_starts (at + length space + length word) (next_names n token) (next_values v token)
          (has_gap_behind token) tokens) e [])
          {x = at + length space + length word + length back} (omega arith)
          (cut-spelled tokens (at + length space + length word) (next_names n token) (next_values v token)
          (has_gap_behind token) (calls_tail token tokens calls) (omega arith) (omega arith) (omega arith)),
    )
