-- What is written, part by part, is the text of the header.
use Rattle.std.proofs.Common.{◌≡◌, ℕ, List, [], ◌∷◌, ◌++◌, length, map, refl, sym, ap, ◌∙◌, append_assoc, append-nil}
use Rattle.std.specs.List.{flat_map}
use Rattle.std.proofs.lemmas.List.Concat.{flat_map-cons}
use Rattle.dbe_rawring.specs.Edk.{EdkParts}
use Rattle.dbe_frame.specs.Format.{joined}
use Rattle.dbe_frame.specs.Header.{HeaderParts, short_number, pair_fields, edk_fields, header_text}
use Rattle.dbe_frame.specs.Context.{short_string, pair_text}
use Rattle.dbe_frame.specs.Writing.{edk_text, context_part, edks_part}
use Rattle.dbe_frame.proofs.Headers.{regroup_fields}

pub joined-append : (xs ys : List (List ℕ)) → joined (xs ++ ys) ≡ joined xs ++ joined ys
joined-append [] ys = refl
joined-append (x ∷ xs) ys = ap (λ (t : List ℕ). x ++ t) (joined-append xs ys) ∙
    sym (append_assoc x (joined xs) (joined ys))

joined-singles : (xs : List ℕ) → joined (map (λ (b : ℕ). b ∷ []) xs) ≡ xs
joined-singles [] = refl
joined-singles (x ∷ xs) = ap (λ (t : List ℕ). x ∷ t) (joined-singles xs)

joined-flat_map : {X : Type 0} (fields : X → List (List ℕ)) (text : X → List ℕ) →
    ((x : X) → joined (fields x) ≡ text x) → (xs : List X) → joined (flat_map fields xs) ≡ flat_map text xs
joined-flat_map fields text same [] = refl
joined-flat_map {X} fields text same (x ∷ xs) =
    ap joined (flat_map-cons fields x xs) ∙ joined-append (fields x) (flat_map fields xs) ∙
    ap (λ (t : List ℕ). t ++ joined (flat_map fields xs)) (same x)
    ∙ ap (λ (t : List ℕ). text x ++ t) (joined-flat_map fields text same xs) ∙ sym (flat_map-cons text x xs)

string_joined : (x : List ℕ) → joined (short_number (length x) ∷ x ∷ []) ≡ short_string x
string_joined x = ap (λ (t : List ℕ). short_number (length x) ++ t) (append-nil x)

pair_joined : (p : List ℕ × List ℕ) → joined (pair_fields p) ≡ pair_text p
pair_joined p =
    joined-append (short_number (length p.0) ∷ p.0 ∷ []) (short_number (length p.1) ∷ p.1 ∷ [])
    ∙ ap (λ (t : List ℕ). t ++ joined (short_number (length p.1) ∷ p.1 ∷ [])) (string_joined p.0) ∙
    ap (λ (t : List ℕ). short_string p.0 ++ t) (string_joined p.1)

edk_joined : (e : EdkParts) → joined (edk_fields e) ≡ edk_text e
edk_joined e =
    joined-append (pair_fields (e.provider, e.info)) (short_number (length e.ciphertext) ∷ e.ciphertext ∷ [])
    ∙ ap (λ (t : List ℕ). t ++ joined (short_number (length e.ciphertext) ∷ e.ciphertext ∷ []))
    (pair_joined (e.provider, e.info))
    ∙ ap (λ (t : List ℕ). (short_string e.provider ++ short_string e.info) ++ t) (string_joined e.ciphertext)

-- three groups of fields and one field, joined
groups : (a b c : List (List ℕ)) (d : List ℕ) →
    joined (a ++ (b ++ (c ++ d ∷ []))) ≡ joined a ++ (joined b ++ (joined c ++ d))
groups a b c d =
    joined-append a (b ++ (c ++ d ∷ [])) ∙ ap (λ (t : List ℕ). joined a ++ t) (joined-append b (c ++ d ∷ []) ∙
    ap (λ (t : List ℕ). joined b ++ t) (joined-append c (d ∷ []) ∙
    ap (λ (t : List ℕ). joined c ++ t) (append-nil d)))

legend_joined : (xs : List ℕ) → joined (short_number (length xs) ∷ map (λ (b : ℕ). b ∷ []) xs) ≡ short_string xs
legend_joined xs = ap (λ (t : List ℕ). short_number (length xs) ++ t) (joined-singles xs)

context_joined : (xs : List (List ℕ × List ℕ)) → joined (short_number (length xs) ∷ flat_map pair_fields xs) ≡
    context_part xs
context_joined xs = ap (λ (t : List ℕ). short_number (length xs) ++ t) (joined-flat_map pair_fields pair_text
    pair_joined xs)

edks_joined : (xs : List EdkParts) → joined ((length xs ∷ []) ∷ flat_map edk_fields xs) ≡ edks_part xs
edks_joined xs = ap (λ (t : List ℕ). length xs ∷ t) (joined-flat_map edk_fields edk_text edk_joined xs)

parts_text : (h : HeaderParts) →
    header_text h ≡ 1 ∷ 0 ∷
    (h.message_id ++ (short_string h.legend ++ (context_part h.context ++ (edks_part h.edks ++ h.commitment))))
unfolding header_text
parts_text h =
    let a = short_number (length h.legend) ∷ map (λ (b : ℕ). b ∷ []) h.legend in
    let b = short_number (length h.context) ∷ flat_map pair_fields h.context in
    let c = (length h.edks ∷ []) ∷ flat_map edk_fields h.edks in
    let same : joined a ++ (joined b ++ (joined c ++ h.commitment)) ≡ short_string h.legend ++
    (context_part h.context ++ (edks_part h.edks ++ h.commitment)) =
    ap (λ (t : List ℕ). t ++ (joined b ++ (joined c ++ h.commitment))) (legend_joined h.legend)
    ∙ ap (λ (t : List ℕ). short_string h.legend ++ (t ++ (joined c ++ h.commitment))) (context_joined h.context)
    ∙ ap (λ (t : List ℕ). short_string h.legend ++ (context_part h.context ++ (t ++ h.commitment)))
    (edks_joined h.edks) in
    ap joined (regroup_fields h) ∙ ap (λ (t : List ℕ). 1 ∷ 0 ∷ (h.message_id ++ t)) (groups a b c h.commitment ∙ same)

flatten : (a b c d e f : List ℕ) → ((((a ++ b) ++ c) ++ d) ++ e) ++ f ≡ a ++ (b ++ (c ++ (d ++ (e ++ f))))
flatten a b c d e f = simp append_assoc

grows : (p q r s t u a b c d e f : List ℕ) → a ≡ p → b ≡ a ++ q → c ≡ b ++ r → d ≡ c ++ s → e ≡ d ++ t → f ≡ e ++ u →
    f ≡ ((((p ++ q) ++ r) ++ s) ++ t) ++ u
grows p q r s t u a b c d e f ea eb ec ed ee ef = cc

pub header_written : (h : HeaderParts) (a b c d e f : List ℕ) → a ≡ 1 ∷ 0 ∷ [] → b ≡ a ++ h.message_id →
    c ≡ b ++ short_string h.legend → d ≡ c ++ context_part h.context → e ≡ d ++ edks_part h.edks →
    f ≡ e ++ h.commitment → f ≡ header_text h
header_written h a b c d e f ea eb ec ed ee ef =
    let flat : (((((1 ∷ 0 ∷ []) ++ h.message_id) ++ short_string h.legend) ++ context_part h.context) ++ edks_part
    h.edks) ++ h.commitment ≡ 1 ∷ 0 ∷
    (h.message_id ++ (short_string h.legend ++ (context_part h.context ++ (edks_part h.edks ++ h.commitment)))) =
    flatten (1 ∷ 0 ∷ []) h.message_id (short_string h.legend) (context_part h.context) (edks_part h.edks) h.commitment
    in
    let grown : f ≡ (((((1 ∷ 0 ∷ []) ++ h.message_id) ++ short_string h.legend) ++ context_part h.context) ++
    edks_part h.edks) ++ h.commitment = grows (1 ∷ 0 ∷ []) h.message_id (short_string h.legend)
    (context_part h.context) (edks_part h.edks) h.commitment a b c d e f ea eb ec ed ee ef in
    grown ∙ flat ∙ sym (parts_text h)

-- the header that has these parts
pub same_header : (h : HeaderParts) (id legend : List ℕ) (context : List (List ℕ × List ℕ)) (edks : List EdkParts)
    (commitment : List ℕ) (text : List ℕ)
    → id ≡ h.message_id → legend ≡ h.legend → context ≡ h.context → edks ≡ h.edks → commitment ≡ h.commitment
    → text ≡ header_text (record {
      message_id = id;
      legend = legend;
      context = context;
      edks = edks;
      commitment =
          commitment;
    }) → text ≡ header_text h
same_header h id legend context edks commitment text a b c d e is =
    is
    ∙ ap (λ (x : List ℕ). header_text (record {
      message_id = x;
      legend = legend;
      context = context;
      edks = edks;
      commitment = commitment;
    })) a
    ∙ ap (λ (x : List ℕ). header_text (record {
      message_id = h.message_id;
      legend = x;
      context = context;
      edks = edks;
      commitment = commitment;
    })) b
    ∙ ap (λ (x : List (List ℕ × List ℕ)). header_text (record {
      message_id = h.message_id;
      legend = h.legend;
      context = x;
      edks = edks;
      commitment = commitment;
    })) c
    ∙ ap (λ (x : List EdkParts). header_text (record {
      message_id = h.message_id;
      legend = h.legend;
      context =
          h.context;
      edks = x;
      commitment = commitment;
    })) d
    ∙ ap (λ (x : List ℕ). header_text (record {
      message_id = h.message_id;
      legend = h.legend;
      context = h.context;
      edks = h.edks;
      commitment = x;
    })) e
