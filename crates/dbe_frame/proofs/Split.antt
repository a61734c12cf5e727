-- A header's bytes, up to its commitment and from there on.
use Rattle.std.proofs.Common.{◌≡◌, ℕ, ◌-◌, List, [], ◌∷◌, ◌++◌, length, take, refl, ap, ◌∙◌, append-nil}
use Rattle.std.proofs.Common.{length-append, arith}
use Rattle.std.proofs.lemmas.List.{take_at}
use Rattle.dbe_frame.specs.Format.{joined}
use Rattle.dbe_frame.specs.Header.{HeaderParts, IsHeader, body_fields, header_prefix, header_text}
use Rattle.dbe_frame.proofs.Written.{joined-append}

pub header_split : (h : HeaderParts) (bytes : List ℕ) → IsHeader h bytes → bytes ≡ header_prefix h ++ h.commitment
unfolding header_prefix header_text
header_split h bytes is = is.text ∙ joined-append (body_fields h) (h.commitment ∷ []) ∙
    ap (λ c. joined (body_fields h) ++ c) (append-nil h.commitment)

pub before_commitment : (h : HeaderParts) (bytes : List ℕ) → IsHeader h bytes →
    take (length bytes - 32) bytes ≡ header_prefix h
before_commitment h bytes is =
    let split = header_split h bytes is in
    let size : length (header_prefix h) ≡ length bytes - 32 = omega (
      arith,
      ap length split,
      length-append (header_prefix h) h.commitment,
      is.parts.commitment,
    ) in
    ap (λ b. take (length bytes - 32) b) split ∙ take_at (header_prefix h) h.commitment (length bytes - 32) size

pub prefix_apart : (h : HeaderParts) (other : List ℕ) → header_prefix (record {
  message_id = h.message_id;
  legend =
      h.legend;
  context = h.context;
  edks = h.edks;
  commitment = other;
}) ≡ header_prefix h
unfolding header_prefix
prefix_apart h other = refl
