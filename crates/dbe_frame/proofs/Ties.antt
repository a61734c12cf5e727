-- The steps of reading a header are those of its format.
use Rattle.std.proofs.Common.{◌≡◌, ℕ, zero, suc, Bool, false, ltb, List, [], ◌∷◌, length, Option, Some, None, Result}
use Rattle.std.proofs.Common.{Ok, refl, arith}
use Rattle.std.specs.Int.{w16, from_be_bytes}
use Rattle.std.proofs.lemmas.Bool.{le-ltb}
use Rattle.dbe_rawring.specs.Edk.{EdkParts}
use Rattle.dbe_frame.specs.Format.{Format, ends, bytes_that, any_bytes, byte_that, number, string, many}
use Rattle.dbe_frame.specs.Header.{HeaderParts, is_version, is_flavour, is_legend_byte, is_edk_count, comes_after}
use Rattle.dbe_frame.specs.Header.{edk, pairs_after, legend_format, context_format, edks_format, header}
use Rattle.dbe_frame.specs.Reading.{◌>>=◌, any, bytes_at, byte_at, number_at, string_at, many_at, legend_at, key_at}
use Rattle.dbe_frame.specs.Reading.{pair_at, pairs_at, context_at, edk_at, edks_at, header_at}
use Rattle.dbe_frame.proofs.Follow.{followed}
use Rattle.dbe_frame.proofs.Formats.{read_front, chain}

pub bytes_at-front : (n : ℕ) (test : List ℕ → Bool) (bytes : List ℕ) →
    bytes_at n test bytes ≡ read_front (bytes_that n test) bytes
unfolding bytes_at read_front
bytes_at-front n test bytes = refl

pub byte_at-front : (test : ℕ → Bool) (bytes : List ℕ) → byte_at test bytes ≡ read_front (byte_that test) bytes
unfolding byte_at read_front
byte_at-front test [] = refl
byte_at-front test (b ∷ bytes) =
    let long : ltb (suc (length bytes)) 1 ≡ false = le-ltb _ _ (omega arith) in
    rw long refl

pub number_at-front : (bytes : List ℕ) → number_at bytes ≡ read_front number bytes
unfolding number_at read_front
number_at-front bytes = chain (any_bytes 2) (λ b. ends (from_be_bytes w16 b)) bytes (bytes_at 2 any bytes)
    (λ x. Ok (from_be_bytes w16 x.0, x.1)) (bytes_at-front 2 any bytes) (λ x. refl)

pub string_at-front : (bytes : List ℕ) → string_at bytes ≡ read_front string bytes
unfolding string_at
string_at-front bytes = chain number (λ n. any_bytes n) bytes (number_at bytes) (λ n. bytes_at n.0 any n.1)
    (number_at-front bytes) (λ x. bytes_at-front x.0 any x.1)

pub many_at-front : {X : Type 0} (at_front : List ℕ → Result (X × List ℕ) ℕ) (one : Format X) →
    ((bytes : List ℕ) → at_front bytes ≡ read_front one bytes)
    → (n : ℕ) (bytes : List ℕ) → many_at at_front n bytes ≡ read_front (many n one) bytes
unfolding many_at read_front
many_at-front at_front one same zero bytes = refl
many_at-front {X} at_front one same (suc n) bytes =
    chain one (λ first. followed (many n one) (λ others. ends (first ∷ others))) bytes (at_front bytes)
    (λ x. many_at at_front n x.1 >>= λ xs. Ok (x.0 ∷ xs.0, xs.1)) (same bytes)
    (λ x. chain (many n one) (λ others. ends (x.0 ∷ others)) x.1 (many_at at_front n x.1) (λ xs. Ok (
      x.0 ∷ xs.0,
      xs.1,
    )) (many_at-front at_front one same n x.1) (λ xs. refl))

pub legend_at-front : (version : ℕ) (bytes : List ℕ) → legend_at version bytes ≡ read_front (legend_format version)
    bytes
unfolding legend_at
legend_at-front version bytes =
    chain number (λ n. many n (byte_that (is_legend_byte version))) bytes (number_at bytes)
    (λ n. many_at (byte_at (is_legend_byte version)) n.0 n.1) (number_at-front bytes)
    (λ x. many_at-front (byte_at (is_legend_byte version)) (byte_that (is_legend_byte version))
    (byte_at-front (is_legend_byte version)) x.0 x.1)

-- a key behind the key before it
abbrev pub key_format : Option (List ℕ) → Format (List ℕ)
key_format before = followed number (λ n. bytes_that n (comes_after before))

abbrev pub pair_format : Option (List ℕ) → Format (List ℕ × List ℕ)
pair_format before = followed (key_format before) (λ key. followed string (λ value. ends (key, value)))

pub key_at-front : (before : Option (List ℕ)) (bytes : List ℕ) → key_at before bytes ≡ read_front (key_format before)
    bytes
unfolding key_at
key_at-front before bytes =
    chain number (λ n. bytes_that n (comes_after before)) bytes (number_at bytes)
    (λ n. bytes_at n.0 (comes_after before) n.1) (number_at-front bytes) (λ x. bytes_at-front x.0
    (comes_after before) x.1)

pub pair_at-front : (before : Option (List ℕ)) (bytes : List ℕ) →
    pair_at before bytes ≡ read_front (pair_format before) bytes
unfolding pair_at read_front
pair_at-front before bytes =
    chain (key_format before) (λ key. followed string (λ value. ends (key, value))) bytes (key_at before bytes)
    (λ key. string_at key.1 >>= λ value. Ok ((key.0, value.0), value.1)) (key_at-front before bytes)
    (λ key. chain string (λ value. ends (key.0, value)) key.1 (string_at key.1) (λ value. Ok (
      (key.0, value.0),
      value.1,
    )) (string_at-front key.1) (λ value. refl))

pub pairs_at-front : (before : Option (List ℕ)) (n : ℕ) (bytes : List ℕ) →
    pairs_at before n bytes ≡ read_front (pairs_after before n) bytes
unfolding pairs_at read_front
pairs_at-front before zero bytes = refl
pairs_at-front before (suc n) bytes =
    chain (pair_format before) (λ pair. followed (pairs_after (Some pair.0) n) (λ others. ends (pair ∷ others))) bytes
    (pair_at before bytes) (λ pair. pairs_at (Some pair.0.0) n pair.1 >>= λ pairs. Ok (pair.0 ∷ pairs.0, pairs.1))
    (pair_at-front before bytes)
    (λ pair. chain (pairs_after (Some pair.0.0) n) (λ others. ends (pair.0 ∷ others)) pair.1 (pairs_at (Some pair.0.0)
    n pair.1) (λ pairs. Ok (pair.0 ∷ pairs.0, pairs.1)) (pairs_at-front (Some pair.0.0) n pair.1) (λ pairs. refl))

pub context_at-front : (bytes : List ℕ) → context_at bytes ≡ read_front context_format bytes
unfolding context_at
context_at-front bytes = chain number (λ n. pairs_after None n) bytes (number_at bytes) (λ n. pairs_at None n.0 n.1)
    (number_at-front bytes) (λ x. pairs_at-front None x.0 x.1)

pub edk_at-front : (bytes : List ℕ) → edk_at bytes ≡ read_front edk bytes
unfolding edk_at read_front
edk_at-front bytes =
    let made : List ℕ → List ℕ → List ℕ → EdkParts = λ p i c. record { provider = p; info = i; ciphertext = c } in
    chain string (λ p. followed string (λ i. followed string (λ c. ends (made p i c)))) bytes (string_at bytes)
    (λ p. string_at p.1 >>= λ i. string_at i.1 >>= λ c. Ok (made p.0 i.0 c.0, c.1)) (string_at-front bytes)
    (λ p. chain string (λ i. followed string (λ c. ends (made p.0 i c))) p.1 (string_at p.1) (λ i. string_at i.1 >>=
    λ c. Ok (made p.0 i.0 c.0, c.1)) (string_at-front p.1)
    (λ i. chain string (λ c. ends (made p.0 i.0 c)) i.1 (string_at i.1) (λ c. Ok (made p.0 i.0 c.0, c.1))
    (string_at-front i.1) (λ c. refl)))

pub edks_at-front : (bytes : List ℕ) → edks_at bytes ≡ read_front edks_format bytes
unfolding edks_at
edks_at-front bytes =
    chain (byte_that is_edk_count) (λ n. many n edk) bytes (byte_at is_edk_count bytes) (λ n. many_at edk_at n.0 n.1)
    (byte_at-front is_edk_count bytes)
    (λ x. many_at-front edk_at edk edk_at-front x.0 x.1)

pub header_at-front : (bytes : List ℕ) → header_at bytes ≡ read_front header bytes
unfolding header_at header read_front
header_at-front bytes =
    let made : List ℕ → List ℕ → List (List ℕ × List ℕ) → List EdkParts → List ℕ → HeaderParts =
    λ id legend context edks commitment. record {
      message_id = id;
      legend = legend;
      context = context;
      edks = edks;
      commitment = commitment;
    } in
    let end = λ (id legend : List ℕ) (context : List (List ℕ × List ℕ)) (edks : List EdkParts) (commitment : List ℕ).
    ends (made id legend context edks commitment) in
    let after_edks = λ (id legend : List ℕ) (context : List (List ℕ × List ℕ)) (edks : List EdkParts). followed
    (any_bytes 32) (end id legend context edks) in
    let after_context = λ (id legend : List ℕ) (context : List (List ℕ × List ℕ)). followed edks_format
    (after_edks id legend context) in
    let after_legend = λ (id legend : List ℕ). followed context_format (after_context id legend) in
    let after_id = λ (version : ℕ) (id : List ℕ). followed (legend_format version) (after_legend id) in
    let after_flavour = λ (version flavour : ℕ). followed (any_bytes 32) (after_id version) in
    let after_version = λ (version : ℕ). followed (byte_that is_flavour) (after_flavour version) in
    chain (byte_that is_version) after_version bytes _ _ (byte_at-front is_version bytes)
    (λ v. chain (byte_that is_flavour) (after_flavour v.0) v.1 _ _ (byte_at-front is_flavour v.1)
    (λ f. chain (any_bytes 32) (after_id v.0) f.1 _ _ (bytes_at-front 32 any f.1)
    (λ id. chain (legend_format v.0) (after_legend id.0) id.1 _ _ (legend_at-front v.0 id.1)
    (λ legend. chain context_format (after_context id.0 legend.0) legend.1 _ _ (context_at-front legend.1)
    (λ context. chain edks_format (after_edks id.0 legend.0 context.0) context.1 _ _ (edks_at-front context.1)
    (λ edks. chain (any_bytes 32) (end id.0 legend.0 context.0 edks.0) edks.1 _ _ (bytes_at-front 32 any edks.1)
    (λ commitment. refl)))))))
