-- Wrapped keys: what they were made from, and what their tags say.
use Rattle.std.proofs.Common.{◌≡◌, ℕ, ◌+◌, List, [], ◌++◌, length, take, drop, refl, ap, sym, ◌∙◌, arith}
use Rattle.std.proofs.Common.{length-append, codes}
use Rattle.dbe_aes.proofs.Counters.{mode_twice}
use Rattle.dbe_aes.specs.Counters.{inc32}
use Rattle.dbe_gcm.specs.Gcm.{gcm, j0, streamed, tag_of}
use Rattle.dbe_gcm.proofs.Ranges.{length-streamed, length-tag_of, take-joined, drop-joined}
use Rattle.std.proofs.lemmas.List.{take-append-drop}
use Rattle.dbe_kdf.specs.Hkdf.{hkdf, hkdf_expand, hkdf_extract}
use Rattle.dbe_rawring.specs.Wrap.{IsAuthentic, UnwrapsInner, inner_wrap, signing_key, wrapped_key}
use Rattle.dbe_rawring.specs.Wrap.{wrapping_key, zero_iv}

streamed_twice : (key iv text : List ℕ) → streamed key iv (streamed key iv text) ≡ text
unfolding streamed
streamed_twice key iv text = mode_twice key (inc32 (j0 iv)) text

-- the two parts of a wrapped key
take-wrapped_key : (key iv aad text : List ℕ) (n : ℕ) → length text ≡ n →
    take n (wrapped_key key iv aad text) ≡ streamed key iv text
unfolding wrapped_key gcm
take-wrapped_key key iv aad text n size = take-joined n _ _ (length-streamed key iv text ∙ size)

drop-wrapped_key : (key iv aad text : List ℕ) (n : ℕ) → length text ≡ n →
    drop n (wrapped_key key iv aad text) ≡ tag_of key iv aad (streamed key iv text)
unfolding wrapped_key gcm
drop-wrapped_key key iv aad text n size = drop-joined n _ _ (length-streamed key iv text ∙ size)

pub length-wrapped_key : (key iv aad text : List ℕ) → length (wrapped_key key iv aad text) ≡ length text + 16
unfolding wrapped_key gcm
length-wrapped_key key iv aad text =
    let tag = length-tag_of key iv aad (streamed key iv text) in
    let front = length-streamed key iv text in
    omega (arith, length-append (streamed key iv text) (tag_of key iv aad (streamed key iv text)))

-- the ciphertext and its tag, joined
pub wrapped_key_is : (key iv aad text ciphertext tag : List ℕ) → ciphertext ≡ (gcm key iv aad text).ciphertext →
    tag ≡ (gcm key iv aad text).tag →
    ciphertext ++ tag ≡ wrapped_key key iv aad text
unfolding wrapped_key
wrapped_key_is key iv aad text ciphertext tag e f = rw (e, f) refl

-- a wrapped key deciphers to what it was made from
pub deciphered-wrapped_key : (key iv aad text wrapped : List ℕ) → length text ≡ 32 →
    wrapped ≡ wrapped_key key iv aad text →
    streamed key iv (take 32 wrapped) ≡ text
deciphered-wrapped_key key iv aad text wrapped size e =
    ap (λ w. streamed key iv (take 32 w)) e ∙ ap (streamed key iv) (take-wrapped_key key iv aad text 32 size)
    ∙ streamed_twice key iv text

-- and has its tag
pub authentic-wrapped_key : (key iv aad text wrapped : List ℕ) → length text ≡ 32 →
    wrapped ≡ wrapped_key key iv aad text →
    IsAuthentic key iv aad wrapped
authentic-wrapped_key key iv aad text wrapped size e =
    rw (e, take-wrapped_key key iv aad text 32 size) (drop-wrapped_key key iv aad text 32 size)

-- what has the tag of its ciphertext was made from what that deciphers to
pub wrapped_key-authentic : (key iv aad wrapped text ciphertext tag : List ℕ) → ciphertext ≡ take 32 wrapped →
    tag ≡ drop 32 wrapped →
    gcm key iv aad text ≡ record { ciphertext = ciphertext; tag = tag }
    → wrapped ≡ wrapped_key key iv aad text
unfolding wrapped_key
wrapped_key-authentic key iv aad wrapped text ciphertext tag first rest made =
    rw (made, first, rest) (sym (take-append-drop 32 wrapped))

-- one text of 32 bytes
pub same_wrapped_key : (key iv aad a b wrapped : List ℕ) → length a ≡ 32 → length b ≡ 32 →
    wrapped ≡ wrapped_key key iv aad a → wrapped ≡ wrapped_key key iv aad b
    → a ≡ b
same_wrapped_key key iv aad a b wrapped sa sb ea eb =
    sym (deciphered-wrapped_key key iv aad a wrapped sa ea) ∙ deciphered-wrapped_key key iv aad b wrapped sb eb

-- the keys of an intermediate key, from its pseudorandom key
pub wrapping_key_is : (prk intermediate key : List ℕ) → prk ≡ hkdf_extract [] intermediate →
    key ≡ hkdf_expand prk (codes "AWS_MPL_INTERMEDIATE_KEYWRAP_ENC") 32
    → key ≡ wrapping_key intermediate
unfolding wrapping_key hkdf
wrapping_key_is prk intermediate key e f = f ∙ ap (λ p. hkdf_expand p (codes "AWS_MPL_INTERMEDIATE_KEYWRAP_ENC") 32) e

pub signing_key_is : (prk intermediate key : List ℕ) → prk ≡ hkdf_extract [] intermediate →
    key ≡ hkdf_expand prk (codes "AWS_MPL_INTERMEDIATE_KEYWRAP_MAC") 48
    → key ≡ signing_key intermediate
unfolding signing_key hkdf
signing_key_is prk intermediate key e f = f ∙ ap (λ p. hkdf_expand p (codes "AWS_MPL_INTERMEDIATE_KEYWRAP_MAC") 48) e

-- an inner wrap is a key wrapped under the wrapping key
pub inner_wrap_is : (intermediate context data_key : List ℕ) →
    inner_wrap intermediate context data_key ≡ wrapped_key (wrapping_key intermediate) zero_iv context data_key
unfolding inner_wrap
inner_wrap_is intermediate context data_key = refl

pub same_inner : (intermediate context wrapped a b : List ℕ) → UnwrapsInner intermediate context wrapped a →
    UnwrapsInner intermediate context wrapped b
    → a ≡ b
unfolding inner_wrap
same_inner intermediate context wrapped a b u v =
    same_wrapped_key (wrapping_key intermediate) zero_iv context a b wrapped u.size v.size u.wraps v.wraps

-- what a data key unwraps from has the tag of its ciphertext
pub authentic_inner : (intermediate context wrapped a : List ℕ) → UnwrapsInner intermediate context wrapped a →
    IsAuthentic (wrapping_key intermediate) zero_iv context wrapped
unfolding inner_wrap
authentic_inner intermediate context wrapped a u =
    authentic-wrapped_key (wrapping_key intermediate) zero_iv context a wrapped u.size u.wraps
