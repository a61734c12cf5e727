-- Raw rings: the parts of what they wrap, and that it is of one data key.
use Rattle.std.proofs.Common.{inl, inr, ◌≡◌, ℕ, List, ◌++◌, length, take, drop, refl, ap, sym, ◌∙◌, arith}
use Rattle.std.proofs.Common.{length-append, length-drop, append_assoc}
use Rattle.std.proofs.lemmas.List.{length-take-le, take-append-drop, drop-drop}
use Rattle.dbe_gcm.proofs.Ranges.{length-streamed, take-joined, drop-joined}
use Rattle.dbe_rawring.specs.Edk.{EdkParts}
use Rattle.dbe_rawring.specs.Wrap.{IsAuthentic, UnwrapsInner, inner_wrap, signing_key, wrapped_key}
use Rattle.dbe_rawring.specs.Wrap.{wrapping_key, zero_iv}
use Rattle.dbe_rawring.specs.Ring.{IsInnerAuthentic, IsMine, IsOuterAuthentic, IsRingFault, RawRingParts, Unwraps}
use Rattle.dbe_rawring.specs.Ring.{deciphered, inner_part, intermediate_of, iv_of, iv_part, outer_part}
use Rattle.dbe_rawring.specs.Ring.{raw_ciphertext, raw_edk}
use Rattle.dbe_rawring.specs.declared.fault.RingFault.{RingFault}
use Rattle.dbe_rawring.specs.declared.fault.RingFault.TheVariants.{NotMine, NotAuthentic}
use Rattle.dbe_rawring.proofs.Wraps.{authentic-wrapped_key, deciphered-wrapped_key, length-wrapped_key}

-- three lists joined, of 12, 48 and some bytes
cut_first : (a b d : List ℕ) → length a ≡ 12 → take 12 ((a ++ b) ++ d) ≡ a
cut_first a b d size = rw append_assoc (take-joined 12 a (b ++ d) size)

cut_second : (a b d : List ℕ) → length a ≡ 12 → length b ≡ 48 → take 48 (drop 12 ((a ++ b) ++ d)) ≡ b
cut_second a b d sa sb = rw (append_assoc, drop-joined 12 a (b ++ d) sa) (take-joined 48 b d sb)

cut_third : (a b d : List ℕ) → length a ≡ 12 → length b ≡ 48 → drop 60 ((a ++ b) ++ d) ≡ d
cut_third a b d sa sb = drop-joined 60 (a ++ b) d (omega (arith, length-append a b))

joined_again : (c : List ℕ) → (take 12 c ++ take 48 (drop 12 c)) ++ drop 60 c ≡ c
joined_again c =
    let d = drop 12 c in
    let rest : drop 48 d ≡ drop 60 c = drop-drop 48 12 c in
    append_assoc (take 12 c) (take 48 d) (drop 60 c) ∙ ap (λ r. take 12 c ++ (take 48 d ++ r)) (sym rest)
    ∙ ap (λ r. take 12 c ++ r) (take-append-drop 48 d) ∙ take-append-drop 12 c

abbrev made_edk : List ℕ → List ℕ → List ℕ → EdkParts
made_edk provider info ciphertext = record { provider = provider; info = info; ciphertext = ciphertext }

pub same_edk : (edk : EdkParts) (p i c : List ℕ) → edk.provider ≡ p → edk.info ≡ i → edk.ciphertext ≡ c →
    edk ≡ made_edk p i c
same_edk edk p i c e f g =
    ap (λ x. made_edk x edk.info edk.ciphertext) e ∙ ap (λ x. made_edk p x edk.ciphertext) f ∙ ap (made_edk p i) g

-- a wrapped data key, cut into its parts
pub record HasParts (key context data_key drawn c : List ℕ) : Type 0 where
  pub intermediate_size : length (intermediate_of drawn) ≡ 32
  pub iv : iv_part c ≡ iv_of drawn
  pub outer : outer_part c ≡ wrapped_key key (iv_part c) context (intermediate_of drawn)
  pub inner : inner_part c ≡ inner_wrap (intermediate_of drawn) context data_key
  pub size : length c ≡ 108

pub has_parts : (key context data_key drawn c : List ℕ) → length drawn ≡ 44 → length data_key ≡ 32 →
    c ≡ raw_ciphertext key context data_key drawn
    → HasParts key context data_key drawn c
unfolding raw_ciphertext inner_wrap
has_parts key context data_key drawn c sd sk e =
    let inter = intermediate_of drawn in
    let iv = iv_of drawn in
    let outer = wrapped_key key iv context inter in
    let inner = inner_wrap inter context data_key in
    let si : length inter ≡ 32 = length-take-le 32 drawn (omega arith) in
    let sv : length iv ≡ 12 = omega (arith, length-drop 32 drawn) in
    let so : length outer ≡ 48 = omega (arith, length-wrapped_key key iv context inter) in
    let sn : length inner ≡ 48 = omega (arith, length-wrapped_key (wrapping_key inter) zero_iv context data_key) in
    let first : iv_part c ≡ iv = ap iv_part e ∙ cut_first iv outer inner sv in
    record {
      intermediate_size = si;
      iv = first;
      outer = ap outer_part e ∙ cut_second iv outer inner sv so ∙ ap (λ v. wrapped_key key v context inter) (sym first);
      inner = ap inner_part e ∙ cut_third iv outer inner sv so;
      size = ap length e ∙ omega (arith, length-append (iv ++ outer) inner, length-append iv outer);
    }

parts_of : (ring : RawRingParts) (context : List ℕ) (edk : EdkParts) (data_key signing : List ℕ)
    (u : Unwraps ring context edk data_key signing) →
    HasParts ring.key context data_key u.drawn edk.ciphertext
parts_of ring context edk data_key signing u =
    has_parts ring.key context data_key u.drawn edk.ciphertext u.drawn_size u.size (ap (λ k. k.ciphertext) u.wraps)

-- the intermediate key is what its ciphertext deciphers to
intermediate_is : (key context data_key drawn c : List ℕ) → HasParts key context data_key drawn c →
    deciphered key (iv_part c) (outer_part c) ≡ intermediate_of drawn
intermediate_is key context data_key drawn c p =
    deciphered-wrapped_key key (iv_part c) context (intermediate_of drawn) (outer_part c) p.intermediate_size p.outer

-- so are the data key and the signing key
pub data_key_is : (ring : RawRingParts) (context : List ℕ) (edk : EdkParts) (data_key signing : List ℕ) →
    Unwraps ring context edk data_key signing
    → let c = edk.ciphertext in
    data_key ≡ deciphered (wrapping_key (deciphered ring.key (iv_part c) (outer_part c))) zero_iv (inner_part c)
unfolding inner_wrap
data_key_is ring context edk data_key signing u =
    let c = edk.ciphertext in
    let p = parts_of ring context edk data_key signing u in
    let inter = intermediate_of u.drawn in
    let same = intermediate_is ring.key context data_key u.drawn c p in
    sym (ap (λ k. deciphered (wrapping_key k) zero_iv (inner_part c)) same
    ∙ deciphered-wrapped_key (wrapping_key inter) zero_iv context data_key (inner_part c) u.size p.inner)

pub signing_is : (ring : RawRingParts) (context : List ℕ) (edk : EdkParts) (data_key signing : List ℕ) →
    Unwraps ring context edk data_key signing
    → let c = edk.ciphertext in signing ≡ signing_key (deciphered ring.key (iv_part c) (outer_part c))
signing_is ring context edk data_key signing u =
    let c = edk.ciphertext in
    let p = parts_of ring context edk data_key signing u in
    u.signs ∙ ap signing_key (sym (intermediate_is ring.key context data_key u.drawn c p))

pub is_mine : (ring : RawRingParts) (context : List ℕ) (edk : EdkParts) (data_key signing : List ℕ) →
    Unwraps ring context edk data_key signing
    → IsMine ring edk
is_mine ring context edk data_key signing u =
    let p = parts_of ring context edk data_key signing u in
    record { provider = ap (λ k. k.provider) u.wraps; info = ap (λ k. k.info) u.wraps; size = p.size }

pub outer_authentic : (ring : RawRingParts) (context : List ℕ) (edk : EdkParts) (data_key signing : List ℕ) →
    Unwraps ring context edk data_key signing
    → IsOuterAuthentic ring.key context edk.ciphertext
outer_authentic ring context edk data_key signing u =
    let c = edk.ciphertext in
    let p = parts_of ring context edk data_key signing u in
    authentic-wrapped_key ring.key (iv_part c) context (intermediate_of u.drawn) (outer_part c) p.intermediate_size
    p.outer

pub inner_authentic : (ring : RawRingParts) (context : List ℕ) (edk : EdkParts) (data_key signing : List ℕ) →
    Unwraps ring context edk data_key signing
    → IsInnerAuthentic ring.key context edk.ciphertext
unfolding inner_wrap
inner_authentic ring context edk data_key signing u =
    let c = edk.ciphertext in
    let p = parts_of ring context edk data_key signing u in
    rw (intermediate_is ring.key context data_key u.drawn c p)
    (authentic-wrapped_key (wrapping_key (intermediate_of u.drawn)) zero_iv context data_key (inner_part c) u.size
    p.inner)

-- where a data key unwraps there is no fault
pub no_fault : (f : RingFault) (ring : RawRingParts) (context : List ℕ) (edk : EdkParts) (data_key signing : List ℕ) →
    IsRingFault f ring context edk → Unwraps ring context edk data_key signing
    → ⊥
no_fault NotMine ring context edk data_key signing fault u = fault (is_mine ring context edk data_key signing u)
no_fault NotAuthentic ring context edk data_key signing fault u = elim fault.1 [
  | inl a ↦ a (outer_authentic ring context edk data_key signing u)
  | inr b ↦ b (inner_authentic ring context edk data_key signing u)
]

-- a ciphertext whose two parts unwrap is the ring's of the bytes that were drawn
pub unwraps_parts : (ring : RawRingParts) (context : List ℕ) (edk : EdkParts) (inter data_key signing : List ℕ) →
    IsMine ring edk → length inter ≡ 32
    → outer_part edk.ciphertext ≡ wrapped_key ring.key (iv_part edk.ciphertext) context inter
    → UnwrapsInner inter context (inner_part edk.ciphertext) data_key → signing ≡ signing_key inter
    → Unwraps ring context edk data_key signing
unfolding raw_ciphertext
unwraps_parts ring context edk inter data_key signing mine size outer inner signs =
    let c = edk.ciphertext in
    let iv = iv_part c in
    let drawn = inter ++ iv in
    let sv : length iv ≡ 12 = length-take-le 12 c (omega (arith, mine.size)) in
    let front : take 32 drawn ≡ inter = take-joined 32 inter iv size in
    let back : drop 32 drawn ≡ iv = drop-joined 32 inter iv size in
    let made : c ≡ raw_ciphertext ring.key context data_key drawn = rw (front, back, ← outer, ← inner.wraps)
    (sym (joined_again c)) in
    record {
      drawn = drawn;
      drawn_size = omega (arith, length-append inter iv);
      size = inner.size;
      wraps = same_edk edk ring.namespace ring.name (raw_ciphertext ring.key context data_key drawn) mine.provider
          mine.info made;
      signs = rw front signs;
    }

-- the tests of the two tags, by the parts that the code holds
pub outer_differs : (key context c key' iv outer : List ℕ) → key' ≡ key → iv ≡ iv_part c → outer ≡ outer_part c →
    ¬ IsAuthentic key' iv context outer
    → ¬ IsOuterAuthentic key context c
outer_differs key context c key' iv outer e f g differs = λ h. differs (rw (e, f, g) h)

pub inner_differs : (key context c inter inner : List ℕ) → inter ≡ deciphered key (iv_part c) (outer_part c) →
    inner ≡ inner_part c
    → ¬ IsAuthentic (wrapping_key inter) zero_iv context inner
    → ¬ IsInnerAuthentic key context c
inner_differs key context c inter inner e f differs = λ h. differs (rw (e, f) h)

pub deciphered_by_parts : (key context c key' iv outer inter : List ℕ) → key' ≡ key → iv ≡ iv_part c →
    outer ≡ outer_part c → inter ≡ deciphered key' iv outer
    → inter ≡ deciphered key (iv_part c) (outer_part c)
deciphered_by_parts key context c key' iv outer inter e f g h = rw (e, f, g) at h

pub outer_by_parts : (key context c key' iv outer inter : List ℕ) → key' ≡ key → iv ≡ iv_part c → outer ≡ outer_part c
    → outer ≡ wrapped_key key' iv context inter
    → outer_part c ≡ wrapped_key key (iv_part c) context inter
outer_by_parts key context c key' iv outer inter e f g h = rw (e, f, g) at h

-- a key that is deciphered has as many bytes as its ciphertext
pub length-deciphered : (key iv wrapped : List ℕ) → length wrapped ≡ 48 → length (deciphered key iv wrapped) ≡ 32
length-deciphered key iv wrapped size =
    length-streamed key iv (take 32 wrapped) ∙ length-take-le 32 wrapped (omega arith)

-- the parts, as they were made
pub raw_ciphertext_is : (key context data_key drawn key' inter iv outer inner : List ℕ) → key' ≡ key →
    inter ≡ intermediate_of drawn → iv ≡ iv_of drawn → outer ≡ wrapped_key key' iv context inter
    → inner ≡ inner_wrap inter context data_key
    → (iv ++ outer) ++ inner ≡ raw_ciphertext key context data_key drawn
unfolding raw_ciphertext
raw_ciphertext_is key context data_key drawn key' inter iv outer inner e f g o i = rw (o, i, e, f, g) refl

-- what wraps a data key unwraps to it
pub unwraps_raw_edk : (ring : RawRingParts) (context data_key drawn : List ℕ) → length data_key ≡ 32 →
    length drawn ≡ 44
    → Unwraps ring context (raw_edk ring context data_key drawn) data_key (signing_key (intermediate_of drawn))
unwraps_raw_edk ring context data_key drawn size drawn_size =
    record { drawn = drawn; drawn_size = drawn_size; size = size; wraps = refl; signs = refl }
