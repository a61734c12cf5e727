-- Parts of a sealed row.
use Rattle.std.proofs.Common.{◌≡◌, ℕ, zero, suc, ◌+◌, ◌<◌, Bool, true, false, List, [], ◌∷◌, ◌++◌, ◌||◌, length}
use Rattle.std.proofs.Common.{take, drop, map, get_or, bytes_eq, refl, sym, ap, ◌∙◌, append-nil, append_assoc, arith}
use Rattle.std.specs.List.{list_any}
use Rattle.std.proofs.lemmas.List.{take_more, drop_more, map-append}
use Rattle.std.proofs.lemmas.List.Sums.{position_or_len_is}
use Rattle.sha2.specs.Sha512.{sha384}
use Rattle.dbe_kdf.specs.Hmac.{hmac}
use Rattle.dbe_rawring.specs.Ring.{RawRingParts, raw_edk, intermediate_of}
use Rattle.dbe_rawring.specs.Wrap.{signing_key}
use Rattle.dbe_frame.specs.Format.{joined}
use Rattle.dbe_frame.specs.Header.{HeaderParts, body_fields, header_prefix, header_text}
use Rattle.dbe_frame.proofs.Written.{joined-append}
use Rattle.dbe_item.specs.Names.{number_of}
use Rattle.dbe_item.specs.Sealed.{Wrap}
use Rattle.dbe_item.specs.Sealing.{ring_wraps, committed}

-- ---- numbers

pub or_first : (a b : Bool) → (a || b) ≡ false → a ≡ false
or_first false b e = refl
or_first true b e = absurd cc

or_second : (a b : Bool) → (a || b) ≡ false → b ≡ false
or_second false b e = e
or_second true b e = absurd cc

none_passes : (p : List ℕ → Bool) (xs : List (List ℕ)) (k : ℕ) → k < length xs → list_any p xs ≡ false →
    p (get_or xs k []) ≡ false
none_passes p [] k lt e = absurd (omega arith)
none_passes p (x ∷ xs) zero lt e = or_first (p x) (list_any p xs) e
none_passes p (x ∷ xs) (suc k) lt e = none_passes p xs k (omega arith) (or_second (p x) (list_any p xs) e)

-- a name that is none of the names has their number
pub no_number : (xs : List (List ℕ)) (x : List ℕ) → list_any (bytes_eq x) xs ≡ false → length xs ≡ number_of x xs
no_number xs x e = sym (position_or_len_is (bytes_eq x) xs (length xs) [] (omega arith)
    (λ k lt. none_passes (bytes_eq x) xs k lt e) (λ lt. absurd (omega arith)))

-- ---- tags

pub tags_more : (f : List ℕ → List ℕ) (keys : List (List ℕ)) (i : ℕ) (d old new : List ℕ) → i < length keys →
    old ≡ joined (map f (take i keys)) → new ≡ old ++ f (get_or keys i d) → new ≡ joined (map f (take (i + 1) keys))
tags_more f keys i d old new lt so_far pushed =
    let key : List ℕ = get_or keys i d in
    pushed ∙ ap (λ (t : List ℕ). t ++ f key) so_far
    ∙ ap (λ (t : List ℕ). joined (map f (take i keys)) ++ t) (sym (append-nil (f key)))
    ∙ sym (joined-append (map f (take i keys)) (f key ∷ []))
    ∙ ap joined (sym (map-append f (take i keys) (key ∷ [])))
    ∙ ap (λ (ks : List (List ℕ)). joined (map f ks)) (sym (take_more keys i d lt))

-- ---- the header

text_split : (h : HeaderParts) → header_text h ≡ header_prefix h ++ h.commitment
unfolding header_text header_prefix
text_split h = joined-append (body_fields h) (h.commitment ∷ []) ∙
    ap (λ (t : List ℕ). joined (body_fields h) ++ t) (append-nil h.commitment)

pub committed_is : (h : HeaderParts) (commit before cut seen made out : List ℕ) → before ≡ header_prefix h →
    ((other : List ℕ) → header_prefix (committed h other) ≡ header_prefix h) → cut ≡ before → seen ≡ cut →
    made ≡ take 32 (hmac sha384 commit seen) → out ≡ cut ++ made →
    out ≡ header_text (committed h (take 32 (hmac sha384 commit (header_prefix h))))
committed_is h commit before cut seen made out prefix apart is_cut is_seen is_made is_out =
    let cut_is : cut ≡ header_prefix h = is_cut ∙ prefix in
    let made_is : made ≡ take 32 (hmac sha384 commit (header_prefix h)) = is_made ∙
    ap (λ (t : List ℕ). take 32 (hmac sha384 commit t)) (is_seen ∙ cut_is) in
    is_out ∙ ap (λ (t : List ℕ). t ++ made) cut_is ∙ ap (λ (t : List ℕ). header_prefix h ++ t) made_is
    ∙ ap (λ (t : List ℕ). t ++ take 32 (hmac sha384 commit (header_prefix h))) (sym (apart (take 32
    (hmac sha384 commit (header_prefix h)))))
    ∙ sym (text_split (committed h (take 32 (hmac sha384 commit (header_prefix h)))))

-- ---- encrypted data keys

abbrev pub first_wrap : RawRingParts → List ℕ → List ℕ → List ℕ → Wrap
first_wrap ring context data_key drawn = record {
  edk = raw_edk ring context data_key drawn;
  signing = signing_key (intermediate_of drawn);
}

pub wraps_more : {A : Type 0} (f : Wrap → A) (rings : List RawRingParts) (i : ℕ) (ring : RawRingParts) →
    (context data_key rest left : List ℕ) (xs new all : List A) → i < length rings → ring ≡ get_or rings i ring →
    left ≡ drop 44 rest → xs ++ map f (ring_wraps (drop i rings) context data_key rest) ≡ all →
    new ≡ xs ++ f (first_wrap ring context data_key (take 44 rest)) ∷ [] →
    new ++ map f (ring_wraps (drop (i + 1) rings) context data_key left) ≡ all
wraps_more {A} f rings i ring context data_key rest left xs new all lt is is_left so_far pushed =
    let here : drop i rings ≡ ring ∷ drop (i + 1) rings = drop_more rings i ring lt ∙
    ap (λ (r : RawRingParts). r ∷ drop (i + 1) rings) (sym is) in
    let others : List A = map f (ring_wraps (drop (i + 1) rings) context data_key (drop 44 rest)) in
    let y : A = f (first_wrap ring context data_key (take 44 rest)) in
    ap (λ (l : List ℕ). new ++ map f (ring_wraps (drop (i + 1) rings) context data_key l)) is_left
    ∙ ap (λ (n : List A). n ++ others) pushed ∙ append_assoc xs (y ∷ []) others
    ∙ ap (λ (rs : List RawRingParts). xs ++ map f (ring_wraps rs context data_key rest)) (sym here) ∙ so_far
