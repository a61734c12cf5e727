-- Texts, numbers and the elements of sets.
use Rattle.std.proofs.Common.{◌≡◌, ℕ, ◌<◌, Bool, true, false, cond, List, Some, None, Result, Ok, Err, refl, sym, ap}
use Rattle.std.proofs.Common.{subst, ◌∙◌}
use Rattle.std.specs.Str.{IsUtf8, is_utf8, bytes_eq}
use Rattle.std.proofs.lemmas.Str.{is_utf8-from_IsUtf8, IsUtf8-from_is_utf8, IsUtf8-from_ascii}
use Rattle.std.proofs.lemmas.Slice.Eq.{bytes_eq-Decides}
use Rattle.std.proofs.lemmas.List.Elements.{All-from_get_or}
use Rattle.dbe_num.specs.Decimal.{Decimal, IsNormal}
use Rattle.dbe_num.specs.NormalText.{normal_text}
use Rattle.dbe_num.specs.Reading.{number_of}
use Rattle.dbe_num.specs.declared.number_fault.NumberFault.{NumberFault}
use Rattle.dbe_num.proofs.Again.{read_again}
use Rattle.dbe_num.proofs.Read.{read_is_normal}
use Rattle.dbe_num.proofs.Lengths.{normal_text_ascii}
use Rattle.dbe_values.specs.Sets.{IsNumberText}
use Rattle.dbe_values.specs.Lawful.{AreBytes}
use Rattle.dbe_canon.specs.Reading.{normal_of, number_in, text_in, number_text_in, binary_in}
use Rattle.dbe_canon.proofs.Fields.{IsBytes, bind_some, test_true, some_is}

pub same_bytes : (a b : List ℕ) → bytes_eq a b ≡ true → a ≡ b
same_bytes a b e = (bytes_eq-Decides a b).0 e

pub bytes_same : (a : List ℕ) → bytes_eq a a ≡ true
bytes_same a = (bytes_eq-Decides a a).1 refl

-- what an element that was read is
pub record IsRead (P : List ℕ → Type 0) (bytes x : List ℕ) : Type 0 where
  pub same : bytes ≡ x
  pub is : P x

pub text_read : (bytes x : List ℕ) → IsBytes bytes → text_in bytes ≡ Some x → IsRead IsUtf8 bytes x
unfolding text_in
text_read bytes x fits e =
    let t = test_true (is_utf8 bytes) bytes x e in
    record { same = t.1; is = subst (λ (y : List ℕ). IsUtf8 y) t.1 (IsUtf8-from_is_utf8 bytes t.0) }

pub text_again : (x : List ℕ) → IsUtf8 x → text_in x ≡ Some x
unfolding text_in
text_again x h = rw (is_utf8-from_IsUtf8 x h) refl

pub binary_read : (bytes x : List ℕ) → IsBytes bytes → binary_in bytes ≡ Some x → IsRead AreBytes bytes x
binary_read bytes x fits e =
    let same = some_is bytes x e in
    record {
      same = same;
      is = subst (λ (y : List ℕ). AreBytes y) same (All-from_get_or (λ b. b < 256) bytes 0
          (λ i lt. fits i));
    }

pub binary_again : (x : List ℕ) → AreBytes x → binary_in x ≡ Some x
binary_again x h = refl

-- a number by its normal text
pub record IsNumberRead (text : List ℕ) (d : Decimal) : Type 0 where
  pub normal : IsNormal d
  pub written : text ≡ normal_text d

number_of_read : (text : List ℕ) (r : Result Decimal NumberFault) (d : Decimal) → number_of text ≡ r →
    normal_of text r ≡ Some d → IsNumberRead text d
number_of_read text (Ok c) d is e =
    let t = test_true (bytes_eq (normal_text c) text) c d e in
    subst (λ (x : Decimal). IsNumberRead text x) t.1 (record {
      normal = read_is_normal text c is;
      written =
          sym (same_bytes (normal_text c) text t.0);
    })
number_of_read text (Err f) d is e = absurd cc

pub number_read : (text : List ℕ) (d : Decimal) → number_in text ≡ Some d → IsNumberRead text d
unfolding number_in
number_read text d e = at_test (is_utf8 text) e
  where
    at_test : (b : Bool) → cond b (normal_of text (number_of text)) None ≡ Some d → IsNumberRead text d
    at_test true e = number_of_read text (number_of text) d refl e
    at_test false e = absurd cc

pub number_again : (d : Decimal) → IsNormal d → number_in (normal_text d) ≡ Some d
unfolding number_in
number_again d h =
    let text : is_utf8 (normal_text d) ≡ true =
    is_utf8-from_IsUtf8 (normal_text d) (IsUtf8-from_ascii (normal_text d) (normal_text_ascii d h.few)) in
    rw (text, read_again d h, bytes_same (normal_text d)) refl

pub number_text_found : (bytes x : List ℕ) → number_text_in bytes ≡ Some x → IsRead IsNumberText bytes x
unfolding number_text_in
number_text_found bytes x e =
    let b = bind_some (number_in bytes) (λ d. Some bytes) x e in
    let n = number_read bytes b.0 b.1 in
    let same = some_is bytes x b.2 in
    record {
      same = same;
      is = subst (λ (y : List ℕ). IsNumberText y) same (record {
        number = b.0;
        normal = n.normal;
        written = n.written;
      });
    }

pub number_text_read : (bytes x : List ℕ) → IsBytes bytes → number_text_in bytes ≡ Some x → IsRead IsNumberText bytes x
number_text_read bytes x fits e = number_text_found bytes x e

pub number_text_again : (x : List ℕ) → IsNumberText x → number_text_in x ≡ Some x
unfolding number_text_in
number_text_again x h =
    let read : number_in x ≡ Some h.number = ap number_in h.written ∙ number_again h.number h.normal in
    rw read refl

-- ---- what the calls meet

not_utf8 : (bytes : List ℕ) (b : Bool) → is_utf8 bytes ≡ b → (IsUtf8 bytes → ⊥) → b ≡ false
not_utf8 bytes true e h = absurd (h (IsUtf8-from_is_utf8 bytes e))
not_utf8 bytes false e h = refl

pub text_none : (bytes : List ℕ) → (IsUtf8 bytes → ⊥) → text_in bytes ≡ None
unfolding text_in
text_none bytes h = rw (not_utf8 bytes (is_utf8 bytes) refl h) refl

pub text_some : (bytes text x : List ℕ) → IsUtf8 bytes → text ≡ bytes → x ≡ text → text_in bytes ≡ Some x
text_some bytes text x h e f = text_again bytes h ∙ ap (λ (y : List ℕ). Some y) (sym (f ∙ e))

pub number_none : (bytes : List ℕ) → (IsUtf8 bytes → ⊥) → number_in bytes ≡ None
unfolding number_in
number_none bytes h = rw (not_utf8 bytes (is_utf8 bytes) refl h) refl

pub number_some : (bytes text written : List ℕ) (d : Decimal) → IsUtf8 bytes → text ≡ bytes → Ok d ≡ number_of text →
    written ≡ normal_text d → bytes_eq written bytes ≡ true → number_in bytes ≡ Some d
unfolding number_in
number_some bytes text written d h e read f same =
    let utf8 : is_utf8 bytes ≡ true = is_utf8-from_IsUtf8 bytes h in
    let number : number_of bytes ≡ Ok d = ap number_of (sym e) ∙ sym read in
    let tested : bytes_eq (normal_text d) bytes ≡ true = ap (λ (y : List ℕ). bytes_eq y bytes) (sym f) ∙ same in
    rw (utf8, number, tested) refl

pub number_text_some : (bytes text : List ℕ) (d : Decimal) → number_in bytes ≡ Some d → text ≡ normal_text d →
    number_text_in bytes ≡ Some text
unfolding number_text_in
number_text_some bytes text d read e =
    let same : bytes ≡ text = (number_read bytes d read).written ∙ sym e in
    rw read (ap (λ (y : List ℕ). Some y) same)
