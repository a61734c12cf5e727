-- The bytes of a set.
use Rattle.std.proofs.Common.{◌≡◌, ℕ, true, ◌&&◌, ltb, eqb, List, [], ◌∷◌, ◌++◌, length, Option, Some, refl, sym, ap}
use Rattle.std.proofs.Common.{subst, ◌∙◌, append-nil, arith}
use Rattle.std.specs.List.{AllByRecursion}
use Rattle.std.proofs.lemmas.Bool.{eqb-true}
use Rattle.std.proofs.lemmas.Bool.Decides.{Decides-ltb}
use Rattle.std.proofs.lemmas.List.{nil_from_length}
use Rattle.std.proofs.lemmas.List.Elements.{All-from_recursion, recursion_from_All}
use Rattle.dbe_values.specs.Sets.{IsSetOf}
use Rattle.dbe_canon.specs.Canon.{count_bytes, long_string, long_strings, IsShort, IsShortSet}
use Rattle.dbe_canon.specs.Reading.{◌>>=◌, string_at, count_at, many_at, element_at, whole_set, set_in, is_increasing}
use Rattle.dbe_canon.proofs.Fields.{IsBytes, bind_some, test_true, some_is, Takes, string_takes, string_again}
use Rattle.dbe_canon.proofs.Fields.{count_takes, count_again}
use Rattle.dbe_canon.proofs.ReadLeaves.{IsRead}
use Rattle.dbe_canon.proofs.Orders.{both, rises, rises_again}
use Rattle.dbe_canon.proofs.Many.{spelled_all, IsTaken, many_taken, many_again_all}

-- an element that has a spelling
abbrev pub IsElement : (List ℕ → Type 0) → List ℕ → Type 0
IsElement P x = P x × IsShort x

pub strings_are : (xs : List (List ℕ)) → spelled_all long_string xs ≡ long_strings xs
strings_are [] = refl
strings_are (x ∷ xs) = ap (λ (y : List ℕ). long_string x ++ y) (strings_are xs)

pub all_left : (P Q : List ℕ → Type 0) (xs : List (List ℕ)) → AllByRecursion (λ x. P x × Q x) xs → AllByRecursion P xs
all_left P Q [] h = tt
all_left P Q (x ∷ xs) h = (h.0.0, all_left P Q xs h.1)

pub all_right : (P Q : List ℕ → Type 0) (xs : List (List ℕ)) → AllByRecursion (λ x. P x × Q x) xs → AllByRecursion Q xs
all_right P Q [] h = tt
all_right P Q (x ∷ xs) h = (h.0.1, all_right P Q xs h.1)

pub all_both : (P Q : List ℕ → Type 0) (xs : List (List ℕ)) → AllByRecursion P xs → AllByRecursion Q xs →
    AllByRecursion (λ x. P x × Q x) xs
all_both P Q [] h k = tt
all_both P Q (x ∷ xs) h k = ((h.0, k.0), all_both P Q xs h.1 k.1)

pub record IsSetRead (P : List ℕ → Type 0) (bytes : List ℕ) (xs : List (List ℕ)) : Type 0 where
  pub lawful : IsSetOf P xs
  pub short : IsShortSet xs
  pub spelled : bytes ≡ count_bytes (length xs) ++ long_strings xs

module _ (P : List ℕ → Type 0) (element : List ℕ → Option (List ℕ)) (sound : (bytes x : List ℕ) → IsBytes bytes →
    element bytes ≡ Some x → IsRead P bytes x) where
  pub element_taken : (bytes x rest : List ℕ) → IsBytes bytes → element_at element bytes ≡ Some (x, rest) →
      IsTaken long_string (λ y. P y × IsShort y) bytes x rest
  unfolding element_at
  element_taken bytes x rest fits e =
      let a = bind_some (string_at bytes) (λ s. element s.0 >>= λ y. Some (y, s.1)) (x, rest) e in
      let b = bind_some (element a.0.0) (λ y. Some (y, a.0.1)) (x, rest) a.2 in
      let s = string_takes bytes a.0.0 a.0.1 fits a.1 in
      let r = sound a.0.0 b.0 s.fits b.1 in
      let whole : IsTaken long_string (λ y. P y × IsShort y) bytes b.0 a.0.1 = record {
        takes = subst (λ (y : List ℕ). Takes bytes (long_string y) a.0.1) r.same s.takes;
        good = (r.is, subst (λ (y : List ℕ). IsShort y) r.same s.short);
      } in
      subst (λ (p : List ℕ × List ℕ). IsTaken long_string (λ y. P y × IsShort y) bytes p.0 p.1) (some_is (
        b.0,
        a.0.1,
      ) (x, rest) b.2) whole

  pub set_read : (bytes : List ℕ) (xs : List (List ℕ)) → IsBytes bytes → set_in element bytes ≡ Some xs →
      IsSetRead P bytes xs
  unfolding set_in
  set_read bytes xs fits e =
      let a = bind_some (count_at bytes) (λ n. many_at (element_at element) n.0 n.1 >>= whole_set) xs e in
      let b = bind_some (many_at (element_at element) a.0.0 a.0.1) whole_set xs a.2 in
      let c = count_takes bytes a.0.0 a.0.1 fits a.1 in
      let r = many_taken long_string (λ y. P y × IsShort y) (element_at element) element_taken a.0.0 a.0.1 b.0.0 b.0.1
      c.takes.rest_fits b.1 in
      let t = test_true (eqb (length b.0.1) 0 && (ltb 0 (length b.0.0) && is_increasing b.0.0)) b.0.0 xs b.2 in
      let t0 = both (eqb (length b.0.1) 0) (ltb 0 (length b.0.0) && is_increasing b.0.0) t.0 in
      let t1 = both (ltb 0 (length b.0.0)) (is_increasing b.0.0) t0.1 in
      let ended : b.0.1 ≡ [] = nil_from_length b.0.1 (eqb-true (length b.0.1) 0 t0.0) in
      let spelled : bytes ≡ count_bytes (length b.0.0) ++ long_strings b.0.0 =
      c.takes.parts ∙ ap (λ (y : List ℕ). count_bytes a.0.0 ++ y) (r.takes.parts ∙
      ap (λ (y : List ℕ). spelled_all long_string b.0.0 ++ y) ended ∙ append-nil (spelled_all long_string b.0.0) ∙
      strings_are b.0.0) ∙ ap (λ n. count_bytes n ++ long_strings b.0.0) (sym r.count) in
      let whole : IsSetRead P bytes b.0.0 = record {
        lawful = record {
          set = record {
            some = (Decides-ltb 0 (length b.0.0)).0 t1.0;
            increasing =
                rises b.0.0 t1.1;
          };
          each = All-from_recursion P b.0.0 (all_left P IsShort b.0.0 r.each);
        };
        short = (omega (arith, c.short, r.count), all_right P IsShort b.0.0 r.each);
        spelled = spelled;
      } in
      subst (λ (ys : List (List ℕ)). IsSetRead P bytes ys) t.1 whole

module _ (P : List ℕ → Type 0) (element : List ℕ → Option (List ℕ)) (complete : (x : List ℕ) → P x →
    element x ≡ Some x) where
  pub element_again : (x rest : List ℕ) → P x × IsShort x → element_at element (long_string x ++ rest) ≡ Some (x, rest)
  unfolding element_at
  element_again x rest h = rw (string_again x rest h.1, complete x h.0) refl

  pub set_again : (xs : List (List ℕ)) → IsSetOf P xs → IsShortSet xs →
      set_in element (count_bytes (length xs) ++ long_strings xs) ≡ Some xs
  unfolding set_in
  set_again xs h short =
      let some : ltb 0 (length xs) ≡ true = (Decides-ltb 0 (length xs)).1 h.set.some in
      let read : many_at (element_at element) (length xs) (long_strings xs) ≡ Some (xs, []) =
      ap (many_at (element_at element) (length xs)) (sym (strings_are xs)) ∙
      many_again_all long_string (λ y. P y × IsShort y) (element_at element) element_again xs
      (all_both P IsShort xs (recursion_from_All P xs h.each) short.1) in
      rw (count_again (length xs) (long_strings xs) short.0, read, some, rises_again xs h.set.increasing) refl
