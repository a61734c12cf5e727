-- The two laws: what is read has this id and these bytes, and the value that has them is read.
use Rattle.std.proofs.Common.{◌≡◌, ℕ, zero, suc, ◌-◌, ◌<◌, Bool, true, false, ◌&&◌, cond, eqb, List, [], ◌∷◌, ◌++◌}
use Rattle.std.proofs.Common.{length, map, Option, Some, None, refl, sym, ap, subst, ◌∙◌, append-nil, arith}
use Rattle.std.specs.List.{AllByRecursion}
use Rattle.std.specs.Str.{IsUtf8, bytes_eq}
use Rattle.std.proofs.lemmas.Bool.{eqb-true}
use Rattle.std.proofs.lemmas.List.{nil_from_length}
use Rattle.std.proofs.lemmas.List.Elements.{All-from_get_or}
use Rattle.dbe_values.specs.Sets.{IsNumberText}
use Rattle.dbe_values.specs.Lawful.{IsLawful, AreBytes, entry_names}
use Rattle.dbe_values.specs.Val as v
use Rattle.dbe_values.specs.Val.{Val, Vals, Entries}
use Rattle.dbe_values.specs.View.{vals_of, entries_of}
use Rattle.dbe_canon.specs.declared.kind.Kind.{Kind}
use Rattle.dbe_canon.specs.declared.kind.Kind.TheVariants as kind
use Rattle.dbe_canon.specs.Canon.{count_bytes, type_id, canon_of, vals_bytes, entries_bytes, vals_count}
use Rattle.dbe_canon.specs.Canon.{entries_count, HasShortParts, IsCanon}
use Rattle.dbe_canon.specs.Reading.{◌>>=◌, kind_of, count_at, many_at, text_in, number_in, number_text_in, binary_in}
use Rattle.dbe_canon.specs.Reading.{set_in, null_in, kind_in, value_at, entry_at, whole_list, whole_map, list_of}
use Rattle.dbe_canon.specs.Reading.{map_of, value_in, list_in, map_in, is_increasing}
use Rattle.dbe_canon.proofs.Fields.{IsBytes, bind_some, test_true, some_is, count_takes, count_again}
use Rattle.dbe_canon.proofs.ReadLeaves.{same_bytes, text_read, text_again, number_read, number_again}
use Rattle.dbe_canon.proofs.ReadLeaves.{number_text_read, number_text_again, binary_read, binary_again}
use Rattle.dbe_canon.proofs.Orders.{both, rises, rises_again}
use Rattle.dbe_canon.proofs.Appending.{typed}
use Rattle.dbe_canon.proofs.Many.{spelled_all, many_taken, many_again_all}
use Rattle.dbe_canon.proofs.SetBytes.{set_read, set_again}
use Rattle.dbe_canon.proofs.ValueLaws.{kind_id, kind_is, HasSpelling, EntryHasSpelling, spelled_entry, value_taken}
use Rattle.dbe_canon.proofs.ValueLaws.{entry_taken, value_again, entry_again, vals_list, entries_list, vals_list_of}
use Rattle.dbe_canon.proofs.ValueLaws.{entries_list_of, vals_of_list, entries_of_list, vals_length, entries_length}
use Rattle.dbe_canon.proofs.ValueLaws.{vals_spelled, entries_spelled_are, names_listed, vals_have, entries_have}
use Rattle.dbe_canon.proofs.ValueLaws.{have_vals, have_entries}

module _ (left : ℕ) (read : List ℕ → List ℕ → Option Val) (sound : (id bytes : List ℕ) (x : Val) → IsBytes bytes →
    read id bytes ≡ Some x → IsCanon left x id bytes) where
  pub list_read : (bytes : List ℕ) (x : Val) → IsBytes bytes → list_of read bytes ≡ Some x →
      IsCanon (suc left) x (3 ∷ 0 ∷ []) bytes
  unfolding list_of canon_of
  list_read bytes x fits e =
      let a = bind_some (count_at bytes) (λ n. many_at (value_at read) n.0 n.1 >>= whole_list) x e in
      let b = bind_some (many_at (value_at read) a.0.0 a.0.1) whole_list x a.2 in
      let c = count_takes bytes a.0.0 a.0.1 fits a.1 in
      let r = many_taken typed (HasSpelling left) (value_at read) (value_taken left read sound) a.0.0 a.0.1 b.0.0
      b.0.1 c.takes.rest_fits b.1 in
      let t = test_true (eqb (length b.0.1) 0) (v.list (vals_of b.0.0)) x b.2 in
      let ended : b.0.1 ≡ [] = nil_from_length b.0.1 (eqb-true (length b.0.1) 0 t.0) in
      let xs : Vals = vals_of b.0.0 in
      let listed : vals_list xs ≡ b.0.0 = vals_list_of b.0.0 in
      let have = vals_have left xs (subst (λ (ys : List Val). AllByRecursion (HasSpelling left) ys) (sym listed)
      r.each) in
      let count : a.0.0 ≡ vals_count xs = sym r.count ∙ ap length (sym listed) ∙ vals_length xs in
      let rest : a.0.1 ≡ vals_bytes xs = r.takes.parts ∙ ap (λ (y : List ℕ). spelled_all typed b.0.0 ++ y) ended ∙
      append-nil (spelled_all typed b.0.0) ∙ ap (spelled_all typed) (sym listed) ∙ vals_spelled xs in
      let spelled : bytes ≡ count_bytes (vals_count xs) ++ vals_bytes xs = c.takes.parts ∙
      ap (λ (y : List ℕ). count_bytes a.0.0 ++ y) rest ∙ ap (λ n. count_bytes n ++ vals_bytes xs) count in
      let whole : IsCanon (suc left) (v.list xs) (3 ∷ 0 ∷ []) bytes = record {
        lawful = have.lawful;
        short = (omega (arith, c.short, count), have.short);
        same_id = refl;
        same_bytes = spelled;
      } in
      subst (λ (y : Val). IsCanon (suc left) y (3 ∷ 0 ∷ []) bytes) t.1 whole

  pub map_read : (bytes : List ℕ) (x : Val) → IsBytes bytes → map_of read bytes ≡ Some x →
      IsCanon (suc left) x (2 ∷ 0 ∷ []) bytes
  unfolding map_of canon_of
  map_read bytes x fits e =
      let a = bind_some (count_at bytes) (λ n. many_at (entry_at read) n.0 n.1 >>= whole_map) x e in
      let b = bind_some (many_at (entry_at read) a.0.0 a.0.1) whole_map x a.2 in
      let c = count_takes bytes a.0.0 a.0.1 fits a.1 in
      let r = many_taken spelled_entry (EntryHasSpelling left) (entry_at read) (entry_taken left read sound) a.0.0
      a.0.1 b.0.0 b.0.1 c.takes.rest_fits b.1 in
      let names : List (List ℕ) = map (λ (d : List ℕ × Val). d.0) b.0.0 in
      let t = test_true (eqb (length b.0.1) 0 && is_increasing names) (v.map (entries_of b.0.0)) x b.2 in
      let t0 = both (eqb (length b.0.1) 0) (is_increasing names) t.0 in
      let ended : b.0.1 ≡ [] = nil_from_length b.0.1 (eqb-true (length b.0.1) 0 t0.0) in
      let es : Entries = entries_of b.0.0 in
      let listed : entries_list es ≡ b.0.0 = entries_list_of b.0.0 in
      let have = entries_have left es (subst (λ (ys : List (List ℕ × Val)). AllByRecursion (EntryHasSpelling left) ys)
      (sym listed) r.each) in
      let count : a.0.0 ≡ entries_count es = sym r.count ∙ ap length (sym listed) ∙ entries_length es in
      let rest : a.0.1 ≡ entries_bytes es = r.takes.parts ∙ ap (λ (y : List ℕ). spelled_all spelled_entry b.0.0 ++ y)
      ended ∙ append-nil (spelled_all spelled_entry b.0.0) ∙ ap (spelled_all spelled_entry) (sym listed) ∙
      entries_spelled_are es in
      let spelled : bytes ≡ count_bytes (entries_count es) ++ entries_bytes es = c.takes.parts ∙
      ap (λ (y : List ℕ). count_bytes a.0.0 ++ y) rest ∙ ap (λ n. count_bytes n ++ entries_bytes es) count in
      let named : names ≡ entry_names es = ap (λ (ys : List (List ℕ × Val)). map (λ (d : List ℕ × Val). d.0) ys)
      (sym listed) ∙ names_listed es in
      let whole : IsCanon (suc left) (v.map es) (2 ∷ 0 ∷ []) bytes = record {
        lawful = (rises (entry_names es) (ap is_increasing (sym named) ∙ t0.1), have.lawful);
        short = (omega (arith, c.short, count), have.short);
        same_id = refl;
        same_bytes = spelled;
      } in
      subst (λ (y : Val). IsCanon (suc left) y (2 ∷ 0 ∷ []) bytes) t.1 whole

module _ (left : ℕ) (read : List ℕ → List ℕ → Option Val) (complete : (x : Val) → IsLawful left x → HasShortParts x →
    read (type_id x) (canon_of x) ≡ Some x) where
  pub list_again : (xs : Vals) → IsLawful (suc left) (v.list xs) → HasShortParts (v.list xs) →
      list_of read (canon_of (v.list xs)) ≡ Some (v.list xs)
  unfolding list_of canon_of
  list_again xs h k =
      let all : many_at (value_at read) (length (vals_list xs)) (spelled_all typed (vals_list xs)) ≡ Some
      (vals_list xs, []) = many_again_all typed (HasSpelling left) (value_at read)
      (value_again left read complete) (vals_list xs) (have_vals left xs h k.1) in
      let many : many_at (value_at read) (vals_count xs) (vals_bytes xs) ≡ Some (vals_list xs, []) =
      ap (λ n. many_at (value_at read) n (vals_bytes xs)) (sym (vals_length xs)) ∙
      ap (many_at (value_at read) (length (vals_list xs))) (sym (vals_spelled xs)) ∙ all in
      rw (count_again (vals_count xs) (vals_bytes xs) k.0, many, vals_of_list xs) refl

  pub map_again : (es : Entries) → IsLawful (suc left) (v.map es) → HasShortParts (v.map es) →
      map_of read (canon_of (v.map es)) ≡ Some (v.map es)
  unfolding map_of canon_of
  map_again es h k =
      let all : many_at (entry_at read) (length (entries_list es)) (spelled_all spelled_entry (entries_list es)) ≡
      Some (entries_list es, []) = many_again_all spelled_entry (EntryHasSpelling left) (entry_at read)
      (entry_again left read complete) (entries_list es) (have_entries left es h.1 k.1) in
      let many : many_at (entry_at read) (entries_count es) (entries_bytes es) ≡ Some (entries_list es, []) =
      ap (λ n. many_at (entry_at read) n (entries_bytes es)) (sym (entries_length es)) ∙
      ap (many_at (entry_at read) (length (entries_list es))) (sym (entries_spelled_are es)) ∙ all in
      let names : is_increasing (map (λ (d : List ℕ × Val). d.0) (entries_list es)) ≡ true =
      ap is_increasing (names_listed es) ∙ rises_again (entry_names es) h.0 in
      rw (count_again (entries_count es) (entries_bytes es) k.0, many, names, entries_of_list es) refl

-- ---- each type

-- the same under the id that names the type
under : (left : ℕ) (x y : Val) (k : Kind) (id bytes : List ℕ) → kind_of id ≡ Some k → kind_id k ≡ type_id y →
    IsLawful left y → HasShortParts y → bytes ≡ canon_of y → y ≡ x → IsCanon left x id bytes
under left x y k id bytes is typed lawful short spelled same =
    subst (λ (z : Val). IsCanon left z id bytes) same (record {
      lawful = lawful;
      short = short;
      same_id =
          kind_is id k is ∙ typed;
      same_bytes = spelled;
    })

moved : (left : ℕ) (x : Val) (k : Kind) (id bytes : List ℕ) → kind_of id ≡ Some k → IsCanon left x (kind_id k) bytes →
    IsCanon left x id bytes
moved left x k id bytes is h = subst (λ (i : List ℕ). IsCanon left x i bytes) (sym (kind_is id k is)) h

null_is : (bytes : List ℕ) (x : Val) → null_in bytes ≡ Some x → (bytes ≡ []) × (v.nothing ≡ x)
null_is bytes x e =
    let t = test_true (eqb (length bytes) 0) v.nothing x e in
    (nil_from_length bytes (eqb-true (length bytes) 0 t.0), t.1)

module _ (left : ℕ) (list mapped : List ℕ → Option Val) (list_sound : (bytes : List ℕ) (x : Val) → IsBytes bytes →
    list bytes ≡ Some x → IsCanon left x (3 ∷ 0 ∷ []) bytes) (map_sound : (bytes : List ℕ) (x : Val) → IsBytes bytes →
    mapped bytes ≡ Some x → IsCanon left x (2 ∷ 0 ∷ []) bytes) (id bytes : List ℕ) (x : Val) (fits : IsBytes bytes)
  where
    boolean_sound : (b c : Bool) → bytes_eq bytes (0 ∷ []) ≡ b → bytes_eq bytes (1 ∷ []) ≡ c →
        kind_of id ≡ Some kind.Bool → cond b (Some (v.boolean false)) (cond c (Some (v.boolean true)) None) ≡ Some x →
        IsCanon left x id bytes
    unfolding kind_id canon_of
    boolean_sound true c p q is e = under left x (v.boolean false) kind.Bool id bytes is refl tt tt
        (same_bytes bytes (0 ∷ []) p) (some_is (v.boolean false) x e)
    boolean_sound false true p q is e = under left x (v.boolean true) kind.Bool id bytes is refl tt tt
        (same_bytes bytes (1 ∷ []) q) (some_is (v.boolean true) x e)
    boolean_sound false false p q is e = absurd cc

    kind_sound : (k : Option Kind) → kind_of id ≡ k → kind_in k list mapped bytes ≡ Some x → IsCanon left x id bytes
    unfolding kind_id canon_of
    kind_sound None is e = absurd cc
    kind_sound (Some kind.Null) is e =
        let n = null_is bytes x e in
        under left x v.nothing kind.Null id bytes is refl tt tt n.0 n.1
    kind_sound (Some kind.S) is e =
        let b = bind_some (text_in bytes) (λ y. Some (v.text y)) x e in
        let r = text_read bytes b.0 fits b.1 in
        under left x (v.text b.0) kind.S id bytes is refl r.is tt r.same (some_is (v.text b.0) x b.2)
    kind_sound (Some kind.N) is e =
        let b = bind_some (number_in bytes) (λ y. Some (v.number y)) x e in
        let r = number_read bytes b.0 b.1 in
        under left x (v.number b.0) kind.N id bytes is refl r.normal tt r.written (some_is (v.number b.0) x b.2)
    kind_sound (Some kind.Bool) is e = boolean_sound (bytes_eq bytes (0 ∷ [])) (bytes_eq bytes (1 ∷ [])) refl refl is e
    kind_sound (Some kind.B) is e =
        under left x (v.binary bytes) kind.B id bytes is refl (All-from_get_or (λ b. b < 256) bytes 0 (λ i lt. fits i))
        tt refl (some_is (v.binary bytes) x e)
    kind_sound (Some kind.Ss) is e =
        let b = bind_some (set_in text_in bytes) (λ y. Some (v.texts y)) x e in
        let r = set_read IsUtf8 text_in text_read bytes b.0 fits b.1 in
        under left x (v.texts b.0) kind.Ss id bytes is refl r.lawful r.short r.spelled (some_is (v.texts b.0) x b.2)
    kind_sound (Some kind.Ns) is e =
        let b = bind_some (set_in number_text_in bytes) (λ y. Some (v.numbers y)) x e in
        let r = set_read IsNumberText number_text_in number_text_read bytes b.0 fits b.1 in
        under left x (v.numbers b.0) kind.Ns id bytes is refl r.lawful r.short r.spelled (some_is (v.numbers b.0) x b.2)
    kind_sound (Some kind.Bs) is e =
        let b = bind_some (set_in binary_in bytes) (λ y. Some (v.binaries y)) x e in
        let r = set_read AreBytes binary_in binary_read bytes b.0 fits b.1 in
        under left x (v.binaries b.0) kind.Bs id bytes is refl r.lawful r.short r.spelled (some_is (v.binaries b.0) x b.2)
    kind_sound (Some kind.M) is e = moved left x kind.M id bytes is (map_sound bytes x fits e)
    kind_sound (Some kind.L) is e = moved left x kind.L id bytes is (list_sound bytes x fits e)

module _ (left : ℕ) (list mapped : List ℕ → Option Val) (list_complete : (xs : Vals) → IsLawful left (v.list xs) →
    HasShortParts (v.list xs) → list (canon_of (v.list xs)) ≡ Some (v.list xs)) (map_complete : (es : Entries) →
    IsLawful left (v.map es) → HasShortParts (v.map es) → mapped (canon_of (v.map es)) ≡ Some (v.map es)) where
  kind_again : (x : Val) → IsLawful left x → HasShortParts x → kind_in (kind_of (type_id x)) list mapped (canon_of x)
      ≡ Some x
  unfolding canon_of
  kind_again v.nothing h k = refl
  kind_again (v.text y) h k = rw (text_again y h) refl
  kind_again (v.number y) h k = rw (number_again y h) refl
  kind_again (v.boolean true) h k = refl
  kind_again (v.boolean false) h k = refl
  kind_again (v.binary y) h k = refl
  kind_again (v.texts ys) h k = rw (set_again IsUtf8 text_in text_again ys h k) refl
  kind_again (v.numbers ys) h k = rw (set_again IsNumberText number_text_in number_text_again ys h k) refl
  kind_again (v.binaries ys) h k = rw (set_again AreBytes binary_in binary_again ys h k) refl
  kind_again (v.map es) h k = map_complete es h k
  kind_again (v.list xs) h k = list_complete xs h k

-- ---- the laws

pub read_sound : (left : ℕ) (id bytes : List ℕ) (x : Val) → IsBytes bytes → value_in left id bytes ≡ Some x →
    IsCanon left x id bytes
unfolding value_in
read_sound zero id bytes x fits e = kind_sound zero (λ _. None) (λ _. None) (λ b y f h. absurd cc)
    (λ b y f h. absurd cc) id bytes x fits (kind_of id) refl e
read_sound (suc left) id bytes x fits e =
    kind_sound (suc left) (list_of (λ i b. value_in left i b)) (map_of (λ i b. value_in left i b))
    (list_read left (λ i b. value_in left i b) (λ i b y f h. read_sound left i b y f h))
    (map_read left (λ i b. value_in left i b) (λ i b y f h. read_sound left i b y f h)) id bytes x fits
    (kind_of id) refl e

pub read_complete : (left : ℕ) (x : Val) → IsLawful left x → HasShortParts x →
    value_in left (type_id x) (canon_of x) ≡ Some x
unfolding value_in
read_complete zero x h k = kind_again zero (λ _. None) (λ _. None) (λ xs h k. absurd h) (λ es h k. absurd h) x h k
read_complete (suc left) x h k =
    kind_again (suc left) (list_of (λ i b. value_in left i b)) (map_of (λ i b. value_in left i b))
    (list_again left (λ i b. value_in left i b) (λ y p q. read_complete left y p q))
    (map_again left (λ i b. value_in left i b) (λ y p q. read_complete left y p q)) x h k

pub canon_is_read : (left : ℕ) (x : Val) (id bytes : List ℕ) → IsCanon left x id bytes → value_in left id bytes ≡ Some x
canon_is_read left x id bytes h =
    ap (λ i. value_in left i bytes) h.same_id ∙ ap (value_in left (type_id x)) h.same_bytes ∙
    read_complete left x h.lawful h.short

pub one_value_each : (left : ℕ) (x y : Val) (id bytes : List ℕ) → IsCanon left x id bytes → IsCanon left y id bytes →
    x ≡ y
one_value_each left x y id bytes h k = some_is x y (sym (canon_is_read left x id bytes h) ∙
    canon_is_read left y id bytes k)

pub not_read : (left : ℕ) (id bytes : List ℕ) → value_in left id bytes ≡ None → (x : Val) → IsCanon left x id bytes → ⊥
not_read left id bytes none x h = differ x (sym none ∙ canon_is_read left x id bytes h)
  where
    differ : (y : Val) → None ≡ Some y → ⊥
    differ y e = absurd cc

-- ---- what the calls meet

pub value_in_is : (left : ℕ) (id bytes : List ℕ) → value_in left id bytes ≡ kind_in (kind_of id) (list_in left)
    (map_in left) bytes
unfolding value_in list_in map_in
value_in_is zero id bytes = refl
value_in_is (suc left) id bytes = refl

pub list_in_some : (left : ℕ) (bytes : List ℕ) → 0 < left → list_of (value_in (left - 1)) bytes ≡ list_in left bytes
unfolding list_in
list_in_some zero bytes h = absurd (omega arith)
list_in_some (suc left) bytes h = (let same : suc left - 1 ≡ left = omega arith in
    ap (λ n. list_of (value_in n) bytes) same)

pub map_in_some : (left : ℕ) (bytes : List ℕ) → 0 < left → map_of (value_in (left - 1)) bytes ≡ map_in left bytes
unfolding map_in
map_in_some zero bytes h = absurd (omega arith)
map_in_some (suc left) bytes h = (let same : suc left - 1 ≡ left = omega arith in
    ap (λ n. map_of (value_in n) bytes) same)

pub list_in_none : (left : ℕ) (bytes : List ℕ) → left ≡ 0 → list_in left bytes ≡ None
unfolding list_in
list_in_none zero bytes h = refl
list_in_none (suc left) bytes h = absurd (omega arith)

pub map_in_none : (left : ℕ) (bytes : List ℕ) → left ≡ 0 → map_in left bytes ≡ None
unfolding map_in
map_in_none zero bytes h = refl
map_in_none (suc left) bytes h = absurd (omega arith)
