-- Where reading stops, the longest front of fields ends.
use Rattle.std.proofs.Common.{◌≡◌, ℕ, ◌+◌, ◌-◌, ◌≤◌, Bool, true, false, ltb, List, [], ◌∷◌, ◌++◌, length, take, drop}
use Rattle.std.proofs.Common.{Result, Ok, Err, refl, sym, ap, ◌∙◌, append_assoc, arith}
use Rattle.std.proofs.lemmas.Bool.{ltb-false}
use Rattle.std.proofs.lemmas.List.{take-append-drop, length-append, length-take, length-drop}
use Rattle.dbe_frame.specs.Format.{Format, ends, field, joined, AreFirstFields, Begins, LongestPrefix}
use Rattle.dbe_frame.proofs.Formats.{tested, read_front, read_front-field}

-- how many bytes reading leaves
abbrev pub left_of : {A : Type 0} → Result (A × List ℕ) ℕ → ℕ
left_of (Ok x) = length x.1
left_of (Err left) = left

abbrev pub left_by : {A : Type 0} → Format A → List ℕ → ℕ
left_by m bytes = left_of (read_front m bytes)

-- a front of fields as long as what was read
pub record ReadsFront {A : Type 0} (m : Format A) (bytes : List ℕ) (left : ℕ) : Type 0 where
  pub fields : List (List ℕ)
  pub are_first : AreFirstFields m fields
  pub begins : Begins (joined fields) bytes
  pub size : length (joined fields) + left ≡ length bytes

nothing_read : {A : Type 0} (m : Format A) (bytes : List ℕ) → ReadsFront m bytes (length bytes)
nothing_read m bytes = record { fields = []; are_first = tt; begins = (bytes, refl); size = omega arith }

more_read : {A : Type 0} (n : ℕ) (test : List ℕ → Bool) (next : List ℕ → Format A) (bytes : List ℕ) (left : ℕ) →
    n ≤ length bytes → test (take n bytes) ≡ true
    → ReadsFront (next (take n bytes)) (drop n bytes) left → ReadsFront (field n test next) bytes left
more_read n test next bytes left long passes r =
    let size : length (take n bytes) ≡ n = omega (arith, length-take n bytes) in
    record {
      fields = take n bytes ∷ r.fields;
      are_first = (size, passes, r.are_first);
      begins = (
        r.begins.0,
        sym (take-append-drop n bytes) ∙ ap (λ (s : List ℕ). take n bytes ++ s) r.begins.1 ∙
            sym (append_assoc (take n bytes) (joined r.fields) r.begins.0),
      );
      size = omega (arith, r.size, size, length-append (take n bytes) (joined r.fields), length-drop n bytes);
    }

reads_field : {A : Type 0} (n : ℕ) (test : List ℕ → Bool) (next : List ℕ → Format A) (bytes : List ℕ)
    (read : Result (A × List ℕ) ℕ) (short passes : Bool)
    → ltb (length bytes) n ≡ short → test (take n bytes) ≡ passes
    → ReadsFront (next (take n bytes)) (drop n bytes) (left_of read) →
    ReadsFront (field n test next) bytes (left_of (tested short passes (length bytes) read))
reads_field n test next bytes read true passes s p r = nothing_read (field n test next) bytes
reads_field n test next bytes read false true s p r = more_read n test next bytes (left_of read) (ltb-false _ _ s) p r
reads_field n test next bytes read false false s p r = nothing_read (field n test next) bytes

pub reads_front : {A : Type 0} (m : Format A) (bytes : List ℕ) → ReadsFront m bytes (left_by m bytes)
unfolding read_front
reads_front (ends x) bytes = nothing_read (ends x) bytes
reads_front (field n test next) bytes =
    reads_field n test next bytes (read_front (next (take n bytes)) (drop n bytes)) (ltb (length bytes) n)
    (test (take n bytes)) refl refl (reads_front (next (take n bytes)) (drop n bytes))

-- no front is longer
pub front_bound : {A : Type 0} (m : Format A) (bytes : List ℕ) (others : List (List ℕ)) → AreFirstFields m others →
    Begins (joined others) bytes → length (joined others) + left_by m bytes ≤ length bytes
front_bound m bytes [] f b = omega (arith, (reads_front m bytes).size)
front_bound (ends x) bytes (first ∷ others) f b = absurd f
front_bound {A} (field n test next) bytes (first ∷ others) f b =
    let behind : List ℕ = joined others ++ b.0 in
    let parts : bytes ≡ first ++ behind = b.1 ∙ append_assoc first (joined others) b.0 in
    let inner = front_bound (next first) behind others f.2 (b.0, refl) in
    let same : read_front (field n test next) bytes ≡ read_front (next first) behind =
    ap (λ (s : List ℕ). read_front (field n test next) s) parts ∙
    read_front-field n test next first behind f.0 f.1 in
    let left : left_by (field n test next) bytes ≡ left_by (next first) behind =
    ap (λ (r : Result (A × List ℕ) ℕ). left_of r) same in
    let size : length bytes ≡ length first + length behind = ap length parts ∙ length-append first behind in
    let whole : length (first ++ joined others) ≡ length first + length (joined others) =
    length-append first (joined others) in
    omega (arith, inner, left, size, whole)

pub longest_prefix : {A : Type 0} (m : Format A) (bytes : List ℕ) →
    LongestPrefix m bytes (length bytes - left_by m bytes)
longest_prefix m bytes =
    let r = reads_front m bytes in
    record {
      fields = r.fields;
      are_first = r.are_first;
      begins = r.begins;
      has_size = omega (arith, r.size);
      longest = λ others f b. omega (arith, front_bound m bytes others f b);
    }
