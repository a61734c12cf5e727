-- Reading the front of bytes by a format: its fields, and what they mean.
use Rattle.std.proofs.Common.{◌≡◌, ℕ, ◌≤◌, Bool, true, false, cond, ltb, List, [], ◌∷◌, ◌++◌, length, take, drop}
use Rattle.std.proofs.Common.{Result, Ok, Err, refl, sym, ap, subst, ◌∙◌, append_assoc, arith}
use Rattle.std.proofs.lemmas.Bool.{ltb-false, le-ltb}
use Rattle.std.proofs.lemmas.List.{take_at, drop_at, take-append-drop, length-append, length-take}
use Rattle.dbe_frame.specs.Format.{Format, ends, field, joined, Spells}
use Rattle.dbe_frame.specs.Reading.{◌>>=◌}
use Rattle.dbe_frame.proofs.Follow.{followed}

-- what is read, where a field is not too short and passes its test
abbrev pub tested : {B : Type 0} → Bool → Bool → ℕ → Result B ℕ → Result B ℕ
tested short passes left read = cond short (Err left) (cond passes read (Err left))

unfoldable pub read_front : {A : Type 0} → Format A → List ℕ → Result (A × List ℕ) ℕ
read_front (ends x) bytes = Ok (x, bytes)
read_front (field n test next) bytes = tested (ltb (length bytes) n) (test (take n bytes)) (length bytes)
    (read_front (next (take n bytes)) (drop n bytes))

tested-bind : {A B : Type 0} (short passes : Bool) (left : ℕ) (r : Result A ℕ) (f : A → Result B ℕ) →
    tested short passes left (r >>= f) ≡ (tested short passes left r >>= f)
tested-bind true passes left r f = refl
tested-bind false true left r f = refl
tested-bind false false left r f = refl

pub tested_ok : {A : Type 0} (short passes : Bool) (left : ℕ) (r : Result A ℕ) (y : A) →
    tested short passes left r ≡ Ok y → (short ≡ false) × (passes ≡ true) × (r ≡ Ok y)
tested_ok true passes left r y e = absurd cc
tested_ok false true left r y e = (refl, refl, e)
tested_ok false false left r y e = absurd cc

pub read_front-bind : {A B : Type 0} (m : Format A) (f : A → Format B) (bytes : List ℕ) →
    read_front (followed m f) bytes ≡ (read_front m bytes >>= λ x. read_front (f x.0) x.1)
unfolding read_front
read_front-bind (ends x) f bytes = refl
read_front-bind {A} {B} (field n test next) f bytes =
    ap (λ (r : Result (B × List ℕ) ℕ). tested (ltb (length bytes) n) (test (take n bytes)) (length bytes) r)
    (read_front-bind (next (take n bytes)) f (drop n bytes))
    ∙ tested-bind (ltb (length bytes) n) (test (take n bytes)) (length bytes) (read_front (next (take n bytes))
    (drop n bytes)) (λ x. read_front (f x.0) x.1)

same_then : {A B : Type 0} (r : Result A ℕ) (f g : A → Result B ℕ) → ((x : A) → f x ≡ g x) → (r >>= f) ≡ (r >>= g)
same_then (Ok x) f g same = same x
same_then (Err left) f g same = refl

-- two steps of reading, where each is that of a format
pub chain : {A B : Type 0} (m : Format A) (f : A → Format B) (bytes : List ℕ) (r : Result (A × List ℕ) ℕ) (g : A ×
    List ℕ → Result (B × List ℕ) ℕ)
    → r ≡ read_front m bytes → ((x : A × List ℕ) → g x ≡ read_front (f x.0) x.1) →
    (r >>= g) ≡ read_front (followed m f) bytes
chain {A} {B} m f bytes r g first others =
    ap (λ (s : Result (A × List ℕ) ℕ). s >>= g) first ∙ same_then (read_front m bytes) g (λ x. read_front (f x.0) x.1)
    others ∙ sym (read_front-bind m f bytes)

abbrev done : {A : Type 0} → A → Result A ℕ
done x = Ok x

pub ok_is : {A : Type 0} (x y : A) → done x ≡ done y → x ≡ y
ok_is x y e = cc

-- the fields that were read, and the bytes behind them
pub record IsRead {A : Type 0} (m : Format A) (bytes : List ℕ) (x : A) (rest : List ℕ) : Type 0 where
  pub fields : List (List ℕ)
  pub spells : Spells m fields x
  pub parts : bytes ≡ joined fields ++ rest

pub front_spells : {A : Type 0} (m : Format A) (bytes : List ℕ) (x : A) (rest : List ℕ) → read_front m bytes ≡ Ok (
  x,
  rest,
) → IsRead m bytes x rest
unfolding read_front
front_spells {A} (ends y) bytes x rest e =
    let p = ok_is (y, bytes) (x, rest) e in
    record { fields = []; spells = sym (ap (λ (q : A × List ℕ). q.0) p); parts = ap (λ (q : A × List ℕ). q.1) p }
front_spells {A} (field n test next) bytes x rest e =
    let t = tested_ok (ltb (length bytes) n) (test (take n bytes)) (length bytes) (read_front (next (take n bytes))
    (drop n bytes)) (x, rest) e in
    let r = front_spells (next (take n bytes)) (drop n bytes) x rest t.2 in
    let long : n ≤ length bytes = ltb-false _ _ t.0 in
    let size : length (take n bytes) ≡ n = omega (arith, length-take n bytes) in
    record {
      fields = take n bytes ∷ r.fields;
      spells = (size, t.1, r.spells);
      parts = sym (take-append-drop n bytes) ∙ ap (λ (s : List ℕ). take n bytes ++ s) r.parts ∙
          sym (append_assoc (take n bytes) (joined r.fields) rest);
    }

-- a field at the front that keeps its rule is read
pub read_front-field : {A : Type 0} (n : ℕ) (test : List ℕ → Bool) (next : List ℕ → Format A) (first others : List ℕ)
    → length first ≡ n → test first ≡ true
    → read_front (field n test next) (first ++ others) ≡ read_front (next first) others
unfolding read_front
read_front-field n test next first others size passes =
    let long : ltb (length (first ++ others)) n ≡ false = le-ltb _ _ (omega (arith, length-append first others)) in
    rw (long, take_at first others n size, drop_at first others n size, passes) refl

pub spells_front : {A : Type 0} (m : Format A) (fields : List (List ℕ)) (x : A) (rest : List ℕ) → Spells m fields x →
    read_front m (joined fields ++ rest) ≡ Ok (x, rest)
unfolding read_front
spells_front {A} (ends y) [] x rest s = ap (λ (z : A). Ok (z, rest)) (sym s)
spells_front (ends y) (b ∷ fields) x rest s = absurd s
spells_front (field n test next) [] x rest s = absurd s
spells_front {A} (field n test next) (b ∷ fields) x rest s =
    ap (λ (bytes : List ℕ). read_front (field n test next) bytes) (append_assoc b (joined fields) rest)
    ∙ read_front-field n test next b (joined fields ++ rest) s.0 s.1
    ∙ spells_front (next b) fields x rest s.2

-- the fields of two formats, one behind the other
pub Spells-then : {A B : Type 0} (m : Format A) (f : A → Format B) (fields others : List (List ℕ)) (x : A) (y : B) →
    Spells m fields x → Spells (f x) others y → Spells (followed m f) (fields ++ others) y
Spells-then {A} (ends z) f [] others x y s t = subst (λ (w : A). Spells (f w) others y) s t
Spells-then (ends z) f (b ∷ fields) others x y s t = absurd s
Spells-then (field n test next) f [] others x y s t = absurd s
Spells-then (field n test next) f (b ∷ fields) others x y s t =
    (s.0, s.1, Spells-then (next b) f fields others x y s.2 t)

pub record IsSplit {A B : Type 0} (m : Format A) (f : A → Format B) (fields : List (List ℕ)) (y : B) : Type 0 where
  pub front : List (List ℕ)
  pub back : List (List ℕ)
  pub meaning : A
  pub parts : fields ≡ front ++ back
  pub first : Spells m front meaning
  pub second : Spells (f meaning) back y

pub Spells-split : {A B : Type 0} (m : Format A) (f : A → Format B) (fields : List (List ℕ)) (y : B) →
    Spells (followed m f) fields y → IsSplit m f fields y
Spells-split (ends z) f fields y s = record {
  front = [];
  back = fields;
  meaning = z;
  parts = refl;
  first = refl;
  second = s;
}
Spells-split (field n test next) f [] y s = absurd s
Spells-split (field n test next) f (b ∷ fields) y s =
    let r = Spells-split (next b) f fields y s.2 in
    record {
      front = b ∷ r.front;
      back = r.back;
      meaning = r.meaning;
      parts =
          ap (λ (t : List (List ℕ)). b ∷ t) r.parts;
      first = (s.0, s.1, r.first);
      second = r.second;
    }
