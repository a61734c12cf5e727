-- Values of an id and bytes: what is read was spelled so, and what is spelled so is read.
use Rattle.std.proofs.Common.{◌≡◌, ℕ, Bool, true, false, cond, List, [], ◌∷◌, ◌++◌, length, map, Option, Some, None}
use Rattle.std.proofs.Common.{refl, ap, subst, ◌∙◌, append_assoc, arith}
use Rattle.std.specs.List.{AllByRecursion}
use Rattle.std.specs.Str.{IsUtf8, bytes_eq}
use Rattle.dbe_values.specs.Lawful.{IsLawful, AreLawful, AreLawfulEntries, entry_names}
use Rattle.dbe_values.specs.Val as v
use Rattle.dbe_values.specs.Val.{Val, Vals, Entries}
use Rattle.dbe_values.specs.View.{vals_of, entries_of}
use Rattle.dbe_canon.specs.declared.kind.Kind.{Kind}
use Rattle.dbe_canon.specs.declared.kind.Kind.TheVariants as kind
use Rattle.dbe_canon.specs.Canon.{long_string, type_id, canon_of, vals_bytes, entries_bytes, vals_count}
use Rattle.dbe_canon.specs.Canon.{entries_count, IsShort, HasShortParts, HaveShortParts, EntriesHaveShortParts}
use Rattle.dbe_canon.specs.Canon.{IsCanon}
use Rattle.dbe_canon.specs.Reading.{◌>>=◌, kind_of, bytes_at, string_at, element_at, text_in, value_at, entry_at}
use Rattle.dbe_canon.proofs.Appending.{typed, named}
use Rattle.dbe_canon.proofs.Lengths.{id_length}
use Rattle.dbe_canon.proofs.Fields.{IsBytes, bind_some, some_is, Takes, Takes-then, bytes_takes, bytes_again}
use Rattle.dbe_canon.proofs.Fields.{string_takes, string_again}
use Rattle.dbe_canon.proofs.ReadLeaves.{same_bytes, text_read, text_again}
use Rattle.dbe_canon.proofs.Many.{spelled_all, IsTaken}
use Rattle.dbe_canon.proofs.SetBytes.{element_taken, element_again}

-- ---- ids

unfoldable pub kind_id : Kind → List ℕ
kind_id kind.Null = 0 ∷ 0 ∷ []
kind_id kind.S = 0 ∷ 1 ∷ []
kind_id kind.N = 0 ∷ 2 ∷ []
kind_id kind.Bool = 0 ∷ 4 ∷ []
kind_id kind.B = 255 ∷ 255 ∷ []
kind_id kind.Ss = 1 ∷ 1 ∷ []
kind_id kind.Ns = 1 ∷ 2 ∷ []
kind_id kind.Bs = 1 ∷ 255 ∷ []
kind_id kind.M = 2 ∷ 0 ∷ []
kind_id kind.L = 3 ∷ 0 ∷ []

either_kind : (b : Bool) (j k : Kind) (rest : Option Kind) (id t : List ℕ) → bytes_eq id t ≡ b → t ≡ kind_id j →
    (rest ≡ Some k → id ≡ kind_id k) → cond b (Some j) rest ≡ Some k → id ≡ kind_id k
either_kind true j k rest id t is spelled others e = same_bytes id t is ∙ spelled ∙ ap kind_id (some_is j k e)
either_kind false j k rest id t is spelled others e = others e

tested : (j k : Kind) (rest : Option Kind) (id t : List ℕ) → t ≡ kind_id j → (rest ≡ Some k → id ≡ kind_id k) →
    cond (bytes_eq id t) (Some j) rest ≡ Some k → id ≡ kind_id k
tested j k rest id t spelled others e = either_kind (bytes_eq id t) j k rest id t refl spelled others e

pub kind_is : (id : List ℕ) (k : Kind) → kind_of id ≡ Some k → id ≡ kind_id k
unfolding kind_id
kind_is id k e =
    tested kind.Null k _ id (0 ∷ 0 ∷ []) refl (
    tested kind.S k _ id (0 ∷ 1 ∷ []) refl (
    tested kind.N k _ id (0 ∷ 2 ∷ []) refl (
    tested kind.Bool k _ id (0 ∷ 4 ∷ []) refl (
    tested kind.B k _ id (255 ∷ 255 ∷ []) refl (
    tested kind.Ss k _ id (1 ∷ 1 ∷ []) refl (
    tested kind.Ns k _ id (1 ∷ 2 ∷ []) refl (
    tested kind.Bs k _ id (1 ∷ 255 ∷ []) refl (
    tested kind.M k _ id (2 ∷ 0 ∷ []) refl (
    tested kind.L k None id (3 ∷ 0 ∷ []) refl (λ none. absurd cc)))))))))) e

-- ---- values at the front

-- what has a spelling, at so many levels
pub record HasSpelling (left : ℕ) (x : Val) : Type 0 where
  pub lawful : IsLawful left x
  pub parts : HasShortParts x
  pub whole : IsShort (canon_of x)

pub record EntryHasSpelling (left : ℕ) (e : List ℕ × Val) : Type 0 where
  pub text : IsUtf8 e.0
  pub short : IsShort e.0
  pub value : HasSpelling left e.1

abbrev pub spelled_entry : List ℕ × Val → List ℕ
spelled_entry e = named e.0 e.1

module _ (left : ℕ) (read : List ℕ → List ℕ → Option Val) (sound : (id bytes : List ℕ) (x : Val) → IsBytes bytes →
    read id bytes ≡ Some x → IsCanon left x id bytes) where
  pub value_taken : (bytes : List ℕ) (x : Val) (rest : List ℕ) → IsBytes bytes → value_at read bytes ≡ Some (
    x,
    rest,
  ) → IsTaken typed (HasSpelling left) bytes x rest
  unfolding value_at
  value_taken bytes x rest fits e =
      let a = bind_some (bytes_at 2 bytes) (λ id. string_at id.1 >>= λ s. read id.0 s.0 >>= λ y. Some (y, s.1)) (
        x,
        rest,
      ) e in
      let b = bind_some (string_at a.0.1) (λ s. read a.0.0 s.0 >>= λ y. Some (y, s.1)) (x, rest) a.2 in
      let c = bind_some (read a.0.0 b.0.0) (λ y. Some (y, b.0.1)) (x, rest) b.2 in
      let i = bytes_takes 2 bytes a.0.0 a.0.1 fits a.1 in
      let s = string_takes a.0.1 b.0.0 b.0.1 i.takes.rest_fits b.1 in
      let r = sound a.0.0 b.0.0 c.0 s.fits c.1 in
      let both_taken = Takes-then bytes a.0.0 a.0.1 (long_string b.0.0) b.0.1 i.takes s.takes in
      let spelled : a.0.0 ++ long_string b.0.0 ≡ typed c.0 = ap (λ (y : List ℕ). y ++ long_string b.0.0) r.same_id ∙
      ap (λ (y : List ℕ). type_id c.0 ++ long_string y) r.same_bytes in
      let whole : IsTaken typed (HasSpelling left) bytes c.0 b.0.1 = record {
        takes = subst (λ (y : List ℕ). Takes bytes y b.0.1) spelled both_taken;
        good = record {
          lawful = r.lawful;
          parts = r.short;
          whole =
              subst (λ (y : List ℕ). IsShort y) r.same_bytes s.short;
        };
      } in
      subst (λ (p : Val × List ℕ). IsTaken typed (HasSpelling left) bytes p.0 p.1) (some_is (c.0, b.0.1) (
        x,
        rest,
      ) c.2) whole

  pub entry_taken : (bytes : List ℕ) (x : List ℕ × Val) (rest : List ℕ) → IsBytes bytes →
      entry_at read bytes ≡ Some (x, rest) → IsTaken spelled_entry (EntryHasSpelling left) bytes x rest
  unfolding entry_at
  entry_taken bytes x rest fits e =
      let a = bind_some (element_at text_in bytes) (λ name. value_at read name.1 >>= λ y. Some ((name.0, y.0), y.1))
      (x, rest) e in
      let b = bind_some (value_at read a.0.1) (λ y. Some ((a.0.0, y.0), y.1)) (x, rest) a.2 in
      let n = element_taken IsUtf8 text_in text_read bytes a.0.0 a.0.1 fits a.1 in
      let y = value_taken a.0.1 b.0.0 b.0.1 n.takes.rest_fits b.1 in
      let whole : IsTaken spelled_entry (EntryHasSpelling left) bytes (a.0.0, b.0.0) b.0.1 = record {
        takes = Takes-then bytes (long_string a.0.0) a.0.1 (typed b.0.0) b.0.1 n.takes y.takes;
        good = record { text = n.good.0; short = n.good.1; value = y.good };
      } in
      subst (λ (p : (List ℕ × Val) × List ℕ). IsTaken spelled_entry (EntryHasSpelling left) bytes p.0 p.1)
      (some_is ((a.0.0, b.0.0), b.0.1) (x, rest) b.2) whole

module _ (left : ℕ) (read : List ℕ → List ℕ → Option Val) (complete : (x : Val) → IsLawful left x → HasShortParts x →
    read (type_id x) (canon_of x) ≡ Some x) where
  pub value_again : (x : Val) (rest : List ℕ) → HasSpelling left x → value_at read (typed x ++ rest) ≡ Some (x, rest)
  unfolding value_at
  value_again x rest h =
      let regrouped : typed x ++ rest ≡ type_id x ++ (long_string (canon_of x) ++ rest) =
      append_assoc (type_id x) (long_string (canon_of x)) rest in
      rw (
        regrouped,
        bytes_again 2 (type_id x) (long_string (canon_of x) ++ rest) (id_length x),
        string_again (canon_of x) rest h.whole,
        complete x h.lawful h.parts,
      ) refl

  pub entry_again : (x : List ℕ × Val) (rest : List ℕ) → EntryHasSpelling left x →
      entry_at read (spelled_entry x ++ rest) ≡ Some (x, rest)
  unfolding entry_at
  entry_again x rest h =
      let regrouped : spelled_entry x ++ rest ≡ long_string x.0 ++ (typed x.1 ++ rest) =
      append_assoc (long_string x.0) (typed x.1) rest in
      rw (
        regrouped,
        element_again IsUtf8 text_in text_again x.0 (typed x.1 ++ rest) (h.text, h.short),
        value_again x.1 rest h.value,
      ) refl

-- ---- lists and maps

abbrev pub vals_list : Vals → List Val
vals_list v.no_vals = []
vals_list (v.val x xs) = x ∷ vals_list xs

abbrev pub entries_list : Entries → List (List ℕ × Val)
entries_list v.no_entries = []
entries_list (v.entry name x es) = (name, x) ∷ entries_list es

pub vals_list_of : (xs : List Val) → vals_list (vals_of xs) ≡ xs
vals_list_of [] = refl
vals_list_of (x ∷ xs) = ap (λ (ys : List Val). x ∷ ys) (vals_list_of xs)

pub entries_list_of : (es : List (List ℕ × Val)) → entries_list (entries_of es) ≡ es
entries_list_of [] = refl
entries_list_of (e ∷ es) = ap (λ (ys : List (List ℕ × Val)). e ∷ ys) (entries_list_of es)

pub vals_of_list : (xs : Vals) → vals_of (vals_list xs) ≡ xs
vals_of_list v.no_vals = refl
vals_of_list (v.val x xs) = ap (v.val x) (vals_of_list xs)

pub entries_of_list : (es : Entries) → entries_of (entries_list es) ≡ es
entries_of_list v.no_entries = refl
entries_of_list (v.entry name x es) = ap (v.entry name x) (entries_of_list es)

pub vals_length : (xs : Vals) → length (vals_list xs) ≡ vals_count xs
vals_length v.no_vals = refl
vals_length (v.val x xs) = omega (arith, vals_length xs)

pub entries_length : (es : Entries) → length (entries_list es) ≡ entries_count es
entries_length v.no_entries = refl
entries_length (v.entry name x es) = omega (arith, entries_length es)

pub vals_spelled : (xs : Vals) → spelled_all typed (vals_list xs) ≡ vals_bytes xs
unfolding vals_bytes
vals_spelled v.no_vals = refl
vals_spelled (v.val x xs) = append_assoc (type_id x) (long_string (canon_of x)) (spelled_all typed (vals_list xs)) ∙
    ap (λ (y : List ℕ). type_id x ++ (long_string (canon_of x) ++ y)) (vals_spelled xs)

pub entries_spelled_are : (es : Entries) → spelled_all spelled_entry (entries_list es) ≡ entries_bytes es
unfolding entries_bytes
entries_spelled_are v.no_entries = refl
entries_spelled_are (v.entry name x es) =
    append_assoc (long_string name) (typed x) (spelled_all spelled_entry (entries_list es)) ∙
    ap (λ (y : List ℕ). long_string name ++ y) (append_assoc (type_id x) (long_string (canon_of x))
    (spelled_all spelled_entry (entries_list es)) ∙
    ap (λ (y : List ℕ). type_id x ++ (long_string (canon_of x) ++ y)) (entries_spelled_are es))

pub names_listed : (es : Entries) → map (λ (e : List ℕ × Val). e.0) (entries_list es) ≡ entry_names es
names_listed v.no_entries = refl
names_listed (v.entry name x es) = ap (λ (ys : List (List ℕ)). name ∷ ys) (names_listed es)

-- what has a spelling, value by value
pub record AreSpelled (left : ℕ) (xs : Vals) : Type 0 where
  pub lawful : AreLawful left xs
  pub short : HaveShortParts xs

pub record EntriesAreSpelled (left : ℕ) (es : Entries) : Type 0 where
  pub lawful : AreLawfulEntries left es
  pub short : EntriesHaveShortParts es

pub vals_have : (left : ℕ) (xs : Vals) → AllByRecursion (HasSpelling left) (vals_list xs) → AreSpelled left xs
vals_have left v.no_vals h = record { lawful = tt; short = tt }
vals_have left (v.val x xs) h =
    let others = vals_have left xs h.1 in
    record { lawful = (h.0.lawful, others.lawful); short = (h.0.whole, h.0.parts, others.short) }

pub entries_have : (left : ℕ) (es : Entries) → AllByRecursion (EntryHasSpelling left) (entries_list es) →
    EntriesAreSpelled left es
entries_have left v.no_entries h = record { lawful = tt; short = tt }
entries_have left (v.entry name x es) h =
    let others = entries_have left es h.1 in
    record {
      lawful = (h.0.text, h.0.value.lawful, others.lawful);
      short = (
        h.0.short,
        h.0.value.whole,
        h.0.value.parts,
        others.short,
      );
    }

pub have_vals : (left : ℕ) (xs : Vals) → AreLawful left xs → HaveShortParts xs →
    AllByRecursion (HasSpelling left) (vals_list xs)
have_vals left v.no_vals h k = tt
have_vals left (v.val x xs) h k = (record { lawful = h.0; parts = k.1; whole = k.0 }, have_vals left xs h.1 k.2)

pub have_entries : (left : ℕ) (es : Entries) → AreLawfulEntries left es → EntriesHaveShortParts es →
    AllByRecursion (EntryHasSpelling left) (entries_list es)
have_entries left v.no_entries h k = tt
have_entries left (v.entry name x es) h k = (
  record { text = h.0; short = k.0; value = record { lawful = h.1; parts = k.2; whole = k.1 } },
  have_entries left es h.2 k.3,
)
