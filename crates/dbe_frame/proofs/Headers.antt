-- Headers as they are read and as they are written.
use Rattle.std.proofs.Common.{◌≡◌, ℕ, ◌-◌, ◌≤◌, ◌<◌, Bool, true, false, cond, eqb, List, [], ◌∷◌, ◌++◌, length, map}
use Rattle.std.proofs.Common.{get_or, None, Result, Ok, Err, refl, sym, ap, subst, ◌∙◌, append_assoc, append-nil}
use Rattle.std.proofs.Common.{arith}
use Rattle.std.specs.List.{AllByRecursion, flat_map}
use Rattle.std.proofs.lemmas.Bool.{eqb-true}
use Rattle.std.proofs.lemmas.List.{nil_from_length}
use Rattle.std.proofs.lemmas.List.Concat.{flat_map-cons}
use Rattle.std.proofs.lemmas.List.Elements.{All-from_recursion, recursion_from_All, All-from_get_or}
use Rattle.dbe_values.specs.Lawful.{AreBytes}
use Rattle.dbe_rawring.specs.Edk.{EdkParts, IsEdk}
use Rattle.dbe_frame.specs.Format.{Format, ends, joined, Spells, LongestPrefix, any_bytes, byte_that, number, many}
use Rattle.dbe_frame.specs.Header.{HeaderParts, is_version, is_flavour, is_legend_byte, is_edk_count, edk}
use Rattle.dbe_frame.specs.Header.{pairs_after, legend_format, context_format, edks_format, header, IsLegend}
use Rattle.dbe_frame.specs.Header.{IsShortPair, ArePairs, AreEdks, HasParts, short_number, pair_fields, edk_fields}
use Rattle.dbe_frame.specs.Header.{fields_of, header_text, IsHeader}
use Rattle.dbe_frame.specs.Reading.{◌>>=◌, byte_at, many_at, pairs_at, edk_at, header_at, all_of}
use Rattle.dbe_frame.proofs.Follow.{followed}
use Rattle.dbe_frame.proofs.Formats.{read_front, IsRead, front_spells, spells_front, Spells-then, Spells-split, ok_is}
use Rattle.dbe_frame.proofs.Prefixes.{left_of, left_by, reads_front, longest_prefix}
use Rattle.dbe_frame.proofs.Ties.{byte_at-front, many_at-front, pairs_at-front, edk_at-front, header_at-front}
use Rattle.dbe_frame.proofs.Spelled.{Fits, Fits-front, EachFits, EachFits-front, EachFits-back, each_fits, ends_one}
use Rattle.dbe_frame.proofs.Spelled.{bytes_one, byte_one, number_one, edk_one, many_one, pairs_one, Rises}
use Rattle.dbe_frame.proofs.Spelled.{rises_sorted, sorted_rises, number_again, pairs_again, edk_again, many_again}

abbrev pub IsBytes : List ℕ → Type 0
IsBytes bytes = (i : ℕ) → get_or bytes i 0 < 256

fits_from : (bytes : List ℕ) → IsBytes bytes → Fits bytes
fits_from bytes h = recursion_from_All (λ b. b < 256) bytes (All-from_get_or (λ b. b < 256) bytes 0 (λ i lt. h i))

-- the fields that were read are of bytes
read_fits : {A : Type 0} (m : Format A) (bytes : List ℕ) (x : A) (rest : List ℕ) → IsBytes bytes →
    (r : IsRead m bytes x rest) → EachFits r.fields
read_fits m bytes x rest h r =
    each_fits r.fields (Fits-front (joined r.fields) rest (subst Fits r.parts (fits_from bytes h)))

-- ---- legends

legend_single : (version : ℕ) (fields : List (List ℕ)) (b : ℕ) → Spells (byte_that (is_legend_byte version)) fields b
    → EachFits fields → (fields ≡ (b ∷ []) ∷ []) × (is_legend_byte version b ≡ true)
legend_single version fields b s h = byte_one (is_legend_byte version) fields b s

singles : (xs : List ℕ) → flat_map (λ (b : ℕ). (b ∷ []) ∷ []) xs ≡ map (λ (b : ℕ). b ∷ []) xs
singles [] = refl
singles (x ∷ xs) = flat_map-cons (λ (b : ℕ). (b ∷ []) ∷ []) x xs ∙ ap (λ (f : List (List ℕ)). (x ∷ []) ∷ f) (singles xs)

legend_many : (version n : ℕ) (fields : List (List ℕ)) (xs : List ℕ) →
    Spells (many n (byte_that (is_legend_byte version))) fields xs → EachFits fields →
    (fields ≡ map (λ b. b ∷ []) xs) × (length xs ≡ n) × AllByRecursion (λ b. is_legend_byte version b ≡ true) xs
legend_many version n fields xs s h =
    let r = many_one (byte_that (is_legend_byte version)) (λ b. (b ∷ []) ∷ []) (λ b. is_legend_byte version b ≡ true)
    (legend_single version) n fields xs s h in
    (r.0 ∙ singles xs, r.1, r.2)

legend_rule : (version n : ℕ) (xs : List ℕ) → length xs ≡ n → n ≤ 65535 →
    AllByRecursion (λ b. is_legend_byte version b ≡ true) xs → IsLegend version xs
legend_rule version n xs size le each = record {
  short = omega (arith, size, le);
  each =
      All-from_recursion (λ b. is_legend_byte version b ≡ true) xs each;
}

pub legend_found : (version count : ℕ) (bytes xs rest : List ℕ) → IsBytes bytes →
    many_at (byte_at (is_legend_byte version)) count bytes ≡ Ok (xs, rest) → count ≤ 65535 → IsLegend version xs
legend_found version count bytes xs rest h e le =
    let one = byte_that (is_legend_byte version) in
    let r = front_spells (many count one) bytes xs rest (sym (many_at-front (byte_at (is_legend_byte version)) one
    (byte_at-front (is_legend_byte version)) count bytes) ∙ e) in
    let l = legend_many version count r.fields xs r.spells (read_fits (many count one) bytes xs rest h r) in
    legend_rule version count xs l.1 le l.2

-- ---- pairs

pub pairs_rule : (n : ℕ) (xs : List (List ℕ × List ℕ)) → length xs ≡ n → n ≤ 65535 → AllByRecursion IsShortPair xs →
    Rises None xs → ArePairs xs
pairs_rule n xs size le each rises = record {
  few = omega (arith, size, le);
  short =
      All-from_recursion IsShortPair xs each;
  sorted = rises_sorted None xs rises;
}

pub pairs_found : (count : ℕ) (bytes : List ℕ) (xs : List (List ℕ × List ℕ)) (rest : List ℕ) → IsBytes bytes →
    pairs_at None count bytes ≡ Ok (xs, rest) → count ≤ 65535 → ArePairs xs
pairs_found count bytes xs rest h e le =
    let r = front_spells (pairs_after None count) bytes xs rest (sym (pairs_at-front None count bytes) ∙ e) in
    let l = pairs_one None count r.fields xs r.spells (read_fits (pairs_after None count) bytes xs rest h r) in
    pairs_rule count xs l.1 le l.2 l.3

-- ---- data keys

-- a context may be empty
pub no_pairs : ArePairs []
no_pairs = pairs_rule 0 [] refl (omega arith) tt tt

edks_rule : (n : ℕ) (xs : List EdkParts) → length xs ≡ n → 1 ≤ n → n ≤ 8 → AllByRecursion IsEdk xs → AreEdks xs
edks_rule n xs size some few each = record {
  some = omega (arith, size, some);
  few = omega (arith, size, few);
  each =
      All-from_recursion IsEdk xs each;
}

pub edks_found : (count : ℕ) (bytes : List ℕ) (xs : List EdkParts) (rest : List ℕ) → IsBytes bytes →
    many_at edk_at count bytes ≡ Ok (xs, rest) → 1 ≤ count → count ≤ 8 → AreEdks xs
edks_found count bytes xs rest h e some few =
    let r = front_spells (many count edk) bytes xs rest (sym (many_at-front edk_at edk edk_at-front count bytes) ∙ e) in
    let l = many_one edk edk_fields IsEdk edk_one count r.fields xs r.spells (read_fits (many count edk) bytes xs rest
    h r) in
    edks_rule count xs l.1 some few l.2

edk_count_rule : (n : ℕ) → is_edk_count n ≡ true → (1 ≤ n) × (n ≤ 8)
edk_count_rule n e = (grind arith, grind arith)

-- ---- the three parts with a count

legend_one : (version : ℕ) (fields : List (List ℕ)) (xs : List ℕ) → Spells (legend_format version) fields xs →
    EachFits fields → (fields ≡ short_number (length xs) ∷ map (λ b. b ∷ []) xs) × IsLegend version xs
legend_one version fields xs s h =
    let r = Spells-split number (λ n. many n (byte_that (is_legend_byte version))) fields xs s in
    let fits = subst EachFits r.parts h in
    let n = number_one r.front r.meaning r.first (EachFits-front r.front r.back fits) in
    let l = legend_many version r.meaning r.back xs r.second (EachFits-back r.front r.back fits) in
    let front : r.front ≡ short_number (length xs) ∷ [] = n.0 ∙ ap (λ (k : ℕ). short_number k ∷ []) (sym l.1) in (
      r.parts ∙ ap (λ (f : List (List ℕ)). f ++ r.back) front ∙
          ap (λ (g : List (List ℕ)). short_number (length xs) ∷ g) l.0,
      legend_rule version r.meaning xs l.1 n.1 l.2,
    )

context_one : (fields : List (List ℕ)) (xs : List (List ℕ × List ℕ)) → Spells context_format fields xs →
    EachFits fields → (fields ≡ short_number (length xs) ∷ flat_map pair_fields xs) × ArePairs xs
context_one fields xs s h =
    let r = Spells-split number (λ n. pairs_after None n) fields xs s in
    let fits = subst EachFits r.parts h in
    let n = number_one r.front r.meaning r.first (EachFits-front r.front r.back fits) in
    let l = pairs_one None r.meaning r.back xs r.second (EachFits-back r.front r.back fits) in
    let front : r.front ≡ short_number (length xs) ∷ [] = n.0 ∙ ap (λ (k : ℕ). short_number k ∷ []) (sym l.1) in (
      r.parts ∙ ap (λ (f : List (List ℕ)). f ++ r.back) front ∙
          ap (λ (g : List (List ℕ)). short_number (length xs) ∷ g) l.0,
      pairs_rule r.meaning xs l.1 n.1 l.2 l.3,
    )

edks_one : (fields : List (List ℕ)) (xs : List EdkParts) → Spells edks_format fields xs → EachFits fields →
    (fields ≡ (length xs ∷ []) ∷ flat_map edk_fields xs) × AreEdks xs
edks_one fields xs s h =
    let r = Spells-split (byte_that is_edk_count) (λ n. many n edk) fields xs s in
    let fits = subst EachFits r.parts h in
    let n = byte_one is_edk_count r.front r.meaning r.first in
    let c = edk_count_rule r.meaning n.1 in
    let l = many_one edk edk_fields IsEdk edk_one r.meaning r.back xs r.second (EachFits-back r.front r.back fits) in
    let front : r.front ≡ (length xs ∷ []) ∷ [] = n.0 ∙ ap (λ (k : ℕ). (k ∷ []) ∷ []) (sym l.1) in (
      r.parts ∙ ap (λ (f : List (List ℕ)). f ++ r.back) front ∙ ap (λ (g : List (List ℕ)). (length xs ∷ []) ∷ g) l.0,
      edks_rule r.meaning xs l.1 c.0 c.1 l.2,
    )

legend_again : (version : ℕ) (xs : List ℕ) → IsLegend version xs →
    Spells (legend_format version) (short_number (length xs) ∷ map (λ b. b ∷ []) xs) xs
legend_again version xs h =
    let each = recursion_from_All (λ b. is_legend_byte version b ≡ true) xs h.each in
    let m = many_again (byte_that (is_legend_byte version)) (λ b. (b ∷ []) ∷ []) (λ b. is_legend_byte version b ≡
    true) (λ b is. (refl, is, refl)) xs each in
    let n = subst (λ (f : List (List ℕ)). Spells (many (length xs) (byte_that (is_legend_byte version))) f xs)
    (singles xs) m in
    Spells-then number (λ n. many n (byte_that (is_legend_byte version))) (short_number (length xs) ∷ [])
    (map (λ b. b ∷ []) xs) (length xs) xs (number_again (length xs) h.short) n

context_again : (xs : List (List ℕ × List ℕ)) → ArePairs xs →
    Spells context_format (short_number (length xs) ∷ flat_map pair_fields xs) xs
context_again xs h =
    Spells-then number (λ n. pairs_after None n) (short_number (length xs) ∷ []) (flat_map pair_fields xs) (length xs)
    xs (number_again (length xs) h.few)
    (pairs_again None xs (recursion_from_All IsShortPair xs h.short) (sorted_rises xs h.sorted))

edk_count_again : (n : ℕ) → 1 ≤ n → n ≤ 8 → is_edk_count n ≡ true
edk_count_again n some few = grind arith

edks_again : (xs : List EdkParts) → AreEdks xs → Spells edks_format ((length xs ∷ []) ∷ flat_map edk_fields xs) xs
edks_again xs h =
    Spells-then (byte_that is_edk_count) (λ n. many n edk) ((length xs ∷ []) ∷ []) (flat_map edk_fields xs)
    (length xs) xs (refl, edk_count_again (length xs) h.some h.few, refl)
    (many_again edk edk_fields IsEdk edk_again xs (recursion_from_All IsEdk xs h.each))

-- ---- the whole header

abbrev made : List ℕ → List ℕ → List (List ℕ × List ℕ) → List EdkParts → List ℕ → HeaderParts
made id legend context edks commitment = record {
  message_id = id;
  legend = legend;
  context = context;
  edks = edks;
  commitment = commitment;
}

abbrev after_edks : List ℕ → List ℕ → List (List ℕ × List ℕ) → List EdkParts → Format HeaderParts
after_edks id legend context edks =
    followed (any_bytes 32) (λ commitment. ends (made id legend context edks commitment))

abbrev after_context : List ℕ → List ℕ → List (List ℕ × List ℕ) → Format HeaderParts
after_context id legend context = followed edks_format (after_edks id legend context)

abbrev after_legend : List ℕ → List ℕ → Format HeaderParts
after_legend id legend = followed context_format (after_context id legend)

abbrev after_id : ℕ → List ℕ → Format HeaderParts
after_id version id = followed (legend_format version) (after_legend id)

abbrev after_flavour : ℕ → ℕ → Format HeaderParts
after_flavour version flavour = followed (any_bytes 32) (after_id version)

abbrev after_version : ℕ → Format HeaderParts
after_version version = followed (byte_that is_flavour) (after_flavour version)

-- fields at the front that are known, and those behind them
joins : (all front back known rest : List (List ℕ)) → all ≡ front ++ back → front ≡ known → back ≡ rest →
    all ≡ known ++ rest
joins all front back known rest parts f b = parts ∙ ap (λ (x : List (List ℕ)). x ++ back) f ∙
    ap (λ (y : List (List ℕ)). known ++ y) b

version_is : (n : ℕ) → is_version n ≡ true → n ≡ 1
version_is n e = eqb-true _ _ e

flavour_is : (n : ℕ) → is_flavour n ≡ true → n ≡ 0
flavour_is n e = eqb-true _ _ e

pub regroup_fields : (x : HeaderParts) → fields_of x ≡ (1 ∷ []) ∷ (0 ∷ []) ∷ x.message_id ∷
    ((short_number (length x.legend) ∷ map (λ b. b ∷ []) x.legend) ++
    ((short_number (length x.context) ∷ flat_map pair_fields x.context) ++
    (((length x.edks ∷ []) ∷ flat_map edk_fields x.edks) ++ x.commitment ∷ [])))
regroup_fields x = simp append_assoc

pub header_one : (h : HeaderParts) (fields : List (List ℕ)) → Spells header fields h → EachFits fields → HasParts h ×
    (fields ≡ fields_of h)
unfolding header
header_one h fields s fits0 =
    let v = Spells-split (byte_that is_version) after_version fields h s in
    let fv = subst EachFits v.parts fits0 in
    let version = byte_one is_version v.front v.meaning v.first in
    let f = Spells-split (byte_that is_flavour) (after_flavour v.meaning) v.back h v.second in
    let ff = subst EachFits f.parts (EachFits-back v.front v.back fv) in
    let flavour = byte_one is_flavour f.front f.meaning f.first in
    let i = Spells-split (any_bytes 32) (after_id v.meaning) f.back h f.second in
    let fi = subst EachFits i.parts (EachFits-back f.front f.back ff) in
    let id = bytes_one 32 (λ bytes. true) i.front i.meaning i.first in
    let l = Spells-split (legend_format v.meaning) (after_legend i.meaning) i.back h i.second in
    let fl = subst EachFits l.parts (EachFits-back i.front i.back fi) in
    let legend = legend_one v.meaning l.front l.meaning l.first (EachFits-front l.front l.back fl) in
    let c = Spells-split context_format (after_context i.meaning l.meaning) l.back h l.second in
    let fc = subst EachFits c.parts (EachFits-back l.front l.back fl) in
    let context = context_one c.front c.meaning c.first (EachFits-front c.front c.back fc) in
    let e = Spells-split edks_format (after_edks i.meaning l.meaning c.meaning) c.back h c.second in
    let fe = subst EachFits e.parts (EachFits-back c.front c.back fc) in
    let edks = edks_one e.front e.meaning e.first (EachFits-front e.front e.back fe) in
    let k = Spells-split (any_bytes 32) (λ commitment. ends (made i.meaning l.meaning c.meaning e.meaning commitment))
    e.back h e.second in
    let commitment = bytes_one 32 (λ bytes. true) k.front k.meaning k.first in
    let end = ends_one (made i.meaning l.meaning c.meaning e.meaning k.meaning) k.back h k.second in
    let x : HeaderParts = made i.meaning l.meaning c.meaning e.meaning k.meaning in
    let version_front : v.front ≡ (1 ∷ []) ∷ [] = version.0 ∙
    ap (λ (n : ℕ). (n ∷ []) ∷ []) (version_is v.meaning version.1) in
    let flavour_front : f.front ≡ (0 ∷ []) ∷ [] = flavour.0 ∙
    ap (λ (n : ℕ). (n ∷ []) ∷ []) (flavour_is f.meaning flavour.1) in
    let k_all = joins e.back k.front k.back (k.meaning ∷ []) [] k.parts commitment.0 end.0 in
    let e_all = joins c.back e.front e.back _ _ e.parts edks.0 k_all in
    let c_all = joins l.back c.front c.back _ _ c.parts context.0 e_all in
    let l_all = joins i.back l.front l.back _ _ l.parts legend.0 c_all in
    let i_all = joins f.back i.front i.back _ _ i.parts id.0 l_all in
    let f_all = joins v.back f.front f.back _ _ f.parts flavour_front i_all in
    let all = joins fields v.front v.back _ _ v.parts version_front f_all in
    let grouped : fields ≡ fields_of x = all ∙ sym (regroup_fields x) in
    subst (λ (y : HeaderParts). HasParts y × (fields ≡ fields_of y)) (sym end.1) (
      record {
        message_id = id.1;
        legend =
            subst (λ (n : ℕ). IsLegend n l.meaning) (version_is v.meaning version.1) legend.1;
        context = context.1;
        edks =
            edks.1;
        commitment = commitment.1;
      },
      grouped,
    )

pub header_again : (h : HeaderParts) → HasParts h → Spells header (fields_of h) h
unfolding header
header_again h parts =
    let behind_edks : List (List ℕ) = h.commitment ∷ [] in
    let behind_context : List (List ℕ) = ((length h.edks ∷ []) ∷ flat_map edk_fields h.edks) ++ behind_edks in
    let behind_legend : List (List ℕ) = (short_number (length h.context) ∷ flat_map pair_fields h.context) ++
    behind_context in
    let behind_id : List (List ℕ) = (short_number (length h.legend) ∷ map (λ b. b ∷ []) h.legend) ++ behind_legend in
    let last : Spells (after_edks h.message_id h.legend h.context h.edks) behind_edks h = (
      parts.commitment,
      refl,
      refl,
    ) in
    let e : Spells (after_context h.message_id h.legend h.context) behind_context h =
    Spells-then edks_format (after_edks h.message_id h.legend h.context) ((length h.edks ∷ []) ∷ flat_map
    edk_fields h.edks) behind_edks h.edks h (edks_again h.edks parts.edks) last in
    let c : Spells (after_legend h.message_id h.legend) behind_legend h =
    Spells-then context_format (after_context h.message_id h.legend) (short_number (length h.context) ∷ flat_map
    pair_fields h.context) behind_context h.context h (context_again h.context parts.context) e in
    let l : Spells (after_id 1 h.message_id) behind_id h = Spells-then (legend_format 1) (after_legend h.message_id)
    (short_number (length h.legend) ∷ map (λ b. b ∷ []) h.legend) behind_legend h.legend h
    (legend_again 1 h.legend parts.legend) c in
    let i : Spells (after_flavour 1 0) (h.message_id ∷ behind_id) h =
    Spells-then (any_bytes 32) (after_id 1) (h.message_id ∷ []) behind_id h.message_id h (
      parts.message_id,
      refl,
      refl,
    ) l in
    let f : Spells (after_version 1) ((0 ∷ []) ∷ h.message_id ∷ behind_id) h =
    Spells-then (byte_that is_flavour) (after_flavour 1) ((0 ∷ []) ∷ []) (h.message_id ∷ behind_id) 0 h (
      refl,
      refl,
      refl,
    ) i in
    let v : Spells header ((1 ∷ []) ∷ (0 ∷ []) ∷ h.message_id ∷ behind_id) h =
    Spells-then (byte_that is_version) after_version ((1 ∷ []) ∷ []) ((0 ∷ []) ∷ h.message_id ∷ behind_id) 1 h
    (refl, refl, refl) f in
    subst (λ (f : List (List ℕ)). Spells header f h) (sym (regroup_fields h)) v

-- ---- all of the bytes

guard_ended : (b : Bool) (n : ℕ) (x y : HeaderParts) → cond b (Ok x) (Err n) ≡ Ok y → (b ≡ true) × (x ≡ y)
guard_ended true n x y e = (refl, cc)
guard_ended false n x y e = absurd cc

abbrev ended : HeaderParts × List ℕ → Result HeaderParts ℕ
ended x = cond (eqb (length x.1) 0) (Ok x.0) (Err (length x.1))

whole_read : (r : Result (HeaderParts × List ℕ) ℕ) (h : HeaderParts) → (r >>= ended) ≡ Ok h → r ≡ Ok (h, [])
whole_read (Ok x) h e =
    let g = guard_ended (eqb (length x.1) 0) (length x.1) x.0 h e in
    let nothing : x.1 ≡ [] = nil_from_length x.1 (eqb-true _ _ g.0) in
    ap (λ (a : HeaderParts). Ok (a, x.1)) g.1 ∙ ap (λ (b : List ℕ). Ok (h, b)) nothing
whole_read (Err n) h e = absurd cc

guard_stopped : (b : Bool) (n left : ℕ) (x : HeaderParts) → cond b (Ok x) (Err n) ≡ Err left → n ≡ left
guard_stopped true n left x e = absurd cc
guard_stopped false n left x e = cc

stopped : (r : Result (HeaderParts × List ℕ) ℕ) (left : ℕ) → (r >>= ended) ≡ Err left → left_of r ≡ left
stopped (Ok x) left e = guard_stopped (eqb (length x.1) 0) (length x.1) left x.0 e
stopped (Err n) left e = cc

err_is_ok : (h : HeaderParts) (n : ℕ) (r : Result HeaderParts ℕ) → r ≡ Ok h → r ≡ Err n → ⊥
err_is_ok h n r a b = cc

pub header_found : (bytes : List ℕ) (h : HeaderParts) → IsBytes bytes → all_of bytes ≡ Ok h → IsHeader h bytes
unfolding all_of header_text
header_found bytes h fits e =
    let whole : read_front header bytes ≡ Ok (h, []) = sym (header_at-front bytes) ∙ whole_read (header_at bytes) h e in
    let r = front_spells header bytes h [] whole in
    let one = header_one h r.fields r.spells (read_fits header bytes h [] fits r) in
    record { parts = one.0; text = r.parts ∙ append-nil (joined r.fields) ∙ ap joined one.1 }

-- a header is read as itself
pub header_read : (bytes : List ℕ) (h : HeaderParts) → IsHeader h bytes → all_of bytes ≡ Ok h
unfolding all_of header_text
header_read bytes h is =
    let again : read_front header (joined (fields_of h) ++ []) ≡ Ok (h, []) =
    spells_front header (fields_of h) h [] (header_again h is.parts) in
    let same : bytes ≡ joined (fields_of h) ++ [] = is.text ∙ sym (append-nil (joined (fields_of h))) in
    let read : header_at bytes ≡ Ok (h, []) = header_at-front bytes ∙ ap (λ (b : List ℕ). read_front header b) same ∙
    again in
    ap (λ (r : Result (HeaderParts × List ℕ) ℕ). r >>= ended) read

pub header_left : (bytes : List ℕ) (left : ℕ) → all_of bytes ≡ Err left → left_by header bytes ≡ left
unfolding all_of
header_left bytes left e = ap (λ (r : Result (HeaderParts × List ℕ) ℕ). left_of r) (sym (header_at-front bytes)) ∙
    stopped (header_at bytes) left e

pub left_within : (bytes : List ℕ) (left : ℕ) → all_of bytes ≡ Err left → left ≤ length bytes
left_within bytes left e = omega (arith, (reads_front header bytes).size, header_left bytes left e)

pub header_fault : (bytes : List ℕ) (left : ℕ) → all_of bytes ≡ Err left → ((h : HeaderParts) → IsHeader h bytes →
    ⊥) × LongestPrefix header bytes (length bytes - left)
header_fault bytes left e = (
  λ h is. err_is_ok h left (all_of bytes) (header_read bytes h is) e,
  subst (λ (n : ℕ). LongestPrefix header bytes (length bytes - n)) (header_left bytes left e)
      (longest_prefix header bytes),
)

pub header_unique : (a b : HeaderParts) (bytes : List ℕ) → IsHeader a bytes → IsHeader b bytes → a ≡ b
header_unique a b bytes x y = ok_is a b (sym (header_read bytes a x) ∙ header_read bytes b y)

pub header_fields : (h : HeaderParts) (fields : List (List ℕ)) → AreBytes (joined fields) → Spells header fields h →
    HasParts h × (fields ≡ fields_of h)
header_fields h fields bytes s =
    header_one h fields s (each_fits fields (recursion_from_All (λ b. b < 256) (joined fields) bytes))
