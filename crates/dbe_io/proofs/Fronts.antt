-- Bytes that are written piece by piece.
use Rattle.std.proofs.Common.{◌≡◌, ℕ, ◌+◌, ◌-◌, ◌≤◌, List, ◌++◌, length, take, drop, sym, ap, subst, ◌∙◌, arith}
use Rattle.std.proofs.Common.{length-drop, length-take}
use Rattle.std.proofs.Math.Seq.{take-add}
use Rattle.std.proofs.KnownBytes.{Appends-trans}
use Rattle.std.proofs.lemmas.List.{take_rest}
use Rattle.std.specs.declared.option.Option.{Option}
use Rattle.std.specs.Io.KnownBytes.{Appends}
use Rattle.dbe_io.specs.Prefix.{AppendsPrefix}

-- the first bytes, and as many of those after them
pub take-more : (bytes : List ℕ) (at count : ℕ) →
    take at bytes ++ take count (take (length bytes - at) (drop at bytes)) ≡ take (at + count) bytes
take-more bytes at count = ap (λ l. take at bytes ++ take count l) (take_rest bytes at) ∙ sym (take-add at count bytes)

-- a front was written, and a front of the others
pub Appends-more : (a b c : Option (List ℕ)) (bytes : List ℕ) (at count : ℕ) → Appends a b (take at bytes) →
    Appends b c (take count (take (length bytes - at) (drop at bytes))) → Appends a c (take (at + count) bytes)
Appends-more a b c bytes at count first next =
    let P : List ℕ → Type 0 = Appends a c in
    subst P (take-more bytes at count) (Appends-trans a b c _ _ first next)

pub AppendsPrefix-more : (a b c : Option (List ℕ)) (bytes : List ℕ) (at : ℕ) → at ≤ length bytes →
    Appends a b (take at bytes) → AppendsPrefix b c (take (length bytes - at) (drop at bytes)) → AppendsPrefix a c bytes
AppendsPrefix-more a b c bytes at le first next = record {
  count = at + next.count;
  within = let short : next.count ≤ length (take (length bytes - at) (drop at bytes)) = next.within in
      omega (arith, length-take (length bytes - at) (drop at bytes), length-drop at bytes);
  front = Appends-more a b c bytes at next.count first next.front;
}
