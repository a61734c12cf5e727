-- The conditions of a row in their order, and which of them hold and fail where there is a reason.
use Rattle.std.proofs.Common.{◌≡◌, ℕ, zero, suc, ◌≤◌, ◌<◌, List, length, sym, subst, ◌⊎◌, inl, inr, arith}
use Rattle.dbe_values.specs.declared.value.AttrValue.{AttrValue}
use Rattle.dbe_config.specs.Setting.{Setting}
use Rattle.dbe_frame.specs.Header.{HeaderParts, IsHeader}
use Rattle.dbe_item.specs.Names.{head_name}
use Rattle.dbe_item.specs.Opens.{HasBinary, HasHeader, FitsLegend, HasSignedKey, HasFooter, IsFramed, Found, IsFound}
use Rattle.dbe_item.specs.Opens.{IsCommitted, IsTagged, IsSigned, Seeks, row_context}
use Rattle.dbe_item.specs.Reasons.{IsReason}
use Rattle.dbe_item.specs.declared.open_fault.OpenFault.{OpenFault}
use Rattle.dbe_item.specs.declared.open_fault.OpenFault.TheVariants as f
use Rattle.dbe_item.proofs.LawsFound.{one_binary, header_once, found_once}

-- how many conditions come before the one that fails
abbrev pub stage : OpenFault → ℕ
stage f.NoHeader = 0
stage (f.HeaderFault at) = 1
stage f.LegendLength = 2
stage f.KeyLegend = 3
stage f.FooterLength = 4
stage f.NoRecipient = 5
stage f.Commitment = 6
stage f.RecipientTag = 7
stage (f.FieldShape name) = 8
stage (f.FieldTag name) = 8
stage (f.NotCanonical name) = 8
stage f.Memory = 9

module _ (c : Setting) (row : List (List ℕ × AttrValue)) where
  -- so many conditions hold
  abbrev pub Reached : ℕ → Type 0
  Reached zero = Unit {0}
  Reached (suc zero) = (bytes : List ℕ) × HasBinary head_name row bytes
  Reached (suc (suc zero)) = (h : HeaderParts) × HasHeader row h
  Reached (suc (suc (suc zero))) = (h : HeaderParts) × HasHeader row h × FitsLegend c row h
  Reached (suc (suc (suc (suc zero)))) = (h : HeaderParts) × HasHeader row h × FitsLegend c row h × HasSignedKey c row h
  Reached (suc (suc (suc (suc (suc zero))))) = (h : HeaderParts) × (tags : List (List ℕ)) × IsFramed c row h tags
  Reached (suc (suc (suc (suc (suc (suc zero)))))) = (by : Found) × IsFound c row by
  Reached (suc (suc (suc (suc (suc (suc (suc zero))))))) = (by : Found) × IsFound c row by × IsCommitted by
  Reached (suc (suc (suc (suc (suc (suc (suc (suc zero)))))))) = (by : Found) × IsSigned c row by
  Reached (suc (suc (suc (suc (suc (suc (suc (suc (suc n))))))))) = Unit {0}

  one_fewer : (n : ℕ) → n < 8 → Reached (suc n) → Reached n
  one_fewer zero lt r = tt
  one_fewer (suc zero) lt r = (r.1.bytes, r.1.stored)
  one_fewer (suc (suc zero)) lt r = (r.0, r.1)
  one_fewer (suc (suc (suc zero))) lt r = (r.0, r.1, r.2)
  one_fewer (suc (suc (suc (suc zero)))) lt r = (r.0, r.2.header, r.2.legend, r.2.key)
  one_fewer (suc (suc (suc (suc (suc zero))))) lt r = (r.0.header, r.0.tags, r.1.framed)
  one_fewer (suc (suc (suc (suc (suc (suc zero)))))) lt r = (r.0, r.1)
  one_fewer (suc (suc (suc (suc (suc (suc (suc zero))))))) lt r = (r.0, r.1.found, r.1.committed)
  one_fewer (suc (suc (suc (suc (suc (suc (suc (suc n)))))))) lt r = absurd (omega arith)

  pub fewer : (m n : ℕ) → m ≤ n → n ≤ 8 → Reached n → Reached m
  fewer m zero le most r = let none : m ≡ 0 = omega arith in subst Reached (sym none) r
  fewer m (suc n) le most r = elim (side m n le) [
    | inl all ↦ subst Reached (sym all) r
    | inr some ↦ fewer m n some (omega arith) (one_fewer n (omega arith) r)
  ]
    where
      side : (m n : ℕ) → m ≤ suc n → (m ≡ suc n) ⊎ (m ≤ n)
      side m n le = grind arith

  -- the conditions before its own hold
  pub reached : (x : OpenFault) → IsReason x c row → Reached (stage x)
  reached f.NoHeader p = tt
  reached (f.HeaderFault at) p = (p.0, p.1)
  reached f.LegendLength p = (p.0, p.1)
  reached f.KeyLegend p = (p.0, p.1, p.2)
  reached f.FooterLength p = (p.0, p.1, p.2, p.3)
  reached f.NoRecipient p = (p.0, p.1, p.2)
  reached f.Commitment p = (p.0, p.1)
  reached f.RecipientTag p = (p.0, p.1, p.2)
  reached (f.FieldShape name) p = (p.0, p.1)
  reached (f.FieldTag name) p = (p.0, p.1)
  reached (f.NotCanonical name) p = (p.0, p.1)
  reached f.Memory p = tt

  -- and its own fails
  pub fails : (x : OpenFault) → IsReason x c row → stage x < 8 → Reached (suc (stage x)) → ⊥
  fails f.NoHeader p lt r = p r.0 r.1
  fails (f.HeaderFault at) p lt r =
      let same = one_binary head_name row r.1.bytes p.0 r.1.stored p.1 in
      p.2.0 r.0 (subst (λ x. IsHeader r.0 x) same r.1.is)
  fails f.LegendLength p lt r =
      p.2 (subst (λ (x : HeaderParts). FitsLegend c row x) (header_once row r.0 p.0 r.1 p.1) r.2)
  fails f.KeyLegend p lt r =
      p.3 (subst (λ (x : HeaderParts). HasSignedKey c row x) (header_once row r.0 p.0 r.1 p.1) r.3)
  fails f.FooterLength p lt r =
      p.4 r.1 (subst (λ (x : HeaderParts). HasFooter row (length x.edks) r.1)
      (header_once row r.0 p.0 r.2.header p.1) r.2.footer)
  fails f.NoRecipient p lt r =
      let by = r.0 in
      p.3 by.place by.data_key by.signing
      (subst (λ (x : HeaderParts). Seeks c.recipients (row_context c row x) x.edks by.place by.data_key by.signing)
      (header_once row by.header p.0 r.1.framed.header p.2.header) r.1.seeks)
  fails f.Commitment p lt r =
      p.2 (subst (λ (x : Found). IsCommitted x) (found_once c row r.0 p.0 r.1 p.1) r.2)
  fails f.RecipientTag p lt r =
      p.3 (subst (λ (x : Found). IsTagged c row x) (found_once c row r.0 p.0 r.1.found p.1) r.1.tagged)
  fails (f.FieldShape name) p lt r = absurd (omega arith)
  fails (f.FieldTag name) p lt r = absurd (omega arith)
  fails (f.NotCanonical name) p lt r = absurd (omega arith)
  fails f.Memory p lt r = absurd (omega arith)

  -- no reason comes before another
  pub none_earlier : (x y : OpenFault) → IsReason x c row → IsReason y c row → stage x < stage y → stage y ≤ 8 → ⊥
  none_earlier x y p q lt most =
      fails x p (omega arith) (fewer (suc (stage x)) (stage y) (omega arith) most (reached y q))
