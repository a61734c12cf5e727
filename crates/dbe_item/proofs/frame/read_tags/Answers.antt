use Rattle.std.proofs.Common.{◌≡◌, ℕ, ◌*◌, ◌∙◌, length, ap, subst}
use Rattle.dbe_item.proofs.Frames.{no_tags}
use Rattle.dbe_item.proofs.frame.read_tags.Goals as goal

pub returns-in-Err-FooterLength-clause-fault : goal.returns-in-Err-FooterLength-clause-fault
returns-in-Err-FooterLength-clause-fault c =
    let same = c.as_slice.ensures.edks ∙ c.edks.ensures in (
      c.args.header.now,
      c.requires.header,
      c.requires.legend,
      c.requires.key,
      no_tags c.args.row.now
          (length c.args.header.now.edks) c.in-Some.bytes.now c.in-Some.ensures.some (subst
          (λ (n : ℕ). length c.in-Some.bytes.now ≡ 48 * n → ⊥) (ap length same)
          (rw c.in-Err-FooterLength.field-0-is at c.in-Err-FooterLength.ensures.fault)),
    )
