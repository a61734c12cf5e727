use Rattle.std.proofs.Common.{◌≡◌, ◌-◌, ◌∙◌, refl, sym, ap, length, Less, Equal, Greater}
use Rattle.std.proofs.lemmas.Bool.{eqb-false, false≢true}
use Rattle.dbe_values.proofs.Placing.{order}
use Rattle.dbe_cond.proofs.Entries.{behind_last, last_behind, one_more, not_equal, not_greater}
use Rattle.dbe_cond.proofs.placeholders.is_behind.Goals as goal

pub returns-in-Less : goal.returns-in-Less
returns-in-Less g c =
    let long = one_more (length c.args.entries.now) (eqb-false (length c.args.entries.now) 0 (sym c.is_empty.ensures ∙
    c.if-is_empty.false)) in
    let less : order c.index-entries-entries.result.0 c.args.placeholder.now ≡ Less = sym (c.in-Less.ensures ∙
    ap (λ s. order s c.args.placeholder.now) c.as_bytes.ensures) in (
      (λ _. behind_last c.args.entries.now c.args.placeholder.now c.index-entries-entries.result
          (length c.args.entries.now - 1) c.requires long c.index-entries-entries.is less),
      (λ _. refl),
    )

pub returns-in-Equal : goal.returns-in-Equal
returns-in-Equal g c =
    let long = one_more (length c.args.entries.now) (eqb-false (length c.args.entries.now) 0 (sym c.is_empty.ensures ∙
    c.if-is_empty.false)) in
    let equal : Equal ≡ order c.index-entries-entries.result.0 c.args.placeholder.now = c.in-Equal.ensures ∙
    ap (λ s. order s c.args.placeholder.now) c.as_bytes.ensures in (
      (λ e. absurd (false≢true e)),
      (λ b. absurd (not_equal _ (last_behind c.args.entries.now c.args.placeholder.now
          c.index-entries-entries.result (length c.args.entries.now - 1) long c.index-entries-entries.is b) equal)),
    )

pub returns-in-Greater : goal.returns-in-Greater
returns-in-Greater g c =
    let long = one_more (length c.args.entries.now) (eqb-false (length c.args.entries.now) 0 (sym c.is_empty.ensures ∙
    c.if-is_empty.false)) in
    let greater : Greater ≡ order c.index-entries-entries.result.0 c.args.placeholder.now = c.in-Greater.ensures ∙
    ap (λ s. order s c.args.placeholder.now) c.as_bytes.ensures in (
      (λ e. absurd (false≢true e)),
      (λ b. absurd (not_greater _ (last_behind c.args.entries.now c.args.placeholder.now
          c.index-entries-entries.result (length c.args.entries.now - 1) long c.index-entries-entries.is b) greater)),
    )
