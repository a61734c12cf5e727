use Rattle.std.proofs.Common.{◌≡◌, true, sym, ap, ◌∙◌, subst}
use Rattle.dbe_values.specs.Keys.{has_key}
use Rattle.dbe_config.specs.Rules.{is_empty_list}
use Rattle.dbe_item.proofs.Stood.{sealed_has_key}
use Rattle.dbe_table.specs.Rows.{Row}
use Rattle.dbe_session.proofs.Replies.{stored_large, stored_sealed, both_ok}
use Rattle.dbe_session.proofs.session.Session.store.Goals as goal

pub returns-then-branch-clause-ok : goal.returns-then-branch-clause-ok
returns-then-branch-clause-ok g c = λ e s is.
    let encrypted = sym (c.is_plain.ensures ∙ ap (λ st. is_empty_list st.recipients) c.config.ensures) ∙
    c.if-is_plain.false in
    let row = c.in_ok-row.ensures.ok in
    stored_large c.args.self.now e s _ _ _ _ is c.args.item c.in_ok-row.row row.0 encrypted row.1 row.2 row.3
    c.in_ok-is_large_row.field-0 _ c.in_ok-is_large_row.ensures c.if-branch.true c.in_ok-refused_text.ensures

pub store_row-requires-2-clause-key : goal.store_row-requires-2-clause-key
store_row-requires-2-clause-key g c =
    let encrypted = sym (c.is_plain.ensures ∙ ap (λ st. is_empty_list st.recipients) c.config.ensures) ∙
    c.if-is_plain.false in
    let row = c.in_ok-row.ensures.ok in
    let P : Row → Type 0 = λ r. has_key c.args.self.now.config.schema r ≡ true in
    subst P (sym row.3) (sealed_has_key c.args.self.now.config row.0 c.args.item c.is_sealing.ensures encrypted
    c.is_lawful.ensures c.requires.accepted row.1)

pub returns-clause-ok : goal.returns-clause-ok
returns-clause-ok g c =
    let encrypted = sym (c.is_plain.ensures ∙ ap (λ st. is_empty_list st.recipients) c.config.ensures) ∙
    c.if-is_plain.false in
    let row = c.in_ok-row.ensures.ok in
    both_ok c.store_row-2.result _ _ _ (λ text is_text put e s is.
    stored_sealed c.args.self.now e s _ _ _ _ is c.args.item c.in_ok-row.row row.0 encrypted row.1 row.2 row.3
    c.in_ok-is_large_row.field-0 _ _ text.items c.in_ok-is_large_row.ensures c.if-branch.false put is_text)
    c.store_row-2.ensures.ok c.store_row-2.ensures.stored
