use Rattle.std.proofs.Common.{Ok, sym, ap, ◌∙◌}
use Rattle.dbe_config.specs.Rules.{is_empty_list}
use Rattle.dbe_session.proofs.Replies.{plain_opened, plain_opening, then_ok}
use Rattle.dbe_session.proofs.session.Session.found.Goals as goal

pub returns-then-is_plain : goal.returns-then-is_plain
returns-then-is_plain c =
    let plain = sym (c.is_plain.ensures ∙ ap (λ st. is_empty_list st.recipients) c.config.ensures) ∙
    c.if-is_plain.true in
    then_ok c.item_text.result _ _ (λ text p. (
      Ok (plain_opened c.args.row.now),
      plain_opening c.args.self.now.config
          c.args.row.now plain,
      p,
    )) c.item_text.ensures
