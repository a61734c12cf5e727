use Rattle.std.proofs.Common.{Ok, length, sym, ap, ◌∙◌, inl, inr}
use Rattle.dbe_session.specs.Steps.{SessionView}
use Rattle.dbe_serve.proofs.Completing.{complete}
use Rattle.dbe_serve.proofs.Headline.{headline, kept}
use Rattle.dbe_serve.proofs.top.serve.Goals as goal

pub returns-in-Ok-new-clause-headline : goal.returns-in-Ok-new-clause-headline
returns-in-Ok-new-clause-headline g c = λ is.
    headline _ _ (
      c.in-Ok-new.session,
      record {
        spelled = λ bytes told. c.in-Ok.ensures.ok bytes told ∙
            ap (λ (s : SessionView). Ok s.config) (sym c.in-Ok-new.ensures);
        sealing = c.is_sealing.ensures;
        begun =
            c.serve_table.ensures.schema (c.serve_table.ensures.late (inr (inl is)));
      },
      c.serve_table.ensures.done is,
    )

pub returns-in-Ok-new-clause-kept : goal.returns-in-Ok-new-clause-kept
returns-in-Ok-new-clause-kept g c = λ ne begun.
    kept _ _ _ (
      c.in-Ok-new.session,
      record {
        spelled = λ bytes told. c.in-Ok.ensures.ok bytes told ∙
            ap (λ (s : SessionView). Ok s.config) (sym c.in-Ok-new.ensures);
        sealing = c.is_sealing.ensures;
        begun =
            c.serve_table.ensures.schema begun;
      },
      c.serve_table.ensures.stopped ne begun,
    )

pub returns-in-Ok-new-clause-complete : goal.returns-in-Ok-new-clause-complete
returns-in-Ok-new-clause-complete g c = λ rules no_config no_read no_fault no_idle no_table no_dice.
    complete (length c.args.arguments.now) (g.C.Source.left c.args.config.now) (g.S.Source.left c.args.script.now)
    (g.S.Source.faults c.args.script.now) (g.S.Source.faults c.serve_table.new.script)
    (g.O.Sink.faults c.args.out.now) (g.O.Sink.faults c.serve_table.new.out) (g.O.Sink.idle c.args.out.now)
    (g.O.Sink.idle c.serve_table.new.out) (g.T.Table.faults c.args.table.now)
    (g.T.Table.faults c.serve_table.new.table) (g.D.Dice.faults c.args.dice.now) (g.D.Dice.faults
    c.serve_table.new.dice) rules no_read no_fault no_idle no_table no_dice c.serve_table.result
    c.serve_table.ensures.read c.serve_table.ensures.long_line c.serve_table.ensures.long_script
    c.serve_table.ensures.write c.serve_table.ensures.table c.serve_table.ensures.dice
    c.serve_table.ensures.not_arguments
    c.serve_table.ensures.not_config
