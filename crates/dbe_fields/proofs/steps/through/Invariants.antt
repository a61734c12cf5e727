use Rattle.std.proofs.Common.{◌≡◌, drop}
use Rattle.dbe_fields.specs.Steps.{through}
use Rattle.dbe_fields.proofs.steps.through.Given as goal

abbrev pub invariant-loop-step : goal.invariant-loop-step
invariant-loop-step l = through (drop l.step-index l.steps) l.text ≡ through l.fn.steps l.fn.text
