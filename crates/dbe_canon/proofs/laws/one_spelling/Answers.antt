use Rattle.std.proofs.Common.{refl, sym, ◌∙◌}
use Rattle.dbe_canon.proofs.laws.one_spelling.Goals as goal

pub returns-clause-some : goal.returns-clause-some
returns-clause-some c = λ value h k. record { lawful = h; short = k; same_id = refl; same_bytes = refl }

pub returns-clause-one : goal.returns-clause-one
returns-clause-one c = λ value i j b d h k. (h.same_id ∙ sym k.same_id, h.same_bytes ∙ sym k.same_bytes)
