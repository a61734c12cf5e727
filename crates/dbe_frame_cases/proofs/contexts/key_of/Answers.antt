use Rattle.dbe_frame_cases.proofs.contexts.key_of.Goals as goal

pub returns-in-Ok : goal.returns-in-Ok
returns-in-Ok c = c.in-Ok.ensures.lawful
