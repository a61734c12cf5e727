use Rattle.std.proofs.Common.{refl}
use Rattle.dbe_tokens.proofs.Fronts.{word_front}
use Rattle.dbe_tokens.proofs.front.word.Goals as goal

pub returns-clause-front : goal.returns-clause-front
returns-clause-front c = word_front _ _ _ _ _ _ _ _ _ c.requires.whole c.requires.begins c.split_parts.ensures.split
    refl c.split_at.ensures.front c.word_token.ensures
