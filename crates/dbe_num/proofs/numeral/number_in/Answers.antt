use Rattle.std.proofs.Common.{sym, ap, ◌∙◌}
use Rattle.dbe_num.specs.Numeral.{whole_number_after}
use Rattle.dbe_num.proofs.Digits.{front_digits, back_digits, whole_number_parts, room_after, room_first}
use Rattle.dbe_num.proofs.numeral.number_in.Goals as goal

pub read_on-requires-clause-digits : goal.read_on-requires-clause-digits
read_on-requires-clause-digits c = front_digits c.args.whole.now c.args.fraction.now c.requires.digits

pub read_on-requires-clause-fits : goal.read_on-requires-clause-fits
read_on-requires-clause-fits c = room_first c.args.whole.now c.args.fraction.now 38 c.requires.few

pub read_on-requires-2-clause-digits : goal.read_on-requires-2-clause-digits
read_on-requires-2-clause-digits c = back_digits c.args.whole.now c.args.fraction.now c.requires.digits

pub read_on-requires-2-clause-fits : goal.read_on-requires-2-clause-fits
read_on-requires-2-clause-fits c =
    room_after c.read_on.result c.args.whole.now c.args.fraction.now 38 c.read_on.ensures
    (front_digits c.args.whole.now c.args.fraction.now c.requires.digits) c.requires.few

pub returns : goal.returns
returns c =
    c.read_on-2.ensures
    ∙ ap (λ n. whole_number_after n c.args.fraction.now) c.read_on.ensures
    ∙ sym (whole_number_parts 0 c.args.whole.now c.args.fraction.now)
