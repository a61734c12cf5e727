use Rattle.std.proofs.Common.{ℕ, ◌+◌, ◌-◌, ◌/◌, ◌<◌, length, Less, Equal, Greater, arith}
use Rattle.std.specs.Map.{keys_of}
use Rattle.dbe_values.proofs.Placing.{below_step, above_step}
use Rattle.dbe_values.proofs.Lookups.{same_name}
use Rattle.dbe_cond.proofs.Entries.{length_keys, read_key}
use Rattle.dbe_cond.proofs.placeholders.place_of.Goals as goal

pub loop-low-preserved-in-Less : goal.loop-low-preserved-in-Less
loop-low-preserved-in-Less g c =
    let middle : ℕ = c.loop-low.low + (c.loop-low.high - c.loop-low.low) / 2 in
    let lt : middle < length c.args.entries.now = omega arith in
    let within : middle < length (keys_of c.args.entries.now) = omega (arith, length_keys c.args.entries.now) in
    let e = read_key c.args.entries.now c.args.placeholder.now middle c.index-entries-middle.result _ Less lt
    c.as_bytes.ensures c.in-Less.ensures in
    record {
      range = omega arith;
      within = omega arith;
      below = c.loop-low.invariant.below;
      above =
          above_step (keys_of c.args.entries.now) c.args.placeholder.now c.requires middle within e;
    }

pub loop-low-preserved : goal.loop-low-preserved
loop-low-preserved g c =
    let middle : ℕ = c.loop-low.low + (c.loop-low.high - c.loop-low.low) / 2 in
    let lt : middle < length c.args.entries.now = omega arith in
    let within : middle < length (keys_of c.args.entries.now) = omega (arith, length_keys c.args.entries.now) in
    let e = read_key c.args.entries.now c.args.placeholder.now middle c.index-entries-middle.result _ Greater lt
    c.as_bytes.ensures c.in-Greater.ensures in
    record {
      range = omega arith;
      within = omega arith;
      below =
          below_step (keys_of c.args.entries.now) c.args.placeholder.now c.requires middle within e;
      above =
          c.loop-low.invariant.above;
    }

pub returns-in-Equal-clause-there : goal.returns-in-Equal-clause-there
returns-in-Equal-clause-there g c =
    let middle : ℕ = c.loop-low.low + (c.loop-low.high - c.loop-low.low) / 2 in
    let lt : middle < length c.args.entries.now = omega arith in
    let within : middle < length (keys_of c.args.entries.now) = omega (arith, length_keys c.args.entries.now) in (
      within,
      same_name _ _ (read_key c.args.entries.now c.args.placeholder.now middle c.index-entries-middle.result _
          Equal lt c.as_bytes.ensures c.in-Equal.ensures),
    )
