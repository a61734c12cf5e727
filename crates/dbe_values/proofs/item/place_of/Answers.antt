use Rattle.std.proofs.Common.{ℕ, ◌+◌, ◌-◌, ◌/◌, ◌<◌, length, Less, Equal, Greater, arith}
use Rattle.std.proofs.lemmas.List.{length-map}
use Rattle.dbe_values.specs.Lawful.{names_of}
use Rattle.dbe_values.proofs.Placing.{below_step, above_step}
use Rattle.dbe_values.proofs.Lookups.{read_name, same_name}
use Rattle.dbe_values.proofs.item.place_of.Goals as goal

pub loop-low-preserved-in-Less : goal.loop-low-preserved-in-Less
loop-low-preserved-in-Less c =
    let middle : ℕ = c.loop-low.low + (c.loop-low.high - c.loop-low.low) / 2 in
    let lt : middle < length c.args.attributes.now = omega arith in
    let within : middle < length (names_of c.args.attributes.now) =
    omega (arith, length-map c.args.attributes.now (λ a. a.0)) in
    let e = read_name c.args.attributes.now c.args.name.now middle c.index-attributes-middle.result _ Less lt
    c.as_bytes.ensures c.in-Less.ensures in
    record {
      range = omega arith;
      within = omega arith;
      below = c.loop-low.invariant.below;
      above =
          above_step (names_of c.args.attributes.now) c.args.name.now c.requires middle within e;
    }

pub loop-low-preserved : goal.loop-low-preserved
loop-low-preserved c =
    let middle : ℕ = c.loop-low.low + (c.loop-low.high - c.loop-low.low) / 2 in
    let lt : middle < length c.args.attributes.now = omega arith in
    let within : middle < length (names_of c.args.attributes.now) =
    omega (arith, length-map c.args.attributes.now (λ a. a.0)) in
    let e = read_name c.args.attributes.now c.args.name.now middle c.index-attributes-middle.result _ Greater lt
    c.as_bytes.ensures c.in-Greater.ensures in
    record {
      range = omega arith;
      within = omega arith;
      below =
          below_step (names_of c.args.attributes.now) c.args.name.now c.requires middle within e;
      above =
          c.loop-low.invariant.above;
    }

pub returns-in-Equal-clause-there : goal.returns-in-Equal-clause-there
returns-in-Equal-clause-there c =
    let middle : ℕ = c.loop-low.low + (c.loop-low.high - c.loop-low.low) / 2 in
    let lt : middle < length c.args.attributes.now = omega arith in
    let within : middle < length (names_of c.args.attributes.now) =
    omega (arith, length-map c.args.attributes.now (λ a. a.0)) in (
      within,
      same_name _ _ (read_name c.args.attributes.now c.args.name.now middle c.index-attributes-middle.result _
          Equal lt c.as_bytes.ensures c.in-Equal.ensures),
    )
