use Rattle.std.proofs.Common.{◌≡◌, ◌+◌, ◌*◌, ◌++◌, map, drop, length}
use Rattle.std.specs.List.{All}
use Rattle.dbe_rawring.specs.Edk.{IsEdk}
use Rattle.dbe_item.specs.Sealing.{ring_wraps}
use Rattle.dbe_item.proofs.wraps.wrap_all.Given as goal

abbrev pub invariant-loop-ring : goal.invariant-loop-ring
invariant-loop-ring l = record {
  left : length l.rest + 44 * l.ring-index ≡ 44 * length l.rings;
  edks : l.edks.items ++ map (λ x. x.edk) (ring_wraps (drop l.ring-index l.rings) l.context l.data_key l.rest) ≡ map
      (λ x. x.edk) (ring_wraps l.rings l.context l.data_key l.drawn);
  signing : l.signing.items ++ map (λ x. x.signing) (ring_wraps (drop l.ring-index l.rings) l.context l.data_key l.rest)
      ≡ map (λ x. x.signing) (ring_wraps l.rings l.context l.data_key l.drawn);
  each : All IsEdk l.edks.items;
}
