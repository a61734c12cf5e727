-- Steps of sealing; not part of what is promised.
use Rattle.std.specs.Prelude.{ℕ, List, [], ◌∷◌, take, drop}
use Rattle.dbe_rawring.specs.Ring.{RawRingParts, raw_edk, intermediate_of}
use Rattle.dbe_rawring.specs.Wrap.{signing_key}
use Rattle.dbe_frame.specs.Header.{HeaderParts}
use Rattle.dbe_item.specs.Sealed.{Wrap}

-- a data key wrapped by rings, each with its drawn bytes
abbrev pub ring_wraps : List RawRingParts → List ℕ → List ℕ → List ℕ → List Wrap
ring_wraps [] context data_key drawn = []
ring_wraps (ring ∷ others) context data_key drawn = (record {
  edk = raw_edk ring context data_key (take 44 drawn);
  signing = signing_key (intermediate_of (take 44 drawn));
}) ∷ ring_wraps others context data_key (drop 44 drawn)

-- the header with another commitment
abbrev pub committed : HeaderParts → List ℕ → HeaderParts
committed h other = record {
  message_id = h.message_id;
  legend = h.legend;
  context = h.context;
  edks = h.edks;
  commitment = other;
}
