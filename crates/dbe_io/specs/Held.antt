-- What the inside of a reader of lines holds (this project's own).
use Rattle.std.specs.Prelude.{ℕ, ◌≡◌, ◌<◌, ◌≤◌, List, ◌++◌, length, slice_range}
use Rattle.dbe_io.specs.Lines.{first_piece}
use Rattle.dbe_io.specs.declared.held.Held.TheInside.{Inside}

-- the bytes of earlier blocks, and those of the block at hand
abbrev pub held_bytes : Inside → List ℕ
held_bytes h = h.partial.items ++ slice_range h.block.items h.start h.end

-- What is always so of the inside: the part of the block that is held lies within it, and no newline stands in the
-- bytes of earlier blocks.
pub record IsHeld (h : Inside) : Type 0 where
  pub order : h.start ≤ h.end
  pub within : h.end ≤ length h.block.items
  pub room : 0 < length h.block.items
  pub searched : first_piece h.partial.items ≡ h.partial.items
