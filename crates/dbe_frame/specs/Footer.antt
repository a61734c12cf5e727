-- The footer, this project's own: a tag of 48 bytes for each recipient.
use Rattle.std.specs.Prelude.{◌≡◌, ℕ, ◌*◌, List, length}
use Rattle.std.specs.List.{All}
use Rattle.dbe_frame.specs.Format.{joined}
use Rattle.dbe_frame.specs.Sizes.{tag_size}
use Rattle.dbe_frame.specs.declared.fault.FrameFault.{FrameFault}
use Rattle.dbe_frame.specs.declared.fault.FrameFault.TheVariants as fault

-- the bytes are so many tags, joined
pub record AreTags (n : ℕ) (tags : List (List ℕ)) (bytes : List ℕ) : Type 0 where
  pub count : length tags ≡ n
  pub each : All (λ tag. length tag ≡ tag_size) tags
  pub text : bytes ≡ joined tags

-- a fault of reading so many tags: the bytes are not as many
abbrev pub IsFooterFault : FrameFault → ℕ → List ℕ → Type 0
IsFooterFault (fault.HeaderFault at) n bytes = ⊥
IsFooterFault fault.FooterLength n bytes = length bytes ≡ tag_size * n → ⊥
IsFooterFault fault.Memory n bytes = Unit {0}
