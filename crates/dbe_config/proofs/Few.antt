-- A configuration that keeps all rules has few recipients, all of them built.
use Rattle.std.proofs.Common.{◌≡◌, ◌≤◌, ℕ, false, None, length, nat_lt, arith}
use Rattle.std.proofs.lemmas.Bool.{leb-false}
use Rattle.dbe_config.specs.Setting.{Setting}
use Rattle.dbe_config.specs.Order.{breaches, first_fault}
use Rattle.dbe_config.specs.Rules.{is_not_built}
use Rattle.dbe_config.proofs.Order.{all_kept}

at_most : (n : ℕ) → nat_lt 8 n ≡ false → n ≤ 8
at_most n is = let below = leb-false 9 n is in omega arith

pub few_recipients : (s : Setting) → first_fault s ≡ None → length s.recipients ≤ 8
few_recipients s kept = at_most (length s.recipients) (all_kept (breaches s) kept).1.1.1.1.1.1.1.1.1.0

pub all_built : (s : Setting) → first_fault s ≡ None → is_not_built s ≡ false
all_built s kept = (all_kept (breaches s) kept).1.1.1.1.1.1.1.1.1.1.0
