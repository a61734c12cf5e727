-- The names of branches (this project's own).
use Rattle.std.specs.Prelude.{ℕ, ◌==◌, ◌&&◌, ◌||◌, Bool, List, length, nat_lt, nat_le}
use Rattle.std.specs.List.{list_all}

-- a letter, a digit, `_` or `-`
abbrev pub is_branch_byte : ℕ → Bool
is_branch_byte b = (nat_le 65 b && nat_le b 90) || (nat_le 97 b && nat_le b 122) || (nat_le 48 b && nat_le b 57) || b
    == 95 || b == 45

-- 1 to 64 letters, digits, `_` and `-`
abbrev pub is_branch_id : List ℕ → Bool
is_branch_id text = nat_lt 0 (length text) && nat_le (length text) 64 && list_all is_branch_byte text
