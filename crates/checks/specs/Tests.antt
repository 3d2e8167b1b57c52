-- The tests of the rules on single numbers. Assumes nothing.
use Rattle.std.specs.Prelude.{ℕ, ◌+◌, Bool, cond, not, ◌&&◌, ℤ, pos, negsuc, ◌==◌, int_le, nat_le, nat_lt}
use Rattle.amounts.specs.Rounding.{most}

-- 1 to 15
abbrev pub is_account : ℕ → Bool
is_account a = nat_le 1 a && nat_lt a 16

-- 0 to 15
abbrev pub is_account_or_vault : ℕ → Bool
is_account_or_vault a = nat_lt a 16

-- below the bank's count
abbrev pub is_currency : ℕ → ℕ → Bool
is_currency count c = nat_lt c count

-- 1 to M
abbrev pub is_amount : ℕ → Bool
is_amount a = nat_le 1 a && nat_le a most

-- 0 to M
abbrev pub is_amount_or_none : ℕ → Bool
is_amount_or_none a = nat_le a most

-- 0 or 1
abbrev pub is_flag : ℕ → Bool
is_flag n = nat_lt n 2

abbrev pub are_apart : ℕ → ℕ → Bool
are_apart a b = not (a == b)

-- one step more is at most 64
abbrev pub has_step : ℕ → Bool
has_step steps = nat_lt steps 64

-- one more in a session
abbrev pub steps_after : Bool → ℕ → ℕ
steps_after session n = cond session (n + 1) n

-- at most M
abbrev pub has_room : ℕ → Bool
has_room n = nat_le n most

-- from -M to M
abbrev pub in_range : ℤ → Bool
in_range z = int_le (negsuc 2147483646) z && int_le z (pos most)

-- exactly the amount
abbrev pub is_delta : ℤ → ℕ → Bool
is_delta z a = int_le z (pos a) && int_le (pos a) z
