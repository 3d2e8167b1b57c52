-- The product curve's quotients, and how the measures scale. Assumes nothing.
use Rattle.std.specs.Prelude.{◌≡◌, ℕ, ◌+◌, ◌-◌, ◌*◌, ◌/◌, ◌^◌, ◌<◌, ◌≤◌}
use Rattle.std.proofs.Common.{sym, ap, ◌∙◌, mul_comm, add-mul, mul-add, pow-suc, one-mul, arith}
use Rattle.std.proofs.Math.Nat.{div-le_of_le-mul, mul-div-le, lt-div-mul-add, pow-zero, mul-mul-mul_comm}

-- no more is bought than is there
pub floor_le : (i o a : ℕ) → o * a / (i + a) ≤ o
floor_le i o a = div-le_of_le-mul (i + a) (omega (arith, add-mul i a o, mul_comm o a))

-- what is bought leaves the product as it was or larger
pub bought_keeps : (i o a : ℕ) → i * o ≤ (i + a) * (o - o * a / (i + a))
bought_keeps i o a =
    let t : ℕ = o * a / (i + a) in
    let r : ℕ = o - t in
    let cut : o ≡ t + r = omega (arith, floor_le i o a) in
    let low : (i + a) * t ≤ o * a = mul-div-le (o * a) (i + a) in
    let split : (i + a) * o ≡ (i + a) * t + (i + a) * r = ap (λ n. (i + a) * n) cut ∙ mul-add (i + a) t r in
    omega (arith, add-mul i a o, mul_comm o a, split, low)

-- the price leaves the product as it was or larger
pub priced_keeps : (i o b : ℕ) → b < o → i * o ≤ (i + (i * b / (o - b) + 1)) * (o - b)
priced_keeps i o b h =
    let e : ℕ = o - b in
    let q : ℕ = i * b / e in
    let some : 0 < e = omega arith in
    let cut : o ≡ e + b = omega arith in
    let high : i * b < q * e + e = lt-div-mul-add {a = i * b} {b = e} some in
    let split : i * o ≡ i * e + i * b = ap (λ n. i * n) cut ∙ mul-add i e b in
    omega (arith, split, high, add-mul i (q + 1) e, add-mul q 1 e)

power_one : (n : ℕ) → n ^ 1 ≡ n
power_one n = pow-suc n 0 ∙ ap (λ k. k * n) (pow-zero n) ∙ one-mul n

power_two : (n : ℕ) → n ^ 2 ≡ n * n
power_two n = pow-suc n 1 ∙ ap (λ k. k * n) (power_one n)

pub product_scales : (n x y : ℕ) → n * x * (n * y) ≡ n ^ 2 * (x * y)
product_scales n x y = mul-mul-mul_comm n x n y ∙ ap (λ k. k * (x * y)) (sym (power_two n))

pub sum_scales : (n x y : ℕ) → n * x + n * y ≡ n ^ 1 * (x + y)
sum_scales n x y = sym (mul-add n x y) ∙ ap (λ k. k * (x + y)) (sym (power_one n))
