-- `reference_test::forms::appended` is safe: the product of two numbers that are cut off is below the product of where they are cut.
use Rattle.std.proofs.Common.{ℕ, ◌*◌, ◌%◌, ◌≤◌, arith}
use native.Mathlib.Nat.{mul-le-mul}
use Rattle.reference_test.proofs.forms.appended.Goals as goal

product-bound : (a b : ℕ) → a % 1000000 * (b % 1024) ≤ 1000000 * 1024
product-bound a b = let l : a % 1000000 ≤ 1000000 = omega arith in let m : b % 1024 ≤ 1024 = omega arith in mul-le-mul l m

pub overflow_mul-result : goal.overflow_mul-result
overflow_mul-result c = omega (arith, product-bound c.args.numeral c.args.forms)

pub overflow_add-result : goal.overflow_add-result
overflow_add-result c = omega (arith, product-bound c.args.numeral c.args.forms)
