use Rattle.std.proofs.Common.{arith}
use Rattle.words.proofs.Numbers.{below_power}
use Rattle.words.proofs.numeral.Goals as goal

pub overflow_mul-value : goal.overflow_mul-value
overflow_mul-value c = omega (arith, below_power 8 c.loop-b.value c.loop-b.b-index c.loop-b.invariant.0 (omega arith))

pub overflow_add-value : goal.overflow_add-value
overflow_add-value c = omega (arith, below_power 8 c.loop-b.value c.loop-b.b-index c.loop-b.invariant.0 (omega arith))
