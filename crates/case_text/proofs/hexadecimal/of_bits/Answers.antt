-- Bits that are at most infinity's, but for the sign, are no NaN's.
use Rattle.std.proofs.lemmas.Float.{not_nan_f64_bits}
use Rattle.case_text.proofs.hexadecimal.of_bits.Goals as goal

pub float_from_bits-result : goal.float_from_bits-result
float_from_bits-result c = not_nan_f64_bits c.args.bits c.if-bits-le-INFINITY.true
