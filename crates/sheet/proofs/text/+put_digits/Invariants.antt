-- `sheet::text::put_digits` calls itself with the tenth of n, which is the measure.
use Rattle.sheet.proofs.text.+put_digits.Given as goal

abbrev pub decreases-put_digits : goal.decreases-put_digits
decreases-put_digits l = l.n
