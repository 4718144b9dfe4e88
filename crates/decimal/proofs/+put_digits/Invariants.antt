use Rattle.decimal.proofs.+put_digits.Given as goal

-- The number falls: without its last digit it is a tenth.
abbrev pub decreases-put_digits : goal.decreases-put_digits
decreases-put_digits l = l.n
