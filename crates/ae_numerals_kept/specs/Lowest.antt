-- Terms and formulas whose numerals are in lowest terms.
use Rattle.ae_core.specs.declared.formulas.Formula.{Formula}
use Rattle.ae_core.specs.declared.terms.Term.{Term}
use Rattle.ae_legal_texts.specs.Numbers.{formula_numbers, term_numbers}
use Rattle.ae_writable.specs.Numbers.{AreValuesWithin}

abbrev pub IsLowestTerm : Term → Type 0
IsLowestTerm t = AreValuesWithin (term_numbers t)

-- those of a block and of its triggers too
abbrev pub IsLowest : Formula → Type 0
IsLowest f = AreValuesWithin (formula_numbers f)
