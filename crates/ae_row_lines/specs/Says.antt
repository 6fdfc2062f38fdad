-- What it is for a derived line to say a row, where each name stands for a term.
use Rattle.std.specs.Prelude.{ℕ, ℤ, pos, neg_ℤ, ◌<ℤ◌, ◌*ℤ◌, ◌≡◌, List, [], ◌∷◌, map}
use Rattle.ae_math.specs.Fractions.{ℚ, zero_ℚ, one_ℚ, ◌*ℚ◌, whole}
use Rattle.ae_math.specs.Forms.{Form, value}
use Rattle.ae_num.specs.declared.forms.Lin.{Lin}
use Rattle.ae_num.specs.Forms.{meaning, SameMeaning, IsNormal, factor_of as lin_factor}
use Rattle.ae_rows.specs.Rows.{combination}
use Rattle.ae_rules.specs.Linear.{form, factor_of}
use Rattle.ae_rules.specs.Lines.{Fact, gap}
use Rattle.ae_core.specs.declared.terms.Term.{Term}
use Rattle.ae_core.specs.declared.proofs.Scaled.{Scaled}

-- the difference of the fact's terms, the right one minus the left one, is m times the form, in which each name is its term
pub record Says (names : ℕ → Term) (m : ℤ) (f : Form ℕ) (fact : Fact) : Type 0 where
  pub positive : pos 0 <ℤ m
  pub factors : (t : Term) → factor_of (gap fact) t ≡ whole m *ℚ value (λ k. factor_of (form (names k)) t) zero_ℚ f
  pub constants : (gap fact).constant ≡ whole m *ℚ value (λ k. (form (names k)).constant) one_ℚ f

-- a row in a sum: its form, the part of it that is added up, the fact that says it, and the fact's factor in the line
pub record Used : Type 0 where
  pub form : Form ℕ
  pub share : ℚ
  pub multiple : ℤ
  pub fact : Fact
  pub factor : ℤ

-- the shares of the rows
abbrev pub shares_of : List Used → List (ℚ × Form ℕ)
shares_of us = map (λ u. (u.share, u.form)) us

-- ---- two rows
-- a line whose fact says the combination of two rows on a name, in factors that the rows' own numbers give
pub record SaysCombination (names : ℕ → Term) (n : ℕ) (p q r : Lin) (left right fact : Fact) (d : ℤ) : Type 0 where
  pub left_normal : IsNormal p
  pub right_normal : IsNormal q
  pub first : Says names p.den (meaning p) left
  pub second : Says names q.den (meaning q) right
  pub combined : SameMeaning (meaning r) (combination n (meaning p) (meaning q))
  pub third : Says names r.den (meaning r) fact
  pub lower : pos 0 <ℤ lin_factor p.parts n
  pub upper : lin_factor q.parts n <ℤ pos 0
  pub times : d *ℤ r.den ≡ p.den *ℤ q.den

-- the parts of that line, where the two rows are said by lines j and k
abbrev pub parts_of_line : ℕ → Lin → Lin → ℕ → ℕ → List Scaled
parts_of_line n p q j k = record { factor = neg_ℤ (lin_factor q.parts n); line = j } ∷ record { factor = lin_factor p.parts n; line = k } ∷ []
