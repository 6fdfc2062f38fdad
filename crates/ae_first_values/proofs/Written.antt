-- Values that are computed are values over names of the sort, in the normal form.
use Rattle.std.specs.Prelude.{ℕ, Bool, List}
use Rattle.ae_math.specs.Fractions.{ℚ}
use Rattle.ae_math.specs.Forms.{number, plus, minus, scale}
use Rattle.ae_core.specs.declared.terms.Term.{Term}
use Rattle.ae_core.specs.declared.problems.Signature.{Signature}
use Rattle.ae_num.specs.declared.forms.Lin.{Lin}
use Rattle.ae_num.specs.Forms.{meaning, SameMeaning, IsNormal}
use Rattle.ae_state_steps.specs.ValueSteps.{IsNumberName, IsWritten}
use Rattle.ae_first_values.proofs.Keys.{keys_of_sum, keys_of_difference, keys_of_multiple, keys_of_number}

module _ (sig : Signature) (ts : List Term) (real : Bool) (name : ℕ) (named : IsNumberName sig ts real name) (v : Lin) (normal : IsNormal v) where
  pub sum_written : (a b : ℕ) (l r : Lin) → IsWritten sig ts real a l → IsWritten sig ts real b r → SameMeaning (meaning v) (plus (meaning l) (meaning r)) → IsWritten sig ts real name v
  sum_written a b l r wl wr s = record { name = named; parts = keys_of_sum (IsNumberName sig ts real) l r v normal s wl.parts wr.parts; normal = normal }

  pub difference_written : (a b : ℕ) (l r : Lin) → IsWritten sig ts real a l → IsWritten sig ts real b r → SameMeaning (meaning v) (minus (meaning l) (meaning r)) → IsWritten sig ts real name v
  difference_written a b l r wl wr s = record { name = named; parts = keys_of_difference (IsNumberName sig ts real) l r v normal s wl.parts wr.parts; normal = normal }

  pub multiple_written : (a : ℕ) (x : ℚ) (l : Lin) → IsWritten sig ts real a l → SameMeaning (meaning v) (scale x (meaning l)) → IsWritten sig ts real name v
  multiple_written a x l wl s = record { name = named; parts = keys_of_multiple (IsNumberName sig ts real) x l v normal s wl.parts; normal = normal }

  pub number_written : (x : ℚ) → SameMeaning (meaning v) (number x) → IsWritten sig ts real name v
  number_written x s = record { name = named; parts = keys_of_number (IsNumberName sig ts real) x v normal s; normal = normal }
