-- Tests of values: written values compared, and the values of terms.
use Rattle.std.specs.Prelude.{ℕ, ◌+◌, Bool, true, false, cond, ◌&&◌, List, [], ◌∷◌, slice_get, Option, Some, None}
use Rattle.ae_base.specs.Decided.{decide, decided}
use Rattle.ae_base.specs.Options.{◌>>=◌}
use Rattle.ae_core.specs.Decided.{Term_discrete}
use Rattle.ae_core.specs.declared.terms.Term.{Term}
use Rattle.ae_num.specs.contracts.forms.Value as value_contract
use Rattle.ae_num.specs.declared.forms.Value.{Value}
use Rattle.ae_journal.specs.declared.systems.System.{System}

pub Value_discrete : Discrete Value
Value_discrete = decide value_contract.the_row.coded

-- the first place of a term, counted from k
abbrev pub place_from : ℕ → List Term → Term → Option ℕ
place_from k [] t = None
place_from k (u ∷ us) t = cond (decided (Term_discrete u t)) (Some k) (place_from (k + 1) us t)

-- the value written for a term
abbrev pub value_of : System → Term → Option Value
value_of y t = place_from 0 y.names t >>= λ n. slice_get y.values n

abbrev pub same_known : Option Value → Option Value → Bool
same_known (Some v) (Some w) = decided (Value_discrete v w)
same_known _ _ = false

abbrev pub are_alike : System → Term → Term → Bool
are_alike y t u = same_known (value_of y t) (value_of y u)

-- each term and the other at its place
abbrev pub all_alike : System → List Term → List Term → Bool
all_alike y [] [] = true
all_alike y (t ∷ ts) (u ∷ us) = are_alike y t u && all_alike y ts us
all_alike y _ _ = false
