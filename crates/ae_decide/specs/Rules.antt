-- A test of rules: symbols, representatives, and the order of the sides.
use Rattle.std.specs.Prelude.{ℕ, zero, suc, Bool, true, false, not, ◌&&◌, nat_lt, nat_le, List, length, slice_get, Option, Some, None}
use Rattle.std.specs.List.{list_all}
use Rattle.ae_base.specs.Decided.{decided}
use Rattle.ae_base.specs.Options.{◌>>=◌, or_else}
use Rattle.ae_core.specs.declared.problems.Nature.{Nature}
use Rattle.ae_core.specs.declared.problems.Nature.TheVariants.{Free, Ac, Choice}
use Rattle.ae_core.specs.declared.problems.Signature.{Signature}
use Rattle.ae_core.specs.declared.terms.Head.{Head}
use Rattle.ae_core.specs.declared.terms.Head.TheVariants as head
use Rattle.ae_core.specs.declared.terms.Op.TheVariants as op
use Rattle.ae_core.specs.declared.terms.Sort.{Sort}
use Rattle.ae_num.specs.declared.forms.Value.{Value}
use Rattle.ae_journal.specs.Systems.{ac_sort}
use Rattle.ae_journal.specs.declared.systems.RuleEntry.{RuleEntry}
use Rattle.ae_journal.specs.declared.systems.System.{System}
use Rattle.ae_decide.specs.Inner.Decisions.{less_decided}
use Rattle.ae_decide.specs.Leaves.{has_sort}
use Rattle.ae_decide.specs.Values.{same_known}

abbrev pub is_ac_nature : Nature → Bool
is_ac_nature Free = false
is_ac_nature Ac = true
is_ac_nature (Choice of place) = false

abbrev pub is_ac : Signature → Head → Bool
is_ac sig (head.Symbol n) = or_else (slice_get sig.symbols n >>= λ e. Some (is_ac_nature e.nature)) false
is_ac sig (head.Int op.Mul) = true
is_ac sig (head.Real op.Mul) = true
is_ac sig _ = false

-- a name of this sort and this value
abbrev pub has : Signature → System → Sort → Option Value → ℕ → Bool
has sig y s v n = has_sort sig (slice_get y.names n) s && same_known (slice_get y.values n) v

-- no name below n is
abbrev pub none_below : Signature → System → Sort → Option Value → ℕ → Bool
none_below sig y s v zero = true
none_below sig y s v (suc n) = not (has sig y s v n) && none_below sig y s v n

abbrev pub is_representative : Signature → System → Sort → ℕ → Bool
is_representative sig y s n = has sig y s (slice_get y.values n) n && none_below sig y s (slice_get y.values n) n

abbrev pub is_less : List ℕ → List ℕ → Bool
is_less a b = decided (less_decided a b)

abbrev pub fits_at : Signature → System → RuleEntry → Option Sort → Bool
fits_at sig y e (Some s) =
    is_ac sig e.symbol.head && list_all (is_representative sig y s) e.left && list_all (is_representative sig y s) e.right && nat_lt 0 (length e.right)
    && nat_le 2 (length e.left) && is_less e.right e.left
fits_at sig y e None = false

abbrev pub rule_fits : Signature → System → RuleEntry → Bool
rule_fits sig y e = fits_at sig y e (ac_sort sig e.symbol.head e.symbol.sorts)
