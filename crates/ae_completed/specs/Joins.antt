-- A test of the names of AC symbols: representatives, and the normal form of two of them.
use Rattle.std.specs.Prelude.{ℕ, zero, suc, ◌+◌, Bool, true, false, cond, not, ◌&&◌, ◌||◌, [], ◌∷◌, length, Option, Some, None}
use Rattle.std.specs.List.{list_all}
use Rattle.ae_core.specs.Sorts.{sort_of}
use Rattle.ae_core.specs.declared.problems.AcSymbol.{AcSymbol}
use Rattle.ae_core.specs.declared.problems.Signature.{Signature}
use Rattle.ae_core.specs.declared.terms.Head.{Head}
use Rattle.ae_core.specs.declared.terms.Head.TheVariants as head
use Rattle.ae_core.specs.declared.terms.Op.TheVariants as op
use Rattle.ae_core.specs.declared.terms.Sort.{Sort}
use Rattle.ae_core.specs.declared.terms.Term.{Term, Term-F, out-Term}
use Rattle.ae_core.specs.declared.terms.Term.TheOpen as layer
use Rattle.ae_rules.specs.Linear.{form, is_number}
use Rattle.ae_num.specs.declared.forms.Value.{Value}
use Rattle.ae_journal.specs.declared.systems.System.{System}
use Rattle.ae_decide.specs.Overlaps.{nf, same_names}
use Rattle.ae_decide.specs.Rules.{is_ac, has}
use Rattle.ae_decide.specs.Values.{value_of}

-- the least of m names from k on that is of this sort and has this value
abbrev pub least_from : Signature → System → Sort → Option Value → ℕ → ℕ → Option ℕ
least_from sig y s v k zero = None
least_from sig y s v k (suc m) = cond (has sig y s v k) (Some k) (least_from sig y s v (k + 1) m)

abbrev pub representative_at : Signature → System → Option Value → Option Sort → Option ℕ
representative_at sig y (Some w) (Some s) = least_from sig y s (Some w) 0 (length y.names)
representative_at sig y _ _ = None

-- the name that represents the value of a term
abbrev pub representative_of : Signature → System → Term → Option ℕ
representative_of sig y t = representative_at sig y (value_of y t) (sort_of sig t)

-- neither factor is constant
abbrev pub is_product : Term → Term → Bool
is_product a b = not (is_number (form a)) && not (is_number (form b))

abbrev pub is_join : Signature → Head → Term → Term → Bool
is_join sig (head.Symbol n) a b = is_ac sig (head.Symbol n)
is_join sig (head.Int op.Mul) a b = is_product a b
is_join sig (head.Real op.Mul) a b = is_product a b
is_join sig _ a b = false

-- two names reduce to a third
abbrev pub reduces_to : System → AcSymbol → Option ℕ → Option ℕ → Option ℕ → Bool
reduces_to y c (Some p) (Some q) (Some r) = same_names (nf y.rules c (p ∷ q ∷ [])) (r ∷ [])
reduces_to y c _ _ _ = true

-- the representatives of two terms reduce to that of a symbol applied to them
abbrev pub application_joins : Signature → System → AcSymbol → Term → Term → Term → Bool
application_joins sig y c a b t =
    not (is_join sig c.head a b) || reduces_to y c (representative_of sig y a) (representative_of sig y b) (representative_of sig y t)

abbrev pub joins_by : Signature → System → Term → Term-F Term → Bool
joins_by sig y t (layer.Apply h ss (a ∷ b ∷ [])) = application_joins sig y (record { head = h; sorts = ss }) a b t
joins_by sig y t _ = true

abbrev pub name_joins : Signature → System → Term → Bool
name_joins sig y t = joins_by sig y t (out-Term t)

abbrev pub all_names_join : Signature → System → Bool
all_names_join sig y = list_all (name_joins sig y) y.names
