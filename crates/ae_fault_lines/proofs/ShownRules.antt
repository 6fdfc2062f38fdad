-- The texts of sorts as a fault's line shows them, variant by variant.
use Rattle.std.proofs.Common.{arith, ℕ, List, [], ◌∷◌, ◌++◌, ◌≡◌, map, decimal, length, sym, ap, ◌∙◌, append_assoc, append-nil, codes}
use Rattle.ae_codes.specs.Listings.{joined}
use Rattle.ae_core.specs.declared.terms.Sort.{Sort, Var, Rigid, Int, Real, Bool as BoolSort, Unit as UnitSort, Named, fold-roll-Sort}
use Rattle.ae_core.specs.declared.terms.Sort.TheOpen as sort_layer
use Rattle.ae_core.specs.declared.terms.Sort.TheVariants.{rolls-Var, rolls-Rigid, rolls-Int, rolls-Real, rolls-Bool, rolls-Unit, rolls-Named}
use Rattle.ae_prooftext.specs.Texts.{get}
use Rattle.ae_fault_lines.specs.Lines.{shown_text, shown_step}
use Rattle.ae_fault_lines.specs.Inner.Pieces.{spaced_sorts, compound_bytes}

module _ (types : List (List ℕ)) where
  pub shown_var : (n : ℕ) → shown_text types (Var n) ≡ codes "_"
  unfolding shown_text
  shown_var n = ap (shown_text types) (sym (rolls-Var n)) ∙ fold-roll-Sort (List ℕ) (shown_step types) (sort_layer.Var n)

  pub shown_rigid : (n : ℕ) → shown_text types (Rigid n) ≡ codes "'" ++ decimal n
  unfolding shown_text
  shown_rigid n = ap (shown_text types) (sym (rolls-Rigid n)) ∙ fold-roll-Sort (List ℕ) (shown_step types) (sort_layer.Rigid n)

  pub shown_int : shown_text types Int ≡ codes "int"
  unfolding shown_text
  shown_int = ap (shown_text types) (sym rolls-Int) ∙ fold-roll-Sort (List ℕ) (shown_step types) sort_layer.Int

  pub shown_real : shown_text types Real ≡ codes "real"
  unfolding shown_text
  shown_real = ap (shown_text types) (sym rolls-Real) ∙ fold-roll-Sort (List ℕ) (shown_step types) sort_layer.Real

  pub shown_bool : shown_text types BoolSort ≡ codes "bool"
  unfolding shown_text
  shown_bool = ap (shown_text types) (sym rolls-Bool) ∙ fold-roll-Sort (List ℕ) (shown_step types) sort_layer.Bool

  pub shown_unit : shown_text types UnitSort ≡ codes "unit"
  unfolding shown_text
  shown_unit = ap (shown_text types) (sym rolls-Unit) ∙ fold-roll-Sort (List ℕ) (shown_step types) sort_layer.Unit

  -- arguments, with a blank between two
  listed : (s : Sort) (ss : List Sort) → joined 41 (shown_text types s) (map (shown_text types) ss) ≡ (shown_text types s ++ spaced_sorts types ss) ++ 41 ∷ []
  listed s [] = ap (λ z. z ++ 41 ∷ []) (sym (append-nil (shown_text types s)))
  listed s (t ∷ ts) =
      ap (λ z. (shown_text types s ++ 32 ∷ []) ++ z) (listed t ts)
      ∙ append_assoc (shown_text types s) (32 ∷ []) ((shown_text types t ++ spaced_sorts types ts) ++ 41 ∷ [])
      ∙ sym (append_assoc (shown_text types s) (32 ∷ (shown_text types t ++ spaced_sorts types ts)) (41 ∷ []))

  lone : (k : ℕ) → shown_text types (Named k []) ≡ get types k
  unfolding shown_text
  lone k = ap (shown_text types) (sym (rolls-Named k [])) ∙ fold-roll-Sort (List ℕ) (shown_step types) (sort_layer.Named k [])

  pub shown_lone : (k : ℕ) (args : List Sort) → length args ≡ 0 → shown_text types (Named k args) ≡ get types k
  shown_lone k [] e = lone k
  shown_lone k (s ∷ ss) e = absurd (omega (arith, e))

  pub shown_named : (k : ℕ) (s : Sort) (ss : List Sort) → shown_text types (Named k (s ∷ ss)) ≡ compound_bytes types k (s ∷ ss)
  unfolding shown_text
  shown_named k s ss =
      ap (shown_text types) (sym (rolls-Named k (s ∷ ss))) ∙ fold-roll-Sort (List ℕ) (shown_step types) (sort_layer.Named k (s ∷ ss))
      ∙ ap (λ z. 40 ∷ (get types k ++ 32 ∷ z)) (listed s ss)
      ∙ ap (λ z. 40 ∷ z) (sym (append_assoc (get types k) (spaced_sorts types (s ∷ ss)) (41 ∷ [])))

pub ruleset shown_rules = (append-nil, shown_var, shown_rigid, shown_int, shown_real, shown_bool, shown_unit)
