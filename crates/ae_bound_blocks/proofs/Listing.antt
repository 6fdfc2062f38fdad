-- The numbers of marked rows, one row more.
use Rattle.std.specs.Prelude.{ℕ, ◌+◌, ◌≡◌, ◌⊎◌, Bool, true, List, [], ◌∷◌, ◌++◌, Some, slice_get}
use Rattle.std.specs.List.{Contains}
use Rattle.std.proofs.Common.{arith, sym, subst, inl, inr}
use Rattle.std.proofs.lemmas.Bool.{cases_lt}
use Rattle.std.proofs.lemmas.List.Elements.{Contains-append_left, Contains-append_right, Contains-append_cases}
use Rattle.ae_journal.proofs.Splits.{contains_one, contains_here, all_contained}
use Rattle.ae_bounds.specs.declared.rows.Row.{Row}
use Rattle.ae_trim.specs.Inner.Marks.{marked}
use Rattle.ae_bound_blocks.specs.Tight.{IsGivenRow}
use Rattle.ae_bound_blocks.specs.Inner.Listed.{IsListed, AreListed}

pub none_listed : (rows : List Row) (marks : List Bool) → AreListed rows marks 0 []
none_listed rows marks = record { sound = λ k c. absurd (all_contained (λ (x : ℕ). ⊥) [] k tt c); all = λ k w. absurd (let l = w.within in omega (arith, l)) }

module _ (rows : List Row) (marks : List Bool) (n : ℕ) (old : List ℕ) (a : AreListed rows marks n old) where
  longer : (k : ℕ) → IsListed rows marks n k → IsListed rows marks (n + 1) k
  longer k w = record { row = w.row; at = w.at; is_given = w.is_given; is_marked = w.is_marked; within = (let l = w.within in omega (arith, l)) }

  shorter : (k : ℕ) → IsListed rows marks (n + 1) k → IsListed rows marks n k ⊎ (n ≡ k)
  shorter k w = elim (cases_lt k n) [
    | inl l ↦ inl (record { row = w.row; at = w.at; is_given = w.is_given; is_marked = w.is_marked; within = l })
    | inr l ↦ inr (let b = w.within in omega (arith, l, b))
  ]

  pub listed_push : (r : Row) → slice_get rows n ≡ Some r → IsGivenRow r → marked marks n ≡ true → AreListed rows marks (n + 1) (old ++ n ∷ [])
  listed_push r at g m = record { sound = sound; all = all }
    where
      sound : (k : ℕ) → Contains (old ++ n ∷ []) k → IsListed rows marks (n + 1) k
      sound k c = elim (Contains-append_cases old (n ∷ []) k c) [
        | inl d ↦ longer k (a.sound k d)
        | inr d ↦ subst (IsListed rows marks (n + 1)) (contains_one n k d) (record { row = r; at = at; is_given = g; is_marked = m; within = omega arith })
      ]

      all : (k : ℕ) → IsListed rows marks (n + 1) k → Contains (old ++ n ∷ []) k
      all k w = elim (shorter k w) [
        | inl v ↦ Contains-append_left old (n ∷ []) k (a.all k v)
        | inr e ↦ subst (Contains (old ++ n ∷ [])) e (Contains-append_right old (n ∷ []) n (contains_here n []))
      ]

  pub listed_skip : ((r : Row) → slice_get rows n ≡ Some r → IsGivenRow r → marked marks n ≡ true → ⊥) → AreListed rows marks (n + 1) old
  listed_skip none = record { sound = λ k c. longer k (a.sound k c); all = all }
    where
      all : (k : ℕ) → IsListed rows marks (n + 1) k → Contains old k
      all k w = elim (shorter k w) [
        | inl v ↦ a.all k v
        | inr e ↦ absurd (let v = subst (IsListed rows marks (n + 1)) (sym e) w in none v.row v.at v.is_given v.is_marked)
      ]
