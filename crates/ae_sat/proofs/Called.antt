-- A defining clause of a formula is one that the formula's truth, or its falsehood, calls for, or has the literal itself.
use Rattle.std.proofs.Common.{◌≡◌, ℕ, Bool, true, false, nat_eq, cond, List, [], ◌∷◌, Option, Some, None, refl, sym, ◌∙◌, subst, inl, inr, ◌⊎◌}
use Rattle.std.specs.List.{AllByRecursion, Contains}
use Rattle.std.proofs.lemmas.Bool.{eqb-true}
use Rattle.std.proofs.lemmas.Option.{same_Some}
use Rattle.ae_base.proofs.Options.{never_some}
use Rattle.ae_core.specs.Inner.Induction.{by_formulas}
use Rattle.ae_core.specs.declared.formulas.Formula.{Formula, True, False, Eq, Lt, Le, Pred, Not, And, Or, Xor, Iff, All, Ex}
use Rattle.ae_journal.proofs.Splits.{contains_here, contains_later}
use Rattle.ae_rules.specs.Clauses.{Clause, yes_of, no_of, is_true, is_false, row, row_at}
use Rattle.ae_rules.specs.Defining.{called_rows}
use Rattle.ae_rules.specs.declared.rows.TheConstants.{AND_TO_LEFT, AND_TO_RIGHT, AND_FROM_BOTH, OR_FROM_LEFT, OR_FROM_RIGHT, OR_TO_EITHER, IFF_TO_RIGHT, IFF_TO_LEFT, IFF_FROM_NEITHER}
use Rattle.ae_rules.specs.declared.rows.TheConstants.{IFF_FROM_BOTH, XOR_TO_EITHER, XOR_TO_NOT_BOTH, XOR_FROM_LEFT, XOR_FROM_RIGHT, TRUE_STANDS, FALSE_FAILS}
use Rattle.ae_rules.proofs.ClauseLaws.{row_true, row_false, row_eq, row_lt, row_le, row_pred, row_not, row_and, row_or, row_xor, row_iff, row_all, row_ex}
use Rattle.ae_rules.proofs.Defining.{called_true, called_false, called_and_yes, called_and_no, called_or_yes, called_or_no, called_xor_yes, called_xor_no, called_iff_yes, called_iff_no}

module _ (f : Formula) (sign : Bool) where
  -- the row of this number is called for, or the clause has the literal
  abbrev pub CalledOrOwn : ℕ → Clause → Type 0
  CalledOrOwn r c = Contains (called_rows sign f) r ⊎ Contains c (record { positive = sign; formula = f })

  chosen : (r : ℕ) (n : ℕ) (d : Clause) (rest : Option Clause) (c : Clause) (b : Bool) → (b ≡ true → n ≡ r) → cond b (Some d) rest ≡ Some c → CalledOrOwn n d → (rest ≡ Some c → CalledOrOwn r c) → CalledOrOwn r c
  chosen r n d rest c true same e h other = subst (λ (k : ℕ). CalledOrOwn k c) (same refl) (subst (CalledOrOwn n) (same_Some d c e) h)
  chosen r n d rest c false same e h other = other e

  tabled : (r : ℕ) (table : List (ℕ × Clause)) (c : Clause) → row_at r table ≡ Some c → AllByRecursion (λ (t : ℕ × Clause). CalledOrOwn t.0 t.1) table → CalledOrOwn r c
  tabled r [] c e a = never_some c e
  tabled r (t ∷ ts) c e a = chosen r t.0 t.1 (row_at r ts) c (nat_eq r t.0) (λ h. sym (eqb-true r t.0 h)) e a.0 (λ q. tabled r ts c q a.1)

  first : (rest : Clause) → Contains (record { positive = sign; formula = f } ∷ rest) (record { positive = sign; formula = f })
  first rest = contains_here (record { positive = sign; formula = f }) rest

  called : (rows : List ℕ) (r : ℕ) → called_rows sign f ≡ rows → Contains rows r → Contains (called_rows sign f) r
  called rows r e h = subst (λ (w : List ℕ). Contains w r) (sym e) h

abbrev Called : Formula → Type 0
Called f = (sign : Bool) (r : ℕ) (c : Clause) → row r f ≡ Some c → CalledOrOwn f sign r c

no_row : (f : Formula) → ((r : ℕ) → row r f ≡ None) → Called f
no_row f n sign r c e = never_some c (sym (n r) ∙ e)

one_of : (m : ℕ) (rest : List ℕ) → Contains (m ∷ rest) m
one_of = contains_here

two_of : (m n : ℕ) → Contains (m ∷ n ∷ []) n
two_of m n = contains_later m (n ∷ []) n (contains_here n [])

of_and : (a b : Formula) → Called (And a b)
of_and a b true r c e =
    tabled (And a b) true r
    ((AND_TO_LEFT, is_false (And a b) ∷ yes_of a ∷ []) ∷ (AND_TO_RIGHT, is_false (And a b) ∷ yes_of b ∷ []) ∷ (AND_FROM_BOTH, is_true (And a b) ∷ no_of a ∷ no_of b ∷ []) ∷ []) c
    (sym (row_and r a b) ∙ e)
    (inl (called (And a b) true (1 ∷ 2 ∷ []) 1 (called_and_yes a b) (one_of 1 (2 ∷ []))), (inl (called (And a b) true (1 ∷ 2 ∷ []) 2 (called_and_yes a b) (two_of 1 2)), (inr (first (And a b) true (no_of a ∷ no_of b ∷ [])), tt)))
of_and a b false r c e =
    tabled (And a b) false r
    ((AND_TO_LEFT, is_false (And a b) ∷ yes_of a ∷ []) ∷ (AND_TO_RIGHT, is_false (And a b) ∷ yes_of b ∷ []) ∷ (AND_FROM_BOTH, is_true (And a b) ∷ no_of a ∷ no_of b ∷ []) ∷ []) c
    (sym (row_and r a b) ∙ e)
    (inr (first (And a b) false (yes_of a ∷ [])), (inr (first (And a b) false (yes_of b ∷ [])), (inl (called (And a b) false (3 ∷ []) 3 (called_and_no a b) (one_of 3 [])), tt)))

of_or : (a b : Formula) → Called (Or a b)
of_or a b true r c e =
    tabled (Or a b) true r
    ((OR_FROM_LEFT, is_true (Or a b) ∷ no_of a ∷ []) ∷ (OR_FROM_RIGHT, is_true (Or a b) ∷ no_of b ∷ []) ∷ (OR_TO_EITHER, is_false (Or a b) ∷ yes_of a ∷ yes_of b ∷ []) ∷ []) c
    (sym (row_or r a b) ∙ e)
    (inr (first (Or a b) true (no_of a ∷ [])), (inr (first (Or a b) true (no_of b ∷ [])), (inl (called (Or a b) true (6 ∷ []) 6 (called_or_yes a b) (one_of 6 [])), tt)))
of_or a b false r c e =
    tabled (Or a b) false r
    ((OR_FROM_LEFT, is_true (Or a b) ∷ no_of a ∷ []) ∷ (OR_FROM_RIGHT, is_true (Or a b) ∷ no_of b ∷ []) ∷ (OR_TO_EITHER, is_false (Or a b) ∷ yes_of a ∷ yes_of b ∷ []) ∷ []) c
    (sym (row_or r a b) ∙ e)
    (inl (called (Or a b) false (4 ∷ 5 ∷ []) 4 (called_or_no a b) (one_of 4 (5 ∷ []))), (inl (called (Or a b) false (4 ∷ 5 ∷ []) 5 (called_or_no a b) (two_of 4 5)), (inr (first (Or a b) false (yes_of a ∷ yes_of b ∷ [])), tt)))

of_iff : (a b : Formula) → Called (Iff a b)
of_iff a b true r c e =
    tabled (Iff a b) true r
    ((IFF_TO_RIGHT, is_false (Iff a b) ∷ no_of a ∷ yes_of b ∷ []) ∷ (IFF_TO_LEFT, is_false (Iff a b) ∷ yes_of a ∷ no_of b ∷ [])
    ∷ (IFF_FROM_NEITHER, is_true (Iff a b) ∷ yes_of a ∷ yes_of b ∷ []) ∷ (IFF_FROM_BOTH, is_true (Iff a b) ∷ no_of a ∷ no_of b ∷ []) ∷ []) c
    (sym (row_iff r a b) ∙ e) (
      inl (called (Iff a b) true (7 ∷ 8 ∷ []) 7 (called_iff_yes a b) (one_of 7 (8 ∷ []))),
      (
        inl (called (Iff a b) true (7 ∷ 8 ∷ []) 8 (called_iff_yes a b) (two_of 7 8)),
        (inr (first (Iff a b) true (yes_of a ∷ yes_of b ∷ [])), (inr (first (Iff a b) true (no_of a ∷ no_of b ∷ [])), tt)),
      ),
    )
of_iff a b false r c e =
    tabled (Iff a b) false r
    ((IFF_TO_RIGHT, is_false (Iff a b) ∷ no_of a ∷ yes_of b ∷ []) ∷ (IFF_TO_LEFT, is_false (Iff a b) ∷ yes_of a ∷ no_of b ∷ [])
    ∷ (IFF_FROM_NEITHER, is_true (Iff a b) ∷ yes_of a ∷ yes_of b ∷ []) ∷ (IFF_FROM_BOTH, is_true (Iff a b) ∷ no_of a ∷ no_of b ∷ []) ∷ []) c
    (sym (row_iff r a b) ∙ e) (
      inr (first (Iff a b) false (no_of a ∷ yes_of b ∷ [])),
      (
        inr (first (Iff a b) false (yes_of a ∷ no_of b ∷ [])),
        (inl (called (Iff a b) false (9 ∷ 10 ∷ []) 9 (called_iff_no a b) (one_of 9 (10 ∷ []))), (inl (called (Iff a b) false (9 ∷ 10 ∷ []) 10 (called_iff_no a b) (two_of 9 10)), tt)),
      ),
    )

of_xor : (a b : Formula) → Called (Xor a b)
of_xor a b true r c e =
    tabled (Xor a b) true r
    ((XOR_TO_EITHER, is_false (Xor a b) ∷ yes_of a ∷ yes_of b ∷ []) ∷ (XOR_TO_NOT_BOTH, is_false (Xor a b) ∷ no_of a ∷ no_of b ∷ [])
    ∷ (XOR_FROM_LEFT, is_true (Xor a b) ∷ no_of a ∷ yes_of b ∷ []) ∷ (XOR_FROM_RIGHT, is_true (Xor a b) ∷ yes_of a ∷ no_of b ∷ []) ∷ []) c
    (sym (row_xor r a b) ∙ e) (
      inl (called (Xor a b) true (11 ∷ 12 ∷ []) 11 (called_xor_yes a b) (one_of 11 (12 ∷ []))),
      (
        inl (called (Xor a b) true (11 ∷ 12 ∷ []) 12 (called_xor_yes a b) (two_of 11 12)),
        (inr (first (Xor a b) true (no_of a ∷ yes_of b ∷ [])), (inr (first (Xor a b) true (yes_of a ∷ no_of b ∷ [])), tt)),
      ),
    )
of_xor a b false r c e =
    tabled (Xor a b) false r
    ((XOR_TO_EITHER, is_false (Xor a b) ∷ yes_of a ∷ yes_of b ∷ []) ∷ (XOR_TO_NOT_BOTH, is_false (Xor a b) ∷ no_of a ∷ no_of b ∷ [])
    ∷ (XOR_FROM_LEFT, is_true (Xor a b) ∷ no_of a ∷ yes_of b ∷ []) ∷ (XOR_FROM_RIGHT, is_true (Xor a b) ∷ yes_of a ∷ no_of b ∷ []) ∷ []) c
    (sym (row_xor r a b) ∙ e) (
      inr (first (Xor a b) false (yes_of a ∷ yes_of b ∷ [])),
      (
        inr (first (Xor a b) false (no_of a ∷ no_of b ∷ [])),
        (inl (called (Xor a b) false (13 ∷ 14 ∷ []) 13 (called_xor_no a b) (one_of 13 (14 ∷ []))), (inl (called (Xor a b) false (13 ∷ 14 ∷ []) 14 (called_xor_no a b) (two_of 13 14)), tt)),
      ),
    )

pub called_or_own : (f : Formula) → Called f
called_or_own =
    by_formulas Called (λ q. Unit {0})
    (λ sign r c e. tabled True sign r ((TRUE_STANDS, is_true True ∷ []) ∷ []) c (sym (row_true r) ∙ e) (inl (called True sign (15 ∷ []) 15 (called_true sign) (one_of 15 [])), tt))
    (λ sign r c e. tabled False sign r ((FALSE_FAILS, is_false False ∷ []) ∷ []) c (sym (row_false r) ∙ e) (inl (called False sign (16 ∷ []) 16 (called_false sign) (one_of 16 [])), tt))
    (λ a b. no_row (Eq a b) (λ r. row_eq r a b))
    (λ a b. no_row (Lt a b) (λ r. row_lt r a b))
    (λ a b. no_row (Le a b) (λ r. row_le r a b))
    (λ q os us. no_row (Pred q os us) (λ r. row_pred r q os us))
    (λ a h. no_row (Not a) (λ r. row_not r a))
    (λ a b h k. of_and a b)
    (λ a b h k. of_or a b)
    (λ a b h k. of_xor a b)
    (λ a b h k. of_iff a b)
    (λ q h. no_row (All q) (λ r. row_all r q))
    (λ q h. no_row (Ex q) (λ r. row_ex r q))
    (λ q h. tt)
