-- A numbering of all formulas: those that were opened keep their numbers, and the others have theirs behind these, each with room for its variables.
use Rattle.std.specs.Prelude.{ℕ, zero, suc, ◌+◌, ◌<◌, ◌≤◌, ◌≡◌, ◌≢◌, ◌⊎◌, List, [], ◌∷◌}
use Rattle.std.specs.List.{Contains}
use Rattle.std.proofs.Common.{refl, sym, ap, ◌∙◌, subst, arith, inl, inr}
use Rattle.std.proofs.lemmas.Bool.{cases_lt}
use Rattle.ae_base.specs.Decided.{pick}
use Rattle.ae_base.proofs.Decided.{pick_yes, pick_no}
use Rattle.ae_core.specs.Decided.{Formula_discrete}
use Rattle.ae_core.specs.declared.formulas.Formula.{Formula}
use Rattle.ae_journal.proofs.Splits.{contains_here, contains_later, contains_cases}
use Rattle.ae_block_constants.specs.Blocks.{variables, AreApart, Agrees, HaveOwnNumbers}
use Rattle.ae_block_constants.specs.declared.opened.Opened.{Opened}
use Rattle.ae_block_constants.proofs.Codes.{formula_number, variables_within, same_formula}

-- ---- where the room of a number begins, which is as long as the number
abbrev start : ℕ → ℕ
start zero = zero
start (suc n) = start n + n

rooms : (m n : ℕ) → m < n → start m + m ≤ start n
rooms m zero h = absurd (omega (arith, h))
rooms m (suc n) h =
    let r : start m + m ≤ start n + n = elim (cases_lt m n) as (λ _. start m + m ≤ start n + n) [
      | inl l ↦ let k = rooms m n l in omega (arith, k)
      | inr g ↦ let e : m ≡ n = omega (arith, h, g) in let s = ap (λ k. start k) e in omega (arith, e, s)
    ] in r

room_of : (f : Formula) (i : ℕ) → i < variables f → start (formula_number f) + i < start (formula_number f) + formula_number f
room_of f i l = let v = variables_within f in omega (arith, l, v)

-- what stands in the rooms of two formulas is of one
one_room : (f h : Formula) (i j : ℕ) → i < variables f → j < variables h → start (formula_number f) + i ≡ start (formula_number h) + j → f ≡ h
one_room f h i j l m e =
    let a = room_of f i l in
    let b = room_of h j m in
    elim (cases_lt (formula_number f) (formula_number h)) as (λ _. f ≡ h) [
      | inl k ↦ absurd (let r = rooms (formula_number f) (formula_number h) k in omega (arith, a, e, r))
      | inr k ↦ elim (cases_lt (formula_number h) (formula_number f)) as (λ _. f ≡ h) [
        | inl g ↦ absurd (let r = rooms (formula_number h) (formula_number f) g in omega (arith, b, e, r))
        | inr g ↦ same_formula f h (omega (arith, k, g))
      ]
    ]

-- ---- the numbering
module _ (next : ℕ) where
  abbrev behind : Formula → ℕ
  behind f = next + start (formula_number f)

  abbrev pub first_of : List Opened → Formula → ℕ
  first_of [] f = behind f
  first_of (o ∷ os) f = pick (Formula_discrete o.formula f) o.first (first_of os f)

  -- a formula was opened and has the number that it got, or wasn't and has its own
  abbrev IsFound : List Opened → Formula → Type 0
  IsFound os f = ((o : Opened) × Contains os o × (o.formula ≡ f) × (first_of os f ≡ o.first)) ⊎ (((o : Opened) → Contains os o → o.formula ≢ f) × (first_of os f ≡ behind f))

  found : (os : List Opened) (f : Formula) → IsFound os f
  found [] f = inr ((λ o h. absurd (omega (arith, h.1))), refl)
  found (o ∷ os) f =
      elim (Formula_discrete o.formula f) as (λ _. IsFound (o ∷ os) f) [
        | yes e ↦ inl (o, contains_here o os, e, pick_yes (Formula_discrete o.formula f) o.first (first_of os f) e)
        | no n ↦
            let skip : first_of (o ∷ os) f ≡ first_of os f = pick_no (Formula_discrete o.formula f) o.first (first_of os f) n in
            elim (found os f) as (λ _. IsFound (o ∷ os) f) [
              | inl w ↦ inl (w.0, contains_later o os w.0 w.1, w.2, skip ∙ w.3)
              | inr w ↦ inr ((λ e h. elim (contains_cases o os e h) as (λ _. e.formula ≢ f) [ inl q ↦ (λ z. n (ap (λ (x : Opened). x.formula) q ∙ z)) | inr r ↦ w.0 e r ]), skip ∙ w.1)
            ]
      ]

  module _ (opened : List Opened) (a : AreApart next opened) where
    pub agrees : Agrees opened (first_of opened)
    agrees o h = elim (found opened o.formula) as (λ _. first_of opened o.formula ≡ o.first) [
      | inl w ↦ w.3 ∙ a.once w.0 o w.1 h w.2
      | inr w ↦ absurd (w.0 o h refl)
    ]

    -- the constants of what was opened are below those of all other formulas
    before_next : (o : Opened) (f : Formula) (i : ℕ) → Contains opened o → o.formula ≡ f → first_of opened f ≡ o.first → i < variables f → first_of opened f + i < next
    before_next o f i h p q l =
        let v : i < variables o.formula = subst (λ (z : Formula). i < variables z) (sym p) l in
        let b = a.below o h in
        omega (arith, q, v, b)

    pub own_numbers : HaveOwnNumbers (first_of opened)
    own_numbers f h i j l m e =
        elim (found opened f) as (λ _. f ≡ h) [
          | inl w ↦ elim (found opened h) as (λ _. f ≡ h) [
            | inl v ↦
                let s : (w.0).first + i ≡ (v.0).first + j = omega (arith, e, w.3, v.3) in
                sym w.2 ∙ a.apart w.0 v.0 i j w.1 v.1 (subst (λ (z : Formula). i < variables z) (sym w.2) l) (subst (λ (z : Formula). j < variables z) (sym v.2) m) s ∙ v.2
            | inr v ↦ absurd (let b = before_next w.0 f i w.1 w.2 w.3 l in let u = v.1 in omega (arith, b, u, e))
          ]
          | inr w ↦ elim (found opened h) as (λ _. f ≡ h) [
            | inl v ↦ absurd (let b = before_next v.0 h j v.1 v.2 v.3 m in let u = w.1 in omega (arith, b, u, e))
            | inr v ↦ one_room f h i j l m (let u = w.1 in let t = v.1 in omega (arith, u, t, e))
          ]
        ]
