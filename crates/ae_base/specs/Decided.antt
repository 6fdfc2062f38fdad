-- Decisions as truth values, and equality of the values of a type that has a code.
use mathlib.Core.Path.{refl, ap}
use native.Mathlib.Decide.{ℕ_discrete}
use mathlib.Core.Bool.{Bool, true, false}
use base.Stored.{Gv, gnil, gnum, gcons, Coded}

-- a decision as a truth value
abbrev pub decided : {P : Type 0} → Dec P → Bool
decided (yes p) = true
decided (no n) = false

-- one of two values, by a decision
abbrev pub pick : {P A : Type 0} → Dec P → A → A → A
pick (yes p) a b = a
pick (no n) a b = b

Gv_discrete : Discrete Gv
Gv_discrete gnil gnil = yes refl
Gv_discrete gnil (gnum n) = no (λ e. cc)
Gv_discrete gnil (gcons c d) = no (λ e. cc)
Gv_discrete (gnum m) gnil = no (λ e. cc)
Gv_discrete (gnum m) (gnum n) = elim (ℕ_discrete m n) [ yes e ↦ yes (ap gnum e) | no d ↦ no (λ e. d (cc)) ]
Gv_discrete (gnum m) (gcons c d) = no (λ e. cc)
Gv_discrete (gcons a b) gnil = no (λ e. cc)
Gv_discrete (gcons a b) (gnum n) = no (λ e. cc)
Gv_discrete (gcons a b) (gcons c d) =
    elim (Gv_discrete a c) [
      | yes e ↦ elim (Gv_discrete b d) [ yes f ↦ yes (λ i. gcons (e i) (f i)) | no n ↦ no (λ h. n cc) ]
      | no n ↦ no (λ h. n cc)
    ]

-- equality of the values of a type that has a code
pub decide : {A : Type 0} → Coded A → Discrete A
decide c x y = elim (Gv_discrete (c.code x) (c.code y)) [ yes e ↦ yes (c.inj x y e) | no d ↦ no (λ e. d (ap c.code e)) ]
