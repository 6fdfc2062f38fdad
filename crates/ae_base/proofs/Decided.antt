-- What a decision's truth value, and the choice by it, tell. Cases by a decision are the library's `by_cases` (Math.Logic).
use Rattle.std.specs.Prelude.{◌≡◌, true, false}
use Rattle.std.proofs.Common.{refl}
use Rattle.ae_base.specs.Decided.{decided, pick}
use Rattle.ae_base.proofs.Tests.{false_true, true_false}

pub decided_yes : {P : Type 0} (d : Dec P) → decided d ≡ true → P
decided_yes (yes p) e = p
decided_yes (no n) e = false_true e

pub decided_of : {P : Type 0} (d : Dec P) → P → decided d ≡ true
decided_of (yes p) q = refl
decided_of (no n) q = absurd (n q)

pub decided_no : {P : Type 0} (d : Dec P) → decided d ≡ false → ¬ P
decided_no (yes p) e = true_false e
decided_no (no n) e = n

pub decided_not : {P : Type 0} (d : Dec P) → ¬ P → decided d ≡ false
decided_not (yes p) m = absurd (m p)
decided_not (no n) m = refl

pub pick_yes : {P A : Type 0} (d : Dec P) (a b : A) → P → pick d a b ≡ a
pick_yes (yes p) a b q = refl
pick_yes (no n) a b q = absurd (n q)

pub pick_no : {P A : Type 0} (d : Dec P) (a b : A) → ¬ P → pick d a b ≡ b
pick_no (yes p) a b m = absurd (m p)
pick_no (no n) a b m = refl
