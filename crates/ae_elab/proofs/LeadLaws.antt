-- Walks step by step: what the rest of a rule comes to, the whole comes to.
use Rattle.std.proofs.Common.{◌≡◌, ℕ, List, ◌∷◌, sym, ap, append_assoc}
use Rattle.ae_core.specs.declared.terms.Sort.{Sort}
use Rattle.ae_elab.specs.declared.faults.TypeFault.{TypeFault}
use Rattle.ae_elab.specs.Conditions.{Condition}
use Rattle.ae_elab.specs.Rules.{Passed, Rule, Stated, ◌>>◌, ◌⇒◌}
use Rattle.ae_elab.specs.Steps.{IsMet, IsNotMet, IsWalked, IsStopped}
use Rattle.ae_elab.proofs.WalkLaws.{then_walked, then_stops, then_stops_later, demand_walked, demand_stops, demand_stops_later}
use Rattle.ae_elab.proofs.EachLaws.{walked_as, stopped_as}

pub record Leads {A : Type 0} (whole rest : Rule A) (m u : ℕ → Sort) (start now : Passed) : Type 0 where
  pub walks : (w : ℕ → Sort) (q : Passed) (y : A) → IsWalked rest u w now q y → IsWalked whole m w start q y
  pub stops : (e : TypeFault) → IsStopped rest u now e → IsStopped whole m start e

pub lead_start : {A : Type 0} (whole : Rule A) (m : ℕ → Sort) (p : Passed) → Leads whole whole m m p p
lead_start whole m p = record { walks = λ w q y a. a; stops = λ e a. a }

module _ {A : Type 0} (whole : Rule A) (m u : ℕ → Sort) (start now : Passed) where
  pub lead_as : (rest same : Rule A) → rest now ≡ same now → Leads whole rest m u start now → Leads whole same m u start now
  lead_as rest same e g = record {
    walks = λ w q y a. g.walks w q y (walked_as same rest u w now q y (sym e) a);
    stops = λ x a. g.stops x (stopped_as same rest u now x (sym e) a);
  }

  pub lead_condition : (c : Condition) (r : Rule A) (v : ℕ → Sort) → IsMet c u v → Leads whole (c ⇒ r) m u start now → Leads whole r m v start now
  lead_condition c r v h g = record {
    walks = λ w q y a. g.walks w q y (demand_walked c r u v w now q y h a);
    stops = λ x a. g.stops x (demand_stops_later c r u v now x h a);
  }

  pub lead_unmet : (c : Condition) (r : Rule A) (e : TypeFault) → IsNotMet c u e → Leads whole (c ⇒ r) m u start now → IsStopped whole m start e
  lead_unmet c r e h g = g.stops e (demand_stops c r u now e h)

  module _ {B : Type 0} (r : Rule B) (f : B → Rule A) where
    pub lead_part : (v : ℕ → Sort) (next : Passed) (y : B) → IsWalked r u v now next y → Leads whole (r >> f) m u start now → Leads whole (f y) m v start next
    lead_part v next y a g = record {
      walks = λ w q z b. g.walks w q z (then_walked r f u v w now next q y z a b);
      stops = λ x b. g.stops x (then_stops_later r f u v now next y x a b);
    }

    pub lead_fault : (e : TypeFault) → IsStopped r u now e → Leads whole (r >> f) m u start now → IsStopped whole m start e
    lead_fault e a g = g.stops e (then_stops r f u now e a)

-- parts in brackets
module _ {A B C : Type 0} (r : Rule A) (f : A → Rule B) (k : B → Rule C) (p : Passed) where
  abbrev first : Stated A
  first = r p

  abbrev second : Stated B
  second = f first.value first.passed

  abbrev third : Stated C
  third = k second.value second.passed

  pub then_then : ((r >> f) >> k) p ≡ (r >> λ x. f x >> k) p
  then_then = ap (λ (cs : List Condition). record { conditions = cs; passed = third.passed; value = third.value }) (append_assoc first.conditions second.conditions third.conditions)

  pub demand_then : (c : Condition) → ((c ⇒ (r >> f)) >> k) p ≡ (c ⇒ (r >> λ x. f x >> k)) p
  demand_then c =
      ap (λ (cs : List Condition). record { conditions = c ∷ cs; passed = third.passed; value = third.value }) (append_assoc first.conditions second.conditions third.conditions)
