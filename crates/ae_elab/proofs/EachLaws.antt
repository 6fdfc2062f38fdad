-- Walks along lists, and walks of a rule that is another one.
use Rattle.std.proofs.Common.{ℕ, ◌+◌, ◌<◌, ◌≤◌, List, [], ◌∷◌, ◌++◌, ◌≡◌, length, drop, get_or, refl, sym, ap, ◌∙◌, subst}
use Rattle.std.proofs.lemmas.List.{append_assoc, append-nil, drop_more, drop_all}
use Rattle.ae_core.specs.declared.terms.Sort.{Sort}
use Rattle.ae_elab.specs.declared.faults.TypeFault.{TypeFault}
use Rattle.ae_elab.specs.Conditions.{Condition}
use Rattle.ae_elab.specs.Rules.{Passed, Rule, give, ◌>>◌, all_of, each}
use Rattle.ae_elab.specs.Steps.{AreMet, AreNotMet, IsWalked, IsStopped}
use Rattle.ae_elab.proofs.WalkLaws.{both_met, first_stops, second_stops, give_walked, then_walked, then_stops, then_stops_later}

-- ---- a rule that states the same
pub walked_as : {A : Type 0} (r s : Rule A) (m w : ℕ → Sort) (p q : Passed) (x : A) → r p ≡ s p → IsWalked r m w p q x → IsWalked s m w p q x
walked_as r s m w p q x e a = record {
  met = subst (λ z. AreMet z.conditions m w) e a.met;
  value = subst (λ z. z.value ≡ x) e a.value;
  passed = subst (λ z. z.passed ≡ q) e a.passed;
}

pub stopped_as : {A : Type 0} (r s : Rule A) (m : ℕ → Sort) (p : Passed) (e : TypeFault) → r p ≡ s p → IsStopped r m p e → IsStopped s m p e
stopped_as r s m p e h a = subst (λ z. AreNotMet z.conditions m e) h a

-- ---- along a list: what the rest comes to, the whole comes to with what is done
pub record Goes {A B : Type 0} (f : A → Rule B) (xs : List A) (m u : ℕ → Sort) (start now : Passed) (done : List B) (rest : List A) : Type 0 where
  pub walks : (w : ℕ → Sort) (q : Passed) (ys : List B) → IsWalked (each f rest) u w now q ys → IsWalked (each f xs) m w start q (done ++ ys)
  pub stops : (e : TypeFault) → IsStopped (each f rest) u now e → IsStopped (each f xs) m start e

pub goes_start : {A B : Type 0} (f : A → Rule B) (xs : List A) (m : ℕ → Sort) (p : Passed) → Goes f xs m m p p [] xs
goes_start f xs m p = record { walks = λ w q ys a. a; stops = λ e a. a }

pub goes_on : {A B : Type 0} (f : A → Rule B) (xs : List A) (m u v : ℕ → Sort) (start now next : Passed) (done : List B) (x : A) (rest : List A) (y : B)
    → Goes f xs m u start now done (x ∷ rest) → IsWalked (f x) u v now next y → Goes f xs m v start next (done ++ y ∷ []) rest
goes_on {A} {B} f xs m u v start now next done x rest y g a = record {
  walks = λ w q ys b. subst (λ z. IsWalked (each f xs) m w start q z) (sym (append_assoc done (y ∷ []) ys)) (g.walks w q (y ∷ ys) (both w q ys b));
  stops = λ e b. g.stops e (then_stops_later (f x) after u v now next y e a (then_stops (each f rest) (λ ys. give (y ∷ ys)) v next e b));
}
  where
    after : B → Rule (List B)
    after z = each f rest >> λ ys. give (z ∷ ys)

    both : (w : ℕ → Sort) (q : Passed) (ys : List B) → IsWalked (each f rest) v w next q ys → IsWalked (each f (x ∷ rest)) u w now q (y ∷ ys)
    both w q ys b = then_walked (f x) after u v w now next q y (y ∷ ys) a (then_walked (each f rest) (λ zs. give (y ∷ zs)) v w w next q q ys (y ∷ ys) b (give_walked (y ∷ ys) w q))

pub goes_stop : {A B : Type 0} (f : A → Rule B) (xs : List A) (m u : ℕ → Sort) (start now : Passed) (done : List B) (x : A) (rest : List A) (e : TypeFault)
    → Goes f xs m u start now done (x ∷ rest) → IsStopped (f x) u now e → IsStopped (each f xs) m start e
goes_stop f xs m u start now done x rest e g a = g.stops e (then_stops (f x) (λ z. each f rest >> λ ys. give (z ∷ ys)) u now e a)

pub goes_end : {A B : Type 0} (f : A → Rule B) (xs : List A) (m u : ℕ → Sort) (start now : Passed) (done : List B)
    → Goes f xs m u start now done [] → IsWalked (each f xs) m u start now done
goes_end f xs m u start now done g = subst (λ z. IsWalked (each f xs) m u start now z) (append-nil done) (g.walks u now [] (give_walked [] u now))

-- ---- along a list by places
module _ {A B : Type 0} (f : A → Rule B) (xs : List A) (m u : ℕ → Sort) (start now : Passed) (done : List B) (i : ℕ) where
  pub goes_begin : Goes f xs m m start start [] (drop 0 xs)
  goes_begin = goes_start f xs m start

  at_place : (x : A) → i < length xs → x ≡ get_or xs i x → Goes f xs m u start now done (drop i xs) → Goes f xs m u start now done (x ∷ drop (i + 1) xs)
  at_place x l e g = subst (Goes f xs m u start now done) (drop_more xs i x l ∙ ap (λ z. z ∷ drop (i + 1) xs) (sym e)) g

  pub goes_next : (v : ℕ → Sort) (next : Passed) (x : A) (y : B) → i < length xs → x ≡ get_or xs i x → Goes f xs m u start now done (drop i xs) → IsWalked (f x) u v now next y
      → Goes f xs m v start next (done ++ y ∷ []) (drop (i + 1) xs)
  goes_next v next x y l e g a = goes_on f xs m u v start now next done x (drop (i + 1) xs) y (at_place x l e g) a

  pub goes_halt : (x : A) (e : TypeFault) → i < length xs → x ≡ get_or xs i x → Goes f xs m u start now done (drop i xs) → IsStopped (f x) u now e → IsStopped (each f xs) m start e
  goes_halt x e l d g a = goes_stop f xs m u start now done x (drop (i + 1) xs) e (at_place x l d g) a

  pub goes_whole : length xs ≤ i → Goes f xs m u start now done (drop i xs) → IsWalked (each f xs) m u start now done
  goes_whole l g = goes_end f xs m u start now done (subst (Goes f xs m u start now done) (drop_all i xs l) g)

-- ---- conditions before a rule
module _ {A : Type 0} (r : Rule A) (p : Passed) where
  conditions_before : (ds : List Condition) → (all_of ds r p).conditions ≡ ds ++ (r p).conditions
  conditions_before [] = refl
  conditions_before (d ∷ ds) = ap (λ es. d ∷ es) (conditions_before ds)

  value_after : (ds : List Condition) → (all_of ds r p).value ≡ (r p).value
  value_after [] = refl
  value_after (d ∷ ds) = value_after ds

  passed_after : (ds : List Condition) → (all_of ds r p).passed ≡ (r p).passed
  passed_after [] = refl
  passed_after (d ∷ ds) = passed_after ds

  pub all_walked : (ds : List Condition) (m u w : ℕ → Sort) (q : Passed) (x : A) → AreMet ds m u → IsWalked r u w p q x → IsWalked (all_of ds r) m w p q x
  all_walked ds m u w q x a b = record {
    met = subst (λ es. AreMet es m w) (sym (conditions_before ds)) (both_met ds (r p).conditions m u w a b.met);
    value = value_after ds ∙ b.value;
    passed = passed_after ds ∙ b.passed;
  }

  pub all_stop : (ds : List Condition) (m : ℕ → Sort) (e : TypeFault) → AreNotMet ds m e → IsStopped (all_of ds r) m p e
  all_stop ds m e a = subst (λ es. AreNotMet es m e) (sym (conditions_before ds)) (first_stops ds (r p).conditions m e a)

  pub all_stop_later : (ds : List Condition) (m u : ℕ → Sort) (e : TypeFault) → AreMet ds m u → IsStopped r u p e → IsStopped (all_of ds r) m p e
  all_stop_later ds m u e a b = subst (λ es. AreNotMet es m e) (sym (conditions_before ds)) (second_stops ds (r p).conditions m u e a b)
