-- Versions that last, and what is held again.
use Rattle.std.specs.Prelude.{ℕ, ◌≤◌, ◌<◌, ◌≡◌, ◌≢◌, List, [], ◌∷◌, ◌++◌, length, Result, Ok, Err, OnOk, OnErr}
use Rattle.std.specs.List.{Contains}
use Rattle.std.proofs.Common.{sym, ap, ◌∙◌, subst, arith, inl, inr}
use Rattle.std.proofs.lemmas.List.{length-append, append_assoc}
use native.Mathlib.Decide.{ℕ_discrete}
use Rattle.ae_pmap.specs.Forest.{present, Lasts as MapLasts}
use Rattle.ae_pmap.specs.Pairs.{found}
use Rattle.ae_monoid.specs.Rules.{rule_at}
use Rattle.ae_monoid.specs.Versions.{Lasts as RulesLast}
use Rattle.ae_equations.specs.declared.pairs.Link.{Link}
use Rattle.ae_equations.specs.declared.pairs.Pairs.{Pairs}
use Rattle.ae_equations.specs.Paired.{partners}
use Rattle.ae_equations.specs.Held.{Contents, ArePairsGiven}
use Rattle.ae_equations.specs.Versions.{IsAs, Lasts}
use Rattle.ae_equations.specs.Inner.Chained.{AreChained, AreNoted}
use Rattle.ae_equations.specs.Inner.Holding.{IsHolding}
use Rattle.ae_equations.specs.Inner.Placed.{ArePlaced}
use Rattle.ae_equations.proofs.ChainLaws.{nothing_in, in_either, partners_kept}
use Rattle.ae_equations.proofs.QueueLaws.{placed_as, waiting_as}

-- each part lasts
pub lasts_by : (old new : Contents) → RulesLast old.rules new.rules → MapLasts old.pairs.heads new.pairs.heads → (more : List Link) → new.pairs.links ≡ old.pairs.links ++ more
    → MapLasts old.queue.places new.queue.places → Lasts old new
lasts_by old new rules heads more is places shared then h =
    record {
      rules = rules shared.rules (λ n. rule_at then.rules n) then.rules.next h.rules;
      heads = heads shared.heads (present then.pairs.heads) h.heads;
      links = (h.links.0 ++ more, is ∙ ap (λ (ls : List Link). ls ++ more) h.links.1 ∙ append_assoc then.pairs.links h.links.0 more);
      places = places shared.places (present then.queue.places) h.places;
      next = h.next;
      held = h.held;
    }

-- rules that were paired keep their numbers
pub given_later : (pairs : Pairs) (next more : ℕ) → ArePairsGiven pairs next → next ≤ more → ArePairsGiven pairs more
given_later pairs next more g l = record { each = λ m n t. (let b = g.each m n t in let x = b.0 in let y = b.1 in (omega (arith, x, l), omega (arith, y, l))) }

pub given_same : (pairs : Pairs) (next more : ℕ) → ArePairsGiven pairs next → more ≡ next → ArePairsGiven pairs more
given_same pairs next more g e = given_later pairs next more g (omega (arith, e))

-- after going back
module _ (then new : Contents) (more : List Link) (h : IsHolding then) (links : new.pairs.links ≡ then.pairs.links ++ more) (heads : present new.pairs.heads ≡ present then.pairs.heads) (len : new.rules.next ≡ then.rules.next)
    (places : present new.queue.places ≡ present then.queue.places) (next : new.queue.next ≡ then.queue.next) where
  same_partners : (n : ℕ) → partners new.pairs n ≡ partners then.pairs n
  same_partners n = partners_kept then.pairs new.pairs.links more (present new.pairs.heads) h.noted links heads n

  pub held_again : ((n : ℕ) → rule_at new.rules n ≡ rule_at then.rules n) → IsAs new then
  held_again rules = record { rules = rules; len = len; pairs = same_partners; waiting = waiting_as then.queue new.queue places }

  pub holding_again : AreChained new.pairs.links → IsHolding new
  holding_again chained =
      record {
        noted =
            record {
              chained = chained;
              within = λ n head e. (
                  let b = h.noted.within n head (sym (ap (λ (ps : List (ℕ × ℕ)). found ps n) heads) ∙ e) in omega (arith, b, ap length links, length-append then.pairs.links more)
                  );
            };
        given = record { each = λ m n t. (let b = h.given.each m n (subst (λ (ns : List ℕ). Contains ns n) (same_partners m) t) in let x = b.0 in let y = b.1 in (omega (arith, x, len), omega (arith, y, len))) };
        placed = placed_as then.queue new.queue h.placed places next;
      }

-- nothing is held
pub holding_none : (c : Contents) → AreNoted c.pairs → ((n : ℕ) → partners c.pairs n ≡ []) → ArePlaced c.queue → IsHolding c
holding_none c noted none placed = record { noted = noted; given = record { each = λ m n t. absurd (nothing_in n (subst (λ (ns : List ℕ). Contains ns n) (none m) t)) }; placed = placed }

-- a rule is one's last partner
pub given_more : (pairs new : Pairs) (next first second : ℕ) → ArePairsGiven pairs next → first < next → second < next → partners new first ≡ second ∷ partners pairs first
    → ((n : ℕ) → n ≢ first → partners new n ≡ partners pairs n) → ArePairsGiven new next
given_more pairs new next first second g l r e f = record { each = λ m n t. by_dec m n t (ℕ_discrete m first) }
  where
    by_dec : (m n : ℕ) → Contains (partners new m) n → Dec (m ≡ first) → (m < next) × (n < next)
    by_dec m n t (yes s) = elim (in_either second n (partners pairs first) (subst (λ (ns : List ℕ). Contains ns n) (ap (partners new) s ∙ e) t)) [
      | inl is ↦ (omega (arith, l, s), omega (arith, r, is))
      | inr u ↦ let b = g.each first n u in let y = b.1 in (omega (arith, l, s), y)
    ]
    by_dec m n t (no d) = g.each m n (subst (λ (ns : List ℕ). Contains ns n) (f m d) t)

pub given_as : (pairs new : Pairs) (next : ℕ) → ArePairsGiven pairs next → ((n : ℕ) → partners new n ≡ partners pairs n) → ArePairsGiven new next
given_as pairs new next g e = record { each = λ m n t. g.each m n (subst (λ (ns : List ℕ). Contains ns n) (e m) t) }

pub given_of_note : {E : Type 0} (pairs new : Pairs) (next first second : ℕ) → ArePairsGiven pairs next → first < next → second < next → (r : Result (Unit {0}) E) → OnOk r (partners new first ≡ second ∷ partners pairs first)
    → ((n : ℕ) → n ≢ first → partners new n ≡ partners pairs n) → OnErr r ((n : ℕ) → partners new n ≡ partners pairs n) → ArePairsGiven new next
given_of_note pairs new next first second g l m (Ok u) ok others err = given_more pairs new next first second g l m ok others
given_of_note pairs new next first second g l m (Err e) ok others err = given_as pairs new next g err
