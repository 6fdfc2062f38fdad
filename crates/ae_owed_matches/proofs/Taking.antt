-- What is found of the first so many patterns, and of one more.
use Rattle.std.specs.Prelude.{ℕ, ◌+◌, ◌<◌, Bool, true, false, cond, not, if◌then◌else◌, List, [], ◌∷◌, ◌++◌, ◌≡◌, length, get_or, take}
use Rattle.std.specs.List.{Contains, filter, list_any}
use Rattle.std.proofs.Common.{refl, sym, ap, ◌∙◌, subst, inl, inr}
use Rattle.std.proofs.lemmas.List.{take_more}
use Rattle.std.proofs.lemmas.List.Elements.{Contains-append_cases, filter_more}
use Rattle.std.proofs.lemmas.List.{append-nil}
use Rattle.ae_inst.specs.Matches.{is_match}
use Rattle.ae_inst.specs.declared.instances.Taken.{Taken}
use Rattle.ae_journal.proofs.Splits.{contains_one}
use Rattle.ae_matches.specs.Answers.{AreMatches, IsMatchOf}
use Rattle.ae_store.specs.Stores.{Stored}
use Rattle.ae_trigger.specs.declared.patterns.Pattern.{Pattern}
use Rattle.ae_trigger.specs.declared.patterns.Subst.{Subst}
use Rattle.ae_owed_matches.specs.Found.{AreFound, IsAnyMatch, is_owed}
use Rattle.ae_owed_matches.proofs.FoundLaws.{found_more}

module _ (s : Stored) (alike : ℕ → ℕ → Bool) (n : ℕ) (ps : List Pattern) (i : ℕ) (p : Pattern) (within : i < length ps) (at : p ≡ get_or ps i p) where
  front : take (i + 1) ps ≡ take i ps ++ p ∷ []
  front = take_more ps i p within ∙ ap (λ (q : Pattern). take i ps ++ q ∷ []) (sym at)

  pub found_further : (all more new : List Subst) → AreFound s alike n (take i ps) all → AreMatches s alike (n + 1) p more → new ≡ all ++ more → AreFound s alike n (take (i + 1) ps) new
  found_further all more new f a e =
      subst (λ (z : List Pattern × List Subst). AreFound s alike n z.0 z.1) (λ k. (sym front k, sym e k)) (found_more s alike n (take i ps) p all more f a)

  pub none_further : (m : Subst) → ¬ IsAnyMatch s alike n (take i ps) m → ¬ IsMatchOf s alike (n + 1) p m → ¬ IsAnyMatch s alike n (take (i + 1) ps) m
  none_further m never one h =
      let c : Contains (take i ps ++ p ∷ []) h.0 = subst (λ (z : List Pattern). Contains z h.0) front h.1 in
      elim (Contains-append_cases (take i ps) (p ∷ []) h.0 c) as (λ _. ⊥) [
        | inl a ↦ never (h.0, a, h.2)
        | inr b ↦ one (subst (λ (q : Pattern). IsMatchOf s alike (n + 1) q m) (sym (contains_one p h.0 b)) h.2)
      ]

-- those that are owed among the first so many, and one more
pub owed_further : (alike : ℕ → ℕ → Bool) (owner : ℕ) (taken : List Taken) (ms : List Subst) (i : ℕ) (m : Subst) (old new : List Subst) (b : Bool) → i < length ms → m ≡ get_or ms i m
    → old ≡ filter (is_owed alike owner taken) (take i ms) → b ≡ list_any (is_match alike owner m) taken → new ≡ (if not b then old ++ m ∷ [] else old)
    → new ≡ filter (is_owed alike owner taken) (take (i + 1) ms)
owed_further alike owner taken ms i m old new b within at before test e =
    e ∙ ap (λ (t : Bool). if not t then old ++ m ∷ [] else old) test ∙ by (is_owed alike owner taken m) ∙ ap (λ (zs : List Subst). zs ++ cond (is_owed alike owner taken m) (m ∷ []) []) before
    ∙ ap (λ (x : Subst). filter (is_owed alike owner taken) (take i ms) ++ cond (is_owed alike owner taken x) (x ∷ []) []) at ∙ sym (filter_more (is_owed alike owner taken) ms i m within)
  where
    by : (t : Bool) → (if t then old ++ m ∷ [] else old) ≡ old ++ cond t (m ∷ []) []
    by true = refl
    by false = sym (append-nil old)
