-- No derivation has a chain that fails under some values of the constants: trees with these values are an interpretation.
use Rattle.std.specs.Prelude.{ℕ, zero, suc, Bool, true, false, cond, nat_eq, ◌⊎◌, List, [], ◌∷◌, ◌≡◌, ◌≢◌, slice_get, Option, Some}
use Rattle.std.specs.List.{AllByRecursion, list_any}
use Rattle.std.proofs.Common.{refl, sym, ap, ◌∙◌, subst, ⊎_elim, inl, inr, true≢false}
use Rattle.std.proofs.lemmas.Bool.{or_cases, or_left, or_right, eqb-true}
use Rattle.std.proofs.lemmas.Bool.Decides.{eqb_tells}
use Rattle.ae_base.specs.Options.{◌>>=◌, or_else}
use Rattle.ae_base.proofs.Options.{never_some}
use Rattle.ae_base.proofs.Tests.{nat_eq_itself}
use Rattle.ae_core.specs.declared.terms.Sort.{Sort, Int, Named}
use Rattle.ae_core.specs.declared.terms.Head.TheVariants.{Symbol}
use Rattle.ae_core.specs.declared.formulas.Formula.{Formula, Not}
use Rattle.ae_core.specs.declared.problems.Item.{Item}
use Rattle.ae_core.specs.declared.problems.Item.TheVariants.{Axiom, Goal}
use Rattle.ae_core.specs.declared.problems.Kind.TheVariants.{Abstract}
use Rattle.ae_core.specs.declared.problems.Signature.{Signature}
use Rattle.ae_core.specs.declared.problems.SymbolEntry.{SymbolEntry}
use Rattle.ae_math.specs.Fractions.{ℚ}
use Rattle.ae_models.specs.Structures.{Value, Element, Structure, BelongsTo, Belongs, IsInterpretation}
use Rattle.ae_models.specs.Truth.{FreshValues, value, Holds, IsTrue}
use Rattle.ae_models.specs.Trees.{Tree, Atom}
use Rattle.ae_models.proofs.ClaimLaws.{claim_eq, claim_or, claim_not, value_apply}
use Rattle.ae_models.proofs.Entries.{HasLawfulEntries, lawful_entries}
use Rattle.ae_models.proofs.ModelTerms.{same_is, out_named}
use Rattle.ae_models.proofs.Soundness.{not_refuted}
use Rattle.ae_models.proofs.Trees.Inhabited.{atom_sort}
use Rattle.ae_models.proofs.Trees.Model.{trees, trees_interpret}
use Rattle.ae_chains.specs.Reach.{symbol, IsPlainConstant, IsPlainEquation, IsChain, last, implies, IsChainGoal}
use Rattle.ae_chains.specs.Soundness.{IsKept, Follows, IsSound}
use Rattle.ae_chains.proofs.PutConstants.{put, put_interprets}

-- ---- the constants of a chain
abbrev Plain : Signature → Type 0
Plain sig = (n : ℕ) × (h : ℕ) × IsPlainConstant sig h n

constants_in : {sig : Signature} {f : Formula} → IsChain sig f → List (Plain sig)
constants_in (last f e) = (e.left, e.sort, e.is_left) ∷ (e.right, e.sort, e.is_right) ∷ []
constants_in (implies f c e rest) = (e.left, e.sort, e.is_left) ∷ (e.right, e.sort, e.is_right) ∷ constants_in rest

abbrev among : {sig : Signature} → List (Plain sig) → ℕ → Bool
among qs n = list_any (λ q. nat_eq n q.0) qs

its_plain : {sig : Signature} (qs : List (Plain sig)) (n : ℕ) → among qs n ≡ true → (h : ℕ) × IsPlainConstant sig h n
its_plain [] n e = absurd (true≢false (sym e))
its_plain {sig} (q ∷ qs) n e =
    ⊎_elim
    (λ same. (q.1, subst (IsPlainConstant sig q.1) (sym (eqb-true n q.0 same)) q.2))
    (λ later. its_plain qs n later)
    (or_cases (nat_eq n q.0) (among qs n) e)

-- ---- a chain follows, or fails
abbrev Fails : {sig : Signature} {f : Formula} → (ℕ → ℕ) → IsChain sig f → Type 0
Fails worth (last f e) = worth e.left ≢ worth e.right
Fails worth (implies f c e rest) = IsKept worth e × Fails worth rest

follows_or_fails : {sig : Signature} {f : Formula} (worth : ℕ → ℕ) (chain : IsChain sig f) → Follows worth chain ⊎ Fails worth chain
follows_or_fails worth (last f e) = ⊎_elim (λ same. inl same.1) (λ apart. inr apart.1) (eqb_tells (worth e.left) (worth e.right))
follows_or_fails worth (implies f c e rest) =
    ⊎_elim
    (λ same. ⊎_elim (λ follows. inl (λ kept. follows)) (λ fails. inr (same.1, fails)) (follows_or_fails worth rest))
    (λ apart. inl (λ kept. absurd (apart.1 kept)))
    (eqb_tells (worth e.left) (worth e.right))

-- ---- the interpretation
module _ (sig : Signature) (lawful : HasLawfulEntries sig) (worth : ℕ → ℕ) (qs : List (Plain sig)) where
  -- the sort of a constant
  abbrev sort_at : ℕ → Sort
  sort_at n = or_else (slice_get sig.symbols n >>= λ (e : SymbolEntry). e.result) Int

  sort_is : (h n : ℕ) → IsPlainConstant sig h n → sort_at n ≡ Named h []
  sort_is h n is = ap (λ o. or_else (o >>= λ (e : SymbolEntry). e.result) Int) is.is_entry ∙ ap (λ o. or_else o Int) (is.is_constant).result

  abbrev thing : ℕ → Value Tree ℚ
  thing n = Element (Atom (worth n) (sort_at n))

  belongs : (h n : ℕ) → IsPlainConstant sig h n → Belongs (trees sig lawful) (Named h []) (thing n)
  belongs h n is =
      let at : Value Tree ℚ = Element (Atom (worth n) (Named h [])) in
      let named : Belongs (trees sig lawful) (Named h []) at =
      subst (λ o. BelongsTo (trees sig lawful) (Named h []) o at) (sym (out_named h []))
      (Atom (worth n) (Named h []), refl, atom_sort sig lawful (worth n) h [] is.sort Abstract is.is_sort (is.is_plain).kind refl) in
      subst (λ s. Belongs (trees sig lawful) (Named h []) (Element (Atom (worth n) s))) (sym (sort_is h n is)) named

  abbrev M : Structure Tree ℚ
  M = put (trees sig lawful) (among qs) thing

  interprets : IsInterpretation sig M
  interprets = put_interprets (trees sig lawful) (among qs) thing sig lawful (trees_interpret sig lawful) (λ n e. let p = its_plain qs n e in (p.0, p.1, belongs p.0 n p.1))

  module _ (fresh : FreshValues M) where
    constant_worth : (h n : ℕ) → IsPlainConstant sig h n → among qs n ≡ true → value M fresh [] (symbol n) ≡ Element (Atom (worth n) (Named h []))
    constant_worth h n is e =
        value_apply M fresh [] (Symbol n) [] []
        ∙ ap (λ b. cond b (thing n) ((trees sig lawful).symbol n [] [])) e
        ∙ ap (λ s. Element (Atom (worth n) s)) (sort_is h n is)

    abbrev number_in : Value Tree ℚ → ℕ
    number_in (Element (Atom n s)) = n
    number_in _ = 0

    module _ (f : Formula) (e : IsPlainEquation sig f) (in_left : among qs e.left ≡ true) (in_right : among qs e.right ≡ true) where
      left_worth : value M fresh [] (symbol e.left) ≡ Element (Atom (worth e.left) (Named e.sort []))
      left_worth = constant_worth e.sort e.left e.is_left in_left

      right_worth : value M fresh [] (symbol e.right) ≡ Element (Atom (worth e.right) (Named e.sort []))
      right_worth = constant_worth e.sort e.right e.is_right in_right

      equation_holds : IsKept worth e → IsTrue M fresh f
      equation_holds s =
          subst (IsTrue M fresh) (sym e.is_equation)
          (subst Holds (sym (claim_eq M fresh (symbol e.left) (symbol e.right) []))
          ((same_is M (value M fresh [] (symbol e.left)) (value M fresh [] (symbol e.right))).1 (left_worth ∙ ap (λ n. Element (Atom n (Named e.sort []))) s ∙ sym right_worth)))

      equation_says : IsTrue M fresh f → IsKept worth e
      equation_says h =
          let v =
          (same_is M (value M fresh [] (symbol e.left)) (value M fresh [] (symbol e.right))).0
          (subst Holds (claim_eq M fresh (symbol e.left) (symbol e.right) []) (subst (IsTrue M fresh) e.is_equation h)) in
          let w : ◌≡◌ {A = Value Tree ℚ} (Element (Atom (worth e.left) (Named e.sort []))) (Element (Atom (worth e.right) (Named e.sort []))) = sym left_worth ∙ v ∙ right_worth in
          ap number_in w

    chain_fails : {f : Formula} (chain : IsChain sig f) → ((n : ℕ) → among (constants_in chain) n ≡ true → among qs n ≡ true) → Fails worth chain → ¬ (IsTrue M fresh f)
    unfolding constants_in
    chain_fails (last f e) all fails h =
        fails
        (equation_says f e
        (all e.left (or_left (nat_eq e.left e.left) _ (nat_eq_itself e.left)))
        (all e.right (or_right (nat_eq e.right e.left) _ (or_left (nat_eq e.right e.right) false (nat_eq_itself e.right))))
        h)
    chain_fails (implies f c e rest) all fails h =
        let holds =
        equation_holds f e
        (all e.left (or_left (nat_eq e.left e.left) _ (nat_eq_itself e.left)))
        (all e.right (or_right (nat_eq e.right e.left) _ (or_left (nat_eq e.right e.right) _ (nat_eq_itself e.right))))
        fails.0 in
        subst Holds (claim_or M fresh (Not f) c []) h (
          λ k. subst Holds (claim_not M fresh f []) k holds,
          chain_fails rest (λ n is. all n (or_right (nat_eq n e.left) _ (or_right (nat_eq n e.right) _ is))) fails.1,
        )

-- ---- a derivation
no_axiom : {P : Type 0} (sig : Signature) (items : List Item) (k : ℕ) (name : List ℕ) (v : ℕ) (b : Formula) → AllByRecursion (IsChainGoal sig) items → slice_get items k ≡ Some (Axiom name v b) → P
no_axiom sig [] k name v b r e = never_some _ e
no_axiom sig (Axiom m w h ∷ items) k name v b r e = absurd r.0
no_axiom sig (Goal m w h ∷ items) zero name v b r e = some_goal e
  where
    some_goal : {P : Type 0} → ◌≡◌ {A = Option Item} (Some (Goal m w h)) (Some (Axiom name v b)) → P
    some_goal e = cc e
no_axiom sig (Goal m w h ∷ items) (suc k) name v b r e = no_axiom sig items k name v b r.1 e

pub sound : IsSound
sound p k f proof lawful reach derives body chain worth =
    let entries = lawful_entries lawful in
    let qs = constants_in chain in
    ⊎_elim (λ follows. follows)
    (λ fails.
    absurd
    (not_refuted p k proof f entries derives body (M p.signature entries worth qs) (interprets p.signature entries worth qs)
    (λ j name v b ss below at len closed. no_axiom p.signature p.items j name v b reach.items at)
    (λ fresh sorted. chain_fails p.signature entries worth qs fresh chain (λ n is. is) fails)))
    (follows_or_fails worth chain)
