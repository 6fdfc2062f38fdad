-- The line that derives what is learnt is allowed.
use Rattle.std.proofs.Common.{◌≡◌, ℕ, zero, suc, ◌<◌, Bool, true, List, [], ◌∷◌, ◌++◌, length, get_or, map, refl, sym, ◌∙◌, ap, subst, arith, Option, Some, None, true≢false, append_assoc, append-nil}
use Rattle.std.specs.Prelude.{slice_get}
use Rattle.std.specs.List.{Contains, list_all}
use Rattle.std.proofs.lemmas.Option.{slice_get_within, get_or_from_slice_get}
use Rattle.std.proofs.lemmas.Bool.{and_parts, and_from}
use Rattle.ae_base.proofs.ListFacts.{map_map}
use Rattle.ae_base.specs.Options.{◌>>=◌, all_known}
use Rattle.ae_core.specs.Sorts.{formula_ok}
use Rattle.ae_rules.specs.Clauses.{Clause}
use Rattle.ae_rules.specs.Derivations.{conclusion, clause_ok, stated_by, hinted as hinted_lines, is_refuted, IsAllowed, AreAllowed}
use Rattle.ae_core.specs.declared.formulas.Lit.{Lit}
use Rattle.ae_core.specs.declared.problems.Problem.{Problem}
use Rattle.ae_core.specs.declared.proofs.ClauseLine.{ClauseLine}
use Rattle.ae_core.specs.declared.proofs.ClauseLine.TheVariants as clause_line
use Rattle.ae_rules.proofs.SortedLines.{stated_sorted, clause_stated}
use Rattle.ae_explain.specs.declared.trail.Assigned.{Assigned}
use Rattle.ae_explain.specs.Trail.{at, clause, AreFalse, IsLawful, Enters}
use Rattle.ae_explain.specs.Hints.{Propagates}
use Rattle.ae_base.proofs.Options.{bind_some}
use Rattle.ae_sat.specs.Standing.{IsOneOf}
use Rattle.ae_sat.specs.Search.{IsStated}

-- ---- known values
known_same : (f h : ℕ → Option Clause) (ns : List ℕ) (cs : List Clause) → ((n : ℕ) (c : Clause) → f n ≡ Some c → h n ≡ Some c) → all_known (map f ns) ≡ Some cs → all_known (map h ns) ≡ Some cs
known_same f h [] cs r e = e
known_same f h (n ∷ ns) cs r e =
    let x = bind_some (f n) (λ x. all_known (map f ns) >>= λ xs. Some (x ∷ xs)) cs e in
    let y = bind_some (all_known (map f ns)) (λ xs. Some (x.0 ∷ xs)) cs x.2 in
    ap (λ (o : Option Clause). o >>= λ x. all_known (map h ns) >>= λ xs. Some (x ∷ xs)) (r n x.0 x.1)
    ∙ (ap (λ (o : Option (List Clause)). o >>= λ xs. Some (x.0 ∷ xs)) (known_same f h ns y.0 r y.1) ∙ y.2)

-- ---- lines
pub get_more : (ls : List ClauseLine) (x : ClauseLine) (i : ℕ) (l : ClauseLine) → slice_get ls i ≡ Some l → slice_get (ls ++ x ∷ []) i ≡ Some l
get_more [] x i l e = absurd (let q : ◌≡◌ {A = Option ClauseLine} None (Some l) = e in cc)
get_more (k ∷ ls) x zero l e = e
get_more (k ∷ ls) x (suc i) l e = get_more ls x i l e

pub get_last : (ls : List ClauseLine) (x : ClauseLine) → slice_get (ls ++ x ∷ []) (length ls) ≡ Some x
get_last [] x = refl
get_last (k ∷ ls) x = get_last ls x

module _ (p : Problem) (g : ℕ) where
  pub allowed_join : (before ls : List ClauseLine) (l : ClauseLine) → AreAllowed p g before ls → IsAllowed p g (before ++ ls) l → AreAllowed p g before (ls ++ l ∷ [])
  allowed_join before [] l h a = (subst (λ (w : List ClauseLine). IsAllowed p g w l) (append-nil before) a, tt)
  allowed_join before (x ∷ ls) l h a = (h.0, allowed_join (before ++ x ∷ []) ls l h.1 (subst (λ (w : List ClauseLine). IsAllowed p g w l) (sym (append_assoc before (x ∷ []) ls)) a))

  -- the clause of a number is stated, and well sorted
  pub stated_clause : (ls : List ClauseLine) (u : List Clause) (places : List ℕ) → IsStated p g ls u places → (k : ℕ) → k < length u → (l : ClauseLine) × (slice_get ls (get_or places k 0) ≡ Some l) × (conclusion p g l ≡ Some (clause u k))
  stated_clause ls u places s k h = bind_some (slice_get ls (get_or places k 0)) (conclusion p g) (clause u k) (s.states k h)

  pub clause_sorted : (ls : List ClauseLine) (u : List Clause) (places : List ℕ) → IsStated p g ls u places → (k : ℕ) → k < length u → clause_ok p.signature (clause u k) ≡ true
  clause_sorted ls u places s k h =
      let r = stated_clause ls u places s k h in
      stated_sorted p g r.0 (clause u k) r.2

-- ---- sorts of literals
pub sorted_one : (P : Lit → Bool) (c : Clause) (m : Lit) → list_all P c ≡ true → Contains c m → P m ≡ true
sorted_one P [] m a h = absurd (omega (arith, h.1))
sorted_one P (x ∷ c) m a (zero, l, e) = subst (λ (w : Lit). P w ≡ true) e (and_parts (P x) (list_all P c) a).0
sorted_one P (x ∷ c) m a (suc k, l, e) = sorted_one P c m (and_parts (P x) (list_all P c) a).1 (k, omega (arith, l), e)

sorted_all : (P : Lit → Bool) (c : Clause) → ((m : Lit) → Contains c m → P m ≡ true) → list_all P c ≡ true
sorted_all P [] h = refl
sorted_all P (x ∷ c) h = and_from (P x) (list_all P c) (h x (zero, omega arith, refl)) (sorted_all P c (λ m r. h m (suc r.0, omega (arith, r.1), r.2)))

-- each literal of the trail is one of a clause
pub in_clause : (t : List Assigned) (u : List Clause) → IsLawful t u → ((j : ℕ) → j < length t → (at t j).by ≡ None → (c : Clause) × IsOneOf u c × Contains c (at t j).lit)
    → (j : ℕ) → j < length t → (k : ℕ) × (k < length u) × Contains (clause u k) (at t j).lit
in_clause t u w stands j l = by_reason (at t j).by refl (w.enters j l)
  where
    by_reason : (o : Option ℕ) → (at t j).by ≡ o → Enters t u j o → (k : ℕ) × (k < length u) × Contains (clause u k) (at t j).lit
    by_reason None e n = let r = stands j l e in (r.1.0, r.1.1, subst (λ (d : Clause). Contains d (at t j).lit) (sym r.1.2) r.2)
    by_reason (Some k) e n = (k, n.1.within, n.1.has)

module _ (p : Problem) (g : ℕ) (t : List Assigned) (u : List Clause) (places : List ℕ) (ls : List ClauseLine) (lawful : IsLawful t u)
    (stands : (j : ℕ) → j < length t → (at t j).by ≡ None → (c : Clause) × IsOneOf u c × Contains c (at t j).lit) (s : IsStated p g ls u places) where
  false_sorted : (c : Clause) → AreFalse t c → clause_ok p.signature c ≡ true
  false_sorted c h = sorted_all (λ l. formula_ok p.signature l.formula) c (λ m r.
      let f = h m r in
      let k = in_clause t u lawful stands f.0 f.1 in
      let q : formula_ok p.signature (at t f.0).lit.formula ≡ true = sorted_one (λ l. formula_ok p.signature l.formula) (clause u k.0) (at t f.0).lit (clause_sorted p g ls u places s k.0 k.1) k.2 in
      subst (λ (l : Lit). formula_ok p.signature l.formula ≡ true) f.2 q)

  reads : (n : ℕ) (c : Clause) → slice_get u n ≡ Some c → stated_by p g ls (get_or places n 0) ≡ Some c
  reads n c e =
      let l : n < length u = slice_get_within u n c e in
      s.states n l ∙ ap Some (get_or_from_slice_get u n c [] e)

  derived_by : (c : Clause) (hints : List ℕ) → Propagates u c hints → is_refuted (hinted_lines p g ls (map (λ h. get_or places h 0) hints)) c ≡ true
  derived_by c hints d = by_known (all_known (map (slice_get u) hints)) refl d
    where
      by_known : (o : Option (List Clause)) → all_known (map (slice_get u) hints) ≡ o → is_refuted o c ≡ true → is_refuted (hinted_lines p g ls (map (λ h. get_or places h 0) hints)) c ≡ true
      by_known None e h = absurd (true≢false (sym h))
      by_known (Some cs) e h =
          let k : all_known (map (stated_by p g ls) (map (λ h. get_or places h 0) hints)) ≡ Some cs =
          ap all_known (map_map (λ h. get_or places h 0) (stated_by p g ls) hints) ∙ known_same (slice_get u) (λ n. stated_by p g ls (get_or places n 0)) hints cs reads e in
          subst (λ (w : Option (List Clause)). is_refuted w c ≡ true) (sym k) h

  -- a line more, which derives what is false by the trail
  pub derivation_stated : (c : Clause) (hints : List ℕ) → AreFalse t c → Propagates u c hints → IsStated p g (ls ++ clause_line.Rup c (map (λ h. get_or places h 0) hints) ∷ []) u places
  derivation_stated c hints h d = record {
    allowed = allowed_join p g [] ls (clause_line.Rup c (map (λ h. get_or places h 0) hints)) s.allowed ((c, clause_stated p g (clause_line.Rup c (map (λ h. get_or places h 0) hints)) c (false_sorted c h) refl), derived_by c hints d);
    size = s.size;
    states = λ k l.
        let r = stated_clause p g ls u places s k l in
        ap (λ (o : Option ClauseLine). o >>= conclusion p g) (get_more ls (clause_line.Rup c (map (λ h. get_or places h 0) hints)) (get_or places k 0) r.0 r.1) ∙ r.2;
  }
