-- Rules that are taken out one after the other.
use Rattle.std.proofs.Common.{◌≡◌, ◌≢◌, ℕ, ◌⊎◌, inl, inr, List, [], ◌∷◌, ◌++◌, map, Option, Some, None, refl, sym, ap, ◌∙◌, subst, arith, append_assoc}
use Rattle.std.specs.List.{AllByRecursion, Contains}
use Rattle.std.proofs.lemmas.List.{append-nil, map-append}
use native.Mathlib.Decide.{ℕ_discrete}
use Rattle.ae_base.specs.Decided.{pick}
use Rattle.ae_base.specs.Relations.{Pairwise}
use Rattle.ae_base.proofs.Decided.{pick_yes, pick_no}
use Rattle.ae_core.specs.declared.terms.Term.{Term}
use Rattle.ae_core.specs.declared.problems.Signature.{Signature}
use Rattle.ae_journal.specs.Journals.{live}
use Rattle.ae_journal.specs.Standing.{Setting}
use Rattle.ae_journal.specs.RuleLines.{MayDrop}
use Rattle.ae_journal.specs.Legal.{AreLegal}
use Rattle.ae_journal.specs.declared.systems.RuleEntry.{RuleEntry}
use Rattle.ae_journal.specs.declared.lines.Line.{Line}
use Rattle.ae_journal.proofs.Living.{live_push}
use Rattle.ae_journal.proofs.Splits.{contains_here, contains_later, contains_cases}
use Rattle.ae_monoid.specs.Reductions.{AreDifferent}
use Rattle.ae_rule_lines.specs.InStep.{Waiting, AreRulesInStep}
use Rattle.ae_rule_lines.specs.Changes.{IsRuleTakenOut, equation_of}
use Rattle.ae_rule_lines.proofs.Dropped.{drops_keep}
use Rattle.ae_rule_passes.specs.Passes.{drop_line, AreRulesTakenOut}
use Rattle.ae_rule_passes.specs.Laws.{PassesKeepStep, HaveRisingRights}

-- ---- one rule
abbrev without : ℕ → (ℕ → Option RuleEntry) → ℕ → Option RuleEntry
without n rules m = pick (ℕ_discrete m n) None (rules m)

without_it : (n : ℕ) (rules : ℕ → Option RuleEntry) → without n rules n ≡ None
without_it n rules = pick_yes (ℕ_discrete n n) None (rules n) refl

without_other : (n m : ℕ) (rules : ℕ → Option RuleEntry) → m ≢ n → without n rules m ≡ rules m
without_other n m rules d = pick_no (ℕ_discrete m n) None (rules m) d

one_out : (n : ℕ) (e : RuleEntry) (rules : ℕ → Option RuleEntry) → rules n ≡ Some e → IsRuleTakenOut rules (without n rules) n e
one_out n e rules t = record { there = t; gone = without_it n rules; others = λ m d. without_other n m rules d }

-- the others are still there
still_there : (n : ℕ) (rules : ℕ → Option RuleEntry) (ns : List ℕ) (es : List RuleEntry) → AllByRecursion (λ m. n ≢ m) ns → Pairwise (λ m e. rules m ≡ Some e) ns es → Pairwise (λ m e. without n rules m ≡ Some e) ns es
still_there n rules [] [] a p = tt
still_there n rules [] (e ∷ es) a p = absurd p
still_there n rules (m ∷ ns) [] a p = absurd p
still_there n rules (m ∷ ns) (e ∷ es) a p = (without_other n m rules (λ q. a.0 (sym q)) ∙ p.0, still_there n rules ns es a.1 p.1)

-- ---- all of them
-- what is left where these are taken out
abbrev left_of : List ℕ → (ℕ → Option RuleEntry) → ℕ → Option RuleEntry
left_of [] rules = rules
left_of (n ∷ ns) rules = left_of ns (without n rules)

left_none : (ns : List ℕ) (rules : ℕ → Option RuleEntry) (m : ℕ) → rules m ≡ None → left_of ns rules m ≡ None
left_none [] rules m e = e
left_none (n ∷ ns) rules m e = left_none ns (without n rules) m (by_case (ℕ_discrete m n))
  where
    by_case : Dec (m ≡ n) → without n rules m ≡ None
    by_case (yes q) = ap (without n rules) q ∙ without_it n rules
    by_case (no d) = without_other n m rules d ∙ e

left_gone : (ns : List ℕ) (rules : ℕ → Option RuleEntry) (m : ℕ) → Contains ns m → left_of ns rules m ≡ None
left_gone [] rules m c = absurd (omega (arith, c.1))
left_gone (n ∷ ns) rules m c =
    elim (contains_cases n ns m c) [
      | inl e ↦ left_none ns (without n rules) m (ap (without n rules) (sym e) ∙ without_it n rules)
      | inr k ↦ left_gone ns (without n rules) m k
    ]

left_other : (ns : List ℕ) (rules : ℕ → Option RuleEntry) (m : ℕ) → ¬ Contains ns m → left_of ns rules m ≡ rules m
left_other [] rules m d = refl
left_other (n ∷ ns) rules m d =
    left_other ns (without n rules) m (λ k. d (contains_later n ns m k)) ∙ without_other n m rules (λ q. d (subst (Contains (n ∷ ns)) (sym q) (contains_here n ns)))

pub among : (ns : List ℕ) (m : ℕ) → Contains ns m ⊎ ¬ Contains ns m
among [] m = inr (λ c. omega (arith, c.1))
among (n ∷ ns) m = by_case (ℕ_discrete n m) (among ns m)
  where
    by_case : Dec (n ≡ m) → Contains ns m ⊎ ¬ Contains ns m → Contains (n ∷ ns) m ⊎ ¬ Contains (n ∷ ns) m
    by_case (yes q) k = inl (subst (Contains (n ∷ ns)) q (contains_here n ns))
    by_case (no d) (inl c) = inl (contains_later n ns m c)
    by_case (no d) (inr k) = inr (λ c. elim (contains_cases n ns m c) [ inl e ↦ d e | inr h ↦ k h ])

all_left : (old new : ℕ → Option RuleEntry) (numbers : List ℕ) (rules : List RuleEntry) → AreRulesTakenOut old new numbers rules → left_of numbers old ≡ new
all_left old new numbers rules t = λ z m. each m z
  where
    each : (m : ℕ) → left_of numbers old m ≡ new m
    each m = elim (among numbers m) [ inl c ↦ left_gone numbers old m c ∙ sym (t.gone m c) | inr d ↦ left_other numbers old m d ∙ sym (t.others m d) ]

-- ---- in step
chain : (sig : Signature) (ts : List Term) (js : List Line) (now : ℕ → Option RuleEntry) (paired : ℕ → List ℕ) (waiting : List Waiting) (ns : List ℕ) (es : List RuleEntry) → AreDifferent ns
    → Pairwise (λ n e. now n ≡ Some e) ns es → AreRulesInStep sig ts js now paired waiting → AreRulesInStep sig ts (js ++ map drop_line es) (left_of ns now) paired (waiting ++ map equation_of es)
chain sig ts js now paired waiting [] [] a p i =
    subst (λ (t : List Line × List Waiting). AreRulesInStep sig ts t.0 now paired t.1) (λ z. (sym (append-nil js) z, sym (append-nil waiting) z)) i
chain sig ts js now paired waiting [] (e ∷ es) a p i = absurd p
chain sig ts js now paired waiting (n ∷ ns) [] a p i = absurd p
chain sig ts js now paired waiting (n ∷ ns) (e ∷ es) a p i =
    subst (λ (t : List Line × List Waiting). AreRulesInStep sig ts t.0 (left_of ns (without n now)) paired t.1)
    (λ z. (append_assoc js (drop_line e ∷ []) (map drop_line es) z, append_assoc waiting (equation_of e ∷ []) (map equation_of es) z))
    (chain sig ts (js ++ drop_line e ∷ []) (without n now) paired (waiting ++ equation_of e ∷ []) ns es a.1 (still_there n now ns es a.0 p.1)
    (drops_keep sig ts js now (without n now) paired waiting n e e.right (one_out n e now p.0) i))

pub passes_keep : PassesKeepStep
passes_keep sig ts js old new paired waiting numbers rules t i =
    subst (λ (f : ℕ → Option RuleEntry). AreRulesInStep sig ts (js ++ map drop_line rules) f paired (waiting ++ map equation_of rules)) (all_left old new numbers rules t)
    (chain sig ts js old paired waiting numbers rules t.different t.are i)

-- ---- legal, where each line has a reason whatever was dropped before it
module _ (x : Setting) (bound : ℕ) (sig : Signature) (ts : List Term) (js : List Line) (old : ℕ → Option RuleEntry) (paired : ℕ → List ℕ) (numbers : List ℕ) where
  -- the lines so far
  abbrev pub After : List RuleEntry → List Line
  After gone = js ++ map drop_line gone

  abbrev pub HasReasons : Type 0
  HasReasons = (n : ℕ) (e : RuleEntry) (gone : List RuleEntry) (now : ℕ → Option RuleEntry) (waiting : List Waiting) → Contains numbers n → now n ≡ Some e
      → ((m : ℕ) (d : RuleEntry) → now m ≡ Some d → old m ≡ Some d) → ((m : ℕ) → ¬ Contains numbers m → now m ≡ old m) → AreRulesInStep sig ts (live (After gone)) now paired waiting
      → MayDrop x (After gone) e.symbol e.left

  after_more : (gone : List RuleEntry) (e : RuleEntry) → After (gone ++ e ∷ []) ≡ After gone ++ drop_line e ∷ []
  after_more gone e = ap (λ (ls : List Line). js ++ ls) (map-append drop_line gone (e ∷ [])) ∙ sym (append_assoc js (map drop_line gone) (drop_line e ∷ []))

  of_before : (n m : ℕ) (now : ℕ → Option RuleEntry) (d : RuleEntry) → without n now m ≡ Some d → Dec (m ≡ n) → now m ≡ Some d
  of_before n m now d t (yes q) = absurd (never (sym (ap (without n now) q ∙ without_it n now) ∙ t))
    where
      never : None ≡ Some d → ⊥
      never e = cc
  of_before n m now d t (no f) = sym (without_other n m now f) ∙ t

  legal : HasReasons → HaveRisingRights old → (ns : List ℕ) (es gone : List RuleEntry) (now : ℕ → Option RuleEntry) (waiting : List Waiting) → AreDifferent ns → Pairwise (λ n e. now n ≡ Some e) ns es
      → ((n : ℕ) → Contains ns n → Contains numbers n) → ((m : ℕ) (d : RuleEntry) → now m ≡ Some d → old m ≡ Some d) → ((m : ℕ) → ¬ Contains numbers m → now m ≡ old m)
      → AreRulesInStep sig ts (live (After gone)) now paired waiting → AreLegal x bound (After gone) (map drop_line es)
  legal why rise [] [] gone now waiting a p w f g i = tt
  legal why rise [] (e ∷ es) gone now waiting a p w f g i = absurd p
  legal why rise (n ∷ ns) [] gone now waiting a p w f g i = absurd p
  legal why rise (n ∷ ns) (e ∷ es) gone now waiting a p w f g i =
      let c = w n (contains_here n ns) in
      let next : AreRulesInStep sig ts (live (After gone ++ drop_line e ∷ [])) (without n now) paired (waiting ++ equation_of e ∷ []) =
      subst (λ (ls : List Line). AreRulesInStep sig ts ls (without n now) paired (waiting ++ equation_of e ∷ [])) (sym (live_push (After gone) (drop_line e)))
      (drops_keep sig ts (live (After gone)) now (without n now) paired waiting n e e.right (one_out n e now p.0) i) in (
        (why n e gone now waiting c p.0 f g i, rise n e (f n e p.0)),
        subst (λ (ls : List Line). AreLegal x bound ls (map drop_line es)) (after_more gone e)
            (legal why rise ns es (gone ++ e ∷ []) (without n now) (waiting ++ equation_of e ∷ []) a.1 (still_there n now ns es a.0 p.1) (λ m k. w m (contains_later n ns m k))
            (λ m d t. f m d (of_before n m now d t (ℕ_discrete m n)))
            (λ m k. without_other n m now (λ q. k (subst (Contains numbers) (sym q) c)) ∙ g m k)
            (subst (λ (ls : List Line). AreRulesInStep sig ts (live ls) (without n now) paired (waiting ++ equation_of e ∷ [])) (sym (after_more gone e)) next)),
      )

  pub all_legal : (new : ℕ → Option RuleEntry) (waiting : List Waiting) (rules : List RuleEntry) → HasReasons → HaveRisingRights old
      → AreRulesTakenOut old new numbers rules → AreRulesInStep sig ts (live js) old paired waiting → AreLegal x bound js (map drop_line rules)
  all_legal new waiting rules why rise t i =
      subst (λ (ls : List Line). AreLegal x bound ls (map drop_line rules)) (append-nil js)
      (legal why rise numbers rules [] old waiting t.different t.are (λ n c. c) (λ m d e. e) (λ m d. refl) (subst (λ (ls : List Line). AreRulesInStep sig ts (live ls) old paired waiting) (sym (append-nil js)) i))
