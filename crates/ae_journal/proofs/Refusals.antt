-- What the rules of a journal's lines refuse, and lines of rules that they allow.
use Rattle.std.proofs.Common.{◌≡◌, ℕ, ◌≤◌, List, [], ◌∷◌, ◌++◌, refl, sym, ◌∙◌, ap, subst, arith, inl, inr}
use Rattle.std.specs.List.{Contains}
use Rattle.std.proofs.lemmas.List.Elements.{Contains-append_right}
use Rattle.ae_core.specs.declared.problems.AcSymbol.{AcSymbol}
use Rattle.ae_multiset.specs.Multisets.{count}
use Rattle.ae_journal.specs.declared.lines.Line.{Line}
use Rattle.ae_journal.specs.declared.lines.Line.TheVariants as line
use Rattle.ae_journal.specs.declared.lines.Oriented.TheVariants as oriented
use Rattle.ae_journal.specs.Journals.{live, HasLine, BringsClause}
use Rattle.ae_base.proofs.Tests.{not_not}
use Rattle.ae_rules.specs.Clauses.{opposite}
use Rattle.ae_journal.specs.Standing.{SurelyStands}
use Rattle.ae_journal.specs.RuleLines.{IsStanding, IsPaired}
use Rattle.ae_journal.specs.Laws.{NoSecondRule, NoSecondPair, NoPairWithItself, NoSecondDrop, NothingKnownIsLearnt, NothingSureIsDecided, NoSecondInstance, NoSecondBack, BackUndoes, NoInstanceAtBound, NoNameIsDropped, SomePair, SomeDrop}
use Rattle.ae_journal.proofs.Splits.{contains_here, contains_one}
use Rattle.ae_journal.proofs.Living.{live_push, last_cases}

pub no_second_rule : NoSecondRule
no_second_rule x js u l q r s m = m.reduced.0 l q s (record { each = λ n. omega arith })

-- the pair in the other order
turned : (js : List Line) (u : AcSymbol) (l m : List ℕ) → IsPaired js u l m → IsPaired js u m l
turned js u l m p = record {
  before = p.before;
  after = p.after;
  is = elim p.is [ inl a ↦ inr a | inr b ↦ inl b ];
  kept = λ d. ((p.kept d).1, (p.kept d).0);
}

pub no_second_pair : NoSecondPair
no_second_pair js u l m p = (λ a. a.new p, λ a. a.new (turned js u l m p))

pub no_pair_with_itself : NoPairWithItself
no_pair_with_itself js u l a = a.two (record { each = λ n. refl })

no_lines : (y : Line) → HasLine BringsClause [] → ⊥
no_lines y h = elim h [ ]

other_line : (u : AcSymbol) (l r d : List ℕ) → line.Drop (oriented.Rule u l d) ≡ line.Orient (oriented.Rule u l r) → ⊥
other_line u l r d e = cc

pub no_second_drop : NoSecondDrop
no_second_drop x js u l d m =
    let s = m.stands in
    elim (last_cases (live js) s.before s.after (line.Drop (oriented.Rule u l d)) (line.Orient (oriented.Rule u l m.right)) (sym (live_push js (line.Drop (oriented.Rule u l d))) ∙ s.is)) [
      | inl e ↦ other_line u l m.right d e
      | inr c ↦ s.kept d (subst (λ (w : List Line). Contains w (line.Drop (oriented.Rule u l d))) (sym c.1)
          (Contains-append_right c.0 (line.Drop (oriented.Rule u l d) ∷ []) (line.Drop (oriented.Rule u l d)) (contains_here (line.Drop (oriented.Rule u l d)) [])))
    ]

pub nothing_known_is_learnt : NothingKnownIsLearnt
nothing_known_is_learnt x js c d g i m = m.new d g i

pub nothing_sure_is_decided : NothingSureIsDecided
nothing_sure_is_decided x js l s = (λ m. m.open_still s, λ m. m.open_other (again s))
  where
    again : SurelyStands x js l → SurelyStands x js (opposite (opposite l))
    again s = subst (SurelyStands x js) (ap (λ b. record { positive = b; formula = l.formula }) (sym (not_not l.positive))) s

pub no_second_instance : NoSecondInstance
no_second_instance x bound js j c m = m.new c

pub no_second_back : NoSecondBack
no_second_back js m n g = no_lines (line.Back m) (g.between js [] m refl)

pub back_undoes : BackUndoes
back_undoes js n h g = omega (arith, h, g.some)

pub no_instance_at_bound : NoInstanceAtBound
no_instance_at_bound x js j m = omega (arith, m.below)

pub no_name_is_dropped : NoNameIsDropped
no_name_is_dropped x bound js n v d = d

-- ---- lines of rules that may come
module _ (u : AcSymbol) (l r m q : List ℕ) where
  abbrev Two : List Line
  Two = line.Orient (oriented.Rule u l r) ∷ line.Orient (oriented.Rule u m q) ∷ []

  no_drop : (d : List ℕ) → ¬ Contains (line.Orient (oriented.Rule u m q) ∷ []) (line.Drop (oriented.Rule u l d))
  no_drop d h = let e = contains_one (line.Orient (oriented.Rule u m q)) (line.Drop (oriented.Rule u l d)) h in cc

  first_stands : IsStanding Two u l r
  first_stands = record { before = []; after = line.Orient (oriented.Rule u m q) ∷ []; is = refl; kept = no_drop }

  second_stands : IsStanding Two u m q
  second_stands = record { before = line.Orient (oriented.Rule u l r) ∷ []; after = []; is = refl; kept = λ d h. omega (arith, h.1) }

no_pair : (u : AcSymbol) (a b c d l m : List ℕ) → ¬ IsPaired (line.Orient (oriented.Rule u a b) ∷ line.Orient (oriented.Rule u c d) ∷ []) u l m
no_pair u a b c d l m p = elim p.is [ inl e ↦ never p.before p.after l m e | inr e ↦ never p.before p.after m l e ]
  where
    never : (before after : List Line) (l m : List ℕ) → line.Orient (oriented.Rule u a b) ∷ line.Orient (oriented.Rule u c d) ∷ [] ≡ before ++ line.Pair u l m ∷ after → ⊥
    never [] after l m e = cc
    never (j ∷ []) after l m e = cc
    never (j ∷ k ∷ js) after l m e = ends js after l m (let h : [] ≡ js ++ line.Pair u l m ∷ after = cc in h)
      where
        ends : (js after : List Line) (l m : List ℕ) → [] ≡ js ++ line.Pair u l m ∷ after → ⊥
        ends [] after l m e = cc
        ends (i ∷ js) after l m e = cc

pub some_pair : SomePair
some_pair u = record {
  first = (2 ∷ [], first_stands u (0 ∷ 1 ∷ []) (2 ∷ []) (0 ∷ 3 ∷ []) (4 ∷ []));
  second = (4 ∷ [], second_stands u (0 ∷ 1 ∷ []) (2 ∷ []) (0 ∷ 3 ∷ []) (4 ∷ []));
  two = λ s. let e : 1 ≡ 0 = s.each 1 in omega (arith, e);
  common = (0, omega arith, omega arith);
  new = no_pair u (0 ∷ 1 ∷ []) (2 ∷ []) (0 ∷ 3 ∷ []) (4 ∷ []) (0 ∷ 1 ∷ []) (0 ∷ 3 ∷ []);
}

pub some_drop : SomeDrop
some_drop x u = record {
  right = 2 ∷ [];
  stands = first_stands u (0 ∷ 1 ∷ 3 ∷ []) (2 ∷ []) (0 ∷ 1 ∷ []) (2 ∷ []);
  cause = inl (0 ∷ 1 ∷ [], 2 ∷ [], second_stands u (0 ∷ 1 ∷ 3 ∷ []) (2 ∷ []) (0 ∷ 1 ∷ []) (2 ∷ []), (λ s. let e : 0 ≡ 1 = s.each 3 in omega (arith, e)), record { each = λ n. part n });
}
  where
    part : (n : ℕ) → count n (0 ∷ 1 ∷ []) ≤ count n (0 ∷ 1 ∷ 3 ∷ [])
    part n = omega arith
