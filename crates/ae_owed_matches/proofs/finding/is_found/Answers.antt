use Rattle.std.proofs.Common.{ℕ, ◌+◌, ◌≡◌, Bool, true, false, MatchBool, List, length, refl, subst, arith}
use Rattle.std.proofs.lemmas.List.{take_all}
use Rattle.std.proofs.lemmas.Option.{slice_get_read}
use Rattle.ae_base.proofs.AllOf.{all_at}
use Rattle.ae_journal.proofs.Splits.{contains_at}
use Rattle.ae_matches.specs.Answers.{HasClosedConstants, IsMatchOf}
use Rattle.ae_owed_matches.proofs.Taking.{none_further}
use Rattle.ae_owed_matches.specs.Found.{IsAnyMatch}
use Rattle.ae_store.specs.Stores.{Stored}
use Rattle.ae_trigger.specs.declared.patterns.Pattern.{Pattern}
use Rattle.ae_trigger.specs.declared.patterns.Subst.{Subst}
use Rattle.ae_owed_matches.proofs.finding.is_found.Goals as goal

module _ (s : Stored) (alike : ℕ → ℕ → Bool) (n : ℕ) (p : Pattern) (m : Subst) (b : Bool) where
  own_match : b ≡ true → MatchBool b (IsMatchOf s alike (n + 1) p m) (¬ IsMatchOf s alike (n + 1) p m) → IsMatchOf s alike (n + 1) p m
  own_match e h = subst (λ (z : Bool). MatchBool z (IsMatchOf s alike (n + 1) p m) (¬ IsMatchOf s alike (n + 1) p m)) e h

  no_match : b ≡ false → MatchBool b (IsMatchOf s alike (n + 1) p m) (¬ IsMatchOf s alike (n + 1) p m) → ¬ IsMatchOf s alike (n + 1) p m
  no_match e h = subst (λ (z : Bool). MatchBool z (IsMatchOf s alike (n + 1) p m) (¬ IsMatchOf s alike (n + 1) p m)) e h

pub is_match_of-requires-clause-constants : goal.is_match_of-requires-clause-constants
is_match_of-requires-clause-constants g c =
    all_at HasClosedConstants c.args.patterns.now c.loop-pattern.pattern-index c.pattern-item.result c.requires.constants
    (slice_get_read c.args.patterns.now (length c.args.patterns.now) c.loop-pattern.pattern-index c.pattern-item.result refl (omega arith) c.pattern-item.is)

pub loop-pattern-init : goal.loop-pattern-init
loop-pattern-init g c = λ h. let l = h.1.1 in omega (arith, l)

pub returns-then-own : goal.returns-then-own
returns-then-own g c = (
  c.pattern-item.result,
  contains_at c.args.patterns.now c.loop-pattern.pattern-index c.pattern-item.result
      (slice_get_read c.args.patterns.now (length c.args.patterns.now) c.loop-pattern.pattern-index c.pattern-item.result refl (omega arith) c.pattern-item.is),
  own_match c.args.store.now (g.E.Equalities.alike c.args.equalities.now) c.args.number c.pattern-item.result c.args.subst.now c.in_ok-own.own c.if-own.true c.in_ok-own.ensures.exact,
)

pub loop-pattern-preserved : goal.loop-pattern-preserved
loop-pattern-preserved g c =
    none_further c.args.store.now (g.E.Equalities.alike c.args.equalities.now) c.args.number c.args.patterns.now c.loop-pattern.pattern-index c.pattern-item.result (omega arith) c.pattern-item.is
    c.args.subst.now c.loop-pattern.invariant
    (no_match c.args.store.now (g.E.Equalities.alike c.args.equalities.now) c.args.number c.pattern-item.result c.args.subst.now c.in_ok-own.own c.if-own.false c.in_ok-own.ensures.exact)

pub returns : goal.returns
returns g c =
    subst (λ (z : List Pattern). ¬ IsAnyMatch c.args.store.now (g.E.Equalities.alike c.args.equalities.now) c.args.number z c.args.subst.now)
    (take_all c.loop-pattern.pattern-index c.args.patterns.now (omega arith)) c.loop-pattern.invariant
