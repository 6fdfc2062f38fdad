use Rattle.std.specs.Prelude.{ℕ, List, map}
use Rattle.std.specs.List.{AllByRecursion}
use Rattle.std.proofs.Common.{refl, sym, ap, ◌∙◌, subst}
use Rattle.std.proofs.lemmas.Option.{none-some, same_Some}
use Rattle.ae_store.specs.Parts.{IsIn}
use Rattle.ae_store.proofs.EnterLaws.{front_then}
use Rattle.ae_theory.specs.Names.{terms_in}
use Rattle.ae_multiset_steps.specs.Equating.{AreEquated}
use Rattle.ae_monoid.specs.declared.rules.Kept.{Kept}
use Rattle.ae_monoid.specs.Rules.{Contents, rule_at}
use Rattle.ae_sweeps.specs.Given.{rep_in}
use Rattle.ae_turns.proofs.DroppedRules.{kept_in}
use Rattle.ae_turns.proofs.Representatives.{representatives_are_least, valued}
use Rattle.ae_representatives.specs.Equal.{IsRepresented}
use Rattle.ae_representatives.proofs.EqualTo.{equated, equal_rests}
use Rattle.ae_representatives.proofs.MoreSteps.{with_steps, reps_more, rests_by_values, taken_more}
use Rattle.ae_representatives.proofs.Taken.{patterns, said_all, fits_all, ruled_all}
use Rattle.ae_right_sides.proofs.Names.{right_names, right_represented}
use Rattle.ae_right_sides.proofs.Lefts.{renamed_own}
use Rattle.ae_right_sides.proofs.OtherRights.{rights_stay, rights_same, rights_then}
use Rattle.ae_right_sides.proofs.Changed.{rights_renamed}
use Rattle.ae_right_sides.proofs.rights.rename_one.Goals as goal

-- ---- no rule
pub returns-in_default-clause-rights : goal.returns-in_default-clause-rights
returns-in_default-clause-rights c = rights_stay c.args.store.now c.args.held.now (c.requires.taken).fits

pub returns-in_default-clause-own : goal.returns-in_default-clause-own
returns-in_default-clause-own c rule at =
    absurd (none-some rule (c.in_default.ensures.rule ∙ ap (λ (r : Contents). rule_at r c.args.number) c.rules-rules.ensures.rules ∙ at))

pub returns-in_default-clause-others : goal.returns-in_default-clause-others
returns-in_default-clause-others c n d = refl

-- ---- the steps
pub equal_to_representatives-requires-clause-fits : goal.equal_to_representatives-requires-clause-fits
equal_to_representatives-requires-clause-fits c = fits_all c.args.held.now c.args.store.now c.requires.taken

pub equal_to_representatives-requires-clause-patterns : goal.equal_to_representatives-requires-clause-patterns
equal_to_representatives-requires-clause-patterns c = patterns c.args.held.now c.args.store.now c.requires.taken c.entries_of_all_names_fit.ensures

pub equal_to_representatives-requires-clause-values : goal.equal_to_representatives-requires-clause-values
equal_to_representatives-requires-clause-values c = valued c.args.held.now c.args.store.now c.requires.taken

pub equal_to_representatives-requires-clause-said : goal.equal_to_representatives-requires-clause-said
equal_to_representatives-requires-clause-said c = said_all c.args.held.now c.args.store.now c.requires.taken

pub equal_to_representatives-requires-clause-same : goal.equal_to_representatives-requires-clause-same
equal_to_representatives-requires-clause-same c =
    let s = c.args.store.now in
    let o = c.args.held.now in
    let there = sym (ap (λ (r : Contents). rule_at r c.args.number) c.rules-rules.ensures.rules) ∙ sym c.in-Some.ensures.rule in
    subst (λ (xs : List ℕ). AllByRecursion (IsRepresented s.signature (terms_in s) o.values c.args.reps.now) xs) (sym c.as_slice-right.ensures)
    (right_represented o s c.requires.taken c.args.reps.now c.requires.reps c.args.number c.in-Some.rule.now there)

pub returns-in_err-equal-clause-rights : goal.returns-in_err-equal-clause-rights
returns-in_err-equal-clause-rights c =
    let s = c.args.store.now in
    let o = c.args.held.now in
    let steps = c.equal_to_representatives.new.justs in
    let front = c.equal_to_representatives.ensures.front in
    let fits = c.equal_to_representatives.ensures.fits in
    rights_same s o c.requires.taken o.equations steps front fits (ruled_all (with_steps o steps) s (taken_more o steps front s c.requires.taken fits)) refl refl refl (λ shared then h. h) (λ n. refl)

pub returns-in_err-equal-clause-others : goal.returns-in_err-equal-clause-others
returns-in_err-equal-clause-others c n d = refl

-- ---- the right side
pub rename_right-requires-clause-fits : goal.rename_right-requires-clause-fits
rename_right-requires-clause-fits c = c.equal_to_representatives.ensures.fits

pub rename_right-requires-clause-held : goal.rename_right-requires-clause-held
rename_right-requires-clause-held c =
    let s = c.args.store.now in
    let o = c.args.held.now in
    let steps = c.equal_to_representatives.new.justs in
    ruled_all (with_steps o steps) s (taken_more o steps c.equal_to_representatives.ensures.front s c.requires.taken c.equal_to_representatives.ensures.fits)

pub rename_right-requires-clause-stands : goal.rename_right-requires-clause-stands
rename_right-requires-clause-stands c none =
    none-some c.in-Some.rule.now (sym none ∙ sym (ap (λ (r : Contents). rule_at r c.args.number) c.rules-rules.ensures.rules) ∙ sym c.in-Some.ensures.rule)

pub rename_right-requires-clause-least : goal.rename_right-requires-clause-least
rename_right-requires-clause-least c = representatives_are_least c.args.held.now c.args.reps.now c.requires.reps

pub rename_right-requires-clause-names : goal.rename_right-requires-clause-names
rename_right-requires-clause-names c rule at = right_names c.args.held.now c.args.store.now c.requires.taken c.args.reps.now c.requires.reps c.args.number rule at

pub rename_right-requires-clause-equal : goal.rename_right-requires-clause-equal
rename_right-requires-clause-equal c other at =
    let o = c.args.held.now in
    let mid = c.equal_to_representatives.new.justs in
    let there = sym (ap (λ (r : Contents). rule_at r c.args.number) c.rules-rules.ensures.rules) ∙ sym c.in-Some.ensures.rule in
    let right = c.as_slice-right.ensures ∙ ap (λ (k : Kept). k.entry.right) (same_Some c.in-Some.rule.now other (sym there ∙ at)) in
    subst (λ (z : List ℕ × List ℕ). AreEquated mid z.0 (map (rep_in c.args.reps.now) z.0) z.1) (λ i. (right i, sym c.as_slice-steps.ensures i))
    (equated o.justs mid o.values c.args.reps.now c.as_slice-right.result.now c.in_ok-equal.equal c.in_ok-equal.ensures.equal)

pub returns-in_err-rename_right-clause-rights : goal.returns-in_err-rename_right-clause-rights
returns-in_err-rename_right-clause-rights c =
    let o = c.args.held.now in
    let new = c.rename_right.new.justs in
    let front = front_then o.justs c.equal_to_representatives.new.justs new c.equal_to_representatives.ensures.front c.rename_right.ensures.kept in
    rights_same c.args.store.now o c.requires.taken c.rename_right.new.equations new front c.rename_right.ensures.fits c.rename_right.ensures.held c.rename_right.ensures.pairs c.rename_right.ensures.queue
    c.rename_right.ensures.len c.rename_right.ensures.lasts c.in_err-rename_right.ensures.err

pub returns-in_err-rename_right-clause-others : goal.returns-in_err-rename_right-clause-others
returns-in_err-rename_right-clause-others c n d = c.in_err-rename_right.ensures.err n

pub returns-clause-rights : goal.returns-clause-rights
returns-clause-rights c =
    let s = c.args.store.now in
    let o = c.args.held.now in
    let mid = c.equal_to_representatives.new.justs in
    let new = c.rename_right.new.justs in
    let front = c.equal_to_representatives.ensures.front in
    let fits = c.equal_to_representatives.ensures.fits in
    let p = with_steps o mid in
    let taken = taken_more o mid front s c.requires.taken fits in
    let first = rights_same s o c.requires.taken o.equations mid front fits (ruled_all p s taken) refl refl refl (λ shared then h. h) (λ n. refl) in
    let all = equal_rests o.justs mid o.values c.args.reps.now c.as_slice-right.result.now c.in_ok-equal.equal c.in_ok-equal.ensures.equal in
    rights_then s o p (record o { equations = c.rename_right.new.equations; justs = new }) first
    (rights_renamed s p taken c.rename_right.new.equations new c.rename_right.ensures.fits c.rename_right.ensures.held c.rename_right.ensures.pairs c.rename_right.ensures.queue c.rename_right.ensures.len
    c.rename_right.ensures.lasts c.args.number c.args.reps.now (reps_more o mid c.args.reps.now c.requires.reps) c.least_names_represent.ensures.least c.rename_right.ensures.kept c.as_slice-steps.result.now
    c.in_ok-rename_right.ensures.ok (λ k m. rests_by_values o mid ((c.requires.taken).fits).right k (all k (subst (IsIn k) c.as_slice-steps.ensures m))))

pub returns-clause-own : goal.returns-clause-own
returns-clause-own c =
    let o = c.args.held.now in
    renamed_own c.args.reps.now c.as_slice-steps.result.now (kept_in o.equations) (kept_in c.rename_right.new.equations) c.equal_to_representatives.new.justs c.rename_right.new.justs c.args.number
    (representatives_are_least o c.args.reps.now c.requires.reps) c.in_ok-rename_right.ensures.ok

pub returns-clause-others : goal.returns-clause-others
returns-clause-others c = ((c.in_ok-rename_right.ensures.ok).composed).others
