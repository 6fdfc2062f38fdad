use Rattle.std.proofs.Common.{◌≡◌, ◌∙◌, ◌++◌, ◌∷◌, [], ℕ, List, Option, length, sym, ap, subst, rules, Some, None}
use Rattle.ae_core.specs.declared.formulas.Formula.{Formula}
use Rattle.ae_explain.specs.Assignments.{IsGiven, number_in}
use Rattle.ae_explain.proofs.Valuing.{given_kept}
use Rattle.ae_propagation.specs.declared.occurrences.Occurrences.{Occurrences}
use Rattle.ae_propagation.specs.Inner.Finding.{none_listed, listed, IsTable}
use Rattle.ae_propagation.proofs.Numbering.{more_room, room_listed, numbered, number_listed, unused_next}
use Rattle.ae_propagation.proofs.occurrences.number_of.Goals as goal

pub give_number-requires : goal.give_number-requires
give_number-requires c =
    let table = c.args.table.now.items in
    let n : c.len-number.result ≡ length table = search rules in
    record {
      new = search rules;
      free = λ f e. unused_next (number_in c.args.trail.now.numbers) table c.requires f (e ∙ ap Some n);
    }

pub returns-in_err-give_number-clause-is_table : goal.returns-in_err-give_number-clause-is_table
returns-in_err-give_number-clause-is_table c =
    let old = number_in c.args.trail.now.numbers in
    let table = c.args.table.now.items in
    let e : c.push.new.self.items ≡ table ++ none_listed ∷ [] = c.in_ok-push.ensures.items ∙ ap (λ (o : Occurrences). table ++ o ∷ []) c.no_occurrences.ensures in
    let same : number_in c.give_number.new.self.numbers ≡ old = ap number_in c.in_err-give_number.ensures.err in
    subst (λ (m : Formula → Option ℕ). IsTable m c.push.new.self.items) (sym same) (subst (IsTable old) (sym e) (more_room old table c.requires))

pub returns-in_err-give_number-clause-same : goal.returns-in_err-give_number-clause-same
returns-in_err-give_number-clause-same c l =
    let old = number_in c.args.trail.now.numbers in
    let table = c.args.table.now.items in
    let e : c.push.new.self.items ≡ table ++ none_listed ∷ [] = c.in_ok-push.ensures.items ∙ ap (λ (o : Occurrences). table ++ o ∷ []) c.no_occurrences.ensures in
    let same : number_in c.give_number.new.self.numbers ≡ old = ap number_in c.in_err-give_number.ensures.err in
    ap (λ (m : Formula → Option ℕ). listed m c.push.new.self.items l) same ∙ (ap (λ (w : List Occurrences). listed old w l) e ∙ room_listed old table l c.requires)

pub returns-in_err-give_number-clause-kept : goal.returns-in_err-give_number-clause-kept
returns-in_err-give_number-clause-kept c f k q =
    let same : number_in c.give_number.new.self.numbers ≡ number_in c.args.trail.now.numbers = ap number_in c.in_err-give_number.ensures.err in
    ap (λ (m : Formula → Option ℕ). m f) same ∙ q

pub returns-clause-is_table : goal.returns-clause-is_table
returns-clause-is_table c =
    let old = number_in c.args.trail.now.numbers in
    let new = number_in c.give_number.new.self.numbers in
    let table = c.args.table.now.items in
    let e : c.push.new.self.items ≡ table ++ none_listed ∷ [] = c.in_ok-push.ensures.items ∙ ap (λ (o : Occurrences). table ++ o ∷ []) c.no_occurrences.ensures in
    let n : c.len-number.result ≡ length table = search rules in
    let g : IsGiven c.args.formula.now (length table) old new = subst (λ (k : ℕ). IsGiven c.args.formula.now k old new) n c.in_ok-give_number.ensures.ok in
    subst (IsTable new) (sym e) (numbered old new table c.args.formula.now g c.requires)

pub returns-clause-same : goal.returns-clause-same
returns-clause-same c l =
    let old = number_in c.args.trail.now.numbers in
    let new = number_in c.give_number.new.self.numbers in
    let table = c.args.table.now.items in
    let e : c.push.new.self.items ≡ table ++ none_listed ∷ [] = c.in_ok-push.ensures.items ∙ ap (λ (o : Occurrences). table ++ o ∷ []) c.no_occurrences.ensures in
    let n : c.len-number.result ≡ length table = search rules in
    let g : IsGiven c.args.formula.now (length table) old new = subst (λ (k : ℕ). IsGiven c.args.formula.now k old new) n c.in_ok-give_number.ensures.ok in
    let none : old c.args.formula.now ≡ None = search rules in
    ap (λ (w : List Occurrences). listed new w l) e ∙ number_listed old new table c.args.formula.now g c.requires none l

pub returns-clause-kept : goal.returns-clause-kept
returns-clause-kept c =
    let old = number_in c.args.trail.now.numbers in
    let none : old c.args.formula.now ≡ None = search rules in
    given_kept c.args.formula.now c.len-number.result old (number_in c.give_number.new.self.numbers) c.in_ok-give_number.ensures.ok none
