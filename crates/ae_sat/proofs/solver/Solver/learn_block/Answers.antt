use Rattle.std.proofs.Common.{◌≡◌, ◌∙◌, ℕ, ◌++◌, ◌∷◌, [], List, length, map, sym, ap, subst, true, refl, append_assoc}
use Rattle.std.proofs.Math.Seq.{get_or-append_seam}
use Rattle.ae_base.proofs.Results.{on_ok_always}
use Rattle.ae_rules.specs.Clauses.{Clause, opposite}
use Rattle.ae_rules.specs.Derivations.{IsContradictory, clause_ok, AreAllowed}
use Rattle.ae_core.specs.declared.proofs.ClauseLine.{ClauseLine}
use Rattle.ae_core.specs.declared.proofs.ClauseLine.TheVariants.{Rup, Block}
use Rattle.ae_explain.specs.declared.trail.Assigned.{Assigned}
use Rattle.ae_explain.specs.Trail.{clause, AreFalse, IsLawful}
use Rattle.ae_explain.specs.Levels.{greatest_of}
use Rattle.ae_propagation.specs.Settled.{last_level}
use Rattle.ae_sat.specs.Search.{AddsLearnt, AllAmong, IsStated, IsLearnt, IsLawfulState}
use Rattle.ae_sat.specs.Standing.{IsOneOf}
use Rattle.ae_sat.proofs.Closure.{false_among}
use Rattle.ae_sat.proofs.Enlarging.{enlarges_more, enlarges_to, block_enlarges, rup_enlarges}
use Rattle.ae_sat.proofs.Idling.{idle_memory}
use Rattle.ae_sat.proofs.Learnt.{new_one}
use Rattle.ae_sat.proofs.Results.{on_ok_more}
use Rattle.ae_sat.proofs.Attaching.{lawful_clause}
use Rattle.ae_sat.proofs.Propagating.{line_state}
use Rattle.ae_sat.proofs.Blocks.{block_stated, first_stated, state_same}
use Rattle.ae_sat.proofs.Searching.{keeps_same}
use Rattle.ae_sat.proofs.solver.Solver.learn_block.Goals as goal

pub derive-derived-requires-clause-lawful : goal.derive-derived-requires-clause-lawful
derive-derived-requires-clause-lawful g c =
    let s = c.args.self.now in
    let eu : c.attach.new.self.propagation.clauses ≡ s.propagation.clauses ++ c.in_ok-clause.clause ∷ [] = c.in_ok-attach.ensures.clauses in
    subst (λ (w : List Assigned). IsLawful w c.attach.new.self.propagation.clauses) (sym c.in_ok-attach.ensures.trail)
    (subst (λ (w : List Clause). IsLawful s.propagation.trail w) (sym eu) (lawful_clause s.propagation.trail s.propagation.clauses c.in_ok-clause.clause c.requires.alive.running.lawful))

pub derive-derived-requires-clause-falsified : goal.derive-derived-requires-clause-falsified
derive-derived-requires-clause-falsified g c =
    let s = c.args.self.now in
    let cl = c.in_ok-clause.clause in
    let eu : c.attach.new.self.propagation.clauses ≡ s.propagation.clauses ++ cl ∷ [] = c.in_ok-attach.ensures.clauses in
    let ec : cl ≡ map opposite c.args.block.deriv.hyps = c.in_ok-clause.ensures ∙ ap (map opposite) c.as_slice.ensures in
    let at_end : clause c.attach.new.self.propagation.clauses c.count-number.result ≡ map opposite c.args.block.deriv.hyps =
    ap (λ (w : List Clause). clause w c.count-number.result) eu ∙ (ap (clause (s.propagation.clauses ++ cl ∷ [])) c.count-number.ensures ∙ (get_or-append_seam s.propagation.clauses cl [] [] ∙ ec)) in
    subst (λ (w : List Assigned). AreFalse w (clause c.attach.new.self.propagation.clauses c.count-number.result)) (sym c.in_ok-attach.ensures.trail) (subst (AreFalse s.propagation.trail) (sym at_end) c.requires.falsified)

pub take_in-requires-clause-learnt : goal.take_in-requires-clause-learnt
take_in-requires-clause-learnt g c =
    let e = c.in_ok-learnt.ensures in
    let r = c.in_ok-learnt.learnt in
    let top = greatest_of c.attach.new.self.propagation.trail (clause c.attach.new.self.propagation.clauses c.count-number.result) in
    let is : IsLearnt c.attach.new.self.propagation.trail r top = record { false_ones = e.false_ones; empty = e.empty; one = e.one; highest = e.highest; level = e.level } in
    (top, subst (λ (w : List Assigned). IsLearnt w r top) (sym c.detach.ensures.trail) is)

pub returns-clause-stated : goal.returns-clause-stated
returns-clause-stated g c p n sig old =
    let s = c.args.self.now in
    let b = c.args.block in
    let cl = map opposite b.deriv.hyps in
    let d = c.detach.new.self in
    let ks = c.args.lines.now.items in
    let mid = c.push_line.new.lines.items in
    let new = c.derive-derived.new.lines.items in
    let ec : c.in_ok-clause.clause ≡ cl = c.in_ok-clause.ensures ∙ ap (map opposite) c.as_slice.ensures in
    let ek : mid ≡ ks ++ Block b ∷ [] = c.in_ok-push_line.ensures.ok in
    let eu : c.attach.new.self.propagation.clauses ≡ s.propagation.clauses ++ cl ∷ [] = (c.in_ok-attach.ensures.clauses ∙ ap (λ (w : Clause). s.propagation.clauses ++ w ∷ []) ec) in
    let ep : c.as_slice-2.result.now ≡ s.places ++ length ks ∷ [] = c.as_slice-2.ensures ∙ (c.in_ok-attach.ensures.places ∙ ap (λ (k : ℕ). s.places ++ k ∷ []) (c.len-place.ensures ∙ c.args.lines.now.ok.0)) in
    let first : IsStated p n (ks ++ Block b ∷ []) (s.propagation.clauses ++ cl ∷ []) (s.places ++ length ks ∷ []) =
    block_stated p n ks s.propagation.clauses s.places b old (subst (λ (w : _). IsContradictory w b) (sym sig) c.requires.contradictory) (subst (λ (w : _). clause_ok w b.deriv.hyps ≡ true) (sym sig) c.requires.sorted) in
    let there : IsStated p n mid c.attach.new.self.propagation.clauses c.as_slice-2.result.now =
    subst (λ (w : List ClauseLine). IsStated p n w c.attach.new.self.propagation.clauses c.as_slice-2.result.now) (sym ek)
    (subst (λ (w : List Clause). IsStated p n (ks ++ Block b ∷ []) w c.as_slice-2.result.now) (sym eu) (subst (λ (w : List ℕ). IsStated p n (ks ++ Block b ∷ []) (s.propagation.clauses ++ cl ∷ []) w) (sym ep) first)) in
    let then : IsStated p n new (s.propagation.clauses ++ cl ∷ []) (s.places ++ length ks ∷ []) =
    subst (λ (w : List Clause). IsStated p n new w (s.places ++ length ks ∷ [])) eu (subst (λ (w : List ℕ). IsStated p n new c.attach.new.self.propagation.clauses w) ep (c.in_ok-learnt.ensures.stated p n there)) in
    let du : d.propagation.clauses ≡ s.propagation.clauses = c.detach.ensures.clauses s.propagation.clauses c.in_ok-clause.clause c.in_ok-attach.ensures.clauses in
    let dp : d.places ≡ s.places = c.detach.ensures.places s.places c.len-place.result c.in_ok-attach.ensures.places in
    let last : IsStated p n new d.propagation.clauses d.places =
    subst (λ (w : List Clause). IsStated p n new w d.places) (sym du) (subst (λ (w : List ℕ). IsStated p n new s.propagation.clauses w) (sym dp) (first_stated p n new s.propagation.clauses s.places cl (length ks) then)) in
    c.take_in.ensures.stated p n sig last

pub returns-clause-legal : goal.returns-clause-legal
returns-clause-legal g c setting bound sig old state =
    let s = c.args.self.now in
    let b = c.args.block in
    let cl = map opposite b.deriv.hyps in
    let d = c.detach.new.self in
    let js = c.args.journal.now.lines in
    let ks = c.args.lines.now.items in
    let mid = c.push_line.new.lines.items in
    let new = c.derive-derived.new.lines.items in
    let ec : c.in_ok-clause.clause ≡ cl = c.in_ok-clause.ensures ∙ ap (map opposite) c.as_slice.ensures in
    let ek : mid ≡ ks ++ Block b ∷ [] = c.in_ok-push_line.ensures.ok in
    let eu : c.attach.new.self.propagation.clauses ≡ s.propagation.clauses ++ cl ∷ [] = (c.in_ok-attach.ensures.clauses ∙ ap (λ (w : Clause). s.propagation.clauses ++ w ∷ []) ec) in
    let ep : c.as_slice-2.result.now ≡ s.places ++ length ks ∷ [] = c.as_slice-2.ensures ∙ (c.in_ok-attach.ensures.places ∙ ap (λ (k : ℕ). s.places ++ k ∷ []) (c.len-place.ensures ∙ c.args.lines.now.ok.0)) in
    let first : IsStated setting.problem setting.goal (ks ++ Block b ∷ []) (s.propagation.clauses ++ cl ∷ []) (s.places ++ length ks ∷ []) =
    block_stated setting.problem setting.goal ks s.propagation.clauses s.places b old (subst (λ (w : _). IsContradictory w b) (sym sig.signature) c.requires.contradictory)
    (subst (λ (w : _). clause_ok w b.deriv.hyps ≡ true) (sym sig.signature) c.requires.sorted) in
    let there : IsStated setting.problem setting.goal mid c.attach.new.self.propagation.clauses c.as_slice-2.result.now =
    subst (λ (w : List ClauseLine). IsStated setting.problem setting.goal w c.attach.new.self.propagation.clauses c.as_slice-2.result.now) (sym ek)
    (subst (λ (w : List Clause). IsStated setting.problem setting.goal (ks ++ Block b ∷ []) w c.as_slice-2.result.now) (sym eu)
    (subst (λ (w : List ℕ). IsStated setting.problem setting.goal (ks ++ Block b ∷ []) (s.propagation.clauses ++ cl ∷ []) w) (sym ep) first)) in
    let then : IsStated setting.problem setting.goal new (s.propagation.clauses ++ cl ∷ []) (s.places ++ length ks ∷ []) =
    subst (λ (w : List Clause). IsStated setting.problem setting.goal new w (s.places ++ length ks ∷ [])) eu
    (subst (λ (w : List ℕ). IsStated setting.problem setting.goal new c.attach.new.self.propagation.clauses w) ep (c.in_ok-learnt.ensures.stated setting.problem setting.goal there)) in
    let du : d.propagation.clauses ≡ s.propagation.clauses = c.detach.ensures.clauses s.propagation.clauses c.in_ok-clause.clause c.in_ok-attach.ensures.clauses in
    let dp : d.places ≡ s.places = c.detach.ensures.places s.places c.len-place.result c.in_ok-attach.ensures.places in
    let last : IsStated setting.problem setting.goal new d.propagation.clauses d.places =
    subst (λ (w : List Clause). IsStated setting.problem setting.goal new w d.places) (sym du)
    (subst (λ (w : List ℕ). IsStated setting.problem setting.goal new s.propagation.clauses w) (sym dp) (first_stated setting.problem setting.goal new s.propagation.clauses s.places cl (length ks) then)) in
    let dt : d.propagation.trail ≡ s.propagation.trail = c.detach.ensures.trail ∙ c.in_ok-attach.ensures.trail in
    let de : d.expanded ≡ s.expanded = c.detach.ensures.expanded ∙ c.in_ok-attach.ensures.expanded in
    let r = c.in_ok-learnt.learnt in
    let hints = c.in_ok-learnt.ensures.line.0 in
    let one : IsLawfulState setting s.propagation.trail s.propagation.clauses s.expanded mid js = line_state setting s.propagation.trail s.propagation.clauses s.expanded ks mid js (Block b) ek tt state in
    let two : IsLawfulState setting s.propagation.trail s.propagation.clauses s.expanded new js = line_state setting s.propagation.trail s.propagation.clauses s.expanded mid new js (Rup r.clause hints) c.in_ok-learnt.ensures.line.1 tt one in
    c.take_in.ensures.legal setting bound sig last (state_same setting s.propagation.trail d.propagation.trail s.propagation.clauses d.propagation.clauses s.expanded d.expanded new js dt du de two)

pub returns-in_err-attach-clause-allowed : goal.returns-in_err-attach-clause-allowed
returns-in_err-attach-clause-allowed g c p n sig old =
    let s = c.args.self.now in
    let b = c.args.block in
    let ks = c.args.lines.now.items in
    let mid = c.push_line.new.lines.items in
    let ek : mid ≡ ks ++ Block b ∷ [] = c.in_ok-push_line.ensures.ok in
    let first : IsStated p n (ks ++ Block b ∷ []) (s.propagation.clauses ++ map opposite b.deriv.hyps ∷ []) (s.places ++ length ks ∷ []) =
    block_stated p n ks s.propagation.clauses s.places b old (subst (λ (w : _). IsContradictory w b) (sym sig) c.requires.contradictory) (subst (λ (w : _). clause_ok w b.deriv.hyps ≡ true) (sym sig) c.requires.sorted) in
    subst (AreAllowed p n []) (sym ek) first.allowed

pub returns-in_err-learnt-clause-allowed : goal.returns-in_err-learnt-clause-allowed
returns-in_err-learnt-clause-allowed g c p n sig old =
    let s = c.args.self.now in
    let b = c.args.block in
    let cl = map opposite b.deriv.hyps in
    let d = c.detach.new.self in
    let ks = c.args.lines.now.items in
    let mid = c.push_line.new.lines.items in
    let new = c.derive-derived.new.lines.items in
    let ec : c.in_ok-clause.clause ≡ cl = c.in_ok-clause.ensures ∙ ap (map opposite) c.as_slice.ensures in
    let ek : mid ≡ ks ++ Block b ∷ [] = c.in_ok-push_line.ensures.ok in
    let eu : c.attach.new.self.propagation.clauses ≡ s.propagation.clauses ++ cl ∷ [] = (c.in_ok-attach.ensures.clauses ∙ ap (λ (w : Clause). s.propagation.clauses ++ w ∷ []) ec) in
    let ep : c.as_slice-2.result.now ≡ s.places ++ length ks ∷ [] = c.as_slice-2.ensures ∙ (c.in_ok-attach.ensures.places ∙ ap (λ (k : ℕ). s.places ++ k ∷ []) (c.len-place.ensures ∙ c.args.lines.now.ok.0)) in
    let first : IsStated p n (ks ++ Block b ∷ []) (s.propagation.clauses ++ cl ∷ []) (s.places ++ length ks ∷ []) =
    block_stated p n ks s.propagation.clauses s.places b old (subst (λ (w : _). IsContradictory w b) (sym sig) c.requires.contradictory) (subst (λ (w : _). clause_ok w b.deriv.hyps ≡ true) (sym sig) c.requires.sorted) in
    let there : IsStated p n mid c.attach.new.self.propagation.clauses c.as_slice-2.result.now =
    subst (λ (w : List ClauseLine). IsStated p n w c.attach.new.self.propagation.clauses c.as_slice-2.result.now) (sym ek)
    (subst (λ (w : List Clause). IsStated p n (ks ++ Block b ∷ []) w c.as_slice-2.result.now) (sym eu) (subst (λ (w : List ℕ). IsStated p n (ks ++ Block b ∷ []) (s.propagation.clauses ++ cl ∷ []) w) (sym ep) first)) in
    (c.in_err-learnt.ensures.stated p n there).allowed

pub returns-clause-allowed : goal.returns-clause-allowed
returns-clause-allowed g c p n sig old =
    let s = c.args.self.now in
    let b = c.args.block in
    let cl = map opposite b.deriv.hyps in
    let d = c.detach.new.self in
    let ks = c.args.lines.now.items in
    let mid = c.push_line.new.lines.items in
    let new = c.derive-derived.new.lines.items in
    let ec : c.in_ok-clause.clause ≡ cl = c.in_ok-clause.ensures ∙ ap (map opposite) c.as_slice.ensures in
    let ek : mid ≡ ks ++ Block b ∷ [] = c.in_ok-push_line.ensures.ok in
    let eu : c.attach.new.self.propagation.clauses ≡ s.propagation.clauses ++ cl ∷ [] = (c.in_ok-attach.ensures.clauses ∙ ap (λ (w : Clause). s.propagation.clauses ++ w ∷ []) ec) in
    let ep : c.as_slice-2.result.now ≡ s.places ++ length ks ∷ [] = c.as_slice-2.ensures ∙ (c.in_ok-attach.ensures.places ∙ ap (λ (k : ℕ). s.places ++ k ∷ []) (c.len-place.ensures ∙ c.args.lines.now.ok.0)) in
    let first : IsStated p n (ks ++ Block b ∷ []) (s.propagation.clauses ++ cl ∷ []) (s.places ++ length ks ∷ []) =
    block_stated p n ks s.propagation.clauses s.places b old (subst (λ (w : _). IsContradictory w b) (sym sig) c.requires.contradictory) (subst (λ (w : _). clause_ok w b.deriv.hyps ≡ true) (sym sig) c.requires.sorted) in
    let there : IsStated p n mid c.attach.new.self.propagation.clauses c.as_slice-2.result.now =
    subst (λ (w : List ClauseLine). IsStated p n w c.attach.new.self.propagation.clauses c.as_slice-2.result.now) (sym ek)
    (subst (λ (w : List Clause). IsStated p n (ks ++ Block b ∷ []) w c.as_slice-2.result.now) (sym eu) (subst (λ (w : List ℕ). IsStated p n (ks ++ Block b ∷ []) (s.propagation.clauses ++ cl ∷ []) w) (sym ep) first)) in
    let then : IsStated p n new (s.propagation.clauses ++ cl ∷ []) (s.places ++ length ks ∷ []) =
    subst (λ (w : List Clause). IsStated p n new w (s.places ++ length ks ∷ [])) eu (subst (λ (w : List ℕ). IsStated p n new c.attach.new.self.propagation.clauses w) ep (c.in_ok-learnt.ensures.stated p n there)) in
    let du : d.propagation.clauses ≡ s.propagation.clauses = c.detach.ensures.clauses s.propagation.clauses c.in_ok-clause.clause c.in_ok-attach.ensures.clauses in
    let dp : d.places ≡ s.places = c.detach.ensures.places s.places c.len-place.result c.in_ok-attach.ensures.places in
    let last : IsStated p n new d.propagation.clauses d.places =
    subst (λ (w : List Clause). IsStated p n new w d.places) (sym du) (subst (λ (w : List ℕ). IsStated p n new s.propagation.clauses w) (sym dp) (first_stated p n new s.propagation.clauses s.places cl (length ks) then)) in
    c.take_in.ensures.allowed p n sig last

pub returns-clause-kept : goal.returns-clause-kept
returns-clause-kept g c d h =
    let u = c.args.self.now.propagation.clauses in
    let du : c.detach.new.self.propagation.clauses ≡ u = c.detach.ensures.clauses u c.in_ok-clause.clause c.in_ok-attach.ensures.clauses in
    on_ok_more _ _ c.take_in.result c.take_in.ensures.enlarges (λ more. more.kept d (subst (λ (w : List Clause). IsOneOf w d) (sym du) h))

pub returns-clause-formulas : goal.returns-clause-formulas
returns-clause-formulas g c fs parts among =
    let u = c.args.self.now.propagation.clauses in
    let du : c.detach.new.self.propagation.clauses ≡ u = c.detach.ensures.clauses u c.in_ok-clause.clause c.in_ok-attach.ensures.clauses in
    on_ok_more _ _ c.take_in.result c.take_in.ensures.enlarges (λ more. more.formulas fs parts (subst (AllAmong fs) (sym du) among))

pub returns-clause-enlarges : goal.returns-clause-enlarges
returns-clause-enlarges g c built =
    let s = c.args.self.now in
    let run = c.requires.alive.running in
    let t = s.propagation.trail in
    let u = s.propagation.clauses in
    let store = c.args.store.now in
    let b = c.args.block in
    let ks = c.args.lines.now.items in
    let mid = c.push_line.new.lines.items in
    let new = c.derive-derived.new.lines.items in
    let e = c.in_ok-learnt.ensures in
    let r = c.in_ok-learnt.learnt in
    let false_ones : AreFalse t r.clause = subst (λ (w : List Assigned). AreFalse w r.clause) c.in_ok-attach.ensures.trail e.false_ones in
    let one = enlarges_to store u u u ks (ks ++ Block b ∷ []) mid (block_enlarges t u run.lawful run.stands store b c.requires.falsified built ks) refl c.in_ok-push_line.ensures.ok in
    let du : c.detach.new.self.propagation.clauses ≡ u = c.detach.ensures.clauses u c.in_ok-clause.clause c.in_ok-attach.ensures.clauses in
    let two = enlarges_to store u u c.detach.new.self.propagation.clauses mid (mid ++ Rup r.clause e.line.0 ∷ []) new (rup_enlarges t u run.lawful run.stands store r.clause e.line.0 false_ones mid) du e.line.1 in
    let both = enlarges_more store u u c.detach.new.self.propagation.clauses ks mid new one two in
    on_ok_more _ _ c.take_in.result c.take_in.ensures.enlarges (λ more. enlarges_more store u c.detach.new.self.propagation.clauses c.take_in.new.self.propagation.clauses ks new c.take_in.new.lines.items both more)

pub returns-clause-base : goal.returns-clause-base
returns-clause-base g c z = c.take_in.ensures.base (ap last_level (c.detach.ensures.trail ∙ c.in_ok-attach.ensures.trail) ∙ z)

pub returns-in_err-clause-clause-base : goal.returns-in_err-clause-clause-base
returns-in_err-clause-clause-base g c z = idle_memory c.args.journal.now c.from_residual.result c.in_err-clause.field-0.0 c.from_residual.ensures.1

pub returns-in_err-push_line-clause-base : goal.returns-in_err-push_line-clause-base
returns-in_err-push_line-clause-base g c z = idle_memory c.args.journal.now c.from_residual-in_err-push_line.result c.in_err-push_line.field-0.0 c.from_residual-in_err-push_line.ensures.1

pub returns-in_err-attach-clause-base : goal.returns-in_err-attach-clause-base
returns-in_err-attach-clause-base g c z = idle_memory c.args.journal.now c.from_residual-in_err-attach.result c.in_err-attach.field-0.0 c.from_residual-in_err-attach.ensures.1

pub returns-in_err-learnt-clause-base : goal.returns-in_err-learnt-clause-base
returns-in_err-learnt-clause-base g c z = idle_memory c.args.journal.now c.from_residual-in_err-learnt.result c.in_err-learnt.field-0.0 c.from_residual-in_err-learnt.ensures.1

pub returns-in_err-clause-clause-journal : goal.returns-in_err-clause-clause-journal
returns-in_err-clause-clause-journal g c = keeps_same c.args.journal.now

pub returns-in_err-push_line-clause-journal : goal.returns-in_err-push_line-clause-journal
returns-in_err-push_line-clause-journal g c = keeps_same c.args.journal.now

pub returns-in_err-attach-clause-journal : goal.returns-in_err-attach-clause-journal
returns-in_err-attach-clause-journal g c = keeps_same c.args.journal.now

pub returns-in_err-learnt-clause-journal : goal.returns-in_err-learnt-clause-journal
returns-in_err-learnt-clause-journal g c = keeps_same c.args.journal.now

pub returns-clause-lines : goal.returns-clause-lines
returns-clause-lines g c =
    let run = c.requires.alive.running in
    let u = c.args.self.now.propagation.clauses in
    let t = c.args.self.now.propagation.trail in
    let ks = c.args.lines.now.items in
    let b = c.args.block in
    let e = c.in_ok-learnt.ensures in
    let r = c.in_ok-learnt.learnt in
    let false_ones : AreFalse t r.clause = subst (λ (w : List Assigned). AreFalse w r.clause) c.in_ok-attach.ensures.trail e.false_ones in
    let own : AddsLearnt b u ks c.take_in.new.lines.items = (
      r.clause,
      e.line.0,
      c.take_in.ensures.lines ∙ e.line.1 ∙ ap (λ (ls : List ClauseLine). ls ++ Rup r.clause e.line.0 ∷ []) c.in_ok-push_line.ensures.ok ∙ append_assoc ks (Block b ∷ []) (Rup r.clause e.line.0 ∷ []),
      λ fs p a m k. false_among t u run.lawful run.stands r.clause false_ones fs a r.clause m (new_one u r.clause) k,
    ) in
    on_ok_always c.take_in.result own
