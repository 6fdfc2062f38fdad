-- A decision, and going back, keep a solver's marks in line with its journal.
use Rattle.std.proofs.Common.{◌≡◌, ℕ, zero, suc, ◌+◌, ◌<◌, ◌≤◌, List, [], ◌∷◌, ◌++◌, length, take, get_or, refl, sym, ◌∙◌, ap, subst, arith, inl, inr, Option, Some, None, length-append, length-take, get_or-take}
use Rattle.std.proofs.lemmas.Bool.{cases_lt}
use Rattle.std.proofs.lemmas.List.{take-append-le}
use Rattle.std.proofs.Math.Seq.{take-append_seam, take-length, get_or-append_seam}
use Rattle.std.proofs.Math.ListN.{get_or-append}
use Rattle.ae_rules.specs.Clauses.{Clause}
use Rattle.ae_core.specs.declared.formulas.Lit.{Lit}
use Rattle.std.specs.List.{Contains}
use Rattle.ae_explain.specs.declared.trail.Assigned.{Assigned}
use Rattle.ae_explain.specs.Trail.{at, place_in, clause, IsLawful, Enters, IsFalseBelow, level_before}
use Rattle.ae_explain.proofs.Places.{rises}
use Rattle.ae_journal.specs.declared.lines.Line.{Line}
use Rattle.ae_journal.specs.declared.lines.Line.TheVariants as line
use Rattle.ae_journal.specs.Journals.{live, before_decision, decisions}
use Rattle.ae_journal.proofs.Living.{live_push, cut_at, decisions-append}
use Rattle.ae_theory.specs.Tagged.{Tagged}
use Rattle.ae_explain.specs.Fronts.{IsFront}
use Rattle.ae_propagation.specs.Settled.{last_level}
use Rattle.ae_sat.specs.Standing.{IsOneOf, with_decision, decided_lits}
use Rattle.ae_sat.specs.Marked.{atoms, IsMarkAt, IsRunning}
use Rattle.ae_propagation.proofs.Trails.{at_old, at_new}
use Rattle.ae_sat.proofs.Cutting.{at_take}
use Rattle.ae_propagation.proofs.Settling.{lawful_decision}
use Rattle.ae_sat.proofs.Layering.{last_push}
use Rattle.ae_sat.proofs.Decisions.{before_more, decisions_before, before_twice, lits_append, count_lits, level_ahead, front_lits, front_place}

-- ---- the front of a lawful trail
before_take : (t : List Assigned) (n i : ℕ) → i ≤ n → level_before (take n t) i ≡ level_before t i
before_take t n zero h = refl
before_take t n (suc i) h = ap (λ (a : Assigned). a.level) (at_take t n i (omega (arith, h)))

false_take : (t : List Assigned) (n i : ℕ) (m : Lit) → i ≤ n → IsFalseBelow t i m → IsFalseBelow (take n t) i m
false_take t n i m h f = (f.0, f.1, ap (λ (a : Assigned). a.lit) (at_take t n f.0 (omega (arith, f.1, h))) ∙ f.2)

enters_take : (t : List Assigned) (u : List Clause) (n i : ℕ) → i < n → (o : Option ℕ) → Enters t u i o → Enters (take n t) u i o
enters_take t u n i h None e = ap (λ (a : Assigned). a.level) (at_take t n i h) ∙ (e ∙ ap (λ (w : ℕ). w + 1) (sym (before_take t n i (omega (arith, h)))))
enters_take t u n i h (Some k) e =
    let q : at (take n t) i ≡ at t i = at_take t n i h in (
      ap (λ (a : Assigned). a.level) q ∙ (e.0 ∙ sym (before_take t n i (omega (arith, h)))),
      record {
        within = e.1.within;
        has = subst (λ (a : Assigned). Contains (clause u k) a.lit) (sym q) e.1.has;
        others = λ m c d. false_take t n i m (omega (arith, h)) (e.1.others m c (λ r. d (r ∙ ap (λ (a : Assigned). a.lit) (sym q))));
      },
    )

pub lawful_front : (t : List Assigned) (u : List Clause) (n : ℕ) → IsLawful t u → IsLawful (take n t) u
lawful_front t u n w = record {
  apart = λ i j l h.
      let jn : j < n = omega (arith, h, length-take n t) in
      let jt : j < length t = omega (arith, h, length-take n t) in
      let ei : at (take n t) i ≡ at t i = at_take t n i (omega (arith, l, jn)) in
      let ej : at (take n t) j ≡ at t j = at_take t n j jn in
      rw (ei, ej) (w.apart i j l jt);
  enters = λ i h.
      let l : i < n = omega (arith, h, length-take n t) in
      let r : i < length t = omega (arith, h, length-take n t) in
      subst (λ (a : Assigned). Enters (take n t) u i a.by) (sym (at_take t n i l)) (enters_take t u n i l (at t i).by (w.enters i r));
}

last_take : (t : List Assigned) (n : ℕ) → n ≤ length t → last_level (take n t) ≡ level_before t n
last_take t n h =
    let e : length (take n t) ≡ n = omega (arith, length-take n t, h) in
    ap (level_before (take n t)) e ∙ before_take t n n (omega arith)

take_twice : (i n : ℕ) (t : List Assigned) → i ≤ n → take i (take n t) ≡ take i t
take_twice zero n t h = refl
take_twice (suc i) zero t h = absurd (omega (arith, h))
take_twice (suc i) (suc n) [] h = refl
take_twice (suc i) (suc n) (a ∷ t) h = ap (λ (w : List Assigned). a ∷ w) (take_twice i n t (omega (arith, h)))

pub all_lits : (t : List Assigned) (u : List Clause) → IsLawful t u → length (decided_lits t) ≡ last_level t
all_lits t u w = subst (λ (s : List Assigned). length (decided_lits s) ≡ last_level t) (take-length t) (count_lits t u w (length t) (omega arith))

module _ {T M : Type 0} (assumed : T → List Tagged) (fits_mark : T → M → T → Type 0) (in_step : T → List Line → Type 0) where
  pub decision_runs : (theory : T) (marks : List M) (m : M) (t : List Assigned) (u : List Clause) (told : ℕ) (standing : List Line) (l : Lit) (a : Assigned)
      → IsRunning assumed fits_mark in_step theory marks t u told standing → told ≡ length t → fits_mark theory m theory → place_in t l.formula ≡ None → in_step theory (standing ++ line.Decide l ∷ [])
      → ((c : Clause) × IsOneOf u c × Contains c l) → a.lit ≡ l → a.level ≡ length (marks ++ m ∷ []) → a.by ≡ None
      → IsRunning assumed fits_mark in_step theory (marks ++ m ∷ []) (t ++ a ∷ []) u told (standing ++ line.Decide l ∷ [])
  decision_runs theory marks m t u told standing l a r all fm open_one step st el ev eb =
      let size : length (marks ++ m ∷ []) ≡ length marks + 1 = length-append marks (m ∷ []) in
      let stood : length (decisions standing) ≡ length marks = ap length r.decided ∙ (all_lits t u r.lawful ∙ sym r.count) in
      record {
        lawful = lawful_decision t u a r.lawful (subst (λ (x : Lit). place_in t x.formula ≡ None) (sym el) open_one) (omega (arith, ev, size, r.count)) eb;
        count = sym (last_push t a ∙ ev);
        marked = λ k d h. elim (cases_lt k (length marks)) as (λ _. IsMarkAt assumed fits_mark in_step theory (get_or (marks ++ m ∷ []) k d) (t ++ a ∷ []) (standing ++ line.Decide l ∷ []) k) [
          | inl lt ↦
              let old = r.marked k d lt in
              let q : at (t ++ a ∷ []) old.place ≡ at t old.place = at_old t (a ∷ []) old.place old.within in
              subst (λ (x : M). IsMarkAt assumed fits_mark in_step theory x (t ++ a ∷ []) (standing ++ line.Decide l ∷ []) k) (sym (get_or-append marks (m ∷ []) d k lt)) (record {
                then = old.then;
                fits = old.fits;
                place = old.place;
                within = omega (arith, old.within, length-append t (a ∷ []));
                decision = ap (λ (x : Assigned). x.by) q ∙ old.decision;
                level = ap (λ (x : Assigned). x.level) q ∙ old.level;
                assumed_then = old.assumed_then ∙ ap atoms (sym (take-append-le old.place t (a ∷ []) (omega (arith, old.within))));
                step = subst (in_step old.then) (sym (before_more k standing (line.Decide l ∷ []) (omega (arith, lt, stood)))) old.step;
              })
          | inr ge ↦
              let e : length marks ≡ k = omega (arith, ge, h, size) in
              subst (λ (j : ℕ). IsMarkAt assumed fits_mark in_step theory (get_or (marks ++ m ∷ []) j d) (t ++ a ∷ []) (standing ++ line.Decide l ∷ []) j) e
              (subst (λ (x : M). IsMarkAt assumed fits_mark in_step theory x (t ++ a ∷ []) (standing ++ line.Decide l ∷ []) (length marks)) (sym (get_or-append_seam marks m [] d)) (record {
                then = theory;
                fits = fm;
                place = length t;
                within = omega (arith, length-append t (a ∷ []));
                decision = ap (λ (x : Assigned). x.by) (at_new t a) ∙ eb;
                level = ap (λ (x : Assigned). x.level) (at_new t a) ∙ (let z : a.level ≡ suc (length marks) = omega (arith, ev, size) in z);
                assumed_then = r.told_all ∙ ap atoms (ap (λ (n : ℕ). take n t) all ∙ (take-length t ∙ sym (take-append_seam t (a ∷ []))));
                step = subst (in_step theory) (sym (cut_at (length marks) standing [] l stood)) r.step;
              }))
        ];
        step = step;
        decided = decisions-append standing (line.Decide l ∷ []) ∙ (ap (λ (w : List Lit). w ++ l ∷ []) r.decided ∙ sym (lits_append t (a ∷ []) ∙ ap (λ (w : List Lit). decided_lits t ++ w) (alone a l el eb)));
        told_all = r.told_all ∙ ap atoms (sym (take-append-le told t (a ∷ []) (omega (arith, all))));
        stands = λ j h b. elim (cases_lt j (length t)) as (λ _. (c : Clause) × IsOneOf u c × Contains c (at (t ++ a ∷ []) j).lit) [
          | inl lt ↦
              let q : at (t ++ a ∷ []) j ≡ at t j = at_old t (a ∷ []) j lt in
              subst (λ (x : Assigned). (c : Clause) × IsOneOf u c × Contains c x.lit) (sym q) (r.stands j lt (ap (λ (x : Assigned). x.by) (sym q) ∙ b))
          | inr ge ↦
              let e : length t ≡ j = omega (arith, ge, h, length-append t (a ∷ [])) in
              subst (λ (k : ℕ). (c : Clause) × IsOneOf u c × Contains c (at (t ++ a ∷ []) k).lit) e
              (subst (λ (x : Lit). (c : Clause) × IsOneOf u c × Contains c x) (sym (ap (λ (x : Assigned). x.lit) (at_new t a) ∙ el)) st)
        ];
      }
    where
      alone : (a : Assigned) (l : Lit) → a.lit ≡ l → a.by ≡ None → decided_lits (a ∷ []) ≡ l ∷ []
      alone a l el eb = ap (λ (o : Option ℕ). with_decision o a.lit []) eb ∙ ap (λ (x : Lit). x ∷ []) el

  pub back_runs : (theory new : T) (marks : List M) (t : List Assigned) (u : List Clause) (told : ℕ) (standing : List Line) (level : ℕ) (front : List Assigned) (d : M)
      → (r : IsRunning assumed fits_mark in_step theory marks t u told standing) → (h : level < length marks) → ((m : M) (then : T) → fits_mark theory m then → fits_mark new m then)
      → ((then : T) → fits_mark theory (get_or marks level d) then → assumed new ≡ assumed then) → ((then : T) → fits_mark theory (get_or marks level d) then → (js : List Line) → in_step then js → in_step new js)
      → IsFront t level front → IsRunning assumed fits_mark in_step new (take level marks) front u (length front) (before_decision level standing)
  back_runs theory new marks t u told standing level front d r h lasts same steps f =
      let mk = r.marked level d h in
      let ahead : level_before t mk.place ≡ level = level_ahead t u r.lawful mk.place level mk.within mk.decision mk.level in
      let e : front ≡ take mk.place t = front_place t u r.lawful mk.place level mk.within mk.decision mk.level front f in
      subst (λ (w : List Assigned). IsRunning assumed fits_mark in_step new (take level marks) w u (length w) (before_decision level standing)) (sym e) (record {
        lawful = lawful_front t u mk.place r.lawful;
        count = sym (last_take t mk.place (omega (arith, mk.within)) ∙ (ahead ∙ (let q : level ≡ length (take level marks) = omega (arith, length-take level marks, h) in q)));
        marked = λ k c l.
            let lk : k < level = omega (arith, l, length-take level marks) in
            let old = r.marked k c (omega (arith, lk, h)) in
            let earlier : old.place < mk.place = elim (cases_lt old.place mk.place) as (λ _. old.place < mk.place) [
              | inl lt ↦ lt
              | inr ge ↦ absurd (omega (arith, rises t u r.lawful mk.place old.place ge old.within, mk.level, old.level, lk))
            ] in
            let q : at (take mk.place t) old.place ≡ at t old.place = at_take t mk.place old.place earlier in
            subst (λ (x : M). IsMarkAt assumed fits_mark in_step new x (take mk.place t) (before_decision level standing) k) (sym (get_or-take level marks k c lk)) (record {
              then = old.then;
              fits = lasts (get_or marks k c) old.then old.fits;
              place = old.place;
              within = omega (arith, earlier, length-take mk.place t, old.within);
              decision = ap (λ (x : Assigned). x.by) q ∙ old.decision;
              level = ap (λ (x : Assigned). x.level) q ∙ old.level;
              assumed_then = old.assumed_then ∙ ap atoms (sym (take_twice old.place mk.place t (omega (arith, earlier))));
              step = subst (in_step old.then) (sym (before_twice k level standing (omega (arith, lk)))) old.step;
            });
        step = steps mk.then mk.fits (before_decision level standing) mk.step;
        decided = decisions_before level standing ∙ (ap (take level) r.decided ∙ sym (front_lits t u r.lawful mk.place level mk.within mk.decision mk.level));
        stands = λ j l b.
            let k : j < mk.place = omega (arith, l, length-take mk.place t) in
            let q : at (take mk.place t) j ≡ at t j = at_take t mk.place j k in
            subst (λ (x : Assigned). (c : Clause) × IsOneOf u c × Contains c x.lit) (sym q) (r.stands j (omega (arith, k, mk.within)) (ap (λ (x : Assigned). x.by) (sym q) ∙ b));
        told_all = same mk.then mk.fits ∙ (mk.assumed_then ∙ ap atoms (sym (take-length (take mk.place t))));
      })

  -- the same of what calls leave
  pub decided_running : (theory : T) (marks new_marks : List M) (m : M) (t new_t : List Assigned) (u : List Clause) (told : ℕ) (lines new_lines : List Line) (l : Lit) (a : Assigned)
      → IsRunning assumed fits_mark in_step theory marks t u told (live lines) → told ≡ length t → fits_mark theory m theory → place_in t l.formula ≡ None
      → ((js : List Line) → in_step theory js → in_step theory (js ++ line.Decide l ∷ [])) → ((c : Clause) × IsOneOf u c × Contains c l)
      → a.lit ≡ l → a.level ≡ length new_marks → a.by ≡ None → new_marks ≡ marks ++ m ∷ [] → new_t ≡ t ++ a ∷ [] → new_lines ≡ lines ++ line.Decide l ∷ []
      → IsRunning assumed fits_mark in_step theory new_marks new_t u told (live new_lines)
  decided_running theory marks new_marks m t new_t u told lines new_lines l a r all fm open_one silent st el ev eb em et en =
      let r2 : IsRunning assumed fits_mark in_step theory (marks ++ m ∷ []) (t ++ a ∷ []) u told (live lines ++ line.Decide l ∷ []) =
      decision_runs theory marks m t u told (live lines) l a r all fm open_one (silent (live lines) r.step) st el (ev ∙ ap length em) eb in
      let q : live new_lines ≡ live lines ++ line.Decide l ∷ [] = ap live en ∙ live_push lines (line.Decide l) in
      subst (λ (w : List Line). IsRunning assumed fits_mark in_step theory new_marks new_t u told w) (sym q)
      (subst (λ (w : List M). IsRunning assumed fits_mark in_step theory w new_t u told (live lines ++ line.Decide l ∷ [])) (sym em)
      (subst (λ (w : List Assigned). IsRunning assumed fits_mark in_step theory (marks ++ m ∷ []) w u told (live lines ++ line.Decide l ∷ [])) (sym et) r2))

  pub back_running : (theory new : T) (marks new_marks : List M) (mark : M) (t : List Assigned) (u : List Clause) (told size : ℕ) (lines new_lines : List Line) (level : ℕ) (front : List Assigned)
      → IsRunning assumed fits_mark in_step theory marks t u told (live lines) → level < length marks → mark ≡ get_or marks level mark → ((m : M) (then : T) → fits_mark theory m then → fits_mark new m then)
      → ((then : T) → fits_mark theory mark then → assumed new ≡ assumed then) → ((then : T) → fits_mark theory mark then → (js : List Line) → in_step then js → in_step new js)
      → IsFront t level front → new_marks ≡ take level marks → size ≡ length front → new_lines ≡ lines ++ line.Back level ∷ []
      → IsRunning assumed fits_mark in_step new new_marks front u size (live new_lines)
  back_running theory new marks new_marks mark t u told size lines new_lines level front r h is lasts same steps f em es en =
      let r2 : IsRunning assumed fits_mark in_step new (take level marks) front u (length front) (before_decision level (live lines)) =
      back_runs theory new marks t u told (live lines) level front mark r h lasts
      (subst (λ (w : M). (then : T) → fits_mark theory w then → assumed new ≡ assumed then) is same)
      (subst (λ (w : M). (then : T) → fits_mark theory w then → (js : List Line) → in_step then js → in_step new js) is steps) f in
      let q : live new_lines ≡ before_decision level (live lines) = ap live en ∙ live_push lines (line.Back level) in
      subst (λ (w : List Line). IsRunning assumed fits_mark in_step new new_marks front u size w) (sym q)
      (subst (λ (w : List M). IsRunning assumed fits_mark in_step new w front u size (before_decision level (live lines))) (sym em)
      (subst (λ (w : ℕ). IsRunning assumed fits_mark in_step new (take level marks) front u w (before_decision level (live lines))) (sym es) r2))

  -- the mark of a level stands for a state
  pub mark_there : (theory : T) (marks : List M) (mark : M) (t : List Assigned) (u : List Clause) (told : ℕ) (standing : List Line) (level : ℕ)
      → IsRunning assumed fits_mark in_step theory marks t u told standing → level < length marks → mark ≡ get_or marks level mark → (then : T) × fits_mark theory mark then
  mark_there theory marks mark t u told standing level r h is =
      let mk = r.marked level mark h in
      (mk.then, subst (λ (w : M). fits_mark theory w mk.then) (sym is) mk.fits)
