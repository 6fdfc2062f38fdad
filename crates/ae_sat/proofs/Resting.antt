-- Trails that grow behind their ends, and a run in which no counted line is noted.
use Rattle.std.proofs.Common.{◌≡◌, ◌⊎◌, ◌<◌, [], ◌++◌, List, sym, ap, ◌∙◌, subst, arith, inl, inr, append_assoc, append-nil}
use Rattle.ae_rules.specs.Clauses.{Clause}
use Rattle.ae_explain.specs.declared.trail.Assigned.{Assigned}
use Rattle.ae_journal.specs.Journals.{counted_in}
use Rattle.ae_journal.specs.Noted.{Noted}
use Rattle.ae_sat.specs.Search.{Brings, Keeps, Lengthens, Progresses}

pub lengthens_none : (t t2 : List Assigned) → t2 ≡ t → Lengthens t t2
lengthens_none t t2 e = ([], e ∙ sym (append-nil t))

pub lengthens_more : (t t2 t3 : List Assigned) → Lengthens t t2 → Lengthens t2 t3 → Lengthens t t3
lengthens_more t t2 t3 x y = (x.0 ++ y.0, y.1 ∙ ap (λ (w : List Assigned). w ++ y.0) x.1 ∙ append_assoc t x.0 y.0)

pub still_brings : (t mid new : List Assigned) (u u2 u3 : List Clause) (old now last : Noted) → ((mid ≡ t) × (u2 ≡ u)) ⊎ (counted_in old.lines < counted_in now.lines) → Keeps now last
    → counted_in last.lines ≡ counted_in old.lines → Brings mid u2 new u3 → Brings t u new u3
still_brings t mid new u u2 u3 old now last (inl e) k same b = subst (λ (w : List Assigned). Brings w u new u3) e.0 (subst (λ (w : List Clause). Brings mid w new u3) e.1 b)
still_brings t mid new u u2 u3 old now last (inr less) k same b = absurd (omega (arith, less, k.more, same))

pub went_on : (old now mid last : Noted) → Keeps old now → Keeps now mid → Progresses mid last → counted_in old.lines < counted_in last.lines
went_on old now mid last a b c = omega (arith, a.more, b.more, c.more)
