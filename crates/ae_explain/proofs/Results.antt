-- What a call leaves that puts something at an end, or refuses.
use Rattle.std.proofs.Common.{◌≡◌, sym, subst, Result, Ok, Err, OnOk, OnErr}

pub either_way : {A E X : Type 0} (P : X → Type 0) (r : Result A E) (old more new : X) → OnOk r (new ≡ more) → OnErr r (new ≡ old) → P old → P more → P new
either_way P (Ok a) old more new ok err p q = subst P (sym ok) q
either_way P (Err e) old more new ok err p q = subst P (sym err) p
