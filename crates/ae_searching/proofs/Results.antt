-- What clauses say of a result together.
use Rattle.std.specs.Prelude.{Result, Ok, Err, OnOk}

pub on_ok_each : {A E X : Type 0} (Q P : X → Type 0) (r : Result A E) → ((x : X) → Q x → OnOk r (P x)) → OnOk r ((x : X) → Q x → P x)
on_ok_each Q P (Ok a) f = f
on_ok_each Q P (Err e) f = tt

pub on_ok_three : {A E : Type 0} (P Q R S : Type 0) (r : Result A E) → OnOk r P → OnOk r Q → OnOk r R → (P → Q → R → S) → OnOk r S
on_ok_three P Q R S (Ok a) p q s f = f p q s
on_ok_three P Q R S (Err e) p q s f = tt
