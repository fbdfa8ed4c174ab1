-- What holds of the result of a call, whether it succeeds or fails.
use Rattle.std.proofs.Common.{◌≡◌, sym, subst}
use Rattle.std.specs.Prelude.{Result, Ok, Err, OnErr, IfOk, IfErr, IsErrAnd}

-- what holds in every case
pub at_err : {X Z P : Type 0} (r : Result X Z) → P → OnErr r P
at_err (Ok x) p = tt
at_err (Err z) p = p

pub from_err : {X Z P Q : Type 0} (r : Result X Z) → (P → Q) → OnErr r P → OnErr r Q
from_err (Ok x) f p = tt
from_err (Err z) f p = f p

-- what holds of a fault that was converted
pub at_fault : {X Z : Type 0} (r : Result X Z) (why : Z) (P : Z → Type 0) → IsErrAnd r (λ e. e ≡ why) → P why → IfErr r P
at_fault (Ok x) why P is p = tt
at_fault (Err e) why P is p = subst P (sym is) p

pub at_ok : {X Z : Type 0} (P Q : X → Type 0) (r : Result X Z) → ((x : X) → P x → Q x) → IfOk r P → IfOk r Q
at_ok P Q (Ok x) f p = f x p
at_ok P Q (Err z) f p = tt
