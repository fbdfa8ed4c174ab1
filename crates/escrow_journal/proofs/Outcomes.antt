-- What a `Result` says if it is no error.
use Rattle.std.specs.Prelude.{◌≡◌, Result, Ok, Err, OnOk, false}
use Rattle.std.specs.Result.{is_err}

pub on_ok : {T E : Type 0} (r : Result T E) (P : Type 0) → is_err r ≡ false → OnOk r P → P
on_ok (Ok x) P e h = h
on_ok (Err y) P e h = absurd (cc)
