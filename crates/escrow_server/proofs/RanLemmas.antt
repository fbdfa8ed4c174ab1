-- What serving says of each database, as the program passes it on.
use Rattle.std.specs.Prelude.{◌≡◌, ℕ, Option, Result, Ok, IfSome, OnOk, List}
use Rattle.std.proofs.Common.{sym, subst}
use Rattle.std.proofs.lemmas.Option.{IfSome_then}
use Rattle.sqlite_trees.specs.declared.store.Store.{Ghosts}
use Rattle.escrow_core.specs.Database.{Database}
use Rattle.escrow_script.specs.declared.fault.ServeFault.{ServeFault}
use Rattle.escrow_serve.specs.Ran as serve
use Rattle.escrow_serve.specs.Ran.{ScriptRan}
use Rattle.escrow_server.specs.Program.{LeftBy}

pub on_ok : {X Z P : Type 0} (r : Result X Z) → P → OnOk r P
on_ok (Ok x) p = p
on_ok _ p = tt

-- the whole script was served
pub all_ran : {S : Type 0} (g : Ghosts S) (sessions : ℕ) (script : Option (List ℕ)) (olds news now : List (Database S)) (old_bytes new_bytes now_bytes : Option (List ℕ)) (result : Result (Unit {0}) ServeFault)
    (done : Unit {0}) → result ≡ Ok done → now ≡ news → now_bytes ≡ new_bytes → IfSome script (λ bytes. ScriptRan g sessions bytes olds news old_bytes new_bytes (serve.LeftBy result))
    → IfSome script (λ bytes. ScriptRan g sessions bytes olds now old_bytes now_bytes (LeftBy (Ok tt)))
all_ran {S} g sessions script olds news now old_bytes new_bytes now_bytes result done is same written ran = IfSome_then script ran (λ bytes it.
    subst (λ (ds : List (Database S)). ScriptRan g sessions bytes olds ds old_bytes now_bytes (LeftBy (Ok tt))) (sym same)
    (subst (λ (b : Option (List ℕ)). ScriptRan g sessions bytes olds news old_bytes b (LeftBy (Ok tt))) (sym written)
    (record {
      served = it.served;
      unserved = it.unserved;
      written = it.written;
      unwritten = it.unwritten;
      as_many = it.as_many;
      lines = it.lines;
      ran = it.ran;
      appends = it.appends;
      left = subst (λ (r : Result (Unit {0}) ServeFault). serve.LeftBy r it.unserved it.unwritten) is it.left;
    })))
