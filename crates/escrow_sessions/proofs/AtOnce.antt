-- Workers and their results, list by list.
use Rattle.std.proofs.Common.{◌≡◌, ℕ, ◌+◌, ◌≤◌, List, [], ◌∷◌, length, None, ap, ◌∙◌, arith, inl, inr}
use Rattle.std.specs.Iterator.{Yields}
use Rattle.std.specs.List.{AllZip}
use Rattle.std.specs.Vec.Iter.{into_iter_items}
use Rattle.escrow_statement.specs.declared.statement.Request.{Request}
use Rattle.escrow_shards.specs.Pass.{Pass}
use Rattle.escrow_sessions.specs.Serving.{IsDone, AreDone}
use Rattle.escrow_sessions.specs.Work.{gives_listed, IsAbsent, IsServed, IsWorked, IsWorker, IsWorkerOf, CameOf}
use Rattle.escrow_sessions.specs.declared.feed.Done.{Done}
use Rattle.escrow_sessions.specs.declared.feed.Feed.{Feed}
use Rattle.escrow_sessions.specs.declared.source.Listed.{Listed}
use Rattle.escrow_sessions.specs.declared.team.Worked.{Worked}
use Rattle.escrow_sessions.specs.declared.team.Worker.{Worker}

-- two relations composed through a list between
pub zip_by : {A B C : Type 0} (R : A → B → Type 0) (T : B → C → Type 0) (W : A → C → Type 0) → ((a : A) (b : B) (c : C) → R a b → T b c → W a c)
    → (xs : List A) (ys : List B) (zs : List C) → AllZip R xs ys → AllZip T ys zs → AllZip W xs zs
zip_by R T W so [] [] [] first second = tt
zip_by R T W so [] [] (z ∷ zs) first none = absurd none
zip_by R T W so [] (y ∷ ys) zs none second = absurd none
zip_by R T W so (x ∷ xs) [] zs none second = absurd none
zip_by R T W so (x ∷ xs) (y ∷ ys) [] first none = absurd none
zip_by R T W so (x ∷ xs) (y ∷ ys) (z ∷ zs) first second = (so x y z first.0 second.0, zip_by R T W so xs ys zs first.1 second.1)

-- the items that a list gives up to its end are the list
pub listed_all : (xs : List Request) (s t u : Listed) → Yields gives_listed s xs t → gives_listed t None u → into_iter_items s.left ≡ xs
listed_all [] s t u same none = rw same none.0
listed_all (x ∷ xs) s t u first none = first.1 ∙ ap (λ ys. x ∷ ys) (listed_all xs first.0 t u first.2 none)

-- a worker that served nothing did nothing
pub absent_done : (seat : Pass) (requests : List Request) (d : Done) → IsAbsent seat d → IsDone seat requests d
absent_done seat requests d absent = record {
  serves = rw absent.answers absent.pass;
  ended = rw absent.ended (ap length absent.answers);
}

-- a list was served to its end
pub listed_served : (seat : Pass) (source new : Listed) (d : Done) → IsServed gives_listed seat source d new → IsDone seat (into_iter_items source.left) d
listed_served seat source new d served = rw (listed_all served.requests source served.drained.0 new served.drained.1 served.drained.2) served.done

-- the result of a worker over a list
worked_done : (seat : Pass) (source : Listed) (r : Worked Listed) → IsWorked gives_listed seat source r → IsDone seat (into_iter_items source.left) r.done
worked_done seat source r (inl served) = listed_served seat source r.source r.done served
worked_done seat source r (inr absent) = absent_done seat (into_iter_items source.left) r.done absent.0

-- the result of the worker of a feed
pub listed_done : (w : Worker Listed) (r : Worked Listed) → ((seat : Pass) (source : Listed) → IsWorker gives_listed seat source w → IsWorked gives_listed seat source r) → CameOf w r.done
listed_done w r came f of = rw (← of.1) (worked_done f.pass of.0 r (came f.pass of.0 of.2))

-- the results of all workers
pub all_done : (feeds : List Feed) (workers : List (Worker Listed)) (done : List Done) → AllZip IsWorkerOf feeds workers → AllZip CameOf workers done → AreDone feeds done
all_done feeds workers done first second = zip_by IsWorkerOf CameOf (λ f d. IsDone f.pass f.requests.items d) (λ f w d of came. came f of) feeds workers done first second

-- one item fewer remains, and there is still room
pub one_less : (left rest n m : ℕ) → left ≡ n → rest + 1 ≡ left → n ≡ m + 1 → rest ≡ m
one_less left rest n m same gone short = omega arith

pub room_stays : (count left rest new capacity wide : ℕ) → count + left ≤ capacity → rest + 1 ≡ left → new ≡ count + 1 → wide ≡ capacity → new + rest ≤ wide
room_stays count left rest new capacity wide fits gone more same = omega arith
