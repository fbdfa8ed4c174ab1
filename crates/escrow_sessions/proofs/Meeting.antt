-- What both ends of a channel say about a worker.
use Rattle.std.proofs.Common.{◌≡◌, Bool, true, false, List, [], ◌∷◌, ◌++◌, true≢false, refl, sym, ap, ap₂, ◌∙◌, inl, inr, append_assoc, subst}
use Rattle.std.proofs.lemmas.List.{append-nil}
use Rattle.std.specs.Iterator.{Yields}
use Rattle.crossbeam_channel.specs.Ends.{receives_on}
use Rattle.escrow_statement.specs.declared.statement.Request.{Request}
use Rattle.escrow_shards.specs.Pass.{Pass}
use Rattle.escrow_sessions.specs.Ends.{taken_on, gives_taken}
use Rattle.escrow_sessions.specs.Serving.{IsDone}
use Rattle.escrow_sessions.specs.Slots.{messages, to_the_end}
use Rattle.escrow_sessions.specs.Work.{IsServed, IsAbsent, IsWorked}
use Rattle.escrow_sessions.specs.declared.channel.Receiver.{Receiver}
use Rattle.escrow_sessions.specs.declared.rule.Item.{Item}
use Rattle.escrow_sessions.specs.declared.rule.Item.TheVariants.{One, End}
use Rattle.escrow_sessions.specs.declared.team.Worked.{Worked}
use Rattle.escrow_sessions.proofs.AtOnce.{absent_done}

-- an item, and the items of a list

abbrev is_end : Item → Bool
is_end (One r) = false
is_end End = true

abbrev request_or : Request → Item → Request
request_or other (One r) = r
request_or other End = other

abbrev begins_with_end : List Item → Bool
begins_with_end [] = false
begins_with_end (x ∷ xs) = is_end x

abbrev first_request_or : Request → List Item → Request
first_request_or other [] = other
first_request_or other (x ∷ xs) = request_or other x

abbrev behind : List Item → List Item
behind [] = []
behind (x ∷ xs) = xs

abbrev is_nothing : List Item → Bool
is_nothing [] = true
is_nothing (x ∷ xs) = false

-- if one list of messages up to the end begins with another, they have the same requests
same_requests : (xs ys : List Request) (left : List Item) → to_the_end xs ≡ to_the_end ys ++ left → xs ≡ ys
same_requests [] [] left same = refl
same_requests [] (y ∷ ys) left same = absurd (true≢false (ap begins_with_end same))
same_requests (x ∷ xs) [] left same = absurd (true≢false (sym (ap begins_with_end same)))
same_requests (x ∷ xs) (y ∷ ys) left same = ap₂ (λ r rs. r ∷ rs) (ap (first_request_or x) same) (same_requests xs ys left (ap behind same))

-- a list of messages up to the end is not empty
some_message : (ys : List Request) (left : List Item) → is_nothing (to_the_end ys ++ left) ≡ false
some_message [] left = refl
some_message (y ∷ ys) left = refl

-- the messages taken while requests were given
taken_while : (xs : List Request) (s t : Receiver) → Yields gives_taken s xs t → (receives_on t.receiver ≡ receives_on s.receiver) × (taken_on t ≡ taken_on s ++ messages xs)
taken_while [] s t same = rw same (refl, sym (append-nil (taken_on t)))
taken_while (x ∷ xs) s t gave =
    let first = gave.1 in let rest = taken_while xs gave.0 t gave.2 in (
      rest.0 ∙ first.channel,
      rest.1 ∙ ap (λ taken. taken ++ messages xs) first.taken ∙ append_assoc (taken_on s) (One x ∷ []) (messages xs),
    )

-- the messages taken to the end
taken_through : (pass : Pass) (s : Receiver) (w : Worked Receiver) (served : IsServed gives_taken pass s w.done w.source) → taken_on s ≡ [] → taken_on w.source ≡ to_the_end served.requests
taken_through pass s w served none =
    let before = taken_while served.requests s served.drained.0 served.drained.1 in
    served.drained.2.taken ∙ ap (λ taken. taken ++ End ∷ []) (before.1 ∙ ap (λ taken. taken ++ messages served.requests) none)

-- a worker's end stays the end of the same channel
pub worked_on : (pass : Pass) (s : Receiver) (w : Worked Receiver) → IsWorked gives_taken pass s w → receives_on w.source.receiver ≡ receives_on s.receiver
worked_on pass s w (inl served) = served.drained.2.channel ∙ (taken_while served.requests s served.drained.0 served.drained.1).0
worked_on pass s w (inr absent) = ap (λ t. receives_on t.receiver) absent.1

-- the result of a worker to which these requests were sent
pub fed_done : (pass : Pass) (s : Receiver) (w : Worked Receiver) (requests : List Request) → IsWorked gives_taken pass s w → taken_on s ≡ []
    → (left : List Item) → to_the_end requests ≡ taken_on w.source ++ left → IsDone pass requests w.done
fed_done pass s w requests (inl served) none left met =
    let same = same_requests requests served.requests left (met ∙ ap (λ taken. taken ++ left) (taken_through pass s w served none)) in
    subst (λ rs. IsDone pass rs w.done) (sym same) served.done
fed_done pass s w requests (inr absent) none left met = absent_done pass requests w.done absent.0

-- the result of a worker to which nothing was sent
pub unfed_absent : (pass : Pass) (s : Receiver) (w : Worked Receiver) → IsWorked gives_taken pass s w → taken_on s ≡ [] → (left : List Item) → [] ≡ taken_on w.source ++ left → IsAbsent pass w.done
unfed_absent pass s w (inl served) none left met =
    absurd (true≢false (ap is_nothing (met ∙ ap (λ taken. taken ++ left) (taken_through pass s w served none)) ∙ some_message served.requests left))
unfed_absent pass s w (inr absent) none left met = absent.0
