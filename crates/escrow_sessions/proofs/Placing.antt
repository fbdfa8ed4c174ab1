-- Messages sent to the sessions at given indices.
use Rattle.std.proofs.Common.{◌≡◌, ◌≢◌, ℕ, ◌+◌, ◌<◌, ◌≤◌, ◌⊎◌, Bool, true, false, eqb, if◌then◌else◌, List, [], ◌∷◌, ◌++◌, length, set, get_or, slice_get, slice_index_or, Option, Some, All, refl, sym, ap, ◌∙◌, inl, inr, append_assoc, subst, arith}
use Rattle.std.specs.Iterator.{Yields, HoldsAlong}
use Rattle.std.specs.List.{AllZip}
use Rattle.std.proofs.lemmas.Bool.{eq-eqb, ne_eqb}
use Rattle.std.proofs.lemmas.List.{map-append, append-nil}
use Rattle.std.proofs.lemmas.Option.{slice_get_read}
use Rattle.escrow_statement.specs.declared.statement.Request.{Request}
use Rattle.escrow_shards.specs.Pass.{Pass}
use Rattle.escrow_sessions.specs.Fed.{of, AreFed}
use Rattle.escrow_sessions.specs.Serving.{IsDone}
use Rattle.escrow_sessions.specs.Slots.{IsSlot, messages, JoinsAs, IsNewSlot, AreFurther, IsEnded, AreEnded, AreEndedBefore}
use Rattle.escrow_sessions.specs.declared.feed.Done.{Done}
use Rattle.escrow_sessions.specs.declared.rule.Item.{Item}
use Rattle.escrow_sessions.specs.declared.rule.Item.TheVariants.{One}
use Rattle.escrow_sessions.specs.declared.slot.Slot.{Slot}
use Rattle.escrow_sessions.proofs.Places.{some_same, long_set, set_cases, at_below, below_at, beside, zip_long}
use Rattle.escrow_sessions.proofs.InOrder.{then_one}

-- THE REQUESTS OF ONE INDEX

if_more : (b : Bool) (x r : Request) (xs ys : List Request) → ys ≡ xs ++ r ∷ [] → (if b then x ∷ ys else ys) ≡ (if b then x ∷ xs else xs) ++ r ∷ []
if_more true x r xs ys same = ap (λ zs. x ∷ zs) same
if_more false x r xs ys same = same

if_same : (b : Bool) (x : Request) (xs ys : List Request) → ys ≡ xs → (if b then x ∷ ys else ys) ≡ (if b then x ∷ xs else xs)
if_same b x xs ys same = ap (λ zs. if b then x ∷ zs else zs) same

pub of_here : (place : ℕ) (r : Request) (items : List (ℕ × Request)) → of place (items ++ (place, r) ∷ []) ≡ of place items ++ r ∷ []
of_here place r [] = rw (eq-eqb place place refl) refl
of_here place r (item ∷ items) = if_more (eqb item.0 place) item.1 r (of place items) (of place (items ++ (place, r) ∷ [])) (of_here place r items)

pub of_else : (other place : ℕ) (r : Request) (items : List (ℕ × Request)) → (place ≢ other) → of other (items ++ (place, r) ∷ []) ≡ of other items
of_else other place r [] apart = rw (ne_eqb place other apart) refl
of_else other place r (item ∷ items) apart = if_same (eqb item.0 other) item.1 (of other items) (of other (items ++ (place, r) ∷ [])) (of_else other place r items apart)

-- one more message
message_more : (sent : List Item) (requests : List Request) (r : Request) → (sent ++ messages requests) ++ One r ∷ [] ≡ sent ++ messages (requests ++ r ∷ [])
message_more sent requests r = append_assoc sent (messages requests) (One r ∷ []) ∙ ap (λ ms. sent ++ ms) (sym (map-append One requests (r ∷ [])))

-- one more item was sent
pub further_one : (items : List (ℕ × Request)) (old now : List Slot) (place : ℕ) (r : Request) (slot next : Slot) → AreFurther items old now → place < length now → slot ≡ get_or now place slot
    → ((pass : Pass) (sent : List Item) → IsSlot pass sent slot → IsSlot pass (sent ++ One r ∷ []) next) → AreFurther (items ++ (place, r) ∷ []) old (set now place next)
further_one items old now place r slot next before below read sends = record {
  count = long_set now place next ∙ before.count;
  each = λ p first last pass sent at_old at_new is. moved p first last pass sent at_old is (set_cases now place p next last at_new);
} where
  there : slice_get now place ≡ Some slot
  there = slice_get_read now (length now) place slot refl below read

  moved : (p : ℕ) (first last : Slot) (pass : Pass) (sent : List Item) → slice_get old p ≡ Some first → IsSlot pass sent first
      → ((p ≡ place) × (next ≡ last)) ⊎ ((p ≢ place) × (slice_get now p ≡ Some last)) → IsSlot pass (sent ++ messages (of p (items ++ (place, r) ∷ []))) last
  moved p first last pass sent at_old is (inl same) =
      let at : slice_get now p ≡ Some slot = ap (slice_get now) same.0 ∙ there in
      let so_far : IsSlot pass (sent ++ messages (of p items)) slot = before.each p first slot pass sent at_old at is in
      let more : (sent ++ messages (of p items)) ++ One r ∷ [] ≡ sent ++ messages (of p (items ++ (place, r) ∷ [])) =
      message_more sent (of p items) r ∙ ap (λ rs. sent ++ messages rs) (sym (subst (λ q. of p (items ++ (q, r) ∷ []) ≡ of p items ++ r ∷ []) same.0 (of_here p r items))) in
      subst (λ ms. IsSlot pass ms last) more (subst (IsSlot pass ((sent ++ messages (of p items)) ++ One r ∷ [])) same.1 (sends pass (sent ++ messages (of p items)) so_far))
  moved p first last pass sent at_old is (inr away) =
      let apart = away.0 in
      subst (λ rs. IsSlot pass (sent ++ messages rs) last) (sym (of_else p place r items (λ same. apart (sym same)))) (before.each p first last pass sent at_old away.1 is)

-- at first nothing was sent
pub further_none : (slots : List Slot) → AreFurther [] slots slots
further_none slots = record {
  count = refl;
  each = λ p first last pass sent at_old at_new is.
      subst (λ ms. IsSlot pass ms last) (sym (append-nil sent)) (subst (IsSlot pass sent) (some_same first last (sym at_old ∙ at_new)) is);
}

-- THE END

pub ended_none : (slots : List Slot) → AreEndedBefore 0 slots slots
ended_none slots = record {
  count = refl;
  ended = λ p first last below at_old at_new. absurd (omega (arith, below));
  others = λ p first last past at_old at_new. some_same last first (sym at_new ∙ at_old);
}

pub ended_one : (place : ℕ) (old now : List Slot) (slot next : Slot) → AreEndedBefore place old now → place < length now → slot ≡ get_or now place slot → IsEnded slot next
    → AreEndedBefore (place + 1) old (set now place next)
ended_one place old now slot next before below read ends = record {
  count = long_set now place next ∙ before.count;
  ended = λ p first last short at_old at_new. done p first last short at_old (set_cases now place p next last at_new);
  others = λ p first last past at_old at_new. same p first last past at_old (set_cases now place p next last at_new);
} where
  there : slice_get now place ≡ Some slot
  there = slice_get_read now (length now) place slot refl below read

  done : (p : ℕ) (first last : Slot) → p < place + 1 → slice_get old p ≡ Some first → ((p ≡ place) × (next ≡ last)) ⊎ ((p ≢ place) × (slice_get now p ≡ Some last)) → IsEnded first last
  done p first last short at_old (inl here) =
      let at : slice_get now p ≡ Some slot = ap (slice_get now) here.0 ∙ there in
      let is : slot ≡ first = before.others p first slot (omega (arith, here.0)) at_old at in
      subst (IsEnded first) here.1 (subst (λ s. IsEnded s next) is ends)
  done p first last short at_old (inr away) = let apart = away.0 in before.ended p first last (omega (arith, short, apart)) at_old away.1

  same : (p : ℕ) (first last : Slot) → place + 1 ≤ p → slice_get old p ≡ Some first → ((p ≡ place) × (next ≡ last)) ⊎ ((p ≢ place) × (slice_get now p ≡ Some last)) → last ≡ first
  same p first last past at_old (inl here) = absurd (omega (arith, past, here.0))
  same p first last past at_old (inr away) = before.others p first last (omega (arith, past)) at_old away.1

pub ended_all : (n : ℕ) (old new : List Slot) → length old ≤ n → AreEndedBefore n old new → AreEnded old new
ended_all n old new past all = record {
  count = all.count;
  each = λ p first last at_old at_new. let below = below_at old p first at_old in all.ended p first last (omega (arith, past, below)) at_old at_new;
}

-- ALL TOGETHER

pub all_fed : (passes : List Pass) (items : List (ℕ × Request)) (new fed ended : List Slot) (done : List Done)
    → AllZip IsNewSlot passes new → AreFurther items new fed → AreEnded fed ended → AllZip JoinsAs ended done → AreFed passes items done
all_fed passes items new fed ended done begun further over joined = record {
  count = sym (zip_long JoinsAs ended done joined) ∙ over.count ∙ further.count ∙ sym (zip_long IsNewSlot passes new begun);
  each = each;
} where
  each : (place : ℕ) (pass : Pass) (d : Done) → slice_get passes place ≡ Some pass → slice_get done place ≡ Some d → IsDone pass (of place items) d
  each place pass d at_seat at_done =
      let first = beside IsNewSlot passes new place pass begun at_seat in
      let below = below_at new place first.0 first.1.0 in
      let second = at_below fed place (subst (λ n. place < n) (sym further.count) below) in
      let third = at_below ended place (subst (λ n. place < n) (sym (over.count ∙ further.count)) below) in
      let last = beside JoinsAs ended done place third.0 joined third.1 in
      let sent : IsSlot pass (messages (of place items)) second.0 = further.each place first.0 second.0 pass [] first.1.0 second.1 first.1.1 in
      let to_end = over.each place second.0 third.0 second.1 third.1 pass (messages (of place items)) sent in
      subst (IsDone pass (of place items)) (some_same last.0 d (sym last.1.0 ∙ at_done)) (last.1.1 pass (of place items) to_end)

-- THE ITEMS

index_last : {A : Type 0} (ys : List A) (y : A) → slice_index_or (ys ++ y ∷ []) (length ys) y ≡ y
index_last [] y = refl
index_last (z ∷ ys) y = index_last ys y

shorter : {A : Type 0} (ys : List A) (y : A) → length ys < length (ys ++ y ∷ [])
shorter [] y = omega arith
shorter (z ∷ ys) y = let more = shorter ys y in omega arith

-- what holds for all holds for the last
last_of : {A : Type 0} (P : A → Type 0) (xs : List A) (x : A) → All P (xs ++ x ∷ []) → P x
last_of P xs x all = subst P (index_last xs x) (all (length xs) x (shorter xs x))

-- the next item has a valid index, if all items that the iterator gives do
pub names_place : {I : Type 0} (gives : I → Option (ℕ × Request) → I → Type 0) (n : ℕ) (items : List (ℕ × Request)) (item : ℕ × Request) (given s t u : I)
    → HoldsAlong gives given (All (λ x. x.0 < n)) → s ≡ given → Yields gives s items t → gives t (Some item) u → item.0 < n
names_place gives n items item given s t u places same came comes =
    last_of (λ x. x.0 < n) items item (places (items ++ item ∷ []) u (subst (λ i. Yields gives i (items ++ item ∷ []) u) same (then_one gives items item s t u came comes)))
