-- The sessions whose COMMITs wait, place by place.
use Rattle.std.specs.Prelude.{Bool, is_some, sum_by}
use Rattle.std.proofs.Common.{◌≡◌, ℕ, suc, ◌+◌, ◌<◌, ◌≤◌, min, Option, Some, None, IfNone, IfSome, Vec, vec_len, Global, List, [], ◌∷◌, ◌++◌, length, get_or, drop, inl, inr, refl, sym, ap, ◌∙◌, append_assoc, arith}
use Rattle.std.proofs.lemmas.Bool.{cases_lt}
use Rattle.std.proofs.lemmas.List.{drop_more, get_or_past}
use Rattle.std.proofs.lemmas.List.Sums.{sum_by-cons}
use Rattle.escrow_shards.specs.declared.commit_queue.CommitState.{CommitState}
use Rattle.escrow_shards.specs.declared.commit_queue.CommitState.TheVariants as state
use Rattle.escrow_shards.specs.CommitPlaces.{waits_in, AreInPlaces, NoneWaitsIn}
use Rattle.escrow_shards.specs.CommitQueue.{asking, NoneWaits, Queue}

waits_first : (before : ℕ) (here : CommitState) (places : List CommitState) → here ≡ state.Asked → asking before (here ∷ places) ≡ (before + 1) ∷ asking (before + 1) places
waits_first before here places asked = ap (λ (s : CommitState). asking before (s ∷ places)) asked

waits_later : (before : ℕ) (here : CommitState) (places : List CommitState) → ¬ (here ≡ state.Asked) → asking before (here ∷ places) ≡ asking (before + 1) places
waits_later before state.Free places not = refl
waits_later before state.Asked places not = absurd (not refl)
waits_later before state.Leads places not = refl
waits_later before (state.Answered outcome) places not = refl

-- a COMMIT waits in the next place
pub next_waits : (places : List CommitState) (before session : ℕ) (taken now all : List ℕ) → before < length places → session ≡ before + 1 → now ≡ taken ++ session ∷ []
    → get_or places before state.Free ≡ state.Asked → taken ++ asking before (drop before places) ≡ all → now ++ asking (before + 1) (drop (before + 1) places) ≡ all
next_waits places before session taken now all below number is asked all_is =
    let rest = asking (before + 1) (drop (before + 1) places) in
    ap (λ (ks : List ℕ). ks ++ rest) (is ∙ ap (λ (k : ℕ). taken ++ k ∷ []) number)
    ∙ append_assoc taken ((before + 1) ∷ []) rest
    ∙ ap (λ (ks : List ℕ). taken ++ ks)
    (sym (ap (asking before) (drop_more places before state.Free below) ∙ waits_first before (get_or places before state.Free) (drop (before + 1) places) asked))
    ∙ all_is

-- none waits in the next place
pub next_does_not_wait : (places : List CommitState) (before : ℕ) (taken now all : List ℕ) → before < length places → now ≡ taken
    → ¬ (get_or places before state.Free ≡ state.Asked) → taken ++ asking before (drop before places) ≡ all → now ++ asking (before + 1) (drop (before + 1) places) ≡ all
next_does_not_wait places before taken now all below is not all_is =
    let rest = asking (before + 1) (drop (before + 1) places) in
    ap (λ (ks : List ℕ). ks ++ rest) is
    ∙ ap (λ (ks : List ℕ). taken ++ ks)
    (sym (ap (asking before) (drop_more places before state.Free below) ∙ waits_later before (get_or places before state.Free) (drop (before + 1) places) not))
    ∙ all_is

-- none waits in the later places, nor in the earlier ones
pub none_in_either : {S : Type 0} (next : Option S) (queue : Queue) (own most end : ℕ) → length queue.places ≤ most → end ≡ min own most → NoneWaitsIn own most queue.places
    → IfNone next (NoneWaitsIn 0 end queue.places) → IfNone next (NoneWaits queue)
none_in_either (Some s) queue own most end count least later earlier = tt
none_in_either None queue own most end count least later earlier = λ before asked.
    elim (cases_lt before most) [
      | inr past ↦ let free = get_or_past queue.places before state.Free (omega (arith, count, past)) in absurd (cc)
      | inl within ↦ elim (cases_lt before own) [
        | inl below ↦ earlier before (omega arith) (omega (arith, least, below, within)) asked
        | inr from ↦ later before (omega (arith, from)) within asked
      ]
    ]

-- no more COMMITs wait than there are places
waits_once : (here : CommitState) → waits_in here ≤ 1
waits_once state.Free = omega arith
waits_once state.Asked = omega arith
waits_once state.Leads = omega arith
waits_once (state.Answered outcome) = omega arith

pub few_wait : (places : List CommitState) → sum_by waits_in places ≤ length places
few_wait [] = omega arith
few_wait (here ∷ places) =
    let more = sum_by-cons waits_in here places in
    let one = waits_once here in
    let rest = few_wait places in
    omega (arith, more, one, rest)

-- if none waits, none is counted
none_in_place : (here : CommitState) → ¬ (here ≡ state.Asked) → waits_in here ≡ 0
none_in_place state.Free not = refl
none_in_place state.Asked not = absurd (not refl)
none_in_place state.Leads not = refl
none_in_place (state.Answered outcome) not = refl

none_counted : (places : List CommitState) → ((before : ℕ) → ¬ (get_or places before state.Free ≡ state.Asked)) → sum_by waits_in places ≡ 0
none_counted [] none = refl
none_counted (here ∷ places) none =
    let more = sum_by-cons waits_in here places in
    let first = none_in_place here (none 0) in
    let rest = none_counted places (λ before. none (suc before)) in
    omega (arith, more, first, rest)

-- if none waits, the lead may end
pub lead_may_end : {S : Type 0} (next : Option S) (queue : Queue) (waiting : ℕ) (led : Bool) → AreInPlaces queue waiting → IfNone next (NoneWaits queue) → led ≡ is_some next
    → AreInPlaces (record { places = queue.places; is_led = led }) waiting
lead_may_end (Some next) queue waiting led all none is = record { count = all.count; counted = all.counted; named = all.named; led = λ some. is }
lead_may_end None queue waiting led all none is = record {
  count = all.count;
  counted = all.counted;
  named = all.named;
  led = λ some. let zero = none_counted queue.places none in let counted = all.counted in absurd (omega (arith, some, zero, counted));
}

-- those that wait are as many as are counted
pub asking_counts : (before : ℕ) (places : List CommitState) → length (asking before places) ≡ sum_by waits_in places
asking_counts before [] = refl
asking_counts before (state.Free ∷ places) =
    let more = sum_by-cons waits_in state.Free places in let rest = asking_counts (before + 1) places in omega (arith, more, rest)
asking_counts before (state.Asked ∷ places) =
    let more = sum_by-cons waits_in state.Asked places in let rest = asking_counts (before + 1) places in omega (arith, more, rest)
asking_counts before (state.Leads ∷ places) =
    let more = sum_by-cons waits_in state.Leads places in let rest = asking_counts (before + 1) places in omega (arith, more, rest)
asking_counts before (state.Answered outcome ∷ places) =
    let more = sum_by-cons waits_in (state.Answered outcome) places in let rest = asking_counts (before + 1) places in omega (arith, more, rest)

-- one comes first, and at least one waits
pub two_or_more : (sessions : Option (Vec ℕ Global)) (first : ℕ) (places : List CommitState) (waiting : ℕ) → 1 ≤ waiting → waiting ≡ sum_by waits_in places
    → IfSome sessions (λ v. v.items ≡ first ∷ asking 0 places) → IfSome sessions (λ v. 2 ≤ vec_len v)
two_or_more None first places waiting some counted all = tt
two_or_more (Some v) first places waiting some counted all =
    let counts = asking_counts 0 places in
    let long = ap length all in
    omega (arith, v.ok.0, long, counts, some, counted)
