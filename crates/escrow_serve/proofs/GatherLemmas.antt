-- Lines that are gathered into a batch.
use Rattle.std.proofs.Common.{◌≡◌, ℕ, ◌+◌, ◌*◌, ◌<◌, ◌≤◌, List, [], ◌∷◌, ◌++◌, length, map, Option, Some, None, arith, refl, sym, ap, subst, ◌∙◌, true}
use Rattle.std.specs.Prelude.{IfNone, IfSome, MatchOption, Bool, not, is_some}
use Rattle.std.specs.List.{AllByRecursion}
use Rattle.std.proofs.lemmas.Bool.{true≢false}
use Rattle.std.proofs.lemmas.List.{append-nil, length-append, map_push}
use Rattle.escrow_reply.specs.declared.short.TheConstants.{MAX_SHORT}
use Rattle.escrow_script.specs.declared.limits.TheConstants.{MAX_LINE}
use Rattle.escrow_script.specs.Script.{TakesLine, left}
use Rattle.escrow_script.proofs.LineLemmas.{names_one}
use Rattle.escrow_machine.specs.State.{State}
use Rattle.escrow_serve.specs.Task.{IsTask}
use Rattle.escrow_serve.specs.Totals.{LineServed, LinesServed}
use Rattle.escrow_serve.specs.declared.totals.Totals.{Totals}
use Rattle.escrow_serve.specs.Batch.{Item, behind, waiting_of, AreAsked, Gathers, GathersLines, HasRoom, IsItem, IsLast, IsWithin, MayWait}
use Rattle.escrow_serve.specs.declared.part.Part.{Part}
use Rattle.escrow_serve.specs.declared.task.Task.{Task}
use Rattle.escrow_serve.specs.declared.task.Task.TheVariants as task
use Rattle.escrow_serve.specs.declared.waiting.Waiting.{Waiting}
use Rattle.escrow_serve.proofs.Elements.{all_push}
use Rattle.escrow_serve.proofs.LinesLemmas.{lines_more, takes_more}

-- no line waits
pub gathers_none : (sessions : ℕ) → (databases : ℕ) (waits : List Waiting) (parts : List Part) → waits ≡ [] → length parts ≡ databases → AreAsked parts [] → Gathers sessions databases waits parts []
gathers_none sessions databases waits parts none count asked = record { count = count; are = tt; waits = none; asked = asked }

-- one more line waits
pub gathers_more : (sessions : ℕ) → (databases : ℕ) (waits : List Waiting) (parts afters : List Part) (items : List Item) (bytes : List ℕ) (asked : Task) (waiting : Waiting) → waiting ≡ waiting_of asked → MayWait asked
    → IsTask sessions databases bytes asked → length afters ≡ length parts → (AreAsked parts items → AreAsked afters (behind items bytes asked)) → Gathers sessions databases waits parts items
    → Gathers sessions databases (waits ++ waiting ∷ []) afters (behind items bytes asked)
gathers_more sessions databases waits parts afters items bytes asked waiting is may reads count more gathers =
    let item : Item = record { bytes = bytes; task = asked } in
    record {
      count = count ∙ gathers.count;
      are = all_push (IsItem sessions databases) items item gathers.are (reads, may);
      waits = ap (λ (ws : List Waiting). ws ++ waiting ∷ []) gathers.waits ∙ ap (λ (w : Waiting). map (λ (i : Item). waiting_of i.task) items ++ w ∷ []) is
          ∙ sym (map_push (λ (i : Item). waiting_of i.task) items item);
      asked = more gathers.asked;
    }

-- no more line waits
pub gathers_still : (sessions : ℕ) → (databases : ℕ) (waits : List Waiting) (parts afters : List Part) (items : List Item) → length afters ≡ length parts → (AreAsked parts items → AreAsked afters items)
    → Gathers sessions databases waits parts items → Gathers sessions databases waits afters items
gathers_still sessions databases waits parts afters items count still gathers = record { count = count ∙ gathers.count; are = gathers.are; waits = gathers.waits; asked = still gathers.asked }

-- a batch requests what a waiting line requests
abbrev pub Waits : Task → Waiting → List Part → List Part → Type 0
Waits asked waiting parts afters =
    (waiting ≡ waiting_of asked) × MayWait asked × ((bytes : List ℕ) (items : List Item) → AreAsked parts items → AreAsked afters (behind items bytes asked))

-- a waiting line belongs to an existing database
item_within : (sessions : ℕ) → (databases : ℕ) (bytes : List ℕ) (asked : Task) → IsTask sessions databases bytes asked → IsWithin databases (waiting_of asked)
item_within sessions databases bytes (task.Refuse place session refusal) is = names_one databases sessions bytes place session is.0 is.2
item_within sessions databases bytes (task.Statement place session asked) is = names_one databases sessions bytes place session is.0 is.1
item_within sessions databases bytes _ is = tt

pub all_within : (sessions : ℕ) → (databases : ℕ) (items : List Item) → AllByRecursion (IsItem sessions databases) items → AllByRecursion (IsWithin databases) (map (λ (i : Item). waiting_of i.task) items)
all_within sessions databases [] all = tt
all_within sessions databases (item ∷ items) all = (item_within sessions databases item.bytes item.task all.0.0, all_within sessions databases items all.1)

-- LINES THAT ARE TAKEN

-- what a batch does with one more line
pub record Admits (asked : Task) (waits now : List Waiting) (parts afters : List Part) (alone : Option Task) : Type 0 where
  pub waiting : IfNone alone ((sessions databases : ℕ) (bytes : List ℕ) (items : List Item) → IsTask sessions databases bytes asked → Gathers sessions databases waits parts items
      → Gathers sessions databases now afters (behind items bytes asked))
  pub back : IfSome alone (λ back. (back ≡ asked) × ((sessions databases : ℕ) (items : List Item) → Gathers sessions databases waits parts items → Gathers sessions databases now afters items))

pub gathers_first : (sessions : ℕ) → (databases : ℕ) (first unread : List ℕ) (asked : Task) (waits now : List Waiting) (parts afters : List Part) (alone : Option Task) → length first ≤ MAX_LINE + 1
    → IsTask sessions databases first asked → Admits asked waits now parts afters alone → Gathers sessions databases waits parts [] → GathersLines sessions databases first unread unread now afters alone
gathers_first sessions databases first unread asked waits now parts afters None short is admits gathers = record {
  short = short;
  items = behind [] first asked;
  lines = [];
  last = [];
  gathers = admits.waiting sessions databases first [] is gathers;
  whole = refl;
  is_last = refl;
  taken = λ rem. refl;
  fewer = omega arith;
}
gathers_first sessions databases first unread asked waits now parts afters (Some back) short is admits gathers = record {
  short = short;
  items = [];
  lines = [];
  last = first ∷ [];
  gathers = admits.back.1 sessions databases [] gathers;
  whole = refl;
  is_last = (first, refl, subst (λ (t : Task). IsTask sessions databases first t) (sym admits.back.0) is);
  taken = λ rem. refl;
  fewer = omega arith;
}

more_lines : (first : List ℕ) (lines : List (List ℕ)) (items : List Item) (last : List (List ℕ)) (kept : List ℕ) → first ∷ lines ≡ map (λ (i : Item). i.bytes) items ++ last → last ≡ []
    → first ∷ (lines ++ kept ∷ []) ≡ map (λ (i : Item). i.bytes) items ++ kept ∷ []
more_lines first lines items last kept whole none =
    ap (λ (ls : List (List ℕ)). ls ++ kept ∷ []) (whole ∙ ap (λ (ls : List (List ℕ)). map (λ (i : Item). i.bytes) items ++ ls) none ∙ append-nil (map (λ (i : Item). i.bytes) items))

pub gathers_next : (sessions : ℕ) → (databases : ℕ) (first unread mid rest kept : List ℕ) (asked : Task) (waits now : List Waiting) (parts afters : List Part) (before alone : Option Task) → before ≡ None
    → length kept ≤ MAX_LINE + 1 → ((rem : Option (List ℕ)) → TakesLine true (left mid rem) (left rest rem) kept) → length rest < length mid → IsTask sessions databases kept asked
    → Admits asked waits now parts afters alone → GathersLines sessions databases first unread mid waits parts before → GathersLines sessions databases first unread rest now afters alone
gathers_next sessions databases first unread mid rest kept asked waits now parts afters before None is_none short taken fewer is admits so_far =
    let none : so_far.last ≡ [] = subst (λ (o : Option Task). IsLast sessions databases o so_far.last) is_none so_far.is_last in
    record {
      short = so_far.short;
      items = behind so_far.items kept asked;
      lines = so_far.lines ++ kept ∷ [];
      last = [];
      gathers = admits.waiting sessions databases kept so_far.items is so_far.gathers;
      whole = more_lines first so_far.lines so_far.items so_far.last kept so_far.whole none ∙ sym (map_push (λ (i : Item). i.bytes) so_far.items (record { bytes = kept; task = asked }))
          ∙ sym (append-nil (map (λ (i : Item). i.bytes) (behind so_far.items kept asked)));
      is_last = refl;
      taken = λ rem. takes_more so_far.lines kept (left unread rem) (left mid rem) (left rest rem) (so_far.taken rem) short (taken rem);
      fewer = omega (arith, so_far.fewer, fewer, length-append so_far.lines (kept ∷ []));
    }
gathers_next sessions databases first unread mid rest kept asked waits now parts afters before (Some back) is_none short taken fewer is admits so_far =
    let none : so_far.last ≡ [] = subst (λ (o : Option Task). IsLast sessions databases o so_far.last) is_none so_far.is_last in
    record {
      short = so_far.short;
      items = so_far.items;
      lines = so_far.lines ++ kept ∷ [];
      last = kept ∷ [];
      gathers = admits.back.1 sessions databases so_far.items so_far.gathers;
      whole = more_lines first so_far.lines so_far.items so_far.last kept so_far.whole none;
      is_last = (kept, refl, subst (λ (t : Task). IsTask sessions databases kept t) (sym admits.back.0) is);
      taken = λ rem. takes_more so_far.lines kept (left unread rem) (left mid rem) (left rest rem) (so_far.taken rem) short (taken rem);
      fewer = omega (arith, so_far.fewer, fewer, length-append so_far.lines (kept ∷ []));
    }

-- a line already in hand was not taken
pub gathers_stay : (sessions : ℕ) → (databases : ℕ) (first unread mid rest : List ℕ) (waits : List Waiting) (parts : List Part) (alone : Option Task) → rest ≡ mid
    → GathersLines sessions databases first unread mid waits parts alone → GathersLines sessions databases first unread rest waits parts alone
gathers_stay sessions databases first unread mid rest waits parts alone same so_far =
    subst (λ (u : List ℕ). GathersLines sessions databases first unread u waits parts alone) (sym same) so_far

-- the result of a test
pub none_of : (alone : Option Task) (tested : Bool) → is_some alone ≡ not tested → tested ≡ true → alone ≡ None
none_of None tested same none = refl
none_of (Some asked) tested same none = absurd (true≢false (same ∙ ap not none))

-- there is room for the waiting lines
pub room_of : (alone : Option Task) (old new len capacity : ℕ) → MatchOption alone (new ≡ old + 1) (λ _. new ≡ old) → len + MAX_SHORT * (old + 1) ≤ capacity → HasRoom alone new len capacity
room_of None old new len capacity is room = omega (arith, is, room)
room_of (Some asked) old new len capacity is room = omega (arith, is, room)

pub room_stays : (alone : Option Task) (waits len now capacity more : ℕ) → now ≡ len → capacity ≤ more → HasRoom alone waits len capacity → HasRoom alone waits now more
room_stays None waits len now capacity more same grown room = omega (arith, same, grown, room)
room_stays (Some asked) waits len now capacity more same grown room = omega (arith, same, grown, room)

pub room_for_all : (alone : Option Task) (waits len capacity : ℕ) → HasRoom alone waits len capacity → len + MAX_SHORT * waits ≤ capacity
room_for_all None waits len capacity room = room
room_for_all (Some asked) waits len capacity room = omega (arith, room)

-- THE LINES ARE SERVED

-- those that waited, if there is no other line
pub hand_of_batch : (sessions : ℕ) → (databases : ℕ) (first unread rest : List ℕ) (waits : List Waiting) (parts : List Part) (states new : List State) (totals counted : List Totals) (out : List ℕ)
    → (so_far : GathersLines sessions databases first unread rest waits parts None) → LinesServed sessions states totals (map (λ (i : Item). i.bytes) so_far.items) out new counted
    → LinesServed sessions states totals (first ∷ so_far.lines) out new counted
hand_of_batch sessions databases first unread rest waits parts states new totals counted out so_far served =
    let all : first ∷ so_far.lines ≡ map (λ (i : Item). i.bytes) so_far.items =
    so_far.whole ∙ ap (λ (ls : List (List ℕ)). map (λ (i : Item). i.bytes) so_far.items ++ ls) so_far.is_last ∙ append-nil (map (λ (i : Item). i.bytes) so_far.items) in
    subst (λ (ls : List (List ℕ)). LinesServed sessions states totals ls out new counted) (sym all) served

-- and the one that may not wait with them
pub hand_and_one : (sessions : ℕ) → (databases : ℕ) (first unread rest : List ℕ) (waits : List Waiting) (parts : List Part) (asked : Task) (states mid new : List State) (totals between counted : List Totals) (out more : List ℕ)
    → (so_far : GathersLines sessions databases first unread rest waits parts (Some asked)) → LinesServed sessions states totals (map (λ (i : Item). i.bytes) so_far.items) out mid between
    → ((bytes : List ℕ) → IsTask sessions databases bytes asked → LineServed sessions mid between bytes more new counted) → LinesServed sessions states totals (first ∷ so_far.lines) (out ++ more) new counted
hand_and_one sessions databases first unread rest waits parts asked states mid new totals between counted out more so_far served one =
    let last = so_far.is_last in
    let all : first ∷ so_far.lines ≡ map (λ (i : Item). i.bytes) so_far.items ++ last.0 ∷ [] =
    so_far.whole ∙ ap (λ (ls : List (List ℕ)). map (λ (i : Item). i.bytes) so_far.items ++ ls) last.1 in
    subst (λ (ls : List (List ℕ)). LinesServed sessions states totals ls (out ++ more) new counted) (sym all)
    (lines_more sessions states mid new totals between counted (map (λ (i : Item). i.bytes) so_far.items) last.0 out more served (one last.0 last.2))
