use Rattle.std.proofs.Common.{◌≡◌, ◌≤◌, ℕ, ◌+◌, ◌*◌, ◌++◌, List, map, drop, vec_len}
use Rattle.std.specs.Prelude.{vec_capacity}
use Rattle.std.specs.List.{AllByRecursion}
use Rattle.escrow_machine.specs.State.{State}
use Rattle.escrow_reply.specs.declared.short.TheConstants.{MAX_SHORT}
use Rattle.escrow_serve.specs.Batch.{waiting_of, AreAsked, AreReady, IsItem, Item, Runs}
use Rattle.escrow_serve.proofs.GaveLemmas.{GaveSome}
use Rattle.escrow_serve.proofs.GiveLemmas.{Given}
use Rattle.escrow_serve.proofs.waiting.give_all.Given as goal

-- the lines visited so far have their replies, in order, and the parts have the remaining replies
abbrev pub invariant-loop-waits : goal.invariant-loop-waits
invariant-loop-waits l = record {
  parts : vec_len l.parts ≡ vec_len l.fn.parts;
  each : vec_len l.totals ≡ vec_len l.fn.totals;
  len : vec_len l.replies ≤ vec_len l.fn.replies + MAX_SHORT * l.waits-index;
  capacity : vec_capacity l.fn.replies ≤ vec_capacity l.replies;
  asked : (items : List Item) → AreAsked l.fn.parts.items items → AreAsked l.parts.items items;
  given : (out : List ℕ) × (l.replies.items ≡ l.fn.replies.items ++ out) × ((sessions : ℕ) (states new : List State) (items : List Item) → l.waiting ≡ map (λ item. waiting_of item.task) items
      → AllByRecursion (IsItem sessions (vec_len l.fn.parts)) items → Runs states new items l.fn.parts.items
      → Given sessions (vec_len l.fn.parts) states new l.fn.totals.items l.totals.items items (drop l.waits-index l.waiting) l.parts.items out);
  gave : (out : List ℕ) × (l.replies.items ≡ l.fn.replies.items ++ out) × ((sessions : ℕ) (items : List Item) → l.waiting ≡ map (λ item. waiting_of item.task) items
      → AllByRecursion (IsItem sessions (vec_len l.fn.parts)) items → AreReady l.fn.parts.items items
      → GaveSome sessions (vec_len l.fn.parts) items (drop l.waits-index l.waiting) l.fn.parts.items l.parts.items out);
}
