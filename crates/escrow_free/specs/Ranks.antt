-- Helps: the outboxes that a phase uses, by their ranks among these.
use Rattle.std.specs.Prelude.{ℕ, zero, suc, ◌+◌, Bool, true, false, if◌then◌else◌, List, [], ◌∷◌, slice_set, slice_index}
use Rattle.escrow_statement.specs.declared.statement.Request.{Request}
use Rattle.escrow_shards.specs.Pass.{Pass}
use Rattle.escrow_free.specs.declared.outbox.Outbox.{Outbox}

-- each item marks the outbox that it names
abbrev pub marked_by : List (ℕ × Request) → List Bool → List Bool
marked_by [] marks = marks
marked_by (item ∷ items) marks = marked_by items (slice_set marks item.0 true)

-- for each outbox, n more than the number of marked outboxes before it
abbrev pub ranks_from : ℕ → List Bool → List ℕ
ranks_from n [] = []
ranks_from n (mark ∷ marks) = n ∷ ranks_from (if mark then n + 1 else n) marks

-- how many marked outboxes are before one
abbrev pub rank : List Bool → ℕ → ℕ
rank [] k = 0
rank (mark ∷ marks) zero = 0
rank (true ∷ marks) (suc k) = suc (rank marks k)
rank (false ∷ marks) (suc k) = rank marks k

-- an item, which now names its outbox by rank
abbrev pub renamed : List ℕ → ℕ × Request → ℕ × Request
renamed ranks item = (slice_index ranks item.0, item.1)

-- the passes of the outboxes that are marked
abbrev pub parted : List Bool → List Outbox → List Pass
parted [] outboxes = []
parted (mark ∷ marks) [] = parted marks []
parted (true ∷ marks) (outbox ∷ outboxes) = outbox.pass ∷ parted marks outboxes
parted (false ∷ marks) (outbox ∷ outboxes) = parted marks outboxes

-- the outboxes that aren't marked
abbrev pub rested : List Bool → List Outbox → List Outbox
rested [] outboxes = []
rested (mark ∷ marks) [] = rested marks []
rested (true ∷ marks) (outbox ∷ outboxes) = rested marks outboxes
rested (false ∷ marks) (outbox ∷ outboxes) = outbox ∷ rested marks outboxes

-- all outboxes, the marked ones from one list, and the others from another
abbrev pub merged : List Bool → List Outbox → List Outbox → List Outbox
merged [] served idle = []
merged (true ∷ marks) [] idle = merged marks [] idle
merged (true ∷ marks) (outbox ∷ served) idle = outbox ∷ merged marks served idle
merged (false ∷ marks) served [] = merged marks served []
merged (false ∷ marks) served (outbox ∷ idle) = outbox ∷ merged marks served idle
