use Rattle.std.proofs.Common.{◌≡◌, ℕ, List, [], length, sym, subst, ◌∙◌, vec_len}
use Rattle.std.specs.List.{AllByRecursion}
use Rattle.escrow_serve.specs.Batch.{IsItem, IsWithin}
use Rattle.escrow_serve.specs.Output.{states_of}
use Rattle.escrow_serve.specs.declared.waiting.Waiting.{Waiting}
use Rattle.escrow_serve.proofs.GaveLemmas.{batch_ran, ready_all}
use Rattle.escrow_serve.proofs.GatherLemmas.{all_within, gathers_none}
use Rattle.escrow_serve.proofs.RunLemmas.{emptied, runs_all}
use Rattle.escrow_serve.proofs.batch.Batch.serve.Goals as goal

pub give_all-requires-clause-within : goal.give_all-requires-clause-within
give_all-requires-clause-within g c =
    let given = c.requires.gathered in
    let count = sym (c.run_all.ensures.parts ∙ c.args.self.now.parts.ok.0 ∙ given.2.count) in
    subst (λ (n : ℕ). AllByRecursion (IsWithin n) c.as_slice.result.now) count
    (subst (λ (ws : List Waiting). AllByRecursion (IsWithin (vec_len c.args.databases.now)) ws) (sym (c.as_slice.ensures.value ∙ given.2.waits)) (all_within given.0 (vec_len c.args.databases.now) given.1 given.2.are))

pub returns-clause-served : goal.returns-clause-served
returns-clause-served g c =
    let given = c.give_all.ensures.given in
    let databases = c.args.databases.now in
    let after = c.run_all.new.databases in
    let parts = c.args.self.now.parts in
    let afters = c.run_all.new.parts in (
      given.0,
      given.1,
      λ sessions items gathers used.
          let count = sym (c.run_all.ensures.parts ∙ parts.ok.0 ∙ gathers.count) in
          given.2 sessions (states_of databases.items) (states_of after.items) items (c.as_slice.ensures.value ∙ gathers.waits) (subst (λ (n : ℕ). AllByRecursion (IsItem sessions n) items) count gathers.are)
          (runs_all g.S.Store databases.items after.items parts.items afters.items items (sym after.ok.0 ∙ c.run_all.ensures.len ∙ databases.ok.0) (gathers.count ∙ databases.ok.0)
          (sym afters.ok.0 ∙ c.run_all.ensures.parts ∙ parts.ok.0) gathers.asked c.run_all.ensures.ran used),
    )

pub returns-clause-empty : goal.returns-clause-empty
returns-clause-empty g c = λ sessions.
    let gathers = c.requires.gathered.2 in
    let databases = c.args.databases.now in
    let after = c.run_all.new.databases in
    let parts = c.args.self.now.parts in
    let afters = c.run_all.new.parts in
    let left = c.give_all.new.parts in
    gathers_none sessions (vec_len after) c.clear.new.self.items left.items c.clear.ensures.items
    (sym left.ok.0 ∙ c.give_all.ensures.parts ∙ c.run_all.ensures.parts ∙ parts.ok.0 ∙ gathers.count ∙ sym c.run_all.ensures.len)
    (c.give_all.ensures.asked [] (emptied g.S.Store databases.items after.items parts.items afters.items (sym after.ok.0 ∙ c.run_all.ensures.len ∙ databases.ok.0) (gathers.count ∙ databases.ok.0)
    (sym afters.ok.0 ∙ c.run_all.ensures.parts ∙ parts.ok.0) c.run_all.ensures.ran))

pub returns-clause-ran : goal.returns-clause-ran
returns-clause-ran g c =
    let gave = c.give_all.ensures.gave in
    let databases = c.args.databases.now in
    let after = c.run_all.new.databases in
    let parts = c.args.self.now.parts in
    let afters = c.run_all.new.parts in
    let lefts = c.give_all.new.parts in
    let news : length after.items ≡ length databases.items = sym after.ok.0 ∙ c.run_all.ensures.len ∙ databases.ok.0 in
    let same : length afters.items ≡ length parts.items = sym afters.ok.0 ∙ c.run_all.ensures.parts ∙ parts.ok.0 in (
      gave.0,
      gave.1,
      λ sessions items gathers.
          let parted : length parts.items ≡ length databases.items = gathers.count ∙ databases.ok.0 in
          let count = sym (c.run_all.ensures.parts ∙ parts.ok.0 ∙ gathers.count) in
          let ready = ready_all g.S.Store databases.items after.items parts.items afters.items items news parted same gathers.asked c.run_all.ensures.ran in
          let all = gave.2 sessions items (c.as_slice.ensures.value ∙ gathers.waits) (subst (λ (n : ℕ). AllByRecursion (IsItem sessions n) items) count gathers.are) ready in
          batch_ran g.S.Store sessions (vec_len afters) databases.items after.items parts.items afters.items lefts.items items gave.0
          (c.run_all.ensures.parts ∙ parts.ok.0 ∙ parted) parted same gathers.asked c.run_all.ensures.ran all,
    )
