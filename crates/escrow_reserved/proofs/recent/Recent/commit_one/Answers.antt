use Rattle.std.specs.Prelude.{◌≡◌, ◌≤◌, ℕ, ℤ, List, [], ◌∷◌, Some, false, option_map}
use Rattle.std.proofs.Common.{ap, subst, sym, ◌∙◌}
use Rattle.indexmap.specs.IndexMap.{with_value_at}
use Rattle.indexmap.proofs.CallerLemmas.{index_map_len-with_value_at}
use Rattle.escrow_num.specs.declared.value.RowName.{RowName}
use Rattle.escrow_num.specs.Order.{same_row}
use Rattle.escrow_reserved.specs.declared.recent.TheConstants.Recent.{MAX_ROWS}
use Rattle.escrow_reserved.specs.Read.{ReadRows, committed_to, read_at}
use Rattle.escrow_reserved.proofs.Reading.{before_at, changed_at, named_at, others_at}
use Rattle.escrow_reserved.proofs.recent.Recent.commit_one.Goals as goal
use Rattle.escrow_reserved.proofs.recent.Recent.commit_one.Goals.{After-commit}

pub invariant_of-self : goal.invariant_of-self
invariant_of-self c = subst (λ (n : ℕ). n ≤ MAX_ROWS) (sym (index_map_len-with_value_at c.self.inside.rows c.in-Some.place c.commit.new.self)) c.self.invariant

-- the row at the index is that of the reservation
its_row : (c : After-commit) → c.pair_mut-amounts.result.0.now ≡ c.args.r.now.row
its_row c =
    let entry = c.pair_mut-amounts in
    named_at c.self.inside.rows.entries c.args.r.now.row entry.result.0.now entry.result.1.now c.in-Some.place (rw (← c.self.view_is) at c.in-Some.ensures.at) entry.ensures.value

pub returns-in-Some-clause-own : goal.returns-in-Some-clause-own
returns-in-Some-clause-own c =
    let entry = c.pair_mut-amounts in
    let rows = c.self.inside.rows in
    let after : ReadRows = (with_value_at rows c.in-Some.place c.commit.new.self).entries in
    let commit : List ℤ → List ℤ = committed_to c.args.r.now.row (c.args.r.now ∷ []) in
    let is = its_row (goal.at.returns-in-Some-clause-own c).After-commit in
    rw (← c.self.view_is)
    (subst (λ (row : RowName). read_at after row ≡ option_map commit (read_at rows.entries row)) is
    (changed_at rows c.in-Some.place entry.result.0.now entry.result.1.now c.commit.new.self entry.ensures.unique entry.ensures.value
    ∙ ap Some c.commit.ensures
    ∙ sym (ap (option_map commit) (before_at rows c.in-Some.place entry.result.0.now entry.result.1.now c.commit.new.self entry.ensures.unique entry.ensures.value))))

pub returns-in-Some-clause-others : goal.returns-in-Some-clause-others
returns-in-Some-clause-others c =
    let entry = c.pair_mut-amounts in
    let rows = c.self.inside.rows in
    let after : ReadRows = (with_value_at rows c.in-Some.place c.commit.new.self).entries in
    let is = its_row (goal.at.returns-in-Some-clause-others c).After-commit in
    rw (← c.self.view_is)
    (subst (λ (row : RowName). (other : RowName) → same_row row other ≡ false → read_at after other ≡ read_at rows.entries other) is
    (others_at rows c.in-Some.place entry.result.0.now entry.result.1.now c.commit.new.self entry.ensures.unique entry.ensures.value))
