use Rattle.std.proofs.Common.{◌≤◌, ◌∙◌, length, sym, subst, arith}
use Rattle.escrow_bounds.specs.Altered.{TableGoes, IsWithout}
use Rattle.escrow_bounds.specs.Bounds.{Bounds}
use Rattle.escrow_bounds.proofs.Altering.{EntryStep, entry_stepped, table_stepped, length-set_value_at}
use Rattle.escrow_bounds.proofs.Steps.{stepped_first, stepped_last}
use Rattle.escrow_bounds.proofs.bounds.Bounds.drop_check.Goals as goal

pub loop-i-init : goal.loop-i-init
loop-i-init c = record {
  stepped = stepped_first (EntryStep c.args.table c.args.index) c.self.inside.places.entries;
  all = sym c.len-i-end.ensures.len;
}

pub loop-i-preserved : goal.loop-i-preserved
loop-i-preserved c =
    let now = c.loop-i.self-inside.places.entries in
    let i = c.loop-i.i in
    record {
      stepped = entry_stepped c.args.table c.args.index i c.self.inside.places.entries now c.pair_mut-place.result.0.now c.pair_mut-place.result.1.now c.drop_check_of.new.place
          c.loop-i.invariant.stepped c.pair_mut-place.ensures.value c.drop_check_of.ensures.own c.drop_check_of.ensures.others;
      all = length-set_value_at now i c.drop_check_of.new.place ∙ c.loop-i.invariant.all;
    }

pub returns : goal.returns
returns c =
    let old = c.self.inside.places.entries in
    let new = c.loop-i.self-inside.places.entries in
    let past : length new ≤ c.loop-i.i = omega (arith, c.loop-i.invariant.all, c.loop-i-test.false) in
    subst (λ (places : Bounds). TableGoes c.args.table (λ row. IsWithout c.args.index) places new) c.self.view_is
    (table_stepped c.args.table c.args.index old new (stepped_last (EntryStep c.args.table c.args.index) c.loop-i.i old new past c.loop-i.invariant.stepped))
