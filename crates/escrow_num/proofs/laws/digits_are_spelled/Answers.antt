use Rattle.escrow_num.proofs.ReadBack.{amount-spelled, digits-pointed, digits-whole}
use Rattle.escrow_num.proofs.laws.digits_are_spelled.Goals as goal

pub returns : goal.returns
returns c = record {
  whole = digits-whole;
  pointed = digits-pointed;
  amounts = amount-spelled;
}
