use Rattle.escrow_num.proofs.ReadBack.{before-whole, last-digits, last-length, parts-spelled}
use Rattle.escrow_num.proofs.laws.parts_are_digits.Goals as goal

pub returns : goal.returns
returns c = record {
  whole = before-whole;
  behind = last-digits;
  as_many = last-length;
  spelled = parts-spelled;
}
